use Rattle.std.proofs.Common.{◌≡◌, ◌+◌, [], get_or, arith, sym, ◌∙◌, ap, subst}
use Rattle.std.specs.List.{between}
use Rattle.std.proofs.lemmas.List.Edits.{get_or-between}
use Rattle.dr_model.specs.Layout as layout
use Rattle.dr_model.specs.Lawful.{IsLawful}
use Rattle.dr_volume.specs.Plain.{plain, normal}
use Rattle.dr_volume.specs.Record.{listed, raw_of}
use Rattle.dr_volume.proofs.LawfulLaws.{lawful-normal}
use Rattle.dr_volume.proofs.RecordLaws.{plain-normal, staged-normal, staged_bytes-normal}
use Rattle.dr_volume.proofs.RewriteLaws.{raw-same}
use Rattle.dr_volume.proofs.blocks.from_blocks.Goals as goal

pub returns : goal.returns
returns c =
    let blocks = c.args.blocks.now in
    let begin = c.slot_begin-begin.result in
    let same : raw_of (listed (between begin (begin + 6) blocks)) ≡ raw_of (layout.chosen (listed blocks)) =
    raw-same (listed (between begin (begin + 6) blocks)) (layout.chosen (listed blocks)) (λ k low.
    get_or-between blocks begin (begin + 6) k [] (omega arith) ∙ ap (λ q. get_or blocks (q + k) []) c.slot_begin-begin.ensures) in
    let is : c.fields_in.result ≡ normal c.args.tracks (raw_of (layout.chosen (listed c.args.blocks.now))) = c.fields_in.ensures ∙ ap (λ f. normal c.args.tracks f) same in
    record {
      fields = ap (λ f. plain f) is ∙ plain-normal c.args.tracks (layout.chosen (listed c.args.blocks.now)) c.requires.few;
      staged = ap (λ f. f.staged) is ∙ staged-normal c.args.tracks (layout.chosen (listed c.args.blocks.now));
      staged_bytes = ap (λ f. f.staged_bytes) is ∙ staged_bytes-normal c.args.tracks (layout.chosen (listed c.args.blocks.now));
      lawful = subst (λ f. IsLawful c.args.tracks (plain f)) (sym is) (lawful-normal c.args.tracks (raw_of (layout.chosen (listed c.args.blocks.now))));
    }
