use Rattle.std.proofs.Common.{◌≡◌, true, false, sym, ◌∙◌}
use Rattle.dr_volume.specs.View.{volume_seen}
use Rattle.dr_flash.specs.Heads.{id_at}
use Rattle.dr_flash.specs.Views.{kept_for}
use Rattle.dr_flash.proofs.CopyLemmas.{volume-there}
use Rattle.dr_flash.proofs.HeadLemmas.{kept-head}
use Rattle.dr_flash.proofs.KeepLemmas.{passes-by, kept-nothing}
use Rattle.dr_flash.proofs.keep.keep_at.Goals as goal

pub returns-then-not-is_kept_for : goal.returns-then-not-is_kept_for
returns-then-not-is_kept_for g c =
    let s = g.P.Plant.state c.args.plant.now in
    let t = c.args.config.now in
    let v = c.args.v.0 in
    let q = id_at t c.args.place in
    let none : kept_for v (volume_seen s t q).fields ≡ false = kept-head s t v q c.args.place _ _ false c.requires.place c.peek_relation_at-found.ensures c.is_kept_for.ensures c.if-not-is_kept_for.true in
    record {
      kept_on = kept-nothing s t c.args.journal.now v c.args.t q c.requires.at (λ r. passes-by s t r c.args.journal.now.events v c.args.t q none) (λ is. absurd (let never : true ≡ false = sym is ∙ none in cc));
    }

pub unwrap-u-requires : goal.unwrap-u-requires
unwrap-u-requires g c = volume-there c.args.config.now c.args.place c.volume_at.result c.volume_at.ensures.value c.requires.there
