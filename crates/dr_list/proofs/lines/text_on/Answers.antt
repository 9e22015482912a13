use Rattle.std.proofs.Common.{ap, sym, ◌∙◌, ◌+◌, ◌-◌, ◌++◌, append_assoc, arith, take, drop}
use Rattle.std.proofs.lemmas.List.{take_rest}
use Rattle.std.specs.Prelude.{slice_get}
use Rattle.std.specs.List.{fold}
use Rattle.dr_model.specs.Text.{heard, text_from}
use Rattle.dr_list.specs.At.{line_told, heard_at}
use Rattle.dr_list.specs.Seen.{heard_seen}
use Rattle.dr_list.proofs.TextLemmas.{text-event, heard-last}
use Rattle.dr_list.proofs.lines.text_on.Goals as goal

pub loop-i-preserved : goal.loop-i-preserved
loop-i-preserved c =
    let es = c.args.journal.now.events in
    let i = c.loop-i.i in
    let told = heard_seen c.loop-i.told in
    let line = line_told told (slice_get es i) in
    let rest = text_from (heard_at told (slice_get es i)) (drop (i + 1) es) in
    record {
      text = ap (λ t. c.print_at.new.out.items ++ text_from t (drop (i + 1) es)) c.print_at.ensures.told ∙ ap (λ xs. xs ++ rest) c.in-Ok.ensures.line
          ∙ append_assoc c.loop-i.out.items line rest ∙ ap (λ xs. c.loop-i.out.items ++ xs) (sym (text-event es i told)) ∙ c.loop-i.invariant.text;
      told = ap (λ t. fold heard t (drop (i + 1) es)) c.print_at.ensures.told ∙ sym (heard-last es i told (omega arith)) ∙ c.loop-i.invariant.told;
    }

pub returns-in_default-clause-told : goal.returns-in_default-clause-told
returns-in_default-clause-told c =
    let es = c.args.journal.now.events in
    let i = c.loop-i.i in
    let after = heard_seen c.print_at.new.told in
    c.hear_between.ensures
    ∙ ap (λ n. fold heard after (take (n - (i + 1)) (drop (i + 1) es))) c.len.ensures
    ∙ ap (fold heard after) (take_rest es (i + 1))
    ∙ ap (λ t. fold heard t (drop (i + 1) es)) c.print_at.ensures.told
    ∙ sym (heard-last es i (heard_seen c.loop-i.told) (omega arith))
    ∙ c.loop-i.invariant.told
