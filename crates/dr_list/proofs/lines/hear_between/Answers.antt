use Rattle.std.proofs.Common.{ap, sym, ◌∙◌, ◌+◌, ◌-◌, take, drop}
use Rattle.std.specs.List.{fold}
use Rattle.dr_model.specs.Text.{heard}
use Rattle.dr_list.specs.Seen.{heard_seen}
use Rattle.dr_list.proofs.TextLemmas.{heard-event}
use Rattle.dr_list.proofs.lines.hear_between.Goals as goal

pub loop-i-preserved : goal.loop-i-preserved
loop-i-preserved c =
    let es = c.args.journal.now.events in
    let i = c.loop-i.i in
    let left = take (c.args.to - (i + 1)) (drop (i + 1) es) in
    ap (λ told. fold heard told left) c.hear_at.ensures ∙ sym (heard-event es i c.args.to (heard_seen c.loop-i.told) c.loop-i-test.true) ∙ c.loop-i.invariant
