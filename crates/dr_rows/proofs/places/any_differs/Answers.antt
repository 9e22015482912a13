use Rattle.std.proofs.Common.{◌∙◌, ap, sym}
use Rattle.std.specs.List.{list_any}
use Rattle.std.proofs.lemmas.List.{take_all}
use Rattle.std.proofs.lemmas.List.Folds.{list_any_at}
use Rattle.dr_rows.specs.Places.{differs}
use Rattle.dr_rows.proofs.StepLemmas.{none-further}
use Rattle.dr_rows.proofs.places.any_differs.Goals as goal

pub loop-row-preserved : goal.loop-row-preserved
loop-row-preserved c =
    none-further (differs c.args.asks c.args.which c.args.first.now) c.args.more.now c.loop-row.row-index c.row-item.result c.loop-row-test.true c.row-item.is
    (sym c.in_ok-is_other.ensures ∙ c.if-is_other.false) c.loop-row.invariant

pub returns-then-is_other : goal.returns-then-is_other
returns-then-is_other c =
    sym (list_any_at (differs c.args.asks c.args.which c.args.first.now) c.args.more.now c.loop-row.row-index c.row-item.result c.loop-row-test.true
    (ap (differs c.args.asks c.args.which c.args.first.now) (sym c.row-item.is) ∙ (sym c.in_ok-is_other.ensures ∙ c.if-is_other.true)))

pub returns : goal.returns
returns c =
    sym (ap (list_any (differs c.args.asks c.args.which c.args.first.now)) (sym (take_all c.loop-row.row-index c.args.more.now c.loop-row-test.false)) ∙ c.loop-row.invariant)
