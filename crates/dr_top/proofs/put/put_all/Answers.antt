use Rattle.std.proofs.Common.{◌∙◌, Some, ap, arith, sym, subst}
use Rattle.std.proofs.lemmas.Grind.{common_steps}
use Rattle.dr_logic.specs.Counts.{Rose, Counted}
use Rattle.dr_top.proofs.PutLemmas.{given_none, some-taken, some-left}
use Rattle.dr_top.proofs.put.put_all.Goals as goal
use Rattle.dr_io.proofs.Pieces.{pieces_written}

pub returns-then-taken-eq0-clause-part : goal.returns-then-taken-eq0-clause-part
returns-then-taken-eq0-clause-part g c = (
  c.loop-done.done,
  c.loop-done.invariant.within,
  λ out h.
      c.in_ok-taken.ensures.taken _ (c.loop-done.invariant.gave out h) ∙ ap Some (given_none out c.args.piece.now c.loop-done.done c.in_ok-taken.taken c.if-taken-eq0.true),
)

pub loop-done-preserved : goal.loop-done-preserved
loop-done-preserved g c = record {
  within = (let fits = c.in_ok-taken.ensures.count in grind (arith, common_steps, fits));
  gave = λ out h. c.in_ok-taken.ensures.taken _ (c.loop-done.invariant.gave out h) ∙ ap Some (pieces_written out c.args.piece.now c.loop-done.done c.in_ok-taken.taken);
  count = c.in_ok-taken.ensures.steady (some-taken _ _ c.if-taken-eq0.false) ∙ c.loop-done.invariant.count;
}

pub returns-in_err-taken-clause-faults : goal.returns-in_err-taken-clause-faults
returns-in_err-taken-clause-faults g c =
    subst (λ b. Counted b (g.K.Sink.faults c.args.sink.now) (g.K.Sink.faults c.put.new.self)) (sym c.from_residual.ensures.0)
    (subst (λ n. Rose n (g.K.Sink.faults c.put.new.self)) c.loop-done.invariant.count c.in_err-taken.ensures.rose)

pub returns-then-taken-eq0-clause-faults : goal.returns-then-taken-eq0-clause-faults
returns-then-taken-eq0-clause-faults g c =
    subst (λ n. Rose n (g.K.Sink.faults c.put.new.self)) c.loop-done.invariant.count
    (c.in_ok-taken.ensures.stuck c.if-taken-eq0.true (some-left c.args.piece.now c.loop-done.done c.loop-done-test.true))
