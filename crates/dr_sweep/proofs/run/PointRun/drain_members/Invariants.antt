use Rattle.std.proofs.Common.{true, take}
use Rattle.dr_model.specs.Forming.{drains}
use Rattle.dr_sweep.specs.Apart.{AddsParts}
use Rattle.dr_sweep.specs.Comes.{IsRun}
use Rattle.dr_sweep.specs.Seen.{run_seen}
use Rattle.dr_sweep.proofs.run.PointRun.drain_members.Given as goal

abbrev pub invariant-loop-member : goal.invariant-loop-member
invariant-loop-member l = record {
  stays : IsRun (run_seen l.self);
  adds : AddsParts (run_seen l.fn.self) (run_seen l.self) l.s.0 l.fn.parts.items l.parts.items (λ v. drains v (take l.member-index l.members)) true;
}
