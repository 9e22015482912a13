use Rattle.std.proofs.Common.{◌++◌, get_or, map, subst, true, List}
use Rattle.std.proofs.lemmas.List.{take_all}
use Rattle.std.proofs.lemmas.Result.{err_from_is_err_and}
use Rattle.dr_ids.specs.declared.names.Member.{Member}
use Rattle.dr_model.specs.Forming.{drains}
use Rattle.dr_model.specs.LineText.{step_text}
use Rattle.dr_sweep.specs.Apart.{AddsParts, drained_by}
use Rattle.dr_sweep.specs.Seen.{run_seen}
use Rattle.dr_sweep.proofs.TurnLemmas.{halts-then}
use Rattle.dr_sweep.proofs.WayLemmas.{drains-begin, drains-ended, drains-on, some_member}
use Rattle.dr_sweep.proofs.run.PointRun.drain_members.Goals as goal

pub loop-member-init : goal.loop-member-init
loop-member-init c = record { stays = c.requires; adds = drains-begin (run_seen c.args.self.now) c.args.s.0 c.args.parts.now.items c.args.members.now }

pub returns-in_err-on-clause-fails : goal.returns-in_err-on-clause-fails
returns-in_err-on-clause-fails c =
    let out = err_from_is_err_and c.from_residual.result c.from_residual.ensures.1 in
    rw (out.1, out.2) (λ began ls done ran.
    (let a = c.loop-member.invariant.adds began ls done ran in
    halts-then began ls done c.args.s.0 (run_seen c.loop-member.self) c.args.parts.now.items c.loop-member.parts.items _ a (run_seen c.drain_member.new.self) c.in_err-on.field-0.0
    (c.in_err-on.ensures.fails began (ls ++ map step_text a.steps) (done ++ a.tasks) a.ran)))

pub returns-then-not-on-clause-adds : goal.returns-then-not-on-clause-adds
returns-then-not-on-clause-adds c =
    let second = subst (AddsParts (run_seen c.loop-member.self) (run_seen c.drain_member.new.self) c.args.s.0 c.loop-member.parts.items c.drain_member.new.parts.items (drained_by (get_or c.args.members.now c.loop-member.member-index some_member))) c.if-not-on.true c.in_ok-on.ensures.adds in
    drains-ended (run_seen c.args.self.now) (run_seen c.loop-member.self) (run_seen c.drain_member.new.self) c.args.s.0 c.args.parts.now.items c.loop-member.parts.items c.drain_member.new.parts.items c.args.members.now c.loop-member.member-index some_member
    c.loop-member-test.true c.loop-member.invariant.adds second

pub loop-member-preserved : goal.loop-member-preserved
loop-member-preserved c = record {
  stays = c.in_ok-on.ensures.stays;
  adds =
      (let second = subst (AddsParts (run_seen c.loop-member.self) (run_seen c.drain_member.new.self) c.args.s.0 c.loop-member.parts.items c.drain_member.new.parts.items (drained_by (get_or c.args.members.now c.loop-member.member-index some_member))) c.if-not-on.false c.in_ok-on.ensures.adds in
      drains-on (run_seen c.args.self.now) (run_seen c.loop-member.self) (run_seen c.drain_member.new.self) c.args.s.0 c.args.parts.now.items c.loop-member.parts.items c.drain_member.new.parts.items c.args.members.now c.loop-member.member-index some_member
      c.loop-member-test.true true c.loop-member.invariant.adds second);
}

pub returns-clause-adds : goal.returns-clause-adds
returns-clause-adds c =
    subst (λ (ms : List Member). AddsParts (run_seen c.args.self.now) (run_seen c.loop-member.self) c.args.s.0 c.args.parts.now.items c.loop-member.parts.items (λ v. drains v ms) true) (take_all c.loop-member.member-index c.args.members.now c.loop-member-test.false)
    c.loop-member.invariant.adds
