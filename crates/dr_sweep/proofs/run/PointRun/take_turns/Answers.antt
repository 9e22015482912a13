use Rattle.std.proofs.Common.{◌∙◌, ◌++◌, arith, ap, false, map, nat_eq, refl, subst, true}
use Rattle.std.proofs.lemmas.Result.{err_from_is_err_and}
use Rattle.dr_model.specs.Forming.{has_committed, still_left}
use Rattle.dr_model.specs.LineText.{step_text}
use Rattle.dr_sweep.specs.Apart.{AddsParts, asked_way}
use Rattle.dr_sweep.specs.Seen.{run_seen}
use Rattle.dr_sweep.proofs.TurnLemmas.{halts-then}
use Rattle.dr_sweep.proofs.WayLemmas.{has-lines-on, not-none, turns-all, turns-asked, turns-begin, turns-counted, turns-ended, turns-on}
use Rattle.dr_sweep.proofs.run.PointRun.take_turns.Goals as goal

pub loop-init : goal.loop-init
loop-init c = record { stays = c.requires.run; turned = turns-begin (run_seen c.args.self.now) c.args.s.0 c.args.groups c.args.parts.now.items }

pub returns-then-left-eq0-clause-adds : goal.returns-then-left-eq0-clause-adds
returns-then-left-eq0-clause-adds c =
    turns-counted (run_seen c.args.self.now) (run_seen c.loop.self) c.args.s.0 c.args.groups c.args.parts.now.items c.loop.parts.items c.loop.counter c.loop.left c.loop.committed c.loop.invariant.turned
    (let lt = c.loop-test.true in omega (arith, lt)) (ap (λ n. nat_eq n 0) c.if-left-eq0.true)

pub asked_next-requires-clause-lines : goal.asked_next-requires-clause-lines
asked_next-requires-clause-lines c =
    has-lines-on (run_seen c.args.self.now) (run_seen c.loop.self) c.args.s.0 c.args.groups c.args.parts.now.items c.loop.parts.items c.loop.counter c.loop.left c.loop.committed c.loop.invariant.turned c.requires.lines

pub returns-in_default-clause-adds : goal.returns-in_default-clause-adds
returns-in_default-clause-adds c =
    turns-asked (run_seen c.args.self.now) (run_seen c.loop.self) c.args.s.0 c.args.groups c.args.parts.now.items c.loop.parts.items c.loop.counter c.loop.left c.loop.committed c.loop.invariant.turned
    (let lt = c.loop-test.true in omega (arith, lt)) (c.in_default.ensures.none refl)

pub returns-in_err-on-clause-fails : goal.returns-in_err-on-clause-fails
returns-in_err-on-clause-fails c =
    let out = err_from_is_err_and c.from_residual.result c.from_residual.ensures.1 in
    rw (out.1, out.2) (λ began ls done ran.
    (let a = c.loop.invariant.turned began ls done ran in
    halts-then began ls done c.args.s.0 (run_seen c.loop.self) c.args.parts.now.items c.loop.parts.items _ a (run_seen c.ask.new.self) c.in_err-on.field-0.0
    (c.in_err-on.ensures.fails began (ls ++ map step_text a.steps) (done ++ a.tasks) a.ran)))

pub returns-then-not-on-clause-adds : goal.returns-then-not-on-clause-adds
returns-then-not-on-clause-adds c =
    let now = run_seen c.loop.self in let new = run_seen c.ask.new.self in
    turns-ended (run_seen c.args.self.now) now c.args.s.0 c.args.groups c.args.parts.now.items c.loop.parts.items c.loop.counter c.loop.left c.loop.committed c.loop.invariant.turned c.loop-test.true (not-none c.loop.left c.if-left-eq0.false)
    c.in-Some.asked.server.0 c.in-Some.ensures.next.next new c.ask.new.parts.items
    (subst (λ p. AddsParts now new c.args.s.0 c.loop.parts.items c.ask.new.parts.items (asked_way c.args.s.0 c.in-Some.asked.server.0 p) false) c.phase_of-before.ensures
    (subst (AddsParts now new c.args.s.0 c.loop.parts.items c.ask.new.parts.items (asked_way c.args.s.0 c.in-Some.asked.server.0 c.phase_of-before.result)) c.if-not-on.true c.in_ok-on.ensures.adds))

pub loop-preserved : goal.loop-preserved
loop-preserved c =
    let now = run_seen c.loop.self in let new = run_seen c.ask.new.self in
    record {
      stays = c.in_ok-on.ensures.stays;
      turned =
          turns-on (run_seen c.args.self.now) now c.args.s.0 c.args.groups c.args.parts.now.items c.loop.parts.items c.loop.counter c.loop.left c.loop.committed c.loop.invariant.turned c.loop-test.true (not-none c.loop.left c.if-left-eq0.false)
          c.in-Some.asked.server.0 c.in-Some.ensures.next.next new c.ask.new.parts.items c.still_left-left.result c.has_committed-committed.result
          (c.still_left-left.ensures ∙ ap (λ p. still_left c.loop.committed p c.loop.left) c.phase_of-after.ensures) (c.has_committed-committed.ensures ∙ (λ i. has_committed c.loop.committed (c.phase_of-before.ensures i) (c.phase_of-after.ensures i)))
          (subst (λ p. AddsParts now new c.args.s.0 c.loop.parts.items c.ask.new.parts.items (asked_way c.args.s.0 c.in-Some.asked.server.0 p) true) c.phase_of-before.ensures
          (subst (AddsParts now new c.args.s.0 c.loop.parts.items c.ask.new.parts.items (asked_way c.args.s.0 c.in-Some.asked.server.0 c.phase_of-before.result)) c.if-not-on.false c.in_ok-on.ensures.adds));
    }

pub returns-clause-adds : goal.returns-clause-adds
returns-clause-adds c =
    turns-all (run_seen c.args.self.now) (run_seen c.loop.self) c.args.s.0 c.args.groups c.args.parts.now.items c.loop.parts.items c.loop.counter c.loop.left c.loop.committed c.loop.invariant.turned
    (let ge = c.loop-test.false in let most = c.loop.auto.counter-end in omega (arith, ge, most))
