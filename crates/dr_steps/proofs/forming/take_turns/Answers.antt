use Rattle.std.proofs.Common.{suc, ◌≡◌, ◌+◌, ◌∙◌, ap, sym, subst, arith, false, Some, None}
use Rattle.dr_ids.specs.declared.refusal.Refusal.TheVariants.{OutOfOrder}
use Rattle.dr_model.specs.Forming.{turns, most_turns, ask, phase_in, has_committed, still_left}
use Rattle.dr_model.specs.Sessions.{session_in, members_in}
use Rattle.dr_flash.proofs.CheckLemmas.{same-test, differ-test}
use Rattle.dr_steps.specs.Formed.{Reaches}
use Rattle.dr_steps.specs.Here.{here}
use Rattle.dr_steps.proofs.LandLemmas.{refused-by}
use Rattle.dr_steps.proofs.FormingLemmas.{reaches-same, turns-over, turns-spent, turns-idle, turns-refused, turns-on, left-more, asked-known}
use Rattle.dr_steps.proofs.forming.take_turns.Goals as goal

pub returns-then-left-eq0-clause-way : goal.returns-then-left-eq0-clause-way
returns-then-left-eq0-clause-way g c =
    let x = here (g.P.Plant.state c.loop.plant) c.args.config.now c.loop.tables c.loop.journal.events in
    let k = left-more c.loop.counter (most_turns c.args.groups) (let lt = c.loop-test.true in omega (arith, lt)) in
    c.loop.invariant.way (suc k.0) x None k.1 (turns-over (suc k.0) x c.args.s.0 c.loop.left c.loop.committed (same-test c.loop.left 0 c.if-left-eq0.true))

pub returns-in_default-clause-way : goal.returns-in_default-clause-way
returns-in_default-clause-way g c =
    let w = here (g.P.Plant.state c.args.plant.now) c.args.config.now c.args.tables.now c.args.journal.now.events in
    let x = here (g.P.Plant.state c.loop.plant) c.args.config.now c.loop.tables c.loop.journal.events in
    let k = left-more c.loop.counter (most_turns c.args.groups) (let lt = c.loop-test.true in omega (arith, lt)) in
    subst (λ p. Reaches (turns (most_turns c.args.groups) w c.args.s.0 c.args.groups false) x (Some (OutOfOrder p))) (sym c.phase_in-before.ensures)
    (c.loop.invariant.way (suc k.0) x (Some (OutOfOrder (phase_in x.control c.args.s.0))) k.1 (turns-idle k.0 x c.args.s.0 c.loop.left c.loop.committed (differ-test c.loop.left 0 c.if-left-eq0.false) (sym c.in_default.ensures.next)))

pub ask-requires-clause-known : goal.ask-requires-clause-known
ask-requires-clause-known g c = asked-known (g.P.Plant.state c.loop.plant) c.args.config.now c.loop.tables c.loop.journal.events c.args.s.0 c.loop.invariant.sound c.in-Some.server.0 (sym c.in-Some.ensures.next)

pub returns-in_err-ask-clause-way : goal.returns-in_err-ask-clause-way
returns-in_err-ask-clause-way g c =
    let t = c.args.config.now in let e = c.in_err-ask.field-0.0 in let n = c.args.s.0 in
    let w = here (g.P.Plant.state c.args.plant.now) t c.args.tables.now c.args.journal.now.events in
    let x = here (g.P.Plant.state c.loop.plant) t c.loop.tables c.loop.journal.events in
    let v = here (g.P.Plant.state c.ask.new.plant) t c.ask.new.tables c.ask.new.journal.events in
    let k = left-more c.loop.counter (most_turns c.args.groups) (let lt = c.loop-test.true in omega (arith, lt)) in
    subst (Reaches (turns (most_turns c.args.groups) w n c.args.groups false) v) (sym (refused-by c.from_residual.result e c.from_residual.ensures.0 c.from_residual.ensures.1))
    (c.loop.invariant.way (suc k.0) v (Some e) k.1 (turns-refused k.0 x n c.loop.left c.loop.committed (differ-test c.loop.left 0 c.if-left-eq0.false) c.in-Some.server.0 (sym c.in-Some.ensures.next) v e
    (subst (λ p. Reaches (ask x n p (members_in (session_in c.loop.tables.sessions.sessions n)) c.in-Some.server.0) v (Some e)) c.phase_in-before.ensures c.in_err-ask.ensures.way)))

pub loop-preserved : goal.loop-preserved
loop-preserved g c =
    let t = c.args.config.now in let n = c.args.s.0 in
    let x = here (g.P.Plant.state c.loop.plant) t c.loop.tables c.loop.journal.events in
    let v = here (g.P.Plant.state c.ask.new.plant) t c.ask.new.tables c.ask.new.journal.events in
    record {
      way = λ k u r sum more.
          let all : suc k + c.loop.counter ≡ most_turns c.args.groups = (let same : suc k + c.loop.counter ≡ k + (c.loop.counter + 1) = omega arith in same) ∙ sum in
          let left : c.still_left-left.result ≡ still_left c.loop.committed (phase_in v.control n) c.loop.left = c.still_left-left.ensures ∙ ap (λ p. still_left c.loop.committed p c.loop.left) c.phase_in-after.ensures in
          let committed : c.has_committed-committed.result ≡ has_committed c.loop.committed (phase_in x.control n) (phase_in v.control n) = c.has_committed-committed.ensures ∙ (λ i. has_committed c.loop.committed (c.phase_in-before.ensures i) (c.phase_in-after.ensures i)) in
          c.loop.invariant.way (suc k) u r all (turns-on k x n c.loop.left c.loop.committed (differ-test c.loop.left 0 c.if-left-eq0.false) c.in-Some.server.0 (sym c.in-Some.ensures.next) v u r
          (subst (λ p. Reaches (ask x n p (members_in (session_in c.loop.tables.sessions.sessions n)) c.in-Some.server.0) v None) c.phase_in-before.ensures c.in_ok-ask.ensures.way)
          (reaches-same (turns k v n (still_left c.loop.committed (phase_in v.control n) c.loop.left) (has_committed c.loop.committed (phase_in x.control n) (phase_in v.control n))) (turns k v n c.still_left-left.result c.has_committed-committed.result) u r (λ i. turns k v n (sym left i) (sym committed i)) more));
      ready = c.in_ok-ask.ensures.ready;
      sound = c.in_ok-ask.ensures.sound;
      counted = c.in_ok-ask.ensures.counted;
      host = c.in_ok-ask.ensures.host ∙ c.loop.invariant.host;
      room = c.in_ok-ask.ensures.room ∙ c.loop.invariant.room;
      spare = c.in_ok-ask.ensures.spare;
      faults = c.in_ok-ask.ensures.faults ∙ c.loop.invariant.faults;
    }

pub returns-clause-way : goal.returns-clause-way
returns-clause-way g c =
    let n = c.args.s.0 in
    let w = here (g.P.Plant.state c.args.plant.now) c.args.config.now c.args.tables.now c.args.journal.now.events in
    let x = here (g.P.Plant.state c.loop.plant) c.args.config.now c.loop.tables c.loop.journal.events in
    subst (Reaches (turns (most_turns c.args.groups) w n c.args.groups false) x) (sym c.ran_out.ensures)
    (c.loop.invariant.way 0 x _ (let ge = c.loop-test.false in let most = c.loop.auto.counter-end in omega (arith, ge, most)) (turns-spent x n c.loop.left c.loop.committed))
