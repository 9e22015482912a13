use Rattle.std.proofs.Common.{[], ◌∷◌, arith, subst, Some}
use Rattle.dr_ids.specs.declared.refusal.Refusal.{Refusal}
use Rattle.std.specs.Prelude.{◌+◌, Err}
use Rattle.dr_model.specs.SessionEntries.{raise_attempt_on, raise_floor_on}
use Rattle.dr_moves.specs.Checks.{is_stop}
use Rattle.dr_moves.specs.Here.{world_seen, armed_in, refusal_of}
use Rattle.dr_moves.specs.Made.{Kept}
use Rattle.dr_moves.proofs.EntryLemmas.{act-ends}
use Rattle.dr_moves.proofs.KeptLemmas.{wider-armed, kept-then}
use Rattle.dr_moves.proofs.TurnLemmas.{ok-along, err-along}
use Rattle.dr_facts.proofs.Ends.{ends-wider}
use Rattle.dr_gcopy.proofs.TwoMoves.{still-running}
use Rattle.dr_admin.proofs.raising.raise_both.Goals as goal

pub floor_next-floor-requires-clause-running : goal.floor_next-floor-requires-clause-running
floor_next-floor-requires-clause-running g c =
    still-running (g.P.Plant.state c.args.plant.now) (g.P.Plant.state c.act.new.plant) c.args.config.now c.args.m.now.c.0 c.requires.ready.c c.in-Ok.ensures.acted.kept.on c.requires.ready.c_on

pub returns-in-Ok-clause-carried : goal.returns-in-Ok-clause-carried
returns-in-Ok-clause-carried g c r =
    let s = g.P.Plant.state c.args.plant.now in
    let m = g.P.Plant.state c.act.new.plant in
    let u = g.P.Plant.state c.act-in-Ok.new.plant in
    let t = c.args.config.now in
    let last = world_seen u t r c.act-in-Ok.new.journal.events in
    let d = raise_floor_on c.args.m.now.c.0 c.args.n in
    let res = c.act-in-Ok.result in
    c.in-Ok.ensures.acted.advances r (raise_attempt_on c.args.m.now.a.0 c.args.n) (c.attempt_next-attempt.ensures.comes r c.args.journal.now.events) (armed_in s) last (refusal_of res) (d ∷ [])
    (ends-wider (armed_in m) (armed_in s) (wider-armed s m c.in-Ok.ensures.acted.kept.unarmed) last (refusal_of res) (world_seen m t r c.act.new.journal.events) (d ∷ [])
    (act-ends res (armed_in m) (λ r. world_seen m t r c.act.new.journal.events) (λ r. world_seen u t r c.act-in-Ok.new.journal.events) d
    (ok-along res c.act-in-Ok.ensures.acted.advances (λ goes r. goes r d (c.floor_next-floor.ensures.comes r c.act.new.journal.events)))
    (err-along res c.act-in-Ok.ensures.acted.halts c.act-in-Ok.ensures.acted.halts (λ ends _ r. ends r d (c.floor_next-floor.ensures.comes r c.act.new.journal.events))) r))

pub returns-in-Err-clause-carried : goal.returns-in-Err-clause-carried
returns-in-Err-clause-carried g c r =
    c.in-Err.ensures.acted.halts r (raise_attempt_on c.args.m.now.a.0 c.args.n) (c.attempt_next-attempt.ensures.comes r c.args.journal.now.events) (raise_floor_on c.args.m.now.c.0 c.args.n ∷ [])

pub returns-in-Ok-clause-stops : goal.returns-in-Ok-clause-stops
returns-in-Ok-clause-stops g c =
    err-along c.act-in-Ok.result c.act-in-Ok.ensures.acted.refused c.act-in-Ok.ensures.acted.refused (λ is _. c.floor_next-floor.ensures.stops (refusal_of c.act-in-Ok.result) is)

pub returns-in-Err-clause-stops : goal.returns-in-Err-clause-stops
returns-in-Err-clause-stops g c = c.attempt_next-attempt.ensures.stops (Some c.in-Err.why) c.in-Err.ensures.acted.refused

pub returns-in-Ok-clause-kept : goal.returns-in-Ok-clause-kept
returns-in-Ok-clause-kept g c =
    let a = c.attempt_next-attempt.ensures.silent in
    let b = c.floor_next-floor.ensures.silent in
    let first = c.in-Ok.ensures.acted.room_left in
    let second = c.act-in-Ok.ensures.acted.kept.room in
    kept-then (g.P.Plant.state c.args.plant.now) (g.P.Plant.state c.act.new.plant) (g.P.Plant.state c.act-in-Ok.new.plant) c.args.config.now c.args.journal.now c.act.new.journal c.act-in-Ok.new.journal _ _ 1 c.act-in-Ok.result
    c.in-Ok.ensures.acted.kept c.act-in-Ok.ensures.acted.kept (omega (arith, a, b, first, second))

pub returns-in-Err-clause-kept : goal.returns-in-Err-clause-kept
returns-in-Err-clause-kept g c =
    subst (λ n. Kept (g.P.Plant.state c.args.plant.now) (g.P.Plant.state c.act.new.plant) c.args.config.now c.args.journal.now c.act.new.journal (n + 1) (is_stop (Some c.in-Err.why)) {E = Refusal} (Err c.in-Err.why)) c.attempt_next-attempt.ensures.silent c.in-Err.ensures.acted.kept

pub returns-in-Ok-clause-room_left : goal.returns-in-Ok-clause-room_left
returns-in-Ok-clause-room_left g c =
    let a = c.attempt_next-attempt.ensures.silent in
    let b = c.floor_next-floor.ensures.silent in
    let first = c.in-Ok.ensures.acted.room_left in
    ok-along c.act-in-Ok.result c.act-in-Ok.ensures.acted.room_left (λ second. omega (arith, a, b, first, second))
