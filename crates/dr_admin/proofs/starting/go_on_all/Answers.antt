use Rattle.std.proofs.Common.{ℕ, ◌≡◌, ◌<◌, ◌≤◌, ◌+◌, ◌++◌, arith, refl, sym, ap, subst, ◌∙◌, length, Some}
use Rattle.std.specs.Prelude.{Result, Ok, Err}
use Rattle.dr_ids.specs.declared.refusal.Refusal.{Refusal}
use Rattle.dr_model.specs.Log.{Log}
use Rattle.dr_model.specs.ReadStops.{Ends}
use Rattle.dr_moves.specs.Here.{world_seen, armed_in}
use Rattle.dr_moves.proofs.KeptLemmas.{wider-armed}
use Rattle.dr_facts.proofs.Ends.{ends-wider}
use Rattle.dr_moves.specs.Ready.{Stayed}
use Rattle.dr_moves.proofs.ActedLemmas.{err-is}
use Rattle.dr_moves.proofs.TurnLemmas.{refused-by}
use Rattle.dr_admin.specs.Starting.{start_from}
use Rattle.dr_admin.proofs.StartLemmas.{started-all, stayed-then, stayed-same}
use Rattle.dr_admin.proofs.starting.go_on_all.Goals as goal
use Rattle.dr_logic.proofs.Results.{err-always}

-- what a volume's turn wants fits, where one is left
turn-fits : (n end place : ℕ) → end ≡ n → place < end → 3 ≤ n + n + 1
turn-fits n end place e low = omega (arith, e, low)

pub go_on_at-requires-clause-on : goal.go_on_at-requires-clause-on
go_on_at-requires-clause-on g c = ap (λ f. f c.args.s.0) c.loop-place.invariant.stayed.on ∙ c.requires.on

pub go_on_at-requires-clause-room : goal.go_on_at-requires-clause-room
go_on_at-requires-clause-room g c =
    let few = turn-fits (length c.args.config.now.volumes) _ c.loop-place.place c.volumes-place-end.ensures.count c.loop-place-test.true in
    let room = c.requires.room in
    let same = ap (λ (j : Log). j.spare) c.loop-place.invariant.told in
    omega (arith, few, room, same)

pub loop-place-preserved : goal.loop-place-preserved
loop-place-preserved g c =
    let n = length c.args.config.now.volumes in
    record {
      left = λ r armed u q ds more. c.loop-place.invariant.left r armed u q ds (c.in_ok-go_on_at.ensures.goes r armed u q ds more);
      rest = c.in_ok-go_on_at.ensures.rest;
      stayed =
          stayed-then (g.P.Plant.state c.args.plant.now) (g.P.Plant.state c.loop-place.plant) (g.P.Plant.state c.go_on_at.new.plant) c.args.config.now c.args.journal.now c.loop-place.journal c.go_on_at.new.journal c.args.s.0
          (n + n + 1) 3 (n + n + 1) (Ok tt) (turn-fits n _ c.loop-place.place c.volumes-place-end.ensures.count c.loop-place-test.true)
          c.loop-place.invariant.told c.loop-place.invariant.stayed c.in_ok-go_on_at.ensures.stayed;
      told = c.in_ok-go_on_at.ensures.told ∙ c.loop-place.invariant.told;
    }

pub returns-in_err-go_on_at-clause-fails : goal.returns-in_err-go_on_at-clause-fails
returns-in_err-go_on_at-clause-fails g c =
    let s0 = g.P.Plant.state c.args.plant.now in
    let s = g.P.Plant.state c.loop-place.plant in
    let t = c.args.config.now in
    let e = c.in_err-go_on_at.field-0.0 in
    err-always c.from_residual.result (λ r ds.
    let u = world_seen (g.P.Plant.state c.go_on_at.new.plant) t r c.go_on_at.new.journal.events in
    subst (λ q. Ends (armed_in s0) u q (world_seen s0 t r c.args.journal.now.events) (start_from t c.args.s.0 0 ++ ds)) (sym (refused-by c.from_residual.result e c.from_residual.ensures.0 c.from_residual.ensures.1))
    (c.loop-place.invariant.left r (armed_in s0) u (Some e) ds
    (ends-wider (armed_in s) (armed_in s0) (wider-armed s0 s c.loop-place.invariant.stayed.unarmed) u (Some e) _ _ (c.in_err-go_on_at.ensures.fails r ds))))

pub returns-in_err-go_on_at-clause-stayed : goal.returns-in_err-go_on_at-clause-stayed
returns-in_err-go_on_at-clause-stayed g c =
    let n = length c.args.config.now.volumes in
    subst (λ (res : Result (Unit {0}) Refusal). Stayed (g.P.Plant.state c.args.plant.now) (g.P.Plant.state c.go_on_at.new.plant) c.args.config.now c.args.journal.now c.go_on_at.new.journal c.args.s.0 (n + n + 1) res)
    (sym (err-is c.from_residual.result c.in_err-go_on_at.field-0.0 c.from_residual.ensures.0 c.from_residual.ensures.1))
    (stayed-then (g.P.Plant.state c.args.plant.now) (g.P.Plant.state c.loop-place.plant) (g.P.Plant.state c.go_on_at.new.plant) c.args.config.now c.args.journal.now c.loop-place.journal c.go_on_at.new.journal c.args.s.0
    (n + n + 1) 3 (n + n + 1) (Err c.in_err-go_on_at.field-0.0) (turn-fits n _ c.loop-place.place c.volumes-place-end.ensures.count c.loop-place-test.true)
    c.loop-place.invariant.told c.loop-place.invariant.stayed c.in_err-go_on_at.ensures.stayed)

pub loop-place-init : goal.loop-place-init
loop-place-init g c =
    let n = length c.args.config.now.volumes in
    record {
      left = λ r armed u q ds more. more;
      rest = c.requires.rest;
      stayed = stayed-same (g.P.Plant.state c.args.plant.now) c.args.config.now c.args.journal.now c.args.s.0 (n + n + 1) c.requires.rest.stands;
      told = refl;
    }

pub returns-clause-leads : goal.returns-clause-leads
returns-clause-leads g c r armed u q ds more =
    let s = g.P.Plant.state c.loop-place.plant in
    let all : length c.args.config.now.volumes ≤ c.loop-place.place = (let e = c.volumes-place-end.ensures.count in let f = c.loop-place-test.false in omega arith) in
    c.loop-place.invariant.left r armed u q ds (subst (λ es. Ends armed u q (world_seen s c.args.config.now r c.loop-place.journal.events) (es ++ ds)) (sym (started-all c.args.config.now c.args.s.0 c.loop-place.place all)) more)
