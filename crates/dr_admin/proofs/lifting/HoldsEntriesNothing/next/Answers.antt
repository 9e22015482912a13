use Rattle.std.proofs.Common.{ℕ, ◌≡◌, ◌<◌, ◌≤◌, ◌+◌, min, ◌∷◌, get_or, length, arith, ap, sym, subst, ◌∙◌, Option, Some, option_map}
use Rattle.std.specs.Prelude.{IfSome, is_some}
use Rattle.dr_ids.specs.declared.names.VolumeId.{VolumeId}
use Rattle.dr_ids.specs.declared.refusal.Refusal.{Refusal}
use Rattle.dr_model.specs.Refusals.{stopped}
use Rattle.dr_config.specs.Table.{ConfigTable, place_of}
use Rattle.dr_model.specs.RecoveryPlans.{pass_on}
use Rattle.dr_moves.specs.Coming.{next_of, MayCome, RefusedAs, cost_of}
use Rattle.dr_moves.specs.Here.{world_seen}
use Rattle.dr_moves.specs.declared.carrying.Next.{Next}
use Rattle.dr_moves.proofs.ActedLemmas.{most-few}
use Rattle.dr_moves.proofs.WentLemmas.{went-on}
use Rattle.dr_flash.proofs.CopyLemmas.{volume-there}
use Rattle.dr_admin.specs.Starting.{lift_from}
use Rattle.dr_admin.proofs.LiftLemmas.{lift-first, lift-count, lift-comes, lift-may, lift-refused, lift-few}
use Rattle.dr_admin.proofs.lifting.HoldsEntriesNothing.next.Goals as goal

there : (t : ConfigTable) (server place : ℕ) → 0 < length (lift_from t server place) → place < length t.volumes
there t server place some = let e = lift-count t server place in omega (arith, e, some)

behind : (place n all next : ℕ) → all ≡ n → place < n → next ≡ min all (place + 1) → next ≡ place + 1
behind place n all next e low is = omega (arith, e, low, is)

pub unwrap-v-requires : goal.unwrap-v-requires
unwrap-v-requires g c =
    let x = c.args.self.now in
    let t = c.args.config.now in
    volume-there t x.place c.volume_at.result c.volume_at.ensures.value (there t x.s.0 x.place c.requires.some)

pub lift_next-requires-clause-defined : goal.lift_next-requires-clause-defined
lift_next-requires-clause-defined g c =
    ap is_some (subst (λ o. IfSome o (λ v. place_of c.args.config.now v.0 ≡ Some c.args.self.now.place)) c.unwrap-v.ensures c.volume_at.ensures.place)

pub returns-clause-goes : goal.returns-clause-goes
returns-clause-goes g c =
    let x = c.args.self.now in
    let t = c.args.config.now in
    let first = lift-first t c.unwrap-v.result.0 x.s.0 x.place (sym (ap (option_map (λ (v : VolumeId). v.0)) c.unwrap-v.ensures) ∙ c.volume_at.ensures.value) in
    first
    ∙ (λ i. sym (ap (λ es. get_or es 0 pass_on) first) i ∷ lift_from t x.s.0 (sym (behind x.place (length t.volumes) c.volumes.result c.min-self.result c.volumes.ensures.count (there t x.s.0 x.place c.requires.some) c.min-self.ensures) i))

pub returns-clause-comes : goal.returns-clause-comes
returns-clause-comes g c r events =
    let x = c.args.self.now in
    let t = c.args.config.now in
    let s = g.P.Plant.state c.args.plant.now in
    let k = (world_seen s t r events).control in
    ap (λ es. get_or es 0 pass_on k) (lift-first t c.unwrap-v.result.0 x.s.0 x.place (sym (ap (option_map (λ (v : VolumeId). v.0)) c.unwrap-v.ensures) ∙ c.volume_at.ensures.value))
    ∙ lift-comes s t r events c.unwrap-v.result x.s.0
    ∙ ap next_of (sym c.lift_next.ensures)

pub returns-clause-may : goal.returns-clause-may
returns-clause-may g c =
    let s = g.P.Plant.state c.args.plant.now in
    let t = c.args.config.now in
    let defined = ap is_some (subst (λ o. IfSome o (λ v. place_of t v.0 ≡ Some c.args.self.now.place)) c.unwrap-v.ensures c.volume_at.ensures.place) in
    subst (MayCome s t) (sym c.lift_next.ensures) (lift-may s t c.unwrap-v.result c.args.self.now.s.0 defined c.requires.stands)

pub returns-clause-stands : goal.returns-clause-stands
returns-clause-stands g c u went =
    ap (λ f. f c.args.self.now.s.0) (went-on (g.P.Plant.state c.args.plant.now) u c.args.config.now c.lift_next.result went) ∙ c.requires.stands

pub returns-clause-refused : goal.returns-clause-refused
returns-clause-refused g c =
    let s = g.P.Plant.state c.args.plant.now in
    let t = c.args.config.now in
    let server = c.args.self.now.s.0 in
    let defined = ap is_some (subst (λ o. IfSome o (λ v. place_of t v.0 ≡ Some c.args.self.now.place)) c.unwrap-v.ensures c.volume_at.ensures.place) in
    subst (λ (n : Next). (q : Option Refusal) → RefusedAs s t n q → q ≡ Some (stopped server)) (sym c.lift_next.ensures) (lift-refused s t c.unwrap-v.result server defined c.requires.stands)

pub returns-clause-room : goal.returns-clause-room
returns-clause-room g c =
    let x = c.args.self.now in
    let s = g.P.Plant.state c.args.plant.now in
    let t = c.args.config.now in
    let first = ap length (lift-first t c.unwrap-v.result.0 x.s.0 x.place (sym (ap (option_map (λ (v : VolumeId). v.0)) c.unwrap-v.ensures) ∙ c.volume_at.ensures.value)) in
    let few = lift-few s t c.unwrap-v.result x.s.0 c.lift_next.result c.lift_next.ensures in
    subst (λ n. cost_of c.lift_next.result s t + (length (lift_from t x.s.0 n) + length (lift_from t x.s.0 n)) ≤ length (lift_from t x.s.0 x.place) + length (lift_from t x.s.0 x.place)) (sym (behind x.place (length t.volumes) c.volumes.result c.min-self.result c.volumes.ensures.count (there t x.s.0 x.place c.requires.some) c.min-self.ensures)) (omega (arith, first, few))

pub returns-clause-most : goal.returns-clause-most
returns-clause-most g c = let fewer = returns-clause-room g c in omega (arith, fewer)

pub returns-clause-stop : goal.returns-clause-stop
returns-clause-stop g c =
    let x = c.args.self.now in
    let s = g.P.Plant.state c.args.plant.now in
    let t = c.args.config.now in
    let few = lift-few s t c.unwrap-v.result x.s.0 c.lift_next.result c.lift_next.ensures in
    let some = c.requires.some in
    most-few c.lift_next.result s t (length (lift_from t x.s.0 x.place) + length (lift_from t x.s.0 x.place) + 1) (omega (arith, few, some))
