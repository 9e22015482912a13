use Rattle.std.proofs.Common.{ℕ, ◌≡◌, ◌<◌, ◌≤◌, ◌+◌, min, ◌∷◌, get_or, length, arith, ap, sym, subst, ◌∙◌, Some, option_map}
use Rattle.std.specs.Prelude.{IfSome, is_some}
use Rattle.dr_ids.specs.declared.names.VolumeId.{VolumeId}
use Rattle.dr_config.specs.Table.{ConfigTable, place_of}
use Rattle.dr_model.specs.RecoveryPlans.{pass_on}
use Rattle.dr_moves.specs.Here.{world_seen}
use Rattle.dr_moves.proofs.ActedLemmas.{goes-stops, most-few}
use Rattle.dr_flash.proofs.CopyLemmas.{volume-there}
use Rattle.dr_moves.specs.Coming.{cost_of}
use Rattle.dr_cgflash.specs.Freeing.{frees_from, HasPassed}
use Rattle.dr_cgflash.proofs.PassLemmas.{frees-next, frees-count, passed-on, passed-cut}
use Rattle.dr_cgflash.proofs.passing.FreesEntriesNothing.next.Goals as goal

there : (t : ConfigTable) (l place : ℕ) → 0 < length (frees_from t l place) → place < length t.volumes
there t l place some = let e = frees-count t l place in omega (arith, e, some)

behind : (place n all next : ℕ) → all ≡ n → place < n → next ≡ min all (place + 1) → next ≡ place + 1
behind place n all next e low is = omega (arith, e, low, is)

pub unwrap-v-requires : goal.unwrap-v-requires
unwrap-v-requires g c =
    let x = c.args.self.now in
    let t = c.args.config.now in
    volume-there t x.place c.volume_at.result c.volume_at.ensures.value (there t x.l.0 x.place c.requires.some)

pub free_next-requires-clause-defined : goal.free_next-requires-clause-defined
free_next-requires-clause-defined g c =
    ap is_some (subst (λ o. IfSome o (λ v. place_of c.args.config.now v.0 ≡ Some c.args.self.now.place)) c.unwrap-v.ensures c.volume_at.ensures.place)

pub returns-clause-goes : goal.returns-clause-goes
returns-clause-goes g c =
    let x = c.args.self.now in
    let t = c.args.config.now in
    let first = frees-next t x.l.0 x.place c.unwrap-v.result.0 (sym (ap (option_map (λ (v : VolumeId). v.0)) c.unwrap-v.ensures) ∙ c.volume_at.ensures.value) in
    first ∙ (λ i. sym (ap (λ es. get_or es 0 pass_on) first) i ∷ frees_from t x.l.0 (sym (behind x.place (length t.volumes) c.volumes.result c.min-self.result c.volumes.ensures.count (there t x.l.0 x.place c.requires.some) c.min-self.ensures) i))

pub returns-clause-comes : goal.returns-clause-comes
returns-clause-comes g c r events =
    let x = c.args.self.now in
    let t = c.args.config.now in
    let k = (world_seen (g.P.Plant.state c.args.plant.now) t r events).control in
    ap (λ es. get_or es 0 pass_on k) (frees-next t x.l.0 x.place c.unwrap-v.result.0 (sym (ap (option_map (λ (v : VolumeId). v.0)) c.unwrap-v.ensures) ∙ c.volume_at.ensures.value))
    ∙ c.free_next.ensures.comes r events

pub returns-clause-goes_on : goal.returns-clause-goes_on
returns-clause-goes_on g c done u w z went more =
    let x = c.args.self.now in
    passed-on (g.P.Plant.state c.args.plant.now) u w c.args.config.now x.l.0 c.unwrap-v.result.0 x.place c.free_next.result
    (subst (λ o. IfSome o (λ v. place_of c.args.config.now v.0 ≡ Some x.place)) c.unwrap-v.ensures c.volume_at.ensures.place) c.free_next.ensures done went
    (subst (HasPassed done u w c.args.config.now x.l.0) (behind x.place (length c.args.config.now.volumes) c.volumes.result c.min-self.result c.volumes.ensures.count (there c.args.config.now x.l.0 x.place c.requires.some) c.min-self.ensures) more)

pub returns-clause-cut : goal.returns-clause-cut
returns-clause-cut g c u counts cut =
    let x = c.args.self.now in
    passed-cut (g.P.Plant.state c.args.plant.now) u u c.args.config.now x.l.0 c.unwrap-v.result.0 x.place c.free_next.result
    (subst (λ o. IfSome o (λ v. place_of c.args.config.now v.0 ≡ Some x.place)) c.unwrap-v.ensures c.volume_at.ensures.place) c.free_next.ensures counts cut

pub returns-clause-refused : goal.returns-clause-refused
returns-clause-refused g c = goes-stops (g.P.Plant.state c.args.plant.now) c.args.config.now c.free_next.result c.free_next.ensures.goes_on

pub returns-clause-room : goal.returns-clause-room
returns-clause-room g c =
    let x = c.args.self.now in
    let t = c.args.config.now in
    let first = ap length (frees-next t x.l.0 x.place c.unwrap-v.result.0 (sym (ap (option_map (λ (v : VolumeId). v.0)) c.unwrap-v.ensures) ∙ c.volume_at.ensures.value)) in
    let few = c.free_next.ensures.few in
    subst (λ n. cost_of c.free_next.result (g.P.Plant.state c.args.plant.now) t + length (frees_from t x.l.0 n) ≤ length (frees_from t x.l.0 x.place)) (sym (behind x.place (length t.volumes) c.volumes.result c.min-self.result c.volumes.ensures.count (there t x.l.0 x.place c.requires.some) c.min-self.ensures)) (omega (arith, first, few))

pub returns-clause-most : goal.returns-clause-most
returns-clause-most g c = let fewer = returns-clause-room g c in omega (arith, fewer)

pub returns-clause-stop : goal.returns-clause-stop
returns-clause-stop g c =
    let x = c.args.self.now in
    let few = c.free_next.ensures.few in
    let some = c.requires.some in
    most-few c.free_next.result (g.P.Plant.state c.args.plant.now) c.args.config.now (length (frees_from c.args.config.now x.l.0 x.place) + 1) (omega (arith, few, some))
