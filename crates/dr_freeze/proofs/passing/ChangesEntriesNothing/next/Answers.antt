use Rattle.std.proofs.Common.{ℕ, ◌≡◌, ◌<◌, ◌≤◌, ◌+◌, min, ◌∷◌, get_or, length, arith, ap, sym, subst, ◌∙◌, Some, option_map}
use Rattle.std.specs.Prelude.{IfSome, is_some}
use Rattle.dr_ids.specs.declared.names.VolumeId.{VolumeId}
use Rattle.dr_config.specs.Table.{ConfigTable, place_of}
use Rattle.dr_model.specs.RecoveryPlans.{pass_on}
use Rattle.dr_moves.specs.Here.{world_seen}
use Rattle.dr_moves.proofs.ActedLemmas.{goes-stops, most-few}
use Rattle.dr_flash.proofs.CopyLemmas.{volume-there}
use Rattle.dr_moves.specs.Coming.{cost_of}
use Rattle.dr_freeze.specs.declared.changes.Change.{Change}
use Rattle.dr_freeze.specs.Passing.{changes_from, HasPassed}
use Rattle.dr_freeze.proofs.PassLemmas.{changes-next, changes-count, passed-on, passed-cut}
use Rattle.dr_freeze.proofs.passing.ChangesEntriesNothing.next.Goals as goal

there : (t : ConfigTable) (x : Change) (l m place : ℕ) → 0 < length (changes_from t x l m place) → place < length t.volumes
there t x l m place some = let e = changes-count t x l m place in omega (arith, e, some)

behind : (place n all next : ℕ) → all ≡ n → place < n → next ≡ min all (place + 1) → next ≡ place + 1
behind place n all next e low is = omega (arith, e, low, is)

pub unwrap-v-requires : goal.unwrap-v-requires
unwrap-v-requires g c =
    let x = c.args.self.now in
    let t = c.args.config.now in
    volume-there t x.place c.volume_at.result c.volume_at.ensures.value (there t x.x x.l.0 x.m.0 x.place c.requires.some)

pub change_next-requires-clause-defined : goal.change_next-requires-clause-defined
change_next-requires-clause-defined g c =
    ap is_some (subst (λ o. IfSome o (λ v. place_of c.args.config.now v.0 ≡ Some c.args.self.now.place)) c.unwrap-v.ensures c.volume_at.ensures.place)

pub returns-clause-goes : goal.returns-clause-goes
returns-clause-goes g c =
    let x = c.args.self.now in
    let t = c.args.config.now in
    let first = changes-next t x.x x.l.0 x.m.0 x.place c.unwrap-v.result.0 (sym (ap (option_map (λ (v : VolumeId). v.0)) c.unwrap-v.ensures) ∙ c.volume_at.ensures.value) in
    first ∙ (λ i. sym (ap (λ es. get_or es 0 pass_on) first) i ∷ changes_from t x.x x.l.0 x.m.0 (sym (behind x.place (length t.volumes) c.volumes.result c.min-self.result c.volumes.ensures.count (there t x.x x.l.0 x.m.0 x.place c.requires.some) c.min-self.ensures) i))

pub returns-clause-comes : goal.returns-clause-comes
returns-clause-comes g c r events =
    let x = c.args.self.now in
    let t = c.args.config.now in
    let k = (world_seen (g.P.Plant.state c.args.plant.now) t r events).control in
    ap (λ es. get_or es 0 pass_on k) (changes-next t x.x x.l.0 x.m.0 x.place c.unwrap-v.result.0 (sym (ap (option_map (λ (v : VolumeId). v.0)) c.unwrap-v.ensures) ∙ c.volume_at.ensures.value))
    ∙ c.change_next.ensures.comes r events

pub returns-clause-goes_on : goal.returns-clause-goes_on
returns-clause-goes_on g c done u w z went more =
    let x = c.args.self.now in
    passed-on (g.P.Plant.state c.args.plant.now) u w c.args.config.now x.x x.l.0 x.m.0 c.unwrap-v.result.0 x.place c.change_next.result
    (subst (λ o. IfSome o (λ v. place_of c.args.config.now v.0 ≡ Some x.place)) c.unwrap-v.ensures c.volume_at.ensures.place) c.change_next.ensures done went
    (subst (HasPassed x.x done u w c.args.config.now x.l.0 x.m.0) (behind x.place (length c.args.config.now.volumes) c.volumes.result c.min-self.result c.volumes.ensures.count (there c.args.config.now x.x x.l.0 x.m.0 x.place c.requires.some) c.min-self.ensures) more)

pub returns-clause-cut : goal.returns-clause-cut
returns-clause-cut g c u counts cut =
    let x = c.args.self.now in
    passed-cut (g.P.Plant.state c.args.plant.now) u u c.args.config.now x.x x.l.0 x.m.0 c.unwrap-v.result.0 x.place c.change_next.result
    (subst (λ o. IfSome o (λ v. place_of c.args.config.now v.0 ≡ Some x.place)) c.unwrap-v.ensures c.volume_at.ensures.place) c.change_next.ensures counts cut

pub returns-clause-refused : goal.returns-clause-refused
returns-clause-refused g c = goes-stops (g.P.Plant.state c.args.plant.now) c.args.config.now c.change_next.result c.change_next.ensures.goes_on

pub returns-clause-room : goal.returns-clause-room
returns-clause-room g c =
    let x = c.args.self.now in
    let t = c.args.config.now in
    let first = ap length (changes-next t x.x x.l.0 x.m.0 x.place c.unwrap-v.result.0 (sym (ap (option_map (λ (v : VolumeId). v.0)) c.unwrap-v.ensures) ∙ c.volume_at.ensures.value)) in
    let few = c.change_next.ensures.few in
    subst (λ n. cost_of c.change_next.result (g.P.Plant.state c.args.plant.now) t + (length (changes_from t x.x x.l.0 x.m.0 n) + length (changes_from t x.x x.l.0 x.m.0 n)) ≤ length (changes_from t x.x x.l.0 x.m.0 x.place) + length (changes_from t x.x x.l.0 x.m.0 x.place)) (sym (behind x.place (length t.volumes) c.volumes.result c.min-self.result c.volumes.ensures.count (there t x.x x.l.0 x.m.0 x.place c.requires.some) c.min-self.ensures)) (omega (arith, first, few))

pub returns-clause-most : goal.returns-clause-most
returns-clause-most g c = let fewer = returns-clause-room g c in omega (arith, fewer)

pub returns-clause-stop : goal.returns-clause-stop
returns-clause-stop g c =
    let x = c.args.self.now in
    let few = c.change_next.ensures.few in
    let some = c.requires.some in
    most-few c.change_next.result (g.P.Plant.state c.args.plant.now) c.args.config.now (length (changes_from c.args.config.now x.x x.l.0 x.m.0 x.place) + length (changes_from c.args.config.now x.x x.l.0 x.m.0 x.place) + 1) (omega (arith, few, some))
