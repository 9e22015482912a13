-- How a freeze and a thaw end, and what they leave.
use Rattle.std.proofs.Common.{ℕ, ◌≡◌, Bool, true, false, not, cond, List, [], ◌∷◌, ◌++◌, refl, sym, ◌∙◌, ap, subst, Some, None}
use Rattle.std.specs.Prelude.{option_map}
use Rattle.std.specs.List.{find}
use Rattle.dr_ids.specs.Paths.{Path, joins_lss, path_in, without_path}
use Rattle.dr_plant.specs.State.{PlantState}
use Rattle.dr_config.specs.Table.{ConfigTable, IsSoundConfig}
use Rattle.dr_config.specs.Rules.{without_path_between}
use Rattle.dr_config.proofs.Devices.{stands-without_path_between}
use Rattle.dr_model.specs.declared.event.Event.{Event}
use Rattle.dr_model.specs.declared.event.Event.TheVariants.{Frozen, Thawed}
use Rattle.dr_model.specs.Control.{World}
use Rattle.dr_model.specs.Carry.{act, frozen, thawed, EndFreeze, EndThaw}
use Rattle.dr_model.specs.ReadStops.{Ends}
use Rattle.dr_model.specs.WriteEntries.{end_freeze, end_thaw}
use Rattle.dr_volume.specs.View.{Rest, volume_seen}
use Rattle.dr_moves.specs.Fit.{RelationsFit}
use Rattle.dr_moves.specs.Here.{world_seen, IsAtRest}
use Rattle.dr_facts.proofs.Ends.{ends-goes, ends-none}
use Rattle.dr_freeze.specs.Between.{between}
use Rattle.dr_freeze.specs.Changes.{IsFrozen, AllFrozen, AllThawed}
use Rattle.dr_freeze.specs.Checks.{owner_in}
use Rattle.dr_freeze.proofs.BetweenLemmas.{all-between}

act-freeze : (w : World) (l m : ℕ) → act w (EndFreeze l m) ≡ (frozen w l m, None)
unfolding act
act-freeze w l m = refl

act-thaw : (w : World) (l m : ℕ) → act w (EndThaw l m) ≡ (thawed w l m, None)
unfolding act
act-thaw w l m = refl

pub freeze-ends : (armed : ℕ → Bool) (s : PlantState) (t n : ConfigTable) (r : Rest) (events told : List Event) (l m : ℕ) → n ≡ without_path_between t l m → told ≡ events ++ Frozen l m ∷ [] → Ends armed (world_seen s n r told) None (world_seen s t r events) (end_freeze l m ∷ [])
freeze-ends armed s t n r events told l m new is =
    ends-goes armed (world_seen s n r told) None (world_seen s t r events) (world_seen s n r told) (end_freeze l m) [] (EndFreeze l m) refl
    (act-freeze (world_seen s t r events) l m ∙ (λ i. (world_seen s (sym new i) r (sym is i), None)))
    (ends-none armed (world_seen s n r told) None (world_seen s n r told) (record { world = refl; refusal = refl }))

pub thaw-ends : (armed : ℕ → Bool) (s : PlantState) (t : ConfigTable) (r : Rest) (events told : List Event) (l m : ℕ) → told ≡ events ++ Thawed l m ∷ [] → Ends armed (world_seen s t r told) None (world_seen s t r events) (end_thaw l m ∷ [])
thaw-ends armed s t r events told l m is =
    ends-goes armed (world_seen s t r told) None (world_seen s t r events) (world_seen s t r told) (end_thaw l m) [] (EndThaw l m) refl
    (act-thaw (world_seen s t r events) l m ∙ (λ i. (world_seen s t r (sym is i), None)))
    (ends-none armed (world_seen s t r told) None (world_seen s t r told) (record { world = refl; refusal = refl }))

-- a path that was removed isn't there
no-path : (ps : List Path) (l m : ℕ) → path_in (without_path ps l m) l m ≡ None
no-path [] l m = refl
no-path (p ∷ ps) l m =
    elim (joins_lss l m p) as (λ b. joins_lss l m p ≡ b → option_map (λ (q : Path). q.group) (find (joins_lss l m) (cond (not b) (p ∷ without_path ps l m) (without_path ps l m))) ≡ None) [
      | true ↦ λ is. no-path ps l m
      | false ↦ λ is. ap (λ b. option_map (λ (q : Path). q.group) (cond b (Some p) (find (joins_lss l m) (without_path ps l m)))) is ∙ no-path ps l m
    ] refl

-- the table without the path
module _ (s : PlantState) (t n : ConfigTable) (l m : ℕ) (new : n ≡ without_path_between t l m) where
  pub rest-without : IsAtRest s t → IsAtRest s n
  rest-without rest = subst (λ x. IsAtRest s x) (sym new) (record { stands = stands-without_path_between t l m s rest.stands; sizes = rest.sizes })

  pub fit-without : RelationsFit s t → RelationsFit s n
  fit-without fit = subst (λ x. RelationsFit s x) (sym new) (record { source = fit.source; apart = fit.apart })

  pub all-frozen : (before : PlantState) → IsSoundConfig t → before.on (owner_in t l) ≡ true → ((v : ℕ) → between before t l m v ≡ true → IsFrozen (volume_seen s t v).fields) → AllFrozen before t s n l m
  all-frozen before sound on changed = subst (λ x. AllFrozen before t s x l m) (sym new) (record {
    primaries = λ v is. changed v (all-between before t l m sound on v is);
    path = no-path t.paths l m;
  })

pub all-thawed : (s u : PlantState) (t : ConfigTable) (l m : ℕ) → IsSoundConfig t → s.on (owner_in t l) ≡ true → ((v : ℕ) → between s t l m v ≡ true → (volume_seen u t v).fields.long_busy ≡ false) → AllThawed s u t l m
all-thawed s u t l m sound on changed v is = changed v (all-between s t l m sound on v is)
