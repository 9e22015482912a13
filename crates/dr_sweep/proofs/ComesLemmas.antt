-- A run that was carried out to its end.
use Rattle.std.proofs.Common.{ℕ, ◌≡◌, ◌⊎◌, inl, inr, List, subst}
use Rattle.dr_plant.specs.State.{PlantState, IsFresh}
use Rattle.dr_model.specs.declared.event.Event.{Event}
use Rattle.dr_sweep.specs.Comes.{RunsWhole}
use Rattle.dr_top.specs.Tried.{AreAll, TriedBy, IsTried}
use Rattle.dr_top.specs.declared.status.Status.{Status}
use Rattle.dr_top.specs.declared.status.Status.TheVariants.{Done, DoneRefused}

pub whole-run : (script : List ℕ) (status : Status) (events : List Event) (s s' : PlantState) → IsTried script status events s s' → IsFresh s → (status ≡ Done) ⊎ (status ≡ DoneRefused) → RunsWhole script events
whole-run script status events s s' tried fresh ends = record {
  before = s;
  after = s';
  fresh = fresh;
  steps = tried.steps;
  world = tried.world;
  all = by ends;
  stands = tried.stands;
}
  where
    by : (status ≡ Done) ⊎ (status ≡ DoneRefused) → AreAll script tried.steps
    by (inl done) = (subst (λ (x : Status). TriedBy script x tried.steps tried.world) done tried.by).0
    by (inr refused) = (subst (λ (x : Status). TriedBy script x tried.steps tried.world) refused tried.by).0
