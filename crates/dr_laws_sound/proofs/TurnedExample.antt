-- The example of a pair that is turned round, carried out.
use Rattle.std.proofs.Common.{ℕ, ◌≡◌, refl, ap, ◌∙◌, cond, List, [], ◌∷◌, length}
use Rattle.std.specs.FinSet.{empty}
use Rattle.dr_ids.specs.declared.refusal.Kind.TheVariants.{Volume as OfVolume}
use Rattle.dr_ids.specs.declared.refusal.PairSeen.TheVariants as seen
use Rattle.dr_ids.specs.declared.refusal.Refusal.TheVariants.{PairState, NotIdentical}
use Rattle.dr_model.specs.declared.event.Event.TheVariants.{TakenOver}
use Rattle.dr_model.specs.declared.said.Addition.TheVariants.{Alone, Counted}
use Rattle.dr_model.specs.declared.said.Said.TheVariants.{Done, Refused}
use Rattle.dr_model.specs.declared.state.Part.TheVariants.{Metro, Global}
use Rattle.dr_model.specs.declared.state.PairState.TheVariants.{CopyPending, Suspended as SuspendedState}
use Rattle.dr_model.specs.Layout.{no_fields}
use Rattle.dr_model.specs.Refusals.{stopped, unknown}
use Rattle.dr_model.specs.Relations.{in_order}
use Rattle.dr_model.specs.PairEntries.{is_copying, sends, suspend_after}
use Rattle.dr_model.specs.Plans.{Plan, same, always, is_defined}
use Rattle.dr_facts.proofs.Tracks.{empty_has}
use Rattle.dr_model.specs.Carry.{act, carry, turn, update_keeping, check}
use Rattle.dr_model.specs.Entries.{fields_at, running_check, pair_state}
use Rattle.dr_laws_sound.specs.TurnedExample.{leading, paired, parted, fused, midway, says, leaves, over, home, drains, compares}

pub over-says : says paired (over paired Global) ≡ Done Alone
unfolding carry act turn update_keeping
over-says = refl

pub over-leaves : fields_at (leaves paired (over paired Global)).control 8192 ≡ leading 4096 SuspendedState
unfolding carry act turn update_keeping
over-leaves = refl

pub over-tells : (leaves paired (over paired Global)).events ≡ TakenOver 8192 ∷ []
unfolding carry act turn update_keeping
over-tells = refl

pub over-other : says paired (over paired Metro) ≡ Refused (PairState (record { 0 = 8192 }) seen.TargetSuspended)
unfolding carry act turn update_keeping
over-other = refl

pub home-says : says parted (home parted Global) ≡ Done Alone
unfolding carry act turn update_keeping
home-says = refl

pub home-leads : (fields_at (leaves parted (home parted Global)).control 8192).primary_state ≡ CopyPending
unfolding carry act turn update_keeping
home-leads = refl

pub home-follows : fields_at (leaves parted (home parted Global)).control 4096 ≡ record no_fields { secondary = Global; secondary_state = CopyPending; secondary_partner = 8192 }
unfolding carry act turn update_keeping
home-follows = refl

pub home-tells : (leaves parted (home parted Global)).events ≡ []
unfolding carry act turn update_keeping
home-tells = refl

pub home-other : says parted (home parted Metro) ≡ Refused (PairState (record { 0 = 8192 }) seen.Suspended)
unfolding carry act turn update_keeping
home-other = refl

pub home-early : says paired (home paired Global) ≡ Refused (PairState (record { 0 = 8192 }) seen.TargetSuspended)
unfolding carry act turn update_keeping
home-early = refl

pub stops-says : says fused (home fused Global) ≡ Refused (stopped 0)
unfolding carry act turn update_keeping
stops-says = refl

pub stops-leads : (fields_at (leaves fused (home fused Global)).control 8192).primary_state ≡ CopyPending
unfolding carry act turn update_keeping
stops-leads = refl

pub stops-leaves : fields_at (leaves fused (home fused Global)).control 4096 ≡ leading 8192 SuspendedState
unfolding carry act turn update_keeping
stops-leaves = refl

-- no track is out of sync
none-left : in_order 2 empty ≡ []
unfolding in_order
none-left = λ i. cond (empty_has 0 i) (0 ∷ cond (empty_has 1 i) (1 ∷ []) []) (cond (empty_has 1 i) (1 ∷ []) [])

-- a drain of these tracks
draining : List ℕ → Plan
draining ts = record {
  first = same;
  told = [];
  entries = check (is_defined 8192) (unknown OfVolume) ∷ running_check midway.control 8192 ∷ check (is_copying 8192) (pair_state midway.control 8192) ∷ sends midway.control.volumes 8192 4096 ts;
  follows = λ n. suspend_after 8192;
  last = same;
  says = always (Done (Counted (length ts)));
}

none-sent : says midway (draining []) ≡ Done (Counted 0)
unfolding carry draining
none-sent = refl

pub midway-drains : says midway (drains midway) ≡ Done (Counted 0)
unfolding draining
midway-drains = ap (λ ts. says midway (draining ts)) none-left ∙ none-sent

pub midway-differs : says midway (compares midway) ≡ Refused (NotIdentical 1)
unfolding carry act turn update_keeping
midway-differs = refl
