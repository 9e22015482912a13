-- The plan of a recovery, from what the calls say.
use Rattle.std.proofs.Common.{ℕ, ◌≡◌, Bool, List, [], ◌∷◌, ◌++◌, map, refl, sym, ◌∙◌, ap, subst, Option, Some, None}
use Rattle.std.specs.Prelude.{Result, Ok, Err}
use Rattle.std.proofs.lemmas.List.{append_assoc}
use Rattle.dr_ids.specs.declared.names.Member.{Member}
use Rattle.dr_ids.specs.declared.refusal.Decision.{Decision}
use Rattle.dr_ids.specs.declared.refusal.Refusal.{Refusal}
use Rattle.dr_plant.specs.State.{PlantState}
use Rattle.dr_config.specs.Table.{ConfigTable}
use Rattle.dr_model.specs.declared.event.Event.{Event}
use Rattle.dr_model.specs.declared.event.Event.TheVariants.{Recovered as RecoveredEvent}
use Rattle.dr_model.specs.declared.said.Said.{Said}
use Rattle.dr_model.specs.declared.said.Said.TheVariants.{Refused}
use Rattle.dr_model.specs.Control.{World}
use Rattle.dr_model.specs.Carry.{act, recovered, EndRecovery, Entry}
use Rattle.dr_model.specs.PlanParts.{unless}
use Rattle.dr_model.specs.ReadStops.{Ends}
use Rattle.dr_model.specs.RecoveryPlans.{secondary_refusal, decided_in, take_over_on, settle_on, end_recovery, group_of, group_number, says_group, recover_entries, recover_done}
use Rattle.dr_volume.specs.View.{Rest}
use Rattle.dr_moves.specs.Here.{world_seen, refusal_of}
use Rattle.dr_moves.specs.Turns.{Leads, Fails}
use Rattle.dr_facts.proofs.Ends.{ends-goes, ends-none}
use Rattle.dr_gmirror.specs.Exchange.{PlanEnds}
use Rattle.dr_gmirror.proofs.ExchangeLemmas.{refused-plan, silent-ends, follow-nothing}
use Rattle.dr_recover.specs.declared.recovery.Recovered.{Recovered}
use Rattle.dr_recover.specs.Outcomes.{recover_behind, recovery_said}
use Rattle.dr_recover.specs.Steps.{moves_of}

-- ---- the entries

act-recovery : (w : World) (s n : ℕ) → act w (EndRecovery s n) ≡ (recovered w s n, None)
unfolding act
act-recovery w s n = refl

-- the end, which the journal is told
pub recovery-ends : (armed : ℕ → Bool) (p : PlantState) (t : ConfigTable) (r : Rest) (events told : List Event) (s : ℕ) (g : Option ℕ) → g ≡ group_of (decided_in s (world_seen p t r events).control) → told ≡ events ++ RecoveredEvent s (group_number g) ∷ []
    → Ends armed (world_seen p t r told) None (world_seen p t r events) (end_recovery s ∷ [])
recovery-ends armed p t r events told s g is tells =
    let w = world_seen p t r events in
    let n : ℕ = group_number (group_of (decided_in s w.control)) in
    let so : told ≡ events ++ RecoveredEvent s n ∷ [] = tells ∙ ap (λ o. events ++ RecoveredEvent s (group_number o) ∷ []) is in
    ends-goes armed (world_seen p t r told) None w (world_seen p t r told) (end_recovery s) [] (EndRecovery s n) refl
    (act-recovery w s n ∙ (λ i. (world_seen p t r (sym so i), None)))
    (ends-none armed (world_seen p t r told) None (world_seen p t r told) (record { world = refl; refusal = refl }))

module _ (s : ℕ) (d : Decision) (ms : List Member) where
  abbrev last : List Entry
  last = end_recovery s ∷ []

  all-are : moves_of s d ms ++ last ≡ recover_entries s d ms
  all-are = append_assoc (map take_over_on ms) (map (settle_on s d) ms) last

  -- a move failed
  pub moves-fail : (armed : ℕ → Bool) (w u : World) (r : Option Refusal) → Fails armed w (moves_of s d ms) u r → Ends armed u r w (recover_entries s d ms)
  moves-fail armed w u r fails = subst (Ends armed u r w) all-are (fails last)

  -- all was done
  pub all-done : (armed : ℕ → Bool) (w v u : World) (r : Option Refusal) → Leads w (moves_of s d ms) v → Ends armed u r v (end_recovery s ∷ []) → Ends armed u r w (recover_entries s d ms)
  all-done armed w v u r leads ends = subst (Ends armed u r w) all-are (leads armed u r last ends)

  -- ---- the plan

  pub plan-failed : (armed : ℕ → Bool) (w u : World) (e : Refusal) → Ends armed u (Some e) w (recover_entries s d ms) → PlanEnds armed w (recover_done s d ms) u (Refused e)
  plan-failed armed w u e ends = record {
    middle = u;
    refusal = Some e;
    ends = silent-ends armed u w (Some e) (recover_entries s d ms) ends;
    world = follow-nothing u e;
    answers = refl;
  }

  pub plan-done : (armed : ℕ → Bool) (w u : World) (g : Option ℕ) → g ≡ group_of (decided_in s u.control) → Ends armed u None w (recover_entries s d ms) → PlanEnds armed w (recover_done s d ms) u (says_group d g)
  plan-done armed w u g is ends = record {
    middle = u;
    refusal = None;
    ends = silent-ends armed u w None (recover_entries s d ms) ends;
    world = refl;
    answers = ap (says_group d) is;
  }

  pub plan-behind : (armed : ℕ → Bool) (w u : World) (a : Said) → None ≡ secondary_refusal ms w.control → d ≡ decided_in s w.control → PlanEnds armed w (recover_done s d ms) u a → PlanEnds armed w (recover_behind w.control s ms) u a
  plan-behind armed w u a passed decided ends =
      subst (λ o. PlanEnds armed w (unless o (recover_done s (decided_in s w.control) ms)) u a) passed
      (subst (λ d. PlanEnds armed w (recover_done s d ms) u a) decided ends)

pub plan-off : (armed : ℕ → Bool) (w : World) (s : ℕ) (ms : List Member) (why : Refusal) → Some why ≡ secondary_refusal ms w.control → PlanEnds armed w (recover_behind w.control s ms) w (Refused why)
plan-off armed w s ms why is = subst (λ o. PlanEnds armed w (unless o (recover_done s (decided_in s w.control) ms)) w (Refused why)) is (refused-plan armed w why)

-- what is answered where the call failed
pub says-failed : (x : Result Recovered Refusal) (e : Refusal) → refusal_of x ≡ Some e → recovery_said x ≡ Refused e
says-failed (Ok y) e is = absurd cc
says-failed (Err z) e is = let same : z ≡ e = cc in ap (λ r. Refused r) same

-- nothing was refused, and something was
pub never : {X : Type 0} (o : Option Refusal) (why : Refusal) → None ≡ o → o ≡ Some why → X
never None why passed is = absurd cc
never (Some e) why passed is = absurd cc
