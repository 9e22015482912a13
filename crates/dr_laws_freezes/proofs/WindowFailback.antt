-- A failback in freeze windows: as its secondary gives up its own part, the server of the primary is on.
use Rattle.std.proofs.Common.{ℕ, ◌≡◌, refl, Bool, true, List, [], ◌∷◌, Option}
use Rattle.dr_ids.specs.declared.refusal.Refusal.{Refusal}
use Rattle.dr_model.specs.declared.said.Addition.TheVariants.{Alone}
use Rattle.dr_model.specs.declared.said.Said.TheVariants.{Done}
use Rattle.dr_model.specs.declared.state.Part.{Part}
use Rattle.dr_model.specs.declared.step.Devs.{Devs}
use Rattle.dr_model.specs.Control.{Control, World}
use Rattle.dr_model.specs.Moves.{FallBack, Yield}
use Rattle.dr_model.specs.Pairs.{state_with}
use Rattle.dr_model.specs.Carry.{Entry, check}
use Rattle.dr_model.specs.Entries.{fields_at, is_running, is_settled, is_no_secondary}
use Rattle.dr_model.specs.PairEntries.{refuse_if, reach_refusal, leads_as, leads_to, unsent_by, fall_back_on, yield_on}
use Rattle.dr_model.specs.Plans.{Plan, failback_plan, is_defined, is_owner, yield_refusal}
use Rattle.dr_model.specs.Allowed.{Runs}
use Rattle.dr_facts.proofs.Entries.{any_reason, FineFrom, why-any, from-check, from-refuse, from-all, fine-then, fine-one}
use Rattle.dr_laws_sound.proofs.FitsFlash.{as_begun}
use Rattle.dr_laws_sound.proofs.FitsPairs.{runs-done}
use Rattle.dr_laws_sound.proofs.FitsFailover.{along-failback}
use Rattle.dr_laws_freezes.proofs.Chains.{PlanFin}
use Rattle.dr_laws_freezes.proofs.WindowActs.{Between, Leaves, window-leaves}
use Rattle.dr_laws_freezes.proofs.WindowPlans.{good-between, answers-between, begun-between, EntriesHold, fin}

module _ (w : World) (k : Between w) (devs : Devs) (x y : ℕ) (kind : Part) where
  abbrev p : Plan
  p = failback_plan w.control devs x y kind

  abbrev start : World
  start = as_begun w

  -- where the server of x is on as the step begins, it stays on
  abbrev Stays : World → Type 0
  Stays u = Runs start x → Runs u x

  abbrev Comes : List Entry → Type 0
  Comes = FineFrom Stays (Leaves Stays) any_reason any_reason start

  checked : (ok : Control → Bool) (r : Refusal) (ds : List Entry) → (ok start.control ≡ true → Comes ds) → Comes (check ok r ∷ ds)
  checked ok r ds rest = from-check Stays (Leaves Stays) any_reason any_reason start ok r ds tt rest

  refusing : (why : Control → Option Refusal) (ds : List Entry) → Comes ds → Comes (refuse_if why ∷ ds)
  refusing why ds rest = from-refuse Stays (Leaves Stays) any_reason any_reason start why ds (why-any (why start.control)) rest

  turns : Runs start x → Comes (fall_back_on x y ∷ yield_on y x ∷ [])
  turns on = from-all Stays (Leaves Stays) any_reason any_reason (λ r why. why) start (λ on. on) _
      (fine-then Stays (Leaves Stays) any_reason (fall_back_on x y) _
      (λ u j. ((tt, refl, refl), λ f on. runs-done u (FallBack x (unsent_by y u.control) (state_with (unsent_by y u.control) (fields_at u.control x))) f x (j on)))
      (fine-one Stays (Leaves Stays) any_reason (yield_on y x)
      (λ u j. ((j on, tt, refl), λ f on. runs-done u (Yield y x (fields_at u.control x).primary (fields_at u.control x).primary_state) f x (j on)))))

  comes : Comes p.entries
  comes = checked (is_defined x) _ _ (λ there. checked (is_defined y) _ _ (λ too. checked (is_owner devs.dev x) _ _ (λ own. checked (is_owner devs.remotedev y) _ _ (λ theirs. checked (is_running x) _ _ (λ on.
      refusing (reach_refusal x y) _ (checked (leads_as x y kind) _ _ (λ leads. checked (leads_to y x) _ _ (λ back. checked (is_no_secondary x) _ _ (λ free. checked (is_no_secondary y) _ _ (λ lone. checked (is_settled y) _ _ (λ still. checked (is_settled x) _ _ (λ settled.
      refusing (yield_refusal y) _ (turns on)))))))))))))

  pub window-failback : EntriesHold w p
  window-failback = window-leaves (PlanFin Between good-between answers-between p) (fin p.entries (Done Alone)) Stays p.entries start (begun-between w k) (λ on. on) comes (along-failback w k.sound devs x y kind)
