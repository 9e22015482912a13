-- A failover and a failback leave what a recovery makes of each session.
use Rattle.std.proofs.Common.{ℕ, refl, Bool, List, [], ◌∷◌, ◌++◌, Option, true, false, cond}
use Rattle.dr_ids.specs.declared.refusal.Refusal.{Refusal}
use Rattle.dr_model.specs.declared.said.Said.{Said}
use Rattle.dr_model.specs.declared.state.Part.{Part}
use Rattle.dr_model.specs.declared.step.Devs.{Devs}
use Rattle.dr_model.specs.Control.{Control, World}
use Rattle.dr_model.specs.Moves.{TakeOver, LeavePrimary}
use Rattle.dr_model.specs.Carry.{Act, Entry, now, check, Make}
use Rattle.dr_model.specs.Entries.{is_running, is_settled, relation_state, pair_state, fields_at, is_no_secondary, secondary_state}
use Rattle.dr_model.specs.PairEntries.{refuse_if, reach_refusal, leads_to, may_take_over, leads_as, failover_entries, failback_entries, fall_back_on, yield_on}
use Rattle.dr_model.specs.Plans.{entries_plan, is_defined, is_owner, found_volumes, yield_refusal, failover_plan, failback_plan}
use Rattle.dr_model.specs.Laws.{Sound}
use Rattle.dr_facts.proofs.Entries.{any_reason, why-any, Fine, AllFine, fine-none, fine-then, fine-check, fine-refuse}
use Rattle.dr_laws_sound.proofs.KeepsSound.{Along}
use Rattle.dr_laws_sound.proofs.FitsFlash.{as_begun}
use Rattle.dr_laws_sound.proofs.FitsFailover.{along-failover, along-failback}
use Rattle.dr_laws_recovery.specs.Recovered.{KeepsRecovery}
use Rattle.dr_laws_recovery.proofs.Keeping.{fit-along}
use Rattle.dr_laws_recovery.proofs.Recovers.{Keeps, Fit, begins, plan-keeps}
use Rattle.dr_model.specs.Pairs.{is_cascaded}

module _ (w : World) (sound : Sound w) (s : ℕ) where
  -- acts that fit
  abbrev Ok : World → Act → Type 0
  Ok u a = Fit w s a

  abbrev All : List Entry → Type 0
  All = AllFine (Keeps w s) Ok any_reason

  checked : (ok : Control → Bool) (r : Refusal) (ds : List Entry) → All ds → All (check ok r ∷ ds)
  checked ok r ds rest = fine-check (Keeps w s) Ok any_reason ok r ds tt rest

  refused : (why : Control → Option Refusal) (ds : List Entry) → All ds → All (refuse_if why ∷ ds)
  refused why ds rest = fine-refuse (Keeps w s) Ok any_reason why ds (λ k. why-any (why k)) rest

  found : (devs : Devs) (a b : ℕ) (ds : List Entry) → All ds → All (found_volumes devs a b ++ ds)
  found devs a b ds rest = checked (is_defined a) _ _ (checked (is_defined b) _ _ (checked (is_owner devs.dev a) _ _ (checked (is_owner devs.remotedev b) _ _ rest)))

  one : (d : Entry) (ds : List Entry) → ((u : World) → Keeps w s u → Fine (Keeps w s) Ok any_reason u (d u.control)) → All ds → All (d ∷ ds)
  one = fine-then (Keeps w s) Ok any_reason

  entries-keep : (entries : List Entry) (said : Said) → All entries → Along (as_begun w) entries → KeepsRecovery w (entries_plan entries said) s
  entries-keep entries said fine a = plan-keeps w sound s (entries_plan entries said) (record {
    begins = begins w sound s;
    entries = fit-along (Keeps w s) Ok any_reason Sound (λ v h. h) entries fine (as_begun w) (begins w sound s).1 a;
    last = λ v h. h;
    follows = λ q. refl;
  })

  pub failover-keeps : (devs : Devs) (b a : ℕ) (kind : Part) → KeepsRecovery w (failover_plan w.control devs b a kind) s
  failover-keeps devs b a kind = entries-keep (found_volumes devs b a ++ failover_entries w.control b a kind) _
      (found devs b a _ (checked (is_running b) _ _ (checked (may_take_over a b kind) (secondary_state w.control b) _ (one (now (cond (is_cascaded (fields_at w.control b)) (LeavePrimary b) (TakeOver b))) [] (λ u k. left (is_cascaded (fields_at w.control b))) (fine-none (Keeps w s) Ok any_reason)))))
      (along-failover w sound devs b a kind)
    where
      left : (c : Bool) → Fit w s (Make (cond c (LeavePrimary b) (TakeOver b)))
      left true = tt
      left false = tt

  pub failback-keeps : (devs : Devs) (x y : ℕ) (kind : Part) → KeepsRecovery w (failback_plan w.control devs x y kind) s
  failback-keeps devs x y kind = entries-keep (found_volumes devs x y ++ failback_entries w.control (yield_refusal y) x y kind) _
      (found devs x y _ (checked (is_running x) _ _ (refused (reach_refusal x y) _ (checked (leads_as x y kind) (pair_state w.control x) _ (checked (leads_to y x) (pair_state w.control y) _
      (checked (is_no_secondary x) (secondary_state w.control x) _ (checked (is_no_secondary y) (secondary_state w.control y) _ (checked (is_settled y) (relation_state w.control y) _ (checked (is_settled x) (relation_state w.control x) _ (refused (yield_refusal y) _
      (one (fall_back_on x y) _ (λ u k. tt) (one (yield_on y x) [] (λ u k. tt) (fine-none (Keeps w s) Ok any_reason)))))))))))))
      (along-failback w sound devs x y kind)
