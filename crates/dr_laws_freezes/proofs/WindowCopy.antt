-- The background copy of a target, and its restore onto its source, in freeze windows.
use Rattle.std.proofs.Common.{ℕ, ◌≡◌, refl, ap, sym, ◌∙◌, Bool, true, false, not, ◌&&◌, ◌||◌, List, ◌∷◌, Option}
use Rattle.dr_ids.specs.declared.refusal.Refusal.{Refusal}
use Rattle.dr_model.specs.declared.said.Addition.TheVariants.{Counted}
use Rattle.dr_model.specs.declared.said.Said.TheVariants.{Done}
use Rattle.dr_model.specs.declared.state.Part.{Part}
use Rattle.dr_model.specs.declared.state.Part.TheVariants.{Absent, Metro, Global}
use Rattle.dr_model.specs.declared.state.PairState.{PairState}
use Rattle.dr_model.specs.declared.state.PairState.TheVariants.{CopyPending, FullDuplex, Suspended}
use Rattle.dr_model.specs.Layout.{Fields, is_part}
use Rattle.dr_model.specs.Pairs.{is_metro, is_full_duplex, is_suspended, is_quiet}
use Rattle.dr_model.specs.Control.{Control, Fuse, Volume, World}
use Rattle.dr_model.specs.Moves.{Move, Keep, Note, Fetch, Restore, Release, target}
use Rattle.dr_model.specs.Carry.{Entry, check}
use Rattle.dr_model.specs.Entries.{fields_at, is_running, takes_back}
use Rattle.dr_model.specs.Plans.{Plan, copy_plan, at_most, left_to_copy, is_defined, may_copy, may_give_back}
use Rattle.dr_laws_sound.proofs.Turns.{done}
use Rattle.dr_laws_sound.proofs.FitsFlash.{as_begun}
use Rattle.dr_laws_sound.proofs.FitsPairs.{row}
use Rattle.dr_laws_sound.proofs.FitsCopy.{along-copy}
use Rattle.dr_laws_freezes.proofs.InSync.{is_synced}
use Rattle.dr_laws_freezes.proofs.Chains.{PlanFin}
use Rattle.dr_laws_freezes.proofs.WindowActs.{Between, Leaves, window-leaves}
use Rattle.dr_laws_freezes.proofs.WindowPlans.{good-between, answers-between, begun-between, EntriesHold, fin}
use Rattle.dr_model.specs.declared.said.Said.{Said}
use Rattle.dr_facts.proofs.Entries.{any_reason, FineFrom, from-check, from-all, fine-times}
use Rattle.dr_facts.proofs.SharedEntries.{copied-fine}
use Rattle.dr_facts.proofs.Tables.{at_part}

-- a source that is no primary, or a Suspended one, isn't Full Duplex
not-synced : (f : Fields) → is_quiet f ≡ true → is_synced f ≡ false
not-synced f h = by f.primary f.primary_state h
  where
    by : (p : Part) (s : PairState) → (not (is_part p) || is_suspended s) ≡ true → (is_metro p && is_full_duplex s) ≡ false
    by Absent s h = refl
    by Global s h = refl
    by Metro CopyPending h = refl
    by Metro FullDuplex h = absurd cc
    by Metro Suspended h = refl

module _ (w : World) (k : Between w) (t : ℕ) (most : Option ℕ) where
  abbrev p : Plan
  p = copy_plan w.control t most

  abbrev s : ℕ
  s = (fields_at w.control t).source

  abbrev start : World
  start = as_begun w

  abbrev Quiet : World → Type 0
  Quiet u = is_quiet (fields_at u.control s) ≡ true

  -- the source stays no primary, or a Suspended one
  abbrev Stays : World → Type 0
  Stays u = Quiet start → Quiet u

  abbrev Comes : List Entry → Type 0
  Comes = FineFrom Stays (Leaves Stays) any_reason any_reason start

  stays : (u : World) (m : Move) (f : Option Fuse) → is_quiet (row u m f).fields ≡ is_quiet (fields_at u.control (target m)) → Stays u → Stays (done u m f)
  stays u m f same was quiet = at_part (λ (y : Volume). is_quiet y.fields) u.control.volume (target m) (row u m f) same s ∙ was quiet

  checked : (ok : Control → Bool) (r : Refusal) (ds : List Entry) → (ok start.control ≡ true → Comes ds) → Comes (check ok r ∷ ds)
  checked ok r ds rest = from-check Stays (Leaves Stays) any_reason any_reason start ok r ds tt rest

  copies : Comes p.entries
  copies = checked (is_defined t) _ _ (λ there. checked (is_running t) _ _ (λ on. checked (may_copy t) _ _ (λ may. checked (may_give_back t) _ _ (λ back.
      from-all Stays (Leaves Stays) any_reason any_reason (λ r why. why) start (λ quiet. quiet) _ (fine-times Stays (Leaves Stays) any_reason (at_most most (left_to_copy w.control t)) _
      (copied-fine Stays (Leaves Stays) any_reason
      (λ x q u j. ((tt, tt, refl), λ f. stays u (Keep x q) f refl j)) (λ x q u j. ((tt, tt, refl), λ f. stays u (Note x q) f refl j)) w.control.volumes s t (fields_at w.control t).reversing
      (λ is q u j. ((tt, not-synced (fields_at u.control s) (j (sym (ap (λ b. not b || takes_back s w.control) is) ∙ back)), refl), λ f. stays u (Restore s q t) f refl j))
      (λ is q u j. ((tt, tt, refl), λ f. stays u (Release t q) f refl j)) (λ q u j. ((tt, tt, refl), λ f. stays u (Fetch t q) f refl j))))))))

  pub window-copy : EntriesHold w p
  window-copy =
      let said : Said = Done (Counted (at_most most (left_to_copy w.control t))) in
      window-leaves (PlanFin Between good-between answers-between p) (fin p.entries said) Stays p.entries start (begun-between w k) (λ quiet. quiet) copies (along-copy w k.sound t most)
