-- A revertible target keeps what it shows, and what it would show if it went back.
use Rattle.std.proofs.Common.{ℕ, ◌≡◌, ◌≢◌, ◌<◌, inl, inr, refl, ap, sym, ◌∙◌, subst, true, cond, Some}
use Rattle.std.specs.FinSet.{contains}
use Rattle.std.proofs.lemmas.Bool.Decides.{eqb_tells}
use Rattle.dr_model.specs.Histories.{Write}
use Rattle.dr_model.specs.Moves.{Move, Land, Overwrite, Keep, Note, Relate, Withdraw, Fetch, Resync, Reverse, Restore, Release, Store, Mirror, LandBoth, Flash, Commit, Revert, target}
use Rattle.dr_model.specs.Table.{Row, Table}
use Rattle.dr_model.specs.Rows.{after, next_row, next_due, next_aside}
use Rattle.dr_model.specs.Laws.{SoundRows, source, fields, shown}
use Rattle.dr_model.specs.Allowed.{Allowed}
use Rattle.dr_laws_recovery.specs.BothViews.{set_aside, Settles, IsRevertible}
use Rattle.dr_laws_sound.proofs.KeepsStructure.{revertible-not}
use Rattle.dr_laws_sound.proofs.KeepsParts.{unrelated}
use Rattle.dr_laws_sound.proofs.KeepsSound.{rows-after}
use Rattle.dr_laws_sound.proofs.Views.{shown-due, own-shows, others-stay}
use Rattle.dr_logic.proofs.Choices.{chosen}
use Rattle.dr_logic.proofs.Truth.{false_true}
use Rattle.dr_logic.proofs.Options.{none_some}
use Rattle.dr_logic.proofs.Tables.{at_same, at_other}

module _ (write : ℕ → Write) where
  -- what is set aside is what the table says
  pub aside-is : (T : Table) → SoundRows T → (v q : ℕ) → IsRevertible T v → q < (T v).volume.tracks → set_aside T v q ≡ (T v).aside q
  aside-is T rows v q is lt =
      ap (λ s. cond (contains (fields T v).previous_own q) ((T v).bytes q) ((T s).bytes q)) (chosen (fields T v).related (fields T v).source is.from is.related).1
      ∙ rows.asides v is.from is.related is.revertible q lt

  module _ (T : Table) (rows : SoundRows T) where
    -- what a move of a revertible target leaves
    record Still (m : Move) (from : ℕ) : Type 0 where
      related : source (next_row write m T) ≡ Some from
      revertible : (next_row write m T).volume.fields.revertible ≡ true
      due : (q : ℕ) → next_due write m T q ≡ (T (target m)).due q
      aside : (q : ℕ) → next_aside m T q ≡ (T (target m)).aside q

    still : (m : Move) → Allowed write T m → (from : ℕ) → source (T (target m)) ≡ Some from → (fields T (target m)).revertible ≡ true → (Settles (target m) m → ⊥) → Still m from
    still (Land w v t) a from h r none = none_some a.plain h
    still (LandBoth w v t) a from h r none = none_some a.land.plain h
    still (Restore v t u) a from h r none = none_some (rows.structure.flash u v a.related).plain h
    still (Overwrite w v t) a from h r none = false_true a.settled r
    still (Keep v t) a from h r none = false_true a.settled r
    still (Fetch v t) a from h r none = false_true a.settled r
    still (Note v t) a from h r none = false_true a.settled r
    still (Relate v s c) a from h r none = none_some a.plain h
    still (Withdraw v) a from h r none = false_true a.settled r
    still (Resync v sequence) a from h r none = false_true a.settled r
    still (Reverse v left) a from h r none = false_true a.resync.settled r
    still (Release v t) a from h r none = false_true (revertible-not (fields T v).revertible (λ i. (rows.structure.reverts v i).forward) a.reversing) r
    still (Store v t u last) a from h r none = none_some (unrelated T rows.parts v a.takes) h
    still (Mirror v t u w) a from h r none = none_some (unrelated T rows.parts v a.takes) h
    still (Flash v u a s n) b from h r none = false_true b.resync.settled r
    still (Commit v a s n) b from h r none = absurd (none refl)
    still (Revert v a s n) b from h r none = absurd (none refl)
    still m a from h r none = record { related = h; revertible = r; due = λ q. refl; aside = λ q. refl }

    module _ (m : Move) (a : Allowed write T m) where
      -- the row of the move's own volume
      own-row : (v : ℕ) → v ≡ target m → after write T m v ≡ next_row write m T
      own-row v is = ap (after write T m) is ∙ at_same T (target m) (next_row write m T)

      module _ (v : ℕ) (is : IsRevertible T v) (none : Settles v m → ⊥) (q : ℕ) (lt : q < (T v).volume.tracks) where
        -- another volume's move
        other : v ≢ target m → (shown (after write T m) v q ≡ shown T v q) × (set_aside (after write T m) v q ≡ set_aside T v q)
        other ne =
            let row : after write T m v ≡ T v = at_other T (target m) (next_row write m T) v ne in
            let still_is : IsRevertible (after write T m) v = record { from = is.from; related = ap source row ∙ is.related; revertible = ap (λ (r : Row). r.volume.fields.revertible) row ∙ is.revertible } in (
              others-stay write T rows m a v q ne lt,
              aside-is (after write T m) (rows-after write T m rows a) v q still_is (subst (λ (r : Row). q < r.volume.tracks) (sym row) lt) ∙ ap (λ (r : Row). r.aside q) row ∙ sym (aside-is T rows v q is lt),
            )

        own : v ≡ target m → (shown (after write T m) v q ≡ shown T v q) × (set_aside (after write T m) v q ≡ set_aside T v q)
        own same =
            let here : q < (T (target m)).volume.tracks = subst (λ v. q < (T v).volume.tracks) same lt in
            let left : Still m is.from = still m a is.from (ap (λ v. source (T v)) (sym same) ∙ is.related) (ap (λ v. (fields T v).revertible) (sym same) ∙ is.revertible) (λ h. none (subst (λ v. Settles v m) (sym same) h)) in
            let row : after write T m v ≡ next_row write m T = own-row v same in
            let still_is : IsRevertible (after write T m) v = record { from = is.from; related = ap source row ∙ left.related; revertible = ap (λ (r : Row). r.volume.fields.revertible) row ∙ left.revertible } in (
              ap (λ v. shown (after write T m) v q) same ∙ (own-shows write T rows m a q here ∙ left.due q ∙ sym (shown-due T rows.images (target m) q here)) ∙ ap (λ v. shown T v q) (sym same),
              aside-is (after write T m) (rows-after write T m rows a) v q still_is (subst (λ (r : Row). q < r.volume.tracks) (sym row) here)
                  ∙ (ap (λ (r : Row). r.aside q) row ∙ left.aside q) ∙ ap (λ v. (T v).aside q) (sym same) ∙ sym (aside-is T rows v q is lt),
            )

        pub both-stay : (shown (after write T m) v q ≡ shown T v q) × (set_aside (after write T m) v q ≡ set_aside T v q)
        both-stay = elim (eqb_tells v (target m)) [ inl p ↦ own p.1 | inr p ↦ other p.1 ]

    module _ (v q : ℕ) (lt : q < (T v).volume.tracks) where
      -- after a flash the view is the source's, and the one before is set aside
      pub flash-shows : (u a s n : ℕ) → Allowed write T (Flash v u a s n) → (shown (after write T (Flash v u a s n)) v q ≡ shown T u q) × (set_aside (after write T (Flash v u a s n)) v q ≡ shown T v q)
      flash-shows u a s n b =
          let m : Move = Flash v u a s n in
          let of : source (T v) ≡ Some u = b.resync.related ∙ ap (λ z. Some z) b.from in
          let fits = rows.structure.flash v u of in
          let row : after write T m v ≡ next_row write m T = own-row m b v refl in
          let is : IsRevertible (after write T m) v = record { from = u; related = ap source row ∙ of; revertible = ap (λ (r : Row). r.volume.fields.revertible) row } in (
            own-shows write T rows m b q lt ∙ sym (shown-due T rows.images u q (subst (λ n. q < n) fits.same_tracks lt)),
            aside-is (after write T m) (rows-after write T m rows b) v q is (subst (λ (r : Row). q < r.volume.tracks) (sym row) lt) ∙ ap (λ (r : Row). r.aside q) row ∙ sym (shown-due T rows.images v q lt),
          )

      pub commit-shows : (a s n : ℕ) → Allowed write T (Commit v a s n) → shown (after write T (Commit v a s n)) v q ≡ shown T v q
      commit-shows a s n b = own-shows write T rows (Commit v a s n) b q lt ∙ sym (shown-due T rows.images v q lt)

      pub revert-shows : (a s n : ℕ) → Allowed write T (Revert v a s n) → shown (after write T (Revert v a s n)) v q ≡ set_aside T v q
      revert-shows a s n b =
          own-shows write T rows (Revert v a s n) b q lt ∙ sym (aside-is T rows v q (record { from = b.from; related = b.related; revertible = b.revertible }) lt)
