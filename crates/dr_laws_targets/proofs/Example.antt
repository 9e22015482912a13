-- The example: who stands committed makes the newest group, until the target leaves; and a write that was replaced isn't held.
use Rattle.std.proofs.Common.{ℕ, ◌≡◌, inl, inr, refl, arith, true, false, cond, ◌&&◌, nat_eq, [], ◌∷◌}
use Rattle.std.proofs.lemmas.Bool.{and_parts, eqb-true}
use Rattle.dr_model.specs.declared.event.Event.TheVariants.{Issue, Ack, Back, Flashed}
use Rattle.dr_model.specs.Histories.{histories, lists}
use Rattle.dr_model.specs.Groups.{In}
use Rattle.dr_model.specs.NewestGroup.{NewestGroup}
use Rattle.dr_model.specs.HeldWrites.{WasAcknowledged, WasReplaced}
use Rattle.dr_laws_closed.specs.Moments.{is_one}
use Rattle.dr_laws_closed.proofs.Standings.{added}
use Rattle.dr_laws_attempts.proofs.Facts.{stood}
use Rattle.dr_laws_targets.specs.Committeds.{committeds}
use Rattle.dr_laws_targets.specs.Example.{finished, parted, restored}
use Rattle.dr_laws_targets.proofs.Places.{committed-stands}
use Rattle.dr_logic.proofs.Truth.{false_true}

who-stands : (n a : ℕ) → committeds finished 7 n a ≡ true → is_one 7 1 1 7 n a ≡ true
unfolding committeds
who-stands n a h = elim (added (is_one 7 1 1 7 n a) false h) [
  | inl is ↦ is
  | inr none ↦ false_true refl none
]

pub is-newest : NewestGroup finished 7 1
is-newest = record {
  primary = 1;
  committed = record { before = Flashed 7 1 1 11 21 ∷ Flashed 7 1 2 12 22 ∷ []; behind = []; target = 21; is = refl; stays = λ i. i };
  greatest = λ k a c. let b = and_parts (nat_eq 7 7) (nat_eq k 1 && nat_eq a 1) (who-stands k a (committed-stands 7 k a finished c)) in
      let e : k ≡ 1 = eqb-true k 1 (and_parts (nat_eq k 1) (nat_eq a 1) b.1).0 in omega arith;
}

who-is-left : (n a : ℕ) → committeds parted 7 n a ≡ true → cond (nat_eq 7 7 && nat_eq a 1) false (cond (is_one 7 1 1 7 n a) true false) ≡ true
unfolding committeds
who-is-left n a h = h

pub none-left : (n : ℕ) → NewestGroup parted 7 n → ⊥
none-left n g =
    let out = stood (nat_eq 7 7 && nat_eq g.primary 1) _ (who-is-left n g.primary (committed-stands 7 n g.primary parted g.committed)) in
    elim (added (is_one 7 1 1 7 n g.primary) false out.1) [
      | inl is ↦ let b = and_parts (nat_eq 7 7) (nat_eq n 1 && nat_eq g.primary 1) is in false_true out.0 (and_parts (nat_eq n 1) (nat_eq g.primary 1) b.1).1
      | inr none ↦ false_true refl none
    ]

pub was-acknowledged : WasAcknowledged restored 1 1 0
unfolding histories
was-acknowledged = record { before = Issue 1 1 0 0 0 [] ∷ []; behind = Back 1 0 21 ∷ []; is = refl; volume = refl; track = refl }

pub was-replaced : WasReplaced restored 1 1 0
was-replaced = record { before = Issue 1 1 0 0 0 [] ∷ Ack 1 ∷ []; behind = []; event = Back 1 0 21; is = refl; acknowledged = inr (inl refl); replaces = (refl, refl) }

pub not-held : In 1 (lists restored 1 0) → ⊥
unfolding histories
not-held i = i
