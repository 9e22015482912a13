-- What sound rows say of volumes that may record, and of pairs: used by each law on cuts.
use Rattle.std.proofs.Common.{ℕ, ◌≡◌, ◌<◌, refl, ap, sym, ◌∙◌, Bool, true, false, ◌&&◌, nat_eq, Some, None, subst}
use Rattle.std.proofs.lemmas.Bool.{and_parts, eqb-true}
use Rattle.dr_model.specs.Layout.{is_part}
use Rattle.dr_model.specs.Histories.{Write}
use Rattle.dr_model.specs.Pairs.{is_metro}
use Rattle.dr_model.specs.Moves.{Move, MakeSecondary, MakePrimary, DropPrimary, DropSecondary, TakeOver, LeavePrimary, Yield, target}
use Rattle.dr_model.specs.Table.{Table}
use Rattle.dr_model.specs.Rows.{next_row}
use Rattle.dr_model.specs.Laws.{SoundRows, source, its_primary, its_secondary, fields}
use Rattle.dr_model.specs.Allowed.{Allowed, Kept, MayReceive}
use Rattle.dr_logic.proofs.Choices.{chosen, choose_none}
use Rattle.dr_facts.proofs.Parts.{global-part, global_metro}
use Rattle.dr_logic.proofs.Truth.{false_true}

module _ (T : Table) (rows : SoundRows T) where
  -- one that records is a primary of Global Copy: no target, no secondary, and not of Metro Mirror
  pub first : (v : ℕ) → (fields T v).recording ≡ true → is_part (fields T v).primary ≡ true
  first v rec = global-part _ ((rows.recorders v).global rec)

  pub target-still : {P : Type 0} (v s : ℕ) → source (T v) ≡ Some s → (fields T v).recording ≡ true → P
  target-still v s is rec = false_true ((rows.parts.fit v).no_primary (chosen _ _ s is).0) (first v rec)

  -- a volume that is no primary isn't held
  pub plain-free : (v : ℕ) → is_part (fields T v).primary ≡ false → (fields T v).coordination ≡ false
  plain-free v plain = free (fields T v).coordination refl
    where
      free : (held : Bool) → (fields T v).coordination ≡ held → held ≡ false
      free true e = false_true plain (first v ((rows.recorders v).holds e))
      free false e = refl

  -- and takes what comes to it, since it records nothing
  pub plain-receives : (v t : ℕ) → is_part (fields T v).primary ≡ false → t < (T v).volume.tracks → Kept T v t → MayReceive T v t
  plain-receives v t plain low kept = record { low = low; kept = kept; free = plain-free v plain; sent = λ rec. false_true plain (first v rec) }

  pub metro-still : {P : Type 0} (v : ℕ) → is_metro (fields T v).primary ≡ true → (fields T v).recording ≡ true → P
  metro-still v is rec = global_metro _ ((rows.recorders v).global rec) is

  -- a target is no secondary
  pub target-second : {P : Type 0} (v s u : ℕ) → source (T v) ≡ Some s → its_primary (T v) ≡ Some u → P
  target-second v s u is h = false_true ((rows.parts.fit v).no_secondary (chosen _ _ s is).0) (chosen _ _ u h).0

  -- so neither of a pair is a target: what both contain is due on both
  unrelated : (v : ℕ) (r : Bool) → (fields T v).related ≡ r → (r ≡ true → ⊥) → source (T v) ≡ None
  unrelated v true is not = absurd (not refl)
  unrelated v false is not = choose_none _ _ is

  pub plain-second : (v u : ℕ) → its_primary (T v) ≡ Some u → source (T v) ≡ None
  plain-second v u h = unrelated v (fields T v).related refl (λ r. false_true ((rows.parts.fit v).no_secondary r) (chosen _ _ u h).0)

  pub plain-first : (v u : ℕ) → its_secondary (T v) ≡ Some u → source (T v) ≡ None
  plain-first v u h = unrelated v (fields T v).related refl (λ r. false_true ((rows.parts.fit v).no_primary r) (chosen _ _ u h).0)

  pub due-equal : (v u t : ℕ) → its_secondary (T v) ≡ Some u → its_primary (T u) ≡ Some v → t < (T v).volume.tracks → (T u).bytes t ≡ (T v).bytes t → (T u).due t ≡ (T v).due t
  due-equal v u t sends takes lt same =
      sym (rows.images.plain u (plain-second u v takes) t (subst (λ n. t < n) (rows.parts.secondary v u sends).same_tracks lt)) ∙ same
      ∙ rows.images.plain v (plain-first v u sends) t lt

  -- no volume is its own partner
  pub no-second : {P : Type 0} (v : ℕ) → its_secondary (T v) ≡ Some v → P
  no-second v h = absurd ((rows.parts.secondary v v h).apart refl)

  pub no-first : {P : Type 0} (v : ℕ) → its_primary (T v) ≡ Some v → P
  no-first v h = absurd ((rows.parts.primary v v h).apart refl)

  module _ (write : ℕ → Write) where
    -- nor is it after a move
    pub no-first-then : {P : Type 0} (m : Move) → Allowed write T m → its_primary (next_row write m T) ≡ Some (target m) → P
    no-first-then (MakeSecondary v u kind state) a h = absurd (a.apart (ap (λ j. (T j).volume.server) (sym (chosen (is_part kind) u v h).1)))
    no-first-then (DropSecondary v) a h = absurd cc
    no-first-then (TakeOver v) a h = absurd cc
    no-first-then (LeavePrimary v) a h = absurd cc
    no-first-then (Yield v u kind state) a h = no-second v (a.sends ∙ ap (λ j. Some j) (chosen (is_part kind) u v h).1)
    no-first-then m a h = no-first (target m) h

    pub no-second-then : {P : Type 0} (m : Move) → Allowed write T m → its_secondary (next_row write m T) ≡ Some (target m) → P
    no-second-then (MakePrimary v u kind state full) a h = no-first v (subst (λ j. its_primary (T j) ≡ Some v) (chosen (is_part kind) u v h).1 a.takes)
    no-second-then (DropPrimary v) a h = absurd cc
    no-second-then (TakeOver v) a h = no-first v h
    no-second-then (Yield v u kind state) a h = absurd cc
    no-second-then m a h = no-second (target m) h

-- an attempt that is recorded
pub recorded : (n attempt : ℕ) (rec : Bool) → (rec && nat_eq attempt n) ≡ true → (rec ≡ true) × (attempt ≡ n)
recorded n attempt rec h = let both = and_parts _ _ h in (both.0, eqb-true attempt n both.1)
