-- Before the first cut the laws hold, and a volume that is newly defined leaves them.
use Rattle.std.proofs.Common.{ℕ, ◌≡◌, ap, true, false, Some}
use Rattle.std.specs.Prelude.{is_some}
use Rattle.dr_logic.specs.Tables.{at}
use Rattle.dr_model.specs.Layout.{Fields, is_part, no_fields}
use Rattle.dr_model.specs.Histories.{Lists, Write}
use Rattle.dr_model.specs.Moves.{Move, Hold, target}
use Rattle.dr_model.specs.Table.{Row, Table}
use Rattle.dr_model.specs.Rows.{after, next_row}
use Rattle.dr_model.specs.Laws.{SoundRows, its_primary, its_secondary}
use Rattle.dr_model.specs.Cuts.{Cuts, CutLaws, RowCuts, UnsentAsAtCut, SentAsAtCut, SealedAsAtCut, no_cuts, next_cuts}
use Rattle.dr_laws_cuts.specs.Sound.{CutsDefined, HeldDefined}
use Rattle.dr_facts.proofs.Tables.{at_cases, each-but, linked-but, at2_cases}
use Rattle.dr_logic.proofs.Choices.{chosen}
use Rattle.dr_logic.proofs.Truth.{false_true}

-- fields of a new volume: it has no part in a pair, records nothing and is sealed for none
no-first : {P : Type 0} (r : Row) (u : ℕ) → r.volume.fields ≡ no_fields → its_secondary r ≡ Some u → P
no-first r u bare h = false_true (ap (λ (f : Fields). is_part f.primary) bare) (chosen _ _ u h).0

no-second : {P : Type 0} (r : Row) (u : ℕ) → r.volume.fields ≡ no_fields → its_primary r ≡ Some u → P
no-second r u bare h = false_true (ap (λ (f : Fields). is_part f.secondary) bare) (chosen _ _ u h).0

silent : {P : Type 0} (r : Row) → r.volume.fields ≡ no_fields → r.volume.fields.recording ≡ true → P
silent r bare h = false_true (ap (λ (f : Fields). f.recording) bare) h

pub laws-start : (write : ℕ → Write) (T : Table) → ((v : ℕ) → (T v).volume.fields ≡ no_fields) → CutLaws write no_cuts T
laws-start write T bare = record {
  cut = λ v. record { recorder = λ h. silent (T v) (bare v) h; positive = λ n h. absurd cc; low = λ n h. absurd cc };
  unsent = λ v rec. silent (T v) (bare v) rec;
  sent = λ v u h rec. silent (T v) (bare v) rec;
  sealed = λ v u h. no-second (T v) u (bare v) h;
}

-- no volume that isn't defined was cut, or has a part in a pair
module _ (write : ℕ → Write) (c : Cuts) (T : Table) (rows : SoundRows T) (stand : CutsDefined c T) (v : ℕ) (y : Row) (undefined : (T v).defined ≡ false) (bare : y.volume.fields ≡ no_fields) where
  never : {P : Type 0} (n : ℕ) → is_some (c.by n v) ≡ true → P
  never n h = false_true undefined (stand n v h)

  no-primary-yet : {P : Type 0} (u : ℕ) → its_secondary (T u) ≡ Some v → P
  no-primary-yet u h = false_true undefined (rows.parts.secondary u v h).defined

  no-secondary-yet : {P : Type 0} (u : ℕ) → its_primary (T u) ≡ Some v → P
  no-secondary-yet u h = false_true undefined (rows.parts.primary u v h).defined

  pub laws-defined : CutLaws write c T → CutLaws write c (at T v y)
  laws-defined old = record {
    cut = each-but T v y (RowCuts c) (record { recorder = λ h. silent y bare h; positive = λ n h. never n h; low = λ n h. never n h }) (λ u ne. old.cut u);
    unsent = each-but T v y (UnsentAsAtCut write c) (λ rec. silent y bare rec) (λ u ne. old.unsent u);
    sent = linked-but T v y its_secondary (SentAsAtCut write c) (λ u ne h. no-first y u bare h) (λ h. no-first y v bare h) (λ u ne h. no-primary-yet u h) (λ u ne x out. old.sent u x);
    sealed = linked-but T v y its_primary (SealedAsAtCut write c) (λ u ne h. no-second y u bare h) (λ h. no-second y v bare h) (λ u ne h. no-secondary-yet u h) (λ u ne x out. old.sealed u x);
  }

-- who was cut stays defined
pub stand-defined : (c : Cuts) (T : Table) (v : ℕ) (y : Row) → y.defined ≡ true → CutsDefined c T → CutsDefined c (at T v y)
stand-defined c T v y is old n u = at_cases (λ u r. is_some (c.by n u) ≡ true → r.defined ≡ true) T v y (λ h. is) (λ q ne h. old n q h) u

still-defined : (write : ℕ → Write) (T : Table) (m : Move) (u : ℕ) → (T u).defined ≡ true → (after write T m u).defined ≡ true
still-defined write T m u = at_cases (λ u r. (T u).defined ≡ true → r.defined ≡ true) T (target m) (next_row write m T) (λ h. h) (λ q ne h. h) u

pub stand-next : (write : ℕ → Write) (c : Cuts) (T : Table) (now : Lists) (m : Move) → HeldDefined T m → CutsDefined c T → CutsDefined (next_cuts now m c) (after write T m)
stand-next write c T now (Hold v s n first) held old k u h = still-defined write T (Hold v s n first) u
    (at2_cases (λ k u o. is_some o ≡ true → (T u).defined ≡ true) c.by n v (Some s) (λ h. held) (λ k u ne h. old k u h) k u h)
stand-next write c T now m held old k u h = still-defined write T m u (old k u h)
