-- What the kind of a part says, and what both parts of a volume say together.
use Rattle.std.proofs.Common.{ℕ, ◌≡◌, ◌∙◌, refl, sym, true, false, Some}
use Rattle.std.proofs.lemmas.Bool.{false_from_ne_true}
use Rattle.dr_model.specs.declared.state.Part.{Part}
use Rattle.dr_model.specs.declared.state.Part.TheVariants.{Absent, Metro, Global}
use Rattle.dr_model.specs.Layout.{is_part}
use Rattle.dr_model.specs.Pairs.{is_kind, is_metro}
use Rattle.dr_model.specs.Table.{Row}
use Rattle.dr_model.specs.Laws.{RowParts, its_primary, its_secondary}
use Rattle.dr_logic.proofs.Choices.{chosen}

-- Global Copy is a kind of pair, and not Metro Mirror
pub global-part : (kind : Part) → is_kind Global kind ≡ true → is_part kind ≡ true
global-part Absent h = absurd cc
global-part Metro h = absurd cc
global-part Global h = refl

pub no-metro : (part : Part) → is_kind Global part ≡ true → is_metro part ≡ false
no-metro Absent h = refl
no-metro Metro h = absurd cc
no-metro Global h = refl

-- a Metro Mirror primary is a primary, and so is one from which a write goes over
pub metro-part : (p : Part) → is_metro p ≡ true → is_part p ≡ true
metro-part Metro h = refl
metro-part Absent h = absurd cc
metro-part Global h = absurd cc

pub global_metro : {P : Type 0} (kind : Part) → is_kind Global kind ≡ true → is_metro kind ≡ true → P
global_metro Absent g m = absurd cc
global_metro Metro g m = absurd cc
global_metro Global g m = absurd cc

-- a Metro Mirror primary is no secondary, and a volume with both parts has two partners
pub metro-second : (r : Row) → RowParts r → is_metro r.volume.fields.primary ≡ true → is_part r.volume.fields.secondary ≡ false
metro-second r fit is = false_from_ne_true (is_part r.volume.fields.secondary) (λ h. global_metro _ (fit.both (metro-part _ is) h).sends is)

pub two-partners : {P : Type 0} (r : Row) (u : ℕ) → RowParts r → its_primary r ≡ Some u → its_secondary r ≡ Some u → P
two-partners r u fit takes sends = let to = chosen _ _ u sends in let from = chosen _ _ u takes in absurd ((fit.both to.0 from.0).apart (to.1 ∙ sym from.1))
