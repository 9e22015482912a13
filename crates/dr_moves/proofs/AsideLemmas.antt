-- What a revertible target keeps aside, where one volume moved.
use Rattle.std.proofs.Common.{ℕ, ◌≡◌, ◌⊎◌, inl, inr, Bool, true, false, sym, subst}
use Rattle.std.proofs.lemmas.Bool.{cases_eq}
use Rattle.std.specs.FinSet.{remove}
use Rattle.dr_plant.specs.State.{PlantState}
use Rattle.dr_config.specs.Table.{ConfigTable}
use Rattle.dr_model.specs.Layout.{Fields}
use Rattle.dr_model.specs.Control.{Volume}
use Rattle.dr_model.specs.Moves.{Move, Land, Overwrite, Keep, Relate, Withdraw, Fetch, Reverse, Restore, Release, Store, Mirror, LandBoth, Flash, Commit, Revert, Carried, fields_left}
use Rattle.dr_model.specs.Relations.{is_bare, parted_if, fetched, noted, rewritten, withdrawn_if, turned, given_up}
use Rattle.dr_volume.specs.Update.{IsAsBefore, IsMovedKeeping, OthersStay}
use Rattle.dr_volume.specs.View.{volume_seen}
use Rattle.dr_moves.specs.Aside.{KeepsAside, AsideFits}
use Rattle.dr_moves.specs.Made.{Apart}
use Rattle.dr_facts.proofs.Tracks.{not_removed_from}

aside-less : (f : Fields) (t : ℕ) → KeepsAside f → KeepsAside (record f { blank = remove f.blank t })
aside-less f t keeps r k h = not_removed_from f.blank t k (keeps r k h)

aside-parted : (e : Bool) (f : Fields) → KeepsAside f → KeepsAside (parted_if e f)
aside-parted true f keeps = λ r. absurd (let e : false ≡ true = r in cc)
aside-parted false f keeps = keeps

aside-restored : (e : Bool) (n : ℕ) (f : Fields) → KeepsAside f → KeepsAside (withdrawn_if e n f)
aside-restored true n f keeps = λ r. absurd (let e : false ≡ true = r in cc)
aside-restored false n f keeps = keeps

-- no move touches it, but a flash, which sets aside what the target held
pub aside-kept : (m : Move) (x : Volume) → Apart x.fields.own x.fields.blank → KeepsAside x.fields → KeepsAside (fields_left m x)
aside-kept (Land w v t) x apart keeps = aside-less x.fields t keeps
aside-kept (Overwrite w v t) x apart keeps = aside-parted _ (rewritten (fetched x.fields t) t) (aside-less x.fields t keeps)
aside-kept (Keep v t) x apart keeps = aside-parted _ (noted (fetched x.fields t) t) (aside-less x.fields t keeps)
aside-kept (Relate v s options) x apart keeps = λ r. absurd (let e : false ≡ true = r in cc)
aside-kept (Withdraw v) x apart keeps = λ r. absurd (let e : false ≡ true = r in cc)
aside-kept (Fetch v t) x apart keeps = aside-parted _ (fetched x.fields t) (aside-less x.fields t keeps)
aside-kept (Reverse v left) x apart keeps = aside-restored (is_bare (turned x.fields).own) x.tracks (turned x.fields) keeps
aside-kept (Restore v t u) x apart keeps = aside-less x.fields t keeps
aside-kept (Release v t) x apart keeps = aside-restored (is_bare (given_up x.fields t).own) x.tracks (given_up x.fields t) keeps
aside-kept (Store v t u last) x apart keeps = aside-less x.fields t keeps
aside-kept (Mirror v t u w) x apart keeps = aside-less x.fields t keeps
aside-kept (LandBoth w v t) x apart keeps = aside-less x.fields t keeps
aside-kept (Flash v u a s n) x apart keeps = λ r. apart
aside-kept (Commit v a s n) x apart keeps = λ r. absurd (let e : false ≡ true = r in cc)
aside-kept (Revert v a s n) x apart keeps = λ r. absurd (let e : false ≡ true = r in cc)
aside-kept m x apart keeps = keeps

-- v is as it was, or got these fields
module _ {keeps_staged : Bool} (s u : PlantState) (c : ConfigTable) (v : ℕ) (f : Fields) (t : Carried) (fit : AsideFits s c) (keeps : KeepsAside f) where
  own : IsAsBefore s u c v ⊎ IsMovedKeeping keeps_staged s u c v f t → KeepsAside (volume_seen u c v).fields
  own (inl same) = subst (λ (x : Volume). KeepsAside x.fields) (sym same.volume) (fit.aside v)
  own (inr is) = subst (λ (x : Volume). KeepsAside x.fields) (sym is.volume) keeps

  pub aside-after : IsAsBefore s u c v ⊎ IsMovedKeeping keeps_staged s u c v f t → OthersStay s u c v → AsideFits u c
  aside-after how others = record {
    aside = λ q. elim (cases_eq q v) [
      | inl is ↦ subst (λ z. KeepsAside (volume_seen u c z).fields) (sym is) (own how)
      | inr ne ↦ subst (λ (x : Volume). KeepsAside x.fields) (sym (others q ne).volume) (fit.aside q)
    ];
  }
