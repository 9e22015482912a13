-- The laws of the entry that a track has, and of the one that a change of entries takes into use.
use Rattle.std.proofs.Common.{ℕ, ◌≡◌, true, false, length, zip, sym, ◌∙◌, ap, refl, arith, Option, None, Some}
use Rattle.std.specs.List.{list_any}
use Rattle.std.proofs.lemmas.Bool.Decides.{Decides-eqb}
use Rattle.std.proofs.lemmas.Bool.{eq-eqb}
use Rattle.std.proofs.lemmas.Slice.Zip.{get_or-zip, length-zip}
use Rattle.std.proofs.lemmas.List.Quantifiers.{position-Some}
use Rattle.std.proofs.lemmas.List.Folds.{list_any-from_Any}
use Rattle.dr_config.proofs.KeyLaws.{none-any}
use Rattle.dr_model.specs.Layout.{Entries, entry_at, entry_of, entry_taken, is_taken, is_track}
use Rattle.dr_model.specs.Lawful.{HasEntries, EntriesFollow}
use Rattle.dr_volume.proofs.EntryLaws.{entry-within, get_or_default}

-- the entry of a track names it
pub entry_of-names : (es : Entries) (t k : ℕ) → entry_of es t ≡ Some k → entry_at es k ≡ Some t
entry_of-names es t k is = named (entry_at es k) refl (position-Some (λ e. is_track e t) es k None is).1
  where
    named : (e : Option ℕ) → entry_at es k ≡ e → is_track e t ≡ true → entry_at es k ≡ Some t
    named None at track = absurd (cc)
    named (Some s) at track = at ∙ ap (λ q. Some q) (sym ((Decides-eqb t s).0 track))

-- where used entries name different tracks, one that names a track is that of the track
pub entry_of-is : (n : ℕ) (es : Entries) → HasEntries n es → (k t : ℕ) → entry_at es k ≡ Some t → entry_of es t ≡ Some k
entry_of-is n es law k t is = elim (entry_of es t) as (λ o. entry_of es t ≡ o → o ≡ Some k) [
  | None ↦ λ none. absurd (
      let any : list_any (λ e. is_track e t) es ≡ true = list_any-from_Any (λ e. is_track e t) es (k, Some t, entry-within es k t is, get_or_default es k t is, eq-eqb t t refl) in
      let never : true ≡ false = sym any ∙ none-any (λ e. is_track e t) es none in cc)
  | Some j ↦ λ at. ap (λ q. Some q) (law.apart j k t (entry_of-names es t j at) is)
] refl

-- an entry that is taken into use was free, and names a track
pub taken-some : (old next : Entries) (k : ℕ) → entry_taken old next ≡ Some k → (entry_at old k ≡ None) × ((t : ℕ) × (entry_at next k ≡ Some t))
taken-some old next k is =
    let at = position-Some is_taken (zip old next) k (None, None) is in
    let len = length-zip old next in
    let pair = get_or-zip old next k (None, None) (let within = at.0 in omega (arith, len, within)) (let within = at.0 in omega (arith, len, within)) in
    both (entry_at old k) (entry_at next k) refl refl (ap is_taken (sym pair) ∙ at.1)
  where
    both : (e f : Option ℕ) → entry_at old k ≡ e → entry_at next k ≡ f → is_taken (e, f) ≡ true → (entry_at old k ≡ None) × ((t : ℕ) × (entry_at next k ≡ Some t))
    both None (Some t) was is taken = (was, (t, is))
    both None None was is taken = absurd (cc)
    both (Some s) f was is taken = absurd (cc)

-- if none is, each that is used was used
pub taken-none : (old next : Entries) → length old ≡ length next → entry_taken old next ≡ None → (k t : ℕ) → entry_at next k ≡ Some t → entry_at old k ≡ None → true ≡ false
taken-none old next same none k t is free =
    let within = entry-within next k t is in
    let len = length-zip old next in
    let pair = get_or-zip old next k (None, Some t) (omega (arith, same, within)) within ∙ (λ i. (free i, get_or_default next k t is i)) in
    sym (list_any-from_Any is_taken (zip old next) (k, (None, Some t), (omega (arith, len, same, within)), pair, refl))
    ∙ none-any is_taken (zip old next) none

-- the one that is taken is the one that was free and is used
pub taken-is : (old next : Entries) → length old ≡ length next → EntriesFollow old next → (k t : ℕ) → entry_at old k ≡ None → entry_at next k ≡ Some t → entry_taken old next ≡ Some k
taken-is old next same follows k t free used = elim (entry_taken old next) as (λ o. entry_taken old next ≡ o → o ≡ Some k) [
  | None ↦ λ none. absurd (let never = taken-none old next same none k t used free in cc)
  | Some j ↦ λ is. let x = taken-some old next j is in ap (λ q. Some q) (follows.one j k x.1.0 t x.0 x.1.1 free used)
] refl

-- entries that stay take none into use
pub taken-same : (es : Entries) → entry_taken es es ≡ None
taken-same es = elim (entry_taken es es) as (λ o. entry_taken es es ≡ o → o ≡ None) [
  | None ↦ λ none. refl
  | Some k ↦ λ is. absurd (let x = taken-some es es k is in let never : None ≡ Some x.1.0 = sym x.0 ∙ x.1.1 in cc)
] refl
