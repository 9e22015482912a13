-- Fields are their own normal form exactly where they are lawful, and stage a track of the volume or no bytes.
use Rattle.std.proofs.Common.{ℕ, ◌≡◌, ◌≤◌, ◌<◌, Bool, true, false, ◌&&◌, arith, sym, ◌∙◌, ap, refl, subst, nat_lt, inl, inr, List, Option, None, Some}
use Rattle.std.specs.Prelude.{is_some, if◌then◌else◌, IfSome}
use Rattle.std.specs.FinSet.{contains, empty, contains-empty}
use Rattle.std.specs.Ordering.{nat_cmp}
use Rattle.std.proofs.lemmas.Bool.Decides.{leb_tells}
use Rattle.dr_logic.specs.Bytes.{zeros}
use Rattle.dr_bits.specs.Tracks.{Tracks, first}
use Rattle.dr_bits.specs.Membership.{contains-of_test, lt_true, lt_false}
use Rattle.dr_bits.proofs.Laws.{same_tracks, contains-keep_tracks}
use Rattle.dr_model.specs.Layout.{is_part, only_if}
use Rattle.dr_model.specs.Lawful.{Low, HasSets, NoPrimary, NoSecondary, NoRelation, IsLawful}
use Rattle.dr_model.specs.declared.state.PairState.TheVariants.{CopyPending}
use Rattle.dr_model.specs.Moves.{Carried}
use Rattle.dr_volume.specs.declared.fields.Fields.{Fields}
use Rattle.dr_volume.specs.Plain.{plain, cut, normal, staged_below, IsNormal}
use Rattle.dr_volume.specs.Update.{staging}
use Rattle.dr_volume.proofs.EntryLaws.{entries-kept, has-entries_of}
use Rattle.dr_volume.proofs.Sets.{contains-cut}

-- The fields stage a track below n, or none and no bytes.
pub record StagesBelow (n : ℕ) (f : Fields) : Type 0 where
  pub track : (t : ℕ) → f.staged ≡ Some t → t < n
  pub bytes : f.staged ≡ None → f.staged_bytes ≡ zeros

-- a set below n is not changed by cutting it there, and a set that was cut is below n
cut-below : (n : ℕ) (s : Tracks) → n ≤ 256 → Low n s → cut n s ≡ s
cut-below n s few below = same_tracks _ s (λ q.
    elim (leb_tells n q) as (λ _. contains (cut n s) q ≡ contains s q) [
      | inl p ↦ let a = contains-cut n s q few in let past = lt_false q n p.1 in a ∙ past_end q past
      | inr p ↦ let a = contains-cut n s q few in let low = lt_true q n p.1 in grind (arith, a, low)
    ])
  where
    past_end : (q : ℕ) → nat_lt q n ≡ false → (contains s q && nat_lt q n) ≡ contains s q
    past_end q past = elim (contains s q) as (λ b. contains s q ≡ b → (b && nat_lt q n) ≡ b) [
      | true ↦ λ is. absurd (let low = lt_true q n (below q is) in cc)
      | false ↦ λ is. refl
    ] refl

below-cut : (n : ℕ) (s : Tracks) → Low n (cut n s)
below-cut n s q is =
    let a = contains-keep_tracks s (first n) q in
    let b = contains-of_test (λ t. nat_lt t n) q in
    elim (leb_tells n q) as (λ _. q < n) [
      | inl p ↦ absurd (let past = lt_false q n p.1 in grind (arith, a, b, past, is))
      | inr p ↦ p.1
    ]

below-only_if : (there : Bool) (n : ℕ) (s : Tracks) → Low n (only_if there (cut n s) empty)
below-only_if true n s = below-cut n s
below-only_if false n s = λ q is. absurd (let none = contains-empty nat_cmp q in cc)

set_fits : (there : Bool) (n : ℕ) (s : Tracks) → n ≤ 256 → Low n s → (there ≡ false → s ≡ empty) → only_if there (cut n s) empty ≡ s
set_fits true n s few below none = cut-below n s few below
set_fits false n s few below none = sym (none refl)

value_fits : {X : Type 0} (there : Bool) (x zero : X) → (there ≡ false → x ≡ zero) → only_if there x zero ≡ x
value_fits true x zero none = refl
value_fits false x zero none = sym (none refl)

flag_fits : (there flag : Bool) → (there ≡ false → flag ≡ false) → (there && flag) ≡ flag
flag_fits true flag none = refl
flag_fits false flag none = sym (none refl)

staged_fits : (n : ℕ) (o : Option ℕ) → ((t : ℕ) → o ≡ Some t → t < n) → staged_below n o ≡ o
staged_fits n None below = refl
staged_fits n (Some t) below = ap (λ b. if b then Some t else None) (lt_true t n (below t refl))

bytes_fit : (o : Option ℕ) (bytes : List ℕ) → (o ≡ None → bytes ≡ zeros) → only_if (is_some o) bytes zeros ≡ bytes
bytes_fit None bytes none = sym (none refl)
bytes_fit (Some t) bytes none = refl

-- lawful fields are their own normal form
pub normal-of_lawful : (n : ℕ) (f : Fields) → n ≤ 256 → IsLawful n (plain f) → StagesBelow n f → IsNormal n f
unfolding normal
normal-of_lawful n f few law stages =
    let first : Bool = is_part f.primary in
    let second : Bool = is_part f.secondary in
    let relation : Bool = f.related in
    let sets : HasSets n (plain f) = law.sets in
    let staged = staged_fits n f.staged stages.track in
    λ i. record f {
      primary_state = value_fits first f.primary_state CopyPending (λ absent. (law.primary absent).0) i;
      primary_partner = record { 0 = value_fits first f.primary_partner.0 0 (λ absent. (law.primary absent).1) i };
      coordination = flag_fits first f.coordination (λ absent. (law.primary absent).2) i;
      long_busy = flag_fits first f.long_busy (λ absent. (law.primary absent).3) i;
      recording = flag_fits first f.recording (λ absent. (law.primary absent).4) i;
      out_of_sync = set_fits first n f.out_of_sync few sets.out_of_sync_low (λ absent. (law.primary absent).5) i;
      change_recording = set_fits first n f.change_recording few sets.change_recording_low (λ absent. (law.primary absent).6) i;
      secondary_state = value_fits second f.secondary_state CopyPending (λ absent. (law.secondary absent).0) i;
      secondary_partner = record { 0 = value_fits second f.secondary_partner.0 0 (λ absent. (law.secondary absent).1) i };
      seal = value_fits second f.seal 0 (λ absent. (law.secondary absent).2) i;
      source = record { 0 = value_fits relation f.source.0 0 (λ absent. (law.relation absent).0) i };
      nocopy = flag_fits relation f.nocopy (λ absent. (law.relation absent).1) i;
      persistent = flag_fits relation f.persistent (λ absent. (law.relation absent).2) i;
      recorded = flag_fits relation f.recorded (λ absent. (law.relation absent).3) i;
      inhibited = flag_fits relation f.inhibited (λ absent. (law.relation absent).4) i;
      own = set_fits relation n f.own few sets.own_low (λ absent. (law.relation absent).5) i;
      previous_own = set_fits relation n f.previous_own few sets.previous_own_low (λ absent. (law.relation absent).6) i;
      source_changes = set_fits relation n f.source_changes few sets.source_changes_low (λ absent. (law.relation absent).7) i;
      target_changes = set_fits relation n f.target_changes few sets.target_changes_low (λ absent. (law.relation absent).8) i;
      sequence = value_fits relation f.sequence 0 (λ absent. (law.relation absent).9) i;
      previous_sequence = value_fits relation f.previous_sequence 0 (λ absent. (law.relation absent).10) i;
      revertible = flag_fits relation f.revertible (λ absent. (law.relation absent).11) i;
      reversing = flag_fits relation f.reversing (λ absent. (law.relation absent).12) i;
      member = flag_fits relation f.member (λ absent. (law.relation absent).13) i;
      session = value_fits relation f.session 0 (λ absent. (law.relation absent).14) i;
      blank = cut-below n f.blank few sets.blank_low i;
      entries = entries-kept n f.entries law.entries i;
      staged = staged i;
      staged_bytes = (ap (λ o. only_if (is_some o) f.staged_bytes zeros) staged ∙ bytes_fit f.staged f.staged_bytes stages.bytes) i;
    }

stages-staging : (n : ℕ) (f : Fields) (m : Carried) → IfSome m (λ t. t.0 < n) → StagesBelow n (staging m f)
stages-staging n f None within = record { track = λ t some. absurd (cc some); bytes = λ none. refl }
stages-staging n f (Some c) within = record { track = λ t some. subst (λ k. k < n) (let e : c.0 ≡ t = (cc some) in e) within; bytes = λ none. absurd (cc none) }

lawful-staging : (n : ℕ) (f : Fields) (m : Carried) → IsLawful n (plain f) → IsLawful n (plain (staging m f))
lawful-staging n f None law = law
lawful-staging n f (Some c) law = law

-- and so are those that stage a track of the volume, or none
pub normal-staging : (n : ℕ) (f : Fields) (m : Carried) → n ≤ 256 → IsLawful n (plain f) → IfSome m (λ t. t.0 < n) → IsNormal n (staging m f)
normal-staging n f m few law within = normal-of_lawful n (staging m f) few (lawful-staging n f m law) (stages-staging n f m within)

sets_below : (n : ℕ) (f : Fields) → HasSets n (plain (normal n f))
unfolding normal
sets_below n f = record {
  out_of_sync_low = below-only_if (is_part f.primary) n f.out_of_sync;
  change_recording_low = below-only_if (is_part f.primary) n f.change_recording;
  own_low = below-only_if f.related n f.own;
  previous_own_low = below-only_if f.related n f.previous_own;
  source_changes_low = below-only_if f.related n f.source_changes;
  target_changes_low = below-only_if f.related n f.target_changes;
  blank_low = below-cut n f.blank;
}

no_primary : (n : ℕ) (f : Fields) → is_part f.primary ≡ false → NoPrimary (plain (normal n f))
unfolding normal
no_primary n f absent = (
  ap (λ b. only_if b f.primary_state CopyPending) absent,
  ap (λ b. only_if b f.primary_partner.0 0) absent,
  ap (λ b. b && f.coordination) absent,
  ap (λ b. b && f.long_busy) absent,
  ap (λ b. b && f.recording) absent,
  ap (λ b. only_if b (cut n f.out_of_sync) empty) absent,
  ap (λ b. only_if b (cut n f.change_recording) empty) absent,
)

no_secondary : (n : ℕ) (f : Fields) → is_part f.secondary ≡ false → NoSecondary (plain (normal n f))
unfolding normal
no_secondary n f absent = (
  ap (λ b. only_if b f.secondary_state CopyPending) absent,
  ap (λ b. only_if b f.secondary_partner.0 0) absent,
  ap (λ b. only_if b f.seal 0) absent,
)

no_relation : (n : ℕ) (f : Fields) → f.related ≡ false → NoRelation (plain (normal n f))
unfolding normal
no_relation n f absent = (
  ap (λ b. only_if b f.source.0 0) absent,
  ap (λ b. b && f.nocopy) absent,
  ap (λ b. b && f.persistent) absent,
  ap (λ b. b && f.recorded) absent,
  ap (λ b. b && f.inhibited) absent,
  ap (λ b. only_if b (cut n f.own) empty) absent,
  ap (λ b. only_if b (cut n f.previous_own) empty) absent,
  ap (λ b. only_if b (cut n f.source_changes) empty) absent,
  ap (λ b. only_if b (cut n f.target_changes) empty) absent,
  ap (λ b. only_if b f.sequence 0) absent,
  ap (λ b. only_if b f.previous_sequence 0) absent,
  ap (λ b. b && f.revertible) absent,
  ap (λ b. b && f.reversing) absent,
  ap (λ b. b && f.member) absent,
  ap (λ b. only_if b f.session 0) absent,
)

-- a normal form is lawful
pub lawful-normal : (n : ℕ) (f : Fields) → IsLawful n (plain (normal n f))
unfolding normal
lawful-normal n f = record {
  sets = sets_below n f;
  primary = λ absent. no_primary n f absent;
  secondary = λ absent. no_secondary n f absent;
  relation = λ absent. no_relation n f absent;
  entries = has-entries_of n f.entries;
}
