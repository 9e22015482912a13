-- What is read of a volume depends on the gate's choice, the record in the chosen slot and the tracks' own blocks.
use Rattle.std.proofs.Common.{ℕ, ◌≡◌, ◌≤◌, ◌<◌, Bool, true, false, not, ◌||◌, List, sym, ◌∙◌, ap, refl, nat_lt, nat_eq, Option, None, Some, ◌⊎◌, inl, inr, arith, ◌&&◌}
use Rattle.std.specs.Prelude.{if◌then◌else◌, IfSome, is_some, unwrap_or}
use Rattle.std.specs.FinSet.{contains}
use Rattle.std.proofs.lemmas.Bool.Decides.{Decides-eqb, nat_tests}
use Rattle.std.proofs.lemmas.Bool.{cases_order}
use Rattle.dr_logic.specs.Bytes.{zeros}
use Rattle.dr_ids.specs.Sizes.{track_block, side_block}
use Rattle.dr_ids.specs.BigEndian.{be16_at}
use Rattle.dr_bits.specs.Membership.{lt_true, lt_false}
use Rattle.dr_config.specs.declared.entries.VolumeEntry.{VolumeEntry}
use Rattle.dr_model.specs.Layout as layout
use Rattle.dr_model.specs.Layout.{Blocks, chosen, slot_chosen, is_staged, fields_of, staged_of, physical, only_if, entry_at, entry_of, entry_taken}
use Rattle.dr_model.specs.Control.{Volume}
use Rattle.dr_model.specs.Moves.{Carried, is_carried, carried_bytes, staged_after, moved_keeping, tracks_after, saved_after, saved_by}
use Rattle.dr_volume.specs.declared.fields.Fields.{Fields}
use Rattle.dr_model.specs.Lawful.{IsLawful, HasEntries, EntriesFollow}
use Rattle.dr_volume.specs.Plain.{plain, normal, IsNormal}
use Rattle.dr_volume.specs.Record.{raw_of}
use Rattle.dr_volume.specs.View.{volume_on, track_on, saved_on, side_in}
use Rattle.dr_volume.specs.Update.{track_with, staging, saving, side_for, kept_filled, staged_next, given_way, next_record, Covers}
use Rattle.dr_volume.proofs.EntryLaws.{has-entries_of}
use Rattle.dr_volume.proofs.TakenLaws.{entry_of-names, entry_of-is, taken-is}
use Rattle.dr_volume.proofs.LawfulLaws.{normal-staging}
use Rattle.dr_volume.proofs.RecordLaws.{plain-normal, staged-normal}

-- the same record gives the same fields, the same staged track and the same staged bytes
pub fields-raw : (n : ℕ) (x y : Blocks) → n ≤ 256 → raw_of x ≡ raw_of y → fields_of n x ≡ fields_of n y
fields-raw n x y few h = sym (plain-normal n x few) ∙ ap (λ f. plain (normal n f)) h ∙ plain-normal n y few

pub staged-raw : (n : ℕ) (x y : Blocks) → raw_of x ≡ raw_of y → staged_of n x ≡ staged_of n y
staged-raw n x y h = sym (staged-normal n x) ∙ ap (λ f. (normal n f).staged) h ∙ staged-normal n y

pub bytes-raw : (x y : Blocks) → raw_of x ≡ raw_of y → x 5 ≡ y 5
bytes-raw x y h = ap (λ (f : Fields). f.staged_bytes) h

-- a track whose own block isn't read: it is staged or blank
abbrev pub hides : ℕ → Blocks → ℕ → Bool
hides n b t = is_staged (layout.staged n b) t || contains (layout.fields n b).blank t

-- what a device stages, with its bytes
abbrev pub staged_on : ℕ → Blocks → Carried
staged_on n b = track_with (layout.staged n b) (chosen b 5)

-- the entries of a device
abbrev pub entries_on : ℕ → Blocks → layout.Entries
entries_on n b = (layout.fields n b).entries

-- a track of a device that the volume has
abbrev pub track_of : ℕ → Blocks → ℕ → List ℕ
track_of n b t = if nat_lt t n then physical n b t else zeros

-- what a move of a device saves that is given these fields
abbrev pub saving_on : ℕ → Blocks → Fields → Option (ℕ × List ℕ)
saving_on n b f = saving n (entries_on n b) f.entries (track_of n b)

-- The blocks c read as b do: the same choice, the same record, the own block of each track that is read there, and the side block of each
-- entry that is used.
pub record ReadsAs (n : ℕ) (b c : Blocks) : Type 0 where
  pub slot : slot_chosen c ≡ slot_chosen b
  pub record_same : raw_of (chosen c) ≡ raw_of (chosen b)
  pub own : (t : ℕ) → t < n → hides n b t ≡ false → c (track_block t) ≡ b (track_block t)
  pub side : (k t : ℕ) → entry_at (entries_on n b) k ≡ Some t → c (side_block n k) ≡ b (side_block n k)

-- The blocks c read as b did with these fields in the other slot, which stage what they do then; the track that gives way stands in
-- its own block, and what is saved in the side block of the entry that is taken into use.
pub record ReadsNext (n : ℕ) (b c : Blocks) (keeps : Bool) (f : Fields) (m : Carried) : Type 0 where
  pub slot : slot_chosen c ≡ not (slot_chosen b)
  pub record_next : raw_of (chosen c) ≡ next_record keeps (staged_on n b) f m
  pub own : (t : ℕ) → t < n → is_carried (given_way m (staged_on n b)) t ≡ false → c (track_block t) ≡ b (track_block t)
  pub way : (t : ℕ) → is_carried (given_way m (staged_on n b)) t ≡ true → c (track_block t) ≡ chosen b 5
  pub side : (k t : ℕ) → entry_at (entries_on n b) k ≡ Some t → c (side_block n k) ≡ b (side_block n k)
  pub saved : (q : ℕ × List ℕ) → saving_on n b f ≡ Some q → c q.0 ≡ q.1

-- the staged track stands in its own block too
abbrev pub StandsOwn : ℕ → Blocks → Type 0
StandsOwn n b = (t : ℕ) → is_staged (layout.staged n b) t ≡ true → b (track_block t) ≡ chosen b 5

physical_is : (n : ℕ) (b : Blocks) (k : ℕ) → physical n b k ≡ (if is_staged (layout.staged n b) k then chosen b 5 else if contains (layout.fields n b).blank k then zeros else b (track_block k))
unfolding physical
physical_is n b k = refl

-- what the last of three branches gives, where neither test holds
last_branch : (p q : Bool) (x y z w : List ℕ) → (p ≡ false → q ≡ false → z ≡ w) → (if p then x else if q then y else z) ≡ (if p then x else if q then y else w)
last_branch true q x y z w h = refl
last_branch false true x y z w h = refl
last_branch false false x y z w h = h refl refl

hidden_not : (p q : Bool) → p ≡ false → q ≡ false → (p || q) ≡ false
hidden_not p q none filled i = none i || filled i

physical-same : (n : ℕ) (b c : Blocks) (k : ℕ) → n ≤ 256 → k < n → ReadsAs n b c → physical n c k ≡ physical n b k
physical-same n b c k few low h =
    let staged = staged-raw n (chosen c) (chosen b) h.record_same in
    let fields = fields-raw n (chosen c) (chosen b) few h.record_same in
    let bytes = bytes-raw (chosen c) (chosen b) h.record_same in
    physical_is n c k
    ∙ (λ i. if is_staged (staged i) k then bytes i else if contains (fields i).blank k then zeros else c (track_block k))
    ∙ last_branch (is_staged (layout.staged n b) k) (contains (layout.fields n b).blank k) (chosen b 5) zeros (c (track_block k)) (b (track_block k)) (λ free filled. h.own k low (hidden_not _ _ free filled))
    ∙ sym (physical_is n b k)

pub volume-same : (b c : Blocks) (e : VolumeEntry) → e.tracks ≤ 256 → ReadsAs e.tracks b c → volume_on c (Some e) ≡ volume_on b (Some e)
volume-same b c e few h =
    let v : Volume = volume_on b (Some e) in
    λ i. record v {
      slot = h.slot i;
      fields = fields-raw e.tracks (chosen c) (chosen b) few h.record_same i;
      staged = staged-raw e.tracks (chosen c) (chosen b) h.record_same i;
    }

below_or_not : (k n : ℕ) → (k < n) ⊎ (n ≤ k)
below_or_not k n = elim (cases_order k n) [ inl e ↦ inr (omega arith) | inr o ↦ elim o [ inl l ↦ inl l | inr g ↦ inr (omega arith) ] ]

pub track-same : (b c : Blocks) (e : VolumeEntry) (k : ℕ) → e.tracks ≤ 256 → ReadsAs e.tracks b c → track_on c (Some e) k ≡ track_on b (Some e) k
track-same b c e k few h = elim (below_or_not k e.tracks) [
  | inl low ↦ ap (λ x. if nat_lt k e.tracks then x else zeros) (physical-same e.tracks b c k few low h)
  | inr high ↦
      let past = lt_false k e.tracks high in
      ap (λ p. if p then physical e.tracks c k else zeros) past ∙ sym (ap (λ p. if p then physical e.tracks b k else zeros) past)
]

-- and so does what is saved
pub saved-same : (b c : Blocks) (e : VolumeEntry) (t : ℕ) → e.tracks ≤ 256 → ReadsAs e.tracks b c → saved_on c (Some e) t ≡ saved_on b (Some e) t
saved-same b c e t few h =
    ap (λ (f : layout.Fields). side_in c e.tracks (entry_of f.entries t)) (fields-raw e.tracks (chosen c) (chosen b) few h.record_same)
    ∙ elim (entry_of (entries_on e.tracks b) t) as (λ o. entry_of (entries_on e.tracks b) t ≡ o → side_in c e.tracks o ≡ side_in b e.tracks o) [
      | None ↦ λ none. refl
      | Some k ↦ λ is. h.side k t (entry_of-names (entries_on e.tracks b) t k is)
    ] refl

pub plain-staging : (m : Carried) (f : Fields) → plain (staging m f) ≡ plain f
plain-staging None f = refl
plain-staging (Some t) f = refl

is_staged-staging : (m : Carried) (f : Fields) (k : ℕ) → is_staged (staging m f).staged k ≡ is_carried m k
is_staged-staging None f k = refl
is_staged-staging (Some t) f k = refl

pub bytes-staging : (m : Carried) (f : Fields) → (staging m f).staged_bytes ≡ carried_bytes m
bytes-staging None f = refl
bytes-staging (Some t) f = refl

-- a track that is staged is one of the volume's
staged_below : (n k : ℕ) (there low : Bool) (o : Option ℕ) → nat_lt k n ≡ low → o ≡ (if there && low then Some k else None) → IfSome o (λ t. t < n)
staged_below n k there low None h is = tt
staged_below n k true true (Some t) h is = let e : t ≡ k = cc in grind (arith, nat_tests)
staged_below n k true false (Some t) h is = absurd (cc)
staged_below n k false low (Some t) h is = absurd (cc)

pub staged-low : (n : ℕ) (b : Blocks) → IfSome (layout.staged n b) (λ t. t < n)
unfolding layout.staged_of
staged-low n b = staged_below n (be16_at (chosen b 0) 14) (nat_eq (layout.byte (chosen b 0) 7) 1) (nat_lt (be16_at (chosen b 0) 14) n) _ refl refl

-- a track, or none
abbrev track_unless : Bool → ℕ → List ℕ → Carried
track_unless none t bytes = if none then None else Some (t, bytes)

-- what is staged next is one of the volume's tracks
unless-within : (n t : ℕ) (bytes : List ℕ) (none : Bool) → t < n → IfSome (track_unless none t bytes) (λ k. k.0 < n)
unless-within n t bytes true low = tt
unless-within n t bytes false low = low

next-within : (n : ℕ) (keeps : Bool) (blank : layout.Tracks) (m : Carried) (o : Option ℕ) (bytes : List ℕ) → IfSome m (λ t. t.0 < n) → IfSome o (λ t. t < n) → IfSome (staged_next keeps blank m (track_with o bytes)) (λ t. t.0 < n)
next-within n keeps blank (Some c) o bytes within low = within
next-within n false blank None o bytes within low = tt
next-within n true blank None None bytes within low = tt
next-within n true blank None (Some t) bytes within low = unless-within n t bytes (contains blank t) low

-- and it is what the machine says
unless-staged : (f : Fields) (t : ℕ) (bytes : List ℕ) (none : Bool) → (staging (track_unless none t bytes) f).staged ≡ (if none then None else Some t)
unless-staged f t bytes true = refl
unless-staged f t bytes false = refl

pub next-staged : (keeps : Bool) (o : Option ℕ) (bytes : List ℕ) (f : Fields) (m : Carried) → (next_record keeps (track_with o bytes) f m).staged ≡ staged_after keeps o f.blank m
next-staged keeps o bytes f (Some c) = refl
next-staged false o bytes f None = refl
next-staged true None bytes f None = refl
next-staged true (Some t) bytes f None = unless-staged f t bytes (contains f.blank t)

-- What an update of such a volume promises and may rely on.
pub record Fitting (n : ℕ) (b : Blocks) (keeps : Bool) (f : Fields) (m : Carried) : Type 0 where
  pub few : n ≤ 256
  pub lawful : IsLawful n (plain f)
  pub within : IfSome m (λ t. t.0 < n)
  pub covers : Covers (layout.fields n b).blank f.blank m
  pub follows : EntriesFollow (entries_on n b) f.entries
  pub stands : keeps ≡ false → StandsOwn n b

-- the record that is written is its own normal form
pub next-normal : (n : ℕ) (b : Blocks) (keeps : Bool) (f : Fields) (m : Carried) → n ≤ 256 → IsLawful n (plain f) → IfSome m (λ t. t.0 < n) → IsNormal n (next_record keeps (staged_on n b) f m)
next-normal n b keeps f m few lawful within =
    normal-staging n f (staged_next keeps f.blank m (staged_on n b)) few lawful
    (next-within n keeps f.blank m (layout.staged n b) (chosen b 5) within (staged-low n b))

-- what the blocks give then
module _ (n : ℕ) (b c : Blocks) (keeps : Bool) (f : Fields) (m : Carried) (fit : Fitting n b keeps f m) (h : ReadsNext n b c keeps f m) where
  abbrev next : Carried
  next = staged_next keeps f.blank m (staged_on n b)

  is_normal : IsNormal n (next_record keeps (staged_on n b) f m)
  is_normal = next-normal n b keeps f m fit.few fit.lawful fit.within

  pub fields-next : layout.fields n c ≡ plain f
  fields-next =
      sym (plain-normal n (chosen c) fit.few)
      ∙ ap (λ g. plain (normal n g)) h.record_next
      ∙ ap (λ g. plain g) is_normal
      ∙ plain-staging next f

  staged-record : layout.staged n c ≡ (staging next f).staged
  staged-record =
      sym (staged-normal n (chosen c))
      ∙ ap (λ g. (normal n g).staged) h.record_next
      ∙ ap (λ (g : Fields). g.staged) is_normal

  pub staged-next : layout.staged n c ≡ staged_after keeps (layout.staged n b) f.blank m
  staged-next = staged-record ∙ next-staged keeps (layout.staged n b) (chosen b 5) f m

  pub bytes-next : chosen c 5 ≡ carried_bytes next
  bytes-next = ap (λ (g : Fields). g.staged_bytes) h.record_next ∙ bytes-staging next f

  physical-record : (k : ℕ) → physical n c k ≡ (if is_carried next k then carried_bytes next else if contains f.blank k then zeros else c (track_block k))
  physical-record k =
      physical_is n c k
      ∙ (λ i. if is_staged (staged-record i) k then bytes-next i else if contains (fields-next i).blank k then zeros else c (track_block k))
      ∙ ap (λ p. if p then carried_bytes next else if contains f.blank k then zeros else c (track_block k)) (is_staged-staging next f k)

pub volume-next : (b c : Blocks) (e : VolumeEntry) (keeps : Bool) (f : Fields) (m : Carried) → Fitting e.tracks b keeps f m → ReadsNext e.tracks b c keeps f m → volume_on c (Some e) ≡ moved_keeping keeps (volume_on b (Some e)) (plain f) m
volume-next b c e keeps f m fit h =
    let v : Volume = volume_on b (Some e) in
    λ i. record v {
      slot = h.slot i;
      fields = fields-next e.tracks b c keeps f m fit h i;
      staged = staged-next e.tracks b c keeps f m fit h i;
    }

not_covered : (old new carried : Bool) → (old ≡ true → (new || carried) ≡ true) → new ≡ false → carried ≡ false → old ≡ false
not_covered false new carried h n c = refl
not_covered true new carried h n c = let e = h refl in absurd (let p : (new || carried) ≡ false = (λ i. n i || c i) in cc)

-- a track that was staged and is not the carried one has given way to it, and one that wasn't has not
unless-carried : (t k : ℕ) (bytes : List ℕ) (none : Bool) → nat_eq k t ≡ false → is_carried (track_unless none t bytes) k ≡ false
unless-carried t k bytes true apart = refl
unless-carried t k bytes false apart = apart

way-taken : (x : ℕ × List ℕ) (o : Option ℕ) (bytes : List ℕ) (k : ℕ) → nat_eq k x.0 ≡ false → is_staged o k ≡ true → is_carried (given_way (Some x) (track_with o bytes)) k ≡ true
way-taken x None bytes k free is = absurd (cc)
way-taken x (Some t) bytes k free is =
    ap (λ b. is_carried (track_unless b t bytes) k) (ap (λ q. nat_eq q x.0) (sym ((Decides-eqb k t).0 is)) ∙ free) ∙ is

way-not : (m : Carried) (o : Option ℕ) (bytes : List ℕ) (k : ℕ) → is_staged o k ≡ false → is_carried (given_way m (track_with o bytes)) k ≡ false
way-not None o bytes k no_one = refl
way-not (Some x) None bytes k no_one = refl
way-not (Some x) (Some t) bytes k no_one = unless-carried t k bytes (nat_eq t x.0) no_one

-- what was staged stays so, with its bytes, where it isn't blank now
unless-kept : (t k : ℕ) (bytes : List ℕ) (none : Bool) → is_carried (track_unless none t bytes) k ≡ true → (none ≡ false) × (nat_eq k t ≡ true) × (carried_bytes (track_unless none t bytes) ≡ bytes)
unless-kept t k bytes true is = absurd (cc)
unless-kept t k bytes false is = (refl, is, refl)

kept-there : (blank : layout.Tracks) (o : Option ℕ) (bytes : List ℕ) (k : ℕ) → is_carried (kept_filled blank (track_with o bytes)) k ≡ true → (contains blank k ≡ false) × (is_staged o k ≡ true) × (carried_bytes (kept_filled blank (track_with o bytes)) ≡ bytes)
kept-there blank None bytes k is = absurd (cc)
kept-there blank (Some t) bytes k is =
    let h = unless-kept t k bytes (contains blank t) is in (ap (contains blank) ((Decides-eqb k t).0 h.1) ∙ h.0, h.1, h.2)

unless-gone : (t k : ℕ) (bytes : List ℕ) (none : Bool) → is_carried (track_unless none t bytes) k ≡ false → none ≡ false → nat_eq k t ≡ false
unless-gone t k bytes true is filled = absurd (cc)
unless-gone t k bytes false is filled = is

kept-gone : (blank : layout.Tracks) (o : Option ℕ) (bytes : List ℕ) (k : ℕ) → is_carried (kept_filled blank (track_with o bytes)) k ≡ false → contains blank k ≡ false → is_staged o k ≡ false
kept-gone blank None bytes k gone filled = refl
kept-gone blank (Some t) bytes k gone filled = elim (nat_eq k t) as (λ p. nat_eq k t ≡ p → p ≡ false) [
  | true ↦ λ is. sym is ∙ unless-gone t k bytes (contains blank t) gone (ap (contains blank) (sym ((Decides-eqb k t).0 is)) ∙ filled)
  | false ↦ λ apart. refl
] refl

-- what the first branch gives where it holds, and the last where neither does
kept_branch : (p q : Bool) (x z w old : List ℕ) → (p ≡ true → (q ≡ false) × (x ≡ old)) → (p ≡ false → q ≡ false → w ≡ old) → (if p then x else if q then z else w) ≡ (if q then z else old)
kept_branch true true x z w old here there = absurd (let never : true ≡ false = (here refl).0 in cc)
kept_branch true false x z w old here there = (here refl).1
kept_branch false true x z w old here there = refl
kept_branch false false x z w old here there = there refl refl

-- what a track that isn't blank reads as
filled-physical : (n : ℕ) (b : Blocks) (k : ℕ) (staged : Bool) → contains (layout.fields n b).blank k ≡ false → is_staged (layout.staged n b) k ≡ staged → physical n b k ≡ (if staged then chosen b 5 else b (track_block k))
filled-physical n b k staged filled is = physical_is n b k ∙ (λ i. if is i then chosen b 5 else if filled i then zeros else b (track_block k))

staged-physical : (n : ℕ) (b : Blocks) (k : ℕ) → is_staged (layout.staged n b) k ≡ true → physical n b k ≡ chosen b 5
staged-physical n b k is = physical_is n b k ∙ ap (λ p. if p then chosen b 5 else if contains (layout.fields n b).blank k then zeros else b (track_block k)) is

-- a track that is neither carried nor blank then, and isn't kept staged, reads as its own block
own-carried : (n : ℕ) (b c : Blocks) (keeps : Bool) (f : Fields) (x : ℕ × List ℕ) (k : ℕ) → Fitting n b keeps f (Some x) → ReadsNext n b c keeps f (Some x) → k < n → nat_eq k x.0 ≡ false → contains f.blank k ≡ false → c (track_block k) ≡ physical n b k
own-carried n b c keeps f x k fit h low free filled =
    let was_filled = not_covered (contains (layout.fields n b).blank k) (contains f.blank k) (nat_eq k x.0) (fit.covers k) filled free in
    elim (is_staged (layout.staged n b) k) as (λ p. is_staged (layout.staged n b) k ≡ p → c (track_block k) ≡ physical n b k) [
      | true ↦ λ is. h.way k (way-taken x (layout.staged n b) (chosen b 5) k free is) ∙ sym (staged-physical n b k is)
      | false ↦ λ is. h.own k low (way-not (Some x) (layout.staged n b) (chosen b 5) k is) ∙ sym (filled-physical n b k false was_filled is)
    ] refl

own-kept : (n : ℕ) (b c : Blocks) (keeps : Bool) (f : Fields) (k : ℕ) → Fitting n b keeps f None → ReadsNext n b c keeps f None → k < n → (is_staged (layout.staged n b) k ≡ true → b (track_block k) ≡ chosen b 5) → contains f.blank k ≡ false → c (track_block k) ≡ physical n b k
own-kept n b c keeps f k fit h low stands filled =
    let was_filled = not_covered (contains (layout.fields n b).blank k) (contains f.blank k) false (fit.covers k) filled refl in
    h.own k low refl
    ∙ elim (is_staged (layout.staged n b) k) as (λ p. is_staged (layout.staged n b) k ≡ p → b (track_block k) ≡ physical n b k) [
      | true ↦ λ is. stands is ∙ sym (staged-physical n b k is)
      | false ↦ λ is. sym (filled-physical n b k false was_filled is)
    ] refl

physical-next : (n : ℕ) (b c : Blocks) (keeps : Bool) (f : Fields) (m : Carried) (k : ℕ) → Fitting n b keeps f m → ReadsNext n b c keeps f m → k < n → physical n c k ≡ tracks_after (plain f) m (physical n b) k
physical-next n b c keeps f (Some x) k fit h low =
    physical-record n b c keeps f (Some x) fit h k
    ∙ last_branch (nat_eq k x.0) (contains f.blank k) x.1 zeros (c (track_block k)) (physical n b k) (λ free filled. own-carried n b c keeps f x k fit h low free filled)
physical-next n b c false f None k fit h low =
    physical-record n b c false f None fit h k
    ∙ last_branch false (contains f.blank k) zeros zeros (c (track_block k)) (physical n b k) (λ free filled. own-kept n b c false f k fit h low (fit.stands refl k) filled)
physical-next n b c true f None k fit h low =
    let o = layout.staged n b in
    physical-record n b c true f None fit h k
    ∙ kept_branch (is_carried (kept_filled f.blank (staged_on n b)) k) (contains f.blank k) (carried_bytes (kept_filled f.blank (staged_on n b))) zeros (c (track_block k)) (physical n b k)
    (λ is. let kept = kept-there f.blank o (chosen b 5) k is in (kept.0, kept.2 ∙ sym (staged-physical n b k kept.1)))
    (λ gone filled. own-kept n b c true f k fit h low (λ is. absurd (let never : true ≡ false = sym is ∙ kept-gone f.blank o (chosen b 5) k gone filled in cc)) filled)

-- no track past the end is carried
not_past : (n : ℕ) (m : Carried) (k : ℕ) → IfSome m (λ t. t.0 < n) → n ≤ k → is_carried m k ≡ false
not_past n None k within past = refl
not_past n (Some t) k within past = let e : nat_eq k t.0 ≡ false = grind (arith, nat_tests) in e

zeros_either : (q : Bool) → (if q then zeros else zeros) ≡ zeros
zeros_either true = refl
zeros_either false = refl

pub track-next : (b c : Blocks) (e : VolumeEntry) (keeps : Bool) (f : Fields) (m : Carried) (k : ℕ) → Fitting e.tracks b keeps f m → ReadsNext e.tracks b c keeps f m → track_on c (Some e) k ≡ tracks_after (plain f) m (track_on b (Some e)) k
track-next b c e keeps f m k fit h =
    elim (below_or_not k e.tracks) [
      | inl low ↦
          let is : nat_lt k e.tracks ≡ true = lt_true k e.tracks low in
          ap (λ p. if p then physical e.tracks c k else zeros) is
          ∙ physical-next e.tracks b c keeps f m k fit h low
          ∙ ap (λ p. if is_carried m k then carried_bytes m else if contains f.blank k then zeros else if p then physical e.tracks b k else zeros) (sym is)
      | inr high ↦
          let is : nat_lt k e.tracks ≡ false = lt_false k e.tracks high in
          let free = not_past e.tracks m k fit.within high in
          ap (λ p. if p then physical e.tracks c k else zeros) is
          ∙ sym ((λ i. if free i then carried_bytes m else if contains f.blank k then zeros else if is i then physical e.tracks b k else zeros)
          ∙ zeros_either (contains f.blank k))
    ]

-- the entries of a device are lawful
pub entries-lawful : (n : ℕ) (b : Blocks) → HasEntries n (entries_on n b)
unfolding layout.fields_of
entries-lawful n b = has-entries_of n _

-- the track of an entry that is taken into use
track-taken : (n : ℕ) (b : Blocks) (f : Fields) (k t : ℕ) → entry_at f.entries k ≡ Some t → entry_taken (entries_on n b) f.entries ≡ Some k → saving_on n b f ≡ Some (side_block n k, track_of n b t)
track-taken n b f k t names is =
    ap (λ o. side_for n f.entries (track_of n b) o) is ∙ ap (λ (o : Option ℕ). Some (side_block n k, track_of n b (unwrap_or o 0))) names

-- what the side block of a track's entry has after a move: what it had, if that was used, else the track as it was
saved-entry : (n : ℕ) (b c : Blocks) (keeps : Bool) (f : Fields) (m : Carried) (k t : ℕ) → Fitting n b keeps f m → ReadsNext n b c keeps f m → entry_at f.entries k ≡ Some t
    → c (side_block n k) ≡ (if is_some (entry_at (entries_on n b) k) then side_in b n (entry_of (entries_on n b) t) else track_of n b t)
saved-entry n b c keeps f m k t fit h names = elim (entry_at (entries_on n b) k) as (λ o. entry_at (entries_on n b) k ≡ o → c (side_block n k) ≡ (if is_some o then side_in b n (entry_of (entries_on n b) t) else track_of n b t)) [
  | None ↦ λ free.
      let taken = taken-is (entries_on n b) f.entries ((entries-lawful n b).eight ∙ sym fit.lawful.entries.eight) fit.follows k t free names in
      h.saved (side_block n k, track_of n b t) (track-taken n b f k t names taken)
  | Some q ↦ λ used.
      let same : t ≡ q = fit.follows.same k q t used names in
      let named : entry_at (entries_on n b) k ≡ Some t = used ∙ ap (λ x. Some x) (sym same) in
      h.side k q used ∙ sym (ap (λ o. side_in b n o) (entry_of-is n (entries_on n b) (entries-lawful n b) k t named))
] refl

pub saved-next : (b c : Blocks) (e : VolumeEntry) (keeps : Bool) (f : Fields) (m : Carried) (t : ℕ) → Fitting e.tracks b keeps f m → ReadsNext e.tracks b c keeps f m
    → saved_on c (Some e) t ≡ saved_after (entries_on e.tracks b) f.entries (track_on b (Some e)) (saved_on b (Some e)) t
saved-next b c e keeps f m t fit h =
    ap (λ (g : layout.Fields). side_in c e.tracks (entry_of g.entries t)) (fields-next e.tracks b c keeps f m fit h)
    ∙ elim (entry_of f.entries t) as (λ o. entry_of f.entries t ≡ o → side_in c e.tracks o ≡ saved_by o (entries_on e.tracks b) (track_on b (Some e)) (saved_on b (Some e)) t) [
      | None ↦ λ none. refl
      | Some k ↦ λ is. saved-entry e.tracks b c keeps f m k t fit h (entry_of-names f.entries t k is)
    ] refl
