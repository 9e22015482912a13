-- A track by three blocks of the chosen slot: the head, the blank set's and the staged bytes.
use Rattle.std.proofs.Common.{ℕ, ◌≡◌, ◌≤◌, ◌<◌, ◌+◌, Bool, true, false, ◌&&◌, take, arith, sym, ◌∙◌, ap, refl, subst, nat_eq, nat_lt, Option, None, Some}
use Rattle.std.specs.Prelude.{is_some, if◌then◌else◌}
use Rattle.std.specs.FinSet.{contains, empty, contains-empty}
use Rattle.std.specs.Ordering.{nat_cmp}
use Rattle.std.proofs.lemmas.Bool.Decides.{nat_tests}
use Rattle.dr_bits.specs.Tracks.{Tracks, of_bytes}
use Rattle.dr_bits.specs.Membership.{lt_true}
use Rattle.dr_plant.specs.State.{PlantState, HasBlock}
use Rattle.dr_record.specs.Slots.{slot_of}
use Rattle.dr_config.specs.Table.{ConfigTable, IsSoundConfig, StandsFor, place_of}
use Rattle.dr_logic.specs.Bytes.{zeros}
use Rattle.dr_ids.specs.Sizes.{track_block}
use Rattle.dr_model.specs.Control.{Volume}
use Rattle.dr_model.specs.Layout.{Blocks, bit, byte, chosen, is_staged, only_if, slot_begin, staged}
use Rattle.dr_volume.specs.Plain.{cut, normal, staged_below}
use Rattle.dr_volume.specs.Record.{with_head, no_record, raw_of, staged_in}
use Rattle.dr_volume.specs.View.{volume_seen, track_seen}
use Rattle.dr_volume.specs.Volume.{LiesOn, Shows}
use Rattle.dr_volume.proofs.Sets.{contains-cut}
use Rattle.dr_volume.proofs.RecordLaws.{staged-normal}
use Rattle.dr_volume.proofs.VolumeLaws.{entry, lies-sound, device-lies, volume-placed, shows-normal, track-staged, track-not_staged, some_of_staged, chosen_slot}

-- of the tracks below n, those are staged and blank that the blocks say
staged_below-is : (n k : ℕ) (o : Option ℕ) → k < n → is_staged (staged_below n o) k ≡ is_staged o k
staged_below-is n k None low = refl
staged_below-is n k (Some t) low = elim (nat_lt t n) as (λ b. nat_lt t n ≡ b → is_staged (if b then Some t else None) k ≡ nat_eq k t) [
  | true ↦ λ is. refl
  | false ↦ λ is. grind (arith, nat_tests, is)
] refl

and_true : (b : Bool) → (b && true) ≡ b
and_true true = refl
and_true false = refl

blank_below-is : (n k : ℕ) (s : Tracks) → n ≤ 256 → k < n → contains (cut n s) k ≡ contains s k
blank_below-is n k s few low = contains-cut n s k few ∙ ap (λ b. contains s k && b) (lt_true k n low) ∙ and_true (contains s k)

normal-staged : (n : ℕ) (b : Blocks) → (normal n (raw_of b)).staged ≡ staged_below n (staged_in (b 0))
unfolding normal with_head no_record
normal-staged n b = refl

normal-bytes : (n : ℕ) (b : Blocks) → (normal n (raw_of b)).staged_bytes ≡ only_if (is_some (staged_below n (staged_in (b 0)))) (b 5) zeros
unfolding normal with_head no_record
normal-bytes n b = refl

normal-blank : (n : ℕ) (b : Blocks) → (normal n (raw_of b)).blank ≡ cut n (of_bytes (take 32 (b 4)))
unfolding normal with_head no_record
normal-blank n b = refl

normal-own : (n : ℕ) (b : Blocks) → (normal n (raw_of b)).own ≡ only_if (bit (byte (b 0) 5) 0) (cut n (of_bytes (take 32 (b 2)))) empty
unfolding normal with_head no_record
normal-own n b = refl

only-held : (there : Bool) (x : Tracks) (k : ℕ) → contains (only_if there x empty) k ≡ (there && contains x k)
only-held true x k = refl
only-held false x k = contains-empty nat_cmp k

module _ (s : PlantState) (t : ConfigTable) (v d n k : ℕ) (lies : LiesOn t v d n) (within : k < (volume_seen s t v).tracks) where
  low : k < n
  low =
      let e = entry t v d n lies in
      subst (λ m. k < m) (ap (λ (w : Volume). w.tracks) (volume-placed s t v d e.0 lies.place e.1) ∙ e.2) within

  shows : Shows s t v (normal n (raw_of (chosen (s.block d))))
  shows = shows-normal s t v d n (normal n (raw_of (chosen (s.block d)))) lies refl

  defined : is_some (place_of t v) ≡ true
  defined = ap is_some lies.place

  staged-is : is_staged (normal n (raw_of (chosen (s.block d)))).staged k ≡ is_staged (staged_in (chosen (s.block d) 0)) k
  staged-is = ap (λ o. is_staged o k) (normal-staged n (chosen (s.block d))) ∙ staged_below-is n k (staged_in (chosen (s.block d) 0)) low

  pub staged-there : is_staged (staged_in (chosen (s.block d) 0)) k ≡ true → chosen (s.block d) 5 ≡ track_seen s t v k
  staged-there is =
      let there = staged_below-is n k (staged_in (chosen (s.block d) 0)) low ∙ is in
      sym (normal-bytes n (chosen (s.block d)) ∙ ap (λ b. only_if b (chosen (s.block d) 5) zeros) (some_of_staged (staged_below n (staged_in (chosen (s.block d) 0))) k there))
      ∙ track-staged s t v k (normal n (raw_of (chosen (s.block d)))) defined within shows (staged-is ∙ is)

  not_staged : (blank : Bool) → is_staged (staged_in (chosen (s.block d) 0)) k ≡ false → contains (of_bytes (take 32 (chosen (s.block d) 4))) k ≡ blank → (if blank then zeros else s.block d (track_block k)) ≡ track_seen s t v k
  not_staged blank is set =
      let e = entry t v d n lies in
      track-not_staged s t v d k e.0 (normal n (raw_of (chosen (s.block d)))) blank lies.place e.1 within shows (staged-is ∙ is)
      (ap (λ x. contains x k) (normal-blank n (chosen (s.block d))) ∙ blank_below-is n k (of_bytes (take 32 (chosen (s.block d) 4))) lies.few low ∙ set)

  pub blank-there : is_staged (staged_in (chosen (s.block d) 0)) k ≡ false → contains (of_bytes (take 32 (chosen (s.block d) 4))) k ≡ true → zeros ≡ track_seen s t v k
  blank-there is set = not_staged true is set

  pub own-there : is_staged (staged_in (chosen (s.block d) 0)) k ≡ false → contains (of_bytes (take 32 (chosen (s.block d) 4))) k ≡ false → s.block d (track_block k) ≡ track_seen s t v k
  own-there is set = not_staged false is set

  pub held-there : contains (volume_seen s t v).fields.own k ≡ (bit (byte (chosen (s.block d) 0) 5) 0 && contains (of_bytes (take 32 (chosen (s.block d) 2))) k)
  held-there =
      let there = bit (byte (chosen (s.block d) 0) 5) 0 in
      let set = of_bytes (take 32 (chosen (s.block d) 2)) in
      sym (ap (λ f. contains f.own k) shows.fields)
      ∙ ap (λ x. contains x k) (normal-own n (chosen (s.block d)))
      ∙ only-held there (cut n set) k
      ∙ ap (λ b. there && b) (blank_below-is n k set lies.few low)

-- the six blocks of a slot exist, also after a read that passed
pub slot-block : (s u : PlantState) (t : ConfigTable) (v d begin k : ℕ) (slot : Bool) → IsSoundConfig t → place_of t v ≡ Some d → StandsFor t s → u ≡ s → begin ≡ slot_begin slot → k ≤ begin + 5 → HasBlock u d k
slot-block s u t v d begin k slot sound place stands same begins low =
    let lies = lies-sound t v d sound place in
    let device = device-lies s t v d lies.0 lies.1 stands in
    let blocks = device.blocks in
    let most : begin ≤ 7 = subst (λ n. n ≤ 7) (sym begins) (begin-low slot) in
    subst (λ x. HasBlock x d k) (sym same) (record { device = device.device; block = omega arith })
  where
    begin-low : (slot : Bool) → slot_begin slot ≤ 7
    begin-low true = omega arith
    begin-low false = omega arith

-- a look at a block of the slot that was found chosen
pub looked : (s s1 : PlantState) (d k begin : ℕ) (second : Bool) → s1 ≡ s → begin ≡ slot_begin second → second ≡ slot_of s d → s1.block d (begin + k) ≡ chosen (s.block d) k
looked s s1 d k begin second same begins is = (λ i. (same i).block d (begins i + k)) ∙ ap (λ b. s.block d (slot_begin b + k)) (is ∙ chosen_slot s d)

pub looked-head : (s s1 : PlantState) (d begin : ℕ) (second : Bool) → s1 ≡ s → begin ≡ slot_begin second → second ≡ slot_of s d → s1.block d begin ≡ chosen (s.block d) 0
looked-head s s1 d begin second same begins is = ap (s1.block d) (let e : begin ≡ begin + 0 = omega arith in e) ∙ looked s s1 d 0 begin second same begins is

-- what the chosen slot stages, by its head
pub staged-head : (n : ℕ) (b : Blocks) → staged_below n (staged_in (chosen b 0)) ≡ staged n b
staged-head n b = sym (normal-staged n (chosen b)) ∙ staged-normal n (chosen b)
