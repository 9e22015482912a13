-- What is acknowledged and issued at a place.
use Rattle.std.proofs.Common.{◌≡◌, ℕ, ◌<◌, ◌≤◌, ◌⊎◌, inl, inr, sym, ap, ◌∙◌, Bool, true, cond, List, slice_get, Option, Some, None, arith}
use Rattle.std.proofs.lemmas.Bool.{cases_lt}
use Rattle.std.specs.Option.{option_and_then}
use Rattle.std.proofs.Math.Nat.{eq-or-lt_of_le}
use Rattle.dr_logic.proofs.Choices.{chosen}
use Rattle.dr_model.specs.declared.event.Event.{Event}
use Rattle.dr_model.specs.declared.event.Event.TheVariants.{Ack, Issue}
use Rattle.dr_model.specs.Dependence.{DependsOn}
use Rattle.dr_lost.specs.Broken.{acknowledged_in, issued_in, IsFirstTold, IsFirstBroken}

-- an event that acknowledges one of some writes
record IsAck (among : ℕ → Bool) (e : Option Event) (w : ℕ) : Type 0 where
  event : e ≡ Some (Ack w)
  one : among w ≡ true

ack-of : (among : ℕ → Bool) (e : Event) (w : ℕ) → acknowledged_in among e ≡ Some w → IsAck among (Some e) w
ack-of among (Ack n) w found = let p = chosen (among n) n w found in record { event = ap (λ n. Some (Ack n)) p.1; one = sym (ap among p.1) ∙ p.0 }
ack-of among e w found = absurd (cc)

ack-at : (among : ℕ → Bool) (e : Option Event) (w : ℕ) → option_and_then (acknowledged_in among) e ≡ Some w → IsAck among e w
ack-at among None w found = absurd (cc)
ack-at among (Some e) w found = ack-of among e w found

-- an event that issues one of some writes
record IsIssue (among : ℕ → Bool) (e : Option Event) (w : ℕ) : Type 0 where
  volume : ℕ
  track : ℕ
  offset : ℕ
  len : ℕ
  bytes : List ℕ
  event : e ≡ Some (Issue w volume track offset len bytes)
  one : among w ≡ true

issue-of : (among : ℕ → Bool) (e : Event) (w : ℕ) → issued_in among e ≡ Some w → IsIssue among (Some e) w
issue-of among (Issue n v t o l bytes) w found = let p = chosen (among n) n w found in record {
  volume = v;
  track = t;
  offset = o;
  len = l;
  bytes = bytes;
  event = ap (λ n. Some (Issue n v t o l bytes)) p.1;
  one = sym (ap among p.1) ∙ p.0;
}
issue-of among e w found = absurd (cc)

issue-at : (among : ℕ → Bool) (e : Option Event) (w : ℕ) → option_and_then (issued_in among) e ≡ Some w → IsIssue among e w
issue-at among None w found = absurd (cc)
issue-at among (Some e) w found = issue-of among e w found

-- where none of some writes is acknowledged, or issued
no-ack : (among : ℕ → Bool) (e : Option Event) (w : ℕ) → option_and_then (acknowledged_in among) e ≡ None → e ≡ Some (Ack w) → among w ≡ true → ⊥
no-ack among e w none is one = let never : None ≡ Some w = sym none ∙ (ap (option_and_then (acknowledged_in among)) is ∙ ap (λ b. cond b (Some w) None) one) in absurd (cc)

no-issue : (among : ℕ → Bool) (e : Option Event) (w v t o l : ℕ) (bytes : List ℕ) → option_and_then (issued_in among) e ≡ None → e ≡ Some (Issue w v t o l bytes) → among w ≡ true → ⊥
no-issue among e w v t o l bytes none is one = let never : None ≡ Some w = sym none ∙ (ap (option_and_then (issued_in among)) is ∙ ap (λ b. cond b (Some w) None) one) in absurd (cc)

module _ (events : List Event) (held lost : ℕ → Bool) (place w u at : ℕ)
    (acked : IsFirstTold (acknowledged_in lost) events 0 place u) (issued : IsFirstTold (issued_in held) events place at w) where
  ack-first : (i v : ℕ) → slice_get events i ≡ Some (Ack v) → lost v ≡ true → place ≤ i
  ack-first i v is one = by (cases_lt i place)
    where
      by : (i < place) ⊎ (place ≤ i) → place ≤ i
      by (inl early) = absurd (no-ack lost (slice_get events i) v (acked.none i (omega arith) early) is one)
      by (inr late) = late

  issue-first : (x v : ℕ) → held x ≡ true → lost v ≡ true → (d : DependsOn events x v) → at ≤ d.issued
  issue-first x v one other d = by (cases_lt d.issued at)
    where
      by : (d.issued < at) ⊎ (at ≤ d.issued) → at ≤ d.issued
      by (inl early) = absurd (no-issue held (slice_get events d.issued) x d.volume d.track d.offset d.len d.bytes (issued.none d.issued (omega (arith, ack-first d.acknowledged v d.ack other, d.order)) early) d.issue one)
      by (inr late) = late

  -- the acknowledgement and the issue stand at two places
  apart : {v t o l : ℕ} {bytes : List ℕ} → (place ≡ at) ⊎ (place < at) → slice_get events place ≡ Some (Ack u) → slice_get events at ≡ Some (Issue w v t o l bytes) → place < at
  apart (inl same) a i = absurd (differ (sym a ∙ (ap (slice_get events) same ∙ i)))
    where
      differ : {v t o l : ℕ} {bytes : List ℕ} → Some (Ack u) ≡ Some (Issue w v t o l bytes) → ⊥
      differ e = cc
  apart (inr before) a i = before

  -- the pair of the first acknowledgement of a lost write, and the first held write that is issued behind it
  pub is-first-broken : IsFirstBroken events held lost w u
  is-first-broken =
      let a = ack-at lost (slice_get events place) u acked.told in
      let i = issue-at held (slice_get events at) w issued.told in
      record {
        depends = record {
          volume = i.volume;
          track = i.track;
          offset = i.offset;
          len = i.len;
          bytes = i.bytes;
          acknowledged = place;
          issued = at;
          order = apart (eq-or-lt_of_le issued.behind) a.event i.event;
          ack = a.event;
          issue = i.event;
        };
        is_held = i.one;
        is_lost = a.one;
        first_lost = ack-first;
        first_held = issue-first;
      }
