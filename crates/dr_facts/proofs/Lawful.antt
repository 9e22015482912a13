-- Each kind of move leaves lawful fields.
use Rattle.std.proofs.Common.{ℕ, ◌≡◌, ◌<◌, ◌∙◌, refl, ap, Bool, true, false, cond, not, ◌&&◌, ◌||◌, Option}
use Rattle.std.specs.FinSet.{insert, remove, union, empty}
use Rattle.dr_model.specs.declared.state.Part.{Part}
use Rattle.dr_model.specs.declared.state.PairState.{PairState}
use Rattle.dr_model.specs.Layout.{Tracks, Fields, is_part, names, with_entry, free_entries}
use Rattle.dr_model.specs.Lawful.{Low, HasSets, HasEntries, NoPrimary, NoSecondary, NoRelation, IsLawful}
use Rattle.dr_model.specs.Pairs.{altered, collides, saves_track, written, held_for, freed, sealed, past_attempt, with_attempt, with_floor, no_member, is_engaged, is_torn, suspended, made_secondary, made_primary, no_primary, no_secondary, received, struck, resumed, taken_over, unsynced, mirrored, synced, thawed, flash_held, flash_freed, lifted, restarted, fallen_back, yielded}
use Rattle.dr_model.specs.Relations.{Choices, rest, parted_if, fetched, noted, rewritten, made, withdrawn_if, resynced, turned, given_up, flashed, committed, reverted}
use Rattle.dr_facts.proofs.Sets.{if_false, in_cond, in_none, in_more, rest_low, low_all, from_union}
use Rattle.dr_model.proofs.LawfulLemmas.{removed, has-free}
use Rattle.dr_model.proofs.EntryLemmas.{without-lawful, with-lawful, lawful-if}
use Rattle.dr_facts.proofs.Tracks.{from_difference}
use Rattle.dr_logic.proofs.Truth.{false_true}

second-not : (a b : Bool) → (a && not b) ≡ true → b ≡ false
second-not true false is = refl
second-not true true is = absurd (cc)
second-not false b is = absurd (cc)

one_either_way : {X : Type 0} (b : Bool) (x y : X) → y ≡ x → cond b x y ≡ x
one_either_way true x y same = refl
one_either_way false x y same = same

module _ (n : ℕ) (f : Fields) (law : IsLawful n f) where
  abbrev old : HasSets n f
  old = law.sets

  -- a relationship that ended, or a target that holds more
  parted-relation : (e : Bool) (g : Fields) → g.related ≡ true → (parted_if e g).related ≡ false → NoRelation (parted_if e g)
  parted-relation true g is h = (refl, refl, refl, refl, refl, refl, refl, refl, refl, refl, refl, refl, refl, refl, refl)
  parted-relation false g is h = false_true h is

  low-if : (e : Bool) (s : Tracks) → Low n s → Low n (cond e empty s)
  low-if e s low = in_cond e empty s (λ q. q < n) (in_none _) low

  -- a target takes a track
  pub lawful-taken : (e : Bool) (t : ℕ) (noted rewritten : Tracks) → f.related ≡ true → t < n → Low n noted → Low n rewritten
      → IsLawful n (parted_if e (record (fetched f t) { source_changes = noted; target_changes = rewritten }))
  lawful-taken e t noted rewritten related lt first second = record {
    sets = record {
      out_of_sync_low = old.out_of_sync_low;
      change_recording_low = old.change_recording_low;
      own_low = low-if e _ (in_more f.own t (λ q. q < n) lt old.own_low);
      previous_own_low = low-if e _ old.previous_own_low;
      source_changes_low = low-if e _ first;
      target_changes_low = low-if e _ second;
      blank_low = λ q h. old.blank_low q (removed f.blank t q h);
    };
    primary = law.primary;
    secondary = law.secondary;
    relation = parted-relation e (record (fetched f t) { source_changes = noted; target_changes = rewritten }) related;
    entries = law.entries;
  }

  pub low-noted : (s : Tracks) (t : ℕ) → t < n → Low n s → Low n (cond f.recorded (insert s t) s)
  low-noted s t lt low = in_cond f.recorded (insert s t) s (λ q. q < n) (in_more s t (λ q. q < n) lt low) low

  -- a change is noted
  pub lawful-noted : (t : ℕ) → f.related ≡ true → t < n → IsLawful n (noted f t)
  lawful-noted t related lt = record {
    sets = record {
      out_of_sync_low = old.out_of_sync_low;
      change_recording_low = old.change_recording_low;
      own_low = old.own_low;
      previous_own_low = old.previous_own_low;
      source_changes_low = low-noted f.source_changes t lt old.source_changes_low;
      target_changes_low = old.target_changes_low;
      blank_low = old.blank_low;
    };
    primary = law.primary;
    secondary = law.secondary;
    relation = λ h. false_true h related;
    entries = law.entries;
  }

  -- a relationship is made
  pub lawful-made : (s : ℕ) (c : Choices) → IsLawful n (made s c f)
  lawful-made s c = record {
    sets = record {
      out_of_sync_low = old.out_of_sync_low;
      change_recording_low = old.change_recording_low;
      own_low = in_none _;
      previous_own_low = in_none _;
      source_changes_low = in_none _;
      target_changes_low = in_none _;
      blank_low = old.blank_low;
    };
    primary = law.primary;
    secondary = law.secondary;
    relation = λ h. absurd cc;
    entries = law.entries;
  }

  -- or ends
  pub lawful-withdrawn : (e : Bool) → f.related ≡ true → IsLawful n (withdrawn_if e n f)
  lawful-withdrawn e related = record {
    sets = record {
      out_of_sync_low = old.out_of_sync_low;
      change_recording_low = old.change_recording_low;
      own_low = low-if e _ old.own_low;
      previous_own_low = low-if e _ old.previous_own_low;
      source_changes_low = low-if e _ old.source_changes_low;
      target_changes_low = low-if e _ old.target_changes_low;
      blank_low = in_cond e (rest n f.own) f.blank (λ q. q < n) (rest_low n f.own) old.blank_low;
    };
    primary = law.primary;
    secondary = law.secondary;
    relation = parted-relation e f related;
    entries = law.entries;
  }

  pub lawful-resynced : (sequence : Option ℕ) → f.related ≡ true → IsLawful n (resynced sequence f)
  lawful-resynced sequence related = record {
    sets = record {
      out_of_sync_low = old.out_of_sync_low;
      change_recording_low = old.change_recording_low;
      own_low = λ q h. old.own_low q (from_difference _ _ q (from_difference _ _ q h).0).0;
      previous_own_low = old.previous_own_low;
      source_changes_low = in_none _;
      target_changes_low = in_none _;
      blank_low = old.blank_low;
    };
    primary = law.primary;
    secondary = law.secondary;
    relation = λ h. false_true h related;
    entries = law.entries;
  }

  pub lawful-turned : f.related ≡ true → IsLawful n (turned f)
  lawful-turned related = record {
    sets = record {
      out_of_sync_low = old.out_of_sync_low;
      change_recording_low = old.change_recording_low;
      own_low = from_union _ _ (λ q. q < n) old.source_changes_low old.target_changes_low;
      previous_own_low = old.previous_own_low;
      source_changes_low = in_none _;
      target_changes_low = in_none _;
      blank_low = old.blank_low;
    };
    primary = law.primary;
    secondary = law.secondary;
    relation = λ h. false_true h related;
    entries = law.entries;
  }

  pub lawful-given_up : (t : ℕ) → f.related ≡ true → IsLawful n (given_up f t)
  lawful-given_up t related = record {
    sets = record {
      out_of_sync_low = old.out_of_sync_low;
      change_recording_low = old.change_recording_low;
      own_low = λ q h. old.own_low q (removed f.own t q h);
      previous_own_low = old.previous_own_low;
      source_changes_low = old.source_changes_low;
      target_changes_low = old.target_changes_low;
      blank_low = old.blank_low;
    };
    primary = law.primary;
    secondary = law.secondary;
    relation = λ h. false_true h related;
    entries = law.entries;
  }

  -- the parts in pairs change, and tracks are no longer blank
  lawful-paired : (g : Fields) → Low n g.out_of_sync → Low n g.change_recording → Low n g.blank → (is_part g.primary ≡ false → NoPrimary g) → (is_part g.secondary ≡ false → NoSecondary g) → HasEntries n g.entries
      → IsLawful n (record f {
        primary = g.primary;
        primary_state = g.primary_state;
        primary_partner = g.primary_partner;
        coordination = g.coordination;
        long_busy = g.long_busy;
        recording = g.recording;
        attempt = g.attempt;
        out_of_sync = g.out_of_sync;
        change_recording = g.change_recording;
        secondary = g.secondary;
        secondary_state = g.secondary_state;
        secondary_partner = g.secondary_partner;
        seal = g.seal;
        floor = g.floor;
        flash_hold = g.flash_hold;
        blank = g.blank;
        entries = g.entries;
      })
  lawful-paired g first second blank primary secondary entries = record {
    sets = record {
      out_of_sync_low = first;
      change_recording_low = second;
      own_low = old.own_low;
      previous_own_low = old.previous_own_low;
      source_changes_low = old.source_changes_low;
      target_changes_low = old.target_changes_low;
      blank_low = blank;
    };
    primary = primary;
    secondary = secondary;
    relation = law.relation;
    entries = entries;
  }

  blank-less : (t : ℕ) → Low n (remove f.blank t)
  blank-less t q h = old.blank_low q (removed f.blank t q h)

  -- a track is stored, of a primary it is out of sync
  pub lawful-altered : (t : ℕ) → t < n → IsLawful n (altered f t)
  lawful-altered t lt = lawful-paired (altered f t) (in_cond (is_part f.primary) _ _ (λ q. q < n) (in_more f.out_of_sync t (λ q. q < n) lt old.out_of_sync_low) old.out_of_sync_low)
      old.change_recording_low (blank-less t) (λ h. let o = law.primary h in (o.0, o.1, o.2, o.3, o.4, if_false _ _ h ∙ o.5, o.6)) law.secondary law.entries

  -- a host write lands, which of a primary that records is a change
  low-more : (e : Bool) (s : Tracks) (t : ℕ) → t < n → Low n s → Low n (cond e (insert s t) s)
  low-more e s t lt low = in_cond e (insert s t) s (λ q. q < n) (in_more s t (λ q. q < n) lt low) low

  pub lawful-written : (t : ℕ) → t < n → IsLawful n (written f t)
  lawful-written t lt = lawful-paired (written f t) (low-more (is_part f.primary && not f.recording) f.out_of_sync t lt old.out_of_sync_low) (low-more (is_part f.primary && f.recording) f.change_recording t lt old.change_recording_low)
      (blank-less t) (λ h. let o = law.primary h in (o.0, o.1, o.2, o.3, o.4, if_false _ _ (ap (λ b. b && not f.recording) h) ∙ o.5, if_false _ _ (ap (λ b. b && f.recording) h) ∙ o.6)) law.secondary (lawful-if n (saves_track f t) (with_entry f.entries t) f.entries (λ is. with-lawful n t f.entries lt (second-not (collides f t) (names f.entries t) is) law.entries) law.entries)

  -- a secondary stores a track, its primary strikes it off
  pub lawful-received : (last : Bool) (t : ℕ) → t < n → is_part f.secondary ≡ true → IsLawful n (received last f t)
  lawful-received last t lt is = let w = lawful-written t lt in lawful-paired (received last f t) w.sets.out_of_sync_low w.sets.change_recording_low (blank-less t) w.primary (λ h. false_true h is) w.entries

  pub lawful-struck : (last : Bool) (t : ℕ) → is_part f.primary ≡ true → IsLawful n (struck last f t)
  lawful-struck last t is = lawful-paired (struck last f t) (λ q h. old.out_of_sync_low q (removed f.out_of_sync t q h)) old.change_recording_low old.blank_low (λ h. false_true h is) law.secondary (without-lawful n t f.entries law.entries)

  -- a void
  low-voided : (e : Bool) → Low n (cond e (union f.out_of_sync f.change_recording) f.out_of_sync)
  low-voided e = in_cond e _ _ (λ q. q < n) (from_union _ _ (λ q. q < n) old.out_of_sync_low old.change_recording_low) old.out_of_sync_low

  -- a primary is suspended, or goes on; a secondary has another state
  pub lawful-suspended : (busy : Bool) → is_part f.primary ≡ true → IsLawful n (suspended busy f)
  lawful-suspended busy is = lawful-paired (suspended busy f) (low-voided (is_engaged f)) (low-if (is_engaged f) _ old.change_recording_low) old.blank_low (λ h. false_true h is) law.secondary (lawful-if n (is_engaged f) free_entries f.entries (λ is. has-free n) law.entries)

  pub lawful-resumed : (state : PairState) → is_part f.primary ≡ true → IsLawful n (resumed state f)
  lawful-resumed state is = lawful-paired (resumed state f) old.out_of_sync_low old.change_recording_low old.blank_low (λ h. false_true h is) law.secondary law.entries

  pub lawful-followed : (state : PairState) → is_part f.secondary ≡ true → IsLawful n (record f { secondary_state = state })
  lawful-followed state is = lawful-paired (record f { secondary_state = state }) old.out_of_sync_low old.change_recording_low old.blank_low law.primary (λ h. false_true h is) law.entries

  -- a pair is made
  pub lawful-made_secondary : (u : ℕ) (kind : Part) (state : PairState) → is_part kind ≡ true → IsLawful n (made_secondary u kind state f)
  lawful-made_secondary u kind state is = lawful-paired (made_secondary u kind state f) old.out_of_sync_low old.change_recording_low old.blank_low law.primary (λ h. false_true h is) law.entries

  pub lawful-made_primary : (u : ℕ) (kind : Part) (state : PairState) (full : Bool) → is_part kind ≡ true → IsLawful n (made_primary n u kind state full f)
  lawful-made_primary u kind state full is = lawful-paired (made_primary n u kind state full f) (in_cond full _ _ (λ q. q < n) (low_all n) (in_none _)) (in_none _) old.blank_low (λ h. false_true h is) law.secondary (has-free n)

  -- or a part is taken away
  pub lawful-no_primary : IsLawful n (no_primary f)
  lawful-no_primary = lawful-paired (no_primary f) (in_none _) (in_none _) old.blank_low (λ h. (refl, refl, refl, refl, refl, refl, refl)) law.secondary (has-free n)

  pub lawful-no_secondary : IsLawful n (no_secondary f)
  lawful-no_secondary = lawful-paired (no_secondary f) old.out_of_sync_low old.change_recording_low old.blank_low law.primary (λ h. (refl, refl, refl)) law.entries

  pub lawful-taken_over : is_part f.secondary ≡ true → IsLawful n (taken_over f)
  lawful-taken_over is = lawful-paired (taken_over f) (in_none _) (in_none _) old.blank_low (λ h. false_true h is) (λ h. (refl, refl, refl)) (has-free n)

  -- a primary is one with more tracks out of sync, and another one its secondary
  pub lawful-fallen_back : (more : Tracks) (state : PairState) → is_part f.primary ≡ true → Low n more → IsLawful n (fallen_back more state f)
  lawful-fallen_back more state is low = lawful-paired (fallen_back more state f) (from_union _ _ (λ q. q < n) (low-voided (is_engaged f)) low) (low-if (is_engaged f) _ old.change_recording_low) old.blank_low (λ h. false_true h is) law.secondary (lawful-if n (is_engaged f) free_entries f.entries (λ is. has-free n) law.entries)

  pub lawful-yielded : (u : ℕ) (kind : Part) (state : PairState) → is_part kind ≡ true → IsLawful n (yielded u kind state f)
  lawful-yielded u kind state is = lawful-paired (yielded u kind state f) (in_none _) (in_none _) old.blank_low (λ h. (refl, refl, refl, refl, refl, refl, refl)) (λ h. false_true h is) (has-free n)

  -- a track changes on both sides: it is out of sync, the secondary stores it, it is out of sync no more
  pub lawful-unsynced : (t : ℕ) → t < n → is_part f.primary ≡ true → IsLawful n (unsynced f t)
  lawful-unsynced t lt is = lawful-paired (unsynced f t) (in_more f.out_of_sync t (λ q. q < n) lt old.out_of_sync_low) old.change_recording_low old.blank_low (λ h. false_true h is) law.secondary law.entries

  pub lawful-mirrored : (t : ℕ) → t < n → IsLawful n (mirrored f t)
  lawful-mirrored t lt = lawful-written t lt

  pub lawful-synced : (t : ℕ) → is_part f.primary ≡ true → IsLawful n (synced f t)
  lawful-synced t is = lawful-paired (synced f t) (λ q h. old.out_of_sync_low q (removed f.out_of_sync t q h)) old.change_recording_low (blank-less t) (λ h. false_true h is) law.secondary law.entries

  -- writes wait no more, or a volume goes on after a stop; without a part in a pair nothing changes
  pub lawful-thawed : IsLawful n (thawed f)
  lawful-thawed = lawful-paired (thawed f) old.out_of_sync_low old.change_recording_low old.blank_low (λ h. let o = law.primary h in (o.0, o.1, o.2, refl, o.4, o.5, o.6)) law.secondary law.entries

  -- a flash hold stands in no part
  pub lawful-flash_held : IsLawful n (flash_held f)
  lawful-flash_held = lawful-paired (flash_held f) old.out_of_sync_low old.change_recording_low old.blank_low law.primary law.secondary law.entries

  pub lawful-flash_freed : IsLawful n (flash_freed f)
  lawful-flash_freed = lawful-paired (flash_freed f) old.out_of_sync_low old.change_recording_low old.blank_low law.primary law.secondary law.entries

  pub lawful-lifted : IsLawful n (lifted f)
  lawful-lifted = lawful-paired (lifted f) (low-voided f.coordination) (low-if f.coordination _ old.change_recording_low) old.blank_low
      (λ h. let o = law.primary h in (o.0, o.1, refl, refl, if_false _ _ o.2 ∙ o.4, if_false _ _ o.2 ∙ o.5, if_false _ _ o.2 ∙ o.6)) law.secondary (lawful-if n f.coordination free_entries f.entries (λ is. has-free n) law.entries)

  pub lawful-restarted : IsLawful n (restarted f)
  lawful-restarted = lawful-paired (restarted f) (low-voided (is_engaged f)) (low-if (is_engaged f) _ old.change_recording_low) old.blank_low
      (λ h.
      let o = law.primary h in
      let e : is_engaged f ≡ false = λ i. o.4 i || o.2 i in
      (one_either_way (is_torn f) _ _ o.0, o.1, refl, o.3, refl, if_false _ _ e ∙ o.5, if_false _ _ e ∙ o.6)) law.secondary (lawful-if n (is_engaged f) free_entries f.entries (λ is. has-free n) law.entries)

  -- a primary is held for an attempt and let go, and the attempt is over; a secondary is sealed; numbers are raised
  pub lawful-held : (i : ℕ) → is_part f.primary ≡ true → IsLawful n (held_for i f)
  lawful-held i is = lawful-paired (held_for i f) old.out_of_sync_low (in_none _) old.blank_low (λ h. false_true h is) law.secondary law.entries

  pub lawful-freed : IsLawful n (freed f)
  lawful-freed = lawful-paired (freed f) old.out_of_sync_low old.change_recording_low old.blank_low (λ h. let o = law.primary h in (o.0, o.1, refl, o.3, o.4, o.5, o.6)) law.secondary law.entries

  pub lawful-past_attempt : (i : ℕ) → IsLawful n (past_attempt i f)
  lawful-past_attempt i = lawful-paired (past_attempt i f) (low-voided (is_engaged f)) (low-if (is_engaged f) _ old.change_recording_low) old.blank_low
      (λ h.
      let o = law.primary h in
      let e : is_engaged f ≡ false = λ i. o.4 i || o.2 i in
      (o.0, o.1, refl, o.3, refl, if_false _ _ e ∙ o.5, if_false _ _ e ∙ o.6)) law.secondary (lawful-if n (is_engaged f) free_entries f.entries (λ is. has-free n) law.entries)

  pub lawful-sealed : (i : ℕ) → is_part f.secondary ≡ true → IsLawful n (sealed i f)
  lawful-sealed i is = lawful-paired (sealed i f) old.out_of_sync_low old.change_recording_low old.blank_low law.primary (λ h. false_true h is) law.entries

  pub lawful-attempt : (i : ℕ) → IsLawful n (with_attempt i f)
  lawful-attempt i = lawful-paired (with_attempt i f) old.out_of_sync_low old.change_recording_low old.blank_low law.primary law.secondary law.entries

  pub lawful-floor : (i : ℕ) → IsLawful n (with_floor i f)
  lawful-floor i = lawful-paired (with_floor i f) old.out_of_sync_low old.change_recording_low old.blank_low law.primary law.secondary law.entries

  -- a target is no member's
  pub lawful-no_member : IsLawful n (no_member f)
  lawful-no_member = record {
    sets = record {
      out_of_sync_low = old.out_of_sync_low;
      change_recording_low = old.change_recording_low;
      own_low = old.own_low;
      previous_own_low = old.previous_own_low;
      source_changes_low = old.source_changes_low;
      target_changes_low = old.target_changes_low;
      blank_low = old.blank_low;
    };
    primary = law.primary;
    secondary = law.secondary;
    relation = λ h. let o = law.relation h in (o.0, o.1, o.2, o.3, o.4, o.5, o.6, o.7, o.8, o.9, o.10, o.11, o.12, refl, refl);
    entries = law.entries;
  }

  -- a target is flashed, the flash stays, it is taken back
  pub lawful-flashed : (s i : ℕ) → f.related ≡ true → IsLawful n (flashed s i f)
  lawful-flashed s i is = record {
    sets = record {
      out_of_sync_low = old.out_of_sync_low;
      change_recording_low = old.change_recording_low;
      own_low = λ q h. old.own_low q (from_difference _ _ q (from_difference _ _ q h).0).0;
      previous_own_low = old.own_low;
      source_changes_low = old.source_changes_low;
      target_changes_low = old.target_changes_low;
      blank_low = old.blank_low;
    };
    primary = law.primary;
    secondary = law.secondary;
    relation = λ h. false_true h is;
    entries = law.entries;
  }

  pub lawful-committed : (i : ℕ) → f.related ≡ true → IsLawful n (committed i f)
  lawful-committed i is = record {
    sets = record {
      out_of_sync_low = old.out_of_sync_low;
      change_recording_low = old.change_recording_low;
      own_low = old.own_low;
      previous_own_low = in_none _;
      source_changes_low = in_none _;
      target_changes_low = in_none _;
      blank_low = old.blank_low;
    };
    primary = law.primary;
    secondary = law.secondary;
    relation = λ h. false_true h is;
    entries = law.entries;
  }

  pub lawful-reverted : (i : ℕ) → f.related ≡ true → IsLawful n (reverted i f)
  lawful-reverted i is = record {
    sets = record {
      out_of_sync_low = old.out_of_sync_low;
      change_recording_low = old.change_recording_low;
      own_low = old.previous_own_low;
      previous_own_low = in_none _;
      source_changes_low = old.source_changes_low;
      target_changes_low = old.target_changes_low;
      blank_low = old.blank_low;
    };
    primary = law.primary;
    secondary = law.secondary;
    relation = λ h. false_true h is;
    entries = law.entries;
  }
