-- Each kind of move keeps the structure: what control records say together.
use Rattle.std.proofs.Common.{ℕ, ◌≡◌, refl, ap, sym, ◌∙◌, subst, Bool, true, false, cond, not, ◌&&◌, ◌||◌, Some, None}
use Rattle.std.specs.FinSet.{contains, insert, remove, empty}
use Rattle.dr_logic.specs.Tables.{at}
use Rattle.dr_model.specs.declared.state.Part.{Part}
use Rattle.dr_model.specs.declared.state.Part.TheVariants.{Absent, Metro, Global}
use Rattle.dr_model.specs.Pairs.{is_kind}
use Rattle.dr_model.specs.Layout.{Tracks, Fields, is_part}
use Rattle.dr_model.specs.Histories.{Write}
use Rattle.dr_model.specs.Relations.{rest, is_bare, is_whole, turned, given_up}
use Rattle.dr_model.specs.Moves.{Move, Land, Overwrite, Keep, Note, Relate, Withdraw, Fetch, Resync, Reverse, Restore, Release, Store, Strike, Suspend, MakeSecondary, MakePrimary, DropPrimary, DropSecondary, Follow, Resume, TakeOver, LeavePrimary, FallBack, Yield, Unsync, Mirror, LandBoth, Thaw, Lift, Restart, Hold, Free, Seal, Finish, RaiseAttempt, RaiseFloor, Leave, Flash, Commit, Revert, target, next_fields, FlashHold, FlashFree, Unstage, keeps_staged, moved_keeping}
use Rattle.dr_model.specs.Table.{Row, Table}
use Rattle.dr_model.specs.Rows.{after, next_row, next_bytes, next_due, next_aside, volumes_of, carried_on}
use Rattle.dr_model.specs.Laws.{Structure, Lawful, RowSets, RowFlags, RowDefined, SetsFit, FlagsFit, Flashed, OneRestore, RowReverts, source, fields}
use Rattle.dr_model.specs.Allowed.{Allowed}
use Rattle.dr_model.specs.Lawful.{IsLawful}
use Rattle.dr_facts.proofs.Tables.{at_cases, each-at, linked-at}
use Rattle.dr_facts.proofs.Lawful.{lawful-altered, lawful-written, lawful-held, lawful-freed, lawful-sealed, lawful-past_attempt, lawful-attempt, lawful-floor, lawful-no_member, lawful-received, lawful-struck, lawful-suspended, lawful-resumed, lawful-followed, lawful-made_secondary, lawful-made_primary, lawful-no_primary, lawful-no_secondary, lawful-taken_over, lawful-unsynced, lawful-mirrored, lawful-synced, lawful-thawed, lawful-lifted, lawful-restarted, lawful-fallen_back, lawful-yielded, lawful-taken, low-noted, lawful-noted, lawful-made, lawful-withdrawn, lawful-resynced, lawful-turned, lawful-given_up, lawful-flashed, lawful-committed, lawful-reverted, lawful-flash_held, lawful-flash_freed}
use Rattle.dr_facts.proofs.Sets.{In, in_cond, in_none, in_more, not_turned, still_related, from_union, to-difference, not_removed}
use Rattle.dr_model.proofs.LawfulLemmas.{removed}
use Rattle.dr_logic.proofs.Choices.{chosen}
use Rattle.dr_logic.proofs.Truth.{contrary, false_true}
use Rattle.dr_logic.proofs.Sets.{in_insert, still_in}
use Rattle.dr_facts.proofs.Tracks.{from_difference, empty_has, not_removed_from}
use Rattle.dr_facts.proofs.Parts.{metro-part}
use Rattle.dr_logic.proofs.Options.{none_some}
use Rattle.dr_logic.proofs.Tables.{at_same}

pub kind_part : (kind part : Part) → is_kind kind part ≡ true → is_part part ≡ true
kind_part kind Absent h = absurd (none kind h)
  where
    none : (kind : Part) → is_kind kind Absent ≡ true → ⊥
    none Absent h = absurd cc
    none Metro h = absurd cc
    none Global h = absurd cc
kind_part kind Metro h = refl
kind_part kind Global h = refl

-- sets and flags, by their parts
take-sets : (e rev : Bool) (t : ℕ) (own noted rewritten blank : Tracks) → In noted (λ q. contains (insert own t) q ≡ true) → In rewritten (λ q. contains (insert own t) q ≡ true) → In own (λ q. contains blank q ≡ false)
    → SetsFit (cond e false rev) (cond e empty (insert own t)) (cond e empty noted) (cond e empty rewritten) (remove blank t)
take-sets true rev t own noted rewritten blank first second apart = record { apart = in_none _; noted_held = λ s. in_none _; rewritten_held = λ s. in_none _ }
take-sets false rev t own noted rewritten blank first second apart = record {
  apart = in_more own t (λ q. contains (remove blank t) q ≡ false) (not_removed blank t) (λ q h. not_removed_from blank t q (apart q h));
  noted_held = λ s. first;
  rewritten_held = λ s. second;
}

held-more : (own s : Tracks) (t : ℕ) → In s (λ q. contains own q ≡ true) → In s (λ q. contains (insert own t) q ≡ true)
held-more own s t all q h = still_in own t q (all q h)

held-noted : (r : Bool) (own s : Tracks) (t : ℕ) → In s (λ q. contains own q ≡ true) → In (cond r (insert s t) s) (λ q. contains (insert own t) q ≡ true)
held-noted r own s t all = in_cond r (insert s t) s _ (in_more s t (λ q. contains (insert own t) q ≡ true) (in_insert own t) (held-more own s t all)) (held-more own s t all)

part-sets : (e rev : Bool) (n : ℕ) (own noted rewritten blank : Tracks) → SetsFit rev own noted rewritten blank → SetsFit (cond e false rev) (cond e empty own) (cond e empty noted) (cond e empty rewritten) (cond e (rest n own) blank)
part-sets true rev n own noted rewritten blank old = record { apart = in_none _; noted_held = λ s. in_none _; rewritten_held = λ s. in_none _ }
part-sets false rev n own noted rewritten blank old = old

take-flags : (e persistent recorded reversing : Bool) (own noted rewritten : Tracks) → (recorded ≡ true → persistent ≡ true) → reversing ≡ false
    → FlagsFit (cond e false persistent) (cond e false recorded) (cond e false reversing) own noted rewritten
take-flags e persistent recorded reversing own noted rewritten persists forward = record {
  persists = either e;
  records = λ h. not_turned e reversing forward h;
  unchanged = λ h. not_turned e reversing forward h;
  some = λ h. not_turned e reversing forward h;
}
  where
    either : (e : Bool) → cond e false recorded ≡ true → cond e false persistent ≡ true
    either true h = h
    either false h = persists h

part-flags : (e persistent recorded reversing : Bool) (own noted rewritten : Tracks) → is_bare own ≡ e → (recorded ≡ true → persistent ≡ true) → (reversing ≡ true → recorded ≡ true)
    → (reversing ≡ true → (t : ℕ) → (contains noted t ≡ false) × (contains rewritten t ≡ false))
    → FlagsFit (cond e false persistent) (cond e false recorded) (cond e false reversing) (cond e empty own) (cond e empty noted) (cond e empty rewritten)
part-flags true persistent recorded reversing own noted rewritten is persists records unchanged = record { persists = λ h. h; records = λ h. h; unchanged = λ h t. (empty_has t, empty_has t); some = λ h. absurd cc }
part-flags false persistent recorded reversing own noted rewritten is persists records unchanged = record { persists = persists; records = records; unchanged = unchanged; some = λ h. is }

-- what is reversed isn't revertible
pub revertible-not : (r : Bool) {b : Bool} → (r ≡ true → b ≡ false) → b ≡ true → r ≡ false
revertible-not true forward is = false_true (forward refl) is
revertible-not false forward is = refl

-- a relationship that stands still is restored
pub still_turned : (e related reversing : Bool) (o s : ℕ) → cond (cond e false related) (Some (cond e 0 o)) None ≡ Some s → cond e false reversing ≡ true → (cond related (Some o) None ≡ Some s) × (reversing ≡ true)
still_turned true related reversing o s h r = absurd cc
still_turned false related reversing o s h r = (h, r)

pub part-defined : {P : Type 0} (e related : Bool) → (related ≡ true → P) → cond e false related ≡ true → P
part-defined true related old h = absurd cc
part-defined false related old h = old h

module _ (write : ℕ → Write) (T : Table) (old : Structure T) where
  pub no_loop : (x : ℕ) → source (T x) ≡ Some x → ⊥
  no_loop x h = none_some (old.flash x x h).plain h

  -- a target has no targets
  pub no_targets : {P : Type 0} (v s u : ℕ) → source (T v) ≡ Some s → source (T u) ≡ Some v → P
  no_targets v s u is h = none_some (old.flash u v h).plain is

  -- nor does one become its own source as its relationship ends
  pub ended-loop : (v : ℕ) (e : Bool) → cond (cond e false (fields T v).related) (Some (cond e 0 (fields T v).source)) None ≡ Some v → ⊥
  ended-loop v e h = no_loop v (still_related e (fields T v).related (fields T v).source v h)

  -- what a changed row owes
  pub record Shape (x : ℕ) (y : Row) : Type 0 where
    pub lawful : Lawful y
    pub sets : RowSets y
    pub flags : RowFlags y
    pub reverts : RowReverts y
    pub defined : RowDefined y
    pub from : (u : ℕ) → source y ≡ Some u → Flashed x y u (T u)
    pub loop : source y ≡ Some x → ⊥
    pub onto : (v : ℕ) → source (T v) ≡ Some x → Flashed v (T v) x y
    pub restores : (v : ℕ) → source y ≡ Some v → y.volume.fields.reversing ≡ true → (b : ℕ) → source (T b) ≡ Some v → (fields T b).reversing ≡ true → x ≡ b

  one-at : (x : ℕ) (y : Row) → Shape x y → OneRestore (at T x y)
  one-at x y s v a b = at_cases (λ a r. source r ≡ Some v → source (at T x y b) ≡ Some v → r.volume.fields.reversing ≡ true → (at T x y b).volume.fields.reversing ≡ true → a ≡ b) T x y
      (λ h. at_cases (λ b r. source r ≡ Some v → y.volume.fields.reversing ≡ true → r.volume.fields.reversing ≡ true → x ≡ b) T x y (λ k p q. refl) (λ b ne k p q. s.restores v h p b k q) b)
      (λ a ne h. at_cases (λ b r. source r ≡ Some v → (fields T a).reversing ≡ true → r.volume.fields.reversing ≡ true → a ≡ b) T x y (λ k p q. sym (s.restores v k q a h p)) (λ b ne k p q. old.one_restore v a b h k p q) b)
      a

  pub structure-at : (x : ℕ) (y : Row) → Shape x y → Structure (at T x y)
  structure-at x y s = record {
    lawful = each-at T x y (λ v r. Lawful r) s.lawful old.lawful;
    sets = each-at T x y (λ v r. RowSets r) s.sets old.sets;
    flags = each-at T x y (λ v r. RowFlags r) s.flags old.flags;
    reverts = each-at T x y (λ v r. RowReverts r) s.reverts old.reverts;
    defined = each-at T x y (λ v r. RowDefined r) s.defined old.defined;
    flash = linked-at T x y source Flashed (λ u ne. s.from u) (λ h. absurd (s.loop h)) (λ v ne. s.onto v) old.flash;
    one_restore = one-at x y s;
  }

  -- the relationships stay
  module _ (v : ℕ) where
    abbrev f : Fields
    f = fields T v

    abbrev n : ℕ
    n = (T v).volume.tracks

    stays-restores : (s : ℕ) → source (T v) ≡ Some s → f.reversing ≡ true → (b : ℕ) → source (T b) ≡ Some s → (fields T b).reversing ≡ true → v ≡ b
    stays-restores s h r b k q = old.one_restore s v b h k r q

    -- or may have ended
    parted-from : (e : Bool) (u : ℕ) → cond (cond e false f.related) (Some (cond e 0 f.source)) None ≡ Some u → Flashed v (T v) u (T u)
    parted-from e u h = old.flash v u (still_related e f.related f.source u h)

    parted-loop : (e : Bool) → cond (cond e false f.related) (Some (cond e 0 f.source)) None ≡ Some v → ⊥
    parted-loop e h = no_loop v (still_related e f.related f.source v h)

    parted-restores : (e : Bool) (s : ℕ) → cond (cond e false f.related) (Some (cond e 0 f.source)) None ≡ Some s → cond e false f.reversing ≡ true → (b : ℕ) → source (T b) ≡ Some s → (fields T b).reversing ≡ true → v ≡ b
    parted-restores e s h r b k q = let both = still_turned e f.related f.reversing f.source s h r in old.one_restore s v b both.0 k both.1 q

  -- the row after a move, where it changes the parts in pairs and blank tracks alone
  abbrev paired_row : Move → Row
  paired_row m =
      let v : ℕ = target m in
      let g : Fields = next_fields m (volumes_of T) in
      record (T v) {
        volume = moved_keeping (keeps_staged m) (T v).volume (record (fields T v) {
          primary = g.primary;
          primary_state = g.primary_state;
          primary_partner = g.primary_partner;
          coordination = g.coordination;
          long_busy = g.long_busy;
          recording = g.recording;
          attempt = g.attempt;
          out_of_sync = g.out_of_sync;
          change_recording = g.change_recording;
          secondary = g.secondary;
          secondary_state = g.secondary_state;
          secondary_partner = g.secondary_partner;
          seal = g.seal;
          floor = g.floor;
          flash_hold = g.flash_hold;
          blank = g.blank;
          entries = g.entries;
        }) (carried_on write m T);
        bytes = next_bytes write m T;
        due = next_due write m T;
        aside = next_aside m T;
      }

  paired : (m : Move) → Lawful (paired_row m) → ((q : ℕ) → contains (next_fields m (volumes_of T)).blank q ≡ true → contains (fields T (target m)).blank q ≡ true) → Structure (at T (target m) (paired_row m))
  paired m lawful less = let v : ℕ = target m in structure-at v (paired_row m) (record {
    lawful = lawful;
    sets = let s = old.sets v in record { apart = λ q h. contrary _ _ (less q) (s.apart q h); noted_held = s.noted_held; rewritten_held = s.rewritten_held };
    flags = old.flags v;
    reverts = λ e. let r = old.reverts v e in record { records = r.records; forward = r.forward; apart = λ q h. contrary _ _ (less q) (r.apart q h); noted_held = r.noted_held; rewritten_held = r.rewritten_held; unchanged = r.unchanged; kept = r.kept };
    defined = old.defined v;
    from = old.flash v;
    loop = no_loop v;
    onto = λ u. old.flash u v;
    restores = stays-restores v;
  })

  pub kept-structure : (m : Move) → Allowed write T m → Structure (after write T m)
  kept-structure (Land w v t) a = paired (Land w v t) (lawful-written _ _ (old.lawful v) t a.receives.low) (λ q h. removed (fields T v).blank t q h)
  kept-structure (Restore v t u) a = paired (Restore v t u) (lawful-altered _ _ (old.lawful v) t a.low) (λ q h. removed (fields T v).blank t q h)
  kept-structure (Store v t u last) a = paired (Store v t u last) (lawful-received _ _ (old.lawful v) last t a.receives.low (chosen _ _ u a.takes).0) (λ q h. removed (fields T v).blank t q h)
  kept-structure (Strike v t last) a = paired (Strike v t last) (lawful-struck _ _ (old.lawful v) last t (chosen _ _ a.to a.sends).0) (λ q h. h)
  kept-structure (Suspend v busy) a = paired (Suspend v busy) (lawful-suspended _ _ (old.lawful v) busy a) (λ q h. h)
  kept-structure (MakeSecondary v u kind state) a = paired (MakeSecondary v u kind state) (lawful-made_secondary _ _ (old.lawful v) u kind state a.is_kind) (λ q h. h)
  kept-structure (MakePrimary v u kind state full) a = paired (MakePrimary v u kind state full) (lawful-made_primary _ _ (old.lawful v) u kind state full a.is_kind) (λ q h. h)
  kept-structure (DropPrimary v) a = paired (DropPrimary v) (lawful-no_primary _ _ (old.lawful v)) (λ q h. h)
  kept-structure (DropSecondary v) a = paired (DropSecondary v) (lawful-no_secondary _ _ (old.lawful v)) (λ q h. h)
  kept-structure (Follow v state) a = paired (Follow v state) (lawful-followed _ _ (old.lawful v) state a) (λ q h. h)
  kept-structure (Resume v state) a = paired (Resume v state) (lawful-resumed _ _ (old.lawful v) state a.first) (λ q h. h)
  kept-structure (TakeOver v) a = paired (TakeOver v) (lawful-taken_over _ _ (old.lawful v) a.second) (λ q h. h)
  kept-structure (LeavePrimary v) a = paired (LeavePrimary v) (lawful-no_secondary _ _ (old.lawful v)) (λ q h. h)
  kept-structure (FallBack v more state) a = paired (FallBack v more state) (lawful-fallen_back _ _ (old.lawful v) more state a.first a.low) (λ q h. h)
  kept-structure (Yield v u kind state) a = paired (Yield v u kind state) (lawful-yielded _ _ (old.lawful v) u kind state (ap (λ p. is_part p) (sym a.alike) ∙ (chosen _ _ v a.back).0)) (λ q h. h)
  kept-structure (Unsync v t) a = paired (Unsync v t) (lawful-unsynced _ _ (old.lawful v) t a.low (metro-part (fields T v).primary a.metro)) (λ q h. h)
  kept-structure (Mirror v t u w) a = paired (Mirror v t u w) (lawful-mirrored _ _ (old.lawful v) t a.receives.low) (λ q h. removed (fields T v).blank t q h)
  kept-structure (LandBoth w v t) a = paired (LandBoth w v t) (lawful-synced _ _ (old.lawful v) t (chosen _ _ a.to a.sends).0) (λ q h. removed (fields T v).blank t q h)
  kept-structure (Thaw v) a = paired (Thaw v) (lawful-thawed _ _ (old.lawful v)) (λ q h. h)
  kept-structure (FlashHold v) a = paired (FlashHold v) (lawful-flash_held _ _ (old.lawful v)) (λ q h. h)
  kept-structure (FlashFree v) a = paired (FlashFree v) (lawful-flash_freed _ _ (old.lawful v)) (λ q h. h)
  kept-structure (Lift v) a = paired (Lift v) (lawful-lifted _ _ (old.lawful v)) (λ q h. h)
  kept-structure (Restart v) a = paired (Restart v) (lawful-restarted _ _ (old.lawful v)) (λ q h. h)
  kept-structure (Hold v s n first) a = paired (Hold v s n first) (lawful-held _ _ (old.lawful v) n (kind_part Global (fields T v).primary a.global)) (λ q h. h)
  kept-structure (Free v) a = paired (Free v) (lawful-freed _ _ (old.lawful v)) (λ q h. h)
  kept-structure (Seal v u s n) a = paired (Seal v u s n) (lawful-sealed _ _ (old.lawful v) n (chosen _ _ u a.takes).0) (λ q h. h)
  kept-structure (Finish v n) a = paired (Finish v n) (lawful-past_attempt _ _ (old.lawful v) n) (λ q h. h)
  kept-structure (RaiseAttempt v n) a = paired (RaiseAttempt v n) (lawful-attempt _ _ (old.lawful v) n) (λ q h. h)
  kept-structure (RaiseFloor v n) a = paired (RaiseFloor v n) (lawful-floor _ _ (old.lawful v) n) (λ q h. h)
  kept-structure (Unstage v) a = paired (Unstage v) (old.lawful v) (λ q h. h)
  kept-structure (Leave v u s) a = structure-at v _ (record {
    lawful = lawful-no_member _ _ (old.lawful v);
    sets = let s = old.sets v in record { apart = s.apart; noted_held = s.noted_held; rewritten_held = s.rewritten_held };
    flags = let g = old.flags v in record { persists = g.persists; records = g.records; unchanged = g.unchanged; some = g.some };
    reverts = λ e. let r = old.reverts v e in record { records = r.records; forward = r.forward; apart = r.apart; noted_held = r.noted_held; rewritten_held = r.rewritten_held; unchanged = r.unchanged; kept = r.kept };
    defined = old.defined v;
    from = old.flash v;
    loop = no_loop v;
    onto = λ u. old.flash u v;
    restores = stays-restores v;
  })
  kept-structure (Overwrite w v t) a = let f : Fields = fields T v in let n : ℕ = (T v).volume.tracks in let e : Bool = is_whole n (insert f.own t) && not f.persistent in let sets = old.sets v in let flags = old.flags v in let low = (old.lawful v).sets in structure-at v _ (record {
    lawful = lawful-taken n f (old.lawful v) e t _ _ (chosen f.related f.source a.from a.related).0 a.low low.source_changes_low (low-noted n f (old.lawful v) f.target_changes t a.low low.target_changes_low);
    sets = take-sets e f.revertible t f.own _ _ f.blank (held-more f.own _ t (sets.noted_held a.settled)) (held-noted f.recorded f.own _ t (sets.rewritten_held a.settled)) sets.apart;
    flags = take-flags e f.persistent f.recorded f.reversing _ _ _ flags.persists a.forward;
    reverts = λ h. not_turned e f.revertible a.settled h;
    defined = part-defined e f.related (old.defined v);
    from = parted-from v e;
    loop = parted-loop v e;
    onto = λ u. no_targets v a.from u a.related;
    restores = parted-restores v e;
  })
  kept-structure (Keep v t) a = let f : Fields = fields T v in let n : ℕ = (T v).volume.tracks in let e : Bool = is_whole n (insert f.own t) && not f.persistent in let sets = old.sets v in let flags = old.flags v in let low = (old.lawful v).sets in structure-at v _ (record {
    lawful = lawful-taken n f (old.lawful v) e t _ _ (chosen f.related f.source a.from a.related).0 a.low (low-noted n f (old.lawful v) f.source_changes t a.low low.source_changes_low) low.target_changes_low;
    sets = take-sets e f.revertible t f.own _ _ f.blank (held-noted f.recorded f.own _ t (sets.noted_held a.settled)) (held-more f.own _ t (sets.rewritten_held a.settled)) sets.apart;
    flags = take-flags e f.persistent f.recorded f.reversing _ _ _ flags.persists a.forward;
    reverts = λ h. not_turned e f.revertible a.settled h;
    defined = part-defined e f.related (old.defined v);
    from = parted-from v e;
    loop = parted-loop v e;
    onto = λ u. no_targets v a.from u a.related;
    restores = parted-restores v e;
  })
  kept-structure (Fetch v t) a = let f : Fields = fields T v in let n : ℕ = (T v).volume.tracks in let e : Bool = is_whole n (insert f.own t) && not f.persistent in let sets = old.sets v in let flags = old.flags v in let low = (old.lawful v).sets in structure-at v _ (record {
    lawful = lawful-taken n f (old.lawful v) e t _ _ (chosen f.related f.source a.from a.related).0 a.low low.source_changes_low low.target_changes_low;
    sets = take-sets e f.revertible t f.own _ _ f.blank (held-more f.own _ t (sets.noted_held a.settled)) (held-more f.own _ t (sets.rewritten_held a.settled)) sets.apart;
    flags = take-flags e f.persistent f.recorded f.reversing _ _ _ flags.persists a.forward;
    reverts = λ h. not_turned e f.revertible a.settled h;
    defined = part-defined e f.related (old.defined v);
    from = parted-from v e;
    loop = parted-loop v e;
    onto = λ u. no_targets v a.from u a.related;
    restores = parted-restores v e;
  })
  kept-structure (Note v t) a = let f : Fields = fields T v in let n : ℕ = (T v).volume.tracks in let sets = old.sets v in let flags = old.flags v in structure-at v _ (record {
    lawful = lawful-noted n f (old.lawful v) t (chosen f.related f.source a.from a.related).0 a.low;
    sets = record { apart = sets.apart; noted_held = λ s. in_cond f.recorded _ _ _ (in_more f.source_changes t (λ q. contains f.own q ≡ true) a.held (sets.noted_held s)) (sets.noted_held s); rewritten_held = sets.rewritten_held };
    flags = record { persists = flags.persists; records = flags.records; unchanged = λ h. false_true a.forward h; some = flags.some };
    reverts = λ h. false_true a.settled h;
    defined = old.defined v;
    from = old.flash v;
    loop = no_loop v;
    onto = λ u. old.flash u v;
    restores = stays-restores v;
  })
  kept-structure (Relate v s c) a = let f : Fields = fields T v in let n : ℕ = (T v).volume.tracks in structure-at v _ (record {
    lawful = lawful-made n f (old.lawful v) s c;
    sets = record { apart = in_none _; noted_held = λ s. in_none _; rewritten_held = λ s. in_none _ };
    flags = record { persists = either c.persistent c.recorded; records = λ h. absurd cc; unchanged = λ h. absurd cc; some = λ h. absurd cc };
    reverts = λ h. absurd cc;
    defined = λ h. a.defined;
    from = λ u h. let same = (chosen true s u h).1 in subst (λ j. Flashed v (T v) j (T j)) same (record { defined = a.from_defined; plain = a.from_plain; same_tracks = a.tracks; same_server = a.server });
    loop = λ h. a.apart (chosen true s v h).1;
    onto = λ u h. absurd (a.no_source u h);
    restores = λ j h r. absurd cc;
  })
    where
      either : (p r : Bool) → r ≡ true → (p || r) ≡ true
      either true r h = refl
      either false r h = h
  kept-structure (Withdraw v) a = let f : Fields = fields T v in let n : ℕ = (T v).volume.tracks in structure-at v _ (record {
    lawful = lawful-withdrawn n f (old.lawful v) true (chosen f.related f.source a.from a.related).0;
    sets = part-sets true f.revertible n f.own _ _ f.blank (old.sets v);
    flags = record { persists = λ h. absurd cc; records = λ h. absurd cc; unchanged = λ h. absurd cc; some = λ h. absurd cc };
    reverts = λ h. absurd cc;
    defined = λ h. absurd cc;
    from = parted-from v true;
    loop = parted-loop v true;
    onto = λ u. no_targets v a.from u a.related;
    restores = parted-restores v true;
  })
  kept-structure (Resync v sequence) a = let f : Fields = fields T v in let n : ℕ = (T v).volume.tracks in let sets = old.sets v in let flags = old.flags v in structure-at v _ (record {
    lawful = lawful-resynced n f (old.lawful v) sequence (chosen f.related f.source a.from a.related).0;
    sets = record { apart = λ q h. sets.apart q (from_difference _ _ q (from_difference _ _ q h).0).0; noted_held = λ s. in_none _; rewritten_held = λ s. in_none _ };
    flags = record { persists = flags.persists; records = flags.records; unchanged = λ h. false_true a.forward h; some = λ h. false_true a.forward h };
    reverts = λ h. false_true a.settled h;
    defined = old.defined v;
    from = old.flash v;
    loop = no_loop v;
    onto = λ u. old.flash u v;
    restores = stays-restores v;
  })
  kept-structure (Reverse v left) a = let f : Fields = fields T v in let n : ℕ = (T v).volume.tracks in let sets = old.sets v in let flags = old.flags v in let e : Bool = is_bare (turned f).own in
      let related = (chosen f.related f.source a.resync.from a.resync.related).0 in structure-at v _ (record {
        lawful = lawful-withdrawn n (turned f) (lawful-turned n f (old.lawful v) related) e related;
        sets = part-sets e f.revertible n (turned f).own empty empty f.blank (record {
          apart = from_union _ _ (λ q. contains f.blank q ≡ false) (λ q h. sets.apart q (sets.noted_held a.resync.settled q h)) (λ q h. sets.apart q (sets.rewritten_held a.resync.settled q h));
          noted_held = λ s. in_none _;
          rewritten_held = λ s. in_none _;
        });
        flags = part-flags e f.persistent f.recorded true (turned f).own empty empty refl flags.persists (λ h. a.resync.recorded) (λ h t. (empty_has t, empty_has t));
        reverts = λ h. not_turned e f.revertible a.resync.settled h;
        defined = part-defined e f.related (old.defined v);
        from = parted-from v e;
        loop = parted-loop v e;
        onto = λ u. no_targets v a.resync.from u a.resync.related;
        restores = λ s h r b k q. let same = (chosen f.related f.source s (still_related e f.related f.source s h)).1 in let is = (chosen f.related f.source a.resync.from a.resync.related).1 in
            absurd (a.alone b (k ∙ ap (λ j. Some j) (sym same ∙ is)) q);
      })
  kept-structure (Release v t) a = let f : Fields = fields T v in let n : ℕ = (T v).volume.tracks in let sets = old.sets v in let flags = old.flags v in let e : Bool = is_bare (given_up f t).own in
      let related = (chosen f.related f.source a.from a.related).0 in structure-at v _ (record {
        lawful = lawful-withdrawn n (given_up f t) (lawful-given_up n f (old.lawful v) t related) e related;
        sets = part-sets e f.revertible n (given_up f t).own _ _ f.blank (record {
          apart = λ q h. sets.apart q (removed f.own t q h);
          noted_held = λ s q h. false_true (flags.unchanged a.reversing q).0 h;
          rewritten_held = λ s q h. false_true (flags.unchanged a.reversing q).1 h;
        });
        flags = part-flags e f.persistent f.recorded f.reversing (given_up f t).own _ _ refl flags.persists flags.records flags.unchanged;
        reverts = λ h. not_turned e f.revertible (revertible-not (f.revertible) (λ i. (old.reverts v i).forward) a.reversing) h;
        defined = part-defined e f.related (old.defined v);
        from = parted-from v e;
        loop = parted-loop v e;
        onto = λ u. no_targets v a.from u a.related;
        restores = parted-restores v e;
      })
  kept-structure (Flash v u a s n) b = let f : Fields = fields T v in let sets = old.sets v in let flags = old.flags v in let r = b.resync in structure-at v _ (record {
    lawful = lawful-flashed _ f (old.lawful v) s n (chosen f.related f.source r.from r.related).0;
    sets = record { apart = λ q h. sets.apart q (from_difference _ _ q (from_difference _ _ q h).0).0; noted_held = λ e. absurd cc; rewritten_held = λ e. absurd cc };
    flags = record { persists = flags.persists; records = flags.records; unchanged = flags.unchanged; some = λ h. false_true r.forward h };
    reverts = λ e. record { records = r.recorded; forward = r.forward; apart = sets.apart; noted_held = sets.noted_held r.settled; rewritten_held = sets.rewritten_held r.settled; unchanged = λ q h. let outer = from_difference _ _ q h in ((from_difference _ _ q outer.0).1, outer.1); kept = λ q h n w. to-difference _ _ q (to-difference _ _ q h n) w };
    defined = old.defined v;
    from = old.flash v;
    loop = no_loop v;
    onto = λ u. old.flash u v;
    restores = stays-restores v;
  })
  kept-structure (Commit v a s n) b = let f : Fields = fields T v in let sets = old.sets v in let flags = old.flags v in structure-at v _ (record {
    lawful = lawful-committed _ f (old.lawful v) n (chosen f.related f.source b.from b.related).0;
    sets = record { apart = sets.apart; noted_held = λ s. in_none _; rewritten_held = λ s. in_none _ };
    flags = record { persists = flags.persists; records = flags.records; unchanged = λ h t. (empty_has t, empty_has t); some = flags.some };
    reverts = λ h. absurd cc;
    defined = old.defined v;
    from = old.flash v;
    loop = no_loop v;
    onto = λ u. old.flash u v;
    restores = stays-restores v;
  })
  kept-structure (Revert v a s n) b = let f : Fields = fields T v in let flags = old.flags v in let r = old.reverts v b.revertible in structure-at v _ (record {
    lawful = lawful-reverted _ f (old.lawful v) n (chosen f.related f.source b.from b.related).0;
    sets = record { apart = r.apart; noted_held = λ e. r.noted_held; rewritten_held = λ e. r.rewritten_held };
    flags = record { persists = flags.persists; records = flags.records; unchanged = flags.unchanged; some = λ h. false_true r.forward h };
    reverts = λ h. absurd cc;
    defined = old.defined v;
    from = old.flash v;
    loop = no_loop v;
    onto = λ u. old.flash u v;
    restores = stays-restores v;
  })

  -- so the fields that a move leaves are lawful
  pub lawful-left : (m : Move) → Allowed write T m → IsLawful (T (target m)).volume.tracks (next_fields m (volumes_of T))
  lawful-left m a = subst (λ (r : Row). Lawful r) (at_same T (target m) (next_row write m T)) ((kept-structure m a).lawful (target m))
