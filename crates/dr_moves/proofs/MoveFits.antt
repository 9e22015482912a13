-- Each kind of move leaves lawful fields and relationships that fit, and covers what was blank.
use Rattle.std.proofs.Common.{ℕ, List, ◌≡◌, Bool, true, false, not, ◌&&◌, ◌||◌, cond, nat_lt, refl, sym, ◌∙◌, ap, subst, inl, inr, rules, None, Some}
use Rattle.std.proofs.lemmas.Bool.{true_from_ne_false}
use Rattle.std.specs.Cmp.{unsigned_tied}
use Rattle.std.specs.FinSet.{contains, insert, remove, empty, members, contains-empty}
use Rattle.std.specs.Ordering.{nat_cmp}
use Rattle.std.proofs.lemmas.Bool.Decides.{nat_tests, eqb_tells, Decides-ltb}
use Rattle.dr_bits.proofs.Laws.{contains-insert_tracks, contains-remove_tracks}
use Rattle.dr_plant.specs.State.{PlantState}
use Rattle.dr_config.specs.Table.{ConfigTable}
use Rattle.dr_model.specs.Histories.{Write}
use Rattle.dr_model.specs.Contents.{with_write}
use Rattle.dr_model.specs.Layout.{Tracks, Fields}
use Rattle.dr_model.specs.Lawful.{Low, NoRelation, IsLawful}
use Rattle.dr_model.specs.Moves.{Move, Land, Overwrite, Keep, Note, Relate, Withdraw, Fetch, Resync, Reverse, Restore, Release, Store, Strike, Suspend, MakeSecondary, MakePrimary, DropPrimary, DropSecondary, Follow, Resume, TakeOver, LeavePrimary, FallBack, Yield, Unsync, Mirror, LandBoth, Thaw, FlashHold, FlashFree, Lift, Restart, Hold, Free, Seal, Finish, RaiseAttempt, RaiseFloor, Leave, Flash, Commit, Revert, Carried, is_carried, target, fields_left, carried, Unstage}
use Rattle.dr_model.specs.Relations.{rest, is_whole, is_bare, parted_if, closed, fetched, noted, rewritten, withdrawn_if, resynced, turned, given_up, restored, flashed, committed, reverted}
use Rattle.dr_model.specs.Pairs.{altered, written, held_for, freed, sealed, past_attempt, with_attempt, with_floor, no_member, suspended, made_secondary, made_primary, no_primary, no_secondary, received, struck, resumed, taken_over, fallen_back, yielded, unsynced, mirrored, synced, thawed, flash_held, flash_freed, lifted, restarted}
use Rattle.dr_volume.specs.Update.{Covers}
use Rattle.dr_volume.specs.View.{volume_seen, track_seen}
use Rattle.dr_moves.specs.Fit.{RelationsFit, LeavesFit}
use Rattle.dr_moves.specs.Made.{Apart, Asks}
use Rattle.dr_facts.proofs.Tracks.{from_difference, not_removed_from}
use Rattle.dr_model.proofs.LawfulLemmas.{removed}
use Rattle.dr_moves.proofs.SetLaws.{contains-rest}
use Rattle.dr_moves.proofs.FitLemmas.{fit-kept}
use Rattle.dr_facts.proofs.Lawful.{lawful-taken, low-noted, lawful-noted, lawful-made, lawful-withdrawn, lawful-resynced, lawful-turned, lawful-given_up, lawful-altered, lawful-written, lawful-received, lawful-struck, lawful-suspended, lawful-resumed, lawful-followed, lawful-made_secondary, lawful-made_primary, lawful-no_primary, lawful-no_secondary, lawful-taken_over, lawful-fallen_back, lawful-yielded, lawful-unsynced, lawful-mirrored, lawful-synced, lawful-thawed, lawful-flash_held, lawful-flash_freed, lawful-lifted, lawful-restarted, lawful-held, lawful-freed, lawful-past_attempt, lawful-sealed, lawful-attempt, lawful-floor, lawful-no_member, lawful-flashed, lawful-committed, lawful-reverted}

-- what is revertible is a target
is-target : {n : ℕ} (f : Fields) → f.revertible ≡ true → IsLawful n f → f.related ≡ true
is-target f is law = true_from_ne_false f.related (λ absent. never-none f is (law.relation absent))
  where
    never-none : (f : Fields) → f.revertible ≡ true → NoRelation f → ⊥
    never-none f is none = let e : true ≡ false = sym is ∙ none.11 in cc

-- the fields and the track of a move of v may come
pub record MoveFits (s : PlantState) (c : ConfigTable) (v : ℕ) (f : Fields) (t : Carried) : Type 0 where
  pub lawful : IsLawful (volume_seen s c v).tracks f
  pub covers : Covers (volume_seen s c v).fields.blank f.blank t
  pub leaves : LeavesFit s c v f

-- what a target holds isn't blank
pub apart-fetched : (own blank : Tracks) (t : ℕ) → Apart own blank → Apart (insert own t) (remove blank t)
apart-fetched own blank t apart k h =
    elim (eqb_tells k t) as (λ _. contains (remove blank t) k ≡ false) [
      | inl p ↦ contains-remove_tracks blank t k ∙ ap (λ b. not b && contains blank k) p.0
      | inr p ↦ contains-remove_tracks blank t k ∙ ap (λ b. not b && contains blank k) p.0 ∙ apart k (sym (contains-insert_tracks own t k ∙ ap (λ b. b || contains own k) p.0) ∙ h)
    ]

apart-less : (own blank : Tracks) (t : ℕ) → Apart own blank → Apart own (remove blank t)
apart-less own blank t apart k h = not_removed_from blank t k (apart k h)

pub apart-empty : (blank : Tracks) → Apart empty blank
apart-empty blank k h = absurd (let e : contains {R = nat_cmp} empty k ≡ false = contains-empty nat_cmp k in cc)

pub apart-parted : (b : Bool) (f : Fields) → Apart f.own f.blank → Apart (parted_if b f).own (parted_if b f).blank
apart-parted true f apart = apart-empty f.blank
apart-parted false f apart = apart

-- what is blank stays so, but for a track that is carried
pub covers-all : (s : Tracks) (t : Carried) → Covers s s t
covers-all s t k h = ap (λ b. b || is_carried t k) h

pub covers-carried : (s : Tracks) (t : ℕ) (bytes : List ℕ) → Covers s (remove s t) (Some (t, bytes))
covers-carried s t bytes k h = grind (members, rules, nat_tests, unsigned_tied)

pub covers-rest : (n : ℕ) (own blank : Tracks) → Low n blank → Apart own blank → Covers blank (rest n own) None
covers-rest n own blank low apart k h =
    ap (λ b. b || false) (contains-rest n own k)
    ∙ held (nat_lt k n) (contains own k) ((Decides-ltb k n).1 (low k h)) (λ there. let e : true ≡ false = sym h ∙ apart k there in cc)
  where
    held : (a b : Bool) → a ≡ true → (b ≡ true → ⊥) → ((a && not b) || false) ≡ true
    held true false low none = refl
    held true true low none = absurd (none refl)
    held false b low none = absurd cc

pub parted-keeps : (b : Bool) (f : Fields) → (parted_if b f).related ≡ true → (f.related ≡ true) × ((parted_if b f).source ≡ f.source)
parted-keeps true f related = absurd (let e : false ≡ true = related in cc)
parted-keeps false f related = (related, refl)

module _ (s : PlantState) (c : ConfigTable) (fit : RelationsFit s c) where
  -- the volume stays a target of the same source, if it is one
  kept-fits : (v : ℕ) (f : Fields) (t : Carried) → IsLawful (volume_seen s c v).tracks f → Covers (volume_seen s c v).fields.blank f.blank t
      → f.related ≡ (volume_seen s c v).fields.related → f.source ≡ (volume_seen s c v).fields.source → Apart f.own f.blank → MoveFits s c v f t
  kept-fits v f t lawful covers related source apart = record {
    lawful = lawful;
    covers = covers;
    leaves = fit-kept s c v f fit (λ r. (sym related ∙ r, source)) apart;
  }

  -- a target takes a track, and its relationship may end
  taken : (v t : ℕ) → (volume_seen s c v).fields.related ≡ true → (f : Fields) (bytes : List ℕ) → f.related ≡ (volume_seen s c v).fields.related → f.source ≡ (volume_seen s c v).fields.source
      → f.own ≡ insert (volume_seen s c v).fields.own t → f.blank ≡ remove (volume_seen s c v).fields.blank t → IsLawful (volume_seen s c v).tracks (closed (volume_seen s c v).tracks f)
      → MoveFits s c v (closed (volume_seen s c v).tracks f) (Some (t, bytes))
  taken v t related f bytes is_related is_source own blank lawful = record {
    lawful = lawful;
    covers = subst (λ b. Covers (volume_seen s c v).fields.blank b (Some (t, bytes))) (sym blank) (covers-carried (volume_seen s c v).fields.blank t bytes);
    leaves = fit-kept s c v (closed (volume_seen s c v).tracks f) fit (λ r. let y = parted-keeps (is_whole (volume_seen s c v).tracks f.own && not f.persistent) f r in (related, y.1 ∙ is_source))
        (apart-parted (is_whole (volume_seen s c v).tracks f.own && not f.persistent) f
        (subst (λ b. Apart f.own b) (sym blank) (subst (λ o. Apart o (remove (volume_seen s c v).fields.blank t)) (sym own) (apart-fetched (volume_seen s c v).fields.own (volume_seen s c v).fields.blank t (fit.apart v)))));
  }

  -- a relationship ends, or doesn't
  module _ (v : ℕ) (f : Fields) (law : IsLawful (volume_seen s c v).tracks f) (related : f.related ≡ (volume_seen s c v).fields.related) (source : f.source ≡ (volume_seen s c v).fields.source)
      (blank : f.blank ≡ (volume_seen s c v).fields.blank) (is_target : (volume_seen s c v).fields.related ≡ true) (apart : Apart f.own (volume_seen s c v).fields.blank) where
    apart-f : Apart f.own f.blank
    apart-f = subst (Apart f.own) (sym blank) apart

    by : (e : Bool) → MoveFits s c v (withdrawn_if e (volume_seen s c v).tracks f) None
    by true = record {
      lawful = lawful-withdrawn (volume_seen s c v).tracks f law true (related ∙ is_target);
      covers = subst (λ b. Covers b (rest (volume_seen s c v).tracks f.own) None) blank (covers-rest (volume_seen s c v).tracks f.own f.blank law.sets.blank_low apart-f);
      leaves = fit-kept s c v (withdrawn_if true (volume_seen s c v).tracks f) fit (λ r. absurd (let e : false ≡ true = r in cc)) (apart-empty _);
    }
    by false = kept-fits v f None law (subst (λ b. Covers (volume_seen s c v).fields.blank b None) (sym blank) (covers-all _ None)) related source apart-f

    restored-fits : MoveFits s c v (restored (volume_seen s c v).tracks f) None
    restored-fits = by (is_bare f.own)

  withdraw-fits : (v : ℕ) → IsLawful (volume_seen s c v).tracks (volume_seen s c v).fields → (volume_seen s c v).fields.related ≡ true → MoveFits s c v (withdrawn_if true (volume_seen s c v).tracks (volume_seen s c v).fields) None
  withdraw-fits v lawful related = by v (volume_seen s c v).fields lawful refl refl refl related (fit.apart v) true

  fits : (m : Move) (write : ℕ → Write) → IsLawful (volume_seen s c (target m)).tracks (volume_seen s c (target m)).fields → Asks s c m
      → MoveFits s c (target m) (fields_left m (volume_seen s c (target m))) (carried m (volume_seen s c) (track_seen s c) write)
  fits (Land w v t) write lawful asks = kept-fits v (written (volume_seen s c v).fields t) (Some (t, with_write write (track_seen s c v t) w)) (lawful-written (volume_seen s c v).tracks (volume_seen s c v).fields lawful t asks) (covers-carried (volume_seen s c v).fields.blank t (with_write write (track_seen s c v t) w)) refl refl (apart-less (volume_seen s c v).fields.own (volume_seen s c v).fields.blank t (fit.apart v))
  fits (Overwrite w v t) write lawful asks = taken v t asks.1 (rewritten (fetched (volume_seen s c v).fields t) t) _ refl refl refl refl (lawful-taken (volume_seen s c v).tracks (volume_seen s c v).fields lawful (is_whole (volume_seen s c v).tracks (insert (volume_seen s c v).fields.own t) && not (volume_seen s c v).fields.persistent) t (volume_seen s c v).fields.source_changes (cond (volume_seen s c v).fields.recorded (insert (volume_seen s c v).fields.target_changes t) (volume_seen s c v).fields.target_changes) asks.1 asks.0 lawful.sets.source_changes_low (low-noted (volume_seen s c v).tracks (volume_seen s c v).fields lawful (volume_seen s c v).fields.target_changes t asks.0 lawful.sets.target_changes_low))
  fits (Keep v t) write lawful asks = taken v t asks.1 (noted (fetched (volume_seen s c v).fields t) t) _ refl refl refl refl (lawful-taken (volume_seen s c v).tracks (volume_seen s c v).fields lawful (is_whole (volume_seen s c v).tracks (insert (volume_seen s c v).fields.own t) && not (volume_seen s c v).fields.persistent) t (cond (volume_seen s c v).fields.recorded (insert (volume_seen s c v).fields.source_changes t) (volume_seen s c v).fields.source_changes) (volume_seen s c v).fields.target_changes asks.1 asks.0 (low-noted (volume_seen s c v).tracks (volume_seen s c v).fields lawful (volume_seen s c v).fields.source_changes t asks.0 lawful.sets.source_changes_low) lawful.sets.target_changes_low)
  fits (Note v t) write lawful asks = kept-fits v (noted (volume_seen s c v).fields t) None (lawful-noted (volume_seen s c v).tracks (volume_seen s c v).fields lawful t asks.1 asks.0) (covers-all (volume_seen s c v).fields.blank None) refl refl (fit.apart v)
  fits (Relate v from options) write lawful asks = record { lawful = lawful-made (volume_seen s c v).tracks (volume_seen s c v).fields lawful from options; covers = covers-all (volume_seen s c v).fields.blank None; leaves = record { source = λ r. asks.source; other = λ r. asks.apart; lone = λ r. asks.lone; apart = apart-empty (volume_seen s c v).fields.blank } }
  fits (Withdraw v) write lawful asks = withdraw-fits v lawful asks
  fits (Fetch v t) write lawful asks = taken v t asks.1 (fetched (volume_seen s c v).fields t) _ refl refl refl refl (lawful-taken (volume_seen s c v).tracks (volume_seen s c v).fields lawful (is_whole (volume_seen s c v).tracks (insert (volume_seen s c v).fields.own t) && not (volume_seen s c v).fields.persistent) t (volume_seen s c v).fields.source_changes (volume_seen s c v).fields.target_changes asks.1 asks.0 lawful.sets.source_changes_low lawful.sets.target_changes_low)
  fits (Resync v sequence) write lawful asks = kept-fits v (resynced sequence (volume_seen s c v).fields) None (lawful-resynced (volume_seen s c v).tracks (volume_seen s c v).fields lawful sequence asks) (covers-all (volume_seen s c v).fields.blank None) refl refl (λ k h. fit.apart v k (from_difference _ _ k (from_difference _ _ k h).0).0)
  fits (Reverse v left) write lawful asks = restored-fits v (turned (volume_seen s c v).fields) (lawful-turned (volume_seen s c v).tracks (volume_seen s c v).fields lawful asks.0) refl refl refl asks.0 asks.1
  fits (Restore v t u) write lawful asks = kept-fits v (altered (volume_seen s c v).fields t) (Some (t, track_seen s c u t)) (lawful-altered (volume_seen s c v).tracks (volume_seen s c v).fields lawful t asks) (covers-carried (volume_seen s c v).fields.blank t (track_seen s c u t)) refl refl (apart-less (volume_seen s c v).fields.own (volume_seen s c v).fields.blank t (fit.apart v))
  fits (Release v t) write lawful asks = restored-fits v (given_up (volume_seen s c v).fields t) (lawful-given_up (volume_seen s c v).tracks (volume_seen s c v).fields lawful t asks) refl refl refl asks (λ k h. fit.apart v k (removed _ t k h))
  fits (Store v t u last) write lawful asks = kept-fits v (received last (volume_seen s c v).fields t) (Some (t, track_seen s c u t)) (lawful-received (volume_seen s c v).tracks (volume_seen s c v).fields lawful last t asks.0 asks.1) (covers-carried (volume_seen s c v).fields.blank t (track_seen s c u t)) refl refl (apart-less (volume_seen s c v).fields.own (volume_seen s c v).fields.blank t (fit.apart v))
  fits (Strike v t last) write lawful asks = kept-fits v (struck last (volume_seen s c v).fields t) None (lawful-struck (volume_seen s c v).tracks (volume_seen s c v).fields lawful last t asks) (covers-all (volume_seen s c v).fields.blank None) refl refl (fit.apart v)
  fits (Suspend v busy) write lawful asks = kept-fits v (suspended busy (volume_seen s c v).fields) None (lawful-suspended (volume_seen s c v).tracks (volume_seen s c v).fields lawful busy asks) (covers-all (volume_seen s c v).fields.blank None) refl refl (fit.apart v)
  fits (Unstage v) write lawful asks = kept-fits v (volume_seen s c v).fields None lawful (covers-all (volume_seen s c v).fields.blank None) refl refl (fit.apart v)
  fits (MakeSecondary v u kind state) write lawful asks = kept-fits v (made_secondary u kind state (volume_seen s c v).fields) None (lawful-made_secondary (volume_seen s c v).tracks (volume_seen s c v).fields lawful u kind state asks) (covers-all (volume_seen s c v).fields.blank None) refl refl (fit.apart v)
  fits (MakePrimary v u kind state full) write lawful asks = kept-fits v (made_primary (volume_seen s c v).tracks u kind state full (volume_seen s c v).fields) None (lawful-made_primary (volume_seen s c v).tracks (volume_seen s c v).fields lawful u kind state full asks) (covers-all (volume_seen s c v).fields.blank None) refl refl (fit.apart v)
  fits (DropPrimary v) write lawful asks = kept-fits v (no_primary (volume_seen s c v).fields) None (lawful-no_primary (volume_seen s c v).tracks (volume_seen s c v).fields lawful) (covers-all (volume_seen s c v).fields.blank None) refl refl (fit.apart v)
  fits (DropSecondary v) write lawful asks = kept-fits v (no_secondary (volume_seen s c v).fields) None (lawful-no_secondary (volume_seen s c v).tracks (volume_seen s c v).fields lawful) (covers-all (volume_seen s c v).fields.blank None) refl refl (fit.apart v)
  fits (Follow v state) write lawful asks = kept-fits v (record (volume_seen s c v).fields { secondary_state = state }) None (lawful-followed (volume_seen s c v).tracks (volume_seen s c v).fields lawful state asks) (covers-all (volume_seen s c v).fields.blank None) refl refl (fit.apart v)
  fits (Resume v state) write lawful asks = kept-fits v (resumed state (volume_seen s c v).fields) None (lawful-resumed (volume_seen s c v).tracks (volume_seen s c v).fields lawful state asks) (covers-all (volume_seen s c v).fields.blank None) refl refl (fit.apart v)
  fits (TakeOver v) write lawful asks = kept-fits v (taken_over (volume_seen s c v).fields) None (lawful-taken_over (volume_seen s c v).tracks (volume_seen s c v).fields lawful asks) (covers-all (volume_seen s c v).fields.blank None) refl refl (fit.apart v)
  fits (LeavePrimary v) write lawful asks = kept-fits v (no_secondary (volume_seen s c v).fields) None (lawful-no_secondary (volume_seen s c v).tracks (volume_seen s c v).fields lawful) (covers-all (volume_seen s c v).fields.blank None) refl refl (fit.apart v)
  fits (FallBack v more state) write lawful asks = kept-fits v (fallen_back more state (volume_seen s c v).fields) None (lawful-fallen_back (volume_seen s c v).tracks (volume_seen s c v).fields lawful more state asks.0 asks.1) (covers-all (volume_seen s c v).fields.blank None) refl refl (fit.apart v)
  fits (Yield v u kind state) write lawful asks = kept-fits v (yielded u kind state (volume_seen s c v).fields) None (lawful-yielded (volume_seen s c v).tracks (volume_seen s c v).fields lawful u kind state asks) (covers-all (volume_seen s c v).fields.blank None) refl refl (fit.apart v)
  fits (Unsync v t) write lawful asks = kept-fits v (unsynced (volume_seen s c v).fields t) None (lawful-unsynced (volume_seen s c v).tracks (volume_seen s c v).fields lawful t asks.0 asks.1) (covers-all (volume_seen s c v).fields.blank None) refl refl (fit.apart v)
  fits (Mirror v t u w) write lawful asks = kept-fits v (mirrored (volume_seen s c v).fields t) (Some (t, with_write write (track_seen s c u t) w)) (lawful-mirrored (volume_seen s c v).tracks (volume_seen s c v).fields lawful t asks) (covers-carried (volume_seen s c v).fields.blank t (with_write write (track_seen s c u t) w)) refl refl (apart-less (volume_seen s c v).fields.own (volume_seen s c v).fields.blank t (fit.apart v))
  fits (LandBoth w v t) write lawful asks = kept-fits v (synced (volume_seen s c v).fields t) (Some (t, with_write write (track_seen s c v t) w)) (lawful-synced (volume_seen s c v).tracks (volume_seen s c v).fields lawful t asks.1) (covers-carried (volume_seen s c v).fields.blank t (with_write write (track_seen s c v t) w)) refl refl (apart-less (volume_seen s c v).fields.own (volume_seen s c v).fields.blank t (fit.apart v))
  fits (Thaw v) write lawful asks = kept-fits v (thawed (volume_seen s c v).fields) None (lawful-thawed (volume_seen s c v).tracks (volume_seen s c v).fields lawful) (covers-all (volume_seen s c v).fields.blank None) refl refl (fit.apart v)
  fits (FlashHold v) write lawful asks = kept-fits v (flash_held (volume_seen s c v).fields) None (lawful-flash_held (volume_seen s c v).tracks (volume_seen s c v).fields lawful) (covers-all (volume_seen s c v).fields.blank None) refl refl (fit.apart v)
  fits (FlashFree v) write lawful asks = kept-fits v (flash_freed (volume_seen s c v).fields) None (lawful-flash_freed (volume_seen s c v).tracks (volume_seen s c v).fields lawful) (covers-all (volume_seen s c v).fields.blank None) refl refl (fit.apart v)
  fits (Lift v) write lawful asks = kept-fits v (lifted (volume_seen s c v).fields) None (lawful-lifted (volume_seen s c v).tracks (volume_seen s c v).fields lawful) (covers-all (volume_seen s c v).fields.blank None) refl refl (fit.apart v)
  fits (Restart v) write lawful asks = kept-fits v (restarted (volume_seen s c v).fields) None (lawful-restarted (volume_seen s c v).tracks (volume_seen s c v).fields lawful) (covers-all (volume_seen s c v).fields.blank None) refl refl (fit.apart v)
  fits (Hold v from n first) write lawful asks = kept-fits v (held_for n (volume_seen s c v).fields) None (lawful-held (volume_seen s c v).tracks (volume_seen s c v).fields lawful n asks) (covers-all (volume_seen s c v).fields.blank None) refl refl (fit.apart v)
  fits (Free v) write lawful asks = kept-fits v (freed (volume_seen s c v).fields) None (lawful-freed (volume_seen s c v).tracks (volume_seen s c v).fields lawful) (covers-all (volume_seen s c v).fields.blank None) refl refl (fit.apart v)
  fits (Seal v u from n) write lawful asks = kept-fits v (sealed n (volume_seen s c v).fields) None (lawful-sealed (volume_seen s c v).tracks (volume_seen s c v).fields lawful n asks) (covers-all (volume_seen s c v).fields.blank None) refl refl (fit.apart v)
  fits (Finish v n) write lawful asks = kept-fits v (past_attempt n (volume_seen s c v).fields) None (lawful-past_attempt (volume_seen s c v).tracks (volume_seen s c v).fields lawful n) (covers-all (volume_seen s c v).fields.blank None) refl refl (fit.apart v)
  fits (RaiseAttempt v n) write lawful asks = kept-fits v (with_attempt n (volume_seen s c v).fields) None (lawful-attempt (volume_seen s c v).tracks (volume_seen s c v).fields lawful n) (covers-all (volume_seen s c v).fields.blank None) refl refl (fit.apart v)
  fits (RaiseFloor v n) write lawful asks = kept-fits v (with_floor n (volume_seen s c v).fields) None (lawful-floor (volume_seen s c v).tracks (volume_seen s c v).fields lawful n) (covers-all (volume_seen s c v).fields.blank None) refl refl (fit.apart v)
  fits (Leave v u from) write lawful asks = kept-fits v (no_member (volume_seen s c v).fields) None (lawful-no_member (volume_seen s c v).tracks (volume_seen s c v).fields lawful) (covers-all (volume_seen s c v).fields.blank None) refl refl (fit.apart v)
  fits (Flash v u a from n) write lawful asks = kept-fits v (flashed from n (volume_seen s c v).fields) None (lawful-flashed (volume_seen s c v).tracks (volume_seen s c v).fields lawful from n asks) (covers-all (volume_seen s c v).fields.blank None) refl refl (λ k h. fit.apart v k (from_difference _ _ k (from_difference _ _ k h).0).0)
  fits (Commit v a from n) write lawful asks = kept-fits v (committed n (volume_seen s c v).fields) None (lawful-committed (volume_seen s c v).tracks (volume_seen s c v).fields lawful n (is-target (volume_seen s c v).fields asks lawful)) (covers-all (volume_seen s c v).fields.blank None) refl refl (fit.apart v)
  fits (Revert v a from n) write lawful asks = kept-fits v (reverted n (volume_seen s c v).fields) None (lawful-reverted (volume_seen s c v).tracks (volume_seen s c v).fields lawful n (is-target (volume_seen s c v).fields asks.0 lawful)) (covers-all (volume_seen s c v).fields.blank None) refl refl asks.1

  pub fits-by : (m : Move) (v : ℕ) (f : Fields) (t : Carried) (write : ℕ → Write) → target m ≡ v → f ≡ fields_left m (volume_seen s c v) → carried m (volume_seen s c) (track_seen s c) write ≡ t
      → IsLawful (volume_seen s c v).tracks (volume_seen s c v).fields → Asks s c m → MoveFits s c v f t
  fits-by m v f t write is_target is_next carries lawful asks =
      subst (λ t. MoveFits s c v f t) carries
      (subst (λ f. MoveFits s c v f (carried m (volume_seen s c) (track_seen s c) write)) (sym is_next)
      (subst (λ v. MoveFits s c v (fields_left m (volume_seen s c v)) (carried m (volume_seen s c) (track_seen s c) write)) is_target
      (fits m write (subst (λ v. IsLawful (volume_seen s c v).tracks (volume_seen s c v).fields) (sym is_target) lawful) asks)))
