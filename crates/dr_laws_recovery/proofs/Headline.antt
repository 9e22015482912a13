-- By what devices say and contain, the recovery of each session gives the cut of its newest group.
use Rattle.std.proofs.Common.{ℕ, ◌≡◌, ◌≢◌, ◌<◌, ◌≤◌, ◌⊎◌, inl, inr, refl, ap, sym, ◌∙◌, subst, arith, Bool, true, false, cond, ◌&&◌, ◌||◌, nat_eq, List, [], ◌∷◌, map, Option, Some}
use Rattle.std.proofs.Math.Nat.{le_antisymm}
use Rattle.std.proofs.lemmas.Bool.{and_parts, and_from, eqb-true}
use Rattle.std.proofs.lemmas.Option.{same_Some}
use Rattle.dr_ids.specs.declared.names.Member.{Member}
use Rattle.dr_ids.specs.declared.refusal.Decision.TheVariants.{Impossible}
use Rattle.dr_model.specs.Layout.{Blocks, Fields}
use Rattle.dr_model.specs.Decisions.{numbers_in, decision}
use Rattle.dr_model.specs.declared.event.Event.{Event}
use Rattle.dr_model.specs.declared.event.Event.TheVariants.{Ack}
use Rattle.dr_model.specs.HeldWrites.{IsMirrored, IsStored}
use Rattle.dr_model.specs.Histories.{histories, lists}
use Rattle.dr_model.specs.Contents.{image}
use Rattle.dr_model.specs.Control.{Control, Fuse, World}
use Rattle.dr_model.specs.Views.{view}
use Rattle.dr_model.specs.Entries.{fields_at}
use Rattle.dr_model.specs.Sessions.{Session, session_in}
use Rattle.dr_model.specs.SessionEntries.{counts_in}
use Rattle.dr_model.specs.RecoveryPlans.{lets_revert}
use Rattle.dr_model.specs.Groups.{In}
use Rattle.dr_model.specs.Attempts.{Seen, roles, seen, seen_in, NoneCommitted, SomeCommitted, AllAt, OneShown, AttemptOf, IsTarget}
use Rattle.dr_model.specs.Runs.{Task, run}
use Rattle.dr_model.specs.Table.{table}
use Rattle.dr_model.specs.Laws.{Sound, sizes}
use Rattle.dr_model.specs.Fits.{Fits}
use Rattle.dr_model.specs.Cuts.{CutAt, cuts, at_cut}
use Rattle.dr_model.specs.ClosedCuts.{InGroup, AllBegun}
use Rattle.dr_model.specs.NewestGroup.{StandsCommitted, NewestGroup}
use Rattle.dr_facts.proofs.Lists.{from-filter, to-filter, from-map, to-map, once-same, is-met}
use Rattle.dr_laws_sessions.proofs.Changes.{same-session}
use Rattle.dr_laws_attempts.proofs.Facts.{counts-member, member-counts, rev-counts, none-some, shown-plain, shown-rev, apart-none, committed-parts}
use Rattle.dr_laws_attempts.proofs.Tables.{counts-here}
use Rattle.dr_laws_cuts.specs.Once.{CutOnce}
use Rattle.dr_laws_cuts.proofs.Places.{cut-once, cut-found}
use Rattle.dr_laws_closed.specs.Moments.{moments, standing}
use Rattle.dr_laws_closed.specs.Closing.{StandsWhole, number_kept, CountsFor, MemberCounts, StandsAsMember}
use Rattle.dr_laws_closed.proofs.Places.{group-stands}
use Rattle.dr_laws_closed.proofs.ClosedCuts.{closed-cuts}
use Rattle.dr_laws_targets.specs.Committeds.{committeds}
use Rattle.dr_laws_targets.specs.Counted.{CountsAsTarget, MemberHas, TargetsShowCuts}
use Rattle.dr_laws_targets.proofs.Places.{in-group, committed-found, committed-stands}
use Rattle.dr_laws_targets.proofs.Held.{held-stored}
use Rattle.dr_laws_recovery.specs.Decided.{shown_on}
use Rattle.dr_model.specs.Recovery.{VolumeRecords, Recovery, decided_over, goes_back, remains_in, number_after, view_before, common}
use Rattle.dr_laws_recovery.specs.Recovered.{recovered_in, recovered_on, SameRecovery, HoldsTracks}
use Rattle.dr_laws_recovery.specs.Headline.{IsOfGroup, GivesCut, GivesNewest}
use Rattle.dr_laws_recovery.proofs.TakenAt.{holds-all}
use Rattle.dr_laws_recovery.specs.Stored.{MirroredIsStored, StoredAtCuts}
use Rattle.dr_laws_recovery.proofs.OnTracks.{TrackedAt}
use Rattle.dr_laws_sound.proofs.Views.{shown-due}
use Rattle.dr_laws_recovery.proofs.BothViews.{aside-is}
use Rattle.dr_laws_recovery.proofs.Decided.{decides-by}
use Rattle.dr_laws_recovery.proofs.DecidedOver.{numbers-of, some-commits, none-reverts}
use Rattle.dr_laws_recovery.proofs.RecoverySame.{is-revertible}
use Rattle.dr_laws_recovery.proofs.RecoveredOn.{same-on}
use Rattle.dr_logic.proofs.Options.{none_some}

-- a write that lists have was stored, where each mirrored one was
stored-at : {events : List Event} → MirroredIsStored events → (u : ℕ) → In (Ack u) events ⊎ IsMirrored events u → IsStored events u
stored-at mirrored u (inl acked) = inl acked
stored-at mirrored u (inr m) = mirrored u m.secondary m.told

module _ (w : World) (sound : Sound w) (once : CutOnce w.events) (whole : StandsWhole (cuts w.events) (moments w.events) (standing w.events)) (as_members : StandsAsMember w.control.sessions (fields_at w.control) (standing w.events))
    (counted : TargetsShowCuts w) (x : Session) (listed : In x w.control.sessions) where
  abbrev k : Control
  k = w.control

  abbrev s : ℕ
  s = x.number

  abbrev f : VolumeRecords
  f = fields_at k

  abbrev reverts : Bool
  reverts = lets_revert (decided_over f k.volumes s)

  abbrev r : Recovery
  r = recovered_in w s

  own : AttemptOf (roles k) x
  own = sound.attempts.sessions x listed

  -- ---- members and their targets

  seen-here : (m : Member) → In m x.members → In (seen (roles k) m) (seen_in k x)
  seen-here m here = to-map (seen (roles k)) x.members m here

  counts-so : (m : Member) → In m x.members → CountsAsTarget (f m.c.0) → In m.c.0 k.volumes × (counts_in s (f m.c.0) ≡ true)
  counts-so m here c = (is-met m.c.0 k.volumes ((sound.groups.each x listed).stands m here).c, counts-here k sound.groups sound.attempts x m listed here c)

  same-here : (y : Session) → In y k.sessions → y.number ≡ s → y ≡ x
  same-here y i e = same-session k.sessions y x sound.groups.once i listed e

  -- of those that count, one that doesn't go back remains, and so does one that was a member's before
  abbrev Kept : Fields → Type 0
  Kept g = cond (goes_back reverts g) g.member true ≡ true

  stays-kept : (g : Fields) → goes_back reverts g ≡ false → Kept g
  stays-kept g stays = ap (λ b. cond b g.member true) stays

  member-kept : (g : Fields) → g.member ≡ true → Kept g
  member-kept g flag = by (goes_back reverts g)
    where
      by : (b : Bool) → cond b g.member true ≡ true
      by true = flag
      by false = refl

  plain-stays : (g : Fields) → g.revertible ≡ false → goes_back reverts g ≡ false
  plain-stays g plain = by reverts
    where
      by : (b : Bool) → (b && g.revertible) ≡ false
      by true = plain
      by false = refl

  to-remaining : (m : Member) → In m x.members → CountsAsTarget (f m.c.0) → Kept (f m.c.0) → In m.c.0 r.remaining
  to-remaining m here c kept =
      let so = counts-so m here c in
      to-filter (λ v. remains_in s reverts (f v)) k.volumes m.c.0 so.0 (and_from (counts_in s (f m.c.0)) (cond (goes_back reverts (f m.c.0)) (f m.c.0).member true) so.1 kept)

  -- a volume that remains is the target of a member, and counts
  record Remains (v : ℕ) : Type 0 where
    member : Member
    here : In member x.members
    is : member.c.0 ≡ v
    counts : CountsAsTarget (f member.c.0)
    kept : Kept (f member.c.0)

  from-remaining : (v : ℕ) → In v r.remaining → Remains v
  from-remaining v h =
      let i = from-filter (λ v. remains_in s reverts (f v)) k.volumes v h in
      let both = and_parts (counts_in s (f v)) (cond (goes_back reverts (f v)) (f v).member true) i.1 in
      let so = and_parts (nat_eq (f v).session s) ((f v).member || (f v).revertible) both.0 in
      let t : IsTarget k.sessions v (f v).session (roles k v).source (f v).recorded (f v).inhibited (f v).reversing = (sound.attempts.volumes v).counted so.1 in
      record {
        member = t.member;
        here = subst (λ (y : Session). In t.member y.members) (same-here t.session t.listed (t.number ∙ eqb-true (f v).session s so.0)) t.here;
        is = t.is;
        counts = subst (λ v. CountsAsTarget (f v)) (sym t.is) so.1;
        kept = subst (λ v. Kept (f v)) (sym t.is) both.1;
      }

  -- where its primary stands in a group, the target of a member counts for it
  counts-for : (n : ℕ) (m : Member) → In m x.members → InGroup w.events s n m.a.0 → CountsFor n (f m.c.0)
  counts-for n m here g =
      let c : MemberCounts k.sessions f s n m.a.0 = as_members s n m.a.0 (group-stands s n m.a.0 w.events g) in
      let there : In c.member x.members = subst (λ (y : Session). In c.member y.members) (same-here c.session c.listed c.number) c.here in
      subst (λ (q : Member). CountsFor n (f q.c.0)) (once-same (λ (q : Member). q.a.0) x.members c.member m (sound.groups.each x listed).once there here c.is) c.counts

  -- a member's target that was a member's before, with a number that stays its own
  record HasNumber (n : ℕ) : Type 0 where
    member : Member
    here : In member x.members
    flag : (f member.c.0).member ≡ true
    reached : n ≤ number_kept (f member.c.0)

  has-number : (n a : ℕ) → StandsCommitted w.events s n a → HasNumber n
  has-number n a c =
      let h : MemberHas k.sessions (table w) s n a = counted.committed s n a (committed-stands s n a w.events c) in
      record { member = h.member; here = subst (λ (y : Session). In h.member y.members) (same-here h.session h.listed h.number) h.here; flag = h.flag; reached = h.reached }

  -- ---- the number of those that remain

  -- the target of a member has the number, its primary stands in that group, and its tracks are to show the primary's cut
  record Shows (n : ℕ) (m : Member) : Type 0 where
    number : number_after reverts (f m.c.0) ≡ n
    stands : standing w.events s n m.a.0 ≡ true
    shows : (t : ℕ) → t < (k.volume m.c.0).tracks → r.image m.c.0 t ≡ at_cut (histories w.events).write (cuts w.events) n m.a.0 t

  -- Each that remains shows the cut of the number, and each that counts for it remains. None that was a member's before has a greater
  -- number that stays its own; and where any remains, one of those has this number.
  record Number : Type 0 where
    n : ℕ
    each : (m : Member) → In m x.members → CountsAsTarget (f m.c.0) → Kept (f m.c.0) → Shows n m
    all : (m : Member) → In m x.members → CountsFor n (f m.c.0) → CountsAsTarget (f m.c.0) × Kept (f m.c.0)
    low : (m : Member) → In m x.members → (f m.c.0).member ≡ true → number_kept (f m.c.0) ≤ n
    some : (v : ℕ) → In v r.remaining → HasNumber n

  -- one that stays
  shows-stays : (n : ℕ) (m : Member) → In m x.members → CountsAsTarget (f m.c.0) → goes_back reverts (f m.c.0) ≡ false → (f m.c.0).sequence ≡ n → Shows n m
  shows-stays n m here c stays is = record {
    number = ap (λ b. cond b (f m.c.0).previous_sequence (f m.c.0).sequence) stays ∙ is;
    stands = subst (λ n. standing w.events s n m.a.0 ≡ true) is (counted.stands x m listed here c);
    shows = λ t lt. ap (λ b. cond b (view_before f w.contents m.c.0 t) (view f w.contents m.c.0 t)) stays
        ∙ (shown-due (table w) sound.rows.images m.c.0 t lt
        ∙ (counted.shows x m listed here c t lt
        ∙ ap (λ n. at_cut (histories w.events).write (cuts w.events) n m.a.0 t) is));
  }

  -- and one that goes back
  shows-back : (n : ℕ) (m : Member) → In m x.members → (f m.c.0).revertible ≡ true → (f m.c.0).member ≡ true → goes_back reverts (f m.c.0) ≡ true → (f m.c.0).previous_sequence ≡ n → Shows n m
  shows-back n m here revertible flag back is = record {
    number = ap (λ b. cond b (f m.c.0).previous_sequence (f m.c.0).sequence) back ∙ is;
    stands = subst (λ n. standing w.events s n m.a.0 ≡ true) is (counted.stood x m listed here revertible flag);
    shows = λ t lt. ap (λ b. cond b (view_before f w.contents m.c.0 t) (view f w.contents m.c.0 t)) back
        ∙ (aside-is (histories w.events).write (table w) sound.rows m.c.0 t (is-revertible w sound.attempts m.c.0 revertible) lt
        ∙ (counted.keeps x m listed here revertible flag t lt
        ∙ ap (λ n. at_cut (histories w.events).write (cuts w.events) n m.a.0 t) is));
  }

  -- where one is committed with the last number, none goes back
  module _ (had : SomeCommitted x.last (seen_in k x)) where
    all-last : AllAt x.last (seen_in k x)
    all-last = by own.numbers.some
      where
        by : NoneCommitted x.last (seen_in k x) ⊎ AllAt x.last (seen_in k x) → AllAt x.last (seen_in k x)
        by (inl none) = none-some x.last (seen_in k x) none had
        by (inr all) = all

    stays : (m : Member) → In m x.members → CountsAsTarget (f m.c.0) → goes_back reverts (f m.c.0) ≡ false
    stays m here c = by (f m.c.0).revertible refl
      where
        by : (b : Bool) → (f m.c.0).revertible ≡ b → goes_back reverts (f m.c.0) ≡ false
        by false plain = plain-stays (f m.c.0) plain
        by true is = let so = counts-so m here c in ap (λ b. b && (f m.c.0).revertible) (some-commits k sound.groups sound.attempts s x listed refl m.c.0 so.0 so.1 is had)

    counts-by : (m : Member) (n : ℕ) → CountsFor n (f m.c.0) → CountsAsTarget (f m.c.0)
    counts-by m n (inl h) = rev-counts (seen (roles k) m) h.0
    counts-by m n (inr h) = member-counts (seen (roles k) m) h.0

    committed-one : HasNumber x.last
    committed-one =
        let o = from-map (seen (roles k)) x.members had.one had.here in
        let c = committed-parts x.last had.one had.is in
        let plain : (f o.from.c.0).revertible ≡ false = ap (λ (u : Seen). u.revertible) (sym o.is) ∙ c.plain in
        let number : number_kept (f o.from.c.0) ≡ x.last = shown-plain (seen (roles k) o.from) plain ∙ (ap (λ (u : Seen). u.sequence) (sym o.is) ∙ c.numbered) in
        record { member = o.from; here = o.here; flag = ap (λ (u : Seen). u.member) (sym o.is) ∙ c.member; reached = omega arith }

    at-last : Number
    at-last = record {
      n = x.last;
      each = λ m here c kept. shows-stays x.last m here c (stays m here c) (all-last (seen (roles k) m) (seen-here m here) c);
      all = λ m here h. let c = counts-by m x.last h in (c, stays-kept (f m.c.0) (stays m here c));
      low = λ m here flag.
          let each = own.numbers.each (seen (roles k) m) (seen-here m here) in
          let reached : number_kept (f m.c.0) ≤ (f m.c.0).floor = each.reached flag in
          let floor : (f m.c.0).floor ≤ x.last = each.floor in
          omega arith;
      some = λ v h. committed-one;
    }

  -- where none is, each that is revertible goes back
  module _ (one : OneShown x.last (seen_in k x)) where
    none : NoneCommitted x.last (seen_in k x)
    none u h = apart-none x.last u (λ flag e. one.apart (sym (one.same u h flag) ∙ e))

    has : (m : Member) → In m x.members → (f m.c.0).member ≡ true → number_kept (f m.c.0) ≡ one.number
    has m here flag = one.same (seen (roles k) m) (seen-here m here) flag

    goes : (m : Member) → In m x.members → CountsAsTarget (f m.c.0) → (f m.c.0).revertible ≡ true → goes_back reverts (f m.c.0) ≡ true
    goes m here c is = let so = counts-so m here c in and_from reverts (f m.c.0).revertible (none-reverts k sound.groups sound.attempts s x listed refl m.c.0 so.0 so.1 is none) is

    -- those that remain were members'
    flag-by : (m : Member) → In m x.members → CountsAsTarget (f m.c.0) → Kept (f m.c.0) → (b : Bool) → (f m.c.0).revertible ≡ b → (f m.c.0).member ≡ true
    flag-by m here c kept false plain = counts-member (seen (roles k) m) c plain
    flag-by m here c kept true is = sym (ap (λ b. cond b (f m.c.0).member true) (goes m here c is)) ∙ kept

    shows-one : (m : Member) → In m x.members → CountsAsTarget (f m.c.0) → Kept (f m.c.0) → (b : Bool) → (f m.c.0).revertible ≡ b → Shows one.number m
    shows-one m here c kept false plain =
        shows-stays one.number m here c (plain-stays (f m.c.0) plain) (sym (shown-plain (seen (roles k) m) plain) ∙ has m here (flag-by m here c kept false plain))
    shows-one m here c kept true is =
        let flag = flag-by m here c kept true is in
        shows-back one.number m here is flag (goes m here c is) (sym (shown-rev (seen (roles k) m) is) ∙ has m here flag)

    counts-one : (m : Member) → In m x.members → CountsFor one.number (f m.c.0) → CountsAsTarget (f m.c.0) × Kept (f m.c.0)
    counts-one m here (inl h) = absurd (one.apart (sym h.1 ∙ (own.numbers.each (seen (roles k) m) (seen-here m here)).last h.0))
    counts-one m here (inr h) = (member-counts (seen (roles k) m) h.0, member-kept (f m.c.0) h.0)

    at-one : Number
    at-one = record {
      n = one.number;
      each = λ m here c kept. shows-one m here c kept (f m.c.0).revertible refl;
      all = counts-one;
      low = λ m here flag. let e : number_kept (f m.c.0) ≡ one.number = has m here flag in omega arith;
      some = λ v h.
          let i = from-remaining v h in
          let flag = flag-by i.member i.here i.counts i.kept (f i.member.c.0).revertible refl in
          let e : number_kept (f i.member.c.0) ≡ one.number = has i.member i.here flag in
          record { member = i.member; here = i.here; flag = flag; reached = omega arith };
    }

  the-number : Number
  the-number = by own.numbers.none
    where
      by : SomeCommitted x.last (seen_in k x) ⊎ OneShown x.last (seen_in k x) → Number
      by (inl had) = at-last had
      by (inr one) = at-one one

  -- ---- it is that of the newest group

  newest-left : (v : ℕ) → In v r.remaining → NewestGroup w.events s the-number.n
  newest-left v h =
      let i = the-number.some v h in
      let m : Member = i.member in
      let number : number_kept (f m.c.0) ≡ the-number.n = le_antisymm (the-number.low m i.here i.flag) i.reached in
      record {
        primary = m.a.0;
        committed = committed-found s the-number.n m.a.0 w.events (subst (λ n. committeds w.events s n m.a.0 ≡ true) number (counted.numbers x m listed i.here i.flag));
        greatest = λ j a c.
            let had = has-number j a c in
            let reached : j ≤ number_kept (f had.member.c.0) = had.reached in
            let low : number_kept (f had.member.c.0) ≤ the-number.n = the-number.low had.member had.here had.flag in
            omega arith;
      }

  group-left : (v : ℕ) → In v r.remaining → r.group ≡ Some the-number.n
  group-left v h = ap common (numbers-of the-number.n (number_after reverts (f v)) (map (λ v. number_after reverts (f v)) r.remaining) all (to-map (λ v. number_after reverts (f v)) r.remaining v h)) ∙ ap Some (is v h)
    where
      is : (v : ℕ) → In v r.remaining → number_after reverts (f v) ≡ the-number.n
      is v h = let i = from-remaining v h in subst (λ v. number_after reverts (f v) ≡ the-number.n) i.is (the-number.each i.member i.here i.counts i.kept).number

      all : (a : ℕ) → In a (map (λ v. number_after reverts (f v)) r.remaining) → a ≡ the-number.n
      all a i = let o = from-map (λ v. number_after reverts (f v)) r.remaining a i in o.is ∙ is o.from o.here

  -- the target of one that stands committed remains
  some-left : (n a : ℕ) → StandsCommitted w.events s n a → (v : ℕ) × In v r.remaining
  some-left n a c = let h = has-number n a c in (h.member.c.0, to-remaining h.member h.here (member-counts (seen (roles k) h.member) h.flag) (member-kept (f h.member.c.0) h.flag))

  newest-is : (n : ℕ) → NewestGroup w.events s n → the-number.n ≡ n
  newest-is n g =
      let left = some-left n g.primary g.committed in
      let top = newest-left left.0 left.1 in
      le_antisymm (g.greatest the-number.n top.primary top.committed) (top.greatest n g.primary g.committed)

  pub only-newest : (n : ℕ) → r.group ≡ Some n → NewestGroup w.events s n
  only-newest n e =
      let left = one-left r.remaining e in
      subst (NewestGroup w.events s) ((same_Some _ _ (sym (group-left left.0 left.1) ∙ e))) (newest-left left.0 left.1)
    where
      one-left : (us : List ℕ) → common (numbers_in (map (λ v. number_after reverts (f v)) us)) ≡ Some n → (v : ℕ) × In v us
      one-left [] e = none_some refl e
      one-left (v ∷ us) e = (v, inl refl)

  pub group-newest : (n : ℕ) → NewestGroup w.events s n → r.group ≡ Some n
  group-newest n g = let left = some-left n g.primary g.committed in group-left left.0 left.1 ∙ ap Some (newest-is n g)

  -- ---- its cut

  of-group : (v : ℕ) → In v r.remaining → IsOfGroup w x the-number.n v
  of-group v h =
      let i = from-remaining v h in
      record { member = i.member; here = i.here; is = i.is; stands = in-group s the-number.n i.member.a.0 w.events (the-number.each i.member i.here i.counts i.kept).stands }

  all-left : (v : ℕ) → IsOfGroup w x the-number.n v → In v r.remaining
  all-left v i =
      let both = the-number.all i.member i.here (counts-for the-number.n i.member i.here i.stands) in
      subst (λ v. In v r.remaining) i.is (to-remaining i.member i.here both.0 both.1)

  cut-held : (n a : ℕ) → InGroup w.events s n a → (c : CutAt w.events s n a) → (t : ℕ) → (cuts w.events).held n a t ≡ lists c.before a t
  cut-held n a g c t =
      let place = cut-found n a w.events s (whole s n a (group-stands s n a w.events g)).by in
      place.held t ∙ ap (λ es. lists es a t) (sym (cut-once w.events once n a s s place.place c))

  shows-cut : (m : Member) → In m x.members → InGroup w.events s the-number.n m.a.0 → (c : CutAt w.events s the-number.n m.a.0) → (t : ℕ) → t < (k.volume m.c.0).tracks → r.image m.c.0 t ≡ image (histories w.events).write (lists c.before m.a.0 t)
  shows-cut m here g c t lt =
      let both = the-number.all m here (counts-for the-number.n m here g) in
      (the-number.each m here both.0 both.1).shows t lt ∙ ap (image (histories w.events).write) (cut-held the-number.n m.a.0 g c t)

  -- ---- and devices tell it

  gives-cut : (tasks : List Task) → (run tasks).events ≡ w.events → AllBegun w.events → StoredAtCuts w.events → TrackedAt w.events → (y : Recovery) → SameRecovery (sizes k) r y → (n a : ℕ) → StandsCommitted w.events s n a → GivesCut tasks w y x the-number.n
  gives-cut tasks leads begun mirrored tracked y same n a committed =
      let left = some-left n a committed in
      record {
        group = same.group ∙ group-left left.0 left.1;
        volumes = λ v h. of-group v (subst (In v) same.remaining h);
        all = λ v i. subst (In v) (sym same.remaining) (all-left v i);
        shows = λ m here g c t lt. same.images m.c.0 t (all-left m.c.0 (record { member = m; here = here; is = refl; stands = g })) lt ∙ shows-cut m here g c t lt;
        stored = λ a g c t u h. record { stored = stored-at (mirrored.cut c.before c.behind s the-number.n a c.is) u (held-stored c.before u a t h); track = (tracked.cut c.before c.behind s the-number.n a c.is).0 a t u h };
        closed = closed-cuts w.events begun once whole s the-number.n;
        holds = holds-all tasks w.events s the-number.n leads (closed-cuts w.events begun once whole s the-number.n);
      }

  gives-newest : (tasks : List Task) → (run tasks).events ≡ w.events → AllBegun w.events → StoredAtCuts w.events → TrackedAt w.events → (device : ℕ → Blocks) → ((a b : ℕ) → decision (shown_on w device s) ≢ Impossible a b) → SameRecovery (sizes k) r (recovered_on w device s) → GivesNewest tasks w device x
  gives-newest tasks leads begun mirrored tracked device possible same = record {
    possible = possible;
    newest = λ n g. subst (GivesCut tasks w (recovered_on w device s) x) (newest-is n g) (gives-cut tasks leads begun mirrored tracked (recovered_on w device s) same n g.primary g.committed);
    only = λ n e. only-newest n (sym same.group ∙ e);
    none = λ never. same.remaining ∙ none-left r.remaining never (λ v h. h);
  }
    where
      none-left : (us : List ℕ) → ((n : ℕ) → NewestGroup w.events s n → ⊥) → ((v : ℕ) → In v us → In v r.remaining) → us ≡ []
      none-left [] never here = refl
      none-left (v ∷ us) never here = absurd (never the-number.n (newest-left v (here v (inl refl))))

pub headline-on : (tasks : List Task) (w : World) (on : ℕ → Bool) (fuse : ℕ → Option Fuse) (device : ℕ → Blocks) → (run tasks).events ≡ w.events → Sound w → AllBegun w.events → CutOnce w.events → StandsWhole (cuts w.events) (moments w.events) (standing w.events)
    → StandsAsMember w.control.sessions (fields_at w.control) (standing w.events) → TargetsShowCuts w → StoredAtCuts w.events → TrackedAt w.events → Fits w on fuse device → HoldsTracks w device → (x : Session) → In x w.control.sessions → GivesNewest tasks w device x
headline-on tasks w on fuse device leads sound begun once whole as_members counted mirrored tracked fits holds x listed =
    gives-newest w sound once whole as_members counted x listed tasks leads begun mirrored tracked device
    (λ a b. decides-by w sound on fuse device fits x.number (session_in w.control.sessions x.number) refl a b)
    (same-on w on fuse device x.number sound fits holds)
