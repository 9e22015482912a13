-- Over the devices of a sound world no session's decision is impossible.
use Rattle.std.proofs.Common.{ℕ, ◌≡◌, ◌≢◌, ◌⊎◌, inl, inr, refl, ap, sym, ◌∙◌, subst, Bool, true, false, nat_eq, List, filter, Option, Some, None, ◌||◌}
use Rattle.std.proofs.lemmas.Bool.{and_parts, eqb-true, eq-eqb}
use Rattle.dr_ids.specs.declared.refusal.Decision.TheVariants.{Impossible}
use Rattle.dr_model.specs.Layout.{Blocks, Fields}
use Rattle.dr_model.specs.Decisions.{Shown, decision}
use Rattle.dr_model.specs.Control.{Control, Fuse, World}
use Rattle.dr_model.specs.Entries.{fields_at}
use Rattle.dr_model.specs.Sessions.{Session, session_in}
use Rattle.dr_model.specs.SessionEntries.{counts_in, shown_of}
use Rattle.dr_model.specs.Groups.{In}
use Rattle.dr_model.specs.Attempts.{Seen, roles, seen, seen_in, All, counts, NoneCommitted, SomeCommitted, AllAt, OneShown, AttemptOf, IsTarget}
use Rattle.dr_model.specs.Laws.{Sound}
use Rattle.dr_model.specs.Fits.{Fits}
use Rattle.dr_model.specs.Runs.{Task, run}
use Rattle.dr_facts.proofs.Lists.{from-map, from-filter, to-map, any-some}
use Rattle.dr_laws_sessions.proofs.Changes.{session-found, none-numbered, same-session}
use Rattle.dr_laws_attempts.proofs.Facts.{counts-member, shown-plain, none-some}
use Rattle.dr_laws_attempts.proofs.Reports.{never-impossible}
use Rattle.dr_laws_recovery.specs.Decided.{record_on, shown_on, DecidesOn}
use Rattle.dr_laws_sound.proofs.Steps.{sound-run}

-- the device of a volume that is defined has its record
pub on-record : (w : World) (on : ℕ → Bool) (fuse : ℕ → Option Fuse) (device : ℕ → Blocks) → Fits w on fuse device → (v : ℕ) → In v w.control.volumes → record_on w device v ≡ fields_at w.control v
on-record w on fuse device fits v there = (fits.volumes v (any-some (nat_eq v) w.control.volumes v there (eq-eqb v v refl))).fields

module _ (w : World) (s : Sound w) (on : ℕ → Bool) (fuse : ℕ → Option Fuse) (device : ℕ → Blocks) (fits : Fits w on fuse device) (n : ℕ) where
  abbrev k : Control
  k = w.control

  -- a target that counts in the session, as its member is seen
  record Counts (r : Shown) : Type 0 where
    session : Session
    listed : In session k.sessions
    number : session.number ≡ n
    one : Seen
    here : In one (seen_in k session)
    counted : counts one ≡ true
    sequence : r.sequence ≡ one.sequence
    revertible : r.revertible ≡ one.revertible

  counts-so : (r : Shown) → In r (shown_on w device n) → Counts r
  counts-so r h =
      let o = from-map (λ v. shown_of (record_on w device v)) (filter (λ v. counts_in n (record_on w device v)) k.volumes) r h in
      let f = from-filter (λ v. counts_in n (record_on w device v)) k.volumes o.from o.here in
      let is : record_on w device o.from ≡ fields_at k o.from = on-record w on fuse device fits o.from f.0 in
      let both = and_parts (nat_eq (fields_at k o.from).session n) ((fields_at k o.from).member || (fields_at k o.from).revertible) (subst (λ (g : Fields). counts_in n g ≡ true) is f.1) in
      let t : IsTarget k.sessions o.from (fields_at k o.from).session (roles k o.from).source (fields_at k o.from).recorded (fields_at k o.from).inhibited (fields_at k o.from).reversing = (s.attempts.volumes o.from).counted both.1 in
      record {
        session = t.session;
        listed = t.listed;
        number = t.number ∙ eqb-true (fields_at k o.from).session n both.0;
        one = seen (roles k) t.member;
        here = to-map (seen (roles k)) t.session.members t.member t.here;
        counted = ap (λ v. (fields_at k v).member || (fields_at k v).revertible) t.is ∙ both.1;
        sequence = ap (λ (r : Shown). r.sequence) o.is ∙ (ap (λ (g : Fields). g.sequence) is ∙ ap (λ v. (fields_at k v).sequence) (sym t.is));
        revertible = ap (λ (r : Shown). r.revertible) o.is ∙ (ap (λ (g : Fields). g.revertible) is ∙ ap (λ v. (fields_at k v).revertible) (sym t.is));
      }

  module _ (x : Session) (found : session_in k.sessions n ≡ Some x) where
    there : In x k.sessions × (x.number ≡ n)
    there = session-found k.sessions n x found

    own : AttemptOf (roles k) x
    own = s.attempts.sessions x there.0

    -- all of them are members of that session
    among : (r : Shown) (c : Counts r) → In c.one (seen_in k x)
    among r c = subst (λ y. In c.one (seen_in k y)) (same-session k.sessions c.session x s.groups.once c.listed there.0 (c.number ∙ sym there.1)) c.here

    -- the number that those share which aren't revertible
    record Shares : Type 0 where
      number : ℕ
      same : All (λ u. counts u ≡ true → u.revertible ≡ false → u.sequence ≡ number) (seen_in k x)

    shares : SomeCommitted x.last (seen_in k x) ⊎ OneShown x.last (seen_in k x) → NoneCommitted x.last (seen_in k x) ⊎ AllAt x.last (seen_in k x) → Shares
    shares (inr one) d = record { number = one.number; same = λ u h c p. sym (shown-plain u p) ∙ one.same u h (counts-member u c p) }
    shares (inl had) (inl none) = none-some x.last (seen_in k x) none had
    shares (inl had) (inr all) = record { number = x.last; same = λ u h c p. all u h c }

    possible : (a b : ℕ) → decision (shown_on w device n) ≢ Impossible a b
    possible a b e = let share = shares own.numbers.none own.numbers.some in
        never-impossible (shown_on w device n) x.last share.number a b
        (λ q h. let c = counts-so (record { sequence = q; revertible = true }) h in c.sequence ∙ (own.numbers.each c.one (among _ c)).last (sym c.revertible))
        (λ q h. let c = counts-so (record { sequence = q; revertible = false }) h in c.sequence ∙ share.same c.one (among _ c) c.counted (sym c.revertible))
        e

  -- if no session has the number, no target counts in it
  pub none-shown : session_in k.sessions n ≡ None → (r : Shown) → In r (shown_on w device n) → ⊥
  none-shown none r h = let c = counts-so r h in none-numbered k.sessions n c.session none c.listed c.number

  pub decides-by : (o : Option Session) → session_in k.sessions n ≡ o → (a b : ℕ) → decision (shown_on w device n) ≢ Impossible a b
  decides-by (Some x) found a b e = possible x found a b e
  decides-by None none a b e =
      never-impossible (shown_on w device n) 0 0 a b (λ q h. absurd (none-shown none (record { sequence = q; revertible = true }) h)) (λ q h. absurd (none-shown none (record { sequence = q; revertible = false }) h)) e

pub decides-on : (tasks : List Task) (w : World) (on : ℕ → Bool) (fuse : ℕ → Option Fuse) (device : ℕ → Blocks) → run tasks ≡ w → Fits w on fuse device → DecidesOn w device
decides-on tasks w on fuse device leads fits s a b = decides-by w (subst Sound leads (sound-run tasks)) on fuse device fits s (session_in w.control.sessions s) refl a b
