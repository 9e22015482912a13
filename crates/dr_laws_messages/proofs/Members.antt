-- What the messages in flight say stays where a session's last number is raised, where it has a member more or less, and where a logical
-- subsystem joins or leaves it.
use Rattle.std.proofs.Common.{ℕ, ◌≡◌, ◌≤◌, ◌⊎◌, inl, inr, refl, ap, sym, ◌∙◌, subst, max, Bool, true, false, cond, not, arith, List, [], ◌∷◌, ◌++◌, filter, Option, None, Some, is_some, ◌==◌}
use Rattle.std.specs.List.{find}
use Rattle.std.proofs.lemmas.Bool.{eq-eqb}
use Rattle.dr_ids.specs.declared.names.Member.{Member}
use Rattle.dr_ids.specs.declared.refusal.PhaseName.TheVariants as phase
use Rattle.dr_model.specs.Control.{Control}
use Rattle.dr_model.specs.Entries.{fields_at}
use Rattle.dr_model.specs.Sessions.{Session, session_in, has_subsystem, subsystem_of, has_place_of, is_only, joined_by, left_by, new_session, joins, joined, leaves, without_session, raised, with_member, without_member, changed, busy, leave_refusal}
use Rattle.dr_model.specs.SessionPlans.{leaving}
use Rattle.dr_model.specs.Messages.{Flight, Message, forgotten}
use Rattle.dr_model.specs.Messages as messages
use Rattle.dr_model.specs.Groups.{In, Groups}
use Rattle.dr_model.specs.Attempts.{Roles, roles, Seen, seen, all_seen, phase_of, owed_of, reports_of, NoneRevertible, Attempts}
use Rattle.dr_model.specs.Flights.{FlightIn, Flights}
use Rattle.dr_laws_sessions.specs.Frames.{Quiet}
use Rattle.dr_facts.proofs.Lists.{in-first, in-joined, from-filter, from-map, to-map, Image}
use Rattle.dr_laws_sessions.proofs.Changes.{session-found, changed-found, changed-becomes, without-in, without-stays}
use Rattle.dr_laws_sessions.proofs.Sound.{quiet-of}
use Rattle.dr_laws_sessions.proofs.Members.{groups-raised, quiet-members}
use Rattle.dr_laws_attempts.proofs.Tables.{quiet-phase, quiet-unflashed}
use Rattle.dr_laws_attempts.proofs.Members.{quiet-raised, attempts-added, attempts-removed}
use Rattle.dr_laws_messages.proofs.Eased.{Eases, fits-fewer}
use Rattle.dr_laws_messages.proofs.Quiet.{Rests, rests-of, rests-none, rests-raised, rests-more, rests-fewer, fits-rests}
use Rattle.dr_laws_messages.proofs.Tables.{Home, home-of, has-home, flights-own, flights-kept}

-- ---- no attempt goes on

-- a quiet session's messages, and one whose messages rest
rests-in : (f : Flight) (T : Roles) (x : Session) → Quiet x → FlightIn f T x → Rests f x.number x.last (all_seen T x.members)
rests-in f T x quiet fits = rests-of f x.number x.last (all_seen T x.members) (phase_of x.mirror) (owed_of x.mirror) (reports_of x.mirror) (quiet-phase x quiet) fits

fits-in : (f : Flight) (T : Roles) (y : Session) → Quiet y → NoneRevertible (all_seen T y.members) → Rests f y.number y.last (all_seen T y.members) → FlightIn f T y
fits-in f T y quiet plain rests = fits-rests f y.number y.last (all_seen T y.members) (phase_of y.mirror) (owed_of y.mirror) (reports_of y.mirror) (quiet-phase y quiet) plain rests

pub flights-raised : (k : Control) (s n : ℕ) (x : Session) → Groups k → Attempts k → Flights k → session_in k.sessions s ≡ Some x → busy x.mirror ≡ None → Flights (record k { sessions = changed s (raised n) k.sessions })
flights-raised k s n x groups law flights found idle = let there = session-found k.sessions s x found in let quiet = quiet-of x idle in
    flights-own k flights groups.once s (raised n) x found (λ x. refl)
    (fits-in k.flight (roles k) (raised n x) (quiet-raised n x quiet) (quiet-unflashed (roles k) x quiet (law.sessions x there.0))
    (rests-raised k.flight x.number x.last (all_seen (roles k) x.members) (rests-in k.flight (roles k) x quiet (flights.each x there.0)) (max x.last n) (omega arith)))

-- ---- a member more

module _ (T : Roles) (ms : List Member) (m : Member) where
  more-back : (u : Seen) → In u (all_seen T (ms ++ m ∷ [])) → (u ≡ seen T m) ⊎ In u (all_seen T ms)
  more-back u h = let o = from-map (seen T) (ms ++ m ∷ []) u h in by o (in-joined ms (m ∷ []) o.from o.here)
    where
      by : (o : Image (seen T) (ms ++ m ∷ []) u) → In o.from ms ⊎ In o.from (m ∷ []) → (u ≡ seen T m) ⊎ In u (all_seen T ms)
      by o (inl here) = inr (subst (λ u. In u (all_seen T ms)) (sym o.is) (to-map (seen T) ms o.from here))
      by o (inr (inl is)) = inl (o.is ∙ ap (seen T) is)
      by o (inr (inr never)) = absurd never

pub flights-added : (k : Control) (s n : ℕ) (x : Session) (m : Member) → Groups k → Attempts k → Flights k → session_in k.sessions s ≡ Some x → busy x.mirror ≡ None → find (has_place_of m) k.sessions ≡ None → has_subsystem (subsystem_of m.a.0) x ≡ true
    → (fields_at k m.a.0).attempt ≤ n → (fields_at k m.b.0).seal ≤ n → (fields_at k m.c.0).floor ≤ n → max x.last n ≤ (fields_at k m.a.0).attempt → max x.last n ≤ (fields_at k m.c.0).floor → Flights (record k { sessions = changed s (with_member m) (changed s (raised n) k.sessions) })
flights-added k s n x m groups law flights found idle place lies attempt seal floor held past =
    let old : Session = raised n x in
    let now : Control = record k { sessions = changed s (raised n) k.sessions } in
    let middle : Groups now = groups-raised k s n x groups found idle in
    let flown : Flights now = flights-raised k s n x groups law flights found idle in
    let still : session_in now.sessions s ≡ Some old = changed-found s (raised n) k.sessions x (λ x. refl) found in
    let there = session-found now.sessions s old still in
    let quiet : Quiet old = quiet-raised n x (quiet-of x idle) in
    let after = attempts-added k s n x m groups law found idle place lies attempt seal floor held past in
    let plain = quiet-unflashed (roles k) (with_member m old) (quiet-members (x.members ++ m ∷ []) old quiet) (after.sessions (with_member m old) (changed-becomes s (with_member m) now.sessions old middle.once there.0 there.1)) in
    flights-own now flown middle.once s (with_member m) old still (λ x. refl)
    (fits-in k.flight (roles k) (with_member m old) (quiet-members (x.members ++ m ∷ []) old quiet) plain
    (rests-more k.flight x.number old.last (all_seen (roles k) x.members) (rests-in k.flight (roles k) old quiet (flown.each old there.0))
    (seen (roles k) m) (all_seen (roles k) (x.members ++ m ∷ [])) (more-back (roles k) x.members m) held past))

-- ---- a member less

pub flights-removed : (k : Control) (s a : ℕ) (x : Session) → Groups k → Attempts k → Flights k → session_in k.sessions s ≡ Some x → busy x.mirror ≡ None → ((m : Member) → In m x.members → m.a.0 ≡ a → (fields_at k m.c.0).member ≡ false)
    → Flights (record k { sessions = changed s (without_member a) k.sessions })
flights-removed k s a x groups law flights found idle gone =
    let there = session-found k.sessions s x found in
    let quiet : Quiet x = quiet-of x idle in
    let rest : List Member = filter (λ (m : Member). not (m.a.0 == a)) x.members in
    let after = attempts-removed k s a x groups law found idle gone in
    let plain = quiet-unflashed (roles k) (without_member a x) (quiet-members rest x quiet) (after.sessions (without_member a x) (changed-becomes s (without_member a) k.sessions x groups.once there.0 there.1)) in
    flights-own k flights groups.once s (without_member a) x found (λ x. refl)
    (fits-in k.flight (roles k) (without_member a x) (quiet-members rest x quiet) plain
    (rests-fewer k.flight x.number x.last (all_seen (roles k) x.members) (rests-in k.flight (roles k) x quiet (flights.each x there.0)) (all_seen (roles k) rest)
    (λ u h. let o = from-map (seen (roles k)) rest u h in subst (λ u. In u (all_seen (roles k) x.members)) (sym o.is) (to-map (seen (roles k)) x.members o.from (from-filter (λ (m : Member). not (m.a.0 == a)) x.members o.from o.here).0))))

-- ---- logical subsystems

module _ (k : Control) (flights : Flights k) where
  abbrev ss : List Session
  ss = k.sessions

  abbrev T : Roles
  T = roles k

  abbrev f : Flight
  f = k.flight

  -- no message is of a number that no session has
  unheard-of : (s : ℕ) → session_in ss s ≡ None → (m : Message) → In m f.messages → m.session ≡ s → ⊥
  unheard-of s none m i is = let has : is_some (session_in ss m.session) ≡ true = flights.homes m i in let e : false ≡ true = sym (ap is_some none) ∙ (ap (λ s. is_some (session_in ss s)) (sym is) ∙ has) in absurd cc

  home-more : (y : Session) (s : ℕ) → Home ss s → Home (ss ++ y ∷ []) s
  home-more y s home = record { session = home.session; listed = in-first ss (y ∷ []) home.session home.listed; number = home.number }

  flights-new : (s l : ℕ) → session_in ss s ≡ None → Flights (record k { sessions = ss ++ new_session s l ∷ [] })
  flights-new s l none = record {
    homes = λ m i. has-home (ss ++ new_session s l ∷ []) m.session (home-more (new_session s l) m.session (home-of ss m.session (flights.homes m i)));
    fences = flights.fences;
    each = λ y i. by y (in-joined ss (new_session s l ∷ []) y i);
  }
    where
      by : (y : Session) → In y ss ⊎ In y (new_session s l ∷ []) → FlightIn f T y
      by y (inl i) = flights.each y i
      by y (inr (inl is)) = subst (FlightIn f T) (sym is) (fits-rests f s 0 [] phase.Idle [] [] refl (λ u h. absurd h) (rests-none f s [] (unheard-of s none) 0))
      by y (inr (inr never)) = absurd never

  pub flights-joined : Groups k → (s l : ℕ) → Flights (record k { sessions = joined s l ss })
  flights-joined groups s l = by (session_in ss s) refl
    where
      by : (o : Option Session) → session_in ss s ≡ o → Flights (record k { sessions = joins o s l ss })
      by None e = flights-new s l e
      by (Some x) e = flights-kept k flights groups.once s (joined_by l) (λ x. refl) (λ x i is. flights.each x i)

  -- with a session its messages go
  module _ (groups : Groups k) (s : ℕ) where
    abbrev g : Flight
    g = forgotten s f

    forgotten-was : (m : Message) → In m g.messages → In m f.messages × (not (m.session == s) ≡ true)
    forgotten-was m i = from-filter (λ (m : Message). not (m.session == s)) f.messages m i

    eases-forgotten : (t : ℕ) → Eases f g t
    eases-forgotten t = record { orders = λ m o. record { here = (forgotten-was m o.here).0; session = o.session; starts = o.starts; asks = o.asks }; fence = λ x. omega arith }

    home-less : (m : Message) → In m g.messages → Home (without_session s ss) m.session
    home-less m i = let was = forgotten-was m i in let home = home-of ss m.session (flights.homes m was.0) in
        record { session = home.session; listed = without-stays s ss home.session home.listed (λ e. other (sym home.number ∙ e) was.1); number = home.number }
      where
        other : m.session ≡ s → not (m.session == s) ≡ true → ⊥
        other e h = let never : not true ≡ true = ap not (sym (eq-eqb m.session s e)) ∙ h in absurd cc

    flights-gone : Flights (record k { sessions = without_session s ss; flight = g })
    flights-gone = record {
      homes = λ m i. has-home (without_session s ss) m.session (home-less m i);
      fences = flights.fences;
      each = λ y i. let fits = flights.each y (without-in s ss y i) in
          fits-fewer f g y.number (eases-forgotten y.number) (phase_of y.mirror) y.last (owed_of y.mirror) (reports_of y.mirror) (all_seen T y.members) refl fits (λ m h at. (forgotten-was m h).0);
    }

  pub flights-left : Groups k → (s l : ℕ) (x : Session) → session_in ss s ≡ Some x → leave_refusal (Some x) s l ≡ None → Flights (leaving s l x k)
  flights-left groups s l x found leaves_it = subst (λ o. Flights (record k { sessions = leaves o s l ss; flight = messages.left s l x f })) (sym found) (by (is_only l x))
    where
      by : (b : Bool) → Flights (record k { sessions = cond b (without_session s ss) (changed s (left_by l) ss); flight = cond b (forgotten s f) f })
      by true = flights-gone groups s
      by false = flights-kept k flights groups.once s (left_by l) (λ x. refl) (λ x i is. flights.each x i)
