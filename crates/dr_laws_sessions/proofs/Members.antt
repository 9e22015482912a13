-- The laws stay where a member is added or removed.
use Rattle.std.proofs.Common.{ℕ, ◌≡◌, ◌≢◌, ◌≤◌, ◌⊎◌, inl, inr, refl, ap, sym, ◌∙◌, subst, Bool, true, false, not, ◌||◌, nat_lt, List, [], ◌∷◌, ◌++◌, length, filter, Option, None, Some, option_map, ◌==◌}
use Rattle.std.specs.List.{find}
use Rattle.std.proofs.lemmas.List.{length-map}
use Rattle.std.proofs.lemmas.Bool.{eq-eqb}
use Rattle.std.proofs.lemmas.Bool.Decides.{eqb_tells}
use Rattle.dr_ids.specs.declared.names.Member.{Member}
use Rattle.dr_ids.specs.declared.refusal.PhaseName.{PhaseName}
use Rattle.dr_ids.specs.declared.refusal.PhaseName.TheVariants as phase
use Rattle.dr_ids.specs.declared.refusal.Refusal.{Refusal}
use Rattle.dr_model.specs.Phases as phases
use Rattle.dr_model.specs.Tables.{Once}
use Rattle.dr_model.specs.Control.{Control}
use Rattle.dr_model.specs.Entries.{fields_at}
use Rattle.dr_model.specs.Sessions.{Session, Mirror, session_in, has_place, has_place_of, servers_of, with_members, raised, with_member, without_member, changed, busy, unless_idle}
use Rattle.dr_model.specs.Groups.{In, MemberStands, MasterStands, OwesServers, SessionFits, IsAt, PlacesDiffer, IsRecorder, Groups}
use Rattle.dr_laws_sessions.specs.Frames.{Became, Quiet, NoPlace}
use Rattle.dr_facts.proofs.Lists.{in-joined, from-filter, not-found, any-none, from-map, is-met, once-more, once-filter, once-few}
use Rattle.dr_facts.proofs.Tables.{IsOrNot}
use Rattle.dr_laws_sessions.proofs.Changes.{numbers, session-found, same-session, changed-in, changed-stays, changed-once, changed-found}
use Rattle.dr_laws_sessions.proofs.Frames.{Turns, turn-quiet, stands-grows}
use Rattle.dr_laws_sessions.proofs.Sound.{sound-raised, sound-members, low-more, quiet-of, quiet-mirror, primaries, master-turns, master-with, fits-quiet}
use Rattle.dr_laws_sessions.proofs.Owed.{owes-raised, owes-servers, owes-mirrors}
use Rattle.dr_laws_sessions.proofs.Tables.{grows-same, with-table, fit-changed, one-turns, session-fits}
use Rattle.dr_facts.proofs.Sessions.{low-fewer}
use Rattle.dr_logic.proofs.Truth.{false_true}

turn-raised : (k : Control) (n : ℕ) (x : Session) → Quiet x → SessionFits k x → Turns k x (raised n x)
turn-raised k n x quiet fits =
    turn-quiet k x (raised n x) quiet refl
    (fits-quiet k (raised n x) (sound-raised n x fits.sound) fits.once fits.stands
    (master-turns k (λ r. record r { master = phases.raised r.master n }) x.mirror (λ r has. master-with k r (phases.raised r.master n) (fits.runs r has) (fits.runs r has).in_phase))
    (owes-mirrors (λ r. record r { master = phases.raised r.master n }) x.mirror (λ r has. owes-raised r.master n (fits.owes r has)))
    (quiet-mirror (λ r. record r { master = phases.raised r.master n }) x (raised n x) refl (λ r. refl) quiet))
    (λ m here. here)

pub groups-raised : (k : Control) (s n : ℕ) (x : Session) → Groups k → session_in k.sessions s ≡ Some x → busy x.mirror ≡ None → Groups (record k { sessions = changed s (raised n) k.sessions })
groups-raised k s n x groups found idle =
    with-table k (changed s (raised n) k.sessions) (fit-changed k s (raised n) groups (λ x. refl)
    (one-turns k s (raised n) x groups found (turn-raised k n x (quiet-of x idle) (session-fits k s x groups found))))

-- ---- a member less

pub quiet-members : (ms : List Member) (x : Session) → Quiet x → Quiet (with_members ms x)
quiet-members ms x quiet = quiet-mirror (λ r. record r { master = phases.with_servers r.master (servers_of ms) }) x (with_members ms x) refl (λ r. refl) quiet

master-members : (k : Control) (ms : List Member) (x : Session) → SessionFits k x → (r : Mirror) → (with_members ms x).mirror ≡ Some r → MasterStands k r
master-members k ms x fits = master-turns k (λ r. record r { master = phases.with_servers r.master (servers_of ms) }) x.mirror (λ r has. master-with k r (phases.with_servers r.master (servers_of ms)) (fits.runs r has) (fits.runs r has).in_phase)

owes-members : (k : Control) (ms : List Member) (x : Session) → Quiet x → SessionFits k x → (r : Mirror) → (with_members ms x).mirror ≡ Some r → OwesServers r.master
owes-members k ms x quiet fits = owes-mirrors (λ r. record r { master = phases.with_servers r.master (servers_of ms) }) x.mirror (λ r has. owes-servers r.master (servers_of ms) (quiet r has) (fits.owes r has))

turn-without : (k : Control) (a : ℕ) (x : Session) → Quiet x → SessionFits k x → Turns k x (without_member a x)
turn-without k a x quiet fits =
    let ms : List Member = filter (λ (m : Member). not (m.a.0 == a)) x.members in
    turn-quiet k x (without_member a x) quiet refl
    (fits-quiet k (without_member a x) (sound-members ms x (low-fewer (λ (m : Member). not (m.a.0 == a)) x.members fits.sound.low) fits.sound)
    (once-filter (λ (m : Member). m.a.0) (λ (m : Member). not (m.a.0 == a)) x.members fits.once)
    (λ m here. fits.stands m (from-filter (λ (m : Member). not (m.a.0 == a)) x.members m here).0) (master-members k ms x fits) (owes-members k ms x quiet fits) (quiet-members ms x quiet))
    (λ m here. (from-filter (λ (m : Member). not (m.a.0 == a)) x.members m here).0)

pub groups-removed : (k : Control) (s a : ℕ) (x : Session) → Groups k → session_in k.sessions s ≡ Some x → busy x.mirror ≡ None → Groups (record k { sessions = changed s (without_member a) k.sessions })
groups-removed k s a x groups found idle =
    with-table k (changed s (without_member a) k.sessions) (fit-changed k s (without_member a) groups (λ x. refl)
    (one-turns k s (without_member a) x groups found (turn-without k a x (quiet-of x idle) (session-fits k s x groups found))))

-- ---- a member more

has-place : (v : ℕ) (q : Member) → IsAt v q → has_place v q ≡ true
has-place v q (inl is) = ap (λ b. b || (q.b.0 == v || q.c.0 == v)) (eq-eqb q.a.0 v (sym is))
has-place v q (inr (inl is)) = by (q.a.0 == v)
  where
    by : (b : Bool) → (b || (q.b.0 == v || q.c.0 == v)) ≡ true
    by true = refl
    by false = ap (λ b. b || (q.c.0 == v)) (eq-eqb q.b.0 v (sym is))
has-place v q (inr (inr is)) = by (q.a.0 == v) (q.b.0 == v)
  where
    by : (a b : Bool) → (a || (b || (q.c.0 == v))) ≡ true
    by true b = refl
    by false true = refl
    by false false = eq-eqb q.c.0 v (sym is)

or-none : (a b c : Bool) → (a || (b || c)) ≡ false → (a ≡ false) × (b ≡ false) × (c ≡ false)
or-none true b c h = absurd cc
or-none false true c h = absurd cc
or-none false false true h = absurd cc
or-none false false false h = (refl, refl, refl)

-- where none has a place of m, its volumes have no place
pub no-place : (ss : List Session) (m : Member) → find (has_place_of m) ss ≡ None → NoPlace ss m
no-place ss m none v x q i here at_m at_q =
    let none_of = any-none (λ (q : Member). has_place m.a.0 q || (has_place m.b.0 q || has_place m.c.0 q)) x.members q (not-found (has_place_of m) ss x none i) here in
    by at_m (or-none (has_place m.a.0 q) (has_place m.b.0 q) (has_place m.c.0 q) none_of)
  where
    by : IsAt v m → (has_place m.a.0 q ≡ false) × (has_place m.b.0 q ≡ false) × (has_place m.c.0 q ≡ false) → ⊥
    by (inl is) h = false_true h.0 (has-place m.a.0 q (subst (λ u. IsAt u q) is at_q))
    by (inr (inl is)) h = false_true h.1 (has-place m.b.0 q (subst (λ u. IsAt u q) is at_q))
    by (inr (inr is)) h = false_true h.2 (has-place m.c.0 q (subst (λ u. IsAt u q) is at_q))

-- sessions with the same members give the same places
pub no-place-changed : (s : ℕ) (f : Session → Session) (ss : List Session) (m : Member) → ((x : Session) → (f x).members ≡ x.members) → Once (numbers ss) → NoPlace ss m → NoPlace (changed s f ss) m
no-place-changed s f ss m same once none v y q i here at_m at_q = by (changed-in s f ss y once i)
  where
    by : (In y ss × (y.number ≢ s)) ⊎ Became s f ss y → ⊥
    by (inl h) = none v y q h.0 here at_m at_q
    by (inr b) = none v b.from q b.listed (subst (In q) (same b.from) (subst (λ (z : Session). In q z.members) b.is here)) at_m at_q

module _ (k : Control) (s : ℕ) (x : Session) (m : Member) (groups : Groups k) (found : session_in k.sessions s ≡ Some x) (idle : busy x.mirror ≡ None) (low : nat_lt m.server.0 8 ≡ true) (stands : MemberStands k m) (differ : PlacesDiffer m) (none : NoPlace k.sessions m) where
  there : In x k.sessions × (x.number ≡ s)
  there = session-found k.sessions s x found

  fits : SessionFits k x
  fits = groups.each x there.0

  -- who is a member now was one, or is m
  each-member : (P : Member → Type 0) → ((q : Member) → In q x.members → P q) → P m → (q : Member) → In q (x.members ++ m ∷ []) → P q
  each-member P old new q i = by (in-joined x.members (m ∷ []) q i)
    where
      by : In q x.members ⊎ In q (m ∷ []) → P q
      by (inl h) = old q h
      by (inr (inl is)) = subst P (sym is) new
      by (inr (inr none)) = absurd none

  with-fits : SessionFits k (with_member m x)
  with-fits =
      fits-quiet k (with_member m x) (sound-members (x.members ++ m ∷ []) x (low-more x.members m fits.sound.low low) fits.sound)
      (once-more (λ (q : Member). q.a.0) x.members m fits.once (λ q here same. none m.a.0 x q there.0 here (inl refl) (inl (sym same))))
      (each-member (MemberStands k) fits.stands stands) (master-members k (x.members ++ m ∷ []) x fits) (owes-members k (x.members ++ m ∷ []) x (quiet-of x idle) fits) (quiet-members (x.members ++ m ∷ []) x (quiet-of x idle))

  abbrev ss : List Session
  ss = changed s (with_member m) k.sessions

  is-x : (y : Session) → In y k.sessions → y.number ≡ s → x ≡ y
  is-x y i e = same-session k.sessions x y groups.once there.0 i (there.1 ∙ sym e)

  each : (y : Session) → In y ss → SessionFits k y
  each y i = by (changed-in s (with_member m) k.sessions y groups.once i)
    where
      by : (In y k.sessions × (y.number ≢ s)) ⊎ Became s (with_member m) k.sessions y → SessionFits k y
      by (inl h) = groups.each y h.0
      by (inr b) = subst (SessionFits k) (ap (with_member m) (is-x b.from b.listed b.number) ∙ sym b.is) with-fits

  -- a member of the new table is one of the old, or m in x
  data Place (y : Session) (q : Member) : Type 0 where
    Was : (z : Session) → In z k.sessions → y.number ≡ z.number → In q z.members → Place y q
    New : y.number ≡ x.number → q ≡ m → Place y q

  place : (y : Session) (q : Member) → In y ss → In q y.members → Place y q
  place y q i here = by (changed-in s (with_member m) k.sessions y groups.once i)
    where
      in_x : (b : Became s (with_member m) k.sessions y) → In q (b.from.members) ⊎ In q (m ∷ []) → Place y q
      in_x b (inl h) = Was b.from b.listed (ap (λ (z : Session). z.number) b.is) h
      in_x b (inr (inl is)) = New (ap (λ (z : Session). z.number) b.is ∙ (b.number ∙ sym there.1)) is
      in_x b (inr (inr none)) = absurd none

      by : (In y k.sessions × (y.number ≢ s)) ⊎ Became s (with_member m) k.sessions y → Place y q
      by (inl h) = Was y h.0 refl here
      by (inr b) = in_x b (in-joined b.from.members (m ∷ []) q (subst (λ (z : Session). In q z.members) b.is here))

  differs : (y : Session) (q : Member) → Place y q → PlacesDiffer q
  differs y q (Was z i e here) = groups.lone.differ z q i here
  differs y q (New e is) = subst PlacesDiffer (sym is) differ

  one : (v : ℕ) (y z : Session) (p q : Member) → Place y p → Place z q → IsAt v p → IsAt v q → (y.number ≡ z.number) × (p ≡ q)
  one v y z p q (Was w i e here) (Was u j f there) at_p at_q = let r = groups.lone.one v w u p q i j here there at_p at_q in (e ∙ (r.0 ∙ sym f), r.1)
  one v y z p q (Was w i e here) (New f is) at_p at_q = absurd (none v w p i here (subst (IsAt v) is at_q) at_p)
  one v y z p q (New e is) (Was u j f there) at_p at_q = absurd (none v u q j there (subst (IsAt v) is at_p) at_q)
  one v y z p q (New e is) (New f also) at_p at_q = (e ∙ sym f, is ∙ sym also)

  -- nobody in x records
  records : (v n u : ℕ) → IsRecorder k.sessions v n u → IsRecorder ss v n u
  records v n u r = by (eqb_tells r.session.number s)
    where
      by : IsOrNot r.session.number s → IsRecorder ss v n u
      by (inl is) = absurd (r.busy (quiet-of x idle r.mirror (ap (λ (z : Session). z.mirror) (is-x r.session r.listed is.1) ∙ r.has_master)))
      by (inr other) = record { session = r.session; listed = changed-stays s (with_member m) k.sessions r.session r.listed other.1; mirror = r.mirror; has_master = r.has_master; busy = r.busy; member = r.member; here = r.here; is = r.is; last = r.last; to = r.to }

  pub groups-with : Groups (record k { sessions = changed s (with_member m) k.sessions })
  groups-with = with-table k ss (record {
    once = changed-once s (with_member m) k.sessions (λ x. refl) groups.once;
    each = each;
    lone = record {
      differ = λ y q i here. differs y q (place y q i here);
      one = λ v y z p q i j here there at_p at_q. one v y z p q (place y p i here) (place z q j there) at_p at_q;
    };
    recorders = λ v h. records v (fields_at k v).attempt (fields_at k v).primary_partner (groups.recorders v h);
  })

idle-still : (p : PhaseName) (why also : Refusal) → unless_idle p (Some why) ≡ None → unless_idle p (Some also) ≡ None
idle-still phase.Idle why also h = refl
idle-still p why also h = absurd cc

busy-raised : (n : ℕ) (o : Option Mirror) → busy o ≡ None → busy (option_map (λ (r : Mirror). record r { master = phases.raised r.master n }) o) ≡ None
busy-raised n None h = refl
busy-raised n (Some r) h = idle-still r.master.phase _ _ h

-- first the session's last number is raised, and then it has a member more
pub groups-added : (k : Control) (s n : ℕ) (x : Session) (m : Member) → Groups k → session_in k.sessions s ≡ Some x → busy x.mirror ≡ None → nat_lt m.server.0 8 ≡ true → MemberStands k m → PlacesDiffer m → find (has_place_of m) k.sessions ≡ None
    → Groups (record k { sessions = changed s (with_member m) (changed s (raised n) k.sessions) })
groups-added k s n x m groups found idle low stands differ none =
    let ss : List Session = changed s (raised n) k.sessions in
    groups-with (record k { sessions = ss }) s (raised n x) m (groups-raised k s n x groups found idle) (changed-found s (raised n) k.sessions x (λ x. refl) found) (busy-raised n x.mirror idle) low
    (stands-grows k (record k { sessions = ss }) m (grows-same k ss) stands) differ
    (no-place-changed s (raised n) k.sessions m (λ x. refl) groups.once (no-place k.sessions m none))

-- the places of a member differ, whose volumes stand, where no volume is the target of itself
pub places-differ : (k : Control) (m : Member) → MemberStands k m → m.b.0 ≢ m.c.0 → PlacesDiffer m
places-differ k m stands other = record {
  a_b = λ e. stands.apart (ap (λ v. (k.volume v).server) (sym e));
  a_c = λ e. stands.apart (sym stands.target_server ∙ ap (λ v. (k.volume v).server) (sym e));
  b_c = other;
}

-- a session has no more members than there are volumes
pub session-few : (k : Control) (x : Session) → Groups k → In x k.sessions → length x.members ≤ length k.volumes
session-few k x groups here =
    let fits = groups.each x here in
    let few : length (primaries x.members) ≤ length k.volumes = once-few (primaries x.members) k.volumes fits.once (λ v i. let o = from-map (λ (m : Member). m.a.0) x.members v i in subst (λ u. In u k.volumes) (sym o.is) (is-met o.from.a.0 k.volumes (fits.stands o.from o.here).a)) in
    subst (λ n. n ≤ length k.volumes) (length-map x.members (λ (m : Member). m.a.0)) few

pub members-few : (k : Control) (s : ℕ) (x : Session) → Groups k → session_in k.sessions s ≡ Some x → length x.members ≤ length k.volumes
members-few k s x groups found = session-few k x groups (session-found k.sessions s x found).0
