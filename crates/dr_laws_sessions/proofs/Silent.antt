-- Who doesn't record: members of quiet sessions, members that don't record their session's last attempt, and strangers.
use Rattle.std.proofs.Common.{ℕ, ◌≡◌, ◌≢◌, ◌⊎◌, ◌<◌, ◌+◌, inl, inr, refl, ap, sym, ◌∙◌, subst, true, false, not, ◌&&◌, nat_eq, nat_lt, List, [], ◌∷◌, None, Some, option_map, unwrap_or, ◌==◌, arith}
use Rattle.std.specs.List.{find}
use Rattle.std.proofs.lemmas.Bool.{cases_Bool, eq-eqb, eqb-true, and_from, and_parts, or_cases, ltb-true, not-true}
use Rattle.dr_ids.specs.declared.names.Member.{Member}
use Rattle.dr_ids.specs.declared.refusal.PhaseName.TheVariants as phase
use Rattle.dr_model.specs.Layout.{Fields}
use Rattle.dr_model.specs.Control.{Control}
use Rattle.dr_model.specs.Phases as phases
use Rattle.dr_model.specs.Pairs.{records}
use Rattle.dr_model.specs.Entries.{fields_at}
use Rattle.dr_model.specs.SessionEntries.{is_past, last_of, members_on, is_on}
use Rattle.dr_model.specs.Sessions.{Session, Mirror, session_in, has_place_of}
use Rattle.dr_model.specs.Groups.{In, IsAt, IsRecorder, IsMember, HoldsMember, OpensAttempt, Groups}
use Rattle.dr_laws_sessions.specs.Frames.{Quiet, ServerSilent, SilentBut}
use Rattle.dr_facts.proofs.Lists.{found, from-filter, to-filter}
use Rattle.dr_laws_sessions.proofs.Changes.{session-found, same-session}
use Rattle.dr_laws_sessions.proofs.Members.{no-place}
use Rattle.dr_logic.proofs.Truth.{false_true}

-- a member of a session that records: its session has a master that isn't Idle, and this is its last attempt
pub record Recording (x : Session) (attempt : ℕ) : Type 0 where
  pub mirror : Mirror
  pub has_master : x.mirror ≡ Some mirror
  pub busy : mirror.master.phase ≢ phase.Idle
  pub last : attempt ≡ x.last

pub member-records : (k : Control) (x : Session) (m : Member) → Groups k → In x k.sessions → In m x.members → (fields_at k m.a.0).recording ≡ true → Recording x (fields_at k m.a.0).attempt
member-records k x m groups listed here recording =
    let r : IsRecorder k.sessions m.a.0 (fields_at k m.a.0).attempt (fields_at k m.a.0).primary_partner = groups.recorders m.a.0 recording in
    let one = groups.lone.one m.a.0 r.session x r.member m r.listed listed r.here here (inl (sym r.is)) (inl refl) in
    let is : r.session ≡ x = same-session k.sessions r.session x groups.once r.listed listed one.0 in
    record { mirror = r.mirror; has_master = ap (λ (z : Session). z.mirror) (sym is) ∙ r.has_master; busy = r.busy; last = r.last ∙ ap (λ (z : Session). z.last) is }

-- the partner of a member that records is the member's secondary
pub partner-is : (k : Control) (x : Session) (m : Member) → Groups k → In x k.sessions → In m x.members → (fields_at k m.a.0).recording ≡ true → (fields_at k m.a.0).primary_partner ≡ m.b.0
partner-is k x m groups listed here recording =
    let r : IsRecorder k.sessions m.a.0 (fields_at k m.a.0).attempt (fields_at k m.a.0).primary_partner = groups.recorders m.a.0 recording in
    r.to ∙ ap (λ (q : Member). q.b.0) (groups.lone.one m.a.0 r.session x r.member m r.listed listed r.here here (inl (sym r.is)) (inl refl)).1

silent-by : (f : Fields) → (f.recording ≡ true → ⊥) → f.recording ≡ false
silent-by f never = by (cases_Bool f.recording)
  where
    by : (f.recording ≡ true) ⊎ (f.recording ≡ false) → f.recording ≡ false
    by (inl h) = absurd (never h)
    by (inr h) = h

-- nobody in a session without a master, or whose master is Idle
pub quiet-silent : (k : Control) (x : Session) (m : Member) → Groups k → In x k.sessions → Quiet x → In m x.members → (fields_at k m.a.0).recording ≡ false
quiet-silent k x m groups listed quiet here = silent-by (fields_at k m.a.0) (λ h. let r = member-records k x m groups listed here h in r.busy (quiet r.mirror r.has_master))

-- a member that doesn't record the last attempt records none
pub member-silent : (k : Control) (x : Session) (m : Member) (n : ℕ) → Groups k → In x k.sessions → In m x.members → x.last ≡ n → records n (fields_at k m.a.0) ≡ false → (fields_at k m.a.0).recording ≡ false
member-silent k x m n groups listed here last not_n =
    silent-by (fields_at k m.a.0) (λ h. let r = member-records k x m groups listed here h in
    false_true not_n (and_from (fields_at k m.a.0).recording (nat_eq (fields_at k m.a.0).attempt n) h (eq-eqb (fields_at k m.a.0).attempt n (r.last ∙ last))))

-- nor does one that is past it
pub past-silent : (k : Control) (x : Session) (m : Member) (n : ℕ) → Groups k → In x k.sessions → In m x.members → x.last ≡ n → is_past n (fields_at k m.a.0) ≡ true → (fields_at k m.a.0).recording ≡ false
past-silent k x m n groups listed here last past = by (or_cases (nat_lt n (fields_at k m.a.0).attempt) (nat_eq (fields_at k m.a.0).attempt n && not (fields_at k m.a.0).recording) past)
  where
    by : (nat_lt n (fields_at k m.a.0).attempt ≡ true) ⊎ ((nat_eq (fields_at k m.a.0).attempt n && not (fields_at k m.a.0).recording) ≡ true) → (fields_at k m.a.0).recording ≡ false
    by (inl newer) = silent-by (fields_at k m.a.0) (λ h.
        let r = member-records k x m groups listed here h in
        let above : n < (fields_at k m.a.0).attempt = ltb-true n (fields_at k m.a.0).attempt newer in
        let same : (fields_at k m.a.0).attempt ≡ n = r.last ∙ last in
        absurd (omega arith))
    by (inr over) = not-true (fields_at k m.a.0).recording (and_parts (nat_eq (fields_at k m.a.0).attempt n) (not (fields_at k m.a.0).recording) over).1

-- nor a volume that is no member's primary
pub stranger-silent : (k : Control) (v : ℕ) → Groups k → ((x : Session) (m : Member) → In x k.sessions → In m x.members → m.a.0 ≢ v) → (fields_at k v).recording ≡ false
stranger-silent k v groups never = silent-by (fields_at k v) (λ h. let r = groups.recorders v h in never r.session r.member r.listed r.here r.is)

-- where no volume of m has a place, none of the three records
pub placeless-silent : (k : Control) (m : Member) (v : ℕ) → Groups k → find (has_place_of m) k.sessions ≡ None → IsAt v m → (fields_at k v).recording ≡ false
placeless-silent k m v groups none at_m = stranger-silent k v groups (λ x q listed here is. no-place k.sessions m none v x q listed here at_m (inl (sym is)))

-- secondaries and targets of members don't record
pub apart-silent : (k : Control) (x : Session) (m : Member) (v : ℕ) → Groups k → In x k.sessions → In m x.members → (v ≡ m.b.0) ⊎ (v ≡ m.c.0) → (fields_at k v).recording ≡ false
apart-silent k x m v groups listed here at_v = silent-by (fields_at k v) (λ h. never h (inr at_v))
  where
    which : m.a.0 ≡ v → (v ≡ m.b.0) ⊎ (v ≡ m.c.0) → ⊥
    which is (inl b) = (groups.lone.differ x m listed here).a_b (is ∙ b)
    which is (inr c) = (groups.lone.differ x m listed here).a_c (is ∙ c)

    never : (fields_at k v).recording ≡ true → IsAt v m → ⊥
    never h at_m =
        let r = groups.recorders v h in
        let one = groups.lone.one v r.session x r.member m r.listed listed r.here here (inl (sym r.is)) at_m in
        which (sym (ap (λ (q : Member). q.a.0) one.1) ∙ r.is) at_v

-- ---- members, found and listed

pub member-found : (ms : List Member) (a : ℕ) (m : Member) → find (λ m. m.a.0 == a) ms ≡ Some m → In m ms × (m.a.0 ≡ a)
member-found ms a m h = let r = found (λ (q : Member). q.a.0 == a) ms m h in (r.0, eqb-true m.a.0 a r.1)

unfoldable pub member-of : (k : Control) (s : ℕ) (x : Session) (r : Mirror) (m : Member) → session_in k.sessions s ≡ Some x → x.mirror ≡ Some r → In m x.members → IsMember k m.a.0 s
member-of k s x r m is has here =
    let there = session-found k.sessions s x is in
    record { session = x; listed = there.0; number = there.1; mirror = r; has_master = has; member = m; here = here; is = refl }

pub last-is : (k : Control) (s : ℕ) (x : Session) → session_in k.sessions s ≡ Some x → last_of k s ≡ x.last
last-is k s x is = ap (λ o. unwrap_or (option_map (λ (x : Session). x.last) o) 0) is

-- what an order holds, or begins with, by the master's number
pub holds-of : (k : Control) (s : ℕ) (x : Session) (r : Mirror) (m : Member) → Groups k → session_in k.sessions s ≡ Some x → x.mirror ≡ Some r → In m x.members → (fields_at k m.a.0).primary_partner ≡ m.b.0 → r.master.phase ≡ phase.Coordinating → phases.is_among m.server.0 r.master.owed ≡ true → HoldsMember k m.a.0 s r.master.number
unfolding member-of
holds-of k s x r m groups is has here to phase_is owes = record {
  place = member-of k s x r m is has here;
  due = inl (record { mirror = r; has_master = has; owed = owes; works = ap phases.work_in phase_is; number = (groups.each x (session-found k.sessions s x is).0).sound.number r has });
  busy = λ idle. let other : phase.Coordinating ≡ phase.Idle = sym phase_is ∙ idle in absurd cc;
  unfinished = λ ends. owes;
  last = (groups.each x (session-found k.sessions s x is).0).sound.number r has;
  to = to;
}

pub opens-of : (k : Control) (s : ℕ) (x : Session) (r : Mirror) (m : Member) → Groups k → session_in k.sessions s ≡ Some x → x.mirror ≡ Some r → In m x.members → (fields_at k m.a.0).primary_partner ≡ m.b.0 → r.master.phase ≡ phase.Idle → OpensAttempt k m.a.0 s (r.master.number + 1)
unfolding member-of
opens-of k s x r m groups is has here to phase_is = record {
  place = member-of k s x r m is has here;
  idle = phase_is;
  next = λ i. (groups.each x (session-found k.sessions s x is).0).sound.number r has i + 1;
  to = to;
}

-- ---- the members on a server, one after another

pub on-members : (server : ℕ) (ms : List Member) (m : Member) → In m (members_on server ms) → In m ms × (m.server.0 ≡ server)
on-members server ms m here = let r = from-filter (is_on server) ms m here in (r.0, eqb-true m.server.0 server r.1)

pub members-there : (server : ℕ) (ms : List Member) (m : Member) → In m ms → m.server.0 ≡ server → In m (members_on server ms)
members-there server ms m here is = to-filter (is_on server) ms m here (eq-eqb m.server.0 server is)

-- at first all are left, one that doesn't record any more is taken off, and at last none is left
pub silent-begins : (k : Control) (x : Session) (server : ℕ) → SilentBut k x server (members_on server x.members)
silent-begins k x server m here is = inl (members-there server x.members m here is)

pub silent-next : (k j : Control) (x : Session) (server : ℕ) (q : Member) (rest : List Member) → SilentBut k x server (q ∷ rest) → ((v : ℕ) → (fields_at k v).recording ≡ false → (fields_at j v).recording ≡ false) → (fields_at j q.a.0).recording ≡ false → SilentBut j x server rest
silent-next k j x server q rest left kept silent m here is = by (left m here is)
  where
    by : In m (q ∷ rest) ⊎ ((fields_at k m.a.0).recording ≡ false) → In m rest ⊎ ((fields_at j m.a.0).recording ≡ false)
    by (inl (inl same)) = inr (subst (λ (z : Member). (fields_at j z.a.0).recording ≡ false) (sym same) silent)
    by (inl (inr more)) = inl more
    by (inr h) = inr (kept m.a.0 h)

pub silent-ends : (k : Control) (x : Session) (server : ℕ) → SilentBut k x server [] → ServerSilent k x server
silent-ends k x server left m here is = by (left m here is)
  where
    by : In m [] ⊎ ((fields_at k m.a.0).recording ≡ false) → (fields_at k m.a.0).recording ≡ false
    by (inl none) = absurd none
    by (inr h) = h
