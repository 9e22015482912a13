-- What an exchange does with one member after another: a hold is one of its session, and a server falls silent.
use Rattle.std.proofs.Common.{ℕ, ◌≡◌, ◌⊎◌, ◌<◌, ◌+◌, inl, inr, refl, ap, sym, ◌∙◌, subst, Bool, true, false, cond, nat_lt, List, ◌∷◌, Some, option_map, arith}
use Rattle.std.proofs.lemmas.Bool.{ltb-true, lt-ltb}
use Rattle.std.proofs.lemmas.Option.{same_Some}
use Rattle.dr_ids.specs.declared.names.Member.{Member}
use Rattle.dr_ids.specs.declared.refusal.PhaseName.{PhaseName}
use Rattle.dr_ids.specs.declared.refusal.PhaseName.TheVariants as phase
use Rattle.dr_model.specs.Phases as phases
use Rattle.dr_model.specs.Control.{Control}
use Rattle.dr_model.specs.Moves.{Carried}
use Rattle.dr_model.specs.Pairs.{past_attempt}
use Rattle.dr_model.specs.Entries.{fields_at}
use Rattle.dr_model.specs.SessionEntries.{is_past, last_of}
use Rattle.dr_model.specs.SessionPlans.{is_idle, order_of}
use Rattle.dr_model.specs.Sessions.{Session, Mirror, session_in, changed, begun}
use Rattle.dr_model.specs.Groups.{In, SessionFits, Due, OpensAttempt, Groups}
use Rattle.dr_laws_sessions.specs.Frames.{RecordedBefore, Moves, SilentBut, Begins, HoldsOn, Holding}
use Rattle.dr_laws_sessions.proofs.Changes.{session-found, changed-found}
use Rattle.dr_laws_sessions.proofs.Sound.{among-servers}
use Rattle.dr_laws_sessions.proofs.Quieting.{moved-silent, moved-itself}
use Rattle.dr_laws_sessions.proofs.Silent.{member-of, last-is, past-silent, silent-next}
use Rattle.dr_logic.proofs.Truth.{false_true}

-- ---- which order it is

pub some-order : (b : Bool) (w : phases.Work) (n : ℕ) (o : phases.Order) → phases.order_if b (Some w) n ≡ Some o → o ≡ phases.numbered w n
some-order true w n o h = sym ((same_Some _ _ h))
some-order false w n o h = absurd cc

-- a hold is the first order of an attempt, or one while the master coordinates
held-by : (p : PhaseName) (b : Bool) (n : ℕ) (o : phases.Order) → cond (is_idle p) (Some (record { work = phases.Hold; number = n + 1 })) (phases.order_if b (phases.work_in p) n) ≡ Some o → o.work ≡ phases.Hold
    → ((p ≡ phase.Idle) × (o.number ≡ n + 1)) ⊎ ((p ≡ phase.Coordinating) × (o.number ≡ n))
held-by phase.Idle b n o h holds = inl (refl, ap (λ (o : phases.Order). o.number) (sym ((same_Some _ _ h))))
held-by phase.Coordinating b n o h holds = inr (refl, ap (λ (o : phases.Order). o.number) (some-order b phases.Hold n o h))
held-by phase.Releasing b n o h holds = let e : o.work ≡ phases.Release = ap (λ (o : phases.Order). o.work) (some-order b phases.Release n o h) in absurd cc
held-by phase.Draining b n o h holds = let e : o.work ≡ phases.Seal = ap (λ (o : phases.Order). o.work) (some-order b phases.Seal n o h) in absurd cc
held-by phase.Flashing b n o h holds = let e : o.work ≡ phases.Flash = ap (λ (o : phases.Order). o.work) (some-order b phases.Flash n o h) in absurd cc
held-by phase.Committing b n o h holds = let e : o.work ≡ phases.Commit = ap (λ (o : phases.Order). o.work) (some-order b phases.Commit n o h) in absurd cc
held-by phase.Reverting b n o h holds = let e : o.work ≡ phases.Revert = ap (λ (o : phases.Order). o.work) (some-order b phases.Revert n o h) in absurd cc
held-by phase.Finishing b n o h holds = let e : o.work ≡ phases.Finish = ap (λ (o : phases.Order). o.work) (some-order b phases.Finish n o h) in absurd cc
held-by phase.Lost b n o h holds = let e : o.work ≡ phases.Report = ap (λ (o : phases.Order). o.work) (some-order b phases.Report n o h) in absurd cc
held-by phase.None true n o h holds = absurd cc
held-by phase.None false n o h holds = absurd cc

owed-by : (p : PhaseName) (b : Bool) (n : ℕ) (o : phases.Order) → p ≡ phase.Coordinating → cond (is_idle p) (Some (record { work = phases.Hold; number = n + 1 })) (phases.order_if b (phases.work_in p) n) ≡ Some o → b ≡ true
owed-by phase.Coordinating true n o e h = refl
owed-by phase.Coordinating false n o e h = absurd cc
owed-by p b n o e h = absurd cc

pub order-holds : (r : Mirror) (server : ℕ) (o : phases.Order) → order_of r server ≡ Some o → o.work ≡ phases.Hold → ((r.master.phase ≡ phase.Idle) × (o.number ≡ r.master.number + 1)) ⊎ ((r.master.phase ≡ phase.Coordinating) × (o.number ≡ r.master.number))
order-holds r server o is holds = held-by r.master.phase (phases.is_among server r.master.owed) r.master.number o is holds

finishes-by : (p : PhaseName) (b : Bool) (n : ℕ) (o : phases.Order) → p ≡ phase.Finishing → cond (is_idle p) (Some (record { work = phases.Hold; number = n + 1 })) (phases.order_if b (phases.work_in p) n) ≡ Some o → (o.work ≡ phases.Finish) × (o.number ≡ n)
finishes-by phase.Finishing b n o ends h = let e = some-order b phases.Finish n o h in (ap (λ (o : phases.Order). o.work) e, ap (λ (o : phases.Order). o.number) e)
finishes-by p b n o ends h = absurd cc

pub order-finishes : (r : Mirror) (server : ℕ) (o : phases.Order) → r.master.phase ≡ phase.Finishing → order_of r server ≡ Some o → (o.work ≡ phases.Finish) × (o.number ≡ r.master.number)
order-finishes r server o ends is = finishes-by r.master.phase (phases.is_among server r.master.owed) r.master.number o ends is

-- and an order of a lost master is owed it
pub order-reports : (r : Mirror) (server : ℕ) (o : phases.Order) → r.master.phase ≡ phase.Lost → order_of r server ≡ Some o → phases.is_among server r.master.owed ≡ true
order-reports r server o lost is = by (phases.is_among server r.master.owed) (sym (ap (λ p. cond (is_idle p) (Some (record { work = phases.Hold; number = r.master.number + 1 })) (phases.order_if (phases.is_among server r.master.owed) (phases.work_in p) r.master.number)) lost) ∙ is)
  where
    by : (b : Bool) → phases.order_if b (Some phases.Report) r.master.number ≡ Some o → b ≡ true
    by true h = refl
    by false h = absurd cc

-- ---- holds, one after another

pub holding-begins : (k : Control) (s server : ℕ) (x : Session) (r : Mirror) (o : phases.Order) → Groups k → session_in k.sessions s ≡ Some x → x.mirror ≡ Some r → order_of r server ≡ Some o → o.work ≡ phases.Hold → Holding k s server o.number x.members
holding-begins k s server x r o groups found has is holds = record { session = x; found = found; members = refl; stage = by (order-holds r server o is holds) }
  where
    fits : SessionFits k x
    fits = groups.each x (session-found k.sessions s x found).0

    by : ((r.master.phase ≡ phase.Idle) × (o.number ≡ r.master.number + 1)) ⊎ ((r.master.phase ≡ phase.Coordinating) × (o.number ≡ r.master.number)) → Begins x o.number ⊎ HoldsOn k.flight x server o.number
    by (inl h) = inl (record {
      mirror = r;
      has_master = has;
      idle = h.0;
      next = h.1 ∙ (λ i. fits.sound.number r has i + 1);
      among = λ m here. subst (λ ks. phases.is_among m.server.0 ks ≡ true) (sym (fits.sound.servers r has)) (among-servers x m fits.sound here);
    })
    by (inr h) = let last = h.1 ∙ fits.sound.number r has in inr (record {
      last = last;
      due = inl (record { mirror = r; has_master = has; owed = owed-by r.master.phase (phases.is_among server r.master.owed) r.master.number o h.0 is; works = ap phases.work_in h.0; number = last });
    })

-- a hold that comes by a message
pub holding-comes : (k : Control) (s server n : ℕ) (x : Session) → session_in k.sessions s ≡ Some x → n ≡ x.last → Due k.flight x server phases.Hold n → Holding k s server n x.members
holding-comes k s server n x found last due = record { session = x; found = found; members = refl; stage = inr (record { last = last; due = due }) }

-- where its number is above the last one it begins the attempt
pub holding-next : (k : Control) (s server n : ℕ) (ms : List Member) → (holding : Holding k s server n ms) → nat_lt (last_of k s) n ≡ true → Begins holding.session n
holding-next k s server n ms holding newer = by holding.stage
  where
    above : holding.session.last < n
    above = ltb-true holding.session.last n (ap (λ i. nat_lt i n) (sym (last-is k s holding.session holding.found)) ∙ newer)

    by : Begins holding.session n ⊎ HoldsOn k.flight holding.session server n → Begins holding.session n
    by (inl h) = h
    by (inr h) = let lt : holding.session.last < n = above in let e : n ≡ holding.session.last = h.last in absurd (omega arith)

pub holding-opens : (k : Control) (s server n : ℕ) (ms : List Member) (m : Member) → Holding k s server n ms → In m ms → (fields_at k m.a.0).primary_partner ≡ m.b.0 → nat_lt (last_of k s) n ≡ true → OpensAttempt k m.a.0 s n
unfolding member-of
holding-opens k s server n ms m holding here to newer = let b = holding-next k s server n ms holding newer in
    record { place = member-of k s holding.session b.mirror m holding.found b.has_master (subst (In m) (sym holding.members) here); idle = b.idle; next = b.next; to = to }

-- else it is one of the last
pub holding-on : (k : Control) (s server n : ℕ) (ms : List Member) → (holding : Holding k s server n ms) → nat_lt (last_of k s) n ≡ false → HoldsOn k.flight holding.session server n
holding-on k s server n ms holding not_newer = by holding.stage
  where
    below : (holding.session.last < n) → ⊥
    below lt = false_true not_newer (ap (λ i. nat_lt i n) (last-is k s holding.session holding.found) ∙ lt-ltb holding.session.last n lt)

    by : Begins holding.session n ⊎ HoldsOn k.flight holding.session server n → HoldsOn k.flight holding.session server n
    by (inl h) = let e : n ≡ holding.session.last + 1 = h.next in absurd (below (omega arith))
    by (inr h) = h

-- it stays so where the sessions and the messages do, and where the attempt has begun
pub holding-stays : (k j : Control) (s server n : ℕ) (ms : List Member) → j.sessions ≡ k.sessions → j.flight ≡ k.flight → Holding k s server n ms → Holding j s server n ms
holding-stays k j s server n ms same still holding = record {
  session = holding.session;
  found = ap (λ ss. session_in ss s) same ∙ holding.found;
  members = holding.members;
  stage = subst (λ f. Begins holding.session n ⊎ HoldsOn f holding.session server n) (sym still) holding.stage;
}

pub holding-begun : (k j : Control) (s server n : ℕ) (ms : List Member) (m : Member) → j.sessions ≡ changed s begun k.sessions → nat_lt (last_of k s) n ≡ true → In m ms → m.server.0 ≡ server → Holding k s server n ms → Holding j s server n ms
holding-begun k j s server n ms m same newer here on holding = let b = holding-next k s server n ms holding newer in record {
  session = begun holding.session;
  found = ap (λ ss. session_in ss s) same ∙ changed-found s begun k.sessions holding.session (λ x. refl) holding.found;
  members = holding.members;
  stage = inr (record {
    last = b.next;
    due = inl (record {
      mirror = record b.mirror { master = phases.begun b.mirror.master };
      has_master = ap (option_map (λ (r : Mirror). record r { master = phases.begun r.master })) b.has_master;
      owed = subst (λ server. phases.is_among server b.mirror.master.servers ≡ true) on (b.among m (subst (In m) (sym holding.members) here));
      works = refl;
      number = b.next;
    });
  });
}

-- ---- a server falls silent

-- a member that is past the attempt is passed over, and for each other it is over
pub silent-passes : (k : Control) (x : Session) (server n : ℕ) (q : Member) (rest : List Member) → Groups k → In x k.sessions → In q x.members → x.last ≡ n → is_past n (fields_at k q.a.0) ≡ true → SilentBut k x server (q ∷ rest) → SilentBut k x server rest
silent-passes k x server n q rest groups listed here last past left = silent-next k k x server q rest left (λ v h. h) (past-silent k x q n groups listed here last past)

pub silent-finishes : (k j : Control) (x : Session) (server n : ℕ) (q : Member) (rest : List Member) (c : Carried) → j.sessions ≡ k.sessions → Moves k j q.a.0 (past_attempt n (fields_at k q.a.0)) c → SilentBut k x server (q ∷ rest) → SilentBut j x server rest
silent-finishes k j x server n q rest c same moves left =
    silent-next k j x server q rest left (moved-silent k j q.a.0 (past_attempt n (fields_at k q.a.0)) c same moves refl)
    (moved-itself k j q.a.0 (past_attempt n (fields_at k q.a.0)) c same moves (λ f. f.recording ≡ false) refl)

pub silent-recorded : (k j : Control) (v : ℕ) → ((u : ℕ) → (fields_at j u).recording ≡ true → RecordedBefore k j u) → (fields_at k v).recording ≡ false → (fields_at j v).recording ≡ false
silent-recorded k j v stays silent = by (fields_at j v).recording refl
  where
    by : (b : Bool) → (fields_at j v).recording ≡ b → b ≡ false
    by true h = false_true silent (stays v h).0
    by false h = refl

pub silent-stays : (k j : Control) (x : Session) (server : ℕ) (rest : List Member) → SilentBut k x server rest → ((u : ℕ) → (fields_at j u).recording ≡ true → RecordedBefore k j u) → SilentBut j x server rest
silent-stays k j x server rest left stays m here is = by (left m here is)
  where
    by : In m rest ⊎ ((fields_at k m.a.0).recording ≡ false) → In m rest ⊎ ((fields_at j m.a.0).recording ≡ false)
    by (inl h) = inl h
    by (inr h) = inr (silent-recorded k j m.a.0 stays h)
