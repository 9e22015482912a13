-- A session whose master changes.
use Rattle.std.proofs.Common.{ℕ, ◌≡◌, ◌≢◌, ◌⊎◌, inl, inr, refl, ap, sym, ◌∙◌, subst, Bool, true, false, cond, not, ◌&&◌, List, [], ◌∷◌, ◌++◌, Option, None, Some, option_map}
use Rattle.std.proofs.lemmas.Bool.Decides.{eqb_tells}
use Rattle.dr_ids.specs.declared.names.Member.{Member}
use Rattle.dr_ids.specs.declared.refusal.PhaseName.{PhaseName}
use Rattle.dr_ids.specs.declared.refusal.PhaseName.TheVariants as phase
use Rattle.dr_ids.specs.declared.refusal.Decision.{Decision}
use Rattle.dr_ids.specs.declared.refusal.Decision.TheVariants.{CommitRest}
use Rattle.dr_model.specs.Decisions.{Shown, decision}
use Rattle.dr_model.specs.Phases as phases
use Rattle.dr_model.specs.Control.{Control}
use Rattle.dr_model.specs.Entries.{fields_at}
use Rattle.dr_model.specs.Sessions.{Session, Mirror, servers_of, with_mirror, with_master, paused, mirror_lost_since}
use Rattle.dr_model.specs.Groups.{In, Finished, MasterStands, FewReports, OwesServers, SessionFits}
use Rattle.dr_laws_sessions.specs.Frames.{ServerSilent, MayReport, OwesReport}
use Rattle.dr_facts.proofs.Tables.{IsOrNot}
use Rattle.dr_laws_sessions.proofs.Frames.{Turns}
use Rattle.dr_laws_sessions.proofs.Sound.{among-servers, among-without, mapped, master-with}
use Rattle.dr_laws_sessions.proofs.Reports.{few-enters, few-left, few-reported}
use Rattle.dr_laws_sessions.proofs.Owed.{owes-enters, owes-left, owes-reported, owes-mirrors}
use Rattle.dr_logic.proofs.Truth.{false_true}

-- what a master becomes, and the laws of its session stay
pub record MirrorTurns (k : Control) (x : Session) (r q : Mirror) : Type 0 where
  pub servers : q.master.servers ≡ r.master.servers
  pub number : q.master.number ≡ r.master.number
  pub runs : MasterStands k q
  pub finished : q.master.phase ≡ phase.Finishing → (m : Member) → In m x.members → Finished k q m
  pub busy : r.master.phase ≢ phase.Idle → (m : Member) → In m x.members → (fields_at k m.a.0).recording ≡ true → q.master.phase ≢ phase.Idle
  pub few : q.master.phase ≡ phase.Lost → FewReports q.master x.members
  pub owes : OwesServers q.master

pub turn-mirror : (k : Control) (x : Session) (g : Mirror → Mirror) → SessionFits k x → ((r : Mirror) → x.mirror ≡ Some r → MirrorTurns k x r (g r)) → Turns k x (with_mirror g x)
turn-mirror k x g fits turns = record {
  number = refl;
  fits = record {
    sound = record {
      low = fits.sound.low;
      servers = λ r h. let p = mapped g x.mirror r h in ap (λ (q : Mirror). q.master.servers) p.is ∙ ((turns p.from p.was).servers ∙ fits.sound.servers p.from p.was);
      number = λ r h. let p = mapped g x.mirror r h in ap (λ (q : Mirror). q.master.number) p.is ∙ ((turns p.from p.was).number ∙ fits.sound.number p.from p.was);
    };
    once = fits.once;
    stands = fits.stands;
    runs = λ r h. let p = mapped g x.mirror r h in subst (MasterStands k) (sym p.is) (turns p.from p.was).runs;
    finished = λ r h ends m here.
        let p = mapped g x.mirror r h in
        subst (λ q. Finished k q m) (sym p.is) ((turns p.from p.was).finished (sym (ap (λ (q : Mirror). q.master.phase) p.is) ∙ ends) m here);
    few = λ r h lost.
        let p = mapped g x.mirror r h in
        subst (λ (q : Mirror). FewReports q.master x.members) (sym p.is) ((turns p.from p.was).few (sym (ap (λ (q : Mirror). q.master.phase) p.is) ∙ lost));
    owes = owes-mirrors g x.mirror (λ r h. (turns r h).owes);
  };
  within = λ m here. here;
  keeps = λ m r here has busy records. record {
    mirror = g r;
    has_master = ap (option_map g) has;
    busy = (turns r has).busy busy m here records;
    here = here;
    last = refl;
  };
}

-- the phase stays, and who is owed its order
pub turn-still : (k : Control) (x : Session) (r q : Mirror) → SessionFits k x → x.mirror ≡ Some r → q.master ≡ r.master → q.server ≡ r.server → MirrorTurns k x r q
turn-still k x r q fits has same at = record {
  servers = ap (λ (m : phases.Master). m.servers) same;
  number = ap (λ (m : phases.Master). m.number) same;
  runs = let s = fits.runs r has in record { volume = s.volume; defined = s.defined; server = s.server ∙ sym at; in_phase = λ e. s.in_phase (sym (ap (λ (m : phases.Master). m.phase) same) ∙ e) };
  finished = λ ends m here out. fits.finished r has (sym (ap (λ (m : phases.Master). m.phase) same) ∙ ends) m here (sym (ap (λ (n : phases.Master). phases.is_among m.server.0 n.owed) same) ∙ out);
  busy = λ busy m here records idle. busy (sym (ap (λ (m : phases.Master). m.phase) same) ∙ idle);
  few = λ lost. subst (λ m. FewReports m x.members) (sym same) (fits.few r has (sym (ap (λ (m : phases.Master). m.phase) same) ∙ lost));
  owes = subst OwesServers (sym same) (fits.owes r has);
}

-- A phase begins that isn't Idle: each server of the session is owed its order.
owed-all : (p : PhaseName) (servers : List ℕ) → p ≡ phase.Finishing → phases.owed_first p servers ≡ servers
owed-all p servers ends = ap (λ p. phases.owed_first p servers) ends

pub begins-finished : (k : Control) (x : Session) (r : Mirror) (p : PhaseName) (m : Member) → SessionFits k x → x.mirror ≡ Some r → p ≡ phase.Finishing → In m x.members → Finished k (record r { master = phases.enters p r.master }) m
begins-finished k x r p m fits has ends here out =
    false_true out (ap (phases.is_among m.server.0) (owed-all p r.master.servers ends ∙ fits.sound.servers r has) ∙ among-servers x m fits.sound here)

pub turn-begins : (k : Control) (x : Session) (r : Mirror) (p : PhaseName) → SessionFits k x → x.mirror ≡ Some r → p ≢ phase.None
    → (r.master.phase ≢ phase.Idle → (m : Member) → In m x.members → (fields_at k m.a.0).recording ≡ true → p ≢ phase.Idle)
    → MirrorTurns k x r (record r { master = phases.enters p r.master })
turn-begins k x r p fits has some busy = record {
  servers = refl;
  number = refl;
  runs = master-with k r (phases.enters p r.master) (fits.runs r has) some;
  finished = λ ends m here. begins-finished k x r p m fits has ends here;
  busy = busy;
  few = λ lost. few-enters p r.master x.members;
  owes = owes-enters p r.master;
}

-- ---- the master is lost

lost-some : (servers : List ℕ) → phases.phase_lost servers ≢ phase.None
lost-some [] e = absurd cc
lost-some (s ∷ servers) e = absurd cc

pub turn-lost : (k : Control) (x : Session) (r : Mirror) → SessionFits k x → x.mirror ≡ Some r → MirrorTurns k x r (record r { master = phases.lost r.master })
turn-lost k x r fits has = turn-begins k x r (phases.phase_lost r.master.servers) fits has (lost-some r.master.servers) (λ busy m here records. some-servers m here r.master.servers (fits.sound.servers r has))
  where
    some-servers : (m : Member) → In m x.members → (servers : List ℕ) → servers ≡ servers_of x.members → phases.phase_lost servers ≢ phase.Idle
    some-servers m here [] is idle = let among : false ≡ true = ap (phases.is_among m.server.0) is ∙ among-servers x m fits.sound here in absurd cc
    some-servers m here (s ∷ servers) is idle = absurd cc

pub turn-lost_if : (k : Control) (x : Session) (r : Mirror) (b : Bool) → SessionFits k x → x.mirror ≡ Some r → MirrorTurns k x r (cond b (record r { master = phases.lost r.master }) r)
turn-lost_if k x r true fits has = turn-lost k x r fits has
turn-lost_if k x r false fits has = turn-still k x r r fits has refl refl

-- ---- an attempt is aborted

aborts-busy : (p q : PhaseName) → phases.aborted_phase p ≡ Some q → q ≢ phase.Idle
aborts-busy phase.Coordinating q is idle = absurd cc
aborts-busy phase.Releasing q is idle = absurd cc
aborts-busy phase.Draining q is idle = absurd cc
aborts-busy phase.Flashing q is idle = absurd cc
aborts-busy phase.Committing q is idle = absurd cc
aborts-busy p q is idle = absurd cc

aborts-some : (p q : PhaseName) → phases.aborted_phase p ≡ Some q → q ≢ phase.None
aborts-some phase.Coordinating q is e = absurd cc
aborts-some phase.Releasing q is e = absurd cc
aborts-some phase.Draining q is e = absurd cc
aborts-some phase.Flashing q is e = absurd cc
aborts-some phase.Committing q is e = absurd cc
aborts-some p q is e = absurd cc

turn-enters_some : (k : Control) (x : Session) (r : Mirror) (o : Option PhaseName) → SessionFits k x → x.mirror ≡ Some r → phases.aborted_phase r.master.phase ≡ o → MirrorTurns k x r (record r { master = phases.enters_some o r.master })
turn-enters_some k x r None fits has is = turn-still k x r (record r { master = r.master }) fits has refl refl
turn-enters_some k x r (Some p) fits has is = turn-begins k x r p fits has (aborts-some r.master.phase p is) (λ busy m here records. aborts-busy r.master.phase p is)

pub turn-aborted : (k : Control) (x : Session) (r : Mirror) → SessionFits k x → x.mirror ≡ Some r → MirrorTurns k x r (record r { master = phases.aborted r.master })
turn-aborted k x r fits has = turn-enters_some k x r (phases.aborted_phase r.master.phase) fits has refl

-- ---- a server has replied

idle-after : (p : PhaseName) → phases.next_phase p ≡ phase.Idle → (p ≡ phase.Finishing) ⊎ (p ≡ phase.Idle)
idle-after phase.Finishing h = inl refl
idle-after phase.Idle h = inr refl
idle-after p h = absurd cc

next-some : (p : PhaseName) → p ≢ phase.None → phases.next_phase p ≢ phase.None
next-some phase.None some e = some refl
next-some p some e = absurd cc

-- a member of a session that finishes doesn't record, where its server replies, or has replied
pub replied-silent : (k : Control) (x : Session) (r : Mirror) (server : ℕ) (m : Member) → SessionFits k x → x.mirror ≡ Some r → r.master.phase ≡ phase.Finishing → ServerSilent k x server → In m x.members
    → phases.is_among m.server.0 (phases.without server r.master.owed) ≡ false → (fields_at k m.a.0).recording ≡ false
replied-silent k x r server m fits has ends silent here out = by (eqb_tells m.server.0 server)
  where
    by : IsOrNot m.server.0 server → (fields_at k m.a.0).recording ≡ false
    by (inl is) = silent m here is.1
    by (inr other) = fits.finished r has ends m here (sym (among-without m.server.0 server r.master.owed other.1) ∙ out)

turn-left : (k : Control) (x : Session) (r : Mirror) (server : ℕ) (rest : List ℕ) → SessionFits k x → x.mirror ≡ Some r → (r.master.phase ≡ phase.Finishing → ServerSilent k x server)
    → phases.without server r.master.owed ≡ rest → MirrorTurns k x r (record r { master = phases.left_with r.master rest })
turn-left k x r server [] fits has silent is = turn-begins k x r (phases.next_phase r.master.phase) fits has (next-some r.master.phase (fits.runs r has).in_phase) (λ busy m here records idle. by busy m here records (idle-after r.master.phase idle))
  where
    by : r.master.phase ≢ phase.Idle → (m : Member) → In m x.members → (fields_at k m.a.0).recording ≡ true → (r.master.phase ≡ phase.Finishing) ⊎ (r.master.phase ≡ phase.Idle) → ⊥
    by busy m here records (inl ends) = false_true (replied-silent k x r server m fits has ends (silent ends) here (ap (phases.is_among m.server.0) is)) records
    by busy m here records (inr idle) = busy idle
turn-left k x r server (s ∷ rest) fits has silent is = record {
  servers = refl;
  number = refl;
  runs = master-with k r (phases.left_with r.master (s ∷ rest)) (fits.runs r has) (fits.runs r has).in_phase;
  finished = λ ends m here out. replied-silent k x r server m fits has ends (silent ends) here (ap (phases.is_among m.server.0) is ∙ out);
  busy = λ busy m here records. busy;
  few = λ lost. few-left r.master x.members server (s ∷ rest) is (fits.few r has lost);
  owes = owes-left r.master server (s ∷ rest) is (fits.owes r has);
}

pub turn-done : (k : Control) (x : Session) (r : Mirror) (server : ℕ) → SessionFits k x → x.mirror ≡ Some r → (r.master.phase ≡ phase.Finishing → ServerSilent k x server) → MirrorTurns k x r (record r { master = phases.replied r.master server phases.Done })
turn-done k x r server fits has silent = turn-left k x r server (phases.without server r.master.owed) fits has silent refl

-- what a server reports to a master that was lost, and what follows all reports
lost-unfinished : (p : PhaseName) → p ≡ phase.Lost → p ≢ phase.Finishing
lost-unfinished p is ends = absurd cc

pub turn-reported : (k : Control) (x : Session) (r : Mirror) (server : ℕ) (xs : List Shown) → SessionFits k x → x.mirror ≡ Some r → r.master.phase ≡ phase.Lost → MayReport r.master x.members server xs → MirrorTurns k x r (record r { master = phases.replied r.master server (phases.Reported xs) })
turn-reported k x r server xs fits has is may = record {
  servers = refl;
  number = refl;
  runs = master-with k r (phases.replied r.master server (phases.Reported xs)) (fits.runs r has) (fits.runs r has).in_phase;
  finished = λ ends m here out. absurd (lost-unfinished r.master.phase is ends);
  busy = λ busy m here records. busy;
  few = λ lost. few-reported r.master x.members server xs may (fits.few r has is);
  owes = owes-reported r.master server xs (fits.owes r has);
}

settled-busy : (d : Decision) → phases.phase_by d ≢ phase.Idle
settled-busy (CommitRest n) idle = absurd cc
settled-busy d idle = absurd cc

settled-some : (d : Decision) → phases.phase_by d ≢ phase.None
settled-some (CommitRest n) e = absurd cc
settled-some d e = absurd cc

pub settled-found : (d : Decision) → phases.phase_by d ≢ phase.Lost
settled-found (CommitRest n) lost = absurd cc
settled-found d lost = absurd cc

settled-unfinished : (d : Decision) → phases.phase_by d ≢ phase.Finishing
settled-unfinished (CommitRest n) ends = absurd cc
settled-unfinished d ends = absurd cc

-- a report is taken, and after the last one the master settles
turn-told : (k : Control) (x : Session) (r : Mirror) (server : ℕ) (xs : List Shown) (rest : List ℕ) → SessionFits k x → x.mirror ≡ Some r → (r.master.phase ≡ phase.Finishing → ServerSilent k x server) → MayReport r.master x.members server xs
    → phases.without server r.master.owed ≡ rest → MirrorTurns k x r (record r { master = phases.settled_where rest (phases.replied r.master server (phases.Reported xs)) })
turn-told k x r server xs [] fits has silent may is = record {
  servers = refl;
  number = refl;
  runs = master-with k r (phases.settled (phases.replied r.master server (phases.Reported xs))) (fits.runs r has) (settled-some (decision (r.master.reports ++ xs)));
  finished = λ ends m here. absurd (settled-unfinished (decision (r.master.reports ++ xs)) ends);
  busy = λ busy m here records. settled-busy (decision (r.master.reports ++ xs));
  few = λ lost. absurd (settled-found (decision (r.master.reports ++ xs)) lost);
  owes = owes-enters (phases.phase_by (decision (r.master.reports ++ xs))) (phases.replied r.master server (phases.Reported xs));
}
turn-told k x r server xs (s ∷ rest) fits has silent may is = record {
  servers = refl;
  number = refl;
  runs = master-with k r (phases.replied r.master server (phases.Reported xs)) (fits.runs r has) (fits.runs r has).in_phase;
  finished = λ ends m here out. replied-silent k x r server m fits has ends (silent ends) here out;
  busy = λ busy m here records. busy;
  few = λ lost. few-reported r.master x.members server xs may (fits.few r has lost);
  owes = owes-reported r.master server xs (fits.owes r has);
}

-- a master takes any reply
turn-taken : (k : Control) (x : Session) (r : Mirror) (server : ℕ) (reply : phases.Reply) → SessionFits k x → x.mirror ≡ Some r → (r.master.phase ≡ phase.Finishing → ServerSilent k x server) → OwesReport r.master x.members server reply → MirrorTurns k x r (record r { master = phases.taken r.master server reply })
turn-taken k x r server phases.Done fits has silent may = turn-done k x r server fits has silent
turn-taken k x r server phases.NotYet fits has silent may = turn-still k x r (record r { master = r.master }) fits has refl refl
turn-taken k x r server (phases.Reported xs) fits has silent may = turn-told k x r server xs (phases.without server r.master.owed) fits has silent may refl

pub turn-settled : (k : Control) (x : Session) (r : Mirror) → SessionFits k x → x.mirror ≡ Some r → MirrorTurns k x r (record r { master = phases.settled r.master })
turn-settled k x r fits has = turn-begins k x r (phases.phase_by (decision r.master.reports)) fits has (settled-some (decision r.master.reports)) (λ busy m here records. settled-busy (decision r.master.reports))

-- ---- whole sessions

pub turn-paused : (k : Control) (x : Session) (on : Bool) → SessionFits k x → Turns k x (paused on x)
turn-paused k x on fits = turn-mirror k x (λ r. record r { paused = on }) fits (λ r has. turn-still k x r (record r { paused = on }) fits has refl refl)

pub session-aborted : (k : Control) (x : Session) → SessionFits k x → Turns k x (with_master phases.aborted x)
session-aborted k x fits = turn-mirror k x (λ r. record r { master = phases.aborted r.master }) fits (λ r has. turn-aborted k x r fits has)

pub session-lost : (k : Control) (x : Session) (before now : ℕ → Bool) → SessionFits k x → Turns k x (with_mirror (mirror_lost_since before now) x)
session-lost k x before now fits = turn-mirror k x (mirror_lost_since before now) fits (λ r has. turn-lost_if k x r (before r.server && not (now r.server)) fits has)

pub session-done : (k : Control) (x : Session) (server : ℕ) → SessionFits k x → ((r : Mirror) → x.mirror ≡ Some r → r.master.phase ≡ phase.Finishing → ServerSilent k x server) → Turns k x (with_master (λ m. phases.replied m server phases.Done) x)
session-done k x server fits silent = turn-mirror k x (λ r. record r { master = phases.replied r.master server phases.Done }) fits (λ r has. turn-done k x r server fits has (silent r has))

pub session-waits : (k : Control) (x : Session) (server : ℕ) → SessionFits k x → Turns k x (with_master (λ m. phases.replied m server phases.NotYet) x)
session-waits k x server fits = turn-mirror k x (λ r. record r { master = phases.replied r.master server phases.NotYet }) fits (λ r has. turn-still k x r (record r { master = r.master }) fits has refl refl)

pub session-reported : (k : Control) (x : Session) (server : ℕ) (xs : List Shown) → SessionFits k x → ((r : Mirror) → x.mirror ≡ Some r → r.master.phase ≡ phase.Lost) → ((r : Mirror) → x.mirror ≡ Some r → MayReport r.master x.members server xs) → Turns k x (with_master (λ m. phases.replied m server (phases.Reported xs)) x)
session-reported k x server xs fits is may = turn-mirror k x (λ r. record r { master = phases.replied r.master server (phases.Reported xs) }) fits (λ r has. turn-reported k x r server xs fits has (is r has) (may r has))

pub session-settled : (k : Control) (x : Session) → SessionFits k x → Turns k x (with_master phases.settled x)
session-settled k x fits = turn-mirror k x (λ r. record r { master = phases.settled r.master }) fits (λ r has. turn-settled k x r fits has)

pub session-taken : (k : Control) (x : Session) (server : ℕ) (reply : phases.Reply) → SessionFits k x → ((r : Mirror) → x.mirror ≡ Some r → r.master.phase ≡ phase.Finishing → ServerSilent k x server) → ((r : Mirror) → x.mirror ≡ Some r → OwesReport r.master x.members server reply) → Turns k x (with_master (λ m. phases.taken m server reply) x)
session-taken k x server reply fits silent may = turn-mirror k x (λ r. record r { master = phases.taken r.master server reply }) fits (λ r has. turn-taken k x r server reply fits has (silent r has) (may r has))
