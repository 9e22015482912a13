-- The plan of an exchange: a server carries out the order that its session's master owes it, or the first hold of the next attempt, and
-- the master may take its reply.
use Rattle.std.proofs.Common.{ℕ, ◌≡◌, ◌≢◌, ◌≤◌, ◌+◌, ◌⊎◌, inl, inr, refl, ap, sym, ◌∙◌, subst, Bool, true, false, cond, not, arith, List, Some, None, option_map}
use Rattle.std.specs.List.{list_any}
use Rattle.std.proofs.lemmas.Option.{same_Some}
use Rattle.dr_ids.specs.declared.names.Member.{Member}
use Rattle.dr_ids.specs.declared.refusal.PhaseName.{PhaseName}
use Rattle.dr_ids.specs.declared.refusal.PhaseName.TheVariants as phase
use Rattle.dr_model.specs.Refusals.{server_off}
use Rattle.dr_model.specs.Phases as phases
use Rattle.dr_model.specs.Sessions.{Session, Mirror, begun}
use Rattle.dr_model.specs.Messages.{Flight, heard}
use Rattle.dr_model.specs.Control.{Control, World}
use Rattle.dr_model.specs.SessionEntries.{is_drained, members_on, shown_by_members, reply_after}
use Rattle.dr_model.specs.SessionPlans.{is_idle, off_refusal, phase_refusal, apart_refusal, answered_by, exchanged}
use Rattle.dr_model.specs.Groups.{In, Groups, SessionFits, Due}
use Rattle.dr_model.specs.Attempts.{phase_of, Attempts, ServerDone}
use Rattle.dr_model.specs.Decisions.{Shown}
use Rattle.dr_model.specs.Flights.{shown_by, Flights}
use Rattle.dr_model.specs.Laws.{Sound}
use Rattle.dr_laws_sessions.specs.Frames.{ServerSilent}
use Rattle.dr_laws_sessions.proofs.Changes.{session-found}
use Rattle.dr_laws_sessions.proofs.Tables.{groups-answered}
use Rattle.dr_laws_sessions.proofs.Orders.{order-finishes, order-reports, holding-begins, some-order}
use Rattle.dr_laws_attempts.proofs.Tables.{with-answered}
use Rattle.dr_laws_attempts.proofs.Orders.{order-is, reports-lost, done-asked}
use Rattle.dr_laws_messages.proofs.Replies.{flights-answered, flights-heard}
use Rattle.dr_laws_closed.specs.Regroups.{Regroups}
use Rattle.dr_laws_closed.proofs.Regroups.{regroups-same, regroups-stay, stays-taken}
use Rattle.dr_laws_sound.proofs.KeepsGroups.{secondaries-stay}
use Rattle.dr_laws_sound.proofs.NewMessages.{Adds, adds-same}
use Rattle.dr_laws_sound.proofs.GoesOn.{Knows, AllGoOn, shown-by, reply-shown, goes-same, goes-still}
use Rattle.dr_laws_sound.proofs.TablesGo.{goes-taken}
use Rattle.dr_laws_sound.proofs.Cases.{Ordered, ordered}
use Rattle.dr_laws_sound.proofs.FitsFlash.{sound-begun}
use Rattle.dr_laws_sound.proofs.FitsSessions.{sound-tables, sound-flight, Orders}
use Rattle.dr_laws_sound.proofs.FitsOrders.{Carried, How, begun-coordinates, carries}
use Rattle.dr_facts.proofs.Refusals.{none-both, met}

-- the phase in which an order of some work is owed: a hold comes first from Idle
abbrev pub WorkPhase : phases.Work → PhaseName → Type 0
WorkPhase phases.Hold p = (p ≡ phase.Idle) ⊎ (p ≡ phase.Coordinating)
WorkPhase phases.Release p = p ≡ phase.Releasing
WorkPhase phases.Seal p = p ≡ phase.Draining
WorkPhase phases.Flash p = p ≡ phase.Flashing
WorkPhase phases.Commit p = p ≡ phase.Committing
WorkPhase phases.Revert p = p ≡ phase.Reverting
WorkPhase phases.Finish p = p ≡ phase.Finishing
WorkPhase phases.Report p = p ≡ phase.Lost

-- the last attempt's number is that of each order but a hold and a report
abbrev pub IsLast : phases.Work → ℕ → ℕ → Type 0
IsLast phases.Hold n last = Unit {0}
IsLast phases.Report n last = Unit {0}
IsLast work n last = n ≡ last

works-by : (p : PhaseName) (n : ℕ) (o q : phases.Order) → o ≡ q → WorkPhase q.work p × IsLast q.work q.number n → WorkPhase o.work p × IsLast o.work o.number n
works-by p n o q is h = subst (λ (o : phases.Order). WorkPhase o.work p × IsLast o.work o.number n) (sym is) h

pub works : (p : PhaseName) (b : Bool) (n : ℕ) (o : phases.Order) → cond (is_idle p) (Some (record { work = phases.Hold; number = n + 1 })) (phases.order_if b (phases.work_in p) n) ≡ Some o → WorkPhase o.work p × IsLast o.work o.number n
works phase.Idle b n o h = works-by phase.Idle n o (record { work = phases.Hold; number = n + 1 }) (sym ((same_Some _ _ h))) (inl refl, tt)
works phase.Coordinating b n o h = works-by phase.Coordinating n o (phases.numbered phases.Hold n) (some-order b phases.Hold n o h) (inr refl, tt)
works phase.Releasing b n o h = works-by phase.Releasing n o (phases.numbered phases.Release n) (some-order b phases.Release n o h) (refl, refl)
works phase.Draining b n o h = works-by phase.Draining n o (phases.numbered phases.Seal n) (some-order b phases.Seal n o h) (refl, refl)
works phase.Flashing b n o h = works-by phase.Flashing n o (phases.numbered phases.Flash n) (some-order b phases.Flash n o h) (refl, refl)
works phase.Committing b n o h = works-by phase.Committing n o (phases.numbered phases.Commit n) (some-order b phases.Commit n o h) (refl, refl)
works phase.Reverting b n o h = works-by phase.Reverting n o (phases.numbered phases.Revert n) (some-order b phases.Revert n o h) (refl, refl)
works phase.Finishing b n o h = works-by phase.Finishing n o (phases.numbered phases.Finish n) (some-order b phases.Finish n o h) (refl, refl)
works phase.Lost b n o h = works-by phase.Lost n o (phases.numbered phases.Report n) (some-order b phases.Report n o h) (refl, tt)
works phase.None true n o h = absurd cc
works phase.None false n o h = absurd cc

-- an order that isn't the first hold of an attempt is owed
owed-of : (p : PhaseName) (b : Bool) (n : ℕ) (o : phases.Order) → (p ≡ phase.Idle → ⊥) → cond (is_idle p) (Some (record { work = phases.Hold; number = n + 1 })) (phases.order_if b (phases.work_in p) n) ≡ Some o → b ≡ true
owed-of phase.Idle b n o busy h = absurd (busy refl)
owed-of p true n o busy h = refl
owed-of p false n o busy h = absurd cc

-- Idle, or not
pub idle-or : (p : PhaseName) → (p ≡ phase.Idle) ⊎ (p ≢ phase.Idle)
idle-or phase.Idle = inl refl
idle-or p = inr (λ e. cc)

-- only a lost master asks for reports
pub not-lost : (p : PhaseName) (work : phases.Work) → phases.work_in p ≡ Some work → work ≢ phases.Report → p ≢ phase.Lost
not-lost p work asks other lost = other (same_Some _ _ (sym asks ∙ ap phases.work_in lost))

-- a report raises a fence alone
pub heard-messages : (s server epoch : ℕ) (work : phases.Work) (f : Flight) → (heard s server epoch work f).messages ≡ f.messages
heard-messages s server epoch phases.Report f = refl
heard-messages s server epoch work f = refl

pub heard-epoch : (s server epoch : ℕ) (work : phases.Work) (f : Flight) (t : ℕ) → (heard s server epoch work f).epoch t ≡ f.epoch t
heard-epoch s server epoch phases.Report f t = refl
heard-epoch s server epoch work f t = refl

-- a report is what members show, and nothing else is one
reply-reports : (s : ℕ) (work : phases.Work) (ms : List Member) (k : Control) (xs : List Shown) → reply_after s work ms k ≡ phases.Reported xs → work ≡ phases.Report
reply-reports s phases.Report ms k xs e = refl
reply-reports s phases.Seal ms k xs e = absurd (by (list_any (λ (m : Member). not (is_drained m.a.0 k)) ms) e)
  where
    by : (b : Bool) → cond b phases.NotYet phases.Done ≡ phases.Reported xs → ⊥
    by true e = cc
    by false e = cc
reply-reports s work ms k xs e = absurd cc

module _ (w : World) (s : Sound w) (i server : ℕ) (x : Session) (r : Mirror) (o : phases.Order) (allowed : Ordered w.control i server x r o) where
  abbrev n : ℕ
  n = o.number

  abbrev ms : List Member
  ms = members_on server x.members

  on-server : w.control.on server ≡ true
  on-server =
      let rest = none-both (phase_refusal r server x.members) _ (none-both (off_refusal w.control r.server) _ allowed.allowed).1 in
      met (w.control.on server) (server_off server) (none-both (off_refusal w.control server) (apart_refusal w.control r.server server) rest.1).0

  -- ---- why it may be carried out

  -- the order's phase, and its number
  stands : WorkPhase o.work r.master.phase × IsLast o.work o.number r.master.number
  stands = works r.master.phase (phases.is_among server r.master.owed) r.master.number o allowed.order

  stands-by : (work : phases.Work) → o.work ≡ work → WorkPhase work r.master.phase × IsLast work n r.master.number
  stands-by work is = subst (λ (work : phases.Work). WorkPhase work r.master.phase × IsLast work n r.master.number) is stands

  fits : SessionFits w.control x
  fits = s.groups.each x (session-found w.control.sessions i x allowed.found).0

  last-number : o.number ≡ r.master.number → n ≡ x.last
  last-number is = is ∙ fits.sound.number r allowed.mirror

  abbrev Hows : phases.Work → Type 0
  Hows = How w s i server x o allowed.found on-server

  abbrev Owes : phases.Work → Type 0
  Owes work = (n ≤ x.last) × Due w.control.flight x server work n

  -- what the phase asks is due
  due-of : (p : PhaseName) (work : phases.Work) → r.master.phase ≡ p → (p ≡ phase.Idle → ⊥) → phases.work_in p ≡ Some work → n ≡ r.master.number → Owes work
  due-of p work is busy asks number = let last : n ≡ x.last = last-number number in (
    omega arith,
    inl (record {
      mirror = r;
      has_master = allowed.mirror;
      owed = owed-of r.master.phase (phases.is_among server r.master.owed) r.master.number o (λ e. busy (sym is ∙ e)) allowed.order;
      works = ap phases.work_in is ∙ asks;
      number = last;
    }),
  )

  how-by : (work : phases.Work) → o.work ≡ work → Hows work
  how-by phases.Hold is = inl (holding-begins w.control i server x r o s.groups allowed.found allowed.mirror allowed.order is)
  how-by phases.Release is = let at = stands-by phases.Release is in due-of phase.Releasing phases.Release at.0 (λ e. cc) refl at.1
  how-by phases.Seal is = let at = stands-by phases.Seal is in due-of phase.Draining phases.Seal at.0 (λ e. cc) refl at.1
  how-by phases.Flash is = let at = stands-by phases.Flash is in due-of phase.Flashing phases.Flash at.0 (λ e. cc) refl at.1
  how-by phases.Commit is = let at = stands-by phases.Commit is in due-of phase.Committing phases.Commit at.0 (λ e. cc) refl at.1
  how-by phases.Revert is = let at = stands-by phases.Revert is in due-of phase.Reverting phases.Revert at.0 (λ e. cc) refl at.1
  how-by phases.Finish is = let at = stands-by phases.Finish is in due-of phase.Finishing phases.Finish at.0 (λ e. cc) refl at.1
  how-by phases.Report is = tt

  -- ---- the reply

  abbrev Ends : World → Type 0
  Ends = Carried w s i server x o allowed.found on-server

  module _ (v : World) (e : Ends v) where
    abbrev y : Session
    y = e.session

    -- the session is as it was, or the order's first hold began the attempt
    abbrev Same : Type 0
    Same = y ≡ x

    abbrev New : Type 0
    New = (y ≡ begun x) × ((o.work ≡ phases.Hold) × (n ≡ y.last))

    its-master : Same → (q : Mirror) → y.mirror ≡ Some q → r ≡ q
    its-master same q has = same_Some _ _ (sym allowed.mirror ∙ (ap (λ (z : Session). z.mirror) (sym same) ∙ has))

    its-last : Same → o.number ≡ r.master.number → n ≡ y.last
    its-last same number = last-number number ∙ ap (λ (z : Session). z.last) (sym same)

    coordinates : New → (q : Mirror) → y.mirror ≡ Some q → q.master.phase ≡ phase.Coordinating
    coordinates new q has = begun-coordinates x q (ap (λ (z : Session). z.mirror) (sym new.0) ∙ has)

    -- where the master finishes, the server is silent
    silent : (q : Mirror) → y.mirror ≡ Some q → q.master.phase ≡ phase.Finishing → ServerSilent v.control y server
    silent q has ends = by e.came
      where
        by : Same ⊎ New → ServerSilent v.control y server
        by (inl same) =
            let order = order-finishes r server o (ap (λ (q : Mirror). q.master.phase) (its-master same q has) ∙ ends) allowed.order in
            e.silent order.0 (its-last same order.1)
        by (inr new) = let no : phase.Coordinating ≡ phase.Finishing = sym (coordinates new q has) ∙ ends in absurd cc

    lost : o.work ≡ phases.Report → (q : Mirror) → y.mirror ≡ Some q → q.master.phase ≡ phase.Lost
    lost reports q has = by e.came
      where
        by : Same ⊎ New → q.master.phase ≡ phase.Lost
        by (inl same) = ap (λ (q : Mirror). q.master.phase) (sym (its-master same q has)) ∙ reports-lost r server o allowed.order reports
        by (inr new) = let no : phases.Hold ≡ phases.Report = sym new.1.0 ∙ reports in absurd cc

    owes : o.work ≡ phases.Report → (q : Mirror) → y.mirror ≡ Some q → phases.is_among server q.master.owed ≡ true
    owes reports q has = by e.came
      where
        by : Same ⊎ New → phases.is_among server q.master.owed ≡ true
        by (inl same) = subst (λ (q : Mirror). phases.is_among server q.master.owed ≡ true) (its-master same q has) (order-reports r server o (reports-lost r server o allowed.order reports) allowed.order)
        by (inr new) = let no : phases.Hold ≡ phases.Report = sym new.1.0 ∙ reports in absurd cc

    -- the server has done what the phase asks
    does : o.work ≢ phases.Report → ServerDone v.control y server
    does told = by e.came
      where
        phase-now : Same → phase_of y.mirror ≡ r.master.phase
        phase-now same = ap phase_of (ap (λ (z : Session). z.mirror) same ∙ allowed.mirror)

        -- an Idle master asks nothing
        same-by : (same : Same) → (r.master.phase ≡ phase.Idle) ⊎ (r.master.phase ≢ phase.Idle) → ServerDone v.control y server
        same-by same (inl idle) = λ work asks. let none : None ≡ Some work = sym (ap phases.work_in (phase-now same ∙ idle)) ∙ asks in absurd cc
        same-by same (inr busy) =
            let order = order-is r server o busy allowed.order in
            let last = its-last same (order.1 (not-lost r.master.phase o.work order.0 told)) in
            done-asked v.control y server o.work n (ap phases.work_in (phase-now same) ∙ order.0) (sym last) (e.done told last)

        by : Same ⊎ New → ServerDone v.control y server
        by (inl same) = same-by same (idle-or r.master.phase)
        by (inr new) = done-asked v.control y server o.work n
            (ap (λ (z : Session). phases.work_in (phase_of z.mirror)) new.0
            ∙ (ap (λ o. phases.work_in (phase_of (option_map (λ (q : Mirror). record q { master = phases.begun q.master }) o))) allowed.mirror ∙ ap Some (sym new.1.0)))
            (sym new.1.1) (e.done told new.1.1)

    -- the master may take the reply
    answers : (reply : Bool) → Sound (record v { control = exchanged i server reply o.work ms v.control })
    answers true = sound-tables v _ _
        (subst (λ qs. Groups (answered_by i server o.work (members_on server qs) v.control)) e.among (groups-answered v.control i server o.work y e.sound.groups e.there silent owes))
        (secondaries-stay v.control _ (stays-taken v.control.sessions e.sound.groups.once i server (reply_after i o.work ms v.control)) e.sound.secondaries)
        (subst (λ qs. Attempts (answered_by i server o.work (members_on server qs) v.control)) e.among (with-answered v.control i server o.work y e.sound.groups e.sound.attempts e.there lost does))
        (subst (λ qs. Flights (exchanged i server true o.work (members_on server qs) v.control)) e.among (flights-answered v.control i server o.work y e.sound.groups e.sound.attempts e.sound.flights e.there lost does))
        e.sound
    answers false = sound-flight v _ (flights-heard v.control i server o.work e.sound.flights) e.sound

    -- there is a master
    master : (q : Mirror) × (y.mirror ≡ Some q)
    master = by e.came
      where
        by : Same ⊎ New → (q : Mirror) × (y.mirror ≡ Some q)
        by (inl same) = (r, ap (λ (z : Session). z.mirror) same ∙ allowed.mirror)
        by (inr new) = (record r { master = phases.begun r.master }, ap (λ (z : Session). z.mirror) new.0 ∙ ap (option_map (λ (q : Mirror). record q { master = phases.begun q.master })) allowed.mirror)

    -- a lost one is owed a report
    owed-report : phase_of y.mirror ≡ phase.Lost → o.work ≡ phases.Report
    owed-report is = by e.came
      where
        by : Same ⊎ New → o.work ≡ phases.Report
        by (inl same) =
            let lost : r.master.phase ≡ phase.Lost = ap phase_of (sym allowed.mirror) ∙ (ap (λ (z : Session). phase_of z.mirror) (sym same) ∙ is) in
            let busy : r.master.phase ≢ phase.Idle = λ idle. (let no : phase.Lost ≡ phase.Idle = sym lost ∙ idle in cc) in
            sym (same_Some _ _ (ap phases.work_in (sym lost) ∙ (order-is r server o busy allowed.order).0))
        by (inr new) = let no : phase.Coordinating ≡ phase.Lost = sym (coordinates new master.0 master.1) ∙ (ap phase_of (sym master.1) ∙ is) in absurd cc

    abbrev answer : phases.Reply
    answer = reply_after i o.work ms v.control

    answer-told : (xs : List Shown) → answer ≡ phases.Reported xs → (phase_of y.mirror ≡ phase.Lost) × ((q : Shown) → In q xs → Knows v.control y q)
    answer-told xs is =
        let report : o.work ≡ phases.Report = reply-reports i o.work ms v.control xs is in
        let number : y.number ≡ i = (session-found v.control.sessions i y e.there).1 in (
          ap phase_of master.1 ∙ lost report master.0 master.1,
          λ q h. inr (shown-by v.control y server q (subst (λ i. In q (shown_by_members i (members_on server y.members) v.control)) (sym number)
              (subst (λ qs. In q (shown_by_members i (members_on server qs) v.control)) (sym e.among) (reply-shown i o.work ms v.control q (subst (In q) (sym (ap shown_by is)) h))))),
        )

    answer-done : answer ≡ phases.Done → phase_of y.mirror ≢ phase.Lost
    answer-done is at =
        let no : phases.Reported (shown_by_members i ms v.control) ≡ phases.Done = ap (λ work. reply_after i work ms v.control) (sym (owed-report at)) ∙ is in cc

    -- a report raises a fence alone
    goes-heard : (ss : List Session) → AllGoOn v.control ss v.control.flight → AllGoOn v.control ss (heard i server (v.control.flight.epoch i) o.work v.control.flight)
    goes-heard ss h = goes-still v.control v.control.flight _ ss (λ q here. subst (In q) (heard-messages i server (v.control.flight.epoch i) o.work v.control.flight) here) (heard-epoch i server (v.control.flight.epoch i) o.work v.control.flight) h

    goes : (reply : Bool) → AllGoOn v.control (exchanged i server reply o.work ms v.control).sessions (exchanged i server reply o.work ms v.control).flight
    goes true = goes-heard _ (goes-taken v.control e.sound.groups e.sound.attempts e.sound.flights i server answer y e.there answer-told answer-done)
    goes false = goes-heard v.control.sessions (goes-same v.control)

    turns : (reply : Bool) → Regroups v.control.sessions (exchanged i server reply o.work ms v.control).sessions
    turns true = regroups-stay _ _ (stays-taken v.control.sessions e.sound.groups.once i server (reply_after i o.work ms v.control))
    turns false = regroups-same v.control.sessions

    adds : (reply : Bool) → Adds v.control.sessions v.control.flight (exchanged i server reply o.work ms v.control).flight
    adds reply = adds-same v.control.sessions v.control.flight (heard i server (v.control.flight.epoch i) o.work v.control.flight) (heard-messages i server (v.control.flight.epoch i) o.work v.control.flight)

  pub orders-ordered : (reply : Bool) → Orders w (ordered i server reply ms o)
  orders-ordered reply = record {
    ends = Ends;
    complete = λ v e. e.sound;
    begins = sound-begun w s;
    entries = carries w s i server x o allowed.found on-server (how-by o.work refl);
    follows = λ q. tt;
    last = λ v e. answers v e reply;
    turns = λ v e. turns v e reply;
    adds = λ v e. adds v e reply;
    goes = λ v e. goes v e reply;
  }
