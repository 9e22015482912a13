-- The plans of lines on sessions.
use Rattle.std.proofs.Common.{ℕ, ◌≡◌, Bool, List, [], Some, None}
use Rattle.dr_model.specs.declared.said.Said.{Said}
use Rattle.dr_model.specs.declared.said.Said.TheVariants.{Done}
use Rattle.dr_model.specs.declared.said.Addition.TheVariants.{Alone}
use Rattle.dr_model.specs.Phases as phases
use Rattle.dr_model.specs.Sessions.{Session, session_in, joined, left, changed, mirrored_by, paused, unmirrored, with_master, join_refusal, leave_refusal, make_refusal, drop_refusal, abort_refusal}
use Rattle.dr_model.specs.Messages.{Flight}
use Rattle.dr_model.specs.Messages as messages
use Rattle.dr_model.specs.Control.{Control, World}
use Rattle.dr_model.specs.Groups.{Groups, SecondariesUncascaded}
use Rattle.dr_model.specs.Attempts.{Attempts}
use Rattle.dr_model.specs.Flights.{Flights}
use Rattle.dr_model.specs.Plans.{Plan, always, tables_plan, owner_of}
use Rattle.dr_model.specs.MessagePlans.{with_flight}
use Rattle.dr_model.specs.SessionPlans.{with_sessions, table_plan, leaving, appointed, says_phase}
use Rattle.dr_model.specs.Runs.{begun, masters_lost}
use Rattle.dr_model.specs.Laws.{Sound}
use Rattle.dr_laws_sessions.proofs.PlanTables.{no-maker, owned-volume}
use Rattle.dr_laws_sessions.proofs.Frames.{groups-flight}
use Rattle.dr_laws_sessions.proofs.Tables.{groups-lost, groups-joined, groups-left, groups-mirrored, groups-paused, groups-unmirrored, groups-aborted}
use Rattle.dr_laws_attempts.proofs.Tables.{with-lost, with-joined, with-left, with-mirrored, with-paused, with-unmirrored, with-aborted}
use Rattle.dr_laws_messages.proofs.Turns.{flights-mirrored, flights-unmirrored, flights-paused, flights-aborted, flights-lost}
use Rattle.dr_laws_messages.proofs.Members.{flights-joined, flights-left}
use Rattle.dr_laws_closed.specs.Regroups.{AllStay, Regroups}
use Rattle.dr_laws_closed.proofs.Regroups.{stays-same, stays-joined, stays-left, stays-mirrored, stays-paused, stays-unmirrored, stays-aborted, stays-lost}
use Rattle.dr_laws_sound.proofs.KeepsGroups.{secondaries-stay}
use Rattle.dr_laws_sound.proofs.Cases.{aborted}
use Rattle.dr_laws_sound.proofs.NewMessages.{Adds}
use Rattle.dr_laws_sound.proofs.GoesOn.{AllGoOn}
use Rattle.dr_laws_sound.proofs.FitsFlash.{as_begun, sound-begun}
use Rattle.dr_laws_sound.proofs.KeepsSound.{Along, EachAlong, MayDo, StepHolds, keeps-sound, holds-moves, over}
use Rattle.dr_laws_sound.proofs.Along as along

-- other sessions and messages
pub sound-tables : (w : World) (ss : List Session) (f : Flight) → Groups (record w.control { sessions = ss }) → SecondariesUncascaded (record w.control { sessions = ss }) → Attempts (record w.control { sessions = ss }) → Flights (record w.control { sessions = ss; flight = f }) → Sound w
    → Sound (record w { control = record w.control { sessions = ss; flight = f } })
sound-tables w ss f groups secondaries attempts flights s = record {
  rows = s.rows;
  targets = record { once = s.targets.once; few = s.targets.few };
  secondaries = secondaries;
  queue = record { each = s.queue.each; apart = s.queue.apart; lone = s.queue.lone; numbers = s.queue.numbers };
  groups = groups-flight (record w.control { sessions = ss }) f groups;
  housed = s.housed;
  attempts = attempts;
  flights = flights;
}

-- other sessions alone
pub sound-sessions : (w : World) (ss : List Session) → Groups (record w.control { sessions = ss }) → SecondariesUncascaded (record w.control { sessions = ss }) → Attempts (record w.control { sessions = ss }) → Flights (record w.control { sessions = ss }) → Sound w → Sound (record w { control = record w.control { sessions = ss } })
sound-sessions w ss = sound-tables w ss w.control.flight

-- other messages alone
pub sound-flight : (w : World) (f : Flight) → Flights (record w.control { flight = f }) → Sound w → Sound (record w { control = record w.control { flight = f } })
sound-flight w f flights s = sound-tables w w.control.sessions f s.groups s.secondaries s.attempts flights s

-- masters are lost as a step ends
pub sound-lost : (w u : World) → Sound u → Sound (masters_lost w u)
sound-lost w u s = sound-tables u _ _ (groups-lost u.control w.control.on u.control.on s.groups) (secondaries-stay u.control _ (stays-lost u.control.sessions w.control.on u.control.on) s.secondaries) (with-lost u.control s.groups s.attempts w.control.on u.control.on) (flights-lost u.control s.groups s.attempts s.flights w.control.on u.control.on) s

module _ (w : World) (s : Sound w) where
  -- a plan that changes them, and does nothing else
  holds-tables : (f : List Session → List Session) (g : Control → Flight) (says : Control → Said) → Groups (with_sessions f w.control) → AllStay w.control.sessions (f w.control.sessions) → Attempts (with_sessions f w.control) → Flights (record w.control { sessions = f w.control.sessions; flight = g w.control })
      → StepHolds w (record (tables_plan (λ k. record k { sessions = f k.sessions; flight = g k }) [] (Done Alone)) { says = says })
  holds-tables f g says groups stays attempts flights =
      let p : Plan = record (tables_plan (λ k. record k { sessions = f k.sessions; flight = g k }) [] (Done Alone)) { says = says } in
      let begins = sound-tables (as_begun w) (f w.control.sessions) (g w.control) groups (secondaries-stay w.control (f w.control.sessions) stays s.secondaries) attempts flights (sound-begun w s) in
      holds-moves w p begins (over _ begins) (λ q. tt) (λ v i. i)

  -- no messages
  holds-sessions : (f : List Session → List Session) → Groups (with_sessions f w.control) → AllStay w.control.sessions (f w.control.sessions) → Attempts (with_sessions f w.control) → Flights (with_sessions f w.control) → StepHolds w (table_plan f)
  holds-sessions f groups stays attempts flights = holds-tables f (λ k. k.flight) (table_plan f).says groups stays attempts flights

  pub holds-joined : (l i : ℕ) → join_refusal (session_in w.control.sessions i) l w.control.sessions ≡ None → StepHolds w (table_plan (joined i l))
  holds-joined l i free = holds-sessions (joined i l) (groups-joined w.control i l s.groups) (stays-joined w.control.sessions s.groups.once i l) (with-joined w.control s.groups s.attempts i l) (flights-joined w.control s.flights s.groups i l)

  pub holds-left : (l i : ℕ) (x : Session) → session_in w.control.sessions i ≡ Some x → leave_refusal (Some x) i l ≡ None → StepHolds w (tables_plan (leaving i l x) [] (Done Alone))
  holds-left l i x found free = holds-tables (left i l) (λ k. messages.left i l x k.flight) (always (Done Alone)) (groups-left w.control i l x s.groups found free) (stays-left w.control.sessions s.groups.once i l) (with-left w.control s.groups s.attempts i l x found free) (flights-left w.control s.flights s.groups i l x found free)

  pub holds-mirrored : (owner i : ℕ) (x : Session) → session_in w.control.sessions i ≡ Some x → make_refusal x.mirror ≡ None → (l : ℕ) → owner_of w.control l ≡ Some owner → StepHolds w (tables_plan (appointed i owner) [] (Done Alone))
  holds-mirrored owner i x found free l owned =
      let at = owned-volume w.control l owner owned in
      holds-tables (changed i (mirrored_by owner)) (λ k. messages.raised i k.flight) (always (Done Alone)) (groups-mirrored w.control i owner x s.groups found (no-maker x.mirror free) at.volume at.defined at.server)
      (stays-mirrored w.control.sessions s.groups.once i owner) (with-mirrored w.control s.groups s.attempts i owner x found (no-maker x.mirror free)) (flights-mirrored w.control s.groups s.attempts s.flights i owner x found (no-maker x.mirror free))

  pub holds-paused : (i : ℕ) (on : Bool) → StepHolds w (table_plan (changed i (paused on)))
  holds-paused i on = holds-sessions (changed i (paused on)) (groups-paused w.control i on s.groups) (stays-paused w.control.sessions s.groups.once i on) (with-paused w.control s.groups s.attempts i on) (flights-paused w.control s.groups s.attempts s.flights i on)

  pub holds-unmirrored : (i : ℕ) (x : Session) → session_in w.control.sessions i ≡ Some x → drop_refusal x.mirror ≡ None → StepHolds w (table_plan (changed i unmirrored))
  holds-unmirrored i x found free = holds-sessions (changed i unmirrored) (groups-unmirrored w.control i x s.groups found free) (stays-unmirrored w.control.sessions s.groups.once i) (with-unmirrored w.control s.groups s.attempts i x found free) (flights-unmirrored w.control s.groups s.attempts s.flights i x found free)

  pub holds-aborted : (i : ℕ) (x : Session) → session_in w.control.sessions i ≡ Some x → abort_refusal x.mirror ≡ None → StepHolds w (aborted i x.mirror)
  holds-aborted i x found free = holds-tables (changed i (with_master phases.aborted)) (λ k. messages.aborted i x.mirror k.flight) (says_phase i) (groups-aborted w.control i s.groups) (stays-aborted w.control.sessions s.groups.once i) (with-aborted w.control s.groups s.attempts i) (flights-aborted w.control s.groups s.attempts s.flights i x found)

  -- a plan that changes messages alone
  pub holds-flight : (f : Flight → Flight) → Flights (with_flight f w.control) → StepHolds w (tables_plan (with_flight f) [] (Done Alone))
  holds-flight f flights = holds-tables (λ ss. ss) (λ k. f k.flight) (always (Done Alone)) s.groups (stays-same w.control.sessions) s.attempts flights

-- What is to be shown of a plan whose entries may say more where they end well, on which the sessions that it leaves rest.
pub record Orders (w : World) (p : Plan) : Type 1 where
  pub ends : World → Type 0
  pub complete : (v : World) → ends v → Sound v
  pub begins : Sound (begun w p)
  pub entries : along.Along Sound Sound ends MayDo (begun w p) p.entries
  pub follows : (s : ℕ) → EachAlong (p.follows s)
  pub last : (v : World) → ends v → Sound (record v { control = p.last v.control })
  pub turns : (v : World) → ends v → Regroups v.control.sessions (p.last v.control).sessions
  pub adds : (v : World) → ends v → Adds v.control.sessions v.control.flight (p.last v.control).flight
  pub goes : (v : World) → ends v → AllGoOn v.control (p.last v.control).sessions (p.last v.control).flight

pub holds-orders : (w : World) (p : Plan) → Orders w p → StepHolds w p
holds-orders w p o = record {
  inner = Sound;
  ends = o.ends;
  may = MayDo;
  keeps = keeps-sound;
  within = λ v s. s.rows;
  complete = λ v e. (o.complete v e).rows;
  begins = o.begins;
  entries = o.entries;
  follows = o.follows;
  last = o.last;
}
