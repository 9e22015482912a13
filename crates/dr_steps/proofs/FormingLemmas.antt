-- A line of several plans, as calls carry it out part by part.
use Rattle.std.proofs.Common.{ℕ, zero, suc, ◌≡◌, ◌≤◌, ◌<◌, ◌+◌, ◌-◌, refl, ap, sym, ◌∙◌, subst, arith, Bool, true, false, ◌&&◌, cond, nat_eq, List, [], ◌∷◌, length, drop, slice_get, Option, Some, None, Ok}
use Rattle.dr_ids.specs.declared.names.Member.{Member}
use Rattle.dr_ids.specs.declared.refusal.Refusal.{Refusal}
use Rattle.dr_ids.specs.declared.refusal.Refusal.TheVariants.{JournalFull, OutOfOrder, Stopped}
use Rattle.dr_plant.specs.State.{PlantState}
use Rattle.dr_config.specs.Table.{ConfigTable}
use Rattle.dr_model.specs.declared.event.Event.{Event}
use Rattle.dr_model.specs.declared.said.Said.{Said}
use Rattle.dr_model.specs.declared.said.Said.TheVariants.{Done, Held, Refused}
use Rattle.dr_model.specs.Control.{Control, World}
use Rattle.dr_model.specs.Phases as phases
use Rattle.dr_model.specs.SessionPlans.{is_idle, mirror_phase, session_phase}
use Rattle.dr_laws_sessions.proofs.Changes.{session-found}
use Rattle.dr_laws_sessions.proofs.Owed.{first-asked}
use Rattle.dr_model.specs.Laws.{FlightCounted, Sound}
use Rattle.dr_model.specs.PairEntries.{is_copying}
use Rattle.dr_model.specs.PlanParts.{only_says}
use Rattle.dr_model.specs.Plans.{Plan, drain_plan, has_room}
use Rattle.dr_model.specs.SessionEntries.{members_on}
use Rattle.dr_model.specs.Sessions.{Session, Mirror, session_in, mirror_in, members_in, lost_since, mirror_lost_since, with_mirror}
use Rattle.dr_model.specs.Forming.{Part, Way, stays, ends, goes_on, and_then, unless_refused, after_part, part_refusal, refusal_said, part, drains, ask, next_asked, master_in, phase_in, has_committed, still_left, turn_by, turn_in, turns, most_turns, form_refusal, form_in, formed, form_answer, form_said}
use Rattle.dr_model.specs.Runs.{carried_out, answered, masters_lost, answered_part, after_task, said}
use Rattle.dr_model.specs.declared.step.Step.TheVariants.{Run}
use Rattle.dr_model.specs.Refusals.{unknown}
use Rattle.dr_ids.specs.declared.refusal.Kind.TheVariants.{Session as OfSession}
use Rattle.dr_model.proofs.CarryLemmas.{plan-says}
use Rattle.dr_laws_sound.proofs.RefusedSteps.{lost-stays}
use Rattle.dr_laws_sound.proofs.Parts.{Comes}
use Rattle.dr_laws_sound.proofs.Steps.{sound-part}
use Rattle.dr_laws_sound.proofs.FlightCounts.{counted-part}
use Rattle.dr_moves.specs.Checks.{is_stop}
use Rattle.dr_steps.specs.Faults.{is_stopped}
use Rattle.dr_steps.specs.Formed.{Reaches, drain_next, to_drain}
use Rattle.dr_steps.specs.Here.{here, Carries}
use Rattle.dr_steps.specs.declared.tables.Tables.{Tables}

-- ---- ways

-- a way goes on from where it led to, or ends there
pub reaches-on : (x : Way) (more : World → Way) (v u : World) (r : Option Refusal) → Reaches x v None → Reaches (more v) u r → Reaches (and_then x more) u r
reaches-on x more v u r a b = record {
  world = (λ i. (goes_on x.parts (a.world i) (a.refusal i) more).world) ∙ b.world;
  refusal = (λ i. (goes_on x.parts (a.world i) (a.refusal i) more).refusal) ∙ b.refusal;
}

pub reaches-end : (x : Way) (more : World → Way) (v : World) (e : Refusal) → Reaches x v (Some e) → Reaches (and_then x more) v (Some e)
reaches-end x more v e a = record {
  world = (λ i. (goes_on x.parts (a.world i) (a.refusal i) more).world);
  refusal = (λ i. (goes_on x.parts (a.world i) (a.refusal i) more).refusal);
}

pub reaches-same : (x y : Way) (u : World) (r : Option Refusal) → x ≡ y → Reaches y u r → Reaches x u r
reaches-same x y u r is a = subst (λ z. Reaches z u r) (sym is) a

-- a part with nothing behind it, and with something
then-on : (xs : List Part) (w v u : World) (q r : Option Refusal) (more : World → Way) → Reaches (goes_on xs w q stays) v None → Reaches (more v) u r → Reaches (goes_on xs w q more) u r
then-on xs w v u None r more a b = record { world = ap (λ z. (more z).world) a.world ∙ b.world; refusal = ap (λ z. (more z).refusal) a.world ∙ b.refusal }
then-on xs w v u (Some e) r more a b = absurd (let no = a.refusal in cc)

then-end : (xs : List Part) (w v : World) (q : Option Refusal) (e : Refusal) (more : World → Way) → Reaches (goes_on xs w q stays) v (Some e) → Reaches (goes_on xs w q more) v (Some e)
then-end xs w v None e more a = absurd (let no = a.refusal in cc)
then-end xs w v (Some f) e more a = record { world = a.world; refusal = a.refusal }

pub reaches-alone : (x : Way) (v : World) (r : Option Refusal) → Reaches x v r → Reaches (and_then x stays) v r
reaches-alone x v None a = reaches-on x stays v v None a (record { world = refl; refusal = refl })
reaches-alone x v (Some e) a = reaches-end x stays v e a

pub next-on : (w v u : World) (o : Option ℕ) (r : Option Refusal) (more : World → Way) → Reaches (drain_next w o stays) v None → Reaches (more v) u r → Reaches (drain_next w o more) u r
next-on w v u None r more a b = record { world = ap (λ z. (more z).world) a.world ∙ b.world; refusal = ap (λ z. (more z).refusal) a.world ∙ b.refusal }
next-on w v u (Some p) r more a b = let x : Way = part w (drain_plan w.control p None) in then-on x.parts x.world v u x.refusal r more a b

pub next-end : (w v : World) (o : Option ℕ) (e : Refusal) (more : World → Way) → Reaches (drain_next w o stays) v (Some e) → Reaches (drain_next w o more) v (Some e)
next-end w v None e more a = absurd (let no = a.refusal in cc)
next-end w v (Some p) e more a = let x : Way = part w (drain_plan w.control p None) in then-end x.parts x.world v x.refusal e more a

-- ---- one plan

-- the journal is full
pub part-full : (w : World) (p : Plan) → has_room w.events ≡ false → Reaches (part w p) w (Some JournalFull)
part-full w p full = reaches-same (part w p) (ends w JournalFull) w (Some JournalFull)
    (ap (λ b. cond b (record { parts = record { world = w; plan = p } ∷ []; world = after_part w p; refusal = part_refusal w p }) (ends w JournalFull)) full)
    (record { world = refl; refusal = refl })

-- it was carried out, and the masters that are lost by it
module _ (s u : PlantState) (t : ConfigTable) (h h' : Tables) (ev mid : List Event) (p : Plan) (a : Said) (room : has_room ev ≡ true) (carried : Carries (here s t h ev) p (here u t h' mid) a)
    (h'' : Tables) (lost : here u t h'' mid ≡ masters_lost (here s t h ev) (here u t h' mid)) where
  abbrev w : World
  w = here s t h ev

  abbrev v : World
  v = here u t h'' mid

  led : after_part w p ≡ v
  led = ap (masters_lost w) carried.world ∙ sym lost

  pub part-done : Reaches (part w p) v (refusal_said a)
  part-done = reaches-same (part w p) (record { parts = record { world = w; plan = p } ∷ []; world = after_part w p; refusal = part_refusal w p }) v (refusal_said a)
      (ap (λ b. cond b (record { parts = record { world = w; plan = p } ∷ []; world = after_part w p; refusal = part_refusal w p }) (ends w JournalFull)) room)
      (record { world = led; refusal = (λ i. refusal_said (answered p (carried.world i).control (carried_out w p).1)) ∙ ap refusal_said carried.says })

  pub part-sound : Comes w p → Sound w → Sound v
  part-sound comes sound = subst Sound led (sound-part w p comes sound)

  pub part-counted : Comes w p → FlightCounted w → FlightCounted v
  part-counted comes counted = subst FlightCounted led (counted-part w p comes counted)

-- a stop is said where it refuses a part
pub stop-said : (a : Said) → is_stopped a ≡ is_stop (refusal_said a)
stop-said (Done added) = refl
stop-said (Held n) = refl
stop-said (Refused (Stopped server)) = refl
stop-said (Refused _) = refl

-- a session keeps its members where masters are lost
pub members-stay : (before now : ℕ → Bool) (ss : List Session) (n : ℕ) → members_in (session_in (lost_since before now ss) n) ≡ members_in (session_in ss n)
members-stay before now [] n = refl
members-stay before now (x ∷ xs) n = by (nat_eq x.number n) (members-stay before now xs n)
  where
    y : Session
    y = with_mirror (mirror_lost_since before now) x

    by : (b : Bool) → members_in (session_in (lost_since before now xs) n) ≡ members_in (session_in xs n) → members_in (cond b (Some y) (session_in (lost_since before now xs) n)) ≡ members_in (cond b (Some x) (session_in xs n))
    by true rest = refl
    by false rest = rest

-- ---- the members that are drained

-- one of them, and those behind it
drains-one : (w : World) (server : ℕ) (m : Member) (ms : List Member)
    → drains w (members_on server (m ∷ ms)) ≡ drain_next w (to_drain w.control server (Some m)) (λ v. drains v (members_on server ms))
unfolding drains
drains-one w server m ms = by (nat_eq m.server.0 server)
  where
    rest : List Member
    rest = members_on server ms

    on-by : (copies : Bool) → cond copies (and_then (part w (drain_plan w.control m.a.0 None)) (λ v. drains v rest)) (drains w rest) ≡ drain_next w (cond copies (Some m.a.0) None) (λ v. drains v rest)
    on-by true = refl
    on-by false = refl

    by : (on : Bool) → drains w (cond on (m ∷ rest) rest) ≡ drain_next w (cond (on && is_copying m.a.0 w.control) (Some m.a.0) None) (λ v. drains v rest)
    by false = refl
    by true = on-by (is_copying m.a.0 w.control)

drains-suc : (w : World) (server : ℕ) (ms : List Member) (i : ℕ) → i < length ms
    → drains w (members_on server (drop i ms)) ≡ drain_next w (to_drain w.control server (slice_get ms i)) (λ v. drains v (members_on server (drop (suc i) ms)))
drains-suc w server [] i lt = absurd (omega arith)
drains-suc w server (m ∷ ms) zero lt = drains-one w server m ms
drains-suc w server (m ∷ ms) (suc i) lt = drains-suc w server ms i (omega arith)

pub drains-at : (w : World) (server : ℕ) (ms : List Member) (i : ℕ) → i < length ms
    → drains w (members_on server (drop i ms)) ≡ drain_next w (to_drain w.control server (slice_get ms i)) (λ v. drains v (members_on server (drop (i + 1) ms)))
drains-at w server ms i lt = subst (λ n. drains w (members_on server (drop i ms)) ≡ drain_next w (to_drain w.control server (slice_get ms i)) (λ v. drains v (members_on server (drop n ms)))) (let e : suc i ≡ i + 1 = omega arith in e) (drains-suc w server ms i lt)

-- behind the last one
pub drains-none : (w : World) (server : ℕ) (ms : List Member) (i : ℕ) → length ms ≤ i → Reaches (drains w (members_on server (drop i ms))) w None
unfolding drains
drains-none w server [] zero le = record { world = refl; refusal = refl }
drains-none w server [] (suc i) le = record { world = refl; refusal = refl }
drains-none w server (m ∷ ms) zero le = absurd (omega arith)
drains-none w server (m ∷ ms) (suc i) le = drains-none w server ms i (omega arith)

-- ---- the line

-- its last plan only answers
pub formed-task : (w u : World) (line s n : ℕ) (r : Option Refusal) → Reaches (formed w s n) u r → after_task w (record { line = line; asked = Ok (Run s n); listed = [] }) ≡ said u line (form_said s u.control r)
formed-task w u line s n r a =
    (λ i. answered_part line (record { world = a.world i; plan = only_says (form_said s (a.world i).control (a.refusal i)) }))
    ∙ ap (masters_lost u) (plan-says u line (form_said s u.control r))
    ∙ lost-stays u (said u line (form_said s u.control r)) refl

pub formed-full : (w : World) (s n : ℕ) → has_room w.events ≡ false → Reaches (formed w s n) w (Some JournalFull)
formed-full w s n full = reaches-same (formed w s n) (ends w JournalFull) w (Some JournalFull) (ap (λ b. cond b (form_in w s n (session_in w.control.sessions s)) (ends w JournalFull)) full) (record { world = refl; refusal = refl })

pub formed-room : (w u : World) (s n : ℕ) (r : Option Refusal) → has_room w.events ≡ true → Reaches (form_in w s n (session_in w.control.sessions s)) u r → Reaches (formed w s n) u r
formed-room w u s n r room a = reaches-same (formed w s n) (form_in w s n (session_in w.control.sessions s)) u r (ap (λ b. cond b (form_in w s n (session_in w.control.sessions s)) (ends w JournalFull)) room) a

-- refused before its first turn, or not
pub form-nowhere : (w : World) (s n : ℕ) (o : Option Session) → o ≡ None → Reaches (form_in w s n o) w (Some (unknown OfSession))
form-nowhere w s n o none = reaches-same (form_in w s n o) (ends w (unknown OfSession)) w (Some (unknown OfSession)) (ap (form_in w s n) none) (record { world = refl; refusal = refl })

module _ (w : World) (s n : ℕ) (x : Session) (o : Option Session) (there : o ≡ Some x) where
  pub form-refused : (e : Refusal) → form_refusal n (mirror_in o) ≡ Some e → Reaches (form_in w s n o) w (Some e)
  form-refused e is = reaches-same (form_in w s n o) (ends w e) w (Some e)
      (ap (form_in w s n) there ∙ ap (λ q. unless_refused q w (turns (most_turns n) w s n false)) (ap (λ o. form_refusal n (mirror_in o)) (sym there) ∙ is)) (record { world = refl; refusal = refl })

  pub form-turns : (u : World) (r : Option Refusal) → form_refusal n (mirror_in o) ≡ None → Reaches (turns (most_turns n) w s n false) u r → Reaches (form_in w s n o) u r
  form-turns u r free a = reaches-same (form_in w s n o) (turns (most_turns n) w s n false) u r
      (ap (form_in w s n) there ∙ ap (λ q. unless_refused q w (turns (most_turns n) w s n false)) (ap (λ o. form_refusal n (mirror_in o)) (sym there) ∙ free)) a

-- ---- turns

-- enough attempts have counted
pub turns-over : (bound : ℕ) (w : World) (s left : ℕ) (committed : Bool) → nat_eq left 0 ≡ true → Reaches (turns bound w s left committed) w None
unfolding turns
turns-over zero w s left committed is = reaches-same (turns zero w s left committed) (stays w) w None (ap (λ b. cond b (stays w) (ends w (OutOfOrder (phase_in w.control s)))) is) (record { world = refl; refusal = refl })
turns-over (suc bound) w s left committed is =
    reaches-same (turns (suc bound) w s left committed) (stays w) w None
    (ap (λ b. cond b (stays w) (turn_in w s (λ v. turns bound v s (still_left committed (phase_in v.control s) left) (has_committed committed (phase_in w.control s) (phase_in v.control s))))) is) (record { world = refl; refusal = refl })

-- no turn is left
pub turns-spent : (w : World) (s left : ℕ) (committed : Bool) → Reaches (turns zero w s left committed) w (cond (nat_eq left 0) None (Some (OutOfOrder (phase_in w.control s))))
unfolding turns
turns-spent w s left committed = by (nat_eq left 0)
  where
    by : (b : Bool) → Reaches (cond b (stays w) (ends w (OutOfOrder (phase_in w.control s)))) w (cond b None (Some (OutOfOrder (phase_in w.control s))))
    by true = record { world = refl; refusal = refl }
    by false = record { world = refl; refusal = refl }

module _ (bound : ℕ) (w : World) (s left : ℕ) (committed : Bool) (some : nat_eq left 0 ≡ false) where
  abbrev next : World → Way
  next v = turns bound v s (still_left committed (phase_in v.control s) left) (has_committed committed (phase_in w.control s) (phase_in v.control s))

  abbrev asked : Option ℕ → Way
  asked o = turn_by w s (phase_in w.control s) (members_in (session_in w.control.sessions s)) o next

  turn-is : (o : Option ℕ) → next_asked (master_in w.control s) ≡ o → turns (suc bound) w s left committed ≡ asked o
  unfolding turns
  turn-is o is = ap (λ b. cond b (stays w) (turn_in w s next)) some ∙ ap asked is

  -- no server is asked
  pub turns-idle : next_asked (master_in w.control s) ≡ None → Reaches (turns (suc bound) w s left committed) w (Some (OutOfOrder (phase_in w.control s)))
  turns-idle none = reaches-same _ (asked None) w _ (turn-is None none) (record { world = refl; refusal = refl })

  module _ (server : ℕ) (is : next_asked (master_in w.control s) ≡ Some server) where
    abbrev way : Way
    way = ask w s (phase_in w.control s) (members_in (session_in w.control.sessions s)) server

    pub turns-refused : (v : World) (e : Refusal) → Reaches way v (Some e) → Reaches (turns (suc bound) w s left committed) v (Some e)
    turns-refused v e a = reaches-same _ (asked (Some server)) v (Some e) (turn-is (Some server) is) (reaches-end way next v e a)

    pub turns-on : (v u : World) (r : Option Refusal) → Reaches way v None → Reaches (next v) u r → Reaches (turns (suc bound) w s left committed) u r
    turns-on v u r a b = reaches-same _ (asked (Some server)) u r (turn-is (Some server) is) (reaches-on way next v u r a b)

-- one turn more
pub left-more : (i n : ℕ) → i < n → (k : ℕ) × (suc k + i ≡ n)
left-more i n lt = (n - (i + 1), omega (arith, lt))

-- a server that is asked is defined
pub asked-known : (s : PlantState) (t : ConfigTable) (h : Tables) (ev : List Event) (n : ℕ) → Sound (here s t h ev) → (server : ℕ) → next_asked (master_in (here s t h ev).control n) ≡ Some server → server < length t.names
asked-known s t h ev n sound server is = by (session_in h.sessions.sessions n) refl
  where
    k : Control
    k = (here s t h ev).control

    placed : (x : Session) → session_in h.sessions.sessions n ≡ Some x → (r : Mirror) → x.mirror ≡ Some r → phases.first_asked r.master ≡ Some server → server < length t.names
    placed x there r has first =
        let fits = sound.groups.each x (session-found h.sessions.sessions n x there).0 in
        let m = first-asked k x r server fits has first in
        let stands = fits.stands m.0 m.1.0 in
        subst (λ q. q < length t.names) (sym stands.server ∙ m.1.1) (sound.housed.1 m.0.a.0 stands.a)

    unpaused : (b : Bool) (o : Option ℕ) → cond b None o ≡ Some server → o ≡ Some server
    unpaused true o e = absurd cc
    unpaused false o e = e

    of : (x : Session) → session_in h.sessions.sessions n ≡ Some x → (m : Option Mirror) → x.mirror ≡ m → server < length t.names
    of x there None none = absurd (let e = sym (ap (λ o. next_asked (mirror_in o)) there ∙ ap next_asked none) ∙ is in cc)
    of x there (Some r) has =
        placed x there r has (unpaused (is_idle r.master.phase && r.paused) (phases.first_asked r.master) (sym (ap (λ o. next_asked (mirror_in o)) there ∙ ap next_asked has) ∙ is))

    by : (o : Option Session) → session_in h.sessions.sessions n ≡ o → server < length t.names
    by None none = absurd (let e = sym (ap (λ o. next_asked (mirror_in o)) none) ∙ is in cc)
    by (Some x) there = of x there x.mirror refl

-- the line is answered by the stop that ended it
pub stop-formed : (s : ℕ) (ss : List Session) (r : Option Refusal) → is_stopped (form_answer s ss r) ≡ is_stop r
stop-formed s ss None = by (session_in ss s)
  where
    of : (m : Option Mirror) → is_stopped (mirror_phase m) ≡ false
    of None = refl
    of (Some r) = refl

    by : (o : Option Session) → is_stopped (session_phase o) ≡ false
    by None = refl
    by (Some x) = of x.mirror
stop-formed s ss (Some (Stopped server)) = refl
stop-formed s ss (Some _) = refl
