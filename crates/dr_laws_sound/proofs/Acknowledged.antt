-- The acknowledgements that a step tells are those that its answer says.
use Rattle.std.proofs.Common.{ℕ, ◌≡◌, ◌⊎◌, ◌+◌, inl, inr, refl, ap, ◌∙◌, sym, subst, append_assoc, Bool, true, false, cond, not, ◌&&◌, ◌||◌, nat_eq, List, [], ◌∷◌, ◌++◌, map, Option, Some, None, Result, Ok, Err}
use Rattle.std.specs.Prelude.{option_map}
use Rattle.std.specs.List.{find, list_any}
use Rattle.std.specs.FinSet.{contains}
use Rattle.std.proofs.lemmas.List.{append-nil}
use Rattle.dr_model.specs.PairEntries.{send_first}
use Rattle.dr_ids.specs.declared.refusal.Refusal.{Refusal}
use Rattle.dr_ids.specs.declared.refusal.Refusal.TheVariants.{Syntax, JournalFull, Stopped as StoppedIn}
use Rattle.dr_model.specs.declared.event.Event.{Event}
use Rattle.dr_model.specs.declared.event.Event.TheVariants.{Ack, Mirrored, Stopped}
use Rattle.dr_model.specs.declared.said.Addition.TheVariants.{Alone, Wrote, Acked}
use Rattle.dr_model.specs.declared.said.Said.{Said}
use Rattle.dr_model.specs.declared.said.Said.TheVariants.{Done, Held, Refused}
use Rattle.dr_model.specs.declared.step.Name.{Name}
use Rattle.dr_model.specs.declared.step.Step.{Step}
use Rattle.dr_model.specs.declared.step.Step.TheVariants.{Start, Write, Apply, Run, Compare, Image}
use Rattle.dr_model.specs.Answers.{answer}
use Rattle.dr_model.specs.Refusals.{unknown}
use Rattle.dr_ids.specs.declared.refusal.Kind.TheVariants.{Write as OfWrite}
use Rattle.dr_model.specs.Control.{Control, Fuse, Pending, Volume, World}
use Rattle.dr_model.specs.Pairs.{held, goes_over, collides, is_cascaded}
use Rattle.dr_model.specs.Moves.{Move, Keep, Note, Land, Overwrite, Suspend, Unsync, Mirror, LandBoth, is_write, target}
use Rattle.dr_model.specs.Carry.{Make, Acknowledge, Drop, act, acknowledged, dropped, Next, Pass, Do, End, Entry, Turn, Outcome, carry, continue, go, now, check, follow}
use Rattle.dr_model.specs.Entries.{fields_at, copies_from, is_running, is_no_secondary, is_open, is_settled, relation_state, land_on, land_alone, copy_first, drop_unless, keep_on}
use Rattle.dr_model.specs.WriteEntries.{partner_of, is_grouped, is_parted, land_mirrored, land_parted, land_entries, landing, waits, says_written, after_write, start_entries, mirror_and_land, land_fed, is_held_back}
use Rattle.dr_model.specs.PlanParts.{Plan, only_says, refuses, server_named, name_bytes}
use Rattle.dr_model.specs.Plans.{plan, plan_of, has_room, has_room_for, issue_refusal, write_done, apply_done, apply_on, landed_on, acknowledge_if, acknowledge_on, says_acked, start_plan, start_on, compare_plan}
use Rattle.dr_model.specs.Forming.{Part, formed, form_said}
use Rattle.dr_model.specs.Runs.{Task, course, begun, finish, stop_place, carried_out, answered, said, after_plan, run, own_course, compared, image_plan, image_told, imaged}
use Rattle.dr_model.specs.Limits.{image_events}
use Rattle.dr_laws_sound.proofs.Listed.{image-lines}
use Rattle.dr_model.specs.Sessions.{session_in}
use Rattle.dr_model.specs.Groups.{In}
use Rattle.dr_model.proofs.CarryLemmas.{carry-none, carry-first, carry-skips, carry-passed, carry-refused, carry-goes, onward, carry-append, act-drop, act-acknowledge}
use Rattle.dr_logic.proofs.Truth.{false_true}
use Rattle.dr_facts.proofs.Lists.{found, in-first, in-second}
use Rattle.dr_facts.proofs.Tables.{at_part}
use Rattle.dr_laws_sound.specs.Acknowledged.{acknowledgements, wrote, acked, acknowledged_by, said_in, IsUnlanded, AcknowledgesAnswered, AcknowledgedIsAnswered}
use Rattle.dr_laws_sound.proofs.Turns.{act-cases, after_act, done_in_stop, server_at, server_of}
use Rattle.dr_laws_sound.proofs.Parts as parts
use Rattle.dr_laws_sound.proofs.Unacknowledged.{mirrors, cuts_any, NoAcknowledgement, no_acknowledgement-none, mirrors-then, uncut-then, HasStop, AcknowledgesNothing, Turned, act-turned, none-then, NothingAcknowledged, since-same, since-then, StaysPending, pending-same, AllAcknowledgeNothing, Comes, carry-unacknowledged, EachAcknowledgesNothing, each-unacknowledged}
use Rattle.dr_laws_sound.proofs.AcknowledgingSteps.{PlanAcknowledgesNothing, NotHeld, done-not, refused-not, phase-not, acknowledges, case-unacknowledged, says-unacknowledged, lines-unacknowledged, if-plan, unless-plan, named-plan}
use Rattle.dr_laws_sound.proofs.Cases.{of-case, Compares}
use Rattle.dr_facts.proofs.Entries.{any_world, any_reason, fine-none, fine-now, fine-append}
use Rattle.dr_facts.proofs.SharedEntries.{copies-fine, send_first-fine, after_write-fine, starts-fine}

-- what is acknowledged where a plan ends well
abbrev if_well : Option Refusal → List ℕ → List ℕ
if_well None ns = ns
if_well (Some r) ns = []

well-none : (r : Option Refusal) → if_well r [] ≡ []
well-none None = refl
well-none (Some r) = refl

-- One write was mirrored, and after that it was acknowledged, or a server's stop was told.
pub record MirrorsOne (es : List Event) : Type 0 where
  pub before : List Event
  pub behind : List Event
  pub write : ℕ
  pub secondary : ℕ
  pub is : es ≡ before ++ Mirrored write secondary ∷ behind
  pub first : mirrors before ≡ []
  pub rest : mirrors behind ≡ []
  pub closed : In (Ack write) behind ⊎ HasStop behind

-- none was, or that one
abbrev Settles : List Event → Type 0
Settles es = (mirrors es ≡ []) ⊎ MirrorsOne es

settles-first : (es fs : List Event) → mirrors es ≡ [] → Settles fs → Settles (es ++ fs)
settles-first es fs plain (inl none) = inl (mirrors-then es fs plain ∙ none)
settles-first es fs plain (inr m) = inr (record {
  before = es ++ m.before;
  behind = m.behind;
  write = m.write;
  secondary = m.secondary;
  is = ap (λ fs. es ++ fs) m.is ∙ sym (append_assoc es m.before (Mirrored m.write m.secondary ∷ m.behind));
  first = mirrors-then es m.before plain ∙ m.first;
  rest = m.rest;
  closed = m.closed;
})

settles-last : (es fs : List Event) → Settles es → mirrors fs ≡ [] → Settles (es ++ fs)
settles-last es fs (inl none) plain = inl (mirrors-then es fs none ∙ plain)
settles-last es fs (inr m) plain = inr (record {
  before = m.before;
  behind = m.behind ++ fs;
  write = m.write;
  secondary = m.secondary;
  is = ap (λ es. es ++ fs) m.is ∙ append_assoc m.before (Mirrored m.write m.secondary ∷ m.behind) fs;
  first = m.first;
  rest = mirrors-then m.behind fs m.rest ∙ plain;
  closed = by m.closed;
})
  where
    by : In (Ack m.write) m.behind ⊎ HasStop m.behind → In (Ack m.write) (m.behind ++ fs) ⊎ HasStop (m.behind ++ fs)
    by (inl acked) = inl (in-first m.behind fs (Ack m.write) acked)
    by (inr h) = inr (record { server = h.server; landed = h.landed; here = in-first m.behind fs (Stopped h.server h.landed) h.here })

-- From w to the end of some entries exactly these writes were acknowledged, if they ended well, and none if not; and where it was none,
-- what was pending is. No volume was cut.
record Told (w : World) (o : Outcome) (ns : List ℕ) : Type 0 where
  added : List Event
  events : o.0.events ≡ w.events ++ added
  acks : acknowledgements added ≡ if_well o.1 ns
  kept : ns ≡ [] → o.1 ≡ None → o.0.control.pending ≡ w.control.pending
  uncut : cuts_any added ≡ false
  way : Settles added

refused-told : (w : World) (r : Refusal) (ns : List ℕ) → Told w (w, Some r) ns
refused-told w r ns = record { added = []; events = sym (append-nil w.events); acks = refl; kept = λ e q. refl; uncut = refl; way = inl refl }

unacknowledged-told : (w : World) (o : Outcome) → Comes true w o → Told w o []
unacknowledged-told w o h = record { added = h.since.added; events = h.since.events; acks = h.since.silent.none ∙ sym (well-none o.1); kept = λ e q. h.stays.pending; uncut = h.since.silent.uncut refl; way = inl h.since.silent.plain }

-- entries that acknowledge nothing, and others after them
then-told : (w : World) (ds es : List Entry) (ns : List ℕ) → AllAcknowledgeNothing true ds → ((v : World) → v.control.on ≡ w.control.on → StaysPending w.control v.control → Told v (carry v es) ns) → Told w (carry w (ds ++ es)) ns
then-told w ds es ns nothing rest = subst (λ o. Told w o ns) (sym (carry-append w ds es)) (by (carry w ds) (carry-unacknowledged true w ds nothing))
  where
    by : (o : Outcome) → Comes true w o → Told w (onward o (λ v. carry v es)) ns
    by (v, None) h =
        let t : Told v (carry v es) ns = rest v (h.on refl) h.stays in
        record {
          added = h.since.added ++ t.added;
          events = t.events ∙ ap (λ es. es ++ t.added) h.since.events ∙ append_assoc w.events h.since.added t.added;
          acks = none-then h.since.added t.added h.since.silent.none ∙ t.acks;
          kept = λ e q. t.kept e q ∙ h.stays.pending;
          uncut = uncut-then h.since.added t.added (h.since.silent.uncut refl) t.uncut;
          way = settles-first h.since.added t.added h.since.silent.plain t.way;
        }
    by (v, Some r) h = record { added = h.since.added; events = h.since.events; acks = h.since.silent.none; kept = λ e q. absurd cc; uncut = h.since.silent.uncut refl; way = inl h.since.silent.plain }

-- a source's targets keep a track
keeps-unacknowledged : (volumes : List ℕ) (v t : ℕ) → AllAcknowledgeNothing true (copy_first volumes v t)
keeps-unacknowledged = copies-fine any_world (λ w a. AcknowledgesNothing true a) any_reason (λ u t w any. refl) (λ u t w any. refl)

now-unacknowledged : (m : Move) (ds : List Entry) → AcknowledgesNothing true (Make m) → AllAcknowledgeNothing true ds → AllAcknowledgeNothing true (now m ∷ ds)
now-unacknowledged m ds nothing rest = fine-now any_world (λ w a. AcknowledgesNothing true a) any_reason m ds (λ w any. nothing) rest

none-unacknowledged : AllAcknowledgeNothing true []
none-unacknowledged = fine-none any_world (λ w a. AcknowledgesNothing true a) any_reason

-- checks
check-told : (w : World) (ok : Control → Bool) (r : Refusal) (es : List Entry) (ns : List ℕ) → (ok w.control ≡ true → Told w (carry w es) ns) → Told w (carry w (check ok r ∷ es)) ns
check-told w ok r es ns go = by (ok w.control) refl
  where
    by : (b : Bool) → ok w.control ≡ b → Told w (carry w (check ok r ∷ es)) ns
    by true is = subst (λ o. Told w o ns) (sym (carry-passed w ok r es is)) (go is)
    by false is = subst (λ o. Told w o ns) (sym (carry-refused w ok r es is)) (refused-told w r ns)

drop-told : (w : World) (n : ℕ) (ok : Control → Bool) (r : Refusal) (es : List Entry) (ns : List ℕ) → ok (dropped w n).control ≡ ok w.control → Told w (carry w es) ns → Told w (carry w (drop_unless n ok ∷ check ok r ∷ es)) ns
drop-told w n ok r es ns alike go = by (ok w.control) refl
  where
    by : (b : Bool) → ok w.control ≡ b → Told w (carry w (drop_unless n ok ∷ check ok r ∷ es)) ns
    by true is = subst (λ o. Told w o ns) (sym (carry-skips w (drop_unless n ok) (check ok r ∷ es) (ap (λ b. cond b Pass (Do (Drop n))) is) ∙ carry-passed w ok r es is)) go
    by false is = subst (λ o. Told w o ns)
        (sym (carry-goes w (dropped w n) (drop_unless n ok) (check ok r ∷ es) (Drop n) (ap (λ b. cond b Pass (Do (Drop n))) is) (act-drop w n) ∙ carry-refused (dropped w n) ok r es (alike ∙ is)))
        (record { added = []; events = sym (append-nil w.events); acks = refl; kept = λ e q. absurd cc; uncut = refl; way = inl refl })

-- ---- a host write lands

-- by a move
abbrev Lands : ℕ → ℕ → Move → Type 0
Lands n v (Land m u t) = (m ≡ n) × (u ≡ v)
Lands n v (Overwrite m u t) = (m ≡ n) × (u ≡ v)
Lands n v (LandBoth m u t) = (m ≡ n) × (u ≡ v)
Lands n v m = ⊥

module _ (w : World) (n v : ℕ) (runs : is_running v w.control ≡ true) where
  abbrev Ends : Turn → Type 0
  Ends t = Told w (continue t.0 t.1 (λ u. (u, None))) (n ∷ [])

  not-told : (s : ℕ) (f : Option Fuse) (u : World) → u.events ≡ w.events ++ Stopped s 0 ∷ [] → Ends (u, Some s)
  not-told s f u e = record { added = Stopped s 0 ∷ []; events = e; acks = refl; kept = λ e q. absurd cc; uncut = refl; way = inl refl }

  done-told : (m : Move) (f : Option Fuse) → Lands n v m → Ends (after_act w (Make m) f, None)
  done-told (Land i u t) f is = record { added = Ack i ∷ []; events = refl; acks = ap (λ i. i ∷ []) is.0; kept = λ e q. absurd cc; uncut = refl; way = inl refl }
  done-told (Overwrite i u t) f is = record { added = Ack i ∷ []; events = refl; acks = ap (λ i. i ∷ []) is.0; kept = λ e q. absurd cc; uncut = refl; way = inl refl }
  done-told (LandBoth i u t) f is = record { added = Ack i ∷ []; events = refl; acks = ap (λ i. i ∷ []) is.0; kept = λ e q. absurd cc; uncut = refl; way = inl refl }
  done-told m f is = absurd is

  stop-told : (m : Move) (f : Option Fuse) → Lands n v m → Ends (done_in_stop w m f, Some (server_at w (target m)))
  stop-told (Land i u t) f is = record { added = Stopped (server_at w u) i ∷ []; events = refl; acks = refl; kept = λ e q. absurd cc; uncut = refl; way = inl refl }
  stop-told (Overwrite i u t) f is = record { added = Stopped (server_at w u) i ∷ []; events = refl; acks = refl; kept = λ e q. absurd cc; uncut = refl; way = inl refl }
  stop-told (LandBoth i u t) f is = record { added = Stopped (server_at w u) i ∷ []; events = refl; acks = refl; kept = λ e q. absurd cc; uncut = refl; way = inl refl }
  stop-told m f is = absurd is

  at-target : (m : Move) → Lands n v m → target m ≡ v
  at-target (Land i u t) is = is.1
  at-target (Overwrite i u t) is = is.1
  at-target (LandBoth i u t) is = is.1
  at-target m is = absurd is

  lands-told : (m : Move) → Lands n v m → Ends (act w (Make m))
  lands-told m is = act-cases w (Make m) Ends
      (λ d off. false_true off (ap (λ x. w.control.on (w.control.volume x).server) (at-target m is) ∙ runs))
      (λ f. done-told m f is)
      (λ f. stop-told m f is)
      (λ d f. not-told (server_of w (Make m)) f _ refl)

  last-told : (d : Entry) (m : Move) → d w.control ≡ Do (Make m) → Lands n v m → Told w (carry w (d ∷ [])) (n ∷ [])
  last-told d m is lands =
      subst (λ o. Told w o (n ∷ [])) (sym (carry-first w d [] (Do (Make m)) is ∙ ends (act w (Make m)))) (lands-told m lands)
    where
      ends : (t : Turn) → continue t.0 t.1 (λ u. carry u []) ≡ continue t.0 t.1 (λ u. (u, None))
      ends (u, None) = carry-none u
      ends (u, Some s) = refl

  land-told : (t : ℕ) → Told w (carry w (land_on n v t ∷ [])) (n ∷ [])
  land-told t = last-told (land_on n v t) (cond (fields_at w.control v).related (Overwrite n v t) (Land n v t)) refl (by (fields_at w.control v).related)
    where
      by : (b : Bool) → Lands n v (cond b (Overwrite n v t) (Land n v t))
      by true = (refl, refl)
      by false = (refl, refl)

module _ (k : Control) (n v t : ℕ) where
  runs-on : (w u : World) → is_running v w.control ≡ true → u.control.on ≡ w.control.on → StaysPending w.control u.control → is_running v u.control ≡ true
  runs-on w u runs on stays = (λ i. on i (stays.server v i)) ∙ runs

  alone-told : (w : World) → is_running v w.control ≡ true → Told w (carry w (land_alone k.volumes n v t)) (n ∷ [])
  alone-told w runs = then-told w (copy_first k.volumes v t) (land_on n v t ∷ []) (n ∷ []) (keeps-unacknowledged k.volumes v t) (λ u on stays. land-told u n v (runs-on w u runs on stays) t)

  -- after a mirrored write v's targets keep the track, and it lands, or a server stops
  record Rest (w : World) (o : Outcome) : Type 0 where
    added : List Event
    events : o.0.events ≡ w.events ++ added
    acks : acknowledgements added ≡ if_well o.1 (n ∷ [])
    uncut : cuts_any added ≡ false
    plain : mirrors added ≡ []
    closed : In (Ack n) added ⊎ HasStop added

  abbrev lands_behind : List ℕ → List Entry
  lands_behind us = map (keep_on v t) us ++ now (LandBoth n v t) ∷ []

  rest-last : (w : World) → is_running v w.control ≡ true → Rest w (carry w (lands_behind []))
  rest-last w runs = subst (Rest w) (sym (carry-first w (now (LandBoth n v t)) [] (Do (Make (LandBoth n v t))) refl ∙ ends (act w (Make (LandBoth n v t)))))
      (act-cases w (Make (LandBoth n v t)) (λ t. Rest w (continue t.0 t.1 (λ u. (u, None)))) (λ d off. false_true off runs)
      (λ f. record { added = Ack n ∷ []; events = refl; acks = refl; uncut = refl; plain = refl; closed = inl (inl refl) })
      (λ f. record { added = Stopped (server_at w v) n ∷ []; events = refl; acks = refl; uncut = refl; plain = refl; closed = inr (record { server = server_at w v; landed = n; here = inl refl }) })
      (λ d f. record { added = Stopped (server_at w v) 0 ∷ []; events = refl; acks = refl; uncut = refl; plain = refl; closed = inr (record { server = server_at w v; landed = 0; here = inl refl }) }))
    where
      ends : (t : Turn) → continue t.0 t.1 (λ u. carry u []) ≡ continue t.0 t.1 (λ u. (u, None))
      ends (u, None) = carry-none u
      ends (u, Some s) = refl

  rest-turned : (w : World) (r : Turn) (es : List Entry) → Turned true w r → ((u : World) → u.control.on ≡ w.control.on → StaysPending w.control u.control → Rest u (carry u es)) → Rest w (continue r.0 r.1 (λ u. carry u es))
  rest-turned w (u, None) es h more =
      let t : Rest u (carry u es) = more u (h.unacknowledged.on refl) h.unacknowledged.stays in
      record {
        added = h.unacknowledged.since.added ++ t.added;
        events = t.events ∙ ap (λ es. es ++ t.added) h.unacknowledged.since.events ∙ append_assoc w.events h.unacknowledged.since.added t.added;
        acks = none-then h.unacknowledged.since.added t.added h.unacknowledged.since.silent.none ∙ t.acks;
        uncut = uncut-then h.unacknowledged.since.added t.added (h.unacknowledged.since.silent.uncut refl) t.uncut;
        plain = mirrors-then h.unacknowledged.since.added t.added h.unacknowledged.since.silent.plain ∙ t.plain;
        closed = by t.closed;
      }
    where
      by : In (Ack n) (more u (h.unacknowledged.on refl) h.unacknowledged.stays).added ⊎ HasStop (more u (h.unacknowledged.on refl) h.unacknowledged.stays).added
          → In (Ack n) (h.unacknowledged.since.added ++ (more u (h.unacknowledged.on refl) h.unacknowledged.stays).added) ⊎ HasStop (h.unacknowledged.since.added ++ (more u (h.unacknowledged.on refl) h.unacknowledged.stays).added)
      by (inl acked) = inl (in-second h.unacknowledged.since.added _ (Ack n) acked)
      by (inr s) = inr (record { server = s.server; landed = s.landed; here = in-second h.unacknowledged.since.added _ (Stopped s.server s.landed) s.here })
  rest-turned w (u, Some s) es h more = record { added = h.unacknowledged.since.added; events = h.unacknowledged.since.events; acks = h.unacknowledged.since.silent.none; uncut = h.unacknowledged.since.silent.uncut refl; plain = h.unacknowledged.since.silent.plain; closed = inr (by h.ends) }
    where
      by : (◌≡◌ {A = Option ℕ} (Some s) None) ⊎ HasStop h.unacknowledged.since.added → HasStop h.unacknowledged.since.added
      by (inl none) = absurd cc
      by (inr stop) = stop

  -- what an entry that does something or nothing comes to
  abbrev Doing : Next → Type 0
  Doing Pass = Unit {0}
  Doing (Do a) = AcknowledgesNothing true a
  Doing (End r) = ⊥

  keep-does : (u : ℕ) (k : Control) → Doing (keep_on v t u k)
  keep-does u k = by (copies_from v (fields_at k u) && not (fields_at k u).reversing) (not (contains (fields_at k u).own t)) ((fields_at k u).recorded && not (contains (fields_at k u).source_changes t))
    where
      by : (a b c : Bool) → Doing (cond a (cond b (Do (Make (Keep u t))) (cond c (Do (Make (Note u t))) Pass)) Pass)
      by true true c = refl
      by true false true = refl
      by true false false = tt
      by false b c = tt

  rest-next : (w : World) (x : Next) (es : List Entry) → Doing x → ((u : World) → u.control.on ≡ w.control.on → StaysPending w.control u.control → Rest u (carry u es)) → Rest w (go w x (λ u. carry u es))
  rest-next w Pass es does more = more w refl (pending-same w.control)
  rest-next w (Do a) es does more = rest-turned w (act w a) es (act-turned true w a does) more
  rest-next w (End r) es does more = absurd does

  rest-told : (us : List ℕ) (w : World) → is_running v w.control ≡ true → Rest w (carry w (lands_behind us))
  rest-told [] w runs = rest-last w runs
  rest-told (u ∷ us) w runs =
      subst (Rest w) (sym (carry-first w (keep_on v t u) (lands_behind us) (keep_on v t u w.control) refl))
      (rest-next w (keep_on v t u w.control) (lands_behind us) (keep-does u w.control) (λ x on stays. rest-told us x (runs-on w x runs on stays)))

  -- the secondary stores it
  mirror-told : (w : World) (u : ℕ) → is_running v w.control ≡ true → Told w (carry w (now (Mirror u t v n) ∷ lands_behind k.volumes)) (n ∷ [])
  mirror-told w u runs = subst (λ o. Told w o (n ∷ [])) (sym (carry-first w (now (Mirror u t v n)) (lands_behind k.volumes) (Do (Make (Mirror u t v n))) refl))
      (act-cases w (Make (Mirror u t v n)) (λ r. Told w (continue r.0 r.1 (λ x. carry x (lands_behind k.volumes))) (n ∷ []))
      (λ d off. from-rest w [] (sym (append-nil w.events)) (λ r. inl r.plain) refl refl (rest-told k.volumes w runs))
      (λ f. from-rest w (Mirrored n u ∷ []) refl (λ r. inr (record { before = []; behind = r.added; write = n; secondary = u; is = refl; first = refl; rest = r.plain; closed = r.closed })) refl refl (rest-told k.volumes (after_act w (Make (Mirror u t v n)) f) (mirrored-runs f)))
      (λ f. record { added = Mirrored n u ∷ Stopped (server_at w u) 0 ∷ []; events = refl; acks = refl; kept = λ e q. absurd cc; uncut = refl; way = inr (record { before = []; behind = Stopped (server_at w u) 0 ∷ []; write = n; secondary = u; is = refl; first = refl; rest = refl; closed = inr (record { server = server_at w u; landed = 0; here = inl refl }) }) })
      (λ d f. record { added = Stopped (server_at w u) 0 ∷ []; events = refl; acks = refl; kept = λ e q. absurd cc; uncut = refl; way = inl refl }))
    where
      mirrored-runs : (f : Option Fuse) → is_running v (after_act w (Make (Mirror u t v n)) f).control ≡ true
      mirrored-runs f = ap w.control.on (at_part (λ (x : Volume). x.server) w.control.volume u _ refl v) ∙ runs

      from-rest : {x : World} (y : World) (first : List Event) → x.events ≡ y.events ++ first → ((r : Rest x (carry x (lands_behind k.volumes))) → Settles (first ++ r.added)) → acknowledgements first ≡ [] → cuts_any first ≡ false
          → Rest x (carry x (lands_behind k.volumes)) → Told y (carry x (lands_behind k.volumes)) (n ∷ [])
      from-rest y first is way none uncut r = record {
        added = first ++ r.added;
        events = r.events ∙ ap (λ es. es ++ r.added) is ∙ append_assoc y.events first r.added;
        acks = none-then first r.added none ∙ r.acks;
        kept = λ e q. absurd cc;
        uncut = uncut-then first r.added uncut r.uncut;
        way = way r;
      }

  sent-unacknowledged : (q u : ℕ) → AllAcknowledgeNothing true (send_first k.volumes q u t)
  sent-unacknowledged q u = send_first-fine any_world (λ w a. AcknowledgesNothing true a) any_reason (λ u t w any. refl) (λ u t w any. refl) k.volumes q u t (λ w any. refl) (λ last w any so. refl) (λ last w any. refl)

  -- the track is out of sync, and what else comes before the secondary stores it acknowledges nothing
  mirrored-told : (w : World) (u : ℕ) (first : List Entry) → AllAcknowledgeNothing true first → is_running v w.control ≡ true → Told w (carry w (now (Unsync v t) ∷ first ++ mirror_and_land k.volumes n v t u)) (n ∷ [])
  mirrored-told w u first nothing runs =
      let copies : List Entry = copy_first k.volumes u t in
      let joined : first ++ mirror_and_land k.volumes n v t u ≡ (first ++ copies) ++ now (Mirror u t v n) ∷ lands_behind k.volumes =
      ap (λ ds. first ++ ds) (append_assoc copies (now (Mirror u t v n) ∷ copy_first k.volumes v t) (now (LandBoth n v t) ∷ [])) ∙ sym (append_assoc first copies (now (Mirror u t v n) ∷ lands_behind k.volumes)) in
      subst (λ ds. Told w (carry w (now (Unsync v t) ∷ ds)) (n ∷ [])) (sym joined)
      (then-told w (now (Unsync v t) ∷ first ++ copies) (now (Mirror u t v n) ∷ lands_behind k.volumes) (n ∷ [])
      (now-unacknowledged (Unsync v t) _ refl (fine-append any_world (λ w a. AcknowledgesNothing true a) any_reason first copies nothing (keeps-unacknowledged k.volumes u t)))
      (λ x on stays. mirror-told x u (runs-on w x runs on stays)))

  collided-told : (w : World) (u : ℕ) → is_running v w.control ≡ true → Told w (carry w (send_first k.volumes v u t ++ land_alone k.volumes n v t)) (n ∷ [])
  collided-told w u runs =
      then-told w (send_first k.volumes v u t) (land_alone k.volumes n v t) (n ∷ []) (sent-unacknowledged v u)
      (λ x on stays. alone-told x (runs-on w x runs on stays))

  -- what is acknowledged where the write waits, and where it doesn't
  abbrev unless_waits : Bool → List ℕ
  unless_waits b = cond b [] (n ∷ [])

  parted-told : (w : World) (busy : Bool) → is_running v w.control ≡ true → Told w (carry w (now (Suspend v busy) ∷ cond busy [] (land_alone k.volumes n v t))) (unless_waits busy)
  parted-told w true runs = unacknowledged-told w _ (carry-unacknowledged true w _ (now-unacknowledged (Suspend v true) [] refl none-unacknowledged))
  parted-told w false runs = then-told w (now (Suspend v false) ∷ []) (land_alone k.volumes n v t) (n ∷ []) (now-unacknowledged (Suspend v false) [] refl none-unacknowledged) (λ x on stays. alone-told x (runs-on w x runs on stays))

  entries-told : (w : World) → is_running v w.control ≡ true → Told w (carry w (land_entries k n v t)) (unless_waits (waits k v t))
  entries-told w runs = by (held (fields_at k v)) (goes_over (fields_at k v) t) (is_parted k v) (collides (fields_at k v) t) (is_held_back k v) (is_cascaded (fields_at k u))
    where
      u : ℕ
      u = partner_of k v

      by : (a c d e h f : Bool) → Told w (carry w (cond a [] (cond c (cond d (land_parted k n v t) (cond h [] (cond f (land_fed k.volumes n v t u (partner_of k u)) (land_mirrored k.volumes n v t u)))) (cond e (send_first k.volumes v u t ++ land_alone k.volumes n v t) (land_alone k.volumes n v t)))))
          (unless_waits (a || (c && cond d (is_grouped k v u) h)))
      by true c d e h f = unacknowledged-told w _ (carry-unacknowledged true w [] none-unacknowledged)
      by false true true e h f = parted-told w (is_grouped k v u) runs
      by false true false e true f = unacknowledged-told w _ (carry-unacknowledged true w [] none-unacknowledged)
      by false true false e false true = mirrored-told w u (send_first k.volumes u (partner_of k u) t) (sent-unacknowledged u (partner_of k u)) runs
      by false true false e false false = mirrored-told w u [] none-unacknowledged runs
      by false false d true h f = collided-told w u runs
      by false false d false h f = alone-told w runs

  landing-told : (w : World) → Told w (carry w (landing k n v t)) (unless_waits (waits k v t))
  landing-told w =
      check-told w (is_running v) _ _ _ (λ runs.
      drop-told w n (is_no_secondary v) _ _ _ refl
      (drop-told w n (is_open v) _ _ _ refl
      (drop-told w n (is_settled v) (relation_state k v) _ _ refl (entries-told w runs))))

  after-unacknowledged : (s : ℕ) → EachAcknowledgesNothing true (after_write k n v t s)
  after-unacknowledged s = after_write-fine any_world (λ w a. AcknowledgesNothing true a) any_reason k n v t s (λ busy w any. refl) (λ fed w any. refl)

-- ---- a server starts

abbrev one_or_none : Option ℕ → List ℕ
one_or_none None = []
one_or_none (Some n) = n ∷ []

start-unacknowledged : (s : ℕ) (vs : List ℕ) → AllAcknowledgeNothing true (start_entries s vs)
start-unacknowledged s vs = starts-fine any_world (λ w a. AcknowledgesNothing true a) any_reason s vs (λ v w any. refl) (λ v w any. refl)

same-landed : (j k : Control) (s : ℕ) → StaysPending j k → landed_on k s ≡ landed_on j s
same-landed j k s st = λ i. option_map (λ (p : Pending). p.w) (find (λ p. p.landed && (list_any (nat_eq p.volume) (st.volumes i) && nat_eq (st.server p.volume i) s)) (st.pending i))

acknowledge-told : (w : World) (s : ℕ) (o : Option ℕ) → landed_on w.control s ≡ o → Told w (carry w (acknowledge_on s ∷ [])) (one_or_none o)
acknowledge-told w s None is = subst (λ x. Told w x []) (sym (carry-skips w (acknowledge_on s) [] (ap acknowledge_if is) ∙ carry-none w)) (record { added = []; events = sym (append-nil w.events); acks = refl; kept = λ e q. refl; uncut = refl; way = inl refl })
acknowledge-told w s (Some n) is = subst (λ x. Told w x (n ∷ [])) (sym (carry-goes w (acknowledged w n) (acknowledge_on s) [] (Acknowledge n) (ap acknowledge_if is) (act-acknowledge w n) ∙ carry-none (acknowledged w n)))
    (record { added = Ack n ∷ []; events = refl; acks = refl; kept = λ e q. absurd cc; uncut = refl; way = inl refl })

starting-told : (w : World) (s : ℕ) (vs : List ℕ) → Told w (carry w (start_entries s vs ++ acknowledge_on s ∷ [])) (one_or_none (landed_on w.control s))
starting-told w s vs = then-told w (start_entries s vs) (acknowledge_on s ∷ []) _ (start-unacknowledged s vs) (λ u on stays. acknowledge-told u s (landed_on w.control s) (same-landed w.control u.control s stays))

-- ---- plans

follow-told : (no_cuts : Bool) (w u : World) (r : Refusal) (follows : ℕ → List Entry) → ((s : ℕ) → EachAcknowledgesNothing no_cuts (follows s)) → (n : ℕ) → NothingAcknowledged no_cuts u (follow u r (follows n))
follow-told no_cuts w u (StoppedIn s) follows nothing n = each-unacknowledged no_cuts u (follows n) (nothing n)
follow-told no_cuts w u r follows nothing n = since-same no_cuts u

-- what a plan tells before its answer where its entries end so, and what it leaves pending
record TellsAt (w : World) (p : Plan) (ns : List ℕ) (o : Outcome) : Type 0 where
  told : List Event
  events : (finish p (stop_place w p) o.0 o.1).events ≡ w.events ++ told
  acks : acknowledgements told ≡ if_well o.1 ns
  kept : ns ≡ [] → o.1 ≡ None → (finish p (stop_place w p) o.0 o.1).control.pending ≡ (p.first w.control).pending
  uncut : cuts_any told ≡ false
  way : Settles told

abbrev PlanTold : World → Plan → List ℕ → Type 0
PlanTold w p ns = TellsAt w p ns (carry (begun w p) p.entries)

plan-told : (w : World) (p : Plan) (ns : List ℕ) → NoAcknowledgement true p.told → ((s : ℕ) → EachAcknowledgesNothing true (p.follows s)) → ((k : Control) → (p.last k).pending ≡ k.pending) → (o : Outcome) → Told (begun w p) o ns → TellsAt w p ns o
plan-told w p ns first follows last (u, None) t = record {
  told = p.told ++ t.added;
  events = t.events ∙ append_assoc w.events p.told t.added;
  acks = none-then p.told t.added first.none ∙ t.acks;
  kept = λ e q. last u.control ∙ t.kept e q;
  uncut = uncut-then p.told t.added (first.uncut refl) t.uncut;
  way = settles-first p.told t.added first.plain t.way;
}
plan-told w p ns first follows last (u, Some r) t =
    let m : NothingAcknowledged true u (follow u r (p.follows (stop_place w p))) = follow-told true w u r p.follows follows (stop_place w p) in
    record {
      told = p.told ++ (t.added ++ m.added);
      events = m.events ∙ ap (λ es. es ++ m.added) t.events ∙ append_assoc (w.events ++ p.told) t.added m.added ∙ append_assoc w.events p.told (t.added ++ m.added);
      acks = none-then p.told (t.added ++ m.added) first.none ∙ none-then t.added m.added t.acks ∙ m.silent.none;
      kept = λ e q. absurd cc;
      uncut = uncut-then p.told (t.added ++ m.added) (first.uncut refl) (uncut-then t.added m.added t.uncut (m.silent.uncut refl));
      way = settles-first p.told (t.added ++ m.added) first.plain (settles-last t.added m.added t.way m.silent.plain);
    }

-- a plan that acknowledges nothing
-- ---- steps

-- no write was mirrored; or one was, and it was acknowledged or a stop was told, and no volume was cut
abbrev pub StepWay : List Event → Type 0
StepWay es = (mirrors es ≡ []) ⊎ ((cuts_any es ≡ false) × MirrorsOne es)

way-of : (es : List Event) → cuts_any es ≡ false → Settles es → StepWay es
way-of es uncut (inl none) = inl none
way-of es uncut (inr m) = inr (uncut, m)

-- the last plan of a step, as it is answered
record Answers (asked : Result Step ℕ) (w : World) (p : Plan) : Type 0 where
  told : List Event
  events : (carried_out w p).0.events ≡ w.events ++ told
  acks : acknowledgements told ≡ acknowledged_by asked (answered p (carried_out w p).0.control (carried_out w p).1)
  held : (n : ℕ) → answered p (carried_out w p).0.control (carried_out w p).1 ≡ Held n → IsUnlanded (carried_out w p).0.control n × (acknowledgements told ≡ [])
  way : StepWay told

answered-not : (p : Plan) (k : Control) (r : Option Refusal) → ((k : Control) → NotHeld (p.says k)) → NotHeld (answered p k r)
answered-not p k None each = each k
answered-not p k (Some r) each = refused-not r

-- a step that can acknowledge nothing
other-none : (step : Step) (said : Said) → acknowledges (Ok step) ≡ false → acknowledged_by (Ok step) said ≡ []
other-none (Write v t offset len bytes) said other = absurd cc
other-none (Apply n) said other = absurd cc
other-none (Start name) said other = absurd cc
other-none step said other = refl

unacknowledged-answers : (asked : Result Step ℕ) → ((said : Said) → acknowledged_by asked said ≡ []) → (w : World) (p : Plan) → PlanAcknowledgesNothing w p → Answers asked w p
unacknowledged-answers asked none w p h =
    let m : NothingAcknowledged false w (carried_out w p).0 = h.since in
    record { told = m.added; events = m.events; acks = m.silent.none ∙ sym (none _); held = λ n e. absurd (answered-not p (carried_out w p).0.control (carried_out w p).1 h.says n e); way = inl m.silent.plain }

-- a refusal
refused-answers : (asked : Result Step ℕ) → ((r : Refusal) → acknowledged_by asked (Refused r) ≡ []) → (w : World) (r : Refusal) → Answers asked w (refuses r)
refused-answers asked none w r =
    let m : NothingAcknowledged false w (carried_out w (refuses r)).0 = (says-unacknowledged w (Refused r) (refused-not r)).since in
    record { told = m.added; events = m.events; acks = m.silent.none ∙ sym (by (carry (begun w (refuses r)) []) (carry-none (begun w (refuses r)))); held = λ n e. absurd (answered-not (refuses r) (carried_out w (refuses r)).0.control (carried_out w (refuses r)).1 (λ k. refused-not r) n e); way = inl m.silent.plain }
  where
    by : (o : Outcome) → o ≡ (begun w (refuses r), None) → acknowledged_by asked (answered (refuses r) (finish (refuses r) (stop_place w (refuses r)) o.0 o.1).control o.1) ≡ []
    by (u, None) is = none r
    by (u, Some q) is = none q

-- a write, whether it lands or waits
module _ (asked : Result Step ℕ) (is : (said : Said) → acknowledged_by asked said ≡ wrote said) where
  wrote-refused : (r : Refusal) → acknowledged_by asked (Refused r) ≡ []
  wrote-refused r = is (Refused r)

  module _ (w : World) (k : Control) (n v t : ℕ) (p : Plan) (says : (j : Control) → p.says j ≡ says_written k n v t) (pending : IsUnlanded (p.first w.control) n) where
    written : (o : Outcome) (b : Bool) → waits k v t ≡ b → TellsAt w p (cond b [] (n ∷ [])) o → (u : World) → u ≡ finish p (stop_place w p) o.0 o.1 →
        let said : Said = answered p u.control o.1 in (told : List Event) × ((u.events ≡ w.events ++ told) × ((acknowledgements told ≡ wrote said) × (((i : ℕ) → said ≡ Held i → IsUnlanded u.control i × (acknowledgements told ≡ [])) × StepWay told)))
    written (x, None) true e t u is =
        let said : p.says u.control ≡ Held n = says u.control ∙ ap (λ b. cond b (Held n) (Done (Wrote n))) e in
        let stays : u.control.pending ≡ (p.first w.control).pending = ap (λ (u : World). u.control.pending) is ∙ t.kept refl refl in
        (t.told, (ap (λ (u : World). u.events) is ∙ t.events, (t.acks ∙ sym (ap wrote said), (λ i h. (subst (IsUnlanded u.control) (same i (sym said ∙ h)) (record { waits = pending.waits; here = subst (In pending.waits) (sym stays) pending.here; is = pending.is }), t.acks), way-of t.told t.uncut t.way))))
      where
        same : (i : ℕ) → Held n ≡ Held i → n ≡ i
        same i h = cc
    written (x, None) false e t u is =
        let said : p.says u.control ≡ Done (Wrote n) = says u.control ∙ ap (λ b. cond b (Held n) (Done (Wrote n))) e in
        (t.told, (ap (λ (u : World). u.events) is ∙ t.events, (t.acks ∙ sym (ap wrote said), (λ i h. absurd (done-not (Wrote n) i (sym said ∙ h)), way-of t.told t.uncut t.way))))
    written (x, Some r) b e t u is = (t.told, (ap (λ (u : World). u.events) is ∙ t.events, (t.acks, (λ i h. absurd (refused-not r i h), way-of t.told t.uncut t.way))))

    written-answers : PlanTold w p (cond (waits k v t) [] (n ∷ [])) → Answers asked w p
    written-answers tells =
        let a = written (carry (begun w p) p.entries) (waits k v t) refl tells (carried_out w p).0 refl in
        record { told = a.0; events = a.1.0; acks = a.1.1.0 ∙ sym (is _); held = a.1.1.1.0; way = a.1.1.1.1 }

write-answers : (w : World) (v t offset len : ℕ) (bytes : List ℕ) → Answers (Ok (Write v t offset len bytes)) w (write_done w.control v t offset len bytes)
write-answers w v t offset len bytes =
    let k : Control = w.control in
    let n : ℕ = k.issued + 1 in
    let p : Plan = write_done k v t offset len bytes in
    written-answers (Ok (Write v t offset len bytes)) (λ said. refl) w k n v t p (λ j. refl)
    (record { waits = record { w = n; volume = v; track = t; landed = false }; here = in-second k.pending (record { w = n; volume = v; track = t; landed = false } ∷ []) (record { w = n; volume = v; track = t; landed = false }) (inl refl); is = refl })
    (plan-told w p (cond (waits k v t) [] (n ∷ [])) (record { none = refl; plain = refl; uncut = λ h. refl }) (after-unacknowledged k n v t) (λ j. refl) _ (landing-told k n v t (begun w p)))

apply-answers : (w : World) (n : ℕ) (p : Pending) → find (is_write n) w.control.pending ≡ Some p → Answers (Ok (Apply n)) w (apply_done w.control p)
apply-answers w n p is =
    let k : Control = w.control in
    written-answers (Ok (Apply n)) (λ said. refl) w k p.w p.volume p.track (apply_done k p) (λ j. refl)
    (record { waits = p; here = (found (is_write n) k.pending p is).0; is = refl })
    (plan-told w (apply_done k p) (cond (waits k p.volume p.track) [] (p.w ∷ [])) (no_acknowledgement-none true) (after-unacknowledged k p.w p.volume p.track) (λ j. refl) _ (landing-told k p.w p.volume p.track (begun w (apply_done k p))))

-- a server that starts
module _ (w : World) (name : Name) (s : ℕ) where
  abbrev starts : Plan
  starts = start_plan w.control s

  says-one : (o : Option ℕ) → acked (says_acked o) ≡ one_or_none o
  says-one None = refl
  says-one (Some n) = refl

  says-not : (o : Option ℕ) → NotHeld (says_acked o)
  says-not None = done-not Alone
  says-not (Some n) = done-not (Acked n)

  acks-at : (o : Outcome) → if_well o.1 (one_or_none (landed_on w.control s)) ≡ acked (answered starts (finish starts (stop_place w starts) o.0 o.1).control o.1)
  acks-at (u, None) = sym (says-one (landed_on w.control s))
  acks-at (u, Some r) = refl

  start-answers : Answers (Ok (Start name)) w starts
  start-answers =
      let o : Outcome = carry (begun w starts) starts.entries in
      let t : PlanTold w starts (one_or_none (landed_on w.control s)) = plan-told w starts (one_or_none (landed_on w.control s)) (record { none = refl; plain = refl; uncut = λ h. refl }) (λ q. tt) (λ j. refl) o (starting-told (begun w starts) s w.control.volumes) in
      record {
        told = t.told;
        events = t.events;
        acks = t.acks ∙ acks-at o;
        held = λ n e. absurd (answered-not starts (carried_out w starts).0.control (carried_out w starts).1 (λ k. says-not (landed_on w.control s)) n e);
        way = way-of t.told t.uncut t.way;
      }

-- the plan of a step that is no run of groups
module _ (w : World) (line : ℕ) where
  step-answers : (step : Step) → own_course (Ok step) ≡ None → Answers (Ok step) w (plan_of w.control w.events line step)
  step-answers (Write v t offset len bytes) alone =
      unless-plan (Answers (Ok (Write v t offset len bytes)) w) (refused-answers (Ok (Write v t offset len bytes)) (λ r. refl) w) (issue_refusal w.control v t) (write_done w.control v t offset len bytes) (write-answers w v t offset len bytes)
  step-answers (Apply n) alone = by (find (is_write n) w.control.pending) refl
    where
      by : (o : Option Pending) → find (is_write n) w.control.pending ≡ o → Answers (Ok (Apply n)) w (apply_on w.control o)
      by None is = refused-answers (Ok (Apply n)) (λ r. refl) w (unknown OfWrite)
      by (Some p) is = apply-answers w n p is
  step-answers (Start name) alone =
      named-plan (Answers (Ok (Start name)) w) (refused-answers (Ok (Start name)) (λ r. refl) w) (server_named w.control (name_bytes name)) (start_on w.control)
      (λ s. if-plan (Answers (Ok (Start name)) w) (refused-answers (Ok (Start name)) (λ r. refl) w) (w.control.on s) (only_says (Done Alone)) (start_plan w.control s) (on s) (start-answers w name s))
    where
      on : (s : ℕ) → Answers (Ok (Start name)) w (only_says (Done Alone))
      on s =
          let p : Plan = only_says (Done Alone) in
          let m : NothingAcknowledged false w (carried_out w p).0 = (says-unacknowledged w (Done Alone) (done-not Alone)).since in
          record { told = m.added; events = m.events; acks = m.silent.none ∙ sym (none (carry (begun w p) [])); held = λ n e. absurd (answered-not p (carried_out w p).0.control (carried_out w p).1 (λ k. done-not Alone) n e); way = inl m.silent.plain }
        where
          none : (o : Outcome) → acked (answered (only_says (Done Alone)) (finish (only_says (Done Alone)) (stop_place w (only_says (Done Alone))) o.0 o.1).control o.1) ≡ []
          none (u, None) = refl
          none (u, Some r) = refl
  step-answers step alone = unacknowledged-answers (Ok step) (λ said. other-none step said refl) w (plan_of w.control w.events line step) (case-unacknowledged w line (Ok step) (plan_of w.control w.events line step) (of-case w.control w.events line step) refl)

  none-refused : (step : Step) (r : Refusal) → acknowledged_by (Ok step) (Refused r) ≡ []
  none-refused (Write v t offset len bytes) r = refl
  none-refused (Apply n) r = refl
  none-refused (Start name) r = refl
  none-refused step r = refl

  plan-answers : (step : Step) → own_course (Ok step) ≡ None → Answers (Ok step) w (plan w.control w.events line (Ok step))
  plan-answers step alone =
      if-plan (Answers (Ok step) w) (refused-answers (Ok step) (none-refused step) w) (has_room w.events) (plan_of w.control w.events line step) (refuses JournalFull) (step-answers step alone) (refused-answers (Ok step) (none-refused step) w JournalFull)

-- the last plan of a step in the world to which its other plans led, as the step ends
pub record StepTold (w : World) (t : Task) : Type 0 where
  pub answers : AcknowledgesAnswered w t
  pub way : StepWay answers.told

answers-task : (v : World) (t : Task) → let x : Part = (course v t).last in (a : Answers t.asked x.world x.plan) → (m : NothingAcknowledged false v x.world) → StepWay (m.added ++ a.told) → StepTold v t
unfolding after_plan
answers-task v t a m way =
    let x : Part = (course v t).last in
    record {
      answers = record {
        told = m.added ++ a.told;
        events = ap (λ es. es ++ answer t.line (said_in v t) ∷ []) (a.events ∙ ap (λ es. es ++ a.told) m.events ∙ append_assoc v.events m.added a.told);
        acknowledged = none-then m.added a.told m.silent.none ∙ a.acks;
        held = λ n e. let h = a.held n e in (record { waits = h.0.waits; here = h.0.here; is = h.0.is }, none-then m.added a.told m.silent.none ∙ h.1);
      };
      way = way;
    }

-- an `@run`
run-since : (w : World) (t : Task) → NothingAcknowledged false w (course w t).last.world
run-since w t = parts.last-plan (NothingAcknowledged false w) (λ u p comes m. let h = since-then false w u (carried_out u p).0 m (case-unacknowledged u 0 comes.asked p (comes.case 0) comes.other).since in record { added = h.added; events = h.events; silent = h.silent }) w t (since-same false w)

form-not : (s : ℕ) (k : Control) (r : Option Refusal) → NotHeld (form_said s k r)
form-not s k None = phase-not (session_in k.sessions s)
form-not s k (Some r) = refused-not r

pub told-task : (w : World) (t : Task) → StepTold w t
unfolding unacknowledged-answers
told-task w t = by t.asked
  where
    by : (asked : Result Step ℕ) → StepTold w (record { line = t.line; asked = asked; listed = t.listed })
    by (Ok (Run s n)) =
        let x = formed w s n in
        let said : Said = form_said s x.world.control x.refusal in
        let run : Task = record { line = t.line; asked = Ok (Run s n); listed = t.listed } in
        let m : NothingAcknowledged false w x.world = run-since w run in
        let a : Answers (Ok (Run s n)) x.world (only_says said) = unacknowledged-answers (Ok (Run s n)) (λ a. refl) x.world (only_says said) (says-unacknowledged x.world said (form-not s x.world.control x.refusal)) in
        answers-task w run a m (inl (mirrors-then m.added a.told m.silent.plain ∙ (says-unacknowledged x.world said (form-not s x.world.control x.refusal)).since.silent.plain))
    by (Ok (Compare v u)) =
        let asked : Result Step ℕ = Ok (Compare v u) in
        let a : Answers asked w (compared w v u) =
        if-plan (Answers asked w) (refused-answers asked (λ r. refl) w) (has_room w.events) (compare_plan w.control w.contents v u) (refuses JournalFull)
        (unacknowledged-answers asked (λ a. refl) w (compare_plan w.control w.contents v u) (case-unacknowledged w t.line asked (compare_plan w.control w.contents v u) (Compares w.contents v u) refl)) (refused-answers asked (λ r. refl) w JournalFull) in
        answers-task w (record { line = t.line; asked = asked; listed = t.listed }) a (record { added = []; events = sym (append-nil w.events); silent = no_acknowledgement-none false }) a.way
    by (Ok Image) =
        let asked : Result Step ℕ = Ok Image in
        let a : Answers asked w (imaged w t.listed) =
        if-plan (Answers asked w) (refused-answers asked (λ r. refl) w) (has_room_for image_events w.events) (image_plan t.listed) (refuses JournalFull)
        (unacknowledged-answers asked (λ a. refl) w (image_plan t.listed) (lines-unacknowledged w (image_told t.listed) (image-lines t.listed))) (refused-answers asked (λ r. refl) w JournalFull) in
        answers-task w (record { line = t.line; asked = asked; listed = t.listed }) a (record { added = []; events = sym (append-nil w.events); silent = no_acknowledgement-none false }) a.way
    by (Ok step) = let a = plan-answers w t.line step refl in answers-task w (record { line = t.line; asked = Ok step; listed = t.listed }) a (record { added = []; events = sym (append-nil w.events); silent = no_acknowledgement-none false }) a.way
    by (Err column) = let a = refused-answers (Err column) (λ r. refl) w (Syntax column) in answers-task w (record { line = t.line; asked = Err column; listed = t.listed }) a (record { added = []; events = sym (append-nil w.events); silent = no_acknowledgement-none false }) a.way

pub acked-task : (w : World) (t : Task) → AcknowledgesAnswered w t
acked-task w t = (told-task w t).answers

pub acked-run : (tasks : List Task) → AcknowledgedIsAnswered tasks
acked-run tasks before behind t is = acked-task (run before) t
