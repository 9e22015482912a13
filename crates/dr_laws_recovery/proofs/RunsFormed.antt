-- An `@run` that isn't refused ends in Idle, and its last attempt is that of the session's newest group.
use Rattle.std.proofs.Common.{ℕ, zero, suc, ◌≡◌, ◌≤◌, ◌+◌, ◌-◌, inl, refl, ap, sym, ◌∙◌, subst, Bool, true, false, cond, not, ◌&&◌, ◌||◌, ◌==◌, nat_eq, nat_lt, arith, List, [], ◌∷◌, Option, Some, None, Ok}
use Rattle.std.specs.Prelude.{is_some}
use Rattle.std.proofs.lemmas.Bool.{and_parts, and_from, or_parts, eqb-true, eq-eqb}
use Rattle.std.proofs.lemmas.Option.{same_Some}
use Rattle.dr_ids.specs.declared.names.Member.{Member}
use Rattle.dr_ids.specs.declared.refusal.PhaseName.{PhaseName}
use Rattle.dr_ids.specs.declared.refusal.PhaseName.TheVariants as phase
use Rattle.dr_ids.specs.declared.refusal.Refusal.{Refusal}
use Rattle.dr_ids.specs.declared.refusal.Refusal.TheVariants.{OutOfOrder, JournalFull}
use Rattle.dr_ids.specs.declared.refusal.Kind.TheVariants.{Path as OfPath}
use Rattle.dr_ids.specs.declared.refusal.Which.TheVariants.{Groups as TooMany}
use Rattle.dr_logic.specs.Tables.{at}
use Rattle.dr_model.specs.declared.said.Addition.{Addition}
use Rattle.dr_model.specs.declared.said.Addition.TheVariants.{InPhase}
use Rattle.dr_model.specs.declared.said.Said.{Said}
use Rattle.dr_model.specs.declared.said.Said.TheVariants.{Done}
use Rattle.dr_model.specs.declared.step.Step.TheVariants.{Run}
use Rattle.dr_model.specs.Limits.{most_groups}
use Rattle.dr_model.specs.Refusals.{server_off, unknown, over}
use Rattle.dr_model.specs.Phases as phases
use Rattle.dr_model.specs.Layout.{Fields}
use Rattle.dr_model.specs.Control.{Control, Fuse, Volume, World}
use Rattle.dr_model.specs.Relations.{committed as committed_fields}
use Rattle.dr_model.specs.Moves.{Move, Commit, Finish, target, moved}
use Rattle.dr_model.specs.Carry.{Act, Make, Pass, Do, Entry, Outcome, carry, go, continue}
use Rattle.dr_model.specs.Entries.{fields_at, is_running}
use Rattle.dr_model.specs.PairEntries.{has_path, reach_refusal, send_refusal}
use Rattle.dr_model.specs.Sessions.{Session, Mirror, session_in, mirror_in, members_in, servers_of, no_master, with_master}
use Rattle.dr_model.specs.SessionEntries.{is_flashed, is_committed, is_past, commit_refusal, commit_on, finish_on, member_entries, members_on, order_entries, reply_after}
use Rattle.dr_model.specs.SessionPlans.{is_idle, exchange_refusal, order_of, exchanged, exchange_done, exchange_on, asking, says_phase, session_phase, mirror_phase}
use Rattle.dr_model.specs.PlanParts.{Plan, none_follow, unless, only_says}
use Rattle.dr_model.specs.Plans.{has_room}
use Rattle.dr_model.specs.Carried.{masters_lost, after_plan}
use Rattle.dr_model.specs.Forming.{Way, stays, ends, goes_on, unless_refused, part, drains, is_draining, ask, next_asked, master_in, phase_of, phase_in, is_committing, is_finishing, has_committed, still_left, turn_by, turn_in, turns, most_turns, form_refusal, form_in, formed, form_answer, form_said}
use Rattle.dr_model.specs.Runs.{Task, after_task, run}
use Rattle.dr_model.specs.Groups.{In, SessionFits}
use Rattle.dr_model.specs.Attempts.{roles, seen}
use Rattle.dr_model.specs.NewestGroup.{NewestGroup}
use Rattle.dr_model.specs.Laws.{Sound}
use Rattle.dr_facts.proofs.Lists.{from-filter, to-filter, to-map}
use Rattle.dr_facts.proofs.Tables.{at_cases}
use Rattle.dr_facts.proofs.Refusals.{none-both, passed}
use Rattle.dr_laws_sessions.proofs.Changes.{session-found, same-session, changed-found}
use Rattle.dr_laws_sessions.proofs.Owed.{server-member}
use Rattle.dr_laws_attempts.proofs.Facts.{shown-plain}
use Rattle.dr_laws_targets.proofs.Places.{committed-found}
use Rattle.dr_laws_targets.specs.Committeds.{committeds}
use Rattle.dr_laws_targets.specs.Counted.{MemberHas}
use Rattle.dr_laws_targets.proofs.Places.{committed-stands}
use Rattle.dr_model.specs.Table.{table}
use Rattle.dr_laws_closed.specs.Closing.{number_kept}
use Rattle.dr_laws_sound.proofs.Turned.{passed-refuse}
use Rattle.dr_laws_sound.specs.Acknowledged.{part_answer, said_in}
use Rattle.dr_laws_sound.proofs.Turns.{done, after_act, act-cases}
use Rattle.dr_laws_sound.proofs.FitsFlash.{as_begun}
use Rattle.dr_laws_sound.proofs.Steps.{sound-run, sound-task}
use Rattle.dr_laws_sound.proofs.Riders.{rides-task}
use Rattle.dr_laws_recovery.specs.Formed.{SaysNewest, RunForms, FormedIsFound}
use Rattle.dr_laws_recovery.proofs.CountedAlong.{Counts, counts-ride, counts-run}
use Rattle.dr_facts.proofs.Sessions.{lost-none}
use Rattle.dr_facts.proofs.Entries.{any_world, any_reason, fine-one, fine-flat}
use Rattle.dr_facts.proofs.SharedEntries.{unless-fine}
use Rattle.dr_laws_recovery.proofs.Went.{Each, each-refuse, carry-keeps, Split, carry-split, Went, part-went, goes-onward}
use Rattle.dr_laws_recovery.proofs.TurnsEnd.{refused-part, Exchanged, Asks, asks-by, turn-done}
use Rattle.dr_model.proofs.CarryLemmas.{carry-none, carry-first}
use Rattle.dr_logic.proofs.Truth.{false_true}
use Rattle.dr_logic.proofs.Options.{none_some}

-- some target of session i is a member's with the number of its last attempt, and not revertible
record LastStands (w : World) (i : ℕ) : Type 0 where
  session : Session
  found : session_in w.control.sessions i ≡ Some session
  member : Member
  here : In member session.members
  is : is_committed session.last (fields_at w.control member.c.0) ≡ true

-- ---- what orders to commit and to finish do

-- moves alone: the sessions stay
abbrev OnlyMoves : (Move → Type 0) → World → Act → Type 0
OnlyMoves Only w (Make m) = Only m
OnlyMoves Only w a = ⊥

abbrev IsCommit : Move → Type 0
IsCommit (Commit v a s n) = Unit {0}
IsCommit m = ⊥

abbrev IsFinish : Move → Type 0
IsFinish (Finish v n) = Unit {0}
IsFinish m = ⊥

module _ (Only : Move → Type 0) where
  sessions-act : (ss : List Session) (w : World) (a : Act) (f : Option Fuse) → OnlyMoves Only w a → w.control.sessions ≡ ss → (after_act w a f).control.sessions ≡ ss
  sessions-act ss w (Make m) f is old = old
  sessions-act ss w a f is old = absurd is

  sessions-stay : (w v : World) (ds : List Entry) → Each (OnlyMoves Only) ds → carry w ds ≡ (v, None) → v.control.sessions ≡ w.control.sessions
  sessions-stay w v ds fine leads = carry-keeps (OnlyMoves Only) (λ u. u.control.sessions ≡ w.control.sessions) (sessions-act w.control.sessions) w v ds fine leads refl

module _ (i n : ℕ) where
  commits-fine : (ms : List Member) → Each (OnlyMoves IsCommit) (order_entries phases.Commit i n ms)
  commits-fine ms = fine-flat any_world (OnlyMoves IsCommit) any_reason (member_entries phases.Commit i n) ms (λ m here.
      each-refuse (OnlyMoves IsCommit) (send_refusal m.a.0 m.b.0) _ (each-refuse (OnlyMoves IsCommit) (commit_refusal m.c.0 n) _
      (fine-one any_world (OnlyMoves IsCommit) any_reason (commit_on i m.a.0 m.c.0 n) (unless-fine any_world (OnlyMoves IsCommit) any_reason (λ k. is_committed n (fields_at k m.c.0)) (Make (Commit m.c.0 m.a.0 i n)) (λ w any. tt)))))

  finishes-fine : (ms : List Member) → Each (OnlyMoves IsFinish) (order_entries phases.Finish i n ms)
  finishes-fine ms = fine-flat any_world (OnlyMoves IsFinish) any_reason (member_entries phases.Finish i n) ms (λ m here.
      fine-one any_world (OnlyMoves IsFinish) any_reason (finish_on m.a.0 n) (unless-fine any_world (OnlyMoves IsFinish) any_reason (λ k. is_past n (fields_at k m.a.0)) (Make (Finish m.a.0 n)) (λ w any. tt)))

-- a target that is committed stays so
module _ (q c : ℕ) where
  abbrev Stands : World → Type 0
  Stands w = is_committed q (fields_at w.control c) ≡ true

  still-committed : (n : ℕ) (f : Fields) → is_committed q f ≡ true → is_committed q (committed_fields n f) ≡ true
  still-committed n f h = let rest = and_parts f.member _ h in and_from (nat_eq f.sequence q) true (and_parts (nat_eq f.sequence q) _ rest.1).0 refl

  stands-at : (w : World) (m : Move) (f : Option Fuse) (y : Volume) → (is_committed q (fields_at w.control (target m)) ≡ true → is_committed q y.fields ≡ true) → (done w m f).control.volume ≡ at w.control.volume (target m) y → Stands w → Stands (done w m f)
  stands-at w m f y keeps is old = subst (λ (t : ℕ → Volume). is_committed q (t c).fields ≡ true) (sym is)
      (at_cases (λ v (z : Volume). is_committed q (fields_at w.control v) ≡ true → is_committed q z.fields ≡ true) w.control.volume (target m) y keeps (λ v ne h. h) c old)

  commit-keeps : (w : World) (a : Act) (f : Option Fuse) → OnlyMoves IsCommit w a → Stands w → Stands (after_act w a f)
  commit-keeps w (Make (Commit v a s n)) f is old = stands-at w (Commit v a s n) f _ (still-committed n (fields_at w.control v)) refl old
  commit-keeps w (Make m) f is old = absurd is
  commit-keeps w a f is old = absurd is

  finish-keeps : (w : World) (a : Act) (f : Option Fuse) → OnlyMoves IsFinish w a → Stands w → Stands (after_act w a f)
  finish-keeps w (Make (Finish v n)) f is old = stands-at w (Finish v n) f _ (λ h. h) refl old
  finish-keeps w (Make m) f is old = absurd is
  finish-keeps w a f is old = absurd is

-- why a secondary can be reached
reached-runs : (k : Control) (a b : ℕ) → send_refusal a b k ≡ None → is_running b k ≡ true
reached-runs k a b none =
    let reach = (none-both (reach_refusal a b k) _ none).0 in
    (passed (is_running b k) (server_off (k.volume b).server) _ (passed (has_path a b k) (unknown OfPath) _ reach).1).0

-- the first member of an order to commit is committed
module _ (i n : ℕ) (m : Member) (ms : List Member) (w v : World) (together : (w.control.volume m.c.0).server ≡ (w.control.volume m.b.0).server) (leads : carry w (order_entries phases.Commit i n (m ∷ ms)) ≡ (v, None)) where
  abbrev act : Move
  act = Commit m.c.0 m.a.0 i n

  committed-now : (f : Option Fuse) → is_flashed n (fields_at w.control m.c.0) ≡ true → Stands n m.c.0 (done w act f)
  committed-now f flashed =
      at_cases (λ u (z : Volume). u ≡ m.c.0 → is_committed n z.fields ≡ true) w.control.volume m.c.0 (moved (w.control.volume m.c.0) (committed_fields n (fields_at w.control m.c.0)) None)
      (λ e. and_from (nat_eq (fields_at w.control m.c.0).sequence n) true (and_parts (fields_at w.control m.c.0).revertible _ flashed).1 refl) (λ u ne e. absurd (ne e)) m.c.0 refl

  commit-done : (u : World) → is_running m.b.0 w.control ≡ true → is_flashed n (fields_at w.control m.c.0) ≡ true → go w (Do (Make act)) (λ x. carry x []) ≡ (u, None) → Stands n m.c.0 u
  commit-done u runs flashed h =
      act-cases w (Make act) (λ r. continue r.0 r.1 (λ x. carry x []) ≡ (u, None) → Stands n m.c.0 u)
      (λ d off h. false_true off (ap w.control.on together ∙ runs))
      (λ f h. subst (Stands n m.c.0) (ap (λ (o : Outcome). o.0) (sym (carry-none (done w act f)) ∙ h)) (committed-now f flashed))
      (λ f h. none_some (ap (λ (o : Outcome). o.1) h) refl) (λ d f h. none_some (ap (λ (o : Outcome). o.1) h) refl) h

  first-committed : Stands n m.c.0 v
  first-committed =
      let s : Split w v (member_entries phases.Commit i n m) (order_entries phases.Commit i n ms) = carry-split w v (member_entries phases.Commit i n m) (order_entries phases.Commit i n ms) leads in
      let sends = passed-refuse w s.middle (send_refusal m.a.0 m.b.0) _ s.first in
      let may = passed-refuse w s.middle (commit_refusal m.c.0 n) _ sends.1 in
      carry-keeps (OnlyMoves IsCommit) (Stands n m.c.0) (commit-keeps n m.c.0) s.middle v (order_entries phases.Commit i n ms) (commits-fine i n ms) s.rest
      (by s.middle (reached-runs w.control m.a.0 m.b.0 sends.0) (is_committed n (fields_at w.control m.c.0)) refl may.0 (sym (carry-first w (commit_on i m.a.0 m.c.0 n) [] _ refl) ∙ may.1))
    where
      flashed : (c r : Bool) (o : Refusal) → cond (c || r) None (Some o) ≡ None → c ≡ false → r ≡ true
      flashed true r o h e = absurd cc
      flashed false true o h e = refl
      flashed false false o h e = absurd cc

      by : (u : World) → is_running m.b.0 w.control ≡ true → (b : Bool) → is_committed n (fields_at w.control m.c.0) ≡ b → commit_refusal m.c.0 n w.control ≡ None
          → go w (cond (is_committed n (fields_at w.control m.c.0)) Pass (Do (Make act))) (λ x. carry x []) ≡ (u, None) → Stands n m.c.0 u
      by u runs true is may h = subst (Stands n m.c.0) (ap (λ (o : Outcome). o.0) (sym (carry-none w) ∙ (sym (ap (λ b. go w (cond b Pass (Do (Make act))) (λ x. carry x [])) is) ∙ h))) is
      by u runs false is may h = commit-done u runs (flashed (is_committed n (fields_at w.control m.c.0)) (is_flashed n (fields_at w.control m.c.0)) _ may is) (sym (ap (λ b. go w (cond b Pass (Do (Make act))) (λ x. carry x [])) is) ∙ h)

-- ---- an exchange that wasn't refused

-- a server carried out an order
record Worked (w : World) (i server : ℕ) (x : Session) (r : Mirror) (work : phases.Work) (u : World) : Type 0 where
  v : World
  leads : carry (as_begun w) (order_entries work i r.master.number (members_on server x.members)) ≡ (v, None)
  is : u ≡ record v { control = exchanged i server true work (members_on server x.members) v.control }
  owed : phases.is_among server r.master.owed ≡ true

-- the order of a phase
order-in : (work : phases.Work) (p : PhaseName) (b : Bool) (n : ℕ) → is_idle p ≡ false → phases.work_in p ≡ Some work → ((n : ℕ) → phases.numbered work n ≡ record { work = work; number = n })
    → (o : phases.Order) → cond (is_idle p) (Some (record { work = phases.Hold; number = n + 1 })) (phases.order_if b (phases.work_in p) n) ≡ Some o → (record { work = work; number = n } ≡ o) × (b ≡ true)
order-in work p b n busy does plain o is = by b (sym (ap (λ c. cond c (Some (record { work = phases.Hold; number = n + 1 })) (phases.order_if b (phases.work_in p) n)) busy ∙ ap (λ w. phases.order_if b w n) does) ∙ is)
  where
    by : (b : Bool) → phases.order_if b (Some work) n ≡ Some o → (record { work = work; number = n } ≡ o) × (b ≡ true)
    by true h = (sym (plain n) ∙ same_Some _ _ h, refl)
    by false h = absurd cc

module _ (w : World) (i server : ℕ) (x : Session) (r : Mirror) (found : session_in w.control.sessions i ≡ Some x) (mirror : x.mirror ≡ Some r) (work : phases.Work) (busy : is_idle r.master.phase ≡ false)
    (does : phases.work_in r.master.phase ≡ Some work) (plain : (n : ℕ) → phases.numbered work n ≡ record { work = work; number = n }) where
  abbrev ms : List Member
  ms = members_on server x.members

  worked-by : (why : Option Refusal) (order : Option phases.Order) → order_of r server ≡ order → let p : Plan = unless why (exchange_done i server true ms order) in (part w p).refusal ≡ None → Worked w i server x r work (part w p).world
  worked-by (Some q) order ordered none = refused-part w q none
  worked-by None None ordered none = refused-part w (OutOfOrder phase.None) none
  worked-by None (Some o) ordered none =
      let e = order-in work r.master.phase (phases.is_among server r.master.owed) r.master.number busy does plain o ordered in
      let here : Went w (order_entries o.work i o.number ms) none_follow (exchanged i server true o.work ms) (says_phase i) (λ k. refl) (part w (exchange_done i server true ms (Some o))).world =
      part-went w (order_entries o.work i o.number ms) none_follow (exchanged i server true o.work ms) (says_phase i) (λ k. refl) none in
      record {
        v = here.led;
        leads = ap (λ (o : phases.Order). carry (as_begun w) (order_entries o.work i o.number ms)) e.0 ∙ here.leads;
        is = here.is ∙ ap (λ (o : phases.Order). record here.led { control = exchanged i server true o.work ms here.led.control }) (sym e.0);
        owed = e.1;
      }

  worked : (part w (asking w.control i server true)).refusal ≡ None → Worked w i server x r work (part w (asking w.control i server true)).world
  worked none =
      let is : asking w.control i server true ≡ unless (exchange_refusal w.control r server x.members) (exchange_done i server true ms (order_of r server)) =
      ap (λ q. exchange_on w.control i (mirror_in q) server true (members_in q)) found ∙ ap (λ q. exchange_on w.control i q server true x.members) mirror in
      subst (λ (p : Plan). Worked w i server x r work (part w p).world) (sym is) (worked-by (exchange_refusal w.control r server x.members) (order_of r server) refl (sym (ap (λ (p : Plan). (part w p).refusal) is) ∙ none))

-- what the session has become
module _ (w : World) (i server : ℕ) (x : Session) (r : Mirror) (found : session_in w.control.sessions i ≡ Some x) (work : phases.Work) (Only : Move → Type 0) where
  answered-stands : (u : World) → (d : Worked w i server x r work u) → Each (OnlyMoves Only) (order_entries work i r.master.number (members_on server x.members)) → (m : Member) → In m x.members → is_committed x.last (fields_at d.v.control m.c.0) ≡ true → LastStands u i
  answered-stands u d fine m here is =
      subst (λ u. LastStands u i) (sym d.is) (record {
        session = with_master (λ q. phases.taken q server (reply_after i work (members_on server x.members) d.v.control)) x;
        found = changed-found i (with_master (λ q. phases.taken q server (reply_after i work (members_on server x.members) d.v.control))) d.v.control.sessions x (λ z. refl)
            (ap (λ ss. session_in ss i) (sessions-stay Only (as_begun w) d.v (order_entries work i r.master.number (members_on server x.members)) fine d.leads) ∙ found);
        member = m;
        here = here;
        is = is;
      })

-- where targets are committed, one is; and where the attempt finishes, it stays
module _ (w : World) (s : Sound w) (i server : ℕ) (x : Session) (r : Mirror) (found : session_in w.control.sessions i ≡ Some x) (mirror : x.mirror ≡ Some r) where
  fits : SessionFits w.control x
  fits = s.groups.each x (session-found w.control.sessions i x found).0

  commit-stands : r.master.phase ≡ phase.Committing → (part w (asking w.control i server true)).refusal ≡ None → LastStands (part w (asking w.control i server true)).world i
  commit-stands committing none = by (members_on server x.members) refl (some-here (server-member x.members server among))
    where
      d : Worked w i server x r phases.Commit (part w (asking w.control i server true)).world
      d = worked w i server x r found mirror phases.Commit (ap is_idle committing) (ap phases.work_in committing) (λ n. refl) none

      among : phases.is_among server (servers_of x.members) ≡ true
      among = ap (phases.is_among server) (sym (fits.sound.servers r mirror)) ∙ (fits.owes r mirror).among server d.owed

      some-here : (m : Member) × (In m x.members × (m.server.0 ≡ server)) → (m : Member) × In m (members_on server x.members)
      some-here one = (one.0, to-filter (λ (m : Member). m.server.0 == server) x.members one.0 one.1.0 (eq-eqb one.0.server.0 server one.1.1))

      last : r.master.number ≡ x.last
      last = fits.sound.number r mirror

      by : (ms : List Member) → members_on server x.members ≡ ms → (m : Member) × In m (members_on server x.members) → LastStands (part w (asking w.control i server true)).world i
      by [] is one = absurd (subst (In one.0) is one.1)
      by (m ∷ ms) is one =
          let here : In m x.members = (from-filter (λ (m : Member). m.server.0 == server) x.members m (subst (In m) (sym is) (inl refl))).0 in
          answered-stands w i server x r found phases.Commit IsCommit _ d (commits-fine i r.master.number (members_on server x.members)) m here
          (ap (λ n. is_committed n (fields_at d.v.control m.c.0)) (sym last) ∙ first-committed i r.master.number m ms (as_begun w) d.v (fits.stands m here).target_server (ap (λ ms. carry (as_begun w) (order_entries phases.Commit i r.master.number ms)) (sym is) ∙ d.leads))

  finish-stands : r.master.phase ≡ phase.Finishing → LastStands w i → (part w (asking w.control i server true)).refusal ≡ None → LastStands (part w (asking w.control i server true)).world i
  finish-stands finishing old none =
      let d : Worked w i server x r phases.Finish (part w (asking w.control i server true)).world = worked w i server x r found mirror phases.Finish (ap is_idle finishing) (ap phases.work_in finishing) (λ n. refl) none in
      let same : old.session ≡ x = same_Some _ _ (sym old.found ∙ found) in
      answered-stands w i server x r found phases.Finish IsFinish _ d (finishes-fine i r.master.number (members_on server x.members)) old.member (subst (λ (x : Session). In old.member x.members) same old.here)
      (carry-keeps (OnlyMoves IsFinish) (Stands x.last old.member.c.0) (finish-keeps x.last old.member.c.0) (as_begun w) d.v _ (finishes-fine i r.master.number (members_on server x.members)) d.leads
      (subst (λ (x : Session). is_committed x.last (fields_at w.control old.member.c.0) ≡ true) same old.is))

-- ---- turns

-- the line came to its end
record HasFormed (u : World) (i : ℕ) : Type 0 where
  idle : phase_in u.control i ≡ phase.Idle
  stands : LastStands u i

plain-ask : (w : World) (i : ℕ) (p : PhaseName) (ms : List Member) (server : ℕ) → is_draining p ≡ false → ask w i p ms server ≡ goes_on [] w None (λ v. part v (asking v.control i server true))
plain-ask w i p ms server dry =
    ap (λ b. let x : Way = cond b (drains w (members_on server ms)) (stays w) in goes_on x.parts x.world x.refusal (λ v. part v (asking v.control i server true))) dry

-- a turn in which targets are committed, or an attempt finishes
turn-stands : (w : World) (s : Sound w) (i server : ℕ) (r : Mirror) (ms : List Member) → master_in w.control i ≡ Some r → is_draining r.master.phase ≡ false
    → ((x : Session) → session_in w.control.sessions i ≡ Some x → x.mirror ≡ Some r → (part w (asking w.control i server true)).refusal ≡ None → LastStands (part w (asking w.control i server true)).world i)
    → (ask w i r.master.phase ms server).refusal ≡ None → LastStands (ask w i r.master.phase ms server).world i
turn-stands w s i server r ms has dry each none =
    let a : Asks w.control i r = asks-by w.control i r has in
    let is = plain-ask w i r.master.phase ms server dry in
    subst (λ (x : Way). LastStands x.world i) (sym is) (each a.session a.found a.mirror (sym (ap (λ (x : Way). x.refusal) is) ∙ none))

-- where an attempt counts so far, its master is in Finishing
abbrev Counting : World → ℕ → Bool → Type 0
Counting w i c = c ≡ true → (phase_in w.control i ≡ phase.Finishing) × LastStands w i

finishing-is : (p : PhaseName) → is_finishing p ≡ true → p ≡ phase.Finishing
finishing-is phase.Finishing h = refl
finishing-is p h = absurd cc

committing-is : (p : PhaseName) → is_committing p ≡ true → p ≡ phase.Committing
committing-is phase.Committing h = refl
committing-is p h = absurd cc

idle-is : (p : PhaseName) → is_idle p ≡ true → p ≡ phase.Idle
idle-is phase.Idle h = refl
idle-is p h = absurd cc

-- what the turn leaves
module _ (w : World) (s : Sound w) (i server : ℕ) (r : Mirror) (has : master_in w.control i ≡ Some r) (c : Bool) (counting : Counting w i c) where
  abbrev turned : Way
  turned = ask w i r.master.phase (members_in (session_in w.control.sessions i)) server

  phase-is : phase_in w.control i ≡ r.master.phase
  phase-is = ap phase_of has

  keeps-standing : c ≡ true → turned.refusal ≡ None → LastStands turned.world i
  keeps-standing counts none =
      let old = counting counts in
      let finishing : r.master.phase ≡ phase.Finishing = sym phase-is ∙ old.0 in
      turn-stands w s i server r (members_in (session_in w.control.sessions i)) has (ap is_draining finishing) (λ x found mirror n. finish-stands w s i server x r found mirror finishing old.1 n) none

  begins-standing : r.master.phase ≡ phase.Committing → turned.refusal ≡ None → LastStands turned.world i
  begins-standing committing none = turn-stands w s i server r (members_in (session_in w.control.sessions i)) has (ap is_draining committing) (λ x found mirror n. commit-stands w s i server x r found mirror committing n) none

  counting-on : turned.refusal ≡ None → Counting turned.world i (has_committed c r.master.phase (phase_in turned.world.control i))
  counting-on none counts =
      let both = and_parts (is_finishing (phase_in turned.world.control i)) (c || is_committing r.master.phase) counts in
      (finishing-is (phase_in turned.world.control i) both.0, by c refl both.1)
    where
      by : (b : Bool) → c ≡ b → (b || is_committing r.master.phase) ≡ true → LastStands turned.world i
      by true is h = keeps-standing is none
      by false is h = begins-standing (committing-is r.master.phase h) none

  -- and where none is left to count, the last one did
  last-turn : (left : ℕ) → nat_eq left 0 ≡ false → nat_eq (still_left c (phase_in turned.world.control i) left) 0 ≡ true → turned.refusal ≡ None → HasFormed turned.world i
  last-turn left some none_left none = by (c && is_idle (phase_in turned.world.control i)) refl none_left
    where
      by : (b : Bool) → (c && is_idle (phase_in turned.world.control i)) ≡ b → nat_eq (cond b (left - 1) left) 0 ≡ true → HasFormed turned.world i
      by true is h = let both = and_parts c _ is in record { idle = idle-is (phase_in turned.world.control i) both.1; stands = keeps-standing both.0 none }
      by false is h = false_true some h

turns-none : (bound : ℕ) (w : World) (i left : ℕ) (c : Bool) → nat_eq left 0 ≡ true → turns bound w i left c ≡ stays w
unfolding turns
turns-none zero w i left c none = ap (λ b. cond b (stays w) (ends w (OutOfOrder (phase_in w.control i)))) none
turns-none (suc bound) w i left c none = ap (λ b. cond b (stays w) (turn_in w i (λ v. turns bound v i (still_left c (phase_in v.control i) left) (has_committed c (phase_in w.control i) (phase_in v.control i))))) none

abbrev Forms : ℕ → Way → Type 0
Forms i x = x.refusal ≡ None → HasFormed x.world i

turns-form : (bound : ℕ) (w : World) (i left : ℕ) (c : Bool) → Sound w → Counting w i c → nat_eq left 0 ≡ false → Forms i (turns bound w i left c)
unfolding turns
turns-form zero w i left c s counting some = subst (λ b. Forms i (cond b (stays w) (ends w (OutOfOrder (phase_in w.control i))))) (sym some) (λ h. none_some h refl)
turns-form (suc bound) w i left c s counting some = subst (λ b. Forms i (cond b (stays w) (turn_in w i next))) (sym some) (by (λ v l d sound count more. turns-form bound v i l d sound count more) (master_in w.control i) refl)
  where
    next : World → Way
    next v = turns bound v i (still_left c (phase_in v.control i) left) (has_committed c (phase_in w.control i) (phase_in v.control i))

    ms : List Member
    ms = members_in (session_in w.control.sessions i)

    Again : Type 0
    Again = (v : World) (l : ℕ) (d : Bool) → Sound v → Counting v i d → nat_eq l 0 ≡ false → Forms i (turns bound v i l d)

    on : Again → (r : Mirror) → master_in w.control i ≡ Some r → (server : ℕ) → Forms i (turn_by w i r.master.phase ms (Some server) next)
    on again r has server none =
        let x : Way = ask w i r.master.phase ms server in
        let o = goes-onward x.parts x.world x.refusal next none in
        let e : Exchanged w i server r x.world = turn-done w s i server r has o.first in
        subst (λ u. HasFormed u i) (sym o.world) (rest x.world e.sound o.first o.rest (nat_eq (still_left c (phase_in x.world.control i) left) 0) refl)
      where
        rest : (u : World) → Sound u → (ask w i r.master.phase ms server).refusal ≡ None → (next (ask w i r.master.phase ms server).world).refusal ≡ None → (b : Bool) → nat_eq (still_left c (phase_in (ask w i r.master.phase ms server).world.control i) left) 0 ≡ b → HasFormed (next (ask w i r.master.phase ms server).world).world i
        rest u sound first more true is =
            subst (λ (y : Way). HasFormed y.world i) (sym (turns-none bound (ask w i r.master.phase ms server).world i _ _ is)) (last-turn w s i server r has c counting left some is first)
        rest u sound first more false is =
            again (ask w i r.master.phase ms server).world _ _ (turn-done w s i server r has first).sound
            (subst (λ p. Counting (ask w i r.master.phase ms server).world i (has_committed c p (phase_in (ask w i r.master.phase ms server).world.control i))) (sym (ap phase_of has)) (counting-on w s i server r has c counting first)) is more

    asks : Again → (r : Mirror) → master_in w.control i ≡ Some r → (o : Option ℕ) → Forms i (turn_by w i r.master.phase ms o next)
    asks again r has None = λ h. none_some h refl
    asks again r has (Some server) = on again r has server

    by : Again → (o : Option Mirror) → master_in w.control i ≡ o → Forms i (turn_by w i (phase_of o) ms (next_asked o) next)
    by again None has = λ h. none_some h refl
    by again (Some r) has = asks again r has (next_asked (Some r))

way-forms : (w : World) (i n : ℕ) → Sound w → Forms i (formed w i n)
way-forms w i n s = room (has_room w.events)
  where
    some-left : (r : Option Mirror) → form_refusal n r ≡ None → nat_eq n 0 ≡ false
    some-left r h = by (nat_eq n 0 || nat_lt most_groups n) refl h
      where
        by : (b : Bool) → (nat_eq n 0 || nat_lt most_groups n) ≡ b → cond b (Some (over TooMany)) (cond (is_some r) None no_master) ≡ None → nat_eq n 0 ≡ false
        by true is h = absurd cc
        by false is h = (or_parts (nat_eq n 0) _ is).0

    of : (x : Session) (o : Option Refusal) → form_refusal n x.mirror ≡ o → Forms i (unless_refused o w (turns (most_turns n) w i n false))
    of x None is = turns-form (most_turns n) w i n false s (λ h. absurd cc) (some-left x.mirror is)
    of x (Some r) is = λ h. none_some h refl

    by : (o : Option Session) → Forms i (form_in w i n o)
    by None = λ h. none_some h refl
    by (Some x) = of x (form_refusal n x.mirror) refl

    room : (b : Bool) → Forms i (cond b (form_in w i n (session_in w.control.sessions i)) (ends w JournalFull))
    room true = by (session_in w.control.sessions i)
    room false = λ h. none_some h refl

-- ---- the answer

-- what stands committed with the last number is the newest group
newest-stands : (w : World) → Sound w → Counts w → (i : ℕ) → (l : LastStands w i) → NewestGroup w.events i l.session.last
newest-stands w s k i l = subst (λ i. NewestGroup w.events i x.last) there.1 (record {
  primary = l.member.a.0;
  committed = committed-found x.number x.last l.member.a.0 w.events
      (subst (λ n. committeds w.events x.number n l.member.a.0 ≡ true) number (k.1.numbers x l.member there.0 l.here flag.0));
  greatest = λ j a c. low j a (k.1.committed x.number j a (committed-stands x.number j a w.events c));
})
  where
    x : Session
    x = l.session

    there : In x w.control.sessions × (x.number ≡ i)
    there = session-found w.control.sessions i x l.found

    f : Fields
    f = fields_at w.control l.member.c.0

    flag : (f.member ≡ true) × ((nat_eq f.sequence x.last && not f.revertible) ≡ true)
    flag = and_parts f.member _ l.is

    plain : f.revertible ≡ false
    plain = by f.revertible (and_parts (nat_eq f.sequence x.last) _ flag.1).1
      where
        by : (b : Bool) → not b ≡ true → b ≡ false
        by true h = absurd cc
        by false h = refl

    number : number_kept f ≡ x.last
    number = shown-plain (seen (roles w.control) l.member) plain ∙ eqb-true f.sequence x.last (and_parts (nat_eq f.sequence x.last) _ flag.1).0

    low : (j a : ℕ) → MemberHas w.control.sessions (table w) x.number j a → j ≤ x.last
    low j a h =
        let same : h.session ≡ x = same-session w.control.sessions h.session x s.groups.once h.listed there.0 h.number in
        let each = (s.attempts.sessions h.session h.listed).numbers.each (seen (roles w.control) h.member) (to-map (seen (roles w.control)) h.session.members h.member h.here) in
        let reached = each.reached h.flag in
        let floor = each.floor in
        let more = h.reached in
        let top : h.session.last ≡ x.last = ap (λ (x : Session). x.last) same in
        omega (arith, reached, floor, more, top)

only-said : (w : World) (a : Said) → part_answer (record { world = w; plan = only_says a }) ≡ a
unfolding carry
only-said w a = refl

-- the session as the step ends
ends-stands : (w : World) (line : ℕ) (a : Said) (i : ℕ) → LastStands w i → LastStands (masters_lost w (after_plan w line (only_says a))) i
unfolding after_plan carry
ends-stands w line a i l = record { session = l.session; found = ap (λ ss. session_in ss i) (lost-none w.control.on w.control.sessions) ∙ l.found; member = l.member; here = l.here; is = l.is }

pub forms-task : (w : World) (t : Task) → Sound w → Counts w → RunForms w t
unfolding ends-stands
forms-task w t sound k = record { formed = λ s n answer asked is. subst (λ a. said_in w (record { line = t.line; asked = a; listed = t.listed }) ≡ Done answer → SaysNewest (after_task w (record { line = t.line; asked = a; listed = t.listed })) s answer) (sym asked) (forms s n answer) is }
  where
    forms : (s n : ℕ) (a : Addition) → said_in w (record { line = t.line; asked = Ok (Run s n); listed = t.listed }) ≡ Done a → SaysNewest (after_task w (record { line = t.line; asked = Ok (Run s n); listed = t.listed })) s a
    forms s n a is = by (formed w s n).refusal refl (sym (only-said (formed w s n).world (form_said s (formed w s n).world.control (formed w s n).refusal)) ∙ is)
      where
        u : World
        u = after_task w (record { line = t.line; asked = Ok (Run s n); listed = t.listed })

        of : (y : Session) → y.number ≡ s → (m : Option Mirror) → y.mirror ≡ m → phase_of m ≡ phase.Idle → ((r : Mirror) → m ≡ Some r → r.master.number ≡ y.last) → NewestGroup u.events s y.last → mirror_phase m ≡ Done a → SaysNewest u s a
        of y number None mirror idle last newest says = absurd cc
        of y number (Some r) mirror idle last newest says = record {
          number = y.last;
          is = sym (same says) ∙ (λ j. InPhase (idle j) (last r refl j));
          newest = newest;
        }
          where
            same : {b : Addition} → Done b ≡ Done a → b ≡ a
            same h = cc

        by : (o : Option Refusal) → (formed w s n).refusal ≡ o → form_answer s (formed w s n).world.control.sessions o ≡ Done a → SaysNewest u s a
        by (Some r) e says = absurd cc
        by None e says =
            let v : World = (formed w s n).world in
            let h : HasFormed v s = way-forms w s n sound e in
            let y : Session = h.stands.session in
            let l : LastStands u s = ends-stands v t.line (form_said s v.control (formed w s n).refusal) s h.stands in
            let sound_u : Sound u = sound-task w (record { line = t.line; asked = Ok (Run s n); listed = t.listed }) sound in
            let counts_u : Counts u = rides-task Counts counts-ride w (record { line = t.line; asked = Ok (Run s n); listed = t.listed }) sound k in
            let there = session-found u.control.sessions s l.session l.found in
            of y there.1 y.mirror refl (ap phase_of (sym (ap mirror_in h.stands.found)) ∙ h.idle) (λ r m. (sound_u.groups.each l.session there.0).sound.number r m)
            (newest-stands u sound_u counts_u s l) (sym (ap session_phase h.stands.found) ∙ says)

pub formed-run : (tasks : List Task) → FormedIsFound tasks
formed-run tasks before behind t is = forms-task (run before) t (sound-run before) (counts-run before)
