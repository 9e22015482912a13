-- An order over the members of a server, one after another: each of its moves may come. That is so of one that a master owes, and of one
-- that came by a message, also of an older attempt's: it finds nothing to do, or is refused.
use Rattle.std.proofs.Common.{ℕ, ◌≡◌, ◌≢◌, ◌<◌, ◌≤◌, ◌+◌, ◌⊎◌, inl, inr, refl, ap, sym, ◌∙◌, subst, Bool, true, false, cond, not, ◌&&◌, nat_eq, nat_lt, arith, List, [], ◌∷◌, ◌++◌, Option, Some, None, option_map}
use Rattle.std.specs.List.{flat_map}
use Rattle.std.proofs.lemmas.Bool.{and_parts, eq-eqb, eqb-true, or_right}
use Rattle.std.proofs.lemmas.Bool.Decides.{eqb_tells}
use Rattle.std.proofs.lemmas.Option.{same_Some}
use Rattle.dr_ids.specs.declared.names.Member.{Member}
use Rattle.dr_ids.specs.declared.refusal.PhaseName.TheVariants as phase
use Rattle.dr_ids.specs.declared.refusal.Refusal.{Refusal}
use Rattle.dr_ids.specs.declared.refusal.Refusal.TheVariants.{Void}
use Rattle.dr_model.specs.declared.state.Part.TheVariants.{Global}
use Rattle.dr_model.specs.Layout.{Fields, is_part}
use Rattle.dr_model.specs.Phases as phases
use Rattle.dr_model.specs.Sessions.{Session, Mirror, session_in, begun}
use Rattle.dr_model.specs.Control.{Control, Fuse, World}
use Rattle.dr_model.specs.Pairs.{is_kind, is_primary_of, primary_of, records, held_for}
use Rattle.dr_model.specs.Moves.{Move, Hold, Free, Seal, Flash, Commit, Revert, RaiseFloor, Finish}
use Rattle.dr_model.specs.Carry.{Make, OpenAttempt, Pass, Do, Entry}
use Rattle.dr_model.specs.Entries.{fields_at, is_at, pair_state, secondary_state}
use Rattle.dr_model.specs.PairEntries.{reach_refusal, send_refusal, belongs_to, end_if, refuse_if}
use Rattle.dr_model.specs.SessionEntries.{last_of, may_hold, hold_refusal, stale_refusal, hold_on, void_refusal, free_on, is_drained, seal_refusal, seal_on, is_flashed, flash_refusal, flash_on, is_committed, commit_refusal, commit_on, revert_on, is_past, finish_on, member_entries, members_on, order_entries}
use Rattle.dr_model.specs.Groups.{In, MemberStands, Due}
use Rattle.dr_model.specs.Attempts.{roles, seen, seen_in, phase_of, AllHeld, AttemptOf, WorkDone, IsDone, FlashesMember}
use Rattle.dr_model.specs.Flights.{FlightOf}
use Rattle.dr_model.specs.Table.{table}
use Rattle.dr_model.specs.Laws.{Sound, fields, source, its_secondary}
use Rattle.dr_model.specs.Allowed.{Runs, May, MayHold, MayFlash, MayTurn}
use Rattle.dr_laws_sessions.specs.Frames.{Moves, ServerSilent, SilentBut, Begins, HoldsOn, Holding}
use Rattle.dr_facts.proofs.Lists.{to-map}
use Rattle.dr_facts.proofs.Tables.{IsOrNot}
use Rattle.dr_laws_sessions.proofs.Changes.{session-found, changed-found}
use Rattle.dr_laws_sessions.proofs.Volumes.{idle-quiet}
use Rattle.dr_laws_sessions.proofs.Silent.{quiet-silent, member-records, member-silent, partner-is, on-members, silent-begins, silent-ends}
use Rattle.dr_laws_sessions.proofs.Orders.{holding-comes, holding-opens, holding-next, holding-stays, holding-begun, silent-passes, silent-finishes}
use Rattle.dr_laws_attempts.specs.Orders.{DoneBut, LeavesTargetsAlone}
use Rattle.dr_laws_attempts.proofs.Tables.{quiet-unflashed}
use Rattle.dr_laws_attempts.proofs.Moves.{flashable}
use Rattle.dr_laws_attempts.proofs.Orders.{newer, flash-passed, commit-passed, order-holds, order-frees, order-seals, order-flashes, order-commits, order-reverts, order-raises, order-finishes as member-finishes, unflashed-plain, done-begins, done-passes, done-ends, done-calm, done-held, done-holds, done-past, done-finishes, done-flashes, done-commits, done-reverts, done-raises, done-flashed, done-committed, done-reverted}
use Rattle.dr_laws_messages.proofs.Losses.{past-less}
use Rattle.dr_laws_sound.proofs.Turns.{carried_in, done, after_act}
use Rattle.dr_laws_sound.proofs.RowsAfter.{idle}
use Rattle.dr_laws_sound.proofs.KeepsSound.{MayDo, Then}
use Rattle.dr_laws_sound.proofs.FitsFlash.{as_begun, sound-begun}
use Rattle.dr_laws_sound.proofs.FitsPairs.{reached, its-first, its-second}
use Rattle.dr_laws_sound.proofs.CopyFirst.{unturned}
use Rattle.dr_laws_sound.proofs.Along as along
use Rattle.dr_logic.proofs.Choices.{choose_some}
use Rattle.dr_facts.proofs.Tracks.{bare-has}
use Rattle.dr_facts.proofs.Parts.{global-part}
use Rattle.dr_facts.proofs.Refusals.{none-both, met, chosen}
use Rattle.dr_logic.proofs.Truth.{false_true}

-- where an attempt has begun, its master coordinates
pub begun-coordinates : (x : Session) (r : Mirror) → (begun x).mirror ≡ Some r → r.master.phase ≡ phase.Coordinating
begun-coordinates x r is = by x.mirror is
  where
    by : (o : Option Mirror) → option_map (λ (q : Mirror). record q { master = phases.begun q.master }) o ≡ Some r → r.master.phase ≡ phase.Coordinating
    by None e = absurd cc
    by (Some q) e = ap (λ (r : Mirror). r.master.phase) (sym (same_Some _ _ e))

-- ---- an order over the members of a server

module _ (w : World) (s : Sound w) (i server : ℕ) (x : Session) (o : phases.Order) (found : session_in w.control.sessions i ≡ Some x) (on-server : w.control.on server ≡ true) where
  abbrev n : ℕ
  n = o.number

  abbrev ms : List Member
  ms = members_on server x.members

  abbrev first : World
  first = as_begun w

  -- What is so where the order was carried out to its end. Its session is as it was, or the order's first hold began the attempt; and if
  -- the order is of the session's last attempt, it was done with each member of the server.
  pub record Carried (v : World) : Type 0 where
    pub sound : Sound v
    pub session : Session
    pub there : session_in v.control.sessions i ≡ Some session
    pub among : session.members ≡ x.members
    pub flight : v.control.flight ≡ w.control.flight
    pub came : (session ≡ x) ⊎ ((session ≡ begun x) × ((o.work ≡ phases.Hold) × (n ≡ session.last)))
    pub done : o.work ≢ phases.Report → n ≡ session.last → WorkDone v.control session.members server o.work n
    pub silent : o.work ≡ phases.Finish → n ≡ session.last → ServerSilent v.control session server

  abbrev pub To : World → List Entry → Type 0
  To = along.Along Sound Sound Carried MayDo

  refused : (v : World) (why : Control → Option Refusal) (ds : List Entry) → Sound v → (why v.control ≡ None → To v ds) → To v (refuse_if why ∷ ds)
  refused v why ds sound go = along.along-entry Sound Sound Carried MayDo v (refuse_if why) ds _ refl (by (why v.control) refl)
    where
      by : (o : Option Refusal) → why v.control ≡ o → Then v (end_if o) (λ u. To u ds)
      by None is = go is
      by (Some r) is = sound

  -- one member after another
  loop : (State : World → List Member → Type 0) (each : Member → List Entry)
      → ((v : World) (m : Member) (rest : List Member) (ds : List Entry) → State v (m ∷ rest) → ((u : World) → State u rest → To u ds) → To v (each m ++ ds))
      → ((v : World) → State v [] → Carried v) → (ms : List Member) (v : World) → State v ms → To v (flat_map each ms)
  loop State each step final [] v st = along.along-nil Sound Sound Carried MayDo v (final v st)
  loop State each step final (m ∷ ms) v st = step v m ms (flat_map each ms) st (λ u k. loop State each step final ms u k)

  runs-member : (v : World) (y : Session) (m : Member) → Sound v → session_in v.control.sessions i ≡ Some y → In m y.members → m.server.0 ≡ server → v.control.on server ≡ true → Runs v m.a.0
  runs-member v y m sound found here is on = ap v.control.on (sym ((sound.groups.each y (session-found v.control.sessions i y found).0).stands m here).server ∙ is) ∙ on

  -- ---- orders that leave the sessions

  record Stage (v : World) (rest : List Member) : Type 0 where
    sound : Sound v
    on : v.control.on server ≡ true
    sessions : v.control.sessions ≡ w.control.sessions
    flight : v.control.flight ≡ w.control.flight
    left : (m : Member) → In m rest → In m x.members × (m.server.0 ≡ server)

  found-in : (v : World) (rest : List Member) → Stage v rest → session_in v.control.sessions i ≡ Some x
  found-in v rest st = ap (λ ss. session_in ss i) st.sessions ∙ found

  there-in : (v : World) (rest : List Member) → Stage v rest → In x v.control.sessions × (x.number ≡ i)
  there-in v rest st = session-found v.control.sessions i x (found-in v rest st)

  listed-in : (v : World) (rest : List Member) → Stage v rest → In x v.control.sessions
  listed-in v rest st = (there-in v rest st).0

  own-in : (v : World) (rest : List Member) → Stage v rest → AttemptOf (roles v.control) x
  own-in v rest st = st.sound.attempts.sessions x (listed-in v rest st)

  runs-in : (v : World) (m : Member) (rest : List Member) → Stage v (m ∷ rest) → Runs v m.a.0
  runs-in v m rest st = let here = st.left m (inl refl) in runs-member v x m st.sound (found-in v (m ∷ rest) st) here.0 here.1 st.on

  further : (v : World) (m : Member) (rest : List Member) → Stage v (m ∷ rest) → Stage v rest
  further v m rest st = record { sound = st.sound; on = st.on; sessions = st.sessions; flight = st.flight; left = λ q h. st.left q (inr h) }

  moved : (v : World) (m : Member) (rest : List Member) (a : Move) (f : Option Fuse) → Stage v (m ∷ rest) → Sound (done v a f) → Stage (done v a f) rest
  moved v m rest a f st sound = record { sound = sound; on = st.on; sessions = st.sessions; flight = st.flight; left = λ q h. st.left q (inr h) }

  start : Stage first ms
  start = record { sound = sound-begun w s; on = on-server; sessions = refl; flight = refl; left = on-members server x.members }

  -- a member of the session, as it is seen
  member-of : (v : World) (m : Member) (rest : List Member) → Stage v (m ∷ rest) → In m x.members
  member-of v m rest st = (st.left m (inl refl)).0

  seen-in : (v : World) (m : Member) (rest : List Member) → Stage v (m ∷ rest) → In (seen (roles v.control) m) (seen_in v.control x)
  seen-in v m rest st = to-map (seen (roles v.control)) x.members m (member-of v m rest st)

  -- an order of that work is due for the server
  abbrev pub IsDue : phases.Work → Type 0
  IsDue work = Due w.control.flight x server work n

  due-in : (work : phases.Work) → IsDue work → (v : World) (m : Member) (rest : List Member) → Stage v (m ∷ rest) → Due v.control.flight x m.server.0 work n
  due-in work due v m rest st = subst (λ f. Due f x m.server.0 work n) (sym st.flight) (subst (λ q. Due w.control.flight x q work n) (sym (st.left m (inl refl)).1) due)

  -- the session stays
  carried : (v : World) → Stage v [] → (o.work ≢ phases.Report → n ≡ x.last → WorkDone v.control x.members server o.work n) → (o.work ≡ phases.Finish → n ≡ x.last → ServerSilent v.control x server) → Carried v
  carried v st done silent = record { sound = st.sound; session = x; there = found-in v [] st; among = refl; flight = st.flight; came = inl refl; done = done; silent = silent }

  -- the members of the server are done, or left to do, if it is the last attempt's order
  record Does (work : phases.Work) (v : World) (rest : List Member) : Type 0 where
    stage : Stage v rest
    done : n ≡ x.last → DoneBut v.control x.members server work n rest

  does-begin : (work : phases.Work) → Does work first ms
  does-begin work = record { stage = start; done = λ last. done-begins w.control x.members server work n }

  does-pass : (work : phases.Work) (v : World) (m : Member) (rest : List Member) → Does work v (m ∷ rest) → (n ≡ x.last → IsDone work n (seen (roles v.control) m)) → Does work v rest
  does-pass work v m rest st done = record { stage = further v m rest st.stage; done = λ last. done-passes v.control x.members server work n m rest (st.done last) (done last) }

  does-end : (work : phases.Work) → o.work ≡ work → work ≢ phases.Finish → (v : World) → Does work v [] → Carried v
  does-end work is other v st = carried v st.stage (λ told last. subst (λ work. WorkDone v.control x.members server work n) (sym is) (done-ends v.control x.members server work n (st.done last))) (λ e. absurd (other (sym is ∙ e)))

  -- an order that leaves targets alone
  calm : (work : phases.Work) → o.work ≡ work → LeavesTargetsAlone work → work ≢ phases.Finish → (v : World) → Stage v [] → Carried v
  calm work is still other v st = carried v st (λ told last. subst (λ work. WorkDone v.control x.members server work n) (sym is) (done-calm v.control x.members server work n still)) (λ e. absurd (other (sym is ∙ e)))

  -- who records, records the session's last attempt
  records-last : (v : World) (m : Member) (rest : List Member) → Stage v (m ∷ rest) → (fields_at v.control m.a.0).recording ≡ true → (fields_at v.control m.a.0).attempt ≡ x.last
  records-last v m rest st recording = (member-records v.control x m st.sound.groups (listed-in v (m ∷ rest) st) (member-of v m rest st) recording).last

  last-recorded : (v : World) (m : Member) (rest : List Member) → Stage v (m ∷ rest) → records n (fields_at v.control m.a.0) ≡ true → n ≡ x.last
  last-recorded v m rest st rec =
      let f : Fields = fields_at v.control m.a.0 in
      let both = and_parts f.recording (nat_eq f.attempt n) rec in sym (eqb-true f.attempt n both.1) ∙ records-last v m rest st both.0

  -- and a revertible target has its number
  last-flashed : (v : World) (m : Member) (rest : List Member) → Stage v (m ∷ rest) → is_flashed n (fields_at v.control m.c.0) ≡ true → n ≡ x.last
  last-flashed v m rest st flashed =
      let f : Fields = fields_at v.control m.c.0 in
      let both = and_parts f.revertible (nat_eq f.sequence n) flashed in
      sym (eqb-true f.sequence n both.1) ∙ ((own-in v (m ∷ rest) st).numbers.each (seen (roles v.control) m) (seen-in v m rest st)).last both.0

  -- ---- Release

  frees : IsDue phases.Release → (v : World) (m : Member) (rest : List Member) (ds : List Entry) → Stage v (m ∷ rest) → ((u : World) → Stage u rest → To u ds) → To v (member_entries phases.Release i n m ++ ds)
  frees due v m rest ds st go = refused v (void_refusal m.a.0 n) (free_on m.a.0 ∷ ds) st.sound (λ none. along.along-entry Sound Sound Carried MayDo v (free_on m.a.0) ds _ refl (by (last-recorded v m rest st (met (records n (fields_at v.control m.a.0)) (Void n) none)) (fields_at v.control m.a.0).coordination))
    where
      by : n ≡ x.last → (b : Bool) → Then v (cond b (Do (Make (Free m.a.0))) Pass) (λ u. To u ds)
      by last true = let on = runs-in v m rest st in (
        record { runs = on; allowed = tt; fits = tt; group = order-frees v.control st.sound.groups st.sound.attempts i x (found-in v (m ∷ rest) st) m (member-of v m rest st) (subst (λ k. Due v.control.flight x m.server.0 phases.Release k) last (due-in phases.Release due v m rest st)); ready = idle v m.a.0 st.sound.queue on },
        λ f y. go _ (moved v m rest (Free m.a.0) f st y),
      )
      by last false = go v (further v m rest st)

  -- ---- Seal

  may-seal : IsDue phases.Seal → (v : World) (m : Member) (rest : List Member) → Stage v (m ∷ rest) → void_refusal m.a.0 n v.control ≡ None → send_refusal m.a.0 m.b.0 v.control ≡ None → is_drained m.a.0 v.control ≡ true → May v (Seal m.b.0 m.a.0 i n)
  may-seal due v m rest st void send drained =
      let f : Fields = fields_at v.control m.a.0 in
      let rec : records n f ≡ true = met (records n f) (Void n) void in
      let recording : f.recording ≡ true = (and_parts f.recording (nat_eq f.attempt n) rec).0 in
      let free = none-both (reach_refusal m.a.0 m.b.0 v.control) _ send in
      let on : Runs v m.b.0 = reached v m.a.0 m.b.0 free.0 in
      record {
        runs = on;
        allowed = record {
          sends = choose_some (is_part f.primary) f.primary_partner (global-part f.primary ((st.sound.rows.recorders m.a.0).global recording))
              ∙ ap (λ u. Some u) (partner-is v.control x m st.sound.groups (listed-in v (m ∷ rest) st) (st.left m (inl refl)).0 recording);
          takes = its-first m.a.0 (fields_at v.control m.b.0) (met (belongs_to m.a.0 m.b.0 v.control) (secondary_state v.control m.b.0) free.1);
          records = rec;
          drained = λ t. bare-has f.out_of_sync t drained;
        };
        fits = tt;
        group = order-seals v.control st.sound.groups st.sound.attempts i x (found-in v (m ∷ rest) st) m (member-of v m rest st) n (sym (last-recorded v m rest st rec)) (due-in phases.Seal due v m rest st) rec;
        ready = idle v m.b.0 st.sound.queue on;
      }

  seals : IsDue phases.Seal → (v : World) (m : Member) (rest : List Member) (ds : List Entry) → Stage v (m ∷ rest) → ((u : World) → Stage u rest → To u ds) → To v (member_entries phases.Seal i n m ++ ds)
  seals due v m rest ds st go =
      refused v (void_refusal m.a.0 n) (refuse_if (seal_refusal m.a.0 m.b.0) ∷ seal_on i m.a.0 m.b.0 n ∷ ds) st.sound (λ void.
      refused v (seal_refusal m.a.0 m.b.0) (seal_on i m.a.0 m.b.0 n ∷ ds) st.sound (λ free.
      along.along-entry Sound Sound Carried MayDo v (seal_on i m.a.0 m.b.0 n) ds _ refl (by void free (is_drained m.a.0 v.control && not (nat_eq (fields_at v.control m.b.0).seal n)) refl)))
    where
      by : void_refusal m.a.0 n v.control ≡ None → seal_refusal m.a.0 m.b.0 v.control ≡ None → (b : Bool) → (is_drained m.a.0 v.control && not (nat_eq (fields_at v.control m.b.0).seal n)) ≡ b → Then v (cond b (Do (Make (Seal m.b.0 m.a.0 i n))) Pass) (λ u. To u ds)
      by void free true is =
          let drained = (and_parts (is_drained m.a.0 v.control) _ is).0 in
          (may-seal due v m rest st void (chosen (is_drained m.a.0 v.control) (send_refusal m.a.0 m.b.0 v.control) None drained free) drained, λ f y. go _ (moved v m rest (Seal m.b.0 m.a.0 i n) f st y))
      by void free false is = go v (further v m rest st)

  -- ---- Finish

  record Finishes (v : World) (rest : List Member) : Type 0 where
    does : Does phases.Finish v rest
    silent : n ≡ x.last → SilentBut v.control x server rest

  finishes-begin : Finishes first ms
  finishes-begin = record { does = does-begin phases.Finish; silent = λ last. silent-begins w.control x server }

  finishes : n ≤ x.last → (v : World) (m : Member) (rest : List Member) (ds : List Entry) → Finishes v (m ∷ rest) → ((u : World) → Finishes u rest → To u ds) → To v (member_entries phases.Finish i n m ++ ds)
  finishes low v m rest ds st go = along.along-entry Sound Sound Carried MayDo v (finish_on m.a.0 n) ds _ refl (by (is_past n (fields_at v.control m.a.0)) refl)
    where
      stage : Stage v (m ∷ rest)
      stage = st.does.stage

      by : (b : Bool) → is_past n (fields_at v.control m.a.0) ≡ b → Then v (cond b Pass (Do (Make (Finish m.a.0 n)))) (λ u. To u ds)
      by true past = go v (record {
        does = does-pass phases.Finish v m rest st.does (λ last. done-past v.control m n past);
        silent = λ last. silent-passes v.control x server n m rest stage.sound.groups (listed-in v (m ∷ rest) stage) (member-of v m rest stage) (sym last) past (st.silent last);
      })
      by false past =
          let on = runs-in v m rest stage in (
            record { runs = on; allowed = tt; fits = tt; group = member-finishes v.control stage.sound.groups stage.sound.attempts i x (found-in v (m ∷ rest) stage) m (member-of v m rest stage) n low; ready = idle v m.a.0 stage.sound.queue on },
            λ f y. go _ (record {
              does = record {
                stage = moved v m rest (Finish m.a.0 n) f stage y;
                done = λ last. done-finishes v.control (done v (Finish m.a.0 n) f).control None x m server n rest stage.sound.groups (listed-in v (m ∷ rest) stage) (member-of v m rest stage) (record { volumes = refl; keeps = true; volume = refl }) (st.does.done last);
              };
              silent = λ last. silent-finishes v.control (done v (Finish m.a.0 n) f).control x server n m rest None refl (record { volumes = refl; keeps = true; volume = refl }) (st.silent last);
            }),
          )

  finished : o.work ≡ phases.Finish → (v : World) → Finishes v [] → Carried v
  finished is v st = carried v st.does.stage (λ told last. subst (λ work. WorkDone v.control x.members server work n) (sym is) (done-ends v.control x.members server phases.Finish n (st.does.done last))) (λ e last. silent-ends v.control x server (st.silent last))

  -- ---- orders that change targets

  -- the target of a member, whose secondary can be reached
  runs-target : (v : World) (m : Member) (rest : List Member) → Stage v (m ∷ rest) → send_refusal m.a.0 m.b.0 v.control ≡ None → Runs v m.c.0
  runs-target v m rest st send =
      let stands : MemberStands v.control m = (st.sound.groups.each x (listed-in v (m ∷ rest) st)).stands m (member-of v m rest st) in
      ap v.control.on stands.target_server ∙ reached v m.a.0 m.b.0 (none-both (reach_refusal m.a.0 m.b.0 v.control) _ send).0

  -- a revertible one has the attempt's number
  may-turn : n ≡ x.last → (v : World) (m : Member) (rest : List Member) → Stage v (m ∷ rest) → (fields_at v.control m.c.0).revertible ≡ true → MayTurn (table v) m.c.0 n
  may-turn last v m rest st flag =
      let c = (st.sound.attempts.volumes m.c.0).counted (or_right (fields_at v.control m.c.0).member (fields_at v.control m.c.0).revertible flag) in
      record {
        from = c.member.b.0;
        related = c.source;
        revertible = flag;
        number = ((own-in v (m ∷ rest) st).numbers.each (seen (roles v.control) m) (seen-in v m rest st)).last flag ∙ sym last;
      }

  -- ---- Flash

  flashes-allowed : n ≡ x.last → (v : World) (m : Member) (rest : List Member) → Stage v (m ∷ rest) → FlashesMember v.control m.c.0 m.b.0 m.a.0 i n → MayFlash (table v) m.c.0 m.b.0 m.a.0 n
  flashes-allowed last v m rest st f =
      let target = flashable m.b.0 (fields_at v.control m.c.0) f.free in
      record {
        resync = record { from = m.b.0; related = target.source; recorded = target.records; forward = target.forward; settled = target.plain };
        from = refl;
        takes = its-first m.a.0 (fields_at v.control m.b.0) f.paired;
        sealed = f.sealed;
        newer = f.low;
        last = λ recording. records-last v m rest st recording ∙ sym last;
      }

  -- where one of an older attempt comes, each floor forbids it
  flash-last : n ≤ x.last → IsDue phases.Flash → (v : World) (m : Member) (rest : List Member) → Stage v (m ∷ rest) → (fields_at v.control m.c.0).floor < n → n ≡ x.last
  flash-last low due v m rest st under = by (eqb_tells n x.last) (due-in phases.Flash due v m rest st)
    where
      fits : FlightOf v.control x
      fits = st.sound.flights.each x (listed-in v (m ∷ rest) st)

      by : IsOrNot n x.last → Due v.control.flight x m.server.0 phases.Flash n → n ≡ x.last
      by (inl is) d = is.1
      by (inr other) (inl owes) = owes.number
      by (inr other) (inr coming) =
          let apart : n ≢ x.last = other.1 in
          let high : n ≤ (fields_at v.control m.c.0).floor = fits.flashes n coming.message coming.order (past-less (phase_of x.mirror) n x.last (omega arith)) (seen (roles v.control) m) (seen-in v m rest st) in
          absurd (omega arith)

  flashes : n ≤ x.last → IsDue phases.Flash → (v : World) (m : Member) (rest : List Member) (ds : List Entry) → Does phases.Flash v (m ∷ rest) → ((u : World) → Does phases.Flash u rest → To u ds) → To v (member_entries phases.Flash i n m ++ ds)
  flashes low due v m rest ds st go =
      refused v (send_refusal m.a.0 m.b.0) (refuse_if (flash_refusal m.b.0 m.c.0 n) ∷ flash_on i m.a.0 m.b.0 m.c.0 n ∷ ds) st.stage.sound (λ send.
      refused v (flash_refusal m.b.0 m.c.0 n) (flash_on i m.a.0 m.b.0 m.c.0 n ∷ ds) st.stage.sound (λ free.
      along.along-entry Sound Sound Carried MayDo v (flash_on i m.a.0 m.b.0 m.c.0 n) ds _ refl (by send free (is_flashed n (fields_at v.control m.c.0)) refl)))
    where
      here : In m x.members
      here = member-of v m rest st.stage

      by : send_refusal m.a.0 m.b.0 v.control ≡ None → flash_refusal m.b.0 m.c.0 n v.control ≡ None → (b : Bool) → is_flashed n (fields_at v.control m.c.0) ≡ b → Then v (cond b Pass (Do (Make (Flash m.c.0 m.b.0 m.a.0 i n)))) (λ u. To u ds)
      by send free true flashed = go v (does-pass phases.Flash v m rest st (λ last. done-flashed v.control m n flashed))
      by send free false none =
          let last = flash-last low due v m rest st.stage (flash-passed m.b.0 m.c.0 n v.control free none).low in
          let group = order-flashes v.control st.stage.sound.groups st.stage.sound.attempts i x (found-in v (m ∷ rest) st.stage) m here n (sym last) (due-in phases.Flash due v m rest st.stage) send free none in
          let on = runs-target v m rest st.stage send in (
            record { runs = on; allowed = flashes-allowed last v m rest st.stage group; fits = tt; group = group; ready = idle v m.c.0 st.stage.sound.queue on },
            λ f y. go _ (record {
              stage = moved v m rest (Flash m.c.0 m.b.0 m.a.0 i n) f st.stage y;
              done = λ last. done-flashes v.control (done v (Flash m.c.0 m.b.0 m.a.0 i n) f).control (carried_in v (Flash m.c.0 m.b.0 m.a.0 i n)) x m server n rest st.stage.sound.groups (listed-in v (m ∷ rest) st.stage) here i (record { volumes = refl; keeps = true; volume = refl }) (st.done last);
            }),
          )

  -- ---- Commit

  commits : IsDue phases.Commit → (v : World) (m : Member) (rest : List Member) (ds : List Entry) → Does phases.Commit v (m ∷ rest) → ((u : World) → Does phases.Commit u rest → To u ds) → To v (member_entries phases.Commit i n m ++ ds)
  commits due v m rest ds st go =
      refused v (send_refusal m.a.0 m.b.0) (refuse_if (commit_refusal m.c.0 n) ∷ commit_on i m.a.0 m.c.0 n ∷ ds) st.stage.sound (λ send.
      refused v (commit_refusal m.c.0 n) (commit_on i m.a.0 m.c.0 n ∷ ds) st.stage.sound (λ free.
      along.along-entry Sound Sound Carried MayDo v (commit_on i m.a.0 m.c.0 n) ds _ refl (by send free (is_committed n (fields_at v.control m.c.0)) refl)))
    where
      here : In m x.members
      here = member-of v m rest st.stage

      by : send_refusal m.a.0 m.b.0 v.control ≡ None → commit_refusal m.c.0 n v.control ≡ None → (b : Bool) → is_committed n (fields_at v.control m.c.0) ≡ b → Then v (cond b Pass (Do (Make (Commit m.c.0 m.a.0 i n)))) (λ u. To u ds)
      by send free true committed = go v (does-pass phases.Commit v m rest st (λ last. done-committed v.control m n committed))
      by send free false none =
          let last = last-flashed v m rest st.stage (commit-passed m.c.0 n v.control free none) in
          let group = order-commits v.control st.stage.sound.groups st.stage.sound.attempts i x (found-in v (m ∷ rest) st.stage) m here st.stage.sound.flights n (sym last) (due-in phases.Commit due v m rest st.stage) send free none in
          let on = runs-target v m rest st.stage send in (
            record { runs = on; allowed = may-turn last v m rest st.stage group.revertible; fits = tt; group = group; ready = idle v m.c.0 st.stage.sound.queue on },
            λ f y. go _ (record {
              stage = moved v m rest (Commit m.c.0 m.a.0 i n) f st.stage y;
              done = λ last. done-commits v.control (done v (Commit m.c.0 m.a.0 i n) f).control (carried_in v (Commit m.c.0 m.a.0 i n)) x m server n rest st.stage.sound.groups (listed-in v (m ∷ rest) st.stage) here (record { volumes = refl; keeps = true; volume = refl }) (st.done last);
            }),
          )

  -- ---- Revert

  reverts : n ≤ x.last → IsDue phases.Revert → (v : World) (m : Member) (rest : List Member) (ds : List Entry) → Does phases.Revert v (m ∷ rest) → ((u : World) → Does phases.Revert u rest → To u ds) → To v (member_entries phases.Revert i n m ++ ds)
  reverts low due v m rest ds st go =
      refused v (send_refusal m.a.0 m.b.0) (revert_on i m.a.0 m.c.0 n ∷ ds) st.stage.sound (λ send.
      along.along-entry Sound Sound Carried MayDo v (revert_on i m.a.0 m.c.0 n) ds _ refl (by send (is_flashed n (fields_at v.control m.c.0)) (nat_lt (fields_at v.control m.c.0).floor n) refl refl))
    where
      found-now : session_in v.control.sessions i ≡ Some x
      found-now = found-in v (m ∷ rest) st.stage

      here : In m x.members
      here = member-of v m rest st.stage

      by : send_refusal m.a.0 m.b.0 v.control ≡ None → (b under : Bool) → is_flashed n (fields_at v.control m.c.0) ≡ b → nat_lt (fields_at v.control m.c.0).floor n ≡ under
          → Then v (cond b (Do (Make (Revert m.c.0 m.a.0 i n))) (cond under (Do (Make (RaiseFloor m.c.0 n))) Pass)) (λ u. To u ds)
      by send true under flashed floor =
          let last = last-flashed v m rest st.stage flashed in
          let group = order-reverts v.control st.stage.sound.groups st.stage.sound.attempts i x found-now m here st.stage.sound.flights n (sym last) (due-in phases.Revert due v m rest st.stage) send flashed in
          let on = runs-target v m rest st.stage send in (
            record { runs = on; allowed = may-turn last v m rest st.stage group.revertible; fits = tt; group = group; ready = idle v m.c.0 st.stage.sound.queue on },
            λ f y. go _ (record {
              stage = moved v m rest (Revert m.c.0 m.a.0 i n) f st.stage y;
              done = λ last. done-reverts v.control (done v (Revert m.c.0 m.a.0 i n) f).control (carried_in v (Revert m.c.0 m.a.0 i n)) x m server n rest st.stage.sound.groups (listed-in v (m ∷ rest) st.stage) here (record { volumes = refl; keeps = true; volume = refl }) (st.done last);
            }),
          )
      by send false true none floor =
          let on = runs-target v m rest st.stage send in (
            record { runs = on; allowed = tt; fits = tt; group = order-raises v.control st.stage.sound.groups st.stage.sound.attempts i x found-now m here n low (due-in phases.Revert due v m rest st.stage) none floor; ready = idle v m.c.0 st.stage.sound.queue on },
            λ f y. go _ (record {
              stage = moved v m rest (RaiseFloor m.c.0 n) f st.stage y;
              done = λ last. done-raises v.control (done v (RaiseFloor m.c.0 n) f).control (carried_in v (RaiseFloor m.c.0 n)) x m server n rest st.stage.sound.groups (listed-in v (m ∷ rest) st.stage) here
                  (unflashed-plain v.control st.stage.sound.groups st.stage.sound.attempts i x found-now m here n (sym last) none) (record { volumes = refl; keeps = true; volume = refl }) (st.done last);
            }),
          )
      by send false false none floor = go v (does-pass phases.Revert v m rest st (λ last. done-reverted v.control i x m n st.stage.sound.groups st.stage.sound.attempts found-now here (sym last) none floor))

  -- ---- Report

  reports : (v : World) (m : Member) (rest : List Member) (ds : List Entry) → Stage v (m ∷ rest) → ((u : World) → Stage u rest → To u ds) → To v (member_entries phases.Report i n m ++ ds)
  reports v m rest ds st go = refused v (reach_refusal m.a.0 m.b.0) ds st.sound (λ near. go v (further v m rest st))

  reported : o.work ≡ phases.Report → (v : World) → Stage v [] → Carried v
  reported is v st = carried v st (λ told. absurd (told is)) (λ e. let no : phases.Report ≡ phases.Finish = sym is ∙ e in absurd cc)

  -- ---- Hold

  -- the first one begins the attempt
  abbrev Came : Session → Type 0
  Came y = (y ≡ x) ⊎ ((y ≡ begun x) × (n ≡ y.last))

  record Holds (v : World) (rest : List Member) : Type 0 where
    sound : Sound v
    on : v.control.on server ≡ true
    flight : v.control.flight ≡ w.control.flight
    holding : Holding v.control i server n x.members
    came : Came holding.session
    done : DoneBut v.control x.members server phases.Hold n rest
    left : (m : Member) → In m rest → In m x.members × (m.server.0 ≡ server)

  there-now : (v : World) (rest : List Member) → (st : Holds v rest) → In st.holding.session v.control.sessions
  there-now v rest st = (session-found v.control.sessions i st.holding.session st.holding.found).0

  -- a member that records this attempt is passed over
  passed : (v : World) (m : Member) (rest : List Member) → Holds v (m ∷ rest) → records n (fields_at v.control m.a.0) ≡ true → Holds v rest
  passed v m rest st is = record { sound = st.sound; on = st.on; flight = st.flight; holding = st.holding; came = st.came; done = done-passes v.control x.members server phases.Hold n m rest st.done (done-held v.control m n is); left = λ q h. st.left q (inr h) }

  -- a member that doesn't record this attempt records none
  unrecorded : (v : World) (m : Member) (rest : List Member) → Holds v (m ∷ rest) → records n (fields_at v.control m.a.0) ≡ false → (fields_at v.control m.a.0).recording ≡ false
  unrecorded v m rest st none = by st.holding.stage
    where
      y : Session
      y = st.holding.session

      here : In m y.members
      here = subst (In m) (sym st.holding.members) (st.left m (inl refl)).0

      by : Begins y n ⊎ HoldsOn v.control.flight y server n → (fields_at v.control m.a.0).recording ≡ false
      by (inl h) = quiet-silent v.control y m st.sound.groups (there-now v (m ∷ rest) st) (idle-quiet y h.mirror h.has_master h.idle) here
      by (inr h) = member-silent v.control y m n st.sound.groups (there-now v (m ∷ rest) st) here (sym h.last) none

  -- where it wasn't held for that attempt yet, nothing of it is there that comes later: no seal, and no revertible target
  module _ (v : World) (m : Member) (rest : List Member) (st : Holds v (m ∷ rest)) (newer_than : (fields_at v.control m.a.0).attempt < n) where
    abbrev y : Session
    y = st.holding.session

    in-y : In m y.members
    in-y = subst (In m) (sym st.holding.members) (st.left m (inl refl)).0

    y-listed : In y v.control.sessions
    y-listed = there-now v (m ∷ rest) st

    seen-here : In (seen (roles v.control) m) (seen_in v.control y)
    seen-here = to-map (seen (roles v.control)) y.members m in-y

    own : AttemptOf (roles v.control) y
    own = st.sound.attempts.sessions y y-listed

    unheld : n ≡ y.last → AllHeld y.last (seen_in v.control y) → ⊥
    unheld last all = let was : y.last ≤ (fields_at v.control m.a.0).attempt = all (seen (roles v.control) m) seen-here in let is : n ≡ y.last = last in absurd (omega arith)

    unsealed : is_at (primary_of (fields_at v.control m.b.0)) m.a.0 ≡ true → (fields_at v.control m.b.0).seal ≢ n
    unsealed to e = by st.holding.stage
      where
        by : Begins y n ⊎ HoldsOn v.control.flight y server n → ⊥
        by (inl h) = let low = (own.numbers.each (seen (roles v.control) m) seen-here).seal in let next : n ≡ y.last + 1 = h.next in let is : (fields_at v.control m.b.0).seal ≡ n = e in omega arith
        by (inr h) = let was : y.last ≤ (fields_at v.control m.a.0).attempt = own.follows.sealed (seen (roles v.control) m) seen-here to (e ∙ h.last) in let is : n ≡ y.last = h.last in absurd (omega arith)

    plain : (fields_at v.control m.c.0).revertible ≡ false
    plain = by st.holding.stage
      where
        by : Begins y n ⊎ HoldsOn v.control.flight y server n → (fields_at v.control m.c.0).revertible ≡ false
        by (inl h) = quiet-unflashed (roles v.control) y (idle-quiet y h.mirror h.has_master h.idle) own (seen (roles v.control) m) seen-here
        by (inr h) = unturned (fields_at v.control m.c.0).revertible (λ flag. unheld h.last (own.follows.turned (seen (roles v.control) m) seen-here flag))

    unflashed : (u : ℕ) → source (table v u) ≡ Some m.b.0 → (fields (table v) u).revertible ≡ false
    unflashed u is = unturned (fields_at v.control u).revertible (λ flag.
        let c = (st.sound.attempts.volumes u).counted (or_right (fields_at v.control u).member (fields_at v.control u).revertible flag) in
        let one = st.sound.groups.lone.one m.b.0 c.session y c.member m c.listed y-listed c.here in-y (inr (inl ((same_Some _ _ (sym is ∙ c.source))))) (inr (inl refl)) in
        false_true plain (ap (λ q. (fields_at v.control q).revertible) (ap (λ (q : Member). q.c.0) (sym one.1) ∙ c.is) ∙ flag))

  may-hold : (v : World) (m : Member) (rest : List Member) → Holds v (m ∷ rest) → may_hold m.a.0 m.b.0 v.control ≡ true → stale_refusal m.a.0 n v.control ≡ None → records n (fields_at v.control m.a.0) ≡ false → MayHold (table v) m.a.0 n
  may-hold v m rest st may stale none =
      let f : Fields = fields_at v.control m.a.0 in
      let to = and_parts (is_primary_of m.b.0 f) _ may in
      let kinds = and_parts (is_kind Global f.primary) _ to.1 in
      let up : f.attempt < n = newer m.a.0 n v.control stale none in
      let partner : its_secondary (table v m.a.0) ≡ Some m.b.0 = its-second m.b.0 f to.0 in
      record {
        global = kinds.0;
        pending = kinds.1;
        idle = unrecorded v m rest st none;
        newer = up;
        unsealed = λ u sends takes. let is : m.b.0 ≡ u = same_Some _ _ (sym partner ∙ sends) in
            subst (λ u. (fields_at v.control u).seal ≢ n) is (unsealed v m rest st up (ap (λ u. is_at (primary_of (fields_at v.control u)) m.a.0) is ∙ (ap (λ o. is_at o m.a.0) takes ∙ eq-eqb m.a.0 m.a.0 refl)));
        unflashed = λ u q sends takes from. unflashed v m rest st up q (from ∙ sym sends ∙ partner);
      }

  -- one that is held is done
  held-done : (v : World) (m : Member) (rest : List Member) (st : Holds v (m ∷ rest)) (j : Control) → Moves v.control j m.a.0 (held_for n (fields_at v.control m.a.0)) None → DoneBut j x.members server phases.Hold n rest
  held-done v m rest st j moves =
      let here : In m st.holding.session.members = subst (In m) (sym st.holding.members) (st.left m (inl refl)).0 in
      subst (λ qs. DoneBut j qs server phases.Hold n rest) st.holding.members
      (done-holds v.control j None st.holding.session m server n rest st.sound.groups (there-now v (m ∷ rest) st) here moves (subst (λ qs. DoneBut v.control qs server phases.Hold n (m ∷ rest)) (sym st.holding.members) st.done))

  holds : (v : World) (m : Member) (rest : List Member) (ds : List Entry) → Holds v (m ∷ rest) → ((u : World) → Holds u rest → To u ds) → To v (member_entries phases.Hold i n m ++ ds)
  holds v m rest ds st go =
      refused v (hold_refusal m.a.0 m.b.0) (refuse_if (stale_refusal m.a.0 n) ∷ hold_on i m.a.0 n ∷ ds) st.sound (λ free.
      refused v (stale_refusal m.a.0 n) (hold_on i m.a.0 n ∷ ds) st.sound (λ stale.
      along.along-entry Sound Sound Carried MayDo v (hold_on i m.a.0 n) ds _ refl (by (met (may_hold m.a.0 m.b.0 v.control) (pair_state v.control m.a.0) free) stale (records n (fields_at v.control m.a.0)) (nat_lt (last_of v.control i) n) refl refl)))
    where
      here : In m x.members × (m.server.0 ≡ server)
      here = st.left m (inl refl)

      on : Runs v m.a.0
      on = runs-member v st.holding.session m st.sound st.holding.found (subst (In m) (sym st.holding.members) here.0) here.1 st.on

      to : may_hold m.a.0 m.b.0 v.control ≡ true → (fields_at v.control m.a.0).primary_partner ≡ m.b.0
      to may = eqb-true (fields_at v.control m.a.0).primary_partner m.b.0 (and_parts (is_part (fields_at v.control m.a.0).primary) _ (and_parts (is_primary_of m.b.0 (fields_at v.control m.a.0)) _ may).0).1

      -- the session was as it is at the begin, since it begins but once
      came : Came st.holding.session → Begins st.holding.session n → begun st.holding.session ≡ begun x
      came (inl is) b = ap begun is
      came (inr is) b = let no : phase.Coordinating ≡ phase.Idle = sym (begun-coordinates x b.mirror (ap (λ (y : Session). y.mirror) (sym is.0) ∙ b.has_master)) ∙ b.idle in absurd cc

      by : may_hold m.a.0 m.b.0 v.control ≡ true → stale_refusal m.a.0 n v.control ≡ None → (p q : Bool) → records n (fields_at v.control m.a.0) ≡ p → nat_lt (last_of v.control i) n ≡ q → Then v (cond p Pass (Do (cond q (OpenAttempt m.a.0 i n) (Make (Hold m.a.0 i n false))))) (λ u. To u ds)
      by may stale true q is last = go v (passed v m rest st is)
      by may stale false true is last = (
        record {
          runs = on;
          allowed = may-hold v m rest st may stale is;
          ready = idle v m.a.0 st.sound.queue on;
          opens = holding-opens v.control i server n x.members m st.holding here.0 (to may) last;
        },
        λ f y. let new : Holding (after_act v (OpenAttempt m.a.0 i n) f).control i server n x.members = holding-begun v.control (after_act v (OpenAttempt m.a.0 i n) f).control i server n x.members m refl last here.0 here.1 st.holding in go _ (record {
          sound = y;
          on = st.on;
          flight = st.flight;
          holding = new;
          came =
              let b = holding-next v.control i server n x.members st.holding last in
              let is : new.session ≡ begun st.holding.session = same_Some _ _ (sym new.found ∙ changed-found i begun v.control.sessions st.holding.session (λ z. refl) st.holding.found) in
              inr (is ∙ came st.came b, b.next ∙ ap (λ (z : Session). z.last) (sym is));
          done = held-done v m rest st (after_act v (OpenAttempt m.a.0 i n) f).control (record { volumes = refl; keeps = true; volume = refl });
          left = λ q h. st.left q (inr h);
        }),
      )
      by may stale false false is last = (
        record {
          runs = on;
          allowed = may-hold v m rest st may stale is;
          fits = tt;
          ready = idle v m.a.0 st.sound.queue on;
          group = order-holds v.control i server n x.members m st.sound.groups st.sound.attempts st.sound.flights st.holding here.0 here.1 (to may) last stale is;
        },
        λ f y. let new : Holding (done v (Hold m.a.0 i n false) f).control i server n x.members = holding-stays v.control (done v (Hold m.a.0 i n false) f).control i server n x.members refl refl st.holding in go _ (record {
          sound = y;
          on = st.on;
          flight = st.flight;
          holding = new;
          came = subst Came (same_Some _ _ (sym st.holding.found ∙ new.found)) st.came;
          done = held-done v m rest st (done v (Hold m.a.0 i n false) f).control (record { volumes = refl; keeps = true; volume = refl });
          left = λ q h. st.left q (inr h);
        }),
      )

  held : o.work ≡ phases.Hold → (v : World) → Holds v [] → Carried v
  held is v st = record {
    sound = st.sound;
    session = st.holding.session;
    there = st.holding.found;
    among = st.holding.members;
    flight = st.flight;
    came = by st.came;
    done = λ told last. subst (λ work. WorkDone v.control st.holding.session.members server work n) (sym is) (subst (λ qs. WorkDone v.control qs server phases.Hold n) (sym st.holding.members) (done-ends v.control x.members server phases.Hold n st.done));
    silent = λ e. let no : phases.Hold ≡ phases.Finish = sym is ∙ e in absurd cc;
  }
    where
      by : Came st.holding.session → (st.holding.session ≡ x) ⊎ ((st.holding.session ≡ begun x) × ((o.work ≡ phases.Hold) × (n ≡ st.holding.session.last)))
      by (inl same) = inl same
      by (inr new) = inr (new.0, (is, new.1))

  -- one of an older attempt: each member was held for it
  late-held : n < x.last → IsDue phases.Hold → (v : World) (m : Member) (rest : List Member) → Stage v (m ∷ rest) → n ≤ (fields_at v.control m.a.0).attempt
  late-held less due v m rest st = by (due-in phases.Hold due v m rest st)
    where
      by : Due v.control.flight x m.server.0 phases.Hold n → n ≤ (fields_at v.control m.a.0).attempt
      by (inl owes) = let last : n ≡ x.last = owes.number in absurd (omega arith)
      by (inr coming) = (st.sound.flights.each x (listed-in v (m ∷ rest) st)).holds n coming.message coming.order (inl less) (seen (roles v.control) m) (seen-in v m rest st)

  late-holds : n < x.last → IsDue phases.Hold → (v : World) (m : Member) (rest : List Member) (ds : List Entry) → Stage v (m ∷ rest) → ((u : World) → Stage u rest → To u ds) → To v (member_entries phases.Hold i n m ++ ds)
  late-holds less due v m rest ds st go =
      refused v (hold_refusal m.a.0 m.b.0) (refuse_if (stale_refusal m.a.0 n) ∷ hold_on i m.a.0 n ∷ ds) st.sound (λ free.
      refused v (stale_refusal m.a.0 n) (hold_on i m.a.0 n ∷ ds) st.sound (λ stale.
      along.along-entry Sound Sound Carried MayDo v (hold_on i m.a.0 n) ds _ refl (by stale (records n (fields_at v.control m.a.0)) refl)))
    where
      by : stale_refusal m.a.0 n v.control ≡ None → (p : Bool) → records n (fields_at v.control m.a.0) ≡ p → Then v (cond p Pass (Do (cond (nat_lt (last_of v.control i) n) (OpenAttempt m.a.0 i n) (Make (Hold m.a.0 i n false))))) (λ u. To u ds)
      by stale true is = go v (further v m rest st)
      by stale false is = let was : n ≤ (fields_at v.control m.a.0).attempt = late-held less due v m rest st in let new : (fields_at v.control m.a.0).attempt < n = newer m.a.0 n v.control stale is in absurd (omega arith)

  late-end : n < x.last → o.work ≡ phases.Hold → (v : World) → Stage v [] → Carried v
  late-end less is v st = carried v st (λ told last. let same : n ≡ x.last = last in absurd (omega arith)) (λ e. let no : phases.Hold ≡ phases.Finish = sym is ∙ e in absurd cc)

  -- ---- each order

  -- Why it may be carried out: a hold of the last attempt or the next one; one of an older attempt; a report; and whatever is due, up to
  -- the last attempt.
  abbrev pub How : phases.Work → Type 0
  How phases.Hold = Holding w.control i server n x.members ⊎ ((n < x.last) × IsDue phases.Hold)
  How phases.Report = Unit {0}
  How work = (n ≤ x.last) × IsDue work

  -- what is due
  pub how-due : (work : phases.Work) → n ≤ x.last → IsDue work → How work
  how-due phases.Hold low due = by (eqb_tells n x.last)
    where
      by : IsOrNot n x.last → Holding w.control i server n x.members ⊎ ((n < x.last) × IsDue phases.Hold)
      by (inl is) = inl (holding-comes w.control i server n x found is.1 due)
      by (inr other) = let apart : n ≢ x.last = other.1 in inr (omega arith, due)
  how-due phases.Release low due = (low, due)
  how-due phases.Seal low due = (low, due)
  how-due phases.Flash low due = (low, due)
  how-due phases.Commit low due = (low, due)
  how-due phases.Revert low due = (low, due)
  how-due phases.Finish low due = (low, due)
  how-due phases.Report low due = tt

  hold-by : o.work ≡ phases.Hold → How phases.Hold → To first (order_entries phases.Hold i n ms)
  hold-by is (inl holding) = loop Holds (member_entries phases.Hold i n) holds (held is) ms first (holds-from holding)
    where
      holds-from : Holding w.control i server n x.members → Holds first ms
      holds-from holding = record {
        sound = start.sound;
        on = start.on;
        flight = refl;
        holding = holding;
        came = inl (same_Some _ _ (sym holding.found ∙ found));
        done = done-begins w.control x.members server phases.Hold n;
        left = start.left;
      }
  hold-by is (inr late) = loop Stage (member_entries phases.Hold i n) (late-holds late.0 late.1) (late-end late.0 is) ms first start

  entries-by : (work : phases.Work) → o.work ≡ work → How work → To first (order_entries work i n ms)
  entries-by phases.Hold is how = hold-by is how
  entries-by phases.Release is how = loop Stage (member_entries phases.Release i n) (frees how.1) (calm phases.Release is tt (λ e. cc)) ms first start
  entries-by phases.Seal is how = loop Stage (member_entries phases.Seal i n) (seals how.1) (calm phases.Seal is tt (λ e. cc)) ms first start
  entries-by phases.Flash is how = loop (Does phases.Flash) (member_entries phases.Flash i n) (flashes how.0 how.1) (does-end phases.Flash is (λ e. cc)) ms first (does-begin phases.Flash)
  entries-by phases.Commit is how = loop (Does phases.Commit) (member_entries phases.Commit i n) (commits how.1) (does-end phases.Commit is (λ e. cc)) ms first (does-begin phases.Commit)
  entries-by phases.Revert is how = loop (Does phases.Revert) (member_entries phases.Revert i n) (reverts how.0 how.1) (does-end phases.Revert is (λ e. cc)) ms first (does-begin phases.Revert)
  entries-by phases.Finish is how = loop Finishes (member_entries phases.Finish i n) (finishes how.0) (finished is) ms first finishes-begin
  entries-by phases.Report is how = loop Stage (member_entries phases.Report i n) reports (reported is) ms first start

  pub carries : How o.work → To first (order_entries o.work i n ms)
  carries how = entries-by o.work refl how
