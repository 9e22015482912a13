-- A law on the rows of volumes and on the journal that each act keeps rides along every step, and so along every run.
use Rattle.std.proofs.Common.{ℕ, zero, suc, ◌≡◌, ◌≢◌, ◌⊎◌, ◌<◌, ◌+◌, inl, inr, refl, ap, sym, ◌∙◌, subst, Bool, true, false, cond, not, List, [], ◌∷◌, ◌++◌, length, take, nat_eq, Option, Some, None, Result}
use Rattle.dr_model.specs.declared.step.Step.{Step}
use Rattle.std.specs.Prelude.{◌==◌}
use Rattle.std.proofs.lemmas.List.{append-nil}
use Rattle.std.specs.List.{list_any}
use Rattle.dr_ids.specs.declared.refusal.Refusal.{Refusal}
use Rattle.dr_model.specs.Refusals.{stopped}
use Rattle.dr_model.specs.declared.event.Event.{Event}
use Rattle.dr_model.specs.declared.event.Event.TheVariants.{Server as ServerDefined, Started, Stopped, Shown}
use Rattle.dr_model.specs.declared.said.Addition.TheVariants.{Alone}
use Rattle.dr_model.specs.declared.said.Said.{Said}
use Rattle.dr_model.specs.declared.said.Said.TheVariants.{Done}
use Rattle.dr_model.specs.Answers.{answer}
use Rattle.dr_model.specs.Contents.{image_at}
use Rattle.dr_model.specs.Histories.{Write, histories}
use Rattle.dr_model.specs.Control.{Control, World, is_volume}
use Rattle.dr_model.specs.Moves.{Move, Restart}
use Rattle.dr_model.specs.Carry.{Entry, carry}
use Rattle.dr_model.specs.ReadStops.{Ends}
use Rattle.dr_model.specs.Phases as phases
use Rattle.dr_model.specs.Messages.{Flight, Message}
use Rattle.dr_model.specs.Messages as messages
use Rattle.dr_model.specs.Sessions.{Session, Mirror, session_in, joined, left, changed, begun as attempted, is_only, mirrored_by, paused, unmirrored, with_master, lost_since}
use Rattle.dr_model.specs.Groups.{In, Groups}
use Rattle.dr_model.specs.Attempts.{Attempts, InAttempt}
use Rattle.dr_model.specs.Flights.{Flights}
use Rattle.dr_model.specs.SessionEntries.{members_on}
use Rattle.dr_model.specs.SessionPlans.{with_sessions, member_with, is_idle, exchanged, says_phase}
use Rattle.dr_model.specs.MessagePlans.{says_posted, sending, told_begun, send_order, order_done, taking}
use Rattle.dr_ids.specs.declared.refusal.PhaseName.TheVariants as phase
use Rattle.dr_model.specs.Plans.{Plan, same, always, none_follow, entries_plan, write_done, apply_done, drain_plan, start_plan}
use Rattle.dr_model.specs.Forming.{Part, after_part}
use Rattle.dr_model.specs.Runs.{Task, course, plans_of, begun, carried_out, answered, said, after_plan, after_task, after_tasks, masters_lost, image_told}
use Rattle.dr_model.specs.Table.{Table, table, due_by, aside_by}
use Rattle.dr_model.specs.Laws.{SoundRows, Sound}
use Rattle.dr_model.specs.Allowed.{Allowed}
use Rattle.dr_model.proofs.Images.{histories-append}
use Rattle.dr_laws_cuts.specs.Once.{NoCuts}
use Rattle.dr_laws_sessions.proofs.PlanTables.{no-maker, owned-volume}
use Rattle.dr_laws_sessions.proofs.Tables.{groups-joined, groups-left, groups-mirrored, groups-paused, groups-unmirrored, groups-aborted}
use Rattle.dr_laws_messages.proofs.Turns.{flights-mirrored, flights-unmirrored, flights-paused, flights-aborted}
use Rattle.dr_laws_messages.proofs.Members.{flights-joined, flights-left}
use Rattle.dr_laws_messages.proofs.Messages.{flights-dropped}
use Rattle.dr_facts.proofs.Lists.{from-filter}
use Rattle.dr_laws_attempts.proofs.Tables.{with-joined, with-left, with-mirrored, with-paused, with-unmirrored, with-aborted}
use Rattle.dr_laws_closed.specs.Regroups.{AllStay, Regroups}
use Rattle.dr_laws_closed.specs.Silent.{AllStill}
use Rattle.dr_laws_closed.proofs.Regroups.{regroups-same, regroups-stay, stays-same, stays-joined, stays-left, stays-mirrored, stays-paused, stays-unmirrored, stays-aborted, stays-taken, stays-lost}
use Rattle.dr_laws_sound.proofs.KeepsGroups.{secondaries-stay}
use Rattle.dr_model.specs.Listings.{lists}
use Rattle.dr_laws_sound.specs.Calm.{Carries, ComesTo, EndsEach, Makes, Itself, Follows}
use Rattle.dr_laws_sound.proofs.Listed.{AllLines, NoBegins, Plain, lines-plain, lines-lists, image-lines}
use Rattle.dr_laws_sound.proofs.Cases.{Posts, Case, Says, DefinesServer, DefinesVolume, SetsLink, Issues, Writes, Applies, Lists, Shows, Stops, Arms, Starts, MakesFlash, RemovesFlash, ResyncsFlash, ReversesFlash, Copies, Destages, MakesPath, RemovesPath, MakesPair, RemovesPair, PausesPair, ResumesPair, FailsOver, FailsBack, Compares, Drains, Expires, Freezes, Unfreezes, MakesSession, RemovesSession, MakesMirror, PausesMirror, RemovesMirror, Aborts, AddsMember, RemovesMember, Exchanges, Sends, Delivers, TakesReply, Loses, Recovers, Settles, added, expelled, ordered, is-new, may-issue, Releases}
use Rattle.dr_laws_sound.proofs.KeepsSound.{Along, StepHolds, RowsAt, MayDo, keeps-sound, sound-gone}
use Rattle.dr_laws_sound.proofs.Along as along
use Rattle.dr_laws_sound.proofs.FitsFlash.{as_begun, sound-begun, along-flash, along-withdraw, along-resync, along-reverse}
use Rattle.dr_laws_sound.proofs.FitsCopy.{along-copy}
use Rattle.dr_laws_sound.proofs.FitsDestage.{along-destage}
use Rattle.dr_laws_sound.proofs.FitsPairs.{along-pair, along-remove, along-pause, along-resume}
use Rattle.dr_laws_sound.proofs.FitsFailover.{along-failover, along-failback, along-compare}
use Rattle.dr_laws_sound.proofs.FitsDrain.{along-drain, drains-after}
use Rattle.dr_laws_sound.proofs.FitsWrites.{lands, writes-after}
use Rattle.dr_laws_sound.proofs.FitsHolds.{freezes, thaws, lifts, releases}
use Rattle.dr_laws_sound.proofs.FitsSessions.{Orders, sound-tables, sound-lost}
use Rattle.dr_laws_sound.proofs.FitsMembers.{orders-added, orders-expelled}
use Rattle.dr_laws_sound.proofs.NewMessages.{Adds, adds-same, adds-fewer}
use Rattle.dr_laws_sound.proofs.GoesOn.{AllGoOn, goes-fewer, goes-same, goes-sent}
use Rattle.dr_laws_sound.proofs.TablesGo.{goes-joined, goes-left, goes-mirrored, goes-paused, goes-unmirrored, goes-aborted, goes-lost}
use Rattle.dr_laws_sound.proofs.FitsExchanges.{orders-ordered, idle-or}
use Rattle.dr_laws_sound.proofs.FitsMessages.{opened, idle-is, busy-is, next-number, sound-opened, sound-sent, adds-first, adds-later, orders-delivered, sound-taken, goes-back}
use Rattle.dr_laws_sound.proofs.FitsRecovery.{along-recover, along-settle}
use Rattle.dr_laws_sound.proofs.Issues.{issued, sound-issued, one-new}
use Rattle.dr_laws_sound.proofs.Lands.{found-alone}
use Rattle.dr_laws_sound.proofs.Defines.{with_volume}
use Rattle.dr_laws_sound.proofs.Starts as starts
use Rattle.dr_laws_sound.proofs.Parts.{Comes, Ending, OnePlan, Imaged, course-case, each-plan, last-plan}
use Rattle.dr_laws_sound.proofs.Steps.{case-holds, ending-holds, sound-carried, sound-plan, sound-part, sound-task}
use Rattle.dr_laws_sound.proofs.Rides.{Rides, Both, plan-rides, moments-ride, rides-comes_to, rides-follows}

-- From w to u these events were told, of which no list hears and no group, and which cut no volume; the rows of volumes, what waits, the
-- sessions, the messages in flight and the epochs are as they were.
pub record Unheard (w u : World) (more : List Event) : Type 0 where
  pub events : u.events ≡ w.events ++ more
  pub quiet : NoCuts more
  pub still : AllStill more
  pub lists : histories u.events ≡ histories w.events
  pub rows : table u ≡ table w
  pub issued : u.control.issued ≡ w.control.issued
  pub volume : u.control.volume ≡ w.control.volume
  pub pending : u.control.pending ≡ w.control.pending
  pub sessions : u.control.sessions ≡ w.control.sessions
  pub messages : u.control.flight.messages ≡ w.control.flight.messages
  pub epoch : u.control.flight.epoch ≡ w.control.flight.epoch

-- the same messages are in flight, in the same epochs
abbrev pub SameFlight : World → World → Type 0
SameFlight w u = ◌≡◌ {A = List Message × (ℕ → ℕ)} (u.control.flight.messages, u.control.flight.epoch) (w.control.flight.messages, w.control.flight.epoch)

pub unheard : (w u : World) (more : List Event) → u.events ≡ w.events ++ more → NoCuts more → AllStill more → histories (w.events ++ more) ≡ histories w.events → u.contents ≡ w.contents → u.control.volume ≡ w.control.volume → u.control.volumes ≡ w.control.volumes
    → u.control.pending ≡ w.control.pending → u.control.issued ≡ w.control.issued → u.control.sessions ≡ w.control.sessions → SameFlight w u → Unheard w u more
unheard w u more events quiet still lists contents volume volumes pending issued sessions messages = record {
  events = events;
  quiet = quiet;
  still = still;
  lists = ap histories events ∙ lists;
  rows = λ i v. record { defined = list_any (nat_eq v) (volumes i); volume = volume i v; bytes = contents i v; due = λ q. due_by ((ap histories events ∙ lists) i) (pending i) v q; aside = aside_by ((ap histories events ∙ lists) i) v };
  issued = issued;
  volume = volume;
  pending = pending;
  sessions = sessions;
  messages = λ i. (messages i).0;
  epoch = λ i. (messages i).1;
}

-- other sessions and messages
abbrev pub with_tables : World → List Session → Flight → World
with_tables w ss f = record w { control = record w.control { sessions = ss; flight = f } }

-- What is to be shown of a law: acts that may come keep it, those of a start too; so does what no list hears of and what begins no attempt, a
-- write that is issued, a volume that is defined, another table of sessions with other messages in flight, and an attempt that begins before a
-- hold.
pub record Rider (K : World → Type 0) : Type 0 where
  pub acts : Rides Sound K MayDo
  pub start_acts : (s : ℕ) → Rides (starts.Inner s) K (starts.MayStart s)
  pub unheard : (w u : World) (more : List Event) → K w → Unheard w u more → NoBegins more → K u
  pub issues : (w : World) (s : Sound w) (v t offset len : ℕ) (bytes : List ℕ) (defined : is_volume w.control v ≡ true) (low : t < (w.control.volume v).tracks) → K w → K (issued w s v t offset len bytes defined low)
  pub regroups : (w : World) (ss : List Session) (f : Flight) → Sound w → Sound (with_tables w ss f) → Regroups w.control.sessions ss → Adds w.control.sessions w.control.flight f → AllGoOn w.control ss f → K w → K (with_tables w ss f)
  pub opens : (w : World) (i n : ℕ) (x : Session) (r : Mirror) → Sound w → Sound (opened w i n) → session_in w.control.sessions i ≡ Some x → x.mirror ≡ Some r → r.master.phase ≡ phase.Idle → n ≡ x.last + 1 → K w → K (opened w i n)
  pub defines : (w : World) (s : Sound w) (v server tracks : ℕ) (here : server < length w.control.servers) (undefined : is_volume w.control v ≡ false) → K w → K (with_volume w s v server tracks here undefined)

-- the records by which a plan's laws are shown, open to what rides along it
abbrev orders-hold : (w : World) (p : Plan) → Orders w p → StepHolds w p
orders-hold w p o = record { inner = Sound; ends = o.ends; may = MayDo; keeps = keeps-sound; within = λ v s. s.rows; complete = λ v e. (o.complete v e).rows; begins = o.begins; entries = o.entries; follows = o.follows; last = o.last }

abbrev start-hold : (x : ℕ) (w : World) → Sound w → StepHolds w (start_plan w.control x)
start-hold x w s = record {
  inner = starts.Inner x;
  ends = Sound;
  may = starts.MayStart x;
  keeps = starts.keeps x;
  within = λ v j. j.sound.rows;
  complete = λ v i. i.rows;
  begins = starts.begins x w s;
  entries = starts.volumes-start x w.control.volumes (begun w (start_plan w.control x)) (starts.begins x w s);
  follows = λ q. tt;
  last = λ v i. i;
}

-- a session that goes takes its messages with it, and an abort leaves them
left-fewer : (i l : ℕ) (x : Session) (f : Flight) → (m : Message) → In m (messages.left i l x f).messages → In m f.messages
left-fewer i l x f = by (is_only l x)
  where
    by : (b : Bool) → (m : Message) → In m (cond b (messages.forgotten i f) f).messages → In m f.messages
    by true m here = (from-filter (λ (m : Message). not (m.session == i)) f.messages m here).0
    by false m here = here

aborted-messages : (i : ℕ) (o : Option Mirror) (f : Flight) → (messages.aborted i o f).messages ≡ f.messages
aborted-messages i None f = refl
aborted-messages i (Some r) f = by (messages.is_lost (phases.aborted_phase r.master.phase))
  where
    by : (b : Bool) → (cond b (messages.raised i f) f).messages ≡ f.messages
    by true = refl
    by false = refl

-- where there are no entries nothing changes
none-change : (P : World → Type 0) (w : World) (n : ℕ) → P w → P (carry w (take n [])).0
unfolding carry
none-change P w zero p = p
none-change P w (suc n) p = p

-- and no move comes
pub none-comes : (EndsIn : World → List Entry → World → Option Refusal → Type 0) (w v : World) (m : Move) → ComesTo EndsIn w [] v m → ⊥
none-comes EndsIn w v m at = by at.before at.placed
  where
    by : (before : List Entry) → [] ≡ before ++ at.entry ∷ at.rest → ⊥
    by [] is = absurd cc
    by (d ∷ ds) is = absurd cc

-- a start makes no move but to let volumes go on
start-allowed : (x : ℕ) (write : ℕ → Write) (T : Table) (w : World) (m : Move) → starts.MayMove x w m → Allowed write T m
start-allowed x write T w (Restart v) may = tt
start-allowed x write T w m may = absurd may

start-group : (x : ℕ) (w : World) (m : Move) → starts.MayMove x w m → InAttempt w.control m
start-group x w (Restart v) may = tt
start-group x w m may = absurd may

-- A move comes where the rows of volumes fit and its kind is allowed, and where K holds.
pub record MoveComes (K : World → Type 0) (w : World) (m : Move) : Type 0 where
  pub rows : SoundRows (table w)
  pub allowed : Allowed (histories w.events).write (table w) m
  pub group : InAttempt w.control m
  pub law : K w

module _ (K : World → Type 0) (rider : Rider K) where
  none-told : (w : World) → histories (w.events ++ []) ≡ histories w.events
  none-told w = ap histories (append-nil w.events)

  -- other tables that are nothing to the volumes and the sessions, and nothing told
  silently : (w u : World) → K w → u.events ≡ w.events ++ [] → u.contents ≡ w.contents → u.control.volume ≡ w.control.volume → u.control.volumes ≡ w.control.volumes → u.control.pending ≡ w.control.pending → u.control.issued ≡ w.control.issued → u.control.sessions ≡ w.control.sessions → SameFlight w u → K u
  silently w u k events contents volume volumes pending issued sessions messages = rider.unheard w u [] k (unheard w u [] events tt tt (none-told w) contents volume volumes pending issued sessions messages) tt

  -- one event that no list hears of
  event : (w u : World) (e : Event) → K w → u.events ≡ w.events ++ e ∷ [] → NoCuts (e ∷ []) → AllStill (e ∷ []) → NoBegins (e ∷ []) → histories (w.events ++ e ∷ []) ≡ histories w.events → u.contents ≡ w.contents → u.control.volume ≡ w.control.volume
      → u.control.volumes ≡ w.control.volumes → u.control.pending ≡ w.control.pending → u.control.issued ≡ w.control.issued → u.control.sessions ≡ w.control.sessions → SameFlight w u → K u
  event w u e k events quiet still begins lists contents volume volumes pending issued sessions messages = rider.unheard w u (e ∷ []) k (unheard w u (e ∷ []) events quiet still lists contents volume volumes pending issued sessions messages) begins

  module _ (w : World) (s : Sound w) (k : K w) (line : ℕ) where
    -- What is known of a plan: K holds as it ends, and after each of its entries; the rows fit, and K holds, where its entries come to a
    -- move, which is allowed there, or those that follow a stop do; and where a server stopped in them the world is sound, or nothing follows.
    record Carried (p : Plan) : Type 0 where
      holds : K (carried_out w p).0
      moments : (n : ℕ) → K (carry (begun w p) (take n p.entries)).0
      comes : (v : World) (m : Move) → ComesTo Carries (begun w p) p.entries v m → MoveComes K v m
      stops : (q n : ℕ) (u v : World) (m : Move) → Carries (begun w p) p.entries u (Some (stopped q)) → ComesTo (EndsEach Carries) u (p.follows n) v m → MoveComes K v m
      gone : (armed : ℕ → Bool) (u : World) (r : Refusal) → Ends armed u (Some r) (begun w p) p.entries → Sound u ⊎ ((q : ℕ) → p.follows q ≡ [])

    -- a plan without entries
    tables : (first : Control → Control) (told : List Event) (says : Control → Said) → let p : Plan = record { first = first; told = told; entries = []; follows = none_follow; last = same; says = says } in K (begun w p) → Carried p
    unfolding carry
    tables first told says begun = record { holds = begun; moments = λ n. none-change K _ n begun; comes = λ v m at. absurd (none-comes Carries _ v m at); stops = λ q n u v m ends at. absurd (none-comes (EndsEach Carries) u v m at); gone = λ armed u r e. inr (λ q. refl) }

    -- one whose acts may come as they do but where a server starts
    moves : (p : Plan) (o : Orders w p) → K (begun w p) → ((v : World) → o.ends v → K v → K (record v { control = p.last v.control })) → Carried p
    moves p o begun last = record {
      holds = plan-rides Sound RowsAt K MayDo w p (orders-hold w p o) rider.acts begun last keeps-sound rider.acts;
      moments = moments-ride Sound RowsAt K MayDo w p (orders-hold w p o) rider.acts begun last keeps-sound rider.acts;
      comes = λ v m at. let here = rides-comes_to Sound RowsAt K MayDo w p (orders-hold w p o) rider.acts begun last v m at in record { rows = here.0.0.rows; allowed = here.1.allowed; group = here.1.group; law = here.0.1 };
      stops = λ q n u v m ends at. let here = rides-follows Sound RowsAt K MayDo w p (orders-hold w p o) rider.acts begun last keeps-sound rider.acts q n u v m ends at in record { rows = here.0.0.rows; allowed = here.1.allowed; group = here.1.group; law = here.0.1 };
      gone = λ armed u r e. inl (along.ends-weaker Sound Sound o.ends Sound MayDo (λ v s. s) (λ v s. s) o.complete keeps-sound armed (λ v q s on is. sound-gone None v q s) u (Some r) _ p.entries o.begins o.entries e);
    }

    -- no message is new
    none-added : (v : World) → Adds v.control.sessions v.control.flight v.control.flight
    none-added v = adds-same v.control.sessions v.control.flight v.control.flight refl

    begins : K (as_begun w)
    begins = silently w (as_begun w) k refl refl refl refl refl refl refl refl

    entries : (ds : List Entry) (a : Said) → Along (as_begun w) ds → Carried (entries_plan ds a)
    entries ds a all = moves (entries_plan ds a) (record { ends = Sound; complete = λ v i. i; begins = sound-begun w s; entries = all; follows = λ q. tt; last = λ v i. i; turns = λ v i. regroups-same v.control.sessions; adds = λ v i. none-added v; goes = λ v i. goes-same v.control }) begins (λ v e k. k)

    sessions : (f : List Session → List Session) (g : Control → Flight) (says : Control → Said) → Groups (with_sessions f w.control) → Attempts (with_sessions f w.control) → Flights (record w.control { sessions = f w.control.sessions; flight = g w.control })
        → AllStay w.control.sessions (f w.control.sessions) → Adds w.control.sessions w.control.flight (g w.control) → AllGoOn w.control (f w.control.sessions) (g w.control) → Carried (record { first = λ k. record k { sessions = f k.sessions; flight = g k }; told = []; entries = []; follows = none_follow; last = same; says = says })
    sessions f g says groups attempts flights stays adds goes =
        let first : World = as_begun w in
        tables (λ k. record k { sessions = f k.sessions; flight = g k }) [] says (rider.regroups first (f w.control.sessions) (g w.control) (sound-begun w s) (sound-tables first (f w.control.sessions) (g w.control) groups (secondaries-stay w.control (f w.control.sessions) stays s.secondaries) attempts flights (sound-begun w s)) (regroups-stay _ _ stays) adds goes begins)

    rides-lines : (told : List Event) → AllLines told → Carried (lists told)
    rides-lines told ls =
        let u : World = begun w (lists told) in
        let plain : Plain told = lines-plain told ls in
        tables same told (always (Done Alone)) (rider.unheard w u told k (unheard w u told refl plain.cuts plain.still (lines-lists w.events told ls) refl refl refl refl refl refl refl) plain.begins)

    -- one that leaves other sessions, or other messages
    turned : (p : Plan) → ((v : World) → p.last v.control ≡ record v.control { sessions = (p.last v.control).sessions; flight = (p.last v.control).flight }) → Orders w p → K (begun w p) → Carried p
    turned p tables o begun = moves p o begun (λ v e k. subst (λ c. K (record v { control = c })) (sym (tables v))
        (rider.regroups v (p.last v.control).sessions (p.last v.control).flight (o.complete v e) (subst (λ c. Sound (record v { control = c })) (tables v) (o.last v e)) (o.turns v e) (o.adds v e) (o.goes v e) k))

    -- as a send begins
    abbrev Posted : ℕ → ℕ → phases.Order → Bool → (World → Type 0) → Type 0
    Posted i server o b P = P (begun w (send_order i b server (Some o)))

    -- a send, with which an attempt may begin
    sends : (i server : ℕ) (x : Session) (r : Mirror) (o : phases.Order) (posts : Posts w.control i server x r o) → Carried (send_order i (is_idle r.master.phase) server (Some o))
    sends i server x r o posts = tables (sending i (is_idle r.master.phase) server o) (told_begun (is_idle r.master.phase) i o.number) says_posted (by (idle-or r.master.phase))
      where
        first : r.master.phase ≡ phase.Idle → Posted i server o true Sound → Posted i server o true K
        first idle sound = rider.regroups (opened w i o.number) (changed i attempted w.control.sessions) (messages.sent i server o w.control.flight) (sound-opened w s i server x r o posts idle) sound
            (regroups-same (changed i attempted w.control.sessions)) (adds-first w s i server x r o posts idle) (goes-sent (opened w i o.number).control i server o) (rider.opens w i o.number x r s (sound-opened w s i server x r o posts idle) posts.found posts.mirror idle (next-number w s i server x r o posts idle) k)

        later : r.master.phase ≢ phase.Idle → Posted i server o false Sound → Posted i server o false K
        later busy sound = rider.regroups (as_begun w) w.control.sessions (messages.sent i server o w.control.flight) (sound-begun w s) sound (regroups-same w.control.sessions) (adds-later w s i server x r o posts busy) (goes-sent w.control i server o) begins

        by : (r.master.phase ≡ phase.Idle) ⊎ (r.master.phase ≢ phase.Idle) → Posted i server o (is_idle r.master.phase) K
        by (inl idle) = subst (λ b. Posted i server o b K) (sym (idle-is r.master.phase idle)) (first idle (subst (λ b. Posted i server o b Sound) (idle-is r.master.phase idle) (sound-sent w s i server x r o posts)))
        by (inr busy) = subst (λ b. Posted i server o b K) (sym (busy-is r.master.phase busy)) (later busy (subst (λ b. Posted i server o b Sound) (busy-is r.master.phase busy) (sound-sent w s i server x r o posts)))

    case-rides : (asked : Result Step ℕ) (p : Plan) → Case w.control w.events line asked p → Carried p
    case-rides _ _ (Says a waits why) = tables same [] (always a) begins
    case-rides _ _ (DefinesServer name free) = tables _ _ _ (event w _ (ServerDefined (length w.control.servers) name.len name.bytes) k refl (tt, tt) (tt, tt) (refl, tt) (histories-append w.events _) refl refl refl refl refl refl refl)
    case-rides _ _ (DefinesVolume v x tracks here free) = tables _ _ _ (rider.defines w s v x tracks here (is-new w.control v x tracks free).undefined k)
    case-rides _ _ (SetsLink a b up) = tables _ _ _ (silently w _ k refl refl refl refl refl refl refl refl)
    case-rides _ _ (Issues v t offset len bytes free) = let there = (may-issue w.control v t free).0 in tables _ _ _ (rider.issues w s v t offset len bytes there.defined there.low k)
    case-rides _ _ (Writes v t offset len bytes free) =
        let there = (may-issue w.control v t free).0 in
        let first : World = issued w s v t offset len bytes there.defined there.low in
        let sound : Sound first = sound-issued w s v t offset len bytes there.defined there.low in
        moves (write_done w.control v t offset len bytes) (record {
          ends = Sound;
          complete = λ v i. i;
          begins = sound;
          entries = lands first sound (record { w = w.control.issued + 1; volume = v; track = t; landed = false }) (one-new w s v t offset len bytes there.defined there.low);
          follows = λ q. writes-after w.control (w.control.issued + 1) v t q;
          last = λ v i. i;
          turns = λ v i. regroups-same v.control.sessions;
          adds = λ v i. none-added v;
          goes = λ v i. goes-same v.control;
        }) (rider.issues w s v t offset len bytes there.defined there.low k) (λ v e k. k)
    case-rides _ _ (Applies n p found) =
        moves (apply_done w.control p) (record {
          ends = Sound;
          complete = λ v i. i;
          begins = sound-begun w s;
          entries = lands (as_begun w) (sound-begun w s) p (found-alone n p w.control.pending found s.queue.apart);
          follows = λ q. writes-after w.control p.w p.volume p.track q;
          last = λ v i. i;
          turns = λ v i. regroups-same v.control.sessions;
          adds = λ v i. none-added v;
          goes = λ v i. goes-same v.control;
        }) begins (λ v e k. k)
    case-rides _ _ (Lists told ls few) = rides-lines told ls
    case-rides _ _ (Shows v t there) = tables _ _ _ (event w _ (Shown line v t (image_at w.events v t)) k refl (tt, tt) (tt, tt) (refl, tt) (histories-append w.events _) refl refl refl refl refl refl refl)
    case-rides _ _ (Stops x on) = tables _ _ _ (event w _ (Stopped x 0) k refl (tt, tt) (tt, tt) (refl, tt) (histories-append w.events _) refl refl refl refl refl refl refl)
    case-rides _ _ (Arms writes torn x) = tables _ _ _ (silently w _ k refl refl refl refl refl refl refl refl)
    case-rides _ _ (Starts x off) =
        let begun = event w _ (Started x) k refl (tt, tt) (tt, tt) (refl, tt) (histories-append w.events _) refl refl refl refl refl refl refl in
        record {
          holds = plan-rides Sound RowsAt K MayDo w (start_plan w.control x) (start-hold x w s) (rider.start_acts x) begun (λ v e k. k) keeps-sound rider.acts;
          moments = moments-ride Sound RowsAt K MayDo w (start_plan w.control x) (start-hold x w s) (rider.start_acts x) begun (λ v e k. k) keeps-sound rider.acts;
          comes = λ v m at.
              let here = rides-comes_to Sound RowsAt K MayDo w (start_plan w.control x) (start-hold x w s) (rider.start_acts x) begun (λ v e k. k) v m at in
              record { rows = here.0.0.sound.rows; allowed = start-allowed x _ _ v m here.1; group = start-group x v m here.1; law = here.0.1 };
          stops = λ q n u v m ends at. absurd (none-comes (EndsEach Carries) u v m at);
          gone = λ armed u r e. inr (λ q. refl);
        }
    case-rides _ _ (MakesFlash dev v t freeze choices) = entries _ _ (along-flash w s dev v t freeze choices)
    case-rides _ _ (RemovesFlash dev v t) = entries _ _ (along-withdraw w s dev v t)
    case-rides _ _ (ResyncsFlash dev v t sequence) = entries _ _ (along-resync w s dev v t sequence)
    case-rides _ _ (ReversesFlash dev v t) = entries _ _ (along-reverse w s dev v t)
    case-rides _ _ (Copies t most) = entries _ _ (along-copy w s t most)
    case-rides _ _ (Destages v) = entries _ _ (along-destage w s v)
    case-rides _ _ (MakesPath src tgt group) = tables _ _ _ (silently w _ k refl refl refl refl refl refl refl refl)
    case-rides _ _ (RemovesPath src tgt) = tables _ _ _ (silently w _ k refl refl refl refl refl refl refl refl)
    case-rides _ _ (MakesPair devs a b kind choices part) = entries _ _ (along-pair w s devs a b kind choices part)
    case-rides _ _ (RemovesPair devs a b source_only) = entries _ _ (along-remove w s devs a b source_only)
    case-rides _ _ (PausesPair devs a b) = entries _ _ (along-pause w s devs a b)
    case-rides _ _ (ResumesPair devs a b kind) = entries _ _ (along-resume w s devs a b kind)
    case-rides _ _ (FailsOver devs b a kind) = entries _ _ (along-failover w s devs b a kind)
    case-rides _ _ (FailsBack devs x y kind) = entries _ _ (along-failback w s devs x y kind)
    case-rides _ _ (Compares contents v u) = entries _ _ (along-compare w s contents v u)
    case-rides _ _ (Drains a most) =
        moves (drain_plan w.control a most) (record { ends = Sound; complete = λ v i. i; begins = sound-begun w s; entries = along-drain w s a most; follows = drains-after w.control a most; last = λ v i. i; turns = λ v i. regroups-same v.control.sessions; adds = λ v i. none-added v; goes = λ v i. goes-same v.control }) begins (λ v e k. k)
    case-rides _ _ (Expires x on) = entries _ _ (lifts x w.control.volumes (as_begun w) (sound-begun w s) on.1)
    case-rides _ _ (Freezes l m) = entries _ _ (freezes l m w.control.volumes (as_begun w) (sound-begun w s))
    case-rides _ _ (Unfreezes l m) = entries _ _ (thaws l m w.control.volumes (as_begun w) (sound-begun w s))
    case-rides _ _ (Releases l) = entries _ _ (releases l w.control.volumes (as_begun w) (sound-begun w s))
    case-rides _ _ (MakesSession l i free) = sessions (joined i l) (λ k. k.flight) _ (groups-joined w.control i l s.groups) (with-joined w.control s.groups s.attempts i l) (flights-joined w.control s.flights s.groups i l) (stays-joined w.control.sessions s.groups.once i l) (none-added w) (goes-joined w.control s.groups i l)
    case-rides _ _ (RemovesSession l i x found free) = sessions (left i l) (λ k. messages.left i l x k.flight) _ (groups-left w.control i l x s.groups found free) (with-left w.control s.groups s.attempts i l x found free) (flights-left w.control s.flights s.groups i l x found free) (stays-left w.control.sessions s.groups.once i l)
        (adds-fewer w.control.sessions w.control.flight (messages.left i l x w.control.flight) (left-fewer i l x w.control.flight)) (goes-left w.control s.groups i l x (left-fewer i l x w.control.flight))
    case-rides _ _ (MakesMirror owner i x found free l owned) =
        let at = owned-volume w.control l owner owned in
        sessions (changed i (mirrored_by owner)) (λ k. messages.raised i k.flight) _ (groups-mirrored w.control i owner x s.groups found (no-maker x.mirror free) at.volume at.defined at.server)
        (with-mirrored w.control s.groups s.attempts i owner x found (no-maker x.mirror free)) (flights-mirrored w.control s.groups s.attempts s.flights i owner x found (no-maker x.mirror free)) (stays-mirrored w.control.sessions s.groups.once i owner)
        (adds-same w.control.sessions w.control.flight (messages.raised i w.control.flight) refl) (goes-mirrored w.control s.groups i owner)
    case-rides _ _ (PausesMirror i on) = sessions (changed i (paused on)) (λ k. k.flight) _ (groups-paused w.control i on s.groups) (with-paused w.control s.groups s.attempts i on) (flights-paused w.control s.groups s.attempts s.flights i on) (stays-paused w.control.sessions s.groups.once i on) (none-added w) (goes-paused w.control s.groups i on)
    case-rides _ _ (RemovesMirror i x found free) = sessions (changed i unmirrored) (λ k. k.flight) _ (groups-unmirrored w.control i x s.groups found free) (with-unmirrored w.control s.groups s.attempts i x found free) (flights-unmirrored w.control s.groups s.attempts s.flights i x found free) (stays-unmirrored w.control.sessions s.groups.once i) (none-added w) (goes-unmirrored w.control s.groups i)
    case-rides _ _ (Aborts i x found free) = sessions (changed i (with_master phases.aborted)) (λ k. messages.aborted i x.mirror k.flight) _ (groups-aborted w.control i s.groups) (with-aborted w.control s.groups s.attempts i) (flights-aborted w.control s.groups s.attempts s.flights i x found) (stays-aborted w.control.sessions s.groups.once i)
        (adds-same w.control.sessions w.control.flight (messages.aborted i x.mirror w.control.flight) (aborted-messages i x.mirror w.control.flight)) (goes-aborted w.control s.groups s.attempts s.flights i x found (aborted-messages i x.mirror w.control.flight))
    case-rides _ _ (AddsMember i a c x joins) =
        let o = orders-added w s i a c x joins in
        turned (added w.control i x (member_with w.control a c)) (λ v. refl) o begins
    case-rides _ _ (RemovesMember i a x m found is idle on) =
        let o = orders-expelled w s i a x m found is idle on in
        turned (expelled i m) (λ v. refl) o begins
    case-rides _ _ (Recovers i x found on) = moves _ (record { ends = Sound; complete = λ v y. y; begins = sound-begun w s; entries = along-recover w s i x found on; follows = λ q. tt; last = λ v y. y; turns = λ v y. regroups-same v.control.sessions; adds = λ v y. none-added v; goes = λ v y. goes-same v.control }) begins (λ v e k. k)
    case-rides _ _ (Settles i x m found here on free hand) = entries _ _ (along-settle w s i x found on free m here)
    case-rides _ _ (Loses n) = sessions (λ ss. ss) (λ k. messages.lost n k.flight) _ s.groups s.attempts (flights-dropped w.control n s.flights) (stays-same w.control.sessions)
        (adds-fewer w.control.sessions w.control.flight (messages.lost n w.control.flight) (λ m here. (from-filter (λ (m : Message). not (m.number == n)) w.control.flight.messages m here).0))
        (goes-fewer w.control (messages.lost n w.control.flight) (λ m here. (from-filter (λ (m : Message). not (m.number == n)) w.control.flight.messages m here).0) (λ t. refl))
    case-rides _ _ (Exchanges i server reply x r o allowed) = turned (ordered i server reply (members_on server x.members) o) (λ v. by reply v) (orders-ordered w s i server x r o allowed reply) begins
      where
        by : (b : Bool) (v : World) → exchanged i server b o.work (members_on server x.members) v.control ≡ record v.control { sessions = (exchanged i server b o.work (members_on server x.members) v.control).sessions; flight = (exchanged i server b o.work (members_on server x.members) v.control).flight }
        by true v = refl
        by false v = refl
    case-rides _ _ (Sends i server x r o posts) = sends i server x r o posts
    case-rides _ _ (Delivers n m starts x r reaches) = turned (order_done m (members_on m.server x.members)) (λ v. refl) (orders-delivered w s n m starts x r reaches) begins
    case-rides _ _ (TakesReply n m reply x r returns) =
        let first : World = as_begun w in
        let f : Session → Session = with_master (λ q. phases.taken q m.server reply) in
        tables (taking m reply) [] (says_phase m.session) (rider.regroups first (changed m.session f w.control.sessions) w.control.flight (sound-begun w s) (sound-taken w s n m reply x r returns) (regroups-stay _ _ (stays-taken w.control.sessions s.groups.once m.session m.server reply)) (none-added w) (goes-back w s n m reply x r returns) begins)

    ending-rides : (p : Plan) → Ending w.control w.events line p → Carried p
    ending-rides _ (OnePlan asked p c) = case-rides asked p c
    ending-rides _ (Imaged vs) = rides-lines (image_told vs) (image-lines vs)

    -- the step, as it is answered
    rides-plan : (p : Plan) → Ending w.control w.events line p → K (after_plan w line p)
    unfolding after_plan
    rides-plan p c =
        let u : World = (carried_out w p).0 in
        let a : Said = answered p u.control (carried_out w p).1 in
        event u (said u line a) (answer line a) (ending-rides p c).holds refl (tt, tt) (tt, tt) (refl, tt) (histories-append u.events (answer line a ∷ [])) refl refl refl refl refl refl refl

  -- masters are lost as a step ends
  lost : (w u : World) → Sound u → K u → K (masters_lost w u)
  lost w u sound k = rider.regroups u (lost_since w.control.on u.control.on u.control.sessions) _ sound (sound-lost w u sound) (regroups-stay _ _ (stays-lost u.control.sessions w.control.on u.control.on))
      (adds-same u.control.sessions u.control.flight (messages.lost_since w.control.on u.control.on u.control.sessions u.control.flight) refl) (goes-lost u.control sound.groups sound.attempts sound.flights w.control.on u.control.on) k

  -- a plan before the last one of its step
  rides-part : (w : World) (p : Plan) → Comes w p → Both Sound K w → Both Sound K (after_part w p)
  rides-part w p comes j =
      let u : World = (carried_out w p).0 in
      let sound : Sound u = sound-carried w p (case-holds w j.0 0 comes.asked p (comes.case 0)) in
      (sound-part w p comes j.0, lost w u sound (case-rides w j.0 j.1 0 comes.asked p (comes.case 0)).holds)

  -- of each plan of a step: after each entry
  pub rides-moments : (w : World) (t : Task) (x : Part) (n : ℕ) → Sound w → K w → In x (plans_of w t) → K (carry (begun x.world x.plan) (take n x.plan.entries)).0
  rides-moments w t x n s k there =
      let b = each-plan (Both Sound K) rides-part w t (s, k) x there in
      (ending-rides x.world b.0.0 b.0.1 t.line x.plan b.1).moments n

  -- where its entries come to a move
  pub rides-comes : (w : World) (t : Task) (x : Part) → Sound w → K w → In x (plans_of w t) → (v : World) (m : Move) → ComesTo Carries (begun x.world x.plan) x.plan.entries v m → MoveComes K v m
  rides-comes w t x s k there =
      let b = each-plan (Both Sound K) rides-part w t (s, k) x there in
      (ending-rides x.world b.0.0 b.0.1 t.line x.plan b.1).comes

  -- K holds as each of them begins
  pub rides-begins : (w : World) (t : Task) (x : Part) → Sound w → K w → In x (plans_of w t) → K x.world
  rides-begins w t x s k there = (each-plan (Both Sound K) rides-part w t (s, k) x there).0.1

  -- wherever it makes a move
  pub rides-makes : (w : World) (t : Task) (x : Part) → Sound w → K w → In x (plans_of w t) → (v : World) (m : Move) → Makes Carries x v m → MoveComes K v m
  rides-makes w t x s k there v m makes =
      let b = each-plan (Both Sound K) rides-part w t (s, k) x there in
      by (ending-rides x.world b.0.0 b.0.1 t.line x.plan b.1) makes
    where
      by : Carried x.world (each-plan (Both Sound K) rides-part w t (s, k) x there).0.0 (each-plan (Both Sound K) rides-part w t (s, k) x there).0.1 t.line x.plan → Makes Carries x v m → MoveComes K v m
      by c (Itself at) = c.comes v m at
      by c (Follows u q n ends at) = c.stops q n u v m ends at

  -- and where a server stopped in them
  pub rides-gone : (w : World) (t : Task) (x : Part) → Sound w → K w → In x (plans_of w t) → (armed : ℕ → Bool) (u : World) (r : Refusal) → Ends armed u (Some r) (begun x.world x.plan) x.plan.entries → Sound u ⊎ ((q : ℕ) → x.plan.follows q ≡ [])
  rides-gone w t x s k there =
      let b = each-plan (Both Sound K) rides-part w t (s, k) x there in
      (ending-rides x.world b.0.0 b.0.1 t.line x.plan b.1).gone

  pub rides-task : (w : World) (t : Task) → Sound w → K w → K (after_task w t)
  rides-task w t s k =
      let x : Part = (course w t).last in
      let j : Both Sound K x.world = last-plan (Both Sound K) rides-part w t (s, k) in
      lost x.world _ (sound-plan x.world t.line x.plan (ending-holds x.world j.0 t.line x.plan (course-case w t))) (rides-plan x.world j.0 j.1 t.line x.plan (course-case w t))

  pub rides-tasks : (w : World) (tasks : List Task) → Sound w → K w → K (after_tasks w tasks)
  unfolding after_tasks
  rides-tasks w [] s k = k
  rides-tasks w (t ∷ tasks) s k = rides-tasks (after_task w t) tasks (sound-task w t s) (rides-task w t s k)
