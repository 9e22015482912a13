-- What acts and steps leave of a world: the writes issued so far, what is within limits, and the journal, which only grows.
use Rattle.std.proofs.Common.{ℕ, ◌≡◌, ◌≤◌, ◌<◌, ◌+◌, List, [], ◌∷◌, ◌++◌, length, refl, ap, ◌∙◌, sym, arith, Bool, true, false, ◌||◌, Option, Some, None, append_assoc, subst, Result}
use Rattle.dr_model.specs.declared.step.Step.{Step}
use Rattle.std.specs.List.{list_any}
use Rattle.std.proofs.lemmas.List.Sums.{fold-append}
use Rattle.std.proofs.lemmas.List.Folds.{list_any-append}
use Rattle.std.proofs.lemmas.List.{append-nil, length-append, length-map}
use Rattle.dr_logic.specs.Tables.{at}
use Rattle.dr_ids.specs.declared.refusal.Refusal.{Refusal}
use Rattle.dr_ids.specs.declared.refusal.Refusal.TheVariants.{Stopped as StoppedIn}
use Rattle.dr_model.specs.declared.event.Event.{Event}
use Rattle.dr_model.specs.declared.event.Event.TheVariants.{Issue, Answer, Ack, Stopped, Started, Frozen, Thawed, Recovered}
use Rattle.dr_model.specs.declared.said.Said.{Said}
use Rattle.dr_model.specs.declared.said.Said.TheVariants.{Done}
use Rattle.dr_model.specs.declared.said.Addition.TheVariants.{Alone, Wrote, Showed}
use Rattle.dr_model.specs.Answers.{answer}
pub use Rattle.dr_model.specs.HeldWrites.{is_answer}
use Rattle.dr_model.specs.Limits.{most_servers, most_volumes, most_tracks, most_pending}
use Rattle.dr_model.specs.Control.{Control, Fuse, Pending, Volume, World, new_volume, nothing}
use Rattle.dr_model.specs.Relations.{rest}
use Rattle.dr_model.specs.Moves.{Move, Land, Overwrite, LandBoth, Hold, told, told_in_stop, landed, target, settled, settled_in_stop, is_other, marked}
use Rattle.dr_model.specs.Carry.{Act, Make, OpenAttempt, Redo, Acknowledge, Drop, EndFreeze, EndThaw, EndRecovery, act, Next, Pass, Do, End, Entry, Outcome, carry, carry_each, continue, go, follow}
use Rattle.dr_model.specs.Plans.{Plan, entries_plan, name_bytes, same, always, none_follow, server_done, volume_done, link_done, with_pending, issue_done, show_done, stop_done, arm_on, starting, start_plan, make_path_done, remove_path_done}
use Rattle.dr_model.specs.Forming.{Part, after_part}
use Rattle.dr_model.specs.Runs.{Task, course, masters_lost, image_told, begun, finish, stop_place, carried_out, answered, after_plan, after_task, after_tasks, run}
use Rattle.dr_model.specs.Phases as phases
use Rattle.dr_ids.specs.declared.names.Member.{Member}
use Rattle.dr_model.specs.Sessions.{Session, joined, left, changed, begun as attempted, mirrored_by, paused, unmirrored, raised, with_master, with_member, without_member}
use Rattle.dr_model.specs.SessionEntries.{members_on, first_number, reply_after}
use Rattle.dr_model.specs.Messages.{lost}
use Rattle.dr_model.specs.MessagePlans.{with_flight, says_posted, sending, told_begun, taking}
use Rattle.dr_model.specs.SessionPlans.{with_sessions, table_plan, appointed, leaving, aborting, exchanged, says_phase, is_idle, member_with}
use Rattle.dr_facts.proofs.Emits.{Of, Lists as ByEvents, by_moves, any-lists, emitted, stop-onto, all-told}
use Rattle.dr_laws_sound.specs.Limits.{IsWithin}
use Rattle.dr_facts.proofs.Sessions.{length-changed, changed-twice, length-left, joined-few}
use Rattle.dr_model.specs.RecoveryPlans.{decided_in, recover_done}
use Rattle.dr_laws_sound.proofs.Cases.{Case, Says, DefinesServer, DefinesVolume, SetsLink, Issues, Writes, Applies, Lists, Shows, Stops, Arms, Starts, MakesFlash, RemovesFlash, ResyncsFlash, ReversesFlash, Copies, Destages, MakesPath, RemovesPath, MakesPair, RemovesPair, PausesPair, ResumesPair, FailsOver, FailsBack, Compares, Drains, Expires, Freezes, Unfreezes, MakesSession, RemovesSession, MakesMirror, PausesMirror, RemovesMirror, Aborts, AddsMember, RemovesMember, Exchanges, Sends, Delivers, TakesReply, Loses, Recovers, Settles, servers-left, is-new, may-issue, Releases}
use Rattle.dr_laws_sound.proofs.Listed.{lines-plain, image-lines}
use Rattle.dr_laws_sound.proofs.Parts.{Comes, Ending, OnePlan, Imaged, course-case, last-plan}
use Rattle.dr_facts.proofs.Tables.{at_cases, at_part}
use Rattle.dr_laws_sound.proofs.Turns.{act-cases, Counts, after_act, server_of}
use Rattle.dr_logic.proofs.Lists.{filter-shorter}

-- what acts leave of the tables: the names, the volumes, their sizes and how many writes were issued; and no more of them
-- are pending
pub record Stays (j k : Control) : Type 0 where
  pub servers : k.servers ≡ j.servers
  pub tracks : (v : ℕ) → (k.volume v).tracks ≡ (j.volume v).tracks
  pub volumes : k.volumes ≡ j.volumes
  pub issued : k.issued ≡ j.issued
  pub pending : length k.pending ≤ length j.pending
  pub sessions : length k.sessions ≤ length j.sessions

-- no answer is among them
abbrev pub NoAnswer : List Event → Type 0
NoAnswer events = list_any is_answer events ≡ false

none-append : (es fs : List Event) → NoAnswer es → NoAnswer fs → NoAnswer (es ++ fs)
none-append es fs first rest = list_any-append is_answer es fs ∙ ap (λ b. b || list_any is_answer fs) first ∙ rest

-- acts add events to the journal, and no answer
pub record Onward (w u : World) : Type 0 where
  pub stays : Stays w.control u.control
  pub added : List Event
  pub events : u.events ≡ w.events ++ added
  pub silent : NoAnswer added

stays-same : (k : Control) → Stays k k
stays-same k = record { servers = refl; tracks = λ v. refl; volumes = refl; issued = refl; pending = omega arith; sessions = omega arith }

stays-sessions : (f : List Session → List Session) (k : Control) → length (f k.sessions) ≤ length k.sessions → Stays k (with_sessions f k)
stays-sessions f k few = record { servers = refl; tracks = λ v. refl; volumes = refl; issued = refl; pending = omega arith; sessions = few }

stays-then : (i j k : Control) → Stays i j → Stays j k → Stays i k
stays-then i j k p q = record {
  servers = q.servers ∙ p.servers;
  tracks = λ v. q.tracks v ∙ p.tracks v;
  volumes = q.volumes ∙ p.volumes;
  issued = q.issued ∙ p.issued;
  pending = let a : length j.pending ≤ length i.pending = p.pending in let b : length k.pending ≤ length j.pending = q.pending in omega arith;
  sessions = let a : length j.sessions ≤ length i.sessions = p.sessions in let b : length k.sessions ≤ length j.sessions = q.sessions in omega arith;
}

onward-same : (w : World) → Onward w w
onward-same w = record { stays = stays-same w.control; added = []; events = sym (append-nil w.events); silent = refl }

onward-then : (w u v : World) → Onward w u → Onward u v → Onward w v
onward-then w u v p q = record {
  stays = stays-then w.control u.control v.control p.stays q.stays;
  added = p.added ++ q.added;
  events = q.events ∙ ap (λ es. es ++ q.added) p.events ∙ append_assoc w.events p.added q.added;
  silent = none-append p.added q.added p.silent q.silent;
}

-- the queue gets no longer
length-marked : (n : ℕ) (ps : List Pending) → length (marked n ps) ≡ length ps
length-marked n [] = refl
length-marked n (p ∷ ps) = let e : length (marked n ps) ≡ length ps = length-marked n ps in omega arith

-- what a move makes of it
settled-fewer : (m : Move) (ps : List Pending) → length (settled m ps) ≤ length ps
settled-fewer (Land n v t) ps = filter-shorter (is_other n) ps
settled-fewer (Overwrite n v t) ps = filter-shorter (is_other n) ps
settled-fewer (LandBoth n v t) ps = filter-shorter (is_other n) ps
settled-fewer m ps = omega arith

stop-fewer : (m : Move) (ps : List Pending) → length (settled_in_stop m ps) ≤ length ps
stop-fewer (Land n v t) ps = let e : length (marked n ps) ≡ length ps = length-marked n ps in omega arith
stop-fewer (Overwrite n v t) ps = let e : length (marked n ps) ≡ length ps = length-marked n ps in omega arith
stop-fewer (LandBoth n v t) ps = let e : length (marked n ps) ≡ length ps = length-marked n ps in omega arith
stop-fewer m ps = omega arith

-- no move tells an answer
no-answer : (e : Event) → Of by_moves e → is_answer e ≡ false
no-answer (Answer line kind a b c) by = absurd cc
no-answer e by = refl

unanswered : ByEvents (Of by_moves) NoAnswer
unanswered = any-lists (Of by_moves) is_answer no-answer

-- a move leaves each volume its size
move-tracks : (w : World) (m : Move) (y : Volume) → y.tracks ≡ (w.control.volume (target m)).tracks → (v : ℕ) → (at w.control.volume (target m) y v).tracks ≡ (w.control.volume v).tracks
move-tracks w m y e v = at_part (λ (x : Volume). x.tracks) w.control.volume (target m) y e v

done-onward : (w : World) (a : Act) (f : Option Fuse) → Onward w (after_act w a f)
done-onward w (Make m) f =
    let u : Volume = w.control.volume (target m) in
    record { stays = record { servers = refl; tracks = move-tracks w m _ refl; volumes = refl; issued = refl; pending = settled-fewer m w.control.pending; sessions = omega arith }; added = told m u; events = refl; silent = all-told _ unanswered m u }
done-onward w (OpenAttempt v s n) f =
    let m : Move = Hold v s n true in
    let u : Volume = w.control.volume v in record { stays = record { servers = refl; tracks = move-tracks w m _ refl; volumes = refl; issued = refl; pending = omega arith; sessions = length-changed s attempted w.control.sessions }; added = told m u; events = refl; silent = all-told _ unanswered m u }
done-onward w (Redo v) f = record { stays = record { servers = refl; tracks = λ v. refl; volumes = refl; issued = refl; pending = omega arith; sessions = omega arith }; added = []; events = sym (append-nil w.events); silent = refl }
done-onward w (Acknowledge n) f = record { stays = record { servers = refl; tracks = λ v. refl; volumes = refl; issued = refl; pending = filter-shorter (is_other n) w.control.pending; sessions = omega arith }; added = Ack n ∷ []; events = refl; silent = refl }
done-onward w (Drop n) f = record { stays = record { servers = refl; tracks = λ v. refl; volumes = refl; issued = refl; pending = filter-shorter (is_other n) w.control.pending; sessions = omega arith }; added = []; events = sym (append-nil w.events); silent = refl }
done-onward w (EndFreeze l m) f = record { stays = record { servers = refl; tracks = λ v. refl; volumes = refl; issued = refl; pending = omega arith; sessions = omega arith }; added = Frozen l m ∷ []; events = refl; silent = refl }
done-onward w (EndThaw l m) f = record { stays = record { servers = refl; tracks = λ v. refl; volumes = refl; issued = refl; pending = omega arith; sessions = omega arith }; added = Thawed l m ∷ []; events = refl; silent = refl }
done-onward w (EndRecovery s n) f = record { stays = record { servers = refl; tracks = λ v. refl; volumes = refl; issued = refl; pending = omega arith; sessions = omega arith }; added = Recovered s n ∷ []; events = refl; silent = refl }

counts-onward : (w : World) (a : Act) → Counts w a (λ t. Onward w t.0)
counts-onward w (Make m) = λ f.
    let u : Volume = w.control.volume (target m) in
    record {
      stays = record { servers = refl; tracks = move-tracks w m _ refl; volumes = refl; issued = refl; pending = stop-fewer m w.control.pending; sessions = omega arith };
      added = told_in_stop m u ++ Stopped u.server (landed m) ∷ [];
      events = refl;
      silent = stop-onto by_moves _ unanswered m u (Stopped u.server (landed m) ∷ []) (emitted m) refl;
    }
counts-onward w (OpenAttempt v s n) = λ f.
    let m : Move = Hold v s n true in
    let u : Volume = w.control.volume v in
    record {
      stays = record { servers = refl; tracks = move-tracks w m _ refl; volumes = refl; issued = refl; pending = omega arith; sessions = length-changed s attempted w.control.sessions };
      added = told_in_stop m u ++ Stopped u.server 0 ∷ [];
      events = refl;
      silent = stop-onto by_moves _ unanswered m u (Stopped u.server 0 ∷ []) (emitted m) refl;
    }
counts-onward w (Redo v) = tt
counts-onward w (Acknowledge n) = tt
counts-onward w (Drop n) = tt
counts-onward w (EndFreeze l m) = tt
counts-onward w (EndThaw l m) = tt
counts-onward w (EndRecovery s n) = tt

act-onward : (w : World) (a : Act) → Onward w (act w a).0
act-onward w a = act-cases w a (λ t. Onward w t.0) (λ d off. onward-same w) (done-onward w a) (counts-onward w a)
    (λ d f. record { stays = record { servers = refl; tracks = λ v. refl; volumes = refl; issued = refl; pending = omega arith; sessions = omega arith }; added = Stopped (server_of w a) 0 ∷ []; events = refl; silent = refl })

continue-onward : (w u : World) (server : Option ℕ) (next : World → Outcome) → ((v : World) → Onward v (next v).0) → Onward w u → Onward w (continue u server next).0
continue-onward w u None next each on = onward-then w u _ on (each u)
continue-onward w u (Some s) next each on = on

go-onward : (w : World) (x : Next) (next : World → Outcome) → ((v : World) → Onward v (next v).0) → Onward w (go w x next).0
go-onward w Pass next each = each w
go-onward w (End r) next each = onward-same w
go-onward w (Do a) next each = continue-onward w (act w a).0 (act w a).1 next each (act-onward w a)

pub carry-onward : (w : World) (entries : List Entry) → Onward w (carry w entries).0
unfolding carry
carry-onward w [] = onward-same w
carry-onward w (d ∷ ds) = go-onward w (d w.control) (λ v. carry v ds) (λ v. carry-onward v ds)

-- What a step may do: issue one write, and stay within the limits; and what it tells is no answer.
pub record AnswersNothing (k : Control) (p : Plan) : Type 0 where
  pub one : (p.first k).issued ≤ k.issued + 1
  pub within : IsWithin k → IsWithin (p.first k)
  pub last : (j : Control) → Stays j (p.last j)
  pub silent : NoAnswer p.told

each-onward : (w : World) (entries : List Entry) → Onward w (carry_each w entries)
each-onward w [] = onward-same w
each-onward w (d ∷ ds) = onward-then w (carry w (d ∷ [])).0 _ (carry-onward w (d ∷ [])) (each-onward (carry w (d ∷ [])).0 ds)

follow-onward : (w : World) (r : Refusal) (follows : List Entry) → Onward w (follow w r follows)
follow-onward w (StoppedIn s) follows = each-onward w follows
follow-onward w r follows = onward-same w

finish-onward : (k : Control) (p : Plan) → (m : AnswersNothing k p) → (n : ℕ) (w : World) (r : Option Refusal) → Onward w (finish p n w r)
finish-onward k p m n w None = record { stays = m.last w.control; added = []; events = sym (append-nil w.events); silent = refl }
finish-onward k p m n w (Some r) = follow-onward w r (p.follows n)

module _ (w : World) (p : Plan) (m : AnswersNothing w.control p) where
  carried_out-onward : Onward (begun w p) (carried_out w p).0
  carried_out-onward =
      let o : Outcome = carry (begun w p) p.entries in
      onward-then (begun w p) o.0 _ (carry-onward (begun w p) p.entries) (finish-onward w.control p m (stop_place w p) o.0 o.1)

  pub after_plan-stays : (line : ℕ) → Stays (p.first w.control) (after_plan w line p).control
  unfolding after_plan
  after_plan-stays line = carried_out-onward.stays

-- a step adds to the journal, and last its answer
pub record EndsAnswered (w : World) (line : ℕ) (u : World) : Type 0 where
  pub before : List Event
  pub silent : NoAnswer before
  pub says : Said
  pub events : u.events ≡ (w.events ++ before) ++ answer line says ∷ []

pub after_plan-ends : (w : World) (line : ℕ) (p : Plan) → AnswersNothing w.control p → EndsAnswered w line (after_plan w line p)
unfolding after_plan
after_plan-ends w line p m =
    let goes : Onward (begun w p) (carried_out w p).0 = carried_out-onward w p m in
    record {
      before = p.told ++ goes.added;
      silent = none-append p.told goes.added m.silent goes.silent;
      says = answered p (carried_out w p).0.control (carried_out w p).1;
      events = ap (λ es. es ++ answer line (answered p (carried_out w p).0.control (carried_out w p).1) ∷ []) (goes.events ∙ append_assoc w.events p.told goes.added);
    }

-- every plan of a step is such
module _ (k : Control) where
  answers-nothing : (first : Control → Control) (told : List Event) (entries : List Entry) (says : Control → Said) → (first k).issued ≤ k.issued + 1 → (IsWithin k → IsWithin (first k)) → NoAnswer told
      → AnswersNothing k (record { first = first; told = told; entries = entries; follows = none_follow; last = same; says = says })
  answers-nothing first told entries says one within unanswered = record { one = one; within = within; last = stays-same; silent = unanswered }

  abbrev Unmoved : Control → Type 0
  Unmoved j = (length j.sessions ≤ length k.sessions) × ((length j.servers ≡ length k.servers) × ((length j.volumes ≡ length k.volumes) × ((length j.pending ≡ length k.pending) × ((v : ℕ) → (j.volume v).tracks ≡ (k.volume v).tracks))))

  -- the tables with limits stay
  quiet : (first : Control → Control) (told : List Event) (entries : List Entry) (says : Control → Said) → (first k).issued ≡ k.issued → Unmoved (first k) → NoAnswer told
      → AnswersNothing k (record { first = first; told = told; entries = entries; follows = none_follow; last = same; says = says })
  quiet first told entries says issued stays unanswered = answers-nothing first told entries says (omega arith) within unanswered
    where
      within : IsWithin k → IsWithin (first k)
      within h = record {
        servers = subst (λ n. n ≤ most_servers) (sym stays.1.0) h.servers;
        volumes = subst (λ n. n ≤ most_volumes) (sym stays.1.1.0) h.volumes;
        pending = subst (λ n. n ≤ most_pending) (sym stays.1.1.1.0) h.pending;
        tracks = λ v. subst (λ n. n ≤ most_tracks) (sym (stays.1.1.1.1 v)) (h.tracks v);
        sessions = (let a : length (first k).sessions ≤ length k.sessions = stays.0 in let b : length k.sessions ≤ 4 = h.sessions in omega arith);
      }

  unmoved : Unmoved k
  unmoved = (omega arith, (refl, (refl, (refl, λ v. refl))))

  -- the table of sessions changes, and has no more of them
  retabled : (f : List Session → List Session) → length (f k.sessions) ≤ length k.sessions → Unmoved (with_sessions f k)
  retabled f few = (few, (refl, (refl, (refl, λ v. refl))))

  entries-answer_nothing : (entries : List Entry) (said : Said) → AnswersNothing k (entries_plan entries said)
  entries-answer_nothing entries said = quiet same [] entries (always said) refl unmoved refl

  room-more : {X : Type 0} (xs : List X) (x : X) (n : ℕ) → length xs < n → length (xs ++ x ∷ []) ≤ n
  room-more xs x n lt = let e : length (xs ++ x ∷ []) ≡ length xs + 1 = length-append xs (x ∷ []) in omega arith

  issue-answers_nothing : (v t offset len : ℕ) (bytes : List ℕ) → length k.pending < most_pending → AnswersNothing k (issue_done k v t offset len bytes)
  issue-answers_nothing v t offset len bytes left =
      answers-nothing (with_pending v t) (Issue (k.issued + 1) v t offset len bytes ∷ []) [] (always (Done (Wrote (k.issued + 1)))) (omega arith)
      (λ h. record { servers = h.servers; volumes = h.volumes; pending = room-more k.pending (record { w = k.issued + 1; volume = v; track = t; landed = false }) most_pending left; tracks = h.tracks; sessions = h.sessions }) refl

  -- a volume is defined, which isn't too large
  sizes-within : (v s tracks : ℕ) → tracks ≤ most_tracks → IsWithin k → (u : ℕ) → (at k.volume v (new_volume s tracks) u).tracks ≤ most_tracks
  sizes-within v s tracks small h = at_cases (λ u (x : Volume). x.tracks ≤ most_tracks) k.volume v (new_volume s tracks) small (λ q ne. h.tracks q)

  case-answers_nothing : (events : List Event) (line : ℕ) (asked : Result Step ℕ) (p : Plan) → Case k events line asked p → AnswersNothing k p
  case-answers_nothing events line _ _ (Says a waits why) = quiet same [] [] (always a) refl unmoved refl
  case-answers_nothing events line _ _ (DefinesServer name free) =
      answers-nothing (server_done k name).first (server_done k name).told [] (always (Done Alone)) (omega arith)
      (λ h. record { servers = room-more k.servers (name_bytes name) most_servers (servers-left k (name_bytes name) free); volumes = h.volumes; pending = h.pending; tracks = h.tracks; sessions = h.sessions }) refl
  case-answers_nothing events line _ _ (DefinesVolume v s tracks here free) =
      let new = is-new k v s tracks free in
      answers-nothing (volume_done v s tracks).first (volume_done v s tracks).told [] (always (Done Alone)) (omega arith)
      (λ h. record { servers = h.servers; volumes = room-more k.volumes v most_volumes new.left; pending = h.pending; tracks = sizes-within v s tracks new.small h; sessions = h.sessions }) refl
  case-answers_nothing events line _ _ (SetsLink a b up) = quiet (link_done a b up).first [] [] (always (Done Alone)) refl unmoved refl
  case-answers_nothing events line _ _ (Issues v t offset len bytes free) = issue-answers_nothing v t offset len bytes (may-issue k v t free).1
  case-answers_nothing events line _ _ (Writes v t offset len bytes free) =
      let issues : AnswersNothing k (issue_done k v t offset len bytes) = issue-answers_nothing v t offset len bytes (may-issue k v t free).1 in record { one = issues.one; within = issues.within; last = issues.last; silent = issues.silent }
  case-answers_nothing events line _ _ (Applies n p found) = record { one = omega arith; within = λ h. h; last = stays-same; silent = refl }
  case-answers_nothing events line _ _ (Lists told ls few) = quiet same told [] (always (Done Alone)) refl unmoved (lines-plain told ls).silent
  case-answers_nothing events line _ _ (Shows v t there) = quiet same (show_done events line v t).told [] (always (Done Showed)) refl unmoved refl
  case-answers_nothing events line _ _ (Stops s on) = quiet (stop_done s).first (Stopped s 0 ∷ []) [] (always (Done Alone)) refl unmoved refl
  case-answers_nothing events line _ _ (Arms writes torn s) = quiet (arm_on writes torn s).first [] [] (always (Done Alone)) refl unmoved refl
  case-answers_nothing events line _ _ (Starts s off) = quiet (starting s) (Started s ∷ []) (start_plan k s).entries (start_plan k s).says refl unmoved refl
  case-answers_nothing events line _ _ (MakesFlash dev s t freeze choices) = entries-answer_nothing _ _
  case-answers_nothing events line _ _ (RemovesFlash dev s t) = entries-answer_nothing _ _
  case-answers_nothing events line _ _ (ResyncsFlash dev s t sequence) = entries-answer_nothing _ _
  case-answers_nothing events line _ _ (ReversesFlash dev s t) = entries-answer_nothing _ _
  case-answers_nothing events line _ _ (Copies t most) = entries-answer_nothing _ _
  case-answers_nothing events line _ _ (Destages v) = entries-answer_nothing _ _
  case-answers_nothing events line _ _ (MakesPath src tgt group) = quiet (make_path_done src tgt group).first [] [] (always (Done Alone)) refl unmoved refl
  case-answers_nothing events line _ _ (RemovesPath src tgt) = quiet (remove_path_done src tgt).first [] [] (always (Done Alone)) refl unmoved refl
  case-answers_nothing events line _ _ (MakesPair devs a b kind choices part) = entries-answer_nothing _ _
  case-answers_nothing events line _ _ (RemovesPair devs a b source_only) = entries-answer_nothing _ _
  case-answers_nothing events line _ _ (PausesPair devs a b) = entries-answer_nothing _ _
  case-answers_nothing events line _ _ (ResumesPair devs a b kind) = entries-answer_nothing _ _
  case-answers_nothing events line _ _ (FailsOver devs b a kind) = entries-answer_nothing _ _
  case-answers_nothing events line _ _ (FailsBack devs x y kind) = entries-answer_nothing _ _
  case-answers_nothing events line _ _ (Compares contents v u) = entries-answer_nothing _ _
  case-answers_nothing events line _ _ (Drains a most) = record { one = omega arith; within = λ h. h; last = stays-same; silent = refl }
  case-answers_nothing events line _ _ (Expires s on) = entries-answer_nothing _ _
  case-answers_nothing events line _ _ (Freezes l m) = entries-answer_nothing _ _
  case-answers_nothing events line _ _ (Unfreezes l m) = entries-answer_nothing _ _
  case-answers_nothing events line _ _ (Releases l) = entries-answer_nothing _ _
  case-answers_nothing events line _ _ (MakesSession l s free) = answers-nothing (table_plan (joined s l)).first [] [] (always (Done Alone)) (omega arith)
      (λ h. record { servers = h.servers; volumes = h.volumes; pending = h.pending; tracks = h.tracks; sessions = joined-few k.sessions s l h.sessions free }) refl
  case-answers_nothing events line _ _ (RemovesSession l s x found free) = quiet (leaving s l x) [] [] (always (Done Alone)) refl (retabled (left s l) (length-left k.sessions s l)) refl
  case-answers_nothing events line _ _ (MakesMirror owner s x found free l owned) = quiet (appointed s owner) [] [] (always (Done Alone)) refl (retabled (changed s (mirrored_by owner)) (length-changed s (mirrored_by owner) k.sessions)) refl
  case-answers_nothing events line _ _ (PausesMirror s on) = quiet (table_plan (changed s (paused on))).first [] [] (always (Done Alone)) refl (retabled (changed s (paused on)) (length-changed s (paused on) k.sessions)) refl
  case-answers_nothing events line _ _ (RemovesMirror s x found free) = quiet (table_plan (changed s unmirrored)).first [] [] (always (Done Alone)) refl (retabled (changed s unmirrored) (length-changed s unmirrored k.sessions)) refl
  case-answers_nothing events line _ _ (Aborts s x found free) = quiet (aborting s x.mirror) [] [] (says_phase s) refl (retabled (changed s (with_master phases.aborted)) (length-changed s (with_master phases.aborted) k.sessions)) refl
  case-answers_nothing events line _ _ (AddsMember s a c x joins) =
      let m : Member = member_with k a c in
      let n : ℕ = first_number k x.last m in
      record { one = omega arith; within = λ h. h; last = λ j. stays-sessions (λ ss. changed s (with_member m) (changed s (raised n) ss)) j (changed-twice s (with_member m) (raised n) j.sessions); silent = refl }
  case-answers_nothing events line _ _ (RemovesMember s a x m found is idle on) = record { one = omega arith; within = λ h. h; last = λ j. stays-sessions (changed s (without_member m.a.0)) j (length-changed s (without_member m.a.0) j.sessions); silent = refl }
  case-answers_nothing events line _ _ (Recovers s x found on) = quiet same [] (recover_done s (decided_in s k) x.members).entries (recover_done s (decided_in s k) x.members).says refl unmoved refl
  case-answers_nothing events line _ _ (Settles s x m found here on free hand) = entries-answer_nothing _ _
  case-answers_nothing events line _ _ (Sends s server x r o posts) =
      quiet (sending s (is_idle r.master.phase) server o) (told_begun (is_idle r.master.phase) s o.number) [] says_posted refl (few (is_idle r.master.phase), (refl, (refl, (refl, λ v. refl)))) (silent (is_idle r.master.phase))
    where
      few : (b : Bool) → length (sending s b server o k).sessions ≤ length k.sessions
      few true = length-changed s attempted k.sessions
      few false = omega arith

      silent : (b : Bool) → NoAnswer (told_begun b s o.number)
      silent true = refl
      silent false = refl
  case-answers_nothing events line _ _ (Delivers n m starts x r reaches) =
      record { one = omega arith; within = λ h. h; last = λ j. record { servers = refl; tracks = λ v. refl; volumes = refl; issued = refl; pending = omega arith; sessions = omega arith }; silent = refl }
  case-answers_nothing events line _ _ (TakesReply n m reply x r returns) =
      let f : Session → Session = with_master (λ q. phases.taken q m.server reply) in quiet (taking m reply) [] [] (says_phase m.session) refl (retabled (changed m.session f) (length-changed m.session f k.sessions)) refl
  case-answers_nothing events line _ _ (Loses n) = quiet (with_flight (lost n)) [] [] (always (Done Alone)) refl unmoved refl
  case-answers_nothing events line _ _ (Exchanges s server reply x r o allowed) = record { one = omega arith; within = λ h. h; last = by reply; silent = refl }
    where
      by : (b : Bool) (j : Control) → Stays j (exchanged s server b o.work (members_on server x.members) j)
      by true j = record { servers = refl; tracks = λ v. refl; volumes = refl; issued = refl; pending = omega arith; sessions = length-changed s (with_master (λ m. phases.taken m server (reply_after s o.work (members_on server x.members) j))) j.sessions }
      by false j = record { servers = refl; tracks = λ v. refl; volumes = refl; issued = refl; pending = omega arith; sessions = omega arith }

pub ending-answers_nothing : (k : Control) (events : List Event) (line : ℕ) (p : Plan) → Ending k events line p → AnswersNothing k p
ending-answers_nothing k events line _ (OnePlan asked p c) = case-answers_nothing k events line asked p c
ending-answers_nothing k events line _ (Imaged vs) = quiet k same (image_told vs) [] (always (Done Alone)) refl (unmoved k) (lines-plain (image_told vs) (image-lines vs)).silent

-- masters are lost as a step ends, and sessions are as many
pub few-lost : (w u : World) (k : Control) → length u.control.sessions ≤ length k.sessions → length (masters_lost w u).control.sessions ≤ length k.sessions
few-lost w u k le = let e : length (masters_lost w u).control.sessions ≡ length u.control.sessions = length-map _ _ in omega arith

-- a plan before the last one of its step adds to the journal, and no answer
pub onward-part : (w : World) (p : Plan) → Comes w p → Onward w (after_part w p)
onward-part w p comes =
    let goes : Onward (begun w p) (carried_out w p).0 = carried_out-onward w p (case-answers_nothing w.control w.events 0 comes.asked p (comes.case 0)) in
    record {
      stays = subst (λ k. Stays k (after_part w p).control) (comes.first w.control) (record { servers = goes.stays.servers; tracks = goes.stays.tracks; volumes = goes.stays.volumes; issued = goes.stays.issued; pending = goes.stays.pending; sessions = few-lost w (carried_out w p).0 (begun w p).control goes.stays.sessions });
      added = goes.added;
      events = goes.events ∙ ap (λ es. es ++ goes.added) (ap (λ es. w.events ++ es) comes.told ∙ append-nil w.events);
      silent = goes.silent;
    }

pub onward-last : (w : World) (t : Task) → Onward w (course w t).last.world
onward-last w t = last-plan (Onward w) (λ u p comes on. onward-then w u _ on (onward-part u p comes)) w t (onward-same w)

pub answers_nothing-last : (w : World) (t : Task) → let x : Part = (course w t).last in AnswersNothing x.world.control x.plan
answers_nothing-last w t = let x : Part = (course w t).last in ending-answers_nothing x.world.control x.world.events t.line x.plan (course-case w t)

pub after_task-ends : (w : World) (t : Task) → EndsAnswered w t.line (after_task w t)
after_task-ends w t =
    let x : Part = (course w t).last in
    let o : Onward w x.world = onward-last w t in
    let e : EndsAnswered x.world t.line (after_plan x.world t.line x.plan) = after_plan-ends x.world t.line x.plan (answers_nothing-last w t) in
    record {
      before = o.added ++ e.before;
      silent = none-append o.added e.before o.silent e.silent;
      says = e.says;
      events = e.events ∙ ap (λ es. es ++ answer t.line e.says ∷ []) (ap (λ es. es ++ e.before) o.events ∙ append_assoc w.events o.added e.before);
    }

pub after_task-grows : (w : World) (t : Task) → (es : List Event) × ((after_task w t).events ≡ w.events ++ es)
after_task-grows w t =
    let ends : EndsAnswered w t.line (after_task w t) = after_task-ends w t in
    (ends.before ++ answer t.line ends.says ∷ [], ends.events ∙ append_assoc w.events ends.before (answer t.line ends.says ∷ []))

-- a run with one step more
pub run-more : (tasks : List Task) (t : Task) → run (tasks ++ t ∷ []) ≡ after_task (run tasks) t
unfolding after_tasks
run-more tasks t = fold-append after_task nothing tasks (t ∷ [])

pub after_tasks-grows : (w : World) (tasks : List Task) → (es : List Event) × ((after_tasks w tasks).events ≡ w.events ++ es)
unfolding after_tasks
after_tasks-grows w [] = ([], sym (append-nil w.events))
after_tasks-grows w (t ∷ tasks) =
    let first : (es : List Event) × ((after_task w t).events ≡ w.events ++ es) = after_task-grows w t in
    let rest : (es : List Event) × ((after_tasks (after_task w t) tasks).events ≡ (after_task w t).events ++ es) = after_tasks-grows (after_task w t) tasks in
    (first.0 ++ rest.0, rest.1 ∙ ap (λ es. es ++ rest.0) first.1 ∙ append_assoc w.events first.0 rest.0)

pub issued-task : (w : World) (t : Task) → (after_task w t).control.issued ≤ w.control.issued + 1
issued-task w t =
    let x : Part = (course w t).last in
    let m : AnswersNothing x.world.control x.plan = answers_nothing-last w t in
    let few : (x.plan.first x.world.control).issued ≤ w.control.issued + 1 = subst (λ n. (x.plan.first x.world.control).issued ≤ n + 1) (onward-last w t).stays.issued m.one in
    subst (λ n. n ≤ w.control.issued + 1) (sym (after_plan-stays x.world x.plan m t.line).issued) few

pub issued-tasks : (w : World) (tasks : List Task) → (after_tasks w tasks).control.issued ≤ w.control.issued + length tasks
unfolding after_tasks
issued-tasks w [] = omega arith
issued-tasks w (t ∷ tasks) =
    let one : (after_task w t).control.issued ≤ w.control.issued + 1 = issued-task w t in
    let rest : (after_tasks (after_task w t) tasks).control.issued ≤ (after_task w t).control.issued + length tasks = issued-tasks (after_task w t) tasks in
    omega arith

pub issued-run : (tasks : List Task) → (run tasks).control.issued ≤ length tasks
issued-run tasks = let h : (run tasks).control.issued ≤ 0 + length tasks = issued-tasks nothing tasks in omega arith

-- the journal is longer after a step
pub after_task-longer : (w : World) (t : Task) → length w.events < length (after_task w t).events
after_task-longer w t =
    let ends : EndsAnswered w t.line (after_task w t) = after_task-ends w t in
    let last : List Event = answer t.line ends.says ∷ [] in
    let is : length (after_task w t).events ≡ length w.events + length ends.before + 1 =
    ap length ends.events ∙ length-append (w.events ++ ends.before) last ∙ ap (λ n. n + 1) (length-append w.events ends.before) in
    omega arith
