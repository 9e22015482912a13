-- Each step leaves a sound world, and so does each run.
use Rattle.std.proofs.Common.{ℕ, ◌≡◌, ◌+◌, refl, ap, sym, ◌∙◌, subst, Bool, false, cond, List, [], ◌∷◌, ◌++◌, length, take, Option, Some, None, arith, Result}
use Rattle.dr_model.specs.declared.step.Step.{Step}
use Rattle.std.proofs.lemmas.List.{append-nil}
use Rattle.std.specs.List.{find}
use Rattle.dr_logic.specs.Tables.{at}
use Rattle.dr_ids.specs.Links.{joins}
use Rattle.dr_ids.specs.Paths.{Path, with_path, without_path}
use Rattle.dr_model.specs.declared.event.Event.{Event}
use Rattle.dr_model.specs.declared.event.Event.TheVariants.{Server as ServerDefined, Stopped, Shown}
use Rattle.dr_model.specs.declared.said.Addition.TheVariants.{Alone}
use Rattle.dr_model.specs.declared.said.Said.{Said}
use Rattle.dr_model.specs.declared.said.Said.TheVariants.{Done}
use Rattle.dr_model.specs.Answers.{answer}
use Rattle.dr_model.specs.Contents.{image, image_at}
use Rattle.dr_model.specs.Histories.{histories, after_event}
use Rattle.dr_model.specs.Control.{Control, Pending, Fuse, World, nothing}
use Rattle.dr_model.specs.Moves.{is_write}
use Rattle.dr_model.specs.Carry.{carry}
use Rattle.dr_model.specs.Plans.{Plan, same, only_says, tables_plan, name_bytes, issue_done, write_done, apply_done, torn_bytes}
use Rattle.dr_model.specs.Forming.{Part, after_part}
use Rattle.dr_model.specs.Runs.{Task, course, plans_of, begun, carried_out, said, after_plan, after_task, after_tasks, run, image_told}
use Rattle.dr_model.specs.Messages.{lost}
use Rattle.dr_model.specs.Groups.{In, Housed}
use Rattle.dr_model.specs.Table.{table}
use Rattle.dr_model.specs.Laws.{SoundRows, Sound}
use Rattle.dr_model.proofs.Images.{histories-append}
use Rattle.dr_model.proofs.LawfulLemmas.{lawful-no_fields}
use Rattle.dr_laws_sessions.proofs.Housed.{housed-none, housed-server}
use Rattle.dr_laws_attempts.proofs.Volumes.{attempts-none}
use Rattle.dr_laws_messages.proofs.Still.{flights-none}
use Rattle.dr_laws_messages.proofs.Messages.{flights-dropped}
use Rattle.dr_model.specs.Listings.{lists}
use Rattle.dr_laws_sound.proofs.Listed.{AllLines, lines-plain, lines-lists, image-lines}
use Rattle.dr_laws_sound.proofs.Cases.{Case, Says, DefinesServer, DefinesVolume, SetsLink, Issues, Writes, Applies, Lists, Shows, Stops, Arms, Starts, MakesFlash, RemovesFlash, ResyncsFlash, ReversesFlash, Copies, Destages, MakesPath, RemovesPath, MakesPair, RemovesPair, PausesPair, ResumesPair, FailsOver, FailsBack, Compares, Drains, Expires, Freezes, Unfreezes, MakesSession, RemovesSession, MakesMirror, PausesMirror, RemovesMirror, Aborts, AddsMember, RemovesMember, Exchanges, Sends, Delivers, TakesReply, Loses, Recovers, Settles, IsTrack, servers-left, is-new, may-issue, Releases}
use Rattle.dr_laws_sound.proofs.Parts.{Comes, Ending, OnePlan, Imaged, course-case, each-plan, last-plan}
use Rattle.dr_laws_sound.proofs.KeepsQueue.{Quiet, AllQuiet, goes-off}
use Rattle.dr_laws_sound.proofs.KeepsSound.{StepHolds, RowsAt, MayDo, holds-moves, keeps-sound, sound-told, over}
use Rattle.dr_laws_sound.proofs.Issues.{issued, sound-issued, one-new}
use Rattle.dr_laws_sound.proofs.Lands.{found-alone}
use Rattle.dr_laws_sound.proofs.FitsFlash.{sound-begun, holds-entries, holds-flash, holds-withdraw, holds-resync, holds-reverse}
use Rattle.dr_laws_sound.proofs.FitsCopy.{holds-copy}
use Rattle.dr_laws_sound.proofs.FitsDestage.{holds-destage}
use Rattle.dr_laws_sound.proofs.FitsPairs.{holds-pair, holds-remove, holds-pause, holds-resume}
use Rattle.dr_laws_sound.proofs.FitsFailover.{holds-failover, holds-failback, holds-compare}
use Rattle.dr_laws_sound.proofs.FitsDrain.{holds-drain}
use Rattle.dr_laws_sound.proofs.FitsWrites.{lands, writes-after}
use Rattle.dr_laws_sound.proofs.FitsSessions.{sound-lost, holds-joined, holds-left, holds-mirrored, holds-paused, holds-unmirrored, holds-aborted, holds-flight, holds-orders}
use Rattle.dr_laws_sound.proofs.FitsMembers.{orders-added, orders-expelled}
use Rattle.dr_laws_sound.proofs.FitsExchanges.{orders-ordered}
use Rattle.dr_laws_sound.proofs.FitsMessages.{holds-sent, orders-delivered, holds-taken}
use Rattle.dr_laws_sound.proofs.FitsRecovery.{along-recover, along-settle}
use Rattle.dr_laws_sound.proofs.FitsHolds.{holds-freeze, holds-thaw, holds-expire, holds-release}
use Rattle.dr_facts.proofs.Sets.{in_none}
use Rattle.dr_laws_sound.proofs.Defines.{sound-defined}
use Rattle.dr_laws_sound.proofs.Starts.{holds-start}
use Rattle.dr_laws_sound.proofs.Along as along
use Rattle.dr_facts.proofs.Tracks.{empty_has}

-- an answer changes no list
pub sound-said : (w : World) (line : ℕ) (a : Said) → Sound w → Sound (said w line a)
sound-said w line a s = sound-told None w w.control.servers w.control.on w.control.fuse w.control.link w.control.paths (answer line a ∷ []) (histories-append w.events (answer line a ∷ [])) (tt, tt) (λ j h. h) s.housed s

-- a step without entries leaves what it begins with
holds-tables : (w : World) (first : Control → Control) (told : List Event) (a : Said) → Sound (begun w (tables_plan first told a)) → StepHolds w (tables_plan first told a)
holds-tables w first told a s = holds-moves w (tables_plan first told a) s (over _ s) (λ q. tt) (λ v i. i)

-- the names, servers, fuses, links and paths that it changes, and what it tells, are nothing to the volumes and the queue
holds-told : (w : World) (servers : List (List ℕ)) (on : ℕ → Bool) (fuse : ℕ → Option Fuse) (link : ℕ → ℕ → Bool) (paths : List Path) (told : List Event) (a : Said) → Housed (record w.control { servers = servers }) → Sound w → histories (w.events ++ told) ≡ histories w.events → AllQuiet (w.control.issued + 1) told
    → ((j : ℕ) → w.control.on j ≡ false → on j ≡ false) → (first : Control → Control) → first w.control ≡ record w.control { servers = servers; on = on; fuse = fuse; link = link; paths = paths } → StepHolds w (tables_plan first told a)
holds-told w servers on fuse link paths told a housed s lists quiet off first is =
    holds-tables w first told a (subst (λ k. Sound (record w { control = k; events = w.events ++ told })) (sym is) (sound-told None w servers on fuse link paths told lists quiet off housed s))

-- nothing is told, and no server goes off
holds-quiet : (w : World) (fuse : ℕ → Option Fuse) (link : ℕ → ℕ → Bool) (paths : List Path) (a : Said) → Sound w → (first : Control → Control) → first w.control ≡ record w.control { fuse = fuse; link = link; paths = paths } → StepHolds w (tables_plan first [] a)
holds-quiet w fuse link paths a s first is = holds-told w w.control.servers w.control.on fuse link paths [] a s.housed s (ap histories (append-nil w.events)) tt (λ j h. h) first is

-- one event is told that no list hears of
holds-event : (w : World) (servers : List (List ℕ)) (on : ℕ → Bool) (e : Event) (a : Said) → Housed (record w.control { servers = servers }) → Sound w → after_event (histories w.events) e ≡ histories w.events → Quiet (w.control.issued + 1) e
    → ((j : ℕ) → w.control.on j ≡ false → on j ≡ false) → (first : Control → Control) → first w.control ≡ record w.control { servers = servers; on = on } → StepHolds w (tables_plan first (e ∷ []) a)
holds-event w servers on e a housed s unheard quiet off first is =
    holds-told w servers on w.control.fuse w.control.link w.control.paths (e ∷ []) a housed s (histories-append w.events (e ∷ []) ∙ unheard) (quiet, tt) off first is

pub holds-says : (w : World) (a : Said) → Sound w → StepHolds w (only_says a)
holds-says w a s = holds-quiet w w.control.fuse w.control.link w.control.paths a s same refl

-- a write is issued, and may be carried out
module _ (w : World) (s : Sound w) (v t offset len : ℕ) (bytes : List ℕ) (there : IsTrack w.control v t) where
  abbrev first : World
  first = issued w s v t offset len bytes there.defined there.low

  abbrev begins : Sound first
  begins = sound-issued w s v t offset len bytes there.defined there.low

  abbrev new : Pending
  new = record { w = w.control.issued + 1; volume = v; track = t; landed = false }

  holds-issue : StepHolds w (issue_done w.control v t offset len bytes)
  holds-issue = holds-moves w (issue_done w.control v t offset len bytes) begins (over _ begins) (λ q. tt) (λ k i. i)

  holds-write : StepHolds w (write_done w.control v t offset len bytes)
  holds-write = holds-moves w (write_done w.control v t offset len bytes) begins (lands first begins new (one-new w s v t offset len bytes there.defined there.low)) (λ q. writes-after w.control (w.control.issued + 1) v t q) (λ k i. i)

-- a pending write is carried out
module _ (w : World) (s : Sound w) (n : ℕ) (p : Pending) (found : find (is_write n) w.control.pending ≡ Some p) where
  abbrev here : World
  here = record w { events = w.events ++ [] }

  same-world : w ≡ here
  same-world = λ i. record w { events = sym (append-nil w.events) i }

  here-sound : Sound here
  here-sound = subst Sound same-world s

  holds-apply : StepHolds w (apply_done w.control p)
  holds-apply = holds-moves w (apply_done w.control p) here-sound (lands here here-sound p (found-alone n p w.control.pending found s.queue.apart)) (λ q. writes-after w.control p.w p.volume p.track q) (λ k i. i)

-- whatever a step comes to
module _ (w : World) (s : Sound w) (line : ℕ) where
  holds-lines : (told : List Event) → AllLines told → StepHolds w (lists told)
  holds-lines told ls = holds-told w w.control.servers w.control.on w.control.fuse w.control.link w.control.paths told (Done Alone) s.housed s (lines-lists w.events told ls) ((lines-plain told ls).quiet _) (λ j h. h) same refl

  pub case-holds : (asked : Result Step ℕ) (p : Plan) → Case w.control w.events line asked p → StepHolds w p
  case-holds _ _ (Says a waits why) = holds-says w a s
  case-holds _ _ (DefinesServer name free) =
      holds-event w (w.control.servers ++ name_bytes name ∷ []) w.control.on (ServerDefined (length w.control.servers) name.len name.bytes) _ (housed-server w.control (name_bytes name) (servers-left w.control (name_bytes name) free) s.housed) s refl tt (λ j h. h) (λ k. record k { servers = k.servers ++ name_bytes name ∷ [] }) refl
  case-holds _ _ (DefinesVolume v x tracks here free) = holds-tables w _ _ _ (sound-defined w s v x tracks here (is-new w.control v x tracks free).undefined)
  case-holds _ _ (SetsLink a b up) =
      holds-quiet w w.control.fuse (λ x y. cond (joins x y a b) up (w.control.link x y)) w.control.paths _ s (λ k. record k { link = λ x y. cond (joins x y a b) up (k.link x y) }) refl
  case-holds _ _ (Issues v t offset len bytes free) = let there = (may-issue w.control v t free).0 in holds-issue w s v t offset len bytes there
  case-holds _ _ (Writes v t offset len bytes free) = holds-write w s v t offset len bytes (may-issue w.control v t free).0
  case-holds _ _ (Applies n p found) = holds-apply w s n p found
  case-holds _ _ (Lists told ls few) = holds-lines told ls
  case-holds _ _ (Shows v t there) = holds-event w w.control.servers w.control.on (Shown line v t (image_at w.events v t)) _ s.housed s refl tt (λ j h. h) same refl
  case-holds _ _ (Stops x on) =
      holds-event w w.control.servers (at w.control.on x false) (Stopped x 0) _ s.housed s refl tt (goes-off None w s.queue w.control.on x) (λ k. record k { on = at k.on x false }) refl
  case-holds _ _ (Arms writes torn x) =
      let f : Fuse = record { after = writes; torn = torn_bytes torn } in
      holds-quiet w (at w.control.fuse x (Some f)) w.control.link w.control.paths _ s (λ k. record k { fuse = at k.fuse x (Some f) }) refl
  case-holds _ _ (Starts x off) = holds-start x w s
  case-holds _ _ (MakesFlash dev v t freeze choices) = holds-flash w s dev v t freeze choices
  case-holds _ _ (RemovesFlash dev v t) = holds-withdraw w s dev v t
  case-holds _ _ (ResyncsFlash dev v t sequence) = holds-resync w s dev v t sequence
  case-holds _ _ (ReversesFlash dev v t) = holds-reverse w s dev v t
  case-holds _ _ (Copies t most) = holds-copy w s t most
  case-holds _ _ (Destages v) = holds-destage w s v
  case-holds _ _ (MakesPath src tgt group) = holds-quiet w w.control.fuse w.control.link (with_path w.control.paths src tgt group) _ s (λ k. record k { paths = with_path k.paths src tgt group }) refl
  case-holds _ _ (RemovesPath src tgt) = holds-quiet w w.control.fuse w.control.link (without_path w.control.paths src tgt) _ s (λ k. record k { paths = without_path k.paths src tgt }) refl
  case-holds _ _ (MakesPair devs a b kind choices part) = holds-pair w s devs a b kind choices part
  case-holds _ _ (RemovesPair devs a b source_only) = holds-remove w s devs a b source_only
  case-holds _ _ (PausesPair devs a b) = holds-pause w s devs a b
  case-holds _ _ (ResumesPair devs a b kind) = holds-resume w s devs a b kind
  case-holds _ _ (FailsOver devs b a kind) = holds-failover w s devs b a kind
  case-holds _ _ (FailsBack devs x y kind) = holds-failback w s devs x y kind
  case-holds _ _ (Compares contents v u) = holds-compare w s contents v u
  case-holds _ _ (Drains a most) = holds-drain w s a most
  case-holds _ _ (Expires x on) = holds-expire x w s on.1
  case-holds _ _ (Freezes l m) = holds-freeze l m w s
  case-holds _ _ (Unfreezes l m) = holds-thaw l m w s
  case-holds _ _ (Releases l) = holds-release l w s
  case-holds _ _ (MakesSession l i free) = holds-joined w s l i free
  case-holds _ _ (RemovesSession l i x found free) = holds-left w s l i x found free
  case-holds _ _ (MakesMirror owner i x found free l owned) = holds-mirrored w s owner i x found free l owned
  case-holds _ _ (PausesMirror i on) = holds-paused w s i on
  case-holds _ _ (RemovesMirror i x found free) = holds-unmirrored w s i x found free
  case-holds _ _ (Aborts i x found free) = holds-aborted w s i x found free
  case-holds _ _ (AddsMember i a c x joins) = holds-orders w _ (orders-added w s i a c x joins)
  case-holds _ _ (RemovesMember i a x m found is idle on) = holds-orders w _ (orders-expelled w s i a x m found is idle on)
  case-holds _ _ (Loses n) = holds-flight w s (lost n) (flights-dropped w.control n s.flights)
  case-holds _ _ (Sends i server x r o posts) = holds-sent w s i server x r o posts
  case-holds _ _ (Delivers n m starts x r reaches) = holds-orders w _ (orders-delivered w s n m starts x r reaches)
  case-holds _ _ (TakesReply n m reply x r returns) = holds-taken w s n m reply x r returns
  case-holds _ _ (Exchanges i server reply x r o allowed) = holds-orders w _ (orders-ordered w s i server x r o allowed reply)
  case-holds _ _ (Recovers i x found on) = holds-moves w _ (sound-begun w s) (along-recover w s i x found on) (λ q. tt) (λ v y. y)
  case-holds _ _ (Settles i x m found here on free hand) = holds-entries w _ _ s (along-settle w s i x found on free m here)

  pub ending-holds : (p : Plan) → Ending w.control w.events line p → StepHolds w p
  ending-holds _ (OnePlan asked p c) = case-holds asked p c
  ending-holds _ (Imaged vs) = holds-lines (image_told vs) (image-lines vs)

pub sound-carried : (w : World) (p : Plan) → StepHolds w p → Sound (carried_out w p).0
sound-carried w p holds = along.plan-keeps Sound RowsAt MayDo keeps-sound (λ v s. s.rows) w p holds

pub sound-plan : (w : World) (line : ℕ) (p : Plan) → StepHolds w p → Sound (after_plan w line p)
unfolding after_plan
sound-plan w line p holds = sound-said _ line _ (sound-carried w p holds)

-- a plan before the last one of its step
pub sound-part : (w : World) (p : Plan) → Comes w p → Sound w → Sound (after_part w p)
sound-part w p comes s = sound-lost w _ (sound-carried w p (case-holds w s 0 comes.asked p (comes.case 0)))

pub sound-last : (w : World) (t : Task) → Sound w → Sound (course w t).last.world
sound-last w t s = last-plan Sound sound-part w t s

pub sound-task : (w : World) (t : Task) → Sound w → Sound (after_task w t)
sound-task w t s =
    let x : Part = (course w t).last in
    sound-lost x.world _ (sound-plan x.world t.line x.plan (ending-holds x.world (sound-last w t s) t.line x.plan (course-case w t)))

pub sound-tasks : (w : World) (tasks : List Task) → Sound w → Sound (after_tasks w tasks)
unfolding after_tasks
sound-tasks w [] s = s
sound-tasks w (t ∷ tasks) s = sound-tasks (after_task w t) tasks (sound-task w t s)

-- before the first step
pub sound-nothing : Sound nothing
unfolding image histories
sound-nothing = record {
  rows = record {
    structure = record {
      lawful = λ v. lawful-no_fields 0;
      sets = λ v. record { apart = in_none _; noted_held = λ h. in_none _; rewritten_held = λ h. in_none _ };
      reverts = λ v h. absurd cc;
      flags = λ v. record { persists = λ h. absurd cc; records = λ h. absurd cc; unchanged = λ h. absurd cc; some = λ h. absurd cc };
      defined = λ v h. absurd cc;
      flash = λ v u h. absurd cc;
      one_restore = λ v a b h. absurd cc;
    };
    parts = record {
      fit = λ v. record { both = λ h. absurd cc; no_primary = λ h. absurd cc; no_secondary = λ h. absurd cc };
      secondary = λ v u h. absurd cc;
      primary = λ v u h. absurd cc;
      one_way = λ v u h. absurd cc;
      free = λ v u h. absurd cc;
    };
    images = record { blank = λ v t h. refl; fresh = λ v h t. refl; plain = λ v h t lt. refl; seen = λ v u h. absurd cc };
    recorded = λ v u h. absurd cc;
    recorders = λ v. record { holds = λ h. absurd cc; global = λ h. absurd cc; pending = λ h. absurd cc; none = λ h. empty_has };
    seals = record { kinds = λ v u h. absurd cc; global = λ v nz. absurd (nz refl); sent = λ v u h. absurd cc; no_metro = λ v u h. absurd cc; restored = λ v a b h. absurd cc; flashed = λ v u x h. absurd cc };
    pairs = λ v u h. absurd cc;
    asides = λ v u h. absurd cc;
  };
  groups = record {
    once = tt;
    each = λ x h. absurd h;
    lone = record { differ = λ x m h. absurd h; one = λ v x y m q h. absurd h };
    recorders = λ v h. absurd cc;
  };
  secondaries = λ x m h. absurd h;
  housed = housed-none;
  attempts = attempts-none;
  flights = flights-none;
  targets = record { once = tt; few = λ v. omega arith };
  queue = record { each = tt; apart = tt; lone = tt; numbers = record { now = λ v t. tt; aside = λ v t. tt } };
}

pub sound-run : (tasks : List Task) → Sound (run tasks)
sound-run tasks = sound-tasks nothing tasks sound-nothing

-- and the table of volumes is as it should be after each entry of each plan of a step
pub rows-moment : (w : World) (t : Task) (x : Part) (n : ℕ) → Sound w → In x (plans_of w t) → SoundRows (table (carry (begun x.world x.plan) (take n x.plan.entries)).0)
rows-moment w t x n s there =
    let b = each-plan Sound sound-part w t s x there in
    along.plan-moment Sound RowsAt MayDo keeps-sound (λ v s. s.rows) x.world x.plan n (ending-holds x.world b.0 t.line x.plan b.1)
