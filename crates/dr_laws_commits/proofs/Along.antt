-- What the flashes of a journal have to do with sessions goes along every step, and so along every run.
use Rattle.std.proofs.Common.{ℕ, ◌≡◌, ◌+◌, inr, refl, ap, sym, subst, true, false, List, [], ◌∷◌, ◌++◌, Option, Some, None}
use Rattle.std.proofs.lemmas.List.{append-nil}
use Rattle.dr_logic.specs.Tables.{at}
use Rattle.dr_ids.specs.declared.names.Member.{Member}
use Rattle.dr_model.specs.declared.event.Event.{Event}
use Rattle.dr_model.specs.declared.event.Event.TheVariants.{Ack, Cut, Issue, Stopped, Frozen, Thawed, Recovered, Volume as VolumeDefined}
use Rattle.dr_model.specs.Sessions.{Session}
use Rattle.dr_model.specs.Control.{Volume, World, Fuse, is_volume, new_volume, nothing}
use Rattle.dr_model.specs.Moves.{Move, Flash, Hold, Restart, target, told, told_in_stop, landed}
use Rattle.dr_model.specs.Entries.{fields_at}
use Rattle.dr_model.specs.Carry.{Act, Make, OpenAttempt, Redo, Acknowledge, Drop, EndFreeze, EndThaw, EndRecovery, acknowledged, dropped, frozen, thawed, recovered}
use Rattle.dr_model.specs.Groups.{In, Groups}
use Rattle.dr_model.specs.Laws.{SoundBut, Sound}
use Rattle.dr_model.specs.Allowed.{May, MayOpen}
use Rattle.dr_model.specs.Runs.{Task, run}
use Rattle.dr_model.specs.Pairs.{held_for}
use Rattle.dr_facts.proofs.Tables.{at_cases}
use Rattle.dr_laws_sessions.proofs.Changes.{session-found}
use Rattle.dr_laws_attempts.proofs.Volumes.{no-place}
use Rattle.dr_laws_sound.proofs.Turns.{done, fields-then, done_in_stop, opened_in_stop, not_done, fused, server_at, after_act}
use Rattle.dr_laws_sound.proofs.KeepsSound.{MayDo}
use Rattle.dr_laws_sound.proofs.Issues.{issued}
use Rattle.dr_laws_sound.proofs.Defines.{with_volume}
use Rattle.dr_laws_sound.proofs.Starts as starts
use Rattle.dr_laws_sound.proofs.Steps as steps
use Rattle.dr_laws_sound.proofs.Listed.{NoBegins}
use Rattle.dr_laws_sound.proofs.Rides.{Rides}
use Rattle.dr_laws_sound.proofs.Riders.{Unheard, Rider, rides-tasks}
use Rattle.dr_laws_commits.proofs.Journal.{none-of, comes, told-none, stopped-none}
use Rattle.dr_laws_commits.proofs.WereFlashed.{AllFields, WereFlashed, AllWereFlashed}
use Rattle.dr_laws_commits.proofs.Moves.{TellsFlash, were_flashed-moved}
use Rattle.dr_laws_commits.proofs.Stills.{SameTarget, same-target, were_flashed-still}
use Rattle.dr_laws_commits.proofs.Tables.{were_flashed-regrouped}
use Rattle.dr_laws_commits.proofs.Begins.{were_flashed-begun}
use Rattle.dr_logic.proofs.Tables.{at_other}

-- ---- what moves nothing

-- events by which no attempt begins, and other fields of what is no member's target
were_flashed-same : (w u : World) (more : List Event) → NoBegins more → u.events ≡ w.events ++ more → u.control.sessions ≡ w.control.sessions → u.control.flight.messages ≡ w.control.flight.messages → u.control.flight.epoch ≡ w.control.flight.epoch
    → ((x : Session) (m : Member) → In x w.control.sessions → In m x.members → SameTarget (fields_at w.control m.c.0) (fields_at u.control m.c.0)) → AllWereFlashed w → AllWereFlashed u
were_flashed-same w u more none events sessions messages epoch same k x i =
    let there : In x w.control.sessions = subst (In x) sessions i in
    subst (λ es. WereFlashed u.control.flight (fields_at u.control) es x) (sym events)
    (were_flashed-still w.control.flight u.control.flight (fields_at w.control) (fields_at u.control) w.events more x (λ m here. subst (In m) messages here) (ap (λ (e : ℕ → ℕ). e x.number) epoch) (λ m here. same x m there here) (none-of x.number more none) (k x there))

-- where volumes stay
were_flashed-told : (w u : World) (more : List Event) → NoBegins more → u.events ≡ w.events ++ more → u.control.sessions ≡ w.control.sessions → u.control.flight.messages ≡ w.control.flight.messages → u.control.flight.epoch ≡ w.control.flight.epoch → u.control.volume ≡ w.control.volume → AllWereFlashed w → AllWereFlashed u
were_flashed-told w u more none events sessions messages epoch volume k =
    were_flashed-same w u more none events sessions messages epoch (λ x m i here. subst (λ (volumes : ℕ → Volume). SameTarget (fields_at w.control m.c.0) (volumes m.c.0).fields) (sym volume) (same-target (fields_at w.control m.c.0))) k

were_flashed-not : (w : World) (x : ℕ) (f : Option Fuse) → AllWereFlashed w → AllWereFlashed (not_done w x f)
were_flashed-not w x f k = were_flashed-told w (not_done w x f) (Stopped x 0 ∷ []) (refl, tt) refl refl refl refl refl k

were_flashed-unheard : (w u : World) (more : List Event) → AllWereFlashed w → Unheard w u more → NoBegins more → AllWereFlashed u
were_flashed-unheard w u more k q none = were_flashed-told w u more none q.events q.sessions q.messages q.epoch q.volume k

-- ---- moves

tells-done : (events : List Event) (m : Move) (u : Volume) → TellsFlash (events ++ told m u) m
tells-done events (Flash v b a s n) u = comes events [] s n a b v (λ k none. none)
tells-done events m u = tt

tells-stop : (events : List Event) (m : Move) (u : Volume) (x n : ℕ) → TellsFlash (events ++ (told_in_stop m u ++ Stopped x n ∷ [])) m
tells-stop events (Flash v b a s n) u x j = comes events (Stopped x j ∷ []) s n a b v (none-of s (Stopped x j ∷ []) (refl, tt))
tells-stop events m u x j = tt

module _ (starts : Option ℕ) (w : World) (s : SoundBut starts w) (k : AllWereFlashed w) where
  were_flashed-by : (m : Move) → May w m → (more : List Event) → NoBegins more → TellsFlash (w.events ++ more) m → (x : Session) → In x w.control.sessions → WereFlashed w.control.flight (fields_at (done w m None).control) (w.events ++ more) x
  were_flashed-by m may more none tells x i = subst (λ (F : AllFields). WereFlashed w.control.flight F (w.events ++ more) x) (sym (fields-then w m)) (were_flashed-moved w.control s.groups s.attempts s.flights m may.group w.events more none x i (k x i) tells)

  were_flashed-done : (m : Move) (f : Option Fuse) → May w m → AllWereFlashed (done w m f)
  were_flashed-done m f may = let u : Volume = w.control.volume (target m) in were_flashed-by m may (told m u) (told-none w.control m u may.group) (tells-done w.events m u)

  were_flashed-stop : (m : Move) (f : Option Fuse) → May w m → AllWereFlashed (done_in_stop w m f)
  were_flashed-stop m f may =
      let u : Volume = w.control.volume (target m) in
      were_flashed-by m may (told_in_stop m u ++ Stopped u.server (landed m) ∷ []) (stopped-none w.control m u (Stopped u.server (landed m)) may.group refl) (tells-stop w.events m u u.server (landed m))

  -- the first hold of an attempt
  held-same : (v i n : ℕ) (u : ℕ) → SameTarget (fields_at w.control u) (fields_at (done w (Hold v i n true) None).control u)
  held-same v i n u = subst (λ (F : AllFields). SameTarget (fields_at w.control u) (F u)) (sym (fields-then w (Hold v i n true)))
      (at_cases (λ u y. SameTarget (fields_at w.control u) y) (fields_at w.control) v (held_for n (fields_at w.control v)) (record { revertible = refl; member = refl; sequence = refl; floor = refl }) (λ u ne. same-target (fields_at w.control u)) u)

  were_flashed-opened : (v i n : ℕ) (f : Option Fuse) → MayOpen w v i n → AllWereFlashed (after_act w (OpenAttempt v i n) f)
  were_flashed-opened v i n f may = let o = may.opens in were_flashed-begun w.control s.groups s.attempts i n o.place.session o.place.mirror o.place.listed o.place.number o.place.has_master o.idle (fields_at (done w (Hold v i n true) None).control) (held-same v i n) w.events (Cut i n v ∷ []) (refl, tt) k

  were_flashed-opened_stop : (v i n : ℕ) (f : Option Fuse) → MayOpen w v i n → AllWereFlashed (opened_in_stop w v i n f)
  were_flashed-opened_stop v i n f may = let o = may.opens in
      were_flashed-begun w.control s.groups s.attempts i n o.place.session o.place.mirror o.place.listed o.place.number o.place.has_master o.idle (fields_at (done w (Hold v i n true) None).control) (held-same v i n) w.events (Cut i n v ∷ Stopped (server_at w v) 0 ∷ []) (refl, (refl, tt)) k

-- the acts of plans but a start's
acts : Rides Sound AllWereFlashed MayDo
acts = record { does = does; counts = λ w m f s k may. were_flashed-stop None w s k m f may; opens = λ w v i n f s k may. were_flashed-opened_stop None w s k v i n f may; fails = λ w a f d s k may. were_flashed-not w _ f k }
  where
    does : (w : World) (a : Act) (f : Option Fuse) → Sound w → AllWereFlashed w → MayDo w a → AllWereFlashed (after_act w a f)
    does w (Make m) f s k may = were_flashed-done None w s k m f may
    does w (OpenAttempt v i n) f s k may = were_flashed-opened None w s k v i n f may
    does w (Redo v) f s k may = were_flashed-told w (fused w (server_at w v) f) [] tt (sym (append-nil w.events)) refl refl refl refl k
    does w (Acknowledge n) f s k may = absurd may
    does w (Drop n) f s k may = were_flashed-told w (dropped w n) [] tt (sym (append-nil w.events)) refl refl refl refl k
    does w (EndFreeze l m) f s k may = were_flashed-told w (frozen w l m) (Frozen l m ∷ []) (refl, tt) refl refl refl refl refl k
    does w (EndThaw l m) f s k may = were_flashed-told w (thawed w l m) (Thawed l m ∷ []) (refl, tt) refl refl refl refl refl k
    does w (EndRecovery i n) f s k may = were_flashed-told w (recovered w i n) (Recovered i n ∷ []) (refl, tt) refl refl refl refl refl k

-- and those of the start of server x
start-acts : (x : ℕ) → Rides (starts.Inner x) AllWereFlashed (starts.MayStart x)
start-acts x = record { does = does; counts = counts; opens = λ w v i n f j k may. absurd may; fails = λ w a f d j k may. were_flashed-not w _ f k }
  where
    does : (w : World) (a : Act) (f : Option Fuse) → starts.Inner x w → AllWereFlashed w → starts.MayStart x w a → AllWereFlashed (after_act w a f)
    does w (Make (Restart v)) f j k may = were_flashed-done (Some x) w j.sound k (Restart v) f (starts.may-restart x w v may)
    does w (Make m) f j k may = absurd may
    does w (OpenAttempt v i n) f j k may = absurd may
    does w (Redo v) f j k may = were_flashed-told w (fused w (server_at w v) f) [] tt (sym (append-nil w.events)) refl refl refl refl k
    does w (Acknowledge n) f j k may = were_flashed-told w (acknowledged w n) (Ack n ∷ []) (refl, tt) refl refl refl refl refl k
    does w (Drop n) f j k may = absurd may
    does w (EndFreeze l m) f j k may = absurd may
    does w (EndThaw l m) f j k may = absurd may
    does w (EndRecovery i n) f j k may = absurd may

    counts : (w : World) (m : Move) (f : Option Fuse) → starts.Inner x w → AllWereFlashed w → starts.MayMove x w m → AllWereFlashed (done_in_stop w m f)
    counts w (Restart v) f j k may = were_flashed-stop (Some x) w j.sound k (Restart v) f (starts.may-restart x w v may)
    counts w m f j k may = absurd may

-- ---- every step

-- a volume that is defined is no member's target
defined-same : (w : World) (v server tracks : ℕ) → Groups w.control → is_volume w.control v ≡ false → (x : Session) (m : Member) → In x w.control.sessions → In m x.members → SameTarget (fields_at w.control m.c.0) (at w.control.volume v (new_volume server tracks) m.c.0).fields
defined-same w v server tracks groups undefined x m i here =
    subst (λ (y : Volume). SameTarget (fields_at w.control m.c.0) y.fields) (sym (at_other w.control.volume v (new_volume server tracks) m.c.0 (λ e. no-place w.control v undefined groups x m i here (inr (inr (sym e)))))) (same-target (fields_at w.control m.c.0))

pub were_flashed-ride : Rider AllWereFlashed
were_flashed-ride = record {
  acts = acts;
  start_acts = start-acts;
  unheard = were_flashed-unheard;
  issues = λ w s v t offset len bytes defined low k. were_flashed-told w (issued w s v t offset len bytes defined low) (Issue (w.control.issued + 1) v t offset len bytes ∷ []) (refl, tt) refl refl refl refl refl k;
  regroups = λ w ss f s t turn adds goes k y i. were_flashed-regrouped w.control s.groups ss f t.attempts turn adds goes w.events k y i;
  opens = λ w i n x r s t found has idle next k. let there = session-found w.control.sessions i x found in were_flashed-begun w.control s.groups s.attempts i n x r there.0 there.1 has idle (fields_at w.control) (λ v. same-target (fields_at w.control v)) w.events [] tt k;
  defines = λ w s v server tracks here undefined k. were_flashed-same w (with_volume w s v server tracks here undefined) (VolumeDefined v server tracks ∷ []) (refl, tt) refl refl refl refl (defined-same w v server tracks s.groups undefined) k;
}

none-were_flashed : AllWereFlashed nothing
none-were_flashed x i = absurd i

pub were_flashed-run : (tasks : List Task) → AllWereFlashed (run tasks)
were_flashed-run tasks = rides-tasks AllWereFlashed were_flashed-ride nothing tasks steps.sound-nothing none-were_flashed
