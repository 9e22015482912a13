-- A sound world stays sound in an act that may come, however it ends.
use Rattle.std.proofs.Common.{ℕ, ◌≡◌, ◌+◌, refl, ap, sym, subst, Bool, true, false, List, [], ◌∷◌, ◌++◌, filter, Option, None}
use Rattle.dr_logic.specs.Tables.{at}
use Rattle.dr_ids.specs.Paths.{Path, without_path}
use Rattle.dr_ids.specs.declared.refusal.Refusal.{Refusal}
use Rattle.dr_model.specs.declared.event.Event.{Event}
use Rattle.dr_model.specs.declared.event.Event.TheVariants.{Stopped, Frozen, Thawed, Recovered}
use Rattle.dr_model.specs.Histories.{Write, Histories, histories}
use Rattle.dr_model.specs.Contents.{image}
use Rattle.dr_model.specs.Control.{Pending, Control, World, Fuse}
use Rattle.dr_model.specs.Moves.{Move, Hold, is_write, is_other}
use Rattle.dr_model.specs.Carry.{Act, Make, OpenAttempt, Redo, Acknowledge, Drop, EndFreeze, EndThaw, EndRecovery, dropped, frozen, thawed, recovered, Entry, Next, check, now}
use Rattle.dr_model.specs.Plans.{Plan}
use Rattle.dr_model.specs.Runs.{begun}
use Rattle.dr_model.specs.ReadStops.{gone_off}
use Rattle.dr_model.specs.Groups.{Groups, Housed}
use Rattle.dr_model.specs.Table.{Table, table, due_by, aside_by}
use Rattle.dr_model.specs.Rows.{after}
use Rattle.dr_model.specs.Laws.{SoundRows, SoundBut, Sound, Queue, AllPending, Waits, servers}
use Rattle.dr_model.specs.Allowed.{Allowed, May, MayOpen, Runs}
use Rattle.dr_model.proofs.Images.{histories-append}
use Rattle.dr_laws_closed.proofs.Pendings.{all-filter}
use Rattle.dr_laws_sound.proofs.Turns.{carried_in, done, done_in_stop, opened_in_stop, not_done, after_act, place, Writes, server_at, fused}
use Rattle.dr_laws_sound.proofs.RowsAfter.{table-done, table-stop}
use Rattle.dr_laws_sound.proofs.KeepsStructure.{kept-structure}
use Rattle.dr_laws_sound.proofs.KeepsParts.{kept-parts}
use Rattle.dr_laws_sound.proofs.KeepsImages.{kept-images}
use Rattle.dr_laws_sound.proofs.KeepsRecorded.{kept-recorded}
use Rattle.dr_laws_sound.proofs.KeepsRecorders.{kept-recorders}
use Rattle.dr_laws_sound.proofs.KeepsSeals.{kept-seals}
use Rattle.dr_laws_sound.proofs.KeepsAsides.{kept-asides}
use Rattle.dr_laws_sound.proofs.KeepsPairs.{kept-pairs}
use Rattle.dr_laws_sound.proofs.KeepsGroups.{makes-none, secondaries-after, secondaries-opened, groups-after, groups-begun, housed-after, attempts-after, attempts-begun, flights-after, flights-begun}
use Rattle.dr_laws_sessions.proofs.Volumes.{groups-same}
use Rattle.dr_laws_sound.proofs.KeepsTargets.{few-after}
use Rattle.dr_laws_sound.proofs.KeepsQueue.{AllQuiet, queue-done, queue-stop, queue-same, goes-off, apart-filter, lone-filter}
use Rattle.dr_laws_sound.proofs.Due.{waiting-settled}
use Rattle.dr_laws_sound.proofs.Along as along

pub rows-after : (write : ℕ → Write) (T : Table) (m : Move) → SoundRows T → Allowed write T m → SoundRows (after write T m)
rows-after write T m r a = record {
  structure = kept-structure write T r.structure m a;
  parts = kept-parts T r.parts write r.structure m a;
  images = kept-images write T r.structure r.parts r.recorded r.images r.asides m a;
  recorded = kept-recorded write T r.structure r.parts r.recorded m a;
  recorders = kept-recorders T r.recorders write m a;
  seals = kept-seals write T r.structure r.parts r.recorders r.seals m a;
  pairs = kept-pairs write T r.structure r.parts r.recorders r.pairs m a;
  asides = kept-asides write T r.structure r.parts r.images r.asides m a;
}

-- events that no list hears of
pub rows-told : (w : World) (es : List Event) → histories (w.events ++ es) ≡ histories w.events → SoundRows (table w) → SoundRows (table (record w { events = w.events ++ es }))
rows-told w es same r = subst SoundRows (ap (λ (h : Histories). λ (v : ℕ). record (table w v) { due = due_by h w.control.pending v; aside = aside_by h v }) (sym same)) r

module _ (starts : Option ℕ) where
  pub sound-done : (w : World) (m : Move) (f : Option Fuse) → SoundBut starts w → May w m → SoundBut starts (done w m f)
  sound-done w m f s may = record {
    rows = subst SoundRows (sym (table-done w s.rows.structure m f s.rows.images.blank may.allowed may.ready)) (rows-after (histories w.events).write (table w) m s.rows may.allowed);
    targets = record { once = s.targets.once; few = few-after w.control s.targets m (carried_in w m) may.fits };
    secondaries = secondaries-after w (histories w.events).write (done w m f).control.on (done w m f).control.fuse (done w m f).control.pending m may.allowed (makes-none w.control m may.group) s.secondaries;
    queue = queue-done starts w s.queue m f may.ready;
    groups = groups-after w (histories w.events).write (done w m f).control.on (done w m f).control.fuse (done w m f).control.pending m may.allowed may.group s.groups;
    housed = housed-after w (histories w.events).write (done w m f).control.on (done w m f).control.fuse (done w m f).control.pending m s.housed;
    attempts = attempts-after w (histories w.events).write (done w m f).control.on (done w m f).control.fuse (done w m f).control.pending m may.group s.groups s.attempts s.flights;
    flights = flights-after w (histories w.events).write (done w m f).control.on (done w m f).control.fuse (done w m f).control.pending m may.group s.groups s.attempts s.flights;
  }

  pub sound-stop : (w : World) (m : Move) (f : Option Fuse) → SoundBut starts w → May w m → SoundBut starts (done_in_stop w m f)
  sound-stop w m f s may = record {
    rows = subst SoundRows (sym (table-stop w s.rows.structure m f s.rows.images.blank may.allowed may.ready)) (rows-after (histories w.events).write (table w) m s.rows may.allowed);
    targets = record { once = s.targets.once; few = few-after w.control s.targets m (carried_in w m) may.fits };
    secondaries = secondaries-after w (histories w.events).write (done_in_stop w m f).control.on (done_in_stop w m f).control.fuse (done_in_stop w m f).control.pending m may.allowed (makes-none w.control m may.group) s.secondaries;
    queue = queue-stop starts w s.queue m f may.ready;
    groups = groups-after w (histories w.events).write (done_in_stop w m f).control.on (done_in_stop w m f).control.fuse (done_in_stop w m f).control.pending m may.allowed may.group s.groups;
    housed = housed-after w (histories w.events).write (done_in_stop w m f).control.on (done_in_stop w m f).control.fuse (done_in_stop w m f).control.pending m s.housed;
    attempts = attempts-after w (histories w.events).write (done_in_stop w m f).control.on (done_in_stop w m f).control.fuse (done_in_stop w m f).control.pending m may.group s.groups s.attempts s.flights;
    flights = flights-after w (histories w.events).write (done_in_stop w m f).control.on (done_in_stop w m f).control.fuse (done_in_stop w m f).control.pending m may.group s.groups s.attempts s.flights;
  }

  -- the first hold of an attempt, with which it begins
  pub sound-opened : (w : World) (v i n : ℕ) (f : Option Fuse) → SoundBut starts w → MayOpen w v i n → SoundBut starts (after_act w (OpenAttempt v i n) f)
  sound-opened w v i n f s may =
      let m : Move = Hold v i n true in
      let k : Control = (done w m f).control in
      let q : Queue starts (done w m f) = queue-done starts w s.queue m f may.ready in
      record {
        rows = subst SoundRows (sym (table-done w s.rows.structure m f s.rows.images.blank may.allowed may.ready)) (rows-after (histories w.events).write (table w) m s.rows may.allowed);
        targets = record { once = s.targets.once; few = few-after w.control s.targets m (carried_in w m) tt };
        secondaries = secondaries-opened w (histories w.events).write k.on k.fuse k.pending v i n may.allowed s.groups s.secondaries;
        queue = record { each = q.each; apart = q.apart; lone = q.lone; numbers = q.numbers };
        groups = groups-begun w (histories w.events).write k.on k.fuse k.pending v i n may.opens s.groups;
        housed = housed-after w (histories w.events).write k.on k.fuse k.pending m s.housed;
        attempts = attempts-begun w (histories w.events).write k.on k.fuse k.pending v i n may.opens s.groups s.attempts;
        flights = flights-begun w (histories w.events).write k.on k.fuse k.pending v i n may.opens s.groups s.attempts s.flights;
      }

  pub sound-opened_stop : (w : World) (v i n : ℕ) (f : Option Fuse) → SoundBut starts w → MayOpen w v i n → SoundBut starts (opened_in_stop w v i n f)
  sound-opened_stop w v i n f s may =
      let m : Move = Hold v i n true in
      let k : Control = (done_in_stop w m f).control in
      let q : Queue starts (done_in_stop w m f) = queue-stop starts w s.queue m f may.ready in
      record {
        rows = subst SoundRows (sym (table-stop w s.rows.structure m f s.rows.images.blank may.allowed may.ready)) (rows-after (histories w.events).write (table w) m s.rows may.allowed);
        targets = record { once = s.targets.once; few = few-after w.control s.targets m (carried_in w m) tt };
        secondaries = secondaries-opened w (histories w.events).write k.on k.fuse k.pending v i n may.allowed s.groups s.secondaries;
        queue = record { each = q.each; apart = q.apart; lone = q.lone; numbers = q.numbers };
        groups = groups-begun w (histories w.events).write k.on k.fuse k.pending v i n may.opens s.groups;
        housed = housed-after w (histories w.events).write k.on k.fuse k.pending m s.housed;
        attempts = attempts-begun w (histories w.events).write k.on k.fuse k.pending v i n may.opens s.groups s.attempts;
        flights = flights-begun w (histories w.events).write k.on k.fuse k.pending v i n may.opens s.groups s.attempts s.flights;
      }

  told-groups : (w : World) (servers : List (List ℕ)) (on : ℕ → Bool) (fuse : ℕ → Option Fuse) (link : ℕ → ℕ → Bool) (paths : List Path) → Groups w.control → Groups (record w.control { servers = servers; on = on; fuse = fuse; link = link; paths = paths })
  told-groups w servers on fuse link paths = groups-same w.control _ (record { sessions = refl; volumes = refl; server = λ v. refl; tracks = λ v. refl }) (λ v h. (h, (refl, refl)))

  -- events that change no list, one server more, other links and paths, and servers that may have gone off
  pub sound-told : (w : World) (servers : List (List ℕ)) (on : ℕ → Bool) (fuse : ℕ → Option Fuse) (link : ℕ → ℕ → Bool) (paths : List Path) (es : List Event) → histories (w.events ++ es) ≡ histories w.events → AllQuiet (w.control.issued + 1) es
      → ((j : ℕ) → w.control.on j ≡ false → on j ≡ false) → Housed (record w.control { servers = servers }) → SoundBut starts w
      → SoundBut starts (record w { control = record w.control { servers = servers; on = on; fuse = fuse; link = link; paths = paths }; events = w.events ++ es })
  sound-told w servers on fuse link paths es same quiet off housed s = record {
    rows = rows-told w es same s.rows;
    targets = record { once = s.targets.once; few = s.targets.few };
    secondaries = s.secondaries;
    groups = told-groups w servers on fuse link paths s.groups;
    housed = housed;
    attempts = s.attempts;
    flights = s.flights;
    queue = queue-same starts w s.queue (record w.control { servers = servers; on = on; fuse = fuse; link = link; paths = paths }) es w quiet refl refl refl (λ v. refl) (λ v. refl) off;
  }

  pub sound-not : (w : World) (x : ℕ) (f : Option Fuse) → SoundBut starts w → SoundBut starts (not_done w x f)
  sound-not w x f s =
      sound-told w w.control.servers (at w.control.on x false) (at w.control.fuse x f) w.control.link w.control.paths (Stopped x 0 ∷ []) (histories-append w.events (Stopped x 0 ∷ [])) (tt, tt) (goes-off starts w s.queue w.control.on x) s.housed s

  pub sound-gone : (w : World) (x : ℕ) → SoundBut starts w → SoundBut starts (gone_off w x)
  sound-gone w x s =
      sound-told w w.control.servers (at w.control.on x false) w.control.fuse w.control.link w.control.paths (Stopped x 0 ∷ []) (histories-append w.events (Stopped x 0 ∷ [])) (tt, tt) (goes-off starts w s.queue w.control.on x) s.housed s

  -- a staged track is written to its place
  pub sound-fused : (w : World) (x : ℕ) (f : Option Fuse) → SoundBut starts w → SoundBut starts (fused w x f)
  sound-fused w x f s = record {
    rows = s.rows;
    targets = record { once = s.targets.once; few = s.targets.few };
    secondaries = s.secondaries;
    groups = told-groups w w.control.servers w.control.on (at w.control.fuse x f) w.control.link w.control.paths s.groups;
    housed = s.housed;
    attempts = s.attempts;
    flights = s.flights;
    queue = record { each = s.queue.each; apart = s.queue.apart; lone = s.queue.lone; numbers = s.queue.numbers };
  }

  -- a freeze ends, a thaw, or a recovery
  pub sound-frozen : (w : World) (l m : ℕ) → SoundBut starts w → SoundBut starts (frozen w l m)
  sound-frozen w l m s =
      let k : Control = w.control in
      sound-told w k.servers k.on k.fuse k.link (without_path k.paths l m) (Frozen l m ∷ []) (histories-append w.events (Frozen l m ∷ [])) (tt, tt) (λ j h. h) s.housed s

  pub sound-thawed : (w : World) (l m : ℕ) → SoundBut starts w → SoundBut starts (thawed w l m)
  sound-thawed w l m s =
      let k : Control = w.control in
      sound-told w k.servers k.on k.fuse k.link k.paths (Thawed l m ∷ []) (histories-append w.events (Thawed l m ∷ [])) (tt, tt) (λ j h. h) s.housed s

  pub sound-recovered : (w : World) (i n : ℕ) → SoundBut starts w → SoundBut starts (recovered w i n)
  sound-recovered w i n s =
      let k : Control = w.control in
      sound-told w k.servers k.on k.fuse k.link k.paths (Recovered i n ∷ []) (histories-append w.events (Recovered i n ∷ [])) (tt, tt) (λ j h. h) s.housed s

  -- a write that hasn't landed is dropped
  pub sound-dropped : (w : World) (n : ℕ) → AllPending (λ p. p.landed ≡ false) (filter (is_write n) w.control.pending) → SoundBut starts w → SoundBut starts (dropped w n)
  sound-dropped w n unlanded s =
      let h : Histories = histories w.events in
      let ps : List Pending = w.control.pending in
      record {
        rows = subst SoundRows (λ i u. record (table w u) { due = λ q. image h.write (h.now u q ++ sym (waiting-settled n u q ps unlanded) i) }) s.rows;
        targets = record { once = s.targets.once; few = s.targets.few };
        secondaries = s.secondaries;
        groups = groups-same w.control _ (record { sessions = refl; volumes = refl; server = λ v. refl; tracks = λ v. refl }) (λ v h. (h, (refl, refl))) s.groups;
        housed = s.housed;
        attempts = s.attempts;
        flights = s.flights;
        queue = record {
          each = all-filter (Waits starts w.control h.write) (is_other n) ps s.queue.each;
          apart = apart-filter n ps s.queue.apart;
          lone = lone-filter (servers w.control) n ps s.queue.lone;
          numbers = s.queue.numbers;
        };
      }

-- what a plan's acts may be but where a server starts
abbrev pub MayDo : World → Act → Type 0
MayDo w (Make m) = May w m
MayDo w (OpenAttempt v s n) = MayOpen w v s n
MayDo w (Redo v) = Runs w v
MayDo w (Acknowledge n) = ⊥
MayDo w (Drop n) = AllPending (λ p. p.landed ≡ false) (filter (is_write n) w.control.pending)
MayDo w (EndFreeze l m) = Unit {0}
MayDo w (EndThaw l m) = Unit {0}
MayDo w (EndRecovery s n) = Unit {0}

pub keeps-sound : along.Keeps Sound Sound MayDo
keeps-sound = record { runs = runs; does = does; counts = λ w m f s may. sound-stop None w m f s may; opens = λ w v i n f s may. sound-opened_stop None w v i n f s may; fails = λ w a f d s may. sound-not None w _ f s }
  where
    runs : (w : World) (a : Act) → Writes a → MayDo w a → Runs w (place a)
    runs w (Make m) d may = may.runs
    runs w (OpenAttempt v s n) d may = may.runs
    runs w (Redo v) d may = may
    runs w (Acknowledge n) d may = absurd may
    runs w (Drop n) d may = absurd d
    runs w (EndFreeze l m) d may = absurd d
    runs w (EndThaw l m) d may = absurd d
    runs w (EndRecovery s n) d may = absurd d

    does : (w : World) (a : Act) (f : Option Fuse) → Sound w → MayDo w a → Sound (after_act w a f)
    does w (Make m) f s may = sound-done None w m f s may
    does w (OpenAttempt v i n) f s may = sound-opened None w v i n f s may
    does w (Redo v) f s may = sound-fused None w (server_at w v) f s
    does w (Acknowledge n) f s may = absurd may
    does w (Drop n) f s may = sound-dropped None w n may s
    does w (EndFreeze l m) f s may = sound-frozen None w l m s
    does w (EndThaw l m) f s may = sound-thawed None w l m s
    does w (EndRecovery s n) f sound may = sound-recovered None w s n sound

abbrev pub Along : World → List Entry → Type 0
Along = along.Along Sound Sound Sound MayDo

-- what follows a stop, each entry by itself
abbrev pub EachAlong : List Entry → Type 0
EachAlong = along.EachAlong Sound MayDo

-- The steps of a proof that a plan of moves is allowed along: what follows a decision; no entry is left; an entry, by
-- what it decides; a move that comes in any case; a check.
abbrev pub Then : World → Next → (World → Type 0) → Type 0
Then = along.along_next Sound Sound MayDo

pub over : (w : World) → Sound w → Along w []
over = along.along-nil Sound Sound Sound MayDo

pub decides : (w : World) (d : Entry) (ds : List Entry) (x : Next) → d w.control ≡ x → Then w x (λ v. Along v ds) → Along w (d ∷ ds)
decides = along.along-entry Sound Sound Sound MayDo

-- what a plan that is allowed along says of its first entry: where it is a move, that this may come, and that the rest is
-- allowed along after it
pub comes : (w : World) (d : Entry) (ds : List Entry) (x : Next) → d w.control ≡ x → Along w (d ∷ ds) → Then w x (λ v. Along v ds)
comes = along.along-comes Sound Sound Sound MayDo

pub moves : (w : World) (m : Move) (ds : List Entry) → May w m → ((f : Option Fuse) → Sound (done w m f) → Along (done w m f) ds) → Along w (now m ∷ ds)
moves = along.along-now Sound Sound Sound MayDo

pub checked : (w : World) (ok : Control → Bool) (r : Refusal) (ds : List Entry) → Sound w → (ok w.control ≡ true → Along w ds) → Along w (check ok r ∷ ds)
checked = along.along-check Sound Sound Sound MayDo

-- what is to be shown of a step
abbrev pub RowsAt : World → Type 0
RowsAt w = SoundRows (table w)

abbrev pub StepHolds : World → Plan → Type 1
StepHolds = along.Holds Sound RowsAt MayDo

-- a plan of moves
pub holds-moves : (w : World) (p : Plan) → Sound (begun w p) → Along (begun w p) p.entries → ((s : ℕ) → EachAlong (p.follows s)) → ((v : World) → Sound v → Sound (record v { control = p.last v.control })) → StepHolds w p
holds-moves w p begins entries follows last = record { inner = Sound; ends = Sound; may = MayDo; keeps = keeps-sound; within = λ v s. s.rows; complete = λ v s. s.rows; begins = begins; entries = entries; follows = follows; last = last }
