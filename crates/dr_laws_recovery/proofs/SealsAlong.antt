-- Cuts stay sound along every step, and so along every run.
use Rattle.std.proofs.Common.{ℕ, refl, ap, subst, true, List, [], ◌∷◌, ◌++◌, Option, Some, None}
use Rattle.dr_model.specs.declared.event.Event.{Event}
use Rattle.dr_model.specs.declared.event.Event.TheVariants.{Ack, Begin, Stopped, Frozen, Thawed, Recovered, Volume as VolumeDefined}
use Rattle.dr_model.specs.Contents.{image}
use Rattle.dr_model.specs.Histories.{Histories, histories}
use Rattle.dr_model.specs.Control.{Volume, World, Fuse, nothing}
use Rattle.dr_model.specs.Moves.{Move, Restart, Hold, target, landed}
use Rattle.dr_model.specs.Carry.{Act, Make, OpenAttempt, Redo, Acknowledge, Drop, EndFreeze, EndThaw, EndRecovery, acknowledged, dropped, frozen, thawed, recovered}
use Rattle.dr_model.specs.Runs.{Task, after_task, run}
use Rattle.dr_model.specs.Table.{table}
use Rattle.dr_model.specs.Laws.{SoundBut, Sound}
use Rattle.dr_model.specs.Allowed.{May, MayOpen}
use Rattle.dr_model.specs.Cuts.{SealsHold}
use Rattle.dr_model.proofs.Images.{histories-append}
use Rattle.dr_laws_cuts.specs.Sound.{SoundCuts}
use Rattle.dr_laws_cuts.proofs.Worlds.{sound-nothing, sound-told, sound-same, sound-issue, sound-defined}
use Rattle.dr_laws_cuts.proofs.Mays.{may-done, may-stop, open-done, open-stop}
use Rattle.dr_laws_cuts.proofs.Seals.{seals-hold}
use Rattle.dr_laws_sound.proofs.Turns.{done, done_in_stop, opened_in_stop, not_done, fused, server_at, after_act}
use Rattle.dr_laws_sound.proofs.Due.{waiting-settled}
use Rattle.dr_laws_sound.proofs.RowsAfter.{table-done, table-stop}
use Rattle.dr_facts.proofs.Issued.{with-told}
use Rattle.dr_laws_sound.proofs.Unissued.{done-writes, stopped-writes}
use Rattle.dr_laws_sound.proofs.KeepsSound.{MayDo}
use Rattle.dr_laws_sound.proofs.Issues.{issued, same-table}
use Rattle.dr_laws_sound.proofs.Defines.{with_volume, row, table-defined}
use Rattle.dr_laws_sound.proofs.Starts as starts
use Rattle.dr_laws_sound.proofs.Steps as steps
use Rattle.dr_laws_sound.proofs.Rides.{Rides}
use Rattle.dr_model.specs.Sessions.{changed, begun}
use Rattle.dr_laws_sound.proofs.FitsMessages.{opened}
use Rattle.dr_laws_sound.proofs.Riders.{Unheard, unheard, with_tables, Rider, rides-task, rides-tasks}

-- what no list hears of, and what cuts no volume
cuts-unheard : (w u : World) (more : List Event) → SoundCuts w → Unheard w u more → SoundCuts u
cuts-unheard w u more k q = sound-told w k u more q.quiet q.events (ap (λ (h : Histories). h.write) q.lists) q.issued q.rows

-- a server stops, and nothing else is done
cuts-not : (w : World) (x : ℕ) (f : Option Fuse) → SoundCuts w → SoundCuts (not_done w x f)
cuts-not w x f k = cuts-unheard w (not_done w x f) (Stopped x 0 ∷ []) k (unheard w (not_done w x f) (Stopped x 0 ∷ []) refl (tt, tt) (tt, tt) (histories-append w.events (Stopped x 0 ∷ [])) refl refl refl refl refl refl refl)

-- a move
module _ (starts : Option ℕ) (w : World) (s : SoundBut starts w) (k : SoundCuts w) where
  cuts-done : (m : Move) (f : Option Fuse) → May w m → SoundCuts (done w m f)
  cuts-done m f may =
      may-done starts w s k (done w m f) (w.control.volume (target m)) m may
      (record { rows = table-done w s.rows.structure m f s.rows.images.blank may.allowed may.ready; writes = done-writes w (Make m) f; issued = refl }) refl

  cuts-stop : (m : Move) (f : Option Fuse) → May w m → SoundCuts (done_in_stop w m f)
  cuts-stop m f may =
      let u : Volume = w.control.volume (target m) in
      may-stop starts w s k (done_in_stop w m f) u m may
      (record { rows = table-stop w s.rows.structure m f s.rows.images.blank may.allowed may.ready; writes = stopped-writes w m; issued = refl }) (Stopped u.server (landed m) ∷ []) (tt, tt) refl

  -- the first hold of an attempt
  cuts-opened : (v i n : ℕ) (f : Option Fuse) → MayOpen w v i n → SoundCuts (after_act w (OpenAttempt v i n) f)
  cuts-opened v i n f may =
      open-done starts w s k (after_act w (OpenAttempt v i n) f) (w.control.volume v) v i n may
      (record { rows = table-done w s.rows.structure (Hold v i n true) f s.rows.images.blank may.allowed may.ready; writes = done-writes w (OpenAttempt v i n) f; issued = refl }) refl

  cuts-opened_stop : (v i n : ℕ) (f : Option Fuse) → MayOpen w v i n → SoundCuts (opened_in_stop w v i n f)
  cuts-opened_stop v i n f may =
      let u : Volume = w.control.volume v in
      open-stop starts w s k (opened_in_stop w v i n f) u v i n may
      (record { rows = table-stop w s.rows.structure (Hold v i n true) f s.rows.images.blank may.allowed may.ready; writes = stopped-writes w (Hold v i n true); issued = refl }) (Stopped u.server 0 ∷ []) (tt, tt) refl

-- the acts of plans but a start's
acts : Rides Sound SoundCuts MayDo
acts = record { does = does; counts = λ w m f s k may. cuts-stop None w s k m f may; opens = λ w v i n f s k may. cuts-opened_stop None w s k v i n f may; fails = λ w a f d s k may. cuts-not w _ f k }
  where
    does : (w : World) (a : Act) (f : Option Fuse) → Sound w → SoundCuts w → MayDo w a → SoundCuts (after_act w a f)
    does w (Make m) f s k may = cuts-done None w s k m f may
    does w (OpenAttempt v i n) f s k may = cuts-opened None w s k v i n f may
    does w (Redo v) f s k may = sound-same w k (fused w (server_at w v) f) refl refl refl
    does w (Acknowledge n) f s k may = absurd may
    does w (Drop n) f s k may =
        let h : Histories = histories w.events in
        sound-same w k (dropped w n) refl refl (λ i v. record (table w v) { due = λ q. image h.write (h.now v q ++ waiting-settled n v q w.control.pending may i) })
    does w (EndFreeze l m) f s k may = cuts-unheard w (frozen w l m) (Frozen l m ∷ []) k (unheard w (frozen w l m) (Frozen l m ∷ []) refl (tt, tt) (tt, tt) (histories-append w.events (Frozen l m ∷ [])) refl refl refl refl refl refl refl)
    does w (EndThaw l m) f s k may = cuts-unheard w (thawed w l m) (Thawed l m ∷ []) k (unheard w (thawed w l m) (Thawed l m ∷ []) refl (tt, tt) (tt, tt) (histories-append w.events (Thawed l m ∷ [])) refl refl refl refl refl refl refl)
    does w (EndRecovery i n) f s k may = cuts-unheard w (recovered w i n) (Recovered i n ∷ []) k (unheard w (recovered w i n) (Recovered i n ∷ []) refl (tt, tt) (tt, tt) (histories-append w.events (Recovered i n ∷ [])) refl refl refl refl refl refl refl)

-- and those of the start of server x
module _ (x : ℕ) where
  cuts-acknowledged : (w : World) (n : ℕ) → starts.Inner x w → SoundCuts w → starts.MayAcknowledge x w n → SoundCuts (acknowledged w n)
  cuts-acknowledged w n j k may =
      subst (λ n. SoundCuts (acknowledged w n)) may.number
      (sound-told w k (acknowledged w may.waits.w) (Ack may.waits.w ∷ []) (tt, tt) refl (with-told w (Ack may.waits.w ∷ []) refl) refl
      (λ i v. record (table w v) { due = λ q. starts.same-due x w j.sound may.waits may.first v q i; aside = λ q. starts.same-aside x w j.sound may.waits may.first v q i }))

  start-acts : Rides (starts.Inner x) SoundCuts (starts.MayStart x)
  start-acts = record { does = does; counts = counts; opens = λ w v i n f j k may. absurd may; fails = λ w a f d j k may. cuts-not w _ f k }
    where
      does : (w : World) (a : Act) (f : Option Fuse) → starts.Inner x w → SoundCuts w → starts.MayStart x w a → SoundCuts (after_act w a f)
      does w (Make (Restart v)) f j k may = cuts-done (Some x) w j.sound k (Restart v) f (starts.may-restart x w v may)
      does w (Redo v) f j k may = sound-same w k (fused w (server_at w v) f) refl refl refl
      does w (Acknowledge n) f j k may = cuts-acknowledged w n j k may
      does w a f j k may = absurd may

      counts : (w : World) (m : Move) (f : Option Fuse) → starts.Inner x w → SoundCuts w → starts.MayMove x w m → SoundCuts (done_in_stop w m f)
      counts w (Restart v) f j k may = cuts-stop (Some x) w j.sound k (Restart v) f (starts.may-restart x w v may)
      counts w m f j k may = absurd may

-- an attempt begins before any hold
cuts-opens : (w : World) (i n : ℕ) → SoundCuts w → SoundCuts (opened w i n)
cuts-opens w i n k =
    let u : World = with_tables w (changed i begun w.control.sessions) w.control.flight in
    cuts-unheard u (opened w i n) (Begin i n ∷ []) (sound-same w k u refl refl refl) (unheard u (opened w i n) (Begin i n ∷ []) refl (tt, tt) (tt, tt) (histories-append w.events (Begin i n ∷ [])) refl refl refl refl refl refl refl)

pub cuts-ride : Rider SoundCuts
cuts-ride = record {
  acts = acts;
  start_acts = start-acts;
  unheard = λ w u more k q none. cuts-unheard w u more k q;
  regroups = λ w ss f s t turn adds goes k. sound-same w k (with_tables w ss f) refl refl refl;
  opens = λ w i n x r s t found has idle next k. cuts-opens w i n k;
  issues = λ w s v t offset len bytes defined low k. sound-issue w k (issued w s v t offset len bytes defined low) v t offset len bytes refl refl (same-table w s v t offset len bytes defined low);
  defines = λ w s v server tracks here undefined k.
      sound-defined w s.rows k (with_volume w s v server tracks here undefined) (VolumeDefined v server tracks ∷ []) (tt, tt) refl (with-told w (VolumeDefined v server tracks ∷ []) refl) refl v (row w s v server tracks here undefined) undefined refl refl
      (table-defined w s v server tracks here undefined);
}

pub cuts-task : (w : World) (t : Task) → Sound w → SoundCuts w → SoundCuts (after_task w t)
cuts-task w t s k = rides-task SoundCuts cuts-ride w t s k

pub cuts-run : (tasks : List Task) → SoundCuts (run tasks)
cuts-run tasks = rides-tasks SoundCuts cuts-ride nothing tasks steps.sound-nothing sound-nothing

pub seals-run : (tasks : List Task) → SealsHold (run tasks)
seals-run tasks = let k = cuts-run tasks in let s = steps.sound-run tasks in seals-hold (run tasks) k.laws s.rows k.once
