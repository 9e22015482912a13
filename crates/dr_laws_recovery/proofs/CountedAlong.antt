-- Each target that counts shows the cut of its number along every step, and so along every run.
use Rattle.std.proofs.Common.{ℕ, refl, ap, sym, subst, true, List, [], ◌∷◌, ◌++◌, Option, Some, None}
use Rattle.std.proofs.lemmas.List.{append-nil}
use Rattle.dr_model.specs.declared.event.Event.{Event}
use Rattle.dr_model.specs.declared.event.Event.TheVariants.{Ack, Begin, Stopped, Frozen, Thawed, Recovered, Volume as VolumeDefined}
use Rattle.dr_model.specs.Contents.{image}
use Rattle.dr_model.specs.Histories.{Histories, histories}
use Rattle.dr_model.specs.Control.{World, Fuse, nothing}
use Rattle.dr_model.specs.Moves.{Move, Restart, Hold, landed, target}
use Rattle.dr_model.specs.Carry.{Act, Make, OpenAttempt, Redo, Acknowledge, Drop, EndFreeze, EndThaw, EndRecovery, acknowledged, dropped, frozen, thawed, recovered}
use Rattle.dr_model.specs.Runs.{Task, run}
use Rattle.dr_model.specs.Table.{table}
use Rattle.dr_model.specs.Cuts.{cuts}
use Rattle.dr_model.specs.Laws.{SoundBut, Sound}
use Rattle.dr_model.specs.Allowed.{May, MayOpen}
use Rattle.dr_model.proofs.Images.{histories-append}
use Rattle.dr_laws_closed.specs.Moments.{standing}
use Rattle.dr_laws_cuts.proofs.Worlds.{sound-nothing}
use Rattle.dr_laws_closed.proofs.Quiet.{closing-nothing}
use Rattle.dr_laws_targets.specs.Committeds.{committeds}
use Rattle.dr_laws_targets.specs.Counted.{TargetsShowCuts}
use Rattle.dr_laws_targets.proofs.Mays.{may-done, may-stop, open-done, open-stop}
use Rattle.dr_laws_targets.proofs.Quiet.{counted-nothing, counted-told, counted-issued, counted-defined}
use Rattle.dr_laws_targets.proofs.Regrouped.{counted-regrouped, counted-begun}
use Rattle.dr_laws_sound.proofs.Turns.{done, done_in_stop, opened_in_stop, not_done, fused, server_at, after_act}
use Rattle.dr_laws_sound.proofs.Due.{waiting-settled}
use Rattle.dr_laws_sound.proofs.RowsAfter.{table-done, table-stop}
use Rattle.dr_facts.proofs.Issued.{with-told}
use Rattle.dr_laws_sound.proofs.Unissued.{done-writes, stopped-writes}
use Rattle.dr_laws_sound.proofs.KeepsSound.{MayDo}
use Rattle.dr_laws_sound.proofs.Issues.{issued, same-table}
use Rattle.dr_laws_sound.proofs.Defines.{with_volume, row, table-defined}
use Rattle.dr_laws_sound.proofs.Starts as starts
use Rattle.dr_laws_sound.proofs.Steps as steps
use Rattle.dr_laws_sound.proofs.Rides.{Rides, Both}
use Rattle.dr_model.specs.Tables.{Once}
use Rattle.dr_model.specs.Sessions.{changed, begun}
use Rattle.dr_laws_sessions.proofs.Changes.{numbers}
use Rattle.dr_laws_sound.proofs.FitsMessages.{opened}
use Rattle.dr_laws_sound.proofs.Riders.{Unheard, unheard, with_tables, Rider, rides-tasks}
use Rattle.dr_laws_recovery.proofs.ClosesAlong.{Closes, closes-ride, stopped-silent}

abbrev pub Counts : World → Type 0
Counts = Both Closes TargetsShowCuts

-- what no list and no group hears of
unheard-keeps : (w u : World) (more : List Event) → TargetsShowCuts w → Unheard w u more → TargetsShowCuts u
unheard-keeps w u more k q = counted-told w u k more q.quiet q.still q.events q.sessions (ap (λ (h : Histories). h.write) q.lists) q.rows

-- a server stops, and nothing else is done
not-keeps : (w : World) (x : ℕ) (f : Option Fuse) → TargetsShowCuts w → TargetsShowCuts (not_done w x f)
not-keeps w x f k = unheard-keeps w (not_done w x f) (Stopped x 0 ∷ []) k (unheard w (not_done w x f) (Stopped x 0 ∷ []) refl (tt, tt) (tt, tt) (histories-append w.events (Stopped x 0 ∷ [])) refl refl refl refl refl refl refl)

-- a move
module _ (starts : Option ℕ) (w : World) (s : SoundBut starts w) (k : Counts w) where
  done-keeps : (m : Move) (f : Option Fuse) → May w m → TargetsShowCuts (done w m f)
  done-keeps m f may =
      may-done starts w s k.0.0 k.0.1 k.1 (done w m f) m may
      (record { rows = table-done w s.rows.structure m f s.rows.images.blank may.allowed may.ready; writes = done-writes w (Make m) f; issued = refl }) refl refl

  stop-keeps : (m : Move) (f : Option Fuse) → May w m → TargetsShowCuts (done_in_stop w m f)
  stop-keeps m f may =
      may-stop starts w s k.0.0 k.0.1 k.1 (done_in_stop w m f) m may
      (record { rows = table-stop w s.rows.structure m f s.rows.images.blank may.allowed may.ready; writes = stopped-writes w m; issued = refl }) refl
      (Stopped (server_at w (target m)) (landed m) ∷ []) (stopped-silent (server_at w (target m)) (landed m)) refl

  -- the first hold of an attempt
  opened-keeps : (v i n : ℕ) (f : Option Fuse) → MayOpen w v i n → TargetsShowCuts (after_act w (OpenAttempt v i n) f)
  opened-keeps v i n f may =
      open-done starts w s k.0.0 k.0.1 k.1 (after_act w (OpenAttempt v i n) f) v i n may
      (record { rows = table-done w s.rows.structure (Hold v i n true) f s.rows.images.blank may.allowed may.ready; writes = done-writes w (OpenAttempt v i n) f; issued = refl }) refl refl

  opened_stop-keeps : (v i n : ℕ) (f : Option Fuse) → MayOpen w v i n → TargetsShowCuts (opened_in_stop w v i n f)
  opened_stop-keeps v i n f may =
      open-stop starts w s k.0.0 k.0.1 k.1 (opened_in_stop w v i n f) v i n may
      (record { rows = table-stop w s.rows.structure (Hold v i n true) f s.rows.images.blank may.allowed may.ready; writes = stopped-writes w (Hold v i n true); issued = refl }) refl
      (Stopped (server_at w v) 0 ∷ []) (stopped-silent (server_at w v) 0) refl

-- the acts of plans but a start's
acts : Rides Sound Counts MayDo
acts = record {
  does = λ w a f s k may. (closes-ride.acts.does w a f s k.0 may, does w a f s k may);
  counts = λ w m f s k may. (closes-ride.acts.counts w m f s k.0 may, stop-keeps None w s k m f may);
  opens = λ w v i n f s k may. (closes-ride.acts.opens w v i n f s k.0 may, opened_stop-keeps None w s k v i n f may);
  fails = λ w a f d s k may. (closes-ride.acts.fails w a f d s k.0 may, not-keeps w _ f k.1);
}
  where
    does : (w : World) (a : Act) (f : Option Fuse) → Sound w → Counts w → MayDo w a → TargetsShowCuts (after_act w a f)
    does w (Make m) f s k may = done-keeps None w s k m f may
    does w (OpenAttempt v i n) f s k may = opened-keeps None w s k v i n f may
    does w (Redo v) f s k may = counted-told w (fused w (server_at w v) f) k.1 [] tt tt (sym (append-nil w.events)) refl refl refl
    does w (Acknowledge n) f s k may = absurd may
    does w (Drop n) f s k may =
        let h : Histories = histories w.events in
        counted-told w (dropped w n) k.1 [] tt tt (sym (append-nil w.events)) refl refl (λ i v. record (table w v) { due = λ q. image h.write (h.now v q ++ waiting-settled n v q w.control.pending may i) })
    does w (EndFreeze l m) f s k may = unheard-keeps w (frozen w l m) (Frozen l m ∷ []) k.1 (unheard w (frozen w l m) (Frozen l m ∷ []) refl (tt, tt) (tt, tt) (histories-append w.events (Frozen l m ∷ [])) refl refl refl refl refl refl refl)
    does w (EndThaw l m) f s k may = unheard-keeps w (thawed w l m) (Thawed l m ∷ []) k.1 (unheard w (thawed w l m) (Thawed l m ∷ []) refl (tt, tt) (tt, tt) (histories-append w.events (Thawed l m ∷ [])) refl refl refl refl refl refl refl)
    does w (EndRecovery i n) f s k may = unheard-keeps w (recovered w i n) (Recovered i n ∷ []) k.1 (unheard w (recovered w i n) (Recovered i n ∷ []) refl (tt, tt) (tt, tt) (histories-append w.events (Recovered i n ∷ [])) refl refl refl refl refl refl refl)

-- and those of the start of server x
module _ (x : ℕ) where
  acked-keeps : (w : World) (n : ℕ) → starts.Inner x w → TargetsShowCuts w → starts.MayAcknowledge x w n → TargetsShowCuts (acknowledged w n)
  acked-keeps w n j k may =
      subst (λ n. TargetsShowCuts (acknowledged w n)) may.number
      (counted-told w (acknowledged w may.waits.w) k (Ack may.waits.w ∷ []) (tt, tt) (tt, tt) refl refl (with-told w (Ack may.waits.w ∷ []) refl)
      (λ i v. record (table w v) { due = λ q. starts.same-due x w j.sound may.waits may.first v q i; aside = λ q. starts.same-aside x w j.sound may.waits may.first v q i }))

  start-acts : Rides (starts.Inner x) Counts (starts.MayStart x)
  start-acts = record {
    does = λ w a f j k may. ((closes-ride.start_acts x).does w a f j k.0 may, does w a f j k may);
    counts = λ w m f j k may. ((closes-ride.start_acts x).counts w m f j k.0 may, counts w m f j k may);
    opens = λ w v i n f j k may. absurd may;
    fails = λ w a f d j k may. ((closes-ride.start_acts x).fails w a f d j k.0 may, not-keeps w _ f k.1);
  }
    where
      does : (w : World) (a : Act) (f : Option Fuse) → starts.Inner x w → Counts w → starts.MayStart x w a → TargetsShowCuts (after_act w a f)
      does w (Make (Restart v)) f j k may = done-keeps (Some x) w j.sound k (Restart v) f (starts.may-restart x w v may)
      does w (Redo v) f j k may = counted-told w (fused w (server_at w v) f) k.1 [] tt tt (sym (append-nil w.events)) refl refl refl
      does w (Acknowledge n) f j k may = acked-keeps w n j k.1 may
      does w a f j k may = absurd may

      counts : (w : World) (m : Move) (f : Option Fuse) → starts.Inner x w → Counts w → starts.MayMove x w m → TargetsShowCuts (done_in_stop w m f)
      counts w (Restart v) f j k may = stop-keeps (Some x) w j.sound k (Restart v) f (starts.may-restart x w v may)
      counts w m f j k may = absurd may

-- an attempt begins before any hold
counted-opens : (w : World) (i n : ℕ) → Once (numbers w.control.sessions) → TargetsShowCuts w → TargetsShowCuts (opened w i n)
counted-opens w i n once k =
    let u : World = with_tables w (changed i begun w.control.sessions) w.control.flight in
    unheard-keeps u (opened w i n) (Begin i n ∷ []) (counted-begun (histories w.events).write w.control.sessions (table w) (cuts w.events) (standing w.events) (committeds w.events) i once k)
    (unheard u (opened w i n) (Begin i n ∷ []) refl (tt, tt) (tt, tt) (histories-append w.events (Begin i n ∷ [])) refl refl refl refl refl refl refl)

pub counts-ride : Rider Counts
counts-ride = record {
  acts = acts;
  start_acts = start-acts;
  unheard = λ w u more k q none. (closes-ride.unheard w u more k.0 q none, unheard-keeps w u more k.1 q);
  issues = λ w s v t offset len bytes defined low k. (
    closes-ride.issues w s v t offset len bytes defined low k.0,
    counted-issued w (issued w s v t offset len bytes defined low) k.0.0 k.1 v t offset len bytes refl (same-table w s v t offset len bytes defined low) refl,
  );
  regroups = λ w ss f s t turn adds goes k. (
    closes-ride.regroups w ss f s t turn adds goes k.0,
    counted-regrouped w.control ss f (table w) (λ v. refl) s.groups s.attempts t.groups t.attempts turn (histories w.events).write (cuts w.events) (standing w.events) (committeds w.events) k.1,
  );
  opens = λ w i n x r s t found has idle next k. (closes-ride.opens w i n x r s t found has idle next k.0, counted-opens w i n s.groups.once k.1);
  defines = λ w s v server tracks here undefined k. (
    closes-ride.defines w s v server tracks here undefined k.0,
    counted-defined w (with_volume w s v server tracks here undefined) k.1 (VolumeDefined v server tracks ∷ []) (tt, tt) (tt, tt) refl refl s.groups
        (with-told w (VolumeDefined v server tracks ∷ []) refl) v (row w s v server tracks here undefined) undefined refl (table-defined w s v server tracks here undefined),
  );
}

pub counts-run : (tasks : List Task) → Counts (run tasks)
counts-run tasks = rides-tasks Counts counts-ride nothing tasks steps.sound-nothing ((sound-nothing, closing-nothing), counted-nothing)
