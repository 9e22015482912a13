-- The cuts of each group are closed along every step, and so along every run.
use Rattle.std.proofs.Common.{ℕ, ◌≡◌, ◌<◌, ◌+◌, length, refl, ap, sym, ◌∙◌, subst, true, false, List, [], ◌∷◌, Option, Some, None}
use Rattle.std.proofs.Math.Path.{fun_ext}
use Rattle.std.proofs.lemmas.List.{append-nil}
use Rattle.dr_model.specs.declared.event.Event.{Event}
use Rattle.dr_model.specs.declared.event.Event.TheVariants.{Begin, Issue, Stopped, Frozen, Thawed, Recovered, Volume as VolumeDefined}
use Rattle.dr_model.specs.Histories.{Histories, histories, lists}
use Rattle.dr_model.specs.Control.{Pending, Volume, World, Fuse, is_volume, new_volume, nothing}
use Rattle.dr_model.specs.Moves.{Move, Restart, Hold, is_other, landed, target}
use Rattle.dr_model.specs.Entries.{fields_at}
use Rattle.dr_model.specs.Carry.{Act, Make, OpenAttempt, Redo, Acknowledge, Drop, EndFreeze, EndThaw, EndRecovery, acknowledged, dropped, frozen, thawed, recovered}
use Rattle.dr_model.specs.Plans.{has_landed}
use Rattle.dr_model.specs.Cuts.{cuts}
use Rattle.dr_laws_closed.specs.Moments.{moments, standing}
use Rattle.dr_model.specs.Runs.{Task, after_task, run}
use Rattle.dr_model.specs.Laws.{SoundBut, Sound}
use Rattle.dr_model.specs.Allowed.{May, MayOpen}
use Rattle.dr_model.specs.ClosedCuts.{ClosedCuts}
use Rattle.dr_model.proofs.Images.{histories-append}
use Rattle.dr_laws_attempts.proofs.Moves.{at_map}
use Rattle.dr_laws_cuts.specs.Sound.{SoundCuts}
use Rattle.dr_laws_cuts.proofs.Worlds.{sound-nothing}
use Rattle.dr_laws_closed.specs.Closing.{LandedFree, Closing}
use Rattle.dr_laws_closed.specs.Silent.{Silent}
use Rattle.dr_laws_closed.proofs.Pendings.{all-filter, all-more}
use Rattle.dr_laws_closed.proofs.Mays.{may-done, may-stop, open-done, open-stop}
use Rattle.dr_laws_closed.proofs.Quiet.{closing-nothing, closing-told, closing-defined, closing-acknowledged}
use Rattle.dr_laws_closed.proofs.Regrouped.{closing-regrouped}
use Rattle.dr_laws_closed.proofs.Opens.{closing-begun}
use Rattle.dr_laws_closed.proofs.ClosedCuts.{closed-cuts}
use Rattle.dr_laws_sound.proofs.Turns.{done, fields-then, done_in_stop, opened_in_stop, not_done, fused, server_at, after_act}
use Rattle.dr_laws_sound.proofs.KeepsSound.{MayDo}
use Rattle.dr_laws_sound.proofs.Issues.{issued}
use Rattle.dr_laws_sound.proofs.Defines.{with_volume}
use Rattle.dr_laws_sound.proofs.Starts as starts
use Rattle.dr_laws_sound.proofs.Steps as steps
use Rattle.dr_laws_sound.proofs.Rides.{Rides, Both}
use Rattle.dr_ids.specs.declared.refusal.PhaseName.TheVariants as phase
use Rattle.dr_model.specs.Sessions.{Session, Mirror, session_in, changed, begun}
use Rattle.dr_laws_sound.proofs.NewMessages.{eases-added}
use Rattle.dr_laws_sound.proofs.FitsMessages.{opened}
use Rattle.dr_laws_sound.proofs.Riders.{Unheard, unheard, with_tables, Rider, rides-task, rides-tasks}
use Rattle.dr_laws_recovery.proofs.Begins.{begins-run}
use Rattle.dr_laws_recovery.proofs.SealsAlong.{cuts-ride}
use Rattle.dr_logic.proofs.Tables.{at_other}

abbrev pub Closes : World → Type 0
Closes = Both SoundCuts Closing

-- what no list and no group hears of
closing-unheard : (w u : World) (more : List Event) → Closing w → Unheard w u more → Closing u
closing-unheard w u more k q =
    closing-told w u k more q.quiet q.still q.events q.sessions q.messages (λ v rec held t. ap (λ (h : Histories). h.now v t) q.lists)
    (ap (λ (volume : ℕ → Volume). λ v. (volume v).fields) q.volume) (subst (LandedFree (fields_at w.control)) (sym q.pending) k.free)

-- a server stops, and nothing else is done
closing-not : (w : World) (x : ℕ) (f : Option Fuse) → Closing w → Closing (not_done w x f)
closing-not w x f k = closing-unheard w (not_done w x f) (Stopped x 0 ∷ []) k (unheard w (not_done w x f) (Stopped x 0 ∷ []) refl (tt, tt) (tt, tt) (histories-append w.events (Stopped x 0 ∷ [])) refl refl refl refl refl refl refl)

-- other pending writes, and no other change
closing-pending : (w x : World) → Closing w → x.events ≡ w.events → x.control.sessions ≡ w.control.sessions → x.control.flight.messages ≡ w.control.flight.messages → x.control.volume ≡ w.control.volume → LandedFree (fields_at w.control) x.control.pending → Closing x
closing-pending w x k is sessions messages volume free =
    closing-told w x k [] tt tt (is ∙ sym (append-nil w.events)) sessions messages (λ v rec held t. ap (λ es. lists es v t) is) (ap (λ (volume : ℕ → Volume). λ v. (volume v).fields) volume) free

-- a move
pub stopped-silent : (x n : ℕ) → Silent (Stopped x n ∷ [])
stopped-silent x n = record { cut = (tt, tt); stand = (tt, tt); list = λ write v. (tt, tt) }

module _ (starts : Option ℕ) (w : World) (s : SoundBut starts w) (k : Closes w) where
  closing-done : (m : Move) (f : Option Fuse) → May w m → Closing (done w m f)
  closing-done m f may = may-done starts w s k.0 k.1 (done w m f) m may (record { fields = fields-then w m; sessions = refl; messages = refl; pending = refl }) refl

  closing-stop : (m : Move) (f : Option Fuse) → May w m → Closing (done_in_stop w m f)
  closing-stop m f may = may-stop starts w s k.0 k.1 (done_in_stop w m f) m may (record { fields = fields-then w m; sessions = refl; messages = refl; pending = refl })
      (Stopped (server_at w (target m)) (landed m) ∷ []) (stopped-silent (server_at w (target m)) (landed m)) refl

  closing-opened : (v i n : ℕ) (f : Option Fuse) → MayOpen w v i n → Closing (after_act w (OpenAttempt v i n) f)
  closing-opened v i n f may = open-done starts w s k.0 k.1 (after_act w (OpenAttempt v i n) f) v i n may (record { fields = fields-then w (Hold v i n true); sessions = refl; messages = refl; pending = refl }) refl

  closing-opened_stop : (v i n : ℕ) (f : Option Fuse) → MayOpen w v i n → Closing (opened_in_stop w v i n f)
  closing-opened_stop v i n f may = open-stop starts w s k.0 k.1 (opened_in_stop w v i n f) v i n may (record { fields = fields-then w (Hold v i n true); sessions = refl; messages = refl; pending = refl })
      (Stopped (server_at w v) 0 ∷ []) (stopped-silent (server_at w v) 0) refl

-- the acts of plans but a start's
acts : Rides Sound Closes MayDo
acts = record {
  does = λ w a f s k may. (cuts-ride.acts.does w a f s k.0 may, does w a f s k may);
  counts = λ w m f s k may. (cuts-ride.acts.counts w m f s k.0 may, closing-stop None w s k m f may);
  opens = λ w v i n f s k may. (cuts-ride.acts.opens w v i n f s k.0 may, closing-opened_stop None w s k v i n f may);
  fails = λ w a f d s k may. (cuts-ride.acts.fails w a f d s k.0 may, closing-not w _ f k.1);
}
  where
    does : (w : World) (a : Act) (f : Option Fuse) → Sound w → Closes w → MayDo w a → Closing (after_act w a f)
    does w (Make m) f s k may = closing-done None w s k m f may
    does w (OpenAttempt v i n) f s k may = closing-opened None w s k v i n f may
    does w (Redo v) f s k may = closing-pending w (fused w (server_at w v) f) k.1 refl refl refl refl k.1.free
    does w (Acknowledge n) f s k may = absurd may
    does w (Drop n) f s k may = closing-pending w (dropped w n) k.1 refl refl refl refl (all-filter _ (is_other n) w.control.pending k.1.free)
    does w (EndFreeze l m) f s k may = closing-unheard w (frozen w l m) (Frozen l m ∷ []) k.1 (unheard w (frozen w l m) (Frozen l m ∷ []) refl (tt, tt) (tt, tt) (histories-append w.events (Frozen l m ∷ [])) refl refl refl refl refl refl refl)
    does w (EndThaw l m) f s k may = closing-unheard w (thawed w l m) (Thawed l m ∷ []) k.1 (unheard w (thawed w l m) (Thawed l m ∷ []) refl (tt, tt) (tt, tt) (histories-append w.events (Thawed l m ∷ [])) refl refl refl refl refl refl refl)
    does w (EndRecovery i n) f s k may = closing-unheard w (recovered w i n) (Recovered i n ∷ []) k.1 (unheard w (recovered w i n) (Recovered i n ∷ []) refl (tt, tt) (tt, tt) (histories-append w.events (Recovered i n ∷ [])) refl refl refl refl refl refl refl)

-- and those of the start of server x
module _ (x : ℕ) where
  closing-acked : (w : World) (n : ℕ) → starts.Inner x w → Closing w → starts.MayAcknowledge x w n → Closing (acknowledged w n)
  closing-acked w n j k may =
      let p : Pending = may.waits in
      let off : (fields_at w.control p.volume).coordination ≡ false = starts.find-all (λ p. p.landed ≡ true → (fields_at w.control p.volume).coordination ≡ false) (has_landed w.control x) p w.control.pending may.first k.free (starts.gone x w j.sound p may.first).landed in
      subst (λ n. Closing (acknowledged w n)) may.number
      (closing-acknowledged w (acknowledged w p.w) k p.w refl (subst (λ v. (fields_at w.control v).coordination ≡ false) (sym (starts.waits x w j.sound p may.first).volume) off) refl refl refl
      (all-filter _ (is_other p.w) w.control.pending k.free))

  start-acts : Rides (starts.Inner x) Closes (starts.MayStart x)
  start-acts = record {
    does = λ w a f j k may. ((cuts-ride.start_acts x).does w a f j k.0 may, does w a f j k may);
    counts = λ w m f j k may. ((cuts-ride.start_acts x).counts w m f j k.0 may, counts w m f j k may);
    opens = λ w v i n f j k may. absurd may;
    fails = λ w a f d j k may. ((cuts-ride.start_acts x).fails w a f d j k.0 may, closing-not w _ f k.1);
  }
    where
      does : (w : World) (a : Act) (f : Option Fuse) → starts.Inner x w → Closes w → starts.MayStart x w a → Closing (after_act w a f)
      does w (Make (Restart v)) f j k may = closing-done (Some x) w j.sound k (Restart v) f (starts.may-restart x w v may)
      does w (Redo v) f j k may = closing-pending w (fused w (server_at w v) f) k.1 refl refl refl refl k.1.free
      does w (Acknowledge n) f j k may = closing-acked w n j k.1 may
      does w a f j k may = absurd may

      counts : (w : World) (m : Move) (f : Option Fuse) → starts.Inner x w → Closes w → starts.MayMove x w m → Closing (done_in_stop w m f)
      counts w (Restart v) f j k may = closing-stop (Some x) w j.sound k (Restart v) f (starts.may-restart x w v may)
      counts w m f j k may = absurd may

-- a write is issued
closing-issued : (w : World) (s : Sound w) (v t offset len : ℕ) (bytes : List ℕ) (defined : is_volume w.control v ≡ true) (low : t < (w.control.volume v).tracks) → Closing w → Closing (issued w s v t offset len bytes defined low)
closing-issued w s v t offset len bytes defined low k =
    let x : World = issued w s v t offset len bytes defined low in
    closing-told w x k (Issue (w.control.issued + 1) v t offset len bytes ∷ []) (tt, tt) (tt, tt) refl refl refl
    (λ u rec held q. ap (λ (h : Histories). h.now u q) (histories-append w.events (Issue (w.control.issued + 1) v t offset len bytes ∷ []))) refl
    (all-more _ w.control.pending (record { w = w.control.issued + 1; volume = v; track = t; landed = false }) k.free (λ l. absurd cc))

closing-new : (w : World) (s : Sound w) (v server tracks : ℕ) (here : server < length w.control.servers) (undefined : is_volume w.control v ≡ false) → Closing w → Closing (with_volume w s v server tracks here undefined)
closing-new w s v server tracks here undefined k =
    closing-defined w (with_volume w s v server tracks here undefined) k (VolumeDefined v server tracks ∷ []) (tt, tt) (tt, tt) refl refl refl v undefined s.groups
    (λ u t ne. ap (λ (h : Histories). h.now u t) (histories-append w.events (VolumeDefined v server tracks ∷ [])) ∙ ap (λ (l : ℕ → List ℕ). l t) (at_other (histories w.events).now v (λ t. []) u ne))
    (fun_ext (λ u. at_map (λ (y : Volume). y.fields) w.control.volume v (new_volume server tracks) u)) refl

-- an attempt begins before any hold
closing-opens : (w : World) (i n : ℕ) (x : Session) (r : Mirror) → Sound w → session_in w.control.sessions i ≡ Some x → x.mirror ≡ Some r → r.master.phase ≡ phase.Idle → Closing w → Closing (opened w i n)
closing-opens w i n x r s found has idle k =
    let u : World = with_tables w (changed i begun w.control.sessions) w.control.flight in
    closing-unheard u (opened w i n) (Begin i n ∷ []) (closing-begun w.control i x r s.groups s.attempts found has idle w.control.pending (lists w.events) (cuts w.events) (moments w.events) (standing w.events) k)
    (unheard u (opened w i n) (Begin i n ∷ []) refl (tt, tt) (tt, tt) (histories-append w.events (Begin i n ∷ [])) refl refl refl refl refl refl refl)

pub closes-ride : Rider Closes
closes-ride = record {
  acts = acts;
  start_acts = start-acts;
  unheard = λ w u more k q none. (cuts-ride.unheard w u more k.0 q none, closing-unheard w u more k.1 q);
  issues = λ w s v t offset len bytes defined low k. (cuts-ride.issues w s v t offset len bytes defined low k.0, closing-issued w s v t offset len bytes defined low k.1);
  regroups = λ w ss f s t turn adds goes k. (
    cuts-ride.regroups w ss f s t turn adds goes k.0,
    closing-regrouped w.control ss f s.groups s.attempts t.groups t.attempts t.flights turn (eases-added w.control.sessions w.control.flight f s.groups.once adds) w.control.pending (lists w.events) (cuts w.events) (moments w.events)
        (standing w.events) k.1,
  );
  opens = λ w i n x r s t found has idle next k. (cuts-ride.opens w i n x r s t found has idle next k.0, closing-opens w i n x r s found has idle k.1);
  defines = λ w s v server tracks here undefined k. (cuts-ride.defines w s v server tracks here undefined k.0, closing-new w s v server tracks here undefined k.1);
}

pub closes-task : (w : World) (t : Task) → Sound w → Closes w → Closes (after_task w t)
closes-task w t s k = rides-task Closes closes-ride w t s k

pub closes-run : (tasks : List Task) → Closes (run tasks)
closes-run tasks = rides-tasks Closes closes-ride nothing tasks steps.sound-nothing (sound-nothing, closing-nothing)

-- so the cuts of each group are closed
pub closed-run : (tasks : List Task) (s n : ℕ) → ClosedCuts (run tasks).events s n
closed-run tasks s n = let k = closes-run tasks in closed-cuts (run tasks).events (begins-run tasks).cuts k.0.once k.1.whole s n
