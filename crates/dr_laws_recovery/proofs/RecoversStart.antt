-- The start of a server leaves what a recovery makes of each session.
use Rattle.std.proofs.Common.{ℕ, refl, subst, true, [], ◌∷◌, ◌++◌, take, length, Option, Some, None}
use Rattle.std.proofs.Math.Seq.{take-length}
use Rattle.dr_ids.specs.declared.refusal.Refusal.{Refusal}
use Rattle.dr_ids.specs.declared.refusal.Refusal.TheVariants.{Stopped as StoppedIn}
use Rattle.dr_model.specs.declared.event.Event.TheVariants.{Started}
use Rattle.dr_model.specs.Control.{Fuse, World}
use Rattle.dr_model.specs.Moves.{Move, Restart}
use Rattle.dr_model.specs.Carry.{Act, Make, Redo, Acknowledge, carry}
use Rattle.dr_model.specs.WriteEntries.{start_entries}
use Rattle.dr_model.specs.Plans.{acknowledge_on, start_plan, starting}
use Rattle.dr_model.specs.Runs.{begun, finish, after_plan, stop_place}
use Rattle.dr_model.specs.Laws.{Sound, sizes}
use Rattle.dr_laws_recovery.specs.Recovered.{recovered_in, SameRecovery, KeepsRecovery}
use Rattle.dr_laws_sound.proofs.Turns.{done, done_in_stop, after_act}
use Rattle.dr_laws_sound.proofs.RowsAfter.{table-done, table-stop}
use Rattle.dr_laws_sound.proofs.Rides.{Rides, Both, keeps-with, along-with}
use Rattle.dr_laws_recovery.proofs.Recovers.{Keeps, keeps-begin, keeps-told, keeps-still, keeps-recovery}
use Rattle.dr_laws_sound.proofs.Starts as starts
use Rattle.dr_laws_sound.proofs.Along as along

module _ (w : World) (sound : Sound w) (x s : ℕ) where
  restart-done : (u : World) (v : ℕ) (f : Option Fuse) → starts.Inner x u → Keeps w s u → starts.OnServer x u v → Keeps w s (done u (Restart v) f)
  restart-done u v f j k may =
      let m = starts.may-restart x u v may in
      keeps-still w s u (done u (Restart v) f) refl k (Restart v) (table-done u j.sound.rows.structure (Restart v) f j.sound.rows.images.blank m.allowed m.ready) (record { volumes = refl; keeps = true; volume = refl })
      j.sound.rows j.sound.attempts m.allowed refl refl refl refl (λ n. n) (λ t. refl)

  restart-stop : (u : World) (v : ℕ) (f : Option Fuse) → starts.Inner x u → Keeps w s u → starts.OnServer x u v → Keeps w s (done_in_stop u (Restart v) f)
  restart-stop u v f j k may =
      let m = starts.may-restart x u v may in
      keeps-still w s u (done_in_stop u (Restart v) f) refl k (Restart v) (table-stop u j.sound.rows.structure (Restart v) f j.sound.rows.images.blank m.allowed m.ready) (record { volumes = refl; keeps = true; volume = refl })
      j.sound.rows j.sound.attempts m.allowed refl refl refl refl (λ n. n) (λ t. refl)

  start-acts : Rides (starts.Inner x) (Keeps w s) (starts.MayStart x)
  start-acts = record { does = does; counts = counts; opens = λ u v i n f j k may. absurd may; fails = λ u a f d j k may. keeps-told w s u _ _ _ _ _ k }
    where
      does : (u : World) (a : Act) (f : Option Fuse) → starts.Inner x u → Keeps w s u → starts.MayStart x u a → Keeps w s (after_act u a f)
      does u (Make (Restart v)) f j k may = restart-done u v f j k may
      does u (Redo v) f j k may = keeps-told w s u _ _ _ _ _ k
      does u (Acknowledge n) f j k may = keeps-told w s u _ _ _ _ _ k
      does u a f j k may = absurd may

      counts : (u : World) (m : Move) (f : Option Fuse) → starts.Inner x u → Keeps w s u → starts.MayMove x u m → Keeps w s (done_in_stop u m f)
      counts u (Restart v) f j k may = restart-stop u v f j k may
      counts u m f j k may = absurd may

  abbrev first : World
  first = begun w (start_plan w.control x)

  begins : Both (starts.Inner x) (Keeps w s) first
  begins = (starts.begins x w sound, keeps-told w s w (starting x w.control).on (starting x w.control).fuse w.control.pending (starting x w.control).flight (w.events ++ Started x ∷ []) (keeps-begin w s))

  abbrev I : World → Type 0
  I = Both Sound (Keeps w s)

  goes : along.Along (Both (starts.Inner x) (Keeps w s)) I I (starts.MayStart x) first (start_plan w.control x).entries
  goes = along-with (starts.Inner x) Sound Sound (Keeps w s) (starts.MayStart x) first (start_entries x w.control.volumes ++ acknowledge_on x ∷ []) begins.1 (starts.volumes-start x w.control.volumes first begins.0)

  acts : along.Keeps (Both (starts.Inner x) (Keeps w s)) I (starts.MayStart x)
  acts = keeps-with (starts.Inner x) (Keeps w s) (starts.MayStart x) Sound (starts.keeps x) start-acts

  abbrev Same : World → Type 0
  Same u = SameRecovery (sizes w.control) (recovered_in w s) (recovered_in u s)

  moment : (n : ℕ) → Same (carry first (take n (start_plan w.control x).entries)).0
  moment n = keeps-recovery w s _ (along.along-moment (Both (starts.Inner x) (Keeps w s)) I I (Keeps w s) (starts.MayStart x) (λ v j. j.1) (λ v j. j.1) (λ v j. j.1) acts first n (start_plan w.control x).entries begins goes)

  ends : (n : ℕ) (u : World) (r : Option Refusal) → Same u → Same (finish (start_plan w.control x) n u r)
  unfolding carry
  ends n u None same = same
  ends n u (Some (StoppedIn q)) same = same
  ends n u (Some r) same = same

  after : (line : ℕ) → Same (after_plan w line (start_plan w.control x))
  unfolding after_plan
  after line = ends (stop_place w (start_plan w.control x)) _ _ (subst (λ ds. Same (carry first ds).0) (take-length (start_plan w.control x).entries) (moment (length (start_plan w.control x).entries)))

  pub start-keeps : KeepsRecovery w (start_plan w.control x) s
  start-keeps = record {
    moments = moment;
    reads = λ armed u r e. keeps-recovery w s u (along.ends-weaker (Both (starts.Inner x) (Keeps w s)) I I (Keeps w s) (starts.MayStart x) (λ v j. j.1) (λ v j. j.1) (λ v j. j.1) acts armed
        (λ v q j on is. keeps-told w s v _ _ _ _ _ j.1) u r first (start_plan w.control x).entries begins goes e);
    after = after;
  }
