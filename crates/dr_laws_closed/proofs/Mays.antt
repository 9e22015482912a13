-- What may come in a sound world keeps the laws of closed cuts: a move, and the first hold of an attempt, done or counted as done in a
-- stop.
use Rattle.std.proofs.Common.{ℕ, ◌≡◌, refl, sym, true, List, ◌++◌, Option, subst}
use Rattle.dr_model.specs.declared.event.Event.{Event}
use Rattle.dr_model.specs.Control.{Pending, World}
use Rattle.dr_model.specs.Moves.{Move, Hold, settled, settled_in_stop, target, told, told_in_stop}
use Rattle.dr_model.specs.Entries.{fields_at}
use Rattle.dr_model.specs.Sessions.{changed, begun}
use Rattle.dr_model.specs.Laws.{SoundBut}
use Rattle.dr_model.specs.Allowed.{May, MayOpen}
use Rattle.dr_laws_cuts.specs.Sound.{SoundCuts}
use Rattle.dr_laws_closed.specs.Closing.{LandedFree, Closing}
use Rattle.dr_laws_closed.specs.Next.{MovesTo}
use Rattle.dr_laws_closed.specs.Silent.{Silent}
use Rattle.dr_laws_closed.proofs.Told.{told-of, stopped-of}
use Rattle.dr_laws_closed.proofs.Landed.{settled-free, stopped-free}
use Rattle.dr_laws_closed.proofs.Keeps.{keeps}
use Rattle.dr_laws_closed.proofs.Held.{held, opened}

module _ (starts : Option ℕ) (w : World) (sound : SoundBut starts w) (kept : SoundCuts w) (old : Closing w) (x : World) where
  free-by : (ps : List Pending) → x.control.pending ≡ ps → LandedFree (fields_at w.control) ps → LandedFree (fields_at w.control) x.control.pending
  free-by ps is free = subst (LandedFree (fields_at w.control)) (sym is) free

  pub may-done : (m : Move) → May w m → MovesTo w x m w.control.sessions (settled m w.control.pending) → x.events ≡ w.events ++ told m (w.control.volume (target m)) → Closing x
  may-done (Hold v s n first) may to is = held starts w sound kept old v s n first may.group.0 may.group.1.0 may.allowed may.ready x (told-of w.events x.events (Hold v s n first) (w.control.volume v) is) to.sessions to.messages to.fields to.pending
  may-done m may to is = keeps starts w sound old m may refl x (told-of w.events x.events m (w.control.volume (target m)) is) to.sessions to.messages to.fields (free-by (settled m w.control.pending) to.pending (settled-free w old.free m))

  pub may-stop : (m : Move) → May w m → MovesTo w x m w.control.sessions (settled_in_stop m w.control.pending) → (more : List Event) → Silent more → x.events ≡ w.events ++ (told_in_stop m (w.control.volume (target m)) ++ more) → Closing x
  may-stop (Hold v s n first) may to more quiet is = held starts w sound kept old v s n first may.group.0 may.group.1.0 may.allowed may.ready x (stopped-of w.events x.events more (Hold v s n first) (w.control.volume v) quiet is) to.sessions to.messages to.fields to.pending
  may-stop m may to more quiet is = keeps starts w sound old m may refl x (stopped-of w.events x.events more m (w.control.volume (target m)) quiet is) to.sessions to.messages to.fields (free-by (settled_in_stop m w.control.pending) to.pending (stopped-free w old.free sound.rows m may.allowed may.ready))

  pub open-done : (v s n : ℕ) → MayOpen w v s n → MovesTo w x (Hold v s n true) (changed s begun w.control.sessions) w.control.pending → x.events ≡ w.events ++ told (Hold v s n true) (w.control.volume v) → Closing x
  open-done v s n may to is = opened starts w sound kept old v s n may.opens may.allowed may.ready x (told-of w.events x.events (Hold v s n true) (w.control.volume v) is) to.sessions to.messages to.fields to.pending

  pub open-stop : (v s n : ℕ) → MayOpen w v s n → MovesTo w x (Hold v s n true) (changed s begun w.control.sessions) w.control.pending → (more : List Event) → Silent more → x.events ≡ w.events ++ (told_in_stop (Hold v s n true) (w.control.volume v) ++ more) → Closing x
  open-stop v s n may to more quiet is = opened starts w sound kept old v s n may.opens may.allowed may.ready x (stopped-of w.events x.events more (Hold v s n true) (w.control.volume v) quiet is) to.sessions to.messages to.fields to.pending
