-- No act of a step issues a write: the writes that a journal tells of are as they were before its entries.
use Rattle.std.proofs.Common.{◌≡◌, List, [], ◌∷◌, ◌++◌, refl, ◌∙◌, true, Option, Some, None}
use Rattle.dr_model.specs.declared.event.Event.TheVariants.{Stopped, Ack, Frozen, Thawed, Recovered}
use Rattle.dr_model.specs.Histories.{histories}
use Rattle.dr_model.specs.Control.{Fuse, Volume, World}
use Rattle.dr_model.specs.Moves.{Move, Hold, target, told, told_in_stop, landed}
use Rattle.dr_model.specs.Carry.{Act, Make, OpenAttempt, Redo, Acknowledge, Drop, EndFreeze, EndThaw, EndRecovery, Next, Pass, Do, End, Entry, Turn, Outcome, act, carry, continue, go}
use Rattle.dr_facts.proofs.Issued.{Alike, with-told, told-writes, stop-writes, act-writes}
use Rattle.dr_laws_sound.proofs.Turns.{after_act}

pub done-writes : (w : World) (a : Act) (f : Option Fuse) → Alike (after_act w a f) w
done-writes w (Make m) f = with-told w (told m (w.control.volume (target m))) (told-writes (histories w.events) m (w.control.volume (target m)))
done-writes w (OpenAttempt v s n) f = with-told w (told (Hold v s n true) (w.control.volume v)) (told-writes (histories w.events) (Hold v s n true) (w.control.volume v))
done-writes w (Redo v) f = refl
done-writes w (Acknowledge n) f = with-told w (Ack n ∷ []) refl
done-writes w (Drop n) f = refl
done-writes w (EndFreeze l m) f = with-told w (Frozen l m ∷ []) refl
done-writes w (EndThaw l m) f = with-told w (Thawed l m ∷ []) refl
done-writes w (EndRecovery s n) f = with-told w (Recovered s n ∷ []) refl

pub stopped-writes : (w : World) (m : Move) → let u : Volume = w.control.volume (target m) in (histories (w.events ++ (told_in_stop m u ++ Stopped u.server (landed m) ∷ []))).write ≡ (histories w.events).write
stopped-writes w m = let u = w.control.volume (target m) in with-told w (told_in_stop m u ++ Stopped u.server (landed m) ∷ []) (stop-writes (histories w.events) m u u.server (landed m))

then-writes : (w : World) (t : Turn) (next : World → Outcome) → Alike t.0 w → ((v : World) → Alike (next v).0 v) → Alike (continue t.0 t.1 next).0 w
then-writes w (v, None) next same more = more v ∙ same
then-writes w (v, Some s) next same more = same

go-writes : (w : World) (x : Next) (next : World → Outcome) → ((v : World) → Alike (next v).0 v) → Alike (go w x next).0 w
go-writes w Pass next more = more w
go-writes w (End r) next more = refl
go-writes w (Do a) next more = then-writes w (act w a) next (act-writes w a) more

pub unissued : (w : World) (ds : List Entry) → Alike (carry w ds).0 w
unfolding carry
unissued w [] = refl
unissued w (d ∷ ds) = go-writes w (d w.control) (λ v. carry v ds) (λ v. unissued v ds)
