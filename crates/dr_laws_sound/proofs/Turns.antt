-- How an act ends: it is done; or its server stops in it, and it counts as done or doesn't.
use Rattle.std.proofs.Common.{ℕ, ◌≡◌, refl, ap, ◌∙◌, sym, subst, Bool, true, false, cond, not, [], ◌∷◌, ◌++◌, Option, Some, None, is_some}
use Rattle.std.proofs.Math.Path.{fun_ext}
use Rattle.dr_logic.specs.Tables.{at}
use Rattle.dr_model.specs.declared.event.Event.TheVariants.{Stopped}
use Rattle.dr_model.specs.Histories.{histories}
use Rattle.dr_model.specs.Layout.{Fields}
use Rattle.dr_model.specs.Control.{Fuse, Volume, World}
use Rattle.dr_model.specs.Moves.{Move, Hold, Carried, target, fields_left, next_fields, carried, told, told_in_stop, landed, settled, settled_in_stop, keeps_staged, updated_keeping, moved, moved_keeping}
use Rattle.dr_model.specs.Entries.{fields_at}
use Rattle.dr_model.specs.Carry.{Act, Make, OpenAttempt, Redo, Acknowledge, Drop, EndFreeze, EndThaw, EndRecovery, dropped, frozen, thawed, recovered, Turn, Ended, ended, turn, redo, redo_ended, redo_writes, act, acknowledged, spent, off, burnt, lower, pass, equal, attempt_begun, opened_by}
use Rattle.dr_model.proofs.CarryLemmas.{lowered-armed, turn-ends}
use Rattle.dr_facts.proofs.Turns.{equal-same, equal-not}
use Rattle.dr_laws_attempts.proofs.Moves.{at_map}
use Rattle.dr_logic.proofs.Tables.{at_same}

abbrev pub server_at : World → ℕ → ℕ
server_at w v = (w.control.volume v).server

abbrev pub next_of : World → Move → Fields
next_of w m = next_fields m w.control.volume

abbrev pub carried_in : World → Move → Carried
carried_in w m = carried m w.control.volume w.contents (histories w.events).write

abbrev pub moved_in : World → Move → World
moved_in w m = updated_keeping (keeps_staged m) w (target m) (next_of w m) (carried_in w m)

-- a move that is done, where its server's fuse is then that one
abbrev pub done : World → Move → Option Fuse → World
done w m f =
    let u : Volume = w.control.volume (target m) in
    record (moved_in w m) {
      control = record (moved_in w m).control { fuse = at w.control.fuse u.server f; pending = settled m w.control.pending };
      events = w.events ++ told m u;
    }

-- the fields of all volumes then
pub fields-then : (w : World) (m : Move) → fields_at (done w m None).control ≡ at (fields_at w.control) (target m) (fields_left m (w.control.volume (target m)))
fields-then w m = fun_ext (λ u. at_map (λ (y : Volume). y.fields) w.control.volume (target m) (moved_keeping (keeps_staged m) (w.control.volume (target m)) (next_of w m) (carried_in w m)) u)

-- a server stopped in a move, which counts as done
abbrev pub done_in_stop : World → Move → Option Fuse → World
done_in_stop w m f =
    let u : Volume = w.control.volume (target m) in
    record (moved_in w m) {
      control = record (moved_in w m).control { on = at w.control.on u.server false; fuse = at w.control.fuse u.server f; pending = settled_in_stop m w.control.pending };
      events = w.events ++ (told_in_stop m u ++ Stopped u.server (landed m) ∷ []);
    }

-- or doesn't
abbrev pub not_done : World → ℕ → Option Fuse → World
not_done w s f = record w { control = record w.control { on = at w.control.on s false; fuse = at w.control.fuse s f }; events = w.events ++ Stopped s 0 ∷ [] }

-- writes that changed nothing but a fuse
abbrev pub fused : World → ℕ → Option Fuse → World
fused w s f = record w { control = record w.control { fuse = at w.control.fuse s f } }

-- how a turn ends: a server that stops in it had its fuse armed, and one that doesn't has it armed as before
pub turn-armed : (w : World) (m : Move) (P : Turn → Type 0)
    → (w.control.on (server_at w (target m)) ≡ false → P (w, None))
    → ((f : Option Fuse) → is_some f ≡ is_some (w.control.fuse (server_at w (target m))) → P (done w m f, None))
    → (is_some (w.control.fuse (server_at w (target m))) ≡ true → (f : Option Fuse) → P (done_in_stop w m f, Some (server_at w (target m))))
    → (is_some (w.control.fuse (server_at w (target m))) ≡ true → (f : Option Fuse) → P (not_done w (server_at w (target m)) f, Some (server_at w (target m))))
    → P (turn w m)
turn-armed w m P o a b c =
    let fuse : Option Fuse = w.control.fuse (server_at w (target m)) in
    turn-ends w m P o (λ on n. a (lower n fuse) (lowered-armed n fuse)) (λ on armed. b armed (burnt fuse)) (λ on armed. c armed (burnt fuse))

pub turn-cases : (w : World) (m : Move) (P : Turn → Type 0)
    → (w.control.on (server_at w (target m)) ≡ false → P (w, None))
    → ((f : Option Fuse) → P (done w m f, None))
    → ((f : Option Fuse) → P (done_in_stop w m f, Some (server_at w (target m))))
    → ((f : Option Fuse) → P (not_done w (server_at w (target m)) f, Some (server_at w (target m))))
    → P (turn w m)
turn-cases w m P o a b c = turn-armed w m P o (λ f same. a f) (λ armed. b) (λ armed. c)

-- a staged track written to its place, by what decides it
abbrev redone_by : World → ℕ → Bool → Bool → Ended
redone_by w v on passes =
    let s : ℕ = server_at w v in
    cond (not on) (ended w true false) (cond passes (ended (spent w s (redo_writes (w.control.volume v).staged)) false true) (ended (off w s) true false))

abbrev redo_by : World → ℕ → Bool → Bool → Turn
redo_by w v on passes =
    let s : ℕ = server_at w v in
    let e : Ended = redone_by w v on passes in
    cond (not on) (w, None) (cond e.stopped (record e.world { events = w.events ++ Stopped s 0 ∷ [] }, Some s) (e.world, None))

redo-by : (w : World) (v : ℕ) → redo_ended w v (redo w v) ≡ redo_by w v (w.control.on (server_at w v)) (pass (w.control.fuse (server_at w v)) (redo_writes (w.control.volume v).staged))
unfolding redo
redo-by w v = refl

redo_by-cases : (w : World) (v : ℕ) (P : Turn → Type 0) (on passes : Bool)
    → (on ≡ false → P (w, None))
    → ((f : Option Fuse) → P (fused w (server_at w v) f, None))
    → ((f : Option Fuse) → P (not_done w (server_at w v) f, Some (server_at w v)))
    → P (redo_by w v on passes)
redo_by-cases w v P false passes o a b = o refl
redo_by-cases w v P true true o a b = a _
redo_by-cases w v P true false o a b = b _

-- the volume whose server carries an act out
abbrev pub place : Act → ℕ
place (Make m) = target m
place (OpenAttempt v s n) = v
place (Redo v) = v
place (Acknowledge n) = 0
place (Drop n) = 0
place (EndFreeze l m) = 0
place (EndThaw l m) = 0
place (EndRecovery s n) = 0

abbrev pub server_of : World → Act → ℕ
server_of w a = server_at w (place a)

-- the world after an act that is done
abbrev pub after_act : World → Act → Option Fuse → World
after_act w (Make m) f = done w m f
after_act w (OpenAttempt v s n) f = attempt_begun (done w (Hold v s n true) f) s
after_act w (Redo v) f = fused w (server_at w v) f
after_act w (Acknowledge n) f = acknowledged w n
after_act w (Drop n) f = dropped w n
after_act w (EndFreeze l m) f = frozen w l m
after_act w (EndThaw l m) f = thawed w l m
after_act w (EndRecovery s n) f = recovered w s n

-- acts that write to a device
abbrev pub Writes : Act → Type 0
Writes (Acknowledge n) = ⊥
Writes (Drop n) = ⊥
Writes (EndFreeze l m) = ⊥
Writes (EndThaw l m) = ⊥
Writes (EndRecovery s n) = ⊥
Writes a = Unit {0}

-- a move that counts as done in a stop, and one that begins an attempt
abbrev pub opened_in_stop : World → ℕ → ℕ → ℕ → Option Fuse → World
opened_in_stop w v s n f = attempt_begun (done_in_stop w (Hold v s n true) f) s

abbrev pub Counts : World → Act → (Turn → Type 0) → Type 0
Counts w (Make m) P = (f : Option Fuse) → P (done_in_stop w m f, Some (server_at w (target m)))
Counts w (OpenAttempt v s n) P = (f : Option Fuse) → P (opened_in_stop w v s n f, Some (server_at w v))
Counts w a P = Unit {0}

open-cases : (w : World) (v s n : ℕ) (P : Turn → Type 0)
    → (w.control.on (server_at w v) ≡ false → P (w, None))
    → ((f : Option Fuse) → P (attempt_begun (done w (Hold v s n true) f) s, None))
    → ((f : Option Fuse) → P (opened_in_stop w v s n f, Some (server_at w v)))
    → ((f : Option Fuse) → P (not_done w (server_at w v) f, Some (server_at w v)))
    → P (opened_by w v s (turn w (Hold v s n true)))
open-cases w v s n P o a b c =
    let m : Move = Hold v s n true in
    let slot : Bool = (w.control.volume v).slot in
    let new : ((at w.control.volume v (moved (w.control.volume v) (next_of w m) None) v).slot ≡ not slot) = ap (λ (x : Volume). x.slot) (at_same w.control.volume v (moved (w.control.volume v) (next_of w m) None)) in
    let opens : (equal slot (at w.control.volume v (moved (w.control.volume v) (next_of w m) None) v).slot ≡ false) = ap (equal slot) new ∙ equal-not slot in
    let stays : (equal slot slot ≡ true) = equal-same slot in
    turn-cases w m (λ t. P (opened_by w v s t))
    (λ off. subst (λ e. P (cond e w (attempt_begun w s), None)) (sym stays) (o off))
    (λ f. subst (λ e. P (cond e (done w m f) (attempt_begun (done w m f) s), None)) (sym opens) (a f))
    (λ f. subst (λ e. P (cond e (done_in_stop w m f) (opened_in_stop w v s n f), Some (server_at w v))) (sym opens) (b f))
    (λ f. subst (λ e. P (cond e (not_done w (server_at w v) f) (attempt_begun (not_done w (server_at w v) f) s), Some (server_at w v))) (sym stays) (c f))

pub act-cases : (w : World) (a : Act) (P : Turn → Type 0)
    → (Writes a → w.control.on (server_of w a) ≡ false → P (w, None))
    → ((f : Option Fuse) → P (after_act w a f, None))
    → Counts w a P
    → (Writes a → (f : Option Fuse) → P (not_done w (server_of w a) f, Some (server_of w a)))
    → P (act w a)
unfolding act
act-cases w (Make m) P o a b c = turn-cases w m P (o tt) a b (c tt)
act-cases w (OpenAttempt v s n) P o a b c = open-cases w v s n P (o tt) a b (c tt)
act-cases w (Redo v) P o a b c = subst P (sym (redo-by w v)) (redo_by-cases w v P _ _ (o tt) a (c tt))
act-cases w (Acknowledge n) P o a b c = a None
act-cases w (Drop n) P o a b c = a None
act-cases w (EndFreeze l m) P o a b c = a None
act-cases w (EndThaw l m) P o a b c = a None
act-cases w (EndRecovery s n) P o a b c = a None
