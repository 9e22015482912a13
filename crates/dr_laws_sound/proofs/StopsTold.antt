-- Where a step is refused because a server stopped, its acts told that stop, and the other way round. That is so where no entry
-- ends a plan with such a refusal.
use Rattle.std.proofs.Common.{ℕ, ◌≡◌, List, [], ◌∷◌, ◌++◌, refl, ap, ◌∙◌, sym, append_assoc, true, Option, Some, None}
use Rattle.std.proofs.lemmas.List.{append-nil}
use Rattle.std.specs.Option.{option_or}
use Rattle.dr_ids.specs.declared.refusal.Refusal.{Refusal}
use Rattle.dr_ids.specs.declared.refusal.Refusal.TheVariants.{Stopped as StoppedIn}
use Rattle.dr_model.specs.declared.event.Event.{Event}
use Rattle.dr_model.specs.declared.event.Event.TheVariants.{Ack, Stopped, Frozen, Thawed, Recovered}
use Rattle.dr_model.specs.Control.{Fuse, Volume as VolumeRow, World}
use Rattle.dr_model.specs.Relations.{rest}
use Rattle.dr_model.specs.Moves.{Move, Hold, told, told_in_stop, landed, target}
use Rattle.dr_model.specs.Carried.{begun}
use Rattle.dr_model.specs.PlanParts.{Plan}
use Rattle.dr_model.specs.Runs.{image_plan}
use Rattle.dr_facts.proofs.Reasons.{NoStop}
use Rattle.dr_facts.proofs.Entries.{any_world, AllFine, FineThen, FineFrom, FromThen, from-none}
use Rattle.dr_laws_sound.proofs.Does.{Acts, Late}
use Rattle.dr_laws_sound.proofs.DoesPlans.{case-does}
use Rattle.dr_laws_sound.proofs.Parts.{Ending, OnePlan, Imaged}
use Rattle.dr_model.specs.Carry.{Act, Make, OpenAttempt, Redo, Acknowledge, Drop, EndFreeze, EndThaw, EndRecovery, act, Turn, Next, Pass, Do, End, Entry, Outcome, carry, continue, go}
use Rattle.dr_facts.proofs.Emits.{Of, Lists, by_moves, all-told, all-stop}
use Rattle.dr_laws_sound.specs.Stops.{first_stop, stop_in, refused_stop, StopsTold}
use Rattle.dr_laws_sound.proofs.Turns.{act-cases, Counts, after_act, server_of}

pub first-append : (es fs : List Event) → first_stop (es ++ fs) ≡ option_or (first_stop es) (first_stop fs)
first-append [] fs = refl
first-append (e ∷ es) fs = ap (λ o. option_or (stop_in e) o) (first-append es fs) ∙ grouped (stop_in e) (first_stop es) (first_stop fs)
  where
    grouped : (a b c : Option ℕ) → option_or a (option_or b c) ≡ option_or (option_or a b) c
    grouped None b c = refl
    grouped (Some x) b c = refl

-- what a move tells is no stop
is-no-stop : (e : Event) → Of by_moves e → stop_in e ≡ None
is-no-stop (Stopped s n) by = absurd cc
is-no-stop e by = refl

no-stop : Lists (Of by_moves) (λ es. first_stop es ≡ None)
no-stop = record { none = refl; more = λ e es by behind i. option_or (is-no-stop e by i) (behind i) }

tells-no-stop : (m : Move) (u : VolumeRow) → first_stop (told m u) ≡ None
tells-no-stop = all-told _ no-stop

-- and the stop that it tells is the first
stop-told : (m : Move) (u : VolumeRow) → first_stop (told_in_stop m u ++ Stopped u.server (landed m) ∷ []) ≡ Some u.server
stop-told m u = first-append (told_in_stop m u) (Stopped u.server (landed m) ∷ []) ∙ ap (λ o. option_or o (Some u.server)) (all-stop _ no-stop m u)

done-tells : (w : World) (a : Act) (f : Option Fuse) → StopsTold w (after_act w a f) None
done-tells w (Make m) f = record { events = told m (w.control.volume (target m)); told = refl; tells = tells-no-stop m _ }
done-tells w (OpenAttempt v s n) f = record { events = told (Hold v s n true) (w.control.volume v); told = refl; tells = tells-no-stop (Hold v s n true) (w.control.volume v) }
done-tells w (Redo v) f = record { events = []; told = sym (append-nil w.events); tells = refl }
done-tells w (Acknowledge n) f = record { events = Ack n ∷ []; told = refl; tells = refl }
done-tells w (Drop n) f = record { events = []; told = sym (append-nil w.events); tells = refl }
done-tells w (EndFreeze l m) f = record { events = Frozen l m ∷ []; told = refl; tells = refl }
done-tells w (EndThaw l m) f = record { events = Thawed l m ∷ []; told = refl; tells = refl }
done-tells w (EndRecovery s n) f = record { events = Recovered s n ∷ []; told = refl; tells = refl }

counts-tells : (w : World) (a : Act) → Counts w a (λ t. StopsTold w t.0 t.1)
counts-tells w (Make m) = λ f. let u : VolumeRow = w.control.volume (target m) in record { events = told_in_stop m u ++ Stopped u.server (landed m) ∷ []; told = refl; tells = stop-told m u }
counts-tells w (OpenAttempt v s n) = λ f. let u : VolumeRow = w.control.volume v in record { events = told_in_stop (Hold v s n true) u ++ Stopped u.server 0 ∷ []; told = refl; tells = stop-told (Hold v s n true) u }
counts-tells w (Redo v) = tt
counts-tells w (Acknowledge n) = tt
counts-tells w (Drop n) = tt
counts-tells w (EndFreeze l m) = tt
counts-tells w (EndThaw l m) = tt
counts-tells w (EndRecovery s n) = tt

pub act-tells : (w : World) (a : Act) → StopsTold w (act w a).0 (act w a).1
act-tells w a = act-cases w a (λ t. StopsTold w t.0 t.1) (λ d off. record { events = []; told = sym (append-nil w.events); tells = refl })
    (done-tells w a) (counts-tells w a) (λ d f. record { events = Stopped (server_of w a) 0 ∷ []; told = refl; tells = refl })

no-stop-refused : (r : Refusal) → NoStop r → refused_stop (Some r) ≡ None
no-stop-refused (StoppedIn s) e = absurd cc
no-stop-refused r e = refl

pub tells-then : (w v u : World) (stop : Option ℕ) → StopsTold w v None → StopsTold v u stop → StopsTold w u stop
tells-then w v u stop a b = record {
  events = a.events ++ b.events;
  told = b.told ∙ ap (λ es. es ++ b.events) a.told ∙ append_assoc w.events a.events b.events;
  tells = first-append a.events b.events ∙ ap (λ o. option_or o (first_stop b.events)) a.tells ∙ b.tells;
}

-- an outcome tells the stop for which it is refused
abbrev pub Tells : World → Outcome → Type 0
Tells w o = StopsTold w o.0 (refused_stop o.1)

continue-tells : (w : World) (t : Turn) (next : World → Outcome) → StopsTold w t.0 t.1 → ((v : World) → Tells v (next v)) → Tells w (continue t.0 t.1 next)
continue-tells w (v, None) next first rest = tells-then w v _ _ first (rest v)
continue-tells w (v, Some s) next first rest = first

-- of entries that end a plan for no stop
module _ (Ok : World → Act → Type 0) (First Why : Refusal → Type 0) (first : (r : Refusal) → First r → NoStop r) (why : (r : Refusal) → Why r → NoStop r) where
  end-tells : (w : World) (r : Refusal) → NoStop r → Tells w (w, Some r)
  end-tells w r other = record { events = []; told = sym (append-nil w.events); tells = sym (no-stop-refused r other) }

  next-tells : (w : World) (x : Next) (next : World → Outcome) (more : Type 0) → FineThen any_world Ok Why w x more → (more → (v : World) → Tells v (next v)) → Tells w (go w x next)
  next-tells w Pass next more fine rest = rest fine w
  next-tells w (End r) next more fine rest = end-tells w r (why r fine)
  next-tells w (Do a) next more fine rest = continue-tells w (act w a) next (act-tells w a) (rest fine.1)

  carry-tells : (w : World) (ds : List Entry) → AllFine any_world Ok Why ds → Tells w (carry w ds)
  unfolding carry AllFine
  carry-tells w [] fine = record { events = []; told = sym (append-nil w.events); tells = refl }
  carry-tells w (d ∷ ds) fine = next-tells w (d w.control) (λ v. carry v ds) (AllFine any_world Ok Why ds) (fine w tt) (λ rest v. carry-tells v ds rest)

  from-next : (w : World) (x : Next) (ds : List Entry) → FromThen any_world Ok First Why w x (FineFrom any_world Ok First Why w ds) (AllFine any_world Ok Why ds) → (FineFrom any_world Ok First Why w ds → Tells w (carry w ds)) → Tells w (go w x (λ v. carry v ds))
  from-next w Pass ds fine rest = rest fine
  from-next w (End r) ds fine rest = end-tells w r (first r fine)
  from-next w (Do a) ds fine rest = continue-tells w (act w a) (λ v. carry v ds) (act-tells w a) (λ v. carry-tells v ds fine.1)

  pub from-tells : (w : World) (ds : List Entry) → FineFrom any_world Ok First Why w ds → Tells w (carry w ds)
  unfolding carry FineFrom
  from-tells w [] fine = record { events = []; told = sym (append-nil w.events); tells = refl }
  from-tells w (d ∷ ds) fine = from-next w (d w.control) ds fine (from-tells w ds)

-- the entries of each plan
pub ending-tells : (w : World) (line : ℕ) (p : Plan) → Ending w.control w.events line p → Tells (begun w p) (carry (begun w p) p.entries)
ending-tells w line _ (OnePlan asked p c) = from-tells (Acts w.control asked) NoStop (Late asked) (λ r e. e) (λ r late. late.why) (begun w p) p.entries (case-does w line asked p c).entries
ending-tells w line _ (Imaged vs) = from-tells (λ u a. Unit {0}) NoStop NoStop (λ r e. e) (λ r e. e) (begun w (image_plan vs)) [] (from-none any_world (λ u a. Unit {0}) NoStop NoStop _)
