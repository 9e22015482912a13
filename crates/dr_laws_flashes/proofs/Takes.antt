-- The step in which a target takes its source's tracks: it holds what the source holds, and no write waits on it.
use Rattle.std.proofs.Common.{ℕ, ◌≡◌, refl, ap, sym, ◌∙◌, subst, Bool, true, false, cond, nat_eq, List, [], ◌∷◌, ◌++◌, Option}
use Rattle.std.proofs.lemmas.List.{append_cancel_left}
use Rattle.std.specs.List.{list_any, fold}
use Rattle.dr_model.specs.declared.event.Event.{Event}
use Rattle.dr_model.specs.declared.event.Event.TheVariants.{Ack, Set, Stopped}
use Rattle.dr_model.specs.Histories.{Histories, histories, lists, after_event}
use Rattle.dr_model.specs.Control.{Volume, World, Fuse, is_volume}
use Rattle.dr_model.specs.Moves.{Move, Relate, Resync, target, told, told_in_stop, landed}
use Rattle.dr_model.specs.Table.{table, waiting}
use Rattle.dr_model.proofs.Images.{histories-append}
use Rattle.dr_facts.proofs.Emits.{Tag, Sets, Of, any-lists, each-told, stop-onto}
use Rattle.dr_laws_sound.proofs.RowsAfter.{calm}
use Rattle.dr_laws_sound.proofs.Turns.{done, done_in_stop}
use Rattle.dr_laws_freezes.proofs.WindowMoves.{MayCome}
use Rattle.dr_laws_freezes.proofs.KeepsWindow.{TakesNone}
use Rattle.dr_laws_freezes.proofs.KeepsStep.{Step, Does, Stops, Acks, Others, Passes}
use Rattle.std.proofs.lemmas.Bool.{eq-eqb}
use Rattle.dr_model.specs.Laws.{SoundRows}
use Rattle.dr_logic.proofs.Choices.{chosen}

-- what the step leaves: the target's lists are the source's, which are as they were, and nothing waits on the target, which is a volume
pub record Takes (w u : World) (s t : ℕ) : Type 0 where
  pub target : (q : ℕ) → lists u.events t q ≡ lists w.events s q
  pub source : (q : ℕ) → lists u.events s q ≡ lists w.events s q
  pub waits : (q : ℕ) → waiting u.control.pending t q ≡ []
  pub defined : is_volume u.control t ≡ true

-- ---- who tells that event

abbrev is_set : Event → Bool
is_set (Set v from) = true
is_set e = false

abbrev NoSet : List Event → Type 0
NoSet es = list_any is_set es ≡ false

abbrev sets_none : Tag → Bool
sets_none Sets = false
sets_none k = true

no-set : (e : Event) → Of sets_none e → is_set e ≡ false
no-set (Set v from) h = absurd cc
no-set e h = refl

never : {P : Type 0} (t s : ℕ) (es behind : List Event) → NoSet es → es ≡ Set t s ∷ behind → P
never t s es behind none is = let no : true ≡ false = sym (ap (list_any is_set) is) ∙ none in absurd cc

-- ---- what those two leave

-- after the event, and maybe a stop
set-target : (h : Histories) (t s q : ℕ) → (after_event h (Set t s)).now t q ≡ h.now s q
set-target h t s q = ap (λ b. cond b (h.now s) (h.now t) q) (eq-eqb t t refl)

set-source : (h : Histories) (t s q : ℕ) → (after_event h (Set t s)).now s q ≡ h.now s q
set-source h t s q = by (nat_eq s t)
  where
    by : (b : Bool) → cond b (h.now s) (h.now s) q ≡ h.now s q
    by true = refl
    by false = refl

told-by : (w u : World) (es : List Event) (v q : ℕ) (ns : List ℕ) → u.events ≡ w.events ++ es → (fold after_event (histories w.events) es).now v q ≡ ns → lists u.events v q ≡ ns
told-by w u es v q ns is known = ap (λ es. lists es v q) is ∙ ap (λ (h : Histories). h.now v q) (histories-append w.events es) ∙ known

done-takes : (w : World) (v s : ℕ) (u : World) → u.events ≡ w.events ++ (Set v s ∷ []) → u.control.pending ≡ w.control.pending → ((q : ℕ) → waiting w.control.pending v q ≡ []) → is_volume u.control v ≡ true → Takes w u s v
done-takes w v s u events pending none there = record {
  target = λ q. told-by w u (Set v s ∷ []) v q (lists w.events s q) events (set-target (histories w.events) v s q);
  source = λ q. told-by w u (Set v s ∷ []) s q (lists w.events s q) events (set-source (histories w.events) v s q);
  waits = λ q. ap (λ ps. waiting ps v q) pending ∙ none q;
  defined = there;
}

stop-takes : (w : World) (v s x k : ℕ) (u : World) → u.events ≡ w.events ++ (Set v s ∷ Stopped x k ∷ []) → u.control.pending ≡ w.control.pending → ((q : ℕ) → waiting w.control.pending v q ≡ []) → is_volume u.control v ≡ true → Takes w u s v
stop-takes w v s x k u events pending none there = record {
  target = λ q. told-by w u (Set v s ∷ Stopped x k ∷ []) v q (lists w.events s q) events (set-target (histories w.events) v s q);
  source = λ q. told-by w u (Set v s ∷ Stopped x k ∷ []) s q (lists w.events s q) events (set-source (histories w.events) v s q);
  waits = λ q. ap (λ ps. waiting ps v q) pending ∙ none q;
  defined = there;
}

-- the volumes that the event names
same-pair : (w u : World) (v x t s : ℕ) (es behind : List Event) → (Set v x ∷ es) ≡ Set t s ∷ behind → Takes w u x v → Takes w u s t
same-pair w u v x t s es behind is takes = let one : v ≡ t = cc in let other : x ≡ s = cc in subst (λ t. Takes w u s t) one (subst (λ s. Takes w u s v) other takes)

does-takes : (w : World) → SoundRows (table w) → (m : Move) (f : Option Fuse) → MayCome w m → (s t : ℕ) (behind : List Event) → told m (w.control.volume (target m)) ≡ Set t s ∷ behind → Takes w (done w m f) s t
does-takes w rows (Relate v x choices) f may s t behind is = same-pair w _ v x t s [] behind is (done-takes w v x (done w (Relate v x choices) f) refl refl (calm w v may.ready) may.allowed.defined)
does-takes w rows (Resync v sequence) f may s t behind is =
    let x : ℕ = (w.control.volume v).fields.source in
    same-pair w _ v x t s [] behind is (done-takes w v x (done w (Resync v sequence) f) refl refl (calm w v may.ready) (rows.structure.defined v (chosen _ _ may.allowed.from may.allowed.related).0))
does-takes w rows m f may s t behind is = never t s (told m (w.control.volume (target m))) behind (each-told sets_none NoSet (any-lists (Of sets_none) is_set no-set) m (w.control.volume (target m)) refl) is

stops-takes : (w : World) → SoundRows (table w) → (m : Move) (f : Option Fuse) → MayCome w m → (s t : ℕ) (behind : List Event) → let u : Volume = w.control.volume (target m) in
    told_in_stop m u ++ Stopped u.server (landed m) ∷ [] ≡ Set t s ∷ behind → Takes w (done_in_stop w m f) s t
stops-takes w rows (Relate v x choices) f may s t behind is =
    same-pair w _ v x t s (Stopped (w.control.volume v).server 0 ∷ []) behind is (stop-takes w v x (w.control.volume v).server 0 (done_in_stop w (Relate v x choices) f) refl refl (calm w v may.ready) may.allowed.defined)
stops-takes w rows (Resync v sequence) f may s t behind is =
    let x : ℕ = (w.control.volume v).fields.source in
    same-pair w _ v x t s (Stopped (w.control.volume v).server 0 ∷ []) behind is (stop-takes w v x (w.control.volume v).server 0 (done_in_stop w (Resync v sequence) f) refl refl (calm w v may.ready) (rows.structure.defined v (chosen _ _ may.allowed.from may.allowed.related).0))
stops-takes w rows m f may s t behind is =
    let u : Volume = w.control.volume (target m) in
    never t s (told_in_stop m u ++ Stopped u.server (landed m) ∷ []) behind (stop-onto sets_none NoSet (any-lists (Of sets_none) is_set no-set) m u (Stopped u.server (landed m) ∷ []) refl refl) is

-- the step that tells it
pub step-takes : (tag : Option ℕ) (w : World) → SoundRows (table w) → (next : Option ℕ) (u : World) → Step tag w next u → (s t : ℕ) (behind : List Event) → u.events ≡ w.events ++ (Set t s ∷ behind) → Takes w u s t
step-takes tag w rows _ _ (Does m f may fair asks) s t behind is = does-takes w rows m f may s t behind (append_cancel_left w.events (told m (w.control.volume (target m))) (Set t s ∷ behind) is)
step-takes tag w rows _ _ (Stops m f may fair asks) s t behind is =
    let u : Volume = w.control.volume (target m) in
    stops-takes w rows m f may s t behind (append_cancel_left w.events (told_in_stop m u ++ Stopped u.server (landed m) ∷ []) (Set t s ∷ behind) is)
step-takes tag w rows _ _ (Acks n a) s t behind is = never t s (Ack n ∷ []) behind refl (append_cancel_left w.events (Ack n ∷ []) (Set t s ∷ behind) is)
step-takes tag w rows _ _ (Others next u ss step) s t behind is = let x = step-takes tag w rows next u step s t behind is in record { target = x.target; source = x.source; waits = x.waits; defined = x.defined }
step-takes tag w rows _ _ (Passes next u es x less) s t behind is =
    let no = (subst TakesNone (append_cancel_left w.events es (Set t s ∷ behind) (sym x.events ∙ is)) x.takes).0 in absurd cc
