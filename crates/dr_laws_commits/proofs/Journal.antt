-- What was flashed stays so in the journal, until an attempt of the session begins; and of moves only the first hold of an attempt begins one.
use Rattle.std.proofs.Common.{ℕ, ◌⊎◌, inl, inr, refl, ap, sym, ◌∙◌, subst, true, false, List, [], ◌∷◌, ◌++◌}
use Rattle.std.proofs.lemmas.List.{append_assoc}
use Rattle.dr_model.specs.declared.event.Event.{Event}
use Rattle.dr_model.specs.declared.event.Event.TheVariants.{Begin, Flashed}
use Rattle.dr_model.specs.Control.{Control, Volume}
use Rattle.dr_model.specs.Moves.{Move, Hold, told, told_in_stop}
use Rattle.dr_model.specs.Groups.{In}
use Rattle.dr_model.specs.Attempts.{InAttempt}
use Rattle.dr_facts.proofs.Lists.{in-joined}
use Rattle.dr_facts.proofs.Emits.{Lists as ByEvents, Of, each-told, stop-onto}
use Rattle.dr_laws_sound.proofs.Listed.{begins_none, NoBegins}
use Rattle.dr_laws_commits.specs.Flashed.{FlashedIn}
use Rattle.dr_logic.proofs.Truth.{false_true}

-- ---- what the journal has

-- no attempt of session s begins by these events
abbrev pub NoneOf : ℕ → List Event → Type 0
NoneOf s more = (k : ℕ) → In (Begin s k) more → ⊥

pub none-of : (s : ℕ) (more : List Event) → NoBegins more → NoneOf s more
none-of s [] none k h = h
none-of s (e ∷ es) none k (inl is) = let no = subst (Of begins_none) (sym is) none.0 in absurd cc
none-of s (e ∷ es) none k (inr more) = none-of s es none.1 k more

-- a flash stands with more events behind it
pub stays : (events more : List Event) (s n a : ℕ) → NoneOf s more → FlashedIn events s n a → FlashedIn (events ++ more) s n a
stays events more s n a none h = record {
  before = h.before;
  behind = h.behind ++ more;
  from = h.from;
  target = h.target;
  is = ap (λ es. es ++ more) h.is ∙ append_assoc h.before (Flashed s n a h.from h.target ∷ h.behind) more;
  last = λ k i. by k (in-joined h.behind more (Begin s k) i);
}
  where
    by : (k : ℕ) → In (Begin s k) h.behind ⊎ In (Begin s k) more → ⊥
    by k (inl old) = h.last k old
    by k (inr new) = none k new

-- it stands as it comes
pub comes : (events more : List Event) (s n a b c : ℕ) → NoneOf s more → FlashedIn (events ++ Flashed s n a b c ∷ more) s n a
comes events more s n a b c none = record { before = events; behind = more; from = b; target = c; is = refl; last = none }

-- ---- what moves tell

no-begins : ByEvents (Of begins_none) NoBegins
no-begins = record { none = tt; more = λ e es h behind. (h, behind) }

pub told-none : (k : Control) (m : Move) (u : Volume) → InAttempt k m → NoBegins (told m u)
told-none k (Hold v s n true) u a = false_true a.1.1 refl
told-none k (Hold v s n false) u a = (refl, tt)
told-none k m u a = each-told begins_none NoBegins no-begins m u refl

pub stopped-none : (k : Control) (m : Move) (u : Volume) (e : Event) → InAttempt k m → Of begins_none e → NoBegins (told_in_stop m u ++ e ∷ [])
stopped-none k (Hold v s n true) u e a none = false_true a.1.1 refl
stopped-none k (Hold v s n false) u e a none = (refl, (none, tt))
stopped-none k m u e a none = stop-onto begins_none NoBegins no-begins m u (e ∷ []) refl (none, tt)
