-- A move that tells nothing leaves the journal as it is.
use Rattle.std.proofs.Common.{◌≡◌, List, [], ◌++◌, ap, sym, ◌∙◌, None}
use Rattle.std.proofs.lemmas.List.{append-nil}
use Rattle.dr_model.specs.declared.event.Event.{Event}
use Rattle.dr_model.specs.Control.{Volume, World}
use Rattle.dr_model.specs.Moves.{Move, target, told}
use Rattle.dr_model.specs.Carry.{Turn, turn}
use Rattle.dr_model.proofs.CarryLemmas.{turn-ends}

module _ (w u : World) (m : Move) where
  abbrev x : Volume
  x = w.control.volume (target m)

  pub quiet-done : told m x ≡ [] → ◌≡◌ {A = Turn} (turn w m) (u, None) → u.events ≡ w.events
  quiet-done none =
      turn-ends w m (λ t. ◌≡◌ {A = Turn} t (u, None) → u.events ≡ w.events)
      (λ down same. sym (ap (λ (t : Turn). t.0.events) same))
      (λ on n same. sym (ap (λ (t : Turn). t.0.events) same) ∙ ap (λ (es : List Event). w.events ++ es) none ∙ append-nil w.events)
      (λ on armed same. absurd (let other = ap (λ (t : Turn). t.1) same in cc))
      (λ on armed same. absurd (let other = ap (λ (t : Turn). t.1) same in cc))
