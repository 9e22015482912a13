-- What events make of who stands committed: those of which no group hears, those of a move, and those of one in a stop.
use Rattle.std.proofs.Common.{◌≡◌, refl, ap, sym, ◌∙◌, List, [], ◌++◌, Some, None}
use Rattle.std.specs.List.{fold}
use Rattle.std.proofs.lemmas.List.{append_assoc}
use Rattle.std.proofs.lemmas.List.Sums.{fold-append}
use Rattle.dr_model.specs.declared.event.Event.{Event}
use Rattle.dr_model.specs.declared.event.Event.TheVariants.{Committed, Left}
use Rattle.dr_model.specs.Control.{Volume}
use Rattle.dr_model.specs.Moves.{Move, Land, Reverse, Leave, Flash, Commit, Revert, told, told_in_stop}
use Rattle.dr_laws_closed.specs.Moments.{Standing, none_stands}
use Rattle.dr_laws_closed.specs.Silent.{Still, AllStill, Silent}
use Rattle.dr_laws_closed.proofs.Told.{fold-still, still-told, still-ended}
use Rattle.dr_laws_targets.specs.Committeds.{committeds, committed_event, next_committed}

pub committeds-append : (events more : List Event) → committeds (events ++ more) ≡ fold committed_event (committeds events) more
unfolding committeds
committeds-append events more = fold-append committed_event none_stands events more

-- ---- events of which no group hears

no-change : (g : Standing) (e : Event) → Still e → committed_event g e ≡ g
no-change g (Committed s n a c) quiet = absurd quiet
no-change g (Left s a) quiet = absurd quiet
no-change g e quiet = refl

pub committeds-still : (events more : List Event) → AllStill more → committeds (events ++ more) ≡ committeds events
committeds-still events more quiet = committeds-append events more ∙ fold-still committed_event no-change (committeds events) more quiet

-- ---- a move that is done, and one that counts as done in a stop

module _ (events : List Event) where
  pub committeds-told : (m : Move) (u : Volume) → committeds (events ++ told m u) ≡ next_committed m u (committeds events)
  committeds-told (Reverse v None) u = committeds-still events _ (still-ended v u)
  committeds-told (Reverse v (Some a)) u = committeds-append events (told (Reverse v (Some a)) u) ∙ fold-still committed_event no-change _ _ (still-ended v u)
  committeds-told (Leave v a s) u = committeds-append events _
  committeds-told (Flash v from a s n) u = committeds-append events _
  committeds-told (Commit v a s n) u = committeds-append events _
  committeds-told (Revert v a s n) u = committeds-append events _
  committeds-told m u = committeds-still events _ (still-told m u refl)

  told-stopping : (m : Move) (u : Volume) → committeds (events ++ told_in_stop m u) ≡ next_committed m u (committeds events)
  told-stopping (Land n v t) u = committeds-append events []
  told-stopping m u = first_of (assumption (committeds-told m u), assumption (committeds-append events []))

pub committeds-stopped : (events more : List Event) (m : Move) (u : Volume) → Silent more → committeds (events ++ (told_in_stop m u ++ more)) ≡ next_committed m u (committeds events)
committeds-stopped events more m u silent =
    ap committeds (sym (append_assoc events (told_in_stop m u) more)) ∙ (committeds-still (events ++ told_in_stop m u) more silent.stand ∙ told-stopping events m u)
