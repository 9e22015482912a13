-- Events of which no group hears, and of which a volume's lists don't.
use Rattle.std.specs.Prelude.{◌≢◌, ℕ, List, [], ◌∷◌}
use Rattle.dr_model.specs.declared.event.Event.{Event}
use Rattle.dr_model.specs.declared.event.Event.TheVariants.{Flashed, Committed, Reverted, Left}
use Rattle.dr_model.specs.Histories.{Write}
use Rattle.dr_facts.specs.Heard.{Unheard, AllUnheard}
use Rattle.dr_laws_cuts.specs.Once.{NoCuts}

-- events that put no volume into a group, nor commit it, nor take one out
abbrev pub Still : Event → Type 0
Still (Flashed s n a b c) = ⊥
Still (Reverted s n a c) = ⊥
Still (Left s a) = ⊥
Still (Committed s n a c) = ⊥
Still e = Unit {0}

-- all of some events
abbrev pub AllStill : List Event → Type 0
AllStill [] = Unit {0}
AllStill (e ∷ es) = Still e × AllStill es

-- events of which v's lists don't hear, nor do they acknowledge a write on v
abbrev pub HearsNothing : (ℕ → Write) → ℕ → Event → Type 0
HearsNothing write v e = Unheard (λ n. v ≢ (write n).volume) v e

-- all of some events
abbrev pub AllApart : (ℕ → Write) → ℕ → List Event → Type 0
AllApart write v es = AllUnheard (λ n. v ≢ (write n).volume) v es

-- events that cut no volume, of which no group hears, and no list
pub record Silent (more : List Event) : Type 0 where
  pub cut : NoCuts more
  pub stand : AllStill more
  pub list : (write : ℕ → Write) (v : ℕ) → AllApart write v more
