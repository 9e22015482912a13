-- Events of which the lists of a volume hear nothing.
use Rattle.std.specs.Prelude.{◌≢◌, ℕ, List, [], ◌∷◌}
use Rattle.dr_model.specs.declared.event.Event.{Event}
use Rattle.dr_model.specs.declared.event.Event.TheVariants.{Volume, Issue, Ack, Mirrored, Sent, Set, Back, Blanked, Flashed, Reverted}

-- An event of which the lists of v hear nothing, and which issues no write. Of an acknowledgement is said what is asked of its number.
abbrev pub Unheard : (ℕ → Type 0) → ℕ → Event → Type 0
Unheard P v (Volume x server tracks) = v ≢ x
Unheard P v (Issue n x t offset len bytes) = ⊥
Unheard P v (Ack n) = P n
Unheard P v (Mirrored n x) = v ≢ x
Unheard P v (Sent x t to) = v ≢ to
Unheard P v (Flashed s n a b c) = v ≢ c
Unheard P v (Reverted s n a c) = v ≢ c
Unheard P v (Set x from) = v ≢ x
Unheard P v (Back x t from) = v ≢ x
Unheard P v (Blanked x t) = v ≢ x
Unheard P v e = Unit {0}

-- all of some events
abbrev pub AllUnheard : (ℕ → Type 0) → ℕ → List Event → Type 0
AllUnheard P v [] = Unit {0}
AllUnheard P v (e ∷ es) = Unheard P v e × AllUnheard P v es
