-- Answers that a step isn't built, whose code is 24.
use Rattle.std.specs.Prelude.{ℕ, List}
use Rattle.dr_model.specs.declared.event.Event.{Event}
use Rattle.dr_model.specs.declared.event.Event.TheVariants.{Answer}
use Rattle.dr_model.specs.Groups.{In}

-- none of the answers among events has that code
abbrev pub NoneUnbuilt : List Event → Type 0
NoneUnbuilt events = (line a b c : ℕ) → In (Answer line 24 a b c) events → ⊥
