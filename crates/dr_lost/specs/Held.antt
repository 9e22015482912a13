-- What a `Holdings` stands for: the lists of writes of a journal.
use Rattle.std.specs.Prelude.{◌≡◌, ℕ, List, Vec, Result, MatchResult}
use Rattle.std.specs.declared.alloc.Global.{Global}
use Rattle.std.specs.declared.alloc.AllocError.{AllocError}
use Rattle.dr_model.specs.Histories.{Lists, Histories}
use Rattle.dr_lost.specs.declared.nodes.Node.{Node}
use Rattle.dr_lost.specs.declared.places.Place.{Place}
use Rattle.dr_lost.specs.declared.holdings.Holdings.{Holdings}
use Rattle.dr_lost.specs.Rows.{cells}
use Rattle.dr_lost.specs.Nodes.{list_of}
use Rattle.dr_lost.specs.Places.{place_in, place_of}

-- the list of each volume and track: that of the node which stands for it in a table
abbrev pub held : List Node → List (ℕ × Vec ℕ Global) → Lists
held nodes rows v t = list_of nodes (cells rows v t)

-- What an arena, a table of what tracks hold, one of what they keep aside, and places of writes stand for: histories with these lists, and
-- with the volume and track of each write.
pub record Stand (nodes : List Node) (current aside : List (ℕ × Vec ℕ Global)) (places : List (ℕ × Place)) (h : Histories) : Type 0 where
  pub now : held nodes current ≡ h.now
  pub kept : held nodes aside ≡ h.aside
  pub writes : (w : ℕ) → place_in places w ≡ place_of (h.write w)

-- what a `Holdings` stands for
abbrev pub StandsFor : Holdings → Histories → Type 0
StandsFor x h = Stand x.nodes.items x.current.entries x.aside.entries x.places.entries h

-- On Ok it stands for what f makes of all that it stood for; else it stands for what it stood for before.
abbrev pub Becomes : Holdings → Holdings → Result (Unit {0}) AllocError → (Histories → Histories) → Type 0
Becomes old new result f = (h : Histories) → StandsFor old h → MatchResult result (λ _. StandsFor new (f h)) (λ _. StandsFor new h)
