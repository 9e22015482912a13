-- Which numbers a table of nodes may have.
use Rattle.std.specs.Prelude.{ℕ, ◌≤◌, List, length, Vec}
use Rattle.std.specs.declared.alloc.Global.{Global}
use Rattle.dr_lost.specs.declared.nodes.Node.{Node}
use Rattle.dr_lost.specs.Rows.{cells}

-- each number in a table is that of a node
abbrev pub AreWithin : List Node → List (ℕ × Vec ℕ Global) → Type 0
AreWithin nodes rows = (v t : ℕ) → cells rows v t ≤ length nodes
