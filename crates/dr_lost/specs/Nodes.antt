-- The lists of host writes that the nodes of an arena stand for.
use Rattle.std.specs.Prelude.{◌≡◌, ℕ, ◌≤◌, List, [], ◌∷◌, ◌++◌, slice_index_or, slice_get, Some}
use Rattle.std.specs.List.{fold}
use Rattle.dr_lost.specs.declared.nodes.Node.{Node}

-- one list more: that of a node, whose last write comes behind the list before it
abbrev pub grown : List (List ℕ) → Node → List (List ℕ)
grown lists n = lists ++ (slice_index_or lists n.before [] ++ n.write ∷ []) ∷ []

-- the list of each node by its number, first to last; node 0 is the empty list
unfoldable pub lists_of : List Node → List (List ℕ)
lists_of nodes = fold grown ([] ∷ []) nodes

-- the list of one node
abbrev pub list_of : List Node → ℕ → List ℕ
list_of nodes k = slice_index_or (lists_of nodes) k []

-- each node's list begins with that of a node before it
abbrev pub AreEarlier : List Node → Type 0
AreEarlier nodes = (k : ℕ) (n : Node) → slice_get nodes k ≡ Some n → n.before ≤ k
