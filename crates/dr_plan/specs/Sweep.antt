-- What a plan of a sweep says.
use Rattle.std.specs.Prelude.{ℕ, Bool, not, List, [], map, nat_eq, Option, None}
use Rattle.std.specs.List.{list_all}
use Rattle.dr_model.specs.declared.step.Name.{Name}
use Rattle.dr_model.specs.declared.grammar.Item.{Item}

-- Volumes that the host uses after the recovery: of each pair the first one in place of the second.
pub record Use : Type 0 where
  pub name : Option Name  -- lines of one name are one use, and those without a name are one
  pub pairs : List Item

-- A step that is tried.
pub record Tried : Type 0 where
  pub line : ℕ  -- the number of its line in the plan
  pub part : ℕ  -- its place among the steps of that line, counted from 1; 0 where it is the only one
  pub text : List ℕ  -- the line, or of one of several steps the line that it would be by itself

-- the lines of steps that are tried
abbrev pub texts : List Tried → List (List ℕ)
texts tried = map (λ (t : Tried). t.text) tried

-- A plan of a sweep. Lines are counted from 1.
pub record Sweep : Type 0 where
  pub loses : List (List Name)  -- for each disaster the servers that are lost at once
  pub uses : List Use
  pub bound : Option ℕ  -- more lost writes than that many are a finding
  pub setup : List (List ℕ)  -- the lines before `here`, which each run begins with
  pub tried : List Tried
  pub then_line : ℕ  -- the number of the line `then`
  pub recovery : List (List ℕ)  -- the lines after `then`
  pub announced : List ℕ  -- the numbers of the lines in which a refusal is announced

-- the most disasters of a plan
abbrev pub most_disasters : ℕ
most_disasters = 8

-- the most servers of a disaster, as many as there may be
abbrev pub most_servers : ℕ
most_servers = 8

-- the most uses of a plan
abbrev pub most_uses : ℕ
most_uses = 8

-- a plan of which nothing was read
abbrev pub empty : Sweep
empty = record { loses = []; uses = []; bound = None; setup = []; tried = []; then_line = 0; recovery = []; announced = [] }

-- no line feed stands in the line
abbrev pub is_unbroken : List ℕ → Bool
is_unbroken line = list_all (λ b. not (nat_eq b 10)) line
