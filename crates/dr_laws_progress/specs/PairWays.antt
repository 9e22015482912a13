-- In which way the primary and the secondary of each member stand to each other, at each moment of a run.
use Rattle.std.specs.Prelude.{◌≡◌, ℕ, false, List}
use Rattle.dr_ids.specs.declared.names.Member.{Member}
use Rattle.dr_model.specs.declared.state.Part.{Part}
use Rattle.dr_model.specs.declared.state.Part.TheVariants.{Global}
use Rattle.dr_model.specs.Layout.{Fields, is_part}
use Rattle.dr_model.specs.Control.{Control, World}
use Rattle.dr_model.specs.Entries.{fields_at}
use Rattle.dr_model.specs.Sessions.{Session}
use Rattle.dr_model.specs.Groups.{In}
use Rattle.dr_model.specs.Runs.{Task}
use Rattle.dr_laws_freezes.specs.Moments.{moments}

-- what a volume's record says of pairs: its part as a primary and whose primary it is, its part as a secondary and whose secondary it is
pub record Sides : Type 0 where
  pub primary : Part
  pub to : ℕ
  pub secondary : Part
  pub from : ℕ

-- by its fields
abbrev pub sides : Fields → Sides
sides f = record { primary = f.primary; to = f.primary_partner; secondary = f.secondary; from = f.secondary_partner }

-- a part in Global Copy, whose partner is v
abbrev pub CopiesWith : Part → ℕ → ℕ → Type 0
CopiesWith part partner v = (part ≡ Global) × (partner ≡ v)

-- The three ways in which a, whose record says x, and b, whose record says y, may stand to each other. No two of them are so at once. In the
-- first two a may be cascaded.
pub data PairWay (a b : ℕ) (x y : Sides) : Type 0 where
  -- a is a primary of b, and b is the secondary of a, and no primary
  AsAdded : CopiesWith x.primary x.to b → CopiesWith y.secondary y.from a → is_part y.primary ≡ false → PairWay a b x y
  -- each is a primary of the other, and b is no secondary: so a takeover of b leaves it
  BothLead : CopiesWith x.primary x.to b → CopiesWith y.primary y.to a → is_part y.secondary ≡ false → PairWay a b x y
  -- b is a primary of a, and no secondary, and a is the secondary of b, and no primary: so a failback of b to a leaves it
  TurnedRound : CopiesWith y.primary y.to a → CopiesWith x.secondary x.from b → is_part x.primary ≡ false → is_part y.secondary ≡ false → PairWay a b x y

-- the primary and the secondary of each member of each session stand in one of them
abbrev pub PairWays : Control → Type 0
PairWays k = (x : Session) (m : Member) → In x k.sessions → In m x.members → PairWay m.a.0 m.b.0 (sides (fields_at k m.a.0)) (sides (fields_at k m.b.0))

-- so it is at each moment of a run
abbrev pub HasPairWays : List Task → Type 0
HasPairWays tasks = (w : World) → In w (moments tasks) → PairWays w.control
