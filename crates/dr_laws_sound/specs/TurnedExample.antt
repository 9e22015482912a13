-- An example: volume 4096 on server 0 and volume 8192 on server 1 are a pair of Global Copy, each with two tracks. The second site takes
-- over, and the pair goes the other way.
use Rattle.std.specs.Prelude.{ℕ, false, ◌&&◌, [], ◌∷◌, Some, None, nat_eq, if◌then◌else◌}
use Rattle.dr_logic.specs.Tables.{at}
use Rattle.dr_model.specs.declared.said.Said.{Said}
use Rattle.dr_model.specs.declared.step.Devs.{Devs}
use Rattle.dr_model.specs.declared.state.Part.{Part}
use Rattle.dr_model.specs.declared.state.Part.TheVariants.{Global}
use Rattle.dr_model.specs.declared.state.PairState.{PairState}
use Rattle.dr_model.specs.declared.state.PairState.TheVariants.{CopyPending, Suspended}
use Rattle.dr_model.specs.Layout.{Fields, no_fields}
use Rattle.dr_model.specs.Control.{World, nothing, no_control, new_volume}
use Rattle.dr_model.specs.PlanParts.{Plan}
use Rattle.dr_model.specs.Carried.{carried_out, answered}
use Rattle.dr_model.specs.Plans.{failover_plan, failback_plan, drain_plan, compare_plan}

-- no server is named
abbrev pub unnamed : Devs
unnamed = record { dev = None; remotedev = None }

-- a primary of a volume, in that state
abbrev pub leading : ℕ → PairState → Fields
leading v state = record no_fields { primary = Global; primary_state = state; primary_partner = v }

-- a Suspended secondary of a volume
abbrev pub following : ℕ → Fields
following v = record no_fields { secondary = Global; secondary_state = Suspended; secondary_partner = v }

-- both servers run, with paths both ways; these are the records of the two volumes
abbrev pub sites : Fields → Fields → World
sites f g = record nothing {
  control = record no_control {
    servers = (80 ∷ []) ∷ (81 ∷ []) ∷ [];
    paths = record { src = 16; tgt = 32; group = false } ∷ record { src = 32; tgt = 16; group = false } ∷ [];
    volumes = 4096 ∷ 8192 ∷ [];
    volume = λ v. if nat_eq v 4096 then record (new_volume 0 2) { fields = f } else if nat_eq v 8192 then record (new_volume 1 2) { fields = g } else new_volume 0 0;
  };
}

-- the pair is Suspended; each is a primary of the other; and so with a fuse on server 0, which the next device write there burns
abbrev pub paired : World
paired = sites (leading 8192 Suspended) (following 4096)

-- each is a primary of the other
abbrev pub parted : World
parted = sites (leading 8192 Suspended) (leading 4096 Suspended)

-- and server 0 stops at its next device write
abbrev pub fused : World
fused = record parted { control = record parted.control { fuse = at parted.control.fuse 0 (Some (record { after = 0; torn = None })) } }

-- A failback stopped before its second move. The host has written on track 1 of the first site since, which is out of sync there.
abbrev pub midway : World
midway = record (sites (leading 8192 Suspended) (leading 4096 CopyPending)) { contents = λ v t. if nat_eq v 4096 && nat_eq t 1 then 97 ∷ [] else 0 ∷ [] }

-- what a plan says in a world, and the world that it leaves
abbrev pub says : World → Plan → Said
says w p = answered p (carried_out w p).0.control (carried_out w p).1

-- the world that it leaves
abbrev pub leaves : World → Plan → World
leaves w p = (carried_out w p).0

-- the second site takes over, as one of that kind
abbrev pub over : World → Part → Plan
over w kind = failover_plan w.control unnamed 8192 4096 kind

-- and the pair goes home
abbrev pub home : World → Part → Plan
home w kind = failback_plan w.control unnamed 8192 4096 kind

-- all tracks are sent from there
abbrev pub drains : World → Plan
drains w = drain_plan w.control 8192 None

-- the two volumes are compared
abbrev pub compares : World → Plan
compares w = compare_plan w.control w.contents 8192 4096
