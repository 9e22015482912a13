-- Lines of several plans, as calls carry them out.
use Rattle.std.specs.Prelude.{◌≡◌, ℕ, ◌&&◌, ◌==◌, Option, Some, None, if◌then◌else◌}
use Rattle.dr_ids.specs.declared.names.Member.{Member}
use Rattle.dr_ids.specs.declared.refusal.Refusal.{Refusal}
use Rattle.dr_model.specs.Control.{Control, World}
use Rattle.dr_model.specs.PairEntries.{is_copying}
use Rattle.dr_model.specs.Plans.{drain_plan}
use Rattle.dr_model.specs.Forming.{Way, and_then, part}

-- the world that a way led to, and the refusal that ended it, if one
pub record Reaches (x : Way) (u : World) (r : Option Refusal) : Type 0 where
  pub world : x.world ≡ u
  pub refusal : x.refusal ≡ r

-- one primary is drained, or none, and what comes then
abbrev pub drain_next : World → Option ℕ → (World → Way) → Way
drain_next w None more = more w
drain_next w (Some a) more = and_then (part w (drain_plan w.control a None)) more

-- the primary that is drained for a member, where its server is asked to seal: none where it isn't in Copy Pending
abbrev pub to_drain : Control → ℕ → Option Member → Option ℕ
to_drain k server None = None
to_drain k server (Some m) = if m.server.0 == server && is_copying m.a.0 k then Some m.a.0 else None
