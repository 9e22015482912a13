-- A server that starts, while its volumes write their staged tracks to their places and go on, and one whose volumes' holds
-- end, in order of definition; and what becomes of the host's pending writes.
use Rattle.std.specs.Prelude.{ℕ, Bool, ◌&&◌, List, [], ◌∷◌, map, drop, Option, Some, None, if◌then◌else◌}
use Rattle.dr_ids.specs.declared.names.VolumeId.{VolumeId}
use Rattle.dr_config.specs.Table.{ConfigTable}
use Rattle.dr_host.specs.Writes.{Writes, without}
use Rattle.dr_model.specs.Carry.{Entry}
use Rattle.dr_model.specs.Layout.{Fields}
use Rattle.dr_model.specs.Pairs.{held}
use Rattle.dr_model.specs.WriteEntries.{start_entries, lift_on}
use Rattle.dr_model.specs.declared.event.Event.{Event}
use Rattle.dr_model.specs.declared.event.Event.TheVariants.{Started, Ack}
use Rattle.dr_volume.specs.View.{ids_of}
use Rattle.dr_moves.specs.declared.carrying.Next.{Next}
use Rattle.dr_moves.specs.declared.carrying.Next.TheVariants as next
use Rattle.dr_moves.specs.declared.moves.Move.TheVariants as move

-- what is left to do, as a server starts, for the volumes from a place on
abbrev pub start_from : ConfigTable → ℕ → ℕ → List Entry
start_from t server place = start_entries server (ids_of (drop place t.volumes))

-- and where the holds of its volumes end
abbrev pub lift_from : ConfigTable → ℕ → ℕ → List Entry
lift_from t server place = map (lift_on server) (ids_of (drop place t.volumes))

-- what becomes of the holds of a volume with these fields, which is the server's or isn't
abbrev pub lifted_by : VolumeId → Bool → Fields → Next
lifted_by v b f = if b && held f then next.Do (move.Lift v) else next.Pass

-- the host's writes without that one
abbrev pub without_acked : Option ℕ → Writes → Writes
without_acked None h = h
without_acked (Some n) h = without h n

-- the acknowledgement of that write, if there is one
abbrev pub acks : Option ℕ → List Event
acks None = []
acks (Some n) = Ack n ∷ []

-- what the journal is told of a start that went well
abbrev pub start_events : ℕ → Option ℕ → List Event
start_events server a = Started server ∷ acks a
