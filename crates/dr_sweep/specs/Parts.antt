-- The parts of a sweep, and their rows.
use Rattle.std.specs.Prelude.{◌≡◌, ℕ, ◌+◌, ◌-◌, ◌^◌, ◌<◌, ◌≤◌, ◌⊎◌, List, [], ◌∷◌, ◌++◌, length, map, slice_get, Option, Some, None, Ok, All, Bool, true, false}
use Rattle.std.specs.List.{flat_map, range_with_len, sum}
use Rattle.dr_model.specs.Groups.{In}
use Rattle.dr_model.specs.declared.step.Name.{Name}
use Rattle.dr_model.specs.declared.step.Step.TheVariants.{StopAfter}
use Rattle.dr_model.specs.declared.step.TornWord.{TornWord}
use Rattle.dr_model.specs.declared.step.TornWord.TheVariants.{Fill, Bytes}
use Rattle.dr_model.specs.Lines.{task, tasks_from}
use Rattle.dr_model.specs.Listed.{as_asked, ListsAlong}
use Rattle.dr_model.specs.Control.{World, nothing}
use Rattle.dr_model.specs.PlanParts.{name_bytes, server_named}
use Rattle.dr_model.specs.Plans.{armed}
use Rattle.dr_laws_fuses.specs.Laws.{StopsNothing, TornAlike}
use Rattle.dr_model.specs.Runs.{Task, run}
use Rattle.dr_plan.specs.declared.points.Point.{Point}
use Rattle.dr_plan.specs.declared.points.Point.TheVariants.{Cut, Gap}
use Rattle.dr_plan.specs.declared.points.Torn.{Torn}
use Rattle.dr_plan.specs.declared.points.Torn.TheVariants.{Unchanged, Zeros, Ones}
use Rattle.dr_plan.specs.Pieces.{Pieces, pieces_of}
use Rattle.dr_plan.specs.Points.{count_at}
use Rattle.dr_plan.specs.Sweep.{Sweep, Tried}
use Rattle.dr_rows.specs.Outcome.{Outcome}
use Rattle.dr_sweep.specs.declared.parts.Part.{Part}
use Rattle.dr_sweep.specs.declared.point.Came.{Came}
use Rattle.dr_sweep.specs.declared.point.Came.TheVariants.{Struck, Missed}
use Rattle.dr_sweep.specs.declared.parts.Part.TheVariants.{Between, Within}
use Rattle.dr_sweep.specs.declared.fault.PointFault.{PointFault}
use Rattle.dr_sweep.specs.declared.fault.PointFault.TheVariants.{NoMemory, TooLong}
use Rattle.dr_sweep.specs.Comes.{PointTold, ComesTo, Stops, Misses, FailsAt, first_stop, name_at, servers_lost}
use Rattle.dr_sweep.specs.Counts.{first_write, with_count}
use Rattle.dr_sweep.specs.Losses.{AreKnown}
use Rattle.dr_sweep.specs.Reach.{is_own}
use Rattle.dr_sweep.specs.declared.reach.FirstStop.{FirstStop}
use Rattle.dr_sweep.specs.declared.reach.FirstStop.TheVariants.{Own, Other, Nobody}
use Rattle.dr_sweep.specs.Rows.{IsRow}

-- ---- parts

-- the servers of a disaster in a tried step
abbrev pub server_parts : ℕ → ℕ → ℕ → List Part
server_parts disaster place servers = map (λ server. Within disaster place server) (range_with_len 0 servers)

-- with the gap after the step
abbrev pub step_parts : Sweep → ℕ → ℕ → List Part
step_parts plan disaster place = server_parts disaster place (servers_lost plan disaster) ++ Between disaster (place + 1) ∷ []

-- the gap before the first tried step, and the parts of each
abbrev pub disaster_parts : Sweep → ℕ → List Part
disaster_parts plan disaster = Between disaster 0 ∷ flat_map (step_parts plan disaster) (range_with_len 0 (length plan.tried))

-- the parts of each disaster, in the order of the plan
abbrev pub parts_of : Sweep → List Part
parts_of plan = flat_map (disaster_parts plan) (range_with_len 0 (length plan.loses))

-- ---- points

-- the points of a device write, by how many device writes each server of the disaster makes in the step before it
abbrev pub write_points : ℕ → ℕ → ℕ → List ℕ → List Point
write_points disaster place server writes = Cut disaster place server Unchanged writes ∷ Cut disaster place server Zeros writes ∷ Cut disaster place server Ones writes ∷ []

-- those of several
abbrev pub points_of : ℕ → ℕ → ℕ → List (List ℕ) → List Point
points_of disaster place server counts = flat_map (write_points disaster place server) counts

-- ---- rows

-- A row is that of its point. What it says of the targets of a session that is recovered is known.
pub record IsRowOf (plan : Sweep) (row : Outcome) : Type 0 where
  pub told : PointTold
  pub comes : ComesTo plan row.point told
  pub is : IsRow plan row.point told row
  pub known : AreKnown told.events told.begin (comes.front ++ comes.strike ++ comes.stops) comes.recovery plan.uses row.losses

-- the first rows are that of a point, the others those after it
pub record BeginsWith (plan : Sweep) (point : Point) (after : List Outcome → Type 0) (rows : List Outcome) : Type 0 where
  pub first : Outcome
  pub rest : List Outcome
  pub cut : rows ≡ first ∷ rest
  pub point_is : first.point ≡ point
  pub is : IsRowOf plan first
  pub others : after rest

-- the rows of points in order, without the points that aren't reached
abbrev pub AreRowsOf : Sweep → List Point → List Outcome → Type 0
AreRowsOf plan [] rows = rows ≡ []
AreRowsOf plan (point ∷ points) rows = BeginsWith plan point (AreRowsOf plan points) rows ⊎ (Misses plan point × AreRowsOf plan points rows)

-- Carried out, the lines before a point's disaster and the tried step tell this first stop.
pub record TellsFirst (plan : Sweep) (point : Point) (stop : FirstStop) : Type 0 where
  pub pieces : Pieces
  pub are : pieces_of plan point ≡ Some pieces
  pub front : List Task
  pub strike : List Task
  pub asks_front : map as_asked front ≡ tasks_from 1 pieces.front
  pub asks_strike : map as_asked strike ≡ tasks_from (length pieces.front + 1) pieces.strike
  pub lists : ListsAlong nothing (front ++ strike)
  pub is : first_stop plan point (length (run front).events) (run (front ++ strike)).events ≡ stop

-- No other server's count is greater than it has to be: with one device write fewer, its stop is the first.
abbrev pub AreLeast : Sweep → ℕ → ℕ → ℕ → List ℕ → Type 0
AreLeast plan disaster place server writes =
    (other n : ℕ) → (other ≡ server → ⊥) → count_at writes other ≡ n + 1 → TellsFirst plan (Cut disaster place server Unchanged (with_count other n writes)) (Other other)

-- So many device writes come before the one in which the server is cut short: with these counts its stop is the first in the step, and they are the
-- least. So all servers of the disaster are lost at once.
pub record AtOnce (plan : Sweep) (disaster place server : ℕ) (writes : List ℕ) : Type 0 where
  pub first : Stops plan (Cut disaster place server Unchanged writes) Own
  pub least : AreLeast plan disaster place server writes

-- With these counts no server of the disaster stops in the step; nor does one with any greater count of the server, whatever that leaves in its block.
pub record StopsNobody (plan : Sweep) (disaster place server : ℕ) (writes : List ℕ) : Type 0 where
  pub here : Stops plan (Cut disaster place server Unchanged writes) Nobody
  pub beyond : (later : ℕ) (torn : Torn) → count_at writes server ≤ later → later < 2 ^ 32 → TellsFirst plan (Cut disaster place server torn (with_count server later writes)) Nobody

-- The server has no more device writes, or no fuse counts as many as they are in all.
pub record IsLast (plan : Sweep) (disaster place server : ℕ) (writes : List ℕ) : Type 0 where
  pub least : AreLeast plan disaster place server writes
  pub end : StopsNobody plan disaster place server writes ⊎ (sum writes ≡ 2 ^ 32 - 1)

-- In whichever world the tried step begins, a fuse of the server with this count stops nothing in it, whatever it leaves in a block.
abbrev pub CutsNothing : Sweep → ℕ → ℕ → ℕ → ℕ → TornWord → Type 0
CutsNothing plan disaster place server write torn =
    (name : Name) (tried : Tried) (line s : ℕ) (t : Task) (w : World) → name_at plan disaster server ≡ Some name → slice_get plan.tried place ≡ Some tried
    → map as_asked (t ∷ []) ≡ tasks_from line (tried.text ∷ []) → server_named w.control (name_bytes name) ≡ Some s → StopsNothing s (armed write torn) w t

-- With any torn bytes a run comes to what it comes to where the block is filled with 00, or with 01, but for that fuse: whatever steps stand before and
-- after the line that arms it, with what they list.
abbrev pub TearsAsFilled : Name → ℕ → List ℕ → Type 0
TearsAsFilled name write bytes =
    (before rest : List Task) (line : ℕ) → let leads : TornWord → World = λ torn. run (before ++ task line (Ok (StopAfter name write torn)) ∷ rest) in
    TornAlike (leads (Bytes bytes)) (leads (Fill 0)) ⊎ TornAlike (leads (Bytes bytes)) (leads (Fill 1))

-- The rows of a server's device writes in a tried step: from the first that can be cut short on, each with its counts, to its last one. With a lower
-- count a fuse stops nothing, and the fills stand for all torn bytes.
pub record AreWithin (plan : Sweep) (disaster place server : ℕ) (rows : List Outcome) : Type 0 where
  pub counts : List (List ℕ)
  pub numbers : map (λ writes. count_at writes server) counts ≡ range_with_len (first_write plan disaster place server) (length counts)
  pub are : AreRowsOf plan (points_of disaster place server counts) rows
  pub at_once : All (AtOnce plan disaster place server) counts
  pub further : List ℕ
  pub next : count_at further server ≡ first_write plan disaster place server + length counts
  pub last : IsLast plan disaster place server further
  pub early : (write : ℕ) (torn : TornWord) → write < first_write plan disaster place server → CutsNothing plan disaster place server write torn
  pub torn : (name : Name) (write : ℕ) (bytes : List ℕ) → name_at plan disaster server ≡ Some name → TearsAsFilled name write bytes

-- The server has no row of that number in the step: its last one has a lower number, or its first one a higher.
pub record HasNoRow (plan : Sweep) (disaster place server write : ℕ) : Type 0 where
  pub further : List ℕ
  pub last : IsLast plan disaster place server further
  pub past : (count_at further server ≤ write) ⊎ (write < first_write plan disaster place server)

-- the counts of a server's device write of that number, or none if it has no such row
abbrev pub FindsCounts : Sweep → ℕ → ℕ → ℕ → ℕ → Option (List ℕ) → Type 0
FindsCounts plan disaster place server write (Some writes) = (count_at writes server ≡ write) × AtOnce plan disaster place server writes
FindsCounts plan disaster place server write None = HasNoRow plan disaster place server write

-- the rows of a part
abbrev pub AreRows : Sweep → Part → List Outcome → Type 0
AreRows plan (Between disaster place) rows = AreRowsOf plan (Gap disaster place ∷ []) rows
AreRows plan (Within disaster place server) rows = AreWithin plan disaster place server rows

-- the first rows are those of a part, the others those after it
pub record BeginsPart (plan : Sweep) (part : Part) (after : List Outcome → Type 0) (rows : List Outcome) : Type 0 where
  pub first : List Outcome
  pub rest : List Outcome
  pub cut : rows ≡ first ++ rest
  pub are : AreRows plan part first
  pub others : after rest

-- the rows of parts, in order
abbrev pub AreSwept : Sweep → List Part → List Outcome → Type 0
AreSwept plan [] rows = rows ≡ []
AreSwept plan (part ∷ parts) rows = BeginsPart plan part (AreSwept plan parts) rows

-- ---- why there are none

-- the block stays as it was, or the point at which it does is reached
abbrev pub IsTriedTorn : Sweep → ℕ → ℕ → ℕ → List ℕ → Torn → Type 0
IsTriedTorn plan disaster place server writes torn = (torn ≡ Unchanged) ⊎ Stops plan (Cut disaster place server Unchanged writes) Own

-- The point of a device write that is tried: each one before it from the first on is reached, and no other server's count is greater than it has to be.
pub record IsTriedWrite (plan : Sweep) (disaster place server : ℕ) (point : Point) : Type 0 where
  pub writes : List ℕ
  pub torn : Torn
  pub is : point ≡ Cut disaster place server torn writes
  pub from : first_write plan disaster place server ≤ count_at writes server
  pub earlier : (w : ℕ) → first_write plan disaster place server ≤ w → w < count_at writes server → (before : List ℕ) × (count_at before server ≡ w) × AtOnce plan disaster place server before
  pub least : AreLeast plan disaster place server writes
  pub here : IsTriedTorn plan disaster place server writes torn

-- the point of a part that is tried
abbrev pub IsTriedPoint : Sweep → Part → Point → Type 0
IsTriedPoint plan (Between disaster place) point = point ≡ Gap disaster place
IsTriedPoint plan (Within disaster place server) point = IsTriedWrite plan disaster place server point

-- one of the points of a device write that are tried has no row
pub record FailsWrite (plan : Sweep) (disaster place server : ℕ) (writes : List ℕ) (fault : PointFault) : Type 0 where
  pub torn : Torn
  pub here : IsTriedTorn plan disaster place server writes torn
  pub fails : FailsAt plan (Cut disaster place server torn writes) fault

-- a point of the part is tried, and has no row
pub record FailsTried (plan : Sweep) (part : Part) (fault : PointFault) : Type 0 where
  pub point : Point
  pub tried : IsTriedPoint plan part point
  pub fails : FailsAt plan point fault

-- why a part has no rows
abbrev pub FailsIn : Sweep → Part → PointFault → Type 0
FailsIn plan part NoMemory = Unit {0}
FailsIn plan part TooLong = FailsTried plan part TooLong

-- in one of a plan's parts a point has none
pub record FailsPart (plan : Sweep) : Type 0 where
  pub part : Part
  pub among : In part (parts_of plan)
  pub fails : FailsTried plan part TooLong

-- by the fault
abbrev pub FailsAtPart : Sweep → PointFault → Type 0
FailsAtPart plan NoMemory = Unit {0}
FailsAtPart plan TooLong = FailsPart plan

-- the part is one of the plan's
abbrev pub IsOf : Sweep → Part → Type 0
IsOf plan (Between disaster place) = (disaster < length plan.loses) × (place ≤ length plan.tried)
IsOf plan (Within disaster place server) = (disaster < length plan.loses) × (place < length plan.tried) × (server < servers_lost plan disaster)

-- ---- one step of the way

-- what the run of a point came to: its server is the first to stop in the tried step, and this is told of the run; or another stop is the first
abbrev pub Tells : Sweep → Point → Came → Type 0
Tells plan point (Struck told) = Stops plan point Own × ComesTo plan point told
Tells plan point (Missed stop) = Stops plan point stop × (is_own stop ≡ false)

-- rows that are such were added
pub record Adds (are_such : List Outcome → Type 0) (old new : List Outcome) : Type 0 where
  pub more : List Outcome
  pub cut : new ≡ old ++ more
  pub are : are_such more

-- rows that are such were added, or none
abbrev pub AddsIf : Bool → (List Outcome → Type 0) → List Outcome → List Outcome → Type 0
AddsIf true are_such old new = Adds are_such old new
AddsIf false are_such old new = new ≡ old

-- by the first stop, the rows of points were added if it is that of the point's server, and else none
abbrev pub AddsWhereReached : Sweep → Point → List Point → List Outcome → List Outcome → FirstStop → Type 0
AddsWhereReached plan point points old new stop = Stops plan point stop × AddsIf (is_own stop) (AreRowsOf plan points) old new

-- those of a device write were, if it is reached with its block as it was
abbrev pub AddsWrite : Sweep → ℕ → ℕ → ℕ → List ℕ → List Outcome → List Outcome → FirstStop → Type 0
AddsWrite plan disaster place server writes old new stop =
    AddsWhereReached plan (Cut disaster place server Unchanged writes) (write_points disaster place server writes) old new stop
