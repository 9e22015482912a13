-- When a server, a volume, a link or a path is refused, when one volume can't reach another, and what the
-- table is with one more, or with the link set.
use Rattle.std.specs.Prelude.{ℕ, Bool, false, not, ◌==◌, ◌||◌, nat_le, nat_lt, List, [], ◌∷◌, ◌++◌, length, Option, Some, None, is_some, Result, Ok, Err, if◌then◌else◌}
use Rattle.std.specs.Option.{unwrap_or}
use Rattle.dr_ids.specs.Sizes.{most_tracks}
use Rattle.dr_ids.specs.Paths.{path_in, with_path, without_path}
use Rattle.dr_ids.specs.declared.refusal.Refusal.{Refusal}
use Rattle.dr_ids.specs.declared.refusal.Refusal.TheVariants.{Unknown, Duplicate, Limit, ServerOff, LinkDown}
use Rattle.dr_ids.specs.declared.refusal.Kind.TheVariants as kind
use Rattle.dr_ids.specs.declared.refusal.Which.TheVariants as limit
use Rattle.dr_ids.specs.declared.refusal.Fault.{Fault}
use Rattle.dr_ids.specs.declared.refusal.Fault.TheVariants.{NoMemory, Refused}
use Rattle.dr_config.specs.Links.{set_between}
use Rattle.dr_config.specs.Table.{ConfigTable, server_named, place_of, server_of, lss_owner, lss_of, link_up}

-- Why a call was refused; none where it succeeded or had no memory.
abbrev pub refusal_of : {T : Type 0} → Result T Fault → Option Refusal
refusal_of (Ok x) = None
refusal_of (Err NoMemory) = None
refusal_of (Err (Refused why)) = Some why

-- Why a server of that name is refused: the name is taken, or there are 8 servers.
abbrev pub server_refusal : ConfigTable → List ℕ → Option Refusal
server_refusal t name =
    if is_some (server_named t name) then Some (Duplicate kind.Server) else if nat_le 8 (length t.names) then Some (Limit limit.Servers) else None

-- Whether the owner, if there is one, is another server.
abbrev pub is_foreign : Option ℕ → ℕ → Bool
is_foreign None server = false
is_foreign (Some owner) server = not (owner == server)

-- Why a volume is refused: the identifier is taken, its logical subsystem is another server's, it has
-- no track or more than 256, or there are 64 volumes.
abbrev pub volume_refusal : ConfigTable → ℕ → ℕ → ℕ → Option Refusal
volume_refusal t v server tracks =
    if is_some (place_of t v) then Some (Duplicate kind.Volume)
    else if is_foreign (lss_owner t (lss_of v)) server then Some (Duplicate kind.Lss)
    else if tracks == 0 || nat_lt most_tracks tracks then Some (Limit limit.Tracks)
    else if nat_le 64 (length t.volumes) then Some (Limit limit.Volumes)
    else None

-- The table with one more server.
abbrev pub with_server : ConfigTable → List ℕ → ConfigTable
with_server t name = record t { names = t.names ++ name ∷ [] }

-- The table with one more volume.
abbrev pub with_volume : ConfigTable → ℕ → ℕ → ℕ → ConfigTable
with_volume t v server tracks = record t { volumes = t.volumes ++ (record { id = v; server = server; tracks = tracks }) ∷ [] }

-- Why a link is refused: its ends are one server.
abbrev pub link_refusal : ℕ → ℕ → Option Refusal
link_refusal a b = if a == b then Some (Duplicate kind.Server) else None

-- The table with the link between two servers set, in both directions.
abbrev pub with_link : ConfigTable → ℕ → ℕ → Bool → ConfigTable
with_link t a b up = record t { down = set_between t.down a b (not up) }

-- Why server b can't be reached from server a: it is off, or else the link between them is down.
abbrev pub contact_refusal : ConfigTable → (ℕ → Bool) → ℕ → ℕ → Option Refusal
contact_refusal t on a b =
    if not (on b) then Some (ServerOff (record { 0 = b }))
    else if not (link_up t a b) then Some (LinkDown (record { 0 = a }) (record { 0 = b }))
    else None

-- Why a path from a subsystem of server a to one of server b is refused: they are one server, or else a is
-- off, or else b can't be reached.
abbrev pub servers_refusal : ConfigTable → (ℕ → Bool) → ℕ → ℕ → Option Refusal
servers_refusal t on a b =
    if a == b then Some (Limit limit.Server) else if not (on a) then Some (ServerOff (record { 0 = a })) else contact_refusal t on a b

-- Why a path from one logical subsystem to another is refused. Each has an owner where it is asked.
abbrev pub path_refusal : ConfigTable → (ℕ → Bool) → ℕ → ℕ → Option Refusal
path_refusal t on src tgt = servers_refusal t on (unwrap_or (lss_owner t src) 0) (unwrap_or (lss_owner t tgt) 0)

-- Why volume x can't reach volume y: no path goes from the subsystem of x to that of y, or else the server of
-- y can't be reached from that of x. Both volumes are defined where it is asked.
abbrev pub reach_refusal : ConfigTable → (ℕ → Bool) → ℕ → ℕ → Option Refusal
reach_refusal t on x y =
    if is_some (path_in t.paths (lss_of x) (lss_of y)) then contact_refusal t on (unwrap_or (server_of t x) 0) (unwrap_or (server_of t y) 0)
    else Some (Unknown kind.Path)

-- The table with a path, whose consistency group is as told. A path that is defined stays at its place.
abbrev pub with_path_between : ConfigTable → ℕ → ℕ → Bool → ConfigTable
with_path_between t src tgt group = record t { paths = with_path t.paths src tgt group }

-- The table without a path.
abbrev pub without_path_between : ConfigTable → ℕ → ℕ → ConfigTable
without_path_between t src tgt = record t { paths = without_path t.paths src tgt }
