-- Entries of plans on host writes, on long busy primaries, and on servers that start.
use Rattle.std.specs.Prelude.{ℕ, Bool, true, false, ◌&&◌, ◌||◌, not, List, [], ◌∷◌, ◌++◌, map, is_some, unwrap_or, nat_eq, if◌then◌else◌}
use Rattle.std.specs.List.{flat_map}
use Rattle.dr_ids.specs.Paths.{path_in}
use Rattle.dr_model.specs.Layout.{is_part}
use Rattle.dr_model.specs.Control.{Control, is_volume}
use Rattle.dr_model.specs.Pairs.{held, holds_back, goes_over, collides, must_restart, is_cascaded}
use Rattle.dr_model.specs.Moves.{Suspend, Unsync, Mirror, LandBoth, Thaw, FlashHold, FlashFree, Lift, Restart}
use Rattle.dr_model.specs.Carry.{Make, Redo, EndFreeze, EndThaw, Pass, Do, Entry, Stretch, follows_at, now}
use Rattle.dr_model.specs.Entries.{fields_at, is_running, subsystem, copy_first, write_checks, land_alone}
use Rattle.dr_model.specs.PairEntries.{send_refusal, send_first, suspend_running, suspend_after}
use Rattle.dr_model.specs.declared.said.Addition.TheVariants.{Wrote}
use Rattle.dr_model.specs.declared.said.Said.{Said}
use Rattle.dr_model.specs.declared.said.Said.TheVariants.{Done, Held}

-- the secondary of a primary
abbrev pub partner_of : Control → ℕ → ℕ
partner_of k v = (fields_at k v).primary_partner

-- a path, where there is one, makes the primaries that lose their secondary over it long busy
abbrev pub is_grouped : Control → ℕ → ℕ → Bool
is_grouped k a b = unwrap_or (path_in k.paths (subsystem a) (subsystem b)) false

-- secondary u stores host write n, and then it lands on v; the targets of each keep the track first
abbrev pub mirror_and_land : List ℕ → ℕ → ℕ → ℕ → ℕ → List Entry
mirror_and_land volumes n v t u = copy_first volumes u t ++ now (Mirror u t v n) ∷ copy_first volumes v t ++ now (LandBoth n v t) ∷ []

-- host write n lands on v and on its secondary u: u stores it before it lands on v, and until then the track is out of sync
abbrev pub land_mirrored : List ℕ → ℕ → ℕ → ℕ → ℕ → List Entry
land_mirrored volumes n v t u = now (Unsync v t) ∷ mirror_and_land volumes n v t u

-- The same over a cascaded secondary u, whose own secondary is c: what the track was at u is sent on to c first, if it collides there.
abbrev pub land_fed : List ℕ → ℕ → ℕ → ℕ → ℕ → ℕ → List Entry
land_fed volumes n v t u c = now (Unsync v t) ∷ send_first volumes u c t ++ mirror_and_land volumes n v t u

-- v can't send to its secondary: it is suspended, and where the path makes it long busy the write waits
abbrev pub land_parted : Control → ℕ → ℕ → ℕ → List Entry
land_parted k n v t = now (Suspend v (is_grouped k v (partner_of k v))) ∷ (if is_grouped k v (partner_of k v) then [] else land_alone k.volumes n v t)

-- primary v can't send to its secondary
abbrev pub is_parted : Control → ℕ → Bool
is_parted k v = is_some (send_refusal v (partner_of k v) k)

-- coordination holds back what the secondary of v receives
abbrev pub is_held_back : Control → ℕ → Bool
is_held_back k v = holds_back (fields_at k (partner_of k v))

-- a write that goes to the secondary first, where that can be reached: over one that is cascaded and held it waits
abbrev pub land_over : Control → ℕ → ℕ → ℕ → List Entry
land_over k n v t =
    let u : ℕ = partner_of k v in
    if is_parted k v then land_parted k n v t
    else if is_held_back k v then []
    else if is_cascaded (fields_at k u) then land_fed k.volumes n v t u (partner_of k u)
    else land_mirrored k.volumes n v t u

-- what the track was is sent first, and then the write lands on the primary alone
abbrev pub land_collided : Control → ℕ → ℕ → ℕ → List Entry
land_collided k n v t = send_first k.volumes v (partner_of k v) t ++ land_alone k.volumes n v t

-- A host write on a volume where the host may write: on a held one it waits; one that goes over does so; one that collides is sent
-- for first; any other lands alone.
abbrev pub land_entries : Control → ℕ → ℕ → ℕ → List Entry
land_entries k n v t =
    if held (fields_at k v) then []
    else if goes_over (fields_at k v) t then land_over k n v t
    else if collides (fields_at k v) t then land_collided k n v t
    else land_alone k.volumes n v t

-- pending write n on track t of volume v is carried out
abbrev pub landing : Control → ℕ → ℕ → ℕ → List Entry
landing k n v t = write_checks k n v ++ land_entries k n v t

-- it waits: the volume is held, or becomes long busy since its secondary can't be reached, or coordination holds its cascaded secondary
abbrev pub waits : Control → ℕ → ℕ → Bool
waits k v t = held (fields_at k v) || (goes_over (fields_at k v) t && (if is_parted k v then is_grouped k v (partner_of k v) else is_held_back k v))

-- the answer of a host write: it waits, or it has landed
abbrev pub says_written : Control → ℕ → ℕ → ℕ → Said
says_written k n v t = if waits k v t then Held n else Done (Wrote n)

-- What follows the stop of a server in a host write on v: where it was that of the secondary, so that v's own still runs, v is
-- suspended, and long busy where the path makes it so.
abbrev pub part_running : ℕ → Entry
part_running v k = if is_part (fields_at k v).primary && is_running v k then Do (Make (Suspend v (is_grouped k v (partner_of k v)))) else Pass

-- what follows where a server stopped in a host write
abbrev pub part_after : ℕ → List Entry
part_after v = part_running v ∷ []

-- a host write on track t of v goes to its secondary first, and that is cascaded, and isn't held back
abbrev pub is_fed : Control → ℕ → ℕ → Bool
is_fed k v t = goes_over (fields_at k v) t && (not (is_parted k v) && (is_cascaded (fields_at k (partner_of k v)) && not (is_held_back k v)))

-- A host write in stretches, by what follows a stop in them. Of one that collides, what is sent first is followed as a send is; of one that goes to a
-- cascaded secondary, what that sends on first suspends it, and then v as any stop in a host write does.
abbrev pub write_stretches : Control → ℕ → ℕ → ℕ → List Stretch
write_stretches k n v t =
    let u : ℕ = partner_of k v in
    if held (fields_at k v) then record { entries = landing k n v t; follows = part_after v } ∷ []
    else if is_fed k v t
    then record { entries = write_checks k n v ++ now (Unsync v t) ∷ []; follows = part_after v }
    ∷ record { entries = send_first k.volumes u (partner_of k u) t; follows = suspend_running u ∷ part_running v ∷ [] }
    ∷ record { entries = mirror_and_land k.volumes n v t u; follows = part_after v } ∷ []
    else if not (goes_over (fields_at k v) t) && collides (fields_at k v) t
    then record { entries = write_checks k n v ++ send_first k.volumes v u t; follows = suspend_after v }
    ∷ record { entries = land_alone k.volumes n v t; follows = part_after v } ∷ []
    else record { entries = landing k n v t; follows = part_after v } ∷ []

-- what follows a stop in host write n, after so many of its entries
abbrev pub after_write : Control → ℕ → ℕ → ℕ → ℕ → List Entry
after_write k n v t = follows_at (write_stretches k n v t)

-- a primary of logical subsystem l, whose server runs, with its secondary in m
abbrev pub is_between : Control → ℕ → ℕ → ℕ → Bool
is_between k l m v = nat_eq (subsystem v) l && (is_running v k && (is_part (fields_at k v).primary && nat_eq (subsystem (partner_of k v)) m))

-- each primary between two logical subsystems is Suspended and long busy, and the path is removed
abbrev pub freeze_on : ℕ → ℕ → ℕ → Entry
freeze_on l m v k = if is_between k l m v then Do (Make (Suspend v true)) else Pass

-- the freeze ends
abbrev pub end_freeze : ℕ → ℕ → Entry
end_freeze l m k = Do (EndFreeze l m)

-- a freeze: volume by volume, and then its end
abbrev pub freeze_entries : List ℕ → ℕ → ℕ → List Entry
freeze_entries volumes l m = map (freeze_on l m) volumes ++ end_freeze l m ∷ []

-- each of them is long busy no more
abbrev pub thaw_on : ℕ → ℕ → ℕ → Entry
thaw_on l m v k = if is_between k l m v && (fields_at k v).long_busy then Do (Make (Thaw v)) else Pass

-- the thaw ends
abbrev pub end_thaw : ℕ → ℕ → Entry
end_thaw l m k = Do (EndThaw l m)

-- a thaw: volume by volume, and then its end
abbrev pub thaw_entries : List ℕ → ℕ → ℕ → List Entry
thaw_entries volumes l m = map (thaw_on l m) volumes ++ end_thaw l m ∷ []

-- host writes on volume s wait from now on, where they don't do so by a flash hold already
abbrev pub flash_hold_on : ℕ → Entry
flash_hold_on s k = if (fields_at k s).flash_hold then Pass else Do (Make (FlashHold s))

-- a volume of logical subsystem l, whose server runs, has a flash hold
abbrev pub is_held_in : Control → ℕ → ℕ → Bool
is_held_in k l v = nat_eq (subsystem v) l && (is_running v k && (fields_at k v).flash_hold)

-- it has none any more
abbrev pub flash_free_on : ℕ → ℕ → Entry
flash_free_on l v k = if is_held_in k l v then Do (Make (FlashFree v)) else Pass

-- a volume that is defined, and the server's
abbrev pub belongs : Control → ℕ → ℕ → Bool
belongs k s v = is_volume k v && nat_eq (k.volume v).server s

-- where a volume of the server is held, by whichever of the three holds, its writes wait no more
abbrev pub lift_on : ℕ → ℕ → Entry
lift_on s v k = if belongs k s v && held (fields_at k v) then Do (Make (Lift v)) else Pass

-- As a server starts, each of its volumes writes its staged track to its place and then goes on.
abbrev pub redo_on : ℕ → ℕ → Entry
redo_on s v k = if belongs k s v then Do (Redo v) else Pass

-- volume v of server s goes on, where a stop left it so that it must
abbrev pub restart_on : ℕ → ℕ → Entry
restart_on s v k = if belongs k s v && must_restart (fields_at k v) then Do (Make (Restart v)) else Pass

-- what a start of server s does with volume v
abbrev pub start_on_volume : ℕ → ℕ → List Entry
start_on_volume s v = redo_on s v ∷ restart_on s v ∷ []

-- volume by volume, in order of definition
abbrev pub start_entries : ℕ → List ℕ → List Entry
start_entries s volumes = flat_map (start_on_volume s) volumes
