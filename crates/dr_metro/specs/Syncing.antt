-- How a host write is carried out, by what is known of its volume.
use Rattle.std.specs.Prelude.{ℕ, Bool, not, ◌&&◌, ◌||◌, is_some, List, [], ◌∷◌, ◌++◌, if◌then◌else◌}
use Rattle.dr_model.specs.Moves.{Suspend, Unsync}
use Rattle.dr_model.specs.Carry.{Entry, Stretch, now}
use Rattle.dr_model.specs.Control.{Control}
use Rattle.dr_model.specs.Entries.{fields_at, land_alone}
use Rattle.dr_model.specs.Layout.{Fields}
use Rattle.dr_model.specs.PairEntries.{send_refusal, send_first, suspend_running, suspend_after}
use Rattle.dr_model.specs.Pairs.{held, goes_over, collides}
use Rattle.dr_model.specs.WriteEntries.{partner_of, is_grouped, is_fed, mirror_and_land, land_mirrored, land_entries, part_running, part_after}
use Rattle.dr_metro.specs.declared.sync.WriteEnd.{WriteEnd}
use Rattle.dr_metro.specs.declared.sync.WriteEnd.TheVariants.{Landed, Held}

-- a primary that can't send is suspended, long busy or not, and the write waits or lands alone
abbrev pub parted_entries : List ℕ → Bool → ℕ → ℕ → ℕ → List Entry
parted_entries volumes busy n v t = now (Suspend v busy) ∷ (if busy then [] else land_alone volumes n v t)

-- a host write goes over to u, which isn't cascaded, where v can send to it
abbrev pub over_entries : List ℕ → Bool → Bool → ℕ → ℕ → ℕ → ℕ → List Entry
over_entries volumes parted busy n v t u = if parted then parted_entries volumes busy n v t else land_mirrored volumes n v t u

-- a host write that collides, after its checks: what its track was is sent first, then it lands
abbrev pub sent_stretches : List ℕ → ℕ → ℕ → ℕ → ℕ → List Stretch
sent_stretches volumes n v t u =
    record { entries = send_first volumes v u t; follows = suspend_after v } ∷ record { entries = land_alone volumes n v t; follows = part_after v } ∷ []

-- the same of one that goes over to a cascaded secondary u, whose own secondary is c: what its track was at u is sent on first
abbrev pub fed_stretches : List ℕ → ℕ → ℕ → ℕ → ℕ → ℕ → List Stretch
fed_stretches volumes n v t u c =
    record { entries = now (Unsync v t) ∷ []; follows = part_after v }
    ∷ record { entries = send_first volumes u c t; follows = suspend_running u ∷ part_running v ∷ [] }
    ∷ record { entries = mirror_and_land volumes n v t u; follows = part_after v } ∷ []

-- what a host write comes to behind its checks
abbrev pub placed_stretches : Control → ℕ → ℕ → ℕ → List Stretch
placed_stretches k n v t =
    let u : ℕ = partner_of k v in
    if held (fields_at k v) then record { entries = []; follows = part_after v } ∷ []
    else if is_fed k v t then fed_stretches k.volumes n v t u (partner_of k u)
    else if not (goes_over (fields_at k v) t) && collides (fields_at k v) t then sent_stretches k.volumes n v t u
    else record { entries = land_entries k n v t; follows = part_after v } ∷ []

-- a host write on a volume with these fields collides, and neither waits nor goes over
abbrev pub sends_old : Fields → ℕ → Bool
sends_old f t = not (held f) && (not (goes_over f t) && collides f t)

-- a write waits, or has landed
abbrev pub end_of : Bool → WriteEnd
end_of waits = if waits then Held else Landed

-- whether the write can't go over from v to u, and whether v is long busy then
abbrev pub parts : Control → ℕ → ℕ → Bool
parts k v u = is_some (send_refusal v u k)

-- what a write on v comes to that is sent to no secondary first, where the host may write there, by the fields of v, of which the secondary isn't cascaded
abbrev pub entries_by : Control → Fields → ℕ → ℕ → ℕ → List Entry
entries_by k f n v t =
    if held f then []
    else if goes_over f t then over_entries k.volumes (parts k v f.primary_partner) (is_grouped k v f.primary_partner) n v t f.primary_partner
    else land_alone k.volumes n v t

-- and whether it waits
abbrev pub waits_by : Control → Fields → ℕ → ℕ → Bool
waits_by k f v t = held f || (goes_over f t && (parts k v f.primary_partner && is_grouped k v f.primary_partner))

-- what it comes to in stretches, where the host may write, and the secondary isn't cascaded
abbrev pub stretches_by : Control → Fields → ℕ → ℕ → ℕ → List Stretch
stretches_by k f n v t =
    if sends_old f t then sent_stretches k.volumes n v t f.primary_partner
    else record { entries = entries_by k f n v t; follows = part_after v } ∷ []
