-- Entries of plans: what the targets of a FlashCopy source keep before it changes, how a host write is carried out, and
-- how tracks are copied in the background.
use Rattle.std.specs.Prelude.{ℕ, zero, suc, ◌/◌, Bool, true, false, ◌&&◌, ◌||◌, not, List, [], ◌∷◌, ◌++◌, map, filter, Option, Some, None, nat_eq, if◌then◌else◌}
use Rattle.std.specs.List.{list_any, find}
use Rattle.std.specs.FinSet.{contains}
use Rattle.dr_ids.specs.declared.refusal.RelSeen.{RelSeen}
use Rattle.dr_ids.specs.declared.refusal.RelSeen.TheVariants.{Revertible, Reversing, Target, Source, None as Unrelated}
use Rattle.dr_ids.specs.declared.refusal.Refusal.{Refusal}
use Rattle.dr_ids.specs.declared.refusal.Refusal.TheVariants.{Inhibited, NotPrimary, PairState, RelationState}
use Rattle.dr_model.specs.Layout.{Fields, is_part}
use Rattle.dr_model.specs.Control.{Control}
use Rattle.dr_model.specs.Relations.{rest, lowest}
use Rattle.dr_model.specs.Pairs.{is_quiet, pair_seen, secondary_seen}
use Rattle.dr_model.specs.Moves.{Land, Overwrite, Keep, Note, Fetch, Restore, Release}
use Rattle.dr_model.specs.Refusals.{server_off}
use Rattle.dr_model.specs.Carry.{Make, Drop, Next, Pass, Do, Entry, now, check}

-- the fields of volume v
abbrev pub fields_at : Control → ℕ → Fields
fields_at k v = (k.volume v).fields

-- the volume's server is on
abbrev pub is_running : ℕ → Control → Bool
is_running v k = k.on (k.volume v).server

-- the number is the one that is given, if one is
abbrev pub is_at : Option ℕ → ℕ → Bool
is_at None v = false
is_at (Some u) v = nat_eq u v

-- the server of a volume is on
abbrev pub running_check : Control → ℕ → Entry
running_check k s = check (is_running s) (server_off (k.volume s).server)

-- the logical subsystem of a volume: the high byte of its identifier
abbrev pub subsystem : ℕ → ℕ
subsystem v = v / 256

-- the first volume of a logical subsystem, if it has any
abbrev pub first_of : Control → ℕ → Option ℕ
first_of k lss = find (λ v. nat_eq (subsystem v) lss) k.volumes

-- two volumes are on one server
abbrev pub share_server : ℕ → ℕ → Control → Bool
share_server s t k = nat_eq (k.volume s).server (k.volume t).server

-- two volumes have as many tracks
abbrev pub share_size : ℕ → ℕ → Control → Bool
share_size s t k = nat_eq (k.volume s).tracks (k.volume t).tracks

-- v is no FlashCopy target
abbrev pub is_no_target : ℕ → Control → Bool
is_no_target v k = not (fields_at k v).related

-- a volume with these fields is a target of v
abbrev pub copies_from : ℕ → Fields → Bool
copies_from v f = f.related && nat_eq f.source v

-- the targets of v, in order of definition
abbrev pub targets_of : Control → ℕ → List ℕ
targets_of k v = filter (λ u. copies_from v (fields_at k u)) k.volumes

-- a volume is target or source of a relationship that is so
abbrev pub stands_in : (Fields → Bool) → Control → ℕ → Bool
stands_in so k v = ((fields_at k v).related && so (fields_at k v)) || list_any (λ u. so (fields_at k u)) (targets_of k v)

-- the relationship is revertible
abbrev pub is_revertible : Fields → Bool
is_revertible f = f.revertible

-- the target is being restored onto its source
abbrev pub is_reversing : Fields → Bool
is_reversing f = f.reversing

-- any relationship
abbrev pub is_any : Fields → Bool
is_any f = true

-- how a volume is seen: the first of these that holds of it
abbrev pub relation_seen : Control → ℕ → RelSeen
relation_seen k v =
    if stands_in is_revertible k v then Revertible
    else if stands_in is_reversing k v then Reversing
    else if (fields_at k v).related then Target
    else if stands_in is_any k v then Source
    else Unrelated

-- the refusal that says how a volume stands in relationships
abbrev pub relation_state : Control → ℕ → Refusal
relation_state k v = RelationState (record { 0 = v }) (relation_seen k v)

-- the refusal that says how a volume's pair is seen
abbrev pub pair_state : Control → ℕ → Refusal
pair_state k v = PairState (record { 0 = v }) (pair_seen (fields_at k v))

-- the same where it is asked for as a secondary
abbrev pub secondary_state : Control → ℕ → Refusal
secondary_state k v = PairState (record { 0 = v }) (secondary_seen (fields_at k v))

-- before track t of its source is overwritten, the target u keeps it; one that holds it already notes the change
abbrev pub keep_if : Fields → ℕ → ℕ → Next
keep_if f u t =
    if not (contains f.own t) then Do (Make (Keep u t))
    else if f.recorded && not (contains f.source_changes t) then Do (Make (Note u t))
    else Pass

-- where u is a target of v; one that is restored onto v is passed over
abbrev pub keep_on : ℕ → ℕ → ℕ → Entry
keep_on v t u k = if copies_from v (fields_at k u) && not (fields_at k u).reversing then keep_if (fields_at k u) u t else Pass

-- each target of v, in order of definition
abbrev pub copy_first : List ℕ → ℕ → ℕ → List Entry
copy_first volumes v t = map (keep_on v t) volumes

-- what doesn't pass drops the write, and ends the plan
abbrev pub drop_unless : ℕ → (Control → Bool) → Entry
drop_unless n ok k = if ok k then Pass else Do (Drop n)

-- a check behind which host write n is dropped where it doesn't pass
abbrev pub check_or_drop : ℕ → (Control → Bool) → Refusal → List Entry
check_or_drop n ok r = drop_unless n ok ∷ check ok r ∷ []

-- the host may write on v: it is no secondary
abbrev pub is_no_secondary : ℕ → Control → Bool
is_no_secondary v k = not (is_part (fields_at k v).secondary)

-- it is no inhibited target
abbrev pub is_open : ℕ → Control → Bool
is_open v k = not ((fields_at k v).related && (fields_at k v).inhibited)

-- and it stands in no revertible or reversing relationship
abbrev pub is_settled : ℕ → Control → Bool
is_settled v k = not (stands_in is_revertible k v) && not (stands_in is_reversing k v)

-- host write n lands
abbrev pub land_on : ℕ → ℕ → ℕ → Entry
land_on n v t k = Do (Make (if (fields_at k v).related then Overwrite n v t else Land n v t))

-- A host write is refused where its volume's server is off, and stays pending. It is dropped where the volume is no place
-- for it.
abbrev pub write_checks : Control → ℕ → ℕ → List Entry
write_checks k n v =
    check (is_running v) (server_off (k.volume v).server)
    ∷ check_or_drop n (is_no_secondary v) (NotPrimary (record { 0 = v }))
    ++ check_or_drop n (is_open v) (Inhibited (record { 0 = v }))
    ++ check_or_drop n (is_settled v) (relation_state k v)

-- host write n lands on v alone: the targets of v keep the track first
abbrev pub land_alone : List ℕ → ℕ → ℕ → ℕ → List Entry
land_alone volumes n v t = copy_first volumes v t ++ land_on n v t ∷ []

-- entries so many times in order
abbrev pub times : ℕ → List Entry → List Entry
times zero ds = []
times (suc n) ds = ds ++ times n ds

-- an entry for the track that was found, if one was
abbrev pub on_found : Option ℕ → (ℕ → Entry) → Entry
on_found None d k = Pass
on_found (Some t) d k = d t k

-- the lowest track that target v doesn't hold yet, and the lowest that it holds
abbrev pub lowest_missing : ℕ → Control → Option ℕ
lowest_missing v k = if (fields_at k v).related then lowest (k.volume v).tracks (rest (k.volume v).tracks (fields_at k v).own) else None

-- the lowest track that target v holds
abbrev pub lowest_held : ℕ → Control → Option ℕ
lowest_held v k = lowest (k.volume v).tracks (fields_at k v).own

-- the background copy of one track of a target: the lowest that it doesn't hold
abbrev pub fetch_next : ℕ → Entry
fetch_next v k = on_found (lowest_missing v k) (λ t. now (Fetch v t)) k

-- a volume may take tracks back from its target: a primary that isn't Suspended may not
abbrev pub takes_back : ℕ → Control → Bool
takes_back s k = is_quiet (fields_at k s)

-- what comes for the lowest track that v holds
abbrev pub for_lowest : ℕ → (ℕ → Entry) → Entry
for_lowest v d k = on_found (lowest_held v k) d k

-- one track of v, the lowest that it holds, is restored onto its source s: the other targets of s keep theirs first
abbrev pub give_back : List ℕ → ℕ → ℕ → List Entry
give_back volumes s v =
    map (λ u. for_lowest v (λ t. keep_on s t u)) volumes
    ++ for_lowest v (λ t. now (Restore s t v)) ∷ for_lowest v (λ t. now (Release v t)) ∷ []
