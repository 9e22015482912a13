-- The checks of calls that turn a pair round, and the two moves of a failback.
use Rattle.std.specs.Prelude.{ℕ, not, List, [], ◌∷◌, ◌++◌, Option, Some, None, if◌then◌else◌}
use Rattle.dr_ids.specs.declared.refusal.Refusal.{Refusal}
use Rattle.dr_ids.specs.declared.refusal.Which.TheVariants.{Size}
use Rattle.dr_model.specs.declared.state.Part.{Part}
use Rattle.dr_model.specs.Control.{Control}
use Rattle.dr_model.specs.Carry.{Entry, check}
use Rattle.dr_model.specs.Entries.{fields_at, is_running, running_check, share_size, is_settled, is_no_secondary, pair_state, secondary_state, relation_state}
use Rattle.dr_model.specs.PairEntries.{refuse_if, reach_refusal, may_take_over, leads_as, leads_to, fall_back_on, yield_on, is_copying, sends, tracks_to_send}
use Rattle.dr_model.specs.Refusals.{server_off, over}

-- b runs, and is a secondary of a of that kind
abbrev pub failover_checks : Control → ℕ → ℕ → Part → List Entry
failover_checks k b a kind = running_check k b ∷ check (may_take_over a b kind) (secondary_state k b) ∷ []

-- x and y are primaries of each other, x of that kind, and neither is a secondary
abbrev pub lead_checks : Control → ℕ → ℕ → Part → List Entry
lead_checks k x y kind =
    check (leads_as x y kind) (pair_state k x)
    ∷ check (leads_to y x) (pair_state k y)
    ∷ check (is_no_secondary x) (secondary_state k x)
    ∷ check (is_no_secondary y) (secondary_state k y) ∷ []

-- neither stands in a revertible or reversing relationship
abbrev pub settled_checks : Control → ℕ → ℕ → List Entry
settled_checks k x y = check (is_settled y) (relation_state k y) ∷ check (is_settled x) (relation_state k x) ∷ []

-- the checks of `failbackpprc`, but for what a session says
abbrev pub failback_checks : Control → ℕ → ℕ → Part → List Entry
failback_checks k x y kind = running_check k x ∷ refuse_if (reach_refusal x y) ∷ lead_checks k x y kind ++ settled_checks k x y

-- and its two moves
abbrev pub failback_moves : ℕ → ℕ → List Entry
failback_moves x y = fall_back_on x y ∷ yield_on y x ∷ []

-- why x sends nothing
abbrev pub copying_refusal : ℕ → Control → Option Refusal
copying_refusal x k =
    if not (is_running x k) then Some (server_off (k.volume x).server)
    else if not (is_copying x k) then Some (pair_state k x)
    else None

-- the checks of a drain
abbrev pub copying_checks : Control → ℕ → List Entry
copying_checks k x = running_check k x ∷ check (is_copying x) (pair_state k x) ∷ []

-- one round of a drain of x: the lowest track that is out of sync is sent
abbrev pub resync_entries : Control → ℕ → List Entry
resync_entries k x = copying_checks k x ++ sends k.volumes x (fields_at k x).primary_partner (tracks_to_send (Some 1) (k.volume x).tracks (fields_at k x).out_of_sync)

-- both volumes are on running servers, and of one size
abbrev pub compare_checks : Control → ℕ → ℕ → List Entry
compare_checks k v u = running_check k v ∷ running_check k u ∷ check (share_size v u) (over Size) ∷ []
