-- The pending writes as the machine has them.
use Rattle.std.specs.Prelude.{◌≡◌, ℕ, true, false, not, List, [], ◌∷◌, map, filter, refl}
use Rattle.std.proofs.Common.{cond, ap}
use Rattle.dr_model.specs.Control as control
use Rattle.dr_model.specs.Moves as moves
use Rattle.dr_host.specs.declared.pending.Pending.{Pending}
use Rattle.dr_host.specs.Writes.{has_number, is_other, marked}

-- a pending write by its number, place and mark, without its bytes
abbrev pub pending_seen : Pending → control.Pending
pending_seen p = record { w = p.w.0; volume = p.volume.0; track = p.track; landed = p.landed }

-- one has landed
pub seen-marked : (n : ℕ) (ps : List Pending) → map pending_seen (marked n ps) ≡ moves.marked n (map pending_seen ps)
seen-marked n [] = refl
seen-marked n (p ∷ ps) =
    elim (has_number n p) as (λ b. (pending_seen (cond b (record p { landed = true }) p) ∷ map pending_seen (marked n ps)) ≡ cond b (record (pending_seen p) { landed = true }) (pending_seen p) ∷ moves.marked n (map pending_seen ps)) [
      | true ↦ ap (λ xs. pending_seen (record p { landed = true }) ∷ xs) (seen-marked n ps)
      | false ↦ ap (λ xs. pending_seen p ∷ xs) (seen-marked n ps)
    ]

-- one is acknowledged
pub seen-without : (n : ℕ) (ps : List Pending) → map pending_seen (filter (is_other n) ps) ≡ filter (moves.is_other n) (map pending_seen ps)
seen-without n [] = refl
seen-without n (p ∷ ps) =
    elim (has_number n p) as (λ b. map pending_seen (cond (not b) (p ∷ filter (is_other n) ps) (filter (is_other n) ps)) ≡ cond (not b) (pending_seen p ∷ filter (moves.is_other n) (map pending_seen ps)) (filter (moves.is_other n) (map pending_seen ps))) [
      | true ↦ seen-without n ps
      | false ↦ ap (λ xs. pending_seen p ∷ xs) (seen-without n ps)
    ]
