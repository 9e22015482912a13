-- What the machine has of the pending writes, after each call.
use Rattle.std.proofs.Common.{◌≡◌, ℕ, true, false, cond, ◌&&◌, nat_le, List, [], ◌∷◌, ◌++◌, length, map, replicate, ◌-◌, Some, None, option_map, refl, sym, ◌∙◌, ap}
use Rattle.std.specs.List.{find}
use Rattle.std.proofs.lemmas.List.{map-append, length-map}
use Rattle.std.proofs.Math.Seq.{take-append_seam}
use Rattle.dr_ids.specs.declared.refusal.Which.TheVariants as limit
use Rattle.dr_config.specs.Table.{ConfigTable}
use Rattle.dr_model.specs.Limits.{most_pending}
use Rattle.dr_model.specs.Refusals.{over}
use Rattle.dr_model.specs.Control as control
use Rattle.dr_model.specs.Control.{Control}
use Rattle.dr_model.specs.Moves as moves
use Rattle.dr_model.specs.Plans as plans
use Rattle.dr_model.specs.WriteEntries as writes
use Rattle.dr_host.specs.declared.pending.Pending.{Pending}
use Rattle.dr_host.specs.Writes.{Writes, number, has_number, bytes_of, written, issue_refusal, has_owner, has_landed, landed_on}
use Rattle.dr_host.specs.Seen.{pending_seen}
pub use Rattle.dr_host.specs.Seen.{seen-marked, seen-without}

-- one more is issued
pub seen-push : (ps : List Pending) (n v track offset : ℕ) (bytes : List ℕ)
    → map pending_seen (ps ++ written n v track offset bytes ∷ []) ≡ map pending_seen ps ++ record { w = n; volume = v; track = track; landed = false } ∷ []
seen-push ps n v track offset bytes = map-append pending_seen ps (written n v track offset bytes ∷ [])

pub seen-length : (ps : List Pending) → length (map pending_seen ps) ≡ length ps
seen-length ps = length-map ps pending_seen

-- a write is refused where the machine refuses it
pub seen-refusal : (h : Writes) → issue_refusal h ≡ cond (nat_le most_pending (length (map pending_seen h.pending))) (Some (over limit.Pending)) None
seen-refusal h = ap (λ n. cond (nat_le most_pending n) (Some (over limit.Pending)) None) (sym (seen-length h.pending))

pub seen-found : (n : ℕ) (ps : List Pending) → option_map pending_seen (find (has_number n) ps) ≡ find (moves.is_write n) (map pending_seen ps)
seen-found n [] = refl
seen-found n (p ∷ ps) =
    elim (has_number n p) as (λ b. option_map pending_seen (cond b (Some p) (find (has_number n) ps)) ≡ cond b (Some (pending_seen p)) (find (moves.is_write n) (map pending_seen ps))) [
      | true ↦ refl
      | false ↦ seen-found n ps
    ]

-- the first that landed on a volume of the server, where control state and table agree on which volumes are the server's
first-landed : (t : ConfigTable) (k : Control) (s : ℕ) (ps : List Pending) → ((v : ℕ) → writes.belongs k s v ≡ has_owner t v s)
    → landed_on t s ps ≡ option_map (λ (p : control.Pending). p.w) (find (plans.has_landed k s) (map pending_seen ps))
first-landed t k s [] agree = refl
first-landed t k s (p ∷ ps) agree =
    elim (has_landed t s p) as (λ b. option_map number (cond b (Some p) (find (has_landed t s) ps)) ≡ option_map (λ (q : control.Pending). q.w) (cond b (Some (pending_seen p)) (find (plans.has_landed k s) (map pending_seen ps)))) [
      | true ↦ refl
      | false ↦ first-landed t k s ps agree
    ]
    ∙ ap (λ b. option_map (λ (q : control.Pending). q.w) (cond (p.landed && b) (Some (pending_seen p)) (find (plans.has_landed k s) (map pending_seen ps)))) (sym (agree p.volume.0))

pub seen-landed : (t : ConfigTable) (k : Control) (s : ℕ) (ps : List Pending) → k.pending ≡ map pending_seen ps → ((v : ℕ) → writes.belongs k s v ≡ has_owner t v s)
    → landed_on t s ps ≡ plans.landed_on k s
seen-landed t k s ps is agree = first-landed t k s ps agree ∙ ap (λ qs. option_map (λ (p : control.Pending). p.w) (find (plans.has_landed k s) qs)) (sym is)

-- a write that is issued brings the bytes that it was given
pub bytes-written : (n v track offset : ℕ) (bytes : List ℕ) → bytes_of (written n v track offset bytes) ≡ bytes
bytes-written n v track offset bytes = take-append_seam bytes (replicate (64 - length bytes) 0)
