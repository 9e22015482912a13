-- The example of drains, worked out: what its sets decide, and then it computes.
use Rattle.std.proofs.Common.{ℕ, ◌≡◌, ◌+◌, ap, ◌∙◌, cond, true, false, nat_eq}
use Rattle.std.specs.Cmp.{nat_cmp_total}
use Rattle.std.specs.FinSet.{empty, len, len-empty, len-insert}
use Rattle.std.specs.Ordering.{nat_cmp}
use Rattle.dr_ids.specs.declared.refusal.PairSeen.TheVariants as seen
use Rattle.dr_ids.specs.declared.refusal.RelSeen.TheVariants.{Revertible}
use Rattle.dr_ids.specs.declared.refusal.Refusal.TheVariants.{RelationState, PairState}
use Rattle.dr_model.specs.declared.said.Addition.TheVariants.{Counted}
use Rattle.dr_model.specs.declared.said.Said.TheVariants.{Done, Refused}
use Rattle.dr_model.specs.declared.state.Part.TheVariants.{Metro, Global}
use Rattle.dr_model.specs.Control.{Control}
use Rattle.dr_model.specs.Entries.{fields_at}
use Rattle.dr_facts.proofs.Tracks.{empty_has}
use Rattle.dr_laws_return.specs.Drains.{Ending, drain_ends, stays, sent}
use Rattle.dr_laws_return.specs.DrainsExample.{only, leading, pair}

one : len (only 1) ≡ 1
one = len-insert nat_cmp_total empty 1 ∙ ap (λ b. cond b (len {R = nat_cmp} empty) (len {R = nat_cmp} empty + 1)) (empty_has 1) ∙ ap (λ n. n + 1) (len-empty nat_cmp)

-- how a drain ends there, by how many tracks are out of sync
abbrev by-count : Control → Ending → ℕ → Ending
by-count k more n = cond (nat_eq n 0) (stays (fields_at k 4096) (Done (Counted 0))) more

pub sends : (drain_ends (pair Global (only 1) false) 4096).answer ≡ Done (Counted 1)
sends = ap (λ n. (by-count (pair Global (only 1) false) (sent 4096 Global n) n).answer) one

pub again : (drain_ends (pair Global (only 1) false) 4096).second ≡ Done (Counted 0)
again = ap (λ n. (by-count (pair Global (only 1) false) (sent 4096 Global n) n).second) one

pub duplex : (drain_ends (pair Metro (only 1) false) 4096).second ≡ Refused (PairState (record { 0 = 4096 }) seen.FullDuplex)
duplex = ap (λ n. (by-count (pair Metro (only 1) false) (sent 4096 Metro n) n).second) one

pub flashed : (drain_ends (pair Metro (only 1) true) 4096).answer ≡ Refused (RelationState (record { 0 = 8192 }) Revertible)
flashed = ap (λ n. (by-count (pair Metro (only 1) true) (stays (leading Metro (only 1)) (Refused (RelationState (record { 0 = 8192 }) Revertible))) n).answer) one

pub none : (drain_ends (pair Metro empty true) 4096).answer ≡ Done (Counted 0)
none = ap (λ n. (by-count (pair Metro empty true) (stays (leading Metro empty) (Refused (RelationState (record { 0 = 8192 }) Revertible))) n).answer) (len-empty nat_cmp)
