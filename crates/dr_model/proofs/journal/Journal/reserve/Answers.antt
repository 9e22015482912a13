use Rattle.std.proofs.Common.{◌≡◌, ◌≤◌, ◌<◌, ◌+◌, ◌-◌, max, min, ◌∙◌, ap, sym, subst, arith, length}
use Rattle.std.specs.Vec.{vec_capacity}
use Rattle.dr_logic.proofs.Results.{err-always}
use Rattle.dr_model.specs.Limits.{most_events}
use Rattle.dr_model.specs.Log.{Log, memory_for}
use Rattle.dr_model.proofs.MemoryLemmas.{memory-short}
use Rattle.dr_model.proofs.journal.Journal.reserve.Goals as goal

pub returns-in_err-reserve_exact-clause-grows : goal.returns-in_err-reserve_exact-clause-grows
returns-in_err-reserve_exact-clause-grows c =
    let v = c.self.inside.events in
    let len = c.len-len.result in
    let here : len ≡ length c.args.self.now.events = c.len-len.ensures ∙ v.ok.0 ∙ ap (λ (j : Log). length j.events) c.self.view_is in
    let spare : c.self.inside.spare ≡ c.args.self.now.spare = ap (λ (j : Log). j.spare) c.self.view_is in
    let asked : c.max.result ≡ max c.args.room (memory_for (min (len + c.args.room) 18446744073709551615) - len) =
    c.max.ensures ∙ ap (max c.args.room) (c.saturating_sub.ensures ∙ ap (λ n. n - len) (c.memory_for-memory.ensures ∙ ap memory_for c.saturating_add.ensures)) in
    let full : vec_capacity v < len + c.max.result = subst (λ n. vec_capacity v < n + c.max.result) (sym c.len-len.ensures) c.in_err-reserve_exact.ensures.full in
    let holds : memory_for (len + c.args.self.now.spare) ≤ vec_capacity v = subst (λ n. memory_for (len + n) ≤ vec_capacity v) spare (subst (λ n. memory_for (n + c.self.inside.spare) ≤ vec_capacity v) (sym c.len-len.ensures) c.self.invariant.1) in
    err-always c.from_residual.result (
    subst (λ n. n + c.args.room ≤ most_events → memory_for (n + c.args.self.now.spare) < memory_for (n + c.args.room)) here
    (λ few. memory-short len c.args.self.now.spare c.args.room (vec_capacity v) 18446744073709551615 few (omega arith) (subst (λ n. vec_capacity v < len + n) asked full) holds))
