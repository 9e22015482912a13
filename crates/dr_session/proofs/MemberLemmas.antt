-- The members of a session: their servers as a set, and what stays low.
use Rattle.std.proofs.Common.{◌≡◌, ℕ, Bool, true, false, ◌||◌, List, [], ◌∷◌, ◌++◌, refl, sym, ◌∙◌, ap, ◌==◌}
use Rattle.std.specs.List.{list_any}
use Rattle.std.proofs.lemmas.List.Folds.{list_any-append}
use Rattle.dr_ids.specs.declared.names.Member.{Member}
use Rattle.dr_model.specs.Phases.{servers_where, is_among}
use Rattle.dr_master.specs.Seen.{servers_in}
use Rattle.dr_master.proofs.Sets.{servers_where-same, is_among-servers_where}
use Rattle.dr_model.specs.Sessions.{servers_of}

or-comm : (a b : Bool) → (a || (b || false)) ≡ (b || a)
or-comm true true = refl
or-comm true false = refl
or-comm false true = refl
or-comm false false = refl

-- one member more
pub servers_of-push : (ms : List Member) (m : Member) (before after : ℕ) → servers_in before ≡ servers_of ms → servers_in after ≡ servers_where (λ k. k == m.server.0 || is_among k (servers_in before)) → servers_in after ≡ servers_of (ms ++ m ∷ [])
servers_of-push ms m before after known is =
    is
    ∙ servers_where-same _ _ (λ k low.
    ap (λ xs. k == m.server.0 || is_among k xs) known
    ∙ (ap (λ b. k == m.server.0 || b) (is_among-servers_where (λ k. list_any (λ q. k == q.server.0) ms) k low)
    ∙ (sym (or-comm (list_any (λ q. k == q.server.0) ms) (k == m.server.0)) ∙ sym (list_any-append (λ q. k == q.server.0) ms (m ∷ [])))))
