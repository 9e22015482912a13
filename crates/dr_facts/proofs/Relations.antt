-- A target and its source.
use Rattle.std.proofs.Common.{ℕ, ◌≡◌, true, Some, ap, ◌∙◌, nat_eq}
use Rattle.std.proofs.lemmas.Bool.{and_from, eq-eqb, and_parts, eqb-true}
use Rattle.dr_model.specs.Layout.{Fields}
use Rattle.dr_model.specs.Views.{source_of}
use Rattle.dr_model.specs.Entries.{copies_from}
use Rattle.dr_logic.proofs.Choices.{chosen, choose_some}

pub from-copies : (v : ℕ) (f : Fields) → source_of f ≡ Some v → copies_from v f ≡ true
from-copies v f h = let both = chosen f.related f.source v h in and_from _ _ both.0 (eq-eqb f.source v both.1)

pub copies-from : (v : ℕ) (f : Fields) → copies_from v f ≡ true → source_of f ≡ Some v
copies-from v f h = let both = and_parts f.related (nat_eq f.source v) h in choose_some f.related f.source both.0 ∙ ap (λ j. Some j) (eqb-true f.source v both.1)
