-- The source of a target.
use Rattle.std.proofs.Common.{◌≡◌, true, ap, Some, None}
use Rattle.std.specs.Prelude.{if◌then◌else◌}
use Rattle.dr_model.specs.Layout.{Fields}
use Rattle.dr_model.specs.Views.{source_of}

pub related-source : (f : Fields) → f.related ≡ true → source_of f ≡ Some f.source
related-source f related = ap (λ b. if b then Some f.source else None) related
