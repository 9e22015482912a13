-- What is so of the server that a line names.
use Rattle.std.specs.Prelude.{◌≡◌, ℕ, Some}
use Rattle.dr_model.specs.declared.step.Name.{Name}
use Rattle.dr_model.specs.Control.{Control}
use Rattle.dr_model.specs.PlanParts.{name_bytes, server_named}

-- There is a server of this name, and it is so of this server.
pub record OfServer (k : Control) (name : Name) (So : ℕ → Type 0) : Type 0 where
  pub server : ℕ
  pub named : server_named k (name_bytes name) ≡ Some server
  pub so : So server
