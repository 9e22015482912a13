-- What is checked before a freeze and before a thaw.
use Rattle.std.specs.Prelude.{ℕ, Bool, List, [], ◌∷◌, is_some, unwrap_or}
use Rattle.dr_ids.specs.Paths.{path_in}
use Rattle.dr_ids.specs.declared.refusal.Kind.TheVariants.{Path as OfPath}
use Rattle.dr_config.specs.Table.{ConfigTable, lss_owner}
use Rattle.dr_model.specs.Control.{Control}
use Rattle.dr_model.specs.Carry.{Entry, check}
use Rattle.dr_model.specs.Refusals.{unknown, server_off}

-- the server of a logical subsystem that has one
abbrev pub owner_in : ConfigTable → ℕ → ℕ
owner_in t l = unwrap_or (lss_owner t l) 0

-- a path goes from logical subsystem l to m
abbrev pub has_path : ℕ → ℕ → Control → Bool
has_path l m k = is_some (path_in k.paths l m)

-- server s is on
abbrev pub is_up : ℕ → Control → Bool
is_up s k = k.on s

-- the server is on
abbrev pub thaw_checks : ℕ → List Entry
thaw_checks s = check (is_up s) (server_off s) ∷ []

-- a path goes from l to m, and the server is on
abbrev pub freeze_checks : ℕ → ℕ → ℕ → List Entry
freeze_checks s l m = check (has_path l m) (unknown OfPath) ∷ thaw_checks s
