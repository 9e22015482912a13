use Rattle.std.proofs.Common.{◌≡◌, ◌∷◌, ◌++◌, take}
use Rattle.std.specs.List.{flat_map}
use Rattle.dr_model.specs.LineText.{name_text}
use Rattle.dr_rows.proofs.disasters.push_names.Given as goal

abbrev pub invariant-loop-name : goal.invariant-loop-name
invariant-loop-name l = l.text ≡ l.fn.text ++ flat_map (λ name. 32 ∷ name_text name) (take l.name-index l.servers)
