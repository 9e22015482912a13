use Rattle.std.proofs.Common.{◌∙◌, ap, [], ◌∷◌, ◌++◌, if◌then◌else◌, Vec, ℕ}
use Rattle.std.specs.Str.{bytes_eq}
use Rattle.std.specs.declared.alloc.Global.{Global}
use Rattle.dr_config.proofs.KeyLaws.{none-any}
use Rattle.dr_config.proofs.entries.add_name.Goals as goal

pub returns-clause-added : goal.returns-clause-added
returns-clause-added c =
    let keys = c.args.names.now.keys in
    let name = c.args.name in
    c.in_ok-insert.ensures.keys
    ∙ ap (λ b. if b then keys else keys ++ name ∷ []) (none-any (λ (n : Vec ℕ Global). bytes_eq name.items n.items) keys c.requires)
