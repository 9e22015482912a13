use Rattle.std.proofs.Common.{ℕ, ◌++◌, ◌∷◌, [], List}
use Rattle.std.specs.Prelude.{codes}
use Rattle.std.proofs.lemmas.Result.{on_ok_weaker}
use Rattle.std.specs.List.{flat_map}
use Rattle.dr_model.specs.LineText.{name_text}
use Rattle.dr_rows.specs.Kinds.{lost_at_once}
use Rattle.dr_rows.proofs.TextLemmas.{pieces}
use Rattle.dr_rows.proofs.disasters.push_lost_at_once.Goals as goal

pub returns : goal.returns
unfolding lost_at_once
returns c =
    let t0 = c.args.text.now in
    let names : List ℕ = flat_map (λ name. 32 ∷ name_text name) c.args.servers.now in
    on_ok_weaker c.append-2.result
    (pieces t0 (codes "lost at once:" ++ names) c.push_names.new.text (10 ∷ []) c.append-2.new.self
    (pieces t0 (codes "lost at once:") c.append.new.self names c.push_names.new.text c.in_ok-append.ensures.ok c.in_ok-push_names.ensures))
    c.append-2.ensures.ok
