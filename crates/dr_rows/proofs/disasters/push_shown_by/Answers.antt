use Rattle.std.proofs.Common.{ℕ, ◌++◌, ◌∷◌, [], List, ap, ◌∙◌}
use Rattle.std.specs.Prelude.{codes}
use Rattle.std.proofs.lemmas.Result.{on_ok_weaker}
use Rattle.dr_rows.specs.Words.{point_words}
use Rattle.dr_rows.specs.Kinds.{shown_by}
use Rattle.dr_rows.proofs.TextLemmas.{pieces}
use Rattle.dr_rows.proofs.disasters.push_shown_by.Goals as goal

pub returns : goal.returns
unfolding shown_by
returns c =
    let t0 = c.args.text.now in
    let plan = c.args.plan.now in
    let words : List ℕ = point_words plan c.args.row.now.point in
    on_ok_weaker c.append-2.result
    (pieces t0 (codes ", shown by: " ++ words) c.push_words.new.text (10 ∷ []) c.append-2.new.self
    (pieces t0 (codes ", shown by: ") c.append.new.self words c.push_words.new.text c.in_ok-append.ensures.ok
    (c.in_ok-push_words.ensures ∙ ap (λ p. c.append.new.self ++ point_words plan p) c.point.ensures)))
    c.append-2.ensures.ok
