use Rattle.std.proofs.Common.{◌≡◌, ◌∙◌, ap, map, codes, Some}
use Rattle.std.specs.Prelude.{option_and_then}
use Rattle.std.proofs.lemmas.Result.{IfOk-weaker}
use Rattle.clap.specs.Words.{all_of, found_of, rows_of}
use Rattle.clap.proofs.WalkLemmas.{raw_values-rows}
use Rattle.dr_words.specs.Compare.{names_said}
use Rattle.dr_words.proofs.compare.names_in.Goals as goal

pub returns-in-Some : goal.returns-in-Some
returns-in-Some c =
    let found : Some (map (λ v. v.now) c.in-Some.words.now) ≡ all_of (codes "files") (rows_of (found_of c.args.values.now)) =
    c.in-Some.ensures ∙ raw_values-rows (found_of c.args.values.now) (codes "files") in
    IfOk-weaker c.names_said.result _ _ (λ comparison is. is ∙ ap (option_and_then names_said) found) c.names_said.ensures

pub returns-in-None : goal.returns-in-None
returns-in-None c = ap (option_and_then names_said) (c.in-None.ensures ∙ raw_values-rows (found_of c.args.values.now) (codes "files"))
