use Rattle.std.proofs.Common.{◌++◌, [], ◌∷◌, ap, sym, ◌∙◌, append_assoc}
use Rattle.std.specs.Prelude.{codes}
use Rattle.std.specs.Fmt.{decimal}
use Rattle.std.proofs.lemmas.Result.{on_ok_weaker}
use Rattle.dr_model.specs.Text.{member_text}
use Rattle.dr_list.proofs.lines.push_member_line.Goals as goal

pub returns : goal.returns
returns c =
    let of = c.args.of in
    let out = c.args.out.now.items in
    let number = decimal c.args.line ++ codes " " in
    let says = member_text of.session of.primary of.secondary of.target of.state in
    on_ok_weaker c.push_line.result
    (λ e. e ∙ ap (λ t. out ++ (number ++ t)) (c.put_member.ensures.text ∙ ap (λ t. says ++ t) c.end_of_line-tail.ensures) ∙ ap (λ t. out ++ t) (sym (append_assoc number says (10 ∷ []))))
    c.push_line.ensures
