use Rattle.std.proofs.Common.{◌++◌, ap, ◌∙◌}
use Rattle.std.specs.Prelude.{codes}
use Rattle.std.specs.Fmt.{decimal}
use Rattle.std.proofs.lemmas.Result.{on_ok_weaker}
use Rattle.dr_ids.specs.Spelling.{hex4}
use Rattle.dr_model.specs.LineText.{bytes_text}
use Rattle.dr_model.specs.Text.{trimmed}
use Rattle.dr_model.specs.PlantImage.{block_line}
use Rattle.dr_image.proofs.TextLemmas.{line-written}
use Rattle.dr_image.proofs.writer.push_block.Goals as goal

pub returns : goal.returns
unfolding block_line
returns c =
    let b = c.args.block.now in
    on_ok_weaker c.append-2.result
    (line-written c.args.text.now c.append.new.self c.push_id.new.text c.push_number.new.text c.push_kept.new.text c.append-2.new.self (codes "block") (hex4 c.args.volume) (decimal b.index) (bytes_text (trimmed b.bytes))
    c.in_ok-append.ensures.ok c.in_ok-push_id.ensures
    (c.in_ok-push_number.ensures ∙ ap (λ n. c.push_id.new.text ++ codes " " ++ decimal n) c.from.ensures)
    c.in_ok-push_kept.ensures)
    c.append-2.ensures.ok
