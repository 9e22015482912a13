use Rattle.std.proofs.Common.{◌++◌, ap, ◌∙◌}
use Rattle.std.specs.Prelude.{codes}
use Rattle.std.specs.Fmt.{decimal}
use Rattle.std.proofs.lemmas.Result.{on_ok_weaker}
use Rattle.dr_ids.specs.Spelling.{hex4}
use Rattle.dr_model.specs.PlantImage.{volume_line}
use Rattle.dr_image.proofs.TextLemmas.{line-written}
use Rattle.dr_image.proofs.writer.push_volume.Goals as goal

pub returns : goal.returns
unfolding volume_line
returns c =
    let v = c.args.held.now.volume in
    on_ok_weaker c.append-2.result
    (line-written c.args.text.now c.append.new.self c.push_id.new.text c.push_number.new.text c.push_number-2.new.text c.append-2.new.self (codes "volume") (hex4 v.volume.0) (decimal v.server) (decimal v.tracks)
    c.in_ok-append.ensures.ok c.in_ok-push_id.ensures
    (c.in_ok-push_number.ensures ∙ ap (λ n. c.push_id.new.text ++ codes " " ++ decimal n) c.from.ensures)
    (c.in_ok-push_number-2.ensures ∙ ap (λ n. c.push_number.new.text ++ codes " " ++ decimal n) c.from-2.ensures))
    c.append-2.ensures.ok
