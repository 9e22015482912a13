use Rattle.std.proofs.Common.{◌++◌, ap, ◌∙◌, sym}
use Rattle.std.specs.Prelude.{codes}
use Rattle.std.specs.Fmt.{decimal}
use Rattle.std.proofs.lemmas.Result.{on_ok_weaker}
use Rattle.dr_ids.specs.Spelling.{hex4}
use Rattle.dr_model.specs.LineText.{bytes_text}
use Rattle.dr_model.specs.PlantImage.{ended}
use Rattle.dr_model.specs.Text.{trimmed}
use Rattle.dr_image.proofs.TextLemmas.{line-written}
use Rattle.dr_report.proofs.Lines.{track-line}
use Rattle.dr_report.proofs.printed.push_track.Goals as goal

pub returns : goal.returns
returns c =
    let bytes = trimmed c.args.bytes.now in
    on_ok_weaker c.append-2.result
    (λ last.
    line-written c.args.text.now c.append.new.self c.push_id.new.text c.push_number.new.text c.push_kept.new.text c.append-2.new.self (codes "track") (hex4 c.args.volume.0) (decimal c.args.t) (bytes_text bytes)
    c.in_ok-append.ensures.ok c.in_ok-push_id.ensures
    (c.in_ok-push_number.ensures ∙ ap (λ n. c.push_id.new.text ++ codes " " ++ decimal n) c.from.ensures)
    c.in_ok-push_kept.ensures last
    ∙ ap (λ ls. c.args.text.now ++ ended ls) (sym (track-line c.args.volume.0 c.args.t c.trimmed.result.now bytes c.trimmed.ensures (sym c.is_empty.ensures ∙ c.if-is_empty.false))))
    c.append-2.ensures.ok
