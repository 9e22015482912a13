use Rattle.std.proofs.Common.{ap, sym, ◌∙◌, take}
use Rattle.dr_model.specs.Histories.{histories}
use Rattle.dr_model.specs.Contents.{image}
use Rattle.dr_model.specs.Asked.{over, asked_if}
use Rattle.dr_model.proofs.Asking.{image-told}
use Rattle.dr_model.proofs.image.go_back.Goals as goal

pub returns : goal.returns
returns c =
    let es = c.args.journal.now.events in
    let write = (histories (take c.args.place es)).write in
    c.lay_write_under.ensures (image write (asked_if (histories (take c.args.at es)) c.before-earlier.result.question))
    ∙ ap (over c.args.known.now c.args.into.now)
    (sym (image-told write es c.args.at c.in-Some.event.now c.args.question c.before-earlier.result (sym c.in-Some.ensures) c.before-earlier.ensures))
