use Rattle.std.proofs.Common.{ap, sym, ◌∙◌, arith, take, refl}
use Rattle.dr_model.specs.Histories.{histories}
use Rattle.dr_model.specs.Contents.{image}
use Rattle.dr_model.specs.Asked.{over, asked, asked_if}
use Rattle.dr_model.proofs.Asking.{histories-none, asked-none, image-none}
use Rattle.dr_model.proofs.Overlay.{over-none, length-image}
use Rattle.dr_model.proofs.image.write_track.Goals as goal

pub loop-at-init : goal.loop-at-init
loop-at-init c =
    let h = histories (take c.args.place c.args.journal.now.events) in
    record {
      within = omega arith;
      known_length = refl;
      length = c.requires.into;
      same = over-none c.args.into.now (image h.write (asked h c.present.result)) (length-image h.write (asked h c.present.result)) ∙ ap (λ q. image h.write (asked h q)) c.present.ensures;
    }

pub returns-in_default : goal.returns-in_default
returns-in_default c =
    let h = histories (take c.loop-at.at c.args.journal.now.events) in
    let write = (histories (take c.args.place c.args.journal.now.events)).write in
    c.clear_rest.ensures
    ∙ ap (over c.loop-at.known c.loop-at.into) (sym (ap (λ o. image write (asked_if h o)) c.in_default.is ∙ image-none write))
    ∙ c.loop-at.invariant.same

pub returns : goal.returns
returns c =
    let write = (histories (take c.args.place c.args.journal.now.events)).write in
    c.clear_rest-2.ensures
    ∙ ap (over c.loop-at.known c.loop-at.into)
    (sym (ap (λ h. image write (asked_if h c.loop-at.asked)) (histories-none c.args.journal.now.events c.loop-at.at (omega arith)) ∙ ap (image write) (asked-none c.loop-at.asked) ∙ image-none write))
    ∙ c.loop-at.invariant.same
