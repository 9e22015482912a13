use Rattle.std.proofs.Common.{ap, sym, refl, ◌∙◌, Some}
use Rattle.dr_model.specs.Layout.{chosen}
use Rattle.dr_volume.specs.Plain.{staged_below}
use Rattle.dr_volume.specs.Record.{staged_in}
use Rattle.dr_volume.specs.Update.{track_with}
use Rattle.dr_volume.proofs.TrackLaws.{staged-head, looked, looked-head}
use Rattle.dr_volume.proofs.opened.staged_on.Goals as goal

pub returns-in-Some : goal.returns-in-Some
returns-in-Some g c =
    let s = g.P.Plant.state c.args.plant.now in
    let d = c.args.place.device.0 in
    let n = c.args.place.tracks in
    let head = c.staged_in.ensures ∙ ap staged_in (c.peek-head.ensures ∙ looked-head s s d _ _ refl c.begin_of-begin.ensures (sym c.requires.chosen)) in
    let bytes = c.peek-bytes.ensures ∙ looked s s d 5 _ _ refl c.begin_of-begin.ensures (sym c.requires.chosen) in
    let track = sym c.in-Some.is ∙ c.below.ensures ∙ ap (staged_below n) head ∙ staged-head n (s.block d) in
    ap (λ x. Some (c.in-Some.track, x)) bytes ∙ ap (λ o. track_with o (chosen (s.block d) 5)) track

pub returns-in-None : goal.returns-in-None
returns-in-None g c =
    let s = g.P.Plant.state c.args.plant.now in
    let d = c.args.place.device.0 in
    let n = c.args.place.tracks in
    let head = c.staged_in.ensures ∙ ap staged_in (c.peek-head.ensures ∙ looked-head s s d _ _ refl c.begin_of-begin.ensures (sym c.requires.chosen)) in
    let track = sym c.in-None.is ∙ c.below.ensures ∙ ap (staged_below n) head ∙ staged-head n (s.block d) in
    ap (λ o. track_with o (chosen (s.block d) 5)) track
