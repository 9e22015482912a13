use Rattle.std.proofs.Common.{◌<◌, ap, sym, subst, refl, ◌∙◌, take}
use Rattle.std.specs.FinSet.{contains}
use Rattle.dr_bits.specs.Tracks.{Tracks, of_bytes}
use Rattle.dr_model.specs.Layout.{is_staged}
use Rattle.dr_volume.specs.Record.{staged_in}
use Rattle.dr_volume.specs.View.{volume_seen}
use Rattle.dr_volume.proofs.SavingLaws.{tracks-there}
use Rattle.dr_volume.proofs.TrackLaws.{staged-there, blank-there, own-there, looked, looked-head}
use Rattle.dr_volume.proofs.saving.peek_in_slot.Goals as goal

pub returns-then-is_staged : goal.returns-then-is_staged
returns-then-is_staged g c =
    let s = g.P.Plant.state c.args.plant.now in
    let d = c.args.place.device.0 in
    let n = c.args.place.tracks in
    let begins = c.begin_of-begin.ensures in
    let slot = sym c.requires.chosen in
    let within : c.args.t < (volume_seen s c.args.config.now c.args.v.0).tracks = subst (λ m. c.args.t < m) (sym (tracks-there s c.args.config.now c.args.v.0 d n c.requires.lies)) c.requires.within in
    let head = c.staged_in.ensures ∙ ap staged_in (c.peek.ensures ∙ looked-head s s d _ _ refl begins slot) in
    c.peek-then-is_staged.ensures
    ∙ looked s s d 5 _ _ refl begins slot
    ∙ staged-there s c.args.config.now c.args.v.0 d n c.args.t c.requires.lies within
    (ap (λ o. is_staged o c.args.t) (sym head) ∙ sym c.is_staged.ensures ∙ c.if-is_staged.true)

pub returns-then-contains : goal.returns-then-contains
returns-then-contains g c =
    let s = g.P.Plant.state c.args.plant.now in
    let d = c.args.place.device.0 in
    let n = c.args.place.tracks in
    let begins = c.begin_of-begin.ensures in
    let slot = sym c.requires.chosen in
    let within : c.args.t < (volume_seen s c.args.config.now c.args.v.0).tracks = subst (λ m. c.args.t < m) (sym (tracks-there s c.args.config.now c.args.v.0 d n c.requires.lies)) c.requires.within in
    let head = c.staged_in.ensures ∙ ap staged_in (c.peek.ensures ∙ looked-head s s d _ _ refl begins slot) in
    let blank = c.first_set.ensures ∙ ap (λ b. of_bytes (take 32 b)) (c.peek-2.ensures ∙ looked s s d 4 _ _ refl begins slot) in
    c.zero_block.ensures
    ∙ blank-there s c.args.config.now c.args.v.0 d n c.args.t c.requires.lies within
    (ap (λ o. is_staged o c.args.t) (sym head) ∙ sym c.is_staged.ensures ∙ c.if-is_staged.false)
    (ap (λ (x : Tracks). contains x c.args.t) (sym blank) ∙ sym c.contains.ensures.found ∙ c.if-contains.true)

pub returns : goal.returns
returns g c =
    let s = g.P.Plant.state c.args.plant.now in
    let d = c.args.place.device.0 in
    let n = c.args.place.tracks in
    let begins = c.begin_of-begin.ensures in
    let slot = sym c.requires.chosen in
    let within : c.args.t < (volume_seen s c.args.config.now c.args.v.0).tracks = subst (λ m. c.args.t < m) (sym (tracks-there s c.args.config.now c.args.v.0 d n c.requires.lies)) c.requires.within in
    let head = c.staged_in.ensures ∙ ap staged_in (c.peek.ensures ∙ looked-head s s d _ _ refl begins slot) in
    let blank = c.first_set.ensures ∙ ap (λ b. of_bytes (take 32 b)) (c.peek-2.ensures ∙ looked s s d 4 _ _ refl begins slot) in
    c.peek-3.ensures
    ∙ ap (λ q. s.block d q) c.track_block.ensures
    ∙ own-there s c.args.config.now c.args.v.0 d n c.args.t c.requires.lies within
    (ap (λ o. is_staged o c.args.t) (sym head) ∙ sym c.is_staged.ensures ∙ c.if-is_staged.false)
    (ap (λ (x : Tracks). contains x c.args.t) (sym blank) ∙ sym c.contains.ensures.found ∙ c.if-contains.false)
