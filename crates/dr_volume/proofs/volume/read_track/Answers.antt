use Rattle.std.proofs.Common.{◌≡◌, ◌<◌, ◌+◌, take, arith, ap, sym, subst, ◌∙◌}
use Rattle.std.specs.Prelude.{OnOk}
use Rattle.std.specs.FinSet.{contains}
use Rattle.dr_ids.specs.Sizes.{track_block}
use Rattle.dr_plant.specs.State.{PlantState}
use Rattle.dr_bits.specs.Tracks.{Tracks, of_bytes}
use Rattle.dr_model.specs.Layout.{is_staged}
use Rattle.dr_volume.specs.Record.{staged_in}
use Rattle.dr_volume.specs.View.{track_seen}
use Rattle.dr_volume.proofs.VolumeLaws.{lies-sound, track-few}
use Rattle.dr_volume.proofs.TrackLaws.{slot-block, staged-there, blank-there, own-there, looked, looked-head}
use Rattle.dr_volume.proofs.volume.read_track.Goals as goal

pub peek-requires : goal.peek-requires
peek-requires g c =
    let begin = c.begin_of-begin.result in
    slot-block (g.P.Plant.state c.args.plant.now) (g.P.Plant.state c.read_choice.new.plant) c.args.config.now c.args.v.0 c.device_of-device.result.0 begin begin _ c.device_of-device.ensures.sound c.device_of-device.ensures.place c.requires.stands c.in_ok-read_choice.ensures.same c.begin_of-begin.ensures (omega arith)

pub peek-requires-then-is_staged : goal.peek-requires-then-is_staged
peek-requires-then-is_staged g c =
    let begin = c.begin_of-begin.result in
    slot-block (g.P.Plant.state c.args.plant.now) (g.P.Plant.state c.read_choice.new.plant) c.args.config.now c.args.v.0 c.device_of-device.result.0 begin (begin + 5) _ c.device_of-device.ensures.sound c.device_of-device.ensures.place c.requires.stands c.in_ok-read_choice.ensures.same c.begin_of-begin.ensures (omega arith)

pub peek-requires-2 : goal.peek-requires-2
peek-requires-2 g c =
    let begin = c.begin_of-begin.result in
    slot-block (g.P.Plant.state c.args.plant.now) (g.P.Plant.state c.read_choice.new.plant) c.args.config.now c.args.v.0 c.device_of-device.result.0 begin (begin + 4) _ c.device_of-device.ensures.sound c.device_of-device.ensures.place c.requires.stands c.in_ok-read_choice.ensures.same c.begin_of-begin.ensures (omega arith)

pub returns-then-is_staged-clause-bytes : goal.returns-then-is_staged-clause-bytes
returns-then-is_staged-clause-bytes g c =
    let s = g.P.Plant.state c.args.plant.now in
    let d = c.device_of-device.result.0 in
    let same = c.in_ok-read_choice.ensures.same in
    let begins = c.begin_of-begin.ensures in
    let slot = c.in_ok-read_choice.ensures.slot in
    let lies = lies-sound c.args.config.now c.args.v.0 d c.device_of-device.ensures.sound c.device_of-device.ensures.place in
    let head = c.staged_in.ensures ∙ ap staged_in (c.peek.ensures ∙ looked-head s _ d _ _ same begins slot) in
    c.peek-then-is_staged.ensures
    ∙ looked s _ d 5 _ _ same begins slot
    ∙ staged-there s c.args.config.now c.args.v.0 d lies.0 c.args.t lies.1 c.requires.within
    (ap (λ o. is_staged o c.args.t) (sym head) ∙ sym c.is_staged.ensures ∙ c.if-is_staged.true)

pub returns-then-contains-clause-bytes : goal.returns-then-contains-clause-bytes
returns-then-contains-clause-bytes g c =
    let s = g.P.Plant.state c.args.plant.now in
    let d = c.device_of-device.result.0 in
    let same = c.in_ok-read_choice.ensures.same in
    let begins = c.begin_of-begin.ensures in
    let slot = c.in_ok-read_choice.ensures.slot in
    let lies = lies-sound c.args.config.now c.args.v.0 d c.device_of-device.ensures.sound c.device_of-device.ensures.place in
    let head = c.staged_in.ensures ∙ ap staged_in (c.peek.ensures ∙ looked-head s _ d _ _ same begins slot) in
    let blank = c.first_set.ensures ∙ ap (λ b. of_bytes (take 32 b)) (c.peek-2.ensures ∙ looked s _ d 4 _ _ same begins slot) in
    c.zero_block.ensures
    ∙ blank-there s c.args.config.now c.args.v.0 d lies.0 c.args.t lies.1 c.requires.within
    (ap (λ o. is_staged o c.args.t) (sym head) ∙ sym c.is_staged.ensures ∙ c.if-is_staged.false)
    (ap (λ (x : Tracks). contains x c.args.t) (sym blank) ∙ sym c.contains.ensures.found ∙ c.if-contains.true)

pub track_block-requires : goal.track_block-requires
track_block-requires g c =
    let low : c.args.t < 256 = track-few (g.P.Plant.state c.args.plant.now) c.args.config.now c.args.v.0 c.args.t c.device_of-device.ensures.sound c.requires.defined c.requires.within in
    omega arith

pub returns-clause-bytes : goal.returns-clause-bytes
returns-clause-bytes g c =
    let s = g.P.Plant.state c.args.plant.now in
    let d = c.device_of-device.result.0 in
    let same = c.in_ok-read_choice.ensures.same in
    let begins = c.begin_of-begin.ensures in
    let slot = c.in_ok-read_choice.ensures.slot in
    let lies = lies-sound c.args.config.now c.args.v.0 d c.device_of-device.ensures.sound c.device_of-device.ensures.place in
    let head = c.staged_in.ensures ∙ ap staged_in (c.peek.ensures ∙ looked-head s _ d _ _ same begins slot) in
    let blank = c.first_set.ensures ∙ ap (λ b. of_bytes (take 32 b)) (c.peek-2.ensures ∙ looked s _ d 4 _ _ same begins slot) in
    let own : (g.P.Plant.state c.read_choice.new.plant).block d c.track_block.result ≡ track_seen s c.args.config.now c.args.v.0 c.args.t =
    ap (λ n. (g.P.Plant.state c.read_choice.new.plant).block d n) c.track_block.ensures
    ∙ ap (λ (u : PlantState). u.block d (track_block c.args.t)) same
    ∙ own-there s c.args.config.now c.args.v.0 d lies.0 c.args.t lies.1 c.requires.within
    (ap (λ o. is_staged o c.args.t) (sym head) ∙ sym c.is_staged.ensures ∙ c.if-is_staged.false)
    (ap (λ (x : Tracks). contains x c.args.t) (sym blank) ∙ sym c.contains.ensures.found ∙ c.if-contains.false) in
    subst (λ x. OnOk c.read.result (c.read.new.into ≡ x)) own c.read.ensures.bytes
