use Rattle.std.proofs.Common.{ℕ, List, get_or, ◌≡◌, ◌∙◌, Bool, true, false, ◌&&◌, take, refl, ap, sym, arith}
use Rattle.std.specs.FinSet.{contains}
use Rattle.dr_bits.specs.Tracks.{Tracks, of_bytes}
use Rattle.dr_model.specs.Layout.{bit, byte, chosen}
use Rattle.dr_volume.proofs.VolumeLaws.{lies-sound}
use Rattle.dr_volume.proofs.TrackLaws.{slot-block, held-there, looked, looked-head}
use Rattle.dr_volume.proofs.volume.peek_holds.Goals as goal

pub peek-requires : goal.peek-requires
peek-requires g c =
    let s = g.P.Plant.state c.args.plant.now in
    let begin = c.begin_of-begin.result in
    slot-block s s c.args.config.now c.args.v.0 c.device_of-device.result.0 begin begin _ c.device_of-device.ensures.sound c.device_of-device.ensures.place c.requires.stands refl c.begin_of-begin.ensures (omega arith)

-- bit 0 of the flags says whether the volume is a target
head-bit : (block : List ℕ) (there : Bool) (front : List ℕ) → front ≡ block → there ≡ bit (get_or front 5 0) 0 → bit (byte block 5) 0 ≡ there
head-bit block there front is says = sym (says ∙ ap (λ b. bit (get_or b 5 0) 0) is)

pub returns-then-bit : goal.returns-then-bit
returns-then-bit g c =
    let s = g.P.Plant.state c.args.plant.now in
    let d = c.device_of-device.result.0 in
    let begins = c.begin_of-begin.ensures in
    let slot = c.peek_choice.ensures in
    let lies = lies-sound c.args.config.now c.args.v.0 d c.device_of-device.ensures.sound c.device_of-device.ensures.place in
    let there = head-bit (chosen (s.block d) 0) true c.peek.result (c.peek.ensures ∙ looked-head s s d _ _ refl begins slot) c.if-bit.ensures in
    let set = c.first_set.ensures ∙ ap (λ b. of_bytes (take 32 b)) (c.peek-then-bit.ensures ∙ looked s s d 2 _ _ refl begins slot) in
    c.contains.ensures.found
    ∙ ap (λ (x : Tracks). contains x c.args.t) set
    ∙ ap (λ b. b && contains (of_bytes (take 32 (chosen (s.block d) 2))) c.args.t) (sym there)
    ∙ sym (held-there s c.args.config.now c.args.v.0 d lies.0 c.args.t lies.1 c.requires.within)

pub returns-else-bit : goal.returns-else-bit
returns-else-bit g c =
    let s = g.P.Plant.state c.args.plant.now in
    let d = c.device_of-device.result.0 in
    let begins = c.begin_of-begin.ensures in
    let slot = c.peek_choice.ensures in
    let lies = lies-sound c.args.config.now c.args.v.0 d c.device_of-device.ensures.sound c.device_of-device.ensures.place in
    let there = head-bit (chosen (s.block d) 0) false c.peek.result (c.peek.ensures ∙ looked-head s s d _ _ refl begins slot) c.if-bit.ensures in
    c.if-bit.false
    ∙ ap (λ b. b && contains (of_bytes (take 32 (chosen (s.block d) 2))) c.args.t) (sym there)
    ∙ sym (held-there s c.args.config.now c.args.v.0 d lies.0 c.args.t lies.1 c.requires.within)
