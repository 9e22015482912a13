use Rattle.std.proofs.Common.{◌≡◌, ◌<◌, ◌+◌, None, Some, ap, sym, subst, ◌∙◌, arith}
use Rattle.dr_record.specs.Slots.{slot_of}
use Rattle.dr_model.specs.Layout.{Entries, entry_taken}
use Rattle.dr_volume.specs.View.{volume_seen, track_seen}
use Rattle.dr_volume.proofs.VolumeLaws.{device-placed}
use Rattle.dr_volume.proofs.EntryLaws.{entry-within}
use Rattle.dr_volume.proofs.TakenLaws.{taken-some}
use Rattle.dr_volume.proofs.SavingLaws.{free-taken, saves-nothing, saves-track, tracks-there, entries-looked}
use Rattle.dr_volume.proofs.saving.saving.Goals as goal

pub returns-then-are_free : goal.returns-then-are_free
returns-then-are_free g c =
    let s = g.P.Plant.state c.args.plant.now in
    let w = volume_seen s c.args.config.now c.args.v.0 in
    saves-nothing w.tracks w.fields.entries c.args.next.now (track_seen s c.args.config.now c.args.v.0) (free-taken w.fields.entries c.args.next.now (sym c.are_free.ensures ∙ c.if-are_free.true))

pub returns-in_err-entry : goal.returns-in_err-entry
returns-in_err-entry g c =
    let s = g.P.Plant.state c.args.plant.now in
    let table = c.args.config.now in
    let v = c.args.v.0 in
    let d = c.find-place.result.device.0 in
    let n = c.find-place.result.tracks in
    let w = volume_seen s table v in
    let at = device-placed table v d c.find-place.ensures.place in
    let looked : c.entries_on.result ≡ w.fields.entries = entries-looked s table v d n c.find-place.ensures _ c.args.slot _ _ c.begin_of.ensures (ap (slot_of s) (sym at) ∙ c.requires.slot) c.peek-said.ensures c.entries_on.ensures in
    let none : entry_taken w.fields.entries c.args.next.now ≡ None = ap (λ (es : Entries). entry_taken es c.args.next.now) (sym looked) ∙ sym c.taken.ensures ∙ c.in_err-entry.was in
    c.from_residual.ensures ∙ saves-nothing w.tracks w.fields.entries c.args.next.now (track_seen s table v) none

pub get-requires : goal.get-requires
get-requires g c =
    let x = (taken-some c.entries_on.result c.args.next.now c.in_ok-entry.entry (sym c.taken.ensures ∙ c.in_ok-entry.was)).1 in
    let within = entry-within c.args.next.now c.in_ok-entry.entry x.0 x.1 in
    let eight = c.requires.lawful.eight in
    omega (arith, within, eight)

pub returns-in_err-track : goal.returns-in_err-track
returns-in_err-track g c =
    let x = (taken-some c.entries_on.result c.args.next.now c.in_ok-entry.entry (sym c.taken.ensures ∙ c.in_ok-entry.was)).1 in
    absurd (let never : None ≡ Some x.0 = sym c.in_err-track.was ∙ c.get.ensures ∙ x.1 in cc)

pub peek_in_slot-bytes-requires-clause-within : goal.peek_in_slot-bytes-requires-clause-within
peek_in_slot-bytes-requires-clause-within g c =
    subst (λ m. c.in_ok-track.track < m) (tracks-there (g.P.Plant.state c.args.plant.now) c.args.config.now c.args.v.0 c.find-place.result.device.0 c.find-place.result.tracks c.find-place.ensures)
    (c.requires.lawful.low c.in_ok-entry.entry c.in_ok-track.track (sym c.get.ensures ∙ c.in_ok-track.was))

pub returns : goal.returns
returns g c =
    let s = g.P.Plant.state c.args.plant.now in
    let table = c.args.config.now in
    let v = c.args.v.0 in
    let d = c.find-place.result.device.0 in
    let n = c.find-place.result.tracks in
    let w = volume_seen s table v in
    let at = device-placed table v d c.find-place.ensures.place in
    let looked : c.entries_on.result ≡ w.fields.entries = entries-looked s table v d n c.find-place.ensures _ c.args.slot _ _ c.begin_of.ensures (ap (slot_of s) (sym at) ∙ c.requires.slot) c.peek-said.ensures c.entries_on.ensures in
    let is : entry_taken w.fields.entries c.args.next.now ≡ Some c.in_ok-entry.entry = ap (λ (es : Entries). entry_taken es c.args.next.now) (sym looked) ∙ sym c.taken.ensures ∙ c.in_ok-entry.was in
    let block = c.side_block.ensures ∙ ap (λ m. 13 + m + c.in_ok-entry.entry) (sym (tracks-there s table v d n c.find-place.ensures)) in
    (λ i. Some (block i, c.peek_in_slot-bytes.ensures i))
    ∙ saves-track w.tracks w.fields.entries c.args.next.now (track_seen s table v) c.in_ok-entry.entry c.in_ok-track.track is (sym c.get.ensures ∙ c.in_ok-track.was)
