use Rattle.std.proofs.Common.{◌∷◌, [], ℕ, map, take, vec_len, ap, sym, ◌∙◌, option_map}
use Rattle.std.specs.List.{slice_get}
use Rattle.std.proofs.lemmas.List.{map-append}
use Rattle.dr_image.specs.Shown.{owned}
use Rattle.dr_report.specs.Known.{known, known_at, known_by}
use Rattle.dr_report.proofs.DeviceLaws.{known-all, known-more}
use Rattle.dr_report.proofs.device.read_devices.Goals as goal

pub loop-volume-preserved : goal.loop-volume-preserved
loop-volume-preserved c =
    let vs = c.args.image.now in
    let ds = c.loop-volume.devices.items in
    let n : ℕ = vec_len c.loop-volume.devices in
    let place = c.len.ensures in
    ap (map known) c.in_ok-push.ensures.items ∙ map-append known ds (c.in_ok-device.device ∷ [])
    ∙ known-more vs n c.in-Some.volume (known c.in_ok-device.device) (map known ds) (sym c.in-Some.is ∙ c.volume.ensures ∙ ap (λ i. option_map owned (slice_get vs i)) place)
    (c.in_ok-device.ensures ∙ ap (λ i. known_at vs i c.in-Some.volume) c.len-in-Some.ensures) c.loop-volume.invariant
    ∙ ap (λ i. map known_by (take i vs)) (sym c.in_ok-push.ensures.len)

pub returns : goal.returns
returns c = c.loop-volume.invariant ∙ known-all c.args.image.now (vec_len c.loop-volume.devices) (sym c.in_default.is ∙ c.volume.ensures ∙ ap (λ i. option_map owned (slice_get c.args.image.now i)) c.len.ensures)
