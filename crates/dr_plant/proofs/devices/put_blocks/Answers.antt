use Rattle.std.proofs.Common.{◌≡◌, ◌<◌, ◌≤◌, ◌+◌, ◌∙◌, length, Some, ap, sym, subst, arith}
use Rattle.std.specs.Prelude.{slice_get}
use Rattle.std.proofs.lemmas.Option.{slice_get-get_or}
use Rattle.dr_plant.specs.Model.{size_of}
use Rattle.dr_plant.proofs.Tables.{contents-put}
use Rattle.dr_plant.proofs.devices.put_blocks.Goals as goal

pub returns-clause-contents : goal.returns-clause-contents
returns-clause-contents c =
    let within : c.args.dev < length c.args.devices.now.items = let h = c.requires.device in omega arith in
    let there : slice_get c.args.devices.now.items c.args.dev ≡ Some c.index_mut-device.result.now =
    slice_get-get_or c.args.devices.now.items c.args.dev _ within ∙ ap Some (sym c.index_mut-device.ensures.value) in
    contents-put c.args.devices.now.items c.args.dev c.args.first c.index_mut-device.result.now _ c.args.from.now within there
    (subst (λ o. c.args.first + length c.args.from.now ≤ size_of o) there c.requires.blocks) c.paste.ensures
