use Rattle.std.proofs.Common.{◌++◌, [], ◌∷◌, map, ap, ◌∙◌, append_assoc}
use Rattle.std.specs.List.{flat_map}
use Rattle.dr_model.specs.Listed.{listing}
use Rattle.dr_model.specs.Runs.{volume_told, blocks_told}
use Rattle.dr_model.specs.declared.event.Event.TheVariants.{ImageStart, ImageEnd}
use Rattle.dr_volume.specs.View.{control_seen}
use Rattle.dr_listing.proofs.ImageLemmas.{lists-all}
use Rattle.dr_listing.proofs.devices.image.Goals as goal

pub returns-clause-told : goal.returns-clause-told
returns-clause-told g c r =
    let s = g.P.Plant.state c.args.plant.now in
    let old = c.args.journal.now.events in
    let vs = listing (control_seen s c.args.config.now r) s.block in
    let ls = map volume_told vs in
    let bs = flat_map blocks_told vs in
    c.push-2.ensures.events
    ∙ ap (λ es. es ++ ImageEnd ∷ []) (c.push_devices.ensures.told r ∙ ap (λ es. es ++ bs) (c.push_volumes.ensures.told s r ∙ ap (λ es. es ++ ls) c.push.ensures.events))
    ∙ ap (λ es. es ++ ImageEnd ∷ []) (append_assoc (old ++ ImageStart ∷ []) ls bs)
    ∙ append_assoc (old ++ ImageStart ∷ []) (ls ++ bs) (ImageEnd ∷ [])
    ∙ append_assoc old (ImageStart ∷ []) ((ls ++ bs) ++ ImageEnd ∷ [])

pub returns-clause-lists : goal.returns-clause-lists
returns-clause-lists g c r = lists-all (g.P.Plant.state c.args.plant.now) c.args.config.now r c.push_devices.ensures.sound c.requires.stands c.push_devices.ensures.readable
