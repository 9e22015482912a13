use Rattle.std.proofs.Common.{ap, sym, not, ◌∙◌, Some, None}
use Rattle.std.specs.Prelude.{is_some, if◌then◌else◌}
use Rattle.dr_config.specs.declared.entries.VolumeEntry.{VolumeEntry}
use Rattle.dr_config.proofs.Lookups.{place-of-entry, none-mapped}
use Rattle.dr_ids.specs.declared.refusal.Kind.TheVariants.{Server as OfServer, Volume as OfVolume}
use Rattle.dr_model.specs.PlanParts.{is_owner}
use Rattle.dr_model.specs.Refusals.{unknown}
use Rattle.dr_steps.specs.Here.{here}
use Rattle.dr_steps.proofs.LocatedLemmas.{mapped_some, seen-entry, is_volume-here}
use Rattle.dr_steps.proofs.PairLemmas.{owner-named}
use Rattle.dr_steps.proofs.ListingLemmas.{none-always}
use Rattle.dr_steps.proofs.listing.volume_refusal.Goals as goal

pub returns-in_default-clause-refusal : goal.returns-in_default-clause-refusal
returns-in_default-clause-refusal c x h events =
    let k = (here x c.args.config.now h events).control in
    sym (ap (λ b. if not b then Some (unknown OfVolume) else if is_owner c.args.dev.now c.args.v.0 k then None else Some (unknown OfServer))
    (is_volume-here x c.args.config.now h events c.args.v.0 ∙ ap is_some (none-mapped _ _ c.in_default.ensures.value)))

pub returns-clause-refusal : goal.returns-clause-refusal
returns-clause-refusal c x h events =
    let k = (here x c.args.config.now h events).control in
    let e = mapped_some (λ (e : VolumeEntry). e.server) _ _ c.in-Some.ensures.value in
    let at = seen-entry x c.args.config.now c.args.v.0 e.0 e.1 in
    c.name_refusal.ensures.refusal x h events
    ∙ sym (ap (λ b. if not b then Some (unknown OfVolume) else if is_owner c.args.dev.now c.args.v.0 k then None else Some (unknown OfServer)) (is_volume-here x c.args.config.now h events c.args.v.0 ∙ ap is_some e.1)
    ∙ ap (λ b. if b then None else Some (unknown OfServer)) (owner-named k c.args.dev.now c.args.v.0 _ (at.0 ∙ e.2)))

pub returns-clause-defined : goal.returns-clause-defined
returns-clause-defined c =
    let e = mapped_some (λ (e : VolumeEntry). e.server) _ _ c.in-Some.ensures.value in
    none-always c.name_refusal.result (ap is_some (place-of-entry c.args.config.now c.args.v.0 e.0 e.1).1)
