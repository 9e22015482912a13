use Rattle.std.proofs.Common.{refl, ap, None}
use Rattle.std.specs.Prelude.{is_some}
use Rattle.dr_config.proofs.Lookups.{place-of-entry, none-mapped}
use Rattle.dr_config.specs.declared.entries.VolumeEntry.{VolumeEntry}
use Rattle.dr_steps.proofs.LocatedLemmas.{mapped_some}
use Rattle.dr_steps.proofs.FlashLemmas.{undefined-first, undefined-second, both-defined}
use Rattle.dr_steps.proofs.locate.undefined_refusal.Goals as goal

pub returns-in_default-clause-checked : goal.returns-in_default-clause-checked
returns-in_default-clause-checked c x h events =
    undefined-first x c.args.config.now h events None c.args.v.0 c.args.u.0 _ (none-mapped _ _ c.in_default.ensures.value) refl

pub returns-in_default-server_of-clause-checked : goal.returns-in_default-server_of-clause-checked
returns-in_default-server_of-clause-checked c x h events =
    let e = mapped_some (λ (e : VolumeEntry). e.server) _ _ c.in-Some.ensures.value in
    undefined-second x c.args.config.now h events None c.args.v.0 c.args.u.0 _ e.0 e.1 (none-mapped _ _ c.in_default-server_of.ensures.value) refl

pub returns-clause-checked : goal.returns-clause-checked
returns-clause-checked c x h events =
    let e = mapped_some (λ (e : VolumeEntry). e.server) _ _ c.in-Some.ensures.value in
    let f = mapped_some (λ (e : VolumeEntry). e.server) _ _ c.in-Some-server_of.ensures.value in
    both-defined x c.args.config.now h events None c.args.v.0 c.args.u.0 e.0 f.0 e.1 f.1

pub returns-clause-first : goal.returns-clause-first
returns-clause-first c =
    let e = mapped_some (λ (e : VolumeEntry). e.server) _ _ c.in-Some.ensures.value in
    ap is_some (place-of-entry c.args.config.now c.args.v.0 e.0 e.1).1

pub returns-clause-second : goal.returns-clause-second
returns-clause-second c =
    let f = mapped_some (λ (e : VolumeEntry). e.server) _ _ c.in-Some-server_of.ensures.value in
    ap is_some (place-of-entry c.args.config.now c.args.u.0 f.0 f.1).1
