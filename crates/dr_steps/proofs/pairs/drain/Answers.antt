use Rattle.std.proofs.Common.{refl, ap}
use Rattle.std.specs.Prelude.{is_some}
use Rattle.dr_config.proofs.Lookups.{place-of-entry, none-mapped}
use Rattle.dr_config.specs.declared.entries.VolumeEntry.{VolumeEntry}
use Rattle.dr_steps.proofs.LocatedLemmas.{mapped_some}
use Rattle.dr_steps.proofs.DrainLemmas.{drain-nowhere}
use Rattle.dr_steps.proofs.pairs.drain.Goals as goal

pub returns-in_default-clause-step : goal.returns-in_default-clause-step
returns-in_default-clause-step g c =
    drain-nowhere (g.P.Plant.state c.args.plant.now) c.args.config.now c.args.tables.now c.args.journal.now.events c.args.a.0 c.requires.ready.reads c.args.most _ (none-mapped _ _ c.in_default.ensures.value) refl

pub peek_head-head-requires-clause-defined : goal.peek_head-head-requires-clause-defined
peek_head-head-requires-clause-defined g c =
    let e = mapped_some (λ (e : VolumeEntry). e.server) _ _ c.in-Some.ensures.value in
    ap is_some (place-of-entry c.args.config.now c.args.a.0 e.0 e.1).1
