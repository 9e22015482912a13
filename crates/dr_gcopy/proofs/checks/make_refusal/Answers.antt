use Rattle.std.proofs.Common.{sym, Some, ◌∷◌, ◌++◌}
use Rattle.dr_model.specs.Entries.{running_check}
use Rattle.dr_model.specs.PairEntries.{refuse_if, reach_refusal}
use Rattle.dr_moves.specs.Here.{world_seen}
use Rattle.dr_gcopy.specs.Steps.{unlike_checks, free_checks, flash_checks}
use Rattle.dr_flash.proofs.CheckLemmas.{then-checked}
use Rattle.dr_gcopy.proofs.PairChecks.{on-none, servers-apart}
use Rattle.dr_gcopy.proofs.checks.make_refusal.Goals as goal
use Rattle.dr_moves.proofs.EntryLemmas.{ends-clear, ends-why}

pub returns-in-Some-clause-checked : goal.returns-in-Some-clause-checked
returns-in-Some-clause-checked g c r events armed ds =
    c.in-Some.ensures.checked r events armed _

pub returns-in-Some-reach_refusal-clause-checked : goal.returns-in-Some-reach_refusal-clause-checked
returns-in-Some-reach_refusal-clause-checked g c r events armed ds =
    c.in_default.ensures.checked r events armed (world_seen (g.P.Plant.state c.args.plant.now) c.args.config.now r events) (Some c.in-Some-reach_refusal.why) _
    (ends-why armed (world_seen (g.P.Plant.state c.args.plant.now) c.args.config.now r events) (reach_refusal c.args.a.0 c.args.b.0) c.in-Some-reach_refusal.why _ (sym (c.in-Some-reach_refusal.ensures.refusal r events)))

pub returns-in-Some-unlike_refusal-clause-checked : goal.returns-in-Some-unlike_refusal-clause-checked
returns-in-Some-unlike_refusal-clause-checked g c r events armed ds =
    c.in_default.ensures.checked r events armed (world_seen (g.P.Plant.state c.args.plant.now) c.args.config.now r events) (Some c.in-Some-unlike_refusal.why) _
    (ends-clear armed (world_seen (g.P.Plant.state c.args.plant.now) c.args.config.now r events) (Some c.in-Some-unlike_refusal.why) (world_seen (g.P.Plant.state c.args.plant.now) c.args.config.now r events) (reach_refusal c.args.a.0 c.args.b.0) _ (sym (c.in_default-reach_refusal.ensures.refusal r events))
    (c.in-Some-unlike_refusal.ensures.checked (g.P.Plant.state c.args.plant.now) r events armed _))

pub returns-in-Some-free_refusal-clause-checked : goal.returns-in-Some-free_refusal-clause-checked
returns-in-Some-free_refusal-clause-checked g c r events armed ds =
    c.in_default.ensures.checked r events armed (world_seen (g.P.Plant.state c.args.plant.now) c.args.config.now r events) (Some c.in-Some-free_refusal.why) _
    (ends-clear armed (world_seen (g.P.Plant.state c.args.plant.now) c.args.config.now r events) (Some c.in-Some-free_refusal.why) (world_seen (g.P.Plant.state c.args.plant.now) c.args.config.now r events) (reach_refusal c.args.a.0 c.args.b.0) _ (sym (c.in_default-reach_refusal.ensures.refusal r events))
    (c.in_default-unlike_refusal.ensures.checked (g.P.Plant.state c.args.plant.now) r events armed (world_seen (g.P.Plant.state c.args.plant.now) c.args.config.now r events) (Some c.in-Some-free_refusal.why) _
    (c.in-Some-free_refusal.ensures.checked r events armed _)))

pub returns-clause-checked : goal.returns-clause-checked
returns-clause-checked g c r events =
    then-checked (world_seen (g.P.Plant.state c.args.plant.now) c.args.config.now r events) (running_check (world_seen (g.P.Plant.state c.args.plant.now) c.args.config.now r events).control c.args.a.0 ∷ refuse_if (reach_refusal c.args.a.0 c.args.b.0) ∷ unlike_checks c.args.a.0 c.args.b.0 ++ free_checks (world_seen (g.P.Plant.state c.args.plant.now) c.args.config.now r events).control c.args.a.0 c.args.b.0 c.args.cascade) (flash_checks (world_seen (g.P.Plant.state c.args.plant.now) c.args.config.now r events).control c.args.a.0 c.args.b.0) c.flash_refusal.result
    (λ armed u r' ds more. c.in_default.ensures.checked r events armed u r' _
    (ends-clear armed u r' (world_seen (g.P.Plant.state c.args.plant.now) c.args.config.now r events) (reach_refusal c.args.a.0 c.args.b.0) _ (sym (c.in_default-reach_refusal.ensures.refusal r events))
    (c.in_default-unlike_refusal.ensures.checked (g.P.Plant.state c.args.plant.now) r events armed u r' _
    (c.in_default-free_refusal.ensures.checked r events armed u r' _
    (more)))))
    (c.flash_refusal.ensures.checked r events)

pub returns-clause-running : goal.returns-clause-running
returns-clause-running g c =
    on-none c.flash_refusal.result _ c.in_default.ensures.running

pub returns-clause-reached : goal.returns-clause-reached
returns-clause-reached g c =
    on-none c.flash_refusal.result _ c.in_default-reach_refusal.ensures.running

pub returns-clause-apart : goal.returns-clause-apart
returns-clause-apart g c =
    on-none c.flash_refusal.result _ (servers-apart (g.P.Plant.state c.args.plant.now) c.args.config.now c.args.a.0 c.args.b.0 (c.in_default-unlike_refusal.ensures.servers (g.P.Plant.state c.args.plant.now)))

pub returns-clause-size : goal.returns-clause-size
returns-clause-size g c =
    on-none c.flash_refusal.result _ (c.in_default-unlike_refusal.ensures.size (g.P.Plant.state c.args.plant.now))
