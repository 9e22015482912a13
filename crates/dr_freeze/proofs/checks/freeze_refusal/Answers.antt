use Rattle.std.proofs.Common.{ap, refl, sym, Some}
use Rattle.std.specs.Prelude.{is_some}
use Rattle.dr_ids.specs.declared.refusal.Kind.TheVariants.{Path as OfPath}
use Rattle.dr_model.specs.Refusals.{unknown}
use Rattle.dr_moves.specs.Here.{world_seen}
use Rattle.dr_moves.proofs.EntryLemmas.{refuses}
use Rattle.dr_freeze.specs.Checks.{has_path, thaw_checks, owner_in}
use Rattle.dr_freeze.proofs.OwnerLemmas.{checked-next}
use Rattle.dr_freeze.proofs.checks.freeze_refusal.Goals as goal

pub returns-in_default-clause-checked : goal.returns-in_default-clause-checked
returns-in_default-clause-checked g c r events armed ds =
    refuses armed (world_seen (g.P.Plant.state c.args.plant.now) c.args.config.now r events) (has_path c.args.l.0 c.args.m.0) (unknown OfPath) (Some (unknown OfPath)) _ (ap is_some (sym c.in_default.ensures)) refl

pub returns-clause-checked : goal.returns-clause-checked
returns-clause-checked g c r events =
    checked-next (world_seen (g.P.Plant.state c.args.plant.now) c.args.config.now r events) (has_path c.args.l.0 c.args.m.0) (unknown OfPath) (thaw_checks (owner_in c.args.config.now c.args.l.0)) c.thaw_refusal.result
    (ap is_some (sym c.in-Some.ensures)) (c.thaw_refusal.ensures.checked r events)
