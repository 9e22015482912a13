use Rattle.std.proofs.Common.{Option, None, Some, nat_eq, nat_lt, ap, ◌∙◌, ◌&&◌}
use Rattle.std.specs.Prelude.{if◌then◌else◌}
use Rattle.std.specs.Option.{option_or}
use Rattle.dr_ids.specs.declared.refusal.Refusal.{Refusal}
use Rattle.dr_ids.specs.declared.refusal.Refusal.TheVariants.{Stale}
use Rattle.dr_model.specs.SessionEntries.{stale_refusal}
use Rattle.dr_volume.specs.declared.head.Head.{Head}
use Rattle.dr_moves.specs.Here.{world_seen}
use Rattle.dr_coord.proofs.checks.hold_refusal.Goals as goal

pub returns-in-Some-clause-refusal : goal.returns-in-Some-clause-refusal
returns-in-Some-clause-refusal g c r events =
    ap (λ (o : Option Refusal). option_or o (stale_refusal c.args.a.0 c.args.n (world_seen (g.P.Plant.state c.args.plant.now) c.args.config.now r events).control)) (c.in-Some.ensures.refusal r events)

pub returns-clause-refusal : goal.returns-clause-refusal
returns-clause-refusal g c r events =
    c.stale_if.ensures.refusal
    ∙ ap (λ (f : Head). if f.recording && nat_eq f.attempt c.args.n then None else if nat_lt f.attempt c.args.n then None else Some (Stale c.args.n f.attempt)) c.requires.head
    ∙ ap (λ (o : Option Refusal). option_or o (stale_refusal c.args.a.0 c.args.n (world_seen (g.P.Plant.state c.args.plant.now) c.args.config.now r events).control)) (c.in_default.ensures.refusal r events)
