use Rattle.std.proofs.Common.{[], Option, ap, sym, ◌∙◌}
use Rattle.std.specs.Option.{option_or}
use Rattle.dr_model.specs.Messages.{no_flight}
use Rattle.dr_ids.specs.declared.refusal.Refusal.{Refusal}
use Rattle.dr_volume.specs.View.{Rest, volume_seen}
use Rattle.dr_moves.specs.Here.{world_seen}
use Rattle.dr_gcopy.specs.Sending.{stranger_refusal}
use Rattle.dr_gcopy.proofs.SendLemmas.{on-of-seen, reached-on}
use Rattle.dr_gcopy.proofs.sending.send_refusal.Goals as goal
use Rattle.dr_gcopy.proofs.ReachLemmas.{server-low}
use Rattle.dr_gcopy.proofs.PairChecks.{on-none}

pub returns-in-Some-clause-refusal : goal.returns-in-Some-clause-refusal
returns-in-Some-clause-refusal g c r events =
    ap (λ (o : Option Refusal). option_or o (stranger_refusal c.args.a.0 c.args.b.0 (world_seen (g.P.Plant.state c.args.plant.now) c.args.config.now r events).control)) (c.in-Some.ensures.refusal r events)

pub returns-clause-refusal : goal.returns-clause-refusal
returns-clause-refusal g c r events =
    c.stranger_refusal.ensures.refusal r events ∙ ap (λ (o : Option Refusal). option_or o (stranger_refusal c.args.a.0 c.args.b.0 (world_seen (g.P.Plant.state c.args.plant.now) c.args.config.now r events).control)) (c.in_default.ensures.refusal r events)

pub returns-clause-reached : goal.returns-clause-reached
returns-clause-reached g c =
    let r : Rest = record { issued = 0; pending = []; sessions = []; flight = no_flight; events = [] } in
    (on-none c.stranger_refusal.result _ (on-of-seen (g.P.Plant.state c.args.plant.now) (volume_seen (g.P.Plant.state c.args.plant.now) c.args.config.now c.args.b.0).server (server-low (g.P.Plant.state c.args.plant.now) c.args.config.now c.args.b.0 c.requires.stands c.requires.to) (reached-on c.args.a.0 c.args.b.0 (world_seen (g.P.Plant.state c.args.plant.now) c.args.config.now r []).control (sym (c.in_default.ensures.refusal r [])))))
