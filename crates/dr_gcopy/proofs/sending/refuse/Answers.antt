use Rattle.std.proofs.Common.{◌∷◌, false, true, refl, sym, ◌∙◌, nat_lt, Some}
use Rattle.std.specs.Prelude.{if◌then◌else◌}
use Rattle.dr_model.specs.Carry.{now}
use Rattle.dr_model.specs.Moves.{Suspend}
use Rattle.dr_model.specs.PairEntries.{send_refusal, suspend_where, refuse_if}
use Rattle.dr_moves.specs.Here.{world_seen, armed_in}
use Rattle.dr_moves.proofs.EntryLemmas.{alike-advances, alike-halts}
use Rattle.dr_gcopy.proofs.SendLemmas.{suspends, refuse-ends, same-refusal, same-server}
use Rattle.dr_gcopy.proofs.sending.refuse.Goals as goal

pub returns-in-Ok-clause-fails : goal.returns-in-Ok-clause-fails
returns-in-Ok-clause-fails g c r ds =
    alike-advances (world_seen (g.P.Plant.state c.args.plant.now) c.args.config.now r c.args.journal.now.events) (world_seen (g.P.Plant.state c.suspend.new.plant) c.args.config.now r c.suspend.new.journal.events) (suspend_where (send_refusal c.args.a.0 c.args.b.0) c.args.a.0) (now (Suspend c.args.a.0 false)) (suspends (world_seen (g.P.Plant.state c.args.plant.now) c.args.config.now r c.args.journal.now.events) (send_refusal c.args.a.0 c.args.b.0) c.args.a.0 c.args.why (sym (c.requires.why r c.args.journal.now.events))) (c.in-Ok.ensures.advances r) (armed_in (g.P.Plant.state c.args.plant.now)) (world_seen (g.P.Plant.state c.suspend.new.plant) c.args.config.now r c.suspend.new.journal.events) (Some c.args.why) (refuse_if (send_refusal c.args.a.0 c.args.b.0) ∷ ds)
    (refuse-ends (armed_in (g.P.Plant.state c.args.plant.now)) (world_seen (g.P.Plant.state c.suspend.new.plant) c.args.config.now r c.suspend.new.journal.events) (send_refusal c.args.a.0 c.args.b.0) c.args.why
    (same-refusal c.args.a.0 c.args.b.0 (world_seen (g.P.Plant.state c.args.plant.now) c.args.config.now r c.args.journal.now.events).control (world_seen (g.P.Plant.state c.suspend.new.plant) c.args.config.now r c.suspend.new.journal.events).control refl (λ i server. if nat_lt server 8 then c.in-Ok.ensures.on i server else true) refl (same-server (g.P.Plant.state c.suspend.new.plant) (g.P.Plant.state c.args.plant.now) c.args.config.now c.args.a.0) (c.in-Ok.ensures.others c.args.b.0 (λ e. c.requires.apart (sym e))).volume ∙ sym (c.requires.why r c.args.journal.now.events)) ds)

pub returns-in-Err-clause-fails : goal.returns-in-Err-clause-fails
returns-in-Err-clause-fails g c r ds =
    alike-halts (armed_in (g.P.Plant.state c.args.plant.now)) (world_seen (g.P.Plant.state c.args.plant.now) c.args.config.now r c.args.journal.now.events) (world_seen (g.P.Plant.state c.suspend.new.plant) c.args.config.now r c.suspend.new.journal.events) (Some c.in-Err.stop) (suspend_where (send_refusal c.args.a.0 c.args.b.0) c.args.a.0) (now (Suspend c.args.a.0 false)) (suspends (world_seen (g.P.Plant.state c.args.plant.now) c.args.config.now r c.args.journal.now.events) (send_refusal c.args.a.0 c.args.b.0) c.args.a.0 c.args.why (sym (c.requires.why r c.args.journal.now.events))) (c.in-Err.ensures.halts r) (refuse_if (send_refusal c.args.a.0 c.args.b.0) ∷ ds)
