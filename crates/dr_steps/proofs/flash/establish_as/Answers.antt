use Rattle.std.proofs.Common.{sym, subst}
use Rattle.dr_model.specs.Plans.{establish_entries}
use Rattle.dr_model.specs.ReadStops.{Ends}
use Rattle.dr_moves.specs.Here.{world_seen, armed_in, refusal_of}
use Rattle.dr_moves.specs.Options.{choices}
use Rattle.dr_steps.proofs.flash.establish_as.Goals as goal

pub returns-then-freeze-clause-carried : goal.returns-then-freeze-clause-carried
returns-then-freeze-clause-carried g c r =
    let s = g.P.Plant.state c.args.plant.now in
    let t = c.args.config.now in
    let w = world_seen s t r c.args.journal.now.events in
    let last = world_seen (g.P.Plant.state c.freeze_flash.new.plant) t r c.freeze_flash.new.journal.events in
    subst (λ b. Ends (armed_in s) last (refusal_of c.freeze_flash.result) w (establish_entries w.control c.args.s.0 c.args.t.0 b (choices c.args.options.now))) (sym c.if-freeze.true) (c.freeze_flash.ensures.carried r)

pub returns-else-freeze-clause-carried : goal.returns-else-freeze-clause-carried
returns-else-freeze-clause-carried g c r =
    let s = g.P.Plant.state c.args.plant.now in
    let t = c.args.config.now in
    let w = world_seen s t r c.args.journal.now.events in
    let last = world_seen (g.P.Plant.state c.establish.new.plant) t r c.establish.new.journal.events in
    subst (λ b. Ends (armed_in s) last (refusal_of c.establish.result) w (establish_entries w.control c.args.s.0 c.args.t.0 b (choices c.args.options.now))) (sym c.if-freeze.false) (c.establish.ensures.carried r)
