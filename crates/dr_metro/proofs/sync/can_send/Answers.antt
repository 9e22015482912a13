use Rattle.std.proofs.Common.{ap, sym, ◌∙◌}
use Rattle.std.specs.Prelude.{is_some}
use Rattle.dr_model.specs.Entries.{secondary_state}
use Rattle.dr_model.specs.PairEntries.{reach_refusal, belongs_to}
use Rattle.dr_model.specs.Pairs.{is_secondary_of}
use Rattle.dr_moves.specs.Here.{world_seen}
use Rattle.dr_metro.proofs.SyncLemmas.{unreached-parts, reached-parts, none-gives}
use Rattle.dr_metro.proofs.sync.can_send.Goals as goal

pub returns-then-is_some-clause-sends : goal.returns-then-is_some-clause-sends
returns-then-is_some-clause-sends g c r events =
    let k = (world_seen (g.P.Plant.state c.args.plant.now) c.args.config.now r events).control in
    let v = c.args.v.0 in
    let u = c.args.u.0 in
    unreached-parts (reach_refusal v u k) (belongs_to v u k) (secondary_state k u) (ap is_some (sym (c.reach_refusal.ensures.refusal r events)) ∙ sym c.is_some.ensures ∙ c.if-is_some.true)

pub returns-then-is_some-clause-reached : goal.returns-then-is_some-clause-reached
returns-then-is_some-clause-reached g c = λ never. absurd cc

pub returns-clause-sends : goal.returns-clause-sends
returns-clause-sends g c r events =
    let k = (world_seen (g.P.Plant.state c.args.plant.now) c.args.config.now r events).control in
    let v = c.args.v.0 in
    let u = c.args.u.0 in
    c.is_secondary_of.ensures
    ∙ ap (is_secondary_of v) c.requires.says.fields
    ∙ reached-parts (reach_refusal v u k) (belongs_to v u k) (secondary_state k u) (ap is_some (sym (c.reach_refusal.ensures.refusal r events)) ∙ sym c.is_some.ensures ∙ c.if-is_some.false)

pub returns-clause-reached : goal.returns-clause-reached
returns-clause-reached g c = λ sends. none-gives c.reach_refusal.result (sym c.is_some.ensures ∙ c.if-is_some.false) c.reach_refusal.ensures.running
