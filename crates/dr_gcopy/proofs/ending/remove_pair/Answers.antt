use Rattle.std.proofs.Common.{Bool, refl, sym, subst, Some, [], ◌∷◌}
use Rattle.dr_model.specs.Carry.{now}
use Rattle.dr_model.specs.Moves.{DropPrimary}
use Rattle.dr_model.specs.PairEntries.{let_go, remove_entries}
use Rattle.dr_model.specs.ReadStops.{Ends}
use Rattle.dr_moves.specs.Here.{world_seen, armed_in, refusal_of}
use Rattle.dr_moves.proofs.EntryLemmas.{act-ends, only-stops, ends-by}
use Rattle.dr_moves.proofs.TurnLemmas.{ok-along, err-along}
use Rattle.dr_gcopy.proofs.PairChecks.{unless-stopped}
use Rattle.dr_gcopy.proofs.ending.remove_pair.Goals as goal

pub returns-then-source_only-clause-carried : goal.returns-then-source_only-clause-carried
returns-then-source_only-clause-carried g c r =
    subst (λ (b : Bool). Ends (armed_in (g.P.Plant.state c.args.plant.now)) (world_seen (g.P.Plant.state c.act.new.plant) c.args.config.now r c.act.new.journal.events) (refusal_of c.act.result) (world_seen (g.P.Plant.state c.args.plant.now) c.args.config.now r c.args.journal.now.events) (remove_entries (world_seen (g.P.Plant.state c.args.plant.now) c.args.config.now r c.args.journal.now.events).control c.args.a.0 c.args.b.0 b)) (sym c.if-source_only.true)
    (c.in_default.ensures.checked r c.args.journal.now.events (armed_in (g.P.Plant.state c.args.plant.now)) (world_seen (g.P.Plant.state c.act.new.plant) c.args.config.now r c.act.new.journal.events) (refusal_of c.act.result) _
    (act-ends c.act.result (armed_in (g.P.Plant.state c.args.plant.now)) (λ r. (world_seen (g.P.Plant.state c.args.plant.now) c.args.config.now r c.args.journal.now.events)) (λ r. (world_seen (g.P.Plant.state c.act.new.plant) c.args.config.now r c.act.new.journal.events)) (now (DropPrimary c.args.a.0)) (ok-along c.act.result c.act.ensures.acted.advances (λ goes r. goes r (now (DropPrimary c.args.a.0)) refl)) (err-along c.act.result c.act.ensures.acted.halts c.act.ensures.acted.refused (λ ends _ r. ends r (now (DropPrimary c.args.a.0)) refl)) r))

pub returns-then-source_only-clause-unchanged : goal.returns-then-source_only-clause-unchanged
returns-then-source_only-clause-unchanged g c calm = only-stops _ c.act.result _ c.act.ensures.acted.refused calm

pub returns-then-source_only-clause-others : goal.returns-then-source_only-clause-others
returns-then-source_only-clause-others g c q na nb = c.act.ensures.acted.others q na

pub returns-in-Some-contact_refusal-clause-carried : goal.returns-in-Some-contact_refusal-clause-carried
returns-in-Some-contact_refusal-clause-carried g c r =
    subst (λ (b : Bool). Ends (armed_in (g.P.Plant.state c.args.plant.now)) (world_seen (g.P.Plant.state c.args.plant.now) c.args.config.now r c.args.journal.now.events) (Some c.in-Some-contact_refusal.why) (world_seen (g.P.Plant.state c.args.plant.now) c.args.config.now r c.args.journal.now.events) (remove_entries (world_seen (g.P.Plant.state c.args.plant.now) c.args.config.now r c.args.journal.now.events).control c.args.a.0 c.args.b.0 b)) (sym c.if-source_only.false)
    (c.in_default.ensures.checked r c.args.journal.now.events (armed_in (g.P.Plant.state c.args.plant.now)) (world_seen (g.P.Plant.state c.args.plant.now) c.args.config.now r c.args.journal.now.events) (Some c.in-Some-contact_refusal.why) _
    (c.in-Some-contact_refusal.ensures.checked r c.args.journal.now.events (armed_in (g.P.Plant.state c.args.plant.now)) _))

pub returns-clause-carried : goal.returns-clause-carried
returns-clause-carried g c r =
    subst (λ (b : Bool). Ends (armed_in (g.P.Plant.state c.args.plant.now)) (world_seen (g.P.Plant.state c.carry_both.new.plant) c.args.config.now r c.carry_both.new.journal.events) (refusal_of c.carry_both.result) (world_seen (g.P.Plant.state c.args.plant.now) c.args.config.now r c.args.journal.now.events) (remove_entries (world_seen (g.P.Plant.state c.args.plant.now) c.args.config.now r c.args.journal.now.events).control c.args.a.0 c.args.b.0 b)) (sym c.if-source_only.false)
    (c.in_default.ensures.checked r c.args.journal.now.events (armed_in (g.P.Plant.state c.args.plant.now)) (world_seen (g.P.Plant.state c.carry_both.new.plant) c.args.config.now r c.carry_both.new.journal.events) (refusal_of c.carry_both.result) _
    (c.in_default-contact_refusal.ensures.checked r c.args.journal.now.events (armed_in (g.P.Plant.state c.args.plant.now)) (world_seen (g.P.Plant.state c.carry_both.new.plant) c.args.config.now r c.carry_both.new.journal.events) (refusal_of c.carry_both.result) _
    (ends-by c.carry_both.result (armed_in (g.P.Plant.state c.args.plant.now)) (λ r. (world_seen (g.P.Plant.state c.args.plant.now) c.args.config.now r c.args.journal.now.events)) (λ r. (world_seen (g.P.Plant.state c.carry_both.new.plant) c.args.config.now r c.carry_both.new.journal.events)) (λ r. now (DropPrimary c.args.a.0) ∷ let_go c.args.a.0 c.args.b.0 ∷ []) c.carry_both.ensures.leads c.carry_both.ensures.fails r)))

pub returns-clause-unchanged : goal.returns-clause-unchanged
returns-clause-unchanged g c calm = unless-stopped _ c.carry_both.result c.carry_both.ensures.stops calm
