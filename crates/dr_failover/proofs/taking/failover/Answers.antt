use Rattle.std.proofs.Common.{◌&&◌, true, ◌≡◌, [], ◌∷◌, refl, sym, subst}
use Rattle.std.specs.Prelude.{if◌then◌else◌}
use Rattle.dr_model.specs.declared.state.Part.{Part}
use Rattle.dr_model.specs.Carry.{now}
use Rattle.dr_model.specs.Control.{Volume}
use Rattle.dr_model.specs.Moves.{TakeOver, LeavePrimary}
use Rattle.dr_model.specs.PairEntries.{failover_entries}
use Rattle.dr_model.specs.Pairs.{is_secondary_of, is_kind, taken_over}
use Rattle.dr_model.specs.ReadStops.{Ends}
use Rattle.dr_gcopy.specs.Kinds.{part_of}
use Rattle.dr_volume.specs.View.{volume_seen}
use Rattle.dr_moves.specs.Here.{world_seen, armed_in, refusal_of}
use Rattle.dr_moves.proofs.EntryLemmas.{only-stops, counted-stop}
use Rattle.dr_moves.proofs.TurnLemmas.{ok-along}
use Rattle.dr_failover.specs.Outcomes.{IsTakenFrom}
use Rattle.dr_failover.proofs.TurnedLemmas.{taken-from, tracks-stay}
use Rattle.dr_failover.proofs.taking.failover.Goals as goal

pub returns-clause-carried : goal.returns-clause-carried
returns-clause-carried g c r =
    let s = g.P.Plant.state c.args.plant.now in
    let w = world_seen s c.args.config.now r c.args.journal.now.events in
    let u = world_seen (g.P.Plant.state c.take_over.new.plant) c.args.config.now r c.take_over.new.journal.events in
    subst (λ (k : Part). Ends (armed_in s) u (refusal_of c.take_over.result) w (failover_entries w.control c.args.b.0 c.args.a.0 k)) c.part_of.ensures.part
    (c.in_default.ensures.checked r c.args.journal.now.events (armed_in s) u (refusal_of c.take_over.result) _
    (subst (λ b. Ends (armed_in s) u (refusal_of c.take_over.result) w (now (if b then LeavePrimary c.args.b.0 else TakeOver c.args.b.0) ∷ [])) (sym c.requires.uncascaded) (c.take_over.ensures.carried r)))

pub returns-clause-unchanged : goal.returns-clause-unchanged
returns-clause-unchanged g c calm =
    only-stops _ c.take_over.result (volume_seen (g.P.Plant.state c.args.plant.now) c.args.config.now c.args.b.0).server c.take_over.ensures.refused calm

pub returns-clause-taken : goal.returns-clause-taken
returns-clause-taken g c =
    let f = (volume_seen (g.P.Plant.state c.args.plant.now) c.args.config.now c.args.b.0).fields in
    let is = subst (λ (k : Part). (is_secondary_of c.args.a.0 f && is_kind k f.secondary) ≡ true) c.part_of.ensures.part c.in_default.ensures.secondary in
    ok-along c.take_over.result c.take_over.ensures.moved (λ moved.
    subst (λ (x : Volume). IsTakenFrom c.args.a.0 (part_of c.args.kind) x.fields) (sym moved.volume) (taken-from c.args.a.0 (part_of c.args.kind) f is))

pub returns-clause-tracks : goal.returns-clause-tracks
returns-clause-tracks g c r sound =
    let s = g.P.Plant.state c.args.plant.now in
    tracks-stay s (g.P.Plant.state c.take_over.new.plant) c.args.config.now c.args.b.0 (taken_over (volume_seen s c.args.config.now c.args.b.0).fields) refl (sound.rows.images.blank c.args.b.0) c.take_over.ensures.old_or_new c.take_over.ensures.others

pub returns-clause-faults : goal.returns-clause-faults
returns-clause-faults g c =
    counted-stop c.take_over.result _ _ (volume_seen (g.P.Plant.state c.args.plant.now) c.args.config.now c.args.b.0).server c.take_over.ensures.faults c.take_over.ensures.refused
