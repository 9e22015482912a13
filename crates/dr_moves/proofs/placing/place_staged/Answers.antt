use Rattle.std.proofs.Common.{arith, refl, sym, subst, Some}
use Rattle.dr_ids.specs.declared.refusal.Refusal.{Refusal}
use Rattle.dr_moves.specs.Here.{world_seen, armed_in}
use Rattle.dr_moves.specs.Turns.{Halts}
use Rattle.dr_moves.proofs.PlacingLemmas.{placed-advances, placed-halts}
use Rattle.dr_moves.proofs.placing.place_staged.Goals as goal

pub returns-in-Ok-clause-advances : goal.returns-in-Ok-clause-advances
returns-in-Ok-clause-advances g c r d comes =
    placed-advances (g.P.Plant.state c.args.plant.now) (g.P.Plant.state c.redo.new.plant) c.args.config.now r c.args.journal.now.events c.args.v.0 c.requires.running d comes (c.in-Ok.ensures.exact (record r { events = c.args.journal.now.events }))

pub returns-in-Ok-clause-stayed : goal.returns-in-Ok-clause-stayed
returns-in-Ok-clause-stayed g c = record {
  stands = c.redo.ensures.stands;
  unarmed = c.redo.ensures.unarmed;
  faults = c.in-Ok.ensures.no_fault;
  on = c.in-Ok.ensures.on;
  off = tt;
  room = omega arith;
  spare = refl;
}

pub returns-in-Err-clause-halts : goal.returns-in-Err-clause-halts
returns-in-Err-clause-halts g c r d comes =
    let s = g.P.Plant.state c.args.plant.now in
    let t = c.args.config.now in
    let ends = placed-halts s (g.P.Plant.state c.redo.new.plant) t r c.args.journal.now.events c.args.v.0 c.requires.running d comes c.gone_off.new.journal.events (c.gone_off.ensures.known s) (c.in-Err.ensures.exact (record r { events = c.args.journal.now.events })) (c.gone_off.ensures.events s) in
    subst (λ (e : Refusal). Halts (armed_in s) (world_seen s t r c.args.journal.now.events) d (world_seen (g.P.Plant.state c.redo.new.plant) t r c.gone_off.new.journal.events) (Some e)) (sym (c.gone_off.ensures.refusal s)) ends

pub returns-in-Err-clause-stayed : goal.returns-in-Err-clause-stayed
returns-in-Err-clause-stayed g c = record {
  stands = c.redo.ensures.stands;
  unarmed = c.redo.ensures.unarmed;
  faults = let e = c.in-Err.ensures.fault in omega (arith, e);
  on = tt;
  off = c.in-Err.ensures.off;
  room = let e = c.gone_off.ensures.room in omega (arith, e);
  spare = c.gone_off.ensures.spare;
}
