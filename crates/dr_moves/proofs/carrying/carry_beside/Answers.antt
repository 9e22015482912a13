use Rattle.std.proofs.Common.{◌++◌, ◌∷◌, true, false, arith, length, ap, sym, subst, Some}
use Rattle.std.specs.Prelude.{Result, Ok, OnErr, is_ok}
use Rattle.std.proofs.lemmas.List.{nil_from_length}
use Rattle.dr_ids.specs.declared.refusal.Refusal.{Refusal}
use Rattle.dr_model.specs.ReadStops.{Ends}
use Rattle.dr_moves.specs.Here.{world_seen, armed_in, refusal_of}
use Rattle.dr_moves.proofs.ActedLemmas.{err-is}
use Rattle.dr_logic.proofs.Results.{err-always}
use Rattle.dr_moves.proofs.KeptLemmas.{wider-armed, kept-then}
use Rattle.dr_facts.proofs.Ends.{ends-wider}
use Rattle.dr_moves.proofs.carrying.carry_beside.Goals as goal

pub returns-in_err-act_beside-clause-fails : goal.returns-in_err-act_beside-clause-fails
returns-in_err-act_beside-clause-fails g c =
    let b = g.B.Beside in
    let s0 = g.P.Plant.state c.args.plant.now in
    let s = g.P.Plant.state c.loop.plant in
    let t = c.args.config.now in
    let e = c.in_err-act_beside.field-0.0 in
    let first = g.E.Entries.first c.loop.entries t in
    let more = g.E.Entries.left c.next-next.new.self t in
    err-always c.from_residual.result (λ r ds.
    let w0 = world_seen s0 t (b.rest c.args.beside.now r) c.args.journal.now.events in
    let w = world_seen s t (b.rest c.loop.beside r) c.loop.journal.events in
    let u = world_seen (g.P.Plant.state c.act_beside.new.plant) t (b.rest c.act_beside.new.beside r) c.act_beside.new.journal.events in
    subst (λ q. Ends (armed_in s0) u q w0 (g.E.Entries.left c.args.entries.now t ++ ds)) (sym (ap refusal_of (err-is c.from_residual.result e c.from_residual.ensures.0 c.from_residual.ensures.1)))
    (c.loop.invariant.left r (armed_in s0) u (Some e) ds
    (subst (λ es. Ends (armed_in s0) u (Some e) w (es ++ ds)) (sym c.next-next.ensures.goes)
    (ends-wider (armed_in s) (armed_in s0) (wider-armed s0 s c.loop.invariant.kept.unarmed) u (Some e) w (first ∷ (more ++ ds))
    (c.in_err-act_beside.ensures.acted.halts r first (c.next-next.ensures.comes r c.loop.journal.events) (more ++ ds))))))

pub returns-in_err-act_beside-clause-makes : goal.returns-in_err-act_beside-clause-makes
returns-in_err-act_beside-clause-makes g c =
    let s = g.P.Plant.state c.loop.plant in
    let s0 = g.P.Plant.state c.args.plant.now in
    let u = g.P.Plant.state c.act_beside.new.plant in
    let y = c.act_beside.new.beside in
    let t = c.args.config.now in
    let cut = c.in_err-act_beside.ensures.acted.cut in
    subst (λ (r : Result (Unit {0}) Refusal). g.E.Entries.makes c.args.entries.now (is_ok r) s0 c.args.beside.now u y t) (sym (err-is c.from_residual.result c.in_err-act_beside.field-0.0 c.from_residual.ensures.0 c.from_residual.ensures.1))
    (c.loop.invariant.makes false u y (subst (λ z. g.E.Entries.makes c.loop.entries false s c.loop.beside u z t) (sym cut.heard) (c.next-next.ensures.cut u cut.counts cut.cut)))

pub returns-in_err-act_beside-clause-refused : goal.returns-in_err-act_beside-clause-refused
returns-in_err-act_beside-clause-refused g c =
    let e = c.in_err-act_beside.field-0.0 in
    subst (λ (r : Result (Unit {0}) Refusal). OnErr r (g.E.Entries.refuses c.args.entries.now c.args.config.now (refusal_of r))) (sym (err-is c.from_residual.result e c.from_residual.ensures.0 c.from_residual.ensures.1))
    (c.loop.invariant.refuses (Some e) (c.next-next.ensures.refused (Some e) c.in_err-act_beside.ensures.acted.refused))

pub returns-clause-makes : goal.returns-clause-makes
returns-clause-makes g c =
    let t = c.args.config.now in
    let u = g.P.Plant.state c.loop.plant in
    let over = nil_from_length (g.E.Entries.left c.loop.entries t) (let l = c.loop in omega (arith, l)) in
    c.loop.invariant.makes true u c.loop.beside (g.met.E.Entries.none_left c.loop.entries u c.loop.beside t over)

pub loop-preserved : goal.loop-preserved
loop-preserved g c =
    let b = g.B.Beside in
    let s0 = g.P.Plant.state c.args.plant.now in
    let s = g.P.Plant.state c.loop.plant in
    let u = g.P.Plant.state c.act_beside.new.plant in
    let y = c.act_beside.new.beside in
    let t = c.args.config.now in
    let first = g.E.Entries.first c.loop.entries t in
    let more = g.E.Entries.left c.next-next.new.self t in
    let acted = c.in_ok-act_beside.ensures.acted in
    let before = c.loop.invariant.room in
    let cost = c.next-next.ensures.room in
    let most = c.loop.invariant.most in
    let costs = c.next-next.ensures.most in
    let spent = acted.room_left in
    record {
      left = λ r armed w q ds ends. c.loop.invariant.left r armed w q ds
          (subst (λ es. Ends armed w q (world_seen s t (b.rest c.loop.beside r) c.loop.journal.events) (es ++ ds)) (sym c.next-next.ensures.goes)
          (acted.advances r first (c.next-next.ensures.comes r c.loop.journal.events) armed w q (more ++ ds) ends));
      count = let n = c.loop.invariant.count in let goes = ap length c.next-next.ensures.goes in omega (arith, n, goes);
      stands = subst (λ z. g.E.Entries.stands c.next-next.new.self u z t) (sym acted.heard) (c.next-next.ensures.stands u acted.went);
      makes = λ over w z made. c.loop.invariant.makes over w z (c.next-next.ensures.goes_on over u w z acted.went (subst (λ k. g.E.Entries.makes c.next-next.new.self over u k w z t) acted.heard made));
      kept = kept-then s0 s u t c.args.journal.now c.loop.journal c.act_beside.new.journal _ _ _ (Ok tt) c.loop.invariant.kept acted.kept (omega (arith, most, costs, spent));
      room = omega (arith, before, cost, spent);
      most = omega (arith, most, costs, spent);
      refuses = λ q later. c.loop.invariant.refuses q (c.next-next.ensures.later q later);
      no_more = let fewer = c.loop.invariant.no_more in omega (arith, fewer, spent);
    }
