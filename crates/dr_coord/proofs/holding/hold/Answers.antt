use Rattle.std.proofs.Common.{◌&&◌, nat_eq, sym, ap, ◌∙◌, subst, ◌≤◌, ◌∷◌, Some}
use Rattle.dr_model.specs.SessionEntries.{hold_refusal, stale_refusal, hold_on}
use Rattle.dr_volume.specs.declared.head.Head.{Head}
use Rattle.dr_moves.specs.Coming.{MayComeBy, most_of}
use Rattle.dr_moves.specs.Here.{world_seen, armed_in}
use Rattle.dr_coord.specs.Changes.{hold_next}
use Rattle.dr_coord.proofs.ActLemmas.{two-checked, hold-may, hold-most, acted-kept, acted-heard, acted-others, acted-unchanged, acted-leads, acted-fails}
use Rattle.dr_coord.proofs.holding.hold.Goals as goal

pub returns-in-Some-clause-fails : goal.returns-in-Some-clause-fails
returns-in-Some-clause-fails g c r so ds =
    let s = g.P.Plant.state c.args.plant.now in
    let q = g.B.Beside.rest c.args.beside.now r in
    two-checked (world_seen s c.args.config.now q c.args.journal.now.events) (hold_refusal c.args.m.now.a.0 c.args.m.now.b.0) (stale_refusal c.args.m.now.a.0 c.args.n) (Some c.in-Some.why) (c.in-Some.ensures.refusal q c.args.journal.now.events) (armed_in s) (hold_on c.args.s.0 c.args.m.now.a.0 c.args.n ∷ ds)

pub act_beside-requires-clause-may : goal.act_beside-requires-clause-may
act_beside-requires-clause-may g c =
    let s = g.P.Plant.state c.args.plant.now in
    let next = c.hold_next-next.ensures in
    subst (λ z. MayComeBy (g.B.Beside.takes c.args.beside.now) s c.args.config.now z) (sym next)
    (hold-may (g.B.Beside.takes c.args.beside.now) s c.args.config.now (c.peek_head-head.result.recording && nat_eq c.peek_head-head.result.attempt c.args.n) c.args.first c.args.m.now.a c.args.s c.args.n c.requires.defined c.requires.running c.in_default.ensures.part c.requires.takes)

pub act_beside-requires-clause-room : goal.act_beside-requires-clause-room
act_beside-requires-clause-room g c =
    let s = g.P.Plant.state c.args.plant.now in
    subst (λ z. most_of z s c.args.config.now ≤ c.args.journal.now.spare) (sym c.hold_next-next.ensures)
    (hold-most s c.args.config.now (c.peek_head-head.result.recording && nat_eq c.peek_head-head.result.attempt c.args.n) c.args.first c.args.m.now.a c.args.s c.args.n c.args.journal.now.spare c.requires.room)

pub returns-clause-leads : goal.returns-clause-leads
returns-clause-leads g c =
    acted-leads g.B.Beside.after g.B.Beside.rest c.args.beside.now c.act_beside.new.beside (g.P.Plant.state c.args.plant.now) (g.P.Plant.state c.act_beside.new.plant) c.args.config.now c.args.journal.now c.act_beside.new.journal c.args.m.now.a c.args.s c.args.n c.args.first c.hold_next-next.result
    (c.hold_next-next.ensures ∙ ap (λ (f : Head). hold_next (f.recording && nat_eq f.attempt c.args.n) c.args.first c.args.m.now.a c.args.s c.args.n) c.peek_head-head.ensures) c.act_beside.result c.act_beside.ensures.acted c.args.m.now.b.0 (λ r. c.in_default.ensures.refusal (g.B.Beside.rest c.args.beside.now r) c.args.journal.now.events)

pub returns-clause-fails : goal.returns-clause-fails
returns-clause-fails g c =
    acted-fails g.B.Beside.after g.B.Beside.rest c.args.beside.now c.act_beside.new.beside (g.P.Plant.state c.args.plant.now) (g.P.Plant.state c.act_beside.new.plant) c.args.config.now c.args.journal.now c.act_beside.new.journal c.args.m.now.a c.args.s c.args.n c.args.first c.hold_next-next.result
    (c.hold_next-next.ensures ∙ ap (λ (f : Head). hold_next (f.recording && nat_eq f.attempt c.args.n) c.args.first c.args.m.now.a c.args.s c.args.n) c.peek_head-head.ensures) c.act_beside.result c.act_beside.ensures.acted c.args.m.now.b.0 (λ r. c.in_default.ensures.refusal (g.B.Beside.rest c.args.beside.now r) c.args.journal.now.events)

pub returns-clause-unchanged : goal.returns-clause-unchanged
returns-clause-unchanged g c calm =
    acted-unchanged g.B.Beside.after g.B.Beside.rest c.args.beside.now c.act_beside.new.beside (g.P.Plant.state c.args.plant.now) (g.P.Plant.state c.act_beside.new.plant) c.args.config.now c.args.journal.now c.act_beside.new.journal c.args.m.now.a c.args.s c.args.n c.args.first c.hold_next-next.result
    (c.hold_next-next.ensures ∙ ap (λ (f : Head). hold_next (f.recording && nat_eq f.attempt c.args.n) c.args.first c.args.m.now.a c.args.s c.args.n) c.peek_head-head.ensures) c.act_beside.result c.act_beside.ensures.acted _ calm

pub returns-clause-heard : goal.returns-clause-heard
returns-clause-heard g c =
    acted-heard g.B.Beside.after g.B.Beside.rest c.args.beside.now c.act_beside.new.beside (g.P.Plant.state c.args.plant.now) (g.P.Plant.state c.act_beside.new.plant) c.args.config.now c.args.journal.now c.act_beside.new.journal c.args.m.now.a c.args.s c.args.n c.args.first c.hold_next-next.result
    (c.hold_next-next.ensures ∙ ap (λ (f : Head). hold_next (f.recording && nat_eq f.attempt c.args.n) c.args.first c.args.m.now.a c.args.s c.args.n) c.peek_head-head.ensures) c.act_beside.result c.act_beside.ensures.acted

pub returns-clause-kept : goal.returns-clause-kept
returns-clause-kept g c =
    acted-kept g.B.Beside.after g.B.Beside.rest c.args.beside.now c.act_beside.new.beside (g.P.Plant.state c.args.plant.now) (g.P.Plant.state c.act_beside.new.plant) c.args.config.now c.args.journal.now c.act_beside.new.journal c.args.m.now.a c.args.s c.args.n c.args.first c.hold_next-next.result
    (c.hold_next-next.ensures ∙ ap (λ (f : Head). hold_next (f.recording && nat_eq f.attempt c.args.n) c.args.first c.args.m.now.a c.args.s c.args.n) c.peek_head-head.ensures) c.act_beside.result c.act_beside.ensures.acted

pub returns-clause-others : goal.returns-clause-others
returns-clause-others g c =
    acted-others g.B.Beside.after g.B.Beside.rest c.args.beside.now c.act_beside.new.beside (g.P.Plant.state c.args.plant.now) (g.P.Plant.state c.act_beside.new.plant) c.args.config.now c.args.journal.now c.act_beside.new.journal c.args.m.now.a c.args.s c.args.n c.args.first c.hold_next-next.result
    (c.hold_next-next.ensures ∙ ap (λ (f : Head). hold_next (f.recording && nat_eq f.attempt c.args.n) c.args.first c.args.m.now.a c.args.s c.args.n) c.peek_head-head.ensures) c.act_beside.result c.act_beside.ensures.acted
