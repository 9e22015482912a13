use Rattle.std.proofs.Common.{◌≡◌, refl, ap, subst, arith, length}
use Rattle.std.specs.Str.Lines.{lines}
use Rattle.std.proofs.lemmas.Bool.Decides.{nat_tests}
use Rattle.std.proofs.lemmas.List.{nil_from_length}
use Rattle.dr_steps.specs.Here.{here}
use Rattle.dr_top.proofs.LeadLemmas.{reached-led}
use Rattle.dr_top.proofs.TextLemmas.{Through, through-none, through-few, through-all, through-next, through-halted}
use Rattle.dr_top.proofs.carry.carry_text.Goals as goal

pub loop-rest-init : goal.loop-rest-init
loop-rest-init g c =
    let w = here (g.P.Plant.state c.args.plant.now) c.args.config.now c.args.tables.now c.args.journal.now.events in
    record {
      through = through-none w (g.P.Plant.state c.args.plant.now).block c.args.first (lines c.args.text.now) w (g.P.Plant.state c.args.plant.now).block refl refl;
      ready = c.requires.ready;
      faults = λ f h. h;
      room = c.requires.room;
    }

pub carry_line-requires-clause-reached : goal.carry_line-requires-clause-reached
carry_line-requires-clause-reached g c = reached-led _ _ _ _ c.requires.reached c.loop-rest.invariant.through.led

pub overflow_add-number : goal.overflow_add-number
overflow_add-number g c =
    let few = c.requires.few in
    let count = through-few _ _ c.args.first (lines c.args.text.now) c.loop-rest.number (lines c.loop-rest.rest.now) _ _ c.loop-rest.invariant.through in
    let one = ap (λ ls. length ls) c.split_line.ensures.lines in
    omega (arith, few, count, one)

pub loop-rest-preserved : goal.loop-rest-preserved
loop-rest-preserved g c =
    let w0 = here (g.P.Plant.state c.args.plant.now) c.args.config.now c.args.tables.now c.args.journal.now.events in
    let d0 = (g.P.Plant.state c.args.plant.now).block in
    let w = here (g.P.Plant.state c.loop-rest.plant) c.loop-rest.config c.loop-rest.tables c.loop-rest.journal.events in
    let u = here (g.P.Plant.state c.carry_line.new.plant) c.carry_line.new.config c.carry_line.new.tables c.carry_line.new.journal.events in
    let t = subst (λ xs. Through w0 d0 c.args.first (lines c.args.text.now) c.loop-rest.number xs w (g.P.Plant.state c.loop-rest.plant).block) c.split_line.ensures.lines c.loop-rest.invariant.through in
    record {
      through = through-next w0 d0 c.args.first (lines c.args.text.now) c.loop-rest.number c.split_line.result.0.now (lines c.split_line.result.1.now) w u (g.P.Plant.state c.loop-rest.plant).block (g.P.Plant.state c.carry_line.new.plant).block t c.in_ok-carry_line.ensures.goes;
      ready = c.in_ok-carry_line.ensures.ready;
      faults = λ f h. c.in_ok-carry_line.ensures.faults f (c.loop-rest.invariant.faults f h);
      room = c.in_ok-carry_line.ensures.room;
    }

pub returns-clause-goes : goal.returns-clause-goes
returns-clause-goes g c =
    let none : length c.loop-rest.rest.now ≡ 0 = (let is = c.loop-rest-test.ensures in grind (arith, nat_tests, is)) in
    through-all _ _ c.args.first (lines c.args.text.now) c.loop-rest.number (lines c.loop-rest.rest.now) _ _ (ap lines (nil_from_length c.loop-rest.rest.now none)) c.loop-rest.invariant.through

pub returns-in_err-carry_line-clause-goes : goal.returns-in_err-carry_line-clause-goes
returns-in_err-carry_line-clause-goes g c =
    let w0 = here (g.P.Plant.state c.args.plant.now) c.args.config.now c.args.tables.now c.args.journal.now.events in
    let d0 = (g.P.Plant.state c.args.plant.now).block in
    let w = here (g.P.Plant.state c.loop-rest.plant) c.loop-rest.config c.loop-rest.tables c.loop-rest.journal.events in
    let u = here (g.P.Plant.state c.carry_line.new.plant) c.carry_line.new.config c.carry_line.new.tables c.carry_line.new.journal.events in
    let t = subst (λ xs. Through w0 d0 c.args.first (lines c.args.text.now) c.loop-rest.number xs w (g.P.Plant.state c.loop-rest.plant).block) c.split_line.ensures.lines c.loop-rest.invariant.through in
    through-halted w0 d0 c.args.first (lines c.args.text.now) c.loop-rest.number c.split_line.result.0.now (lines c.split_line.result.1.now) w u (g.P.Plant.state c.loop-rest.plant).block (g.P.Plant.state c.carry_line.new.plant).block t
    c.in_err-carry_line.field-0.0 c.from_residual.result c.from_residual.ensures.1 c.in_err-carry_line.ensures.goes

pub returns-in_err-carry_line-clause-faults : goal.returns-in_err-carry_line-clause-faults
returns-in_err-carry_line-clause-faults g c f h = c.in_err-carry_line.ensures.faults f (c.loop-rest.invariant.faults f h)
