use Rattle.std.proofs.Common.{◌++◌, map, subst, sym}
use Rattle.std.proofs.lemmas.Result.{IfErr-weaker, IfOk-weaker}
use Rattle.dr_laws_runs.specs.Walks.{AnExchange, IsPartOf}
use Rattle.dr_model.specs.LineText.{step_text}
use Rattle.dr_model.specs.declared.step.Step.{Step}
use Rattle.dr_model.specs.Control.{World}
use Rattle.dr_model.specs.Forming.{Way}
use Rattle.dr_sweep.specs.Apart.{AddsParts, IsPartWay, drained_first}
use Rattle.dr_sweep.specs.Seen.{run_seen}
use Rattle.dr_sweep.proofs.TurnLemmas.{halts-then}
use Rattle.dr_sweep.proofs.WayLemmas.{asked-ended, asked-on}
use Rattle.dr_sweep.proofs.run.PointRun.ask.Goals as goal

pub returns-then-not-on-clause-adds : goal.returns-then-not-on-clause-adds
returns-then-not-on-clause-adds c =
    let old = run_seen c.args.self.now in let mid = run_seen c.drain_first.new.self in let way = drained_first c.args.s.0 c.args.asked.server.0 c.args.phase in
    asked-ended old c.args.s.0 c.args.asked.server.0 c.args.phase mid c.args.parts.now.items c.drain_first.new.parts.items
    (subst (AddsParts old mid c.args.s.0 c.args.parts.now.items c.drain_first.new.parts.items way) c.if-not-on.true c.in_ok-on.ensures.adds)

pub exchange_of-step-requires-clause-fits : goal.exchange_of-step-requires-clause-fits
exchange_of-step-requires-clause-fits c = c.requires.next.fits

pub carry_part-requires-clause-of_run : goal.carry_part-requires-clause-of_run
carry_part-requires-clause-of_run c = subst (IsPartOf c.args.s.0) (sym c.exchange_of-step.ensures.is) (AnExchange c.args.asked.name)

pub returns-clause-adds : goal.returns-clause-adds
returns-clause-adds c =
    let old = run_seen c.args.self.now in let mid = run_seen c.drain_first.new.self in let way = drained_first c.args.s.0 c.args.asked.server.0 c.args.phase in
    let first = subst (AddsParts old mid c.args.s.0 c.args.parts.now.items c.drain_first.new.parts.items way) c.if-not-on.false c.in_ok-on.ensures.adds in
    IfOk-weaker c.carry_part.result _ _
    (λ on adds. asked-on old c.args.s.0 c.args.asked.server.0 c.args.phase c.args.asked.name c.requires.next mid c.args.parts.now.items c.drain_first.new.parts.items first (run_seen c.carry_part.new.self) c.carry_part.new.parts.items on
    (subst (λ (step : Step). (way : World → Way) → IsPartWay mid step way → AddsParts mid (run_seen c.carry_part.new.self) c.args.s.0 c.drain_first.new.parts.items c.carry_part.new.parts.items way on) c.exchange_of-step.ensures.is adds)) c.carry_part.ensures.adds

pub returns-clause-fails : goal.returns-clause-fails
returns-clause-fails c =
    let old = run_seen c.args.self.now in let mid = run_seen c.drain_first.new.self in let way = drained_first c.args.s.0 c.args.asked.server.0 c.args.phase in
    let first = subst (AddsParts old mid c.args.s.0 c.args.parts.now.items c.drain_first.new.parts.items way) c.if-not-on.false c.in_ok-on.ensures.adds in
    IfErr-weaker c.carry_part.result _ _
    (λ fault fails began ls done ran.
    (let a = first began ls done ran in
    halts-then began ls done c.args.s.0 mid c.args.parts.now.items c.drain_first.new.parts.items _ a (run_seen c.carry_part.new.self) fault (fails began (ls ++ map step_text a.steps) (done ++ a.tasks) a.ran)))
    c.carry_part.ensures.fails
