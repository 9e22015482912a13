use Rattle.std.proofs.Common.{refl, sym, subst}
use Rattle.dr_top.specs.Outcome.{IsRun}
use Rattle.dr_top.specs.Trials.{IsTrial}
use Rattle.dr_top.specs.declared.status.Status.TheVariants.{NoMemory}
use Rattle.dr_top.proofs.TopLemmas.{run-unbegun, offline-unbegun}
use Rattle.dr_top.proofs.TrialLemmas.{trial-unbegun}
use Rattle.dr_top.proofs.top.drsim.Goals as goal

pub returns-in-Err-clause-run : goal.returns-in-Err-clause-run
returns-in-Err-clause-run g c is =
    let s = g.P.Plant.state c.args.plant.now in
    subst (λ events. IsRun g.S.Source.left g.K.Sink.written c.args.source.now c.args.source.now c.args.sink.now c.args.sink.now g.S.Source.faults g.K.Sink.faults NoMemory events s s) (sym c.requires.empty)
    (run-unbegun g.S.Source.left g.K.Sink.written c.args.source.now c.args.sink.now g.S.Source.faults g.K.Sink.faults s c.requires.fresh)

pub returns-in-Err-clause-recover : goal.returns-in-Err-clause-recover
returns-in-Err-clause-recover g c session is = offline-unbegun g.S.Source.left g.K.Sink.written c.args.source.now c.args.sink.now g.S.Source.faults g.K.Sink.faults (g.P.Plant.state c.args.plant.now) session.0 c.args.journal.now

pub returns-in-Err-clause-trial : goal.returns-in-Err-clause-trial
returns-in-Err-clause-trial g c n is =
    let s = g.P.Plant.state c.args.plant.now in
    (subst (λ events. IsTrial n g.K.Sink.written c.args.sink.now c.args.sink.now g.K.Sink.faults NoMemory events s s) (sym c.requires.empty) (trial-unbegun n g.K.Sink.written g.K.Sink.faults c.args.sink.now s c.requires.fresh), refl)
