use Rattle.std.proofs.Common.{sym, subst, arith}
use Rattle.dr_metro.specs.Here as metro
use Rattle.dr_steps.specs.Here.{here}
use Rattle.dr_steps.proofs.StepTaskLemmas.{none-session}
use Rattle.dr_steps.proofs.WidenLemmas.{refuses}
use Rattle.dr_steps.proofs.forms.carry_session.Goals as goal

pub returns-in-RemoveSession : goal.returns-in-RemoveSession
returns-in-RemoveSession g c =
    let s = g.P.Plant.state c.args.plant.now in let s' = g.P.Plant.state c.args.plant.now in
    let w = here s c.args.config.now c.args.tables.now c.args.journal.now.events in
    let u = here s' c.args.config.now c.remove_session.new.tables c.args.journal.now.events in
    let all = refuses w u s s' c.args.step.now _ c.remove_session.result c.refused.result c.refused.ensures c.in-RemoveSession.is c.remove_session.ensures.step c.remove_session.ensures.faults in
    record { step = all.step; faults = all.faults; wanted = all.wanted; same = all.same; same_plant = all.same_plant; ready = subst (λ x. metro.IsReady s c.args.config.now x c.args.journal.now.events) (sym c.remove_session.ensures.host) c.requires.ready; host = c.remove_session.ensures.host; room = let most = c.requires.room in omega arith }

pub returns-in-RemoveMember : goal.returns-in-RemoveMember
returns-in-RemoveMember g c =
    let s = g.P.Plant.state c.args.plant.now in let s' = g.P.Plant.state c.remove_member.new.plant in
    let w = here s c.args.config.now c.args.tables.now c.args.journal.now.events in
    let u = here s' c.args.config.now c.remove_member.new.tables c.remove_member.new.journal.events in
    let all = refuses w u s s' c.args.step.now _ c.remove_member.result c.refused-in-RemoveMember.result c.refused-in-RemoveMember.ensures c.in-RemoveMember.is c.remove_member.ensures.step c.remove_member.ensures.faults in
    record { step = all.step; faults = all.faults; wanted = all.wanted; same = all.same; same_plant = all.same_plant; ready = c.remove_member.ensures.ready; host = c.remove_member.ensures.host; room = c.remove_member.ensures.room }

pub returns-in-MakeMirror : goal.returns-in-MakeMirror
returns-in-MakeMirror g c =
    let s = g.P.Plant.state c.args.plant.now in let s' = g.P.Plant.state c.args.plant.now in
    let w = here s c.args.config.now c.args.tables.now c.args.journal.now.events in
    let u = here s' c.args.config.now c.make_mirror.new.tables c.args.journal.now.events in
    let all = refuses w u s s' c.args.step.now _ c.make_mirror.result c.refused-in-MakeMirror.result c.refused-in-MakeMirror.ensures c.in-MakeMirror.is c.make_mirror.ensures.step c.make_mirror.ensures.faults in
    record { step = all.step; faults = all.faults; wanted = all.wanted; same = all.same; same_plant = all.same_plant; ready = subst (λ x. metro.IsReady s c.args.config.now x c.args.journal.now.events) (sym c.make_mirror.ensures.host) c.requires.ready; host = c.make_mirror.ensures.host; room = let most = c.requires.room in omega arith }

pub returns-in-PauseMirror : goal.returns-in-PauseMirror
returns-in-PauseMirror g c =
    let s = g.P.Plant.state c.args.plant.now in let s' = g.P.Plant.state c.args.plant.now in
    let w = here s c.args.config.now c.args.tables.now c.args.journal.now.events in
    let u = here s' c.args.config.now c.pause_mirror.new.tables c.args.journal.now.events in
    let all = refuses w u s s' c.args.step.now _ c.pause_mirror.result c.refused-in-PauseMirror.result c.refused-in-PauseMirror.ensures c.in-PauseMirror.is c.pause_mirror.ensures.step c.pause_mirror.ensures.faults in
    record { step = all.step; faults = all.faults; wanted = all.wanted; same = all.same; same_plant = all.same_plant; ready = subst (λ x. metro.IsReady s c.args.config.now x c.args.journal.now.events) (sym c.pause_mirror.ensures.host) c.requires.ready; host = c.pause_mirror.ensures.host; room = let most = c.requires.room in omega arith }

pub returns-in-ResumeMirror : goal.returns-in-ResumeMirror
returns-in-ResumeMirror g c =
    let s = g.P.Plant.state c.args.plant.now in let s' = g.P.Plant.state c.args.plant.now in
    let w = here s c.args.config.now c.args.tables.now c.args.journal.now.events in
    let u = here s' c.args.config.now c.pause_mirror-in-ResumeMirror.new.tables c.args.journal.now.events in
    let all = refuses w u s s' c.args.step.now _ c.pause_mirror-in-ResumeMirror.result c.refused-in-ResumeMirror.result c.refused-in-ResumeMirror.ensures c.in-ResumeMirror.is c.pause_mirror-in-ResumeMirror.ensures.step c.pause_mirror-in-ResumeMirror.ensures.faults in
    record { step = all.step; faults = all.faults; wanted = all.wanted; same = all.same; same_plant = all.same_plant; ready = subst (λ x. metro.IsReady s c.args.config.now x c.args.journal.now.events) (sym c.pause_mirror-in-ResumeMirror.ensures.host) c.requires.ready; host = c.pause_mirror-in-ResumeMirror.ensures.host; room = let most = c.requires.room in omega arith }

pub returns-in-RemoveMirror : goal.returns-in-RemoveMirror
returns-in-RemoveMirror g c =
    let s = g.P.Plant.state c.args.plant.now in let s' = g.P.Plant.state c.args.plant.now in
    let w = here s c.args.config.now c.args.tables.now c.args.journal.now.events in
    let u = here s' c.args.config.now c.remove_mirror.new.tables c.args.journal.now.events in
    let all = refuses w u s s' c.args.step.now _ c.remove_mirror.result c.refused-in-RemoveMirror.result c.refused-in-RemoveMirror.ensures c.in-RemoveMirror.is c.remove_mirror.ensures.step c.remove_mirror.ensures.faults in
    record { step = all.step; faults = all.faults; wanted = all.wanted; same = all.same; same_plant = all.same_plant; ready = subst (λ x. metro.IsReady s c.args.config.now x c.args.journal.now.events) (sym c.remove_mirror.ensures.host) c.requires.ready; host = c.remove_mirror.ensures.host; room = let most = c.requires.room in omega arith }

pub returns-in-Abort : goal.returns-in-Abort
returns-in-Abort g c =
    let s = g.P.Plant.state c.args.plant.now in let s' = g.P.Plant.state c.args.plant.now in
    let w = here s c.args.config.now c.args.tables.now c.args.journal.now.events in
    let u = here s' c.args.config.now c.abort_attempt.new.tables c.args.journal.now.events in
    let all = refuses w u s s' c.args.step.now _ c.abort_attempt.result c.refused-in-Abort.result c.refused-in-Abort.ensures c.in-Abort.is c.abort_attempt.ensures.step c.abort_attempt.ensures.faults in
    record { step = all.step; faults = all.faults; wanted = all.wanted; same = all.same; same_plant = all.same_plant; ready = subst (λ x. metro.IsReady s c.args.config.now x c.args.journal.now.events) (sym c.abort_attempt.ensures.host) c.requires.ready; host = c.abort_attempt.ensures.host; room = let most = c.requires.room in omega arith }

pub returns-in-Exchange : goal.returns-in-Exchange
returns-in-Exchange g c =
    let s = g.P.Plant.state c.args.plant.now in let s' = g.P.Plant.state c.exchange.new.plant in
    let w = here s c.args.config.now c.args.tables.now c.args.journal.now.events in
    let u = here s' c.args.config.now c.exchange.new.tables c.exchange.new.journal.events in
    let all = refuses w u s s' c.args.step.now _ c.exchange.result c.refused-in-Exchange.result c.refused-in-Exchange.ensures c.in-Exchange.is c.exchange.ensures.step c.exchange.ensures.faults in
    record { step = all.step; faults = all.faults; wanted = all.wanted; same = all.same; same_plant = all.same_plant; ready = c.exchange.ensures.ready; host = c.exchange.ensures.host; room = c.exchange.ensures.room }

pub returns-in-Lose : goal.returns-in-Lose
returns-in-Lose g c =
    let s = g.P.Plant.state c.args.plant.now in let s' = g.P.Plant.state c.args.plant.now in
    let w = here s c.args.config.now c.args.tables.now c.args.journal.now.events in
    let u = here s' c.args.config.now c.lose.new.tables c.args.journal.now.events in
    let all = refuses w u s s' c.args.step.now _ c.lose.result c.refused-in-Lose.result c.refused-in-Lose.ensures c.in-Lose.is c.lose.ensures.step c.lose.ensures.faults in
    record { step = all.step; faults = all.faults; wanted = all.wanted; same = all.same; same_plant = all.same_plant; ready = subst (λ x. metro.IsReady s c.args.config.now x c.args.journal.now.events) (sym c.lose.ensures.host) c.requires.ready; host = c.lose.ensures.host; room = let most = c.requires.room in omega arith }

pub carry_recovery-requires-clause-session : goal.carry_recovery-requires-clause-session
carry_recovery-requires-clause-session g c =
    none-session c.args.step.now c.in_default.not-MakeSession c.in_default.not-RemoveSession c.in_default.not-AddMember c.in_default.not-RemoveMember c.in_default.not-MakeMirror c.in_default.not-PauseMirror c.in_default.not-ResumeMirror c.in_default.not-RemoveMirror c.in_default.not-Abort c.in_default.not-Exchange c.in_default.not-Send c.in_default.not-Deliver c.in_default.not-Lose
