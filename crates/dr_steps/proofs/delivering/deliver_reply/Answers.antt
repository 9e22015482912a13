use Rattle.dr_master.specs.Seen.{reply_of}
use Rattle.dr_steps.proofs.DeliverLemmas.{reply-refused, reply-taken, reply-awaited}
use Rattle.dr_steps.proofs.ExchangeLemmas.{master-near}
use Rattle.dr_steps.proofs.delivering.deliver_reply.Goals as goal

pub reply_refusal-requires-clause-near : goal.reply_refusal-requires-clause-near
reply_refusal-requires-clause-near g c =
    master-near (g.P.Plant.state c.args.plant.now) c.args.config.now c.args.tables.now c.args.journal.now.events c.requires.sound c.args.x.now.session.0

pub returns-in-Some-clause-step : goal.returns-in-Some-clause-step
returns-in-Some-clause-step g c =
    reply-refused (g.P.Plant.state c.args.plant.now) c.args.config.now c.args.tables.now c.args.journal.now.events c.args.x.now (reply_of c.args.reply) c.in-Some.why (c.in-Some.ensures.refusal (reply_of c.args.reply))

pub take_reply-requires-clause-awaited : goal.take_reply-requires-clause-awaited
take_reply-requires-clause-awaited g c =
    reply-awaited (g.P.Plant.state c.args.plant.now) c.args.config.now c.args.tables.now c.args.journal.now.events c.args.x.now (reply_of c.args.reply) c.requires.sound c.requires.few c.tell_few.ensures
    c.args.x.now.number c.requires.found (c.in_default.ensures.refusal (reply_of c.args.reply))

pub returns-clause-step : goal.returns-clause-step
returns-clause-step g c =
    reply-taken (g.P.Plant.state c.args.plant.now) c.args.config.now c.args.tables.now c.args.journal.now.events c.args.x.now (reply_of c.args.reply) c.take_reply.new.ss c.phase_of.result
    (c.in_default.ensures.refusal (reply_of c.args.reply)) c.take_reply.ensures c.phase_of.ensures
