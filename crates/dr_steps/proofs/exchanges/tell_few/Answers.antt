use Rattle.dr_model.specs.Sessions.{session_in, mirror_in}
use Rattle.dr_steps.proofs.ExchangeLemmas.{few-reports}
use Rattle.dr_steps.proofs.exchanges.tell_few.Goals as goal

pub returns : goal.returns
returns c = few-reports (λ m. m.now) c.master.result (mirror_in (session_in c.args.sessions.now.sessions c.args.s.0)) c.master.ensures.value c.master.ensures.reports
