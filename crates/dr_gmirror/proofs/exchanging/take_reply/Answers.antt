use Rattle.std.proofs.Common.{◌≡◌, ◌&&◌, ap, ◌∙◌}
use Rattle.std.specs.Prelude.{if◌then◌else◌}
use Rattle.dr_master.specs.Seen.{reply_of}
use Rattle.dr_session.specs.Kept.{SessionTable}
use Rattle.dr_model.specs.Phases as phases
use Rattle.dr_model.specs.Sessions.{session_in, mirror_in, changed, with_master}
use Rattle.dr_gmirror.specs.Exchange.{can_settle}
use Rattle.dr_gmirror.proofs.ExchangeLemmas.{expected-by}
use Rattle.dr_gmirror.proofs.SettleLemmas.{awaited-by, reply-taken}
use Rattle.dr_gmirror.proofs.exchanging.take_reply.Goals as goal

pub reply-requires-clause-expected : goal.reply-requires-clause-expected
reply-requires-clause-expected c =
    expected-by (mirror_in (session_in c.args.ss.now.sessions c.args.s.0)) c.args.server.0 c.counted.result (reply_of c.args.y) c.counted.ensures.says c.counted.ensures.count c.requires.awaited

pub returns : goal.returns
returns c =
    let s = c.args.s.0 in
    let ss = c.args.ss.now.sessions in
    let y = reply_of c.args.y in
    let next : c.reply.new.self.sessions ≡ changed s (with_master (λ m. phases.replied m c.args.server.0 y)) ss =
    ap (λ (t : SessionTable). t.sessions) c.reply.ensures ∙ ap (λ (y : phases.Reply). changed s (with_master (λ m. phases.replied m c.args.server.0 y)) ss) c.counted.ensures.says in
    c.settle_if.ensures
    ∙ (λ i. if c.is_report-report.ensures i && can_settle (mirror_in (session_in (next i) s)) then changed s (with_master phases.settled) (next i) else next i)
    ∙ reply-taken s c.args.server.0 y ss (awaited-by (mirror_in (session_in ss s)) c.args.server.0 y c.requires.awaited)
