use Rattle.std.proofs.Common.{◌==◌, sym, ◌∙◌}
use Rattle.dr_ids.specs.declared.names.Member.{Member}
use Rattle.dr_model.specs.Sessions.{session_in, members_in}
use Rattle.dr_flash.proofs.CheckLemmas.{same-test, differ-test}
use Rattle.dr_gmirror.proofs.OrderLemmas.{any-hit, any-miss}
use Rattle.dr_gmirror.proofs.looks.has_member_on.Goals as goal

pub returns-then-m-server : goal.returns-then-m-server
returns-then-m-server c =
    any-hit (λ (m : Member). m.server.0 == c.args.server.0) (members_in (session_in c.args.ss.now.sessions c.args.s.0)) c.loop-at.at c.unwrap-m.result (sym (sym c.member_at.ensures.value ∙ c.unwrap-m.ensures)) (same-test c.unwrap-m.result.server.0 c.args.server.0 c.if-m-server.true)

pub loop-at-preserved : goal.loop-at-preserved
loop-at-preserved c = record {
  none = any-miss (λ (m : Member). m.server.0 == c.args.server.0) (members_in (session_in c.args.ss.now.sessions c.args.s.0)) c.loop-at.at c.unwrap-m.result (sym (sym c.member_at.ensures.value ∙ c.unwrap-m.ensures)) c.loop-at.invariant.none (differ-test c.unwrap-m.result.server.0 c.args.server.0 c.if-m-server.false);
}
