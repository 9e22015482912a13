use Rattle.std.proofs.Common.{◌≤◌, ◌==◌, length, arith, ap, sym, ◌∙◌}
use Rattle.std.specs.List.{find}
use Rattle.dr_ids.specs.declared.names.Member.{Member}
use Rattle.dr_model.specs.Sessions.{session_in, members_in}
use Rattle.dr_flash.proofs.CheckLemmas.{same-test, differ-test}
use Rattle.dr_gmirror.proofs.OrderLemmas.{member-all}
use Rattle.dr_gmirror.proofs.RestoreLemmas.{find-hit, find-miss}
use Rattle.dr_gmirror.proofs.restores.member_with.Goals as goal

pub returns-then-m-t : goal.returns-then-m-t
returns-then-m-t c =
    sym (find-hit (λ (m : Member). m.c.0 == c.args.t.0) (members_in (session_in c.args.ss.now.sessions c.args.s.0)) c.loop-at.at c.unwrap-m.result (sym (sym c.member_at.ensures.value ∙ c.unwrap-m.ensures)) c.loop-at.invariant.none (same-test c.unwrap-m.result.c.0 c.args.t.0 c.if-m-t.true))

pub loop-at-preserved : goal.loop-at-preserved
loop-at-preserved c = record {
  none = find-miss (λ (m : Member). m.c.0 == c.args.t.0) (members_in (session_in c.args.ss.now.sessions c.args.s.0)) c.loop-at.at c.unwrap-m.result (sym (sym c.member_at.ensures.value ∙ c.unwrap-m.ensures)) c.loop-at.invariant.none (differ-test c.unwrap-m.result.c.0 c.args.t.0 c.if-m-t.false);
}

pub returns : goal.returns
returns c =
    let ms = members_in (session_in c.args.ss.now.sessions c.args.s.0) in
    let all : length ms ≤ c.loop-at.at = let e = c.member_count-at-end.ensures in let f = c.loop-at-test.false in omega (arith, e, f) in
    sym (ap (λ xs. find (λ (m : Member). m.c.0 == c.args.t.0) xs) (sym (member-all ms c.loop-at.at all)) ∙ c.loop-at.invariant.none)
