use Rattle.std.proofs.Common.{◌≡◌, ◌++◌, ◌+◌, ◌-◌, suc, ap, sym, ◌∙◌, arith}
use Rattle.dr_gen.specs.Trial.{ended, last, script_text}
use Rattle.dr_gen.proofs.RoundLemmas.{added, none_left, one_write}
use Rattle.dr_gen.proofs.print.script.Goals as goal

pub loop-preserved : goal.loop-preserved
loop-preserved c =
    let one : 2000 - c.loop.counter ≡ suc (2000 - (c.loop.counter + 1)) = omega arith in
    record {
      few = let one_more = one_write c.draw_round-round.result in omega arith;
      text = added c.loop.text c.push_round.new.text c.loop.writes c.push_round.new.writes c.loop.state c.draw_round-round.new.state _ _ c.draw_round-round.result
          c.draw_round-round.ensures.round c.draw_round-round.ensures.state c.in_ok-push_round.ensures.text c.push_round.ensures.writes one ∙ c.loop.invariant.text;
    }

pub returns : goal.returns
unfolding script_text
returns c =
    let all : 2000 - c.loop.counter ≡ 0 = omega arith in
    c.in_ok-append-2.ensures.ok ∙ ap (λ u. c.loop.text ++ u) c.last.ensures
    ∙ ap (λ t. t ++ ended last) (sym (none_left c.loop.text c.loop.writes c.loop.state _ all) ∙ c.loop.invariant.text)
