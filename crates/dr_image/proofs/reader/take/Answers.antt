use Rattle.std.proofs.Common.{◌++◌, [], ℕ, List, take, ap, sym, ◌∙◌}
use Rattle.dr_model.specs.PlantImage.{State, step}
use Rattle.dr_image.specs.Lines.{state_of}
use Rattle.dr_image.specs.Reader.{reads_on}
use Rattle.dr_image.proofs.ReadLemmas.{before_feed, without_feed, line-turn}
use Rattle.dr_image.proofs.reader.take.Goals as goal

pub take_line-requires-clause-piece : goal.take_line-requires-clause-piece
take_line-requires-clause-piece c = before_feed c.loop-end.rest.now c.in-Some.end (sym c.in-Some.ensures.value)

pub keep-requires-clause-piece : goal.keep-requires-clause-piece
keep-requires-clause-piece c = without_feed c.loop-end.rest.now (sym c.in_default.ensures.value)

pub loop-end-preserved : goal.loop-end-preserved
loop-end-preserved c =
    let s : State = state_of c.loop-end.state in
    let partial : List ℕ = c.loop-end.partial.items in
    let rest : List ℕ = c.loop-end.rest.now in
    let end : ℕ = c.in-Some.end in
    record {
      state = c.in_ok-take_line.ensures.state;
      partial = c.in_ok-take_line.ensures.partial;
      reads = λ later.
          ap (λ t. reads_on t c.take_line.new.partial.items (c.behind-rest.result.now ++ later)) c.in_ok-take_line.ensures.step
          ∙ ap (λ p. reads_on (step s (partial ++ take end rest)) p (c.behind-rest.result.now ++ later)) c.in_ok-take_line.ensures.empty
          ∙ ap (λ r. reads_on (step s (partial ++ take end rest)) [] (r ++ later)) c.behind-rest.ensures
          ∙ line-turn s partial rest later end c.loop-end.invariant.partial (sym c.in-Some.ensures.value)
          ∙ c.loop-end.invariant.reads later;
    }
