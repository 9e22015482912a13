use Rattle.std.proofs.Common.{◌≡◌, ◌∙◌, ap, sym, arith, subst, length}
use Rattle.std.specs.Str.Lines.{lines}
use Rattle.std.proofs.lemmas.Bool.Decides.{nat_tests}
use Rattle.std.proofs.lemmas.List.{nil_from_length}
use Rattle.dr_plan.specs.Above.{unless}
use Rattle.dr_plan.specs.Outcome.{ReadsAs}
use Rattle.dr_plan.specs.Reading.{read_lines}
use Rattle.dr_plan.proofs.ReadLemmas.{line-bad, line-more, lines-done}
use Rattle.dr_plan.proofs.reading.read_whole.Goals as goal

pub returns-in-Ok-Some : goal.returns-in-Ok-Some
returns-in-Ok-Some c =
    sym c.loop-rest.invariant.leads
    ∙ ap (read_lines c.loop-rest.number c.loop-rest.reading) c.split_line.ensures.lines
    ∙ line-bad c.loop-rest.number c.loop-rest.reading _ _ c.in-Ok-Some.reason (c.in-Ok-Some.ensures ∙ ap (λ fault. unless fault c.read_on.new.reading) c.in-Ok-Some.field-0-is)

pub loop-rest-preserved : goal.loop-rest-preserved
loop-rest-preserved c = record {
  leads =
      sym (ap (read_lines c.loop-rest.number c.loop-rest.reading) c.split_line.ensures.lines ∙ line-more c.loop-rest.number c.loop-rest.reading c.read_on.new.reading _ _ (c.in-Ok-None.ensures ∙ ap (λ fault. unless fault c.read_on.new.reading) c.in-Ok-None.field-0-is))
      ∙ c.loop-rest.invariant.leads;
  few = let few = c.loop-rest.invariant.few in let shorter = c.split_line.ensures.shorter in omega arith;
}

pub returns : goal.returns
returns c =
    let none : length c.loop-rest.rest.now ≡ 0 = (let is = c.loop-rest-test.ensures in grind (arith, nat_tests, is)) in
    subst (λ read. ReadsAs read c.finish.result)
    (sym (lines-done c.loop-rest.number c.loop-rest.reading) ∙ ap (λ rest. read_lines c.loop-rest.number c.loop-rest.reading (lines rest)) (sym (nil_from_length c.loop-rest.rest.now none)) ∙ c.loop-rest.invariant.leads)
    c.finish.ensures
