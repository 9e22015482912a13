use Rattle.std.proofs.Common.{◌≡◌, ◌∙◌, sym, true}
use Rattle.std.proofs.lemmas.List.Elements.{All-push}
use Rattle.dr_model.specs.LineText.{name_fits}
use Rattle.dr_plan.proofs.NameLemmas.{word-bad, word-more, words-done, word-fits}
use Rattle.dr_plan.proofs.names.read_names.Goals as goal

pub returns-in_default : goal.returns-in_default
returns-in_default c = word-bad c.loop-word.servers.items c.args.words.now c.loop-word.word-index _ _ c.loop-word-test.true (sym c.read_name.ensures ∙ c.in_default.is) c.loop-word.invariant.leads

pub loop-word-preserved : goal.loop-word-preserved
loop-word-preserved c = record {
  leads =
      word-more c.loop-word.servers.items c.push.new.self.items c.args.words.now c.loop-word.word-index _ c.in-Some.name _ c.loop-word-test.true (sym c.read_name.ensures ∙ c.in-Some.is)
      c.in_ok-push.ensures.items c.loop-word.invariant.leads;
  fit = rw c.in_ok-push.ensures.items (All-push (λ name. name_fits name ≡ true) c.loop-word.servers.items c.in-Some.name c.loop-word.invariant.fit (word-fits c.args.words.now c.loop-word.word-index _ c.in-Some.name (sym c.read_name.ensures ∙ c.in-Some.is)));
}

pub returns : goal.returns
returns c = words-done c.loop-word.servers.items c.args.words.now c.loop-word.word-index _ c.loop-word-test.false c.loop-word.invariant.leads
