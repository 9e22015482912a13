use Rattle.std.proofs.Common.{ap, sym, ◌∙◌, ◌+◌, length}
use Rattle.dr_model.specs.LineWords.{words_behind}
use Rattle.dr_model.specs.Grammar.{Reading}
use Rattle.dr_script.specs.Pieces.{kept, word_bytes}
use Rattle.dr_script.proofs.ReadLemmas.{word_refused, word_taken}
use Rattle.dr_script.proofs.line.read_words.Goals as goal

pub returns-in-Ok-false : goal.returns-in-Ok-false
returns-in-Ok-false c =
    let line = c.args.line.now in
    let w = c.in-Some.word in
    let r : Reading = record { place = c.loop-word.place; items = c.loop-word.items.items } in
    let next : Reading = record { place = c.read_on.new.place; items = c.read_on.new.items.items } in
    rw c.syntax.ensures
    (sym c.loop-word.invariant.rest
    ∙ word_refused (length line + 1) r (words_behind c.loop-word.at line) (words_behind w.end line) (w.start + 1) (word_bytes line w) c.in-Some.ensures.word
    (c.in-Ok-false.ensures ∙ ap (λ stands. kept stands next) c.in-Ok-false.field-0-test))

pub loop-word-preserved : goal.loop-word-preserved
loop-word-preserved c =
    let line = c.args.line.now in
    let w = c.in-Some.word in
    let r : Reading = record { place = c.loop-word.place; items = c.loop-word.items.items } in
    let next : Reading = record { place = c.read_on.new.place; items = c.read_on.new.items.items } in
    let ends = c.in-Some.ensures.ends in
    record {
      within = ends.2;
      rest = sym (word_taken (length line + 1) r next (words_behind c.loop-word.at line) (words_behind w.end line) (w.start + 1) (word_bytes line w) c.in-Some.ensures.word
          (c.in-Ok-true.ensures ∙ ap (λ stands. kept stands next) c.in-Ok-true.field-0-test))
          ∙ c.loop-word.invariant.rest;
    }
