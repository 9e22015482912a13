use Rattle.std.proofs.Common.{arith}
use Rattle.dr_model.specs.LineWords.{words_behind}
use Rattle.dr_script.proofs.WordLemmas.{Found, found, none_found}
use Rattle.dr_script.proofs.words.next_word.Goals as goal

pub returns-then-start-line-clause-word : goal.returns-then-start-line-clause-word
returns-then-start-line-clause-word c = none_found c.args.line.now c.args.at c.ink_from-start.result c.ink_from-start.ensures.value c.if-start-line.true

pub returns : goal.returns
returns c =
    let line = c.args.line.now in
    let s = c.ink_from-start in
    let e = c.gap_from-end in
    let f : Found line s.result e.result (words_behind c.args.at line) = found line c.args.at s.result e.result c.requires s.ensures.value s.ensures.within (λ h. c.if-start-line.false h) e.ensures.value e.ensures.within in
    record { ends = ((omega (arith, s.ensures.value)), (let p = f.some in omega arith), (let p = f.within in omega arith)); word = f.word }
