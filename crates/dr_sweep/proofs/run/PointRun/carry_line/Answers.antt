use Rattle.std.proofs.Common.{[], ◌∷◌}
use Rattle.std.proofs.lemmas.Result.{IfErr-weaker, on_ok_weaker}
use Rattle.dr_sweep.proofs.ReadLemmas.{line-text}
use Rattle.dr_sweep.proofs.run.PointRun.carry_line.Goals as goal

pub returns-clause-goes : goal.returns-clause-goes
returns-clause-goes c =
    let line = c.args.line.now in
    let is = line-text line c.in_ok-text.text c.bytes.result.now c.in_ok-text.ensures.text (c.in_ok-text.ensures.lines c.requires.line) c.bytes.ensures in
    on_ok_weaker c.carry.result (λ goes began ls steps ran. goes began ls (line ∷ []) steps ran is) c.carry.ensures.goes

pub returns-clause-fails : goal.returns-clause-fails
returns-clause-fails c =
    let line = c.args.line.now in
    let is = line-text line c.in_ok-text.text c.bytes.result.now c.in_ok-text.ensures.text (c.in_ok-text.ensures.lines c.requires.line) c.bytes.ensures in
    IfErr-weaker c.carry.result _ _ (λ fault fails began ls steps ran. fails began ls (line ∷ []) steps ran is) c.carry.ensures.fails
