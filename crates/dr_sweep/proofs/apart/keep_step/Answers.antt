use Rattle.std.proofs.Common.{[], ◌∷◌, ◌++◌, List, ℕ, ap, arith, subst, ◌∙◌}
use Rattle.std.proofs.lemmas.Result.{IfErr-weaker, on_ok_weaker}
use Rattle.dr_plan.specs.Sweep.{is_unbroken}
use Rattle.dr_sweep.specs.Comes.{CarriesOn, HaltsBy}
use Rattle.dr_sweep.specs.Seen.{run_seen}
use Rattle.dr_sweep.proofs.apart.keep_step.Goals as goal

pub carry_line-requires-clause-line : goal.carry_line-requires-clause-line
carry_line-requires-clause-line c = ap is_unbroken c.text.ensures ∙ c.requires.alone.0 0 c.args.step.now (omega arith)

pub returns-clause-kept : goal.returns-clause-kept
returns-clause-kept c = on_ok_weaker c.carry_line.result (λ goes. c.in_ok-push_step.ensures) c.carry_line.ensures.goes

pub returns-clause-goes : goal.returns-clause-goes
returns-clause-goes c =
    on_ok_weaker c.carry_line.result (λ goes began ls done ran. subst (λ (line : List ℕ). CarriesOn began ls (line ∷ []) (run_seen c.carry_line.new.self) done) c.text.ensures (goes began ls done ran)) c.carry_line.ensures.goes

pub returns-clause-fails : goal.returns-clause-fails
returns-clause-fails c =
    IfErr-weaker c.carry_line.result _ _ (λ fault fails began ls done ran. subst (λ (line : List ℕ). HaltsBy began (ls ++ line ∷ []) (run_seen c.carry_line.new.self) fault) c.text.ensures (fails began ls done ran)) c.carry_line.ensures.fails
