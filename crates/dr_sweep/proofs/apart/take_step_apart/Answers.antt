use Rattle.std.proofs.Common.{[], ◌∷◌, ◌≡◌, ap, arith, None, refl, subst, sym, ◌∙◌}
use Rattle.std.proofs.lemmas.Result.{err_from_is_err_and}
use Rattle.dr_model.specs.Grammar.{line_of}
use Rattle.dr_model.specs.Runs.{run}
use Rattle.dr_sweep.specs.Apart.{IsApartBy, run_in}
use Rattle.dr_sweep.specs.Seen.{run_seen}
use Rattle.dr_sweep.proofs.ApartLemmas.{alone-more, kept-apart, memory-halts}
use Rattle.dr_sweep.proofs.apart.take_step_apart.Goals as goal

pub take_run_apart-requires-clause-is_run : goal.take_run_apart-requires-clause-is_run
take_run_apart-requires-clause-is_run c = sym (ap (λ line. run_in (line_of line)) c.text.ensures) ∙ sym c.in_ok-asked.ensures ∙ c.in-Some.is

pub returns-in_err-asked-clause-fails : goal.returns-in_err-asked-clause-fails
returns-in_err-asked-clause-fails c =
    let out = err_from_is_err_and c.from_residual.result c.from_residual.ensures.1 in
    rw (out.1, out.2) (λ began ls done ran. memory-halts began ls (run_seen c.args.run.now) c.args.step.now)

pub returns-in_ok-keep_step-in-None-clause-alone : goal.returns-in_ok-keep_step-in-None-clause-alone
returns-in_ok-keep_step-in-None-clause-alone c = alone-more c.args.tried.now.items c.args.step.now c.keep_step.new.tried.items c.requires.old_alone c.requires.alone c.in_ok-keep_step-in-None.ensures.kept

pub returns-in_ok-keep_step-in-None-clause-goes : goal.returns-in_ok-keep_step-in-None-clause-goes
returns-in_ok-keep_step-in-None-clause-goes c began ls done ran =
    let t = c.args.step.now in
    let goes = c.in_ok-keep_step-in-None.ensures.goes began ls done ran in
    let none : run_in (line_of t.text) ≡ None = sym (ap (λ line. run_in (line_of line)) c.text.ensures) ∙ sym c.in_ok-asked.ensures ∙ c.in-None.is in
    kept-apart began ls done (run_seen c.keep_step.new.run) t (c.requires.alone.1 0 t (omega arith)) goes c.args.tried.now.items c.keep_step.new.tried.items c.in_ok-keep_step-in-None.ensures.kept
    (subst (λ o. IsApartBy o (run done) t (t ∷ []) goes.further) (sym none) refl)
