use Rattle.std.proofs.Common.{[], ◌∷◌, List, ℕ, ap, sym, ◌∙◌, subst, ◌++◌}
use Rattle.std.proofs.lemmas.Result.{err_from_is_err_and}
use Rattle.dr_model.specs.Plans.{has_room}
use Rattle.dr_plan.specs.Sweep.{is_unbroken}
use Rattle.dr_plan.proofs.PrintLemmas.{step-unbroken}
use Rattle.dr_sweep.specs.Comes.{CarriesOn, HaltsBy}
use Rattle.dr_sweep.specs.Seen.{run_seen}
use Rattle.dr_sweep.proofs.TurnLemmas.{halts-none, part-carried, part-full, part-halts}
use Rattle.dr_sweep.proofs.run.PointRun.carry_part.Goals as goal

pub carry_line-requires-clause-line : goal.carry_line-requires-clause-line
carry_line-requires-clause-line c = ap is_unbroken (c.bytes.ensures ∙ c.in_ok-text.ensures.text) ∙ step-unbroken c.args.step c.requires.written

pub returns-then-not-has_room-clause-adds : goal.returns-then-not-has_room-clause-adds
returns-then-not-has_room-clause-adds c way is began ls done ran =
    let r = run_seen c.args.self.now in
    part-full began ls done c.args.s.0 r r ran c.args.parts.now.items c.args.step c.requires.of_run way is (ap has_room (sym c.journal.ensures) ∙ sym c.if-not-has_room.ensures)

pub returns-in_err-text-clause-fails : goal.returns-in_err-text-clause-fails
returns-in_err-text-clause-fails c =
    let out = err_from_is_err_and c.from_residual.result c.from_residual.ensures.1 in
    rw (out.1, out.2) (λ began ls done ran. halts-none began ls done c.args.s.0 (run_seen c.args.self.now))

pub returns-in_err-push_part-clause-fails : goal.returns-in_err-push_part-clause-fails
returns-in_err-push_part-clause-fails c =
    let out = err_from_is_err_and c.from_residual-in_err-push_part.result c.from_residual-in_err-push_part.ensures.1 in
    rw (out.1, out.2) (λ began ls done ran. halts-none began ls done c.args.s.0 (run_seen c.args.self.now))

pub returns-in_err-carry_line-clause-fails : goal.returns-in_err-carry_line-clause-fails
returns-in_err-carry_line-clause-fails c =
    let new = run_seen c.carry_line.new.self in
    let out = err_from_is_err_and c.from_residual-in_err-carry_line.result c.from_residual-in_err-carry_line.ensures.1 in
    rw (out.1, out.2) (λ began ls done ran.
    part-halts began ls c.args.s.0 new c.args.step c.requires.of_run c.in_err-carry_line.field-0.0
    (subst (λ (line : List ℕ). HaltsBy began (ls ++ line ∷ []) new c.in_err-carry_line.field-0.0) (c.bytes.ensures ∙ c.in_ok-text.ensures.text) (c.in_err-carry_line.ensures.fails began ls done ran)))

pub returns-clause-adds : goal.returns-clause-adds
returns-clause-adds c way is began ls done ran =
    let old = run_seen c.args.self.now in
    let new = run_seen c.carry_line.new.self in
    part-carried began ls done c.args.s.0 old new ran c.args.parts.now.items c.args.step c.requires.of_run way is (ap has_room (sym c.journal.ensures) ∙ sym c.if-not-has_room.ensures) c.requires.written
    c.push_part.new.parts.items c.in_ok-push_part.ensures (subst (λ (line : List ℕ). CarriesOn began ls (line ∷ []) new done) (c.bytes.ensures ∙ c.in_ok-text.ensures.text) (c.in_ok-carry_line.ensures.goes began ls done ran))
    c.is_well.result c.is_well.ensures
