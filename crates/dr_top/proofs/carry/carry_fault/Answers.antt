use Rattle.std.proofs.Common.{◌∙◌, sym, ap, arith, ◌++◌, [], ◌∷◌, inl}
use Rattle.dr_ids.specs.declared.refusal.Refusal.TheVariants.{Syntax}
use Rattle.dr_model.specs.declared.said.Said.TheVariants.{Refused}
use Rattle.dr_model.specs.Answers.{answer}
use Rattle.dr_steps.proofs.StepTaskLemmas.{told-answer}
use Rattle.dr_top.proofs.ReachLemmas.{at-full, below-full}
use Rattle.dr_top.proofs.LeadLemmas.{fault-none, fault-said}
use Rattle.dr_top.proofs.WantLemmas.{fault-wants}
use Rattle.dr_top.proofs.carry.carry_fault.Goals as goal

pub returns-then-is_full-clause-goes : goal.returns-then-is_full-clause-goes
returns-then-is_full-clause-goes c w device is =
    fault-none c.args.number c.args.column device w (record w { events = c.args.journal.now.events }) (ap (λ es. record w { events = es }) (sym is)) _
    (omega arith, at-full _ (sym c.is_full.ensures ∙ c.if-is_full.true) c.requires.room)

pub returns-in_default-clause-goes : goal.returns-in_default-clause-goes
returns-in_default-clause-goes c w device is =
    fault-none c.args.number c.args.column device w (record w { events = c.refuse_syntax.new.journal.events }) (ap (λ es. record w { events = es }) (c.in_default.ensures.same ∙ sym is)) _
    (inl (fault-wants c.args.number c.args.column (record w { events = c.refuse_syntax.new.journal.events }) c.args.journal.now.events c.args.journal.now.spare c.in_default.ensures.same (below-full _ (sym c.is_full.ensures ∙ c.if-is_full.false)) c.in_default.ensures.grows))

pub returns-clause-goes : goal.returns-clause-goes
returns-clause-goes c w device is =
    fault-said c.args.number c.args.column device w c.refuse_syntax.new.journal.events (c.in-Ok.ensures.told ∙ ap (λ es. es ++ answer c.args.number (Refused (Syntax c.args.column)) ∷ []) (sym is))

pub returns-clause-told : goal.returns-clause-told
returns-clause-told c h is = told-answer h c.args.journal.now.events c.refuse_syntax.new.journal.events c.args.number (Refused (Syntax c.args.column)) c.in-Ok.ensures.told is
