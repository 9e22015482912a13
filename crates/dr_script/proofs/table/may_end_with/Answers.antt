use Rattle.std.proofs.Common.{◌≡◌, ◌≢◌, refl, ap, ◌∙◌, length}
use Rattle.dr_model.specs.declared.grammar.Command.{Command}
use Rattle.dr_model.specs.declared.grammar.Command.TheVariants.{AtStop, AtExchange, Mkgmir, Resumegmir, Pausegmir, Rmgmir}
use Rattle.dr_model.specs.LineTable.{form, operands, may_end_with}
use Rattle.dr_script.proofs.table.may_end_with.Goals as goal

-- all operands of any other command stand
all-stand : (x : Command) → x ≢ AtStop → x ≢ AtExchange → x ≢ Mkgmir → x ≢ Resumegmir → x ≢ Pausegmir → x ≢ Rmgmir → length (operands x) ≡ may_end_with x
unfolding form operands may_end_with
all-stand AtStop a b c d e f = absurd (a refl)
all-stand AtExchange a b c d e f = absurd (b refl)
all-stand Mkgmir a b c d e f = absurd (c refl)
all-stand Resumegmir a b c d e f = absurd (d refl)
all-stand Pausegmir a b c d e f = absurd (e refl)
all-stand Rmgmir a b c d e f = absurd (f refl)
all-stand x a b c d e f = refl

pub returns-in_default : goal.returns-in_default
returns-in_default c =
    ap length c.operands.ensures
    ∙ all-stand c.args.command c.in_default.not-AtStop c.in_default.not-AtExchange c.in_default.not-Mkgmir c.in_default.not-Resumegmir c.in_default.not-Pausegmir c.in_default.not-Rmgmir
