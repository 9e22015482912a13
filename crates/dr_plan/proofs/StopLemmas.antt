-- The lines that stop servers can be printed, and read as these stops.
use Rattle.std.proofs.Common.{ℕ, ◌≡◌, ◌<◌, ◌^◌, ◌&&◌, true, refl, ap, ◌∙◌, arith, nat_lt}
use Rattle.std.proofs.lemmas.Bool.Decides.{nat_tests}
use Rattle.dr_model.specs.declared.step.Name.{Name}
use Rattle.dr_model.specs.declared.step.Step.TheVariants.{Stop, StopAfter}
use Rattle.dr_model.specs.LineTable.{form, settings, operands}
use Rattle.dr_model.specs.LineSteps.{no_options, no_operands}
use Rattle.dr_model.specs.LineText.{at_saying, name_fits, torn_fits, operand_fits, said_count, is_written, IsWritten}
use Rattle.dr_plan.specs.declared.points.Torn.{Torn}
use Rattle.dr_plan.specs.declared.points.Torn.TheVariants.{Unchanged, Zeros, Ones}
use Rattle.dr_plan.specs.Points.{torn_word}

pub stop-written : (server : Name) → name_fits server ≡ true → IsWritten (Stop server)
unfolding is_written at_saying settings operands form said_count operand_fits no_options no_operands
stop-written server fits = ap (λ b. (b && true) && true) fits

torn-fits : (torn : Torn) → torn_fits (torn_word torn) ≡ true
torn-fits Unchanged = refl
torn-fits Zeros = refl
torn-fits Ones = refl

pub fuse-written : (server : Name) (writes : ℕ) (torn : Torn) → name_fits server ≡ true → writes < 2 ^ 32 → IsWritten (StopAfter server writes (torn_word torn))
unfolding is_written at_saying settings operands form said_count operand_fits no_options no_operands
fuse-written server writes torn fits few =
    let count : nat_lt writes (2 ^ 32) ≡ true = grind (arith, nat_tests, few) in
    ap (λ b. (b && (nat_lt writes (2 ^ 32) && (torn_fits (torn_word torn) && true))) && true) fits
    ∙ ap (λ b. (b && (torn_fits (torn_word torn) && true)) && true) count
    ∙ ap (λ b. (b && true) && true) (torn-fits torn)
