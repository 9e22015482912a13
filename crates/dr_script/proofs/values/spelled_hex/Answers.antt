use Rattle.std.proofs.Common.{◌≡◌, ℕ, ◌<◌, false, get_or, arith, ◌∙◌, sym, ap, Some}
use Rattle.std.proofs.lemmas.Grind.{common_steps}
use Rattle.std.proofs.lemmas.Int.Digits.{digits_value-lt, digits_value_more, digits_more}
use Rattle.std.specs.Char.{digit_value, is_digit}
use Rattle.std.specs.Str.Parse.{AllDigits, digits_value}
use Rattle.dr_ids.proofs.Digits.{digit_below, digit_fits, digit_is, no_digit, spelled_none, spelled_some}
use Rattle.dr_script.proofs.values.spelled_hex.Goals as goal

pub returns-in_err-value-clause-value : goal.returns-in_err-value-clause-value
returns-in_err-value-clause-value c =
    let digit : ℕ = get_or c.args.word.now c.loop-digit.digit-index 0 in
    let odd : is_digit digit 16 ≡ false = no_digit 16 digit c.in_err-value.ensures in
    c.from_residual.ensures ∙ sym (spelled_none 16 c.args.word.now c.loop-digit.digit-index c.loop-digit-test.true odd)

pub overflow_mul-number : goal.overflow_mul-number
overflow_mul-number c =
    let digit : ℕ = get_or c.args.word.now c.loop-digit.digit-index 0 in
    let low : digit_value digit < 16 = digit_below 16 digit c.in_ok-value.value c.in_ok-value.ensures in
    let fits = digit_fits 16 c.args.word.now c.loop-digit.digit-index (omega arith) c.requires c.loop-digit-test.true c.loop-digit.invariant.digits low in
    rw (c.loop-digit.invariant.number) (omega arith)

pub overflow_add-number : goal.overflow_add-number
overflow_add-number c =
    let digit : ℕ = get_or c.args.word.now c.loop-digit.digit-index 0 in
    let low : digit_value digit < 16 = digit_below 16 digit c.in_ok-value.value c.in_ok-value.ensures in
    let is : c.in_ok-value.value ≡ digit_value digit = digit_is 16 digit c.in_ok-value.value c.in_ok-value.ensures in
    let fits = digit_fits 16 c.args.word.now c.loop-digit.digit-index (omega arith) c.requires c.loop-digit-test.true c.loop-digit.invariant.digits low in
    rw (c.loop-digit.invariant.number, c.from.ensures, is) (omega arith)

pub loop-digit-preserved : goal.loop-digit-preserved
loop-digit-preserved c =
    let digit : ℕ = get_or c.args.word.now c.loop-digit.digit-index 0 in
    let low : digit_value digit < 16 = digit_below 16 digit c.in_ok-value.value c.in_ok-value.ensures in
    let is : c.in_ok-value.value ≡ digit_value digit = digit_is 16 digit c.in_ok-value.value c.in_ok-value.ensures in
    record {
      digits = digits_more 16 c.args.word.now c.loop-digit.digit-index c.loop-digit-test.true c.loop-digit.invariant.digits low;
      number = rw (c.loop-digit.invariant.number, c.from.ensures, is, digits_value_more 16 c.args.word.now c.loop-digit.digit-index c.loop-digit-test.true);
    }

pub returns-clause-value : goal.returns-clause-value
returns-clause-value c =
    let digits : AllDigits 16 c.args.word.now = grind (arith, common_steps, c.loop-digit.invariant.digits) in
    let number : c.loop-digit.number ≡ digits_value 16 c.args.word.now = grind (arith, common_steps, c.loop-digit.invariant.number) in
    ap Some number ∙ sym (spelled_some 16 c.args.word.now digits)

pub returns-clause-below : goal.returns-clause-below
returns-clause-below c =
    let digits : AllDigits 16 c.args.word.now = grind (arith, common_steps, c.loop-digit.invariant.digits) in
    let number : c.loop-digit.number ≡ digits_value 16 c.args.word.now = grind (arith, common_steps, c.loop-digit.invariant.number) in
    rw number (digits_value-lt 16 c.args.word.now digits)
