use Rattle.std.proofs.Common.{◌≡◌, ℕ, ◌<◌, false, get_or, arith, ◌∙◌, sym, ap, Some}
use Rattle.std.proofs.lemmas.Grind.{common_steps}
use Rattle.std.proofs.lemmas.Int.Digits.{digits_value-lt, digits_value_more, digits_more}
use Rattle.std.specs.Char.{digit_value, is_digit}
use Rattle.std.specs.Str.Parse.{AllDigits, digits_value}
use Rattle.dr_ids.proofs.Digits.{digit_below, digit_fits, digit_is, no_digit, spelled_none, spelled_some}
use Rattle.dr_ids.proofs.words.spelled_number.Goals as goal

pub returns-in_err-value-clause-value : goal.returns-in_err-value-clause-value
returns-in_err-value-clause-value c =
    let digit : ℕ = get_or c.args.word.now c.loop-digit.digit-index 0 in
    let odd : is_digit digit c.args.radix ≡ false = no_digit c.args.radix digit c.in_err-value.ensures in
    c.from_residual.ensures ∙ sym (spelled_none c.args.radix c.args.word.now c.loop-digit.digit-index c.loop-digit-test.true odd)

pub overflow_mul-number : goal.overflow_mul-number
overflow_mul-number c =
    let digit : ℕ = get_or c.args.word.now c.loop-digit.digit-index 0 in
    let low : digit_value digit < c.args.radix = digit_below c.args.radix digit c.in_ok-value.value c.in_ok-value.ensures in
    let fits = digit_fits c.args.radix c.args.word.now c.loop-digit.digit-index c.requires.radix c.requires.short c.loop-digit-test.true c.loop-digit.invariant.digits low in
    rw (c.from.ensures, c.loop-digit.invariant.number) (omega arith)

pub overflow_add-number : goal.overflow_add-number
overflow_add-number c =
    let digit : ℕ = get_or c.args.word.now c.loop-digit.digit-index 0 in
    let low : digit_value digit < c.args.radix = digit_below c.args.radix digit c.in_ok-value.value c.in_ok-value.ensures in
    let is : c.in_ok-value.value ≡ digit_value digit = digit_is c.args.radix digit c.in_ok-value.value c.in_ok-value.ensures in
    let fits = digit_fits c.args.radix c.args.word.now c.loop-digit.digit-index c.requires.radix c.requires.short c.loop-digit-test.true c.loop-digit.invariant.digits low in
    rw (c.from.ensures, c.loop-digit.invariant.number, c.from-in-loop-digit.ensures, is) (omega arith)

pub loop-digit-preserved : goal.loop-digit-preserved
loop-digit-preserved c =
    let digit : ℕ = get_or c.args.word.now c.loop-digit.digit-index 0 in
    let low : digit_value digit < c.args.radix = digit_below c.args.radix digit c.in_ok-value.value c.in_ok-value.ensures in
    let is : c.in_ok-value.value ≡ digit_value digit = digit_is c.args.radix digit c.in_ok-value.value c.in_ok-value.ensures in
    record {
      digits = digits_more c.args.radix c.args.word.now c.loop-digit.digit-index c.loop-digit-test.true c.loop-digit.invariant.digits low;
      number = rw (c.from.ensures, c.loop-digit.invariant.number, c.from-in-loop-digit.ensures, is, digits_value_more c.args.radix c.args.word.now c.loop-digit.digit-index c.loop-digit-test.true);
    }

pub returns-clause-value : goal.returns-clause-value
returns-clause-value c =
    let digits : AllDigits c.args.radix c.args.word.now = grind (arith, common_steps, c.loop-digit.invariant.digits) in
    let number : c.loop-digit.number ≡ digits_value c.args.radix c.args.word.now = grind (arith, common_steps, c.loop-digit.invariant.number) in
    ap Some number ∙ sym (spelled_some c.args.radix c.args.word.now digits)

pub returns-clause-below : goal.returns-clause-below
returns-clause-below c =
    let digits : AllDigits c.args.radix c.args.word.now = grind (arith, common_steps, c.loop-digit.invariant.digits) in
    let number : c.loop-digit.number ≡ digits_value c.args.radix c.args.word.now = grind (arith, common_steps, c.loop-digit.invariant.number) in
    rw number (digits_value-lt c.args.radix c.args.word.now digits)
