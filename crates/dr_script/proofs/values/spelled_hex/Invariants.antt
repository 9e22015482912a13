use Rattle.std.proofs.Common.{◌≡◌, take}
use Rattle.std.specs.Str.Parse.{AllDigits, digits_value}
use Rattle.dr_script.proofs.values.spelled_hex.Given as goal

abbrev pub invariant-loop-digit : goal.invariant-loop-digit
invariant-loop-digit l = record {
  digits : AllDigits 16 (take l.digit-index l.word);
  number : l.number ≡ digits_value 16 (take l.digit-index l.word);
}
