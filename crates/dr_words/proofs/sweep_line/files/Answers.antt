use Rattle.std.proofs.Common.{◌≡◌, ◌∙◌, ap, ap₂, codes, rules, Option, Some, None, max}
use Rattle.std.specs.Option.{IsSomeAnd}
use Rattle.clap.specs.Words.{rule_of}
use Rattle.clap.specs.declared.builder.range.ValueRange.{ValueRange}
use Rattle.dr_words.specs.Line.{value_rule}
use Rattle.dr_words.proofs.sweep_line.files.Goals as goal

abbrev two_to_three : ValueRange
two_to_three = record { start_inclusive = 2; end_inclusive = 3 }

ranged : (o : Option ValueRange) (range : ValueRange) → IsSomeAnd o (λ r. r ≡ range) → range ≡ two_to_three → o ≡ Some two_to_three
ranged (Some r) range is same = ap Some (is ∙ same)
ranged None range is same = absurd is

pub returns : goal.returns
returns c =
    let required_is : rule_of c.required.result ≡ value_rule (codes "files") = search rules in
    let range_is : c.num_args.result.num_vals ≡ Some two_to_three =
    ranged c.num_args.result.num_vals _ c.num_args.ensures.1 (ap₂ (λ least most. record { start_inclusive = least; end_inclusive = max most least }) c.new-2.ensures.start c.new-2.ensures.end) in
    (ap rule_of c.num_args.ensures.0 ∙ (λ i. record (required_is i) { range = range_is i }), search rules)
