use Rattle.std.proofs.Common.{◌∙◌, ◌%◌, ◌/◌, sym, ap, nat_eq, arith, get_or}
use Rattle.std.proofs.lemmas.Nat.Bits.{shr_and_one}
use Rattle.dr_lanes.proofs.Members.{contains-bits_of}
use Rattle.dr_bits.specs.Membership.{lt_false}
use Rattle.dr_bits.proofs.WordLaws.{in_range-bits_of}
use Rattle.dr_bits.proofs.TrackSet.contains.Goals as goal

pub returns-then-at-lt-WORDS : goal.returns-then-at-lt-WORDS
returns-then-at-lt-WORDS c = rw (← c.self.view_is) record {
  found = ap (λ b. nat_eq b 1) (shr_and_one (get_or c.self.inside.words (c.args.t / 64) 0) (c.args.t % 64)) ∙ sym (contains-bits_of c.self.inside.words c.args.t);
  in_range = in_range-bits_of c.self.inside.words c.self.invariant.four;
}

pub returns-else-at-lt-WORDS : goal.returns-else-at-lt-WORDS
returns-else-at-lt-WORDS c =
    let past = c.if-at-lt-WORDS.false in
    rw (← c.self.view_is) record {
      found = lt_false (c.args.t / 64) 4 past ∙ sym (in_range-bits_of c.self.inside.words c.self.invariant.four c.args.t (omega arith));
      in_range = in_range-bits_of c.self.inside.words c.self.invariant.four;
    }
