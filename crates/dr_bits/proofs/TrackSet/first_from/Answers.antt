use Rattle.std.proofs.Common.{ℕ, arith, sym, subst}
use Rattle.dr_lanes.specs.Words.{bits_of, IsNextFrom, HasNoneFrom}
use Rattle.dr_bits.proofs.Laws.{lowest_from-some, lowest_from-none}
use Rattle.dr_bits.proofs.WordLaws.{next_is_lowest}
use Rattle.dr_bits.proofs.TrackSet.first_from.Goals as goal

pub overflow_cast-result : goal.overflow_cast-result
overflow_cast-result c =
    let low = (next_is_lowest c.self.inside.words c.from.result c.in-Some.k c.self.invariant.four c.in-Some.ensures).in_range in
    record { fits = omega arith }

pub returns-in-Some : goal.returns-in-Some
returns-in-Some c =
    let next = subst (λ (t : ℕ). IsNextFrom (bits_of c.self.inside.words) t c.in-Some.k) c.from.ensures c.in-Some.ensures in
    let is = next_is_lowest c.self.inside.words c.args.t c.in-Some.k c.self.invariant.four next in
    rw (← c.self.view_is) record { lowest = is; value = sym (lowest_from-some _ _ _ is) }

pub returns-in-None : goal.returns-in-None
returns-in-None c =
    let none = subst (λ (t : ℕ). HasNoneFrom (bits_of c.self.inside.words) t) c.from.ensures c.in-None.ensures in
    rw (← c.self.view_is) record { lowest = none; value = sym (lowest_from-none _ _ none) }
