-- What is lost to a use, and the losses of uses one after another.
use Rattle.std.proofs.Common.{ℕ, ◌≡◌, min, take, length, arith, List, [], ◌∷◌, ◌++◌, refl, ap, ◌∙◌, Option, Some, None}
use Rattle.std.specs.Prelude.{IsTrue, IfSome, IfNone}
use Rattle.std.specs.List.Sorted.{IsPermutation, IsSorted}
use Rattle.std.specs.Ordering.{nat_cmp}
use Rattle.std.proofs.lemmas.List.{take_min}
use Rattle.dr_lost.specs.declared.broken.Broken.{Broken}
use Rattle.dr_lost.specs.Broken.{IsFirstBroken}
use Rattle.dr_model.specs.declared.event.Event.{Event}
use Rattle.dr_model.specs.Dependence.{DependsOn}
use Rattle.dr_plan.specs.Sweep.{Use as HostUse}
use Rattle.dr_rows.specs.Outcome.{Loss}
use Rattle.dr_sweep.specs.Acks.{among}
use Rattle.dr_sweep.specs.Losses.{IsBroken, IsLoss, AreLeast, AreLosses}

-- there is a broken pair, or none
pub broken-by : (events : List Event) (kept lost : List ℕ) (b : Option Broken) → IfSome b (λ x. IsFirstBroken events (among kept) (among lost) x.held x.lost) → IfNone b ((w u : ℕ) → IsTrue (among kept w) → IsTrue (among lost u) → DependsOn events w u → ⊥) → IsBroken events kept lost b
broken-by events kept lost (Some b) found none = found
broken-by events kept lost None found none = none

-- the loss of one use more
pub losses-more : (events : List Event) (begin : ℕ) (uses : List HostUse) (u : HostUse) (losses : List Loss) (loss : Loss) → AreLosses events begin uses losses → IsLoss events begin u.pairs loss → AreLosses events begin (uses ++ u ∷ []) (losses ++ loss ∷ [])
losses-more events begin [] u losses loss are is = (loss, [], ap (λ (ls : List Loss). ls ++ loss ∷ []) are, is, refl)
losses-more events begin (v ∷ uses) u losses loss are is =
    (are.0, are.1 ++ loss ∷ [], ap (λ (ls : List Loss). ls ++ loss ∷ []) are.2, are.3, losses-more events begin uses u are.1 loss are.4 is)

-- the first of some numbers in order
pub least-are : (numbers ordered xs : List ℕ) (n len : ℕ) → IsPermutation numbers ordered → IsSorted nat_cmp ordered → len ≡ length ordered → n ≡ min len 16 → xs ≡ take n ordered → AreLeast numbers xs
least-are numbers ordered xs n len same ascending counts few are = record {
  ordered = ordered;
  same = same;
  ascending = ascending;
  first = are ∙ ap (λ k. take k ordered) (few ∙ ap (λ k. min k 16) counts ∙ (let swapped : min (length ordered) 16 ≡ min 16 (length ordered) = omega arith in swapped)) ∙ take_min 16 ordered;
}
