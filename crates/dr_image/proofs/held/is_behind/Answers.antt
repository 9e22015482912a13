use Rattle.std.proofs.Common.{◌≡◌, ◌-◌, ℕ, length, List, [], ◌∷◌, sym, ap, ◌∙◌, arith, Some, nat_lt}
use Rattle.std.specs.List.{slice_get, list_all}
use Rattle.std.specs.Option.{option_map}
use Rattle.std.proofs.lemmas.Option.{slice_get-map}
use Rattle.std.proofs.lemmas.List.{length-map}
use Rattle.dr_image.specs.declared.held.KeptBlock.{KeptBlock}
use Rattle.dr_image.specs.Shown.{all_kept, kept}
use Rattle.dr_image.proofs.OrderLemmas.{InOrder, behind_last}
use Rattle.dr_image.proofs.held.is_behind.Goals as goal

some_last : (n : ℕ) (bs : List KeptBlock) (b : KeptBlock) → InOrder (all_kept bs) → Some b ≡ slice_get bs (length bs - 1) → nat_lt b.index n ≡ list_all (λ c. nat_lt c.index n) (all_kept bs)
some_last n [] b o e = cc
some_last n (c ∷ cs) b o e =
    let bs : List KeptBlock = c ∷ cs in
    sym (behind_last n (length bs - 1) (all_kept bs) (kept b) o (let e' = length-map bs kept in omega arith) (slice_get-map kept bs (length bs - 1) ∙ ap (option_map kept) (sym e)))

pub returns-in-Some : goal.returns-in-Some
returns-in-Some c = ap (λ k. nat_lt k c.args.index) c.from.ensures ∙ some_last c.args.index c.args.blocks.now c.in-Some.block.now c.requires c.in-Some.ensures.value
