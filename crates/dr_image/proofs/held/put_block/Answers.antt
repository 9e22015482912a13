use Rattle.std.proofs.Common.{◌≡◌, ◌≤◌, ◌++◌, ℕ, Bool, not, List, suc, length, ap, sym, ◌∙◌, take, drop, true, false, nat_le, arith}
use Rattle.std.proofs.lemmas.List.{length-map}
use Rattle.std.proofs.lemmas.List.Sums.{prefix_len-le-length}
use Rattle.std.proofs.lemmas.Result.{on_ok_weaker}
use Rattle.dr_model.specs.PlantImage.{Kept}
use Rattle.dr_image.specs.Shown.{kept, all_kept, place, stands_at, if_kept, put}
use Rattle.dr_image.specs.declared.held.KeptBlock.{KeptBlock}
use Rattle.dr_image.proofs.OrderLemmas.{InOrder, put-standing, put-fresh}
use Rattle.dr_image.proofs.held.put_block.Goals as goal

place_within : (k : ℕ) (bs : List KeptBlock) → place k (all_kept bs) ≤ length bs
place_within k bs =
    let le = prefix_len-le-length (λ (b : Kept). not (nat_le k b.index)) (all_kept bs) in
    let same = length-map bs kept in
    omega arith

stood : (k at : ℕ) (bs seen : List KeptBlock) (is : Bool) → at ≡ place k (all_kept bs) → seen ≡ bs → is ≡ stands_at (all_kept seen) at k → stands_at (all_kept bs) (place k (all_kept bs)) k ≡ is
stood k at bs seen is there same e = ap (λ p. stands_at (all_kept bs) p k) (sym there) ∙ ap (λ xs. stands_at (all_kept xs) at k) (sym same) ∙ sym e

replaced : (k at : ℕ) (bytes : List ℕ) (bs seen : List KeptBlock) (new : List Kept) → InOrder (all_kept bs) → at ≡ place k (all_kept bs) → seen ≡ bs → true ≡ stands_at (all_kept seen) at k
    → new ≡ take at (all_kept bs) ++ if_kept k bytes ++ drop (suc at) (all_kept bs) → new ≡ put k bytes (all_kept bs)
replaced k at bytes bs seen new o there same e is =
    is ∙ ap (λ p. take p (all_kept bs) ++ if_kept k bytes ++ drop (suc p) (all_kept bs)) there ∙ sym (put-standing k bytes (all_kept bs) o (stood k at bs seen true there same e))

inserted : (k at : ℕ) (bytes : List ℕ) (bs seen : List KeptBlock) (new : List Kept) → InOrder (all_kept bs) → at ≡ place k (all_kept bs) → seen ≡ bs → false ≡ stands_at (all_kept seen) at k
    → new ≡ take at (all_kept bs) ++ if_kept k bytes ++ drop at (all_kept bs) → new ≡ put k bytes (all_kept bs)
inserted k at bytes bs seen new o there same e is =
    is ∙ ap (λ p. take p (all_kept bs) ++ if_kept k bytes ++ drop p (all_kept bs)) there ∙ sym (put-fresh k bytes (all_kept bs) o (stood k at bs seen false there same e))

pub insert_at-requires : goal.insert_at-requires
insert_at-requires c =
    let there = c.place_from-at.ensures ∙ ap (λ bs. place c.args.index (all_kept bs)) c.deref.ensures.value in
    let within = place_within c.args.index c.args.blocks.now.items in
    omega arith

pub returns-then-stands_at-clause-ok : goal.returns-then-stands_at-clause-ok
returns-then-stands_at-clause-ok c =
    replaced c.args.index c.place_from-at.result c.args.bytes.now c.args.blocks.now.items c.deref-2.result.now _ c.requires
    (c.place_from-at.ensures ∙ ap (λ bs. place c.args.index (all_kept bs)) c.deref.ensures.value) c.deref-2.ensures.value c.if-stands_at.ensures c.replace_at.ensures

pub returns-else-stands_at-clause-ok : goal.returns-else-stands_at-clause-ok
returns-else-stands_at-clause-ok c =
    on_ok_weaker c.insert_at.result
    (inserted c.args.index c.place_from-at.result c.args.bytes.now c.args.blocks.now.items c.deref-2.result.now _ c.requires
    (c.place_from-at.ensures ∙ ap (λ bs. place c.args.index (all_kept bs)) c.deref.ensures.value) c.deref-2.ensures.value c.if-stands_at.ensures)
    c.insert_at.ensures.ok
