use Rattle.std.proofs.Common.{ℕ, zero, suc, ◌≡◌, ◌<◌, ◌≤◌, ◌+◌, ◌-◌, ◌⊎◌, inl, inr, Bool, true, false, List, [], ◌∷◌, ◌++◌, length, get_or, set, refl, ap, sym, ◌∙◌, cond, arith, replicate, nat_eq, take, drop}
use Rattle.std.specs.Prelude.{slice_get, Option, Some, None}
use Rattle.std.proofs.lemmas.Grind.{common_steps}
use Rattle.std.proofs.lemmas.Bool.Decides.{nat_tests}
use Rattle.std.proofs.lemmas.Bool.{cases_eq, cases_lt}
use Rattle.dr_logic.specs.Bytes.{zeros}
use Rattle.dr_logic.specs.Tables.{at}
use Rattle.dr_plant.specs.Model.{each, contents, device_block}
use Rattle.dr_plant.specs.Writes.{all_put, list_writes, listed}
use Rattle.dr_plant.proofs.BlocksLemmas.{all_put-inside, all_put-outside}
use Rattle.dr_plant.proofs.WriteLists.{all_put-apart}
use Rattle.dr_plant.specs.declared.device.Device.{Device}

-- a list with one element replaced is the function with that value changed
get-set : {X : Type 0} (none : X) (xs : List X) (k : ℕ) (x : X) → k < length xs → (q : ℕ) → get_or (set xs k x) q none ≡ cond (nat_eq q k) x (get_or xs q none)
get-set none xs k x h q = grind (arith, nat_tests, common_steps)

pub each-set : {X : Type 0} (none : X) (xs : List X) (k : ℕ) (x : X) → k < length xs → each none (set xs k x) ≡ at (each none xs) k x
each-set none xs k x h i q = get-set none xs k x h q i

-- one more device stands behind the others
get-push : (ds : List Device) (d : Device) (q : ℕ) → slice_get (ds ++ d ∷ []) q ≡ cond (nat_eq q (length ds)) (Some d) (slice_get ds q)
get-push [] d zero = refl
get-push [] d (suc q) = let e : false ≡ nat_eq (suc q) 0 = grind (arith, nat_tests) in ap (λ v. cond v (Some d) None) e
get-push (x ∷ ds) d zero = let e : false ≡ nat_eq 0 (suc (length ds)) = grind (arith, nat_tests) in ap (λ v. cond v (Some d) (Some x)) e
get-push (x ∷ ds) d (suc q) =
    let e : nat_eq q (length ds) ≡ nat_eq (suc q) (suc (length ds)) = grind (arith, nat_tests) in get-push ds d q ∙ ap (λ v. cond v (Some d) (slice_get ds q)) e

-- its blocks are zeros, and those of the others stay
blank-block : (n b : ℕ) → get_or (replicate n zeros) b zeros ≡ zeros
blank-block n b = grind (arith, common_steps)

pick : (v : Bool) (d : Device) (other : Option Device) (b : ℕ) → device_block (Some d) b ≡ zeros → device_block (cond v (Some d) other) b ≡ cond v (λ b. zeros) (device_block other) b
pick true d other b h = h
pick false d other b h = refl

pub contents-push : (ds : List Device) (d : Device) (n : ℕ) → d.blocks.items ≡ replicate n zeros → contents (ds ++ d ∷ []) ≡ at (contents ds) (length ds) (λ b. zeros)
contents-push ds d n e i q b =
    (ap (λ o. device_block o b) (get-push ds d q) ∙ pick (nat_eq q (length ds)) d (slice_get ds q) b (ap (λ xs. get_or xs b zeros) e ∙ blank-block n b)) i

slice_get-set : {X : Type 0} (xs : List X) (k : ℕ) (x : X) → k < length xs → (q : ℕ) → slice_get (set xs k x) q ≡ cond (nat_eq q k) (Some x) (slice_get xs q)
slice_get-set [] k x h q = absurd (omega arith)
slice_get-set (y ∷ xs) zero x h zero = refl
slice_get-set (y ∷ xs) zero x h (suc q) = let e : false ≡ nat_eq (suc q) 0 = grind (arith, nat_tests) in ap (λ v. cond v (Some x) (slice_get xs q)) e
slice_get-set (y ∷ xs) (suc k) x h zero = let e : false ≡ nat_eq 0 (suc k) = grind (arith, nat_tests) in ap (λ v. cond v (Some x) (Some y)) e
slice_get-set (y ∷ xs) (suc k) x h (suc q) =
    let e : nat_eq q k ≡ nat_eq (suc q) (suc k) = grind (arith, nat_tests) in slice_get-set xs k x (omega arith) q ∙ ap (λ v. cond v (Some x) (slice_get xs q)) e

-- the blocks of the devices once some of one device are replaced
module _ (ds : List Device) (dev b : ℕ) (o d : Device) (xs : List (List ℕ)) (lt : dev < length ds) (there : slice_get ds dev ≡ Some o) (fits : b + length xs ≤ length o.blocks.items) (is : d.blocks.items ≡ take b o.blocks.items ++ xs ++ drop (b + length xs) o.blocks.items) where
  abbrev puts : ℕ → ℕ → List ℕ
  puts = all_put (contents ds) dev (list_writes b xs)

  as-was : (q : ℕ) → (q < b) ⊎ (b + length xs ≤ q) → get_or o.blocks.items q zeros ≡ puts dev q
  as-was q out = ap (λ x. device_block x q) (sym there) ∙ sym (all_put-outside (contents ds) dev b 0 (length xs) (listed xs) dev q (beside out))
    where
      beside : (q < b) ⊎ (b + length xs ≤ q) → (q < b + 0) ⊎ (b + 0 + length xs ≤ q)
      beside (inl h) = inl (omega arith)
      beside (inr h) = inr (omega arith)

  -- before the first that is replaced, one of them, behind the last
  of-device : (q : ℕ) → get_or d.blocks.items q zeros ≡ puts dev q
  of-device q = elim (cases_lt q b) [
    | inl before ↦
        let kept : get_or d.blocks.items q zeros ≡ get_or o.blocks.items q zeros = rw is (grind (arith, common_steps)) in
        kept ∙ as-was q (inl before)
    | inr from ↦ elim (cases_lt q (b + length xs)) [
      | inl within ↦
          let new : get_or d.blocks.items q zeros ≡ get_or xs (q - b) [] = rw is (grind (arith, common_steps)) in
          let place : b + (q - b) ≡ q = omega arith in
          new ∙ sym (all_put-inside (contents ds) dev b 0 (length xs) (listed xs) (q - b) (omega arith) (omega arith)) ∙ ap (puts dev) place
      | inr behind ↦
          let kept : get_or d.blocks.items q zeros ≡ get_or o.blocks.items q zeros = rw is (grind (arith, common_steps)) in
          kept ∙ as-was q (inr behind)
    ]
  ]

  at-place : (p q : ℕ) → contents (set ds dev d) p q ≡ puts p q
  at-place p q =
      ap (λ x. device_block x q) (slice_get-set ds dev d lt p)
      ∙ elim (cases_eq p dev) [
        | inl e ↦
            let same : nat_eq p dev ≡ true = grind (arith, nat_tests) in
            ap (λ v. device_block (cond v (Some d) (slice_get ds p)) q) same ∙ of-device q ∙ ap (λ k. puts k q) (sym e)
        | inr ne ↦
            let other : nat_eq p dev ≡ false = grind (arith, nat_tests) in
            ap (λ v. device_block (cond v (Some d) (slice_get ds p)) q) other ∙ sym (all_put-apart (contents ds) dev (list_writes b xs) p q ne)
      ]

  pub contents-put : contents (set ds dev d) ≡ puts
  contents-put i p q = at-place p q i
