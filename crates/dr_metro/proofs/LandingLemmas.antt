-- A track with bytes laid over it.
use Rattle.std.proofs.Common.{ℕ, ◌≡◌, ◌≢◌, ◌<◌, ◌≤◌, ◌+◌, ◌-◌, inl, inr, List, length, get_or, set, take, ap, ◌∙◌, sym, arith, true, false, ◌&&◌, cond, nat_lt, nat_le}
use Rattle.std.proofs.lemmas.Grind.{common_steps}
use Rattle.std.proofs.lemmas.Bool.Decides.{nat_tests, eqb_tells, leb_tells}
use Rattle.std.proofs.lemmas.List.{get_or-take, length-take-le}
use Rattle.std.proofs.lemmas.List.FromFn.{fill_by_all}
use Rattle.dr_model.specs.Contents.{laid, byte_laid}

within : (o k n : ℕ) → o ≤ k → k < o + n → (nat_le o k && nat_lt k (o + n)) ≡ true
within o k n a b = grind (arith, nat_tests)

before : (o k n : ℕ) → k < o → (nat_le o k && nat_lt k (o + n)) ≡ false
before o k n a = grind (arith, nat_tests)

behind : (o k n : ℕ) → o + n ≤ k → (nat_le o k && nat_lt k (o + n)) ≡ false
behind o k n a = grind (arith, nat_tests)

-- byte k once the first n bytes are laid: one of them, or an old byte
laid_in : (o n k : ℕ) (bytes old : List ℕ) → n ≤ length bytes → o ≤ k → k < o + n → byte_laid o (take n bytes) old k ≡ get_or bytes (k - o) 0
laid_in o n k bytes old fits a b =
    ap (λ m. cond (nat_le o k && nat_lt k (o + m)) (get_or (take n bytes) (k - o) 0) (get_or old k 0)) ((length-take-le n bytes fits))
    ∙ ap (λ p. cond p (get_or (take n bytes) (k - o) 0) (get_or old k 0)) (within o k n a b) ∙ get_or-take n bytes (k - o) 0 (omega arith)

laid_out : (o n k : ℕ) (bytes old : List ℕ) → n ≤ length bytes → (nat_le o k && nat_lt k (o + n)) ≡ false → byte_laid o (take n bytes) old k ≡ get_or old k 0
laid_out o n k bytes old fits a =
    ap (λ m. cond (nat_le o k && nat_lt k (o + m)) (get_or (take n bytes) (k - o) 0) (get_or old k 0)) ((length-take-le n bytes fits))
    ∙ ap (λ p. cond p (get_or (take n bytes) (k - o) 0) (get_or old k 0)) a

pub laid-none : (o k : ℕ) (bytes old : List ℕ) → get_or old k 0 ≡ byte_laid o (take 0 bytes) old k
laid-none o k bytes old = sym (laid_out o 0 k bytes old (omega arith) (elim (leb_tells o k) as (λ _. (nat_le o k && nat_lt k (o + 0)) ≡ false) [ inl p ↦ behind o k 0 (let h = p.1 in omega arith) | inr p ↦ before o k 0 (let h = p.1 in omega arith) ]))

other_place : (o i k : ℕ) (bytes old : List ℕ) → i < length bytes → k ≢ o + i → byte_laid o (take i bytes) old k ≡ byte_laid o (take (i + 1) bytes) old k
other_place o i k bytes old fits ne = elim (leb_tells o k) as (λ _. byte_laid o (take i bytes) old k ≡ byte_laid o (take (i + 1) bytes) old k) [
  | inl p ↦ elim (leb_tells (o + i) k) as (λ _. byte_laid o (take i bytes) old k ≡ byte_laid o (take (i + 1) bytes) old k) [
    | inl q ↦ laid_out o i k bytes old (omega arith) (behind o k i q.1) ∙ sym (laid_out o (i + 1) k bytes old (omega arith) (behind o k (i + 1) (let h = q.1 in omega arith)))
    | inr q ↦ laid_in o i k bytes old (omega arith) p.1 (let h = q.1 in omega arith) ∙ sym (laid_in o (i + 1) k bytes old (omega arith) p.1 (let h = q.1 in omega arith))
  ]
  | inr p ↦ laid_out o i k bytes old (omega arith) (before o k i (let h = p.1 in omega arith)) ∙ sym (laid_out o (i + 1) k bytes old (omega arith) (before o k (i + 1) (let h = p.1 in omega arith)))
]

-- one byte more
pub laid-more : (o i k : ℕ) (bytes old track : List ℕ) → i < length bytes → o + i < length track → get_or track k 0 ≡ byte_laid o (take i bytes) old k
    → get_or (set track (o + i) (get_or bytes i 0)) k 0 ≡ byte_laid o (take (i + 1) bytes) old k
laid-more o i k bytes old track fits lies h = elim (eqb_tells k (o + i)) as (λ _. get_or (set track (o + i) (get_or bytes i 0)) k 0 ≡ byte_laid o (take (i + 1) bytes) old k) [
  | inl p ↦
      let e = p.1 in
      let here : get_or (set track (o + i) (get_or bytes i 0)) k 0 ≡ get_or bytes i 0 = grind (arith, common_steps) in
      here ∙ sym (laid_in o (i + 1) k bytes old (omega arith) (omega arith) (omega arith) ∙ ap (λ n. get_or bytes n 0) (let m : k - o ≡ i = omega arith in m))
  | inr p ↦
      let ne = p.1 in
      let there : get_or (set track (o + i) (get_or bytes i 0)) k 0 ≡ get_or track k 0 = grind (arith, common_steps) in
      there ∙ h ∙ other_place o i k bytes old fits ne
]

pub laid-all : (o n : ℕ) (bytes old track : List ℕ) → length bytes ≤ n → length track ≡ 64 → ((k : ℕ) → k < 64 → get_or track k 0 ≡ byte_laid o (take n bytes) old k) → track ≡ laid o bytes old
unfolding laid
laid-all o n bytes old track all sized h =
    let whole : take n bytes ≡ bytes = grind (arith, common_steps) in
    fill_by_all (byte_laid o bytes old) track 64 0 sized (λ k lt. h k lt ∙ ap (λ bs. byte_laid o bs old k) whole)
