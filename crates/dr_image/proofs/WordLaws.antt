-- What a word says is what is written for it, and the other way round.
use Rattle.std.proofs.Common.{ℕ, zero, suc, ◌≡◌, ◌≢◌, ◌<◌, ◌≤◌, ◌+◌, ◌-◌, ◌*◌, ◌/◌, ◌%◌, ◌^◌, List, [], ◌∷◌, ◌++◌, length, get_or, replicate, refl, ap, ◌∙◌, sym, subst, arith, Bool, true, false, not, ◌&&◌, nat_eq, nat_lt, nat_le, Some, None, Option, ◌⊎◌, inl, inr}
use Rattle.std.specs.Prelude.{All, if◌then◌else◌}
use Rattle.std.specs.Fmt.{decimal}
use Rattle.std.specs.Char.{digit_value, is_digit}
use Rattle.std.specs.Str.Parse.{AllDigits, digits_value}
use Rattle.std.proofs.lemmas.Bool.Decides.{nat_tests}
use Rattle.std.proofs.lemmas.Grind.{common_steps}
use Rattle.std.proofs.lemmas.Fmt.{decimal_is_IsNumeral, decimal-digits_value, length-decimal-le, first_decimal, decimal_digit}
use Rattle.std.proofs.lemmas.Str.Parse.{IsNumeralModel}
use Rattle.std.proofs.lemmas.List.Elements.{All-nil, All-cons, All-head, All-tail, All-append, All-replicate}
use Rattle.std.proofs.lemmas.Bool.{not-true, and_parts}
use Rattle.dr_ids.specs.Spelling.{digit_in, upper_digit, spelled, all_digits, up_to, hex2, hex4}
use Rattle.dr_ids.proofs.Digits.{digit_in-upper_digit, digits_each, spelled_some}
use Rattle.dr_model.specs.LineText.{bytes_text}
use Rattle.dr_model.specs.LineWords.{◌>>=◌, decimal_word}
use Rattle.dr_model.specs.Text.{trimmed, before_trimmed}
use Rattle.dr_model.specs.PlantImage.{upper_value, upper_pair, upper_bytes, id_word, has_leading_zero, plain_word, ends_kept, kept_of, kept_word}
use Rattle.dr_image.proofs.BytesLemmas.{padded}
use Rattle.dr_facts.proofs.Options.{bound}

-- a choice that gave a value
pub passed : {X : Type 0} (test : Bool) (o : Option X) (y : X) → (if test then o else None) ≡ Some y → (test ≡ true) × (o ≡ Some y)
passed true o y e = (refl, e)
passed false o y e = absurd (cc)

pub refused : {X : Type 0} (test : Bool) (o : Option X) (y : X) → (if test then None else o) ≡ Some y → (test ≡ false) × (o ≡ Some y)
refused false o y e = (refl, e)
refused true o y e = absurd (cc)

-- digits
digit_of : (d n : ℕ) → d < 97 → digit_value d < 16 → digit_value d ≡ n → (d ≡ upper_digit n) × (n < 16)
digit_of d n low small is = ((grind (arith, common_steps, nat_tests)), (omega arith))

pub upper_value-is : (d n : ℕ) → upper_value d ≡ Some n → (d ≡ upper_digit n) × (n < 16)
upper_value-is d n e =
    let p = passed (nat_lt d 97) (digit_in 16 d) n e in
    let q = passed (is_digit d 16) (Some (digit_value d)) n p.1 in
    let low : d < 97 = grind (arith, nat_tests, p.0) in
    let small : digit_value d < 16 = grind (arith, nat_tests, q.0) in
    let is : digit_value d ≡ n = (let s = q.1 in cc) in
    digit_of d n low small is

pub upper_value-digit : (n : ℕ) → n < 16 → upper_value (upper_digit n) ≡ Some n
upper_value-digit n lt =
    let low : nat_lt (upper_digit n) 97 ≡ true = grind (arith, common_steps, nat_tests) in
    ap (λ v. if v then digit_in 16 (upper_digit n) else None) low ∙ digit_in-upper_digit n lt

-- bytes
pub upper_pair-is : (a b n : ℕ) → upper_pair a b ≡ Some n → (a ∷ b ∷ [] ≡ hex2 n) × (n < 256)
upper_pair-is a b n e =
    let h = bound (upper_value a) _ n e in
    let l = bound (upper_value b) _ n h.2 in
    let hi = upper_value-is a h.0 h.1 in
    let lo = upper_value-is b l.0 l.1 in
    let small_h : h.0 < 16 = hi.1 in
    let small_l : l.0 < 16 = lo.1 in
    let is : h.0 * 16 + l.0 ≡ n = (let s = l.2 in cc) in
    let high : h.0 ≡ n / 16 = omega arith in
    let low : l.0 ≡ n % 16 = omega arith in
    ((λ i. (hi.0 ∙ ap upper_digit high) i ∷ (lo.0 ∙ ap upper_digit low) i ∷ []), omega arith)

pub upper_pair-hex2 : (n : ℕ) → n < 256 → upper_pair (upper_digit (n / 16)) (upper_digit (n % 16)) ≡ Some n
upper_pair-hex2 n lt =
    ap (λ o. o >>= λ h. upper_value (upper_digit (n % 16)) >>= λ l. Some (h * 16 + l)) (upper_value-digit (n / 16) (omega arith))
    ∙ ap (λ o. o >>= λ l. Some (n / 16 * 16 + l)) (upper_value-digit (n % 16) (omega arith))
    ∙ ap Some (let s : n / 16 * 16 + n % 16 ≡ n = omega arith in s)

pub upper_bytes-is : (w bs : List ℕ) → upper_bytes w ≡ Some bs → (w ≡ bytes_text bs) × All (λ b. b < 256) bs
upper_bytes-is [] bs e = let none : [] ≡ bs = cc in (ap bytes_text none, subst (λ (xs : List ℕ). All (λ b. b < 256) xs) none (All-nil (λ b. b < 256)))
upper_bytes-is (a ∷ []) bs e = absurd (cc)
upper_bytes-is (a ∷ b ∷ rest) bs e =
    let first = bound (upper_pair a b) _ bs e in
    let more = bound (upper_bytes rest) _ bs first.2 in
    let pair = upper_pair-is a b first.0 first.1 in
    let others = upper_bytes-is rest more.0 more.1 in
    let is : first.0 ∷ more.0 ≡ bs = (let s = more.2 in cc) in
    (ap (λ xs. xs ++ rest) pair.0 ∙ ap (λ xs. hex2 first.0 ++ xs) others.0 ∙ ap bytes_text is, subst (λ (xs : List ℕ). All (λ x. x < 256) xs) is (All-cons (λ x. x < 256) first.0 more.0 pair.1 others.1))

pub upper_bytes-text : (bs : List ℕ) → All (λ b. b < 256) bs → upper_bytes (bytes_text bs) ≡ Some bs
upper_bytes-text [] all = refl
upper_bytes-text (b ∷ bs) all =
    ap (λ o. o >>= λ x. upper_bytes (bytes_text bs) >>= λ xs. Some (x ∷ xs)) (upper_pair-hex2 b (All-head (λ x. x < 256) b bs all))
    ∙ ap (λ o. o >>= λ xs. Some (b ∷ xs)) (upper_bytes-text bs (All-tail (λ x. x < 256) b bs all))

-- volumes
pub id_word-is : (w : List ℕ) (v : ℕ) → id_word w ≡ Some v → (w ≡ hex4 v) × (v < 65536)
id_word-is [] v e = absurd (cc)
id_word-is (a ∷ []) v e = absurd (cc)
id_word-is (a ∷ b ∷ []) v e = absurd (cc)
id_word-is (a ∷ b ∷ c ∷ []) v e = absurd (cc)
id_word-is (a ∷ b ∷ c ∷ d ∷ x ∷ xs) v e = absurd (cc)
id_word-is (a ∷ b ∷ c ∷ d ∷ []) v e =
    let h = bound (upper_pair a b) _ v e in
    let l = bound (upper_pair c d) _ v h.2 in
    let hi = upper_pair-is a b h.0 h.1 in
    let lo = upper_pair-is c d l.0 l.1 in
    let small_h : h.0 < 256 = hi.1 in
    let small_l : l.0 < 256 = lo.1 in
    let is : h.0 * 256 + l.0 ≡ v = (let s = l.2 in cc) in
    let high : h.0 ≡ v / 256 = omega arith in
    let low : l.0 ≡ v % 256 = omega arith in
    (ap (λ xs. xs ++ c ∷ d ∷ []) (hi.0 ∙ ap hex2 high) ∙ ap (λ xs. hex2 (v / 256) ++ xs) (lo.0 ∙ ap hex2 low), omega arith)

pub id_word-hex4 : (v : ℕ) → v < 65536 → id_word (hex4 v) ≡ Some v
id_word-hex4 v lt =
    ap (λ o. o >>= λ high. upper_pair (upper_digit (v % 256 / 16)) (upper_digit (v % 256 % 16)) >>= λ low. Some (high * 256 + low)) (upper_pair-hex2 (v / 256) (omega arith))
    ∙ ap (λ o. o >>= λ low. Some (v / 256 * 256 + low)) (upper_pair-hex2 (v % 256) (omega arith))
    ∙ ap Some (let s : v / 256 * 256 + v % 256 ≡ v = omega arith in s)

-- numbers
own : IsNumeralModel (AllDigits 10) (digits_value 10)
own = record { to = λ ds d. d; from = λ ds d. d; same = λ ds d. refl }

one_digit : (w : List ℕ) → has_leading_zero w ≡ false → 0 < length w → get_or w 0 0 ≡ 48 → length w ≡ 1
one_digit [] plain some z = absurd (omega arith)
one_digit (d ∷ []) plain some z = refl
one_digit (d ∷ e ∷ ds) plain some z = absurd (grind (arith, nat_tests, plain, z))

up_to-is : (most : ℕ) (o : Option ℕ) (n : ℕ) → up_to most o ≡ Some n → (o ≡ Some n) × (n ≤ most)
up_to-is most None n e = absurd (cc)
up_to-is most (Some m) n e =
    let p = passed (nat_le m most) (Some m) n e in
    let same : m ≡ n = (let s = p.1 in cc) in
    (p.1, (let t = p.0 in grind (arith, nat_tests)))

pub plain_word-is : (w : List ℕ) (n : ℕ) → plain_word w ≡ Some n → (w ≡ decimal n) × (n < 2 ^ 32)
plain_word-is w n e =
    let p = refused (has_leading_zero w) (decimal_word w) n e in
    let q = passed (nat_le 1 (length w) && nat_le (length w) 10) (up_to (2 ^ 32 - 1) (spelled 10 w)) n p.1 in
    let u = up_to-is (2 ^ 32 - 1) (spelled 10 w) n q.1 in
    let s = passed (all_digits 10 w) (Some (digits_value 10 w)) n u.0 in
    let is : digits_value 10 w ≡ n = (let t = s.1 in cc) in
    let some : 0 < length w = grind (arith, nat_tests, q.0) in
    let below : n < 2 ^ 32 = (let t = u.1 in omega arith) in
    (sym (decimal-digits_value own w (digits_each 10 w s.0) some (one_digit w p.0 some) (let b = below in omega arith)) ∙ ap decimal is, below)

no_leading : (w : List ℕ) → (length w ≡ 1) ⊎ (48 < get_or w 0 0) → has_leading_zero w ≡ false
no_leading [] h = refl
no_leading (d ∷ []) h = refl
no_leading (d ∷ e ∷ ds) (inl one) = absurd (omega arith)
no_leading (d ∷ e ∷ ds) (inr above) = grind (arith, nat_tests)

leading : (n : ℕ) → n < 2 ^ 32 → (length (decimal n) ≡ 1) ⊎ (48 < get_or (decimal n) 0 0)
leading zero lt = inl (ap length (decimal_digit 0 (omega arith)))
leading (suc k) lt = inr (first_decimal (suc k) (omega arith) (omega arith))

pub plain_word-decimal : (n : ℕ) → n < 2 ^ 32 → plain_word (decimal n) ≡ Some n
plain_word-decimal n lt =
    let p = decimal_is_IsNumeral n (omega arith) in
    let few = length-decimal-le 10 n (omega arith) (omega arith) (omega arith) in
    let some : 0 < length (decimal n) = p.0.0 in
    let lead : has_leading_zero (decimal n) ≡ false = no_leading (decimal n) (leading n lt) in
    let test : (nat_le 1 (length (decimal n)) && nat_le (length (decimal n)) 10) ≡ true = grind (arith, nat_tests, some, few) in
    let fits : nat_le n (2 ^ 32 - 1) ≡ true = grind (arith, nat_tests, lt) in
    ap (λ v. if v then None else decimal_word (decimal n)) lead
    ∙ ap (λ v. if v then up_to (2 ^ 32 - 1) (spelled 10 (decimal n)) else None) test
    ∙ ap (up_to (2 ^ 32 - 1)) (spelled_some 10 (decimal n) p.0.1 ∙ ap Some p.1)
    ∙ ap (λ v. if v then Some n else None) fits

all_front : (xs ys : List ℕ) → All (λ x. x < 256) (xs ++ ys) → All (λ x. x < 256) xs
all_front [] ys all = All-nil (λ x. x < 256)
all_front (x ∷ xs) ys all = All-cons (λ y. y < 256) x xs (All-head (λ y. y < 256) x (xs ++ ys) all) (all_front xs ys (All-tail (λ y. y < 256) x (xs ++ ys) all))

length-padded : (bs : List ℕ) → length bs ≤ 64 → length (padded bs) ≡ 64
length-padded bs few = grind (arith, common_steps)

not_kept : (bs : List ℕ) → bs ≡ [] → ends_kept bs ≡ true → ⊥
not_kept bs none ends = let e = ap ends_kept none in cc

trimmed-zeros : (n : ℕ) → trimmed (replicate n 0) ≡ []
trimmed-zeros zero = refl
trimmed-zeros (suc n) = ap (before_trimmed 0) (trimmed-zeros n)

-- bytes that end without a zero stay as they are, whatever zeros follow
pub trimmed-ends : (bs : List ℕ) (n : ℕ) → ends_kept bs ≡ true → trimmed (bs ++ replicate n 0) ≡ bs
trimmed-ends [] n e = absurd (cc)
trimmed-ends (b ∷ []) n e =
    let some : nat_eq b 0 ≡ false = not-true (nat_eq b 0) e in
    ap (before_trimmed b) (trimmed-zeros n) ∙ ap (λ v. if v then [] else b ∷ []) some
trimmed-ends (b ∷ c ∷ cs) n e = ap (before_trimmed b) (trimmed-ends (c ∷ cs) n e)

onto-ends : (b : ℕ) (bs : List ℕ) → (bs ≡ []) ⊎ (ends_kept bs ≡ true) → (before_trimmed b bs ≡ []) ⊎ (ends_kept (before_trimmed b bs) ≡ true)
onto-ends b [] h = elim (nat_eq b 0) as (λ v. nat_eq b 0 ≡ v → ((if v then [] else b ∷ []) ≡ []) ⊎ (ends_kept (if v then [] else b ∷ []) ≡ true)) [ true ↦ λ e. inl refl | false ↦ λ e. inr (ap not e) ] refl
onto-ends b (c ∷ cs) (inl e) = absurd (cc)
onto-ends b (c ∷ cs) (inr e) = inr e

-- what is trimmed ends without a zero, or is nothing
pub trimmed_ends : (bs : List ℕ) → (trimmed bs ≡ []) ⊎ (ends_kept (trimmed bs) ≡ true)
trimmed_ends [] = inl refl
trimmed_ends (b ∷ bs) = onto-ends b (trimmed bs) (trimmed_ends bs)

-- what is trimmed, with zeros behind it
onto-length : (b : ℕ) (bs : List ℕ) → length (before_trimmed b bs) ≤ suc (length bs)
onto-length b [] = elim (nat_eq b 0) as (λ v. length {A = ℕ} (if v then [] else b ∷ []) ≤ 1) [ true ↦ omega arith | false ↦ omega arith ]
onto-length b (c ∷ cs) = omega arith

pub length-trimmed : (bs : List ℕ) → length (trimmed bs) ≤ length bs
length-trimmed [] = omega arith
length-trimmed (b ∷ bs) = let i = length-trimmed bs in let o = onto-length b (trimmed bs) in omega arith

onto-filled : (b n : ℕ) (bs : List ℕ) → length bs ≤ n → before_trimmed b bs ++ replicate (suc n - length (before_trimmed b bs)) 0 ≡ b ∷ bs ++ replicate (n - length bs) 0
onto-filled b n [] le =
    elim (nat_eq b 0) as (λ v. nat_eq b 0 ≡ v → (if v then [] else b ∷ []) ++ replicate (suc n - length {A = ℕ} (if v then [] else b ∷ [])) 0 ≡ b ∷ replicate (n - 0) 0) [
      | true ↦ λ e.
          let zero_byte : 0 ≡ b = grind (arith, nat_tests, e) in
          let s : suc n - 0 ≡ suc (n - 0) = omega arith in
          ap (λ k. replicate k 0) s ∙ ap (λ x. x ∷ replicate (n - 0) 0) zero_byte
      | false ↦ λ e. let s : suc n - 1 ≡ n - 0 = omega arith in ap (λ k. b ∷ replicate k 0) s
    ] refl
onto-filled b n (c ∷ cs) le = let s : suc n - suc (suc (length cs)) ≡ n - suc (length cs) = omega arith in ap (λ k. b ∷ c ∷ cs ++ replicate k 0) s

pub filled : (bs : List ℕ) → trimmed bs ++ replicate (length bs - length (trimmed bs)) 0 ≡ bs
filled [] = refl
filled (b ∷ bs) = onto-filled b (length bs) (trimmed bs) (length-trimmed bs) ∙ ap (λ t. b ∷ t) (filled bs)

-- a block that isn't all zero
pub record IsBlock (b : List ℕ) : Type 0 where
  pub whole : length b ≡ 64
  pub bytes : All (λ x. x < 256) b
  pub some : trimmed b ≢ []

pub kept_word-text : (b : List ℕ) → IsBlock b → kept_word (bytes_text (trimmed b)) ≡ Some b
kept_word-text b is =
    let t : List ℕ = trimmed b in
    let full : padded t ≡ b = ap (λ n. t ++ replicate (n - length t) 0) (sym is.whole) ∙ filled b in
    let few : length t ≤ 64 = (let l = length-trimmed b in let w = is.whole in omega arith) in
    let fits : nat_le (length t) 64 ≡ true = grind (arith, nat_tests, few) in
    let ends : ends_kept t ≡ true = elim (trimmed_ends b) [ inl e ↦ absurd (is.some e) | inr e ↦ e ] in
    ap (λ o. o >>= kept_of) (upper_bytes-text t (all_front t (replicate (64 - length t) 0) (subst (λ (xs : List ℕ). All (λ x. x < 256) xs) (sym full) is.bytes)))
    ∙ ap (λ v. if v && ends_kept t then Some (padded t) else None) fits ∙ ap (λ v. if v then Some (padded t) else None) ends ∙ ap Some full

pub kept_word-is : (w b : List ℕ) → kept_word w ≡ Some b → (w ≡ bytes_text (trimmed b)) × IsBlock b
kept_word-is w b e =
    let p = bound (upper_bytes w) kept_of b e in
    let bs : List ℕ = p.0 in
    let q = passed (nat_le (length bs) 64 && ends_kept bs) (Some (padded bs)) b p.2 in
    let t = and_parts (nat_le (length bs) 64) (ends_kept bs) q.0 in
    let few : length bs ≤ 64 = (let f = t.0 in grind (arith, nat_tests)) in
    let is : padded bs ≡ b = (let s = q.1 in cc) in
    let same : trimmed b ≡ bs = ap trimmed (sym is) ∙ trimmed-ends bs (64 - length bs) t.1 in
    let u = upper_bytes-is w bs p.1 in (
      u.0 ∙ ap bytes_text (sym same),
      record {
        whole = ap length (sym is) ∙ length-padded bs few;
        bytes = subst (λ (xs : List ℕ). All (λ x. x < 256) xs) is (All-append (λ x. x < 256) bs (replicate (64 - length bs) 0) u.1 (All-replicate (λ x. x < 256) (64 - length bs) 0 (omega arith)));
        some = λ none. not_kept bs (sym same ∙ none) t.1;
      },
    )
