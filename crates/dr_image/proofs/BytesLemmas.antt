-- Bytes that are read from hexadecimal digits, pair by pair.
use Rattle.std.proofs.Common.{ℕ, suc, ◌≡◌, ◌≢◌, ◌<◌, ◌≤◌, ◌+◌, ◌*◌, ◌-◌, ◌/◌, List, [], ◌∷◌, ◌++◌, take, drop, drop-cons, add-one, set, length, get_or, replicate, refl, ap, ◌∙◌, sym, arith, Bool, true, false, not, ◌&&◌, nat_eq, nat_le, Some, None, Option, append_assoc}
use Rattle.std.specs.Prelude.{if◌then◌else◌}
use Rattle.std.proofs.lemmas.Bool.Decides.{nat_tests}
use Rattle.std.proofs.lemmas.Grind.{common_steps}
use Rattle.std.proofs.lemmas.List.{take_more_set, drop-replicate, drop-drop, drop-set-lt}
use Rattle.std.specs.Option.{option_map}
use Rattle.dr_logic.specs.Bytes.{zeros}
use Rattle.dr_model.specs.LineWords.{◌>>=◌}
use Rattle.dr_model.specs.PlantImage.{upper_pair, upper_bytes, ends_kept, kept_of, kept_word}
use Rattle.dr_facts.proofs.Options.{bound}

pub length-zeros : length zeros ≡ 64
unfolding zeros
length-zeros = refl

pub none_read : (word : List ℕ) → upper_bytes word ≡ (upper_bytes word >>= λ more. Some ([] ++ more))
none_read word = elim (upper_bytes word) as (λ o. o ≡ (o >>= λ more. Some ([] ++ more))) [ None ↦ refl | Some bs ↦ refl ]

-- the pair of digits at a place, and those behind it
pair_at : (word : List ℕ) (n : ℕ) → n + 1 < length word
    → upper_bytes (drop n word) ≡ (upper_pair (get_or word n 0) (get_or word (n + 1) 0) >>= λ b. upper_bytes (drop (n + 2) word) >>= λ bs. Some (b ∷ bs))
pair_at word n lt =
    ap upper_bytes (drop-cons word n 0 (omega arith)) ∙ ap (λ rest. upper_bytes (get_or word n 0 ∷ rest)) (ap (λ m. drop m word) (sym (add-one n)) ∙ drop-cons word (n + 1) 0 lt)
    ∙ ap (λ m. upper_pair (get_or word n 0) (get_or word (n + 1) 0) >>= λ b. upper_bytes (drop m word) >>= λ bs. Some (b ∷ bs)) (let e : suc (n + 1) ≡ n + 2 = omega arith in e)

moved_on : (done : List ℕ) (byte : ℕ) (rest : Option (List ℕ)) → ((rest >>= λ bytes. Some (byte ∷ bytes)) >>= λ more. Some (done ++ more)) ≡ (rest >>= λ more. Some ((done ++ byte ∷ []) ++ more))
moved_on done byte None = refl
moved_on done byte (Some bytes) = ap Some (sym (append_assoc done (byte ∷ []) bytes))

-- the bytes so far and those of the rest, one pair further
pub pair-read : (word bytes : List ℕ) (i byte : ℕ) → i < length bytes → 2 * i + 1 < length word → upper_pair (get_or word (2 * i) 0) (get_or word (2 * i + 1) 0) ≡ Some byte
    → upper_bytes word ≡ (upper_bytes (drop (2 * i) word) >>= λ more. Some (take i bytes ++ more))
    → upper_bytes word ≡ (upper_bytes (drop (2 * (i + 1)) word) >>= λ more. Some (take (i + 1) (set bytes i byte) ++ more))
pair-read word bytes i byte fits within is so_far =
    so_far
    ∙ ap (λ o. o >>= λ more. Some (take i bytes ++ more)) (pair_at word (2 * i) within ∙ ap (λ o. o >>= λ b. upper_bytes (drop (2 * i + 2) word) >>= λ bs. Some (b ∷ bs)) is)
    ∙ moved_on (take i bytes) byte (upper_bytes (drop (2 * i + 2) word))
    ∙ ap (λ done. upper_bytes (drop (2 * i + 2) word) >>= λ more. Some (done ++ more)) (sym (take_more_set bytes i byte fits))
    ∙ ap (λ n. upper_bytes (drop n word) >>= λ more. Some (take (i + 1) (set bytes i byte) ++ more)) (let e : 2 * i + 2 ≡ 2 * (i + 1) = omega arith in e)

-- a pair that is none
pub pair-not_read : (word bytes : List ℕ) (i : ℕ) → 2 * i + 1 < length word → upper_pair (get_or word (2 * i) 0) (get_or word (2 * i + 1) 0) ≡ None
    → upper_bytes word ≡ (upper_bytes (drop (2 * i) word) >>= λ more. Some (take i bytes ++ more)) → upper_bytes word ≡ None
pair-not_read word bytes i within is so_far =
    so_far ∙ ap (λ o. o >>= λ more. Some (take i bytes ++ more)) (pair_at word (2 * i) within ∙ ap (λ o. o >>= λ b. upper_bytes (drop (2 * i + 2) word) >>= λ bs. Some (b ∷ bs)) is)

-- the zeros behind the bytes so far
pub zeros-behind : (bytes : List ℕ) (i byte : ℕ) → i < length bytes → drop i bytes ≡ replicate (64 - i) 0 → drop (i + 1) (set bytes i byte) ≡ replicate (64 - (i + 1)) 0
zeros-behind bytes i byte fits h =
    drop-set-lt (i + 1) bytes i byte (omega arith) ∙ sym (drop-drop 1 i bytes) ∙ ap (drop 1) h
    ∙ drop-replicate 1 (64 - i) 0 ∙ ap (λ n. replicate n 0) (let e : (64 - i) - 1 ≡ 64 - (i + 1) = omega arith in e)

-- each pair of digits gives one byte
pub length-upper_bytes : (word bytes : List ℕ) → upper_bytes word ≡ Some bytes → length word ≡ 2 * length bytes
length-upper_bytes [] bytes e = let n : bytes ≡ [] = cc in ap (λ b. 2 * length b) (sym n)
length-upper_bytes (a ∷ []) bytes e = cc
length-upper_bytes (a ∷ b ∷ rest) bytes e =
    let pair = bound (upper_pair a b) _ bytes e in
    let more = bound (upper_bytes rest) _ bytes pair.2 in
    let n = length-upper_bytes rest more.0 more.1 in
    let is : pair.0 ∷ more.0 ≡ bytes = (let s = more.2 in cc) in
    let longer : length bytes ≡ suc (length more.0) = sym (ap length is) in
    omega arith

-- a block begins with so many bytes, and zeros follow
abbrev pub padded : List ℕ → List ℕ
padded bytes = bytes ++ replicate (64 - length bytes) 0

not_kept : (word : List ℕ) → ((bytes : List ℕ) → length word ≡ 2 * length bytes → kept_of bytes ≡ None) → None ≡ kept_word word
not_kept word h = elim (upper_bytes word) as (λ o. upper_bytes word ≡ o → None ≡ (o >>= kept_of)) [ None ↦ λ e. refl | Some bytes ↦ λ e. sym (h bytes (length-upper_bytes word bytes e)) ] refl

many : (bytes : List ℕ) → 64 < length bytes → kept_of bytes ≡ None
many bytes lt = let no : nat_le (length bytes) 64 ≡ false = grind (arith, nat_tests) in ap (λ v. if v && ends_kept bytes then Some (padded bytes) else None) no

none : (bytes : List ℕ) → length bytes ≡ 0 → kept_of bytes ≡ None
none [] e = refl
none (b ∷ bs) e = absurd (omega arith)

pub kept-odd : (word : List ℕ) → length word ≢ 2 * (length word / 2) → None ≡ kept_word word
kept-odd word odd = not_kept word (λ bytes n. absurd (odd (omega arith)))

pub kept-none : (word : List ℕ) → length word / 2 ≡ 0 → None ≡ kept_word word
kept-none word z = not_kept word (λ bytes n. none bytes (omega arith))

pub kept-many : (word : List ℕ) → 64 < length word / 2 → None ≡ kept_word word
kept-many word lt = not_kept word (λ bytes n. many bytes (omega arith))

pub kept-unread : (word : List ℕ) → None ≡ option_map padded (upper_bytes word) → None ≡ kept_word word
kept-unread word e = elim (upper_bytes word) as (λ o. None ≡ option_map padded o → None ≡ (o >>= kept_of)) [ None ↦ λ h. refl | Some bytes ↦ λ h. absurd (cc) ] e

ends-last : (i : ℕ) (bs : List ℕ) → suc i ≡ length bs → ends_kept bs ≡ not (nat_eq (get_or bs i 0) 0)
ends-last i [] e = absurd (omega arith)
ends-last i (b ∷ []) e = let first : i ≡ 0 = omega arith in ap (λ n. not (nat_eq (get_or (b ∷ []) n 0) 0)) (sym first)
ends-last i (b ∷ c ∷ cs) e =
    let last : i ≡ suc (length cs) = omega arith in
    ends-last (length cs) (c ∷ cs) refl ∙ ap (λ n. not (nat_eq (get_or (b ∷ c ∷ cs) n 0) 0)) (sym last)

within_front : (bs : List ℕ) (i : ℕ) → i < length bs → get_or (padded bs) i 0 ≡ get_or bs i 0
within_front bs i lt = grind (arith, common_steps)

turned : (v : Bool) (block : List ℕ) → (if not v then Some block else None) ≡ (if v then None else Some block)
turned true block = refl
turned false block = refl

-- a word of one to 64 pairs: a block, unless its last byte is zero
pub kept-read : (word block : List ℕ) (count : ℕ) → 1 ≤ count → count ≤ 64 → length word ≡ 2 * count → Some block ≡ option_map padded (upper_bytes word)
    → kept_word word ≡ (if nat_eq (get_or block (count - 1) 0) 0 then None else Some block)
kept-read word block count some few pairs is =
    elim (upper_bytes word) as (λ o. upper_bytes word ≡ o → Some block ≡ option_map padded o → (o >>= kept_of) ≡ (if nat_eq (get_or block (count - 1) 0) 0 then None else Some block)) [
      | None ↦ λ e h. absurd (cc)
      | Some bytes ↦ λ e h.
          let n : length bytes ≡ count = (let l = length-upper_bytes word bytes e in omega arith) in
          let fits : nat_le (length bytes) 64 ≡ true = grind (arith, nat_tests, n, few) in
          let same : block ≡ padded bytes = cc in
          let last : get_or bytes (count - 1) 0 ≡ get_or block (count - 1) 0 = sym (within_front bytes (count - 1) (omega arith)) ∙ ap (λ b. get_or b (count - 1) 0) (sym same) in
          ap (λ v. if v && ends_kept bytes then Some (padded bytes) else None) fits
          ∙ ap (λ v. if v then Some (padded bytes) else None) (ends-last (count - 1) bytes (omega arith) ∙ ap (λ x. not (nat_eq x 0)) last)
          ∙ ap (λ p. if not (nat_eq (get_or block (count - 1) 0) 0) then Some p else None) (sym same)
          ∙ turned (nat_eq (get_or block (count - 1) 0) 0) block
    ] refl is
