-- What is written for numbers, names and bytes reads as these.
use Rattle.std.proofs.Common.{ℕ, suc, ◌≡◌, ◌<◌, ◌≤◌, ◌+◌, ◌-◌, ◌*◌, ◌/◌, ◌%◌, ◌^◌, List, [], ◌∷◌, ◌++◌, take, length, replicate, refl, ap, ◌∙◌, sym, arith, Bool, true, false, not, ◌&&◌, cond, Some, None, nat_lt, nat_le, nat_eq}
use Rattle.std.specs.List.{list_all, position_or_len}
use Rattle.std.specs.Option.{option_map}
use Rattle.std.specs.Fmt.{decimal}
use Rattle.std.specs.Char.{digit_value, is_digit}
use Rattle.std.specs.Str.Parse.{AllDigits, digits_value}
use Rattle.std.proofs.lemmas.Bool.Decides.{nat_tests}
use Rattle.std.proofs.lemmas.Grind.{common_steps}
use Rattle.std.proofs.lemmas.Fmt.{decimal_is_IsNumeral, length-decimal-le}
use Rattle.std.proofs.lemmas.Bool.{and_parts, and_from}
use Rattle.dr_ids.specs.Spelling.{upper_digit, hex_word, spelled, all_digits, but_zero, up_to, lss_word, volume_word, session_word, number_word, hex2, hex4}
use Rattle.dr_ids.proofs.Digits.{spelled_some, digits_all}
use Rattle.dr_model.specs.declared.step.Name.{Name}
use Rattle.dr_model.specs.LineWords.{mark_at, begins_with_letter, is_hex, spelled_bytes, is_name, is_name_byte, name_of, name_word, sequence_word}
use Rattle.dr_model.specs.LineText.{hex8, unpadded, sequence_text, name_text, name_fits, bytes_text, bytes_fit}
use Rattle.dr_script.specs.Pieces.{is_ink}
use Rattle.dr_script.proofs.CutLemmas.{is_inked}
use Rattle.dr_logic.proofs.Lists.{same_bytes}

-- an upper-case digit is a digit, with its value, and no gap or mark
pub upper_is : (n : ℕ) → n < 16 → (is_digit (upper_digit n) 16 ≡ true) × (digit_value (upper_digit n) ≡ n)
upper_is n low = ((grind (arith, common_steps, nat_tests)), (grind (arith, common_steps, nat_tests)))

pub upper_ink : (n : ℕ) → is_ink (upper_digit n) ≡ true
upper_ink n = grind (arith, common_steps, nat_tests)

pub upper_not : (n mark : ℕ) → mark < 48 → nat_eq (upper_digit n) mark ≡ false
upper_not n mark low = grind (arith, common_steps, nat_tests)

pub upper_not_colon : (n : ℕ) → n < 16 → nat_eq (upper_digit n) 58 ≡ false
upper_not_colon n low = grind (arith, common_steps, nat_tests)

high : (n : ℕ) → n < 256 → n / 16 < 16
high n low = omega arith

low : (n : ℕ) → n % 16 < 16
low n = omega arith

upper_value : (n : ℕ) → n < 16 → digit_value (upper_digit n) ≡ n
upper_value n lt = let p = upper_is n lt in p.1

upper_below : (n : ℕ) → n < 16 → digit_value (upper_digit n) < 16
upper_below n lt = rw (upper_value n lt) lt

pub hex2_all : (n : ℕ) → n < 256 → AllDigits 16 (hex2 n)
hex2_all n lt = (upper_below (n / 16) (high n lt), (upper_below (n % 16) (low n), tt))

pub hex2_value : (n : ℕ) → n < 256 → digits_value 16 (hex2 n) ≡ n
hex2_value n lt = rw (upper_value (n / 16) (high n lt), upper_value (n % 16) (low n)) (omega arith)

pub hex4_all : (n : ℕ) → n < 65536 → AllDigits 16 (hex4 n)
hex4_all n lt =
    let h : n / 256 < 256 = omega arith in
    let l : n % 256 < 256 = omega arith in
    (upper_below (n / 256 / 16) (high (n / 256) h), (upper_below (n / 256 % 16) (low (n / 256)), (upper_below (n % 256 / 16) (high (n % 256) l), (upper_below (n % 256 % 16) (low (n % 256)), tt))))

pub hex4_value : (n : ℕ) → n < 65536 → digits_value 16 (hex4 n) ≡ n
hex4_value n lt =
    let h : n / 256 < 256 = omega arith in
    let l : n % 256 < 256 = omega arith in
    rw (upper_value (n / 256 / 16) (high (n / 256) h), upper_value (n / 256 % 16) (low (n / 256)), upper_value (n % 256 / 16) (high (n % 256) l), upper_value (n % 256 % 16) (low (n % 256))) (omega arith)

spelled_is : (radix n : ℕ) (word : List ℕ) → AllDigits radix word → digits_value radix word ≡ n → spelled radix word ≡ Some n
spelled_is radix n word all is = spelled_some radix word all ∙ ap Some is

-- a logical subsystem, a session and a volume read as they are written
pub lss_reads : (n : ℕ) → n < 256 → lss_word (hex2 n) ≡ Some (record { 0 = n })
lss_reads n lt = ap (option_map (λ k. record { 0 = k })) (spelled_is 16 n (hex2 n) (hex2_all n lt) (hex2_value n lt))

pub byte_reads : (n : ℕ) → n < 256 → hex_word 2 (hex2 n) ≡ Some n
byte_reads n lt = spelled_is 16 n (hex2 n) (hex2_all n lt) (hex2_value n lt)

pub session_reads : (n : ℕ) → 1 ≤ n → n < 256 → session_word (hex2 n) ≡ Some (record { 0 = n })
session_reads n some lt =
    ap (λ o. option_map (λ k. record { 0 = k }) (but_zero o)) (byte_reads n lt)
    ∙ ap (λ b. option_map (λ k. record { 0 = k }) (cond b None (Some n))) (let z : nat_eq n 0 ≡ false = grind (arith, nat_tests, some) in z)

pub volume_reads : (n : ℕ) → n < 65536 → volume_word (hex4 n) ≡ Some (record { 0 = n })
volume_reads n lt = ap (option_map (λ k. record { 0 = k })) (spelled_is 16 n (hex4 n) (hex4_all n lt) (hex4_value n lt))

-- so does a number in decimal
pub decimal_reads : (most n : ℕ) → n ≤ most → n < 2 ^ 32 → number_word most (decimal n) ≡ Some n
decimal_reads most n le lt =
    let p = decimal_is_IsNumeral n (omega arith) in
    let few = length-decimal-le 10 n (omega arith) (omega arith) (omega arith) in
    let test : (nat_le 1 (length (decimal n)) && nat_le (length (decimal n)) 10) ≡ true = (let q = p.0.0 in grind (arith, nat_tests, q, few)) in
    ap (λ b. cond b (up_to most (spelled 10 (decimal n))) None) test
    ∙ ap (up_to most) (spelled_is 10 n (decimal n) p.0.1 p.1)
    ∙ ap (λ b. cond b (Some n) None) (let t : nat_le n most ≡ true = grind (arith, nat_tests, le) in t)

-- digits are no gaps
digit_ink : (c : ℕ) → digit_value c < 16 → is_ink c ≡ true
digit_ink c lt = grind (arith, common_steps, nat_tests)

pub digits_ink : (radix : ℕ) (ds : List ℕ) → radix ≤ 16 → AllDigits radix ds → list_all is_ink ds ≡ true
digits_ink radix [] small all = refl
digits_ink radix (d ∷ ds) small all = and_from (is_ink d) (list_all is_ink ds) (digit_ink d (let p = all.0 in omega arith)) (digits_ink radix ds small all.1)

pub inked_if : (w : List ℕ) → 0 < length w → list_all is_ink w ≡ true → is_inked w ≡ true
inked_if [] some all = absurd (omega arith)
inked_if (b ∷ bs) some all = all

pub decimal_inked : (n : ℕ) → n < 2 ^ 32 → is_inked (decimal n) ≡ true
decimal_inked n lt = let p = decimal_is_IsNumeral n (omega arith) in inked_if (decimal n) p.0.0 (digits_ink 10 (decimal n) (omega arith) p.0.1)

pub hex2_inked : (n : ℕ) → is_inked (hex2 n) ≡ true
hex2_inked n = and_from (is_ink (upper_digit (n / 16))) _ (upper_ink (n / 16)) (and_from (is_ink (upper_digit (n % 16))) true (upper_ink (n % 16)) refl)

pub hex4_inked : (n : ℕ) → is_inked (hex4 n) ≡ true
hex4_inked n =
    and_from (is_ink (upper_digit (n / 256 / 16))) _ (upper_ink (n / 256 / 16)) (and_from (is_ink (upper_digit (n / 256 % 16))) _ (upper_ink (n / 256 % 16))
    (and_from (is_ink (upper_digit (n % 256 / 16))) _ (upper_ink (n % 256 / 16)) (and_from (is_ink (upper_digit (n % 256 % 16))) true (upper_ink (n % 256 % 16)) refl)))

-- a sequence number reads as it is written
pub record Unpadded (ds : List ℕ) : Type 0 where
  pub all : AllDigits 16 (unpadded ds)
  pub same : digits_value 16 (unpadded ds) ≡ digits_value 16 ds
  pub some : 0 < length (unpadded ds)
  pub few : length (unpadded ds) ≤ length ds

unpadded_is : (d : ℕ) (ds : List ℕ) → AllDigits 16 (d ∷ ds) → Unpadded (d ∷ ds)
unpadded_is d [] all = record { all = all; same = refl; some = omega arith; few = omega arith }
unpadded_is d (e ∷ ds) all =
    elim (nat_eq d 48) as (λ b. nat_eq d 48 ≡ b → Unpadded (d ∷ e ∷ ds)) [
      | true ↦ λ zero_digit.
          let rest = unpadded_is e ds all.1 in
          let is : unpadded (d ∷ e ∷ ds) ≡ unpadded (e ∷ ds) = ap (λ b. cond b (unpadded (e ∷ ds)) (d ∷ e ∷ ds)) zero_digit in
          let d48 : d ≡ 48 = grind (arith, nat_tests, zero_digit) in
          record {
            all = rw is rest.all;
            same = ap (digits_value 16) is ∙ rest.same ∙ sym (ap (λ x. digits_value 16 (x ∷ e ∷ ds)) d48);
            some = rw is rest.some;
            few = rw is (let f = rest.few in omega arith);
          }
      | false ↦ λ other.
          let is : unpadded (d ∷ e ∷ ds) ≡ d ∷ e ∷ ds = ap (λ b. cond b (unpadded (e ∷ ds)) (d ∷ e ∷ ds)) other in
          record { all = rw is all; same = ap (digits_value 16) is; some = rw is (omega arith); few = rw is (omega arith) }
    ] refl

pub hex8_all : (n : ℕ) → n < 2 ^ 32 → AllDigits 16 (hex8 n)
hex8_all n lt =
    let h = hex4_all (n / 65536) (omega arith) in
    let l = hex4_all (n % 65536) (omega arith) in
    (h.0, (h.1.0, (h.1.1.0, (h.1.1.1.0, l))))

pub hex8_value : (n : ℕ) → n < 2 ^ 32 → digits_value 16 (hex8 n) ≡ n
hex8_value n lt =
    let h = hex4_value (n / 65536) (omega arith) in
    let l = hex4_value (n % 65536) (omega arith) in
    omega (arith, h, l)

hex8_unpadded : (n : ℕ) → n < 2 ^ 32 → Unpadded (hex8 n)
hex8_unpadded n lt = unpadded_is _ _ (hex8_all n lt)

pub sequence_reads : (n : ℕ) → n < 2 ^ 32 → sequence_word (sequence_text n) ≡ Some n
sequence_reads n lt =
    let u = hex8_unpadded n lt in
    let some = u.some in
    let few : length (sequence_text n) ≤ 8 = u.few in
    let test : (nat_le 1 (length (sequence_text n)) && nat_le (length (sequence_text n)) 8) ≡ true = grind (arith, nat_tests, some, few) in
    ap (λ b. cond b (spelled 16 (sequence_text n)) None) test ∙ spelled_is 16 n (sequence_text n) u.all (u.same ∙ hex8_value n lt)

pub sequence_inked : (n : ℕ) → n < 2 ^ 32 → (is_inked (sequence_text n) ≡ true) × (length (sequence_text n) ≤ 8)
sequence_inked n lt = let u = hex8_unpadded n lt in (inked_if (sequence_text n) u.some (digits_ink 16 (sequence_text n) (omega arith) u.all), u.few)

-- a name reads as it is written
name_byte_ink : (b : ℕ) → is_name_byte b ≡ true → is_ink b ≡ true
name_byte_ink b is = grind (arith, common_steps, nat_tests)

name_bytes_ink : (bs : List ℕ) → list_all is_name_byte bs ≡ true → list_all is_ink bs ≡ true
name_bytes_ink [] is = refl
name_bytes_ink (b ∷ bs) is = let p = and_parts (is_name_byte b) (list_all is_name_byte bs) is in and_from (is_ink b) (list_all is_ink bs) (name_byte_ink b p.0) (name_bytes_ink bs p.1)

begun : (w : List ℕ) → begins_with_letter w ≡ true → 0 < length w
begun [] is = absurd (cc)
begun (b ∷ bs) is = omega arith

pub record NameReads (name : Name) : Type 0 where
  pub reads : name_word (name_text name) ≡ Some name
  pub inked : is_inked (name_text name) ≡ true
  pub few : length (name_text name) ≤ 24

pub name_reads : (name : Name) → name_fits name ≡ true → NameReads name
name_reads name fits =
    let t = name_text name in
    let outer = and_parts (is_name t && nat_eq (length t) name.len) _ fits in
    let inner = and_parts (is_name t) _ outer.0 in
    let size : length t ≡ name.len = grind (arith, nat_tests, inner.1) in
    let bytes : name.bytes ≡ t ++ replicate (24 - length t) 0 = same_bytes name.bytes (t ++ replicate (24 - length t) 0) outer.1 in
    let named = and_parts (nat_le (length t) 24 && begins_with_letter t) _ inner.0 in
    let parts = and_parts (nat_le (length t) 24) _ named.0 in
    record {
      reads = ap (λ b. cond b (Some (name_of t)) None) inner.0 ∙ (λ i. Some (record { len = size i; bytes = sym bytes i }));
      inked = inked_if t (begun t parts.1) (name_bytes_ink t named.1);
      few = grind (arith, nat_tests, parts.0);
    }

-- a mark stands behind what has none
pub free_of : ℕ → List ℕ → Bool
free_of mark w = list_all (λ b. not (nat_eq b mark)) w

marked : (mark : ℕ) (w rest : List ℕ) → free_of mark w ≡ true → position_or_len (λ b. nat_eq b mark) (w ++ mark ∷ rest) ≡ length w
unfolding free_of
marked mark [] rest free = ap (λ b. cond (not b) (1 + position_or_len (λ x. nat_eq x mark) rest) 0) (let e : nat_eq mark mark ≡ true = grind (arith, nat_tests) in e)
marked mark (b ∷ bs) rest free =
    let p = and_parts (not (nat_eq b mark)) (free_of mark bs) free in
    ap (λ v. cond v (1 + position_or_len (λ x. nat_eq x mark) (bs ++ mark ∷ rest)) 0) p.0 ∙ (let m = marked mark bs rest p.1 in omega (arith, m))

unmarked : (mark : ℕ) (w : List ℕ) → free_of mark w ≡ true → position_or_len (λ b. nat_eq b mark) w ≡ length w
unfolding free_of
unmarked mark [] free = refl
unmarked mark (b ∷ bs) free =
    let p = and_parts (not (nat_eq b mark)) (free_of mark bs) free in
    ap (λ v. cond v (1 + position_or_len (λ x. nat_eq x mark) bs) 0) p.0 ∙ (let m = unmarked mark bs p.1 in omega (arith, m))

pub mark_found : (mark : ℕ) (w rest : List ℕ) → free_of mark w ≡ true → mark_at mark (w ++ mark ∷ rest) ≡ Some (length w)
mark_found mark w rest free =
    let m = marked mark w rest free in
    let size : length (w ++ mark ∷ rest) ≡ length w + suc (length rest) = grind (arith, common_steps) in
    let test : nat_lt (position_or_len (λ b. nat_eq b mark) (w ++ mark ∷ rest)) (length (w ++ mark ∷ rest)) ≡ true = (let lt : position_or_len (λ b. nat_eq b mark) (w ++ mark ∷ rest) < length (w ++ mark ∷ rest) = omega arith in grind (arith, nat_tests, lt)) in
    ap (λ b. cond b (Some (position_or_len (λ x. nat_eq x mark) (w ++ mark ∷ rest))) None) test ∙ ap Some m

pub mark_missing : (mark : ℕ) (w : List ℕ) → free_of mark w ≡ true → mark_at mark w ≡ None
mark_missing mark w free =
    let m = unmarked mark w free in
    let test : nat_lt (position_or_len (λ b. nat_eq b mark) w) (length w) ≡ false = grind (arith, nat_tests, m) in
    ap (λ b. cond b (Some (position_or_len (λ x. nat_eq x mark) w)) None) test

not_true : (b : Bool) → b ≡ false → not b ≡ true
not_true true e = sym e
not_true false e = refl

pub hex2_free : (n mark : ℕ) → mark < 48 → free_of mark (hex2 n) ≡ true
unfolding free_of
hex2_free n mark lt = and_from (not (nat_eq (upper_digit (n / 16)) mark)) _ (not_true _ (upper_not (n / 16) mark lt)) (and_from (not (nat_eq (upper_digit (n % 16)) mark)) true (not_true _ (upper_not (n % 16) mark lt)) refl)

pub hex2_colon : (n : ℕ) → n < 256 → free_of 58 (hex2 n) ≡ true
unfolding free_of
hex2_colon n lt = and_from (not (nat_eq (upper_digit (n / 16)) 58)) _ (not_true _ (upper_not_colon (n / 16) (high n lt))) (and_from (not (nat_eq (upper_digit (n % 16)) 58)) true (not_true _ (upper_not_colon (n % 16) (low n))) refl)

free-append : (mark : ℕ) (a b : List ℕ) → free_of mark a ≡ true → free_of mark b ≡ true → free_of mark (a ++ b) ≡ true
unfolding free_of
free-append mark [] b e f = f
free-append mark (x ∷ xs) b e f = let p = and_parts (not (nat_eq x mark)) (free_of mark xs) e in and_from (not (nat_eq x mark)) _ p.0 (free-append mark xs b p.1 f)

pub hex4_free : (n mark : ℕ) → mark < 48 → free_of mark (hex4 n) ≡ true
hex4_free n mark lt = free-append mark (hex2 (n / 256)) (hex2 (n % 256)) (hex2_free (n / 256) mark lt) (hex2_free (n % 256) mark lt)

pub hex4_colon : (n : ℕ) → n < 65536 → free_of 58 (hex4 n) ≡ true
hex4_colon n lt = free-append 58 (hex2 (n / 256)) (hex2 (n % 256)) (hex2_colon (n / 256) (omega arith)) (hex2_colon (n % 256) (omega arith))

-- bytes read as they are written
bytes_digits : (bs : List ℕ) → list_all (λ b. nat_lt b 256) bs ≡ true → AllDigits 16 (bytes_text bs) × (length (bytes_text bs) ≡ 2 * length bs)
bytes_digits [] e = (tt, refl)
bytes_digits (b ∷ bs) e =
    let p = and_parts (nat_lt b 256) (list_all (λ x. nat_lt x 256) bs) e in
    let lt : b < 256 = grind (arith, nat_tests, p.0) in
    let rest = bytes_digits bs p.1 in
    let digits = hex2_all b lt in
    let size = rest.1 in
    ((digits.0, (digits.1.0, rest.0)), omega (arith, size))

pub record BytesRead (len : ℕ) (bytes : List ℕ) : Type 0 where
  pub hex : is_hex (bytes_text (take len bytes)) ≡ true
  pub digits : all_digits 16 (bytes_text (take len bytes)) ≡ true
  pub size : length (bytes_text (take len bytes)) ≡ 2 * len
  pub block : spelled_bytes (bytes_text (take len bytes)) ≡ bytes
  pub inked : is_inked (bytes_text (take len bytes)) ≡ true

pub bytes_read : (len : ℕ) (bytes : List ℕ) → 1 ≤ len → len ≤ 64 → bytes_fit len bytes ≡ true → BytesRead len bytes
bytes_read len bytes some few fits =
    let t = bytes_text (take len bytes) in
    let outer = and_parts (nat_eq (length bytes) 64 && list_all (λ b. nat_lt b 256) (take len bytes)) _ fits in
    let inner = and_parts (nat_eq (length bytes) 64) _ outer.0 in
    let sixty_four : length bytes ≡ 64 = grind (arith, nat_tests, inner.0) in
    let taken : length (take len bytes) ≡ len = grind (arith, common_steps, sixty_four, few) in
    let d = bytes_digits (take len bytes) inner.1 in
    let double = d.1 in
    let size : length t ≡ 2 * len = omega (arith, double, taken) in
    let all : all_digits 16 t ≡ true = digits_all 16 t d.0 in
    let even : nat_eq (length t % 2) 0 ≡ true = (let z : length t % 2 ≡ 0 = omega arith in grind (arith, nat_tests, z)) in
    let at_least : nat_le 2 (length t) ≡ true = (let z : 2 ≤ length t = omega arith in grind (arith, nat_tests, z)) in
    let at_most : nat_le (length t) 128 ≡ true = (let z : length t ≤ 128 = omega arith in grind (arith, nat_tests, z)) in
    record {
      hex = and_from _ _ (and_from _ _ (and_from _ _ at_least at_most) even) all;
      digits = all;
      size = size;
      block = sym (same_bytes bytes (spelled_bytes t) outer.1);
      inked = inked_if t (omega arith) (digits_ink 16 t (omega arith) d.0);
    }
