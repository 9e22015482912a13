-- What words say is written.
use Rattle.std.proofs.Common.{ℕ, zero, suc, ◌≡◌, ◌<◌, ◌≤◌, ◌+◌, ◌-◌, ◌*◌, ◌/◌, ◌%◌, ◌^◌, List, [], ◌∷◌, ◌++◌, take, length, map, replicate, refl, ap, ◌∙◌, sym, arith, Bool, true, false, ◌&&◌, ◌||◌, cond, Option, Some, None, get_or, nat_lt, nat_le, nat_eq}
use Rattle.std.specs.Prelude.{◌==◌, slice_index, codes}
use Rattle.std.specs.List.{list_all, slice_split, range_with_len}
use Rattle.std.specs.Option.{option_map, unwrap_or}
use Rattle.std.specs.Str.{bytes_eq}
use Rattle.std.specs.Char.{digit_value, is_digit}
use Rattle.std.specs.Str.Parse.{digits_value}
use Rattle.std.proofs.Math.Nat.{pow-le-pow_right}
use Rattle.std.proofs.lemmas.Bool.Decides.{nat_tests}
use Rattle.std.proofs.lemmas.Grind.{common_steps}
use Rattle.std.proofs.lemmas.Int.Digits.{digits_value-lt}
use Rattle.std.proofs.lemmas.List.FromFn.{get_or-map-range_with_len, length-map-range_with_len, take-map-range_with_len}
use Rattle.std.proofs.lemmas.Bool.{and_parts, and_from}
use Rattle.std.proofs.lemmas.Option.{same_Some}
use Rattle.dr_ids.specs.Spelling.{upper_digit, hex_word, spelled, all_digits, but_zero, lss_word, volume_word, session_word}
use Rattle.dr_ids.specs.declared.names.Lss.{Lss}
use Rattle.dr_ids.specs.declared.names.SessionId.{SessionId}
use Rattle.dr_ids.specs.declared.names.VolumeId.{VolumeId}
use Rattle.dr_ids.proofs.Digits.{digits_each, hex_word_below, number_word_at_most}
use Rattle.dr_model.specs.declared.step.Name.{Name}
use Rattle.dr_model.specs.declared.step.TornWord.{TornWord}
use Rattle.dr_model.specs.declared.step.TornWord.TheVariants.{Same, Fill, Bytes}
use Rattle.dr_model.specs.declared.grammar.Item.{Item}
use Rattle.dr_model.specs.declared.grammar.Span.{Span}
use Rattle.dr_model.specs.LineWords.{◌>>=◌, name_word, name_of, is_name, sequence_word, decimal_word, most_word, is_hex, digit_or_zero, byte_at, spelled_bytes, torn_word, torn_bytes_word, one_volume, span_between, span_cut, span_word, span_len, before, behind, items_from, paired, range_items, ranges_items, list_items, is_comma, spans_paired, pair_cut, pair_items, lss_pair_cut, lss_pair_items, mark_at, either_word, kind_word, lss_items}
use Rattle.dr_model.specs.LineText.{bytes_text, name_fits, bytes_fit, torn_fits, most_fits}
use Rattle.dr_script.proofs.ValueLemmas.{byte_past}
use Rattle.dr_script.proofs.TextLemmas.{upper_is}
use Rattle.dr_facts.proofs.Options.{bound}

-- a value from a choice, from a value that was changed, and from one that was taken on
pub passed : {A : Type 0} (test : Bool) (x : Option A) (y : A) → cond test x None ≡ Some y → (test ≡ true) × (x ≡ Some y)
passed true x y e = (refl, e)
passed false x y e = cc

pub mapped : {A B : Type 0} (f : A → B) (o : Option A) (y : B) → option_map f o ≡ Some y → (x : A) × (o ≡ Some x) × (f x ≡ y)
mapped f None y e = cc
mapped f (Some x) y e = (x, refl, cc)

pub carry : {A : Type 0} (P : A → Type 0) (x y : A) → x ≡ y → P x → P y
carry P x y e p = rw (sym e) p

spelled_below : (word : List ℕ) (n : ℕ) → spelled 16 word ≡ Some n → n < 16 ^ length word
spelled_below word n e =
    let q = passed (all_digits 16 word) (Some (digits_value 16 word)) n e in
    let is : digits_value 16 word ≡ n = same_Some _ _ q.1 in
    carry (λ m. m < 16 ^ length word) _ n is (digits_value-lt 16 word (digits_each 16 word q.0))

pub volume_below : (word : List ℕ) (v : VolumeId) → volume_word word ≡ Some v → v.0 < 65536
volume_below word v e =
    let m = mapped (λ n. record { 0 = n }) (hex_word 4 word) v e in
    carry (λ (x : VolumeId). x.0 < 65536) _ v m.2 (hex_word_below 4 word m.0 m.1)

pub lss_below : (word : List ℕ) (v : Lss) → lss_word word ≡ Some v → v.0 < 256
lss_below word v e =
    let m = mapped (λ n. record { 0 = n }) (hex_word 2 word) v e in
    carry (λ (x : Lss). x.0 < 256) _ v m.2 (hex_word_below 2 word m.0 m.1)

not_zero : (o : Option ℕ) (n : ℕ) → but_zero o ≡ Some n → (1 ≤ n) × (o ≡ Some n)
not_zero None n e = cc
not_zero (Some m) n e =
    elim (m == 0) as (λ b. (m == 0) ≡ b → cond b None (Some m) ≡ Some n → (1 ≤ n) × (Some m ≡ Some n)) [
      | true ↦ λ t h. cc
      | false ↦ λ t h. let is : m ≡ n = same_Some _ _ h in ((let z : 1 ≤ m = grind (arith, nat_tests, t) in omega (arith, z, is)), h)
    ] refl e

pub session_within : (word : List ℕ) (v : SessionId) → session_word word ≡ Some v → (1 ≤ v.0) × (v.0 < 256)
session_within word v e =
    let m = mapped (λ n. record { 0 = n }) (but_zero (hex_word 2 word)) v e in
    let z = not_zero (hex_word 2 word) m.0 m.1 in
    carry (λ (x : SessionId). (1 ≤ x.0) × (x.0 < 256)) _ v m.2 (z.0, hex_word_below 2 word m.0 z.1)

pub decimal_below : (word : List ℕ) (n : ℕ) → decimal_word word ≡ Some n → n < 2 ^ 32
decimal_below word n e = let z = number_word_at_most (2 ^ 32 - 1) word n e in omega (arith, z)

pub sequence_below : (word : List ℕ) (n : ℕ) → sequence_word word ≡ Some n → n < 2 ^ 32
sequence_below word n e =
    let p = passed (nat_le 1 (length word) && nat_le (length word) 8) (spelled 16 word) n e in
    let t = (and_parts (nat_le 1 (length word)) _ p.0).1 in
    let short : length word ≤ 8 = grind (arith, nat_tests, t) in
    let long : 16 ^ length word ≤ 16 ^ 8 = pow-le-pow_right (omega arith) short in
    let z = spelled_below word n p.1 in
    omega arith

pub most_said : (word : List ℕ) (m : Option ℕ) → most_word word ≡ Some m → most_fits m ≡ true
most_said word m e =
    elim (bytes_eq word (codes "all")) as (λ b. cond b (Some None) (option_map (λ n. Some n) (decimal_word word)) ≡ Some m → most_fits m ≡ true) [
      | true ↦ λ h. let is : None ≡ m = same_Some _ _ h in ap most_fits (sym is)
      | false ↦ λ h.
          let q = mapped (λ n. Some n) (decimal_word word) m h in
          let z = decimal_below word q.0 q.1 in
          ap most_fits (sym q.2) ∙ (let t : nat_lt q.0 (2 ^ 32) ≡ true = grind (arith, nat_tests, z) in t)
    ] e

kind_known : (b : Bool) (n : ℕ) → cond b 1 2 ≡ n → (nat_eq n 1 || nat_eq n 2) ≡ true
kind_known true n e = ap (λ k. nat_eq k 1 || nat_eq k 2) (sym e)
kind_known false n e = ap (λ k. nat_eq k 1 || nat_eq k 2) (sym e)

pub kind_said : (word : List ℕ) (n : ℕ) → kind_word word ≡ Some n → (nat_eq n 1 || nat_eq n 2) ≡ true
kind_said word n e =
    let m = mapped (λ metro. cond metro 1 2) (either_word (codes "mmir") (codes "gcp") word) n e in
    kind_known m.0 n m.2

-- bytes are equal to themselves
bytes_same : (xs : List ℕ) → bytes_eq xs xs ≡ true
bytes_same [] = refl
bytes_same (x ∷ xs) = and_from (nat_eq x x) (bytes_eq xs xs) (grind (arith, nat_tests)) (bytes_same xs)

name_is : (word : List ℕ) → is_name word ≡ true → name_fits (name_of word) ≡ true
name_is word h =
    let bytes = word ++ replicate (24 - length word) 0 in
    let t : take (length word) bytes ≡ word = grind (arith, common_steps) in
    ap (λ w. is_name w && nat_eq (length w) (length word) && bytes_eq bytes (w ++ replicate (24 - length w) 0)) t
    ∙ and_from (is_name word && nat_eq (length word) (length word)) _ (and_from (is_name word) _ h (grind (arith, nat_tests))) (bytes_same bytes)

pub name_said : (word : List ℕ) (name : Name) → name_word word ≡ Some name → name_fits name ≡ true
name_said word name e =
    let p = passed (is_name word) (Some (name_of word)) name e in
    ap name_fits (sym (same_Some _ _ p.1)) ∙ name_is word p.0

-- the bytes of a word of digits are written in digits that say the same bytes
digit_low : (d : ℕ) → digit_or_zero d < 16
digit_low d =
    elim (is_digit d 16) as (λ b. is_digit d 16 ≡ b → unwrap_or (cond b (Some (digit_value d)) None) 0 < 16) [
      | true ↦ λ t. grind (arith, nat_tests, t)
      | false ↦ λ t. omega arith
    ] refl

byte_low : (word : List ℕ) (k : ℕ) → byte_at word k < 256
byte_low word k =
    let a = digit_low (slice_index word (2 * k)) in
    let b = digit_low (slice_index word (2 * k + 1)) in
    omega (arith, a, b)

bytes_low : (word ks : List ℕ) → list_all (λ b. nat_lt b 256) (map (byte_at word) ks) ≡ true
bytes_low word [] = refl
bytes_low word (k ∷ ks) =
    let z = byte_low word k in
    and_from (nat_lt (byte_at word k) 256) _ (grind (arith, nat_tests, z)) (bytes_low word ks)

digit_back : (n : ℕ) → n < 16 → digit_or_zero (upper_digit n) ≡ n
digit_back n lt =
    let p = upper_is n lt in
    ap (λ b. unwrap_or (cond b (Some (digit_value (upper_digit n))) None) 0) p.0 ∙ p.1

text_at : (bs : List ℕ) (k : ℕ) → k < length bs → (slice_index (bytes_text bs) (2 * k) ≡ upper_digit (get_or bs k 0 / 16)) × (slice_index (bytes_text bs) (2 * k + 1) ≡ upper_digit (get_or bs k 0 % 16))
text_at [] k lt = absurd (omega arith)
text_at (b ∷ bs) zero lt = (refl, refl)
text_at (b ∷ bs) (suc k) lt =
    let rest = text_at bs k (omega arith) in
    let text = bytes_text (b ∷ bs) in (
      ap (slice_index text) (let n : 2 * suc k ≡ suc (suc (2 * k)) = omega arith in n) ∙ rest.0,
      ap (slice_index text) (let n : 2 * suc k + 1 ≡ suc (suc (2 * k + 1)) = omega arith in n) ∙ rest.1,
    )

text_sized : (bs : List ℕ) → length (bytes_text bs) ≡ 2 * length bs
text_sized [] = refl
text_sized (b ∷ bs) = let rest = text_sized bs in omega (arith, rest)

byte_back : (word : List ℕ) (len k : ℕ) → length word ≡ 2 * len → (b : Bool) → nat_lt k len ≡ b → byte_at (bytes_text (map (byte_at word) (range_with_len 0 len))) k ≡ byte_at word k
byte_back word len k size true e =
    let bs = map (byte_at word) (range_with_len 0 len) in
    let lt : k < len = grind (arith, nat_tests, e) in
    let sized : length bs ≡ len = length-map-range_with_len (byte_at word) 0 len in
    let t = text_at bs k (omega (arith, lt, sized)) in
    let is : get_or bs k 0 ≡ byte_at word k = get_or-map-range_with_len (byte_at word) 0 len k k 0 lt (omega arith) in
    let b = byte_at word k in
    let low : b < 256 = byte_low word k in
    let h : digit_or_zero (slice_index (bytes_text bs) (2 * k)) ≡ b / 16 = ap digit_or_zero (t.0 ∙ ap (λ x. upper_digit (x / 16)) is) ∙ digit_back (b / 16) (omega arith) in
    let l : digit_or_zero (slice_index (bytes_text bs) (2 * k + 1)) ≡ b % 16 = ap digit_or_zero (t.1 ∙ ap (λ x. upper_digit (x % 16)) is) ∙ digit_back (b % 16) (omega arith) in
    (λ j. h j * 16 + l j) ∙ (let z : b / 16 * 16 + b % 16 ≡ b = omega arith in z)
byte_back word len k size false e =
    let bs = map (byte_at word) (range_with_len 0 len) in
    let ge : len ≤ k = grind (arith, nat_tests, e) in
    let sized : length bs ≡ len = length-map-range_with_len (byte_at word) 0 len in
    let long : length (bytes_text bs) ≡ 2 * length bs = text_sized bs in
    byte_past (bytes_text bs) k (omega (arith, long, sized, ge)) ∙ sym (byte_past word k (omega (arith, size, ge)))

pub block_fits : (word : List ℕ) (len : ℕ) → length word ≡ 2 * len → len ≤ 64 → bytes_fit len (spelled_bytes word) ≡ true
unfolding spelled_bytes
block_fits word len size few =
    let f = byte_at word in
    let block = map f (range_with_len 0 64) in
    let front : take len block ≡ map f (range_with_len 0 len) = take-map-range_with_len f 0 64 len few in
    let sized : length block ≡ 64 = length-map-range_with_len f 0 64 in
    let t = bytes_text (map f (range_with_len 0 len)) in
    let same : spelled_bytes t ≡ block = (λ j. map (λ k. byte_back word len k size (nat_lt k len) refl j) (range_with_len 0 64)) in
    and_from (nat_eq (length block) 64 && list_all (λ b. nat_lt b 256) (take len block)) _
    (and_from (nat_eq (length block) 64) _ (grind (arith, nat_tests, sized)) (ap (list_all (λ b. nat_lt b 256)) front ∙ bytes_low word (range_with_len 0 len)))
    (ap (λ bs. bytes_eq block (spelled_bytes (bytes_text bs))) front ∙ ap (bytes_eq block) same ∙ bytes_same block)

pub torn_said : (word : List ℕ) (t : TornWord) → torn_word word ≡ Some t → torn_fits t ≡ true
torn_said word t e =
    elim (bytes_eq word (codes "none")) as (λ b. cond b (Some Same) (torn_bytes_word word) ≡ Some t → torn_fits t ≡ true) [
      | true ↦ λ h. ap torn_fits (sym (same_Some _ _ h))
      | false ↦ λ h. elim (nat_eq (length word) 128) as (λ b. nat_eq (length word) 128 ≡ b → cond b (cond (all_digits 16 word) (Some (Bytes (spelled_bytes word))) None) (option_map (λ n. Fill n) (hex_word 2 word)) ≡ Some t → torn_fits t ≡ true) [
        | true ↦ λ long g.
            let p = passed (all_digits 16 word) (Some (Bytes (spelled_bytes word))) t g in
            let size : length word ≡ 2 * 64 = grind (arith, nat_tests, long) in
            ap torn_fits (sym (same_Some _ _ p.1)) ∙ block_fits word 64 size (omega arith)
        | false ↦ λ short g.
            let m = mapped (λ n. Fill n) (hex_word 2 word) t g in
            let z : m.0 < 256 = hex_word_below 2 word m.0 m.1 in
            ap torn_fits (sym m.2) ∙ (let q : nat_lt m.0 256 ≡ true = grind (arith, nat_tests, z) in q)
      ] refl h
    ] e

-- the bytes of a write
pub write_said : (word : List ℕ) (offset : ℕ) → (is_hex word && nat_le (offset + length word / 2) 64) ≡ true
    → (nat_le 1 (length word / 2) && nat_le (offset + length word / 2) 64 && bytes_fit (length word / 2) (spelled_bytes word)) ≡ true
write_said word offset e =
    let p = and_parts (is_hex word) _ e in
    let a = and_parts (nat_le 2 (length word) && nat_le (length word) 128 && nat_eq (length word % 2) 0) _ p.0 in
    let b = and_parts (nat_le 2 (length word) && nat_le (length word) 128) _ a.0 in
    let c = and_parts (nat_le 2 (length word)) _ b.0 in
    let c0 = c.0 in
    let c1 = c.1 in
    let b1 = b.1 in
    let some : 2 ≤ length word = grind (arith, nat_tests, c0) in
    let few : length word ≤ 128 = grind (arith, nat_tests, c1) in
    let even : length word % 2 ≡ 0 = grind (arith, nat_tests, b1) in
    let size : length word ≡ 2 * (length word / 2) = omega (arith, even) in
    let one : 1 ≤ length word / 2 = omega (arith, some) in
    and_from (nat_le 1 (length word / 2) && nat_le (offset + length word / 2) 64) _
    (and_from (nat_le 1 (length word / 2)) _ (grind (arith, nat_tests, one)) p.1)
    (block_fits word (length word / 2) size (omega (arith, few)))

-- items of volumes
abbrev pub Smalls : List Item → Type 0
Smalls [] = Unit {0}
Smalls (i ∷ is) = ((i.first < 65536) × (i.second < 65536)) × Smalls is

pub smalls-append : (a b : List Item) → Smalls a → Smalls b → Smalls (a ++ b)
smalls-append [] b s t = t
smalls-append (i ∷ is) b s t = (s.0, smalls-append is b s.1 t)

from_small : (a b n : ℕ) → a + n ≤ 65536 → b + n ≤ 65536 → Smalls (items_from a b n)
from_small a b zero la lb = tt
from_small a b (suc n) la lb = (((omega arith), (omega arith)), from_small (a + 1) (b + 1) n (omega arith) (omega arith))

record SpanSmall (s : Span) : Type 0 where
  low : s.low < 65536
  high : s.high < 65536

between_small : (low high : VolumeId) (s : Span) → low.0 < 65536 → high.0 < 65536 → span_between low high ≡ Some s → SpanSmall s
between_small low high s ll lh e =
    let p = passed (nat_eq (low.0 / 256) (high.0 / 256) && nat_le low.0 high.0) (Some (record { low = low.0; high = high.0 })) s e in
    carry SpanSmall _ s (same_Some _ _ p.1) (record { low = ll; high = lh })

cut_small : (word : List ℕ) (dash : Option ℕ) (s : Span) → span_cut word dash ≡ Some s → SpanSmall s
cut_small word None s e =
    let m = mapped one_volume (volume_word word) s e in
    let z = volume_below word m.0 m.1 in
    carry SpanSmall _ s m.2 (record { low = z; high = z })
cut_small word (Some dash) s e =
    let a = bound (volume_word (before dash word)) (λ low. volume_word (behind dash word) >>= λ high. span_between low high) s e in
    let b = bound (volume_word (behind dash word)) (λ high. span_between a.0 high) s a.2 in
    between_small a.0 b.0 s (volume_below (before dash word) a.0 a.1) (volume_below (behind dash word) b.0 b.1) b.2

paired_small : (a b : Span) → SpanSmall a → SpanSmall b → span_len a ≡ span_len b → Smalls (paired a b)
unfolding paired
paired_small a b sa sb same =
    let la = sa.low in
    let ha = sa.high in
    let lb = sb.low in
    let hb = sb.high in
    from_small a.low b.low (span_len a) (omega arith) (omega arith)

pub range_small : (word : List ℕ) (items : List Item) → range_items word ≡ Some items → Smalls items
range_small word items e =
    let m = mapped (λ span. paired span span) (span_word word) items e in
    let s = cut_small word (mark_at 45 word) m.0 m.1 in
    carry Smalls _ items m.2 (paired_small m.0 m.0 s s refl)

ranges_small : (words : List (List ℕ)) (items : List Item) → ranges_items words ≡ Some items → Smalls items
unfolding ranges_items
ranges_small [] items e = carry Smalls [] items (same_Some _ _ e) tt
ranges_small (word ∷ words) items e =
    let a = bound (range_items word) (λ new. ranges_items words >>= λ more. Some (new ++ more)) items e in
    let b = bound (ranges_items words) (λ more. Some (a.0 ++ more)) items a.2 in
    carry Smalls _ items (same_Some _ _ b.2) (smalls-append a.0 b.0 (range_small word a.0 a.1) (ranges_small words b.0 b.1))

pub list_small : (word : List ℕ) (items : List Item) → list_items word ≡ Some items → Smalls items
list_small word items e = ranges_small (slice_split is_comma word) items e

pair_cut_small : (word : List ℕ) (colon : Option ℕ) (items : List Item) → pair_cut word colon ≡ Some items → Smalls items
pair_cut_small word None items e = cc
pair_cut_small word (Some colon) items e =
    let a = bound (span_word (before colon word)) (λ x. span_word (behind colon word) >>= λ y. spans_paired x y) items e in
    let b = bound (span_word (behind colon word)) (λ y. spans_paired a.0 y) items a.2 in
    let p = passed (nat_eq (span_len a.0) (span_len b.0)) (Some (paired a.0 b.0)) items b.2 in
    let t = p.0 in
    let same : span_len a.0 ≡ span_len b.0 = grind (arith, nat_tests, t) in
    carry Smalls _ items (same_Some _ _ p.1) (paired_small a.0 b.0 (cut_small (before colon word) (mark_at 45 (before colon word)) a.0 a.1) (cut_small (behind colon word) (mark_at 45 (behind colon word)) b.0 b.1) same)

pub pair_small : (word : List ℕ) (items : List Item) → pair_items word ≡ Some items → Smalls items
pair_small word items e = pair_cut_small word (mark_at 58 word) items e

lss_cut_small : (word : List ℕ) (colon : Option ℕ) (items : List Item) → lss_pair_cut word colon ≡ Some items → Smalls items
lss_cut_small word None items e = cc
lss_cut_small word (Some colon) items e =
    let a = bound (lss_word (before colon word)) (λ l. lss_word (behind colon word) >>= λ m. Some (record { first = l.0; second = m.0 } ∷ [])) items e in
    let b = bound (lss_word (behind colon word)) (λ m. Some (record { first = (a.0).0; second = m.0 } ∷ [])) items a.2 in
    let x = lss_below (before colon word) a.0 a.1 in
    let y = lss_below (behind colon word) b.0 b.1 in
    carry Smalls _ items (same_Some _ _ b.2) (((omega (arith, x)), (omega (arith, y))), tt)

pub lss_small : (word : List ℕ) (items : List Item) → lss_items word ≡ Some items → Smalls items
lss_small word items e =
    let a = bound (lss_word word) (λ l. Some (record { first = l.0; second = l.0 } ∷ [])) items e in
    let x = lss_below word a.0 a.1 in
    carry Smalls _ items (same_Some _ _ a.2) (((omega (arith, x)), (omega (arith, x))), tt)

pub lss_pair_small : (word : List ℕ) (items : List Item) → lss_pair_items word ≡ Some items → Smalls items
lss_pair_small word items e = lss_cut_small word (mark_at 58 word) items e
