-- Operands that are written read as these operands.
use Rattle.std.proofs.Common.{ℕ, ◌≡◌, ◌≢◌, ◌<◌, ◌≤◌, ◌+◌, ◌-◌, ◌/◌, ◌^◌, List, [], ◌∷◌, ◌++◌, length, take, refl, ap, ◌∙◌, sym, arith, Bool, true, false, ◌&&◌, cond, Option, Some, None, nat_lt, nat_le, nat_eq}
use Rattle.std.specs.Prelude.{codes}
use Rattle.std.specs.Fmt.{decimal}
use Rattle.std.specs.List.{list_all}
use Rattle.dr_script.specs.Pieces.{is_ink}
use Rattle.std.specs.Char.{digit_value}
use Rattle.std.specs.Str.{bytes_eq}
use Rattle.std.specs.Str.Parse.{AllDigits}
use Rattle.std.specs.Option.{option_map}
use Rattle.std.proofs.lemmas.Bool.Decides.{nat_tests}
use Rattle.std.proofs.lemmas.Grind.{common_steps}
use Rattle.std.proofs.lemmas.Fmt.{length-decimal-le, decimal_is_IsNumeral}
use Rattle.std.proofs.lemmas.Bool.{and_parts, and_from}
use Rattle.dr_ids.specs.Spelling.{hex_word, all_digits, hex2, hex4}
use Rattle.dr_ids.specs.declared.names.Lss.{Lss}
use Rattle.dr_ids.specs.declared.names.SessionId.{SessionId}
use Rattle.dr_ids.specs.declared.names.VolumeId.{VolumeId}
use Rattle.dr_model.specs.declared.step.TornWord.{TornWord}
use Rattle.dr_model.specs.declared.step.TornWord.TheVariants.{Same, Fill, Bytes}
use Rattle.dr_model.specs.declared.grammar.Operand.{Operand}
use Rattle.dr_model.specs.declared.grammar.Operand.TheVariants.{ServerName, OtherName, UpOrDown, AfterWord, TornMark, TornBytes, OneVolume, OtherVolume, Count, TrackNumber, Offset, WriteBytes, CountOrAll, SessionNumber, NoReply, LssNumber, VolumeRange, VolumeList, VolumePair, LssPair, EachLss, Ports, ControlPath}
use Rattle.dr_model.specs.declared.grammar.Operands.{Operands}
use Rattle.dr_model.specs.declared.grammar.Item.{Item}
use Rattle.dr_model.specs.LineWords.{spelled_bytes, is_hex, torn_word, torn_bytes_word, most_word, decimal_word, either_word}
use Rattle.dr_model.specs.LineSteps.{operand_value, operand_items, lss_in}
use Rattle.dr_model.specs.LineText.{torn_text, most_text, bytes_text, operand_text, operand_fits, torn_fits, most_fits, bytes_fit}
use Rattle.dr_script.proofs.CutLemmas.{is_inked}
use Rattle.dr_script.proofs.TextLemmas.{lss_reads, byte_reads, session_reads, volume_reads, decimal_reads, name_reads, decimal_inked, hex2_inked, hex4_inked, bytes_read}
use Rattle.dr_script.proofs.ItemTextLemmas.{range_reads, list_reads, pair_reads, lss_pair_reads, lss_each_reads}
use Rattle.dr_script.proofs.OptionLemmas.{either_text, item_is}
use Rattle.dr_logic.proofs.Lists.{same_bytes}

-- the operands with one operand as it is in others
unfoldable pub absorb_operand : Operand → Operands → Operands → Operands
absorb_operand ServerName p cur = record cur { server = p.server }
absorb_operand OtherName p cur = record cur { other = p.other }
absorb_operand UpOrDown p cur = record cur { up = p.up }
absorb_operand TornBytes p cur = record cur { torn = p.torn }
absorb_operand OneVolume p cur = record cur { volume = p.volume }
absorb_operand OtherVolume p cur = record cur { with = p.with }
absorb_operand Count p cur = record cur { count = p.count }
absorb_operand TrackNumber p cur = record cur { track = p.track }
absorb_operand Offset p cur = record cur { offset = p.offset }
absorb_operand CountOrAll p cur = record cur { most = p.most }
absorb_operand SessionNumber p cur = record cur { session = p.session }
absorb_operand LssNumber p cur = record cur { lss = p.lss }
absorb_operand AfterWord p cur = record cur { after = true }
absorb_operand WriteBytes p cur = record cur { len = p.len; bytes = p.bytes }
absorb_operand NoReply p cur = record cur { reply = false }
absorb_operand _ p cur = cur

-- the items that an operand gives
abbrev pub added_by : Operand → Item → List Item
added_by VolumeRange i = i ∷ []
added_by VolumeList i = i ∷ []
added_by VolumePair i = i ∷ []
added_by LssPair i = i ∷ []
added_by EachLss i = i ∷ []
added_by _ i = []

-- an operand that is written
pub record OperandReads (op : Operand) (p cur : Operands) (i : Item) : Type 0 where
  pub reads : operand_value op (operand_text op p i) cur ≡ Some (absorb_operand op p cur)
  pub items : operand_items op (operand_text op p i) ≡ Some (added_by op i)
  pub inked : is_inked (operand_text op p i) ≡ true
  pub few : length (operand_text op p i) ≤ 128

differs_cases : (xs ys : List ℕ) (b : Bool) → bytes_eq xs ys ≡ b → length xs ≢ length ys → b ≡ false
differs_cases xs ys true e n = absurd (n (ap length (same_bytes xs ys e)))
differs_cases xs ys false e n = refl

differs : (xs ys : List ℕ) → length xs ≢ length ys → bytes_eq xs ys ≡ false
differs xs ys n = differs_cases xs ys (bytes_eq xs ys) refl n

take_all : (n : ℕ) (bs : List ℕ) → length bs ≡ n → take n bs ≡ bs
take_all n bs e = grind (arith, common_steps, e)

take_whole : (bs : List ℕ) → length bs ≡ 64 → take 64 bs ≡ bs
take_whole bs e = take_all 64 bs e

bytes_sized : (len : ℕ) (bytes : List ℕ) → bytes_fit len bytes ≡ true → length bytes ≡ 64
bytes_sized len bytes fits =
    let outer = and_parts (nat_eq (length bytes) 64 && list_all (λ b. nat_lt b 256) (take len bytes)) _ fits in
    let inner = and_parts (nat_eq (length bytes) 64) _ outer.0 in
    grind (arith, nat_tests, inner.0)

record TornReads (t : TornWord) : Type 0 where
  reads : torn_word (torn_text t) ≡ Some t
  inked : is_inked (torn_text t) ≡ true
  few : length (torn_text t) ≤ 128

torn_reads : (t : TornWord) → torn_fits t ≡ true → TornReads t
torn_reads Same e = record { reads = refl; inked = refl; few = omega arith }
torn_reads (Fill byte) e =
    let lt : byte < 256 = grind (arith, nat_tests, e) in
    record {
      reads = ap (λ b. cond b (Some Same) (torn_bytes_word (hex2 byte))) (differs (hex2 byte) (codes "none") (omega arith)) ∙ ap (option_map (λ n. Fill n)) (byte_reads byte lt);
      inked = hex2_inked byte;
      few = omega arith;
    }
torn_reads (Bytes bytes) e =
    let r = bytes_read 64 bytes (omega arith) (omega arith) e in
    let t = bytes_text (take 64 bytes) in
    let whole : take 64 bytes ≡ bytes = take_whole bytes (bytes_sized 64 bytes e) in
    let size = r.size in
    let same : bytes_text bytes ≡ t = ap bytes_text (sym whole) in
    let long : nat_eq (length t) 128 ≡ true = grind (arith, nat_tests, size) in
    record {
      reads = ap torn_word same ∙ ap (λ b. cond b (Some Same) (torn_bytes_word t)) (differs t (codes "none") (omega arith))
          ∙ ap (λ b. cond b (cond (all_digits 16 t) (Some (Bytes (spelled_bytes t))) None) (option_map (λ n. Fill n) (hex_word 2 t))) long
          ∙ ap (λ b. cond b (Some (Bytes (spelled_bytes t))) None) r.digits ∙ ap (λ bs. Some (Bytes bs)) r.block;
      inked = rw same r.inked;
      few = rw same (omega arith);
    }

not_all : (ds : List ℕ) → AllDigits 10 ds → bytes_eq ds (codes "all") ≡ false
not_all [] all = refl
not_all (d ∷ ds) all =
    elim (nat_eq d 97) as (λ b. nat_eq d 97 ≡ b → (b && bytes_eq ds (codes "ll")) ≡ false) [
      | true ↦ λ e. let is : d ≡ 97 = grind (arith, nat_tests, e) in let lt : digit_value 97 < 10 = rw is at all.0 in absurd (omega arith)
      | false ↦ λ e. refl
    ] refl

record MostReads (m : Option ℕ) : Type 0 where
  reads : most_word (most_text m) ≡ Some m
  inked : is_inked (most_text m) ≡ true
  few : length (most_text m) ≤ 128

decimal_few : (n : ℕ) → n < 2 ^ 32 → length (decimal n) ≤ 128
decimal_few n lt = let l = length-decimal-le 10 n (omega arith) (omega arith) (omega arith) in omega (arith, l)

most_reads : (m : Option ℕ) → most_fits m ≡ true → MostReads m
most_reads None e = record { reads = refl; inked = refl; few = omega arith }
most_reads (Some n) e =
    let lt : n < 2 ^ 32 = grind (arith, nat_tests, e) in
    let digits = decimal_is_IsNumeral n (omega arith) in
    record {
      reads = ap (λ b. cond b (Some None) (option_map (λ k. Some k) (decimal_word (decimal n)))) (not_all (decimal n) digits.0.1) ∙ ap (option_map (λ k. Some k)) (decimal_reads (2 ^ 32 - 1) n (omega arith) lt);
      inked = decimal_inked n lt;
      few = decimal_few n lt;
    }

up_reads : (u : Bool) → either_word (codes "up") (codes "down") (cond u (codes "up") (codes "down")) ≡ Some u
up_reads true = refl
up_reads false = refl

lss_is : (i : Item) → i.first < 256 → i.second < 256 → Some (record { first = lss_in i.first; second = lss_in i.second } ∷ []) ≡ Some (i ∷ [])
lss_is i a b = (λ j. Some (record { first = (let n : lss_in i.first ≡ i.first = omega arith in n) j; second = (let n : lss_in i.second ≡ i.second = omega arith in n) j } ∷ []))

ink-append : (xs ys : List ℕ) → list_all is_ink xs ≡ true → list_all is_ink ys ≡ true → list_all is_ink (xs ++ ys) ≡ true
ink-append [] ys e f = f
ink-append (x ∷ xs) ys e f = let p = and_parts (is_ink x) (list_all is_ink xs) e in and_from (is_ink x) _ p.0 (ink-append xs ys p.1 f)

hex4_pair_inked : (a b : ℕ) → is_inked (hex4 a ++ 58 ∷ hex4 b) ≡ true
hex4_pair_inked a b = ink-append (hex4 a) (58 ∷ hex4 b) (hex4_inked a) (hex4_inked b)

hex2_pair_inked : (a b : ℕ) → is_inked (hex2 a ++ 58 ∷ hex2 b) ≡ true
hex2_pair_inked a b = ink-append (hex2 a) (58 ∷ hex2 b) (hex2_inked a) (hex2_inked b)

-- what must hold of the operands before one: the bytes of a write stand behind its offset
abbrev pub StandsBehind : Operand → Operands → Operands → Type 0
StandsBehind WriteBytes p cur = cur.offset ≡ p.offset
StandsBehind _ p cur = Unit {0}

pub operand_reads : (op : Operand) (p cur : Operands) (i : Item) → operand_fits op p i ≡ true → StandsBehind op p cur → OperandReads op p cur i
unfolding absorb_operand operand_value operand_items operand_text operand_fits all_digits
operand_reads ServerName p cur i e s =
    let n = name_reads p.server e in
    record { reads = ap (option_map (λ x. record cur { server = x })) n.reads; items = refl; inked = n.inked; few = (let l = n.few in omega (arith, l)) }
operand_reads OtherName p cur i e s =
    let n = name_reads p.other e in
    record { reads = ap (option_map (λ x. record cur { other = x })) n.reads; items = refl; inked = n.inked; few = (let l = n.few in omega (arith, l)) }
operand_reads UpOrDown p cur i e s =
    let t = either_text p.up (codes "up") (codes "down") refl refl (omega arith) (omega arith) in
    record { reads = ap (option_map (λ u. record cur { up = u })) (up_reads p.up); items = refl; inked = t.0; few = (let l = t.1 in omega (arith, l)) }
operand_reads AfterWord p cur i e s =
    record { reads = refl; items = refl; inked = refl; few = omega arith }
operand_reads TornMark p cur i e s =
    record { reads = refl; items = refl; inked = refl; few = omega arith }
operand_reads TornBytes p cur i e s =
    let t = torn_reads p.torn e in
    record { reads = ap (option_map (λ x. record cur { torn = x })) t.reads; items = refl; inked = t.inked; few = t.few }
operand_reads OneVolume p cur i e s =
    let lt : p.volume < 65536 = grind (arith, nat_tests, e) in
    record { reads = ap (option_map (λ (v : VolumeId). record cur { volume = v.0 })) (volume_reads p.volume lt); items = refl; inked = hex4_inked p.volume; few = omega arith }
operand_reads OtherVolume p cur i e s =
    let lt : p.with < 65536 = grind (arith, nat_tests, e) in
    record { reads = ap (option_map (λ (v : VolumeId). record cur { with = v.0 })) (volume_reads p.with lt); items = refl; inked = hex4_inked p.with; few = omega arith }
operand_reads Count p cur i e s =
    let lt : p.count < 2 ^ 32 = grind (arith, nat_tests, e) in
    record { reads = ap (option_map (λ n. record cur { count = n })) (decimal_reads (2 ^ 32 - 1) p.count (omega arith) lt); items = refl; inked = decimal_inked p.count lt; few = decimal_few p.count lt }
operand_reads TrackNumber p cur i e s =
    let lt : p.track < 2 ^ 32 = grind (arith, nat_tests, e) in
    record { reads = ap (option_map (λ n. record cur { track = n })) (decimal_reads (2 ^ 32 - 1) p.track (omega arith) lt); items = refl; inked = decimal_inked p.track lt; few = decimal_few p.track lt }
operand_reads Offset p cur i e s =
    let le : p.offset ≤ 63 = grind (arith, nat_tests, e) in
    let lt : p.offset < 2 ^ 32 = omega arith in
    record { reads = ap (option_map (λ n. record cur { offset = n })) (decimal_reads 63 p.offset le lt); items = refl; inked = decimal_inked p.offset lt; few = decimal_few p.offset lt }
operand_reads WriteBytes p cur i e s =
    let outer = and_parts (nat_le 1 p.len && nat_le (p.offset + p.len) 64) _ e in
    let inner = and_parts (nat_le 1 p.len) _ outer.0 in
    let some : 1 ≤ p.len = grind (arith, nat_tests, inner.0) in
    let within : p.offset + p.len ≤ 64 = grind (arith, nat_tests, inner.1) in
    let r = bytes_read p.len p.bytes some (omega arith) outer.1 in
    let t = bytes_text (take p.len p.bytes) in
    let size = r.size in
    let half : length t / 2 ≡ p.len = omega arith in
    let lies : nat_le (cur.offset + length t / 2) 64 ≡ true = (let z : cur.offset + length t / 2 ≤ 64 = omega (arith, s, half) in grind (arith, nat_tests, z)) in
    record {
      reads = ap (λ b. cond b (Some (record cur { len = length t / 2; bytes = spelled_bytes t })) None) (and_from (is_hex t) _ r.hex lies)
          ∙ (λ j. Some (record cur { len = half j; bytes = r.block j }));
      items = refl;
      inked = r.inked;
      few = (let z : length t ≤ 128 = omega arith in z);
    }
operand_reads CountOrAll p cur i e s =
    let m = most_reads p.most e in
    record { reads = ap (option_map (λ x. record cur { most = x })) m.reads; items = refl; inked = m.inked; few = m.few }
operand_reads SessionNumber p cur i e s =
    let q = and_parts (nat_le 1 p.session) _ e in
    let some : 1 ≤ p.session = grind (arith, nat_tests, q.0) in
    let lt : p.session < 256 = grind (arith, nat_tests, q.1) in
    record { reads = ap (option_map (λ (x : SessionId). record cur { session = x.0 })) (session_reads p.session some lt); items = refl; inked = hex2_inked p.session; few = omega arith }
operand_reads NoReply p cur i e s =
    record { reads = refl; items = refl; inked = refl; few = omega arith }
operand_reads LssNumber p cur i e s =
    let lt : p.lss < 256 = grind (arith, nat_tests, e) in
    record { reads = ap (option_map (λ (x : Lss). record cur { lss = x.0 })) (lss_reads p.lss lt); items = refl; inked = hex2_inked p.lss; few = omega arith }
operand_reads VolumeRange p cur i e s =
    let q = and_parts (nat_lt i.first 65536) _ e in
    let lt : i.first < 65536 = grind (arith, nat_tests, q.0) in
    record { reads = refl; items = range_reads i.first lt ∙ item_is i q.1; inked = hex4_inked i.first; few = omega arith }
operand_reads VolumeList p cur i e s =
    let q = and_parts (nat_lt i.first 65536) _ e in
    let lt : i.first < 65536 = grind (arith, nat_tests, q.0) in
    record { reads = refl; items = list_reads i.first lt ∙ item_is i q.1; inked = hex4_inked i.first; few = omega arith }
operand_reads VolumePair p cur i e s =
    let q = and_parts (nat_lt i.first 65536) _ e in
    let a : i.first < 65536 = grind (arith, nat_tests, q.0) in
    let b : i.second < 65536 = grind (arith, nat_tests, q.1) in
    record { reads = refl; items = pair_reads i.first i.second a b; inked = hex4_pair_inked i.first i.second; few = omega arith }
operand_reads LssPair p cur i e s =
    let q = and_parts (nat_lt i.first 256) _ e in
    let a : i.first < 256 = grind (arith, nat_tests, q.0) in
    let b : i.second < 256 = grind (arith, nat_tests, q.1) in
    record { reads = refl; items = lss_pair_reads (lss_in i.first) (lss_in i.second) (omega arith) (omega arith) ∙ lss_is i a b; inked = hex2_pair_inked (lss_in i.first) (lss_in i.second); few = omega arith }
operand_reads EachLss p cur i e s =
    let q = and_parts (nat_lt i.first 256) _ e in
    let a : i.first < 256 = grind (arith, nat_tests, q.0) in
    let same : lss_in i.first ≡ i.first = omega arith in
    record { reads = refl; items = lss_each_reads (lss_in i.first) (omega arith) ∙ (λ j. Some (record { first = same j; second = same j } ∷ [])) ∙ item_is i q.1; inked = hex2_inked (lss_in i.first); few = omega arith }
operand_reads Ports p cur i e s =
    record { reads = refl; items = refl; inked = refl; few = omega arith }
operand_reads ControlPath p cur i e s =
    absurd (cc)
