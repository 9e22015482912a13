-- Volumes and pairs that are written read as items.
use Rattle.std.proofs.Common.{ℕ, ◌≡◌, ◌<◌, List, [], ◌∷◌, ◌++◌, ap, ◌∙◌, arith, true, cond, Option, Some, None, nat_eq}
use Rattle.std.specs.Option.{option_map}
use Rattle.std.proofs.lemmas.Bool.Decides.{nat_tests}
use Rattle.dr_ids.specs.Spelling.{lss_word, hex2, hex4}
use Rattle.dr_ids.specs.declared.names.Lss.{Lss}
use Rattle.dr_model.specs.declared.grammar.Item.{Item}
use Rattle.dr_model.specs.declared.grammar.Span.{Span}
use Rattle.dr_model.specs.LineWords.{◌>>=◌, span_word, span_cut, one_volume, span_len, spans_paired, paired, items_from, range_items, list_items, pair_items, pair_cut, lss_pair_items, lss_pair_cut, lss_items}
use Rattle.dr_script.proofs.ItemLemmas.{list_uncut}
use Rattle.dr_script.proofs.TextLemmas.{lss_reads, volume_reads, mark_found, mark_missing, hex2_colon, hex4_free, hex4_colon}

span : ℕ → Span
span n = record { low = n; high = n }

span_reads : (n : ℕ) → n < 65536 → span_word (hex4 n) ≡ Some (record { low = n; high = n })
span_reads n lt = ap (span_cut (hex4 n)) (mark_missing 45 (hex4 n) (hex4_free n 45 (omega arith))) ∙ ap (option_map one_volume) (volume_reads n lt)

one_long : (n : ℕ) → span_len (record { low = n; high = n }) ≡ 1
one_long n = omega arith

one_pair : (a b : ℕ) → paired (record { low = a; high = a }) (record { low = b; high = b }) ≡ record { first = a; second = b } ∷ []
unfolding paired
one_pair a b = ap (items_from a b) (one_long a)

pub range_reads : (n : ℕ) → n < 65536 → range_items (hex4 n) ≡ Some (record { first = n; second = n } ∷ [])
range_reads n lt = ap (option_map (λ (s : Span). paired s s)) (span_reads n lt) ∙ ap Some (one_pair n n)

pub list_reads : (n : ℕ) → n < 65536 → list_items (hex4 n) ≡ Some (record { first = n; second = n } ∷ [])
list_reads n lt = list_uncut (hex4 n) (mark_missing 44 (hex4 n) (hex4_free n 44 (omega arith))) ∙ ap (λ (o : Option (List Item)). o >>= λ items. Some (items ++ [])) (range_reads n lt)

pub pair_reads : (a b : ℕ) → a < 65536 → b < 65536 → pair_items (hex4 a ++ 58 ∷ hex4 b) ≡ Some (record { first = a; second = b } ∷ [])
pair_reads a b la lb =
    let same : nat_eq (span_len (record { low = a; high = a })) (span_len (record { low = b; high = b })) ≡ true = (let ea = one_long a in let eb = one_long b in grind (arith, nat_tests, ea, eb)) in
    ap (pair_cut (hex4 a ++ 58 ∷ hex4 b)) (mark_found 58 (hex4 a) (hex4 b) (hex4_colon a la))
    ∙ ap (λ (o : Option Span). o >>= λ x. span_word (hex4 b) >>= λ y. spans_paired x y) (span_reads a la)
    ∙ ap (λ (o : Option Span). o >>= λ y. spans_paired (record { low = a; high = a }) y) (span_reads b lb)
    ∙ ap (λ v. cond v (Some (paired (record { low = a; high = a }) (record { low = b; high = b }))) None) same
    ∙ ap Some (one_pair a b)

pub lss_pair_reads : (l m : ℕ) → l < 256 → m < 256 → lss_pair_items (hex2 l ++ 58 ∷ hex2 m) ≡ Some (record { first = l; second = m } ∷ [])
lss_pair_reads l m ll lm =
    ap (lss_pair_cut (hex2 l ++ 58 ∷ hex2 m)) (mark_found 58 (hex2 l) (hex2 m) (hex2_colon l ll))
    ∙ ap (λ (o : Option Lss). o >>= λ x. lss_word (hex2 m) >>= λ y. Some (record { first = x.0; second = y.0 } ∷ [])) (lss_reads l ll)
    ∙ ap (λ (o : Option Lss). o >>= λ y. Some (record { first = l; second = y.0 } ∷ [])) (lss_reads m lm)

pub lss_each_reads : (l : ℕ) → l < 256 → lss_items (hex2 l) ≡ Some (record { first = l; second = l } ∷ [])
lss_each_reads l ll = ap (λ (o : Option Lss). o >>= λ x. Some (record { first = x.0; second = x.0 } ∷ [])) (lss_reads l ll)
