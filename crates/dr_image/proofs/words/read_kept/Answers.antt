use Rattle.std.proofs.Common.{◌≡◌, ◌-◌, ◌/◌, Bool, false, List, ℕ, length, get_or, nat_eq, Some, None, sym, ap, ◌∙◌, arith}
use Rattle.std.specs.Prelude.{if◌then◌else◌}
use Rattle.std.proofs.lemmas.Bool.Decides.{nat_tests}
use Rattle.dr_image.proofs.BytesLemmas.{kept-odd, kept-many, kept-read}
use Rattle.dr_image.proofs.words.read_kept.Goals as goal

pub returns-then-count-gt64 : goal.returns-then-count-gt64
returns-then-count-gt64 c = kept-many c.args.word.now c.if-count-gt64.true

pub returns-then-word-count : goal.returns-then-word-count
returns-then-word-count c = kept-odd c.args.word.now c.if-word-count.true

zero_last : (block : List ℕ) (i : ℕ) → get_or block i 0 ≡ 0 → (if nat_eq (get_or block i 0) 0 then None else Some block) ≡ None
zero_last block i z = ap (λ n. if nat_eq n 0 then None else Some block) z

pub returns-then-bytes-count-eq0 : goal.returns-then-bytes-count-eq0
returns-then-bytes-count-eq0 c =
    let word = c.args.word.now in
    let block = c.in_ok-bytes.bytes in
    sym (kept-read word block (length word / 2) (omega arith) (omega arith) (omega arith) c.in_ok-bytes.ensures ∙ zero_last block (length word / 2 - 1) c.if-bytes-count-eq0.true)

pub returns-else-bytes-count-eq0 : goal.returns-else-bytes-count-eq0
returns-else-bytes-count-eq0 c =
    let word = c.args.word.now in
    let block = c.in_ok-bytes.bytes in
    let last : nat_eq (get_or block (length word / 2 - 1) 0) 0 ≡ false = grind (arith, nat_tests, c.if-bytes-count-eq0.false) in
    sym (kept-read word block (length word / 2) (omega arith) (omega arith) (omega arith) c.in_ok-bytes.ensures ∙ ap (λ (b : Bool). if b then None else Some block) last)
