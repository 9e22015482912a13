use Rattle.std.proofs.Common.{ap, ◌∙◌, ◌<◌, length, length-set, refl, sym, arith, Some, None, cond}
use Rattle.std.proofs.lemmas.Option.{cond_some}
use Rattle.dr_model.specs.LineWords.{spelled_bytes}
use Rattle.dr_script.proofs.ValueLemmas.{length-zeros, zeros_are, byte_more, zeros_left, whole_block, pair_read, pair_odd, pairs_read, none_chosen}
use Rattle.dr_script.proofs.values.read_pairs.Goals as goal

pub loop-k-init : goal.loop-k-init
loop-k-init c = record { sized = ap length c.zero_block-bytes.ensures ∙ length-zeros; front = refl; back = c.zero_block-bytes.ensures ∙ zeros_are; digits = refl }

pub returns-in_err-bytes : goal.returns-in_err-bytes
returns-in_err-bytes c =
    let odd = pair_odd c.args.word.now c.loop-k.k (omega arith) (none_chosen _ _ c.in_err-bytes.ensures) c.loop-k.invariant.digits in
    c.from_residual.ensures ∙ ap (λ b. cond b (Some (spelled_bytes c.args.word.now)) None) (sym odd)

pub loop-k-preserved : goal.loop-k-preserved
loop-k-preserved c =
    let sized = c.loop-k.invariant.sized in
    let lt : c.loop-k.k < length c.loop-k.bytes = omega (arith, sized) in
    let read = cond_some _ _ _ (sym c.in_ok-bytes.ensures) in
    record {
      sized = length-set c.loop-k.bytes c.loop-k.k c.in_ok-bytes.field-0 ∙ sized;
      front = byte_more c.args.word.now c.loop-k.bytes c.loop-k.k c.in_ok-bytes.field-0 lt (sym read.1) c.loop-k.invariant.front;
      back = zeros_left c.loop-k.bytes c.loop-k.k c.in_ok-bytes.field-0 (omega arith) c.loop-k.invariant.back;
      digits = pair_read c.args.word.now c.loop-k.k (omega arith) read.0 c.loop-k.invariant.digits;
    }

pub returns : goal.returns
returns c =
    let word = c.args.word.now in
    let all = pairs_read word c.loop-k.k (omega arith) c.loop-k.invariant.digits in
    ap Some (whole_block word c.loop-k.bytes c.loop-k.k (omega arith) (λ i from lt. omega arith) c.loop-k.invariant.front c.loop-k.invariant.back)
    ∙ ap (λ b. cond b (Some (spelled_bytes word)) None) (sym all)
