use Rattle.std.proofs.Common.{ap, ◌∙◌, sym, arith, length, length-set}
use Rattle.dr_logic.specs.Bytes.{zeros}
use Rattle.dr_image.proofs.BytesLemmas.{length-zeros, none_read, pair-read, zeros-behind}
use Rattle.dr_image.proofs.words.read_pairs.Goals as goal

pub loop-i-init : goal.loop-i-init
unfolding zeros
loop-i-init c = record { sized = ap length c.zero_block-bytes.ensures ∙ length-zeros; rest = none_read c.args.word.now; zeros = c.zero_block-bytes.ensures }

pub loop-i-preserved : goal.loop-i-preserved
loop-i-preserved c = record {
  sized = length-set c.loop-i.bytes c.loop-i.i _ ∙ c.loop-i.invariant.sized;
  rest = pair-read c.args.word.now c.loop-i.bytes c.loop-i.i c.in_ok-bytes.field-0 (let e = c.loop-i.invariant.sized in let f = c.requires.few in omega arith) (let e = c.requires.pairs in omega arith) (sym c.in_ok-bytes.ensures) c.loop-i.invariant.rest;
  zeros = zeros-behind c.loop-i.bytes c.loop-i.i c.in_ok-bytes.field-0 (let e = c.loop-i.invariant.sized in let f = c.requires.few in omega arith) c.loop-i.invariant.zeros;
}
