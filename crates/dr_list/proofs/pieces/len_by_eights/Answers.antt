use Rattle.std.proofs.Common.{◌∙◌, take, replicate, arith}
use Rattle.std.proofs.lemmas.Bool.Decides.{Decides-eqb}
use Rattle.std.proofs.lemmas.Slice.Eq.{ends_is}
use Rattle.dr_list.proofs.TextLemmas.{trimmed-fewer}
use Rattle.dr_list.proofs.pieces.len_by_eights.Goals as goal

pub loop-len-preserved : goal.loop-len-preserved
loop-len-preserved c =
    let front = take c.loop-len.len c.args.bytes.now in
    let within = c.loop-len.invariant.within in
    record {
      within = omega (arith, within);
      front = trimmed-fewer c.args.bytes.now c.loop-len.len 8 within ((ends_is Decides-eqb front (replicate 8 0) c.ends_with.result c.ends_with.ensures.value).0 c.loop-len-test.true) ∙ c.loop-len.invariant.front;
    }
