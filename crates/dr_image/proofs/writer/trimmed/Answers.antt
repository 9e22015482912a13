use Rattle.std.proofs.Common.{◌≡◌, ◌+◌, ◌-◌, ℕ, take, ap, sym, ◌∙◌, arith}
use Rattle.dr_model.specs.Text.{trimmed}
use Rattle.dr_image.proofs.TextLemmas.{trim-one, trim-none}
use Rattle.dr_image.proofs.writer.trimmed.Goals as goal
use Rattle.dr_image.proofs.writer.trimmed.Goals.{then-loop-end-test+else-bytes-end-eq0, else-loop-end-test}

pub loop-end-preserved : goal.loop-end-preserved
loop-end-preserved c =
    let bs = c.args.bytes.now in
    let n : ℕ = c.loop-end.end - 1 in
    let w = c.loop-end.invariant.within in
    let one : n + 1 ≡ c.loop-end.end = omega arith in
    record {
      within = omega arith;
      same = sym (trim-one bs n (omega arith) c.if-bytes-end-eq0.true) ∙ ap (λ k. trimmed (take k bs)) one ∙ c.loop-end.invariant.same;
    }

pub returns : goal.returns
returns c =
    let bs = c.args.bytes.now in
    let w0 = c.loop-end.invariant.within in
    elim c.loop-end-test.branch [
      | then-loop-end-test+else-bytes-end-eq0 w ↦
          let n : ℕ = c.loop-end.end - 1 in
          let one : n + 1 ≡ c.loop-end.end = (let t = w.loop-end-test.true in omega arith) in
          ap (λ k. take k bs) (sym one) ∙ sym (trim-none bs n (omega arith) w.if-bytes-end-eq0.false) ∙ ap (λ k. trimmed (take k bs)) one ∙ c.loop-end.invariant.same
      | else-loop-end-test w ↦
          let none : c.loop-end.end ≡ 0 = (let t = w.loop-end-test.false in omega arith) in
          ap (λ k. take k bs) none ∙ sym (ap (λ k. trimmed (take k bs)) none) ∙ c.loop-end.invariant.same
    ]
