use Rattle.std.proofs.Common.{◌≡◌, ◌-◌, ◌+◌, ◌<◌, ap, sym, ◌∙◌, arith, take, length}
use Rattle.dr_model.specs.Histories.{Histories, Write, histories, no_write}
use Rattle.dr_model.specs.Asked.{write_of}
use Rattle.dr_model.proofs.Asking.{write-back, histories-none}
use Rattle.dr_model.proofs.image.issue_before.Goals as goal

pub returns-in-Some : goal.returns-in-Some
returns-in-Some c =
    let lt : c.loop-at.at - 1 < length c.args.journal.now.events = omega arith in
    let e : c.loop-at.at ≡ (c.loop-at.at - 1) + 1 = omega arith in
    let is : write_of c.in-Some.issued ≡ (histories (take c.args.place c.args.journal.now.events)).write c.args.number =
    sym (write-back c.args.journal.now.events c.loop-at.at (c.loop-at.at - 1) c.args.number e lt _ c.in-Some.ensures) ∙ c.loop-at.invariant.same in
    record {
      volume = ap (λ (w : Write). w.volume) is;
      track = ap (λ (w : Write). w.track) is;
      offset = ap (λ (w : Write). w.offset) is;
      bytes = ap (λ (w : Write). w.bytes) is;
    }

pub loop-at-preserved : goal.loop-at-preserved
loop-at-preserved c =
    let lt : c.loop-at.at - 1 < length c.args.journal.now.events = omega arith in
    let e : c.loop-at.at ≡ (c.loop-at.at - 1) + 1 = omega arith in
    record {
      within = omega arith;
      same = sym (write-back c.args.journal.now.events c.loop-at.at (c.loop-at.at - 1) c.args.number e lt _ c.in_default.ensures) ∙ c.loop-at.invariant.same;
    }

pub returns : goal.returns
returns c =
    let is : no_write ≡ (histories (take c.args.place c.args.journal.now.events)).write c.args.number =
    sym (ap (λ (h : Histories). h.write c.args.number) (histories-none c.args.journal.now.events c.loop-at.at (omega arith))) ∙ c.loop-at.invariant.same in
    record {
      volume = ap (λ (w : Write). w.volume) is;
      track = ap (λ (w : Write). w.track) is;
      offset = ap (λ (w : Write). w.offset) is;
      bytes = ap (λ (w : Write). w.bytes) is;
    }
