use Rattle.std.proofs.Common.{◌≡◌, ◌-◌, ◌+◌, ◌<◌, ap, sym, ◌∙◌, arith, length}
use Rattle.dr_model.specs.Histories.{Histories}
use Rattle.dr_model.proofs.Asking.{tracks-back, histories-none}
use Rattle.dr_model.proofs.image.tracks_before.Goals as goal

pub returns-in-Some : goal.returns-in-Some
returns-in-Some c =
    let lt : c.loop-at.at - 1 < length c.args.journal.now.events = omega arith in
    let e : c.loop-at.at ≡ (c.loop-at.at - 1) + 1 = omega arith in
    sym (tracks-back c.args.journal.now.events c.loop-at.at (c.loop-at.at - 1) c.args.of e lt _ c.in-Some.ensures) ∙ c.loop-at.invariant.same

pub loop-at-preserved : goal.loop-at-preserved
loop-at-preserved c =
    let lt : c.loop-at.at - 1 < length c.args.journal.now.events = omega arith in
    let e : c.loop-at.at ≡ (c.loop-at.at - 1) + 1 = omega arith in
    record {
      within = omega arith;
      same = sym (tracks-back c.args.journal.now.events c.loop-at.at (c.loop-at.at - 1) c.args.of e lt _ c.in_default.ensures) ∙ c.loop-at.invariant.same;
    }

pub returns : goal.returns
returns c = sym (ap (λ (h : Histories). h.tracks c.args.of) (histories-none c.args.journal.now.events c.loop-at.at (omega arith))) ∙ c.loop-at.invariant.same
