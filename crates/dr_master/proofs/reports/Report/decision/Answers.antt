use Rattle.std.proofs.Common.{ap, sym, ◌∙◌, take}
use Rattle.dr_model.specs.Decisions.{decision, shown_by}
use Rattle.dr_master.proofs.Reported.{take-shown_by}
use Rattle.dr_master.proofs.reports.Report.decision.Goals as goal

pub returns : goal.returns
returns c =
    c.decide.ensures
    ∙ (ap (λ n. decision (shown_by (take n c.args.self.now.seqs) (take n c.args.self.now.revertible))) c.from-count.ensures
    ∙ sym (ap decision (take-shown_by c.args.self.now.count c.args.self.now.seqs c.args.self.now.revertible)))
