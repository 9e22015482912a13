use Rattle.std.proofs.Common.{◌≡◌, length, arith, ap}
use Rattle.dr_master.specs.Seen.{shown_in}
use Rattle.dr_master.proofs.Reported.{length-shown}
use Rattle.dr_model.specs.Phases.{Master}
use Rattle.dr_master.proofs.master.Master.note_report.Goals as goal

pub append-requires : goal.append-requires
append-requires c =
    let long : length c.self.inside.reports.seqs ≡ 64 = omega arith in
    let also : length c.self.inside.reports.revertible ≡ 64 = omega arith in
    let counted : length (shown_in c.self.inside.reports) ≡ c.self.inside.reports.count = length-shown c.self.inside.reports.count c.self.inside.reports.seqs c.self.inside.reports.revertible (omega arith) (omega arith) in
    let view : length (shown_in c.self.inside.reports) ≡ length c.args.self.now.reports = ap (λ (m : Master). length m.reports) c.self.view_is in
    omega arith

pub invariant_of-self : goal.invariant_of-self
invariant_of-self c =
    let long : length c.self.inside.reports.seqs ≡ 64 = omega arith in
    let also : length c.self.inside.reports.revertible ≡ 64 = omega arith in
    let counted : length (shown_in c.self.inside.reports) ≡ c.self.inside.reports.count = length-shown c.self.inside.reports.count c.self.inside.reports.seqs c.self.inside.reports.revertible (omega arith) (omega arith) in
    let view : length (shown_in c.self.inside.reports) ≡ length c.args.self.now.reports = ap (λ (m : Master). length m.reports) c.self.view_is in
    omega arith
