use Rattle.std.proofs.Common.{◌≡◌, ◌≤◌, length, arith, sym, subst}
use Rattle.dr_master.specs.Seen.{shown_in}
use Rattle.dr_master.proofs.Reported.{length-shown}
use Rattle.dr_master.proofs.reports.Report.tell_few.Goals as goal

pub returns : goal.returns
returns c =
    let long : length c.args.self.now.seqs ≡ 64 = omega arith in
    let also : length c.args.self.now.revertible ≡ 64 = omega arith in
    let counted : length (shown_in c.args.self.now) ≡ c.args.self.now.count = length-shown c.args.self.now.count c.args.self.now.seqs c.args.self.now.revertible (omega arith) (omega arith) in
    subst (λ n. n ≤ 64) (sym counted) c.requires
