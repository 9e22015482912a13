use Rattle.std.proofs.Common.{◌≡◌, ◌+◌, length, nat_le, arith, sym, ◌∙◌}
use Rattle.dr_master.specs.Seen.{shown_in}
use Rattle.dr_master.proofs.Reported.{length-shown}
use Rattle.dr_master.proofs.reports.Report.has_room_for.Goals as goal

pub returns : goal.returns
returns c =
    let long : length c.args.self.now.seqs ≡ 64 = omega arith in
    let also : length c.args.self.now.revertible ≡ 64 = omega arith in
    let counted : length (shown_in c.args.self.now) ≡ c.args.self.now.count = length-shown c.args.self.now.count c.args.self.now.seqs c.args.self.now.revertible (omega arith) (omega arith) in
    λ i. nat_le ((c.from.ensures ∙ sym counted) i + c.count.ensures.count i) 64
