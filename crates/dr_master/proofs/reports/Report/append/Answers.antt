use Rattle.std.proofs.Common.{◌≡◌, length, take, arith, ap, ◌∙◌}
use Rattle.std.proofs.lemmas.Grind.{common_steps}
use Rattle.dr_master.proofs.Reported.{joined, laid}
use Rattle.dr_master.proofs.reports.Report.append.Goals as goal

pub returns-clause-shown : goal.returns-clause-shown
returns-clause-shown c =
    let old = c.args.self.now in
    let more = c.args.more.now in
    let long : length old.seqs ≡ 64 = omega arith in
    let also : length old.revertible ≡ 64 = omega arith in
    let more_long : length more.seqs ≡ 64 = omega arith in
    let more_also : length more.revertible ≡ 64 = omega arith in
    let from : c.from-from.result ≡ old.count = c.from-from.ensures in
    let added : c.from-added.result ≡ more.count = c.from-added.ensures in
    let put : c.copy_from_slice.new.self ≡ take more.count more.seqs = c.copy_from_slice.ensures.after ∙ ap (λ n. take n more.seqs) added in
    let put_flags : c.copy_from_slice-2.new.self ≡ take more.count more.revertible = c.copy_from_slice-2.ensures.after ∙ ap (λ n. take n more.revertible) added in
    let put_long : length c.copy_from_slice.new.self ≡ more.count = ap length put ∙ grind (arith, common_steps) in
    let flags_long : length c.copy_from_slice-2.new.self ≡ more.count = ap length put_flags ∙ grind (arith, common_steps) in
    joined old.seqs more.seqs _ old.revertible more.revertible _ old.count more.count (omega arith) (omega arith)
    (laid c.from-from.result _ old.count more.count old.seqs c.copy_from_slice.new.self _ from put put_long (omega arith))
    (laid c.from-from.result _ old.count more.count old.revertible c.copy_from_slice-2.new.self _ from put_flags flags_long (omega arith))
