use Rattle.std.proofs.Common.{ap, sym, ◌∙◌, ◌==◌}
use Rattle.std.specs.Int.{bit_at}
use Rattle.std.proofs.lemmas.Nat.Bits.{shr_and_one}
use Rattle.dr_master.proofs.Sets.{is_among-servers_where}
use Rattle.dr_master.proofs.servers.ServerSet.contains.Goals as goal

pub returns : goal.returns
returns c =
    ap (λ b. b == 1) (shr_and_one c.args.self.0 c.args.s.0) ∙ sym (is_among-servers_where (λ k. bit_at c.args.self.0 k == 1) c.args.s.0 c.requires)
