use Rattle.std.proofs.Common.{◌<◌, arith, ap, ◌∙◌}
use Rattle.std.proofs.lemmas.Bool.{eq-eqb, eqb-true}
use Rattle.dr_master.specs.Seen.{servers_in}
use Rattle.dr_master.proofs.Sets.{servers_in-none, zero-servers_in}
use Rattle.dr_master.proofs.servers.ServerSet.is_empty.Goals as goal

pub returns : goal.returns
returns c =
    let low : c.args.self.0 < 256 = omega arith in (
      λ zero. ap servers_in (eqb-true c.args.self.0 0 zero) ∙ servers_in-none,
      λ none. eq-eqb c.args.self.0 0 (zero-servers_in c.args.self.0 low none),
    )
