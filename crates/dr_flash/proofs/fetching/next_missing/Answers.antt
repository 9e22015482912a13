use Rattle.dr_flash.proofs.ShowLemmas.{rest-missing}
use Rattle.dr_flash.proofs.fetching.next_missing.Goals as goal

pub returns-clause-missing : goal.returns-clause-missing
returns-clause-missing c = rest-missing c.args.n c.args.own.now c.rest.result c.lowest.result c.rest.ensures c.lowest.ensures.member
