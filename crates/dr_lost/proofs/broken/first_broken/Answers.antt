use Rattle.std.proofs.Common.{nat_eq}
use Rattle.indexmap.specs.IndexSet.{contains}
use Rattle.dr_lost.proofs.BrokenLemmas.{is-first-broken}
use Rattle.dr_lost.proofs.broken.first_broken.Goals as goal

pub returns-clause-found : goal.returns-clause-found
returns-clause-found c =
    let issued = c.in_ok-write.ensures.found in
    is-first-broken c.args.journal.now.events (contains nat_eq c.args.held.now) (contains nat_eq c.args.lost.now) c.in_ok-first.first.place c.in_ok-write.write c.in_ok-first.first.write issued.0
    c.in_ok-first.ensures.found issued.1
