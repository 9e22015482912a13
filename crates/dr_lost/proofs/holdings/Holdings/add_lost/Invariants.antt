use Rattle.std.proofs.Common.{◌≡◌, nat_eq}
use Rattle.indexmap.specs.IndexSet.{insert_all}
use Rattle.dr_model.specs.Histories.{Histories}
use Rattle.dr_lost.specs.Held.{StandsFor}
use Rattle.dr_lost.specs.Lost.{lost_by}
use Rattle.dr_lost.proofs.holdings.Holdings.add_lost.Given as goal

abbrev pub invariant-loop-track : goal.invariant-loop-track
invariant-loop-track l = (a b : Histories) → StandsFor l.self a → StandsFor l.at_end b → l.lost.keys ≡ insert_all nat_eq l.initial.lost.keys (lost_by l.track a.now b.now l.pair)
