use Rattle.std.proofs.Common.{◌≡◌, nat_eq}
use Rattle.indexmap.specs.IndexSet.{insert_all}
use Rattle.dr_model.specs.Histories.{Histories}
use Rattle.dr_lost.specs.Held.{StandsFor}
use Rattle.dr_lost.specs.Lost.{held_by}
use Rattle.dr_lost.proofs.holdings.Holdings.add_held.Given as goal

abbrev pub invariant-loop-track : goal.invariant-loop-track
invariant-loop-track l = (h : Histories) → StandsFor l.self h → l.held.keys ≡ insert_all nat_eq l.initial.held.keys (held_by l.track h.now l.volume)
