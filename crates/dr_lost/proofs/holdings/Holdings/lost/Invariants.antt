use Rattle.std.proofs.Common.{◌≡◌, take}
use Rattle.std.specs.List.{flat_map}
use Rattle.dr_model.specs.Histories.{Histories}
use Rattle.dr_lost.specs.Held.{StandsFor}
use Rattle.dr_lost.specs.Lost.{each_once, lost_by}
use Rattle.dr_lost.proofs.holdings.Holdings.lost.Given as goal

abbrev pub invariant-loop-pair : goal.invariant-loop-pair
invariant-loop-pair l = (a b : Histories) → StandsFor l.self a → StandsFor l.at_end b → l.lost.keys ≡ each_once (flat_map (lost_by 256 a.now b.now) (take l.pair-index l.pairs))
