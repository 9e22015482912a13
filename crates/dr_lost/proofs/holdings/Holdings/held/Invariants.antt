use Rattle.std.proofs.Common.{◌≡◌, take}
use Rattle.std.specs.List.{flat_map}
use Rattle.dr_model.specs.Histories.{Histories}
use Rattle.dr_lost.specs.Held.{StandsFor}
use Rattle.dr_lost.specs.Lost.{each_once, held_by}
use Rattle.dr_lost.proofs.holdings.Holdings.held.Given as goal

abbrev pub invariant-loop-volume : goal.invariant-loop-volume
invariant-loop-volume l = (h : Histories) → StandsFor l.self h → l.held.keys ≡ each_once (flat_map (held_by 256 h.now) (take l.volume-index l.volumes))
