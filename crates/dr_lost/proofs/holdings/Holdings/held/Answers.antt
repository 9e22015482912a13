use Rattle.std.proofs.Common.{ap, ◌∙◌, arith}
use Rattle.std.proofs.lemmas.List.{take_all}
use Rattle.std.specs.List.{flat_map}
use Rattle.dr_lost.specs.Lost.{each_once, held_by}
use Rattle.dr_lost.proofs.SetLemmas.{held-members}
use Rattle.dr_lost.proofs.holdings.Holdings.held.Goals as goal

pub returns-clause-members : goal.returns-clause-members
returns-clause-members c = λ h s w.
    held-members 256 h.now c.args.volumes.now w c.loop-volume.held.keys
    (c.loop-volume.invariant h s ∙ ap (λ vs. each_once (flat_map (held_by 256 h.now) vs)) (take_all c.loop-volume.volume-index c.args.volumes.now (omega arith)))
