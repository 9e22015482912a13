use Rattle.std.proofs.Common.{◌<◌, subst, sym}
use Rattle.dr_volume.specs.Update.{IsAsBefore}
use Rattle.dr_volume.specs.View.{track_seen}
use Rattle.dr_gcopy.proofs.DifferenceLemmas.{differing-low}
use Rattle.dr_gcopy.proofs.compare.difference.Goals as goal

pub returns-in_err-read_first-2-clause-same : goal.returns-in_err-read_first-2-clause-same
returns-in_err-read_first-2-clause-same g c u =
    subst (λ s. IsAsBefore s (g.P.Plant.state c.read_first-2.new.plant) c.args.config.now u) c.in_ok-read_first.ensures.passed (c.in_err-read_first-2.ensures.same u)

pub returns-clause-low : goal.returns-clause-low
returns-clause-low g c t is =
    subst (λ n. t < n) (sym (c.tracks_of-tracks.ensures.seen (g.P.Plant.state c.args.plant.now)))
    (differing-low (track_seen (g.P.Plant.state c.read_first-2.new.plant) c.args.config.now) c.tracks_of-tracks.result c.args.a.0 c.args.b.0 c.first_unlike.result c.first_unlike.ensures t is)
