-- At the end of each run the headline holds of the devices of a plant that fits it.
use Rattle.std.proofs.Common.{ℕ, ◌≡◌, refl, sym, subst, Bool, List, Option}
use Rattle.dr_model.specs.Layout.{Blocks}
use Rattle.dr_model.specs.Control.{Fuse, World}
use Rattle.dr_model.specs.Fits.{Fits}
use Rattle.dr_model.specs.Runs.{Task, run}
use Rattle.dr_laws_recovery.specs.Recovered.{HoldsTracks}
use Rattle.dr_laws_recovery.specs.Headline.{Headline}
use Rattle.dr_laws_sound.proofs.Steps.{sound-run}
use Rattle.dr_laws_recovery.proofs.Begins.{begins-run}
use Rattle.dr_laws_recovery.proofs.CountedAlong.{Counts, counts-run}
use Rattle.dr_laws_recovery.proofs.Stored.{stored-run}
use Rattle.dr_laws_recovery.proofs.OnTracks.{tracked-run}
use Rattle.dr_laws_recovery.proofs.Headline.{headline-on}

pub headline-run : (tasks : List Task) (w : World) (on : ℕ → Bool) (fuse : ℕ → Option Fuse) (device : ℕ → Blocks) → run tasks ≡ w → Fits w on fuse device → HoldsTracks w device → Headline tasks device
headline-run tasks w on fuse device leads fits holds =
    let k : Counts (run tasks) = counts-run tasks in
    headline-on tasks (run tasks) on fuse device refl (sound-run tasks) (begins-run tasks).cuts k.0.0.once k.0.1.whole k.0.1.members k.1 (stored-run tasks) (tracked-run tasks)
    (subst (λ v. Fits v on fuse device) (sym leads) fits) (subst (λ v. HoldsTracks v device) (sym leads) holds)
