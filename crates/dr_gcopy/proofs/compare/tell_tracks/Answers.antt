use Rattle.std.proofs.Common.{◌≤◌, subst, sym}
use Rattle.dr_config.proofs.Sound.{entry-sized}
use Rattle.dr_moves.proofs.PlaceLaws.{entry-found}
use Rattle.dr_gcopy.proofs.compare.tell_tracks.Goals as goal

pub returns : goal.returns
returns c s =
    let t = c.args.config.now in
    let v = c.args.v.0 in
    let entry = entry-found t v c.requires.defined in
    subst (λ n. 1 ≤ n) (sym (entry.3 s)) (entry-sized t v entry.0 c.volumes-count.ensures.sound entry.1).0
