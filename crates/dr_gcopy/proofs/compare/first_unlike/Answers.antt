use Rattle.std.proofs.Common.{not, arith, sym, ◌∙◌}
use Rattle.std.specs.Str.{bytes_eq}
use Rattle.dr_volume.specs.View.{track_seen}
use Rattle.dr_gcopy.proofs.DifferenceLemmas.{differing-first, differing-none}
use Rattle.dr_gcopy.proofs.compare.first_unlike.Goals as goal

pub returns-then-ne : goal.returns-then-ne
returns-then-ne g c =
    differing-first (track_seen (g.P.Plant.state c.args.plant.now) c.args.config.now) c.args.tracks c.args.a.0 c.args.b.0 c.loop-t.t c.loop-t-test.true
    ((λ i. not (bytes_eq (sym c.peek_track-one.ensures i) (sym c.peek_track-other.ensures i))) ∙ sym c.ne.ensures ∙ c.if-ne.true)
    c.loop-t.invariant

pub returns : goal.returns
returns g c =
    differing-none (track_seen (g.P.Plant.state c.args.plant.now) c.args.config.now) c.args.tracks c.args.a.0 c.args.b.0
    (λ i low. c.loop-t.invariant i (let over = c.loop-t-test.false in omega arith))
