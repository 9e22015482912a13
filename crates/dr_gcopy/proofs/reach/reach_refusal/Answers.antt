use Rattle.std.proofs.Common.{ap, sym, ◌∙◌, subst, true, ◌≡◌}
use Rattle.dr_volume.specs.View.{volume_seen}
use Rattle.dr_moves.specs.Checks.{OnNone, is_stop}
use Rattle.dr_gcopy.proofs.ReachLemmas.{reach-is, reach-calm, reach-running}
use Rattle.dr_gcopy.proofs.reach.reach_refusal.Goals as goal

pub returns-clause-refusal : goal.returns-clause-refusal
returns-clause-refusal g c r events = c.err.ensures.value ∙ c.reach.ensures.refused ∙ reach-is (g.P.Plant.state c.args.plant.now) c.args.config.now c.args.a.0 c.args.b.0 c.requires.stands c.requires.from c.requires.to r events

pub returns-clause-running : goal.returns-clause-running
returns-clause-running g c =
    let s = g.P.Plant.state c.args.plant.now in
    let t = c.args.config.now in
    subst (λ o. OnNone o (s.on (volume_seen s t c.args.b.0).server ≡ true)) (sym (c.err.ensures.value ∙ c.reach.ensures.refused)) (reach-running s t c.args.a.0 c.args.b.0 c.requires.stands c.requires.from c.requires.to)

pub returns-clause-calm : goal.returns-clause-calm
returns-clause-calm g c = ap is_stop (c.err.ensures.value ∙ c.reach.ensures.refused) ∙ reach-calm (g.P.Plant.state c.args.plant.now) c.args.config.now c.args.a.0 c.args.b.0 c.requires.stands c.requires.from c.requires.to
