use Rattle.std.proofs.Common.{◌∙◌, ap, sym}
use Rattle.dr_plan.specs.declared.points.Point.{Point}
use Rattle.dr_sweep.specs.Comes.{first_stop}
use Rattle.dr_sweep.specs.Reach.{stop_since}
use Rattle.dr_sweep.proofs.point.first_stop.Goals as goal

pub returns-in-Cut : goal.returns-in-Cut
returns-in-Cut c =
    let plan = c.args.plan.now in
    let events = c.args.journal.now.events in
    c.stop_since.ensures
    ∙ ap (λ names. stop_since names c.in-Cut.server c.args.from events) c.servers_at.ensures.servers
    ∙ sym (ap (λ (p : Point). first_stop plan p c.args.from events) c.in-Cut.is)
