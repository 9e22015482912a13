use Rattle.std.proofs.Common.{List, [], ap, arith, sym, subst, ◌∙◌}
use Rattle.dr_model.specs.declared.step.Step.{Step}
use Rattle.dr_model.specs.Forming.{formed}
use Rattle.dr_model.specs.Plans.{has_room}
use Rattle.dr_sweep.specs.Apart.{AddsAll, turns_of}
use Rattle.dr_sweep.specs.Seen.{run_seen}
use Rattle.dr_sweep.proofs.WayLemmas.{full-parts, many-parts, run-parts}
use Rattle.dr_sweep.proofs.run.PointRun.parts_of_run.Goals as goal

pub returns-then-asked-gt-MOST_GROUPS-clause-adds : goal.returns-then-asked-gt-MOST_GROUPS-clause-adds
returns-then-asked-gt-MOST_GROUPS-clause-adds c =
    let r = run_seen c.args.self.now in
    subst (λ (ps : List Step). AddsAll r r c.args.asked.session [] ps (λ v. formed v c.args.asked.session c.args.asked.groups)) (sym c.new-parts.ensures.items) (many-parts r c.args.asked.session c.args.asked.groups [] c.if-asked-gt-MOST_GROUPS.true)

pub returns-then-not-has_room-clause-adds : goal.returns-then-not-has_room-clause-adds
returns-then-not-has_room-clause-adds c =
    let r = run_seen c.args.self.now in
    subst (λ (ps : List Step). AddsAll r r c.args.asked.session [] ps (λ v. formed v c.args.asked.session c.args.asked.groups)) (sym c.new-parts.ensures.items)
    (full-parts r c.args.asked.session c.args.asked.groups [] (ap has_room (sym c.journal.ensures) ∙ sym c.if-not-has_room.ensures))

pub returns-clause-adds : goal.returns-clause-adds
returns-clause-adds c =
    let old = run_seen c.args.self.now in
    let new = run_seen c.take_turns.new.self in
    run-parts old c.args.asked.session c.args.asked.groups new [] c.take_turns.new.parts.items (let few = c.if-asked-gt-MOST_GROUPS.false in omega (arith, few)) (ap has_room (sym c.journal.ensures) ∙ sym c.if-not-has_room.ensures)
    (subst (λ (ps : List Step). AddsAll old new c.args.asked.session ps c.take_turns.new.parts.items (turns_of c.args.asked.session c.args.asked.groups)) c.new-parts.ensures.items c.in_ok-take_turns.ensures.adds)
