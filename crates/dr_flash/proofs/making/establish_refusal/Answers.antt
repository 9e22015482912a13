use Rattle.std.proofs.Common.{◌∷◌, ap, sym, ◌∙◌, Some}
use Rattle.dr_model.specs.Entries.{is_running, running_check}
use Rattle.dr_model.specs.Plans.{alike_checks, free_checks}
use Rattle.dr_model.specs.Refusals.{server_off}
use Rattle.dr_volume.specs.View.{on_seen, volume_seen}
use Rattle.dr_volume.proofs.WorldLaws.{on-seen}
use Rattle.dr_moves.specs.Here.{world_seen}
use Rattle.dr_facts.proofs.Ends.{ends-passed}
use Rattle.dr_moves.proofs.EntryLemmas.{refuses}
use Rattle.dr_flash.proofs.CheckLemmas.{then-checked}
use Rattle.dr_flash.proofs.making.establish_refusal.Goals as goal

pub returns-then-not-is_on-clause-checked : goal.returns-then-not-is_on-clause-checked
returns-then-not-is_on-clause-checked g c r events armed ds =
    let s = g.P.Plant.state c.args.plant.now in
    let t = c.args.config.now in
    let w = world_seen s t r events in
    let a = c.args.s.0 in
    let server = c.server_of-server in
    refuses armed w (is_running a) (server_off (volume_seen s t a).server) _ _ (ap (on_seen s) (server.ensures.seen s) ∙ on-seen s server.result.0 server.ensures.known ∙ sym c.is_on.ensures ∙ c.if-not-is_on.true) (ap (λ n. Some (server_off n)) (sym (server.ensures.seen s)))

pub returns-in-Some-clause-checked : goal.returns-in-Some-clause-checked
returns-in-Some-clause-checked g c r events armed ds =
    let s = g.P.Plant.state c.args.plant.now in
    let t = c.args.config.now in
    let w = world_seen s t r events in
    let a = c.args.s.0 in
    let server = c.server_of-server in
    let on = ap (on_seen s) (server.ensures.seen s) ∙ on-seen s server.result.0 server.ensures.known ∙ sym c.is_on.ensures ∙ c.if-not-is_on.false in
    ends-passed armed w (Some c.in-Some.why) w (is_running a) (server_off (volume_seen s t a).server) _ on (c.in-Some.ensures.checked s r events armed _)

pub returns-clause-checked : goal.returns-clause-checked
returns-clause-checked g c r events =
    let s = g.P.Plant.state c.args.plant.now in
    let t = c.args.config.now in
    let w = world_seen s t r events in
    let a = c.args.s.0 in
    let server = c.server_of-server in
    let on = ap (on_seen s) (server.ensures.seen s) ∙ on-seen s server.result.0 server.ensures.known ∙ sym c.is_on.ensures ∙ c.if-not-is_on.false in
    then-checked w (running_check w.control a ∷ alike_checks a c.args.t.0) (free_checks w.control a c.args.t.0) c.free_refusal.result
    (λ armed u o ds more. ends-passed armed u o w (is_running a) (server_off (volume_seen s t a).server) _ on (c.in_default.ensures.checked s r events armed u o ds more))
    (c.free_refusal.ensures.checked r events)
