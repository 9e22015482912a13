use Rattle.std.proofs.Common.{ap, map, sym, subst, ◌∙◌, ◌++◌, Some}
use Rattle.dr_host.specs.Writes.{Writes}
use Rattle.dr_host.specs.Seen.{pending_seen}
use Rattle.dr_host.proofs.Each.{each-without}
use Rattle.dr_host.proofs.Seen.{seen-without}
use Rattle.dr_model.specs.Entries.{write_checks}
use Rattle.dr_model.specs.Histories.{histories}
use Rattle.dr_model.specs.ReadStops.{Ends}
use Rattle.dr_model.specs.Refusals.{server_off}
use Rattle.dr_volume.specs.View.{on_seen}
use Rattle.dr_volume.proofs.WorldLaws.{on-seen}
use Rattle.dr_moves.specs.Here.{armed_in}
use Rattle.dr_host.specs.Here.{here, rest_of}
use Rattle.dr_metro.specs.Here.{IsTold}
use Rattle.dr_metro.proofs.RouteLemmas.{some-found}
use Rattle.dr_metro.proofs.SyncLemmas.{write-off, write-drops}
use Rattle.dr_metro.proofs.ToldLemmas.{IsWrite}
use Rattle.dr_metro.proofs.sync.check_write.Goals as goal

pub returns-then-not-is_on-clause-ends : goal.returns-then-not-is_on-clause-ends
returns-then-not-is_on-clause-ends g c r events es =
    let s = g.P.Plant.state c.args.plant.now in
    let x = here s c.args.config.now r c.args.h.now events in
    let w = c.args.w.now in
    let v = w.volume.0 in
    let on = ap (on_seen s) c.requires.server ∙ on-seen s c.args.server.0 c.requires.known ∙ sym c.is_on.ensures in
    subst (λ n. Ends (armed_in s) x (Some (server_off n)) x (write_checks x.control w.w.0 v ++ es)) c.requires.server (write-off (armed_in s) x w.w.0 v es (on ∙ c.if-not-is_on.true))

pub finish-requires : goal.finish-requires
finish-requires g c = some-found _ c.args.w.now c.requires.found

pub returns-in-Err-clause-ends : goal.returns-in-Err-clause-ends
returns-in-Err-clause-ends g c r events es =
    let s = g.P.Plant.state c.args.plant.now in
    let h = c.args.h.now in
    let x = here s c.args.config.now r h events in
    let w = c.args.w.now in
    let v = w.volume.0 in
    let on = ap (on_seen s) c.requires.server ∙ on-seen s c.args.server.0 c.requires.known ∙ sym c.is_on.ensures in
    let why = c.in-Err.why in
    let gone = c.finish.ensures in
    subst (λ y. Ends (armed_in s) y (Some why) x (write_checks x.control w.w.0 v ++ es))
    (λ i. record x { control = record x.control { issued = (sym (ap (λ (y : Writes). y.issued) gone) i); pending = (sym (seen-without w.w.0 h.pending) ∙ ap (λ (y : Writes). map pending_seen y.pending) (sym gone)) i } })
    (write-drops (armed_in s) x w.w.0 v why es (on ∙ c.if-not-is_on.false) (sym (c.in-Err.ensures.refusal (rest_of r h events) events)))

pub returns-in-Err-clause-told : goal.returns-in-Err-clause-told
returns-in-Err-clause-told g c events told =
    subst (λ (x : Writes). IsTold x events) (sym c.finish.ensures) (each-without (IsWrite (histories events).write) c.args.w.now.w.0 c.args.h.now.pending told)

pub returns-in-Err-clause-issued : goal.returns-in-Err-clause-issued
returns-in-Err-clause-issued g c = ap (λ (x : Writes). x.issued) c.finish.ensures

pub returns-in-Ok-clause-running : goal.returns-in-Ok-clause-running
returns-in-Ok-clause-running g c = ap (g.P.Plant.state c.args.plant.now).on c.requires.server ∙ sym c.is_on.ensures ∙ c.if-not-is_on.false

pub returns-in-Ok-clause-free : goal.returns-in-Ok-clause-free
returns-in-Ok-clause-free g c r events = sym (c.in-Ok.ensures.refusal r events)
