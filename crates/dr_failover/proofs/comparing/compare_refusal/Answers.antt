use Rattle.std.proofs.Common.{◌∙◌, [], ap, refl, sym, nat_eq, Some}
use Rattle.dr_ids.specs.declared.refusal.Which.TheVariants.{Size}
use Rattle.dr_model.specs.Entries.{is_running, share_size}
use Rattle.dr_model.specs.Refusals.{over, server_off}
use Rattle.dr_model.specs.Messages.{no_flight}
use Rattle.dr_moves.specs.Here.{world_seen}
use Rattle.dr_facts.proofs.Ends.{ends-passed}
use Rattle.dr_moves.proofs.EntryLemmas.{refuses}
use Rattle.dr_flash.proofs.CheckLemmas.{same-test, differ-test}
use Rattle.dr_failover.proofs.ResyncLemmas.{checked-why}
use Rattle.dr_failover.proofs.comparing.compare_refusal.Goals as goal

pub returns-in-Some-running_refusal-clause-checked : goal.returns-in-Some-running_refusal-clause-checked
returns-in-Some-running_refusal-clause-checked g c r events armed ds =
    let w = world_seen (g.P.Plant.state c.args.plant.now) c.args.config.now r events in
    c.in_default.ensures.checked r events armed w (Some c.in-Some-running_refusal.why) _ (c.in-Some-running_refusal.ensures.checked r events armed _)

pub returns-then-tracks_of-clause-checked : goal.returns-then-tracks_of-clause-checked
returns-then-tracks_of-clause-checked g c r events armed ds =
    let s = g.P.Plant.state c.args.plant.now in
    let w = world_seen s c.args.config.now r events in
    c.in_default.ensures.checked r events armed w (Some (over Size)) _
    (c.in_default-running_refusal.ensures.checked r events armed w (Some (over Size)) _
    (refuses armed w (share_size c.args.v.0 c.args.u.0) (over Size) (Some (over Size)) _ ((λ i. nat_eq (c.tracks_of.ensures.seen s i) (c.tracks_of-2.ensures.seen s i)) ∙ differ-test _ _ c.if-tracks_of.true) refl))

pub returns-clause-checked : goal.returns-clause-checked
returns-clause-checked g c r events armed u r' ds more =
    let s = g.P.Plant.state c.args.plant.now in
    let w = world_seen s c.args.config.now r events in
    c.in_default.ensures.checked r events armed u r' _
    (c.in_default-running_refusal.ensures.checked r events armed u r' _
    (ends-passed armed u r' w (share_size c.args.v.0 c.args.u.0) (over Size) _ ((λ i. nat_eq (c.tracks_of.ensures.seen s i) (c.tracks_of-2.ensures.seen s i)) ∙ same-test _ _ c.if-tracks_of.false) more))

pub returns-in-Some-clause-other : goal.returns-in-Some-clause-other
returns-in-Some-clause-other g c t is =
    let w = world_seen (g.P.Plant.state c.args.plant.now) c.args.config.now (record { issued = 0; pending = []; sessions = []; flight = no_flight; events = [] }) [] in
    let why = (checked-why w (is_running c.args.v.0) (server_off (w.control.volume c.args.v.0).server) c.in-Some.why (c.in-Some.ensures.checked (record { issued = 0; pending = []; sessions = []; flight = no_flight; events = [] }) [])).1 in
    absurd (let e = ap (λ x. Some x) (sym why) ∙ is in cc)

pub returns-in-Some-running_refusal-clause-other : goal.returns-in-Some-running_refusal-clause-other
returns-in-Some-running_refusal-clause-other g c t is =
    let w = world_seen (g.P.Plant.state c.args.plant.now) c.args.config.now (record { issued = 0; pending = []; sessions = []; flight = no_flight; events = [] }) [] in
    let why = (checked-why w (is_running c.args.u.0) (server_off (w.control.volume c.args.u.0).server) c.in-Some-running_refusal.why (c.in-Some-running_refusal.ensures.checked (record { issued = 0; pending = []; sessions = []; flight = no_flight; events = [] }) [])).1 in
    absurd (let e = ap (λ x. Some x) (sym why) ∙ is in cc)
