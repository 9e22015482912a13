use Rattle.std.proofs.Common.{ap, sym, ◌∙◌, Some, option_map}
use Rattle.dr_ids.specs.declared.names.ServerId.{ServerId}
use Rattle.dr_model.specs.Refusals.{server_off}
use Rattle.dr_moves.specs.Here.{world_seen}
use Rattle.dr_facts.proofs.Ends.{ends-passed}
use Rattle.dr_moves.proofs.EntryLemmas.{refuses}
use Rattle.dr_freeze.specs.Checks.{owner_in, is_up}
use Rattle.dr_freeze.proofs.OwnerLemmas.{owner-is, up-here, owner-low}
use Rattle.dr_freeze.proofs.checks.thaw_refusal.Goals as goal

pub returns-then-not-is_on-clause-checked : goal.returns-then-not-is_on-clause-checked
returns-then-not-is_on-clause-checked g c r events armed ds =
    let s = g.P.Plant.state c.args.plant.now in
    let t = c.args.config.now in
    let is = sym (ap (option_map (λ (x : ServerId). x.0)) c.unwrap-server.ensures) ∙ c.lss_owner.ensures.value in
    let owner = owner-is t c.args.l.0 c.unwrap-server.result.0 is in
    refuses armed (world_seen s t r events) (is_up (owner_in t c.args.l.0)) (server_off (owner_in t c.args.l.0)) (Some (server_off c.unwrap-server.result.0)) ds
    (up-here s t r events c.args.l.0 c.unwrap-server.result.0 (owner-low t c.lss_owner.result c.unwrap-server.result c.lss_owner.ensures.defined c.unwrap-server.ensures) is ∙ sym c.is_on.ensures ∙ c.if-not-is_on.true) (ap (λ n. Some (server_off n)) (sym owner))

pub returns-clause-checked : goal.returns-clause-checked
returns-clause-checked g c r events armed u r' ds more =
    let s = g.P.Plant.state c.args.plant.now in
    let t = c.args.config.now in
    let is = sym (ap (option_map (λ (x : ServerId). x.0)) c.unwrap-server.ensures) ∙ c.lss_owner.ensures.value in
    ends-passed armed u r' (world_seen s t r events) (is_up (owner_in t c.args.l.0)) (server_off (owner_in t c.args.l.0)) ds
    (up-here s t r events c.args.l.0 c.unwrap-server.result.0 (owner-low t c.lss_owner.result c.unwrap-server.result c.lss_owner.ensures.defined c.unwrap-server.ensures) is ∙ sym c.is_on.ensures ∙ c.if-not-is_on.false) more
