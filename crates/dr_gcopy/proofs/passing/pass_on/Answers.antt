use Rattle.std.proofs.Common.{ℕ, ◌≡◌, ◌≢◌, ◌++◌, false, ap, sym, subst, ◌∙◌}
use Rattle.std.specs.Prelude.{OnOk, OnErr, is_err}
use Rattle.dr_logic.specs.Counts.{Counted}
use Rattle.dr_plant.specs.State.{PlantState}
use Rattle.dr_model.specs.Log.{Log}
use Rattle.dr_model.specs.Entries.{copies_from}
use Rattle.dr_model.specs.ReadStops.{GoesOff}
use Rattle.dr_volume.specs.Update.{IsAsBefore}
use Rattle.dr_volume.specs.View.{Rest, volume_seen, ids_of}
use Rattle.dr_moves.specs.Here.{world_seen, armed_in, refusal_of}
use Rattle.dr_moves.specs.Turns.{Leads, Fails}
use Rattle.dr_facts.proofs.Ends.{ends-off}
use Rattle.dr_moves.proofs.FitLemmas.{fit-same}
use Rattle.dr_moves.proofs.TurnLemmas.{refused-by}
use Rattle.dr_model.specs.Pairs.{is_last}
use Rattle.dr_volume.proofs.SaysLaws.{shows-says}
use Rattle.dr_gcopy.specs.Ran.{CanPass}
use Rattle.dr_gcopy.specs.Sending.{pass_entries}
use Rattle.dr_gcopy.proofs.RanLemmas.{counted-failed}
use Rattle.dr_gcopy.proofs.passing.pass_on.Goals as goal
use Rattle.dr_logic.proofs.Results.{err-always}

pub returns-in_err-read_told-clause-fails : goal.returns-in_err-read_told-clause-fails
returns-in_err-read_told-clause-fails g c =
    err-always c.from_residual.result (λ r ds. ends-off (armed_in (g.P.Plant.state c.args.plant.now)) (world_seen (g.P.Plant.state c.read_told.new.plant) c.args.config.now r c.read_told.new.journal.events) (refusal_of c.from_residual.result) (world_seen (g.P.Plant.state c.args.plant.now) c.args.config.now r c.args.journal.now.events) ((pass_entries (ids_of c.args.config.now.volumes) c.args.a.0 c.args.b.0 c.args.t) ++ ds)
    (subst (λ e. GoesOff (armed_in (g.P.Plant.state c.args.plant.now)) (world_seen (g.P.Plant.state c.read_told.new.plant) c.args.config.now r c.read_told.new.journal.events) e (world_seen (g.P.Plant.state c.args.plant.now) c.args.config.now r c.args.journal.now.events)) (sym (refused-by c.from_residual.result c.in_err-read_told.field-0.0 c.from_residual.ensures.0 c.from_residual.ensures.1)) (c.in_err-read_told.ensures.gone r)))

pub returns-in_err-read_told-clause-fit : goal.returns-in_err-read_told-clause-fit
returns-in_err-read_told-clause-fit g c =
    fit-same (g.P.Plant.state c.args.plant.now) (g.P.Plant.state c.read_told.new.plant) c.args.config.now c.in_err-read_told.ensures.same c.requires.fit

pub returns-clause-leads : goal.returns-clause-leads
returns-clause-leads g c =
    subst (λ (x : PlantState). OnOk c.hand_over.result ((r : Rest) → Leads (world_seen x c.args.config.now r c.args.journal.now.events) (pass_entries (ids_of c.args.config.now.volumes) c.args.a.0 c.args.b.0 c.args.t) (world_seen (g.P.Plant.state c.hand_over.new.plant) c.args.config.now r c.hand_over.new.journal.events))) c.in_ok-read_told.ensures.passed
    (subst (λ (l : Log). OnOk c.hand_over.result ((r : Rest) → Leads (world_seen (g.P.Plant.state c.read_told.new.plant) c.args.config.now r l.events) (pass_entries (ids_of c.args.config.now.volumes) c.args.a.0 c.args.b.0 c.args.t) (world_seen (g.P.Plant.state c.hand_over.new.plant) c.args.config.now r c.hand_over.new.journal.events))) c.in_ok-read_told.ensures.silent c.hand_over.ensures.ran.leads)

pub returns-clause-fails : goal.returns-clause-fails
returns-clause-fails g c =
    subst (λ (x : PlantState). OnErr c.hand_over.result ((r : Rest) → Fails (armed_in x) (world_seen x c.args.config.now r c.args.journal.now.events) (pass_entries (ids_of c.args.config.now.volumes) c.args.a.0 c.args.b.0 c.args.t) (world_seen (g.P.Plant.state c.hand_over.new.plant) c.args.config.now r c.hand_over.new.journal.events) (refusal_of c.hand_over.result))) c.in_ok-read_told.ensures.passed
    (subst (λ (l : Log). OnErr c.hand_over.result ((r : Rest) → Fails (armed_in (g.P.Plant.state c.read_told.new.plant)) (world_seen (g.P.Plant.state c.read_told.new.plant) c.args.config.now r l.events) (pass_entries (ids_of c.args.config.now.volumes) c.args.a.0 c.args.b.0 c.args.t) (world_seen (g.P.Plant.state c.hand_over.new.plant) c.args.config.now r c.hand_over.new.journal.events) (refusal_of c.hand_over.result))) c.in_ok-read_told.ensures.silent c.hand_over.ensures.ran.fails)

pub returns-clause-unarmed : goal.returns-clause-unarmed
returns-clause-unarmed g c q none =
    c.hand_over.ensures.ran.stays.unarmed q (ap (λ (x : PlantState). x.read_fuse q) c.in_ok-read_told.ensures.passed ∙ none)

pub returns-clause-others : goal.returns-clause-others
returns-clause-others g c =
    subst (λ (x : PlantState). (q : ℕ) → q ≢ c.args.a.0 → q ≢ c.args.b.0 → copies_from c.args.b.0 (volume_seen x c.args.config.now q).fields ≡ false → IsAsBefore x (g.P.Plant.state c.hand_over.new.plant) c.args.config.now q) c.in_ok-read_told.ensures.passed
    (λ q na nb other. c.hand_over.ensures.ran.stays.others q (na, (nb, other)))

pub returns-clause-faults : goal.returns-clause-faults
returns-clause-faults g c =
    subst (λ (x : PlantState). Counted (is_err c.hand_over.result) x.faults (g.P.Plant.state c.hand_over.new.plant).faults) c.in_ok-read_told.ensures.passed
    (counted-failed c.hand_over.result _ _ c.hand_over.ensures.stops c.hand_over.ensures.ran.stays.faults)

pub hand_over-requires-clause-at : goal.hand_over-requires-clause-at
hand_over-requires-clause-at g c = record {
  rest = c.in_ok-read_told.ensures.rest;
  fit = fit-same (g.P.Plant.state c.args.plant.now) (g.P.Plant.state c.read_told.new.plant) c.args.config.now c.in_ok-read_told.ensures.same c.requires.fit;
}

pub hand_over-requires-clause-can : goal.hand_over-requires-clause-can
hand_over-requires-clause-can g c =
    let s = g.P.Plant.state c.args.plant.now in let t = c.args.config.now in let a = c.args.a.0 in
    subst (λ (x : PlantState). CanPass x t a c.args.b.0 c.args.t c.peek_fields-fields.result c.read_told.new.into c.is_last-last.result) (sym c.in_ok-read_told.ensures.passed)
    (record {
      from = c.requires.from;
      to = c.requires.to;
      running = c.requires.running;
      reached = c.requires.reached;
      primary = c.requires.primary;
      secondary = c.requires.secondary;
      two_servers = c.requires.two_servers;
      within = c.requires.within;
      size = c.requires.size;
      says = shows-says s t a c.peek_fields-fields.result c.peek_fields-fields.ensures;
      bytes = c.in_ok-read_told.ensures.bytes;
      last = c.is_last-last.ensures ∙ ap (λ f. is_last f c.args.t) c.peek_fields-fields.ensures.fields;
    })
