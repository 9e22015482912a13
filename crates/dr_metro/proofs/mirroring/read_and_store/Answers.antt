use Rattle.std.proofs.Common.{◌<◌, List, [], ◌+◌, length, arith, ap, sym, subst, ◌∙◌, refl, Some}
use Rattle.std.specs.Prelude.{Err}
use Rattle.dr_plant.specs.State.{PlantState}
use Rattle.dr_model.specs.Log.{Log}
use Rattle.dr_model.specs.ReadStops.{Ends}
use Rattle.dr_volume.specs.View.{Rest, ids_of, volume_seen, track_seen}
use Rattle.dr_moves.specs.Checks.{is_stop}
use Rattle.dr_moves.specs.Here.{armed_in}
use Rattle.dr_moves.proofs.ActedLemmas.{err-is}
use Rattle.dr_moves.proofs.FitLemmas.{fit-same}
use Rattle.dr_moves.proofs.TurnLemmas.{refused-by}
use Rattle.dr_facts.proofs.Ends.{ends-off}
use Rattle.dr_logic.proofs.Results.{err-always}
use Rattle.dr_host.specs.Here.{here, rest_of}
use Rattle.dr_metro.specs.Mirroring.{CanSettle, CanStore, mirror_entries}
use Rattle.dr_metro.specs.Writing.{Wrote}
use Rattle.dr_metro.specs.declared.moves.Route.{Route}
use Rattle.dr_metro.proofs.ToldLemmas.{no_rest, told-through}
use Rattle.dr_metro.proofs.RouteLemmas.{laid-bytes, some-found}
use Rattle.dr_metro.proofs.WroteLemmas.{wrote-by, wrote-within}
use Rattle.dr_metro.proofs.mirroring.read_and_store.Goals as goal

pub returns-in_err-read_told-clause-wrote : goal.returns-in_err-read_told-clause-wrote
returns-in_err-read_told-clause-wrote g c =
    let s = g.P.Plant.state c.args.plant.now in
    let m = g.P.Plant.state c.read_told.new.plant in
    let t = c.args.config.now in
    let h = c.args.h.now in
    let ev = c.args.journal.now.events in
    let mid = c.read_told.new.journal.events in
    let w = c.args.w.now in
    let n = length t.volumes in
    let es = mirror_entries (ids_of t.volumes) w.w.0 w.volume.0 w.track c.args.u.0 in
    let e = c.in_err-read_told.field-0.0 in
    let r = c.in_err-read_told.ensures in
    let due = c.requires.can.due in
    let ends : (rest : Rest) → Ends (armed_in s) (here m t rest h mid) (Some e) (here s t rest h ev) es = λ rest. ends-off (armed_in s) (here m t rest h mid) (Some e) (here s t rest h ev) es (r.gone (rest_of rest h ev)) in
    subst (λ res. Wrote s m t h h c.args.journal.now c.read_told.new.journal (λ k. es) (n + (n + 2)) res) (sym (err-is c.from_residual.result e c.from_residual.ensures.0 c.from_residual.ensures.1))
    (wrote-within s m t h h c.args.journal.now c.read_told.new.journal (λ k. es) 1 (n + (n + 2)) (Err e) (omega arith)
    (wrote-by s m t h h c.args.journal.now c.read_told.new.journal es 1 (volume_seen s t w.volume.0).server (Err e) r.refused ends r.rest (fit-same s m t r.same due.at.fit)
    (told-through (armed_in s) h (here s t no_rest h ev) (here m t no_rest h mid) es (Some e) (ends no_rest) due.told) r.unarmed r.faults refl r.room r.spare))

pub returns-in_err-read_told-clause-stops : goal.returns-in_err-read_told-clause-stops
returns-in_err-read_told-clause-stops g c = err-always c.from_residual.result (ap is_stop (refused-by c.from_residual.result c.in_err-read_told.field-0.0 c.from_residual.ensures.0 c.from_residual.ensures.1 ∙ c.in_err-read_told.ensures.refused))

pub store_and_settle-requires-clause-settle : goal.store_and_settle-requires-clause-settle
store_and_settle-requires-clause-settle g c =
    let s = g.P.Plant.state c.args.plant.now in
    let t = c.args.config.now in
    let h = c.args.h.now in
    let w = c.args.w.now in
    let m : Route = record { write = w.w; from = w.volume; to = c.args.u; track = w.track } in
    let can = c.requires.can in
    subst (λ (x : PlantState). CanSettle x t h c.read_told.new.journal.events m c.laid-bytes.result c.args.fields.now c.args.found) (sym c.in_ok-read_told.ensures.passed)
    (subst (λ (l : Log). CanSettle s t h l.events m c.laid-bytes.result c.args.fields.now c.args.found) (sym c.in_ok-read_told.ensures.silent) (record {
      can = record {
        at = can.due.at;
        told = can.due.told;
        waits = some-found _ w can.due.found;
        from = can.due.defined;
        running = can.running;
        primary = can.primary;
        within = can.due.within;
        bytes = laid-bytes h c.args.journal.now.events w c.front.result.now c.read_told.new.into (track_seen s t w.volume.0 w.track) c.laid-bytes.result can.due.told can.due.found c.front.ensures c.in_ok-read_told.ensures.bytes c.laid-bytes.ensures;
        says = can.says;
      };
      pair = can.pair;
      alone = can.alone;
    }))

pub store_and_settle-requires-clause-store : goal.store_and_settle-requires-clause-store
store_and_settle-requires-clause-store g c =
    let s = g.P.Plant.state c.args.plant.now in
    let t = c.args.config.now in
    let h = c.args.h.now in
    let w = c.args.w.now in
    let m : Route = record { write = w.w; from = w.volume; to = c.args.u; track = w.track } in
    let can = c.requires.can in
    subst (λ (x : PlantState). CanStore x t c.read_told.new.journal.events m c.laid-bytes.result c.args.to.now) (sym c.in_ok-read_told.ensures.passed)
    (subst (λ (l : Log). CanStore s t l.events m c.laid-bytes.result c.args.to.now) (sym c.in_ok-read_told.ensures.silent) (record {
      at = can.due.at;
      pair = can.pair;
      reached = can.reached;
      within = subst (λ k. w.track < k) (sym can.pair.size) can.due.within;
      bytes = laid-bytes h c.args.journal.now.events w c.front.result.now c.read_told.new.into (track_seen s t w.volume.0 w.track) c.laid-bytes.result can.due.told can.due.found c.front.ensures c.in_ok-read_told.ensures.bytes c.laid-bytes.ensures;
      says = can.says_to;
    }))

pub returns-clause-wrote : goal.returns-clause-wrote
returns-clause-wrote g c =
    let t = c.args.config.now in
    let w = c.args.w.now in
    let u = g.P.Plant.state c.store_and_settle.new.plant in
    let n = length t.volumes in
    let es = mirror_entries (ids_of t.volumes) w.w.0 w.volume.0 w.track c.args.u.0 in
    subst (λ (x : PlantState). Wrote x u t c.args.h.now c.store_and_settle.new.h c.args.journal.now c.store_and_settle.new.journal (λ k. es) (n + (n + 2)) c.store_and_settle.result) c.in_ok-read_told.ensures.passed
    (subst (λ (l : Log). Wrote (g.P.Plant.state c.read_told.new.plant) u t c.args.h.now c.store_and_settle.new.h l c.store_and_settle.new.journal (λ k. es) (n + (n + 2)) c.store_and_settle.result) c.in_ok-read_told.ensures.silent c.store_and_settle.ensures.wrote)
