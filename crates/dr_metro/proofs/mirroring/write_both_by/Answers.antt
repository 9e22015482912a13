use Rattle.std.proofs.Common.{◌≡◌, ◌≢◌, ◌∷◌, [], ◌+◌, length, arith, ap, sym, subst, ◌∙◌}
use Rattle.std.specs.Prelude.{Ok}
use Rattle.dr_model.specs.Carry.{now}
use Rattle.dr_model.specs.Control.{Volume}
use Rattle.dr_model.specs.Layout.{Fields, is_part}
use Rattle.dr_model.specs.Lawful.{IsLawful}
use Rattle.dr_model.specs.Moves.{Unsync}
use Rattle.dr_model.specs.Pairs.{unsynced}
use Rattle.dr_model.specs.WriteEntries.{land_mirrored}
use Rattle.dr_volume.specs.Plain.{plain}
use Rattle.dr_volume.specs.View.{ids_of, volume_seen}
use Rattle.dr_volume.proofs.SaysLaws.{says-along}
use Rattle.dr_moves.specs.Checks.{is_stop}
use Rattle.dr_moves.proofs.PlaceLaws.{seen-lawful}
use Rattle.dr_moves.proofs.TurnLemmas.{refused-by}
use Rattle.dr_gcopy.proofs.PairChecks.{servers-apart}
use Rattle.dr_logic.proofs.Results.{err-always}
use Rattle.dr_metro.specs.Mirroring.{mirror_entries}
use Rattle.dr_metro.proofs.RouteLemmas.{mirrored-is}
use Rattle.dr_metro.proofs.WroteLemmas.{ran-told, wrote-then, wrote-failed, wrote-alike, due-still, on-still, pair-still, none-moved}
use Rattle.dr_metro.proofs.mirroring.write_both_by.Goals as goal

pub unsync_by-requires-clause-may : goal.unsync_by-requires-clause-may
unsync_by-requires-clause-may g c = let can = c.requires.can in record { defined = can.due.defined; running = can.running; asks = (can.due.within, can.primary) }

pub returns-in_err-unsync_by-clause-wrote : goal.returns-in_err-unsync_by-clause-wrote
returns-in_err-unsync_by-clause-wrote g c =
    let s = g.P.Plant.state c.args.plant.now in
    let m = g.P.Plant.state c.unsync_by.new.plant in
    let t = c.args.config.now in
    let h = c.args.h.now in
    let w = c.args.w.now in
    let v = w.volume.0 in
    let n = length t.volumes in
    let ids = ids_of t.volumes in
    wrote-alike s m t h h c.args.journal.now c.unsync_by.new.journal (λ k. now (Unsync v w.track) ∷ mirror_entries ids w.w.0 v w.track c.args.u.0) (λ k. land_mirrored ids w.w.0 v w.track c.args.u.0) (n + (n + 2)) c.from_residual.result (λ r. sym (mirrored-is ids w.w.0 v w.track c.args.u.0))
    (wrote-failed s m t h c.args.journal.now c.unsync_by.new.journal (now (Unsync v w.track) ∷ []) (λ q. q ≢ v) 1 0 (mirror_entries ids w.w.0 v w.track c.args.u.0) (n + (n + 2)) c.from_residual.result c.in_err-unsync_by.field-0.0 c.from_residual.ensures.0 c.from_residual.ensures.1
    (omega arith) c.requires.can.due.told c.in_err-unsync_by.ensures.ran)

pub returns-in_err-unsync_by-clause-stops : goal.returns-in_err-unsync_by-clause-stops
returns-in_err-unsync_by-clause-stops g c = err-always c.from_residual.result (ap is_stop (refused-by c.from_residual.result c.in_err-unsync_by.field-0.0 c.from_residual.ensures.0 c.from_residual.ensures.1) ∙ c.in_err-unsync_by.ensures.stops)

pub read_and_store-requires-clause-can : goal.read_and_store-requires-clause-can
read_and_store-requires-clause-can g c =
    let s = g.P.Plant.state c.args.plant.now in
    let m = g.P.Plant.state c.unsync_by.new.plant in
    let t = c.args.config.now in
    let h = c.args.h.now in
    let w = c.args.w.now in
    let v = w.volume.0 in
    let u = c.args.u.0 in
    let can = c.requires.can in
    let ran = c.in_ok-unsync_by.ensures.ran in
    let moved = c.in_ok-unsync_by.ensures.moved.volume in
    let told = ran-told s m t h c.args.journal.now c.unsync_by.new.journal (now (Unsync v w.track) ∷ []) (λ q. q ≢ v) 1 0 (Ok tt) ran can.due.told in
    record {
      due = due-still s m t h c.args.journal.now.events c.unsync_by.new.journal.events w ran.stays.at told can.due;
      running = on-still s m t v ran.stays.on can.running;
      primary = ap (λ (y : Volume). is_part y.fields.primary) moved ∙ can.primary;
      pair = pair-still s m t v u can.pair;
      reached = on-still s m t u ran.stays.on can.reached;
      says = c.in_ok-unsync_by.ensures.says;
      says_to = says-along s m t u c.args.to.now (ran.stays.others u (λ e. servers-apart s t v u can.pair.two_servers (sym e))) can.says_to;
      alone = λ none. none-moved s m t v ran.stays.at.fit (λ q ne. ran.stays.others q ne) (can.alone none);
    }

pub read_and_store-requires-clause-room : goal.read_and_store-requires-clause-room
read_and_store-requires-clause-room g c = let a = c.in_ok-unsync_by.ensures.ran.stays.left in let b = c.requires.room in omega (arith, a, b)

pub returns-clause-wrote : goal.returns-clause-wrote
returns-clause-wrote g c =
    let s = g.P.Plant.state c.args.plant.now in
    let u = g.P.Plant.state c.read_and_store.new.plant in
    let t = c.args.config.now in
    let h = c.args.h.now in
    let w = c.args.w.now in
    let v = w.volume.0 in
    let n = length t.volumes in
    let ids = ids_of t.volumes in
    wrote-alike s u t h c.read_and_store.new.h c.args.journal.now c.read_and_store.new.journal (λ k. now (Unsync v w.track) ∷ mirror_entries ids w.w.0 v w.track c.args.u.0) (λ k. land_mirrored ids w.w.0 v w.track c.args.u.0) (n + (n + 2)) c.read_and_store.result (λ r. sym (mirrored-is ids w.w.0 v w.track c.args.u.0))
    (wrote-then s (g.P.Plant.state c.unsync_by.new.plant) t h c.args.journal.now c.unsync_by.new.journal (now (Unsync v w.track) ∷ []) (λ q. q ≢ v) 1 0 u c.read_and_store.new.h c.read_and_store.new.journal (mirror_entries ids w.w.0 v w.track c.args.u.0)
    (n + (n + 2)) (n + (n + 2)) c.read_and_store.result (omega arith) c.in_ok-unsync_by.ensures.ran c.read_and_store.ensures.wrote)
