use Rattle.std.proofs.Common.{◌+◌, length, ap, sym, ◌∙◌}
use Rattle.dr_model.specs.Entries.{land_alone}
use Rattle.dr_volume.specs.View.{ids_of}
use Rattle.dr_moves.specs.Checks.{is_stop}
use Rattle.dr_moves.proofs.TurnLemmas.{err-along}
use Rattle.dr_metro.proofs.RouteLemmas.{pending-issue, some-found}
use Rattle.dr_metro.proofs.WroteLemmas.{wrote-by}
use Rattle.dr_metro.proofs.alone.write_alone.Goals as goal

pub land_kept-requires-clause-server : goal.land_kept-requires-clause-server
land_kept-requires-clause-server g c = c.server_of.ensures.seen (g.P.Plant.state c.args.plant.now)

pub land_kept-requires-clause-running : goal.land_kept-requires-clause-running
land_kept-requires-clause-running g c =
    let s = g.P.Plant.state c.args.plant.now in
    ap s.on (sym (c.server_of.ensures.seen s)) ∙ c.requires.running

pub land_kept-requires-clause-pending : goal.land_kept-requires-clause-pending
land_kept-requires-clause-pending g c =
    let w = c.args.w.now in
    record { waits = some-found _ w c.requires.due.found; issue = pending-issue c.args.h.now c.args.journal.now.events w.w.0 w c.front.result.now c.requires.due.told c.requires.due.found c.front.ensures }

pub returns-clause-wrote : goal.returns-clause-wrote
returns-clause-wrote g c =
    let t = c.args.config.now in
    let w = c.args.w.now in
    let e = c.land_kept.ensures in
    wrote-by (g.P.Plant.state c.args.plant.now) (g.P.Plant.state c.land_kept.new.plant) t c.args.h.now c.land_kept.new.host c.args.journal.now c.land_kept.new.journal (land_alone (ids_of t.volumes) w.w.0 w.volume.0 w.track) (length t.volumes + 1) c.server_of.result.0
    c.land_kept.result e.stopped e.carried e.rest e.fit e.told e.unarmed e.faults e.issued e.room e.spare

pub returns-clause-stops : goal.returns-clause-stops
returns-clause-stops g c = err-along c.land_kept.result c.land_kept.ensures.stopped c.land_kept.ensures.stopped (λ stopped _. ap is_stop stopped)
