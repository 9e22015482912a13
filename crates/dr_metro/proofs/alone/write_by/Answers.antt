use Rattle.std.proofs.Common.{rules, ◌+◌, ◌∷◌, [], length, arith, ap, sym, ◌∙◌}
use Rattle.dr_model.specs.Entries.{land_on, land_alone}
use Rattle.dr_volume.specs.View.{ids_of}
use Rattle.dr_moves.specs.Checks.{is_stop}
use Rattle.dr_moves.specs.Here.{armed_in, refusal_of}
use Rattle.dr_moves.proofs.TurnLemmas.{err-along}
use Rattle.dr_flash.proofs.KeepLemmas.{passes-all}
use Rattle.dr_host.specs.Here.{here, rest_of}
use Rattle.dr_metro.proofs.RouteLemmas.{pending-issue, some-found}
use Rattle.dr_metro.proofs.WroteLemmas.{wrote-carried, wrote-within}
use Rattle.dr_metro.proofs.alone.write_by.Goals as goal

pub land_by-requires-clause-can : goal.land_by-requires-clause-can
land_by-requires-clause-can g c =
    let s = g.P.Plant.state c.args.plant.now in
    let w = c.args.w.now in
    let due = c.requires.due in
    record {
      at = due.at;
      told = due.told;
      defined = due.defined;
      server = c.requires.server;
      running = ap s.on (sym c.requires.server) ∙ c.requires.running;
      within = due.within;
      fits = search (rules, c.front.ensures, due.fits);
      pending = record { waits = some-found _ w due.found; issue = pending-issue c.args.h.now c.args.journal.now.events w.w.0 w c.front.result.now due.told due.found c.front.ensures };
    }

pub returns-clause-wrote : goal.returns-clause-wrote
returns-clause-wrote g c =
    let s = g.P.Plant.state c.args.plant.now in
    let u = g.P.Plant.state c.land_by.new.plant in
    let t = c.args.config.now in
    let w = c.args.w.now in
    let h = c.args.h.now in
    let ev = c.args.journal.now.events in
    let new = c.land_by.new in
    wrote-carried s u t h new.host c.args.journal.now new.journal (λ k. land_on w.w.0 w.volume.0 w.track ∷ []) (λ k. land_alone (ids_of t.volumes) w.w.0 w.volume.0 w.track) (length t.volumes + 1) c.land_by.result
    (λ r. passes-all s t (rest_of r h ev) ev w.volume.0 w.track (ids_of t.volumes) c.requires.alone (armed_in s) (here u t r new.host new.journal.events) (refusal_of c.land_by.result) (land_on w.w.0 w.volume.0 w.track ∷ []) (c.land_by.ensures.wrote.carried r))
    (wrote-within s u t h new.host c.args.journal.now new.journal (λ k. land_on w.w.0 w.volume.0 w.track ∷ []) 1 (length t.volumes + 1) c.land_by.result (omega arith) c.land_by.ensures.wrote)

pub returns-clause-stops : goal.returns-clause-stops
returns-clause-stops g c = err-along c.land_by.result c.land_by.ensures.refused c.land_by.ensures.refused (λ refused _. ap is_stop refused)
