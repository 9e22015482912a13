use Rattle.std.proofs.Common.{◌<◌, ◌≡◌, ◌∷◌, [], ◌∙◌, sym, ap, subst, Some, None}
use Rattle.std.specs.Prelude.{OnOk, is_err}
use Rattle.dr_logic.specs.Counts.{Counted}
use Rattle.dr_model.specs.Control.{Volume}
use Rattle.dr_model.specs.Entries.{copy_first, land_on, land_alone}
use Rattle.dr_model.specs.ReadStops.{Ends}
use Rattle.dr_model.specs.Refusals.{stopped}
use Rattle.dr_volume.specs.View.{ids_of, volume_seen}
use Rattle.dr_moves.specs.Here.{armed_in, refusal_of}
use Rattle.dr_flash.proofs.CopyLemmas.{no-own}
use Rattle.dr_moves.proofs.KeptLemmas.{wider-armed}
use Rattle.dr_facts.proofs.Ends.{ends-wider}
use Rattle.dr_facts.proofs.Issued.{unissued}
use Rattle.dr_moves.proofs.TurnLemmas.{refused-by, err-along}
use Rattle.dr_gcopy.proofs.RanLemmas.{counted-failed}
use Rattle.dr_gcopy.proofs.SendLemmas.{same-server}
use Rattle.dr_moves.specs.Checks.{is_stop}
use Rattle.dr_host.specs.Here.{here, rest_of}
use Rattle.dr_metro.specs.Landing.{landed_on}
use Rattle.dr_metro.proofs.ToldLemmas.{no_rest, told-through}
use Rattle.dr_metro.proofs.machine.land_kept.Goals as goal
use Rattle.dr_logic.proofs.Results.{err-always}

pub returns-in_err-copy_first-clause-carried : goal.returns-in_err-copy_first-clause-carried
returns-in_err-copy_first-clause-carried g c r =
    let s = g.P.Plant.state c.args.plant.now in
    let t = c.args.config.now in
    let h = c.args.host.now in
    let ev = c.args.journal.now.events in
    subst (λ e. Ends (armed_in s) (here (g.P.Plant.state c.copy_first.new.plant) t r h c.copy_first.new.journal.events) e (here s t r h ev) (land_alone (ids_of t.volumes) c.args.w.0 c.args.target.volume.0 c.args.target.track)) (sym (refused-by c.from_residual.result c.in_err-copy_first.field-0.0 c.from_residual.ensures.0 c.from_residual.ensures.1))
    (c.in_err-copy_first.ensures.fails (rest_of r h ev) (land_on c.args.w.0 c.args.target.volume.0 c.args.target.track ∷ []))

pub returns-in_err-copy_first-clause-stopped : goal.returns-in_err-copy_first-clause-stopped
returns-in_err-copy_first-clause-stopped g c =
    err-always c.from_residual.result (refused-by c.from_residual.result c.in_err-copy_first.field-0.0 c.from_residual.ensures.0 c.from_residual.ensures.1 ∙ c.in_err-copy_first.ensures.refused ∙ ap (λ n. Some (stopped n)) c.requires.server)

pub returns-in_err-copy_first-clause-told : goal.returns-in_err-copy_first-clause-told
returns-in_err-copy_first-clause-told g c =
    let s = g.P.Plant.state c.args.plant.now in
    let t = c.args.config.now in
    let h = c.args.host.now in
    let ev = c.args.journal.now.events in
    told-through (armed_in s) h (here s t no_rest h ev) (here (g.P.Plant.state c.copy_first.new.plant) t no_rest h c.copy_first.new.journal.events) (copy_first (ids_of t.volumes) c.args.target.volume.0 c.args.target.track) (Some c.in_err-copy_first.field-0.0) (c.in_err-copy_first.ensures.carried (rest_of no_rest h ev)) c.requires.told

pub land_by-requires-clause-can : goal.land_by-requires-clause-can
land_by-requires-clause-can g c =
    let s = g.P.Plant.state c.args.plant.now in
    let t = c.args.config.now in
    let h = c.args.host.now in
    let ev = c.args.journal.now.events in
    let v = c.args.target.volume.0 in
    let keep = copy_first (ids_of t.volumes) v c.args.target.track in
    let first = c.in_ok-copy_first.ensures in
    let ended = first.carried (rest_of no_rest h ev) in
    let same = first.others v (no-own s t v c.requires.fit) in
    record {
      at = record { rest = first.rest; fit = first.fit };
      told = told-through (armed_in s) h (here s t no_rest h ev) (here (g.P.Plant.state c.copy_first.new.plant) t no_rest h c.copy_first.new.journal.events) keep None ended c.requires.told;
      defined = c.requires.defined;
      server = ap (λ (x : Volume). x.server) same.volume ∙ c.requires.server;
      running = (λ i. first.on i c.args.target.server.0) ∙ c.requires.running;
      within = subst (λ (x : Volume). c.args.target.track < x.tracks) (sym same.volume) c.requires.within;
      fits = c.requires.fits;
      pending = record {
        waits = c.requires.pending.waits;
        issue = (λ i. unissued (armed_in s) (here (g.P.Plant.state c.copy_first.new.plant) t no_rest h c.copy_first.new.journal.events) None (here s t no_rest h ev) keep ended i c.args.w.0) ∙ c.requires.pending.issue;
      };
    }

pub returns-clause-carried : goal.returns-clause-carried
returns-clause-carried g c r =
    let s = g.P.Plant.state c.args.plant.now in
    let t = c.args.config.now in
    let h = c.args.host.now in
    let m = g.P.Plant.state c.copy_first.new.plant in
    let u = here (g.P.Plant.state c.land_by.new.plant) t r c.land_by.new.host c.land_by.new.journal.events in
    let more = land_on c.args.w.0 c.args.target.volume.0 c.args.target.track ∷ [] in
    c.in_ok-copy_first.ensures.leads (rest_of r h c.args.journal.now.events) (armed_in s) u (refusal_of c.land_by.result) more
    (ends-wider (armed_in m) (armed_in s) (wider-armed s m c.in_ok-copy_first.ensures.unarmed) u (refusal_of c.land_by.result) (here m t r h c.copy_first.new.journal.events) more (c.land_by.ensures.wrote.carried r))

pub returns-clause-stopped : goal.returns-clause-stopped
returns-clause-stopped g c =
    let s = g.P.Plant.state c.args.plant.now in
    err-along c.land_by.result c.land_by.ensures.refused c.land_by.ensures.refused (λ refused _. refused ∙ ap (λ n. Some (stopped n)) (same-server (g.P.Plant.state c.copy_first.new.plant) s c.args.config.now c.args.target.volume.0 ∙ c.requires.server))

pub returns-clause-left : goal.returns-clause-left
returns-clause-left g c =
    let v = c.args.target.volume.0 in
    let same = c.in_ok-copy_first.ensures.others v (no-own (g.P.Plant.state c.args.plant.now) c.args.config.now v c.requires.fit) in
    subst (λ (x : Volume). OnOk c.land_by.result ((volume_seen (g.P.Plant.state c.land_by.new.plant) c.args.config.now v).fields ≡ landed_on x c.args.target.track)) same.volume c.land_by.ensures.left

pub returns-clause-unarmed : goal.returns-clause-unarmed
returns-clause-unarmed g c q none = c.land_by.ensures.wrote.unarmed q (c.in_ok-copy_first.ensures.unarmed q none)

pub returns-clause-faults : goal.returns-clause-faults
returns-clause-faults g c =
    let u = g.P.Plant.state c.land_by.new.plant in
    let same : (g.P.Plant.state c.copy_first.new.plant).faults ≡ (g.P.Plant.state c.args.plant.now).faults = c.in_ok-copy_first.ensures.faults in
    subst (λ n. Counted (is_err c.land_by.result) n u.faults) same
    (counted-failed c.land_by.result _ _ (err-along c.land_by.result c.land_by.ensures.refused c.land_by.ensures.refused (λ refused _. ap is_stop refused)) c.land_by.ensures.wrote.faults)
