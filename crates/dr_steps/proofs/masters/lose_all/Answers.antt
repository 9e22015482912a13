use Rattle.std.proofs.Common.{◌≡◌, refl, ap, sym, ◌∙◌, arith, not, ◌&&◌, if◌then◌else◌, map, get_or, false}
use Rattle.dr_model.specs.Sessions.{lost_with, lost_since}
use Rattle.dr_session.specs.Kept.{SessionTable}
use Rattle.dr_volume.specs.View.{on_seen}
use Rattle.dr_steps.proofs.LossLemmas.{among, lost-first, lost-next, lost-all}
use Rattle.dr_steps.proofs.masters.lose_all.Goals as goal
use Rattle.dr_volume.proofs.WorldLaws.{on-seen}

pub loop-server-init : goal.loop-server-init
loop-server-init g c =
    let t = c.args.sessions.now in
    record { table = λ i. record t { sessions = lost-first c.args.before.now (on_seen (g.P.Plant.state c.args.plant.now)) t.sessions i } }

pub loop-server-preserved : goal.loop-server-preserved
loop-server-preserved g c =
    let u = g.P.Plant.state c.args.plant.now in
    let t = c.args.sessions.now in
    let n = c.loop-server.server in
    let was = get_or c.args.before.now n false in
    let is = c.is_on-is_on.result in
    record {
      table =
          c.lose_stopped.ensures
          ∙ ap (λ (x : SessionTable). record x { sessions = if was && not is then map (lost_with n) x.sessions else x.sessions }) c.loop-server.invariant.table
          ∙ (λ i. record t { sessions = lost-next c.args.before.now (on_seen u) n was is t.sessions refl (c.is_on-is_on.ensures ∙ sym (on-seen u n (omega arith))) i });
    }

pub returns : goal.returns
returns g c s was =
    let u = g.P.Plant.state c.args.plant.now in
    let t = c.args.sessions.now in
    let before = c.args.before.now in
    let at_end : c.loop-server.server ≡ 8 = omega arith in
    c.loop-server.invariant.table
    ∙ (λ i. record t { sessions = (ap (λ n. lost_since (among before n) (on_seen u) t.sessions) at_end ∙ lost-all s u before t.sessions was) i })
