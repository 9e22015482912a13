use Rattle.std.proofs.Common.{◌++◌, ◌∙◌, sym, subst}
use Rattle.dr_plan.specs.Pieces.{IsTextOf}
use Rattle.dr_sweep.specs.Comes.{Settles, Stops}
use Rattle.dr_sweep.specs.Seen.{run_seen}
use Rattle.dr_sweep.proofs.PointLemmas.{settle-fails, comes-so, stops-there, own-is}
use Rattle.dr_sweep.proofs.point.run_pieces.Goals as goal

pub returns-then-not-is_own-clause-tells : goal.returns-then-not-is_own-clause-tells
returns-then-not-is_own-clause-tells c =
    let x = c.args.pieces.now in
    let both = c.in_ok-reached.ensures.comes c.requires.0 c.requires.1 c.requires.2 in (
      stops-there c.args.plan.now c.servers_at-servers.ensures.sweep c.args.point c.requires.0 c.requires.1 (run_seen c.new-run.result).plant c.new-run.ensures.fresh x.front x.strike x.stops c.requires.2 (run_seen c.approach.new.run) _ _ both,
      sym c.is_own.ensures ∙ c.if-not-is_own.true,
    )

pub returns-in-Ok-clause-tells : goal.returns-in-Ok-clause-tells
returns-in-Ok-clause-tells c =
    let plan = c.args.plan.now in
    let x = c.args.pieces.now in
    let p = c.requires.0 in
    let are = c.requires.1 in
    let texts = c.requires.2 in
    let began = (run_seen c.new-run.result).plant in
    let r2 = run_seen c.approach.new.run in
    let s = c.in_ok-reached.ensures.comes p are texts in
    let own = own-is c.in_ok-reached.reached.stop (sym c.is_own.ensures ∙ c.if-not-is_own.false) in
    let is = subst (λ t. IsTextOf p.stops t) (sym c.stops.ensures) texts.stops_are in (
      subst (Stops plan c.args.point) own (stops-there plan c.servers_at-servers.ensures.sweep c.args.point p are began c.new-run.ensures.fresh x.front x.strike x.stops texts r2 _ _ s),
      comes-so plan c.servers_at-servers.ensures.sweep c.args.point p are began c.new-run.ensures.fresh x.front x.strike x.stops texts r2 (run_seen c.settle.new.run) c.in_ok-reached.reached.stop c.in_ok-reached.reached.phases.items s
          c.servers_at-servers.result.now c.servers_at-servers.ensures.servers c.told_of.result
          (subst (λ ms. Settles began (p.front ++ p.strike) p.stops plan.recovery c.servers_at-servers.result.now (run_seen c.settle.new.run) (s.first.further ++ s.second.further) c.told_of.result.begin ms) (sym c.told_of.ensures.members)
          (subst (λ n. Settles began (p.front ++ p.strike) p.stops plan.recovery c.servers_at-servers.result.now (run_seen c.settle.new.run) (s.first.further ++ s.second.further) n c.in-Ok.settled.members.items) (sym c.told_of.ensures.begin)
          (c.in-Ok.ensures.goes began (p.front ++ p.strike) p.stops (s.first.further ++ s.second.further) s.second.ran is))) own c.told_of.ensures.events c.told_of.ensures.before c.told_of.ensures.phases,
    )

pub returns-in-Err-clause-fails : goal.returns-in-Err-clause-fails
returns-in-Err-clause-fails c =
    let plan = c.args.plan.now in
    let x = c.args.pieces.now in
    let p = c.requires.0 in
    let are = c.requires.1 in
    let texts = c.requires.2 in
    let began = (run_seen c.new-run.result).plant in
    let r2 = run_seen c.approach.new.run in
    let s = c.in_ok-reached.ensures.comes p are texts in
    let is = subst (λ t. IsTextOf p.stops t) (sym c.stops.ensures) texts.stops_are in
    settle-fails plan c.servers_at-servers.ensures.sweep c.args.point p are began c.new-run.ensures.fresh x.front x.strike x.stops texts r2 (run_seen c.settle.new.run) c.in_ok-reached.reached.stop c.in_ok-reached.reached.phases.items s
    c.servers_at-servers.result.now c.servers_at-servers.ensures.servers c.in-Err.fault
    (c.in-Err.ensures.fails began (p.front ++ p.strike) p.stops (s.first.further ++ s.second.further) s.second.ran is)
