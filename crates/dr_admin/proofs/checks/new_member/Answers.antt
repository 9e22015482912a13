use Rattle.std.proofs.Common.{Some, None}
use Rattle.dr_model.specs.Sessions.{session_in}
use Rattle.dr_moves.specs.Here.{world_seen}
use Rattle.dr_admin.proofs.PairLemmas.{refused-pair, refused-place}
use Rattle.dr_admin.proofs.checks.new_member.Goals as goal

pub returns-in-Some-place_refusal-clause-refused : goal.returns-in-Some-place_refusal-clause-refused
returns-in-Some-place_refusal-clause-refused g c r events same =
    refused-place (world_seen (g.P.Plant.state c.args.plant.now) c.args.config.now r events).control (session_in c.args.ss.now.sessions c.args.s.0) c.args.l.0 c.args.a.0 c.args.ss.now.sessions same
    (Some c.in-Some-place_refusal.why) c.in-Ok.m c.in_default.ensures.refusal (c.in-Ok.ensures.refused r events) (c.in-Ok.ensures.member r events) c.in-Some-place_refusal.ensures.refusal

pub returns-in-None-clause-refused : goal.returns-in-None-clause-refused
returns-in-None-clause-refused g c r events same =
    refused-place (world_seen (g.P.Plant.state c.args.plant.now) c.args.config.now r events).control (session_in c.args.ss.now.sessions c.args.s.0) c.args.l.0 c.args.a.0 c.args.ss.now.sessions same
    None c.in-Ok.m c.in_default.ensures.refusal (c.in-Ok.ensures.refused r events) (c.in-Ok.ensures.member r events) c.in-None.ensures.refusal

pub returns-in-Err-clause-refused : goal.returns-in-Err-clause-refused
returns-in-Err-clause-refused g c r events same =
    refused-pair (world_seen (g.P.Plant.state c.args.plant.now) c.args.config.now r events).control (session_in c.args.ss.now.sessions c.args.s.0) c.args.l.0 c.args.a.0 c.args.ss.now.sessions same
    c.in-Err.why c.in_default.ensures.refusal (c.in-Err.ensures.refused r events)
