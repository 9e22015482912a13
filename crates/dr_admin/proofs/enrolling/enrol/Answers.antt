use Rattle.std.proofs.Common.{List, ap, ◌∙◌, subst, Some, None}
use Rattle.std.specs.Prelude.{option_map}
use Rattle.dr_model.specs.ReadStops.{Ends}
use Rattle.dr_model.specs.Carry.{Entry}
use Rattle.dr_model.specs.Sessions.{Session, session_in, changed, raised, with_member}
use Rattle.dr_model.specs.SessionEntries.{first_number}
use Rattle.dr_moves.specs.Here.{world_seen, armed_in}
use Rattle.dr_admin.specs.Adding.{member_planned}
use Rattle.dr_admin.proofs.PlanLemmas.{adds-so}
use Rattle.dr_admin.proofs.PairLemmas.{unless-calm, unless-stops, entries-are, sessions-are}
use Rattle.dr_admin.proofs.enrolling.enrol.Goals as goal

pub returns-in-Err-clause-refused : goal.returns-in-Err-clause-refused
returns-in-Err-clause-refused g c r same = unless-calm c.in-Err.why c.in-Err.ensures.calm ∙ c.in-Err.ensures.refused r c.args.journal.now.events same

pub returns-then-is_err-clause-refused : goal.returns-then-is_err-clause-refused
returns-then-is_err-clause-refused g c r same = c.in-Ok.ensures.refused r c.args.journal.now.events same

pub returns-in-Ok-raise_both-clause-refused : goal.returns-in-Ok-raise_both-clause-refused
returns-in-Ok-raise_both-clause-refused g c r same = c.in-Ok.ensures.refused r c.args.journal.now.events same

pub returns-in-Ok-raise_both-clause-carried : goal.returns-in-Ok-raise_both-clause-carried
returns-in-Ok-raise_both-clause-carried g c r =
    let s = g.P.Plant.state c.args.plant.now in
    let t = c.args.config.now in
    let k = (world_seen s t r c.args.journal.now.events).control in
    subst (λ (es : List Entry). Ends (armed_in s) (world_seen (g.P.Plant.state c.raise_both.new.plant) t r c.raise_both.new.journal.events) None (world_seen s t r c.args.journal.now.events) es)
    (entries-are k (session_in c.args.ss.now.sessions c.args.s.0) (member_planned k c.args.a.0) c.in-Ok.m c.first_number-n.result (c.in-Ok.ensures.member r c.args.journal.now.events)
    (c.first_number-n.ensures r c.args.journal.now.events ∙ ap (λ (ss : List Session). option_map (λ (x : Session). first_number k x.last c.in-Ok.m) (session_in ss c.args.s.0)) c.reserve.ensures.same))
    (c.in-Ok-raise_both.ensures.carried r)

pub returns-in-Ok-raise_both-clause-added : goal.returns-in-Ok-raise_both-clause-added
returns-in-Ok-raise_both-clause-added g c r =
    let s = g.P.Plant.state c.args.plant.now in
    let t = c.args.config.now in
    let k = (world_seen s t r c.args.journal.now.events).control in
    c.take_in.ensures
    ∙ ap (λ (ss : List Session). changed c.args.s.0 (with_member c.in-Ok.m) (changed c.args.s.0 (raised c.first_number-n.result) ss)) c.reserve.ensures.same
    ∙ sessions-are k (session_in c.args.ss.now.sessions c.args.s.0) (member_planned k c.args.a.0) c.in-Ok.m c.first_number-n.result (c.in-Ok.ensures.member r c.args.journal.now.events)
    (c.first_number-n.ensures r c.args.journal.now.events ∙ ap (λ (ss : List Session). option_map (λ (x : Session). first_number k x.last c.in-Ok.m) (session_in ss c.args.s.0)) c.reserve.ensures.same)
    c.args.s.0 c.args.ss.now.sessions

pub returns-in-Err-raise_both-clause-refused : goal.returns-in-Err-raise_both-clause-refused
returns-in-Err-raise_both-clause-refused g c r same = unless-stops c.in-Err-raise_both.why c.in-Err-raise_both.ensures.stops ∙ c.in-Ok.ensures.refused r c.args.journal.now.events same

pub returns-in-Err-raise_both-clause-stopped : goal.returns-in-Err-raise_both-clause-stopped
returns-in-Err-raise_both-clause-stopped g c stop r =
    let s = g.P.Plant.state c.args.plant.now in
    let t = c.args.config.now in
    let k = (world_seen s t r c.args.journal.now.events).control in
    subst (λ (es : List Entry). Ends (armed_in s) (world_seen (g.P.Plant.state c.raise_both.new.plant) t r c.raise_both.new.journal.events) (Some c.in-Err-raise_both.why) (world_seen s t r c.args.journal.now.events) es)
    (entries-are k (session_in c.args.ss.now.sessions c.args.s.0) (member_planned k c.args.a.0) c.in-Ok.m c.first_number-n.result (c.in-Ok.ensures.member r c.args.journal.now.events)
    (c.first_number-n.ensures r c.args.journal.now.events ∙ ap (λ (ss : List Session). option_map (λ (x : Session). first_number k x.last c.in-Ok.m) (session_in ss c.args.s.0)) c.reserve.ensures.same))
    (c.in-Err-raise_both.ensures.carried r)

pub returns-in-Err-clause-plan : goal.returns-in-Err-clause-plan
returns-in-Err-clause-plan g c r = adds-so (world_seen (g.P.Plant.state c.args.plant.now) c.args.config.now r c.args.journal.now.events).control c.args.s.0 (session_in c.args.ss.now.sessions c.args.s.0) c.args.l.0 c.args.a.0

pub returns-then-is_err-clause-plan : goal.returns-then-is_err-clause-plan
returns-then-is_err-clause-plan g c r = adds-so (world_seen (g.P.Plant.state c.args.plant.now) c.args.config.now r c.args.journal.now.events).control c.args.s.0 (session_in c.args.ss.now.sessions c.args.s.0) c.args.l.0 c.args.a.0

pub returns-in-Ok-raise_both-clause-plan : goal.returns-in-Ok-raise_both-clause-plan
returns-in-Ok-raise_both-clause-plan g c r = adds-so (world_seen (g.P.Plant.state c.args.plant.now) c.args.config.now r c.args.journal.now.events).control c.args.s.0 (session_in c.args.ss.now.sessions c.args.s.0) c.args.l.0 c.args.a.0

pub returns-in-Err-raise_both-clause-plan : goal.returns-in-Err-raise_both-clause-plan
returns-in-Err-raise_both-clause-plan g c r = adds-so (world_seen (g.P.Plant.state c.args.plant.now) c.args.config.now r c.args.journal.now.events).control c.args.s.0 (session_in c.args.ss.now.sessions c.args.s.0) c.args.l.0 c.args.a.0
