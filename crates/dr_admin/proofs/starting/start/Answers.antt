use Rattle.std.proofs.Common.{true, ap, ◌∙◌, subst, [], ◌∷◌, ◌++◌, Some, None}
use Rattle.dr_logic.proofs.Tables.{at_same}
use Rattle.dr_logic.specs.Counts.{Rose}
use Rattle.dr_plant.specs.State.{PlantState}
use Rattle.dr_host.specs.Here.{here}
use Rattle.dr_host.specs.Hearing.{with_writes}
use Rattle.dr_model.specs.Messages.{started}
use Rattle.dr_model.specs.Plans.{acknowledge_on}
use Rattle.dr_model.specs.ReadStops.{Ends}
use Rattle.dr_volume.specs.View.{with_flight}
use Rattle.dr_moves.specs.Here.{armed_in}
use Rattle.dr_moves.proofs.KeptLemmas.{wider-armed}
use Rattle.dr_facts.proofs.Ends.{ends-wider}
use Rattle.dr_admin.specs.Answering.{write_number}
use Rattle.dr_admin.specs.Starting.{start_from, acks}
use Rattle.dr_admin.proofs.StartLemmas.{rest-started, started-unarmed, started-faults, started-on, comes-done, comes-failed, told-both, issued-without}
use Rattle.dr_admin.proofs.starting.start.Goals as goal

pub go_on_all-requires-clause-rest : goal.go_on_all-requires-clause-rest
go_on_all-requires-clause-rest g c = rest-started (g.P.Plant.state c.args.plant.now) (g.P.Plant.state c.start.new.self) c.args.config.now c.args.s.0 c.start.ensures c.requires.rest

pub go_on_all-requires-clause-on : goal.go_on_all-requires-clause-on
go_on_all-requires-clause-on g c =
    let s = g.P.Plant.state c.args.plant.now in
    ap (λ f. f c.args.s.0) (started-on s (g.P.Plant.state c.start.new.self) c.args.s.0 c.start.ensures) ∙ at_same s.on c.args.s.0 true

pub returns-in-Ok-clause-plan : goal.returns-in-Ok-clause-plan
returns-in-Ok-clause-plan g c r =
    let s = g.P.Plant.state c.args.plant.now in let s1 = g.P.Plant.state c.start.new.self in let v = g.P.Plant.state c.go_on_all.new.plant in let t = c.args.config.now in let h = c.args.h.now in
    let mid = c.push.new.self.events in
    let q = with_flight (started c.args.s.0 r.flight) r in
    let u = here v t q c.acknowledge.new.h c.acknowledge.new.journal.events in
    comes-done s t r h c.args.journal.now.events c.args.s.0 c.requires.known c.requires.off mid c.push.ensures.events u (armed_in s) (write_number c.acknowledge.result)
    (subst (λ (x : PlantState). Ends (armed_in s) u None (here x t q h mid) (start_from t c.args.s.0 0 ++ acknowledge_on c.args.s.0 ∷ [])) c.start.ensures
    (c.in-Ok.ensures.leads (with_writes q h) (armed_in s) u None (acknowledge_on c.args.s.0 ∷ []) (c.acknowledge.ensures.carried v q (armed_in s))))
    c.acknowledge.ensures.number

pub returns-in-Ok-clause-told : goal.returns-in-Ok-clause-told
returns-in-Ok-clause-told g c =
    told-both c.args.s.0 (write_number c.acknowledge.result) c.args.journal.now.events c.push.new.self.events c.acknowledge.new.journal.events c.push.ensures.events
    (c.acknowledge.ensures.told ∙ ap (λ j. j.events ++ acks (write_number c.acknowledge.result)) c.in-Ok.ensures.told)

pub returns-in-Ok-clause-unarmed : goal.returns-in-Ok-clause-unarmed
returns-in-Ok-clause-unarmed g c q none = c.in-Ok.ensures.stayed.unarmed q (started-unarmed (g.P.Plant.state c.args.plant.now) (g.P.Plant.state c.start.new.self) c.args.s.0 q c.start.ensures none)

pub returns-in-Ok-clause-faults : goal.returns-in-Ok-clause-faults
returns-in-Ok-clause-faults g c = c.in-Ok.ensures.stayed.faults ∙ started-faults (g.P.Plant.state c.args.plant.now) (g.P.Plant.state c.start.new.self) c.args.s.0 c.start.ensures

pub returns-in-Err-clause-plan : goal.returns-in-Err-clause-plan
returns-in-Err-clause-plan g c r =
    let s = g.P.Plant.state c.args.plant.now in let s1 = g.P.Plant.state c.start.new.self in let v = g.P.Plant.state c.go_on_all.new.plant in let t = c.args.config.now in let h = c.args.h.now in
    let mid = c.push.new.self.events in
    let q = with_flight (started c.args.s.0 r.flight) r in
    let u = here v t q h c.go_on_all.new.journal.events in
    let why = c.in-Err.why in
    comes-failed s t r h c.args.journal.now.events c.args.s.0 c.requires.known c.requires.off mid c.push.ensures.events u (armed_in s) why
    (subst (λ (x : PlantState). Ends (armed_in s) u (Some why) (here x t q h mid) (start_from t c.args.s.0 0 ++ acknowledge_on c.args.s.0 ∷ [])) c.start.ensures
    (ends-wider (armed_in s1) (armed_in s) (wider-armed s s1 (λ q. started-unarmed s s1 c.args.s.0 q c.start.ensures)) u (Some why) _ _ (c.in-Err.ensures.fails (with_writes q h) (acknowledge_on c.args.s.0 ∷ []))))

pub returns-in-Err-clause-unarmed : goal.returns-in-Err-clause-unarmed
returns-in-Err-clause-unarmed g c q none = c.in-Err.ensures.stayed.unarmed q (started-unarmed (g.P.Plant.state c.args.plant.now) (g.P.Plant.state c.start.new.self) c.args.s.0 q c.start.ensures none)

pub returns-in-Err-clause-faults : goal.returns-in-Err-clause-faults
returns-in-Err-clause-faults g c =
    subst (λ n. Rose n (g.P.Plant.state c.go_on_all.new.plant).faults) (started-faults (g.P.Plant.state c.args.plant.now) (g.P.Plant.state c.start.new.self) c.args.s.0 c.start.ensures) c.in-Err.ensures.stayed.faults

pub returns-in-Ok-clause-on : goal.returns-in-Ok-clause-on
returns-in-Ok-clause-on g c = c.in-Ok.ensures.stayed.on ∙ started-on (g.P.Plant.state c.args.plant.now) (g.P.Plant.state c.start.new.self) c.args.s.0 c.start.ensures

pub returns-in-Ok-clause-issued : goal.returns-in-Ok-clause-issued
returns-in-Ok-clause-issued g c = issued-without (write_number c.acknowledge.result) c.args.h.now c.acknowledge.new.h c.acknowledge.ensures.host
