use Rattle.std.proofs.Common.{[], None, refl, sym}
use Rattle.dr_facts.proofs.Ends.{ends-none}
use Rattle.dr_host.specs.Here.{here}
use Rattle.dr_model.specs.Plans.{acknowledge_on}
use Rattle.dr_admin.proofs.StartLemmas.{acked-none, acked-comes}
use Rattle.dr_admin.proofs.starting.acknowledge.Goals as goal

pub returns-in_default-clause-carried : goal.returns-in_default-clause-carried
returns-in_default-clause-carried c x r armed = acked-none x c.args.config.now r c.args.h.now c.args.journal.now.events c.args.s.0 armed (sym c.in_default.ensures.number)

pub returns-clause-carried : goal.returns-clause-carried
returns-clause-carried c x r armed =
    let t = c.args.config.now in
    let s = c.args.s.0 in
    let u = here x t r c.perform.new.beside c.perform.new.journal.events in
    c.perform.ensures.advances x t r (acknowledge_on s) (acked-comes x t r c.args.h.now c.args.journal.now.events s c.in-Some.w.0 (sym c.in-Some.ensures.number)) armed u None []
    (ends-none armed u None u (record { world = refl; refusal = refl }))
