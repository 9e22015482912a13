use Rattle.std.proofs.Common.{ap, sym, ◌∙◌}
use Rattle.std.specs.Prelude.{is_some}
use Rattle.dr_config.specs.declared.entries.VolumeEntry.{VolumeEntry}
use Rattle.dr_model.specs.declared.said.Said.TheVariants.{Refused}
use Rattle.dr_model.specs.Runs.{said}
use Rattle.dr_steps.specs.Here.{here}
use Rattle.dr_steps.proofs.LocatedLemmas.{mapped_some}
use Rattle.dr_steps.proofs.MemberLemmas.{member-no_lss, member-no_volume, member-no_session, none-there}
use Rattle.dr_steps.proofs.members.found_member.Goals as goal
use Rattle.dr_config.proofs.Lookups.{none-mapped}

pub returns-in_default-clause-refused : goal.returns-in_default-clause-refused
returns-in_default-clause-refused c x events line plan =
    member-no_lss x c.args.config.now c.args.tables.now events line c.args.l.0 c.args.a.0 c.args.s.0 plan c.in_default.ensures.sound (sym c.in_default.ensures.value)
    ∙ ap (λ r. said (here x c.args.config.now c.args.tables.now events) line (Refused r)) (sym c.unknown_lss.ensures)

pub returns-in_default-server_of-clause-refused : goal.returns-in_default-server_of-clause-refused
returns-in_default-server_of-clause-refused c x events line plan =
    member-no_volume x c.args.config.now c.args.tables.now events line c.args.l.0 c.args.a.0 c.args.s.0 plan c.in-Some.owner.0 c.in-Some.ensures.sound (sym c.in-Some.ensures.value)
    (none-mapped (λ (e : VolumeEntry). e.server) _ c.in_default-server_of.ensures.value)

pub returns-then-not-is_defined-clause-refused : goal.returns-then-not-is_defined-clause-refused
returns-then-not-is_defined-clause-refused c x events line plan =
    let e = mapped_some (λ (e : VolumeEntry). e.server) _ _ c.in-Some-server_of.ensures.value in
    member-no_session x c.args.config.now c.args.tables.now events line c.args.l.0 c.args.a.0 c.args.s.0 plan c.in-Some.owner.0 c.in-Some.ensures.sound (sym c.in-Some.ensures.value) (ap is_some e.1) (none-there _ _ c.if-not-is_defined.true c.is_defined.ensures.1)
    ∙ ap (λ r. said (here x c.args.config.now c.args.tables.now events) line (Refused r)) (sym c.unknown_session.ensures)
