use Rattle.std.proofs.Common.{ap, sym, ◌∙◌}
use Rattle.dr_model.specs.declared.said.Said.TheVariants.{Refused}
use Rattle.dr_model.specs.Runs.{said}
use Rattle.dr_steps.specs.Here.{here}
use Rattle.dr_steps.proofs.SessionLemmas.{is-defined, not-defined, found-no-lss, found-no-session, found-foreign, some-session}
use Rattle.dr_steps.proofs.sessions.found.Goals as goal

pub returns-in_default-clause-refused : goal.returns-in_default-clause-refused
returns-in_default-clause-refused c x ev line why f =
    let t = c.args.config.now in let h = c.args.tables.now in
    found-no-lss x t h ev line c.args.dev.now c.args.l.0 c.args.s.0 why f c.in_default.ensures.sound (sym c.in_default.ensures.value)
    ∙ ap (λ r. said (here x t h ev) line (Refused r)) (sym c.unknown_lss.ensures)

pub returns-then-not-is_defined-clause-refused : goal.returns-then-not-is_defined-clause-refused
returns-then-not-is_defined-clause-refused c x ev line why f =
    let t = c.args.config.now in let h = c.args.tables.now in
    found-no-session x t h ev line c.args.dev.now c.args.l.0 c.args.s.0 why f c.in-Some.owner.0 c.in-Some.ensures.sound (sym c.in-Some.ensures.value) (not-defined _ _ c.if-not-is_defined.true c.is_defined.ensures)
    ∙ ap (λ r. said (here x t h ev) line (Refused r)) (sym c.unknown_session.ensures)

pub returns-then-not-is_named-clause-refused : goal.returns-then-not-is_named-clause-refused
returns-then-not-is_named-clause-refused c x ev line why f =
    let t = c.args.config.now in let h = c.args.tables.now in
    let at = some-session _ (is-defined _ _ c.if-not-is_defined.false c.is_defined.ensures) in
    found-foreign x t h ev line c.args.dev.now c.args.l.0 c.args.s.0 why f c.in-Some.owner.0 at.0 c.in-Some.ensures.sound (sym c.in-Some.ensures.value) at.1 (sym (c.is_named.ensures x h ev) ∙ c.if-not-is_named.true)
    ∙ ap (λ r. said (here x t h ev) line (Refused r)) (sym c.unknown_server.ensures)

pub returns-clause-found : goal.returns-clause-found
returns-clause-found c = record {
  sound = c.in-Some.ensures.sound;
  owned = sym c.in-Some.ensures.value;
  known = c.in-Some.ensures.defined.below;
  session = is-defined _ _ c.if-not-is_defined.false c.is_defined.ensures;
  named = λ x ev. sym (c.is_named.ensures x c.args.tables.now ev) ∙ c.if-not-is_named.false;
}
