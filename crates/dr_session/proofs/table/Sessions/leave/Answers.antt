use Rattle.std.proofs.Common.{ap, sym, ◌∙◌}
use Rattle.std.proofs.lemmas.Option.{same_Some}
use Rattle.dr_model.specs.Sessions as model
use Rattle.dr_model.specs.Sessions.{Session, mirror_in}
use Rattle.dr_session.specs.Kept.{KeptSession}
use Rattle.dr_session.specs.Places.{sessions_in, is_keyed}
use Rattle.dr_session.proofs.PlaceLemmas.{found-in, changed-sessions, stays-keyed, gone-sessions, keyed-remove, left-gone, left-stays}
use Rattle.dr_session.proofs.table.Sessions.leave.Goals as goal

pub invariant_of-self : goal.invariant_of-self
invariant_of-self c = ap is_keyed c.remove_at.ensures ∙ keyed-remove c.in-Some.i c.self.inside.table.entries c.self.invariant

pub invariant_of-self-else-is_only : goal.invariant_of-self-else-is_only
invariant_of-self-else-is_only c = stays-keyed c.self.inside.table.entries c.in-Some.i c.index_mut.result.now c.leave.new.self c.self.invariant c.index_mut.ensures.value (ap (λ (k : KeptSession). k.session.number) c.leave.ensures)

pub returns-then-is_only-clause-left : goal.returns-then-is_only-clause-left
returns-then-is_only-clause-left c = ap sessions_in c.remove_at.ensures ∙ (gone-sessions c.self.inside.table.entries c.args.self.now c.args.s.0 c.in-Some.i c.self.view_is c.in-Some.ensures.place ∙ left-gone c.args.self.now.sessions c.args.s.0 c.args.l.0 c.index.result.now.session (found-in c.self.inside.table.entries c.args.self.now c.args.s.0 c.in-Some.i c.index.result.now c.self.view_is c.in-Some.ensures.place c.index.ensures) (sym c.is_only.ensures ∙ c.if-is_only.true))

pub returns-else-is_only-clause-left : goal.returns-else-is_only-clause-left
returns-else-is_only-clause-left c = changed-sessions c.self.inside.table.entries c.args.self.now c.args.s.0 c.in-Some.i c.index_mut.result.now c.leave.new.self (model.left_by c.args.l.0) c.self.view_is c.in-Some.ensures.place c.index_mut.ensures.value (ap (λ (k : KeptSession). k.session) c.leave.ensures) ∙ left-stays c.args.self.now.sessions c.args.s.0 c.args.l.0 c.index.result.now.session (found-in c.self.inside.table.entries c.args.self.now c.args.s.0 c.in-Some.i c.index.result.now c.self.view_is c.in-Some.ensures.place c.index.ensures) (sym c.is_only.ensures ∙ c.if-is_only.false)

pub returns-then-is_only-clause-gone : goal.returns-then-is_only-clause-gone
returns-then-is_only-clause-gone c x there =
    sym c.if-is_only.true ∙ c.is_only.ensures
    ∙ ap (model.is_only c.args.l.0) (same_Some _ _ (sym (found-in c.self.inside.table.entries c.args.self.now c.args.s.0 c.in-Some.i c.index.result.now c.self.view_is c.in-Some.ensures.place c.index.ensures) ∙ there))

pub returns-else-is_only-clause-gone : goal.returns-else-is_only-clause-gone
returns-else-is_only-clause-gone c x there =
    sym c.if-is_only.false ∙ c.is_only.ensures
    ∙ ap (model.is_only c.args.l.0) (same_Some _ _ (sym (found-in c.self.inside.table.entries c.args.self.now c.args.s.0 c.in-Some.i c.index.result.now c.self.view_is c.in-Some.ensures.place c.index.ensures) ∙ there))
