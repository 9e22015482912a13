use Rattle.std.proofs.Common.{◌≡◌, Option, IsSomeAnd, [], ap, subst}
use Rattle.dr_ids.specs.declared.refusal.PhaseName.TheVariants as phase
use Rattle.dr_model.specs.Phases as phases
use Rattle.dr_model.specs.Sessions as model
use Rattle.dr_model.specs.Sessions.{Session, mirror_in}
use Rattle.dr_session.specs.Kept.{KeptSession}
use Rattle.dr_session.proofs.PlaceLemmas.{found-in, changed-table, stays-keyed}
use Rattle.dr_session.proofs.table.Sessions.settle_start.Goals as goal

pub settle_start-requires : goal.settle_start-requires
settle_start-requires c = let Fits : Option Session → Type 0 = λ x. IsSomeAnd (mirror_in x) (λ r. (r.master.phase ≡ phase.Lost) × (r.master.owed ≡ [])) in subst Fits (found-in c.self.inside.table.entries c.args.self.now c.args.s.0 c.in-Some.i c.index_mut.result.now c.self.view_is c.in-Some.ensures.place c.index_mut.ensures.value) c.requires

pub invariant_of-self : goal.invariant_of-self
invariant_of-self c = stays-keyed c.self.inside.table.entries c.in-Some.i c.index_mut.result.now c.settle_start.new.self c.self.invariant c.index_mut.ensures.value (ap (λ (k : KeptSession). k.session.number) c.settle_start.ensures)

pub returns-in-Some : goal.returns-in-Some
returns-in-Some c = changed-table c.self.inside.table.entries c.args.self.now c.args.s.0 c.in-Some.i c.index_mut.result.now c.settle_start.new.self (model.with_master phases.settled) c.self.view_is c.in-Some.ensures.place c.index_mut.ensures.value c.settle_start.ensures
