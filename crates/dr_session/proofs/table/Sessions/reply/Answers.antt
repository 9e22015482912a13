use Rattle.std.proofs.Common.{Option, ap, sym, ◌∙◌}
use Rattle.dr_model.specs.Phases as phases
use Rattle.dr_model.specs.Sessions as model
use Rattle.dr_model.specs.Sessions.{Session, mirror_in}
use Rattle.dr_master.specs.Seen.{reply_of}
use Rattle.dr_session.specs.Seen.{expects}
use Rattle.dr_session.specs.Kept.{KeptSession}
use Rattle.dr_session.proofs.PlaceLemmas.{found-in, changed-table, stays-keyed}
use Rattle.dr_session.proofs.table.Sessions.reply.Goals as goal

pub reply-requires-clause-expected : goal.reply-requires-clause-expected
reply-requires-clause-expected c = sym (ap (λ (x : Option Session). expects (mirror_in x) c.args.server.0 c.args.r) (found-in c.self.inside.table.entries c.args.self.now c.args.s.0 c.in-Some.i c.index_mut.result.now c.self.view_is c.in-Some.ensures.place c.index_mut.ensures.value)) ∙ c.requires.expected

pub invariant_of-self : goal.invariant_of-self
invariant_of-self c = stays-keyed c.self.inside.table.entries c.in-Some.i c.index_mut.result.now c.reply.new.self c.self.invariant c.index_mut.ensures.value (ap (λ (k : KeptSession). k.session.number) c.reply.ensures)

pub returns-in-Some : goal.returns-in-Some
returns-in-Some c = changed-table c.self.inside.table.entries c.args.self.now c.args.s.0 c.in-Some.i c.index_mut.result.now c.reply.new.self (model.with_master (λ m. phases.replied m c.args.server.0 (reply_of c.args.r))) c.self.view_is c.in-Some.ensures.place c.index_mut.ensures.value c.reply.ensures
