use Rattle.std.proofs.Common.{Option, ap, sym, ◌∙◌}
use Rattle.dr_model.specs.Sessions as model
use Rattle.dr_model.specs.Sessions.{Session, mirror_in}
use Rattle.dr_session.proofs.PlaceLemmas.{found-in, changed-sessions, stays-keyed, same-sessions, room-in, on-ok, on-err}
use Rattle.dr_session.proofs.table.Sessions.add.Goals as goal

pub add-requires-clause-idle : goal.add-requires-clause-idle
add-requires-clause-idle c = sym (ap (λ (x : Option Session). model.busy (mirror_in x)) (found-in c.self.inside.table.entries c.args.self.now c.args.s.0 c.in-Some.i c.index_mut.result.now c.self.view_is c.in-Some.ensures.place c.index_mut.ensures.value)) ∙ c.requires.idle

pub invariant_of-self : goal.invariant_of-self
invariant_of-self c = stays-keyed c.self.inside.table.entries c.in-Some.i c.index_mut.result.now c.add.new.self c.self.invariant c.index_mut.ensures.value c.add.ensures.named

pub returns-in-Some-clause-added : goal.returns-in-Some-clause-added
returns-in-Some-clause-added c = on-ok c.add.result (λ is. changed-sessions c.self.inside.table.entries c.args.self.now c.args.s.0 c.in-Some.i c.index_mut.result.now c.add.new.self (model.with_member c.args.m) c.self.view_is c.in-Some.ensures.place c.index_mut.ensures.value is) c.add.ensures.added

pub returns-in-Some-clause-same : goal.returns-in-Some-clause-same
returns-in-Some-clause-same c = on-err c.add.result (λ is. same-sessions c.self.inside.table.entries c.args.self.now c.in-Some.i c.index_mut.result.now c.add.new.self c.self.view_is c.index_mut.ensures.value is) c.add.ensures.same

pub returns-in-Some-clause-room : goal.returns-in-Some-clause-room
returns-in-Some-clause-room c = λ room. c.add.ensures.room (room-in c.self.inside.table.entries c.args.self.now c.in-Some.i c.index_mut.result.now c.self.view_is c.index_mut.ensures.value room)
