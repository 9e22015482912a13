use Rattle.std.proofs.Common.{true, false, ◌≡◌, cond, ap, sym, ◌∙◌, [], arith, refl}
use Rattle.dr_model.specs.Carry.{Pass}
use Rattle.dr_model.specs.Entries.{is_running}
use Rattle.dr_model.specs.PairEntries.{suspend_running, suspend_unless}
use Rattle.dr_volume.specs.View.{on_seen}
use Rattle.dr_volume.proofs.WorldLaws.{on-seen}
use Rattle.dr_moves.specs.Here.{world_seen, armed_in}
use Rattle.dr_moves.proofs.FollowLemmas.{nothing-follows}
use Rattle.dr_facts.proofs.Ends.{ends-alike}
use Rattle.dr_cascade.proofs.following.suspend_unless.Goals as goal

pub returns-then-is_on-clause-ends : goal.returns-then-is_on-clause-ends
returns-then-is_on-clause-ends g c r =
    let s = g.P.Plant.state c.args.plant.now in
    let w = world_seen s c.args.config.now r c.args.journal.now.events in
    let on : is_running c.args.b.0 w.control ≡ true = ap (on_seen s) (c.server_of.ensures.seen s) ∙ on-seen s c.server_of.result.0 c.server_of.ensures.known ∙ sym c.is_on.ensures ∙ c.if-is_on.true in
    nothing-follows (armed_in s) w (suspend_unless c.args.b.0 c.args.a.0) (ap (λ b. cond b Pass (suspend_running c.args.a.0 w.control)) on)

pub returns-then-is_on-clause-kept : goal.returns-then-is_on-clause-kept
returns-then-is_on-clause-kept g c = record { at = c.requires.at; unarmed = λ q none. none; faults = λ f counted. counted; room = omega arith; spare = refl }

pub returns-clause-ends : goal.returns-clause-ends
returns-clause-ends g c r =
    let s = g.P.Plant.state c.args.plant.now in
    let w = world_seen s c.args.config.now r c.args.journal.now.events in
    let u = world_seen (g.P.Plant.state c.suspend_running.new.plant) c.args.config.now r c.suspend_running.new.journal.events in
    let off : is_running c.args.b.0 w.control ≡ false = ap (on_seen s) (c.server_of.ensures.seen s) ∙ on-seen s c.server_of.result.0 c.server_of.ensures.known ∙ sym c.is_on.ensures ∙ c.if-is_on.false in
    let so = c.suspend_running.ensures.ends r in
    record {
      refusal = so.refusal;
      ends = ends-alike (armed_in s) u so.refusal w (suspend_unless c.args.b.0 c.args.a.0) (suspend_running c.args.a.0) [] (ap (λ b. cond b Pass (suspend_running c.args.a.0 w.control)) off) so.ends;
    }
