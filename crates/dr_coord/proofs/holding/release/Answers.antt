use Rattle.std.specs.Prelude.{if◌then◌else◌}
use Rattle.std.proofs.Common.{[], ◌∷◌, None, Some, ap, ◌∙◌, ◌&&◌, nat_eq}
use Rattle.dr_ids.specs.declared.refusal.Refusal.TheVariants.{Void}
use Rattle.dr_model.specs.SessionEntries.{void_refusal, free_on, release_entries}
use Rattle.dr_volume.specs.declared.head.Head.{Head}
use Rattle.dr_volume.specs.View.{volume_seen}
use Rattle.dr_moves.specs.Here.{world_seen, armed_in, refusal_of}
use Rattle.dr_moves.proofs.EntryLemmas.{counted-stop, only-stops, one-checked, ends-by}
use Rattle.dr_moves.proofs.TurnLemmas.{ok-along, err-along}
use Rattle.dr_coord.proofs.holding.release.Goals as goal

pub returns-in-Some-clause-fails : goal.returns-in-Some-clause-fails
returns-in-Some-clause-fails g c r ds =
    let s = g.P.Plant.state c.args.plant.now in
    one-checked (world_seen s c.args.config.now r c.args.journal.now.events) (void_refusal c.args.m.now.a.0 c.args.n) (Some c.in-Some.why) (c.in-Some.ensures.refusal ∙ ap (λ (f : Head). if f.recording && nat_eq f.attempt c.args.n then None else Some (Void c.args.n)) c.peek_head-head.ensures) (armed_in s) (free_on c.args.m.now.a.0 ∷ ds)

pub returns-in-Some-clause-carried : goal.returns-in-Some-clause-carried
returns-in-Some-clause-carried g c r = returns-in-Some-clause-fails g c r []

pub free-requires-clause-held : goal.free-requires-clause-held
free-requires-clause-held g c = ap (λ (f : Head). f.coordination) c.peek_head-head.ensures

pub returns-clause-leads : goal.returns-clause-leads
returns-clause-leads g c =
    let s = g.P.Plant.state c.args.plant.now in
    ok-along c.free.result c.free.ensures.advances (λ goes r armed u r' ds more.
    one-checked (world_seen s c.args.config.now r c.args.journal.now.events) (void_refusal c.args.m.now.a.0 c.args.n) None (c.in_default.ensures.refusal ∙ ap (λ (f : Head). if f.recording && nat_eq f.attempt c.args.n then None else Some (Void c.args.n)) c.peek_head-head.ensures) armed u r' (free_on c.args.m.now.a.0 ∷ ds) (goes r armed u r' ds more))

pub returns-clause-fails : goal.returns-clause-fails
returns-clause-fails g c =
    let s = g.P.Plant.state c.args.plant.now in
    err-along c.free.result c.free.ensures.halts c.free.ensures.halts (λ ends _ r ds.
    one-checked (world_seen s c.args.config.now r c.args.journal.now.events) (void_refusal c.args.m.now.a.0 c.args.n) None (c.in_default.ensures.refusal ∙ ap (λ (f : Head). if f.recording && nat_eq f.attempt c.args.n then None else Some (Void c.args.n)) c.peek_head-head.ensures) (armed_in s)
    (world_seen (g.P.Plant.state c.free.new.plant) c.args.config.now r c.free.new.journal.events) (refusal_of c.free.result) (free_on c.args.m.now.a.0 ∷ ds) (ends r ds))

pub returns-clause-carried : goal.returns-clause-carried
returns-clause-carried g c =
    let s = g.P.Plant.state c.args.plant.now in
    ends-by c.free.result (armed_in s) (λ r. world_seen s c.args.config.now r c.args.journal.now.events) (λ r. world_seen (g.P.Plant.state c.free.new.plant) c.args.config.now r c.free.new.journal.events) (λ r. release_entries c.args.m.now.a.0 c.args.n) (returns-clause-leads g c) (returns-clause-fails g c)

pub returns-clause-unchanged : goal.returns-clause-unchanged
returns-clause-unchanged g c calm =
    only-stops _ c.free.result (volume_seen (g.P.Plant.state c.args.plant.now) c.args.config.now c.args.m.now.a.0).server c.free.ensures.refused calm

pub returns-clause-faults : goal.returns-clause-faults
returns-clause-faults g c =
    counted-stop c.free.result _ _ (volume_seen (g.P.Plant.state c.args.plant.now) c.args.config.now c.args.m.now.a.0).server c.free.ensures.faults c.free.ensures.refused
