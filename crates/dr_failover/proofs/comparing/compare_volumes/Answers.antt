use Rattle.std.proofs.Common.{ap, refl, sym, subst, ◌∙◌, ◌∷◌, [], Some, None}
use Rattle.dr_plant.specs.State.{PlantState}
use Rattle.dr_ids.specs.declared.refusal.Refusal.TheVariants.{NotIdentical}
use Rattle.dr_model.specs.Log.{Log}
use Rattle.dr_model.specs.PairEntries.{refuse_if, differs_at, first_differing}
use Rattle.dr_model.specs.ReadStops.{Ends}
use Rattle.dr_volume.specs.View.{volume_seen, track_seen}
use Rattle.dr_moves.specs.Here.{world_seen, armed_in, refusal_of}
use Rattle.dr_facts.proofs.Ends.{ends-off, ends-none}
use Rattle.dr_moves.proofs.EntryLemmas.{ends-clear, ends-why}
use Rattle.dr_moves.proofs.TurnLemmas.{refused-by}
use Rattle.dr_failover.proofs.ComparedLemmas.{both-there, same-track, none-differs, differs-first}
use Rattle.dr_failover.proofs.comparing.compare_volumes.Goals as goal

pub returns-in-Some-clause-carried : goal.returns-in-Some-clause-carried
returns-in-Some-clause-carried g c r =
    let s = g.P.Plant.state c.args.plant.now in
    let ev = c.args.journal.now.events in
    let w = world_seen s c.args.config.now r ev in
    both-there s c.args.config.now r ev c.args.v.0 c.args.u.0 c.requires.first c.requires.second (armed_in s) w (Some c.in-Some.why) _ (c.in-Some.ensures.checked r ev (armed_in s) _)

pub returns-in-Some-clause-differ : goal.returns-in-Some-clause-differ
returns-in-Some-clause-differ g c t is = absurd (c.in-Some.ensures.other t is)

pub returns-in_err-track-clause-carried : goal.returns-in_err-track-clause-carried
returns-in_err-track-clause-carried g c r =
    let s = g.P.Plant.state c.args.plant.now in
    let t = c.args.config.now in
    let ev = c.args.journal.now.events in
    let w = world_seen s t r ev in
    let u = world_seen (g.P.Plant.state c.difference.new.plant) t r c.difference.new.journal.events in
    let es = refuse_if (differs_at (first_differing (track_seen s t) (volume_seen s t c.args.v.0).tracks c.args.v.0 c.args.u.0)) ∷ [] in
    both-there s t r ev c.args.v.0 c.args.u.0 c.requires.first c.requires.second (armed_in s) u (refusal_of c.from_residual.result) _
    (c.in_default.ensures.checked r ev (armed_in s) u (refusal_of c.from_residual.result) es
    (subst (λ q. Ends (armed_in s) u q w es) (sym (refused-by c.from_residual.result c.in_err-track.field-0.0 c.from_residual.ensures.0 c.from_residual.ensures.1))
    (ends-off (armed_in s) u (Some c.in_err-track.field-0.0) w es (c.in_err-track.ensures.gone r))))

pub returns-in-Some-2-clause-carried : goal.returns-in-Some-2-clause-carried
returns-in-Some-2-clause-carried g c r =
    let s = g.P.Plant.state c.args.plant.now in
    let t = c.args.config.now in
    let ev = c.args.journal.now.events in
    let w = world_seen s t r ev in
    let e = Some (NotIdentical c.in-Some-2.track) in
    let d = differs_at (first_differing (track_seen s t) (volume_seen s t c.args.v.0).tracks c.args.v.0 c.args.u.0) in
    both-there s t r ev c.args.v.0 c.args.u.0 c.requires.first c.requires.second (armed_in s) (world_seen (g.P.Plant.state c.difference.new.plant) t r c.difference.new.journal.events) e _
    (c.in_default.ensures.checked r ev (armed_in s) (world_seen (g.P.Plant.state c.difference.new.plant) t r c.difference.new.journal.events) e (refuse_if d ∷ [])
    (subst (λ (x : PlantState). Ends (armed_in s) (world_seen x t r c.difference.new.journal.events) e w (refuse_if d ∷ [])) (sym c.in_ok-track.ensures.passed)
    (subst (λ (l : Log). Ends (armed_in s) (world_seen s t r l.events) e w (refuse_if d ∷ [])) (sym c.in_ok-track.ensures.silent)
    (ends-why (armed_in s) w d (NotIdentical c.in-Some-2.track) [] (ap (λ o. differs_at o w.control) (sym c.in_ok-track.ensures.found ∙ c.in-Some-2.is))))))

pub returns-in-Some-2-clause-differ : goal.returns-in-Some-2-clause-differ
returns-in-Some-2-clause-differ g c k is =
    let s = g.P.Plant.state c.args.plant.now in
    let t = c.args.config.now in
    differs-first (track_seen s t) (volume_seen s t c.args.v.0).tracks c.args.v.0 c.args.u.0 k
    (same-track c.in-Some-2.track k is ∙ sym c.in-Some-2.is ∙ c.in_ok-track.ensures.found)

pub returns-in-None-clause-carried : goal.returns-in-None-clause-carried
returns-in-None-clause-carried g c r =
    let s = g.P.Plant.state c.args.plant.now in
    let t = c.args.config.now in
    let ev = c.args.journal.now.events in
    let w = world_seen s t r ev in
    let d = differs_at (first_differing (track_seen s t) (volume_seen s t c.args.v.0).tracks c.args.v.0 c.args.u.0) in
    both-there s t r ev c.args.v.0 c.args.u.0 c.requires.first c.requires.second (armed_in s) (world_seen (g.P.Plant.state c.difference.new.plant) t r c.difference.new.journal.events) None _
    (c.in_default.ensures.checked r ev (armed_in s) (world_seen (g.P.Plant.state c.difference.new.plant) t r c.difference.new.journal.events) None (refuse_if d ∷ [])
    (subst (λ (x : PlantState). Ends (armed_in s) (world_seen x t r c.difference.new.journal.events) None w (refuse_if d ∷ [])) (sym c.in_ok-track.ensures.passed)
    (subst (λ (l : Log). Ends (armed_in s) (world_seen s t r l.events) None w (refuse_if d ∷ [])) (sym c.in_ok-track.ensures.silent)
    (ends-clear (armed_in s) w None w d [] (ap (λ o. differs_at o w.control) (sym c.in_ok-track.ensures.found ∙ c.in-None.is)) (ends-none (armed_in s) w None w (record { world = refl; refusal = refl }))))))

pub returns-in-None-clause-equal : goal.returns-in-None-clause-equal
returns-in-None-clause-equal g c k low =
    let s = g.P.Plant.state c.args.plant.now in
    let t = c.args.config.now in
    none-differs (track_seen s t) (volume_seen s t c.args.v.0).tracks c.args.v.0 c.args.u.0 (sym c.in-None.is ∙ c.in_ok-track.ensures.found) k low
