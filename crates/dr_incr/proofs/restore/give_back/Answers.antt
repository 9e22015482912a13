use Rattle.std.proofs.Common.{ℕ, List, None, ◌<◌, nat_eq, [], ◌∷◌, arith, ap, sym, subst, ◌∙◌, Some}
use Rattle.std.specs.Prelude.{is_some}
use Rattle.std.proofs.lemmas.Bool.{or_parts, eqb-false}
use Rattle.dr_model.specs.Carry.{now}
use Rattle.dr_model.specs.Control.{Volume}
use Rattle.dr_model.specs.Moves.{Restore, Release}
use Rattle.dr_model.specs.Refusals.{stopped}
use Rattle.dr_model.specs.Entries.{copies_from, give_back, for_lowest}
use Rattle.dr_volume.specs.View.{volume_seen, ids_of}
use Rattle.dr_moves.specs.Here.{world_seen, armed_in, refusal_of}
use Rattle.dr_moves.specs.Turns.{Fails}
use Rattle.dr_moves.proofs.KeptLemmas.{before-then, wider-armed}
use Rattle.dr_flash.proofs.CopyLemmas.{no-own}
use Rattle.dr_facts.proofs.Ends.{ends-wider}
use Rattle.dr_moves.proofs.EntryLemmas.{alike-advances, alike-halts}
use Rattle.dr_moves.proofs.TurnLemmas.{refused-by, ok-along, err-along}
use Rattle.dr_incr.specs.Steps.{keeps_of, IsRestoredOnto}
use Rattle.dr_incr.proofs.StepLemmas.{lowest-entry}
use Rattle.dr_incr.proofs.TargetLemmas.{target-of, lowest-below, other-target, same-lowest}
use Rattle.dr_model.specs.Relations.{restored, given_up}
use Rattle.dr_incr.proofs.CopyLaws.{moved-after}
use Rattle.dr_model.specs.Pairs.{altered}
use Rattle.dr_incr.proofs.BackLaws.{stored-other}
use Rattle.dr_incr.proofs.restore.give_back.Goals as goal
use Rattle.dr_logic.proofs.Results.{err-always}
use Rattle.dr_moves.proofs.LeadLemmas.{then-leads, then-fails, fails-first}
use Rattle.dr_flash.proofs.MoveLemmas.{stored-track}

pub keep_others-requires-clause-within : goal.keep_others-requires-clause-within
keep_others-requires-clause-within g c = subst (λ n. c.args.k < n) (target-of (g.P.Plant.state c.args.plant.now) c.args.config.now c.args.s.0 c.args.t.0 c.requires.fit c.requires.copies).tracks (lowest-below _ c.args.k _ c.requires.held)

pub returns-in_err-keep_others-clause-fails : goal.returns-in_err-keep_others-clause-fails
returns-in_err-keep_others-clause-fails g c =
    err-always c.from_residual.result (λ r.
    subst (λ q. Fails (armed_in (g.P.Plant.state c.args.plant.now)) (world_seen (g.P.Plant.state c.args.plant.now) c.args.config.now r c.args.journal.now.events) (give_back (ids_of c.args.config.now.volumes) c.args.s.0 c.args.t.0) (world_seen (g.P.Plant.state c.keep_others.new.plant) c.args.config.now r c.keep_others.new.journal.events) q) (sym (refused-by c.from_residual.result c.in_err-keep_others.field-0.0 c.from_residual.ensures.0 c.from_residual.ensures.1))
    (fails-first (armed_in (g.P.Plant.state c.args.plant.now)) (world_seen (g.P.Plant.state c.args.plant.now) c.args.config.now r c.args.journal.now.events) (world_seen (g.P.Plant.state c.keep_others.new.plant) c.args.config.now r c.keep_others.new.journal.events) (Some c.in_err-keep_others.field-0.0) (keeps_of (ids_of c.args.config.now.volumes) c.args.s.0 c.args.t.0) ((for_lowest c.args.t.0 (λ k. now (Restore c.args.s.0 k c.args.t.0))) ∷ (for_lowest c.args.t.0 (λ k. now (Release c.args.t.0 k))) ∷ []) (c.in_err-keep_others.ensures.fails r)))

pub returns-in_err-keep_others-clause-refused : goal.returns-in_err-keep_others-clause-refused
returns-in_err-keep_others-clause-refused g c =
    err-always c.from_residual.result ((refused-by c.from_residual.result c.in_err-keep_others.field-0.0 c.from_residual.ensures.0 c.from_residual.ensures.1) ∙ c.in_err-keep_others.ensures.refused ∙ ap (λ n. Some (stopped n)) (sym (target-of (g.P.Plant.state c.args.plant.now) c.args.config.now c.args.s.0 c.args.t.0 c.requires.fit c.requires.copies).server))

pub returns-in_err-keep_others-clause-others : goal.returns-in_err-keep_others-clause-others
returns-in_err-keep_others-clause-others g c q other = c.in_err-keep_others.ensures.others q (or_parts (copies_from c.args.s.0 (volume_seen (g.P.Plant.state c.args.plant.now) c.args.config.now q).fields) (nat_eq q c.args.s.0) other).0

pub take_back-requires-clause-defined : goal.take_back-requires-clause-defined
take_back-requires-clause-defined g c = (target-of (g.P.Plant.state c.args.plant.now) c.args.config.now c.args.s.0 c.args.t.0 c.requires.fit c.requires.copies).defined

pub take_back-requires-clause-running : goal.take_back-requires-clause-running
take_back-requires-clause-running g c = (λ i. c.in_ok-keep_others.ensures.on i ((c.in_ok-keep_others.ensures.others c.args.s.0 (no-own (g.P.Plant.state c.args.plant.now) c.args.config.now c.args.s.0 c.requires.fit)).volume i).server) ∙ (ap (g.P.Plant.state c.args.plant.now).on (sym (target-of (g.P.Plant.state c.args.plant.now) c.args.config.now c.args.s.0 c.args.t.0 c.requires.fit c.requires.copies).server) ∙ c.requires.running)

pub take_back-requires-clause-plain : goal.take_back-requires-clause-plain
take_back-requires-clause-plain g c = ap (λ (x : Volume). x.fields.related) (c.in_ok-keep_others.ensures.others c.args.s.0 (no-own (g.P.Plant.state c.args.plant.now) c.args.config.now c.args.s.0 c.requires.fit)).volume ∙ (target-of (g.P.Plant.state c.args.plant.now) c.args.config.now c.args.s.0 c.args.t.0 c.requires.fit c.requires.copies).plain

pub take_back-requires-clause-same_server : goal.take_back-requires-clause-same_server
take_back-requires-clause-same_server g c = ap (λ (x : Volume). x.server) c.in_ok-keep_others.ensures.aside.volume ∙ (target-of (g.P.Plant.state c.args.plant.now) c.args.config.now c.args.s.0 c.args.t.0 c.requires.fit c.requires.copies).server ∙ sym (ap (λ (x : Volume). x.server) (c.in_ok-keep_others.ensures.others c.args.s.0 (no-own (g.P.Plant.state c.args.plant.now) c.args.config.now c.args.s.0 c.requires.fit)).volume)

pub take_back-requires-clause-same_tracks : goal.take_back-requires-clause-same_tracks
take_back-requires-clause-same_tracks g c = ap (λ (x : Volume). x.tracks) c.in_ok-keep_others.ensures.aside.volume ∙ (target-of (g.P.Plant.state c.args.plant.now) c.args.config.now c.args.s.0 c.args.t.0 c.requires.fit c.requires.copies).tracks ∙ sym (ap (λ (x : Volume). x.tracks) (c.in_ok-keep_others.ensures.others c.args.s.0 (no-own (g.P.Plant.state c.args.plant.now) c.args.config.now c.args.s.0 c.requires.fit)).volume)

pub take_back-requires-clause-within : goal.take_back-requires-clause-within
take_back-requires-clause-within g c = subst (λ n. c.args.k < n) ((target-of (g.P.Plant.state c.args.plant.now) c.args.config.now c.args.s.0 c.args.t.0 c.requires.fit c.requires.copies).tracks ∙ sym (ap (λ (x : Volume). x.tracks) (c.in_ok-keep_others.ensures.others c.args.s.0 (no-own (g.P.Plant.state c.args.plant.now) c.args.config.now c.args.s.0 c.requires.fit)).volume)) (lowest-below _ c.args.k _ c.requires.held)

pub returns-in_err-take_back-clause-fails : goal.returns-in_err-take_back-clause-fails
returns-in_err-take_back-clause-fails g c =
    err-always c.from_residual-in_err-take_back.result (λ r.
    subst (λ q. Fails (armed_in (g.P.Plant.state c.args.plant.now)) (world_seen (g.P.Plant.state c.args.plant.now) c.args.config.now r c.args.journal.now.events) (give_back (ids_of c.args.config.now.volumes) c.args.s.0 c.args.t.0) (world_seen (g.P.Plant.state c.take_back.new.plant) c.args.config.now r c.take_back.new.journal.events) q) (sym (refused-by c.from_residual-in_err-take_back.result c.in_err-take_back.field-0.0 c.from_residual-in_err-take_back.ensures.0 c.from_residual-in_err-take_back.ensures.1))
    (then-fails (armed_in (g.P.Plant.state c.args.plant.now)) (world_seen (g.P.Plant.state c.args.plant.now) c.args.config.now r c.args.journal.now.events) (world_seen (g.P.Plant.state c.keep_others.new.plant) c.args.config.now r c.keep_others.new.journal.events) (world_seen (g.P.Plant.state c.take_back.new.plant) c.args.config.now r c.take_back.new.journal.events) (Some c.in_err-take_back.field-0.0) (keeps_of (ids_of c.args.config.now.volumes) c.args.s.0 c.args.t.0) ((for_lowest c.args.t.0 (λ k. now (Restore c.args.s.0 k c.args.t.0))) ∷ (for_lowest c.args.t.0 (λ k. now (Release c.args.t.0 k))) ∷ []) (c.in_ok-keep_others.ensures.leads r)
    (λ ds. ends-wider (armed_in (g.P.Plant.state c.keep_others.new.plant)) (armed_in (g.P.Plant.state c.args.plant.now)) (wider-armed (g.P.Plant.state c.args.plant.now) (g.P.Plant.state c.keep_others.new.plant) c.in_ok-keep_others.ensures.unarmed) (world_seen (g.P.Plant.state c.take_back.new.plant) c.args.config.now r c.take_back.new.journal.events) (Some c.in_err-take_back.field-0.0) _ _
    (alike-halts (armed_in (g.P.Plant.state c.keep_others.new.plant)) (world_seen (g.P.Plant.state c.keep_others.new.plant) c.args.config.now r c.keep_others.new.journal.events) (world_seen (g.P.Plant.state c.take_back.new.plant) c.args.config.now r c.take_back.new.journal.events) (Some c.in_err-take_back.field-0.0) (for_lowest c.args.t.0 (λ k. now (Restore c.args.s.0 k c.args.t.0))) (now (Restore c.args.s.0 c.args.k c.args.t.0)) (lowest-entry (g.P.Plant.state c.keep_others.new.plant) c.args.config.now r c.keep_others.new.journal.events c.args.t.0 c.args.k (λ k. now (Restore c.args.s.0 k c.args.t.0)) (same-lowest (g.P.Plant.state c.args.plant.now) (g.P.Plant.state c.keep_others.new.plant) c.args.config.now c.args.t.0 c.args.k c.in_ok-keep_others.ensures.aside c.requires.held)) (c.in_err-take_back.ensures.halts r) ((for_lowest c.args.t.0 (λ k. now (Release c.args.t.0 k))) ∷ ds)))))

pub returns-in_err-take_back-clause-refused : goal.returns-in_err-take_back-clause-refused
returns-in_err-take_back-clause-refused g c =
    err-always c.from_residual-in_err-take_back.result ((refused-by c.from_residual-in_err-take_back.result c.in_err-take_back.field-0.0 c.from_residual-in_err-take_back.ensures.0 c.from_residual-in_err-take_back.ensures.1) ∙ c.in_err-take_back.ensures.refused ∙ ap (λ (x : Volume). Some (stopped x.server)) (c.in_ok-keep_others.ensures.others c.args.s.0 (no-own (g.P.Plant.state c.args.plant.now) c.args.config.now c.args.s.0 c.requires.fit)).volume ∙ ap (λ n. Some (stopped n)) (sym (target-of (g.P.Plant.state c.args.plant.now) c.args.config.now c.args.s.0 c.args.t.0 c.requires.fit c.requires.copies).server))

pub returns-in_err-take_back-clause-unarmed : goal.returns-in_err-take_back-clause-unarmed
returns-in_err-take_back-clause-unarmed g c q none = c.in_err-take_back.ensures.unarmed q (c.in_ok-keep_others.ensures.unarmed q none)

pub returns-in_err-take_back-clause-others : goal.returns-in_err-take_back-clause-others
returns-in_err-take_back-clause-others g c q other =
    let x = or_parts (copies_from c.args.s.0 (volume_seen (g.P.Plant.state c.args.plant.now) c.args.config.now q).fields) (nat_eq q c.args.s.0) other in
    before-then (g.P.Plant.state c.args.plant.now) (g.P.Plant.state c.keep_others.new.plant) (g.P.Plant.state c.take_back.new.plant) c.args.config.now q (c.in_ok-keep_others.ensures.others q x.0) (c.in_err-take_back.ensures.others q (eqb-false q c.args.s.0 x.1))

pub reverse_finish-requires-clause-running : goal.reverse_finish-requires-clause-running
reverse_finish-requires-clause-running g c = (λ i. (c.in_ok-take_back.ensures.on ∙ c.in_ok-keep_others.ensures.on) i ((before-then (g.P.Plant.state c.args.plant.now) (g.P.Plant.state c.keep_others.new.plant) (g.P.Plant.state c.take_back.new.plant) c.args.config.now c.args.t.0 c.in_ok-keep_others.ensures.aside (c.in_ok-take_back.ensures.others c.args.t.0 (target-of (g.P.Plant.state c.args.plant.now) c.args.config.now c.args.s.0 c.args.t.0 c.requires.fit c.requires.copies).apart)).volume i).server) ∙ c.requires.running

pub reverse_finish-requires-clause-reversing : goal.reverse_finish-requires-clause-reversing
reverse_finish-requires-clause-reversing g c = ap (λ (x : Volume). x.fields.reversing) (before-then (g.P.Plant.state c.args.plant.now) (g.P.Plant.state c.keep_others.new.plant) (g.P.Plant.state c.take_back.new.plant) c.args.config.now c.args.t.0 c.in_ok-keep_others.ensures.aside (c.in_ok-take_back.ensures.others c.args.t.0 (target-of (g.P.Plant.state c.args.plant.now) c.args.config.now c.args.s.0 c.args.t.0 c.requires.fit c.requires.copies).apart)).volume ∙ c.requires.reversing

pub reverse_finish-requires-clause-held : goal.reverse_finish-requires-clause-held
reverse_finish-requires-clause-held g c = ap is_some (same-lowest (g.P.Plant.state c.args.plant.now) (g.P.Plant.state c.take_back.new.plant) c.args.config.now c.args.t.0 c.args.k (before-then (g.P.Plant.state c.args.plant.now) (g.P.Plant.state c.keep_others.new.plant) (g.P.Plant.state c.take_back.new.plant) c.args.config.now c.args.t.0 c.in_ok-keep_others.ensures.aside (c.in_ok-take_back.ensures.others c.args.t.0 (target-of (g.P.Plant.state c.args.plant.now) c.args.config.now c.args.s.0 c.args.t.0 c.requires.fit c.requires.copies).apart)) c.requires.held)

pub reverse_finish-requires-clause-room : goal.reverse_finish-requires-clause-room
reverse_finish-requires-clause-room g c =
    let e = ap (λ (x : Volume). x.tracks) (before-then (g.P.Plant.state c.args.plant.now) (g.P.Plant.state c.keep_others.new.plant) (g.P.Plant.state c.take_back.new.plant) c.args.config.now c.args.t.0 c.in_ok-keep_others.ensures.aside (c.in_ok-take_back.ensures.others c.args.t.0 (target-of (g.P.Plant.state c.args.plant.now) c.args.config.now c.args.s.0 c.args.t.0 c.requires.fit c.requires.copies).apart)).volume in
    let a = c.in_ok-keep_others.ensures.room_left in
    let b = c.in_ok-take_back.ensures.room_left in
    let h = c.requires.room in
    omega (arith, e, a, b, h)

pub returns-clause-leads : goal.returns-clause-leads
returns-clause-leads g c =
    ok-along c.reverse_finish.result c.reverse_finish.ensures.leads (λ leads r.
    then-leads (world_seen (g.P.Plant.state c.args.plant.now) c.args.config.now r c.args.journal.now.events) (world_seen (g.P.Plant.state c.keep_others.new.plant) c.args.config.now r c.keep_others.new.journal.events) (world_seen (g.P.Plant.state c.reverse_finish.new.plant) c.args.config.now r c.reverse_finish.new.journal.events) (keeps_of (ids_of c.args.config.now.volumes) c.args.s.0 c.args.t.0) ((for_lowest c.args.t.0 (λ k. now (Restore c.args.s.0 k c.args.t.0))) ∷ (for_lowest c.args.t.0 (λ k. now (Release c.args.t.0 k))) ∷ []) (c.in_ok-keep_others.ensures.leads r) (λ armed u r' ds more.
    alike-advances (world_seen (g.P.Plant.state c.keep_others.new.plant) c.args.config.now r c.keep_others.new.journal.events) (world_seen (g.P.Plant.state c.take_back.new.plant) c.args.config.now r c.take_back.new.journal.events) (for_lowest c.args.t.0 (λ k. now (Restore c.args.s.0 k c.args.t.0))) (now (Restore c.args.s.0 c.args.k c.args.t.0)) (lowest-entry (g.P.Plant.state c.keep_others.new.plant) c.args.config.now r c.keep_others.new.journal.events c.args.t.0 c.args.k (λ k. now (Restore c.args.s.0 k c.args.t.0)) (same-lowest (g.P.Plant.state c.args.plant.now) (g.P.Plant.state c.keep_others.new.plant) c.args.config.now c.args.t.0 c.args.k c.in_ok-keep_others.ensures.aside c.requires.held)) (c.in_ok-take_back.ensures.advances r) armed u r' ((for_lowest c.args.t.0 (λ k. now (Release c.args.t.0 k))) ∷ ds) (leads r armed u r' ds more)))

pub returns-clause-fails : goal.returns-clause-fails
returns-clause-fails g c =
    err-along c.reverse_finish.result c.reverse_finish.ensures.fails c.reverse_finish.ensures.refused (λ fails refused r.
    then-fails (armed_in (g.P.Plant.state c.args.plant.now)) (world_seen (g.P.Plant.state c.args.plant.now) c.args.config.now r c.args.journal.now.events) (world_seen (g.P.Plant.state c.keep_others.new.plant) c.args.config.now r c.keep_others.new.journal.events) (world_seen (g.P.Plant.state c.reverse_finish.new.plant) c.args.config.now r c.reverse_finish.new.journal.events) (refusal_of c.reverse_finish.result) (keeps_of (ids_of c.args.config.now.volumes) c.args.s.0 c.args.t.0) ((for_lowest c.args.t.0 (λ k. now (Restore c.args.s.0 k c.args.t.0))) ∷ (for_lowest c.args.t.0 (λ k. now (Release c.args.t.0 k))) ∷ []) (c.in_ok-keep_others.ensures.leads r) (λ ds.
    alike-advances (world_seen (g.P.Plant.state c.keep_others.new.plant) c.args.config.now r c.keep_others.new.journal.events) (world_seen (g.P.Plant.state c.take_back.new.plant) c.args.config.now r c.take_back.new.journal.events) (for_lowest c.args.t.0 (λ k. now (Restore c.args.s.0 k c.args.t.0))) (now (Restore c.args.s.0 c.args.k c.args.t.0)) (lowest-entry (g.P.Plant.state c.keep_others.new.plant) c.args.config.now r c.keep_others.new.journal.events c.args.t.0 c.args.k (λ k. now (Restore c.args.s.0 k c.args.t.0)) (same-lowest (g.P.Plant.state c.args.plant.now) (g.P.Plant.state c.keep_others.new.plant) c.args.config.now c.args.t.0 c.args.k c.in_ok-keep_others.ensures.aside c.requires.held)) (c.in_ok-take_back.ensures.advances r) (armed_in (g.P.Plant.state c.args.plant.now)) (world_seen (g.P.Plant.state c.reverse_finish.new.plant) c.args.config.now r c.reverse_finish.new.journal.events) (refusal_of c.reverse_finish.result) ((for_lowest c.args.t.0 (λ k. now (Release c.args.t.0 k))) ∷ ds)
    (ends-wider (armed_in (g.P.Plant.state c.take_back.new.plant)) (armed_in (g.P.Plant.state c.args.plant.now)) (wider-armed (g.P.Plant.state c.args.plant.now) (g.P.Plant.state c.take_back.new.plant) (λ q none. c.in_ok-take_back.ensures.unarmed q (c.in_ok-keep_others.ensures.unarmed q none))) (world_seen (g.P.Plant.state c.reverse_finish.new.plant) c.args.config.now r c.reverse_finish.new.journal.events) (refusal_of c.reverse_finish.result) _ _ (fails r ds))))

pub returns-clause-refused : goal.returns-clause-refused
returns-clause-refused g c = err-along c.reverse_finish.result c.reverse_finish.ensures.refused c.reverse_finish.ensures.refused (λ a b. a ∙ ap (λ (x : Volume). Some (stopped x.server)) (before-then (g.P.Plant.state c.args.plant.now) (g.P.Plant.state c.keep_others.new.plant) (g.P.Plant.state c.take_back.new.plant) c.args.config.now c.args.t.0 c.in_ok-keep_others.ensures.aside (c.in_ok-take_back.ensures.others c.args.t.0 (target-of (g.P.Plant.state c.args.plant.now) c.args.config.now c.args.s.0 c.args.t.0 c.requires.fit c.requires.copies).apart)).volume)

pub returns-clause-unarmed : goal.returns-clause-unarmed
returns-clause-unarmed g c q none = c.reverse_finish.ensures.unarmed q (c.in_ok-take_back.ensures.unarmed q (c.in_ok-keep_others.ensures.unarmed q none))

pub returns-clause-others : goal.returns-clause-others
returns-clause-others g c q other =
    let x = or_parts (copies_from c.args.s.0 (volume_seen (g.P.Plant.state c.args.plant.now) c.args.config.now q).fields) (nat_eq q c.args.s.0) other in
    before-then (g.P.Plant.state c.args.plant.now) (g.P.Plant.state c.take_back.new.plant) (g.P.Plant.state c.reverse_finish.new.plant) c.args.config.now q (before-then (g.P.Plant.state c.args.plant.now) (g.P.Plant.state c.keep_others.new.plant) (g.P.Plant.state c.take_back.new.plant) c.args.config.now q (c.in_ok-keep_others.ensures.others q x.0) (c.in_ok-take_back.ensures.others q (eqb-false q c.args.s.0 x.1)))
    (c.reverse_finish.ensures.others q (other-target (g.P.Plant.state c.args.plant.now) c.args.config.now c.args.s.0 c.args.t.0 q c.requires.copies x.0))

pub returns-clause-room : goal.returns-clause-room
returns-clause-room g c =
    let e = ap (λ (x : Volume). x.tracks) (before-then (g.P.Plant.state c.args.plant.now) (g.P.Plant.state c.keep_others.new.plant) (g.P.Plant.state c.take_back.new.plant) c.args.config.now c.args.t.0 c.in_ok-keep_others.ensures.aside (c.in_ok-take_back.ensures.others c.args.t.0 (target-of (g.P.Plant.state c.args.plant.now) c.args.config.now c.args.s.0 c.args.t.0 c.requires.fit c.requires.copies).apart)).volume in
    let a = c.in_ok-keep_others.ensures.room_left in
    let b = c.in_ok-take_back.ensures.room_left in
    let h = c.reverse_finish.ensures.room in
    omega (arith, e, a, b, h)

pub returns-clause-room_left : goal.returns-clause-room_left
returns-clause-room_left g c =
    let e = ap (λ (x : Volume). x.tracks) (before-then (g.P.Plant.state c.args.plant.now) (g.P.Plant.state c.keep_others.new.plant) (g.P.Plant.state c.take_back.new.plant) c.args.config.now c.args.t.0 c.in_ok-keep_others.ensures.aside (c.in_ok-take_back.ensures.others c.args.t.0 (target-of (g.P.Plant.state c.args.plant.now) c.args.config.now c.args.s.0 c.args.t.0 c.requires.fit c.requires.copies).apart)).volume in
    let a = c.in_ok-keep_others.ensures.room_left in
    let b = c.in_ok-take_back.ensures.room_left in
    ok-along c.reverse_finish.result c.reverse_finish.ensures.room_left (λ left. omega (arith, e, a, b, left))

pub returns-clause-moved : goal.returns-clause-moved
returns-clause-moved g c =
    ok-along c.reverse_finish.result (c.reverse_finish.ensures.moved c.args.k (same-lowest (g.P.Plant.state c.args.plant.now) (g.P.Plant.state c.take_back.new.plant) c.args.config.now c.args.t.0 c.args.k (before-then (g.P.Plant.state c.args.plant.now) (g.P.Plant.state c.keep_others.new.plant) (g.P.Plant.state c.take_back.new.plant) c.args.config.now c.args.t.0 c.in_ok-keep_others.ensures.aside (c.in_ok-take_back.ensures.others c.args.t.0 (target-of (g.P.Plant.state c.args.plant.now) c.args.config.now c.args.s.0 c.args.t.0 c.requires.fit c.requires.copies).apart)) c.requires.held)) (λ is.
    moved-after (g.P.Plant.state c.args.plant.now) (g.P.Plant.state c.take_back.new.plant) (g.P.Plant.state c.reverse_finish.new.plant) c.args.config.now c.args.t.0 (λ (x : Volume). restored x.tracks (given_up x.fields c.args.k)) None (before-then (g.P.Plant.state c.args.plant.now) (g.P.Plant.state c.keep_others.new.plant) (g.P.Plant.state c.take_back.new.plant) c.args.config.now c.args.t.0 c.in_ok-keep_others.ensures.aside (c.in_ok-take_back.ensures.others c.args.t.0 (target-of (g.P.Plant.state c.args.plant.now) c.args.config.now c.args.s.0 c.args.t.0 c.requires.fit c.requires.copies).apart)) is)

pub returns-clause-back : goal.returns-clause-back
returns-clause-back g c =
    ok-along c.reverse_finish.result (c.reverse_finish.ensures.moved c.args.k (same-lowest (g.P.Plant.state c.args.plant.now) (g.P.Plant.state c.take_back.new.plant) c.args.config.now c.args.t.0 c.args.k (before-then (g.P.Plant.state c.args.plant.now) (g.P.Plant.state c.keep_others.new.plant) (g.P.Plant.state c.take_back.new.plant) c.args.config.now c.args.t.0 c.in_ok-keep_others.ensures.aside (c.in_ok-take_back.ensures.others c.args.t.0 (target-of (g.P.Plant.state c.args.plant.now) c.args.config.now c.args.s.0 c.args.t.0 c.requires.fit c.requires.copies).apart)) c.requires.held)) (λ is.
    ap (λ (f : ℕ → List ℕ). f c.args.k) (c.reverse_finish.ensures.others c.args.s.0 (λ same. (target-of (g.P.Plant.state c.args.plant.now) c.args.config.now c.args.s.0 c.args.t.0 c.requires.fit c.requires.copies).apart (sym same))).tracks
    ∙ stored-track (g.P.Plant.state c.keep_others.new.plant) (g.P.Plant.state c.take_back.new.plant) c.args.config.now c.args.s.0 c.args.k _ _ c.in_ok-take_back.ensures.moved
    ∙ ap (λ (f : ℕ → List ℕ). f c.args.k) c.in_ok-keep_others.ensures.aside.tracks)

pub returns-clause-goes_on : goal.returns-clause-goes_on
returns-clause-goes_on g c =
    let s = g.P.Plant.state c.args.plant.now in
    let t = c.args.config.now in
    let apart = (target-of s t c.args.s.0 c.args.t.0 c.requires.fit c.requires.copies).apart in
    let same = before-then s (g.P.Plant.state c.keep_others.new.plant) (g.P.Plant.state c.take_back.new.plant) t c.args.t.0 c.in_ok-keep_others.ensures.aside (c.in_ok-take_back.ensures.others c.args.t.0 apart) in
    ok-along c.reverse_finish.result c.reverse_finish.ensures.goes_on (λ on from is. on from (subst (λ (x : Volume). IsRestoredOnto from x.fields) (sym same.volume) is))

pub returns-clause-kept : goal.returns-clause-kept
returns-clause-kept g c =
    let x = g.P.Plant.state c.args.plant.now in
    let x1 = g.P.Plant.state c.keep_others.new.plant in
    let x2 = g.P.Plant.state c.take_back.new.plant in
    let t = c.args.config.now in
    let k = c.args.k in
    let apart = (target-of x t c.args.s.0 c.args.t.0 c.requires.fit c.requires.copies).apart in
    let same = before-then x x1 x2 t c.args.t.0 c.in_ok-keep_others.ensures.aside (c.in_ok-take_back.ensures.others c.args.t.0 apart) in
    ok-along c.reverse_finish.result (c.reverse_finish.ensures.moved k (same-lowest x x2 t c.args.t.0 k same c.requires.held)) (λ is blank q ne.
    ap (λ (f : ℕ → List ℕ). f q) (c.reverse_finish.ensures.others c.args.s.0 (λ same. apart (sym same))).tracks
    ∙ stored-other x x2 t c.args.s.0 k _
    (moved-after x x1 x2 t c.args.s.0 (λ (z : Volume). altered z.fields k) _ (c.in_ok-keep_others.ensures.others c.args.s.0 (no-own x t c.args.s.0 c.requires.fit)) c.in_ok-take_back.ensures.moved)
    blank q ne)
