use Rattle.std.proofs.Common.{ℕ, ◌≡◌, refl, ap, sym, subst, ◌∙◌, [], ◌∷◌, Some, ◌&&◌, not, nat_eq}
use Rattle.std.specs.Prelude.{if◌then◌else◌}
use Rattle.std.proofs.lemmas.Bool.{and_parts}
use Rattle.dr_model.specs.PairEntries.{refuse_if, send_refusal}
use Rattle.dr_model.specs.SessionEntries.{is_committed, commit_refusal, commit_on, commit_entries}
use Rattle.dr_volume.specs.declared.head.Head.{Head}
use Rattle.dr_volume.specs.View.{volume_seen}
use Rattle.dr_moves.specs.Here.{world_seen, armed_in, refusal_of}
use Rattle.dr_flash.specs.Views.{view_seen}
use Rattle.dr_moves.specs.Coming.{Went}
use Rattle.dr_moves.specs.declared.carrying.Next.TheVariants.{Pass, Do}
use Rattle.dr_moves.specs.declared.moves.Move.TheVariants as move
use Rattle.dr_moves.proofs.EntryLemmas.{only-stops, ends-by}
use Rattle.dr_moves.proofs.TurnLemmas.{ok-along, err-along}
use Rattle.dr_revert.specs.Turns.{Turns}
use Rattle.dr_revert.proofs.EntryLemmas.{check-refuses, check-leads, check-fails, alone-leads, alone-fails, unless-off, unless-all, unless-either, commit-next, or-left}
use Rattle.dr_revert.proofs.TargetLemmas.{commit-turns}
use Rattle.dr_revert.proofs.ViewLaws.{commit-keeps, revertible-seen, same-view}
use Rattle.dr_revert.proofs.committing.commit.Goals as goal

pub returns-in-Some-clause-fails : goal.returns-in-Some-clause-fails
returns-in-Some-clause-fails g c r =
    let s = g.P.Plant.state c.args.plant.now in
    let t = c.args.config.now in
    check-refuses (world_seen s t r c.args.journal.now.events) (send_refusal c.args.m.now.a.0 c.args.m.now.b.0) (refuse_if (commit_refusal c.args.m.now.c.0 c.args.n) ∷ (commit_on c.args.s.0 c.args.m.now.a.0 c.args.m.now.c.0 c.args.n) ∷ []) c.in-Some.why (c.in-Some.ensures.refusal r c.args.journal.now.events) (armed_in s)

pub returns-in-Some-clause-carried : goal.returns-in-Some-clause-carried
returns-in-Some-clause-carried g c r = returns-in-Some-clause-fails g c r []

pub returns-in-Some-commit_refusal-clause-fails : goal.returns-in-Some-commit_refusal-clause-fails
returns-in-Some-commit_refusal-clause-fails g c r =
    let s = g.P.Plant.state c.args.plant.now in
    let t = c.args.config.now in
    check-fails (world_seen s t r c.args.journal.now.events) (send_refusal c.args.m.now.a.0 c.args.m.now.b.0) (refuse_if (commit_refusal c.args.m.now.c.0 c.args.n) ∷ (commit_on c.args.s.0 c.args.m.now.a.0 c.args.m.now.c.0 c.args.n) ∷ []) (c.in_default.ensures.refusal r c.args.journal.now.events) (armed_in s) (world_seen s t r c.args.journal.now.events) (Some c.in-Some-commit_refusal.why)
    (check-refuses (world_seen s t r c.args.journal.now.events) (commit_refusal c.args.m.now.c.0 c.args.n) ((commit_on c.args.s.0 c.args.m.now.a.0 c.args.m.now.c.0 c.args.n) ∷ []) c.in-Some-commit_refusal.why (c.in-Some-commit_refusal.ensures.refusal r c.args.journal.now.events) (armed_in s))

pub returns-in-Some-commit_refusal-clause-carried : goal.returns-in-Some-commit_refusal-clause-carried
returns-in-Some-commit_refusal-clause-carried g c r = returns-in-Some-commit_refusal-clause-fails g c r []

pub returns-clause-leads : goal.returns-clause-leads
returns-clause-leads g c =
    let s = g.P.Plant.state c.args.plant.now in
    let t = c.args.config.now in
    ok-along c.turn_target.result c.turn_target.ensures.advances (λ goes r.
    check-leads (world_seen s t r c.args.journal.now.events) (send_refusal c.args.m.now.a.0 c.args.m.now.b.0) (refuse_if (commit_refusal c.args.m.now.c.0 c.args.n) ∷ (commit_on c.args.s.0 c.args.m.now.a.0 c.args.m.now.c.0 c.args.n) ∷ []) (c.in_default.ensures.refusal r c.args.journal.now.events) (world_seen (g.P.Plant.state c.turn_target.new.plant) t r c.turn_target.new.journal.events)
    (check-leads (world_seen s t r c.args.journal.now.events) (commit_refusal c.args.m.now.c.0 c.args.n) ((commit_on c.args.s.0 c.args.m.now.a.0 c.args.m.now.c.0 c.args.n) ∷ []) (c.in_default-commit_refusal.ensures.refusal r c.args.journal.now.events) (world_seen (g.P.Plant.state c.turn_target.new.plant) t r c.turn_target.new.journal.events)
    (alone-leads (world_seen s t r c.args.journal.now.events) (world_seen (g.P.Plant.state c.turn_target.new.plant) t r c.turn_target.new.journal.events) (commit_on c.args.s.0 c.args.m.now.a.0 c.args.m.now.c.0 c.args.n) (goes r (commit_on c.args.s.0 c.args.m.now.a.0 c.args.m.now.c.0 c.args.n) (commit-next s t r c.args.journal.now.events c.args.m.now c.args.s c.args.n c.commit_next-next.result (volume_seen s t c.args.m.now.c.0).fields refl (c.commit_next-next.ensures ∙ ap (λ (h : Head). if h.member && (nat_eq h.sequence c.args.n && not h.revertible) then Pass else Do (move.Commit c.args.m.now.c c.args.m.now.a c.args.s c.args.n)) c.peek_head-head.ensures))))))

pub returns-clause-fails : goal.returns-clause-fails
returns-clause-fails g c =
    let s = g.P.Plant.state c.args.plant.now in
    let t = c.args.config.now in
    err-along c.turn_target.result c.turn_target.ensures.halts c.turn_target.ensures.halts (λ ends _ r.
    check-fails (world_seen s t r c.args.journal.now.events) (send_refusal c.args.m.now.a.0 c.args.m.now.b.0) (refuse_if (commit_refusal c.args.m.now.c.0 c.args.n) ∷ (commit_on c.args.s.0 c.args.m.now.a.0 c.args.m.now.c.0 c.args.n) ∷ []) (c.in_default.ensures.refusal r c.args.journal.now.events) (armed_in s) (world_seen (g.P.Plant.state c.turn_target.new.plant) t r c.turn_target.new.journal.events) (refusal_of c.turn_target.result)
    (check-fails (world_seen s t r c.args.journal.now.events) (commit_refusal c.args.m.now.c.0 c.args.n) ((commit_on c.args.s.0 c.args.m.now.a.0 c.args.m.now.c.0 c.args.n) ∷ []) (c.in_default-commit_refusal.ensures.refusal r c.args.journal.now.events) (armed_in s) (world_seen (g.P.Plant.state c.turn_target.new.plant) t r c.turn_target.new.journal.events) (refusal_of c.turn_target.result)
    (alone-fails (armed_in s) (world_seen s t r c.args.journal.now.events) (world_seen (g.P.Plant.state c.turn_target.new.plant) t r c.turn_target.new.journal.events) (refusal_of c.turn_target.result) (commit_on c.args.s.0 c.args.m.now.a.0 c.args.m.now.c.0 c.args.n) (ends r (commit_on c.args.s.0 c.args.m.now.a.0 c.args.m.now.c.0 c.args.n) (commit-next s t r c.args.journal.now.events c.args.m.now c.args.s c.args.n c.commit_next-next.result (volume_seen s t c.args.m.now.c.0).fields refl (c.commit_next-next.ensures ∙ ap (λ (h : Head). if h.member && (nat_eq h.sequence c.args.n && not h.revertible) then Pass else Do (move.Commit c.args.m.now.c c.args.m.now.a c.args.s c.args.n)) c.peek_head-head.ensures))))))

pub returns-clause-carried : goal.returns-clause-carried
returns-clause-carried g c =
    let s = g.P.Plant.state c.args.plant.now in
    let t = c.args.config.now in
    ends-by c.turn_target.result (armed_in s) (λ r. (world_seen s t r c.args.journal.now.events)) (λ r. (world_seen (g.P.Plant.state c.turn_target.new.plant) t r c.turn_target.new.journal.events)) (λ r. commit_entries c.args.s.0 c.args.m.now c.args.n) (returns-clause-leads g c) (returns-clause-fails g c)

pub returns-clause-unchanged : goal.returns-clause-unchanged
returns-clause-unchanged g c calm =
    let s = g.P.Plant.state c.args.plant.now in
    let t = c.args.config.now in
    only-stops _ c.turn_target.result (volume_seen s t c.args.m.now.c.0).server c.turn_target.ensures.refused calm

pub returns-clause-moved : goal.returns-clause-moved
returns-clause-moved g c =
    let s = g.P.Plant.state c.args.plant.now in
    let u = g.P.Plant.state c.turn_target.new.plant in
    let t = c.args.config.now in
    let f = (volume_seen s t c.args.m.now.c.0).fields in
    let is = c.commit_next-next.ensures ∙ ap (λ (h : Head). if h.member && (nat_eq h.sequence c.args.n && not h.revertible) then Pass else Do (move.Commit c.args.m.now.c c.args.m.now.a c.args.s c.args.n)) c.peek_head-head.ensures in
    ok-along c.turn_target.result c.turn_target.ensures.went (λ went off. (unless-off (Went s u t) (is_committed c.args.n f) (Do (move.Commit c.args.m.now.c c.args.m.now.a c.args.s c.args.n)) off (subst (Went s u t) is went)).moved)

pub returns-clause-keeps_view : goal.returns-clause-keeps_view
returns-clause-keeps_view g c =
    let s = g.P.Plant.state c.args.plant.now in
    let u = g.P.Plant.state c.turn_target.new.plant in
    let t = c.args.config.now in
    let v = c.args.m.now.c.0 in
    let f = (volume_seen s t v).fields in
    let is = c.commit_next-next.ensures ∙ ap (λ (h : Head). if h.member && (nat_eq h.sequence c.args.n && not h.revertible) then Pass else Do (move.Commit c.args.m.now.c c.args.m.now.a c.args.s c.args.n)) c.peek_head-head.ensures in
    ok-along c.turn_target.result c.turn_target.ensures.went (λ went.
    unless-either ((k : ℕ) → view_seen u t v k ≡ view_seen s t v k) (Went s u t) (is_committed c.args.n f) (Do (move.Commit c.args.m.now.c c.args.m.now.a c.args.s c.args.n)) (subst (Went s u t) is went)
    (same-view s u t v)
    (λ off went.
    let revertible = (and_parts f.revertible _ (or-left (is_committed c.args.n f) _ c.in_default-commit_refusal.ensures.may off)).0 in
    commit-keeps s u t v c.requires.fit (revertible-seen s t v revertible) c.turn_target.ensures.others c.args.n went.moved))

pub turn_target-requires-clause-turns : goal.turn_target-requires-clause-turns
turn_target-requires-clause-turns g c =
    let s = g.P.Plant.state c.args.plant.now in
    let t = c.args.config.now in
    let v = c.args.m.now.c in
    let f = (volume_seen s t v.0).fields in
    let is = c.commit_next-next.ensures ∙ ap (λ (h : Head). if h.member && (nat_eq h.sequence c.args.n && not h.revertible) then Pass else Do (move.Commit c.args.m.now.c c.args.m.now.a c.args.s c.args.n)) c.peek_head-head.ensures in
    let running = ap s.on c.requires.together ∙ c.in_default.ensures.reached in
    subst (Turns s t v.0) (sym is)
    (unless-all (Turns s t v.0) (is_committed c.args.n f) (Do (move.Commit v c.args.m.now.a c.args.s c.args.n)) tt (λ off.
    commit-turns s t v c.requires.target running c.args.m.now.a c.args.s c.args.n (and_parts f.revertible _ (or-left (is_committed c.args.n f) _ c.in_default-commit_refusal.ensures.may off)).0))
