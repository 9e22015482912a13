use Rattle.std.proofs.Common.{ℕ, ◌+◌, Bool, ap, sym, ◌∙◌, cond, option_map, Some}
use Rattle.dr_ids.specs.declared.names.VolumeId.{VolumeId}
use Rattle.dr_steps.proofs.PathLemmas.{first_from, first-next, active_by, active_in}
use Rattle.dr_steps.proofs.paths.first_active.Goals as goal

pub returns-then-is_active-clause-first : goal.returns-then-is_active-clause-first
returns-then-is_active-clause-first g c h events =
    let s = g.P.Plant.state c.args.plant.now in
    let t = c.args.config.now in
    let p : ℕ → Bool = active_in s t c.args.src.0 c.args.tgt.0 in
    let v = c.unwrap-v.result.0 in
    let active = ap (active_by c.args.src.0 c.args.tgt.0 v) (sym c.peek_head-head.ensures) ∙ sym c.is_active.ensures ∙ c.if-is_active.true in
    sym (ap (λ b. cond b (Some v) (first_from p t (c.loop-place.place + 1))) active)
    ∙ sym (first-next p t c.loop-place.place v (sym (ap (option_map (λ (v : VolumeId). v.0)) c.unwrap-v.ensures) ∙ c.volume_at.ensures.value))
    ∙ c.loop-place.invariant

pub loop-place-preserved : goal.loop-place-preserved
loop-place-preserved g c =
    let s = g.P.Plant.state c.args.plant.now in
    let t = c.args.config.now in
    let p : ℕ → Bool = active_in s t c.args.src.0 c.args.tgt.0 in
    let v = c.unwrap-v.result.0 in
    let passed = ap (active_by c.args.src.0 c.args.tgt.0 v) (sym c.peek_head-head.ensures) ∙ sym c.is_active.ensures ∙ c.if-is_active.false in
    sym (first-next p t c.loop-place.place v (sym (ap (option_map (λ (v : VolumeId). v.0)) c.unwrap-v.ensures) ∙ c.volume_at.ensures.value)
    ∙ ap (λ b. cond b (Some v) (first_from p t (c.loop-place.place + 1))) passed)
    ∙ c.loop-place.invariant
