use Rattle.std.proofs.Common.{ℕ, ◌+◌, Bool, ◌&&◌, cond, arith, ap, sym, ◌∙◌, Some, option_map}
use Rattle.dr_ids.specs.declared.names.VolumeId.{VolumeId}
use Rattle.dr_model.specs.Entries.{copies_from, is_revertible}
use Rattle.dr_volume.specs.declared.head.Head.{Head}
use Rattle.dr_volume.specs.View.{volume_seen}
use Rattle.dr_volume.proofs.HeadLaws.{head-listed}
use Rattle.dr_flash.specs.Heads.{targets_by}
use Rattle.dr_recover.proofs.LookLemmas.{found_from, found-next, found-none}
use Rattle.dr_recover.proofs.looks.revertible_target.Goals as goal

pub returns-then-is_revertible_target-clause-target : goal.returns-then-is_revertible_target-clause-target
returns-then-is_revertible_target-clause-target g c r events =
    let s = g.P.Plant.state c.args.plant.now in
    let t = c.args.config.now in
    let f : ℕ → Bool = (λ u. is_revertible (volume_seen s t u).fields) in
    let h : ℕ → Bool = (λ u. copies_from c.args.b.0 (volume_seen s t u).fields) in
    sym (found-next f h t c.loop-place.place c.unwrap-u.result.0 (sym (ap (option_map (λ (v : VolumeId). v.0)) c.unwrap-u.ensures) ∙ c.volume_at.ensures.value) ∙ ap (λ b. cond b (Some c.unwrap-u.result.0) (found_from f h t (c.loop-place.place + 1))) (sym (c.is_revertible_target.ensures ∙ ap (λ (x : Head). targets_by c.args.b.0 x && x.revertible) (head-listed s t c.loop-place.place _ c.unwrap-u.result c.peek_head_at.result c.volume_at.ensures.place c.unwrap-u.ensures c.peek_head_at.ensures)) ∙ c.if-is_revertible_target.true)) ∙ c.loop-place.invariant.left

pub loop-place-preserved : goal.loop-place-preserved
loop-place-preserved g c = record {
  left =
      let s = g.P.Plant.state c.args.plant.now in
      let t = c.args.config.now in
      let f : ℕ → Bool = (λ u. is_revertible (volume_seen s t u).fields) in
      let h : ℕ → Bool = (λ u. copies_from c.args.b.0 (volume_seen s t u).fields) in
      sym (found-next f h t c.loop-place.place c.unwrap-u.result.0 (sym (ap (option_map (λ (v : VolumeId). v.0)) c.unwrap-u.ensures) ∙ c.volume_at.ensures.value) ∙ ap (λ b. cond b (Some c.unwrap-u.result.0) (found_from f h t (c.loop-place.place + 1))) (sym (c.is_revertible_target.ensures ∙ ap (λ (x : Head). targets_by c.args.b.0 x && x.revertible) (head-listed s t c.loop-place.place _ c.unwrap-u.result c.peek_head_at.result c.volume_at.ensures.place c.unwrap-u.ensures c.peek_head_at.ensures)) ∙ c.if-is_revertible_target.false)) ∙ c.loop-place.invariant.left;
}

pub returns-clause-target : goal.returns-clause-target
returns-clause-target g c r events =
    let s = g.P.Plant.state c.args.plant.now in
    let t = c.args.config.now in
    let f : ℕ → Bool = (λ u. is_revertible (volume_seen s t u).fields) in
    let h : ℕ → Bool = (λ u. copies_from c.args.b.0 (volume_seen s t u).fields) in
    sym (found-none f h t c.loop-place.place (let e = c.volumes-place-end.ensures.count in let x = c.loop-place-test.false in omega (arith, e, x))) ∙ c.loop-place.invariant.left
