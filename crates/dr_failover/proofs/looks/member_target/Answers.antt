use Rattle.std.proofs.Common.{ℕ, ◌+◌, ◌≡◌, Bool, true, false, ◌&&◌, cond, drop, arith, ap, sym, ◌∙◌, Some, option_map}
use Rattle.std.specs.List.{find}
use Rattle.std.proofs.lemmas.List.{drop_all}
use Rattle.dr_ids.specs.declared.names.VolumeId.{VolumeId}
use Rattle.dr_model.specs.Entries.{copies_from}
use Rattle.dr_volume.specs.declared.head.Head.{Head}
use Rattle.dr_volume.specs.View.{volume_seen, ids_of}
use Rattle.dr_volume.proofs.HeadLaws.{head-listed}
use Rattle.dr_flash.specs.Heads.{targets_by}
use Rattle.dr_flash.proofs.CopyLemmas.{ids-next}
use Rattle.dr_failover.proofs.LookLemmas.{found-among}
use Rattle.dr_failover.proofs.looks.member_target.Goals as goal

pub returns-then-is_member_target-clause-target : goal.returns-then-is_member_target-clause-target
returns-then-is_member_target-clause-target g c r events =
    let s = g.P.Plant.state c.args.plant.now in
    let t = c.args.config.now in
    let f : ℕ → Bool = (λ u. (volume_seen s t u).fields.member) in
    let h : ℕ → Bool = (λ u. copies_from c.args.y.0 (volume_seen s t u).fields) in
    let u = c.unwrap-u.result.0 in
    let next = ap (λ ids. find (λ u. h u && f u) ids) (ids-next t c.loop-place.place u (sym (ap (option_map (λ (v : VolumeId). v.0)) c.unwrap-u.ensures) ∙ c.volume_at.ensures.value)) in
    let is : (h u && f u) ≡ true = sym (c.is_member_target.ensures ∙ ap (λ (x : Head). targets_by c.args.y.0 x && x.member) (head-listed s t c.loop-place.place _ c.unwrap-u.result c.peek_head_at.result c.volume_at.ensures.place c.unwrap-u.ensures c.peek_head_at.ensures)) ∙ c.if-is_member_target.true in
    sym (next ∙ ap (λ b. cond b (Some u) (find (λ u. h u && f u) (ids_of (drop (c.loop-place.place + 1) t.volumes)))) is) ∙ c.loop-place.invariant.left ∙ found-among f h (ids_of t.volumes)

pub loop-place-preserved : goal.loop-place-preserved
loop-place-preserved g c = record {
  left =
      let s = g.P.Plant.state c.args.plant.now in
      let t = c.args.config.now in
      let f : ℕ → Bool = (λ u. (volume_seen s t u).fields.member) in
      let h : ℕ → Bool = (λ u. copies_from c.args.y.0 (volume_seen s t u).fields) in
      let u = c.unwrap-u.result.0 in
      let next = ap (λ ids. find (λ u. h u && f u) ids) (ids-next t c.loop-place.place u (sym (ap (option_map (λ (v : VolumeId). v.0)) c.unwrap-u.ensures) ∙ c.volume_at.ensures.value)) in
      let is : (h u && f u) ≡ false = sym (c.is_member_target.ensures ∙ ap (λ (x : Head). targets_by c.args.y.0 x && x.member) (head-listed s t c.loop-place.place _ c.unwrap-u.result c.peek_head_at.result c.volume_at.ensures.place c.unwrap-u.ensures c.peek_head_at.ensures)) ∙ c.if-is_member_target.false in
      sym (next ∙ ap (λ b. cond b (Some u) (find (λ u. h u && f u) (ids_of (drop (c.loop-place.place + 1) t.volumes)))) is) ∙ c.loop-place.invariant.left;
}

pub returns-clause-target : goal.returns-clause-target
returns-clause-target g c r events =
    let s = g.P.Plant.state c.args.plant.now in
    let t = c.args.config.now in
    let f : ℕ → Bool = (λ u. (volume_seen s t u).fields.member) in
    let h : ℕ → Bool = (λ u. copies_from c.args.y.0 (volume_seen s t u).fields) in
    sym (ap (λ es. find (λ u. h u && f u) (ids_of es)) (drop_all c.loop-place.place t.volumes (let e = c.volumes-place-end.ensures.count in let x = c.loop-place-test.false in omega (arith, e, x)))) ∙ c.loop-place.invariant.left ∙ found-among f h (ids_of t.volumes)
