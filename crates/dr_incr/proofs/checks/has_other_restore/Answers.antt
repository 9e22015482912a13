use Rattle.std.proofs.Common.{ℕ, ◌+◌, Bool, not, ◌&&◌, ◌||◌, nat_eq, ap, sym, ◌∙◌, option_map}
use Rattle.dr_ids.specs.declared.names.VolumeId.{VolumeId}
use Rattle.dr_volume.specs.declared.head.Head.{Head}
use Rattle.dr_model.specs.Entries.{copies_from}
use Rattle.dr_volume.specs.View.{volume_seen}
use Rattle.dr_volume.proofs.HeadLaws.{head-listed}
use Rattle.dr_flash.specs.Heads.{targets_by}
use Rattle.dr_incr.proofs.TargetLemmas.{any_from, any-next}
use Rattle.dr_incr.proofs.checks.has_other_restore.Goals as goal

pub returns-then-is_other_restore : goal.returns-then-is_other_restore
returns-then-is_other_restore g c =
    let s = g.P.Plant.state c.args.plant.now in
    let t = c.args.config.now in
    let f : ℕ → Bool = (λ u. not (nat_eq u c.args.t.0) && ((volume_seen s t u).fields.revertible || (volume_seen s t u).fields.reversing)) in
    let h : ℕ → Bool = (λ u. copies_from c.args.s.0 (volume_seen s t u).fields) in
    let found = ap (λ (x : Head). targets_by c.args.s.0 x && (not (nat_eq c.unwrap-u.result.0 c.args.t.0) && (x.revertible || x.reversing))) (sym (head-listed s t c.loop-place.place _ c.unwrap-u.result c.peek_head_at.result c.volume_at.ensures.place c.unwrap-u.ensures c.peek_head_at.ensures)) ∙ sym c.is_other_restore.ensures ∙ c.if-is_other_restore.true in
    sym (any-next f h t c.loop-place.place c.unwrap-u.result.0 (sym (ap (option_map (λ (v : VolumeId). v.0)) c.unwrap-u.ensures) ∙ c.volume_at.ensures.value)
    ∙ ap (λ b. b || any_from f h t (c.loop-place.place + 1)) found)
    ∙ c.loop-place.invariant

pub loop-place-preserved : goal.loop-place-preserved
loop-place-preserved g c =
    let s = g.P.Plant.state c.args.plant.now in
    let t = c.args.config.now in
    let f : ℕ → Bool = (λ u. not (nat_eq u c.args.t.0) && ((volume_seen s t u).fields.revertible || (volume_seen s t u).fields.reversing)) in
    let h : ℕ → Bool = (λ u. copies_from c.args.s.0 (volume_seen s t u).fields) in
    let found = ap (λ (x : Head). targets_by c.args.s.0 x && (not (nat_eq c.unwrap-u.result.0 c.args.t.0) && (x.revertible || x.reversing))) (sym (head-listed s t c.loop-place.place _ c.unwrap-u.result c.peek_head_at.result c.volume_at.ensures.place c.unwrap-u.ensures c.peek_head_at.ensures)) ∙ sym c.is_other_restore.ensures ∙ c.if-is_other_restore.false in
    sym (any-next f h t c.loop-place.place c.unwrap-u.result.0 (sym (ap (option_map (λ (v : VolumeId). v.0)) c.unwrap-u.ensures) ∙ c.volume_at.ensures.value)
    ∙ ap (λ b. b || any_from f h t (c.loop-place.place + 1)) found)
    ∙ c.loop-place.invariant
