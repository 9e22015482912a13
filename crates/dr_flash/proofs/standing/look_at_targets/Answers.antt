use Rattle.std.proofs.Common.{ℕ, Bool, true, false, ◌≡◌, ◌≤◌, ◌+◌, ◌&&◌, ◌||◌, arith, ap, refl, sym, ◌∙◌, slice_get, option_map, Some}
use Rattle.std.specs.Prelude.{if◌then◌else◌}
use Rattle.std.specs.List.{list_any}
use Rattle.dr_config.specs.declared.entries.VolumeEntry.{VolumeEntry}
use Rattle.dr_model.specs.Entries.{is_revertible, is_reversing}
use Rattle.dr_volume.specs.declared.head.Relation.{Relation}
use Rattle.dr_volume.specs.Head.{head_of, relation_in}
use Rattle.dr_volume.specs.View.{volume_seen}
use Rattle.dr_volume.proofs.HeadLaws.{entry-there}
use Rattle.dr_flash.specs.Heads.{copies_by, relation_at}
use Rattle.dr_flash.proofs.HeadLemmas.{relation-there}
use Rattle.dr_flash.proofs.StandingLemmas.{targets_from, count-next, any-next, any-turn}
use Rattle.dr_flash.proofs.standing.look_at_targets.Goals as goal

small : (b : Bool) (n m i : ℕ) → m ≡ n + (if b then 1 else 0) → n ≤ i → m ≤ i + 1
small true n m i e h = omega (arith, e, h)
small false n m i e h = omega (arith, e, h)

pub with_place-all-requires-clause-there : goal.with_place-all-requires-clause-there
with_place-all-requires-clause-there g c = let e = c.volumes-place-end.ensures.count in let f = c.loop-place-test.true in omega (arith, e, f)

pub loop-place-preserved : goal.loop-place-preserved
loop-place-preserved g c =
    let s = g.P.Plant.state c.args.plant.now in
    let t = c.args.config.now in
    let v = c.args.v.0 in
    let i = c.loop-place.place in
    let e = entry-there t i (let e = c.volumes-place-end.ensures.count in let f = c.loop-place-test.true in omega (arith, e, f)) in
    let u = e.0.id in
    let at : Some u ≡ option_map (λ (e : VolumeEntry). e.id) (slice_get t.volumes i) = sym (ap (option_map (λ (e : VolumeEntry). e.id)) e.1) in
    let shows : relation_at s t i ≡ relation_in (head_of (volume_seen s t u).fields) = relation-there s t u i (relation_at s t i) (c.volumes-place-end.ensures.sound.volume i e.0 e.1).own refl in
    record {
      count =
          let n = ap {B = ℕ} (λ (h : Relation). if copies_by v h then 1 else 0) shows in
          let a = c.with_place-all.ensures.count in
          let b = count-next s t v i u at in
          let h = c.loop-place.invariant.count in
          omega (arith, n, a, b, h);
      revertible = any-turn c.loop-place.all.revertible _ c.with_place-all.result.revertible _ _ _ c.with_place-all.ensures.revertible
          (any-next s t v i u at is_revertible ∙ ap (λ (h : Relation). (copies_by v h && h.revertible) || list_any (λ u. is_revertible (volume_seen s t u).fields) (targets_from s t v (i + 1))) (sym shows))
          c.loop-place.invariant.revertible;
      reversing = any-turn c.loop-place.all.reversing _ c.with_place-all.result.reversing _ _ _ c.with_place-all.ensures.reversing
          (any-next s t v i u at is_reversing ∙ ap (λ (h : Relation). (copies_by v h && h.reversing) || list_any (λ u. is_reversing (volume_seen s t u).fields) (targets_from s t v (i + 1))) (sym shows))
          c.loop-place.invariant.reversing;
      few = small (copies_by v (relation_at s t i)) _ c.with_place-all.result.count i c.with_place-all.ensures.count c.loop-place.invariant.few;
    }
