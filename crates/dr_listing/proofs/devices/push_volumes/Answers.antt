use Rattle.std.proofs.Common.{ℕ, ◌++◌, map, arith, ap, ◌∙◌}
use Rattle.dr_model.specs.declared.event.Event.TheVariants.{ImageVolume}
use Rattle.dr_volume.specs.View.{ids_of, volume_seen}
use Rattle.dr_listing.proofs.TakenLemmas.{told-next, mapped-next}
use Rattle.dr_listing.proofs.ImageLemmas.{id-at, there-at, all-taken, listed-volumes}
use Rattle.dr_listing.proofs.devices.push_volumes.Goals as goal

pub unwrap-v-requires : goal.unwrap-v-requires
unwrap-v-requires c = there-at c.args.config.now c.loop-place.place _ c.volume_at.result c.volume_at.ensures.value c.volumes-place-end.ensures.count c.loop-place-test.true

pub loop-place-preserved : goal.loop-place-preserved
loop-place-preserved c = record {
  told = λ s.
      let t = c.args.config.now in
      let f = (λ (v : ℕ). ImageVolume v (volume_seen s t v).server (volume_seen s t v).tracks) in
      told-next c.args.journal.now.events _ _ _ c.loop-place.journal.events c.push.new.self.events (c.loop-place.invariant.told s) c.push.ensures.events
      (mapped-next f (ids_of t.volumes) c.loop-place.place c.unwrap-v.result.0 (id-at t c.loop-place.place c.volume_at.result c.unwrap-v.result c.volume_at.ensures.value c.unwrap-v.ensures) _ (c.volume_line.ensures s));
  left = let a = c.loop-place.invariant.left in let b = c.push.ensures.spare in omega (arith, a, b);
}

pub returns-clause-told : goal.returns-clause-told
returns-clause-told c s r =
    let t = c.args.config.now in
    let f = (λ (v : ℕ). ImageVolume v (volume_seen s t v).server (volume_seen s t v).tracks) in
    let all = all-taken t c.loop-place.place _ c.volumes-place-end.ensures.count c.loop-place-test.false in
    c.loop-place.invariant.told s ∙ ap (λ es. c.args.journal.now.events ++ es) (ap (map f) all ∙ listed-volumes s t r)

pub push-requires : goal.push-requires
push-requires c =
    let count = c.volumes-place-end.ensures.count in
    let few = c.volumes-place-end.ensures.sound.few_volumes in
    let test = c.loop-place-test.true in
    let left = c.loop-place.invariant.left in
    let room = c.requires in
    omega (arith, count, few, test, left, room)

pub returns-clause-left : goal.returns-clause-left
returns-clause-left c =
    let count = c.volumes-place-end.ensures.count in
    let few = c.volumes-place-end.ensures.sound.few_volumes in
    let end = c.loop-place.auto.place-end in
    let left = c.loop-place.invariant.left in
    omega (arith, count, few, end, left)
