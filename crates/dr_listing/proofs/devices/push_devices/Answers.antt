use Rattle.std.proofs.Common.{ℕ, ◌++◌, arith, ap, subst, ◌∙◌}
use Rattle.std.specs.Prelude.{All}
use Rattle.std.specs.List.{flat_map}
use Rattle.dr_model.specs.Listed.{listing_of}
use Rattle.dr_model.specs.Runs.{blocks_told}
use Rattle.dr_volume.specs.View.{control_seen, ids_of}
use Rattle.dr_listing.specs.Told.{IsReadable}
use Rattle.dr_listing.proofs.TakenLemmas.{told-next, each-next, all-next}
use Rattle.dr_listing.proofs.ImageLemmas.{id-at, there-at, all-taken, placed-at, listed-blocks}
use Rattle.dr_listing.proofs.devices.push_devices.Goals as goal

pub unwrap-v-requires : goal.unwrap-v-requires
unwrap-v-requires g c = there-at c.args.config.now c.loop-place.place _ c.volume_at.result c.volume_at.ensures.value c.volumes-place-end.ensures.count c.loop-place-test.true

pub push_blocks-requires-clause-defined : goal.push_blocks-requires-clause-defined
push_blocks-requires-clause-defined g c = placed-at c.args.config.now c.loop-place.place c.volume_at.result c.unwrap-v.result c.volume_at.ensures.place c.unwrap-v.ensures

pub push_blocks-requires-clause-room : goal.push_blocks-requires-clause-room
push_blocks-requires-clause-room g c =
    let count = c.volumes-place-end.ensures.count in
    let few = c.volumes-place-end.ensures.sound.few_volumes in
    let test = c.loop-place-test.true in
    let left = c.loop-place.invariant.left in
    let room = c.requires.room in
    omega (arith, count, few, test, left, room)

pub loop-place-preserved : goal.loop-place-preserved
loop-place-preserved g c =
    let s = g.P.Plant.state c.args.plant.now in
    let t = c.args.config.now in
    let at = id-at t c.loop-place.place c.volume_at.result c.unwrap-v.result c.volume_at.ensures.value c.unwrap-v.ensures in
    record {
      told = λ r. told-next c.args.journal.now.events _ _ _ c.loop-place.journal.events c.push_blocks.new.journal.events (c.loop-place.invariant.told r) (c.push_blocks.ensures.told r)
          (each-next (λ (v : ℕ). blocks_told (listing_of (control_seen s t r) s.block v)) (ids_of t.volumes) c.loop-place.place c.unwrap-v.result.0 at);
      readable = all-next (IsReadable s t) (ids_of t.volumes) c.loop-place.place c.unwrap-v.result.0 at c.loop-place.invariant.readable c.push_blocks.ensures.readable;
      left = let a = c.loop-place.invariant.left in let b = c.push_blocks.ensures.left in omega (arith, a, b);
    }

pub returns-clause-told : goal.returns-clause-told
returns-clause-told g c r =
    let s = g.P.Plant.state c.args.plant.now in
    let t = c.args.config.now in
    let all = all-taken t c.loop-place.place _ c.volumes-place-end.ensures.count c.loop-place-test.false in
    c.loop-place.invariant.told r ∙ ap (λ es. c.args.journal.now.events ++ es) (ap (flat_map (λ (v : ℕ). blocks_told (listing_of (control_seen s t r) s.block v))) all ∙ listed-blocks s t r)

pub returns-clause-readable : goal.returns-clause-readable
returns-clause-readable g c =
    let s = g.P.Plant.state c.args.plant.now in
    let t = c.args.config.now in
    let all = all-taken t c.loop-place.place _ c.volumes-place-end.ensures.count c.loop-place-test.false in
    subst (All (IsReadable s t)) all c.loop-place.invariant.readable

pub returns-clause-left : goal.returns-clause-left
returns-clause-left g c =
    let count = c.volumes-place-end.ensures.count in
    let few = c.volumes-place-end.ensures.sound.few_volumes in
    let end = c.loop-place.auto.place-end in
    let left = c.loop-place.invariant.left in
    omega (arith, count, few, end, left)
