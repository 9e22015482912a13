use Rattle.std.proofs.Common.{ℕ, map, filter, arith, ap, ◌∙◌, ◌++◌}
use Rattle.dr_model.specs.Listings.{flash_line, is_flash_of}
use Rattle.dr_volume.specs.View.{ids_of, volume_seen}
use Rattle.dr_listing.proofs.TakenLemmas.{told-next, picked-next}
use Rattle.dr_listing.proofs.ImageLemmas.{id-at, there-at, all-taken}
use Rattle.dr_listing.proofs.relations.flashes.Goals as goal

pub unwrap-u-requires : goal.unwrap-u-requires
unwrap-u-requires g c = there-at c.args.config.now c.loop-place.place _ c.volume_at.result c.volume_at.ensures.value c.volumes-place-end.ensures.count c.loop-place-test.true

pub loop-place-preserved : goal.loop-place-preserved
loop-place-preserved g c = record {
  told =
      let s = g.P.Plant.state c.args.plant.now in
      let t = c.args.config.now in
      let next = picked-next (λ (u : ℕ). flash_line c.args.line u (volume_seen s t u).fields) (λ (u : ℕ). is_flash_of c.args.v.0 u (volume_seen s t u).fields) (ids_of t.volumes) c.loop-place.place c.unwrap-u.result.0 (id-at t c.loop-place.place c.volume_at.result c.unwrap-u.result c.volume_at.ensures.value c.unwrap-u.ensures) in
      told-next c.args.journal.now.events _ _ _ c.loop-place.journal.events c.push.new.journal.events c.loop-place.invariant.told (c.push.ensures.told ∙ ap (λ es. c.loop-place.journal.events ++ es) c.line_at.ensures) next;
  left = let a = c.loop-place.invariant.left in let b = c.push.ensures.left in omega (arith, a, b);
}

pub returns-clause-told : goal.returns-clause-told
returns-clause-told g c r =
    let s = g.P.Plant.state c.args.plant.now in
    let t = c.args.config.now in
    let all = all-taken t c.loop-place.place _ c.volumes-place-end.ensures.count c.loop-place-test.false in
    c.loop-place.invariant.told ∙ ap (λ us. c.args.journal.now.events ++ map (λ (u : ℕ). flash_line c.args.line u (volume_seen s t u).fields) (filter (λ (u : ℕ). is_flash_of c.args.v.0 u (volume_seen s t u).fields) us)) all
