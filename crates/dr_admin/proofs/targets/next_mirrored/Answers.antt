use Rattle.std.proofs.Common.{◌≤◌, ◌&&◌, arith, ap, sym, ◌∙◌, option_map, length}
use Rattle.std.proofs.lemmas.Bool.{and_parts}
use Rattle.dr_ids.specs.declared.names.VolumeId.{VolumeId}
use Rattle.dr_volume.specs.declared.head.Head.{Head}
use Rattle.dr_volume.proofs.HeadLaws.{head-listed}
use Rattle.dr_flash.specs.Heads.{targets_by}
use Rattle.dr_admin.proofs.TargetLemmas.{mirrored-here, mirrored-later, placed-some}
use Rattle.dr_admin.proofs.targets.next_mirrored.Goals as goal

pub returns-then-is_mirrored : goal.returns-then-is_mirrored
returns-then-is_mirrored g c =
    let s = g.P.Plant.state c.args.plant.now in
    let at = sym (ap (option_map (λ (v : VolumeId). v.0)) c.unwrap-volume.ensures) ∙ c.volume_at.ensures.value in
    let test = ap (λ (f : Head). targets_by c.args.b.0 f && (f.recorded && f.inhibited)) (sym (head-listed s c.args.config.now c.loop-place.place _ c.unwrap-volume.result c.peek_head_at.result c.volume_at.ensures.place c.unwrap-volume.ensures c.peek_head_at.ensures)) ∙ sym c.is_mirrored.ensures ∙ c.if-is_mirrored.true in
    record {
      first = c.loop-place.invariant ∙ mirrored-here s c.args.config.now c.args.b.0 c.loop-place.place c.unwrap-volume.result.0 at test;
      is = record {
        defined = placed-some c.args.config.now c.loop-place.place c.volume_at.result c.unwrap-volume.result c.volume_at.ensures.place c.unwrap-volume.ensures;
        target = (and_parts _ _ test).0;
      };
      low =
          let few : length c.args.config.now.volumes ≤ 64 = c.volumes-place-end.ensures.sound.few_volumes in
          let count = c.volumes-place-end.ensures.count in
          let within = c.loop-place-test.true in
          omega (arith, few, count, within);
    }

pub loop-place-preserved : goal.loop-place-preserved
loop-place-preserved g c =
    let s = g.P.Plant.state c.args.plant.now in
    let at = sym (ap (option_map (λ (v : VolumeId). v.0)) c.unwrap-volume.ensures) ∙ c.volume_at.ensures.value in
    let test = ap (λ (f : Head). targets_by c.args.b.0 f && (f.recorded && f.inhibited)) (sym (head-listed s c.args.config.now c.loop-place.place _ c.unwrap-volume.result c.peek_head_at.result c.volume_at.ensures.place c.unwrap-volume.ensures c.peek_head_at.ensures)) ∙ sym c.is_mirrored.ensures ∙ c.if-is_mirrored.false in
    c.loop-place.invariant ∙ mirrored-later s c.args.config.now c.args.b.0 c.loop-place.place c.unwrap-volume.result.0 at test
