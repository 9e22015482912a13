use Rattle.std.proofs.Common.{◌∙◌}
use Rattle.dr_ids.specs.declared.names.ServerId.{ServerId}
use Rattle.dr_config.specs.declared.entries.VolumeEntry.{VolumeEntry}
use Rattle.dr_moves.proofs.PlaceLaws.{entry-found, looked-up, found-is}
use Rattle.dr_moves.proofs.place.server_of.Goals as goal

pub unwrap-requires : goal.unwrap-requires
unwrap-requires c = looked-up c.args.config.now c.args.v.0 (λ (s : ServerId). s.0) (λ (e : VolumeEntry). e.server) c.server_of.result c.requires.defined c.server_of.ensures.value

pub returns-clause-seen : goal.returns-clause-seen
returns-clause-seen c s =
    let t = c.args.config.now in
    (entry-found t c.args.v.0 c.requires.defined).2 s
    ∙ found-is t c.args.v.0 (λ (s : ServerId). s.0) (λ (e : VolumeEntry). e.server) c.server_of.result c.unwrap.result c.requires.defined c.server_of.ensures.value c.unwrap.ensures
