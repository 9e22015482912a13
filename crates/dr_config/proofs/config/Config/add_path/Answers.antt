use Rattle.dr_config.specs.Kept.{table_of, paths_of}
use Rattle.dr_config.proofs.Sound.{sound-with_paths}
use Rattle.dr_config.proofs.config.Config.add_path.Goals as goal

pub invariant_of-self : goal.invariant_of-self
invariant_of-self g c =
    sound-with_paths (table_of c.self.inside.servers.keys c.self.inside.volumes.entries c.self.inside.down c.self.inside.paths.entries) (paths_of c.put_path.new.paths.entries) c.self.invariant
