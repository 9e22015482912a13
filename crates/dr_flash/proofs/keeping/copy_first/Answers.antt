use Rattle.std.proofs.Common.{ap, not, ◌&&◌}
use Rattle.dr_volume.specs.View.{volume_seen}
use Rattle.dr_flash.proofs.KeptAllLemmas.{all-carried}
use Rattle.dr_flash.proofs.keeping.copy_first.Goals as goal

pub returns-clause-carried : goal.returns-clause-carried
returns-clause-carried g c = all-carried (g.P.Plant.state c.args.plant.now) (g.P.Plant.state c.keep_all.new.plant) c.args.config.now c.args.journal.now c.keep_all.new.journal c.args.v.0 c.args.t c.keep_all.result c.keep_all.ensures.kept_all

pub returns-clause-others : goal.returns-clause-others
returns-clause-others g c q other = c.keep_all.ensures.kept_all.apart q (ap (λ b. b && not (volume_seen (g.P.Plant.state c.args.plant.now) c.args.config.now q).fields.reversing) other)
