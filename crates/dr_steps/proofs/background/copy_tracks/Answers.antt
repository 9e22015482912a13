use Rattle.dr_steps.proofs.RelationLemmas.{relations-fit}
use Rattle.dr_steps.proofs.background.copy_tracks.Goals as goal

pub fetch_tracks-requires-clause-fit : goal.fetch_tracks-requires-clause-fit
fetch_tracks-requires-clause-fit g c = relations-fit (g.P.Plant.state c.args.plant.now) c.args.config.now c.args.tables.now c.args.journal.now.events c.requires.sound
