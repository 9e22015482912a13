use Rattle.dr_laws_cuts.proofs.Begins.{laws-start, laws-defined, stand-next}
use Rattle.dr_laws_cuts.proofs.new_volumes_keep_the_cuts.Goals as goal

pub returns-clause-start : goal.returns-clause-start
returns-clause-start c = laws-start

pub returns-clause-defined : goal.returns-clause-defined
returns-clause-defined c = λ write cs T v y rows stand undefined bare laws. laws-defined write cs T rows stand v y undefined bare laws

pub returns-clause-stays : goal.returns-clause-stays
returns-clause-stays c = stand-next
