use Rattle.dr_session.proofs.PlaceLemmas.{place-from_position, absent-from_lookup}
use Rattle.dr_session.proofs.places.place_of.Goals as goal

pub returns-clause-place : goal.returns-clause-place
returns-clause-place c = place-from_position c.args.s.0 c.args.table.now.entries c.get_index_of.result c.requires c.get_index_of.ensures.index

pub returns-clause-none : goal.returns-clause-none
returns-clause-none c = absent-from_lookup c.args.s.0 c.args.table.now.entries c.get_index_of.result c.requires c.get_index_of.ensures.found
