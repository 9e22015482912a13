use Rattle.dr_laws_sound.proofs.TurnedExample as example
use Rattle.dr_laws_sound.proofs.an_example_is_turned_round.Goals as goal

pub returns-clause-over : goal.returns-clause-over
returns-clause-over c = example.over-says

pub returns-clause-over_leaves : goal.returns-clause-over_leaves
returns-clause-over_leaves c = example.over-leaves

pub returns-clause-over_tells : goal.returns-clause-over_tells
returns-clause-over_tells c = example.over-tells

pub returns-clause-over_other : goal.returns-clause-over_other
returns-clause-over_other c = example.over-other

pub returns-clause-home : goal.returns-clause-home
returns-clause-home c = example.home-says

pub returns-clause-home_leads : goal.returns-clause-home_leads
returns-clause-home_leads c = example.home-leads

pub returns-clause-home_follows : goal.returns-clause-home_follows
returns-clause-home_follows c = example.home-follows

pub returns-clause-home_tells : goal.returns-clause-home_tells
returns-clause-home_tells c = example.home-tells

pub returns-clause-home_other : goal.returns-clause-home_other
returns-clause-home_other c = example.home-other

pub returns-clause-home_early : goal.returns-clause-home_early
returns-clause-home_early c = example.home-early

pub returns-clause-stops : goal.returns-clause-stops
returns-clause-stops c = example.stops-says

pub returns-clause-stops_leads : goal.returns-clause-stops_leads
returns-clause-stops_leads c = example.stops-leads

pub returns-clause-stops_leaves : goal.returns-clause-stops_leaves
returns-clause-stops_leaves c = example.stops-leaves

pub returns-clause-drains : goal.returns-clause-drains
returns-clause-drains c = example.midway-drains

pub returns-clause-differs : goal.returns-clause-differs
returns-clause-differs c = example.midway-differs
