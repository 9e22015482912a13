use Rattle.dr_laws_examples.proofs.Freeze as freeze
use Rattle.dr_laws_examples.proofs.an_example_of_a_freeze_window.Goals as goal

pub returns-clause-among : goal.returns-clause-among
returns-clause-among c = freeze.among

pub returns-clause-sound : goal.returns-clause-sound
returns-clause-sound c = freeze.sound

pub returns-clause-first : goal.returns-clause-first
returns-clause-first c = freeze.first

pub returns-clause-second : goal.returns-clause-second
returns-clause-second c = freeze.second

pub returns-clause-first_tracks : goal.returns-clause-first_tracks
returns-clause-first_tracks c = freeze.first_tracks

pub returns-clause-second_tracks : goal.returns-clause-second_tracks
returns-clause-second_tracks c = freeze.second_tracks

pub returns-clause-first_partner : goal.returns-clause-first_partner
returns-clause-first_partner c = freeze.first_partner

pub returns-clause-second_partner : goal.returns-clause-second_partner
returns-clause-second_partner c = freeze.second_partner

pub returns-clause-came : goal.returns-clause-came
returns-clause-came c = freeze.came

pub returns-clause-busy : goal.returns-clause-busy
returns-clause-busy c = freeze.busy

pub returns-clause-waits : goal.returns-clause-waits
returns-clause-waits c = freeze.waits

pub returns-clause-first_contains : goal.returns-clause-first_contains
returns-clause-first_contains c = freeze.first_contains

pub returns-clause-second_contains : goal.returns-clause-second_contains
returns-clause-second_contains c = freeze.second_contains
