use Rattle.dr_laws_examples.proofs.Flash as flash
use Rattle.dr_laws_examples.proofs.an_example_of_a_flash_window.Goals as goal

pub returns-clause-among : goal.returns-clause-among
returns-clause-among c = flash.among

pub returns-clause-sound : goal.returns-clause-sound
returns-clause-sound c = flash.sound

pub returns-clause-held : goal.returns-clause-held
returns-clause-held c = flash.held

pub returns-clause-waits : goal.returns-clause-waits
returns-clause-waits c = flash.waits

pub returns-clause-first_cut : goal.returns-clause-first_cut
returns-clause-first_cut c = flash.first_cut

pub returns-clause-second_cut : goal.returns-clause-second_cut
returns-clause-second_cut c = flash.second_cut

pub returns-clause-first_shows : goal.returns-clause-first_shows
returns-clause-first_shows c = flash.first_shows

pub returns-clause-second_shows : goal.returns-clause-second_shows
returns-clause-second_shows c = flash.second_shows
