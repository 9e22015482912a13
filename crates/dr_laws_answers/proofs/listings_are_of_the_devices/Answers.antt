use Rattle.dr_laws_answers.proofs.Listing.{listed-run}
use Rattle.dr_laws_answers.proofs.listings_are_of_the_devices.Goals as goal

pub returns : goal.returns
returns c = listed-run
