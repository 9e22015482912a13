use Rattle.dr_laws_sites.proofs.FirstSite.{first-run}
use Rattle.dr_laws_sites.proofs.the_second_site_shows_what_the_first_does.Goals as goal

pub returns : goal.returns
returns c = first-run
