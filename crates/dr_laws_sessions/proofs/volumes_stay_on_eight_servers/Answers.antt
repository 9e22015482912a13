use Rattle.dr_laws_sessions.proofs.Housed.{housed-none, housed-stays, servers-first, volumes-first, housed-low}
use Rattle.dr_laws_sessions.proofs.volumes_stay_on_eight_servers.Goals as goal

pub returns-clause-none : goal.returns-clause-none
returns-clause-none c = housed-none

pub returns-clause-stays : goal.returns-clause-stays
returns-clause-stays c = housed-stays

pub returns-clause-servers : goal.returns-clause-servers
returns-clause-servers c = servers-first

pub returns-clause-volumes : goal.returns-clause-volumes
returns-clause-volumes c = volumes-first

pub returns-clause-member : goal.returns-clause-member
returns-clause-member c = housed-low
