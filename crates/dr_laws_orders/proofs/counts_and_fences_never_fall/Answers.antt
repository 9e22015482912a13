use Rattle.dr_laws_orders.proofs.FlightGoesOn.{tasks-go}
use Rattle.dr_laws_orders.proofs.counts_and_fences_never_fall.Goals as goal

pub returns : goal.returns
returns c = tasks-go
