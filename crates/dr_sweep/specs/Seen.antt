-- What the program's own values show.
use Rattle.dr_list.specs.Seen.{heard_seen}
use Rattle.dr_plant.specs.Model.{state_of}
use Rattle.dr_sweep.specs.declared.calm.CalmHeard.{CalmHeard}
use Rattle.dr_sweep.specs.declared.run.PointRun.{PointRun}
use Rattle.dr_sweep.specs.Calm.{RunHeard}
use Rattle.dr_sweep.specs.Comes.{RunState}

-- a run on a plant of its own
unfoldable pub run_seen : PointRun → RunState
run_seen r = record { plant = state_of r.plant; run = r.run; events = r.journal.events }

-- what was heard of the calm run
abbrev pub calm_seen : CalmHeard → RunHeard
calm_seen h = record { told = heard_seen h.told; steps = h.steps; noted = h.noted.items }
