-- What is heard of a move, by how it ended.
use Rattle.std.specs.Prelude.{Bool, Option, Some, None, option_map, Result, Ok, Err, if◌then◌else◌}
use Rattle.dr_ids.specs.declared.names.WriteId.{WriteId}
use Rattle.dr_ids.specs.declared.refusal.Refusal.{Refusal}
use Rattle.dr_model.specs.Refusals.{stopped}
use Rattle.dr_moves.specs.declared.acts.Stop.{Stop}
use Rattle.dr_moves.specs.declared.beside.News.{News}
use Rattle.dr_moves.specs.declared.beside.News.TheVariants.{Settled, Landed}
use Rattle.dr_moves.specs.declared.moves.Move.{Move}
use Rattle.dr_moves.specs.declared.moves.Move.TheVariants as move

-- the host write that a move lands, if it lands one
abbrev pub landed_by : Move → Option WriteId
landed_by (move.Land w v t) = Some w
landed_by (move.Overwrite w v t) = Some w
landed_by (move.LandBoth w v t) = Some w
landed_by _ = None

-- it is pending no more where the move is done
abbrev pub settled_by : Move → Option News
settled_by m = option_map Settled (landed_by m)

-- and it has landed where the move counts as done in a stop
abbrev pub marked_by : Move → Option News
marked_by m = option_map Landed (landed_by m)

-- what is heard where a stopped move counts as done, and where it doesn't
abbrev pub if_counts : Bool → Option News → Option News
if_counts counts news = if counts then news else None

-- what is heard of a move, done or stopped
abbrev pub heard_of : Option News → Option News → Result (Unit {0}) Stop → Option News
heard_of o in_stop (Ok x) = o
heard_of o in_stop (Err stop) = if_counts stop.counts in_stop

-- a move that wasn't done ends all with the stop of its server
abbrev pub refused_by : Result (Unit {0}) Stop → Result (Unit {0}) Refusal
refused_by (Ok x) = Ok x
refused_by (Err stop) = Err (stopped stop.server.0)
