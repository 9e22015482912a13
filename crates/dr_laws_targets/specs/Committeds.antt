-- What a journal says, event by event, of who stands committed in a session, and what a move makes of that.
use Rattle.std.specs.Prelude.{List, Some}
use Rattle.std.specs.List.{fold}
use Rattle.dr_model.specs.declared.event.Event.{Event}
use Rattle.dr_model.specs.declared.event.Event.TheVariants.{Committed, Left}
use Rattle.dr_model.specs.Control.{Volume}
use Rattle.dr_model.specs.Moves.{Move, Reverse, Leave, Commit}
use Rattle.dr_laws_closed.specs.Moments.{Standing, none_stands, joins, leaves}

-- for each session and number, whether the target of a primary's member was committed and hasn't left since
abbrev pub committed_event : Standing → Event → Standing
committed_event g (Committed s n a c) = joins g s n a
committed_event g (Left s a) = leaves g s a
committed_event g e = g

-- who stands committed after a journal
unfoldable pub committeds : List Event → Standing
committeds events = fold committed_event none_stands events

-- after a move
abbrev pub next_committed : Move → Volume → Standing → Standing
next_committed (Reverse v (Some a)) u g = leaves g u.fields.session a
next_committed (Leave v a s) u g = leaves g s a
next_committed (Commit v a s n) u g = joins g s n a
next_committed m u g = g
