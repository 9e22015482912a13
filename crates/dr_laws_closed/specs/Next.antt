-- What a move makes of moments and of who stands in groups, and which volumes' lists it leaves.
use Rattle.std.specs.Prelude.{◌≡◌, ◌≢◌, ℕ, List, Some}
use Rattle.dr_logic.specs.Tables.{at, at2}
use Rattle.dr_model.specs.Histories.{Lists, Write}
use Rattle.dr_model.specs.Control.{Pending, Volume, World}
use Rattle.dr_model.specs.Entries.{fields_at}
use Rattle.dr_model.specs.Sessions.{Session}
use Rattle.dr_model.specs.Moves.{Move, Land, Overwrite, Relate, Withdraw, Resync, Reverse, Restore, Release, Store, Mirror, LandBoth, Hold, Leave, Flash, Revert, target, fields_left}
use Rattle.dr_laws_closed.specs.Moments.{Moments, Standing, joins, falls, leaves}

-- the moments after a move, by the lists before it
abbrev pub next_moments : Lists → Move → Moments → Moments
next_moments now (Hold v s n first) M = at2 M s n now
next_moments now m M = M

-- the groups after a move
abbrev pub next_standing : Move → Volume → Standing → Standing
next_standing (Reverse v (Some a)) u g = leaves g u.fields.session a
next_standing (Leave v a s) u g = leaves g s a
next_standing (Flash v from a s n) u g = joins g s n a
next_standing (Revert v a s n) u g = falls g s n a
next_standing m u g = g

-- the move leaves what volume v holds, where writes are such
abbrev pub Untouched : (ℕ → Write) → Move → ℕ → Type 0
Untouched write (Land n x t) v = v ≢ (write n).volume
Untouched write (Overwrite n x t) v = v ≢ (write n).volume
Untouched write (LandBoth n x t) v = v ≢ (write n).volume
Untouched write (Relate x s choices) v = v ≢ x
Untouched write (Withdraw x) v = v ≢ x
Untouched write (Resync x sequence) v = v ≢ x
Untouched write (Reverse x left) v = v ≢ x
Untouched write (Restore x t u) v = v ≢ x
Untouched write (Release x t) v = v ≢ x
Untouched write (Store x t u last) v = v ≢ x
Untouched write (Mirror x t u n) v = v ≢ x
Untouched write (Flash x u a s n) v = v ≢ x
Untouched write (Revert x a s n) v = v ≢ x
Untouched write m v = Unit {0}

-- the second world has the fields that the move leaves, these sessions, the same messages in flight, and these pending writes
pub record MovesTo (w x : World) (m : Move) (us : List Session) (ps : List Pending) : Type 0 where
  pub fields : fields_at x.control ≡ at (fields_at w.control) (target m) (fields_left m (w.control.volume (target m)))
  pub sessions : x.control.sessions ≡ us
  pub messages : x.control.flight.messages ≡ w.control.flight.messages
  pub pending : x.control.pending ≡ ps
