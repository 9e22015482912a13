-- What a move does to the table of volumes.
use Rattle.std.specs.Prelude.{ℕ, Bool, true, ◌&&◌, List, if◌then◌else◌}
use Rattle.std.specs.FinSet.{contains}
use Rattle.dr_logic.specs.Bytes.{zeros}
use Rattle.dr_logic.specs.Tables.{at}
use Rattle.dr_model.specs.Histories.{Write}
use Rattle.dr_model.specs.Contents.{with_write}
use Rattle.dr_model.specs.Layout.{Tracks, Fields}
use Rattle.dr_model.specs.Control.{Volume}
use Rattle.dr_model.specs.Views.{view}
use Rattle.dr_model.specs.Relations.{rest, is_bare, turned, given_up}
use Rattle.dr_model.specs.Moves.{Move, Land, Overwrite, Keep, Relate, Withdraw, Fetch, Resync, Reverse, Restore, Release, Store, Mirror, LandBoth, Flash, Commit, Revert, Carried, target, next_fields, carried, keeps_staged, moved_keeping}
use Rattle.dr_model.specs.Table.{Row, Table}

-- the volumes of a table
abbrev pub volumes_of : Table → ℕ → Volume
volumes_of T v = (T v).volume

-- what its tracks contain
abbrev pub contents_of : Table → ℕ → ℕ → List ℕ
contents_of T v = (T v).bytes

-- the row of a target's source
abbrev pub source_row : Table → ℕ → Row
source_row T v = T (T v).volume.fields.source

-- tracks of which those that a target doesn't hold became zeros, where its relationship ended
abbrev pub emptied : Bool → ℕ → Tracks → (ℕ → List ℕ) → ℕ → List ℕ
emptied ends n own old t = if ends && contains (rest n own) t then zeros else old t

-- where a target holds nothing any more, its tracks are empty
abbrev pub emptied_if_bare : ℕ → Fields → (ℕ → List ℕ) → ℕ → List ℕ
emptied_if_bare n f old = emptied (is_bare f.own) n f.own old

-- what the volume's tracks are due to show after the move
abbrev pub next_due : (ℕ → Write) → Move → Table → ℕ → List ℕ
next_due write (Land n v t) T = at (T v).due t (with_write write ((T v).due t) n)
next_due write (Overwrite n v t) T = at (T v).due t (with_write write ((T v).due t) n)
next_due write (Relate v s choices) T = (T s).due
next_due write (Withdraw v) T = emptied true (T v).volume.tracks (T v).volume.fields.own (T v).due
next_due write (Resync v sequence) T = (source_row T v).due
next_due write (Reverse v left) T = emptied_if_bare (T v).volume.tracks (turned (T v).volume.fields) (T v).due
next_due write (Restore v t u) T = at (T v).due t ((T u).due t)
next_due write (Store v t u last) T = at (T v).due t ((T u).due t)
next_due write (Mirror v t u n) T = at (T v).due t (with_write write ((T u).due t) n)
next_due write (LandBoth n v t) T = at (T v).due t (with_write write ((T v).due t) n)
next_due write (Release v t) T = emptied_if_bare (T v).volume.tracks (given_up (T v).volume.fields t) (T v).due
next_due write (Flash v u a s n) T = (T u).due
next_due write (Revert v a s n) T = (T v).aside
next_due write m T = (T (target m)).due

-- and what they would show if it went back
abbrev pub next_aside : Move → Table → ℕ → List ℕ
next_aside (Flash v u a s n) T = (T v).due
next_aside (Commit v a s n) T = λ t. zeros
next_aside m T = (T (target m)).aside

-- what they contain
abbrev pub next_bytes : (ℕ → Write) → Move → Table → ℕ → List ℕ
next_bytes write (Land n v t) T = at (T v).bytes t (with_write write ((T v).bytes t) n)
next_bytes write (Overwrite n v t) T = at (T v).bytes t (with_write write (view (λ u. (T u).volume.fields) (contents_of T) v t) n)
next_bytes write (Keep v t) T = at (T v).bytes t ((source_row T v).bytes t)
next_bytes write (Withdraw v) T = emptied true (T v).volume.tracks (T v).volume.fields.own (T v).bytes
next_bytes write (Fetch v t) T = at (T v).bytes t ((source_row T v).bytes t)
next_bytes write (Reverse v left) T = emptied_if_bare (T v).volume.tracks (turned (T v).volume.fields) (T v).bytes
next_bytes write (Restore v t u) T = at (T v).bytes t ((T u).bytes t)
next_bytes write (Store v t u last) T = at (T v).bytes t ((T u).bytes t)
next_bytes write (Mirror v t u n) T = at (T v).bytes t (with_write write ((T u).bytes t) n)
next_bytes write (LandBoth n v t) T = at (T v).bytes t (with_write write ((T v).bytes t) n)
next_bytes write (Release v t) T = emptied_if_bare (T v).volume.tracks (given_up (T v).volume.fields t) (T v).bytes
next_bytes write m T = (T (target m)).bytes

-- the track that a move carries, by the table
abbrev pub carried_on : (ℕ → Write) → Move → Table → Carried
carried_on write m T = carried m (volumes_of T) (contents_of T) write

-- the row of the move's volume after it
abbrev pub next_row : (ℕ → Write) → Move → Table → Row
next_row write m T =
    let r : Row = T (target m) in
    record r { volume = moved_keeping (keeps_staged m) r.volume (next_fields m (volumes_of T)) (carried_on write m T); bytes = next_bytes write m T; due = next_due write m T; aside = next_aside m T }

-- the table after a move: one row changes
abbrev pub after : (ℕ → Write) → Table → Move → Table
after write T m = at T (target m) (next_row write m T)
