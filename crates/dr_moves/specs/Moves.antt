-- A move as a value, and as the machine knows it.
use Rattle.std.specs.Prelude.{ℕ, ◌<◌, false, Option, None, option_map}
use Rattle.dr_ids.specs.declared.names.VolumeId.{VolumeId}
use Rattle.dr_model.specs.Layout.{Fields}
use Rattle.dr_model.specs.Control.{Volume}
use Rattle.dr_model.specs.Moves as machine
use Rattle.dr_model.specs.Moves.{Land, Overwrite, Keep, Note, Relate, Withdraw, Fetch, Resync, Reverse, Restore, Release, Store, Strike, Suspend, MakeSecondary, MakePrimary, DropPrimary, DropSecondary, Follow, Resume, TakeOver, LeavePrimary, FallBack, Yield, Unsync, Mirror, LandBoth, Thaw, FlashHold, FlashFree, Lift, Restart, Hold, Free, Seal, Finish, RaiseAttempt, RaiseFloor, Leave, Flash, Commit, Revert}
use Rattle.dr_moves.specs.Options.{choices}
use Rattle.dr_moves.specs.declared.moves.Move.{Move}
use Rattle.dr_moves.specs.declared.moves.Move.TheVariants as move

-- the number of a volume, where there is one
abbrev pub number_of : Option VolumeId → Option ℕ
number_of v = option_map (λ (x : VolumeId). x.0) v

-- a move as the machine knows it
abbrev pub move_of : Move → machine.Move
move_of (move.Land w v t) = Land w.0 v.0 t
move_of (move.Overwrite w v t) = Overwrite w.0 v.0 t
move_of (move.Keep v t) = Keep v.0 t
move_of (move.Note v t) = Note v.0 t
move_of (move.Relate v s options) = Relate v.0 s.0 (choices options)
move_of (move.Withdraw v) = Withdraw v.0
move_of (move.Fetch v t) = Fetch v.0 t
move_of (move.Resync v sequence) = Resync v.0 sequence
move_of (move.Reverse v left) = Reverse v.0 (number_of left)
move_of (move.Restore v t u) = Restore v.0 t u.0
move_of (move.Release v t) = Release v.0 t
move_of (move.Store v t u last) = Store v.0 t u.0 last
move_of (move.Strike v t last) = Strike v.0 t last
move_of (move.Suspend v busy) = Suspend v.0 busy
move_of (move.MakeSecondary v u kind state) = MakeSecondary v.0 u.0 kind state
move_of (move.MakePrimary v u kind state full) = MakePrimary v.0 u.0 kind state full
move_of (move.DropPrimary v) = DropPrimary v.0
move_of (move.DropSecondary v) = DropSecondary v.0
move_of (move.Follow v state) = Follow v.0 state
move_of (move.Resume v state) = Resume v.0 state
move_of (move.TakeOver v) = TakeOver v.0
move_of (move.LeavePrimary v) = LeavePrimary v.0
move_of (move.FallBack v more state) = FallBack v.0 more state
move_of (move.Yield v u kind state) = Yield v.0 u.0 kind state
move_of (move.Unsync v t) = Unsync v.0 t
move_of (move.Mirror v t u w) = Mirror v.0 t u.0 w.0
move_of (move.LandBoth w v t) = LandBoth w.0 v.0 t
move_of (move.Thaw v) = Thaw v.0
move_of (move.FlashHold v) = FlashHold v.0
move_of (move.FlashFree v) = FlashFree v.0
move_of (move.Lift v) = Lift v.0
move_of (move.Restart v) = Restart v.0
move_of (move.Hold v s n first) = Hold v.0 s.0 n first
move_of (move.Free v) = Free v.0
move_of (move.Seal v u s n) = Seal v.0 u.0 s.0 n
move_of (move.Finish v n) = Finish v.0 n
move_of (move.RaiseAttempt v n) = RaiseAttempt v.0 n
move_of (move.RaiseFloor v n) = RaiseFloor v.0 n
move_of (move.Leave v u s) = Leave v.0 u.0 s.0
move_of (move.Flash v u a s n) = Flash v.0 u.0 a.0 s.0 n
move_of (move.Commit v a s n) = Commit v.0 a.0 s.0 n
move_of (move.Revert v a s n) = Revert v.0 a.0 s.0 n

-- a volume with so many tracks and these fields, whatever else it has
abbrev pub volume_with : ℕ → Fields → Volume
volume_with n f = record { server = 0; tracks = n; slot = false; fields = f; staged = None }

-- the track that the move brings new bytes to, or notes, is below n
abbrev pub IsBelow : ℕ → machine.Move → Type 0
IsBelow n (Land w v t) = t < n
IsBelow n (Overwrite w v t) = t < n
IsBelow n (Keep v t) = t < n
IsBelow n (Note v t) = t < n
IsBelow n (Fetch v t) = t < n
IsBelow n (Restore v t u) = t < n
IsBelow n (Store v t u last) = t < n
IsBelow n (Unsync v t) = t < n
IsBelow n (Mirror v t u w) = t < n
IsBelow n (LandBoth w v t) = t < n
IsBelow n _ = Unit {0}
