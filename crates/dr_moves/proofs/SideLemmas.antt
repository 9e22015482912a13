-- The entries of side blocks that a move leaves follow those of the volume before it: one is taken at most, and none names another track.
use Rattle.std.specs.Prelude.{if◌then◌else◌}
use Rattle.dr_model.specs.Layout.{with_entry, free_entries}
use Rattle.dr_model.specs.Lawful.{EntriesFollow}
use Rattle.dr_model.specs.Pairs.{is_engaged, saves_track}
use Rattle.dr_model.specs.Control.{Volume}
use Rattle.dr_model.specs.Moves.{Move, Land, Overwrite, Keep, Note, Relate, Withdraw, Fetch, Resync, Reverse, Restore, Release, Store, Strike, Suspend, MakeSecondary, MakePrimary, DropPrimary, DropSecondary, Follow, Resume, TakeOver, LeavePrimary, FallBack, Yield, Unsync, Mirror, LandBoth, Thaw, FlashHold, FlashFree, Lift, Restart, Hold, Free, Seal, Finish, RaiseAttempt, RaiseFloor, Leave, Flash, Commit, Revert, Unstage, fields_left}
use Rattle.dr_model.proofs.EntryLemmas.{follows-same, follows-free, follows-without, follows-with, follows-if}

follows-void : (u : Volume) → EntriesFollow u.fields.entries (if is_engaged u.fields then free_entries else u.fields.entries)
follows-void u = follows-if (is_engaged u.fields) free_entries u.fields.entries (follows-free u.fields.entries)

pub entries-follow : (m : Move) (u : Volume) → EntriesFollow u.fields.entries (fields_left m u).entries
entries-follow (Land w v t) u = follows-if (saves_track u.fields t) (with_entry u.fields.entries t) u.fields.entries (follows-with t u.fields.entries)
entries-follow (Overwrite w v t) u = follows-same u.fields.entries
entries-follow (Keep v t) u = follows-same u.fields.entries
entries-follow (Note v t) u = follows-same u.fields.entries
entries-follow (Relate v s choices) u = follows-same u.fields.entries
entries-follow (Withdraw v) u = follows-same u.fields.entries
entries-follow (Fetch v t) u = follows-same u.fields.entries
entries-follow (Resync v sequence) u = follows-same u.fields.entries
entries-follow (Reverse v left) u = follows-same u.fields.entries
entries-follow (Restore v t from) u = follows-same u.fields.entries
entries-follow (Release v t) u = follows-same u.fields.entries
entries-follow (Store v t from last) u = follows-if (saves_track u.fields t) (with_entry u.fields.entries t) u.fields.entries (follows-with t u.fields.entries)
entries-follow (Strike v t last) u = follows-without t u.fields.entries
entries-follow (Suspend v busy) u = follows-void u
entries-follow (MakeSecondary v a kind state) u = follows-same u.fields.entries
entries-follow (MakePrimary v b kind state full) u = follows-free u.fields.entries
entries-follow (DropPrimary v) u = follows-free u.fields.entries
entries-follow (DropSecondary v) u = follows-same u.fields.entries
entries-follow (Follow v state) u = follows-same u.fields.entries
entries-follow (Resume v state) u = follows-same u.fields.entries
entries-follow (TakeOver v) u = follows-free u.fields.entries
entries-follow (LeavePrimary v) u = follows-same u.fields.entries
entries-follow (FallBack v more state) u = follows-void u
entries-follow (Yield v a kind state) u = follows-free u.fields.entries
entries-follow (Unsync v t) u = follows-same u.fields.entries
entries-follow (Mirror v t from w) u = follows-if (saves_track u.fields t) (with_entry u.fields.entries t) u.fields.entries (follows-with t u.fields.entries)
entries-follow (LandBoth w v t) u = follows-same u.fields.entries
entries-follow (Thaw v) u = follows-same u.fields.entries
entries-follow (FlashHold v) u = follows-same u.fields.entries
entries-follow (FlashFree v) u = follows-same u.fields.entries
entries-follow (Lift v) u = follows-if u.fields.coordination free_entries u.fields.entries (follows-free u.fields.entries)
entries-follow (Restart v) u = follows-void u
entries-follow (Hold v s n first) u = follows-same u.fields.entries
entries-follow (Free v) u = follows-same u.fields.entries
entries-follow (Seal v a s n) u = follows-same u.fields.entries
entries-follow (Finish v n) u = follows-void u
entries-follow (RaiseAttempt v n) u = follows-same u.fields.entries
entries-follow (RaiseFloor v n) u = follows-same u.fields.entries
entries-follow (Leave v a s) u = follows-same u.fields.entries
entries-follow (Flash v from a s n) u = follows-same u.fields.entries
entries-follow (Commit v a s n) u = follows-same u.fields.entries
entries-follow (Revert v a s n) u = follows-same u.fields.entries
entries-follow (Unstage v) u = follows-same u.fields.entries
