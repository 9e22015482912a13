-- Forms of steps.
use Rattle.std.specs.Prelude.{Bool, true, false, ◌||◌}
use Rattle.dr_model.specs.declared.step.Step.{Step}
use Rattle.dr_model.specs.declared.step.Step.TheVariants.{Server, Volume, Link, Stop, StopAfter, Start, Issue, Write, Apply, Show, MakePath, RemovePath, Expire, Freeze, Unfreeze, MakeFlash, RemoveFlash, ResyncFlash, ReverseFlash, UnfreezeFlash, Copy, Destage, MakePair, RemovePair, PausePair, ResumePair, Drain, MakeSession, RemoveSession, AddMember, RemoveMember, MakeMirror, PauseMirror, ResumeMirror, RemoveMirror, Abort, Exchange, Send, Deliver, Lose, Recover, CommitFlash, RevertFlash, ListPairs, ListFlashes, ListSession, ShowMirror}

-- those that define servers, volumes and links, those on paths, and freezes and thaws of pairs
abbrev pub is_defining : Step → Bool
is_defining (Server name) = true
is_defining (Volume v name tracks) = true
is_defining (Link a b up) = true
is_defining (MakePath devs src tgt group) = true
is_defining (RemovePath devs src tgt force) = true
is_defining (Freeze devs l m) = true
is_defining (Unfreeze devs l m) = true
is_defining _ = false

-- host writes, what shows a track, and those on a server as it runs: its stop, its fuse, its start, the end of its holds
abbrev pub is_hosted : Step → Bool
is_hosted (Issue v t offset len bytes) = true
is_hosted (Write v t offset len bytes) = true
is_hosted (Apply n) = true
is_hosted (Show v t) = true
is_hosted (Stop name) = true
is_hosted (StopAfter name writes torn) = true
is_hosted (Start name) = true
is_hosted (Expire name) = true
is_hosted _ = false

-- listings
abbrev pub is_listing : Step → Bool
is_listing (ListPairs devs v) = true
is_listing (ListFlashes devs v) = true
is_listing (ListSession devs l) = true
is_listing (ShowMirror devs l) = true
is_listing _ = false

-- all of these
abbrev pub is_plain : Step → Bool
is_plain step = is_defining step || (is_hosted step || is_listing step)

-- those on FlashCopy relationships and flash holds, and of staged tracks
abbrev pub is_relation : Step → Bool
is_relation (MakeFlash devs s t nocopy persistent recorded inhibited freeze sequence) = true
is_relation (RemoveFlash devs s t sequence) = true
is_relation (ResyncFlash devs s t nocopy persistent recorded inhibited sequence) = true
is_relation (ReverseFlash devs s t tgtpprc sequence) = true
is_relation (UnfreezeFlash devs l) = true
is_relation (Copy t most) = true
is_relation (Destage v) = true
is_relation _ = false

-- those on pairs that stay as they lie
abbrev pub is_pair : Step → Bool
is_pair (MakePair devs a b kind choices) = true
is_pair (RemovePair devs a b source_only) = true
is_pair (PausePair devs a b) = true
is_pair (ResumePair devs a b kind) = true
is_pair (Drain a most) = true
is_pair _ = false

-- those on sessions, their members, their masters and their messages
abbrev pub is_session : Step → Bool
is_session (MakeSession devs l s) = true
is_session (RemoveSession devs l s) = true
is_session (AddMember devs l a s) = true
is_session (RemoveMember devs l a s) = true
is_session (MakeMirror devs l s cginterval coordinate drain) = true
is_session (PauseMirror devs l s) = true
is_session (ResumeMirror devs l s cginterval coordinate drain) = true
is_session (RemoveMirror devs l s) = true
is_session (Abort s) = true
is_session (Exchange s name reply) = true
is_session (Send s name) = true
is_session (Deliver n) = true
is_session (Lose n) = true
is_session _ = false

-- recoveries, and commits and reverts by hand
abbrev pub is_recovery : Step → Bool
is_recovery (Recover s) = true
is_recovery (CommitFlash devs source sequence) = true
is_recovery (RevertFlash devs source sequence) = true
is_recovery _ = false
