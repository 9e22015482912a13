-- Steps as a line can give them.
use Rattle.std.specs.Prelude.{◌+◌, ◌≤◌, Option, Some, None}
use Rattle.dr_model.specs.declared.step.Name.{Name}
use Rattle.dr_model.specs.declared.step.Devs.{Devs}
use Rattle.dr_model.specs.declared.step.Step.{Step}
use Rattle.dr_model.specs.declared.step.Step.TheVariants.{Server, Volume, Link, Stop, StopAfter, Start, Issue, Write, MakeFlash, RemoveFlash, ResyncFlash, ReverseFlash, UnfreezeFlash, MakePath, RemovePath, MakePair, RemovePair, PausePair, ResumePair, Failover, Failback, Expire, Freeze, Unfreeze, MakeSession, RemoveSession, AddMember, RemoveMember, MakeMirror, PauseMirror, ResumeMirror, RemoveMirror, Exchange, Send, CommitFlash, RevertFlash, ListPairs, ListFlashes, ListSession, ShowMirror}

-- a name has 1 to 24 bytes
abbrev pub FitsName : Name → Type 0
FitsName n = (1 ≤ n.len) × (n.len ≤ 24)

-- so has the name of a server, where one is given
abbrev pub FitsOwner : Option Name → Type 0
FitsOwner None = Unit {0}
FitsOwner (Some n) = FitsName n

-- and those of two servers
abbrev pub FitsDevs : Devs → Type 0
FitsDevs d = FitsOwner d.dev × FitsOwner d.remotedev

-- names fit, and the bytes of a write, one at least, lie in one track
abbrev pub IsWellFormed : Step → Type 0
IsWellFormed (Server name) = FitsName name
IsWellFormed (Volume v name tracks) = FitsName name
IsWellFormed (Link a b up) = FitsName a × FitsName b
IsWellFormed (Stop name) = FitsName name
IsWellFormed (StopAfter name writes torn) = FitsName name
IsWellFormed (Start name) = FitsName name
IsWellFormed (Expire name) = FitsName name
IsWellFormed (Issue v t offset len bytes) = (1 ≤ len) × (offset + len ≤ 64)
IsWellFormed (Write v t offset len bytes) = (1 ≤ len) × (offset + len ≤ 64)
IsWellFormed (MakeFlash devs s t nocopy persistent recorded inhibited freeze sequence) = FitsOwner devs.dev
IsWellFormed (RemoveFlash devs s t sequence) = FitsOwner devs.dev
IsWellFormed (ResyncFlash devs s t nocopy persistent recorded inhibited sequence) = FitsOwner devs.dev
IsWellFormed (ReverseFlash devs s t tgtpprc sequence) = FitsOwner devs.dev
IsWellFormed (UnfreezeFlash devs l) = FitsOwner devs.dev
IsWellFormed (MakePath devs src tgt group) = FitsDevs devs
IsWellFormed (RemovePath devs src tgt force) = FitsDevs devs
IsWellFormed (Freeze devs l m) = FitsDevs devs
IsWellFormed (Unfreeze devs l m) = FitsDevs devs
IsWellFormed (MakePair devs a b kind choices) = FitsDevs devs
IsWellFormed (RemovePair devs a b source_only) = FitsDevs devs
IsWellFormed (PausePair devs a b) = FitsDevs devs
IsWellFormed (ResumePair devs a b kind) = FitsDevs devs
IsWellFormed (Failover devs b a kind) = FitsDevs devs
IsWellFormed (Failback devs x y kind) = FitsDevs devs
IsWellFormed (MakeSession devs l s) = FitsOwner devs.dev
IsWellFormed (RemoveSession devs l s) = FitsOwner devs.dev
IsWellFormed (AddMember devs l a s) = FitsOwner devs.dev
IsWellFormed (RemoveMember devs l a s) = FitsOwner devs.dev
IsWellFormed (MakeMirror devs l s cginterval coordinate drain) = FitsOwner devs.dev
IsWellFormed (PauseMirror devs l s) = FitsOwner devs.dev
IsWellFormed (ResumeMirror devs l s cginterval coordinate drain) = FitsOwner devs.dev
IsWellFormed (RemoveMirror devs l s) = FitsOwner devs.dev
IsWellFormed (Exchange s name reply) = FitsName name
IsWellFormed (Send s name) = FitsName name
IsWellFormed (CommitFlash devs source sequence) = FitsOwner devs.dev
IsWellFormed (RevertFlash devs source sequence) = FitsOwner devs.dev
IsWellFormed (ListPairs devs v) = FitsOwner devs.dev
IsWellFormed (ListFlashes devs v) = FitsOwner devs.dev
IsWellFormed (ListSession devs l) = FitsOwner devs.dev
IsWellFormed (ShowMirror devs l) = FitsOwner devs.dev
IsWellFormed _ = Unit {0}
