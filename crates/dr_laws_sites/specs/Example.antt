-- Examples: a run over three sites up to a hold, one with a committed group, and what the second site's volume may show.
use Rattle.std.specs.Prelude.{ℕ, Bool, true, false, List, [], ◌∷◌, ◌++◌, take, Some, None, Ok, nat_eq, if◌then◌else◌}
use Rattle.std.specs.FinSet.{empty, insert}
use Rattle.std.specs.List.{slice_get}
use Rattle.std.specs.Option.{unwrap_or}
use Rattle.dr_ids.specs.declared.names.Member.{Member}
use Rattle.dr_ids.specs.declared.refusal.PhaseName.TheVariants.{Idle}
use Rattle.dr_model.specs.declared.event.Event.{Event}
use Rattle.dr_model.specs.declared.event.Event.TheVariants.{Issue, Ack, Mirrored}
use Rattle.dr_model.specs.declared.step.Devs.{Devs}
use Rattle.dr_model.specs.declared.step.Name.{Name}
use Rattle.dr_model.specs.declared.step.PairChoices.{PairChoices}
use Rattle.dr_model.specs.declared.step.Step.{Step}
use Rattle.dr_model.specs.declared.step.Step.TheVariants.{Server, Volume, MakePath, MakePair, MakeFlash, MakeSession, AddMember, MakeMirror, Write, Drain, Exchange}
use Rattle.dr_model.specs.declared.state.Part.TheVariants.{Metro, Global}
use Rattle.dr_model.specs.declared.state.PairState.TheVariants.{FullDuplex, CopyPending}
use Rattle.dr_model.specs.Layout.{Tracks, no_fields}
use Rattle.dr_model.specs.Control.{Pending, World, nothing, no_control, new_volume}
use Rattle.dr_model.specs.Sessions.{Session}
use Rattle.dr_model.specs.Runs.{Task, run}
use Rattle.dr_laws_freezes.specs.Moments.{task_moments, moments}

-- a server's name of one letter
abbrev pub named : ℕ → Name
named letter = record { len = 1; bytes = letter ∷ [] }

-- no server is named
abbrev pub unnamed : Devs
unnamed = record { dev = None; remotedev = None }

-- a pair is made without a copy, maybe with its primary cascaded
abbrev pub uncopied : Bool → PairChoices
uncopied cascade = record { full = false; cascade = cascade }

-- a step of a run
abbrev pub step : Step → Task
step s = record { line = 1; asked = Ok s; listed = [] }

-- Volume 1000 on server A, 2000 on server B, and 3000 and 4000 on server C, by hexadecimal numbers. 2000 is the Metro Mirror secondary of 1000 and
-- the Global Copy primary of 3000, whose FlashCopy target is 4000. Session 1 has 2000 as its member, and a master.
abbrev pub prepared : List Task
prepared =
    step (Server (named 65)) ∷ step (Server (named 66)) ∷ step (Server (named 67))
    ∷ step (Volume 4096 (named 65) 1) ∷ step (Volume 8192 (named 66) 1) ∷ step (Volume 12288 (named 67) 1) ∷ step (Volume 16384 (named 67) 1)
    ∷ step (MakePath unnamed 16 32 false) ∷ step (MakePath unnamed 32 48 false)
    ∷ step (MakePair unnamed 4096 8192 1 (uncopied false)) ∷ step (MakePair unnamed 8192 12288 2 (uncopied true))
    ∷ step (MakeFlash unnamed 12288 16384 true true true true false None)
    ∷ step (MakeSession unnamed 32 1) ∷ step (AddMember unnamed 32 8192 1) ∷ step (MakeMirror unnamed 32 1 None None None)
    ∷ []

-- server B carries out what the master asks of it
abbrev pub exchange : Task
exchange = step (Exchange 1 (named 66) true)

-- a run up to the hold of 2000 for the first attempt
abbrev pub three_sites : List Task
three_sites = prepared ++ exchange ∷ []

-- the moment of the hold in that run
abbrev pub cut_moment : World
cut_moment = unwrap_or (slice_get (moments three_sites) 37) nothing

-- ---- a group that is committed

-- the host writes this byte on track 0 of volume 1000
abbrev pub wrote : ℕ → Task
wrote b = step (Write 4096 0 0 1 (b ∷ []))

-- what 2000 has out of sync is sent to 3000
abbrev pub drain : Task
drain = step (Drain 8192 None)

-- up to the hold: the host writes an a, which is mirrored to 2000; and there the track is out of sync
abbrev pub before_hold : List Task
before_hold = prepared ++ wrote 97 ∷ []

-- 2000 is held for the first attempt and let go; the track is sent to 3000, which is sealed; 4000 is flashed and committed; and the attempt ends. Then
-- the host writes a b.
abbrev pub committed_group : List Task
committed_group = before_hold ++ exchange ∷ exchange ∷ drain ∷ exchange ∷ exchange ∷ exchange ∷ exchange ∷ wrote 98 ∷ []

-- the moment of the hold in that run, after the first act of its step
abbrev pub hold_moment : World
hold_moment = unwrap_or (slice_get (task_moments (run before_hold) exchange) 1) nothing

-- what the journal of the run has before the cut
abbrev pub cut_front : List Event
cut_front = take 28 (run committed_group).events

-- the session's member
abbrev pub its_member : Member
its_member = record { a = record { 0 = 8192 }; b = record { 0 = 12288 }; c = record { 0 = 16384 }; server = record { 0 = 1 } }

-- the session as the run ends
abbrev pub its_session : Session
its_session = record {
  number = 1;
  subsystems = (record { 0 = 32 }) ∷ [];
  members = its_member ∷ [];
  last = 1;
  mirror = Some (record { server = 1; paused = false; master = record { phase = Idle; number = 1; servers = 1 ∷ []; owed = []; reports = [] } });
}

-- ---- what the second site's volume may show

-- this track alone
abbrev pub only : ℕ → Tracks
only t = insert empty t

-- Volume 1000 is the Full Duplex primary of 2000, which is cascaded; each has two tracks. These tracks are out of sync, these writes are pending,
-- and this is the journal.
abbrev pub sites : Tracks → List Pending → List Event → World
sites out pending events = record nothing {
  control = record no_control {
    servers = (65 ∷ []) ∷ (66 ∷ []) ∷ (67 ∷ []) ∷ [];
    volumes = 4096 ∷ 8192 ∷ 12288 ∷ [];
    volume = λ v.
        if nat_eq v 4096 then record (new_volume 0 2) { fields = record no_fields { primary = Metro; primary_state = FullDuplex; primary_partner = 8192; out_of_sync = out } }
        else if nat_eq v 8192 then record (new_volume 1 2) { fields = record no_fields { primary = Global; primary_state = CopyPending; primary_partner = 12288; secondary = Metro; secondary_state = FullDuplex; secondary_partner = 4096 } }
        else record (new_volume 2 2) { fields = record no_fields { secondary = Global; secondary_state = CopyPending; secondary_partner = 8192 } };
    issued = 1;
    pending = pending;
  };
  events = events;
}

-- the host writes an a on track 0 of volume 1000
abbrev pub issue : Event
issue = Issue 1 4096 0 0 1 (97 ∷ [])

-- this write, where it is pending
abbrev pub first_write : Bool → Pending
first_write landed = record { w = 1; volume = 4096; track = 0; landed = landed }

-- both volumes have it, the first one alone, or the second one alone
abbrev pub both_have : List Event
both_have = issue ∷ Mirrored 1 8192 ∷ Ack 1 ∷ []

abbrev pub first_has : List Event
first_has = issue ∷ Ack 1 ∷ []

abbrev pub second_has : List Event
second_has = issue ∷ Mirrored 1 8192 ∷ []
