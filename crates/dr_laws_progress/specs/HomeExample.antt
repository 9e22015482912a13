-- An example of the way home: two sites, a recovery, and the five lines after it.
use Rattle.std.specs.Prelude.{Bool, ℕ, true, false, List, [], ◌∷◌, ◌++◌, None, Ok}
use Rattle.std.proofs.Common.{refl}
use Rattle.dr_ids.specs.declared.names.Member.{Member}
use Rattle.dr_model.specs.declared.step.Name.{Name}
use Rattle.dr_model.specs.declared.step.PairChoices.{PairChoices}
use Rattle.dr_model.specs.declared.step.Step.{Step}
use Rattle.dr_model.specs.declared.step.Step.TheVariants.{Server, Volume, MakePath, MakePair, MakeFlash, MakeSession, AddMember, Recover, PausePair, ResumePair, Failback, Failover, Drain}
use Rattle.dr_model.specs.Sessions.{Session}
use Rattle.dr_model.specs.Runs.{Task}
use Rattle.dr_laws_progress.specs.Home.{unnamed, HomeLines, ResumeLine}

-- a server's name of one letter
abbrev pub named : ℕ → Name
named letter = record { len = 1; bytes = letter ∷ [] }

-- a step of a run
abbrev pub step : Step → Task
step s = record { line = 1; asked = Ok s; listed = [] }

-- a pair is made without a copy, maybe with its primary cascaded
abbrev pub uncopied : Bool → PairChoices
uncopied cascade = record { full = false; cascade = cascade }

-- Volume 1000 on server A, and 2000 and 3000 on server B, by hexadecimal numbers, of one track each. There are paths both ways. 2000 is the Global
-- Copy secondary of 1000, and 3000 its target. 1000 is a member of session 1.
abbrev pub two_sites : List Task
two_sites =
    step (Server (named 65)) ∷ step (Server (named 66))
    ∷ step (Volume 4096 (named 65) 1) ∷ step (Volume 8192 (named 66) 1) ∷ step (Volume 12288 (named 66) 1)
    ∷ step (MakePath unnamed 16 32 false) ∷ step (MakePath unnamed 32 16 false)
    ∷ step (MakePair unnamed 4096 8192 2 (uncopied false))
    ∷ step (MakeFlash unnamed 8192 12288 true true true true false None)
    ∷ step (MakeSession unnamed 16 1) ∷ step (AddMember unnamed 16 4096 1)
    ∷ []

-- the session is recovered: its secondary is taken over
abbrev pub after_recovery : List Task
after_recovery = two_sites ++ step (Recover 1) ∷ []

-- the way home of its member
abbrev pub lines_home : HomeLines 4096 8192
lines_home = record {
  turn = step (Failback unnamed 8192 4096 2);
  turn_is = refl;
  send = step (Drain 8192 None);
  send_is = refl;
  over = step (Failover unnamed 4096 8192 2);
  over_is = refl;
  home = step (Failback unnamed 4096 8192 2);
  home_is = refl;
  last = step (Drain 4096 None);
  last_is = refl;
}

-- the pair is turned round
abbrev pub after_turn : List Task
after_turn = after_recovery ++ lines_home.turn ∷ []

-- and is Suspended
abbrev pub after_pause : List Task
after_pause = after_turn ++ step (PausePair unnamed 8192 4096) ∷ []

-- the line that lets it go on
abbrev pub resume : ResumeLine 8192 4096
resume = record { task = step (ResumePair unnamed 8192 4096 2); is = refl }

-- the session's member
abbrev pub its_member : Member
its_member = record { a = record { 0 = 4096 }; b = record { 0 = 8192 }; c = record { 0 = 12288 }; server = record { 0 = 0 } }

-- and the session
abbrev pub its_session : Session
its_session = record { number = 1; subsystems = (record { 0 = 16 }) ∷ []; members = its_member ∷ []; last = 0; mirror = None }

-- Volume 1000 on server A, 2000 on B, and 3000 and 4000 on C. 2000 is the Metro Mirror secondary of 1000 and the Global Copy primary of 3000, whose target
-- is 4000. 2000 is a member of session 1, which is recovered then.
abbrev pub three_sites : List Task
three_sites =
    step (Server (named 65)) ∷ step (Server (named 66)) ∷ step (Server (named 67))
    ∷ step (Volume 4096 (named 65) 1) ∷ step (Volume 8192 (named 66) 1) ∷ step (Volume 12288 (named 67) 1) ∷ step (Volume 16384 (named 67) 1)
    ∷ step (MakePath unnamed 16 32 false) ∷ step (MakePath unnamed 32 48 false) ∷ step (MakePath unnamed 48 32 false)
    ∷ step (MakePair unnamed 4096 8192 1 (uncopied false)) ∷ step (MakePair unnamed 8192 12288 2 (uncopied true))
    ∷ step (MakeFlash unnamed 12288 16384 true true true true false None)
    ∷ step (MakeSession unnamed 32 1) ∷ step (AddMember unnamed 32 8192 1) ∷ step (Recover 1)
    ∷ []

-- the first line of its member's way home
abbrev pub turn_cascaded : Task
turn_cascaded = step (Failback unnamed 12288 8192 2)
