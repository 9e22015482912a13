-- Examples: a run in which the second site takes over and the pair is turned round, and what is compared and shown after it.
use Rattle.std.specs.Prelude.{ℕ, false, List, [], ◌∷◌, ◌++◌, None}
use Rattle.dr_model.specs.declared.step.Step.TheVariants.{Server, Volume, MakePath, MakePair, Failover, Failback, Drain, Compare, Show, Write}
use Rattle.dr_model.specs.Runs.{Task}
use Rattle.dr_laws_sites.specs.Example.{named, unnamed, uncopied, step}

-- the host writes this byte on this track of this volume
abbrev pub writes : ℕ → ℕ → ℕ → Task
writes v t b = step (Write v t 0 1 (b ∷ []))

-- Volume 1000 on server A and 2000 on server B, by hexadecimal numbers, with two tracks each, and a path either way. 2000 is the Metro Mirror
-- secondary of 1000. It is taken over, and the host writes a b on its track 1.
abbrev pub taken_over : List Task
taken_over =
    step (Server (named 65)) ∷ step (Server (named 66))
    ∷ step (Volume 4096 (named 65) 2) ∷ step (Volume 8192 (named 66) 2)
    ∷ step (MakePath unnamed 16 32 false) ∷ step (MakePath unnamed 32 16 false)
    ∷ step (MakePair unnamed 4096 8192 1 (uncopied false))
    ∷ step (Failover unnamed 8192 4096 1)
    ∷ writes 8192 1 98
    ∷ []

-- the pair goes on from 2000 to 1000
abbrev pub fails_back : Task
fails_back = step (Failback unnamed 8192 4096 1)

-- all tracks that 2000 has out of sync are sent
abbrev pub drains : Task
drains = step (Drain 8192 None)

-- both steps after the host's write
abbrev pub way_home : List Task
way_home = taken_over ++ fails_back ∷ drains ∷ []

-- ---- what is compared and shown

-- the two volumes are compared, as a step of its own
abbrev pub compares : Task
compares = step (Compare 4096 8192)

-- that comes last on the way home
abbrev pub compared_home : List Task
compared_home = way_home ++ compares ∷ []

-- or right after the host's write
abbrev pub compared_apart : List Task
compared_apart = taken_over ++ compares ∷ []

-- track 1 of 1000 is shown, as a step of its own
abbrev pub shows : Task
shows = step (Show 4096 1)

-- that comes last on the way home
abbrev pub shown_home : List Task
shown_home = way_home ++ shows ∷ []
