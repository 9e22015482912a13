-- An example: one Global Copy pair under Global Mirror. A write comes after group 1, and then the first site is lost.
use Rattle.std.specs.Prelude.{ℕ, true, false, List, [], ◌∷◌, ◌++◌, None, Ok}
use Rattle.dr_ids.specs.declared.names.Member.{Member}
use Rattle.dr_model.specs.declared.step.Name.{Name}
use Rattle.dr_model.specs.declared.step.Devs.{Devs}
use Rattle.dr_model.specs.declared.step.Step.{Step}
use Rattle.dr_model.specs.declared.step.Step.TheVariants.{Server, Volume, MakePath, MakePair, MakeFlash, MakeSession, AddMember, MakeMirror, Write, Exchange, Stop, Recover}
use Rattle.dr_model.specs.Runs.{Task}
use Rattle.dr_lost.specs.declared.lost.Pair.{Pair}

-- the server of the first site
abbrev pub name_a : Name
name_a = record { len = 1; bytes = 65 ∷ [] }

-- that of the second one
abbrev pub name_b : Name
name_b = record { len = 1; bytes = 66 ∷ [] }

-- no server is named
abbrev pub no_names : Devs
no_names = record { dev = None; remotedev = None }

-- a step of a line
abbrev pub task : ℕ → Step → Task
task line step = record { line = line; asked = Ok step; listed = [] }

-- primary 256 at the first site, its secondary 512 and the target 768 of that at the second one
abbrev pub volumes : List Task
volumes =
    task 1 (Server name_a)
    ∷ task 2 (Server name_b)
    ∷ task 3 (Volume 256 name_a 1)
    ∷ task 4 (Volume 512 name_b 1)
    ∷ task 5 (Volume 768 name_b 1) ∷ []

-- the pair, its target, and session 1 with its master
abbrev pub pairs_made : List Task
pairs_made =
    task 6 (MakePath no_names 1 2 false)
    ∷ task 7 (MakePair no_names 256 512 0 (record { full = false; cascade = false }))
    ∷ task 8 (MakeFlash no_names 512 768 true true true true false None)
    ∷ task 9 (MakeSession no_names 1 1)
    ∷ task 10 (AddMember no_names 1 256 1)
    ∷ task 11 (MakeMirror no_names 1 1 None None None) ∷ []

-- server A carries out what the master asks of it: it holds the primary, lets it go, seals, flashes, commits and ends the attempt
abbrev pub exchange : ℕ → Task
exchange line = task line (Exchange 1 name_a true)

-- up to the seal
abbrev pub unsealed : List Task
unsealed = exchange 12 ∷ exchange 13 ∷ []

-- after it; and then write 1, and the first site is lost
abbrev pub work : List Task
work =
    exchange 15
    ∷ exchange 16
    ∷ exchange 17
    ∷ task 18 (Write 256 0 0 1 (1 ∷ []))
    ∷ task 19 (Stop name_a) ∷ []

-- all that comes before the recovery
abbrev pub before : List Task
before = volumes ++ pairs_made ++ unsealed ++ exchange 14 ∷ work

-- the recovery
abbrev pub recover : Task
recover = task 20 (Recover 1)

-- the target is used in the place of the primary
abbrev pub pairs : List Pair
pairs = record { second = 256; first = 768 } ∷ []

-- the session's member
abbrev pub member : Member
member = record { a = record { 0 = 256 }; b = record { 0 = 512 }; c = record { 0 = 768 }; server = record { 0 = 0 } }

-- ---- another one: a byte that was there is written, and then the pair is made without a copy

-- up to the seal
abbrev pub written : List Task
written = volumes ++ task 21 (Write 256 0 0 1 (0 ∷ [])) ∷ pairs_made ++ unsealed

-- after it; and then the first site is lost
abbrev pub unwritten : List Task
unwritten = exchange 15 ∷ exchange 16 ∷ exchange 17 ∷ task 19 (Stop name_a) ∷ []

-- all that comes before the recovery
abbrev pub uncopied : List Task
uncopied = written ++ exchange 14 ∷ unwritten
