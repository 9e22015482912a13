-- The script of a trial: a fixed head, rounds that are drawn from a number, and a fixed end.
use Rattle.std.specs.Prelude.{ℕ, suc, zero, ◌+◌, ◌-◌, ◌*◌, ◌/◌, ◌%◌, ◌^◌, List, [], ◌∷◌, ◌++◌, nat_eq, nat_lt, codes, if◌then◌else◌}
use Rattle.std.specs.Fmt.{decimal}
use Rattle.dr_ids.specs.Spelling.{hex2}
use Rattle.dr_gen.specs.declared.rounds.Round.{Round}
use Rattle.dr_gen.specs.declared.rounds.Round.TheVariants.{Write, Drain, Exchange, Abort, Restart, Run}

-- the draws, as a sequence of numbers: each comes from the one before
unfoldable pub next : ℕ → ℕ
next x = (1664525 * x + 1013904223) % 2 ^ 32

-- the number that stands so many draws behind x
abbrev pub after_draws : ℕ → ℕ → ℕ
after_draws x zero = x
after_draws x (suc k) = next (after_draws x k)

-- what the k-th draw behind x gives, which is one of m numbers
abbrev pub draw : ℕ → ℕ → ℕ → ℕ
draw x k m = (after_draws x k / 65536) % m

-- what the draws behind x say of a round: its kind is one of ten, and what it takes is drawn in order
unfoldable pub round_at : ℕ → Round
round_at x =
    let kind : ℕ = draw x 1 10 in
    if nat_lt kind 5 then Write (draw x 2 4) (draw x 3 4) (draw x 4 64) (draw x 5 256)
    else if nat_eq kind 5 then Drain (draw x 2 4)
    else if nat_lt kind 8 then Exchange (draw x 2 2)
    else if nat_eq kind 8 then Abort
    else if nat_eq (draw x 2 8) 0 then Restart (draw x 3 2)
    else Run

-- how many draws a round takes
abbrev pub draws_of : Round → ℕ
draws_of (Write volume track offset byte) = 5
draws_of (Drain volume) = 2
draws_of (Exchange server) = 2
draws_of Abort = 1
draws_of (Restart server) = 3
draws_of Run = 2

-- so many rounds, each of the draws behind those of the one before
unfoldable pub rounds : ℕ → ℕ → List Round
rounds x zero = []
rounds x (suc n) = round_at x ∷ rounds (after_draws x (draws_of (round_at x))) n

-- the primary volumes and their servers, counted from 0
abbrev pub volume_word : ℕ → List ℕ
volume_word v = if nat_eq v 0 then codes "1000" else if nat_eq v 1 then codes "1001" else if nat_eq v 2 then codes "1100" else codes "1101"

-- the name of a server of a trial
abbrev pub server_word : ℕ → List ℕ
server_word s = if nat_eq s 0 then codes "A1" else codes "A2"

-- the lines of a round
unfoldable pub round_lines : Round → List (List ℕ)
round_lines (Write volume track offset byte) = (codes "@write " ++ volume_word volume ++ codes " " ++ decimal track ++ codes " " ++ decimal offset ++ codes " " ++ hex2 byte) ∷ []
round_lines (Drain volume) = (codes "@drain " ++ volume_word volume ++ codes " all") ∷ []
round_lines (Exchange server) = (codes "@exchange 01 " ++ server_word server) ∷ []
round_lines Abort = codes "@abort 01" ∷ []
round_lines (Restart server) = (codes "@stop " ++ server_word server) ∷ (codes "@start " ++ server_word server) ∷ []
round_lines Run = codes "@run 01 1" ∷ []

-- how many writes a round makes
abbrev pub writes_of : Round → ℕ
writes_of (Write volume track offset byte) = 1
writes_of _ = 0

-- behind each write from the 33rd on, the one that was issued 32 writes before is tried again; the round's write is the j-th
abbrev pub tried_again : ℕ → Round → List (List ℕ)
tried_again j (Write volume track offset byte) = if nat_lt 32 j then (codes "@apply " ++ decimal (j - 32)) ∷ [] else []
tried_again j _ = []

-- the lines of rounds, before which so many writes stand
unfoldable pub lines_of : ℕ → List Round → List (List ℕ)
lines_of writes [] = []
lines_of writes (round ∷ rest) = round_lines round ++ tried_again (writes + 1) round ++ lines_of (writes + writes_of round) rest

-- lines, each with its line feed
abbrev pub ended : List (List ℕ) → List ℕ
ended [] = []
ended (line ∷ lines) = line ++ 10 ∷ ended lines

-- two servers with two primary volumes each, their pairs, the FlashCopy relationships of the secondaries, and a session
unfoldable pub head : List (List ℕ)
head =
    codes "@server A1" ∷
    codes "@server A2" ∷
    codes "@server B1" ∷
    codes "@server B2" ∷
    codes "@volume 1000 A1 4" ∷
    codes "@volume 1001 A1 4" ∷
    codes "@volume 1100 A2 4" ∷
    codes "@volume 1101 A2 4" ∷
    codes "@volume 2000 B1 4" ∷
    codes "@volume 2001 B1 4" ∷
    codes "@volume 2100 B2 4" ∷
    codes "@volume 2101 B2 4" ∷
    codes "@volume 3000 B1 4" ∷
    codes "@volume 3001 B1 4" ∷
    codes "@volume 3100 B2 4" ∷
    codes "@volume 3101 B2 4" ∷
    codes "mkpprcpath -dev A1 -remotedev B1 -remotewwnn 5005076303FFC1A5 -srclss 10 -tgtlss 20 I0010:I0140" ∷
    codes "mkpprcpath -srclss 11 -tgtlss 21 I0010:I0140" ∷
    codes "mkpprc -type gcp -mode nocp 1000-1001:2000-2001" ∷
    codes "mkpprc -type gcp -mode nocp 1100-1101:2100-2101" ∷
    codes "mkflash -tgtinhibit -record -persist -nocp 2000-2001:3000-3001" ∷
    codes "mkflash -tgtinhibit -record -persist -nocp 2100-2101:3100-3101" ∷
    codes "mksession -lss 10 -volume 1000-1001 01" ∷
    codes "mksession -lss 11 -volume 1100-1101 01" ∷
    codes "mkgmir -lss 10 -session 01 -cginterval 0 -coordinate 50 -drain 30 A1/10:A2/11" ∷
    []

-- the primary servers stop, and the session is recovered
abbrev pub last : List (List ℕ)
last = codes "@stop A1" ∷ codes "@stop A2" ∷ codes "@recover 01" ∷ []

-- the script of a trial's number
unfoldable pub script_text : ℕ → List ℕ
script_text n = ended head ++ ended (lines_of 0 (rounds n 2000)) ++ ended last
