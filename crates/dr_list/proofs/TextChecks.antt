-- The text of a few answers, and of lines of listings and images.
use Rattle.std.proofs.Common.{ℕ, ◌≡◌, ◌<◌, ◌%◌, refl, ap, List, [], ◌∷◌, ◌++◌, arith, Some, None, true, false}
use Rattle.std.specs.Prelude.{codes, nat_eq, if◌then◌else◌, replicate, take, drop}
use Rattle.std.specs.Fmt.{digits}
use Rattle.std.specs.List.{fold}
use Rattle.dr_logic.specs.Bytes.{zeros}
use Rattle.dr_ids.specs.Spelling.{hex2, hex4}
use Rattle.dr_model.specs.declared.event.Event.{Event}
use Rattle.dr_model.specs.declared.event.Event.TheVariants.{Server, Shown, PairLine, FlashLine, SessionLine, MirrorLine, ImageStart, ImageVolume, ImageBlock, ImageEnd, Answer}
use Rattle.dr_model.specs.Text.{Heard, said_text, line_text, untold, heard, text, text_from, volume_digits, session_digits}

-- two servers are defined
abbrev defined : Heard
defined = record { names = λ s. if nat_eq s 0 then Some (codes "A") else if nat_eq s 1 then Some (codes "B") else None; shown = 65 ∷ 0 ∷ 10 ∷ 0 ∷ 0 ∷ [] }

wrote : said_text untold 0 1 12 0 ≡ codes "ok w12"
unfolding digits
wrote = refl

acknowledged : said_text untold 0 2 4294967295 0 ≡ codes "ok acked w4294967295"
unfolding digits
acknowledged = refl

counted : said_text untold 0 3 0 0 ≡ codes "ok 0"
unfolding digits
counted = refl

committing : said_text untold 0 4 6 3 ≡ codes "ok Committing 3"
unfolding digits
committing = refl

group : said_text untold 0 1029 3 4 ≡ codes "ok group 3 RevertSome(3,4)"
unfolding digits
group = refl

group_of_rest : said_text untold 0 773 4 4 ≡ codes "ok group 4 CommitRest(4)"
unfolding digits
group_of_rest = refl

shows : said_text defined 0 6 0 0 ≡ codes "ok 41000A"
shows = refl

shows_zeros : said_text untold 0 6 0 0 ≡ codes "ok -"
unfolding zeros
shows_zeros = refl

posted : said_text untold 0 7 256 0 ≡ codes "ok m256"
unfolding digits
posted = refl

held : said_text untold 100 7 0 0 ≡ codes "held w7"
unfolding digits
held = refl

column : said_text untold 1 1025 0 0 ≡ codes "E01 syntax 1025"
unfolding digits
column = refl

unknown : said_text untold 2 6 0 0 ≡ codes "E02 unknown track"
unknown = refl

unknown_message : said_text untold 2 8 0 0 ≡ codes "E02 unknown message"
unknown_message = refl

full : said_text untold 4 9 0 0 ≡ codes "E04 limit messages"
full = refl

links : said_text defined 6 1 0 0 ≡ codes "E06 link down A B"
links = refl

-- a number that no server has
nameless : said_text defined 5 256 0 0 ≡ codes "E05 server off "
nameless = refl

pair_state : said_text untold 10 6691 4 0 ≡ codes "E10 pair state 1A23 Target Full Duplex"
pair_state = refl

relation_state : said_text untold 11 4096 0 0 ≡ codes "E11 relation state 1000 revertible"
relation_state = refl

in_session : said_text untold 12 11 0 0 ≡ codes "E12 in session 0B"
in_session = refl

in_formation : said_text untold 14 4 3 0 ≡ codes "E14 in formation Draining 3"
unfolding digits
in_formation = refl

unsealed : said_text untold 16 8192 0 0 ≡ codes "E16 unsealed 2000 0"
unfolding digits
unsealed = refl

stale : said_text untold 17 2 5 0 ≡ codes "E17 stale 2 5"
unfolding digits
stale = refl

forbidden : said_text untold 18 0 0 0 ≡ codes "E18 decision NoMember"
forbidden = refl

old_message : said_text untold 25 4294967295 0 0 ≡ codes "E25 old message 4294967295"
unfolding digits
old_message = refl

no_group : said_text untold 22 5 3 4 ≡ codes "E22 no group Impossible(3,4)"
unfolding digits
no_group = refl

-- the first name of a server stays, and an answer ends what is shown
abbrev name : List ℕ → List ℕ
name letters = letters ++ replicate 23 0

abbrev journal : List Event
journal = Server 0 1 (name (codes "A")) ∷ Server 0 1 (name (codes "B")) ∷ Answer 7 5 0 0 0 ∷ Shown 10 4096 0 (75 ∷ 0 ∷ []) ∷ Answer 10 0 6 0 0 ∷ Answer 11 0 6 0 0 ∷ []

journal_text : text journal ≡ codes "7 E05 server off A\n10 ok 4B\n11 ok -\n"
unfolding digits zeros
journal_text = refl

-- the rest of a text, by what the events before told
rest_text : text_from (fold heard untold (take 3 journal)) (drop 3 journal) ≡ codes "10 ok 4B\n11 ok -\n"
unfolding digits zeros
rest_text = refl

-- a volume's and a session's digits say all of their numbers
volume-whole : (n : ℕ) → n < 65536 → volume_digits n ≡ hex4 n
volume-whole n lt = ap hex4 (let e : n % 65536 ≡ n = omega arith in e)

session-whole : (n : ℕ) → n < 256 → session_digits n ≡ hex2 n
session-whole n lt = ap hex2 (let e : n % 256 ≡ n = omega arith in e)

-- a primary says how much is unsent, and a secondary doesn't; its primary stands first in both
primary : line_text untold (PairLine 9 4096 8192 0 2 17) ≡ codes "9 1000:2000 Copy Pending Global Copy 17\n"
unfolding digits
primary = refl

secondary : line_text untold (PairLine 9 8192 4096 4 1 17) ≡ codes "9 1000:2000 Target Full Duplex Metro Mirror -\n"
unfolding digits
secondary = refl

relationship : line_text untold (FlashLine 12 8192 12288 3 2 0 13 256) ≡ codes "12 2000:3000 3 2 Revertible NRI 256\n"
unfolding digits
relationship = refl

no_flags : line_text untold (FlashLine 12 8192 12288 0 0 2 0 0) ≡ codes "12 2000:3000 0 0 Established - 0\n"
unfolding digits
no_flags = refl

member : line_text untold (SessionLine 4 1 4096 8192 12288 2) ≡ codes "4 01 1000:2000:3000 Suspended\n"
unfolding digits
member = refl

master : line_text defined (MirrorLine 5 1 0 3 7 false) ≡ codes "5 01 A Releasing 7 running\n"
unfolding digits
master = refl

paused_master : line_text defined (MirrorLine 5 1 1 1 0 true) ≡ codes "5 01 B Idle 0 paused\n"
unfolding digits
paused_master = refl

-- the lines of an image have no number, and the answer behind them has one
image : text_from untold (ImageStart ∷ ImageVolume 4096 0 1 ∷ ImageBlock 4096 13 (75 ∷ 0 ∷ 10 ∷ 0 ∷ []) ∷ ImageEnd ∷ Answer 6 0 0 0 0 ∷ []) ≡ codes "image 1\nvolume 1000 0 1\nblock 1000 13 4B000A\nend\n6 ok\n"
unfolding digits
image = refl
