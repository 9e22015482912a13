-- What is staged behind a move, which of its writes decides, and how a staged track goes to its place, at a few volumes.
use Rattle.std.proofs.Common.{◌≡◌, refl, ap, cond, ℕ, true, false, List, [], ◌∷◌, Option, Some, None, replicate}
use Rattle.std.specs.FinSet.{contains}
use Rattle.dr_logic.specs.Bytes.{zeros}
use Rattle.dr_model.specs.Refusals.{stopped}
use Rattle.dr_model.specs.Layout.{Tracks, Fields, no_fields}
use Rattle.dr_model.specs.Control.{Fuse, Volume, World, new_volume, no_control}
use Rattle.dr_model.specs.Moves.{staged_after, saved_after}
use Rattle.dr_model.specs.Carry.{Outcome, gate_at, writes, counts, act, carry, turn, redo, update_keeping}
use Rattle.dr_model.specs.Plans.{destage_entries}

-- what is staged
kept : (blank : Tracks) → contains blank 3 ≡ false → staged_after true (Some 3) blank None ≡ Some 3
kept blank free = ap (λ b. cond b None (Some 3)) free

emptied : (blank : Tracks) → contains blank 3 ≡ true → staged_after true (Some 3) blank None ≡ None
emptied blank covers = ap (λ b. cond b None (Some 3)) covers

replaced : (blank : Tracks) → staged_after true (Some 3) blank (Some (5, zeros)) ≡ Some 5
replaced blank = refl

cleared : (blank : Tracks) → staged_after false (Some 3) blank None ≡ None
cleared blank = refl

-- how many writes come before the gate's
staging : Option ℕ → Volume
staging t = record (new_volume 0 8) { staged = t }

gives_way : gate_at (staging (Some 3)) no_fields (Some (5, zeros)) ≡ 7
unfolding staging
gives_way = refl

to_itself : gate_at (staging (Some 3)) no_fields (Some (3, zeros)) ≡ 6
unfolding staging
to_itself = refl

stays : writes (staging (Some 3)) no_fields None ≡ 7
unfolding staging
stays = refl

first_track : writes (staging None) no_fields (Some (5, zeros)) ≡ 7
unfolding staging
first_track = refl

-- a side block comes before all others
naming : Fields
naming = record no_fields { entries = Some 3 ∷ replicate 7 None }

saves_one : writes (staging None) naming None ≡ 8
unfolding staging naming
saves_one = refl

saves_and_gives_way : writes (staging (Some 3)) naming (Some (5, zeros)) ≡ 9
unfolding staging naming
saves_and_gives_way = refl

named_already : writes (record (staging None) { fields = naming }) naming None ≡ 7
unfolding staging naming
named_already = refl

-- what is saved is the track as it was, and it stays as long as the entry is used
saved_first : (tracks saved : ℕ → List ℕ) → saved_after (replicate 8 None) naming.entries tracks saved 3 ≡ tracks 3
unfolding naming
saved_first tracks saved = refl

saved_on : (tracks saved : ℕ → List ℕ) → saved_after naming.entries naming.entries tracks saved 3 ≡ saved 3
unfolding naming
saved_on tracks saved = refl

saved_no_more : (tracks saved : ℕ → List ℕ) → saved_after naming.entries (replicate 8 None) tracks saved 3 ≡ zeros
unfolding naming
saved_no_more tracks saved = refl

-- which one decides
in_slot : counts 7 6 (Some (1 ∷ [])) true ≡ false
in_slot = refl

new_gate : counts 7 7 (Some (1 ∷ [])) true ≡ true
new_gate = refl

old_gate : counts 7 7 None true ≡ false
old_gate = refl

-- track 3 of volume 4096 goes to its place, with so many writes to go
arming : Option Fuse → World
arming fuse = record { control = record no_control { volumes = 4096 ∷ []; volume = λ v. staging (Some 3); fuse = λ s. fuse }; contents = λ v t. zeros; saved = λ v t. zeros; events = [] }

after : ℕ → Option (List ℕ) → Fuse
after n torn = record { after = n; torn = torn }

goes : Option Fuse → Outcome
goes fuse = carry (arming fuse) (destage_entries (Some 3) 4096)

left : Outcome → Option ℕ
left o = (o.0.control.volume 4096).staged

placed : left (goes None) ≡ None
unfolding left goes arming staging after carry act turn redo update_keeping
placed = refl

in_its_block : left (goes (Some (after 0 None))) ≡ Some 3
unfolding left goes arming staging after carry act turn redo update_keeping
in_its_block = refl

in_the_slot : left (goes (Some (after 6 (Some (1 ∷ []))))) ≡ Some 3
unfolding left goes arming staging after carry act turn redo update_keeping
in_the_slot = refl

in_the_gate : left (goes (Some (after 7 (Some (1 ∷ []))))) ≡ None
unfolding left goes arming staging after carry act turn redo update_keeping
in_the_gate = refl

before_the_gate : left (goes (Some (after 7 None))) ≡ Some 3
unfolding left goes arming staging after carry act turn redo update_keeping
before_the_gate = refl

stops : (goes (Some (after 7 (Some (1 ∷ []))))).1 ≡ Some (stopped 0)
unfolding left goes arming staging after carry act turn redo update_keeping
stops = refl

passes : (goes (Some (after 8 None))).1 ≡ None
unfolding left goes arming staging after carry act turn redo update_keeping
passes = refl
