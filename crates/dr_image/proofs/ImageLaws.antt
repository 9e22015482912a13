-- A text that reads as an image is that image's text.
use Rattle.std.proofs.Common.{ℕ, zero, suc, ◌≡◌, ◌<◌, ◌≤◌, ◌+◌, List, [], ◌∷◌, ◌++◌, length, map, refl, ap, ◌∙◌, sym, subst, arith, Bool, true, false, not, cond, nat_eq, nat_lt, Some, None, Option, inl, inr, append_assoc, append-nil, length-append}
use Rattle.std.specs.Prelude.{All, AllPairs, Ok, codes}
use Rattle.std.specs.List.{slice_get, slice_split, position, position_or_len, flat_map, join_with_byte}
use Rattle.std.proofs.lemmas.Bool.Decides.{nat_tests}
use Rattle.std.proofs.lemmas.List.{map-append}
use Rattle.std.proofs.lemmas.List.Elements.{All-nil, All-cons, All-head, All-tail, All-push}
use Rattle.std.proofs.lemmas.List.Quantifiers.{position-Some}
use Rattle.std.proofs.lemmas.List.Splits.{join_with_byte-slice_split}
use Rattle.std.proofs.lemmas.Option.{get_or_from_slice_get}
use Rattle.std.proofs.lemmas.Bool.{and_parts}
use Rattle.dr_model.specs.PlantImage.{Kept, Volume, Stage, Start, Listing, Filling, Ended, Bad, State, IsKept, IsVolume, IsImage, agrees, can_join, place_of, can_fill, with_block, after_line, or_bad, step, begin, has_source, sourced, checked, finished, is_line_feed, reads, reading, volume_line, block_line, block_lines, image_lines, image_text, ended}
use Rattle.dr_image.proofs.OrderLemmas.{InOrder, pairs_head, pairs_tail}
use Rattle.dr_image.proofs.SoundLemmas.{pairs_cons, pairs_nil}
use Rattle.dr_image.proofs.StateLemmas.{all_got, can_fill-place, can_fill-index, can_fill-behind}
use Rattle.dr_image.proofs.StepLaws.{more, all_from_test, all-with_block, length-with_block, order-push, can_join-few}
use Rattle.dr_image.proofs.ReadLemmas.{reads-bad, unsourced}
use Rattle.dr_image.proofs.WordLaws.{IsBlock}
use Rattle.dr_image.proofs.LineLaws.{IsNew, IsOpen, Came, Begun, Closed, Joined, Filled, came}
use Rattle.dr_logic.proofs.Choices.{not_chosen}
use Rattle.dr_ids.specs.Sizes.{blocks_of}
use Rattle.dr_facts.proofs.Texts.{ended-append}

-- the lines of volumes and of their blocks
abbrev pub lines_of : List Volume → List (List ℕ)
lines_of vs = (codes "image 1" ∷ map volume_line vs) ++ flat_map block_lines vs

-- the lines that have come
abbrev pub so_far : Stage → List Volume → List (List ℕ)
so_far Start vs = []
so_far Listing vs = lines_of vs
so_far Filling vs = lines_of vs
so_far Ended vs = image_lines vs
so_far Bad vs = []

abbrev pub NoBlocks : Volume → Type 0
NoBlocks v = v.blocks ≡ []

-- the volumes from a place on have no blocks
abbrev pub NoneFrom : ℕ → List Volume → Type 0
NoneFrom from vs = (k : ℕ) (v : Volume) → from ≤ k → slice_get vs k ≡ Some v → v.blocks ≡ []

-- what stands before the first block
abbrev pub from_here : Stage → ℕ → ℕ
from_here Start place = 0
from_here Listing place = 0
from_here _ place = place + 1

-- the lines so far are those of a proper image so far
pub record IsSoFar (s : State) (lines : List (List ℕ)) : Type 0 where
  pub few : length s.volumes ≤ 64
  pub each : All IsVolume s.volumes
  pub apart : AllPairs (λ v w. agrees v w ≡ true) s.volumes
  pub later : NoneFrom (from_here s.stage s.place) s.volumes
  pub so : lines ≡ so_far s.stage s.volumes
  pub start : s.stage ≡ Start → s.volumes ≡ []
  pub count : s.line ≡ length lines + 1

-- volumes without blocks have no lines of blocks
none_lines : (vs : List Volume) → NoneFrom 0 vs → flat_map block_lines vs ≡ []
none_lines [] h = refl
none_lines (v ∷ vs) h = ap (λ bs. map (block_line v.volume) bs ++ flat_map block_lines vs) (h zero v (omega arith) refl) ∙ none_lines vs (λ k w le e. h (suc k) w (omega arith) e)

blocks-with_block : (vs : List Volume) (p : ℕ) (w : Volume) (b : Kept) → slice_get vs p ≡ Some w → NoneFrom (p + 1) vs → flat_map block_lines (with_block vs p b) ≡ flat_map block_lines vs ++ block_line w.volume b ∷ []
unfolding with_block
blocks-with_block [] p w b e h = absurd (cc)
blocks-with_block (v ∷ vs) zero w b e h =
    let is : v ≡ w = cc in
    let rest : flat_map block_lines vs ≡ [] = none_lines vs (λ k x le g. h (suc k) x (omega arith) g) in
    let f : Kept → List ℕ = block_line v.volume in
    ap (λ r. map f (v.blocks ++ b ∷ []) ++ r) rest ∙ append-nil (map f (v.blocks ++ b ∷ [])) ∙ map-append f v.blocks (b ∷ [])
    ∙ ap (λ r. r ++ f b ∷ []) (sym (append-nil (map f v.blocks)) ∙ ap (λ r. map f v.blocks ++ r) (sym rest))
    ∙ ap (λ (x : Volume). (map f v.blocks ++ flat_map block_lines vs) ++ block_line x.volume b ∷ []) is
blocks-with_block (v ∷ vs) (suc p) w b e h =
    ap (λ r. block_lines v ++ r) (blocks-with_block vs p w b e (λ k x le g. h (suc k) x (omega arith) g)) ∙ sym (append_assoc (block_lines v) (flat_map block_lines vs) (block_line w.volume b ∷ []))

volume_lines-with_block : (vs : List Volume) (p : ℕ) (b : Kept) → map volume_line (with_block vs p b) ≡ map volume_line vs
unfolding with_block volume_line
volume_lines-with_block [] p b = refl
volume_lines-with_block (v ∷ vs) zero b = refl
volume_lines-with_block (v ∷ vs) (suc p) b = ap (λ r. volume_line v ∷ r) (volume_lines-with_block vs p b)

none_from-with_block : (vs : List Volume) (p from : ℕ) (b : Kept) → from ≤ p + 1 → NoneFrom from vs → NoneFrom (p + 1) (with_block vs p b)
unfolding with_block
none_from-with_block [] p from b le h k v low e = h k v (omega arith) e
none_from-with_block (x ∷ vs) zero from b le h zero v low e = absurd (omega arith)
none_from-with_block (x ∷ vs) zero from b le h (suc k) v low e = h (suc k) v (omega arith) e
none_from-with_block (x ∷ vs) (suc p) from b le h zero v low e = absurd (omega arith)
none_from-with_block (x ∷ vs) (suc p) from b le h (suc k) v low e =
    none_from-with_block vs p (p + 1) b (omega arith) (λ j w l g. h (suc j) w (omega arith) g) k v (omega arith) e

apart-with_block : (vs : List Volume) (p : ℕ) (w : Volume) (b : Kept) → slice_get vs p ≡ Some w → AllPairs (λ v x. agrees v x ≡ true) vs → AllPairs (λ v x. agrees v x ≡ true) (with_block vs p b)
unfolding with_block
apart-with_block [] p w b e h = absurd (cc)
apart-with_block (v ∷ vs) zero w b e h =
    pairs_cons (λ (x : Volume) (y : Volume). agrees x y ≡ true) (more v b) vs (pairs_head (λ (x : Volume) (y : Volume). agrees x y ≡ true) v vs h) (pairs_tail (λ (x : Volume) (y : Volume). agrees x y ≡ true) v vs h)
apart-with_block (v ∷ vs) (suc p) w b e h =
    let first = pairs_head (λ (x : Volume) (y : Volume). agrees x y ≡ true) v vs h in
    pairs_cons (λ (x : Volume) (y : Volume). agrees x y ≡ true) v (with_block vs p b)
    (all-with_block (λ (y : Volume). agrees v y ≡ true) vs p w b e (all_got (λ (y : Volume). agrees v y ≡ true) vs p w first e) first)
    (apart-with_block vs p w b e (pairs_tail (λ (x : Volume) (y : Volume). agrees x y ≡ true) v vs h))

pub apart-push : (vs : List Volume) (v : Volume) → AllPairs (λ x y. agrees x y ≡ true) vs → All (λ x. agrees x v ≡ true) vs → AllPairs (λ x y. agrees x y ≡ true) (vs ++ v ∷ [])
apart-push [] v h all = pairs_cons (λ (x : Volume) (y : Volume). agrees x y ≡ true) v [] (All-nil (λ (y : Volume). agrees v y ≡ true)) (pairs_nil (λ (x : Volume) (y : Volume). agrees x y ≡ true))
apart-push (w ∷ vs) v h all =
    pairs_cons (λ (x : Volume) (y : Volume). agrees x y ≡ true) w (vs ++ v ∷ [])
    (All-push (λ (y : Volume). agrees w y ≡ true) vs v (pairs_head (λ (x : Volume) (y : Volume). agrees x y ≡ true) w vs h) (All-head (λ (x : Volume). agrees x v ≡ true) w vs all))
    (apart-push vs v (pairs_tail (λ (x : Volume) (y : Volume). agrees x y ≡ true) w vs h) (All-tail (λ (x : Volume). agrees x v ≡ true) w vs all))

-- the place of a volume has that volume
placed-is : (vs : List Volume) (v p : ℕ) (w : Volume) → place_of vs v ≡ Some p → slice_get vs p ≡ Some w → w.volume ≡ v
placed-is vs v p w at is =
    let found = (position-Some (λ (x : Volume). nat_eq x.volume v) vs p w at).1 in
    let same = get_or_from_slice_get vs p w w is in
    let t : nat_eq w.volume v ≡ true = ap (λ (x : Volume). nat_eq x.volume v) (sym same) ∙ found in
    grind (arith, nat_tests, t)

new-volume : (v : Volume) → IsNew v → IsVolume v
new-volume v n = record {
  volume = n.volume;
  server = n.server;
  some_tracks = n.some_tracks;
  tracks = n.tracks;
  kept = subst (λ (bs : List Kept). All (IsKept (blocks_of v.tracks)) bs) (sym n.blocks) (All-nil (IsKept (blocks_of v.tracks)));
  in_order = subst InOrder (sym n.blocks) (pairs_nil (λ (x : Kept) (y : Kept). x.index < y.index));
}

more-volume : (from p : ℕ) (w : Volume) (b : Kept) → IsVolume w → IsBlock b.bytes → can_fill from p w b ≡ true → IsVolume (more w b)
more-volume from p w b v block fits = record {
  volume = v.volume;
  server = v.server;
  some_tracks = v.some_tracks;
  tracks = v.tracks;
  kept = All-push (IsKept (blocks_of w.tracks)) w.blocks b v.kept (record { within = can_fill-index from p w b fits; whole = block.whole; bytes = block.bytes; some = block.some });
  in_order = order-push w.blocks b v.in_order (can_fill-behind from p w b fits);
}

none-push : (vs : List Volume) (v : Volume) → NoneFrom 0 vs → NoBlocks v → NoneFrom 0 (vs ++ v ∷ [])
none-push [] v h none zero w le e = let is : v ≡ w = cc in ap (λ (x : Volume). x.blocks) (sym is) ∙ none
none-push [] v h none (suc k) w le e = absurd (cc)
none-push (x ∷ vs) v h none zero w le e = h zero w (omega arith) e
none-push (x ∷ vs) v h none (suc k) w le e = none-push vs v (λ j y l g. h (suc j) y (omega arith) g) none k w (omega arith) e

flat_map-push : (vs : List Volume) (v : Volume) → NoBlocks v → flat_map block_lines (vs ++ v ∷ []) ≡ flat_map block_lines vs
flat_map-push [] v none = ap (λ bs. map (block_line v.volume) bs ++ []) none
flat_map-push (w ∷ vs) v none = ap (λ r. block_lines w ++ r) (flat_map-push vs v none)

-- a volume's line comes behind those of the others, where no blocks have come
lines-push : (vs : List Volume) (v : Volume) → NoneFrom 0 vs → NoBlocks v → lines_of vs ++ volume_line v ∷ [] ≡ lines_of (vs ++ v ∷ [])
lines-push vs v h none =
    let first : List (List ℕ) = codes "image 1" ∷ map volume_line vs in
    ap (λ r. (first ++ r) ++ volume_line v ∷ []) (none_lines vs h) ∙ ap (λ r. r ++ volume_line v ∷ []) (append-nil first)
    ∙ ap (λ r. codes "image 1" ∷ r) (sym (map-append volume_line vs (v ∷ []))) ∙ sym (append-nil (codes "image 1" ∷ map volume_line (vs ++ v ∷ [])))
    ∙ ap (λ r. (codes "image 1" ∷ map volume_line (vs ++ v ∷ [])) ++ r) (sym (flat_map-push vs v none ∙ none_lines vs h))

-- a block's line comes behind all
lines-fill : (vs : List Volume) (p : ℕ) (w : Volume) (b : Kept) → slice_get vs p ≡ Some w → NoneFrom (p + 1) vs → lines_of vs ++ block_line w.volume b ∷ [] ≡ lines_of (with_block vs p b)
lines-fill vs p w b e h =
    append_assoc (codes "image 1" ∷ map volume_line vs) (flat_map block_lines vs) (block_line w.volume b ∷ [])
    ∙ ap (λ r. (codes "image 1" ∷ map volume_line vs) ++ r) (sym (blocks-with_block vs p w b e h))
    ∙ ap (λ r. (codes "image 1" ∷ r) ++ flat_map block_lines (with_block vs p b)) (sym (volume_lines-with_block vs p b))

open_lines : (stage : Stage) (vs : List Volume) → IsOpen stage → so_far stage vs ≡ lines_of vs
open_lines stage vs (inl e) = ap (λ g. so_far g vs) e
open_lines stage vs (inr e) = ap (λ g. so_far g vs) e

open_from : (stage : Stage) (place : ℕ) → IsOpen stage → from_here stage place ≤ place + 1
open_from stage place (inl e) = let is = ap (λ g. from_here g place) e in omega arith
open_from stage place (inr e) = let is = ap (λ g. from_here g place) e in omega arith

pub can_join-apart : (vs : List Volume) (v : Volume) → can_join vs v ≡ true → All (λ x. agrees x v ≡ true) vs
unfolding can_join
can_join-apart vs v e = all_from_test (λ (x : Volume). agrees x v) vs (and_parts (nat_lt (length vs) 64) _ e).1

not_start : Start ≡ Listing → ⊥
not_start e = cc

passes_front : {X : Type 0} (p : X → Bool) (xs : List X) → length xs ≤ position_or_len (λ x. not (p x)) xs → All (λ x. p x ≡ true) xs
passes_front p [] h = All-nil (λ x. p x ≡ true)
passes_front p (x ∷ xs) h =
    elim (p x) as (λ v. p x ≡ v → suc (length xs) ≤ cond (not (not v)) (1 + position_or_len (λ y. not (p y)) xs) 0 → All (λ y. p y ≡ true) (x ∷ xs)) [
      | true ↦ λ e le. All-cons (λ y. p y ≡ true) x xs e (passes_front p xs (omega arith))
      | false ↦ λ e le. absurd (omega arith)
    ] refl h

-- where none fails, all pass
passes_all : {X : Type 0} (p : X → Bool) (xs : List X) → position (λ x. not (p x)) xs ≡ None → All (λ x. p x ≡ true) xs
passes_all p xs none = passes_front p xs (let past = not_chosen (nat_lt (position_or_len (λ x. not (p x)) xs) (length xs)) (position_or_len (λ x. not (p x)) xs) none in grind (arith, nat_tests, past))

pub sourced_ok : (vs : List Volume) (o : Option ℕ) (ws : List Volume) → sourced vs o ≡ Ok ws → (o ≡ None) × (vs ≡ ws)
sourced_ok vs None ws e = (refl, cc)
sourced_ok vs (Some p) ws e = absurd (cc)

-- one line more
pub came-so_far : (s t : State) (line : List ℕ) (lines : List (List ℕ)) → IsSoFar s lines → Came s line t → IsSoFar (record t { line = s.line + 1 }) (lines ++ line ∷ [])
came-so_far s t line lines i (Begun stage is t_is) =
    let P : State → Type 0 = λ u. IsSoFar (record u { line = s.line + 1 }) (lines ++ line ∷ []) in
    let counted : s.line + 1 ≡ length (lines ++ line ∷ []) + 1 = (let c = i.count in let l = length-append lines (line ∷ []) in omega arith) in
    let none : s.volumes ≡ [] = i.start stage in
    let before : lines ≡ [] = i.so ∙ ap (λ g. so_far g s.volumes) stage in
    subst P (sym t_is) (record {
      few = i.few;
      each = i.each;
      apart = i.apart;
      later = λ k v le e. let gone = ap (λ vs. slice_get vs k) none in absurd (cc);
      so = ap (λ ls. ls ++ line ∷ []) before ∙ ap (λ l. l ∷ []) is ∙ sym (ap lines_of none);
      start = λ e. absurd (cc);
      count = counted;
    })
came-so_far s t line lines i (Closed stage is t_is) =
    let P : State → Type 0 = λ u. IsSoFar (record u { line = s.line + 1 }) (lines ++ line ∷ []) in
    let counted : s.line + 1 ≡ length (lines ++ line ∷ []) + 1 = (let c = i.count in let l = length-append lines (line ∷ []) in omega arith) in
    let le : from_here s.stage s.place ≤ s.place + 1 = open_from s.stage s.place stage in
    subst P (sym t_is) (record {
      few = i.few;
      each = i.each;
      apart = i.apart;
      later = λ k v low e. i.later k v (omega arith) e;
      so = ap (λ ls. ls ++ line ∷ []) (i.so ∙ open_lines s.stage s.volumes stage) ∙ ap (λ l. lines_of s.volumes ++ l ∷ []) is;
      start = λ e. absurd (cc);
      count = counted;
    })
came-so_far s t line lines i (Joined v stage is new fits t_is) =
    let P : State → Type 0 = λ u. IsSoFar (record u { line = s.line + 1 }) (lines ++ line ∷ []) in
    let counted : s.line + 1 ≡ length (lines ++ line ∷ []) + 1 = (let c = i.count in let l = length-append lines (line ∷ []) in omega arith) in
    let none : NoneFrom 0 s.volumes = subst (λ (g : Stage). NoneFrom (from_here g s.place) s.volumes) stage i.later in
    let n = length-append s.volumes (v ∷ []) in
    let f = can_join-few s.volumes v fits in
    subst P (sym t_is) (record {
      few = omega arith;
      each = All-push IsVolume s.volumes v i.each (new-volume v new);
      apart = apart-push s.volumes v i.apart (can_join-apart s.volumes v fits);
      later = subst (λ (g : Stage). NoneFrom (from_here g s.place) (s.volumes ++ v ∷ [])) (sym stage) (none-push s.volumes v none new.blocks);
      so = ap (λ ls. ls ++ line ∷ []) (i.so ∙ ap (λ g. so_far g s.volumes) stage) ∙ ap (λ l. lines_of s.volumes ++ l ∷ []) is
          ∙ lines-push s.volumes v none new.blocks ∙ sym (ap (λ g. so_far g (s.volumes ++ v ∷ [])) stage);
      start = λ e. absurd (not_start (sym e ∙ stage));
      count = counted;
    })
came-so_far s t line lines i (Filled said p w stage is block at there fits t_is) =
    let P : State → Type 0 = λ u. IsSoFar (record u { line = s.line + 1 }) (lines ++ line ∷ []) in
    let counted : s.line + 1 ≡ length (lines ++ line ∷ []) + 1 = (let c = i.count in let l = length-append lines (line ∷ []) in omega arith) in
    let b : Kept = said.block in
    let le : from_here s.stage s.place ≤ s.place + 1 = open_from s.stage s.place stage in
    let low : s.place ≤ p = can_fill-place s.place p w b fits in
    let none : NoneFrom (p + 1) s.volumes = (λ k v l e. i.later k v (omega arith) e) in
    let n = length-with_block s.volumes p b in
    let f = i.few in
    subst P (sym t_is) (record {
      few = omega arith;
      each = all-with_block IsVolume s.volumes p w b there (more-volume s.place p w b (all_got IsVolume s.volumes p w i.each there) block fits) i.each;
      apart = apart-with_block s.volumes p w b there i.apart;
      later = none_from-with_block s.volumes p (p + 1) b (omega arith) none;
      so = ap (λ ls. ls ++ line ∷ []) (i.so ∙ open_lines s.stage s.volumes stage) ∙ ap (λ l. lines_of s.volumes ++ l ∷ []) is
          ∙ ap (λ v. lines_of s.volumes ++ block_line v b ∷ []) (sym (placed-is s.volumes said.volume p w at there)) ∙ lines-fill s.volumes p w b there none;
      start = λ e. absurd (cc);
      count = counted;
    })

-- all have their sources
all_sourced : (vs ws : List Volume) → position (λ v. not (has_source vs v)) ws ≡ None → All (λ v. has_source vs v ≡ true) ws
all_sourced vs ws none = passes_all (λ (v : Volume). has_source vs v) ws none

ended-so_far : (s : State) (stage : Stage) (last : List ℕ) (lines : List (List ℕ)) (vs : List Volume) → s.stage ≡ stage → IsSoFar s lines → finished s stage last ≡ Ok vs → (ended lines ++ last ≡ image_text vs) × IsImage vs
unfolding image_text checked
ended-so_far s Start last lines vs is i e = absurd (cc)
ended-so_far s Listing last lines vs is i e = absurd (cc)
ended-so_far s Filling last lines vs is i e = absurd (cc)
ended-so_far s Bad last lines vs is i e = absurd (cc)
ended-so_far s Ended (b ∷ bs) lines vs is i e = absurd (cc)
ended-so_far s Ended [] lines vs is i e =
    let ok = sourced_ok s.volumes (unsourced s.volumes) vs e in
    let same : s.volumes ≡ vs = ok.1 in (
      append-nil (ended lines) ∙ ap ended (i.so ∙ ap (λ g. so_far g s.volumes) is) ∙ ap (λ ws. ended (image_lines ws)) same,
      subst IsImage same (record { laid = record { few = i.few; each = i.each; apart = i.apart }; sources = all_sourced s.volumes s.volumes ok.0 }),
    )

reads-so_far : (s : State) (parts lines : List (List ℕ)) (vs : List Volume) → IsSoFar s lines → reads s parts ≡ Ok vs → (ended lines ++ join_with_byte 10 parts ≡ image_text vs) × IsImage vs
unfolding reads step
reads-so_far s [] lines vs i e = absurd (cc)
reads-so_far s (last ∷ []) lines vs i e = ended-so_far s s.stage last lines vs refl i e
reads-so_far s (line ∷ next ∷ rest) lines vs i e =
    elim (after_line s line) as (λ o. after_line s line ≡ o → reads (or_bad s o) (next ∷ rest) ≡ Ok vs → (ended lines ++ (line ++ 10 ∷ join_with_byte 10 (next ∷ rest)) ≡ image_text vs) × IsImage vs) [
      | None ↦ λ none h. let bad = reads-bad (record s { stage = Bad }) (next ∷ rest) refl in absurd (cc)
      | Some t ↦ λ some h.
          let all = reads-so_far (record t { line = s.line + 1 }) (next ∷ rest) (lines ++ line ∷ []) vs (came-so_far s t line lines i (came s t line some)) h in
          let text : ended lines ++ (line ++ 10 ∷ join_with_byte 10 (next ∷ rest)) ≡ ended (lines ++ line ∷ []) ++ join_with_byte 10 (next ∷ rest) =
          ap (λ r. ended lines ++ r) (sym (append_assoc line (10 ∷ []) (join_with_byte 10 (next ∷ rest))))
          ∙ sym (append_assoc (ended lines) (line ++ 10 ∷ []) (join_with_byte 10 (next ∷ rest)))
          ∙ ap (λ r. r ++ join_with_byte 10 (next ∷ rest)) (sym (ended-append lines (line ∷ []))) in
          (text ∙ all.0, all.1)
    ] refl e

pub begin-so_far : IsSoFar begin []
begin-so_far = record {
  few = omega arith;
  each = All-nil IsVolume;
  apart = pairs_nil (λ (x : Volume) (y : Volume). agrees x y ≡ true);
  later = λ k v le e. absurd (cc);
  so = refl;
  start = λ e. refl;
  count = omega arith;
}

-- a text that reads as an image is the text of that image, and the image is proper
pub reading-text : (text : List ℕ) (vs : List Volume) → reading text ≡ Ok vs → (text ≡ image_text vs) × IsImage vs
unfolding reading
reading-text text vs e =
    let all = reads-so_far begin (slice_split is_line_feed text) [] vs begin-so_far e in
    (sym (join_with_byte-slice_split 10 text) ∙ all.0, all.1)
