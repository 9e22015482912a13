-- What is written for an image reads as that image, where it reads as one at all; and a proper image's text reads.
use Rattle.std.proofs.Common.{ℕ, suc, ◌≡◌, ◌<◌, ◌≤◌, ◌+◌, List, [], ◌∷◌, ◌++◌, length, map, refl, ap, ◌∙◌, sym, subst, arith, Bool, true, false, not, cond, ◌&&◌, nat_eq, nat_lt, nat_le, Some, None, ◌⊎◌, inl, inr, append_assoc, append-nil, length-append}
use Rattle.std.specs.Prelude.{All, AllPairs, Ok, codes, if◌then◌else◌}
use Rattle.std.specs.Fmt.{decimal}
use Rattle.std.specs.List.{list_all, slice_get, slice_split, position_or_len, flat_map}
use Rattle.std.specs.Str.{bytes_eq}
use Rattle.std.proofs.lemmas.Bool.Decides.{nat_tests}
use Rattle.std.proofs.lemmas.List.{map-append, length-map}
use Rattle.std.proofs.lemmas.List.Elements.{All-nil, All-cons, All-head, All-tail, All-weaker}
use Rattle.std.proofs.lemmas.List.Splits.{slice_split_at}
use Rattle.std.proofs.lemmas.Bool.{not-true, and_parts, and_from}
use Rattle.dr_ids.specs.Sizes.{blocks_of}
use Rattle.dr_ids.specs.Spelling.{hex4}
use Rattle.dr_model.specs.LineText.{bytes_text}
use Rattle.dr_model.specs.LineWords.{◌>>=◌}
use Rattle.dr_model.specs.Text.{trimmed}
use Rattle.dr_model.specs.PlantImage.{words}
use Rattle.dr_model.specs.PlantImage.{Kept, Volume, Placed, Listing, Filling, Ended, Bad, State, IsKept, IsVolume, IsLaid, IsImage, agrees, can_join, join, place_of, can_fill, fill, fill_at, with_block, plain_word, kept_word, volume_of, volume_said, block_said, is_listing, by_words, by_line, by_stage, after_line, or_bad, step, begin, has_source, sourced, checked, finished, is_line_feed, reads, reading, volume_line, block_line, block_lines, image_lines, image_text, ended}
use Rattle.dr_image.specs.Sound.{IsSoundImage, IsSoundVolume}
use Rattle.dr_image.proofs.OrderLemmas.{InOrder, order_head, order_tail, pairs_head, pairs_tail}
use Rattle.dr_image.proofs.SoundLemmas.{pairs_nil}
use Rattle.dr_image.proofs.StateLemmas.{fill-at}
use Rattle.dr_image.proofs.StepLaws.{more}
use Rattle.dr_image.proofs.ReadLemmas.{reads-line, unsourced}
use Rattle.dr_image.proofs.WordLaws.{IsBlock, id_word-hex4, plain_word-decimal, kept_word-text}
use Rattle.dr_image.proofs.LineLaws.{IsOpen}
use Rattle.dr_image.proofs.ImageLaws.{apart-push, can_join-apart, sourced_ok}
use Rattle.dr_image.proofs.InkLaws.{NoFeeds, image_no_feeds, volume-words, block-words}

-- the state after lines
abbrev pub after : State → List (List ℕ) → State
after s [] = s
after s (line ∷ lines) = after (step s line) lines

pub after-append : (s : State) (a b : List (List ℕ)) → after s (a ++ b) ≡ after (after s a) b
after-append s [] b = refl
after-append s (l ∷ ls) b = after-append (step s l) ls b

-- a text of whole lines reads as the state after them says
reads-lines : (s : State) (lines : List (List ℕ)) → NoFeeds lines → reads s (slice_split is_line_feed (ended lines)) ≡ finished (after s lines) (after s lines).stage []
unfolding reads
reads-lines s [] plain = refl
reads-lines s (line ∷ lines) plain =
    ap (reads s) (slice_split_at is_line_feed line 10 (ended lines) plain.0 refl) ∙ reads-line s line (ended lines) ∙ reads-lines (step s line) lines plain.1

step-bad : (s : State) (line : List ℕ) → s.stage ≡ Bad → (step s line).stage ≡ Bad
unfolding step
step-bad s line bad = ap (λ g. (or_bad s (by_stage g s line)).stage) bad

pub after-bad : (s : State) (lines : List (List ℕ)) → s.stage ≡ Bad → (after s lines).stage ≡ Bad
after-bad s [] bad = bad
after-bad s (line ∷ lines) bad = after-bad (step s line) lines (step-bad s line bad)

pub step-none : (s : State) (line : List ℕ) → after_line s line ≡ None → (step s line).stage ≡ Bad
unfolding step
step-none s line none = ap (λ o. (or_bad s o).stage) none

pub step-some : (s t : State) (line : List ℕ) → after_line s line ≡ Some t → step s line ≡ (let u : State = t in record u { line = s.line + 1 })
unfolding step
step-some s t line some = ap (or_bad s) some

-- a run of an image's lines ends well, or is bad where the image isn't proper
abbrev pub Runs : List Volume → State → Type 0 → Type 0
Runs i t Good = ((t.stage ≡ Bad) × (IsLaid i → ⊥)) ⊎ Good

bad_run : (i : List Volume) (s : State) (line : List ℕ) (lines : List (List ℕ)) (Good : Type 0) → after_line s line ≡ None → (IsLaid i → ⊥) → Runs i (after s (line ∷ lines)) Good
bad_run i s line lines Good none not_proper = inl (after-bad (step s line) lines (step-none s line none), not_proper)

-- a volume before its blocks have come
abbrev pub bare : Volume → Volume
bare v = record v { blocks = [] }

all_mid : {X : Type 0} (P : X → Type 0) (front : List X) (x : X) (back : List X) → All P (front ++ x ∷ back) → P x
all_mid P [] x back all = All-head P x back all
all_mid P (y ∷ ys) x back all = all_mid P ys x back (All-tail P y (ys ++ x ∷ back) all)

apart_mid : (front : List Volume) (v : Volume) (back : List Volume) → AllPairs (λ x y. agrees x y ≡ true) (front ++ v ∷ back) → All (λ x. agrees x v ≡ true) front
apart_mid [] v back h = All-nil (λ (x : Volume). agrees x v ≡ true)
apart_mid (w ∷ ws) v back h =
    All-cons (λ (x : Volume). agrees x v ≡ true) w ws
    (all_mid (λ (y : Volume). agrees w y ≡ true) ws v back (pairs_head (λ (x : Volume) (y : Volume). agrees x y ≡ true) w (ws ++ v ∷ back) h))
    (apart_mid ws v back (pairs_tail (λ (x : Volume) (y : Volume). agrees x y ≡ true) w (ws ++ v ∷ back) h))

all_bare : (v : Volume) (vs : List Volume) → All (λ x. agrees x v ≡ true) (map bare vs) → All (λ x. agrees x v ≡ true) vs
all_bare v [] h = All-nil (λ (x : Volume). agrees x v ≡ true)
all_bare v (w ∷ ws) h = All-cons (λ (x : Volume). agrees x v ≡ true) w ws (All-head (λ (x : Volume). agrees x v ≡ true) (bare w) (map bare ws) h) (all_bare v ws (All-tail (λ (x : Volume). agrees x v ≡ true) (bare w) (map bare ws) h))

test_bare : (v : Volume) (vs : List Volume) → All (λ x. agrees x v ≡ true) vs → list_all (λ x. agrees x (bare v)) (map bare vs) ≡ true
test_bare v [] h = refl
test_bare v (w ∷ ws) h = and_from (agrees w v) _ (All-head (λ (x : Volume). agrees x v ≡ true) w ws h) (test_bare v ws (All-tail (λ (x : Volume). agrees x v ≡ true) w ws h))

-- the lines of volumes

volume_said-line : (v : Volume) → IsSoundVolume v → volume_said (hex4 v.volume ∷ decimal v.server ∷ decimal v.tracks ∷ []) ≡ volume_of v.volume v.server v.tracks
volume_said-line v s =
    let a = s.server in
    let b = s.tracks in
    ap (λ o. o >>= λ i. plain_word (decimal v.server) >>= λ n. plain_word (decimal v.tracks) >>= λ t. volume_of i n t) (id_word-hex4 v.volume s.volume)
    ∙ ap (λ o. o >>= λ n. plain_word (decimal v.tracks) >>= λ t. volume_of v.volume n t) (plain_word-decimal v.server (omega arith))
    ∙ ap (λ o. o >>= λ t. volume_of v.volume v.server t) (plain_word-decimal v.tracks (omega arith))

not_end_volume : (v : Volume) → bytes_eq (volume_line v) (codes "end") ≡ false
unfolding volume_line
not_end_volume v = refl

after-volume_line : (s : State) (v : Volume) → IsSoundVolume v → s.stage ≡ Listing → after_line s (volume_line v) ≡ (volume_of v.volume v.server v.tracks >>= join s)
unfolding by_words
after-volume_line s v sound stage =
    ap (λ g. by_stage g s (volume_line v)) stage ∙ ap (λ (b : Bool). if b then Some (record s { stage = Ended }) else by_words s (words (volume_line v))) (not_end_volume v)
    ∙ ap (by_words s) (volume-words v sound)
    ∙ ap (λ g. if is_listing g then volume_said (hex4 v.volume ∷ decimal v.server ∷ decimal v.tracks ∷ []) >>= join s else None) stage
    ∙ ap (λ o. o >>= join s) (volume_said-line v sound)

volume_limits : Volume → Bool
volume_limits v = nat_le v.server 7 && (nat_le 1 v.tracks && nat_le v.tracks 256)

-- the state that has listed all volumes
record IsListed (i : List Volume) (t : State) : Type 0 where
  stage : t.stage ≡ Listing
  volumes : t.volumes ≡ map bare i
  place : t.place ≡ 0
  apart : AllPairs (λ x y. agrees x y ≡ true) i

joins : (i done ws : List Volume) (v : Volume) → i ≡ done ++ v ∷ ws → IsLaid i → can_join (map bare done) (bare v) ≡ true
unfolding can_join
joins i done ws v is proper =
    let n = length-map done bare in
    let l : length i ≡ length (done ++ v ∷ ws) = ap length is in
    let m = length-append done (v ∷ ws) in
    let f = proper.few in
    let few : length (map bare done) < 64 = omega arith in
    and_from (nat_lt (length (map bare done)) 64) _ (grind (arith, nat_tests, few)) (test_bare v done (apart_mid done v ws (subst (λ (vs : List Volume). AllPairs (λ x y. agrees x y ≡ true) vs) is proper.apart)))

limits : (i done ws : List Volume) (v : Volume) → i ≡ done ++ v ∷ ws → IsLaid i → volume_limits v ≡ true
unfolding volume_limits
limits i done ws v is proper =
    let ok : IsVolume v = all_mid IsVolume done v ws (subst (λ (vs : List Volume). All IsVolume vs) is proper.each) in
    let a = ok.server in
    let b = ok.some_tracks in
    let c = ok.tracks in
    and_from (nat_le v.server 7) _ (grind (arith, nat_tests, a)) (and_from (nat_le 1 v.tracks) _ (grind (arith, nat_tests, b)) (grind (arith, nat_tests, c)))

run-volumes : (i done ws : List Volume) → i ≡ done ++ ws → IsSoundImage ws → AllPairs (λ x y. agrees x y ≡ true) done → (s : State) → s.stage ≡ Listing → s.volumes ≡ map bare done → s.place ≡ 0
    → Runs i (after s (map volume_line ws)) (IsListed i (after s (map volume_line ws)))
unfolding volume_limits join
run-volumes i done [] is sound apart s stage volumes place =
    let all : i ≡ done = is ∙ append-nil done in
    inr (record { stage = stage; volumes = volumes ∙ sym (ap (map bare) all); place = place; apart = subst (λ (vs : List Volume). AllPairs (λ x y. agrees x y ≡ true) vs) (sym all) apart })
run-volumes i done (v ∷ ws) is sound apart s stage volumes place =
    let line : List ℕ = volume_line v in
    let rest : List (List ℕ) = map volume_line ws in
    let vsound = All-head IsSoundVolume v ws sound in
    let o = after-volume_line s v vsound stage in
    let Goal : Type 0 = Runs i (after s (line ∷ rest)) (IsListed i (after s (line ∷ rest))) in
    elim (volume_limits v) as (λ b. volume_limits v ≡ b → Goal) [
      | false ↦ λ out.
          bad_run i s line rest (IsListed i (after s (line ∷ rest))) (o ∙ ap (λ (b : Bool). (if b then Some (bare v) else None) >>= join s) out) (λ proper. let yes' = limits i done ws v is proper in absurd (cc))
      | true ↦ λ fits.
          let o2 : after_line s line ≡ join s (bare v) = o ∙ ap (λ (b : Bool). (if b then Some (bare v) else None) >>= join s) fits in
          elim (can_join (map bare done) (bare v)) as (λ b. can_join (map bare done) (bare v) ≡ b → Goal) [
            | false ↦ λ out.
                bad_run i s line rest (IsListed i (after s (line ∷ rest)))
                (o2 ∙ ap (λ (b : Bool). if b then Some (record s { volumes = s.volumes ++ bare v ∷ [] }) else None) (ap (λ vs. can_join vs (bare v)) volumes ∙ out))
                (λ proper. let yes' = joins i done ws v is proper in absurd (cc))
            | true ↦ λ joined.
                let t : State = record s { volumes = s.volumes ++ bare v ∷ [] } in
                let taken : step s line ≡ record t { line = s.line + 1 } =
                step-some s t line (o2 ∙ ap (λ (b : Bool). if b then Some (record s { volumes = s.volumes ++ bare v ∷ [] }) else None) (ap (λ vs. can_join vs (bare v)) volumes ∙ joined)) in
                let next = run-volumes i (done ++ v ∷ []) ws (is ∙ sym (append_assoc done (v ∷ []) ws)) (All-tail IsSoundVolume v ws sound)
                (apart-push done v apart (all_bare v done (can_join-apart (map bare done) (bare v) joined)))
                (record t { line = s.line + 1 }) stage (ap (λ vs. vs ++ bare v ∷ []) volumes ∙ sym (map-append bare done (v ∷ []))) place in
                let P : State → Type 0 = λ u. Runs i (after u rest) (IsListed i (after u rest)) in
                subst P (sym taken) next
          ] refl
    ] refl

-- the lines of blocks

block_said-line : (v : Volume) (b : Kept) → v.volume < 65536 → IsKept 65536 b → block_said (hex4 v.volume ∷ decimal b.index ∷ bytes_text (trimmed b.bytes) ∷ []) ≡ Some (let p : Placed = record { volume = v.volume; block = b } in p)
block_said-line v b id k =
    let w = k.within in
    let block : IsBlock b.bytes = record { whole = k.whole; bytes = k.bytes; some = k.some } in
    ap (λ o. o >>= λ i. plain_word (decimal b.index) >>= λ n. kept_word (bytes_text (trimmed b.bytes)) >>= λ x. Some (let p : Placed = record { volume = i; block = record { index = n; bytes = x } } in p)) (id_word-hex4 v.volume id)
    ∙ ap (λ o. o >>= λ n. kept_word (bytes_text (trimmed b.bytes)) >>= λ x. Some (let p : Placed = record { volume = v.volume; block = record { index = n; bytes = x } } in p)) (plain_word-decimal b.index (omega arith))
    ∙ ap (λ o. o >>= λ x. Some (let p : Placed = record { volume = v.volume; block = record { index = b.index; bytes = x } } in p)) (kept_word-text b.bytes block)

not_end_block : (id : ℕ) (b : Kept) → bytes_eq (block_line id b) (codes "end") ≡ false
unfolding block_line
not_end_block id b = refl

by_open : (s : State) (line : List ℕ) → IsOpen s.stage → after_line s line ≡ by_line s line
by_open s line (inl e) = ap (λ g. by_stage g s line) e
by_open s line (inr e) = ap (λ g. by_stage g s line) e

after-block_line : (s : State) (v : Volume) (b : Kept) → v.volume < 65536 → IsKept 65536 b → IsOpen s.stage → after_line s (block_line v.volume b) ≡ fill s (record { volume = v.volume; block = b })
unfolding by_words
after-block_line s v b id k stage =
    by_open s (block_line v.volume b) stage
    ∙ ap (λ (x : Bool). if x then Some (record s { stage = Ended }) else by_words s (words (block_line v.volume b))) (not_end_block v.volume b)
    ∙ ap (by_words s) (block-words v.volume b k.within)
    ∙ ap (λ o. o >>= fill s) (block_said-line v b id k)

-- a volume's place, between others
first_place : (p : Volume → Bool) (front : List Volume) (x : Volume) (back : List Volume) → All (λ w. p w ≡ false) front → p x ≡ true → position_or_len p (front ++ x ∷ back) ≡ length front
first_place p [] x back none here = ap (λ (v : Bool). cond (not v) (1 + position_or_len p back) 0) here
first_place p (w ∷ ws) x back none here =
    let one : 1 + position_or_len p (ws ++ x ∷ back) ≡ suc (position_or_len p (ws ++ x ∷ back)) = omega arith in
    ap (λ (v : Bool). cond (not v) (1 + position_or_len p (ws ++ x ∷ back)) 0) (All-head (λ (y : Volume). p y ≡ false) w ws none) ∙ one
    ∙ ap suc (first_place p ws x back (All-tail (λ (y : Volume). p y ≡ false) w ws none) here)

place_between : (front : List Volume) (x : Volume) (back : List Volume) → All (λ w. nat_eq w.volume x.volume ≡ false) front → place_of (front ++ x ∷ back) x.volume ≡ Some (length front)
place_between front x back none =
    let p : Volume → Bool = λ w. nat_eq w.volume x.volume in
    let here : nat_eq x.volume x.volume ≡ true = grind (arith, nat_tests) in
    let n = first_place p front x back none here in
    let l = length-append front (x ∷ back) in
    let within : nat_lt (length front) (length (front ++ x ∷ back)) ≡ true = grind (arith, nat_tests, l) in
    ap (λ k. cond (nat_lt k (length (front ++ x ∷ back))) (Some k) None) n ∙ ap (λ v. cond v (Some (length front)) None) within

got_between : (front : List Volume) (x : Volume) (back : List Volume) → slice_get (front ++ x ∷ back) (length front) ≡ Some x
got_between [] x back = refl
got_between (w ∷ ws) x back = got_between ws x back

filled_between : (front : List Volume) (x : Volume) (back : List Volume) (b : Kept) → with_block (front ++ x ∷ back) (length front) b ≡ front ++ more x b ∷ back
unfolding with_block
filled_between [] x back b = refl
filled_between (w ∷ ws) x back b = ap (λ r. w ∷ r) (filled_between ws x back b)

-- two that agree have different numbers
pub other : (w v : Volume) → agrees w v ≡ true → nat_eq w.volume v.volume ≡ false
other w v e = let n = not-true (nat_eq v.volume w.volume) (and_parts (not (nat_eq v.volume w.volume)) _ e).0 in grind (arith, nat_tests, n)

differs : (v : Volume) (front : List Volume) → All (λ w. agrees w v ≡ true) front → All (λ w. nat_eq w.volume v.volume ≡ false) front
differs v front h = All-weaker (λ (w : Volume). agrees w v ≡ true) (λ (w : Volume). nat_eq w.volume v.volume ≡ false) (λ w e. other w v e) front h

-- the state whose volumes up to a place have their blocks
record IsFilling (i : List Volume) (volumes : List Volume) (most : ℕ) (t : State) : Type 0 where
  stage : IsOpen t.stage
  volumes_are : t.volumes ≡ volumes
  place : t.place ≤ most

order_mid : (front : List Kept) (b : Kept) (back : List Kept) → InOrder (front ++ b ∷ back) → list_all (λ c. nat_lt c.index b.index) front ≡ true
order_mid [] b back o = refl
order_mid (c ∷ cs) b back o =
    let lt = all_mid (λ (x : Kept). c.index < x.index) cs b back (order_head c (cs ++ b ∷ back) o) in
    and_from (nat_lt c.index b.index) _ (grind (arith, nat_tests, lt)) (order_mid cs b back (order_tail c (cs ++ b ∷ back) o))

-- a volume with so many of its blocks
abbrev pub partly : Volume → List Kept → Volume
partly v bs = record v { blocks = bs }

fits_in : (i done ws : List Volume) (v : Volume) (front : List Kept) (b : Kept) (back : List Kept) (from : ℕ) → i ≡ done ++ v ∷ ws → v.blocks ≡ front ++ b ∷ back → from ≤ length done → IsLaid i → can_fill from (length done) (partly v front) b ≡ true
unfolding can_fill
fits_in i done ws v front b back from is blocks low proper =
    let ok : IsVolume v = all_mid IsVolume done v ws (subst (λ (vs : List Volume). All IsVolume vs) is proper.each) in
    let k : IsKept (blocks_of v.tracks) b = all_mid (IsKept (blocks_of v.tracks)) front b back (subst (λ (bs : List Kept). All (IsKept (blocks_of v.tracks)) bs) blocks ok.kept) in
    let w = k.within in
    and_from (nat_le from (length done)) _ (grind (arith, nat_tests, low))
    (and_from (nat_lt b.index (blocks_of v.tracks)) _ (grind (arith, nat_tests, w)) (order_mid front b back (subst InOrder blocks ok.in_order)))

run-one : (i done ws : List Volume) (v : Volume) → i ≡ done ++ v ∷ ws → IsSoundVolume v → AllPairs (λ x y. agrees x y ≡ true) i → (front back : List Kept) → v.blocks ≡ front ++ back
    → (s : State) → IsFilling i (done ++ partly v front ∷ map bare ws) (length done) s
    → Runs i (after s (map (block_line v.volume) back)) (IsFilling i (done ++ v ∷ map bare ws) (length done) (after s (map (block_line v.volume) back)))
unfolding fill
run-one i done ws v is sound apart front [] blocks s f =
    let all : v.blocks ≡ front = blocks ∙ append-nil front in
    inr (record { stage = f.stage; volumes_are = f.volumes_are ∙ ap (λ bs. done ++ partly v bs ∷ map bare ws) (sym all); place = f.place })
run-one i done ws v is sound apart front (b ∷ back) blocks s f =
    let line : List ℕ = block_line v.volume b in
    let rest : List (List ℕ) = map (block_line v.volume) back in
    let x : Volume = partly v front in
    let vs : List Volume = done ++ x ∷ map bare ws in
    let said : Placed = record { volume = v.volume; block = b } in
    let k : IsKept 65536 b = all_mid (IsKept 65536) front b back (subst (λ (bs : List Kept). All (IsKept 65536) bs) blocks sound.kept) in
    let alone : All (λ w. nat_eq w.volume v.volume ≡ false) done = differs v done (apart_mid done v ws (subst (λ (ys : List Volume). AllPairs (λ y z. agrees y z ≡ true) ys) is apart)) in
    let at : place_of s.volumes v.volume ≡ Some (length done) = ap (λ ys. place_of ys v.volume) f.volumes_are ∙ place_between done x (map bare ws) alone in
    let got : slice_get s.volumes (length done) ≡ Some x = ap (λ ys. slice_get ys (length done)) f.volumes_are ∙ got_between done x (map bare ws) in
    let o : after_line s line ≡ fill_at s b (length done) x = after-block_line s v b sound.volume k f.stage ∙ fill-at s said (length done) x at got in
    let t : State = record s { stage = Filling; volumes = with_block s.volumes (length done) b; place = length done } in
    let Good : Type 0 = IsFilling i (done ++ v ∷ map bare ws) (length done) (after s (line ∷ rest)) in
    elim (can_fill s.place (length done) x b) as (λ c. can_fill s.place (length done) x b ≡ c → Runs i (after s (line ∷ rest)) Good) [
      | false ↦ λ out.
          bad_run i s line rest Good (o ∙ ap (λ (c : Bool). if c then Some t else None) out) (λ proper. let ok = fits_in i done ws v front b back s.place is blocks f.place proper in absurd (cc))
      | true ↦ λ fits.
          let taken : step s line ≡ record t { line = s.line + 1 } = step-some s t line (o ∙ ap (λ (c : Bool). if c then Some t else None) fits) in
          let next = run-one i done ws v is sound apart (front ++ b ∷ []) back (blocks ∙ sym (append_assoc front (b ∷ []) back)) (record t { line = s.line + 1 })
          (record { stage = inr refl; volumes_are = ap (λ ys. with_block ys (length done) b) f.volumes_are ∙ filled_between done x (map bare ws) b; place = omega arith }) in
          let P : State → Type 0 = λ u. Runs i (after u rest) (IsFilling i (done ++ v ∷ map bare ws) (length done) (after u rest)) in
          subst P (sym taken) next
    ] refl

run-blocks : (i done ws : List Volume) → i ≡ done ++ ws → IsSoundImage ws → AllPairs (λ x y. agrees x y ≡ true) i → (s : State) → IsFilling i (done ++ map bare ws) (length done) s
    → Runs i (after s (flat_map block_lines ws)) (IsFilling i i (length i) (after s (flat_map block_lines ws)))
run-blocks i done [] is sound apart s f =
    let all : i ≡ done = is ∙ append-nil done in
    let l : length i ≡ length done = ap length all in
    let p = f.place in
    inr (record { stage = f.stage; volumes_are = f.volumes_are ∙ append-nil done ∙ sym all; place = omega arith })
run-blocks i done (v ∷ ws) is sound apart s f =
    let mine : List (List ℕ) = block_lines v in
    let others : List (List ℕ) = flat_map block_lines ws in
    let P : State → Type 0 = λ u. Runs i u (IsFilling i i (length i) u) in
    let one = run-one i done ws v is (All-head IsSoundVolume v ws sound) apart [] v.blocks refl s f in
    subst P (sym (after-append s mine others)) (elim one [
      | inl bad ↦ inl (after-bad (after s mine) others bad.0, bad.1)
      | inr good ↦
          let n = length-append done (v ∷ []) in
          let p = good.place in
          run-blocks i (done ++ v ∷ []) ws (is ∙ sym (append_assoc done (v ∷ []) ws)) (All-tail IsSoundVolume v ws sound) apart (after s mine)
          (record { stage = good.stage; volumes_are = good.volumes_are ∙ sym (append_assoc done (v ∷ []) (map bare ws)); place = omega arith })
    ])

-- the whole text
pub record IsWhole (i : List Volume) (t : State) : Type 0 where
  pub stage : t.stage ≡ Ended
  pub volumes : t.volumes ≡ i

after-end : (s : State) → IsOpen s.stage → after_line s (codes "end") ≡ Some (record s { stage = Ended })
after-end s stage = by_open s (codes "end") stage

run-end : (i : List Volume) (s : State) → Runs i s (IsFilling i i (length i) s) → Runs i (after s (codes "end" ∷ [])) (IsWhole i (after s (codes "end" ∷ [])))
run-end i s (inl bad) = inl (after-bad s (codes "end" ∷ []) bad.0, bad.1)
run-end i s (inr good) =
    let t : State = record s { stage = Ended } in
    let taken : step s (codes "end") ≡ record t { line = s.line + 1 } = step-some s t (codes "end") (after-end s good.stage) in
    let P : State → Type 0 = λ u. Runs i u (IsWhole i u) in
    subst P (sym taken) (inr (record { stage = refl; volumes = good.volumes_are }))

begun : State
begun = record { stage = Listing; line = 2; volumes = []; place = 0 }

step-begin : step begin (codes "image 1") ≡ begun
unfolding step begun
step-begin = refl

run-listed : (i : List Volume) → IsSoundImage i → (s : State) → Runs i s (IsListed i s) → Runs i (after s (flat_map block_lines i)) (IsFilling i i (length i) (after s (flat_map block_lines i)))
run-listed i sound s (inl bad) = inl (after-bad s (flat_map block_lines i) bad.0, bad.1)
run-listed i sound s (inr good) =
    let p = good.place in
    run-blocks i [] i refl sound good.apart s (record { stage = inl good.stage; volumes_are = good.volumes; place = omega arith })

pub run-image : (i : List Volume) → IsSoundImage i → Runs i (after begin (image_lines i)) (IsWhole i (after begin (image_lines i)))
unfolding begun
run-image i sound =
    let first : List (List ℕ) = codes "image 1" ∷ map volume_line i in
    let blocks : List (List ℕ) = flat_map block_lines i in
    let P : State → Type 0 = λ u. Runs i u (IsWhole i u) in
    let Q : State → Type 0 = λ u. Runs i (after u (map volume_line i)) (IsListed i (after u (map volume_line i))) in
    let listed = subst Q (sym step-begin) (run-volumes i [] i refl sound (pairs_nil (λ (x : Volume) (y : Volume). agrees x y ≡ true)) begun refl refl refl) in
    let filled = run-listed i sound (after begin first) listed in
    subst P (sym (after-append begin (first ++ blocks) (codes "end" ∷ [])))
    (let R : State → Type 0 = λ u. Runs i (after u (codes "end" ∷ [])) (IsWhole i (after u (codes "end" ∷ []))) in
    subst R (sym (after-append begin first blocks)) (run-end i (after (after begin first) blocks) filled))

reading-written : (i : List Volume) → IsSoundImage i → reading (image_text i) ≡ finished (after begin (image_lines i)) (after begin (image_lines i)).stage []
unfolding reading image_text
reading-written i sound = reads-lines begin (image_lines i) (image_no_feeds i sound)

-- the image whose text reads as an image is that image
pub written-reads : (i j : List Volume) → IsSoundImage i → reading (image_text i) ≡ Ok j → j ≡ i
unfolding checked
written-reads i j sound e =
    let t : State = after begin (image_lines i) in
    let ends : finished t t.stage [] ≡ Ok j = sym (reading-written i sound) ∙ e in
    elim (run-image i sound) [
      | inl bad ↦ absurd (let b = sym (ap (λ g. finished t g []) bad.0) ∙ ends in cc)
      | inr good ↦
          let b : checked t.volumes ≡ Ok j = sym (ap (λ g. finished t g []) good.stage) ∙ ends in
          sym (sourced_ok t.volumes (unsourced t.volumes) j b).1 ∙ good.volumes
    ]

passes_none : {X : Type 0} (p : X → Bool) (xs : List X) → All (λ x. p x ≡ true) xs → length xs ≤ position_or_len (λ x. not (p x)) xs
passes_none p [] h = omega arith
passes_none p (x ∷ xs) h =
    let here : p x ≡ true = All-head (λ y. p y ≡ true) x xs h in
    let rest = passes_none p xs (All-tail (λ y. p y ≡ true) x xs h) in
    let is : position_or_len (λ y. not (p y)) (x ∷ xs) ≡ 1 + position_or_len (λ y. not (p y)) xs = ap (λ (v : Bool). cond (not (not v)) (1 + position_or_len (λ y. not (p y)) xs) 0) here in
    omega arith

all_sourced : (vs : List Volume) → All (λ v. has_source vs v ≡ true) vs → unsourced vs ≡ None
all_sourced vs h =
    let past = passes_none (λ (v : Volume). has_source vs v) vs h in
    let n : ℕ = position_or_len (λ (v : Volume). not (has_source vs v)) vs in
    let out : nat_lt n (length vs) ≡ false = grind (arith, nat_tests, past) in
    ap (λ (b : Bool). cond b (Some n) None) out

pub proper-sound : (v : Volume) → IsVolume v → IsSoundVolume v
proper-sound v p = record {
  volume = p.volume;
  server = (let s = p.server in omega arith);
  tracks = (let t = p.tracks in omega arith);
  kept = All-weaker (IsKept (blocks_of v.tracks)) (IsKept 65536) (λ b k. let t = p.tracks in let w = k.within in record { within = omega arith; whole = k.whole; bytes = k.bytes; some = k.some }) v.blocks p.kept;
  in_order = p.in_order;
}

-- a proper image's text reads as that image
pub proper-reads : (i : List Volume) → IsImage i → reading (image_text i) ≡ Ok i
unfolding checked
proper-reads i proper =
    let sound : IsSoundImage i = All-weaker IsVolume IsSoundVolume proper-sound i proper.laid.each in
    let t : State = after begin (image_lines i) in
    elim (run-image i sound) [
      | inl bad ↦ absurd (bad.1 proper.laid)
      | inr good ↦
          reading-written i sound ∙ ap (λ g. finished t g []) good.stage
          ∙ ap checked good.volumes ∙ ap (sourced i) (all_sourced i proper.sources)
    ]
