-- What a line is that can stand, and what it makes of the lines before it.
use Rattle.std.proofs.Common.{ℕ, ◌≡◌, ◌<◌, ◌≤◌, List, [], ◌∷◌, ◌++◌, refl, ap, ◌∙◌, sym, subst, arith, true, false, ◌&&◌, nat_le, Some, None, append-nil, ◌⊎◌, inl, inr}
use Rattle.std.specs.Prelude.{codes, if◌then◌else◌}
use Rattle.std.specs.Fmt.{decimal}
use Rattle.std.specs.List.{slice_get, join_with_byte}
use Rattle.std.specs.Str.{bytes_eq}
use Rattle.std.proofs.lemmas.Bool.Decides.{nat_tests}
use Rattle.std.proofs.lemmas.List.Splits.{join_with_byte-slice_split}
use Rattle.std.proofs.lemmas.Bool.{and_parts}
use Rattle.std.proofs.lemmas.Option.{same_Some}
use Rattle.dr_ids.specs.Spelling.{hex4}
use Rattle.dr_model.specs.LineText.{bytes_text, spaced}
use Rattle.dr_model.specs.LineWords.{◌>>=◌}
use Rattle.dr_model.specs.Text.{trimmed}
use Rattle.dr_model.specs.PlantImage.{words}
use Rattle.dr_model.specs.PlantImage.{Volume, Placed, Stage, Start, Listing, Filling, Ended, Bad, State, volume_line, block_line, id_word, plain_word, kept_word, volume_said, block_said, can_join, join, place_of, can_fill, fill, with_block, is_listing, by_words, by_line, by_stage, after_line}
use Rattle.dr_image.proofs.WordLaws.{passed, IsBlock, id_word-is, plain_word-is, kept_word-is}
use Rattle.dr_facts.proofs.Options.{bound}
use Rattle.dr_logic.proofs.Lists.{same_bytes}

-- a volume as its line says it
pub record IsNew (v : Volume) : Type 0 where
  pub volume : v.volume < 65536
  pub server : v.server ≤ 7
  pub some_tracks : 1 ≤ v.tracks
  pub tracks : v.tracks ≤ 256
  pub blocks : v.blocks ≡ []

abbrev pub IsOpen : Stage → Type 0
IsOpen stage = (stage ≡ Listing) ⊎ (stage ≡ Filling)

-- the line that came, and the lines so far with it
pub data Came (s : State) (line : List ℕ) (t : State) : Type 0 where
  Begun : s.stage ≡ Start → line ≡ codes "image 1" → t ≡ record s { stage = Listing } → Came s line t
  Closed : IsOpen s.stage → line ≡ codes "end" → t ≡ record s { stage = Ended } → Came s line t
  Joined : (v : Volume) → s.stage ≡ Listing → line ≡ volume_line v → IsNew v → can_join s.volumes v ≡ true → t ≡ record s { volumes = s.volumes ++ v ∷ [] } → Came s line t
  Filled : (said : Placed) (p : ℕ) (w : Volume) → IsOpen s.stage → line ≡ block_line said.volume said.block → IsBlock said.block.bytes → place_of s.volumes said.volume ≡ Some p → slice_get s.volumes p ≡ Some w
      → can_fill s.place p w said.block ≡ true → t ≡ record s { stage = Filling; volumes = with_block s.volumes p said.block; place = p } → Came s line t

join-is : (w : List ℕ) (ws : List (List ℕ)) → join_with_byte 32 (w ∷ ws) ≡ w ++ spaced ws
join-is w [] = sym (append-nil w)
join-is w (v ∷ vs) = ap (λ t. w ++ 32 ∷ t) (join-is v vs)

-- a line is its words with spaces between them
pub line-words : (line w : List ℕ) (ws : List (List ℕ)) → words line ≡ w ∷ ws → line ≡ w ++ spaced ws
line-words line w ws e = sym (join_with_byte-slice_split 32 line) ∙ ap (join_with_byte 32) e ∙ join-is w ws

-- the volume that words say
volume_is : (ws : List (List ℕ)) (v : Volume) → volume_said ws ≡ Some v → (codes "volume" ++ spaced ws ≡ volume_line v) × IsNew v
unfolding volume_line
volume_is [] v e = absurd (cc)
volume_is (a ∷ []) v e = absurd (cc)
volume_is (a ∷ b ∷ []) v e = absurd (cc)
volume_is (a ∷ b ∷ c ∷ d ∷ more) v e = absurd (cc)
volume_is (a ∷ b ∷ c ∷ []) v e =
    let i = bound (id_word a) _ v e in
    let s = bound (plain_word b) _ v i.2 in
    let t = bound (plain_word c) _ v s.2 in
    let fits = passed (nat_le s.0 7 && (nat_le 1 t.0 && nat_le t.0 256)) (Some (let n : Volume = record { volume = i.0; server = s.0; tracks = t.0; blocks = [] } in n)) v t.2 in
    let p = and_parts (nat_le s.0 7) _ fits.0 in
    let q = and_parts (nat_le 1 t.0) _ p.1 in
    let wi = id_word-is a i.0 i.1 in
    let ws' = plain_word-is b s.0 s.1 in
    let wt = plain_word-is c t.0 t.1 in
    let is : (let n : Volume = record { volume = i.0; server = s.0; tracks = t.0; blocks = [] } in n) ≡ v = same_Some _ v fits.1 in (
      (λ k. codes "volume" ++ spaced (wi.0 k ∷ ws'.0 k ∷ wt.0 k ∷ [])) ∙ ap (λ (n : Volume). codes "volume" ++ spaced (hex4 n.volume ∷ decimal n.server ∷ decimal n.tracks ∷ [])) is,
      subst IsNew is (record { volume = wi.1; server = (let f = p.0 in grind (arith, nat_tests)); some_tracks = (let f = q.0 in grind (arith, nat_tests)); tracks = (let f = q.1 in grind (arith, nat_tests)); blocks = refl }),
    )

-- the block that words say
block_is : (ws : List (List ℕ)) (said : Placed) → block_said ws ≡ Some said → (codes "block" ++ spaced ws ≡ block_line said.volume said.block) × IsBlock said.block.bytes
unfolding block_line
block_is [] said e = absurd (cc)
block_is (a ∷ []) said e = absurd (cc)
block_is (a ∷ b ∷ []) said e = absurd (cc)
block_is (a ∷ b ∷ c ∷ d ∷ more) said e = absurd (cc)
block_is (a ∷ b ∷ c ∷ []) said e =
    let i = bound (id_word a) _ said e in
    let k = bound (plain_word b) _ said i.2 in
    let x = bound (kept_word c) _ said k.2 in
    let wi = id_word-is a i.0 i.1 in
    let wk = plain_word-is b k.0 k.1 in
    let wx = kept_word-is c x.0 x.1 in
    let is : (let n : Placed = record { volume = i.0; block = record { index = k.0; bytes = x.0 } } in n) ≡ said = same_Some _ said x.2 in (
      (λ j. codes "block" ++ spaced (wi.0 j ∷ wk.0 j ∷ wx.0 j ∷ [])) ∙ ap (λ (n : Placed). codes "block" ++ spaced (hex4 n.volume ∷ decimal n.block.index ∷ bytes_text (trimmed n.block.bytes) ∷ [])) is,
      subst (λ (n : Placed). IsBlock n.block.bytes) is wx.1,
    )

-- a volume that joined
joined : (s t : State) (v : Volume) → join s v ≡ Some t → (can_join s.volumes v ≡ true) × (t ≡ record s { volumes = s.volumes ++ v ∷ [] })
unfolding join
joined s t v e =
    let p = passed (can_join s.volumes v) (Some (record s { volumes = s.volumes ++ v ∷ [] })) t e in
    (p.0, sym (same_Some _ t p.1))

-- a block that was filled in
filled : (s t : State) (line : List ℕ) (said : Placed) → IsOpen s.stage → line ≡ block_line said.volume said.block → IsBlock said.block.bytes → fill s said ≡ Some t → Came s line t
unfolding fill
filled s t line said open_stage is block e =
    let p = bound (place_of s.volumes said.volume) _ t e in
    let w = bound (slice_get s.volumes p.0) _ t p.2 in
    let c = passed (can_fill s.place p.0 w.0 said.block) (Some (record s { stage = Filling; volumes = with_block s.volumes p.0 said.block; place = p.0 })) t w.2 in
    Filled said p.0 w.0 open_stage is block p.1 w.1 c.0 (sym (same_Some _ t c.1))

listing : (stage : Stage) → is_listing stage ≡ true → stage ≡ Listing
listing Start e = absurd (cc)
listing Listing e = refl
listing Filling e = absurd (cc)
listing Ended e = absurd (cc)
listing Bad e = absurd (cc)

words_came : (s t : State) (line : List ℕ) (ws : List (List ℕ)) → IsOpen s.stage → words line ≡ ws → by_words s ws ≡ Some t → Came s line t
unfolding by_words
words_came s t line [] open_stage cut e = absurd (cc)
words_came s t line (word ∷ rest) open_stage cut e =
    let text : line ≡ word ++ spaced rest = line-words line word rest cut in
    elim (bytes_eq word (codes "volume")) as (λ v. bytes_eq word (codes "volume") ≡ v → (if v then (if is_listing s.stage then volume_said rest >>= join s else None) else if bytes_eq word (codes "block") then block_said rest >>= fill s else None) ≡ Some t → Came s line t) [
      | true ↦ λ is h.
          let l = passed (is_listing s.stage) (volume_said rest >>= join s) t h in
          let v = bound (volume_said rest) (join s) t l.1 in
          let line_is = volume_is rest v.0 v.1 in
          let done = joined s t v.0 v.2 in
          Joined v.0 (listing s.stage l.0) (text ∙ ap (λ w. w ++ spaced rest) (same_bytes word (codes "volume") is) ∙ line_is.0) line_is.1 done.0 done.1
      | false ↦ λ is h.
          let b = passed (bytes_eq word (codes "block")) (block_said rest >>= fill s) t h in
          let said = bound (block_said rest) (fill s) t b.1 in
          let line_is = block_is rest said.0 said.1 in
          filled s t line said.0 open_stage (text ∙ ap (λ w. w ++ spaced rest) (same_bytes word (codes "block") b.0) ∙ line_is.0) line_is.1 said.2
    ] refl e

line_came : (s t : State) (line : List ℕ) → IsOpen s.stage → by_line s line ≡ Some t → Came s line t
line_came s t line open_stage e =
    elim (bytes_eq line (codes "end")) as (λ v. bytes_eq line (codes "end") ≡ v → (if v then Some (record s { stage = Ended }) else by_words s (words line)) ≡ Some t → Came s line t) [
      | true ↦ λ is h. Closed open_stage (same_bytes line (codes "end") is) (sym (same_Some _ t h))
      | false ↦ λ is h. words_came s t line (words line) open_stage refl h
    ] refl e

stage_came : (s t : State) (line : List ℕ) (stage : Stage) → s.stage ≡ stage → by_stage stage s line ≡ Some t → Came s line t
stage_came s t line Start is e = let p = passed (bytes_eq line (codes "image 1")) (Some (record s { stage = Listing })) t e in Begun is (same_bytes line (codes "image 1") p.0) (sym (same_Some _ t p.1))
stage_came s t line Listing is e = line_came s t line (inl is) e
stage_came s t line Filling is e = line_came s t line (inr is) e
stage_came s t line Ended is e = absurd (cc)
stage_came s t line Bad is e = absurd (cc)

-- a line that can stand is one of these
pub came : (s t : State) (line : List ℕ) → after_line s line ≡ Some t → Came s line t
came s t line e = stage_came s t line s.stage refl e
