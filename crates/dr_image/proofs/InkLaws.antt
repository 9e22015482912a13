-- The words of an image's lines have neither spaces nor line feeds.
use Rattle.std.proofs.Common.{ℕ, ◌≡◌, ◌<◌, ◌/◌, ◌%◌, ◌^◌, List, [], ◌∷◌, ◌++◌, map, refl, ap, ◌∙◌, arith, true, false, not, nat_lt, append-nil}
use Rattle.std.specs.Prelude.{All, codes}
use Rattle.std.specs.Fmt.{decimal}
use Rattle.std.specs.Char.{digit_value}
use Rattle.std.specs.Str.Parse.{AllDigits}
use Rattle.std.specs.List.{list_all, flat_map}
use Rattle.std.proofs.lemmas.Bool.Decides.{nat_tests}
use Rattle.std.proofs.lemmas.Grind.{common_steps}
use Rattle.std.proofs.lemmas.Fmt.{decimal_is_IsNumeral}
use Rattle.std.proofs.lemmas.List.Elements.{All-nil, All-cons, All-append, All-weaker, All-head, All-tail}
use Rattle.std.proofs.lemmas.List.Splits.{slice_split_at, slice_split_none}
use Rattle.std.proofs.lemmas.Bool.{not-true}
use Rattle.dr_ids.specs.Spelling.{upper_digit, hex2, hex4}
use Rattle.dr_model.specs.LineText.{bytes_text, spaced}
use Rattle.dr_model.specs.Text.{trimmed}
use Rattle.dr_model.specs.PlantImage.{is_space, words}
use Rattle.dr_model.specs.PlantImage.{Kept, Volume, IsKept, is_line_feed, volume_line, block_line, block_lines, image_lines}
use Rattle.dr_image.specs.Sound.{IsSoundImage, IsSoundVolume}
use Rattle.dr_image.proofs.StepLaws.{all_from_test}
use Rattle.dr_image.proofs.ReadLemmas.{NoLineFeed}

-- bytes above the space
abbrev pub Ink : List ℕ → Type 0
Ink w = All (λ b. 32 < b) w

upper_ink : (n : ℕ) → 32 < upper_digit n
upper_ink n = let t : nat_lt 32 (upper_digit n) ≡ true = grind (arith, common_steps, nat_tests) in grind (arith, nat_tests, t)

pair_ink : (a b : ℕ) (rest : List ℕ) → Ink rest → Ink (upper_digit a ∷ upper_digit b ∷ rest)
pair_ink a b rest r = All-cons (λ x. 32 < x) (upper_digit a) (upper_digit b ∷ rest) (upper_ink a) (All-cons (λ x. 32 < x) (upper_digit b) rest (upper_ink b) r)

pub hex4_ink : (n : ℕ) → Ink (hex4 n)
hex4_ink n = pair_ink (n / 256 / 16) (n / 256 % 16) (hex2 (n % 256)) (pair_ink (n % 256 / 16) (n % 256 % 16) [] (All-nil (λ x. 32 < x)))

pub bytes_ink : (bs : List ℕ) → Ink (bytes_text bs)
bytes_ink [] = All-nil (λ x. 32 < x)
bytes_ink (b ∷ bs) = pair_ink (b / 16) (b % 16) (bytes_text bs) (bytes_ink bs)

digit_ink : (c : ℕ) → digit_value c < 10 → 32 < c
digit_ink c lt = let t : nat_lt 32 c ≡ true = grind (arith, common_steps, nat_tests) in grind (arith, nat_tests, t)

digits_ink : (ds : List ℕ) → AllDigits 10 ds → Ink ds
digits_ink [] all = All-nil (λ x. 32 < x)
digits_ink (d ∷ ds) all = All-cons (λ x. 32 < x) d ds (digit_ink d all.0) (digits_ink ds all.1)

pub decimal_ink : (n : ℕ) → n < 2 ^ 32 → Ink (decimal n)
decimal_ink n lt = let p = decimal_is_IsNumeral n (omega arith) in digits_ink (decimal n) p.0.1

word_ink : (w : List ℕ) → list_all (λ b. nat_lt 32 b) w ≡ true → Ink w
word_ink w e = All-weaker (λ b. nat_lt 32 b ≡ true) (λ b. 32 < b) (λ b t. grind (arith, nat_tests)) w (all_from_test (λ b. nat_lt 32 b) w e)

abbrev pub AllInk : List (List ℕ) → Type 0
AllInk [] = Unit {0}
AllInk (w ∷ ws) = Ink w × AllInk ws

no_space : (w : List ℕ) → Ink w → All (λ b. is_space b ≡ false) w
no_space w i = All-weaker (λ b. 32 < b) (λ b. is_space b ≡ false) (λ b lt. grind (arith, nat_tests)) w i

pub no_feed : (w : List ℕ) → Ink w → NoLineFeed w
no_feed w i = All-weaker (λ b. 32 < b) (λ b. is_line_feed b ≡ false) (λ b lt. grind (arith, nat_tests)) w i

-- words with spaces between them are cut into these words
pub words-spaced : (w : List ℕ) (ws : List (List ℕ)) → Ink w → AllInk ws → words (w ++ spaced ws) ≡ w ∷ ws
words-spaced w [] i all = ap words (append-nil w) ∙ slice_split_none is_space w (no_space w i)
words-spaced w (v ∷ vs) i all = slice_split_at is_space w 32 (v ++ spaced vs) (no_space w i) refl ∙ ap (λ xs. w ∷ xs) (words-spaced v vs all.0 all.1)

spaced_no_feed : (ws : List (List ℕ)) → AllInk ws → NoLineFeed (spaced ws)
spaced_no_feed [] all = All-nil (λ b. is_line_feed b ≡ false)
spaced_no_feed (w ∷ ws) all =
    All-cons (λ b. is_line_feed b ≡ false) 32 (w ++ spaced ws) refl (All-append (λ b. is_line_feed b ≡ false) w (spaced ws) (no_feed w all.0) (spaced_no_feed ws all.1))

volume_inked : (v : Volume) → IsSoundVolume v → AllInk (hex4 v.volume ∷ decimal v.server ∷ decimal v.tracks ∷ [])
volume_inked v s = let a = s.server in let b = s.tracks in (hex4_ink v.volume, (decimal_ink v.server (omega arith), (decimal_ink v.tracks (omega arith), tt)))

pub volume-words : (v : Volume) → IsSoundVolume v → words (volume_line v) ≡ codes "volume" ∷ hex4 v.volume ∷ decimal v.server ∷ decimal v.tracks ∷ []
unfolding volume_line
volume-words v s = words-spaced (codes "volume") (hex4 v.volume ∷ decimal v.server ∷ decimal v.tracks ∷ []) (word_ink (codes "volume") refl) (volume_inked v s)

block_inked : (id : ℕ) (b : Kept) → b.index < 65536 → AllInk (hex4 id ∷ decimal b.index ∷ bytes_text (trimmed b.bytes) ∷ [])
block_inked id b lt = (hex4_ink id, (decimal_ink b.index (omega arith), (bytes_ink (trimmed b.bytes), tt)))

pub block-words : (id : ℕ) (b : Kept) → b.index < 65536 → words (block_line id b) ≡ codes "block" ∷ hex4 id ∷ decimal b.index ∷ bytes_text (trimmed b.bytes) ∷ []
unfolding block_line
block-words id b lt = words-spaced (codes "block") (hex4 id ∷ decimal b.index ∷ bytes_text (trimmed b.bytes) ∷ []) (word_ink (codes "block") refl) (block_inked id b lt)

-- no line of an image has a line feed
volume_no_feed : (v : Volume) → IsSoundVolume v → NoLineFeed (volume_line v)
unfolding volume_line
volume_no_feed v s = All-append (λ b. is_line_feed b ≡ false) (codes "volume") (spaced (hex4 v.volume ∷ decimal v.server ∷ decimal v.tracks ∷ [])) (no_feed (codes "volume") (word_ink (codes "volume") refl)) (spaced_no_feed (hex4 v.volume ∷ decimal v.server ∷ decimal v.tracks ∷ []) (volume_inked v s))

block_no_feed : (id : ℕ) (b : Kept) → b.index < 65536 → NoLineFeed (block_line id b)
unfolding block_line
block_no_feed id b lt = All-append (λ b. is_line_feed b ≡ false) (codes "block") (spaced (hex4 id ∷ decimal b.index ∷ bytes_text (trimmed b.bytes) ∷ [])) (no_feed (codes "block") (word_ink (codes "block") refl)) (spaced_no_feed (hex4 id ∷ decimal b.index ∷ bytes_text (trimmed b.bytes) ∷ []) (block_inked id b lt))

abbrev pub NoFeeds : List (List ℕ) → Type 0
NoFeeds [] = Unit {0}
NoFeeds (l ∷ ls) = NoLineFeed l × NoFeeds ls

no_feeds-append : (a b : List (List ℕ)) → NoFeeds a → NoFeeds b → NoFeeds (a ++ b)
no_feeds-append [] b x y = y
no_feeds-append (l ∷ ls) b x y = (x.0, no_feeds-append ls b x.1 y)

literal : (w : List ℕ) → list_all (λ b. not (is_line_feed b)) w ≡ true → NoLineFeed w
literal w e = All-weaker (λ b. not (is_line_feed b) ≡ true) (λ b. is_line_feed b ≡ false) (λ b t. not-true (is_line_feed b) t) w (all_from_test (λ b. not (is_line_feed b)) w e)

volumes_no_feeds : (vs : List Volume) → IsSoundImage vs → NoFeeds (map volume_line vs)
volumes_no_feeds [] s = tt
volumes_no_feeds (v ∷ vs) s = (volume_no_feed v (All-head IsSoundVolume v vs s), volumes_no_feeds vs (All-tail IsSoundVolume v vs s))

kept_no_feeds : (id : ℕ) (bs : List Kept) → All (IsKept 65536) bs → NoFeeds (map (block_line id) bs)
kept_no_feeds id [] k = tt
kept_no_feeds id (b ∷ bs) k = (block_no_feed id b (All-head (IsKept 65536) b bs k).within, kept_no_feeds id bs (All-tail (IsKept 65536) b bs k))

blocks_no_feeds : (vs : List Volume) → IsSoundImage vs → NoFeeds (flat_map block_lines vs)
blocks_no_feeds [] s = tt
blocks_no_feeds (v ∷ vs) s = no_feeds-append (block_lines v) (flat_map block_lines vs) (kept_no_feeds v.volume v.blocks (All-head IsSoundVolume v vs s).kept) (blocks_no_feeds vs (All-tail IsSoundVolume v vs s))

pub image_no_feeds : (vs : List Volume) → IsSoundImage vs → NoFeeds (image_lines vs)
image_no_feeds vs s =
    no_feeds-append ((codes "image 1" ∷ map volume_line vs) ++ flat_map block_lines vs) (codes "end" ∷ [])
    (no_feeds-append (codes "image 1" ∷ map volume_line vs) (flat_map block_lines vs) (literal (codes "image 1") refl, volumes_no_feeds vs s) (blocks_no_feeds vs s))
    (literal (codes "end") refl, tt)
