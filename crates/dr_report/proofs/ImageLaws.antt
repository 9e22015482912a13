-- What is found by what the devices say is what is found in the image.
use Rattle.std.proofs.Common.{◌≡◌, ℕ, zero, suc, ◌+◌, ◌<◌, ◌≤◌, ◌⊎◌, inl, inr, Bool, true, false, not, cond, List, [], ◌∷◌, ◌++◌, length, map, filter, get_or, refl, ap, sym, ◌∙◌, subst, arith, Option, Some, None, option_map, nat_eq, nat_lt, if◌then◌else◌}
use Rattle.std.specs.Prelude.{All, AllPairs, codes, is_some}
use Rattle.std.specs.Fmt.{decimal}
use Rattle.std.specs.FinSet.{contains}
use Rattle.std.specs.List.{flat_map, range_with_len}
use Rattle.std.proofs.lemmas.Bool.{cases_Bool}
use Rattle.std.proofs.lemmas.Bool.Decides.{nat_tests}
use Rattle.std.proofs.lemmas.List.{length-map}
use Rattle.std.proofs.lemmas.List.Concat.{flat_map-cons}
use Rattle.std.proofs.lemmas.List.FromFn.{get_or-map-range_with_len, length-map-range_with_len}
use Rattle.dr_logic.specs.Bytes.{zeros}
use Rattle.dr_ids.specs.Sizes.{blocks_of, track_block}
use Rattle.dr_ids.specs.declared.refusal.Decision.{Decision}
use Rattle.dr_model.specs.Decisions.{decision, numbers_in}
use Rattle.dr_model.specs.Groups.{In}
use Rattle.dr_model.specs.Layout.{Fields, fields, staged, is_staged, only_if, chosen, physical}
use Rattle.dr_model.specs.Offline as offline
use Rattle.dr_model.specs.Offline.{volume_in, record_of, records_in, contents_in, volumes_in, counted_in, decided_of, recovery_of, recovery_lines, track_lines, size_of, offline_text, bytes_line, decision_words, group_words}
use Rattle.dr_model.specs.PlantImage.{Volume, Kept, IsKept, IsVolume, IsLaid, agrees, block_in, device_blocks, ended}
use Rattle.dr_model.specs.Recovery.{common, goes_back, image_after, number_after, remains_in}
use Rattle.dr_model.specs.RecoveryPlans.{lets_revert}
use Rattle.dr_model.specs.SessionEntries.{counts_in, shown_of}
use Rattle.dr_model.specs.Text.{trimmed}
use Rattle.dr_model.specs.Views as views
use Rattle.dr_image.proofs.OrderLemmas.{pairs_head, pairs_tail}
use Rattle.dr_image.proofs.RoundLaws.{other}
use Rattle.dr_facts.proofs.Lists.{found}
use Rattle.dr_report.specs.Known.{Known, known_by, known_in, shown_track, track_in, track_of}
use Rattle.dr_report.specs.Report.{counted, decided_over, lines_among, report_by}
use Rattle.dr_report.specs.Found.{found_among, found_in, found_known}
use Rattle.dr_report.proofs.Chosen.{first-known}
use Rattle.dr_report.proofs.FoundLaws.{found-as-many}

-- one of a list of which each is so
all-in : {X : Type 0} (P : X → Type 0) (xs : List X) → All P xs → (x : X) → In x xs → P x
all-in P [] all x h = absurd h
all-in P (z ∷ xs) all x (inl is) = subst P (sym is) (all zero z (omega arith))
all-in P (z ∷ xs) all x (inr h) = all-in P xs (λ k d within. all (suc k) d (omega arith)) x h

-- all are distinct
abbrev Apart : List Volume → Type 0
Apart vs = AllPairs (λ (v : Volume) (w : Volume). agrees v w ≡ true) vs

-- each volume is found by its number
each-found : (vs : List Volume) → Apart vs → (w : Volume) → In w vs → volume_in vs w.volume ≡ Some w
each-found [] apart w h = absurd h
each-found (v ∷ vs) apart w (inl is) =
    let same : nat_eq v.volume v.volume ≡ true = grind (arith, nat_tests) in
    subst (λ (x : Volume). volume_in (v ∷ vs) x.volume ≡ Some x) (sym is) (ap (λ b. cond b (Some v) (volume_in vs v.volume)) same)
each-found (v ∷ vs) apart w (inr h) =
    let apart_from = other v w (all-in (λ (y : Volume). agrees v y ≡ true) vs (pairs_head (λ (x : Volume) (y : Volume). agrees x y ≡ true) v vs apart) w h) in
    ap (λ b. cond b (Some v) (volume_in vs w.volume)) apart_from ∙ each-found vs (pairs_tail (λ (x : Volume) (y : Volume). agrees x y ≡ true) v vs apart) w h

-- behind the last block all are zeros
block-past : (bs : List Kept) (n k : ℕ) → All (IsKept n) bs → n ≤ k → block_in bs k ≡ zeros
block-past [] n k all le = refl
block-past (b ∷ bs) n k all le =
    let low : b.index < n = (all zero b (omega arith)).within in
    let off : nat_eq b.index k ≡ false = grind (arith, nat_tests, low, le) in
    ap (λ v. if v then b.bytes else block_in bs k) off ∙ block-past bs n k (λ j d within. all (suc j) d (omega arith)) le

past-end : (xs : List (List ℕ)) (k : ℕ) (d : List ℕ) → length xs ≤ k → get_or xs k d ≡ d
past-end [] k d le = refl
past-end (x ∷ xs) zero d le = absurd (omega arith)
past-end (x ∷ xs) (suc k) d le = past-end xs k d (omega arith)

-- a track's own block, also where there is no such track
own-block : (w : Volume) → All (IsKept (blocks_of w.tracks)) w.blocks → (t : ℕ) → get_or (map (device_blocks w) (range_with_len 0 (blocks_of w.tracks))) (track_block t) zeros ≡ device_blocks w (track_block t)
own-block w kept t = by (cases_Bool (nat_lt (track_block t) (blocks_of w.tracks)))
  where
    by : (nat_lt (track_block t) (blocks_of w.tracks) ≡ true) ⊎ (nat_lt (track_block t) (blocks_of w.tracks) ≡ false) → get_or (map (device_blocks w) (range_with_len 0 (blocks_of w.tracks))) (track_block t) zeros ≡ device_blocks w (track_block t)
    by (inl e) =
        let lt : track_block t < blocks_of w.tracks = grind (arith, nat_tests, e) in
        get_or-map-range_with_len (device_blocks w) 0 (blocks_of w.tracks) (track_block t) (track_block t) zeros (omega arith) (let z : 0 + (track_block t) ≡ track_block t = omega arith in z)
    by (inr e) =
        let le : blocks_of w.tracks ≤ track_block t = grind (arith, nat_tests, e) in
        let len : length (map (device_blocks w) (range_with_len 0 (blocks_of w.tracks))) ≡ blocks_of w.tracks = length-map-range_with_len (device_blocks w) 0 (blocks_of w.tracks) in
        past-end (map (device_blocks w) (range_with_len 0 (blocks_of w.tracks))) (track_block t) zeros (omega arith) ∙ sym (block-past w.blocks (blocks_of w.tracks) (track_block t) kept (omega arith))

staged-or : (o : Option ℕ) (t : ℕ) (bytes x y : List ℕ) → x ≡ y → (if is_staged o t then only_if (is_some o) bytes zeros else x) ≡ (if is_staged o t then bytes else y)
staged-or None t bytes x y e = e
staged-or (Some s) t bytes x y e = ap (λ r. if nat_eq t s then bytes else r) e

-- a track, by what is known of its volume
known-track : (w : Volume) → IsVolume w → (t : ℕ) → track_in (known_by w) t ≡ physical w.tracks (device_blocks w) t
unfolding physical
known-track w is t =
    staged-or (staged w.tracks (device_blocks w)) t (chosen (device_blocks w) 5) _ _
    (ap (λ r. if contains (fields w.tracks (device_blocks w)).blank t then zeros else r) (own-block w is.kept t))

-- a track of the volume of a number, if there is one
known-content : (vs : List Volume) → All IsVolume vs → (v t : ℕ) → track_of (known_in (map known_by vs) v) t ≡ contents_in vs v t
known-content vs each v t = ap (λ o. track_of o t) (first-known (λ (k : Known). nat_eq k.volume v) known_by vs) ∙ by (volume_in vs v) refl
  where
    by : (o : Option Volume) → volume_in vs v ≡ o → track_of (option_map known_by o) t ≡ offline.track_of o t
    by None e = refl
    by (Some w) e = known-track w (all-in IsVolume vs each w (found (λ (x : Volume). nat_eq x.volume v) vs w e).0) t

back-or-not : {X : Type 0} (back own source : Bool) (mine other : X) → (if back then (if own then mine else other) else (if source then other else mine)) ≡ (if (if back then not own else source) then other else mine)
back-or-not true true source mine other = refl
back-or-not true false source mine other = refl
back-or-not false own true mine other = refl
back-or-not false own false mine other = refl

module _ (vs : List Volume) (laid : IsLaid vs) where
  here : (w : Volume) → In w vs → volume_in vs w.volume ≡ Some w
  here w h = each-found vs laid.apart w h

  record-here : (w : Volume) → In w vs → records_in vs w.volume ≡ (known_by w).fields
  record-here w h = ap record_of (here w h)

  -- what a track shows then
  known-image : (reverts : Bool) (w : Volume) → In w vs → (t : ℕ) → image_after reverts (records_in vs) (contents_in vs) w.volume t ≡ shown_track reverts (known_in (map known_by vs) (known_by w).fields.source) (known_by w) t
  known-image reverts w h t =
      let k : Known = known_by w in
      let mine : contents_in vs w.volume t ≡ track_in k t = ap (λ o. offline.track_of o t) (here w h) ∙ sym (known-track w (all-in IsVolume vs laid.each w h) t) in
      (λ i. if goes_back reverts (record-here w h i) then (if contains (record-here w h i).previous_own t then mine i else contents_in vs (record-here w h i).source t)
      else (if views.shows_source (record-here w h i) t then contents_in vs (record-here w h i).source t else mine i))
      ∙ back-or-not (goes_back reverts k.fields) (contains k.fields.previous_own t) (views.shows_source k.fields t) (track_in k t) (contents_in vs k.fields.source t)
      ∙ ap (λ x. if (if goes_back reverts k.fields then not (contains k.fields.previous_own t) else views.shows_source k.fields t) then x else track_in k t) (sym (known-content vs laid.each k.fields.source t))

  -- the lines of a volume's tracks
  known-lines : (reverts : Bool) (w : Volume) → In w vs → flat_map (λ t. bytes_line w.volume t (trimmed (image_after reverts (records_in vs) (contents_in vs) w.volume t))) (range_with_len 0 (size_of (volume_in vs w.volume))) ≡ lines_among reverts (map known_by vs) (known_by w)
  known-lines reverts w h i = flat_map (λ t. bytes_line w.volume t (trimmed (known-image reverts w h t i))) (range_with_len 0 (size_of (here w h i)))

  -- what some of the volumes give
  some-same : {Y : Type 0} (p : Fields → Bool) (f : Fields → Y) (ws : List Volume) → ((w : Volume) → In w ws → In w vs)
      → map (λ v. f (records_in vs v)) (filter (λ v. p (records_in vs v)) (volumes_in ws)) ≡ map (λ (k : Known). f k.fields) (filter (λ (k : Known). p k.fields) (map known_by ws))
  some-same p f [] each = refl
  some-same p f (w ∷ ws) each =
      ap (λ g. map (λ v. f (records_in vs v)) (cond (p g) (w.volume ∷ filter (λ v. p (records_in vs v)) (volumes_in ws)) (filter (λ v. p (records_in vs v)) (volumes_in ws)))) (record-here w (each w (inl refl)))
      ∙ by (p (known_by w).fields) (some-same p f ws (λ x h. each x (inr h)))
    where
      by : (b : Bool)
          → map (λ v. f (records_in vs v)) (filter (λ v. p (records_in vs v)) (volumes_in ws)) ≡ map (λ (k : Known). f k.fields) (filter (λ (k : Known). p k.fields) (map known_by ws))
          → map (λ v. f (records_in vs v)) (cond b (w.volume ∷ filter (λ v. p (records_in vs v)) (volumes_in ws)) (filter (λ v. p (records_in vs v)) (volumes_in ws)))
          ≡ map (λ (k : Known). f k.fields) (cond b (known_by w ∷ filter (λ (k : Known). p k.fields) (map known_by ws)) (filter (λ (k : Known). p k.fields) (map known_by ws)))
      by true e = λ i. f (record-here w (each w (inl refl)) i) ∷ e i
      by false e = e

  -- the lines of some of the volumes
  lines-same : (p : Fields → Bool) (reverts : Bool) (lines : ℕ → List (List ℕ)) (ws : List Volume) → ((w : Volume) → In w ws → In w vs) → ((w : Volume) → In w vs → lines w.volume ≡ lines_among reverts (map known_by vs) (known_by w))
      → flat_map lines (filter (λ v. p (records_in vs v)) (volumes_in ws)) ≡ flat_map (lines_among reverts (map known_by vs)) (filter (λ (k : Known). p k.fields) (map known_by ws))
  lines-same p reverts lines [] each same = refl
  lines-same p reverts lines (w ∷ ws) each same =
      ap (λ g. flat_map lines (cond (p g) (w.volume ∷ filter (λ v. p (records_in vs v)) (volumes_in ws)) (filter (λ v. p (records_in vs v)) (volumes_in ws)))) (record-here w (each w (inl refl)))
      ∙ by (p (known_by w).fields) (lines-same p reverts lines ws (λ x h. each x (inr h)) same)
    where
      by : (b : Bool)
          → flat_map lines (filter (λ v. p (records_in vs v)) (volumes_in ws)) ≡ flat_map (lines_among reverts (map known_by vs)) (filter (λ (k : Known). p k.fields) (map known_by ws))
          → flat_map lines (cond b (w.volume ∷ filter (λ v. p (records_in vs v)) (volumes_in ws)) (filter (λ v. p (records_in vs v)) (volumes_in ws)))
          ≡ flat_map (lines_among reverts (map known_by vs)) (cond b (known_by w ∷ filter (λ (k : Known). p k.fields) (map known_by ws)) (filter (λ (k : Known). p k.fields) (map known_by ws)))
      by true e =
          flat_map-cons lines w.volume (filter (λ v. p (records_in vs v)) (volumes_in ws)) ∙ (λ i. same w (each w (inl refl)) i ++ e i)
          ∙ sym (flat_map-cons (lines_among reverts (map known_by vs)) (known_by w) (filter (λ (k : Known). p k.fields) (map known_by ws)))
      by false e = e

  all : (w : Volume) → In w vs → In w vs
  all w h = h

  count-same : (s : ℕ) → length (counted_in vs s) ≡ length (counted s (map known_by vs))
  count-same s =
      sym (length-map (counted_in vs s) (λ v. records_in vs v)) ∙ ap length (some-same (counts_in s) (λ f. f) vs all) ∙ length-map (counted s (map known_by vs)) (λ (k : Known). k.fields)

  decided-same : (s : ℕ) → decided_of vs s ≡ decided_over s (map known_by vs)
  decided-same s = ap decision (some-same (counts_in s) shown_of vs all)

  report-same : (s : ℕ) → recovery_lines vs s (recovery_of vs s) ≡ report_by s (decided_over s (map known_by vs)) (map known_by vs)
  report-same s = λ i.
      let d : Decision = decided-same s i in
      (codes "members " ++ decimal (count-same s i))
      ∷ (codes "decision " ++ decision_words d)
      ∷ (codes "group " ++ group_words (common (numbers_in (some-same (remains_in s (lets_revert (decided-same s i))) (number_after (lets_revert (decided-same s i))) vs all i))))
      ∷ lines-same (remains_in s (lets_revert (decided-same s i))) (lets_revert (decided-same s i)) (λ v. flat_map (λ t. bytes_line v t (trimmed (image_after (lets_revert (decided-same s i)) (records_in vs) (contents_in vs) v t))) (range_with_len 0 (size_of (volume_in vs v)))) vs all (known-lines (lets_revert (decided-same s i))) i

-- what is found by what the devices say is what is found in the image
pub found-same : (vs : List Volume) (s : ℕ) → IsLaid vs → found_known s (map known_by vs) ≡ found_in vs s
found-same vs s laid =
    found-as-many (counted s (map known_by vs)) (counted_in vs s) _ _ (sym (count-same vs laid s))
    ∙ sym (λ i. found_among (counted_in vs s) (decided-same vs laid s i) (ended (report-same vs laid s i)))
