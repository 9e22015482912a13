-- The message of a number in a list in which numbers rise: where it stands, and what is left without it.
use Rattle.std.proofs.Common.{◌≡◌, ◌≢◌, ℕ, zero, suc, ◌<◌, ◌≤◌, Bool, true, false, not, cond, ⊎_elim, List, [], ◌∷◌, length, map, filter, remove, get_or, slice_get, option_map, Option, Some, None, Result, Ok, Err, refl, sym, ◌∙◌, ap, subst, arith, All, AllPairs, IfSome, option_and_then, ◌==◌, nat_lt}
use Rattle.std.specs.List.{find, position, position_or_len}
use Rattle.std.specs.List.Sorted.{IsSearchInRange, IsBinarySearchResult, IsNonDecreasingBy}
use Rattle.std.specs.Ordering.{nat_cmp, ordering_index}
use Rattle.std.specs.Result.{result_ok}
use Rattle.std.proofs.lemmas.Cmp.{ranked}
use Rattle.std.proofs.lemmas.Bool.{cases_eq, cases_lt, eqb-true}
use Rattle.std.proofs.lemmas.Bool.Decides.{nat_tests}
use Rattle.std.proofs.lemmas.List.{get_or-map, length-map}
use Rattle.std.proofs.lemmas.List.Sums.{position_or_len_is}
use Rattle.std.proofs.lemmas.List.Quantifiers.{position-Some}
use Rattle.std.proofs.lemmas.List.Elements.{All-head, All-tail}
use Rattle.std.proofs.lemmas.List.Folds.{find_at}
use Rattle.std.proofs.lemmas.Option.{none-some, slice_get_past, slice_get-map, slice_get-get_or}
use Rattle.dr_model.specs.Messages.{Message}
use Rattle.dr_ctl.specs.declared.message.Numbered.{Numbered}
use Rattle.dr_ctl.specs.declared.message.Message as code
use Rattle.dr_ctl.specs.declared.message.Message.TheVariants.{Order, Reply}
use Rattle.dr_ctl.specs.Kept.{lose_refusal}
use Rattle.dr_ctl.specs.Seen.{message_of, seen}

-- the model sees the number of a message
numbered-so : (n : ℕ) (m : code.Message) → (message_of n m).number ≡ n
numbered-so n (Order s epoch server order starts) = refl
numbered-so n (Reply s epoch server order reply) = refl

-- whether it has number n
abbrev has : ℕ → Message → Bool
has n m = m.number == n

-- numbers rise
abbrev Rises : List Message → Type 0
Rises ms = AllPairs (λ m q. m.number < q.number) ms

-- the number at a place
at-place : (xs : List Numbered) (i : ℕ) (d : Numbered) → i < length xs → (get_or (map seen xs) i (seen d)).number ≡ (get_or xs i d).number
at-place xs i d within = ap (λ (m : Message). m.number) (get_or-map seen xs i d (seen d) within) ∙ numbered-so (get_or xs i d).number (get_or xs i d).message

rises-so : (xs : List Numbered) → Rises (map seen xs) → (i j : ℕ) (d : Numbered) → i < j → j < length xs → (get_or xs i d).number < (get_or xs j d).number
rises-so xs rises i j d lt within =
    let long = length-map xs seen in
    let up = rises i j (seen d) lt (omega arith) in
    let low = at-place xs i d (omega arith) in
    let high = at-place xs j d within in
    omega arith

-- comparisons with n rise, as a binary search asks
comparisons-rise : (xs : List Numbered) (n : ℕ) → Rises (map seen xs) → IsNonDecreasingBy (λ x. ordering_index (nat_cmp x.number n)) xs
comparisons-rise xs n rises i j d le within = ⊎_elim (λ same. omega (arith, ap (λ k. ordering_index (nat_cmp (get_or xs k d).number n)) same)) (λ apart. by (rises-so xs rises i j d (omega arith) within)) (cases_eq i j)
  where
    by : {a b : ℕ} → a < b → ordering_index (nat_cmp a n) ≤ ordering_index (nat_cmp b n)
    by lt = grind (arith, nat_tests)

by-search : (xs : List Numbered) (n : ℕ) (d : Numbered) (r : Result ℕ ℕ) → Rises (map seen xs) → IsSearchInRange r (length xs) → IsBinarySearchResult (λ x. nat_cmp x.number n) xs r → result_ok r ≡ position (has n) (map seen xs)
by-search xs n d (Ok i) rises within equal =
    let long = length-map xs seen in
    let here : (get_or (map seen xs) i (seen d)).number ≡ n = at-place xs i d within ∙ ranked _ n _ (sym (equal d)) in
    let first : position_or_len (has n) (map seen xs) ≡ i = position_or_len_is (has n) (map seen xs) i (seen d) (omega arith)
    (λ k lt. let below = rises k i (seen d) lt (omega arith) in grind (arith, nat_tests))
    (λ _. grind (arith, nat_tests)) in
    let there : nat_lt (position_or_len (has n) (map seen xs)) (length (map seen xs)) ≡ true = grind (arith, nat_tests) in
    λ j. sym (λ l. cond (there l) (Some (first l)) None) j
by-search xs n d (Err i) rises within parted =
    let long = length-map xs seen in
    let parts = parted (comparisons-rise xs n rises) in
    let other : (k : ℕ) → k < length xs → (get_or xs k d).number ≢ n = λ k lt same. ⊎_elim (λ below. let less = ranked _ n _ (sym (parts.0 k d (omega arith) below)) in omega arith) (λ above. let more = ranked _ n _ (sym (parts.1 k d (omega arith) lt)) in omega arith) (cases_lt k i) in
    let last : position_or_len (has n) (map seen xs) ≡ length (map seen xs) = position_or_len_is (has n) (map seen xs) (length (map seen xs)) (seen d) (omega arith)
    (λ k lt. let is = at-place xs k d (omega arith) in let differs = other k (omega arith) in grind (arith, nat_tests))
    (λ lt. absurd (omega arith)) in
    let nowhere : nat_lt (position_or_len (has n) (map seen xs)) (length (map seen xs)) ≡ false = grind (arith, nat_tests) in
    sym (ap (λ b. cond b (Some (position_or_len (has n) (map seen xs))) None) nowhere)

-- a binary search finds the place of the number
pub place-searched : (xs : List Numbered) (n : ℕ) (r : Result ℕ ℕ) → Rises (map seen xs) → IsSearchInRange r (length xs) → IsBinarySearchResult (λ x. nat_cmp x.number n) xs r → result_ok r ≡ position (has n) (map seen xs)
place-searched [] n (Ok i) rises within h = absurd (omega arith)
place-searched [] n (Err i) rises within h = refl
place-searched (x ∷ xs) n r rises within h = by-search (x ∷ xs) n x r rises within h

-- the first that passes is the one at its position
found-by : {X : Type 0} (p : X → Bool) (xs : List X) → find p xs ≡ option_and_then (slice_get xs) (position p xs)
found-by p xs = find_at p xs ∙ by (nat_lt (position_or_len p xs) (length xs)) refl
  where
    by : (b : Bool) → nat_lt (position_or_len p xs) (length xs) ≡ b → slice_get xs (position_or_len p xs) ≡ option_and_then (slice_get xs) (cond b (Some (position_or_len p xs)) None)
    by true is = refl
    by false is = slice_get_past xs (position_or_len p xs) (grind (arith, nat_tests))

-- the message that stands there is the one that is found
pub found-there : (xs : List Numbered) (n i : ℕ) (d : Numbered) → position (has n) (map seen xs) ≡ Some i → Some (message_of n (get_or xs i d).message) ≡ find (has n) (map seen xs)
found-there xs n i d is =
    let ms = map seen xs in
    let at = position-Some (has n) ms i (seen d) is in
    let long = length-map xs seen in
    let x = get_or xs i d in
    let number : x.number ≡ n = sym (at-place xs i d (omega arith)) ∙ eqb-true _ _ at.1 in
    let there : slice_get ms i ≡ Some (seen x) = slice_get-map seen xs i ∙ ap (option_map seen) (slice_get-get_or xs i d (omega arith)) in
    sym (found-by (has n) ms ∙ (ap (option_and_then (slice_get ms)) is ∙ (there ∙ ap (λ k. Some (message_of k x.message)) number)))

-- where none has the number, none is found
pub found-nowhere : (ms : List Message) (n : ℕ) → position (has n) ms ≡ None → find (has n) ms ≡ None
found-nowhere ms n none = found-by (has n) ms ∙ ap (option_and_then (slice_get ms)) none

-- ---- a message is taken out

map-remove : {X Y : Type 0} (f : X → Y) (xs : List X) (i : ℕ) → map f (remove xs i) ≡ remove (map f xs) i
map-remove f [] zero = refl
map-remove f [] (suc i) = refl
map-remove f (x ∷ xs) zero = refl
map-remove f (x ∷ xs) (suc i) = ap (λ ys. f x ∷ ys) (map-remove f xs i)

-- none has the number where all are above it
all-above : (ms : List Message) (n : ℕ) → All (λ m. n < m.number) ms → filter (λ m. not (m.number == n)) ms ≡ ms
all-above [] n above = refl
all-above (m ∷ ms) n above =
    let high : n < m.number = All-head (λ q. n < q.number) m ms above in
    let other : (m.number == n) ≡ false = grind (arith, nat_tests) in
    ap (λ b. cond (not b) (m ∷ filter (λ m. not (m.number == n)) ms) (filter (λ m. not (m.number == n)) ms)) other ∙ ap (λ ys. m ∷ ys) (all-above ms n (All-tail (λ q. n < q.number) m ms above))

rest-rises : (m : Message) (ms : List Message) → Rises (m ∷ ms) → Rises ms
rest-rises m ms rises = λ i j d lt within. rises (suc i) (suc j) d (omega arith) (omega arith)

above-first : (m : Message) (ms : List Message) → Rises (m ∷ ms) → All (λ q. m.number < q.number) ms
above-first m ms rises = λ k d within. rises 0 (suc k) d (omega arith) (omega arith)

removed : (ms : List Message) (n i : ℕ) (d : Message) → Rises ms → i < length ms → (get_or ms i d).number ≡ n → remove ms i ≡ filter (λ m. not (m.number == n)) ms
removed [] n i d rises within here = absurd (omega arith)
removed (m ∷ ms) n zero d rises within here =
    let same : (m.number == n) ≡ true = grind (arith, nat_tests) in
    let above : All (λ q. n < q.number) ms = subst (λ k. All (λ (q : Message). k < q.number) ms) here (above-first m ms rises) in
    sym (ap (λ b. cond (not b) (m ∷ filter (λ m. not (m.number == n)) ms) (filter (λ m. not (m.number == n)) ms)) same ∙ all-above ms n above)
removed (m ∷ ms) n (suc i) d rises within here =
    let low : m.number < (get_or ms i d).number = rises 0 (suc i) d (omega arith) within in
    let other : (m.number == n) ≡ false = grind (arith, nat_tests) in
    ap (λ ys. m ∷ ys) (removed ms n i d (rest-rises m ms rises) (omega arith) here)
    ∙ sym (ap (λ b. cond (not b) (m ∷ filter (λ m. not (m.number == n)) ms) (filter (λ m. not (m.number == n)) ms)) other)

-- without what stands at its place, the message of the number is gone
pub lost-there : (xs : List Numbered) (n i : ℕ) (ys : List Numbered) → Rises (map seen xs) → position (has n) (map seen xs) ≡ Some i → ys ≡ remove xs i → map seen ys ≡ filter (λ m. not (m.number == n)) (map seen xs)
lost-there [] n i ys rises is new = absurd (none-some i is)
lost-there (x ∷ xs) n i ys rises is new =
    let ms = map seen (x ∷ xs) in
    let at = position-Some (has n) ms i (seen x) is in
    ap (map seen) new ∙ (map-remove seen (x ∷ xs) i ∙ removed ms n i (seen x) rises at.0 (eqb-true _ _ at.1))

without-session : (s : ℕ) (xs : List Numbered) → map seen (filter (λ x. not ((seen x).session == s)) xs) ≡ filter (λ m. not (m.session == s)) (map seen xs)
without-session s [] = refl
without-session s (x ∷ xs) = by ((seen x).session == s) (without-session s xs)
  where
    by : (b : Bool) → map seen (filter (λ x. not ((seen x).session == s)) xs) ≡ filter (λ m. not (m.session == s)) (map seen xs)
        → map seen (cond (not b) (x ∷ filter (λ x. not ((seen x).session == s)) xs) (filter (λ x. not ((seen x).session == s)) xs)) ≡ cond (not b) (seen x ∷ filter (λ m. not (m.session == s)) (map seen xs)) (filter (λ m. not (m.session == s)) (map seen xs))
    by true e = e
    by false e = ap (λ ms. seen x ∷ ms) e

-- without those of a session, its messages are gone
pub forgotten-there : (xs : List Numbered) (s : ℕ) (ys : List Numbered) → ys ≡ filter (λ x. not ((seen x).session == s)) xs → map seen ys ≡ filter (λ m. not (m.session == s)) (map seen xs)
forgotten-there xs s ys new = ap (map seen) new ∙ without-session s xs

-- ---- what is found, and what is refused where nothing is

-- what holds of all messages holds of the one that is found
pub found-is : (P : Message → Type 0) (p : Message → Bool) (ms : List Message) → All P ms → IfSome (find p ms) P
found-is P p [] all = tt
found-is P p (m ∷ ms) all = by (p m) (found-is P p ms (All-tail P m ms all))
  where
    by : (b : Bool) → IfSome (find p ms) P → IfSome (cond b (Some m) (find p ms)) P
    by true rest = All-head P m ms all
    by false rest = rest

-- and so of what it was made of
pub mapped-is : {X : Type 0} (f : X → Message) (P : Message → Type 0) (r : Option X) (o : Option Message) → option_map f r ≡ o → IfSome o P → IfSome r (λ x. P (f x))
mapped-is f P None o is h = tt
mapped-is f P (Some x) o is h = subst (λ (o : Option Message). IfSome o P) (sym is) h

-- a message that has a place isn't unknown
pub known : (ms : List Message) (n i : ℕ) → position (has n) ms ≡ Some i → lose_refusal (find (has n) ms) ≡ None
known [] n i is = absurd (none-some i is)
known (m ∷ ms) n i is =
    let at = position-Some (has n) (m ∷ ms) i m is in
    ap lose_refusal (found-by (has n) (m ∷ ms) ∙ (ap (option_and_then (slice_get (m ∷ ms))) is ∙ slice_get-get_or (m ∷ ms) i m at.0))
