-- Lines of `lose` and `use` in which nothing is wrong: what they name is defined, and agrees.
use Rattle.std.proofs.Common.{ℕ, ◌≡◌, ◌<◌, ◌≤◌, ◌+◌, Bool, true, false, cond, List, [], ◌∷◌, ◌++◌, length, map, refl, ap, sym, ◌∙◌, arith, append_assoc, nat_eq, nat_lt, Option, Some, None, ◌⊎◌, inl, inr}
use Rattle.std.specs.Prelude.{All, Result, Ok, Err, fold, ◌||◌}
use Rattle.std.specs.Option.{option_or}
use Rattle.std.proofs.lemmas.Bool.{cases_Bool}
use Rattle.std.proofs.lemmas.Bool.Decides.{nat_tests}
use Rattle.std.proofs.lemmas.Grind.{common_steps, fold-append}
use Rattle.std.proofs.lemmas.List.{append-nil}
use Rattle.std.proofs.lemmas.List.Elements.{All-nil, All-cons, All-drop}
use Rattle.dr_model.specs.declared.step.Name.{Name}
use Rattle.dr_model.specs.declared.grammar.Item.{Item}
use Rattle.dr_plan.specs.declared.reason.Reason.{Reason}
use Rattle.dr_plan.specs.declared.reason.Reason.TheVariants.{ServerTwice, UnknownServer, OtherSize}
use Rattle.dr_plan.specs.Above.{unless, is_among, tracks_in, volumes_in}
use Rattle.dr_plan.specs.Parts.{AreAlike, Ranges, pairs_of, with_ranges, uses_of}
use Rattle.dr_plan.specs.Reading.{servers_fault, sizes_fault, pair_fault, pairs_fault, has_use, joined, with_pairs}
use Rattle.dr_plan.specs.Sweep.{Use as HostUse}
use Rattle.dr_plan.proofs.FaultLemmas.{name-twice, name-other, names-end, pairs-next, pairs-end}

-- ---- what went well

pub ok-of : {A B : Type 0} (b : Bool) (made : Result A B) (bad : B) (next : A) → cond b made (Err bad) ≡ Ok next → (b ≡ true) × (made ≡ Ok next)
ok-of true made bad next e = (refl, e)
ok-of false made bad next e = absurd cc

pub unless-of : {A B : Type 0} (fault : Option B) (made next : A) → unless fault made ≡ Ok next → (fault ≡ None) × (made ≡ next)
unless-of None made next e = (refl, cc)
unless-of (Some reason) made next e = absurd cc

-- ---- names

no_cut : {A P : Type 0} (before : List A) (x : A) (after : List A) → [] ≡ before ++ x ∷ after → P
no_cut [] x after e = absurd cc
no_cut (y ∷ before) x after e = absurd cc

-- after those names none of these comes again
abbrev pub OnceAfter : List Name → List Name → Type 0
OnceAfter first names = (before after : List Name) (name : Name) → names ≡ before ++ name ∷ after → is_among name (first ++ before) ≡ false

once_more : (first : List Name) (name : Name) (rest : List Name) → is_among name first ≡ false → OnceAfter (first ++ name ∷ []) rest
    → (before after : List Name) (n : Name) → name ∷ rest ≡ before ++ n ∷ after → is_among n (first ++ before) ≡ false
once_more first name rest e h [] after n cut = let same : n ≡ name = cc in ap (is_among n) (append-nil first) ∙ ap (λ x. is_among x first) same ∙ e
once_more first name rest e h (m ∷ before) after n cut =
    let same : m ≡ name = cc in
    let tail : rest ≡ before ++ n ∷ after = cc in
    ap (is_among n) (ap (λ x. first ++ x ∷ before) same ∙ sym (append_assoc first (name ∷ []) before)) ∙ h before after n tail

pub names-sound : (known first names : List Name) → servers_fault known first names ≡ None → All (λ name. is_among name known ≡ true) names × OnceAfter first names
names-sound known first [] h = (All-nil (λ name. is_among name known ≡ true), λ before after name cut. no_cut before name after cut)
names-sound known first (name ∷ rest) h = by (cases_Bool (is_among name first)) (names-sound known (first ++ name ∷ []) rest)
  where
    Further : Type 0
    Further = servers_fault known (first ++ name ∷ []) rest ≡ None → All (λ name. is_among name known ≡ true) rest × OnceAfter (first ++ name ∷ []) rest

    inner : Further → is_among name first ≡ false → (is_among name known ≡ true) ⊎ (is_among name known ≡ false) → cond (is_among name known) (servers_fault known (first ++ name ∷ []) rest) (Some (UnknownServer name)) ≡ None
        → All (λ name. is_among name known ≡ true) (name ∷ rest) × OnceAfter first (name ∷ rest)
    inner further once (inl is) k =
        let r = further (sym (ap (λ b. cond b (servers_fault known (first ++ name ∷ []) rest) (Some (UnknownServer name))) is) ∙ k) in
        (All-cons (λ name. is_among name known ≡ true) name rest is r.0, once_more first name rest once r.1)
    inner further once (inr is) k = let bad : Some (UnknownServer name) ≡ None = sym (ap (λ b. cond b (servers_fault known (first ++ name ∷ []) rest) (Some (UnknownServer name))) is) ∙ k in absurd cc

    by : (is_among name first ≡ true) ⊎ (is_among name first ≡ false) → Further → All (λ name. is_among name known ≡ true) (name ∷ rest) × OnceAfter first (name ∷ rest)
    by (inl twice) further = let bad : Some (ServerTwice name) ≡ None = sym (name-twice known first name rest twice) ∙ h in absurd cc
    by (inr once) further = inner further once (cases_Bool (is_among name known)) (sym (name-other known first name rest once) ∙ h)

pub names-complete : (known first names : List Name) → All (λ name. is_among name known ≡ true) names → OnceAfter first names → servers_fault known first names ≡ None
names-complete known first [] all once = names-end known first
names-complete known first (name ∷ rest) all once =
    let new : is_among name first ≡ false = ap (is_among name) (sym (append-nil first)) ∙ once [] rest name refl in
    name-other known first name rest new
    ∙ ap (λ b. cond b (servers_fault known (first ++ name ∷ []) rest) (Some (UnknownServer name))) (all 0 name (omega arith))
    ∙ names-complete known (first ++ name ∷ []) rest (All-drop (λ name. is_among name known ≡ true) 1 (name ∷ rest) all)
    (λ before after n cut. ap (is_among n) (append_assoc first (name ∷ []) before) ∙ once (name ∷ before) after n (ap (λ ns. name ∷ ns) cut))

-- ---- pairs

sizes_sound : (first second : ℕ) (a b : Option ℕ) → sizes_fault first second a b ≡ None → (tracks : ℕ) × (a ≡ Some tracks) × (b ≡ Some tracks)
sizes_sound first second None b h = absurd cc
sizes_sound first second (Some m) None h = absurd cc
sizes_sound first second (Some m) (Some n) h = by (cases_Bool (nat_eq m n))
  where
    by : (nat_eq m n ≡ true) ⊎ (nat_eq m n ≡ false) → (tracks : ℕ) × (Some m ≡ Some tracks) × (Some n ≡ Some tracks)
    by (inl e) = let same : n ≡ m = grind (arith, nat_tests, e) in (m, refl, ap Some same)
    by (inr e) = let bad : Some (OtherSize first second) ≡ None = sym (ap (λ b. cond b None (Some (OtherSize first second))) e) ∙ h in absurd cc

sizes_complete : (first second tracks : ℕ) (a b : Option ℕ) → a ≡ Some tracks → b ≡ Some tracks → sizes_fault first second a b ≡ None
sizes_complete first second tracks a b e k =
    (λ i. sizes_fault first second (e i) (k i)) ∙ (let same : nat_eq tracks tracks ≡ true = grind (arith, nat_tests) in ap (λ b. cond b None (Some (OtherSize first second))) same)

pub pairs-sound : (above : List (List ℕ)) (pairs : List Item) → pairs_fault (volumes_in above) pairs ≡ None → All (AreAlike above) pairs
pairs-sound above [] h = All-nil (AreAlike above)
pairs-sound above (pair ∷ rest) h = by (pair_fault (volumes_in above) pair) refl (sym (pairs-next (volumes_in above) pair rest) ∙ h) (pairs-sound above rest)
  where
    by : (fault : Option Reason) → pair_fault (volumes_in above) pair ≡ fault → option_or fault (pairs_fault (volumes_in above) rest) ≡ None → (pairs_fault (volumes_in above) rest ≡ None → All (AreAlike above) rest) → All (AreAlike above) (pair ∷ rest)
    by None is k further = All-cons (AreAlike above) pair rest (sizes_sound pair.first pair.second (tracks_in above pair.first) (tracks_in above pair.second) is) (further k)
    by (Some reason) is k further = absurd cc

pub pairs-complete : (above : List (List ℕ)) (pairs : List Item) → All (AreAlike above) pairs → pairs_fault (volumes_in above) pairs ≡ None
pairs-complete above [] all = pairs-end (volumes_in above)
pairs-complete above (pair ∷ rest) all =
    let first = all 0 pair (omega arith) in
    pairs-next (volumes_in above) pair rest
    ∙ ap (λ f. option_or f (pairs_fault (volumes_in above) rest)) (sizes_complete pair.first pair.second first.0 (tracks_in above pair.first) (tracks_in above pair.second) first.1 first.2)
    ∙ pairs-complete above rest (All-drop (AreAlike above) 1 (pair ∷ rest) all)

-- ---- uses

pub uses-more : (used : List Ranges) (r : Ranges) → uses_of (used ++ r ∷ []) ≡ with_ranges (uses_of used) r
uses-more used r = fold-append with_ranges [] used (r ∷ [])

-- the name of a line is that of a use, or there is a use more
with_length : (uses : List HostUse) (name : Option Name) (pairs : List Item) (has : Bool) → has_use uses name ≡ has → length (with_pairs uses name pairs) ≡ cond has (length uses) (length uses + 1)
with_length uses name pairs true e = ap (λ b. length (cond b (map (joined name pairs) uses) (uses ++ record { name = name; pairs = pairs } ∷ []))) e ∙ (let same : length (map (joined name pairs) uses) ≡ length uses = grind (arith, common_steps) in same)
with_length uses name pairs false e = ap (λ b. length (cond b (map (joined name pairs) uses) (uses ++ record { name = name; pairs = pairs } ∷ []))) e ∙ (let more : length (uses ++ record { name = name; pairs = pairs } ∷ []) ≡ length uses + 1 = grind (arith, common_steps) in more)

pub uses-few : (uses : List HostUse) (r : Ranges) (most : ℕ) → length uses ≤ most → (has_use uses r.name || nat_lt (length uses) most) ≡ true → length (with_ranges uses r) ≤ most
uses-few uses r most few e = by (has_use uses r.name) refl e
  where
    by : (has : Bool) → has_use uses r.name ≡ has → (has || nat_lt (length uses) most) ≡ true → length (with_ranges uses r) ≤ most
    by true is h = let size : length (with_ranges uses r) ≡ length uses = with_length uses r.name (pairs_of r) true is in omega (arith, size, few)
    by false is h = let size : length (with_ranges uses r) ≡ length uses + 1 = with_length uses r.name (pairs_of r) false is in let lt : length uses < most = grind (arith, nat_tests, h) in omega (arith, size, lt)

grows : (uses : List HostUse) (r : Ranges) → length uses ≤ length (with_ranges uses r)
grows uses r = by (has_use uses r.name) refl
  where
    by : (has : Bool) → has_use uses r.name ≡ has → length uses ≤ length (with_ranges uses r)
    by true is = let size : length (with_ranges uses r) ≡ length uses = with_length uses r.name (pairs_of r) true is in omega (arith, size)
    by false is = let size : length (with_ranges uses r) ≡ length uses + 1 = with_length uses r.name (pairs_of r) false is in omega (arith, size)

all_grow : (uses : List HostUse) (more : List Ranges) → length uses ≤ length (fold with_ranges uses more)
all_grow uses [] = omega arith
all_grow uses (r ∷ more) = let first = grows uses r in let rest = all_grow (with_ranges uses r) more in omega (arith, first, rest)

-- where no more uses come than there may be, there is room for each
pub uses-room : (uses : List HostUse) (r : Ranges) (more : List Ranges) (most : ℕ) → length (fold with_ranges uses (r ∷ more)) ≤ most → (has_use uses r.name || nat_lt (length uses) most) ≡ true
uses-room uses r more most few = by (has_use uses r.name) refl
  where
    by : (has : Bool) → has_use uses r.name ≡ has → (has_use uses r.name || nat_lt (length uses) most) ≡ true
    by true is = ap (λ b. b || nat_lt (length uses) most) is
    by false is =
        let size : length (with_ranges uses r) ≡ length uses + 1 = with_length uses r.name (pairs_of r) false is in
        let rest : length (with_ranges uses r) ≤ length (fold with_ranges uses (r ∷ more)) = all_grow (with_ranges uses r) more in
        let lt : length uses < most = omega (arith, size, rest, few) in
        let room : nat_lt (length uses) most ≡ true = grind (arith, nat_tests, lt) in
        ap (λ b. b || nat_lt (length uses) most) is ∙ room
