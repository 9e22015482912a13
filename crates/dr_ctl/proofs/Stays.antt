-- What each change of a flight keeps: numbers stay in order, and a message stays found.
use Rattle.std.proofs.Common.{◌≡◌, ◌≢◌, ◌<◌, ◌≤◌, ℕ, ◌+◌, Bool, true, false, not, cond, List, [], ◌∷◌, ◌++◌, filter, Some, None, All, refl, sym, ◌∙◌, ap, arith, ◌==◌, find}
use Rattle.std.specs.Option.{option_or}
use Rattle.std.proofs.lemmas.Bool.Decides.{nat_tests}
use Rattle.std.proofs.lemmas.List.Elements.{All-head, All-tail, All-push, All-weaker, filter_passes}
use Rattle.std.proofs.lemmas.List.Quantifiers.{all_pairs_push}
use Rattle.std.proofs.lemmas.List.Folds.{find-append}
use Rattle.std.proofs.lemmas.Option.{none-some, same_Some}
use Rattle.dr_logic.proofs.Options.{if-some}
use Rattle.dr_model.specs.Messages as model
use Rattle.dr_model.specs.Messages.{Message, Flight, message_in}
use Rattle.dr_ctl.specs.Changes.{Change, Sends, Answers, Loses, Forgets, Starts, Raises, Fences, after, next_order, next_reply, Spares}
use Rattle.dr_ctl.specs.Sound.{IsNumbered}
use Rattle.dr_ctl.proofs.Places.{found-is}
use Rattle.dr_ctl.proofs.Sound.{numbered-filter}

-- ---- numbers

-- one message more, with the next number
numbered-push : (f : Flight) (m : Message) → m.number ≡ f.made + 1 → IsNumbered f → IsNumbered (record f { messages = f.messages ++ m ∷ []; made = f.made + 1 })
numbered-push f m next s = record {
  given = All-push (λ q. q.number ≤ f.made + 1) f.messages m (All-weaker (λ q. q.number ≤ f.made) (λ q. q.number ≤ f.made + 1) (λ q le. omega arith) f.messages s.given) (omega arith);
  order = all_pairs_push (λ q r. q.number < r.number) f.messages m s.order (λ k d within. let le = s.given k d within in omega arith);
}

pub numbered-after : (c : Change) (f : Flight) → IsNumbered f → IsNumbered (after c f)
numbered-after (Sends s server o) f n = numbered-push f (next_order s server o f) refl n
numbered-after (Answers m reply) f n = numbered-push f (next_reply m reply f) refl n
numbered-after (Loses k) f n = numbered-filter f (λ m. not (m.number == k)) n
numbered-after (Forgets s) f n = numbered-filter f (λ m. not (m.session == s)) n
numbered-after (Starts server) f n = record { given = n.given; order = n.order }
numbered-after (Raises s) f n = record { given = n.given; order = n.order }
numbered-after (Fences s server epoch) f n = record { given = n.given; order = n.order }

-- ---- what is found

-- what is found stays so where others come behind it
found-before : (p : Message → Bool) (ms : List Message) (q m : Message) → find p ms ≡ Some m → find p (ms ++ q ∷ []) ≡ Some m
found-before p ms q m is = find-append p ms (q ∷ []) ∙ ap (λ o. option_or o (find p (q ∷ []))) is

-- and where some go, but not it
found-among : (p keeps : Message → Bool) (ms : List Message) (m : Message) → find p ms ≡ Some m → keeps m ≡ true → find p (filter keeps ms) ≡ Some m
found-among p keeps [] m is kept = absurd (none-some m is)
found-among p keeps (x ∷ xs) m is kept = by (p x) (keeps x) (λ rest. found-among p keeps xs m rest kept) refl refl is
  where
    by : (here stays : Bool) → (find p xs ≡ Some m → find p (filter keeps xs) ≡ Some m) → p x ≡ here → keeps x ≡ stays → cond here (Some x) (find p xs) ≡ Some m
        → find p (cond stays (x ∷ filter keeps xs) (filter keeps xs)) ≡ Some m
    by true true rest on k is = ap (λ b. cond b (Some x) (find p (filter keeps xs))) on ∙ is
    by true false rest on k is = let never : true ≡ false = sym kept ∙ (ap keeps (sym (same_Some x m is)) ∙ k) in absurd cc
    by false true rest off k is = ap (λ b. cond b (Some x) (find p (filter keeps xs))) off ∙ rest is
    by false false rest off k is = rest is

-- none is found where all that pass have gone
none-among : (p : Message → Bool) (ms : List Message) → find p (filter (λ m. not (p m)) ms) ≡ None
none-among p [] = refl
none-among p (x ∷ xs) = by (p x) (none-among p xs) refl
  where
    by : (b : Bool) → find p (filter (λ m. not (p m)) xs) ≡ None → p x ≡ b → find p (cond (not b) (x ∷ filter (λ m. not (p m)) xs) (filter (λ m. not (p m)) xs)) ≡ None
    by true rest on = rest
    by false rest off = ap (λ b. cond b (Some x) (find p (filter (λ m. not (p m)) xs))) off ∙ rest

-- no message has a number above those that were given
none-next : (n : ℕ) (ms : List Message) → All (λ m. m.number ≤ n) ms → find (λ m. m.number == n + 1) ms ≡ None
none-next n [] given = refl
none-next n (m ∷ ms) given =
    let low : m.number ≤ n = All-head (λ q. q.number ≤ n) m ms given in
    let other : (m.number == n + 1) ≡ false = grind (arith, nat_tests) in
    ap (λ b. cond b (Some m) (find (λ m. m.number == n + 1) ms)) other ∙ none-next n ms (All-tail (λ q. q.number ≤ n) m ms given)

pub found-next : (f : Flight) (m : Message) → m.number ≡ f.made + 1 → IsNumbered f → find (λ q. q.number == f.made + 1) (f.messages ++ m ∷ []) ≡ Some m
found-next f m next n =
    let same : (m.number == f.made + 1) ≡ true = grind (arith, nat_tests) in
    find-append (λ q. q.number == f.made + 1) f.messages (m ∷ []) ∙ (ap (λ o. option_or o (cond (m.number == f.made + 1) (Some m) None)) (none-next f.made f.messages n.given) ∙ ap (λ b. cond b (Some m) None) same)

pub stays-found : (c : Change) (f : Flight) (n : ℕ) (m : Message) → message_in f n ≡ Some m → Spares c m → message_in (after c f) n ≡ Some m
stays-found (Sends s server o) f n m is spares = found-before (λ q. q.number == n) f.messages (next_order s server o f) m is
stays-found (Answers q reply) f n m is spares = found-before (λ q. q.number == n) f.messages (next_reply q reply f) m is
stays-found (Loses k) f n m is spares = let kept : not (m.number == k) ≡ true = grind (arith, nat_tests) in found-among (λ q. q.number == n) (λ q. not (q.number == k)) f.messages m is kept
stays-found (Forgets s) f n m is spares = let kept : not (m.session == s) ≡ true = grind (arith, nat_tests) in found-among (λ q. q.number == n) (λ q. not (q.session == s)) f.messages m is kept
stays-found (Starts server) f n m is spares = is
stays-found (Raises s) f n m is spares = is
stays-found (Fences s server epoch) f n m is spares = is

pub found-no-more : (f : Flight) (n : ℕ) → message_in (model.lost n f) n ≡ None
found-no-more f n = none-among (λ m. m.number == n) f.messages

pub none-of-session : (f : Flight) (s n : ℕ) (m : Message) → message_in (model.forgotten s f) n ≡ Some m → m.session ≢ s
none-of-session f s n m is =
    let kept : not (m.session == s) ≡ true = if-some (λ q. not (q.session == s) ≡ true) _ m is (found-is (λ q. not (q.session == s) ≡ true) (λ q. q.number == n) (filter (λ q. not (q.session == s)) f.messages) (filter_passes (λ q. not (q.session == s)) f.messages)) in
    λ same. grind (arith, nat_tests)
