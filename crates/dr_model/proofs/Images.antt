-- The image of a list of writes: one write more, and a write that is issued later.
use Rattle.std.proofs.Common.{ℕ, ◌≡◌, ◌≢◌, ◌<◌, ◌+◌, List, [], ◌∷◌, ◌++◌, refl, ap, ◌∙◌, arith, Bool, true, false, cond}
use Rattle.std.proofs.lemmas.List.Sums.{fold-append}
use Rattle.std.specs.List.{fold}
use Rattle.dr_logic.specs.Bytes.{zeros}
use Rattle.dr_logic.specs.Tables.{at}
use Rattle.dr_model.specs.declared.event.Event.{Event}
use Rattle.dr_model.specs.Histories.{Write, histories, no_history, after_event}
use Rattle.dr_model.specs.Contents.{image, with_write}
use Rattle.dr_logic.proofs.Tables.{at_other}

-- each number of the list is below n
abbrev pub Below : ℕ → List ℕ → Type 0
Below n [] = Unit {0}
Below n (w ∷ ws) = (w < n) × Below n ws

pub Below-append : (n : ℕ) (xs ys : List ℕ) → Below n xs → Below n ys → Below n (xs ++ ys)
Below-append n [] ys p q = q
Below-append n (x ∷ xs) ys p q = (p.0, Below-append n xs ys p.1 q)

pub Below-more : (n m : ℕ) (xs : List ℕ) → n < m + 1 → Below n xs → Below m xs
Below-more n m [] lt p = tt
Below-more n m (x ∷ xs) lt p = ((let h = p.0 in omega arith), Below-more n m xs lt p.1)

pub Below-cond : (n : ℕ) (b : Bool) (xs ys : List ℕ) → Below n xs → Below n ys → Below n (cond b xs ys)
Below-cond n true xs ys p q = p
Below-cond n false xs ys p q = q

-- one write more
pub image-push : (write : ℕ → Write) (ws : List ℕ) (w : ℕ) → image write (ws ++ w ∷ []) ≡ with_write write (image write ws) w
unfolding image
image-push write ws w = fold-append (with_write write) zeros ws (w ∷ [])

-- a write that is issued later changes no image
fold-issue : (write : ℕ → Write) (n : ℕ) (x : Write) (bytes : List ℕ) (ws : List ℕ) → Below n ws → fold (with_write (at write n x)) bytes ws ≡ fold (with_write write) bytes ws
fold-issue write n x bytes [] p = refl
fold-issue write n x bytes (w ∷ ws) p =
    let ne : w ≢ n = (λ e. let h = p.0 in absurd (omega arith)) in
    fold-issue write n x (with_write (at write n x) bytes w) ws p.1
    ∙ ap (λ i. fold (with_write write) (with_write (λ q. i) bytes w) ws) (at_other write n x w ne)

pub image-issue : (write : ℕ → Write) (n : ℕ) (x : Write) (ws : List ℕ) → Below n ws → image (at write n x) ws ≡ image write ws
unfolding image
image-issue write n x ws p = fold-issue write n x zeros ws p

-- one event more
pub histories-push : (events : List Event) (e : Event) → histories (events ++ e ∷ []) ≡ after_event (histories events) e
unfolding histories
histories-push events e = fold-append after_event no_history events (e ∷ [])

pub histories-append : (events more : List Event) → histories (events ++ more) ≡ fold after_event (histories events) more
unfolding histories
histories-append events more = fold-append after_event no_history events more
