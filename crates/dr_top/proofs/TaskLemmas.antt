-- The steps of lines, one line after another.
use Rattle.std.proofs.Common.{ℕ, ◌≡◌, ◌<◌, ◌≤◌, ◌+◌, List, [], ◌∷◌, ◌++◌, take, length, refl, ap, ◌∙◌, sym, arith, append_assoc, true, false, cond, Bool, nat_lt, Ok, Err, inr}
use Rattle.std.proofs.lemmas.Bool.Decides.{nat_tests}
use Rattle.std.proofs.lemmas.List.{append-nil, length-append, length-take-le}
use Rattle.std.proofs.lemmas.List.Sums.{fold-append}
use Rattle.std.specs.Str.Lines.{lines, strip_carriage_return}
use Rattle.std.proofs.lemmas.Bool.{lt-ltb, ltb-true}
use Rattle.dr_model.specs.Control.{World}
use Rattle.dr_model.specs.Grammar.{line_of, begins_comment, words_read}
use Rattle.dr_model.specs.LineWords.{line_words}
use Rattle.dr_model.specs.Lines.{tasks, tasks_of, tasks_read, tasks_from}
use Rattle.dr_model.specs.Runs.{Task, after_task, after_tasks}
use Rattle.dr_io.specs.Lines.{IsOpen}
use Rattle.dr_top.specs.Cut.{IsClosed}
use Rattle.dr_top.proofs.PutLemmas.{all_taken}
use Rattle.dr_top.proofs.LineLemmas.{lines-closed, lines-one, lines-last}

not_longer : (n m : ℕ) → nat_lt n m ≡ false → m ≤ n
not_longer n m h = grind (arith, nat_tests, h)

-- of a line that is too long, one byte past the limit tells enough
line_by : (line : List ℕ) → begins_comment (take 1025 line) ≡ begins_comment line → 1024 < length line → line_of (take 1025 line) ≡ line_of line
unfolding line_of
line_by line same long =
    let lt = lt-ltb 1024 (length line) long in
    let cut : nat_lt 1024 (length (take 1025 line)) ≡ true = ap (nat_lt 1024) (length-take-le 1025 line long) in
    ap (λ b. cond b (Ok []) (cond (nat_lt 1024 (length (take 1025 line))) (Err 1025) (words_read (length (take 1025 line) + 1) (line_words (take 1025 line))))) same
    ∙ ap (λ b. cond (begins_comment line) (Ok []) (cond b (Err 1025) (words_read (length (take 1025 line) + 1) (line_words (take 1025 line))))) cut
    ∙ ap (λ b. cond (begins_comment line) (Ok []) (cond b (Err 1025) (words_read (length line + 1) (line_words line)))) (sym lt)

comment-cut : (line : List ℕ) → begins_comment (take 1025 line) ≡ begins_comment line
comment-cut [] = refl
comment-cut (b ∷ bs) = refl

by_length : (line : List ℕ) (b : Bool) → nat_lt 1024 (length line) ≡ b → line_of (take 1025 line) ≡ line_of line
by_length line true h = line_by line (comment-cut line) (ltb-true 1024 (length line) h)
by_length line false h = ap line_of (all_taken line 1025 (let le = not_longer 1024 (length line) h in omega (arith, le)))

pub line-cut : (number : ℕ) (line : List ℕ) → tasks_of number (take 1025 line) ≡ tasks_of number line
line-cut number line = ap (tasks_read number) (by_length line (nat_lt 1024 (length line)) refl)

-- the steps of lines, and of those behind them
pub tasks-append : (m : ℕ) (ls ms : List (List ℕ)) → tasks_from m (ls ++ ms) ≡ tasks_from m ls ++ tasks_from (m + length ls) ms
tasks-append m [] ms = ap (λ n. tasks_from n ms) (omega arith)
tasks-append m (l ∷ ls) ms =
    ap (λ ts. tasks_of m l ++ ts) (tasks-append (m + 1) ls ms)
    ∙ sym (append_assoc (tasks_of m l) (tasks_from (m + 1) ls) (tasks_from ((m + 1) + length ls) ms))
    ∙ ap (λ n. (tasks_of m l ++ tasks_from (m + 1) ls) ++ tasks_from n ms) (omega arith)

pub tasks-then : (w : World) (a b : List Task) → after_tasks w (a ++ b) ≡ after_tasks (after_tasks w a) b
unfolding after_tasks
tasks-then w a b = fold-append after_task w a b

pub tasks-none : (w : World) → after_tasks w [] ≡ w
unfolding after_tasks
tasks-none w = refl

pub tasks-one : (w : World) (t : Task) → after_tasks w (t ∷ []) ≡ after_task w t
unfolding after_tasks
tasks-one w t = refl

-- the steps of a line whose number follows those before it
abbrev pub line_tasks : List ℕ → List ℕ → List Task
line_tasks before line = tasks_from (length (lines before) + 1) (lines line)

pub tasks-line : (before line : List ℕ) → IsClosed before → tasks (before ++ line) ≡ tasks before ++ line_tasks before line
tasks-line before line closed =
    ap (λ ls. tasks_from 1 ls) (lines-closed before line closed)
    ∙ tasks-append 1 (lines before) (lines line)
    ∙ ap (λ n. tasks before ++ tasks_from n (lines line)) (omega arith)

-- a line that was read up to its end
pub ended-tasks : (before front read : List ℕ) → IsOpen front → read ≡ take 1025 (strip_carriage_return front) → tasks_of (length (lines before) + 1) read ≡ line_tasks before (front ++ 10 ∷ [])
ended-tasks before front read no_end is =
    let n : ℕ = length (lines before) + 1 in
    ap (tasks_of n) is ∙ line-cut n (strip_carriage_return front) ∙ sym (append-nil (tasks_of n (strip_carriage_return front)))
    ∙ ap (tasks_from n) (sym (lines-one front no_end))

pub last-tasks : (before line read : List ℕ) → IsOpen line → 0 < length line → read ≡ take 1025 line → tasks_of (length (lines before) + 1) read ≡ line_tasks before line
last-tasks before line read no_end some is =
    let n : ℕ = length (lines before) + 1 in
    ap (tasks_of n) is ∙ line-cut n line ∙ sym (append-nil (tasks_of n line)) ∙ ap (tasks_from n) (sym (lines-last line no_end some))

-- whole lines and one more
pub closed-more : (before front : List ℕ) → IsClosed (before ++ (front ++ 10 ∷ []))
closed-more before front = inr (before ++ front, sym (append_assoc before front (10 ∷ [])))

pub one-more : (before line : List ℕ) (x : List ℕ) → IsClosed before → lines line ≡ x ∷ [] → length (lines (before ++ line)) ≡ length (lines before) + 1
one-more before line x closed one = ap (λ ls. length ls) (lines-closed before line closed ∙ ap (λ ls. lines before ++ ls) one) ∙ length-append (lines before) (x ∷ [])
