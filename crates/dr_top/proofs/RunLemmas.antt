-- What is printed of a line.
use Rattle.std.proofs.Common.{ℕ, ◌≡◌, ◌≤◌, ◌⊎◌, List, ◌++◌, take, drop, length, refl, ap, ◌∙◌, sym, arith, append_assoc, inl, inr, Some, Option, Result, Ok, Err}
use Rattle.std.proofs.lemmas.List.{append-nil, length-append, take-append-drop}
use Rattle.std.proofs.lemmas.List.Sums.{fold-append}
use Rattle.std.specs.Prelude.{OnOk, OnErr, IfErr}
use Rattle.std.specs.Result.{IsErrAnd}
use Rattle.std.specs.List.{fold}
use Rattle.std.proofs.Math.Seq.{take-append_seam, drop-append_seam}
use Rattle.dr_model.specs.declared.event.Event.{Event}
use Rattle.dr_model.specs.Layout.{Blocks}
use Rattle.dr_model.specs.Control.{World}
use Rattle.dr_model.specs.Runs.{Task, after_tasks}
use Rattle.dr_model.specs.Text.{text, text_from, heard, untold}
use Rattle.dr_laws_sound.proofs.Texts.{text-append}
use Rattle.dr_laws_sound.proofs.Journal.{after_tasks-grows}
use Rattle.dr_top.specs.Carried.{GoesTo}
use Rattle.dr_top.specs.Followed.{text_since, GavePrefix, IsFull, StepWants, LacksMemory}
use Rattle.dr_io.specs.Given.{Gave, GavePart}
use Rattle.dr_top.specs.Ran.{RanLine, LineEnds}
use Rattle.dr_top.specs.declared.carry.Bar.{Bar}
use Rattle.dr_top.specs.declared.run.Halt.{Halt}
use Rattle.dr_top.specs.declared.run.Halt.TheVariants.{WriteFault, NoMemory, Full}

-- steps only add events
pub grown : (w u : World) (ts : List Task) → after_tasks w ts ≡ u → (es : List Event) × (u.events ≡ w.events ++ es)
grown w u ts e = let grows : (es : List Event) × ((after_tasks w ts).events ≡ w.events ++ es) = after_tasks-grows w ts in (grows.0, ap (λ (x : World). x.events) (sym e) ∙ grows.1)

pub longer : (before now es : List Event) → now ≡ before ++ es → length before ≤ length now
longer before now es e = let sum = length-append before es in let same = ap (λ xs. length xs) e in omega (arith, sum, same)

-- the text of the events that came, printed from their place on
pub text-since : (before now es : List Event) → now ≡ before ++ es → text now ≡ text before ++ text_since now (length before)
text-since before now es e =
    ap text e ∙ text-append before es
    ∙ ap (λ xs. text before ++ text_from (fold heard untold xs) es) (sym (take-append_seam before es))
    ∙ ap (λ xs. text before ++ text_from (fold heard untold (take (length before) (before ++ es))) xs) (sym (drop-append_seam before es))
    ∙ ap (λ xs. text before ++ text_since xs (length before)) (sym e)

module _ {K : Type 0} (written : K → Option (List ℕ)) where
  -- where nothing is printed
  pub gave-none : (sink : K) (piece : List ℕ) → GavePart written sink sink piece
  gave-none sink piece = (0, omega arith, λ out h. h ∙ ap Some (sym (append-nil out)))

  -- a line that was carried out, and printed
  module _ (sink sink' : K) (w u : World) (d e : ℕ → Blocks) (tasks : List Task) (result : Result (Unit {0}) Bar) (goes : GoesTo w d tasks u e result) where
    more : (es : List Event) × (u.events ≡ w.events ++ es)
    more = grown w u goes.led.steps goes.led.leads

    pub carried-longer : length w.events ≤ length u.events
    carried-longer = longer w.events u.events more.0 more.1

    pub carried-before : take (length w.events) u.events ≡ w.events
    carried-before = ap (take (length w.events)) more.1 ∙ take-append_seam w.events more.0

    pub ran-line : (end : Result (Unit {0}) Halt) → LineEnds written sink sink' goes.done tasks u (text_since u.events (length w.events)) end → RanLine written sink sink' w d tasks u e end
    ran-line end ends = record {
      done = goes.done;
      within = goes.within;
      led = goes.led;
      still = goes.still;
      piece = text_since u.events (length w.events);
      says = text-since w.events u.events more.0 more.1;
      ends = ends;
    }

  -- printed after what was printed before
  pub gave-on : (first old new : K) (before now : List Event) (piece : List ℕ) → Gave written first old (text before) → text now ≡ text before ++ piece → Gave written old new piece → Gave written first new (text now)
  gave-on first old new before now piece gave says more out h =
      more (out ++ text before) (gave out h) ∙ ap Some (append_assoc out (text before) piece ∙ ap (λ t. out ++ t) (sym says))

  pub prefix-on : (first old new : K) (w u : World) (piece : List ℕ) → Gave written first old (text w.events) → text u.events ≡ text w.events ++ piece → GavePart written old new piece → GavePrefix written first new w u
  prefix-on first old new w u piece gave says more = record {
    rest = piece;
    says = says;
    part = more.0;
    within = more.1;
    gave = λ out h. more.2 (out ++ text w.events) (gave out h) ∙ ap Some (append_assoc out (text w.events) (take more.0 piece));
  }

-- memory that was wanting before the text
pub lacks : (done : ℕ) (tasks : List Task) (u : World) → StepWants done tasks u ⊎ (done ≡ 0) → LacksMemory done tasks u
lacks done tasks u (inl step) = inl step
lacks done tasks u (inr unread) = inr (inl unread)

-- how a line ends by its printing
module _ {K : Type 0} (written : K → Option (List ℕ)) (sink sink' : K) (done : ℕ) (tasks : List Task) (u : World) (piece : List ℕ) where
  -- after all its steps
  pub ends-whole : (end : Result (Unit {0}) Halt) → done ≡ length tasks → OnOk end (Gave written sink sink' piece) → OnErr end (GavePart written sink sink' piece) → IfErr end (λ h. h ≡ Full → ⊥) → IfErr end (λ h. h ≡ NoMemory → sink' ≡ sink)
      → LineEnds written sink sink' done tasks u piece end
  ends-whole (Ok x) all whole part full none = (all, whole)
  ends-whole (Err WriteFault) all whole part full none = (inl all, part)
  ends-whole (Err NoMemory) all whole part full none = (inr (inr (inl all)), none refl)
  ends-whole (Err Full) all whole part full none = absurd (full refl)

  -- before a step that found the journal full
  failed : (h : Halt) → IsFull done tasks u → GavePart written sink sink' piece → (h ≡ Full → ⊥) → (h ≡ NoMemory → sink' ≡ sink) → LineEnds written sink sink' done tasks u piece (Err h)
  failed WriteFault is part full none = (inr is, part)
  failed NoMemory is part full none = (inr (inr (inr is)), none refl)
  failed Full is part full none = absurd (full refl)

  pub ends-failed : (end : Result (Unit {0}) Halt) (h : Halt) → IsErrAnd end (λ x. x ≡ h) → IsFull done tasks u → GavePart written sink sink' piece → (h ≡ Full → ⊥) → (h ≡ NoMemory → sink' ≡ sink)
      → LineEnds written sink sink' done tasks u piece end
  ends-failed (Ok x) h is at part full none = absurd is
  ends-failed (Err x) h is at part full none = failed x at part (λ e. full (sym is ∙ e)) (λ e. none (sym is ∙ e))

-- what was heard up to a place, and from there on
pub heard-on : (events : List Event) (from : ℕ) → fold heard (fold heard untold (take from events)) (drop from events) ≡ fold heard untold events
heard-on events from = sym (fold-append heard untold (take from events) (drop from events)) ∙ ap (fold heard untold) (take-append-drop from events)
