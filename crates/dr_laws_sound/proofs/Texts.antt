-- What a journal prints, piece by piece.
use Rattle.std.proofs.Common.{ℕ, ◌≡◌, List, [], ◌∷◌, ◌++◌, refl, ap, ◌∙◌, sym, append_assoc}
use Rattle.std.proofs.lemmas.List.Sums.{fold-append}
use Rattle.std.specs.List.{fold}
use Rattle.dr_logic.specs.Bytes.{zeros}
use Rattle.dr_model.specs.declared.event.Event.{Event}
use Rattle.dr_model.specs.Answers.{answer}
use Rattle.dr_model.specs.Control.{World, nothing}
use Rattle.dr_model.specs.Runs.{Task, after_task, after_tasks, run}
use Rattle.dr_model.specs.Text.{Heard, untold, heard, line_text, text_from, text}
use Rattle.dr_laws_sound.proofs.Journal.{EndsAnswered, after_task-ends}

-- the text of more events follows that of the first ones
pub text_from-append : (told : Heard) (es fs : List Event) → text_from told (es ++ fs) ≡ text_from told es ++ text_from (fold heard told es) fs
text_from-append told [] fs = refl
text_from-append told (e ∷ es) fs = ap (λ more. line_text told e ++ more) (text_from-append (heard told e) es fs) ∙ sym (append_assoc (line_text told e) (text_from (heard told e) es) (text_from (fold heard (heard told e) es) fs))

pub text-append : (es fs : List Event) → text (es ++ fs) ≡ text es ++ text_from (fold heard untold es) fs
text-append es fs = text_from-append untold es fs

pub heard-append : (told : Heard) (es fs : List Event) → fold heard told (es ++ fs) ≡ fold heard (fold heard told es) fs
heard-append told es fs = fold-append heard told es fs

-- an answer ends what is shown
pub ends-reset : (w : World) (line : ℕ) (u : World) → EndsAnswered w line u → (fold heard untold u.events).shown ≡ zeros
ends-reset w line u ends =
    ap (λ es. (fold heard untold es).shown) ends.events
    ∙ ap (λ (told : Heard). told.shown) (heard-append untold (w.events ++ ends.before) (answer line ends.says ∷ []))

pub after_task-resets : (w : World) (t : Task) → (fold heard untold (after_task w t).events).shown ≡ zeros
after_task-resets w t = ends-reset w t.line (after_task w t) (after_task-ends w t)

pub after_tasks-resets : (w : World) (tasks : List Task) → (fold heard untold w.events).shown ≡ zeros → (fold heard untold (after_tasks w tasks).events).shown ≡ zeros
unfolding after_tasks
after_tasks-resets w [] h = h
after_tasks-resets w (t ∷ tasks) h = after_tasks-resets (after_task w t) tasks (after_task-resets w t)

pub run-resets : (tasks : List Task) → (fold heard untold (run tasks).events).shown ≡ zeros
run-resets tasks = after_tasks-resets nothing tasks refl
