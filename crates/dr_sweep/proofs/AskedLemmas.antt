-- Steps as a script asks for them: the fuses that it arms, and a tried step.
use Rattle.std.proofs.Common.{ℕ, ◌≡◌, ◌+◌, Bool, true, false, List, [], ◌∷◌, ◌++◌, get_or, map, refl, ap, ◌∙◌, subst, Option, Some, None, Ok}
use Rattle.dr_model.specs.declared.step.Name.{Name}
use Rattle.dr_model.specs.declared.step.Step.{Step}
use Rattle.dr_model.specs.declared.step.Step.TheVariants.{StopAfter}
use Rattle.dr_model.specs.Control.{Fuse, World}
use Rattle.dr_model.specs.Grammar.{line_of}
use Rattle.dr_model.specs.Lines.{task, tasks_from, tasks_read}
use Rattle.dr_model.specs.Listed.{as_asked, ListsAlong, ListsBy, ListsIf, IsListed}
use Rattle.dr_model.specs.PlantImage.{Volume as ImageVolume}
use Rattle.dr_model.specs.Runs.{Task, OwnCourse, Groups, Volumes, Devices, own_course, after_task, after_tasks}
use Rattle.dr_plan.specs.declared.points.Torn.{Torn}
use Rattle.dr_plan.specs.Points.{count_at, torn_at, torn_word, fuses, steps_from}
use Rattle.dr_laws_fuses.specs.Fuses.{with_fuses}

-- ---- the steps of fuses

-- steps that are asked in two parts
pub record TwoParts (tasks first second : List Task) : Type 0 where
  pub before : List Task
  pub behind : List Task
  pub cut : tasks ≡ before ++ behind
  pub first_are : map as_asked before ≡ first
  pub second_are : map as_asked behind ≡ second

pub in-two : (tasks first second : List Task) → map as_asked tasks ≡ first ++ second → TwoParts tasks first second
in-two tasks [] second is = record { before = []; behind = tasks; cut = refl; first_are = refl; second_are = is }
in-two [] (x ∷ first) second is = absurd cc
in-two (t ∷ tasks) (x ∷ first) second is =
    let head : as_asked t ≡ x = cc in
    let tail : map as_asked tasks ≡ first ++ second = cc in
    let r = in-two tasks first second tail in
    record { before = t ∷ r.before; behind = r.behind; cut = ap (λ (ts : List Task). t ∷ ts) r.cut; first_are = (λ i. head i ∷ r.first_are i); second_are = r.second_are }

-- what is listed in two parts
pub lists-parts : (w : World) (a b : List Task) → ListsAlong w (a ++ b) → ListsAlong w a × ListsAlong (after_tasks w a) b
unfolding after_tasks
lists-parts w [] b lists = (tt, lists)
lists-parts w (t ∷ a) b lists = let r = lists-parts (after_task w t) a b lists.1 in ((lists.0, r.0), r.1)

-- a step that lists nothing is as the script has it
bare : (t : Task) (number : ℕ) (step : Step) → as_asked t ≡ task number (Ok step) → t.listed ≡ [] → t ≡ task number (Ok step)
bare t number step is none = (λ i. record t { listed = none i }) ∙ is

-- the steps that arm fuses list nothing
module _ (server : ℕ) (torn : Torn) (writes : List ℕ) where
  pub bare-fuses : (w : World) (names : List Name) (from number : ℕ) (tasks : List Task) → map as_asked tasks ≡ steps_from number (fuses server torn writes from names) → ListsAlong w tasks → tasks ≡ steps_from number (fuses server torn writes from names)
  bare-fuses w [] from number [] is lists = refl
  bare-fuses w [] from number (t ∷ tasks) is lists = absurd cc
  bare-fuses w (name ∷ names) from number [] is lists = absurd cc
  bare-fuses w (name ∷ names) from number (t ∷ tasks) is lists =
      let step = StopAfter name (count_at writes from) (torn_word (torn_at server torn from)) in
      let head : as_asked t ≡ task number (Ok step) = cc in
      let tail : map as_asked tasks ≡ steps_from (number + 1) (fuses server torn writes (from + 1) names) = cc in
      let asks : t.asked ≡ Ok step = ap (λ (x : Task). x.asked) head in
      let none : t.listed ≡ [] = subst (λ asked. ListsBy w t.listed (own_course asked)) asks lists.0 in
      λ i. bare t number step head none i ∷ bare-fuses (after_task w t) names (from + 1) (number + 1) tasks tail lists.1 i

  pub asked-fuses : (names : List Name) (from number : ℕ) → map as_asked (steps_from number (fuses server torn writes from names)) ≡ steps_from number (fuses server torn writes from names)
  asked-fuses [] from number = refl
  asked-fuses (name ∷ names) from number = ap (λ ts. task number (Ok (StopAfter name (count_at writes from) (torn_word (torn_at server torn from)))) ∷ ts) (asked-fuses names (from + 1) (number + 1))

  pub lists-fuses : (w : World) (names : List Name) (from number : ℕ) → ListsAlong w (steps_from number (fuses server torn writes from names))
  lists-fuses w [] from number = tt
  lists-fuses w (name ∷ names) from number = (refl, lists-fuses (after_task w (task number (Ok (StopAfter name (count_at writes from) (torn_word (torn_at server torn from)))))) names (from + 1) (number + 1))

-- ---- the tried step

-- what an image lists says nothing of fuses
listed_so : (w : World) (g : ℕ → Option Fuse) (v : ImageVolume) → IsListed w v → IsListed (with_fuses w g) v
listed_so w g v l = record { proper = l.proper; server = l.server; tracks = l.tracks; says = l.says; holds = l.holds }

lists_if : (w : World) (g : ℕ → Option Fuse) (vs : List ImageVolume) (b : Bool) → ListsIf b w vs → ListsIf b (with_fuses w g) vs
lists_if w g vs true l = record { volumes = l.volumes; each = λ i d lt. listed_so w g (get_or vs i d) (l.each i d lt) }
lists_if w g vs false l = l

pub lists-by : (w : World) (g : ℕ → Option Fuse) (vs : List ImageVolume) (o : Option OwnCourse) → ListsBy w vs o → ListsBy (with_fuses w g) vs o
lists-by w g vs None l = l
lists-by w g vs (Some (Groups s n)) l = l
lists-by w g vs (Some (Volumes v u)) l = l
lists-by w g vs (Some Devices) l = lists_if w g vs _ l

-- a line of one step is one step that is asked
pub one-task : (number : ℕ) (text : List ℕ) (step : Step) (strike : List Task) → line_of text ≡ Ok (step ∷ []) → map as_asked strike ≡ tasks_from number (text ∷ []) → (t : Task) × (strike ≡ t ∷ []) × (t.asked ≡ Ok step)
one-task number text step strike reads asks = by strike (asks ∙ ap (λ r. tasks_read number r ++ []) reads)
  where
    by : (strike : List Task) → map as_asked strike ≡ task number (Ok step) ∷ [] → (t : Task) × (strike ≡ t ∷ []) × (t.asked ≡ Ok step)
    by [] is = absurd cc
    by (t ∷ []) is = let head : as_asked t ≡ task number (Ok step) = cc in (t, refl, ap (λ (x : Task). x.asked) head)
    by (t ∷ u ∷ more) is = absurd cc
