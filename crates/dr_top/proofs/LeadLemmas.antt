-- Steps of a script that lead on: none, one more, and one stretch after another.
use Rattle.std.proofs.Common.{ℕ, ◌≡◌, ◌≤◌, List, [], ◌∷◌, ◌++◌, map, take, length, refl, ap, ◌∙◌, sym, subst, append_assoc, Option, Some, None, Result, Ok, Err, arith}
use Rattle.std.proofs.lemmas.List.{append-nil, length-take-le, map-append}
use Rattle.dr_model.specs.declared.step.Step.{Step}
use Rattle.dr_model.specs.Layout.{Blocks}
use Rattle.dr_model.specs.Control.{World}
use Rattle.dr_model.specs.Lines.{task, tasks_read}
use Rattle.dr_model.specs.Listed.{Lists, ListsAlong, as_asked, listed_by, task_on}
use Rattle.dr_model.specs.Runs.{Task, OwnCourse, Groups, Volumes, Devices, own_course, after_task, after_tasks, masters_lost, said}
use Rattle.dr_ids.specs.declared.refusal.Refusal.TheVariants.{Syntax}
use Rattle.dr_model.specs.declared.event.Event.{Event}
use Rattle.dr_model.specs.declared.said.Said.TheVariants.{Refused}
use Rattle.dr_model.specs.Answers.{answer}
use Rattle.dr_model.proofs.CarryLemmas.{plan-refuses}
use Rattle.dr_laws_sound.proofs.RefusedSteps.{lost-stays}
use Rattle.dr_top.specs.Carried.{Reached, StepsLead, EndsBy, GoesTo}
use Rattle.dr_top.specs.declared.carry.Bar.{Bar}
use Rattle.dr_top.proofs.ReachLemmas.{reached-more}
use Rattle.dr_top.proofs.TaskLemmas.{tasks-then, tasks-none, tasks-one}

-- ---- a list and its last element

pub none-last : {X : Type 0} (xs : List X) (x : X) → [] ≡ xs ++ x ∷ [] → ⊥
none-last [] x is = cc
none-last (y ∷ ys) x is = cc

one-last : {X : Type 0} (x y : X) (ys : List X) → x ∷ [] ≡ ys ++ y ∷ [] → ([] ≡ ys) × (x ≡ y)
one-last x y [] is = (refl, cc)
one-last x y (z ∷ zs) is = absurd (none-last zs y cc)

pub last-parts : {X : Type 0} (xs ys : List X) (x y : X) → xs ++ x ∷ [] ≡ ys ++ y ∷ [] → (xs ≡ ys) × (x ≡ y)
last-parts [] ys x y is = one-last x y ys is
last-parts (z ∷ xs) [] x y is = absurd (none-last xs x (sym cc))
last-parts (z ∷ xs) (v ∷ ys) x y is =
    let first : z ≡ v = cc in
    let rest : xs ++ x ∷ [] ≡ ys ++ y ∷ [] = cc in
    let parts = last-parts xs ys x y rest in
    ((λ i. first i ∷ parts.0 i), parts.1)

-- a list that has elements has a last one
pub record Ended {X : Type 0} (xs : List X) : Type 0 where
  pub front : List X
  pub last : X
  pub is : xs ≡ front ++ last ∷ []

pub ended : {X : Type 0} (x : X) (xs : List X) → Ended (x ∷ xs)
ended x [] = record { front = []; last = x; is = refl }
ended x (y ∷ ys) = let e = ended y ys in record { front = x ∷ e.front; last = e.last; is = ap (λ zs. x ∷ zs) e.is }

-- ---- what steps list, one stretch after another

pub lists-then : (w : World) (a b : List Task) → ListsAlong w a → ListsAlong (after_tasks w a) b → ListsAlong w (a ++ b)
unfolding after_tasks
lists-then w [] b first rest = rest
lists-then w (t ∷ a) b first rest = (first.0, lists-then (after_task w t) a b first.1 rest)

-- ---- steps that lead on

pub led-none : (w u : World) (device : ℕ → Blocks) → u ≡ w → StepsLead w [] u device
led-none w u device same = record { steps = []; same = refl; lists = tt; leads = tasks-none w ∙ sym same; images = λ before t is. absurd (none-last before t is) }

module _ (w v u : World) (a : List Task) (d e : ℕ → Blocks) where
  unfoldable pub led-then : (b : List Task) → StepsLead w a v d → StepsLead v b u e → (b ≡ [] → e ≡ d) → StepsLead w (a ++ b) u e
  led-then b l m still = record {
    steps = l.steps ++ m.steps;
    same = map-append as_asked l.steps m.steps ∙ (λ i. l.same i ++ m.same i);
    lists = lists-then w l.steps m.steps l.lists (subst (λ x. ListsAlong x m.steps) (sym l.leads) m.lists);
    leads = tasks-then w l.steps m.steps ∙ ap (λ x. after_tasks x m.steps) l.leads ∙ m.leads;
    images = λ before t is. by m.steps refl before t is;
  }
    where
      by : (ms : List Task) → m.steps ≡ ms → (before : List Task) (t : Task) → l.steps ++ ms ≡ before ++ t ∷ [] → t.listed ≡ listed_by (after_tasks w before) e (own_course t.asked)
      by [] none before t is =
          let here : t.listed ≡ listed_by (after_tasks w before) d (own_course t.asked) = l.images before t (sym (append-nil l.steps) ∙ is) in
          here ∙ ap (λ x. listed_by (after_tasks w before) x (own_course t.asked)) (sym (still (sym m.same ∙ ap (map as_asked) none)))
      by (x ∷ xs) some before t is =
          let end = ended x xs in
          let parts = last-parts (l.steps ++ end.front) before end.last t (append_assoc l.steps end.front (end.last ∷ []) ∙ ap (λ ms. l.steps ++ ms) (sym end.is) ∙ is) in
          let here : end.last.listed ≡ listed_by (after_tasks v end.front) e (own_course end.last.asked) = m.images end.front end.last (some ∙ end.is) in
          let goes : after_tasks w (l.steps ++ end.front) ≡ after_tasks v end.front = tasks-then w l.steps end.front ∙ ap (λ x. after_tasks x end.front) l.leads in
          subst (λ (x : Task). x.listed ≡ listed_by (after_tasks w before) e (own_course x.asked)) parts.1
          (here ∙ ap (λ x. listed_by x e (own_course end.last.asked)) (sym goes ∙ ap (after_tasks w) parts.0))

  pub led-more : (line : ℕ) (step : Result Step ℕ) → StepsLead w a v d → after_task v (task_on v d line step) ≡ u → Lists v (task_on v d line step) → (own_course step ≡ Some Devices → e ≡ d) → StepsLead w (a ++ task line step ∷ []) u e
  led-more line step l goes lists still = led-then (task line step ∷ []) l one (λ none. cc)
    where
      same-listed : (o : Option OwnCourse) → (o ≡ Some Devices → e ≡ d) → listed_by v d o ≡ listed_by v e o
      same-listed None h = refl
      same-listed (Some (Groups s n)) h = refl
      same-listed (Some (Volumes x y)) h = refl
      same-listed (Some Devices) h = ap (λ f. listed_by v f (Some Devices)) (sym (h refl))

      t : Task
      t = task_on v d line step

      one : StepsLead v (task line step ∷ []) u e
      one = record {
        steps = t ∷ [];
        same = refl;
        lists = (lists, tt);
        leads = tasks-one v t ∙ goes;
        images = λ before s is.
            let parts = one-last t s before is in
            subst (λ (x : Task). x.listed ≡ listed_by (after_tasks v before) e (own_course x.asked)) parts.1
            (same-listed (own_course step) still ∙ ap (λ x. listed_by x e (own_course step)) (sym (tasks-none v) ∙ ap (after_tasks v) parts.0));
      }

-- a world that some steps lead to
pub reached-led : (w u : World) (asked : List Task) (device : ℕ → Blocks) → Reached w → StepsLead w asked u device → Reached u
reached-led w u asked device r l = reached-more w u l.steps r l.leads

-- a line outside the grammar is one step
module _ (number column : ℕ) (device : ℕ → Blocks) where
  pub fault-none : (w u : World) → u ≡ w → (result : Result (Unit {0}) Bar) → EndsBy 0 (tasks_read number (Err column)) u result → GoesTo w device (tasks_read number (Err column)) u device result
  fault-none w u same result ends = record { done = 0; within = omega arith; led = led-none w u device same; still = λ none. refl; ends = ends }

  pub fault-said : (w : World) (events : List Event) → events ≡ w.events ++ answer number (Refused (Syntax column)) ∷ [] → GoesTo w device (tasks_read number (Err column)) (record w { events = events }) device (Ok (tt))
  fault-said w events told = record {
    done = 1;
    within = omega arith;
    led = led-more w w (record w { events = events }) [] device device number (Err column) (led-none w w device refl)
        (ap (masters_lost w) (plan-refuses w number (Syntax column)) ∙ lost-stays w (said w number (Refused (Syntax column))) refl ∙ ap (λ es. record w { events = es }) (sym told)) refl (λ own. refl);
    still = λ none. refl;
    ends = refl;
  }

-- so many steps of a list are none only where there are none
pub none-taken : {X : Type 0} (i : ℕ) (xs : List X) → i ≤ length xs → take i xs ≡ [] → i ≡ 0
none-taken i xs le none = let e : length (take i xs) ≡ i = length-take-le i xs le in let z : length (take i xs) ≡ 0 = ap (λ ys. length ys) none in omega arith
