-- Fuses that tear alike: whatever comes, worlds that differ in such fuses alone stay so.
use Rattle.std.proofs.Common.{ℕ, ◌-◌, ◌≡◌, inl, inr, refl, ap, ◌∙◌, sym, subst, Bool, true, false, cond, List, [], ◌∷◌, Option, Some, None, Result, Ok, nat_eq, nat_le}
use Rattle.dr_model.specs.declared.step.Step.{Step}
use Rattle.dr_model.specs.declared.step.Step.TheVariants.{Start, StopAfter}
use Rattle.dr_model.specs.Control.{Fuse, World}
use Rattle.dr_model.specs.Layout.{byte, bit}
use Rattle.dr_model.specs.Carry.{gate_turned, equal}
use Rattle.dr_model.specs.Plans.{fuse_at_start}
use Rattle.dr_model.specs.Runs.{Task, after_task, after_tasks}
use Rattle.dr_laws_fuses.specs.Fuses.{with_fuses, changed_fuse}
use Rattle.dr_laws_fuses.specs.Laws.{TearAlike, TornAlike, TornBytesTellOneBit, TearsAsFill}
use Rattle.dr_laws_fuses.proofs.Acts.{Goes, Passes, Cuts}
use Rattle.dr_laws_fuses.proofs.Steps.{Alike, task-alike}

abbrev R : ℕ → Option Fuse → Option Fuse → Type 0
R q f g = TearAlike f g

-- no stop ends the comparison
abbrev M : ℕ → Type 0
M q = ⊥

goes : (q : ℕ) (f g : Option Fuse) (n : ℕ) → R q f g → Goes R M q f g n
goes q None None n alike = Passes refl refl tt
goes q (Some f) (Some g) n alike = by (nat_le n f.after) refl
  where
    by : (b : Bool) → nat_le n f.after ≡ b → Goes R M q (Some f) (Some g) n
    by true p = Passes p (ap (nat_le n) alike.0 ∙ p) (ap (λ m. m - n) alike.0, alike.1)
    by false p = Cuts p (ap (nat_le n) alike.0 ∙ p) (λ gate new. ap (λ m. cond (nat_eq m gate) (gate_turned f.torn new) false) (sym alike.0) ∙ ap (λ b. cond (nat_eq g.after gate) b false) (sym (alike.1 new))) (refl, alike.1)
goes q None (Some g) n alike = absurd alike
goes q (Some f) None n alike = absurd alike

started : (f g : Option Fuse) → TearAlike f g → TearAlike (fuse_at_start f) (fuse_at_start g)
started None None alike = tt
started (Some f) (Some g) alike = subst (λ n. TearAlike (cond (nat_eq f.after 0) None (Some f)) (cond (nat_eq n 0) None (Some g))) (sym alike.0) (by (nat_eq f.after 0))
  where
    by : (b : Bool) → TearAlike (cond b None (Some f)) (cond b None (Some g))
    by true = tt
    by false = alike
started None (Some g) alike = absurd alike
started (Some f) None alike = absurd alike

changes : (asked : Result Step ℕ) (f g : Option Fuse) → TearAlike f g → TearAlike (changed_fuse asked f) (changed_fuse asked g)
changes (Ok (Start name)) f g alike = started f g alike
changes (Ok (StopAfter name writes torn)) f g alike = (refl, λ new. refl)
changes asked f g alike = alike

step : (w : World) (t : Task) (g : ℕ → Option Fuse) → ((q : ℕ) → TearAlike (w.control.fuse q) (g q)) → TornAlike (after_task w t) (after_task (with_fuses w g) t)
step w t g all = by (task-alike R M goes w g all t.line t.asked t.listed (λ name s set named. changes t.asked _ _ (all s)))
  where
    by : Alike R M goes w (after_task w t) (after_task (with_fuses w g) t) → TornAlike (after_task w t) (after_task (with_fuses w g) t)
    by (inl same) = record { fuse = same.fuse; is = same.is; alike = same.fuses }
    by (inr parted) = absurd parted.met

pub torn-alike : (tasks : List Task) (w v : World) → TornBytesTellOneBit w v tasks
unfolding after_tasks
torn-alike [] w v alike = alike
torn-alike (t ∷ tasks) w v alike = torn-alike tasks (after_task w t) (after_task v t) (subst (λ v. TornAlike (after_task w t) (after_task v t)) (sym alike.is) (step w t alike.fuse alike.alike))

pub tears-as-fill : (writes : ℕ) (bytes : List ℕ) → TearsAsFill writes bytes
tears-as-fill writes bytes = by (bit (byte bytes 0) 0) refl
  where
    by : (b : Bool) → bit (byte bytes 0) 0 ≡ b → TearsAsFill writes bytes
    by false is = inl (refl, λ new. ap (λ b. equal b new) (sym is))
    by true is = inr (refl, λ new. ap (λ b. equal b new) (sym is))
