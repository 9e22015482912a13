-- Each server goes by a name that a line can say.
use Rattle.std.proofs.Common.{ℕ, zero, suc, ◌≡◌, refl, ap, ◌∙◌, sym, subst, true, ◌&&◌, List, [], ◌∷◌, ◌++◌, Some, Result, inl, inr}
use Rattle.std.specs.Prelude.{IfOk, slice_get}
use Rattle.std.proofs.lemmas.Bool.{and_parts}
use Rattle.std.proofs.lemmas.List.Elements.{All-head, All-tail}
use Rattle.std.proofs.lemmas.Result.{IfOk-at_ok}
use Rattle.dr_model.specs.declared.step.Name.{Name}
use Rattle.dr_model.specs.declared.step.Step.{Step}
use Rattle.dr_model.specs.declared.step.Step.TheVariants.{Server}
use Rattle.dr_model.specs.Carried.{begun, finish, carried_out, after_plan, stop_place}
use Rattle.dr_model.specs.Carry.{Outcome}
use Rattle.dr_model.specs.Control.{World, nothing}
use Rattle.dr_model.specs.Forming.{Part, after_part}
use Rattle.dr_model.specs.LineSteps.{has, no_options, no_operands}
use Rattle.dr_model.specs.LineTable as table
use Rattle.dr_model.specs.LineText as line
use Rattle.dr_model.specs.LineText.{name_fits, name_text, IsWritten}
use Rattle.dr_model.specs.PlanParts.{Plan, name_bytes}
use Rattle.dr_model.specs.Plans.{server_done}
use Rattle.dr_model.specs.Runs.{Task, course, answered_part, after_task, after_tasks}
use Rattle.dr_model.proofs.CarryLemmas.{carry-none}
use Rattle.dr_script.proofs.TextLemmas.{name_reads}
use Rattle.dr_laws_sound.proofs.Parts.{Comes, asks_turn, course-goes, goes-keep}
use Rattle.dr_laws_fuses.proofs.Names.{NamesBy, PlanUnnamed, plan-unnamed, case-names, last-names}
use Rattle.dr_laws_runs.specs.ServerNames.{AreWritten, IsSaid, NamesAreSaid}

-- each server's name is one that a line can say
abbrev AllSaid : World → Type 0
AllSaid w = (s : ℕ) (bytes : List ℕ) → slice_get w.control.servers s ≡ Some bytes → IsSaid bytes

said-same : (w u : World) → u.control.servers ≡ w.control.servers → AllSaid w → AllSaid u
said-same w u same said s bytes at = said s bytes (ap (λ xs. slice_get xs s) (sym same) ∙ at)

-- ---- a server more

-- a step that a line gives defines a server by such a name
written-fits : (name : Name) → IsWritten (Server name) → name_fits name ≡ true
unfolding line.is_written line.at_saying line.pair_saying line.flash_saying line.session_saying line.operand_fits line.setting_fits line.said_count table.operands table.settings table.may_end_with has no_operands no_options table.form
written-fits name written = (and_parts (name_fits name) true (and_parts (name_fits name && true) true written).0).0

name-said : (name : Name) → name_fits name ≡ true → IsSaid (name_text name)
name-said name fits = record { name = name; fits = fits; text = refl; reads = (name_reads name fits).reads }

more-said : (xs : List (List ℕ)) (x : List ℕ) → IsSaid x → ((s : ℕ) (bytes : List ℕ) → slice_get xs s ≡ Some bytes → IsSaid bytes) → (s : ℕ) (bytes : List ℕ) → slice_get (xs ++ x ∷ []) s ≡ Some bytes → IsSaid bytes
more-said [] x new said zero bytes at = subst IsSaid (let e : x ≡ bytes = cc in e) new
more-said [] x new said (suc s) bytes at = absurd (cc)
more-said (y ∷ xs) x new said zero bytes at = said zero bytes at
more-said (y ∷ xs) x new said (suc s) bytes at = more-said xs x new (λ i. said (suc i)) s bytes at

defined-said : (w : World) (name : Name) → name_fits name ≡ true → AllSaid w → AllSaid (carried_out w (server_done w.control name)).0
defined-said w name fits said s bytes at =
    let p : Plan = server_done w.control name in
    more-said w.control.servers (name_bytes name) (name-said name fits) said s bytes
    (sym (ap (λ (o : Outcome). slice_get (finish p (stop_place w p) o.0 o.1).control.servers s) (carry-none (begun w p))) ∙ at)

-- ---- plans

unnamed-said : (w : World) (p : Plan) → PlanUnnamed w.control p → AllSaid w → AllSaid (carried_out w p).0
unnamed-said w p none said = said-same w (carried_out w p).0 (plan-unnamed w p none).servers said

-- a step that defines a server is one that a line gives
plan-said : (w : World) (asked : Result Step ℕ) (p : Plan) → NamesBy w.control asked p → IfOk asked IsWritten → AllSaid w → AllSaid (carried_out w p).0
plan-said w asked p (inl none) written said = unnamed-said w p none said
plan-said w asked p (inr (name, asks, is)) written said =
    subst (λ p. AllSaid (carried_out w p).0) (sym is) (defined-said w name (written-fits name (IfOk-at_ok IsWritten asks written)) said)

-- a part of an `@run` defines no server
part-said : (w : World) (p : Plan) → Comes w p → AllSaid w → AllSaid (after_part w p)
part-said w p c said = by (case-names w.control w.events 0 c.asked p (c.case 0))
  where
    by : NamesBy w.control c.asked p → AllSaid (after_part w p)
    by (inl none) = unnamed-said w p none said
    by (inr (name, asks, is)) = absurd (let no = sym (ap asks_turn asks) ∙ c.asks in cc)

answered-said : (w : World) (p : Plan) (n : ℕ) → AllSaid (carried_out w p).0 → AllSaid (answered_part n (record { world = w; plan = p }))
unfolding after_plan
answered-said w p n said = said

-- ---- steps

task-said : (w : World) (t : Task) → IfOk t.asked IsWritten → AllSaid w → AllSaid (after_task w t)
task-said w t written said =
    let x : Part = (course w t).last in
    answered-said x.world x.plan t.line (plan-said x.world t.asked x.plan (last-names w t) written (goes-keep AllSaid part-said w _ _ (course-goes w t) said))

tasks-said : (w : World) (tasks : List Task) → AreWritten tasks → AllSaid w → AllSaid (after_tasks w tasks)
unfolding after_tasks
tasks-said w [] written said = said
tasks-said w (t ∷ tasks) written said =
    tasks-said (after_task w t) tasks (All-tail (λ (t : Task). IfOk t.asked IsWritten) t tasks written)
    (task-said w t (All-head (λ (t : Task). IfOk t.asked IsWritten) t tasks written) said)

-- over each run
pub names-are-said : (tasks : List Task) → NamesAreSaid tasks
names-are-said tasks written = tasks-said nothing tasks written (λ s bytes at. absurd (cc))
