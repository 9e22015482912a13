-- Device writes that no fuse cuts short: those of a server in a step that stops one, or starts another one, and the first one in its own start.
use Rattle.std.proofs.Common.{ℕ, ◌≡◌, ◌<◌, ◌-◌, ◌^◌, Bool, true, false, cond, [], ◌∷◌, refl, ap, ◌∙◌, sym, subst, arith, Option, Some, Ok}
use Rattle.std.specs.Prelude.{slice_get}
use Rattle.std.specs.Option.{option_map_or}
use Rattle.std.specs.Str.{bytes_eq}
use Rattle.std.proofs.lemmas.List.Quantifiers.{position-Some}
use Rattle.std.proofs.lemmas.Option.{get_or_from_slice_get, slice_get_within}
use Rattle.std.proofs.lemmas.Slice.Eq.{bytes_eq-Decides}
use Rattle.dr_laws_fuses.specs.Laws.{StopsNothing}
use Rattle.dr_laws_fuses.proofs.Switches.{no-write-stops, start-takes-away, start-writes-alone, stop-writes-nothing}
use Rattle.dr_logic.proofs.Lists.{same_bytes}
use Rattle.dr_logic.proofs.Truth.{false_true}
use Rattle.dr_model.specs.declared.step.Name.{Name}
use Rattle.dr_model.specs.declared.step.Step.{Step}
use Rattle.dr_model.specs.declared.step.Step.TheVariants.{Start, Stop}
use Rattle.dr_model.specs.declared.step.TornWord.{TornWord}
use Rattle.dr_model.specs.Control.{World}
use Rattle.dr_model.specs.LineText.{name_text}
use Rattle.dr_model.specs.PlanParts.{name_bytes, server_named}
use Rattle.dr_model.specs.Plans.{armed, torn_bytes}
use Rattle.dr_model.specs.Runs.{Task}
use Rattle.dr_plan.specs.Parts.{IsSweep, IsOneStep}
use Rattle.dr_plan.specs.Sweep.{Sweep, Tried}
use Rattle.dr_sweep.specs.Counts.{first_by, first_in, first_write}
use Rattle.dr_sweep.specs.Parts.{CutsNothing}
use Rattle.dr_sweep.proofs.AskedLemmas.{one-task}

-- two names of one server are the same
same-named : (w : World) (s : ℕ) (a b : Name) → server_named w.control (name_bytes a) ≡ Some s → server_named w.control (name_bytes b) ≡ Some s → name_text a ≡ name_text b
same-named w s a b one other =
    let first = position-Some (bytes_eq (name_bytes a)) w.control.servers s [] one in
    let second = position-Some (bytes_eq (name_bytes b)) w.control.servers s [] other in
    same_bytes (name_text a) _ first.1 ∙ sym (same_bytes (name_text b) _ second.1)

-- by the step
by-step : (step : Step) (name : Name) (s write : ℕ) (torn : TornWord) (w : World) (t : Task) → t.asked ≡ Ok step → server_named w.control (name_bytes name) ≡ Some s → write < first_by name (Ok (step ∷ [])) → StopsNothing s (armed write torn) w t
by-step (Start start) name s write torn w t asks named low = by (bytes_eq (name_text start) (name_text name)) refl low
  where
    by : (b : Bool) → bytes_eq (name_text start) (name_text name) ≡ b → write < cond b 1 (2 ^ 32 - 1) → StopsNothing s (armed write torn) w t
    by true same low =
        let equal : name_text start ≡ name_text name = same_bytes (name_text start) (name_text name) same in
        let none : 0 ≡ write = omega (arith, low) in
        subst (λ n. StopsNothing s (armed n torn) w t) none (start-takes-away s w t start (torn_bytes torn) asks (ap (server_named w.control) equal ∙ named))
    by false apart low = no-write-stops s w t (start-writes-alone s w t start asks (λ e. false_true apart ((bytes_eq-Decides (name_text start) (name_text name)).1 (same-named w s start name e named)))).0 (armed write torn)
by-step (Stop stop) name s write torn w t asks named low = no-write-stops s w t (stop-writes-nothing s w t stop asks) (armed write torn)
by-step step name s write torn w t asks named low = absurd (let none : first_by name (Ok (step ∷ [])) ≡ 0 = refl in omega (arith, none, low))

-- of a server in a tried step, before its first one that can be cut short
pub early-so : (plan : Sweep) → IsSweep plan → (disaster place server write : ℕ) (torn : TornWord) → write < first_write plan disaster place server → CutsNothing plan disaster place server write torn
early-so plan sweep disaster place server write torn low name tried line s t w is_name is_tried asks named = by-step step.0 name s write torn w t asks_one named (omega (arith, first, low))
  where
    step : IsOneStep tried.text
    step = subst (λ (t : Tried). IsOneStep t.text) (get_or_from_slice_get plan.tried place tried tried is_tried) (sweep.one place tried (slice_get_within plan.tried place tried is_tried))

    one : (u : Task) × (t ∷ [] ≡ u ∷ []) × (u.asked ≡ Ok step.0)
    one = one-task line tried.text step.0 (t ∷ []) step.1 asks

    asks_one : t.asked ≡ Ok step.0
    asks_one = let cut = one.1 in let same : t ≡ one.0 = cc in ap (λ (x : Task). x.asked) same ∙ one.2

    first : first_write plan disaster place server ≡ first_by name (Ok (step.0 ∷ []))
    first =
        ap (λ (o : Option Name). option_map_or (λ name. option_map_or (λ (t : Tried). first_in name t.text) (slice_get plan.tried place) 0) o 0) is_name
        ∙ ap (λ (o : Option Tried). option_map_or (λ (t : Tried). first_in name t.text) o 0) is_tried
        ∙ ap (first_by name) step.1
