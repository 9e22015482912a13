-- The server that an `@run` asks next has a name that a line can say.
use Rattle.std.proofs.Common.{ℕ, ◌≡◌, ap, sym, ◌∙◌, subst, List, [], Some, None, get_or}
use Rattle.std.specs.Prelude.{slice_get}
use Rattle.std.specs.Str.{bytes_eq}
use Rattle.std.proofs.lemmas.List.Quantifiers.{position-Some}
use Rattle.std.proofs.lemmas.Option.{slice_get-get_or}
use Rattle.dr_logic.proofs.Lists.{same_bytes}
use Rattle.dr_plant.specs.State.{PlantState}
use Rattle.dr_model.specs.declared.step.Name.{Name}
use Rattle.dr_model.specs.Control.{World}
use Rattle.dr_model.specs.Forming.{master_in, next_asked}
use Rattle.dr_model.specs.LineText.{name_fits}
use Rattle.dr_model.specs.LineWords.{name_word}
use Rattle.dr_model.specs.PlanParts.{name_bytes, server_named}
use Rattle.dr_model.specs.Runs.{Task, run}
use Rattle.dr_laws_runs.specs.ServerNames.{IsSaid}
use Rattle.dr_laws_runs.proofs.ServerNames.{names-are-said}
use Rattle.dr_laws_runs.proofs.Written.{steps-written}
use Rattle.dr_sweep.specs.Apart.{IsNextAsked}
use Rattle.dr_sweep.specs.Comes.{Ran, RunState, seen}

module _ (r : RunState) (began : PlantState) (ls : List (List ℕ)) (steps : List Task) (ran : Ran began ls r steps) where
  said-name : (bytes : List ℕ) (s : ℕ) → server_named (seen r).control bytes ≡ Some s → IsSaid bytes
  said-name bytes s named =
      let w : World = run steps in
      let here : server_named w.control bytes ≡ Some s = ap (λ (u : World). server_named u.control bytes) ran.has.stands.leads ∙ named in
      let found = position-Some (bytes_eq bytes) w.control.servers s [] here in
      let there : slice_get w.control.servers s ≡ Some (get_or w.control.servers s []) = slice_get-get_or w.control.servers s [] found.0 in
      subst IsSaid (sym (same_bytes bytes (get_or w.control.servers s []) found.1)) (names-are-said steps (steps-written 1 ls steps ran.asks) s (get_or w.control.servers s []) there)

  -- so it is read as a name
  pub unsaid : (bytes : List ℕ) (s : ℕ) → server_named (seen r).control bytes ≡ Some s → None ≡ name_word bytes → ⊥
  unsaid bytes s named none = let x = said-name bytes s named in let both : None ≡ Some x.name = none ∙ x.reads in absurd cc

  pub next-asked : (n s : ℕ) (bytes : List ℕ) (name : Name) → next_asked (master_in (seen r).control n) ≡ Some s → server_named (seen r).control bytes ≡ Some s → Some name ≡ name_word bytes → IsNextAsked (seen r).control n s name
  next-asked n s bytes name next named reads =
      let x = said-name bytes s named in
      let both : Some name ≡ Some x.name = reads ∙ x.reads in
      let same : name ≡ x.name = cc in
      record { next = next; named = ap (server_named (seen r).control) (ap name_bytes same ∙ x.text) ∙ named; fits = ap name_fits same ∙ x.fits }
