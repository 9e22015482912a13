-- Each server goes by a name that a line can say, where lines can say all steps.
use Rattle.std.specs.Prelude.{◌≡◌, ℕ, true, List, All, Some, IfOk, slice_get}
use Rattle.dr_model.specs.declared.step.Name.{Name}
use Rattle.dr_model.specs.LineText.{name_fits, name_text, IsWritten}
use Rattle.dr_model.specs.LineWords.{name_word}
use Rattle.dr_model.specs.Runs.{Task, run}

-- each of these tasks asks for a step that a line gives, or was a line with a fault
abbrev pub AreWritten : List Task → Type 0
AreWritten tasks = All (λ (t : Task). IfOk t.asked IsWritten) tasks

-- these bytes are a name that a line can say; a word of them is read as that name
pub record IsSaid (bytes : List ℕ) : Type 0 where
  pub name : Name
  pub fits : name_fits name ≡ true
  pub text : name_text name ≡ bytes
  pub reads : name_word bytes ≡ Some name

-- where lines give all steps of a run, each of its servers has a name that a line can say
abbrev pub NamesAreSaid : List Task → Type 0
NamesAreSaid tasks = AreWritten tasks → (s : ℕ) (bytes : List ℕ) → slice_get (run tasks).control.servers s ≡ Some bytes → IsSaid bytes
