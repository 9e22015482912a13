-- What a recovery makes of a session: which volumes remain, the number that they share, and what they show. It is a function of the
-- volumes' records and of what their tracks contain: no host, primary or master stands in it.
use Rattle.std.specs.Prelude.{ℕ, ◌&&◌, Bool, true, List, map, filter, Option, Some, None, if◌then◌else◌}
use Rattle.std.specs.FinSet.{contains}
use Rattle.dr_ids.specs.declared.refusal.Decision.{Decision}
use Rattle.dr_model.specs.Layout.{Fields}
use Rattle.dr_model.specs.Decisions.{Numbers, Same, numbers_in, decision}
use Rattle.dr_model.specs.Views.{view}
use Rattle.dr_model.specs.SessionEntries.{counts_in, shown_of}
use Rattle.dr_model.specs.RecoveryPlans.{lets_revert}

-- the records of volumes
abbrev pub VolumeRecords : Type 0
VolumeRecords = ℕ → Fields

-- what is decided over the volumes that count in session s
abbrev pub decided_over : VolumeRecords → List ℕ → ℕ → Decision
decided_over f vs s = decision (map (λ v. shown_of (f v)) (filter (λ v. counts_in s (f v)) vs))

-- Where that is to revert, those that are revertible go back. Where it is to commit, they are committed, and where it is neither, they
-- stay: both leave a target its number and what it shows.
abbrev pub goes_back : Bool → Fields → Bool
goes_back reverts f = reverts && f.revertible

-- each that counts remains, but one that goes back and was no member before
abbrev pub remains_in : ℕ → Bool → Fields → Bool
remains_in s reverts f = counts_in s f && (if goes_back reverts f then f.member else true)

-- with its number, which is the one before where it goes back
abbrev pub number_after : Bool → Fields → ℕ
number_after reverts f = if goes_back reverts f then f.previous_sequence else f.sequence

-- what a track of target v was before the flash: its own where v held it then, and else its source's
abbrev pub view_before : VolumeRecords → (ℕ → ℕ → List ℕ) → ℕ → ℕ → List ℕ
view_before f contents v t = if contains (f v).previous_own t then contents v t else contents (f v).source t

-- what a track shows after it
abbrev pub image_after : Bool → VolumeRecords → (ℕ → ℕ → List ℕ) → ℕ → ℕ → List ℕ
image_after reverts f contents v t = if goes_back reverts (f v) then view_before f contents v t else view f contents v t

-- the number that all of some have
abbrev pub common : Numbers → Option ℕ
common (Same n) = Some n
common _ = None

-- what a recovery leaves of a session: the volumes that remain, their group's number, and what each of their tracks shows
pub record Recovery : Type 0 where
  pub remaining : List ℕ
  pub group : Option ℕ
  pub image : ℕ → ℕ → List ℕ

-- the recovery of session s over these volumes, by whether what is decided reverts
abbrev pub recovery_by : Bool → VolumeRecords → (ℕ → ℕ → List ℕ) → List ℕ → ℕ → Recovery
recovery_by reverts f contents vs s = record {
  remaining = filter (λ v. remains_in s reverts (f v)) vs;
  group = common (numbers_in (map (λ v. number_after reverts (f v)) (filter (λ v. remains_in s reverts (f v)) vs)));
  image = image_after reverts f contents;
}

-- the recovery of session s, by what is decided over the volumes that count in it
abbrev pub recovered : VolumeRecords → (ℕ → ℕ → List ℕ) → List ℕ → ℕ → Recovery
recovered f contents vs s = recovery_by (lets_revert (decided_over f vs s)) f contents vs s
