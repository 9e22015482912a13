-- A number of which no session is defined: no target counts in it, so nothing is decided, and no volume remains.
use Rattle.std.proofs.Common.{ℕ, ◌≡◌, refl, ap, ◌∙◌, Bool, true, false, ◌&&◌, cond, List, [], map, filter, Option, None}
use Rattle.dr_logic.proofs.Lists.{filter-none}
use Rattle.dr_model.specs.Layout.{Blocks}
use Rattle.dr_model.specs.Decisions.{numbers_in, decision, decided}
use Rattle.dr_model.specs.Control.{Fuse, World}
use Rattle.dr_model.specs.Sessions.{session_in}
use Rattle.dr_model.specs.SessionEntries.{counts_in, shown_of}
use Rattle.dr_model.specs.Groups.{In}
use Rattle.dr_model.specs.RecoveryPlans.{lets_revert}
use Rattle.dr_model.specs.Recovery.{VolumeRecords, decided_over, goes_back, remains_in, number_after, common}
use Rattle.dr_model.specs.Laws.{Sound}
use Rattle.dr_model.specs.Fits.{Fits}
use Rattle.dr_model.specs.Runs.{Task, run}
use Rattle.dr_facts.proofs.Lists.{to-filter, to-map}
use Rattle.dr_laws_sound.proofs.Steps.{sound-run}
use Rattle.dr_laws_recovery.specs.Decided.{record_on}
use Rattle.dr_laws_recovery.specs.Headline.{GivesNothing, NoSessionNoGroup}
use Rattle.dr_laws_recovery.proofs.Decided.{none-shown}
use Rattle.dr_laws_recovery.proofs.RecoverySame.{filter-same}

-- a list of which none passes
filtered-out : (p : ℕ → Bool) (vs : List ℕ) → ((v : ℕ) → In v vs → p v ≡ false) → filter p vs ≡ []
filtered-out p vs none = filter-same p (λ v. false) vs none ∙ filter-none (λ v. false) vs (λ v. refl)

module _ (w : World) (sound : Sound w) (on : ℕ → Bool) (fuse : ℕ → Option Fuse) (device : ℕ → Blocks) (fits : Fits w on fuse device) (s : ℕ) (none : session_in w.control.sessions s ≡ None) where
  abbrev vs : List ℕ
  vs = w.control.volumes

  abbrev f : VolumeRecords
  f = record_on w device

  -- no volume counts
  none-counts : (v : ℕ) → In v vs → counts_in s (f v) ≡ false
  none-counts v there = by (counts_in s (f v)) refl
    where
      by : (b : Bool) → counts_in s (f v) ≡ b → b ≡ false
      by true counts = absurd (none-shown w sound on fuse device fits s none (shown_of (f v)) (to-map (λ v. shown_of (f v)) (filter (λ v. counts_in s (f v)) vs) v (to-filter (λ v. counts_in s (f v)) vs v there counts)))
      by false e = refl

  abbrev reverts : Bool
  reverts = lets_revert (decided_over f vs s)

  -- so none remains
  none-left : filter (λ v. remains_in s reverts (f v)) vs ≡ []
  none-left = filtered-out (λ v. remains_in s reverts (f v)) vs (λ v there. ap (λ b. b && cond (goes_back reverts (f v)) (f v).member true) (none-counts v there))

  pub gives-nothing : GivesNothing w device s
  unfolding decision decided
  gives-nothing = record {
    decides = ap (λ us. decision (map (λ v. shown_of (f v)) us)) (filtered-out (λ v. counts_in s (f v)) vs none-counts);
    remaining = none-left;
    group = ap (λ us. common (numbers_in (map (λ v. number_after reverts (f v)) us))) none-left;
  }

-- at the end of a run
pub no-session-run : (tasks : List Task) (on : ℕ → Bool) (fuse : ℕ → Option Fuse) (device : ℕ → Blocks) → Fits (run tasks) on fuse device → NoSessionNoGroup tasks device
no-session-run tasks on fuse device fits s none = gives-nothing (run tasks) (sound-run tasks) on fuse device fits s none
