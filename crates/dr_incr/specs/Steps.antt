-- What remains of the plans of a resynchronization and of a restore where both volumes are known, and when a restore may
-- begin.
use Rattle.std.specs.Prelude.{◌≡◌, ℕ, true, List, [], ◌∷◌, ◌++◌, map, Option, option_map}
use Rattle.dr_ids.specs.declared.names.VolumeId.{VolumeId}
use Rattle.dr_ids.specs.declared.refusal.Refusal.{Refusal}
use Rattle.dr_model.specs.Layout.{Fields}
use Rattle.dr_model.specs.Laws.{SetsFit}
use Rattle.dr_model.specs.Control.{Control}
use Rattle.dr_model.specs.Moves.{Resync, Reverse}
use Rattle.dr_model.specs.Carry.{Entry, now, check}
use Rattle.dr_model.specs.Entries.{relation_state, secondary_state, keep_on, for_lowest, running_check}
use Rattle.dr_model.specs.PairEntries.{refuse_if}
use Rattle.dr_model.specs.Plans.{is_recorded_target, is_lone_restore, may_return, counted_refusal, restore_refusal, left_by}

-- the server of s is on, there is no such reason to refuse, and t is a target of s whose changes are recorded
abbrev pub target_checks : (Control → Option Refusal) → Control → ℕ → ℕ → List Entry
target_checks why k s t = running_check k s ∷ refuse_if why ∷ check (is_recorded_target s t) (relation_state k t) ∷ []

-- a member's target isn't made a copy anew
abbrev pub resync_checks : Control → ℕ → ℕ → List Entry
resync_checks k s t = target_checks (counted_refusal t) k s t

-- a resynchronization: its checks, and its one move
abbrev pub resync_entries : Control → ℕ → ℕ → Option ℕ → List Entry
resync_entries k s t sequence = resync_checks k s t ++ now (Resync t sequence) ∷ []

-- and no other target of s is revertible or restored, and s is no secondary and no primary but a Suspended one
abbrev pub lone_checks : Control → ℕ → ℕ → List Entry
lone_checks k s t = check (is_lone_restore s t) (relation_state k s) ∷ check (may_return s) (secondary_state k s) ∷ []

-- a member's target is restored only while its session lets it be, and leaves the session by it
abbrev pub reverse_checks : Control → ℕ → ℕ → List Entry
reverse_checks k s t = target_checks (restore_refusal t) k s t ++ lone_checks k s t

-- a restore that begins: its checks, and its one move
abbrev pub reverse_entries : Control → ℕ → ℕ → List Entry
reverse_entries k s t = reverse_checks k s t ++ now (Reverse t (left_by k t)) ∷ []

-- the number of a volume, where there is one
abbrev pub volume_number : Option VolumeId → Option ℕ
volume_number v = option_map (λ (x : VolumeId). x.0) v

-- What the sessions say of a restore of t, which a caller has looked up: why a member's target can't be restored, and the
-- primary of the member whose target leaves its session by it. Both are none where t is no member's target.
pub record IsAsked (k : Control) (t : ℕ) (unsettled : Option Refusal) (left : Option VolumeId) : Type 0 where
  pub why : restore_refusal t k ≡ unsettled
  pub leaves : left_by k t ≡ volume_number left

-- the other targets of s keep the lowest track that t holds
abbrev pub keeps_of : List ℕ → ℕ → ℕ → List Entry
keeps_of volumes s t = map (λ u. for_lowest t (λ k. keep_on s k u)) volumes

-- the sets of a target's fields fit: what changed it holds unless it is revertible, and what it holds isn't blank
abbrev pub HasFitSets : Fields → Type 0
HasFitSets f = SetsFit f.revertible f.own f.source_changes f.target_changes f.blank

-- a target, unless the volume is none, is restored onto s
abbrev pub IsRestoredOnto : ℕ → Fields → Type 0
IsRestoredOnto s f = f.related ≡ true → (f.reversing ≡ true) × (f.source ≡ s)
