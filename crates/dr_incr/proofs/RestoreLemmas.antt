-- What the moves of a resynchronization and of a restore ask, and how many events they tell.
use Rattle.std.proofs.Common.{ℕ, ◌≡◌, ◌≤◌, ◌+◌, ◌++◌, true, false, length, sym, ◌∙◌, arith, None, Some, Option}
use Rattle.std.specs.FinSet.{contains, union}
use Rattle.dr_bits.specs.Tracks.{Tracks}
use Rattle.dr_bits.proofs.Laws.{contains-union_tracks}
use Rattle.dr_plant.specs.State.{PlantState}
use Rattle.dr_config.specs.Table.{ConfigTable}
use Rattle.dr_model.specs.Layout.{Fields}
use Rattle.dr_model.specs.Control.{Volume}
use Rattle.dr_model.specs.Moves.{Reverse, Release, told, told_left, told_restored}
use Rattle.dr_volume.specs.View.{volume_seen}
use Rattle.dr_moves.specs.Fit.{RelationsFit}
use Rattle.dr_moves.specs.Made.{Apart}
use Rattle.dr_incr.specs.Steps.{HasFitSets}
use Rattle.dr_logic.proofs.Truth.{either-of}
use Rattle.dr_facts.proofs.Costs.{restored-few}

pub union-held : (a b own : Tracks) → ((q : ℕ) → contains a q ≡ true → contains own q ≡ true) → ((q : ℕ) → contains b q ≡ true → contains own q ≡ true) → (q : ℕ) → contains (union a b) q ≡ true → contains own q ≡ true
union-held a b own f g q h = either-of (contains a q) (contains b q) (sym (contains-union_tracks a b q) ∙ h) (f q) (g q)

-- what changed is held by a target that isn't revertible, and isn't blank
pub changes-apart : (s : PlantState) (c : ConfigTable) (v : ℕ) → RelationsFit s c → (volume_seen s c v).fields.revertible ≡ false → HasFitSets (volume_seen s c v).fields
    → Apart (union (volume_seen s c v).fields.source_changes (volume_seen s c v).fields.target_changes) (volume_seen s c v).fields.blank
changes-apart s c v fit forward sets =
    let f : Fields = (volume_seen s c v).fields in
    λ q h. fit.apart v q (union-held f.source_changes f.target_changes f.own (sets.noted_held forward) (sets.rewritten_held forward) q h)

-- one more where a target leaves its session
left-few : (left : Option ℕ) (s v from n : ℕ) (own : Tracks) → length (told_left left s ++ told_restored v from n own) ≤ n + 2
left-few None s v from n own = let few = restored-few v from n own in omega (arith, few)
left-few (Some u) s v from n own = let few = restored-few v from n own in omega (arith, few)

pub reverse-few : (v : ℕ) (left : Option ℕ) (x : Volume) → length (told (Reverse v left) x) ≤ x.tracks + 2
reverse-few v left x = left-few left x.fields.session v x.fields.source x.tracks _

pub release-few : (v k : ℕ) (x : Volume) → length (told (Release v k) x) ≤ x.tracks + 1
release-few v k x = restored-few v x.fields.source x.tracks _
