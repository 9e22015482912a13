-- The checks of commands on pairs, and what two moves in a row come to.
use Rattle.std.specs.Prelude.{◌≢◌, ℕ, Bool, List, [], ◌∷◌, ◌++◌, Option, None, if◌then◌else◌}
use Rattle.dr_ids.specs.declared.refusal.Which.TheVariants.{Size, Server as OneServer}
use Rattle.dr_plant.specs.State.{PlantState}
use Rattle.dr_config.specs.Table.{ConfigTable}
use Rattle.dr_model.specs.declared.state.Part.{Part}
use Rattle.dr_model.specs.declared.state.PairState.{PairState}
use Rattle.dr_model.specs.Control.{Control}
use Rattle.dr_model.specs.Moves.{MakeSecondary, MakePrimary}
use Rattle.dr_model.specs.Carry.{Entry, now, check}
use Rattle.dr_model.specs.Refusals.{over}
use Rattle.dr_model.specs.Entries.{running_check, share_size, is_no_target, is_settled, pair_state, secondary_state, relation_state}
use Rattle.dr_model.specs.PairEntries.{refuse_if, reach_refusal, two_servers, may_lead, may_follow, first_differing, leads_to, may_pause, may_resume, belongs_to, are_linked, link_down}
use Rattle.dr_volume.specs.Update.{IsAsBefore}
use Rattle.dr_volume.specs.View.{volume_seen, track_seen}

-- the volumes are on two servers and of one size
abbrev pub unlike_checks : ℕ → ℕ → List Entry
unlike_checks a b = check (two_servers a b) (over OneServer) ∷ check (share_size a b) (over Size) ∷ []

-- a may become the primary of b, and b the secondary of a
abbrev pub free_checks : Control → ℕ → ℕ → Bool → List Entry
free_checks k a b cascade = check (may_lead cascade a b) (pair_state k a) ∷ check (may_follow a b) (pair_state k b) ∷ []

-- neither is a FlashCopy target, and b stands in no revertible and no reversing relationship
abbrev pub flash_checks : Control → ℕ → ℕ → List Entry
flash_checks k a b = check (is_no_target a) (relation_state k a) ∷ check (is_no_target b) (relation_state k b) ∷ check (is_settled b) (relation_state k b) ∷ []

-- the checks of `mkpprc`
abbrev pub make_checks : Control → ℕ → ℕ → Bool → List Entry
make_checks k a b cascade = running_check k a ∷ refuse_if (reach_refusal a b) ∷ unlike_checks a b ++ free_checks k a b cascade ++ flash_checks k a b

-- and its two moves
abbrev pub make_moves : ℕ → ℕ → Part → PairState → Bool → List Entry
make_moves a b kind state full = now (MakeSecondary b a kind state) ∷ now (MakePrimary a b kind state full) ∷ []

-- the first track that differs, where none may
abbrev pub difference_seen : PlantState → ConfigTable → ℕ → ℕ → Bool → Option ℕ
difference_seen s t a b full = if full then None else first_differing (track_seen s t) (volume_seen s t a).tracks a b

-- a is a primary of b
abbrev pub remove_checks : Control → ℕ → ℕ → List Entry
remove_checks k a b = running_check k a ∷ check (leads_to a b) (pair_state k a) ∷ []

-- the server of b is on, and the link to it is up
abbrev pub contact_checks : Control → ℕ → ℕ → List Entry
contact_checks k a b = running_check k b ∷ check (are_linked a b) (link_down (k.volume a).server (k.volume b).server) ∷ []

-- the checks of `pausepprc`
abbrev pub pause_checks : Control → ℕ → ℕ → List Entry
pause_checks k a b = running_check k a ∷ check (may_pause a b) (pair_state k a) ∷ []

-- the checks of `resumepprc`
abbrev pub resume_checks : Control → ℕ → ℕ → Part → List Entry
resume_checks k a b kind = running_check k a ∷ check (may_resume a b kind) (pair_state k a) ∷ refuse_if (reach_refusal a b) ∷ check (belongs_to a b) (secondary_state k b) ∷ []

-- From s to u every volume but these two has what it had.
abbrev pub BothAlone : PlantState → PlantState → ConfigTable → ℕ → ℕ → Type 0
BothAlone s u t a b = (q : ℕ) → q ≢ a → q ≢ b → IsAsBefore s u t q
