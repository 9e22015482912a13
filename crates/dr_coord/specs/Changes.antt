-- What a hold comes to and what is heard of it, and what a void does.
use Rattle.std.specs.Prelude.{◌≡◌, ℕ, ◌≤◌, ◌+◌, Bool, true, false, Some, Result, OnOk, if◌then◌else◌}
use Rattle.dr_ids.specs.declared.names.SessionId.{SessionId}
use Rattle.dr_ids.specs.declared.names.VolumeId.{VolumeId}
use Rattle.dr_ids.specs.declared.refusal.Refusal.{Refusal}
use Rattle.dr_model.specs.Pairs.{is_engaged}
use Rattle.dr_model.specs.Moves.{Finish}
use Rattle.dr_model.specs.Carry.{Make, Pass, Do, Entry}
use Rattle.dr_model.specs.Entries.{fields_at}
use Rattle.dr_moves.specs.Beside.{heard}
use Rattle.dr_moves.specs.Heard.{if_counts}
use Rattle.dr_moves.specs.declared.beside.News.{News}
use Rattle.dr_moves.specs.declared.beside.News.TheVariants.{Begun}
use Rattle.dr_moves.specs.declared.carrying.Next.{Next}
use Rattle.dr_moves.specs.declared.carrying.Next.TheVariants as next
use Rattle.dr_moves.specs.declared.moves.Move.TheVariants as move

-- what a hold comes to, by whether the primary records the attempt, and whether the hold is the first one of it
abbrev pub hold_next : Bool → Bool → VolumeId → SessionId → ℕ → Next
hold_next true first v k n = next.Pass
hold_next false true v k n = next.Open v k n
hold_next false false v k n = next.Do (move.Hold v k n false)

-- What lies beside, which was x and is y, has heard of a hold that the session's attempt has begun, or nothing: only the first hold
-- begins it, and does so where it is done and the primary didn't record it. Where all went well the cut is told, and the begin.
pub record HoldHeard {B : Type 0} (after : News → B → B) (x y : B) (k : SessionId) (first recorded : Bool) (before left : ℕ) (result : Result (Unit {0}) Refusal) : Type 0 where
  pub begun : Bool
  pub only : begun ≡ true → first ≡ true
  pub heard : y ≡ heard after (if_counts begun (Some (Begun k))) x
  pub done : OnOk result (recorded ≡ false → begun ≡ first)
  pub room_left : OnOk result (before ≤ left + (if begun then 2 else 1))

-- what a void of v does: where v records or is held, it does so no more, and its attempt stays
abbrev pub void_on : ℕ → Entry
void_on v k = if is_engaged (fields_at k v) then Do (Make (Finish v 0)) else Pass
