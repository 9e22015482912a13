-- What the secondary of a Full Duplex primary contains, whether or not any server runs: what is left where the site of the primary is lost.
use Rattle.std.specs.Prelude.{◌≡◌, ◌<◌, ℕ, true, false, List, [], ◌∷◌, ◌++◌, Option, Some, None, nat_eq, if◌then◌else◌}
use Rattle.std.specs.List.{list_any}
use Rattle.dr_model.specs.Histories.{histories, lists}
use Rattle.dr_model.specs.Contents.{image}
use Rattle.dr_model.specs.Layout.{Fields}
use Rattle.dr_model.specs.Control.{Pending, World, is_volume}
use Rattle.dr_model.specs.Groups.{In}
use Rattle.dr_model.specs.Pairs.{is_primary_of, is_secondary_of, is_metro, is_full_duplex}
use Rattle.dr_model.specs.Entries.{fields_at}
use Rattle.dr_model.specs.Runs.{Task}
use Rattle.dr_laws_freezes.specs.Moments.{moments}
use Rattle.dr_laws_freezes.specs.Windows.{is_ack}

-- host write p is in flight on v: it is pending, and not acknowledged
pub record IsInFlight (w : World) (v : ℕ) (p : Pending) : Type 0 where
  pub pending : In p w.control.pending
  pub volume : p.volume ≡ v
  pub unacked : list_any (is_ack p.w) w.events ≡ false

-- one write more, where there is one, on its own track
abbrev pub more_on : Option Pending → ℕ → List ℕ
more_on None t = []
more_on (Some p) t = if nat_eq p.track t then p.w ∷ [] else []

-- Each track of q contains what the host writes make that its primary v holds by the journal, in their order. On at most one track one write
-- more comes after them, which is in flight on v.
pub record LacksNone (w : World) (contents : ℕ → ℕ → List ℕ) (v q : ℕ) : Type 0 where
  pub more : Option Pending
  pub in_flight : (p : Pending) → more ≡ Some p → IsInFlight w v p
  pub size : (w.control.volume v).tracks ≡ (w.control.volume q).tracks
  pub tracks : (t : ℕ) → t < (w.control.volume v).tracks → contents q t ≡ image (histories w.events).write (lists w.events v t ++ more_on more t)

-- so it is of any Metro Mirror primary that is Full Duplex and of its secondary, by these records of theirs and what tracks contain
abbrev pub SecondariesLackNone : World → (ℕ → Fields) → (ℕ → ℕ → List ℕ) → Type 0
SecondariesLackNone w fields contents =
    (v q : ℕ) → is_volume w.control v ≡ true → is_volume w.control q ≡ true
    → is_primary_of q (fields v) ≡ true → is_metro (fields v).primary ≡ true → is_full_duplex (fields v).primary_state ≡ true
    → is_secondary_of v (fields q) ≡ true → LacksNone w contents v q

-- at each moment of a run
abbrev pub NoneIsLacking : List Task → Type 0
NoneIsLacking tasks = (before later : List World) (w : World) → moments tasks ≡ before ++ (w ∷ later) → SecondariesLackNone w (fields_at w.control) w.contents
