-- What each kind of move asks of pairs in freeze windows.
use Rattle.std.specs.Prelude.{◌≡◌, ◌≢◌, ℕ, Bool, true, false, ◌&&◌, Option, Some, None}
use Rattle.std.specs.List.{list_any}
use Rattle.std.specs.FinSet.{contains}
use Rattle.dr_model.specs.Layout.{Fields, is_part}
use Rattle.dr_model.specs.Control.{World}
use Rattle.dr_model.specs.Pairs.{is_metro}
use Rattle.dr_model.specs.Moves.{Move, Land, Store, Strike, MakePrimary, Yield, Mirror, LandBoth, Hold}
use Rattle.dr_model.specs.Entries.{fields_at}
use Rattle.dr_model.specs.Histories.{histories}
use Rattle.dr_model.specs.Table.{table}
use Rattle.dr_model.specs.Allowed.{Allowed, Ready, Runs, May, MayOpen}
use Rattle.dr_laws_freezes.specs.Windows.{is_ack}
use Rattle.dr_laws_freezes.proofs.WindowTracks.{is_firm}

-- a Metro Mirror primary that is Full Duplex, or Suspended and long busy
abbrev pub is_locked : Fields → Bool
is_locked f = is_metro f.primary && is_firm f

abbrev pub Unacked : World → ℕ → Type 0
Unacked w n = list_any (is_ack n) w.events ≡ false

-- u has no track out of sync but t
abbrev pub OnlyOut : World → ℕ → ℕ → Type 0
OnlyOut w u t = (x : ℕ) → x ≢ t → contains (fields_at w.control u).out_of_sync x ≡ false

-- No write lands on a locked primary alone; what is sent from one its secondary has already, and what it strikes off isn't out
-- of sync. From one a write is mirrored where no other track is out of sync, and it lands on both sides where it was mirrored last. A
-- primary gets a secondary that gives up its own part only where its server is on.
abbrev pub WindowMay : Option ℕ → World → Move → Type 0
WindowMay tag w (Land n v t) = is_locked (fields_at w.control v) ≡ false
WindowMay tag w (Store v t u last) = is_locked (fields_at w.control u) ≡ true → w.contents u t ≡ w.contents v t
WindowMay tag w (Strike v t last) = is_locked (fields_at w.control v) ≡ true → contains (fields_at w.control v).out_of_sync t ≡ false
WindowMay tag w (MakePrimary v u kind state full) = is_part (fields_at w.control v).primary ≡ false
WindowMay tag w (Mirror v t u n) = (is_locked (fields_at w.control u) ≡ true → OnlyOut w u t) × Unacked w n
WindowMay tag w (LandBoth n v t) = (tag ≡ Some n) × Unacked w n
WindowMay tag w (Yield v u kind state) = Runs w u
WindowMay tag w m = Unit {0}

-- the write that goes on after a move: its secondary has stored it, and it hasn't landed
abbrev pub tag_after : Move → Option ℕ → Option ℕ
tag_after (Mirror v t u n) tag = Some n
tag_after (LandBoth n v t) tag = None
tag_after m tag = tag

-- a move that comes where it may, but for what it asks of the sessions
pub record MayCome (w : World) (m : Move) : Type 0 where
  pub allowed : Allowed (histories w.events).write (table w) m
  pub ready : Ready w m

pub come : (w : World) (m : Move) → May w m → MayCome w m
come w m may = record { allowed = may.allowed; ready = may.ready }

pub come-open : (w : World) (v s n : ℕ) → MayOpen w v s n → MayCome w (Hold v s n true)
come-open w v s n may = record { allowed = may.allowed; ready = may.ready }
