-- What a failover and a failback leave where they end well.
use Rattle.std.specs.Prelude.{◌≡◌, ◌≢◌, ◌<◌, ℕ, true, false, None}
use Rattle.std.specs.FinSet.{contains}
use Rattle.dr_model.specs.declared.state.Part.{Part}
use Rattle.dr_model.specs.Layout.{is_part}
use Rattle.dr_model.specs.Pairs.{is_primary_of, is_secondary_of, is_kind, is_suspended, next_state, is_cascaded, no_secondary}
use Rattle.dr_model.specs.Control.{World}
use Rattle.dr_model.specs.Carry.{carry}
use Rattle.dr_model.specs.Carried.{begun}
use Rattle.dr_model.specs.PlanParts.{Plan}
use Rattle.dr_model.specs.Entries.{fields_at}

-- A world w has become one in which b is a Suspended primary of a, of that kind, with nothing out of sync; it is no secondary, and not sealed. No other
-- record has changed, and no track.
pub record TakesOver (w u : World) (b a : ℕ) (kind : Part) : Type 0 where
  pub leads : is_primary_of a (fields_at u.control b) ≡ true
  pub of_kind : is_kind kind (fields_at u.control b).primary ≡ true
  pub suspended : is_suspended (fields_at u.control b).primary_state ≡ true
  pub synced : (t : ℕ) → contains (fields_at u.control b).out_of_sync t ≡ false
  pub second : is_part (fields_at u.control b).secondary ≡ false
  pub unsealed : (fields_at u.control b).seal ≡ 0
  pub others : (v : ℕ) → v ≢ b → fields_at u.control v ≡ fields_at w.control v
  pub tracks : (v t : ℕ) → u.contents v t ≡ w.contents v t

-- A world w has become one in which b has left its primary: it is no secondary, and not sealed. No other field of its record, no other record has
-- changed, and no track.
pub record LeavesFirst (w u : World) (b : ℕ) : Type 0 where
  pub own : fields_at u.control b ≡ no_secondary (fields_at w.control b)
  pub others : (v : ℕ) → v ≢ b → fields_at u.control v ≡ fields_at w.control v
  pub tracks : (v t : ℕ) → u.contents v t ≡ w.contents v t

-- b is taken over from a; if it is cascaded, it leaves a, and goes on as the primary that it is.
abbrev pub FailsOver : World → World → ℕ → ℕ → Part → Type 0
FailsOver w u b a kind = (is_cascaded (fields_at w.control b) ≡ false → TakesOver w u b a kind) × (is_cascaded (fields_at w.control b) ≡ true → LeavesFirst w u b)

-- x is the primary of y, of that kind, and y its secondary and no primary, of the same kind, in the same state and not sealed. They are Full Duplex where
-- the pair is one of Metro Mirror with nothing out of sync, and else in Copy Pending. x doesn't record, and each track in which they differ
-- is out of sync.
pub record IsTurned (u : World) (x y : ℕ) (kind : Part) : Type 0 where
  pub leads : is_primary_of y (fields_at u.control x) ≡ true
  pub of_kind : is_kind kind (fields_at u.control x).primary ≡ true
  pub state : (fields_at u.control x).primary_state ≡ next_state (fields_at u.control x)
  pub idle : (fields_at u.control x).recording ≡ false
  pub follows : is_secondary_of x (fields_at u.control y) ≡ true
  pub alike : (fields_at u.control y).secondary ≡ (fields_at u.control x).primary
  pub same_state : (fields_at u.control y).secondary_state ≡ (fields_at u.control x).primary_state
  pub unsealed : (fields_at u.control y).seal ≡ 0
  pub plain : is_part (fields_at u.control y).primary ≡ false
  pub equal : (t : ℕ) → t < (u.control.volume x).tracks → contains (fields_at u.control x).out_of_sync t ≡ false → u.contents x t ≡ u.contents y t

-- a plan that ends well leaves that
abbrev pub Leaves : (World → Type 0) → World → Plan → Type 0
Leaves K w p = (u : World) → carry (begun w p) p.entries ≡ (u, None) → K u

-- y contains what x does on each track that x has neither out of sync nor changed since it began to record
abbrev pub AreEqual : World → ℕ → ℕ → Type 0
AreEqual w x y =
    (t : ℕ) → t < (w.control.volume x).tracks → contains (fields_at w.control x).out_of_sync t ≡ false → contains (fields_at w.control x).change_recording t ≡ false → w.contents x t ≡ w.contents y t
