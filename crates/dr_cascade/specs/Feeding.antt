-- Stretches that lead on, or end all that come after them, and those of a track that is sent to a cascaded secondary.
use Rattle.std.specs.Prelude.{◌≡◌, ℕ, ◌≤◌, ◌+◌, Bool, List, [], ◌∷◌, ◌++◌, length, Option, None, Result, OnOk, OnErr}
use Rattle.dr_logic.specs.Counts.{Counted}
use Rattle.dr_ids.specs.declared.refusal.Refusal.{Refusal}
use Rattle.dr_plant.specs.State.{PlantState}
use Rattle.dr_config.specs.Table.{ConfigTable}
use Rattle.dr_model.specs.Control.{World}
use Rattle.dr_model.specs.Carry.{Entry, Stretch}
use Rattle.dr_model.specs.Entries.{copy_first}
use Rattle.dr_model.specs.Log.{Log}
use Rattle.dr_model.specs.PairEntries.{refuse_if, send_refusal, suspend_where, flashed_refusal, held_refusal, send_first, store_on, strike_on, suspend_after, suspend_running, suspend_unless}
use Rattle.dr_volume.specs.View.{Rest}
use Rattle.dr_moves.specs.Checks.{is_stop}
use Rattle.dr_moves.specs.Followed.{EndsIn}
use Rattle.dr_moves.specs.Here.{world_seen, refusal_of, armed_in}
use Rattle.dr_moves.specs.Made.{IsAt}

-- from w these stretches lead to v: what ends the stretches that follow ends all
abbrev pub LeadsIn : World → List Stretch → World → Type 0
LeadsIn w ss v = (armed : ℕ → Bool) (u : World) (r : Option Refusal) (ts : List Stretch) → EndsIn armed v ts u r → EndsIn armed w (ss ++ ts) u r

-- or they end all, however the plan goes on
abbrev pub FailsIn : (ℕ → Bool) → World → List Stretch → World → Option Refusal → Type 0
FailsIn armed w ss u r = (ts : List Stretch) → EndsIn armed w (ss ++ ts) u r

-- These stretches were carried out from s to u, or one of them ended all; and what stays: configuration and plant agree, no read fuse is
-- armed, a fault counts where a server stopped, and where the call went well servers are on as before. The journal is told so many events
-- at most, and where the call went well so many.
pub record RanIn (s u : PlantState) (c : ConfigTable) (old new : Log) (ss : List Stretch) (most least : ℕ) {T : Type 0} (result : Result T Refusal) : Type 0 where
  pub leads : OnOk result ((r : Rest) → LeadsIn (world_seen s c r old.events) ss (world_seen u c r new.events))
  pub fails : OnErr result ((r : Rest) → FailsIn (armed_in s) (world_seen s c r old.events) ss (world_seen u c r new.events) (refusal_of result))
  pub at : IsAt u c
  pub unarmed : (q : ℕ) → s.read_fuse q ≡ None → u.read_fuse q ≡ None
  pub faults : Counted (is_stop (refusal_of result)) s.faults u.faults
  pub on : OnOk result (u.on ≡ s.on)
  pub room : old.spare ≤ new.spare + most
  pub left : OnOk result (old.spare ≤ new.spare + least)
  pub spare : length new.events + new.spare ≡ length old.events + old.spare

-- a asks first whether it can send to b, and whether b isn't held back
abbrev pub asked_entries : ℕ → ℕ → List Entry
asked_entries a b =
    suspend_where (send_refusal a b) a
    ∷ refuse_if (send_refusal a b)
    ∷ refuse_if (flashed_refusal b)
    ∷ refuse_if (held_refusal b) ∷ []

-- then what track t was at b is sent on to c, and b takes it
abbrev pub taken_stretches : List ℕ → ℕ → ℕ → ℕ → ℕ → List Stretch
taken_stretches volumes a b c t =
    record { entries = send_first volumes b c t; follows = suspend_running b ∷ suspend_unless b a ∷ [] }
    ∷ record { entries = copy_first volumes b t ++ store_on a b t ∷ strike_on a t ∷ []; follows = suspend_after a } ∷ []
