-- What the second site's volume shows of the first one's, at each moment of a run.
use Rattle.std.specs.Prelude.{◌≡◌, ◌<◌, ℕ, true, false, List, ◌∷◌, ◌++◌}
use Rattle.std.specs.FinSet.{contains}
use Rattle.dr_model.specs.Histories.{histories, lists}
use Rattle.dr_model.specs.Contents.{image}
use Rattle.dr_model.specs.Control.{Control, World}
use Rattle.dr_model.specs.Pairs.{is_primary_of, is_secondary_of, is_metro}
use Rattle.dr_model.specs.Entries.{fields_at}
use Rattle.dr_model.specs.Table.{due}
use Rattle.dr_model.specs.Runs.{Task}
use Rattle.dr_laws_freezes.specs.Moments.{moments}

-- By their records v is a Metro Mirror primary of a, and a is its secondary. Where a is a primary, too, it is cascaded: v is the first site's
-- volume, and a the second site's.
pub record IsFirst (k : Control) (v a : ℕ) : Type 0 where
  pub sends : is_primary_of a (fields_at k v) ≡ true
  pub metro : is_metro (fields_at k v).primary ≡ true
  pub takes : is_secondary_of v (fields_at k a) ≡ true

-- On each track that the record of v doesn't have out of sync, the host writes that a holds by the journal make what v is due to show: what
-- the writes make that v holds, and those that landed on it in a stop and aren't acknowledged yet.
pub record ShowsFirst (w : World) (v a : ℕ) : Type 0 where
  pub size : (w.control.volume a).tracks ≡ (w.control.volume v).tracks
  pub tracks : (t : ℕ) → t < (w.control.volume v).tracks → contains (fields_at w.control v).out_of_sync t ≡ false → image (histories w.events).write (lists w.events a t) ≡ due w v t

-- so it is of each such pair at each moment of a run
abbrev pub FromFirstSite : List Task → Type 0
FromFirstSite tasks = (before later : List World) (w : World) → moments tasks ≡ before ++ (w ∷ later) → (v a : ℕ) → IsFirst w.control v a → ShowsFirst w v a
