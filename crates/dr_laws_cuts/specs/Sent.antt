-- What a secondary contains of the cut of its primary: while the primary records, and as it is sealed.
use Rattle.std.specs.Prelude.{◌≡◌, ◌<◌, ℕ, true, false, Some}
use Rattle.std.specs.FinSet.{contains}
use Rattle.dr_model.specs.Histories.{histories, lists}
use Rattle.dr_model.specs.Contents.{image}
use Rattle.dr_model.specs.Control.{World}
use Rattle.dr_model.specs.Table.{table}
use Rattle.dr_model.specs.Laws.{Blank, its_primary, its_secondary, fields}
use Rattle.dr_model.specs.Cuts.{CutAt, SealedCut, SealsHold}

-- Primary u was cut once for its attempt, and each track that it doesn't have out of sync its secondary v contains as the host
-- writes make it that u held there.
pub record SentCut (w : World) (u v : ℕ) : Type 0 where
  pub session : ℕ
  pub place : CutAt w.events session (fields (table w) u).attempt u
  pub only : (s : ℕ) (other : CutAt w.events s (fields (table w) u).attempt u) → other.before ≡ place.before
  pub tracks : (t : ℕ) → t < (table w v).volume.tracks → contains (fields (table w) u).out_of_sync t ≡ false → w.contents v t ≡ image (histories w.events).write (lists place.before u t)

-- u sends to v while it records
abbrev pub SendsTo : World → ℕ → ℕ → Type 0
SendsTo w u v = (fields (table w) u).recording ≡ true → its_secondary (table w u) ≡ Some v

-- each pair whose primary records
abbrev pub SentHold : World → Type 0
SentHold w = (u v : ℕ) → (fields (table w) u).recording ≡ true → its_secondary (table w u) ≡ Some v → its_primary (table w v) ≡ Some u → SentCut w u v

-- What the laws of cuts, of pairs and of images say of a world: secondaries contain the cut of their primary, what was sent of it
-- while it records and all of it where they are sealed; and blank tracks are zeros.
pub record CutsHold (w : World) : Type 0 where
  pub sent : SentHold w
  pub sealed : SealsHold w
  pub blank : Blank (table w)

-- v is sealed for number n, and holds the cut of that number of its primary u
pub record SealedFor (w : World) (v u n : ℕ) : Type 0 where
  pub number : (fields (table w) v).seal ≡ n
  pub holds : SealedCut w v u
