-- What holds of a world's cuts beside the laws on its rows.
use Rattle.std.specs.Prelude.{◌≡◌, ◌+◌, ℕ, true, is_some}
use Rattle.dr_model.specs.Control.{World}
use Rattle.dr_model.specs.Histories.{histories}
use Rattle.dr_model.specs.Moves.{Move, Hold}
use Rattle.dr_model.specs.Table.{Row, Table, table}
use Rattle.dr_model.specs.Rows.{after}
use Rattle.dr_model.specs.Laws.{Below}
use Rattle.dr_model.specs.Cuts.{Cuts, CutLaws, cuts}
use Rattle.dr_laws_cuts.specs.Once.{CutOnce}

-- the lists that are held have only numbers of writes that were issued
abbrev pub CutsBelow : ℕ → Cuts → Type 0
CutsBelow n c = (k v t : ℕ) → Below n (c.held k v t)

-- a volume that was cut is defined
abbrev pub CutsDefined : Cuts → Table → Type 0
CutsDefined c T = (n v : ℕ) → is_some (c.by n v) ≡ true → (T v).defined ≡ true

-- all that holds of a world's cuts
pub record SoundCuts (w : World) : Type 0 where
  pub laws : CutLaws (histories w.events).write (cuts w.events) (table w)
  pub once : CutOnce w.events
  pub numbers : CutsBelow (w.control.issued + 1) (cuts w.events)
  pub defined : CutsDefined (cuts w.events) (table w)

-- what is held is a volume that is defined
abbrev pub HeldDefined : Table → Move → Type 0
HeldDefined T (Hold v s n first) = (T v).defined ≡ true
HeldDefined T m = Unit {0}

-- the second world has the table that the move leaves, the same writes, and as many issued
pub record MovedTo (w x : World) (m : Move) : Type 0 where
  pub rows : table x ≡ after (histories w.events).write (table w) m
  pub writes : (histories x.events).write ≡ (histories w.events).write
  pub issued : x.control.issued ≡ w.control.issued

-- two rows say the same of a volume, but of what its tracks contain and whether it is defined
pub record SameRow (r s : Row) : Type 0 where
  pub fields : s.volume.fields ≡ r.volume.fields
  pub tracks : s.volume.tracks ≡ r.volume.tracks
  pub due : (t : ℕ) → s.due t ≡ r.due t
