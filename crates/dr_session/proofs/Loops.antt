-- What the loops over the map keep.
use Rattle.std.proofs.Common.{◌≡◌, ℕ, Bool, true, length, take, drop}
use Rattle.std.specs.List.{find}
use Rattle.dr_model.specs.Sessions.{Session}
use Rattle.dr_session.specs.Kept.{SessionTable}
use Rattle.dr_session.specs.Places.{sessions_in, has_room, table_of, is_keyed}
use Rattle.dr_session.proofs.PlaceLemmas.{Entries, first_by}

-- f was done with the first i sessions
pub record DoneBy (f : Session → Session) (es : Entries) (i end : ℕ) (t : SessionTable) : Type 0 where
  pub long : length es ≡ end
  pub all : length t.sessions ≡ end
  pub keyed : is_keyed es ≡ true
  pub table : table_of es ≡ record t { sessions = first_by f i t.sessions }

-- the first i sessions have room
pub record Roomy (es : Entries) (i end : ℕ) (t : SessionTable) : Type 0 where
  pub long : length es ≡ end
  pub keyed : is_keyed es ≡ true
  pub same : sessions_in es ≡ t.sessions
  pub room : has_room (take i es) ≡ true

-- none of the first i sessions passes
pub record NonePasses (p : Session → Bool) (es : Entries) (i end : ℕ) : Type 0 where
  pub long : length es ≡ end
  pub rest : find p (sessions_in (drop i es)) ≡ find p (sessions_in es)
