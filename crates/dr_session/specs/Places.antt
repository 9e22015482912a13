-- The entries of the map, by the numbers of their sessions.
use Rattle.std.specs.Prelude.{◌≡◌, ℕ, zero, suc, Bool, true, false, ◌==◌, List, [], ◌∷◌, map}
use Rattle.std.specs.List.{list_all}
use Rattle.dr_model.specs.Sessions.{Session}
use Rattle.dr_session.specs.Kept.{KeptSession, SessionTable}

-- the sessions, in the map's order
abbrev pub sessions_in : List (ℕ × KeptSession) → List Session
sessions_in es = map (λ (e : ℕ × KeptSession). e.1.session) es

-- each entry has room for one more member
abbrev pub has_room : List (ℕ × KeptSession) → Bool
has_room es = list_all (λ (e : ℕ × KeptSession). e.1.room) es

-- the table that the entries make
abbrev pub table_of : List (ℕ × KeptSession) → SessionTable
table_of es = record { sessions = sessions_in es; room = has_room es }

-- each entry's key is its session's number
abbrev pub is_keyed : List (ℕ × KeptSession) → Bool
is_keyed es = list_all (λ (e : ℕ × KeptSession). e.1.session.number == e.0) es

-- the first entry of session s stands at i
abbrev pub StandsAt : ℕ → ℕ → List (ℕ × KeptSession) → Type 0
StandsAt s i [] = ⊥
StandsAt s zero (e ∷ es) = (e.1.session.number == s) ≡ true
StandsAt s (suc i) (e ∷ es) = ((e.1.session.number == s) ≡ false) × StandsAt s i es
