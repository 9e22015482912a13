-- The places that volumes have in the sessions.
use Rattle.std.specs.Prelude.{ℕ, List, [], ◌∷◌}
use Rattle.std.specs.List.{flat_map}
use Rattle.dr_ids.specs.declared.names.Member.{Member}
use Rattle.dr_model.specs.Sessions.{Session}
use Rattle.dr_model.specs.Tables.{Once}

-- the volumes of a member: its primary, its secondary and its target
abbrev pub places_of : Member → List ℕ
places_of m = m.a.0 ∷ m.b.0 ∷ m.c.0 ∷ []

-- those of all members of a session
abbrev pub places_in : Session → List ℕ
places_in x = flat_map places_of x.members

-- No volume has two places, in one member, in two of a session, or in those of two sessions.
abbrev pub AreLone : List Session → Type 0
AreLone sessions = Once (flat_map places_in sessions)
