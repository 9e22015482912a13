-- What holds of a world's targets that count in a session: each shows the cut of its number, and stands in the group of that number.
use Rattle.std.specs.Prelude.{◌≡◌, ◌<◌, ◌≤◌, ◌||◌, ℕ, true, List}
use Rattle.dr_ids.specs.declared.names.Member.{Member}
use Rattle.dr_model.specs.Layout.{Fields}
use Rattle.dr_model.specs.Histories.{Write, histories}
use Rattle.dr_model.specs.Control.{World}
use Rattle.dr_model.specs.Sessions.{Session}
use Rattle.dr_model.specs.Groups.{In}
use Rattle.dr_model.specs.Table.{Table, table}
use Rattle.dr_model.specs.Laws.{fields}
use Rattle.dr_model.specs.Cuts.{Cuts, cuts, at_cut}
use Rattle.dr_laws_closed.specs.Moments.{Standing, standing}
use Rattle.dr_laws_closed.specs.Closing.{Members, number_kept}
use Rattle.dr_laws_targets.specs.Committeds.{committeds}

-- a target counts
abbrev pub CountsAsTarget : Fields → Type 0
CountsAsTarget f = (f.member || f.revertible) ≡ true

-- each of its tracks is due to show the cut of its number
abbrev pub ShowsCut : (ℕ → Write) → Cuts → Table → Session → Member → Type 0
ShowsCut write c T x m = CountsAsTarget (fields T m.c.0) → (t : ℕ) → t < (T m.c.0).volume.tracks → (T m.c.0).due t ≡ at_cut write c (fields T m.c.0).sequence m.a.0 t

-- and one that was a member's as it was flashed would show the cut of the number before, if it went back
abbrev pub KeepsCut : (ℕ → Write) → Cuts → Table → Session → Member → Type 0
KeepsCut write c T x m = (fields T m.c.0).revertible ≡ true → (fields T m.c.0).member ≡ true → (t : ℕ) → t < (T m.c.0).volume.tracks → (T m.c.0).aside t ≡ at_cut write c (fields T m.c.0).previous_sequence m.a.0 t

-- it stands in the group of its number, and in that of the number before
abbrev pub StandsInGroup : Standing → Table → Session → Member → Type 0
StandsInGroup g T x m = CountsAsTarget (fields T m.c.0) → g x.number (fields T m.c.0).sequence m.a.0 ≡ true

-- where a member's target may go back, its primary stands in the group of the number before, too
abbrev pub StoodInGroup : Standing → Table → Session → Member → Type 0
StoodInGroup g T x m = (fields T m.c.0).revertible ≡ true → (fields T m.c.0).member ≡ true → g x.number (fields T m.c.0).previous_sequence m.a.0 ≡ true

-- one that is a member's stands committed with the number that stays its own
abbrev pub StandsWithNumber : Standing → Table → Session → Member → Type 0
StandsWithNumber l T x m = (fields T m.c.0).member ≡ true → l x.number (number_kept (fields T m.c.0)) m.a.0 ≡ true

-- volume a is the primary of a member of session s, whose target is a member's with number n or a later one
pub record MemberHas (ss : List Session) (T : Table) (s n a : ℕ) : Type 0 where
  pub session : Session
  pub listed : In session ss
  pub number : session.number ≡ s
  pub member : Member
  pub here : In member session.members
  pub is : member.a.0 ≡ a
  pub flag : (fields T member.c.0).member ≡ true
  pub reached : n ≤ number_kept (fields T member.c.0)

-- whoever stands committed is one
abbrev pub CommittedAsMember : List Session → Table → Standing → Type 0
CommittedAsMember ss T l = (s n a : ℕ) → l s n a ≡ true → MemberHas ss T s n a

-- all laws on targets that count
pub record CountedIn (write : ℕ → Write) (ss : List Session) (T : Table) (c : Cuts) (g l : Standing) : Type 0 where
  pub shows : Members ss (ShowsCut write c T)
  pub keeps : Members ss (KeepsCut write c T)
  pub stands : Members ss (StandsInGroup g T)
  pub stood : Members ss (StoodInGroup g T)
  pub numbers : Members ss (StandsWithNumber l T)
  pub committed : CommittedAsMember ss T l

-- in a world
abbrev pub TargetsShowCuts : World → Type 0
TargetsShowCuts w = CountedIn (histories w.events).write w.control.sessions (table w) (cuts w.events) (standing w.events) (committeds w.events)
