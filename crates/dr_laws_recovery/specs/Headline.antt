-- The headline: what the devices of a plant give back of each session, after the rules of commit and revert, is one cut of the host's
-- acknowledged writes, that of the newest group; and of a number without a session they give back nothing.
use Rattle.std.specs.Prelude.{◌≡◌, ◌≢◌, ◌<◌, ℕ, List, [], Some, None}
use Rattle.dr_ids.specs.declared.names.Member.{Member}
use Rattle.dr_ids.specs.declared.refusal.Decision.TheVariants.{NoMember, Impossible}
use Rattle.dr_model.specs.Layout.{Blocks}
use Rattle.dr_model.specs.Decisions.{decision}
use Rattle.dr_model.specs.Histories.{histories, lists}
use Rattle.dr_model.specs.Contents.{image}
use Rattle.dr_model.specs.Control.{World}
use Rattle.dr_model.specs.Sessions.{Session, session_in}
use Rattle.dr_model.specs.Groups.{In}
use Rattle.dr_model.specs.Cuts.{CutAt}
use Rattle.dr_model.specs.ClosedCuts.{InGroup, ClosedCuts}
use Rattle.dr_model.specs.NewestGroup.{NewestGroup}
use Rattle.dr_model.specs.HeldWrites.{IsStoredOn}
use Rattle.dr_model.specs.Runs.{Task, run}
use Rattle.dr_laws_recovery.specs.Decided.{shown_on}
use Rattle.dr_laws_recovery.specs.Held.{HoldsAll}
use Rattle.dr_model.specs.Recovery.{Recovery}
use Rattle.dr_laws_recovery.specs.Recovered.{recovered_on}

-- volume v is the target of a member of session x whose primary stands in the group of attempt n
pub record IsOfGroup (w : World) (x : Session) (n v : ℕ) : Type 0 where
  pub member : Member
  pub here : In member x.members
  pub is : member.c.0 ≡ v
  pub stands : InGroup w.events x.number n member.a.0

-- A recovery of session x gives the cut of attempt n. Its volumes are exactly the targets of the members that stand in the group, and
-- each of their tracks shows what the host writes make that its primary held as it was cut. Each write of a cut was acknowledged, or
-- stored by a secondary of Metro Mirror in a step in which a server stopped, and it stands on its own track; and each that was acknowledged
-- before is in it, unless a step in between took it away.
-- The cuts are closed: they are of one moment, and with a write they hold all that it depends on.
pub record GivesCut (tasks : List Task) (w : World) (r : Recovery) (x : Session) (n : ℕ) : Type 0 where
  pub group : r.group ≡ Some n
  pub volumes : (v : ℕ) → In v r.remaining → IsOfGroup w x n v
  pub all : (v : ℕ) → IsOfGroup w x n v → In v r.remaining
  pub shows : (m : Member) → In m x.members → InGroup w.events x.number n m.a.0 → (c : CutAt w.events x.number n m.a.0) → (t : ℕ) → t < (w.control.volume m.c.0).tracks → r.image m.c.0 t ≡ image (histories w.events).write (lists c.before m.a.0 t)
  pub stored : (a : ℕ) → InGroup w.events x.number n a → (c : CutAt w.events x.number n a) → (t u : ℕ) → In u (lists c.before a t) → IsStoredOn c.before u t
  pub closed : ClosedCuts w.events x.number n
  pub holds : HoldsAll tasks w.events x.number n

-- By the devices alone it is possible to decide over session x, and recovery gives the cut of its newest group; where it has none,
-- no group is given, and no volume remains.
pub record GivesNewest (tasks : List Task) (w : World) (device : ℕ → Blocks) (x : Session) : Type 0 where
  pub possible : (a b : ℕ) → decision (shown_on w device x.number) ≢ Impossible a b
  pub newest : (n : ℕ) → NewestGroup w.events x.number n → GivesCut tasks w (recovered_on w device x.number) x n
  pub only : (n : ℕ) → (recovered_on w device x.number).group ≡ Some n → NewestGroup w.events x.number n
  pub none : ((n : ℕ) → NewestGroup w.events x.number n → ⊥) → (recovered_on w device x.number).remaining ≡ []

-- each session that is defined, where a run's steps lead to
abbrev pub Headline : List Task → (ℕ → Blocks) → Type 0
Headline tasks device = (x : Session) → In x (run tasks).control.sessions → GivesNewest tasks (run tasks) device x

-- Of session number s nothing is given: nothing counts in it by the devices, so that there is nothing to decide, no volume remains, and
-- there is no group.
pub record GivesNothing (w : World) (device : ℕ → Blocks) (s : ℕ) : Type 0 where
  pub decides : decision (shown_on w device s) ≡ NoMember
  pub remaining : (recovered_on w device s).remaining ≡ []
  pub group : (recovered_on w device s).group ≡ None

-- each number of which no session is defined at the end of a run, be it that the session was removed, whatever groups it had, or that none was made
abbrev pub NoSessionNoGroup : List Task → (ℕ → Blocks) → Type 0
NoSessionNoGroup tasks device = (s : ℕ) → session_in (run tasks).control.sessions s ≡ None → GivesNothing (run tasks) device s
