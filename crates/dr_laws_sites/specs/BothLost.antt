-- What is left where the first and the second site are lost: what recovery gives back of members whose primaries were cascaded as they were
-- cut. A session may have others, too.
use Rattle.std.specs.Prelude.{◌≡◌, ◌⊎◌, ◌<◌, ℕ, false, List, ◌∷◌, ◌++◌}
use Rattle.std.specs.FinSet.{contains}
use Rattle.dr_ids.specs.declared.names.Member.{Member}
use Rattle.dr_model.specs.declared.event.Event.{Event}
use Rattle.dr_model.specs.Layout.{Blocks}
use Rattle.dr_model.specs.Histories.{lists}
use Rattle.dr_model.specs.Control.{World}
use Rattle.dr_model.specs.Entries.{fields_at}
use Rattle.dr_model.specs.Sessions.{Session}
use Rattle.dr_model.specs.Groups.{In}
use Rattle.dr_model.specs.Table.{due}
use Rattle.dr_model.specs.Cuts.{CutAt}
use Rattle.dr_model.specs.ClosedCuts.{InGroup, LastCut}
use Rattle.dr_model.specs.NewestGroup.{NewestGroup}
use Rattle.dr_model.specs.HeldWrites.{WasAcknowledged}
use Rattle.dr_model.specs.TakenWrites.{WasTaken}
use Rattle.dr_model.specs.Recovery.{Recovery}
use Rattle.dr_model.specs.Runs.{Task, run}
use Rattle.dr_laws_freezes.specs.Moments.{moments}
use Rattle.dr_laws_recovery.specs.Recovered.{recovered_on}
use Rattle.dr_laws_sites.specs.FirstSite.{IsFirst}
use Rattle.dr_laws_sites.specs.CutMoments.{IsJustCut}

-- Recovery shows on each track of target c what v was due to show at moment u, if the record of v didn't have the track out of sync there. And v
-- held each write that was acknowledged on it by then, unless a step took that away.
pub record ShowsFirstAt (tasks : List Task) (r : Recovery) (tracks : ℕ) (u : World) (v c : ℕ) : Type 0 where
  pub shows : (t : ℕ) → t < tracks → contains (fields_at u.control v).out_of_sync t ≡ false → r.image c t ≡ due u v t
  pub kept : (k t : ℕ) → WasAcknowledged u.events k v t → In k (lists u.events v t) ⊎ WasTaken tasks u.events k v t

-- Recovery shows it on the target of member m, where v is the first site's volume of the member's primary, at each moment of the run at which
-- volume a has just been cut, after these events.
abbrev pub ShowsFirstWhere : List Task → World → Recovery → ℕ → ℕ → Member → List Event → ℕ → Type 0
ShowsFirstWhere tasks w r s n m front a =
    (before later : List World) (u : World) → moments tasks ≡ before ++ (u ∷ later) → IsJustCut u front s n a
    → (v : ℕ) → IsFirst u.control v m.a.0 → ShowsFirstAt tasks r (w.control.volume m.c.0).tracks u v m.c.0

-- Of each member of session x that stands in the group of attempt n: so it is of the moment at which its own primary was cut; and of that of the
-- last cut of the attempt, which is one moment for all members.
pub record GivesFirst (tasks : List Task) (w : World) (r : Recovery) (x : Session) (n : ℕ) : Type 0 where
  pub cut : (m : Member) → In m x.members → InGroup w.events x.number n m.a.0 → (c : CutAt w.events x.number n m.a.0) → ShowsFirstWhere tasks w r x.number n m c.before m.a.0
  pub last : (m : Member) → In m x.members → InGroup w.events x.number n m.a.0 → (p : LastCut w.events x.number n) → ShowsFirstWhere tasks w r x.number n m p.place.before p.volume

-- so it is of the newest group of each session that is defined, where a run's steps lead to, by the devices alone
abbrev pub BothSitesLost : List Task → (ℕ → Blocks) → Type 0
BothSitesLost tasks device =
    (x : Session) → In x (run tasks).control.sessions → (n : ℕ) → NewestGroup (run tasks).events x.number n → GivesFirst tasks (run tasks) (recovered_on (run tasks) device x.number) x n
