-- What holds where steps of a script were carried out, whatever read them and printed their answers.
use Rattle.std.specs.Prelude.{◌≡◌, ℕ, ◌≤◌, List, Some, length, slice_get}
use Rattle.dr_logic.specs.Counts.{Counted}
use Rattle.dr_ids.specs.Sizes.{blocks_of}
use Rattle.dr_plant.specs.State.{PlantState}
use Rattle.dr_model.specs.declared.event.Event.{Event}
use Rattle.dr_model.specs.Control.{World, nothing}
use Rattle.dr_model.specs.ClosedCuts.{ClosedCuts}
use Rattle.dr_model.specs.Fits.{Fits, on_device}
use Rattle.dr_model.specs.Limits.{most_events}
use Rattle.dr_model.specs.Listed.{ListsAlong, ImagesDevices}
use Rattle.dr_model.specs.Runs.{Task, run}
use Rattle.dr_model.specs.TakenWrites.{KeepsWrites}
use Rattle.dr_volume.specs.View.{fuse_seen, ReadsPass}
use Rattle.dr_laws_sound.specs.Acknowledged.{AcknowledgedIsAnswered}
use Rattle.dr_laws_sound.specs.Calm.{CalmRestores}
use Rattle.dr_laws_sound.specs.Places.{AreLone}
use Rattle.dr_laws_sound.specs.RefusedSteps.{RefusedStay}
use Rattle.dr_laws_sound.specs.Showing.{ShowsDevices}
use Rattle.dr_laws_freezes.specs.Windows.{EndsInCut}
use Rattle.dr_laws_freezes.specs.Frozen.{FreezesHold}
use Rattle.dr_laws_freezes.specs.InSync.{DuplexInSync}
use Rattle.dr_laws_freezes.specs.Secondaries.{SecondariesLackNone, NoneIsLacking}
use Rattle.dr_laws_flashes.specs.Windows.{EndsInFlashCut}
use Rattle.dr_laws_recovery.specs.Seals.{SealsOn}
use Rattle.dr_laws_recovery.specs.Decided.{DecidesOn, record_on}
use Rattle.dr_laws_recovery.specs.Headline.{Headline, NoSessionNoGroup}
use Rattle.dr_laws_recovery.specs.Formed.{FormedIsFound, GroupsAreFound}
use Rattle.dr_laws_recovery.specs.Held.{HoldsAll}
use Rattle.dr_laws_recovery.specs.Stored.{StoredAtCuts}
use Rattle.dr_laws_recovery.specs.Recovered.{HoldsTracks}
use Rattle.dr_laws_orders.specs.Arrivals.{FencesHold}
use Rattle.dr_laws_orders.specs.OldOrders.{OldOrdersStayRefused}
use Rattle.dr_laws_orders.specs.SettledLosses.{SettledLossesAreFenced}
use Rattle.dr_laws_orders.specs.OlderNumbers.{OlderOrdersLeaveVolumes}
use Rattle.dr_laws_commits.specs.Commits.{CommitsAreOfFlashed}
use Rattle.dr_laws_images.specs.Imaged.{AllReadBack, LastGivesBack}
use Rattle.dr_laws_return.specs.Sites.{SitesAlike}
use Rattle.dr_laws_return.specs.Compared.{ComparesDevices}
use Rattle.dr_laws_return.specs.Drains.{DrainsOrStops, SecondDrains}
use Rattle.dr_laws_return.specs.Returned.{Returns}
use Rattle.dr_laws_sites.specs.FirstSite.{FromFirstSite}
use Rattle.dr_laws_sites.specs.CutMoments.{CutsAreMoments}
use Rattle.dr_laws_sites.specs.BothLost.{BothSitesLost}
use Rattle.dr_laws_answers.specs.Listing.{ListsDevices}
use Rattle.dr_laws_progress.specs.Recoveries.{RecoveriesAnswer}
use Rattle.dr_laws_progress.specs.RecoversTwice.{RecoversTwice}
use Rattle.dr_laws_progress.specs.PairWays.{HasPairWays}
use Rattle.dr_laws_progress.specs.Home.{MembersGoHome}
use Rattle.dr_laws_progress.specs.Aborts.{AbortsAnswer}
use Rattle.dr_laws_progress.specs.Exchanges.{ExchangesAnswer}
use Rattle.dr_laws_progress.specs.CanForm.{RefusedByAttempt}
use Rattle.dr_laws_progress.specs.ToIdle.{ExchangesLeadToIdle, AbortsLeadOn}
use Rattle.dr_steps.specs.Faults.{told_stop}
use Rattle.dr_top.specs.Moments.{AtEachMoment, RecoveriesRepeat}

-- Each volume has its device, in order of definition: owned by its server, with the blocks of a volume of its tracks.
pub record HasDevices (w : World) (s : PlantState) : Type 0 where
  pub count : s.count ≡ length w.control.volumes
  pub owner : (d v : ℕ) → slice_get w.control.volumes d ≡ Some v → s.owner d ≡ (w.control.volume v).server
  pub size : (d v : ℕ) → slice_get w.control.volumes d ≡ Some v → s.size d ≡ blocks_of (w.control.volume v).tracks

-- The journal is that of the world to which the steps lead. What an image among them lists says what is known of each volume there, its
-- text reads as this image, and recovery makes of it what it would make in that world; and where the last step is an image, it listed the
-- devices as they are, and gives back of each session what they do. The plant fits the world: each track of each volume contains on its
-- device what it contains in that world, and reads as the host writes say. Where a sound freeze window ends with it, the devices of the
-- secondaries contain the cut, and where a sound flash window does, the targets show theirs; each secondary that is sealed contains its
-- own; the cuts of the group of each attempt are closed, and hold all that they should; and by what the devices say alone, it is possible
-- to decide over each session. And the headline: of each session that is defined, the devices give back one cut of the host's acknowledged
-- writes, that of its newest group; and of a number without a session they give back nothing. Of the steps it says which may take a write away, that what is acknowledged is what was answered, that
-- what is formed is what recovery finds, that after a freeze no write lands until a step lets it, that a Full Duplex primary is in sync
-- where its server runs, and that a refused step changes nothing but what is named. Of orders in flight it says at each moment of the steps that
-- none below its server's fence is carried out, nor one from before a loss once the master has gone on, whatever comes later; that one of an older
-- attempt changes no view and no recording; that a number is committed only where each member was flashed with it; and that a loss which is
-- settled is fenced at each primary server until the master is Idle or Lost again. Each recovery
-- of the steps is answered by its cause, and one right after it finds nothing to do. At each moment a drain of all tracks that begins there is
-- answered by the state, and one right after it by the same state; a recovery that begins there may be stopped anywhere and run again; and no volume
-- has two places in sessions. At each moment the pair of each member stands in one of three ways, and the lines that lead it home from there are answered
-- ok; an abort is answered by the state, and so is an exchange in each phase; if groups can be formed, nothing but the attempt refuses one; and reports,
-- reverts and finishes lead to Idle, by as many as the state says. Each track that a restore takes back comes to a volume at rest. What the last step showed is on the
-- devices, and so is what it listed, and a write that a secondary stored was acknowledged, or a server stopped. Where a pair is in place by the records on both devices, these
-- contain the same on each track that isn't recorded. Where a Metro Mirror primary is Full Duplex by these records, whether or not any server
-- runs, its secondary's device lacks no write of the primary, and has at most one more, which is pending; and so has each such secondary been
-- at each moment of the steps. At each of these moments a Metro Mirror secondary, cascaded or not, shows what its primary does, on each track that
-- isn't out of sync there; each cut has its moment; and of the newest group of a session, the targets of members whose primaries were cascaded show
-- what the first site's volumes did at the cut, on these tracks. What a comparison answered as the last step is what the devices contain; and if a failback and a drain after
-- it were answered ok, the pair is turned round, and both devices contain what the host writes make.
pub record Stands (steps : List Task) (world : World) (events : List Event) (s s' : PlantState) : Type 0 where
  pub leads : run steps ≡ world
  pub lists : ListsAlong nothing steps
  pub imaged : ImagesDevices nothing steps s'.block
  pub read_back : AllReadBack steps
  pub gives_back : LastGivesBack steps s'.block
  pub journal : events ≡ world.events
  pub room : length events ≤ most_events
  pub devices : HasDevices world s'
  pub fits : Fits world s'.on (λ server. fuse_seen (s'.write_fuse server)) s'.block
  pub holds : HoldsTracks world s'.block
  pub frozen : (tasks : List Task) → run tasks ≡ world → EndsInCut tasks s'.block
  pub flash_cut : (tasks : List Task) → run tasks ≡ world → EndsInFlashCut tasks s'.block
  pub seals : SealsOn world s'.block
  pub closed : (s n : ℕ) → ClosedCuts events s n
  pub held : (tasks : List Task) → run tasks ≡ world → (s n : ℕ) → HoldsAll tasks events s n
  pub decides : DecidesOn world s'.block
  pub headline : (tasks : List Task) → run tasks ≡ world → Headline tasks s'.block
  pub stored : StoredAtCuts events
  pub keeps : (tasks : List Task) → run tasks ≡ world → KeepsWrites tasks
  pub acknowledged : (tasks : List Task) → run tasks ≡ world → AcknowledgedIsAnswered tasks
  pub formed : (tasks : List Task) → run tasks ≡ world → FormedIsFound tasks
  pub found : (tasks : List Task) → run tasks ≡ world → GroupsAreFound tasks
  pub fenced : (tasks : List Task) → run tasks ≡ world → AtEachMoment (λ before. FencesHold (run before).control) tasks
  pub settled : (tasks : List Task) → run tasks ≡ world → AtEachMoment OldOrdersStayRefused tasks
  pub older : (tasks : List Task) → run tasks ≡ world → AtEachMoment OlderOrdersLeaveVolumes tasks
  pub commits : (tasks : List Task) → run tasks ≡ world → AtEachMoment CommitsAreOfFlashed tasks
  pub gone : (tasks : List Task) → run tasks ≡ world → NoSessionNoGroup tasks s'.block
  pub settled_losses : (tasks : List Task) → run tasks ≡ world → SettledLossesAreFenced tasks
  pub recovers : (tasks : List Task) → run tasks ≡ world → RecoveriesAnswer tasks
  pub recovers_twice : (tasks : List Task) → run tasks ≡ world → RecoversTwice tasks
  pub drains : (tasks : List Task) → run tasks ≡ world → AtEachMoment DrainsOrStops tasks
  pub drains_twice : (tasks : List Task) → run tasks ≡ world → AtEachMoment SecondDrains tasks
  pub repeats : (tasks : List Task) → run tasks ≡ world → AtEachMoment RecoveriesRepeat tasks
  pub restores : (tasks : List Task) → run tasks ≡ world → CalmRestores tasks
  pub places : (tasks : List Task) → run tasks ≡ world → AtEachMoment (λ before. AreLone (run before).control.sessions) tasks
  pub pair_ways : (tasks : List Task) → run tasks ≡ world → HasPairWays tasks
  pub home : (tasks : List Task) → run tasks ≡ world → AtEachMoment MembersGoHome tasks
  pub aborts : (tasks : List Task) → run tasks ≡ world → AtEachMoment AbortsAnswer tasks
  pub gives_up : (tasks : List Task) → run tasks ≡ world → AtEachMoment AbortsLeadOn tasks
  pub exchanges : (tasks : List Task) → run tasks ≡ world → AtEachMoment ExchangesAnswer tasks
  pub forms : (tasks : List Task) → run tasks ≡ world → AtEachMoment RefusedByAttempt tasks
  pub to_idle : (tasks : List Task) → run tasks ≡ world → AtEachMoment ExchangesLeadToIdle tasks
  pub freezes : (tasks : List Task) → run tasks ≡ world → FreezesHold tasks
  pub in_sync : (tasks : List Task) → run tasks ≡ world → DuplexInSync tasks
  pub shown : (tasks : List Task) → run tasks ≡ world → ShowsDevices tasks s'.block
  pub listed : (tasks : List Task) → run tasks ≡ world → ListsDevices tasks s'.block
  pub sites : SitesAlike world s'.block
  pub secondaries : SecondariesLackNone world (record_on world s'.block) (on_device world.control s'.block)
  pub lack_none : (tasks : List Task) → run tasks ≡ world → NoneIsLacking tasks
  pub from_first : (tasks : List Task) → run tasks ≡ world → FromFirstSite tasks
  pub cut_moments : (tasks : List Task) → run tasks ≡ world → CutsAreMoments tasks
  pub both_lost : (tasks : List Task) → run tasks ≡ world → BothSitesLost tasks s'.block
  pub compared : (tasks : List Task) → run tasks ≡ world → ComparesDevices tasks s'.block
  pub returned : (tasks : List Task) → run tasks ≡ world → Returns tasks s'.block
  pub refused : (tasks : List Task) → run tasks ≡ world → RefusedStay tasks
  pub reads : ReadsPass s'
  pub stops : Counted (told_stop events) s.faults s'.faults
