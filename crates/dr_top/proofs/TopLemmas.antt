-- How a run begins and ends.
use Rattle.std.proofs.Common.{ℕ, ◌≡◌, ◌<◌, ◌≤◌, List, [], map, length, refl, ap, sym, subst, inr, ◌∙◌, arith, Bool, true, false, not, cond, nat_lt, Option, Some, None}
use Rattle.std.specs.Prelude.{slice_get}
use Rattle.std.specs.Option.{option_map}
use Rattle.std.proofs.lemmas.Bool.Decides.{nat_tests}
use Rattle.std.proofs.lemmas.List.{length-map}
use Rattle.std.proofs.lemmas.Option.{slice_get-map}
use Rattle.dr_logic.specs.Counts.{Counted}
use Rattle.dr_logic.specs.Bytes.{zeros}
use Rattle.dr_ids.specs.Sizes.{blocks_of}
use Rattle.dr_plant.specs.State.{PlantState, IsFresh}
use Rattle.dr_config.specs.Links.{none_down}
use Rattle.dr_config.specs.Table.{ConfigTable, IsSoundConfig, StandsFor, place_of, entry_of}
use Rattle.dr_config.specs.declared.entries.VolumeEntry.{VolumeEntry}
use Rattle.dr_config.proofs.LinkLaws.{none-down}
use Rattle.dr_config.proofs.Devices.{stands-empty}
use Rattle.dr_config.proofs.Lookups.{entry-listed, place-of-entry}
use Rattle.dr_model.specs.declared.event.Event.{Event}
use Rattle.dr_ctl.specs.Kept.{flight_in}
use Rattle.dr_host.specs.Seen.{pending_seen}
use Rattle.dr_model.specs.Messages.{no_flight}
use Rattle.dr_model.specs.Control.{Fuse, Volume, World, nothing, is_volume}
use Rattle.dr_model.specs.Fits.{Fits, SaysVolume, device_of, on_device}
use Rattle.dr_model.specs.Runs.{Task, run}
use Rattle.dr_model.specs.Layout.{physical}
use Rattle.dr_model.specs.Laws.{Sound}
use Rattle.dr_laws_sound.proofs.Agree.{fits-sound}
use Rattle.dr_laws_sound.proofs.Steps.{sound-run}
use Rattle.dr_laws_sound.proofs.Acknowledged.{acked-run}
use Rattle.dr_laws_sound.specs.Showing.{ShowsDevices}
use Rattle.dr_laws_sound.proofs.Places.{lone-run}
use Rattle.dr_laws_sound.proofs.RefusedRuns.{refused-run}
use Rattle.dr_laws_sound.proofs.Restores.{calm-run}
use Rattle.dr_laws_sound.proofs.Shows.{shown-run}
use Rattle.dr_laws_freezes.specs.Windows.{EndsInCut}
use Rattle.dr_laws_freezes.specs.Secondaries.{SecondariesLackNone}
use Rattle.dr_laws_freezes.proofs.Secondaries.{lacking-run}
use Rattle.dr_laws_freezes.proofs.WindowSteps.{cut-run}
use Rattle.dr_laws_freezes.proofs.Betweens.{in-sync-run}
use Rattle.dr_laws_freezes.proofs.FreezesHold.{freezes-hold}
use Rattle.dr_laws_freezes.proofs.EndsInCut.{ends-in-cut}
use Rattle.dr_laws_flashes.specs.Windows.{EndsInFlashCut}
use Rattle.dr_laws_flashes.proofs.EndsInCut.{ends-in-flash-cut}
use Rattle.dr_laws_recovery.specs.Recovered.{HoldsTracks}
use Rattle.dr_laws_recovery.specs.Stored.{StoredAtCuts}
use Rattle.dr_laws_recovery.proofs.Stored.{stored-run}
use Rattle.dr_laws_recovery.proofs.Recovers.{recover-keeps}
use Rattle.dr_laws_recovery.proofs.TakenFirst.{takes-first}
use Rattle.dr_laws_recovery.proofs.Seals.{seals-on}
use Rattle.dr_laws_recovery.proofs.Decided.{decides-on}
use Rattle.dr_laws_recovery.proofs.ClosesAlong.{closed-run}
use Rattle.dr_laws_recovery.proofs.HeadlineAlong.{headline-run}
use Rattle.dr_laws_recovery.proofs.NoSession.{no-session-run}
use Rattle.dr_laws_recovery.proofs.KeepsWrites.{keeps-run}
use Rattle.dr_laws_recovery.proofs.TakenAt.{holds-run}
use Rattle.dr_laws_recovery.proofs.GroupsFound.{found-run}
use Rattle.dr_laws_recovery.proofs.RunsFormed.{formed-run}
use Rattle.dr_laws_answers.proofs.Listing.{listed-run}
use Rattle.dr_laws_progress.proofs.Causes.{recoveries-answer}
use Rattle.dr_laws_progress.proofs.Twice.{recovers-twice}
use Rattle.dr_laws_progress.proofs.PairRuns.{has-pair-ways}
use Rattle.dr_laws_progress.proofs.HomeMembers.{member-goes-home}
use Rattle.dr_laws_progress.proofs.Aborts.{aborts-answer}
use Rattle.dr_laws_progress.proofs.GivenUp.{aborts-lead-on}
use Rattle.dr_laws_progress.proofs.Exchanges.{exchanges-answer}
use Rattle.dr_laws_progress.proofs.CanForm.{refused-by-attempt}
use Rattle.dr_laws_progress.proofs.ToIdle.{leads-to-idle}
use Rattle.dr_laws_orders.proofs.Arrivals.{below-refused}
use Rattle.dr_laws_orders.proofs.StaysOld.{before-run}
use Rattle.dr_laws_orders.proofs.Older.{leaves-run}
use Rattle.dr_laws_orders.proofs.SettledLosses.{settled-run}
use Rattle.dr_laws_commits.proofs.Commits.{commits-run}
use Rattle.dr_laws_images.proofs.Imaged.{all-read-back, last-gives-back}
use Rattle.dr_laws_return.proofs.Sites.{alike-on}
use Rattle.dr_laws_return.proofs.Secondaries.{secondaries-on}
use Rattle.dr_laws_sites.proofs.FirstSite.{first-run}
use Rattle.dr_laws_sites.proofs.CutMoments.{cuts-run}
use Rattle.dr_laws_sites.proofs.BothLost.{lost-run}
use Rattle.dr_laws_recovery.specs.Decided.{record_on}
use Rattle.dr_laws_return.specs.Returned.{Returns}
use Rattle.dr_laws_return.proofs.DrainAnswers.{drains-or-stops, second-drains}
use Rattle.dr_laws_return.proofs.Compared.{compared-run}
use Rattle.dr_laws_return.proofs.Returned.{returned-run}
use Rattle.dr_model.specs.ClosedCuts.{ClosedCuts}
use Rattle.dr_volume.specs.View.{fuse_seen, ids_of, volume_seen, track_seen}
use Rattle.dr_volume.proofs.VolumeLaws.{volume-placed, track-placed}
use Rattle.dr_steps.specs.Here.{here, IsReady}
use Rattle.dr_model.specs.Limits.{most_events}
use Rattle.dr_steps.specs.Faults.{told_stop}
use Rattle.dr_model.specs.Listed.{ListsAlong, ImagesDevices}
use Rattle.dr_top.specs.Outcome.{IsRun}
use Rattle.dr_top.specs.Moments.{RecoveriesRepeat}
use Rattle.dr_top.specs.Stands.{HasDevices, Stands}
use Rattle.dr_top.specs.Reports.{RanBy}
use Rattle.dr_top.proofs.ReachLemmas.{reached-sound}
use Rattle.dr_top.specs.declared.status.Status.{Status}
use Rattle.dr_top.specs.declared.status.Status.TheVariants.{NoMemory}
use Rattle.dr_top.specs.Offline.{IsOffline}
use Rattle.dr_config.proofs.Sound.{sound-empty}
use Rattle.dr_top.proofs.LeadLemmas.{none-last}
use Rattle.dr_top.proofs.TaskLemmas.{tasks-none}
use Rattle.dr_steps.proofs.LocatedLemmas.{is_volume-here, device-here, some_entry}
use Rattle.dr_steps.specs.declared.tables.Tables.{Tables}
use Rattle.dr_volume.proofs.WorldLaws.{on-seen}

-- before the first step
module _ (s : PlantState) (fresh : IsFresh s) where
  abbrev pub empty_table : ConfigTable
  empty_table = record { names = []; volumes = []; down = none_down; paths = [] }

  abbrev pub idle : Tables
  idle = record {
    host = record { issued = 0; pending = [] };
    sessions = record { sessions = []; room = true };
    flight = record { messages = []; made = 0; starts = []; epochs = []; fences = []; room = true };
  }

  on-fresh : (k : ℕ) (b : Bool) → nat_lt k 8 ≡ b → cond b (s.on k) true ≡ true
  on-fresh k true h = fresh.all_on k (grind (arith, nat_tests, h))
  on-fresh k false h = refl

  fuse-fresh : (k : ℕ) (b : Bool) → nat_lt k 8 ≡ b → cond b (fuse_seen (s.write_fuse k)) None ≡ None
  fuse-fresh k true h = ap fuse_seen (fresh.no_write_fuse k (grind (arith, nat_tests, h)))
  fuse-fresh k false h = refl

  pub begins : (h : Tables) → h.host ≡ idle.host → h.sessions ≡ idle.sessions → flight_in h.flight ≡ no_flight → here s empty_table h [] ≡ nothing
  begins h host sessions flight i = record nothing {
    control = record nothing.control {
      on = λ k. on-fresh k (nat_lt k 8) refl i;
      fuse = λ k. fuse-fresh k (nat_lt k 8) refl i;
      link = λ x y. ap not (none-down x y) i;
      issued = (host i).issued;
      pending = map pending_seen (host i).pending;
      sessions = (sessions i).sessions;
      flight = flight i;
    };
  }

  pub ready-fresh : IsReady s empty_table idle []
  ready-fresh = record {
    rest = record { stands = stands-empty [] none_down s fresh.no_devices; sizes = λ v. omega arith };
    reads = fresh.no_read_fuse;
    told = tt;
  }

-- the plant fits the machine's state that it shows
module _ (s : PlantState) (t : ConfigTable) (h : Tables) (ev : List Event) (sound : IsSoundConfig t) where
  mapped : (o : Option VolumeEntry) (v : ℕ) → option_map (λ (e : VolumeEntry). e.id) o ≡ Some v → (e : VolumeEntry) × (o ≡ Some e) × (e.id ≡ v)
  mapped None v h = cc
  mapped (Some e) v h = (e, refl, cc)

  listed : (d v : ℕ) → slice_get (ids_of t.volumes) d ≡ Some v → (e : VolumeEntry) × (slice_get t.volumes d ≡ Some e) × (place_of t v ≡ Some d)
  listed d v at =
      let m = mapped (slice_get t.volumes d) v (sym (slice_get-map (λ (e : VolumeEntry). e.id) t.volumes d) ∙ at) in
      (m.0, m.1, ap (place_of t) (sym m.2) ∙ (entry-listed t d m.0 sound m.1).0)

  -- a volume that is defined lies on its device
  lies : (v : ℕ) → is_volume (here s t h ev).control v ≡ true → (d : ℕ) × (e : VolumeEntry) × (place_of t v ≡ Some d) × (slice_get t.volumes d ≡ Some e) × (device_of (here s t h ev).control v ≡ d)
  lies v there =
      let at = place-of-entry t v _ (some_entry (entry_of t v) (sym (is_volume-here s t h ev v) ∙ there)).1 in
      (at.0, _, at.1, at.2, device-here s t h ev v at.0 at.1)

  -- what its track contains there is what the machine knows of it
  tracks-here : (v k : ℕ) → is_volume (here s t h ev).control v ≡ true → k < (volume_seen s t v).tracks → on_device (here s t h ev).control s.block v k ≡ track_seen s t v k
  tracks-here v k there lt =
      let l = lies v there in
      let seen = volume-placed s t v l.0 l.1 l.2 l.3 in
      let low : k < l.1.tracks = subst (λ (x : Volume). k < x.tracks) seen lt in
      ap (λ d. physical (volume_seen s t v).tracks (s.block d) k) l.4
      ∙ ap (λ (x : Volume). physical x.tracks (s.block l.0) k) seen
      ∙ sym (track-placed s t v l.0 k l.1 l.2 l.3 ∙ ap (λ b. cond b (physical l.1.tracks (s.block l.0) k) zeros) (let e : nat_lt k l.1.tracks ≡ true = grind (arith, nat_tests, low) in e))

  -- the same of each run that leads here
  led-here : (tasks : List Task) → run tasks ≡ here s t h ev → (v k : ℕ) → is_volume (run tasks).control v ≡ true → k < ((run tasks).control.volume v).tracks → on_device (run tasks).control s.block v k ≡ (run tasks).contents v k
  led-here tasks leads =
      subst (λ (w : World). (v k : ℕ) → is_volume w.control v ≡ true → k < (w.control.volume v).tracks → on_device w.control s.block v k ≡ w.contents v k) (sym leads) tracks-here

  -- where a freeze window ends here, the devices contain the cut
  pub frozen-here : (tasks : List Task) → run tasks ≡ here s t h ev → EndsInCut tasks s.block
  frozen-here tasks leads = ends-in-cut tasks s.block (cut-run tasks) (led-here tasks leads)

  -- where a flash window does, the targets show theirs
  pub flash-here : (tasks : List Task) → run tasks ≡ here s t h ev → EndsInFlashCut tasks s.block
  flash-here tasks leads = ends-in-flash-cut tasks s.block (led-here tasks leads)

  pub fits-here : Sound (here s t h ev) → Fits (here s t h ev) s.on (λ server. fuse_seen (s.write_fuse server)) s.block
  fits-here is = fits-sound (here s t h ev) s.on (λ server. fuse_seen (s.write_fuse server)) s.block is
      (λ k lt. sym (on-seen s k lt))
      (λ k lt. ap (λ b. cond b (fuse_seen (s.write_fuse k)) None) (let e : true ≡ nat_lt k 8 = grind (arith, nat_tests) in e))
      (λ v there. let l = lies v there in
      subst (λ d. SaysVolume (s.block d) (volume_seen s t v)) (sym l.4)
      (subst (λ x. SaysVolume (s.block l.0) x) (sym (volume-placed s t v l.0 l.1 l.2 l.3)) (record { slot = refl; fields = refl; staged = refl })))
      tracks-here

  -- what the last step showed is what the track reads as here
  pub shown-here : Sound (here s t h ev) → (tasks : List Task) → run tasks ≡ here s t h ev → ShowsDevices tasks s.block
  shown-here is tasks leads =
      let fuse : ℕ → Option Fuse = λ server. fuse_seen (s.write_fuse server) in
      shown-run tasks s.on fuse s.block (subst (λ (w : World). Fits w s.on fuse s.block) (sym leads) (fits-here is))

  -- what the way home left is on the devices here
  pub returned-here : Sound (here s t h ev) → (tasks : List Task) → run tasks ≡ here s t h ev → Returns tasks s.block
  returned-here is tasks leads =
      let fuse : ℕ → Option Fuse = λ server. fuse_seen (s.write_fuse server) in
      returned-run tasks s.on fuse s.block (subst (λ (w : World). Fits w s.on fuse s.block) (sym leads) (fits-here is)) (subst (λ (w : World). HoldsTracks w s.block) (sym leads) tracks-here)

module _ (s : PlantState) (t : ConfigTable) (h : Tables) (ev : List Event) (sound : IsSoundConfig t) (stands : StandsFor t s) where
  pub devices-here : HasDevices (here s t h ev) s
  devices-here = record {
    count = stands.count ∙ sym (length-map t.volumes (λ (e : VolumeEntry). e.id));
    owner = λ d v at. let l = listed s t h ev sound d v at in (stands.device d l.0 l.1).0 ∙ ap (λ (x : Volume). x.server) (sym (volume-placed s t v d l.0 l.2 l.1));
    size = λ d v at. let l = listed s t h ev sound d v at in (stands.device d l.0 l.1).1 ∙ ap (λ (x : Volume). blocks_of x.tracks) (sym (volume-placed s t v d l.0 l.2 l.1));
  }

recoveries-repeat : (tasks : List Task) → RecoveriesRepeat tasks
recoveries-repeat tasks = record {
  keeps = λ r s. recover-keeps (run tasks) (sound-run tasks) s r;
  takes_over = λ s x found. takes-first (run tasks) (sound-run tasks) s x found;
}

-- how steps stand that led to what the plant shows
pub stands-here : (s0 s : PlantState) (t : ConfigTable) (h : Tables) (ev : List Event) → IsSoundConfig t → IsReady s t h ev → length ev ≤ most_events → Counted (told_stop ev) s0.faults s.faults
    → (steps : List Task) → run steps ≡ here s t h ev → ListsAlong nothing steps → ImagesDevices nothing steps s.block → Stands steps (here s t h ev) ev s0 s
stands-here s0 s t h ev sound ready room stops steps leads lists images =
    let w : World = here s t h ev in
    let fuse : ℕ → Option Fuse = λ server. fuse_seen (s.write_fuse server) in
    let is : Sound w = reached-sound w (steps, leads) in
    let fits : Fits w s.on fuse s.block = fits-here s t h ev sound is in
    let holds : HoldsTracks w s.block = tracks-here s t h ev sound in
    record {
      leads = leads;
      lists = lists;
      imaged = images;
      read_back = all-read-back steps lists;
      gives_back = last-gives-back steps s.on fuse s.block lists (subst (λ (x : World). Fits x s.on fuse s.block) (sym leads) fits) (subst (λ (x : World). HoldsTracks x s.block) (sym leads) holds);
      journal = refl;
      room = room;
      devices = devices-here s t h ev sound ready.rest.stands;
      fits = fits;
      holds = holds;
      frozen = frozen-here s t h ev sound;
      flash_cut = flash-here s t h ev sound;
      seals = seals-on steps w s.on fuse s.block leads fits;
      closed = λ i n. subst (λ (x : World). ClosedCuts x.events i n) leads (closed-run steps i n);
      held = λ tasks goes i n. holds-run tasks w goes i n;
      decides = decides-on steps w s.on fuse s.block leads fits;
      headline = λ tasks goes. headline-run tasks w s.on fuse s.block goes fits holds;
      stored = subst (λ (x : World). StoredAtCuts x.events) leads (stored-run steps);
      keeps = λ tasks goes. keeps-run tasks;
      acknowledged = λ tasks goes. acked-run tasks;
      formed = λ tasks goes. formed-run tasks;
      found = λ tasks goes. found-run tasks;
      fenced = λ tasks goes before after is. below-refused (run before).control;
      settled = λ tasks goes before after is. before-run before;
      older = λ tasks goes before after is. leaves-run before;
      commits = λ tasks goes before after is. commits-run before;
      gone = λ tasks goes. no-session-run tasks s.on fuse s.block (subst (λ (x : World). Fits x s.on fuse s.block) (sym goes) fits);
      settled_losses = λ tasks goes. settled-run tasks;
      recovers = λ tasks goes. recoveries-answer tasks;
      recovers_twice = λ tasks goes. recovers-twice tasks;
      drains = λ tasks goes before after is. drains-or-stops before;
      drains_twice = λ tasks goes before after is. second-drains before;
      repeats = λ tasks goes before after is. recoveries-repeat before;
      restores = λ tasks goes. calm-run tasks;
      places = λ tasks goes before after is. lone-run before;
      pair_ways = λ tasks goes. has-pair-ways tasks;
      home = λ tasks goes before after is. member-goes-home before;
      aborts = λ tasks goes before after is. aborts-answer before;
      gives_up = λ tasks goes before after is. aborts-lead-on before;
      exchanges = λ tasks goes before after is. exchanges-answer before;
      forms = λ tasks goes before after is. refused-by-attempt before;
      to_idle = λ tasks goes before after is. leads-to-idle before;
      freezes = λ tasks goes. freezes-hold tasks;
      in_sync = λ tasks goes. in-sync-run tasks;
      shown = λ tasks goes. shown-here s t h ev sound is tasks goes;
      listed = λ tasks goes. listed-run tasks s.on fuse s.block (subst (λ (x : World). Fits x s.on fuse s.block) (sym goes) fits);
      sites = alike-on w s.on fuse s.block is fits;
      secondaries = subst (λ (x : World). SecondariesLackNone x (record_on x s.block) (on_device x.control s.block)) leads
          (secondaries-on steps s.on fuse s.block (subst (λ (x : World). Fits x s.on fuse s.block) (sym leads) fits) (subst (λ (x : World). HoldsTracks x s.block) (sym leads) holds));
      lack_none = λ tasks goes. lacking-run tasks;
      from_first = λ tasks goes. first-run tasks;
      cut_moments = λ tasks goes. cuts-run tasks;
      both_lost = λ tasks goes. lost-run tasks w s.on fuse s.block goes fits holds;
      compared = λ tasks goes. compared-run tasks s.block (subst (λ (x : World). HoldsTracks x s.block) (sym goes) holds);
      returned = λ tasks goes. returned-here s t h ev sound is tasks goes;
      refused = λ tasks goes. refused-run tasks;
      reads = ready.reads;
      stops = stops;
    }

-- a run that led to what the plant shows
module _ {S K : Type 0} (left : S → Option (List ℕ)) (written : K → Option (List ℕ)) (source source' : S) (sink sink' : K) (read_faults : S → ℕ) (write_faults : K → ℕ) where
  pub is-run : (status : Status) (s0 s : PlantState) (t : ConfigTable) (h : Tables) (ev : List Event) → IsSoundConfig t → IsReady s t h ev → length ev ≤ most_events
      → Counted (told_stop ev) s0.faults s.faults → RanBy left written source source' sink sink' read_faults write_faults status (here s t h ev) s.block
      → IsRun left written source source' sink sink' read_faults write_faults status ev s0 s
  is-run status s0 s t h ev sound ready room stops by = record {
    world = here s t h ev;
    steps = by.steps;
    ran = by.ran;
    stands = stands-here s0 s t h ev sound ready room stops by.steps by.leads by.lists by.images;
  }

-- before the first step
pub stands-unbegun : (s : PlantState) (fresh : IsFresh s) → Stands [] (here s (empty_table s fresh) (idle s fresh) []) [] s s
stands-unbegun s fresh =
    stands-here s s (empty_table s fresh) (idle s fresh) [] sound-empty (ready-fresh s fresh) (omega arith) refl [] (tasks-none nothing ∙ sym (begins s fresh (idle s fresh) refl refl refl)) tt (λ before t is. absurd (none-last before t is))

-- there was no memory to read the words
module _ {S K : Type 0} (left : S → Option (List ℕ)) (written : K → Option (List ℕ)) (source : S) (sink : K) (read_faults : S → ℕ) (write_faults : K → ℕ) (s : PlantState) where
  pub run-unbegun : IsFresh s → IsRun left written source source sink sink read_faults write_faults NoMemory [] s s
  run-unbegun fresh = record {
    world = here s (empty_table s fresh) (idle s fresh) [];
    steps = [];
    ran = record {
      taken = [];
      took = λ told h. (told, h, refl);
      ends = inr (record { source_same = refl; sink_same = refl; none_taken = refl; no_step = refl });
      streams = record { reads = refl; writes = refl };
    };
    stands = stands-unbegun s fresh;
  }

  pub offline-unbegun : {J : Type 0} (session : ℕ) (journal : J) → IsOffline left written source source sink sink read_faults write_faults session NoMemory journal journal s s
  offline-unbegun session journal = record {
    ends = (record { text = []; took = λ told h. (told, h, refl); within = record { bytes = omega arith; lines = omega arith } }, refl);
    reads = refl;
    writes = refl;
    plant_same = refl;
    journal_same = refl;
  }
