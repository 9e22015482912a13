-- What the steps on a track come to, over what plant, configuration, writes and journal show.
use Rattle.std.proofs.Common.{ℕ, ◌≡◌, ◌<◌, ◌+◌, List, [], ◌∷◌, ◌++◌, length, map, refl, ap, ◌∙◌, sym, arith, subst, Bool, true, false, not, cond, nat_lt, nat_le, take, Option, Some, None, IfSome, Result, Ok, Err}
use Rattle.std.specs.Prelude.{is_some, IfOk, option_map, if◌then◌else◌}
use Rattle.std.specs.List.{find}
use Rattle.std.specs.Option.{option_or}
use Rattle.std.proofs.lemmas.Bool.Decides.{nat_tests}
use Rattle.std.proofs.lemmas.List.{append-nil}
use Rattle.std.proofs.lemmas.Option.{same_Some}
use Rattle.dr_logic.specs.Counts.{Counted}
use Rattle.dr_logic.specs.Tables.{at}
use Rattle.dr_bits.specs.Membership.{lt_true}
use Rattle.dr_ids.specs.declared.refusal.Refusal.{Refusal}
use Rattle.dr_ids.specs.declared.refusal.Fault.{Fault}
use Rattle.dr_ids.specs.declared.refusal.Fault.TheVariants.{NoMemory, Refused as FaultRefused}
use Rattle.dr_ids.specs.declared.refusal.Kind.TheVariants.{Volume as OfVolume, Track as OfTrack, Write as OfWrite}
use Rattle.dr_ids.specs.declared.refusal.Which.TheVariants as limit
use Rattle.dr_plant.specs.State.{PlantState}
use Rattle.dr_config.specs.Table.{ConfigTable, entry_of}
use Rattle.dr_config.specs.declared.entries.VolumeEntry.{VolumeEntry}
use Rattle.dr_config.specs.Rules as rules
use Rattle.dr_host.specs.declared.pending.Pending.{Pending}
use Rattle.dr_host.specs.Writes.{Writes, EachPending, IsPending, IsSoundHost, number, has_number, written, with_write, bytes_of}
use Rattle.dr_host.specs.Writes as writes
use Rattle.dr_host.specs.Seen.{pending_seen}
use Rattle.dr_host.proofs.Seen.{seen-push, seen-refusal, seen-found, bytes-written}
use Rattle.dr_host.proofs.Each.{each-push, each-found, named-found}
use Rattle.dr_model.specs.declared.event.Event.{Event}
use Rattle.dr_model.specs.declared.event.Event.TheVariants.{Shown, Issue}
use Rattle.dr_model.specs.declared.said.Said.{Said}
use Rattle.dr_model.specs.declared.said.Said.TheVariants.{Done, Held, Refused}
use Rattle.dr_model.specs.declared.said.Addition.{Addition}
use Rattle.dr_model.specs.declared.said.Addition.TheVariants.{Showed, Wrote}
use Rattle.dr_model.specs.Limits.{most_pending}
use Rattle.dr_model.specs.Refusals.{server_off, unknown, over}
use Rattle.dr_model.specs.Contents.{image_at}
use Rattle.dr_model.specs.Control.{World, is_volume, Control}
use Rattle.dr_model.specs.Laws.{Sound}
use Rattle.dr_model.specs.Entries.{is_running}
use Rattle.dr_model.specs.WriteEntries.{says_written, write_stretches}
use Rattle.dr_ids.specs.declared.refusal.Refusal.TheVariants.{Stopped}
use Rattle.dr_model.specs.Plans.{Plan, unless, same, track_refusal, issue_refusal, show_done, show_plan, with_pending, issue_done, write_done, apply_done, apply_on, apply_plan}
use Rattle.dr_model.specs.Moves as moves
use Rattle.dr_model.specs.Carry.{Entry, Stretch, carry, follow, entries_in, follows_at, stopped_at}
use Rattle.dr_model.specs.Histories.{Histories, Write, histories}
use Rattle.dr_model.specs.Runs.{after_plan, begun, stop_place, said}
use Rattle.dr_model.proofs.Images.{histories-push}
use Rattle.dr_model.proofs.CarryLemmas.{carry-none, plan-ends, plan-tables, plan-refuses}
use Rattle.dr_laws_sound.proofs.Agree.{view-image}
use Rattle.dr_laws_sound.proofs.Lands.{found-waits}
use Rattle.dr_volume.specs.View.{on_seen, volume_seen, ReadsPass}
use Rattle.dr_moves.specs.Checks.{is_stop}
use Rattle.dr_flash.specs.Views.{view_seen}
use Rattle.dr_moves.specs.Here.{refusal_of, armed_in}
use Rattle.dr_moves.specs.Followed.{EndsIn}
use Rattle.dr_moves.proofs.StretchLemmas.{Carried, in-none, in-some}
use Rattle.dr_facts.proofs.WriteStops.{stretches-land}
use Rattle.dr_metro.specs.Here as metro
use Rattle.dr_metro.specs.Syncing.{end_of}
use Rattle.dr_metro.specs.declared.sync.WriteEnd.{WriteEnd}
use Rattle.dr_metro.specs.declared.sync.WriteEnd.TheVariants.{Landed, Held as Waits}
use Rattle.dr_steps.specs.Here.{here, answered_by, OnAnswer, OnSaid, OnRefused, IsTold}
use Rattle.dr_ids.specs.declared.refusal.Kind.{Kind}
use Rattle.dr_steps.specs.Faults.{CountsStop, is_stopped}
use Rattle.dr_steps.specs.Waiting.{IsIssued, written_as}
use Rattle.dr_steps.specs.declared.steps.HostWrite.{HostWrite}
use Rattle.dr_steps.specs.declared.locate.TrackPlace.{TrackPlace}
use Rattle.dr_steps.specs.Located.{IsPlace}
use Rattle.dr_steps.proofs.LandLemmas.{exact}
use Rattle.dr_steps.proofs.LocatedLemmas.{is_volume-here, mapped_some, seen-entry}
use Rattle.dr_metro.proofs.ToldLemmas.{IsWrite}
use Rattle.dr_steps.specs.declared.tables.Tables.{Tables}
use Rattle.dr_volume.proofs.WorldLaws.{on-seen}
use Rattle.dr_logic.proofs.Tables.{at_same, at_other}

pub running-known : (s : PlantState) (t : ConfigTable) (h : Tables) (events : List Event) (v server : ℕ) → (volume_seen s t v).server ≡ server → server < 8 → is_running v (here s t h events).control ≡ s.on server
running-known s t h events v server e lt = ap (on_seen s) e ∙ on-seen s server lt

-- a track that isn't refused is there
pub there-is : (s : PlantState) (t : ConfigTable) (h : Tables) (ev : List Event) (v k : ℕ) → track_refusal (here s t h ev).control v k ≡ None → (is_some (entry_of t v) ≡ true) × (k < (volume_seen s t v).tracks)
there-is s t h ev v k none =
    elim (is_volume (here s t h ev).control v) as (λ b. is_volume (here s t h ev).control v ≡ b → cond (not b) (Some (unknown OfVolume)) (cond (nat_lt k (volume_seen s t v).tracks) None (Some (unknown OfTrack))) ≡ None → (is_some (entry_of t v) ≡ true) × (k < (volume_seen s t v).tracks)) [
      | false ↦ λ is e. absurd (cc)
      | true ↦ λ is e. (
        sym (is_volume-here s t h ev v) ∙ is,
        elim (nat_lt k (volume_seen s t v).tracks) as (λ b. nat_lt k (volume_seen s t v).tracks ≡ b → cond b None (Some (unknown OfTrack)) ≡ None → k < (volume_seen s t v).tracks) [
          | true ↦ λ lt e. let h : nat_lt k (volume_seen s t v).tracks ≡ true = lt in grind (arith, nat_tests)
          | false ↦ λ lt e. absurd (cc)
        ] refl e,
      )
    ] refl none

-- a refusal that says no stop
pub is_stopped-alike : (r : Refusal) → is_stopped (Refused r) ≡ is_stop (Some r)
is_stopped-alike (Stopped server) = refl
is_stopped-alike _ = refl

pub calm-refused : (r : Refusal) (s u : PlantState) → is_stop (Some r) ≡ false → u.faults ≡ s.faults → CountsStop (Refused r) s u
calm-refused r s u calm same = subst (λ b. Counted b s.faults u.faults) (sym (is_stopped-alike r ∙ calm)) same

module _ (s : PlantState) (t : ConfigTable) (h : Tables) (ev : List Event) (line v k : ℕ) where
  abbrev w : World
  w = here s t h ev

  abbrev off_refusal : Bool → Option Refusal
  off_refusal on = cond on None (Some (server_off (volume_seen s t v).server))

  pub showed-nowhere : (r : Refusal) → track_refusal w.control v k ≡ Some r → after_plan w line (show_plan w.control ev line v k) ≡ said w line (Refused r)
  showed-nowhere r none = ap (λ o. after_plan w line (unless (option_or o (off_refusal (is_running v w.control))) (show_done ev line v k))) none ∙ plan-refuses w line r

  by_server : (on : Bool) → track_refusal w.control v k ≡ None → is_running v w.control ≡ on → after_plan w line (show_plan w.control ev line v k) ≡ after_plan w line (unless (off_refusal on) (show_done ev line v k))
  by_server on there is =
      ap (λ o. after_plan w line (unless (option_or o (off_refusal (is_running v w.control))) (show_done ev line v k))) there
      ∙ ap (λ b. after_plan w line (unless (off_refusal b) (show_done ev line v k))) is

  pub showed-off : (p : TrackPlace) → track_refusal w.control v k ≡ None → IsPlace s t v k p → s.on p.server.0 ≡ false → after_plan w line (show_plan w.control ev line v k) ≡ said w line (Refused (server_off p.server.0))
  showed-off p there at off =
      by_server false there (running-known s t h ev v p.server.0 at.server at.known ∙ off)
      ∙ plan-refuses w line (server_off (volume_seen s t v).server) ∙ ap (λ x. said w line (Refused (server_off x))) at.server

  pub showed-on : (mid : List Event) (p : TrackPlace) (bytes : List ℕ) → Sound w → track_refusal w.control v k ≡ None → IsPlace s t v k p → s.on p.server.0 ≡ true → bytes ≡ view_seen s t v p.track
      → mid ≡ ev ++ Shown line v p.track bytes ∷ [] → after_plan w line (show_plan w.control ev line v k) ≡ said (here s t h mid) line (Done Showed)
  showed-on mid p bytes sound there at on is shown =
      let runs = running-known s t h ev v p.server.0 at.server at.known ∙ on in
      let inside : k < (volume_seen s t v).tracks = subst (λ x. x < (volume_seen s t v).tracks) at.track at.within in
      by_server true there runs
      ∙ plan-tables w line same (Shown line v k (image_at ev v k) ∷ []) (Done Showed)
      ∙ ap (λ x. said (here s t h (ev ++ Shown line v k x ∷ [])) line (Done Showed)) (sym (view-image w sound v k inside runs) ∙ ap (view_seen s t v) (sym at.track) ∙ sym is)
      ∙ ap (λ x. said (here s t h (ev ++ Shown line v x bytes ∷ [])) line (Done Showed)) (sym at.track)
      ∙ ap (λ x. said (here s t h x) line (Done Showed)) (sym shown)

-- what is answered of a host write that was carried out
pub written-end : (n : ℕ) (waits : Bool) → written_as n (end_of waits) ≡ (if waits then Held n else Done (Wrote n))
written-end n true = refl
written-end n false = refl

pub written-calm : (n : ℕ) (end : WriteEnd) → is_stopped (written_as n end) ≡ false
written-calm n Landed = refl
written-calm n Waits = refl

pub calm-counts : (a : Said) (s u : PlantState) → is_stopped a ≡ false → u.faults ≡ s.faults → CountsStop a s u
calm-counts a s u calm same = subst (λ b. Counted b s.faults u.faults) (sym calm) same

-- a plan that was carried out in stretches, with what follows a stop in them
pub followed-leads : (s : PlantState) (pass : ReadsPass s) (w u : World) (line : ℕ) (p : Plan) (ss : List Stretch) (result : Result Said Refusal) → ((k : Control) → p.last k ≡ k) → entries_in ss ≡ p.entries → ((n : ℕ) → p.follows n ≡ follows_at ss n)
    → EndsIn (armed_in s) (begun w p) ss u (refusal_of result) → ((k : Control) → IfOk result (λ a. a ≡ p.says k)) → after_plan w line p ≡ said u line (answered_by result)
followed-leads s pass w u line p ss (Ok a) last same follows ended says =
    plan-ends w line p (u, None) (ap (carry (begun w p)) (sym same) ∙ in-none (armed_in s) (λ u r w ds. exact s u r w ds pass) (begun w p) ss u ended)
    ∙ ap (λ (k : Control). said (record u { control = k }) line (p.says k)) (last u.control)
    ∙ ap (λ a. said u line a) (sym (says u.control))
followed-leads s pass w u line p ss (Err r) last same follows ended says =
    let c : Carried (begun w p) ss u r = in-some (armed_in s) (λ u r w ds. exact s u r w ds pass) (begun w p) ss u r ended in
    plan-ends w line p (c.middle, Some r) (ap (carry (begun w p)) (sym same) ∙ c.carried)
    ∙ ap (λ (es : List Entry). said (follow c.middle r es) line (Refused r)) (follows (stop_place w p) ∙ ap (λ es. follows_at ss (stopped_at (begun w p) es)) (sym same))
    ∙ ap (λ (v : World). said v line (Refused r)) c.followed

-- why a write isn't issued
module _ (s : PlantState) (t : ConfigTable) (h : Tables) (ev : List Event) (v k : ℕ) where
  abbrev full : Option Refusal
  full = cond (nat_le most_pending (length (map pending_seen h.host.pending))) (Some (over limit.Pending)) None

  pub issues-nowhere : (r : Refusal) → track_refusal (here s t h ev).control v k ≡ Some r → issue_refusal (here s t h ev).control v k ≡ Some r
  issues-nowhere r none = ap (λ o. option_or o full) none

  pub issues-by : (o : Option Refusal) → track_refusal (here s t h ev).control v k ≡ None → o ≡ writes.issue_refusal h.host → issue_refusal (here s t h ev).control v k ≡ o
  issues-by o there is = ap (λ o. option_or o full) there ∙ sym (seen-refusal h.host) ∙ sym is

-- a fault is a refusal, or there was no memory
pub fault-refused : (T : Type 0) (e : Fault) (o : Option Refusal) (P : Refusal → Type 0) → rules.refusal_of {T = T} (Err e) ≡ o → ((r : Refusal) → Some r ≡ o → P r) → OnRefused {T = T} (Err e) P
fault-refused T NoMemory o P is f = tt
fault-refused T (FaultRefused r) o P is f = f r is

pub fault-answers : (T : Type 0) (e : Fault) (P : Refusal → Type 0) (Q : Said → Type 0) → ((r : Refusal) → P r → Q (Refused r)) → OnRefused {T = T} (Err e) P → OnAnswer (Err e) Q
fault-answers T NoMemory P Q f is = tt
fault-answers T (FaultRefused r) P Q f is = f r is

pub fault-says : (T : Type 0) (e : Fault) (P : Refusal → Type 0) (Q : Said → Type 0) → ((r : Refusal) → P r → Q (Refused r)) → OnRefused {T = T} (Err e) P → OnSaid (Err e) Q
fault-says T NoMemory P Q f is = tt
fault-says T (FaultRefused r) P Q f is = f r is

-- what holds of an answer, along something that does
pub answer-weaker : (r : Result Addition Fault) (P Q : Said → Type 0) → ((a : Said) → P a → Q a) → OnAnswer r P → OnAnswer r Q
answer-weaker (Ok x) P Q each is = each (Done x) is
answer-weaker (Err NoMemory) P Q each is = tt
answer-weaker (Err (FaultRefused r)) P Q each is = each (Refused r) is

-- a plan that a refusal comes before
pub plan-unless : (w : World) (line : ℕ) (p : Plan) (o : Option Refusal) (r : Refusal) → o ≡ Some r → after_plan w line (unless o p) ≡ said w line (Refused r)
plan-unless w line p o r is = ap (λ o. after_plan w line (unless o p)) is ∙ plan-refuses w line r

pub plan-free : (w u : World) (line : ℕ) (p : Plan) (o : Option Refusal) → o ≡ None → after_plan w line p ≡ u → after_plan w line (unless o p) ≡ u
plan-free w u line p o none is = ap (λ o. after_plan w line (unless o p)) none ∙ is

-- a write that was issued
module _ (s : PlantState) (t : ConfigTable) (h h' : Tables) (ev mid : List Event) (x : HostWrite) (n : ℕ) (issued : IsIssued t h ev h' mid x n) where
  abbrev w' : World
  w' = here s t h ev

  abbrev v : ℕ
  v = x.volume.0

  abbrev bytes : List ℕ
  bytes = take x.len x.bytes

  pub issued-begun : record w' { control = with_pending v x.track w'.control; events = ev ++ Issue (h.host.issued + 1) v x.track x.offset x.len x.bytes ∷ [] } ≡ here s t h' mid
  issued-begun =
      (λ i. record w' { control = record w'.control { issued = h.host.issued + 1; pending = sym (seen-push h.host.pending (h.host.issued + 1) v x.track x.offset bytes) i }; events = ev ++ Issue (sym issued.number i) v x.track x.offset x.len x.bytes ∷ [] })
      ∙ (λ i. here s t (sym issued.tables i) (sym issued.told i))

  pub issued-stays : (line : ℕ) → after_plan w' line (unless (issue_refusal w'.control v x.track) (issue_done w'.control v x.track x.offset x.len x.bytes)) ≡ said (here s t h' mid) line (Done (Wrote n))
  issued-stays line =
      plan-free w' _ line (issue_done w'.control v x.track x.offset x.len x.bytes) (issue_refusal w'.control v x.track) (issued.free s) (
      plan-ends w' line (issue_done w'.control v x.track x.offset x.len x.bytes) _ (carry-none _)
      ∙ ap (λ u. said u line (Done (Wrote (h.host.issued + 1)))) issued-begun ∙ ap (λ m. said (here s t h' mid) line (Done (Wrote m))) (sym issued.number))

  -- the write that was found is that one, and its track is there
  is-written : (p : Pending) → find (has_number n) h'.host.pending ≡ Some p → written n v x.track x.offset bytes ≡ p
  is-written p found = (same_Some _ _ (sym issued.found ∙ found))

  pub issued-there : (p : Pending) → find (has_number n) h'.host.pending ≡ Some p → track_refusal (here s t h' mid).control p.volume.0 p.track ≡ None
  issued-there p found = subst (λ (p : Pending). track_refusal (here s t h' mid).control p.volume.0 p.track ≡ None) (is-written p found) (issued.there s)

  -- it is carried out
  pub issued-lands : ReadsPass s → (line : ℕ) (u : World) (result : Result Said Refusal) (p : Pending) → find (has_number n) h'.host.pending ≡ Some p
      → EndsIn (armed_in s) (here s t h' mid) (write_stretches (here s t h' mid).control p.w.0 p.volume.0 p.track) u (refusal_of result) → IfOk result (λ a. a ≡ says_written (here s t h' mid).control p.w.0 p.volume.0 p.track)
      → after_plan w' line (unless (issue_refusal w'.control v x.track) (write_done w'.control v x.track x.offset x.len x.bytes)) ≡ said u line (answered_by result)
  issued-lands pass line u result p found ended says =
      let is : p ≡ written (h.host.issued + 1) v x.track x.offset bytes = sym (is-written p found) ∙ ap (λ m. written m v x.track x.offset bytes) issued.number in
      plan-free w' _ line (write_done w'.control v x.track x.offset x.len x.bytes) (issue_refusal w'.control v x.track) (issued.free s)
      (followed-leads s pass w' u line (write_done w'.control v x.track x.offset x.len x.bytes) (write_stretches w'.control (h.host.issued + 1) v x.track) result (λ k. refl) (stretches-land w'.control (h.host.issued + 1) v x.track) (λ n. refl)
      (subst (λ (y : World). EndsIn (armed_in s) y (write_stretches w'.control (h.host.issued + 1) v x.track) u (refusal_of result)) (sym issued-begun)
      (subst (λ (p : Pending). EndsIn (armed_in s) (here s t h' mid) (write_stretches w'.control p.w.0 p.volume.0 p.track) u (refusal_of result)) is ended))
      (λ k. subst (λ (p : Pending). IfOk result (λ a. a ≡ says_written w'.control p.w.0 p.volume.0 p.track)) is says))

-- the write that is applied
module _ (s : PlantState) (t : ConfigTable) (h : Tables) (ev : List Event) (line n : ℕ) where
  abbrev w'' : World
  w'' = here s t h ev

  found-by : (o : Option Pending) → find (has_number n) h.host.pending ≡ o → find (moves.is_write n) w''.control.pending ≡ option_map pending_seen o
  found-by o is = sym (seen-found n h.host.pending) ∙ ap (option_map pending_seen) is

  pub applied-unknown : is_some (find (has_number n) h.host.pending) ≡ false → after_plan w'' line (apply_plan w''.control n) ≡ said w'' line (Refused (unknown OfWrite))
  applied-unknown none = by (find (has_number n) h.host.pending) refl none
    where
      by : (o : Option Pending) → find (has_number n) h.host.pending ≡ o → is_some o ≡ false → after_plan w'' line (apply_plan w''.control n) ≡ said w'' line (Refused (unknown OfWrite))
      by None is e = ap (λ o. after_plan w'' line (apply_on w''.control o)) (found-by None is) ∙ plan-refuses w'' line (unknown OfWrite)
      by (Some p) is e = absurd (cc)

  -- its track is there
  pub applied-there : Sound w'' → (p : Pending) → find (has_number n) h.host.pending ≡ Some p → track_refusal w''.control p.volume.0 p.track ≡ None
  applied-there sound p is =
      let waits = found-waits w'' sound n (pending_seen p) (found-by (Some p) is) in
      ap (λ b. cond (not b) (Some (unknown OfVolume)) (cond (nat_lt p.track (volume_seen s t p.volume.0).tracks) None (Some (unknown OfTrack)))) waits.defined
      ∙ ap (λ b. cond b None (Some (unknown OfTrack))) (lt_true p.track (volume_seen s t p.volume.0).tracks waits.low)

  pub applied-lands : ReadsPass s → (u : World) (result : Result Said Refusal) (p : Pending) → find (has_number n) h.host.pending ≡ Some p
      → EndsIn (armed_in s) w'' (write_stretches w''.control p.w.0 p.volume.0 p.track) u (refusal_of result) → IfOk result (λ a. a ≡ says_written w''.control p.w.0 p.volume.0 p.track)
      → after_plan w'' line (apply_plan w''.control n) ≡ said u line (answered_by result)
  applied-lands pass u result p is ended says =
      ap (λ o. after_plan w'' line (apply_on w''.control o)) (found-by (Some p) is)
      ∙ followed-leads s pass w'' u line (apply_done w''.control (pending_seen p)) (write_stretches w''.control p.w.0 p.volume.0 p.track) result (λ k. refl) (stretches-land w''.control p.w.0 p.volume.0 p.track) (λ n. refl)
      (subst (λ es. EndsIn (armed_in s) (record w'' { events = es }) (write_stretches w''.control p.w.0 p.volume.0 p.track) u (refusal_of result)) (sym (append-nil ev)) ended)
      (λ k. says)

-- a track that isn't there stops no server
pub calm-nowhere : (s : PlantState) (t : ConfigTable) (h : Tables) (ev : List Event) (v k : ℕ) (r : Refusal) (u : PlantState) → track_refusal (here s t h ev).control v k ≡ Some r → CountsStop (Refused r) u u
calm-nowhere s t h ev v k r u is =
    elim (is_volume (here s t h ev).control v) as (λ b. cond (not b) (Some (unknown OfVolume)) (cond (nat_lt k (volume_seen s t v).tracks) None (Some (unknown OfTrack))) ≡ Some r → CountsStop (Refused r) u u) [
      | false ↦ λ e. calm-unknown OfVolume r u e
      | true ↦ elim (nat_lt k (volume_seen s t v).tracks) as (λ b. cond b None (Some (unknown OfTrack)) ≡ Some r → CountsStop (Refused r) u u) [ true ↦ λ e. absurd (cc) | false ↦ λ e. calm-unknown OfTrack r u e ]
    ] is
  where
    calm-unknown : (k : Kind) (r : Refusal) (u : PlantState) → Some (unknown k) ≡ Some r → CountsStop (Refused r) u u
    calm-unknown k r u e = subst (λ o. IfSome o (λ r. CountsStop (Refused r) u u)) e refl

-- what is written of a write that is issued leaves the others as they were, whose numbers are below
module _ (h h' : Writes) (ev mid : List Event) (n v k o l : ℕ) (b bytes : List ℕ) where
  abbrev new : Pending
  new = written n v k o bytes

  pub issued-told : n ≡ h.issued + 1 → bytes ≡ take l b → h' ≡ with_write h v k o bytes → mid ≡ ev ++ Issue n v k o l b ∷ [] → IsSoundHost h → metro.IsTold h ev → metro.IsTold h' mid
  issued-told number is added told sound olds =
      subst (λ (x : Writes). metro.IsTold x mid) (sym (added ∙ ap (λ m. let y : Writes = record { issued = h.issued + 1; pending = h.pending ++ written m v k o bytes ∷ [] } in y) (sym number)))
      (each-push (IsWrite (histories mid).write) h.pending new (each-both h.pending olds sound.each) here-now)
    where
      table : (histories mid).write ≡ at (histories ev).write n (record { volume = v; track = k; offset = o; bytes = take l b })
      table = ap (λ es. (histories es).write) told ∙ ap (λ (x : Histories). x.write) (histories-push ev (Issue n v k o l b))

      here-now : IsWrite (histories mid).write new
      here-now =
          ap (λ (f : ℕ → Write). f n) table ∙ at_same (histories ev).write n (record { volume = v; track = k; offset = o; bytes = take l b })
          ∙ ap (λ y. let x : Write = record { volume = v; track = k; offset = o; bytes = y } in x) (sym is ∙ sym (bytes-written n v k o bytes))

      older : (p : Pending) → IsWrite (histories ev).write p → IsPending h.issued p → IsWrite (histories mid).write p
      older p was low = ap (λ (f : ℕ → Write). f p.w.0) table ∙ at_other (histories ev).write n (record { volume = v; track = k; offset = o; bytes = take l b }) p.w.0 (λ e. let last = low.last in absurd (omega (arith, last, e, number))) ∙ was

      each-both : (ps : List Pending) → EachPending (IsWrite (histories ev).write) ps → EachPending (IsPending h.issued) ps → EachPending (IsWrite (histories mid).write) ps
      each-both [] a b = tt
      each-both (p ∷ ps) a b = (older p a.0 b.0, each-both ps a.1 b.1)

-- where a fact holds over every plant, it holds over this one
pub any_plant : PlantState
any_plant = record { count = 0; owner = λ d. 0; size = λ d. 0; block = λ d b. []; on = λ s. true; write_fuse = λ s. None; read_fuse = λ s. None; faults = 0 }

-- an issue that is refused stops no server
pub calm-issue : (s : PlantState) (t : ConfigTable) (h : Tables) (ev : List Event) (v k : ℕ) (r : Refusal) (u : PlantState) → issue_refusal (here s t h ev).control v k ≡ Some r → CountsStop (Refused r) u u
calm-issue s t h ev v k r u is = by (track_refusal (here s t h ev).control v k) refl is
  where
    full' : Bool → Option Refusal
    full' b = cond b (Some (over limit.Pending)) None

    by : (o : Option Refusal) → track_refusal (here s t h ev).control v k ≡ o → option_or o (full' (nat_le most_pending (length (map pending_seen h.host.pending)))) ≡ Some r → CountsStop (Refused r) u u
    by (Some q) there e = subst (λ o. IfSome o (λ r. CountsStop (Refused r) u u)) e (calm-nowhere s t h ev v k q u there)
    by None there e = elim (nat_le most_pending (length (map pending_seen h.host.pending))) as (λ b. full' b ≡ Some r → CountsStop (Refused r) u u) [
      | true ↦ λ e. subst (λ o. IfSome o (λ r. CountsStop (Refused r) u u)) e refl
      | false ↦ λ e. absurd (cc)
    ] e

-- the server that a table has for a volume
pub owner-is : (s : PlantState) (t : ConfigTable) (v server : ℕ) → Some server ≡ option_map (λ (e : VolumeEntry). e.server) (entry_of t v) → (volume_seen s t v).server ≡ server
owner-is s t v server is = let e = mapped_some (λ (e : VolumeEntry). e.server) (entry_of t v) server is in (seen-entry s t v e.0 e.1).0 ∙ e.2

pub none-some : {T : Type 0} {o : Option T} → o ≡ None → is_some o ≡ true → ⊥
none-some none some = cc

-- what holds of the write that was found holds of each that is
pub by-found : (P : Pending → Type 0) (o : Option Pending) (p : Pending) → o ≡ Some p → P p → (q : Pending) → o ≡ Some q → P q
by-found P o p found is q there = subst (λ o. IfSome o P) (sym found ∙ there) is

-- the journal has the write that was found
pub pending-issue : (h : Tables) (ev : List Event) (n : ℕ) (p : Pending) (bytes : List ℕ) → IsTold h ev → find (has_number n) h.host.pending ≡ Some p → bytes ≡ bytes_of p
    → (histories ev).write n ≡ record { volume = p.volume.0; track = p.track; offset = p.offset; bytes = bytes }
pending-issue h ev n p bs told found is =
    let named : number p ≡ n = subst (λ o. IfSome o (λ p. number p ≡ n)) found (named-found n h.host.pending) in
    let has : IsWrite (histories ev).write p = subst (λ o. IfSome o (IsWrite (histories ev).write)) found (each-found (IsWrite (histories ev).write) (has_number n) h.host.pending told) in
    ap (histories ev).write (sym named) ∙ has ∙ ap (λ b. let x : Write = record { volume = p.volume.0; track = p.track; offset = p.offset; bytes = b } in x) (sym is)
