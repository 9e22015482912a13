-- What defining a server or a volume comes to, over what plant, configuration, writes and journal show.
use Rattle.std.proofs.Common.{ℕ, suc, zero, ◌≡◌, ◌≢◌, ◌<◌, ◌≤◌, inl, inr, List, [], ◌∷◌, ◌++◌, length, slice_get, refl, ap, ◌∙◌, sym, subst, arith, Bool, true, false, ◌||◌, not, min, cond, nat_eq, nat_lt, nat_le, Option, Some, None, Err}
use Rattle.std.proofs.lemmas.Bool.Decides.{nat_tests, eqb_tells}
use Rattle.std.specs.Prelude.{is_some}
use Rattle.std.specs.List.{find}
use Rattle.std.specs.Option.{option_map}
use Rattle.std.proofs.lemmas.List.{append-nil, length-map, map-append}
use Rattle.dr_logic.specs.Tables.{at}
use Rattle.dr_logic.specs.Bytes.{zeros}
use Rattle.dr_ids.specs.Sizes.{most_tracks, blocks_of}
use Rattle.dr_plant.specs.State.{PlantState, with_device}
use Rattle.dr_config.specs.Table.{ConfigTable, IsSoundConfig, place_of, entry_of, lss_of, lss_owner, server_named, StandsFor}
use Rattle.dr_config.specs.declared.entries.VolumeEntry.{VolumeEntry}
use Rattle.dr_config.specs.Rules as rules
use Rattle.dr_config.specs.Rules.{with_server, with_volume, with_link}
use Rattle.dr_config.proofs.Devices.{stands-with_server, stands-with_link}
use Rattle.dr_config.proofs.LinkLaws.{link_up-with_link}
use Rattle.dr_config.proofs.Lookups.{place-of-new, place-of-other, entry-at-place, no-entry, entry-listed, either}
use Rattle.dr_config.proofs.Lists.{position-within, position-of-found}
use Rattle.dr_config.proofs.Sound.{volume-accepted}
use Rattle.dr_model.specs.declared.event.Event.{Event}
use Rattle.dr_model.specs.declared.event.Event.TheVariants.{Server as ServerDefined, Volume as VolumeDefined}
use Rattle.dr_model.specs.declared.said.Said.TheVariants.{Done, Refused}
use Rattle.dr_model.specs.declared.said.Addition.TheVariants.{Alone}
use Rattle.dr_model.specs.declared.step.Name.{Name}
use Rattle.dr_model.specs.Control.{Control, Volume, World, new_volume}
use Rattle.dr_model.specs.Entries as model
use Rattle.dr_model.specs.Plans as plans
use Rattle.dr_model.specs.Plans.{Plan, unless, refuses, on_server, name_bytes, server_done, server_plan, volume_done, volume_plan, link_done, link_between, link_plan}
use Rattle.dr_model.specs.Refusals.{duplicate, over}
use Rattle.dr_ids.specs.declared.refusal.Refusal.{Refusal}
use Rattle.dr_ids.specs.declared.refusal.Kind.TheVariants as kind
use Rattle.dr_ids.specs.declared.refusal.Which.TheVariants as limit
use Rattle.dr_model.specs.Runs.{after_plan, said}
use Rattle.dr_model.proofs.CarryLemmas.{plan-refuses, plan-tables}
use Rattle.dr_volume.specs.View.{on_seen, fuses_seen, volume_seen, track_seen, saved_seen, volume_at, track_at, saved_at, track_on, saved_on, ids_of}
use Rattle.dr_volume.specs.View as view
use Rattle.dr_volume.proofs.VolumeLaws.{volume-placed, track-placed}
use Rattle.dr_ids.specs.declared.refusal.Fault.{Fault}
use Rattle.dr_ids.specs.declared.refusal.Fault.TheVariants.{NoMemory, Refused as FaultRefused}
use Rattle.dr_model.specs.declared.said.Said.{Said}
use Rattle.dr_steps.specs.Here.{here, IsReady, OnAnswer}
use Rattle.dr_moves.specs.Here.{IsAtRest}
use Rattle.dr_metro.proofs.ToldLemmas.{told-push}
use Rattle.dr_steps.proofs.LocatedLemmas.{is_volume-here}
use Rattle.dr_steps.proofs.StopLemmas.{known-server}
use Rattle.dr_steps.specs.declared.tables.Tables.{Tables}
use Rattle.dr_steps.proofs.ZeroDevice.{zero_blocks, volume-zeros, track-zeros, saved-zeros}
use Rattle.dr_logic.proofs.Tables.{at_same, at_other}

-- a list with one more has what it had, and then that
slice_get-front : {X : Type 0} (xs ys : List X) (d : ℕ) → d < length xs → slice_get (xs ++ ys) d ≡ slice_get xs d
slice_get-front [] ys d lt = absurd (omega arith)
slice_get-front (x ∷ xs) ys zero lt = refl
slice_get-front (x ∷ xs) ys (suc d) lt = slice_get-front xs ys d (omega arith)

slice_get-seam : {X : Type 0} (xs : List X) (y : X) → slice_get (xs ++ y ∷ []) (length xs) ≡ Some y
slice_get-seam [] y = refl
slice_get-seam (x ∷ xs) y = slice_get-seam xs y

-- one more server changes nothing of devices and volumes
pub rest-server : (s : PlantState) (t : ConfigTable) (name : List ℕ) → IsAtRest s t → IsAtRest s (with_server t name)
rest-server s t name r = record { stands = stands-with_server t name s r.stands; sizes = r.sizes }

module _ (s : PlantState) (t : ConfigTable) (h : Tables) (ev : List Event) (line : ℕ) (name : Name) where
  abbrev w : World
  w = here s t h ev

  by-refusal : (bytes : List ℕ) (o : Option Refusal) → bytes ≡ name_bytes name → o ≡ rules.server_refusal t bytes → after_plan w line (server_plan w.control name) ≡ after_plan w line (unless o (server_done w.control name))
  by-refusal bytes o named is = ap (λ x. after_plan w line (unless (rules.server_refusal t x) (server_done w.control name))) (sym named) ∙ ap (λ x. after_plan w line (unless x (server_done w.control name))) (sym is)

  pub server-refused : (bytes : List ℕ) (r : Refusal) → bytes ≡ name_bytes name → Some r ≡ rules.server_refusal t bytes → after_plan w line (server_plan w.control name) ≡ said w line (Refused r)
  server-refused bytes r named is = by-refusal bytes (Some r) named is ∙ plan-refuses w line r

  pub server-defined : (mid : List Event) (t' : ConfigTable) (server : ℕ) (bytes : List ℕ) → None ≡ rules.server_refusal t bytes → server ≡ length t.names → bytes ≡ name_bytes name → t' ≡ with_server t bytes
      → mid ≡ ev ++ ServerDefined server name.len name.bytes ∷ [] → after_plan w line (server_plan w.control name) ≡ said (here s t' h mid) line (Done Alone)
  server-defined mid t' server bytes free number named is defined =
      by-refusal bytes None named free
      ∙ plan-tables w line (λ k. record k { servers = k.servers ++ name_bytes name ∷ [] }) (ServerDefined (length t.names) name.len name.bytes ∷ []) (Done Alone)
      ∙ ap (λ x. said (here s (with_server t x) h (ev ++ ServerDefined (length t.names) name.len name.bytes ∷ [])) line (Done Alone)) (sym named)
      ∙ ap (λ x. said (here s x h (ev ++ ServerDefined (length t.names) name.len name.bytes ∷ [])) line (Done Alone)) (sym is)
      ∙ ap (λ n. said (here s t' h (ev ++ ServerDefined n name.len name.bytes ∷ [])) line (Done Alone)) (sym number)
      ∙ ap (λ x. said (here s t' h x) line (Done Alone)) (sym defined)

  -- nothing has changed where it was refused
  pub server-refused-here : (t' : ConfigTable) (bytes : List ℕ) (r : Refusal) → bytes ≡ name_bytes name → Some r ≡ rules.server_refusal t bytes → t' ≡ t → after_plan w line (server_plan w.control name) ≡ said (here s t' h ev) line (Refused r)
  server-refused-here t' bytes r named is same = server-refused bytes r named is ∙ ap (λ x. said (here s x h ev) line (Refused r)) (sym same)

-- a fault that is no want of memory
pub on-refusal : (f : Fault) (o : Option Refusal) (P : Said → Type 0) → rules.refusal_of {T = Unit {0}} (Err f) ≡ o → ((r : Refusal) → Some r ≡ o → P (Refused r)) → OnAnswer (Err f) P
on-refusal (FaultRefused r) o P is each = each r is
on-refusal NoMemory o P is each = tt

pub along-table : (s : PlantState) (t u : ConfigTable) → t ≡ u → IsAtRest s u → IsAtRest s t
along-table s t u is rest = subst (IsAtRest s) (sym is) rest

-- the volume that a list of entries has first of those that pass, by its identifier
pub find-ids : (p : ℕ → Bool) (es : List VolumeEntry) → find p (ids_of es) ≡ option_map (λ (e : VolumeEntry). e.id) (find (λ (e : VolumeEntry). p e.id) es)
find-ids p [] = refl
find-ids p (e ∷ es) = elim (p e.id) as (λ b. cond b (Some e.id) (find p (ids_of es)) ≡ option_map (λ (e : VolumeEntry). e.id) (cond b (Some e) (find (λ (e : VolumeEntry). p e.id) es))) [ true ↦ refl | false ↦ find-ids p es ]

-- a size beyond what the configuration can be told is as bad there
abbrev pub capped : ℕ → ℕ
capped n = min n 65535

bad-size : (n : ℕ) → (nat_eq (capped n) 0 || nat_lt most_tracks (capped n)) ≡ (nat_eq n 0 || nat_lt most_tracks n)
bad-size n = grind (arith, nat_tests)

capped-small : (n size : ℕ) → size ≡ capped n → size ≤ most_tracks → size ≡ n
capped-small n size sized most = omega (arith, sized, most)

-- a volume is refused by the machine where it is by the configuration
module _ (s : PlantState) (t : ConfigTable) (h : Tables) (ev : List Event) (sound : IsSoundConfig t) (v server n : ℕ) where
  abbrev k : Control
  k = (here s t h ev).control

  some-place : is_some (entry_of t v) ≡ is_some (place_of t v)
  some-place = elim (either (place_of t v)) [
    | inl at ↦ let e = entry-at-place t v at.0 at.1 in ap is_some e.2 ∙ sym (ap is_some at.1)
    | inr none ↦ ap is_some (no-entry t v none) ∙ sym (ap is_some none)
  ]

  owner-by : (o : Option VolumeEntry) → find (λ (e : VolumeEntry). nat_eq (lss_of e.id) (lss_of v)) t.volumes ≡ o
      → plans.is_foreign k (option_map (λ (e : VolumeEntry). e.id) o) server ≡ rules.is_foreign (option_map (λ (e : VolumeEntry). e.server) o) server
  owner-by None is = refl
  owner-by (Some e) is =
      let found = position-of-found (λ (x : VolumeEntry). nat_eq (lss_of x.id) (lss_of v)) t.volumes e is in
      let listed = entry-listed t found.0 e sound found.2 in
      ap (λ x. not (nat_eq x server)) (ap (λ (x : Volume). x.server) (volume-placed s t e.id found.0 e listed.0 found.2))

  foreign-here : plans.is_foreign k (model.first_of k (model.subsystem v)) server ≡ rules.is_foreign (lss_owner t (lss_of v)) server
  foreign-here =
      ap (λ o. plans.is_foreign k o server) (find-ids (λ x. nat_eq (model.subsystem x) (model.subsystem v)) t.volumes)
      ∙ owner-by (find (λ (e : VolumeEntry). nat_eq (lss_of e.id) (lss_of v)) t.volumes) refl

  pub volume-refusal : plans.volume_refusal k v server n ≡ rules.volume_refusal t v server (capped n)
  volume-refusal =
      ap (λ b. cond b (Some (duplicate kind.Volume)) (plans-rest)) (is_volume-here s t h ev v ∙ some-place)
      ∙ ap (λ b. cond (is_some (place_of t v)) (Some (duplicate kind.Volume)) (cond b (Some (duplicate kind.Lss)) plans-sizes)) foreign-here
      ∙ ap (λ b. cond (is_some (place_of t v)) (Some (duplicate kind.Volume)) (cond (rules.is_foreign (lss_owner t (lss_of v)) server) (Some (duplicate kind.Lss)) (cond b (Some (over limit.Tracks)) (plans-count (length (ids_of t.volumes)))))) (sym (bad-size n))
      ∙ ap (λ m. cond (is_some (place_of t v)) (Some (duplicate kind.Volume)) (cond (rules.is_foreign (lss_owner t (lss_of v)) server) (Some (duplicate kind.Lss)) (cond (nat_eq (capped n) 0 || nat_lt most_tracks (capped n)) (Some (over limit.Tracks)) (plans-count m)))) (length-map t.volumes (λ (e : VolumeEntry). e.id))
    where
      plans-count : ℕ → Option Refusal
      plans-count m = cond (nat_le 64 m) (Some (over limit.Volumes)) None

      plans-sizes : Option Refusal
      plans-sizes = cond (nat_eq n 0 || nat_lt most_tracks n) (Some (over limit.Tracks)) (plans-count (length (ids_of t.volumes)))

      plans-rest : Option Refusal
      plans-rest = cond (plans.is_foreign k (model.first_of k (model.subsystem v)) server) (Some (duplicate kind.Lss)) plans-sizes

-- one device more changes no server
on-still : (s : PlantState) (server blocks : ℕ) → on_seen (with_device s server blocks) ≡ on_seen s
unfolding with_device
on-still s server blocks = refl

fuses-still : (s : PlantState) (server blocks : ℕ) → fuses_seen (with_device s server blocks) ≡ fuses_seen s
unfolding with_device
fuses-still s server blocks = refl

reads-still : (s : PlantState) (server blocks : ℕ) → (with_device s server blocks).read_fuse ≡ s.read_fuse
unfolding with_device
reads-still s server blocks = refl

-- the new device is one of zeros
block-new : (s : PlantState) (server blocks d : ℕ) → d ≡ s.count → (with_device s server blocks).block d ≡ zero_blocks
unfolding with_device
block-new s server blocks d e = ap (at s.block s.count zero_blocks) e ∙ at_same s.block s.count zero_blocks

-- the devices before it stay
block-old : (s : PlantState) (server blocks d : ℕ) → d ≢ s.count → (with_device s server blocks).block d ≡ s.block d
unfolding with_device
block-old s server blocks d ne = at_other s.block s.count zero_blocks d ne

-- a volume more, and its device
module _ (s : PlantState) (t : ConfigTable) (v server n : ℕ) (stands : StandsFor t s) (free : place_of t v ≡ None) where
  abbrev entry : VolumeEntry
  entry = record { id = v; server = server; tracks = n }

  abbrev s' : PlantState
  s' = with_device s server (blocks_of n)

  abbrev t' : ConfigTable
  t' = with_volume t v server n

  placed-new : place_of t' v ≡ Some (length t.volumes)
  placed-new = place-of-new t v server n free

  entry-new : slice_get t'.volumes (length t.volumes) ≡ Some entry
  entry-new = slice_get-seam t.volumes entry

  blocks-new : s'.block (length t.volumes) ≡ zero_blocks
  blocks-new = block-new s server (blocks_of n) (length t.volumes) (sym stands.count)

  seen-new : volume_seen s' t' v ≡ new_volume server n
  seen-new = volume-placed s' t' v (length t.volumes) entry placed-new entry-new ∙ ap (λ b. view.volume_on b (Some entry)) blocks-new ∙ volume-zeros entry

  -- what stands at a place before it
  entry-old : (d : ℕ) → d < length t.volumes → slice_get t'.volumes d ≡ slice_get t.volumes d
  entry-old d lt = slice_get-front t.volumes (entry ∷ []) d lt

  at-old : (d : ℕ) → d < length t.volumes → (volume_at s' t' (Some d) ≡ volume_at s t (Some d)) × ((q : ℕ) → track_at s' t' (Some d) q ≡ track_at s t (Some d) q) × ((q : ℕ) → saved_at s' t' (Some d) q ≡ saved_at s t (Some d) q)
  at-old d lt =
      let same = block-old s server (blocks_of n) d (λ e. let count = stands.count in absurd (omega (arith, lt, e, count))) in
      ((λ i. view.volume_on (same i) (entry-old d lt i)), λ q i. track_on (same i) (entry-old d lt i) q, λ q i. saved_on (same i) (entry-old d lt i) q)

  old-by : (o : Option ℕ) (u : ℕ) → place_of t u ≡ o → (volume_at s' t' o ≡ volume_at s t o) × ((q : ℕ) → track_at s' t' o q ≡ track_at s t o q) × ((q : ℕ) → saved_at s' t' o q ≡ saved_at s t o q)
  old-by None u is = (refl, λ q. refl, λ q. refl)
  old-by (Some d) u is = at-old d (position-within (λ (e : VolumeEntry). nat_eq e.id u) t.volumes d is)

  old : (u : ℕ) → u ≢ v → (volume_seen s' t' u ≡ volume_seen s t u) × ((q : ℕ) → track_seen s' t' u q ≡ track_seen s t u q) × ((q : ℕ) → saved_seen s' t' u q ≡ saved_seen s t u q)
  old u ne =
      let stays = place-of-other t v u server n (λ e. ne (sym e)) in
      let by = old-by (place_of t u) u refl in
      (ap (volume_at s' t') stays ∙ by.0, λ q. ap (λ o. track_at s' t' o q) stays ∙ by.1 q, λ q. ap (λ o. saved_at s' t' o q) stays ∙ by.2 q)

  volume-now : (u : ℕ) → at (volume_seen s t) v (new_volume server n) u ≡ volume_seen s' t' u
  volume-now u = elim (eqb_tells u v) as (λ _. at (volume_seen s t) v (new_volume server n) u ≡ volume_seen s' t' u) [
    | inl p ↦ ap (at (volume_seen s t) v (new_volume server n)) p.1 ∙ at_same (volume_seen s t) v (new_volume server n) ∙ sym seen-new ∙ ap (volume_seen s' t') (sym p.1)
    | inr p ↦ at_other (volume_seen s t) v (new_volume server n) u p.1 ∙ sym (old u p.1).0
  ]

  track-new : (q : ℕ) → track_seen s' t' v q ≡ zeros
  track-new q = track-placed s' t' v (length t.volumes) q entry placed-new entry-new ∙ ap (λ b. track_on b (Some entry) q) blocks-new ∙ track-zeros entry q

  track-now : (u q : ℕ) → track_seen s t u q ≡ track_seen s' t' u q
  track-now u q = elim (eqb_tells u v) as (λ _. track_seen s t u q ≡ track_seen s' t' u q) [
    | inl p ↦ ap (λ x. track_seen s t x q) p.1 ∙ ap (λ o. track_at s t o q) free ∙ sym (track-new q) ∙ ap (λ x. track_seen s' t' x q) (sym p.1)
    | inr p ↦ sym ((old u p.1).1 q)
  ]

  saved-new : (q : ℕ) → saved_seen s' t' v q ≡ zeros
  saved-new q = ap (λ o. saved_at s' t' o q) placed-new ∙ ap (λ o. saved_on (s'.block (length t.volumes)) o q) entry-new ∙ ap (λ b. saved_on b (Some entry) q) blocks-new ∙ saved-zeros entry q

  saved-now : (u q : ℕ) → saved_seen s t u q ≡ saved_seen s' t' u q
  saved-now u q = elim (eqb_tells u v) as (λ _. saved_seen s t u q ≡ saved_seen s' t' u q) [
    | inl p ↦ ap (λ x. saved_seen s t x q) p.1 ∙ ap (λ o. saved_at s t o q) free ∙ sym (saved-new q) ∙ ap (λ x. saved_seen s' t' x q) (sym p.1)
    | inr p ↦ sym ((old u p.1).2 q)
  ]

  ids-now : ids_of t.volumes ++ v ∷ [] ≡ ids_of t'.volumes
  ids-now = sym (map-append (λ (e : VolumeEntry). e.id) t.volumes (entry ∷ []))

  pub rest-volume : n ≤ most_tracks → StandsFor t' s' → IsAtRest s t → IsAtRest s' t'
  rest-volume most new r = record {
    stands = new;
    sizes = λ u. elim (eqb_tells u v) [
      | inl p ↦ subst (λ x. (volume_seen s' t' x).tracks ≤ most_tracks) (sym p.1) (subst (λ m. m ≤ most_tracks) (sym (ap (λ (x : Volume). x.tracks) seen-new)) most)
      | inr p ↦ subst (λ m. m ≤ most_tracks) (sym (ap (λ (x : Volume). x.tracks) (old u p.1).0)) (r.sizes u)
    ];
  }

  -- the machine's state once the volume is defined
  defined-here : (h : Tables) (ev mid : List Event) → mid ≡ ev ++ VolumeDefined v server n ∷ []
      → (let u : World = here s t h ev in record u { control = record u.control { volumes = u.control.volumes ++ v ∷ []; volume = at u.control.volume v (new_volume server n) }; events = ev ++ VolumeDefined v server n ∷ [] }) ≡ here s' t' h mid
  defined-here h ev mid told i = record (here s t h ev) {
    control = record (here s t h ev).control {
      on = sym (on-still s server (blocks_of n)) i;
      fuse = sym (fuses-still s server (blocks_of n)) i;
      volumes = ids-now i;
      volume = λ u. volume-now u i;
    };
    contents = λ u q. track-now u q i;
    saved = λ u q. saved-now u q i;
    events = sym told i;
  }

module _ (s : PlantState) (t : ConfigTable) (h : Tables) (ev : List Event) (line v n : ℕ) (name : Name) (sound : IsSoundConfig t) where
  abbrev w' : World
  w' = here s t h ev

  by-volume : (server size : ℕ) (o : Option Refusal) → size ≡ capped n → o ≡ rules.volume_refusal t v server size
      → after_plan w' line (unless (plans.volume_refusal w'.control v server n) (volume_done v server n)) ≡ after_plan w' line (unless o (volume_done v server n))
  by-volume server size o sized is =
      ap (λ x. after_plan w' line (unless x (volume_done v server n))) (volume-refusal s t h ev sound v server n ∙ ap (rules.volume_refusal t v server) (sym sized) ∙ sym is)

  abbrev each : ℕ → Plan
  each x = unless (plans.volume_refusal w'.control v x n) (volume_done v x n)

  -- nothing has changed where it was refused
  pub volume-refused-here : (s' : PlantState) (t' : ConfigTable) (size : ℕ) (bytes : List ℕ) (server : ℕ) (r : Refusal) → bytes ≡ name_bytes name → server_named t bytes ≡ Some server → size ≡ capped n
      → Some r ≡ rules.volume_refusal t v server size → s' ≡ s → t' ≡ t → after_plan w' line (volume_plan w'.control v name n) ≡ said (here s' t' h ev) line (Refused r)
  volume-refused-here s' t' size bytes server r named there sized is still same =
      known-server s t h ev line each name bytes server _ named there (by-volume server size (Some r) sized is ∙ plan-refuses w' line r)
      ∙ (λ i. said (here (sym still i) (sym same i) h ev) line (Refused r))

  pub volume-defined : (mid : List Event) (s' : PlantState) (t' : ConfigTable) (size : ℕ) (bytes : List ℕ) (server : ℕ) → StandsFor t s → bytes ≡ name_bytes name → server_named t bytes ≡ Some server
      → size ≡ capped n → None ≡ rules.volume_refusal t v server size → s' ≡ with_device s server (blocks_of size) → t' ≡ with_volume t v server size
      → mid ≡ ev ++ VolumeDefined v server size ∷ [] → after_plan w' line (volume_plan w'.control v name n) ≡ said (here s' t' h mid) line (Done Alone)
  volume-defined mid s' t' size bytes server stands named there sized free added is defined =
      let fits = volume-accepted t v server size (sym free) in
      let exact : size ≡ n = let most = fits.most in capped-small n size sized most in
      known-server s t h ev line each name bytes server _ named there (
      by-volume server size None sized free
      ∙ ap (λ m. after_plan w' line (volume_done v server m)) (sym exact)
      ∙ plan-tables w' line (λ k. record k { volumes = k.volumes ++ v ∷ []; volume = at k.volume v (new_volume server size) }) (VolumeDefined v server size ∷ []) (Done Alone)
      ∙ ap (λ x. said x line (Done Alone)) (defined-here s t v server size stands fits.new h ev mid defined)
      ∙ ap (λ x. said (here x (with_volume t v server size) h mid) line (Done Alone)) (sym added)
      ∙ ap (λ x. said (here s' x h mid) line (Done Alone)) (sym is))

pub ready-defined : (s : PlantState) (t : ConfigTable) (h : Tables) (ev mid : List Event) (v server n : ℕ) (s' : PlantState) (t' : ConfigTable) → IsReady s t h ev → None ≡ rules.volume_refusal t v server n → s' ≡ with_device s server (blocks_of n)
    → t' ≡ with_volume t v server n → StandsFor t' s' → mid ≡ ev ++ VolumeDefined v server n ∷ [] → IsReady s' t' h mid
ready-defined s t h ev mid v server n s' t' ready free added is stands told =
    let fits = volume-accepted t v server n (sym free) in
    let new : StandsFor (with_volume t v server n) (with_device s server (blocks_of n)) = subst (λ x. StandsFor (with_volume t v server n) x) added (subst (λ x. StandsFor x s') is stands) in
    let rest = rest-volume s t v server n ready.rest.stands fits.new fits.most new ready.rest in
    record {
      rest = subst (λ x. IsAtRest x t') (sym added) (subst (λ x. IsAtRest (with_device s server (blocks_of n)) x) (sym is) rest);
      reads = λ k lt. ap (λ (x : PlantState). x.read_fuse k) added ∙ ap (λ (f : ℕ → Option ℕ). f k) (reads-still s server (blocks_of n)) ∙ ready.reads k lt;
      told = told-push h.host ev mid (VolumeDefined v server n) (λ x. refl) told ready.told;
    }

faults-still : (s : PlantState) (server blocks : ℕ) → (with_device s server blocks).faults ≡ s.faults
unfolding with_device
faults-still s server blocks = refl

-- a device more is no fault
pub device-faults : (s s' : PlantState) (server blocks : ℕ) → s' ≡ with_device s server blocks → s'.faults ≡ s.faults
device-faults s s' server blocks is = ap (λ (x : PlantState). x.faults) is ∙ faults-still s server blocks

-- a link between two servers
module _ (s : PlantState) (t : ConfigTable) (h : Tables) (ev : List Event) (line : ℕ) (first second : Name) (up : Bool) (a b : ℕ) (one two : List ℕ) (named : one ≡ name_bytes first) (there : server_named t one ≡ Some a)
    (named' : two ≡ name_bytes second) (there' : server_named t two ≡ Some b) where
  abbrev w'' : World
  w'' = here s t h ev

  between : (u : World) → after_plan w'' line (link_between a b up) ≡ u → after_plan w'' line (link_plan w''.control first second up) ≡ u
  between u is =
      known-server s t h ev line (λ x. on_server w''.control second (λ y. link_between x y up)) first one a u named there
      (known-server s t h ev line (λ y. link_between a y up) second two b u named' there' is)

  by-ends : (o : Option Refusal) → o ≡ rules.link_refusal a b → after_plan w'' line (link_between a b up) ≡ after_plan w'' line (unless o (link_done a b up))
  by-ends o is = ends (nat_eq a b) refl
    where
      ends : (x : Bool) → nat_eq a b ≡ x → after_plan w'' line (link_between a b up) ≡ after_plan w'' line (unless o (link_done a b up))
      ends true same = ap (λ x. after_plan w'' line (cond x (refuses (duplicate kind.Server)) (link_done a b up))) same
          ∙ ap (λ o. after_plan w'' line (unless o (link_done a b up))) (sym (is ∙ ap (λ x. cond x (Some (duplicate kind.Server)) None) same))
      ends false differ = ap (λ x. after_plan w'' line (cond x (refuses (duplicate kind.Server)) (link_done a b up))) differ
          ∙ ap (λ o. after_plan w'' line (unless o (link_done a b up))) (sym (is ∙ ap (λ x. cond x (Some (duplicate kind.Server)) None) differ))

  pub link-refused : (t' : ConfigTable) (r : Refusal) → Some r ≡ rules.link_refusal a b → t' ≡ t → after_plan w'' line (link_plan w''.control first second up) ≡ said (here s t' h ev) line (Refused r)
  link-refused t' r is same = between _ (by-ends (Some r) is ∙ plan-refuses w'' line r ∙ ap (λ x. said (here s x h ev) line (Refused r)) (sym same))

  pub link-set : (t' : ConfigTable) → IsSoundConfig t → a < length t.names → b < length t.names → None ≡ rules.link_refusal a b → t' ≡ with_link t a b up → after_plan w'' line (link_plan w''.control first second up) ≡ said (here s t' h ev) line (Done Alone)
  link-set t' sound low low' free is = between _ (by-ends None free
      ∙ plan-tables w'' line (link_done a b up).first [] (Done Alone)
      ∙ ap (λ es. said (record w'' { control = (link_done a b up).first w''.control; events = es }) line (Done Alone)) (append-nil ev)
      ∙ (λ i. said (record w'' { control = record w''.control { link = λ x y. sym (link_up-with_link t a b up sound.square (below a low) (below b low') x y) i } }) line (Done Alone))
      ∙ ap (λ x. said (here s x h ev) line (Done Alone)) (sym is))
    where
      below : (n : ℕ) → n < length t.names → n < 8
      below n lt = let few = sound.few_servers in omega (arith, lt, few)

pub ready-link : (s : PlantState) (t t' : ConfigTable) (h : Tables) (ev : List Event) (a b : ℕ) (up : Bool) → t' ≡ with_link t a b up → IsReady s t h ev → IsReady s t' h ev
ready-link s t t' h ev a b up is r = subst (λ x. IsReady s x h ev) (sym is) (record {
  rest = record { stands = stands-with_link t a b up s r.rest.stands; sizes = r.rest.sizes };
  reads = r.reads;
  told = r.told;
})
