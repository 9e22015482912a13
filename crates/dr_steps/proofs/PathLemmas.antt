-- The steps on paths: whose the subsystems are, which primaries copy over a path, and what a line comes to.
use Rattle.std.proofs.Common.{ℕ, ◌≡◌, ◌<◌, ◌≤◌, ◌+◌, List, [], refl, sym, ◌∙◌, ap, subst, Bool, true, false, not, ◌&&◌, cond, nat_eq, length, drop, slice_get, Option, Some, None}
use Rattle.std.specs.Prelude.{is_some, option_map, unwrap_or, if◌then◌else◌}
use Rattle.std.specs.List.{find}
use Rattle.std.proofs.lemmas.List.{append-nil, drop_all}
use Rattle.dr_ids.specs.Paths.{path_in}
use Rattle.dr_ids.specs.declared.refusal.Refusal.{Refusal}
use Rattle.dr_ids.specs.declared.refusal.Kind.TheVariants.{Lss as OfLss, Server as OfServer, Path as OfPath}
use Rattle.dr_ids.specs.declared.refusal.Which.TheVariants.{Server as OneServer}
use Rattle.dr_plant.specs.State.{PlantState}
use Rattle.dr_config.specs.Table.{ConfigTable, lss_of, lss_owner, IsSoundConfig}
use Rattle.dr_config.specs.Rules as rules
use Rattle.dr_config.specs.Rules.{with_path_between, without_path_between}
use Rattle.dr_config.specs.declared.entries.VolumeEntry.{VolumeEntry}
use Rattle.dr_config.proofs.Devices.{stands-with_path_between, stands-without_path_between}
use Rattle.dr_steps.specs.declared.tables.Tables.{Tables}
use Rattle.dr_model.specs.declared.event.Event.{Event}
use Rattle.dr_model.specs.declared.said.Said.TheVariants.{Done, Refused}
use Rattle.dr_model.specs.declared.said.Addition.TheVariants.{Alone}
use Rattle.dr_model.specs.declared.step.Devs.{Devs}
use Rattle.dr_model.specs.Layout.{is_part}
use Rattle.dr_model.specs.Control.{Control, Volume, World}
use Rattle.dr_model.specs.Entries.{subsystem, pair_state}
use Rattle.dr_model.specs.Pairs.{is_suspended}
use Rattle.dr_model.specs.PairEntries.{link_down, first_active}
use Rattle.dr_model.specs.Plans.{Plan, owner_of, on_owner, is_named, path_refusal, make_path_done, path_plan, unpath_refusal, remove_path_done, unpath_plan, unless}
use Rattle.dr_model.specs.Refusals.{unknown, over, server_off}
use Rattle.dr_model.specs.Runs.{after_plan, said}
use Rattle.dr_model.proofs.CarryLemmas.{plan-refuses, plan-tables}
use Rattle.dr_volume.specs.Head.{head_of}
use Rattle.dr_volume.specs.declared.head.Head.{Head}
use Rattle.dr_volume.specs.View.{volume_seen, ids_of}
use Rattle.dr_volume.proofs.VolumeLaws.{volume-placed}
use Rattle.dr_flash.proofs.CopyLemmas.{ids-next}
use Rattle.dr_steps.specs.Here.{here, IsReady}
use Rattle.dr_config.proofs.Lookups.{entry-listed}
use Rattle.dr_config.proofs.Lists.{position-of-found}
use Rattle.dr_steps.proofs.DefineLemmas.{find-ids}
use Rattle.dr_steps.proofs.StepLemmas.{plan-unless, plan-free}
use Rattle.dr_volume.proofs.WorldLaws.{on-seen}

-- the first volume from a place on that passes
abbrev pub first_from : (ℕ → Bool) → ConfigTable → ℕ → Option ℕ
first_from p t place = find p (ids_of (drop place t.volumes))

pub first-next : (p : ℕ → Bool) (t : ConfigTable) (place u : ℕ) → Some u ≡ option_map (λ (e : VolumeEntry). e.id) (slice_get t.volumes place) → first_from p t place ≡ cond (p u) (Some u) (first_from p t (place + 1))
first-next p t place u at = ap (find p) (ids-next t place u at)

pub first-none : (p : ℕ → Bool) (t : ConfigTable) (place : ℕ) → length t.volumes ≤ place → first_from p t place ≡ None
first-none p t place all = ap (λ es. find p (ids_of es)) (drop_all place t.volumes all)

-- a volume with these fields copies from one subsystem to another
abbrev pub active_by : ℕ → ℕ → ℕ → Head → Bool
active_by src tgt v h = nat_eq (subsystem v) src && (is_part h.primary && (nat_eq (subsystem h.primary_partner.0) tgt && not (is_suspended h.primary_state)))

abbrev pub active_in : PlantState → ConfigTable → ℕ → ℕ → ℕ → Bool
active_in s t src tgt v = active_by src tgt v (head_of (volume_seen s t v).fields)

module _ (s : PlantState) (t : ConfigTable) (h : Tables) (ev : List Event) (line : ℕ) where
  abbrev pub w : World
  w = here s t h ev

  abbrev pub k : Control
  k = w.control

  owner-by : IsSoundConfig t → (l : ℕ) (o : Option VolumeEntry) → find (λ (e : VolumeEntry). nat_eq (lss_of e.id) l) t.volumes ≡ o
      → option_map (λ v. (volume_seen s t v).server) (option_map (λ (e : VolumeEntry). e.id) o) ≡ option_map (λ (e : VolumeEntry). e.server) o
  owner-by sound l None is = refl
  owner-by sound l (Some e) is =
      let found = position-of-found (λ (x : VolumeEntry). nat_eq (lss_of x.id) l) t.volumes e is in
      let listed = entry-listed t found.0 e sound found.2 in
      ap (λ x. Some x) (ap (λ (x : Volume). x.server) (volume-placed s t e.id found.0 e listed.0 found.2))

  -- the machine's subsystems have the owners of the configuration
  pub owner-here : IsSoundConfig t → (l : ℕ) → owner_of k l ≡ lss_owner t l
  owner-here sound l = ap (option_map (λ v. (volume_seen s t v).server)) (find-ids (λ x. nat_eq (subsystem x) l) t.volumes) ∙ owner-by sound l _ refl

  -- a plan that needs a subsystem's server
  pub owner-nowhere : IsSoundConfig t → (l : ℕ) (plan : ℕ → Plan) → lss_owner t l ≡ None → after_plan w line (on_owner (owner_of k l) plan) ≡ said w line (Refused (unknown OfLss))
  owner-nowhere sound l plan none = ap (λ o. after_plan w line (on_owner o plan)) (owner-here sound l ∙ none) ∙ plan-refuses w line (unknown OfLss)

  pub owner-there : IsSoundConfig t → (l server : ℕ) (plan : ℕ → Plan) → lss_owner t l ≡ Some server → after_plan w line (on_owner (owner_of k l) plan) ≡ after_plan w line (plan server)
  owner-there sound l server plan some = ap (λ o. after_plan w line (on_owner o plan)) (owner-here sound l ∙ some)

  module _ (sound : IsSoundConfig t) (devs : Devs) (src tgt a b : ℕ) (first : lss_owner t src ≡ Some a) (second : lss_owner t tgt ≡ Some b) (low_a : a < 8) (low_b : b < 8) where
    abbrev pub named : Bool
    named = is_named devs.dev a k && is_named devs.remotedev b k

    owned : (plan : ℕ → ℕ → Plan) → after_plan w line (on_owner (owner_of k src) (λ s. on_owner (owner_of k tgt) (plan s))) ≡ after_plan w line (plan a b)
    owned plan = owner-there sound src a (λ s. on_owner (owner_of k tgt) (plan s)) first ∙ owner-there sound tgt b (plan a) second

    abbrev pub rules-refusal : Option Refusal
    rules-refusal = rules.path_refusal t s.on src tgt

    rules-are : rules-refusal ≡ rules.servers_refusal t s.on a b
    rules-are = λ i. rules.servers_refusal t s.on (unwrap_or (first i) 0) (unwrap_or (second i) 0)

    -- why a path is refused, by the names and by the configuration
    pub path-by : (n : Bool) → named ≡ n → path_refusal k devs a b ≡ (if not n then Some (unknown OfServer) else rules-refusal)
    path-by n is =
        (λ i. if not (is i) then Some (unknown OfServer)
        else if nat_eq a b then Some (over OneServer)
        else if not (on-seen s a low_a i) then Some (server_off a)
        else if not (on-seen s b low_b i) then Some (server_off b)
        else if not (k.link a b) then Some (link_down a b)
        else None)
        ∙ ap (λ o. if not n then Some (unknown OfServer) else o) (sym rules-are)

    pub path-foreign : (group : Bool) → named ≡ false → after_plan w line (path_plan k devs src tgt group) ≡ said w line (Refused (unknown OfServer))
    path-foreign group is = owned (λ s u. unless (path_refusal k devs s u) (make_path_done src tgt group)) ∙ plan-unless w line (make_path_done src tgt group) _ (unknown OfServer) (path-by false is)

    pub path-refused : (group : Bool) (r : Refusal) → named ≡ true → Some r ≡ rules-refusal → after_plan w line (path_plan k devs src tgt group) ≡ said w line (Refused r)
    path-refused group r is why = owned (λ s u. unless (path_refusal k devs s u) (make_path_done src tgt group)) ∙ plan-unless w line (make_path_done src tgt group) _ r (path-by true is ∙ sym why)

    pub path-made : (group : Bool) (u : ConfigTable) → named ≡ true → None ≡ rules-refusal → u ≡ with_path_between t src tgt group → after_plan w line (path_plan k devs src tgt group) ≡ said (here s u h ev) line (Done Alone)
    path-made group u is free new =
        owned (λ s u. unless (path_refusal k devs s u) (make_path_done src tgt group))
        ∙ plan-free w _ line (make_path_done src tgt group) _ (path-by true is ∙ sym free)
        (plan-tables w line (make_path_done src tgt group).first [] (Done Alone)
        ∙ ap (λ es. said (record w { control = (make_path_done src tgt group).first k; events = es }) line (Done Alone)) (append-nil ev)
        ∙ ap (λ x. said (here s x h ev) line (Done Alone)) (sym new))

    -- and why it isn't removed
    abbrev pub held_by : Bool → Option Refusal
    held_by force = if not (k.on a) then Some (server_off a) else if force then None else option_map (pair_state k) (first_active k src tgt)

    unpath-by : (force there n : Bool) → is_some (path_in t.paths src tgt) ≡ there → named ≡ n
        → unpath_refusal k devs src tgt a b force ≡ (if not there then Some (unknown OfPath) else if not n then Some (unknown OfServer) else held_by force)
    unpath-by force there n is names = λ i. if not (is i) then Some (unknown OfPath) else if not (names i) then Some (unknown OfServer) else held_by force

    pub unpath-nowhere : (force : Bool) → is_some (path_in t.paths src tgt) ≡ false → after_plan w line (unpath_plan k devs src tgt force) ≡ said w line (Refused (unknown OfPath))
    unpath-nowhere force none = owned (λ s u. unless (unpath_refusal k devs src tgt s u force) (remove_path_done src tgt)) ∙ plan-unless w line (remove_path_done src tgt) _ (unknown OfPath) (unpath-by force false named none refl)

    pub unpath-foreign : (force : Bool) → is_some (path_in t.paths src tgt) ≡ true → named ≡ false → after_plan w line (unpath_plan k devs src tgt force) ≡ said w line (Refused (unknown OfServer))
    unpath-foreign force there is = owned (λ s u. unless (unpath_refusal k devs src tgt s u force) (remove_path_done src tgt)) ∙ plan-unless w line (remove_path_done src tgt) _ (unknown OfServer) (unpath-by force true false there is)

    pub unpath-held : (force : Bool) (r : Refusal) → is_some (path_in t.paths src tgt) ≡ true → named ≡ true → Some r ≡ held_by force → after_plan w line (unpath_plan k devs src tgt force) ≡ said w line (Refused r)
    unpath-held force r there is why = owned (λ s u. unless (unpath_refusal k devs src tgt s u force) (remove_path_done src tgt)) ∙ plan-unless w line (remove_path_done src tgt) _ r (unpath-by force true true there is ∙ sym why)

    pub unpath-done : (force : Bool) (u : ConfigTable) → is_some (path_in t.paths src tgt) ≡ true → named ≡ true → None ≡ held_by force → u ≡ without_path_between t src tgt → after_plan w line (unpath_plan k devs src tgt force) ≡ said (here s u h ev) line (Done Alone)
    unpath-done force u there is free new =
        owned (λ s u. unless (unpath_refusal k devs src tgt s u force) (remove_path_done src tgt))
        ∙ plan-free w _ line (remove_path_done src tgt) _ (unpath-by force true true there is ∙ sym free)
        (plan-tables w line (remove_path_done src tgt).first [] (Done Alone)
        ∙ ap (λ es. said (record w { control = (remove_path_done src tgt).first k; events = es }) line (Done Alone)) (append-nil ev)
        ∙ ap (λ x. said (here s x h ev) line (Done Alone)) (sym new))

-- a path that is defined, and no primary copies over it, or one does
pub held-none : (on force : Bool) (r : Refusal) (o : Option Refusal) → on ≡ true → force ≡ false → None ≡ o → None ≡ (if not on then Some r else if force then None else o)
held-none on force r o is unforced none = none ∙ (λ i. if not (sym is i) then Some r else if sym unforced i then None else o)

pub held-some : (on force : Bool) (r x : Refusal) (o : Option Refusal) → on ≡ true → force ≡ false → Some x ≡ o → Some x ≡ (if not on then Some r else if force then None else o)
held-some on force r x o is unforced some = some ∙ (λ i. if not (sym is i) then Some r else if sym unforced i then None else o)

-- what is ready stays so
pub ready-path : (s : PlantState) (t u : ConfigTable) (h : Tables) (ev : List Event) (src tgt : ℕ) (group : Bool) → u ≡ with_path_between t src tgt group → IsReady s t h ev → IsReady s u h ev
ready-path s t u h ev src tgt group is r = subst (λ x. IsReady s x h ev) (sym is) (record {
  rest = record { stands = stands-with_path_between t src tgt group s r.rest.stands; sizes = r.rest.sizes };
  reads = r.reads;
  told = r.told;
})

pub ready-unpath : (s : PlantState) (t u : ConfigTable) (h : Tables) (ev : List Event) (src tgt : ℕ) → u ≡ without_path_between t src tgt → IsReady s t h ev → IsReady s u h ev
ready-unpath s t u h ev src tgt is r = subst (λ x. IsReady s x h ev) (sym is) (record {
  rest = record { stands = stands-without_path_between t src tgt s r.rest.stands; sizes = r.rest.sizes };
  reads = r.reads;
  told = r.told;
})
