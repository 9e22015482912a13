-- When a table stands for the devices of a plant.
use Rattle.std.proofs.Common.{◌≡◌, ℕ, ◌+◌, ◌<◌, Bool, true, false, inl, inr, List, [], ◌∷◌, Some, refl, sym, ◌∙◌, ap, subst, arith, eqb, length-append}
use Rattle.std.proofs.lemmas.Option.{same_Some, slice_get_within}
use Rattle.std.proofs.lemmas.Bool.Decides.{Decides-eqb, nat_tests}
use Rattle.dr_logic.specs.Tables.{at}
use Rattle.dr_ids.specs.Sizes.{blocks_of}
use Rattle.dr_plant.specs.State.{PlantState, with_device}
use Rattle.dr_config.specs.declared.entries.VolumeEntry.{VolumeEntry}
use Rattle.dr_config.specs.Table.{ConfigTable, place_of, entry_of, StandsFor}
use Rattle.dr_config.specs.Rules.{with_server, with_volume, with_link, with_path_between, without_path_between}
use Rattle.dr_config.proofs.Lists.{element-of-push}
use Rattle.dr_config.proofs.Lookups.{entry-at-place}

-- a device stands for an entry
abbrev Matches : PlantState → ℕ → VolumeEntry → Type 0
Matches s d e = (s.owner d ≡ e.server) × (s.size d ≡ blocks_of e.tracks) × (e.server < 8)

at-other : (f : ℕ → ℕ) (k x q : ℕ) → q < k → at f k x q ≡ f q
at-other f k x q h = let e : eqb q k ≡ false = grind (arith, nat_tests) in rw e refl

at-same : (f : ℕ → ℕ) (k x q : ℕ) → q ≡ k → at f k x q ≡ x
at-same f k x q h = let e : eqb q k ≡ true = (Decides-eqb q k).1 h in rw e refl

-- a table with no volumes and paths stands for a plant with no devices
pub stands-empty : (names : List (List ℕ)) (down : List (List Bool)) (s : PlantState) → s.count ≡ 0 → StandsFor (record { names = names; volumes = []; down = down; paths = [] }) s
stands-empty names down s h = record { count = h; device = λ d e p. absurd (cc) }

-- only the devices' owners and sizes matter
pub stands-along : (t : ConfigTable) (s u : PlantState) → u.count ≡ s.count → u.owner ≡ s.owner → u.size ≡ s.size → StandsFor t s → StandsFor t u
stands-along t s u c o z h = record {
  count = c ∙ h.count;
  device = λ d e p. let m = h.device d e p in (ap (λ (f : ℕ → ℕ). f d) o ∙ m.0, ap (λ (f : ℕ → ℕ). f d) z ∙ m.1, m.2);
}

-- the device of a volume
pub device-of-volume : (t : ConfigTable) (s : PlantState) (v d : ℕ) (e : VolumeEntry) → StandsFor t s → place_of t v ≡ Some d → entry_of t v ≡ Some e → (d < s.count) × (s.owner d ≡ e.server) × (s.size d ≡ blocks_of e.tracks) × (e.server < 8)
device-of-volume t s v d e h place entry =
    let at = entry-at-place t v d place in
    let same : at.0 ≡ e = same_Some at.0 e (sym at.2 ∙ entry) in
    let Stands : VolumeEntry → Type 0 = λ x. Matches s d x in
    let m : Matches s d e = subst Stands same (h.device d at.0 at.1) in
    let within : d < s.count = rw h.count (slice_get_within t.volumes d at.0 at.1) in
    (within, m.0, m.1, m.2)

-- one more server changes no device
pub stands-with_server : (t : ConfigTable) (name : List ℕ) (s : PlantState) → StandsFor t s → StandsFor (with_server t name) s
stands-with_server t name s h = record { count = h.count; device = h.device }

-- nor does a link that is set
pub stands-with_link : (t : ConfigTable) (a b : ℕ) (up : Bool) (s : PlantState) → StandsFor t s → StandsFor (with_link t a b up) s
stands-with_link t a b up s h = record { count = h.count; device = h.device }

-- nor does a path that is defined
pub stands-with_path_between : (t : ConfigTable) (src tgt : ℕ) (group : Bool) (s : PlantState) → StandsFor t s → StandsFor (with_path_between t src tgt group) s
stands-with_path_between t src tgt group s h = record { count = h.count; device = h.device }

-- nor one that is removed
pub stands-without_path_between : (t : ConfigTable) (src tgt : ℕ) (s : PlantState) → StandsFor t s → StandsFor (without_path_between t src tgt) s
stands-without_path_between t src tgt s h = record { count = h.count; device = h.device }

earlier : (s : PlantState) (server blocks d : ℕ) (e : VolumeEntry) → d < s.count → Matches s d e → Matches (with_device s server blocks) d e
unfolding with_device
earlier s server blocks d e l m = (at-other s.owner s.count server d l ∙ m.0, at-other s.size s.count blocks d l ∙ m.1, m.2)

last : (s : PlantState) (v server tracks d : ℕ) (e : VolumeEntry) → server < 8 → d ≡ s.count → (record { id = v; server = server; tracks = tracks }) ≡ e → Matches (with_device s server (blocks_of tracks)) d e
unfolding with_device
last s v server tracks d e low l same =
    let P : VolumeEntry → Type 0 = λ x. Matches (with_device s server (blocks_of tracks)) d x in
    subst P same (at-same s.owner s.count server d l, at-same s.size s.count (blocks_of tracks) d l, low)

counted : (s : PlantState) (server blocks : ℕ) → (with_device s server blocks).count ≡ s.count + 1
unfolding with_device
counted s server blocks = refl

-- one more volume, with its device
pub stands-with_volume : (t : ConfigTable) (s : PlantState) (v server tracks : ℕ) → server < 8 → StandsFor t s → StandsFor (with_volume t v server tracks) (with_device s server (blocks_of tracks))
stands-with_volume t s v server tracks low h = record {
  count = let c = counted s server (blocks_of tracks) in let n = h.count in let l = length-append t.volumes (record { id = v; server = server; tracks = tracks } ∷ []) in omega (arith, l);
  device = λ d e p. elim (element-of-push t.volumes (record { id = v; server = server; tracks = tracks }) d e p) [
    | inl a ↦ (let within : d < s.count = rw h.count (slice_get_within t.volumes d e a) in earlier s server (blocks_of tracks) d e within (h.device d e a))
    | inr b ↦ last s v server tracks d e low (b.0 ∙ sym h.count) b.1
  ];
}
