-- Where the look-ups of a table agree, and what one more server or volume does to them.
use Rattle.std.proofs.Common.{◌≡◌, ℕ, Bool, true, false, cond, List, length, slice_get, Option, Some, None, ◌⊎◌, inl, inr, is_some, refl, sym, ◌∙◌, ap, true≢false, arith, eqb}
use Rattle.std.specs.Option.{option_or, option_map}
use Rattle.std.specs.Str.{bytes_eq}
use Rattle.std.proofs.lemmas.Option.{none-some}
use Rattle.std.proofs.lemmas.Bool.Decides.{Decides-eqb, nat_tests}
use Rattle.dr_ids.specs.declared.names.ServerId.{ServerId}
use Rattle.dr_config.specs.declared.entries.VolumeEntry.{VolumeEntry}
use Rattle.dr_config.specs.Table.{ConfigTable, server_named, place_of, entry_of, server_of, lss_of, lss_owner, IsSoundConfig}
use Rattle.dr_config.specs.Rules.{with_server, with_volume}
use Rattle.dr_config.proofs.Lists.{found-at, position-of-found, none-found, position-push, find-push}

-- at the place of a volume stands its entry
pub entry-at-place : (t : ConfigTable) (v d : ℕ) → place_of t v ≡ Some d → (e : VolumeEntry) × (slice_get t.volumes d ≡ Some e) × (entry_of t v ≡ Some e) × (e.id ≡ v)
entry-at-place t v d h =
    let f = found-at (λ (e : VolumeEntry). eqb e.id v) t.volumes d h in
    (f.0, f.1, f.2, (Decides-eqb f.0.id v).0 f.3)

-- the entry of a volume stands at its place
pub place-of-entry : (t : ConfigTable) (v : ℕ) (e : VolumeEntry) → entry_of t v ≡ Some e → (d : ℕ) × (place_of t v ≡ Some d) × (slice_get t.volumes d ≡ Some e) × (e.id ≡ v)
place-of-entry t v e h =
    let f = position-of-found (λ (x : VolumeEntry). eqb x.id v) t.volumes e h in
    (f.0, f.1, f.2, (Decides-eqb e.id v).0 f.3)

-- a volume with no place has no entry
pub no-entry : (t : ConfigTable) (v : ℕ) → place_of t v ≡ None → entry_of t v ≡ None
no-entry t v h = none-found (λ (e : VolumeEntry). eqb e.id v) t.volumes h

pub either : {A : Type 0} (o : Option A) → ((x : A) × (o ≡ Some x)) ⊎ (o ≡ None)
either None = inr refl
either (Some x) = inl (x, refl)

-- a volume with no entry has no place
pub no-place : (t : ConfigTable) (v : ℕ) → entry_of t v ≡ None → place_of t v ≡ None
no-place t v h =
    elim (either (place_of t v)) [ inl d ↦ (let at = entry-at-place t v d.0 d.1 in absurd (none-some at.0 (sym h ∙ at.2))) | inr none ↦ none ]

pub none-mapped : {A B : Type 0} (f : A → B) (o : Option A) → None ≡ option_map f o → o ≡ None
none-mapped f None h = refl
none-mapped f (Some x) h = absurd (none-some (f x) h)

-- a volume that has a place has a server
pub server-found : (t : ConfigTable) (v : ℕ) (r : Option ServerId) → is_some (place_of t v) ≡ true → option_map (λ (s : ServerId). s.0) r ≡ server_of t v → is_some r ≡ true
server-found t v None defined is =
    let none : place_of t v ≡ None = no-place t v (none-mapped (λ (e : VolumeEntry). e.server) (entry_of t v) is) in
    absurd (true≢false (sym defined ∙ ap is_some none))
server-found t v (Some s) defined is = refl

-- each entry that is listed is that of its identifier, and stands at its place
pub entry-listed : (t : ConfigTable) (d : ℕ) (e : VolumeEntry) → IsSoundConfig t → slice_get t.volumes d ≡ Some e → (place_of t e.id ≡ Some d) × (entry_of t e.id ≡ Some e)
entry-listed t d e sound h =
    let own : place_of t e.id ≡ Some d = (sound.volume d e h).own in
    let f = entry-at-place t e.id d own in
    let same : Some f.0 ≡ Some e = sym f.1 ∙ h in
    (own, f.2 ∙ same)

-- the volume that was added has the last place
pub place-of-new : (t : ConfigTable) (v server tracks : ℕ) → place_of t v ≡ None → place_of (with_volume t v server tracks) v ≡ Some (length t.volumes)
place-of-new t v server tracks h =
    let e : VolumeEntry = record { id = v; server = server; tracks = tracks } in
    let same : eqb v v ≡ true = (Decides-eqb v v).1 refl in
    rw (position-push (λ (x : VolumeEntry). eqb x.id v) t.volumes e, h, same) refl

-- the volume that was added has the entry that was added
pub entry-of-new : (t : ConfigTable) (v server tracks : ℕ) → place_of t v ≡ None → entry_of (with_volume t v server tracks) v ≡ Some (record { id = v; server = server; tracks = tracks })
entry-of-new t v server tracks h =
    let e : VolumeEntry = record { id = v; server = server; tracks = tracks } in
    let same : eqb v v ≡ true = (Decides-eqb v v).1 refl in
    rw (find-push (λ (x : VolumeEntry). eqb x.id v) t.volumes e, no-entry t v h, same) refl

pub or-none : {A : Type 0} (o : Option A) → option_or o None ≡ o
or-none None = refl
or-none (Some x) = refl

other-test : (v w : ℕ) → (v ≡ w → ⊥) → eqb v w ≡ false
other-test v w h = grind (arith, nat_tests)

-- another volume stays where it is
pub place-of-other : (t : ConfigTable) (v w server tracks : ℕ) → (v ≡ w → ⊥) → place_of (with_volume t v server tracks) w ≡ place_of t w
place-of-other t v w server tracks h =
    let e : VolumeEntry = record { id = v; server = server; tracks = tracks } in
    rw (position-push (λ (x : VolumeEntry). eqb x.id w) t.volumes e, other-test v w h) (or-none _)

-- another volume keeps its entry
pub entry-of-other : (t : ConfigTable) (v w server tracks : ℕ) → (v ≡ w → ⊥) → entry_of (with_volume t v server tracks) w ≡ entry_of t w
entry-of-other t v w server tracks h =
    let e : VolumeEntry = record { id = v; server = server; tracks = tracks } in
    rw (find-push (λ (x : VolumeEntry). eqb x.id w) t.volumes e, other-test v w h) (or-none _)

-- a volume that has a place keeps it
pub place-stays : (t : ConfigTable) (v w server tracks d : ℕ) → place_of t w ≡ Some d → place_of (with_volume t v server tracks) w ≡ Some d
place-stays t v w server tracks d h =
    let e : VolumeEntry = record { id = v; server = server; tracks = tracks } in
    rw (position-push (λ (x : VolumeEntry). eqb x.id w) t.volumes e, h) refl

owner-or : (o p : Option VolumeEntry) → option_map (λ (e : VolumeEntry). e.server) (option_or o p) ≡ option_or (option_map (λ (e : VolumeEntry). e.server) o) (option_map (λ (e : VolumeEntry). e.server) p)
owner-or None p = refl
owner-or (Some x) p = refl

server-if : (b : Bool) (e : VolumeEntry) → option_map (λ (x : VolumeEntry). x.server) (cond b (Some e) None) ≡ cond b (Some e.server) None
server-if true e = refl
server-if false e = refl

-- the owner of a logical subsystem stays, and where it had none it is the new volume's server
pub lss_owner-with_volume : (t : ConfigTable) (v server tracks l : ℕ) → lss_owner (with_volume t v server tracks) l ≡ option_or (lss_owner t l) (cond (eqb (lss_of v) l) (Some server) None)
lss_owner-with_volume t v server tracks l =
    let e : VolumeEntry = record { id = v; server = server; tracks = tracks } in
    rw (find-push (λ (x : VolumeEntry). eqb (lss_of x.id) l) t.volumes e, owner-or, server-if (eqb (lss_of v) l) e) refl

-- the servers' names with one more
pub server_named-with_server : (t : ConfigTable) (name n : List ℕ) → server_named (with_server t name) n ≡ option_or (server_named t n) (cond (bytes_eq n name) (Some (length t.names)) None)
server_named-with_server t name n = position-push (λ (x : List ℕ). bytes_eq n x) t.names name
