-- What is true of every configuration stays true with one more server or volume, with a link set, and with
-- other paths.
use Rattle.std.proofs.Common.{◌≡◌, ℕ, ◌<◌, ◌≤◌, Bool, true, false, not, cond, ◌||◌, inl, inr, List, [], ◌∷◌, length, slice_get, Option, Some, None, is_some, refl, sym, ◌∙◌, ap, subst, arith, eqb, leb, ltb, length-append}
use Rattle.std.specs.List.{find}
use Rattle.std.specs.Option.{option_or}
use Rattle.std.specs.Str.{bytes_eq}
use Rattle.std.proofs.lemmas.Slice.Eq.{bytes_eq-Decides}
use Rattle.std.proofs.lemmas.Bool.Decides.{Decides-eqb, nat_tests}
use Rattle.dr_ids.specs.Paths.{Path}
use Rattle.dr_ids.specs.declared.refusal.Refusal.{Refusal}
use Rattle.dr_config.specs.declared.entries.VolumeEntry.{VolumeEntry}
use Rattle.dr_config.specs.Links.{none_down}
use Rattle.dr_config.specs.Table.{ConfigTable, server_named, place_of, entry_of, lss_of, lss_owner, link_up, IsName, IsServer, IsVolume, HasServer, IsSoundConfig}
use Rattle.dr_config.specs.Rules.{is_foreign, server_refusal, volume_refusal, with_server, with_volume, with_link}
use Rattle.dr_config.proofs.LinkLaws.{link_up-with_link, square-with_link, square-none, none-down, joins-turned, joins-none}
use Rattle.dr_config.proofs.Lists.{element-of-push, position-of-found, position-within}
use Rattle.dr_config.proofs.Lookups.{place-of-entry, place-of-new, place-stays, lss_owner-with_volume, server_named-with_server}
use Rattle.dr_logic.proofs.Options.{none_there}

-- a table with no servers, volumes and paths, and with all links up
pub sound-empty : IsSoundConfig (record { names = []; volumes = []; down = none_down; paths = [] })
sound-empty = record {
  few_servers = omega arith;
  few_volumes = omega arith;
  server = λ k n h. absurd (cc);
  volume = λ d e h. absurd (cc);
  square = square-none;
  both_ways = λ x y. ap not (none-down x y ∙ sym (none-down y x));
  own_link = λ x. ap not (none-down x x);
}

two-tests : (a b : Bool) (w x : Refusal) → cond a (Some w) (cond b (Some x) None) ≡ None → (a ≡ false) × (b ≡ false)
two-tests true b w x h = absurd (cc)
two-tests false true w x h = absurd (cc)
two-tests false false w x h = (refl, refl)

four-tests : (a b c d : Bool) (w x y z : Refusal) → cond a (Some w) (cond b (Some x) (cond c (Some y) (cond d (Some z) None))) ≡ None → (a ≡ false) × (b ≡ false) × (c ≡ false) × (d ≡ false)
four-tests true b c d w x y z h = absurd (cc)
four-tests false true c d w x y z h = absurd (cc)
four-tests false false true d w x y z h = absurd (cc)
four-tests false false false true w x y z h = absurd (cc)
four-tests false false false false w x y z h = (refl, refl, refl, refl)

-- an answer that is none refuses no server
pub no-server-refusal : (t now : ConfigTable) (name : List ℕ) (r : Option Refusal) → t ≡ now → r ≡ server_refusal now name → r ≡ None → server_refusal t name ≡ None
no-server-refusal t now name r same told none = rw same (sym told ∙ none)

-- an answer that is none refuses no volume
pub no-volume-refusal : (t now : ConfigTable) (v server tracks : ℕ) (r : Option Refusal) → t ≡ now → r ≡ volume_refusal now v server tracks → r ≡ None → volume_refusal t v server tracks ≡ None
no-volume-refusal t now v server tracks r same told none = rw same (sym told ∙ none)

-- what a server that is not refused has
pub server-accepted : (t : ConfigTable) (name : List ℕ) → server_refusal t name ≡ None → (server_named t name ≡ None) × (length t.names < 8)
server-accepted t name h =
    let parts = two-tests (is_some (server_named t name)) (leb 8 (length t.names)) _ _ h in
    let full : leb 8 (length t.names) ≡ false = parts.1 in
    (none_there (server_named t name) parts.0, grind (arith, nat_tests))

-- what a volume that is not refused has
pub record Accepted (t : ConfigTable) (v server tracks : ℕ) : Type 0 where
  pub new : place_of t v ≡ None
  pub lss : is_foreign (lss_owner t (lss_of v)) server ≡ false
  pub some : 1 ≤ tracks
  pub most : tracks ≤ 256
  pub room : length t.volumes < 64

sized : (k : ℕ) → (eqb k 0 || ltb 256 k) ≡ false → (1 ≤ k) × (k ≤ 256)
sized k h = (grind (arith, nat_tests), grind (arith, nat_tests))

pub volume-accepted : (t : ConfigTable) (v server tracks : ℕ) → volume_refusal t v server tracks ≡ None → Accepted t v server tracks
volume-accepted t v server tracks h =
    let parts = four-tests (is_some (place_of t v)) (is_foreign (lss_owner t (lss_of v)) server) (eqb tracks 0 || ltb 256 tracks) (leb 64 (length t.volumes)) _ _ _ _ h in
    let full : leb 64 (length t.volumes) ≡ false = parts.3 in
    let size = sized tracks parts.2 in
    record { new = none_there (place_of t v) parts.0; lss = parts.1; some = size.0; most = size.1; room = grind (arith, nat_tests) }

owner-agrees : (o : Option ℕ) (server : ℕ) → is_foreign o server ≡ false → option_or o (Some server) ≡ Some server
owner-agrees None server h = refl
owner-agrees (Some owner) server h = let same : owner ≡ server = grind (arith, nat_tests) in ap (λ (n : ℕ). Some n) same

earlier-volume : (t : ConfigTable) (v server tracks d : ℕ) (e : VolumeEntry) → IsVolume t d e → IsVolume (with_volume t v server tracks) d e
earlier-volume t v server tracks d e q = record {
  server = q.server;
  some = q.some;
  most = q.most;
  own = place-stays t v e.id server tracks d q.own;
  lss = rw (lss_owner-with_volume t v server tracks (lss_of e.id), q.lss) refl;
}

last-volume : (t : ConfigTable) (v server tracks : ℕ) → server < length t.names → Accepted t v server tracks → IsVolume (with_volume t v server tracks) (length t.volumes) (record { id = v; server = server; tracks = tracks })
last-volume t v server tracks low a =
    let same : eqb (lss_of v) (lss_of v) ≡ true = (Decides-eqb (lss_of v) (lss_of v)).1 refl in
    record {
      server = low;
      some = a.some;
      most = a.most;
      own = place-of-new t v server tracks a.new;
      lss = rw (lss_owner-with_volume t v server tracks (lss_of v), same) (owner-agrees (lss_owner t (lss_of v)) server a.lss);
    }

-- one more volume that is not refused, of a server that is defined
pub sound-with_volume : (t : ConfigTable) (v server tracks : ℕ) → server < length t.names → volume_refusal t v server tracks ≡ None → IsSoundConfig t → IsSoundConfig (with_volume t v server tracks)
sound-with_volume t v server tracks low ok s =
    let a = volume-accepted t v server tracks ok in
    let e : VolumeEntry = record { id = v; server = server; tracks = tracks } in
    let room : length t.volumes < 64 = a.room in
    let longer = length-append t.volumes (e ∷ []) in
    record {
      few_servers = s.few_servers;
      few_volumes = omega (arith, longer);
      server = λ k n h. let q = s.server k n h in record { name = q.name; own = q.own };
      volume = λ d x h. elim (element-of-push t.volumes e d x h) [
        | inl b ↦ earlier-volume t v server tracks d x (s.volume d x b)
        | inr b ↦ (let P : VolumeEntry → Type 0 = λ y. IsVolume (with_volume t v server tracks) d y in
            let Q : ℕ → Type 0 = λ k. IsVolume (with_volume t v server tracks) k e in
            subst P b.1 (subst Q (sym b.0) (last-volume t v server tracks low a)))
      ];
      square = s.square;
      both_ways = s.both_ways;
      own_link = s.own_link;
    }

earlier-server : (t : ConfigTable) (name : List ℕ) (k : ℕ) (n : List ℕ) → IsServer t k n → IsServer (with_server t name) k n
earlier-server t name k n q = record { name = q.name; own = rw (server_named-with_server t name n, q.own) refl }

last-server : (t : ConfigTable) (name : List ℕ) → IsName name → server_named t name ≡ None → IsServer (with_server t name) (length t.names) name
last-server t name fits new =
    let same = (bytes_eq-Decides name name).1 refl in
    record { name = fits; own = rw (server_named-with_server t name name, new, same) refl }

moved-volume : (t : ConfigTable) (name : List ℕ) (d : ℕ) (e : VolumeEntry) → IsVolume t d e → IsVolume (with_server t name) d e
moved-volume t name d e q = record {
  server = let longer = length-append t.names (name ∷ []) in let low : e.server < length t.names = q.server in omega (arith, longer);
  some = q.some;
  most = q.most;
  own = q.own;
  lss = q.lss;
}

-- one more server that is not refused, with a well formed name
pub sound-with_server : (t : ConfigTable) (name : List ℕ) → IsName name → server_refusal t name ≡ None → IsSoundConfig t → IsSoundConfig (with_server t name)
sound-with_server t name fits ok s =
    let a = server-accepted t name ok in
    let room : length t.names < 8 = a.1 in
    let longer = length-append t.names (name ∷ []) in
    record {
      few_servers = omega (arith, longer);
      few_volumes = s.few_volumes;
      server = λ k n h. elim (element-of-push t.names name k n h) [
        | inl b ↦ earlier-server t name k n (s.server k n b)
        | inr b ↦ (let P : List ℕ → Type 0 = λ y. IsServer (with_server t name) k y in
            let Q : ℕ → Type 0 = λ i. IsServer (with_server t name) i name in
            subst P b.1 (subst Q (sym b.0) (last-server t name fits a.0)))
      ];
      volume = λ d e h. moved-volume t name d e (s.volume d e h);
      square = s.square;
      both_ways = s.both_ways;
      own_link = s.own_link;
    }

-- a link that is set between two servers that are defined
pub sound-with_link : (t : ConfigTable) (a b : ℕ) (up : Bool) → a < length t.names → b < length t.names → (a ≡ b → ⊥) → IsSoundConfig t → IsSoundConfig (with_link t a b up)
sound-with_link t a b up da db differ s =
    let few : length t.names ≤ 8 = s.few_servers in
    let la : a < 8 = omega arith in
    let lb : b < 8 = omega arith in
    let law = link_up-with_link t a b up s.square la lb in
    record {
      few_servers = s.few_servers;
      few_volumes = s.few_volumes;
      server = λ k n h. let q = s.server k n h in record { name = q.name; own = q.own };
      volume = λ d e h. let q = s.volume d e h in record { server = q.server; some = q.some; most = q.most; own = q.own; lss = q.lss };
      square = square-with_link t a b up la lb s.square;
      both_ways = λ x y. law x y ∙ ((λ i. cond (joins-turned x y a b i) up (s.both_ways x y i)) ∙ sym (law y x));
      own_link = λ x. law x x ∙ (ap (λ j. cond j up (link_up t x x)) (joins-none x a b differ) ∙ s.own_link x);
    }

-- paths are no part of what is true
pub sound-with_paths : (t : ConfigTable) (ps : List Path) → IsSoundConfig t → IsSoundConfig (record t { paths = ps })
sound-with_paths t ps s = record {
  few_servers = s.few_servers;
  few_volumes = s.few_volumes;
  server = λ k n h. let q = s.server k n h in record { name = q.name; own = q.own };
  volume = λ d e h. let q = s.volume d e h in record { server = q.server; some = q.some; most = q.most; own = q.own; lss = q.lss };
  square = s.square;
  both_ways = s.both_ways;
  own_link = s.own_link;
}

-- a server that a name gives is defined
pub named-defined : (t : ConfigTable) (name : List ℕ) (k : ℕ) → IsSoundConfig t → server_named t name ≡ Some k → HasServer t k
named-defined t name k s h =
    let low : k < length t.names = position-within (λ (n : List ℕ). bytes_eq name n) t.names k h in
    let few : length t.names ≤ 8 = s.few_servers in
    record { defined = low; below = omega arith }

volume-defined : (t : ConfigTable) (d : ℕ) (e : VolumeEntry) → IsSoundConfig t → slice_get t.volumes d ≡ Some e → HasServer t e.server
volume-defined t d e s h =
    let low : e.server < length t.names = (s.volume d e h).server in
    let few : length t.names ≤ 8 = s.few_servers in
    record { defined = low; below = omega arith }

-- the server of a volume is defined
pub entry-defined : (t : ConfigTable) (v : ℕ) (e : VolumeEntry) → IsSoundConfig t → entry_of t v ≡ Some e → HasServer t e.server
entry-defined t v e s h = let at = place-of-entry t v e h in volume-defined t at.0 e s at.2

-- a volume has 1 to 256 tracks
pub entry-sized : (t : ConfigTable) (v : ℕ) (e : VolumeEntry) → IsSoundConfig t → entry_of t v ≡ Some e → (1 ≤ e.tracks) × (e.tracks ≤ 256)
entry-sized t v e s h = let at = place-of-entry t v e h in let q = s.volume at.0 e at.2 in (q.some, q.most)

-- the owner of a logical subsystem is defined
pub owner-defined : (t : ConfigTable) (l : ℕ) (e : VolumeEntry) → IsSoundConfig t → find (λ (x : VolumeEntry). eqb (lss_of x.id) l) t.volumes ≡ Some e → HasServer t e.server
owner-defined t l e s h =
    let at = position-of-found (λ (x : VolumeEntry). eqb (lss_of x.id) l) t.volumes e h in volume-defined t at.0 e s at.2
