-- How many entries the parts of plans have, by how many volumes and members there are.
use Rattle.std.proofs.Common.{ℕ, zero, suc, ◌≡◌, ◌≤◌, ◌+◌, ◌*◌, List, [], ◌∷◌, ◌++◌, length, map, refl, arith, Bool, true, false, cond, Option, Some, None}
use Rattle.std.specs.List.{flat_map}
use Rattle.std.proofs.lemmas.List.{length-append, length-map}
use Rattle.dr_facts.proofs.WriteStops.{after-any, drain-any}
use Rattle.dr_ids.specs.declared.names.Member.{Member}
use Rattle.dr_ids.specs.declared.refusal.Decision.{Decision}
use Rattle.dr_logic.proofs.Lists.{filter-shorter}
use Rattle.dr_model.specs.Phases.{Work, Hold}
use Rattle.dr_model.specs.Pairs.{held, is_cascaded, goes_over, collides}
use Rattle.dr_model.specs.Control.{Control}
use Rattle.dr_model.specs.Moves.{Mirror, LandBoth}
use Rattle.dr_model.specs.Carry.{Entry, now, follows_at}
use Rattle.dr_model.specs.Entries.{fields_at, land_on, land_alone, keep_on, copy_first, times, fetch_next}
use Rattle.dr_model.specs.PairEntries.{store_on, strike_on, where_sent, send_first, suspend_after, drain_stretches}
use Rattle.dr_model.specs.WriteEntries.{partner_of, is_grouped, land_collided, mirror_and_land, land_mirrored, land_fed, land_parted, is_parted, is_held_back, land_over, land_entries, landing, after_write, start_on_volume, start_entries}
use Rattle.dr_model.specs.SessionEntries.{member_entries, is_on, members_on, order_entries}
use Rattle.dr_model.specs.Plans.{drain_checks, acknowledge_on, destage_entries}
use Rattle.dr_model.specs.RecoveryPlans.{take_over_on, settle_on, end_recovery, recover_entries}

choice-length : (n : ℕ) (b : Bool) (ds es : List Entry) → length ds ≤ n → length es ≤ n → length (cond b ds es) ≤ n
choice-length n true ds es first second = first
choice-length n false ds es first second = second

-- an entry for each of a list, and others after them
pub map-length : {X : Type 0} (each : X → Entry) (xs : List X) (es : List Entry) → length (map each xs ++ es) ≡ length xs + length es
map-length each [] es = omega arith
map-length each (x ∷ xs) es = let e : length (map each xs ++ es) ≡ length xs + length es = map-length each xs es in omega arith

-- so many entries for each
pub flat-length : {X : Type 0} (each : X → List Entry) (n : ℕ) → ((x : X) → length (each x) ≤ n) → (xs : List X) → length (flat_map each xs) ≤ length xs * n
flat-length each n few [] = omega arith
flat-length each n few (x ∷ xs) =
    let e : length (each x ++ flat_map each xs) ≡ length (each x) + length (flat_map each xs) = length-append (each x) (flat_map each xs) in
    let a : length (each x) ≤ n = few x in
    let b : length (flat_map each xs) ≤ length xs * n = flat-length each n few xs in omega arith

pub fetches-length : (n v : ℕ) → length (times n (fetch_next v ∷ [])) ≡ n
fetches-length zero v = refl
fetches-length (suc n) v = let e : length (times n (fetch_next v ∷ [])) ≡ n = fetches-length n v in omega arith

pub destage-length : (staged : Option ℕ) (v : ℕ) → length (destage_entries staged v) ≤ 2
destage-length None v = omega arith
destage-length (Some t) v = omega arith

-- ---- a host write

module _ (k : Control) (few : length k.volumes ≤ 64) (n v t : ℕ) where
  alone-length : length (land_alone k.volumes n v t) ≤ 65
  alone-length = let e : length (land_alone k.volumes n v t) ≡ length k.volumes + 1 = map-length (keep_on v t) k.volumes (land_on n v t ∷ []) in omega arith

  stores-length : (u : ℕ) → length (mirror_and_land k.volumes n v t u) ≤ 130
  stores-length u =
      let ds : List Entry = copy_first k.volumes u t ++ now (Mirror u t v n) ∷ copy_first k.volumes v t in
      let a : length (ds ++ now (LandBoth n v t) ∷ []) ≡ length ds + 1 = length-append ds (now (LandBoth n v t) ∷ []) in
      let b : length ds ≡ length k.volumes + length (now (Mirror u t v n) ∷ copy_first k.volumes v t) = map-length (keep_on u t) k.volumes (now (Mirror u t v n) ∷ copy_first k.volumes v t) in
      let c : length (copy_first k.volumes v t) ≡ length k.volumes = length-map k.volumes (keep_on v t) in omega arith

  parted-length : length (land_parted k n v t) ≤ 132
  parted-length = let a : length (cond (is_grouped k v (partner_of k v)) [] (land_alone k.volumes n v t)) ≤ 65 = choice-length 65 (is_grouped k v (partner_of k v)) [] (land_alone k.volumes n v t) (omega arith) alone-length in omega arith

  sent-length : (q u : ℕ) (more : List Entry) → length (send_first k.volumes q u t ++ more) ≤ 67 + length more
  sent-length q u more =
      let es : List Entry = copy_first k.volumes u t ++ store_on q u t ∷ strike_on q t ∷ [] in
      let a : length (send_first k.volumes q u t ++ more) ≡ length (send_first k.volumes q u t) + length more = length-append (send_first k.volumes q u t) more in
      let b : length (map (where_sent q u t) es) ≡ length es = length-map es (where_sent q u t) in
      let c : length es ≡ length k.volumes + 2 = map-length (keep_on u t) k.volumes (store_on q u t ∷ strike_on q t ∷ []) in omega arith

  collided-length : (u : ℕ) → length (send_first k.volumes v u t ++ land_alone k.volumes n v t) ≤ 198
  collided-length u = let a : length (send_first k.volumes v u t ++ land_alone k.volumes n v t) ≤ 67 + length (land_alone k.volumes n v t) = sent-length v u (land_alone k.volumes n v t) in let d : length (land_alone k.volumes n v t) ≤ 65 = alone-length in omega arith

  fed-length : (u c : ℕ) → length (land_fed k.volumes n v t u c) ≤ 198
  fed-length u c = let a : length (send_first k.volumes u c t ++ mirror_and_land k.volumes n v t u) ≤ 67 + length (mirror_and_land k.volumes n v t u) = sent-length u c (mirror_and_land k.volumes n v t u) in let b : length (mirror_and_land k.volumes n v t u) ≤ 130 = stores-length u in omega arith

  over-length : length (land_over k n v t) ≤ 198
  over-length =
      let u : ℕ = partner_of k v in
      let a : length (land_parted k n v t) ≤ 132 = parted-length in
      let b : length (mirror_and_land k.volumes n v t u) ≤ 130 = stores-length u in
      choice-length 198 (is_parted k v) (land_parted k n v t) _ (omega arith)
      (choice-length 198 (is_held_back k v) [] _ (omega arith) (choice-length 198 (is_cascaded (fields_at k u)) (land_fed k.volumes n v t u (partner_of k u)) (land_mirrored k.volumes n v t u) (fed-length u (partner_of k u)) (omega arith)))

  pub landing-length : length (landing k n v t) ≤ 205
  landing-length =
      let a : length (land_alone k.volumes n v t) ≤ 65 = alone-length in
      let le : length (land_entries k n v t) ≤ 198 =
      choice-length 198 (held (fields_at k v)) [] _ (omega arith)
      (choice-length 198 (goes_over (fields_at k v) t) (land_over k n v t) _ over-length
      (choice-length 198 (collides (fields_at k v) t) (land_collided k n v t) (land_alone k.volumes n v t) (collided-length (partner_of k v)) (omega arith))) in omega arith

pub after_write-length : (k : Control) (n v t s : ℕ) → length (after_write k n v t s) ≤ 2
after_write-length k n v t s = after-any k n v t (λ es. length es ≤ 2) s (omega arith) (omega arith) (λ is. omega arith)

-- ---- a drain

pub after_drain-length : (k : Control) (a : ℕ) (ts : List ℕ) (s : ℕ) → length (follows_at (record { entries = drain_checks k a; follows = suspend_after a } ∷ drain_stretches k a ts) s) ≤ 2
after_drain-length k a ts s = drain-any (λ es. length es ≤ 2) k a ts s (omega arith) (λ is. omega arith)

-- ---- starts, orders and recoveries

pub start-length : (s : ℕ) (vs : List ℕ) → length vs ≤ 64 → length (start_entries s vs ++ acknowledge_on s ∷ []) ≤ 256
start-length s vs le =
    let a : length (start_entries s vs ++ acknowledge_on s ∷ []) ≡ length (start_entries s vs) + 1 = length-append (start_entries s vs) (acknowledge_on s ∷ []) in
    let b : length (start_entries s vs) ≤ length vs * 2 = flat-length (start_on_volume s) 2 (λ v. omega arith) vs in omega arith

member-length : (work : Work) (s n : ℕ) (m : Member) → length (member_entries work s n m) ≤ 3
member-length Hold s n m = omega arith
member-length work s n m = omega arith

pub few-on : (x : ℕ) (ms : List Member) → length (members_on x ms) ≤ length ms
few-on x ms = filter-shorter (is_on x) ms

pub order-length : (work : Work) (s n server : ℕ) (ms : List Member) → length ms ≤ 64 → length (order_entries work s n (members_on server ms)) ≤ 256
order-length work s n server ms le =
    let a : length (members_on server ms) ≤ length ms = few-on server ms in
    let b : length (order_entries work s n (members_on server ms)) ≤ length (members_on server ms) * 3 = flat-length (member_entries work s n) 3 (member-length work s n) (members_on server ms) in omega arith

pub recover-length : (s : ℕ) (d : Decision) (ms : List Member) → length ms ≤ 64 → length (recover_entries s d ms) ≤ 256
recover-length s d ms le =
    let a : length (recover_entries s d ms) ≡ length ms + length (map (settle_on s d) ms ++ end_recovery s ∷ []) = map-length take_over_on ms _ in
    let b : length (map (settle_on s d) ms ++ end_recovery s ∷ []) ≡ length ms + 1 = map-length (settle_on s d) ms _ in omega arith
