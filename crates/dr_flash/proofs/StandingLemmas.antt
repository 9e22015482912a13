-- The targets of a volume, from one volume of the configuration to the next.
use Rattle.std.proofs.Common.{ℕ, zero, suc, ◌≡◌, ◌+◌, Bool, true, false, ◌&&◌, ◌||◌, cond, List, [], ◌∷◌, drop, length, slice_get, nat_lt, arith, refl, sym, ◌∙◌, ap, Some, None}
use Rattle.std.specs.Prelude.{option_map, filter, if◌then◌else◌}
use Rattle.std.specs.List.{list_any}
use Rattle.std.proofs.Math.Numerals.{suc-eq-add-one}
use Rattle.std.proofs.lemmas.Bool.Decides.{nat_tests}
use Rattle.dr_plant.specs.State.{PlantState}
use Rattle.dr_config.specs.Table.{ConfigTable, place_of}
use Rattle.dr_config.specs.declared.entries.VolumeEntry.{VolumeEntry}
use Rattle.dr_config.proofs.Lookups.{entry-at-place}
use Rattle.dr_model.specs.Layout.{Fields}
use Rattle.dr_model.specs.Entries.{copies_from, is_revertible, is_reversing, relation_seen}
use Rattle.dr_volume.specs.View.{volume_seen, volume_at, ids_of, Rest}
use Rattle.dr_flash.proofs.CopyLemmas.{ids-next}
use Rattle.dr_ids.specs.declared.refusal.RelSeen.TheVariants.{Revertible, Reversing, Target, Source, None as Unrelated}
use Rattle.dr_model.specs.declared.event.Event.{Event}
use Rattle.dr_moves.specs.Here.{world_seen}
use Rattle.dr_flash.specs.Standing.{targets_in, any_of, relation_of, HasNoTarget}
use Rattle.dr_volume.specs.declared.head.Head.{Head}
use Rattle.dr_volume.specs.Head.{head_of}
use Rattle.dr_flash.specs.declared.standing.Targets.{Targets}

-- those from a place on
abbrev pub targets_from : PlantState → ConfigTable → ℕ → ℕ → List ℕ
targets_from s t v place = filter (λ u. copies_from v (volume_seen s t u).fields) (ids_of (drop place t.volumes))

module _ (s : PlantState) (t : ConfigTable) (v place u : ℕ) (at : Some u ≡ option_map (λ (e : VolumeEntry). e.id) (slice_get t.volumes place)) where
  next-targets : targets_from s t v place ≡ cond (copies_from v (volume_seen s t u).fields) (u ∷ targets_from s t v (place + 1)) (targets_from s t v (place + 1))
  next-targets = ap (filter (λ u. copies_from v (volume_seen s t u).fields)) (ids-next t place u at)

  pub count-next : length (targets_from s t v place) ≡ (if copies_from v (volume_seen s t u).fields then 1 else 0) + length (targets_from s t v (place + 1))
  count-next = ap length next-targets ∙ counts (copies_from v (volume_seen s t u).fields) (targets_from s t v (place + 1))
    where
      counts : (b : Bool) (xs : List ℕ) → length (cond b (u ∷ xs) xs) ≡ (if b then 1 else 0) + length xs
      counts true xs = suc-eq-add-one (length xs) ∙ (let e : length xs + 1 ≡ 1 + length xs = omega arith in e)
      counts false xs = let e : length xs ≡ 0 + length xs = omega arith in e

  pub any-next : (so : Fields → Bool) → list_any (λ u. so (volume_seen s t u).fields) (targets_from s t v place) ≡ ((copies_from v (volume_seen s t u).fields && so (volume_seen s t u).fields) || list_any (λ u. so (volume_seen s t u).fields) (targets_from s t v (place + 1)))
  any-next so = ap (list_any (λ u. so (volume_seen s t u).fields)) next-targets ∙ anys (copies_from v (volume_seen s t u).fields) (targets_from s t v (place + 1))
    where
      anys : (b : Bool) (xs : List ℕ) → list_any (λ u. so (volume_seen s t u).fields) (cond b (u ∷ xs) xs) ≡ ((b && so (volume_seen s t u).fields) || list_any (λ u. so (volume_seen s t u).fields) xs)
      anys true xs = refl
      anys false xs = refl

or-assoc : (a b x : Bool) → ((a || b) || x) ≡ (a || (b || x))
or-assoc true b x = refl
or-assoc false b x = refl

-- one turn: what was found, with what this volume adds and what is left, is all
pub any-turn : (a b a' x y all : Bool) → a' ≡ (a || b) → x ≡ (b || y) → (a || x) ≡ all → (a' || y) ≡ all
any-turn a b a' x y all now is h = ap (λ z. z || y) now ∙ or-assoc a b y ∙ ap (λ z. a || z) (sym is) ∙ h

-- there is a target where the count is above 0
pub any-count : (xs : List ℕ) → nat_lt 0 (length xs) ≡ list_any (λ (u : ℕ). true) xs
any-count [] = refl
any-count (x ∷ xs) = above (length xs)
  where
    above : (n : ℕ) → nat_lt 0 (suc n) ≡ true
    above n = grind (arith, nat_tests)

-- a target is seen as one before a source is
last-seen : (b n m : Bool) → n ≡ m → (if b then Target else if n then Source else Unrelated) ≡ (if b then Target else if (b && true) || m then Source else Unrelated)
last-seen true n m e = refl
last-seen false n m e = ap (λ x. if x then Source else Unrelated) e

module _ (s : PlantState) (t : ConfigTable) (r : Rest) (events : List Event) (v : ℕ) (f : Head) (all : Targets) (shows : f ≡ head_of (volume_seen s t v).fields)
    (count : all.count ≡ length (targets_in s t v)) (revertible : all.revertible ≡ any_of is_revertible s t v) (reversing : all.reversing ≡ any_of is_reversing s t v) where
  pub relation-is : relation_of f all ≡ relation_seen (world_seen s t r events).control v
  relation-is =
      (λ i. if (f.related && f.revertible) || revertible i then Revertible
      else if (f.related && f.reversing) || reversing i then Reversing
      else last-seen f.related (nat_lt 0 all.count) (list_any (λ u. true) (targets_in s t v)) (ap (nat_lt 0) count ∙ any-count (targets_in s t v)) i)
      ∙ (λ i. if ((shows i).related && (shows i).revertible) || any_of is_revertible s t v then Revertible
      else if ((shows i).related && (shows i).reversing) || any_of is_reversing s t v then Reversing
      else if (shows i).related then Target
      else if ((shows i).related && true) || list_any (λ u. true) (targets_in s t v) then Source
      else Unrelated)

none-first : (b : Bool) (x : ℕ) (xs : List ℕ) → length (cond b (x ∷ xs) xs) ≡ 0 → b ≡ false
none-first true x xs h = absurd (cc h)
none-first false x xs h = refl

none-behind : (b : Bool) (x : ℕ) (xs : List ℕ) → length (cond b (x ∷ xs) xs) ≡ 0 → length xs ≡ 0
none-behind true x xs h = absurd (cc h)
none-behind false x xs h = h

none-listed : (so : ℕ → Bool) (es : List VolumeEntry) (d : ℕ) (e : VolumeEntry) → slice_get es d ≡ Some e → length (filter so (ids_of es)) ≡ 0 → so e.id ≡ false
none-listed so [] d e is h = absurd (cc is)
none-listed so (x ∷ es) zero e is h = let same : x ≡ e = cc in ap (λ (z : VolumeEntry). so z.id) (sym same) ∙ none-first (so x.id) x.id (filter so (ids_of es)) h
none-listed so (x ∷ es) (suc d) e is h = none-listed so es d e is (none-behind (so x.id) x.id (filter so (ids_of es)) h)

-- a count of none says that no volume is a target
pub no-target : (s : PlantState) (t : ConfigTable) (v n : ℕ) → n ≡ length (targets_in s t v) → nat_lt 0 n ≡ false → HasNoTarget s t v
no-target s t v n count none q =
    let zero : n ≡ 0 = grind (arith, nat_tests) in
    elim (place_of t q) as (λ o. place_of t q ≡ o → copies_from v (volume_seen s t q).fields ≡ false) [
      | None ↦ λ at. ap (λ o. copies_from v (volume_at s t o).fields) at
      | Some d ↦ λ at.
          let x = entry-at-place t q d at in
          ap (λ z. copies_from v (volume_seen s t z).fields) (sym x.3) ∙ none-listed (λ u. copies_from v (volume_seen s t u).fields) t.volumes d x.0 x.1 (sym count ∙ zero)
    ] refl
