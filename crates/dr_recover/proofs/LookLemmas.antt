-- The first member, or the first target of a volume, that passes a test.
use Rattle.std.proofs.Common.{ℕ, zero, suc, ◌≡◌, ◌≤◌, ◌+◌, Bool, true, false, ◌&&◌, cond, List, [], ◌∷◌, drop, length, slice_get, filter, refl, ◌∙◌, ap, Option, Some, None}
use Rattle.std.specs.Prelude.{option_map}
use Rattle.std.specs.List.{find}
use Rattle.std.proofs.lemmas.List.{drop_all}
use Rattle.dr_config.specs.Table.{ConfigTable}
use Rattle.dr_config.specs.declared.entries.VolumeEntry.{VolumeEntry}
use Rattle.dr_ids.specs.declared.names.Member.{Member}
use Rattle.dr_volume.specs.View.{ids_of}
use Rattle.dr_flash.proofs.CopyLemmas.{ids-next}

-- the first of those that pass h, from a place of the table on
abbrev pub found_from : (ℕ → Bool) → (ℕ → Bool) → ConfigTable → ℕ → Option ℕ
found_from f h t place = find f (filter h (ids_of (drop place t.volumes)))

-- it is this one, or one of those behind it
pub found-next : (f h : ℕ → Bool) (t : ConfigTable) (place u : ℕ) → Some u ≡ option_map (λ (e : VolumeEntry). e.id) (slice_get t.volumes place) → found_from f h t place ≡ cond (h u && f u) (Some u) (found_from f h t (place + 1))
found-next f h t place u at =
    ap (λ ids. find f (filter h ids)) (ids-next t place u at) ∙ by (h u) (filter h (ids_of (drop (place + 1) t.volumes)))
  where
    by : (a : Bool) (rest : List ℕ) → find f (cond a (u ∷ rest) rest) ≡ cond (a && f u) (Some u) (find f rest)
    by true rest = refl
    by false rest = refl

pub found-none : (f h : ℕ → Bool) (t : ConfigTable) (place : ℕ) → length t.volumes ≤ place → found_from f h t place ≡ None
found-none f h t place all = ap (λ es. find f (filter h (ids_of es))) (drop_all place t.volumes all)

-- the first member that passes is at a place of the list
pub found-at : (p : Member → Bool) (ms : List Member) (m : Member) → find p ms ≡ Some m → (i : ℕ) × (slice_get ms i ≡ Some m)
found-at p [] m is = absurd cc
found-at p (x ∷ xs) m is = by (p x) (found-at p xs m) is
  where
    by : (b : Bool) → (find p xs ≡ Some m → (i : ℕ) × (slice_get xs i ≡ Some m)) → cond b (Some x) (find p xs) ≡ Some m → (i : ℕ) × (slice_get (x ∷ xs) i ≡ Some m)
    by true more is = (zero, is)
    by false more is = let e = more is in (suc e.0, e.1)
