-- What the map of paths holds is what the list of paths says: look-ups, a path that is put, and one that is taken.
use Rattle.std.proofs.Common.{◌≡◌, ℕ, Bool, true, false, not, cond, ◌&&◌, List, [], ◌∷◌, ◌++◌, map, filter, Option, Some, None, is_some, option_map, refl, sym, ◌∙◌, ap, subst, eqb}
use Rattle.std.specs.List.{find, IsDistinct, AllByRecursion}
use Rattle.std.specs.Map.{keys_of, lookup, remove_entry}
use Rattle.std.proofs.lemmas.Option.{none-some}
use Rattle.std.proofs.lemmas.Bool.Decides.{Decides-eqb}
use Rattle.std.proofs.lemmas.Bool.{and_parts}
use Rattle.indexmap.specs.IndexMap.{insert_entry}
use Rattle.dr_ids.specs.Paths.{Path, joins_lss, path_in, with_path, without_path}
use Rattle.dr_config.specs.declared.paths.Ends.{Ends}
use Rattle.dr_config.specs.Kept.{path_of, paths_of}
use Rattle.dr_config.proofs.KeyLaws.{eqb-turned}

abbrev pub PathEntries : Type 0
PathEntries = List (Ends × Bool)

-- the keys of the map, and when two are one
abbrev pub ends : ℕ → ℕ → Ends
ends s t = record { src = s; tgt = t }

abbrev pub same_ends : Ends → Ends → Bool
same_ends a b = eqb a.src b.src && eqb a.tgt b.tgt

joined : (s t : ℕ) (e : Ends × Bool) → joins_lss s t (path_of e) ≡ same_ends (ends s t) e.0
joined s t e = λ i. eqb-turned e.0.src s i && eqb-turned e.0.tgt t i

ends-same : (s t : ℕ) (x : Ends) → same_ends (ends s t) x ≡ true → x ≡ ends s t
ends-same s t x h =
    let parts = and_parts (eqb s x.src) (eqb t x.tgt) h in
    let src : x.src ≡ s = sym ((Decides-eqb s x.src).0 parts.0) in
    let tgt : x.tgt ≡ t = sym ((Decides-eqb t x.tgt).0 parts.1) in
    λ i. record { src = src i; tgt = tgt i }

-- ---- look-ups

picked : (b : Bool) (p : Path) (o : Option Path) → cond b (Some p.group) (option_map (λ (q : Path). q.group) o) ≡ option_map (λ (q : Path). q.group) (cond b (Some p) o)
picked true p o = refl
picked false p o = refl

-- the value at a path's ends is its flag
pub lookup-path : (s t : ℕ) (es : PathEntries) → lookup (same_ends (ends s t)) es ≡ path_in (paths_of es) s t
lookup-path s t [] = refl
lookup-path s t (e ∷ es) =
    (λ i. cond (sym (joined s t e) i) (Some e.1) (lookup-path s t es i)) ∙ picked (joins_lss s t (path_of e)) (path_of e) (find (joins_lss s t) (paths_of es))

-- ---- a path that is put

abbrev flagged : ℕ → ℕ → Bool → List Path → List Path
flagged s t g ps = map (λ (p : Path). cond (joins_lss s t p) (record p { group = g }) p) ps

none-flagged : (s t : ℕ) (g : Bool) (es : PathEntries) → AllByRecursion (λ (x : Ends). same_ends (ends s t) x ≡ false) (keys_of es) → flagged s t g (paths_of es) ≡ paths_of es
none-flagged s t g [] none = refl
none-flagged s t g (e ∷ es) none =
    λ i. cond ((joined s t e ∙ none.0) i) (record (path_of e) { group = g }) (path_of e) ∷ none-flagged s t g es none.1 i

first-kept : (b : Bool) (p : Path) (xs ys : List Path) → p ∷ cond b xs ys ≡ cond b (p ∷ xs) (p ∷ ys)
first-kept true p xs ys = refl
first-kept false p xs ys = refl

-- the flag is put at the ends, where no two paths have the same
pub path-put : (s t : ℕ) (g : Bool) (es : PathEntries) → IsDistinct same_ends (keys_of (insert_entry same_ends es (ends s t) g)) → paths_of (insert_entry same_ends es (ends s t) g) ≡ with_path (paths_of es) s t g
unfolding IsDistinct
path-put s t g [] distinct = refl
path-put s t g (e ∷ es) distinct = by (same_ends (ends s t) e.0) refl (path-put s t g es)
  where
    put : Bool → PathEntries
    put b = cond b ((e.0, g) ∷ es) (e ∷ insert_entry same_ends es (ends s t) g)

    told : Bool → List Path
    told b =
        cond (is_some (option_map (λ (q : Path). q.group) (cond b (Some (path_of e)) (find (joins_lss s t) (paths_of es)))))
        (cond b (record (path_of e) { group = g }) (path_of e) ∷ flagged s t g (paths_of es))
        (path_of e ∷ (paths_of es ++ (record { src = s; tgt = t; group = g }) ∷ []))

    Rest : Type 0
    Rest =
        IsDistinct same_ends (keys_of (insert_entry same_ends es (ends s t) g))
        → paths_of (insert_entry same_ends es (ends s t) g) ≡ with_path (paths_of es) s t g

    by : (b : Bool) → same_ends (ends s t) e.0 ≡ b → Rest → paths_of (put (same_ends (ends s t) e.0)) ≡ told (joins_lss s t (path_of e))
    by true p rest =
        let kept : IsDistinct same_ends (e.0 ∷ keys_of es) = subst (λ b. IsDistinct same_ends (keys_of (put b))) p distinct in
        let others = subst (λ (x : Ends). AllByRecursion (λ (y : Ends). same_ends x y ≡ false) (keys_of es)) (ends-same s t e.0 p) kept.0 in
        ap (λ b. paths_of (put b)) p
        ∙ (ap (λ ps. path_of (e.0, g) ∷ ps) (sym (none-flagged s t g es others)) ∙ sym (ap told (joined s t e ∙ p)))
    by false p rest =
        let kept : IsDistinct same_ends (e.0 ∷ keys_of (insert_entry same_ends es (ends s t) g)) = subst (λ b. IsDistinct same_ends (keys_of (put b))) p distinct in
        ap (λ b. paths_of (put b)) p
        ∙ (ap (λ ps. path_of e ∷ ps) (rest kept.1)
        ∙ (first-kept (is_some (path_in (paths_of es) s t)) (path_of e) (flagged s t g (paths_of es)) (paths_of es ++ (record { src = s; tgt = t; group = g }) ∷ [])
        ∙ sym (ap told (joined s t e ∙ p))))

-- ---- a path that is taken

abbrev others_than : ℕ → ℕ → List Path → List Path
others_than s t ps = filter (λ (p : Path). not (joins_lss s t p)) ps

none-taken : (s t : ℕ) (es : PathEntries) → lookup (same_ends (ends s t)) es ≡ None → others_than s t (paths_of es) ≡ paths_of es
none-taken s t [] none = refl
none-taken s t (e ∷ es) none = by (same_ends (ends s t) e.0) refl (none-taken s t es)
  where
    found : Bool → Option Bool
    found b = cond b (Some e.1) (lookup (same_ends (ends s t)) es)

    Rest : Type 0
    Rest = lookup (same_ends (ends s t)) es ≡ None → others_than s t (paths_of es) ≡ paths_of es

    by : (b : Bool) → same_ends (ends s t) e.0 ≡ b → Rest → others_than s t (path_of e ∷ paths_of es) ≡ path_of e ∷ paths_of es
    by true p again = absurd (none-some e.1 (sym none ∙ ap found p))
    by false p again =
        let rest : others_than s t (paths_of es) ≡ paths_of es = again (sym (ap found p) ∙ none) in
        λ i. cond (not ((joined s t e ∙ p) i)) (path_of e ∷ rest i) (rest i)

-- the path is out, where none with these ends is left
pub path-taken : (s t : ℕ) (es : PathEntries) → lookup (same_ends (ends s t)) (remove_entry (same_ends (ends s t)) es) ≡ None → paths_of (remove_entry (same_ends (ends s t)) es) ≡ without_path (paths_of es) s t
path-taken s t [] none = refl
path-taken s t (e ∷ es) none = by (same_ends (ends s t) e.0) refl (path-taken s t es)
  where
    left : Bool → PathEntries
    left b = cond b es (e ∷ remove_entry (same_ends (ends s t)) es)

    found : Bool → Option Bool
    found b = cond b (Some e.1) (lookup (same_ends (ends s t)) (remove_entry (same_ends (ends s t)) es))

    told : Bool → List Path
    told b = cond (not b) (path_of e ∷ others_than s t (paths_of es)) (others_than s t (paths_of es))

    Rest : Type 0
    Rest =
        lookup (same_ends (ends s t)) (remove_entry (same_ends (ends s t)) es) ≡ None
        → paths_of (remove_entry (same_ends (ends s t)) es) ≡ without_path (paths_of es) s t

    by : (b : Bool) → same_ends (ends s t) e.0 ≡ b → Rest → paths_of (left (same_ends (ends s t) e.0)) ≡ told (joins_lss s t (path_of e))
    by true p rest =
        let gone : lookup (same_ends (ends s t)) es ≡ None = sym (ap (λ b. lookup (same_ends (ends s t)) (left b)) p) ∙ none in
        ap (λ b. paths_of (left b)) p ∙ (sym (none-taken s t es gone) ∙ sym (ap told (joined s t e ∙ p)))
    by false p rest =
        let gone = sym (ap found p) ∙ (sym (ap (λ b. lookup (same_ends (ends s t)) (left b)) p) ∙ none) in
        ap (λ b. paths_of (left b)) p
        ∙ (ap (λ ps. path_of e ∷ ps) (rest gone) ∙ sym (ap told (joined s t e ∙ p)))
