-- The parts of a plan, and that each of their points has a script.
use Rattle.std.proofs.Common.{ℕ, zero, suc, ◌≡◌, ◌<◌, ◌≤◌, ◌+◌, ◌⊎◌, inl, inr, List, [], ◌∷◌, length, refl, ap, ◌∙◌, sym, subst, arith, Option}
use Rattle.std.specs.Prelude.{IsSome}
use Rattle.std.specs.List.{flat_map, range_with_len}
use Rattle.std.specs.Option.{option_map_or, unwrap_or}
use Rattle.std.proofs.lemmas.Option.{get_or_from_slice_get}
use Rattle.std.proofs.lemmas.Bool.{le-leb}
use Rattle.dr_config.proofs.Lists.{element-at}
use Rattle.dr_facts.proofs.Lists.{in-first, in-second, in-joined, from-map, to-map}
use Rattle.dr_lost.proofs.SetLemmas.{from-flat, range-below, range-in}
use Rattle.dr_model.specs.Groups.{In}
use Rattle.dr_model.specs.declared.step.Name.{Name}
use Rattle.dr_plan.specs.declared.points.Point.TheVariants.{Cut, Gap}
use Rattle.dr_plan.specs.declared.points.Torn.{Torn}
use Rattle.dr_plan.specs.Points.{script_of, lines_at}
use Rattle.dr_plan.specs.Parts.{IsSweep}
use Rattle.dr_plan.specs.Sweep.{Sweep, most_servers}
use Rattle.dr_sweep.specs.declared.parts.Part.{Part}
use Rattle.dr_sweep.specs.declared.parts.Part.TheVariants.{Between, Within}
use Rattle.dr_sweep.specs.Comes.{servers_at, servers_lost}
use Rattle.dr_sweep.specs.Parts.{IsOf, server_parts, step_parts, disaster_parts, parts_of}

in_flat : {X Y : Type 0} (f : X → List Y) (xs : List X) (x : X) (y : Y) → In x xs → In y (f x) → In y (flat_map f xs)
in_flat f [] x y h k = absurd h
in_flat f (z ∷ xs) x y (inl is) k = in-first (f z) (flat_map f xs) y (subst (λ v. In y (f v)) is k)
in_flat f (z ∷ xs) x y (inr more) k = in-second (f z) (flat_map f xs) y (in_flat f xs x y more k)

module _ (plan : Sweep) where
  in-servers : (d l servers : ℕ) (part : Part) → d < length plan.loses → l < length plan.tried → servers ≡ servers_lost plan d → In part (server_parts d l servers) → IsOf plan part
  in-servers d l servers part low within is h =
      let image = from-map (λ x. Within d l x) (range_with_len 0 servers) part h in
      let below = range-below servers 0 image.from image.here in
      subst (λ (p : Part). IsOf plan p) (sym image.is) (low, within, (let lt = below in omega (arith, lt, is)))

  in-line : (d l : ℕ) (part : Part) → d < length plan.loses → l < length plan.tried → In part (step_parts plan d l) → IsOf plan part
  in-line d l part low within h = by (in-joined (server_parts d l (servers_lost plan d)) (Between d (l + 1) ∷ []) part h)
    where
      by : In part (server_parts d l (servers_lost plan d)) ⊎ In part (Between d (l + 1) ∷ []) → IsOf plan part
      by (inl server) = in-servers d l (servers_lost plan d) part low within refl server
      by (inr (inl is)) = subst (λ (p : Part). IsOf plan p) (sym is) (low, omega (arith, within))
      by (inr (inr none)) = absurd none

  in-disaster : (d : ℕ) (part : Part) → d < length plan.loses → In part (disaster_parts plan d) → IsOf plan part
  in-disaster d part low (inl is) = subst (λ (p : Part). IsOf plan p) (sym is) (low, omega arith)
  in-disaster d part low (inr later) =
      let line = from-flat (step_parts plan d) (range_with_len 0 (length plan.tried)) part later in
      let below = range-below (length plan.tried) 0 line.0 line.1.0 in
      in-line d line.0 part low (omega (arith, below)) line.1.1

  -- each part of a plan is of it
  pub in-parts : (part : Part) → In part (parts_of plan) → IsOf plan part
  in-parts part h =
      let disaster = from-flat (disaster_parts plan) (range_with_len 0 (length plan.loses)) part h in
      let below = range-below (length plan.loses) 0 disaster.0 disaster.1.0 in
      in-disaster disaster.0 part (omega (arith, below)) disaster.1.1

  of_line : (d l : ℕ) (part : Part) → d < length plan.loses → l < length plan.tried → In part (step_parts plan d l) → In part (parts_of plan)
  of_line d l part low within h =
      in_flat (disaster_parts plan) (range_with_len 0 (length plan.loses)) d part (range-in (length plan.loses) 0 d (omega arith) (omega (arith, low)))
      (inr (in_flat (step_parts plan d) (range_with_len 0 (length plan.tried)) l part (range-in (length plan.tried) 0 l (omega arith) (omega (arith, within))) h))

  -- and each that is of it is one of its parts
  pub of-parts : (part : Part) → IsOf plan part → In part (parts_of plan)
  of-parts (Between d zero) is = in_flat (disaster_parts plan) (range_with_len 0 (length plan.loses)) d (Between d 0) (range-in (length plan.loses) 0 d (omega arith) (let low = is.0 in omega (arith, low))) (inl refl)
  of-parts (Between d (suc l)) is =
      let after : Between d (suc l) ≡ Between d (l + 1) = ap (λ n. Between d n) (omega arith) in
      of_line d l (Between d (suc l)) is.0 (let within = is.1 in omega (arith, within)) (in-second (server_parts d l (servers_lost plan d)) (Between d (l + 1) ∷ []) (Between d (suc l)) (inl after))
  of-parts (Within d l x) is =
      of_line d l (Within d l x) is.0 is.1
      (in-first (server_parts d l (servers_lost plan d)) (Between d (l + 1) ∷ []) (Within d l x) (to-map (λ x. Within d l x) (range_with_len 0 (servers_lost plan d)) x (range-in (servers_lost plan d) 0 x (omega arith) (let low = is.2 in omega (arith, low)))))

  -- the script of a gap
  pub gap-script : (d l : ℕ) → IsOf plan (Between d l) → IsSome (script_of plan (Gap d l))
  unfolding lines_at
  gap-script d l is =
      let lost = element-at plan.loses d is.0 in
      let low = le-leb l (length plan.tried) is.1 in
      rw (lost.1, low) refl

  -- the script of a device write
  pub cut-script : (d l x : ℕ) (torn : Torn) (writes : List ℕ) → IsOf plan (Within d l x) → IsSome (script_of plan (Cut d l x torn writes))
  unfolding lines_at
  cut-script d l x torn writes is =
      let lost = element-at plan.loses d is.0 in
      let count : servers_lost plan d ≡ length lost.0 = ap (λ (names : Option (List Name)). option_map_or length names 0) lost.1 in
      let server = element-at lost.0 x (let lt = is.2 in omega (arith, lt, count)) in
      let line = element-at plan.tried l is.1 in
      rw (lost.1, server.1, line.1) refl

  -- a server of a disaster stands at one of eight places
  pub few-servers : IsSweep plan → (d l x : ℕ) → IsOf plan (Within d l x) → servers_lost plan d ≤ most_servers
  few-servers sweep d l x is =
      let lost = element-at plan.loses d is.0 in
      let count : servers_lost plan d ≡ length lost.0 = ap (λ (names : Option (List Name)). option_map_or length names 0) lost.1 in
      let few : length lost.0 ≤ most_servers = subst (λ (names : List Name). length names ≤ most_servers) (get_or_from_slice_get plan.loses d lost.0 [] lost.1) (sweep.few_servers d [] is.0) in
      omega (arith, count, few)

  -- the servers that are lost at a device write
  pub lost-there : (d l x : ℕ) (torn : Torn) (writes : List ℕ) → IsOf plan (Within d l x) → length (servers_at plan (Cut d l x torn writes)) ≡ servers_lost plan d
  lost-there d l x torn writes is =
      let lost = element-at plan.loses d is.0 in
      ap (λ (names : Option (List Name)). length (unwrap_or names [])) lost.1 ∙ sym (ap (λ (names : Option (List Name)). option_map_or length names 0) lost.1)
