-- The rows of points, of a device write and of parts, one after another.
use Rattle.std.proofs.Common.{ℕ, ◌≡◌, ◌<◌, ◌⊎◌, inl, inr, List, [], ◌∷◌, ◌++◌, length, get_or, refl, ap, ◌∙◌, sym, subst, append_assoc, Bool, true, false}
use Rattle.std.proofs.lemmas.Bool.{cases_Bool}
use Rattle.std.proofs.lemmas.List.{append-nil}
use Rattle.std.proofs.lemmas.Option.{slice_get-get_or}
use Rattle.dr_listing.proofs.TakenLemmas.{in-at}
use Rattle.dr_plan.specs.declared.points.Point.{Point}
use Rattle.dr_plan.specs.declared.points.Point.TheVariants.{Cut, Gap}
use Rattle.dr_plan.specs.declared.points.Torn.{Torn}
use Rattle.dr_plan.specs.declared.points.Torn.TheVariants.{Unchanged, Zeros, Ones}
use Rattle.dr_plan.specs.Sweep.{Sweep}
use Rattle.dr_rows.specs.Outcome.{Outcome}
use Rattle.dr_model.specs.Groups.{In}
use Rattle.dr_sweep.specs.declared.parts.Part.{Part}
use Rattle.dr_sweep.specs.declared.parts.Part.TheVariants.{Between}
use Rattle.dr_sweep.specs.declared.fault.PointFault.{PointFault}
use Rattle.dr_sweep.specs.declared.fault.PointFault.TheVariants.{NoMemory, TooLong}
use Rattle.dr_sweep.specs.Comes.{PointTold, ComesTo, Stops, FailsAt}
use Rattle.dr_sweep.specs.Parts.{IsRowOf, AreRowsOf, AreRows, AreSwept, IsTriedTorn, FailsWrite, FailsIn, FailsAtPart, Adds, AddsIf, AddsWhereReached, AddsWrite, write_points, parts_of}
use Rattle.dr_sweep.specs.Reach.{is_own}
use Rattle.dr_sweep.specs.declared.reach.FirstStop.{FirstStop}
use Rattle.dr_sweep.specs.Rows.{IsRow}
use Rattle.dr_sweep.proofs.KnownLemmas.{known-so}

-- rows that are such, and then rows that are such, where both together are so
pub adds-then : (p q r : List Outcome → Type 0) (a b c : List Outcome) → ((xs ys : List Outcome) → p xs → q ys → r (xs ++ ys)) → Adds p a b → Adds q b c → Adds r a c
adds-then p q r a b c joined first second = record {
  more = first.more ++ second.more;
  cut = second.cut ∙ ap (λ (xs : List Outcome). xs ++ second.more) first.cut ∙ append_assoc a first.more second.more;
  are = joined first.more second.more first.are second.are;
}

-- rows that are such are otherwise, too
pub adds-as : (p q : List Outcome → Type 0) (a b : List Outcome) → ((xs : List Outcome) → p xs → q xs) → Adds p a b → Adds q a b
adds-as p q a b goes adds = record { more = adds.more; cut = adds.cut; are = goes adds.more adds.are }

-- none were added
pub adds-none : (p : List Outcome → Type 0) (a b : List Outcome) → b ≡ a → p [] → Adds p a b
adds-none p a b same none = record { more = []; cut = same ∙ sym (append-nil a); are = none }

-- all were
pub adds-all : (p : List Outcome → Type 0) (b : List Outcome) → Adds p [] b → p b
adds-all p b adds = subst p (sym adds.cut) adds.are

module _ (plan : Sweep) where
  -- rows of points, and those of points after them
  pub rows-append : (ps qs : List Point) (xs ys : List Outcome) → AreRowsOf plan ps xs → AreRowsOf plan qs ys → AreRowsOf plan (ps ++ qs) (xs ++ ys)
  rows-append [] qs xs ys are more = subst (λ (zs : List Outcome). AreRowsOf plan qs (zs ++ ys)) (sym are) more
  rows-append (p ∷ ps) qs xs ys (inl begins) more =
      inl (record {
        first = begins.first;
        rest = begins.rest ++ ys;
        cut = ap (λ (zs : List Outcome). zs ++ ys) begins.cut;
        point_is = begins.point_is;
        is = begins.is;
        others = rows-append ps qs begins.rest ys begins.others more;
      })
  rows-append (p ∷ ps) qs xs ys (inr (misses, others)) more = inr (misses, rows-append ps qs xs ys others more)

  -- the row of a point of whose run this was told was added
  pub told-adds : (p : Point) (told : PointTold) (row : Outcome) (a b : List Outcome) → ComesTo plan p told → IsRow plan p told row → b ≡ a ++ row ∷ [] → Adds (AreRowsOf plan (p ∷ [])) a b
  told-adds p told row a b comes is cut =
      let there : ComesTo plan row.point told = subst (λ (q : Point). ComesTo plan q told) (sym is.point_is) comes in
      let of : IsRowOf plan row = record { told = told; comes = there; is = subst (λ (q : Point). IsRow plan q told row) (sym is.point_is) is; known = known-so plan row.point told there plan.uses row.losses is.losses } in
      record { more = row ∷ []; cut = cut; are = inl (record { first = row; rest = []; cut = refl; point_is = is.point_is; is = of; others = refl }) }

  -- so it is if its server is the first to stop, and else none was
  pub adds-reached : (p : Point) (stop : FirstStop) (a b : List Outcome) → Stops plan p stop → is_own stop ≡ true → Adds (AreRowsOf plan (p ∷ [])) a b → AddsWhereReached plan p (p ∷ []) a b stop
  adds-reached p stop a b stops own adds = (stops, subst (λ (own : Bool). AddsIf own (AreRowsOf plan (p ∷ [])) a b) (sym own) adds)

  pub adds-missed : (p : Point) (points : List Point) (stop : FirstStop) (a b : List Outcome) → Stops plan p stop → is_own stop ≡ false → b ≡ a → AddsWhereReached plan p points a b stop
  adds-missed p points stop a b stops other same = (stops, subst (λ (own : Bool). AddsIf own (AreRowsOf plan points) a b) (sym other) same)

  pub was-reached : (p : Point) (points : List Point) (stop : FirstStop) (a b : List Outcome) → AddsWhereReached plan p points a b stop → is_own stop ≡ true → Adds (AreRowsOf plan points) a b
  was-reached p points stop a b adds own = subst (λ (own : Bool). AddsIf own (AreRowsOf plan points) a b) own adds.1

  pub was-missed : (p : Point) (points : List Point) (stop : FirstStop) (a b : List Outcome) → AddsWhereReached plan p points a b stop → is_own stop ≡ false → b ≡ a
  was-missed p points stop a b adds other = subst (λ (own : Bool). AddsIf own (AreRowsOf plan points) a b) other adds.1

  -- reached or not, its rows were
  pub adds-either : (p : Point) (stop : FirstStop) (a b : List Outcome) → AddsWhereReached plan p (p ∷ []) a b stop → Adds (AreRowsOf plan (p ∷ [])) a b
  adds-either p stop a b adds = by (cases_Bool (is_own stop))
    where
      by : (is_own stop ≡ true) ⊎ (is_own stop ≡ false) → Adds (AreRowsOf plan (p ∷ [])) a b
      by (inl own) = was-reached p (p ∷ []) stop a b adds own
      by (inr other) = adds-none (AreRowsOf plan (p ∷ [])) a b (was-missed p (p ∷ []) stop a b adds other) (inr ((stop, adds.0, other), refl))

  -- the rows of a device write
  pub adds-write : (d l x : ℕ) (ws : List ℕ) (p q r : Point) (a b c e : List Outcome) (first second third : FirstStop) → p ≡ Cut d l x Unchanged ws → q ≡ Cut d l x Zeros ws → r ≡ Cut d l x Ones ws → is_own first ≡ true
      → AddsWhereReached plan p (p ∷ []) a b first → AddsWhereReached plan q (q ∷ []) b c second → AddsWhereReached plan r (r ∷ []) c e third → AddsWrite plan d l x ws a e first
  adds-write d l x ws p q r a b c e first second third is_p is_q is_r own adds adds' adds'' =
      let two = adds-then (AreRowsOf plan (p ∷ [])) (AreRowsOf plan (q ∷ [])) (AreRowsOf plan (p ∷ q ∷ [])) a b c (rows-append (p ∷ []) (q ∷ [])) (adds-either p first a b adds) (adds-either q second b c adds') in
      let all = adds-then (AreRowsOf plan (p ∷ q ∷ [])) (AreRowsOf plan (r ∷ [])) (AreRowsOf plan (p ∷ q ∷ r ∷ [])) a c e (rows-append (p ∷ q ∷ []) (r ∷ [])) two (adds-either r third c e adds'') in
      let points : p ∷ q ∷ r ∷ [] ≡ write_points d l x ws = cc in
      let added : Adds (AreRowsOf plan (write_points d l x ws)) a e = subst (λ (ps : List Point). Adds (AreRowsOf plan ps) a e) points all in
      (subst (λ (o : Point). Stops plan o first) is_p adds.0, subst (λ (own : Bool). AddsIf own (AreRowsOf plan (write_points d l x ws)) a e) (sym own) added)

  -- none of them
  pub adds-no-write : (d l x : ℕ) (ws : List ℕ) (p : Point) (a b : List Outcome) (stop : FirstStop) → p ≡ Cut d l x Unchanged ws → is_own stop ≡ false → AddsWhereReached plan p (p ∷ []) a b stop → AddsWrite plan d l x ws a b stop
  adds-no-write d l x ws p a b stop is other adds =
      adds-missed (Cut d l x Unchanged ws) (write_points d l x ws) stop a b (subst (λ (o : Point). Stops plan o stop) is adds.0) other (was-missed p (p ∷ []) stop a b adds other)

  -- the rows of parts, and those of one part more
  pub swept-more : (part : Part) (parts : List Part) (rows more : List Outcome) → AreSwept plan parts rows → AreRows plan part more → AreSwept plan (parts ++ part ∷ []) (rows ++ more)
  swept-more part [] rows more are is = record { first = more; rest = []; cut = ap (λ (xs : List Outcome). xs ++ more) are ∙ sym (append-nil more); are = is; others = refl }
  swept-more part (p ∷ parts) rows more are is = record {
    first = are.first;
    rest = are.rest ++ more;
    cut = ap (λ (xs : List Outcome). xs ++ more) are.cut ∙ append_assoc are.first are.rest more;
    are = are.are;
    others = swept-more part parts are.rest more are.others is;
  }

-- ---- what fails

-- the part at a place
pub part-at : (parts : List Part) (i : ℕ) (d : Part) → i < length parts → In (get_or parts i d) parts
part-at parts i d low = in-at parts i (get_or parts i d) (slice_get-get_or parts i d low)

-- a point of a device write has none
pub write-fails : (plan : Sweep) (d l x : ℕ) (ws : List ℕ) (torn : Torn) (p : Point) (fault : PointFault) → p ≡ Cut d l x torn ws → IsTriedTorn plan d l x ws torn → FailsAt plan p fault → FailsWrite plan d l x ws fault
write-fails plan d l x ws torn p fault is here fails = record { torn = torn; here = here; fails = subst (λ (q : Point). FailsAt plan q fault) is fails }

-- the point of a gap has none
pub between-fails : (plan : Sweep) (d l : ℕ) (fault : PointFault) → FailsAt plan (Gap d l) fault → FailsIn plan (Between d l) fault
between-fails plan d l NoMemory fails = tt
between-fails plan d l TooLong fails = record { point = Gap d l; tried = refl; fails = fails }

-- a plan fails at one of its parts
pub part-fails : (plan : Sweep) (part : Part) (fault : PointFault) → In part (parts_of plan) → FailsIn plan part fault → FailsAtPart plan fault
part-fails plan part NoMemory among fails = tt
part-fails plan part TooLong among fails = record { part = part; among = among; fails = fails }
