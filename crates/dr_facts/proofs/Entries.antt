-- Lists of entries of which each comes to acts that are so, in worlds that are so, and ends a plan for reasons that are so.
use Rattle.std.proofs.Common.{ℕ, zero, suc, ◌≡◌, inl, inr, refl, Bool, true, false, cond, List, [], ◌∷◌, ◌++◌, map, Option, Some, None}
use Rattle.std.specs.List.{flat_map}
use Rattle.std.specs.Option.{option_or}
use Rattle.dr_model.specs.Groups.{In}
use Rattle.dr_ids.specs.declared.refusal.Refusal.{Refusal}
use Rattle.dr_ids.specs.declared.refusal.Refusal.TheVariants.{Stopped as StoppedIn}
use Rattle.dr_model.specs.Refusals.{stopped}
use Rattle.dr_model.specs.Control.{Control, World}
use Rattle.dr_model.specs.Moves.{Move}
use Rattle.dr_model.specs.Carry.{Act, Make, Drop, Turn, Next, Pass, Do, End, Entry, Outcome, act, continue, go, carry, carry_each, now, check}
use Rattle.dr_model.specs.Entries.{times, on_found, drop_unless, check_or_drop}
use Rattle.dr_model.specs.PairEntries.{end_if, refuse_if}
use Rattle.dr_model.specs.PlanParts.{Plan}
use Rattle.dr_model.specs.Carried.{finish, stop_place, begun, carried_out}

-- in any world, and for any reason
abbrev pub any_world : World → Type 0
any_world w = Unit {0}

abbrev pub any_reason : Refusal → Type 0
any_reason r = Unit {0}

-- what is asked of a reason, if there is one
abbrev pub WhyNot : (Refusal → Type 0) → Option Refusal → Type 0
WhyNot Why None = Unit {0}
WhyNot Why (Some r) = Why r

pub why-if : (Why : Refusal → Type 0) (b : Bool) (x y : Option Refusal) → WhyNot Why x → WhyNot Why y → WhyNot Why (cond b x y)
why-if Why true x y p q = p
why-if Why false x y p q = q

pub why-or : (Why : Refusal → Type 0) (x y : Option Refusal) → WhyNot Why x → WhyNot Why y → WhyNot Why (option_or x y)
why-or Why None y p q = q
why-or Why (Some r) y p q = p

pub why-any : (o : Option Refusal) → WhyNot any_reason o
why-any None = tt
why-any (Some r) = tt

pub why-wider : (Why Much : Refusal → Type 0) → ((r : Refusal) → Why r → Much r) → (o : Option Refusal) → WhyNot Why o → WhyNot Much o
why-wider Why Much wider None why = tt
why-wider Why Much wider (Some r) why = wider r why

-- `K` is what is known of the worlds in which entries come, `Ok` what is asked of the acts there, and `Why` of the refusals.
module _ (K : World → Type 0) (Ok : World → Act → Type 0) (Why : Refusal → Type 0) where
  -- what an entry comes to
  abbrev pub Fine : World → Next → Type 0
  Fine w Pass = Unit {0}
  Fine w (End r) = Why r
  Fine w (Do a) = Ok w a

  -- and what comes after it, where its plan goes on
  abbrev pub FineThen : World → Next → Type 0 → Type 0
  FineThen w Pass more = more
  FineThen w (End r) more = Why r
  FineThen w (Do a) more = Ok w a × more

  unfoldable pub AllFine : List Entry → Type 0
  AllFine [] = Unit {0}
  AllFine (d ∷ ds) = (w : World) → K w → FineThen w (d w.control) (AllFine ds)

  pub fine-none : AllFine []
  unfolding AllFine
  fine-none = tt

  fine-next : (w : World) (x : Next) (more : Type 0) → Fine w x → more → FineThen w x more
  fine-next w Pass more one rest = rest
  fine-next w (End r) more one rest = one
  fine-next w (Do a) more one rest = (one, rest)

  pub fine-then : (d : Entry) (ds : List Entry) → ((w : World) → K w → Fine w (d w.control)) → AllFine ds → AllFine (d ∷ ds)
  unfolding AllFine
  fine-then d ds one rest = λ w k. fine-next w (d w.control) (AllFine ds) (one w k) rest

  pub fine-one : (d : Entry) → ((w : World) → K w → Fine w (d w.control)) → AllFine (d ∷ [])
  fine-one d one = fine-then d [] one fine-none

  pub fine-now : (m : Move) (ds : List Entry) → ((w : World) → K w → Ok w (Make m)) → AllFine ds → AllFine (now m ∷ ds)
  fine-now m ds one rest = fine-then (now m) ds one rest

  fine-onto : (w : World) (x : Next) (first more : Type 0) → FineThen w x first → (first → more) → FineThen w x more
  fine-onto w Pass first more fine on = on fine
  fine-onto w (End r) first more fine on = fine
  fine-onto w (Do a) first more fine on = (fine.0, on fine.1)

  pub fine-append : (ds es : List Entry) → AllFine ds → AllFine es → AllFine (ds ++ es)
  unfolding AllFine
  fine-append [] es a b = b
  fine-append (d ∷ ds) es a b = λ w k. fine-onto w (d w.control) (AllFine ds) (AllFine (ds ++ es)) (a w k) (λ c. fine-append ds es c b)

  pub fine-times : (n : ℕ) (ds : List Entry) → AllFine ds → AllFine (times n ds)
  fine-times zero ds fine = fine-none
  fine-times (suc n) ds fine = fine-append ds (times n ds) fine (fine-times n ds fine)

  -- an entry for each of a list
  pub fine-each : {X : Type 0} (each : X → Entry) (xs : List X) → ((x : X) → In x xs → (w : World) → K w → Fine w (each x w.control)) → AllFine (map each xs)
  fine-each each [] one = fine-none
  fine-each each (x ∷ xs) one = fine-then (each x) _ (one x (inl refl)) (fine-each each xs (λ y h. one y (inr h)))

  pub fine-map : {X : Type 0} (each : X → Entry) (xs : List X) → ((x : X) (w : World) → K w → Fine w (each x w.control)) → AllFine (map each xs)
  fine-map each xs one = fine-each each xs (λ x h. one x)

  -- several entries for each of a list
  pub fine-flat : {X : Type 0} (each : X → List Entry) (xs : List X) → ((x : X) → In x xs → AllFine (each x)) → AllFine (flat_map each xs)
  fine-flat each [] one = fine-none
  fine-flat each (x ∷ xs) one = fine-append (each x) (flat_map each xs) (one x (inl refl)) (fine-flat each xs (λ y h. one y (inr h)))

  -- entries of which each comes whatever became of those before it
  abbrev pub EachFine : List Entry → Type 0
  EachFine [] = Unit {0}
  EachFine (d ∷ ds) = AllFine (d ∷ []) × EachFine ds

  -- ---- choices

  pub fine-choice : (b : Bool) (ds es : List Entry) → (b ≡ true → AllFine ds) → (b ≡ false → AllFine es) → AllFine (cond b ds es)
  fine-choice true ds es p q = p refl
  fine-choice false ds es p q = q refl

  pub fine-if : (w : World) (b : Bool) (x y : Next) → Fine w x → Fine w y → Fine w (cond b x y)
  fine-if w true x y p q = p
  fine-if w false x y p q = q

  -- an act that comes where its test passes
  pub fine-when : (w : World) (b : Bool) (a : Act) → (b ≡ true → Ok w a) → Fine w (cond b (Do a) Pass)
  fine-when w true a one = one refl
  fine-when w false a one = tt

  pub fine-found : (w : World) (o : Option ℕ) (d : ℕ → Entry) → ((t : ℕ) → Fine w (d t w.control)) → Fine w (on_found o d w.control)
  fine-found w None d one = tt
  fine-found w (Some t) d one = one t

  -- ---- checks, which only refuse

  -- after a check more is known
  pub fine-where : (ok : Control → Bool) (r : Refusal) (ds : List Entry) → Why r → ((w : World) → K w → ok w.control ≡ true → AllFine ds) → AllFine (check ok r ∷ ds)
  unfolding AllFine
  fine-where ok r ds why rest = λ w k. by w (ok w.control) (rest w k)
    where
      by : (w : World) (b : Bool) → (b ≡ true → AllFine ds) → FineThen w (cond b Pass (End r)) (AllFine ds)
      by w true rest = rest refl
      by w false rest = why

  pub fine-check : (ok : Control → Bool) (r : Refusal) (ds : List Entry) → Why r → AllFine ds → AllFine (check ok r ∷ ds)
  fine-check ok r ds why rest = fine-where ok r ds why (λ w k h. rest)

  pub fine-refuse : (reason : Control → Option Refusal) (ds : List Entry) → ((k : Control) → WhyNot Why (reason k)) → AllFine ds → AllFine (refuse_if reason ∷ ds)
  fine-refuse reason ds why rest = fine-then (refuse_if reason) ds (λ w k. by w (reason w.control) (why w.control)) rest
    where
      by : (w : World) (o : Option Refusal) → WhyNot Why o → Fine w (end_if o)
      by w None why = tt
      by w (Some r) why = why

  -- a check after which a host write is dropped
  pub fine-drop : (n : ℕ) (ok : Control → Bool) (r : Refusal) (ds : List Entry) → ((w : World) → K w → Ok w (Drop n)) → Why r → AllFine ds → AllFine (check_or_drop n ok r ++ ds)
  fine-drop n ok r ds drops why rest = fine-then (drop_unless n ok) _ (λ w k. fine-if w (ok w.control) Pass (Do (Drop n)) tt (drops w k)) (fine-check ok r ds why rest)

  -- ---- what acts keep however they end, such entries keep, and what follows a stop in them

  module _ (J : World → Type 0) (known : (w : World) → J w → K w) (keeps : (w : World) (a : Act) → Ok w a → J w → J (act w a).0) where
    turn-kept : (t : Turn) (next : World → Outcome) → J t.0 → ((v : World) → J v → J (next v).0) → J (continue t.0 t.1 next).0
    turn-kept (v, None) next k rest = rest v k
    turn-kept (v, Some s) next k rest = k

    next-kept : (w : World) (x : Next) (next : World → Outcome) (more : Type 0) → FineThen w x more → J w → (more → (v : World) → J v → J (next v).0) → J (go w x next).0
    next-kept w Pass next more fine j rest = rest fine w j
    next-kept w (End r) next more fine j rest = j
    next-kept w (Do a) next more fine j rest = turn-kept (act w a) next (keeps w a fine.0 j) (rest fine.1)

    pub carry-kept : (ds : List Entry) → AllFine ds → (w : World) → J w → J (carry w ds).0
    unfolding carry AllFine
    carry-kept [] fine w j = j
    carry-kept (d ∷ ds) fine w j = next-kept w (d w.control) (λ v. carry v ds) (AllFine ds) (fine w (known w j)) j (λ rest v i. carry-kept ds rest v i)

    pub each-kept : (ds : List Entry) → EachFine ds → (w : World) → J w → J (carry_each w ds)
    each-kept [] fine w j = j
    each-kept (d ∷ ds) fine w j = each-kept ds fine.1 (carry w (d ∷ [])).0 (carry-kept (d ∷ []) fine.0 w j)

    pub finish-kept : (p : Plan) (n : ℕ) (w : World) (r : Option Refusal) → ((s : ℕ) → EachFine (p.follows s)) → ((v : World) → J v → J (record v { control = p.last v.control })) → J w → J (finish p n w r)
    finish-kept p n w None follows last j = last w j
    finish-kept p n w (Some (StoppedIn s)) follows last j = each-kept (p.follows n) (follows n) w j
    finish-kept p n w (Some r) follows last j = j

    pub plan-kept : (w : World) (p : Plan) → J (begun w p) → AllFine p.entries → ((s : ℕ) → EachFine (p.follows s)) → ((v : World) → J v → J (record v { control = p.last v.control })) → J (carried_out w p).0
    plan-kept w p j entries follows last = finish-kept p (stop_place w p) (carry (begun w p) p.entries).0 (carry (begun w p) p.entries).1 follows last (carry-kept p.entries entries (begun w p) j)

  -- how such entries are refused, where nothing needs to be known of worlds: for no reason, by a stop, or for such a reason
  module _ (known : (w : World) → K w) (P : Option Refusal → Type 0) (well : P None) (stops : (s : ℕ) → P (Some (stopped s))) (ends : (r : Refusal) → Why r → P (Some r)) where
    pub next-ends : (w : World) (x : Next) (next : World → Outcome) (more : Type 0) → FineThen w x more → (more → (v : World) → P (next v).1) → P (go w x next).1
    next-ends w Pass next more fine rest = rest fine w
    next-ends w (End r) next more fine rest = ends r fine
    next-ends w (Do a) next more fine rest = by (act w a)
      where
        by : (t : Turn) → P (continue t.0 t.1 next).1
        by (v, None) = rest fine.1 v
        by (v, Some s) = stops s

    pub carry-ends : (ds : List Entry) → AllFine ds → (w : World) → P (carry w ds).1
    unfolding carry AllFine
    carry-ends [] fine w = well
    carry-ends (d ∷ ds) fine w = next-ends w (d w.control) (λ v. carry v ds) (AllFine ds) (fine w (known w)) (λ rest v. carry-ends ds rest v)

-- what holds of fewer acts and reasons, in more worlds
module _ (K J : World → Type 0) (Ok More : World → Act → Type 0) (Why Much : Refusal → Type 0) (known : (w : World) → J w → K w) (wider : (w : World) (a : Act) → J w → Ok w a → More w a) (reasons : (r : Refusal) → Why r → Much r) where
  next-wider : (w : World) (x : Next) (first more : Type 0) → J w → FineThen K Ok Why w x first → (first → more) → FineThen J More Much w x more
  next-wider w Pass first more j fine on = on fine
  next-wider w (End r) first more j fine on = reasons r fine
  next-wider w (Do a) first more j fine on = (wider w a j fine.0, on fine.1)

  pub fine-wider : (ds : List Entry) → AllFine K Ok Why ds → AllFine J More Much ds
  unfolding AllFine
  fine-wider [] fine = tt
  fine-wider (d ∷ ds) fine = λ w j. next-wider w (d w.control) (AllFine K Ok Why ds) (AllFine J More Much ds) j (fine w (known w j)) (λ rest. fine-wider ds rest)

  pub each-wider : (ds : List Entry) → EachFine K Ok Why ds → EachFine J More Much ds
  each-wider [] fine = tt
  each-wider (d ∷ ds) fine = (fine-wider (d ∷ []) fine.0, each-wider ds fine.1)

-- ---- entries from a world on: what comes before the first act is seen in that world, and refuses for reasons of its own

module _ (K : World → Type 0) (Ok : World → Act → Type 0) (First Why : Refusal → Type 0) where
  abbrev pub FromThen : World → Next → Type 0 → Type 0 → Type 0
  FromThen w Pass here later = here
  FromThen w (End r) here later = First r
  FromThen w (Do a) here later = Ok w a × later

  unfoldable pub FineFrom : World → List Entry → Type 0
  FineFrom w [] = Unit {0}
  FineFrom w (d ∷ ds) = FromThen w (d w.control) (FineFrom w ds) (AllFine K Ok Why ds)

  pub from-none : (w : World) → FineFrom w []
  unfolding FineFrom
  from-none w = tt

  pub from-check : (w : World) (ok : Control → Bool) (r : Refusal) (ds : List Entry) → First r → (ok w.control ≡ true → FineFrom w ds) → FineFrom w (check ok r ∷ ds)
  unfolding FineFrom
  from-check w ok r ds first rest = by (ok w.control) rest
    where
      by : (b : Bool) → (b ≡ true → FineFrom w ds) → FromThen w (cond b Pass (End r)) (FineFrom w ds) (AllFine K Ok Why ds)
      by true rest = rest refl
      by false rest = first

  pub from-refuse : (w : World) (reason : Control → Option Refusal) (ds : List Entry) → WhyNot First (reason w.control) → FineFrom w ds → FineFrom w (refuse_if reason ∷ ds)
  unfolding FineFrom
  from-refuse w reason ds first rest = by (reason w.control) first
    where
      by : (o : Option Refusal) → WhyNot First o → FromThen w (end_if o) (FineFrom w ds) (AllFine K Ok Why ds)
      by None first = rest
      by (Some r) first = first

  -- entries that are fine wherever they come
  pub from-all : ((r : Refusal) → Why r → First r) → (w : World) → K w → (ds : List Entry) → AllFine K Ok Why ds → FineFrom w ds
  unfolding FineFrom AllFine
  from-all reasons w k [] fine = tt
  from-all reasons w k (d ∷ ds) fine = by (d w.control) (from-all reasons w k ds) (fine w k)
    where
      by : (x : Next) → (AllFine K Ok Why ds → FineFrom w ds) → FineThen K Ok Why w x (AllFine K Ok Why ds) → FromThen w x (FineFrom w ds) (AllFine K Ok Why ds)
      by Pass on fine = on fine
      by (End r) on fine = reasons r fine
      by (Do a) on fine = fine

  module _ (J : World → Type 0) (known : (w : World) → J w → K w) (keeps : (w : World) (a : Act) → Ok w a → J w → J (act w a).0) where
    pub from-kept : (ds : List Entry) (w : World) → FineFrom w ds → J w → J (carry w ds).0
    unfolding carry FineFrom
    from-kept [] w fine j = j
    from-kept (d ∷ ds) w fine j = by (d w.control) (λ fine. from-kept ds w fine j) fine
      where
        by : (x : Next) → (FineFrom w ds → J (carry w ds).0) → FromThen w x (FineFrom w ds) (AllFine K Ok Why ds) → J (go w x (λ v. carry v ds)).0
        by Pass on fine = on fine
        by (End r) on fine = j
        by (Do a) on fine = turn-kept K Ok Why J known keeps (act w a) (λ v. carry v ds) (keeps w a fine.0 j) (λ v i. carry-kept K Ok Why J known keeps ds fine.1 v i)

    pub plan-from : (w : World) (p : Plan) → J (begun w p) → FineFrom (begun w p) p.entries → ((s : ℕ) → EachFine K Ok Why (p.follows s)) → ((v : World) → J v → J (record v { control = p.last v.control })) → J (carried_out w p).0
    plan-from w p j entries follows last =
        finish-kept K Ok Why J known keeps p (stop_place w p) (carry (begun w p) p.entries).0 (carry (begun w p) p.entries).1 follows last (from-kept p.entries (begun w p) entries j)

  -- how they are refused
  module _ (known : (w : World) → K w) (P : Option Refusal → Type 0) (well : P None) (stops : (s : ℕ) → P (Some (stopped s))) (early : (r : Refusal) → First r → P (Some r)) (ends : (r : Refusal) → Why r → P (Some r)) where
    pub from-ends : (ds : List Entry) (w : World) → FineFrom w ds → P (carry w ds).1
    unfolding carry FineFrom
    from-ends [] w fine = well
    from-ends (d ∷ ds) w fine = by (d w.control) (from-ends ds w) fine
      where
        by : (x : Next) → (FineFrom w ds → P (carry w ds).1) → FromThen w x (FineFrom w ds) (AllFine K Ok Why ds) → P (go w x (λ v. carry v ds)).1
        by Pass on fine = on fine
        by (End r) on fine = early r fine
        by (Do a) on fine = next-ends K Ok Why known P well stops ends w (Do a) (λ v. carry v ds) (AllFine K Ok Why ds) fine (λ rest v. carry-ends K Ok Why known P well stops ends ds rest v)

module _ (K J : World → Type 0) (Ok More : World → Act → Type 0) (Early First Why Much : Refusal → Type 0) (known : (w : World) → J w → K w) (wider : (w : World) (a : Act) → J w → Ok w a → More w a)
    (early : (r : Refusal) → Early r → First r) (reasons : (r : Refusal) → Why r → Much r) where
  pub from-wider : (ds : List Entry) (w : World) → J w → FineFrom K Ok Early Why w ds → FineFrom J More First Much w ds
  unfolding FineFrom
  from-wider [] w j fine = tt
  from-wider (d ∷ ds) w j fine = by (d w.control) (from-wider ds w j) fine
    where
      by : (x : Next) → (FineFrom K Ok Early Why w ds → FineFrom J More First Much w ds) → FromThen K Ok Early Why w x (FineFrom K Ok Early Why w ds) (AllFine K Ok Why ds) → FromThen J More First Much w x (FineFrom J More First Much w ds) (AllFine J More Much ds)
      by Pass on fine = on fine
      by (End r) on fine = early r fine
      by (Do a) on fine = (wider w a j fine.0, fine-wider K J Ok More Why Much known wider reasons ds fine.1)
