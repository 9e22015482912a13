-- Where each act of a plan comes as it may, the members stand in a way at each of its moments, and where it ends.
use Rattle.std.proofs.Common.{ℕ, ◌≡◌, inl, inr, refl, sym, subst, Bool, true, false, cond, List, [], ◌∷◌, Option, Some, None}
use Rattle.dr_ids.specs.declared.refusal.Refusal.{Refusal}
use Rattle.dr_ids.specs.declared.refusal.Refusal.TheVariants.{Stopped as StoppedIn}
use Rattle.dr_model.specs.Control.{Control, World}
use Rattle.dr_model.specs.Sessions.{Session}
use Rattle.dr_model.specs.Groups.{In}
use Rattle.dr_model.specs.Carry.{Act, Next, Pass, Do, End, Entry, Outcome, Turn, act, carry, carry_each, continue, go, check}
use Rattle.dr_model.specs.PairEntries.{end_if, refuse_if}
use Rattle.dr_model.specs.PlanParts.{Plan}
use Rattle.dr_model.specs.Carried.{begun, finish, carried_out, stop_place}
use Rattle.dr_facts.proofs.Entries.{any_world, any_reason, AllFine, FineThen, FineFrom, FromThen, EachFine}
use Rattle.dr_facts.proofs.Lists.{in-joined}
use Rattle.dr_laws_freezes.specs.Moments.{worlds, worlds_each, worlds_after, on_next, on_from, plan_moments}
use Rattle.dr_laws_progress.proofs.PairMoves.{Ways, Stand, FairAct, act-stands}

-- the members that there are stand in a way
abbrev pub WaysIn : World → Type 0
WaysIn w = Ways w.control.sessions w.control.volume

pub stand-ways : (ss : List Session) (w : World) → Stand ss w → WaysIn w
stand-ways ss w s y q i in_y = let o = s.among y q i in_y in s.ways o.session q o.listed o.here

pub ways-stand : (w : World) → WaysIn w → Stand w.control.sessions w
ways-stand w ways = record { among = λ y q i in_y. record { session = y; listed = i; here = in_y }; ways = ways }

module _ (ss : List Session) where
  -- Each act of these entries comes as it may. What comes after an act is said of the world that the act led to.
  abbrev GoesNext : World → Next → (World → Type 0) → Type 0
  GoesNext w Pass more = more w
  GoesNext w (End r) more = Unit {0}
  GoesNext w (Do a) more = FairAct ss w a × ((u : World) → Stand ss u → (act w a).0 ≡ u → more u)

  unfoldable pub Goes : World → List Entry → Type 0
  Goes w [] = Unit {0}
  Goes w (d ∷ ds) = GoesNext w (d w.control) (λ u. Goes u ds)

  pub goes-none : (w : World) → Goes w []
  unfolding Goes
  goes-none w = tt

  pub goes-check : (w : World) (ok : Control → Bool) (r : Refusal) (ds : List Entry) → (ok w.control ≡ true → Goes w ds) → Goes w (check ok r ∷ ds)
  unfolding Goes
  goes-check w ok r ds rest = by (ok w.control) rest
    where
      by : (b : Bool) → (b ≡ true → Goes w ds) → GoesNext w (cond b Pass (End r)) (λ u. Goes u ds)
      by true rest = rest refl
      by false rest = tt

  pub goes-refuse : (w : World) (why : Control → Option Refusal) (ds : List Entry) → (why w.control ≡ None → Goes w ds) → Goes w (refuse_if why ∷ ds)
  unfolding Goes
  goes-refuse w why ds rest = by (why w.control) rest
    where
      by : (o : Option Refusal) → (o ≡ None → Goes w ds) → GoesNext w (end_if o) (λ u. Goes u ds)
      by None rest = rest refl
      by (Some r) rest = tt

  -- an entry that comes to an act, and one that may
  pub goes-does : (w : World) (d : Entry) (a : Act) (ds : List Entry) → d w.control ≡ Do a → FairAct ss w a → ((u : World) → Stand ss u → (act w a).0 ≡ u → Goes u ds) → Goes w (d ∷ ds)
  unfolding Goes
  goes-does w d a ds is fair rest = subst (λ x. GoesNext w x (λ u. Goes u ds)) (sym is) (fair, rest)

  pub goes-may : (w : World) (d : Entry) (a : Act) (b : Bool) → d w.control ≡ cond b (Do a) Pass → (b ≡ true → FairAct ss w a) → Goes w (d ∷ [])
  unfolding Goes
  goes-may w d a b is fair = subst (λ x. GoesNext w x (λ u. Goes u [])) (sym is) (by b fair)
    where
      by : (b : Bool) → (b ≡ true → FairAct ss w a) → GoesNext w (cond b (Do a) Pass) (λ u. Goes u [])
      by true fair = (fair refl, λ u s e. tt)
      by false fair = tt

  -- entries whose acts come so wherever they do
  module _ (Ok : World → Act → Type 0) (First Why : Refusal → Type 0) (fair : (w : World) (a : Act) → Ok w a → Stand ss w → FairAct ss w a) where
    pub all-goes : (ds : List Entry) → AllFine any_world Ok Why ds → (w : World) → Stand ss w → Goes w ds
    unfolding AllFine Goes
    all-goes [] fine w s = tt
    all-goes (d ∷ ds) fine w s = by (d w.control) (fine w tt) (λ rest u z. all-goes ds rest u z)
      where
        by : (x : Next) → FineThen any_world Ok Why w x (AllFine any_world Ok Why ds) → (AllFine any_world Ok Why ds → (u : World) → Stand ss u → Goes u ds) → GoesNext w x (λ u. Goes u ds)
        by Pass fine on = on fine w s
        by (End r) fine on = tt
        by (Do a) fine on = (fair w a fine.0 s, λ u z e. on fine.1 u z)

    pub from-goes : (ds : List Entry) (w : World) → FineFrom any_world Ok First Why w ds → Stand ss w → Goes w ds
    unfolding FineFrom Goes
    from-goes [] w fine s = tt
    from-goes (d ∷ ds) w fine s = by (d w.control) fine (λ rest. from-goes ds w rest s) (λ rest u z. all-goes ds rest u z)
      where
        by : (x : Next) → FromThen any_world Ok First Why w x (FineFrom any_world Ok First Why w ds) (AllFine any_world Ok Why ds) → (FineFrom any_world Ok First Why w ds → Goes w ds) → (AllFine any_world Ok Why ds → (u : World) → Stand ss u → Goes u ds) → GoesNext w x (λ u. Goes u ds)
        by Pass fine here later = here fine
        by (End r) fine here later = tt
        by (Do a) fine here later = (fair w a fine.0 s, λ u z e. later fine.1 u z)

  -- ---- the worlds that such entries come to

  act-world : (w : World) (a : Act) → Stand ss w → FairAct ss w a → Stand ss (act w a).0
  act-world w a s fair = act-stands ss w s a fair

  pub worlds-stand : (ds : List Entry) (w : World) → Stand ss w → Goes w ds → (u : World) → In u (worlds w ds) → Stand ss u
  unfolding worlds Goes
  worlds-stand [] w s g u here = absurd here
  worlds-stand (d ∷ ds) w s g u here = by (d w.control) g here (λ v z g h. worlds-stand ds v z g u h)
    where
      turned : (t : Turn) → Stand ss t.0 → ((v : World) → t.0 ≡ v → Goes v ds) → In u (on_from t.0 t.1 (λ v. worlds v ds)) → ((v : World) → Stand ss v → Goes v ds → In u (worlds v ds) → Stand ss u) → Stand ss u
      turned (v, None) z more (inl is) on = subst (Stand ss) (sym is) z
      turned (v, None) z more (inr h) on = on v z (more v refl) h
      turned (v, Some s) z more (inl is) on = subst (Stand ss) (sym is) z
      turned (v, Some s) z more (inr h) on = absurd h

      by : (x : Next) → GoesNext w x (λ u. Goes u ds) → In u (on_next w x (λ v. worlds v ds)) → ((v : World) → Stand ss v → Goes v ds → In u (worlds v ds) → Stand ss u) → Stand ss u
      by Pass g h on = on w s g h
      by (End r) g h on = absurd h
      by (Do a) g h on = let z = act-world w a s g.0 in turned (act w a) z (λ v e. g.1 v (subst (Stand ss) e z) e) h on

  pub carry-stands : (ds : List Entry) (w : World) → Stand ss w → Goes w ds → Stand ss (carry w ds).0
  unfolding carry Goes
  carry-stands [] w s g = s
  carry-stands (d ∷ ds) w s g = by (d w.control) g (λ v z g. carry-stands ds v z g)
    where
      turned : (t : Turn) → Stand ss t.0 → ((v : World) → t.0 ≡ v → Goes v ds) → ((v : World) → Stand ss v → Goes v ds → Stand ss (carry v ds).0) → Stand ss (continue t.0 t.1 (λ v. carry v ds)).0
      turned (v, None) z more on = on v z (more v refl)
      turned (v, Some s) z more on = z

      by : (x : Next) → GoesNext w x (λ u. Goes u ds) → ((v : World) → Stand ss v → Goes v ds → Stand ss (carry v ds).0) → Stand ss (go w x (λ v. carry v ds)).0
      by Pass g on = on w s g
      by (End r) g on = s
      by (Do a) g on = let z = act-world w a s g.0 in turned (act w a) z (λ v e. g.1 v (subst (Stand ss) e z) e) on

  -- those that follow a stop
  abbrev pub EachGoes : List Entry → Type 0
  EachGoes [] = Unit {0}
  EachGoes (d ∷ ds) = ((w : World) → Stand ss w → Goes w (d ∷ [])) × EachGoes ds

  each-stand : (ds : List Entry) → EachGoes ds → (w : World) → Stand ss w → (u : World) → In u (worlds_each w ds) → Stand ss u
  unfolding worlds_each
  each-stand [] g w s u here = absurd here
  each-stand (d ∷ ds) g w s u here = elim (in-joined (worlds w (d ∷ [])) (worlds_each (carry w (d ∷ [])).0 ds) u here) [
    | inl h ↦ worlds-stand (d ∷ []) w s (g.0 w s) u h
    | inr h ↦ each-stand ds g.1 (carry w (d ∷ [])).0 (carry-stands (d ∷ []) w s (g.0 w s)) u h
  ]

  pub each-ends : (ds : List Entry) → EachGoes ds → (w : World) → Stand ss w → Stand ss (carry_each w ds)
  each-ends [] g w s = s
  each-ends (d ∷ ds) g w s = each-ends ds g.1 (carry w (d ∷ [])).0 (carry-stands (d ∷ []) w s (g.0 w s))

  pub each-fine : (Ok : World → Act → Type 0) (Why : Refusal → Type 0) → ((w : World) (a : Act) → Ok w a → Stand ss w → FairAct ss w a) → (ds : List Entry) → EachFine any_world Ok Why ds → EachGoes ds
  each-fine Ok Why fair [] fine = tt
  each-fine Ok Why fair (d ∷ ds) fine = (λ w s. all-goes Ok any_reason Why fair (d ∷ []) fine.0 w s, each-fine Ok Why fair ds fine.1)

-- ---- plans

-- at each moment of a plan the members that there are stand in a way, and where it ends
pub record PlanStands (w : World) (p : Plan) : Type 0 where
  pub moments : (u : World) → In u (plan_moments w p) → WaysIn u
  pub ends : WaysIn (carried_out w p).0

module _ (ss : List Session) (w : World) (p : Plan) (begins : Stand ss (begun w p)) (entries : Goes ss (begun w p) p.entries) (follows : (n : ℕ) → EachGoes ss (p.follows n))
    (last : (v : World) → Stand ss v → WaysIn (record v { control = p.last v.control })) where
  after-ways : (o : Outcome) → Stand ss o.0 → (n : ℕ) (u : World) → In u (worlds_after o.0 o.1 (p.follows n)) → WaysIn u
  after-ways (v, Some (StoppedIn s)) z n u here = stand-ways ss u (each-stand ss (p.follows n) (follows n) v z u here)
  after-ways (v, Some r) z n u here = absurd here
  after-ways (v, None) z n u here = absurd here

  end-ways : (o : Outcome) → Stand ss o.0 → (n : ℕ) → WaysIn (finish p n o.0 o.1)
  end-ways (v, None) z n = last v z
  end-ways (v, Some (StoppedIn s)) z n = stand-ways ss (carry_each v (p.follows n)) (each-ends ss (p.follows n) (follows n) v z)
  end-ways (v, Some r) z n = stand-ways ss v z

  carried : Stand ss (carry (begun w p) p.entries).0
  carried = carry-stands ss p.entries (begun w p) begins entries

  pub plan-stands : PlanStands w p
  plan-stands = record {
    moments = by;
    ends = end-ways (carry (begun w p) p.entries) carried (stop_place w p);
  }
    where
      by : (u : World) → In u (plan_moments w p) → WaysIn u
      by u (inl is) = subst WaysIn (sym is) (stand-ways ss (begun w p) begins)
      by u (inr here) = elim (in-joined (worlds (begun w p) p.entries) _ u here) [
        | inl h ↦ stand-ways ss u (worlds-stand ss p.entries (begun w p) begins entries u h)
        | inr h ↦ after-ways (carry (begun w p) p.entries) carried (stop_place w p) u h
      ]
