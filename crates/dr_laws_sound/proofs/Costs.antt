-- How many events entries tell: each act costs what it tells, where it comes; a stop tells one more.
use Rattle.std.proofs.Common.{ℕ, ◌≡◌, ◌≤◌, ◌+◌, ◌*◌, List, [], ◌∷◌, ◌++◌, length, refl, sym, subst, arith, Bool, true, false, cond, Option}
use Rattle.std.proofs.lemmas.List.{length-append}
use Rattle.dr_ids.specs.declared.refusal.Refusal.{Refusal}
use Rattle.dr_model.specs.declared.event.Event.{Event}
use Rattle.dr_model.specs.declared.event.Event.TheVariants.{Stopped}
use Rattle.dr_model.specs.Control.{Control, Fuse, Volume, World}
use Rattle.dr_model.specs.Moves.{Move, Land, Overwrite, LandBoth, Hold, target, told, told_in_stop, landed}
use Rattle.dr_model.specs.Carry.{Act, Make, OpenAttempt, Redo, Acknowledge, Drop, EndFreeze, EndThaw, EndRecovery, Next, Pass, Do, End, Entry, Outcome, carry, continue, go, check, now}
use Rattle.dr_facts.proofs.Entries.{any_world, AllFine, FineThen, FineFrom, FromThen}
use Rattle.dr_laws_sound.proofs.Turns.{act-cases, Counts, after_act, server_of, done}

-- how many events an act tells
abbrev pub tells : World → Act → ℕ
tells w (Make m) = length (told m (w.control.volume (target m)))
tells w (OpenAttempt v s n) = 2
tells w (Redo v) = 0
tells w (Acknowledge n) = 1
tells w (Drop n) = 0
tells w (EndFreeze l m) = 1
tells w (EndThaw l m) = 1
tells w (EndRecovery s n) = 1

-- entries that tell n events at most; an act for which the server is off is passed over
abbrev pub costs_next : ℕ → World → Next → (ℕ → World → Type 0) → Type 0
costs_next n w Pass more = more n w
costs_next n w (End r) more = Unit {0}
costs_next n w (Do a) more = more n w × ((m : ℕ) × ((tells w a + m ≤ n) × ((f : Option Fuse) → more m (after_act w a f))))

unfoldable pub Costs : ℕ → World → List Entry → Type 0
Costs n w [] = Unit {0}
Costs n w (d ∷ ds) = costs_next n w (d w.control) (λ m v. Costs m v ds)

pub costs-nil : (n : ℕ) (w : World) → Costs n w []
unfolding Costs
costs-nil n w = tt

-- an entry, by what it decides
pub costs-entry : (n : ℕ) (w : World) (d : Entry) (ds : List Entry) (x : Next) → d w.control ≡ x → costs_next n w x (λ m v. Costs m v ds) → Costs n w (d ∷ ds)
unfolding Costs
costs-entry n w d ds x is c = subst (λ x. costs_next n w x (λ m v. Costs m v ds)) (sym is) c

pub costs-check : (n : ℕ) (w : World) (ok : Control → Bool) (r : Refusal) (ds : List Entry) → Costs n w ds → Costs n w (check ok r ∷ ds)
costs-check n w ok r ds c = costs-entry n w (check ok r) ds _ refl (by (ok w.control))
  where
    by : (b : Bool) → costs_next n w (cond b Pass (End r)) (λ m v. Costs m v ds)
    by true = c
    by false = tt

-- a move at the end of a plan
pub costs-last : (n : ℕ) (w : World) (m : Move) → length (told m (w.control.volume (target m))) ≤ n → Costs n w (now m ∷ [])
costs-last n w m le =
    let few : length (told m (w.control.volume (target m))) + 0 ≤ n = omega arith in
    costs-entry n w (now m) [] (Do (Make m)) refl (costs-nil n w, (0, (few, λ f. costs-nil 0 (done w m f))))

-- how long the journal is then
in_stop-few : (m : Move) (u : Volume) → length (told_in_stop m u) ≤ length (told m u)
in_stop-few (Land n v t) u = omega arith
in_stop-few (Overwrite n v t) u = omega arith
in_stop-few (LandBoth n v t) u = omega arith
in_stop-few m u = omega arith

done-adds : (w : World) (a : Act) (f : Option Fuse) → length (after_act w a f).events ≡ length w.events + tells w a
done-adds w (Make m) f = length-append w.events (told m (w.control.volume (target m)))
done-adds w (OpenAttempt v s n) f = length-append w.events (told (Hold v s n true) (w.control.volume v))
done-adds w (Redo v) f = omega arith
done-adds w (Drop n) f = omega arith
done-adds w a f = length-append w.events _

stop-adds : (n : ℕ) (w : World) (m : Move) → length (told m (w.control.volume (target m))) ≤ n → let u : Volume = w.control.volume (target m) in length (w.events ++ (told_in_stop m u ++ Stopped u.server (landed m) ∷ [])) ≤ length w.events + n + 1
stop-adds n w m le =
    let u : Volume = w.control.volume (target m) in
    let es : List Event = told_in_stop m u in
    let stop : List Event = Stopped u.server (landed m) ∷ [] in
    let a : length (w.events ++ (es ++ stop)) ≡ length w.events + length (es ++ stop) = length-append w.events (es ++ stop) in
    let b : length (es ++ stop) ≡ length es + 1 = length-append es stop in
    let c : length es ≤ length (told m u) = in_stop-few m u in omega arith

counts-adds : (n : ℕ) (w : World) (a : Act) (next : World → Outcome) → tells w a ≤ n → Counts w a (λ t. length (continue t.0 t.1 next).0.events ≤ length w.events + n + 1)
counts-adds n w (Make m) next le = λ f. stop-adds n w m le
counts-adds n w (OpenAttempt v s i) next le = λ f. stop-adds n w (Hold v s i true) le
counts-adds n w a next le = tt

go-adds : (n : ℕ) (w : World) (x : Next) (next : World → Outcome) (more : ℕ → World → Type 0) → ((m : ℕ) (v : World) → more m v → length (next v).0.events ≤ length v.events + m + 1) → costs_next n w x more
    → length (go w x next).0.events ≤ length w.events + n + 1
go-adds n w Pass next more on c = on n w c
go-adds n w (End r) next more on c = omega arith
go-adds n w (Do a) next more on c =
    let m : ℕ = c.1.0 in
    let le : tells w a + m ≤ n = c.1.1.0 in
    act-cases w a (λ t. length (continue t.0 t.1 next).0.events ≤ length w.events + n + 1)
    (λ d off. on n w c.0)
    (λ f.
    let u : World = after_act w a f in
    let rest : length (next u).0.events ≤ length u.events + m + 1 = on m u (c.1.1.1 f) in
    let here : length u.events ≡ length w.events + tells w a = done-adds w a f in omega arith)
    (counts-adds n w a next (omega arith))
    (λ d f. let e : length (w.events ++ Stopped (server_of w a) 0 ∷ []) ≡ length w.events + 1 = length-append w.events (Stopped (server_of w a) 0 ∷ []) in omega arith)

pub carry-adds : (n : ℕ) (w : World) (ds : List Entry) → Costs n w ds → length (carry w ds).0.events ≤ length w.events + n + 1
unfolding carry Costs
carry-adds n w [] c = omega arith
carry-adds n w (d ∷ ds) c = go-adds n w (d w.control) (λ v. carry v ds) (λ m v. Costs m v ds) (λ m v c. carry-adds m v ds c) c

-- ---- entries whose acts tell two events each, at most, cost two events each

module _ (Ok : World → Act → Type 0) (First Why : Refusal → Type 0) (two : (w : World) (a : Act) → Ok w a → tells w a ≤ 2) where
  next-costs : (w : World) (x : Next) (ds : List Entry) → FineThen any_world Ok Why w x (AllFine any_world Ok Why ds) → ((n : ℕ) (v : World) → AllFine any_world Ok Why ds → length ds * 2 ≤ n → Costs n v ds)
      → (n : ℕ) → length ds * 2 + 2 ≤ n → costs_next n w x (λ m v. Costs m v ds)
  next-costs w Pass ds fine on n le = on n w fine (omega arith)
  next-costs w (End r) ds fine on n le = tt
  next-costs w (Do a) ds fine on n le = let few : tells w a ≤ 2 = two w a fine.0 in (on n w fine.1 (omega arith), (length ds * 2, ((omega arith), λ f. on (length ds * 2) (after_act w a f) fine.1 (omega arith))))

  pub fine-costs : (ds : List Entry) (n : ℕ) (w : World) → AllFine any_world Ok Why ds → length ds * 2 ≤ n → Costs n w ds
  unfolding AllFine Costs
  fine-costs [] n w fine le = tt
  fine-costs (d ∷ ds) n w fine le = next-costs w (d w.control) ds (fine w tt) (λ n v fine le. fine-costs ds n v fine le) n (omega arith)

  pub from-costs : (ds : List Entry) (n : ℕ) (w : World) → FineFrom any_world Ok First Why w ds → length ds * 2 ≤ n → Costs n w ds
  unfolding FineFrom Costs
  from-costs [] n w fine le = tt
  from-costs (d ∷ ds) n w fine le = by (d w.control) (λ fine. from-costs ds n w fine (omega arith)) fine
    where
      by : (x : Next) → (FineFrom any_world Ok First Why w ds → Costs n w ds) → FromThen any_world Ok First Why w x (FineFrom any_world Ok First Why w ds) (AllFine any_world Ok Why ds) → costs_next n w x (λ m v. Costs m v ds)
      by Pass on fine = on fine
      by (End r) on fine = tt
      by (Do a) on fine = next-costs w (Do a) ds fine (λ n v fine le. fine-costs ds n v fine le) n (omega arith)
