-- The masters that are lost as a step ends, server by server.
use Rattle.std.proofs.Common.{◌≡◌, ◌≢◌, ℕ, ◌<◌, ◌+◌, Bool, true, false, not, ◌&&◌, cond, List, [], ◌∷◌, map, get_or, nat_lt, nat_eq, Option, Some, None, inl, inr, refl, ap, sym, ◌∙◌, arith, set, length, if◌then◌else◌}
use Rattle.std.specs.Option.{option_map}
use Rattle.std.proofs.lemmas.Bool.Decides.{nat_tests, eqb_tells}
use Rattle.std.proofs.lemmas.Grind.{common_steps}
use Rattle.dr_model.specs.Phases as phases
use Rattle.dr_model.specs.declared.event.Event.{Event}
use Rattle.dr_model.specs.Carried.{losing}
use Rattle.dr_model.specs.Messages as messages
use Rattle.dr_model.specs.Sessions.{Session, Mirror, with_mirror, mirror_lost, lost_with, lost_since}
use Rattle.dr_plant.specs.State.{PlantState}
use Rattle.dr_config.specs.Table.{ConfigTable}
use Rattle.dr_session.specs.Kept.{SessionTable}
use Rattle.dr_ctl.specs.Kept.{KeptFlight, flight_in}
use Rattle.dr_volume.specs.View.{on_seen}
use Rattle.dr_steps.specs.Here.{here}
use Rattle.dr_steps.specs.declared.tables.Tables.{Tables}

-- the masters on servers of a set are lost
abbrev mirror_lost_on : (ℕ → Bool) → Mirror → Mirror
mirror_lost_on gone r = if gone r.server then record r { master = phases.lost r.master } else r

abbrev lost_on : (ℕ → Bool) → List Session → List Session
lost_on gone ss = map (with_mirror (mirror_lost_on gone)) ss

-- none is lost of no server
mirror-none : (gone : ℕ → Bool) → ((k : ℕ) → gone k ≡ false) → (o : Option Mirror) → option_map (mirror_lost_on gone) o ≡ o
mirror-none gone none None = refl
mirror-none gone none (Some r) = ap (λ b. Some (cond b (record r { master = phases.lost r.master }) r)) (none r.server)

lost-none : (gone : ℕ → Bool) → ((k : ℕ) → gone k ≡ false) → (ss : List Session) → lost_on gone ss ≡ ss
lost-none gone none [] = refl
lost-none gone none (x ∷ xs) = (λ i. record x { mirror = mirror-none gone none x.mirror i } ∷ lost-none gone none xs i)

lost-same : (gone also : ℕ → Bool) → ((k : ℕ) → gone k ≡ also k) → (ss : List Session) → lost_on gone ss ≡ lost_on also ss
lost-same gone also same ss = λ i. lost_on (λ k. same k i) ss

-- one server more
module _ (gone also : ℕ → Bool) (server : ℕ) (new : gone server ≡ false) (lost : also server ≡ true) (same : (k : ℕ) → k ≢ server → gone k ≡ also k) where
  mirror-more : (r : Mirror) → mirror_lost server (mirror_lost_on gone r) ≡ mirror_lost_on also r
  mirror-more r = elim (eqb_tells r.server server) as (λ _. mirror_lost server (mirror_lost_on gone r) ≡ mirror_lost_on also r) [
    | inl p ↦
        ap (λ b. mirror_lost server (cond b (record r { master = phases.lost r.master }) r)) (ap gone p.1 ∙ new)
        ∙ ap (λ b. cond b (record r { master = phases.lost r.master }) r) (p.0 ∙ sym lost ∙ ap also (sym p.1))
    | inr p ↦ other (gone r.server) p.0 ∙ ap (λ b. cond b (record r { master = phases.lost r.master }) r) (same r.server p.1)
  ]
    where
      other : (b : Bool) → nat_eq r.server server ≡ false → mirror_lost server (cond b (record r { master = phases.lost r.master }) r) ≡ cond b (record r { master = phases.lost r.master }) r
      other true h = ap (λ t. let x : Mirror = record r { master = phases.lost r.master } in cond t (record x { master = phases.lost x.master }) x) h
      other false h = ap (λ t. cond t (record r { master = phases.lost r.master }) r) h

  option-more : (o : Option Mirror) → option_map (mirror_lost server) (option_map (mirror_lost_on gone) o) ≡ option_map (mirror_lost_on also) o
  option-more None = refl
  option-more (Some r) = ap Some (mirror-more r)

  lost-more : (ss : List Session) → map (lost_with server) (lost_on gone ss) ≡ lost_on also ss
  lost-more [] = refl
  lost-more (x ∷ xs) = (λ i. record x { mirror = option-more x.mirror i } ∷ lost-more xs i)

-- the first servers of those that were on before
abbrev pub among : List Bool → ℕ → ℕ → Bool
among before n k = nat_lt k n && get_or before k false

next-self : (n : ℕ) (a b : Bool) → (nat_lt n n && a && b) ≡ false
next-self n a b = ap (λ t. t && a && b) (let h : nat_lt n n ≡ false = grind (arith, nat_tests) in h)

next-more : (n : ℕ) (a b : Bool) → (nat_lt n (n + 1) && a && b) ≡ (a && b)
next-more n a b = ap (λ t. t && a && b) (let h : nat_lt n (n + 1) ≡ true = grind (arith, nat_tests) in h)

next-other : (n k : ℕ) → k ≢ n → nat_lt k n ≡ nat_lt k (n + 1)
next-other n k ne = grind (arith, nat_tests, ne)

module _ (before : List Bool) (now : ℕ → Bool) (n : ℕ) where
  abbrev gone : ℕ → ℕ → Bool
  gone m k = among before m k && not (now k)

  goes : (k : ℕ) → k ≢ n → gone n k ≡ gone (n + 1) k
  goes k ne = ap (λ t. t && get_or before k false && not (now k)) (next-other n k ne)

  -- and the next one of them
  pub lost-next : (was is : Bool) (ss : List Session) → was ≡ get_or before n false → is ≡ now n
      → (if was && not is then map (lost_with n) (lost_since (among before n) now ss) else lost_since (among before n) now ss) ≡ lost_since (among before (n + 1)) now ss
  lost-next was is ss was_on is_on = by (was && not is) refl
    where
      turned : gone (n + 1) n ≡ (was && not is)
      turned = next-more n (get_or before n false) (not (now n)) ∙ (λ i. sym was_on i && not (sym is_on i))

      by : (b : Bool) → (was && not is) ≡ b → (if b then map (lost_with n) (lost_on (gone n) ss) else lost_on (gone n) ss) ≡ lost_on (gone (n + 1)) ss
      by true h = lost-more (gone n) (gone (n + 1)) n (next-self n (get_or before n false) (not (now n))) (turned ∙ h) goes ss
      by false h = lost-same (gone n) (gone (n + 1)) (λ k. elim (eqb_tells k n) as (λ _. gone n k ≡ gone (n + 1) k) [
        | inl p ↦ ap (gone n) p.1 ∙ next-self n (get_or before n false) (not (now n)) ∙ sym (turned ∙ h) ∙ ap (gone (n + 1)) (sym p.1)
        | inr p ↦ goes k p.1
      ]) ss

-- before the first
pub lost-first : (before : List Bool) (now : ℕ → Bool) (ss : List Session) → ss ≡ lost_since (among before 0) now ss
lost-first before now ss = sym (lost-none (λ k. among before 0 k && not (now k)) (λ k. ap (λ t. t && get_or before k false && not (now k)) (let h : nat_lt k 0 ≡ false = grind (arith, nat_tests) in h)) ss)

-- all of them: the servers of a plant
pub lost-all : (s u : PlantState) (before : List Bool) (ss : List Session) → ((k : ℕ) → k < 8 → get_or before k false ≡ s.on k)
    → lost_since (among before 8) (on_seen u) ss ≡ lost_since (on_seen s) (on_seen u) ss
lost-all s u before ss was = lost-same _ _ (λ k. by k (nat_lt k 8) refl) ss
  where
    by : (k : ℕ) (b : Bool) → nat_lt k 8 ≡ b → (b && get_or before k false && not (cond b (u.on k) true)) ≡ (cond b (s.on k) true && not (cond b (u.on k) true))
    by k true lt = ap (λ t. t && not (u.on k)) (was k (grind (arith, nat_tests, lt)))
    by k false lt = refl

-- what the sessions and the messages in flight are then
pub lost-here : (s u : PlantState) (t : ConfigTable) (h : Tables) (ev : List Event) (ys : SessionTable) (f : KeptFlight) → ys ≡ record h.sessions { sessions = lost_since (on_seen s) (on_seen u) h.sessions.sessions }
    → flight_in f ≡ messages.lost_since (on_seen s) (on_seen u) h.sessions.sessions (flight_in h.flight)
    → here u t (record h { sessions = ys; flight = f }) ev ≡ record (here u t h ev) { control = losing (on_seen s) (here u t h ev).control }
lost-here s u t h ev ys f is flies = λ i. record (here u t h ev) { control = record (here u t h ev).control { sessions = (is i).sessions; flight = flies i } }

-- which servers are on, one more
pub on-next : (on : List Bool) (f : ℕ → Bool) (n : ℕ) (x : Bool) → n < length on → x ≡ f n → ((k : ℕ) → k < n → get_or on k false ≡ f k) → (k : ℕ) → k < n + 1 → get_or (set on n x) k false ≡ f k
on-next on f n x low is so_far k lt = elim (eqb_tells k n) as (λ _. get_or (set on n x) k false ≡ f k) [
  | inl p ↦
      let e = p.1 in
      let at : get_or (set on n x) k false ≡ x = grind (arith, common_steps) in
      at ∙ is ∙ ap f (sym p.1)
  | inr p ↦
      let ne = p.1 in
      let at : get_or (set on n x) k false ≡ get_or on k false = grind (arith, common_steps) in
      at ∙ so_far k (omega (arith, lt, ne))
]
