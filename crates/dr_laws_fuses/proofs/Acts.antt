-- An act in two worlds that differ in fuses alone: what it comes to differs in fuses alone, too, until a fuse that is compared no further stops its server.
use Rattle.std.proofs.Common.{ℕ, ◌≡◌, ◌⊎◌, inl, inr, refl, sym, subst, Bool, true, false, cond, not, [], ◌∷◌, ◌++◌, Option, Some, None}
use Rattle.std.proofs.lemmas.Bool.{cases_eq}
use Rattle.dr_logic.specs.Tables.{at}
use Rattle.dr_model.specs.declared.event.Event.TheVariants.{Stopped}
use Rattle.dr_model.specs.Histories.{histories}
use Rattle.dr_model.specs.Layout.{Fields}
use Rattle.dr_model.specs.Control.{Fuse, Volume, World}
use Rattle.dr_model.specs.Moves.{Move, Hold, Carried, target, next_fields, carried, keeps_staged, updated_keeping}
use Rattle.dr_model.specs.Carry.{Act, Make, OpenAttempt, Redo, Acknowledge, Drop, EndFreeze, EndThaw, EndRecovery, Turn, Ended, ended, turn, redo, redo_ended, redo_writes, act, spent, off, burnt, lower, pass, counts_by, writes, gate_at, equal, attempt_begun, opened_by, update_keeping, finished, cut_short}
use Rattle.dr_logic.proofs.Tables.{at_same, at_other}
use Rattle.dr_laws_fuses.specs.Fuses.{with_fuses}

-- How two fuses of server q go on over n writes that come next: all pass with both; both cut the same one short, and it counts as done with both or with neither; or
-- the first cuts one short, and they are compared no further.
pub data Goes (R : ℕ → Option Fuse → Option Fuse → Type 0) (Met : ℕ → Type 0) (q : ℕ) (f g : Option Fuse) (n : ℕ) : Type 0 where
  Passes : pass f n ≡ true → pass g n ≡ true → R q (lower n f) (lower n g) → Goes R Met q f g n
  Cuts : pass f n ≡ false → pass g n ≡ false → ((gate : ℕ) (new : Bool) → counts_by gate f new ≡ counts_by gate g new) → R q (burnt f) (burnt g) → Goes R Met q f g n
  Meets : pass f n ≡ false → Met q → Goes R Met q f g n

-- worlds, with what else is said of them, that differ in fuses alone, each of which stands to the other as `R` says
pub record Same (R : ℕ → Option Fuse → Option Fuse → Type 0) {X : Type 0} (o p : World × X) : Type 0 where
  pub fuse : ℕ → Option Fuse
  pub is : p ≡ (with_fuses o.0 fuse, o.1)
  pub fuses : (q : ℕ) → R q (o.0.control.fuse q) (fuse q)

-- a server stopped at whose stop nothing more is compared
pub record Met (M : ℕ → Type 0) (stop : Option ℕ) : Type 0 where
  pub server : ℕ
  pub met : M server
  pub is : stop ≡ Some server

module _ (R : ℕ → Option Fuse → Option Fuse → Type 0) where
  pub at-fuses : (f g : ℕ → Option Fuse) (s : ℕ) (x y : Option Fuse) → ((q : ℕ) → R q (f q) (g q)) → R s x y → (q : ℕ) → R q (at f s x q) (at g s y q)
  at-fuses f g s x y all new q = elim (cases_eq q s) [
    | inl e ↦ subst (λ p. R p (at f s x p) (at g s y p)) (sym e) (subst (λ v. R s v (at g s y s)) (sym (at_same f s x)) (subst (λ v. R s x v) (sym (at_same g s y)) new))
    | inr ne ↦ subst (λ v. R q v (at g s y q)) (sym (at_other f s x q ne)) (subst (λ v. R q (f q) v) (sym (at_other g s y q ne)) (all q))
  ]

-- the fuses of a world, and others
abbrev pub Fuses : (ℕ → Option Fuse → Option Fuse → Type 0) → World → (ℕ → Option Fuse) → Type 0
Fuses R w g = (q : ℕ) → R q (w.control.fuse q) (g q)

-- what acts come to in two such worlds: the same but for fuses, or it is compared no further
abbrev pub Alike : (ℕ → Option Fuse → Option Fuse → Type 0) → (ℕ → Type 0) → {X : Type 0} → World × X → World × X → Option ℕ → Type 0
Alike R M o p stop = Same R o p ⊎ Met M stop

-- ---- a move

module _ (w : World) (m : Move) where
  abbrev pub row : Volume
  row = w.control.volume (target m)

  abbrev pub next : Fields
  next = next_fields m w.control.volume

  abbrev pub track : Carried
  track = carried m w.control.volume w.contents (histories w.events).write

  abbrev pub count : ℕ
  count = writes row next track

  -- its turn, by what decides it; `g` are the fuses
  abbrev pub turned_by : (ℕ → Option Fuse) → Bool → Bool → Bool → Turn
  turned_by g on passes counts =
      let u : World = with_fuses w g in
      let new : World = updated_keeping (keeps_staged m) u (target m) next track in
      let e : Ended = cond (not on) (ended u true false) (cond passes (ended (spent new row.server count) false true) (cond counts (ended (off new row.server) true true) (ended (off u row.server) true false))) in
      cond (not on) (u, None) (cond e.stopped (cut_short e.world m row e.done, Some row.server) (finished e.world m row, None))

  pub turned-by : (g : ℕ → Option Fuse) → turn (with_fuses w g) m ≡ turned_by g (w.control.on row.server) (pass (g row.server) count) (counts_by (gate_at row next track) (g row.server) (not row.slot))
  unfolding turn update_keeping
  turned-by g = refl

  -- whether a stop counts as done
  abbrev pub counted : (ℕ → Option Fuse) → Bool
  counted g = counts_by (gate_at row next track) (g row.server) (not row.slot)

  module _ (R : ℕ → Option Fuse → Option Fuse → Type 0) (M : ℕ → Type 0) (goes : (q : ℕ) (f g : Option Fuse) (n : ℕ) → R q f g → Goes R M q f g n) where
    -- the fuses after writes that pass, and after one that is cut short
    abbrev lowered : (ℕ → Option Fuse) → ℕ → Option Fuse
    lowered g = at g row.server (lower count (g row.server))

    abbrev burned : (ℕ → Option Fuse) → ℕ → Option Fuse
    burned g = at g row.server (burnt (g row.server))

    abbrev turned : (ℕ → Option Fuse) → Bool → Bool → Turn
    turned g passes counts = turned_by g true passes counts

    abbrev armed : ℕ → Option Fuse
    armed = w.control.fuse

    stops : (c : Bool) → (turned armed false c).1 ≡ Some row.server
    stops true = refl
    stops false = refl

    abbrev Turns : (ℕ → Option Fuse) → Bool → Type 0
    Turns g on = let o : Turn = turned_by armed on (pass (armed row.server) count) (counted armed) in Alike R M o (turned_by g on (pass (g row.server) count) (counted g)) o.1

    turn-by : (g : ℕ → Option Fuse) → Fuses R w g → (on : Bool) → Goes R M row.server (armed row.server) (g row.server) count → Turns g on
    turn-by g all false it = inl (record { fuse = g; is = refl; fuses = all })
    turn-by g all true (Passes p q new) =
        subst (λ b. Alike R M (turned armed b (counted armed)) (turned g (pass (g row.server) count) (counted g)) (turned armed b (counted armed)).1) (sym p)
        (subst (λ b. Alike R M (turned armed true (counted armed)) (turned g b (counted g)) None) (sym q)
        (inl (record { fuse = lowered g; is = refl; fuses = at-fuses R armed g row.server _ _ all new })))
    turn-by g all true (Cuts p q counts new) =
        subst (λ b. Alike R M (turned armed b (counted armed)) (turned g (pass (g row.server) count) (counted g)) (turned armed b (counted armed)).1) (sym p)
        (subst (λ b. Alike R M (turned armed false (counted armed)) (turned g b (counted g)) (turned armed false (counted armed)).1) (sym q)
        (subst (λ b. Alike R M (turned armed false (counted armed)) (turned g false b) (turned armed false (counted armed)).1) (counts _ _) (cut (counted armed))))
      where
        cut : (c : Bool) → Alike R M (turned armed false c) (turned g false c) (turned armed false c).1
        cut true = inl (record { fuse = burned g; is = refl; fuses = at-fuses R armed g row.server _ _ all new })
        cut false = inl (record { fuse = burned g; is = refl; fuses = at-fuses R armed g row.server _ _ all new })
    turn-by g all true (Meets p met) =
        subst (λ b. Alike R M (turned armed b (counted armed)) (turned g (pass (g row.server) count) (counted g)) (turned armed b (counted armed)).1) (sym p) (inr (record { server = row.server; met = met; is = stops (counted armed) }))

    pub turn-alike : (g : ℕ → Option Fuse) → Fuses R w g → Alike R M (turn w m) (turn (with_fuses w g) m) (turn w m).1
    turn-alike g all =
        subst (λ t. Alike R M t (turn (with_fuses w g) m) t.1) (sym (turned-by armed)) (subst (λ t. let o : Turn = turned_by armed (w.control.on row.server) (pass (armed row.server) count) (counted armed) in Alike R M o t o.1) (sym (turned-by g)) (turn-by g all (w.control.on row.server) (goes row.server _ _ count (all row.server))))

-- ---- a staged track that is written to its place

module _ (w : World) (v : ℕ) where
  abbrev pub place : ℕ
  place = (w.control.volume v).server

  abbrev pub redos : ℕ
  redos = redo_writes (w.control.volume v).staged

  abbrev pub redone_by : (ℕ → Option Fuse) → Bool → Bool → Turn
  redone_by g on passes =
      let u : World = with_fuses w g in
      let e : Ended = cond (not on) (ended u true false) (cond passes (ended (spent u place redos) false true) (ended (off u place) true false)) in
      cond (not on) (u, None) (cond e.stopped (record e.world { events = w.events ++ Stopped place 0 ∷ [] }, Some place) (e.world, None))

  pub redone-by : (g : ℕ → Option Fuse) → redo_ended (with_fuses w g) v (redo (with_fuses w g) v) ≡ redone_by g (w.control.on place) (pass (g place) redos)
  unfolding redo
  redone-by g = refl

  module _ (R : ℕ → Option Fuse → Option Fuse → Type 0) (M : ℕ → Type 0) (goes : (q : ℕ) (f g : Option Fuse) (n : ℕ) → R q f g → Goes R M q f g n) where
    redo-by : (g : ℕ → Option Fuse) → Fuses R w g → (on : Bool) → Goes R M place (w.control.fuse place) (g place) redos
        → (let o : Turn = redone_by w.control.fuse on (pass (w.control.fuse place) redos) in Alike R M o (redone_by g on (pass (g place) redos)) o.1)
    redo-by g all false it = inl (record { fuse = g; is = refl; fuses = all })
    redo-by g all true (Passes p q new) =
        subst (λ b. Alike R M (redone_by w.control.fuse true b) (redone_by g true (pass (g place) redos)) (redone_by w.control.fuse true b).1) (sym p)
        (subst (λ b. Alike R M (redone_by w.control.fuse true true) (redone_by g true b) None) (sym q)
        (inl (record { fuse = at g place (lower redos (g place)); is = refl; fuses = at-fuses R w.control.fuse g place _ _ all new })))
    redo-by g all true (Cuts p q counts new) =
        subst (λ b. Alike R M (redone_by w.control.fuse true b) (redone_by g true (pass (g place) redos)) (redone_by w.control.fuse true b).1) (sym p)
        (subst (λ b. Alike R M (redone_by w.control.fuse true false) (redone_by g true b) (Some place)) (sym q)
        (inl (record { fuse = at g place (burnt (g place)); is = refl; fuses = at-fuses R w.control.fuse g place _ _ all new })))
    redo-by g all true (Meets p met) =
        subst (λ b. Alike R M (redone_by w.control.fuse true b) (redone_by g true (pass (g place) redos)) (redone_by w.control.fuse true b).1) (sym p) (inr (record { server = place; met = met; is = refl }))

    pub redo-alike : (g : ℕ → Option Fuse) → Fuses R w g → (let o : Turn = redo_ended w v (redo w v) in let u : World = with_fuses w g in Alike R M o (redo_ended u v (redo u v)) o.1)
    redo-alike g all =
        subst (λ t. Alike R M t (let u : World = with_fuses w g in redo_ended u v (redo u v)) t.1) (sym (redone-by w.control.fuse))
        (subst (λ t. let o : Turn = redone_by w.control.fuse (w.control.on place) (pass (w.control.fuse place) redos) in Alike R M o t o.1) (sym (redone-by g)) (redo-by g all (w.control.on place) (goes place _ _ redos (all place))))

module _ (R : ℕ → Option Fuse → Option Fuse → Type 0) (M : ℕ → Type 0) (goes : (q : ℕ) (f g : Option Fuse) (n : ℕ) → R q f g → Goes R M q f g n) where
  -- ---- any act

  -- an attempt that begins in both
  open-alike : (w : World) (v s : ℕ) (g : ℕ → Option Fuse) (o p : Turn) → Alike R M o p o.1 → Alike R M (opened_by w v s o) (opened_by (with_fuses w g) v s p) o.1
  open-alike w v s g o p (inr met) = inr met
  open-alike w v s g o p (inl same) = subst (λ t. Alike R M (opened_by w v s o) (opened_by (with_fuses w g) v s t) o.1) (sym same.is) (inl (by (equal (w.control.volume v).slot (o.0.control.volume v).slot)))
    where
      by : (b : Bool) → Same R (cond b o.0 (attempt_begun o.0 s), o.1) (cond b (with_fuses o.0 same.fuse) (attempt_begun (with_fuses o.0 same.fuse) s), o.1)
      by true = record { fuse = same.fuse; is = refl; fuses = same.fuses }
      by false = record { fuse = same.fuse; is = refl; fuses = same.fuses }

  pub act-alike : (w : World) (a : Act) (g : ℕ → Option Fuse) → Fuses R w g → Alike R M (act w a) (act (with_fuses w g) a) (act w a).1
  unfolding act
  act-alike w (Make m) g all = turn-alike w m R M goes g all
  act-alike w (OpenAttempt v s n) g all = open-alike w v s g (turn w (Hold v s n true)) (turn (with_fuses w g) (Hold v s n true)) (turn-alike w (Hold v s n true) R M goes g all)
  act-alike w (Redo v) g all = redo-alike w v R M goes g all
  act-alike w (Acknowledge n) g all = inl (record { fuse = g; is = refl; fuses = all })
  act-alike w (Drop n) g all = inl (record { fuse = g; is = refl; fuses = all })
  act-alike w (EndFreeze l m) g all = inl (record { fuse = g; is = refl; fuses = all })
  act-alike w (EndThaw l m) g all = inl (record { fuse = g; is = refl; fuses = all })
  act-alike w (EndRecovery s n) g all = inl (record { fuse = g; is = refl; fuses = all })
