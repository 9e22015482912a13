-- The example: cuts between which no write is acknowledged are closed, and others aren't.
use Rattle.std.proofs.Common.{ℕ, ◌≡◌, inl, inr, refl, sym, true, false, cond, nat_eq, List, [], ◌∷◌, ◌++◌, subst}
use Rattle.std.proofs.lemmas.Bool.{and_parts, eqb-true}
use Rattle.dr_model.specs.declared.event.Event.{Event}
use Rattle.dr_model.specs.declared.event.Event.TheVariants.{Issue, Ack, Begin, Cut, Flashed}
use Rattle.dr_model.specs.Histories.{histories}
use Rattle.dr_model.specs.Cuts.{CutAt, past, cuts}
use Rattle.dr_model.specs.ClosedCuts.{InGroup, LastCut, AllBegun, ClosedCuts}
use Rattle.dr_laws_cuts.specs.Once.{AllNew, CutOnce, NoCuts}
use Rattle.dr_laws_closed.specs.Moments.{memory, moments, standing, is_one}
use Rattle.dr_laws_closed.specs.Closing.{Whole, StandsWhole}
use Rattle.dr_laws_closed.specs.Example.{held, torn, parted}
use Rattle.dr_laws_closed.proofs.Places.{group-stands}
use Rattle.dr_laws_closed.proofs.Standings.{added}
use Rattle.dr_laws_closed.proofs.Begun.{begun-quiet, begun-cut, never-cut, none-cut}
use Rattle.dr_laws_closed.proofs.ClosedCuts.{closed-cuts}
use Rattle.dr_logic.proofs.Truth.{false_true}

-- ---- held

held-once : CutOnce held
unfolding AllNew
held-once = (tt, (tt, (tt, (refl, (refl, (tt, (tt, (tt, (tt, tt)))))))))

whole-1 : Whole (cuts held) (moments held) 7 1 1
unfolding past memory
whole-1 = record { by = refl; lists = λ t. refl }

whole-2 : Whole (cuts held) (moments held) 7 1 2
unfolding past memory
whole-2 = record { by = refl; lists = λ t. refl }

at-one : (s n a z k x : ℕ) → is_one s n a z k x ≡ true → Whole (cuts held) (moments held) s n a → Whole (cuts held) (moments held) z k x
at-one s n a z k x is w =
    let b = and_parts (nat_eq z s) _ is in let d = and_parts (nat_eq k n) _ b.1 in
    subst (λ j. Whole (cuts held) (moments held) j k x) (sym (eqb-true z s b.0)) (subst (λ j. Whole (cuts held) (moments held) s j x) (sym (eqb-true k n d.0)) (subst (λ j. Whole (cuts held) (moments held) s n j) (sym (eqb-true x a d.1)) w))

who-stands : (s n a : ℕ) → standing held s n a ≡ true → cond (is_one 7 1 2 s n a) true (cond (is_one 7 1 1 s n a) true false) ≡ true
unfolding standing
who-stands s n a h = h

held-whole : StandsWhole (cuts held) (moments held) (standing held)
held-whole s n a h = elim (added (is_one 7 1 2 s n a) (cond (is_one 7 1 1 s n a) true false) (who-stands s n a h)) [
  | inl is ↦ at-one 7 1 2 s n a is whole-2
  | inr was ↦ elim (added (is_one 7 1 1 s n a) false was) [
    | inl is ↦ at-one 7 1 1 s n a is whole-1
    | inr none ↦ false_true refl none
  ]
]

held-begun : AllBegun held
held-begun =
    let first : List Event = Issue 1 1 0 0 0 [] ∷ Ack 1 ∷ Begin 7 1 ∷ [] in
    let once : List Event = first ++ Cut 7 1 1 ∷ [] in
    begun-quiet (once ++ Cut 7 1 2 ∷ []) (Issue 2 2 0 0 0 [] ∷ Ack 2 ∷ Flashed 7 1 1 11 21 ∷ Flashed 7 1 2 12 22 ∷ []) (tt, (tt, (tt, (tt, tt))))
    (begun-cut once 7 1 2 (inr (inr (inl refl))) (begun-cut first 7 1 1 (inr (inr (inl refl))) (begun-quiet [] first (tt, (tt, (tt, tt))) none-cut)))

pub held-closed : ClosedCuts held 7 1
held-closed = closed-cuts held held-begun held-once held-whole 7 1

pub held-stands : InGroup held 7 1 1
held-stands = record {
  before = Issue 1 1 0 0 0 [] ∷ Ack 1 ∷ Begin 7 1 ∷ Cut 7 1 1 ∷ Cut 7 1 2 ∷ Issue 2 2 0 0 0 [] ∷ Ack 2 ∷ [];
  behind = Flashed 7 1 2 12 22 ∷ [];
  from = 11;
  target = 21;
  is = refl;
  stands = λ c h. elim h [ inl is ↦ absurd cc | inr none ↦ none ];
  stays = λ h. elim h [ inl is ↦ absurd cc | inr none ↦ none ];
}

-- ---- torn

first : CutAt torn 7 1 1
first = record { before = Begin 7 1 ∷ []; behind = Issue 1 1 0 0 0 [] ∷ Ack 1 ∷ Issue 2 2 0 0 0 [] ∷ Ack 2 ∷ Cut 7 1 2 ∷ Flashed 7 1 1 11 21 ∷ Flashed 7 1 2 12 22 ∷ []; is = refl }

second : CutAt torn 7 1 2
second = record { before = Begin 7 1 ∷ Cut 7 1 1 ∷ Issue 1 1 0 0 0 [] ∷ Ack 1 ∷ Issue 2 2 0 0 0 [] ∷ Ack 2 ∷ []; behind = Flashed 7 1 1 11 21 ∷ Flashed 7 1 2 12 22 ∷ []; is = refl }

torn-stands : InGroup torn 7 1 1
torn-stands = record {
  before = Begin 7 1 ∷ Cut 7 1 1 ∷ Issue 1 1 0 0 0 [] ∷ Ack 1 ∷ Issue 2 2 0 0 0 [] ∷ Ack 2 ∷ Cut 7 1 2 ∷ [];
  behind = Flashed 7 1 2 12 22 ∷ [];
  from = 11;
  target = 21;
  is = refl;
  stands = λ c h. elim h [ inl is ↦ absurd cc | inr none ↦ none ];
  stays = λ h. elim h [ inl is ↦ absurd cc | inr none ↦ none ];
}

pub torn-open : ClosedCuts torn 7 1 → ⊥
unfolding histories first second
torn-open k =
    let last : LastCut torn 7 1 = record { volume = 2; place = second; last = λ v q. never-cut 7 1 v q.before q.behind (subst NoCuts q.is (tt, (tt, tt))) } in
    let same : ◌≡◌ {A = List ℕ} [] (1 ∷ []) = k.moment 1 torn-stands first last 0 in
    absurd cc

-- ---- parted

out : standing parted 7 1 1 ≡ false
unfolding standing
out = refl

pub parted-out : InGroup parted 7 1 1 → ⊥
parted-out g = false_true out (group-stands 7 1 1 parted g)
