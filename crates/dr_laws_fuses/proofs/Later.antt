-- A fuse that isn't reached changes nothing, and a fuse that comes later leaves the first stop as it was.
use Rattle.std.proofs.Common.{ℕ, ◌-◌, ◌+◌, ◌≤◌, ◌≡◌, ◌≢◌, ◌⊎◌, inl, inr, refl, ap, ◌∙◌, sym, subst, arith, Bool, true, false, cond, List, [], ◌∷◌, ◌++◌, drop, length, ◌||◌, Option, Some, None, Result, Ok, nat_eq, nat_le}
use Rattle.std.proofs.lemmas.Bool.Decides.{nat_tests}
use Rattle.std.proofs.Math.Path.{fun_ext}
use Rattle.std.proofs.Math.Seq.{drop-append_seam}
use Rattle.std.proofs.lemmas.Bool.{cases_eq, leb-true, le-leb}
use Rattle.std.specs.Option.{option_or}
use Rattle.dr_logic.specs.Tables.{at}
use Rattle.dr_logic.proofs.Tables.{at_same, at_other}
use Rattle.dr_logic.proofs.Truth.{false_true}
use Rattle.dr_model.specs.declared.event.Event.{Event}
use Rattle.dr_model.specs.declared.step.Name.{Name}
use Rattle.dr_model.specs.declared.step.Step.{Step}
use Rattle.dr_model.specs.declared.step.Step.TheVariants.{Start, StopAfter}
use Rattle.dr_model.specs.Control.{Fuse, World}
use Rattle.dr_model.specs.Carry.{pass, lower, burnt, counts_by}
use Rattle.dr_model.specs.Entries.{is_at}
use Rattle.dr_model.specs.Plans.{server_named, name_bytes, fuse_at_start}
use Rattle.dr_model.specs.Runs.{Task, after_task}
use Rattle.dr_laws_sound.specs.Stops.{stop_in, first_stop}
use Rattle.dr_laws_fuses.specs.Fuses.{with_fuses, fuse_changed, changed_fuse}
use Rattle.dr_laws_fuses.specs.Laws.{told_since, tells_stop, Later, LaterBy, KeepsFuse, ArmsAnew, UnreachedChangesNothing}
use Rattle.dr_laws_fuses.proofs.Acts.{Goes, Passes, Cuts, Meets}
use Rattle.dr_laws_fuses.proofs.Steps.{Alike, task-alike}

-- the same fuse
pub same-goes : (R : ℕ → Option Fuse → Option Fuse → Type 0) (M : ℕ → Type 0) (q : ℕ) (f g : Option Fuse) (n : ℕ) → f ≡ g → ((x y : Option Fuse) → x ≡ y → R q x y) → Goes R M q f g n
same-goes R M q f g n is equal = by (pass f n) refl
  where
    by : (b : Bool) → pass f n ≡ b → Goes R M q f g n
    by true p = Passes p (ap (λ x. pass x n) (sym is) ∙ p) (equal _ _ (ap (lower n) is))
    by false p = Cuts p (ap (λ x. pass x n) (sym is) ∙ p) (λ gate new. ap (λ x. counts_by gate x new) is) (equal _ _ (ap burnt is))

-- what is told after the events of a world
pub told-since : (w u : World) (es : List Event) → u.events ≡ w.events ++ es → told_since w u ≡ es
told-since w u es is = ap (drop (length w.events)) is ∙ drop-append_seam w.events es

-- a stop that comes first is among events, and among those that others come before
pub tells-first : (s : ℕ) (es : List Event) → first_stop es ≡ Some s → tells_stop s es ≡ true
tells-first s [] first = let never : None ≡ Some s = first in absurd cc
tells-first s (e ∷ es) first = by (stop_in e) (tells-first s es) first
  where
    by : (o : Option ℕ) → (first_stop es ≡ Some s → tells_stop s es ≡ true) → option_or o (first_stop es) ≡ Some s → (is_at o s || tells_stop s es) ≡ true
    by None later first = later first
    by (Some q) later first = let is : q ≡ s = cc in let h : nat_eq q s ≡ true = grind (arith, nat_tests) in ap (λ b. b || tells_stop s es) h

pub tells-later : (s : ℕ) (es fs : List Event) → tells_stop s fs ≡ true → tells_stop s (es ++ fs) ≡ true
tells-later s [] fs tells = tells
tells-later s (e ∷ es) fs tells = ap (λ b. is_at (stop_in e) s || b) (tells-later s es fs tells) ∙ or_true (is_at (stop_in e) s)
  where
    or_true : (b : Bool) → (b || true) ≡ true
    or_true true = refl
    or_true false = refl

-- a start leaves a fuse that lets at least as many writes pass as one that it leaves
pub left-later : (f g : Fuse) → f.after ≤ g.after → fuse_at_start (Some f) ≡ Some f → fuse_at_start (Some g) ≡ Some g
left-later f g more kept = by (nat_eq f.after 0) refl
  where
    by : (b : Bool) → nat_eq f.after 0 ≡ b → fuse_at_start (Some g) ≡ Some g
    by true at = let never : None ≡ Some f = ap (λ b. cond b None (Some f)) (sym at) ∙ kept in absurd cc
    by false at = let some : 1 ≤ f.after = grind (arith, nat_tests) in let far : nat_eq g.after 0 ≡ false = grind (arith, nat_tests) in ap (λ b. cond b None (Some g)) far

-- ---- a fuse that isn't reached

module _ (s d : ℕ) (Anew : Type 0) where
  abbrev R : ℕ → Option Fuse → Option Fuse → Type 0
  R q f g = (q ≢ s) × (f ≡ g) ⊎ (q ≡ s) × (Later d f g ⊎ Anew × (f ≡ g))

  abbrev M : ℕ → Type 0
  M q = q ≡ s

  equal-far : (q : ℕ) → q ≢ s → (f g : Option Fuse) → f ≡ g → R q f g
  equal-far q far f g is = inl (far, is)

  goes : (q : ℕ) (f g : Option Fuse) (n : ℕ) → R q f g → Goes R M q f g n
  goes q f g n (inl (far, is)) = same-goes R M q f g n is (equal-far q far)
  goes q f g n (inr (here, inr (anew, is))) = same-goes R M q f g n is (λ x y e. inr (here, inr (anew, e)))
  goes q (Some f) (Some g) n (inr (here, inl later)) = by (nat_le n f.after) refl
    where
      by : (b : Bool) → nat_le n f.after ≡ b → Goes R M q (Some f) (Some g) n
      by true p =
          let le : n ≤ f.after = leb-true n f.after p in
          let more : n ≤ g.after = omega arith in
          let less : g.after - n ≡ (f.after - n) + d = omega arith in
          Passes p (le-leb n g.after more) (inr (here, inl less))
      by false p = Meets p here
  goes q None g n (inr (here, inl later)) = absurd later
  goes q (Some f) None n (inr (here, inl later)) = absurd later

  -- a start leaves both, if it leaves the first
  pub started-later : (f g : Option Fuse) → Later d f g → fuse_at_start f ≡ f → Later d (fuse_at_start f) (fuse_at_start g)
  started-later (Some f) (Some g) later kept = let more : f.after ≤ g.after = omega arith in subst (λ x. Later d x (fuse_at_start (Some g))) (sym kept) (subst (Later d (Some f)) (sym (left-later f g more kept)) later)
  started-later None g later kept = absurd later
  started-later (Some f) None later kept = absurd later

-- a world with the fuses that it has but for one
one-fuse : (u : World) (h : ℕ → Option Fuse) (s : ℕ) → ((q : ℕ) → q ≢ s → h q ≡ u.control.fuse q) → with_fuses u h ≡ with_fuses u (at u.control.fuse s (h s))
one-fuse u h s far = ap (with_fuses u) (fun_ext (λ q. by q))
  where
    by : (q : ℕ) → h q ≡ at u.control.fuse s (h s) q
    by q = elim (cases_eq q s) [
      | inl e ↦ ap h e ∙ sym (at_same u.control.fuse s (h s)) ∙ ap (at u.control.fuse s (h s)) (sym e)
      | inr ne ↦ far q ne ∙ sym (at_other u.control.fuse s (h s) q ne)
    ]

-- the events that a world of the same journal is told
told-other : (w u : World) (g : ℕ → Option Fuse) → told_since (with_fuses w g) u ≡ told_since w u
told-other w u g = refl

module _ (s d : ℕ) (w : World) (t : Task) (fuse : Option Fuse) (later : Later d (w.control.fuse s) fuse) (keeps : KeepsFuse w s t.asked) where
  abbrev Anew : Type 0
  Anew = ArmsAnew w s t.asked

  abbrev Stands : ℕ → Option Fuse → Option Fuse → Type 0
  Stands = R s d Anew

  abbrev g : ℕ → Option Fuse
  g = at w.control.fuse s fuse

  abbrev u : World
  u = after_task w t

  -- the fuses of the other world
  begins : (q : ℕ) → Stands q (w.control.fuse q) (g q)
  begins q = elim (cases_eq q s) [
    | inl e ↦ inr (e, inl (subst (λ p. Later d (w.control.fuse p) (g p)) (sym e) (subst (λ x. Later d (w.control.fuse s) x) (sym (at_same w.control.fuse s fuse)) later)))
    | inr ne ↦ inl (ne, sym (at_other w.control.fuse s fuse q ne))
  ]

  -- the one that the line changes
  changes : (asked : Result Step ℕ) → asked ≡ t.asked → (name : Name) (q : ℕ) → fuse_changed asked ≡ Some name → server_named w.control (name_bytes name) ≡ Some q → Stands q (changed_fuse asked (w.control.fuse q)) (changed_fuse asked (g q))
  changes (Ok (Start start)) is name q set named = elim (cases_eq q s) [
    | inl e ↦ (let kept : fuse_at_start (w.control.fuse s) ≡ w.control.fuse s = keeps name (sym is ∙ ap (λ n. Ok (Start n)) (cc)) (named ∙ ap Some e) in
        inr (
          e,
          inl (subst (λ p. Later d (fuse_at_start (w.control.fuse p)) (fuse_at_start (g p))) (sym e)
              (subst (λ x. Later d (fuse_at_start (w.control.fuse s)) (fuse_at_start x)) (sym (at_same w.control.fuse s fuse)) (started-later s d Anew (w.control.fuse s) fuse later kept))),
        ))
    | inr ne ↦ inl (ne, ap fuse_at_start (sym (at_other w.control.fuse s fuse q ne)))
  ]
  changes (Ok (StopAfter armed_on writes torn)) is name q set named = elim (cases_eq q s) [
    | inl e ↦ inr (e, inr (record { name = armed_on; writes = writes; torn = torn; is = sym is; named = ap (λ n. server_named w.control (name_bytes n)) (cc) ∙ named ∙ ap Some e }, refl))
    | inr ne ↦ inl (ne, refl)
  ]
  changes asked is name q set named = let never : None ≡ Some name = set in absurd cc

  abbrev Ends : World → Type 0
  Ends v = LaterBy s d u v ⊎ Anew × (v ≡ u)

  ends : (h : ℕ → Option Fuse) → ((q : ℕ) → Stands q (u.control.fuse q) (h q)) → Ends (with_fuses u h)
  ends h all = by (all s)
    where
      far : (q : ℕ) → q ≢ s → h q ≡ u.control.fuse q
      far q ne = elim (all q) [
        | inl there ↦ sym there.1
        | inr here ↦ absurd (ne here.0)
      ]

      by : Stands s (u.control.fuse s) (h s) → Ends (with_fuses u h)
      by (inl (ne, is)) = absurd (ne refl)
      by (inr (here, inl more)) = inl (record { fuse = h s; is = one-fuse u h s far; later = more })
      by (inr (here, inr (anew, is))) = inr (anew, one-fuse u h s far ∙ ap (with_fuses u) (fun_ext (λ q. same q)))
        where
          same : (q : ℕ) → at u.control.fuse s (h s) q ≡ u.control.fuse q
          same q = elim (cases_eq q s) [
            | inl e ↦ ap (at u.control.fuse s (h s)) e ∙ at_same u.control.fuse s (h s) ∙ sym is ∙ ap u.control.fuse (sym e)
            | inr ne ↦ at_other u.control.fuse s (h s) q ne
          ]

  steps : tells_stop s (told_since w u) ≡ false → Ends (after_task (with_fuses w g) t)
  steps untold = by (task-alike Stands (M s d Anew) (goes s d Anew) w g begins t.line t.asked t.listed (changes t.asked refl))
    where
      by : Alike Stands (M s d Anew) (goes s d Anew) w u (after_task (with_fuses w g) t) → Ends (after_task (with_fuses w g) t)
      by (inl same) = subst Ends (sym same.is) (ends same.fuse same.fuses)
      by (inr parted) =
          let told : told_since w u ≡ parted.common ++ parted.rest = told-since w u (parted.common ++ parted.rest) parted.first in
          absurd (false_true untold (ap (tells_stop s) told ∙ tells-later s parted.common parted.rest (tells-first s parted.rest (parted.tells ∙ ap Some parted.met))))

pub unreached : (s : ℕ) (w v : World) (t : Task) → UnreachedChangesNothing s w v t
unreached s w v t d later keeps untold = subst (λ v. Ends s d w t later.fuse later.later keeps (after_task v t)) (sym later.is) (steps s d w t later.fuse later.later keeps untold)
