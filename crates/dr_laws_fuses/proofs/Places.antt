-- If fuses of other servers let more writes pass, the first stop of some servers stays.
use Rattle.std.proofs.Common.{ℕ, ◌-◌, ◌≤◌, ◌≡◌, ◌≢◌, ◌⊎◌, inl, inr, refl, ap, ◌∙◌, sym, subst, arith, Bool, true, false, List, [], ◌∷◌, ◌++◌, Option, Some, None, Result, Ok, nat_le}
use Rattle.std.proofs.lemmas.Bool.{cases_eq, leb-true, le-leb}
use Rattle.std.specs.Option.{option_or}
use Rattle.std.specs.Prelude.{slice_get}
use Rattle.std.specs.List.{filter_map, cons_option}
use Rattle.dr_logic.proofs.Options.{none_some}
use Rattle.dr_model.specs.declared.event.Event.{Event}
use Rattle.dr_model.specs.declared.event.Event.TheVariants.{Stopped}
use Rattle.dr_model.specs.declared.step.Name.{Name}
use Rattle.dr_model.specs.declared.step.Step.{Step}
use Rattle.dr_model.specs.declared.step.Step.TheVariants.{Start, StopAfter}
use Rattle.dr_model.specs.Control.{Fuse, World}
use Rattle.dr_model.specs.Carry.{lower}
use Rattle.dr_model.specs.Plans.{server_named, name_bytes, armed, fuse_at_start}
use Rattle.dr_model.specs.Runs.{Task, after_task}
use Rattle.dr_laws_sound.specs.Stops.{first_stop}
use Rattle.dr_laws_fuses.specs.Fuses.{with_fuses, fuse_changed, changed_fuse}
use Rattle.dr_laws_fuses.specs.Laws.{told_since, Outlasts, Lasts, stop_at, StartsAlike, FirstPlaceStays}
use Rattle.dr_laws_fuses.proofs.Acts.{Goes, Passes, Meets}
use Rattle.dr_laws_fuses.proofs.Steps.{Alike, task-alike}
use Rattle.dr_laws_fuses.proofs.Later.{left-later, same-goes, told-since}

-- a place is the one that is given, or it isn't
same-place : (p : ℕ) (own : Option ℕ) → (Some p ≡ own) ⊎ (Some p ≢ own)
same-place p None = inr (λ e. cc)
same-place p (Some q) = elim (cases_eq p q) [
  | inl e ↦ inl (ap Some e)
  | inr ne ↦ inr (λ e. ne (let is : p ≡ q = cc in is))
]

-- a start that leaves the first of two fuses leaves the later one
started-outlasts : (f g : Option Fuse) → fuse_at_start f ≡ f → Outlasts f g → Outlasts (fuse_at_start f) (fuse_at_start g)
started-outlasts None None left more = tt
started-outlasts None (Some g) left more = absurd more
started-outlasts (Some f) None left more = tt
started-outlasts (Some f) (Some g) left more = subst (λ x. Outlasts x (fuse_at_start (Some g))) (sym left) (subst (Outlasts (Some f)) (sym (left-later f g more left)) more)

module _ (place : ℕ → Option ℕ) (own : Option ℕ) where
  -- the fuse of server q, by its place
  record Stands (q : ℕ) (f g : Option Fuse) : Type 0 where
    kept : place q ≡ None → g ≡ f
    same : place q ≡ own → g ≡ f
    others : Outlasts f g

  -- a server at another place
  abbrev Other : ℕ → Type 0
  Other q = (p : ℕ) × (place q ≡ Some p) × (Some p ≢ own)

  equal-stands : (q : ℕ) (f g : Option Fuse) → f ≡ g → Stands q f g
  equal-stands q f g is = record { kept = λ none. sym is; same = λ here. sym is; others = subst (Outlasts f) is (itself f) }
    where
      itself : (f : Option Fuse) → Outlasts f f
      itself None = tt
      itself (Some f) = let le : f.after ≤ f.after = omega arith in le

  -- either the fuses are the same, or the server is at another place
  by-place : (q : ℕ) (f g : Option Fuse) → Stands q f g → (f ≡ g) ⊎ Other q
  by-place q f g stands = by (place q) refl
    where
      by : (o : Option ℕ) → place q ≡ o → (f ≡ g) ⊎ Other q
      by None is = inl (sym (stands.kept is))
      by (Some p) is = elim (same-place p own) [
        | inl e ↦ inl (sym (stands.same (is ∙ e)))
        | inr ne ↦ inr (p, is, ne)
      ]

  -- of a server at another place
  module _ (q : ℕ) (there : Other q) where
    apart : (f g : Option Fuse) → Outlasts f g → Stands q f g
    apart f g more = record {
      kept = λ none. none_some none there.1;
      same = λ here. absurd (there.2 (sym there.1 ∙ here));
      others = more;
    }

    lasts-other : (f g : Option Fuse) (n : ℕ) → Outlasts f g → Goes Stands Other q f g n
    lasts-other None None n more = Passes refl refl (apart None None tt)
    lasts-other (Some f) None n more = by (nat_le n f.after) refl
      where
        by : (b : Bool) → nat_le n f.after ≡ b → Goes Stands Other q (Some f) None n
        by true p = Passes p refl (apart (lower n (Some f)) None tt)
        by false p = Meets p there
    lasts-other (Some f) (Some g) n more = by (nat_le n f.after) refl
      where
        by : (b : Bool) → nat_le n f.after ≡ b → Goes Stands Other q (Some f) (Some g) n
        by true p =
            let one : n ≤ f.after = leb-true n f.after p in
            let le : n ≤ g.after = omega arith in
            let less : f.after - n ≤ g.after - n = omega arith in
            Passes p (le-leb n g.after le) (apart (lower n (Some f)) (lower n (Some g)) less)
        by false p = Meets p there
    lasts-other None (Some g) n more = absurd more

  lasts : (q : ℕ) (f g : Option Fuse) (n : ℕ) → Stands q f g → Goes Stands Other q f g n
  lasts q f g n stands = elim (by-place q f g stands) [
    | inl is ↦ same-goes Stands Other q f g n is (equal-stands q)
    | inr there ↦ lasts-other q there f g n stands.others
  ]

  -- the first of them among events, which may come after others
  abbrev first : List Event → Option ℕ
  first es = slice_get (filter_map (stop_at place) es) 0

  first-both : (es fs : List Event) → first (es ++ fs) ≡ option_or (first es) (first fs)
  first-both [] fs = refl
  first-both (e ∷ es) fs = by (stop_at place e) (first-both es fs)
    where
      by : (o : Option ℕ) → first (es ++ fs) ≡ option_or (first es) (first fs) → slice_get (cons_option o (filter_map (stop_at place) (es ++ fs))) 0 ≡ option_or (slice_get (cons_option o (filter_map (stop_at place) es)) 0) (first fs)
      by None rest = rest
      by (Some p) rest = refl

  -- if the first stop is that of a server at a place, that is the first of them
  first-stop : (es : List Event) (q p : ℕ) → place q ≡ Some p → first_stop es ≡ Some q → first es ≡ Some p
  first-stop [] q p there stops = absurd (let never : None ≡ Some q = stops in cc)
  first-stop (Stopped s w ∷ es) q p there stops = let is : s ≡ q = cc in ap (λ o. slice_get (cons_option o (filter_map (stop_at place) es)) 0) (ap place is ∙ there)
  first-stop (e ∷ es) q p there stops = first-stop es q p there stops

  module _ (w : World) (t : Task) (h : ℕ → Option Fuse) (more : Lasts place own w.control.fuse h) (starts : StartsAlike w h t.asked) where
    all-stand : (q : ℕ) → Stands q (w.control.fuse q) (h q)
    all-stand q = record { kept = more.kept q; same = more.same q; others = more.others q }

    place-changes : (asked : Result Step ℕ) → asked ≡ t.asked → (name : Name) (q : ℕ) → fuse_changed asked ≡ Some name → server_named w.control (name_bytes name) ≡ Some q → Stands q (changed_fuse asked (w.control.fuse q)) (changed_fuse asked (h q))
    place-changes (Ok (Start start)) is name q set named =
        let here : server_named w.control (name_bytes start) ≡ Some q = ap (λ n. server_named w.control (name_bytes n)) (let same : start ≡ name = cc in same) ∙ named in
        elim (starts start q (sym is) here) [
          | inl same ↦ equal-stands q (fuse_at_start (w.control.fuse q)) (fuse_at_start (h q)) (ap fuse_at_start (sym same))
          | inr left ↦ record {
            kept = λ none. ap fuse_at_start (more.kept q none);
            same = λ here. ap fuse_at_start (more.same q here);
            others = started-outlasts (w.control.fuse q) (h q) left (more.others q);
          }
        ]
    place-changes (Ok (StopAfter armed_on writes torn)) is name q set named = equal-stands q (Some (armed writes torn)) (Some (armed writes torn)) refl
    place-changes asked is name q set named = let never : None ≡ Some name = set in absurd cc

    place-stays : first (told_since w (after_task w t)) ≡ own → first (told_since w (after_task (with_fuses w h) t)) ≡ own
    place-stays one = by (task-alike Stands Other lasts w h all-stand t.line t.asked t.listed (place-changes t.asked refl))
      where
        by : Alike Stands Other lasts w (after_task w t) (after_task (with_fuses w h) t) → first (told_since w (after_task (with_fuses w h) t)) ≡ own
        by (inl same) = subst (λ v. first (told_since w v) ≡ own) (sym same.is) one
        by (inr parted) = ap first (told-since w (after_task (with_fuses w h) t) (parted.common ++ parted.other) parted.second) ∙ first-both parted.common parted.other ∙ common (first parted.common) early
          where
            p : ℕ
            p = parted.met.0

            late : first parted.rest ≡ Some parted.met.0
            late = first-stop parted.rest parted.server parted.met.0 parted.met.1 parted.tells

            early : option_or (first parted.common) (Some parted.met.0) ≡ own
            early = ap (option_or (first parted.common)) (sym late) ∙ sym (first-both parted.common parted.rest) ∙ sym (ap first (told-since w (after_task w t) (parted.common ++ parted.rest) parted.first)) ∙ one

            common : (o : Option ℕ) → option_or o (Some parted.met.0) ≡ own → option_or o (first parted.other) ≡ own
            common None is = absurd (parted.met.2 is)
            common (Some x) is = is

pub first-place-stays : (place : ℕ → Option ℕ) (own : Option ℕ) (w : World) (g : ℕ → Option Fuse) (t : Task) → FirstPlaceStays place own w g t
first-place-stays place own w g t more starts one = place-stays place own w t g more starts one
