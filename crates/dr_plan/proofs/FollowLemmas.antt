-- Which lines may follow which: each is in the grammar, and after an announcement stands a line with a step.
use Rattle.std.proofs.Common.{ℕ, ◌≡◌, List, [], ◌∷◌, ◌++◌, refl, ap, sym, ◌∙◌, subst, arith, append_assoc, Bool, true, false, ◌⊎◌, inl, inr}
use Rattle.std.specs.Prelude.{Ok, Option, Some, None, All}
use Rattle.std.proofs.lemmas.Bool.{cases_Bool}
use Rattle.std.proofs.lemmas.List.Elements.{All-nil, All-cons, All-drop}
use Rattle.dr_model.specs.declared.step.Step.{Step}
use Rattle.dr_model.specs.Grammar.{line_of}
use Rattle.dr_plan.specs.declared.marks.Mark.{Mark}
use Rattle.dr_plan.specs.declared.marks.Mark.TheVariants.{Refused}
use Rattle.dr_plan.specs.Marks.{is_mark, mark_of}
use Rattle.dr_plan.specs.Parts.{IsMark, IsRead, BeginWithStep}
use Rattle.dr_plan.specs.Reading.{announces}
use Rattle.dr_plan.proofs.OwnLemmas.{only-refused}

-- the line announces a refusal, by whether it is one of the plan's own, and what it says
abbrev pub announces_said : Bool → Option Mark → Bool
announces_said true (Some mark) = announces mark
announces_said _ _ = false

abbrev pub is_refused : List ℕ → Bool
is_refused line = announces_said (is_mark line) (mark_of line)

-- a line that may stand, after an announcement or not
pub record MayStand (waits : Bool) (line : List ℕ) : Type 0 where
  pub steps : List Step
  pub read : line_of line ≡ Ok steps
  pub some : waits ≡ true → BeginWithStep (line ∷ [])

-- lines that may stand one after another, and whether the last one announces a refusal
unfoldable pub Passes : Bool → List (List ℕ) → Bool → Type 0
Passes waits [] last = waits ≡ last
Passes waits (line ∷ rest) last = MayStand waits line × Passes (is_refused line) rest last

pub refused-is : (line : List ℕ) → IsMark line Refused → is_refused line ≡ true
refused-is line m = λ i. announces_said (m.0 i) (m.1 i)

pub plain-not : (line : List ℕ) → is_mark line ≡ false → is_refused line ≡ false
plain-not line e = by (mark_of line)
  where
    by : (said : Option Mark) → announces_said (is_mark line) said ≡ false
    by None = ap (λ b. announces_said b None) e
    by (Some mark) = ap (λ b. announces_said b (Some mark)) e

pub says-not : (line : List ℕ) (mark : Mark) → IsMark line mark → announces mark ≡ false → is_refused line ≡ false
says-not line mark m e = (λ i. announces_said (m.0 i) (m.1 i)) ∙ e

-- ---- one line more, and two parts

pub passes-none : (waits : Bool) → Passes waits [] waits
unfolding Passes
passes-none waits = refl

pub passes-more : (first mid : Bool) (done : List (List ℕ)) (line : List ℕ) → Passes first done mid → MayStand mid line → Passes first (done ++ line ∷ []) (is_refused line)
unfolding Passes
passes-more first mid [] line p m = (subst (λ w. MayStand w line) (sym p) m, refl)
passes-more first mid (l ∷ done) line p m = (p.0, passes-more (is_refused l) mid done line p.1 m)

pub record Parted (first last : Bool) (a b : List (List ℕ)) : Type 0 where
  pub mid : Bool
  pub before : Passes first a mid
  pub behind : Passes mid b last

pub passes-parts : (first last : Bool) (a b : List (List ℕ)) → Passes first (a ++ b) last → Parted first last a b
unfolding Passes
passes-parts first last [] b p = record { mid = first; before = refl; behind = p }
passes-parts first last (line ∷ a) b p = let r = passes-parts (is_refused line) last a b p.1 in record { mid = r.mid; before = (p.0, r.before); behind = r.behind }

pub passes-first : (first last : Bool) (line : List ℕ) (rest : List (List ℕ)) → Passes first (line ∷ rest) last → MayStand first line × Passes (is_refused line) rest last
unfolding Passes
passes-first first last line rest p = p

pub passes-end : (first last : Bool) → Passes first [] last → first ≡ last
unfolding Passes
passes-end first last p = p

-- ---- as a plan says it

pub all-read : (first last : Bool) (lines : List (List ℕ)) → Passes first lines last → All IsRead lines
unfolding Passes
all-read first last [] p = All-nil IsRead
all-read first last (line ∷ rest) p = All-cons IsRead line rest (p.0.steps, p.0.read) (all-read (is_refused line) last rest p.1)

-- after an announcement the next line has a step
next_step : (rest : List (List ℕ)) → Passes true rest false → BeginWithStep rest
unfolding Passes
next_step [] p = absurd cc
next_step (line ∷ rest) p = p.0.some refl

followed_in : (first : Bool) (above below : List (List ℕ)) (line : List ℕ) → Passes first (above ++ line ∷ below) false → IsMark line Refused → BeginWithStep below
unfolding Passes
followed_in first [] below line p m = next_step below (subst (λ w. Passes w below false) (refused-is line m) p.1)
followed_in first (l ∷ above) below line p m = followed_in (is_refused l) above below line p.1 m

pub all-followed : (first : Bool) (lines : List (List ℕ)) → Passes first lines false → (above below : List (List ℕ)) (line : List ℕ) → lines ≡ above ++ line ∷ below → IsMark line Refused → BeginWithStep below
all-followed first lines p above below line cut m = followed_in first above below line (subst (λ ls. Passes first ls false) cut p) m

-- and the way back
refused_mark : (line : List ℕ) → is_refused line ≡ true → IsMark line Refused
refused_mark line e = by (is_mark line) refl (mark_of line) refl e
  where
    by : (own : Bool) → is_mark line ≡ own → (said : Option Mark) → mark_of line ≡ said → announces_said own said ≡ true → IsMark line Refused
    by true o None s h = absurd cc
    by true o (Some mark) s h = (o, s ∙ ap Some (only-refused mark h))
    by false o None s h = absurd cc
    by false o (Some mark) s h = absurd cc

pub passes-of : (lines done rest : List (List ℕ)) (waits : Bool) → lines ≡ done ++ rest → All IsRead rest → ((above below : List (List ℕ)) (line : List ℕ) → lines ≡ above ++ line ∷ below → IsMark line Refused → BeginWithStep below)
    → (waits ≡ true → BeginWithStep rest) → Passes waits rest false
unfolding Passes
passes-of lines done [] waits cut read followed begins = by (cases_Bool waits)
  where
    by : (waits ≡ true) ⊎ (waits ≡ false) → waits ≡ false
    by (inl e) = absurd (begins e)
    by (inr e) = e
passes-of lines done (line ∷ rest) waits cut read followed begins =
    let first = read 0 line (omega arith) in (
      record { steps = first.0; read = first.1; some = begins },
      passes-of lines (done ++ line ∷ []) rest (is_refused line) (cut ∙ sym (append_assoc done (line ∷ []) rest)) (All-drop IsRead 1 (line ∷ rest) read) followed (λ e. followed done rest line cut (refused_mark line e)),
    )
