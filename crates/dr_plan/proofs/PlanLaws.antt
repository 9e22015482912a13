-- What is read is a plan.
use Rattle.std.proofs.Common.{ℕ, ◌≡◌, ◌≤◌, ◌+◌, Bool, true, false, cond, List, [], ◌∷◌, ◌++◌, length, refl, ap, sym, ◌∙◌, subst, arith, append_assoc, nat_eq, nat_le, nat_lt, Option, Some, None, ◌⊎◌, inl, inr}
use Rattle.std.specs.Prelude.{Result, Ok, Err, ◌||◌}
use Rattle.std.proofs.lemmas.Bool.{cases_Bool}
use Rattle.std.proofs.lemmas.Grind.{common_steps}
use Rattle.std.proofs.lemmas.List.{append-nil}
use Rattle.std.proofs.lemmas.List.Elements.{All-nil}
use Rattle.std.proofs.lemmas.Option.{same_Some}
use Rattle.dr_model.specs.declared.step.Name.{Name}
use Rattle.dr_model.specs.declared.step.Step.{Step}
use Rattle.dr_model.specs.Grammar.{line_of}
use Rattle.dr_model.specs.LineWords.{paired, span_len}
use Rattle.dr_plan.specs.declared.marks.Mark.{Mark}
use Rattle.dr_plan.specs.declared.marks.Mark.TheVariants.{Lose, Use, AtMost, Here, Then, Refused}
use Rattle.dr_plan.specs.declared.stages.Stage.{Stage}
use Rattle.dr_plan.specs.declared.stages.Stage.TheVariants.{Start, Losing, Using, Bounded, Trying, Recovering}
use Rattle.dr_plan.specs.declared.reading.Reading.{Reading}
use Rattle.dr_plan.specs.declared.reason.Reason.{Reason}
use Rattle.dr_plan.specs.declared.reason.Reason.TheVariants.{ManyDisasters, ManyServers, ManyUses, UnequalRanges, NoLineFollows}
use Rattle.dr_plan.specs.Above.{unless, servers_in, volumes_in}
use Rattle.dr_plan.specs.Marks.{is_mark, mark_of}
use Rattle.dr_plan.specs.Parts.{IsMark, IsSetup, IsPlan, Ranges, ComeOnce, Tries, marks_in, announced_by, announced_from}
use Rattle.dr_plan.specs.Reading.{Bad, announces, servers_fault, pairs_fault, has_use, with_pairs, used_pairs, stage_after, with_line, kept, noted, read_on, read_lines, lacking, missing, finished_by, finished, begun, sweep_of, tried_steps}
use Rattle.dr_plan.specs.Sweep.{Sweep, Tried, most_disasters, most_servers, most_uses}
use Rattle.dr_plan.proofs.ApartLemmas.{tries-none, tries-more}
use Rattle.dr_plan.proofs.FaultLaws.{ok-of, unless-of}
use Rattle.dr_plan.proofs.FollowLemmas.{Passes, MayStand, plain-not, says-not, refused-is, passes-none, passes-more, all-read, all-followed}
use Rattle.dr_plan.proofs.HeadLaws.{Head, head-none, head-lose, head-use, head-bound, head-setup}
use Rattle.dr_plan.proofs.OwnLemmas.{own-comment, plain-none, refused-none, only-refused, none-more, announced-more, announced-same, announced-none}
use Rattle.dr_plan.proofs.ReadLemmas.{WasRead, OfSteps, OfMark, same-Ok, was-read, stood, stood-own}

-- ---- what was read of lines, by stage

-- what the stage says of a set-up
unfoldable pub Fits : Stage → List Ranges → Sweep → Type 0
Fits Start used plan = (plan.loses ≡ []) × (used ≡ []) × (plan.bound ≡ None)
Fits Losing used plan = (1 ≤ length plan.loses) × (used ≡ []) × (plan.bound ≡ None)
Fits Using used plan = (1 ≤ length plan.loses) × (1 ≤ length used) × (plan.bound ≡ None)
Fits Bounded used plan = (1 ≤ length plan.loses) × (1 ≤ length used) × Unit {0}
Fits _ used plan = ⊥ × ⊥ × ⊥

pub record Setup (done : List (List ℕ)) (stage : Stage) (plan : Sweep) : Type 0 where
  pub used : List Ranges
  pub head : Head done used plan
  pub fits : Fits stage used plan

-- lines are tried so far
pub record Middle (done : List (List ℕ)) (plan : Sweep) : Type 0 where
  pub begin : List ℕ
  pub between : List (List ℕ)
  pub cut : done ≡ plan.setup ++ begin ∷ between
  pub begins : IsMark begin Here
  pub setup : IsSetup plan
  pub tries : Tries (length plan.setup + 2) between plan.tried
  pub unmarked : marks_in between ≡ []
  pub recovery : plan.recovery ≡ []

-- the recovery has begun
pub record Whole (done : List (List ℕ)) (plan : Sweep) : Type 0 where
  pub begin : List ℕ
  pub between : List (List ℕ)
  pub end : List ℕ
  pub cut : done ≡ (plan.setup ++ begin ∷ between) ++ end ∷ plan.recovery
  pub begins : IsMark begin Here
  pub ends : IsMark end Then
  pub setup : IsSetup plan
  pub unmarked : marks_in between ≡ []
  pub unmarked_after : marks_in plan.recovery ≡ []
  pub tries : Tries (length plan.setup + 2) between plan.tried
  pub place : plan.then_line ≡ length plan.setup + 2 + length between

unfoldable pub Part : Stage → List (List ℕ) → Sweep → Type 0
Part Trying done plan = Middle done plan
Part Recovering done plan = Whole done plan
Part stage done plan = Setup done stage plan

-- what was read of these lines
pub record Read (done : List (List ℕ)) (r : Reading) : Type 0 where
  pub passes : Passes false done r.waits
  pub announced : r.plan.announced ≡ announced_from 1 done
  pub part : Part r.stage done r.plan

-- ---- a line that says no disaster, use or bound, nor begins a part

-- a set-up stays, whatever is tried
setup_stays : (plan : Sweep) (tried : List Tried) (then_line : ℕ) (recovery : List (List ℕ)) (announced : List ℕ) → IsSetup plan
    → IsSetup (record plan { tried = tried; then_line = then_line; recovery = recovery; announced = announced })
setup_stays plan tried then_line recovery announced s = record {
  used = s.used;
  marks = s.marks;
  uses = s.uses;
  some_lost = s.some_lost;
  few_lost = s.few_lost;
  few_servers = s.few_servers;
  some_used = s.some_used;
  few_used = s.few_used;
  once = s.once;
  servers = s.servers;
  lengths = s.lengths;
  volumes = s.volumes;
}

-- the number of the line after those that are tried so far
middle_length : (done setup between : List (List ℕ)) (begin : List ℕ) (number : ℕ) → done ≡ setup ++ begin ∷ between → number ≡ length done + 1 → number ≡ length setup + 2 + length between
middle_length done setup between begin number cut at =
    let all : length (setup ++ begin ∷ between) ≡ length setup + 1 + length between = grind (arith, common_steps) in
    let same : length done ≡ length (setup ++ begin ∷ between) = ap length cut in
    omega (arith, at, all, same)

none_step : (done : List (List ℕ)) (line : List ℕ) (steps : List Step) (stage : Stage) (plan : Sweep) (number : ℕ) (announced : List ℕ) → marks_in (line ∷ []) ≡ [] → line_of line ≡ Ok steps → number ≡ length done + 1 → Part stage done plan
    → Part stage (done ++ line ∷ []) (record (kept stage number line steps plan) { announced = announced })
unfolding Part Fits
none_step done line steps Start plan number announced none is at p = record { used = p.used; head = head-none done line p.used plan announced none p.head; fits = p.fits }
none_step done line steps Losing plan number announced none is at p = record { used = p.used; head = head-none done line p.used plan announced none p.head; fits = p.fits }
none_step done line steps Using plan number announced none is at p = record { used = p.used; head = head-none done line p.used plan announced none p.head; fits = p.fits }
none_step done line steps Bounded plan number announced none is at p = record { used = p.used; head = head-none done line p.used plan announced none p.head; fits = p.fits }
none_step done line steps Trying plan number announced none is at p = record {
  begin = p.begin;
  between = p.between ++ line ∷ [];
  cut = ap (λ ls. ls ++ line ∷ []) p.cut ∙ append_assoc plan.setup (p.begin ∷ p.between) (line ∷ []);
  begins = p.begins;
  setup = setup_stays plan (plan.tried ++ tried_steps number line steps) plan.then_line plan.recovery announced p.setup;
  tries = tries-more (length plan.setup + 2) number p.between plan.tried line steps (middle_length done plan.setup p.between p.begin number p.cut at) is p.tries;
  unmarked = none-more p.between line none ∙ p.unmarked;
  recovery = p.recovery;
}
none_step done line steps Recovering plan number announced none is at p = record {
  begin = p.begin;
  between = p.between;
  end = p.end;
  cut = ap (λ ls. ls ++ line ∷ []) p.cut ∙ append_assoc (plan.setup ++ p.begin ∷ p.between) (p.end ∷ plan.recovery) (line ∷ []);
  begins = p.begins;
  ends = p.ends;
  setup = setup_stays plan plan.tried plan.then_line (plan.recovery ++ line ∷ []) announced p.setup;
  unmarked = p.unmarked;
  unmarked_after = none-more plan.recovery line none ∙ p.unmarked_after;
  tries = p.tries;
  place = p.place;
}

-- a line without steps is kept as a comment
kept_nothing : (stage : Stage) (number : ℕ) (line : List ℕ) (plan : Sweep) → kept stage number line [] plan ≡ with_line stage line plan
kept_nothing Start number line plan = refl
kept_nothing Losing number line plan = refl
kept_nothing Using number line plan = refl
kept_nothing Bounded number line plan = refl
kept_nothing Trying number line plan = λ i. record plan { tried = append-nil plan.tried i }
kept_nothing Recovering number line plan = refl

-- what is kept announces nothing
kept_same : (stage : Stage) (number : ℕ) (line : List ℕ) (steps : List Step) (plan : Sweep) → record (kept stage number line steps plan) { announced = plan.announced } ≡ kept stage number line steps plan
kept_same Start number line steps plan = refl
kept_same Losing number line steps plan = refl
kept_same Using number line steps plan = refl
kept_same Bounded number line steps plan = refl
kept_same Trying number line steps plan = refl
kept_same Recovering number line steps plan = refl

kept_announced : (stage : Stage) (number : ℕ) (line : List ℕ) (steps : List Step) (plan : Sweep) → (kept stage number line steps plan).announced ≡ plan.announced
kept_announced stage number line steps plan = ap (λ (p : Sweep). p.announced) (sym (kept_same stage number line steps plan))

-- ---- a line that says something

middle : (done : List (List ℕ)) (line : List ℕ) (plan : Sweep) (used : List Ranges) → IsMark line Here → Head done used plan → 1 ≤ length plan.loses → 1 ≤ length used → Middle (done ++ line ∷ []) plan
middle done line plan used m h some also = record {
  begin = line;
  between = [];
  cut = ap (λ ls. ls ++ line ∷ []) (sym h.setup);
  begins = m;
  setup = head-setup done used plan h some also;
  tries = subst (Tries (length plan.setup + 2) []) (sym h.tried) (tries-none (length plan.setup + 2));
  unmarked = refl;
  recovery = h.recovery;
}

whole : (done : List (List ℕ)) (line : List ℕ) (plan : Sweep) (number : ℕ) → IsMark line Then → number ≡ length done + 1 → Middle done plan → Whole (done ++ line ∷ []) (record plan { then_line = number })
whole done line plan number m at p = record {
  begin = p.begin;
  between = p.between;
  end = line;
  cut = ap (λ ls. ls ++ line ∷ []) p.cut ∙ ap (λ ls. (plan.setup ++ p.begin ∷ p.between) ++ line ∷ ls) (sym p.recovery);
  begins = p.begins;
  ends = m;
  setup = setup_stays plan plan.tried number plan.recovery plan.announced p.setup;
  unmarked = p.unmarked;
  unmarked_after = ap marks_in p.recovery;
  tries = p.tries;
  place = middle_length done plan.setup p.between p.begin number p.cut at;
}

lose_step : (done : List (List ℕ)) (line : List ℕ) (servers : List Name) (number : ℕ) (stage : Stage) (plan next : Sweep) (used : List Ranges) → IsMark line (Lose servers) → Head done used plan → used ≡ [] → plan.bound ≡ None → noted number stage (Lose servers) line plan ≡ Ok next
    → Setup (done ++ line ∷ []) Losing next
unfolding Fits
lose_step done line servers number stage plan next used m h none unbound notes = let p = head-lose done line servers used plan next m h none unbound notes in record { used = used; head = p.0; fits = (p.1, none, p.2) }

use_step : (done : List (List ℕ)) (line : List ℕ) (mark : Mark) (r : Ranges) (number : ℕ) (stage : Stage) (plan next : Sweep) (used : List Ranges) → mark ≡ Use r.name r.first r.second → IsMark line mark → Head done used plan → 1 ≤ length plan.loses → plan.bound ≡ None
    → noted number stage mark line plan ≡ Ok next → Setup (done ++ line ∷ []) Using next
unfolding Fits
use_step done line mark r number stage plan next used says m h some unbound notes =
    let p = head-use done line r.name r.first r.second used plan next (subst (IsMark line) says m) h unbound (sym (ap (λ k. noted number stage k line plan) says) ∙ notes) in
    let more : length (used ++ p.0 ∷ []) ≡ length used + 1 = grind (arith, common_steps) in
    record { used = used ++ p.0 ∷ []; head = p.1; fits = (subst (λ (ls : List (List Name)). 1 ≤ length ls) (sym p.2) some, omega (arith, more), p.3) }

mark_step : (done : List (List ℕ)) (line : List ℕ) (mark : Mark) (number : ℕ) (stage after : Stage) (plan next : Sweep) → IsMark line mark → announces mark ≡ false → number ≡ length done + 1 → stage_after mark stage ≡ Some after → noted number stage mark line plan ≡ Ok next
    → Part stage done plan → Part after (done ++ line ∷ []) next
unfolding Part Fits
mark_step done line (Lose servers) number Start after plan next m own at goes notes p =
    subst (λ stage. Part stage (done ++ line ∷ []) next) (same_Some Losing after goes) (lose_step done line servers number Start plan next p.used m p.head p.fits.1 p.fits.2 notes)
mark_step done line (Lose servers) number Losing after plan next m own at goes notes p =
    subst (λ stage. Part stage (done ++ line ∷ []) next) (same_Some Losing after goes) (lose_step done line servers number Losing plan next p.used m p.head p.fits.1 p.fits.2 notes)
mark_step done line (Lose servers) number Using after plan next m own at goes notes p = absurd cc
mark_step done line (Lose servers) number Bounded after plan next m own at goes notes p = absurd cc
mark_step done line (Lose servers) number Trying after plan next m own at goes notes p = absurd cc
mark_step done line (Lose servers) number Recovering after plan next m own at goes notes p = absurd cc
mark_step done line (Use name first second) number Start after plan next m own at goes notes p = absurd cc
mark_step done line (Use name first second) number Losing after plan next m own at goes notes p =
    subst (λ stage. Part stage (done ++ line ∷ []) next) (same_Some Using after goes) (use_step done line (Use name first second) (record { name = name; first = first; second = second }) number Losing plan next p.used refl m p.head p.fits.0 p.fits.2 notes)
mark_step done line (Use name first second) number Using after plan next m own at goes notes p =
    subst (λ stage. Part stage (done ++ line ∷ []) next) (same_Some Using after goes) (use_step done line (Use name first second) (record { name = name; first = first; second = second }) number Using plan next p.used refl m p.head p.fits.0 p.fits.2 notes)
mark_step done line (Use name first second) number Bounded after plan next m own at goes notes p = absurd cc
mark_step done line (Use name first second) number Trying after plan next m own at goes notes p = absurd cc
mark_step done line (Use name first second) number Recovering after plan next m own at goes notes p = absurd cc
mark_step done line (AtMost n) number Start after plan next m own at goes notes p = absurd cc
mark_step done line (AtMost n) number Losing after plan next m own at goes notes p = absurd cc
mark_step done line (AtMost n) number Using after plan next m own at goes notes p =
    let now : Sweep = record plan { bound = Some n; setup = plan.setup ++ line ∷ [] } in
    let new : Setup (done ++ line ∷ []) Bounded now = record { used = p.used; head = head-bound done line n p.used plan m p.head p.fits.2; fits = (p.fits.0, p.fits.1, tt) } in
    subst (λ stage. Part stage (done ++ line ∷ []) next) (same_Some Bounded after goes) (subst (Setup (done ++ line ∷ []) Bounded) (same-Ok now next notes) new)
mark_step done line (AtMost n) number Bounded after plan next m own at goes notes p = absurd cc
mark_step done line (AtMost n) number Trying after plan next m own at goes notes p = absurd cc
mark_step done line (AtMost n) number Recovering after plan next m own at goes notes p = absurd cc
mark_step done line Here number Start after plan next m own at goes notes p = absurd cc
mark_step done line Here number Losing after plan next m own at goes notes p = absurd cc
mark_step done line Here number Using after plan next m own at goes notes p =
    subst (λ stage. Part stage (done ++ line ∷ []) next) (same_Some Trying after goes) (subst (Middle (done ++ line ∷ [])) (same-Ok plan next notes) (middle done line plan p.used m p.head p.fits.0 p.fits.1))
mark_step done line Here number Bounded after plan next m own at goes notes p =
    subst (λ stage. Part stage (done ++ line ∷ []) next) (same_Some Trying after goes) (subst (Middle (done ++ line ∷ [])) (same-Ok plan next notes) (middle done line plan p.used m p.head p.fits.0 p.fits.1))
mark_step done line Here number Trying after plan next m own at goes notes p = absurd cc
mark_step done line Here number Recovering after plan next m own at goes notes p = absurd cc
mark_step done line Then number Start after plan next m own at goes notes p = absurd cc
mark_step done line Then number Losing after plan next m own at goes notes p = absurd cc
mark_step done line Then number Using after plan next m own at goes notes p = absurd cc
mark_step done line Then number Bounded after plan next m own at goes notes p = absurd cc
mark_step done line Then number Trying after plan next m own at goes notes p =
    subst (λ stage. Part stage (done ++ line ∷ []) next) (same_Some Recovering after goes) (subst (Whole (done ++ line ∷ [])) (same-Ok (record plan { then_line = number }) next notes) (whole done line plan number m at p))
mark_step done line Then number Recovering after plan next m own at goes notes p = absurd cc
mark_step done line Refused number stage after plan next m own at goes notes p = absurd cc

-- any other line announces nothing
noted_announced : (number : ℕ) (stage : Stage) (mark : Mark) (line : List ℕ) (plan next : Sweep) → announces mark ≡ false → noted number stage mark line plan ≡ Ok next → next.announced ≡ plan.announced
noted_announced number stage (Lose servers) line plan next own notes =
    let made : Sweep = record plan { loses = plan.loses ++ servers ∷ []; setup = plan.setup ++ line ∷ [] } in
    let named = unless (servers_fault (servers_in plan.setup) [] servers) made in
    let a = ok-of (nat_lt (length plan.loses) most_disasters) (cond (nat_le (length servers) most_servers) named (Err ManyServers)) ManyDisasters next notes in
    let d = ok-of (nat_le (length servers) most_servers) named ManyServers next a.1 in
    let b = unless-of (servers_fault (servers_in plan.setup) [] servers) made next d.1 in
    ap (λ (p : Sweep). p.announced) (sym b.1)
noted_announced number stage (Use name first second) line plan next own notes =
    let made : Sweep = record plan { uses = with_pairs plan.uses name (paired first second); setup = plan.setup ++ line ∷ [] } in
    let a = ok-of (has_use plan.uses name || nat_lt (length plan.uses) most_uses) (cond (nat_eq (span_len first) (span_len second)) (used_pairs name (paired first second) line plan) (Err UnequalRanges)) ManyUses next notes in
    let b = ok-of (nat_eq (span_len first) (span_len second)) (used_pairs name (paired first second) line plan) UnequalRanges next a.1 in
    let d = unless-of (pairs_fault (volumes_in plan.setup) (paired first second)) made next b.1 in
    ap (λ (p : Sweep). p.announced) (sym d.1)
noted_announced number stage (AtMost n) line plan next own notes = ap (λ (p : Sweep). p.announced) (sym (same-Ok (record plan { bound = Some n; setup = plan.setup ++ line ∷ [] }) next notes))
noted_announced number stage Here line plan next own notes = ap (λ (p : Sweep). p.announced) (sym (same-Ok plan next notes))
noted_announced number stage Then line plan next own notes = ap (λ (p : Sweep). p.announced) (sym (same-Ok (record plan { then_line = number }) next notes))
noted_announced number stage Refused line plan next own notes = absurd cc

-- ---- one line

steps_step : (done : List (List ℕ)) (line : List ℕ) (r : Reading) (steps : List Step) (number : ℕ) → number ≡ length done + 1 → is_mark line ≡ false → line_of line ≡ Ok steps → MayStand r.waits line → Read done r
    → Read (done ++ line ∷ []) (record r { waits = false; plan = kept r.stage number line steps r.plan })
steps_step done line r steps number at plain is stands so_far =
    let nothing : announced_by number (is_mark line) (mark_of line) ≡ [] = ap (λ b. announced_by number b (mark_of line)) plain in
    record {
      passes = subst (Passes false (done ++ line ∷ [])) (plain-not line plain) (passes-more false r.waits done line so_far.passes stands);
      announced =
          kept_announced r.stage number line steps r.plan ∙ so_far.announced
          ∙ sym (announced-more 1 number done line (omega (arith, at)) ∙ ap (λ ns. announced_from 1 done ++ ns) nothing ∙ append-nil (announced_from 1 done));
      part = subst (Part r.stage (done ++ line ∷ [])) (kept_same r.stage number line steps r.plan) (none_step done line steps r.stage r.plan number r.plan.announced (plain-none line plain) is at so_far.part);
    }

refused_step : (done : List (List ℕ)) (line : List ℕ) (r : Reading) (number : ℕ) → number ≡ length done + 1 → IsMark line Refused → r.waits ≡ false → Read done r
    → Read (done ++ line ∷ []) (record { stage = r.stage; waits = true; plan = record (with_line r.stage line r.plan) { announced = r.plan.announced ++ (number + 1) ∷ [] } })
refused_step done line r number at m calm so_far =
    record {
      passes = subst (Passes false (done ++ line ∷ [])) (refused-is line m) (passes-more false r.waits done line so_far.passes (stood-own r.waits line m.0 calm));
      announced = ap (λ ns. ns ++ (number + 1) ∷ []) so_far.announced ∙ sym (announced-more 1 number done line (omega (arith, at)) ∙ ap (λ ns. announced_from 1 done ++ ns) (announced-same number line (Some Refused) m.0 m.1));
      part = subst (λ (p : Sweep). Part r.stage (done ++ line ∷ []) (record p { announced = r.plan.announced ++ (number + 1) ∷ [] })) (kept_nothing r.stage number line r.plan)
          (none_step done line [] r.stage r.plan number (r.plan.announced ++ (number + 1) ∷ []) (refused-none line m) (own-comment line m.0) at so_far.part);
    }

says_step : (done : List (List ℕ)) (line : List ℕ) (r : Reading) (mark : Mark) (after : Stage) (next : Sweep) (number : ℕ) → number ≡ length done + 1 → IsMark line mark → announces mark ≡ false → r.waits ≡ false → stage_after mark r.stage ≡ Some after
    → noted number r.stage mark line r.plan ≡ Ok next → Read done r → Read (done ++ line ∷ []) (record { stage = after; waits = announces mark; plan = next })
says_step done line r mark after next number at m own calm goes notes so_far =
    let nothing : announced_by number (is_mark line) (mark_of line) ≡ [] = announced-same number line (Some mark) m.0 m.1 ∙ announced-none number mark own in
    record {
      passes = subst (Passes false (done ++ line ∷ [])) (says-not line mark m own ∙ sym own) (passes-more false r.waits done line so_far.passes (stood-own r.waits line m.0 calm));
      announced =
          noted_announced number r.stage mark line r.plan next own notes ∙ so_far.announced
          ∙ sym (announced-more 1 number done line (omega (arith, at)) ∙ ap (λ ns. announced_from 1 done ++ ns) nothing ∙ append-nil (announced_from 1 done));
      part = mark_step done line mark number r.stage after r.plan next m own at goes notes so_far.part;
    }

pub read-step : (done : List (List ℕ)) (line : List ℕ) (r next : Reading) (number : ℕ) → number ≡ length done + 1 → read_on number r line ≡ Ok next → Read done r → Read (done ++ line ∷ []) next
read-step done line r next number at h so_far = by (was-read number r next line h)
  where
    refused : (mark : Mark) (after : Stage) (plan : Sweep) → mark ≡ Refused → IsMark line mark → r.waits ≡ false → stage_after mark r.stage ≡ Some after → noted number r.stage mark line r.plan ≡ Ok plan → Read (done ++ line ∷ []) (record { stage = after; waits = announces mark; plan = plan })
    refused mark after plan is m calm goes notes =
        let own : IsMark line Refused = subst (IsMark line) is m in
        let stays : r.stage ≡ after = same_Some _ _ (sym (ap (λ k. stage_after k r.stage) is) ∙ goes) in
        let now : record (with_line r.stage line r.plan) { announced = r.plan.announced ++ (number + 1) ∷ [] } ≡ plan = same-Ok _ _ (sym (ap (λ k. noted number r.stage k line r.plan) is) ∙ notes) in
        subst (Read (done ++ line ∷ [])) (λ i. record { stage = stays i; waits = announces (sym is i); plan = now i }) (refused_step done line r number at own calm so_far)

    says : (mark : Mark) (after : Stage) (plan : Sweep) → (announces mark ≡ true) ⊎ (announces mark ≡ false) → IsMark line mark → r.waits ≡ false → stage_after mark r.stage ≡ Some after → noted number r.stage mark line r.plan ≡ Ok plan
        → Read (done ++ line ∷ []) (record { stage = after; waits = announces mark; plan = plan })
    says mark after plan (inl a) m calm goes notes = refused mark after plan (only-refused mark a) m calm goes notes
    says mark after plan (inr a) m calm goes notes = says_step done line r mark after plan number at m a calm goes notes so_far

    by : WasRead number r line next → Read (done ++ line ∷ []) next
    by (OfSteps steps plain is room same) = subst (Read (done ++ line ∷ [])) (sym same) (steps_step done line r steps number at plain is (stood r.waits line steps is room) so_far)
    by (OfMark mark after plan m calm goes notes same) = subst (Read (done ++ line ∷ [])) (sym same) (says mark after plan (cases_Bool (announces mark)) m calm goes notes)

-- ---- all lines

-- before the first line nothing was read
pub read-begun : Read [] begun
unfolding Part Fits announced_from
read-begun = record {
  passes = passes-none false;
  announced = refl;
  part = record {
    used = [];
    head = record {
      setup = refl;
      marks = refl;
      uses = refl;
      few = omega arith;
      few_used = omega arith;
      few_servers = All-nil (λ (names : List Name). length names ≤ most_servers);
      once = All-nil ComeOnce;
      servers = λ above names s. no_line above (s.0) (s.1) (s.2);
      lengths = All-nil (λ (r : Ranges). span_len r.first ≡ span_len r.second);
      volumes = λ above r s. no_line above (s.0) (s.1) (s.2);
      tried = refl;
      recovery = refl;
    };
    fits = (refl, refl, refl);
  };
}
  where
    no_line : {P : Type 0} (above : List (List ℕ)) (line : List ℕ) (below : List (List ℕ)) → [] ≡ above ++ line ∷ below → P
    no_line [] line below e = absurd cc
    no_line (l ∷ above) line below e = absurd cc

-- a reading that has come to its end
pub plan-whole : (done : List (List ℕ)) (plan : Sweep) → Whole done plan → Passes false done false → plan.announced ≡ announced_from 1 done → IsPlan done plan
plan-whole done plan w passes announced = record {
  begin = w.begin;
  between = w.between;
  end = w.end;
  cut = w.cut;
  begins = w.begins;
  ends = w.ends;
  setup = w.setup;
  unmarked = w.unmarked;
  unmarked_after = w.unmarked_after;
  read = all-read false false done passes;
  tries = w.tries;
  place = w.place;
  announced = announced;
  followed = all-followed false done passes;
}

pub finished-plan : (done : List (List ℕ)) (r : Reading) → r.waits ≡ false → lacking r.stage ≡ None → Read done r → IsPlan done r.plan
unfolding Part
finished-plan done r calm whole_is so_far = by r.stage refl whole_is so_far.part
  where
    by : (stage : Stage) → r.stage ≡ stage → lacking stage ≡ None → Part stage done r.plan → IsPlan done r.plan
    by Start e h p = absurd cc
    by Losing e h p = absurd cc
    by Using e h p = absurd cc
    by Bounded e h p = absurd cc
    by Trying e h p = absurd cc
    by Recovering e h p = plan-whole done r.plan p (subst (Passes false done) calm so_far.passes) so_far.announced

-- what is missing where a plan is finished
pub finished-as : (number : ℕ) (r : Reading) (plan : Sweep) → finished number r ≡ Ok plan → (r.waits ≡ false) × (lacking r.stage ≡ None) × (r.plan ≡ plan)
finished-as number r plan h = by r.waits refl (missing r) refl h
  where
    by : (waits : Bool) → r.waits ≡ waits → (m : Option Reason) → missing r ≡ m → finished_by number r.plan m ≡ Ok plan → (r.waits ≡ false) × (lacking r.stage ≡ None) × (r.plan ≡ plan)
    by waits w (Some reason) is k = absurd cc
    by true w None is k = let bad : Some NoLineFollows ≡ None = sym (ap (λ b. cond b (Some NoLineFollows) (lacking r.stage)) w) ∙ is in absurd cc
    by false w None is k = (w, sym (ap (λ b. cond b (Some NoLineFollows) (lacking r.stage)) w) ∙ is, cc)

read_all : (number : ℕ) (r : Reading) (lines done : List (List ℕ)) (plan : Sweep) → number ≡ length done + 1 → read_lines number r lines ≡ Ok plan → Read done r → IsPlan (done ++ lines) plan
unfolding read_lines
read_all number r [] done plan at h so_far =
    let f = finished-as number r plan h in
    subst (λ ls. IsPlan ls plan) (sym (append-nil done)) (subst (IsPlan done) f.2 (finished-plan done r f.0 f.1 so_far))
read_all number r (line ∷ rest) done plan at h so_far =
    by (read_on number r line) refl h
    (λ next is k. read_all (number + 1) next rest (done ++ line ∷ []) plan (let size : length (done ++ line ∷ []) ≡ length done + 1 = grind (arith, common_steps) in omega (arith, at, size)) k (read-step done line r next number at is so_far))
  where
    by : (o : Result Reading Reason) → read_on number r line ≡ o → (elim o as (λ _. Result Sweep Bad) [ Err reason ↦ Err (record { line = number; reason = reason }) | Ok next ↦ read_lines (number + 1) next rest ]) ≡ Ok plan
        → ((next : Reading) → read_on number r line ≡ Ok next → read_lines (number + 1) next rest ≡ Ok plan → IsPlan ((done ++ line ∷ []) ++ rest) plan) → IsPlan (done ++ line ∷ rest) plan
    by (Err reason) is k further = absurd cc
    by (Ok next) is k further = subst (λ ls. IsPlan ls plan) (append_assoc done (line ∷ []) rest) (further next is k)

pub plan-read : (lines : List (List ℕ)) (plan : Sweep) → sweep_of lines ≡ Ok plan → IsPlan lines plan
plan-read lines plan h = read_all 1 begun lines [] plan refl h read-begun
