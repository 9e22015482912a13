-- Each plan is read.
use Rattle.std.proofs.Common.{ℕ, ◌≡◌, ◌<◌, ◌≤◌, ◌+◌, Bool, true, false, cond, List, [], ◌∷◌, ◌++◌, length, map, refl, ap, sym, ◌∙◌, subst, arith, append_assoc, nat_eq, nat_le, nat_lt, Option, Some, None}
use Rattle.std.specs.Prelude.{All, Ok, Err, fold}
use Rattle.std.proofs.lemmas.Bool.Decides.{nat_tests}
use Rattle.std.proofs.lemmas.Grind.{common_steps}
use Rattle.std.proofs.lemmas.List.{append-nil, get_or_at}
use Rattle.std.proofs.lemmas.List.Elements.{All-drop}
use Rattle.std.proofs.lemmas.Option.{same_Some}
use Rattle.dr_facts.proofs.Options.{bound}
use Rattle.dr_model.specs.declared.step.Name.{Name}
use Rattle.dr_model.specs.declared.step.Step.{Step}
use Rattle.dr_model.specs.Grammar.{line_of}
use Rattle.dr_model.specs.LineWords.{◌>>=◌, paired, span_len}
use Rattle.dr_plan.specs.declared.marks.Mark.{Mark}
use Rattle.dr_plan.specs.declared.marks.Mark.TheVariants.{Lose, AtMost, Here, Then, Refused}
use Rattle.dr_plan.specs.declared.stages.Stage.{Stage}
use Rattle.dr_plan.specs.declared.stages.Stage.TheVariants.{Start, Losing, Using, Bounded, Trying, Recovering}
use Rattle.dr_plan.specs.declared.reading.Reading.{Reading}
use Rattle.dr_plan.specs.declared.reason.Reason.TheVariants.{ManyDisasters, ManyServers, ManyUses, UnequalRanges}
use Rattle.dr_plan.specs.Above.{unless, steps_read, servers_in, volumes_in}
use Rattle.dr_plan.specs.Marks.{is_mark, mark_of}
use Rattle.dr_plan.specs.Outcome.{TellsFault, IsNoPlan}
use Rattle.dr_plan.specs.Parts.{IsMark, marks_in, Ranges, use_mark, pairs_of, bound_marks, with_ranges, ComeOnce, IsSetup, IsPlan, tried_from, announced_by, announced_from}
use Rattle.dr_plan.specs.Reading.{announces, stage_after, servers_fault, pairs_fault, with_line, kept, tried_steps, used_pairs, noted, read_on, read_lines, begun, sweep_of}
use Rattle.dr_plan.specs.Sweep.{Sweep, Use as HostUse, empty, most_disasters, most_servers, most_uses}
use Rattle.dr_plan.specs.declared.fault.PlanFault.{PlanFault}
use Rattle.dr_plan.specs.declared.fault.PlanFault.TheVariants.{NoMemory, BadLine}
use Rattle.dr_plan.proofs.ApartLemmas.{tried-more}
use Rattle.dr_plan.proofs.FaultLaws.{names-complete, pairs-complete, uses-room}
use Rattle.dr_plan.proofs.FollowLemmas.{Passes, MayStand, is_refused, plain-not, says-not, refused-is, passes-parts, passes-first, passes-end, passes-of}
use Rattle.dr_plan.proofs.OwnLemmas.{Kind, Plain, Announces, Says, Nothing, kind-of, own-comment, marks-append, announced-more, announced-same, announced-none}
use Rattle.dr_plan.proofs.ReadLemmas.{read-plain, may-stand-room, not-waiting, read-mark, run, run-none, run-more, run-then, run-read, lines-done, plan-not-bad}

-- ---- announcements, one line more

calm_more : (number : ℕ) (done : List (List ℕ)) (line : List ℕ) → number ≡ length done + 1 → announced_by number (is_mark line) (mark_of line) ≡ [] → announced_from 1 done ≡ announced_from 1 (done ++ line ∷ [])
calm_more number done line at nothing = sym (announced-more 1 number done line (omega (arith, at)) ∙ ap (λ ns. announced_from 1 done ++ ns) nothing ∙ append-nil (announced_from 1 done))

plain_calm : (number : ℕ) (line : List ℕ) → is_mark line ≡ false → announced_by number (is_mark line) (mark_of line) ≡ []
plain_calm number line e = ap (λ b. announced_by number b (mark_of line)) e

says_calm : (number : ℕ) (line : List ℕ) (mark : Mark) → IsMark line mark → announces mark ≡ false → announced_by number (is_mark line) (mark_of line) ≡ []
says_calm number line mark m own = announced-same number line (Some mark) m.0 m.1 ∙ announced-none number mark own

refused_more : (number : ℕ) (done : List (List ℕ)) (line : List ℕ) → number ≡ length done + 1 → IsMark line Refused → announced_from 1 done ++ (number + 1) ∷ [] ≡ announced_from 1 (done ++ line ∷ [])
refused_more number done line at m = sym (announced-more 1 number done line (omega (arith, at)) ∙ ap (λ ns. announced_from 1 done ++ ns) (announced-same number line (Some Refused) m.0 m.1))

-- ---- the set-up

IsHead : Stage → Type 0
IsHead Trying = ⊥
IsHead Recovering = ⊥
IsHead _ = Unit {0}

with_head : (stage : Stage) (line : List ℕ) (plan : Sweep) → IsHead stage → with_line stage line plan ≡ record plan { setup = plan.setup ++ line ∷ [] }
unfolding IsHead
with_head Start line plan head = refl
with_head Losing line plan head = refl
with_head Using line plan head = refl
with_head Bounded line plan head = refl
with_head Trying line plan head = absurd head
with_head Recovering line plan head = absurd head

kept_head : (stage : Stage) (number : ℕ) (line : List ℕ) (steps : List Step) (plan : Sweep) → IsHead stage → kept stage number line steps plan ≡ record plan { setup = plan.setup ++ line ∷ [] }
unfolding IsHead
kept_head Start number line steps plan head = refl
kept_head Losing number line steps plan head = refl
kept_head Using number line steps plan head = refl
kept_head Bounded number line steps plan head = refl
kept_head Trying number line steps plan head = absurd head
kept_head Recovering number line steps plan head = absurd head

-- what was read of the first lines of a set-up
abbrev draft : List (List Name) → List HostUse → Option ℕ → List (List ℕ) → Sweep
draft loses uses bound done = record empty { loses = loses; uses = uses; bound = bound; setup = done; announced = announced_from 1 done }

abbrev at : Stage → Bool → Sweep → Reading
at stage waits plan = record { stage = stage; waits = waits; plan = plan }

plain_head : (number : ℕ) (stage : Stage) (waits : Bool) (loses : List (List Name)) (uses : List HostUse) (limit : Option ℕ) (done : List (List ℕ)) (line : List ℕ) → number ≡ length done + 1 → IsHead stage → is_mark line ≡ false → MayStand waits line
    → read_on number (at stage waits (draft loses uses limit done)) line ≡ Ok (at stage (is_refused line) (draft loses uses limit (done ++ line ∷ [])))
plain_head number stage waits loses uses limit done line here head e m =
    read-plain number (at stage waits (draft loses uses limit done)) line m.steps e m.read (may-stand-room waits line m)
    ∙ ap (λ (p : Sweep). Ok (at stage false p)) (kept_head stage number line m.steps (draft loses uses limit done) head)
    ∙ (λ i. Ok (at stage (sym (plain-not line e) i) (record empty { loses = loses; uses = uses; bound = limit; setup = done ++ line ∷ []; announced = calm_more number done line here (plain_calm number line e) i })))

refused_head : (number : ℕ) (stage : Stage) (waits : Bool) (loses : List (List Name)) (uses : List HostUse) (limit : Option ℕ) (done : List (List ℕ)) (line : List ℕ) → number ≡ length done + 1 → IsHead stage → IsMark line Refused → MayStand waits line
    → read_on number (at stage waits (draft loses uses limit done)) line ≡ Ok (at stage (is_refused line) (draft loses uses limit (done ++ line ∷ [])))
refused_head number stage waits loses uses limit done line here head m stands =
    let d = draft loses uses limit done in
    ap (λ w. read_on number (at stage w d) line) (not-waiting waits line m.0 stands)
    ∙ read-mark number line Refused stage stage d (record (with_line stage line d) { announced = d.announced ++ (number + 1) ∷ [] }) m refl refl
    ∙ ap (λ (p : Sweep). Ok (at stage true (record p { announced = d.announced ++ (number + 1) ∷ [] }))) (with_head stage line d head)
    ∙ (λ i. Ok (at stage (sym (refused-is line m) i) (record empty { loses = loses; uses = uses; bound = limit; setup = done ++ line ∷ []; announced = refused_more number done line here m i })))

-- a mark of the set-up, where it adds this
says_head : (number : ℕ) (stage after : Stage) (waits : Bool) (loses more : List (List Name)) (uses used : List HostUse) (limit bounded : Option ℕ) (done : List (List ℕ)) (line : List ℕ) (mark : Mark) → number ≡ length done + 1 → IsMark line mark → announces mark ≡ false → MayStand waits line
    → stage_after mark stage ≡ Some after → noted number stage mark line (draft loses uses limit done) ≡ Ok (record (draft loses uses limit done) { loses = more; uses = used; bound = bounded; setup = done ++ line ∷ [] })
    → read_on number (at stage waits (draft loses uses limit done)) line ≡ Ok (at after (is_refused line) (draft more used bounded (done ++ line ∷ [])))
says_head number stage after waits loses more uses used limit bounded done line mark here m own stands goes notes =
    let d = draft loses uses limit done in
    ap (λ w. read_on number (at stage w d) line) (not-waiting waits line m.0 stands)
    ∙ read-mark number line mark stage after d (record d { loses = more; uses = used; bound = bounded; setup = done ++ line ∷ [] }) m goes notes
    ∙ (λ i. Ok (at after ((own ∙ sym (says-not line mark m own)) i) (record empty { loses = more; uses = used; bound = bounded; setup = done ++ line ∷ []; announced = calm_more number done line here (says_calm number line mark m own) i })))

stages : Stage → List Mark → Option Stage
stages stage [] = Some stage
stages stage (mark ∷ marks) = stage_after mark stage >>= λ after. stages after marks

still_lost : (servers : List Name) (stage after : Stage) → stage_after (Lose servers) stage ≡ Some after → IsHead after
unfolding IsHead
still_lost servers Start after goes = subst IsHead (same_Some Losing after goes) tt
still_lost servers Losing after goes = subst IsHead (same_Some Losing after goes) tt
still_lost servers Using after goes = absurd cc
still_lost servers Bounded after goes = absurd cc
still_lost servers Trying after goes = absurd cc
still_lost servers Recovering after goes = absurd cc

still_used : (r : Ranges) (stage after : Stage) → stage_after (use_mark r) stage ≡ Some after → IsHead after
unfolding IsHead
still_used r Start after goes = absurd cc
still_used r Losing after goes = subst IsHead (same_Some Using after goes) tt
still_used r Using after goes = subst IsHead (same_Some Using after goes) tt
still_used r Bounded after goes = absurd cc
still_used r Trying after goes = absurd cc
still_used r Recovering after goes = absurd cc

still_bounded : (n : ℕ) (stage after : Stage) → stage_after (AtMost n) stage ≡ Some after → IsHead after
unfolding IsHead
still_bounded n Start after goes = absurd cc
still_bounded n Losing after goes = absurd cc
still_bounded n Using after goes = subst IsHead (same_Some Bounded after goes) tt
still_bounded n Bounded after goes = absurd cc
still_bounded n Trying after goes = absurd cc
still_bounded n Recovering after goes = absurd cc

-- what is still to come in a set-up
abbrev to_come : List (List Name) → List Ranges → Option ℕ → List Mark
to_come ls us b = map Lose ls ++ map use_mark us ++ bound_marks b

abbrev limited : Option ℕ → Option ℕ → Option ℕ
limited None old = old
limited (Some n) old = Some n

record Ahead (plan : Sweep) (done rest : List (List ℕ)) (stage last : Stage) (loses : List (List Name)) (uses : List HostUse) (limit : Option ℕ) : Type 0 where
  ls : List (List Name)
  us : List Ranges
  b : Option ℕ
  cut : plan.setup ≡ done ++ rest
  head : IsHead stage
  marks : marks_in rest ≡ map Some (to_come ls us b)
  goes : stages stage (to_come ls us b) ≡ Some last
  all_lost : loses ++ ls ≡ plan.loses
  all_used : fold with_ranges uses us ≡ plan.uses
  bounded : limited b limit ≡ plan.bound
  once : All ComeOnce ls
  lengths : All (λ (r : Ranges). span_len r.first ≡ span_len r.second) us

-- nothing is to come
none_left : (ls : List (List Name)) (us : List Ranges) (b : Option ℕ) → [] ≡ map Some (to_come ls us b) → (ls ≡ []) × (us ≡ []) × (b ≡ None)
none_left [] [] None e = (refl, refl, refl)
none_left [] [] (Some n) e = absurd cc
none_left [] (r ∷ us) b e = absurd cc
none_left (servers ∷ ls) us b e = absurd cc

no_nothing : {P : Type 0} (ls : List (List Name)) (us : List Ranges) (b : Option ℕ) (rest : List (Option Mark)) → None ∷ rest ≡ map Some (to_come ls us b) → P
no_nothing [] [] None rest e = absurd cc
no_nothing [] [] (Some n) rest e = absurd cc
no_nothing [] (r ∷ us) b rest e = absurd cc
no_nothing (servers ∷ ls) us b rest e = absurd cc

-- a line in which none of these stands
calm_ahead : (plan : Sweep) (done rest : List (List ℕ)) (line : List ℕ) (stage last : Stage) (loses : List (List Name)) (uses : List HostUse) (limit : Option ℕ) → marks_in (line ∷ []) ≡ [] → Ahead plan done (line ∷ rest) stage last loses uses limit
    → Ahead plan (done ++ line ∷ []) rest stage last loses uses limit
calm_ahead plan done rest line stage last loses uses limit none a = record {
  ls = a.ls;
  us = a.us;
  b = a.b;
  cut = a.cut ∙ sym (append_assoc done (line ∷ []) rest);
  head = a.head;
  marks = sym (marks-append (line ∷ []) rest ∙ ap (λ ms. ms ++ marks_in rest) none) ∙ a.marks;
  goes = a.goes;
  all_lost = a.all_lost;
  all_used = a.all_used;
  bounded = a.bounded;
  once = a.once;
  lengths = a.lengths;
}

-- the marks of a line and those after it
said_first : (line : List ℕ) (rest : List (List ℕ)) (mark : Mark) (marks : List (Option Mark)) → marks_in (line ∷ []) ≡ Some mark ∷ [] → marks_in (line ∷ rest) ≡ marks → Some mark ∷ marks_in rest ≡ marks
said_first line rest mark marks says h = sym (marks-append (line ∷ []) rest ∙ ap (λ ms. ms ++ marks_in rest) says) ∙ h

-- a disaster is added
lose_notes : (plan : Sweep) (s : IsSetup plan) (number : ℕ) (stage : Stage) (done rest : List (List ℕ)) (line : List ℕ) (servers : List Name) (ls loses : List (List Name)) (uses : List HostUse) (limit : Option ℕ) → IsMark line (Lose servers) → plan.setup ≡ done ++ line ∷ rest
    → loses ++ servers ∷ ls ≡ plan.loses → ComeOnce servers
    → noted number stage (Lose servers) line (draft loses uses limit done) ≡ Ok (record (draft loses uses limit done) { loses = loses ++ servers ∷ []; setup = done ++ line ∷ [] })
lose_notes plan s number stage done rest line servers ls loses uses limit m cut all once =
    let made : Sweep = record (draft loses uses limit done) { loses = loses ++ servers ∷ []; setup = done ++ line ∷ [] } in
    let count : length (loses ++ servers ∷ ls) ≡ length loses + 1 + length ls = grind (arith, common_steps) in
    let same : length (loses ++ servers ∷ ls) ≡ length plan.loses = ap length all in
    let few = s.few_lost in
    let lt : length loses < most_disasters = omega (arith, count, same, few) in
    let room : nat_lt (length loses) most_disasters ≡ true = grind (arith, nat_tests, lt) in
    let well : servers_fault (servers_in done) [] servers ≡ None = names-complete (servers_in done) [] servers (s.servers done servers (line, rest, cut, m)) once in
    let all_small : All (λ (names : List Name). length names ≤ most_servers) (loses ++ servers ∷ ls) = subst (All (λ (names : List Name). length names ≤ most_servers)) (sym all) s.few_servers in
    let small : length servers ≤ most_servers = subst (λ (names : List Name). length names ≤ most_servers) (get_or_at loses servers ls servers (length loses) refl) (all_small (length loses) servers (omega (arith, count))) in
    let few_names : nat_le (length servers) most_servers ≡ true = grind (arith, nat_tests, small) in
    let named = unless (servers_fault (servers_in done) [] servers) made in
    ap (λ b. cond b (cond (nat_le (length servers) most_servers) named (Err ManyServers)) (Err ManyDisasters)) room ∙ ap (λ b. cond b named (Err ManyServers)) few_names ∙ ap (λ f. unless f made) well

use_notes : (plan : Sweep) (s : IsSetup plan) (number : ℕ) (stage : Stage) (done rest : List (List ℕ)) (line : List ℕ) (r : Ranges) (us : List Ranges) (loses : List (List Name)) (uses : List HostUse) (limit : Option ℕ) → IsMark line (use_mark r) → plan.setup ≡ done ++ line ∷ rest
    → fold with_ranges uses (r ∷ us) ≡ plan.uses → span_len r.first ≡ span_len r.second
    → noted number stage (use_mark r) line (draft loses uses limit done) ≡ Ok (record (draft loses uses limit done) { uses = with_ranges uses r; setup = done ++ line ∷ [] })
use_notes plan s number stage done rest line r us loses uses limit m cut all equal =
    let d = draft loses uses limit done in
    let made : Sweep = record d { uses = with_ranges uses r; setup = done ++ line ∷ [] } in
    let few : length (fold with_ranges uses (r ∷ us)) ≤ most_uses = subst (λ (us : List HostUse). length us ≤ most_uses) (sym all) s.few_used in
    let room = uses-room uses r us most_uses few in
    let same : nat_eq (span_len r.first) (span_len r.second) ≡ true = grind (arith, nat_tests, equal) in
    let well : pairs_fault (volumes_in done) (pairs_of r) ≡ None = pairs-complete done (pairs_of r) (s.volumes done r (line, rest, cut, m)) in
    ap (λ b. cond b (cond (nat_eq (span_len r.first) (span_len r.second)) (used_pairs r.name (paired r.first r.second) line d) (Err UnequalRanges)) (Err ManyUses)) room
    ∙ ap (λ b. cond b (used_pairs r.name (paired r.first r.second) line d) (Err UnequalRanges)) same
    ∙ ap (λ f. unless f made) well

setup_read : (plan : Sweep) (s : IsSetup plan) (rest done : List (List ℕ)) (stage last : Stage) (loses : List (List Name)) (uses : List HostUse) (limit : Option ℕ) (waits after : Bool) (number : ℕ) → number ≡ length done + 1 → Ahead plan done rest stage last loses uses limit
    → Passes waits rest after → run number (at stage waits (draft loses uses limit done)) rest ≡ Some (at last after (draft plan.loses plan.uses plan.bound plan.setup))
unfolding stages
setup_read plan s [] done stage last loses uses limit waits after number here a p =
    let none = none_left a.ls a.us a.b a.marks in
    let stays : stage ≡ last = same_Some stage last (sym (λ i. stages stage (to_come (none.0 i) (none.1 i) (none.2 i))) ∙ a.goes) in
    let lost : loses ≡ plan.loses = sym (append-nil loses) ∙ ap (λ ls. loses ++ ls) (sym none.0) ∙ a.all_lost in
    let used : uses ≡ plan.uses = ap (fold with_ranges uses) (sym none.1) ∙ a.all_used in
    let bounded : limit ≡ plan.bound = ap (λ b. limited b limit) (sym none.2) ∙ a.bounded in
    let all : done ≡ plan.setup = sym (a.cut ∙ append-nil done) in
    run-none number (at stage waits (draft loses uses limit done)) ∙ (λ i. Some (at (stays i) (passes-end waits after p i) (draft (lost i) (used i) (bounded i) (all i))))
setup_read plan s (line ∷ rest) done stage last loses uses limit waits after number here a p =
    by (kind-of line) (λ stage loses uses limit next. setup_read plan s rest (done ++ line ∷ []) stage last loses uses limit (is_refused line) after (number + 1) longer next both.1)
  where
    both : MayStand waits line × Passes (is_refused line) rest after
    both = passes-first waits after line rest p

    longer : number + 1 ≡ length (done ++ line ∷ []) + 1
    longer = let size : length (done ++ line ∷ []) ≡ length done + 1 = grind (arith, common_steps) in omega (arith, size, here)

    Goal : Type 0
    Goal = run number (at stage waits (draft loses uses limit done)) (line ∷ rest) ≡ Some (at last after (draft plan.loses plan.uses plan.bound plan.setup))

    Further : Type 0
    Further = (stage : Stage) (loses : List (List Name)) (uses : List HostUse) (limit : Option ℕ) → Ahead plan (done ++ line ∷ []) rest stage last loses uses limit
        → run (number + 1) (at stage (is_refused line) (draft loses uses limit (done ++ line ∷ []))) rest ≡ Some (at last after (draft plan.loses plan.uses plan.bound plan.setup))

    lose : (mark : Mark) (servers : List Name) (ls : List (List Name)) (us : List Ranges) (b : Option ℕ) → IsMark line mark → Some mark ∷ marks_in rest ≡ map Some (to_come (servers ∷ ls) us b) → stages stage (to_come (servers ∷ ls) us b) ≡ Some last → loses ++ servers ∷ ls ≡ plan.loses
        → fold with_ranges uses us ≡ plan.uses → limited b limit ≡ plan.bound → All ComeOnce (servers ∷ ls) → All (λ (r : Ranges). span_len r.first ≡ span_len r.second) us → Further → Goal
    lose mark servers ls us b m says goes lost used bounded once lengths further =
        let parts : Some mark ∷ marks_in rest ≡ Some (Lose servers) ∷ map Some (to_come ls us b) = says in
        let is : mark ≡ Lose servers = cc in
        let tail : marks_in rest ≡ map Some (to_come ls us b) = cc in
        let own : IsMark line (Lose servers) = subst (IsMark line) is m in
        let q = bound (stage_after (Lose servers) stage) (λ after. stages after (to_come ls us b)) last goes in
        run-more number (at stage waits (draft loses uses limit done)) (at q.0 (is_refused line) (draft (loses ++ servers ∷ []) uses limit (done ++ line ∷ []))) line rest
        (says_head number stage q.0 waits loses (loses ++ servers ∷ []) uses uses limit limit done line (Lose servers) here own refl both.0 q.1 (lose_notes plan s number stage done rest line servers ls loses uses limit own a.cut lost (once 0 servers (omega arith))))
        ∙ further q.0 (loses ++ servers ∷ []) uses limit
        (record { ls = ls; us = us; b = b; cut = a.cut ∙ sym (append_assoc done (line ∷ []) rest); head = still_lost servers stage q.0 q.1; marks = tail; goes = q.2; all_lost = append_assoc loses (servers ∷ []) ls ∙ lost; all_used = used; bounded = bounded; once = All-drop ComeOnce 1 (servers ∷ ls) once; lengths = lengths })

    use_line : (mark : Mark) (r : Ranges) (us : List Ranges) (b : Option ℕ) → IsMark line mark → Some mark ∷ marks_in rest ≡ map Some (to_come [] (r ∷ us) b) → stages stage (to_come [] (r ∷ us) b) ≡ Some last → loses ++ [] ≡ plan.loses → fold with_ranges uses (r ∷ us) ≡ plan.uses
        → limited b limit ≡ plan.bound → All ComeOnce [] → All (λ (r : Ranges). span_len r.first ≡ span_len r.second) (r ∷ us) → Further → Goal
    use_line mark r us b m says goes lost used bounded once lengths further =
        let parts : Some mark ∷ marks_in rest ≡ Some (use_mark r) ∷ map Some (to_come [] us b) = says in
        let is : mark ≡ use_mark r = cc in
        let tail : marks_in rest ≡ map Some (to_come [] us b) = cc in
        let own : IsMark line (use_mark r) = subst (IsMark line) is m in
        let q = bound (stage_after (use_mark r) stage) (λ after. stages after (to_come [] us b)) last goes in
        run-more number (at stage waits (draft loses uses limit done)) (at q.0 (is_refused line) (draft loses (with_ranges uses r) limit (done ++ line ∷ []))) line rest
        (says_head number stage q.0 waits loses loses uses (with_ranges uses r) limit limit done line (use_mark r) here own refl both.0 q.1 (use_notes plan s number stage done rest line r us loses uses limit own a.cut used (lengths 0 r (omega arith))))
        ∙ further q.0 loses (with_ranges uses r) limit
        (record { ls = []; us = us; b = b; cut = a.cut ∙ sym (append_assoc done (line ∷ []) rest); head = still_used r stage q.0 q.1; marks = tail; goes = q.2; all_lost = lost; all_used = used; bounded = bounded; once = once; lengths = All-drop (λ (r : Ranges). span_len r.first ≡ span_len r.second) 1 (r ∷ us) lengths })

    bound_line : (mark : Mark) (n : ℕ) → IsMark line mark → Some mark ∷ marks_in rest ≡ map Some (to_come [] [] (Some n)) → stages stage (to_come [] [] (Some n)) ≡ Some last → loses ++ [] ≡ plan.loses → fold with_ranges uses [] ≡ plan.uses → limited (Some n) limit ≡ plan.bound
        → All ComeOnce [] → All (λ (r : Ranges). span_len r.first ≡ span_len r.second) [] → Further → Goal
    bound_line mark n m says goes lost used bounded once lengths further =
        let parts : Some mark ∷ marks_in rest ≡ Some (AtMost n) ∷ [] = says in
        let is : mark ≡ AtMost n = cc in
        let tail : marks_in rest ≡ map Some (to_come [] [] None) = cc in
        let own : IsMark line (AtMost n) = subst (IsMark line) is m in
        let q = bound (stage_after (AtMost n) stage) (λ after. stages after (to_come [] [] None)) last goes in
        run-more number (at stage waits (draft loses uses limit done)) (at q.0 (is_refused line) (draft loses uses (Some n) (done ++ line ∷ []))) line rest
        (says_head number stage q.0 waits loses loses uses uses limit (Some n) done line (AtMost n) here own refl both.0 q.1 refl)
        ∙ further q.0 loses uses (Some n)
        (record { ls = []; us = []; b = None; cut = a.cut ∙ sym (append_assoc done (line ∷ []) rest); head = still_bounded n stage q.0 q.1; marks = tail; goes = q.2; all_lost = lost; all_used = used; bounded = bounded; once = once; lengths = lengths })

    says_one : (mark : Mark) (ls : List (List Name)) (us : List Ranges) (b : Option ℕ) → IsMark line mark → Some mark ∷ marks_in rest ≡ map Some (to_come ls us b) → stages stage (to_come ls us b) ≡ Some last → loses ++ ls ≡ plan.loses → fold with_ranges uses us ≡ plan.uses
        → limited b limit ≡ plan.bound → All ComeOnce ls → All (λ (r : Ranges). span_len r.first ≡ span_len r.second) us → Further → Goal
    says_one mark (servers ∷ ls) us b m says goes lost used bounded once lengths further = lose mark servers ls us b m says goes lost used bounded once lengths further
    says_one mark [] (r ∷ us) b m says goes lost used bounded once lengths further = use_line mark r us b m says goes lost used bounded once lengths further
    says_one mark [] [] (Some n) m says goes lost used bounded once lengths further = bound_line mark n m says goes lost used bounded once lengths further
    says_one mark [] [] None m says goes lost used bounded once lengths further = let none : Some mark ∷ marks_in rest ≡ [] = says in absurd cc

    by : Kind line → Further → Goal
    by (Plain e none) further =
        run-more number (at stage waits (draft loses uses limit done)) (at stage (is_refused line) (draft loses uses limit (done ++ line ∷ []))) line rest (plain_head number stage waits loses uses limit done line here a.head e both.0)
        ∙ further stage loses uses limit (calm_ahead plan done rest line stage last loses uses limit none a)
    by (Announces m none) further =
        run-more number (at stage waits (draft loses uses limit done)) (at stage (is_refused line) (draft loses uses limit (done ++ line ∷ []))) line rest (refused_head number stage waits loses uses limit done line here a.head m both.0)
        ∙ further stage loses uses limit (calm_ahead plan done rest line stage last loses uses limit none a)
    by (Says mark m own says) further = says_one mark a.ls a.us a.b m (said_first line rest mark (map Some (to_come a.ls a.us a.b)) says a.marks) a.goes a.all_lost a.all_used a.bounded a.once a.lengths further
    by (Nothing e is says) further = no_nothing a.ls a.us a.b (marks_in rest) (sym (marks-append (line ∷ []) rest ∙ ap (λ ms. ms ++ marks_in rest) says) ∙ a.marks)

-- what the set-up of a plan says, in its order
after_bound : Option ℕ → Stage
after_bound None = Using
after_bound (Some n) = Bounded

used_goes : (used : List Ranges) (limit : Option ℕ) → stages Using (map use_mark used ++ bound_marks limit) ≡ Some (after_bound limit)
unfolding stages after_bound
used_goes [] None = refl
used_goes [] (Some n) = refl
used_goes (r ∷ used) limit = used_goes used limit

used_first : (used : List Ranges) (limit : Option ℕ) → 1 ≤ length used → stages Losing (map use_mark used ++ bound_marks limit) ≡ Some (after_bound limit)
unfolding stages
used_first [] limit some = absurd (omega arith)
used_first (r ∷ used) limit some = used_goes used limit

lost_goes : (loses : List (List Name)) (used : List Ranges) (limit : Option ℕ) → stages Losing (to_come loses used limit) ≡ stages Losing (to_come [] used limit)
unfolding stages
lost_goes [] used limit = refl
lost_goes (servers ∷ loses) used limit = lost_goes loses used limit

lost_first : (loses : List (List Name)) (used : List Ranges) (limit : Option ℕ) → 1 ≤ length loses → stages Start (to_come loses used limit) ≡ stages Losing (to_come [] used limit)
unfolding stages
lost_first [] used limit some = absurd (omega arith)
lost_first (servers ∷ loses) used limit some = lost_goes loses used limit

limit_whole : (limit : Option ℕ) → limited limit None ≡ limit
limit_whole None = refl
limit_whole (Some n) = refl

setup_run : (plan : Sweep) (after : Bool) → IsSetup plan → Passes false plan.setup after → run 1 begun plan.setup ≡ Some (at (after_bound plan.bound) after (draft plan.loses plan.uses plan.bound plan.setup))
unfolding IsHead announced_from
setup_run plan after s passes =
    setup_read plan s plan.setup [] Start (after_bound plan.bound) [] [] None false after 1 (omega arith)
    (record { ls = plan.loses; us = s.used; b = plan.bound; cut = refl; head = tt; marks = s.marks; goes = lost_first plan.loses s.used plan.bound s.some_lost ∙ used_first s.used plan.bound s.some_used; all_lost = refl; all_used = sym s.uses; bounded = limit_whole plan.bound; once = s.once; lengths = s.lengths })
    passes

-- ---- lines that are tried, and the recovery

-- no line says anything but an announcement
calm_first : (line : List ℕ) (rest : List (List ℕ)) → marks_in (line ∷ []) ≡ [] → marks_in (line ∷ rest) ≡ [] → marks_in rest ≡ []
calm_first line rest none h = sym (marks-append (line ∷ []) rest ∙ ap (λ ms. ms ++ marks_in rest) none) ∙ h

not_said : {P : Type 0} (line : List ℕ) (rest : List (List ℕ)) (m : Option Mark) → marks_in (line ∷ []) ≡ m ∷ [] → marks_in (line ∷ rest) ≡ [] → P
not_said line rest m says h = let both : m ∷ marks_in rest ≡ [] = sym (marks-append (line ∷ []) rest ∙ ap (λ ms. ms ++ marks_in rest) says) ∙ h in absurd cc

-- after lines, of which the last ones are tried
abbrev trial : Sweep → List (List ℕ) → ℕ → List (List ℕ) → Sweep
trial base front first done = record base { tried = tried_from first done; announced = announced_from 1 (front ++ done) }

abbrev recovered : Sweep → List (List ℕ) → List (List ℕ) → Sweep
recovered base front done = record base { recovery = done; announced = announced_from 1 (front ++ done) }

both_length : (front done : List (List ℕ)) (number : ℕ) → number ≡ length front + 1 + length done → number ≡ length (front ++ done) + 1
both_length front done number here = let size : length (front ++ done) ≡ length front + length done = grind (arith, common_steps) in omega (arith, size, here)

calm_both : (number : ℕ) (front done : List (List ℕ)) (line : List ℕ) → number ≡ length front + 1 + length done → announced_by number (is_mark line) (mark_of line) ≡ [] → announced_from 1 (front ++ done) ≡ announced_from 1 (front ++ (done ++ line ∷ []))
calm_both number front done line here nothing = calm_more number (front ++ done) line (both_length front done number here) nothing ∙ ap (announced_from 1) (append_assoc front done (line ∷ []))

refused_both : (number : ℕ) (front done : List (List ℕ)) (line : List ℕ) → number ≡ length front + 1 + length done → IsMark line Refused → announced_from 1 (front ++ done) ++ (number + 1) ∷ [] ≡ announced_from 1 (front ++ (done ++ line ∷ []))
refused_both number front done line here m = refused_more number (front ++ done) line (both_length front done number here) m ∙ ap (announced_from 1) (append_assoc front done (line ∷ []))

tried_both : (first number : ℕ) (front done : List (List ℕ)) (line : List ℕ) (steps : List Step) → first ≡ length front + 1 → number ≡ length front + 1 + length done → line_of line ≡ Ok steps → tried_from first done ++ tried_steps number line steps ≡ tried_from first (done ++ line ∷ [])
tried_both first number front done line steps begins here is = sym (tried-more first number done line (omega (arith, begins, here)) ∙ ap (λ ss. tried_from first done ++ tried_steps number line ss) (ap steps_read is))

try_plain : (base : Sweep) (front done : List (List ℕ)) (line : List ℕ) (first number : ℕ) (waits : Bool) → first ≡ length front + 1 → number ≡ length front + 1 + length done → is_mark line ≡ false → MayStand waits line
    → read_on number (at Trying waits (trial base front first done)) line ≡ Ok (at Trying (is_refused line) (trial base front first (done ++ line ∷ [])))
try_plain base front done line first number waits begins here e m =
    read-plain number (at Trying waits (trial base front first done)) line m.steps e m.read (may-stand-room waits line m)
    ∙ (λ i. Ok (at Trying (sym (plain-not line e) i) (record base { tried = tried_both first number front done line m.steps begins here m.read i; announced = calm_both number front done line here (plain_calm number line e) i })))

try_refused : (base : Sweep) (front done : List (List ℕ)) (line : List ℕ) (first number : ℕ) (waits : Bool) → first ≡ length front + 1 → number ≡ length front + 1 + length done → IsMark line Refused → MayStand waits line
    → read_on number (at Trying waits (trial base front first done)) line ≡ Ok (at Trying (is_refused line) (trial base front first (done ++ line ∷ [])))
try_refused base front done line first number waits begins here m stands =
    let t = trial base front first done in
    ap (λ w. read_on number (at Trying w t) line) (not-waiting waits line m.0 stands)
    ∙ read-mark number line Refused Trying Trying t (record t { announced = t.announced ++ (number + 1) ∷ [] }) m refl refl
    ∙ (λ i. Ok (at Trying (sym (refused-is line m) i) (record base { tried = (sym (append-nil (tried_from first done)) ∙ tried_both first number front done line [] begins here (own-comment line m.0)) i; announced = refused_both number front done line here m i })))

trying : (base : Sweep) (front done rest : List (List ℕ)) (first number : ℕ) (waits after : Bool) → first ≡ length front + 1 → number ≡ length front + 1 + length done → marks_in rest ≡ [] → Passes waits rest after
    → run number (at Trying waits (trial base front first done)) rest ≡ Some (at Trying after (trial base front first (done ++ rest)))
trying base front done [] first number waits after begins here none p =
    run-none number (at Trying waits (trial base front first done)) ∙ (λ i. Some (at Trying (passes-end waits after p i) (trial base front first (sym (append-nil done) i))))
trying base front done (line ∷ rest) first number waits after begins here none p =
    by (kind-of line) (λ calm. trying base front (done ++ line ∷ []) rest first (number + 1) (is_refused line) after begins longer (calm_first line rest calm none) both.1)
  where
    both : MayStand waits line × Passes (is_refused line) rest after
    both = passes-first waits after line rest p

    longer : number + 1 ≡ length front + 1 + length (done ++ line ∷ [])
    longer = let size : length (done ++ line ∷ []) ≡ length done + 1 = grind (arith, common_steps) in omega (arith, size, here)

    on : read_on number (at Trying waits (trial base front first done)) line ≡ Ok (at Trying (is_refused line) (trial base front first (done ++ line ∷ [])))
        → run (number + 1) (at Trying (is_refused line) (trial base front first (done ++ line ∷ []))) rest ≡ Some (at Trying after (trial base front first ((done ++ line ∷ []) ++ rest)))
        → run number (at Trying waits (trial base front first done)) (line ∷ rest) ≡ Some (at Trying after (trial base front first (done ++ line ∷ rest)))
    on reads more =
        run-more number (at Trying waits (trial base front first done)) (at Trying (is_refused line) (trial base front first (done ++ line ∷ []))) line rest reads ∙ more
        ∙ (λ i. Some (at Trying after (trial base front first (append_assoc done (line ∷ []) rest i))))

    by : Kind line → (marks_in (line ∷ []) ≡ [] → run (number + 1) (at Trying (is_refused line) (trial base front first (done ++ line ∷ []))) rest ≡ Some (at Trying after (trial base front first ((done ++ line ∷ []) ++ rest))))
        → run number (at Trying waits (trial base front first done)) (line ∷ rest) ≡ Some (at Trying after (trial base front first (done ++ line ∷ rest)))
    by (Plain e calm) further = on (try_plain base front done line first number waits begins here e both.0) (further calm)
    by (Announces m calm) further = on (try_refused base front done line first number waits begins here m both.0) (further calm)
    by (Says mark m own says) further = not_said line rest (Some mark) says none
    by (Nothing e is says) further = not_said line rest None says none

recover_plain : (base : Sweep) (front done : List (List ℕ)) (line : List ℕ) (number : ℕ) (waits : Bool) → number ≡ length front + 1 + length done → is_mark line ≡ false → MayStand waits line
    → read_on number (at Recovering waits (recovered base front done)) line ≡ Ok (at Recovering (is_refused line) (recovered base front (done ++ line ∷ [])))
recover_plain base front done line number waits here e m =
    read-plain number (at Recovering waits (recovered base front done)) line m.steps e m.read (may-stand-room waits line m)
    ∙ (λ i. Ok (at Recovering (sym (plain-not line e) i) (record base { recovery = done ++ line ∷ []; announced = calm_both number front done line here (plain_calm number line e) i })))

recover_refused : (base : Sweep) (front done : List (List ℕ)) (line : List ℕ) (number : ℕ) (waits : Bool) → number ≡ length front + 1 + length done → IsMark line Refused → MayStand waits line
    → read_on number (at Recovering waits (recovered base front done)) line ≡ Ok (at Recovering (is_refused line) (recovered base front (done ++ line ∷ [])))
recover_refused base front done line number waits here m stands =
    let t = recovered base front done in
    ap (λ w. read_on number (at Recovering w t) line) (not-waiting waits line m.0 stands)
    ∙ read-mark number line Refused Recovering Recovering t (record t { recovery = done ++ line ∷ []; announced = t.announced ++ (number + 1) ∷ [] }) m refl refl
    ∙ (λ i. Ok (at Recovering (sym (refused-is line m) i) (record base { recovery = done ++ line ∷ []; announced = refused_both number front done line here m i })))

recovering : (base : Sweep) (front done rest : List (List ℕ)) (number : ℕ) (waits after : Bool) → number ≡ length front + 1 + length done → marks_in rest ≡ [] → Passes waits rest after
    → run number (at Recovering waits (recovered base front done)) rest ≡ Some (at Recovering after (recovered base front (done ++ rest)))
recovering base front done [] number waits after here none p =
    run-none number (at Recovering waits (recovered base front done)) ∙ (λ i. Some (at Recovering (passes-end waits after p i) (recovered base front (sym (append-nil done) i))))
recovering base front done (line ∷ rest) number waits after here none p =
    by (kind-of line) (λ calm. recovering base front (done ++ line ∷ []) rest (number + 1) (is_refused line) after longer (calm_first line rest calm none) both.1)
  where
    both : MayStand waits line × Passes (is_refused line) rest after
    both = passes-first waits after line rest p

    longer : number + 1 ≡ length front + 1 + length (done ++ line ∷ [])
    longer = let size : length (done ++ line ∷ []) ≡ length done + 1 = grind (arith, common_steps) in omega (arith, size, here)

    on : read_on number (at Recovering waits (recovered base front done)) line ≡ Ok (at Recovering (is_refused line) (recovered base front (done ++ line ∷ [])))
        → run (number + 1) (at Recovering (is_refused line) (recovered base front (done ++ line ∷ []))) rest ≡ Some (at Recovering after (recovered base front ((done ++ line ∷ []) ++ rest)))
        → run number (at Recovering waits (recovered base front done)) (line ∷ rest) ≡ Some (at Recovering after (recovered base front (done ++ line ∷ rest)))
    on reads more =
        run-more number (at Recovering waits (recovered base front done)) (at Recovering (is_refused line) (recovered base front (done ++ line ∷ []))) line rest reads ∙ more
        ∙ (λ i. Some (at Recovering after (recovered base front (append_assoc done (line ∷ []) rest i))))

    by : Kind line → (marks_in (line ∷ []) ≡ [] → run (number + 1) (at Recovering (is_refused line) (recovered base front (done ++ line ∷ []))) rest ≡ Some (at Recovering after (recovered base front ((done ++ line ∷ []) ++ rest))))
        → run number (at Recovering waits (recovered base front done)) (line ∷ rest) ≡ Some (at Recovering after (recovered base front (done ++ line ∷ rest)))
    by (Plain e calm) further = on (recover_plain base front done line number waits here e both.0) (further calm)
    by (Announces m calm) further = on (recover_refused base front done line number waits here m both.0) (further calm)
    by (Says mark m own says) further = not_said line rest (Some mark) says none
    by (Nothing e is says) further = not_said line rest None says none

-- ---- the whole plan

-- the lines `here` and `then`
here_goes : (limit : Option ℕ) → stage_after Here (after_bound limit) ≡ Some Trying
unfolding after_bound
here_goes None = refl
here_goes (Some n) = refl

here_read : (plan : Sweep) (begin : List ℕ) (number : ℕ) (waits : Bool) → number ≡ length plan.setup + 1 → IsMark begin Here → MayStand waits begin
    → read_on number (at (after_bound plan.bound) waits (draft plan.loses plan.uses plan.bound plan.setup)) begin ≡ Ok (at Trying (is_refused begin) (trial (draft plan.loses plan.uses plan.bound plan.setup) (plan.setup ++ begin ∷ []) (length plan.setup + 2) []))
unfolding tried_from
here_read plan begin number waits here m stands =
    let d = draft plan.loses plan.uses plan.bound plan.setup in
    ap (λ w. read_on number (at (after_bound plan.bound) w d) begin) (not-waiting waits begin m.0 stands)
    ∙ read-mark number begin Here (after_bound plan.bound) Trying d d m (here_goes plan.bound) refl
    ∙ (λ i. Ok (at Trying (sym (says-not begin Here m refl) i) (record d { announced = (calm_more number plan.setup begin here (says_calm number begin Here m refl) ∙ ap (announced_from 1) (sym (append-nil (plan.setup ++ begin ∷ [])))) i })))

then_read : (base : Sweep) (front : List (List ℕ)) (end : List ℕ) (number : ℕ) (waits : Bool) → base.announced ≡ announced_from 1 front → base.recovery ≡ [] → number ≡ length front + 1 → IsMark end Then → MayStand waits end
    → read_on number (at Trying waits base) end ≡ Ok (at Recovering (is_refused end) (recovered (record base { then_line = number }) (front ++ end ∷ []) []))
then_read base front end number waits told none here m stands =
    ap (λ w. read_on number (at Trying w base) end) (not-waiting waits end m.0 stands)
    ∙ read-mark number end Then Trying Recovering base (record base { then_line = number }) m refl refl
    ∙ (λ i. Ok (at Recovering (sym (says-not end Then m refl) i) (record base { then_line = number; recovery = none i; announced = (told ∙ calm_more number front end here (says_calm number end Then m refl) ∙ ap (announced_from 1) (sym (append-nil (front ++ end ∷ [])))) i })))

-- the set-up, `here`, and the lines that are tried
middle_run : (plan : Sweep) (begin : List ℕ) (between : List (List ℕ)) (first mid : Bool) → IsSetup plan → IsMark begin Here → marks_in between ≡ [] → Passes false plan.setup first → Passes first (begin ∷ between) mid
    → run 1 begun (plan.setup ++ begin ∷ between) ≡ Some (at Trying mid (trial (draft plan.loses plan.uses plan.bound plan.setup) (plan.setup ++ begin ∷ []) (length plan.setup + 2) between))
middle_run plan begin between first mid s m none before behind =
    let d = draft plan.loses plan.uses plan.bound plan.setup in
    let p = passes-first first mid begin between behind in
    let size : length (plan.setup ++ begin ∷ []) ≡ length plan.setup + 1 = grind (arith, common_steps) in
    run-then 1 (length plan.setup + 1) begun (at (after_bound plan.bound) first d) plan.setup (begin ∷ between) (omega arith) (setup_run plan first s before)
    ∙ run-more (length plan.setup + 1) (at (after_bound plan.bound) first d) (at Trying (is_refused begin) (trial d (plan.setup ++ begin ∷ []) (length plan.setup + 2) [])) begin between (here_read plan begin (length plan.setup + 1) first refl m p.0)
    ∙ trying d (plan.setup ++ begin ∷ []) [] between (length plan.setup + 2) (length plan.setup + 1 + 1) (is_refused begin) mid (omega (arith, size)) (omega (arith, size)) none p.1

-- `then`, and the recovery
end_run : (t : Sweep) (front : List (List ℕ)) (end : List ℕ) (rest : List (List ℕ)) (mid : Bool) (number : ℕ) → t.announced ≡ announced_from 1 front → t.recovery ≡ [] → number ≡ length front + 1 → IsMark end Then → marks_in rest ≡ [] → Passes mid (end ∷ rest) false
    → run number (at Trying mid t) (end ∷ rest) ≡ Some (at Recovering false (recovered (record t { then_line = number }) (front ++ end ∷ []) rest))
end_run t front end rest mid number told empty here m none passes =
    let p = passes-first mid false end rest passes in
    let size : length (front ++ end ∷ []) ≡ length front + 1 = grind (arith, common_steps) in
    run-more number (at Trying mid t) (at Recovering (is_refused end) (recovered (record t { then_line = number }) (front ++ end ∷ []) [])) end rest (then_read t front end number mid told empty here m p.0)
    ∙ recovering (record t { then_line = number }) (front ++ end ∷ []) [] rest (number + 1) (is_refused end) false (omega (arith, size, here)) none p.1

-- a reading of all lines of a plan
plan_run : (lines : List (List ℕ)) (plan : Sweep) → IsPlan lines plan → run 1 begun lines ≡ Some (at Recovering false plan)
plan_run lines plan p =
    let whole : Passes false lines false = passes-of lines [] lines false refl p.read p.followed (λ e. absurd cc) in
    let parts = passes-parts false false (plan.setup ++ p.begin ∷ p.between) (p.end ∷ plan.recovery) (subst (λ ls. Passes false ls false) p.cut whole) in
    let first = passes-parts false parts.mid plan.setup (p.begin ∷ p.between) parts.before in
    let t = trial (draft plan.loses plan.uses plan.bound plan.setup) (plan.setup ++ p.begin ∷ []) (length plan.setup + 2) p.between in
    let sized : length (plan.setup ++ p.begin ∷ p.between) ≡ length plan.setup + 1 + length p.between = grind (arith, common_steps) in
    let joined : announced_from 1 ((plan.setup ++ p.begin ∷ []) ++ p.between) ≡ announced_from 1 (plan.setup ++ p.begin ∷ p.between) = ap (announced_from 1) (append_assoc plan.setup (p.begin ∷ []) p.between) in
    let told : announced_from 1 (((plan.setup ++ p.begin ∷ p.between) ++ p.end ∷ []) ++ plan.recovery) ≡ plan.announced = ap (announced_from 1) (append_assoc (plan.setup ++ p.begin ∷ p.between) (p.end ∷ []) plan.recovery ∙ sym p.cut) ∙ sym p.announced in
    ap (run 1 begun) p.cut
    ∙ run-then 1 (length plan.setup + 2 + length p.between) begun (at Trying parts.mid t) (plan.setup ++ p.begin ∷ p.between) (p.end ∷ plan.recovery) (omega (arith, sized)) (middle_run plan p.begin p.between first.mid parts.mid p.setup p.begins p.unmarked first.before first.behind)
    ∙ end_run t (plan.setup ++ p.begin ∷ p.between) p.end plan.recovery parts.mid (length plan.setup + 2 + length p.between) joined refl (omega (arith, sized)) p.ends p.unmarked_after parts.behind
    ∙ (λ i. Some (at Recovering false (record plan { tried = sym p.tries.apart i; then_line = sym p.place i; announced = told i })))

pub plan-is-read : (lines : List (List ℕ)) (plan : Sweep) → IsPlan lines plan → sweep_of lines ≡ Ok plan
plan-is-read lines plan p =
    ap (read_lines 1 begun) (sym (append-nil lines)) ∙ run-read 1 (1 + length lines) begun (at Recovering false plan) lines [] refl (plan_run lines plan p) ∙ lines-done (1 + length lines) (at Recovering false plan)

pub no-plan : (lines : List (List ℕ)) (fault : PlanFault) → TellsFault (sweep_of lines) fault → IsNoPlan lines fault
no-plan lines NoMemory h = tt
no-plan lines (BadLine line reason) h = λ plan p. plan-not-bad plan (record { line = line; reason = reason }) (sym (plan-is-read lines plan p) ∙ h)
