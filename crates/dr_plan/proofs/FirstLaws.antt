-- The line that is told is the first one that can't stand where it stands.
use Rattle.std.proofs.Common.{ℕ, ◌≡◌, ◌+◌, Bool, true, false, List, [], ◌∷◌, ◌++◌, length, refl, ap, sym, ◌∙◌, subst, arith, append_assoc, nat_eq, Option, Some, None}
use Rattle.std.specs.Prelude.{Result, Ok, Err, codes, find, ◌||◌, ◌&&◌}
use Rattle.std.specs.List.{filter_map}
use Rattle.std.specs.Option.{option_map, option_or}
use Rattle.std.specs.Str.{bytes_eq}
use Rattle.std.proofs.lemmas.Grind.{common_steps, flat_map-append}
use Rattle.std.proofs.lemmas.List.{append-nil}
use Rattle.std.proofs.lemmas.List.Concat.{flat_map-cons}
use Rattle.std.proofs.lemmas.List.Elements.{All-nil, All-cons, filter_map-append}
use Rattle.std.proofs.lemmas.List.Folds.{find-append, list_any-append}
use Rattle.dr_ids.specs.Spelling.{all_digits}
use Rattle.dr_model.specs.declared.step.Name.{Name}
use Rattle.dr_model.specs.declared.step.Step.{Step}
use Rattle.dr_model.specs.declared.step.Step.TheVariants.{Server, Volume}
use Rattle.dr_model.specs.declared.grammar.Item.{Item}
use Rattle.dr_model.specs.declared.grammar.Span.{Span}
use Rattle.dr_model.specs.Grammar.{line_of}
use Rattle.dr_model.specs.LineSteps.{no_options, no_operands}
use Rattle.dr_model.specs.LineTable.{form, settings, operands, may_end_with}
use Rattle.dr_model.specs.LineText.{name_text, step_text, at_saying, operand_fits, said_count, is_written, IsWritten}
use Rattle.dr_model.specs.LineWords.{name_of, paired}
use Rattle.dr_script.proofs.StepLemmas.{reads}
use Rattle.dr_plan.specs.declared.above.VolumeSize.{VolumeSize}
use Rattle.dr_plan.specs.declared.fault.PlanFault.{PlanFault}
use Rattle.dr_plan.specs.declared.fault.PlanFault.TheVariants.{NoMemory, BadLine}
use Rattle.dr_plan.specs.declared.marks.Mark.TheVariants.{Lose, Use, Here, Then}
use Rattle.dr_plan.specs.declared.stages.Stage.{Stage}
use Rattle.dr_plan.specs.declared.stages.Stage.TheVariants.{Start, Losing, Using, Bounded, Trying, Recovering}
use Rattle.dr_plan.specs.declared.reading.Reading.{Reading}
use Rattle.dr_plan.specs.declared.reason.Reason.{Reason}
use Rattle.dr_plan.specs.Above.{unless, steps_read, line_steps, steps_of, server_in, volume_in, servers_in, volumes_in, is_among, is_size_of, tracks_in}
use Rattle.dr_plan.specs.Marks.{mark_of, names_said}
use Rattle.dr_plan.specs.Outcome.{TellsFault, IsNone, Begins, IsFirstBad, TellsFirst}
use Rattle.dr_plan.specs.Parts.{IsMark, AreAlike, uses_of}
use Rattle.dr_plan.specs.Reading.{Bad, servers_fault, pairs_fault, with_pairs, kept, noted, read_on, read_lines, missing, finished_by, finished, begun, sweep_of}
use Rattle.dr_plan.specs.Sweep.{Sweep, Use as HostUse}
use Rattle.dr_plan.proofs.EachLaws.{plan-is-read}
use Rattle.dr_plan.proofs.FaultLaws.{names-complete, pairs-complete}
use Rattle.dr_plan.proofs.OwnLemmas.{step-plain}
use Rattle.dr_plan.proofs.PlanLaws.{Read, Part, Fits, read-begun, read-step, plan-read}
use Rattle.dr_plan.proofs.ReadLemmas.{read-plain, read-mark, line-bad, lines-done, plan-not-bad, run, run-none, run-more, run-then, run-read}

-- ---- lines with which a plan goes on

a_server : Name
a_server = name_of (codes "A")

server_step : Step
server_step = Server a_server

volume_step : Step
volume_step = Volume 4096 a_server 1

server_line : List ℕ
server_line = step_text server_step

volume_line : List ℕ
volume_line = step_text volume_step

lose_line : List ℕ
lose_line = codes "#sweep lose A"

use_line : List ℕ
use_line = codes "#sweep use 1000 for 1000"

here_line : List ℕ
here_line = codes "#sweep here"

then_line : List ℕ
then_line = codes "#sweep then"

one : Span
one = record { low = 4096; high = 4096 }

server_written : IsWritten server_step
unfolding server_step a_server is_written at_saying settings operands form said_count operand_fits no_options no_operands may_end_with
server_written = refl

volume_written : IsWritten volume_step
unfolding volume_step a_server is_written at_saying settings operands form said_count operand_fits no_options no_operands may_end_with
volume_written = refl

server_reads : line_of server_line ≡ Ok (server_step ∷ [])
unfolding server_line
server_reads = reads server_step server_written

volume_reads : line_of volume_line ≡ Ok (volume_step ∷ [])
unfolding volume_line
volume_reads = reads volume_step volume_written

lose_says : IsMark lose_line (Lose (a_server ∷ []))
unfolding mark_of names_said lose_line a_server
lose_says = (refl, refl)

use_says : IsMark use_line (Use None one one)
unfolding mark_of all_digits use_line one
use_says = (refl, refl)

here_says : IsMark here_line Here
unfolding mark_of here_line
here_says = (refl, refl)

then_says : IsMark then_line Then
unfolding mark_of then_line
then_says = (refl, refl)

-- ---- what the new lines define

steps-append : (above : List (List ℕ)) (line : List ℕ) (step : Step) → line_of line ≡ Ok (step ∷ []) → steps_of (above ++ line ∷ []) ≡ steps_of above ++ step ∷ []
steps-append above line step is = flat_map-append line_steps above (line ∷ []) ∙ ap (λ ss. steps_of above ++ ss) (flat_map-cons line_steps line [] ∙ append-nil (line_steps line) ∙ ap steps_read is)

or_true : (b : Bool) → (b || true) ≡ true
or_true true = refl
or_true false = refl

server_known : (above : List (List ℕ)) → is_among a_server (servers_in (above ++ server_line ∷ [])) ≡ true
unfolding server_step a_server
server_known above =
    ap (λ ss. is_among a_server (filter_map server_in ss)) (steps-append above server_line server_step server_reads)
    ∙ ap (is_among a_server) (filter_map-append server_in (steps_of above) (server_step ∷ []))
    ∙ list_any-append (λ (other : Name). bytes_eq (name_text other) (name_text a_server)) (servers_in above) (a_server ∷ [])
    ∙ or_true (is_among a_server (servers_in above))

volume_size : VolumeSize
volume_size = record { volume = 4096; tracks = 1 }

or_some : (o : Option VolumeSize) → (tracks : ℕ) × (option_map (λ (s : VolumeSize). s.tracks) (option_or o (Some volume_size)) ≡ Some tracks)
or_some None = (volume_size.tracks, refl)
or_some (Some s) = (s.tracks, refl)

volume_known : (above : List (List ℕ)) → (tracks : ℕ) × (tracks_in (above ++ volume_line ∷ []) 4096 ≡ Some tracks)
unfolding volume_step volume_size
volume_known above =
    let o = or_some (find (is_size_of 4096) (volumes_in above)) in (
      o.0,
      ap (λ ss. option_map (λ (s : VolumeSize). s.tracks) (find (is_size_of 4096) (filter_map volume_in ss))) (steps-append above volume_line volume_step volume_reads)
          ∙ ap (λ vs. option_map (λ (s : VolumeSize). s.tracks) (find (is_size_of 4096) vs)) (filter_map-append volume_in (steps_of above) (volume_step ∷ []))
          ∙ ap (option_map (λ (s : VolumeSize). s.tracks)) (find-append (is_size_of 4096) (volumes_in above) (volume_size ∷ []))
          ∙ o.1,
    )

-- ---- from each stage the recovery can be reached

record Goes (number : ℕ) (r : Reading) : Type 0 where
  rest : List (List ℕ)
  plan : Sweep
  goes : run number r rest ≡ Some (record { stage = Recovering; waits = false; plan = plan })

step_on : (number : ℕ) (r mid : Reading) (line : List ℕ) → read_on number r line ≡ Ok mid → Goes (number + 1) mid → Goes number r
step_on number r mid line is g = record { rest = line ∷ g.rest; plan = g.plan; goes = run-more number r mid line g.rest is ∙ g.goes }

from_recovering : (number : ℕ) (plan : Sweep) → Goes number (record { stage = Recovering; waits = false; plan = plan })
from_recovering number plan = record { rest = []; plan = plan; goes = run-none number (record { stage = Recovering; waits = false; plan = plan }) }

from_trying : (number : ℕ) (plan : Sweep) → Goes number (record { stage = Trying; waits = false; plan = plan })
from_trying number plan = step_on number _ _ then_line (read-mark number then_line Then Trying Recovering plan (record plan { then_line = number }) then_says refl refl) (from_recovering (number + 1) (record plan { then_line = number }))

from_using : (number : ℕ) (plan : Sweep) → Goes number (record { stage = Using; waits = false; plan = plan })
from_using number plan = step_on number _ _ here_line (read-mark number here_line Here Using Trying plan plan here_says refl refl) (from_trying (number + 1) plan)

from_bounded : (number : ℕ) (plan : Sweep) → Goes number (record { stage = Bounded; waits = false; plan = plan })
from_bounded number plan = step_on number _ _ here_line (read-mark number here_line Here Bounded Trying plan plan here_says refl refl) (from_trying (number + 1) plan)

one_pair : Item
one_pair = record { first = 4096; second = 4096 }

one_paired : paired one one ≡ one_pair ∷ []
unfolding paired one one_pair
one_paired = refl

use_notes : (number : ℕ) (plan : Sweep) (tracks : ℕ) → plan.uses ≡ [] → tracks_in plan.setup 4096 ≡ Some tracks
    → noted number Losing (Use None one one) use_line plan ≡ Ok (record plan { uses = with_pairs plan.uses None (paired one one); setup = plan.setup ++ use_line ∷ [] })
unfolding one one_pair
use_notes number plan tracks none known =
    let alike : AreAlike plan.setup one_pair = (tracks, known, known) in
    let well : pairs_fault (volumes_in plan.setup) (paired one one) ≡ None = ap (pairs_fault (volumes_in plan.setup)) one_paired ∙ pairs-complete plan.setup (one_pair ∷ []) (All-cons (AreAlike plan.setup) one_pair [] alike (All-nil (AreAlike plan.setup))) in
    subst (λ (uses : List HostUse). noted number Losing (Use None one one) use_line (record plan { uses = uses }) ≡ Ok (record plan { uses = with_pairs uses None (paired one one); setup = plan.setup ++ use_line ∷ [] })) (sym none)
    (ap (λ f. unless f (record plan { uses = with_pairs [] None (paired one one); setup = plan.setup ++ use_line ∷ [] })) well)

from_losing : (number : ℕ) (plan : Sweep) → plan.uses ≡ [] → Goes number (record { stage = Losing; waits = false; plan = plan })
from_losing number plan none =
    let known : Sweep = record plan { setup = plan.setup ++ volume_line ∷ [] } in
    let v = volume_known plan.setup in
    let next : Sweep = record known { uses = with_pairs known.uses None (paired one one); setup = known.setup ++ use_line ∷ [] } in
    step_on number _ (record { stage = Losing; waits = false; plan = known }) volume_line (read-plain number (record { stage = Losing; waits = false; plan = plan }) volume_line (volume_step ∷ []) (step-plain volume_line volume_step [] volume_reads) volume_reads refl)
    (step_on (number + 1) _ (record { stage = Using; waits = false; plan = next }) use_line (read-mark (number + 1) use_line (Use None one one) Losing Using known next use_says refl (use_notes (number + 1) known v.0 none v.1))
    (from_using (number + 1 + 1) next))

lose_notes : (number : ℕ) (plan : Sweep) → plan.loses ≡ [] → is_among a_server (servers_in plan.setup) ≡ true
    → noted number Start (Lose (a_server ∷ [])) lose_line plan ≡ Ok (record plan { loses = plan.loses ++ (a_server ∷ []) ∷ []; setup = plan.setup ++ lose_line ∷ [] })
lose_notes number plan none known =
    let well : servers_fault (servers_in plan.setup) [] (a_server ∷ []) ≡ None = names-complete (servers_in plan.setup) [] (a_server ∷ []) (All-cons (λ name. is_among name (servers_in plan.setup) ≡ true) a_server [] known (All-nil (λ name. is_among name (servers_in plan.setup) ≡ true))) (λ before after name cut. once before after name cut) in
    subst (λ (loses : List (List Name)). noted number Start (Lose (a_server ∷ [])) lose_line (record plan { loses = loses }) ≡ Ok (record plan { loses = loses ++ (a_server ∷ []) ∷ []; setup = plan.setup ++ lose_line ∷ [] })) (sym none)
    (ap (λ f. unless f (record plan { loses = [] ++ (a_server ∷ []) ∷ []; setup = plan.setup ++ lose_line ∷ [] })) well)
  where
    once : (before after : List Name) (name : Name) → a_server ∷ [] ≡ before ++ name ∷ after → is_among name ([] ++ before) ≡ false
    once [] after name cut = refl
    once (b ∷ []) after name cut = absurd cc
    once (b ∷ d ∷ before) after name cut = absurd cc

from_start : (number : ℕ) (plan : Sweep) → plan.loses ≡ [] → plan.uses ≡ [] → is_among a_server (servers_in plan.setup) ≡ true → Goes number (record { stage = Start; waits = false; plan = plan })
from_start number plan none unused known =
    let next : Sweep = record plan { loses = plan.loses ++ (a_server ∷ []) ∷ []; setup = plan.setup ++ lose_line ∷ [] } in
    step_on number _ (record { stage = Losing; waits = false; plan = next }) lose_line (read-mark number lose_line (Lose (a_server ∷ [])) Start Losing plan next lose_says refl (lose_notes number plan none known)) (from_losing (number + 1) next unused)

-- a server is defined first: that is a step, which an announcement may wait for
server_room : (waits : Bool) → (waits && nat_eq 1 0) ≡ false
server_room true = refl
server_room false = refl

server_on : (number : ℕ) (stage : Stage) (waits : Bool) (plan : Sweep) → Goes (number + 1) (record { stage = stage; waits = false; plan = kept stage number server_line (server_step ∷ []) plan }) → Goes number (record { stage = stage; waits = waits; plan = plan })
server_on number stage waits plan g =
    step_on number _ _ server_line (read-plain number (record { stage = stage; waits = waits; plan = plan }) server_line (server_step ∷ []) (step-plain server_line server_step [] server_reads) server_reads (server_room waits)) g

goes_on : (number : ℕ) (done : List (List ℕ)) (stage : Stage) (waits : Bool) (plan : Sweep) → Part stage done plan → Goes number (record { stage = stage; waits = waits; plan = plan })
unfolding Part Fits
goes_on number done Start waits plan p = server_on number Start waits plan (from_start (number + 1) (record plan { setup = plan.setup ++ server_line ∷ [] }) p.fits.0 (p.head.uses ∙ ap uses_of p.fits.1) (server_known plan.setup))
goes_on number done Losing waits plan p = server_on number Losing waits plan (from_losing (number + 1) (record plan { setup = plan.setup ++ server_line ∷ [] }) (p.head.uses ∙ ap uses_of p.fits.1))
goes_on number done Using waits plan p = server_on number Using waits plan (from_using (number + 1) (kept Using number server_line (server_step ∷ []) plan))
goes_on number done Bounded waits plan p = server_on number Bounded waits plan (from_bounded (number + 1) (kept Bounded number server_line (server_step ∷ []) plan))
goes_on number done Trying waits plan p = server_on number Trying waits plan (from_trying (number + 1) (kept Trying number server_line (server_step ∷ []) plan))
goes_on number done Recovering waits plan p = server_on number Recovering waits plan (from_recovering (number + 1) (kept Recovering number server_line (server_step ∷ []) plan))

-- ---- the first bad line

begins : (number : ℕ) (done : List (List ℕ)) (r : Reading) → number ≡ 1 + length done → run 1 begun done ≡ Some r → Read done r → Begins done
begins number done r at ran so_far =
    let g = goes_on number done r.stage r.waits r.plan so_far.part in
    let last : Reading = record { stage = Recovering; waits = false; plan = g.plan } in
    let all : run 1 begun (done ++ g.rest) ≡ Some last = run-then 1 number begun r done g.rest at ran ∙ g.goes in
    let is = ap (read_lines 1 begun) (sym (append-nil (done ++ g.rest))) ∙ run-read 1 (1 + length (done ++ g.rest)) begun last (done ++ g.rest) [] refl all ∙ lines-done (1 + length (done ++ g.rest)) last in
    (g.rest, g.plan, plan-read (done ++ g.rest) g.plan is)

breaks : (number : ℕ) (done : List (List ℕ)) (r : Reading) (line : List ℕ) (reason : Reason) → number ≡ 1 + length done → run 1 begun done ≡ Some r → read_on number r line ≡ Err reason → Begins (done ++ line ∷ []) → ⊥
breaks number done r line reason at ran bad b =
    let ok = plan-is-read ((done ++ line ∷ []) ++ b.0) b.1 b.2 in
    let err = ap (read_lines 1 begun) (append_assoc done (line ∷ []) b.0) ∙ run-read 1 number begun r done (line ∷ b.0) at ran ∙ line-bad number r line b.0 reason bad in
    plan-not-bad b.1 (record { line = number; reason = reason }) (sym ok ∙ err)

none_whole : (number : ℕ) (done : List (List ℕ)) (r : Reading) (bad : Bad) → number ≡ 1 + length done → run 1 begun done ≡ Some r → finished number r ≡ Err bad → IsNone done
none_whole number done r bad at ran h = λ plan p.
    (let err = ap (read_lines 1 begun) (sym (append-nil done)) ∙ run-read 1 number begun r done [] at ran ∙ lines-done number r ∙ h in
    plan-not-bad plan bad (sym (plan-is-read done plan p) ∙ err))

end_line : (number : ℕ) (r : Reading) (bad : Bad) → finished number r ≡ Err bad → number ≡ bad.line
end_line number r bad h = by (missing r) h
  where
    by : (m : Option Reason) → finished_by number r.plan m ≡ Err bad → number ≡ bad.line
    by None k = absurd cc
    by (Some reason) k = let same : record { line = number; reason = reason } ≡ bad = cc in ap (λ (b : Bad). b.line) same

first_bad : (number : ℕ) (bad : Bad) (r : Reading) (lines done : List (List ℕ)) → number ≡ 1 + length done → run 1 begun done ≡ Some r → Read done r → read_lines number r lines ≡ Err bad → IsFirstBad (done ++ lines) bad.line
unfolding read_lines
first_bad number bad r [] done at ran so_far h =
    record { before = done; after = []; cut = refl; is = sym (end_line number r bad h) ∙ (let e : number ≡ length done + 1 = omega (arith, at) in e); begins = begins number done r at ran so_far; breaks = none_whole number done r bad at ran h }
first_bad number bad r (line ∷ rest) done at ran so_far h =
    by (read_on number r line) refl h
    (λ next stands k. first_bad (number + 1) bad next rest (done ++ line ∷ []) longer (run-then 1 number begun r done (line ∷ []) at ran ∙ run-more number r next line [] stands ∙ run-none (number + 1) next) (read-step done line r next number (omega (arith, at)) stands so_far) k)
  where
    longer : number + 1 ≡ 1 + length (done ++ line ∷ [])
    longer = let size : length (done ++ line ∷ []) ≡ length done + 1 = grind (arith, common_steps) in omega (arith, size, at)

    by : (o : Result Reading Reason) → read_on number r line ≡ o → (elim o as (λ _. Result Sweep Bad) [ Err reason ↦ Err (record { line = number; reason = reason }) | Ok next ↦ read_lines (number + 1) next rest ]) ≡ Err bad
        → ((next : Reading) → read_on number r line ≡ Ok next → read_lines (number + 1) next rest ≡ Err bad → IsFirstBad ((done ++ line ∷ []) ++ rest) bad.line) → IsFirstBad (done ++ line ∷ rest) bad.line
    by (Err reason) stands k further =
        let same : record { line = number; reason = reason } ≡ bad = cc in
        record { before = done; after = line ∷ rest; cut = refl; is = ap (λ (b : Bad). b.line) (sym same) ∙ (let e : number ≡ length done + 1 = omega (arith, at) in e); begins = begins number done r at ran so_far; breaks = breaks number done r line reason at ran stands }
    by (Ok next) stands k further = subst (λ ls. IsFirstBad ls bad.line) (append_assoc done (line ∷ []) rest) (further next stands k)

pub first-told : (lines : List (List ℕ)) (fault : PlanFault) → TellsFault (sweep_of lines) fault → TellsFirst lines fault
first-told lines NoMemory h = tt
first-told lines (BadLine line reason) h = first_bad 1 (record { line = line; reason = reason }) begun lines [] refl (run-none 1 begun) read-begun h
