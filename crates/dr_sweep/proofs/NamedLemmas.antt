-- What the words of a command name is one of the plan's parts.
use Rattle.std.proofs.Common.{ℕ, ◌≡◌, ◌<◌, List, [], length, refl, ap, subst, arith, slice_get, Option, Some, None}
use Rattle.std.specs.Option.{option_map_or}
use Rattle.std.specs.Str.{bytes_eq}
use Rattle.std.proofs.lemmas.List.Quantifiers.{position-Some}
use Rattle.std.proofs.lemmas.Option.{same_Some, slice_get_within}
use Rattle.dr_facts.proofs.Options.{bound}
use Rattle.dr_model.specs.declared.step.Name.{Name}
use Rattle.dr_model.specs.LineText.{name_text}
use Rattle.dr_model.specs.LineWords.{◌>>=◌}
use Rattle.dr_plan.specs.Sweep.{Sweep, Tried}
use Rattle.dr_sweep.specs.declared.fault.PointFault.{PointFault}
use Rattle.dr_sweep.specs.declared.fault.PointFault.TheVariants.{NoMemory, TooLong}
use Rattle.dr_sweep.specs.declared.parts.Part.{Part}
use Rattle.dr_sweep.specs.declared.printing.NamedPoint.{NamedPoint}
use Rattle.dr_sweep.specs.declared.printing.NamedPoint.TheVariants.{Cut, Gap}
use Rattle.dr_sweep.specs.declared.printing.Asked.TheVariants.{Script}
use Rattle.dr_sweep.specs.Comes.{servers_lost}
use Rattle.dr_sweep.specs.Parts.{FailsIn, FailsAtPart, IsOf}
use Rattle.dr_sweep.specs.Printing.{place_of, torn_of, tried_at, is_at, gap_at, cut_of, gap_of, asked_of, AsksOf}
use Rattle.dr_sweep.specs.Reach.{server_of}
use Rattle.dr_sweep.proofs.FirstLemmas.{nobody}
use Rattle.dr_sweep.proofs.PartLemmas.{of-parts}
use Rattle.dr_words.specs.declared.sweep.PlanLine.{PlanLine}
use Rattle.dr_words.specs.declared.sweep.SweepCommand.{SweepCommand}
use Rattle.dr_words.specs.declared.sweep.SweepCommand.TheVariants.{Report as OnReport, Rows as OnRows, Picture as OnPicture, Json as OnJson, CutScript, GapScript}
use Rattle.dr_words.specs.declared.sweep.TornBytes.{TornBytes}

nothing_tried : Tried
nothing_tried = record { line = 0; part = 0; text = [] }

module _ (plan : Sweep) (disaster : ℕ) (line : PlanLine) where
  tried_within : (place : ℕ) → tried_at plan line ≡ Some place → place < length plan.tried
  tried_within place is = (position-Some (is_at line) plan.tried place nothing_tried is).0

  cut_in : (server : List ℕ) (write : ℕ) (torn : TornBytes) (named : NamedPoint) → cut_of plan disaster line server write torn ≡ Some named → AsksOf plan (Script (Some named))
  cut_in server write torn named is =
      let d = bound (place_of disaster) (λ d. tried_at plan line >>= λ p. slice_get plan.loses d >>= λ names. server_of names server >>= λ x. Some (Cut d p x write (torn_of torn))) named is in
      let p = bound (tried_at plan line) (λ p. slice_get plan.loses d.0 >>= λ names. server_of names server >>= λ x. Some (Cut d.0 p x write (torn_of torn))) named d.2 in
      let names = bound (slice_get plan.loses d.0) (λ names. server_of names server >>= λ x. Some (Cut d.0 p.0 x write (torn_of torn))) named p.2 in
      let x = bound (server_of names.0 server) (λ x. Some (Cut d.0 p.0 x write (torn_of torn))) named names.2 in
      let here = (position-Some (λ (name : Name). bytes_eq (name_text name) server) names.0 x.0 nobody x.1).0 in
      let count : servers_lost plan d.0 ≡ length names.0 = ap (λ (o : Option (List Name)). option_map_or length o 0) names.1 in
      let low : x.0 < servers_lost plan d.0 = omega (arith, here, count) in
      subst (λ named. AsksOf plan (Script (Some named))) (same_Some (Cut d.0 p.0 x.0 write (torn_of torn)) named x.2) (slice_get_within plan.loses d.0 names.0 names.1, tried_within p.0 p.1, low)

  gap_in : (o : Option NamedPoint) → gap_of plan disaster line ≡ o → AsksOf plan (Script o)
  gap_in None is = tt
  gap_in (Some named) is =
      let d = bound (place_of disaster) (λ d. gap_at plan line >>= λ p. Some (Gap d p)) named is in
      let p = bound (gap_at plan line) (λ p. Some (Gap d.0 p)) named d.2 in
      subst (λ named. AsksOf plan (Script (Some named))) (same_Some (Gap d.0 p.0) named p.2) tt

-- a device write that is asked for is in a tried step
pub asked-in : (plan : Sweep) (command : SweepCommand) → AsksOf plan (asked_of plan command)
asked-in plan OnReport = tt
asked-in plan OnRows = tt
asked-in plan OnPicture = tt
asked-in plan OnJson = tt
asked-in plan (CutScript disaster line server write torn) = by (cut_of plan disaster line server write torn) refl
  where
    by : (o : Option NamedPoint) → cut_of plan disaster line server write torn ≡ o → AsksOf plan (Script o)
    by None is = tt
    by (Some named) is = cut_in plan disaster line server write torn named is
asked-in plan (GapScript disaster line) = gap_in plan disaster line (gap_of plan disaster line) refl

-- where a part has no rows, there is nothing to print
pub part-fails : (plan : Sweep) (part : Part) (fault : PointFault) → IsOf plan part → FailsIn plan part fault → FailsAtPart plan fault
part-fails plan part NoMemory is fails = tt
part-fails plan part TooLong is fails = record { part = part; among = of-parts plan part is; fails = fails }
