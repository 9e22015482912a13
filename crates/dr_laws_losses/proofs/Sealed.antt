-- The seal of the examples, entry by entry: of sets nothing computes, and where nothing is out of sync the secondary is sealed.
use Rattle.std.proofs.Common.{◌≡◌, ap, ◌∙◌, true, false, cond, not, ◌&&◌, ◌||◌, nat_eq, [], ◌∷◌, Some, None}
use Rattle.std.specs.FinSet.{len}
use Rattle.dr_model.specs.Control.{Control, World}
use Rattle.dr_model.specs.Entries.{fields_at}
use Rattle.dr_model.specs.Phases as phases
use Rattle.dr_model.specs.Sessions.{changed, with_master}
use Rattle.dr_model.specs.SessionEntries.{seal_entries, seal_on, void_refusal, seal_refusal}
use Rattle.dr_model.specs.SessionPlans.{exchanged, says_phase}
use Rattle.dr_model.specs.PairEntries.{send_refusal, refuse_if, end_if}
use Rattle.dr_model.specs.PlanParts.{Plan, same, none_follow}
use Rattle.dr_model.specs.Phases.{servers_where}
use Rattle.dr_model.specs.Moves.{Seal}
use Rattle.dr_model.specs.Carry.{Make, Pass, Do, Outcome, carry, go}
use Rattle.dr_model.specs.Carried.{begun, finish, answered, said, after_plan, masters_lost, stop_place}
use Rattle.dr_model.specs.Runs.{course, after_task}
use Rattle.dr_model.specs.Messages.{heard}
use Rattle.dr_model.proofs.CarryLemmas.{carry-first}
use Rattle.dr_laws_losses.specs.Example.{member, exchange}

abbrev pub seals : Plan
seals = record { first = same; told = []; entries = seal_entries 1 256 512 1; follows = none_follow; last = exchanged 1 0 true phases.Seal (member ∷ []); says = says_phase 1 }

-- the world after the one move that it makes
abbrev pub moved_on : World → Outcome
moved_on w = go (begun w seals) (Do (Make (Seal 512 256 1 1))) (λ v. carry v [])

abbrev pub control_then : World → Control
control_then w =
    let k : Control = (moved_on w).0.control in
    record k { sessions = changed 1 (with_master (λ r. phases.taken r 0 phases.Done)) k.sessions; flight = heard 1 0 (k.flight.epoch 1) phases.Seal k.flight }

-- and as it is answered
abbrev pub sealed : World → World
sealed w = masters_lost w (said (record (moved_on w).0 { control = control_then w }) 14 (says_phase 1 (control_then w)))

-- what is to be seen of the world in which it begins
pub record MaySeal (w : World) : Type 0 where
  pub plan : (course w (exchange 14)).last.plan ≡ seals
  pub first : refuse_if (void_refusal 256 1) (begun w seals).control ≡ Pass
  pub bare : len (fields_at (begun w seals).control 256).out_of_sync ≡ 0
  pub reached : send_refusal 256 512 (begun w seals).control ≡ None
  pub unsealed : nat_eq (fields_at (begun w seals).control 512).seal 1 ≡ false
  pub well : (moved_on w).1 ≡ None
  pub bare_then : len (fields_at (moved_on w).0.control 256).out_of_sync ≡ 0

module _ (w : World) (f : MaySeal w) where
  abbrev b : World
  b = begun w seals

  second-is : refuse_if (seal_refusal 256 512) b.control ≡ Pass
  second-is = ap (λ n. end_if (cond (nat_eq n 0) (send_refusal 256 512 b.control) None)) f.bare ∙ ap end_if f.reached

  third-is : seal_on 1 256 512 1 b.control ≡ Do (Make (Seal 512 256 1 1))
  third-is = ap (λ n. cond (nat_eq n 0 && not (nat_eq (fields_at b.control 512).seal 1)) (Do (Make (Seal 512 256 1 1))) Pass) f.bare ∙ ap (λ c. cond (true && not c) (Do (Make (Seal 512 256 1 1))) Pass) f.unsealed

  entries-are : carry b seals.entries ≡ moved_on w
  entries-are =
      carry-first b (refuse_if (void_refusal 256 1)) (refuse_if (seal_refusal 256 512) ∷ seal_on 1 256 512 1 ∷ []) Pass f.first
      ∙ (carry-first b (refuse_if (seal_refusal 256 512)) (seal_on 1 256 512 1 ∷ []) Pass second-is
      ∙ carry-first b (seal_on 1 256 512 1) [] (Do (Make (Seal 512 256 1 1))) third-is)

  control-is : seals.last (moved_on w).0.control ≡ control_then w
  control-is =
      let k : Control = (moved_on w).0.control in
      ap (λ n. record k { sessions = changed 1 (with_master (λ r. phases.taken r 0 (cond (not (nat_eq n 0) || false) phases.NotYet phases.Done))) k.sessions; flight = heard 1 0 (k.flight.epoch 1) phases.Seal k.flight }) f.bare_then

  answered-is : (e : Outcome) → carry b seals.entries ≡ e → e.1 ≡ None → after_plan w 14 seals ≡ said (record e.0 { control = seals.last e.0.control }) 14 (says_phase 1 (seals.last e.0.control))
  unfolding after_plan
  answered-is (v, None) is none = ap (λ (e : Outcome). said (finish seals (stop_place w seals) e.0 e.1) 14 (answered seals (finish seals (stop_place w seals) e.0 e.1).control e.1)) is
  answered-is (v, Some r) is none = absurd cc

  pub seal-is : after_task w (exchange 14) ≡ sealed w
  seal-is =
      ap (λ (p : Plan). masters_lost w (after_plan w 14 p)) f.plan ∙ ap (masters_lost w) (answered-is (moved_on w) entries-are f.well)
      ∙ ap (λ (k : Control). masters_lost w (said (record (moved_on w).0 { control = k }) 14 (says_phase 1 k))) control-is
