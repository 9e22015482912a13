-- What is counted of the messages in flight has room for one more, where the journal has room for a step.
use Rattle.std.proofs.Common.{ℕ, ◌≡◌, ◌≤◌, ◌+◌, subst, arith, true, length, nat_le, Ok}
use Rattle.std.proofs.lemmas.Bool.Decides.{nat_tests}
use Rattle.dr_model.specs.declared.step.Step.{Step}
use Rattle.dr_model.specs.Control.{World}
use Rattle.dr_model.specs.Laws.{IsCounted, FlightCounted}
use Rattle.dr_model.specs.Limits.{most_events, step_events}
use Rattle.dr_model.specs.Messages.{Flight}
use Rattle.dr_model.specs.Plans.{Plan, plan_of, has_room}
use Rattle.dr_model.specs.Runs.{after_plan}
use Rattle.dr_laws_sound.proofs.Cases.{Case, of-case}
use Rattle.dr_laws_sound.proofs.FlightCounts.{counted-carried}
use Rattle.dr_laws_sound.proofs.Parts.{OnePlan}
use Rattle.dr_steps.specs.Counts.{HasCounts}

with-room : (n room most : ℕ) → nat_le (n + room) most ≡ true → n ≤ most
with-room n room most has = grind (arith, nat_tests, has)

have : (n servers : ℕ) (f : Flight) → n ≤ most_events + 1 → IsCounted n servers f → HasCounts servers f
have n servers f few counted = record {
  made = let a : f.made ≤ n = counted.made in omega (arith, few, a);
  starts = λ server. let a : f.starts server ≤ n = counted.starts server in omega (arith, few, a);
  epochs = λ s. let a : f.epoch s ≤ n = counted.epochs s in omega (arith, few, a);
  homes = counted.homes;
}

-- before a step
pub before-step : (w : World) → has_room w.events ≡ true → FlightCounted w → HasCounts (length w.control.servers) w.control.flight
before-step w room counted =
    let few = with-room (length w.events) step_events most_events room in
    have (length w.events) (length w.control.servers) w.control.flight (omega (arith, few)) counted

-- and behind its plan, before masters are lost
pub behind-plan : (w u : World) (line : ℕ) (step : Step) → has_room w.events ≡ true → FlightCounted w → after_plan w line (plan_of w.control w.events line step) ≡ u → HasCounts (length u.control.servers) u.control.flight
unfolding after_plan
behind-plan w u line step room counted is =
    let p : Plan = plan_of w.control w.events line step in
    let case : Case w.control w.events line (Ok step) p = of-case w.control w.events line step in
    let few = with-room (length w.events) step_events most_events room in
    subst (λ (v : World). HasCounts (length v.control.servers) v.control.flight) is (have (length w.events + 1) (length (after_plan w line p).control.servers) (after_plan w line p).control.flight (omega (arith, few)) (counted-carried w line p (OnePlan (Ok step) p case) counted))
