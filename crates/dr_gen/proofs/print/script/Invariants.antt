use Rattle.std.proofs.Common.{◌≡◌, ◌++◌, ◌-◌, ◌≤◌}
use Rattle.dr_gen.specs.Trial.{lines_of, rounds, ended, head}
use Rattle.dr_gen.proofs.print.script.Given as goal

-- the text with that of the rounds that are left is the head with that of all rounds
abbrev pub invariant-loop : goal.invariant-loop
invariant-loop l = record {
  few : l.writes ≤ l.counter;
  text : l.text ++ ended (lines_of l.writes (rounds l.state (2000 - l.counter))) ≡ ended head ++ ended (lines_of 0 (rounds l.fn.n 2000));
}
