use Rattle.dr_sweep.specs.Seen.{run_seen}
use Rattle.dr_sweep.proofs.RunLemmas.{goes-stays, goes-longer, carried-on, halted-so}
use Rattle.dr_sweep.proofs.run.PointRun.carry.Goals as goal

pub returns-in-Done-clause-longer : goal.returns-in-Done-clause-longer
unfolding run_seen
returns-in-Done-clause-longer c = goes-longer _ _ _ _ _ _ _ _ _ _ (c.carry_out.ensures c.requires.began c.requires.steps c.requires.has)

pub returns-in-Done-clause-stays : goal.returns-in-Done-clause-stays
unfolding run_seen
returns-in-Done-clause-stays c = goes-stays _ _ _ _ _ _ _ _ _ _ (c.carry_out.ensures c.requires.began c.requires.steps c.requires.has)

pub returns-in-Done-clause-goes : goal.returns-in-Done-clause-goes
unfolding run_seen
returns-in-Done-clause-goes c began ls more steps ran is = carried-on began ls more steps (run_seen c.args.self.now) _ ran c.args.text.now is c.carry_out.result (c.carry_out.ensures began steps ran.has) c.in-Done.is

pub returns-in-TooLong-clause-longer : goal.returns-in-TooLong-clause-longer
unfolding run_seen
returns-in-TooLong-clause-longer c = goes-longer _ _ _ _ _ _ _ _ _ _ (c.carry_out.ensures c.requires.began c.requires.steps c.requires.has)

pub returns-in-TooLong-clause-stays : goal.returns-in-TooLong-clause-stays
unfolding run_seen
returns-in-TooLong-clause-stays c = goes-stays _ _ _ _ _ _ _ _ _ _ (c.carry_out.ensures c.requires.began c.requires.steps c.requires.has)

pub returns-in-TooLong-clause-fails : goal.returns-in-TooLong-clause-fails
unfolding run_seen
returns-in-TooLong-clause-fails c began ls more steps ran is = halted-so began ls more steps (run_seen c.args.self.now) _ ran c.args.text.now is c.carry_out.result (c.carry_out.ensures began steps ran.has) c.in-TooLong.is

pub returns-in_default : goal.returns-in_default
unfolding run_seen
returns-in_default c = record {
  longer = goes-longer _ _ _ _ _ _ _ _ _ _ (c.carry_out.ensures c.requires.began c.requires.steps c.requires.has);
  stays = goes-stays _ _ _ _ _ _ _ _ _ _ (c.carry_out.ensures c.requires.began c.requires.steps c.requires.has);
  goes = tt;
  fails = λ began ls more steps ran is. tt;
}
