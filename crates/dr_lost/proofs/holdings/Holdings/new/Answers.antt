use Rattle.dr_lost.proofs.HeldLemmas.{held-none, places-none}
use Rattle.dr_lost.proofs.holdings.Holdings.new.Goals as goal

pub returns : goal.returns
returns c = record {
  now = held-none c.new.result.items c.new-2.result.entries c.new-2.ensures.empty;
  kept = held-none c.new.result.items c.new-3.result.entries c.new-3.ensures.empty;
  writes = places-none c.new-4.result.entries c.new-4.ensures.empty;
}
