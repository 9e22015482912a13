use Rattle.std.proofs.Common.{[], arith}
use Rattle.dr_lost.proofs.NodeLemmas.{list-empty}
use Rattle.dr_lost.proofs.HeldLemmas.{within-after-set, stand-set}
use Rattle.dr_lost.proofs.holdings.Holdings.blank.Goals as goal

pub invariant_of-self : goal.invariant_of-self
invariant_of-self c =
    let x = c.args.self.now in
    let e = c.set_cell.ensures in
    record {
      earlier = x.earlier;
      current_within = within-after-set c.set_cell.result x.nodes.items x.current.entries c.set_cell.new.rows.entries c.args.volume c.args.track 0 e.set e.same (omega arith) x.current_within;
      aside_within = x.aside_within;
    }

pub returns : goal.returns
returns c = λ h s.
    let x = c.args.self.now in
    let e = c.set_cell.ensures in
    stand-set x.nodes.items x.places.entries h c.set_cell.result x.current.entries c.set_cell.new.rows.entries x.aside.entries c.args.volume c.args.track 0 [] e.set e.same (list-empty x.nodes.items) s
