use Rattle.std.proofs.Common.{◌≡◌, ◌≤◌, ap, subst, sym, ◌∙◌, length}
use Rattle.dr_model.specs.Histories.{Lists}
use Rattle.dr_lost.specs.Nodes.{list_of}
use Rattle.dr_lost.proofs.HeldLemmas.{within-after-set, stand-set}
use Rattle.dr_lost.proofs.holdings.Holdings.send.Goals as goal

pub invariant_of-self : goal.invariant_of-self
invariant_of-self c =
    let x = c.args.self.now in
    let e = c.set_cell.ensures in
    let low = subst (λ k. k ≤ length x.nodes.items) (sym c.cell-node.ensures) (x.current_within c.args.from c.args.track) in
    record {
      earlier = x.earlier;
      current_within = within-after-set c.set_cell.result x.nodes.items x.current.entries c.set_cell.new.rows.entries c.args.to c.args.track c.cell-node.result e.set e.same low x.current_within;
      aside_within = x.aside_within;
    }

pub returns : goal.returns
returns c = λ h s.
    let x = c.args.self.now in
    let e = c.set_cell.ensures in
    let list : list_of x.nodes.items c.cell-node.result ≡ h.now c.args.from c.args.track = ap (list_of x.nodes.items) c.cell-node.ensures ∙ ap (λ (f : Lists). f c.args.from c.args.track) s.now in
    stand-set x.nodes.items x.places.entries h c.set_cell.result x.current.entries c.set_cell.new.rows.entries x.aside.entries c.args.to c.args.track c.cell-node.result (h.now c.args.from c.args.track) e.set e.same list s
