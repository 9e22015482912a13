use Rattle.std.proofs.Common.{◌≡◌, ◌≤◌, ◌++◌, ◌∷◌, [], List, ℕ, ap, subst, sym, ◌∙◌, length}
use Rattle.dr_model.specs.Histories.{Lists}
use Rattle.dr_lost.specs.Nodes.{list_of}
use Rattle.dr_lost.proofs.HeldLemmas.{within-after-set, stand-set, joined-earlier, joined-within, joined-number, joined-list, joined-stand}
use Rattle.dr_lost.proofs.holdings.Holdings.join.Goals as goal

pub invariant_of-self-2 : goal.invariant_of-self-2
invariant_of-self-2 c =
    let x = c.args.self.now in
    let before = c.cell-before.result in
    let old = x.nodes.items in
    let new = c.add_node.new.nodes.items in
    let added = c.in_ok-node.ensures.added in
    let low = subst (λ k. k ≤ length old) (sym c.cell-before.ensures) (x.current_within c.args.place.volume c.args.place.track) in
    let e = c.set_cell.ensures in
    record {
      earlier = joined-earlier old new c.args.w before added low x.earlier;
      current_within = within-after-set c.set_cell.result new x.current.entries c.set_cell.new.rows.entries c.args.to c.args.place.track c.in_ok-node.node e.set e.same (joined-number old new c.args.w before added c.in_ok-node.node c.in_ok-node.ensures.number) (joined-within old new c.args.w before added x.current.entries x.current_within);
      aside_within = joined-within old new c.args.w before added x.aside.entries x.aside_within;
    }

pub returns : goal.returns
returns c = λ h s.
    let x = c.args.self.now in
    let before = c.cell-before.result in
    let old = x.nodes.items in
    let new = c.add_node.new.nodes.items in
    let added = c.in_ok-node.ensures.added in
    let e = c.set_cell.ensures in
    let place = c.args.place in
    let k = c.in_ok-node.node in
    let own : list_of old before ≡ h.now place.volume place.track = ap (list_of old) c.cell-before.ensures ∙ ap (λ (f : Lists). f place.volume place.track) s.now in
    let list = joined-list old new c.args.w before added k c.in_ok-node.ensures.number ∙ ap (λ (l : List ℕ). l ++ c.args.w ∷ []) own in
    stand-set new x.places.entries h c.set_cell.result x.current.entries c.set_cell.new.rows.entries x.aside.entries c.args.to place.track k (h.now place.volume place.track ++ c.args.w ∷ []) e.set e.same list
    (joined-stand old new c.args.w before added x.current.entries x.aside.entries x.places.entries h x.current_within x.aside_within s)
