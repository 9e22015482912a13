use Rattle.std.proofs.Common.{slice_index}
use Rattle.dr_lost.proofs.HeldLemmas.{within-after-put, stand-put, row-within, row-listed}
use Rattle.dr_lost.proofs.holdings.Holdings.set.Goals as goal

pub invariant_of-self-2 : goal.invariant_of-self-2
invariant_of-self-2 c =
    let x = c.args.self.now in
    let e = c.put_row.ensures in
    let row = slice_index c.in_ok-row.row.items in
    record {
      earlier = x.earlier;
      current_within = within-after-put c.put_row.result x.nodes.items x.current.entries c.put_row.new.rows.entries c.args.volume row e.put e.same (row-within x.nodes.items x.current.entries c.args.from row c.in_ok-row.ensures x.current_within) x.current_within;
      aside_within = x.aside_within;
    }

pub returns : goal.returns
returns c = λ h s.
    let x = c.args.self.now in
    let e = c.put_row.ensures in
    let row = slice_index c.in_ok-row.row.items in
    stand-put x.nodes.items x.places.entries h c.put_row.result x.current.entries c.put_row.new.rows.entries x.aside.entries c.args.volume row (h.now c.args.from) e.put e.same (row-listed x.nodes.items x.current.entries h.now c.args.from row c.in_ok-row.ensures s.now) s
