use Rattle.std.proofs.Common.{[], length, slice_index}
use Rattle.dr_lost.proofs.HeldLemmas.{within-after-put, stand-put-aside, none-within, none-listed}
use Rattle.dr_lost.proofs.holdings.Holdings.commit.Goals as goal

pub invariant_of-self : goal.invariant_of-self
invariant_of-self c =
    let x = c.args.self.now in
    let e = c.put_row.ensures in
    let row = c.new.result.items in
    record {
      earlier = x.earlier;
      current_within = x.current_within;
      aside_within = within-after-put c.put_row.result x.nodes.items x.aside.entries c.put_row.new.rows.entries c.args.target (slice_index row) e.put e.same (none-within row (length x.nodes.items) c.new.ensures.items) x.aside_within;
    }

pub returns : goal.returns
returns c = λ h s.
    let x = c.args.self.now in
    let e = c.put_row.ensures in
    let row = c.new.result.items in
    stand-put-aside x.nodes.items x.places.entries h c.put_row.result x.current.entries x.aside.entries c.put_row.new.rows.entries c.args.target (slice_index row) (λ t. []) e.put e.same (none-listed x.nodes.items row c.new.ensures.items) s
