use Rattle.std.proofs.Common.{[], Some, length, slice_index}
use Rattle.dr_logic.specs.Tables.{at}
use Rattle.dr_lost.proofs.HeldLemmas.{within-after-put, stand-put, stand-defined, none-within, none-listed}
use Rattle.dr_lost.proofs.holdings.Holdings.define.Goals as goal

pub invariant_of-self : goal.invariant_of-self
invariant_of-self c =
    let x = c.args.self.now in
    let e = c.put_row.ensures in
    let row = c.new.result.items in
    record {
      earlier = x.earlier;
      current_within = within-after-put c.put_row.result x.nodes.items x.current.entries c.put_row.new.rows.entries c.args.volume (slice_index row) e.put e.same (none-within row (length x.nodes.items) c.new.ensures.items) x.current_within;
      aside_within = x.aside_within;
    }

pub returns : goal.returns
returns c = λ tracks h s.
    let x = c.args.self.now in
    let e = c.put_row.ensures in
    let row = c.new.result.items in
    stand-defined c.put_row.result x.nodes.items c.put_row.new.rows.entries x.aside.entries x.places.entries h (at h.now c.args.volume (λ t. [])) (at h.tracks c.args.volume (Some tracks))
    (stand-put x.nodes.items x.places.entries h c.put_row.result x.current.entries c.put_row.new.rows.entries x.aside.entries c.args.volume (slice_index row) (λ t. []) e.put e.same (none-listed x.nodes.items row c.new.ensures.items) s)
