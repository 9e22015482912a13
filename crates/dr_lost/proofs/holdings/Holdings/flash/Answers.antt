use Rattle.std.proofs.Common.{ℕ, sym, subst, ap, ◌∙◌, slice_index}
use Rattle.dr_lost.specs.Within.{AreWithin}
use Rattle.dr_lost.specs.Held.{Stand}
use Rattle.dr_lost.specs.Rows.{cells}
use Rattle.dr_lost.proofs.HeldLemmas.{within-put, within-after-put, row-within, stand-flashed}
use Rattle.dr_lost.proofs.holdings.Holdings.flash.Goals as goal

pub invariant_of-self-2 : goal.invariant_of-self-2
invariant_of-self-2 c =
    let x = c.args.self.now in
    let nodes = x.nodes.items in
    let e = c.put_row-2.ensures in
    let kept = slice_index c.in_ok-kept.kept.items in
    let taken = slice_index c.in_ok-taken.taken.items in
    let same = c.in_ok-reserve.ensures.entries in
    let current = subst (AreWithin nodes) (sym same) x.current_within in
    record {
      earlier = x.earlier;
      current_within = within-after-put c.put_row-2.result nodes c.reserve.new.self.entries c.put_row-2.new.rows.entries c.args.target taken e.put e.same (row-within nodes x.current.entries c.args.source taken c.in_ok-taken.ensures x.current_within) current;
      aside_within = within-put nodes x.aside.entries c.put_row.new.rows.entries c.args.target kept c.in_ok-put_row.ensures.put (row-within nodes x.current.entries c.args.target kept c.in_ok-kept.ensures x.current_within) x.aside_within;
    }

pub returns : goal.returns
returns c = λ h s.
    let x = c.args.self.now in
    let kept = slice_index c.in_ok-kept.kept.items in
    let taken = slice_index c.in_ok-taken.taken.items in
    let same = c.in_ok-reserve.ensures.entries in
    let old = c.reserve.new.self.entries in
    let ok = c.put_row-2.ensures.succeeds c.in_ok-reserve.ensures.ok in
    stand-flashed x.nodes.items x.places.entries h c.put_row-2.result old c.put_row-2.new.rows.entries x.aside.entries c.put_row.new.rows.entries c.args.source c.args.target taken kept
    ok c.in_ok-put_row.ensures.put c.put_row-2.ensures.put
    (c.in_ok-kept.ensures ∙ ap {B = ℕ → ℕ} (λ rows. cells rows c.args.target) (sym same))
    (c.in_ok-taken.ensures ∙ ap {B = ℕ → ℕ} (λ rows. cells rows c.args.source) (sym same))
    (subst (λ rows. Stand x.nodes.items rows x.aside.entries x.places.entries h) (sym same) s)
