use Rattle.std.proofs.lemmas.List.FromFn.{length-map-range_with_len}
use Rattle.dr_volume.specs.Packed.{entry_held, entries_held}
use Rattle.dr_volume.proofs.entries.Entries.tell_eight.Goals as goal

pub returns : goal.returns
unfolding entries_held
returns c = rw (← c.self.view_is) (length-map-range_with_len (entry_held c.self.inside) 0 8)
