use Rattle.std.proofs.Common.{sym, ◌∙◌}
use Rattle.dr_host.proofs.Sound.{marked-place, unmarked-place}
use Rattle.dr_host.proofs.pending.mark.Goals as goal

pub returns-in-Some : goal.returns-in-Some
returns-in-Some c = marked-place c.args.w.0 c.in-Some.i c.deref.result.now c.args.pending.now.items c.index_mut.result.now c.deref.ensures.value c.requires (sym c.place_of.ensures ∙ c.in-Some.is) c.index_mut.ensures.value

pub returns-in_default : goal.returns-in_default
returns-in_default c = unmarked-place c.args.w.0 c.deref.result.now c.args.pending.now.items c.deref.ensures.value (sym c.place_of.ensures ∙ c.in_default.is)
