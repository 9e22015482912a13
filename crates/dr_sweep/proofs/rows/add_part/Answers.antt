use Rattle.std.proofs.Common.{subst}
use Rattle.dr_sweep.specs.declared.parts.Part.{Part}
use Rattle.dr_sweep.specs.Parts.{IsOf}
use Rattle.dr_sweep.proofs.PartLemmas.{in-parts, gap-script}
use Rattle.dr_sweep.proofs.rows.add_part.Goals as goal

pub add_row-requires : goal.add_row-requires
add_row-requires c =
    gap-script c.args.plan.now c.in-Between.disaster c.in-Between.place (subst (λ (p : Part). IsOf c.args.plan.now p) c.in-Between.is (in-parts c.args.plan.now c.args.part c.requires.is_of))

pub add_within-requires : goal.add_within-requires
add_within-requires c = record { is_of = subst (λ (p : Part). IsOf c.args.plan.now p) c.in-Within.is (in-parts c.args.plan.now c.args.part c.requires.is_of) }
