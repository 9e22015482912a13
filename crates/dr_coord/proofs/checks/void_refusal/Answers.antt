use Rattle.std.specs.Prelude.{if◌then◌else◌}
use Rattle.std.proofs.Common.{None, Some, ap, ◌∙◌, ◌&&◌, nat_eq}
use Rattle.dr_ids.specs.declared.refusal.Refusal.TheVariants.{Void}
use Rattle.dr_volume.specs.declared.head.Head.{Head}
use Rattle.dr_coord.proofs.checks.void_refusal.Goals as goal

pub returns-clause-refusal : goal.returns-clause-refusal
returns-clause-refusal g c r events =
    c.void_by.ensures.refusal ∙ ap (λ (f : Head). if f.recording && nat_eq f.attempt c.args.n then None else Some (Void c.args.n)) c.peek_head.ensures
