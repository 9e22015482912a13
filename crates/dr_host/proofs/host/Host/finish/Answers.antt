use Rattle.std.proofs.Common.{List, sym, subst}
use Rattle.dr_host.specs.declared.pending.Pending.{Pending}
use Rattle.dr_host.specs.Writes.{IsSoundHost}
use Rattle.dr_host.proofs.Sound.{sound-without}
use Rattle.dr_host.proofs.host.Host.finish.Goals as goal

pub invariant_of-self : goal.invariant_of-self
invariant_of-self c =
    let Sound : List Pending → Type 0 = λ ps. IsSoundHost (record { issued = c.self.inside.issued; pending = ps }) in
    subst Sound (sym c.take_out.ensures) (sound-without (record { issued = c.self.inside.issued; pending = c.self.inside.pending.items }) c.args.w.0 c.self.invariant)
