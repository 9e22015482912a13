use Rattle.std.proofs.Common.{List, sym, subst}
use Rattle.dr_host.specs.declared.pending.Pending.{Pending}
use Rattle.dr_host.specs.Writes.{IsSoundHost}
use Rattle.dr_host.proofs.Sound.{sound-marked}
use Rattle.dr_host.proofs.host.Host.land.Goals as goal

pub invariant_of-self : goal.invariant_of-self
invariant_of-self c =
    let Sound : List Pending → Type 0 = λ ps. IsSoundHost (record { issued = c.self.inside.issued; pending = ps }) in
    subst Sound (sym c.mark.ensures) (sound-marked (record { issued = c.self.inside.issued; pending = c.self.inside.pending.items }) c.args.w.0 c.self.invariant)
