use Rattle.std.proofs.Common.{◌≡◌, ◌+◌, ◌<◌, ◌++◌, ◌∷◌, [], List, length, ap, ◌∙◌, sym, subst, rules, arith}
use Rattle.dr_host.specs.declared.pending.Pending.{Pending}
use Rattle.dr_host.specs.Writes.{Writes, IsSoundHost, written, number, has_number}
use Rattle.dr_host.proofs.Sound.{sound-with_write}
use Rattle.std.specs.List.{find}
use Rattle.dr_host.proofs.Each.{found-push}
use Rattle.dr_host.proofs.host.Host.issue.Goals as goal

pub invariant_of-self-2 : goal.invariant_of-self-2
invariant_of-self-2 c =
    let h : Writes = record { issued = c.self.inside.issued; pending = c.self.inside.pending.items } in
    let bytes = c.args.bytes.now in
    let grown : c.push.new.self.items ≡ h.pending ++ written (h.issued + 1) c.args.v.0 c.args.track c.args.offset bytes ∷ [] = search rules in
    let room : length h.pending < 64 = omega arith in
    let Sound : List Pending → Type 0 = λ ps. IsSoundHost (record { issued = h.issued + 1; pending = ps }) in
    subst Sound (sym grown) (sound-with_write h c.args.v.0 c.args.track c.args.offset bytes room c.requires.some c.requires.within c.self.invariant)

pub returns-clause-found : goal.returns-clause-found
returns-clause-found c =
    let h : Writes = record { issued = c.self.inside.issued; pending = c.self.inside.pending.items } in
    let p : Pending = written (h.issued + 1) c.args.v.0 c.args.track c.args.offset c.args.bytes.now in
    let grown : c.push.new.self.items ≡ h.pending ++ p ∷ [] = search rules in
    let above : h.issued < number p = omega arith in
    ap (find (has_number (number p))) grown ∙ found-push h.issued h.pending p c.self.invariant.each above
