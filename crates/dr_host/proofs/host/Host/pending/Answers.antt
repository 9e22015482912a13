use Rattle.std.proofs.Common.{◌≡◌, ◌+◌, ◌≤◌, sym, subst}
use Rattle.std.specs.List.{find}
use Rattle.dr_host.specs.declared.pending.Pending.{Pending}
use Rattle.dr_host.specs.Writes.{has_number, number, IsPending, EachPending}
use Rattle.dr_host.proofs.Each.{copied-some, each-found, each-widen, named-found}
use Rattle.dr_host.proofs.host.Host.pending.Goals as goal

pub returns-clause-named : goal.returns-clause-named
returns-clause-named c =
    copied-some (λ p. number p ≡ c.args.w.0) c.find_write.result (find (has_number c.args.w.0) c.deref.result.now) c.find_write.ensures (named-found c.args.w.0 c.deref.result.now)

pub returns-clause-some : goal.returns-clause-some
returns-clause-some c =
    let P : Pending → Type 0 = λ p. 1 ≤ p.len in
    let all : EachPending P c.self.inside.pending.items = each-widen (IsPending c.self.inside.issued) P c.self.inside.pending.items (λ p q. q.some) c.self.invariant.each in
    copied-some P c.find_write.result _ c.find_write.ensures (each-found P (has_number c.args.w.0) c.deref.result.now (subst (EachPending P) (sym c.deref.ensures.value) all))

pub returns-clause-within : goal.returns-clause-within
returns-clause-within c =
    let P : Pending → Type 0 = λ p. p.offset + p.len ≤ 64 in
    let all : EachPending P c.self.inside.pending.items = each-widen (IsPending c.self.inside.issued) P c.self.inside.pending.items (λ p q. q.within) c.self.invariant.each in
    copied-some P c.find_write.result _ c.find_write.ensures (each-found P (has_number c.args.w.0) c.deref.result.now (subst (EachPending P) (sym c.deref.ensures.value) all))
