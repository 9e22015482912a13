use Rattle.std.proofs.Common.{List, ap, sym, subst, false, cond, ◌∷◌, []}
use Rattle.dr_ids.specs.declared.names.Member.{Member}
use Rattle.dr_master.specs.Seen.{work_of}
use Rattle.std.specs.Prelude.{Ok}
use Rattle.dr_flash.proofs.CheckLemmas.{same-test, differ-test}
use Rattle.dr_gmirror.specs.Ordered.{Ordered}
use Rattle.dr_gmirror.proofs.OrderedLemmas.{ordered-none}
use Rattle.dr_gmirror.proofs.steps.order_on.Goals as goal

pub returns-then-m-server : goal.returns-then-m-server
returns-then-m-server g c =
    let s = g.P.Plant.state c.args.plant.now in
    let m = c.args.m.now in
    subst (λ (ms : List Member). Ordered s s c.args.config.now c.args.journal.now c.args.journal.now c.args.ss.now.sessions c.args.ss.now.sessions (work_of c.args.kind) c.args.s.0 c.args.n ms (Ok false))
    (sym (ap (λ b. cond b (m ∷ []) []) (differ-test m.server.0 c.args.server.0 c.if-m-server.true)))
    (ordered-none s c.args.config.now c.args.journal.now c.args.ss.now.sessions (work_of c.args.kind) c.args.s.0 c.args.n c.requires.at c.requires.begins)

pub returns : goal.returns
returns g c =
    let m = c.args.m.now in
    subst (λ (ms : List Member). Ordered (g.P.Plant.state c.args.plant.now) (g.P.Plant.state c.order_member.new.plant) c.args.config.now c.args.journal.now c.order_member.new.journal c.args.ss.now.sessions c.order_member.new.ss.sessions (work_of c.args.kind) c.args.s.0 c.args.n ms c.order_member.result)
    (sym (ap (λ b. cond b (m ∷ []) []) (same-test m.server.0 c.args.server.0 c.if-m-server.false)))
    c.order_member.ensures
