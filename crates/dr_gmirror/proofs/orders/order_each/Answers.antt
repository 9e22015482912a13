use Rattle.std.proofs.Common.{List, ◌≡◌, ◌≤◌, ◌++◌, ◌||◌, length, take, drop, suc, slice_get, arith, ap, sym, subst, ◌∙◌, [], ◌∷◌, Some}
use Rattle.std.specs.Prelude.{Ok, Err}
use Rattle.std.proofs.lemmas.List.Elements.{filter-append}
use Rattle.dr_ids.specs.declared.names.Member.{Member}
use Rattle.dr_master.specs.Seen.{work_of}
use Rattle.dr_model.specs.Sessions.{session_in, members_in}
use Rattle.dr_model.specs.SessionEntries.{is_on, members_on}
use Rattle.dr_moves.proofs.ActedLemmas.{err-is}
use Rattle.dr_gmirror.specs.Ordered.{Ordered}
use Rattle.dr_gmirror.proofs.BeginLemmas.{to_begin-one}
use Rattle.dr_gmirror.proofs.OrderLemmas.{member-next, member-there, member-all, still-ready}
use Rattle.dr_gmirror.proofs.OrderedLemmas.{ordered-none, ordered-then, ordered-fails, few-so-far, members-split}
use Rattle.dr_gmirror.proofs.orders.order_each.Goals as goal

pub loop-at-init : goal.loop-at-init
loop-at-init g c = record {
  ordered = ordered-none (g.P.Plant.state c.args.plant.now) c.args.config.now c.args.journal.now c.args.ss.now.sessions (work_of c.args.order.kind) c.args.s.0 c.args.order.n c.requires.at c.requires.begins;
}

pub unwrap-m-requires : goal.unwrap-m-requires
unwrap-m-requires g c =
    let ms = members_in (session_in c.args.ss.now.sessions c.args.s.0) in
    member-there ms c.loop-at.at c.member_at.result (c.member_at.ensures.value ∙ ap (λ (ms : List Member). slice_get ms c.loop-at.at) c.loop-at.invariant.ordered.members)
    (let e = c.member_count-at-end.ensures in let f = c.loop-at-test.true in omega (arith, e, f))

pub order_on-requires-clause-ready : goal.order_on-requires-clause-ready
order_on-requires-clause-ready g c =
    still-ready (g.P.Plant.state c.args.plant.now) (g.P.Plant.state c.loop-at.plant) c.args.config.now c.unwrap-m.result
    (c.requires.members c.loop-at.at c.unwrap-m.result (ap (λ (ms : List Member). slice_get ms c.loop-at.at) (sym c.loop-at.invariant.ordered.members) ∙ sym c.member_at.ensures.value ∙ c.unwrap-m.ensures))

pub order_on-requires-clause-room : goal.order_on-requires-clause-room
order_on-requires-clause-room g c =
    let left = c.loop-at.invariant.ordered.left in
    let few = few-so-far c.args.server.0 (members_in (session_in c.args.ss.now.sessions c.args.s.0)) c.loop-at.at in
    let e = c.member_count-at-end.ensures in
    let f = c.loop-at-test.true in
    let room = c.requires.room in
    let one = to_begin-one c.args.ss.now.sessions c.args.s.0 c.args.order.n in
    omega (arith, left, few, e, f, room, one)

pub returns-in_err-wait : goal.returns-in_err-wait
returns-in_err-wait g c =
    let s0 = g.P.Plant.state c.args.plant.now in
    let s = g.P.Plant.state c.loop-at.plant in
    let u = g.P.Plant.state c.order_on.new.plant in
    let t = c.args.config.now in
    let work = work_of c.args.order.kind in
    let ms = members_in (session_in c.args.ss.now.sessions c.args.s.0) in
    let m = c.unwrap-m.result in
    let i = c.loop-at.at in
    let x = c.args.server.0 in
    let at : Some m ≡ slice_get ms i = sym (ap (λ (ms : List Member). slice_get ms i) (sym c.loop-at.invariant.ordered.members) ∙ sym c.member_at.ensures.value ∙ c.unwrap-m.ensures) in
    let all : members_on x ms ≡ (members_on x (take i ms) ++ members_on x (m ∷ [])) ++ members_on x (drop (suc i) ms) = members-split x ms i m at in
    subst (λ res. Ordered s0 u t c.args.journal.now c.order_on.new.journal c.args.ss.now.sessions c.order_on.new.ss.sessions work c.args.s.0 c.args.order.n (members_on x ms) res) (sym (err-is c.from_residual.result c.in_err-wait.field-0.0 c.from_residual.ensures.0 c.from_residual.ensures.1))
    (subst (λ (xs : List Member). Ordered s0 u t c.args.journal.now c.order_on.new.journal c.args.ss.now.sessions c.order_on.new.ss.sessions work c.args.s.0 c.args.order.n xs (Err c.in_err-wait.field-0.0)) (sym all)
    (ordered-fails s0 s u t c.args.journal.now c.loop-at.journal c.order_on.new.journal c.args.ss.now.sessions c.loop-at.ss.sessions c.order_on.new.ss.sessions work c.args.s.0 c.args.order.n (members_on x (take i ms)) (members_on x (m ∷ [])) c.loop-at.waits c.loop-at.invariant.ordered (members_on x (drop (suc i) ms)) c.in_err-wait.field-0.0 c.in_err-wait.ensures))

pub loop-at-preserved : goal.loop-at-preserved
loop-at-preserved g c =
    let s0 = g.P.Plant.state c.args.plant.now in
    let s = g.P.Plant.state c.loop-at.plant in
    let u = g.P.Plant.state c.order_on.new.plant in
    let t = c.args.config.now in
    let work = work_of c.args.order.kind in
    let ms = members_in (session_in c.args.ss.now.sessions c.args.s.0) in
    let m = c.unwrap-m.result in
    let i = c.loop-at.at in
    let x = c.args.server.0 in
    let at : Some m ≡ slice_get ms i = sym (ap (λ (ms : List Member). slice_get ms i) (sym c.loop-at.invariant.ordered.members) ∙ sym c.member_at.ensures.value ∙ c.unwrap-m.ensures) in
    record {
      ordered = subst (λ (xs : List Member). Ordered s0 u t c.args.journal.now c.order_on.new.journal c.args.ss.now.sessions c.order_on.new.ss.sessions work c.args.s.0 c.args.order.n xs (Ok (c.loop-at.waits || c.in_ok-wait.wait))) (sym (ap (members_on x) (member-next ms i m at) ∙ filter-append (is_on x) (take i ms) (m ∷ [])))
          (ordered-then s0 s u t c.args.journal.now c.loop-at.journal c.order_on.new.journal c.args.ss.now.sessions c.loop-at.ss.sessions c.order_on.new.ss.sessions work c.args.s.0 c.args.order.n (members_on x (take i ms)) (members_on x (m ∷ [])) c.loop-at.waits c.loop-at.invariant.ordered c.in_ok-wait.wait c.in_ok-wait.ensures);
    }

pub returns : goal.returns
returns g c =
    let ms = members_in (session_in c.args.ss.now.sessions c.args.s.0) in
    let all : length ms ≤ c.loop-at.at = let e = c.member_count-at-end.ensures in let f = c.loop-at-test.false in omega (arith, e, f) in
    subst (λ (xs : List Member). Ordered (g.P.Plant.state c.args.plant.now) (g.P.Plant.state c.loop-at.plant) c.args.config.now c.args.journal.now c.loop-at.journal c.args.ss.now.sessions c.loop-at.ss.sessions (work_of c.args.order.kind) c.args.s.0 c.args.order.n (members_on c.args.server.0 xs) (Ok c.loop-at.waits))
    (member-all ms c.loop-at.at all) c.loop-at.invariant.ordered
