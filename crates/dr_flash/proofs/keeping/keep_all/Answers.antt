use Rattle.std.proofs.Common.{◌≡◌, ◌<◌, length, arith, ap, sym, subst, ◌∙◌}
use Rattle.dr_model.specs.Control.{Volume}
use Rattle.dr_moves.proofs.ActedLemmas.{err-is}
use Rattle.dr_flash.specs.Keeping.{KeptAll}
use Rattle.dr_flash.proofs.CopyLemmas.{place-there, kept-no_own}
use Rattle.dr_flash.proofs.KeptAllLemmas.{below-none, below-next, all-stopped, all-kept}
use Rattle.dr_flash.proofs.keeping.keep_all.Goals as goal

pub loop-place-init : goal.loop-place-init
loop-place-init g c = below-none (g.P.Plant.state c.args.plant.now) c.args.config.now c.args.journal.now c.args.v.0 c.args.t c.requires.at

pub keep_at-requires-clause-at : goal.keep_at-requires-clause-at
keep_at-requires-clause-at g c = c.loop-place.invariant.kept.at

pub keep_at-requires-clause-place : goal.keep_at-requires-clause-place
keep_at-requires-clause-place g c = place-there c.args.config.now c.loop-place.place c.volumes-place-end.ensures.sound (let e = c.volumes-place-end.ensures.count in let f = c.loop-place-test.true in omega (arith, e, f))

pub keep_at-requires-clause-running : goal.keep_at-requires-clause-running
keep_at-requires-clause-running g c =
    let same = c.loop-place.invariant.apart c.args.v.0 (kept-no_own (g.P.Plant.state c.args.plant.now) c.args.config.now c.args.v.0 c.requires.at.fit) in
    (λ i. c.loop-place.invariant.kept.on i (same.volume i).server) ∙ c.requires.running

pub keep_at-requires-clause-within : goal.keep_at-requires-clause-within
keep_at-requires-clause-within g c =
    let same = c.loop-place.invariant.apart c.args.v.0 (kept-no_own (g.P.Plant.state c.args.plant.now) c.args.config.now c.args.v.0 c.requires.at.fit) in
    subst (λ n. c.args.t < n) (sym (ap (λ (x : Volume). x.tracks) same.volume)) c.requires.within

pub keep_at-requires-clause-room : goal.keep_at-requires-clause-room
keep_at-requires-clause-room g c =
    let low : c.loop-place.place < length c.args.config.now.volumes = (let e = c.volumes-place-end.ensures.count in let f = c.loop-place-test.true in omega (arith, e, f)) in
    let room = c.requires.room in
    let left = c.loop-place.invariant.kept.room in
    omega (arith, low, room, left)

pub loop-place-preserved : goal.loop-place-preserved
loop-place-preserved g c =
    below-next (g.P.Plant.state c.args.plant.now) (g.P.Plant.state c.loop-place.plant) (g.P.Plant.state c.keep_at.new.plant) c.args.config.now c.args.journal.now c.loop-place.journal c.keep_at.new.journal c.args.v.0 c.args.t c.loop-place.place (let e = c.volumes-place-end.ensures.count in let f = c.loop-place-test.true in omega (arith, e, f)) c.loop-place.invariant
    c.in_ok-keep_at.ensures.kept_on

pub returns-in_err-keep_at : goal.returns-in_err-keep_at
returns-in_err-keep_at g c =
    let s = g.P.Plant.state c.args.plant.now in
    let u = g.P.Plant.state c.keep_at.new.plant in
    let t = c.args.config.now in
    let why = c.in_err-keep_at.field-0.0 in
    record {
      kept_all = subst (λ res. KeptAll s u t c.args.journal.now c.keep_at.new.journal c.args.v.0 c.args.t res) (sym (err-is c.from_residual.result why c.from_residual.ensures.0 c.from_residual.ensures.1))
          (all-stopped s (g.P.Plant.state c.loop-place.plant) u t c.args.journal.now c.loop-place.journal c.keep_at.new.journal c.args.v.0 c.args.t c.loop-place.place (let e = c.volumes-place-end.ensures.count in let f = c.loop-place-test.true in omega (arith, e, f)) c.loop-place.invariant c.requires.at.fit why c.in_err-keep_at.ensures.kept_on);
    }

pub returns : goal.returns
returns g c =
    let all : c.loop-place.place ≡ length c.args.config.now.volumes = (let e = c.volumes-place-end.ensures.count in let f = c.loop-place-test.false in omega (arith, e, f)) in
    record { kept_all = all-kept (g.P.Plant.state c.args.plant.now) (g.P.Plant.state c.loop-place.plant) c.args.config.now c.args.journal.now c.loop-place.journal c.args.v.0 c.args.t c.loop-place.place all c.loop-place.invariant }
