use Rattle.std.proofs.Common.{rules, not, false, arith, refl, ap, sym, ◌∙◌, ◌∷◌, [], None, Some}
use Rattle.std.specs.Prelude.{Ok, Err}
use Rattle.std.proofs.Math.Bool.{or-false}
use Rattle.dr_master.specs.Seen.{work_of}
use Rattle.dr_model.specs.Phases as phases
use Rattle.dr_model.specs.PairEntries.{reach_refusal}
use Rattle.dr_model.specs.Relations.{is_bare}
use Rattle.dr_volume.specs.View.{volume_seen}
use Rattle.dr_moves.specs.Here.{world_seen, armed_in}
use Rattle.dr_moves.proofs.EntryLemmas.{counted-stop, one-checked}
use Rattle.dr_moves.proofs.TurnLemmas.{ok-along}
use Rattle.dr_gmirror.specs.Ordered.{at_once}
use Rattle.dr_gmirror.specs.Orders.{sync_seen}
use Rattle.dr_gmirror.proofs.OrderedLemmas.{ordered-as, ordered-by, ordered-apart}
use Rattle.dr_moves.proofs.ActedLemmas.{nothing-kept}
use Rattle.dr_gmirror.proofs.steps.order_member.Goals as goal

pub returns-in-Hold : goal.returns-in-Hold
returns-in-Hold g c =
    ordered-as (g.P.Plant.state c.args.plant.now) (g.P.Plant.state c.hold_member.new.plant) c.args.config.now c.args.journal.now c.hold_member.new.journal c.args.ss.now.sessions c.hold_member.new.ss.sessions phases.Hold (work_of c.args.kind) c.args.s.0 c.args.n (c.args.m.now ∷ []) (at_once c.hold_member.result) c.at_once.result (ap work_of c.in-Hold.is) c.at_once.ensures c.hold_member.ensures

pub returns-in-Release : goal.returns-in-Release
returns-in-Release g c =
    ordered-apart (g.P.Plant.state c.args.plant.now) (g.P.Plant.state c.release.new.plant) c.args.config.now c.args.journal.now c.release.new.journal c.args.ss.now.sessions phases.Release c.args.s.0 c.args.n c.args.m.now tt 2 1 (work_of c.args.kind) c.release.result c.at_once-in-Release.result (omega arith) (omega arith) (ap work_of c.in-Release.is) c.at_once-in-Release.ensures refl
    c.release.ensures.leads c.release.ensures.fails
    (record { at = record { rest = c.release.ensures.rest; fit = c.release.ensures.fit }; aside = c.release.ensures.aside; unarmed = c.release.ensures.unarmed; faults = c.release.ensures.faults; on = c.release.ensures.on; room = let h = c.release.ensures.room in omega (arith, h); spare = c.release.ensures.spare })
    (ok-along c.release.result c.release.ensures.room_left (λ h. omega (arith, h)))

pub returns-in-Flash : goal.returns-in-Flash
returns-in-Flash g c =
    ordered-apart (g.P.Plant.state c.args.plant.now) (g.P.Plant.state c.flash.new.plant) c.args.config.now c.args.journal.now c.flash.new.journal c.args.ss.now.sessions phases.Flash c.args.s.0 c.args.n c.args.m.now tt 2 1 (work_of c.args.kind) c.flash.result c.at_once-in-Flash.result (omega arith) (omega arith) (ap work_of c.in-Flash.is) c.at_once-in-Flash.ensures refl
    c.flash.ensures.leads c.flash.ensures.fails
    (search rules)
    c.flash.ensures.room_left

pub returns-in-Commit : goal.returns-in-Commit
returns-in-Commit g c =
    ordered-apart (g.P.Plant.state c.args.plant.now) (g.P.Plant.state c.commit.new.plant) c.args.config.now c.args.journal.now c.commit.new.journal c.args.ss.now.sessions phases.Commit c.args.s.0 c.args.n c.args.m.now tt 2 1 (work_of c.args.kind) c.commit.result c.at_once-in-Commit.result (omega arith) (omega arith) (ap work_of c.in-Commit.is) c.at_once-in-Commit.ensures refl
    c.commit.ensures.leads c.commit.ensures.fails
    (search rules)
    c.commit.ensures.room_left

pub returns-in-Revert : goal.returns-in-Revert
returns-in-Revert g c =
    ordered-apart (g.P.Plant.state c.args.plant.now) (g.P.Plant.state c.revert.new.plant) c.args.config.now c.args.journal.now c.revert.new.journal c.args.ss.now.sessions phases.Revert c.args.s.0 c.args.n c.args.m.now tt 2 1 (work_of c.args.kind) c.revert.result c.at_once-in-Revert.result (omega arith) (omega arith) (ap work_of c.in-Revert.is) c.at_once-in-Revert.ensures refl
    c.revert.ensures.leads c.revert.ensures.fails
    (search rules)
    c.revert.ensures.room_left

pub returns-in-Finish : goal.returns-in-Finish
returns-in-Finish g c =
    ordered-apart (g.P.Plant.state c.args.plant.now) (g.P.Plant.state c.finish.new.plant) c.args.config.now c.args.journal.now c.finish.new.journal c.args.ss.now.sessions phases.Finish c.args.s.0 c.args.n c.args.m.now tt 3 2 (work_of c.args.kind) c.finish.result c.at_once-in-Finish.result (omega arith) (omega arith) (ap work_of c.in-Finish.is) c.at_once-in-Finish.ensures refl
    c.finish.ensures.advances c.finish.ensures.halts
    (record { at = record { rest = c.finish.ensures.rest; fit = c.finish.ensures.fit }; aside = c.finish.ensures.aside; unarmed = c.finish.ensures.unarmed; faults = counted-stop c.finish.result _ _ (volume_seen (g.P.Plant.state c.args.plant.now) c.args.config.now c.args.m.now.a.0).server c.finish.ensures.faults c.finish.ensures.refused; on = c.finish.ensures.on; room = c.finish.ensures.room; spare = c.finish.ensures.spare })
    c.finish.ensures.room_left

pub returns-in-Ok : goal.returns-in-Ok
returns-in-Ok g c =
    let s = g.P.Plant.state c.args.plant.now in
    let u = g.P.Plant.state c.seal.new.plant in
    let t = c.args.config.now in
    let m = c.args.m.now in
    ordered-as s u t c.args.journal.now c.seal.new.journal c.args.ss.now.sessions c.args.ss.now.sessions phases.Seal (work_of c.args.kind) c.args.s.0 c.args.n (m ∷ []) _ _ (ap work_of c.in-Seal.is) refl
    (ordered-by s u t c.args.journal.now c.seal.new.journal c.args.ss.now.sessions phases.Seal c.args.s.0 c.args.n m tt 2 1 (Ok (not c.in-Ok.done)) (omega arith) (omega arith) c.in-Ok.ensures.leads tt
    (ap not (c.in-Ok.ensures.drained ∙ ap is_bare (sym (c.in-Ok.ensures.kept m.a.0))) ∙ sym (or-false (not (is_bare (sync_seen u t m.a.0)))))
    (λ _. c.in-Ok.ensures.kept)
    (search (rules, c.in-Ok.ensures.faults, c.in-Ok.ensures.on))
    c.in-Ok.ensures.room_left)

pub returns-in-Err : goal.returns-in-Err
returns-in-Err g c =
    let s = g.P.Plant.state c.args.plant.now in
    let u = g.P.Plant.state c.seal.new.plant in
    let t = c.args.config.now in
    ordered-as s u t c.args.journal.now c.seal.new.journal c.args.ss.now.sessions c.args.ss.now.sessions phases.Seal (work_of c.args.kind) c.args.s.0 c.args.n (c.args.m.now ∷ []) _ _ (ap work_of c.in-Seal.is) refl
    (ordered-by s u t c.args.journal.now c.seal.new.journal c.args.ss.now.sessions phases.Seal c.args.s.0 c.args.n c.args.m.now tt 2 1 (Err c.in-Err.why) (omega arith) (omega arith) tt c.in-Err.ensures.fails tt tt (search (rules, c.in-Err.ensures.faults)) tt)

pub returns-in-None : goal.returns-in-None
returns-in-None g c =
    let s = g.P.Plant.state c.args.plant.now in
    let t = c.args.config.now in
    let a = c.args.m.now.a.0 in
    let b = c.args.m.now.b.0 in
    ordered-as s s t c.args.journal.now c.args.journal.now c.args.ss.now.sessions c.args.ss.now.sessions phases.Report (work_of c.args.kind) c.args.s.0 c.args.n (c.args.m.now ∷ []) _ _ (ap work_of c.in-Report.is) refl
    (ordered-by s s t c.args.journal.now c.args.journal.now c.args.ss.now.sessions phases.Report c.args.s.0 c.args.n c.args.m.now tt 2 1 (Ok false) (omega arith) (omega arith)
    (λ r. one-checked (world_seen s t r c.args.journal.now.events) (reach_refusal a b) None (c.in-None.ensures.refusal r c.args.journal.now.events)) tt refl (λ _ q. refl)
    (nothing-kept s t c.args.journal.now (Ok tt) c.requires.at refl 2 refl) (omega arith))

pub returns-in-Some : goal.returns-in-Some
returns-in-Some g c =
    let s = g.P.Plant.state c.args.plant.now in
    let t = c.args.config.now in
    let a = c.args.m.now.a.0 in
    let b = c.args.m.now.b.0 in
    ordered-as s s t c.args.journal.now c.args.journal.now c.args.ss.now.sessions c.args.ss.now.sessions phases.Report (work_of c.args.kind) c.args.s.0 c.args.n (c.args.m.now ∷ []) _ _ (ap work_of c.in-Report.is) refl
    (ordered-by s s t c.args.journal.now c.args.journal.now c.args.ss.now.sessions phases.Report c.args.s.0 c.args.n c.args.m.now tt 2 1 (Err c.in-Some.why) (omega arith) (omega arith) tt
    (λ r. one-checked (world_seen s t r c.args.journal.now.events) (reach_refusal a b) (Some c.in-Some.why) (c.in-Some.ensures.refusal r c.args.journal.now.events) (armed_in s)) tt tt
    (nothing-kept s t c.args.journal.now (Err c.in-Some.why) c.requires.at c.in-Some.ensures.calm 2 tt) tt)
