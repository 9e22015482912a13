use Rattle.std.proofs.Common.{◌≡◌, arith, refl, sym, ap, ◌∙◌, subst, Some, option_map}
use Rattle.std.specs.Prelude.{IfSome, Err, is_some}
use Rattle.dr_ids.specs.declared.names.VolumeId.{VolumeId}
use Rattle.dr_config.specs.Table.{place_of}
use Rattle.dr_moves.specs.Here.{world_seen, refusal_of}
use Rattle.dr_moves.proofs.TurnLemmas.{ok-along, err-along}
use Rattle.dr_admin.proofs.StartLemmas.{started-skip, started-goes, started-fails, started-stops, stayed-then, stayed-same}
use Rattle.dr_admin.proofs.starting.go_on_at.Goals as goal

pub returns-then-not-belongs-clause-goes : goal.returns-then-not-belongs-clause-goes
returns-then-not-belongs-clause-goes g c r armed u q ds =
    started-skip c.args.config.now c.unwrap-v.result.0 c.args.s.0 c.args.place (sym (ap (option_map (λ (v : VolumeId). v.0)) c.unwrap-v.ensures) ∙ c.volume_at.ensures.value) ds
    (g.P.Plant.state c.args.plant.now) r c.args.journal.now.events armed u q (sym c.if-not-belongs.ensures)

pub redo_own-requires-clause-defined : goal.redo_own-requires-clause-defined
redo_own-requires-clause-defined g c = ap is_some (subst (λ o. IfSome o (λ v. place_of c.args.config.now v.0 ≡ Some c.args.place)) c.unwrap-v.ensures c.volume_at.ensures.place)

pub restart_own-requires-clause-defined : goal.restart_own-requires-clause-defined
restart_own-requires-clause-defined g c = ap is_some (subst (λ o. IfSome o (λ v. place_of c.args.config.now v.0 ≡ Some c.args.place)) c.unwrap-v.ensures c.volume_at.ensures.place)

pub restart_own-requires-clause-on : goal.restart_own-requires-clause-on
restart_own-requires-clause-on g c = ap (λ f. f c.args.s.0) c.in-Ok.ensures.stayed.on ∙ c.requires.on

pub returns-in-Ok-clause-goes : goal.returns-in-Ok-clause-goes
returns-in-Ok-clause-goes g c =
    let s = g.P.Plant.state c.args.plant.now in let s1 = g.P.Plant.state c.redo_own.new.plant in let s2 = g.P.Plant.state c.restart_own.new.plant in let t = c.args.config.now in
    ok-along c.restart_own.result c.restart_own.ensures.advances (λ go r armed u q ds.
    started-goes t c.unwrap-v.result.0 c.args.s.0 c.args.place (sym (ap (option_map (λ (v : VolumeId). v.0)) c.unwrap-v.ensures) ∙ c.volume_at.ensures.value) ds
    (world_seen s t r c.args.journal.now.events) (world_seen s1 t r c.redo_own.new.journal.events) (world_seen s2 t r c.restart_own.new.journal.events) (c.in-Ok.ensures.advances r) (go r) armed u q)

pub returns-in-Ok-clause-fails : goal.returns-in-Ok-clause-fails
returns-in-Ok-clause-fails g c =
    let s = g.P.Plant.state c.args.plant.now in let s1 = g.P.Plant.state c.redo_own.new.plant in let s2 = g.P.Plant.state c.restart_own.new.plant in let t = c.args.config.now in
    err-along c.restart_own.result c.restart_own.ensures.halts c.restart_own.ensures.halts (λ end _ r ds.
    started-stops t c.unwrap-v.result.0 c.args.s.0 c.args.place (sym (ap (option_map (λ (v : VolumeId). v.0)) c.unwrap-v.ensures) ∙ c.volume_at.ensures.value) ds
    s s1 (world_seen s t r c.args.journal.now.events) (world_seen s1 t r c.redo_own.new.journal.events) (world_seen s2 t r c.restart_own.new.journal.events) (refusal_of c.restart_own.result) c.in-Ok.ensures.stayed.unarmed (c.in-Ok.ensures.advances r) (end r))

pub returns-in-Err-clause-fails : goal.returns-in-Err-clause-fails
returns-in-Err-clause-fails g c r ds =
    let s = g.P.Plant.state c.args.plant.now in let s1 = g.P.Plant.state c.redo_own.new.plant in let t = c.args.config.now in
    started-fails t c.unwrap-v.result.0 c.args.s.0 c.args.place (sym (ap (option_map (λ (v : VolumeId). v.0)) c.unwrap-v.ensures) ∙ c.volume_at.ensures.value) ds
    _ (world_seen s t r c.args.journal.now.events) (world_seen s1 t r c.redo_own.new.journal.events) (Some c.in-Err.why) (c.in-Err.ensures.halts r)

pub returns-then-not-belongs-clause-stayed : goal.returns-then-not-belongs-clause-stayed
returns-then-not-belongs-clause-stayed g c = stayed-same (g.P.Plant.state c.args.plant.now) c.args.config.now c.args.journal.now c.args.s.0 3 c.requires.rest.stands

pub returns-in-Ok-clause-stayed : goal.returns-in-Ok-clause-stayed
returns-in-Ok-clause-stayed g c =
    stayed-then (g.P.Plant.state c.args.plant.now) (g.P.Plant.state c.redo_own.new.plant) (g.P.Plant.state c.restart_own.new.plant) c.args.config.now c.args.journal.now c.redo_own.new.journal c.restart_own.new.journal c.args.s.0 1 3 3 c.restart_own.result (omega arith)
    c.in-Ok.ensures.told c.in-Ok.ensures.stayed c.restart_own.ensures.stayed

pub returns-in-Err-clause-stayed : goal.returns-in-Err-clause-stayed
returns-in-Err-clause-stayed g c =
    let s = g.P.Plant.state c.args.plant.now in
    stayed-then s s (g.P.Plant.state c.redo_own.new.plant) c.args.config.now c.args.journal.now c.args.journal.now c.redo_own.new.journal c.args.s.0 1 1 3 (Err c.in-Err.why) (omega arith)
    refl (stayed-same s c.args.config.now c.args.journal.now c.args.s.0 1 c.requires.rest.stands) c.in-Err.ensures.stayed
