use Rattle.std.proofs.Common.{[], ◌∷◌, inl, inr, refl, ap, subst, sym, ◌∙◌, true≢false, arith, Some}
use Rattle.dr_model.specs.Carry.{now}
use Rattle.dr_model.specs.Moves.{Relate}
use Rattle.dr_model.specs.ReadStops.{Ends}
use Rattle.dr_model.specs.WriteEntries.{flash_hold_on}
use Rattle.dr_volume.specs.View.{volume_seen}
use Rattle.dr_moves.specs.Checks.{is_stop}
use Rattle.dr_moves.specs.Here.{world_seen, armed_in, refusal_of}
use Rattle.dr_moves.specs.Options.{choices}
use Rattle.dr_facts.proofs.Ends.{ends-wider}
use Rattle.dr_moves.proofs.EntryLemmas.{only-stops}
use Rattle.dr_moves.proofs.KeptLemmas.{wider-armed, before-then}
use Rattle.dr_moves.proofs.TurnLemmas.{ok-along, refused-by}
use Rattle.dr_cgflash.proofs.HoldLemmas.{comes-by, other-than, hold-there, hold-cost, hold-stopped, on-held, server-held, may-held, still-held}
use Rattle.dr_cgflash.proofs.holding.freeze_flash.Goals as goal

pub returns-in-Some-clause-carried : goal.returns-in-Some-clause-carried
returns-in-Some-clause-carried g c r = c.in-Some.ensures.checked r c.args.journal.now.events (armed_in (g.P.Plant.state c.args.plant.now)) _

pub make_target-requires-clause-running : goal.make_target-requires-clause-running
make_target-requires-clause-running g c =
    let s = g.P.Plant.state c.args.plant.now in
    let t = c.args.config.now in
    let a = c.args.s in
    let u = g.P.Plant.state c.hold.new.plant in
    let b = (volume_seen s t a.0).fields.flash_hold in
    let went = c.in_ok-hold.ensures.acted.went in
    (λ i. on-held s t a u b went i (server-held s t a u b went i)) ∙ c.in_default.ensures.running

pub make_target-requires-clause-may : goal.make_target-requires-clause-may
make_target-requires-clause-may g c =
    let s = g.P.Plant.state c.args.plant.now in
    let t = c.args.config.now in
    let a = c.args.s in
    let acted = c.in_ok-hold.ensures.acted in
    may-held s t a (g.P.Plant.state c.hold.new.plant) c.args.t.0 (volume_seen s t a.0).fields.flash_hold acted.went acted.others c.in_default.ensures.may

pub make_target-requires-clause-room : goal.make_target-requires-clause-room
make_target-requires-clause-room g c =
    let s = g.P.Plant.state c.args.plant.now in
    let few = hold-cost s c.args.config.now c.args.s (volume_seen s c.args.config.now c.args.s.0).fields.flash_hold in
    let left = c.in_ok-hold.ensures.acted.room_left in
    let room = c.requires.room in
    omega (arith, few, left, room)

pub returns-clause-carried : goal.returns-clause-carried
returns-clause-carried g c r =
    let s = g.P.Plant.state c.args.plant.now in
    let t = c.args.config.now in
    let a = c.args.s in
    let m = g.P.Plant.state c.hold.new.plant in
    let acted = c.in_ok-hold.ensures.acted in
    let last = world_seen (g.P.Plant.state c.make_target.new.plant) t r c.make_target.new.journal.events in
    let why = refusal_of c.make_target.result in
    let es = now (Relate c.args.t.0 a.0 (choices c.args.o.now)) ∷ [] in
    c.in_default.ensures.checked r c.args.journal.now.events (armed_in s) last why (flash_hold_on a.0 ∷ es)
    (acted.advances r (flash_hold_on a.0) (comes-by a (volume_seen s t a.0).fields.flash_hold) (armed_in s) last why es
    (ends-wider (armed_in m) (armed_in s) (wider-armed s m acted.kept.unarmed) last why (world_seen m t r c.hold.new.journal.events) es (c.make_target.ensures.carried r)))

pub returns-in_err-hold-clause-carried : goal.returns-in_err-hold-clause-carried
returns-in_err-hold-clause-carried g c r =
    let s = g.P.Plant.state c.args.plant.now in
    let t = c.args.config.now in
    let a = c.args.s in
    let w = world_seen s t r c.args.journal.now.events in
    let last = world_seen (g.P.Plant.state c.hold.new.plant) t r c.hold.new.journal.events in
    let es = now (Relate c.args.t.0 a.0 (choices c.args.o.now)) ∷ [] in
    c.in_default.ensures.checked r c.args.journal.now.events (armed_in s) last (refusal_of c.from_residual.result) (flash_hold_on a.0 ∷ es)
    (subst (λ e. Ends (armed_in s) last e w (flash_hold_on a.0 ∷ es)) (sym (refused-by c.from_residual.result c.in_err-hold.field-0.0 c.from_residual.ensures.0 c.from_residual.ensures.1))
    (c.in_err-hold.ensures.acted.halts r (flash_hold_on a.0) (comes-by a (volume_seen s t a.0).fields.flash_hold) es))

pub returns-clause-unchanged : goal.returns-clause-unchanged
returns-clause-unchanged g c calm = only-stops _ c.make_target.result _ c.make_target.ensures.refused calm

pub returns-clause-unarmed : goal.returns-clause-unarmed
returns-clause-unarmed g c q none = c.make_target.ensures.unarmed q (c.in_ok-hold.ensures.acted.kept.unarmed q none)

pub returns-clause-first : goal.returns-clause-first
returns-clause-first g c =
    let s = g.P.Plant.state c.args.plant.now in
    let t = c.args.config.now in
    let a = c.args.s in
    let m = g.P.Plant.state c.hold.new.plant in
    inr (still-held s t a m (g.P.Plant.state c.make_target.new.plant) c.args.t.0 c.make_target.ensures.others c.in_default.ensures.may.apart
    (hold-there s t a m (volume_seen s t a.0).fields.flash_hold refl c.in_ok-hold.ensures.acted.went))

pub returns-clause-held : goal.returns-clause-held
returns-clause-held g c =
    let s = g.P.Plant.state c.args.plant.now in
    let t = c.args.config.now in
    let a = c.args.s in
    let m = g.P.Plant.state c.hold.new.plant in
    ok-along c.make_target.result c.make_target.ensures.on
    (λ on. still-held s t a m (g.P.Plant.state c.make_target.new.plant) c.args.t.0 c.make_target.ensures.others c.in_default.ensures.may.apart
    (hold-there s t a m (volume_seen s t a.0).fields.flash_hold refl c.in_ok-hold.ensures.acted.went))

pub returns-clause-others : goal.returns-clause-others
returns-clause-others g c q ne apart =
    let s = g.P.Plant.state c.args.plant.now in
    let t = c.args.config.now in
    let a = c.args.s in
    before-then s (g.P.Plant.state c.hold.new.plant) (g.P.Plant.state c.make_target.new.plant) t q
    (c.in_ok-hold.ensures.acted.others q (other-than a (volume_seen s t a.0).fields.flash_hold q ne)) (c.make_target.ensures.others q apart)

pub returns-clause-shows : goal.returns-clause-shows
returns-clause-shows g c =
    let made = c.make_target.ensures in
    ok-along c.make_target.result made.shows (λ shown k. shown k ∙ sym (made.others_show c.args.s.0 k c.in_default.ensures.may.apart))

pub returns-clause-room : goal.returns-clause-room
returns-clause-room g c =
    let s = g.P.Plant.state c.args.plant.now in
    let few = hold-cost s c.args.config.now c.args.s (volume_seen s c.args.config.now c.args.s.0).fields.flash_hold in
    let left = c.in_ok-hold.ensures.acted.room_left in
    let more = c.make_target.ensures.room in
    omega (arith, few, left, more)

pub returns-in_err-hold-clause-unchanged : goal.returns-in_err-hold-clause-unchanged
returns-in_err-hold-clause-unchanged g c calm =
    let s = g.P.Plant.state c.args.plant.now in
    let t = c.args.config.now in
    let a = c.args.s in
    let why = c.in_err-hold.field-0.0 in
    let stops = hold-stopped s t a (volume_seen s t a.0).fields.flash_hold (Some why) c.in_err-hold.ensures.acted.refused in
    absurd (true≢false (sym stops ∙ ap is_stop (sym (refused-by c.from_residual.result why c.from_residual.ensures.0 c.from_residual.ensures.1)) ∙ calm))

pub returns-in_err-hold-clause-first : goal.returns-in_err-hold-clause-first
returns-in_err-hold-clause-first g c =
    let s = g.P.Plant.state c.args.plant.now in
    let a = c.args.s in
    inl (c.in_err-hold.ensures.acted.others c.args.t.0 (other-than a (volume_seen s c.args.config.now a.0).fields.flash_hold c.args.t.0 (λ is. c.in_default.ensures.may.apart (sym is))))

pub returns-in_err-hold-clause-others : goal.returns-in_err-hold-clause-others
returns-in_err-hold-clause-others g c q ne apart =
    let s = g.P.Plant.state c.args.plant.now in
    let a = c.args.s in
    c.in_err-hold.ensures.acted.others q (other-than a (volume_seen s c.args.config.now a.0).fields.flash_hold q ne)

pub returns-in_err-hold-clause-room : goal.returns-in_err-hold-clause-room
returns-in_err-hold-clause-room g c =
    let s = g.P.Plant.state c.args.plant.now in
    let few = hold-cost s c.args.config.now c.args.s (volume_seen s c.args.config.now c.args.s.0).fields.flash_hold in
    let left = c.in_err-hold.ensures.acted.kept.room in
    omega (arith, few, left)
