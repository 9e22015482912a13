use Rattle.std.proofs.Common.{ap, sym, subst, true, ◌<◌}
use Rattle.dr_model.specs.Forming.{part}
use Rattle.dr_model.specs.SessionPlans.{asking}
use Rattle.dr_laws_sound.proofs.Parts.{comes-asking}
use Rattle.dr_steps.specs.Formed.{Reaches}
use Rattle.dr_steps.specs.Here.{here}
use Rattle.dr_steps.proofs.CountLemmas.{before-step}
use Rattle.dr_steps.proofs.LossLemmas.{lost-here}
use Rattle.dr_steps.proofs.FormingLemmas.{part-full, part-done, part-sound, part-counted}
use Rattle.dr_steps.proofs.forming.ask_alone.Goals as goal

pub returns-then-not-has_room-clause-way : goal.returns-then-not-has_room-clause-way
returns-then-not-has_room-clause-way g c =
    let s = g.P.Plant.state c.args.plant.now in let t = c.args.config.now in let h = c.args.tables.now in let ev = c.args.journal.now.events in
    part-full (here s t h ev) (asking (here s t h ev).control c.args.s.0 c.args.server.0 true) (sym c.if-not-has_room.ensures)

pub returns-clause-way : goal.returns-clause-way
returns-clause-way g c =
    let s = g.P.Plant.state c.args.plant.now in let t = c.args.config.now in let h = c.args.tables.now in let ev = c.args.journal.now.events in
    let u = g.P.Plant.state c.ask_server-carried.new.plant in let h' = c.ask_server-carried.new.tables in let mid = c.ask_server-carried.new.journal.events in let h'' = record h' { sessions = c.lose_masters.new.sessions; flight = c.lose_masters.new.flight } in
    subst (λ r. Reaches (part (here s t h ev) (asking (here s t h ev).control c.args.s.0 c.args.server.0 true)) (here u t h'' mid) r) (sym c.unsaid.ensures)
    (part-done s u t h h' ev mid _ _ (sym c.if-not-has_room.ensures) c.ask_server-carried.ensures.step h'' (lost-here s u t h' mid c.lose_masters.new.sessions c.lose_masters.new.flight (c.lose_masters.ensures.sessions s c.servers_on-before.ensures) (c.lose_masters.ensures.flight s c.servers_on-before.ensures)))

pub returns-clause-sound : goal.returns-clause-sound
returns-clause-sound g c =
    let s = g.P.Plant.state c.args.plant.now in let t = c.args.config.now in let h = c.args.tables.now in let ev = c.args.journal.now.events in
    let u = g.P.Plant.state c.ask_server-carried.new.plant in let h' = c.ask_server-carried.new.tables in let mid = c.ask_server-carried.new.journal.events in let h'' = record h' { sessions = c.lose_masters.new.sessions; flight = c.lose_masters.new.flight } in
    part-sound s u t h h' ev mid _ _ (sym c.if-not-has_room.ensures) c.ask_server-carried.ensures.step h'' (lost-here s u t h' mid c.lose_masters.new.sessions c.lose_masters.new.flight (c.lose_masters.ensures.sessions s c.servers_on-before.ensures) (c.lose_masters.ensures.flight s c.servers_on-before.ensures)) (comes-asking (here s t h ev) c.args.s.0 c.args.server.0 (sym c.if-not-has_room.ensures)) c.requires.sound

pub returns-clause-counted : goal.returns-clause-counted
returns-clause-counted g c =
    let s = g.P.Plant.state c.args.plant.now in let t = c.args.config.now in let h = c.args.tables.now in let ev = c.args.journal.now.events in
    let u = g.P.Plant.state c.ask_server-carried.new.plant in let h' = c.ask_server-carried.new.tables in let mid = c.ask_server-carried.new.journal.events in let h'' = record h' { sessions = c.lose_masters.new.sessions; flight = c.lose_masters.new.flight } in
    part-counted s u t h h' ev mid _ _ (sym c.if-not-has_room.ensures) c.ask_server-carried.ensures.step h'' (lost-here s u t h' mid c.lose_masters.new.sessions c.lose_masters.new.flight (c.lose_masters.ensures.sessions s c.servers_on-before.ensures) (c.lose_masters.ensures.flight s c.servers_on-before.ensures)) (comes-asking (here s t h ev) c.args.s.0 c.args.server.0 (sym c.if-not-has_room.ensures)) c.requires.counted

pub lose_masters-requires : goal.lose_masters-requires
lose_masters-requires g c =
    let w = here (g.P.Plant.state c.args.plant.now) c.args.config.now c.args.tables.now c.args.journal.now.events in
    record { count = λ n. subst (λ m. m < 4294967295) (sym (ap (λ f. f n) c.ask_server-carried.ensures.epochs)) ((before-step w (sym c.if-not-has_room.ensures) c.requires.counted).epochs n) }
