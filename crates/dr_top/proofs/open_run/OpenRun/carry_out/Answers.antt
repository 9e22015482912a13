use Rattle.std.proofs.Common.{◌≤◌, ◌+◌, ◌∙◌, refl, sym, ap, subst, length}
use Rattle.dr_io.specs.Lines.{most_bytes, most_lines}
use Rattle.dr_steps.specs.Here.{here}
use Rattle.dr_top.specs.OpenRuns.{RunProgress, HasRun, IsCounted, GoesOn}
use Rattle.dr_top.proofs.OpenLemmas.{is-past, is-within, goes-left, goes-text}
use Rattle.dr_top.proofs.RunLemmas.{grown, longer}
use Rattle.dr_top.proofs.open_run.OpenRun.carry_out.Goals as goal

pub returns-then-is_past : goal.returns-then-is_past
returns-then-is_past g c s0 steps h =
    let s = g.P.Plant.state c.args.plant.now in
    let events = c.args.journal.now.events in
    let past = is-past c.args.text.now c.args.self.now (length c.args.text.now) c.line_count-lines.result refl c.line_count-lines.ensures (sym c.is_past.ensures ∙ c.if-is_past.true) in
    goes-left c.args.text.now c.args.self.now c.args.self.now s0 s s events events steps h past

pub status_of-requires : goal.status_of-requires
status_of-requires g c =
    let events = c.args.journal.now.events in
    let now = c.carry_text-carried.new.journal.events in
    let w = here (g.P.Plant.state c.args.plant.now) c.self.inside.config c.self.inside.tables events in
    let u = here (g.P.Plant.state c.carry_text-carried.new.plant) c.carry_text-carried.new.config c.carry_text-carried.new.tables now in
    let goes = c.carry_text-carried.ensures.goes in
    let told = grown w u goes.led.steps goes.led.leads in
    subst (λ n. n ≤ length now) (sym c.len-from.ensures) (longer events now told.0 told.1)

pub returns : goal.returns
returns g c s0 steps h =
    let text = c.args.text.now in
    let s = g.P.Plant.state c.args.plant.now in
    let s' = g.P.Plant.state c.carry_text-carried.new.plant in
    let events = c.args.journal.now.events in
    let events' = c.carry_text-carried.new.journal.events in
    let count = c.line_count-lines.result in
    let r : RunProgress = record { config = c.self.inside.config; tables = c.self.inside.tables; lines = c.self.inside.lines; bytes = c.self.inside.bytes } in
    let r' : RunProgress = record { config = c.carry_text-carried.new.config; tables = c.carry_text-carried.new.tables; lines = c.self.inside.lines + count; bytes = c.self.inside.bytes + length text } in
    let before : HasRun s0 s r events steps = subst (λ (x : RunProgress). HasRun s0 s x events steps) (sym c.self.view_is) h in
    let fits = subst (λ (x : RunProgress). (x.bytes + length text ≤ most_bytes) × (x.lines + count ≤ most_lines)) (sym c.self.view_is) (is-within c.args.self.now (length text) count (sym c.is_past.ensures ∙ c.if-is_past.false)) in
    let counted : IsCounted text r r' = record { more_lines = ap (λ n. c.self.inside.lines + n) c.line_count-lines.ensures; few = fits.1; more_bytes = refl; short = fits.0 } in
    let sound = c.tell_sound.ensures in
    let after = c.carry_text-carried.ensures in
    subst (λ (x : RunProgress). GoesOn text x r' s0 s s' events events' steps c.status_of.result) c.self.view_is
    (goes-text text r r' s0 s s' events events' steps before sound after.ready after.room after.faults counted c.carry_text-carried.result after.goes c.len-from.result c.len-from.ensures c.status_of.result c.status_of.ensures)
