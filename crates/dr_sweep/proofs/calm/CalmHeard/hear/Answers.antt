use Rattle.std.proofs.Common.{◌++◌, ap, ◌∙◌}
use Rattle.std.specs.Option.{option_copied}
use Rattle.dr_model.specs.Text.{heard}
use Rattle.dr_sweep.specs.Calm.{RunHeard}
use Rattle.dr_sweep.specs.Seen.{calm_seen}
use Rattle.dr_sweep.proofs.TellLemmas.{answer-heard, other-heard}
use Rattle.dr_sweep.proofs.calm.CalmHeard.hear.Goals.{in-Answer+in_ok-note, in_default}
use Rattle.dr_sweep.proofs.calm.CalmHeard.hear.Goals as goal

pub returns : goal.returns
returns c =
    let e = c.args.event.now in
    let steps = c.args.setup.now ++ c.args.plan.now.tried in
    let old : RunHeard = calm_seen c.args.self.now in
    let new : RunHeard = calm_seen (record { told = c.hear.new.self; steps = c.match-event.self.steps; noted = c.match-event.self.noted }) in
    elim c.match-event.branch [
      | in-Answer+in_ok-note w ↦ (
          let a = w.in-Answer in
          let seen = ap calm_seen w.self-is ∙ w.in_ok-note.ensures in
          answer-heard steps old new e a.line a.code a.a a.b a.c (option_copied w.step_at-step.result) a.is w.step_at-step.ensures
          (c.hear.ensures ∙ ap (λ (h : RunHeard). heard h.told e) seen) (ap (λ (h : RunHeard). h.steps) seen) (ap (λ (h : RunHeard). h.noted) seen))
      | in_default w ↦ (
          let seen = ap calm_seen w.self-is in
          other-heard steps old new e w.in_default.not-Answer
          (c.hear.ensures ∙ ap (λ (h : RunHeard). heard h.told e) seen) (ap (λ (h : RunHeard). h.steps) seen) (ap (λ (h : RunHeard). h.noted) seen))
    ]
