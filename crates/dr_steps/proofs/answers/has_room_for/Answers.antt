use Rattle.std.proofs.Common.{◌-◌, ◌∙◌, ap, length, nat_le}
use Rattle.dr_steps.proofs.StepTaskLemmas.{room-left}
use Rattle.dr_steps.proofs.answers.has_room_for.Goals as goal

pub returns : goal.returns
returns c = ap (λ n. nat_le n (1000000 - c.args.events)) c.len.ensures ∙ room-left (length c.args.journal.now.events) c.args.events c.requires
