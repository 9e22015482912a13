use Rattle.std.proofs.Common.{sym, ◌≡◌, ◌++◌, OnOk, subst}
use Rattle.dr_model.specs.Text.{line_text}
use Rattle.dr_list.specs.Seen.{heard_seen}
use Rattle.dr_list.proofs.lines.push_event.Goals as goal

pub returns-in-Answer : goal.returns-in-Answer
returns-in-Answer c = subst (λ e. OnOk c.push_answer.result (c.push_answer.new.out.items ≡ c.args.out.now.items ++ line_text (heard_seen c.args.told.now) e)) (sym c.in-Answer.is) c.push_answer.ensures
