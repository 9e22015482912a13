use Rattle.std.proofs.Common.{◌∙◌, ap, sym}
use Rattle.dr_list.specs.Seen.{heard_seen}
use Rattle.dr_model.specs.Text.{told_name}
use Rattle.dr_sweep.specs.Reach.{server_of, stopped_by}
use Rattle.dr_sweep.proofs.reach.stopped_by.Goals as goal

pub returns-in-Stopped : goal.returns-in-Stopped
returns-in-Stopped c =
    c.server_of.ensures
    ∙ ap (server_of c.args.names.now) (c.name.ensures ∙ ap (told_name (heard_seen c.args.told.now)) c.from.ensures)
    ∙ sym (ap (stopped_by (heard_seen c.args.told.now) c.args.names.now) c.in-Stopped.is)
