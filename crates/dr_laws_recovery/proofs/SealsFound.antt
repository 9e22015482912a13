-- The premises of a seal hold in every run: the cuts, and that a member's primary sends to its secondary.
use Rattle.std.proofs.Common.{ap, ◌∙◌, List, Some}
use Rattle.dr_ids.specs.declared.names.Member.{Member}
use Rattle.dr_model.specs.Layout.{is_part}
use Rattle.dr_model.specs.Sessions.{Session}
use Rattle.dr_model.specs.Control.{World}
use Rattle.dr_model.specs.Entries.{fields_at}
use Rattle.dr_model.specs.Groups.{In}
use Rattle.dr_model.specs.Laws.{Sound}
use Rattle.dr_model.specs.Runs.{Task, run}
use Rattle.dr_laws_sessions.proofs.Silent.{partner-is}
use Rattle.dr_laws_cuts.specs.Sent.{SendsTo, CutsHold}
use Rattle.dr_laws_cuts.proofs.Sent.{cuts-hold}
use Rattle.dr_laws_sound.proofs.Steps.{sound-run}
use Rattle.dr_laws_recovery.proofs.SealsAlong.{cuts-run}
use Rattle.dr_logic.proofs.Choices.{choose_some}
use Rattle.dr_facts.proofs.Parts.{global-part}

pub cuts-found : (tasks : List Task) → CutsHold (run tasks)
cuts-found tasks = cuts-hold (run tasks) (sound-run tasks).rows (cuts-run tasks)

pub sends-found : (w : World) (x : Session) (m : Member) → Sound w → In x w.control.sessions → In m x.members → SendsTo w m.a.0 m.b.0
sends-found w x m sound listed here rec =
    let f = fields_at w.control m.a.0 in
    choose_some (is_part f.primary) f.primary_partner (global-part f.primary ((sound.rows.recorders m.a.0).global rec))
    ∙ ap (λ u. Some u) (partner-is w.control x m sound.groups listed here rec)
