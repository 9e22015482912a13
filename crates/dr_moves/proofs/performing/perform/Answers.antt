use Rattle.std.proofs.Common.{◌++◌, ap, ◌∙◌}
use Rattle.dr_moves.specs.Acts.{act_news}
use Rattle.dr_moves.specs.Beside.{table_after, heard}
use Rattle.dr_moves.proofs.HeardLemmas.{shown-behind, performed}
use Rattle.dr_moves.proofs.performing.perform.Goals as goal

pub returns-clause-advances : goal.returns-clause-advances
returns-clause-advances g c s t r d comes =
    let b = g.B.Beside in
    let x = c.args.beside.now in
    let y = c.hear.new.beside in
    let a = c.args.a.now in
    let is = c.hear.ensures.heard ∙ ap (λ o. heard b.after o x) c.news_of.ensures in
    performed b.takes b.after b.rest g.met.B.Beside.shows_rest x y a s (b.table x t) (b.table y t) c.args.journal.now.events c.tell_event.new.journal.events is c.requires.takes
    (ap (λ z. b.table z t) is ∙ shown-behind b.takes b.after b.table table_after g.met.B.Beside.shows_table (act_news a) x t c.requires.takes) (c.tell_event.ensures.events ∙ ap (λ es. c.args.journal.now.events ++ es) c.told_of.ensures) r d comes
