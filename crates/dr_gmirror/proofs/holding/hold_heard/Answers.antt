use Rattle.std.proofs.Common.{refl, sym, ◌∙◌, Some}
use Rattle.dr_moves.specs.Heard.{if_counts}
use Rattle.dr_moves.specs.declared.beside.News.TheVariants.{Begun}
use Rattle.dr_gmirror.proofs.BeginLemmas.{begun-heard, same-heard, held-ordered}
use Rattle.dr_gmirror.proofs.holding.hold_heard.Goals as goal

pub hold-requires-clause-takes : goal.hold-requires-clause-takes
hold-requires-clause-takes g c is = c.requires.begins.free (sym c.requires.first ∙ is)

pub returns-clause-same : goal.returns-clause-same
returns-clause-same g c = same-heard c.args.hearing.now c.hold.new.beside (if_counts c.hold.ensures.heard.begun (Some (Begun c.args.s))) _ c.hold.ensures.heard.heard (λ x. x.ss.ghost_name) (λ n z. refl)

pub returns-clause-ordered : goal.returns-clause-ordered
returns-clause-ordered g c =
    let held = c.hold.ensures in
    held-ordered (g.P.Plant.state c.args.plant.now) (g.P.Plant.state c.hold.new.plant) c.args.config.now c.args.journal.now c.hold.new.journal c.args.hearing.now.ss.now.sessions c.hold.new.beside.ss.now.sessions c.args.s.0 c.args.n c.args.m.now c.args.first held.heard.begun c.requires.begins c.requires.first
    held.heard.only (begun-heard c.args.s held.heard.begun c.args.hearing.now c.hold.new.beside _ held.heard.heard (λ x. x.ss.now.sessions) (λ z. refl))
    c.hold.result held.leads held.fails held.heard.room_left held.kept
