use Rattle.std.proofs.Common.{◌++◌, map, ap, sym, ◌∙◌}
use Rattle.dr_plan.specs.Points.{stop_line, others, text_of, with_end}
use Rattle.dr_plan.proofs.PieceLemmas.{cut-made}
use Rattle.dr_plan.proofs.pieces.cut_pieces.Goals as goal

pub returns : goal.returns
returns c =
    cut-made c.args.plan.now c.args.servers.now c.args.place c.args.server c.args.torn c.args.writes.now _ c.in-Some-tried_at.tried.now c.in_ok-front.front c.push_fuses.new.text c.in_ok-strike.strike c.push_others.new.text
    c.requires.sweep c.requires.fit (sym c.in-Some.ensures) (sym c.in-Some-tried_at.ensures) c.in_ok-front.ensures c.in_ok-push_fuses.ensures (c.in_ok-strike.ensures.text ∙ ap with_end c.text.ensures)
    (c.in_ok-push_others.ensures ∙ ap (λ t. t ++ text_of (map stop_line (others c.args.server c.args.servers.now))) c.new-stops.ensures)
