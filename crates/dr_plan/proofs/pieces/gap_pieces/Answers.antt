use Rattle.std.proofs.Common.{◌++◌, length, map, ap, ◌∙◌, arith}
use Rattle.dr_plan.specs.Points.{stop_line, text_of}
use Rattle.dr_plan.proofs.PieceLemmas.{gap-made}
use Rattle.dr_plan.proofs.pieces.gap_pieces.Goals as goal

pub returns : goal.returns
returns c =
    let tried_is = ap (λ plan. length plan.tried) c.plan.view_is in
    let count = c.len.ensures in
    let test = c.if-len-place.false in
    gap-made c.args.plan.now c.args.servers.now c.args.place c.in_ok-front.front c.new.result c.push_stops.new.text c.requires.sweep c.requires.fit (omega (arith, tried_is, count, test)) c.in_ok-front.ensures c.new.ensures
    (c.in_ok-push_stops.ensures ∙ ap (λ t. t ++ text_of (map stop_line c.args.servers.now)) c.new-stops.ensures)
