use Rattle.std.proofs.Common.{ap, sym, ◌∙◌, map, option_map}
use Rattle.dr_ctl.specs.Seen.{message_of, seen}
use Rattle.dr_ctl.proofs.Places.{found-there, found-nowhere}
use Rattle.dr_ctl.proofs.list.message_numbered.Goals as goal

pub returns-in_err-i : goal.returns-in_err-i
returns-in_err-i c =
    ap (option_map (message_of c.args.n)) c.from_residual.ensures ∙ sym (found-nowhere (map seen c.args.messages.now) c.args.n (sym c.place_of.ensures ∙ c.in_err-i.was))

pub returns : goal.returns
returns c = found-there c.args.messages.now c.args.n c.in_ok-i.i _ (sym c.place_of.ensures ∙ c.in_ok-i.was)
