use Rattle.std.proofs.Common.{◌+◌}
use Rattle.dr_image.proofs.reader.behind.Goals as goal
use Rattle.dr_logic.proofs.Lists.{to_the_end}

pub returns : goal.returns
returns c = to_the_end c.args.text.now (c.args.place + 1)
