use Rattle.std.specs.Prelude.{codes}
use Rattle.std.proofs.lemmas.Result.{on_ok_weaker}
use Rattle.dr_ids.specs.Spelling.{hex4}
use Rattle.dr_rows.specs.Calm.{but_on}
use Rattle.dr_rows.proofs.TextLemmas.{pieces}
use Rattle.dr_rows.proofs.calm.push_but_on.Goals as goal

pub returns : goal.returns
unfolding but_on
returns c =
    on_ok_weaker c.push_volume.result
    (pieces c.args.text.now (codes ", but on ") c.append.new.self (hex4 c.args.volume) c.push_volume.new.text c.in_ok-append.ensures.ok)
    c.push_volume.ensures
