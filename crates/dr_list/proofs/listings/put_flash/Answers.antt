use Rattle.std.specs.Fmt.{decimal}
use Rattle.dr_ids.specs.Spelling.{hex4}
use Rattle.dr_model.specs.Text.{flash_word, flag_letters}
use Rattle.dr_list.proofs.TextLemmas.{flash-written}
use Rattle.dr_list.proofs.listings.put_flash.Goals as goal

pub returns-clause-text : goal.returns-clause-text
returns-clause-text c =
    let of = c.args.of in
    flash-written c.args.tail.now c.put_flash_state.new.tail c.put_count.new.tail c.put_count-2.new.tail c.put_volumes.new.tail
    (hex4 of.source) (hex4 of.target) (decimal of.sequence) (decimal of.previous) (flash_word of.state) (flag_letters of.flags) (decimal of.own)
    c.put_flash_state.ensures.text c.put_count.ensures.text c.put_count-2.ensures.text c.put_volumes.ensures.text
