use Rattle.std.proofs.Common.{◌-◌, List, refl, arith}
use Rattle.std.proofs.lemmas.Result.{on_ok_weaker, on_err_weaker}
use Rattle.dr_image.specs.declared.held.Held.{Held}
use Rattle.dr_image.specs.Shown.{shown, all_shown}
use Rattle.dr_image.specs.Sound.{IsSoundVolume}
use Rattle.dr_image.proofs.HeldLemmas.{shown-last, shown-kept}
use Rattle.dr_image.proofs.StateLemmas.{all_got, got}
use Rattle.dr_image.proofs.held.put_last.Goals as goal

pub put_block-requires : goal.put_block-requires
put_block-requires c =
    let hs : List Held = c.args.volumes.now.items in
    let held : Held = c.index_mut-held.result.now in
    (all_got IsSoundVolume (all_shown hs) (c.len-last.result - 1) (shown held) c.requires.sound (got hs (c.len-last.result - 1) held (let s = c.requires.some in omega arith) c.index_mut-held.ensures.value)).in_order

pub returns-clause-ok : goal.returns-clause-ok
returns-clause-ok c =
    let hs : List Held = c.args.volumes.now.items in
    let old : Held = c.index_mut-held.result.now in
    let new : Held = record { volume = old.volume; blocks = c.put_block.new.blocks } in
    on_ok_weaker c.put_block.result
    (shown-last c.args.index c.args.bytes.now hs (c.len-last.result - 1) new old (let s = c.requires.some in omega arith) c.index_mut-held.ensures.value refl)
    c.put_block.ensures.ok

pub returns-clause-err : goal.returns-clause-err
returns-clause-err c =
    let hs : List Held = c.args.volumes.now.items in
    let old : Held = c.index_mut-held.result.now in
    let new : Held = record { volume = old.volume; blocks = c.put_block.new.blocks } in
    on_err_weaker c.put_block.result
    (shown-kept hs (c.len-last.result - 1) old new (let s = c.requires.some in omega arith) c.index_mut-held.ensures.value refl)
    c.put_block.ensures.err
