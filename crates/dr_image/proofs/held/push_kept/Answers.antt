use Rattle.std.proofs.Common.{refl, arith}
use Rattle.dr_image.specs.declared.held.Held.{Held}
use Rattle.dr_image.specs.declared.held.KeptBlock.{KeptBlock}
use Rattle.dr_image.proofs.HeldLemmas.{pushed, unpushed}
use Rattle.dr_image.proofs.held.push_kept.Goals as goal
use Rattle.dr_logic.proofs.Results.{err-always}

pub returns-clause-ok : goal.returns-clause-ok
returns-clause-ok c =
    let old : Held = c.index_mut-held.result.now in
    let new : Held = record { volume = old.volume; blocks = c.push.new.self } in
    let b : KeptBlock = record { index = c.args.index; bytes = c.args.bytes.now } in
    pushed c.args.volumes.now.items c.args.place old new b (omega arith) c.index_mut-held.ensures.value refl c.in_ok-push.ensures.items

pub returns-in_err-push-clause-err : goal.returns-in_err-push-clause-err
returns-in_err-push-clause-err c =
    let old : Held = c.index_mut-held.result.now in
    let new : Held = record { volume = old.volume; blocks = c.push.new.self } in
    err-always c.from_residual.result (unpushed c.args.volumes.now.items c.args.place old new (omega arith) c.index_mut-held.ensures.value refl c.in_err-push.ensures.items)
