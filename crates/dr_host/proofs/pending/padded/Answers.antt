use Rattle.std.proofs.Common.{ℕ, ◌++◌, length, drop, replicate, ap, ◌∙◌}
use Rattle.std.proofs.lemmas.List.{drop-replicate}
use Rattle.dr_host.proofs.pending.padded.Goals as goal

pub returns : goal.returns
returns c =
    let bytes = c.args.bytes.now in
    ap (λ f. f ++ drop {A = ℕ} (length bytes) (replicate 64 0)) c.copy_from_slice.ensures.after ∙ ap (λ z. bytes ++ z) (drop-replicate (length bytes) 64 0)
