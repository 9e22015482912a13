use Rattle.std.proofs.Common.{◌≡◌, length, ◌+◌, true, false, [], ◌∷◌, ◌++◌, take, ap, ◌∙◌, sym}
use Rattle.std.proofs.lemmas.List.{length_push}
use Rattle.std.proofs.lemmas.Slice.Zip.{zip_turn, zip_end}
use Rattle.dr_model.specs.Decisions.{decision, decided, shown_by, numbers_in, revertibles, others}
use Rattle.dr_decide.proofs.Turns.{revertibles-push, revertibles-stay, others-push, others-stay, taken-push, taken-all, goes-push, goes-same}
use Rattle.dr_decide.proofs.decision.decide.Goals as goal

pub loop-n-preserved-then-flag : goal.loop-n-preserved-then-flag
loop-n-preserved-then-flag c =
    let xs = shown_by c.args.seqs.now c.args.revertible.now in
    let k = length c.loop-n.yielded in
    let t = zip_turn c.args.seqs.now c.args.revertible.now c.loop-n.yielded c.into_iter-n-iterator.result c.loop-n.n-iterator c.next.new.self c.next.result (cc) (cc) c.loop-n.yielded_by _ c.in-Some.is c.next.ensures.steps in
    let one : take (k + 1) xs ≡ take k xs ++ (record { sequence = c.in-Some.n.now; revertible = true }) ∷ [] =
    taken-push c.args.seqs.now c.args.revertible.now k c.in-Some.n.now true t.0 t.1 (t.2 _) (sym c.if-flag.true ∙ t.3 _) in
    let more : take (length (c.loop-n.yielded ++ (c.in-Some.n, c.in-Some.flag) ∷ [])) xs ≡ take k xs ++ (record { sequence = c.in-Some.n.now; revertible = true }) ∷ [] =
    ap (λ n. take n xs) (length_push c.loop-n.yielded _) ∙ one in (
      goes-push _ _ (revertibles (take k xs)) _ c.in-Some.n.now c.loop-n.invariant.0 c.with-revertibles.ensures (ap revertibles more ∙ revertibles-push (take k xs) c.in-Some.n.now),
      goes-same _ (others (take k xs)) _ c.loop-n.invariant.1 (ap others more ∙ others-stay (take k xs) c.in-Some.n.now),
    )

pub loop-n-preserved : goal.loop-n-preserved
loop-n-preserved c =
    let xs = shown_by c.args.seqs.now c.args.revertible.now in
    let k = length c.loop-n.yielded in
    let t = zip_turn c.args.seqs.now c.args.revertible.now c.loop-n.yielded c.into_iter-n-iterator.result c.loop-n.n-iterator c.next.new.self c.next.result (cc) (cc) c.loop-n.yielded_by _ c.in-Some.is c.next.ensures.steps in
    let one : take (k + 1) xs ≡ take k xs ++ (record { sequence = c.in-Some.n.now; revertible = false }) ∷ [] =
    taken-push c.args.seqs.now c.args.revertible.now k c.in-Some.n.now false t.0 t.1 (t.2 _) (sym c.if-flag.false ∙ t.3 _) in
    let more : take (length (c.loop-n.yielded ++ (c.in-Some.n, c.in-Some.flag) ∷ [])) xs ≡ take k xs ++ (record { sequence = c.in-Some.n.now; revertible = false }) ∷ [] =
    ap (λ n. take n xs) (length_push c.loop-n.yielded _) ∙ one in (
      goes-same _ (revertibles (take k xs)) _ c.loop-n.invariant.0 (ap revertibles more ∙ revertibles-stay (take k xs) c.in-Some.n.now),
      goes-push _ _ (others (take k xs)) _ c.in-Some.n.now c.loop-n.invariant.1 c.with-others.ensures (ap others more ∙ others-push (take k xs) c.in-Some.n.now),
    )

pub returns : goal.returns
unfolding decision
returns c =
    let n = zip_end c.args.seqs.now c.args.revertible.now c.loop-n.yielded c.into_iter-n-iterator.result c.loop-n.n-iterator c.next.new.self c.next.result (cc) (cc) c.loop-n.yielded_by c.in-None.is c.next.ensures.steps in
    let all = taken-all c.args.seqs.now c.args.revertible.now (length c.loop-n.yielded) c.requires.equal n in
    c.decided.ensures ∙ λ i. decided ((c.loop-n.invariant.0 ∙ ap (λ xs. numbers_in (revertibles xs)) all) i) ((c.loop-n.invariant.1 ∙ ap (λ xs. numbers_in (others xs)) all) i)
