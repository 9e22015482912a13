use Rattle.std.proofs.Common.{ℕ, ◌≡◌, ◌<◌, [], ◌∷◌, ◌++◌, List, length, take, get_or, true, refl, ap, sym, ◌∙◌, subst, arith}
use Rattle.std.proofs.lemmas.List.{take_all, take_more}
use Rattle.std.proofs.lemmas.List.Elements.{All-get_or}
use Rattle.std.proofs.lemmas.Result.{err_from_is_err_and}
use Rattle.dr_model.specs.Grammar.{line_of}
use Rattle.dr_plan.specs.Sweep.{is_unbroken}
use Rattle.dr_rows.specs.declared.row.Members.{Members}
use Rattle.dr_sweep.specs.Comes.{Recovers, HaltsBy, seen}
use Rattle.dr_sweep.specs.Moments.{members_after, recovered_in}
use Rattle.dr_sweep.specs.Seen.{run_seen}
use Rattle.dr_sweep.proofs.RunLemmas.{recovers-none, recovers-more, halts-within}
use Rattle.dr_sweep.proofs.run.PointRun.recover.Goals as goal

pub recover_line-requires-clause-line : goal.recover_line-requires-clause-line
recover_line-requires-clause-line c =
    let ls = c.args.plan.now.recovery in
    let low : c.loop-line.line-index < length ls = subst (λ (xs : List (List ℕ)). c.loop-line.line-index < length xs) c.recovery-lines.ensures c.loop-line-test.true in
    let there : c.bytes.result.now ≡ get_or ls c.loop-line.line-index c.line-item.result = c.bytes.ensures ∙ c.line-item.is ∙ ap (λ (xs : List (List ℕ)). get_or xs c.loop-line.line-index c.line-item.result) c.recovery-lines.ensures in
    ap is_unbroken there ∙ All-get_or (λ line. is_unbroken line ≡ true) ls c.loop-line.line-index c.line-item.result low c.requires.sweep.recovery

pub loop-line-init : goal.loop-line-init
loop-line-init c = record {
  longer = omega arith;
  stays = c.requires.run;
  goes = λ began ls steps ran. subst (λ (ms : List Members). Recovers began ls [] (run_seen c.args.self.now) (run_seen c.args.self.now) steps ms) (sym c.new-members.ensures.items) (recovers-none began ls (run_seen c.args.self.now) steps ran);
}

pub returns-in_err-recover_line-clause-fails : goal.returns-in_err-recover_line-clause-fails
returns-in_err-recover_line-clause-fails c =
    let i = c.loop-line.line-index in
    let all = c.recovery-lines.result.now in
    let new = run_seen c.recover_line.new.self in
    let there : c.bytes.result.now ≡ get_or all i c.line-item.result = c.bytes.ensures ∙ c.line-item.is in
    let out = err_from_is_err_and c.from_residual.result c.from_residual.ensures.1 in
    rw (out.1, out.2) (λ began ls steps ran.
    (let r = c.loop-line.invariant.goes began ls steps ran in
    let here = c.in_err-recover_line.ensures.fails began (ls ++ take i all) (steps ++ r.further) r.ran in
    subst (λ (xs : List (List ℕ)). HaltsBy began (ls ++ xs) new c.in_err-recover_line.field-0.0) c.recovery-lines.ensures
    (halts-within began ls all i c.line-item.result c.loop-line-test.true new c.in_err-recover_line.field-0.0 (subst (λ line. HaltsBy began (ls ++ take i all ++ line ∷ []) new c.in_err-recover_line.field-0.0) there here))))

pub loop-line-preserved : goal.loop-line-preserved
loop-line-preserved c = record {
  longer = let a = c.loop-line.invariant.longer in let b = c.in_ok-recover_line.ensures.longer in omega (arith, a, b);
  stays = c.in_ok-recover_line.ensures.stays;
  goes = λ began ls steps ran.
      (let i = c.loop-line.line-index in
      let all = c.recovery-lines.result.now in
      let old = run_seen c.args.self.now in
      let mid = run_seen c.loop-line.self in
      let new = run_seen c.recover_line.new.self in
      let line = c.bytes.result.now in
      let more = members_after (recovered_in (line_of line)) (seen new) in
      let there : line ≡ get_or all i c.line-item.result = c.bytes.ensures ∙ c.line-item.is in
      let r = c.loop-line.invariant.goes began ls steps ran in
      let on = c.in_ok-recover_line.ensures.goes began (ls ++ take i all) (steps ++ r.further) r.ran in
      let then' = recovers-more began ls (take i all) line old mid new steps c.loop-line.members.items more ran r on refl in
      subst (λ (xs : List (List ℕ)). Recovers began ls xs old new steps c.recover_line.new.members.items) (ap (λ l. take i all ++ l ∷ []) there ∙ sym (take_more all i c.line-item.result c.loop-line-test.true))
      (subst (λ (ms : List Members). Recovers began ls (take i all ++ line ∷ []) old new steps ms) (sym c.in_ok-recover_line.ensures.adds) then'));
}

pub returns-clause-goes : goal.returns-clause-goes
returns-clause-goes c began ls steps ran =
    subst (λ (xs : List (List ℕ)). Recovers began ls xs (run_seen c.args.self.now) (run_seen c.loop-line.self) steps c.loop-line.members.items) (take_all c.loop-line.line-index c.recovery-lines.result.now c.loop-line-test.false ∙ c.recovery-lines.ensures)
    (c.loop-line.invariant.goes began ls steps ran)
