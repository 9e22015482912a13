use Rattle.std.proofs.Common.{◌≡◌, ◌+◌, ◌-◌, ◌<◌, ◌∷◌, ◌++◌, [], length, reverse, slice_index_or, ap, sym, ◌∙◌, arith, append_assoc}
use Rattle.std.proofs.lemmas.Option.{slice_get-get_or}
use Rattle.std.proofs.lemmas.List.{reverse-append}
use Rattle.dr_lost.specs.declared.nodes.Node.{Node}
use Rattle.dr_lost.specs.Nodes.{list_of}
use Rattle.dr_lost.proofs.NodeLemmas.{list-step, list-empty}
use Rattle.dr_lost.proofs.nodes.writes_of.Goals as goal

pub loop-number-preserved : goal.loop-number-preserved
loop-number-preserved c =
    let nodes = c.args.nodes.now in
    let number = c.loop-number.number in
    let none : Node = record { write = 0; before = 0 } in
    let node : Node = slice_index_or nodes (number - 1) none in
    let within : number - 1 < length nodes = omega arith in
    let found = slice_get-get_or nodes (number - 1) none within in
    let earlier = c.requires.earlier (number - 1) node found in
    let one : number - 1 + 1 ≡ number = omega arith in
    let step : list_of nodes number ≡ list_of nodes node.before ++ node.write ∷ [] = sym (ap (list_of nodes) one) ∙ list-step nodes (number - 1) node found earlier in
    record {
      within = omega arith;
      rest =
          ap (λ xs. list_of nodes node.before ++ reverse xs) c.in_ok-push.ensures.items
          ∙ (ap (λ xs. list_of nodes node.before ++ xs) (reverse-append c.loop-number.writes.items (node.write ∷ []))
          ∙ (sym (append_assoc (list_of nodes node.before) (node.write ∷ []) (reverse c.loop-number.writes.items))
          ∙ (ap (λ xs. xs ++ reverse c.loop-number.writes.items) (sym step) ∙ c.loop-number.invariant.rest)));
    }

pub returns : goal.returns
returns c =
    let nodes = c.args.nodes.now in
    let first : c.loop-number.number ≡ 0 = omega arith in
    c.reverse.ensures.items
    ∙ (ap (λ xs. xs ++ reverse c.loop-number.writes.items) (sym (ap (list_of nodes) first ∙ list-empty nodes)) ∙ c.loop-number.invariant.rest)
