use Rattle.std.proofs.Common.{◌≡◌, ap, sym, ◌∙◌}
use Rattle.std.proofs.lemmas.Result.{IfOk-weaker}
use Rattle.dr_model.specs.LineWords.{list_items, range_items, onto}
use Rattle.dr_script.specs.Pieces.{kept}
use Rattle.dr_script.proofs.ItemLemmas.{list_refused, list_goes_on, list_ends}
use Rattle.dr_script.proofs.items.push_list.Goals as goal

pub returns-then-not-branch : goal.returns-then-not-branch
returns-then-not-branch c =
    let old = c.loop-comma.items.items in
    let new = c.push_range.new.items.items in
    sym c.loop-comma.invariant
    ∙ list_refused old new c.loop-comma.rest.now c.in-Some.comma (sym c.in-Some.ensures.value)
    (ap (λ word. onto old (range_items word)) (sym c.before-in-Some.ensures) ∙ c.in_ok-push_range.ensures ∙ ap (λ b. kept b new) c.if-not-branch.true)

pub loop-comma-preserved : goal.loop-comma-preserved
loop-comma-preserved c =
    let old = c.loop-comma.items.items in
    let new = c.push_range.new.items.items in
    ap (λ word. onto new (list_items word)) c.behind-rest.ensures
    ∙ sym (list_goes_on old new c.loop-comma.rest.now c.in-Some.comma (sym c.in-Some.ensures.value)
    (ap (λ word. onto old (range_items word)) (sym c.before-in-Some.ensures) ∙ c.in_ok-push_range.ensures ∙ ap (λ b. kept b new) c.if-not-branch.false))
    ∙ c.loop-comma.invariant

pub returns : goal.returns
returns c =
    let new = c.push_range-2.new.items.items in
    IfOk-weaker c.push_range-2.result (λ stands. onto c.loop-comma.items.items (range_items c.loop-comma.rest.now) ≡ kept stands new) (λ stands. onto c.args.items.now.items (list_items c.args.word.now) ≡ kept stands new)
    (λ stands h. sym c.loop-comma.invariant ∙ list_ends c.loop-comma.items.items new c.loop-comma.rest.now stands (sym c.in_default.ensures.value) h)
    c.push_range-2.ensures
