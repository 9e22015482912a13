use Rattle.std.proofs.Common.{rules, ◌∙◌}
use Rattle.std.proofs.lemmas.List.Sorted.{answers_always}
use Rattle.dr_ctl.proofs.Places.{place-searched}
use Rattle.dr_ctl.proofs.list.place_of.Goals as goal

pub returns : goal.returns
returns c =
    let facts = c.binary_search_by_key.ensures in
    let by_key = facts.position (λ x. x.number) (answers_always _ _ _ (λ f a r g called. search rules)) in
    c.ok.ensures.value ∙ place-searched c.args.messages.now c.args.n c.binary_search_by_key.result c.requires facts.bound by_key
