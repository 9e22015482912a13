use Rattle.std.proofs.Common.{◌==◌, Bool, not, rules, ap, ◌∙◌}
use Rattle.std.proofs.lemmas.Fn.{filter_same}
use Rattle.dr_ids.specs.declared.names.Member.{Member}
use Rattle.dr_model.specs.Sessions.{all_low}
use Rattle.dr_session.proofs.members.take_member_out.Goals as goal
use Rattle.dr_facts.proofs.Sessions.{low-fewer}

pub returns-clause-items : goal.returns-clause-items
returns-clause-items c = filter_same _ _ _ (λ x b f' k. search rules) _ _ c.retain.ensures.filtered

pub returns-clause-low : goal.returns-clause-low
returns-clause-low c =
    let out : Member → Bool = λ m. not (m.a.0 == c.args.a.0) in
    let items = filter_same _ out _ (λ x b f' k. search rules) _ _ c.retain.ensures.filtered in
    λ low. ap all_low items ∙ low-fewer out c.args.members.now.items low
