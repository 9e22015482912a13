use Rattle.std.proofs.Common.{ℕ, ◌≡◌, ◌++◌, [], cond, map, filter, nat_eq, sym, ap, ◌∙◌, true}
use Rattle.dr_ids.specs.declared.names.Member.{Member}
use Rattle.dr_model.specs.Listings.{member_line, member_lines}
use Rattle.dr_model.specs.Sessions.{members_in, has_lss, has_subsystem, subsystem_of}
use Rattle.dr_volume.specs.View.{control_seen}
use Rattle.dr_listing.proofs.members.push_session.Goals as goal

pub returns-then-has_lss-clause-told : goal.returns-then-has_lss-clause-told
returns-then-has_lss-clause-told g c r x found number =
    let k = control_seen (g.P.Plant.state c.args.plant.now) c.args.config.now r in
    let has : has_subsystem c.args.lss.0 x ≡ true = sym (c.has_lss.ensures ∙ ap (λ o. has_lss o c.args.lss.0) found) ∙ c.if-has_lss.true in
    let lines = (λ (n : ℕ) (ms : _). map (member_line k c.args.line n) (filter (λ (m : Member). nat_eq (subsystem_of m.a.0) c.args.lss.0) ms)) in
    c.push_members.ensures.told r
    ∙ ap (λ es. c.args.journal.now.events ++ es) ((λ i. lines (sym number i) (members_in (found i))) ∙ sym (ap (λ b. cond b (member_lines k c.args.line c.args.lss.0 x) []) has))
