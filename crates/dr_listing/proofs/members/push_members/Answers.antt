use Rattle.std.proofs.Common.{◌≤◌, ◌++◌, length, map, filter, nat_eq, arith, sym, ap, ◌∙◌}
use Rattle.std.proofs.lemmas.List.{take_all}
use Rattle.dr_ids.specs.declared.names.Member.{Member}
use Rattle.dr_model.specs.Listings.{member_line}
use Rattle.dr_model.specs.Sessions.{session_in, members_in, subsystem_of}
use Rattle.dr_volume.specs.View.{control_seen}
use Rattle.dr_listing.proofs.TakenLemmas.{told-next, picked-next, in-at}
use Rattle.dr_listing.proofs.members.push_members.Goals as goal

pub member_line-requires-clause-defined : goal.member_line-requires-clause-defined
member_line-requires-clause-defined g c =
    let ms = members_in (session_in c.args.sessions.now.sessions c.args.s.0) in
    c.requires.members c.unwrap-m.result (in-at ms c.loop-at.at c.unwrap-m.result (sym c.member_at.ensures.value ∙ c.unwrap-m.ensures))

pub loop-at-preserved : goal.loop-at-preserved
loop-at-preserved g c = record {
  told = λ r.
      let ms = members_in (session_in c.args.sessions.now.sessions c.args.s.0) in
      let line : Member → _ = member_line (control_seen (g.P.Plant.state c.args.plant.now) c.args.config.now r) c.args.line c.args.s.0 in
      let next = picked-next line (λ (m : Member). nat_eq (subsystem_of m.a.0) c.args.lss.0) ms c.loop-at.at c.unwrap-m.result (sym c.member_at.ensures.value ∙ c.unwrap-m.ensures) in
      told-next c.args.journal.now.events _ _ _ c.loop-at.journal.events c.push.new.journal.events (c.loop-at.invariant.told r) (c.push.ensures.told ∙ ap (λ es. c.loop-at.journal.events ++ es) (c.member_line.ensures r)) next;
  left = let a = c.loop-at.invariant.left in let b = c.push.ensures.left in omega (arith, a, b);
}

pub returns-clause-told : goal.returns-clause-told
returns-clause-told g c r =
    let ms = members_in (session_in c.args.sessions.now.sessions c.args.s.0) in
    let all : length ms ≤ c.loop-at.at = (let e = c.member_count-at-end.ensures in let f = c.loop-at-test.false in omega (arith, e, f)) in
    c.loop-at.invariant.told r ∙ ap (λ xs. c.args.journal.now.events ++ map (member_line (control_seen (g.P.Plant.state c.args.plant.now) c.args.config.now r) c.args.line c.args.s.0) (filter (λ (m : Member). nat_eq (subsystem_of m.a.0) c.args.lss.0) xs)) (take_all c.loop-at.at ms all)
