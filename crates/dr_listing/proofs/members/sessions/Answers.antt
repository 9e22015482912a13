use Rattle.std.proofs.Common.{◌≤◌, ◌<◌, ◌+◌, ◌^◌, ◌++◌, length, filter, arith, sym, ap, subst, ◌∙◌}
use Rattle.std.specs.List.{flat_map}
use Rattle.std.proofs.lemmas.List.{take_all}
use Rattle.dr_model.specs.Listings.{member_lines}
use Rattle.dr_model.specs.Sessions.{members_in, has_subsystem}
use Rattle.dr_volume.specs.View.{control_seen}
use Rattle.dr_listing.specs.Told.{AllStand, members_of}
use Rattle.dr_listing.proofs.TakenLemmas.{told-next, chosen-next, in-at}
use Rattle.dr_listing.proofs.SeatLemmas.{seat-at, few-seats, low-next, no-seat, members-next}
use Rattle.dr_listing.proofs.members.sessions.Goals as goal

pub push_session-requires-clause-members : goal.push_session-requires-clause-members
push_session-requires-clause-members g c =
    let ss = c.args.sessions.now.sessions in
    let seat = seat-at ss c.loop-s.at c.session_at.result c.in-Some.s c.session_at.ensures.value c.in-Some.is in
    let found = seat.found c.requires.seated.once in
    subst (λ o. AllStand c.args.config.now (members_in o)) (sym found) (c.requires.seated.stand seat.session (in-at ss c.loop-s.at seat.session seat.there))

pub push_session-requires-clause-room : goal.push_session-requires-clause-room
push_session-requires-clause-room g c =
    let ss = c.args.sessions.now.sessions in
    let seat = seat-at ss c.loop-s.at c.session_at.result c.in-Some.s c.session_at.ensures.value c.in-Some.is in
    let found = seat.found c.requires.seated.once in
    let size = ap (λ o. length (members_in o)) found in
    let few = (members-next ss c.loop-s.at seat.session seat.there).1 in
    let left = c.loop-s.invariant.left in
    let room = c.requires.room in
    omega (arith, size, few, left, room)

pub overflow_add-at : goal.overflow_add-at
overflow_add-at g c = record { fits = let few = few-seats c.args.sessions.now.sessions c.loop-s.at c.requires.seated.once c.loop-s.invariant.within c.loop-s.invariant.low in let more : c.loop-s.at + 1 < 2 ^ 64 = omega (arith, few) in more }

pub loop-s-smaller : goal.loop-s-smaller
loop-s-smaller g c =
    let seat = seat-at c.args.sessions.now.sessions c.loop-s.at c.session_at.result c.in-Some.s c.session_at.ensures.value c.in-Some.is in
    let low = seat.below in
    omega (arith, low)

pub loop-s-preserved : goal.loop-s-preserved
loop-s-preserved g c =
    let ss = c.args.sessions.now.sessions in
    let seat = seat-at ss c.loop-s.at c.session_at.result c.in-Some.s c.session_at.ensures.value c.in-Some.is in
    let found = seat.found c.requires.seated.once in
    record {
      told = λ r. told-next c.args.journal.now.events _ _ _ c.loop-s.journal.events c.push_session.new.journal.events (c.loop-s.invariant.told r) (c.push_session.ensures.told r seat.session found seat.number)
          (chosen-next (member_lines (control_seen (g.P.Plant.state c.args.plant.now) c.args.config.now r) c.args.line c.args.lss.0) (has_subsystem c.args.lss.0) ss c.loop-s.at seat.session seat.there);
      within = let low = seat.below in omega (arith, low);
      low = low-next ss c.loop-s.at seat.session seat.there c.loop-s.invariant.low (subst (λ n. n < 256) (sym seat.number) c.push_session.ensures.low);
      left =
          let size = ap (λ o. length (members_in o)) found in
          let more = (members-next ss c.loop-s.at seat.session seat.there).0 in
          let a = c.loop-s.invariant.left in
          let b = c.push_session.ensures.left in
          omega (arith, size, more, a, b);
    }

pub returns-clause-told : goal.returns-clause-told
returns-clause-told g c r same =
    let ss = c.args.sessions.now.sessions in
    let all = no-seat ss c.loop-s.at c.session_at.result c.session_at.ensures.value c.in_default.not-Some in
    c.loop-s.invariant.told r ∙ ap (λ xs. c.args.journal.now.events ++ flat_map (member_lines (control_seen (g.P.Plant.state c.args.plant.now) c.args.config.now r) c.args.line c.args.lss.0) (filter (has_subsystem c.args.lss.0) xs)) (take_all c.loop-s.at ss all ∙ sym same)

pub returns-clause-left : goal.returns-clause-left
returns-clause-left g c =
    let ss = c.args.sessions.now.sessions in
    let all = no-seat ss c.loop-s.at c.session_at.result c.session_at.ensures.value c.in_default.not-Some in
    subst (λ xs. c.args.journal.now.spare ≤ c.loop-s.journal.spare + length (members_of xs)) (take_all c.loop-s.at ss all) c.loop-s.invariant.left
