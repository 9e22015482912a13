use Rattle.std.proofs.Common.{◌≤◌, ◌<◌, ◌+◌, ◌^◌, ◌++◌, length, filter, arith, sym, ap, subst, ◌∙◌}
use Rattle.std.specs.List.{flat_map}
use Rattle.std.proofs.lemmas.List.{take_all}
use Rattle.dr_model.specs.Listings.{mirror_lines}
use Rattle.dr_model.specs.Sessions.{Session, has_subsystem}
use Rattle.dr_listing.proofs.TakenLemmas.{told-next, chosen-next}
use Rattle.dr_listing.proofs.SeatLemmas.{seat-at, few-seats, low-next, no-seat}
use Rattle.dr_listing.proofs.masters.mirrors.Goals as goal

pub overflow_add-at : goal.overflow_add-at
overflow_add-at c = record { fits = let few = few-seats c.args.sessions.now.sessions c.loop-s.at c.requires.apart c.loop-s.invariant.within c.loop-s.invariant.low in let more : c.loop-s.at + 1 < 2 ^ 64 = omega (arith, few) in more }

pub loop-s-smaller : goal.loop-s-smaller
loop-s-smaller c =
    let seat = seat-at c.args.sessions.now.sessions c.loop-s.at c.session_at.result c.in-Some.s c.session_at.ensures.value c.in-Some.is in
    let low = seat.below in
    omega (arith, low)

pub loop-s-preserved : goal.loop-s-preserved
loop-s-preserved c =
    let ss = c.args.sessions.now.sessions in
    let seat = seat-at ss c.loop-s.at c.session_at.result c.in-Some.s c.session_at.ensures.value c.in-Some.is in
    record {
      told = told-next c.args.journal.now.events _ _ _ c.loop-s.journal.events c.push.new.journal.events c.loop-s.invariant.told (c.push.ensures.told ∙ ap (λ es. c.loop-s.journal.events ++ es) (c.line_of.ensures.line seat.session (seat.found c.requires.apart) seat.number))
          (chosen-next (λ (x : Session). mirror_lines c.args.line x.number x.mirror) (has_subsystem c.args.lss.0) ss c.loop-s.at seat.session seat.there);
      within = let low = seat.below in omega (arith, low);
      low = low-next ss c.loop-s.at seat.session seat.there c.loop-s.invariant.low (subst (λ n. n < 256) (sym seat.number) c.line_of.ensures.low);
      left = let a = c.loop-s.invariant.left in let b = c.push.ensures.left in omega (arith, a, b);
    }

pub returns-clause-told : goal.returns-clause-told
returns-clause-told c k same =
    let ss = c.args.sessions.now.sessions in
    let all = no-seat ss c.loop-s.at c.session_at.result c.session_at.ensures.value c.in_default.not-Some in
    c.loop-s.invariant.told ∙ ap (λ xs. c.args.journal.now.events ++ flat_map (λ (x : Session). mirror_lines c.args.line x.number x.mirror) (filter (has_subsystem c.args.lss.0) xs)) (take_all c.loop-s.at ss all ∙ sym same)

pub push-requires : goal.push-requires
push-requires c =
    let ss = c.args.sessions.now.sessions in
    let seat = seat-at ss c.loop-s.at c.session_at.result c.in-Some.s c.session_at.ensures.value c.in-Some.is in
    let within : c.loop-s.at + 1 ≤ length ss = (let low = seat.below in omega (arith, low)) in
    let few = few-seats ss (c.loop-s.at + 1) c.requires.apart within (low-next ss c.loop-s.at seat.session seat.there c.loop-s.invariant.low (subst (λ n. n < 256) (sym seat.number) c.line_of.ensures.low)) in
    let left = c.loop-s.invariant.left in
    let room = c.requires.room in
    record { room = omega (arith, few, left, room) }

pub returns-clause-left : goal.returns-clause-left
returns-clause-left c =
    let few = few-seats c.args.sessions.now.sessions c.loop-s.at c.requires.apart c.loop-s.invariant.within c.loop-s.invariant.low in
    let left = c.loop-s.invariant.left in
    omega (arith, few, left)
