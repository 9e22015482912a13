use Rattle.std.proofs.Common.{◌≡◌, ◌+◌, ◌==◌, true, false, cond, drop, Some, sym, ◌∙◌, ap}
use Rattle.std.specs.List.{find}
use Rattle.dr_model.specs.Sessions.{Session}
use Rattle.dr_session.specs.Places.{sessions_in}
use Rattle.dr_session.proofs.PlaceLemmas.{find-from}
use Rattle.dr_session.proofs.places.session_numbered.Goals as goal

pub returns-then-has_number : goal.returns-then-has_number
returns-then-has_number c =
    let p = λ (x : Session). x.number == c.args.s.0 in
    let es = c.args.table.now.entries in
    let v = c.index-session.result.now in
    let passes : p v.session ≡ true = sym c.has_number.ensures ∙ c.if-has_number.true in
    sym
    (sym c.loop-i.invariant.rest
    ∙ (find-from p c.loop-i.i es v c.index-session.ensures ∙ ap (λ b. cond b (Some v.session) (find p (sessions_in (drop (c.loop-i.i + 1) es)))) passes))

pub loop-i-preserved : goal.loop-i-preserved
loop-i-preserved c =
    let p = λ (x : Session). x.number == c.args.s.0 in
    let es = c.args.table.now.entries in
    let v = c.index-session.result.now in
    let fails : p v.session ≡ false = sym c.has_number.ensures ∙ c.if-has_number.false in
    record {
      long = c.loop-i.invariant.long;
      rest =
          sym (ap (λ b. cond b (Some v.session) (find p (sessions_in (drop (c.loop-i.i + 1) es)))) fails)
          ∙ (sym (find-from p c.loop-i.i es v c.index-session.ensures) ∙ c.loop-i.invariant.rest);
    }
