use Rattle.std.proofs.Common.{◌≡◌, ◌+◌, true, false, cond, drop, option_map, Some, sym, ◌∙◌, ap}
use Rattle.std.specs.List.{find}
use Rattle.dr_model.specs.Sessions as model
use Rattle.dr_model.specs.Sessions.{Session}
use Rattle.dr_session.specs.Places.{sessions_in}
use Rattle.dr_session.proofs.PlaceLemmas.{find-from}
use Rattle.dr_session.proofs.places.first_with_copy.Goals as goal

pub returns-then-is_copy : goal.returns-then-is_copy
returns-then-is_copy c =
    let p = model.is_copy c.args.v.0 in
    let es = c.args.table.now.entries in
    let v = c.index-session.result.now in
    let passes : p v.session ≡ true = sym c.is_copy.ensures ∙ c.if-is_copy.true in
    let found : find p (sessions_in es) ≡ Some v.session =
    sym c.loop-i.invariant.rest
    ∙ (find-from p c.loop-i.i es v c.index-session.ensures ∙ ap (λ b. cond b (Some v.session) (find p (sessions_in (drop (c.loop-i.i + 1) es)))) passes) in
    ap (λ n. Some n) c.number.ensures ∙ ap (λ o. option_map (λ (x : Session). x.number) o) (sym found)

pub loop-i-preserved : goal.loop-i-preserved
loop-i-preserved c =
    let p = model.is_copy c.args.v.0 in
    let es = c.args.table.now.entries in
    let v = c.index-session.result.now in
    let fails : p v.session ≡ false = sym c.is_copy.ensures ∙ c.if-is_copy.false in
    record {
      long = c.loop-i.invariant.long;
      rest =
          sym (ap (λ b. cond b (Some v.session) (find p (sessions_in (drop (c.loop-i.i + 1) es)))) fails)
          ∙ (sym (find-from p c.loop-i.i es v c.index-session.ensures) ∙ c.loop-i.invariant.rest);
    }
