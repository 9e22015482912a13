use Rattle.std.proofs.Common.{ap, sym, subst, ◌∙◌, ◌≡◌, false, take, Some, option_map}
use Rattle.std.specs.Prelude.{◌==◌}
use Rattle.std.specs.List.{list_any}
use Rattle.dr_model.specs.Sessions.{Session, session_in}
use Rattle.dr_session.proofs.PlaceLemmas.{seat-in, own-in, first-in}
use Rattle.dr_session.proofs.table.Sessions.session_at.Goals as goal

pub returns-clause-value : goal.returns-clause-value
returns-clause-value c =
    ap Some c.number.ensures ∙ sym (ap (option_map (λ (x : Session). x.number)) (seat-in c.self.inside.table.entries c.args.self.now c.args.i c.index.result.now c.self.view_is c.index.ensures))

pub returns-clause-found : goal.returns-clause-found
returns-clause-found c =
    ap (session_in c.args.self.now.sessions) c.number.ensures ∙ own-in c.self.inside.table.entries c.args.self.now c.args.i c.index.result.now c.self.view_is c.self.invariant c.len.ensures.unique c.index.ensures

pub returns-clause-first : goal.returns-clause-first
returns-clause-first c =
    subst (λ n. list_any (λ (x : Session). x.number == n) (take c.args.i c.args.self.now.sessions) ≡ false) (sym c.number.ensures)
    (first-in c.self.inside.table.entries c.args.self.now c.args.i c.index.result.now c.self.view_is c.self.invariant c.len.ensures.unique c.index.ensures)
