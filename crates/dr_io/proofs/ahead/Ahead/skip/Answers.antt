use Rattle.std.proofs.Common.{ap, ◌∙◌, drop, length, ◌≤◌, subst, sym}
use Rattle.dr_io.proofs.ReadingLemmas.{dropped, take_within}
use Rattle.dr_io.proofs.ahead.Ahead.skip.Goals as goal

pub returns : goal.returns
returns c =
    let a = c.self.inside in
    let within = subst (λ l. c.args.n ≤ length l) (sym c.self.view_is) c.requires in
    dropped a.bytes a.start a.end c.args.n (take_within _ _ _ within) ∙ ap (drop c.args.n) c.self.view_is
