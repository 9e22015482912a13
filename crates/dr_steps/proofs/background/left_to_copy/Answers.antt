use Rattle.std.proofs.Common.{arith, ap, ◌≡◌, ◌∙◌}
use Rattle.std.specs.FinSet.{len}
use Rattle.dr_model.specs.Relations.{rest}
use Rattle.dr_facts.proofs.Sets.{rest_low}
use Rattle.dr_laws_sound.proofs.Spends.{len-low}
use Rattle.dr_steps.proofs.background.left_to_copy.Goals as goal

pub returns-then-f-clause-few : goal.returns-then-f-clause-few
returns-then-f-clause-few c =
    let le = len-low c.args.n c.args.f.now.own c.requires.lawful.sets.own_low in
    let e = c.len.ensures in let most = c.requires.most in
    omega (arith, le, e, most)

pub returns-else-f-clause-few : goal.returns-else-f-clause-few
returns-else-f-clause-few c =
    let le = len-low c.args.n (rest c.args.n c.args.f.now.own) (rest_low c.args.n c.args.f.now.own) in
    let e : c.len-else-f.result ≡ len (rest c.args.n c.args.f.now.own) = c.len-else-f.ensures ∙ ap len c.rest.ensures in let most = c.requires.most in
    omega (arith, le, e, most)
