use Rattle.std.proofs.Common.{◌≡◌, ◌+◌, ◌++◌, ◌∷◌, [], ◌∙◌, ap, sym, arith, append_assoc}
use Rattle.std.proofs.lemmas.List.FromFn.{map-range_with_len_more}
use Rattle.dr_sweep.specs.Parts.{server_parts}
use Rattle.dr_sweep.specs.declared.parts.Part.{Part}
use Rattle.dr_sweep.specs.declared.parts.Part.TheVariants.{Within}
use Rattle.dr_sweep.proofs.parts.push_servers.Goals as goal

pub loop-server-preserved : goal.loop-server-preserved
loop-server-preserved c =
    let old = c.args.parts.now.items in
    let n = c.loop-server.server in
    let part : Part = Within c.args.disaster c.args.place n in
    let same : 0 + n ≡ n = omega arith in
    c.in_ok-push.ensures.items
    ∙ ap (λ xs. xs ++ part ∷ []) c.loop-server.invariant
    ∙ append_assoc old (server_parts c.args.disaster c.args.place n) (part ∷ [])
    ∙ ap (λ xs. old ++ xs) (sym (map-range_with_len_more (λ server. Within c.args.disaster c.args.place server) 0 n n same))
