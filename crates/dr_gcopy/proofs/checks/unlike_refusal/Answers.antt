use Rattle.std.proofs.Common.{ap, refl, ◌∙◌, not, nat_eq, Some}
use Rattle.dr_ids.specs.declared.refusal.Which.TheVariants.{Size, Server as OneServer}
use Rattle.dr_model.specs.Entries.{share_size}
use Rattle.dr_model.specs.PairEntries.{two_servers}
use Rattle.dr_model.specs.Refusals.{over}
use Rattle.dr_moves.specs.Here.{world_seen}
use Rattle.dr_facts.proofs.Ends.{ends-passed}
use Rattle.dr_moves.proofs.EntryLemmas.{refuses}
use Rattle.dr_flash.proofs.CheckLemmas.{same-test, differ-test}
use Rattle.dr_gcopy.proofs.checks.unlike_refusal.Goals as goal

pub returns-then-server_of-clause-checked : goal.returns-then-server_of-clause-checked
returns-then-server_of-clause-checked c x r events armed ds =
    refuses armed (world_seen x c.args.config.now r events) (two_servers c.args.a.0 c.args.b.0) (over OneServer) (Some (over OneServer)) _ (ap not ((λ i. nat_eq (c.server_of.ensures.seen x i) (c.server_of-2.ensures.seen x i)) ∙ same-test _ _ c.if-server_of.true)) (refl)

pub returns-then-tracks_of-clause-checked : goal.returns-then-tracks_of-clause-checked
returns-then-tracks_of-clause-checked c x r events armed ds =
    ends-passed armed (world_seen x c.args.config.now r events) (Some (over Size)) (world_seen x c.args.config.now r events) (two_servers c.args.a.0 c.args.b.0) (over OneServer) _ (ap not ((λ i. nat_eq (c.server_of.ensures.seen x i) (c.server_of-2.ensures.seen x i)) ∙ differ-test _ _ c.if-server_of.false))
    (refuses armed (world_seen x c.args.config.now r events) (share_size c.args.a.0 c.args.b.0) (over Size) (Some (over Size)) _ ((λ i. nat_eq (c.tracks_of.ensures.seen x i) (c.tracks_of-2.ensures.seen x i)) ∙ differ-test _ _ c.if-tracks_of.true) (refl))

pub returns-clause-checked : goal.returns-clause-checked
returns-clause-checked c x r events armed u r' ds more =
    ends-passed armed u r' (world_seen x c.args.config.now r events) (two_servers c.args.a.0 c.args.b.0) (over OneServer) _ (ap not ((λ i. nat_eq (c.server_of.ensures.seen x i) (c.server_of-2.ensures.seen x i)) ∙ differ-test _ _ c.if-server_of.false))
    (ends-passed armed u r' (world_seen x c.args.config.now r events) (share_size c.args.a.0 c.args.b.0) (over Size) _ ((λ i. nat_eq (c.tracks_of.ensures.seen x i) (c.tracks_of-2.ensures.seen x i)) ∙ same-test _ _ c.if-tracks_of.false)
    (more))
