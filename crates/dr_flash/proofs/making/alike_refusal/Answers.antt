use Rattle.std.proofs.Common.{ap, refl, ◌∙◌, not, nat_eq, Some}
use Rattle.dr_ids.specs.declared.refusal.Kind.TheVariants.{Volume as OfVolume}
use Rattle.dr_ids.specs.declared.refusal.Which.TheVariants.{Size, Server as OneServer}
use Rattle.dr_model.specs.Plans.{differ}
use Rattle.dr_model.specs.Entries.{share_server, share_size}
use Rattle.dr_model.specs.Refusals.{duplicate, over}
use Rattle.dr_moves.specs.Here.{world_seen}
use Rattle.dr_facts.proofs.Ends.{ends-passed}
use Rattle.dr_moves.proofs.EntryLemmas.{refuses}
use Rattle.dr_flash.proofs.CheckLemmas.{same-test, differ-test}
use Rattle.dr_flash.proofs.making.alike_refusal.Goals as goal

pub returns-then-s-t-clause-checked : goal.returns-then-s-t-clause-checked
returns-then-s-t-clause-checked c x r events armed ds =
    refuses armed (world_seen x c.args.config.now r events) (differ c.args.s.0 c.args.t.0) (duplicate OfVolume) _ _ (ap not (same-test _ _ c.if-s-t.true)) refl

pub returns-then-server_of-clause-checked : goal.returns-then-server_of-clause-checked
returns-then-server_of-clause-checked c x r events armed ds =
    let w = world_seen x c.args.config.now r events in
    ends-passed armed w (Some (over OneServer)) w (differ c.args.s.0 c.args.t.0) (duplicate OfVolume) _ (ap not (differ-test _ _ c.if-s-t.false))
    (refuses armed w (share_server c.args.s.0 c.args.t.0) (over OneServer) _ _ ((λ i. nat_eq (c.server_of.ensures.seen x i) (c.server_of-2.ensures.seen x i)) ∙ differ-test _ _ c.if-server_of.true) refl)

pub returns-then-tracks_of-clause-checked : goal.returns-then-tracks_of-clause-checked
returns-then-tracks_of-clause-checked c x r events armed ds =
    let w = world_seen x c.args.config.now r events in
    ends-passed armed w (Some (over Size)) w (differ c.args.s.0 c.args.t.0) (duplicate OfVolume) _ (ap not (differ-test _ _ c.if-s-t.false))
    (ends-passed armed w (Some (over Size)) w (share_server c.args.s.0 c.args.t.0) (over OneServer) _ ((λ i. nat_eq (c.server_of.ensures.seen x i) (c.server_of-2.ensures.seen x i)) ∙ same-test _ _ c.if-server_of.false)
    (refuses armed w (share_size c.args.s.0 c.args.t.0) (over Size) _ _ ((λ i. nat_eq (c.tracks_of.ensures.seen x i) (c.tracks_of-2.ensures.seen x i)) ∙ differ-test _ _ c.if-tracks_of.true) refl))

pub returns-clause-checked : goal.returns-clause-checked
returns-clause-checked c x r events armed u r' ds more =
    let w = world_seen x c.args.config.now r events in
    ends-passed armed u r' w (differ c.args.s.0 c.args.t.0) (duplicate OfVolume) _ (ap not (differ-test _ _ c.if-s-t.false))
    (ends-passed armed u r' w (share_server c.args.s.0 c.args.t.0) (over OneServer) _ ((λ i. nat_eq (c.server_of.ensures.seen x i) (c.server_of-2.ensures.seen x i)) ∙ same-test _ _ c.if-server_of.false)
    (ends-passed armed u r' w (share_size c.args.s.0 c.args.t.0) (over Size) _ ((λ i. nat_eq (c.tracks_of.ensures.seen x i) (c.tracks_of-2.ensures.seen x i)) ∙ same-test _ _ c.if-tracks_of.false) more))
