use Rattle.std.proofs.Common.{ap, refl, sym, ◌∙◌, not, ◌&&◌, nat_lt, Some}
use Rattle.std.proofs.lemmas.Bool.{lt-ltb, le-ltb}
use Rattle.dr_ids.specs.declared.refusal.Refusal.{Refusal}
use Rattle.dr_ids.specs.declared.refusal.Which.TheVariants.{Targets}
use Rattle.dr_model.specs.Layout.{is_part}
use Rattle.dr_model.specs.Entries.{relation_state, pair_state, is_no_target}
use Rattle.dr_model.specs.PairEntries.{stands_free}
use Rattle.dr_model.specs.Plans.{is_no_source, has_few_targets}
use Rattle.dr_model.specs.Refusals.{over}
use Rattle.dr_volume.specs.declared.head.Head.{Head}
use Rattle.dr_volume.specs.View.{volume_seen}
use Rattle.dr_moves.specs.Here.{world_seen}
use Rattle.dr_flash.specs.Standing.{targets_in}
use Rattle.dr_facts.proofs.Ends.{ends-passed}
use Rattle.dr_moves.proofs.EntryLemmas.{refuses}
use Rattle.dr_flash.proofs.CheckLemmas.{has-targets, has-no_targets, lone-by}
use Rattle.dr_flash.proofs.making.free_refusal.Goals as goal

pub returns-then-target-clause-checked : goal.returns-then-target-clause-checked
returns-then-target-clause-checked g c r events armed ds =
    let s = g.P.Plant.state c.args.plant.now in
    let w = world_seen s c.args.config.now r events in
    let b = c.args.t.0 in
    refuses armed w (is_no_target b) (relation_state w.control b) (Some c.relation_state.result) _ (ap not (ap (λ (h : Head). h.related) (sym c.peek_head-target.ensures) ∙ c.if-target.true)) (ap (λ (x : Refusal). Some x) (c.relation_state.ensures.refusal r events))

pub returns-then-look_at_targets-gt0-clause-checked : goal.returns-then-look_at_targets-gt0-clause-checked
returns-then-look_at_targets-gt0-clause-checked g c r events armed ds =
    let s = g.P.Plant.state c.args.plant.now in
    let w = world_seen s c.args.config.now r events in
    let b = c.args.t.0 in
    let plain = ap (λ (h : Head). h.related) (sym c.peek_head-target.ensures) ∙ c.if-target.false in
    ends-passed armed w (Some c.relation_state-then-look_at_targets-gt0.result) w (is_no_target b) (relation_state w.control b) _ (ap not plain)
    (refuses armed w (is_no_source b) (relation_state w.control b) (Some c.relation_state-then-look_at_targets-gt0.result) _ (has-targets (volume_seen s c.args.config.now b).fields.related _ (targets_in s c.args.config.now b) c.look_at_targets.ensures.count c.if-look_at_targets-gt0.true) (ap (λ (x : Refusal). Some x) (c.relation_state-then-look_at_targets-gt0.ensures.refusal r events)))

pub returns-then-peek_head-clause-checked : goal.returns-then-peek_head-clause-checked
returns-then-peek_head-clause-checked g c r events armed ds =
    let s = g.P.Plant.state c.args.plant.now in
    let w = world_seen s c.args.config.now r events in
    let a = c.args.s.0 in
    let b = c.args.t.0 in
    let plain = ap (λ (h : Head). h.related) (sym c.peek_head-target.ensures) ∙ c.if-target.false in
    let none = has-no_targets (volume_seen s c.args.config.now b).fields.related _ (targets_in s c.args.config.now b) plain c.look_at_targets.ensures.count c.if-look_at_targets-gt0.false in
    ends-passed armed w (Some c.relation_state-then-peek_head.result) w (is_no_target b) (relation_state w.control b) _ (ap not plain)
    (ends-passed armed w (Some c.relation_state-then-peek_head.result) w (is_no_source b) (relation_state w.control b) _ none
    (refuses armed w (is_no_target a) (relation_state w.control a) (Some c.relation_state-then-peek_head.result) _ (ap not (ap (λ (h : Head). h.related) (sym c.peek_head.ensures) ∙ c.if-peek_head.true)) (ap (λ (x : Refusal). Some x) (c.relation_state-then-peek_head.ensures.refusal r events))))

pub returns-then-not-is_unpaired-clause-checked : goal.returns-then-not-is_unpaired-clause-checked
returns-then-not-is_unpaired-clause-checked g c r events armed ds =
    let s = g.P.Plant.state c.args.plant.now in
    let w = world_seen s c.args.config.now r events in
    let a = c.args.s.0 in
    let b = c.args.t.0 in
    let plain = ap (λ (h : Head). h.related) (sym c.peek_head-target.ensures) ∙ c.if-target.false in
    let none = has-no_targets (volume_seen s c.args.config.now b).fields.related _ (targets_in s c.args.config.now b) plain c.look_at_targets.ensures.count c.if-look_at_targets-gt0.false in
    let source = ap (λ (h : Head). h.related) (sym c.peek_head.ensures) ∙ c.if-peek_head.false in
    ends-passed armed w (Some c.pair_state.result) w (is_no_target b) (relation_state w.control b) _ (ap not plain)
    (ends-passed armed w (Some c.pair_state.result) w (is_no_source b) (relation_state w.control b) _ none
    (ends-passed armed w (Some c.pair_state.result) w (is_no_target a) (relation_state w.control a) _ (ap not source)
    (refuses armed w (stands_free b) (pair_state w.control b) (Some c.pair_state.result) _ (ap (λ (h : Head). not (is_part h.primary) && not (is_part h.secondary)) (sym c.peek_head-target.ensures) ∙ sym c.is_unpaired.ensures ∙ c.if-not-is_unpaired.true) (ap (λ (x : Refusal). Some x) (c.pair_state.ensures.refusal r events)))))

pub returns-then-look_at_targets-ge-MOST_TARGETS-clause-checked : goal.returns-then-look_at_targets-ge-MOST_TARGETS-clause-checked
returns-then-look_at_targets-ge-MOST_TARGETS-clause-checked g c r events armed ds =
    let s = g.P.Plant.state c.args.plant.now in
    let w = world_seen s c.args.config.now r events in
    let a = c.args.s.0 in
    let b = c.args.t.0 in
    let plain = ap (λ (h : Head). h.related) (sym c.peek_head-target.ensures) ∙ c.if-target.false in
    let none = has-no_targets (volume_seen s c.args.config.now b).fields.related _ (targets_in s c.args.config.now b) plain c.look_at_targets.ensures.count c.if-look_at_targets-gt0.false in
    let source = ap (λ (h : Head). h.related) (sym c.peek_head.ensures) ∙ c.if-peek_head.false in
    let free = ap (λ (h : Head). not (is_part h.primary) && not (is_part h.secondary)) (sym c.peek_head-target.ensures) ∙ sym c.is_unpaired.ensures ∙ c.if-not-is_unpaired.false in
    ends-passed armed w (Some (over Targets)) w (is_no_target b) (relation_state w.control b) _ (ap not plain)
    (ends-passed armed w (Some (over Targets)) w (is_no_source b) (relation_state w.control b) _ none
    (ends-passed armed w (Some (over Targets)) w (is_no_target a) (relation_state w.control a) _ (ap not source)
    (ends-passed armed w (Some (over Targets)) w (stands_free b) (pair_state w.control b) _ free
    (refuses armed w (has_few_targets a) (over Targets) (Some (over Targets)) _ (ap (λ n. nat_lt n 12) (sym c.look_at_targets-2.ensures.count) ∙ le-ltb _ 12 c.if-look_at_targets-ge-MOST_TARGETS.true) refl))))

pub returns-clause-checked : goal.returns-clause-checked
returns-clause-checked g c r events armed u r' ds more =
    let s = g.P.Plant.state c.args.plant.now in
    let w = world_seen s c.args.config.now r events in
    let a = c.args.s.0 in
    let b = c.args.t.0 in
    let plain = ap (λ (h : Head). h.related) (sym c.peek_head-target.ensures) ∙ c.if-target.false in
    let none = has-no_targets (volume_seen s c.args.config.now b).fields.related _ (targets_in s c.args.config.now b) plain c.look_at_targets.ensures.count c.if-look_at_targets-gt0.false in
    let source = ap (λ (h : Head). h.related) (sym c.peek_head.ensures) ∙ c.if-peek_head.false in
    let free = ap (λ (h : Head). not (is_part h.primary) && not (is_part h.secondary)) (sym c.peek_head-target.ensures) ∙ sym c.is_unpaired.ensures ∙ c.if-not-is_unpaired.false in
    ends-passed armed u r' w (is_no_target b) (relation_state w.control b) _ (ap not plain)
    (ends-passed armed u r' w (is_no_source b) (relation_state w.control b) _ none
    (ends-passed armed u r' w (is_no_target a) (relation_state w.control a) _ (ap not source)
    (ends-passed armed u r' w (stands_free b) (pair_state w.control b) _ free
    (ends-passed armed u r' w (has_few_targets a) (over Targets) _ (ap (λ n. nat_lt n 12) (sym c.look_at_targets-2.ensures.count) ∙ lt-ltb _ 12 c.if-look_at_targets-ge-MOST_TARGETS.false) more))))

pub returns-clause-lone : goal.returns-clause-lone
returns-clause-lone g c u related = lone-by (g.P.Plant.state c.args.plant.now) c.args.config.now c.args.t.0 c.look_at_targets.result.count c.look_at_targets.ensures.count c.if-look_at_targets-gt0.false u related
