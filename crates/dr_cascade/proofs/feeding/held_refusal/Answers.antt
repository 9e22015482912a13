use Rattle.std.proofs.Common.{◌≡◌, true, false, ◌&&◌, cond, ap, sym, ◌∙◌, None, Some}
use Rattle.dr_ids.specs.declared.refusal.Refusal.TheVariants.{Held}
use Rattle.dr_model.specs.Pairs.{holds_back}
use Rattle.dr_volume.specs.declared.head.Head.{Head}
use Rattle.dr_volume.specs.View.{volume_seen}
use Rattle.dr_cascade.proofs.feeding.held_refusal.Goals as goal

pub returns-then-peek_head-clause-refusal : goal.returns-then-peek_head-clause-refusal
returns-then-peek_head-clause-refusal g c r events =
    let f = (volume_seen (g.P.Plant.state c.args.plant.now) c.args.config.now c.args.b.0).fields in
    let held : holds_back f ≡ true = (λ i. c.requires.cascaded i && (ap (λ (h : Head). h.coordination) (sym c.peek_head.ensures) ∙ c.if-peek_head.true) i) in
    sym (ap (λ b. cond b (Some (Held c.args.b)) None) held)

pub returns-clause-refusal : goal.returns-clause-refusal
returns-clause-refusal g c r events =
    let f = (volume_seen (g.P.Plant.state c.args.plant.now) c.args.config.now c.args.b.0).fields in
    let free : holds_back f ≡ false = (λ i. c.requires.cascaded i && (ap (λ (h : Head). h.coordination) (sym c.peek_head.ensures) ∙ c.if-peek_head.false) i) in
    sym (ap (λ b. cond b (Some (Held c.args.b)) None) free)
