use Rattle.std.proofs.Common.{ap, sym, ◌∙◌, ◌&&◌, nat_eq, None, Some}
use Rattle.dr_ids.specs.declared.refusal.Refusal.{Refusal}
use Rattle.dr_model.specs.declared.state.Part.TheVariants.{Global}
use Rattle.dr_model.specs.Entries.{pair_state}
use Rattle.dr_model.specs.Layout.{is_part}
use Rattle.dr_model.specs.Pairs.{is_kind, is_pending}
use Rattle.dr_model.specs.SessionEntries.{may_hold}
use Rattle.dr_volume.specs.declared.head.Head.{Head}
use Rattle.dr_moves.specs.Here.{world_seen}
use Rattle.dr_gcopy.proofs.SendLemmas.{pick-false}
use Rattle.dr_coord.proofs.checks.pair_refusal.Goals as goal

pub returns-then-not-may_hold-clause-refusal : goal.returns-then-not-may_hold-clause-refusal
returns-then-not-may_hold-clause-refusal g c r events =
    ap (λ (x : Refusal). Some x) (c.pair_state.ensures.refusal r events)
    ∙ pick-false (may_hold c.args.a.0 c.args.b.0 (world_seen (g.P.Plant.state c.args.plant.now) c.args.config.now r events).control) None (Some (pair_state (world_seen (g.P.Plant.state c.args.plant.now) c.args.config.now r events).control c.args.a.0))
    (ap (λ (f : Head). (is_part f.primary && nat_eq f.primary_partner.0 c.args.b.0) && (is_kind Global f.primary && is_pending f.primary_state)) (sym c.requires.head) ∙ sym c.if-not-may_hold.ensures)
