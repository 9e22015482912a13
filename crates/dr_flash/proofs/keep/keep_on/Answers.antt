use Rattle.std.proofs.Common.{false, ap}
use Rattle.dr_volume.specs.declared.head.Relation.{Relation}
use Rattle.dr_model.specs.Entries as entries
use Rattle.dr_moves.specs.Here.{world_seen}
use Rattle.dr_moves.proofs.EntryLemmas.{skips}
use Rattle.dr_flash.proofs.KeepLemmas.{passes-by}
use Rattle.dr_flash.proofs.HeadLemmas.{kept-head, relation-there}
use Rattle.dr_flash.proofs.keep.keep_on.Goals as goal

pub returns-then-not-is_kept_for-clause-advances : goal.returns-then-not-is_kept_for-clause-advances
returns-then-not-is_kept_for-clause-advances g c r =
    let s = g.P.Plant.state c.args.plant.now in
    let t = c.args.config.now in
    skips (world_seen s t r c.args.journal.now.events) (entries.keep_on c.args.v.0 c.args.t c.args.u.0)
    (passes-by s t r c.args.journal.now.events c.args.v.0 c.args.t c.args.u.0 (kept-head s t c.args.v.0 c.args.u.0 c.args.place _ _ false c.requires.at c.peek_relation_at-found.ensures c.is_kept_for.ensures c.if-not-is_kept_for.true))

pub keep_target-requires-clause-recorded : goal.keep_target-requires-clause-recorded
keep_target-requires-clause-recorded g c =
    ap (λ (h : Relation). h.recorded) (relation-there (g.P.Plant.state c.args.plant.now) c.args.config.now c.args.u.0 c.args.place _ c.requires.at c.peek_relation_at-found.ensures)
