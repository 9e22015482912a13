use Rattle.std.proofs.Common.{◌≡◌, true, sym, subst}
use Rattle.std.specs.Result.{IfOk}
use Rattle.dr_model.specs.Layout.{Fields}
use Rattle.dr_model.specs.Pairs.{is_cascaded, is_metro}
use Rattle.dr_volume.specs.View.{volume_seen}
use Rattle.dr_gcopy.specs.Sending.{MayPair}
use Rattle.dr_metro.specs.Mirroring.{Mirrors}
use Rattle.dr_metro.specs.declared.sync.WriteEnd.TheVariants.{Landed}
use Rattle.dr_cascade.proofs.writing.cascade_write.Goals as goal

pub cascade_write_by-requires-clause-due : goal.cascade_write_by-requires-clause-due
cascade_write_by-requires-clause-due g c = let q = c.requires in record { at = record { rest = q.rest; fit = q.fit }; told = q.told; defined = q.defined; within = q.within; fits = q.fits; found = q.found }

pub cascade_write_by-requires-clause-metro : goal.cascade_write_by-requires-clause-metro
cascade_write_by-requires-clause-metro g c = subst (λ (f : Fields). is_metro f.primary ≡ true) (sym c.peek_fields-fields.ensures.fields) c.requires.metro

pub cascade_write_by-requires-clause-cascaded : goal.cascade_write_by-requires-clause-cascaded
cascade_write_by-requires-clause-cascaded g c =
    subst (λ (f : Fields). is_cascaded (volume_seen (g.P.Plant.state c.args.plant.now) c.args.config.now f.primary_partner).fields ≡ true) (sym c.peek_fields-fields.ensures.fields) c.requires.cascaded

pub cascade_write_by-requires-clause-pair : goal.cascade_write_by-requires-clause-pair
cascade_write_by-requires-clause-pair g c =
    subst (λ (f : Fields). MayPair (g.P.Plant.state c.args.plant.now) c.args.config.now c.args.w.now.volume.0 f.primary_partner) (sym c.peek_fields-fields.ensures.fields) c.requires.pair

pub cascade_write_by-requires-clause-next : goal.cascade_write_by-requires-clause-next
cascade_write_by-requires-clause-next g c =
    let s = g.P.Plant.state c.args.plant.now in
    let t = c.args.config.now in
    subst (λ (f : Fields). MayPair s t f.primary_partner (volume_seen s t f.primary_partner).fields.primary_partner) (sym c.peek_fields-fields.ensures.fields) c.requires.next

pub returns-clause-mirrors : goal.returns-clause-mirrors
returns-clause-mirrors g c =
    let w = c.args.w.now in
    subst (λ (f : Fields). IfOk c.cascade_write_by.result (λ e. e ≡ Landed → Mirrors (g.P.Plant.state c.cascade_write_by.new.plant) c.args.config.now w.volume.0 f.primary_partner w.track)) c.peek_fields-fields.ensures.fields c.cascade_write_by.ensures.mirrors
