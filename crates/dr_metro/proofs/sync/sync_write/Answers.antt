use Rattle.std.proofs.Common.{◌≡◌, true, false, sym, subst}
use Rattle.std.specs.Result.{IfOk}
use Rattle.dr_model.specs.Layout.{Fields, is_part}
use Rattle.std.proofs.lemmas.Bool.{and_parts}
use Rattle.dr_model.specs.Pairs.{is_metro, is_cascaded}
use Rattle.dr_volume.specs.Plain.{plain}
use Rattle.dr_volume.specs.View.{volume_seen}
use Rattle.dr_metro.specs.declared.sync.WriteEnd.TheVariants.{Landed}
use Rattle.dr_gcopy.specs.Sending.{MayPair}
use Rattle.dr_metro.specs.Mirroring.{Mirrors}
use Rattle.dr_metro.proofs.sync.sync_write.Goals as goal

pub sync_write_by-requires-clause-due : goal.sync_write_by-requires-clause-due
sync_write_by-requires-clause-due g c = let q = c.requires in record { at = record { rest = q.rest; fit = q.fit }; told = q.told; defined = q.defined; within = q.within; fits = q.fits; found = q.found }

pub sync_write_by-requires-clause-pair : goal.sync_write_by-requires-clause-pair
sync_write_by-requires-clause-pair g c =
    let q = c.requires in
    subst (λ (f : Fields). is_part f.primary ≡ true → MayPair (g.P.Plant.state c.args.plant.now) c.args.config.now c.args.w.now.volume.0 f.primary_partner) (sym c.peek_fields-fields.ensures.fields)
    (λ part. record { to = q.to part; two_servers = q.two_servers part; size = q.size part })

pub sync_write_by-requires-clause-uncascaded : goal.sync_write_by-requires-clause-uncascaded
sync_write_by-requires-clause-uncascaded g c = λ goes.
    let s = g.P.Plant.state c.args.plant.now in
    let t = c.args.config.now in
    let f = plain c.peek_fields-fields.result in
    subst (λ (f : Fields). is_metro f.primary ≡ true → is_cascaded (volume_seen s t f.primary_partner).fields ≡ false) (sym c.peek_fields-fields.ensures.fields) c.requires.uncascaded ((and_parts (is_metro f.primary) _ goes).0)

pub returns-clause-mirrors : goal.returns-clause-mirrors
returns-clause-mirrors g c =
    let m = g.P.Plant.state c.sync_write_by.new.plant in
    let w = c.args.w.now in
    subst (λ (f : Fields). is_metro f.primary ≡ true → IfOk c.sync_write_by.result (λ e. e ≡ Landed → Mirrors m c.args.config.now w.volume.0 f.primary_partner w.track)) c.peek_fields-fields.ensures.fields c.sync_write_by.ensures.mirrors
