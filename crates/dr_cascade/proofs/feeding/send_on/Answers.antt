use Rattle.std.proofs.Common.{◌≡◌, ◌+◌, arith, ap, sym, ◌∙◌, refl}
use Rattle.dr_model.specs.Layout.{Fields}
use Rattle.dr_model.specs.Pairs as pairs
use Rattle.dr_volume.specs.View.{ids_of}
use Rattle.dr_moves.specs.Here.{world_seen}
use Rattle.dr_gcopy.proofs.CollideLemmas.{apart-leads}
use Rattle.dr_cascade.proofs.feeding.send_on.Goals as goal

pub returns-then-not-collides-clause-ran : goal.returns-then-not-collides-clause-ran
returns-then-not-collides-clause-ran g c =
    let s = g.P.Plant.state c.args.plant.now in
    let t = c.args.config.now in
    let apart = ap (λ (f : Fields). pairs.collides f c.args.t) (sym c.requires.shows.fields) ∙ sym c.collides.ensures ∙ c.if-not-collides.true in
    record {
      leads = λ r. apart-leads (ids_of t.volumes) c.args.b.0 c.args.fields.now.primary_partner.0 c.args.t (world_seen s t r c.args.journal.now.events) apart;
      fails = tt;
      stays = record { at = c.requires.at; unarmed = λ q none. none; faults = refl; others = λ q apart. record { volume = refl; tracks = refl; saved = refl }; on = refl; room = omega arith; left = omega arith; spare = refl };
    }

pub returns-then-not-collides-clause-parts : goal.returns-then-not-collides-clause-parts
returns-then-not-collides-clause-parts g c q = record { primary = refl; primary_partner = refl; secondary = refl; secondary_partner = refl }

pub send_old-requires-clause-collides : goal.send_old-requires-clause-collides
send_old-requires-clause-collides g c = ap (λ (f : Fields). pairs.collides f c.args.t) (sym c.requires.shows.fields) ∙ sym c.collides.ensures ∙ c.if-not-collides.false
