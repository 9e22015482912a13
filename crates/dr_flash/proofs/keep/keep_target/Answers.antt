use Rattle.std.proofs.Common.{◌≡◌, Bool, true, false, not, ◌&&◌, ap, sym, ◌∙◌}
use Rattle.std.specs.FinSet.{contains}
use Rattle.std.proofs.lemmas.Bool.{and_parts}
use Rattle.dr_model.specs.Layout.{Fields}
use Rattle.dr_model.specs.Moves.{Keep, Note}
use Rattle.dr_volume.specs.View.{volume_seen}
use Rattle.dr_moves.proofs.TurnLemmas.{ok-along}
use Rattle.dr_flash.proofs.KeepLemmas.{keeps-new, keeps-noted, passes-held, kept-nothing, kept-by}
use Rattle.dr_flash.proofs.keep.keep_target.Goals as goal

pub returns-then-is_done : goal.returns-then-is_done
returns-then-is_done g c =
    let s = g.P.Plant.state c.args.plant.now in
    let t = c.args.config.now in
    let v = c.args.v.0 in
    let k = c.args.t in
    let q = c.args.u.0 in
    let both = and_parts (not c.args.recorded) (contains (volume_seen s t q).fields.own k) (sym c.is_done.ensures ∙ c.if-is_done.true) in
    let old = unrecorded c.args.recorded (volume_seen s t q).fields.recorded (not (contains (volume_seen s t q).fields.source_changes k)) both.0 c.requires.recorded in
    record { kept_on = kept-nothing s t c.args.journal.now v k q c.requires.at (λ r. passes-held s t r c.args.journal.now.events v k q c.requires.kept both.1 old) (λ is related. both.1) }
  where
    unrecorded : (b r x : Bool) → not b ≡ true → b ≡ r → (r && x) ≡ false
    unrecorded true r x clear is = absurd cc
    unrecorded false r x clear is = ap (λ y. y && x) (sym is)

pub returns-then-not-contains : goal.returns-then-not-contains
returns-then-not-contains g c =
    let s = g.P.Plant.state c.args.plant.now in
    let t = c.args.config.now in
    let v = c.args.v.0 in
    let k = c.args.t in
    let q = c.args.u.0 in
    let shows = c.peek_fields-fields.ensures.fields in
    let new : contains (volume_seen s t q).fields.own k ≡ false = ap (λ (f : Fields). contains f.own k) (sym shows) ∙ sym c.contains.ensures.found ∙ c.if-not-contains.true in
    record {
      kept_on = kept-by s (g.P.Plant.state c.take.new.plant) t c.args.journal.now c.take.new.journal v k q (Keep q k) c.requires.at.fit c.requires.kept (λ r. keeps-new s t r c.args.journal.now.events v k q c.requires.kept new) c.take.result c.take.ensures.unseen c.take.ensures.held;
    }

pub returns-then-is_news : goal.returns-then-is_news
returns-then-is_news g c =
    let s = g.P.Plant.state c.args.plant.now in
    let t = c.args.config.now in
    let v = c.args.v.0 in
    let k = c.args.t in
    let q = c.args.u.0 in
    let shows = c.peek_fields-fields.ensures.fields in
    let held : contains (volume_seen s t q).fields.own k ≡ true = ap (λ (f : Fields). contains f.own k) (sym shows) ∙ sym c.contains.ensures.found ∙ c.if-not-contains.false in
    let news = ap (λ (f : Fields). f.recorded && not (contains f.source_changes k)) (sym shows) ∙ sym c.is_news.ensures ∙ c.if-is_news.true in
    record {
      kept_on = kept-by s (g.P.Plant.state c.note.new.plant) t c.args.journal.now c.note.new.journal v k q (Note q k) c.requires.at.fit c.requires.kept (λ r. keeps-noted s t r c.args.journal.now.events v k q c.requires.kept held news) c.note.result c.note.ensures.unseen
          (ok-along c.note.result c.note.ensures.held (λ same related. same ∙ held));
    }

pub returns : goal.returns
returns g c =
    let s = g.P.Plant.state c.args.plant.now in
    let t = c.args.config.now in
    let v = c.args.v.0 in
    let k = c.args.t in
    let q = c.args.u.0 in
    let shows = c.peek_fields-fields.ensures.fields in
    let held : contains (volume_seen s t q).fields.own k ≡ true = ap (λ (f : Fields). contains f.own k) (sym shows) ∙ sym c.contains.ensures.found ∙ c.if-not-contains.false in
    let old = ap (λ (f : Fields). f.recorded && not (contains f.source_changes k)) (sym shows) ∙ sym c.is_news.ensures ∙ c.if-is_news.false in
    record { kept_on = kept-nothing s t c.args.journal.now v k q c.requires.at (λ r. passes-held s t r c.args.journal.now.events v k q c.requires.kept held old) (λ is related. held) }
