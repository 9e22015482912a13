use Rattle.std.proofs.Common.{◌++◌, length, ap, ◌∙◌, sym, refl}
use Rattle.std.proofs.lemmas.List.{nil_from_length}
use Rattle.dr_io.specs.Pieces.{PieceProgress}
use Rattle.dr_io.proofs.AmountLemmas.{is_within, is_past, added, some_more, one_past_at_most}
use Rattle.dr_io.proofs.piece_reader.PieceReader.take_piece.Goals as goal

pub returns-in_default-clause-takes : goal.returns-in_default-clause-takes
returns-in_default-clause-takes g c = λ text has.
    let going = ap (λ (p : PieceProgress). p.over) c.self.view_is ∙ c.requires in
    let same = ap (λ (p : PieceProgress). p.amount) c.self.view_is ∙ has in
    record {
      none = c.in_default.ensures.none;
      within = is_within c.self.inside.limits c.self.inside.amount text same (c.self.invariant.2 going);
      rose = c.in_default.ensures.rose;
      over = refl;
    }

pub returns-then-n-eq0-clause-takes : goal.returns-then-n-eq0-clause-takes
returns-then-n-eq0-clause-takes g c = λ text has.
    let going = ap (λ (p : PieceProgress). p.over) c.self.view_is ∙ c.requires in
    let same = ap (λ (p : PieceProgress). p.amount) c.self.view_is ∙ has in
    record {
      none = nil_from_length c.fill.new.self (c.in-Ok.ensures.count ∙ c.if-n-eq0.true);
      nothing_left = c.in-Ok.ensures.ends c.if-n-eq0.true;
      within = is_within c.self.inside.limits c.self.inside.amount text same (c.self.invariant.2 going);
      kept = c.in-Ok.ensures.steady;
      over = refl;
    }

pub returns-then-exceeds-clause-counts : goal.returns-then-exceeds-clause-counts
returns-then-exceeds-clause-counts g c = λ text has.
    let same = ap (λ (p : PieceProgress). p.amount) c.self.view_is ∙ has in
    added c.self.inside.amount c.add.new.self text c.fill.new.self c.bytes.result.now same c.bytes.ensures c.add.ensures

pub returns-then-exceeds-clause-takes : goal.returns-then-exceeds-clause-takes
returns-then-exceeds-clause-takes g c = λ text has.
    let going = ap (λ (p : PieceProgress). p.over) c.self.view_is ∙ c.requires in
    let same = ap (λ (p : PieceProgress). p.amount) c.self.view_is ∙ has in
    let all = added c.self.inside.amount c.add.new.self text c.fill.new.self c.bytes.result.now same c.bytes.ensures c.add.ensures in
    record {
      within = is_within c.self.inside.limits c.self.inside.amount text same (c.self.invariant.2 going);
      past = is_past c.self.inside.limits c.add.new.self (text ++ c.fill.new.self) all (sym c.if-exceeds.ensures);
      bytes = one_past_at_most c.self.inside.amount text c.fill.new.self c.self.inside.limits.bytes c.room_after-room.result c.in-Ok.n same c.in-Ok.ensures.count c.in-Ok.ensures.fits c.room_after-room.ensures.within;
      kept = c.in-Ok.ensures.steady;
      over = refl;
    }

pub returns-clause-counts : goal.returns-clause-counts
returns-clause-counts g c = λ text has.
    let same = ap (λ (p : PieceProgress). p.amount) c.self.view_is ∙ has in
    added c.self.inside.amount c.add.new.self text c.fill.new.self c.bytes.result.now same c.bytes.ensures c.add.ensures

pub returns-clause-takes : goal.returns-clause-takes
returns-clause-takes g c = λ text has.
    let going = ap (λ (p : PieceProgress). p.over) c.self.view_is ∙ c.requires in
    let same = ap (λ (p : PieceProgress). p.amount) c.self.view_is ∙ has in
    let all = added c.self.inside.amount c.add.new.self text c.fill.new.self c.bytes.result.now same c.bytes.ensures c.add.ensures in
    record {
      some = some_more c.in-Ok.n (length c.fill.new.self) c.in-Ok.ensures.count c.if-n-eq0.false;
      within = is_within c.self.inside.limits c.add.new.self (text ++ c.fill.new.self) all (sym c.if-exceeds.ensures);
      kept = c.in-Ok.ensures.steady;
      goes_on = going;
    }
