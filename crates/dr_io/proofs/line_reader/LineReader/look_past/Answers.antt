use Rattle.std.proofs.Common.{ap, sym, ◌∙◌, arith, [], refl, append-nil}
use Rattle.std.proofs.lemmas.List.{nil_from_length}
use Rattle.dr_io.specs.Lines.{Progress}
use Rattle.dr_io.proofs.ReadingSteps.{reads-many, reads-beyond, some_bytes, none_left}
use Rattle.dr_io.proofs.line_reader.LineReader.look_past.Goals as goal

pub returns-then-not-is_empty-clause-reads : goal.returns-then-not-is_empty-clause-reads
returns-then-not-is_empty-clause-reads g c =
    let is = c.self.view_is in
    let going = ap (λ (p : Progress). p.over) c.self.view_is ∙ c.requires.going in
    let same = ap (λ (p : Progress). p.taken) c.self.view_is in
    reads-many g.S.Source.left g.S.Source.faults c.args.source.now c.args.source.now c.args.self.now c.self.inside.ahead c.self.inside.kept [] c.self.inside.taken c.self.inside.given
    (ap (λ (p : Progress). p.given) is) c.requires.full (some_bytes c.self.inside.ahead c.if-not-is_empty.ensures) c.self.invariant.0 (c.self.invariant.3 going)
    (λ told h. (told, h, refl)) (omega (arith, same)) (append-nil c.args.self.now.ahead ∙ sym (ap (λ (p : Progress). p.ahead) is)) refl

pub returns-clause-reads : goal.returns-clause-reads
returns-clause-reads g c =
    let is = c.self.view_is in
    let going = ap (λ (p : Progress). p.over) c.self.view_is ∙ c.requires.going in
    reads-beyond g.S.Source.left g.S.Source.faults c.args.source.now c.fill.new.source c.args.self.now c.fill.new.self c.self.inside.kept c.self.inside.taken c.self.inside.given
    c.room_after.result c.in-Ok.n (sym (ap (λ (p : Progress). p.ahead) is) ∙ nil_from_length c.self.inside.ahead (none_left c.self.inside.ahead c.if-not-is_empty.ensures))
    (ap (λ (p : Progress). p.taken) is) (ap (λ (p : Progress). p.given) is) c.requires.full (c.self.invariant.3 going) c.room_after.ensures.piece
    c.room_after.ensures.within c.room_after.ensures.alone c.if-n-eq0.false c.in-Ok.ensures
