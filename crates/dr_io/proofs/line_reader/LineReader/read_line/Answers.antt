use Rattle.std.proofs.Common.{◌+◌, ap, ◌∙◌, arith}
use Rattle.std.proofs.lemmas.List.{nil_from_length}
use Rattle.dr_io.specs.Lines.{Progress, most_bytes}
use Rattle.dr_io.proofs.ReadingSteps.{along-begin, along-keeps, along-fills, reads-line, reads-last, reads-past, reads-fault, some_bytes, one_past}
use Rattle.dr_io.proofs.line_reader.LineReader.read_line.Goals as goal

pub loop-self-init : goal.loop-self-init
loop-self-init g c = record {
  along = along-begin g.S.Source.left g.S.Source.faults c.args.source.now c.args.self.now c.self.inside.ahead c.clear.new.self c.self.inside.taken
      (ap (λ (p : Progress). p.ahead) c.self.view_is) c.clear.ensures (ap (λ (p : Progress). p.taken) c.self.view_is);
  within = c.self.invariant.3 (ap (λ (p : Progress). p.over) c.self.view_is ∙ c.requires.going);
  near = c.self.invariant.0;
  given = ap (λ (p : Progress). p.given) c.self.view_is;
  going = ap (λ (p : Progress). p.over) c.self.view_is ∙ c.requires.going;
}

pub returns-in_default-clause-reads : goal.returns-in_default-clause-reads
returns-in_default-clause-reads g c =
    let i = c.loop-self.invariant in
    let keeps = c.loop-self-test.ensures in
    reads-fault g.S.Source.left g.S.Source.faults c.args.source.now c.loop-self.source c.fill.new.source c.args.self.now c.cut_line.new.ahead c.fill.new.self c.cut_line.new.kept c.cut_line.new.kept
    c.loop-self.self-inside.taken c.loop-self.self-inside.given i.given i.within c.loop-self-test.ensures.rest
    (along-keeps g.S.Source.left g.S.Source.faults c.args.source.now c.loop-self.source c.args.self.now _ _ _ _ _ i.along c.loop-self-test.ensures) c.in_default.ensures

pub returns-then-n-eq0-clause-reads : goal.returns-then-n-eq0-clause-reads
returns-then-n-eq0-clause-reads g c =
    let i = c.loop-self.invariant in
    let none = nil_from_length c.fill.new.self (c.in-Ok.ensures.count ∙ c.if-n-eq0.true) in
    let n = c.if-n-eq0.true in
    let within = c.loop-self.invariant.within in
    reads-last g.S.Source.left g.S.Source.faults c.args.source.now c.fill.new.source c.args.self.now c.fill.new.self c.cut_line.new.kept c.cut.new.self
    (c.loop-self.self-inside.taken + c.in-Ok.n) c.loop-self.self-inside.given i.given c.requires.few (omega (arith, n, within)) none
    (some_bytes c.cut_line.new.kept c.if-is_empty.ensures) c.cut.ensures (c.in-Ok.ensures.ends c.if-n-eq0.true)
    (along-fills g.S.Source.left g.S.Source.faults c.args.source.now c.loop-self.source c.fill.new.source c.args.self.now _ _ _ _ _ _ c.loop-self-test.ensures.rest
    (along-keeps g.S.Source.left g.S.Source.faults c.args.source.now c.loop-self.source c.args.self.now _ _ _ _ _ i.along c.loop-self-test.ensures) c.in-Ok.ensures)

pub returns-then-self-gt-MOST_BYTES-clause-reads : goal.returns-then-self-gt-MOST_BYTES-clause-reads
returns-then-self-gt-MOST_BYTES-clause-reads g c =
    let i = c.loop-self.invariant in
    let past = one_past c.loop-self.self-inside.taken c.room_after.result c.in-Ok.n most_bytes i.within c.room_after.ensures.within c.room_after.ensures.alone c.in-Ok.ensures.fits c.if-self-gt-MOST_BYTES.true in
    reads-past g.S.Source.left g.S.Source.faults c.args.source.now c.fill.new.source c.args.self.now c.fill.new.self c.cut_line.new.kept c.cut_line.new.kept
    (c.loop-self.self-inside.taken + c.in-Ok.n) c.loop-self.self-inside.given i.given (c.in-Ok.ensures.count ∙ past.0) past.1
    (along-fills g.S.Source.left g.S.Source.faults c.args.source.now c.loop-self.source c.fill.new.source c.args.self.now _ _ _ _ _ _ c.loop-self-test.ensures.rest
    (along-keeps g.S.Source.left g.S.Source.faults c.args.source.now c.loop-self.source c.args.self.now _ _ _ _ _ i.along c.loop-self-test.ensures) c.in-Ok.ensures)

pub loop-self-preserved : goal.loop-self-preserved
loop-self-preserved g c =
    let i = c.loop-self.invariant in
    record {
      along = along-fills g.S.Source.left g.S.Source.faults c.args.source.now c.loop-self.source c.fill.new.source c.args.self.now _ _ _ _ _ _ c.loop-self-test.ensures.rest
          (along-keeps g.S.Source.left g.S.Source.faults c.args.source.now c.loop-self.source c.args.self.now _ _ _ _ _ i.along c.loop-self-test.ensures) c.in-Ok.ensures;
      within = (let few = c.if-self-gt-MOST_BYTES.false in omega (arith, few));
      near = (let count = c.in-Ok.ensures.count in let fits = c.in-Ok.ensures.fits in let piece = c.room_after.ensures.piece in omega (arith, count, fits, piece));
      given = i.given;
      going = i.going;
    }

pub returns-clause-reads : goal.returns-clause-reads
returns-clause-reads g c =
    let i = c.loop-self.invariant in
    reads-line g.S.Source.left g.S.Source.faults c.args.source.now c.loop-self.source c.args.self.now c.loop-self.self-inside.ahead c.loop-self.self-inside.kept c.cut_line.new.ahead c.cut_line.new.kept
    c.loop-self.self-inside.taken c.loop-self.self-inside.given c.loop-self.self-inside.over i.given i.going c.requires.few i.within i.along c.loop-self-test.ensures
