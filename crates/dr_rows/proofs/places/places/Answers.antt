use Rattle.std.proofs.Common.{◌≡◌, ◌++◌, ◌+◌, List, map, get_or, drop, ap, sym, ◌∙◌, refl, arith, true, false, Bor}
use Rattle.dr_rows.specs.Outcome.{Outcome}
use Rattle.dr_rows.specs.Places.{joins, places_from}
use Rattle.dr_rows.proofs.PlaceLemmas.{between, place-joined, place-parted}
use Rattle.dr_rows.proofs.TextLemmas.{pushed-before}
use Rattle.dr_rows.proofs.places.places.Goals as goal

pub loop-end-preserved-then-joins : goal.loop-end-preserved-then-joins
loop-end-preserved-then-joins c =
    let rows = c.args.rows.now in
    let start = c.loop-end.start in
    let end = c.loop-end.end in
    let r = c.index-rows-end.result in
    let lt = c.loop-end-test.true in
    let within = c.loop-end.invariant.within in
    let joined : joins (between start end rows) (get_or rows end r) ≡ true = ap (joins (between start end rows)) (sym c.index-rows-end.is) ∙ sym c.joins.ensures ∙ c.if-joins.true in
    record {
      within = omega arith;
      fits = omega arith;
      leads =
          ap (λ ps. map {A = Bor (List Outcome)} {B = List Outcome} (λ place. place.now) c.loop-end.found.items ++ ps) (sym (place-joined rows start end r (omega arith) lt joined))
          ∙ c.loop-end.invariant.leads;
    }

pub loop-end-preserved : goal.loop-end-preserved
loop-end-preserved c =
    let rows = c.args.rows.now in
    let start = c.loop-end.start in
    let end = c.loop-end.end in
    let r = c.index-rows-end.result in
    let lt = c.loop-end-test.true in
    let rest = places_from (between end (end + 1) rows) (drop (end + 1) rows) in
    let parted : joins (between start end rows) (get_or rows end r) ≡ false = ap (joins (between start end rows)) (sym c.index-rows-end.is) ∙ sym c.joins.ensures ∙ c.if-joins.false in
    record {
      within = omega arith;
      fits = omega arith;
      leads =
          pushed-before {X = Bor (List Outcome)} {Y = List Outcome} (λ place. place.now) c.loop-end.found.items c.push.new.self.items _ (between start end rows) rest c.in_ok-push.ensures.items refl
          ∙ ap (λ ps. map {A = Bor (List Outcome)} {B = List Outcome} (λ place. place.now) c.loop-end.found.items ++ ps) (sym (place-parted rows start end r lt parted))
          ∙ c.loop-end.invariant.leads;
    }
