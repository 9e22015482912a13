use Rattle.std.proofs.Common.{arith, sym, ap, ◌∙◌, ◌++◌, ◌+◌, List, length}
use Rattle.dr_model.specs.declared.event.Event.{Event}
use Rattle.dr_moves.proofs.TellLemmas.{blanked-all, blanked-skips, blanked-goes, told-more}
use Rattle.dr_moves.proofs.told.tell_blank.Goals as goal

pub loop-track-init : goal.loop-track-init
loop-track-init c = record {
  events = ap (λ es. c.args.journal.now.events ++ es) (blanked-all c.args.volume c.args.tracks c.args.own.now);
  spare = ap (λ es. c.args.journal.now.spare + length es) (blanked-all c.args.volume c.args.tracks c.args.own.now);
}

pub loop-track-preserved-then-contains : goal.loop-track-preserved-then-contains
loop-track-preserved-then-contains c =
    let skips = sym (blanked-skips c.args.volume c.args.tracks c.loop-track.track c.args.own.now c.loop-track-test.true (sym c.contains.ensures.found ∙ c.if-contains.true)) in
    record {
      events = ap (λ es. c.loop-track.journal.events ++ es) skips ∙ c.loop-track.invariant.events;
      spare = ap (λ es. c.args.journal.now.spare + length es) skips ∙ c.loop-track.invariant.spare;
    }

pub push-requires : goal.push-requires
push-requires c =
    let goes = ap (λ (es : List Event). length es) (blanked-goes c.args.volume c.args.tracks c.loop-track.track c.args.own.now c.loop-track-test.true (sym c.contains.ensures.found ∙ c.if-contains.false)) in
    let room = c.requires in
    let spare = c.loop-track.invariant.spare in
    omega (arith, goes, room, spare)

pub loop-track-preserved : goal.loop-track-preserved
loop-track-preserved c =
    let goes = blanked-goes c.args.volume c.args.tracks c.loop-track.track c.args.own.now c.loop-track-test.true (sym c.contains.ensures.found ∙ c.if-contains.false) in
    record {
      events = told-more c.loop-track.journal.events c.push.new.self.events _ _ _ _ goes c.push.ensures.events c.loop-track.invariant.events;
      spare =
          let one = ap (λ (es : List Event). length es) goes in
          let spare = c.loop-track.invariant.spare in
          let pushed = c.push.ensures.spare in
          omega (arith, one, spare, pushed);
    }
