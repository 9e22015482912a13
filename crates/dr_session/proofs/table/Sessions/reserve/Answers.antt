use Rattle.std.proofs.Common.{◌∙◌, ap}
use Rattle.dr_model.specs.Sessions.{Session}
use Rattle.dr_session.proofs.PlaceLemmas.{sessions-same, length-set_value_at, room-more, stays-keyed}
use Rattle.dr_session.proofs.table.Sessions.reserve.Goals as goal

pub invariant_of-self-in_err-reserve : goal.invariant_of-self-in_err-reserve
invariant_of-self-in_err-reserve c =
    stays-keyed c.loop-i.self-inside.table.entries c.loop-i.i c.index_mut.result.now c.reserve.new.self c.loop-i.invariant.keyed c.index_mut.ensures.value (ap (λ (x : Session). x.number) c.reserve.ensures.same)

pub returns-in_err-reserve-clause-same : goal.returns-in_err-reserve-clause-same
returns-in_err-reserve-clause-same c =
    sessions-same c.loop-i.i c.loop-i.self-inside.table.entries c.index_mut.result.now c.reserve.new.self c.index_mut.ensures.value c.reserve.ensures.same ∙ c.loop-i.invariant.same

pub loop-i-preserved : goal.loop-i-preserved
loop-i-preserved c =
    let es = c.loop-i.self-inside.table.entries in
    let v = c.index_mut.result.now in
    let w = c.reserve.new.self in
    let so_far = c.loop-i.invariant in
    record {
      long = length-set_value_at es c.loop-i.i w ∙ so_far.long;
      keyed = stays-keyed es c.loop-i.i v w so_far.keyed c.index_mut.ensures.value (ap (λ (x : Session). x.number) c.reserve.ensures.same);
      same = sessions-same c.loop-i.i es v w c.index_mut.ensures.value c.reserve.ensures.same ∙ so_far.same;
      room = room-more c.loop-i.i es v w c.index_mut.ensures.value so_far.room c.in_ok-reserve.ensures.room;
    }
