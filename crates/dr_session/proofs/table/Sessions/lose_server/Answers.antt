use Rattle.std.proofs.Common.{◌≡◌, length, sym, ◌∙◌, ap, arith}
use Rattle.dr_model.specs.Sessions as model
use Rattle.dr_session.specs.Kept.{KeptSession, SessionTable}
use Rattle.dr_session.proofs.PlaceLemmas.{first_by, first_by-none, first_by-more, first_by-all, length-sessions, length-set_value_at, room-at, stays-keyed}
use Rattle.dr_session.proofs.table.Sessions.lose_server.Goals as goal

pub loop-i-init : goal.loop-i-init
loop-i-init c =
    let es = c.self.inside.table.entries in
    let t = c.args.self.now in
    record {
      long = sym c.len-i-end.ensures.len;
      all = sym (ap (λ (u : SessionTable). length u.sessions) c.self.view_is) ∙ (length-sessions es ∙ sym c.len-i-end.ensures.len);
      keyed = c.self.invariant;
      table = c.self.view_is ∙ λ i. record t { sessions = sym (first_by-none (model.lost_with c.args.server.0) t.sessions) i };
    }

pub loop-i-preserved : goal.loop-i-preserved
loop-i-preserved c =
    let f = model.lost_with c.args.server.0 in
    let es = c.loop-i.self-inside.table.entries in
    let t = c.args.self.now in
    let v = c.index_mut.result.now in
    let w = c.lose.new.self in
    let so_far = c.loop-i.invariant in
    let sessions = first_by-more f c.loop-i.i es t.sessions v w (ap (λ (u : SessionTable). u.sessions) so_far.table) c.index_mut.ensures.value (ap (λ (k : KeptSession). k.session) c.lose.ensures) in
    let room = room-at c.loop-i.i es v w c.index_mut.ensures.value (ap (λ (k : KeptSession). k.room) c.lose.ensures) ∙ ap (λ (u : SessionTable). u.room) so_far.table in
    record {
      long = length-set_value_at es c.loop-i.i w ∙ so_far.long;
      all = so_far.all;
      keyed = stays-keyed es c.loop-i.i v w so_far.keyed c.index_mut.ensures.value (ap (λ (k : KeptSession). k.session.number) c.lose.ensures);
      table = λ i. record { sessions = sessions i; room = room i };
    }

pub returns : goal.returns
returns c =
    let f = model.lost_with c.args.server.0 in
    let t = c.args.self.now in
    let so_far = c.loop-i.invariant in
    let at_end : c.loop-i.i ≡ length t.sessions = omega arith in
    so_far.table ∙ λ i. record t { sessions = (ap (λ n. first_by f n t.sessions) at_end ∙ first_by-all f t.sessions) i }
