use Rattle.std.proofs.Common.{ℕ, Bool, ◌≡◌, ◌<◌, ap, sym, subst, ◌∙◌, arith, false, take, slice_get, get_or, ◌+◌, ◌^◌}
use Rattle.std.specs.Prelude.{◌==◌}
use Rattle.std.specs.List.{list_any}
use Rattle.std.proofs.lemmas.List.{take_all}
use Rattle.dr_ids.specs.declared.names.SessionId.{SessionId}
use Rattle.dr_logic.proofs.Options.{if-some}
use Rattle.dr_ctl.specs.Kept.{flight_in}
use Rattle.dr_model.specs.Messages.{Flight, lost_since, loses_master}
use Rattle.dr_model.specs.Sessions.{Session, session_in, mirror_in}
use Rattle.dr_volume.specs.View.{on_seen}
use Rattle.dr_listing.proofs.SeatLemmas.{seat-at, no-seat}
use Rattle.dr_listing.proofs.TakenLemmas.{take-next}
use Rattle.dr_steps.proofs.EpochLemmas.{epoch-same, epochs-next}
use Rattle.dr_steps.proofs.masters.raise_epochs.Goals as goal

pub overflow_add-at : goal.overflow_add-at
overflow_add-at g c = record { fits = if-some (λ (k : SessionId). c.loop-s.at + 1 < 2 ^ 64) c.session_at.result c.in-Some.s c.in-Some.is c.session_at.ensures.next }

pub raise_if-requires : goal.raise_if-requires
raise_if-requires g c =
    let ss = c.args.sessions.now.sessions in let s = c.in-Some.s.0 in let i = c.loop-s.at in
    let none = if-some (λ (k : SessionId). list_any (λ (x : Session). x.number == k.0) (take i ss) ≡ false) c.session_at.result c.in-Some.s c.in-Some.is c.session_at.ensures.first in
    record {
      count = subst (λ m. m < 4294967295)
          (sym (ap (λ (f : Flight). f.epoch s) c.loop-s.invariant.raised ∙ epoch-same (λ k. get_or c.args.before.now k false) (on_seen (g.P.Plant.state c.args.plant.now)) s (take i ss) (flight_in c.args.flight.now) none))
          (c.requires.count s);
    }

pub loop-s-smaller : goal.loop-s-smaller
loop-s-smaller g c =
    let seat = seat-at c.args.sessions.now.sessions c.loop-s.at c.session_at.result c.in-Some.s c.session_at.ensures.value c.in-Some.is in
    let low = seat.below in
    omega (arith, low)

pub loop-s-preserved : goal.loop-s-preserved
loop-s-preserved g c =
    let ss = c.args.sessions.now.sessions in let s = c.in-Some.s.0 in let i = c.loop-s.at in
    let before : ℕ → Bool = (λ k. get_or c.args.before.now k false) in let now = on_seen (g.P.Plant.state c.args.plant.now) in
    let seat = seat-at ss i c.session_at.result c.in-Some.s c.session_at.ensures.value c.in-Some.is in
    let none = if-some (λ (k : SessionId). list_any (λ (x : Session). x.number == k.0) (take i ss) ≡ false) c.session_at.result c.in-Some.s c.in-Some.is c.session_at.ensures.first in
    let found = if-some (λ (k : SessionId). session_in ss k.0 ≡ slice_get ss i) c.session_at.result c.in-Some.s c.in-Some.is c.session_at.ensures.found in
    record {
      raised =
          c.raise_if.ensures
          ∙ epochs-next before now (take i ss) seat.session (flight_in c.args.flight.now) s seat.number none c.loses_master-lost.result
          (c.loses_master-lost.ensures ∙ ap (λ o. loses_master before now (mirror_in o)) (found ∙ seat.there)) (flight_in c.loop-s.flight) c.loop-s.invariant.raised
          ∙ ap (λ ys. lost_since before now ys (flight_in c.args.flight.now)) (sym (take-next ss i seat.session seat.there));
    }

pub returns : goal.returns
returns g c =
    let ss = c.args.sessions.now.sessions in
    let all = no-seat ss c.loop-s.at c.session_at.result c.session_at.ensures.value c.in_default.not-Some in
    record {
      raised = c.loop-s.invariant.raised
          ∙ ap (λ ys. lost_since (λ k. get_or c.args.before.now k false) (on_seen (g.P.Plant.state c.args.plant.now)) ys (flight_in c.args.flight.now)) (take_all c.loop-s.at ss all);
    }
