use Rattle.std.proofs.Common.{◌≡◌, ◌≢◌, [], true, false, ◌+◌, length, arith, ap, sym, ◌∙◌, refl}
use Rattle.std.specs.Prelude.{is_some}
use Rattle.dr_model.specs.Control.{Volume}
use Rattle.dr_model.specs.Entries.{copies_from}
use Rattle.dr_model.specs.Messages.{no_flight}
use Rattle.dr_model.specs.PairEntries.{send_refusal}
use Rattle.dr_volume.specs.View.{Rest, ids_of, volume_seen}
use Rattle.dr_moves.specs.Checks.{is_stop}
use Rattle.dr_moves.specs.Here.{world_seen, armed_in, refusal_of}
use Rattle.dr_flash.proofs.CopyLemmas.{no-own}
use Rattle.dr_moves.proofs.TurnLemmas.{ok-along, err-along}
use Rattle.dr_gcopy.proofs.PairChecks.{servers-apart, counted-stops}
use Rattle.dr_gcopy.proofs.RanLemmas.{stays-by}
use Rattle.dr_gcopy.proofs.SendLemmas.{other-server}
use Rattle.dr_logic.proofs.Results.{ok-two}
use Rattle.dr_gcopy.proofs.CollideLemmas.{Sends, sends-by, sent-leads, sent-fails, flashed-leads, parted-leads, parted-fails}
use Rattle.dr_gcopy.proofs.PartLemmas.{parts-sent, apart-sent}
use Rattle.dr_gcopy.proofs.colliding.send_old.Goals as goal

pub returns-then-is_some-clause-ran : goal.returns-then-is_some-clause-ran
returns-then-is_some-clause-ran g c =
    let s = g.P.Plant.state c.args.plant.now in
    let t = c.args.config.now in
    let m = g.P.Plant.state c.suspend.new.plant in
    let v = c.args.v.0 in
    let u = c.args.u.0 in
    let j = c.args.journal.now in
    let l = c.suspend.new.journal in
    let n = length t.volumes in
    let h = c.suspend.ensures in
    let parted : (r : Rest) → is_some (send_refusal v u (world_seen s t r j.events).control) ≡ true = λ r. ap is_some (sym (c.send_refusal.ensures.refusal r j.events)) ∙ sym c.is_some.ensures ∙ c.if-is_some.true in
    record {
      leads = ok-two c.suspend.result h.advances h.moved (λ advances moved r. parted-leads (ids_of t.volumes) v u c.args.t (world_seen s t r j.events) (world_seen m t r l.events) c.requires.collides (parted r) (ap (λ (x : Volume). x.fields.recording) moved.volume) (advances r));
      fails = err-along c.suspend.result h.halts h.refused (λ halts refused r. parted-fails (ids_of t.volumes) v u c.args.t (world_seen s t r j.events) (armed_in s) (world_seen m t r l.events) (refusal_of c.suspend.result) c.requires.collides (parted r) (halts r));
      stays = stays-by s m t j l (λ q. (q ≢ v) × ((q ≢ u) × (copies_from u (volume_seen s t q).fields ≡ false))) (n + 3) (n + 2) (volume_seen s t v).server c.suspend.result h.refused h.rest h.fit h.unarmed h.faults (λ q apart. h.others q apart.0) h.on
          (let most = h.room in omega (arith, most)) (ok-along c.suspend.result h.room_left (λ is. omega (arith, is))) h.spare;
    }

pub returns-then-is_some-clause-stops : goal.returns-then-is_some-clause-stops
returns-then-is_some-clause-stops g c = err-along c.suspend.result c.suspend.ensures.refused c.suspend.ensures.refused (λ refused _. ap is_stop refused)

pub returns-then-is_some-2-clause-ran : goal.returns-then-is_some-2-clause-ran
returns-then-is_some-2-clause-ran g c =
    let s = g.P.Plant.state c.args.plant.now in
    let t = c.args.config.now in
    let ev = c.args.journal.now.events in
    record {
      leads = λ r. flashed-leads (ids_of t.volumes) c.args.v.0 c.args.u.0 c.args.t (world_seen s t r ev) (ap is_some (sym (c.send_refusal.ensures.refusal r ev)) ∙ sym c.is_some.ensures ∙ c.if-is_some.false) (ap is_some (sym (c.flashed_refusal.ensures.refusal r ev)) ∙ sym c.is_some-2.ensures ∙ c.if-is_some-2.true);
      fails = tt;
      stays = record { at = c.requires.at; unarmed = λ q none. none; faults = refl; others = λ q apart. record { volume = refl; tracks = refl; saved = refl }; on = refl; room = omega arith; left = omega arith; spare = refl };
    }

pub returns-clause-ran : goal.returns-clause-ran
returns-clause-ran g c =
    let s = g.P.Plant.state c.args.plant.now in
    let t = c.args.config.now in
    let m = g.P.Plant.state c.pass_on.new.plant in
    let v = c.args.v.0 in
    let u = c.args.u.0 in
    let ev = c.args.journal.now.events in
    let new = c.pass_on.new.journal.events in
    let h = c.pass_on.ensures in
    let apart = c.requires.pair.two_servers in
    let sends : (r : Rest) → Sends v u c.args.t (world_seen s t r ev).control = λ r. sends-by v u c.args.t (world_seen s t r ev).control c.requires.collides (ap is_some (sym (c.send_refusal.ensures.refusal r ev)) ∙ sym c.is_some.ensures ∙ c.if-is_some.false) (ap is_some (sym (c.flashed_refusal.ensures.refusal r ev)) ∙ sym c.is_some-2.ensures ∙ c.if-is_some-2.false)
    (other-server s t v u c.requires.at.fit apart) (no-own s t u c.requires.at.fit) in
    record {
      leads = ok-along c.pass_on.result h.leads (λ leads r. sent-leads (ids_of t.volumes) v u c.args.t (world_seen s t r ev) (world_seen m t r new) (servers-apart s t v u apart) (sends r) (leads r));
      fails = err-along c.pass_on.result h.fails h.stops (λ fails stops r. sent-fails (ids_of t.volumes) v u c.args.t (world_seen s t r ev) (armed_in s) (world_seen m t r new) (refusal_of c.pass_on.result) (servers-apart s t v u apart) (sends r) (fails r));
      stays = record {
        at = record { rest = h.rest; fit = h.fit };
        unarmed = h.unarmed;
        faults = counted-stops c.pass_on.result s.faults m.faults h.stops h.faults;
        others = λ q apart. h.others q apart.0 apart.1.0 apart.1.1;
        on = h.on;
        room = let most = h.room in omega (arith, most);
        left = ok-along c.pass_on.result h.room_left (λ is. omega (arith, is));
        spare = h.spare;
      };
    }

pub returns-then-is_some-clause-parts : goal.returns-then-is_some-clause-parts
returns-then-is_some-clause-parts g c =
    let s = g.P.Plant.state c.args.plant.now in
    let t = c.args.config.now in
    let rest : Rest = record { issued = 0; pending = []; sessions = []; flight = no_flight; events = [] } in
    ok-along c.suspend.result (returns-then-is_some-clause-ran g c).leads (λ leads q. parts-sent (ids_of t.volumes) c.args.v.0 c.args.u.0 c.args.t (world_seen s t rest c.args.journal.now.events) (world_seen (g.P.Plant.state c.suspend.new.plant) t rest c.suspend.new.journal.events) q (leads rest))

pub returns-clause-parts : goal.returns-clause-parts
returns-clause-parts g c =
    let s = g.P.Plant.state c.args.plant.now in
    let t = c.args.config.now in
    let rest : Rest = record { issued = 0; pending = []; sessions = []; flight = no_flight; events = [] } in
    ok-along c.pass_on.result (returns-clause-ran g c).leads (λ leads q. parts-sent (ids_of t.volumes) c.args.v.0 c.args.u.0 c.args.t (world_seen s t rest c.args.journal.now.events) (world_seen (g.P.Plant.state c.pass_on.new.plant) t rest c.pass_on.new.journal.events) q (leads rest))

pub returns-then-is_some-2-clause-parts : goal.returns-then-is_some-2-clause-parts
returns-then-is_some-2-clause-parts g c q = record { primary = refl; primary_partner = refl; secondary = refl; secondary_partner = refl }

pub returns-then-is_some-clause-lone : goal.returns-then-is_some-clause-lone
returns-then-is_some-clause-lone g c =
    let s = g.P.Plant.state c.args.plant.now in
    let t = c.args.config.now in
    let rest : Rest = record { issued = 0; pending = []; sessions = []; flight = no_flight; events = [] } in
    ok-along c.suspend.result (returns-then-is_some-clause-ran g c).leads (λ leads p q. apart-sent (ids_of t.volumes) c.args.v.0 c.args.u.0 c.args.t (world_seen s t rest c.args.journal.now.events) (world_seen (g.P.Plant.state c.suspend.new.plant) t rest c.suspend.new.journal.events) p q (leads rest))

pub returns-clause-lone : goal.returns-clause-lone
returns-clause-lone g c =
    let s = g.P.Plant.state c.args.plant.now in
    let t = c.args.config.now in
    let rest : Rest = record { issued = 0; pending = []; sessions = []; flight = no_flight; events = [] } in
    ok-along c.pass_on.result (returns-clause-ran g c).leads (λ leads p q. apart-sent (ids_of t.volumes) c.args.v.0 c.args.u.0 c.args.t (world_seen s t rest c.args.journal.now.events) (world_seen (g.P.Plant.state c.pass_on.new.plant) t rest c.pass_on.new.journal.events) p q (leads rest))
