use Rattle.std.proofs.Common.{◌≡◌, ◌+◌, length, arith, [], ◌∷◌, ◌++◌, sym, subst, inr, refl, Some}
use Rattle.dr_logic.specs.Counts.{Counted}
use Rattle.dr_model.specs.PairEntries.{send_refusal, suspend_where, refuse_if, flashed_refusal, held_refusal, suspend_after}
use Rattle.dr_volume.specs.View.{ids_of, volume_seen}
use Rattle.dr_facts.proofs.Ends.{ends-skips}
use Rattle.dr_moves.specs.Here.{world_seen, armed_in}
use Rattle.dr_moves.proofs.EntryLemmas.{ends-clear}
use Rattle.dr_moves.proofs.FollowLemmas.{calm-follows}
use Rattle.dr_gcopy.proofs.PairChecks.{servers-apart}
use Rattle.dr_gcopy.proofs.SendLemmas.{suspends-none}
use Rattle.dr_cascade.specs.Feeding.{asked_entries, taken_stretches}
use Rattle.dr_cascade.proofs.FedLemmas.{ran-in-then, asked-passes}
use Rattle.dr_cascade.proofs.feeding.feed_to.Goals as goal

pub send_refusal-requires-clause-stands : goal.send_refusal-requires-clause-stands
send_refusal-requires-clause-stands g c = c.requires.at.rest.stands

pub send_refusal-requires-clause-to : goal.send_refusal-requires-clause-to
send_refusal-requires-clause-to g c = c.requires.pair.to

pub part-requires-clause-apart : goal.part-requires-clause-apart
part-requires-clause-apart g c = servers-apart (g.P.Plant.state c.args.plant.now) c.args.config.now c.args.a.0 c.args.b.0 c.requires.pair.two_servers

pub part-requires-clause-room : goal.part-requires-clause-room
part-requires-clause-room g c = let a = c.requires.room in omega (arith, a)

pub returns-in-Some-clause-ran : goal.returns-in-Some-clause-ran
returns-in-Some-clause-ran g c =
    let t = c.args.config.now in
    let p = c.part.ensures in
    record {
      leads = tt;
      fails = λ r ts. p.fails r (taken_stretches (ids_of t.volumes) c.args.a.0 c.args.b.0 (volume_seen (g.P.Plant.state c.args.plant.now) t c.args.b.0).fields.primary_partner c.args.t ++ ts);
      at = p.at;
      unarmed = p.unarmed;
      faults = p.faults;
      on = tt;
      room = let a = p.room in omega (arith, a);
      left = tt;
      spare = p.spare;
    }

pub taking_refusal-requires-clause-stands : goal.taking_refusal-requires-clause-stands
taking_refusal-requires-clause-stands g c = c.requires.at.rest.stands

pub taking_refusal-requires-clause-defined : goal.taking_refusal-requires-clause-defined
taking_refusal-requires-clause-defined g c = c.requires.pair.to

pub returns-in-Some-taking_refusal-clause-ran : goal.returns-in-Some-taking_refusal-clause-ran
returns-in-Some-taking_refusal-clause-ran g c =
    let s = g.P.Plant.state c.args.plant.now in
    let t = c.args.config.now in
    let j = c.args.journal.now in
    let a = c.args.a.0 in
    let b = c.args.b.0 in
    let why = c.in-Some-taking_refusal.why in
    let checked = c.in-Some-taking_refusal.ensures.checked in
    record {
      leads = tt;
      fails = λ r ts. let w = world_seen s t r j.events in
          inr (record {
            why = why;
            middle = w;
            ends =
                ends-skips (armed_in s) w (Some why) w (suspend_where (send_refusal a b) a) _ (suspends-none w (send_refusal a b) a (sym (c.in_default.ensures.refusal r j.events)))
                (ends-clear (armed_in s) w (Some why) w (send_refusal a b) (refuse_if (flashed_refusal b) ∷ refuse_if (held_refusal b) ∷ []) (sym (c.in_default.ensures.refusal r j.events)) (checked r j.events (armed_in s) []));
            followed = calm-follows (armed_in s) w (Some why) (suspend_after a) c.in-Some-taking_refusal.ensures.calm;
            refusal = refl;
          });
      at = c.requires.at;
      unarmed = λ q none. none;
      faults = subst (λ x. Counted x s.faults s.faults) (sym c.in-Some-taking_refusal.ensures.calm) refl;
      on = tt;
      room = omega arith;
      left = tt;
      spare = refl;
    }

pub returns-clause-ran : goal.returns-clause-ran
returns-clause-ran g c =
    let s = g.P.Plant.state c.args.plant.now in
    let u = g.P.Plant.state c.take_track.new.plant in
    let t = c.args.config.now in
    let j = c.args.journal.now in
    let a = c.args.a.0 in
    let b = c.args.b.0 in
    let n = length t.volumes in
    ran-in-then s s u t j j c.take_track.new.journal (asked_entries a b) (λ q. ⊥) 0 0 (suspend_after a) (taken_stretches (ids_of t.volumes) a b (volume_seen s t b).fields.primary_partner c.args.t)
    (n + (n + 9)) (n + (n + 3)) (n + (n + 9)) (n + (n + 3)) c.take_track.result (omega arith) (omega arith)
    (record {
      leads = λ r. asked-passes a b (world_seen s t r j.events) (sym (c.in_default.ensures.refusal r j.events)) (c.in_default-taking_refusal.ensures.checked r j.events);
      fails = tt;
      stays = record { at = c.requires.at; unarmed = λ q none. none; faults = refl; others = λ q never. absurd never; on = refl; room = omega arith; left = omega arith; spare = refl };
    })
    c.take_track.ensures.ran
