use Rattle.std.proofs.Common.{ℕ, ◌≡◌, ◌<◌, List, [], ◌∷◌, ◌++◌, arith, ap, sym, subst, ◌∙◌, Some}
use Rattle.std.specs.Prelude.{OnErr}
use Rattle.dr_model.specs.Carry.{now}
use Rattle.dr_model.specs.Control.{Volume}
use Rattle.dr_model.specs.Entries.{copy_first}
use Rattle.dr_model.specs.Layout.{is_part}
use Rattle.dr_model.specs.Moves.{Store}
use Rattle.dr_model.specs.Refusals.{stopped}
use Rattle.dr_volume.specs.View.{ids_of}
use Rattle.dr_moves.specs.Here.{world_seen, armed_in, refusal_of}
use Rattle.dr_moves.specs.Turns.{Fails}
use Rattle.dr_flash.proofs.CopyLemmas.{no-own}
use Rattle.dr_moves.proofs.KeptLemmas.{before-then, wider-armed}
use Rattle.dr_moves.proofs.TurnLemmas.{refused-by, ok-along, err-along}
use Rattle.dr_moves.proofs.LeadLemmas.{fails-wider}
use Rattle.dr_gcopy.proofs.SendLemmas.{other-server}
use Rattle.dr_gcopy.proofs.receiving.keep_and_store.Goals as goal
use Rattle.dr_logic.proofs.Results.{err-always}
use Rattle.dr_moves.proofs.LeadLemmas.{then-leads, then-fails, fails-first}

pub returns-in_err-copy_first-clause-fails : goal.returns-in_err-copy_first-clause-fails
returns-in_err-copy_first-clause-fails g c =
    err-always c.from_residual.result (λ r.
    subst (λ e. Fails (armed_in (g.P.Plant.state c.args.plant.now)) (world_seen (g.P.Plant.state c.args.plant.now) c.args.config.now r c.args.journal.now.events) ((copy_first (ids_of c.args.config.now.volumes) c.args.b.0 c.args.t) ++ (now (Store c.args.b.0 c.args.t c.args.a.0 c.args.last)) ∷ []) (world_seen (g.P.Plant.state c.copy_first.new.plant) c.args.config.now r c.copy_first.new.journal.events) e) (sym (refused-by c.from_residual.result c.in_err-copy_first.field-0.0 c.from_residual.ensures.0 c.from_residual.ensures.1))
    (fails-first (armed_in (g.P.Plant.state c.args.plant.now)) (world_seen (g.P.Plant.state c.args.plant.now) c.args.config.now r c.args.journal.now.events) (world_seen (g.P.Plant.state c.copy_first.new.plant) c.args.config.now r c.copy_first.new.journal.events) (Some c.in_err-copy_first.field-0.0) (copy_first (ids_of c.args.config.now.volumes) c.args.b.0 c.args.t) ((now (Store c.args.b.0 c.args.t c.args.a.0 c.args.last)) ∷ []) (c.in_err-copy_first.ensures.fails r)))

pub store-requires-clause-running : goal.store-requires-clause-running
store-requires-clause-running g c =
    (λ i. c.in_ok-copy_first.ensures.on i ((c.in_ok-copy_first.ensures.others c.args.b.0 (no-own (g.P.Plant.state c.args.plant.now) c.args.config.now c.args.b.0 c.requires.fit)).volume i).server) ∙ c.requires.running

pub store-requires-clause-secondary : goal.store-requires-clause-secondary
store-requires-clause-secondary g c =
    ap (λ (x : Volume). is_part x.fields.secondary) (c.in_ok-copy_first.ensures.others c.args.b.0 (no-own (g.P.Plant.state c.args.plant.now) c.args.config.now c.args.b.0 c.requires.fit)).volume ∙ c.requires.secondary

pub store-requires-clause-within : goal.store-requires-clause-within
store-requires-clause-within g c =
    subst (λ (x : Volume). c.args.t < x.tracks) (sym (c.in_ok-copy_first.ensures.others c.args.b.0 (no-own (g.P.Plant.state c.args.plant.now) c.args.config.now c.args.b.0 c.requires.fit)).volume) c.requires.within

pub store-requires-clause-bytes : goal.store-requires-clause-bytes
store-requires-clause-bytes g c =
    c.requires.bytes ∙ ap (λ (z : ℕ → List ℕ). z c.args.t) (sym (c.in_ok-copy_first.ensures.others c.args.a.0 (other-server (g.P.Plant.state c.args.plant.now) c.args.config.now c.args.a.0 c.args.b.0 c.requires.fit c.requires.two_servers)).tracks)

pub returns-clause-leads : goal.returns-clause-leads
returns-clause-leads g c =
    ok-along c.store.result c.store.ensures.advances (λ goes r.
    then-leads (world_seen (g.P.Plant.state c.args.plant.now) c.args.config.now r c.args.journal.now.events) (world_seen (g.P.Plant.state c.copy_first.new.plant) c.args.config.now r c.copy_first.new.journal.events) (world_seen (g.P.Plant.state c.store.new.plant) c.args.config.now r c.store.new.journal.events) (copy_first (ids_of c.args.config.now.volumes) c.args.b.0 c.args.t) ((now (Store c.args.b.0 c.args.t c.args.a.0 c.args.last)) ∷ []) (c.in_ok-copy_first.ensures.leads r) (goes r))

pub returns-clause-fails : goal.returns-clause-fails
returns-clause-fails g c =
    err-along c.store.result c.store.ensures.halts c.store.ensures.refused (λ halts refused r.
    then-fails (armed_in (g.P.Plant.state c.args.plant.now)) (world_seen (g.P.Plant.state c.args.plant.now) c.args.config.now r c.args.journal.now.events) (world_seen (g.P.Plant.state c.copy_first.new.plant) c.args.config.now r c.copy_first.new.journal.events) (world_seen (g.P.Plant.state c.store.new.plant) c.args.config.now r c.store.new.journal.events) (refusal_of c.store.result) (copy_first (ids_of c.args.config.now.volumes) c.args.b.0 c.args.t) ((now (Store c.args.b.0 c.args.t c.args.a.0 c.args.last)) ∷ []) (c.in_ok-copy_first.ensures.leads r)
    (fails-wider (armed_in (g.P.Plant.state c.copy_first.new.plant)) (armed_in (g.P.Plant.state c.args.plant.now)) (wider-armed (g.P.Plant.state c.args.plant.now) (g.P.Plant.state c.copy_first.new.plant) c.in_ok-copy_first.ensures.unarmed) (world_seen (g.P.Plant.state c.copy_first.new.plant) c.args.config.now r c.copy_first.new.journal.events) (world_seen (g.P.Plant.state c.store.new.plant) c.args.config.now r c.store.new.journal.events) (refusal_of c.store.result) ((now (Store c.args.b.0 c.args.t c.args.a.0 c.args.last)) ∷ []) (halts r)))

pub returns-clause-refused : goal.returns-clause-refused
returns-clause-refused g c =
    subst (λ (x : Volume). OnErr c.store.result (refusal_of c.store.result ≡ Some (stopped x.server))) (c.in_ok-copy_first.ensures.others c.args.b.0 (no-own (g.P.Plant.state c.args.plant.now) c.args.config.now c.args.b.0 c.requires.fit)).volume c.store.ensures.refused

pub returns-clause-unarmed : goal.returns-clause-unarmed
returns-clause-unarmed g c q none =
    c.store.ensures.unarmed q (c.in_ok-copy_first.ensures.unarmed q none)

pub returns-clause-others : goal.returns-clause-others
returns-clause-others g c q ne other =
    before-then (g.P.Plant.state c.args.plant.now) (g.P.Plant.state c.copy_first.new.plant) (g.P.Plant.state c.store.new.plant) c.args.config.now q (c.in_ok-copy_first.ensures.others q other) (c.store.ensures.others q ne)

pub returns-clause-room_left : goal.returns-clause-room_left
returns-clause-room_left g c =
    let a = c.in_ok-copy_first.ensures.room_left in
    ok-along c.store.result c.store.ensures.room_left (λ b. omega (arith, a, b))
