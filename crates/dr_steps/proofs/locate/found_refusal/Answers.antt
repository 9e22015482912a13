use Rattle.std.proofs.Common.{refl, sym, ap, ◌∙◌}
use Rattle.std.specs.Prelude.{is_some}
use Rattle.dr_config.proofs.Lookups.{place-of-entry, none-mapped}
use Rattle.dr_config.specs.declared.entries.VolumeEntry.{VolumeEntry}
use Rattle.dr_steps.proofs.LocatedLemmas.{mapped_some, seen-entry}
use Rattle.dr_steps.proofs.FlashLemmas.{found-first, found-second, found-foreign, found-both}
use Rattle.dr_steps.specs.Here.{here}
use Rattle.dr_steps.proofs.PairLemmas.{owner-named}
use Rattle.dr_steps.proofs.locate.found_refusal.Goals as goal

pub returns-in_default-clause-checked : goal.returns-in_default-clause-checked
returns-in_default-clause-checked c x h events =
    found-first x c.args.config.now h events c.args.dev.now c.args.s.0 c.args.t.0 _ (none-mapped _ _ c.in_default.ensures.value) refl

pub returns-in_default-server_of-clause-checked : goal.returns-in_default-server_of-clause-checked
returns-in_default-server_of-clause-checked c x h events =
    let e = mapped_some (λ (e : VolumeEntry). e.server) _ _ c.in-Some.ensures.value in
    found-second x c.args.config.now h events c.args.dev.now c.args.s.0 c.args.t.0 _ e.0 e.1 (none-mapped _ _ c.in_default-server_of.ensures.value) refl

pub returns-then-not-is_named-clause-checked : goal.returns-then-not-is_named-clause-checked
returns-then-not-is_named-clause-checked c x h events =
    let e = mapped_some (λ (e : VolumeEntry). e.server) _ _ c.in-Some.ensures.value in
    let f = mapped_some (λ (e : VolumeEntry). e.server) _ _ c.in-Some-server_of.ensures.value in
    let at = seen-entry x c.args.config.now c.args.s.0 e.0 e.1 in
    found-foreign x c.args.config.now h events c.args.dev.now c.args.s.0 c.args.t.0 _ e.0 f.0 e.1 f.1
    (owner-named (here x c.args.config.now h events).control c.args.dev.now c.args.s.0 _ (at.0 ∙ e.2) ∙ sym (c.if-not-is_named.ensures x h events)) c.unknown_server.ensures

pub returns-clause-checked : goal.returns-clause-checked
returns-clause-checked c x h events =
    let e = mapped_some (λ (e : VolumeEntry). e.server) _ _ c.in-Some.ensures.value in
    let f = mapped_some (λ (e : VolumeEntry). e.server) _ _ c.in-Some-server_of.ensures.value in
    let at = seen-entry x c.args.config.now c.args.s.0 e.0 e.1 in
    found-both x c.args.config.now h events c.args.dev.now c.args.s.0 c.args.t.0 e.0 f.0 e.1 f.1
    (owner-named (here x c.args.config.now h events).control c.args.dev.now c.args.s.0 _ (at.0 ∙ e.2) ∙ sym (c.if-not-is_named.ensures x h events))

pub returns-clause-source : goal.returns-clause-source
returns-clause-source c =
    let e = mapped_some (λ (e : VolumeEntry). e.server) _ _ c.in-Some.ensures.value in
    ap is_some (place-of-entry c.args.config.now c.args.s.0 e.0 e.1).1

pub returns-clause-target : goal.returns-clause-target
returns-clause-target c =
    let f = mapped_some (λ (e : VolumeEntry). e.server) _ _ c.in-Some-server_of.ensures.value in
    ap is_some (place-of-entry c.args.config.now c.args.t.0 f.0 f.1).1
