use Rattle.std.proofs.Common.{◌≡◌, ◌<◌, ◌≤◌, ◌+◌, ℕ, Bool, true, false, List, ap, sym, ◌∙◌, arith, Some, None}
use Rattle.std.specs.Prelude.{if◌then◌else◌}
use Rattle.dr_ids.specs.Sizes.{blocks_of}
use Rattle.dr_model.specs.PlantImage.{Volume, Placed, Filling, State, can_fill, fill, fill_at, with_block}
use Rattle.dr_image.specs.declared.held.Held.{Held}
use Rattle.dr_image.specs.Shown.{shown, all_shown}
use Rattle.dr_image.specs.Sound.{IsSoundVolume}
use Rattle.dr_image.specs.Lines.{state_of, placed}
use Rattle.dr_image.proofs.StateLemmas.{all_got, got, fill-at, can_fill-index, not_taken, taken}
use Rattle.dr_image.proofs.state.State.fill.Goals as goal

pub can_fill-requires : goal.can_fill-requires
can_fill-requires c =
    let hs : List Held = c.args.self.now.volumes.items in
    let held : Held = c.index.result.now in
    (all_got IsSoundVolume (all_shown hs) c.in-Some.place (shown held) c.requires.sound (got hs c.in-Some.place held (let w = c.in-Some.ensures.within in omega arith) c.index.ensures)).in_order

filled : (s : State) (said : Placed) (p : ℕ) (w : Volume) (v : Bool) → v ≡ can_fill s.place p w said.block → fill s said ≡ fill_at s said.block p w
    → fill s said ≡ (if v then Some (record s { stage = Filling; volumes = with_block s.volumes p said.block; place = p }) else None)
filled s said p w v e is = is ∙ ap (λ (b : Bool). if b then Some (record s { stage = Filling; volumes = with_block s.volumes p said.block; place = p }) else None) (sym e)

pub returns-then-not-can_fill : goal.returns-then-not-can_fill
returns-then-not-can_fill c =
    let s : State = state_of c.args.self.now in
    let said : Placed = placed c.args.said.now in
    let held : Held = c.index.result.now in
    let p : ℕ = c.in-Some.place in
    not_taken (fill s said) s
    (filled s said p (shown held) false c.if-not-can_fill.ensures
    (fill-at s said p (shown held) (sym c.in-Some.ensures.value) (got c.args.self.now.volumes.items p held (let w = c.in-Some.ensures.within in omega arith) c.index.ensures)))

pub overflow_cast-said : goal.overflow_cast-said
overflow_cast-said c =
    let held : Held = c.index.result.now in
    let p : ℕ = c.in-Some.place in
    let few : (shown held).tracks ≤ 256 = all_got (λ (v : Volume). v.tracks ≤ 256) (all_shown c.args.self.now.volumes.items) p (shown held) c.requires.tracks
    (got c.args.self.now.volumes.items p held (let w = c.in-Some.ensures.within in omega arith) c.index.ensures) in
    let below : c.args.said.now.index < blocks_of (shown held).tracks = can_fill-index c.args.self.now.place p (shown held) (placed c.args.said.now).block (sym c.if-not-can_fill.ensures) in
    omega arith

pub returns : goal.returns
returns c =
    let s : State = state_of c.args.self.now in
    let said : Placed = placed c.args.said.now in
    let held : Held = c.index.result.now in
    let p : ℕ = c.in-Some.place in
    taken (fill s said) s _
    (filled s said p (shown held) true c.if-not-can_fill.ensures
    (fill-at s said p (shown held) (sym c.in-Some.ensures.value) (got c.args.self.now.volumes.items p held (let w = c.in-Some.ensures.within in omega arith) c.index.ensures))
    ∙ ap (λ (vs : List Volume). Some (record s { stage = Filling; volumes = vs; place = p })) (sym c.in_ok-push_kept.ensures.ok))
