-- No write on a volume with a flash hold is acknowledged, from each moment of a run to the next and along a stretch of moments.
use Rattle.std.proofs.Common.{ℕ, ◌≡◌, ◌≢◌, ◌<◌, ◌+◌, inl, inr, refl, Bool, false, ap, sym, ◌∙◌, subst, List, [], ◌∷◌, ◌++◌, Option}
use Rattle.std.specs.Prelude.{All}
use Rattle.std.proofs.lemmas.List.{append_cancel_left}
use Rattle.std.proofs.lemmas.List.Elements.{All-head, All-tail}
use Rattle.dr_model.specs.declared.event.Event.{Event}
use Rattle.dr_model.specs.declared.event.Event.TheVariants.{Ack, Stopped}
use Rattle.dr_model.specs.Histories.{Write, histories}
use Rattle.dr_model.specs.Control.{Volume, World}
use Rattle.dr_model.specs.Groups.{In}
use Rattle.dr_model.specs.Moves.{Move, Land, Overwrite, LandBoth, target, told, told_in_stop, landed}
use Rattle.dr_model.specs.Allowed.{MayAck}
use Rattle.dr_facts.proofs.Lists.{in-joined}
use Rattle.dr_laws_freezes.specs.Windows.{last_of}
use Rattle.dr_laws_freezes.proofs.WindowMoves.{MayCome}
use Rattle.dr_laws_freezes.proofs.KeepsWindow.{takes_none}
use Rattle.dr_facts.proofs.Emits.{Tag, Acks as AcksTag, Of, Lists, of-all, each-told, acks_none, unacked-stop}
use Rattle.dr_logic.proofs.Truth.{false_true}
use Rattle.dr_laws_freezes.proofs.KeepsStep.{Step, Does, Stops, Acks, Others, Passes}
use Rattle.dr_laws_freezes.proofs.Windows.{Chain, Last, Then, step-grows}
use Rattle.dr_laws_flashes.proofs.Waits.{Holds, Still, LandsElse, lands-else, step-still}
use Rattle.dr_laws_flashes.proofs.Lasts.{acks-else, chain-alike}

-- a write that was issued, for another volume
abbrev Elsewhere : World → ℕ → ℕ → Type 0
Elsewhere w v n = (n < w.control.issued + 1) × (((histories w.events).write n).volume ≢ v)

none-acked : (p : Tag → Bool) → p AcksTag ≡ false → Lists (Of p) (λ es. (n : ℕ) → In (Ack n) es → ⊥)
none-acked p acks = record { none = λ n here. here; more = λ e es by behind n here. elim here as (λ _. ⊥) [ inl same ↦ false_true acks (subst (Of p) (sym same) by) | inr there ↦ behind n there ] }

module _ (w : World) (v : ℕ) where
  -- a move that lands write k on another volume
  one-else : (k x t n : ℕ) → MayAck w k x t → v ≢ x → In (Ack n) (Ack k ∷ []) → Elsewhere w v n
  one-else k x t n may ne (inl same) = let is : n ≡ k = cc in subst (Elsewhere w v) (sym is) (may.number, λ e. ne (sym e ∙ may.volume))
  one-else k x t n may ne (inr none) = absurd none

  told-else : (m : Move) (u : Volume) → MayCome w m → LandsElse v m → (n : ℕ) → In (Ack n) (told m u) → Elsewhere w v n
  told-else (Land k x t) u may ne n here = one-else k x t n may.ready ne here
  told-else (Overwrite k x t) u may ne n here = one-else k x t n may.ready ne here
  told-else (LandBoth k x t) u may ne n here = one-else k x t n may.ready ne here
  told-else m u may ne n here = absurd (each-told acks_none _ (none-acked acks_none refl) m u refl n here)

  stop-acks : (m : Move) (u : Volume) (s k n : ℕ) → In (Ack n) (told_in_stop m u ++ Stopped s k ∷ []) → ⊥
  stop-acks m u s k = unacked-stop _ (none-acked acks_none refl) m u (Stopped s k ∷ []) (of-all (Of acks_none) _ (none-acked acks_none refl) (Stopped s k ∷ []) (refl, tt))

  step-acks : (tag next : Option ℕ) (u : World) → Step tag w next u → Still w → Holds v w → (es : List Event) → u.events ≡ w.events ++ es → (n : ℕ) → In (Ack n) es → Elsewhere w v n
  step-acks tag _ _ (Does m f may fair asks) still h es is n here =
      let u : Volume = w.control.volume (target m) in
      told-else m u may (lands-else w v m may h) n (subst (In (Ack n)) (sym (append_cancel_left w.events (told m u) es is)) here)
  step-acks tag _ _ (Stops m f may fair asks) still h es is n here =
      let u : Volume = w.control.volume (target m) in
      absurd (stop-acks m u u.server (landed m) n (subst (In (Ack n)) (sym (append_cancel_left w.events (told_in_stop m u ++ Stopped u.server (landed m) ∷ []) es is)) here))
  step-acks tag _ _ (Acks k a) still h es is n here = by (subst (In (Ack n)) (sym (append_cancel_left w.events (Ack k ∷ []) es is)) here)
    where
      by : In (Ack n) (Ack k ∷ []) → Elsewhere w v n
      by (inl same) = let one : n ≡ k = cc in subst (Elsewhere w v) (sym one) (a.number, λ e. acks-else w v k still h a (sym e ∙ a.on_volume))
      by (inr none) = absurd none
  step-acks tag _ _ (Others next u ss step) still h es is n here = step-acks tag next u step still h es is n here
  step-acks tag _ _ (Passes next u fs x less) still h es is n here = absurd (of-all (Of takes_none) _ (none-acked takes_none refl) fs x.takes n (subst (In (Ack n)) (append_cancel_left w.events es fs (sym is ∙ x.events)) here))

-- along a stretch of moments
module _ (after : List World) (v n : ℕ) where
  pub acked-lasts : (later : List World) (tag : Option ℕ) (w : World) (us : List World) → us ≡ later ++ after → Chain tag w us → Still w → All (Holds v) (w ∷ later)
      → In (Ack n) (last_of w later).events → ((histories (last_of w later).events).write n).volume ≡ v → In (Ack n) w.events
  acked-lasts [] tag w us e c still all told on = told
  acked-lasts (y ∷ ys) _ _ _ e (Last tag w g) still all told on = absurd cc
  acked-lasts (y ∷ ys) _ _ _ e (Then tag next w u us g s c) still all told on =
      let here : u ≡ y = cc in let there : us ≡ ys ++ after = cc in
      let alike = chain-alike after (y ∷ ys) tag w (u ∷ us) e (Then tag next w u us g s c) in
      let all2 : All (Holds v) (u ∷ ys) = subst (λ y. All (Holds v) (y ∷ ys)) (sym here) (All-tail (Holds v) w (y ∷ ys) all) in
      let at_u : In (Ack n) u.events = acked-lasts ys next u us there c (step-still tag w next u s still) all2 (subst (λ y. In (Ack n) (last_of y ys).events) (sym here) told) (ap (λ y. ((histories (last_of y ys).events).write n).volume) here ∙ on) in
      let grown = step-grows tag w next u s in
      elim (in-joined w.events grown.told (Ack n) (subst (In (Ack n)) grown.events at_u)) [
        | inl was ↦ was
        | inr new ↦
            let else = step-acks w v tag next u s still (All-head (Holds v) w (y ∷ ys) all) grown.told grown.events n new in
            absurd (else.1 (ap (λ (x : Write). x.volume) (sym (alike n else.0)) ∙ on))
      ]
