-- Entries that pass, that come to an act, that are checks, and that led on or failed.
use Rattle.std.proofs.Common.{ℕ, ◌≡◌, ◌⊎◌, inl, inr, Bool, true, false, List, [], ◌∷◌, refl, sym, ◌∙◌, ap, subst, Option, None, Some}
use Rattle.std.specs.Prelude.{Result, Ok, Err, OnOk, OnErr, is_ok, is_err}
use Rattle.std.proofs.lemmas.List.{append-nil}
use Rattle.dr_logic.specs.Counts.{Counted}
use Rattle.dr_ids.specs.declared.refusal.Refusal.{Refusal}
use Rattle.dr_model.specs.Control.{Control, World}
use Rattle.dr_model.specs.Carry.{Act, Make, act, turn, Pass, Do, Entry, check}
use Rattle.dr_model.specs.Moves.{Move}
use Rattle.dr_model.specs.PairEntries.{refuse_if, end_if}
use Rattle.dr_model.specs.ReadStops.{GoesOff, Ends}
use Rattle.dr_model.specs.Refusals.{stopped}
use Rattle.dr_model.proofs.CarryLemmas.{act-move}
use Rattle.dr_volume.specs.View.{Rest}
use Rattle.dr_moves.specs.Checks.{Checked, is_stop}
use Rattle.dr_moves.specs.Here.{refusal_of}
use Rattle.dr_moves.specs.Turns.{Advances, Halts, Leads, Fails}
use Rattle.dr_facts.proofs.Ends.{ends-off, ends-goes, ends-stops, ends-skips, ends-refused, ends-none, ends-alike}

pub skips : (w : World) (d : Entry) → d w.control ≡ Pass → Advances w d w
skips w d is armed u r ds more = ends-skips armed u r w d ds is more

pub alike-advances : (w v : World) (d e : Entry) → d w.control ≡ e w.control → Advances w e v → Advances w d v
alike-advances w v d e same goes armed u r ds more = ends-alike armed u r w d e ds same (goes armed u r ds more)

pub alike-halts : (armed : ℕ → Bool) (w u : World) (r : Option Refusal) (d e : Entry) → d w.control ≡ e w.control → Halts armed w e u r → Halts armed w d u r
alike-halts armed w u r d e same halts ds = ends-alike armed u r w d e ds same (halts ds)

pub act-advances : (w v : World) (d : Entry) (a : Act) → d w.control ≡ Do a → act w a ≡ (v, None) → Advances w d v
act-advances w v d a is done armed u r ds more = ends-goes armed u r w v d ds a is done more

pub act-halts : (armed : ℕ → Bool) (w u : World) (r : Option Refusal) (d : Entry) (a : Act) (server : ℕ) → d w.control ≡ Do a → r ≡ Some (stopped server) → GoesOff armed u r w ⊎ (act w a ≡ (u, Some server)) → Halts armed w d u r
act-halts armed w u r d a server is refused (inl off) ds = ends-off armed u r w (d ∷ ds) off
act-halts armed w u r d a server is refused (inr stops) ds = ends-stops armed u r w d ds a server is stops refused

-- where the act is a move
pub move-advances : (w v : World) (d : Entry) (m : Move) → d w.control ≡ Do (Make m) → turn w m ≡ (v, None) → Advances w d v
move-advances w v d m is done = act-advances w v d (Make m) is (act-move w m ∙ done)

pub move-halts : (armed : ℕ → Bool) (w u : World) (r : Option Refusal) (d : Entry) (m : Move) (server : ℕ) → d w.control ≡ Do (Make m) → r ≡ Some (stopped server) → GoesOff armed u r w ⊎ (turn w m ≡ (u, Some server)) → Halts armed w d u r
move-halts armed w u r d m server is refused (inl off) = act-halts armed w u r d (Make m) server is refused (inl off)
move-halts armed w u r d m server is refused (inr stops) = act-halts armed w u r d (Make m) server is refused (inr (act-move w m ∙ stops))

pub refuses : (armed : ℕ → Bool) (w : World) (ok : Control → Bool) (why : Refusal) (r : Option Refusal) (ds : List Entry) → ok w.control ≡ false → r ≡ Some why → Ends armed w r w (check ok why ∷ ds)
refuses armed w ok why r ds h is = ends-refused armed w r w ok why ds h refl is

-- a reason to refuse, where there is one
pub ends-clear : (armed : ℕ → Bool) (u : World) (r : Option Refusal) (w : World) (why : Control → Option Refusal) (ds : List Entry) → why w.control ≡ None → Ends armed u r w ds → Ends armed u r w (refuse_if why ∷ ds)
ends-clear armed u r w why ds none more = ends-skips armed u r w (refuse_if why) ds (ap end_if none) more

pub ends-why : (armed : ℕ → Bool) (w : World) (why : Control → Option Refusal) (e : Refusal) (ds : List Entry) → why w.control ≡ Some e → Ends armed w (Some e) w (refuse_if why ∷ ds)
ends-why armed w why e ds is = ends-alike armed w (Some e) w (refuse_if why) (check (λ k. false) e) ds (ap end_if is) (ends-refused armed w (Some e) w (λ k. false) e ds refl refl refl)

-- so a reason to refuse is a check
pub one-checked : (w : World) (why : Control → Option Refusal) (o : Option Refusal) → o ≡ why w.control → Checked w (refuse_if why ∷ []) o
one-checked w why None is = λ armed u r ds more. ends-clear armed u r w why ds (sym is) more
one-checked w why (Some e) is = λ armed ds. ends-why armed w why e ds (sym is)

-- a call that fails only by a stop
pub counted-stop : (r : Result (Unit {0}) Refusal) (a b server : ℕ) → Counted (is_err r) a b → OnErr r (refusal_of r ≡ Some (stopped server)) → Counted (is_stop (refusal_of r)) a b
counted-stop (Ok x) a b server counted refused = counted
counted-stop (Err e) a b server counted refused = subst (λ o. Counted (is_stop o) a b) (sym refused) counted

-- and so nothing but a stop fails it
pub only-stops : (X : Type 0) (res : Result (Unit {0}) Refusal) (server : ℕ) → OnErr res (refusal_of res ≡ Some (stopped server)) → is_stop (refusal_of res) ≡ false → OnErr res X
only-stops X (Ok x) server refused calm = tt
only-stops X (Err e) server refused calm = absurd (let never : true ≡ false = sym (ap is_stop refused) ∙ calm in cc)

-- one act that is the last entry
pub act-ends : {T : Type 0} (res : Result T Refusal) (armed : ℕ → Bool) (w v : Rest → World) (d : Entry) → OnOk res ((r : Rest) → Advances (w r) d (v r)) → OnErr res ((r : Rest) → Halts armed (w r) d (v r) (refusal_of res)) → (r : Rest) → Ends armed (v r) (refusal_of res) (w r) (d ∷ [])
act-ends (Ok x) armed w v d goes halts r = goes r armed (v r) None [] (ends-none armed (v r) None (v r) (record { world = refl; refusal = refl }))
act-ends (Err e) armed w v d goes halts r = halts r []

-- entries that led on, or failed, with none behind them
pub led : (armed : ℕ → Bool) (w v : World) (es : List Entry) → Leads w es v → Ends armed v None w es
led armed w v es leads = subst (Ends armed v None w) (append-nil es) (leads armed v None [] (ends-none armed v None v (record { world = refl; refusal = refl })))

pub failed : (armed : ℕ → Bool) (w u : World) (r : Option Refusal) (es : List Entry) → Fails armed w es u r → Ends armed u r w es
failed armed w u r es fails = subst (Ends armed u r w) (append-nil es) (fails [])

-- a call whose entries led on, or failed
pub ends-by : {T : Type 0} (res : Result T Refusal) (armed : ℕ → Bool) (w u : Rest → World) (es : Rest → List Entry)
    → OnOk res ((r : Rest) → Leads (w r) (es r) (u r)) → OnErr res ((r : Rest) → Fails armed (w r) (es r) (u r) (refusal_of res)) → (r : Rest) → Ends armed (u r) (refusal_of res) (w r) (es r)
ends-by (Ok x) armed w u es leads fails r = led armed (w r) (u r) (es r) (leads r)
ends-by (Err e) armed w u es leads fails r = failed armed (w r) (u r) (Some e) (es r) (fails r)

-- what was made, where all went well
pub made-ok : {T E : Type 0} (res : Result T E) (makes : Bool → Type 0) → makes (is_ok res) → OnOk res (makes true)
made-ok (Ok x) makes made = made
made-ok (Err e) makes made = tt
