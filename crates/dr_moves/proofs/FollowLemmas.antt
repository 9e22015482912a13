-- What follows where entries ended.
use Rattle.std.proofs.Common.{ℕ, ◌≡◌, Bool, true, false, List, [], ◌∷◌, refl, Option, None, Some}
use Rattle.std.specs.Prelude.{Result, Ok, Err, OnOk, OnErr}
use Rattle.dr_ids.specs.declared.refusal.Refusal.{Refusal}
use Rattle.dr_ids.specs.declared.refusal.Refusal.TheVariants.{Stopped}
use Rattle.dr_model.specs.Control.{World}
use Rattle.dr_model.specs.Carry.{Entry, Pass}
use Rattle.dr_volume.specs.View.{Rest}
use Rattle.dr_moves.specs.Checks.{is_stop}
use Rattle.dr_moves.specs.Followed.{EndsSo, EndsEach, Follows, EndsFollowed, FailsFollowed}
use Rattle.dr_moves.specs.Here.{refusal_of}
use Rattle.dr_moves.specs.Turns.{Leads}
use Rattle.dr_facts.proofs.Ends.{ends-none, ends-skips, ends-wider}
use Rattle.dr_moves.proofs.EntryLemmas.{led, failed}
use Rattle.dr_moves.proofs.LeadLemmas.{fails-wider}

pub nothing-follows : (armed : ℕ → Bool) (w : World) (d : Entry) → d w.control ≡ Pass → EndsSo armed w (d ∷ []) w
nothing-follows armed w d is = record { refusal = None; ends = ends-skips armed w None w d [] is (ends-none armed w None w (record { world = refl; refusal = refl })) }

-- one entry that comes by itself
pub each-one : (armed : ℕ → Bool) (v u : World) (d : Entry) → EndsSo armed v (d ∷ []) u → EndsEach armed v (d ∷ []) u
each-one armed v u d so = record { middle = u; first = so; later = refl }

-- nothing follows what no stop ended
pub calm-follows : (armed : ℕ → Bool) (w : World) (r : Option Refusal) (follows : List Entry) → is_stop r ≡ false → Follows armed w r follows w
calm-follows armed w (Some (Stopped s)) follows calm = absurd (let e : true ≡ false = calm in cc)
calm-follows armed w r follows calm = refl

-- more servers may be armed
each-wider : (armed more : ℕ → Bool) → ((q : ℕ) → armed q ≡ true → more q ≡ true) → (v : World) (es : List Entry) (u : World) → EndsEach armed v es u → EndsEach more v es u
each-wider armed more wider v [] u same = same
each-wider armed more wider v (d ∷ ds) u h =
    let first = h.first in
    record { middle = h.middle; first = record { refusal = first.refusal; ends = ends-wider armed more wider h.middle first.refusal v (d ∷ []) first.ends }; later = each-wider armed more wider h.middle ds u h.later }

pub follows-wider : (armed more : ℕ → Bool) → ((q : ℕ) → armed q ≡ true → more q ≡ true) → (v : World) (r : Option Refusal) (follows : List Entry) (u : World) → Follows armed v r follows u → Follows more v r follows u
follows-wider armed more wider v (Some (Stopped s)) follows u h = each-wider armed more wider v follows u h
follows-wider armed more wider v r follows u h = h

pub failed-wider : (armed more : ℕ → Bool) → ((q : ℕ) → armed q ≡ true → more q ≡ true) → (w u : World) (es : List Entry) (follows : List Entry) (r : Option Refusal) → FailsFollowed armed w es follows u r → FailsFollowed more w es follows u r
failed-wider armed more wider w u es follows r h = record {
  middle = h.middle;
  fails = fails-wider armed more wider w h.middle r es h.fails;
  followed = follows-wider armed more wider h.middle r follows u h.followed;
}

-- the entries end so, and what follows them, as those that led on or failed say
pub followed-by : {T : Type 0} (res : Result T Refusal) (armed : ℕ → Bool) (w u : Rest → World) (es : List Entry) (follows : List Entry) → OnOk res ((r : Rest) → Leads (w r) es (u r)) → OnErr res ((r : Rest) → FailsFollowed armed (w r) es follows (u r) (refusal_of res))
    → (r : Rest) → EndsFollowed armed (w r) es follows (u r) (refusal_of res)
followed-by (Ok x) armed w u es follows leads fails r = record { middle = u r; ends = led armed (w r) (u r) es (leads r); followed = refl }
followed-by (Err e) armed w u es follows leads fails r = let h = fails r in record { middle = h.middle; ends = failed armed (w r) h.middle (Some e) es h.fails; followed = h.followed }
