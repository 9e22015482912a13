-- Which lists and waiting writes a step of a run leaves.
use Rattle.std.proofs.Common.{ℕ, ◌≡◌, ◌≢◌, ◌⊎◌, ◌<◌, inl, inr, refl, ap, sym, ◌∙◌, subst, Bool, true, false, cond, not, ◌&&◌, nat_eq, List, [], ◌∷◌, ◌++◌, filter, arith}
use Rattle.std.proofs.lemmas.Bool.{or_parts, ne_eqb}
use Rattle.std.proofs.lemmas.Bool.Decides.{eqb_tells}
use Rattle.std.specs.List.{list_any, fold}
use Rattle.dr_model.specs.declared.event.Event.{Event}
use Rattle.dr_model.specs.declared.event.Event.TheVariants.{Volume as VolumeDefined, Ack, Mirrored, Sent, Flashed, Reverted, Set, Back, Blanked, Stopped}
use Rattle.dr_model.specs.Histories.{Write, Histories, histories, lists, joined, after_event}
use Rattle.dr_model.specs.Control.{Volume, World}
use Rattle.dr_model.specs.Moves.{Move, Land, Overwrite, LandBoth, told, told_in_stop, settled, settled_in_stop}
use Rattle.dr_model.specs.Table.{waiting}
use Rattle.dr_model.specs.Allowed.{MayAck}
use Rattle.dr_model.proofs.Images.{histories-append}
use Rattle.dr_facts.proofs.Tables.{IsOrNot}
use Rattle.dr_laws_sound.proofs.Due.{waiting-settled, waiting-marked_else, none_landed}
use Rattle.dr_laws_freezes.proofs.WindowMoves.{MayCome}
use Rattle.dr_laws_freezes.proofs.KeepsWindow.{takes_none, TakesNone}
use Rattle.dr_logic.proofs.Truth.{false_true}
use Rattle.dr_facts.proofs.Emits.{Tag, Acks as AcksTag, Of, Lists as ByEvents, of-all, each-told, acks_none, unacked-stop}
use Rattle.dr_laws_flashes.specs.Windows.{changes, is_for, reaches}

-- another volume, or another track
abbrev pub Off : ℕ → ℕ → ℕ → ℕ → Type 0
Off v q x t = (v ≢ x) ⊎ (q ≢ t)

-- ---- one event

ack-off : (h : Histories) (n v q : ℕ) → Off v q (h.write n).volume (h.write n).track → (after_event h (Ack n)).now v q ≡ h.now v q
ack-off h n v q (inl ne) = ap (λ b. cond b (cond (nat_eq q (h.write n).track) (joined h n) (h.now v q)) (h.now v q)) (ne_eqb v (h.write n).volume ne)
ack-off h n v q (inr ne) = by (nat_eq v (h.write n).volume)
  where
    by : (b : Bool) → cond b (cond (nat_eq q (h.write n).track) (joined h n) (h.now v q)) (h.now v q) ≡ h.now v q
    by true = ap (λ c. cond c (joined h n) (h.now v q)) (ne_eqb q (h.write n).track ne)
    by false = refl

changed-else : (h : Histories) (e : Event) (v q : ℕ) → changes v e ≡ false → ((n : ℕ) → e ≡ Ack n → Off v q (h.write n).volume (h.write n).track) → (after_event h e).now v q ≡ h.now v q
changed-else h (VolumeDefined x server tracks) v q none off = ap (λ b. cond b (λ (t : ℕ). []) (h.now v) q) none
changed-else h (Ack n) v q none off = ack-off h n v q (off n refl)
changed-else h (Mirrored n x) v q none off = ap (λ b. cond b (cond (nat_eq q (h.write n).track) (joined h n) (h.now v q)) (h.now v q)) none
changed-else h (Sent x t to) v q none off = ap (λ b. cond b (cond (nat_eq q t) (h.now x t) (h.now v q)) (h.now v q)) none
changed-else h (Flashed s n a b c) v q none off = ap (λ z. cond z (h.now b) (h.now v) q) none
changed-else h (Reverted s n a c) v q none off = ap (λ b. cond b (h.aside c) (h.now v) q) none
changed-else h (Set x from) v q none off = ap (λ b. cond b (h.now from) (h.now v) q) none
changed-else h (Back x t from) v q none off = ap (λ b. cond b (cond (nat_eq q t) (h.now from t) (h.now v q)) (h.now v q)) none
changed-else h (Blanked x t) v q none off = ap (λ b. cond b (cond (nat_eq q t) [] (h.now v q)) (h.now v q)) none
changed-else h e v q none off = refl

-- ---- the events of a step

abbrev pub After : Histories → List Event → Histories
After h es = fold after_event h es

-- that acknowledge nothing
unacked-stays : (p : Tag → Bool) → p AcksTag ≡ false → (v q : ℕ) → ByEvents (Of p) (λ es. (h : Histories) → list_any (changes v) es ≡ false → (After h es).now v q ≡ h.now v q)
unacked-stays p acks v q = record {
  none = λ h none. refl;
  more = λ e es by behind h none. let parts = or_parts (changes v e) (list_any (changes v) es) none in behind (after_event h e) parts.1 ∙ changed-else h e v q parts.0 (λ n is. false_true acks (subst (Of p) is by));
}

-- where a move lands a write, it is one for that volume and track
lands-off : (w : World) (n x t v q : ℕ) → MayAck w n x t → Off v q x t → Off v q ((histories w.events).write n).volume ((histories w.events).write n).track
lands-off w n x t v q may (inl ne) = inl (λ e. ne (e ∙ may.volume))
lands-off w n x t v q may (inr ne) = inr (λ e. ne (e ∙ may.track))

one-ack : (w : World) (n x t v q : ℕ) → MayAck w n x t → Off v q x t → (After (histories w.events) (Ack n ∷ [])).now v q ≡ lists w.events v q
one-ack w n x t v q may off = ack-off (histories w.events) n v q (lands-off w n x t v q may off)

-- a move lands no write on track q of v
abbrev pub LandsOff : ℕ → ℕ → Move → Type 0
LandsOff v q (Land n x t) = Off v q x t
LandsOff v q (Overwrite n x t) = Off v q x t
LandsOff v q (LandBoth n x t) = Off v q x t
LandsOff v q m = Unit {0}

-- what a move tells, done or where its server stopped in it
pub told-stays : (w : World) (m : Move) (u : Volume) (v q : ℕ) → MayCome w m → LandsOff v q m → list_any (changes v) (told m u) ≡ false → (After (histories w.events) (told m u)).now v q ≡ lists w.events v q
told-stays w (Land n x t) u v q may off none = one-ack w n x t v q may.ready off
told-stays w (Overwrite n x t) u v q may off none = one-ack w n x t v q may.ready off
told-stays w (LandBoth n x t) u v q may off none = one-ack w n x t v q may.ready off
told-stays w m u v q may off none = each-told acks_none _ (unacked-stays acks_none refl v q) m u refl (histories w.events) none

pub stop-stays : (w : World) (m : Move) (u : Volume) (s k v q : ℕ) → list_any (changes v) (told_in_stop m u ++ Stopped s k ∷ []) ≡ false → (After (histories w.events) (told_in_stop m u ++ Stopped s k ∷ [])).now v q ≡ lists w.events v q
stop-stays w m u s k v q none = unacked-stop _ (unacked-stays acks_none refl v q) m u (Stopped s k ∷ []) (λ h none. refl) (histories w.events) none

pub ack-stays : (w : World) (n v q : ℕ) → Off v q ((histories w.events).write n).volume ((histories w.events).write n).track → (After (histories w.events) (Ack n ∷ [])).now v q ≡ lists w.events v q
ack-stays w n v q off = ack-off (histories w.events) n v q off

pub passing-stays : (w : World) (es : List Event) (v q : ℕ) → TakesNone es → list_any (changes v) es ≡ false → (After (histories w.events) es).now v q ≡ lists w.events v q
passing-stays w es v q takes none = of-all (Of takes_none) _ (unacked-stays takes_none refl v q) es takes (histories w.events) none

-- so in the world after them
pub lists-after : (w u : World) (es : List Event) (v q : ℕ) → u.events ≡ w.events ++ es → (After (histories w.events) es).now v q ≡ lists w.events v q → lists u.events v q ≡ lists w.events v q
lists-after w u es v q is same = ap (λ es. lists es v q) is ∙ ap (λ (h : Histories). h.now v q) (histories-append w.events es) ∙ same

-- ---- the writes that wait

pub settled-stays : (w : World) (m : Move) (v q : ℕ) → MayCome w m → waiting (settled m w.control.pending) v q ≡ waiting w.control.pending v q
settled-stays w (Land n x t) v q may = waiting-settled n v q w.control.pending (none_landed x t (filter (λ p. nat_eq p.w n) w.control.pending) may.ready.coming)
settled-stays w (Overwrite n x t) v q may = waiting-settled n v q w.control.pending (none_landed x t (filter (λ p. nat_eq p.w n) w.control.pending) may.ready.coming)
settled-stays w (LandBoth n x t) v q may = waiting-settled n v q w.control.pending (none_landed x t (filter (λ p. nat_eq p.w n) w.control.pending) may.ready.coming)
settled-stays w m v q may = refl

pub stopped-stays : (w : World) (m : Move) (v q : ℕ) → MayCome w m → LandsOff v q m → waiting (settled_in_stop m w.control.pending) v q ≡ waiting w.control.pending v q
stopped-stays w (Land n x t) v q may off = waiting-marked_else n x t v q w.control.pending off may.ready.coming
stopped-stays w (Overwrite n x t) v q may off = waiting-marked_else n x t v q w.control.pending off may.ready.coming
stopped-stays w (LandBoth n x t) v q may off = waiting-marked_else n x t v q w.control.pending off may.ready.coming
stopped-stays w m v q may off = refl

-- ---- which writes these events reach

-- another volume or track, as a test says
off-by : (v q a b : ℕ) → (nat_eq a v && nat_eq b q) ≡ false → Off v q a b
off-by v q a b none = by (eqb_tells a v) (eqb_tells b q)
  where
    by : IsOrNot a v → IsOrNot b q → Off v q a b
    by (inr ne) second = inl (λ e. ne.1 (sym e))
    by (inl is) (inr ne) = inr (λ e. ne.1 (sym e))
    by (inl is) (inl one) = let no : (nat_eq a v && nat_eq b q) ≡ true = λ i. is.0 i && one.0 i in absurd (let x : true ≡ false = sym no ∙ none in cc)

-- write n is off where the event that tells it doesn't reach the track, by what is known of it
pub on-off : (write : ℕ → Write) (v q n : ℕ) → is_for write v q n ≡ false → Off v q (write n).volume (write n).track
on-off write v q n none = off-by v q (write n).volume (write n).track none

pub stop-off : (write : ℕ → Write) (v q s n : ℕ) → 0 < n → reaches write v q (Stopped s n) ≡ false → Off v q (write n).volume (write n).track
stop-off write v q s n lt none = on-off write v q n (ap (λ b. not b && is_for write v q n) (sym (ne_eqb n 0 (λ e. let no : 0 < 0 = subst (λ n. 0 < n) e lt in omega arith))) ∙ none)
