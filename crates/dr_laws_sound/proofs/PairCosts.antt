-- What the plans on pairs tell: sending tells of each track what is kept of it, at most 12 times, that it was sent, and maybe
-- that the primary was suspended; and so again at a cascaded secondary that sends on what the track was.
use Rattle.std.proofs.Common.{ℕ, zero, suc, ◌≡◌, ◌≤◌, ◌+◌, ◌*◌, List, [], ◌∷◌, ◌++◌, append_assoc, length, map, refl, sym, subst, take, arith, Bool, true, false, cond, Option, Some, None, ◌⊎◌, inl, inr, ◌&&◌}
use Rattle.std.specs.Prelude.{is_some}
use Rattle.dr_ids.specs.declared.refusal.Refusal.{Refusal}
use Rattle.dr_model.specs.declared.event.Event.TheVariants.{Suspended}
use Rattle.dr_model.specs.Layout.{Tracks}
use Rattle.dr_model.specs.Limits.{most_targets}
use Rattle.dr_model.specs.Relations.{in_order}
use Rattle.dr_model.specs.Pairs.{is_suspended, is_last, collides, is_cascaded}
use Rattle.dr_model.specs.Control.{Control, Fuse, Volume, World}
use Rattle.dr_model.specs.Moves.{Move, Store, Strike, Suspend, told}
use Rattle.dr_model.specs.Carry.{Make, Pass, Do, Entry, Next, entries_in}
use Rattle.dr_model.specs.Entries.{fields_at, keep_on, copy_first}
use Rattle.dr_model.specs.PairEntries.{end_if, refuse_if, send_refusal, suspend_where, flashed_refusal, store_on, strike_on, sends, tracks_to_send, sends_first, where_sent, send_first, feeds, drain_stretches, suspend_after}
use Rattle.dr_laws_sound.proofs.Turns.{done}
use Rattle.dr_laws_sound.proofs.Costs.{Costs, costs_next, costs-nil, costs-entry}
use Rattle.dr_laws_sound.proofs.CopyCosts.{MakesNone, count, copies-after, keeps}
use Rattle.dr_laws_sound.proofs.FitsCollide.{sent-joined}
use Rattle.dr_laws_sound.proofs.FitsDrain.{feeds-joined}
use Rattle.dr_facts.proofs.Costs.{in_order-short}
use Rattle.dr_model.specs.WriteEntries.{partner_of}

-- a primary that is suspended tells it once
suspended-once : (none : Bool) (v : ℕ) → length (cond none [] (Suspended v ∷ [])) ≤ 1
suspended-once true v = omega arith
suspended-once false v = omega arith

pub suspend-once : (v : ℕ) (busy : Bool) (u : Volume) → length (told (Suspend v busy) u) ≤ 1
suspend-once v busy u = suspended-once (is_suspended u.fields.primary_state) v

pub costs-refused : (n : ℕ) (w : World) (why : Control → Option Refusal) (ds : List Entry) → Costs n w ds → Costs n w (refuse_if why ∷ ds)
costs-refused n w why ds c = costs-entry n w (refuse_if why) ds _ refl (by (why w.control))
  where
    by : (o : Option Refusal) → costs_next n w (end_if o) (λ m v. Costs m v ds)
    by None = c
    by (Some r) = tt

-- no volume has too many targets
module _ (volumes : List ℕ) where
  abbrev pub Few : World → Type 0
  Few w = (s : ℕ) → count s w volumes ≤ most_targets

  few-done : (w : World) (m : Move) (f : Option Fuse) → MakesNone w m → Few w → Few (done w m f)
  few-done w m f still few s = let le : count s (done w m f) volumes ≤ count s w volumes = copies-after s w m _ (still s) volumes in let was : count s w volumes ≤ most_targets = few s in omega arith

  -- a track is sent from a to s, by entries that come or are passed over: what is kept of it, and that it was sent
  module _ (a s t m : ℕ) (may : Entry → Entry) (passes : (d : Entry) (w : World) → (may d w.control ≡ d w.control) ⊎ (may d w.control ≡ Pass)) (more : List Entry) (next : (b : ℕ) → m ≤ b → (k : World) → Few k → Costs b k more) where
    strike : (b : ℕ) → m ≤ b → (w : World) → Few w → Costs b w (may (strike_on a t) ∷ more)
    strike b le w few =
        let move : Move = Strike a t (is_last (fields_at w.control a) t) in elim (passes (strike_on a t) w) [
          | inl is ↦ costs-entry b w (may (strike_on a t)) more (Do (Make move)) is (next b le w few, (m, ((omega arith), λ f. next m (omega arith) (done w move f) (few-done w move f (λ q h. h) few))))
          | inr is ↦ costs-entry b w (may (strike_on a t)) more Pass is (next b le w few)
        ]

    store : (b : ℕ) → m + 1 ≤ b → (w : World) → Few w → Costs b w (may (store_on a s t) ∷ may (strike_on a t) ∷ more)
    store b le w few =
        let move : Move = Store s t a (is_last (fields_at w.control a) t) in elim (passes (store_on a s t) w) [
          | inl is ↦ costs-entry b w (may (store_on a s t)) _ (Do (Make move)) is (strike b (omega arith) w few, (m, ((omega arith), λ f. strike m (omega arith) (done w move f) (few-done w move f (λ q h. h) few))))
          | inr is ↦ costs-entry b w (may (store_on a s t)) _ Pass is (strike b (omega arith) w few)
        ]

    sent : (b : ℕ) → m + 13 ≤ b → (w : World) → Few w → Costs b w (map (λ x. may (keep_on s t x)) volumes ++ may (store_on a s t) ∷ may (strike_on a t) ∷ more)
    sent b le w few = keeps s t Few (λ x. may (keep_on s t x)) (λ x w few. passes (keep_on s t x) w) (λ w a f few free still. few-done w a f still few) (m + 1) _ store volumes 12 b w (few s) (omega arith) few

  -- a primary is suspended, where that is so
  suspends : (a p : ℕ) (so : Control → Bool) (more : List Entry) → ((b : ℕ) → p ≤ b → (k : World) → Few k → Costs b k more) → (b : ℕ) → p + 1 ≤ b → (w : World) → Few w → Costs b w ((λ k. cond (so k) (Do (Make (Suspend a false))) Pass) ∷ more)
  suspends a p so more next b le w few = costs-entry b w (λ k. cond (so k) (Do (Make (Suspend a false))) Pass) more _ refl (by (so w.control))
    where
      by : (c : Bool) → costs_next b w (cond c (Do (Make (Suspend a false))) Pass) (λ n v. Costs n v more)
      by false = next b (omega arith) w few
      by true =
          let once : length (told (Suspend a false) (w.control.volume a)) ≤ 1 = suspend-once a false (w.control.volume a) in
          (next b (omega arith) w few, (p, ((omega arith), λ f. next p (omega arith) (done w (Suspend a false) f) (few-done w (Suspend a false) f (λ q h. h) few))))

  -- what a track was is sent on first
  first-costs : (v u t m : ℕ) (more : List Entry) → ((b : ℕ) → m ≤ b → (k : World) → Few k → Costs b k more) → (b : ℕ) → m + 14 ≤ b → (w : World) → Few w → Costs b w (send_first volumes v u t ++ more)
  first-costs v u t m more next b le w few =
      suspends v (m + 13) (λ k. collides (fields_at k v) t && is_some (send_refusal v u k)) (map (where_sent v u t) (copy_first volumes u t ++ store_on v u t ∷ strike_on v t ∷ []) ++ more)
      (λ b le k few. subst (Costs b k) (sym (sent-joined v u t more volumes)) (sent v u t m (where_sent v u t) (λ d x. by (sends_first v u t x.control) (d x.control)) more next b le k few)) b (omega arith) w few
    where
      by : (c : Bool) (x : Next) → (cond c x Pass ≡ x) ⊎ (cond c x Pass ≡ Pass)
      by true x = inl refl
      by false x = inr refl

  sends-costs : (a s : ℕ) (ts : List ℕ) (b : ℕ) → length ts * 14 ≤ b → (w : World) → Few w → Costs b w (sends volumes a s ts)
  sends-costs a s [] b le w few = costs-nil b w
  sends-costs a s (t ∷ ts) b le w few =
      subst (λ ds. Costs b w (suspend_where (send_refusal a s) a ∷ refuse_if (send_refusal a s) ∷ refuse_if (flashed_refusal s) ∷ ds)) (sym (append_assoc (copy_first volumes s t) (store_on a s t ∷ strike_on a t ∷ []) (sends volumes a s ts)))
      (suspends a (length ts * 14 + 13) (λ k. is_some (send_refusal a s k)) _ (λ b le k few. costs-refused b k _ _ (costs-refused b k _ _
      (sent a s t (length ts * 14) (λ d. d) (λ d x. inl refl) (sends volumes a s ts) (λ b le k few. sends-costs a s ts b le k few) b le k few))) b (omega arith) w few)

  feeds-costs : (a s c : ℕ) (ts : List ℕ) (b : ℕ) → length ts * 28 ≤ b → (w : World) → Few w → Costs b w (entries_in (feeds volumes a s c ts))
  feeds-costs a s c [] b le w few = costs-nil b w
  feeds-costs a s c (t ∷ ts) b le w few =
      subst (Costs b w) (sym (feeds-joined volumes a s c t ts))
      (suspends a (length ts * 28 + 27) (λ k. is_some (send_refusal a s k)) _ (λ b le k few. costs-refused b k _ _ (costs-refused b k _ _ (costs-refused b k _ _
      (first-costs s c t (length ts * 28 + 13) _
      (sent a s t (length ts * 28) (λ d. d) (λ d x. inl refl) (entries_in (feeds volumes a s c ts)) (λ b le k few. feeds-costs a s c ts b le k few)) b (omega arith) k few)))) b (omega arith) w few)

-- whichever secondary they are sent to
pub drains-costs : (k : Control) (a : ℕ) (ts : List ℕ) (b : ℕ) → length ts * 28 ≤ b → (w : World) → Few k.volumes w → Costs b w (entries_in (drain_stretches k a ts))
drains-costs k a ts b le w few = by (is_cascaded (fields_at k s))
  where
    s : ℕ
    s = partner_of k a

    by : (c : Bool) → Costs b w (entries_in (cond c (feeds k.volumes a s (partner_of k s) ts) (record { entries = sends k.volumes a s ts; follows = suspend_after a } ∷ [])))
    by true = feeds-costs k.volumes a s (partner_of k s) ts b le w few
    by false = sends-costs k.volumes a s ts b (omega arith) w few

-- no more are sent than a volume has
length-take : (n : ℕ) (ts : List ℕ) → length (take n ts) ≤ length ts
length-take zero ts = omega arith
length-take (suc n) [] = omega arith
length-take (suc n) (t ∷ ts) = let le : length (take n ts) ≤ length ts = length-take n ts in omega arith

pub sent-few : (most : Option ℕ) (n : ℕ) (s : Tracks) → length (tracks_to_send most n s) ≤ n
sent-few None n s = in_order-short n s
sent-few (Some k) n s = let a : length (take k (in_order n s)) ≤ length (in_order n s) = length-take k (in_order n s) in let b : length (in_order n s) ≤ n = in_order-short n s in omega arith
