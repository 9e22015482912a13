-- A pending write comes to land: where its volume's server is on and the volume is a place for it, it may.
use Rattle.std.proofs.Common.{ℕ, ◌≡◌, refl, ap, sym, ◌∙◌, subst, Bool, true, false, cond, ◌&&◌, ◌||◌, List, [], ◌∷◌, ◌++◌, map, filter, Some, None}
use Rattle.std.proofs.lemmas.Bool.{false_from_ne_true, eqb-true, ne_eqb, not-true, or_parts}
use Rattle.std.specs.List.{find}
use Rattle.std.specs.FinSet.{contains}
use Rattle.dr_ids.specs.declared.refusal.Refusal.{Refusal}
use Rattle.dr_model.specs.Layout.{Fields, is_part}
use Rattle.dr_model.specs.Histories.{histories}
use Rattle.dr_model.specs.Control.{Control, Pending, Volume, World}
use Rattle.dr_model.specs.Moves.{Land, Overwrite, is_write}
use Rattle.dr_model.specs.Carry.{Make, Drop, dropped, Pass, Do, Entry, check}
use Rattle.dr_model.specs.Entries.{fields_at, is_open, is_settled, is_revertible, is_reversing, stands_in, copies_from, keep_on, land_on, land_alone, drop_unless, check_or_drop}
use Rattle.dr_model.specs.Laws.{Sound, Waits, AllPending, Apart}
use Rattle.dr_model.specs.Allowed.{Coming, MayAck, Runs}
use Rattle.dr_laws_attempts.proofs.Moves.{uncounted-by}
use Rattle.dr_laws_closed.proofs.Pendings.{all-filter}
use Rattle.dr_laws_sound.proofs.RowsAfter.{idle}
use Rattle.dr_laws_sound.proofs.KeepsSound.{Along, Then, over, decides, checked}
use Rattle.dr_laws_sound.proofs.FitsFlash.{both-not}
use Rattle.dr_laws_sound.proofs.CopyFirst.{from, any-has, copy-first, copy-none}
use Rattle.dr_logic.proofs.Choices.{chosen, choose_some, choose_none}
use Rattle.dr_logic.proofs.Truth.{and-second-false, false_true}
use Rattle.dr_facts.proofs.Relations.{from-copies}
use Rattle.dr_logic.proofs.Options.{none_some}
use Rattle.dr_model.specs.Pairs.{held}

-- a pending write that was found by its number is the only one with it
none-of : (n : ℕ) (ps : List Pending) → AllPending (λ q. q.w ≡ n → ⊥) ps → filter (is_write n) ps ≡ []
none-of n [] all = refl
none-of n (p ∷ ps) all = ap (λ b. cond b (p ∷ filter (is_write n) ps) (filter (is_write n) ps)) (ne_eqb p.w n all.0) ∙ none-of n ps all.1

abbrev Alone : ℕ → Pending → List Pending → Type 0
Alone n p ps = (p.w ≡ n) × (ps ≡ p ∷ [])

alone-by : (n : ℕ) (x p : Pending) (xs : List Pending) (b : Bool) → is_write n x ≡ b → cond b (Some x) (find (is_write n) xs) ≡ Some p → AllPending (λ q. q.w ≡ x.w → ⊥) xs
    → (find (is_write n) xs ≡ Some p → Alone n p (filter (is_write n) xs)) → Alone n p (cond b (x ∷ filter (is_write n) xs) (filter (is_write n) xs))
alone-by n x p xs true is h apart more =
    let e : x ≡ p = cc in
    let number : x.w ≡ n = eqb-true x.w n is in
    (ap (λ (p : Pending). p.w) (sym e) ∙ number, (λ i. e i ∷ none-of n xs (subst (λ m. AllPending (λ q. q.w ≡ m → ⊥) xs) number apart) i))
alone-by n x p xs false is h apart more = more h

alone : (n : ℕ) (p : Pending) (ps : List Pending) → find (is_write n) ps ≡ Some p → Apart ps → Alone n p (filter (is_write n) ps)
alone n p [] h apart = absurd cc
alone n p (x ∷ xs) h apart = alone-by n x p xs (is_write n x) refl h apart.0 (λ h. alone n p xs h apart.1)

pub found-alone : (n : ℕ) (p : Pending) (ps : List Pending) → find (is_write n) ps ≡ Some p → Apart ps → filter (is_write p.w) ps ≡ p ∷ []
found-alone n p ps h apart = let a = alone n p ps h apart in subst (λ m. filter (is_write m) ps ≡ p ∷ []) (sym a.0) a.1

all-found : (P : Pending → Type 0) (p : Pending) (ps : List Pending) → filter (is_write p.w) ps ≡ p ∷ [] → AllPending P ps → P p
all-found P p ps one all = (subst (AllPending P) one (all-filter P (is_write p.w) ps all)).0

-- it is one for a track that is there, and the one that was issued
pub found-waits : (w : World) → Sound w → (n : ℕ) (p : Pending) → find (is_write n) w.control.pending ≡ Some p → Waits None w.control (histories w.events).write p
found-waits w s n p found = all-found _ p w.control.pending (found-alone n p w.control.pending found s.queue.apart) s.queue.each

-- one of the queue, alone with its number
module _ (w : World) (s : Sound w) (p : Pending) (one : filter (is_write p.w) w.control.pending ≡ p ∷ []) where
  pub waits : Waits None w.control (histories w.events).write p
  waits = all-found _ p w.control.pending one s.queue.each

  not_landed : Runs w p.volume → p.landed ≡ false
  not_landed on = false_from_ne_true p.landed (λ l. false_true (waits.calm l refl) on)

  pub unlanded : Runs w p.volume → AllPending (λ p. p.landed ≡ false) (filter (is_write p.w) w.control.pending)
  unlanded on = subst (AllPending (λ p. p.landed ≡ false)) (sym one) (not_landed on, tt)

  pub may-ack : Runs w p.volume → MayAck w p.w p.volume p.track
  may-ack on = record {
    number = waits.number;
    positive = waits.positive;
    volume = waits.volume;
    track = waits.track;
    coming = subst (AllPending (Coming p.volume p.track)) (sym one) (record { volume = refl; track = refl; landed = not_landed on }, tt);
    one = ap (map (λ (p : Pending). p.w)) one;
    idle = idle w p.volume s.queue on;
  }

-- a check that drops the write where it doesn't pass
pub dropped-checked : (w : World) (n : ℕ) (ok : Control → Bool) (r : Refusal) (ds : List Entry) → Sound w → AllPending (λ p. p.landed ≡ false) (filter (is_write n) w.control.pending) → ok (dropped w n).control ≡ ok w.control
    → (ok w.control ≡ true → Along w ds) → Along w (check_or_drop n ok r ++ ds)
dropped-checked w n ok r ds s unlanded same go = decides w (drop_unless n ok) (check ok r ∷ ds) _ refl (by (ok w.control) refl)
  where
    by : (b : Bool) → ok w.control ≡ b → Then w (cond b Pass (Do (Drop n))) (λ v. Along v (check ok r ∷ ds))
    by true is = checked w ok r ds s go
    by false is = (unlanded, λ f k. checked (dropped w n) ok r ds k (λ passed. false_true is (sym same ∙ passed)))

-- coordination or a flash hold holds its host writes back; a volume that isn't held at all isn't held back
abbrev pub held_back : Fields → Bool
held_back f = f.coordination || f.flash_hold

pub not-back : (f : Fields) → held f ≡ false → held_back f ≡ false
not-back f none =
    let parts = or_parts (f.coordination || f.long_busy) f.flash_hold none in
    λ i. (or_parts f.coordination f.long_busy parts.0).0 i || parts.1 i

pub not-busy : (f : Fields) → held f ≡ false → f.long_busy ≡ false
not-busy f none = (or_parts f.coordination f.long_busy (or_parts (f.coordination || f.long_busy) _ none).0).1

pub back-parts : (f : Fields) → held_back f ≡ false → (f.coordination ≡ false) × (f.flash_hold ≡ false)
back-parts f = or_parts f.coordination f.flash_hold

-- nothing is restored onto a volume
abbrev pub Unrestored : World → ℕ → Type 0
Unrestored w v = (u : ℕ) → from w u ≡ Some v → (fields_at w.control u).reversing ≡ true → ⊥

-- as where it is settled
pub unrestored : {P : Type 0} (w : World) → Sound w → (v : ℕ) → is_settled v w.control ≡ true → (u : ℕ) → from w u ≡ Some v → (fields_at w.control u).reversing ≡ true → P
unrestored w s v settled u h r =
    let calm = (both-not (stands_in is_revertible w.control v) (stands_in is_reversing w.control v) settled).1 in
    false_true (or_parts ((fields_at w.control v).related && (fields_at w.control v).reversing) _ calm).1
    (any-has (λ u. copies_from v (fields_at w.control u)) (λ u. (fields_at w.control u).reversing) u w.control.volumes (s.rows.structure.defined u (chosen _ _ v h).0) (from-copies v (fields_at w.control u) h) r)

-- no target of a volume is revertible
abbrev pub Unflashed : World → ℕ → Type 0
Unflashed w v = (u : ℕ) → from w u ≡ Some v → (fields_at w.control u).revertible ≡ true → ⊥

-- as where none stands in the way
pub unflashed-by : (w : World) → Sound w → (v : ℕ) → stands_in is_revertible w.control v ≡ false → Unflashed w v
unflashed-by w s v calm u h r =
    false_true (or_parts ((fields_at w.control v).related && (fields_at w.control v).revertible) _ calm).1
    (any-has (λ u. copies_from v (fields_at w.control u)) (λ u. (fields_at w.control u).revertible) u w.control.volumes (s.rows.structure.defined u (chosen _ _ v h).0) (from-copies v (fields_at w.control u) h) r)

pub unflashed : (w : World) → Sound w → (v : ℕ) → is_settled v w.control ≡ true → Unflashed w v
unflashed w s v settled = unflashed-by w s v (both-not (stands_in is_revertible w.control v) (stands_in is_reversing w.control v) settled).0

module _ (w : World) (s : Sound w) (p : Pending) (one : filter (is_write p.w) w.control.pending ≡ p ∷ []) where
  abbrev v : ℕ
  v = p.volume

  abbrev f : Fields
  f = fields_at w.control v

  -- on a volume that is no target, onto which nothing is restored, and whose targets keep the track first
  pub plain-lands : Runs w v → is_part f.secondary ≡ false → f.related ≡ false → held_back f ≡ false → (f.recording ≡ true → contains f.out_of_sync p.track ≡ false) → Unrestored w v → Unflashed w v → Along w (land_alone w.control.volumes p.w v p.track)
  plain-lands on free is open_to sent still settled =
      let plain : from w v ≡ None = choose_none f.related f.source is in
      copy-first v p.track w plain (waits w s p one).low on (keep_on v p.track) (λ w x y st. refl) _
      (λ k sk st kept.
      let here = st.volume v plain in
      let one_k : filter (is_write p.w) k.control.pending ≡ p ∷ [] = ap (filter (is_write p.w)) st.pending ∙ one in
      let on_k : Runs k v = (λ i. st.on i (here i).server) ∙ on in
      let waits_k = waits k sk p one_k in
      let is_k : (fields_at k.control v).related ≡ false = ap (λ (x : Volume). x.fields.related) here ∙ is in
      let back = back-parts (fields_at k.control v) (ap (λ (x : Volume). held_back x.fields) here ∙ open_to) in
      decides k (land_on p.w v p.track) [] (Do (Make (Land p.w v p.track))) (ap (λ b. Do (Make (cond b (Overwrite p.w v p.track) (Land p.w v p.track)))) is_k) (
        record {
          runs = on_k;
          allowed = record {
            receives = record { low = waits_k.low; kept = kept; free = back.0; sent = λ r. ap (λ (x : Volume). contains x.fields.out_of_sync p.track) here ∙ sent (ap (λ (x : Volume). x.fields.recording) (sym here) ∙ r) };
            defined = waits_k.defined;
            plain = choose_none _ _ is_k;
            first = ap (λ (x : Volume). is_part x.fields.secondary) here ∙ free;
            let_go = back.1;
          };
          fits = tt;
          group = tt;
          ready = may-ack k sk p one_k on_k;
        },
        λ f j. over _ j,
      ))
      (λ u h r. absurd (still u h r)) settled s

  -- on a target, which isn't restored, and on which the host may write: so it doesn't count in a session
  target-lands : Runs w v → f.related ≡ true → f.reversing ≡ false → f.revertible ≡ false → f.inhibited ≡ false → held_back f ≡ false → Along w (land_alone w.control.volumes p.w v p.track)
  target-lands on is forward settled writable open_to =
      let related : from w v ≡ Some f.source = choose_some f.related f.source is in
      copy-none w v p.track _ (λ u h. none_some (s.rows.structure.flash u v h).plain related)
      (decides w (land_on p.w v p.track) [] (Do (Make (Overwrite p.w v p.track))) (ap (λ b. Do (Make (cond b (Overwrite p.w v p.track) (Land p.w v p.track)))) is) (
        record { runs = on; allowed = record { low = (waits w s p one).low; from = f.source; related = related; forward = forward; settled = settled; let_go = (back-parts f open_to).1 }; fits = tt; group = ((s.rows.structure.flags v).persists, uncounted-by w.control s.attempts v (λ t. false_true writable t.inhibits)); ready = may-ack w s p one on },
        λ f j. over _ j,
      )) w.control.volumes

  -- on either: a volume that is settled isn't restored, nor is another onto it
  pub lands-alone : Runs w v → is_part f.secondary ≡ false → is_open v w.control ≡ true → is_settled v w.control ≡ true → held_back f ≡ false → (f.recording ≡ true → contains f.out_of_sync p.track ≡ false) → (b : Bool) → f.related ≡ b → Along w (land_alone w.control.volumes p.w v p.track)
  lands-alone on free writable settled open_to sent true is = target-lands on is (and-second-false f.related f.reversing (or_parts (f.related && f.reversing) _ (both-not (stands_in is_revertible w.control v) (stands_in is_reversing w.control v) settled).1).0 is)
      (and-second-false f.related f.revertible (or_parts (f.related && f.revertible) _ (both-not (stands_in is_revertible w.control v) (stands_in is_reversing w.control v) settled).0).0 is)
      (and-second-false f.related f.inhibited (not-true (f.related && f.inhibited) writable) is) open_to
  lands-alone on free writable settled open_to sent false is = plain-lands on free is open_to sent (λ u h r. unrestored w s v settled u h r) (unflashed w s v settled)
