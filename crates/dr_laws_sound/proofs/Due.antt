-- What each track is due to show, after events and with other writes waiting.
use Rattle.std.proofs.Common.{◌<◌, ◌+◌, zero, suc, ◌||◌, ℕ, ◌≡◌, ◌≢◌, ◌⊎◌, inl, inr, refl, ap, sym, ◌∙◌, Bool, true, false, cond, not, ◌&&◌, nat_eq, List, [], ◌∷◌, ◌++◌, map, filter, arith}
use Rattle.std.proofs.lemmas.List.{append-nil}
use Rattle.std.proofs.lemmas.Bool.Decides.{nat_tests, eqb_tells}
use Rattle.std.proofs.lemmas.Bool.{eq-eqb, eqb-true, ne_eqb}
use Rattle.std.proofs.lemmas.List.Sums.{fold-append}
use Rattle.std.specs.List.{fold, list_any, range_with_len}
use Rattle.std.specs.FinSet.{contains}
use Rattle.dr_logic.specs.Bytes.{zeros}
use Rattle.dr_logic.specs.Tables.{at}
use Rattle.dr_model.specs.declared.event.Event.TheVariants.{Ack, Mirrored, Set, Back, Blanked, Restored}
use Rattle.dr_model.specs.Contents.{image, with_write}
use Rattle.dr_model.specs.Layout.{Tracks}
use Rattle.dr_model.specs.Relations.{rest, in_order, is_bare}
use Rattle.dr_model.specs.Histories.{Histories, after_event}
use Rattle.dr_model.specs.Control.{Pending}
use Rattle.dr_model.specs.Moves.{is_write, is_other, marked, told_blank, told_restored}
use Rattle.dr_model.specs.Rows.{emptied}
use Rattle.dr_model.specs.Table.{aside_by, waiting, due_by}
use Rattle.dr_model.specs.Laws.{AllPending}
use Rattle.dr_model.specs.Allowed.{Coming}
use Rattle.dr_model.proofs.Images.{image-push}
use Rattle.dr_facts.proofs.Tables.{IsOrNot, at_cases, at_two, at2_at, at_id}
use Rattle.dr_facts.proofs.Sets.{rest_low}
use Rattle.dr_model.proofs.Asking.{image-none}

-- no write waits on a volume
abbrev pub Calm : List Pending → ℕ → Type 0
Calm ps v = (q : ℕ) → waiting ps v q ≡ []

-- tracks that are blanked leave each write as it was issued, and what is kept aside
blanked : (h : Histories) (v : ℕ) (ts : List ℕ) → let x : Histories = fold after_event h (map (Blanked v) ts) in (x.write ≡ h.write) × (x.aside ≡ h.aside)
blanked h v [] = (refl, refl)
blanked h v (t ∷ ts) = blanked (after_event h (Blanked v t)) v ts

-- a write that hasn't landed leaves the queue
settled-by : (n u q : ℕ) (p : Pending) (ps : List Pending) (b : Bool) → is_write n p ≡ b → AllPending (λ p. p.landed ≡ false) (cond b (p ∷ filter (is_write n) ps) (filter (is_write n) ps))
    → (AllPending (λ p. p.landed ≡ false) (filter (is_write n) ps) → waiting (filter (is_other n) ps) u q ≡ waiting ps u q)
    → waiting (cond b (filter (is_other n) ps) (p ∷ filter (is_other n) ps)) u q ≡ waiting (p ∷ ps) u q
settled-by n u q p ps true h all on = on all.1 ∙ sym (ap (λ l. cond (l && (nat_eq p.volume u && nat_eq p.track q)) (p.w ∷ waiting ps u q) (waiting ps u q)) all.0)
settled-by n u q p ps false h all on = ap (λ ws. cond (p.landed && (nat_eq p.volume u && nat_eq p.track q)) (p.w ∷ ws) ws) (on all)

-- a list without its write n, by whether the first is that write
pub without : (n : ℕ) (p : Pending) (ps : List Pending) (b : Bool) → is_write n p ≡ b → filter (is_other n) (p ∷ ps) ≡ cond b (filter (is_other n) ps) (p ∷ filter (is_other n) ps)
without n p ps true h = ap (λ b. cond (not b) (p ∷ filter (is_other n) ps) (filter (is_other n) ps)) h
without n p ps false h = ap (λ b. cond (not b) (p ∷ filter (is_other n) ps) (filter (is_other n) ps)) h

pub waiting-settled : (n u q : ℕ) (ps : List Pending) → AllPending (λ p. p.landed ≡ false) (filter (is_write n) ps) → waiting (filter (is_other n) ps) u q ≡ waiting ps u q
waiting-settled n u q [] all = refl
waiting-settled n u q (p ∷ ps) all =
    ap (λ ps. waiting ps u q) (without n p ps (is_write n p) refl) ∙ settled-by n u q p ps (is_write n p) refl all (waiting-settled n u q ps)

-- or is marked as landed: nothing else waits more
marked_else-by : (n v t u q : ℕ) (p : Pending) (ps : List Pending) (b : Bool) → (u ≢ v) ⊎ (q ≢ t) → AllPending (Coming v t) (cond b (p ∷ filter (is_write n) ps) (filter (is_write n) ps))
    → (AllPending (Coming v t) (filter (is_write n) ps) → waiting (marked n ps) u q ≡ waiting ps u q)
    → waiting (cond b (record p { landed = true }) p ∷ marked n ps) u q ≡ waiting (p ∷ ps) u q
marked_else-by n v t u q p ps true (inl ne) all on =
    let c = all.0 in let e : nat_eq p.volume u ≡ false = (let i = c.volume in grind (arith, nat_tests)) in
    ap (λ l. cond (l && nat_eq p.track q) (p.w ∷ waiting (marked n ps) u q) (waiting (marked n ps) u q)) e ∙ on all.1
    ∙ sym (ap (λ l. cond (l && (nat_eq p.volume u && nat_eq p.track q)) (p.w ∷ waiting ps u q) (waiting ps u q)) c.landed)
marked_else-by n v t u q p ps true (inr ne) all on =
    let c = all.0 in let e : (nat_eq p.volume u && nat_eq p.track q) ≡ false = (let i = c.track in grind (arith, nat_tests)) in
    ap (λ l. cond l (p.w ∷ waiting (marked n ps) u q) (waiting (marked n ps) u q)) e ∙ on all.1
    ∙ sym (ap (λ l. cond (l && (nat_eq p.volume u && nat_eq p.track q)) (p.w ∷ waiting ps u q) (waiting ps u q)) c.landed)
marked_else-by n v t u q p ps false ne all on = ap (λ ws. cond (p.landed && (nat_eq p.volume u && nat_eq p.track q)) (p.w ∷ ws) ws) (on all)

pub waiting-marked_else : (n v t u q : ℕ) (ps : List Pending) → (u ≢ v) ⊎ (q ≢ t) → AllPending (Coming v t) (filter (is_write n) ps) → waiting (marked n ps) u q ≡ waiting ps u q
waiting-marked_else n v t u q [] ne all = refl
waiting-marked_else n v t u q (p ∷ ps) ne all = marked_else-by n v t u q p ps (is_write n p) ne all (waiting-marked_else n v t u q ps ne)

-- and on its own track it alone waits
cut-none : {X : Type 0} (b : Bool) (x : X) (xs : List X) → cond b (x ∷ xs) xs ≡ [] → (b ≡ false) × (xs ≡ [])
cut-none true x xs h = absurd cc
cut-none false x xs h = (refl, h)

marked_here-by : (n v t : ℕ) (p : Pending) (ps : List Pending) (b : Bool) → AllPending (Coming v t) (cond b (p ∷ filter (is_write n) ps) (filter (is_write n) ps)) → waiting (p ∷ ps) v t ≡ []
    → (AllPending (Coming v t) (filter (is_write n) ps) → waiting ps v t ≡ [] → waiting (marked n ps) v t ≡ map (λ (p : Pending). p.w) (filter (is_write n) ps))
    → waiting (cond b (record p { landed = true }) p ∷ marked n ps) v t ≡ map (λ (p : Pending). p.w) (cond b (p ∷ filter (is_write n) ps) (filter (is_write n) ps))
marked_here-by n v t p ps true all none on =
    let c = all.0 in let i = c.volume in let j = c.track in let e : (nat_eq p.volume v && nat_eq p.track t) ≡ true = grind (arith, nat_tests) in
    ap (λ l. cond l (p.w ∷ waiting (marked n ps) v t) (waiting (marked n ps) v t)) e ∙ ap (λ ws. p.w ∷ ws) (on all.1 (cut-none _ p.w (waiting ps v t) none).1)
marked_here-by n v t p ps false all none on =
    let r = cut-none _ p.w (waiting ps v t) none in
    ap (λ l. cond l (p.w ∷ waiting (marked n ps) v t) (waiting (marked n ps) v t)) r.0 ∙ on all r.1

pub waiting-marked_here : (n v t : ℕ) (ps : List Pending) → AllPending (Coming v t) (filter (is_write n) ps) → waiting ps v t ≡ [] → waiting (marked n ps) v t ≡ map (λ (p : Pending). p.w) (filter (is_write n) ps)
waiting-marked_here n v t [] all none = refl
waiting-marked_here n v t (p ∷ ps) all none = marked_here-by n v t p ps (is_write n p) all none (waiting-marked_here n v t ps)

pub none_landed : (v t : ℕ) (ps : List Pending) → AllPending (Coming v t) ps → AllPending (λ p. p.landed ≡ false) ps
none_landed v t [] all = tt
none_landed v t (p ∷ ps) all = (all.0.landed, none_landed v t ps all.1)

-- which tracks of a set stand in a list of them in order
any-kept : (f : ℕ → Bool) (q : ℕ) (xs : List ℕ) → list_any (nat_eq q) (filter f xs) ≡ (f q && list_any (nat_eq q) xs)
any-kept f q [] = none (f q)
  where
    none : (b : Bool) → false ≡ (b && false)
    none true = refl
    none false = refl
any-kept f q (x ∷ xs) = by (f x) refl (eqb_tells q x) (any-kept f q xs)
  where
    by : (b : Bool) → f x ≡ b → IsOrNot q x → list_any (nat_eq q) (filter f xs) ≡ (f q && list_any (nat_eq q) xs) → list_any (nat_eq q) (cond b (x ∷ filter f xs) (filter f xs)) ≡ (f q && (nat_eq q x || list_any (nat_eq q) xs))
    by true e (inl is) on = ap (λ b. b || list_any (nat_eq q) (filter f xs)) is.0 ∙ sym (λ i. (ap f is.1 ∙ e) i && (is.0 i || list_any (nat_eq q) xs))
    by true e (inr not) on = ap (λ b. b || list_any (nat_eq q) (filter f xs)) not.0 ∙ on ∙ sym (ap (λ b. f q && (b || list_any (nat_eq q) xs)) not.0)
    by false e (inl is) on = on ∙ ap (λ b. b && list_any (nat_eq q) xs) (ap f is.1 ∙ e) ∙ sym (ap (λ b. b && (nat_eq q x || list_any (nat_eq q) xs)) (ap f is.1 ∙ e))
    by false e (inr not) on = on ∙ sym (ap (λ b. f q && (b || list_any (nat_eq q) xs)) not.0)

in_range : (n b q : ℕ) → b < q + 1 → q < b + n → list_any (nat_eq q) (range_with_len b n) ≡ true
in_range zero b q lo hi = absurd (omega arith)
in_range (suc n) b q lo hi = elim (eqb_tells q b) [
  | inl is ↦ ap (λ c. c || list_any (nat_eq q) (range_with_len (b + 1) n)) is.0
  | inr not ↦ ap (λ c. c || list_any (nat_eq q) (range_with_len (b + 1) n)) not.0 ∙ in_range n (b + 1) q (let ne : q ≢ b = not.1 in omega arith) (omega arith)
]

pub in_order-rest : (n : ℕ) (own : Tracks) (q : ℕ) → list_any (nat_eq q) (in_order n (rest n own)) ≡ contains (rest n own) q
unfolding in_order
in_order-rest n own q = any-kept (contains (rest n own)) q (range_with_len 0 n) ∙ by (contains (rest n own) q) refl
  where
    by : (b : Bool) → contains (rest n own) q ≡ b → (b && list_any (nat_eq q) (range_with_len 0 n)) ≡ b
    by true e = in_range n 0 q (omega arith) (let lt = rest_low n own q e in omega arith)
    by false e = refl

-- what is due where the lists of one volume change
module _ (h : Histories) (ps : List Pending) where
  abbrev old : ℕ → ℕ → List ℕ
  old = due_by h ps

  pub due-same : (v u q : ℕ) → old u q ≡ at old v (old v) u q
  due-same v u q = sym (ap (λ f. f q) (at_id old v u))

  -- other lists of one volume, and other writes that wait on it
  pub due-at : (v : ℕ) (l d : ℕ → List ℕ) (more : ℕ → ℕ → List ℕ) (u q : ℕ) → image h.write (l q ++ more v q) ≡ d q → (u ≢ v → more u q ≡ waiting ps u q)
      → image h.write (at h.now v l u q ++ more u q) ≡ at old v d u q
  due-at v l d more u q here else = at_two (λ u l d. (u ≢ v → more u q ≡ waiting ps u q) → image h.write (l q ++ more u q) ≡ d q) h.now old v l d (λ e. here) (λ u ne e. ap (λ ws. image h.write (h.now u q ++ ws)) (e ne)) u else

  -- a write lands: acknowledged, or in a stop
  landed-at : (n v t : ℕ) → Calm ps v → image h.write ((h.now v t ++ n ∷ []) ++ []) ≡ with_write h.write (old v t) n
  landed-at n v t calm =
      ap (image h.write) (append-nil (h.now v t ++ n ∷ [])) ∙ image-push h.write (h.now v t) n
      ∙ ap (λ ws. with_write h.write (image h.write ws) n) (sym (append-nil (h.now v t)) ∙ ap (λ ws. h.now v t ++ ws) (sym (calm t)))

  pub acked_lists : (n v t : ℕ) → (h.write n).volume ≡ v → (h.write n).track ≡ t → after_event h (Ack n) ≡ record h { now = at h.now v (at (h.now v) t (h.now v t ++ n ∷ [])) }
  acked_lists n v t on of =
      (λ i. record h { now = at2_at h.now (h.write n).volume (h.write n).track (h.now (h.write n).volume (h.write n).track ++ n ∷ []) i })
      ∙ (λ i. record h { now = at h.now (on i) (at (h.now (on i)) (of i) (h.now (on i) (of i) ++ n ∷ [])) })

  pub due-acked : (n v t : ℕ) → (h.write n).volume ≡ v → (h.write n).track ≡ t → Calm ps v → AllPending (Coming v t) (filter (is_write n) ps) → (u q : ℕ)
      → due_by (after_event h (Ack n)) (filter (is_other n) ps) u q ≡ at old v (at (old v) t (with_write h.write (old v t) n)) u q
  due-acked n v t on of calm coming u q =
      let ws : (ℕ → ℕ → List ℕ) = waiting (filter (is_other n) ps) in
      let same : ((u q : ℕ) → ws u q ≡ waiting ps u q) = λ u q. waiting-settled n u q ps (none_landed v t (filter (is_write n) ps) coming) in
      ap (λ (h : Histories). due_by h (filter (is_other n) ps) u q) (acked_lists n v t on of)
      ∙ due-at v (at (h.now v) t (h.now v t ++ n ∷ [])) (at (old v) t (with_write h.write (old v t) n)) ws u q
      (at_two (λ q l d. image h.write (l ++ ws v q) ≡ d) (h.now v) (old v) t _ _ (ap (λ r. image h.write ((h.now v t ++ n ∷ []) ++ r)) (same v t ∙ calm t) ∙ landed-at n v t calm) (λ q ne. ap (λ r. image h.write (h.now v q ++ r)) (same v q)) q)
      (λ ne. same u q)

  pub due-marked : (n v t : ℕ) → Calm ps v → AllPending (Coming v t) (filter (is_write n) ps) → map (λ (p : Pending). p.w) (filter (is_write n) ps) ≡ n ∷ [] → (u q : ℕ)
      → due_by h (marked n ps) u q ≡ at old v (at (old v) t (with_write h.write (old v t) n)) u q
  due-marked n v t calm coming one u q = at_cases (λ u d. due_by h (marked n ps) u q ≡ d q) old v (at (old v) t (with_write h.write (old v t) n))
      (at_cases (λ q d. due_by h (marked n ps) v q ≡ d) (old v) t _
      (ap (λ ws. image h.write (h.now v t ++ ws)) (waiting-marked_here n v t ps coming (calm t) ∙ one) ∙ ap (image h.write) (sym (append-nil _)) ∙ landed-at n v t calm)
      (λ q ne. ap (λ ws. image h.write (h.now v q ++ ws)) (waiting-marked_else n v t v q ps (inr ne) coming)) q)
      (λ u ne. ap (λ ws. image h.write (h.now u q ++ ws)) (waiting-marked_else n v t u q ps (inl ne) coming)) u

  -- a write is stored on another volume that takes its track
  mirrored_lists : (n v t a : ℕ) → (h.write n).volume ≡ a → (h.write n).track ≡ t → (after_event h (Mirrored n v)).now ≡ at h.now v (at (h.now v) t (h.now a t ++ n ∷ []))
  mirrored_lists n v t a on of =
      at2_at h.now v (h.write n).track (h.now (h.write n).volume (h.write n).track ++ n ∷ [])
      ∙ (λ i. at h.now v (at (h.now v) (of i) (h.now (on i) (of i) ++ n ∷ [])))

  pub due-mirrored : (n v t a : ℕ) → (h.write n).volume ≡ a → (h.write n).track ≡ t → Calm ps v → Calm ps a → (u q : ℕ)
      → due_by (after_event h (Mirrored n v)) ps u q ≡ at old v (at (old v) t (with_write h.write (old a t) n)) u q
  due-mirrored n v t a on of calm from u q =
      ap (λ (l : ℕ → ℕ → List ℕ). image h.write (l u q ++ waiting ps u q)) (mirrored_lists n v t a on of)
      ∙ due-at v (at (h.now v) t (h.now a t ++ n ∷ [])) (at (old v) t (with_write h.write (old a t) n)) (waiting ps) u q
      (at_two (λ q l d. image h.write (l ++ waiting ps v q) ≡ d) (h.now v) (old v) t _ _ (ap (λ r. image h.write ((h.now a t ++ n ∷ []) ++ r)) (calm t) ∙ landed-at n a t from) (λ q ne. refl) q) (λ ne. refl)

  pub due-set : (v s : ℕ) → Calm ps v → Calm ps s → (u q : ℕ) → due_by (after_event h (Set v s)) ps u q ≡ at old v (old s) u q
  due-set v s calm from u q = due-at v (h.now s) (old s) (waiting ps) u q (ap (λ ws. image h.write (h.now s q ++ ws)) (calm q ∙ sym (from q))) (λ ne. refl)

  pub due-back : (v t a : ℕ) → Calm ps v → Calm ps a → (u q : ℕ) → due_by (after_event h (Back v t a)) ps u q ≡ at old v (at (old v) t (old a t)) u q
  due-back v t a calm from u q =
      ap (λ (l : ℕ → ℕ → List ℕ). image h.write (l u q ++ waiting ps u q)) (at2_at h.now v t (h.now a t))
      ∙ due-at v (at (h.now v) t (h.now a t)) (at (old v) t (old a t)) (waiting ps) u q
      (at_two (λ q l d. image h.write (l ++ waiting ps v q) ≡ d) (h.now v) (old v) t (h.now a t) (old a t) (ap (λ ws. image h.write (h.now a t ++ ws)) (calm t ∙ sym (from t))) (λ q ne. refl) q) (λ ne. refl)

  -- tracks are blanked
  not_any : (b : Bool) (x : List ℕ) → x ≡ cond (b && false) [] x
  not_any true x = refl
  not_any false x = refl

  either : (d a : Bool) (x : List ℕ) → cond a [] (cond d [] x) ≡ cond (d || a) [] x
  either true true x = refl
  either true false x = refl
  either false a x = refl

  blanked-by : (h : Histories) (v t u q : ℕ) (a c : Bool) → (c ≡ true → u ≡ v) → cond (c && a) [] (cond c (cond (nat_eq q t) [] (h.now u q)) (h.now u q)) ≡ cond (c && (nat_eq q t || a)) [] (h.now u q)
  blanked-by h v t u q a true e = either (nat_eq q t) a (h.now u q)
  blanked-by h v t u q a false e = refl

  blanked-now : (h : Histories) (v : ℕ) (ts : List ℕ) (u q : ℕ) → (fold after_event h (map (Blanked v) ts)).now u q ≡ cond (nat_eq u v && list_any (nat_eq q) ts) [] (h.now u q)
  blanked-now h v [] u q = not_any (nat_eq u v) (h.now u q)
  blanked-now h v (t ∷ ts) u q = blanked-now (after_event h (Blanked v t)) v ts u q ∙ blanked-by h v t u q (list_any (nat_eq q) ts) (nat_eq u v) (eqb-true u v)

  blanked-due : (v q : ℕ) (b : Bool) → Calm ps v → image h.write (cond b [] (h.now v q) ++ waiting ps v q) ≡ cond b zeros (old v q)
  blanked-due v q true calm = ap (image h.write) (calm q) ∙ image-none h.write
  blanked-due v q false calm = refl

  pub due-blanked : (v n : ℕ) (own : Tracks) → Calm ps v → (u q : ℕ) → due_by (fold after_event h (told_blank v n own)) ps u q ≡ at old v (emptied true n own (old v)) u q
  due-blanked v n own calm u q =
      let ts : List ℕ = in_order n (rest n own) in
      let any : Bool = list_any (nat_eq q) ts in
      (λ i. image ((blanked h v ts).0 i) (blanked-now h v ts u q i ++ waiting ps u q))
      ∙ at_cases (λ u d. image h.write (cond (nat_eq u v && any) [] (h.now u q) ++ waiting ps u q) ≡ d q) old v (emptied true n own (old v))
      ((λ i. image h.write (cond (eq-eqb v v refl i && in_order-rest n own q i) [] (h.now v q) ++ waiting ps v q)) ∙ blanked-due v q (contains (rest n own) q) calm)
      (λ u ne. ap (λ b. image h.write (cond (b && any) [] (h.now u q) ++ waiting ps u q)) (ne_eqb u v ne)) u

  -- a restore may have ended
  pub due-restored : (v s n : ℕ) (own : Tracks) → Calm ps v → (u q : ℕ) → due_by (fold after_event h (told_restored v s n own)) ps u q ≡ at old v (emptied (is_bare own) n own (old v)) u q
  due-restored v s n own calm u q = by (is_bare own)
    where
      by : (b : Bool) → due_by (fold after_event h (cond b (told_blank v n own ++ Restored s v ∷ []) [])) ps u q ≡ at old v (emptied b n own (old v)) u q
      by true = ap (λ (h : Histories). due_by h ps u q) (fold-append after_event h (told_blank v n own) (Restored s v ∷ [])) ∙ due-blanked v n own calm u q
      by false = due-same v u q

-- what is kept aside, by the events of moves
module _ (h : Histories) where
  abbrev kept : ℕ → ℕ → List ℕ
  kept = aside_by h

  pub aside-same : (v u q : ℕ) → kept u q ≡ at kept v (kept v) u q
  aside-same v u q = sym (ap (λ f. f q) (at_id kept v u))

  pub aside-blanked : (v n : ℕ) (own : Tracks) (u q : ℕ) → aside_by (fold after_event h (told_blank v n own)) u q ≡ at kept v (kept v) u q
  aside-blanked v n own u q = (let is = blanked h v (in_order n (rest n own)) in λ i. image (is.0 i) (is.1 i u q)) ∙ aside-same v u q

  pub aside-restored : (v s n : ℕ) (own : Tracks) (u q : ℕ) → aside_by (fold after_event h (told_restored v s n own)) u q ≡ at kept v (kept v) u q
  aside-restored v s n own u q = by (is_bare own)
    where
      by : (b : Bool) → aside_by (fold after_event h (cond b (told_blank v n own ++ Restored s v ∷ []) [])) u q ≡ at kept v (kept v) u q
      by true = ap (λ (h : Histories). aside_by h u q) (fold-append after_event h (told_blank v n own) (Restored s v ∷ [])) ∙ aside-blanked v n own u q
      by false = aside-same v u q

  -- other lists of one volume are kept
  pub aside-at : (v : ℕ) (l d : ℕ → List ℕ) (u q : ℕ) → image h.write (l q) ≡ d q → image h.write (at h.aside v l u q) ≡ at kept v d u q
  aside-at v l d u q here = at_two (λ u l d. image h.write (l q) ≡ d q) h.aside kept v l d here (λ u ne. refl) u
