-- For any law: what each act keeps where it may come, every plan keeps whose acts may come where they come: where it
-- ends, at every stop, at every moment, and where servers go off by themselves.
use Rattle.std.proofs.Common.{ℕ, zero, suc, ◌≡◌, inl, inr, refl, ap, sym, subst, Bool, true, false, cond, List, [], ◌∷◌, ◌++◌, take, Option, Some, None}
use Rattle.dr_ids.specs.declared.refusal.Refusal.{Refusal}
use Rattle.dr_ids.specs.declared.refusal.Refusal.TheVariants.{Stopped as StoppedIn}
use Rattle.dr_model.specs.Control.{Control, World, Fuse}
use Rattle.dr_model.specs.Refusals.{stopped}
use Rattle.dr_model.specs.Moves.{Move}
use Rattle.dr_model.specs.Carry.{Act, Make, OpenAttempt, Redo, Acknowledge, Drop, EndFreeze, EndThaw, EndRecovery, act, Turn, Next, Pass, Do, End, Entry, Outcome, continue, go, carry, carry_each, check, now}
use Rattle.dr_model.specs.Plans.{Plan}
use Rattle.dr_model.specs.Runs.{begun, finish, carried_out}
use Rattle.dr_model.specs.Allowed.{Runs}
use Rattle.dr_model.specs.ReadStops.{GoesOff, IsEnd, EndsTurn, EndsNext, Ends, gone_off}
use Rattle.dr_laws_sound.specs.Calm.{Carries, ComesTo, EndsEach}
use Rattle.dr_laws_sound.proofs.Turns.{done, done_in_stop, opened_in_stop, not_done, place, server_of, after_act, Writes, Counts, act-cases}
use Rattle.dr_logic.proofs.Truth.{false_true}

-- What is to be shown of the acts: where each may come its server is on, J holds after it, and I where the server stops in it.
module _ (J I : World → Type 0) (May : World → Act → Type 0) where
  pub record Keeps : Type 0 where
    pub runs : (w : World) (a : Act) → Writes a → May w a → Runs w (place a)
    pub does : (w : World) (a : Act) (f : Option Fuse) → J w → May w a → J (after_act w a f)
    pub counts : (w : World) (m : Move) (f : Option Fuse) → J w → May w (Make m) → I (done_in_stop w m f)
    pub opens : (w : World) (v s n : ℕ) (f : Option Fuse) → J w → May w (OpenAttempt v s n) → I (opened_in_stop w v s n f)
    pub fails : (w : World) (a : Act) (f : Option Fuse) → Writes a → J w → May w a → I (not_done w (server_of w a) f)

  counts-by : Keeps → (w : World) (a : Act) (P : Turn → Type 0) → J w → May w a → ((v : World) (s : ℕ) → I v → P (v, Some s)) → Counts w a P
  counts-by keeps w (Make m) P j may ends = λ f. ends _ _ (keeps.counts w m f j may)
  counts-by keeps w (OpenAttempt v s n) P j may ends = λ f. ends _ _ (keeps.opens w v s n f j may)
  counts-by keeps w (Redo v) P j may ends = tt
  counts-by keeps w (Acknowledge n) P j may ends = tt
  counts-by keeps w (Drop n) P j may ends = tt
  counts-by keeps w (EndFreeze l m) P j may ends = tt
  counts-by keeps w (EndThaw l m) P j may ends = tt
  counts-by keeps w (EndRecovery s n) P j may ends = tt

  -- an act that may come, by how it ends
  pub act-keeps : Keeps → (w : World) (a : Act) (P : Turn → Type 0) → J w → May w a → ((f : Option Fuse) → J (after_act w a f) → P (after_act w a f, None)) → ((v : World) (s : ℕ) → I v → P (v, Some s)) → P (act w a)
  act-keeps keeps w a P j may goes ends =
      act-cases w a P (λ d off. absurd (false_true off (keeps.runs w a d may))) (λ f. goes f (keeps.does w a f j may)) (counts-by keeps w a P j may ends) (λ d f. ends _ _ (keeps.fails w a f d j may))

  -- what comes after an entry, by what it decides
  abbrev pub along_next : World → Next → (World → Type 0) → Type 0
  along_next w Pass more = more w
  along_next w (End r) more = I w
  along_next w (Do a) more = May w a × ((f : Option Fuse) → J (after_act w a f) → more (after_act w a f))

-- J holds along a plan, I where it is refused or stopped, and E where its entries end well
module _ (J I E : World → Type 0) (May : World → Act → Type 0) where
  -- each act of a plan may come where it comes, whatever the fuses are
  unfoldable pub Along : World → List Entry → Type 0
  Along w [] = E w
  Along w (d ∷ ds) = along_next J I May w (d w.control) (λ v. Along v ds)

  pub along-nil : (w : World) → E w → Along w []
  unfolding Along
  along-nil w e = e

  -- an entry, by what it decides
  pub along-entry : (w : World) (d : Entry) (ds : List Entry) (x : Next) → d w.control ≡ x → along_next J I May w x (λ v. Along v ds) → Along w (d ∷ ds)
  unfolding Along
  along-entry w d ds x is a = subst (λ x. along_next J I May w x (λ v. Along v ds)) (sym is) a

  pub along-comes : (w : World) (d : Entry) (ds : List Entry) (x : Next) → d w.control ≡ x → Along w (d ∷ ds) → along_next J I May w x (λ v. Along v ds)
  unfolding Along
  along-comes w d ds x is a = subst (λ x. along_next J I May w x (λ v. Along v ds)) is a

  pub along-ends : (w : World) → Along w [] → E w
  unfolding Along
  along-ends w a = a

  -- a check, and a move that comes in any case
  check-by : (w : World) (b : Bool) (r : Refusal) (more : World → Type 0) → I w → (b ≡ true → more w) → along_next J I May w (cond b Pass (End r)) more
  check-by w true r more i go = go refl
  check-by w false r more i go = i

  pub along-check : (w : World) (ok : Control → Bool) (r : Refusal) (ds : List Entry) → I w → (ok w.control ≡ true → Along w ds) → Along w (check ok r ∷ ds)
  along-check w ok r ds i go = along-entry w (check ok r) ds _ refl (check-by w (ok w.control) r (λ v. Along v ds) i go)

  pub along-now : (w : World) (m : Move) (ds : List Entry) → May w (Make m) → ((f : Option Fuse) → J (done w m f) → Along (done w m f) ds) → Along w (now m ∷ ds)
  along-now w m ds may go = along-entry w (now m) ds (Do (Make m)) refl (may, go)

  -- how a plan ends: well, or by a refusal
  abbrev pub EndedBy : World → Option Refusal → Type 0
  EndedBy w None = E w
  EndedBy w (Some r) = I w

  module _ (keeps : Keeps J I May) where
    next-keeps : (w : World) (x : Next) (rest : World → Outcome) (more : World → Type 0) → ((v : World) → J v → more v → EndedBy (rest v).0 (rest v).1) → J w → along_next J I May w x more → EndedBy (go w x rest).0 (go w x rest).1
    next-keeps w Pass rest more on j a = on w j a
    next-keeps w (End r) rest more on j a = a
    next-keeps w (Do x) rest more on j a = act-keeps J I May keeps w x (λ t. EndedBy (continue t.0 t.1 rest).0 (continue t.0 t.1 rest).1) j a.0 (λ f k. on _ k (a.1 f k)) (λ v s i. i)

    pub along : (w : World) (ds : List Entry) → J w → Along w ds → EndedBy (carry w ds).0 (carry w ds).1
    unfolding carry Along
    along w [] j a = a
    along w (d ∷ ds) j a = next-keeps w (d w.control) (λ v. carry v ds) (λ v. Along v ds) (λ v. along v ds) j a

    -- where entries come to a move, J holds, and the move may come
    next-comes : (w : World) (x : Next) (rest : World → Outcome) (more : World → Type 0) (v : World) (P : Type 0) → ((u : World) → J u → more u → rest u ≡ (v, None) → P) → J w → along_next J I May w x more → go w x rest ≡ (v, None) → P
    next-comes w Pass rest more v P on j a leads = on w j a leads
    next-comes w (End r) rest more v P on j a leads = let none : Some r ≡ None = ap (λ (o : Outcome). o.1) leads in absurd cc
    next-comes w (Do x) rest more v P on j a leads =
        act-keeps J I May keeps w x (λ t. continue t.0 t.1 rest ≡ (v, None) → P) j a.0 (λ f k leads. on _ k (a.1 f k) leads) (λ u s i leads. let none : Some (stopped s) ≡ None = ap (λ (o : Outcome). o.1) leads in absurd cc) leads

    comes-at : (w v : World) (before : List Entry) (d : Entry) (rest : List Entry) (m : Move) → J w → Along w (before ++ d ∷ rest) → carry w before ≡ (v, None) → d v.control ≡ Do (Make m) → J v × May v (Make m)
    unfolding carry Along
    comes-at w v [] d rest m j a leads decides =
        let same : w ≡ v = ap (λ (o : Outcome). o.0) leads in
        subst (λ v. d v.control ≡ Do (Make m) → J v × May v (Make m)) same (λ is. (j, (along-comes w d rest _ is a).0)) decides
    comes-at w v (e ∷ es) d rest m j a leads decides =
        next-comes w (e w.control) (λ u. carry u es) (λ u. Along u (es ++ d ∷ rest)) v (J v × May v (Make m)) (λ u j a leads. comes-at u v es d rest m j a leads decides) j a leads

    pub along-comes_to : (w : World) (ds : List Entry) (v : World) (m : Move) → J w → Along w ds → ComesTo Carries w ds v m → J v × May v (Make m)
    along-comes_to w ds v m j a at = comes-at w v at.before at.entry at.rest m j (subst (Along w) at.placed a) at.leads at.decides

-- and where servers whose read fuses are armed go off between its acts
module _ (J I : World → Type 0) (May : World → Act → Type 0) (keeps : Keeps J I May) (armed : ℕ → Bool) (goes_off : (w : World) (s : ℕ) → J w → w.control.on s ≡ true → armed s ≡ true → I (gone_off w s)) (u : World) (r : Option Refusal) where
  end-keeps : (w : World) (end : Option Refusal) → I w → IsEnd armed u r w end → I u
  end-keeps w end i is = subst I (sym is.world) i

  off-keeps : (w : World) → J w → GoesOff armed u r w → I u
  off-keeps w j off = subst I (sym off.world) (goes_off w off.server j off.on off.is_armed)

  act-ends : (w : World) (a : Act) (less : World → Type 0) → J w → May w a → ((f : Option Fuse) → J (after_act w a f) → less (after_act w a f) → I u) → EndsTurn armed u r (act w a).0 (act w a).1 less → I u
  act-ends w a less j may on = act-keeps J I May keeps w a (λ t. EndsTurn armed u r t.0 t.1 less → I u) j may on (λ v s i e. end-keeps v _ i e)

  next-ends : (w : World) (x : Next) (more less : World → Type 0) → ((v : World) → J v → more v → less v → I u) → J w → along_next J I May w x more → EndsNext armed u r w x less → I u
  next-ends w Pass more less on j a e = on w j a e
  next-ends w (End end) more less on j a e = end-keeps w _ a e
  next-ends w (Do x) more less on j a e = act-ends w x less j a.0 (λ f k l. on _ k (a.1 f k) l) e

  pub ends-keep : (w : World) (ds : List Entry) → J w → Along J I I May w ds → Ends armed u r w ds → I u
  unfolding Along Ends
  ends-keep w [] j a (inl off) = off-keeps w j off
  ends-keep w [] j a (inr is) = end-keeps w _ a is
  ends-keep w (d ∷ ds) j a (inl off) = off-keeps w j off
  ends-keep w (d ∷ ds) j a (inr e) = next-ends w (d w.control) (λ v. Along J I I May v ds) (λ v. Ends armed u r v ds) (λ v. ends-keep v ds) j a e

-- at every moment of a plan a law holds that J, I and E give
module _ (J I E W : World → Type 0) (May : World → Act → Type 0) (inner : (w : World) → J w → W w) (outer : (w : World) → I w → W w) (end : (w : World) → E w → W w) where
  next-weaker : (w : World) (x : Next) (more less : World → Type 0) → ((v : World) → J v → more v → less v) → J w → along_next J I May w x more → along_next J W May w x less
  next-weaker w Pass more less f j a = f w j a
  next-weaker w (End r) more less f j a = outer w a
  next-weaker w (Do x) more less f j a = (a.0, λ u k. f _ k (a.1 u k))

  along-take : (w : World) (n : ℕ) (ds : List Entry) → J w → Along J I E May w ds → Along J W W May w (take n ds)
  unfolding Along
  along-take w zero ds j a = inner w j
  along-take w (suc n) [] j a = end w a
  along-take w (suc n) (d ∷ ds) j a = next-weaker w (d w.control) (λ v. Along J I E May v ds) (λ v. Along J W W May v (take n ds)) (λ v k. along-take v n ds k) j a

  along-weaker : (w : World) (ds : List Entry) → J w → Along J I E May w ds → Along J W W May w ds
  unfolding Along
  along-weaker w [] j a = end w a
  along-weaker w (d ∷ ds) j a = next-weaker w (d w.control) (λ v. Along J I E May v ds) (λ v. Along J W W May v ds) (λ v k. along-weaker v ds k) j a

  keeps-weaker : Keeps J I May → Keeps J W May
  keeps-weaker k = record {
    runs = k.runs;
    does = k.does;
    counts = λ w m f j may. outer _ (k.counts w m f j may);
    opens = λ w v s n f j may. outer _ (k.opens w v s n f j may);
    fails = λ w a f d j may. outer _ (k.fails w a f d j may);
  }

  either-way : (w : World) (r : Option Refusal) → EndedBy J W W May w r → W w
  either-way w None i = i
  either-way w (Some r) i = i

  pub along-moment : Keeps J I May → (w : World) (n : ℕ) (ds : List Entry) → J w → Along J I E May w ds → W (carry w (take n ds)).0
  along-moment k w n ds j a = either-way _ _ (along J W W May (keeps-weaker k) w (take n ds) j (along-take w n ds j a))

  -- and where servers may go off between its acts
  pub ends-weaker : Keeps J I May → (armed : ℕ → Bool) (goes_off : (w : World) (s : ℕ) → J w → w.control.on s ≡ true → armed s ≡ true → W (gone_off w s)) (u : World) (r : Option Refusal) (w : World) (ds : List Entry)
      → J w → Along J I E May w ds → Ends armed u r w ds → W u
  ends-weaker keeps armed goes_off u r w ds j a e = ends-keep J W May (keeps-weaker keeps) armed goes_off u r w ds j (along-weaker w ds j a) e

-- entries of which each may come wherever I holds, whatever became of those before it
module _ (I : World → Type 0) (May : World → Act → Type 0) where
  abbrev pub EachAlong : List Entry → Type 0
  EachAlong [] = Unit {0}
  EachAlong (d ∷ ds) = ((w : World) → I w → Along I I I May w (d ∷ [])) × EachAlong ds

  ends-either : (w : World) (r : Option Refusal) → EndedBy I I I May w r → I w
  ends-either w None i = i
  ends-either w (Some r) i = i

  pub each-along : Keeps I I May → (ds : List Entry) → EachAlong ds → (w : World) → I w → I (carry_each w ds)
  each-along each [] all w i = i
  each-along each (d ∷ ds) all w i = each-along each ds all.1 (carry w (d ∷ [])).0 (ends-either _ _ (along I I I May each w (d ∷ []) i (all.0 w i)))

  -- however single entries end that leave I, where they come to a move I holds, and the move may come
  module _ (EndsIn : World → List Entry → World → Option Refusal → Type 0) (ended : (w : World) (d : Entry) (u : World) (r : Option Refusal) → I w → Along I I I May w (d ∷ []) → EndsIn w (d ∷ []) u r → I u) where
    comes-each : (before : List Entry) (d : Entry) (rest : List Entry) → EachAlong (before ++ d ∷ rest) → (w v : World) (m : Move) → I w → EndsEach EndsIn w before v None → d v.control ≡ Do (Make m) → I v × May v (Make m)
    comes-each [] d rest all w v m i is decides = let j : I v = subst I (sym is) i in (j, (along-comes I I I May v d [] _ decides (all.0 v j)).0)
    comes-each (e ∷ es) d rest all w v m i goes decides = comes-each es d rest all.1 goes.middle v m (ended w e goes.middle goes.refusal i (all.0 w i) goes.first) goes.rest decides

    pub each-comes_to : (ds : List Entry) → EachAlong ds → (w v : World) (m : Move) → I w → ComesTo (EndsEach EndsIn) w ds v m → I v × May v (Make m)
    each-comes_to ds all w v m i at = comes-each at.before at.entry at.rest (subst EachAlong at.placed all) w v m i at.leads at.decides

  -- as they are carried out
  pub carried-ends : Keeps I I May → (w : World) (d : Entry) (u : World) (r : Option Refusal) → I w → Along I I I May w (d ∷ []) → Carries w (d ∷ []) u r → I u
  carried-ends each w d u r i a is = ends-either u r (subst (λ (o : Outcome). EndedBy I I I May o.0 o.1) is (along I I I May each w (d ∷ []) i a))

-- What is to be shown of a step's plan: I holds between steps, W at every moment. A plan may have an inner law and
-- acts of its own, as that of a start, and a law for the end of its entries, on which the tables as the step ends rest.
module _ (I W : World → Type 0) (May : World → Act → Type 0) where
  pub record Holds (w : World) (p : Plan) : Type 1 where
    pub inner : World → Type 0
    pub ends : World → Type 0
    pub may : World → Act → Type 0
    pub keeps : Keeps inner I may
    pub within : (v : World) → inner v → W v
    pub complete : (v : World) → ends v → W v
    pub begins : inner (begun w p)
    pub entries : Along inner I ends may (begun w p) p.entries
    pub follows : (s : ℕ) → EachAlong I May (p.follows s)
    pub last : (v : World) → ends v → I (record v { control = p.last v.control })

  module _ (each : Keeps I I May) (outer : (v : World) → I v → W v) where
    finish-keeps : (w v : World) (p : Plan) (n : ℕ) (r : Option Refusal) → (holds : Holds w p) → EndedBy holds.inner I holds.ends holds.may v r → I (finish p n v r)
    finish-keeps w v p n None holds i = holds.last v i
    finish-keeps w v p n (Some (StoppedIn s)) holds i = each-along I May each (p.follows n) (holds.follows n) v i
    finish-keeps w v p n (Some r) holds i = i

    pub plan-keeps : (w : World) (p : Plan) → Holds w p → I (carried_out w p).0
    plan-keeps w p holds = finish-keeps w _ p _ _ holds (along holds.inner I holds.ends holds.may holds.keeps (begun w p) p.entries holds.begins holds.entries)

    pub plan-moment : (w : World) (p : Plan) (n : ℕ) → Holds w p → W (carry (begun w p) (take n p.entries)).0
    plan-moment w p n holds = along-moment holds.inner I holds.ends W holds.may holds.within outer holds.complete holds.keeps (begun w p) n p.entries holds.begins holds.entries
