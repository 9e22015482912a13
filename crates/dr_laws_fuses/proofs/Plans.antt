-- Entries and plans in two worlds that differ in fuses alone: they come to worlds that do, too, or both tell the same up to the stop of a server that is compared no further.
use Rattle.std.proofs.Common.{ℕ, ◌≡◌, ◌⊎◌, inl, inr, refl, ap, ◌∙◌, sym, subst, append_assoc, List, [], ◌∷◌, ◌++◌, Option, Some, None, ◌+◌}
use Rattle.std.proofs.lemmas.List.{append-nil}
use Rattle.std.specs.Option.{option_or}
use Rattle.dr_ids.specs.declared.refusal.Refusal.{Refusal}
use Rattle.dr_ids.specs.declared.refusal.Refusal.TheVariants.{Stopped as StoppedIn}
use Rattle.dr_model.specs.Refusals.{stopped}
use Rattle.dr_model.specs.declared.event.Event.{Event}
use Rattle.dr_model.specs.Control.{Control, Fuse, World}
use Rattle.dr_model.specs.Carry.{Next, Pass, Do, End, Entry, Turn, Outcome, act, continue, go, carry, follow, stopped_turn, stopped_next, stopped_at, carry_each}
use Rattle.dr_model.specs.PlanParts.{Plan}
use Rattle.dr_model.specs.Carried.{begun, finish, carried_out, stop_place}
use Rattle.dr_laws_sound.specs.Stops.{first_stop, StopsTold}
use Rattle.dr_laws_sound.proofs.StopsTold.{first-append, act-tells}
use Rattle.dr_laws_fuses.specs.Fuses.{with_fuses}
use Rattle.dr_laws_fuses.proofs.Acts.{Goes, Same, Met, act-alike}
use Rattle.dr_laws_fuses.proofs.Blind.{Blinds}
use Rattle.dr_laws_fuses.proofs.BlindPlans.{PlanBlind}

-- the journal goes on
pub record GoesOn (base es : List Event) : Type 0 where
  pub more : List Event
  pub is : es ≡ base ++ more

pub goes-same : (es : List Event) → GoesOn es es
goes-same es = record { more = []; is = sym (append-nil es) }

pub goes-then : (a b c : List Event) → GoesOn a b → GoesOn b c → GoesOn a c
goes-then a b c p q = record { more = p.more ++ q.more; is = q.is ∙ ap (λ es. es ++ q.more) p.is ∙ append_assoc a p.more q.more }

-- Two journals tell the same after what both begin with, and then the first one tells the stop of a server that is compared no further.
pub record Parted (M : ℕ → Type 0) (base a b : List Event) : Type 0 where
  pub server : ℕ
  pub met : M server
  pub common : List Event
  pub rest : List Event
  pub other : List Event
  pub first : a ≡ base ++ (common ++ rest)
  pub second : b ≡ base ++ (common ++ other)
  pub tells : first_stop rest ≡ Some server

-- what comes later is told by both, too
pub parted-from : (M : ℕ → Type 0) (old base a b : List Event) → GoesOn old base → Parted M base a b → Parted M old a b
parted-from M old base a b on p = record {
  server = p.server;
  met = p.met;
  common = on.more ++ p.common;
  rest = p.rest;
  other = p.other;
  first = p.first ∙ regroup p.rest;
  second = p.second ∙ regroup p.other;
  tells = p.tells;
}
  where
    regroup : (es : List Event) → base ++ (p.common ++ es) ≡ old ++ ((on.more ++ p.common) ++ es)
    regroup es = ap (λ xs. xs ++ (p.common ++ es)) on.is ∙ append_assoc old on.more (p.common ++ es) ∙ ap (λ xs. old ++ xs) (sym (append_assoc on.more p.common es))

pub parted-on : (M : ℕ → Type 0) (base a b c d : List Event) → Parted M base a b → GoesOn a c → GoesOn b d → Parted M base c d
parted-on M base a b c d p x y = record {
  server = p.server;
  met = p.met;
  common = p.common;
  rest = p.rest ++ x.more;
  other = p.other ++ y.more;
  first = x.is ∙ ap (λ es. es ++ x.more) p.first ∙ regroup p.rest x.more;
  second = y.is ∙ ap (λ es. es ++ y.more) p.second ∙ regroup p.other y.more;
  tells = first-append p.rest x.more ∙ ap (λ o. option_or o (first_stop x.more)) p.tells;
}
  where
    regroup : (es fs : List Event) → (base ++ (p.common ++ es)) ++ fs ≡ base ++ (p.common ++ (es ++ fs))
    regroup es fs = append_assoc base (p.common ++ es) fs ∙ ap (λ xs. base ++ xs) (append_assoc p.common es fs)

-- ---- journals go on

told-on : (w u : World) (stop : Option ℕ) → StopsTold w u stop → GoesOn w.events u.events
told-on w u stop t = record { more = t.events; is = t.told }

continue-on : (w : World) (t : Turn) (next : World → Outcome) → GoesOn w.events t.0.events → ((v : World) → GoesOn v.events (next v).0.events) → GoesOn w.events (continue t.0 t.1 next).0.events
continue-on w (v, None) next first rest = goes-then _ _ _ first (rest v)
continue-on w (v, Some s) next first rest = first

go-on : (w : World) (x : Next) (next : World → Outcome) → ((v : World) → GoesOn v.events (next v).0.events) → GoesOn w.events (go w x next).0.events
go-on w Pass next rest = rest w
go-on w (End r) next rest = goes-same w.events
go-on w (Do a) next rest = continue-on w (act w a) next (told-on w (act w a).0 (act w a).1 (act-tells w a)) rest

pub carry-on : (w : World) (ds : List Entry) → GoesOn w.events (carry w ds).0.events
unfolding carry
carry-on w [] = goes-same w.events
carry-on w (d ∷ ds) = go-on w (d w.control) (λ v. carry v ds) (λ v. carry-on v ds)

each-on : (w : World) (ds : List Entry) → GoesOn w.events (carry_each w ds).events
each-on w [] = goes-same w.events
each-on w (d ∷ ds) = goes-then _ _ _ (carry-on w (d ∷ [])) (each-on (carry w (d ∷ [])).0 ds)

pub follow-on : (w : World) (r : Refusal) (follows : List Entry) → GoesOn w.events (follow w r follows).events
follow-on w (StoppedIn s) follows = each-on w follows
follow-on w r follows = goes-same w.events

pub finish-on : (p : Plan) (n : ℕ) (w : World) (r : Option Refusal) → GoesOn w.events (finish p n w r).events
finish-on p n w None = goes-same w.events
finish-on p n w (Some r) = follow-on w r (p.follows n)

pub plan-on : (w : World) (p : Plan) → GoesOn w.events (carried_out w p).0.events
plan-on w p =
    let begins : GoesOn w.events (begun w p).events = record { more = p.told; is = refl } in
    let o : Outcome = carry (begun w p) p.entries in
    goes-then _ _ _ begins (goes-then _ _ _ (carry-on (begun w p) p.entries) (finish-on p (stop_place w p) o.0 o.1))

-- ---- two worlds

module _ (R : ℕ → Option Fuse → Option Fuse → Type 0) (M : ℕ → Type 0) (goes : (q : ℕ) (f g : Option Fuse) (n : ℕ) → R q f g → Goes R M q f g n) where
  abbrev pub Fuses : World → (ℕ → Option Fuse) → Type 0
  Fuses w g = (q : ℕ) → R q (w.control.fuse q) (g q)

  -- outcomes that begin in such worlds
  abbrev pub Alike : {X : Type 0} → World → World × X → World × X → Type 0
  Alike w o p = Same R o p ⊎ Parted M w.events o.0.events p.0.events

  continue-alike : (w : World) (g : ℕ → Option Fuse) (next : World → Outcome) (t s : Turn) → Same R t s ⊎ Met M t.1 → StopsTold w t.0 t.1 → GoesOn w.events (continue s.0 s.1 next).0.events
      → ((v : World) (h : ℕ → Option Fuse) → Fuses v h → Alike v (next v) (next (with_fuses v h))) → Alike w (continue t.0 t.1 next) (continue s.0 s.1 next)
  continue-alike w g next (v, None) s (inr met) told on rest = let never : None ≡ Some met.server = met.is in absurd cc
  continue-alike w g next (v, Some q) s (inr met) told on rest = inr (record { server = met.server; met = met.met; common = []; rest = told.events; other = on.more; first = told.told; second = on.is; tells = told.tells ∙ met.is })
  continue-alike w g next (v, None) s (inl same) told on rest =
      subst (λ s. Alike w (next v) (continue s.0 s.1 next)) (sym same.is) (by (rest v same.fuse same.fuses))
    where
      by : Alike v (next v) (next (with_fuses v same.fuse)) → Alike w (next v) (next (with_fuses v same.fuse))
      by (inl one) = inl one
      by (inr parted) = inr (parted-from M w.events v.events _ _ (told-on w v None told) parted)
  continue-alike w g next (v, Some q) s (inl same) told on rest =
      subst (λ s. Alike w (v, Some (stopped q)) (continue s.0 s.1 next)) (sym same.is) (inl (record { fuse = same.fuse; is = refl; fuses = same.fuses }))

  go-alike : (w : World) (g : ℕ → Option Fuse) (x : Next) (next : World → Outcome) → Fuses w g → ((v : World) → GoesOn v.events (next v).0.events)
      → ((v : World) (h : ℕ → Option Fuse) → Fuses v h → Alike v (next v) (next (with_fuses v h))) → Alike w (go w x next) (go (with_fuses w g) x next)
  go-alike w g Pass next all on rest = rest w g all
  go-alike w g (End r) next all on rest = inl (record { fuse = g; is = refl; fuses = all })
  go-alike w g (Do a) next all on rest =
      let u : World = with_fuses w g in
      continue-alike w g next (act w a) (act u a) (act-alike R M goes w a g all) (act-tells w a) (go-on u (Do a) next on) rest

  pub carry-alike : (w : World) (g : ℕ → Option Fuse) (ds : List Entry) → Fuses w g → Blinds ds → Alike w (carry w ds) (carry (with_fuses w g) ds)
  unfolding carry
  carry-alike w g [] all blind = inl (record { fuse = g; is = refl; fuses = all })
  carry-alike w g (d ∷ ds) all blind =
      subst (λ x. Alike w (go w (d w.control) (λ v. carry v ds)) (go (with_fuses w g) x (λ v. carry v ds))) (sym (blind.0 w.control g))
      (go-alike w g (d w.control) (λ v. carry v ds) all (λ v. carry-on v ds) (λ v h fuses. carry-alike v h ds fuses blind.1))

  -- ---- where they stop

  -- both stop after as many entries, or their journals part
  turn-place : (w : World) (g : ℕ → Option Fuse) (next : World → Outcome) (later : World → ℕ) (t s : Turn) → Same R t s ⊎ Met M t.1 → StopsTold w t.0 t.1 → GoesOn w.events (continue s.0 s.1 next).0.events
      → ((v : World) (h : ℕ → Option Fuse) → Fuses v h → (later (with_fuses v h) ≡ later v) ⊎ Parted M v.events (next v).0.events (next (with_fuses v h)).0.events)
      → (stopped_turn s later ≡ stopped_turn t later) ⊎ Parted M w.events (continue t.0 t.1 next).0.events (continue s.0 s.1 next).0.events
  turn-place w g next later (v, None) s (inr met) told on rest = let never : None ≡ Some met.server = met.is in absurd cc
  turn-place w g next later (v, Some q) s (inr met) told on rest = inr (record { server = met.server; met = met.met; common = []; rest = told.events; other = on.more; first = told.told; second = on.is; tells = told.tells ∙ met.is })
  turn-place w g next later (v, None) s (inl same) told on rest =
      subst (λ s. (stopped_turn s later ≡ later v) ⊎ Parted M w.events (next v).0.events (continue s.0 s.1 next).0.events) (sym same.is) (by (rest v same.fuse same.fuses))
    where
      by : (later (with_fuses v same.fuse) ≡ later v) ⊎ Parted M v.events (next v).0.events (next (with_fuses v same.fuse)).0.events → (later (with_fuses v same.fuse) ≡ later v) ⊎ Parted M w.events (next v).0.events (next (with_fuses v same.fuse)).0.events
      by (inl one) = inl one
      by (inr parted) = inr (parted-from M w.events v.events _ _ (told-on w v None told) parted)
  turn-place w g next later (v, Some q) s (inl same) told on rest = inl (subst (λ s. stopped_turn s later ≡ 0) (sym same.is) refl)

  next-place : (w : World) (g : ℕ → Option Fuse) (x : Next) (next : World → Outcome) (later : World → ℕ) → Fuses w g → ((v : World) → GoesOn v.events (next v).0.events)
      → ((v : World) (h : ℕ → Option Fuse) → Fuses v h → (later (with_fuses v h) ≡ later v) ⊎ Parted M v.events (next v).0.events (next (with_fuses v h)).0.events)
      → (stopped_next (with_fuses w g) x later ≡ stopped_next w x later) ⊎ Parted M w.events (go w x next).0.events (go (with_fuses w g) x next).0.events
  next-place w g Pass next later all on rest = rest w g all
  next-place w g (End r) next later all on rest = inl refl
  next-place w g (Do a) next later all on rest =
      let u : World = with_fuses w g in
      turn-place w g next later (act w a) (act u a) (act-alike R M goes w a g all) (act-tells w a) (go-on u (Do a) next on) rest

  place-alike : (w : World) (g : ℕ → Option Fuse) (ds : List Entry) → Fuses w g → Blinds ds → (stopped_at (with_fuses w g) ds ≡ stopped_at w ds) ⊎ Parted M w.events (carry w ds).0.events (carry (with_fuses w g) ds).0.events
  unfolding carry stopped_at
  place-alike w g [] all blind = inl refl
  place-alike w g (d ∷ ds) all blind =
      subst (λ x. (stopped_next (with_fuses w g) x (λ v. stopped_at v ds + 1) ≡ stopped_next w (d w.control) (λ v. stopped_at v ds + 1)) ⊎ Parted M w.events (go w (d w.control) (λ v. carry v ds)).0.events (go (with_fuses w g) x (λ v. carry v ds)).0.events) (sym (blind.0 w.control g))
      (next-place w g (d w.control) (λ v. carry v ds) (λ v. stopped_at v ds + 1) all (λ v. carry-on v ds) (λ v h fuses. more v h (place-alike v h ds fuses blind.1)))
    where
      more : (v : World) (h : ℕ → Option Fuse) → (stopped_at (with_fuses v h) ds ≡ stopped_at v ds) ⊎ Parted M v.events (carry v ds).0.events (carry (with_fuses v h) ds).0.events
          → (stopped_at (with_fuses v h) ds + 1 ≡ stopped_at v ds + 1) ⊎ Parted M v.events (carry v ds).0.events (carry (with_fuses v h) ds).0.events
      more v h (inl same) = inl (ap (λ n. n + 1) same)
      more v h (inr parted) = inr parted

  -- ---- a plan

  each-alike : (w : World) (g : ℕ → Option Fuse) (r : Refusal) (ds : List Entry) → Fuses w g → Blinds ds → Alike w (carry_each w ds, Some r) (carry_each (with_fuses w g) ds, Some r)
  each-alike w g r [] all blind = inl (record { fuse = g; is = refl; fuses = all })
  each-alike w g r (d ∷ ds) all blind = by (carry w (d ∷ [])) (carry (with_fuses w g) (d ∷ [])) (carry-on w (d ∷ [])) (carry-alike w g (d ∷ []) all (blind.0, tt)) (λ v h fuses. each-alike v h r ds fuses blind.1)
    where
      by : (o q : Outcome) → GoesOn w.events o.0.events → Alike w o q → ((v : World) (h : ℕ → Option Fuse) → Fuses v h → Alike v (carry_each v ds, Some r) (carry_each (with_fuses v h) ds, Some r)) → Alike w (carry_each o.0 ds, Some r) (carry_each q.0 ds, Some r)
      by o q on (inl same) rest = subst (λ x. Alike w (carry_each o.0 ds, Some r) (carry_each x.0 ds, Some r)) (sym same.is) (further (rest o.0 same.fuse same.fuses))
        where
          further : Alike o.0 (carry_each o.0 ds, Some r) (carry_each (with_fuses o.0 same.fuse) ds, Some r) → Alike w (carry_each o.0 ds, Some r) (carry_each (with_fuses o.0 same.fuse) ds, Some r)
          further (inl one) = inl one
          further (inr parted) = inr (parted-from M w.events o.0.events _ _ on parted)
      by o q on (inr parted) rest = inr (parted-on M w.events _ _ _ _ parted (each-on o.0 ds) (each-on q.0 ds))

  follow-alike : (w : World) (g : ℕ → Option Fuse) (r : Refusal) (follows : List Entry) → Fuses w g → Blinds follows → Alike w (follow w r follows, Some r) (follow (with_fuses w g) r follows, Some r)
  follow-alike w g (StoppedIn s) follows all blind = each-alike w g (StoppedIn s) follows all blind
  follow-alike w g r follows all blind = inl (record { fuse = g; is = refl; fuses = all })

  module _ (w : World) (g : ℕ → Option Fuse) (p : Plan) (blind : PlanBlind R w.control g p) where
    abbrev ended : ℕ → Outcome → Outcome
    ended n o = (finish p n o.0 o.1, o.1)

    finish-alike : (n : ℕ) (v : World) (h : ℕ → Option Fuse) (r : Option Refusal) → Fuses v h → Alike v (ended n (v, r)) (ended n (with_fuses v h, r))
    finish-alike n v h None all = inl (record { fuse = h; is = ap (λ k. (record v { control = k }, None)) (blind.last v.control h); fuses = λ q. subst (λ f. R q (f q) (h q)) (sym stays) (all q) })
      where
        stays : (p.last v.control).fuse ≡ v.control.fuse
        stays = ap (λ (k : Control). k.fuse) (blind.last v.control v.control.fuse)
    finish-alike n v h (Some r) all = follow-alike v h r (p.follows n) all (blind.follows n)

    then-finish : (n : ℕ) (o q : Outcome) → GoesOn w.events o.0.events → Alike w o q → Alike w (ended n o) (ended n q)
    then-finish n o q on (inl same) = subst (λ x. Alike w (ended n o) (ended n x)) (sym same.is) (by (finish-alike n o.0 same.fuse o.1 same.fuses))
      where
        by : Alike o.0 (ended n o) (ended n (with_fuses o.0 same.fuse, o.1)) → Alike w (ended n o) (ended n (with_fuses o.0 same.fuse, o.1))
        by (inl one) = inl one
        by (inr parted) = inr (parted-from M w.events o.0.events _ _ on parted)
    then-finish n o q on (inr parted) = inr (parted-on M w.events _ _ _ _ parted (finish-on p n o.0 o.1) (finish-on p n q.0 q.1))

    -- a plan is carried out
    pub plan-alike : Fuses w g → Alike w (carried_out w p) (carried_out (with_fuses w g) p)
    plan-alike all =
        let b : World = begun w p in
        let h : ℕ → Option Fuse = blind.first.fuse in
        let begins : GoesOn w.events b.events = record { more = p.told; is = refl } in
        subst (λ u. Alike w (ended (stopped_at b p.entries) (carry b p.entries)) (ended (stopped_at u p.entries) (carry u p.entries))) (sym (ap (λ k. record w { control = k; events = w.events ++ p.told }) blind.first.is))
        (placed begins (place-alike b h p.entries blind.first.fuses blind.entries)
        (then-finish (stopped_at b p.entries) _ _ (goes-then _ _ _ begins (carry-on b p.entries)) (by begins (carry-alike b h p.entries blind.first.fuses blind.entries))))
      where
        placed : GoesOn w.events (begun w p).events → let b : World = begun w p in let u : World = with_fuses b blind.first.fuse in
            (stopped_at u p.entries ≡ stopped_at b p.entries) ⊎ Parted M b.events (carry b p.entries).0.events (carry u p.entries).0.events
            → Alike w (ended (stopped_at b p.entries) (carry b p.entries)) (ended (stopped_at b p.entries) (carry u p.entries))
            → Alike w (ended (stopped_at b p.entries) (carry b p.entries)) (ended (stopped_at u p.entries) (carry u p.entries))
        placed begins (inl same) alike =
            subst (λ n. Alike w (ended (stopped_at (begun w p) p.entries) (carry (begun w p) p.entries)) (ended n (carry (with_fuses (begun w p) blind.first.fuse) p.entries))) (sym same) alike
        placed begins (inr parted) alike =
            inr (parted-on M w.events _ _ _ _ (parted-from M w.events (begun w p).events _ _ begins parted) (finish-on p _ (carry (begun w p) p.entries).0 (carry (begun w p) p.entries).1)
            (finish-on p _ (carry (with_fuses (begun w p) blind.first.fuse) p.entries).0 (carry (with_fuses (begun w p) blind.first.fuse) p.entries).1))

        by : GoesOn w.events (begun w p).events → Alike (begun w p) (carry (begun w p) p.entries) (carry (with_fuses (begun w p) blind.first.fuse) p.entries)
            → Alike w (carry (begun w p) p.entries) (carry (with_fuses (begun w p) blind.first.fuse) p.entries)
        by begins (inl same) = inl same
        by begins (inr parted) = inr (parted-from M w.events (begun w p).events _ _ begins parted)
