-- The epochs that begin where masters are lost, session by session.
use Rattle.std.proofs.Common.{◌≡◌, ◌≢◌, ◌⊎◌, ℕ, ◌<◌, ◌+◌, Bool, true, false, not, ◌&&◌, ◌||◌, cond, List, [], ◌∷◌, ◌++◌, nat_eq, nat_lt, get_or, Option, Some, None, inl, inr, refl, ap, sym, subst, ◌∙◌, arith, slice_get, if◌then◌else◌}
use Rattle.std.specs.Prelude.{◌==◌, is_some}
use Rattle.std.specs.List.{list_any}
use Rattle.std.specs.Option.{option_map}
use Rattle.std.proofs.Math.Bool.{or-false, and-false}
use Rattle.std.proofs.lemmas.Bool.{or_parts, eq-eqb}
use Rattle.std.proofs.lemmas.Bool.Decides.{nat_tests, eqb_tells}
use Rattle.std.proofs.lemmas.List.Folds.{list_any-append}
use Rattle.dr_logic.specs.Tables.{at}
use Rattle.dr_facts.proofs.Tables.{at_cases}
use Rattle.dr_model.specs.Messages.{Flight, loses_master, loses_in, lost_since, raised}
use Rattle.dr_model.specs.Sessions as sessions
use Rattle.dr_model.specs.Sessions.{Session, Mirror}
use Rattle.dr_ids.specs.declared.names.SessionId.{SessionId}
use Rattle.dr_plant.specs.State.{PlantState}
use Rattle.dr_volume.specs.View.{on_seen}

-- there is no session, where there is no first one
pub no-sessions : (ss : List Session) (o : Option SessionId) → option_map (λ (k : SessionId). k.0) o ≡ option_map (λ (x : Session). x.number) (slice_get ss 0) → is_some o ≡ false → ss ≡ []
no-sessions [] o value none = refl
no-sessions (x ∷ xs) None value none = absurd cc
no-sessions (x ∷ xs) (Some k) value none = absurd cc

module _ (before now : ℕ → Bool) where
  -- without sessions nothing is lost, and no epoch begins
  pub none-lost : (ss : List Session) → ss ≡ [] → ss ≡ sessions.lost_since before now ss
  none-lost ss none = subst (λ (xs : List Session). xs ≡ sessions.lost_since before now xs) (sym none) refl

  pub none-begin : (ss : List Session) (f : Flight) → ss ≡ [] → f ≡ lost_since before now ss f
  none-begin ss f none = subst (λ (xs : List Session). f ≡ lost_since before now xs f) (sym none) refl

  -- what is asked of one session more
  loses-next : (s : ℕ) (ys : List Session) (x : Session) → loses_in before now s (ys ++ x ∷ []) ≡ (loses_in before now s ys || (x.number == s && loses_master before now x.mirror))
  loses-next s ys x =
      list_any-append (λ (y : Session). y.number == s && loses_master before now y.mirror) ys (x ∷ [])
      ∙ ap (λ b. loses_in before now s ys || b) (or-false (x.number == s && loses_master before now x.mirror))

  -- sessions of other numbers
  none-other : (s : ℕ) (ys : List Session) → list_any (λ (y : Session). y.number == s) ys ≡ false → loses_in before now s ys ≡ false
  none-other s [] none = refl
  none-other s (y ∷ ys) none =
      let parts = or_parts (y.number == s) (list_any (λ (y : Session). y.number == s) ys) none in
      λ i. (parts.0 i && loses_master before now y.mirror) || none-other s ys parts.1 i

  -- no epoch of that number has begun then
  pub epoch-same : (s : ℕ) (ys : List Session) (f : Flight) → list_any (λ (y : Session). y.number == s) ys ≡ false → (lost_since before now ys f).epoch s ≡ f.epoch s
  epoch-same s ys f none = ap (λ b. if b then f.epoch s + 1 else f.epoch s) (none-other s ys none)

  module _ (ys : List Session) (x : Session) (f : Flight) (n : ℕ) (number : x.number ≡ n) (none : list_any (λ (y : Session). y.number == n) ys ≡ false) where
    -- the epochs so far, and behind one session more
    abbrev so_far : ℕ → ℕ
    so_far = (lost_since before now ys f).epoch

    abbrev then_on : ℕ → ℕ
    then_on = (lost_since before now (ys ++ x ∷ []) f).epoch

    abbrev by_test : ℕ → Bool → ℕ
    by_test q b = if b then f.epoch q + 1 else f.epoch q

    rises : true ≡ loses_master before now x.mirror → (q : ℕ) → at so_far n (so_far n + 1) q ≡ then_on q
    rises lost = at_cases (λ q m. m ≡ then_on q) so_far n (so_far n + 1) here there
      where
        here : so_far n + 1 ≡ then_on n
        here =
            ap (λ m. m + 1) (epoch-same n ys f none)
            ∙ sym (ap (by_test n) (loses-next n ys x ∙ (λ i. none-other n ys none i || (eq-eqb x.number n number i && sym lost i))))

        there : (q : ℕ) → q ≢ n → so_far q ≡ then_on q
        there q other =
            sym (ap (by_test q) (loses-next q ys x ∙ ap (λ b. loses_in before now q ys || (b && loses_master before now x.mirror)) (apart (eqb_tells x.number q)) ∙ or-false (loses_in before now q ys)))
          where
            apart : ((nat_eq x.number q ≡ true) × (x.number ≡ q)) ⊎ ((nat_eq x.number q ≡ false) × (x.number ≢ q)) → (x.number == q) ≡ false
            apart (inl p) = absurd (other (sym p.1 ∙ number))
            apart (inr p) = p.0

    stays : false ≡ loses_master before now x.mirror → (q : ℕ) → so_far q ≡ then_on q
    stays lost q =
        sym (ap (by_test q) (loses-next q ys x ∙ ap (λ b. loses_in before now q ys || (x.number == q && b)) (sym lost) ∙ ap (λ b. loses_in before now q ys || b) (and-false (x.number == q)) ∙ or-false (loses_in before now q ys)))

    -- an epoch begins for it, if its master is lost
    pub epochs-next : (lost : Bool) → lost ≡ loses_master before now x.mirror → (g : Flight) → g ≡ lost_since before now ys f → (if lost then raised n g else g) ≡ lost_since before now (ys ++ x ∷ []) f
    epochs-next true lost g is = ap (raised n) is ∙ (λ i. record f { epoch = λ q. rises lost q i })
    epochs-next false lost g is = is ∙ (λ i. record f { epoch = λ q. stays lost q i })

-- servers that were on by a list of the plant's eight
module _ (s u : PlantState) (on : List Bool) (was : (k : ℕ) → k < 8 → get_or on k false ≡ s.on k) where
  gone : (k : ℕ) (c b : Bool) → nat_lt k 8 ≡ b → (get_or on k false && (not (cond b (u.on k) true) && c)) ≡ (cond b (s.on k) true && (not (cond b (u.on k) true) && c))
  gone k c true low = ap (λ t. t && (not (u.on k) && c)) (was k (grind (arith, nat_tests, low)))
  gone k c false low = and-false (get_or on k false)

  lost : (m : Option Mirror) → loses_master (λ k. get_or on k false) (on_seen u) m ≡ loses_master (on_seen s) (on_seen u) m
  lost None = refl
  lost (Some r) = gone r.server _ (nat_lt r.server 8) refl

  pub epochs-all : (ss : List Session) (f : Flight) → lost_since (λ k. get_or on k false) (on_seen u) ss f ≡ lost_since (on_seen s) (on_seen u) ss f
  epochs-all ss f = λ i. record f { epoch = λ n. if list_any (λ (x : Session). x.number == n && lost x.mirror i) ss then f.epoch n + 1 else f.epoch n }
