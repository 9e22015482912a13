-- Along a journal each cut stands behind the begin of its attempt.
use Rattle.std.proofs.Common.{ℕ, ◌≡◌, ◌⊎◌, inl, inr, refl, sym, subst, append_assoc, List, [], ◌∷◌, ◌++◌}
use Rattle.dr_model.specs.declared.event.Event.{Event}
use Rattle.dr_model.specs.declared.event.Event.TheVariants.{Begin, Cut}
use Rattle.dr_model.specs.Groups.{In}
use Rattle.dr_model.specs.ClosedCuts.{AllBegun}
use Rattle.dr_logic.proofs.Lists.{cons-parts}
use Rattle.dr_facts.proofs.Lists.{in-first, in-second}
use Rattle.dr_facts.proofs.Joined.{InFirst, InOther, place-in}
use Rattle.dr_laws_cuts.specs.Once.{NoCuts}

pub never-cut : (s n a : ℕ) (before behind : List Event) → NoCuts (before ++ Cut s n a ∷ behind) → ⊥
never-cut s n a [] behind quiet = quiet.0
never-cut s n a (e ∷ es) behind quiet = never-cut s n a es behind quiet.1

-- one of a longer journal is one of the journal, or stands in what is more
begun-by : (es more : List Event) → AllBegun es → ((s n a : ℕ) (middle behind : List Event) → more ≡ middle ++ Cut s n a ∷ behind → In (Begin s n) (es ++ middle)) → AllBegun (es ++ more)
begun-by es more old new s n a c = by (place-in es more c.before (Cut s n a) c.behind c.is)
  where
    by : InFirst es c.before (Cut s n a) ⊎ InOther es more c.before (Cut s n a) c.behind → In (Begin s n) c.before
    by (inl p) = old s n a (record { before = c.before; behind = p.behind; is = p.is })
    by (inr p) = subst (In (Begin s n)) (sym p.first) (new s n a p.middle c.behind p.other)

pub begun-quiet : (es more : List Event) → NoCuts more → AllBegun es → AllBegun (es ++ more)
begun-quiet es more quiet old = begun-by es more old (λ s n a middle behind is. absurd (never-cut s n a middle behind (subst NoCuts is quiet)))

pub begun-cut : (es : List Event) (s n v : ℕ) → In (Begin s n) es → AllBegun es → AllBegun (es ++ Cut s n v ∷ [])
begun-cut es s n v here old = begun-by es (Cut s n v ∷ []) old new
  where
    new : (z k a : ℕ) (middle behind : List Event) → Cut s n v ∷ [] ≡ middle ++ Cut z k a ∷ behind → In (Begin z k) (es ++ middle)
    new z k a [] behind is =
        let same : Cut s n v ≡ Cut z k a = (cons-parts is).0 in
        let session : s ≡ z = cc in
        let number : n ≡ k = cc in
        in-first es [] (Begin z k) (subst (λ z. In (Begin z k) es) session (subst (λ k. In (Begin s k) es) number here))
    new z k a (e ∷ middle) behind is = absurd (empty middle (cons-parts is).1)
      where
        empty : (middle : List Event) → [] ≡ middle ++ Cut z k a ∷ behind → ⊥
        empty [] h = cc
        empty (x ∷ xs) h = cc

pub begun-opened : (es : List Event) (s n v : ℕ) → AllBegun es → AllBegun (es ++ Begin s n ∷ Cut s n v ∷ [])
begun-opened es s n v old =
    subst AllBegun (append_assoc es (Begin s n ∷ []) (Cut s n v ∷ []))
    (begun-cut (es ++ Begin s n ∷ []) s n v (in-second es (Begin s n ∷ []) (Begin s n) (inl refl)) (begun-quiet es (Begin s n ∷ []) (tt, tt) old))

pub none-cut : AllBegun []
none-cut s n a c = absurd (empty c.before c.behind c.is)
  where
    empty : (before behind : List Event) → [] ≡ before ++ Cut s n a ∷ behind → ⊥
    empty [] behind h = cc
    empty (e ∷ es) behind h = cc
