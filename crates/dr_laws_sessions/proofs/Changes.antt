-- The table of sessions, where one session changes or goes.
use Rattle.std.proofs.Common.{ℕ, ◌≡◌, ◌≢◌, ◌⊎◌, inl, inr, refl, ap, sym, ◌∙◌, subst, Bool, true, false, cond, ◌||◌, nat_eq, List, [], ◌∷◌, map, None, Some, ◌==◌}
use Rattle.std.specs.List.{list_any}
use Rattle.std.proofs.lemmas.Bool.{cases_Bool, eqb-true, eqb-false}
use Rattle.std.proofs.lemmas.Bool.Decides.{eqb_tells}
use Rattle.std.proofs.lemmas.Option.{same_Some}
use Rattle.dr_model.specs.Tables.{Once}
use Rattle.dr_model.specs.Groups.{In}
use Rattle.dr_model.specs.Sessions.{Session, session_in, changed, without_session}
use Rattle.dr_laws_sessions.specs.Frames.{Became}
use Rattle.dr_facts.proofs.Lists.{found, not-found, once-same, once-later}

abbrev pub numbers : List Session → List ℕ
numbers ss = map (λ (x : Session). x.number) ss

-- the session of a number is one of them, and has that number
pub session-found : (ss : List Session) (s : ℕ) (x : Session) → session_in ss s ≡ Some x → In x ss × (x.number ≡ s)
session-found ss s x h = let r = found (λ (y : Session). y.number == s) ss x h in (r.0, eqb-true x.number s r.1)

pub none-numbered : (ss : List Session) (s : ℕ) (x : Session) → session_in ss s ≡ None → In x ss → x.number ≢ s
none-numbered ss s x none i = eqb-false x.number s (not-found (λ (y : Session). y.number == s) ss x none i)

-- two sessions with one number are one
pub same-session : (ss : List Session) (x y : Session) → Once (numbers ss) → In x ss → In y ss → x.number ≡ y.number → x ≡ y
same-session ss x y once i j e = once-same (λ (z : Session). z.number) ss x y once i j e

-- a session of the new table was there, or is what the one of that number became
pub changed-in : (s : ℕ) (f : Session → Session) (ss : List Session) (y : Session) → Once (numbers ss) → In y (changed s f ss) → (In y ss × (y.number ≢ s)) ⊎ Became s f ss y
unfolding changed
changed-in s f [] y once h = absurd h
changed-in s f (x ∷ xs) y once h = by (changed-in s f xs y once.1) (eqb_tells x.number s) h
  where
    here : x.number ≡ s → In y (f x ∷ xs) → (In y (x ∷ xs) × (y.number ≢ s)) ⊎ Became s f (x ∷ xs) y
    here e (inl is) = inr (record { from = x; listed = inl refl; number = e; is = is })
    here e (inr more) = inl (inr more, λ n. once-later (λ (z : Session). z.number) x xs y once more (n ∙ sym e))

    further : (In y xs × (y.number ≢ s)) ⊎ Became s f xs y → (In y (x ∷ xs) × (y.number ≢ s)) ⊎ Became s f (x ∷ xs) y
    further (inl r) = inl (inr r.0, r.1)
    further (inr b) = inr (record { from = b.from; listed = inr b.listed; number = b.number; is = b.is })

    there : (In y (changed s f xs) → (In y xs × (y.number ≢ s)) ⊎ Became s f xs y) → x.number ≢ s → In y (x ∷ changed s f xs) → (In y (x ∷ xs) × (y.number ≢ s)) ⊎ Became s f (x ∷ xs) y
    there again ne (inl is) = inl (inl is, λ n. ne (sym (ap (λ (z : Session). z.number) is) ∙ n))
    there again ne (inr more) = further (again more)

    by : (In y (changed s f xs) → (In y xs × (y.number ≢ s)) ⊎ Became s f xs y) → ((nat_eq x.number s ≡ true) × (x.number ≡ s)) ⊎ ((nat_eq x.number s ≡ false) × (x.number ≢ s)) → In y (cond (x.number == s) (f x ∷ xs) (x ∷ changed s f xs)) → (In y (x ∷ xs) × (y.number ≢ s)) ⊎ Became s f (x ∷ xs) y
    by again (inl e) k = here e.1 (subst (λ b. In y (cond b (f x ∷ xs) (x ∷ changed s f xs))) e.0 k)
    by again (inr e) k = there again e.1 (subst (λ b. In y (cond b (f x ∷ xs) (x ∷ changed s f xs))) e.0 k)

-- and each that was there stays, or becomes that
pub changed-stays : (s : ℕ) (f : Session → Session) (ss : List Session) (x : Session) → In x ss → x.number ≢ s → In x (changed s f ss)
unfolding changed
changed-stays s f [] x h ne = absurd h
changed-stays s f (z ∷ xs) x h ne = by (λ more. changed-stays s f xs x more ne) (eqb_tells z.number s) h
  where
    here : z.number ≡ s → In x (z ∷ xs) → In x (f z ∷ xs)
    here e (inl is) = absurd (ne (ap (λ (y : Session). y.number) is ∙ e))
    here e (inr more) = inr more

    there : (In x xs → In x (changed s f xs)) → In x (z ∷ xs) → In x (z ∷ changed s f xs)
    there again (inl is) = inl is
    there again (inr more) = inr (again more)

    by : (In x xs → In x (changed s f xs)) → ((nat_eq z.number s ≡ true) × (z.number ≡ s)) ⊎ ((nat_eq z.number s ≡ false) × (z.number ≢ s)) → In x (z ∷ xs) → In x (cond (z.number == s) (f z ∷ xs) (z ∷ changed s f xs))
    by again (inl e) k = subst (λ b. In x (cond b (f z ∷ xs) (z ∷ changed s f xs))) (sym e.0) (here e.1 k)
    by again (inr e) k = subst (λ b. In x (cond b (f z ∷ xs) (z ∷ changed s f xs))) (sym e.0) (there again k)

pub changed-becomes : (s : ℕ) (f : Session → Session) (ss : List Session) (x : Session) → Once (numbers ss) → In x ss → x.number ≡ s → In (f x) (changed s f ss)
unfolding changed
changed-becomes s f [] x once h e = absurd h
changed-becomes s f (z ∷ xs) x once h e = by (λ more. changed-becomes s f xs x once.1 more e) (eqb_tells z.number s) h
  where
    here : z.number ≡ s → In x (z ∷ xs) → In (f x) (f z ∷ xs)
    here n (inl is) = inl (ap f is)
    here n (inr more) = absurd (once-later (λ (y : Session). y.number) z xs x once more (e ∙ sym n))

    there : (In x xs → In (f x) (changed s f xs)) → z.number ≢ s → In x (z ∷ xs) → In (f x) (z ∷ changed s f xs)
    there again ne (inl is) = absurd (ne (sym (ap (λ (y : Session). y.number) is) ∙ e))
    there again ne (inr more) = inr (again more)

    by : (In x xs → In (f x) (changed s f xs)) → ((nat_eq z.number s ≡ true) × (z.number ≡ s)) ⊎ ((nat_eq z.number s ≡ false) × (z.number ≢ s)) → In x (z ∷ xs) → In (f x) (cond (z.number == s) (f z ∷ xs) (z ∷ changed s f xs))
    by again (inl n) k = subst (λ b. In (f x) (cond b (f z ∷ xs) (z ∷ changed s f xs))) (sym n.0) (here n.1 k)
    by again (inr n) k = subst (λ b. In (f x) (cond b (f z ∷ xs) (z ∷ changed s f xs))) (sym n.0) (there again n.1 k)

pub changed-found : (s : ℕ) (f : Session → Session) (ss : List Session) (x : Session) → ((x : Session) → (f x).number ≡ x.number) → session_in ss s ≡ Some x → session_in (changed s f ss) s ≡ Some (f x)
unfolding changed
changed-found s f [] x same h = absurd cc
changed-found s f (z ∷ xs) x same h = by (changed-found s f xs x same) (cases_Bool (z.number == s)) h
  where
    by : (session_in xs s ≡ Some x → session_in (changed s f xs) s ≡ Some (f x)) → ((z.number == s) ≡ true) ⊎ ((z.number == s) ≡ false) → cond (z.number == s) (Some z) (session_in xs s) ≡ Some x
        → session_in (cond (z.number == s) (f z ∷ xs) (z ∷ changed s f xs)) s ≡ Some (f x)
    by again (inl e) k =
        ap (λ b. session_in (cond b (f z ∷ xs) (z ∷ changed s f xs)) s) e
        ∙ (ap (λ b. cond b (Some (f z)) (session_in xs s)) (ap (λ n. n == s) (same z) ∙ e) ∙ ap (λ y. Some (f y)) ((same_Some _ _ (sym (ap (λ b. cond b (Some z) (session_in xs s)) e) ∙ k))))
    by again (inr e) k =
        ap (λ b. session_in (cond b (f z ∷ xs) (z ∷ changed s f xs)) s) e
        ∙ (ap (λ b. cond b (Some z) (session_in (changed s f xs) s)) e ∙ again (sym (ap (λ b. cond b (Some z) (session_in xs s)) e) ∙ k))

-- no number changes
pub changed-numbers : (s : ℕ) (f : Session → Session) (ss : List Session) → ((x : Session) → (f x).number ≡ x.number) → numbers (changed s f ss) ≡ numbers ss
unfolding changed
changed-numbers s f [] same = refl
changed-numbers s f (x ∷ xs) same = by (x.number == s) (changed-numbers s f xs same)
  where
    by : (b : Bool) → numbers (changed s f xs) ≡ numbers xs → numbers (cond b (f x ∷ xs) (x ∷ changed s f xs)) ≡ numbers (x ∷ xs)
    by true again = ap (λ n. n ∷ numbers xs) (same x)
    by false again = ap (λ ns. x.number ∷ ns) again

pub changed-once : (s : ℕ) (f : Session → Session) (ss : List Session) → ((x : Session) → (f x).number ≡ x.number) → Once (numbers ss) → Once (numbers (changed s f ss))
changed-once s f ss same once = subst Once (sym (changed-numbers s f ss same)) once

-- where a session goes, the others stay
pub without-in : (s : ℕ) (ss : List Session) (y : Session) → In y (without_session s ss) → In y ss
unfolding without_session
without-in s [] y h = absurd h
without-in s (x ∷ xs) y h = by (without-in s xs y) (x.number == s) h
  where
    kept : (In y (without_session s xs) → In y xs) → In y (x ∷ without_session s xs) → In y (x ∷ xs)
    kept again (inl is) = inl is
    kept again (inr more) = inr (again more)

    by : (In y (without_session s xs) → In y xs) → (b : Bool) → In y (cond b xs (x ∷ without_session s xs)) → In y (x ∷ xs)
    by again true k = inr k
    by again false k = kept again k

pub without-stays : (s : ℕ) (ss : List Session) (x : Session) → In x ss → x.number ≢ s → In x (without_session s ss)
unfolding without_session
without-stays s [] x h ne = absurd h
without-stays s (z ∷ xs) x h ne = by (λ more. without-stays s xs x more ne) (eqb_tells z.number s) h
  where
    here : z.number ≡ s → In x (z ∷ xs) → In x xs
    here e (inl is) = absurd (ne (ap (λ (y : Session). y.number) is ∙ e))
    here e (inr more) = more

    there : (In x xs → In x (without_session s xs)) → In x (z ∷ xs) → In x (z ∷ without_session s xs)
    there again (inl is) = inl is
    there again (inr more) = inr (again more)

    by : (In x xs → In x (without_session s xs)) → ((nat_eq z.number s ≡ true) × (z.number ≡ s)) ⊎ ((nat_eq z.number s ≡ false) × (z.number ≢ s)) → In x (z ∷ xs) → In x (cond (z.number == s) xs (z ∷ without_session s xs))
    by again (inl e) k = subst (λ b. In x (cond b xs (z ∷ without_session s xs))) (sym e.0) (here e.1 k)
    by again (inr e) k = subst (λ b. In x (cond b xs (z ∷ without_session s xs))) (sym e.0) (there again k)

any-without : (s n : ℕ) (ss : List Session) → list_any (nat_eq n) (numbers ss) ≡ false → list_any (nat_eq n) (numbers (without_session s ss)) ≡ false
unfolding without_session
any-without s n [] h = refl
any-without s n (x ∷ xs) h = by (any-without s n xs) (nat_eq n x.number) refl h
  where
    kept : (list_any (nat_eq n) (numbers xs) ≡ false → list_any (nat_eq n) (numbers (without_session s xs)) ≡ false) → (b : Bool) → list_any (nat_eq n) (numbers xs) ≡ false → nat_eq n x.number ≡ false → list_any (nat_eq n) (numbers (cond b xs (x ∷ without_session s xs))) ≡ false
    kept again true k other = k
    kept again false k other = λ i. other i || again k i

    by : (list_any (nat_eq n) (numbers xs) ≡ false → list_any (nat_eq n) (numbers (without_session s xs)) ≡ false) → (b : Bool) → nat_eq n x.number ≡ b → (b || list_any (nat_eq n) (numbers xs)) ≡ false → list_any (nat_eq n) (numbers (cond (x.number == s) xs (x ∷ without_session s xs))) ≡ false
    by again true e k = absurd cc
    by again false e k = kept again (x.number == s) k e

pub without-once : (s : ℕ) (ss : List Session) → Once (numbers ss) → Once (numbers (without_session s ss))
unfolding without_session
without-once s [] once = tt
without-once s (x ∷ xs) once = by (x.number == s) (without-once s xs once.1)
  where
    by : (b : Bool) → Once (numbers (without_session s xs)) → Once (numbers (cond b xs (x ∷ without_session s xs)))
    by true again = once.1
    by false again = (any-without s x.number xs once.0, again)

-- the table without the one of a number holds no other of that number
pub without-none : (s : ℕ) (ss : List Session) (y : Session) → Once (numbers ss) → In y (without_session s ss) → y.number ≢ s
unfolding without_session
without-none s [] y once h = absurd h
without-none s (x ∷ xs) y once h = by (without-none s xs y once.1) (eqb_tells x.number s) h
  where
    kept : (In y (without_session s xs) → y.number ≢ s) → x.number ≢ s → In y (x ∷ without_session s xs) → y.number ≢ s
    kept again ne (inl is) n = ne (sym (ap (λ (z : Session). z.number) is) ∙ n)
    kept again ne (inr more) n = again more n

    by : (In y (without_session s xs) → y.number ≢ s) → ((nat_eq x.number s ≡ true) × (x.number ≡ s)) ⊎ ((nat_eq x.number s ≡ false) × (x.number ≢ s)) → In y (cond (x.number == s) xs (x ∷ without_session s xs)) → y.number ≢ s
    by again (inl e) k n = once-later (λ (z : Session). z.number) x xs y once (subst (λ b. In y (cond b xs (x ∷ without_session s xs))) e.0 k) (n ∙ sym e.1)
    by again (inr e) k n = kept again e.1 (subst (λ b. In y (cond b xs (x ∷ without_session s xs))) e.0 k) n
