-- A master that takes a reply: a lost one goes on after the last report.
use Rattle.std.proofs.Common.{ℕ, ◌≡◌, Bool, true, false, cond, ◌==◌, ◌&&◌, List, [], ◌∷◌, refl, sym, ◌∙◌, ap, subst, Option, None, Some, option_map}
use Rattle.std.specs.Prelude.{◌↔◌, IsTrue, if◌then◌else◌}
use Rattle.std.specs.Option.{IsSomeAnd}
use Rattle.std.proofs.lemmas.Bool.{and_parts}
use Rattle.dr_ids.specs.declared.refusal.PhaseName.{PhaseName}
use Rattle.dr_ids.specs.declared.refusal.PhaseName.TheVariants as phase
use Rattle.dr_model.specs.Decisions.{Shown}
use Rattle.dr_model.specs.Phases as phases
use Rattle.dr_model.specs.Sessions.{Session, Mirror, session_in, mirror_in, changed, with_master}
use Rattle.dr_laws_recovery.proofs.TurnsLeft.{reported-lost}
use Rattle.dr_gmirror.specs.Exchange.{says_shown, is_lost, is_none, can_settle, is_awaited}
use Rattle.dr_gmirror.proofs.BeginLemmas.{session-changed}

-- two changes of a session are one
pub changed-twice : (s : ℕ) (f g : Session → Session) → ((x : Session) → (f x).number ≡ x.number) → (ss : List Session) → changed s g (changed s f ss) ≡ changed s (λ x. g (f x)) ss
unfolding changed
changed-twice s f g same [] = refl
changed-twice s f g same (x ∷ xs) =
    elim (x.number == s) as (λ b. (x.number == s) ≡ b → changed s g (cond b (f x ∷ xs) (x ∷ changed s f xs)) ≡ cond b (g (f x) ∷ xs) (x ∷ changed s (λ x. g (f x)) xs)) [
      | true ↦ λ is. ap (λ b. cond b (g (f x) ∷ xs) (f x ∷ changed s g xs)) (ap (λ k. k == s) (same x) ∙ is)
      | false ↦ λ is. ap (λ b. cond b (g x ∷ changed s f xs) (x ∷ changed s g (changed s f xs))) is ∙ ap (λ ys. x ∷ ys) (changed-twice s f g same xs)
    ] refl

-- and two that make the same of it are one
pub changed-alike : (s : ℕ) (f g : Session → Session) (ss : List Session) → ((x : Session) → session_in ss s ≡ Some x → f x ≡ g x) → changed s f ss ≡ changed s g ss
unfolding changed
changed-alike s f g [] alike = refl
changed-alike s f g (x ∷ xs) alike =
    elim (x.number == s) as (λ b. (x.number == s) ≡ b → cond b (f x ∷ xs) (x ∷ changed s f xs) ≡ cond b (g x ∷ xs) (x ∷ changed s g xs)) [
      | true ↦ λ is. ap (λ y. y ∷ xs) (alike x (ap (λ b. cond b (Some x) (session_in xs s)) is))
      | false ↦ λ is. ap (λ ys. x ∷ ys) (changed-alike s f g xs (λ y at. alike y (ap (λ b. cond b (Some x) (session_in xs s)) is ∙ at)))
    ] refl

-- what the table says of a lost master
none-owed : (ws : List ℕ) → is_none ws ≡ true → ws ≡ []
none-owed [] h = refl
none-owed (w ∷ ws) h = absurd cc

lost-by : (p : PhaseName) → is_lost p ≡ true → p ≡ phase.Lost
lost-by phase.Lost h = refl
lost-by phase.Idle h = absurd cc
lost-by phase.Coordinating h = absurd cc
lost-by phase.Releasing h = absurd cc
lost-by phase.Draining h = absurd cc
lost-by phase.Flashing h = absurd cc
lost-by phase.Committing h = absurd cc
lost-by phase.Reverting h = absurd cc
lost-by phase.Finishing h = absurd cc
lost-by phase.None h = absurd cc

settles-so : (o : Option Mirror) → IsSomeAnd o (λ r. (r.master.phase ≡ phase.Lost) × (r.master.owed ≡ [])) → can_settle o ≡ true
settles-so None h = absurd h
settles-so (Some r) h = λ i. is_lost (h.0 i) && is_none (h.1 i)

so-settles : (o : Option Mirror) → can_settle o ≡ true → IsSomeAnd o (λ r. (r.master.phase ≡ phase.Lost) × (r.master.owed ≡ []))
so-settles None h = absurd cc
so-settles (Some r) h = let x = and_parts (is_lost r.master.phase) (is_none r.master.owed) h in (lost-by r.master.phase x.0, none-owed r.master.owed x.1)

pub settle-test : (b : Bool) (o : Option Mirror) → (IsTrue b ↔ IsSomeAnd o (λ r. (r.master.phase ≡ phase.Lost) × (r.master.owed ≡ []))) → b ≡ can_settle o
settle-test true o iff = sym (settles-so o (iff.0 refl))
settle-test false o iff = elim (can_settle o) as (λ b. can_settle o ≡ b → false ≡ b) [ true ↦ λ is. iff.1 (so-settles o is) | false ↦ λ is. refl ] refl

-- there is a master, and it awaits the reply
abbrev pub Awaited : Option Mirror → ℕ → phases.Reply → Type 0
Awaited None server y = ⊥
Awaited (Some r) server y = phases.awaits r.master server y ≡ true

pub awaited-by : (o : Option Mirror) (server : ℕ) (y : phases.Reply) → is_awaited o server y ≡ true → Awaited o server y
awaited-by None server y h = absurd cc
awaited-by (Some r) server y h = (and_parts (phases.awaits r.master server y) _ h).0

same-number : (f : phases.Master → phases.Master) (x : Session) → (with_master f x).number ≡ x.number
same-number f x = refl

some-is : {T : Type 0} (o : Option T) (x y : T) → o ≡ Some x → o ≡ Some y → x ≡ y
some-is o x y a b = let e : Some x ≡ Some y = sym a ∙ b in cc

module _ (s server : ℕ) (xs : List Shown) (ss : List Session) where
  abbrev pub after : List Session
  after = changed s (with_master (λ m. phases.replied m server (phases.Reported xs))) ss

  module _ (x : Session) (there : session_in ss s ≡ Some x) (r : Mirror) (has : x.mirror ≡ Some r) where
    -- what becomes of the session
    with-mirror : (f : phases.Master → phases.Master) → with_master f x ≡ record x { mirror = Some (record r { master = f r.master }) }
    with-mirror f i = record x { mirror = option_map (λ (q : Mirror). record q { master = f q.master }) (has i) }

    only : (f g : Session → Session) → f x ≡ g x → changed s f ss ≡ changed s g ss
    only f g same = changed-alike s f g ss (λ y at. subst (λ z. f z ≡ g z) (some-is (session_in ss s) x y there at) same)

    last : phases.without server r.master.owed ≡ [] → with_master phases.settled (with_master (λ m. phases.replied m server (phases.Reported xs)) x) ≡ with_master (λ m. phases.taken m server (phases.Reported xs)) x
    last none =
        (λ i. with_master phases.settled (with-mirror (λ m. phases.replied m server (phases.Reported xs)) i))
        ∙ sym (λ i. record x { mirror = Some (record r { master = phases.settled_where (none i) (phases.replied r.master server (phases.Reported xs)) }) })
        ∙ sym (with-mirror (λ m. phases.taken m server (phases.Reported xs)))

    more : (w : ℕ) (ws : List ℕ) → phases.without server r.master.owed ≡ w ∷ ws → with_master (λ m. phases.replied m server (phases.Reported xs)) x ≡ with_master (λ m. phases.taken m server (phases.Reported xs)) x
    more w ws some =
        with-mirror (λ m. phases.replied m server (phases.Reported xs))
        ∙ sym (λ i. record x { mirror = Some (record r { master = phases.settled_where (some i) (phases.replied r.master server (phases.Reported xs)) }) })
        ∙ sym (with-mirror (λ m. phases.taken m server (phases.Reported xs)))

    -- whether the master can go on then
    goes : r.master.phase ≡ phase.Lost → can_settle (mirror_in (session_in after s)) ≡ is_none (phases.without server r.master.owed)
    goes lost =
        ap (λ o. can_settle (mirror_in o)) (session-changed s (with_master (λ m. phases.replied m server (phases.Reported xs))) (same-number (λ m. phases.replied m server (phases.Reported xs))) ss ∙ ap (option_map (with_master (λ m. phases.replied m server (phases.Reported xs)))) there)
        ∙ ap (λ (y : Session). can_settle y.mirror) (with-mirror (λ m. phases.replied m server (phases.Reported xs)))
        ∙ ap (λ p. is_lost p && is_none (phases.without server r.master.owed)) lost

    pub report-taken : phases.awaits r.master server (phases.Reported xs) ≡ true → (if can_settle (mirror_in (session_in after s)) then changed s (with_master phases.settled) after else after) ≡ changed s (with_master (λ m. phases.taken m server (phases.Reported xs))) ss
    report-taken awaits =
        ap (λ b. if b then changed s (with_master phases.settled) after else after) (goes (reported-lost r.master.phase xs (and_parts _ _ awaits).1))
        ∙ (elim (phases.without server r.master.owed) as (λ ws. phases.without server r.master.owed ≡ ws → (if is_none ws then changed s (with_master phases.settled) after else after) ≡ changed s (with_master (λ m. phases.taken m server (phases.Reported xs))) ss) [
          | [] ↦ λ none. changed-twice s (with_master (λ m. phases.replied m server (phases.Reported xs))) (with_master phases.settled) (same-number (λ m. phases.replied m server (phases.Reported xs))) ss
              ∙ only (λ y. with_master phases.settled (with_master (λ m. phases.replied m server (phases.Reported xs)) y)) (with_master (λ m. phases.taken m server (phases.Reported xs))) (last none)
          | w ∷ ws ↦ λ some. only (with_master (λ m. phases.replied m server (phases.Reported xs))) (with_master (λ m. phases.taken m server (phases.Reported xs))) (more w ws some)
        ] refl)

-- the reply is taken
pub reply-taken : (s server : ℕ) (y : phases.Reply) (ss : List Session) → Awaited (mirror_in (session_in ss s)) server y
    → (if says_shown y && can_settle (mirror_in (session_in (changed s (with_master (λ m. phases.replied m server y)) ss) s)) then changed s (with_master phases.settled) (changed s (with_master (λ m. phases.replied m server y)) ss) else changed s (with_master (λ m. phases.replied m server y)) ss)
    ≡ changed s (with_master (λ m. phases.taken m server y)) ss
reply-taken s server phases.Done ss awaited = refl
reply-taken s server phases.NotYet ss awaited = refl
reply-taken s server (phases.Reported xs) ss awaited = by (session_in ss s) refl awaited
  where
    goal : Type 0
    goal = (if can_settle (mirror_in (session_in (changed s (with_master (λ m. phases.replied m server (phases.Reported xs))) ss) s)) then changed s (with_master phases.settled) (changed s (with_master (λ m. phases.replied m server (phases.Reported xs))) ss) else changed s (with_master (λ m. phases.replied m server (phases.Reported xs))) ss)
        ≡ changed s (with_master (λ m. phases.taken m server (phases.Reported xs))) ss

    of : (x : Session) → session_in ss s ≡ Some x → (m : Option Mirror) → x.mirror ≡ m → Awaited m server (phases.Reported xs) → goal
    of x there None none h = absurd h
    of x there (Some r) has h = report-taken s server xs ss x there r has h

    by : (o : Option Session) → session_in ss s ≡ o → Awaited (mirror_in o) server (phases.Reported xs) → goal
    by None none h = absurd h
    by (Some x) there h = of x there x.mirror refl h
