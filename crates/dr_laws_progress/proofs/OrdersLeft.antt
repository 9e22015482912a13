-- A reply to an order that ends an attempt leaves one order less to Idle.
use Rattle.std.proofs.Common.{ℕ, suc, ◌≡◌, ◌≢◌, ◌+◌, inl, inr, refl, ap, sym, ◌∙◌, subst, arith, Bool, true, false, cond, not, ◌==◌, nat_eq, List, [], ◌∷◌, filter, length, map}
use Rattle.std.specs.List.{list_any, range_with_len}
use Rattle.std.proofs.lemmas.Bool.{eq-eqb, eqb-true}
use Rattle.dr_logic.proofs.Truth.{false_true}
use Rattle.dr_ids.specs.declared.names.Member.{Member}
use Rattle.dr_ids.specs.declared.refusal.Decision.{Decision}
use Rattle.dr_ids.specs.declared.refusal.Decision.TheVariants.{CommitRest}
use Rattle.dr_ids.specs.declared.refusal.PhaseName.{PhaseName}
use Rattle.dr_ids.specs.declared.refusal.PhaseName.TheVariants as phase
use Rattle.dr_model.specs.Decisions.{Shown, decision}
use Rattle.dr_model.specs.Phases as phases
use Rattle.dr_model.specs.Phases.{Master, is_among, without}
use Rattle.dr_model.specs.Sessions.{servers_of}
use Rattle.dr_model.specs.Tables.{Once}
use Rattle.dr_model.specs.Groups.{In}
use Rattle.dr_facts.proofs.Lists.{some-any, any-some, any-none, from-filter, once-filter}
use Rattle.dr_laws_sessions.proofs.Sound.{among-without}
use Rattle.dr_laws_progress.specs.ToIdle.{orders_in, orders_left}

-- ---- a set with one less

-- two tests that say the same of each of a list
count-same : (p d : ℕ → Bool) (ks : List ℕ) → ((k : ℕ) → In k ks → d k ≡ p k) → length (filter p ks) ≡ length (filter d ks)
count-same p d [] same = refl
count-same p d (k ∷ ks) same = by (p k) (d k) (same k (inl refl)) (count-same p d ks (λ j h. same j (inr h)))
  where
    by : (a b : Bool) → b ≡ a → length (filter p ks) ≡ length (filter d ks) → length (cond a (k ∷ filter p ks) (filter p ks)) ≡ length (cond b (k ∷ filter d ks) (filter d ks))
    by true true e again = ap suc again
    by false false e again = again
    by true false e again = absurd cc
    by false true e again = absurd cc

-- and two of which one passes q, too
count-less : (p d : ℕ → Bool) (q : ℕ) (ks : List ℕ) → Once ks → In q ks → p q ≡ true → d q ≡ false → ((k : ℕ) → k ≢ q → d k ≡ p k) → length (filter p ks) ≡ suc (length (filter d ks))
count-less p d q [] once here yes_p no_d same = absurd here
count-less p d q (k ∷ ks) once (inl is) yes_p no_d same = by (p k) (d k) (ap p (sym is) ∙ yes_p) (ap d (sym is) ∙ no_d) (count-same p d ks (λ j h. same j (λ e. false_true (any-none (nat_eq k) ks j once.0 h) (eq-eqb k j (sym is ∙ sym e)))))
  where
    by : (a b : Bool) → a ≡ true → b ≡ false → length (filter p ks) ≡ length (filter d ks) → length (cond a (k ∷ filter p ks) (filter p ks)) ≡ suc (length (cond b (k ∷ filter d ks) (filter d ks)))
    by true false e f again = ap suc again
    by true true e f again = absurd cc
    by false b e f again = absurd cc
count-less p d q (k ∷ ks) once (inr there) yes_p no_d same = by (p k) (d k) (same k (λ e. false_true (any-none (nat_eq k) ks q once.0 there) (eq-eqb k q e))) (count-less p d q ks once.1 there yes_p no_d same)
  where
    by : (a b : Bool) → b ≡ a → length (filter p ks) ≡ suc (length (filter d ks)) → length (cond a (k ∷ filter p ks) (filter p ks)) ≡ suc (length (cond b (k ∷ filter d ks) (filter d ks)))
    by true true e again = ap suc again
    by false false e again = again
    by true false e again = absurd cc
    by false true e again = absurd cc

pub count-all : (p : ℕ → Bool) (ks : List ℕ) → ((k : ℕ) → In k ks → p k ≡ true) → length (filter p ks) ≡ length ks
count-all p [] all = refl
count-all p (k ∷ ks) all = ap (λ b. length (cond b (k ∷ filter p ks) (filter p ks))) (all k (inl refl)) ∙ ap suc (count-all p ks (λ j h. all j (inr h)))

-- a server is among a list that has it, and not once it is taken out
pub is-among : (q : ℕ) (ks : List ℕ) → In q ks → is_among q ks ≡ true
is-among q ks here = any-some (λ k. k == q) ks q here (eq-eqb q q refl)

pub in-among : (q : ℕ) (ks : List ℕ) → is_among q ks ≡ true → In q ks
in-among q ks h = let o = some-any (λ k. k == q) ks h in subst (λ k. In k ks) (eqb-true o.0 q o.1.1) o.1.0

taken-out : (q : ℕ) (ks : List ℕ) → is_among q (without q ks) ≡ false
taken-out q ks = by (is_among q (without q ks)) refl
  where
    by : (b : Bool) → is_among q (without q ks) ≡ b → b ≡ false
    by false e = refl
    by true e = let f = from-filter (λ k. not (k == q)) ks q (in-among q (without q ks) e) in false_true (ap not (eq-eqb q q refl)) f.1

-- ---- servers of members are no two of one number

once-range : Once (range_with_len 0 8)
once-range = (refl, (refl, (refl, (refl, (refl, (refl, (refl, (refl, tt))))))))

-- a list, each of it as it is
as-it-is : (ks : List ℕ) → map (λ (k : ℕ). k) ks ≡ ks
as-it-is [] = refl
as-it-is (k ∷ ks) = ap (λ us. k ∷ us) (as-it-is ks)

pub once-servers : (ms : List Member) → Once (servers_of ms)
unfolding phases.servers_where
once-servers ms = let has : ℕ → Bool = λ k. list_any (λ (m : Member). k == m.server.0) ms in
    subst Once (as-it-is (filter has (range_with_len 0 8))) (once-filter (λ (k : ℕ). k) has (range_with_len 0 8) once-range)

-- ---- one order less

module _ (m : Master) (q : ℕ) (once : Once m.servers) (among : (k : ℕ) → is_among k m.owed ≡ true → is_among k m.servers ≡ true) (owes : is_among q m.owed ≡ true) where
  abbrev pub all : ℕ
  all = length m.servers

  abbrev pub count : List ℕ → ℕ
  count owed = length (filter (λ k. is_among k owed) m.servers)

  pub one-less : count m.owed ≡ suc (count (without q m.owed))
  one-less = count-less (λ k. is_among k m.owed) (λ k. is_among k (without q m.owed)) q m.servers once (in-among q m.servers (among q owes)) owes (taken-out q m.owed) (λ k ne. among-without k q m.owed ne)

  -- with the last one there was one
  none-left : (rest : List ℕ) → without q m.owed ≡ rest → count m.owed ≡ suc (count rest)
  none-left rest is = one-less ∙ ap (λ ks. suc (count ks)) is

  empty-count : count [] ≡ 0
  empty-count = empty m.servers
    where
      empty : (ks : List ℕ) → length (filter (λ k. is_among k []) ks) ≡ 0
      empty [] = refl
      empty (k ∷ ks) = empty ks

  full-count : count m.servers ≡ all
  full-count = count-all (λ k. is_among k m.servers) m.servers (λ k h. is-among k m.servers h)

  -- Finishing
  abbrev pub in_phase : PhaseName → Master
  in_phase p = record m { phase = p }

  pub finish-less : (rest : List ℕ) → without q m.owed ≡ rest → orders_left (phases.left_with (in_phase phase.Finishing) rest) + 1 ≡ count m.owed
  finish-less [] is = let c : count m.owed ≡ suc (count []) = none-left [] is in let z : count [] ≡ 0 = empty-count in omega arith
  finish-less (a ∷ rest) is = let c : count m.owed ≡ suc (count (a ∷ rest)) = none-left (a ∷ rest) is in omega arith

  pub revert-less : (rest : List ℕ) → without q m.owed ≡ rest → orders_left (phases.left_with (in_phase phase.Reverting) rest) + 1 ≡ count m.owed + all
  revert-less [] is = let c : count m.owed ≡ suc (count []) = none-left [] is in let z : count [] ≡ 0 = empty-count in let f : count m.servers ≡ all = full-count in omega arith
  revert-less (a ∷ rest) is = let c : count m.owed ≡ suc (count (a ∷ rest)) = none-left (a ∷ rest) is in omega arith

  pub report-less : (xs : List Shown) (rest : List ℕ) → without q m.owed ≡ rest → orders_left (phases.settled_where rest (record (in_phase phase.Lost) { owed = rest; reports = xs })) + 1 ≡ count m.owed + all + all
  report-less xs (a ∷ rest) is = let c : count m.owed ≡ suc (count (a ∷ rest)) = none-left (a ∷ rest) is in omega arith
  report-less xs [] is = by (decision xs)
    where
      c : count m.owed ≡ suc (count [])
      c = none-left [] is

      by : (d : Decision) → orders_in (phases.phase_by d) (count (phases.owed_first (phases.phase_by d) m.servers)) all + 1 ≡ count m.owed + all + all
      by (CommitRest n) = let z : count [] ≡ 0 = empty-count in let f : count m.servers ≡ all = full-count in omega (arith, c)
      by d = let z : count [] ≡ 0 = empty-count in let f : count m.servers ≡ all = full-count in omega (arith, c)
