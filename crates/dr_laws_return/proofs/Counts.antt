-- How many tracks a set has: as many as it has in order.
use Rattle.std.proofs.Common.{ℕ, zero, suc, ◌≡◌, ◌≢◌, ◌<◌, ◌≤◌, ◌+◌, ◌-◌, refl, ap, sym, ◌∙◌, Bool, true, false, cond, [], ◌∷◌, length, filter, arith}
use Rattle.std.proofs.lemmas.Bool.{eq-eqb}
use Rattle.std.specs.Cmp.{nat_cmp_total}
use Rattle.std.specs.FinSet.{contains, remove, len, len-remove}
use Rattle.std.specs.List.{range_with_len}
use Rattle.dr_model.specs.Layout.{Tracks}
use Rattle.dr_model.specs.Relations.{in_order, is_bare}
use Rattle.dr_model.proofs.LawfulLemmas.{removed}
use Rattle.dr_facts.proofs.Sets.{not_removed, remove_other}
use Rattle.dr_facts.proofs.Tracks.{bare-has}
use Rattle.dr_logic.proofs.Lists.{filter-none}
use Rattle.dr_logic.proofs.Truth.{false_true}
use Rattle.dr_laws_sound.proofs.Spends.{len-low}

-- above its lowest place, two tests agree that differ there alone
past-same : (s : Tracks) (n b a : ℕ) → a < b → filter (contains (remove s a)) (range_with_len b n) ≡ filter (contains s) (range_with_len b n)
past-same s zero b a past = refl
past-same s (suc n) b a past =
    let rest = past-same s n (b + 1) a (omega (arith, past)) in
    let same : contains (remove s a) b ≡ contains s b = remove_other s a b (λ e. absurd (omega (arith, past, e))) in
    λ i. cond (same i) (b ∷ rest i) (rest i)

-- a set whose tracks are all from a on, below a + n
length-from : (n a : ℕ) (s : Tracks) → ((q : ℕ) → contains s q ≡ true → (a ≤ q) × (q < a + n)) → length (filter (contains s) (range_with_len a n)) ≡ len s
length-from zero a s within = let few : len s ≤ 0 = len-low 0 s (λ q h. let in_it = within q h in omega (arith, in_it.0, in_it.1)) in omega (arith, few)
length-from (suc n) a s within = by (contains s a) refl (λ z more. length-from n (a + 1) z more)
  where
    ne-low : (q : ℕ) → a ≤ q → q ≢ a → (a + 1) ≤ q
    ne-low q le ne = omega (arith, le, ne)

    by : (b : Bool) → contains s a ≡ b → ((z : Tracks) → ((q : ℕ) → contains z q ≡ true → ((a + 1) ≤ q) × (q < (a + 1) + n)) → length (filter (contains z) (range_with_len (a + 1) n)) ≡ len z)
        → length (cond b (a ∷ filter (contains s) (range_with_len (a + 1) n)) (filter (contains s) (range_with_len (a + 1) n))) ≡ len s
    by true is on =
        let less : Tracks = remove s a in
        let rest : length (filter (contains less) (range_with_len (a + 1) n)) ≡ len less =
        on less (λ q h.
        let in_it = within q (removed s a q h) in
        let ne : q ≢ a = λ e. false_true (ap (contains less) e ∙ not_removed s a) h in
        (ne-low q in_it.0 ne, omega (arith, in_it.1))) in
        let same : length (filter (contains s) (range_with_len (a + 1) n)) ≡ len less = sym (ap length (past-same s n (a + 1) a (omega arith))) ∙ rest in
        let taken : len less ≡ len s - 1 = len-remove nat_cmp_total s a ∙ ap (λ b. cond b (len s - 1) (len s)) is in
        let some : len s ≢ 0 = λ none. false_true (bare-has s a (eq-eqb (len s) 0 none)) is in
        omega (arith, same, taken, some)
    by false is on =
        on s (λ q h.
        let in_it = within q h in
        let ne : q ≢ a = λ e. false_true is (sym (ap (contains s) e) ∙ h) in
        (ne-low q in_it.0 ne, omega (arith, in_it.1)))

-- so it is of one whose tracks are below n
pub length-in_order : (n : ℕ) (s : Tracks) → ((q : ℕ) → contains s q ≡ true → q < n) → length (in_order n s) ≡ len s
unfolding in_order
length-in_order n s low = length-from n 0 s (λ q h. let lt = low q h in (omega arith, omega (arith, lt)))

-- and one without tracks has none in order
pub none-in_order : (n : ℕ) (s : Tracks) → is_bare s ≡ true → in_order n s ≡ []
unfolding in_order
none-in_order n s bare = filter-none (contains s) (range_with_len 0 n) (λ q. bare-has s q bare)
