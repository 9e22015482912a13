-- What is read of a run between two pieces.
use Rattle.std.proofs.Common.{ℕ, ◌≡◌, ◌<◌, ◌≤◌, ◌+◌, ◌-◌, ◌⊎◌, inl, inr, Bool, true, false, cond, List, [], ◌∷◌, ◌++◌, map, take, length, get_or, refl, ap, ◌∙◌, sym, subst, arith, Option, Some, None, option_map}
use Rattle.std.specs.Prelude.{slice_get, count_by}
use Rattle.std.specs.Option.{option_map_or, unwrap_or}
use Rattle.std.specs.Str.Lines.{lines}
use Rattle.std.proofs.lemmas.Grind.{common_steps}
use Rattle.std.proofs.lemmas.List.{take_more, take_all, map-append, append-nil}
use Rattle.std.proofs.lemmas.List.Sums.{count_by_more_yes, count_by_more_no}
use Rattle.std.proofs.lemmas.Option.{slice_get_cases, get_or_from_slice_get}
use Rattle.dr_config.proofs.Lists.{element-at}
use Rattle.dr_ids.specs.declared.names.Member.{Member}
use Rattle.dr_ids.specs.declared.names.SessionId.{SessionId}
use Rattle.dr_model.specs.Answers.{phase_place}
use Rattle.dr_model.specs.Control.{Control}
use Rattle.dr_model.specs.Forming.{phase_in}
use Rattle.dr_model.specs.SessionEntries.{counts_at}
use Rattle.dr_model.specs.Sessions.{Session}
use Rattle.dr_plan.specs.Pieces.{IsTextOf}
use Rattle.dr_plan.specs.Points.{with_end}
use Rattle.dr_rows.specs.declared.row.Members.{Members}
use Rattle.dr_rows.specs.declared.row.SessionPhase.{SessionPhase}
use Rattle.dr_sweep.specs.Moments.{phase_at, members_of, members_at}

-- a value, or none where there is nothing
pub or-false : {A : Type 0} (f : A → Bool) (o : Option A) (r : Option Bool) → r ≡ option_map f o → unwrap_or r false ≡ option_map_or f o false
or-false f None r is = ap (λ x. unwrap_or x false) is
or-false f (Some a) r is = ap (λ x. unwrap_or x false) is

-- the phase of a session that is there
pub phase-none : (k : Control) (o : Option Session) (r : Option SessionId) → option_map (λ (s : SessionId). s.0) r ≡ option_map (λ (y : Session). y.number) o → r ≡ None → None ≡ option_map (phase_at k) o
phase-none k None r is none = refl
phase-none k (Some y) r is none = absurd (let is' : option_map (λ (s : SessionId). s.0) None ≡ Some y.number = subst (λ (r : Option SessionId). option_map (λ (s : SessionId). s.0) r ≡ Some y.number) none is in cc)

pub phase-some : (k : Control) (o : Option Session) (r : Option SessionId) (s : SessionId) (n : ℕ) → option_map (λ (s : SessionId). s.0) r ≡ option_map (λ (y : Session). y.number) o → r ≡ Some s → n ≡ phase_place (phase_in k s.0) → Some (record { session = s.0; phase = n }) ≡ option_map (phase_at k) o
phase-some k None r s n is some at = absurd (let is' : Some s.0 ≡ None = sym (ap (option_map (λ (s : SessionId). s.0)) some) ∙ is in cc)
phase-some k (Some y) r s n is some at =
    let both : Some s.0 ≡ Some y.number = sym (ap (option_map (λ (s : SessionId). s.0)) some) ∙ is in
    let same : s.0 ≡ y.number = cc in
    ap (λ m. Some (phase_so s.0 m)) at ∙ ap (λ m. Some (phase_so m (phase_place (phase_in k m)))) same
  where
    phase_so : ℕ → ℕ → SessionPhase
    phase_so m n = record { session = m; phase = n }

-- the phases so far, and that of one session more
pub record PhasesTo (k : Control) (ss : List Session) (old new : List SessionPhase) : Type 0 where
  pub same : new ≡ map (phase_at k) (take (length new) ss)
  pub within : length new ≤ length ss
  pub fewer : length ss - length new < length ss - length old

pub phases-more : (k : Control) (ss : List Session) (old new : List SessionPhase) (n : ℕ) (r : Option SessionPhase) (phase : SessionPhase) → n ≡ length old → old ≡ map (phase_at k) (take (length old) ss) → new ≡ old ++ phase ∷ [] → r ≡ option_map (phase_at k) (slice_get ss n) → r ≡ Some phase → PhasesTo k ss old new
phases-more k ss old new n r phase at same grown is some = by (slice_get_cases ss n).1
  where
    size : length new ≡ length old + 1
    size = ap length grown ∙ (let e : length (old ++ phase ∷ []) ≡ length old + 1 = grind (arith, common_steps) in e)

    by : ((x : Session) × (n < length ss) × (slice_get ss n ≡ Some x) × (get_or ss n x ≡ x)) ⊎ ((length ss ≤ n) × (slice_get ss n ≡ None)) → PhasesTo k ss old new
    by (inl x) =
        let low : length old < length ss = (let lt = x.1 in omega (arith, at, lt)) in
        let here : Some phase ≡ Some (phase_at k x.0) = sym some ∙ is ∙ ap (option_map (phase_at k)) x.2 in
        let is-so : phase ≡ phase_at k x.0 = cc in
        let there : get_or ss (length old) x.0 ≡ x.0 = ap (λ m. get_or ss m x.0) (sym at) ∙ x.3 in
        record {
          same = grown ∙ ap (λ p. old ++ p ∷ []) is-so ∙ ap (λ xs. xs ++ phase_at k x.0 ∷ []) same
              ∙ sym (map-append (phase_at k) (take (length old) ss) (x.0 ∷ []))
              ∙ ap (map (phase_at k)) (ap (λ y. take (length old) ss ++ y ∷ []) (sym there) ∙ sym (take_more ss (length old) x.0 low) ∙ ap (λ m. take m ss) (sym size));
          within = omega (arith, size, low);
          fewer = omega (arith, size, low);
        }
    by (inr past) = absurd (let none : Some phase ≡ None = sym some ∙ is ∙ ap (option_map (phase_at k)) past.1 in cc)

-- where there is no session more these are all
pub phases-all : (k : Control) (ss : List Session) (old : List SessionPhase) (n : ℕ) (r : Option SessionPhase) → n ≡ length old → old ≡ map (phase_at k) (take (length old) ss) → r ≡ option_map (phase_at k) (slice_get ss n) → ((p : SessionPhase) → r ≡ Some p → ⊥) → old ≡ map (phase_at k) ss
phases-all k ss old n r at same is none = by (slice_get_cases ss n).1
  where
    by : ((x : Session) × (n < length ss) × (slice_get ss n ≡ Some x) × (get_or ss n x ≡ x)) ⊎ ((length ss ≤ n) × (slice_get ss n ≡ None)) → old ≡ map (phase_at k) ss
    by (inl x) = absurd (none (phase_at k x.0) (is ∙ ap (option_map (phase_at k)) x.2))
    by (inr past) = same ∙ ap (map (phase_at k)) (take_all (length old) ss (let low = past.0 in omega (arith, at, low)))

-- ---- members

-- one member more is counted if it counts
pub counted-more : (p : Member → Bool) (ms : List Member) (i : ℕ) (b : Bool) (n m : ℕ) → i < length ms → b ≡ option_map_or p (slice_get ms i) false → m ≡ cond b 1 0 → n ≡ count_by p (take i ms) → n + m ≡ count_by p (take (i + 1) ms)
counted-more p ms i b n m low is more same = by (element-at ms i low)
  where
    by : (x : Member) × (slice_get ms i ≡ Some x) → n + m ≡ count_by p (take (i + 1) ms)
    by x = each (p x.0) refl
      where
        here : get_or ms i x.0 ≡ x.0
        here = get_or_from_slice_get ms i x.0 x.0 x.1

        b-is : b ≡ p x.0
        b-is = is ∙ ap (λ o. option_map_or p o false) x.1

        each : (q : Bool) → p x.0 ≡ q → n + m ≡ count_by p (take (i + 1) ms)
        each true is-so =
            let one : m ≡ 1 = more ∙ ap (λ q. cond q 1 0) (b-is ∙ is-so) in
            ap (λ k. n + k) one ∙ ap (λ k. k + 1) same ∙ sym (count_by_more_yes p ms i x.0 low (ap p here ∙ is-so))
        each false none-so =
            let none : m ≡ 0 = more ∙ ap (λ q. cond q 1 0) (b-is ∙ none-so) in
            (let zero : n + m ≡ n = omega (arith, none) in zero) ∙ same ∙ sym (count_by_more_no p ms i x.0 low (ap p here ∙ none-so))

one-at-most : (b : Bool) → cond b 1 0 ≤ 1
one-at-most true = omega arith
one-at-most false = omega arith

pub counted-low : (b : Bool) (i n m : ℕ) → m ≡ cond b 1 0 → n ≤ i → n + m ≤ i + 1
counted-low b i n m more low = let one = one-at-most b in omega (arith, more, low, one)

pub members-made : (k : Control) (s counted all i : ℕ) → counted ≡ count_by (counts_at s k) (take i (members_of k s)) → all ≡ length (members_of k s) → all ≤ i → record { counted = counted; all = all } ≡ members_at k s
members-made k s counted all i same are past =
    ap (λ n. made n all) (same ∙ ap (count_by (counts_at s k)) (take_all i (members_of k s) (omega (arith, are, past)))) ∙ ap (λ n. made (count_by (counts_at s k) (members_of k s)) n) are
  where
    made : ℕ → ℕ → Members
    made n m = record { counted = n; all = m }

-- ---- lines

-- a line as a text
pub line-text : (line text bytes : List ℕ) → text ≡ with_end line → lines text ≡ line ∷ [] → bytes ≡ text → IsTextOf (line ∷ []) bytes
line-text line text bytes is reads same = (same ∙ is ∙ sym (append-nil (with_end line)), ap lines same ∙ reads)
