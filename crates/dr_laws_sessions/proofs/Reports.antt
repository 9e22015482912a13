-- A lost master has no more reports than there are members whose servers have answered.
use Rattle.std.proofs.Common.{ℕ, suc, ◌≡◌, ◌≤◌, ◌+◌, inl, inr, refl, ap, ◌∙◌, subst, Bool, true, false, cond, not, ◌||◌, nat_eq, arith, List, [], ◌∷◌, map, filter, length}
use Rattle.std.proofs.lemmas.List.{length-append}
use Rattle.std.proofs.lemmas.Bool.Decides.{eqb_tells}
use Rattle.dr_ids.specs.declared.names.Member.{Member}
use Rattle.dr_ids.specs.declared.refusal.PhaseName.{PhaseName}
use Rattle.dr_model.specs.Decisions.{Shown}
use Rattle.dr_model.specs.Phases as phases
use Rattle.dr_model.specs.Control.{Control}
use Rattle.dr_model.specs.SessionEntries.{members_on, counts_at, shown_at, shown_by_members}
use Rattle.dr_model.specs.Groups.{FewReports}
use Rattle.dr_laws_sessions.specs.Frames.{MayReport}
use Rattle.dr_facts.proofs.Tables.{IsOrNot}
use Rattle.dr_laws_sessions.proofs.Sound.{among-without}

-- the members on the servers of a list, and how many are on a server, and on those
abbrev those : List ℕ → List Member → List Member
those ks ms = filter (λ (q : Member). phases.is_among q.server.0 ks) ms

abbrev on_one : ℕ → List Member → ℕ
on_one s ms = length (members_on s ms)

abbrev on_those : List ℕ → List Member → ℕ
on_those ks ms = length (those ks ms)

pub those-few : (ks : List ℕ) (ms : List Member) → on_those ks ms ≤ length ms
those-few ks [] = omega arith
those-few ks (m ∷ ms) = by (phases.is_among m.server.0 ks) (those-few ks ms)
  where
    by : (b : Bool) → on_those ks ms ≤ length ms → length (cond b (m ∷ filter (λ (q : Member). phases.is_among q.server.0 ks) ms) (filter (λ (q : Member). phases.is_among q.server.0 ks) ms)) ≤ suc (length ms)
    by true less = omega (arith, less)
    by false less = omega (arith, less)

-- a list without a server doesn't have it
pub out-without : (s : ℕ) (ks : List ℕ) → phases.is_among s (phases.without s ks) ≡ false
out-without s [] = refl
out-without s (n ∷ ks) = by (eqb_tells n s) (out-without s ks)
  where
    by : IsOrNot n s → phases.is_among s (phases.without s ks) ≡ false → phases.is_among s (cond (not (nat_eq n s)) (n ∷ phases.without s ks) (phases.without s ks)) ≡ false
    by (inl is) more = ap (λ b. phases.is_among s (cond (not b) (n ∷ phases.without s ks) (phases.without s ks))) is.0 ∙ more
    by (inr other) more = ap (λ b. phases.is_among s (cond (not b) (n ∷ phases.without s ks) (phases.without s ks))) other.0 ∙ (ap (λ b. b || phases.is_among s (phases.without s ks)) other.0 ∙ more)

-- with a server goes what is on it, where it was in the list
fewer-without : (s : ℕ) (ks : List ℕ) (ms : List Member) → phases.is_among s ks ≡ true → on_one s ms + on_those (phases.without s ks) ms ≤ on_those ks ms
fewer-without s ks [] owes = omega arith
fewer-without s ks (m ∷ ms) owes = by (eqb_tells m.server.0 s) (fewer-without s ks ms owes)
  where
    other-by : (b : Bool) → length (members_on s ms) + length (those (phases.without s ks) ms) ≤ length (those ks ms) → length (members_on s ms) + length (cond b (m ∷ (those (phases.without s ks) ms)) (those (phases.without s ks) ms)) ≤ length (cond b (m ∷ (those ks ms)) (those ks ms))
    other-by true less = omega (arith, less)
    other-by false less = omega (arith, less)

    by : IsOrNot m.server.0 s → length (members_on s ms) + length (those (phases.without s ks) ms) ≤ length (those ks ms)
        → length (cond (nat_eq m.server.0 s) (m ∷ (members_on s ms)) (members_on s ms)) + length (cond (phases.is_among m.server.0 (phases.without s ks)) (m ∷ (those (phases.without s ks) ms)) (those (phases.without s ks) ms)) ≤ length (cond (phases.is_among m.server.0 ks) (m ∷ (those ks ms)) (those ks ms))
    by (inl is) less =
        let on : length (cond (nat_eq m.server.0 s) (m ∷ (members_on s ms)) (members_on s ms)) ≡ suc (length (members_on s ms)) = ap (λ b. length (cond b (m ∷ (members_on s ms)) (members_on s ms))) is.0 in
        let out : length (cond (phases.is_among m.server.0 (phases.without s ks)) (m ∷ (those (phases.without s ks) ms)) (those (phases.without s ks) ms)) ≡ length (those (phases.without s ks) ms) = ap (λ b. length (cond b (m ∷ (those (phases.without s ks) ms)) (those (phases.without s ks) ms))) (ap (λ z. phases.is_among z (phases.without s ks)) is.1 ∙ out-without s ks) in
        let own : length (cond (phases.is_among m.server.0 ks) (m ∷ (those ks ms)) (those ks ms)) ≡ suc (length (those ks ms)) = ap (λ b. length (cond b (m ∷ (those ks ms)) (those ks ms))) (ap (λ z. phases.is_among z ks) is.1 ∙ owes) in
        omega (arith, less, on, out, own)
    by (inr other) less =
        let off : length (cond (nat_eq m.server.0 s) (m ∷ (members_on s ms)) (members_on s ms)) ≡ length (members_on s ms) = ap (λ b. length (cond b (m ∷ (members_on s ms)) (members_on s ms))) other.0 in
        let same : length (cond (phases.is_among m.server.0 (phases.without s ks)) (m ∷ (those (phases.without s ks) ms)) (those (phases.without s ks) ms)) ≡ length (cond (phases.is_among m.server.0 ks) (m ∷ (those (phases.without s ks) ms)) (those (phases.without s ks) ms)) = ap (λ b. length (cond b (m ∷ (those (phases.without s ks) ms)) (those (phases.without s ks) ms))) (among-without m.server.0 s ks other.1) in
        let more = other-by (phases.is_among m.server.0 ks) less in
        omega (arith, off, same, more)

-- or nothing, where it wasn't
pub shrinks : (s : ℕ) (ks : List ℕ) (ms : List Member) → on_those (phases.without s ks) ms ≤ on_those ks ms
shrinks s ks [] = omega arith
shrinks s ks (m ∷ ms) = by (eqb_tells m.server.0 s) (shrinks s ks ms)
  where
    gone-by : (b : Bool) → length (those (phases.without s ks) ms) ≤ length (those ks ms) → length (those (phases.without s ks) ms) ≤ length (cond b (m ∷ (those ks ms)) (those ks ms))
    gone-by true less = omega (arith, less)
    gone-by false less = less

    other-by : (b : Bool) → length (those (phases.without s ks) ms) ≤ length (those ks ms) → length (cond b (m ∷ (those (phases.without s ks) ms)) (those (phases.without s ks) ms)) ≤ length (cond b (m ∷ (those ks ms)) (those ks ms))
    other-by true less = omega (arith, less)
    other-by false less = less

    by : IsOrNot m.server.0 s → length (those (phases.without s ks) ms) ≤ length (those ks ms) → length (cond (phases.is_among m.server.0 (phases.without s ks)) (m ∷ (those (phases.without s ks) ms)) (those (phases.without s ks) ms)) ≤ length (cond (phases.is_among m.server.0 ks) (m ∷ (those ks ms)) (those ks ms))
    by (inl is) less =
        let out : length (cond (phases.is_among m.server.0 (phases.without s ks)) (m ∷ (those (phases.without s ks) ms)) (those (phases.without s ks) ms)) ≡ length (those (phases.without s ks) ms) = ap (λ b. length (cond b (m ∷ (those (phases.without s ks) ms)) (those (phases.without s ks) ms))) (ap (λ z. phases.is_among z (phases.without s ks)) is.1 ∙ out-without s ks) in
        let more = gone-by (phases.is_among m.server.0 ks) less in
        omega (arith, out, more)
    by (inr other) less =
        let same : length (cond (phases.is_among m.server.0 (phases.without s ks)) (m ∷ (those (phases.without s ks) ms)) (those (phases.without s ks) ms)) ≡ length (cond (phases.is_among m.server.0 ks) (m ∷ (those (phases.without s ks) ms)) (those (phases.without s ks) ms)) = ap (λ b. length (cond b (m ∷ (those (phases.without s ks) ms)) (those (phases.without s ks) ms))) (among-without m.server.0 s ks other.1) in
        let more = other-by (phases.is_among m.server.0 ks) less in
        omega (arith, same, more)

-- as many show something at most as there are
pub shown-few : (s : ℕ) (ms : List Member) (k : Control) → length (shown_by_members s ms k) ≤ length ms
shown-few s [] k = omega arith
shown-few s (m ∷ ms) k = by (counts_at s k m) (shown-few s ms k)
  where
    by : (b : Bool) → length (shown_by_members s ms k) ≤ length ms → length (map (shown_at k) (cond b (m ∷ filter (counts_at s k) ms) (filter (counts_at s k) ms))) ≤ suc (length ms)
    by true less = omega (arith, less)
    by false less = omega (arith, less)

-- ---- masters

pub few-enters : (p : PhaseName) (m : phases.Master) (ms : List Member) → FewReports (phases.enters p m) ms
few-enters p m ms = let less = those-few (phases.owed_first p m.servers) ms in omega (arith, less)

pub few-left : (m : phases.Master) (ms : List Member) (server : ℕ) (rest : List ℕ) → phases.without server m.owed ≡ rest → FewReports m ms → FewReports (record m { owed = rest }) ms
few-left m ms server rest is old = let less = subst (λ ks. on_those ks ms ≤ on_those m.owed ms) is (shrinks server m.owed ms) in omega (arith, less, old)

pub few-reported : (m : phases.Master) (ms : List Member) (server : ℕ) (xs : List Shown) → MayReport m ms server xs → FewReports m ms → FewReports (phases.replied m server (phases.Reported xs)) ms
few-reported m ms server xs may old =
    let less = fewer-without server m.owed ms may.owes in
    let few = may.few in
    let sum = length-append m.reports xs in
    omega (arith, less, few, sum, old)

-- so its reports and those of the server are no more than the members
pub reports-few : (m : phases.Master) (ms : List Member) (server : ℕ) (xs : List Shown) → MayReport m ms server xs → FewReports m ms → length m.reports + length xs ≤ length ms
reports-few m ms server xs may old =
    let less = fewer-without server m.owed ms may.owes in
    let few = may.few in
    omega (arith, less, few, old)
