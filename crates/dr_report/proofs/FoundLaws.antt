-- What is found by what the devices say.
use Rattle.std.proofs.Common.{◌≡◌, ◌↔◌, ℕ, ◌≤◌, Bool, false, List, [], ◌∷◌, length, map, filter, refl, ap, sym, ◌∙◌, arith, ◌==◌}
use Rattle.std.proofs.lemmas.List.{length-map}
use Rattle.dr_logic.proofs.Lists.{filter-shorter}
use Rattle.dr_ids.specs.declared.refusal.Decision.{Decision}
use Rattle.dr_ids.specs.declared.refusal.Decision.TheVariants.{NoMember, Nothing, RevertAll, CommitRest, RevertSome, Impossible}
use Rattle.dr_model.specs.Decisions.{Shown, decided, decision, shown_by}
use Rattle.dr_model.specs.SessionEntries.{counts_in, shown_of}
use Rattle.dr_volume.specs.Plain.{plain}
use Rattle.dr_report.specs.declared.device.Device.{Device}
use Rattle.dr_report.specs.declared.found.Found.TheVariants.{Contradiction, Lines, NoMembers}
use Rattle.dr_report.specs.Found.{found_among, found_by}
use Rattle.dr_report.specs.Known.{Known, known, all_known}
use Rattle.dr_report.specs.Report.{counted, decided_over}
use Rattle.dr_report.proofs.Chosen.{shown-both, some-known}

-- where none counts, no member is found
pub found-none : {X : Type 0} (xs : List X) (d : Decision) (text : List ℕ) → length xs ≡ 0 → NoMembers ≡ found_among xs d text
found-none [] d text e = refl
found-none (x ∷ xs) d text e = absurd (omega arith)

pub found-some : {X : Type 0} (xs : List X) (d : Decision) (text : List ℕ) → (length xs == 0) ≡ false → found_by d text ≡ found_among xs d text
found-some [] d text e = absurd cc
found-some (x ∷ xs) d text e = refl

-- by as many others
pub found-as-many : {X Y : Type 0} (xs : List X) (ys : List Y) (d : Decision) (text : List ℕ) → length xs ≡ length ys → found_among xs d text ≡ found_among ys d text
found-as-many [] [] d text e = refl
found-as-many [] (y ∷ ys) d text e = absurd (omega arith)
found-as-many (x ∷ xs) [] d text e = absurd (omega arith)
found-as-many (x ∷ xs) (y ∷ ys) d text e = refl

-- what is possible gives the text
pub found-text : (d : Decision) (text : List ℕ) → ((a b : ℕ) → d ≡ Impossible a b → ⊥) → Lines text ≡ found_by d text
found-text NoMember text possible = refl
found-text (Nothing n) text possible = refl
found-text (RevertAll n) text possible = refl
found-text (CommitRest n) text possible = refl
found-text (RevertSome m n) text possible = refl
found-text (Impossible a b) text possible = absurd (possible a b refl)

module _ (s : ℕ) (ds : List Device) (ns : List ℕ) (numbers : ns ≡ map (λ (d : Device). d.fields.sequence) (filter (λ (d : Device). counts_in s (plain d.fields)) ds)) where
  pub counted-length : length ns ≡ length (counted s (all_known ds))
  counted-length =
      ap length (numbers ∙ sym (some-known (λ (k : Known). counts_in s k.fields) (λ (k : Known). k.fields.sequence) known ds)) ∙ length-map (counted s (all_known ds)) (λ (k : Known). k.fields.sequence)

  pub counted-few : length ds ≤ 64 → length ns ≤ 64
  counted-few few =
      let shorter = filter-shorter (λ (d : Device). counts_in s (plain d.fields)) ds in
      let same : length ns ≡ length (filter (λ (d : Device). counts_in s (plain d.fields)) ds) = ap length numbers ∙ length-map (filter (λ (d : Device). counts_in s (plain d.fields)) ds) (λ (d : Device). d.fields.sequence) in
      omega arith

  pub decided-known : (fs : List Bool) → fs ≡ map (λ (d : Device). d.fields.revertible) (filter (λ (d : Device). counts_in s (plain d.fields)) ds) → decision (shown_by ns fs) ≡ decided_over s (all_known ds)
  decided-known fs flags =
      ap decision ((λ i. shown_by (numbers i) (flags i)) ∙ shown-both (λ (d : Device). d.fields.sequence) (λ (d : Device). d.fields.revertible) (filter (λ (d : Device). counts_in s (plain d.fields)) ds)
      ∙ sym (some-known (λ (k : Known). counts_in s k.fields) (λ (k : Known). shown_of k.fields) known ds))

-- a contradiction is found exactly where the decision is impossible
contradicts : (d : Decision) (text : List ℕ) (a b : ℕ) → found_by d text ≡ Contradiction a b → d ≡ Impossible a b
contradicts NoMember text a b e = absurd cc
contradicts (Nothing n) text a b e = absurd cc
contradicts (RevertAll n) text a b e = absurd cc
contradicts (CommitRest n) text a b e = absurd cc
contradicts (RevertSome m n) text a b e = absurd cc
contradicts (Impossible x y) text a b e = let first : x ≡ a = cc in let second : y ≡ b = cc in λ i. Impossible (first i) (second i)

decided-none : decision [] ≡ NoMember
unfolding decision decided
decided-none = refl

none-impossible : (a b : ℕ) → NoMember ≡ Impossible a b → ⊥
none-impossible a b e = cc

pub contradiction-exact : {X : Type 0} (f : X → Shown) (xs : List X) (text : List ℕ) (a b : ℕ) → (found_among xs (decision (map f xs)) text ≡ Contradiction a b) ↔ (decision (map f xs) ≡ Impossible a b)
contradiction-exact f [] text a b = (λ e. absurd cc, λ e. absurd (none-impossible a b (sym decided-none ∙ e)))
contradiction-exact f (x ∷ xs) text a b = (λ e. contradicts (decision (map f (x ∷ xs))) text a b e, λ e. ap (λ d. found_by d text) e)

members-found : (d : Decision) (text : List ℕ) → found_by d text ≡ NoMembers → ⊥
members-found NoMember text e = cc
members-found (Nothing n) text e = cc
members-found (RevertAll n) text e = cc
members-found (CommitRest n) text e = cc
members-found (RevertSome m n) text e = cc
members-found (Impossible x y) text e = cc

-- and no member exactly where none counts
pub none-exact : {X : Type 0} (xs : List X) (d : Decision) (text : List ℕ) → (found_among xs d text ≡ NoMembers) ↔ (xs ≡ [])
none-exact [] d text = (λ e. refl, λ e. refl)
none-exact (x ∷ xs) d text = (λ e. absurd (members-found d text e), λ e. absurd cc)
