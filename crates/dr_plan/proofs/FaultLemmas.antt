-- The first fault of names and of pairs, one after another.
use Rattle.std.proofs.Common.{ℕ, suc, ◌≡◌, ◌<◌, ◌≤◌, ◌+◌, true, false, cond, List, [], ◌∷◌, ◌++◌, take, drop, length, get_or, drop-cons, refl, ap, sym, ◌∙◌, arith, Option, Some, None}
use Rattle.std.proofs.Math.ListN.{drop_of_length-le}
use Rattle.std.proofs.lemmas.List.{take_more}
use Rattle.std.specs.Option.{option_or}
use Rattle.dr_model.specs.declared.step.Name.{Name}
use Rattle.dr_model.specs.declared.grammar.Item.{Item}
use Rattle.dr_plan.specs.declared.above.VolumeSize.{VolumeSize}
use Rattle.dr_plan.specs.declared.reason.Reason.{Reason}
use Rattle.dr_plan.specs.declared.reason.Reason.TheVariants.{ServerTwice, UnknownServer}
use Rattle.dr_plan.specs.Above.{is_among}
use Rattle.dr_plan.specs.Reading.{servers_fault, pair_fault, pairs_fault}

-- ---- names

pub name-twice : (known before : List Name) (name : Name) (rest : List Name) → is_among name before ≡ true → servers_fault known before (name ∷ rest) ≡ Some (ServerTwice name)
unfolding servers_fault
name-twice known before name rest twice = ap (λ b. cond b (Some (ServerTwice name)) (cond (is_among name known) (servers_fault known (before ++ name ∷ []) rest) (Some (UnknownServer name)))) twice

pub name-other : (known before : List Name) (name : Name) (rest : List Name) → is_among name before ≡ false → servers_fault known before (name ∷ rest) ≡ cond (is_among name known) (servers_fault known (before ++ name ∷ []) rest) (Some (UnknownServer name))
unfolding servers_fault
name-other known before name rest once = ap (λ b. cond b (Some (ServerTwice name)) (cond (is_among name known) (servers_fault known (before ++ name ∷ []) rest) (Some (UnknownServer name)))) once

pub names-end : (known before : List Name) → servers_fault known before [] ≡ None
unfolding servers_fault
names-end known before = refl

-- the fault of names from a place on
at_place : (known names : List Name) (i : ℕ) (d : Name) → i < length names → servers_fault known (take i names) (drop i names) ≡ servers_fault known (take i names) (get_or names i d ∷ drop (i + 1) names)
at_place known names i d lt = ap (servers_fault known (take i names)) (drop-cons names i d lt ∙ (let e : suc i ≡ i + 1 = omega arith in ap (λ n. get_or names i d ∷ drop n names) e))

pub twice-at : (known names : List Name) (i : ℕ) (d : Name) (total : Option Reason) → i < length names → is_among (get_or names i d) (take i names) ≡ true → servers_fault known (take i names) (drop i names) ≡ total
    → Some (ServerTwice (get_or names i d)) ≡ total
twice-at known names i d total lt twice so_far = sym (at_place known names i d lt ∙ name-twice known (take i names) (get_or names i d) (drop (i + 1) names) twice) ∙ so_far

pub unknown-at : (known names : List Name) (i : ℕ) (d : Name) (total : Option Reason) → i < length names → is_among (get_or names i d) (take i names) ≡ false → is_among (get_or names i d) known ≡ false
    → servers_fault known (take i names) (drop i names) ≡ total → Some (UnknownServer (get_or names i d)) ≡ total
unknown-at known names i d total lt once unknown so_far =
    sym
    (at_place known names i d lt
    ∙ name-other known (take i names) (get_or names i d) (drop (i + 1) names) once
    ∙ ap (λ b. cond b (servers_fault known (take i names ++ get_or names i d ∷ []) (drop (i + 1) names)) (Some (UnknownServer (get_or names i d)))) unknown)
    ∙ so_far

pub known-at : (known names : List Name) (i : ℕ) (d : Name) (total : Option Reason) → i < length names → is_among (get_or names i d) (take i names) ≡ false → is_among (get_or names i d) known ≡ true
    → servers_fault known (take i names) (drop i names) ≡ total → servers_fault known (take (i + 1) names) (drop (i + 1) names) ≡ total
known-at known names i d total lt once is so_far =
    ap (λ before. servers_fault known before (drop (i + 1) names)) (take_more names i d lt)
    ∙ sym
    (at_place known names i d lt
    ∙ name-other known (take i names) (get_or names i d) (drop (i + 1) names) once
    ∙ ap (λ b. cond b (servers_fault known (take i names ++ get_or names i d ∷ []) (drop (i + 1) names)) (Some (UnknownServer (get_or names i d)))) is)
    ∙ so_far

pub names-past : (known names : List Name) (i : ℕ) (total : Option Reason) → length names ≤ i → servers_fault known (take i names) (drop i names) ≡ total → None ≡ total
names-past known names i total past so_far = sym (ap (servers_fault known (take i names)) (drop_of_length-le names past) ∙ names-end known (take i names)) ∙ so_far

-- ---- pairs

pub pairs-next : (sizes : List VolumeSize) (pair : Item) (rest : List Item) → pairs_fault sizes (pair ∷ rest) ≡ option_or (pair_fault sizes pair) (pairs_fault sizes rest)
unfolding pairs_fault
pairs-next sizes pair rest = refl

pub pairs-end : (sizes : List VolumeSize) → pairs_fault sizes [] ≡ None
unfolding pairs_fault
pairs-end sizes = refl

pub pair-at : (sizes : List VolumeSize) (pairs : List Item) (i : ℕ) (d : Item) (fault total : Option Reason) → i < length pairs → pair_fault sizes (get_or pairs i d) ≡ fault → pairs_fault sizes (drop i pairs) ≡ total
    → option_or fault (pairs_fault sizes (drop (i + 1) pairs)) ≡ total
pair-at sizes pairs i d fault total lt is so_far =
    sym
    (ap (pairs_fault sizes) (drop-cons pairs i d lt ∙ (let e : suc i ≡ i + 1 = omega arith in ap (λ n. get_or pairs i d ∷ drop n pairs) e))
    ∙ pairs-next sizes (get_or pairs i d) (drop (i + 1) pairs)
    ∙ ap (λ f. option_or f (pairs_fault sizes (drop (i + 1) pairs))) is)
    ∙ so_far

pub pairs-past : (sizes : List VolumeSize) (pairs : List Item) (i : ℕ) (total : Option Reason) → length pairs ≤ i → pairs_fault sizes (drop i pairs) ≡ total → None ≡ total
pairs-past sizes pairs i total past so_far = sym (ap (pairs_fault sizes) (drop_of_length-le pairs past) ∙ pairs-end sizes) ∙ so_far
