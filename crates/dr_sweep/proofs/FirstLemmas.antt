-- Which server of a disaster stops first.
use Rattle.std.proofs.Common.{ℕ, ◌≡◌, ◌≢◌, ◌<◌, ◌≤◌, ◌+◌, Bool, true, false, cond, List, [], ◌∷◌, drop, length, refl, ap, ◌∙◌, sym, arith, nat_eq, Option, Some, None}
use Rattle.std.specs.Prelude.{slice_get}
use Rattle.std.specs.List.{filter_map, cons_option}
use Rattle.std.specs.Option.{option_and_then}
use Rattle.std.specs.Str.{bytes_eq}
use Rattle.std.proofs.Math.ListN.{drop_of_length-le}
use Rattle.std.proofs.lemmas.Bool.Decides.{nat_tests}
use Rattle.std.proofs.lemmas.List.{drop_more}
use Rattle.std.proofs.lemmas.List.Quantifiers.{position-Some}
use Rattle.std.proofs.lemmas.Option.{slice_get-get_or}
use Rattle.dr_model.specs.declared.event.Event.{Event}
use Rattle.dr_model.specs.declared.event.Event.TheVariants.{ImageEnd, Stopped}
use Rattle.dr_model.specs.declared.step.Name.{Name}
use Rattle.dr_model.specs.LineText.{name_text}
use Rattle.dr_model.specs.Text.{Heard, told_name}
use Rattle.dr_plan.specs.declared.points.Point.TheVariants.{Cut}
use Rattle.dr_plan.specs.declared.points.Torn.{Torn}
use Rattle.dr_plan.specs.Sweep.{Sweep}
use Rattle.dr_sweep.specs.Comes.{first_stop, servers_at}
use Rattle.dr_sweep.specs.Reach.{told_before, stopped_by, stopped_since, stop_by}
use Rattle.dr_sweep.specs.declared.reach.FirstStop.TheVariants.{Own, Other, Nobody}

-- ---- one event after another

-- the first that is found from a place on is that at the place, if there is one, and else the first after it
pub first-here : {X : Type 0} (f : Event → Option X) (es : List Event) (i : ℕ) (x : X) (all : Option X) → i < length es → option_and_then f (slice_get es i) ≡ Some x → slice_get (filter_map f (drop i es)) 0 ≡ all → Some x ≡ all
first-here f es i x all lt found so_far =
    sym
    (ap (λ es'. slice_get (filter_map f es') 0) (drop_more es i ImageEnd lt)
    ∙ ap (λ o. slice_get (cons_option o (filter_map f (drop (i + 1) es))) 0) (sym (ap (option_and_then f) (slice_get-get_or es i ImageEnd lt)) ∙ found))
    ∙ so_far

pub first-later : {X : Type 0} (f : Event → Option X) (es : List Event) (i : ℕ) (all : Option X) → i < length es → option_and_then f (slice_get es i) ≡ None → slice_get (filter_map f (drop i es)) 0 ≡ all → slice_get (filter_map f (drop (i + 1) es)) 0 ≡ all
first-later f es i all lt none so_far =
    sym
    (ap (λ es'. slice_get (filter_map f es') 0) (drop_more es i ImageEnd lt)
    ∙ ap (λ o. slice_get (cons_option o (filter_map f (drop (i + 1) es))) 0) (sym (ap (option_and_then f) (slice_get-get_or es i ImageEnd lt)) ∙ none))
    ∙ so_far

pub first-none : {X : Type 0} (f : Event → Option X) (es : List Event) (i : ℕ) (all : Option X) → length es ≤ i → slice_get (filter_map f (drop i es)) 0 ≡ all → None ≡ all
first-none f es i all past so_far = sym (ap (λ es'. slice_get (filter_map f es') 0) (drop_of_length-le es past)) ∙ so_far

-- ---- where it stands

pub nobody : Name
nobody = record { bytes = []; len = 0 }

named_within : (told : Heard) (names : List Name) (e : Event) (place : ℕ) → stopped_by told names e ≡ Some place → place < length names
named_within told names (Stopped server write) place is = (position-Some (λ (name : Name). bytes_eq (name_text name) (told_name told server)) names place nobody is).0
named_within told names _ place is = absurd cc

found_within : (told : Heard) (names : List Name) (es : List Event) (place : ℕ) → slice_get (filter_map (stopped_by told names) es) 0 ≡ Some place → place < length names
found_within told names [] place is = absurd cc
found_within told names (e ∷ es) place is = by (stopped_by told names e) refl is (found_within told names es place)
  where
    by : (o : Option ℕ) → stopped_by told names e ≡ o → slice_get (cons_option o (filter_map (stopped_by told names) es)) 0 ≡ Some place → (slice_get (filter_map (stopped_by told names) es) 0 ≡ Some place → place < length names) → place < length names
    by None same h later = later h
    by (Some first) same h later = named_within told names e place (same ∙ h)

pub stop-other : (server other : ℕ) (found : Option ℕ) → stop_by server found ≡ Other other → (found ≡ Some other) × (other ≢ server)
stop-other server other None is = absurd cc
stop-other server other (Some place) is = by (nat_eq place server) refl is
  where
    by : (b : Bool) → nat_eq place server ≡ b → cond b Own (Other place) ≡ Other other → (Some place ≡ Some other) × (other ≢ server)
    by true same h = absurd cc
    by false apart h = let is : place ≡ other = cc in (ap Some is, λ e. let both : place ≡ server = is ∙ e in let test : nat_eq place server ≡ true = grind (arith, nat_tests, both) in let no : true ≡ false = sym test ∙ apart in cc)

-- a stop says whose it is
pub stop-same : (server : ℕ) (one other : Option ℕ) → stop_by server one ≡ stop_by server other → one ≡ other
stop-same server None None is = refl
stop-same server None (Some b) is = by (nat_eq b server) is
  where
    by : (t : Bool) → Nobody ≡ cond t Own (Other b) → None ≡ Some b
    by true h = absurd cc
    by false h = absurd cc
stop-same server (Some a) None is = by (nat_eq a server) is
  where
    by : (t : Bool) → cond t Own (Other a) ≡ Nobody → Some a ≡ None
    by true h = absurd cc
    by false h = absurd cc
stop-same server (Some a) (Some b) is = by (nat_eq a server) (nat_eq b server) refl refl is
  where
    by : (t u : Bool) → nat_eq a server ≡ t → nat_eq b server ≡ u → cond t Own (Other a) ≡ cond u Own (Other b) → Some a ≡ Some b
    by true true one other h = let first : a ≡ server = grind (arith, nat_tests) in let second : b ≡ server = grind (arith, nat_tests) in ap Some (first ∙ sym second)
    by true false one other h = absurd cc
    by false true one other h = absurd cc
    by false false one other h = ap Some (let same : a ≡ b = cc in same)

pub stop-is : (server other : ℕ) (found : Option ℕ) → found ≡ Some other → other ≢ server → stop_by server found ≡ Other other
stop-is server other found is apart = ap (stop_by server) is ∙ (let test : nat_eq other server ≡ false = grind (arith, nat_tests) in ap (λ b. cond b Own (Other other)) test)

module _ (plan : Sweep) (disaster place server : ℕ) (torn : Torn) (writes : List ℕ) (from : ℕ) (events : List Event) (other : ℕ) (is : first_stop plan (Cut disaster place server torn writes) from events ≡ Other other) where
  abbrev names_there : List Name
  names_there = servers_at plan (Cut disaster place server torn writes)

  both : (slice_get (stopped_since names_there from events) 0 ≡ Some other) × (other ≢ server)
  both = stop-other server other (slice_get (stopped_since names_there from events) 0) is

  -- another server is another one
  pub other-apart : other ≢ server
  other-apart = both.1

  -- and one of the disaster
  pub other-within : other < length (servers_at plan (Cut disaster place server torn writes))
  other-within = found_within (told_before from events) names_there (drop from events) other both.0
