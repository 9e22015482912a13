-- The set-up that was read so far, and one line more.
use Rattle.std.proofs.Common.{ℕ, ◌≡◌, ◌<◌, ◌≤◌, ◌+◌, true, false, cond, List, [], ◌∷◌, ◌++◌, length, map, refl, ap, sym, ◌∙◌, subst, arith, append_assoc, nat_eq, nat_le, nat_lt, Option, Some, None, ◌⊎◌, inl, inr}
use Rattle.std.specs.Prelude.{All, Ok, Err, ◌||◌}
use Rattle.std.proofs.lemmas.Bool.Decides.{nat_tests}
use Rattle.std.proofs.lemmas.Grind.{common_steps}
use Rattle.std.proofs.lemmas.List.{append-nil, map-append}
use Rattle.std.proofs.lemmas.List.Elements.{All-push}
use Rattle.dr_model.specs.declared.step.Name.{Name}
use Rattle.dr_model.specs.declared.grammar.Span.{Span}
use Rattle.dr_model.specs.LineWords.{paired, span_len}
use Rattle.dr_plan.specs.declared.marks.Mark.{Mark}
use Rattle.dr_plan.specs.declared.marks.Mark.TheVariants.{Lose, Use, AtMost}
use Rattle.dr_plan.specs.declared.reason.Reason.TheVariants.{ManyDisasters, ManyServers, ManyUses, UnequalRanges}
use Rattle.dr_plan.specs.Above.{unless, defines_server, servers_in, volumes_in}
use Rattle.dr_plan.specs.Parts.{IsMark, marks_in, Ranges, use_mark, pairs_of, bound_marks, with_ranges, uses_of, StandsAfter, ComeOnce, AreAlike, IsSetup}
use Rattle.dr_plan.specs.Reading.{announces, servers_fault, pairs_fault, has_use, lost_too, used_pairs, used_too}
use Rattle.dr_plan.specs.Sweep.{Sweep, most_disasters, most_servers, most_uses}
use Rattle.dr_plan.proofs.FaultLaws.{ok-of, unless-of, names-sound, pairs-sound, uses-more, uses-few}
use Rattle.dr_plan.proofs.OwnLemmas.{marks-append, none-more, own-more, none-said, after-more}

-- disasters, uses and the bound were said in this order
pub record Head (done : List (List ℕ)) (used : List Ranges) (plan : Sweep) : Type 0 where
  pub setup : plan.setup ≡ done
  pub marks : marks_in done ≡ map Some (map Lose plan.loses ++ map use_mark used ++ bound_marks plan.bound)
  pub uses : plan.uses ≡ uses_of used
  pub few : length plan.loses ≤ most_disasters
  pub few_used : length plan.uses ≤ most_uses
  pub few_servers : All (λ (names : List Name). length names ≤ most_servers) plan.loses
  pub once : All ComeOnce plan.loses
  pub servers : (above : List (List ℕ)) (names : List Name) → StandsAfter done above (Lose names) → All (λ name. defines_server above name ≡ true) names
  pub lengths : All (λ (r : Ranges). span_len r.first ≡ span_len r.second) used
  pub volumes : (above : List (List ℕ)) (r : Ranges) → StandsAfter done above (use_mark r) → All (AreAlike above) (pairs_of r)
  pub tried : plan.tried ≡ []
  pub recovery : plan.recovery ≡ []

-- what stood after lines stands there, where the new line says something else
after_other : (P : Type 0) (done : List (List ℕ)) (line : List ℕ) (above : List (List ℕ)) (mark : Mark) → (IsMark line mark → P) → (StandsAfter done above mark → P) → StandsAfter (done ++ line ∷ []) above mark → P
after_other P done line above mark new old s = by (after-more done line above mark s)
  where
    by : ((above ≡ done) × IsMark line mark) ⊎ StandsAfter done above mark → P
    by (inl p) = new p.1
    by (inr t) = old t

-- a line that says none of these
pub head-none : (done : List (List ℕ)) (line : List ℕ) (used : List Ranges) (plan : Sweep) (announced : List ℕ) → marks_in (line ∷ []) ≡ [] → Head done used plan → Head (done ++ line ∷ []) used (record plan { setup = plan.setup ++ line ∷ []; announced = announced })
head-none done line used plan announced none h = record {
  setup = ap (λ ls. ls ++ line ∷ []) h.setup;
  marks = none-more done line none ∙ h.marks;
  uses = h.uses;
  few = h.few;
  few_used = h.few_used;
  few_servers = h.few_servers;
  once = h.once;
  servers = λ above names s. after_other _ done line above (Lose names) (none-said line (Lose names) refl none) (h.servers above names) s;
  lengths = h.lengths;
  volumes = λ above r s. after_other _ done line above (use_mark r) (none-said line (use_mark r) refl none) (h.volumes above r) s;
  tried = h.tried;
  recovery = h.recovery;
}

-- ---- what the marks say

one_more : (done : List (List ℕ)) (line : List ℕ) (mark : Mark) → announces mark ≡ false → IsMark line mark → marks_in (done ++ line ∷ []) ≡ marks_in done ++ Some mark ∷ []
one_more done line mark e m = marks-append done (line ∷ []) ∙ ap (λ ms. marks_in done ++ ms) (own-more line mark e m)

-- a disaster more, where nothing else was said
lose_marks : (marks : List (Option Mark)) (loses : List (List Name)) (servers : List Name) (used : List Ranges) (bound : Option ℕ) → used ≡ [] → bound ≡ None → marks ≡ map Some (map Lose loses ++ map use_mark used ++ bound_marks bound)
    → marks ++ Some (Lose servers) ∷ [] ≡ map Some (map Lose (loses ++ servers ∷ []) ++ map use_mark used ++ bound_marks bound)
lose_marks marks loses servers used bound none unbound so_far =
    let old : marks ≡ map Some (map Lose loses) = so_far ∙ (λ i. map Some (map Lose loses ++ map use_mark (none i) ++ bound_marks (unbound i))) ∙ ap (map Some) (append-nil (map Lose loses ++ []) ∙ append-nil (map Lose loses)) in
    ap (λ ms. ms ++ Some (Lose servers) ∷ []) old
    ∙ sym (map-append Some (map Lose loses) (Lose servers ∷ []))
    ∙ ap (map Some) (sym (map-append Lose loses (servers ∷ [])) ∙ sym (append-nil (map Lose (loses ++ servers ∷ []) ++ []) ∙ append-nil (map Lose (loses ++ servers ∷ []))))
    ∙ sym (λ i. map Some (map Lose (loses ++ servers ∷ []) ++ map use_mark (none i) ++ bound_marks (unbound i)))

-- ranges more, where no bound was said
use_marks : (marks : List (Option Mark)) (loses : List (List Name)) (used : List Ranges) (r : Ranges) (bound : Option ℕ) → bound ≡ None → marks ≡ map Some (map Lose loses ++ map use_mark used ++ bound_marks bound)
    → marks ++ Some (use_mark r) ∷ [] ≡ map Some (map Lose loses ++ map use_mark (used ++ r ∷ []) ++ bound_marks bound)
use_marks marks loses used r bound unbound so_far =
    let front = map Lose loses in
    let old : marks ≡ map Some (front ++ map use_mark used) = so_far ∙ ap (λ b. map Some (front ++ map use_mark used ++ bound_marks b)) unbound ∙ ap (map Some) (append-nil (front ++ map use_mark used)) in
    ap (λ ms. ms ++ Some (use_mark r) ∷ []) old
    ∙ sym (map-append Some (front ++ map use_mark used) (use_mark r ∷ []))
    ∙ ap (map Some) (append_assoc front (map use_mark used) (use_mark r ∷ []) ∙ ap (λ ms. front ++ ms) (sym (map-append use_mark used (r ∷ []))) ∙ sym (append-nil (front ++ map use_mark (used ++ r ∷ []))))
    ∙ sym (ap (λ b. map Some (front ++ map use_mark (used ++ r ∷ []) ++ bound_marks b)) unbound)

bound_more : (marks : List (Option Mark)) (loses : List (List Name)) (used : List Ranges) (bound : Option ℕ) (n : ℕ) → bound ≡ None → marks ≡ map Some (map Lose loses ++ map use_mark used ++ bound_marks bound)
    → marks ++ Some (AtMost n) ∷ [] ≡ map Some (map Lose loses ++ map use_mark used ++ bound_marks (Some n))
bound_more marks loses used bound n unbound so_far =
    let front = map Lose loses ++ map use_mark used in
    let old : marks ≡ map Some front = so_far ∙ ap (λ b. map Some (front ++ bound_marks b)) unbound ∙ ap (map Some) (append-nil front) in
    ap (λ ms. ms ++ Some (AtMost n) ∷ []) old ∙ sym (map-append Some front (AtMost n ∷ []))

-- ---- a disaster more

lost : (done : List (List ℕ)) (line : List ℕ) (servers : List Name) (used : List Ranges) (plan : Sweep) → IsMark line (Lose servers) → Head done used plan → used ≡ [] → plan.bound ≡ None → length plan.loses < most_disasters → length servers ≤ most_servers
    → servers_fault (servers_in plan.setup) [] servers ≡ None → Head (done ++ line ∷ []) used (record plan { loses = plan.loses ++ servers ∷ []; setup = plan.setup ++ line ∷ [] })
lost done line servers used plan m h none unbound room small fault =
    let more : length (plan.loses ++ servers ∷ []) ≡ length plan.loses + 1 = grind (arith, common_steps) in
    let sound = names-sound (servers_in plan.setup) [] servers fault in
    let known : All (λ name. defines_server done name ≡ true) servers = subst (λ ls. All (λ name. defines_server ls name ≡ true) servers) h.setup sound.0 in
    record {
      setup = ap (λ ls. ls ++ line ∷ []) h.setup;
      marks = one_more done line (Lose servers) refl m ∙ lose_marks (marks_in done) plan.loses servers used plan.bound none unbound h.marks;
      uses = h.uses;
      few = omega (arith, more, room);
      few_used = h.few_used;
      few_servers = All-push (λ (names : List Name). length names ≤ most_servers) plan.loses servers h.few_servers small;
      once = All-push ComeOnce plan.loses servers h.once sound.1;
      servers = λ above names s. by above names known (after-more done line above (Lose names) s);
      lengths = h.lengths;
      volumes = λ above r s. after_other _ done line above (use_mark r) (λ other. other_use r other) (h.volumes above r) s;
      tried = h.tried;
      recovery = h.recovery;
    }
  where
    by : (above : List (List ℕ)) (names : List Name) → All (λ name. defines_server done name ≡ true) servers → ((above ≡ done) × IsMark line (Lose names)) ⊎ StandsAfter done above (Lose names) → All (λ name. defines_server above name ≡ true) names
    by above names known (inl p) =
        let says : Some (Lose servers) ≡ Some (Lose names) = sym m.1 ∙ p.1.1 in
        let same : servers ≡ names = cc in
        subst (λ ns. All (λ name. defines_server above name ≡ true) ns) same (subst (λ ls. All (λ name. defines_server ls name ≡ true) servers) (sym p.0) known)
    by above names known (inr s) = h.servers above names s

    other_use : {P : Type 0} (r : Ranges) → IsMark line (use_mark r) → P
    other_use r p = let says : Some (Lose servers) ≡ Some (use_mark r) = sym m.1 ∙ p.1 in absurd cc

pub head-lose : (done : List (List ℕ)) (line : List ℕ) (servers : List Name) (used : List Ranges) (plan next : Sweep) → IsMark line (Lose servers) → Head done used plan → used ≡ [] → plan.bound ≡ None → lost_too servers line plan ≡ Ok next
    → Head (done ++ line ∷ []) used next × (1 ≤ length next.loses) × (next.bound ≡ None)
head-lose done line servers used plan next m h none unbound notes =
    let made : Sweep = record plan { loses = plan.loses ++ servers ∷ []; setup = plan.setup ++ line ∷ [] } in
    let named = unless (servers_fault (servers_in plan.setup) [] servers) made in
    let a = ok-of (nat_lt (length plan.loses) most_disasters) (cond (nat_le (length servers) most_servers) named (Err ManyServers)) ManyDisasters next notes in
    let d = ok-of (nat_le (length servers) most_servers) named ManyServers next a.1 in
    let b = unless-of (servers_fault (servers_in plan.setup) [] servers) made next d.1 in
    let few = a.0 in
    let few_names = d.0 in
    let small : length servers ≤ most_servers = grind (arith, nat_tests, few_names) in
    let room : length plan.loses < most_disasters = grind (arith, nat_tests, few) in
    let more : length (plan.loses ++ servers ∷ []) ≡ length plan.loses + 1 = grind (arith, common_steps) in
    subst (λ (p : Sweep). Head (done ++ line ∷ []) used p × (1 ≤ length p.loses) × (p.bound ≡ None)) b.1 (lost done line servers used plan m h none unbound room small b.0, omega (arith, more), unbound)

-- ---- ranges more

used_more : (done : List (List ℕ)) (line : List ℕ) (r : Ranges) (used : List Ranges) (plan : Sweep) → IsMark line (use_mark r) → Head done used plan → plan.bound ≡ None → (has_use plan.uses r.name || nat_lt (length plan.uses) most_uses) ≡ true
    → span_len r.first ≡ span_len r.second → pairs_fault (volumes_in plan.setup) (pairs_of r) ≡ None
    → Head (done ++ line ∷ []) (used ++ r ∷ []) (record plan { uses = with_ranges plan.uses r; setup = plan.setup ++ line ∷ [] })
used_more done line r used plan m h unbound room equal fault =
    let sound : All (AreAlike done) (pairs_of r) = subst (λ ls. All (AreAlike ls) (pairs_of r)) h.setup (pairs-sound plan.setup (pairs_of r) fault) in
    record {
      setup = ap (λ ls. ls ++ line ∷ []) h.setup;
      marks = one_more done line (use_mark r) refl m ∙ use_marks (marks_in done) plan.loses used r plan.bound unbound h.marks;
      uses = ap (λ us. with_ranges us r) h.uses ∙ sym (uses-more used r);
      few = h.few;
      few_used = uses-few plan.uses r most_uses h.few_used room;
      few_servers = h.few_servers;
      once = h.once;
      servers = λ above names s. after_other _ done line above (Lose names) (λ other. other_lose names other) (h.servers above names) s;
      lengths = All-push (λ (r : Ranges). span_len r.first ≡ span_len r.second) used r h.lengths equal;
      volumes = λ above q s. by above q sound (after-more done line above (use_mark q) s);
      tried = h.tried;
      recovery = h.recovery;
    }
  where
    by : (above : List (List ℕ)) (q : Ranges) → All (AreAlike done) (pairs_of r) → ((above ≡ done) × IsMark line (use_mark q)) ⊎ StandsAfter done above (use_mark q) → All (AreAlike above) (pairs_of q)
    by above q sound (inl p) =
        let says : Some (use_mark r) ≡ Some (use_mark q) = sym m.1 ∙ p.1.1 in
        let first : r.first ≡ q.first = cc in
        let second : r.second ≡ q.second = cc in
        let same : pairs_of r ≡ pairs_of q = λ i. paired (first i) (second i) in
        subst (λ ps. All (AreAlike above) ps) same (subst (λ ls. All (AreAlike ls) (pairs_of r)) (sym p.0) sound)
    by above q sound (inr s) = h.volumes above q s

    other_lose : {P : Type 0} (names : List Name) → IsMark line (Lose names) → P
    other_lose names p = let says : Some (use_mark r) ≡ Some (Lose names) = sym m.1 ∙ p.1 in absurd cc

pub head-use : (done : List (List ℕ)) (line : List ℕ) (name : Option Name) (first second : Span) (used : List Ranges) (plan next : Sweep) → IsMark line (Use name first second) → Head done used plan → plan.bound ≡ None → used_too name first second line plan ≡ Ok next
    → (r : Ranges) × Head (done ++ line ∷ []) (used ++ r ∷ []) next × (next.loses ≡ plan.loses) × (next.bound ≡ None)
head-use done line name first second used_so plan next m h unbound notes =
    let r : Ranges = record { name = name; first = first; second = second } in
    let made : Sweep = record plan { uses = with_ranges plan.uses r; setup = plan.setup ++ line ∷ [] } in
    let a = ok-of (has_use plan.uses name || nat_lt (length plan.uses) most_uses) (cond (nat_eq (span_len first) (span_len second)) (used_pairs name (paired first second) line plan) (Err UnequalRanges)) ManyUses next notes in
    let b = ok-of (nat_eq (span_len first) (span_len second)) (used_pairs name (paired first second) line plan) UnequalRanges next a.1 in
    let d = unless-of (pairs_fault (volumes_in plan.setup) (pairs_of r)) made next b.1 in
    let e = b.0 in
    let equal : span_len first ≡ span_len second = grind (arith, nat_tests, e) in
    (r, subst (Head (done ++ line ∷ []) (used_so ++ r ∷ [])) d.1 (used_more done line r used_so plan m h unbound a.0 equal d.0), ap (λ (p : Sweep). p.loses) (sym d.1), ap (λ (p : Sweep). p.bound) (sym d.1) ∙ unbound)

-- ---- the bound

pub head-bound : (done : List (List ℕ)) (line : List ℕ) (n : ℕ) (used : List Ranges) (plan : Sweep) → IsMark line (AtMost n) → Head done used plan → plan.bound ≡ None → Head (done ++ line ∷ []) used (record plan { bound = Some n; setup = plan.setup ++ line ∷ [] })
head-bound done line n used plan m h unbound = record {
  setup = ap (λ ls. ls ++ line ∷ []) h.setup;
  marks = one_more done line (AtMost n) refl m ∙ bound_more (marks_in done) plan.loses used plan.bound n unbound h.marks;
  uses = h.uses;
  few = h.few;
  few_used = h.few_used;
  few_servers = h.few_servers;
  once = h.once;
  servers = λ above names s. after_other _ done line above (Lose names) (λ other. other_lose names other) (h.servers above names) s;
  lengths = h.lengths;
  volumes = λ above r s. after_other _ done line above (use_mark r) (λ other. other_use r other) (h.volumes above r) s;
  tried = h.tried;
  recovery = h.recovery;
}
  where
    other_lose : {P : Type 0} (names : List Name) → IsMark line (Lose names) → P
    other_lose names p = let says : Some (AtMost n) ≡ Some (Lose names) = sym m.1 ∙ p.1 in absurd cc

    other_use : {P : Type 0} (r : Ranges) → IsMark line (use_mark r) → P
    other_use r p = let says : Some (AtMost n) ≡ Some (use_mark r) = sym m.1 ∙ p.1 in absurd cc

-- ---- the whole set-up

pub head-setup : (done : List (List ℕ)) (used : List Ranges) (plan : Sweep) → Head done used plan → 1 ≤ length plan.loses → 1 ≤ length used → IsSetup plan
head-setup done used plan h some also = record {
  used = used;
  marks = ap marks_in h.setup ∙ h.marks;
  uses = h.uses;
  some_lost = some;
  few_lost = h.few;
  some_used = also;
  few_used = h.few_used;
  few_servers = h.few_servers;
  once = h.once;
  servers = λ above names s. h.servers above names (subst (λ ls. StandsAfter ls above (Lose names)) h.setup s);
  lengths = h.lengths;
  volumes = λ above r s. h.volumes above r (subst (λ ls. StandsAfter ls above (use_mark r)) h.setup s);
}
