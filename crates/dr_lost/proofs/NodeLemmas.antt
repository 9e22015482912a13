-- The list of a node: it stays as nodes are added, and is its last write behind the list of a node before it.
use Rattle.std.proofs.Common.{◌≡◌, ℕ, ◌+◌, ◌<◌, ◌≤◌, refl, sym, ap, subst, ◌∙◌, List, [], ◌∷◌, ◌++◌, length, take, drop, get_or, slice_index_or, slice_get, Some, arith, length-append, length-take, drop-cons, append_assoc, suc}
use Rattle.std.specs.List.{fold}
use Rattle.std.proofs.lemmas.List.Sums.{fold-append}
use Rattle.std.proofs.lemmas.Option.{slice_get_within, get_or_from_slice_get}
use Rattle.std.proofs.Math.Seq.{get_or-append_seam}
use Rattle.std.proofs.lemmas.List.{get_or_append_left, take-append-drop}
use Rattle.dr_lost.specs.declared.nodes.Node.{Node}
use Rattle.dr_lost.specs.Nodes.{grown, lists_of, list_of}

grown-length : (nodes : List Node) (lists : List (List ℕ)) → length (fold grown lists nodes) ≡ length lists + length nodes
grown-length [] lists = omega arith
grown-length (n ∷ nodes) lists = omega (arith, grown-length nodes (grown lists n), length-append lists ((slice_index_or lists n.before [] ++ n.write ∷ []) ∷ []))

grown-read : (nodes : List Node) (lists : List (List ℕ)) (k : ℕ) → k < length lists → get_or (fold grown lists nodes) k [] ≡ get_or lists k []
grown-read [] lists k h = refl
grown-read (n ∷ nodes) lists k h =
    let more = (slice_index_or lists n.before [] ++ n.write ∷ []) ∷ [] in
    grown-read nodes (grown lists n) k (omega (arith, length-append lists more)) ∙ get_or_append_left lists more [] k h

pub lists-length : (nodes : List Node) → length (lists_of nodes) ≡ length nodes + 1
unfolding lists_of
lists-length nodes = omega (arith, grown-length nodes ([] ∷ []))

-- node 0 is the empty list
pub list-empty : (nodes : List Node) → list_of nodes 0 ≡ []
unfolding lists_of
list-empty nodes = grown-read nodes ([] ∷ []) 0 (omega arith)

-- the list of a node stays as others are added
pub list-kept : (nodes more : List Node) (k : ℕ) → k ≤ length nodes → list_of (nodes ++ more) k ≡ list_of nodes k
unfolding lists_of
list-kept nodes more k h =
    ap (λ ls. get_or ls k []) (fold-append grown ([] ∷ []) nodes more)
    ∙ grown-read more (lists_of nodes) k (omega (arith, lists-length nodes))

-- the list of a node that was added
pub list-added : (nodes : List Node) (n : Node) → list_of (nodes ++ n ∷ []) (length nodes + 1) ≡ list_of nodes n.before ++ n.write ∷ []
unfolding lists_of
list-added nodes n =
    let all = lists_of nodes in
    let last = slice_index_or all n.before [] ++ n.write ∷ [] in
    let place : length nodes + 1 ≡ length all = sym (lists-length nodes) in
    ap (λ ls. get_or ls (length nodes + 1) []) (fold-append grown ([] ∷ []) nodes (n ∷ []))
    ∙ (ap (λ k. get_or (all ++ last ∷ []) k []) place ∙ get_or-append_seam all last [] [])

step-in : (before after : List Node) (n : Node) → n.before ≤ length before → list_of (before ++ n ∷ after) (length before + 1) ≡ list_of (before ++ n ∷ after) n.before ++ n.write ∷ []
step-in before after n earlier =
    let here : length before + 1 ≤ length (before ++ n ∷ []) = omega (arith, length-append before (n ∷ [])) in
    ap (λ ns. list_of ns (length before + 1)) (sym (append_assoc before (n ∷ []) after))
    ∙ (list-kept (before ++ n ∷ []) after (length before + 1) here
    ∙ (list-added before n ∙ ap (λ l. l ++ n.write ∷ []) (sym (list-kept before (n ∷ after) n.before earlier))))

-- the list of any node but the first
pub list-step : (nodes : List Node) (k : ℕ) (n : Node) → slice_get nodes k ≡ Some n → n.before ≤ k → list_of nodes (k + 1) ≡ list_of nodes n.before ++ n.write ∷ []
list-step nodes k n found earlier =
    let within = slice_get_within nodes k n found in
    let front : length (take k nodes) ≡ k = omega (arith, length-take k nodes) in
    let here = get_or_from_slice_get nodes k n n found in
    let cut : take k nodes ++ n ∷ drop (suc k) nodes ≡ nodes = ap (λ m. take k nodes ++ m ∷ drop (suc k) nodes) (sym here) ∙ (ap (λ ms. take k nodes ++ ms) (sym (drop-cons nodes k n within)) ∙ take-append-drop k nodes) in
    let P : List Node → ℕ → Type 0 = λ ns j. list_of ns (j + 1) ≡ list_of ns n.before ++ n.write ∷ [] in
    subst (λ ns. P ns k) cut (subst (P (take k nodes ++ n ∷ drop (suc k) nodes)) front (step-in (take k nodes) (drop (suc k) nodes) n (omega arith)))
