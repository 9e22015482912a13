-- What a line of the way home leaves of servers, links, paths and relationships, and that the way home stays open by that.
use Rattle.std.proofs.Common.{ℕ, ◌≡◌, ◌⊎◌, inl, inr, refl, ap, sym, ◌∙◌, Bool, true, false, cond, not, ◌&&◌, ◌||◌, nat_eq, List, [], ◌∷◌, map, filter, Option, Some, None, option_map}
use Rattle.std.proofs.lemmas.Bool.{and_right}
use Rattle.std.specs.List.{find, list_any}
use Rattle.std.specs.Option.{option_or}
use Rattle.dr_ids.specs.declared.names.Member.{Member}
use Rattle.dr_ids.specs.declared.refusal.Decision.{Decision}
use Rattle.dr_ids.specs.declared.refusal.Refusal.{Refusal}
use Rattle.dr_ids.specs.declared.refusal.Kind.TheVariants.{Path as OfPath}
use Rattle.dr_model.specs.Refusals.{server_off, unknown}
use Rattle.dr_model.specs.Layout.{Fields, no_fields}
use Rattle.dr_model.specs.Decisions.{Shown, decision}
use Rattle.dr_model.specs.Control.{Control, World}
use Rattle.dr_model.specs.Entries.{fields_at, is_running, copies_from, stands_in, is_revertible, is_reversing, is_settled}
use Rattle.dr_model.specs.Sessions.{Session, session_in, members_in}
use Rattle.dr_model.specs.SessionEntries.{counts_in, shown_of, counts_at, shown_at, shown_by_members}
use Rattle.dr_model.specs.RecoveryPlans.{decided_in, secondary_refusal, leaves_all, forbidden_unless}
use Rattle.dr_model.specs.PairEntries.{has_path, link_down, reach_refusal}
use Rattle.dr_model.specs.Plans.{member_from, restore_refusal, restores_refusal, yield_refusal}
use Rattle.dr_laws_progress.specs.Home.{HomeIsOpen}

-- of a record, its relationship as a target, but for its tracks
abbrev pub relation : Fields → Fields
relation f = record no_fields { related = f.related; source = f.source; persistent = f.persistent; sequence = f.sequence; revertible = f.revertible; reversing = f.reversing; member = f.member; session = f.session }

-- a target that is neither a member's nor revertible nor reversing
pub record IsPlain (f : Fields) : Type 0 where
  pub no_member : f.member ≡ false
  pub settled : f.revertible ≡ false
  pub forward : f.reversing ≡ false

-- the relationship is as it was, or it is plain, and was
abbrev pub Kin : Fields → Fields → Type 0
Kin f g = (relation g ≡ relation f) ⊎ (IsPlain f × IsPlain g)

-- a world is like another one, but for tracks, pairs, pending writes and fuses
pub record Near (w u : World) : Type 0 where
  pub server : (v : ℕ) → (u.control.volume v).server ≡ (w.control.volume v).server
  pub link : u.control.link ≡ w.control.link
  pub paths : u.control.paths ≡ w.control.paths
  pub volumes : u.control.volumes ≡ w.control.volumes
  pub sessions : u.control.sessions ≡ w.control.sessions
  pub kin : (v : ℕ) → Kin (fields_at w.control v) (fields_at u.control v)

-- ---- lists

any-filter : (p q : ℕ → Bool) (xs : List ℕ) → list_any q (filter p xs) ≡ list_any (λ x. p x && q x) xs
any-filter p q [] = refl
any-filter p q (x ∷ xs) = by (p x) (any-filter p q xs)
  where
    by : (b : Bool) → list_any q (filter p xs) ≡ list_any (λ x. p x && q x) xs → list_any q (cond b (x ∷ filter p xs) (filter p xs)) ≡ ((b && q x) || list_any (λ x. p x && q x) xs)
    by true rest = ap (λ b. q x || b) rest
    by false rest = rest

any-same : (p q : ℕ → Bool) (xs : List ℕ) → ((x : ℕ) → p x ≡ q x) → list_any p xs ≡ list_any q xs
any-same p q [] same = refl
any-same p q (x ∷ xs) same = (λ i. same x i || list_any p xs) ∙ ap (λ b. q x || b) (any-same p q xs same)

find-filter : (p q : ℕ → Bool) (xs : List ℕ) → find q (filter p xs) ≡ find (λ x. p x && q x) xs
find-filter p q [] = refl
find-filter p q (x ∷ xs) = by (p x) (find-filter p q xs)
  where
    by : (b : Bool) → find q (filter p xs) ≡ find (λ x. p x && q x) xs → find q (cond b (x ∷ filter p xs) (filter p xs)) ≡ cond (b && q x) (Some x) (find (λ x. p x && q x) xs)
    by true rest = ap (λ o. cond (q x) (Some x) o) rest
    by false rest = rest

find-same : (p q : ℕ → Bool) (xs : List ℕ) → ((x : ℕ) → p x ≡ q x) → find p xs ≡ find q xs
find-same p q [] same = refl
find-same p q (x ∷ xs) same = (λ i. cond (same x i) (Some x) (find p xs)) ∙ ap (λ o. cond (q x) (Some x) o) (find-same p q xs same)

module _ (w u : World) (near : Near w u) (on : u.control.on ≡ w.control.on) where
  abbrev k : Control
  k = w.control

  abbrev j : Control
  j = u.control

  -- what a test says of the targets of v, that no plain relationship passes
  test-same : (so : Fields → Bool) → ((f : Fields) → so (relation f) ≡ so f) → ((f : Fields) → IsPlain f → so f ≡ false) → (v t : ℕ) → (copies_from v (fields_at j t) && so (fields_at j t)) ≡ (copies_from v (fields_at k t) && so (fields_at k t))
  test-same so rel plain v t = by (near.kin t)
    where
      by : Kin (fields_at k t) (fields_at j t) → (copies_from v (fields_at j t) && so (fields_at j t)) ≡ (copies_from v (fields_at k t) && so (fields_at k t))
      by (inl same) = (λ i. copies_from v (same i) && sym (rel (fields_at j t)) i) ∙ (λ i. copies_from v (relation (fields_at k t)) && so (same i)) ∙ (λ i. copies_from v (fields_at k t) && rel (fields_at k t) i)
      by (inr p) = and_right (copies_from v (fields_at j t)) _ (plain _ p.1) ∙ sym (and_right (copies_from v (fields_at k t)) _ (plain _ p.0))

  stands-same : (so : Fields → Bool) → ((f : Fields) → so (relation f) ≡ so f) → ((f : Fields) → IsPlain f → so f ≡ false) → (v : ℕ) → stands_in so j v ≡ stands_in so k v
  stands-same so rel plain v =
      (λ i. own i || list_any (λ t. so (fields_at j t)) (filter (λ t. copies_from v (fields_at j t)) (near.volumes i)))
      ∙ ap (λ b. (((fields_at k v).related && so (fields_at k v)) || b))
      (any-filter (λ t. copies_from v (fields_at j t)) (λ t. so (fields_at j t)) k.volumes
      ∙ (any-same _ _ k.volumes (test-same so rel plain v) ∙ sym (any-filter (λ t. copies_from v (fields_at k t)) (λ t. so (fields_at k t)) k.volumes)))
    where
      own : ((fields_at j v).related && so (fields_at j v)) ≡ ((fields_at k v).related && so (fields_at k v))
      own = by (near.kin v)
        where
          by : Kin (fields_at k v) (fields_at j v) → ((fields_at j v).related && so (fields_at j v)) ≡ ((fields_at k v).related && so (fields_at k v))
          by (inl same) = (λ i. (same i).related && sym (rel (fields_at j v)) i) ∙ (λ i. (fields_at k v).related && so (same i)) ∙ (λ i. (fields_at k v).related && rel (fields_at k v) i)
          by (inr p) = and_right (fields_at j v).related _ (plain _ p.1) ∙ sym (and_right (fields_at k v).related _ (plain _ p.0))

  settled-same : (v : ℕ) → is_settled v j ≡ is_settled v k
  settled-same v = λ i. not (stands-same is_revertible (λ f. refl) (λ f p. p.settled) v i) && not (stands-same is_reversing (λ f. refl) (λ f p. p.forward) v i)

  running-same : (v : ℕ) → is_running v j ≡ is_running v k
  running-same v = λ i. on i (near.server v i)

  abbrev reach_by : ℕ → ℕ → Control → ℕ → ℕ → Bool → Bool → Option Refusal
  reach_by x y c s t runs linked = cond (not (has_path x y c)) (Some (unknown OfPath)) (cond (not runs) (Some (server_off t)) (cond (not linked) (Some (link_down s t)) None))

  reach-same : (x y : ℕ) → reach_refusal x y j ≡ reach_refusal x y k
  reach-same x y = λ i. reach_by x y (record k { paths = near.paths i }) (near.server x i) (near.server y i) (running-same y i) (near.link i (near.server x i) (near.server y i))

  -- ---- what is decided

  -- what a member's target shows, before what the others do
  abbrev with_shown : ℕ → Fields → List Shown → List Shown
  with_shown s f rest = cond (counts_in s f) (shown_of f ∷ rest) rest

  first-shown : (s : ℕ) (m : Member) (ms : List Member) (c : Control) → shown_by_members s (m ∷ ms) c ≡ with_shown s (fields_at c m.c.0) (shown_by_members s ms c)
  first-shown s m ms c = by (counts_in s (fields_at c m.c.0))
    where
      by : (b : Bool) → map (shown_at c) (cond b (m ∷ filter (counts_at s c) ms) (filter (counts_at s c) ms)) ≡ cond b (shown_of (fields_at c m.c.0) ∷ map (shown_at c) (filter (counts_at s c) ms)) (map (shown_at c) (filter (counts_at s c) ms))
      by true = refl
      by false = refl

  plain-shown : (s : ℕ) (f : Fields) (rest : List Shown) → IsPlain f → with_shown s f rest ≡ rest
  plain-shown s f rest p =
      ap (λ b. cond b (shown_of f ∷ rest) rest) ((λ i. nat_eq f.session s && (p.no_member i || p.settled i)) ∙ and_right (nat_eq f.session s) false refl)

  shown-same : (s : ℕ) (ms : List Member) → shown_by_members s ms j ≡ shown_by_members s ms k
  shown-same s [] = refl
  shown-same s (m ∷ ms) = first-shown s m ms j ∙ (by (near.kin m.c.0) ∙ (ap (with_shown s (fields_at k m.c.0)) (shown-same s ms) ∙ sym (first-shown s m ms k)))
    where
      by : Kin (fields_at k m.c.0) (fields_at j m.c.0) → with_shown s (fields_at j m.c.0) (shown_by_members s ms j) ≡ with_shown s (fields_at k m.c.0) (shown_by_members s ms j)
      by (inl same) = λ i. with_shown s (same i) (shown_by_members s ms j)
      by (inr p) = plain-shown s (fields_at j m.c.0) (shown_by_members s ms j) p.1 ∙ sym (plain-shown s (fields_at k m.c.0) (shown_by_members s ms j) p.0)

  decided-same : (s : ℕ) → decided_in s j ≡ decided_in s k
  decided-same s =
      ap (λ ss. decision (shown_by_members s (members_in (session_in ss s)) j)) near.sessions
      ∙ ap decision (shown-same s (members_in (session_in k.sessions s)))

  secondaries-same : (ms : List Member) → secondary_refusal ms j ≡ secondary_refusal ms k
  secondaries-same [] = refl
  secondaries-same (m ∷ ms) =
      (λ i. option_map (λ (q : Member). server_off (j.volume q.b.0).server) (cond (not (running-same m.b.0 i)) (Some m) (find (λ (q : Member). not (is_running q.b.0 j)) ms)))
      ∙ by (is_running m.b.0 k) (secondaries-same ms)
    where
      by : (b : Bool) → secondary_refusal ms j ≡ secondary_refusal ms k
          → option_map (λ (q : Member). server_off (j.volume q.b.0).server) (cond (not b) (Some m) (find (λ (q : Member). not (is_running q.b.0 j)) ms)) ≡ option_map (λ (q : Member). server_off (k.volume q.b.0).server) (cond (not b) (Some m) (find (λ (q : Member). not (is_running q.b.0 k)) ms))
      by true rest = rest
      by false rest = ap (λ s. Some (server_off s)) (near.server m.b.0)

  -- ---- what the session of a target says of its restore

  abbrev refusal_with : Bool → ℕ → List Session → (List Member → Option Refusal) → (ℕ → Decision) → Option Refusal
  refusal_with member s ss off decides = cond member (option_or (off (members_in (session_in ss s))) (forbidden_unless (leaves_all (decides s)) (decides s))) None

  restore-same : (t : ℕ) → restore_refusal t j ≡ restore_refusal t k
  restore-same t =
      (λ i. refusal_with (fields_at j t).member (fields_at j t).session (near.sessions i) (λ ms. secondaries-same ms i) (λ s. decided-same s i)) ∙ by (near.kin t)
    where
      by : Kin (fields_at k t) (fields_at j t)
          → refusal_with (fields_at j t).member (fields_at j t).session k.sessions (λ ms. secondary_refusal ms k) (λ s. decided_in s k) ≡ refusal_with (fields_at k t).member (fields_at k t).session k.sessions (λ ms. secondary_refusal ms k) (λ s. decided_in s k)
      by (inl same) = λ i. refusal_with (same i).member (same i).session k.sessions (λ ms. secondary_refusal ms k) (λ s. decided_in s k)
      by (inr p) = (λ i. refusal_with (p.1.no_member i) (fields_at j t).session k.sessions (λ ms. secondary_refusal ms k) (λ s. decided_in s k))
          ∙ sym (λ i. refusal_with (p.0.no_member i) (fields_at k t).session k.sessions (λ ms. secondary_refusal ms k) (λ s. decided_in s k))

  member-same : (v : ℕ) → member_from v j ≡ member_from v k
  member-same v =
      (λ i. find (λ t. (fields_at j t).member) (filter (λ t. copies_from v (fields_at j t)) (near.volumes i)))
      ∙ (find-filter (λ t. copies_from v (fields_at j t)) (λ t. (fields_at j t).member) k.volumes
      ∙ (find-same _ _ k.volumes (test-same (λ f. f.member) (λ f. refl) (λ f p. p.no_member) v) ∙ sym (find-filter (λ t. copies_from v (fields_at k t)) (λ t. (fields_at k t).member) k.volumes)))

  yields-same : (v : ℕ) → yield_refusal v j ≡ yield_refusal v k
  yields-same v = ap (λ o. restores_refusal o j) (member-same v) ∙ by (member_from v k)
    where
      by : (o : Option ℕ) → restores_refusal o j ≡ restores_refusal o k
      by None = refl
      by (Some t) = restore-same t

  pub open-stays : (a b : ℕ) → HomeIsOpen k a b → HomeIsOpen j a b
  open-stays a b old = record {
    a_on = running-same a ∙ old.a_on;
    b_on = running-same b ∙ old.b_on;
    there = reach-same a b ∙ old.there;
    back = reach-same b a ∙ old.back;
    a_settled = settled-same a ∙ old.a_settled;
    b_settled = settled-same b ∙ old.b_settled;
    a_yields = yields-same a ∙ old.a_yields;
    b_yields = yields-same b ∙ old.b_yields;
  }
