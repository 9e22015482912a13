-- No volume has two places: what the sessions say of each place alone gives it of the list of all.
use Rattle.std.proofs.Common.{ℕ, ◌≡◌, inl, inr, refl, ap, sym, ◌∙◌, subst, Bool, false, ◌||◌, nat_eq, List, [], ◌∷◌, ◌++◌, map, take}
use Rattle.std.specs.List.{list_any, flat_map}
use Rattle.std.proofs.lemmas.Bool.{false_from_ne_true}
use Rattle.std.proofs.lemmas.List.Folds.{list_any-append}
use Rattle.dr_ids.specs.declared.names.Member.{Member}
use Rattle.dr_model.specs.Sessions.{Session}
use Rattle.dr_model.specs.Control.{Control, World}
use Rattle.dr_model.specs.Tables.{Once}
use Rattle.dr_model.specs.Groups.{In, IsAt, PlacesDiffer, Groups}
use Rattle.dr_model.specs.Carry.{carry}
use Rattle.dr_model.specs.Forming.{Part}
use Rattle.dr_model.specs.Runs.{Task, plans_of, begun, run}
use Rattle.dr_model.specs.Laws.{Sound}
use Rattle.dr_facts.proofs.Lists.{in-joined, is-met, once-later}
use Rattle.dr_laws_sound.specs.Places.{places_of, places_in, AreLone}
use Rattle.dr_laws_sound.proofs.KeepsSound.{keeps-sound}
use Rattle.dr_laws_sound.proofs.Starts as starts
use Rattle.dr_laws_sound.proofs.Steps.{sound-run}
use Rattle.dr_laws_sound.proofs.Riders.{Rider, rides-moments}

-- what is in one of several lists
record Inside {X : Type 0} (f : X → List ℕ) (xs : List X) (v : ℕ) : Type 0 where
  from : X
  listed : In from xs
  here : In v (f from)

inside : {X : Type 0} (f : X → List ℕ) (xs : List X) (v : ℕ) → In v (flat_map f xs) → Inside f xs v
inside f [] v h = absurd h
inside f (x ∷ xs) v h = elim (in-joined (f x) (flat_map f xs) v h) [
  | inl first ↦ record { from = x; listed = inl refl; here = first }
  | inr later ↦ let i = inside f xs v later in record { from = i.from; listed = inr i.listed; here = i.here }
]

unmet : (v : ℕ) (vs : List ℕ) → (In v vs → ⊥) → list_any (nat_eq v) vs ≡ false
unmet v vs none = false_from_ne_true _ (λ met. none (is-met v vs met))

once-joined : (us vs : List ℕ) → Once us → Once vs → ((v : ℕ) → In v us → In v vs → ⊥) → Once (us ++ vs)
once-joined [] vs a b apart = b
once-joined (u ∷ us) vs a b apart = (
  list_any-append (nat_eq u) us vs ∙ ap (λ (x : Bool). x || list_any (nat_eq u) vs) a.0 ∙ unmet u vs (apart u (inl refl)),
  once-joined us vs a.1 b (λ v i. apart v (inr i)),
)

-- several lists of which none has a number twice, and no two have one
once-each : {X : Type 0} (f : X → List ℕ) (name : X → ℕ) (xs : List X) → Once (map name xs) → ((x : X) → In x xs → Once (f x))
    → ((v : ℕ) (x y : X) → In x xs → In y xs → In v (f x) → In v (f y) → name y ≡ name x) → Once (flat_map f xs)
once-each f name [] once each one = tt
once-each f name (x ∷ xs) once each one =
    once-joined (f x) (flat_map f xs) (each x (inl refl)) (once-each f name xs once.1 (λ y i. each y (inr i)) (λ v y z i j. one v y z (inr i) (inr j)))
    (λ v here later. let i = inside f xs v later in once-later name x xs i.from once i.listed (one v x i.from (inl refl) (inr i.listed) here i.here))

is-place : (v : ℕ) (m : Member) → In v (places_of m) → IsAt v m
is-place v m (inl a) = inl a
is-place v m (inr (inl b)) = inr (inl b)
is-place v m (inr (inr (inl c))) = inr (inr c)
is-place v m (inr (inr (inr none))) = absurd none

places-once : (m : Member) → PlacesDiffer m → Once (places_of m)
places-once m d = (
  unmet m.a.0 (m.b.0 ∷ m.c.0 ∷ []) (λ h. elim h [ inl b ↦ d.a_b b | inr (inl c) ↦ d.a_c c | inr (inr none) ↦ none ]),
  (unmet m.b.0 (m.c.0 ∷ []) (λ h. elim h [ inl c ↦ d.b_c c | inr none ↦ none ]), (refl, tt)),
)

pub are-lone : (k : Control) → Groups k → AreLone k.sessions
are-lone k groups = once-each places_in (λ (x : Session). x.number) k.sessions groups.once members
    (λ v x y i j p q. let a = inside places_of x.members v p in let b = inside places_of y.members v q in
    sym (groups.lone.one v x y a.from b.from i j a.listed b.listed (is-place v a.from a.here) (is-place v b.from b.here)).0)
  where
    members : (x : Session) → In x k.sessions → Once (places_in x)
    members x i = once-each places_of (λ (m : Member). m.a.0) x.members (groups.each x i).once (λ m j. places-once m (groups.lone.differ x m i j))
        (λ v m q j l p o. ap (λ (m : Member). m.a.0) (sym (groups.lone.one v x x m q i i j l (is-place v m p) (is-place v q o)).1))

pub lone-run : (tasks : List Task) → AreLone (run tasks).control.sessions
lone-run tasks = are-lone (run tasks).control (sound-run tasks).groups

-- and it rides along each plan
abbrev pub LoneAt : World → Type 0
LoneAt w = AreLone w.control.sessions

pub lone-rides : Rider LoneAt
lone-rides = record {
  acts = record {
    does = λ w a f s k may. are-lone _ (keeps-sound.does w a f s may).groups;
    counts = λ w m f s k may. are-lone _ (keeps-sound.counts w m f s may).groups;
    opens = λ w v i n f s k may. are-lone _ (keeps-sound.opens w v i n f s may).groups;
    fails = λ w a f d s k may. are-lone _ (keeps-sound.fails w a f d s may).groups;
  };
  start_acts = λ x. record {
    does = λ w a f j k may. are-lone _ ((starts.keeps x).does w a f j may).sound.groups;
    counts = λ w m f j k may. are-lone _ ((starts.keeps x).counts w m f j may).groups;
    opens = λ w v i n f j k may. are-lone _ ((starts.keeps x).opens w v i n f j may).groups;
    fails = λ w a f d j k may. are-lone _ ((starts.keeps x).fails w a f d j may).groups;
  };
  unheard = λ w u more k same none. subst AreLone (sym same.sessions) k;
  issues = λ w s v t offset len bytes defined low k. k;
  regroups = λ w ss f s sound turn adds goes k. are-lone _ sound.groups;
  opens = λ w i n x r s sound found has idle next k. are-lone _ sound.groups;
  defines = λ w s v server tracks here undefined k. k;
}

pub lone-moments : (w : World) (t : Task) (x : Part) (n : ℕ) → Sound w → In x (plans_of w t) → AreLone (carry (begun x.world x.plan) (take n x.plan.entries)).0.control.sessions
lone-moments w t x n s there = rides-moments LoneAt lone-rides w t x n s (are-lone w.control s.groups) there
