-- What is lost to each use of volumes: what its second volumes held as the recovery began, and its first ones don't hold at the end.
use Rattle.std.specs.Prelude.{◌≡◌, ◌↔◌, ℕ, true, IsTrue, List, [], ◌∷◌, ◌++◌, length, take, map, filter, slice_get, Option, Some, None}
use Rattle.std.specs.List.Sorted.{IsPermutation, IsSorted}
use Rattle.std.specs.Ordering.{nat_cmp}
use Rattle.dr_ids.specs.declared.names.Member.{Member}
use Rattle.dr_laws_losses.specs.Losses.{IsUncut, LossIsKnown, PrimariesKeep, RecoversTargets, recovered_world}
use Rattle.dr_lost.specs.declared.broken.Broken.{Broken}
use Rattle.dr_lost.specs.declared.lost.Pair.{Pair}
use Rattle.dr_lost.specs.Broken.{IsFirstBroken}
use Rattle.dr_lost.specs.Lost.{lost_writes, held_writes}
use Rattle.dr_model.specs.declared.event.Event.{Event}
use Rattle.dr_model.specs.declared.grammar.Item.{Item}
use Rattle.dr_model.specs.Dependence.{DependsOn}
use Rattle.dr_model.specs.Histories.{Lists, histories}
use Rattle.dr_model.specs.Runs.{Task, run}
use Rattle.dr_plan.specs.Sweep.{Use as HostUse}
use Rattle.dr_rows.specs.Outcome.{Loss}
use Rattle.dr_sweep.specs.Acks.{among, age_of}

-- a pair of volumes, as what is lost is asked of it
abbrev pub pair_of : Item → Pair
pair_of item = record { second = item.second; first = item.first }

-- some pairs
abbrev pub pairs_of : List Item → List Pair
pairs_of pairs = map pair_of pairs

-- the volumes that are used after the recovery
abbrev pub firsts_of : List Item → List ℕ
firsts_of pairs = map (λ (item : Item). item.first) pairs

-- those in whose place they are used
abbrev pub seconds_of : List Item → List ℕ
seconds_of pairs = map (λ (item : Item). item.second) pairs

-- what the first volumes hold at the end, of what the second ones held before
abbrev pub kept_between : Lists → Lists → List Item → List ℕ
kept_between before end pairs = filter (among (held_writes before (seconds_of pairs))) (held_writes end (firsts_of pairs))

-- what became of the writes that the second volumes held: the first ones lost some and kept others
pub record AreFates (before end : Lists) (pairs : List Item) (lost kept : List ℕ) : Type 0 where
  pub lost_are : lost ≡ lost_writes before end (pairs_of pairs)
  pub kept_are : kept ≡ kept_between before end pairs

-- the lists of writes as the recovery began, after that many events
abbrev pub lists_at : ℕ → List Event → Lists
lists_at begin events = (histories (take begin events)).now

-- the second volumes held them as the recovery began, and the first ones don't at the end
abbrev pub lost_of : ℕ → List Event → List Item → List ℕ
lost_of begin events pairs = lost_writes (lists_at begin events) (histories events).now (pairs_of pairs)

-- the second volumes held them as the recovery began, and the first ones do at the end
abbrev pub kept_of : ℕ → List Event → List Item → List ℕ
kept_of begin events pairs = kept_between (lists_at begin events) (histories events).now pairs

-- a write that is kept depends on a lost one, or none does
abbrev pub IsBroken : List Event → List ℕ → List ℕ → Option Broken → Type 0
IsBroken events kept lost None = (w u : ℕ) → IsTrue (among kept w) → IsTrue (among lost u) → DependsOn events w u → ⊥
IsBroken events kept lost (Some b) = IsFirstBroken events (among kept) (among lost) b.held b.lost

-- how many of the lost writes are named
abbrev pub most_named : ℕ
most_named = 16

-- the least of some numbers, ascending
pub record AreLeast (numbers least : List ℕ) : Type 0 where
  pub ordered : List ℕ
  pub same : IsPermutation numbers ordered
  pub ascending : IsSorted nat_cmp ordered
  pub first : least ≡ take most_named ordered

-- what of lost and kept writes a loss says
pub record SaysLoss (events : List Event) (begin : ℕ) (pairs : List Item) (lost kept : List ℕ) (loss : Loss) : Type 0 where
  pub count : loss.count ≡ length lost
  pub least : AreLeast lost loss.least
  pub age : loss.age ≡ age_of lost (seconds_of pairs) (take begin events)
  pub broken : IsBroken events kept lost loss.broken

-- the loss of a use whose pairs these are, by the events of a run whose recovery began after that many of them
abbrev pub IsLoss : List Event → ℕ → List Item → Loss → Type 0
IsLoss events begin pairs loss = SaysLoss events begin pairs (lost_of begin events pairs) (kept_of begin events pairs) loss

-- the losses of uses, in order
abbrev pub AreLosses : List Event → ℕ → List HostUse → List Loss → Type 0
AreLosses events begin [] losses = losses ≡ []
AreLosses events begin (u ∷ uses) losses = (loss : Loss) × (rest : List Loss) × (losses ≡ loss ∷ rest) × IsLoss events begin u.pairs loss × AreLosses events begin uses rest

-- ---- what is known of it

-- What a row says of a use, of a run and its recovery: with group n a step of that recovers session s, whose members ms count then, and the pairs are
-- their targets. The law on such a recovery holds; a write is lost exactly if a primary held it as the recovery began, and its cut for the group hasn't it;
-- and if no step after the first host write may take writes from a primary, none is broken.
pub record SaysKnown (events : List Event) (begin : ℕ) (before recovery : List Task) (pairs : List Item) (loss : Loss) (s n : ℕ) (ms : List Member) (r : RecoversTargets before recovery s n ms (pairs_of pairs)) : Type 0 where
  pub law : LossIsKnown before recovery s n ms (pairs_of pairs) r
  pub lost : (w : ℕ) → (among (lost_of begin events pairs) w ≡ true) ↔ IsUncut ms (run before).events (recovered_world before r.first r.step).events s n w
  pub whole : PrimariesKeep (before ++ r.first ++ r.step ∷ []) ms → loss.broken ≡ None

-- of each use, in order
abbrev pub AreKnown : List Event → ℕ → List Task → List Task → List HostUse → List Loss → Type 0
AreKnown events begin before recovery uses losses =
    (i : ℕ) (used : HostUse) (loss : Loss) → slice_get uses i ≡ Some used → slice_get losses i ≡ Some loss
    → (s n : ℕ) (ms : List Member) (r : RecoversTargets before recovery s n ms (pairs_of used.pairs)) → SaysKnown events begin before recovery used.pairs loss s n ms r
