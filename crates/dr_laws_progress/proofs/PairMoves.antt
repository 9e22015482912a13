-- Each kind of move, if it comes as the plans on pairs have it, leaves the volumes of each member in one of the three ways.
use Rattle.std.proofs.Common.{ℕ, ◌≡◌, ◌≢◌, inl, inr, refl, ap, sym, ◌∙◌, subst, Bool, true, false, cond, List, [], ◌∷◌, Option, ◌==◌}
use Rattle.std.proofs.lemmas.Bool.Decides.{eqb_tells}
use Rattle.dr_logic.specs.Tables.{at}
use Rattle.dr_ids.specs.declared.names.Member.{Member}
use Rattle.dr_model.specs.declared.state.Part.{Part}
use Rattle.dr_model.specs.declared.state.Part.TheVariants.{Absent, Metro, Global}
use Rattle.dr_model.specs.declared.state.PairState.{PairState}
use Rattle.dr_model.specs.Layout.{Fields, is_part}
use Rattle.dr_model.specs.Pairs.{is_kind, no_secondary, taken_over, yielded}
use Rattle.dr_model.specs.Control.{Fuse, Volume, World}
use Rattle.dr_model.specs.Sessions.{Session, changed, begun}
use Rattle.dr_model.specs.Moves.{Move, MakeSecondary, MakePrimary, DropPrimary, DropSecondary, TakeOver, LeavePrimary, Yield, Hold, target, fields_left, keeps_staged, moved_keeping}
use Rattle.dr_model.specs.Carry.{Act, Make, OpenAttempt, Redo, Acknowledge, Drop, EndFreeze, EndThaw, EndRecovery, act}
use Rattle.dr_model.specs.Groups.{In}
use Rattle.dr_facts.proofs.Tables.{IsOrNot}
use Rattle.dr_logic.proofs.Tables.{at_same, at_other}
use Rattle.dr_logic.proofs.Truth.{false_true}
use Rattle.dr_laws_closed.specs.Regroups.{WasIn}
use Rattle.dr_laws_sound.proofs.Turns.{next_of, carried_in, after_act, Counts, act-cases}
use Rattle.dr_laws_progress.specs.PairWays.{sides, CopiesWith, PairWay, AsAdded, BothLead, TurnedRound}

-- a part in Global Copy is one
pub copies-part : (p : Part) (to v : ℕ) → CopiesWith p to v → is_part p ≡ true
copies-part p to v c = ap is_part c.0

pub is-global : (p : Part) → is_kind Global p ≡ true → p ≡ Global
is-global Global h = refl
is-global Metro h = absurd cc
is-global Absent h = absurd cc

-- the way in which the primary and the secondary of a member stand
abbrev pub Way : (ℕ → Volume) → Member → Type 0
Way T q = PairWay q.a.0 q.b.0 (sides (T q.a.0).fields) (sides (T q.b.0).fields)

-- the members of these sessions, whose primaries aren't their secondaries
abbrev pub Ways : List Session → (ℕ → Volume) → Type 0
Ways ss T = (x : Session) (q : Member) → In x ss → In q x.members → (q.a.0 ≢ q.b.0) × Way T q

-- v is neither the primary nor the secondary of a member
abbrev pub IsFree : List Session → ℕ → Type 0
IsFree ss v = (x : Session) (q : Member) → In x ss → In q x.members → (q.a.0 ≢ v) × (q.b.0 ≢ v)

-- v and u, with these fields, are primaries of each other, u of that kind
pub record LeadBack (f g : Fields) (v u : ℕ) (kind : Part) : Type 0 where
  pub leads : is_part f.primary ≡ true
  pub to : f.primary_partner ≡ u
  pub back : is_part g.primary ≡ true
  pub alike : g.primary ≡ kind

-- what is asked of the kinds of moves that change a part
abbrev pub Fair : List Session → (ℕ → Volume) → Move → Type 0
Fair ss T (MakeSecondary v u kind state) = IsFree ss v
Fair ss T (MakePrimary v u kind state full) = IsFree ss v
Fair ss T (DropPrimary v) = IsFree ss v
Fair ss T (DropSecondary v) = IsFree ss v
Fair ss T (TakeOver v) = (is_part (T v).fields.secondary ≡ true) × (is_part (T v).fields.primary ≡ false)
Fair ss T (LeavePrimary v) = (is_part (T v).fields.secondary ≡ true) × (is_part (T v).fields.primary ≡ true)
Fair ss T (Yield v u kind state) = LeadBack (T v).fields (T u).fields v u kind
Fair ss T m = Unit {0}

module _ (ss : List Session) (T : ℕ → Volume) where
  -- what new fields of v owe the members of which it is the primary, and the secondary
  pub record Owes (v : ℕ) (g : Fields) : Type 0 where
    pub first : (x : Session) (q : Member) → In x ss → In q x.members → q.a.0 ≡ v → PairWay v q.b.0 (sides (T v).fields) (sides (T q.b.0).fields) → PairWay v q.b.0 (sides g) (sides (T q.b.0).fields)
    pub second : (x : Session) (q : Member) → In x ss → In q x.members → q.b.0 ≡ v → PairWay q.a.0 v (sides (T q.a.0).fields) (sides (T v).fields) → PairWay q.a.0 v (sides (T q.a.0).fields) (sides g)

  module _ (v : ℕ) (y : Volume) (owes : Owes v y.fields) where
    here : (j : ℕ) → j ≡ v → at T v y j ≡ y
    here j is = ap (at T v y) is ∙ at_same T v y

    pub changed-ways : Ways ss T → Ways ss (at T v y)
    changed-ways old x q i in_x = (o.0, by (eqb_tells q.a.0 v) (eqb_tells q.b.0 v))
      where
        o : (q.a.0 ≢ q.b.0) × Way T q
        o = old x q i in_x

        by : IsOrNot q.a.0 v → IsOrNot q.b.0 v → Way (at T v y) q
        by (inl is) (inl too) = absurd (o.0 (is.1 ∙ sym too.1))
        by (inl is) (inr apart) =
            subst (λ (z : Volume). PairWay q.a.0 q.b.0 (sides z.fields) (sides (at T v y q.b.0).fields)) (sym (here q.a.0 is.1))
            (subst (λ (z : Volume). PairWay q.a.0 q.b.0 (sides y.fields) (sides z.fields)) (sym (at_other T v y q.b.0 apart.1))
            (subst (λ j. PairWay j q.b.0 (sides y.fields) (sides (T q.b.0).fields)) (sym is.1)
            (owes.first x q i in_x is.1 (subst (λ j. PairWay j q.b.0 (sides (T j).fields) (sides (T q.b.0).fields)) is.1 o.1))))
        by (inr apart) (inl is) =
            subst (λ (z : Volume). PairWay q.a.0 q.b.0 (sides (at T v y q.a.0).fields) (sides z.fields)) (sym (here q.b.0 is.1))
            (subst (λ (z : Volume). PairWay q.a.0 q.b.0 (sides z.fields) (sides y.fields)) (sym (at_other T v y q.a.0 apart.1))
            (subst (λ j. PairWay q.a.0 j (sides (T q.a.0).fields) (sides y.fields)) (sym is.1)
            (owes.second x q i in_x is.1 (subst (λ j. PairWay q.a.0 j (sides (T q.a.0).fields) (sides (T j).fields)) is.1 o.1))))
        by (inr apart) (inr other) =
            subst (λ (z : Volume). PairWay q.a.0 q.b.0 (sides z.fields) (sides (at T v y q.b.0).fields)) (sym (at_other T v y q.a.0 apart.1))
            (subst (λ (z : Volume). PairWay q.a.0 q.b.0 (sides (T q.a.0).fields) (sides z.fields)) (sym (at_other T v y q.b.0 other.1)) o.1)

  pub free-owes : (v : ℕ) (g : Fields) → IsFree ss v → Owes v g
  free-owes v g free = record { first = λ x q i in_x is. absurd ((free x q i in_x).0 is); second = λ x q i in_x is. absurd ((free x q i in_x).1 is) }

  -- a secondary that is no primary is taken over
  taken-owes : (v : ℕ) → Fair ss T (TakeOver v) → Owes v (taken_over (T v).fields)
  taken-owes v fair = record { first = λ x q i in_x is. first q.b.0; second = λ x q i in_x is. second q.a.0 }
    where
      first : (b : ℕ) → PairWay v b (sides (T v).fields) (sides (T b).fields) → PairWay v b (sides (taken_over (T v).fields)) (sides (T b).fields)
      first b (AsAdded leads follows plain) = false_true fair.1 (copies-part _ _ b leads)
      first b (BothLead leads back none) = false_true fair.1 (copies-part _ _ b leads)
      first b (TurnedRound back follows none plain) = BothLead follows back plain

      second : (a : ℕ) → PairWay a v (sides (T a).fields) (sides (T v).fields) → PairWay a v (sides (T a).fields) (sides (taken_over (T v).fields))
      second a (AsAdded leads follows plain) = BothLead leads follows refl
      second a (BothLead leads back none) = false_true fair.1 (copies-part _ _ a back)
      second a (TurnedRound back follows none plain) = false_true fair.1 (copies-part _ _ a back)

  -- a volume with both parts leaves its primary
  left-owes : (v : ℕ) → Fair ss T (LeavePrimary v) → Owes v (no_secondary (T v).fields)
  left-owes v fair = record { first = λ x q i in_x is. first q.b.0; second = λ x q i in_x is. second q.a.0 }
    where
      first : (b : ℕ) → PairWay v b (sides (T v).fields) (sides (T b).fields) → PairWay v b (sides (no_secondary (T v).fields)) (sides (T b).fields)
      first b (AsAdded leads follows plain) = AsAdded leads follows plain
      first b (BothLead leads back none) = BothLead leads back none
      first b (TurnedRound back follows none plain) = false_true none fair.1

      second : (a : ℕ) → PairWay a v (sides (T a).fields) (sides (T v).fields) → PairWay a v (sides (T a).fields) (sides (no_secondary (T v).fields))
      second a (AsAdded leads follows plain) = false_true plain fair.1
      second a (BothLead leads back none) = false_true none fair.0
      second a (TurnedRound back follows none plain) = false_true plain fair.0

  -- a primary becomes the secondary of its secondary, which is its primary
  yielded-owes : (v u : ℕ) (kind : Part) (state : PairState) → Fair ss T (Yield v u kind state) → Owes v (yielded u kind state (T v).fields)
  yielded-owes v u kind state fair = record { first = λ x q i in_x is. first q.b.0; second = λ x q i in_x is. second q.a.0 }
    where
      -- the kind is that of the partner
      kind-of : (b : ℕ) → u ≡ b → (T b).fields.primary ≡ Global → kind ≡ Global
      kind-of b is global = sym fair.alike ∙ ap (λ j. (T j).fields.primary) is ∙ global

      first : (b : ℕ) → PairWay v b (sides (T v).fields) (sides (T b).fields) → PairWay v b (sides (yielded u kind state (T v).fields)) (sides (T b).fields)
      first b (AsAdded leads follows plain) = false_true plain (subst (λ j. is_part (T j).fields.primary ≡ true) (sym fair.to ∙ leads.1) fair.back)
      first b (BothLead leads back none) = TurnedRound back (kind-of b (sym fair.to ∙ leads.1) back.0, sym fair.to ∙ leads.1) refl none
      first b (TurnedRound back follows none plain) = false_true none fair.leads

      second : (a : ℕ) → PairWay a v (sides (T a).fields) (sides (T v).fields) → PairWay a v (sides (T a).fields) (sides (yielded u kind state (T v).fields))
      second a (AsAdded leads follows plain) = false_true plain fair.leads
      second a (BothLead leads back none) = AsAdded leads (kind-of a (sym fair.to ∙ back.1) leads.0, sym fair.to ∙ back.1) refl
      second a (TurnedRound back follows none plain) = false_true none (subst (λ j. is_part (T j).fields.primary ≡ true) (sym fair.to ∙ back.1) fair.back)

  owes : (m : Move) → Fair ss T m → Owes (target m) (fields_left m (T (target m)))
  owes (MakeSecondary v u kind state) fair = free-owes v _ fair
  owes (MakePrimary v u kind state full) fair = free-owes v _ fair
  owes (DropPrimary v) fair = free-owes v _ fair
  owes (DropSecondary v) fair = free-owes v _ fair
  owes (TakeOver v) fair = taken-owes v fair
  owes (LeavePrimary v) fair = left-owes v fair
  owes (Yield v u kind state) fair = yielded-owes v u kind state fair
  owes m fair = record { first = λ x q i in_x is way. way; second = λ x q i in_x is way. way }

-- ---- acts

-- each member of the second table is one of the first
abbrev pub AllAmong : List Session → List Session → Type 0
AllAmong ss us = (y : Session) (q : Member) → In y us → In q y.members → WasIn ss q

-- the sessions that there were as a plan's entries began have the members that there are, and all of those stand in a way
pub record Stand (ss : List Session) (w : World) : Type 0 where
  pub among : AllAmong ss w.control.sessions
  pub ways : Ways ss w.control.volume

-- what holds of each member, if one session changes
pub members-changed : (P : Member → Type 0) (s : ℕ) (g : Session → Session) (us : List Session) → ((x : Session) (q : Member) → In x us → In q x.members → P q) → ((x : Session) (q : Member) → In x us → In q (g x).members → P q)
    → (y : Session) (q : Member) → In y (changed s g us) → In q y.members → P q
unfolding changed
members-changed P s g [] old new y q i in_y = absurd i
members-changed P s g (x ∷ xs) old new y q i in_y = by (x.number == s) (λ j. members-changed P s g xs (λ z r k. old z r (inr k)) (λ z r k. new z r (inr k)) y q j in_y) i
  where
    by : (b : Bool) → (In y (changed s g xs) → P q) → In y (cond b (g x ∷ xs) (x ∷ changed s g xs)) → P q
    by true again (inl is) = new x q (inl refl) (subst (λ (z : Session). In q z.members) is in_y)
    by true again (inr j) = old y q (inr j) in_y
    by false again (inl is) = old x q (inl refl) (subst (λ (z : Session). In q z.members) is in_y)
    by false again (inr j) = again j

-- one session changes, and has no other members
pub among-changed : (ss : List Session) (s : ℕ) (g : Session → Session) → ((x : Session) (q : Member) → In q (g x).members → In q x.members) → (us : List Session) → AllAmong ss us → AllAmong ss (changed s g us)
among-changed ss s g members us old = members-changed (λ q. WasIn ss q) s g us old (λ x q i h. old x q i (members x q h))

-- what is asked of an act
abbrev pub FairAct : List Session → World → Act → Type 0
FairAct ss w (Make m) = Fair ss w.control.volume m
FairAct ss w a = Unit {0}

module _ (ss : List Session) (w : World) (old : Stand ss w) where
  moved-ways : (m : Move) → Fair ss w.control.volume m → Ways ss (at w.control.volume (target m) (moved_keeping (keeps_staged m) (w.control.volume (target m)) (next_of w m) (carried_in w m)))
  moved-ways m fair = changed-ways ss w.control.volume (target m) (moved_keeping (keeps_staged m) (w.control.volume (target m)) (next_of w m) (carried_in w m)) (owes ss w.control.volume m fair) old.ways

  begins-among : (s : ℕ) → AllAmong ss (changed s begun w.control.sessions)
  begins-among s = among-changed ss s begun (λ x q h. h) w.control.sessions old.among

  after-stands : (a : Act) (f : Option Fuse) → FairAct ss w a → Stand ss (after_act w a f)
  after-stands (Make m) f fair = record { among = old.among; ways = moved-ways m fair }
  after-stands (OpenAttempt v s n) f fair = record { among = begins-among s; ways = moved-ways (Hold v s n true) tt }
  after-stands (Redo v) f fair = record { among = old.among; ways = old.ways }
  after-stands (Acknowledge n) f fair = record { among = old.among; ways = old.ways }
  after-stands (Drop n) f fair = record { among = old.among; ways = old.ways }
  after-stands (EndFreeze l m) f fair = record { among = old.among; ways = old.ways }
  after-stands (EndThaw l m) f fair = record { among = old.among; ways = old.ways }
  after-stands (EndRecovery s n) f fair = record { among = old.among; ways = old.ways }

  counts-stand : (a : Act) → FairAct ss w a → Counts w a (λ t. Stand ss t.0)
  counts-stand (Make m) fair = λ f. record { among = old.among; ways = moved-ways m fair }
  counts-stand (OpenAttempt v s n) fair = λ f. record { among = begins-among s; ways = moved-ways (Hold v s n true) tt }
  counts-stand (Redo v) fair = tt
  counts-stand (Acknowledge n) fair = tt
  counts-stand (Drop n) fair = tt
  counts-stand (EndFreeze l m) fair = tt
  counts-stand (EndThaw l m) fair = tt
  counts-stand (EndRecovery s n) fair = tt

  pub act-stands : (a : Act) → FairAct ss w a → Stand ss (act w a).0
  act-stands a fair = act-cases w a (λ t. Stand ss t.0) (λ writes off. old) (λ f. after-stands a f fair) (counts-stand a fair) (λ writes f. record { among = old.among; ways = old.ways })
