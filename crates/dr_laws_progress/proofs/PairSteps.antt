-- The plans by which pairs are made, ended and turned come to each act as it may, where the members stand in a way.
use Rattle.std.proofs.Common.{ℕ, ◌≡◌, ◌≢◌, refl, ap, sym, ◌∙◌, subst, Bool, true, false, cond, not, ◌||◌, List, [], ◌∷◌, ◌++◌, Option, None, nat_eq}
use Rattle.std.proofs.lemmas.Bool.{and_parts, eqb-true, eqb-false, not-true}
use Rattle.std.specs.Prelude.{◌==◌}
use Rattle.std.specs.List.{find}
use Rattle.dr_ids.specs.declared.names.Member.{Member}
use Rattle.dr_model.specs.declared.state.Part.{Part}
use Rattle.dr_model.specs.declared.state.Part.TheVariants.{Global}
use Rattle.dr_model.specs.declared.step.Devs.{Devs}
use Rattle.dr_model.specs.declared.step.PairChoices.{PairChoices}
use Rattle.dr_model.specs.Contents.{image_at}
use Rattle.dr_model.specs.Layout.{is_part}
use Rattle.dr_model.specs.Pairs.{is_cascaded, is_metro, first_state, state_with}
use Rattle.dr_model.specs.Control.{Control, Volume, World}
use Rattle.dr_model.specs.Sessions.{Session, is_member}
use Rattle.dr_model.specs.Moves.{Move, MakeSecondary, MakePrimary, DropPrimary, DropSecondary, TakeOver, LeavePrimary, FallBack, Yield, target}
use Rattle.dr_model.specs.Carry.{Make, Entry, act, now}
use Rattle.dr_model.specs.Entries.{fields_at, is_running, share_size, is_no_target, is_settled, is_no_secondary}
use Rattle.dr_model.specs.Groups.{In}
use Rattle.dr_model.specs.PairEntries.{may_lead, may_follow, leads_to, belongs_to, may_take_over, leads_as, reach_refusal, two_servers, differs_at, first_differing, make_entries, remove_both, are_linked, let_go, fall_back_on, yield_on, unsent_by, refuse_if}
use Rattle.dr_model.specs.Plans.{found_volumes, is_defined, is_owner, member_refusal, cascades, cascade_refusal, make_pair_plan, remove_pair_plan, failover_plan, failback_plan, yield_refusal}
use Rattle.dr_facts.proofs.Lists.{not-found, any-none}
use Rattle.dr_facts.proofs.Refusals.{none-both}
use Rattle.dr_facts.proofs.Sessions.{in-none}
use Rattle.dr_facts.proofs.Tables.{at_part}
use Rattle.dr_logic.proofs.Truth.{false_true}
use Rattle.dr_laws_sound.proofs.FitsCollide.{uncascaded-second}
use Rattle.dr_laws_sound.proofs.FitsFlash.{as_begun}
use Rattle.dr_laws_sound.proofs.Turns.{next_of, act-cases}
use Rattle.dr_laws_progress.specs.PairWays.{Sides, sides, CopiesWith, PairWay, AsAdded, BothLead, TurnedRound}
use Rattle.dr_laws_progress.proofs.PairMoves.{copies-part, Way, IsFree, LeadBack, Stand}
use Rattle.dr_laws_progress.proofs.PairPlans.{WaysIn, ways-stand, Goes, goes-none, goes-check, goes-refuse, goes-does, goes-may}

-- ---- what checks say that passed

global-metro : (p : Part) → p ≡ Global → is_metro p ≡ true → ⊥
global-metro p is metro = let h : is_metro Global ≡ true = sym (ap is_metro is) ∙ metro in absurd cc

-- a volume that may become a primary is none, and no secondary of Global Copy
may-lead : (cascade : Bool) (a b : ℕ) (k : Control) → may_lead cascade a b k ≡ true → (is_part (fields_at k a).primary ≡ false) × ((fields_at k a).secondary ≡ Global → ⊥)
may-lead false a b k may =
    let h = and_parts (not (is_part (fields_at k a).primary)) _ may in
    (not-true _ h.0, λ is. false_true (not-true _ h.1) (ap is_part is))
may-lead true a b k may =
    let h = and_parts (not (is_part (fields_at k a).primary)) _ may in
    (not-true _ h.0, λ is. global-metro _ is (and_parts (is_metro (fields_at k a).secondary) _ h.1).0)

-- one that may become the secondary of a is no primary, and the secondary of no other
may-follow : (a b : ℕ) (k : Control) → may_follow a b k ≡ true → (is_part (fields_at k b).primary ≡ false) × (is_part (fields_at k b).secondary ≡ true → (fields_at k b).secondary_partner ≡ a)
may-follow a b k may =
    let h = and_parts (not (is_part (fields_at k b).primary)) _ may in
    (not-true _ h.0, λ is. by (is_part (fields_at k b).secondary) is h.1)
  where
    by : (p : Bool) → p ≡ true → (not p || nat_eq (fields_at k b).secondary_partner a) ≡ true → (fields_at k b).secondary_partner ≡ a
    by true is h = eqb-true (fields_at k b).secondary_partner a h
    by false is h = absurd cc

module _ (ss : List Session) (T : ℕ → Volume) (q : Member) where
  as-first : (v : ℕ) → q.a.0 ≡ v → Way T q → PairWay v q.b.0 (sides (T v).fields) (sides (T q.b.0).fields)
  as-first v is way = subst (λ j. PairWay j q.b.0 (sides (T j).fields) (sides (T q.b.0).fields)) is way

  as-second : (v : ℕ) → q.b.0 ≡ v → Way T q → PairWay q.a.0 v (sides (T q.a.0).fields) (sides (T v).fields)
  as-second v is way = subst (λ j. PairWay q.a.0 j (sides (T q.a.0).fields) (sides (T j).fields)) is way

module _ (w : World) (ways : WaysIn w) where
  abbrev ss : List Session
  ss = w.control.sessions

  abbrev T : ℕ → Volume
  T = w.control.volume

  abbrev k : Control
  k = w.control

  abbrev first : World
  first = as_begun w

  pub begins-stand : Stand ss first
  begins-stand = ways-stand first ways

  found-goes : (devs : Devs) (a b : ℕ) (ds : List Entry) → Goes ss first ds → Goes ss first (found_volumes devs a b ++ ds)
  found-goes devs a b ds rest =
      goes-check ss first (is_defined a) _ _ (λ h. goes-check ss first (is_defined b) _ _ (λ h. goes-check ss first (is_owner devs.dev a) _ _ (λ h. goes-check ss first (is_owner devs.remotedev b) _ _ (λ h. rest))))

  -- ---- a pair is made

  module _ (a b : ℕ) (cascade : Bool) (lead : may_lead cascade a b k ≡ true) (follow : may_follow a b k ≡ true) where
    plain : is_part (T a).fields.primary ≡ false
    plain = (may-lead cascade a b k lead).0

    leads-free : IsFree ss a
    leads-free x q i in_x = (λ is. first_by (as-first ss T q a is way), λ is. second_by (as-second ss T q a is way))
      where
        way : Way T q
        way = (ways x q i in_x).1

        first_by : PairWay a q.b.0 (sides (T a).fields) (sides (T q.b.0).fields) → ⊥
        first_by (AsAdded leads follows none) = false_true plain (copies-part _ _ _ leads)
        first_by (BothLead leads back none) = false_true plain (copies-part _ _ _ leads)
        first_by (TurnedRound back follows none other) = (may-lead cascade a b k lead).1 follows.0

        second_by : PairWay q.a.0 a (sides (T q.a.0).fields) (sides (T a).fields) → ⊥
        second_by (AsAdded leads follows none) = (may-lead cascade a b k lead).1 follows.0
        second_by (BothLead leads back none) = false_true plain (copies-part _ _ _ back)
        second_by (TurnedRound back follows none other) = false_true plain (copies-part _ _ _ back)

    -- the volume of which b is the secondary would be a
    none-of : (u : ℕ) → CopiesWith (T b).fields.secondary (T b).fields.secondary_partner u → is_part (T u).fields.primary ≡ true → ⊥
    none-of u follows leads =
        let is : u ≡ a = sym follows.1 ∙ (may-follow a b k follow).1 (copies-part _ _ _ follows) in
        false_true plain (subst (λ j. is_part (T j).fields.primary ≡ true) is leads)

    follows-free : IsFree ss b
    follows-free x q i in_x = (λ is. first_by (as-first ss T q b is way), λ is. second_by (as-second ss T q b is way))
      where
        way : Way T q
        way = (ways x q i in_x).1

        no_primary : is_part (T b).fields.primary ≡ false
        no_primary = (may-follow a b k follow).0

        first_by : PairWay b q.b.0 (sides (T b).fields) (sides (T q.b.0).fields) → ⊥
        first_by (AsAdded leads follows none) = false_true no_primary (copies-part _ _ _ leads)
        first_by (BothLead leads back none) = false_true no_primary (copies-part _ _ _ leads)
        first_by (TurnedRound back follows none other) = none-of q.b.0 follows (copies-part _ _ _ back)

        second_by : PairWay q.a.0 b (sides (T q.a.0).fields) (sides (T b).fields) → ⊥
        second_by (AsAdded leads follows none) = none-of q.a.0 follows (copies-part _ _ _ leads)
        second_by (BothLead leads back none) = false_true no_primary (copies-part _ _ _ back)
        second_by (TurnedRound back follows none other) = false_true no_primary (copies-part _ _ _ back)

  pub make-goes : (devs : Devs) (a b : ℕ) (kind : Part) (choices : PairChoices) → Goes ss first (make_pair_plan k w.events devs a b kind choices).entries
  make-goes devs a b kind choices = found-goes devs a b _ (by (cascades kind choices) (cond choices.full None (first_differing (image_at w.events) (k.volume a).tracks a b)))
    where
      makes : (cascade : Bool) (difference : Option ℕ) → Goes ss first (make_entries k a b kind cascade choices.full difference)
      makes cascade difference =
          goes-check ss first (is_running a) _ _ (λ h. goes-refuse ss first (reach_refusal a b) _ (λ h. goes-check ss first (two_servers a b) _ _ (λ h. goes-check ss first (share_size a b) _ _ (λ h.
          goes-check ss first (may_lead cascade a b) _ _ (λ lead. goes-check ss first (may_follow a b) _ _ (λ follow. goes-check ss first (is_no_target a) _ _ (λ h. goes-check ss first (is_no_target b) _ _ (λ h.
          goes-check ss first (is_settled b) _ _ (λ h. goes-refuse ss first (differs_at difference) _ (λ h.
          goes-does ss first _ (Make (MakeSecondary b a kind (first_state kind choices.full))) _ refl (follows-free a b cascade lead follow) (λ u s e.
          goes-does ss u _ (Make (MakePrimary a b kind (first_state kind choices.full) choices.full)) [] refl (leads-free a b cascade lead follow) (λ v z f. goes-none ss v))))))))))))

      by : (cascade : Bool) (difference : Option ℕ) → Goes ss first (cond cascade (refuse_if (cascade_refusal a) ∷ []) [] ++ make_entries k a b kind cascade choices.full difference)
      by true difference = goes-refuse ss first (cascade_refusal a) _ (λ h. makes true difference)
      by false difference = makes false difference

  -- ---- a pair is ended

  not-member : (a : ℕ) → find (is_member a) ss ≡ None → (x : Session) (q : Member) → In x ss → In q x.members → q.a.0 ≢ a
  not-member a none x q i in_x = eqb-false q.a.0 a (any-none (λ (m : Member). m.a.0 == a) x.members q (not-found (is_member a) ss x none i) in_x)

  module _ (a b : ℕ) (free : member_refusal a b k ≡ None) where
    apart : (x : Session) (q : Member) → In x ss → In q x.members → (q.a.0 ≢ a) × (q.a.0 ≢ b)
    apart x q i in_x = let h = none-both _ _ free in (not-member a (in-none _ h.0) x q i in_x, not-member b (in-none _ h.1) x q i in_x)

    dropped-free : leads_to a b k ≡ true → IsFree ss a
    dropped-free lead x q i in_x = ((apart x q i in_x).0, λ is. by (as-second ss T q a is (ways x q i in_x).1))
      where
        leads : (is_part (T a).fields.primary ≡ true) × (nat_eq (T a).fields.primary_partner b ≡ true)
        leads = and_parts (is_part (T a).fields.primary) _ lead

        other : (T a).fields.primary_partner ≡ q.a.0 → ⊥
        other is = (apart x q i in_x).1 (sym is ∙ eqb-true (T a).fields.primary_partner b leads.1)

        by : PairWay q.a.0 a (sides (T q.a.0).fields) (sides (T a).fields) → ⊥
        by (AsAdded leading follows none) = false_true none leads.0
        by (BothLead leading back none) = other back.1
        by (TurnedRound back follows none second) = other back.1

    let-go-free : (u : World) → Stand ss u → belongs_to a b u.control ≡ true → IsFree ss b
    let-go-free u s belongs x q i in_x = ((apart x q i in_x).1, λ is. by (as-second ss u.control.volume q b is (s.ways x q i in_x).1))
      where
        follows : (is_part (u.control.volume b).fields.secondary ≡ true) × (nat_eq (u.control.volume b).fields.secondary_partner a ≡ true)
        follows = and_parts (is_part (u.control.volume b).fields.secondary) _ belongs

        by : PairWay q.a.0 b (sides (u.control.volume q.a.0).fields) (sides (u.control.volume b).fields) → ⊥
        by (AsAdded leading is none) = (apart x q i in_x).0 (sym is.1 ∙ eqb-true (u.control.volume b).fields.secondary_partner a follows.1)
        by (BothLead leading back none) = false_true none follows.0
        by (TurnedRound back is none plain) = false_true plain follows.0

  pub remove-goes : (devs : Devs) (a b : ℕ) (source_only : Bool) → Goes ss first (remove_pair_plan k devs a b source_only).entries
  remove-goes devs a b source_only = found-goes devs a b _ (goes-refuse ss first (member_refusal a b) _ (λ free. goes-check ss first (is_running a) _ _ (λ h. goes-check ss first (leads_to a b) _ _ (λ lead. by source_only free lead))))
    where
      by : (source_only : Bool) → member_refusal a b k ≡ None → leads_to a b k ≡ true → Goes ss first (cond source_only (now (DropPrimary a) ∷ []) (remove_both k a b))
      by true free lead = goes-does ss first _ (Make (DropPrimary a)) [] refl (dropped-free a b free lead) (λ u s e. goes-none ss u)
      by false free lead =
          goes-check ss first (is_running b) _ _ (λ h. goes-check ss first (are_linked a b) _ _ (λ h. goes-does ss first _ (Make (DropPrimary a)) _ refl (dropped-free a b free lead) (λ u s e.
          goes-may ss u (let_go a b) (Make (DropSecondary b)) (belongs_to a b u.control) refl (λ belongs. let-go-free a b free u s belongs))))

  -- ---- a secondary is taken over, or leaves its primary

  pub failover-goes : (devs : Devs) (b a : ℕ) (kind : Part) → Goes ss first (failover_plan k devs b a kind).entries
  failover-goes devs b a kind = found-goes devs b a _ (goes-check ss first (is_running b) _ _ (λ h. goes-check ss first (may_take_over a b kind) _ _ (λ may. by (is_cascaded (fields_at k b)) refl (second may))))
    where
      second : may_take_over a b kind k ≡ true → is_part (fields_at k b).secondary ≡ true
      second may = (and_parts (is_part (fields_at k b).secondary) _ (and_parts (belongs_to a b k) _ may).0).0

      by : (cascaded : Bool) → is_cascaded (fields_at k b) ≡ cascaded → is_part (fields_at k b).secondary ≡ true → Goes ss first (now (cond cascaded (LeavePrimary b) (TakeOver b)) ∷ [])
      by true is second = goes-does ss first _ (Make (LeavePrimary b)) [] refl (second, (and_parts (is_part (fields_at k b).primary) _ is).0) (λ u s e. goes-none ss u)
      by false is second = goes-does ss first _ (Make (TakeOver b)) [] refl (second, uncascaded-second (fields_at k b) is second) (λ u s e. goes-none ss u)

  -- ---- a pair goes the other way

  -- a move that changes no part leaves the sides of each volume as they were
  sides-stay : (v : World) (m : Move) → sides (next_of v m) ≡ sides (fields_at v.control (target m)) → (j : ℕ) → sides (fields_at (act v (Make m)).0.control j) ≡ sides (fields_at v.control j)
  sides-stay v m same j =
      let part = at_part (λ (y : Volume). sides y.fields) v.control.volume (target m) _ same j in
      act-cases v (Make m) (λ t. sides (fields_at t.0.control j) ≡ sides (fields_at v.control j)) (λ writes off. refl) (λ f. part) (λ f. part) (λ writes f. refl)

  abbrev falls : ℕ → ℕ → Move
  falls x y = FallBack x (unsent_by y k) (state_with (unsent_by y k) (fields_at k x))

  pub failback-goes : (devs : Devs) (x y : ℕ) (kind : Part) → Goes ss first (failback_plan k devs x y kind).entries
  failback-goes devs x y kind = found-goes devs x y _
      (goes-check ss first (is_running x) _ _ (λ h. goes-refuse ss first (reach_refusal x y) _ (λ h. goes-check ss first (leads_as x y kind) _ _ (λ leads. goes-check ss first (leads_to y x) _ _ (λ back.
      goes-check ss first (is_no_secondary x) _ _ (λ h. goes-check ss first (is_no_secondary y) _ _ (λ h. goes-check ss first (is_settled y) _ _ (λ h. goes-check ss first (is_settled x) _ _ (λ h.
      goes-refuse ss first (yield_refusal y) _ (λ h. goes-does ss first (fall_back_on x y) (Make (falls x y)) _ refl tt (λ u s e.
      goes-does ss u (yield_on y x) (Make (Yield y x (fields_at u.control x).primary (fields_at u.control x).primary_state)) [] refl (turns u e leads back) (λ v z f. goes-none ss v))))))))))))
    where
      turns : (u : World) → (act first (Make (falls x y))).0 ≡ u → leads_as x y kind k ≡ true → leads_to y x k ≡ true → LeadBack (fields_at u.control y) (fields_at u.control x) y x (fields_at u.control x).primary
      turns u e leads back =
          let stay : ((j : ℕ) → sides (fields_at u.control j) ≡ sides (fields_at k j)) = λ j. ap (λ (z : World). sides (fields_at z.control j)) (sym e) ∙ sides-stay first (falls x y) refl j in
          let led = and_parts (is_part (fields_at k x).primary) _ (and_parts (leads_to x y k) _ leads).0 in
          let to = and_parts (is_part (fields_at k y).primary) _ back in
          record {
            leads = ap (λ (z : Sides). is_part z.primary) (stay y) ∙ to.0;
            to = ap (λ (z : Sides). z.to) (stay y) ∙ eqb-true (fields_at k y).primary_partner x to.1;
            back = ap (λ (z : Sides). is_part z.primary) (stay x) ∙ led.0;
            alike = refl;
          }
