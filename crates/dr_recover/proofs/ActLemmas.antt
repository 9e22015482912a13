-- The plan of a commit or a revert by hand, from what the calls say.
use Rattle.std.proofs.Common.{ℕ, ◌≡◌, ◌==◌, Bool, List, [], ◌∷◌, refl, subst, Option, Some, None}
use Rattle.std.specs.Prelude.{Result, Ok, Err}
use Rattle.std.specs.List.{find}
use Rattle.dr_ids.specs.declared.names.Member.{Member}
use Rattle.dr_ids.specs.declared.refusal.Decision.{Decision}
use Rattle.dr_ids.specs.declared.refusal.Refusal.{Refusal}
use Rattle.dr_model.specs.declared.said.Addition.TheVariants.{Alone}
use Rattle.dr_model.specs.declared.said.Said.{Said}
use Rattle.dr_model.specs.declared.said.Said.TheVariants.{Done, Refused}
use Rattle.dr_model.specs.Control.{Control, World}
use Rattle.dr_model.specs.Carry.{Entry}
use Rattle.dr_model.specs.Entries.{fields_at, relation_state}
use Rattle.dr_model.specs.PlanParts.{Plan, refuses, unless, entries_plan}
use Rattle.dr_model.specs.ReadStops.{Ends}
use Rattle.dr_model.specs.RecoveryPlans.{decided_in, settle_on, settle_refusal, settle_member, settle_target, revertible_target}
use Rattle.dr_model.specs.Sessions.{session_in, members_in}
use Rattle.dr_moves.specs.Here.{refusal_of}
use Rattle.dr_gmirror.specs.Exchange.{PlanEnds}
use Rattle.dr_gmirror.proofs.ExchangeLemmas.{refused-plan, silent-ends, follow-nothing}
use Rattle.dr_recover.specs.Outcomes.{act_said}

-- entries alone, and what they answer
pub entries-end : (armed : ℕ → Bool) (w u : World) (es : List Entry) (x : Result (Unit {0}) Refusal) → Ends armed u (refusal_of x) w es → PlanEnds armed w (entries_plan es (Done Alone)) u (act_said x)
entries-end armed w u es (Ok x) ends = record { middle = u; refusal = None; ends = silent-ends armed u w None es ends; world = refl; answers = refl }
entries-end armed w u es (Err e) ends = record { middle = u; refusal = Some e; ends = silent-ends armed u w (Some e) es ends; world = follow-nothing u e; answers = refl }

module _ (armed : ℕ → Bool) (w : World) (lets : Decision → Bool) (b : ℕ) where
  abbrev k : Control
  k = w.control

  abbrev Comes : Plan → World → Said → Type 0
  Comes p u a = PlanEnds armed w p u a

  -- a refusal that says in which relationships the source stands
  pub stands-so : (why : Refusal) → why ≡ relation_state w.control b → PlanEnds armed w (refuses (relation_state w.control b)) w (Refused why)
  stands-so why is = subst (λ y. PlanEnds armed w (refuses y) w (Refused why)) is (refused-plan armed w why)

  -- no revertible target
  pub act-none : (why : Refusal) → None ≡ revertible_target w.control b → why ≡ relation_state w.control b → PlanEnds armed w (settle_target w.control lets b (revertible_target w.control b)) w (Refused why)
  act-none why none is = subst (λ o. Comes (settle_target k lets b o) w (Refused why)) none (stands-so why is)

  -- one, and its member, if it has one
  pub act-by : (t s : ℕ) (o : Option Member) (u : World) (a : Said) → Some t ≡ revertible_target w.control b → s ≡ (fields_at w.control t).session → o ≡ find (λ m. m.c.0 == t) (members_in (session_in w.control.sessions s))
      → PlanEnds armed w (settle_member w.control lets b s o) u a → PlanEnds armed w (settle_target w.control lets b (revertible_target w.control b)) u a
  act-by t s o u a some session member ends =
      subst (λ o. Comes (settle_target k lets b o) u a) some
      (subst (λ q. Comes (settle_member k lets b q (find (λ (m : Member). m.c.0 == t) (members_in (session_in k.sessions q)))) u a) session
      (subst (λ o. Comes (settle_member k lets b s o) u a) member ends))

  -- a member's, that is refused or done
  module _ (s : ℕ) (m : Member) (d : Decision) (is : d ≡ decided_in s w.control) where
    pub act-refused : (why : Refusal) → Some why ≡ settle_refusal lets d (members_in (session_in w.control.sessions s)) w.control → PlanEnds armed w (settle_member w.control lets b s (Some m)) w (Refused why)
    act-refused why refused =
        subst (λ d. Comes (unless (settle_refusal lets d (members_in (session_in k.sessions s)) k) (entries_plan (settle_on s d m ∷ []) (Done Alone))) w (Refused why)) is
        (subst (λ o. Comes (unless o (entries_plan (settle_on s d m ∷ []) (Done Alone))) w (Refused why)) refused (refused-plan armed w why))

    pub act-done : (u : World) (x : Result (Unit {0}) Refusal) → None ≡ settle_refusal lets d (members_in (session_in w.control.sessions s)) w.control → Ends armed u (refusal_of x) w (settle_on s d m ∷ []) → PlanEnds armed w (settle_member w.control lets b s (Some m)) u (act_said x)
    act-done u x passed ends =
        subst (λ d. Comes (unless (settle_refusal lets d (members_in (session_in k.sessions s)) k) (entries_plan (settle_on s d m ∷ []) (Done Alone))) u (act_said x)) is
        (subst (λ o. Comes (unless o (entries_plan (settle_on s d m ∷ []) (Done Alone))) u (act_said x)) passed (entries-end armed w u (settle_on s d m ∷ []) x ends))
