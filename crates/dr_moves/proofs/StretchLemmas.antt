-- Stretches that end so, where no read fuse is armed: their entries end so, and what follows is that of the stretch in which a server stopped.
use Rattle.std.proofs.Common.{ℕ, ◌≡◌, ◌<◌, ◌+◌, ◌-◌, refl, ap, sym, ◌∙◌, subst, length, arith, cond, Bool, true, false, inl, inr, List, [], ◌∷◌, ◌++◌, Option, Some, None}
use Rattle.std.specs.Prelude.{nat_lt}
use Rattle.dr_bits.specs.Membership.{lt_true, lt_false}
use Rattle.dr_ids.specs.declared.refusal.Refusal.{Refusal}
use Rattle.dr_ids.specs.declared.refusal.Refusal.TheVariants.{Stopped}
use Rattle.dr_model.specs.Control.{World}
use Rattle.dr_model.specs.Carry.{Entry, Stretch, Outcome, carry, carry_each, follow, follows_at, entries_in, stopped_at}
use Rattle.dr_model.specs.ReadStops.{Ends}
use Rattle.dr_model.proofs.CarryLemmas.{carry-none, carry-append, onward}
use Rattle.dr_moves.specs.Followed.{EndsEach, Follows, EndsIn}
use Rattle.dr_facts.proofs.Stretches.{stopped-within, stopped-after}

-- what is followed after so many entries
at-first : (s t : Stretch) (ts : List Stretch) (n : ℕ) → n < length s.entries → follows_at (s ∷ t ∷ ts) n ≡ s.follows
at-first s t ts n few = ap (λ b. cond b s.follows (follows_at (t ∷ ts) (n - length s.entries))) (lt_true n (length s.entries) few)

at-later : (s t : Stretch) (ts : List Stretch) (n k : ℕ) → n ≡ length s.entries + k → follows_at (s ∷ t ∷ ts) n ≡ follows_at (t ∷ ts) k
at-later s t ts n k is =
    let less : n - length s.entries ≡ k = omega arith in
    ap (λ b. cond b s.follows (follows_at (t ∷ ts) (n - length s.entries))) (lt_false n (length s.entries) (omega arith)) ∙ ap (follows_at (t ∷ ts)) less

-- how they ended, and what followed
pub record Carried (w : World) (ss : List Stretch) (u : World) (r : Refusal) : Type 0 where
  pub middle : World
  pub carried : carry w (entries_in ss) ≡ (middle, Some r)
  pub followed : follow middle r (follows_at ss (stopped_at w (entries_in ss))) ≡ u

module _ (armed : ℕ → Bool) (exact : (u : World) (r : Option Refusal) (w : World) (ds : List Entry) → Ends armed u r w ds → carry w ds ≡ (u, r)) where
  each-to : (v : World) (es : List Entry) (u : World) → EndsEach armed v es u → carry_each v es ≡ u
  each-to v [] u same = sym same
  each-to v (d ∷ ds) u h =
      let first = h.first in
      ap (λ (o : Outcome). carry_each o.0 ds) (exact h.middle first.refusal v (d ∷ []) first.ends) ∙ each-to h.middle ds u h.later

  -- what follows leads to what the plan says
  pub follows-to : (es : List Entry) (v u : World) (r : Refusal) → Follows armed v (Some r) es u → follow v r es ≡ u
  follows-to es v u (Stopped server) each = each-to v es u each
  follows-to es v u _ same = sym same

  same_why : {q r : Refusal} → Some r ≡ Some q → q ≡ r
  same_why {q} {r} is = ap (λ o. get o) (sym is)
    where
      get : Option Refusal → Refusal
      get None = r
      get (Some x) = x

  pub in-none : (w : World) (ss : List Stretch) (u : World) → EndsIn armed w ss u None → carry w (entries_in ss) ≡ (u, None)
  in-none w [] u e = carry-none w ∙ ap (λ v. (v, None)) (sym e.0)
  in-none w (s ∷ []) u (inl on) = exact on.middle None w s.entries on.ends ∙ ap (λ v. (v, None)) (sym on.later.0)
  in-none w (s ∷ []) u (inr here) = absurd (let none = here.refusal in cc)
  in-none w (s ∷ t ∷ ts) u (inl on) =
      carry-append w s.entries (entries_in (t ∷ ts)) ∙ ap (λ o. onward o (λ v. carry v (entries_in (t ∷ ts)))) (exact on.middle None w s.entries on.ends) ∙ in-none on.middle (t ∷ ts) u on.later
  in-none w (s ∷ t ∷ ts) u (inr here) = absurd (let none = here.refusal in cc)

  pub in-some : (w : World) (ss : List Stretch) (u : World) (r : Refusal) → EndsIn armed w ss u (Some r) → Carried w ss u r
  in-some w [] u r e = absurd (let none = e.1 in cc)
  in-some w (s ∷ []) u r (inl on) = absurd (let none = on.later.1 in cc)
  in-some w (s ∷ []) u r (inr here) = subst (λ q. Carried w (s ∷ []) u q) (same_why here.refusal) (record {
    middle = here.middle;
    carried = exact here.middle (Some here.why) w s.entries here.ends;
    followed = follows-to s.follows here.middle u here.why here.followed;
  })
  in-some w (s ∷ t ∷ ts) u r (inl on) =
      let later : Carried on.middle (t ∷ ts) u r = in-some on.middle (t ∷ ts) u r on.later in
      let led : carry w s.entries ≡ (on.middle, None) = exact on.middle None w s.entries on.ends in
      record {
        middle = later.middle;
        carried = carry-append w s.entries (entries_in (t ∷ ts)) ∙ ap (λ o. onward o (λ v. carry v (entries_in (t ∷ ts)))) led ∙ later.carried;
        followed = ap (follow later.middle r) (at-later s t ts _ _ (stopped-after w s.entries (entries_in (t ∷ ts)) on.middle led)) ∙ later.followed;
      }
  in-some w (s ∷ t ∷ ts) u r (inr here) =
      let stops : carry w s.entries ≡ (here.middle, Some here.why) = exact here.middle (Some here.why) w s.entries here.ends in
      let within = stopped-within w s.entries (entries_in (t ∷ ts)) here.middle here.why stops in
      let few = within.few in
      subst (λ q. Carried w (s ∷ t ∷ ts) u q) (same_why here.refusal) (record {
        middle = here.middle;
        carried = carry-append w s.entries (entries_in (t ∷ ts)) ∙ ap (λ o. onward o (λ v. carry v (entries_in (t ∷ ts)))) stops;
        followed = ap (follow here.middle here.why) (at-first s t ts _ (subst (λ n. n < length s.entries) (sym within.same) few)) ∙ follows-to s.follows here.middle u here.why here.followed;
      })
