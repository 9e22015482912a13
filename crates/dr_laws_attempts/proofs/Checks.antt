-- What checks of plans on single volumes give for the laws of attempts.
use Rattle.std.proofs.Common.{ℕ, ◌≡◌, ◌⊎◌, inl, inr, refl, ap, sym, ◌∙◌, subst, true, false, ◌&&◌, ◌||◌, Some}
use Rattle.std.specs.List.{list_any}
use Rattle.std.proofs.lemmas.Bool.{or_right, or_parts}
use Rattle.dr_ids.specs.declared.names.Member.{Member}
use Rattle.dr_model.specs.Views.{source_of}
use Rattle.dr_model.specs.Control.{Control}
use Rattle.dr_model.specs.Entries.{fields_at, copies_from, targets_of, stands_in, is_revertible}
use Rattle.dr_model.specs.Sessions.{Session, session_in}
use Rattle.dr_model.specs.Groups.{In, Groups}
use Rattle.dr_model.specs.Attempts.{roles, seen, seen_in, NoneRevertible, IsTarget, Attempts, DoesNotCount, MayGo, MayFollow}
use Rattle.dr_facts.proofs.Lists.{any-some, to-filter, to-map, is-met}
use Rattle.dr_laws_sessions.proofs.Changes.{session-found, same-session}
use Rattle.dr_laws_attempts.proofs.Facts.{bool_cases}
use Rattle.dr_facts.proofs.Relations.{from-copies}
use Rattle.dr_logic.proofs.Truth.{false_true}

-- a target that doesn't count may go
pub uncounted-goes : (k : Control) (v : ℕ) → DoesNotCount (fields_at k v) → MayGo k v
uncounted-goes k v none = record {
  plain = (or_parts (fields_at k v).member (fields_at k v).revertible none).1;
  settled = λ h x m i here e. false_true ((or_parts (fields_at k v).member (fields_at k v).revertible none).0) h;
}

module _ (k : Control) (groups : Groups k) (law : Attempts k) where
  abbrev Target : ℕ → Type 0
  Target v = IsTarget k.sessions v (fields_at k v).session (source_of (fields_at k v)) (fields_at k v).recorded (fields_at k v).inhibited (fields_at k v).reversing

  counted : (v : ℕ) → ((fields_at k v).member || (fields_at k v).revertible) ≡ true → Target v
  counted v h = (law.volumes v).counted h

  -- and one whose session has none that is revertible
  pub settled-goes : (v : ℕ) (x : Session) → session_in k.sessions (fields_at k v).session ≡ Some x → NoneRevertible (seen_in k x) → MayGo k v
  settled-goes v x found none = record { plain = plain (bool_cases (fields_at k v).revertible); settled = λ h z m i here e. all h z m i here e }
    where
      there : In x k.sessions × (x.number ≡ (fields_at k v).session)
      there = session-found k.sessions (fields_at k v).session x found

      its : (t : Target v) → t.session ≡ x
      its t = same-session k.sessions t.session x groups.once t.listed there.0 (t.number ∙ sym there.1)

      plain : ((fields_at k v).revertible ≡ true) ⊎ ((fields_at k v).revertible ≡ false) → (fields_at k v).revertible ≡ false
      plain (inr e) = e
      plain (inl h) =
          let t = counted v (or_right (fields_at k v).member (fields_at k v).revertible h) in
          let here : In t.member x.members = subst (λ (z : Session). In t.member z.members) (its t) t.here in
          sym (ap (λ c. (fields_at k c).revertible) t.is) ∙ none (seen (roles k) t.member) (to-map (seen (roles k)) x.members t.member here)

      all : (fields_at k v).member ≡ true → (z : Session) (m : Member) → In z k.sessions → In m z.members → m.c.0 ≡ v → NoneRevertible (seen_in k z)
      all h z m i here e =
          let t = counted v (ap (λ b. b || (fields_at k v).revertible) h) in
          let one = groups.lone.one v t.session z t.member m t.listed i t.here here (inr (inr (sym t.is))) (inr (inr (sym e))) in
          subst (λ z. NoneRevertible (seen_in k z)) (sym (its t) ∙ same-session k.sessions t.session z groups.once t.listed i one.0) none

  -- a volume that is the source of no revertible relationship may become a secondary
  pub unflashed-follows : (b : ℕ) → stands_in is_revertible k b ≡ false → MayFollow k b
  unflashed-follows b none z m i here e = by (bool_cases (fields_at k m.c.0).revertible)
    where
      never : (fields_at k m.c.0).revertible ≡ true → ⊥
      never h =
          let t = counted m.c.0 (or_right (fields_at k m.c.0).member (fields_at k m.c.0).revertible h) in
          let one = groups.lone.one m.c.0 t.session z t.member m t.listed i t.here here (inr (inr (sym t.is))) (inr (inr refl)) in
          let from : source_of (fields_at k m.c.0) ≡ Some b = t.source ∙ ap (λ (q : Member). Some q.b.0) one.1 ∙ ap Some e in
          let listed = to-filter (λ u. copies_from b (fields_at k u)) k.volumes m.c.0 (is-met m.c.0 k.volumes ((groups.each z i).stands m here).c) (from-copies b (fields_at k m.c.0) from) in
          let met : list_any (λ u. is_revertible (fields_at k u)) (targets_of k b) ≡ true = any-some (λ u. is_revertible (fields_at k u)) (targets_of k b) m.c.0 listed h in
          false_true ((or_parts ((fields_at k b).related && is_revertible (fields_at k b)) (list_any (λ u. is_revertible (fields_at k u)) (targets_of k b)) none).1) met

      by : ((fields_at k m.c.0).revertible ≡ true) ⊎ ((fields_at k m.c.0).revertible ≡ false) → (fields_at k m.c.0).revertible ≡ false
      by (inl h) = absurd (never h)
      by (inr h) = h
