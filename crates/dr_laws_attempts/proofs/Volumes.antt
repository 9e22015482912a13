-- The laws of attempts hold before the first step, and stay where servers and volumes are defined.
use Rattle.std.proofs.Common.{ℕ, ◌≡◌, inl, inr, refl, ap, sym, ◌∙◌, subst, false, [], ◌∷◌, ◌++◌}
use Rattle.std.proofs.Math.Path.{fun_ext}
use Rattle.dr_logic.specs.Tables.{at}
use Rattle.dr_ids.specs.declared.names.Member.{Member}
use Rattle.dr_model.specs.Layout.{no_fields}
use Rattle.dr_model.specs.Control.{Control, Volume, new_volume, no_control, is_volume}
use Rattle.dr_model.specs.Sessions.{Session}
use Rattle.dr_model.specs.Groups.{In, IsAt, MemberStands, Groups}
use Rattle.dr_model.specs.Attempts.{role_of, roles, AttemptsIn, Attempts}
use Rattle.dr_laws_attempts.proofs.Places.{steps-keep, steps-at}
use Rattle.dr_laws_attempts.proofs.Moves.{at_map}
use Rattle.dr_logic.proofs.Truth.{false_true}

pub attempts-none : Attempts no_control
attempts-none = record { sessions = λ x i. absurd i; volumes = λ v. record { counted = λ h. absurd cc; uncounted = λ h. refl; previous = λ h. refl }; inside = λ x m i h. absurd i }

pub attempts-still : (k j : Control) → j.sessions ≡ k.sessions → ((v : ℕ) → roles j v ≡ roles k v) → Attempts k → Attempts j
attempts-still k j same stays law = subst (λ T. AttemptsIn j.sessions T) (sym (fun_ext stays)) (subst (λ ss. AttemptsIn ss (roles k)) (sym same) law)

-- a volume that isn't defined has no place
pub no-place : (k : Control) (v : ℕ) → is_volume k v ≡ false → Groups k → (z : Session) (m : Member) → In z k.sessions → In m z.members → IsAt v m → ⊥
no-place k v new groups z m i here is = let stands = (groups.each z i).stands m here in by stands is
  where
    by : MemberStands k m → IsAt v m → ⊥
    by stands (inl e) = false_true (ap (is_volume k) (sym e) ∙ new) stands.a
    by stands (inr (inl e)) = false_true (ap (is_volume k) (sym e) ∙ new) stands.b
    by stands (inr (inr e)) = false_true (ap (is_volume k) (sym e) ∙ new) stands.c

pub attempts-defined : (k : Control) (v server tracks : ℕ) → is_volume k v ≡ false → Groups k → Attempts k → Attempts (record k { volumes = k.volumes ++ v ∷ []; volume = at k.volume v (new_volume server tracks) })
attempts-defined k v server tracks new groups law =
    subst (λ T. AttemptsIn k.sessions T) (sym (fun_ext (λ u. at_map (λ (y : Volume). role_of y.fields) k.volume v (new_volume server tracks) u)))
    (steps-keep k.flight k.sessions (roles k) (at (roles k) v (role_of no_fields)) law (steps-at k.flight k.sessions groups.lone (roles k) law v (role_of no_fields) (λ z m i here is. absurd (no-place k v new groups z m i here is)) (record { counted = λ h. absurd cc; uncounted = λ h. refl; previous = λ h. refl })))
