-- The plans of the step table, by cases.
use Rattle.std.proofs.Common.{ℕ, ◌≡◌, refl, ◌∙◌, ap, Option, Some, None}
use Rattle.std.specs.Prelude.{option_map}
use Rattle.std.specs.Option.{option_or}
use Rattle.dr_ids.specs.declared.names.Member.{Member}
use Rattle.dr_ids.specs.declared.refusal.Refusal.{Refusal}
use Rattle.dr_model.specs.Control.{Control}
use Rattle.dr_model.specs.Sessions.{Session, busy}
use Rattle.dr_model.specs.Entries.{fields_at}
use Rattle.dr_model.specs.PlanParts.{Plan, unless}
use Rattle.dr_model.specs.SessionPlans.{outside_refusal, taken_refusal, copy_refusal, off_refusal, member_target, member_with, add_target, expel_found}
use Rattle.dr_admin.specs.Adding.{member_planned, lone_refusal, placed_in, plan_of, AddsSo}
use Rattle.dr_admin.specs.Removing.{member_in, expel_refusal, plan_without, ExpelsSo}

unless-either : (a b : Option Refusal) (p : Plan) → unless a (unless b p) ≡ unless (option_or a b) p
unless-either None b p = refl
unless-either (Some e) b p = refl

regroup : (a b c d e : Option Refusal) → option_or (option_or a (option_or b c)) (option_or d e) ≡ option_or a (option_or b (option_or (option_or c d) e))
regroup (Some x) b c d e = refl
regroup None (Some x) c d e = refl
regroup None None (Some x) d e = refl
regroup None None None d e = refl

module _ (k : Control) (s a : ℕ) (x : Session) where
  target-so : (o : Option ℕ) → add_target k s x a (fields_at k a).primary_partner o
      ≡ unless (option_or (lone_refusal k a (option_map (member_with k a) o)) (placed_in k.sessions (option_map (member_with k a) o))) (plan_of k s (Some x) (option_map (member_with k a) o))
  target-so None = refl
  target-so (Some c) = refl

  found-so : (o : Option Member) → expel_found k s x o ≡ unless (expel_refusal k s (Some x) o) (plan_without s o)
  found-so None = refl
  found-so (Some m) = unless-either (busy x.mirror) (off_refusal k (k.volume m.c.0).server) (plan_without s (Some m))

pub adds-so : (k : Control) (s : ℕ) (x : Option Session) (l a : ℕ) → AddsSo k s x l a
adds-so k s None l a = tt
adds-so k s (Some x) l a =
    let m = member_planned k a in
    ap (unless (option_or (outside_refusal x l) (option_or (taken_refusal k x a) (copy_refusal k a)))) (target-so k s a x (member_target k (fields_at k a).primary_partner))
    ∙ unless-either (option_or (outside_refusal x l) (option_or (taken_refusal k x a) (copy_refusal k a))) (option_or (lone_refusal k a m) (placed_in k.sessions m)) (plan_of k s (Some x) m)
    ∙ ap (λ o. unless o (plan_of k s (Some x) m)) (regroup (outside_refusal x l) (taken_refusal k x a) (copy_refusal k a) (lone_refusal k a m) (placed_in k.sessions m))

pub expels-so : (k : Control) (s : ℕ) (x : Option Session) (a : ℕ) → ExpelsSo k s x a
expels-so k s None a = tt
expels-so k s (Some x) a = found-so k s a x (member_in a (Some x))
