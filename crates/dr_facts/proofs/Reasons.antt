-- Why entries end their plans: for no reason that names a stop, or says that a step isn't built.
use Rattle.std.proofs.Common.{ℕ, ◌≡◌, cond, not, ◌||◌, nat_eq, nat_lt, List, refl, Bool, true, false, Option, Some, None}
use Rattle.std.specs.Prelude.{option_map}
use Rattle.std.specs.List.{find}
use Rattle.dr_ids.specs.declared.names.Member.{Member}
use Rattle.dr_ids.specs.declared.refusal.Decision.{Decision}
use Rattle.dr_ids.specs.declared.refusal.Refusal.{Refusal}
use Rattle.dr_ids.specs.declared.refusal.Refusal.TheVariants.{Stopped as StoppedIn, NotBuilt}
use Rattle.dr_model.specs.Control.{Control}
use Rattle.dr_model.specs.Refusals.{server_off}
use Rattle.dr_model.specs.Layout.{Fields}
use Rattle.dr_model.specs.Pairs.{records}
use Rattle.dr_model.specs.Entries.{fields_at, is_revertible, stands_in, is_running}
use Rattle.dr_model.specs.PairEntries.{are_linked, has_path, reach_refusal, differs_at, belongs_to, send_refusal, flashed_refusal}
use Rattle.dr_model.specs.Sessions.{Session, session_in, members_in, in_session, is_member}
use Rattle.dr_model.specs.SessionEntries.{may_hold, hold_refusal, stale_refusal, void_refusal, is_drained, seal_refusal, is_flashed, may_flash, flash_refusal, is_committed, commit_refusal}
use Rattle.dr_model.specs.Plans.{counted_refusal, secondary_refusal, leaves_all, forbidden_unless, decided_in, restore_refusal, member_from, restores_refusal, yield_refusal, member_refusal}
use Rattle.dr_facts.proofs.Entries.{WhyNot, why-if, why-or}

abbrev pub names_no_stop : Refusal → Bool
names_no_stop (StoppedIn s) = false
names_no_stop NotBuilt = false
names_no_stop _ = true

abbrev pub NoStop : Refusal → Type 0
NoStop r = names_no_stop r ≡ true

abbrev pub NoneStops : Option Refusal → Type 0
NoneStops = WhyNot NoStop

if-so : (b : Bool) (x y : Option Refusal) → NoneStops x → NoneStops y → NoneStops (cond b x y)
if-so = why-if NoStop

pub session-why : (o : Option Session) → NoneStops (in_session o)
session-why None = tt
session-why (Some x) = refl

module _ (a b : ℕ) (k : Control) where
  pub reach-why : NoneStops (reach_refusal a b k)
  reach-why = if-so (not (has_path a b k)) _ _ refl (if-so (not (is_running b k)) _ _ refl (if-so (not (are_linked a b k)) _ _ refl tt))

  pub send-why : NoneStops (send_refusal a b k)
  send-why = why-or NoStop (reach_refusal a b k) _ reach-why (if-so (belongs_to a b k) None _ tt refl)

  pub member-why : NoneStops (member_refusal a b k)
  member-why = why-or NoStop (in_session (find (is_member a) k.sessions)) _ (session-why (find (is_member a) k.sessions)) (session-why (find (is_member b) k.sessions))

  pub hold-why : NoneStops (hold_refusal a b k)
  hold-why = if-so (may_hold a b k) None _ tt refl

  pub seal-why : NoneStops (seal_refusal a b k)
  seal-why = if-so (is_drained a k) (send_refusal a b k) None send-why tt

pub flashed-why : (b : ℕ) (k : Control) → NoneStops (flashed_refusal b k)
flashed-why b k = if-so (stands_in is_revertible k b) _ None refl tt

pub differs-why : (difference : Option ℕ) (k : Control) → NoneStops (differs_at difference k)
differs-why None k = tt
differs-why (Some t) k = refl

pub void-why : (a n : ℕ) (k : Control) → NoneStops (void_refusal a n k)
void-why a n k = if-so (records n (fields_at k a)) None _ tt refl

pub stale-why : (a n : ℕ) (k : Control) → NoneStops (stale_refusal a n k)
stale-why a n k = let f : Fields = fields_at k a in if-so (records n f) None _ tt (if-so (nat_lt f.attempt n) None _ tt refl)

pub flash-why : (b c n : ℕ) (k : Control) → NoneStops (flash_refusal b c n k)
flash-why b c n k =
    if-so (is_flashed n (fields_at k c)) None _ tt (if-so (not (may_flash b (fields_at k c))) _ _ refl (if-so (not (nat_lt (fields_at k c).floor n)) _ _ refl (if-so (not (nat_eq (fields_at k b).seal n)) _ None refl tt)))

pub commit-why : (c n : ℕ) (k : Control) → NoneStops (commit_refusal c n k)
commit-why c n k = if-so (is_committed n (fields_at k c) || is_flashed n (fields_at k c)) None _ tt refl

-- a member's target is kept, or its session has to be settled first
pub counted-why : (t : ℕ) (k : Control) → NoneStops (counted_refusal t k)
counted-why t k = if-so (fields_at k t).member _ None refl tt

pub secondary-why : (ms : List Member) (k : Control) → NoneStops (secondary_refusal ms k)
secondary-why ms k = by (find (λ m. not (is_running m.b.0 k)) ms)
  where
    by : (o : Option Member) → NoneStops (option_map (λ m. server_off (k.volume m.b.0).server) o)
    by None = tt
    by (Some m) = refl

pub forbidden-why : (b : Bool) (d : Decision) → NoneStops (forbidden_unless b d)
forbidden-why true d = tt
forbidden-why false d = refl

pub restore-why : (t : ℕ) (k : Control) → NoneStops (restore_refusal t k)
restore-why t k =
    let s : ℕ = (fields_at k t).session in
    let ms : List Member = members_in (session_in k.sessions s) in
    if-so (fields_at k t).member _ None (why-or NoStop (secondary_refusal ms k) _ (secondary-why ms k) (forbidden-why (leaves_all (decided_in s k)) (decided_in s k))) tt

-- a pair goes the other way
pub yield-why : (y : ℕ) (k : Control) → NoneStops (yield_refusal y k)
yield-why y k = by (member_from y k)
  where
    by : (o : Option ℕ) → NoneStops (restores_refusal o k)
    by None = tt
    by (Some t) = restore-why t k
