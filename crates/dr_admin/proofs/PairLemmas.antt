-- What the pair of a primary says, as checks in a row; and two moves of a member's volumes.
use Rattle.std.proofs.Common.{ℕ, ◌≡◌, Bool, true, false, not, List, refl, sym, ◌∙◌, ap, Option, Some, None}
use Rattle.std.specs.Prelude.{Result, Ok, Err, OnErr, option_map, if◌then◌else◌}
use Rattle.std.specs.Option.{option_or}
use Rattle.dr_ids.specs.declared.names.Member.{Member}
use Rattle.dr_ids.specs.declared.refusal.Refusal.TheVariants.{Stopped}
use Rattle.dr_model.specs.Sessions.{Session, changed, raised, with_member}
use Rattle.dr_model.specs.SessionEntries.{first_number, add_entries}
use Rattle.dr_admin.specs.Adding.{outside_of, taken_in, member_planned, lone_refusal, pair_refusal, placed_in, enrol_refusal, entries_planned, sessions_planned, unless_stop}
use Rattle.dr_ids.specs.declared.refusal.Refusal.{Refusal}
use Rattle.dr_model.specs.declared.state.Part.TheVariants.{Global}
use Rattle.dr_model.specs.Pairs.{is_kind}
use Rattle.dr_model.specs.Control.{Control}
use Rattle.dr_model.specs.Entries.{fields_at, is_running, pair_state, relation_state}
use Rattle.dr_model.specs.PairEntries.{send_refusal}
use Rattle.dr_model.specs.Refusals.{server_off, stopped}
use Rattle.dr_model.specs.SessionPlans.{copy_refusal, lead_refusal, member_target, member_with}
use Rattle.dr_moves.specs.Checks.{is_stop}
use Rattle.dr_moves.specs.Here.{refusal_of}

module _ (k : Control) (a : ℕ) where
  -- why its secondary doesn't do
  abbrev follows : Option Refusal
  follows = option_or (send_refusal a (fields_at k a).primary_partner k) (lead_refusal (fields_at k a).primary_partner k)

  abbrev by : Bool → Bool → Option Refusal
  by running global = if not running then Some (server_off (k.volume a).server) else if not global then Some (pair_state k a) else follows

  pub copy-off : is_running a k ≡ false → Some (server_off (k.volume a).server) ≡ copy_refusal k a
  copy-off off = sym (ap (λ b. by b (is_kind Global (fields_at k a).primary)) off)

  pub copy-other : is_running a k ≡ true → is_kind Global (fields_at k a).primary ≡ false → Some (pair_state k a) ≡ copy_refusal k a
  copy-other on other = sym (λ i. by (on i) (other i))

  pub copy-global : is_running a k ≡ true → is_kind Global (fields_at k a).primary ≡ true → follows ≡ copy_refusal k a
  copy-global on global = sym (λ i. by (on i) (global i))

-- what a stop fails is a stop
pub stops-by : (r : Result (Unit {0}) Refusal) (server : ℕ) → OnErr r (refusal_of r ≡ Some (stopped server)) → OnErr r (is_stop (refusal_of r) ≡ true)
stops-by (Ok x) server refused = refused
stops-by (Err e) server refused = ap is_stop refused

-- the member that a pair makes, or why it makes none
module _ (k : Control) (a b : ℕ) (partner : b ≡ (fields_at k a).primary_partner) where
  planned : (o : Option ℕ) → o ≡ member_target k b → member_planned k a ≡ option_map (member_with k a) o
  planned o is = ap (λ v. option_map (member_with k a) (member_target k v)) (sym partner) ∙ ap (option_map (member_with k a)) (sym is)

  clear : None ≡ copy_refusal k a → lone_refusal k a (member_planned k a) ≡ pair_refusal k a
  clear none = ap (λ o. option_or o (lone_refusal k a (member_planned k a))) none

  pub lone-is : (why : Refusal) → None ≡ copy_refusal k a → None ≡ member_target k b → why ≡ relation_state k b → Some why ≡ pair_refusal k a
  lone-is why none lone is =
      ap (λ (x : Refusal). Some x) (is ∙ ap (relation_state k) partner) ∙ sym (ap (lone_refusal k a) (planned None lone)) ∙ clear none

  pub pair-is : (c : ℕ) → None ≡ copy_refusal k a → Some c ≡ member_target k b → None ≡ pair_refusal k a
  pair-is c none found = sym (ap (lone_refusal k a) (planned (Some c) found)) ∙ clear none

  pub planned-is : (c server : ℕ) → Some c ≡ member_target k b → (k.volume a).server ≡ server
      → member_planned k a ≡ Some (record { a = record { 0 = a }; b = record { 0 = b }; c = record { 0 = c }; server = record { 0 = server } })
  planned-is c server found is = planned (Some c) found ∙ (λ i. Some (record { a = record { 0 = a }; b = record { 0 = sym partner i }; c = record { 0 = c }; server = record { 0 = is i } }))

-- ---- all reasons in order

or-left : (e : Refusal) (a b x : Option Refusal) → Some e ≡ option_or a b → Some e ≡ option_or a (option_or b x)
or-left e None b x is = ap (λ o. option_or o x) is
or-left e (Some d) b x is = is

or-right : (a b x : Option Refusal) → None ≡ option_or a b → x ≡ option_or a (option_or b x)
or-right None b x is = ap (λ o. option_or o x) is
or-right (Some d) b x is = absurd cc

module _ (k : Control) (x : Option Session) (l a : ℕ) (ss : List Session) (same : k.sessions ≡ ss) where
  in-all : option_or (outside_of x l) (option_or (taken_in ss x a) (option_or (pair_refusal k a) (placed_in ss (member_planned k a)))) ≡ enrol_refusal k x l a
  in-all = ap (λ xs. option_or (outside_of x l) (option_or (taken_in xs x a) (option_or (pair_refusal k a) (placed_in xs (member_planned k a))))) (sym same)

  pub refused-first : (e : Refusal) → Some e ≡ option_or (outside_of x l) (taken_in ss x a) → Some e ≡ enrol_refusal k x l a
  refused-first e is = or-left e (outside_of x l) (taken_in ss x a) (option_or (pair_refusal k a) (placed_in ss (member_planned k a))) is ∙ in-all

  pub refused-pair : (e : Refusal) → None ≡ option_or (outside_of x l) (taken_in ss x a) → Some e ≡ pair_refusal k a → Some e ≡ enrol_refusal k x l a
  refused-pair e none is =
      ap (λ o. option_or o (placed_in ss (member_planned k a))) is ∙ or-right (outside_of x l) (taken_in ss x a) (option_or (pair_refusal k a) (placed_in ss (member_planned k a))) none ∙ in-all

  pub refused-place : (o : Option Refusal) (m : Member) → None ≡ option_or (outside_of x l) (taken_in ss x a) → None ≡ pair_refusal k a → member_planned k a ≡ Some m → o ≡ placed_in ss (Some m) → o ≡ enrol_refusal k x l a
  refused-place o m none also is placed =
      placed ∙ ap (placed_in ss) (sym is) ∙ ap (λ o. option_or o (placed_in ss (member_planned k a))) also
      ∙ or-right (outside_of x l) (taken_in ss x a) (option_or (pair_refusal k a) (placed_in ss (member_planned k a))) none ∙ in-all

-- what a call answers but for a stop
pub unless-calm : (e : Refusal) → is_stop (Some e) ≡ false → unless_stop (Some e) ≡ Some e
unless-calm (Stopped server) calm = absurd cc
unless-calm e calm = refl

pub unless-stops : (e : Refusal) → is_stop (Some e) ≡ true → unless_stop (Some e) ≡ None
unless-stops (Stopped server) stop = refl
unless-stops e stop = absurd cc

-- ---- what is done, and the sessions then

module _ (k : Control) (o : Option Session) (p : Option Member) (m : Member) (n : ℕ) (is : p ≡ Some m) (number : Some n ≡ option_map (λ (x : Session). first_number k x.last m) o) where
  pub entries-are : add_entries m n ≡ entries_planned k o p
  entries-are = by o number ∙ ap (entries_planned k o) (sym is)
    where
      by : (o : Option Session) → Some n ≡ option_map (λ (x : Session). first_number k x.last m) o → add_entries m n ≡ entries_planned k o (Some m)
      by None h = absurd cc
      by (Some x) h = let same : n ≡ first_number k x.last m = cc in ap (add_entries m) same

  pub sessions-are : (s : ℕ) (ss : List Session) → changed s (with_member m) (changed s (raised n) ss) ≡ sessions_planned k s o p ss
  sessions-are s ss = by o number ∙ ap (λ p. sessions_planned k s o p ss) (sym is)
    where
      by : (o : Option Session) → Some n ≡ option_map (λ (x : Session). first_number k x.last m) o → changed s (with_member m) (changed s (raised n) ss) ≡ sessions_planned k s o (Some m) ss
      by None h = absurd cc
      by (Some x) h = let same : n ≡ first_number k x.last m = cc in ap (λ n. changed s (with_member m) (changed s (raised n) ss)) same
