-- A session that is found in the table, the tables where no server went off, and how long the table is.
use Rattle.std.proofs.Common.{◌≡◌, refl, Option, Some, None, ℕ, true, false, cond, List, [], ◌∷◌, sym, ◌∙◌, ap, ◌==◌, Bool, not, ◌&&◌, nat_lt, nat_le, filter, option_map, ◌++◌, ◌≤◌, ◌<◌, ◌+◌, length, arith}
use Rattle.std.proofs.lemmas.List.{length-append}
use Rattle.std.proofs.lemmas.Bool.Decides.{nat_tests}
use Rattle.dr_ids.specs.declared.refusal.Refusal.TheVariants.{Limit}
use Rattle.dr_ids.specs.declared.refusal.Which.TheVariants as limit
use Rattle.std.proofs.lemmas.Bool.{eqb-true, and_right}
use Rattle.std.proofs.lemmas.List.Folds.{list_any_none}
use Rattle.dr_model.specs.Sessions.{Session, Mirror, in_session, session_in, all_low, mirror_lost_since, lost_since, changed, without_session, is_only, left_by, leaves, left, joined_by, new_session, joins, joined, join_refusal}
use Rattle.dr_model.specs.Phases as phases
use Rattle.dr_model.specs.Control.{Control}
use Rattle.dr_model.specs.Messages.{Flight, loses, loses_master, loses_in, is_lost}
use Rattle.dr_model.specs.Messages as messages
use Rattle.dr_model.specs.Carried.{losing}
use Rattle.dr_ids.specs.declared.names.Member.{Member}
use Rattle.dr_facts.proofs.Lists.{from-filter, all-each, each-all}

-- in none of the sessions
pub in-none : (o : Option Session) → in_session o ≡ None → o ≡ None
in-none None h = refl
in-none (Some x) h = absurd cc

-- a session is found by its number
pub number-is : (ss : List Session) (s : ℕ) (x : Session) → session_in ss s ≡ Some x → x.number ≡ s
number-is [] s x h = absurd cc
number-is (y ∷ ys) s x h =
    elim (y.number == s) as (λ b. (y.number == s) ≡ b → cond b (Some y) (session_in ys s) ≡ Some x → x.number ≡ s) [
      | true ↦ λ is got. let same : y ≡ x = cc in sym (ap (λ (z : Session). z.number) same) ∙ eqb-true y.number s is
      | false ↦ λ is got. number-is ys s x got
    ] refl h

pub low-fewer : (p : Member → Bool) (ms : List Member) → all_low ms ≡ true → all_low (filter p ms) ≡ true
low-fewer p ms low = each-all (λ (q : Member). nat_lt q.server.0 8) (filter p ms) (λ q i. all-each (λ (q : Member). nat_lt q.server.0 8) ms q low (from-filter p ms q i).0)

-- where no server went off, no master is lost
pub lost-none : (on : ℕ → Bool) (ss : List Session) → lost_since on on ss ≡ ss
lost-none on [] = refl
lost-none on (x ∷ ss) = λ i. record x { mirror = mirrors x.mirror i } ∷ lost-none on ss i
  where
    by : (r : Mirror) (b : Bool) → cond (b && not b) (record r { master = phases.lost r.master }) r ≡ r
    by r true = refl
    by r false = refl

    same-mirror : (r : Mirror) → mirror_lost_since on on r ≡ r
    same-mirror r = by r (on r.server)

    mirrors : (o : Option Mirror) → option_map (mirror_lost_since on on) o ≡ o
    mirrors None = refl
    mirrors (Some r) = ap (λ q. Some q) (same-mirror r)

-- and no epoch begins
flight-kept : (on : ℕ → Bool) (ss : List Session) (f : Flight) → messages.lost_since on on ss f ≡ f
flight-kept on ss f = λ i. record f { epoch = λ s. ap (λ b. cond b (f.epoch s + 1) (f.epoch s)) (none s) i }
  where
    -- a server isn't both on and off
    stays : (r : Mirror) → loses on on r ≡ false
    stays r = by (on r.server)
      where
        by : (b : Bool) → (b && (not b && is_lost (Some (phases.phase_lost r.master.servers)))) ≡ false
        by true = refl
        by false = refl

    keeps : (o : Option Mirror) → loses_master on on o ≡ false
    keeps None = refl
    keeps (Some r) = stays r

    none : (s : ℕ) → loses_in on on s ss ≡ false
    none s = list_any_none (λ (x : Session). x.number == s && loses_master on on x.mirror) ss (λ n x low. and_right _ _ (keeps _))

-- so nothing changes
pub losing-none : (k : Control) → losing k.on k ≡ k
losing-none k = λ i. record k { sessions = lost-none k.on k.sessions i; flight = flight-kept k.on k.sessions k.flight i }

-- ---- how many sessions there are

pub length-changed : (s : ℕ) (f : Session → Session) (ss : List Session) → length (changed s f ss) ≤ length ss
unfolding changed
length-changed s f [] = omega arith
length-changed s f (x ∷ ss) = by (x.number == s) (length-changed s f ss)
  where
    by : (b : Bool) → length (changed s f ss) ≤ length ss → length (cond b (f x ∷ ss) (x ∷ changed s f ss)) ≤ length (x ∷ ss)
    by true le = omega arith
    by false le = omega arith

pub changed-twice : (s : ℕ) (f g : Session → Session) (ss : List Session) → length (changed s f (changed s g ss)) ≤ length ss
changed-twice s f g ss =
    let one : length (changed s g ss) ≤ length ss = length-changed s g ss in
    let two : length (changed s f (changed s g ss)) ≤ length (changed s g ss) = length-changed s f (changed s g ss) in omega arith

without-fewer : (s : ℕ) (ss : List Session) → length (without_session s ss) ≤ length ss
unfolding without_session
without-fewer s [] = omega arith
without-fewer s (x ∷ ss) = by (x.number == s) (without-fewer s ss)
  where
    by : (b : Bool) → length (without_session s ss) ≤ length ss → length (cond b ss (x ∷ without_session s ss)) ≤ length (x ∷ ss)
    by true le = omega arith
    by false le = omega arith

pub length-left : (ss : List Session) (s l : ℕ) → length (left s l ss) ≤ length ss
length-left ss s l = by (session_in ss s)
  where
    by : (o : Option Session) → length (leaves o s l ss) ≤ length ss
    by None = omega arith
    by (Some x) = only (is_only l x)
      where
        only : (b : Bool) → length (cond b (without_session s ss) (changed s (left_by l) ss)) ≤ length ss
        only true = without-fewer s ss
        only false = length-changed s (left_by l) ss

-- a session is made only where there are fewer than four
pub joined-few : (ss : List Session) (s l : ℕ) → length ss ≤ 4 → join_refusal (session_in ss s) l ss ≡ None → length (joined s l ss) ≤ 4
joined-few ss s l le free = by (session_in ss s) free
  where
    new : (b : Bool) → nat_le 4 (length ss) ≡ b → cond b (Some (Limit limit.Sessions)) None ≡ None → length ss < 4
    new true is none = absurd cc
    new false is none = grind (arith, nat_tests, is)

    by : (o : Option Session) → join_refusal o l ss ≡ None → length (joins o s l ss) ≤ 4
    by None none = let lt : length ss < 4 = new (nat_le 4 (length ss)) refl none in let e : length (ss ++ new_session s l ∷ []) ≡ length ss + 1 = length-append ss (new_session s l ∷ []) in omega arith
    by (Some x) none = let few : length (changed s (joined_by l) ss) ≤ length ss = length-changed s (joined_by l) ss in omega arith
