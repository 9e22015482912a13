-- One round of a drain: what it is refused for, and what it sends.
use Rattle.std.proofs.Common.{ℕ, ◌≡◌, ◌⊎◌, inl, inr, Bool, true, false, not, cond, List, [], ◌∷◌, ◌++◌, take, refl, sym, ◌∙◌, ap, subst, Option, Some, None}
use Rattle.std.specs.Prelude.{if◌then◌else◌}
use Rattle.std.proofs.lemmas.Bool.{and_right}
use Rattle.std.proofs.lemmas.List.{append-nil}
use Rattle.dr_ids.specs.declared.refusal.Refusal.{Refusal}
use Rattle.dr_ids.specs.declared.refusal.Refusal.TheVariants.{Stopped}
use Rattle.dr_model.specs.declared.state.PairState.{PairState}
use Rattle.dr_model.specs.declared.state.PairState.TheVariants.{CopyPending, FullDuplex, Suspended}
use Rattle.dr_model.specs.Control.{Control, World}
use Rattle.dr_model.specs.Carry.{Entry, Pass, End, check}
use Rattle.dr_model.specs.Entries.{fields_at, is_running, pair_state}
use Rattle.dr_model.specs.Layout.{Tracks, is_part}
use Rattle.dr_model.specs.PairEntries.{is_copying, send_entries, sends, tracks_to_send}
use Rattle.dr_model.specs.Pairs.{is_full_duplex, is_pending}
use Rattle.dr_model.specs.ReadStops.{GoesOff, EndsNext, Ends}
use Rattle.dr_model.specs.Refusals.{server_off}
use Rattle.dr_model.specs.Relations.{lowest, in_order}
use Rattle.dr_facts.proofs.Ends.{ends-passed, ends-none}
use Rattle.dr_moves.specs.Checks.{Checked, is_stop}
use Rattle.dr_moves.proofs.EntryLemmas.{refuses}
use Rattle.dr_moves.specs.Followed.{Follows, EndsFollowed}
use Rattle.dr_gcopy.proofs.DrainLemmas.{first-some, first-none}
use Rattle.dr_failover.specs.Steps.{copying_refusal, copying_checks}

-- the one check that refuses
pub checked-why : (w : World) (ok : Control → Bool) (why e : Refusal) → Checked w (check ok why ∷ []) (Some e) → (ok w.control ≡ false) × (e ≡ why)
unfolding Ends
checked-why w ok why e checked = by (ok w.control) (checked (λ s. false) [])
  where
    by : (b : Bool) → GoesOff (λ s. false) w (Some e) w ⊎ EndsNext (λ s. false) w (Some e) w (cond b Pass (End why)) (λ v. Ends (λ s. false) w (Some e) v []) → (b ≡ false) × (e ≡ why)
    by b (inl off) = absurd (let armed = off.is_armed in cc)
    by true (inr (inl off)) = absurd (let armed = off.is_armed in cc)
    by true (inr (inr is)) = absurd (let no = is.refusal in cc)
    by false (inr is) = (refl, let same = is.refusal in cc)

module _ (w : World) (x : ℕ) where
  abbrev k : Control
  k = w.control

  -- what refuses, as checks
  pub copying-checked : (o : Option Refusal) → o ≡ copying_refusal x k → Checked w (copying_checks k x) o
  copying-checked o is = subst (λ o. Checked w (copying_checks k x) o) (sym is) (by (is_running x k) (is_copying x k) refl refl)
    where
      by : (a b : Bool) → is_running x k ≡ a → is_copying x k ≡ b → Checked w (copying_checks k x) (if not a then Some (server_off (k.volume x).server) else if not b then Some (pair_state k x) else None)
      by false b off may = λ armed ds. refuses armed w (is_running x) (server_off (k.volume x).server) (Some (server_off (k.volume x).server)) _ off refl
      by true false on may = λ armed ds. ends-passed armed w (Some (pair_state k x)) w (is_running x) (server_off (k.volume x).server) _ on (refuses armed w (is_copying x) (pair_state k x) (Some (pair_state k x)) _ may refl)
      by true true on may = λ armed u r ds more. ends-passed armed u r w (is_running x) (server_off (k.volume x).server) _ on (ends-passed armed u r w (is_copying x) (pair_state k x) _ may more)

  pub refused-off : (e : Refusal) → is_running x k ≡ false → e ≡ server_off (k.volume x).server → Some e ≡ copying_refusal x k
  refused-off e off is = ap (λ y. Some y) is ∙ sym (ap (λ a. if not a then Some (server_off (k.volume x).server) else if not (is_copying x k) then Some (pair_state k x) else None) off)

  pub refused-by : (b : Bool) → is_running x k ≡ true → is_copying x k ≡ b → (if not b then Some (pair_state k x) else None) ≡ copying_refusal x k
  refused-by b on may = λ i. if not (sym on i) then Some (server_off (k.volume x).server) else if not (sym may i) then Some (pair_state k x) else None

  pending-not : (s : PairState) → is_full_duplex s ≡ true → is_pending s ≡ false
  pending-not FullDuplex is = refl
  pending-not Suspended is = refl
  pending-not CopyPending is = absurd (let e : false ≡ true = is in cc)

  -- a primary that is Full Duplex sends nothing
  pub duplex-refused : is_full_duplex (fields_at k x).primary_state ≡ true → copying_refusal x k ≡ Some (if is_running x k then pair_state k x else server_off (k.volume x).server)
  duplex-refused is =
      let may : is_copying x k ≡ false = and_right (is_part (fields_at k x).primary) _ (pending-not (fields_at k x).primary_state is) in
      ap (λ b. if not (is_running x k) then Some (server_off (k.volume x).server) else if not b then Some (pair_state k x) else None) may ∙ by (is_running x k)
    where
      by : (a : Bool) → (if not a then Some (server_off (k.volume x).server) else Some (pair_state k x)) ≡ Some (if a then pair_state k x else server_off (k.volume x).server)
      by true = refl
      by false = refl

  pub never-duplex : {T : Type 0} → None ≡ copying_refusal x k → is_full_duplex (fields_at k x).primary_state ≡ true → T
  never-duplex none is = absurd (let e = none ∙ duplex-refused is in cc)

-- what is no stop is followed by nothing
-- behind checks that pass
pub followed-behind : (armed : ℕ → Bool) (w u : World) (cs es : List Entry) (follows : List Entry) (r : Option Refusal) → Checked w cs None → EndsFollowed armed w es follows u r → EndsFollowed armed w (cs ++ es) follows u r
followed-behind armed w u cs es follows r checked e = record { middle = e.middle; ends = checked armed e.middle r es e.ends; followed = e.followed }

-- one track is sent, or none
pub one-sent : (ids : List ℕ) (a b n t : ℕ) (s : Tracks) → Some t ≡ lowest n s → sends ids a b (tracks_to_send (Some 1) n s) ≡ send_entries ids a b t
one-sent ids a b n t s is = ap (λ xs. sends ids a b (take 1 xs)) (first-some (in_order n s) t is) ∙ append-nil (send_entries ids a b t)

pub none-sent : (ids : List ℕ) (a b n : ℕ) (s : Tracks) → None ≡ lowest n s → sends ids a b (tracks_to_send (Some 1) n s) ≡ []
none-sent ids a b n s is = ap (λ xs. sends ids a b (take 1 xs)) (first-none (in_order n s) is)

pub nothing-sent : (armed : ℕ → Bool) (w : World) (follows : List Entry) → EndsFollowed armed w [] follows w None
nothing-sent armed w follows = record { middle = w; ends = ends-none armed w None w (record { world = refl; refusal = refl }); followed = refl }
