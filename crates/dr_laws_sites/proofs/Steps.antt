-- Steps of the example in which a set of tracks decides: the host's write, the drain, and the seal. Of sets nothing computes, so each is
-- carried out as far as they decide; all else computes.
use Rattle.std.proofs.Common.{ℕ, ◌+◌, ◌≡◌, refl, ap, ◌∙◌, true, false, cond, not, ◌&&◌, ◌||◌, nat_eq, List, [], ◌∷◌, ◌++◌, length, Some, None}
use Rattle.std.proofs.Math.Bool.{and-false}
use Rattle.std.specs.FinSet.{contains, len}
use Rattle.dr_ids.specs.declared.refusal.Refusal.TheVariants.{JournalFull}
use Rattle.dr_model.specs.declared.said.Addition.TheVariants.{Counted}
use Rattle.dr_model.specs.declared.said.Said.TheVariants.{Done}
use Rattle.dr_model.specs.Layout.{Fields}
use Rattle.dr_model.specs.Control.{Control, Volume, World}
use Rattle.dr_model.specs.Entries.{fields_at, copies_from, keep_on, write_checks}
use Rattle.dr_model.specs.Relations.{in_order, is_whole, parted_if, fetched, noted}
use Rattle.dr_model.specs.Pairs.{held, goes_over, is_cascaded}
use Rattle.dr_model.specs.Phases as phases
use Rattle.dr_model.specs.Sessions.{changed, with_master}
use Rattle.dr_model.specs.SessionEntries.{seal_entries, seal_on, void_refusal, seal_refusal}
use Rattle.dr_model.specs.SessionPlans.{exchanged, says_phase}
use Rattle.dr_model.specs.WriteEntries.{partner_of, is_parted, is_held_back, land_fed, landing}
use Rattle.dr_model.specs.PairEntries.{send_refusal, flashed_refusal, suspend_where, store_on, strike_on, refuse_if, end_if, drain_stretches, suspend_after}
use Rattle.dr_model.specs.PlanParts.{Plan, same, none_follow, always, refuses, unless}
use Rattle.dr_model.specs.Plans.{has_room, issue_refusal, write_done, drain_plan, drain_checks}
use Rattle.dr_model.specs.Moves.{Keep, Note, Seal}
use Rattle.dr_model.specs.Carry.{Make, Pass, Do, Entry, Outcome, Turn, act, turn, turn_ended, update_keeping, carry, go, entries_in, follows_at}
use Rattle.dr_model.specs.Carried.{begun, finish, answered, said, after_plan, masters_lost, stop_place}
use Rattle.dr_model.specs.Runs.{course, after_task}
use Rattle.dr_model.specs.Messages.{heard}
use Rattle.dr_model.proofs.CarryLemmas.{carry-first, carry-skips, carry-goes, plan-ends}
use Rattle.dr_facts.proofs.Sets.{if_true, if_false}
use Rattle.dr_laws_sites.specs.Example.{wrote, drain, exchange, its_member}

-- ---- the write

-- a host write that goes over to a cascaded secondary
fed-is : (k : Control) (n v t : ℕ) → held (fields_at k v) ≡ false → goes_over (fields_at k v) t ≡ true → is_parted k v ≡ false → is_held_back k v ≡ false → is_cascaded (fields_at k (partner_of k v)) ≡ true
    → landing k n v t ≡ write_checks k n v ++ land_fed k.volumes n v t (partner_of k v) (partner_of k (partner_of k v))
fed-is k n v t free over reached loose cascaded =
    ap (λ ds. write_checks k n v ++ ds) (if_false _ _ free ∙ (if_true _ _ over ∙ (if_false _ _ reached ∙ (if_false _ _ loose ∙ if_true _ _ cascaded))))

-- the write by its entries
abbrev writes : ℕ → Control → List Entry → Plan
writes b k ds = record (write_done k 4096 0 0 1 (b ∷ [])) { entries = ds }

abbrev pub written : ℕ → World → World
written b w =
    let k : Control = w.control in
    masters_lost w (after_plan w 1 (writes b k (write_checks k (k.issued + 1) 4096 ++ land_fed k.volumes (k.issued + 1) 4096 0 (partner_of k 4096) (partner_of k (partner_of k 4096)))))

pub record MayWrite (w : World) : Type 0 where
  pub room : has_room w.events ≡ true
  pub issued : issue_refusal w.control 4096 0 ≡ None
  pub free : held (fields_at w.control 4096) ≡ false
  pub over : goes_over (fields_at w.control 4096) 0 ≡ true
  pub reached : is_parted w.control 4096 ≡ false
  pub loose : is_held_back w.control 4096 ≡ false
  pub cascaded : is_cascaded (fields_at w.control (partner_of w.control 4096)) ≡ true

pub write-is : (b : ℕ) (w : World) → MayWrite w → after_task w (wrote b) ≡ written b w
write-is b w f =
    let k : Control = w.control in
    ap (λ c. masters_lost w (after_plan w 1 (cond c (unless (issue_refusal k 4096 0) (write_done k 4096 0 0 1 (b ∷ []))) (refuses JournalFull)))) f.room
    ∙ (ap (λ r. masters_lost w (after_plan w 1 (unless r (write_done k 4096 0 0 1 (b ∷ []))))) f.issued
    ∙ ap (λ ds. masters_lost w (after_plan w 1 (writes b k ds))) (fed-is k (k.issued + 1) 4096 0 f.free f.over f.reached f.loose f.cascaded))

-- ---- the drain

-- by the tracks that are sent
abbrev pub sends : Control → List ℕ → Plan
sends k ts = record {
  first = same;
  told = [];
  entries = drain_checks k 8192 ++ entries_in (drain_stretches k 8192 ts);
  follows = follows_at (record { entries = drain_checks k 8192; follows = suspend_after 8192 } ∷ drain_stretches k 8192 ts);
  last = same;
  says = always (Done (Counted (length ts)));
}

-- entries that come to nothing
abbrev pub AllPass : Control → List Entry → Type 0
AllPass k [] = Unit {0}
AllPass k (d ∷ ds) = (d k ≡ Pass) × AllPass k ds

carry-passes : (w : World) (ds rest : List Entry) → AllPass w.control ds → carry w (ds ++ rest) ≡ carry w rest
carry-passes w [] rest all = refl
carry-passes w (d ∷ ds) rest all = carry-skips w d (ds ++ rest) all.0 ∙ carry-passes w ds rest all.1

-- what comes before target 4000 keeps its track, and what comes after
abbrev pub firsts : Control → List Entry
firsts k =
    drain_checks k 8192
    ++ suspend_where (send_refusal 8192 12288) 8192 ∷ refuse_if (send_refusal 8192 12288) ∷ refuse_if (flashed_refusal 12288)
    ∷ keep_on 12288 0 4096 ∷ keep_on 12288 0 8192 ∷ keep_on 12288 0 12288 ∷ []

abbrev pub lasts : List Entry
lasts = store_on 8192 12288 0 ∷ strike_on 8192 0 ∷ []

-- a persistent target keeps a track that it doesn't hold
keep-on : (k : Control) (v t u : ℕ) → (copies_from v (fields_at k u) && not (fields_at k u).reversing) ≡ true → contains (fields_at k u).own t ≡ false → keep_on v t u k ≡ Do (Make (Keep u t))
keep-on k v t u copies lacks =
    let f : Fields = fields_at k u in
    if_true _ _ copies ∙ ap (λ c. cond (not c) (Do (Make (Keep u t))) (cond (f.recorded && not (contains f.source_changes t)) (Do (Make (Note u t))) Pass)) lacks

abbrev pub keeps : World → ℕ → ℕ → Turn
keeps w u t =
    let x : Volume = w.control.volume u in
    turn_ended w (Keep u t) (update_keeping true w u (parted_if false (noted (fetched x.fields t) t)) (Some (t, w.contents x.fields.source t)))

keep-is : (w : World) (u t : ℕ) → (fields_at w.control u).persistent ≡ true → act w (Make (Keep u t)) ≡ keeps w u t
unfolding act turn
keep-is w u t stays =
    let x : Volume = w.control.volume u in
    let g : Fields = noted (fetched x.fields t) t in
    ap (λ b. turn_ended w (Keep u t) (update_keeping true w u (parted_if b g) (Some (t, w.contents x.fields.source t))))
    (ap (λ p. is_whole x.tracks g.own && not p) stays ∙ and-false (is_whole x.tracks g.own))

-- the world as the target has kept its track, and how the drain ends from there
abbrev kept : World → World
kept w = (keeps (begun w (sends w.control (0 ∷ []))) 16384 0).0

abbrev drain_ends : World → Outcome
drain_ends w = carry (kept w) lasts

-- as it is answered
abbrev drain_answered : World → Plan → Outcome → World
drain_answered w p o = said (finish p (stop_place w p) o.0 o.1) 1 (answered p (finish p (stop_place w p) o.0 o.1).control o.1)

abbrev pub drained : World → World
drained w = masters_lost w (drain_answered w (sends w.control (0 ∷ [])) (drain_ends w))

pub record MayDrain (w : World) : Type 0 where
  pub room : has_room w.events ≡ true
  pub left : in_order (w.control.volume 8192).tracks (fields_at w.control 8192).out_of_sync ≡ 0 ∷ []
  pub entries : (sends w.control (0 ∷ [])).entries ≡ firsts w.control ++ keep_on 12288 0 16384 ∷ lasts
  pub pass : AllPass w.control (firsts w.control)
  pub copies : (copies_from 12288 (fields_at w.control 16384) && not (fields_at w.control 16384).reversing) ≡ true
  pub lacks : contains (fields_at w.control 16384).own 0 ≡ false
  pub stays : (fields_at w.control 16384).persistent ≡ true
  pub well : (keeps (begun w (sends w.control (0 ∷ []))) 16384 0).1 ≡ None

module _ (w : World) (f : MayDrain w) where
  abbrev p : Plan
  p = sends w.control (0 ∷ [])

  keeps-is : act (begun w p) (Make (Keep 16384 0)) ≡ (kept w, None)
  keeps-is = keep-is (begun w p) 16384 0 f.stays ∙ ap (λ s. (kept w, s)) f.well

  drain-ends : carry (begun w p) p.entries ≡ drain_ends w
  drain-ends =
      ap (carry (begun w p)) f.entries
      ∙ (carry-passes (begun w p) (firsts w.control) (keep_on 12288 0 16384 ∷ lasts) f.pass
      ∙ carry-goes (begun w p) (kept w) (keep_on 12288 0 16384) lasts (Make (Keep 16384 0)) (keep-on w.control 12288 0 16384 f.copies f.lacks) keeps-is)

  pub drain-is : after_task w drain ≡ drained w
  drain-is =
      ap (λ c. masters_lost w (after_plan w 1 (cond c (drain_plan w.control 8192 None) (refuses JournalFull)))) f.room
      ∙ (ap (λ ts. masters_lost w (after_plan w 1 (sends w.control ts))) f.left
      ∙ ap (masters_lost w) (plan-ends w 1 p (drain_ends w) drain-ends))

-- ---- the seal

abbrev pub sealing : Plan
sealing = record { first = same; told = []; entries = seal_entries 1 8192 12288 1; follows = none_follow; last = exchanged 1 1 true phases.Seal (its_member ∷ []); says = says_phase 1 }

-- the world after the one move that it makes
abbrev pub seal_made : World → Outcome
seal_made w = go (begun w sealing) (Do (Make (Seal 12288 8192 1 1))) (λ v. carry v [])

abbrev pub seal_control : World → Control
seal_control w =
    let k : Control = (seal_made w).0.control in
    record k { sessions = changed 1 (with_master (λ r. phases.taken r 1 phases.Done)) k.sessions; flight = heard 1 1 (k.flight.epoch 1) phases.Seal k.flight }

-- and as it is answered
abbrev pub sealed : World → World
sealed w = masters_lost w (said (record (seal_made w).0 { control = seal_control w }) 1 (says_phase 1 (seal_control w)))

-- what is to be seen of the world in which it begins
pub record MaySeal (w : World) : Type 0 where
  pub plan : (course w exchange).last.plan ≡ sealing
  pub first : refuse_if (void_refusal 8192 1) (begun w sealing).control ≡ Pass
  pub bare : len (fields_at (begun w sealing).control 8192).out_of_sync ≡ 0
  pub reached : send_refusal 8192 12288 (begun w sealing).control ≡ None
  pub unsealed : nat_eq (fields_at (begun w sealing).control 12288).seal 1 ≡ false
  pub well : (seal_made w).1 ≡ None
  pub bare_then : len (fields_at (seal_made w).0.control 8192).out_of_sync ≡ 0

module _ (w : World) (f : MaySeal w) where
  abbrev b : World
  b = begun w sealing

  second-is : refuse_if (seal_refusal 8192 12288) b.control ≡ Pass
  second-is = ap (λ n. end_if (cond (nat_eq n 0) (send_refusal 8192 12288 b.control) None)) f.bare ∙ ap end_if f.reached

  third-is : seal_on 1 8192 12288 1 b.control ≡ Do (Make (Seal 12288 8192 1 1))
  third-is = ap (λ n. cond (nat_eq n 0 && not (nat_eq (fields_at b.control 12288).seal 1)) (Do (Make (Seal 12288 8192 1 1))) Pass) f.bare ∙ ap (λ c. cond (true && not c) (Do (Make (Seal 12288 8192 1 1))) Pass) f.unsealed

  made-is : carry b sealing.entries ≡ seal_made w
  made-is =
      carry-skips b (refuse_if (void_refusal 8192 1)) (refuse_if (seal_refusal 8192 12288) ∷ seal_on 1 8192 12288 1 ∷ []) f.first
      ∙ (carry-skips b (refuse_if (seal_refusal 8192 12288)) (seal_on 1 8192 12288 1 ∷ []) second-is
      ∙ carry-first b (seal_on 1 8192 12288 1) [] (Do (Make (Seal 12288 8192 1 1))) third-is)

  control-is : sealing.last (seal_made w).0.control ≡ seal_control w
  control-is =
      let k : Control = (seal_made w).0.control in
      ap (λ n. record k { sessions = changed 1 (with_master (λ r. phases.taken r 1 (cond (not (nat_eq n 0) || false) phases.NotYet phases.Done))) k.sessions; flight = heard 1 1 (k.flight.epoch 1) phases.Seal k.flight }) f.bare_then

  answered-is : after_plan w 1 sealing ≡ said (record (seal_made w).0 { control = sealing.last (seal_made w).0.control }) 1 (says_phase 1 (sealing.last (seal_made w).0.control))
  answered-is =
      plan-ends w 1 sealing (seal_made w) made-is
      ∙ ap (λ r. said (finish sealing (stop_place w sealing) (seal_made w).0 r) 1 (answered sealing (finish sealing (stop_place w sealing) (seal_made w).0 r).control r)) f.well

  pub seal-is : after_task w exchange ≡ sealed w
  seal-is =
      ap (λ (p : Plan). masters_lost w (after_plan w 1 p)) f.plan ∙ ap (masters_lost w) answered-is
      ∙ ap (λ (k : Control). masters_lost w (said (record (seal_made w).0 { control = k }) 1 (says_phase 1 k))) control-is
