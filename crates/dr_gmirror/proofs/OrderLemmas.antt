-- Orders over members, one by one.
use Rattle.std.proofs.Common.{ℕ, zero, suc, ◌≡◌, ◌≤◌, ◌<◌, ◌+◌, Bool, true, false, ◌&&◌, ◌||◌, cond, arith, List, [], ◌∷◌, ◌++◌, length, take, drop, slice_get, refl, sym, ◌∙◌, ap, subst, Option, Some}
use Rattle.std.specs.Prelude.{if◌then◌else◌, is_some}
use Rattle.std.specs.List.{list_any}
use Rattle.std.proofs.lemmas.List.{append-nil}
use Rattle.std.proofs.lemmas.List.Elements.{filter-append}
use Rattle.std.proofs.lemmas.List.Folds.{list_any-append}
use Rattle.std.proofs.lemmas.Grind.{flat_map-append}
use Rattle.std.proofs.Math.Bool.{or-true}
use Rattle.dr_ids.specs.declared.names.Member.{Member}
use Rattle.dr_ids.specs.declared.refusal.Refusal.{Refusal}
use Rattle.dr_bits.specs.Tracks.{Tracks}
use Rattle.dr_plant.specs.State.{PlantState}
use Rattle.dr_config.specs.Table.{ConfigTable}
use Rattle.dr_model.specs.declared.event.Event.{Event}
use Rattle.dr_model.specs.Phases as phases
use Rattle.dr_model.specs.Control.{World}
use Rattle.dr_model.specs.Carry.{Entry}
use Rattle.dr_model.specs.SessionEntries.{member_entries, is_on, members_on, order_entries, reply_after}
use Rattle.dr_volume.specs.View.{Rest}
use Rattle.dr_moves.specs.Here.{world_seen}
use Rattle.dr_moves.specs.Turns.{Leads, Fails}
use Rattle.dr_gcopy.proofs.SendLemmas.{fails-wider}
use Rattle.dr_gcopy.proofs.TwoMoves.{server-stays}
use Rattle.dr_gmirror.specs.Orders.{IsMemberReady, is_seal, is_report, sync_seen, must_wait, waits_in}
use Rattle.dr_moves.proofs.LeadLemmas.{then-leads, then-fails, fails-first}

-- one member on the server
pub entries-on : (work : phases.Work) (s n server : ℕ) (m : Member) → is_on server m ≡ true → order_entries work s n (members_on server (m ∷ [])) ≡ member_entries work s n m
entries-on work s n server m is = ap (λ b. order_entries work s n (cond b (m ∷ []) [])) is ∙ append-nil (member_entries work s n m)

-- one member more
pub entries-more : (work : phases.Work) (s n server : ℕ) (xs ys : List Member) → order_entries work s n (members_on server (xs ++ ys)) ≡ order_entries work s n (members_on server xs) ++ order_entries work s n (members_on server ys)
entries-more work s n server xs ys =
    ap (order_entries work s n) (filter-append (is_on server) xs ys) ∙ flat_map-append (member_entries work s n) (members_on server xs) (members_on server ys)

either-and : (a b c : Bool) → (a && (b || c)) ≡ ((a && b) || (a && c))
either-and true b c = refl
either-and false b c = refl

pub waits-more : (work : phases.Work) (sync : ℕ → Tracks) (xs ys : List Member) → waits_in work sync (xs ++ ys) ≡ (waits_in work sync xs || waits_in work sync ys)
waits-more work sync xs ys = ap (λ b. is_seal work && b) (list_any-append (must_wait sync) xs ys) ∙ either-and (is_seal work) _ _

-- of a seal nothing more is out of sync, and nothing else has to wait
pub waits-kept : (work : phases.Work) (now next : ℕ → Tracks) (ms : List Member) → (is_seal work ≡ true → (q : ℕ) → next q ≡ now q) → waits_in work next ms ≡ waits_in work now ms
waits-kept work now next ms kept = elim (is_seal work) as (λ b. (b ≡ true → (q : ℕ) → next q ≡ now q) → (b && list_any (must_wait next) ms) ≡ (b && list_any (must_wait now) ms)) [
  | true ↦ λ same. let is : next ≡ now = (λ i q. same refl q i) in ap (λ f. list_any (must_wait f) ms) is
  | false ↦ λ same. refl
] kept

-- a list up to the next place
pub member-next : (ms : List Member) (i : ℕ) (m : Member) → Some m ≡ slice_get ms i → take (i + 1) ms ≡ take i ms ++ m ∷ []
member-next ms i m at = ap (λ k. take k ms) (let e : i + 1 ≡ suc i = omega arith in e) ∙ next ms i at
  where
    next : (ms : List Member) (i : ℕ) → Some m ≡ slice_get ms i → take (suc i) ms ≡ take i ms ++ m ∷ []
    next [] i h = absurd cc
    next (x ∷ xs) zero h = let e : x ≡ m = cc in ap (λ z. z ∷ []) e
    next (x ∷ xs) (suc i) h = ap (λ ys. x ∷ ys) (next xs i h)

pub member-there : (ms : List Member) (i : ℕ) (o : Option Member) → o ≡ slice_get ms i → i < length ms → is_some o ≡ true
member-there ms i o is low = ap is_some is ∙ there ms i low
  where
    there : (ms : List Member) (i : ℕ) → i < length ms → is_some (slice_get ms i) ≡ true
    there [] i low = absurd (omega (arith, low))
    there (x ∷ xs) zero low = refl
    there (x ∷ xs) (suc i) low = there xs i (omega (arith, low))

-- a member is ready on a later plant, too
pub still-ready : (s u : PlantState) (t : ConfigTable) (m : Member) → IsMemberReady s t m → IsMemberReady u t m
still-ready s u t m ready = record {
  primary = ready.primary;
  secondary = ready.secondary;
  target = ready.target;
  server = server-stays s u t m.a.0 ready.primary ∙ ready.server;
  together = server-stays s u t m.c.0 ready.target ∙ ready.together ∙ sym (server-stays s u t m.b.0 ready.secondary);
}

-- what is replied

pub reply-is : (k : ℕ) (work : phases.Work) (s : PlantState) (t : ConfigTable) (ms : List Member) (waits : Bool) (reply : phases.Reply) → is_report work ≡ false → waits ≡ waits_in work (sync_seen s t) ms → reply ≡ (if waits then phases.NotYet else phases.Done) → (r : Rest) (events : List Event) → reply ≡ reply_after k work ms (world_seen s t r events).control
reply-is k phases.Seal s t ms waits reply other is says r events = says ∙ ap (λ b. if b then phases.NotYet else phases.Done) is
reply-is k phases.Hold s t ms waits reply other is says r events = says ∙ ap (λ b. if b then phases.NotYet else phases.Done) is
reply-is k phases.Release s t ms waits reply other is says r events = says ∙ ap (λ b. if b then phases.NotYet else phases.Done) is
reply-is k phases.Flash s t ms waits reply other is says r events = says ∙ ap (λ b. if b then phases.NotYet else phases.Done) is
reply-is k phases.Commit s t ms waits reply other is says r events = says ∙ ap (λ b. if b then phases.NotYet else phases.Done) is
reply-is k phases.Revert s t ms waits reply other is says r events = says ∙ ap (λ b. if b then phases.NotYet else phases.Done) is
reply-is k phases.Finish s t ms waits reply other is says r events = says ∙ ap (λ b. if b then phases.NotYet else phases.Done) is
reply-is k phases.Report s t ms waits reply other is says r events = absurd cc

-- a list from its parts, and all of it
pub member-split : (ms : List Member) (i : ℕ) (m : Member) → Some m ≡ slice_get ms i → ms ≡ take i ms ++ (m ∷ [] ++ drop (suc i) ms)
member-split [] i m h = absurd cc
member-split (x ∷ xs) zero m h = let e : x ≡ m = cc in ap (λ z. z ∷ xs) e
member-split (x ∷ xs) (suc i) m h = ap (λ ys. x ∷ ys) (member-split xs i m h)

pub member-all : (ms : List Member) (i : ℕ) → length ms ≤ i → take i ms ≡ ms
member-all [] zero all = refl
member-all [] (suc i) all = refl
member-all (x ∷ xs) zero all = absurd (omega (arith, all))
member-all (x ∷ xs) (suc i) all = ap (λ ys. x ∷ ys) (member-all xs i (omega (arith, all)))

module _ (work : phases.Work) (s n server : ℕ) where
  abbrev entries : List Member → List Entry
  entries ms = order_entries work s n (members_on server ms)

  -- one member more was done
  pub order-next : (w v u : World) (ms : List Member) (i : ℕ) (m : Member) → Some m ≡ slice_get ms i → Leads w (entries (take i ms)) v → Leads v (entries (m ∷ [])) u → Leads w (entries (take (i + 1) ms)) u
  order-next w v u ms i m at first more =
      subst (λ es. Leads w es u) (sym (ap entries (member-next ms i m at) ∙ entries-more work s n server (take i ms) (m ∷ []))) (then-leads w v u (entries (take i ms)) (entries (m ∷ [])) first more)

  -- the next one failed, where fuses may be fewer
  pub order-fails : (armed more : ℕ → Bool) → ((q : ℕ) → armed q ≡ true → more q ≡ true) → (w v u : World) (r : Option Refusal) (ms : List Member) (i : ℕ) (m : Member) → Some m ≡ slice_get ms i → Leads w (entries (take i ms)) v → Fails armed v (entries (m ∷ [])) u r → Fails more w (entries ms) u r
  order-fails armed more wider w v u r ms i m at first fails =
      subst (λ es. Fails more w es u r)
      (sym (ap entries (member-split ms i m at) ∙ entries-more work s n server (take i ms) (m ∷ [] ++ drop (suc i) ms) ∙ ap (λ es. entries (take i ms) ++ es) (entries-more work s n server (m ∷ []) (drop (suc i) ms))))
      (then-fails more w v u r (entries (take i ms)) (entries (m ∷ []) ++ entries (drop (suc i) ms)) first
      (fails-first more v u r (entries (m ∷ [])) (entries (drop (suc i) ms)) (fails-wider armed more wider v u r (entries (m ∷ [])) fails)))

pub any-hit : (p : Member → Bool) (ms : List Member) (i : ℕ) (m : Member) → Some m ≡ slice_get ms i → p m ≡ true → true ≡ list_any p ms
any-hit p ms i m at hit =
    sym (ap (list_any p) (member-split ms i m at) ∙ list_any-append p (take i ms) (m ∷ drop (suc i) ms) ∙ ap (λ b. list_any p (take i ms) || (b || list_any p (drop (suc i) ms))) hit ∙ or-true (list_any p (take i ms)))

pub any-miss : (p : Member → Bool) (ms : List Member) (i : ℕ) (m : Member) → Some m ≡ slice_get ms i → list_any p (take i ms) ≡ false → p m ≡ false → list_any p (take (i + 1) ms) ≡ false
any-miss p ms i m at none miss =
    ap (list_any p) (member-next ms i m at) ∙ list_any-append p (take i ms) (m ∷ []) ∙ (λ k. none k || (miss k || false))

-- an order that asks what members show is a report
pub report-only : (w : phases.Work) → true ≡ is_report w → w ≡ phases.Report
report-only phases.Report h = refl
report-only phases.Hold h = absurd cc
report-only phases.Release h = absurd cc
report-only phases.Seal h = absurd cc
report-only phases.Flash h = absurd cc
report-only phases.Commit h = absurd cc
report-only phases.Revert h = absurd cc
report-only phases.Finish h = absurd cc
