-- Primaries that were drained have nothing left to send, and that stays so while others are drained and secondaries are sealed.
use Rattle.std.proofs.Common.{ℕ, ◌≡◌, ◌≤◌, ◌⊎◌, inl, inr, refl, ap, sym, ◌∙◌, subst, Bool, true, false, cond, not, ◌&&◌, ◌||◌, nat_eq, arith, List, [], ◌∷◌, Option, Some, None}
use Rattle.std.specs.FinSet.{contains, len}
use Rattle.std.specs.List.{list_any}
use Rattle.std.proofs.lemmas.Bool.{and_parts, and_from, eq-eqb}
use Rattle.dr_ids.specs.declared.names.Member.{Member}
use Rattle.dr_ids.specs.declared.refusal.Refusal.{Refusal}
use Rattle.dr_ids.specs.declared.refusal.Refusal.TheVariants.{Void}
use Rattle.dr_model.specs.Layout.{Tracks, Fields, is_part}
use Rattle.dr_model.specs.Relations.{is_bare, in_order}
use Rattle.dr_model.specs.Pairs.{is_pending, records, is_cascaded}
use Rattle.dr_model.specs.Control.{Control, Fuse, Volume, World}
use Rattle.dr_model.specs.Sessions.{Session}
use Rattle.dr_model.specs.Moves.{Move, Keep, Note, Store, Strike, Suspend, Seal, target, fields_left}
use Rattle.dr_model.specs.Carry.{Act, Make, Entry, Outcome, carry, go, entries_in}
use Rattle.dr_model.specs.Entries.{fields_at, is_running}
use Rattle.dr_model.specs.PairEntries.{end_if, refuse_if, send_refusal, sends, flashed_refusal, is_copying, suspend_after, feeds, held_refusal}
use Rattle.dr_model.specs.SessionEntries.{void_refusal, is_drained, seal_refusal, seal_on, member_entries, order_entries}
use Rattle.dr_model.specs.Phases as phases
use Rattle.dr_model.specs.Plans.{Plan, drain_plan, is_defined, same}
use Rattle.dr_model.specs.Forming.{Way, goes_on, part, drains}
use Rattle.dr_model.specs.Groups.{In}
use Rattle.dr_model.specs.Laws.{Sound, Recorders}
use Rattle.dr_model.specs.Table.{table}
use Rattle.dr_model.proofs.CarryLemmas.{carry-first}
use Rattle.dr_facts.proofs.Tables.{at_cases}
use Rattle.dr_laws_sound.proofs.Turns.{after_act}
use Rattle.dr_laws_sound.proofs.Spends.{len-low}
use Rattle.dr_laws_sound.proofs.FitsFlash.{as_begun}
use Rattle.dr_laws_sound.proofs.FitsPairs.{row, part-same}
use Rattle.dr_laws_sound.proofs.Parts.{comes-drain}
use Rattle.dr_laws_sound.proofs.Steps.{sound-part}
use Rattle.dr_facts.proofs.Entries.{any_world, any_reason, why-any, fine-one, fine-flat, fine-check}
use Rattle.dr_facts.proofs.SharedEntries.{where-fine, sends-fine, feeds-fine}
use Rattle.dr_laws_recovery.proofs.Emptied.{drain-empties}
use Rattle.dr_laws_recovery.proofs.Went.{Each, each-refuse, carry-keeps, Split, carry-split, Went, part-went, goes-onward}
use Rattle.dr_model.proofs.LawfulLemmas.{removed}
use Rattle.dr_facts.proofs.Parts.{global-part}
use Rattle.dr_facts.proofs.Refusals.{met}
use Rattle.dr_logic.proofs.Truth.{false_true}
use Rattle.dr_logic.proofs.Options.{none_some}
use Rattle.dr_laws_recovery.proofs.Collisions.{written-out}

-- ---- moves that leave nothing more to send

-- of a drain
abbrev Sends : Move → Type 0
Sends (Keep v t) = Unit {0}
Sends (Note v t) = Unit {0}
Sends (Store v t u last) = Unit {0}
Sends (Strike v t last) = Unit {0}
Sends (Suspend v busy) = Unit {0}
Sends m = ⊥

abbrev IsSend : World → Act → Type 0
IsSend w (Make m) = Sends m
IsSend w a = ⊥

-- a primary in Copy Pending that records has nothing to send
abbrev pub SentAll : Fields → Type 0
SentAll f = f.recording ≡ true → (is_part f.primary && is_pending f.primary_state) ≡ true → (q : ℕ) → contains f.out_of_sync q ≡ true → ⊥

sent-move : (m : Move) (u : Volume) → Sends m → SentAll u.fields → SentAll (fields_left m u)
sent-move (Keep v t) u is old = old
sent-move (Note v t) u is old = old
sent-move (Store v t from last) u is old = λ r h q c. old r h q (sym (ap (λ s. contains s q) (written-out u.fields t r)) ∙ c)
sent-move (Strike v t true) u is old = λ r h. let no : false ≡ true = (and_parts (is_part u.fields.primary) false h).1 in absurd cc
sent-move (Strike v t false) u is old = λ r h q c. old r h q (removed u.fields.out_of_sync t q c)
sent-move (Suspend v busy) u is old = λ r h. let no : false ≡ true = (and_parts (is_part u.fields.primary) false h).1 in absurd cc
sent-move m u is old = absurd is

sent-act : (a : ℕ) (w : World) (x : Act) (f : Option Fuse) → IsSend w x → SentAll (fields_at w.control a) → SentAll (fields_at (after_act w x f).control a)
sent-act a w (Make m) f is old =
    at_cases (λ j (y : Volume). SentAll (fields_at w.control j) → SentAll y.fields) w.control.volume (target m) (row w m f) (sent-move m (w.control.volume (target m)) is) (λ q ne h. h) a old
sent-act a w x f is old = absurd is

-- and nothing of the sessions changes
sessions-act : (ss : List Session) (w : World) (x : Act) (f : Option Fuse) → IsSend w x → w.control.sessions ≡ ss → (after_act w x f).control.sessions ≡ ss
sessions-act ss w (Make m) f is old = old
sessions-act ss w x f is old = absurd is

-- ---- a primary is drained

fine-drain : (k : Control) (a : ℕ) → Each IsSend (drain_plan k a None).entries
fine-drain k a =
    fine-check any_world IsSend any_reason (is_defined a) _ _ tt (fine-check any_world IsSend any_reason (is_running a) _ _ tt (fine-check any_world IsSend any_reason (is_copying a) _ _ tt
    (by (is_cascaded (fields_at k b)) (in_order (k.volume a).tracks (fields_at k a).out_of_sync))))
  where
    b : ℕ
    b = (fields_at k a).primary_partner

    by : (c : Bool) (ts : List ℕ) → Each IsSend (entries_in (cond c (feeds k.volumes a b (fields_at k b).primary_partner ts) (record { entries = sends k.volumes a b ts; follows = suspend_after a } ∷ [])))
    by true ts =
        feeds-fine any_world IsSend any_reason (λ u t w any. tt) (λ u t w any. tt) k.volumes a b (fields_at k b).primary_partner (λ w any. tt) (λ t last w any. tt) (λ t last w any. tt) (λ w any. tt) (λ t last w any. tt) (λ t last w any. tt)
        (λ j. why-any (send_refusal _ _ j)) (λ j. why-any (flashed_refusal _ j)) (λ j. why-any (held_refusal _ j)) ts
    by false ts = sends-fine any_world IsSend any_reason (λ u t w any. tt) (λ u t w any. tt) k.volumes a b (λ w any. tt) (λ t last w any. tt) (λ t last w any. tt) (λ j. why-any (send_refusal _ _ j)) (λ j. why-any (flashed_refusal _ j)) ts

-- What drains leave where none of them was refused: the sessions are as they were, who had nothing to send has nothing to send, and nor have those
-- that were drained.
pub record Drained (w : World) (ms : List Member) (u : World) : Type 0 where
  pub sound : Sound u
  pub sessions : u.control.sessions ≡ w.control.sessions
  pub stays : (a : ℕ) → SentAll (fields_at w.control a) → SentAll (fields_at u.control a)
  pub drained : (m : Member) → In m ms → SentAll (fields_at u.control m.a.0)

module _ (w : World) (s : Sound w) (m : Member) where
  -- one of them
  drain-one : (part w (drain_plan w.control m.a.0 None)).refusal ≡ None → Drained w (m ∷ []) (part w (drain_plan w.control m.a.0 None)).world
  drain-one none =
      let a : ℕ = m.a.0 in
      let p : Plan = drain_plan w.control a None in
      let went : Went w p.entries p.follows same p.says (λ k. refl) (part w p).world = part-went w p.entries p.follows same p.says (λ k. refl) none in
      let dry : SentAll (fields_at (part w p).world.control a) = subst (λ (u : World). SentAll (fields_at u.control a)) (sym went.is) (λ r h q c. false_true (drain-empties w s a went.led went.leads q) c) in
      record {
        sound = subst Sound (sym went.after) (sound-part w p (comes-drain w a went.room) s);
        sessions = ap (λ (u : World). u.control.sessions) went.is ∙ carry-keeps IsSend (λ u. u.control.sessions ≡ w.control.sessions) (sessions-act w.control.sessions) (as_begun w) went.led p.entries (fine-drain w.control a) went.leads refl;
        stays = λ j h. subst (λ (u : World). SentAll (fields_at u.control j)) (sym went.is) (carry-keeps IsSend (λ u. SentAll (fields_at u.control j)) (sent-act j) (as_begun w) went.led p.entries (fine-drain w.control a) went.leads h);
        drained = λ q here. by (part w p).world q here dry;
      }
    where
      by : (u : World) (q : Member) → In q (m ∷ []) → SentAll (fields_at u.control m.a.0) → SentAll (fields_at u.control q.a.0)
      by u q (inl is) h = subst (λ (z : Member). SentAll (fields_at u.control z.a.0)) (sym is) h
      by u q (inr none) h = absurd none

drained-then : (w v u : World) (m : Member) (ms : List Member) → Drained w (m ∷ []) v → Drained v ms u → Drained w (m ∷ ms) u
drained-then w v u m ms one rest = record {
  sound = rest.sound;
  sessions = rest.sessions ∙ one.sessions;
  stays = λ a h. rest.stays a (one.stays a h);
  drained = by;
}
  where
    by : (q : Member) → In q (m ∷ ms) → SentAll (fields_at u.control q.a.0)
    by q (inl is) = rest.stays q.a.0 (one.drained q (inl is))
    by q (inr there) = rest.drained q there

-- one that isn't in Copy Pending is passed over
drained-passed : (w : World) (s : Sound w) (m : Member) → is_copying m.a.0 w.control ≡ false → Drained w (m ∷ []) w
drained-passed w s m not_so = record { sound = s; sessions = refl; stays = λ a h. h; drained = by }
  where
    by : (q : Member) → In q (m ∷ []) → SentAll (fields_at w.control q.a.0)
    by q (inl is) = λ r h. false_true (ap (λ (z : Member). is_copying z.a.0 w.control) is ∙ not_so) h
    by q (inr none) = absurd none

pub drains-drained : (w : World) (s : Sound w) (ms : List Member) → (drains w ms).refusal ≡ None → Drained w ms (drains w ms).world
unfolding drains
drains-drained w s [] none = record { sound = s; sessions = refl; stays = λ a h. h; drained = λ m h. absurd h }
drains-drained w s (m ∷ ms) none = by (is_copying m.a.0 w.control) refl (λ v y h. drains-drained v y ms h) none
  where
    x : Way
    x = part w (drain_plan w.control m.a.0 None)

    by : (b : Bool) → is_copying m.a.0 w.control ≡ b → ((v : World) → Sound v → (drains v ms).refusal ≡ None → Drained v ms (drains v ms).world) → (cond b (goes_on x.parts x.world x.refusal (λ v. drains v ms)) (drains w ms)).refusal ≡ None → Drained w (m ∷ ms) (cond b (goes_on x.parts x.world x.refusal (λ v. drains v ms)) (drains w ms)).world
    by true copying more none =
        let on = goes-onward x.parts x.world x.refusal (λ v. drains v ms) none in
        let one : Drained w (m ∷ []) x.world = drain-one w s m on.first in
        subst (Drained w (m ∷ ms)) (sym on.world) (drained-then w x.world (drains x.world ms).world m ms one (more x.world one.sound on.rest))
    by false passes more none = drained-then w w (drains w ms).world m ms (drained-passed w s m passes) (more w s none)

-- ---- secondaries are sealed

abbrev Seals : Move → Type 0
Seals (Seal v a s n) = Unit {0}
Seals m = ⊥

abbrev IsSeal : World → Act → Type 0
IsSeal w (Make m) = Seals m
IsSeal w a = ⊥

-- a seal leaves what is still to be sent
seal-act : (a : ℕ) (w : World) (x : Act) (f : Option Fuse) → IsSeal w x → SentAll (fields_at w.control a) → SentAll (fields_at (after_act w x f).control a)
seal-act a w (Make (Seal v u s n)) f is old = at_cases (λ j (y : Volume). SentAll (fields_at w.control j) → SentAll y.fields) w.control.volume v (row w (Seal v u s n) f) (λ h. h) (λ q ne h. h) a old
seal-act a w (Make m) f is old = absurd is
seal-act a w x f is old = absurd is

-- who records goes on recording
recording-act : (a : ℕ) (w : World) (x : Act) (f : Option Fuse) → IsSeal w x → (fields_at w.control a).recording ≡ true → (fields_at (after_act w x f).control a).recording ≡ true
recording-act a w (Make (Seal v u s n)) f is old = part-same w (Seal v u s n) f (λ (g : Fields). g.recording) refl a ∙ old
recording-act a w (Make m) f is old = absurd is
recording-act a w x f is old = absurd is

member-seals : (i n : ℕ) (m : Member) → Each IsSeal (member_entries phases.Seal i n m)
member-seals i n m =
    each-refuse IsSeal (void_refusal m.a.0 n) _ (each-refuse IsSeal (seal_refusal m.a.0 m.b.0) _
    (fine-one any_world IsSeal any_reason (seal_on i m.a.0 m.b.0 n) (where-fine any_world IsSeal any_reason (λ k. is_drained m.a.0 k && not (nat_eq (fields_at k m.b.0).seal n)) (Make (Seal m.b.0 m.a.0 i n)) (λ w any so. tt))))

order-seals : (i n : ℕ) (ms : List Member) → Each IsSeal (order_entries phases.Seal i n ms)
order-seals i n ms = fine-flat any_world IsSeal any_reason (member_entries phases.Seal i n) ms (λ m here. member-seals i n m)

refuse-passed : (w v : World) (why : Control → Option Refusal) (ds : List Entry) → carry w (refuse_if why ∷ ds) ≡ (v, None) → why w.control ≡ None
refuse-passed w v why ds leads = by (why w.control) (sym (carry-first w (refuse_if why) ds (end_if (why w.control)) refl) ∙ leads)
  where
    by : (o : Option Refusal) → go w (end_if o) (λ u. carry u ds) ≡ (v, None) → o ≡ None
    by None h = refl
    by (Some r) h = none_some (ap (λ (o : Outcome). o.1) h) refl

-- where they weren't refused, each member's primary records
seals-record : (i n : ℕ) (ms : List Member) (w v : World) → carry w (order_entries phases.Seal i n ms) ≡ (v, None) → (m : Member) → In m ms → (fields_at v.control m.a.0).recording ≡ true
seals-record i n [] w v leads m here = absurd here
seals-record i n (q ∷ ms) w v leads m here = by here (seals-record i n ms one.middle v one.rest m)
  where
    one : Split w v (member_entries phases.Seal i n q) (order_entries phases.Seal i n ms)
    one = carry-split w v (member_entries phases.Seal i n q) (order_entries phases.Seal i n ms) leads

    records-now : (fields_at w.control q.a.0).recording ≡ true
    records-now =
        let f : Fields = fields_at w.control q.a.0 in
        (and_parts f.recording (nat_eq f.attempt n) (met (records n f) (Void n) (refuse-passed w one.middle (void_refusal q.a.0 n) _ one.first))).0

    by : In m (q ∷ ms) → (In m ms → (fields_at v.control m.a.0).recording ≡ true) → (fields_at v.control m.a.0).recording ≡ true
    by (inl is) further =
        subst (λ (z : Member). (fields_at v.control z.a.0).recording ≡ true) (sym is)
        (carry-keeps IsSeal (λ u. (fields_at u.control q.a.0).recording ≡ true) (recording-act q.a.0) one.middle v (order_entries phases.Seal i n ms) (order-seals i n ms) one.rest
        (carry-keeps IsSeal (λ u. (fields_at u.control q.a.0).recording ≡ true) (recording-act q.a.0) w one.middle (member_entries phases.Seal i n q) (member-seals i n q) one.first records-now))
    by (inr there) further = further there

none-any : {X : Type 0} (p : X → Bool) (xs : List X) → ((x : X) → In x xs → p x ≡ false) → list_any p xs ≡ false
none-any p [] each = refl
none-any p (x ∷ xs) each = ap (λ b. b || list_any p xs) (each x (inl refl)) ∙ none-any p xs (λ y there. each y (inr there))

none-bare : (s : Tracks) → ((q : ℕ) → contains s q ≡ true → ⊥) → is_bare s ≡ true
none-bare s none = let few : len s ≤ 0 = len-low 0 s (λ q h. absurd (none q h)) in let e : len s ≡ 0 = omega (arith, few) in eq-eqb (len s) 0 e

-- and where nothing was left to send of those in Copy Pending, nothing is left that their seals have to wait for
pub seals-done : (i n : ℕ) (ms : List Member) (w v : World) → carry w (order_entries phases.Seal i n ms) ≡ (v, None) → ((m : Member) → In m ms → SentAll (fields_at w.control m.a.0)) → Recorders (table v) → list_any (λ (m : Member). not (is_drained m.a.0 v.control)) ms ≡ false
seals-done i n ms w v leads dry records = none-any (λ (m : Member). not (is_drained m.a.0 v.control)) ms each
  where
    each : (m : Member) → In m ms → not (is_drained m.a.0 v.control) ≡ false
    each m here =
        let f : Fields = fields_at v.control m.a.0 in
        let recording : f.recording ≡ true = seals-record i n ms w v leads m here in
        let row = records m.a.0 in
        let copying : (is_part f.primary && is_pending f.primary_state) ≡ true = and_from (is_part f.primary) _ (global-part f.primary (row.global recording)) (row.pending recording) in
        let still : SentAll f = carry-keeps IsSeal (λ u. SentAll (fields_at u.control m.a.0)) (seal-act m.a.0) w v (order_entries phases.Seal i n ms) (order-seals i n ms) leads (dry m here) in
        ap not (none-bare f.out_of_sync (λ q c. still recording copying q c))
