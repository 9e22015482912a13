-- What a host write, a drain, an exchange and a recovery leave that are refused, but by the stop of a server.
use Rattle.std.proofs.Common.{ℕ, suc, ◌+◌, ◌≡◌, ◌⊎◌, inl, inr, refl, ap, sym, ◌∙◌, subst, append_assoc, take, drop, not, Bool, true, false, cond, ◌||◌, List, [], ◌∷◌, ◌++◌, Option, Some, None, nat_le, nat_lt, length, ◌&&◌, nat_eq}
use Rattle.std.specs.Prelude.{is_some, option_map}
use Rattle.std.specs.List.{find, flat_map}
use Rattle.std.specs.Option.{option_or}
use Rattle.std.proofs.lemmas.Bool.{eqb-true}
use Rattle.dr_ids.specs.declared.names.Member.{Member}
use Rattle.dr_ids.specs.declared.refusal.Decision.{Decision}
use Rattle.dr_ids.specs.declared.refusal.Refusal.{Refusal}
use Rattle.dr_ids.specs.declared.refusal.Refusal.TheVariants.{NotPrimary, Inhibited, NoGroup, OutOfOrder}
use Rattle.dr_ids.specs.declared.refusal.PhaseName.TheVariants as phase
use Rattle.dr_ids.specs.declared.refusal.Kind.TheVariants.{Volume as OfVolume, Track as OfTrack, Write as OfWrite, Session as OfSession, Server as OfServer, Message as OfMessage}
use Rattle.dr_ids.specs.declared.refusal.Which.TheVariants.{Pending as PendingWrites}
use Rattle.dr_model.specs.declared.said.Said.TheVariants.{Done, Held, Refused}
use Rattle.dr_model.specs.declared.said.Addition.TheVariants.{Wrote}
use Rattle.dr_model.specs.declared.step.Name.{Name}
use Rattle.dr_model.specs.declared.step.Step.TheVariants.{Recover}
use Rattle.std.specs.Prelude.{Ok}
use Rattle.dr_model.specs.Control.{Control, World, Pending, is_volume}
use Rattle.dr_model.specs.Limits.{most_pending}
use Rattle.dr_model.specs.Refusals.{unknown, over, server_off}
use Rattle.dr_model.specs.Phases as phases
use Rattle.dr_model.specs.Sessions.{Session, Mirror, session_in, mirror_in, members_in}
use Rattle.dr_model.specs.Moves.{is_write, Suspend}
use Rattle.dr_model.specs.Carry.{Make, Drop, Pass, Do, End, Entry, Outcome, carry, check, dropped, Next, entries_in}
use Rattle.dr_model.specs.Entries.{fields_at, is_running, relation_state, pair_state, is_no_secondary, is_open, is_settled, drop_unless, check_or_drop, copy_first}
use Rattle.dr_model.specs.PairEntries.{end_if, reach_refusal, send_refusal, flashed_refusal, suspend_where, refuse_if, store_on, strike_on, send_entries, sends, tracks_to_send, is_copying, held_refusal, send_first, feeds, drain_stretches, suspend_after}
use Rattle.dr_model.specs.WriteEntries.{landing, land_entries, waits, says_written}
use Rattle.dr_model.specs.SessionEntries.{member_entries, members_on, order_entries, hold_refusal, stale_refusal, hold_on, void_refusal, free_on, is_drained, is_committed, is_past, seal_refusal, seal_on, flash_refusal, flash_on, commit_refusal, commit_on, revert_on, finish_on, is_flashed}
use Rattle.dr_model.specs.Messages.{Message, Body, Asks, Replies, message_in}
use Rattle.dr_model.specs.MessagePlans.{on_message, order_refusal, order_done, order_on, reply_refusal, reply_on, deliver_on, deliver_plan}
use Rattle.dr_model.specs.SessionPlans.{asking, off_refusal, exchange_refusal, exchange_on, exchange_done, exchange_plan, order_of}
use Rattle.dr_model.specs.RecoveryPlans.{decided_in, secondary_refusal, recover_entries, recover_done, recover_plan, group_of, says_group}
use Rattle.dr_model.specs.PlanParts.{Plan, refuses, unless, on_named, on_session, server_named, name_bytes, is_defined}
use Rattle.dr_model.specs.Plans.{track_refusal, issue_refusal, write_done, write_plan, apply_done, apply_on, apply_plan, drain_plan}
use Rattle.dr_model.specs.Carried.{begun, finish, carried_out, answered, stop_place}
use Rattle.dr_model.specs.Forming.{refusal_said, part_refusal}
use Rattle.dr_model.proofs.CarryLemmas.{onward, carry-none, carry-first, carry-skips, carry-passed, carry-refused, carry-goes, carry-append, act-drop}
use Rattle.dr_facts.proofs.Lists.{found}
use Rattle.dr_laws_sound.specs.Stops.{refused_stop}
use Rattle.dr_laws_sound.specs.RefusedSteps.{is_by_volume, is_off, with_issued, let_go, HasSent, HasCarriedOrder, HasOrdered, HasDelivered, NamedOrdered, Leaves}
use Rattle.dr_laws_sound.proofs.ChecksFirst.{never, any_act, NeverRefuse, ChecksFirst, first-done, first-refuse, never-leads, blocks-leave}
use Rattle.dr_model.specs.Pairs.{records, is_cascaded}
use Rattle.dr_facts.proofs.Entries.{any_world, Fine, fine-none, fine-then, fine-one, fine-append, fine-if}
use Rattle.dr_facts.proofs.SharedEntries.{where-fine, copies-fine, lands-fine, recover-fine, send_first-fine}
use Rattle.dr_laws_sound.proofs.RefusedPlans.{Refuses, entries-refuse, same-begun, leaves_world-says, never-refused, phase-accepts}
use Rattle.dr_laws_sound.proofs.Cases.{taken}
use Rattle.dr_laws_sound.proofs.FitsDrain.{feeds-joined}

-- ---- what refuses a plan before its entries

refuses-with : (w : World) (q r : Refusal) → part_refusal w (refuses q) ≡ Some r → q ≡ r
unfolding carry
refuses-with w q r says = cc

-- a plan that is only a refusal leaves the world
pub says-left : (w : World) (q r : Refusal) (P : World → Type 0) → (q ≡ r → P w) → Refuses w (refuses q) r → P (carried_out w (refuses q)).0
says-left w q r P stays refused = subst P (sym (leaves_world-says w (Refused q) r refused)) (stays (refuses-with w q r refused.says))

pub unless-left : (w : World) (o : Option Refusal) (p : Plan) (r : Refusal) (P : World → Type 0) → ((q : Refusal) → o ≡ Some q → q ≡ r → P w) → (Refuses w p r → P (carried_out w p).0) → Refuses w (unless o p) r → P (carried_out w (unless o p)).0
unless-left w None p r P stays goes refused = goes refused
unless-left w (Some q) p r P stays goes refused = says-left w q r P (stays q refl) refused

-- ---- checks, and what drops a write

check-left : (w u : World) (ok : Control → Bool) (q r : Refusal) (ds : List Entry) → carry w (check ok q ∷ ds) ≡ (u, Some r) → ((u ≡ w) × (q ≡ r)) ⊎ (carry w ds ≡ (u, Some r))
check-left w u ok q r ds leads = by (ok w.control) refl
  where
    by : (b : Bool) → ok w.control ≡ b → ((u ≡ w) × (q ≡ r)) ⊎ (carry w ds ≡ (u, Some r))
    by true is = inr (sym (carry-passed w ok q ds is) ∙ leads)
    by false is =
        let ends : ◌≡◌ {A = Outcome} (w, Some q) (u, Some r) = sym (carry-refused w ok q ds is) ∙ leads in
        let same : Some q ≡ Some r = ap (λ (o : Outcome). o.1) ends in
        inl (sym (ap (λ (o : Outcome). o.0) ends), (let e : q ≡ r = cc in e))

refuse-left : (w u : World) (why : Control → Option Refusal) (r : Refusal) (ds : List Entry) → carry w (refuse_if why ∷ ds) ≡ (u, Some r) → ((u ≡ w) × (why w.control ≡ Some r)) ⊎ ((why w.control ≡ None) × (carry w ds ≡ (u, Some r)))
refuse-left w u why r ds leads = by (why w.control) refl
  where
    by : (o : Option Refusal) → why w.control ≡ o → ((u ≡ w) × (why w.control ≡ Some r)) ⊎ ((why w.control ≡ None) × (carry w ds ≡ (u, Some r)))
    by None is = inr (is, sym (carry-skips w (refuse_if why) ds (ap end_if is)) ∙ leads)
    by (Some q) is =
        let ends : ◌≡◌ {A = Outcome} (w, Some q) (u, Some r) = sym (carry-first w (refuse_if why) ds (End q) (ap end_if is)) ∙ leads in
        inl (sym (ap (λ (o : Outcome). o.0) ends), is ∙ ap (λ (o : Outcome). o.1) ends)

drop-left : (w u : World) (n : ℕ) (ok : Control → Bool) (q r : Refusal) (ds : List Entry) → ok (dropped w n).control ≡ ok w.control → carry w (check_or_drop n ok q ++ ds) ≡ (u, Some r) → ((u ≡ dropped w n) × (q ≡ r)) ⊎ (carry w ds ≡ (u, Some r))
drop-left w u n ok q r ds blind leads = by (ok w.control) refl
  where
    by : (b : Bool) → ok w.control ≡ b → ((u ≡ dropped w n) × (q ≡ r)) ⊎ (carry w ds ≡ (u, Some r))
    by true is = inr (sym (carry-skips w (drop_unless n ok) (check ok q ∷ ds) (ap (λ b. cond b Pass (Do (Drop n))) is) ∙ carry-passed w ok q ds is) ∙ leads)
    by false is =
        let goes = carry-goes w (dropped w n) (drop_unless n ok) (check ok q ∷ ds) (Drop n) (ap (λ b. cond b Pass (Do (Drop n))) is) (act-drop w n) in
        let ends : ◌≡◌ {A = Outcome} (dropped w n, Some q) (u, Some r) = sym (goes ∙ carry-refused (dropped w n) ok q ds (blind ∙ is)) ∙ leads in
        let same : Some q ≡ Some r = ap (λ (o : Outcome). o.1) ends in
        inl (sym (ap (λ (o : Outcome). o.0) ends), (let e : q ≡ r = cc in e))

-- ---- host writes

-- a write that was carried out and refused: its server is off, or it was dropped
pub record Off (w u : World) (r : Refusal) : Type 0 where
  pub off : is_off r ≡ true
  pub place : is_by_volume r ≡ false
  pub stays : u ≡ w

pub record Dropped (w u : World) (n : ℕ) (r : Refusal) : Type 0 where
  pub place : is_by_volume r ≡ true
  pub drops : u ≡ dropped w n

module _ (k : Control) (n v t : ℕ) (w u : World) (r : Refusal) (other : refused_stop (Some r) ≡ None) where
  refused-off : (s : ℕ) → u ≡ w → server_off s ≡ r → Off w u r
  refused-off s is e = record { off = ap (λ q. is_off q) (sym e); place = ap (λ q. is_by_volume q) (sym e); stays = is }

  refused-place : (q : Refusal) → is_by_volume q ≡ true → u ≡ dropped w n → q ≡ r → Dropped w u n r
  refused-place q place is e = record { place = ap (λ q. is_by_volume q) (sym e) ∙ place; drops = is }

  settled-left : carry w (check_or_drop n (is_settled v) (relation_state k v) ++ land_entries k n v t) ≡ (u, Some r) → Dropped w u n r
  settled-left leads = elim (drop-left w u n (is_settled v) (relation_state k v) r (land_entries k n v t) refl leads) [
    | inl a ↦ refused-place (relation_state k v) refl a.0 a.1
    | inr b ↦ never-leads w u (land_entries k n v t) r (lands-fine any_world any_act never (λ u t w any. tt) (λ u t w any. tt) k n v t (λ free. record { land = λ w any. tt; over = λ w any. tt; suspend = λ busy w any. tt; unsync = λ over w any. tt; mirror = λ over w any. tt; both = λ w any. tt; store = λ met last w any. tt; strike = λ met last w any. tt; fed_suspend = λ fed w any. tt; fed_store = λ fed last w any so. tt; fed_strike = λ fed last w any. tt })) b other
  ]

  open-left : carry w (check_or_drop n (is_open v) (Inhibited (record { 0 = v })) ++ (check_or_drop n (is_settled v) (relation_state k v) ++ land_entries k n v t)) ≡ (u, Some r) → Dropped w u n r
  open-left leads = elim (drop-left w u n (is_open v) (Inhibited (record { 0 = v })) r (check_or_drop n (is_settled v) (relation_state k v) ++ land_entries k n v t) refl leads) [
    | inl a ↦ refused-place (Inhibited (record { 0 = v })) refl a.0 a.1
    | inr b ↦ settled-left b
  ]

  secondary-left : carry w (check_or_drop n (is_no_secondary v) (NotPrimary (record { 0 = v })) ++ (check_or_drop n (is_open v) (Inhibited (record { 0 = v })) ++ (check_or_drop n (is_settled v) (relation_state k v) ++ land_entries k n v t))) ≡ (u, Some r)
      → Dropped w u n r
  secondary-left leads =
      elim (drop-left w u n (is_no_secondary v) (NotPrimary (record { 0 = v })) r (check_or_drop n (is_open v) (Inhibited (record { 0 = v })) ++ (check_or_drop n (is_settled v) (relation_state k v) ++ land_entries k n v t)) refl leads) [
        | inl a ↦ refused-place (NotPrimary (record { 0 = v })) refl a.0 a.1
        | inr b ↦ open-left b
      ]

  pub landing-left : carry w (landing k n v t) ≡ (u, Some r) → Off w u r ⊎ Dropped w u n r
  landing-left leads = elim (check-left w u (is_running v) (server_off (k.volume v).server) r _ leads) [
    | inl a ↦ inl (refused-off (k.volume v).server a.0 a.1)
    | inr b ↦ inr (secondary-left b)
  ]

written-accepts : (k : Control) (n v t : ℕ) → refusal_said (says_written k n v t) ≡ None
written-accepts k n v t = by (waits k v t)
  where
    by : (b : Bool) → refusal_said (cond b (Held n) (Done (Wrote n))) ≡ None
    by true = refl
    by false = refl

-- how the definition chooses
off-chosen : (u x y z : World) (a b : Bool) → a ≡ false → b ≡ true → u ≡ x → u ≡ cond (a || b) (cond a y x) z
off-chosen u x y z false true nay yea is = is
off-chosen u x y z true b nay yea is = absurd cc
off-chosen u x y z false false nay yea is = absurd cc

place-chosen : (u x y z : World) (a b : Bool) → a ≡ true → u ≡ y → u ≡ cond (a || b) (cond a y x) z
place-chosen u x y z true b yea is = is
place-chosen u x y z false b yea is = absurd cc

neither-chosen : (x z : World) (a b : Bool) → a ≡ false → b ≡ false → z ≡ cond (a || b) x z
neither-chosen x z false false nay off = refl
neither-chosen x z true b nay off = absurd cc
neither-chosen x z false true nay off = absurd cc

-- a refusal that is neither of its volume's state nor of its server
record Early (r : Refusal) : Type 0 where
  place : is_by_volume r ≡ false
  on : is_off r ≡ false

abbrev AllEarly : Option Refusal → Type 0
AllEarly o = (q : Refusal) → o ≡ Some q → Early q

none-early : AllEarly None
none-early q e = absurd cc

some-early : (r : Refusal) → Early r → AllEarly (Some r)
some-early r early q e = let is : r ≡ q = cc in subst Early is early

choice-early : (b : Bool) (x y : Option Refusal) → AllEarly x → AllEarly y → AllEarly (cond b x y)
choice-early true x y p q = p
choice-early false x y p q = q

or-early : (x y : Option Refusal) → AllEarly x → AllEarly y → AllEarly (option_or x y)
or-early None y p q = q
or-early (Some r) y p q = p

issue-early : (k : Control) (v t : ℕ) → AllEarly (issue_refusal k v t)
issue-early k v t =
    let early = λ (r : Refusal) (a : is_by_volume r ≡ false) (b : is_off r ≡ false). some-early r (record { place = a; on = b }) in
    or-early (track_refusal k v t) _
    (choice-early (not (is_volume k v)) _ _ (early (unknown OfVolume) refl refl) (choice-early (nat_lt t (k.volume v).tracks) None _ none-early (early (unknown OfTrack) refl refl)))
    (choice-early (nat_le most_pending (length k.pending)) _ None (early (over PendingWrites) refl refl) none-early)

pub write-left : (w : World) (v t offset len : ℕ) (bytes : List ℕ) (r : Refusal) → Refuses w (write_plan w.control v t offset len bytes) r
    → (carried_out w (write_plan w.control v t offset len bytes)).0 ≡ cond (is_by_volume r || is_off r) (let_go (with_issued w v t offset len bytes) (w.control.issued + 1) r) w
write-left w v t offset len bytes r refused =
    unless-left w (issue_refusal w.control v t) (write_done w.control v t offset len bytes) r (λ u. u ≡ cond (is_by_volume r || is_off r) (let_go x n r) w)
    (λ q e is. let early : Early r = subst Early is (issue-early w.control v t q e) in neither-chosen (let_go x n r) w (is_by_volume r) (is_off r) early.place early.on) goes refused
  where
    x : World
    x = with_issued w v t offset len bytes

    n : ℕ
    n = w.control.issued + 1

    goes : Refuses w (write_done w.control v t offset len bytes) r → (carried_out w (write_done w.control v t offset len bytes)).0 ≡ cond (is_by_volume r || is_off r) (let_go x n r) w
    goes refused =
        let p : Plan = write_done w.control v t offset len bytes in
        elim (landing-left w.control n v t (begun w p) (carried_out w p).0 r refused.other (entries-refuse w p r (λ k. written-accepts w.control n v t) refused)) [
          | inl a ↦ off-chosen _ x (dropped x n) w (is_by_volume r) (is_off r) a.place a.off a.stays
          | inr b ↦ place-chosen _ x (dropped x n) w (is_by_volume r) (is_off r) b.place b.drops
        ]

apply-left : (w : World) (n : ℕ) (p : Pending) (r : Refusal) → p.w ≡ n → Refuses w (apply_done w.control p) r → (carried_out w (apply_done w.control p)).0 ≡ let_go w n r
apply-left w n p r is refused =
    let x : Plan = apply_done w.control p in
    let leads = ap (λ v. carry v x.entries) (sym (same-begun w)) ∙ entries-refuse w x r (λ k. written-accepts w.control p.w p.volume p.track) refused in
    elim (landing-left w.control p.w p.volume p.track w (carried_out w x).0 r refused.other leads) [
      | inl a ↦ a.stays ∙ ap (λ b. cond b (dropped w n) w) (sym a.place)
      | inr b ↦ b.drops ∙ ap (dropped w) is ∙ ap (λ c. cond c (dropped w n) w) (sym b.place)
    ]

pub applied-left : (w : World) (n : ℕ) (r : Refusal) → Refuses w (apply_plan w.control n) r → (carried_out w (apply_plan w.control n)).0 ≡ let_go w n r
applied-left w n r refused = by (find (is_write n) w.control.pending) refl refused
  where
    by : (o : Option Pending) → find (is_write n) w.control.pending ≡ o → Refuses w (apply_on w.control o) r → (carried_out w (apply_on w.control o)).0 ≡ let_go w n r
    by None is refused = says-left w (unknown OfWrite) r (λ u. u ≡ let_go w n r) (λ e. ap (λ q. let_go w n q) e) refused
    by (Some p) is refused = apply-left w n p r (eqb-true p.w n (found (is_write n) w.control.pending p is).1) refused

-- ---- drains

module _ (volumes : List ℕ) (a b : ℕ) where
  abbrev suspends : List Entry
  suspends = suspend_where (send_refusal a b) a ∷ []

  suspends-never : NeverRefuse suspends
  suspends-never = fine-one any_world any_act never (suspend_where (send_refusal a b) a) (where-fine any_world any_act never (λ k. is_some (send_refusal a b k)) (Make (Suspend a false)) (λ w any so. tt))

  stores-never : (t : ℕ) → NeverRefuse (copy_first volumes b t ++ store_on a b t ∷ strike_on a t ∷ [])
  stores-never t = fine-append any_world any_act never (copy_first volumes b t) _ (copies-fine any_world any_act never (λ u t w any. tt) (λ u t w any. tt) volumes b t) (fine-then any_world any_act never (store_on a b t) _ (λ w any. tt) (fine-one any_world any_act never (strike_on a t) (λ w any. tt)))

  -- why the send of a track is refused
  abbrev why_not : Control → Option Refusal
  why_not k = option_or (send_refusal a b k) (option_or (flashed_refusal b k) (held_refusal b k))

  -- one track, after what suspends the primary, and how it is refused
  module _ (one_sent : ℕ → List Entry) (one-refused : (t : ℕ) (w u : World) (r : Refusal) → carry w (one_sent t) ≡ (u, Some r) → refused_stop (Some r) ≡ None → (u ≡ w) × (why_not w.control ≡ Some r)) where
    -- tracks in turn
    abbrev all_sent : List ℕ → List Entry
    all_sent ts = flat_map (λ t. suspends ++ one_sent t) ts

    record SentSome (ts : List ℕ) (r : Refusal) (w u : World) : Type 0 where
      tracks : ℕ
      leads : carry w (all_sent (take tracks ts) ++ suspends) ≡ (u, None)
      refuses : why_not u.control ≡ Some r

    -- what refuses the send of one track leaves the primary suspended, or not
    one-left : (t : ℕ) (ts : List ℕ) (w u : World) (r : Refusal) → carry w (suspends ++ one_sent t) ≡ (u, Some r) → refused_stop (Some r) ≡ None → SentSome ts r w u
    one-left t ts w u r leads other = by (carry w suspends) refl (sym (carry-append w suspends (one_sent t)) ∙ leads)
      where
        by : (o : Outcome) → carry w suspends ≡ o → onward o (λ v. carry v (one_sent t)) ≡ (u, Some r) → SentSome ts r w u
        by (v, None) is h =
            let x = one-refused t v u r h other in
            record { tracks = 0; leads = is ∙ ap (λ v. (v, None)) (sym x.0); refuses = ap (λ (z : World). why_not z.control) x.0 ∙ x.1 }
        by (v, Some q) is h = never-leads w u suspends r suspends-never (is ∙ h) other

    sends-left : (ts : List ℕ) (w u : World) (r : Refusal) → carry w (all_sent ts) ≡ (u, Some r) → refused_stop (Some r) ≡ None → SentSome ts r w u
    sends-left [] w u r leads other = let h : None ≡ Some r = ap (λ (o : Outcome). o.1) (sym (carry-none w) ∙ leads) in absurd cc
    sends-left (t ∷ ts) w u r leads other =
        by (λ v h. sends-left ts v u r h other) (carry w (suspends ++ one_sent t)) refl (sym (carry-append w (suspends ++ one_sent t) (all_sent ts)) ∙ leads)
      where
        by : ((v : World) → carry v (all_sent ts) ≡ (u, Some r) → SentSome ts r v u) → (o : Outcome) → carry w (suspends ++ one_sent t) ≡ o → onward o (λ v. carry v (all_sent ts)) ≡ (u, Some r) → SentSome (t ∷ ts) r w u
        by more (v, None) is h =
            let rest = more v h in
            let ds : List Entry = all_sent (take rest.tracks ts) in
            record {
              tracks = suc rest.tracks;
              leads = ap (carry w) (append_assoc (suspends ++ one_sent t) ds suspends) ∙ carry-append w (suspends ++ one_sent t) (ds ++ suspends) ∙ ap (λ (o : Outcome). onward o (λ v. carry v (ds ++ suspends))) is ∙ rest.leads;
              refuses = rest.refuses;
            }
        by more (v, Some q) is h = one-left t (t ∷ ts) w u r (is ∙ h) other

  -- b has no other part
  abbrev plain_sent : ℕ → List Entry
  plain_sent t = refuse_if (send_refusal a b) ∷ refuse_if (flashed_refusal b) ∷ copy_first volumes b t ++ store_on a b t ∷ strike_on a t ∷ []

  plain-refused : (t : ℕ) (w u : World) (r : Refusal) → carry w (plain_sent t) ≡ (u, Some r) → refused_stop (Some r) ≡ None → (u ≡ w) × (why_not w.control ≡ Some r)
  plain-refused t w u r leads other = elim (refuse-left w u (send_refusal a b) r _ leads) [
    | inl x ↦ (x.0, ap (λ o. option_or o (option_or (flashed_refusal b w.control) (held_refusal b w.control))) x.1)
    | inr x ↦ elim (refuse-left w u (flashed_refusal b) r _ x.1) [
      | inl y ↦ (y.0, ap (λ o. option_or o (option_or (flashed_refusal b w.control) (held_refusal b w.control))) x.0 ∙ ap (λ o. option_or o (held_refusal b w.control)) y.1)
      | inr y ↦ never-leads w u (copy_first volumes b t ++ store_on a b t ∷ strike_on a t ∷ []) r (stores-never t) y.1 other
    ]
  ]

  plain-all : (ts : List ℕ) → sends volumes a b ts ≡ all_sent plain_sent plain-refused ts
  plain-all [] = refl
  plain-all (t ∷ ts) = ap (λ ds. send_entries volumes a b t ++ ds) (plain-all ts)

  -- b is cascaded
  module _ (c : ℕ) where
    abbrev fed_moves : ℕ → List Entry
    fed_moves t = send_first volumes b c t ++ (copy_first volumes b t ++ store_on a b t ∷ strike_on a t ∷ [])

    abbrev fed_sent : ℕ → List Entry
    fed_sent t = refuse_if (send_refusal a b) ∷ refuse_if (flashed_refusal b) ∷ refuse_if (held_refusal b) ∷ fed_moves t

    fed-never : (t : ℕ) → NeverRefuse (fed_moves t)
    fed-never t = fine-append any_world any_act never (send_first volumes b c t) _ (send_first-fine any_world any_act never (λ u t w any. tt) (λ u t w any. tt) volumes b c t (λ w any. tt) (λ last w any so. tt) (λ last w any. tt)) (stores-never t)

    fed-refused : (t : ℕ) (w u : World) (r : Refusal) → carry w (fed_sent t) ≡ (u, Some r) → refused_stop (Some r) ≡ None → (u ≡ w) × (why_not w.control ≡ Some r)
    fed-refused t w u r leads other = elim (refuse-left w u (send_refusal a b) r _ leads) [
      | inl x ↦ (x.0, ap (λ o. option_or o (option_or (flashed_refusal b w.control) (held_refusal b w.control))) x.1)
      | inr x ↦ elim (refuse-left w u (flashed_refusal b) r _ x.1) [
        | inl y ↦ (y.0, ap (λ o. option_or o (option_or (flashed_refusal b w.control) (held_refusal b w.control))) x.0 ∙ ap (λ o. option_or o (held_refusal b w.control)) y.1)
        | inr y ↦ elim (refuse-left w u (held_refusal b) r _ y.1) [
          | inl z ↦ (z.0, ap (λ o. option_or o (option_or (flashed_refusal b w.control) (held_refusal b w.control))) x.0 ∙ ap (λ o. option_or o (held_refusal b w.control)) y.0 ∙ z.1)
          | inr z ↦ never-leads w u (fed_moves t) r (fed-never t) z.1 other
        ]
      ]
    ]

    fed-all : (ts : List ℕ) → entries_in (feeds volumes a b c ts) ≡ all_sent fed_sent fed-refused ts
    fed-all [] = refl
    fed-all (t ∷ ts) =
        let rest : List Entry = entries_in (feeds volumes a b c ts) in
        let checks : List Entry = suspend_where (send_refusal a b) a ∷ refuse_if (send_refusal a b) ∷ refuse_if (flashed_refusal b) ∷ refuse_if (held_refusal b) ∷ [] in
        feeds-joined volumes a b c t ts
        ∙ ap (λ ds. checks ++ (send_first volumes b c t ++ ds)) (sym (append_assoc (copy_first volumes b t) (store_on a b t ∷ strike_on a t ∷ []) rest))
        ∙ ap (λ ds. checks ++ ds) (sym (append_assoc (send_first volumes b c t) (copy_first volumes b t ++ store_on a b t ∷ strike_on a t ∷ []) rest))
        ∙ ap (λ ds. (suspends ++ fed_sent t) ++ ds) (fed-all ts)

pub drain-left : (w : World) (a : ℕ) (most : Option ℕ) (r : Refusal) → Refuses w (drain_plan w.control a most) r → ((carried_out w (drain_plan w.control a most)).0 ≡ w) ⊎ HasSent w a most r (carried_out w (drain_plan w.control a most)).0
drain-left w a most r refused =
    elim (check-left w u (is_defined a) (unknown OfVolume) r _ leads) [
      | inl x ↦ inl x.0
      | inr x ↦ elim (check-left w u (is_running a) (server_off (w.control.volume a).server) r _ x) [
        | inl y ↦ inl y.0
        | inr y ↦ elim (check-left w u (is_copying a) (pair_state w.control a) r _ y) [
          | inl z ↦ inl z.0
          | inr z ↦ inr (by (is_cascaded (fields_at w.control b)) refl z)
        ]
      ]
    ]
  where
    p : Plan
    p = drain_plan w.control a most

    u : World
    u = (carried_out w p).0

    b : ℕ
    b = (fields_at w.control a).primary_partner

    ts : List ℕ
    ts = tracks_to_send most (w.control.volume a).tracks (fields_at w.control a).out_of_sync

    leads : carry w p.entries ≡ (u, Some r)
    leads = ap (λ v. carry v p.entries) (sym (same-begun w)) ∙ entries-refuse w p r (λ k. refl) refused

    c : ℕ
    c = (fields_at w.control b).primary_partner

    by : (fed : Bool) → is_cascaded (fields_at w.control b) ≡ fed → carry w (entries_in (drain_stretches w.control a ts)) ≡ (u, Some r) → HasSent w a most r u
    by true is z =
        let same : ((us : List ℕ) → entries_in (drain_stretches w.control a us) ≡ all_sent w.control.volumes a b (fed_sent w.control.volumes a b c) (fed-refused w.control.volumes a b c) us) = λ us.
        ap (λ d. entries_in (cond d (feeds w.control.volumes a b c us) (record { entries = sends w.control.volumes a b us; follows = suspend_after a } ∷ []))) is ∙ fed-all w.control.volumes a b c us in
        let some = sends-left w.control.volumes a b (fed_sent w.control.volumes a b c) (fed-refused w.control.volumes a b c) ts w u r (ap (carry w) (sym (same ts)) ∙ z) refused.other in
        record { tracks = some.tracks; leads = ap (λ ds. carry w (ds ++ suspend_where (send_refusal a b) a ∷ [])) (same (take some.tracks ts)) ∙ some.leads; refuses = some.refuses }
    by false is z =
        let same : ((us : List ℕ) → entries_in (drain_stretches w.control a us) ≡ all_sent w.control.volumes a b (plain_sent w.control.volumes a b) (plain-refused w.control.volumes a b) us) = λ us.
        ap (λ d. entries_in (cond d (feeds w.control.volumes a b c us) (record { entries = sends w.control.volumes a b us; follows = suspend_after a } ∷ []))) is ∙ plain-all w.control.volumes a b us in
        let some = sends-left w.control.volumes a b (plain_sent w.control.volumes a b) (plain-refused w.control.volumes a b) ts w u r (ap (carry w) (sym (same ts)) ∙ z) refused.other in
        record { tracks = some.tracks; leads = ap (λ ds. carry w (ds ++ suspend_where (send_refusal a b) a ∷ [])) (same (take some.tracks ts)) ∙ some.leads; refuses = some.refuses }

-- ---- orders

-- an entry that refuses nothing
first-last : (d : Entry) → ((w : World) → any_world w → Fine any_world any_act never w (d w.control)) → ChecksFirst (d ∷ [])
first-last d goes = first-done (d ∷ []) (fine-one any_world any_act never d goes)

passes : (w : World) (b : Bool) (x y : Next) → Fine any_world any_act never w x → Fine any_world any_act never w y → Fine any_world any_act never w (cond b x y)
passes = fine-if any_world any_act never

member-first : (work : phases.Work) (s n : ℕ) (m : Member) → ChecksFirst (member_entries work s n m)
member-first phases.Hold s n m = first-refuse (hold_refusal m.a.0 m.b.0) _ (first-refuse (stale_refusal m.a.0 n) _ (first-last (hold_on s m.a.0 n) (λ w any. passes w (records n (fields_at w.control m.a.0)) Pass _ tt tt)))
member-first phases.Release s n m = first-refuse (void_refusal m.a.0 n) _ (first-last (free_on m.a.0) (λ w any. passes w (fields_at w.control m.a.0).coordination _ Pass tt tt))
member-first phases.Seal s n m = first-refuse (void_refusal m.a.0 n) _ (first-refuse (seal_refusal m.a.0 m.b.0) _ (first-last (seal_on s m.a.0 m.b.0 n) (λ w any. passes w (is_drained m.a.0 w.control && not (nat_eq (fields_at w.control m.b.0).seal n)) _ Pass tt tt)))
member-first phases.Finish s n m = first-last (finish_on m.a.0 n) (λ w any. passes w (is_past n (fields_at w.control m.a.0)) Pass _ tt tt)
member-first phases.Flash s n m = first-refuse (send_refusal m.a.0 m.b.0) _ (first-refuse (flash_refusal m.b.0 m.c.0 n) _ (first-last (flash_on s m.a.0 m.b.0 m.c.0 n) (λ w any. passes w (is_flashed n (fields_at w.control m.c.0)) Pass _ tt tt)))
member-first phases.Commit s n m = first-refuse (send_refusal m.a.0 m.b.0) _ (first-refuse (commit_refusal m.c.0 n) _ (first-last (commit_on s m.a.0 m.c.0 n) (λ w any. passes w (is_committed n (fields_at w.control m.c.0)) Pass _ tt tt)))
member-first phases.Revert s n m = first-refuse (send_refusal m.a.0 m.b.0) _ (first-last (revert_on s m.a.0 m.c.0 n) (λ w any. passes w (is_flashed n (fields_at w.control m.c.0)) _ _ tt (passes w (nat_lt (fields_at w.control m.c.0).floor n) _ Pass tt tt)))
member-first phases.Report s n m = first-refuse (reach_refusal m.a.0 m.b.0) [] (first-done [] (fine-none any_world any_act never))

-- by the session that was looked up
carried-left : (w u : World) (s server : ℕ) (order : phases.Order) (r : Refusal) (o : Option Session) → session_in w.control.sessions s ≡ o → carry w (order_entries order.work s order.number (members_on server (members_in o))) ≡ (u, Some r) → refused_stop (Some r) ≡ None
    → HasCarriedOrder w s server order r u
carried-left w u s server order r o here leads other =
    let done = blocks-leave (member_entries order.work s order.number) (member-first order.work s order.number) (members_on server (members_in o)) w u r leads other in
    record {
      members = done.count;
      leads = ap (λ found. carry w (order_entries order.work s order.number (take done.count (members_on server (members_in found))))) here ∙ done.leads;
      refuses = ap (λ found. carry u (order_entries order.work s order.number (drop done.count (members_on server (members_in found))))) here ∙ done.refuses;
    }

module _ (w : World) (s : ℕ) (reply : Bool) (r : Refusal) where
  -- the world, or what an order did
  abbrev Ordering : ℕ → World → Type 0
  Ordering server u = (u ≡ w) ⊎ HasOrdered w s server r u

  module _ (o : Option Session) (here : session_in w.control.sessions s ≡ o) (server : ℕ) (m : Mirror) (mirror : mirror_in o ≡ Some m) where
    abbrev ms : List Member
    ms = members_on server (members_in o)

    ordered-left : (order : Option phases.Order) → order_of m server ≡ order → Refuses w (exchange_done s server reply ms order) r → Ordering server (carried_out w (exchange_done s server reply ms order)).0
    ordered-left None owed refused = says-left w (OutOfOrder phase.None) r (Ordering server) (λ e. inl refl) refused
    ordered-left (Some order) owed refused =
        let p : Plan = exchange_done s server reply ms (Some order) in
        let u : World = (carried_out w p).0 in
        let leads : carry w p.entries ≡ (u, Some r) = ap (λ v. carry v p.entries) (sym (same-begun w)) ∙ entries-refuse w p r (λ k. phase-accepts (session_in k.sessions s)) refused in
        inr (record { master = m; found = ap mirror_in here ∙ mirror; order = order; owed = owed; carried = carried-left w u s server order r o here leads refused.other })

  -- by the session that was looked up
  asked-left : (o : Option Session) → session_in w.control.sessions s ≡ o → (server : ℕ) (m : Option Mirror) → mirror_in o ≡ m → Refuses w (exchange_on w.control s m server reply (members_in o)) r
      → Ordering server (carried_out w (exchange_on w.control s m server reply (members_in o))).0
  asked-left o here server None mirror refused = says-left w (OutOfOrder phase.None) r (Ordering server) (λ e. inl refl) refused
  asked-left o here server (Some m) mirror refused =
      unless-left w (exchange_refusal w.control m server (members_in o)) (exchange_done s server reply (members_on server (members_in o)) (order_of m server)) r (Ordering server) (λ q e is. inl refl)
      (ordered-left o here server m mirror (order_of m server) refl) refused

  pub asking-left : (server : ℕ) → Refuses w (asking w.control s server reply) r → Ordering server (carried_out w (asking w.control s server reply)).0
  asking-left server refused = asked-left (session_in w.control.sessions s) refl server (mirror_in (session_in w.control.sessions s)) refl refused

  module _ (name : Name) where
    abbrev Named : World → Type 0
    Named u = (u ≡ w) ⊎ NamedOrdered w s name r u

    named-left : (x : Session) → session_in w.control.sessions s ≡ Some x → (o : Option ℕ) → server_named w.control (name_bytes name) ≡ o
        → Refuses w (on_named o (λ server. exchange_on w.control s x.mirror server reply x.members)) r → Named (carried_out w (on_named o (λ server. exchange_on w.control s x.mirror server reply x.members))).0
    named-left x here None named refused = says-left w (unknown OfServer) r Named (λ e. inl refl) refused
    named-left x here (Some server) named refused = elim (asked-left (Some x) here server x.mirror refl refused) [
      | inl is ↦ inl is
      | inr ordered ↦ inr (record { server = server; named = named; order = ordered })
    ]

    found-left : (o : Option Session) → session_in w.control.sessions s ≡ o
        → let p : Plan = on_session o (λ x. on_named (server_named w.control (name_bytes name)) (λ server. exchange_on w.control s x.mirror server reply x.members)) in Refuses w p r → Named (carried_out w p).0
    found-left None here refused = says-left w (unknown OfSession) r Named (λ e. inl refl) refused
    found-left (Some x) here refused = named-left x here (server_named w.control (name_bytes name)) refl refused

    pub exchange-left : Refuses w (exchange_plan w.control s name reply) r → Named (carried_out w (exchange_plan w.control s name reply)).0
    exchange-left refused = found-left (session_in w.control.sessions s) refl refused

-- ---- deliveries

module _ (w : World) (n : ℕ) (r : Refusal) where
  -- the world, or what the order did
  abbrev Delivering : World → Type 0
  Delivering u = (u ≡ w) ⊎ HasDelivered w n r u

  module _ (m : Message) (there : message_in w.control.flight n ≡ Some m) (x : Session) (here : session_in w.control.sessions m.session ≡ Some x) where
    come-left : Refuses w (order_done m (members_on m.server x.members)) r → Delivering (carried_out w (order_done m (members_on m.server x.members))).0
    come-left refused =
        let p : Plan = order_done m (members_on m.server x.members) in
        let u : World = (carried_out w p).0 in
        let leads : carry w p.entries ≡ (u, Some r) = ap (λ v. carry v p.entries) (sym (same-begun w)) ∙ entries-refuse w p r (λ k. refl) refused in
        inr (record { message = m; found = there; carried = carried-left w u m.session m.server m.order r (Some x) here leads refused.other })

    order-left : (starts : ℕ) (o : Option Mirror) → Refuses w (order_on w.control m starts x.members o) r → Delivering (carried_out w (order_on w.control m starts x.members o)).0
    order-left starts None refused = says-left w (OutOfOrder phase.None) r Delivering (λ e. inl refl) refused
    order-left starts (Some q) refused = unless-left w (order_refusal w.control q m starts) (order_done m (members_on m.server x.members)) r Delivering (λ e is same. inl refl) come-left refused

    reply-left : (reply : phases.Reply) (o : Option Mirror) → Refuses w (reply_on w.control m reply o) r → Delivering (carried_out w (reply_on w.control m reply o)).0
    reply-left reply None refused = says-left w (OutOfOrder phase.None) r Delivering (λ e. inl refl) refused
    reply-left reply (Some q) refused = unless-left w (reply_refusal w.control q m) (taken m reply) r Delivering (λ e is same. inl refl)
        (λ refused. inl (never-refused w (taken m reply) (λ k. phase-accepts (session_in k.sessions m.session)) refl r refused)) refused

    body-left : (b : Body) → Refuses w (deliver_on w.control m x b) r → Delivering (carried_out w (deliver_on w.control m x b)).0
    body-left (Asks starts) refused = unless-left w (off_refusal w.control m.server) (order_on w.control m starts x.members x.mirror) r Delivering (λ e is same. inl refl) (order-left starts x.mirror) refused
    body-left (Replies reply) refused = reply-left reply x.mirror refused

  home-left : (m : Message) → message_in w.control.flight n ≡ Some m → (o : Option Session) → session_in w.control.sessions m.session ≡ o
      → Refuses w (on_session o (λ x. deliver_on w.control m x m.body)) r → Delivering (carried_out w (on_session o (λ x. deliver_on w.control m x m.body))).0
  home-left m there None here refused = says-left w (unknown OfSession) r Delivering (λ e. inl refl) refused
  home-left m there (Some x) here refused = body-left m there x here m.body refused

  message-left : (o : Option Message) → message_in w.control.flight n ≡ o
      → let p : Plan = on_message o (λ m. on_session (session_in w.control.sessions m.session) (λ x. deliver_on w.control m x m.body)) in Refuses w p r → Delivering (carried_out w p).0
  message-left None there refused = says-left w (unknown OfMessage) r Delivering (λ e. inl refl) refused
  message-left (Some m) there refused = home-left m there (session_in w.control.sessions m.session) refl refused

  pub deliver-left : Refuses w (deliver_plan w.control n) r → Delivering (carried_out w (deliver_plan w.control n)).0
  deliver-left refused = message-left (message_in w.control.flight n) refl refused

-- ---- recoveries

module _ (w : World) (s : ℕ) (r : Refusal) where
  -- what one leaves that is refused with r
  abbrev Recovering : World → Type 0
  Recovering u = Leaves w (Ok (Recover s)) r u

  group-refuses : (d : Decision) (g : Option ℕ) → refusal_said (says_group d g) ≡ Some r → NoGroup d ≡ r
  group-refuses d None e = cc
  group-refuses d (Some n) e = absurd cc

  module _ (x : Session) (here : session_in w.control.sessions s ≡ Some x) (other : refused_stop (Some r) ≡ None) where
    abbrev p : Plan
    p = recover_done s (decided_in s w.control) x.members

    done-left : (o : Outcome) → carry w p.entries ≡ o → refusal_said (answered p (finish p (stop_place w p) o.0 o.1).control o.1) ≡ Some r → Recovering (finish p (stop_place w p) o.0 o.1)
    done-left (u, None) leads e =
        subst (λ q. Leaves w (Ok (Recover s)) q u) (group-refuses (decided_in s w.control) (group_of (decided_in s u.control)) e)
        (ap (λ found. carry w (recover_entries s (decided_in s w.control) (members_in found))) here ∙ leads)
    done-left (u, Some q) leads e = let is : q ≡ r = cc in never-leads w u p.entries q (recover-fine any_world any_act never s (decided_in s w.control) x.members (λ m here v any is. tt) (λ m here no n v any. tt) (λ m here yes n v any. tt) (λ n v any. tt)) leads (ap (λ r. refused_stop (Some r)) is ∙ other)

    recovered-left : part_refusal w p ≡ Some r → Recovering (carried_out w p).0
    recovered-left e =
        let back : carry (begun w p) p.entries ≡ carry w p.entries = ap (λ v. carry v p.entries) (same-begun w) in
        done-left (carry (begun w p) p.entries) (sym back) e

  secondary-kept : (k : Control) (o : Option Member) (q : Refusal) → option_map (λ m. server_off (k.volume m.b.0).server) o ≡ Some q → Leaves w (Ok (Recover s)) q w
  secondary-kept k None q e = absurd cc
  secondary-kept k (Some m) q e = let is : server_off (k.volume m.b.0).server ≡ q = cc in subst (λ q. Leaves w (Ok (Recover s)) q w) is refl

  sessions-left : (o : Option Session) → session_in w.control.sessions s ≡ o
      → let p : Plan = on_session o (λ x. unless (secondary_refusal x.members w.control) (recover_done s (decided_in s w.control) x.members)) in Refuses w p r → Recovering (carried_out w p).0
  sessions-left None here refused = says-left w (unknown OfSession) r Recovering (λ e. subst (λ q. Leaves w (Ok (Recover s)) q w) e refl) refused
  sessions-left (Some x) here refused =
      unless-left w (secondary_refusal x.members w.control) (recover_done s (decided_in s w.control) x.members) r Recovering
      (λ q e is. subst (λ q. Leaves w (Ok (Recover s)) q w) is (secondary-kept w.control (find (λ m. not (is_running m.b.0 w.control)) x.members) q e))
      (λ refused. recovered-left x here refused.other refused.says) refused

  pub recover-left : Refuses w (recover_plan w.control s) r → Recovering (carried_out w (recover_plan w.control s)).0
  recover-left refused = sessions-left (session_in w.control.sessions s) refl refused
