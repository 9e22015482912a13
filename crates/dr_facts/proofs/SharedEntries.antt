-- Entries that several plans have, by the acts that they come to: what a source's targets keep, tracks that are sent, copied and taken back, host
-- writes, starts, orders, recoveries. Acts and reasons are as in Entries.
use Rattle.std.proofs.Common.{ℕ, ◌≡◌, refl, Bool, true, false, cond, not, ◌&&◌, List, [], ◌∷◌, ◌++◌, map, Option, Some, None, is_some, nat_lt}
use Rattle.std.proofs.lemmas.Bool.{and_parts}
use Rattle.std.specs.FinSet.{contains}
use Rattle.dr_facts.proofs.WriteStops.{after-any, drain-any}
use Rattle.dr_ids.specs.declared.refusal.Refusal.{Refusal}
use Rattle.dr_ids.specs.declared.refusal.Decision.{Decision}
use Rattle.dr_ids.specs.declared.refusal.Decision.TheVariants.{NoMember, Nothing, RevertAll, CommitRest, RevertSome, Impossible}
use Rattle.dr_ids.specs.declared.names.Member.{Member}
use Rattle.dr_model.specs.Layout.{Fields, is_part}
use Rattle.dr_model.specs.Pairs.{held, is_cascaded, goes_over, collides, must_restart, records}
use Rattle.dr_model.specs.Control.{Control, World}
use Rattle.dr_model.specs.Groups.{In}
use Rattle.dr_model.specs.Phases as phases
use Rattle.dr_model.specs.Moves.{Move, Land, Overwrite, Keep, Note, Fetch, Restore, Release, Store, Strike, Suspend, Unsync, Mirror, LandBoth, Restart, Hold, Free, Seal, Finish, Flash, Commit, Revert, RaiseAttempt, RaiseFloor, TakeOver, Unstage, FlashHold}
use Rattle.dr_model.specs.Carry.{Act, Make, OpenAttempt, Redo, Acknowledge, EndRecovery, Pass, Do, Entry, now, entries_in, follows_at}
use Rattle.dr_model.specs.Entries.{fields_at, copies_from, keep_if, keep_on, copy_first, land_on, land_alone, give_back, lowest_held, lowest_missing, for_lowest, fetch_next, is_running}
use Rattle.dr_model.specs.PairEntries.{send_refusal, suspend_where, flashed_refusal, held_refusal, store_on, strike_on, send_entries, sends, sends_first, where_sent, suspend_unsent, send_first, feeds, drain_stretches, suspend_running, suspend_unless, suspend_after, reach_refusal}
use Rattle.dr_model.specs.WriteEntries.{partner_of, is_grouped, mirror_and_land, land_mirrored, land_fed, land_parted, is_parted, is_held_back, is_fed, land_over, land_collided, land_entries, part_running, part_after, after_write, belongs, redo_on, restart_on, start_entries, flash_hold_on}
use Rattle.dr_model.specs.Plans.{drain_checks, acknowledge_if, acknowledge_on, landed_on, hold_first, redo_now, destage_entries}
use Rattle.dr_model.specs.SessionEntries.{last_of, hold_refusal, stale_refusal, hold_on, void_refusal, free_on, seal_refusal, seal_on, is_flashed, flash_refusal, flash_on, is_committed, commit_refusal, commit_on, revert_on, is_past, finish_on, member_entries, order_entries, raise_attempt_on, raise_floor_on, add_entries}
use Rattle.dr_model.specs.RecoveryPlans.{lets_revert, take_over_on, settle_on, end_recovery, recover_entries}
use Rattle.dr_facts.proofs.Entries.{Fine, WhyNot, AllFine, EachFine, fine-none, fine-then, fine-one, fine-now, fine-append, fine-each, fine-map, fine-flat, fine-choice, fine-if, fine-when, fine-found, fine-refuse}

module _ (K : World → Type 0) (Ok : World → Act → Type 0) (Why : Refusal → Type 0) where
  abbrev All : List Entry → Type 0
  All = AllFine K Ok Why

  abbrev One : Entry → Type 0
  One d = (w : World) → K w → Fine K Ok Why w (d w.control)

  -- an act may come
  abbrev pub May : Act → Type 0
  May a = (w : World) → K w → Ok w a

  -- or comes only where that is so
  abbrev pub MayWhere : (Control → Bool) → Act → Type 0
  MayWhere so a = (w : World) → K w → so w.control ≡ true → Ok w a

  pub where-fine : (so : Control → Bool) (a : Act) → MayWhere so a → One (λ k. cond (so k) (Do a) Pass)
  where-fine so a may w k = fine-when K Ok Why w (so w.control) a (may w k)

  pub unless-fine : (so : Control → Bool) (a : Act) → May a → One (λ k. cond (so k) Pass (Do a))
  unless-fine so a may w k = fine-if K Ok Why w (so w.control) Pass (Do a) tt (may w k)

  pub last-move : (m : Move) → May (Make m) → All (now m ∷ [])
  last-move m may = fine-now K Ok Why m [] may (fine-none K Ok Why)

  -- what follows the stop of a server
  abbrev Each : List Entry → Type 0
  Each = EachFine K Ok Why

  running-fine : (a : ℕ) → May (Make (Suspend a false)) → One (suspend_running a)
  running-fine a may = where-fine (λ k. is_part (fields_at k a).primary && is_running a k) (Make (Suspend a false)) (λ w h so. may w h)

  part-fine : (v : ℕ) → ((busy : Bool) → May (Make (Suspend v busy))) → All (part_running v ∷ [])
  part-fine v may = fine-one K Ok Why (part_running v) (λ w h. fine-if K Ok Why w (is_part (fields_at w.control v).primary && is_running v w.control) _ Pass (may (is_grouped w.control v (partner_of w.control v)) w h) tt)

  alone-after : (a : ℕ) → May (Make (Suspend a false)) → Each (suspend_after a)
  alone-after a may = (fine-one K Ok Why (suspend_running a) (running-fine a may), tt)

  pub after_drain-fine : (k : Control) (a : ℕ) (ts : List ℕ) (n : ℕ) → May (Make (Suspend a false)) → (is_cascaded (fields_at k (partner_of k a)) ≡ true → May (Make (Suspend (partner_of k a) false)))
      → Each (follows_at (record { entries = drain_checks k a; follows = suspend_after a } ∷ drain_stretches k a ts) n)
  after_drain-fine k a ts n may second = drain-any Each k a ts n (alone-after a may) (λ is. (
    fine-one K Ok Why (suspend_running (partner_of k a)) (running-fine (partner_of k a) (second is)),
    (fine-one K Ok Why (suspend_unless (partner_of k a) a) (λ w h. fine-if K Ok Why w (is_running (partner_of k a) w.control) Pass _ tt (running-fine a may w h)), tt),
  ))

  pub after_write-fine : (k : Control) (n v t s : ℕ) → ((busy : Bool) → May (Make (Suspend v busy))) → (is_fed k v t ≡ true → May (Make (Suspend (partner_of k v) false))) → Each (after_write k n v t s)
  after_write-fine k n v t s may second = after-any k n v t Each s (alone-after v (may false)) (part-fine v may, tt) (λ is.
      (fine-one K Ok Why (suspend_running (partner_of k v)) (running-fine (partner_of k v) (second is)), (part-fine v may, tt)))

  -- a flash hold before a move, where a line asks for it
  pub hold-fine : (freeze : Bool) (s : ℕ) (ds : List Entry) → (freeze ≡ true → May (Make (FlashHold s))) → All ds → All (hold_first freeze s ++ ds)
  hold-fine true s ds may rest = fine-then K Ok Why (flash_hold_on s) ds (unless-fine (λ k. (fields_at k s).flash_hold) (Make (FlashHold s)) (may refl)) rest
  hold-fine false s ds may rest = rest

  pub destage-fine : (staged : Option ℕ) (v : ℕ) → May (Redo v) → May (Make (Unstage v)) → All (destage_entries staged v)
  destage-fine None v redo unstage = fine-none K Ok Why
  destage-fine (Some t) v redo unstage = fine-then K Ok Why (redo_now v) _ redo (last-move (Unstage v) unstage)

  -- a server that starts
  pub starts-fine : (s : ℕ) (vs : List ℕ) → ((v : ℕ) → May (Redo v)) → ((v : ℕ) → May (Make (Restart v))) → All (start_entries s vs)
  starts-fine s vs redo restart = fine-flat K Ok Why _ vs (λ v here.
      fine-then K Ok Why (redo_on s v) _ (where-fine (λ k. belongs k s v) (Redo v) (λ w h so. redo v w h))
      (fine-one K Ok Why (restart_on s v) (where-fine (λ k. belongs k s v && must_restart (fields_at k v)) (Make (Restart v)) (λ w h so. restart v w h))))

  pub start-fine : (s : ℕ) (vs : List ℕ) → ((v : ℕ) → May (Redo v)) → ((v : ℕ) → May (Make (Restart v))) → ((n : ℕ) (w : World) → K w → landed_on w.control s ≡ Some n → Ok w (Acknowledge n)) → All (start_entries s vs ++ acknowledge_on s ∷ [])
  start-fine s vs redo restart acknowledge = fine-append K Ok Why (start_entries s vs) _ (starts-fine s vs redo restart) (fine-one K Ok Why (acknowledge_on s) (λ w k. by w k (landed_on w.control s) refl))
    where
      by : (w : World) → K w → (o : Option ℕ) → landed_on w.control s ≡ o → Fine K Ok Why w (acknowledge_if o)
      by w k None is = tt
      by w k (Some n) is = acknowledge n w k is

  -- ---- tracks that targets keep first

  module _ (keep : (u t : ℕ) → May (Make (Keep u t))) (note : (u t : ℕ) → May (Make (Note u t))) where
    pub keep-fine : (v t u : ℕ) → One (keep_on v t u)
    keep-fine v t u w k =
        let f : Fields = fields_at w.control u in
        fine-if K Ok Why w (copies_from v f && not f.reversing) (keep_if f u t) Pass
        (fine-if K Ok Why w (not (contains f.own t)) (Do (Make (Keep u t))) _ (keep u t w k) (fine-if K Ok Why w (f.recorded && not (contains f.source_changes t)) (Do (Make (Note u t))) Pass (note u t w k) tt)) tt

    pub copies-fine : (volumes : List ℕ) (v t : ℕ) → All (copy_first volumes v t)
    copies-fine volumes v t = fine-map K Ok Why (keep_on v t) volumes (keep-fine v t)

    -- of a restore, and of a background copy
    pub copied-fine : (volumes : List ℕ) (s v : ℕ) (back : Bool) → (back ≡ true → (t : ℕ) → May (Make (Restore s t v))) → (back ≡ true → (t : ℕ) → May (Make (Release v t))) → ((t : ℕ) → May (Make (Fetch v t)))
        → All (cond back (give_back volumes s v) (fetch_next v ∷ []))
    copied-fine volumes s v true restore release fetch =
        fine-append K Ok Why _ _ (fine-map K Ok Why (λ u. for_lowest v (λ t. keep_on s t u)) volumes (λ u w k. fine-found K Ok Why w (lowest_held v w.control) (λ t. keep_on s t u) (λ t. keep-fine s t u w k)))
        (fine-then K Ok Why (for_lowest v (λ t. now (Restore s t v))) _ (λ w k. fine-found K Ok Why w (lowest_held v w.control) (λ t. now (Restore s t v)) (λ t. restore refl t w k))
        (fine-one K Ok Why (for_lowest v (λ t. now (Release v t))) (λ w k. fine-found K Ok Why w (lowest_held v w.control) (λ t. now (Release v t)) (λ t. release refl t w k))))
    copied-fine volumes s v false restore release fetch =
        fine-one K Ok Why (fetch_next v) (λ w k. fine-found K Ok Why w (lowest_missing v w.control) (λ t. now (Fetch v t)) (λ t. fetch t w k))

    -- tracks that are sent from a to b
    module _ (volumes : List ℕ) (a b : ℕ) (suspend : May (Make (Suspend a false))) (store : (t : ℕ) (last : Bool) → May (Make (Store b t a last))) (strike : (t : ℕ) (last : Bool) → May (Make (Strike a t last))) where
      pub sends-fine : ((k : Control) → WhyNot Why (send_refusal a b k)) → ((k : Control) → WhyNot Why (flashed_refusal b k)) → (ts : List ℕ) → All (sends volumes a b ts)
      sends-fine why flashed [] = fine-none K Ok Why
      sends-fine why flashed (t ∷ ts) =
          fine-append K Ok Why (send_entries volumes a b t) (sends volumes a b ts)
          (fine-then K Ok Why (suspend_where (send_refusal a b) a) _ (where-fine (λ k. is_some (send_refusal a b k)) (Make (Suspend a false)) (λ w h so. suspend w h))
          (fine-refuse K Ok Why (send_refusal a b) _ why (fine-refuse K Ok Why (flashed_refusal b) _ flashed
          (fine-append K Ok Why (copy_first volumes b t) _ (copies-fine volumes b t)
          (fine-then K Ok Why (store_on a b t) _ (λ w k. store t _ w k) (fine-one K Ok Why (strike_on a t) (λ w k. strike t _ w k)))))))
          (sends-fine why flashed ts)

    -- a track that is sent before a write lands
    module _ (volumes : List ℕ) (v u t : ℕ) (suspend : May (Make (Suspend v false))) (store : (last : Bool) → MayWhere (λ k. collides (fields_at k v) t) (Make (Store u t v last))) (strike : (last : Bool) → May (Make (Strike v t last))) where
      sent-one : (d : Entry) → One d → One (where_sent v u t d)
      sent-one d one w h = fine-if K Ok Why w (sends_first v u t w.control) (d w.control) Pass (one w h) tt

      sent-fine : (vs : List ℕ) → All (map (where_sent v u t) (map (keep_on u t) vs ++ store_on v u t ∷ strike_on v t ∷ []))
      sent-fine [] = fine-then K Ok Why (where_sent v u t (store_on v u t)) _ (λ w h. fine-when K Ok Why w (sends_first v u t w.control) _ (λ so. store _ w h (and_parts (collides (fields_at w.control v) t) _ so).0)) (fine-one K Ok Why (where_sent v u t (strike_on v t)) (sent-one (strike_on v t) (λ w h. strike _ w h)))
      sent-fine (x ∷ vs) = fine-then K Ok Why (where_sent v u t (keep_on u t x)) _ (sent-one (keep_on u t x) (keep-fine u t x)) (sent-fine vs)

      pub send_first-fine : All (send_first volumes v u t)
      send_first-fine = fine-then K Ok Why (suspend_unsent v u t) _ (where-fine (λ j. collides (fields_at j v) t && is_some (send_refusal v u j)) (Make (Suspend v false)) (λ w h so. suspend w h)) (sent-fine volumes)

    -- tracks that are sent from a to its cascaded secondary b, whose own is c
    module _ (volumes : List ℕ) (a b c : ℕ) (suspend : May (Make (Suspend a false))) (store : (t : ℕ) (last : Bool) → May (Make (Store b t a last))) (strike : (t : ℕ) (last : Bool) → May (Make (Strike a t last)))
        (suspend_b : May (Make (Suspend b false))) (store_c : (t : ℕ) (last : Bool) → May (Make (Store c t b last))) (strike_b : (t : ℕ) (last : Bool) → May (Make (Strike b t last))) where
      pub feeds-fine : ((k : Control) → WhyNot Why (send_refusal a b k)) → ((k : Control) → WhyNot Why (flashed_refusal b k)) → ((k : Control) → WhyNot Why (held_refusal b k)) → (ts : List ℕ) → All (entries_in (feeds volumes a b c ts))
      feeds-fine why flashed held [] = fine-none K Ok Why
      feeds-fine why flashed held (t ∷ ts) =
          fine-append K Ok Why _ _
          (fine-then K Ok Why (suspend_where (send_refusal a b) a) _ (where-fine (λ k. is_some (send_refusal a b k)) (Make (Suspend a false)) (λ w h so. suspend w h))
          (fine-refuse K Ok Why (send_refusal a b) _ why (fine-refuse K Ok Why (flashed_refusal b) _ flashed (fine-refuse K Ok Why (held_refusal b) _ held (fine-none K Ok Why)))))
          (fine-append K Ok Why (send_first volumes b c t) _ (send_first-fine volumes b c t suspend_b (λ last w h so. store_c t last w h) (strike_b t))
          (more ts (feeds-fine why flashed held ts)))
        where
          moves : All (copy_first volumes b t ++ store_on a b t ∷ strike_on a t ∷ [])
          moves = fine-append K Ok Why (copy_first volumes b t) _ (copies-fine volumes b t) (fine-then K Ok Why (store_on a b t) _ (λ w k. store t _ w k) (fine-one K Ok Why (strike_on a t) (λ w k. strike t _ w k)))

          more : (ts : List ℕ) → All (entries_in (feeds volumes a b c ts)) → All (entries_in (record { entries = copy_first volumes b t ++ store_on a b t ∷ strike_on a t ∷ []; follows = suspend_after a } ∷ feeds volumes a b c ts))
          more [] rest = moves
          more (u ∷ us) rest = fine-append K Ok Why _ _ moves rest

    -- ---- host writes

    -- the acts of host write n on track t of v
    pub record WriteMay (k : Control) (n v t : ℕ) : Type 0 where
      pub land : May (Make (Land n v t))
      pub over : May (Make (Overwrite n v t))
      pub suspend : (busy : Bool) → May (Make (Suspend v busy))
      pub unsync : goes_over (fields_at k v) t ≡ true → May (Make (Unsync v t))
      pub mirror : goes_over (fields_at k v) t ≡ true → May (Make (Mirror (partner_of k v) t v n))
      pub both : May (Make (LandBoth n v t))
      pub store : collides (fields_at k v) t ≡ true → (last : Bool) → May (Make (Store (partner_of k v) t v last))
      pub strike : collides (fields_at k v) t ≡ true → (last : Bool) → May (Make (Strike v t last))
      pub fed_suspend : is_fed k v t ≡ true → May (Make (Suspend (partner_of k v) false))
      pub fed_store : is_fed k v t ≡ true → (last : Bool) → MayWhere (λ j. collides (fields_at j (partner_of k v)) t) (Make (Store (partner_of k (partner_of k v)) t (partner_of k v) last))
      pub fed_strike : is_fed k v t ≡ true → (last : Bool) → May (Make (Strike (partner_of k v) t last))

    module _ (k : Control) (n v t : ℕ) (may : WriteMay k n v t) where
      alone-fine : All (land_alone k.volumes n v t)
      alone-fine = fine-append K Ok Why (copy_first k.volumes v t) _ (copies-fine k.volumes v t) (fine-one K Ok Why (land_on n v t) (λ w h. by w h (fields_at w.control v).related))
        where
          by : (w : World) → K w → (b : Bool) → Ok w (Make (cond b (Overwrite n v t) (Land n v t)))
          by w h true = may.over w h
          by w h false = may.land w h

      stores-fine : goes_over (fields_at k v) t ≡ true → All (mirror_and_land k.volumes n v t (partner_of k v))
      stores-fine over =
          let u : ℕ = partner_of k v in
          fine-append K Ok Why (copy_first k.volumes u t ++ now (Mirror u t v n) ∷ copy_first k.volumes v t) (now (LandBoth n v t) ∷ [])
          (fine-append K Ok Why (copy_first k.volumes u t) (now (Mirror u t v n) ∷ copy_first k.volumes v t) (copies-fine k.volumes u t) (fine-now K Ok Why (Mirror u t v n) _ (may.mirror over) (copies-fine k.volumes v t)))
          (last-move (LandBoth n v t) may.both)

      mirrored-fine : goes_over (fields_at k v) t ≡ true → All (land_mirrored k.volumes n v t (partner_of k v))
      mirrored-fine over = fine-now K Ok Why (Unsync v t) _ (may.unsync over) (stores-fine over)

      fed-fine : goes_over (fields_at k v) t ≡ true → is_fed k v t ≡ true → All (land_fed k.volumes n v t (partner_of k v) (partner_of k (partner_of k v)))
      fed-fine over fed =
          let u : ℕ = partner_of k v in
          fine-now K Ok Why (Unsync v t) _ (may.unsync over)
          (fine-append K Ok Why (send_first k.volumes u (partner_of k u) t) _ (send_first-fine k.volumes u (partner_of k u) t (may.fed_suspend fed) (may.fed_store fed) (may.fed_strike fed)) (stores-fine over))

      parted-fine : All (land_parted k n v t)
      parted-fine =
          let busy : Bool = is_grouped k v (partner_of k v) in
          fine-now K Ok Why (Suspend v busy) _ (may.suspend busy) (fine-choice K Ok Why busy [] (land_alone k.volumes n v t) (λ h. fine-none K Ok Why) (λ h. alone-fine))

      collided-fine : collides (fields_at k v) t ≡ true → All (land_collided k n v t)
      collided-fine met = fine-append K Ok Why (send_first k.volumes v (partner_of k v) t) (land_alone k.volumes n v t) (send_first-fine k.volumes v (partner_of k v) t (may.suspend false) (λ last w h so. may.store met last w h) (may.strike met)) alone-fine

      and_all : (a b c d : Bool) → a ≡ true → b ≡ false → c ≡ true → d ≡ false → (a && (not b && (c && not d))) ≡ true
      and_all a b c d p q r s = λ i. p i && (not (q i) && (r i && not (s i)))

      free-fine : All (cond (goes_over (fields_at k v) t) (land_over k n v t) (cond (collides (fields_at k v) t) (land_collided k n v t) (land_alone k.volumes n v t)))
      free-fine =
          fine-choice K Ok Why (goes_over (fields_at k v) t) (land_over k n v t) _
          (λ over. fine-choice K Ok Why (is_parted k v) (land_parted k n v t) _ (λ p. parted-fine)
          (λ p. fine-choice K Ok Why (is_held_back k v) [] _ (λ h. fine-none K Ok Why)
          (λ h. fine-choice K Ok Why (is_cascaded (fields_at k (partner_of k v))) _ (land_mirrored k.volumes n v t (partner_of k v))
          (λ c. fed-fine over (and_all (goes_over (fields_at k v) t) (is_parted k v) (is_cascaded (fields_at k (partner_of k v))) (is_held_back k v) over p c h)) (λ c. mirrored-fine over))))
          (λ o. fine-choice K Ok Why (collides (fields_at k v) t) (land_collided k n v t) (land_alone k.volumes n v t) collided-fine (λ c. alone-fine))

    -- on a held volume nothing is done
    pub lands-fine : (k : Control) (n v t : ℕ) → (held (fields_at k v) ≡ false → WriteMay k n v t) → All (land_entries k n v t)
    lands-fine k n v t may = fine-choice K Ok Why (held (fields_at k v)) [] _ (λ h. fine-none K Ok Why) (λ free. free-fine k n v t (may free))

  -- ---- orders

  -- the acts of an order of session s with number n to member m, and why it may be refused
  pub record OrderMay (s n : ℕ) (m : Member) : Type 0 where
    pub hold : May (Make (Hold m.a.0 s n false))
    pub open_attempt : (w : World) → K w → nat_lt (last_of w.control s) n ≡ true → Ok w (OpenAttempt m.a.0 s n)
    pub free : May (Make (Free m.a.0))
    pub seal : May (Make (Seal m.b.0 m.a.0 s n))
    pub finish : May (Make (Finish m.a.0 n))
    pub flash : May (Make (Flash m.c.0 m.b.0 m.a.0 s n))
    pub commit : May (Make (Commit m.c.0 m.a.0 s n))
    pub revert : May (Make (Revert m.c.0 m.a.0 s n))
    pub raise : May (Make (RaiseFloor m.c.0 n))

  pub record OrderWhy (n : ℕ) (m : Member) : Type 0 where
    pub hold : (k : Control) → WhyNot Why (hold_refusal m.a.0 m.b.0 k)
    pub stale : (k : Control) → WhyNot Why (stale_refusal m.a.0 n k)
    pub void : (k : Control) → WhyNot Why (void_refusal m.a.0 n k)
    pub seal : (k : Control) → WhyNot Why (seal_refusal m.a.0 m.b.0 k)
    pub send : (k : Control) → WhyNot Why (send_refusal m.a.0 m.b.0 k)
    pub flash : (k : Control) → WhyNot Why (flash_refusal m.b.0 m.c.0 n k)
    pub commit : (k : Control) → WhyNot Why (commit_refusal m.c.0 n k)
    pub reach : (k : Control) → WhyNot Why (reach_refusal m.a.0 m.b.0 k)

  member-fine : (work : phases.Work) (s n : ℕ) (m : Member) → OrderMay s n m → OrderWhy n m → All (member_entries work s n m)
  member-fine phases.Hold s n m may why =
      fine-refuse K Ok Why (hold_refusal m.a.0 m.b.0) _ why.hold (fine-refuse K Ok Why (stale_refusal m.a.0 n) _ why.stale
      (fine-one K Ok Why (hold_on s m.a.0 n) (λ w k. fine-if K Ok Why w (records n (fields_at w.control m.a.0)) Pass _ tt (by w k (nat_lt (last_of w.control s) n) refl))))
    where
      by : (w : World) → K w → (b : Bool) → nat_lt (last_of w.control s) n ≡ b → Ok w (cond b (OpenAttempt m.a.0 s n) (Make (Hold m.a.0 s n false)))
      by w k true newer = may.open_attempt w k newer
      by w k false older = may.hold w k
  member-fine phases.Release s n m may why = fine-refuse K Ok Why (void_refusal m.a.0 n) _ why.void (fine-one K Ok Why (free_on m.a.0) (where-fine (λ k. (fields_at k m.a.0).coordination) (Make (Free m.a.0)) (λ w h so. may.free w h)))
  member-fine phases.Seal s n m may why =
      fine-refuse K Ok Why (void_refusal m.a.0 n) _ why.void (fine-refuse K Ok Why (seal_refusal m.a.0 m.b.0) _ why.seal
      (fine-one K Ok Why (seal_on s m.a.0 m.b.0 n) (λ w k. fine-if K Ok Why w _ (Do (Make (Seal m.b.0 m.a.0 s n))) Pass (may.seal w k) tt)))
  member-fine phases.Finish s n m may why = fine-one K Ok Why (finish_on m.a.0 n) (unless-fine (λ k. is_past n (fields_at k m.a.0)) (Make (Finish m.a.0 n)) may.finish)
  member-fine phases.Flash s n m may why =
      fine-refuse K Ok Why (send_refusal m.a.0 m.b.0) _ why.send (fine-refuse K Ok Why (flash_refusal m.b.0 m.c.0 n) _ why.flash
      (fine-one K Ok Why (flash_on s m.a.0 m.b.0 m.c.0 n) (unless-fine (λ k. is_flashed n (fields_at k m.c.0)) (Make (Flash m.c.0 m.b.0 m.a.0 s n)) may.flash)))
  member-fine phases.Commit s n m may why =
      fine-refuse K Ok Why (send_refusal m.a.0 m.b.0) _ why.send (fine-refuse K Ok Why (commit_refusal m.c.0 n) _ why.commit
      (fine-one K Ok Why (commit_on s m.a.0 m.c.0 n) (unless-fine (λ k. is_committed n (fields_at k m.c.0)) (Make (Commit m.c.0 m.a.0 s n)) may.commit)))
  member-fine phases.Revert s n m may why =
      fine-refuse K Ok Why (send_refusal m.a.0 m.b.0) _ why.send
      (fine-one K Ok Why (revert_on s m.a.0 m.c.0 n) (λ w k. fine-if K Ok Why w (is_flashed n (fields_at w.control m.c.0)) (Do (Make (Revert m.c.0 m.a.0 s n))) _ (may.revert w k)
      (fine-if K Ok Why w (nat_lt (fields_at w.control m.c.0).floor n) (Do (Make (RaiseFloor m.c.0 n))) Pass (may.raise w k) tt)))
  member-fine phases.Report s n m may why = fine-refuse K Ok Why (reach_refusal m.a.0 m.b.0) [] why.reach (fine-none K Ok Why)

  pub order-fine : (work : phases.Work) (s n : ℕ) (ms : List Member) → ((m : Member) → In m ms → OrderMay s n m) → ((m : Member) → OrderWhy n m) → All (order_entries work s n ms)
  order-fine work s n ms may why = fine-flat K Ok Why (member_entries work s n) ms (λ m here. member-fine work s n m (may m here) (why m))

  -- ---- members that come, and recoveries

  pub add-fine : (m : Member) (n : ℕ) → May (Make (RaiseAttempt m.a.0 n)) → May (Make (RaiseFloor m.c.0 n)) → All (add_entries m n)
  add-fine m n attempt floor =
      fine-then K Ok Why (raise_attempt_on m.a.0 n) _ (where-fine (λ k. nat_lt (fields_at k m.a.0).attempt n) (Make (RaiseAttempt m.a.0 n)) (λ w h so. attempt w h))
      (fine-one K Ok Why (raise_floor_on m.c.0 n) (where-fine (λ k. nat_lt (fields_at k m.c.0).floor n) (Make (RaiseFloor m.c.0 n)) (λ w h so. floor w h)))

  -- a target is committed or reverted, as was decided
  pub settle-fine : (s : ℕ) (d : Decision) (m : Member) → (lets_revert d ≡ false → (n : ℕ) → May (Make (Commit m.c.0 m.a.0 s n))) → (lets_revert d ≡ true → (n : ℕ) → May (Make (Revert m.c.0 m.a.0 s n))) → One (settle_on s d m)
  settle-fine s (CommitRest n) m commit revert = where-fine (λ k. is_flashed n (fields_at k m.c.0)) (Make (Commit m.c.0 m.a.0 s n)) (λ w h so. commit refl n w h)
  settle-fine s (RevertAll n) m commit revert = where-fine (λ k. is_flashed n (fields_at k m.c.0)) (Make (Revert m.c.0 m.a.0 s n)) (λ w h so. revert refl n w h)
  settle-fine s (RevertSome o n) m commit revert = where-fine (λ k. is_flashed n (fields_at k m.c.0)) (Make (Revert m.c.0 m.a.0 s n)) (λ w h so. revert refl n w h)
  settle-fine s NoMember m commit revert = λ w k. tt
  settle-fine s (Nothing n) m commit revert = λ w k. tt
  settle-fine s (Impossible a b) m commit revert = λ w k. tt

  pub recover-fine : (s : ℕ) (d : Decision) (ms : List Member) → ((m : Member) → In m ms → (w : World) → K w → is_part (fields_at w.control m.b.0).secondary ≡ true → Ok w (Make (TakeOver m.b.0)))
      → ((m : Member) → In m ms → lets_revert d ≡ false → (n : ℕ) → May (Make (Commit m.c.0 m.a.0 s n))) → ((m : Member) → In m ms → lets_revert d ≡ true → (n : ℕ) → May (Make (Revert m.c.0 m.a.0 s n))) → ((n : ℕ) → May (EndRecovery s n)) → All (recover_entries s d ms)
  recover-fine s d ms take commit revert end =
      fine-append K Ok Why (map take_over_on ms) _ (fine-each K Ok Why take_over_on ms (λ m here. where-fine (λ k. is_part (fields_at k m.b.0).secondary) (Make (TakeOver m.b.0)) (take m here)))
      (fine-append K Ok Why (map (settle_on s d) ms) _ (fine-each K Ok Why (settle_on s d) ms (λ m here. settle-fine s d m (commit m here) (revert m here)))
      (fine-one K Ok Why (end_recovery s) (λ w k. end _ w k)))
