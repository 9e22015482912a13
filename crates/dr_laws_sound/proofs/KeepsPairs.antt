-- Each kind of move keeps the pair law: outside the tracks that primaries record, both volumes of a pair contain the same.
use Rattle.std.proofs.Common.{ℕ, ◌≡◌, ◌≢◌, ◌<◌, ◌⊎◌, inl, inr, refl, ap, sym, ◌∙◌, subst, Bool, true, false, cond, not, ◌&&◌, ◌||◌, List, Some, None}
use Rattle.std.proofs.lemmas.Bool.{or_parts}
use Rattle.std.proofs.lemmas.Bool.Decides.{eqb_tells}
use Rattle.std.specs.Ordering.{nat_cmp}
use Rattle.std.specs.FinSet.{contains, insert, remove, empty, union}
use Rattle.dr_logic.specs.Tables.{at}
use Rattle.dr_model.specs.Layout.{Tracks, Fields, is_part}
use Rattle.dr_model.specs.Histories.{Write}
use Rattle.dr_model.specs.Contents.{with_write}
use Rattle.dr_model.specs.Pairs.{is_engaged}
use Rattle.dr_model.specs.Relations.{all_tracks}
use Rattle.dr_model.specs.Moves.{Move, Land, Overwrite, Keep, Withdraw, Fetch, Reverse, Restore, Release, Store, Strike, Suspend, MakeSecondary, MakePrimary, DropPrimary, DropSecondary, TakeOver, LeavePrimary, FallBack, Yield, Unsync, Mirror, LandBoth, Lift, Restart, Hold, Finish, target}
use Rattle.dr_model.specs.Table.{Row, Table}
use Rattle.dr_model.specs.Rows.{after, next_row}
use Rattle.dr_model.specs.Laws.{Structure, Parts, Recorders, PairLaw, Alike, unsent, source, its_primary, its_secondary, fields}
use Rattle.dr_model.specs.Allowed.{Allowed}
use Rattle.dr_facts.proofs.Tables.{IsOrNot, at_cases, linked-at}
use Rattle.dr_laws_sound.proofs.KeepsParts.{no_partner, part-shape}
use Rattle.dr_facts.proofs.Parts.{two-partners}
use Rattle.dr_facts.proofs.Sets.{not_inserted, remove_other, not_in_union, in_all}
use Rattle.dr_logic.proofs.Choices.{chosen}
use Rattle.dr_logic.proofs.Truth.{contrary, false_true}
use Rattle.dr_logic.proofs.Tables.{at_same, at_other}

-- which tracks are unsent: one more, one less, and after a void
more-unsent : (part : Bool) (out recording : Tracks) (t q : ℕ) → part ≡ true → (contains (cond part (insert out t) out) q || contains recording q) ≡ false → ((contains out q || contains recording q) ≡ false) × (q ≢ t)
more-unsent true out recording t q is h = let both = or_parts _ _ h in let not = not_inserted out t q both.0 in ((λ i. not.0 i || both.1 i), not.1)
more-unsent false out recording t q is h = absurd cc

write-unsent : (part records : Bool) (out recording : Tracks) (t q : ℕ) → part ≡ true → (contains (cond (part && not records) (insert out t) out) q || contains (cond (part && records) (insert recording t) recording) q) ≡ false
    → ((contains out q || contains recording q) ≡ false) × (q ≢ t)
write-unsent true true out recording t q is h = let both = or_parts _ _ h in let not = not_inserted recording t q both.1 in ((λ i. both.0 i || not.0 i), not.1)
write-unsent true false out recording t q is h = let both = or_parts _ _ h in let not = not_inserted out t q both.0 in ((λ i. not.0 i || both.1 i), not.1)
write-unsent false records out recording t q is h = absurd cc

-- and where nothing had changed, and nothing has since
none-unsent : (out recording : Tracks) (q : ℕ) → contains recording q ≡ false → (contains out q || contains {R = nat_cmp} empty q) ≡ false → (contains out q || contains recording q) ≡ false
none-unsent out recording q none h = let both = or_parts _ _ h in (λ i. both.0 i || none i)

less-unsent : (out recording : Tracks) (t q : ℕ) → q ≢ t → (contains (remove out t) q || contains recording q) ≡ false → (contains out q || contains recording q) ≡ false
less-unsent out recording t q ne h = ap (λ b. b || contains recording q) (sym (remove_other out t q ne)) ∙ h

void-unsent : (e : Bool) (out recording : Tracks) (q : ℕ) → (contains (cond e (union out recording) out) q || contains (cond e empty recording) q) ≡ false → (contains out q || contains recording q) ≡ false
void-unsent true out recording q h = let not = not_in_union out recording q (or_parts _ _ h).0 in (λ i. not.0 i || not.1 i)
void-unsent false out recording q h = h

more-void-unsent : (e : Bool) (out recording more : Tracks) (q : ℕ) → (contains (union (cond e (union out recording) out) more) q || contains (cond e empty recording) q) ≡ false → (contains out q || contains recording q) ≡ false
more-void-unsent e out recording more q h =
    let both = or_parts _ _ h in
    let less = (not_in_union (cond e (union out recording) out) more q both.0).0 in
    void-unsent e out recording q (λ i. less i || both.1 i)

full-unsent : {P : Type 0} (full : Bool) (n q : ℕ) (rest : Bool) → q < n → (contains (cond full (all_tracks n) empty) q || rest) ≡ false → (full ≡ false → P) → P
full-unsent true n q rest lt h go = false_true (or_parts _ _ h).0 (in_all n q lt)
full-unsent false n q rest lt h go = go refl

module _ (write : ℕ → Write) (T : Table) (structure : Structure T) (parts : Parts T) (recorders : Recorders T) (old : PairLaw T) where
  abbrev row : Move → Row
  row m = next_row write m T

  -- what a changed row owes
  changed : (m : Move) → Allowed write T m → ((u : ℕ) → its_secondary (row m) ≡ Some u → Alike (target m) (row m) u (T u)) → ((u : ℕ) → its_secondary (T u) ≡ Some (target m) → Alike u (T u) (target m) (row m)) → PairLaw (after write T m)
  changed m a from onto =
      linked-at T (target m) (row m) its_secondary Alike (λ u ne. from u) (λ h. no_partner T parts (target m) ((part-shape T parts write structure m a).second (target m) h)) (λ u ne. onto u) old

  -- what the primary of a secondary has sent is on both, whatever the secondary hasn't sent as a primary
  from-first : (u v : ℕ) → its_secondary (T u) ≡ Some v → its_primary (T v) ≡ Some u → (q : ℕ) → q < (T u).volume.tracks → unsent (T u) q ≡ false → (T u).bytes q ≡ (T v).bytes q
  from-first u v h k q lt sent = old u v h (inl k) q lt sent (two-partners (T v) u (parts.fit v) k)

  -- a target has no part
  target_first : {P : Type 0} (v : ℕ) {s u : ℕ} → source (T v) ≡ Some s → its_secondary (T v) ≡ Some u → P
  target_first v {s} {u} is h = false_true ((parts.fit v).no_primary (chosen _ _ s is).0) (chosen _ _ u h).0

  target_part : {P : Type 0} (v : ℕ) {s u : ℕ} → source (T v) ≡ Some s → (its_primary (T v) ≡ Some u) ⊎ (its_secondary (T v) ≡ Some u) → P
  target_part v {s} {u} is (inl h) = false_true ((parts.fit v).no_secondary (chosen _ _ s is).0) (chosen _ _ u h).0
  target_part v is (inr h) = target_first v is h

  -- a track is stored at v, which is no secondary: of a primary it is unsent from then on
  module _ (v t : ℕ) (b : List ℕ) (free : is_part (fields T v).secondary ≡ false) (unsent_then : ℕ → Bool)
      (less_then : (q : ℕ) → is_part (fields T v).primary ≡ true → unsent_then q ≡ false → (unsent (T v) q ≡ false) × (q ≢ t)) where
    abbrev f : Fields
    f = fields T v

    parted-from : (u : ℕ) → its_secondary (T v) ≡ Some u → (its_primary (T u) ≡ Some v) ⊎ (its_secondary (T u) ≡ Some v) → (q : ℕ) → q < (T v).volume.tracks → unsent_then q ≡ false → (its_secondary (T u) ≡ Some v → unsent (T u) q ≡ false)
        → at (T v).bytes t b q ≡ (T u).bytes q
    parted-from u h link q lt sent back =
        let less = less_then q (chosen _ _ u h).0 sent in
        at_other (T v).bytes t b q less.1 ∙ old v u h link q lt less.0 back

    parted-onto : (u : ℕ) → its_secondary (T u) ≡ Some v → (its_primary (T v) ≡ Some u) ⊎ (its_secondary (T v) ≡ Some u) → (q : ℕ) → q < (T u).volume.tracks → unsent (T u) q ≡ false → (its_secondary (T v) ≡ Some u → unsent_then q ≡ false)
        → (T u).bytes q ≡ at (T v).bytes t b q
    parted-onto u h (inl k) q lt sent back = false_true free (chosen _ _ u k).0
    parted-onto u h (inr k) q lt sent back =
        let less = less_then q (chosen _ _ u k).0 (back k) in
        old u v h (inr k) q lt sent (λ k. less.0) ∙ sym (at_other (T v).bytes t b q less.1)

  -- a host write lands, and a track comes back
  abbrev unsent_written : ℕ → ℕ → ℕ → Bool
  unsent_written v t q = let f : Fields = fields T v in contains (cond (is_part f.primary && not f.recording) (insert f.out_of_sync t) f.out_of_sync) q || contains (cond (is_part f.primary && f.recording) (insert f.change_recording t) f.change_recording) q

  abbrev unsent_altered : ℕ → ℕ → ℕ → Bool
  unsent_altered v t q = let f : Fields = fields T v in contains (cond (is_part f.primary) (insert f.out_of_sync t) f.out_of_sync) q || contains f.change_recording q

  less-written : (v t q : ℕ) → is_part (fields T v).primary ≡ true → unsent_written v t q ≡ false → (unsent (T v) q ≡ false) × (q ≢ t)
  less-written v t q is h = let f : Fields = fields T v in write-unsent (is_part f.primary) f.recording f.out_of_sync f.change_recording t q is h

  less-altered : (v t q : ℕ) → is_part (fields T v).primary ≡ true → unsent_altered v t q ≡ false → (unsent (T v) q ≡ false) × (q ≢ t)
  less-altered v t q is h = let f : Fields = fields T v in more-unsent (is_part f.primary) f.out_of_sync f.change_recording t q is h

  -- a secondary stores a track, which its primary has too, or has out of sync
  stored-from : (v t x : ℕ) (b : List ℕ) → its_secondary (T v) ≡ Some x → (its_primary (T x) ≡ Some v) ⊎ (its_secondary (T x) ≡ Some v) → (q : ℕ) → q < (T v).volume.tracks → unsent_written v t q ≡ false
      → (its_secondary (T x) ≡ Some v → unsent (T x) q ≡ false) → at (T v).bytes t b q ≡ (T x).bytes q
  stored-from v t x b h link q lt sent back =
      let less = less-written v t q (chosen _ _ x h).0 sent in
      at_other (T v).bytes t b q less.1 ∙ old v x h link q lt less.0 back

  stored-onto : (v t u : ℕ) (b : List ℕ) → its_primary (T v) ≡ Some u → (unsent (T u) t ≡ false → (T u).bytes t ≡ b) → (x : ℕ) → its_secondary (T x) ≡ Some v → (its_primary (T v) ≡ Some x) ⊎ (its_secondary (T v) ≡ Some x) → (q : ℕ) → q < (T x).volume.tracks → unsent (T x) q ≡ false
      → (its_secondary (T v) ≡ Some x → unsent_written v t q ≡ false) → (T x).bytes q ≡ at (T v).bytes t b q
  stored-onto v t u b takes here x h (inl k) q =
      let same : u ≡ x = sym (chosen _ _ u takes).1 ∙ (chosen _ _ x k).1 in
      at_cases (λ q c. q < (T x).volume.tracks → unsent (T x) q ≡ false → (its_secondary (T v) ≡ Some x → unsent_written v t q ≡ false) → (T x).bytes q ≡ c) (T v).bytes t b
      (λ lt sent back. subst (λ j. unsent (T j) t ≡ false → (T j).bytes t ≡ b) same here sent) (λ q ne lt sent back. old x v h (inl k) q lt sent (λ l. (less-written v t q (chosen _ _ x l).0 (back l)).0)) q
  stored-onto v t u b takes here x h (inr k) q = λ lt sent back.
      let less = less-written v t q (chosen _ _ x k).0 (back k) in
      old x v h (inr k) q lt sent (λ l. less.0) ∙ sym (at_other (T v).bytes t b q less.1)

  -- and the primary strikes it off, or comes to contain it
  module _ (v t to : ℕ) (sends : its_secondary (T v) ≡ Some to) (B : ℕ → List ℕ) (here : (T to).bytes t ≡ B t) (there : (q : ℕ) → q ≢ t → B q ≡ (T v).bytes q)
      (second : is_part (fields T v).secondary ≡ true → (q : ℕ) → (T v).bytes q ≡ B q) where
    abbrev unsent_else : ℕ → Bool
    unsent_else q = contains (remove (fields T v).out_of_sync t) q || contains (fields T v).change_recording q

    struck-from : (u : ℕ) → its_secondary (T v) ≡ Some u → (its_primary (T u) ≡ Some v) ⊎ (its_secondary (T u) ≡ Some v) → (q : ℕ) → IsOrNot q t → q < (T v).volume.tracks
        → unsent_else q ≡ false → (its_secondary (T u) ≡ Some v → unsent (T u) q ≡ false) → B q ≡ (T u).bytes q
    struck-from u h link q (inl is) lt sent back =
        let same : to ≡ u = sym (chosen _ _ to sends).1 ∙ (chosen _ _ u h).1 in
        subst (λ j. B j ≡ (T u).bytes j) (sym is.1) (sym here ∙ ap (λ j. (T j).bytes t) same)
    struck-from u h link q (inr not) lt sent back = there q not.1 ∙ old v u h link q lt (less-unsent _ _ t q not.1 sent) back

    struck-onto : (u : ℕ) → its_secondary (T u) ≡ Some v → (its_primary (T v) ≡ Some u) ⊎ (its_secondary (T v) ≡ Some u) → (q : ℕ) → IsOrNot q t → q < (T u).volume.tracks → unsent (T u) q ≡ false
        → (its_secondary (T v) ≡ Some u → unsent_else q ≡ false) → (T u).bytes q ≡ B q
    struck-onto u h (inl k) q told lt sent back = from-first u v h k q lt sent ∙ second (chosen _ _ u k).0 q
    struck-onto u h (inr k) q (inl is) lt sent back =
        let same : to ≡ u = sym (chosen _ _ to sends).1 ∙ (chosen _ _ u k).1 in
        subst (λ j. (T u).bytes j ≡ B j) (sym is.1) (ap (λ j. (T j).bytes t) (sym same) ∙ here)
    struck-onto u h (inr k) q (inr not) lt sent back = old u v h (inr k) q lt sent (λ l. less-unsent _ _ t q not.1 (back k)) ∙ sym (there q not.1)

  -- a secondary becomes a primary of its primary
  taken_over : (v u q : ℕ) → its_primary (T v) ≡ Some u → its_secondary (T u) ≡ Some v → q < (T u).volume.tracks → unsent (T u) q ≡ false → (T u).bytes q ≡ (T v).bytes q
  taken_over v u q h k lt sent = from-first u v k h q lt sent

  over-from : (v u : ℕ) → its_primary (T v) ≡ Some u → (its_primary (T u) ≡ Some v) ⊎ (its_secondary (T u) ≡ Some v) → (q : ℕ) → q < (T v).volume.tracks → (its_secondary (T u) ≡ Some v → unsent (T u) q ≡ false) → (T v).bytes q ≡ (T u).bytes q
  over-from v u h (inl k) q lt back = absurd (parts.one_way v u h k)
  over-from v u h (inr k) q lt back = sym (taken_over v u q h k (subst (λ n. q < n) (parts.primary v u h).same_tracks lt) (back k))

  over-onto : (v u : ℕ) → its_secondary (T u) ≡ Some v → (None ≡ Some u) ⊎ (its_primary (T v) ≡ Some u) → (q : ℕ) → q < (T u).volume.tracks → unsent (T u) q ≡ false → (T u).bytes q ≡ (T v).bytes q
  over-onto v u h (inl k) q lt sent = absurd cc
  over-onto v u h (inr k) q lt sent = taken_over v u q k h lt sent

  -- a volume is a secondary no more
  gone-onto : (v x : ℕ) → its_secondary (T x) ≡ Some v → (None ≡ Some x) ⊎ (its_secondary (T v) ≡ Some x) → (q : ℕ) → q < (T x).volume.tracks → unsent (T x) q ≡ false → (its_secondary (T v) ≡ Some x → unsent (T v) q ≡ false) → (T x).bytes q ≡ (T v).bytes q
  gone-onto v x h (inl k) = absurd cc
  gone-onto v x h (inr k) = old x v h (inr k)

  -- a pair is made
  made-from : (v u : ℕ) (full part : Bool) → (full ≡ false → (q : ℕ) → q < (T v).volume.tracks → (T v).bytes q ≡ (T u).bytes q) → (x : ℕ) → cond part (Some u) None ≡ Some x → (q : ℕ) → q < (T v).volume.tracks
      → (contains (cond full (all_tracks (T v).volume.tracks) empty) q || contains {R = nat_cmp} empty q) ≡ false → (T v).bytes q ≡ (T x).bytes q
  made-from v u full part equal x h q lt sent =
      subst (λ j. (T v).bytes q ≡ (T j).bytes q) (chosen part u x h).1 (full-unsent full (T v).volume.tracks q (contains {R = nat_cmp} empty q) lt sent (λ no. equal no q lt))

  pub kept-pairs : (m : Move) → Allowed write T m → PairLaw (after write T m)
  kept-pairs (Land w v t) a = changed (Land w v t) a (parted-from v t _ a.first (unsent_written v t) (less-written v t)) (parted-onto v t _ a.first (unsent_written v t) (less-written v t))
  kept-pairs (Restore v t u) a = let free = parts.free u v a.related a.reversing in changed (Restore v t u) a (parted-from v t _ free (unsent_altered v t) (less-altered v t)) (parted-onto v t _ free (unsent_altered v t) (less-altered v t))
  kept-pairs (Overwrite w v t) a = changed (Overwrite w v t) a (λ u h. target_first v a.related h) (λ u h k. target_part v a.related k)
  kept-pairs (Keep v t) a = changed (Keep v t) a (λ u h. target_first v a.related h) (λ u h k. target_part v a.related k)
  kept-pairs (Fetch v t) a = changed (Fetch v t) a (λ u h. target_first v a.related h) (λ u h k. target_part v a.related k)
  kept-pairs (Withdraw v) a = changed (Withdraw v) a (λ u h. target_first v a.related h) (λ u h k. target_part v a.related k)
  kept-pairs (Reverse v left) a = changed (Reverse v left) a (λ u h. target_first v a.resync.related h) (λ u h k. target_part v a.resync.related k)
  kept-pairs (Release v t) a = changed (Release v t) a (λ u h. target_first v a.related h) (λ u h k. target_part v a.related k)
  kept-pairs (Store v t u last) a = changed (Store v t u last) a (λ x h. stored-from v t x _ h) (stored-onto v t u _ a.takes (λ sent. refl))
  kept-pairs (Mirror v t u w) a = changed (Mirror v t u w) a (λ x h. stored-from v t x _ h) (stored-onto v t u _ a.takes (λ sent. false_true (or_parts _ _ sent).0 a.out))
  kept-pairs (Strike v t last) a =
      changed (Strike v t last) a (λ u h k q. struck-from v t a.to a.sends (T v).bytes a.equal (λ q ne. refl) (λ is q. refl) u h k q (eqb_tells q t)) (λ u h k q. struck-onto v t a.to a.sends (T v).bytes a.equal (λ q ne. refl) (λ is q. refl) u h k q (eqb_tells q t))
  kept-pairs (LandBoth w v t) a =
      let b : List ℕ = with_write write ((T v).bytes t) w in
      let B : (ℕ → List ℕ) = at (T v).bytes t b in
      let here : (T a.to).bytes t ≡ B t = a.equal ∙ sym (at_same (T v).bytes t b) in
      let second : (is_part (fields T v).secondary ≡ true → (q : ℕ) → (T v).bytes q ≡ B q) = λ is. false_true a.land.first is in
      changed (LandBoth w v t) a (λ u h k q. struck-from v t a.to a.sends B here (at_other (T v).bytes t b) second u h k q (eqb_tells q t))
      (λ u h k q. struck-onto v t a.to a.sends B here (at_other (T v).bytes t b) second u h k q (eqb_tells q t))
  kept-pairs (Unsync v t) a = let f : Fields = fields T v in
      changed (Unsync v t) a (λ u h k q lt sent. old v u h k q lt (more-unsent true f.out_of_sync f.change_recording t q refl sent).0)
      (λ u h k q lt sent back. old u v h k q lt sent (λ l. (more-unsent true f.out_of_sync f.change_recording t q refl (back l)).0))
  kept-pairs (Suspend v busy) a = let f : Fields = fields T v in
      changed (Suspend v busy) a (λ u h k q lt sent. old v u h k q lt (void-unsent (is_engaged f) f.out_of_sync f.change_recording q sent))
      (λ u h k q lt sent back. old u v h k q lt sent (λ l. void-unsent (is_engaged f) f.out_of_sync f.change_recording q (back l)))
  kept-pairs (Lift v) a = let f : Fields = fields T v in
      changed (Lift v) a (λ u h k q lt sent. old v u h k q lt (void-unsent f.coordination f.out_of_sync f.change_recording q sent))
      (λ u h k q lt sent back. old u v h k q lt sent (λ l. void-unsent f.coordination f.out_of_sync f.change_recording q (back l)))
  kept-pairs (Restart v) a = let f : Fields = fields T v in
      changed (Restart v) a (λ u h k q lt sent. old v u h k q lt (void-unsent (is_engaged f) f.out_of_sync f.change_recording q sent))
      (λ u h k q lt sent back. old u v h k q lt sent (λ l. void-unsent (is_engaged f) f.out_of_sync f.change_recording q (back l)))
  kept-pairs (Finish v n) a = let f : Fields = fields T v in
      changed (Finish v n) a (λ u h k q lt sent. old v u h k q lt (void-unsent (is_engaged f) f.out_of_sync f.change_recording q sent))
      (λ u h k q lt sent back. old u v h k q lt sent (λ l. void-unsent (is_engaged f) f.out_of_sync f.change_recording q (back l)))
  kept-pairs (Hold v s n first) a = let f : Fields = fields T v in
      changed (Hold v s n first) a (λ u h k q lt sent. old v u h k q lt (none-unsent f.out_of_sync f.change_recording q ((recorders v).none a.idle q) sent))
      (λ u h k q lt sent back. old u v h k q lt sent (λ l. none-unsent f.out_of_sync f.change_recording q ((recorders v).none a.idle q) (back l)))
  kept-pairs (MakeSecondary v u kind state) a = changed (MakeSecondary v u kind state) a (λ x h. false_true a.first (chosen _ _ x h).0) (λ x h k. either x h k)
    where
      either : {P : Type 0} (x : ℕ) → its_secondary (T x) ≡ Some v → (cond (is_part kind) (Some u) None ≡ Some x) ⊎ (its_secondary (T v) ≡ Some x) → P
      either x h (inl k) = false_true (subst (λ j. is_part (fields T j).primary ≡ false) (chosen (is_part kind) u x k).1 a.from_first) (chosen _ _ v h).0
      either x h (inr k) = false_true a.first (chosen _ _ x k).0
  kept-pairs (MakePrimary v u kind state full) a = changed (MakePrimary v u kind state full) a (λ x h k q lt sent back. made-from v u full (is_part kind) a.equal x h q lt sent) (λ x h k q lt sent back. either x h k q lt sent)
    where
      either : (x : ℕ) → its_secondary (T x) ≡ Some v → (its_primary (T v) ≡ Some x) ⊎ (cond (is_part kind) (Some u) None ≡ Some x) → (q : ℕ) → q < (T x).volume.tracks → unsent (T x) q ≡ false → (T x).bytes q ≡ (T v).bytes q
      either x h (inl k) = from-first x v h k
      either x h (inr k) = λ q lt sent. two-partners (T u) v (parts.fit u) a.takes (subst (λ j. its_secondary (T j) ≡ Some v) (sym (chosen (is_part kind) u x k).1) h)
  kept-pairs (DropPrimary v) a = changed (DropPrimary v) a (λ u h. absurd cc) (λ u h k q lt sent back. either u h k q lt sent)
    where
      either : (x : ℕ) → its_secondary (T x) ≡ Some v → (its_primary (T v) ≡ Some x) ⊎ (None ≡ Some x) → (q : ℕ) → q < (T x).volume.tracks → unsent (T x) q ≡ false → (T x).bytes q ≡ (T v).bytes q
      either x h (inl k) = from-first x v h k
      either x h (inr k) = absurd cc
  kept-pairs (DropSecondary v) a = changed (DropSecondary v) a (old v) (λ u h. gone-onto v u h)
  kept-pairs (LeavePrimary v) a = changed (LeavePrimary v) a (old v) (λ u h. gone-onto v u h)
  kept-pairs (TakeOver v) a = changed (TakeOver v) a (λ u h k q lt sent back. over-from v u h k q lt back) (λ u h k q lt sent back. over-onto v u h k q lt sent)
  kept-pairs (FallBack v more state) a = let f : Fields = fields T v in
      changed (FallBack v more state) a (λ u h k q lt sent. old v u h k q lt (more-void-unsent (is_engaged f) f.out_of_sync f.change_recording more q sent))
      (λ u h k q lt sent back. old u v h k q lt sent (λ l. more-void-unsent (is_engaged f) f.out_of_sync f.change_recording more q (back l)))
  kept-pairs (Yield v u kind state) a = changed (Yield v u kind state) a (λ x h. absurd cc) (λ x h k. either x h k)
    where
      -- outside what u has out of sync nothing of v is unsent
      either : (x : ℕ) → its_secondary (T x) ≡ Some v → (cond (is_part kind) (Some u) None ≡ Some x) ⊎ (None ≡ Some x) → (q : ℕ) → q < (T x).volume.tracks → unsent (T x) q ≡ false → (None ≡ Some x → unsent (next_row write (Yield v u kind state) T) q ≡ false) → (T x).bytes q ≡ (T v).bytes q
      either x h (inl k) q lt sent back =
          let same : u ≡ x = (chosen (is_part kind) u x k).1 in
          let less : unsent (T v) q ≡ false = contrary _ _ (a.out q) (or_parts _ _ (subst (λ j. unsent (T j) q ≡ false) (sym same) sent)).0 in
          old x v h (inr (a.sends ∙ ap (λ j. Some j) same)) q lt sent (λ l. less)
      either x h (inr k) q lt sent back = absurd cc
  kept-pairs m a = changed m a (old (target m)) (λ u. old u (target m))
