-- What follows a stop in a host write, and in a drain: one of few lists.
use Rattle.std.proofs.Common.{ℕ, ◌≡◌, ◌-◌, refl, sym, ◌∙◌, length, Bool, true, false, cond, not, ◌&&◌, ◌++◌, List, [], ◌∷◌}
use Rattle.std.specs.Prelude.{nat_lt}
use Rattle.std.proofs.lemmas.Bool.{and_parts}
use Rattle.std.proofs.lemmas.List.{append_assoc}
use Rattle.dr_model.specs.Control.{Control}
use Rattle.dr_model.specs.Pairs.{held, is_cascaded, goes_over, collides}
use Rattle.dr_model.specs.Moves.{Unsync}
use Rattle.dr_model.specs.Entries.{fields_at, land_alone, write_checks}
use Rattle.dr_model.specs.Carry.{Entry, Stretch, entries_in, follows_at, now}
use Rattle.dr_model.specs.PairEntries.{sends, send_first, suspend_running, suspend_after, suspend_unless, feeds, drain_stretches}
use Rattle.dr_model.specs.Plans.{drain_checks}
use Rattle.dr_model.specs.WriteEntries.{partner_of, part_running, part_after, mirror_and_land, is_held_back, is_parted, is_fed, land_parted, land_mirrored, land_fed, land_over, land_collided, landing, write_stretches, after_write}

-- what holds of what follows each stretch, holds of what follows any number of entries
abbrev pub AllFollow : (List Entry → Type 0) → List Stretch → Type 0
AllFollow P [] = Unit {0}
AllFollow P (s ∷ ss) = P s.follows × AllFollow P ss

pub each-follow : (P : List Entry → Type 0) (ss : List Stretch) (n : ℕ) → (ss ≡ [] → ⊥) → AllFollow P ss → P (follows_at ss n)
each-follow P [] n some all = absurd (some refl)
each-follow P (s ∷ []) n some all = all.0
each-follow P (s ∷ t ∷ ts) n some all = by (nat_lt n (length s.entries)) (each-follow P (t ∷ ts) (n - length s.entries) (λ e. absurd cc) all.1)
  where
    by : (b : Bool) → P (follows_at (t ∷ ts) (n - length s.entries)) → P (cond b s.follows (follows_at (t ∷ ts) (n - length s.entries)))
    by true later = all.0
    by false later = later

-- ---- a host write

module _ (k : Control) (n v t : ℕ) where
  abbrev second : ℕ
  second = partner_of k v

  abbrev whole : List Stretch
  whole = record { entries = landing k n v t; follows = part_after v } ∷ []

  abbrev fed : List Stretch
  fed =
      record { entries = write_checks k n v ++ now (Unsync v t) ∷ []; follows = part_after v }
      ∷ record { entries = send_first k.volumes second (partner_of k second) t; follows = suspend_running second ∷ part_running v ∷ [] }
      ∷ record { entries = mirror_and_land k.volumes n v t second; follows = part_after v } ∷ []

  abbrev sent : List Stretch
  sent =
      record { entries = write_checks k n v ++ send_first k.volumes v second t; follows = suspend_after v }
      ∷ record { entries = land_alone k.volumes n v t; follows = part_after v } ∷ []

  pub after-any : (P : List Entry → Type 0) (i : ℕ) → P (suspend_after v) → P (part_after v) → (is_fed k v t ≡ true → P (suspend_running (partner_of k v) ∷ part_running v ∷ [])) → P (after_write k n v t i)
  after-any P i first part both = let all = by (held (fields_at k v)) (is_fed k v t) (not (goes_over (fields_at k v) t) && collides (fields_at k v) t) both in each-follow P (write_stretches k n v t) i all.0 all.1
    where
      by : (b c d : Bool) → (c ≡ true → P (suspend_running (partner_of k v) ∷ part_running v ∷ [])) → let ss : List Stretch = cond b whole (cond c fed (cond d sent whole)) in (ss ≡ [] → ⊥) × AllFollow P ss
      by true _ _ third = (λ e. absurd cc, (part, tt))
      by false true _ third = (λ e. absurd cc, (part, (third refl, (part, tt))))
      by false false true third = (λ e. absurd cc, (first, (part, tt)))
      by false false false third = (λ e. absurd cc, (part, tt))

  -- its stretches are its entries
  pub stretches-land : entries_in (write_stretches k n v t) ≡ landing k n v t
  stretches-land = by waits (is_fed k v t) (not goes && meets) refl refl refl
    where
      waits : Bool
      waits = held (fields_at k v)

      goes : Bool
      goes = goes_over (fields_at k v) t

      meets : Bool
      meets = collides (fields_at k v) t

      never : (b : Bool) → not b ≡ true → b ≡ false
      never true h = absurd cc
      never false h = refl

      over-fed : is_fed k v t ≡ true → land_over k n v t ≡ land_fed k.volumes n v t second (partner_of k second)
      over-fed is =
          let p = and_parts goes _ is in
          let q = and_parts (not (is_parted k v)) _ p.1 in
          let r = and_parts (is_cascaded (fields_at k second)) (not (is_held_back k v)) q.1 in
          λ i. cond (never (is_parted k v) q.0 i) (land_parted k n v t) (cond (never (is_held_back k v) r.1 i) [] (cond (r.0 i) (land_fed k.volumes n v t second (partner_of k second)) (land_mirrored k.volumes n v t second)))

      by : (b c d : Bool) → waits ≡ b → is_fed k v t ≡ c → (not goes && meets) ≡ d → entries_in (cond b whole (cond c fed (cond d sent whole))) ≡ landing k n v t
      by true _ _ e f g = refl
      by false true _ e f g =
          let over : goes ≡ true = (and_parts goes _ f).0 in
          append_assoc (write_checks k n v) (now (Unsync v t) ∷ []) (send_first k.volumes second (partner_of k second) t ++ mirror_and_land k.volumes n v t second)
          ∙ (λ i. write_checks k n v ++ sym (over-fed f) i)
          ∙ (λ i. write_checks k n v ++ cond (sym e i) [] (cond (sym over i) (land_over k n v t) (cond meets (land_collided k n v t) (land_alone k.volumes n v t))))
      by false false true e f g =
          let rest = and_parts (not goes) meets g in
          append_assoc (write_checks k n v) (send_first k.volumes v second t) (land_alone k.volumes n v t)
          ∙ (λ i. write_checks k n v ++ cond (sym e i) [] (cond (sym (never goes rest.0) i) (land_over k n v t) (cond (sym rest.1 i) (land_collided k n v t) (land_alone k.volumes n v t))))
      by false false false e f g = refl

-- ---- a drain

module _ (P : List Entry → Type 0) (a b : ℕ) (alone : P (suspend_after a)) (both : P (suspend_running b ∷ suspend_unless b a ∷ [])) where
  feeds-follow : (volumes : List ℕ) (c : ℕ) (ts : List ℕ) → AllFollow P (feeds volumes a b c ts)
  feeds-follow volumes c [] = tt
  feeds-follow volumes c (t ∷ ts) = (alone, (both, (alone, feeds-follow volumes c ts)))

pub drain-any : (P : List Entry → Type 0) (k : Control) (a : ℕ) (ts : List ℕ) (n : ℕ) → P (suspend_after a) → (is_cascaded (fields_at k (partner_of k a)) ≡ true → P (suspend_running (partner_of k a) ∷ suspend_unless (partner_of k a) a ∷ []))
    → P (follows_at (record { entries = drain_checks k a; follows = suspend_after a } ∷ drain_stretches k a ts) n)
drain-any P k a ts n alone both = each-follow P (record { entries = drain_checks k a; follows = suspend_after a } ∷ drain_stretches k a ts) n (λ e. absurd cc) (alone, by (is_cascaded (fields_at k (partner_of k a))) both)
  where
    by : (c : Bool) → (c ≡ true → P (suspend_running (partner_of k a) ∷ suspend_unless (partner_of k a) a ∷ [])) → AllFollow P (cond c (feeds k.volumes a (partner_of k a) (partner_of k (partner_of k a)) ts) (record { entries = sends k.volumes a (partner_of k a) ts; follows = suspend_after a } ∷ []))
    by true both = feeds-follow P a (partner_of k a) alone (both refl) k.volumes (partner_of k (partner_of k a)) ts
    by false both = (alone, tt)
