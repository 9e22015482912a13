-- Entries that look at no fuse: what they come to is the same in two worlds that differ in fuses alone.
use Rattle.std.proofs.Common.{ℕ, zero, suc, ◌≡◌, refl, ap, sym, subst, Bool, true, false, cond, List, [], ◌∷◌, ◌++◌, map, Option, Some, None}
use Rattle.std.specs.List.{flat_map}
use Rattle.dr_facts.proofs.WriteStops.{after-any, drain-any}
use Rattle.dr_ids.specs.declared.names.Member.{Member}
use Rattle.dr_ids.specs.declared.refusal.Decision.{Decision}
use Rattle.dr_ids.specs.declared.refusal.Decision.TheVariants.{NoMember, Nothing, RevertAll, CommitRest, RevertSome, Impossible}
use Rattle.dr_model.specs.Control.{Control, Fuse}
use Rattle.dr_model.specs.Moves.{Mirror, Fetch, Restore, Release}
use Rattle.dr_model.specs.Carry.{Entry, Pass, now, entries_in, follows_at}
use Rattle.dr_model.specs.Phases as phases
use Rattle.dr_model.specs.Entries.{fields_at, keep_on, copy_first, land_alone, times, for_lowest, give_back, fetch_next, lowest_held, lowest_missing, on_found}
use Rattle.dr_model.specs.PairEntries.{sends, send_entries, where_sent, sends_first, send_first, feeds, drain_stretches, suspend_after}
use Rattle.dr_model.specs.Pairs.{held, is_cascaded, goes_over, collides}
use Rattle.dr_model.specs.WriteEntries.{partner_of, is_grouped, is_parted, is_held_back, mirror_and_land, land_mirrored, land_fed, land_parted, land_collided, land_entries, after_write, start_entries, start_on_volume, landing}
use Rattle.dr_model.specs.SessionEntries.{member_entries, order_entries}
use Rattle.dr_model.specs.RecoveryPlans.{settle_on, take_over_on, recover_entries}
use Rattle.dr_model.specs.Plans.{drain_checks, hold_first, destage_entries}
use Rattle.dr_laws_sound.proofs.FitsDrain.{feeds-joined}

-- the tables with other fuses
abbrev pub fused : Control → (ℕ → Option Fuse) → Control
fused k g = record k { fuse = g }

-- what is decided by a control state, and not by its fuses
abbrev pub Blind : {X : Type 0} → (Control → X) → Type 0
Blind d = (k : Control) (g : ℕ → Option Fuse) → d (fused k g) ≡ d k

abbrev pub Blinds : List Entry → Type 0
Blinds [] = Unit {0}
Blinds (d ∷ ds) = Blind d × Blinds ds

pub blind-append : (ds es : List Entry) → Blinds ds → Blinds es → Blinds (ds ++ es)
blind-append [] es p q = q
blind-append (d ∷ ds) es p q = (p.0, blind-append ds es p.1 q)

pub blind-map : {X : Type 0} (f : X → Entry) (xs : List X) → ((x : X) → Blind (f x)) → Blinds (map f xs)
blind-map f [] each = tt
blind-map f (x ∷ xs) each = (each x, blind-map f xs each)

pub blind-flat : {X : Type 0} (f : X → List Entry) (xs : List X) → ((x : X) → Blinds (f x)) → Blinds (flat_map f xs)
blind-flat f [] each = tt
blind-flat f (x ∷ xs) each = blind-append (f x) (flat_map f xs) (each x) (blind-flat f xs each)

pub blind-times : (n : ℕ) (ds : List Entry) → Blinds ds → Blinds (times n ds)
blind-times zero ds blind = tt
blind-times (suc n) ds blind = blind-append ds (times n ds) blind (blind-times n ds blind)

pub blind-if : (b : Bool) (ds es : List Entry) → Blinds ds → Blinds es → Blinds (cond b ds es)
blind-if true ds es p q = p
blind-if false ds es p q = q

-- ---- tracks that targets keep, and host writes

blind-copies : (volumes : List ℕ) (v t : ℕ) → Blinds (copy_first volumes v t)
blind-copies volumes v t = blind-map (keep_on v t) volumes (λ u k g. refl)

blind-alone : (volumes : List ℕ) (n v t : ℕ) → Blinds (land_alone volumes n v t)
blind-alone volumes n v t = blind-append (copy_first volumes v t) _ (blind-copies volumes v t) ((λ k g. refl), tt)

blind-stores : (volumes : List ℕ) (n v t u : ℕ) → Blinds (mirror_and_land volumes n v t u)
blind-stores volumes n v t u = blind-append (copy_first volumes u t ++ now (Mirror u t v n) ∷ copy_first volumes v t) _
    (blind-append (copy_first volumes u t) _ (blind-copies volumes u t) ((λ k g. refl), blind-copies volumes v t)) ((λ k g. refl), tt)

-- what is sent first
blind-first : (volumes : List ℕ) (v u t : ℕ) → Blinds (send_first volumes v u t)
blind-first volumes v u t = ((λ k g. refl), sent _ (blind-append (copy_first volumes u t) _ (blind-copies volumes u t) ((λ k g. refl), ((λ k g. refl), tt))))
  where
    sent : (ds : List Entry) → Blinds ds → Blinds (map (where_sent v u t) ds)
    sent [] blind = tt
    sent (d ∷ ds) blind = ((λ k g. ap (λ x. cond (sends_first v u t k) x Pass) (blind.0 k g)), sent ds blind.1)

pub blind-land : (k : Control) (n v t : ℕ) → Blinds (land_entries k n v t)
blind-land k n v t =
    let u : ℕ = partner_of k v in
    blind-if (held (fields_at k v)) _ _ tt
    (blind-if (goes_over (fields_at k v) t) _ _
    (blind-if (is_parted k v) (land_parted k n v t) _ ((λ k g. refl), blind-if (is_grouped k v u) _ _ tt (blind-alone k.volumes n v t))
    (blind-if (is_held_back k v) [] _ tt
    (blind-if (is_cascaded (fields_at k u)) (land_fed k.volumes n v t u (partner_of k u)) (land_mirrored k.volumes n v t u)
    ((λ k g. refl), blind-append (send_first k.volumes u (partner_of k u) t) _ (blind-first k.volumes u (partner_of k u) t) (blind-stores k.volumes n v t u)) ((λ k g. refl), blind-stores k.volumes n v t u))))
    (blind-if (collides (fields_at k v) t) (land_collided k n v t) (land_alone k.volumes n v t) (blind-append (send_first k.volumes v u t) _ (blind-first k.volumes v u t) (blind-alone k.volumes n v t)) (blind-alone k.volumes n v t)))

-- a host write is carried out, and what follows a stop in it
pub blind-landing : (k : Control) (n v t : ℕ) → Blinds (landing k n v t)
blind-landing k n v t = ((λ k g. refl), ((λ k g. refl), ((λ k g. refl), ((λ k g. refl), ((λ k g. refl), ((λ k g. refl), ((λ k g. refl), blind-land k n v t)))))))

pub blind-after : (k : Control) (n v t s : ℕ) → Blinds (after_write k n v t s)
blind-after k n v t s = after-any k n v t Blinds s ((λ k g. refl), tt) ((λ k g. refl), tt) (λ is. ((λ k g. refl), ((λ k g. refl), tt)))

-- ---- tracks that are sent, copied and given back, and a start

blind-sends : (volumes : List ℕ) (a b : ℕ) (ts : List ℕ) → Blinds (sends volumes a b ts)
blind-sends volumes a b [] = tt
blind-sends volumes a b (t ∷ ts) = blind-append (send_entries volumes a b t) (sends volumes a b ts)
    ((λ k g. refl), ((λ k g. refl), ((λ k g. refl), blind-append (copy_first volumes b t) _ (blind-copies volumes b t) ((λ k g. refl), ((λ k g. refl), tt))))) (blind-sends volumes a b ts)

blind-feeds : (volumes : List ℕ) (a b c : ℕ) (ts : List ℕ) → Blinds (entries_in (feeds volumes a b c ts))
blind-feeds volumes a b c [] = tt
blind-feeds volumes a b c (t ∷ ts) = subst Blinds (sym (feeds-joined volumes a b c t ts)) (
  (λ k g. refl),
  (
    (λ k g. refl),
    (
      (λ k g. refl),
      (
        (λ k g. refl),
        blind-append (send_first volumes b c t) _ (blind-first volumes b c t)
            (blind-append (copy_first volumes b t) _ (blind-copies volumes b t) ((λ k g. refl), ((λ k g. refl), blind-feeds volumes a b c ts))),
      ),
    ),
  ),
)

-- a drain, and what follows a stop in it
pub blind-drain : (k : Control) (a : ℕ) (ts : List ℕ) → Blinds (entries_in (drain_stretches k a ts))
blind-drain k a ts = by (is_cascaded (fields_at k b))
  where
    b : ℕ
    b = partner_of k a

    by : (c : Bool) → Blinds (entries_in (cond c (feeds k.volumes a b (partner_of k b) ts) (record { entries = sends k.volumes a b ts; follows = suspend_after a } ∷ [])))
    by true = blind-feeds k.volumes a b (partner_of k b) ts
    by false = blind-sends k.volumes a b ts

pub blind-drained : (k : Control) (a : ℕ) (ts : List ℕ) (n : ℕ) → Blinds (follows_at (record { entries = drain_checks k a; follows = suspend_after a } ∷ drain_stretches k a ts) n)
blind-drained k a ts n = drain-any Blinds k a ts n ((λ k g. refl), tt) (λ is. ((λ k g. refl), ((λ k g. refl), tt)))

pub blind-copied : (volumes : List ℕ) (s v : ℕ) (back : Bool) → Blinds (cond back (give_back volumes s v) (fetch_next v ∷ []))
blind-copied volumes s v back = blind-if back (give_back volumes s v) (fetch_next v ∷ [])
    (blind-append (map (λ u. for_lowest v (λ t. keep_on s t u)) volumes) _ (blind-map (λ u. for_lowest v (λ t. keep_on s t u)) volumes (λ u. lowest (λ t. keep_on s t u) (λ t k g. refl)))
    (lowest (λ t. now (Restore s t v)) (λ t k g. refl), (lowest (λ t. now (Release v t)) (λ t k g. refl), tt)))
    (next, tt)
  where
    found : (d : ℕ → Entry) (o : Option ℕ) → ((t : ℕ) → Blind (d t)) → Blind (on_found o d)
    found d None blind k g = refl
    found d (Some t) blind k g = blind t k g

    lowest : (d : ℕ → Entry) → ((t : ℕ) → Blind (d t)) → Blind (for_lowest v d)
    lowest d blind k g = found d (lowest_held v k) blind k g

    next : Blind (fetch_next v)
    next k g = found (λ t. now (Fetch v t)) (lowest_missing v k) (λ t k g. refl) k g

pub blind-start : (s : ℕ) (vs : List ℕ) → Blinds (start_entries s vs)
blind-start s vs = blind-flat (start_on_volume s) vs (λ v. ((λ k g. refl), ((λ k g. refl), tt)))

pub blind-hold : (freeze : Bool) (s : ℕ) (ds : List Entry) → Blinds ds → Blinds (hold_first freeze s ++ ds)
blind-hold true s ds blind = ((λ k g. refl), blind)
blind-hold false s ds blind = blind

pub blind-destage : (staged : Option ℕ) (v : ℕ) → Blinds (destage_entries staged v)
blind-destage None v = tt
blind-destage (Some t) v = ((λ k g. refl), ((λ k g. refl), tt))

-- ---- orders and recoveries

blind-member : (work : phases.Work) (s n : ℕ) (m : Member) → Blinds (member_entries work s n m)
blind-member phases.Hold s n m = ((λ k g. refl), ((λ k g. refl), ((λ k g. refl), tt)))
blind-member phases.Release s n m = ((λ k g. refl), ((λ k g. refl), tt))
blind-member phases.Seal s n m = ((λ k g. refl), ((λ k g. refl), ((λ k g. refl), tt)))
blind-member phases.Finish s n m = ((λ k g. refl), tt)
blind-member phases.Flash s n m = ((λ k g. refl), ((λ k g. refl), ((λ k g. refl), tt)))
blind-member phases.Commit s n m = ((λ k g. refl), ((λ k g. refl), ((λ k g. refl), tt)))
blind-member phases.Revert s n m = ((λ k g. refl), ((λ k g. refl), tt))
blind-member phases.Report s n m = ((λ k g. refl), tt)

pub blind-order : (work : phases.Work) (s n : ℕ) (ms : List Member) → Blinds (order_entries work s n ms)
blind-order work s n ms = blind-flat (member_entries work s n) ms (blind-member work s n)

pub blind-settle : (s : ℕ) (d : Decision) (m : Member) → Blind (settle_on s d m)
blind-settle s (CommitRest n) m k g = refl
blind-settle s (RevertAll n) m k g = refl
blind-settle s (RevertSome o n) m k g = refl
blind-settle s NoMember m k g = refl
blind-settle s (Nothing n) m k g = refl
blind-settle s (Impossible a b) m k g = refl

pub blind-recover : (s : ℕ) (d : Decision) (ms : List Member) → Blinds (recover_entries s d ms)
blind-recover s d ms = blind-append (map take_over_on ms) _ (blind-map take_over_on ms (λ m k g. refl)) (blind-append (map (settle_on s d) ms) _ (blind-map (settle_on s d) ms (blind-settle s d)) ((λ k g. refl), tt))
