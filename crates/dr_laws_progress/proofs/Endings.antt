-- The entries of an order over the members of a server: they end by the state in which they begin, or a server stops.
use Rattle.std.proofs.Common.{ℕ, ◌≡◌, ◌⊎◌, ◌&&◌, inl, inr, refl, ap, sym, ◌∙◌, subst, Bool, true, false, cond, not, ◌||◌, List, [], ◌∷◌, Option, Some, None, is_some, nat_lt, nat_eq}
use Rattle.std.specs.Option.{option_or}
use Rattle.std.specs.List.{list_any}
use Rattle.std.specs.Prelude.{filter}
use Rattle.dr_logic.specs.Tables.{at}
use Rattle.dr_logic.proofs.Tables.{at_other}
use Rattle.dr_ids.specs.declared.names.Member.{Member}
use Rattle.dr_ids.specs.declared.refusal.Kind.TheVariants.{Path as OfPath}
use Rattle.dr_ids.specs.declared.refusal.PhaseName.{PhaseName}
use Rattle.dr_ids.specs.declared.refusal.PhaseName.TheVariants as phase
use Rattle.dr_ids.specs.declared.refusal.Refusal.{Refusal}
use Rattle.dr_ids.specs.declared.refusal.Refusal.TheVariants.{PairState, RelationState, Stale, Unsealed}
use Rattle.dr_model.specs.Refusals.{unknown, server_off, stopped}
use Rattle.dr_model.specs.Layout.{Fields}
use Rattle.dr_model.specs.Relations.{is_bare}
use Rattle.dr_model.specs.Control.{Control, Fuse, Volume, World}
use Rattle.dr_model.specs.Pairs.{is_secondary_of, secondary_seen}
use Rattle.dr_ids.specs.Paths.{path_in}
use Rattle.dr_model.specs.Moves.{Move, Hold, Free, Seal, Flash, Commit, Finish, Revert, RaiseFloor, target, keeps_staged, moved_keeping}
use Rattle.dr_model.specs.Carry.{Make, act, Next, Pass, Do, Outcome, continue, go}
use Rattle.dr_model.specs.Entries.{fields_at, subsystem, copies_from, stands_in, relation_seen, is_any, is_reversing, is_revertible}
use Rattle.dr_ids.specs.declared.refusal.RelSeen.TheVariants.{Revertible, Reversing, Target, Source, None as Unrelated}
use Rattle.dr_model.specs.PairEntries.{reach_refusal, send_refusal, link_down}
use Rattle.dr_model.specs.Forming.{is_draining}
use Rattle.dr_model.specs.Sessions.{Session}
use Rattle.dr_model.specs.SessionEntries.{hold_refusal, stale_refusal, void_refusal, seal_refusal, flash_refusal, commit_refusal, is_flashed, is_committed, may_flash}
use Rattle.dr_model.specs.Groups.{In, IsAt}
use Rattle.dr_laws_sound.proofs.Turns.{server_at, next_of, carried_in, done, turn-armed}
use Rattle.dr_facts.proofs.Tables.{at_part}
use Rattle.dr_laws_progress.specs.Exchanges.{SamePlaces}

-- ---- what the places are asked

module _ (k j : Control) (p : SamePlaces k j) where
  pub reach-same : (a b : ℕ) → reach_refusal a b j ≡ reach_refusal a b k
  reach-same a b = λ i.
      cond (not (is_some (path_in (p.paths i) (subsystem a) (subsystem b)))) (Some (unknown OfPath))
      (cond (not (p.on i (p.homes b i))) (Some (server_off (p.homes b i)))
      (cond (not (p.link i (p.homes a i) (p.homes b i))) (Some (link_down (p.homes a i) (p.homes b i))) None))

  pub send-same : (a b : ℕ) → send_refusal a b j ≡ send_refusal a b k
  send-same a b = λ i. option_or (reach-same a b i) (cond (p.secondaries a b i) None (Some (PairState (record { 0 = b }) (p.seen b i))))

-- ---- what a volume's record is asked

module _ (k j : Control) where
  -- a control state in which a volume has these fields
  abbrev with_fields : Fields → Control
  with_fields f = record j { volume = λ v. record (j.volume v) { fields = f } }

  module _ (v : ℕ) (same : fields_at j v ≡ fields_at k v) where
    pub hold-same : (b : ℕ) → hold_refusal v b j ≡ hold_refusal v b k
    hold-same b = λ i. hold_refusal v b (with_fields (same i))

    pub stale-same : (n : ℕ) → stale_refusal v n j ≡ stale_refusal v n k
    stale-same n = λ i. stale_refusal v n (with_fields (same i))

    pub void-same : (n : ℕ) → void_refusal v n j ≡ void_refusal v n k
    void-same n = λ i. void_refusal v n (with_fields (same i))

    pub seal-same : (b : ℕ) → SamePlaces k j → seal_refusal v b j ≡ seal_refusal v b k
    seal-same b p = λ i. cond (is_bare (same i).out_of_sync) (send-same k j p v b i) None

    pub commit-same : (n : ℕ) → relation_seen j v ≡ relation_seen k v → commit_refusal v n j ≡ commit_refusal v n k
    commit-same n seen = λ i. cond (is_committed n (same i) || is_flashed n (same i)) None (Some (RelationState (record { 0 = v }) (seen i)))

    -- of a target of b
    pub flash-same : (b n : ℕ) → fields_at j b ≡ fields_at k b → relation_seen j v ≡ relation_seen k v → flash_refusal b v n j ≡ flash_refusal b v n k
    flash-same b n source seen = λ i.
        cond (is_flashed n (same i)) None
        (cond (not (may_flash b (same i))) (Some (RelationState (record { 0 = v }) (seen i)))
        (cond (not (nat_lt (same i).floor n)) (Some (Stale n (same i).floor))
        (cond (not (nat_eq (source i).seal n)) (Some (Unsealed (record { 0 = b }) (source i).seal)) None)))

  -- how a volume is seen doesn't change, as long as its own record doesn't, still those of its targets in what is asked, still which these are
  module _ (v : ℕ) (same : fields_at j v ≡ fields_at k v) (list : j.volumes ≡ k.volumes) (from : (u : ℕ) → copies_from v (fields_at j u) ≡ copies_from v (fields_at k u)) where
    stands-same : (so : Fields → Bool) → ((u : ℕ) → copies_from v (fields_at k u) ≡ true → so (fields_at j u) ≡ so (fields_at k u)) → stands_in so j v ≡ stands_in so k v
    stands-same so kept = λ i. ((same i).related && so (same i)) || (any j.volumes ∙ ap (λ vs. list_any (λ u. so (fields_at k u)) (filter (λ u. copies_from v (fields_at k u)) vs)) list) i
      where
        one : (u : ℕ) (xs ys : List ℕ) (b c : Bool) → b ≡ c → (c ≡ true → so (fields_at j u) ≡ so (fields_at k u)) → list_any (λ u. so (fields_at j u)) xs ≡ list_any (λ u. so (fields_at k u)) ys
            → list_any (λ u. so (fields_at j u)) (cond b (u ∷ xs) xs) ≡ list_any (λ u. so (fields_at k u)) (cond c (u ∷ ys) ys)
        one u xs ys true true e here again = λ i. here refl i || again i
        one u xs ys false false e here again = again
        one u xs ys true false e here again = absurd cc
        one u xs ys false true e here again = absurd cc

        any : (us : List ℕ) → list_any (λ u. so (fields_at j u)) (filter (λ u. copies_from v (fields_at j u)) us) ≡ list_any (λ u. so (fields_at k u)) (filter (λ u. copies_from v (fields_at k u)) us)
        any [] = refl
        any (u ∷ us) = one u _ _ (copies_from v (fields_at j u)) (copies_from v (fields_at k u)) (from u) (kept u) (any us)

    seen-same : ((u : ℕ) → copies_from v (fields_at k u) ≡ true → (is_revertible (fields_at j u) ≡ is_revertible (fields_at k u)) × (is_reversing (fields_at j u) ≡ is_reversing (fields_at k u))) → relation_seen j v ≡ relation_seen k v
    seen-same kept = λ i.
        cond (stands-same is_revertible (λ u h. (kept u h).0) i) Revertible
        (cond (stands-same is_reversing (λ u h. (kept u h).1) i) Reversing
        (cond (same i).related Target
        (cond (stands-same is_any (λ u h. refl) i) Source Unrelated)))

-- two checks before others
pub either-first : (a b c : Option Refusal) → option_or a (option_or b c) ≡ option_or (option_or a b) c
either-first None b c = refl
either-first (Some r) b c = refl

-- the phases whose orders ask for targets
abbrev pub asks_targets : PhaseName → Bool
asks_targets phase.Flashing = true
asks_targets phase.Committing = true
asks_targets p = false

module _ (w : World) (p : PhaseName) where
  -- As in w: places, on which servers a fuse is armed, and in Draining what is left to send; with this table of sessions.
  pub record IsAs (ss : List Session) (u : World) : Type 0 where
    pub places : SamePlaces w.control u.control
    pub sessions : u.control.sessions ≡ ss
    pub armed : (q : ℕ) → is_some (u.control.fuse q) ≡ is_some (w.control.fuse q)
    pub unsent : is_draining p ≡ true → (v : ℕ) → (fields_at u.control v).out_of_sync ≡ (fields_at w.control v).out_of_sync

  -- so is a member that the order hasn't come to
  pub record IsUntouched (u : World) (m : Member) : Type 0 where
    pub fields : (v : ℕ) → IsAt v m → fields_at u.control v ≡ fields_at w.control v
    pub seen : asks_targets p ≡ true → relation_seen u.control m.c.0 ≡ relation_seen w.control m.c.0

  abbrev pub Untouched : List Member → World → Type 0
  Untouched ms u = (m : Member) → In m ms → IsUntouched u m

  -- no volume has a place in two members
  abbrev pub ApartFrom : Member → List Member → Type 0
  ApartFrom m ms = (q : Member) → In q ms → (v : ℕ) → IsAt v m → IsAt v q → ⊥

  abbrev pub AllApart : List Member → Type 0
  AllApart [] = Unit {0}
  AllApart (m ∷ ms) = ApartFrom m ms × AllApart ms

  -- a server stopped on which a fuse was armed
  pub record StopsArmed (r : Option Refusal) : Type 0 where
    pub server : ℕ
    pub armed : is_some (w.control.fuse server) ≡ true
    pub is : r ≡ Some (stopped server)

  -- how entries end that are to end so
  abbrev pub EndsAs : List Session → Option Refusal → World → Option Refusal → Type 0
  EndsAs ss e u r = StopsArmed r ⊎ ((r ≡ e) × (e ≡ None → IsAs ss u))

  -- ---- acts

  -- those of orders: they leave each volume's part as a secondary, and what is left to send, but for a finish
  pub data Orders : Move → Type 0 where
    Holds : (v s n : ℕ) (first : Bool) → asks_targets p ≡ false → Orders (Hold v s n first)
    Frees : (v : ℕ) → asks_targets p ≡ false → Orders (Free v)
    Seals : (v u s n : ℕ) → asks_targets p ≡ false → Orders (Seal v u s n)
    Flashes : (v u a s n : ℕ) → Orders (Flash v u a s n)
    Commits : (v a s n : ℕ) → Orders (Commit v a s n)
    Finishes : (v n : ℕ) → asks_targets p ≡ false → is_draining p ≡ false → Orders (Finish v n)
    Reverts : (v a s n : ℕ) → asks_targets p ≡ false → Orders (Revert v a s n)
    Raises : (v n : ℕ) → asks_targets p ≡ false → Orders (RaiseFloor v n)

  -- what such a move makes of a volume
  abbrev pub after : World → Move → Volume
  after u m = moved_keeping (keeps_staged m) (u.control.volume (target m)) (next_of u m) (carried_in u m)

  abbrev pub before : World → Move → Fields
  before u m = (u.control.volume (target m)).fields

  secondary-left : (u : World) (m : Move) → Orders m → (a : ℕ) → is_secondary_of a (after u m).fields ≡ is_secondary_of a (before u m)
  secondary-left u _ (Holds v s n first un) a = refl
  secondary-left u _ (Frees v un) a = refl
  secondary-left u _ (Seals v t s n un) a = refl
  secondary-left u _ (Flashes v t b s n) a = refl
  secondary-left u _ (Commits v b s n) a = refl
  secondary-left u _ (Finishes v n un still) a = refl
  secondary-left u _ (Reverts v b s n un) a = refl
  secondary-left u _ (Raises v n un) a = refl

  seen-left : (u : World) (m : Move) → Orders m → secondary_seen (after u m).fields ≡ secondary_seen (before u m)
  seen-left u _ (Holds v s n first un) = refl
  seen-left u _ (Frees v un) = refl
  seen-left u _ (Seals v t s n un) = refl
  seen-left u _ (Flashes v t b s n) = refl
  seen-left u _ (Commits v b s n) = refl
  seen-left u _ (Finishes v n un still) = refl
  seen-left u _ (Reverts v b s n un) = refl
  seen-left u _ (Raises v n un) = refl

  unsent-left : (u : World) (m : Move) → Orders m → is_draining p ≡ true → (after u m).fields.out_of_sync ≡ (before u m).out_of_sync
  unsent-left u _ (Holds v s n first un) drains = refl
  unsent-left u _ (Frees v un) drains = refl
  unsent-left u _ (Seals v t s n un) drains = refl
  unsent-left u _ (Flashes v t b s n) drains = refl
  unsent-left u _ (Commits v b s n) drains = refl
  unsent-left u _ (Finishes v n un still) drains = let never : true ≡ false = sym drains ∙ still in cc
  unsent-left u _ (Reverts v b s n un) drains = refl
  unsent-left u _ (Raises v n un) drains = refl

  -- a target copies from the volume from which it did
  source-left : (u : World) (m : Move) → Orders m → asks_targets p ≡ true → (v : ℕ) → copies_from v (after u m).fields ≡ copies_from v (before u m)
  source-left u _ (Flashes v t b s n) asks x = refl
  source-left u _ (Commits v b s n) asks x = refl
  source-left u _ (Holds v s n first un) asks x = let never : true ≡ false = sym asks ∙ un in cc
  source-left u _ (Frees v un) asks x = let never : true ≡ false = sym asks ∙ un in cc
  source-left u _ (Seals v t s n un) asks x = let never : true ≡ false = sym asks ∙ un in cc
  source-left u _ (Finishes v n un still) asks x = let never : true ≡ false = sym asks ∙ un in cc
  source-left u _ (Reverts v b s n un) asks x = let never : true ≡ false = sym asks ∙ un in cc
  source-left u _ (Raises v n un) asks x = let never : true ≡ false = sym asks ∙ un in cc

  pub done-as : (ss : List Session) (u : World) (m : Move) (f : Option Fuse) → Orders m → IsAs ss u → is_some f ≡ is_some (u.control.fuse (server_at u (target m))) → IsAs ss (done u m f)
  done-as ss u m f orders same e = let p : SamePlaces w.control u.control = same.places in record {
    places = record {
      names = p.names;
      on = p.on;
      link = p.link;
      paths = p.paths;
      homes = λ v. at_part (λ (y : Volume). y.server) u.control.volume (target m) (after u m) refl v ∙ p.homes v;
      secondaries = λ a v. at_part (λ (y : Volume). is_secondary_of a y.fields) u.control.volume (target m) (after u m) (secondary-left u m orders a) v ∙ p.secondaries a v;
      seen = λ v. at_part (λ (y : Volume). secondary_seen y.fields) u.control.volume (target m) (after u m) (seen-left u m orders) v ∙ p.seen v;
    };
    sessions = same.sessions;
    armed = λ q. at_part is_some u.control.fuse (server_at u (target m)) f e q ∙ same.armed q;
    unsent = λ drains v. at_part (λ (y : Volume). y.fields.out_of_sync) u.control.volume (target m) (after u m) (unsent-left u m orders drains) v ∙ same.unsent drains v;
  }

  -- a move of a volume of m leaves the other members, if none of their targets is what it copies from
  module _ (m : Member) (ms : List Member) (apart : ApartFrom m ms) where
    abbrev pub Keeps : World → Move → Type 0
    Keeps u mv = Orders mv × (IsAt (target mv) m × (asks_targets p ≡ true → (q : Member) → In q ms → copies_from q.c.0 (before u mv) ≡ false))

    pub done-untouched : (u : World) (mv : Move) (f : Option Fuse) → Keeps u mv → Untouched ms u → Untouched ms (done u mv f)
    done-untouched u mv f keeps others q here = record { fields = λ v at. left v at ∙ (others q here).fields v at; seen = λ asks. seen asks ∙ (others q here).seen asks }
      where
        left : (v : ℕ) → IsAt v q → fields_at (done u mv f).control v ≡ fields_at u.control v
        left v at = ap (λ (y : Volume). y.fields) (at_other u.control.volume (target mv) (after u mv) v (λ e. apart q here v (subst (λ x. IsAt x m) (sym e) keeps.1.0) at))

        -- a volume that copies from the target is another one
        other : asks_targets p ≡ true → (v : ℕ) → copies_from q.c.0 (fields_at u.control v) ≡ true → fields_at (done u mv f).control v ≡ fields_at u.control v
        other asks v copies = ap (λ (y : Volume). y.fields) (at_other u.control.volume (target mv) (after u mv) v (λ e. let never : true ≡ false = sym copies ∙ (ap (λ x. copies_from q.c.0 (fields_at u.control x)) e ∙ keeps.1.1 asks q here) in cc))

        seen : asks_targets p ≡ true → relation_seen (done u mv f).control q.c.0 ≡ relation_seen u.control q.c.0
        seen asks = seen-same u.control (done u mv f).control q.c.0 (left q.c.0 (inr (inr refl))) refl
            (λ v. at_part (λ (y : Volume). copies_from q.c.0 y.fields) u.control.volume (target mv) (after u mv) (source-left u mv keeps.0 asks q.c.0) v)
            (λ v copies. (ap is_revertible (other asks v copies), ap is_reversing (other asks v copies)))

    -- ---- entries

    -- an entry that comes to such a move, or to nothing
    abbrev pub Acts : World → Next → Type 0
    Acts u Pass = Unit {0}
    Acts u (Do (Make mv)) = Keeps u mv
    Acts u x = ⊥

    module _ (ss : List Session) (e : Option Refusal) (rest : World → Outcome) (goes : (v : World) → IsAs ss v → Untouched ms v → EndsAs ss e (rest v).0 (rest v).1) where
      act-ends : (u : World) (mv : Move) → Keeps u mv → IsAs ss u → Untouched ms u → EndsAs ss e (go u (Do (Make mv)) rest).0 (go u (Do (Make mv)) rest).1
      unfolding act
      act-ends u mv keeps same others =
          turn-armed u mv (λ t. EndsAs ss e (continue t.0 t.1 rest).0 (continue t.0 t.1 rest).1)
          (λ down. goes u same others)
          (λ f is. goes (done u mv f) (done-as ss u mv f keeps.0 same is) (done-untouched u mv f keeps others))
          (λ armed f. inl (record { server = server_at u (target mv); armed = sym (same.armed (server_at u (target mv))) ∙ armed; is = refl }))
          (λ armed f. inl (record { server = server_at u (target mv); armed = sym (same.armed (server_at u (target mv))) ∙ armed; is = refl }))

      pub next-ends : (u : World) (x : Next) → Acts u x → IsAs ss u → Untouched ms u → EndsAs ss e (go u x rest).0 (go u x rest).1
      next-ends u Pass acts same others = goes u same others
      next-ends u (Do (Make mv)) acts same others = act-ends u mv acts same others
      next-ends u x acts same others = absurd acts
