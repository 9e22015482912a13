-- What acts keep of a primary that is long busy, on which no write lands.
use Rattle.std.proofs.Common.{ℕ, ◌≡◌, ◌≢◌, ◌<◌, ◌+◌, ◌⊎◌, inl, inr, refl, ap, sym, ◌∙◌, subst, Bool, true, false, cond, ◌||◌, List, [], ◌∷◌, ◌++◌, filter, Option, None}
use Rattle.std.proofs.lemmas.Bool.Decides.{eqb_tells}
use Rattle.std.proofs.lemmas.List.{append-nil}
use Rattle.dr_logic.specs.Tables.{at}
use Rattle.dr_model.specs.declared.event.Event.{Event}
use Rattle.dr_model.specs.declared.event.Event.TheVariants.{Ack, Mirrored, Stopped}
use Rattle.dr_model.specs.Histories.{histories}
use Rattle.dr_model.specs.Layout.{Fields, is_part}
use Rattle.dr_model.specs.Control.{Control, Fuse, Pending, Volume, World, is_volume}
use Rattle.dr_model.specs.Groups.{In}
use Rattle.dr_model.specs.Laws.{AllPending}
use Rattle.dr_model.specs.Moves.{Move, Land, Overwrite, MakeSecondary, MakePrimary, DropPrimary, DropSecondary, Resume, TakeOver, Yield, Mirror, LandBoth, Thaw, Lift, Suspend, Hold, target, told, told_in_stop, landed, settled, settled_in_stop, fields_left, is_write, is_other, marked, keeps_staged, moved_keeping, LeavePrimary}
use Rattle.dr_model.specs.Carry.{Act, Make, OpenAttempt, Acknowledge, Drop, Turn, act, dropped, acknowledged}
use Rattle.dr_model.specs.Entries.{fields_at}
use Rattle.dr_facts.proofs.Issued.{Alike, with-told, act-writes}
use Rattle.dr_laws_sound.proofs.Unissued.{done-writes, stopped-writes}
use Rattle.dr_facts.proofs.Lists.{in-joined}
use Rattle.dr_facts.proofs.Tables.{IsOrNot, at_cases}
use Rattle.dr_laws_closed.proofs.Pendings.{each-on, all-filter}
use Rattle.dr_laws_sound.specs.Acknowledged.{acknowledgements}
use Rattle.dr_laws_sound.proofs.Turns.{next_of, carried_in, done, done_in_stop, not_done, after_act, act-cases, Counts}
use Rattle.dr_laws_sound.proofs.Unacknowledged.{AcknowledgesNothing, EndsUnacknowledged, act-turned}

-- a primary of b that is long busy
pub record Busy (b : ℕ) (f : Fields) : Type 0 where
  pub primary : is_part f.primary ≡ true
  pub busy : f.long_busy ≡ true
  pub partner : f.primary_partner ≡ b

-- events that acknowledge nothing
unacked-in : (n : ℕ) (es : List Event) → acknowledgements es ≡ [] → In (Ack n) es → ⊥
unacked-in n [] none here = absurd here
unacked-in n (e ∷ es) none here = by e none here (λ h there. unacked-in n es h there)
  where
    by : (e : Event) → acknowledgements (e ∷ es) ≡ [] → In (Ack n) (e ∷ es) → (acknowledgements es ≡ [] → In (Ack n) es → ⊥) → ⊥
    by (Ack k) none here rest = cc
    by e none (inl is) rest = cc
    by e none (inr there) rest = rest none there

-- No write lands on v: moves that carry one out are of such writes, and none ends what v is.
module _ (v b s : ℕ) (N : ℕ → Type 0) where
  abbrev pub M : Move → Type 0
  M (Land n x t) = N n
  M (Overwrite n x t) = N n
  M (LandBoth n x t) = N n
  M (MakeSecondary x u kind state) = x ≢ v
  M (MakePrimary x u kind state full) = x ≢ v
  M (DropPrimary x) = x ≢ v
  M (Resume x state) = x ≢ v
  M (TakeOver x) = x ≢ v
  M (Yield x u kind state) = x ≢ v
  M (Thaw x) = x ≢ v
  M (Lift x) = x ≢ v
  M m = Unit {0}

  -- a write that was issued for another volume
  abbrev pub Elsewhere : World → ℕ → Type 0
  Elsewhere w n = (n < w.control.issued + 1) × (((histories w.events).write n).volume ≢ v)

  abbrev pub Ok : World → Act → Type 0
  Ok w (Make m) = M m
  Ok w (Acknowledge n) = Elsewhere w n
  Ok w a = Unit {0}

  -- ---- v stays what it is

  pub record Rooted (k : Control) : Type 0 where
    pub there : is_volume k v ≡ true
    pub busy : Busy b (fields_at k v)
    pub server : (k.volume v).server ≡ s

  busy-left : (m : Move) (u : Volume) → M m → target m ≡ v → Busy b u.fields → Busy b (fields_left m u)
  busy-left (MakeSecondary x a kind state) u ok is k = absurd (ok is)
  busy-left (MakePrimary x a kind state full) u ok is k = absurd (ok is)
  busy-left (DropPrimary x) u ok is k = absurd (ok is)
  busy-left (Resume x state) u ok is k = absurd (ok is)
  busy-left (TakeOver x) u ok is k = absurd (ok is)
  busy-left (Yield x a kind state) u ok is k = absurd (ok is)
  busy-left (Thaw x) u ok is k = absurd (ok is)
  busy-left (Lift x) u ok is k = absurd (ok is)
  busy-left (Suspend x more) u ok is k = record { primary = k.primary; busy = ap (λ c. c || more) k.busy; partner = k.partner }
  busy-left m u ok is k = record { primary = k.primary; busy = k.busy; partner = k.partner }

  -- nor does v become a secondary
  abbrev SecondFrom : Control → Fields → Type 0
  SecondFrom k f = is_part f.secondary ≡ true → is_part (fields_at k v).secondary ≡ true

  second-left : (m : Move) (u : Volume) → M m → target m ≡ v → is_part (fields_left m u).secondary ≡ true → is_part u.fields.secondary ≡ true
  second-left (MakeSecondary x a kind state) u ok is h = absurd (ok is)
  second-left (DropSecondary x) u ok is h = absurd cc
  second-left (TakeOver x) u ok is h = absurd cc
  second-left (LeavePrimary x) u ok is h = absurd cc
  second-left (Yield x a kind state) u ok is h = absurd (ok is)
  second-left m u ok is h = h

  abbrev At : Control → ℕ → Volume → Type 0
  At k j y = j ≡ v → Busy b y.fields × (y.server ≡ s) × SecondFrom k y.fields

  at-old : (k : Control) → Rooted k → (j : ℕ) → At k j (k.volume j)
  at-old k r j is = subst (λ j. Busy b (fields_at k j) × ((k.volume j).server ≡ s) × SecondFrom k (fields_at k j)) (sym is) (r.busy, r.server, λ h. h)

  changed-rooted : (w : World) (m : Move) → M m → Rooted w.control → At w.control v (at w.control.volume (target m) (moved_keeping (keeps_staged m) (w.control.volume (target m)) (next_of w m) (carried_in w m)) v)
  changed-rooted w m ok r =
      at_cases (At w.control) w.control.volume (target m) (moved_keeping (keeps_staged m) (w.control.volume (target m)) (next_of w m) (carried_in w m))
      (λ is. let old = at-old w.control r (target m) is in (busy-left m (w.control.volume (target m)) ok is old.0, old.1, λ h. old.2 (second-left m (w.control.volume (target m)) ok is h))) (λ j ne. at-old w.control r j) v

  abbrev Keeps : World → Turn → Type 0
  Keeps w t = Rooted t.0.control × (t.0.control.issued ≡ w.control.issued) × SecondFrom w.control (fields_at t.0.control v)

  done-rooted : (w : World) (a : Act) (f : Option Fuse) → Ok w a → Rooted w.control → Keeps w (after_act w a f, None)
  done-rooted w (Make m) f ok r = let new = changed-rooted w m ok r refl in (record { there = r.there; busy = new.0; server = new.1 }, refl, new.2)
  done-rooted w (OpenAttempt x i n) f ok r = let new = changed-rooted w (Hold x i n true) tt r refl in (record { there = r.there; busy = new.0; server = new.1 }, refl, new.2)
  done-rooted w a f ok r = (record { there = r.there; busy = r.busy; server = r.server }, refl, λ h. h)

  stop-rooted : (w : World) (a : Act) → Ok w a → Rooted w.control → Counts w a (Keeps w)
  stop-rooted w (Make m) ok r = λ f. let new = changed-rooted w m ok r refl in (record { there = r.there; busy = new.0; server = new.1 }, refl, new.2)
  stop-rooted w (OpenAttempt x i n) ok r = λ f. let new = changed-rooted w (Hold x i n true) tt r refl in (record { there = r.there; busy = new.0; server = new.1 }, refl, new.2)
  stop-rooted w a ok r = tt

  act-rooted : (w : World) (a : Act) → Ok w a → Rooted w.control → Keeps w (act w a)
  act-rooted w a ok r = act-cases w a (Keeps w) (λ d off. (r, refl, λ h. h)) (λ f. done-rooted w a f ok r) (stop-rooted w a ok r) (λ d f. (record { there = r.there; busy = r.busy; server = r.server }, refl, λ h. h))

  -- ---- and no write lands on it

  abbrev Waits : Pending → Type 0
  Waits p = p.volume ≡ v → p.landed ≡ false

  abbrev Issued : World → Pending → Type 0
  Issued w p = (p.w < w.control.issued + 1) × (((histories w.events).write p.w).volume ≡ p.volume)

  module _ (base : List Event) where
    pub record Silent (w : World) : Type 0 where
      pub waits : AllPending Waits w.control.pending
      pub issued : AllPending (Issued w) w.control.pending
      pub old : (n : ℕ) → In (Ack n) w.events → n < w.control.issued + 1
      pub acked : (n : ℕ) → In (Ack n) w.events → ((histories w.events).write n).volume ≡ v → In (Ack n) base
      pub elsewhere : (n : ℕ) → N n → Elsewhere w n

    -- events that acknowledge such writes alone
    pub silent-by : (w u : World) (es : List Event) → u.events ≡ w.events ++ es → Alike u w → u.control.issued ≡ w.control.issued → ((n : ℕ) → In (Ack n) es → Elsewhere w n)
        → AllPending Waits u.control.pending → AllPending (Issued w) u.control.pending → Silent w → Silent u
    silent-by w u es events writes same told waits issued k = record {
      waits = waits;
      issued = each-on (λ p a. (up p.w a.0, ap (λ (f : ℕ → _). (f p.w).volume) writes ∙ a.1)) u.control.pending issued;
      old = λ n here. elim (split n here) [
        | inl was ↦ up n (k.old n was)
        | inr new ↦ up n (told n new).0
      ];
      acked = λ n here on. let on_w = sym (ap (λ (f : ℕ → _). (f n).volume) writes) ∙ on in elim (split n here) [
        | inl was ↦ k.acked n was on_w
        | inr new ↦ absurd ((told n new).1 on_w)
      ];
      elsewhere = λ n is. let e = k.elsewhere n is in (up n e.0, λ on. e.1 (sym (ap (λ (f : ℕ → _). (f n).volume) writes) ∙ on));
    }
      where
        up : (n : ℕ) → n < w.control.issued + 1 → n < u.control.issued + 1
        up n lt = subst (λ i. n < i + 1) (sym same) lt

        split : (n : ℕ) → In (Ack n) u.events → In (Ack n) w.events ⊎ In (Ack n) es
        split n here = in-joined w.events es (Ack n) (subst (In (Ack n)) events here)

    -- that acknowledge none
    pub silent-told : (w u : World) (es : List Event) → u.events ≡ w.events ++ es → Alike u w → u.control.issued ≡ w.control.issued → acknowledgements es ≡ [] → u.control.pending ≡ w.control.pending → Silent w → Silent u
    silent-told w u es events writes same none pending k =
        silent-by w u es events writes same (λ n here. absurd (unacked-in n es none here)) (subst (AllPending Waits) (sym pending) k.waits) (subst (AllPending (Issued w)) (sym pending) k.issued) k

    unacknowledged-silent : (w : World) (a : Act) → AcknowledgesNothing false a → (act w a).0.control.issued ≡ w.control.issued → Silent w → Silent (act w a).0
    unacknowledged-silent w a nothing same k =
        let h : EndsUnacknowledged false w (act w a).0 (act w a).1 = (act-turned false w a nothing).unacknowledged in
        silent-told w (act w a).0 h.since.added h.since.events (act-writes w a) same h.since.silent.none h.stays.pending k

    -- a write that lands in a stop is marked
    waits-marked : (w : World) (n : ℕ) → Elsewhere w n → (ps : List Pending) → AllPending (Issued w) ps → AllPending Waits ps → AllPending Waits (marked n ps)
    waits-marked w n other [] issued waits = tt
    waits-marked w n other (p ∷ ps) issued waits = (by (eqb_tells p.w n), waits-marked w n other ps issued.1 waits.1)
      where
        by : IsOrNot p.w n → Waits (cond (is_write n p) (record p { landed = true }) p)
        by (inl is) = subst (λ c. Waits (cond c (record p { landed = true }) p)) (sym is.0) (λ on. absurd (other.1 (ap (λ n. ((histories w.events).write n).volume) (sym is.1) ∙ issued.0.1 ∙ on)))
        by (inr ne) = subst (λ c. Waits (cond c (record p { landed = true }) p)) (sym ne.0) waits.0

    issued-marked : (w : World) (n : ℕ) (ps : List Pending) → AllPending (Issued w) ps → AllPending (Issued w) (marked n ps)
    issued-marked w n [] all = tt
    issued-marked w n (p ∷ ps) all = (by (is_write n p), issued-marked w n ps all.1)
      where
        by : (c : Bool) → Issued w (cond c (record p { landed = true }) p)
        by true = all.0
        by false = all.0

    -- a move that carries out such a write
    module _ (w : World) (m : Move) (n : ℕ) (other : Elsewhere w n) (tells : (u : Volume) → told m u ≡ Ack n ∷ []) (stops : (u : Volume) → told_in_stop m u ≡ []) (settles : (ps : List Pending) → settled m ps ≡ filter (is_other n) ps)
        (marks : (ps : List Pending) → settled_in_stop m ps ≡ marked n ps) (k : Silent w) where
      abbrev u : Volume
      u = w.control.volume (target m)

      stop-none : (x i n : ℕ) → acknowledgements (told_in_stop m u ++ Stopped x i ∷ []) ≡ []
      stop-none x i n = ap (λ es. acknowledgements (es ++ Stopped x i ∷ [])) (stops u)

      one-acked : (j : ℕ) → In (Ack j) (told m u) → Elsewhere w j
      one-acked j here = by (subst (In (Ack j)) (tells u) here)
        where
          by : In (Ack j) (Ack n ∷ []) → Elsewhere w j
          by (inl is) = let same : j ≡ n = cc in subst (Elsewhere w) (sym same) other
          by (inr none) = absurd none

      land-silent : Silent (act w (Make m)).0
      land-silent = act-cases w (Make m) (λ t. Silent t.0) (λ d off. k)
          (λ f. silent-by w (done w m f) (told m u) refl (done-writes w (Make m) f) refl one-acked
          (subst (AllPending Waits) (sym (settles w.control.pending)) (all-filter Waits (is_other n) w.control.pending k.waits))
          (subst (AllPending (Issued w)) (sym (settles w.control.pending)) (all-filter (Issued w) (is_other n) w.control.pending k.issued)) k)
          (λ f. silent-by w (done_in_stop w m f) (told_in_stop m u ++ Stopped u.server (landed m) ∷ []) refl (stopped-writes w m) refl (λ j here. absurd (unacked-in j _ (stop-none u.server (landed m) j) here))
          (subst (AllPending Waits) (sym (marks w.control.pending)) (waits-marked w n other w.control.pending k.issued k.waits))
          (subst (AllPending (Issued w)) (sym (marks w.control.pending)) (issued-marked w n w.control.pending k.issued)) k)
          (λ d f. silent-told w (not_done w u.server f) (Stopped u.server 0 ∷ []) refl (with-told w (Stopped u.server 0 ∷ []) refl) refl refl refl k)

    mirror-silent : (w : World) (x t a n : ℕ) → Silent w → Silent (act w (Make (Mirror x t a n))).0
    mirror-silent w x t a n k =
        let m : Move = Mirror x t a n in
        let u : Volume = w.control.volume x in
        act-cases w (Make m) (λ t. Silent t.0) (λ d off. k)
        (λ f. silent-told w (done w m f) (Mirrored n x ∷ []) refl (done-writes w (Make m) f) refl refl refl k)
        (λ f. silent-told w (done_in_stop w m f) (Mirrored n x ∷ Stopped u.server 0 ∷ []) refl (stopped-writes w m) refl refl refl k)
        (λ d f. silent-told w (not_done w u.server f) (Stopped u.server 0 ∷ []) refl (with-told w (Stopped u.server 0 ∷ []) refl) refl refl refl k)

    act-silent : (w : World) (a : Act) → Ok w a → (act w a).0.control.issued ≡ w.control.issued → Silent w → Silent (act w a).0
    act-silent w (Make (Land n x t)) ok same k = land-silent w (Land n x t) n (k.elsewhere n ok) (λ u. refl) (λ u. refl) (λ ps. refl) (λ ps. refl) k
    act-silent w (Make (Overwrite n x t)) ok same k = land-silent w (Overwrite n x t) n (k.elsewhere n ok) (λ u. refl) (λ u. refl) (λ ps. refl) (λ ps. refl) k
    act-silent w (Make (LandBoth n x t)) ok same k = land-silent w (LandBoth n x t) n (k.elsewhere n ok) (λ u. refl) (λ u. refl) (λ ps. refl) (λ ps. refl) k
    act-silent w (Make (Mirror x t a n)) ok same k = mirror-silent w x t a n k
    act-silent w (Drop n) ok same k = act-cases w (Drop n) (λ t. Silent t.0) (λ d off. k)
        (λ f. silent-by w (dropped w n) [] (sym (append-nil w.events)) refl refl (λ j here. absurd here) (all-filter Waits (is_other n) w.control.pending k.waits) (all-filter (Issued w) (is_other n) w.control.pending k.issued) k) tt (λ d f. absurd d)
    act-silent w (Acknowledge n) ok same k = act-cases w (Acknowledge n) (λ t. Silent t.0) (λ d off. k)
        (λ f. silent-by w (acknowledged w n) (Ack n ∷ []) refl (with-told w (Ack n ∷ []) refl) refl one-acked (all-filter Waits (is_other n) w.control.pending k.waits) (all-filter (Issued w) (is_other n) w.control.pending k.issued) k) tt (λ d f. absurd d)
      where
        one-acked : (j : ℕ) → In (Ack j) (Ack n ∷ []) → Elsewhere w j
        one-acked j (inl is) = let same : j ≡ n = cc in subst (Elsewhere w) (sym same) ok
        one-acked j (inr none) = absurd none
    act-silent w a ok same k = unacknowledged-silent w a refl same k

    pub record Frozen (w : World) : Type 0 where
      pub rooted : Rooted w.control
      pub silent : Silent w

    -- v is the secondary of one there only if it was
    pub second-from : (w : World) (a : Act) → Ok w a → Frozen w → is_part (fields_at (act w a).0.control v).secondary ≡ true → is_part (fields_at w.control v).secondary ≡ true
    second-from w a ok k = (act-rooted w a ok k.rooted).2

    pub frozen-act : (w : World) (a : Act) → Ok w a → Frozen w → Frozen (act w a).0
    frozen-act w a ok k = let r = act-rooted w a ok k.rooted in record { rooted = r.0; silent = act-silent w a ok r.1 k.silent }

    -- another world, in which no volume changes and such events are told
    pub frozen-told : (w u : World) (es : List Event) → u.events ≡ w.events ++ es → Alike u w → u.control.issued ≡ w.control.issued → acknowledgements es ≡ [] → u.control.pending ≡ w.control.pending → Rooted u.control → Frozen w → Frozen u
    frozen-told w u es events writes same none pending rooted k = record { rooted = rooted; silent = silent-told w u es events writes same none pending k.silent }
