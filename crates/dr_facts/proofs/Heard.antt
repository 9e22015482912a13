-- What an event makes of the lists of volumes: those that hear nothing of it stay, and what holds of each list goes on to hold.
use Rattle.std.proofs.Common.{ℕ, ◌≡◌, ◌≢◌, refl, ap, ◌∙◌, Bool, true, false, cond, nat_eq, List, [], ◌∷◌, ◌++◌, map, subst}
use Rattle.std.specs.List.{fold}
use Rattle.std.proofs.lemmas.Bool.{ne_eqb}
use Rattle.std.proofs.lemmas.List.{append-nil}
use Rattle.dr_logic.specs.Tables.{at, at2}
use Rattle.dr_model.specs.declared.event.Event.{Event}
use Rattle.dr_model.specs.declared.event.Event.TheVariants.{Volume as VolumeDefined, Issue, Ack, Mirrored, Sent, Flashed, Committed, Reverted, Set, Back, Blanked}
use Rattle.dr_model.specs.Histories.{Lists, Histories, joined, after_event}
use Rattle.dr_model.specs.Layout.{Tracks}
use Rattle.dr_model.specs.Control.{Volume as VolumeRow}
use Rattle.dr_model.specs.Moves.{Move, told, told_restored}
use Rattle.dr_facts.specs.Heard.{Unheard, AllUnheard}
use Rattle.dr_facts.proofs.Tables.{at_cases, at2_cases}
use Rattle.dr_facts.proofs.Emits.{Lists as ByEvents, Tag, Suspends, Frees, Begins, Cuts, Of, all_tags, emits, restored-onto, each-told}

pub elsewhere : {X : Type 0} (v x : ℕ) (new old : X) → v ≢ x → cond (nat_eq v x) new old ≡ old
elsewhere v x new old ne = ap (λ b. cond b new old) (ne_eqb v x ne)

-- kinds of events that change no history, and that a move tells or doesn't by what it finds
abbrev pub changes_none : Tag → Bool
changes_none Suspends = true
changes_none Frees = true
changes_none Begins = true
changes_none Cuts = true
changes_none k = false

-- ---- lists that hear nothing stay

module _ (P : ℕ → Type 0) where
  pub unheard-event : (h : Histories) (e : Event) (v t : ℕ) → Unheard P v e → ((n : ℕ) → e ≡ Ack n → P n → (after_event h e).now v t ≡ h.now v t) → (after_event h e).now v t ≡ h.now v t
  unheard-event h (VolumeDefined x server tracks) v t a acked = ap (λ (f : ℕ → List ℕ). f t) (elsewhere v x (λ t. []) (h.now v) a)
  unheard-event h (Ack n) v t a acked = acked n refl a
  unheard-event h (Mirrored n x) v t a acked = elsewhere v x _ (h.now v t) a
  unheard-event h (Sent x q to) v t a acked = elsewhere v to _ (h.now v t) a
  unheard-event h (Flashed s n b c d) v t a acked = ap (λ (f : ℕ → List ℕ). f t) (elsewhere v d (h.now c) (h.now v) a)
  unheard-event h (Reverted s n b c) v t a acked = ap (λ (f : ℕ → List ℕ). f t) (elsewhere v c (h.aside c) (h.now v) a)
  unheard-event h (Set x from) v t a acked = ap (λ (f : ℕ → List ℕ). f t) (elsewhere v x (h.now from) (h.now v) a)
  unheard-event h (Back x q from) v t a acked = elsewhere v x _ (h.now v t) a
  unheard-event h (Blanked x q) v t a acked = elsewhere v x _ (h.now v t) a
  unheard-event h e v t a acked = refl

  pub unheard-write : (h : Histories) (e : Event) (v : ℕ) → Unheard P v e → (after_event h e).write ≡ h.write
  unheard-write h (Issue n x q offset len bytes) v a = absurd a
  unheard-write h e v a = refl

  pub unheard-writes : (es : List Event) (h : Histories) (v : ℕ) → AllUnheard P v es → (fold after_event h es).write ≡ h.write
  unheard-writes [] h v a = refl
  unheard-writes (e ∷ es) h v a = unheard-writes es (after_event h e) v a.1 ∙ unheard-write h e v a.0

  pub unheard-append : (v : ℕ) (es fs : List Event) → AllUnheard P v es → AllUnheard P v fs → AllUnheard P v (es ++ fs)
  unheard-append v [] fs a b = b
  unheard-append v (e ∷ es) fs a b = (a.0, unheard-append v es fs a.1 b)

  -- ---- what moves tell

  unheard-lists : (v : ℕ) → ByEvents (Unheard P v) (AllUnheard P v)
  unheard-lists v = record { none = tt; more = λ e es here behind. (here, behind) }

  pub unheard-blanked : (v x : ℕ) (ts : List ℕ) → v ≢ x → AllUnheard P v (map (Blanked x) ts)
  unheard-blanked v x [] ne = tt
  unheard-blanked v x (t ∷ ts) ne = (ne, unheard-blanked v x ts ne)

  pub unheard-restored : (v x s n : ℕ) (own : Tracks) → v ≢ x → AllUnheard P v (told_restored x s n own)
  unheard-restored v x s n own ne = subst (AllUnheard P v) (append-nil _) (restored-onto (Unheard P v) (AllUnheard P v) (unheard-lists v) x s n own [] (λ t. ne) tt tt)

  unheard-kind : (v : ℕ) (e : Event) → Of changes_none e → Unheard P v e
  unheard-kind v (Ack n) h = absurd cc
  unheard-kind v e h = first_of (assumption, cc)

  pub unheard-told : (v : ℕ) (m : Move) (u : VolumeRow) → all_tags changes_none (emits m) ≡ true → AllUnheard P v (told m u)
  unheard-told v = each-told changes_none (AllUnheard P v) (record { none = tt; more = λ e es h behind. (unheard-kind v e h, behind) })

-- ---- what holds of each list goes on to hold

-- of each list, by its track: of those that volumes hold, and of those that are kept aside
abbrev pub OfEach : (ℕ → List ℕ → Type 0) → Histories → Type 0
OfEach P h = ((v t : ℕ) → P t (h.now v t)) × ((v t : ℕ) → P t (h.aside v t))

-- it holds of the list with the write that the event adds
abbrev pub OfJoined : (ℕ → List ℕ → Type 0) → Histories → Event → Type 0
OfJoined P h (Ack n) = P (h.write n).track (joined h n)
OfJoined P h (Mirrored n x) = P (h.write n).track (joined h n)
OfJoined P h e = Unit {0}

module _ (P : ℕ → List ℕ → Type 0) (none : (t : ℕ) → P t []) where
  volume-at : (l : Lists) (x : ℕ) (new : ℕ → List ℕ) → ((v t : ℕ) → P t (l v t)) → ((t : ℕ) → P t (new t)) → (v t : ℕ) → P t (at l x new v t)
  volume-at l x new old here = at_cases (λ v (f : ℕ → List ℕ). (t : ℕ) → P t (f t)) l x new here (λ v ne. old v)

  track-at : (l : Lists) (x q : ℕ) (new : List ℕ) → ((v t : ℕ) → P t (l v t)) → P q new → (v t : ℕ) → P t (at2 l x q new v t)
  track-at l x q new old here = at2_cases (λ v t ws. P t ws) l x q new here (λ v t ne. old v t)

  pub each-event : (h : Histories) (e : Event) → OfJoined P h e → OfEach P h → OfEach P (after_event h e)
  each-event h (VolumeDefined x server tracks) new old = (volume-at h.now x (λ t. []) old.0 none, old.1)
  each-event h (Ack n) new old = (track-at h.now (h.write n).volume (h.write n).track (joined h n) old.0 new, old.1)
  each-event h (Mirrored n x) new old = (track-at h.now x (h.write n).track (joined h n) old.0 new, old.1)
  each-event h (Sent x q to) new old = (track-at h.now to q (h.now x q) old.0 (old.0 x q), old.1)
  each-event h (Flashed s n a b c) new old = (volume-at h.now c (h.now b) old.0 (old.0 b), volume-at h.aside c (h.now c) old.1 (old.0 c))
  each-event h (Committed s n a c) new old = (old.0, volume-at h.aside c (λ t. []) old.1 none)
  each-event h (Reverted s n a c) new old = (volume-at h.now c (h.aside c) old.0 (old.1 c), old.1)
  each-event h (Set x from) new old = (volume-at h.now x (h.now from) old.0 (old.0 from), old.1)
  each-event h (Back x q from) new old = (track-at h.now x q (h.now from q) old.0 (old.0 from q), old.1)
  each-event h (Blanked x q) new old = (track-at h.now x q [] old.0 (none q), old.1)
  each-event h e new old = old
