-- Each write that is numbered was told of as it was issued, and lists have writes on tracks alone that their volume has.
use Rattle.std.proofs.Common.{ℕ, ◌≡◌, ◌≢◌, ◌<◌, ◌+◌, inl, inr, refl, ap, sym, ◌∙◌, subst, arith, Bool, true, false, cond, ◌||◌, nat_eq, List, [], ◌∷◌, ◌++◌, length, Option, Some, None}
use Rattle.std.specs.List.{fold, list_any}
use Rattle.std.proofs.lemmas.Bool.{or_parts}
use Rattle.std.proofs.lemmas.Bool.Decides.{eqb_tells}
use Rattle.dr_logic.proofs.Tables.{at_other}
use Rattle.std.proofs.lemmas.List.{append-nil}
use Rattle.std.proofs.lemmas.List.Folds.{list_any-append}
use Rattle.std.proofs.Math.Bool.{or-true}
use Rattle.dr_logic.specs.Tables.{at, at2}
use Rattle.dr_model.specs.declared.event.Event.{Event}
use Rattle.dr_model.specs.declared.event.Event.TheVariants.{Cut, Volume as VolumeDefined, Issue, Ack, Mirrored, Sent, Flashed, Committed, Reverted, Set, Back, Blanked, Stopped, Frozen, Thawed, Recovered, Begin}
use Rattle.dr_model.specs.Histories.{Lists, Write, Histories, joined, after_event, histories, lists}
use Rattle.dr_model.specs.Control.{Fuse, Pending, Volume, World, is_volume, new_volume, nothing}
use Rattle.dr_model.specs.Moves.{Move, Land, Overwrite, Store, Mirror, LandBoth, Flash, Relate, Resync, Restore, Restart, Hold, target, told, told_in_stop, landed, keeps_staged, moved_keeping}
use Rattle.dr_model.specs.Carry.{Act, Make, OpenAttempt, Redo, Acknowledge, Drop, EndFreeze, EndThaw, EndRecovery, acknowledged, dropped, frozen, thawed, recovered}
use Rattle.dr_model.specs.Runs.{Task, run}
use Rattle.dr_model.specs.Groups.{In}
use Rattle.dr_model.specs.Table.{Table, table}
use Rattle.dr_model.specs.Laws.{SoundBut, Sound, FlashFits, source}
use Rattle.dr_model.specs.Allowed.{May, Ready, Allowed}
use Rattle.dr_model.specs.Cuts.{Cuts, Past, past, cuts, past_event, cuts_after}
use Rattle.dr_model.proofs.Images.{histories-append}
use Rattle.dr_laws_cuts.proofs.Journal.{past-history, cuts-append, cuts-quiet}
use Rattle.dr_facts.proofs.Tables.{at_cases, at2_cases, at_part}
use Rattle.dr_facts.proofs.Emits.{Tag, Defines, Issues, Acks, Mirrors, Sends, Flashes, Sets, Backs, Of, AllOf, of-append, all_tags, emits, each-told}
use Rattle.dr_laws_sound.proofs.Turns.{done, done_in_stop, opened_in_stop, not_done, fused, server_at, next_of, carried_in, after_act}
use Rattle.dr_laws_sound.proofs.KeepsSound.{MayDo}
use Rattle.dr_laws_sound.proofs.Issues.{issued}
use Rattle.dr_laws_sound.proofs.Defines.{with_volume}
use Rattle.dr_laws_sound.proofs.FitsMessages.{opened}
use Rattle.dr_laws_sound.proofs.Starts as starts
use Rattle.dr_laws_sound.proofs.Steps as steps
use Rattle.dr_laws_sound.proofs.Rides.{Rides}
use Rattle.dr_laws_sound.proofs.Riders.{Unheard, Rider, rides-tasks}
use Rattle.dr_laws_losses.proofs.Alike.{issues_it}

-- ---- lists on tracks that volumes have

module _ (tracks : ℕ → ℕ) where
  -- each list that isn't empty is one of a track that its volume has
  abbrev pub AllLow : Lists → Type 0
  AllLow l = (v t n : ℕ) → In n (l v t) → t < tracks v

  abbrev pub OfLow : Histories → Type 0
  OfLow h = AllLow h.now × AllLow h.aside

  -- what an event tells is of such tracks; no write is issued, and no volume defined
  abbrev Heeds : (ℕ → Write) → Event → Type 0
  Heeds write (VolumeDefined v server size) = ⊥
  Heeds write (Issue n v t offset len bytes) = ⊥
  Heeds write (Ack n) = (write n).track < tracks (write n).volume
  Heeds write (Mirrored n v) = (write n).track < tracks v
  Heeds write (Sent v t to) = t < tracks to
  Heeds write (Flashed s n a b c) = tracks c ≡ tracks b
  Heeds write (Set v from) = tracks v ≡ tracks from
  Heeds write (Back v t from) = t < tracks v
  Heeds write e = Unit {0}

  volume-low : (l : Lists) (x : ℕ) (new : ℕ → List ℕ) → AllLow l → ((t n : ℕ) → In n (new t) → t < tracks x) → AllLow (at l x new)
  volume-low l x new old here v = at_cases (λ v (f : ℕ → List ℕ). (t n : ℕ) → In n (f t) → t < tracks v) l x new here (λ v ne. old v) v

  track-low : (l : Lists) (x q : ℕ) (new : List ℕ) → AllLow l → q < tracks x → AllLow (at2 l x q new)
  track-low l x q new old here v t = at2_cases (λ v t ws. (n : ℕ) → In n ws → t < tracks v) l x q new (λ n i. here) (λ v t ne n i. old v t n i) v t

  same-low : (v x t : ℕ) → tracks v ≡ tracks x → t < tracks x → t < tracks v
  same-low v x t is lt = subst (λ k. t < k) (sym is) lt

  event-low : (h : Histories) (e : Event) → Heeds h.write e → OfLow h → OfLow (after_event h e)
  event-low h (VolumeDefined v server size) new old = absurd new
  event-low h (Issue n v t offset len bytes) new old = absurd new
  event-low h (Ack n) new old = (track-low h.now (h.write n).volume (h.write n).track (joined h n) old.0 new, old.1)
  event-low h (Mirrored n v) new old = (track-low h.now v (h.write n).track (joined h n) old.0 new, old.1)
  event-low h (Sent v t to) new old = (track-low h.now to t (h.now v t) old.0 new, old.1)
  event-low h (Flashed s n a b c) new old = (volume-low h.now c (h.now b) old.0 (λ t k i. same-low c b t new (old.0 b t k i)), volume-low h.aside c (h.now c) old.1 (λ t k i. old.0 c t k i))
  event-low h (Committed s n a c) new old = (old.0, volume-low h.aside c (λ t. []) old.1 (λ t k i. absurd i))
  event-low h (Reverted s n a c) new old = (volume-low h.now c (h.aside c) old.0 (λ t k i. old.1 c t k i), old.1)
  event-low h (Set v from) new old = (volume-low h.now v (h.now from) old.0 (λ t k i. same-low v from t new (old.0 from t k i)), old.1)
  event-low h (Back v t from) new old = (track-low h.now v t (h.now from t) old.0 new, old.1)
  event-low h (Blanked v t) new old = (blank-low h.now v t old.0, old.1)
    where
      blank-low : (l : Lists) (x q : ℕ) → AllLow l → AllLow (at2 l x q [])
      blank-low l x q old v t = at2_cases (λ v t ws. (n : ℕ) → In n ws → t < tracks v) l x q [] (λ n i. absurd i) (λ v t ne n i. old v t n i) v t
  event-low h e new old = old

  heeds-write : (h : Histories) (e : Event) → Heeds h.write e → (after_event h e).write ≡ h.write
  heeds-write h (VolumeDefined v server size) new = absurd new
  heeds-write h (Issue n v t offset len bytes) new = absurd new
  heeds-write h e new = refl

  events-low : (es : List Event) (h : Histories) → AllOf (Heeds h.write) es → OfLow h → OfLow (fold after_event h es)
  events-low [] h all old = old
  events-low (e ∷ es) h all old =
      events-low es (after_event h e) (subst (λ write. AllOf (Heeds write) es) (sym (heeds-write h e all.0)) all.1) (event-low h e all.0 old)

  -- so is what cuts hold
  abbrev pub HeldLow : Cuts → Type 0
  HeldLow c = (k : ℕ) → AllLow (c.held k)

  cut-low : (p : Past) (e : Event) → AllLow p.history.now → HeldLow p.cuts → HeldLow (cuts_after p e)
  cut-low p (Cut s n a) now old =
      at2_cases (λ k v (f : ℕ → List ℕ). (t m : ℕ) → In m (f t) → t < tracks v) p.cuts.held n a (p.history.now a) (now a) (λ k v ne. old k v)
  cut-low p e now old = old

  cuts-low : (es : List Event) (p : Past) → AllOf (Heeds p.history.write) es → OfLow p.history → HeldLow p.cuts → HeldLow (fold past_event p es).cuts
  cuts-low [] p all lists old = old
  cuts-low (e ∷ es) p all lists old =
      cuts-low es (past_event p e) (subst (λ write. AllOf (Heeds write) es) (sym (heeds-write p.history e all.0)) all.1) (event-low p.history e all.0 lists) (cut-low p e lists.0 old)

-- ---- what moves tell

abbrev sizes : World → ℕ → ℕ
sizes w v = (w.control.volume v).tracks

abbrev writes : World → ℕ → Write
writes w = (histories w.events).write

abbrev Heard : World → Event → Type 0
Heard w e = Heeds (sizes w) (writes w) e

-- kinds of events of which nothing is asked
abbrev asks_none : Tag → Bool
asks_none Issues = false
asks_none Defines = false
asks_none Acks = false
asks_none Mirrors = false
asks_none Sends = false
asks_none Flashes = false
asks_none Sets = false
asks_none Backs = false
asks_none k = true

heeds-kind : (w : World) (e : Event) → Of asks_none e → Heard w e
heeds-kind w (VolumeDefined v server size) h = absurd cc
heeds-kind w (Issue n v t offset len bytes) h = absurd cc
heeds-kind w (Ack n) h = absurd cc
heeds-kind w (Mirrored n v) h = absurd cc
heeds-kind w (Sent v t to) h = absurd cc
heeds-kind w (Flashed s n a b c) h = absurd cc
heeds-kind w (Set v from) h = absurd cc
heeds-kind w (Back v t from) h = absurd cc
heeds-kind w e h = tt

kind-told : (w : World) (m : Move) (u : Volume) → all_tags asks_none (emits m) ≡ true → AllOf (Heard w) (told m u)
kind-told w = each-told asks_none (AllOf (Heard w)) (record { none = tt; more = λ e es h behind. (heeds-kind w e h, behind) })

acked-low : (w : World) (n v t : ℕ) → (writes w n).volume ≡ v → (writes w n).track ≡ t → t < sizes w v → (writes w n).track < sizes w (writes w n).volume
acked-low w n v t volume track low = subst (λ v. (writes w n).track < sizes w v) (sym volume) (subst (λ t. t < sizes w v) (sym track) low)

target-sizes : (starts : Option ℕ) (w : World) → SoundBut starts w → (v from : ℕ) → source (table w v) ≡ Some from → sizes w v ≡ sizes w from
target-sizes starts w s v from related = let f : FlashFits (is_volume w.control from) (source (table w from)) (w.control.volume v).server
    (w.control.volume from).server (sizes w v) (sizes w from) = s.rows.structure.flash v from related in f.same_tracks

related-source : (w : World) (v from : ℕ) → source (table w v) ≡ Some from → (w.control.volume v).fields.source ≡ from
related-source w v from is = by (w.control.volume v).fields.related is
  where
    by : (b : Bool) → cond b (Some (w.control.volume v).fields.source) None ≡ Some from → (w.control.volume v).fields.source ≡ from
    by true is = cc
    by false is = absurd cc

told-heard : (starts : Option ℕ) (w : World) (s : SoundBut starts w) (m : Move) → Allowed (writes w) (table w) m → Ready w m → AllOf (Heard w) (told m (w.control.volume (target m)))
told-heard starts w s (Land n v t) allowed ready = (acked-low w n v t ready.volume ready.track allowed.receives.low, tt)
told-heard starts w s (Overwrite n v t) allowed ready = (acked-low w n v t ready.volume ready.track allowed.low, tt)
told-heard starts w s (LandBoth n v t) allowed ready = (acked-low w n v t ready.volume ready.track allowed.land.receives.low, tt)
told-heard starts w s (Mirror v t u n) allowed ready = (subst (λ q. q < sizes w v) (sym ready.track) allowed.receives.low, tt)
told-heard starts w s (Store v t u last) allowed ready = (allowed.receives.low, tt)
told-heard starts w s (Flash v u a i n) allowed ready = (target-sizes starts w s v u (allowed.resync.related ∙ ap Some allowed.from), tt)
told-heard starts w s (Relate v x choices) allowed ready = (allowed.tracks, tt)
told-heard starts w s (Resync v sequence) allowed ready = (target-sizes starts w s v allowed.from allowed.related ∙ ap (sizes w) (sym (related-source w v allowed.from allowed.related)), tt)
told-heard starts w s (Restore v t u) allowed ready = (allowed.low, tt)
told-heard starts w s m allowed ready = kind-told w m (w.control.volume (target m)) refl

stop-heard : (starts : Option ℕ) (w : World) (s : SoundBut starts w) (m : Move) → Allowed (writes w) (table w) m → Ready w m → (x n : ℕ) → AllOf (Heard w) (told_in_stop m (w.control.volume (target m)) ++ Stopped x n ∷ [])
stop-heard starts w s (Land n v t) allowed ready x k = (tt, tt)
stop-heard starts w s (Overwrite n v t) allowed ready x k = (tt, tt)
stop-heard starts w s (LandBoth n v t) allowed ready x k = (tt, tt)
stop-heard starts w s m allowed ready x k = of-append (Heard w) (told m (w.control.volume (target m))) (Stopped x k ∷ []) (told-heard starts w s m allowed ready) (tt, tt)

-- ---- worlds

-- each number so far is that of a write that was issued, and lists are low
pub record Tidy (w : World) : Type 0 where
  pub issued : (n : ℕ) → 0 < n → n < w.control.issued + 1 → list_any (issues_it n) w.events ≡ true
  pub low : OfLow (sizes w) (histories w.events)
  pub held : HeldLow (sizes w) (cuts w.events)
  pub none : (v : ℕ) → is_volume w.control v ≡ false → sizes w v ≡ 0

pub issued-more : (n : ℕ) (es more : List Event) → list_any (issues_it n) es ≡ true → list_any (issues_it n) (es ++ more) ≡ true
issued-more n es more is = list_any-append (issues_it n) es more ∙ ap (λ b. b || list_any (issues_it n) more) is

-- what cuts hold after more events
held-more : (w : World) (more : List Event) → OfLow (sizes w) (histories w.events) → HeldLow (sizes w) (cuts w.events) → AllOf (Heard w) more → HeldLow (sizes w) (cuts (w.events ++ more))
held-more w more lists old all =
    let is : (past w.events).history ≡ histories w.events = past-history w.events in
    subst (HeldLow (sizes w)) (sym (cuts-append w.events more))
    (cuts-low (sizes w) more (past w.events) (subst (λ (h : Histories). AllOf (Heeds (sizes w) h.write) more) (sym is) all) (subst (OfLow (sizes w)) (sym is) lists) old)

-- events are told, and volumes keep their sizes
tidy-more : (w u : World) (more : List Event) → Tidy w → u.events ≡ w.events ++ more → u.control.issued ≡ w.control.issued → u.control.volumes ≡ w.control.volumes → ((v : ℕ) → sizes u v ≡ sizes w v) → AllOf (Heard w) more → Tidy u
tidy-more w u more k events issued volumes same all = record {
  held = subst (λ es. HeldLow (sizes u) (cuts es)) (sym events) (subst (λ (f : ℕ → ℕ). HeldLow f (cuts (w.events ++ more))) (λ i v. sym (same v) i) (held-more w more k.low k.held all));
  none = λ v undefined. same v ∙ k.none v (sym (ap (λ vs. list_any (nat_eq v) vs) volumes) ∙ undefined);
  issued = λ n positive lt. subst (λ es. list_any (issues_it n) es ≡ true) (sym events) (issued-more n w.events more (k.issued n positive (subst (λ i. n < i + 1) issued lt)));
  low = subst (λ es. OfLow (sizes u) (histories es)) (sym events) (subst (OfLow (sizes u)) (sym (histories-append w.events more))
      (subst (λ (f : ℕ → ℕ). OfLow f (fold after_event (histories w.events) more)) (λ i v. sym (same v) i) (events-low (sizes w) more (histories w.events) all k.low)));
}

moved-sizes : (w : World) (m : Move) (v : ℕ) → sizes (done w m None) v ≡ sizes w v
moved-sizes w m v = at_part (λ (y : Volume). y.tracks) w.control.volume (target m) (moved_keeping (keeps_staged m) (w.control.volume (target m)) (next_of w m) (carried_in w m)) refl v

-- nothing of which anything is asked
tidy-one : (w u : World) (more : List Event) → Tidy w → u.events ≡ w.events ++ more → u.control.issued ≡ w.control.issued → u.control.volumes ≡ w.control.volumes → u.control.volume ≡ w.control.volume → AllOf (Heard w) more → Tidy u
tidy-one w u more k events issued volumes volume all = tidy-more w u more k events issued volumes (λ v. ap (λ (f : ℕ → Volume). (f v).tracks) volume) all

module _ (starts : Option ℕ) (w : World) (s : SoundBut starts w) (k : Tidy w) where
  tidy-done : (m : Move) (f : Option Fuse) → May w m → Tidy (done w m f)
  tidy-done m f may = tidy-more w (done w m f) (told m (w.control.volume (target m))) k refl refl refl (moved-sizes w m) (told-heard starts w s m may.allowed may.ready)

  tidy-stop : (m : Move) (f : Option Fuse) → May w m → Tidy (done_in_stop w m f)
  tidy-stop m f may = tidy-more w (done_in_stop w m f) (told_in_stop m (w.control.volume (target m)) ++ Stopped (server_at w (target m)) (landed m) ∷ []) k refl refl refl
      (moved-sizes w m) (stop-heard starts w s m may.allowed may.ready (server_at w (target m)) (landed m))

tidy-not : (w : World) (x : ℕ) (f : Option Fuse) → Tidy w → Tidy (not_done w x f)
tidy-not w x f k = tidy-one w (not_done w x f) (Stopped x 0 ∷ []) k refl refl refl refl (tt, tt)

acts : Rides Sound Tidy MayDo
acts = record {
  does = λ w a f s k may. does w a f s k may;
  counts = λ w m f s k may. tidy-stop None w s k m f may;
  opens = λ w v i n f s k may. tidy-more w (opened_in_stop w v i n f) (told (Hold v i n true) (w.control.volume v) ++ Stopped (server_at w v) 0 ∷ []) k refl refl refl (moved-sizes w (Hold v i n true))
      (of-append (Heard w) (told (Hold v i n true) (w.control.volume v)) (Stopped (server_at w v) 0 ∷ []) (kind-told w (Hold v i n true) (w.control.volume v) refl) (tt, tt));
  fails = λ w a f d s k may. tidy-not w _ f k;
}
  where
    does : (w : World) (a : Act) (f : Option Fuse) → Sound w → Tidy w → MayDo w a → Tidy (after_act w a f)
    does w (Make m) f s k may = tidy-done None w s k m f may
    does w (OpenAttempt v i n) f s k may = tidy-more w (after_act w (OpenAttempt v i n) f)
        (told (Hold v i n true) (w.control.volume v)) k refl refl refl (moved-sizes w (Hold v i n true)) (kind-told w (Hold v i n true) (w.control.volume v) refl)
    does w (Redo v) f s k may = tidy-one w (fused w (server_at w v) f) [] k (sym (append-nil w.events)) refl refl refl tt
    does w (Acknowledge n) f s k may = absurd may
    does w (Drop n) f s k may = tidy-one w (dropped w n) [] k (sym (append-nil w.events)) refl refl refl tt
    does w (EndFreeze l m) f s k may = tidy-one w (frozen w l m) (Frozen l m ∷ []) k refl refl refl refl (tt, tt)
    does w (EndThaw l m) f s k may = tidy-one w (thawed w l m) (Thawed l m ∷ []) k refl refl refl refl (tt, tt)
    does w (EndRecovery i n) f s k may = tidy-one w (recovered w i n) (Recovered i n ∷ []) k refl refl refl refl (tt, tt)

module _ (x : ℕ) where
  tidy-acked : (w : World) (n : ℕ) → starts.Inner x w → Tidy w → starts.MayAcknowledge x w n → Tidy (acknowledged w n)
  tidy-acked w n j k may =
      let p : Pending = may.waits in
      subst (λ n. Tidy (acknowledged w n)) may.number
      (tidy-one w (acknowledged w p.w) (Ack p.w ∷ []) k refl refl refl refl
      (acked-low w p.w p.volume p.track (starts.waits x w j.sound p may.first).volume (starts.waits x w j.sound p may.first).track (starts.waits x w j.sound p may.first).low, tt))

  start-acts : Rides (starts.Inner x) Tidy (starts.MayStart x)
  start-acts = record {
    does = λ w a f j k may. does w a f j k may;
    counts = λ w m f j k may. counts w m f j k may;
    opens = λ w v i n f j k may. absurd may;
    fails = λ w a f d j k may. tidy-not w _ f k;
  }
    where
      does : (w : World) (a : Act) (f : Option Fuse) → starts.Inner x w → Tidy w → starts.MayStart x w a → Tidy (after_act w a f)
      does w (Make (Restart v)) f j k may = tidy-done (Some x) w j.sound k (Restart v) f (starts.may-restart x w v may)
      does w (Redo v) f j k may = tidy-one w (fused w (server_at w v) f) [] k (sym (append-nil w.events)) refl refl refl tt
      does w (Acknowledge n) f j k may = tidy-acked w n j k may
      does w a f j k may = absurd may

      counts : (w : World) (m : Move) (f : Option Fuse) → starts.Inner x w → Tidy w → starts.MayMove x w m → Tidy (done_in_stop w m f)
      counts w (Restart v) f j k may = tidy-stop (Some x) w j.sound k (Restart v) f (starts.may-restart x w v may)
      counts w m f j k may = absurd may

-- ---- what is no act

tidy-unheard : (w u : World) (more : List Event) → Tidy w → Unheard w u more → Tidy u
tidy-unheard w u more k q = record {
  held = subst (λ es. HeldLow (sizes u) (cuts es)) (sym q.events) (subst (HeldLow (sizes u)) (sym (cuts-quiet w.events more q.quiet)) (subst (λ (f : ℕ → Volume). HeldLow (λ v. (f v).tracks) (cuts w.events)) (sym q.volume) k.held));
  none = λ v undefined. ap (λ (f : ℕ → Volume). (f v).tracks) q.volume ∙ k.none v (sym (ap (λ (T : Table). (T v).defined) q.rows) ∙ undefined);
  issued = λ n positive lt. subst (λ es. list_any (issues_it n) es ≡ true) (sym q.events) (issued-more n w.events more (k.issued n positive (subst (λ i. n < i + 1) q.issued lt)));
  low = subst (λ (h : Histories). OfLow (sizes u) h) (sym q.lists) (subst (λ (f : ℕ → Volume). OfLow (λ v. (f v).tracks) (histories w.events)) (sym q.volume) k.low);
}

tidy-issues : (w : World) (s : Sound w) (v t offset len : ℕ) (bytes : List ℕ) (defined : is_volume w.control v ≡ true) (low : t < (w.control.volume v).tracks) → Tidy w → Tidy (issued w s v t offset len bytes defined low)
tidy-issues w s v t offset len bytes defined low k = record {
  issued = λ n positive lt. elim (eqb_tells n (w.control.issued + 1)) [
    | inl is ↦ list_any-append (issues_it n) w.events (told ∷ []) ∙ ap (λ b. list_any (issues_it n) w.events || (b || false)) is.0 ∙ or-true (list_any (issues_it n) w.events)
    | inr not ↦ issued-more n w.events (told ∷ []) (k.issued n positive (let ne : n ≢ w.control.issued + 1 = not.1 in let l : n < w.control.issued + 1 + 1 = lt in omega arith))
  ];
  low = subst (λ (h : Histories). OfLow (sizes w) h) (sym (histories-append w.events (told ∷ []))) k.low;
  held = subst (HeldLow (sizes w)) (sym (cuts-quiet w.events (told ∷ []) (tt, tt))) k.held;
  none = k.none;
}
  where
    told : Event
    told = Issue (w.control.issued + 1) v t offset len bytes

tidy-defines : (w : World) (s : Sound w) (v server tracks : ℕ) (here : server < length w.control.servers) (undefined : is_volume w.control v ≡ false) → Tidy w → Tidy (with_volume w s v server tracks here undefined)
tidy-defines w s v server tracks here undefined k = record {
  issued = λ n positive lt. issued-more n w.events (VolumeDefined v server tracks ∷ []) (k.issued n positive lt);
  low = subst (λ (h : Histories). OfLow (sizes u) h) (sym (histories-append w.events (VolumeDefined v server tracks ∷ [])))
      (at_cases (λ q (f : ℕ → List ℕ). (t n : ℕ) → In n (f t) → t < sizes u q) h.now v (λ t. []) (λ t n i. absurd i) (λ q ne t n i. subst (λ k. t < k) (sym (else q ne)) (k.low.0 q t n i)), aside-low);
  held = λ n q t m i. held-low n q t m (subst (λ (c : Cuts). In m (c.held n q t)) (cuts-quiet w.events (VolumeDefined v server tracks ∷ []) (tt, tt)) i);
  none = λ q free. elim (eqb_tells q v) [
    | inl is ↦ absurd (let now : list_any (nat_eq q) (w.control.volumes ++ v ∷ []) ≡ true = list_any-append (nat_eq q) w.control.volumes (v ∷ [])
        ∙ ap (λ b. list_any (nat_eq q) w.control.volumes || (b || false)) is.0 ∙ or-true (list_any (nat_eq q) w.control.volumes) in let e : true ≡ false = sym now ∙ free in cc)
    | inr not ↦ else q not.1 ∙ k.none q (or_parts (list_any (nat_eq q) w.control.volumes) _ (sym (list_any-append (nat_eq q) w.control.volumes (v ∷ [])) ∙ free)).0
  ];
}
  where
    u : World
    u = with_volume w s v server tracks here undefined

    h : Histories
    h = histories w.events

    else : (q : ℕ) → q ≢ v → (at w.control.volume v (new_volume server tracks) q).tracks ≡ sizes w q
    else q ne = ap (λ (y : Volume). y.tracks) (at_other w.control.volume v (new_volume server tracks) q ne)

    aside-low : (q t n : ℕ) → In n ((histories w.events).aside q t) → t < (at w.control.volume v (new_volume server tracks) q).tracks
    aside-low q t n i = elim (eqb_tells q v) [
      | inl is ↦ absurd (let lt : t < sizes w q = k.low.1 q t n i in let zero : sizes w q ≡ 0 = k.none q (ap (is_volume w.control) is.1 ∙ undefined) in omega arith)
      | inr not ↦ subst (λ k. t < k) (sym (else q not.1)) (k.low.1 q t n i)
    ]

    held-low : (k q t n : ℕ) → In n ((cuts w.events).held k q t) → t < (at w.control.volume v (new_volume server tracks) q).tracks
    held-low j q t n i = elim (eqb_tells q v) [
      | inl is ↦ absurd (let lt : t < sizes w q = k.held j q t n i in let zero : sizes w q ≡ 0 = k.none q (ap (is_volume w.control) is.1 ∙ undefined) in omega arith)
      | inr not ↦ subst (λ k. t < k) (sym (else q not.1)) (k.held j q t n i)
    ]

pub tidy-ride : Rider Tidy
tidy-ride = record {
  acts = acts;
  start_acts = start-acts;
  unheard = λ w u more k q none. tidy-unheard w u more k q;
  issues = tidy-issues;
  regroups = λ w ss f s t turn adds goes k. record { issued = k.issued; low = k.low; held = k.held; none = k.none };
  opens = λ w i n x r s t found has idle next k. tidy-one w (opened w i n) (Begin i n ∷ []) k refl refl refl refl (tt, tt);
  defines = tidy-defines;
}

none-tidy : Tidy nothing
unfolding histories past
none-tidy = record { held = λ k v t n i. absurd i; issued = λ n positive lt. absurd (let l : n < 0 + 1 = lt in omega arith); low = (λ v t n i. absurd i, λ v t n i. absurd i); none = λ v undefined. refl }

pub tidy-run : (tasks : List Task) → Tidy (run tasks)
tidy-run tasks = rides-tasks Tidy tidy-ride nothing tasks steps.sound-nothing none-tidy
