-- Each kind of move keeps the queue: pending writes are those of their issues, and no list holds a later number.
use Rattle.std.proofs.Common.{ℕ, ◌≡◌, ◌<◌, ◌+◌, refl, ap, sym, ◌∙◌, Bool, true, false, cond, List, [], ◌∷◌, ◌++◌, filter, subst, Option}
use Rattle.std.proofs.lemmas.Bool.{eqb-true, eq-eqb, false≢true}
use Rattle.std.specs.List.{fold}
use Rattle.dr_logic.specs.Tables.{at}
use Rattle.dr_model.specs.declared.event.Event.{Event}
use Rattle.dr_model.specs.declared.event.Event.TheVariants.{Issue, Ack, Mirrored, Stopped}
use Rattle.dr_model.specs.Histories.{Write, Histories, histories, after_event}
use Rattle.dr_model.specs.Control.{Control, Pending, Fuse, Volume, World, is_volume}
use Rattle.dr_model.specs.Moves.{Move, Land, Overwrite, LandBoth, target, told, told_in_stop, settled, settled_in_stop, is_write, is_other, marked, landed}
use Rattle.dr_model.specs.Laws.{Lone, Together, servers, sizes, Below, Numbered, Queue, Waits, AllPending, Apart}
use Rattle.dr_model.specs.Entries.{is_at}
use Rattle.dr_model.specs.Allowed.{Coming, Ready}
use Rattle.dr_model.proofs.Images.{histories-append, Below-append}
use Rattle.dr_laws_closed.proofs.Pendings.{each-on, all-filter}
use Rattle.dr_facts.proofs.Tables.{at_cases}
use Rattle.dr_facts.proofs.Heard.{OfEach, OfJoined, each-event}
use Rattle.dr_facts.proofs.Emits.{Tag, Issues, Acks, Mirrors, Of, AllOf, of-append, each-told}
use Rattle.dr_laws_sound.proofs.Turns.{done, done_in_stop}
use Rattle.dr_logic.proofs.Tables.{at_same}

-- an event that issues no write, and adds none from n on to a list
abbrev pub Quiet : ℕ → Event → Type 0
Quiet n (Issue w v t offset len bytes) = ⊥
Quiet n (Ack w) = w < n
Quiet n (Mirrored w v) = w < n
Quiet n e = Unit {0}

abbrev pub AllQuiet : ℕ → List Event → Type 0
AllQuiet n es = AllOf (Quiet n) es

-- kinds of events that issue no write, and add none to a list
abbrev pub adds_none : Tag → Bool
adds_none Issues = false
adds_none Acks = false
adds_none Mirrors = false
adds_none k = true

quiet-kind : (n : ℕ) (e : Event) → Of adds_none e → Quiet n e
quiet-kind n (Ack w) h = absurd cc
quiet-kind n e h = first_of (assumption, cc)

-- the list with the write that an event adds
joined-low : (n : ℕ) (h : Histories) (e : Event) → Quiet n e → Numbered n h → OfJoined (λ t ws. Below n ws) h e
joined-low n h (Issue w v t offset len bytes) quiet low = absurd quiet
joined-low n h (Ack w) quiet low = Below-append n _ (w ∷ []) (low.now _ _) (quiet, tt)
joined-low n h (Mirrored w v) quiet low = Below-append n _ (w ∷ []) (low.now _ _) (quiet, tt)
joined-low n h e quiet low = tt

pub numbered-after : (n : ℕ) (h : Histories) (e : Event) → Quiet n e → Numbered n h → Numbered n (after_event h e)
numbered-after n h e quiet low =
    let each : OfEach (λ t ws. Below n ws) (after_event h e) = each-event (λ t ws. Below n ws) (λ t. tt) h e (joined-low n h e quiet low) (low.now, low.aside) in
    record { now = each.0; aside = each.1 }

write-after : (n : ℕ) (h : Histories) (e : Event) → Quiet n e → (after_event h e).write ≡ h.write
write-after n h (Issue w v t offset len bytes) quiet = absurd quiet
write-after n h e quiet = refl

numbered-fold : (n : ℕ) (h : Histories) (es : List Event) → AllQuiet n es → Numbered n h → Numbered n (fold after_event h es)
numbered-fold n h [] quiet low = low
numbered-fold n h (e ∷ es) quiet low = numbered-fold n (after_event h e) es quiet.1 (numbered-after n h e quiet.0 low)

write-fold : (n : ℕ) (h : Histories) (es : List Event) → AllQuiet n es → (fold after_event h es).write ≡ h.write
write-fold n h [] quiet = refl
write-fold n h (e ∷ es) quiet = write-fold n (after_event h e) es quiet.1 ∙ write-after n h e quiet.0

pub lone-on : (server other : ℕ → ℕ) → ((v : ℕ) → other v ≡ server v) → (ps : List Pending) → Lone server ps → Lone other ps
lone-on server other same [] all = tt
lone-on server other same (p ∷ ps) all = (each-on (λ q apart l m e. apart l m (sym (same p.volume) ∙ e ∙ same q.volume)) ps all.0, lone-on server other same ps all.1)

-- a write leaves the queue
apart-cut : (p : Pending) (b : Bool) (ps : List Pending) → AllPending (λ q. q.w ≡ p.w → ⊥) ps → Apart ps → Apart (cond b (p ∷ ps) ps)
apart-cut p true ps here all = (here, all)
apart-cut p false ps here all = all

pub apart-filter : (m : ℕ) (ps : List Pending) → Apart ps → Apart (filter (is_other m) ps)
apart-filter m [] all = tt
apart-filter m (p ∷ ps) all = apart-cut p (is_other m p) _ (all-filter _ (is_other m) ps all.0) (apart-filter m ps all.1)

lone-cut : (server : ℕ → ℕ) (p : Pending) (b : Bool) (ps : List Pending) → AllPending (Together server p) ps → Lone server ps → Lone server (cond b (p ∷ ps) ps)
lone-cut server p true ps here all = (here, all)
lone-cut server p false ps here all = all

pub lone-filter : (server : ℕ → ℕ) (m : ℕ) (ps : List Pending) → Lone server ps → Lone server (filter (is_other m) ps)
lone-filter server m [] all = tt
lone-filter server m (p ∷ ps) all = lone-cut server p (is_other m p) _ (all-filter _ (is_other m) ps all.0) (lone-filter server m ps all.1)

-- or is marked as landed
abbrev mark : Bool → Pending → Pending
mark b p = cond b (record p { landed = true }) p

all-mark : (P : Pending → Type 0) (m : ℕ) → ((p : Pending) → (b : Bool) → is_write m p ≡ b → P p → P (mark b p)) → (ps : List Pending) → AllPending P ps → AllPending P (marked m ps)
all-mark P m f [] all = tt
all-mark P m f (p ∷ ps) all = (f p (is_write m p) refl all.0, all-mark P m f ps all.1)

same-number : (k : ℕ) (p : Pending) (b : Bool) → (p.w ≡ k → ⊥) → (mark b p).w ≡ k → ⊥
same-number k p true ne e = ne e
same-number k p false ne e = ne e

apart-mark : (p : Pending) (b : Bool) (ps : List Pending) → AllPending (λ q. q.w ≡ p.w → ⊥) ps → Apart ps → Apart (mark b p ∷ ps)
apart-mark p true ps here all = (here, all)
apart-mark p false ps here all = (here, all)

apart-marked : (m : ℕ) (ps : List Pending) → Apart ps → Apart (marked m ps)
apart-marked m [] all = tt
apart-marked m (p ∷ ps) all = apart-mark p (is_write m p) (marked m ps) (all-mark _ m (λ q b h ne. same-number p.w q b ne) ps all.0) (apart-marked m ps all.1)

-- where no other has landed on its volume's server
module _ (server : ℕ → ℕ) (m v t : ℕ) where
  abbrev Off : Pending → Type 0
  Off p = p.landed ≡ true → server p.volume ≡ server v → ⊥

  mark-together : (p q : Pending) (b : Bool) → is_write m q ≡ b → (p.w ≡ m → ⊥) → Off p → (q.w ≡ m → q.volume ≡ v) → Together server p q → Together server p (mark b q)
  mark-together p q true h other off here old l k e = off l (e ∙ ap server (here (eqb-true q.w m h)))
  mark-together p q false h other off here old l k e = old l k e

  lone-mark : (p : Pending) (b : Bool) (ps : List Pending) → is_write m p ≡ b → AllPending (λ q. q.w ≡ p.w → ⊥) ps → AllPending Off (p ∷ ps) → AllPending (λ q. q.w ≡ m → q.volume ≡ v) (p ∷ ps) → AllPending (Together server p) ps
      → Lone server (marked m ps) → Lone server (mark b p ∷ marked m ps)
  lone-mark p true ps h apart off here old more = (landed-apart ps apart off.1, more)
    where
      one-apart : (q : Pending) (b : Bool) → is_write m q ≡ b → (q.w ≡ p.w → ⊥) → Off q → Together server (record p { landed = true }) (mark b q)
      one-apart q true k ne of l n e = ne (eqb-true q.w m k ∙ sym (eqb-true p.w m h))
      one-apart q false k ne of l n e = of n (sym e ∙ ap server (here.0 (eqb-true p.w m h)))

      landed-apart : (ps : List Pending) → AllPending (λ q. q.w ≡ p.w → ⊥) ps → AllPending Off ps → AllPending (Together server (record p { landed = true })) (marked m ps)
      landed-apart [] a o = tt
      landed-apart (q ∷ qs) a o = (one-apart q (is_write m q) refl a.0 o.0, landed-apart qs a.1 o.1)
  lone-mark p false ps h apart off here old more = (together ps here.1 old, more)
    where
      together : (ps : List Pending) → AllPending (λ q. q.w ≡ m → q.volume ≡ v) ps → AllPending (Together server p) ps → AllPending (Together server p) (marked m ps)
      together [] i o = tt
      together (q ∷ qs) i o = (mark-together p q (is_write m q) refl (λ e. false≢true (sym h ∙ eq-eqb p.w m e)) off.0 i.0 o.0, together qs i.1 o.1)

  lone-marked : (ps : List Pending) → Apart ps → AllPending Off ps → AllPending (λ q. q.w ≡ m → q.volume ≡ v) ps → Lone server ps → Lone server (marked m ps)
  lone-marked [] apart off here old = tt
  lone-marked (p ∷ ps) apart off here old = lone-mark p (is_write m p) ps refl apart.0 off here old.0 (lone-marked ps apart.1 off.1 here.1 old.1)

  -- the write that comes is one for v
  here-by : (p : Pending) (ps : List Pending) (b : Bool) → is_write m p ≡ b → AllPending (Coming v t) (cond b (p ∷ filter (is_write m) ps) (filter (is_write m) ps)) → (AllPending (Coming v t) (filter (is_write m) ps) → AllPending (λ q. q.w ≡ m → q.volume ≡ v) ps)
      → AllPending (λ q. q.w ≡ m → q.volume ≡ v) (p ∷ ps)
  here-by p ps true h coming more = ((λ e. coming.0.volume), more coming.1)
  here-by p ps false h coming more = ((λ e. absurd (false≢true (sym h ∙ eq-eqb p.w m e))), more coming)

  here-all : (ps : List Pending) → AllPending (Coming v t) (filter (is_write m) ps) → AllPending (λ q. q.w ≡ m → q.volume ≡ v) ps
  here-all [] coming = tt
  here-all (p ∷ ps) coming = here-by p ps (is_write m p) refl coming (here-all ps)

-- the queue of another world with the same volumes and issues
module _ (starts : Option ℕ) (w : World) (old : Queue starts w) where
  abbrev n : ℕ
  n = w.control.issued + 1

  pub waits-on : (k : Control) (write : ℕ → Write) → k.issued ≡ w.control.issued → k.volumes ≡ w.control.volumes → write ≡ (histories w.events).write
      → ((v : ℕ) → servers k v ≡ servers w.control v) → ((v : ℕ) → sizes k v ≡ sizes w.control v) → ((j : ℕ) → w.control.on j ≡ false → k.on j ≡ false)
      → (p : Pending) → Waits starts w.control (histories w.events).write p → Waits starts k write p
  waits-on k write issued volumes same server size off p waits = record {
    number = subst (λ i. p.w < i + 1) (sym issued) waits.number;
    positive = waits.positive;
    defined = subst (λ vs. is_volume (record w.control { volumes = vs }) p.volume ≡ true) (sym volumes) waits.defined;
    low = subst (λ n. p.track < n) (sym (size p.volume)) waits.low;
    volume = ap (λ write. (write p.w).volume) same ∙ waits.volume;
    track = ap (λ write. (write p.w).track) same ∙ waits.track;
    calm = λ l f. ap k.on (server p.volume) ∙ off _ (waits.calm l (ap (is_at starts) (sym (server p.volume)) ∙ f));
  }

  -- later events, with the queue as it then stands
  queue-by : (k : Control) (es : List Event) (x : World) → AllQuiet n es → k.issued ≡ w.control.issued
      → ((write : ℕ → Write) → write ≡ (histories w.events).write → AllPending (Waits starts k write) k.pending) → Apart k.pending → Lone (servers k) k.pending
      → Queue starts (record x { control = k; events = w.events ++ es })
  queue-by k es x quiet issued each apart lone =
      let same : histories (w.events ++ es) ≡ fold after_event (histories w.events) es = histories-append w.events es in
      record {
        each = each (histories (w.events ++ es)).write (ap (λ (h : Histories). h.write) same ∙ write-fold n _ es quiet);
        apart = apart;
        lone = lone;
        numbers = subst (λ i. Numbered (i + 1) (histories (w.events ++ es))) (sym issued) (subst (Numbered n) (sym same) (numbered-fold n _ es quiet old.numbers));
      }

  -- the same queue, with servers that may have gone off
  pub queue-same : (k : Control) (es : List Event) (x : World) → AllQuiet n es → k.pending ≡ w.control.pending → k.issued ≡ w.control.issued → k.volumes ≡ w.control.volumes
      → ((v : ℕ) → servers k v ≡ servers w.control v) → ((v : ℕ) → sizes k v ≡ sizes w.control v) → ((j : ℕ) → w.control.on j ≡ false → k.on j ≡ false)
      → Queue starts (record x { control = k; events = w.events ++ es })
  queue-same k es x quiet ps issued volumes server size off =
      queue-by k es x quiet issued
      (λ write same. subst (AllPending (Waits starts k write)) (sym ps) (each-on (waits-on k write issued volumes same server size off) w.control.pending old.each))
      (subst Apart (sym ps) old.apart) (subst (Lone (servers k)) (sym ps) (lone-on (servers w.control) (servers k) server w.control.pending old.lone))

  -- a write that is marked as landed is on a server that went off
  module _ (k : Control) (write : ℕ → Write) (m v t : ℕ) (off : k.on (servers k v) ≡ false) (on : (p : Pending) → Waits starts w.control (histories w.events).write p → Waits starts k write p) where
    mark-waits : (p : Pending) (b : Bool) (ps : List Pending) → AllPending (Coming v t) (cond b (p ∷ filter (is_write m) ps) (filter (is_write m) ps)) → Waits starts w.control (histories w.events).write p
        → (AllPending (Coming v t) (filter (is_write m) ps) → AllPending (Waits starts k write) (marked m ps))
        → AllPending (Waits starts k write) (mark b p ∷ marked m ps)
    mark-waits p true ps coming waits more = let x = on p waits in
        (record { number = x.number; positive = x.positive; defined = x.defined; low = x.low; volume = x.volume; track = x.track; calm = λ l f. ap (λ j. k.on (servers k j)) coming.0.volume ∙ off }, more coming.1)
    mark-waits p false ps coming waits more = (on p waits, more coming)

    marks-wait : (ps : List Pending) → AllPending (Coming v t) (filter (is_write m) ps) → AllPending (Waits starts w.control (histories w.events).write) ps → AllPending (Waits starts k write) (marked m ps)
    marks-wait [] coming all = tt
    marks-wait (p ∷ ps) coming all = mark-waits p (is_write m p) ps coming all.0 (λ c. marks-wait ps c all.1)

  -- what a move tells
  told-quiet : (m : Move) → Ready w m → AllQuiet n (told m (w.control.volume (target m)))
  told-quiet (Land k v t) ready = (ready.number, tt)
  told-quiet m ready = first_of (assumption, search (each-told adds_none (AllQuiet n) (record { none = tt; more = λ e es h behind. (quiet-kind n e h, behind) }) m (w.control.volume (target m))))

  stop-quiet : (m : Move) → Ready w m → AllQuiet n (told_in_stop m (w.control.volume (target m)))
  stop-quiet (Land k v t) ready = tt
  stop-quiet m ready = first_of (assumption, search (told-quiet m ready))

  -- a move leaves each volume its server
  same-server : (m : Move) (f : Option Fuse) (v : ℕ) → servers (done w m f).control v ≡ servers w.control v
  same-server m f v = at_cases (λ v (x : Volume). x.server ≡ servers w.control v) w.control.volume (target m) _ refl (λ q ne. refl) v

  -- and its size
  same-size : (m : Move) (f : Option Fuse) (v : ℕ) → sizes (done w m f).control v ≡ sizes w.control v
  same-size m f v = at_cases (λ v (x : Volume). x.tracks ≡ sizes w.control v) w.control.volume (target m) _ refl (λ q ne. refl) v

  pub goes-off : (on : ℕ → Bool) (s j : ℕ) → on j ≡ false → at on s false j ≡ false
  goes-off on s j h = at_cases (λ j b. on j ≡ false → b ≡ false) on s false (λ h. refl) (λ q ne h. h) j h

  off-here : (m : Move) (f : Option Fuse) → (done_in_stop w m f).control.on (servers (done_in_stop w m f).control (target m)) ≡ false
  off-here m f = ap (at w.control.on (servers w.control (target m)) false) (same-server m f (target m)) ∙ at_same w.control.on (servers w.control (target m)) false

  -- the pending writes of a world in which a move was done
  module _ (k : Control) (write : ℕ → Write) (on : (p : Pending) → Waits starts w.control (histories w.events).write p → Waits starts k write p) where
    settled-waits : (m : Move) → AllPending (Waits starts k write) (settled m w.control.pending)
    settled-waits (Land i v t) = all-filter _ (is_other i) _ (each-on on w.control.pending old.each)
    settled-waits (Overwrite i v t) = all-filter _ (is_other i) _ (each-on on w.control.pending old.each)
    settled-waits (LandBoth i v t) = all-filter _ (is_other i) _ (each-on on w.control.pending old.each)
    settled-waits m = each-on on w.control.pending old.each

    stop-waits : (m : Move) → Ready w m → k.on (servers k (target m)) ≡ false → AllPending (Waits starts k write) (settled_in_stop m w.control.pending)
    stop-waits (Land i v t) ready off = marks-wait k write i v t off on w.control.pending ready.coming old.each
    stop-waits (Overwrite i v t) ready off = marks-wait k write i v t off on w.control.pending ready.coming old.each
    stop-waits (LandBoth i v t) ready off = marks-wait k write i v t off on w.control.pending ready.coming old.each
    stop-waits m ready off = each-on on w.control.pending old.each

  settled-apart : (m : Move) → Apart (settled m w.control.pending) × Lone (servers w.control) (settled m w.control.pending)
  settled-apart (Land i v t) = (apart-filter i _ old.apart, lone-filter (servers w.control) i _ old.lone)
  settled-apart (Overwrite i v t) = (apart-filter i _ old.apart, lone-filter (servers w.control) i _ old.lone)
  settled-apart (LandBoth i v t) = (apart-filter i _ old.apart, lone-filter (servers w.control) i _ old.lone)
  settled-apart m = (old.apart, old.lone)

  stop-apart : (m : Move) → Ready w m → Apart (settled_in_stop m w.control.pending) × Lone (servers w.control) (settled_in_stop m w.control.pending)
  stop-apart (Land i v t) ready = (apart-marked i _ old.apart, lone-marked (servers w.control) i v t _ old.apart ready.idle (here-all (servers w.control) i v t _ ready.coming) old.lone)
  stop-apart (Overwrite i v t) ready = (apart-marked i _ old.apart, lone-marked (servers w.control) i v t _ old.apart ready.idle (here-all (servers w.control) i v t _ ready.coming) old.lone)
  stop-apart (LandBoth i v t) ready = (apart-marked i _ old.apart, lone-marked (servers w.control) i v t _ old.apart ready.idle (here-all (servers w.control) i v t _ ready.coming) old.lone)
  stop-apart m ready = (old.apart, old.lone)

  pub queue-done : (m : Move) (f : Option Fuse) → Ready w m → Queue starts (done w m f)
  queue-done m f ready =
      let k : Control = (done w m f).control in
      queue-by k (told m (w.control.volume (target m))) (done w m f) (told-quiet m ready) refl
      (λ write same. settled-waits k write (waits-on k write refl refl same (same-server m f) (same-size m f) (λ j h. h)) m) (settled-apart m).0
      (lone-on (servers w.control) (servers k) (same-server m f) _ (settled-apart m).1)

  pub queue-stop : (m : Move) (f : Option Fuse) → Ready w m → Queue starts (done_in_stop w m f)
  queue-stop m f ready =
      let k : Control = (done_in_stop w m f).control in
      let u : Volume = w.control.volume (target m) in
      queue-by k (told_in_stop m u ++ Stopped u.server (landed m) ∷ []) (done_in_stop w m f) (of-append (Quiet n) (told_in_stop m u) _ (stop-quiet m ready) (tt, tt)) refl
      (λ write same. stop-waits k write (waits-on k write refl refl same (same-server m f) (same-size m f) (goes-off w.control.on u.server)) m ready (off-here m f))
      (stop-apart m ready).0 (lone-on (servers w.control) (servers k) (same-server m f) _ (stop-apart m ready).1)
