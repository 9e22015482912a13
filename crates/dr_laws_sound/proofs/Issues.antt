-- A write is issued: it joins the queue, and no track shows it yet.
use Rattle.std.proofs.Common.{ℕ, ◌≡◌, ◌<◌, ◌+◌, refl, ap, sym, ◌∙◌, subst, Bool, true, false, cond, ◌&&◌, nat_eq, List, [], ◌∷◌, ◌++◌, filter, take, None, arith}
use Rattle.std.proofs.lemmas.Bool.{eqb-true, eq-eqb}
use Rattle.dr_logic.specs.Tables.{at}
use Rattle.dr_model.specs.declared.event.Event.TheVariants.{Issue}
use Rattle.dr_model.specs.Contents.{image}
use Rattle.dr_model.specs.Histories.{Write, Histories, histories}
use Rattle.dr_model.specs.Control.{Pending, World, is_volume}
use Rattle.dr_model.specs.Moves.{is_write}
use Rattle.dr_model.specs.Plans.{with_pending}
use Rattle.dr_model.specs.Table.{table, waiting, due, due_by, aside, aside_by}
use Rattle.dr_model.specs.Laws.{SoundRows, Below, Numbered, Waits, AllPending, Apart, Lone, Together, servers, Sound}
use Rattle.dr_model.proofs.Images.{histories-append, image-issue, Below-append, Below-more}
use Rattle.dr_laws_sessions.proofs.Volumes.{groups-same}
use Rattle.dr_logic.proofs.Truth.{false_true}
use Rattle.dr_logic.proofs.Tables.{at_same, at_other}

pub numbered-more : (n m : ℕ) (h : Histories) → n < m + 1 → Numbered n h → Numbered m h
numbered-more n m h lt low = record { now = λ v t. Below-more n m (h.now v t) lt (low.now v t); aside = λ v t. Below-more n m (h.aside v t) lt (low.aside v t) }

module _ (w : World) (s : Sound w) (v t offset len : ℕ) (bytes : List ℕ) (defined : is_volume w.control v ≡ true) (low : t < (w.control.volume v).tracks) where
  abbrev n : ℕ
  n = w.control.issued + 1

  abbrev h : Histories
  h = histories w.events

  abbrev ps : List Pending
  ps = w.control.pending

  abbrev new : Pending
  new = record { w = n; volume = v; track = t; landed = false }

  abbrev written : Write
  written = record { volume = v; track = t; offset = offset; bytes = take len bytes }

  abbrev pub issued : World
  issued = record w { control = with_pending v t w.control; events = w.events ++ Issue n v t offset len bytes ∷ [] }

  issued-lists : histories issued.events ≡ record h { write = at h.write n written }
  issued-lists = histories-append w.events (Issue n v t offset len bytes ∷ [])

  waiting-new : (u q : ℕ) (ps : List Pending) → waiting (ps ++ new ∷ []) u q ≡ waiting ps u q
  waiting-new u q [] = refl
  waiting-new u q (p ∷ ps) = ap (λ ws. cond (p.landed && (nat_eq p.volume u && nat_eq p.track q)) (p.w ∷ ws) ws) (waiting-new u q ps)

  low-cut : (b : Bool) (x : ℕ) (xs : List ℕ) → x < n → Below n xs → Below n (cond b (x ∷ xs) xs)
  low-cut true x xs lt low = (lt, low)
  low-cut false x xs lt low = low

  low-waiting : (u q : ℕ) (ps : List Pending) → AllPending (Waits None w.control h.write) ps → Below n (waiting ps u q)
  low-waiting u q [] all = tt
  low-waiting u q (p ∷ ps) all = low-cut _ p.w _ all.0.number (low-waiting u q ps all.1)

  same-due : (u q : ℕ) → due issued u q ≡ due w u q
  same-due u q =
      ap (λ h. due_by h (ps ++ new ∷ []) u q) issued-lists
      ∙ ap (λ ws. image (at h.write n written) (h.now u q ++ ws)) (waiting-new u q ps)
      ∙ image-issue h.write n written (h.now u q ++ waiting ps u q) (Below-append n (h.now u q) _ (s.queue.numbers.now u q) (low-waiting u q ps s.queue.each))

  same-aside : (u q : ℕ) → aside issued u q ≡ aside w u q
  same-aside u q = ap (λ h. aside_by h u q) issued-lists ∙ image-issue h.write n written (h.aside u q) (s.queue.numbers.aside u q)

  pub same-table : table issued ≡ table w
  same-table = λ i u. record { defined = is_volume w.control u; volume = w.control.volume u; bytes = w.contents u; due = λ q. same-due u q i; aside = λ q. same-aside u q i }

  pub issued-write : (histories issued.events).write n ≡ written
  issued-write = ap (λ (h : Histories). h.write n) issued-lists ∙ at_same h.write n written

  waits-on : (p : Pending) → Waits None w.control h.write p → Waits None issued.control (histories issued.events).write p
  waits-on p waits =
      let same : (histories issued.events).write p.w ≡ h.write p.w = ap (λ (h : Histories). h.write p.w) issued-lists ∙ at_other h.write n written p.w (λ e. let lt = waits.number in absurd (omega arith)) in
      record {
        number = let lt = waits.number in omega arith;
        positive = waits.positive;
        defined = waits.defined;
        low = waits.low;
        volume = ap (λ (x : Write). x.volume) same ∙ waits.volume;
        track = ap (λ (x : Write). x.track) same ∙ waits.track;
        calm = waits.calm;
      }

  each-new : (ps : List Pending) → AllPending (Waits None w.control h.write) ps → AllPending (Waits None issued.control (histories issued.events).write) (ps ++ new ∷ [])
  each-new [] all = (
    record {
      number = omega arith;
      positive = omega arith;
      defined = defined;
      low = low;
      volume = ap (λ (x : Write). x.volume) issued-write;
      track = ap (λ (x : Write). x.track) issued-write;
      calm = λ l f. absurd (false_true refl l);
    },
    tt,
  )
  each-new (p ∷ ps) all = (waits-on p all.0, each-new ps all.1)

  others-new : (k : ℕ) (ps : List Pending) → (n ≡ k → ⊥) → AllPending (λ q. q.w ≡ k → ⊥) ps → AllPending (λ q. q.w ≡ k → ⊥) (ps ++ new ∷ [])
  others-new k [] ne all = (ne, tt)
  others-new k (p ∷ ps) ne all = (all.0, others-new k ps ne all.1)

  apart-new : (ps : List Pending) → AllPending (Waits None w.control h.write) ps → Apart ps → Apart (ps ++ new ∷ [])
  apart-new [] all apart = (tt, tt)
  apart-new (p ∷ ps) all apart = (others-new p.w ps (λ e. let lt = all.0.number in absurd (omega arith)) apart.0, apart-new ps all.1 apart.1)

  together-new : (p : Pending) (ps : List Pending) → AllPending (Together (servers w.control) p) ps → AllPending (Together (servers w.control) p) (ps ++ new ∷ [])
  together-new p [] all = ((λ l m. absurd (false_true refl m)), tt)
  together-new p (q ∷ qs) all = (all.0, together-new p qs all.1)

  lone-new : (ps : List Pending) → Lone (servers w.control) ps → Lone (servers w.control) (ps ++ new ∷ [])
  lone-new [] all = (tt, tt)
  lone-new (p ∷ ps) all = (together-new p ps all.0, lone-new ps all.1)

  pub sound-issued : Sound issued
  sound-issued = record {
    rows = subst SoundRows (sym same-table) s.rows;
    targets = record { once = s.targets.once; few = s.targets.few };
    secondaries = s.secondaries;
    groups = groups-same w.control issued.control (record { sessions = refl; volumes = refl; server = λ v. refl; tracks = λ v. refl }) (λ v h. (h, (refl, refl))) s.groups;
    housed = s.housed;
    attempts = s.attempts;
    flights = s.flights;
    queue = record {
      each = each-new ps s.queue.each;
      apart = apart-new ps s.queue.each s.queue.apart;
      lone = lone-new ps s.queue.lone;
      numbers = subst (Numbered (n + 1)) (sym issued-lists) (record { now = (numbered-more n (n + 1) h (omega arith) s.queue.numbers).now; aside = (numbered-more n (n + 1) h (omega arith) s.queue.numbers).aside });
    };
  }

  -- write n alone has its number
  only-by : (p : Pending) (b : Bool) (ps : List Pending) → is_write n p ≡ b → p.w < n → filter (is_write n) ps ≡ new ∷ [] → cond b (p ∷ filter (is_write n) ps) (filter (is_write n) ps) ≡ new ∷ []
  only-by p true ps h lt on = let e = eqb-true p.w n h in absurd (omega arith)
  only-by p false ps h lt on = on

  only : (ps : List Pending) → AllPending (Waits None w.control h.write) ps → filter (is_write n) (ps ++ new ∷ []) ≡ new ∷ []
  only [] all = ap (λ b. cond b (new ∷ []) []) (eq-eqb n n refl)
  only (p ∷ ps) all = only-by p _ (ps ++ new ∷ []) refl all.0.number (only ps all.1)

  pub one-new : filter (is_write n) issued.control.pending ≡ new ∷ []
  one-new = only ps s.queue.each
