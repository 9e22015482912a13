-- A server starts: its volumes go on, and until its landed write is acknowledged, it alone may be on with a write that waits.
use Rattle.std.proofs.Common.{ℕ, ◌≡◌, ◌≢◌, ◌+◌, ◌⊎◌, inl, inr, refl, ap, sym, ◌∙◌, subst, Bool, true, false, cond, not, ◌&&◌, nat_eq, List, [], ◌∷◌, ◌++◌, filter, Option, Some, None}
use Rattle.std.specs.Prelude.{option_map}
use Rattle.std.proofs.lemmas.List.{append-nil}
use Rattle.std.proofs.lemmas.Bool.Decides.{eqb_tells}
use Rattle.std.proofs.lemmas.Bool.{and_parts, eqb-true, eq-eqb, ne_eqb, false≢true, false_from_ne_true, and_from}
use Rattle.std.specs.List.{find}
use Rattle.dr_logic.specs.Tables.{at}
use Rattle.dr_model.specs.declared.event.Event.TheVariants.{Ack, Started}
use Rattle.dr_model.specs.Contents.{image}
use Rattle.dr_model.specs.Histories.{Write, Histories, histories}
use Rattle.dr_model.specs.Control.{Control, Pending, Volume, World, Fuse, is_volume}
use Rattle.dr_model.specs.Pairs.{must_restart}
use Rattle.dr_model.specs.Moves.{Move, Restart, is_other}
use Rattle.dr_model.specs.Carry.{Act, Make, OpenAttempt, Redo, Acknowledge, Drop, EndFreeze, EndThaw, EndRecovery, Pass, Do, Entry, acknowledged}
use Rattle.dr_model.specs.Entries.{fields_at}
use Rattle.dr_model.specs.WriteEntries.{belongs, redo_on, restart_on, start_entries}
use Rattle.dr_model.specs.Plans.{has_landed, acknowledge_on, acknowledge_if, start_plan, starting}
use Rattle.dr_model.specs.Runs.{begun}
use Rattle.dr_model.specs.Groups.{Groups}
use Rattle.dr_model.specs.Table.{table, waiting, due, due_by, aside, aside_by}
use Rattle.dr_model.specs.Laws.{SoundRows, Sound, SoundBut, Waits, AllPending, Apart, Lone, Together, servers, Numbered}
use Rattle.dr_model.specs.Allowed.{Runs, May}
use Rattle.dr_model.proofs.Images.{histories-append}
use Rattle.dr_laws_closed.proofs.Pendings.{each-on, both-on, all-filter}
use Rattle.dr_facts.proofs.Tables.{at_cases}
use Rattle.dr_facts.proofs.Sets.{if_false, if_true}
use Rattle.dr_laws_sound.proofs.Turns.{after_act, done_in_stop, not_done, place, server_of, Writes}
use Rattle.dr_laws_sound.proofs.Due.{acked_lists}
use Rattle.dr_laws_sessions.proofs.Volumes.{groups-same}
use Rattle.dr_laws_messages.proofs.Moves.{flights-started}
use Rattle.dr_laws_sound.proofs.RowsAfter.{calm-each}
use Rattle.dr_laws_sound.proofs.KeepsQueue.{apart-filter, lone-filter, numbered-after}
use Rattle.dr_laws_sound.proofs.KeepsSound.{StepHolds, sound-done, sound-stop, sound-not, rows-told, sound-fused}
use Rattle.dr_laws_sound.proofs.Along as along
use Rattle.dr_logic.proofs.Tables.{at_same, at_other}

-- no write has landed on the server
abbrev pub Free : (ℕ → ℕ) → ℕ → Pending → Type 0
Free server s p = p.landed ≡ true → server p.volume ≡ s → ⊥

-- what the first write that landed on a server leaves when it goes
pub record Gone (server : ℕ → ℕ) (s : ℕ) (p : Pending) (ps : List Pending) : Type 0 where
  pub landed : p.landed ≡ true
  pub on : server p.volume ≡ s
  pub here : waiting ps p.volume p.track ≡ p.w ∷ []
  pub gone : waiting (filter (is_other p.w) ps) p.volume p.track ≡ []
  pub else : (u q : ℕ) → (u ≢ p.volume) ⊎ (q ≢ p.track) → waiting (filter (is_other p.w) ps) u q ≡ waiting ps u q
  pub free : AllPending (Free server s) (filter (is_other p.w) ps)

found-by : (P : Pending → Type 0) (x p : Pending) (o : Option Pending) (b : Bool) → P x → (o ≡ Some p → P p) → cond b (Some x) o ≡ Some p → P p
found-by P x p o true here more h = let e : x ≡ p = cc in subst P e here
found-by P x p o false here more h = more h

pub find-all : (P : Pending → Type 0) (f : Pending → Bool) (p : Pending) (ps : List Pending) → find f ps ≡ Some p → AllPending P ps → P p
find-all P f p [] h all = absurd cc
find-all P f p (x ∷ xs) h all = found-by P x p (find f xs) (f x) all.0 (λ h. find-all P f p xs h all.1) h

-- no other has its number
keep-all : (n : ℕ) (ps : List Pending) → AllPending (λ q. q.w ≡ n → ⊥) ps → filter (is_other n) ps ≡ ps
keep-all n [] all = refl
keep-all n (p ∷ ps) all = ap (λ b. cond (not b) (p ∷ filter (is_other n) ps) (filter (is_other n) ps)) (ne_eqb p.w n all.0) ∙ ap (λ qs. p ∷ qs) (keep-all n ps all.1)

abbrev waits_at : Pending → ℕ → ℕ → Bool
waits_at p u q = p.landed && (nat_eq p.volume u && nat_eq p.track q)

waits-not : (p : Pending) (u q : ℕ) → (u ≢ p.volume) ⊎ (q ≢ p.track) → waits_at p u q ≡ false
waits-not p u q ne = false_from_ne_true _ (λ h. let places = and_parts _ _ (and_parts p.landed _ h).1 in elim ne [
  | inl a ↦ a (sym (eqb-true p.volume u places.0))
  | inr b ↦ b (sym (eqb-true p.track q places.1))
])

-- the first write that landed on a server, where pending writes are on volumes that are defined
module _ (server : ℕ → ℕ) (is_defined : ℕ → Bool) (s : ℕ) where
  abbrev found : Pending → Bool
  found p = p.landed && (is_defined p.volume && nat_eq (server p.volume) s)

  abbrev Defined : Pending → Type 0
  Defined p = is_defined p.volume ≡ true

  is-found : (x : Pending) → Defined x → x.landed ≡ true → server x.volume ≡ s → found x ≡ true
  is-found x d l e = and_from _ _ l (and_from _ _ d (eq-eqb (server x.volume) s e))

  gone-first : (x : Pending) (xs : List Pending) → found x ≡ true → AllPending (λ q. q.w ≡ x.w → ⊥) xs → AllPending (Together server x) xs → Gone server s x (x ∷ xs)
  gone-first x xs h apart lone =
      let both = and_parts _ _ h in let on = eqb-true (server x.volume) s (and_parts (is_defined x.volume) _ both.1).1 in
      let rest : filter (is_other x.w) (x ∷ xs) ≡ xs = ap (λ b. cond (not b) (x ∷ filter (is_other x.w) xs) (filter (is_other x.w) xs)) (eq-eqb x.w x.w refl) ∙ keep-all x.w xs apart in
      let free : AllPending (Free server (server x.volume)) xs = each-on (λ q t l e. t both.0 l (sym e)) xs lone in
      let calm : waiting xs x.volume x.track ≡ [] = calm-each server x.volume x.track xs free in
      record {
        landed = both.0;
        on = on;
        here = if_true _ _ (and_from _ _ both.0 (and_from _ _ (eq-eqb x.volume x.volume refl) (eq-eqb x.track x.track refl))) ∙ ap (λ ws. x.w ∷ ws) calm;
        gone = ap (λ qs. waiting qs x.volume x.track) rest ∙ calm;
        else = λ u q ne. ap (λ qs. waiting qs u q) rest ∙ sym (if_false (x.w ∷ waiting xs u q) (waiting xs u q) (waits-not x u q ne));
        free = subst (AllPending (Free server s)) (sym rest) (subst (λ s. AllPending (Free server s) xs) on free);
      }

  gone-later : (x p : Pending) (xs : List Pending) → Defined x → found x ≡ false → (p.w ≡ x.w → ⊥) → Gone server s p xs → Gone server s p (x ∷ xs)
  gone-later x p xs d h ne g =
      let rest : filter (is_other p.w) (x ∷ xs) ≡ x ∷ filter (is_other p.w) xs = ap (λ b. cond (not b) (x ∷ filter (is_other p.w) xs) (filter (is_other p.w) xs)) (ne_eqb x.w p.w (λ e. ne (sym e))) in
      let off : Free server s x = λ l e. false≢true (sym h ∙ is-found x d l e) in
      let not_here : waits_at x p.volume p.track ≡ false = false_from_ne_true _ (λ w. let both = and_parts x.landed _ w in off both.0 (ap server (eqb-true x.volume p.volume (and_parts _ (nat_eq x.track p.track) both.1).0) ∙ g.on)) in
      record {
        landed = g.landed;
        on = g.on;
        here = if_false (x.w ∷ waiting xs p.volume p.track) (waiting xs p.volume p.track) not_here ∙ g.here;
        gone = ap (λ qs. waiting qs p.volume p.track) rest ∙ if_false (x.w ∷ waiting (filter (is_other p.w) xs) p.volume p.track) _ not_here ∙ g.gone;
        else = λ u q apart. ap (λ qs. waiting qs u q) rest ∙ ap (λ ws. cond (waits_at x u q) (x.w ∷ ws) ws) (g.else u q apart);
        free = subst (AllPending (Free server s)) (sym rest) (off, g.free);
      }

  goes-by : (x p : Pending) (xs : List Pending) (b : Bool) → Defined x → found x ≡ b → cond b (Some x) (find found xs) ≡ Some p → AllPending (λ q. q.w ≡ x.w → ⊥) xs → AllPending (Together server x) xs → (find found xs ≡ Some p → Gone server s p xs) → Gone server s p (x ∷ xs)
  goes-by x p xs true d is h apart lone more = let e : x ≡ p = cc in subst (λ p. Gone server s p (x ∷ xs)) e (gone-first x xs is apart lone)
  goes-by x p xs false d is h apart lone more = gone-later x p xs d is (find-all (λ q. q.w ≡ x.w → ⊥) found p xs h apart) (more h)

  goes : (p : Pending) (ps : List Pending) → AllPending Defined ps → find found ps ≡ Some p → Apart ps → Lone server ps → Gone server s p ps
  goes p [] d h apart lone = absurd cc
  goes p (x ∷ xs) d h apart lone = goes-by x p xs (found x) d.0 refl h apart.0 lone.0 (λ h. goes p xs d.1 h apart.1 lone.1)

  none-by : (x : Pending) (xs : List Pending) (b : Bool) → Defined x → found x ≡ b → cond b (Some x) (find found xs) ≡ None → (find found xs ≡ None → AllPending (Free server s) xs) → AllPending (Free server s) (x ∷ xs)
  none-by x xs true d is h more = absurd cc
  none-by x xs false d is h more = ((λ l e. false≢true (sym is ∙ is-found x d l e)), more h)

  pub none-found : (ps : List Pending) → AllPending Defined ps → find found ps ≡ None → AllPending (Free server s) ps
  none-found [] d h = tt
  none-found (x ∷ xs) d h = none-by x xs (found x) d.0 refl h (none-found xs d.1)

-- the volumes and sessions are as they were
same-groups : (j k : Control) → k.sessions ≡ j.sessions → k.volumes ≡ j.volumes → k.volume ≡ j.volume → Groups j → Groups k
same-groups j k sessions volumes volume = groups-same j k (record { sessions = sessions; volumes = volumes; server = λ v. ap (λ (g : ℕ → Volume). (g v).server) volume; tracks = λ v. ap (λ (g : ℕ → Volume). (g v).tracks) volume })
    (λ v h. (ap (λ (g : ℕ → Volume). (g v).fields.recording) (sym volume) ∙ h, (ap (λ (g : ℕ → Volume). (g v).fields.attempt) volume, ap (λ (g : ℕ → Volume). (g v).fields.primary_partner) volume)))

-- while server s starts
module _ (s : ℕ) where
  abbrev pub Starting : World → Type 0
  Starting = SoundBut (Some s)

  abbrev pub first_landed : World → Option Pending
  first_landed w = find (has_landed w.control s) w.control.pending

  -- what its acts may be
  pub record MayAcknowledge (w : World) (n : ℕ) : Type 0 where
    pub waits : Pending
    pub number : waits.w ≡ n
    pub first : first_landed w ≡ Some waits

  pub record OnServer (w : World) (v : ℕ) : Type 0 where
    pub own : servers w.control v ≡ s
    pub on : w.control.on s ≡ true

  abbrev pub MayMove : World → Move → Type 0
  MayMove w (Restart v) = OnServer w v
  MayMove w m = ⊥

  abbrev pub MayStart : World → Act → Type 0
  MayStart w (Make m) = MayMove w m
  MayStart w (OpenAttempt v i n) = ⊥
  MayStart w (Redo v) = OnServer w v
  MayStart w (Acknowledge n) = MayAcknowledge w n
  MayStart w (Drop n) = ⊥
  MayStart w (EndFreeze l m) = ⊥
  MayStart w (EndThaw l m) = ⊥
  MayStart w (EndRecovery s n) = ⊥

  -- the server stays on while its acts are done
  pub record Inner (w : World) : Type 0 where
    pub sound : Starting w
    pub on : w.control.on s ≡ true

  pub are-defined : (w : World) → Starting w → AllPending (λ p. is_volume w.control p.volume ≡ true) w.control.pending
  are-defined w j = each-on (λ p waits. waits.defined) w.control.pending j.queue.each

  waits-free : (k : Control) (write : ℕ → Write) (p : Pending) → Waits (Some s) k write p → (k.on s ≡ false) ⊎ Free (servers k) s p → Waits None k write p
  waits-free k write p waits free = record {
    number = waits.number;
    positive = waits.positive;
    defined = waits.defined;
    low = waits.low;
    volume = waits.volume;
    track = waits.track;
    calm = λ l none. elim (eqb_tells s (servers k p.volume)) [
      | inl is ↦ elim free [ inl off ↦ ap k.on (sym is.1) ∙ off | inr free ↦ absurd (free l (sym is.1)) ]
      | inr not ↦ waits.calm l not.0
    ];
  }

  -- it is off again, or nothing waits on it
  pub sound-off : (w : World) → Starting w → w.control.on s ≡ false → Sound w
  sound-off w j off = record {
    rows = j.rows;
    targets = j.targets;
    secondaries = j.secondaries;
    groups = j.groups;
    housed = j.housed;
    attempts = j.attempts;
    flights = j.flights;
    queue = record { each = each-on (λ p waits. waits-free w.control _ p waits (inl off)) w.control.pending j.queue.each; apart = j.queue.apart; lone = j.queue.lone; numbers = j.queue.numbers };
  }

  pub sound-free : (w : World) → Starting w → AllPending (Free (servers w.control) s) w.control.pending → Sound w
  sound-free w j free = record {
    rows = j.rows;
    targets = j.targets;
    secondaries = j.secondaries;
    groups = j.groups;
    housed = j.housed;
    attempts = j.attempts;
    flights = j.flights;
    queue = record { each = both-on (λ p waits free. waits-free w.control _ p waits (inr free)) w.control.pending j.queue.each free; apart = j.queue.apart; lone = j.queue.lone; numbers = j.queue.numbers };
  }

  -- the landed write is acknowledged
  module _ (w : World) (j : Starting w) (p : Pending) (first : first_landed w ≡ Some p) where
    abbrev h : Histories
    h = histories w.events

    abbrev ps : List Pending
    ps = w.control.pending

    pub gone : Gone (servers w.control) s p ps
    gone = goes (servers w.control) (is_volume w.control) s p ps (are-defined w j) first j.queue.apart j.queue.lone

    pub waits : Waits (Some s) w.control h.write p
    waits = find-all (Waits (Some s) w.control h.write) (has_landed w.control s) p ps first j.queue.each

    abbrev held : List ℕ
    held = h.now p.volume p.track ++ p.w ∷ []

    told : histories (w.events ++ Ack p.w ∷ []) ≡ record h { now = at h.now p.volume (at (h.now p.volume) p.track held) }
    told = histories-append w.events (Ack p.w ∷ []) ∙ acked_lists h ps p.w p.volume p.track waits.volume waits.track

    pub same-due : (u q : ℕ) → due (acknowledged w p.w) u q ≡ due w u q
    same-due u q =
        ap (λ (h : Histories). due_by h (filter (is_other p.w) ps) u q) told
        ∙ at_cases (λ u l. image h.write (l q ++ waiting (filter (is_other p.w) ps) u q) ≡ image h.write (h.now u q ++ waiting ps u q)) h.now p.volume (at (h.now p.volume) p.track held)
        (at_cases (λ q l. image h.write (l ++ waiting (filter (is_other p.w) ps) p.volume q) ≡ image h.write (h.now p.volume q ++ waiting ps p.volume q)) (h.now p.volume) p.track held
        (ap (λ ws. image h.write (held ++ ws)) gone.gone ∙ ap (image h.write) (append-nil held) ∙ sym (ap (λ ws. image h.write (h.now p.volume p.track ++ ws)) gone.here))
        (λ q ne. ap (λ ws. image h.write (h.now p.volume q ++ ws)) (gone.else p.volume q (inr ne))) q)
        (λ u ne. ap (λ ws. image h.write (h.now u q ++ ws)) (gone.else u q (inl ne))) u

    pub same-aside : (u q : ℕ) → aside (acknowledged w p.w) u q ≡ aside w u q
    same-aside u q = ap (λ (h : Histories). aside_by h u q) told

    pub acknowledges : Starting (acknowledged w p.w)
    acknowledges = record {
      rows = subst SoundRows (λ i u. record (table w u) { due = λ q. sym (same-due u q) i; aside = λ q. sym (same-aside u q) i }) j.rows;
      targets = record { once = j.targets.once; few = j.targets.few };
      secondaries = j.secondaries;
      groups = same-groups w.control (acknowledged w p.w).control refl refl refl j.groups;
      housed = j.housed;
      attempts = j.attempts;
      flights = j.flights;
      queue = record {
        each = subst (λ (h : Histories). AllPending (Waits (Some s) w.control h.write) (filter (is_other p.w) ps)) (sym told) (all-filter _ (is_other p.w) ps j.queue.each);
        apart = apart-filter p.w ps j.queue.apart;
        lone = lone-filter (servers w.control) p.w ps j.queue.lone;
        numbers = subst (Numbered (w.control.issued + 1)) (sym (histories-append w.events (Ack p.w ∷ []))) (numbered-after (w.control.issued + 1) h (Ack p.w) waits.number j.queue.numbers);
      };
    }

  runs : (w : World) (a : Act) → Writes a → MayStart w a → Runs w (place a)
  runs w (Make (Restart v)) d may = ap w.control.on may.own ∙ may.on
  runs w (Make m) d may = absurd may
  runs w (OpenAttempt v i n) d may = absurd may
  runs w (Redo v) d may = ap w.control.on may.own ∙ may.on
  runs w (Acknowledge n) d may = absurd d
  runs w (Drop n) d may = absurd d
  runs w (EndFreeze l m) d may = absurd d
  runs w (EndThaw l m) d may = absurd d
  runs w (EndRecovery s n) d may = absurd d

  -- a volume that goes on leaves the queue as it was
  pub may-restart : (w : World) (v : ℕ) → OnServer w v → May w (Restart v)
  may-restart w v may = record { runs = ap w.control.on may.own ∙ may.on; allowed = tt; fits = tt; group = tt; ready = tt }

  does : (w : World) (a : Act) (f : Option Fuse) → Inner w → MayStart w a → Inner (after_act w a f)
  does w (Make (Restart v)) f j may = record { sound = sound-done (Some s) w (Restart v) f j.sound (may-restart w v may); on = j.on }
  does w (Make m) f j may = absurd may
  does w (OpenAttempt v i n) f j may = absurd may
  does w (Redo v) f j may = record { sound = sound-fused (Some s) w (servers w.control v) f j.sound; on = j.on }
  does w (Acknowledge n) f j may = record { sound = subst (λ n. Starting (acknowledged w n)) may.number (acknowledges w j.sound may.waits may.first); on = j.on }
  does w (Drop n) f j may = absurd may
  does w (EndFreeze l m) f j may = absurd may
  does w (EndThaw l m) f j may = absurd may
  does w (EndRecovery s n) f j may = absurd may

  counts : (w : World) (m : Move) (f : Option Fuse) → Inner w → MayMove w m → Sound (done_in_stop w m f)
  counts w (Restart v) f j may = sound-off (done_in_stop w (Restart v) f) (sound-stop (Some s) w (Restart v) f j.sound (may-restart w v may)) (ap (λ x. at w.control.on x false s) may.own ∙ at_same w.control.on s false)
  counts w m f j may = absurd may

  stopped-off : (w : World) (v : ℕ) (f : Option Fuse) → Inner w → OnServer w v → Sound (not_done w (servers w.control v) f)
  stopped-off w v f j may = sound-off (not_done w (servers w.control v) f) (sound-not (Some s) w (servers w.control v) f j.sound) (ap (λ x. at w.control.on x false s) may.own ∙ at_same w.control.on s false)

  fails : (w : World) (a : Act) (f : Option Fuse) → Writes a → Inner w → MayStart w a → Sound (not_done w (server_of w a) f)
  fails w (Make (Restart v)) f d j may = stopped-off w v f j may
  fails w (Make m) f d j may = absurd may
  fails w (OpenAttempt v i n) f d j may = absurd may
  fails w (Redo v) f d j may = stopped-off w v f j may
  fails w (Acknowledge n) f d j may = absurd d
  fails w (Drop n) f d j may = absurd d
  fails w (EndFreeze l m) f d j may = absurd d
  fails w (EndThaw l m) f d j may = absurd d
  fails w (EndRecovery s n) f d j may = absurd d

  pub keeps : along.Keeps Inner Sound MayStart
  keeps = record { runs = runs; does = does; counts = counts; opens = λ w v i n f j may. absurd may; fails = λ w a f d j may. fails w a f d j may }

  -- all that a start does
  abbrev Along : World → List Entry → Type 0
  Along = along.Along Inner Sound Sound MayStart

  acknowledge-by : (w : World) (o : Option Pending) → first_landed w ≡ o → Inner w → along.along_next Inner Sound MayStart w (acknowledge_if (option_map (λ (p : Pending). p.w) o)) (λ v. Along v [])
  acknowledge-by w None none j = along.along-nil Inner Sound Sound MayStart w (sound-free w j.sound (none-found (servers w.control) (is_volume w.control) s w.control.pending (are-defined w j.sound) none))
  acknowledge-by w (Some p) first j =
      (record { waits = p; number = refl; first = first }, λ f k. along.along-nil Inner Sound Sound MayStart _ (sound-free _ k.sound (gone w j.sound p first).free))

  redo-by : (w : World) (v : ℕ) (more : World → Type 0) → Inner w → ((k : World) → Inner k → more k) → (b : Bool) → belongs w.control s v ≡ b → along.along_next Inner Sound MayStart w (cond b (Do (Redo v)) Pass) more
  redo-by w v more j go false h = go w j
  redo-by w v more j go true h = (record { own = eqb-true (servers w.control v) s (and_parts _ _ h).1; on = j.on }, λ f k. go _ k)

  restart-by : (w : World) (v : ℕ) (more : World → Type 0) → Inner w → ((k : World) → Inner k → more k) → (b : Bool) → (belongs w.control s v && must_restart (fields_at w.control v)) ≡ b
      → along.along_next Inner Sound MayStart w (cond b (Do (Make (Restart v))) Pass) more
  restart-by w v more j go false h = go w j
  restart-by w v more j go true h = (record { own = eqb-true (servers w.control v) s (and_parts (is_volume w.control v) _ (and_parts (belongs w.control s v) _ h).0).1; on = j.on }, λ f k. go _ k)

  pub volumes-start : (vs : List ℕ) (w : World) → Inner w → Along w (start_entries s vs ++ acknowledge_on s ∷ [])
  volumes-start [] w j = along.along-entry Inner Sound Sound MayStart w (acknowledge_on s) [] _ refl (acknowledge-by w _ refl j)
  volumes-start (v ∷ vs) w j =
      along.along-entry Inner Sound Sound MayStart w (redo_on s v) _ _ refl (redo-by w v _ j (λ k i.
      along.along-entry Inner Sound Sound MayStart k (restart_on s v) _ _ refl (restart-by k v _ i (λ k i. volumes-start vs k i) _ refl)) _ refl)

  starts-waits : (w : World) → Sound w → (p : Pending) → Waits None w.control (histories w.events).write p → Waits (Some s) (starting s w.control) (histories w.events).write p
  starts-waits w x p waits = record {
    number = waits.number;
    positive = waits.positive;
    defined = waits.defined;
    low = waits.low;
    volume = waits.volume;
    track = waits.track;
    calm = λ l ne. at_other w.control.on s true (servers w.control p.volume) (λ e. false≢true (sym ne ∙ eq-eqb s (servers w.control p.volume) (sym e))) ∙ waits.calm l refl;
  }

  pub begins : (w : World) → Sound w → Inner (begun w (start_plan w.control s))
  begins w x =
      let same : histories (w.events ++ Started s ∷ []) ≡ histories w.events = histories-append w.events (Started s ∷ []) in
      record {
        sound = record {
          rows = rows-told w (Started s ∷ []) same x.rows;
          targets = record { once = x.targets.once; few = x.targets.few };
          secondaries = x.secondaries;
          groups = same-groups w.control (starting s w.control) refl refl refl x.groups;
          housed = x.housed;
          attempts = x.attempts;
          flights = flights-started w.control s x.flights;
          queue = record {
            each = subst (λ (h : Histories). AllPending (Waits (Some s) (starting s w.control) h.write) w.control.pending) (sym same) (each-on (starts-waits w x) w.control.pending x.queue.each);
            apart = x.queue.apart;
            lone = x.queue.lone;
            numbers = subst (Numbered (w.control.issued + 1)) (sym same) x.queue.numbers;
          };
        };
        on = at_same w.control.on s true;
      }

  pub holds-start : (w : World) → Sound w → StepHolds w (start_plan w.control s)
  holds-start w x = record {
    inner = Inner;
    ends = Sound;
    may = MayStart;
    keeps = keeps;
    within = λ v j. j.sound.rows;
    complete = λ v i. i.rows;
    begins = begins w x;
    entries = volumes-start w.control.volumes (begun w (start_plan w.control s)) (begins w x);
    follows = λ q. tt;
    last = λ v i. i;
  }
