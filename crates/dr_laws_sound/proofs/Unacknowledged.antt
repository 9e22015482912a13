-- Acts that acknowledge no write, mirror none and leave those that are pending; and entries that come to no others. With `no_cuts`
-- they cut no volume, too.
use Rattle.std.proofs.Common.{ℕ, ◌≡◌, ◌⊎◌, inl, inr, List, [], ◌∷◌, ◌++◌, refl, ap, ◌∙◌, sym, append_assoc, Bool, true, false, not, ◌||◌, Option, None}
use Rattle.std.proofs.lemmas.List.{append-nil}
use Rattle.std.specs.List.{flat_map, list_any}
use Rattle.std.proofs.lemmas.Grind.{flat_map-append}
use Rattle.std.proofs.lemmas.List.Folds.{list_any-append}
use Rattle.dr_model.specs.declared.event.Event.{Event}
use Rattle.dr_model.specs.declared.event.Event.TheVariants.{Ack, Mirrored, Stopped, Frozen, Thawed, Recovered, Cut}
use Rattle.dr_logic.specs.Tables.{at}
use Rattle.dr_model.specs.Control.{Control, Fuse, Pending, Volume, World}
use Rattle.dr_model.specs.Moves.{Move, Land, Overwrite, LandBoth, Hold, told, told_in_stop, landed, settled, settled_in_stop, target}
use Rattle.dr_model.specs.Carry.{Act, Make, OpenAttempt, Redo, Acknowledge, Drop, EndFreeze, EndThaw, EndRecovery, act, Turn, Entry, Outcome, carry, carry_each}
use Rattle.dr_model.specs.Carried.{begun, carried_out}
use Rattle.dr_model.specs.PlanParts.{Plan}
use Rattle.dr_ids.specs.declared.refusal.Refusal.{Refusal}
use Rattle.dr_facts.proofs.Emits.{Tag, Acks, Mirrors, Cuts, Of, all_tags, emits, act_emits, Lists, each-told, stop-onto}
use Rattle.dr_facts.proofs.Entries.{any_world, any_reason, AllFine, EachFine, carry-kept, FineFrom, plan-from, each-kept}
use Rattle.dr_laws_sound.proofs.ChecksFirst.{carry-on}
use Rattle.dr_logic.proofs.Truth.{false_true}
use Rattle.dr_model.specs.Groups.{In}
use Rattle.dr_facts.proofs.Lists.{in-second}
use Rattle.dr_facts.proofs.Tables.{at_part}
use Rattle.dr_laws_sound.specs.Acknowledged.{acknowledgement, acknowledgements}
use Rattle.dr_laws_sound.proofs.Turns.{act-cases, Counts, after_act, server_of}

pub acks-append : (es fs : List Event) → acknowledgements (es ++ fs) ≡ acknowledgements es ++ acknowledgements fs
acks-append es fs = flat_map-append acknowledgement es fs

pub none-then : (es fs : List Event) → acknowledgements es ≡ [] → acknowledgements (es ++ fs) ≡ acknowledgements fs
none-then es fs none = acks-append es fs ∙ ap (λ ns. ns ++ acknowledgements fs) none

-- the writes that secondaries stored, and whether a volume was cut
abbrev pub mirror : Event → List ℕ
mirror (Mirrored n v) = n ∷ []
mirror e = []

abbrev pub mirrors : List Event → List ℕ
mirrors events = flat_map mirror events

abbrev pub is_cut : Event → Bool
is_cut (Cut s n v) = true
is_cut e = false

abbrev pub cuts_any : List Event → Bool
cuts_any events = list_any is_cut events

-- nothing that a reader of acknowledgements, of mirrored writes or, with `no_cuts`, of cuts hears of
pub record NoAcknowledgement (no_cuts : Bool) (es : List Event) : Type 0 where
  pub none : acknowledgements es ≡ []
  pub plain : mirrors es ≡ []
  pub uncut : no_cuts ≡ true → cuts_any es ≡ false

pub mirrors-then : (es fs : List Event) → mirrors es ≡ [] → mirrors (es ++ fs) ≡ mirrors fs
mirrors-then es fs none = flat_map-append mirror es fs ∙ ap (λ ns. ns ++ mirrors fs) none

pub uncut-then : (es fs : List Event) → cuts_any es ≡ false → cuts_any fs ≡ false → cuts_any (es ++ fs) ≡ false
uncut-then es fs first rest = list_any-append is_cut es fs ∙ ap (λ b. b || cuts_any fs) first ∙ rest

pub no_acknowledgement-none : (no_cuts : Bool) → NoAcknowledgement no_cuts []
no_acknowledgement-none no_cuts = record { none = refl; plain = refl; uncut = λ h. refl }

pub no_acknowledgement-then : (no_cuts : Bool) (es fs : List Event) → NoAcknowledgement no_cuts es → NoAcknowledgement no_cuts fs → NoAcknowledgement no_cuts (es ++ fs)
no_acknowledgement-then no_cuts es fs p q = record { none = none-then es fs p.none ∙ q.none; plain = mirrors-then es fs p.plain ∙ q.plain; uncut = λ h. uncut-then es fs (p.uncut h) (q.uncut h) }

-- a server's stop was told
pub record HasStop (es : List Event) : Type 0 where
  pub server : ℕ
  pub landed : ℕ
  pub here : In (Stopped server landed) es

stop-last : (es : List Event) (x n : ℕ) → HasStop (es ++ Stopped x n ∷ [])
stop-last es x n = record { server = x; landed = n; here = in-second es (Stopped x n ∷ []) (Stopped x n) (inl refl) }

-- the kinds of events that are none of these
abbrev pub is_no_acknowledgement : Bool → Tag → Bool
is_no_acknowledgement no_cuts Acks = false
is_no_acknowledgement no_cuts Mirrors = false
is_no_acknowledgement no_cuts Cuts = not no_cuts
is_no_acknowledgement no_cuts k = true

-- acts that tell no others, and drop no write
abbrev pub AcknowledgesNothing : Bool → Act → Type 0
AcknowledgesNothing no_cuts (Drop n) = ⊥
AcknowledgesNothing no_cuts a = all_tags (is_no_acknowledgement no_cuts) (act_emits a) ≡ true

module _ (no_cuts : Bool) where
  no-ack : (e : Event) → Of (is_no_acknowledgement no_cuts) e → acknowledgement e ≡ []
  no-ack (Ack n) h = absurd cc
  no-ack e h = refl

  no-mirror : (e : Event) → Of (is_no_acknowledgement no_cuts) e → mirror e ≡ []
  no-mirror (Mirrored n v) h = absurd cc
  no-mirror e h = refl

  no-cut : (e : Event) → Of (is_no_acknowledgement no_cuts) e → no_cuts ≡ true → is_cut e ≡ false
  no-cut (Cut s n v) h so = false_true (ap not so) h
  no-cut e h so = refl

  pub no_acknowledgement-lists : Lists (Of (is_no_acknowledgement no_cuts)) (NoAcknowledgement no_cuts)
  no_acknowledgement-lists = record {
    none = no_acknowledgement-none no_cuts;
    more = λ e es h rest. record {
      none = (λ i. no-ack e h i ++ rest.none i);
      plain = (λ i. no-mirror e h i ++ rest.plain i);
      uncut = λ so. (λ i. no-cut e h so i || rest.uncut so i);
    };
  }

  abbrev emits-none : Move → Type 0
  emits-none m = all_tags (is_no_acknowledgement no_cuts) (emits m) ≡ true

  told-none : (m : Move) (u : Volume) → emits-none m → NoAcknowledgement no_cuts (told m u)
  told-none = each-told (is_no_acknowledgement no_cuts) (NoAcknowledgement no_cuts) no_acknowledgement-lists

  pub stopped-none : (m : Move) (u : Volume) → emits-none m → NoAcknowledgement no_cuts (told_in_stop m u ++ Stopped u.server (landed m) ∷ [])
  stopped-none m u nothing = stop-onto (is_no_acknowledgement no_cuts) (NoAcknowledgement no_cuts) no_acknowledgement-lists m u (Stopped u.server (landed m) ∷ []) nothing (record { none = refl; plain = refl; uncut = λ h. refl })

  settled-same : (m : Move) (ps : List Pending) → emits-none m → settled m ps ≡ ps
  settled-same (Land n v t) ps nothing = absurd cc
  settled-same (Overwrite n v t) ps nothing = absurd cc
  settled-same (LandBoth n v t) ps nothing = absurd cc
  settled-same m ps nothing = refl

  stop-same : (m : Move) (ps : List Pending) → emits-none m → settled_in_stop m ps ≡ ps
  stop-same (Land n v t) ps nothing = absurd cc
  stop-same (Overwrite n v t) ps nothing = absurd cc
  stop-same (LandBoth n v t) ps nothing = absurd cc
  stop-same m ps nothing = refl

-- From w to u the journal was told of none of these.
pub record NothingAcknowledged (no_cuts : Bool) (w u : World) : Type 0 where
  pub added : List Event
  pub events : u.events ≡ w.events ++ added
  pub silent : NoAcknowledgement no_cuts added

pub since-same : (no_cuts : Bool) (w : World) → NothingAcknowledged no_cuts w w
since-same no_cuts w = record { added = []; events = sym (append-nil w.events); silent = no_acknowledgement-none no_cuts }

pub since-then : (no_cuts : Bool) (w u v : World) → NothingAcknowledged no_cuts w u → NothingAcknowledged no_cuts u v → NothingAcknowledged no_cuts w v
since-then no_cuts w u v p q = record {
  added = p.added ++ q.added;
  events = q.events ∙ ap (λ es. es ++ q.added) p.events ∙ append_assoc w.events p.added q.added;
  silent = no_acknowledgement-then no_cuts p.added q.added p.silent q.silent;
}

-- and what is pending stayed, and whose the volumes are
pub record StaysPending (j k : Control) : Type 0 where
  pub pending : k.pending ≡ j.pending
  pub volumes : k.volumes ≡ j.volumes
  pub server : (v : ℕ) → (k.volume v).server ≡ (j.volume v).server

pub pending-same : (k : Control) → StaysPending k k
pending-same k = record { pending = refl; volumes = refl; server = λ v. refl }

pub pending-then : (i j k : Control) → StaysPending i j → StaysPending j k → StaysPending i k
pending-then i j k p q = record { pending = q.pending ∙ p.pending; volumes = q.volumes ∙ p.volumes; server = λ v. q.server v ∙ p.server v }

-- Entries from w come to an end, where no server went off if they ended well.
pub record EndsUnacknowledged (no_cuts : Bool) (w : World) {E : Type 0} (u : World) (end : Option E) : Type 0 where
  pub since : NothingAcknowledged no_cuts w u
  pub stays : StaysPending w.control u.control
  pub on : end ≡ None → u.control.on ≡ w.control.on

move-server : (w : World) (m : Move) (y : Volume) → y.server ≡ (w.control.volume (target m)).server → (v : ℕ) → (at w.control.volume (target m) y v).server ≡ (w.control.volume v).server
move-server w m y e v = at_part (λ (x : Volume). x.server) w.control.volume (target m) y e v

-- acts that acknowledge nothing
module _ (no_cuts : Bool) (w : World) where
  abbrev one : (es : List Event) (u : World) → u.events ≡ w.events ++ es → NoAcknowledgement no_cuts es → NothingAcknowledged no_cuts w u
  one es u events silent = record { added = es; events = events; silent = silent }

  abbrev quiet : (es : List Event) (u : World) → u.events ≡ w.events ++ es → acknowledgements es ≡ [] → mirrors es ≡ [] → cuts_any es ≡ false → NothingAcknowledged no_cuts w u
  quiet es u events none plain uncut = one es u events (record { none = none; plain = plain; uncut = λ h. uncut })

  nothing-told : (u : World) → u.events ≡ w.events → NothingAcknowledged no_cuts w u
  nothing-told u e = record { added = []; events = e ∙ sym (append-nil w.events); silent = no_acknowledgement-none no_cuts }

  done-unacknowledged : (a : Act) (f : Option Fuse) → AcknowledgesNothing no_cuts a → EndsUnacknowledged no_cuts w {E = ℕ} (after_act w a f) None
  done-unacknowledged (Make m) f nothing = record {
    since = one (told m (w.control.volume (target m))) _ refl (told-none no_cuts m (w.control.volume (target m)) nothing);
    stays = record { pending = settled-same no_cuts m w.control.pending nothing; volumes = refl; server = move-server w m _ refl };
    on = λ e. refl;
  }
  done-unacknowledged (OpenAttempt v s n) f nothing = record {
    since = one (told (Hold v s n true) (w.control.volume v)) _ refl (told-none no_cuts (Hold v s n true) (w.control.volume v) nothing);
    stays = record { pending = refl; volumes = refl; server = move-server w (Hold v s n true) _ refl };
    on = λ e. refl;
  }
  done-unacknowledged (Redo v) f nothing = record { since = nothing-told _ refl; stays = record { pending = refl; volumes = refl; server = λ u. refl }; on = λ e. refl }
  done-unacknowledged (Acknowledge n) f nothing = absurd cc
  done-unacknowledged (Drop n) f nothing = absurd nothing
  done-unacknowledged (EndFreeze l m) f nothing = record { since = quiet (Frozen l m ∷ []) _ refl refl refl refl; stays = record { pending = refl; volumes = refl; server = λ u. refl }; on = λ e. refl }
  done-unacknowledged (EndThaw l m) f nothing = record { since = quiet (Thawed l m ∷ []) _ refl refl refl refl; stays = record { pending = refl; volumes = refl; server = λ u. refl }; on = λ e. refl }
  done-unacknowledged (EndRecovery s n) f nothing = record { since = quiet (Recovered s n ∷ []) _ refl refl refl refl; stays = record { pending = refl; volumes = refl; server = λ u. refl }; on = λ e. refl }

  -- how an act ends: well, or with a stop that is told
  pub record Turned (t : Turn) : Type 0 where
    pub unacknowledged : EndsUnacknowledged no_cuts w t.0 t.1
    pub ends : (t.1 ≡ None) ⊎ HasStop unacknowledged.since.added

  counts-unacknowledged : (a : Act) → AcknowledgesNothing no_cuts a → Counts w a Turned
  counts-unacknowledged (Make m) nothing = λ f. record {
    unacknowledged = record {
      since = one (told_in_stop m (w.control.volume (target m)) ++ Stopped (w.control.volume (target m)).server (landed m) ∷ []) _ refl (stopped-none no_cuts m (w.control.volume (target m)) nothing);
      stays = record { pending = stop-same no_cuts m w.control.pending nothing; volumes = refl; server = move-server w m _ refl };
      on = λ e. absurd cc;
    };
    ends = inr (stop-last (told_in_stop m (w.control.volume (target m))) (w.control.volume (target m)).server (landed m));
  }
  counts-unacknowledged (OpenAttempt v s n) nothing = λ f. record {
    unacknowledged = record {
      since = one (told_in_stop (Hold v s n true) (w.control.volume v) ++ Stopped (w.control.volume v).server 0 ∷ []) _ refl (stopped-none no_cuts (Hold v s n true) (w.control.volume v) nothing);
      stays = record { pending = refl; volumes = refl; server = move-server w (Hold v s n true) _ refl };
      on = λ e. absurd cc;
    };
    ends = inr (stop-last (told_in_stop (Hold v s n true) (w.control.volume v)) (w.control.volume v).server 0);
  }
  counts-unacknowledged (Redo v) nothing = tt
  counts-unacknowledged (Acknowledge n) nothing = tt
  counts-unacknowledged (Drop n) nothing = tt
  counts-unacknowledged (EndFreeze l m) nothing = tt
  counts-unacknowledged (EndThaw l m) nothing = tt
  counts-unacknowledged (EndRecovery s n) nothing = tt

  pub act-turned : (a : Act) → AcknowledgesNothing no_cuts a → Turned (act w a)
  act-turned a nothing = act-cases w a Turned (λ d off. record { unacknowledged = record { since = since-same no_cuts w; stays = pending-same w.control; on = λ e. refl }; ends = inl refl })
      (λ f. record { unacknowledged = done-unacknowledged a f nothing; ends = inl refl }) (counts-unacknowledged a nothing)
      (λ d f. record {
        unacknowledged = record { since = quiet (Stopped (server_of w a) 0 ∷ []) _ refl refl refl refl; stays = record { pending = refl; volumes = refl; server = λ u. refl }; on = λ e. absurd cc };
        ends = inr (stop-last [] (server_of w a) 0);
      })

-- ---- entries

abbrev pub AllAcknowledgeNothing : Bool → List Entry → Type 0
AllAcknowledgeNothing no_cuts = AllFine any_world (λ w a. AcknowledgesNothing no_cuts a) any_reason

-- each by itself
abbrev pub EachAcknowledgesNothing : Bool → List Entry → Type 0
EachAcknowledgesNothing no_cuts = EachFine any_world (λ w a. AcknowledgesNothing no_cuts a) any_reason

module _ (no_cuts : Bool) where
  abbrev pub Comes : World → Outcome → Type 0
  Comes w o = EndsUnacknowledged no_cuts w o.0 o.1

  -- from a world, the journal was told of none of these, and what is pending stayed
  abbrev Since : World → World → Type 0
  Since w u = NothingAcknowledged no_cuts w u × StaysPending w.control u.control

  act-since : (w u : World) (a : Act) → AcknowledgesNothing no_cuts a → Since w u → Since w (act u a).0
  act-since w u a nothing h = let t = (act-turned no_cuts u a nothing).unacknowledged in (since-then no_cuts w u _ h.0 t.since, pending-then w.control u.control _ h.1 t.stays)

  pub carry-unacknowledged : (w : World) (ds : List Entry) → AllAcknowledgeNothing no_cuts ds → Comes w (carry w ds)
  carry-unacknowledged w ds nothing =
      let since : Since w (carry w ds).0 = carry-kept any_world (λ w a. AcknowledgesNothing no_cuts a) any_reason (Since w) (λ u h. tt) (λ u a nothing h. act-since w u a nothing h) ds nothing w (since-same no_cuts w, pending-same w.control) in
      record { since = since.0; stays = since.1; on = carry-on w ds }

  pub each-unacknowledged : (w : World) (ds : List Entry) → EachAcknowledgesNothing no_cuts ds → NothingAcknowledged no_cuts w (carry_each w ds)
  each-unacknowledged w ds nothing =
      each-kept any_world (λ w a. AcknowledgesNothing no_cuts a) any_reason (NothingAcknowledged no_cuts w) (λ u h. tt) (λ u a nothing h. since-then no_cuts w u _ h (act-turned no_cuts u a nothing).unacknowledged.since) ds nothing w (since-same no_cuts w)

  -- a plan whose acts are such
  pub plan-since : (First Why : Refusal → Type 0) (Ok : World → Act → Type 0) → ((u : World) (a : Act) → Ok u a → AcknowledgesNothing no_cuts a) → (w : World) (p : Plan) → NoAcknowledgement no_cuts p.told → FineFrom any_world Ok First Why (begun w p) p.entries
      → ((s : ℕ) → EachFine any_world Ok Why (p.follows s)) → NothingAcknowledged no_cuts w (carried_out w p).0
  plan-since First Why Ok nothing w p told entries follows =
      plan-from any_world Ok First Why (NothingAcknowledged no_cuts w) (λ u h. tt) (λ u a ok h. since-then no_cuts w u _ h (act-turned no_cuts u a (nothing u a ok)).unacknowledged.since) w p (record { added = p.told; events = refl; silent = told }) entries follows (λ u h. record { added = h.added; events = h.events; silent = h.silent })
