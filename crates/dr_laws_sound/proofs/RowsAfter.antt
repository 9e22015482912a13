-- The table of volumes after a move that is done, whether or not the server stopped in it.
use Rattle.std.proofs.Common.{ℕ, ◌≡◌, inl, inr, refl, ap, sym, ◌∙◌, Bool, true, false, cond, ◌&&◌, nat_eq, List, [], ◌∷◌, ◌++◌, Option, None, Some}
use Rattle.std.proofs.lemmas.Bool.Decides.{eqb_tells}
use Rattle.std.proofs.lemmas.Bool.{false_from_ne_true, and_parts, eqb-true}
use Rattle.std.specs.FinSet.{contains, remove}
use Rattle.std.specs.List.{fold}
use Rattle.std.proofs.lemmas.List.Sums.{fold-append}
use Rattle.std.proofs.lemmas.List.{append-nil}
use Rattle.dr_logic.specs.Bytes.{zeros}
use Rattle.dr_logic.specs.Tables.{at}
use Rattle.dr_model.specs.declared.event.Event.{Event}
use Rattle.dr_model.specs.declared.event.Event.TheVariants.{Stopped, Suspended}
use Rattle.dr_model.specs.Contents.{image}
use Rattle.dr_model.specs.Histories.{Write, Histories, histories, after_event}
use Rattle.dr_model.specs.Control.{Control, Pending, Volume, Fuse, World, is_volume}
use Rattle.dr_model.specs.Layout.{Tracks}
use Rattle.dr_model.specs.Relations.{rest, is_bare, turned, given_up}
use Rattle.dr_model.specs.Moves.{Move, Land, Overwrite, Keep, Relate, Withdraw, Fetch, Resync, Reverse, Restore, Release, Store, Suspend, Mirror, LandBoth, Hold, Flash, Commit, Revert, target, told, told_in_stop, landed, settled, settled_in_stop, tracks_after, saved_after, Lift, keeps_staged, moved_keeping}
use Rattle.dr_model.specs.Table.{table, waiting, due, due_by, aside, aside_by}
use Rattle.dr_model.specs.Rows.{emptied, next_row, next_due, next_aside, next_bytes, after}
use Rattle.dr_model.specs.Laws.{servers, Structure, Blank, Queue, Waits, AllPending}
use Rattle.dr_model.specs.Allowed.{Allowed, Idle, Ready, Runs}
use Rattle.dr_model.proofs.Images.{histories-append}
use Rattle.dr_facts.proofs.Tables.{IsOrNot}
use Rattle.dr_facts.proofs.Sets.{if_false}
use Rattle.dr_facts.proofs.Heard.{changes_none}
use Rattle.dr_facts.proofs.Emits.{Of, all_tags, emits, fold-lists, each-told}
use Rattle.dr_laws_sound.proofs.Turns.{next_of, carried_in, done, done_in_stop}
use Rattle.dr_laws_sound.proofs.Due.{Calm, due-same, due-acked, due-marked, due-mirrored, due-set, due-back, due-blanked, due-restored, due-at, aside-same, aside-blanked, aside-restored, aside-at}
use Rattle.dr_model.proofs.LawfulLemmas.{removed}
use Rattle.dr_model.proofs.Asking.{image-none}
use Rattle.dr_logic.proofs.Choices.{chosen}
use Rattle.dr_logic.proofs.Truth.{false_true}

-- no write waits on a volume whose server is idle
pub calm-each : (server : ℕ → ℕ) (v q : ℕ) (ps : List Pending) → AllPending (λ p. p.landed ≡ true → server p.volume ≡ server v → ⊥) ps → waiting ps v q ≡ []
calm-each server v q [] all = refl
calm-each server v q (p ∷ ps) all =
    let here : Bool = p.landed && (nat_eq p.volume v && nat_eq p.track q) in
    if_false {b = here} (p.w ∷ waiting ps v q) (waiting ps v q) (false_from_ne_true here (λ h. let both = and_parts _ _ h in all.0 both.0 (ap server (eqb-true p.volume v (and_parts _ (nat_eq p.track q) both.1).0))))
    ∙ calm-each server v q ps all.1

pub calm : (w : World) (v : ℕ) → Idle w v → Calm w.control.pending v
calm w v idle q = calm-each (servers w.control) v q w.control.pending idle

-- between steps a server that is on is idle
idle-each : (k : Control) (write : ℕ → Write) (v : ℕ) (ps : List Pending) → AllPending (Waits None k write) ps → k.on (k.volume v).server ≡ true → AllPending (λ p. p.landed ≡ true → servers k p.volume ≡ servers k v → ⊥) ps
idle-each k write v [] all on = tt
idle-each k write v (p ∷ ps) all on = ((λ l e. false_true (all.0.calm l refl) (ap k.on e ∙ on)), idle-each k write v ps all.1 on)

pub idle : (w : World) (v : ℕ) → Queue None w → Runs w v → Idle w v
idle w v queue on = idle-each w.control (histories w.events).write v w.control.pending queue.each on

-- a world in which a move was done, with servers, fuses, pending writes and events as they then are
abbrev pub changed : World → Move → (ℕ → Bool) → (ℕ → Option Fuse) → List Pending → List Event → World
changed w m on fuse ps es =
    let x : ℕ = target m in
    let u : Volume = w.control.volume x in
    record {
      control = record w.control { volume = at w.control.volume x (moved_keeping (keeps_staged m) u (next_of w m) (carried_in w m)); on = on; fuse = fuse; pending = ps };
      contents = at w.contents x (tracks_after (next_of w m) (carried_in w m) (w.contents x));
      saved = at w.saved x (saved_after u.fields.entries (next_of w m).entries (w.contents x) (w.saved x));
      events = es;
    }

-- blank tracks are zeros already
pub zeros-stay : (b : Bool) (old : List ℕ) → (b ≡ true → old ≡ zeros) → cond b zeros old ≡ old
zeros-stay true old h = sym (h refl)
zeros-stay false old h = refl

module _ (w : World) (blank : Blank (table w)) where
  abbrev write : ℕ → Write
  write = (histories w.events).write

  stored : (v t q : ℕ) (b : List ℕ) → cond (nat_eq q t) b (cond (contains (remove (w.control.volume v).fields.blank t) q) zeros (w.contents v q)) ≡ at (w.contents v) t b q
  stored v t q b = ap (λ old. cond (nat_eq q t) b old) (zeros-stay _ _ (λ h. blank v q (removed _ t q h)))

  untouched : (v q : ℕ) → cond (contains (w.control.volume v).fields.blank q) zeros (w.contents v q) ≡ w.contents v q
  untouched v q = zeros-stay _ _ (blank v q)

  -- a relationship may have ended
  may_end : (v q : ℕ) (e : Bool) (own : Tracks) → let n : ℕ = (w.control.volume v).tracks in
      cond (contains (cond e (rest n own) (w.control.volume v).fields.blank) q) zeros (w.contents v q) ≡ emptied e n own (w.contents v) q
  may_end v q true own = refl
  may_end v q false own = untouched v q

  pub bytes-after : (m : Move) (q : ℕ) → tracks_after (next_of w m) (carried_in w m) (w.contents (target m)) q ≡ next_bytes write m (table w) q
  bytes-after (Land n v t) q = stored v t q _
  bytes-after (Overwrite n v t) q = stored v t q _
  bytes-after (Keep v t) q = stored v t q _
  bytes-after (Fetch v t) q = stored v t q _
  bytes-after (Restore v t u) q = stored v t q _
  bytes-after (Store v t u last) q = stored v t q _
  bytes-after (Mirror v t u n) q = stored v t q _
  bytes-after (LandBoth n v t) q = stored v t q _
  bytes-after (Withdraw v) q = refl
  bytes-after (Reverse v left) q = let f = (w.control.volume v).fields in may_end v q (is_bare (turned f).own) (turned f).own
  bytes-after (Release v t) q = let f = (w.control.volume v).fields in may_end v q (is_bare (given_up f t).own) (given_up f t).own
  bytes-after m q = untouched (target m) q

  module _ (m : Move) (on : ℕ → Bool) (fuse : ℕ → Option Fuse) (ps : List Pending) (es : List Event)
      (dues : (u q : ℕ) → due_by (histories es) ps u q ≡ at (due w) (target m) (next_due write m (table w)) u q) (asides : (u q : ℕ) → aside_by (histories es) u q ≡ at (aside w) (target m) (next_aside m (table w)) u q) where
    abbrev x : ℕ
    x = target m

    abbrev next : Volume
    next = moved_keeping (keeps_staged m) (w.control.volume x) (next_of w m) (carried_in w m)

    abbrev bytes : ℕ → List ℕ
    bytes = tracks_after (next_of w m) (carried_in w m) (w.contents x)

    abbrev to_show : ℕ → List ℕ
    to_show = next_due write m (table w)

    abbrev to_keep : ℕ → List ℕ
    to_keep = next_aside m (table w)

    row-by : (u : ℕ) → IsOrNot u x → table (changed w m on fuse ps es) u ≡ after write (table w) m u
    row-by u (inl is) =
        (λ i. record { defined = is_volume w.control (is.1 i); volume = cond (is.0 i) next (w.control.volume u); bytes = cond (is.0 i) bytes (w.contents u); due = λ q. dues u q i; aside = λ q. asides u q i })
        ∙ (λ i. record { defined = is_volume w.control x; volume = next; bytes = λ q. bytes-after m q i; due = cond (is.0 i) to_show (due w u); aside = cond (is.0 i) to_keep (aside w u) })
        ∙ sym (λ i. cond (is.0 i) (next_row write m (table w)) (table w u))
    row-by u (inr not) =
        (λ i. record { defined = is_volume w.control u; volume = cond (not.0 i) next (w.control.volume u); bytes = cond (not.0 i) bytes (w.contents u); due = λ q. dues u q i; aside = λ q. asides u q i })
        ∙ (λ i. record { defined = is_volume w.control u; volume = w.control.volume u; bytes = w.contents u; due = cond (not.0 i) to_show (due w u); aside = cond (not.0 i) to_keep (aside w u) })
        ∙ sym (λ i. cond (not.0 i) (next_row write m (table w)) (table w u))

    pub table-changed : table (changed w m on fuse ps es) ≡ after write (table w) m
    table-changed = λ i u. row-by u (eqb_tells u x) i

no-change : (h : Histories) (e : Event) → Of changes_none e → after_event h e ≡ h
no-change h (Suspended v) is = refl
no-change h e is = cc

-- what is due after each kind
module _ (w : World) where
  abbrev h : Histories
  h = histories w.events

  abbrev ps : List Pending
  ps = w.control.pending

  abbrev Leads : Move → List Event → List Pending → Type 0
  Leads m es ps2 = (u q : ℕ) → due_by (fold after_event h es) ps2 u q ≡ at (due w) (target m) (next_due h.write m (table w)) u q

  abbrev Keeps : Move → List Event → Type 0
  Keeps m es = (u q : ℕ) → aside_by (fold after_event h es) u q ≡ at (aside w) (target m) (next_aside m (table w)) u q

  told-same : (m : Move) → all_tags changes_none (emits m) ≡ true → fold after_event h (told m (w.control.volume (target m))) ≡ h
  told-same m is = each-told changes_none _ (fold-lists (Of changes_none) after_event no-change) m (w.control.volume (target m)) is h

  -- volumes of one server are idle together
  idle_with : (v u : ℕ) → Idle w v → servers w.control u ≡ servers w.control v → Calm ps u
  idle_with v u idle same q = calm-each (servers w.control) u q ps (turn ps idle)
    where
      turn : (ps : List Pending) → AllPending (λ p. p.landed ≡ true → servers w.control p.volume ≡ servers w.control v → ⊥) ps → AllPending (λ p. p.landed ≡ true → servers w.control p.volume ≡ servers w.control u → ⊥) ps
      turn [] all = tt
      turn (p ∷ ps) all = ((λ l e. all.0 l (e ∙ same)), turn ps all.1)

  module _ (structure : Structure (table w)) where
    each-due : (m : Move) → Allowed h.write (table w) m → Ready w m → Leads m (told m (w.control.volume (target m))) (settled m ps)
    each-due (Land n v t) a ready = due-acked h ps n v t ready.volume ready.track (calm w v ready.idle) ready.coming
    each-due (Overwrite n v t) a ready = due-acked h ps n v t ready.volume ready.track (calm w v ready.idle) ready.coming
    each-due (Relate v s c) a ready = due-set h ps v s (calm w v ready) (idle_with v s ready (sym a.server))
    each-due (Withdraw v) a ready = due-blanked h ps v (w.control.volume v).tracks (w.control.volume v).fields.own (calm w v ready)
    each-due (Resync v sequence) a ready =
        let f = (w.control.volume v).fields in
        let is = (chosen f.related f.source a.from a.related).1 in
        due-set h ps v f.source (calm w v ready) (idle_with v f.source ready (ap (servers w.control) is ∙ sym (structure.flash v a.from a.related).same_server))
    each-due (Reverse v None) a ready = let u = w.control.volume v in due-restored h ps v u.fields.source u.tracks (turned u.fields).own (calm w v ready)
    each-due (Reverse v (Some p)) a ready = let u = w.control.volume v in due-restored h ps v u.fields.source u.tracks (turned u.fields).own (calm w v ready)
    each-due (Restore v t u) a ready = due-back h ps v t u (calm w v ready) (idle_with v u ready (structure.flash u v a.related).same_server)
    each-due (Release v t) a ready = let u = w.control.volume v in due-restored h ps v u.fields.source u.tracks (given_up u.fields t).own (calm w v ready)
    each-due (Store v t u last) a ready = due-back h ps v t u (calm w v ready.0) (calm w u ready.1)
    each-due (Mirror v t u n) a ready = due-mirrored h ps n v t u ready.volume ready.track (calm w v ready.idle) (calm w u ready.from_idle)
    each-due (LandBoth n v t) a ready = due-acked h ps n v t ready.volume ready.track (calm w v ready.idle) ready.coming
    each-due (Suspend v busy) a ready = λ u q. ap (λ h. due_by h ps u q) (told-same (Suspend v busy) refl) ∙ due-same h ps v u q
    each-due (Lift v) a ready = λ u q. ap (λ h. due_by h ps u q) (told-same (Lift v) refl) ∙ due-same h ps v u q
    each-due (Hold v s n first) a ready = λ u q. ap (λ h. due_by h ps u q) (told-same (Hold v s n first) refl) ∙ due-same h ps v u q
    each-due (Flash v u a s n) b ready =
        let f = (w.control.volume v).fields in
        due-set h ps v u (calm w v ready) (idle_with v u ready (ap (servers w.control) (sym b.from) ∙ sym (structure.flash v b.resync.from b.resync.related).same_server))
    each-due (Revert v a s n) b ready = λ u q. due-at h ps v (h.aside v) (aside_by h v) (waiting ps) u q (ap (λ ws. image h.write (h.aside v q ++ ws)) (calm w v ready q) ∙ ap (image h.write) (append-nil (h.aside v q))) (λ ne. refl)
    each-due m a ready = due-same h ps (target m)

    each-aside : (m : Move) → Ready w m → Keeps m (told m (w.control.volume (target m)))
    each-aside (Withdraw v) ready = aside-blanked h v (w.control.volume v).tracks (w.control.volume v).fields.own
    each-aside (Reverse v None) ready = let u = w.control.volume v in aside-restored h v u.fields.source u.tracks (turned u.fields).own
    each-aside (Reverse v (Some p)) ready = let u = w.control.volume v in aside-restored h v u.fields.source u.tracks (turned u.fields).own
    each-aside (Release v t) ready = let u = w.control.volume v in aside-restored h v u.fields.source u.tracks (given_up u.fields t).own
    each-aside (Suspend v busy) ready = λ u q. ap (λ h. aside_by h u q) (told-same (Suspend v busy) refl) ∙ aside-same h v u q
    each-aside (Lift v) ready = λ u q. ap (λ h. aside_by h u q) (told-same (Lift v) refl) ∙ aside-same h v u q
    each-aside (Hold v s n first) ready = λ u q. ap (λ h. aside_by h u q) (told-same (Hold v s n first) refl) ∙ aside-same h v u q
    each-aside (Flash v u a s n) ready = λ x q. aside-at h v (h.now v) (due w v) x q (sym (ap (λ ws. image h.write (h.now v q ++ ws)) (calm w v ready q) ∙ ap (image h.write) (append-nil (h.now v q))))
    each-aside (Commit v a s n) ready = λ x q. aside-at h v (λ t. []) (λ t. zeros) x q (image-none h.write)
    each-aside m ready = aside-same h (target m)

    stop-aside : (m : Move) → Ready w m → Keeps m (told_in_stop m (w.control.volume (target m)))
    stop-aside (Land n v t) ready = aside-same h v
    stop-aside (Overwrite n v t) ready = aside-same h v
    stop-aside (LandBoth n v t) ready = aside-same h v
    stop-aside m ready = each-aside m ready

    stop-due : (m : Move) → Allowed h.write (table w) m → Ready w m → Leads m (told_in_stop m (w.control.volume (target m))) (settled_in_stop m ps)
    stop-due (Land n v t) a ready = due-marked h ps n v t (calm w v ready.idle) ready.coming ready.one
    stop-due (Overwrite n v t) a ready = due-marked h ps n v t (calm w v ready.idle) ready.coming ready.one
    stop-due (LandBoth n v t) a ready = due-marked h ps n v t (calm w v ready.idle) ready.coming ready.one
    stop-due m a ready = each-due m a ready

    -- a move that is done, and one that counts as done where the server stopped in it, leave one table
    pub table-done : (m : Move) (f : Option Fuse) → Blank (table w) → Allowed h.write (table w) m → Ready w m → table (done w m f) ≡ after h.write (table w) m
    table-done m f blank a ready =
        let x : Volume = w.control.volume (target m) in
        table-changed w blank m (done w m f).control.on (done w m f).control.fuse (settled m ps) (w.events ++ told m x) (λ u q. ap (λ h. due_by h (settled m ps) u q) (histories-append w.events (told m x)) ∙ each-due m a ready u q)
        (λ u q. ap (λ (h : Histories). aside_by h u q) (histories-append w.events (told m x)) ∙ each-aside m ready u q)

    pub table-stop : (m : Move) (f : Option Fuse) → Blank (table w) → Allowed h.write (table w) m → Ready w m → table (done_in_stop w m f) ≡ after h.write (table w) m
    table-stop m f blank a ready =
        let x : Volume = w.control.volume (target m) in
        let es : List Event = told_in_stop m x ++ Stopped x.server (landed m) ∷ [] in
        table-changed w blank m (done_in_stop w m f).control.on (done_in_stop w m f).control.fuse (settled_in_stop m ps) (done_in_stop w m f).events
        (λ u q. ap (λ h. due_by h (settled_in_stop m ps) u q) (histories-append w.events es ∙ fold-append after_event h (told_in_stop m x) (Stopped x.server (landed m) ∷ [])) ∙ stop-due m a ready u q)
        (λ u q. ap (λ (h : Histories). aside_by h u q) (histories-append w.events es ∙ fold-append after_event h (told_in_stop m x) (Stopped x.server (landed m) ∷ [])) ∙ stop-aside m ready u q)
