-- Between steps a Metro Mirror primary that is Full Duplex has no track out of sync where its server runs.
use Rattle.std.proofs.Common.{Some, ℕ, ◌≡◌, ◌≢◌, ◌<◌, ◌+◌, inl, inr, refl, ap, sym, ◌∙◌, subst, Bool, true, false, cond, not, ◌&&◌, ◌||◌, nat_eq, List, [], ◌∷◌, ◌++◌, filter, Option, arith}
use Rattle.std.proofs.lemmas.Bool.{and_parts, and_from, ne_eqb, false_from_ne_true}
use Rattle.std.proofs.lemmas.Bool.Decides.{eqb_tells}
use Rattle.std.specs.FinSet.{contains, remove, union, empty}
use Rattle.dr_model.specs.declared.state.Part.{Part}
use Rattle.dr_model.specs.declared.state.Part.TheVariants.{Absent, Metro, Global}
use Rattle.dr_model.specs.declared.state.PairState.TheVariants.{CopyPending, FullDuplex}
use Rattle.dr_model.specs.Layout.{Tracks, Fields, is_part}
use Rattle.dr_model.specs.Relations.{all_tracks, is_bare}
use Rattle.dr_model.specs.declared.event.Event.{Event}
use Rattle.dr_model.specs.declared.event.Event.TheVariants.{Stopped}
use Rattle.dr_model.specs.Control.{Pending, Volume, Fuse, World, is_volume}
use Rattle.dr_model.specs.Pairs.{is_metro, is_full_duplex, is_torn, is_engaged, first_state, next_state, with_more, state_with, is_last}
use Rattle.dr_model.specs.Moves.{Move, Land, Overwrite, Restore, Store, Strike, Suspend, MakePrimary, DropPrimary, Resume, TakeOver, FallBack, Yield, Unsync, Mirror, LandBoth, Lift, Restart, Hold, Free as FreeMove, Finish, target, told, told_in_stop, settled, settled_in_stop, landed, is_write, is_other, marked, fields_left, keeps_staged, moved_keeping}
use Rattle.dr_model.specs.Entries.{fields_at}
use Rattle.dr_model.specs.Groups.{In}
use Rattle.dr_model.specs.Allowed.{Coming, Runs}
use Rattle.dr_model.specs.Laws.{AllPending, SoundRows, its_primary}
use Rattle.dr_model.specs.Table.{table}
use Rattle.dr_laws_closed.proofs.Pendings.{each-on}
use Rattle.dr_laws_freezes.specs.Windows.{is_ack}
use Rattle.dr_facts.proofs.Tables.{IsOrNot, at_cases, at_part}
use Rattle.dr_laws_sound.proofs.Turns.{next_of, carried_in, done, done_in_stop, not_done}
use Rattle.dr_laws_sound.proofs.RowsAfter.{changed}
use Rattle.dr_laws_freezes.proofs.WindowMoves.{MayCome, Unacked}
use Rattle.dr_laws_freezes.proofs.KeepsWindow.{unacked}
use Rattle.dr_facts.proofs.Emits.{acks_none, unacked-stop, each-told}
use Rattle.dr_laws_freezes.proofs.KeepsMirror.{still-unacked}
use Rattle.dr_laws_sound.proofs.KeepsRecorders.{none-written}
use Rattle.std.specs.List.{list_any}
use Rattle.dr_facts.proofs.Tracks.{empty_has, bare-has, not_removed_from}
use Rattle.dr_facts.proofs.Parts.{no-metro, metro-second}
use Rattle.dr_logic.proofs.Truth.{false_true}
use Rattle.dr_logic.proofs.Choices.{chosen}
use Rattle.dr_logic.proofs.Tables.{off_later}

abbrev pub is_synced : Fields → Bool
is_synced f = is_metro f.primary && is_full_duplex f.primary_state

-- nothing is out of sync
abbrev pub Clean : Fields → Type 0
Clean f = is_synced f ≡ true → (t : ℕ) → contains f.out_of_sync t ≡ false

-- a Metro Mirror primary takes part in no session, and records no change
pub record Free (f : Fields) : Type 0 where
  pub coordination : is_metro f.primary ≡ true → f.coordination ≡ false
  pub recording : is_metro f.primary ≡ true → f.recording ≡ false
  pub changes : is_metro f.primary ≡ true → (t : ℕ) → contains f.change_recording t ≡ false

-- what a move asks so that its volume stays clean
abbrev pub Gentle : Fields → Move → Type 0
Gentle f (Land n v t) = is_synced f ≡ false
Gentle f (Restore v t u) = is_synced f ≡ false
Gentle f (Strike v t last) = last ≡ is_last f t
Gentle f (MakePrimary v u kind state full) = state ≡ first_state kind full
Gentle f (Resume v state) = state ≡ next_state f
Gentle f (FallBack v more state) = state ≡ state_with more f
Gentle f (Unsync v t) = ⊥
Gentle f m = Unit {0}

-- write n on track t of v is pending, and hasn't landed
pub record Goes (w : World) (n v t : ℕ) : Type 0 where
  pub p : Pending
  pub number : p.w ≡ n
  pub here : In p w.control.pending
  pub coming : Coming v t p

-- What a move asks so that of each Full Duplex primary at most one track is out of sync, and its secondary is ahead there by a pending
-- write, or not at all: a track gets out of sync only where none is; what a secondary stores first is pending; and a primary gets a
-- secondary that gives up its own part only where nothing is out of sync.
abbrev pub LeavesOneOut : World → Move → Type 0
LeavesOneOut w (Unsync v t) = Clean (fields_at w.control v)
LeavesOneOut w (Mirror v t u n) = Goes w n u t
LeavesOneOut w (Yield v u kind state) = Clean (fields_at w.control u)
LeavesOneOut w m = Gentle (fields_at w.control (target m)) m

-- which state is Full Duplex
pub first-duplex : (kind : Part) (full : Bool) (n t : ℕ) → is_full_duplex (first_state kind full) ≡ true → contains (cond full (all_tracks n) empty) t ≡ false
first-duplex Absent full n t h = absurd cc
first-duplex Metro true n t h = absurd cc
first-duplex Metro false n t h = empty_has t
first-duplex Global full n t h = absurd cc

pub next-duplex : (f : Fields) → is_full_duplex (next_state f) ≡ true → is_bare f.out_of_sync ≡ true
next-duplex f h = by (is_metro f.primary) (is_bare f.out_of_sync) h
  where
    by : (a b : Bool) → is_full_duplex (cond (a && b) FullDuplex CopyPending) ≡ true → b ≡ true
    by true true h = refl
    by true false h = absurd cc
    by false b h = absurd cc

none-engaged : (f : Fields) → Free f → is_metro f.primary ≡ true → is_engaged f ≡ false
none-engaged f free metro = λ i. free.recording metro i || free.coordination metro i

-- what a void leaves recorded
none-changed : (b : Bool) (s : Tracks) → ((t : ℕ) → contains s t ≡ false) → (t : ℕ) → contains (cond b empty s) t ≡ false
none-changed true s none t = empty_has t
none-changed false s none t = none t

-- one that is held, or receives a track of its primary, isn't of Metro Mirror
abbrev pub Unheld : Fields → Move → Type 0
Unheld f (Hold v s n first) = is_metro f.primary ≡ false
Unheld f (Store v t u last) = is_metro f.primary ≡ false
Unheld f (Mirror v t u n) = is_metro f.primary ≡ false
Unheld f m = Unit {0}

-- since a secondary is no primary of Metro Mirror
second-plain : (w : World) → SoundRows (table w) → (v u : ℕ) → its_primary (table w v) ≡ Some u → is_metro (fields_at w.control v).primary ≡ false
second-plain w rows v u takes = false_from_ne_true (is_metro (fields_at w.control v).primary) (λ m. false_true (metro-second (table w v) (rows.parts.fit v) m) (chosen _ _ u takes).0)

pub unheld : (w : World) → SoundRows (table w) → (m : Move) → MayCome w m → Unheld (fields_at w.control (target m)) m
unheld w rows (Hold v s n first) may = no-metro (fields_at w.control v).primary may.allowed.global
unheld w rows (Store v t u last) may = second-plain w rows v u may.allowed.takes
unheld w rows (Mirror v t u n) may = second-plain w rows v u may.allowed.takes
unheld w rows m may = tt

-- a volume stays free and clean
pub free-left : (m : Move) (u : Volume) → Unheld u.fields m → Free u.fields → Free (fields_left m u)
free-left (Suspend v busy) u none free = record { coordination = λ h. refl; recording = λ h. refl; changes = λ h. none-changed (is_engaged u.fields) u.fields.change_recording (free.changes h) }
free-left (MakePrimary v b kind state full) u none free = record { coordination = λ h. refl; recording = λ h. refl; changes = λ h t. empty_has t }
free-left (DropPrimary v) u none free = record { coordination = λ h. refl; recording = λ h. refl; changes = λ h t. empty_has t }
free-left (TakeOver v) u none free = record { coordination = λ h. refl; recording = λ h. refl; changes = λ h t. empty_has t }
free-left (FallBack v more state) u none free = record { coordination = λ h. refl; recording = λ h. refl; changes = λ h. none-changed (is_engaged u.fields) u.fields.change_recording (free.changes h) }
free-left (Yield v a kind state) u none free = record { coordination = λ h. refl; recording = λ h. refl; changes = λ h t. empty_has t }
free-left (Restart v) u none free = record { coordination = λ h. refl; recording = λ h. refl; changes = λ h. none-changed (is_engaged u.fields) u.fields.change_recording (free.changes h) }
free-left (Lift v) u none free = record { coordination = λ h. refl; recording = λ h. by u.fields.coordination (free.recording h); changes = λ h. none-changed u.fields.coordination u.fields.change_recording (free.changes h) }
  where
    by : (b : Bool) → u.fields.recording ≡ false → cond b false u.fields.recording ≡ false
    by true h = refl
    by false h = h
free-left (Land n v t) u none free = record {
  coordination = free.coordination;
  recording = free.recording;
  changes = λ h. none-written (is_part u.fields.primary) u.fields.recording u.fields.change_recording t (free.recording h) (free.changes h);
}
free-left (Store v t a last) u none free = record {
  coordination = free.coordination;
  recording = free.recording;
  changes = λ h. none-written (is_part u.fields.primary) u.fields.recording u.fields.change_recording t (free.recording h) (free.changes h);
}
free-left (Mirror v t a n) u none free = record {
  coordination = free.coordination;
  recording = free.recording;
  changes = λ h. none-written (is_part u.fields.primary) u.fields.recording u.fields.change_recording t (free.recording h) (free.changes h);
}
free-left (Finish v n) u none free = record { coordination = λ h. refl; recording = λ h. refl; changes = λ h. none-changed (is_engaged u.fields) u.fields.change_recording (free.changes h) }
free-left (FreeMove v) u none free = record { coordination = λ h. refl; recording = free.recording; changes = free.changes }
free-left (Hold v s n first) u none free = record { coordination = λ h. false_true none h; recording = λ h. false_true none h; changes = λ h. false_true none h }
free-left m u none free = record { coordination = free.coordination; recording = free.recording; changes = free.changes }

pub clean-left : (m : Move) (u : Volume) → Gentle u.fields m → Unheld u.fields m → Free u.fields → Clean u.fields → Clean (fields_left m u)
clean-left (Land n v t) u gentle none free clean h q = false_true gentle h
clean-left (Restore v t x) u gentle none free clean h q = false_true gentle h
clean-left (Store v t x last) u gentle none free clean h q = false_true none (and_parts (is_metro u.fields.primary) _ h).0
clean-left (Mirror v t x n) u gentle none free clean h q = false_true none (and_parts (is_metro u.fields.primary) _ h).0
clean-left (Strike v t last) u gentle none free clean h q = by last gentle h
  where
    by : (last : Bool) → last ≡ is_last u.fields t → (is_metro u.fields.primary && is_full_duplex (cond last FullDuplex u.fields.primary_state)) ≡ true → contains (remove u.fields.out_of_sync t) q ≡ false
    by true is h = bare-has (remove u.fields.out_of_sync t) q (and_parts (is_metro u.fields.primary) _ (sym is)).1
    by false is h = not_removed_from u.fields.out_of_sync t q (clean h q)
clean-left (Suspend v busy) u gentle none free clean h q = let no : false ≡ true = (and_parts (is_metro u.fields.primary) false h).1 in absurd cc
clean-left (MakePrimary v b kind state full) u gentle none free clean h q = first-duplex kind full u.tracks q (ap is_full_duplex (sym gentle) ∙ (and_parts (is_metro kind) (is_full_duplex state) h).1)
clean-left (DropPrimary v) u gentle none free clean h q = absurd cc
clean-left (Resume v state) u gentle none free clean h q = bare-has u.fields.out_of_sync q (next-duplex u.fields (ap is_full_duplex (sym gentle) ∙ (and_parts (is_metro u.fields.primary) (is_full_duplex state) h).1))
clean-left (TakeOver v) u gentle none free clean h q = let no : false ≡ true = (and_parts (is_metro u.fields.secondary) false h).1 in absurd cc
clean-left (FallBack v more state) u gentle none free clean h q =
    let g : Fields = with_more more u.fields in
    bare-has g.out_of_sync q (next-duplex g (ap is_full_duplex (sym gentle) ∙ (and_parts (is_metro u.fields.primary) (is_full_duplex state) h).1))
clean-left (Yield v a kind state) u gentle none free clean h q = absurd cc
clean-left (Unsync v t) u gentle none free clean h q = absurd gentle
clean-left (LandBoth n v t) u gentle none free clean h q = not_removed_from u.fields.out_of_sync t q (clean h q)
clean-left (Lift v) u gentle none free clean h q =
    let f : Fields = u.fields in
    ap (λ b. contains (cond b (union f.out_of_sync f.change_recording) f.out_of_sync) q) (free.coordination (and_parts (is_metro f.primary) (is_full_duplex f.primary_state) h).0) ∙ clean h q
clean-left (Restart v) u gentle none free clean h q =
    let f : Fields = u.fields in
    let both = and_parts (is_metro f.primary) (is_full_duplex (cond (is_torn f) CopyPending f.primary_state)) h in
    ap (λ b. contains (cond b (union f.out_of_sync f.change_recording) f.out_of_sync) q) (none-engaged f free both.0) ∙ clean (and_from _ _ both.0 (by (is_torn f) both.1)) q
  where
    by : (b : Bool) → is_full_duplex (cond b CopyPending u.fields.primary_state) ≡ true → is_full_duplex u.fields.primary_state ≡ true
    by true h = absurd cc
    by false h = h
clean-left (Finish v n) u gentle none free clean h q =
    let f : Fields = u.fields in
    ap (λ b. contains (cond b (union f.out_of_sync f.change_recording) f.out_of_sync) q) (none-engaged f free (and_parts (is_metro f.primary) (is_full_duplex f.primary_state) h).0) ∙ clean h q
clean-left m u gentle none free clean h q = clean h q

-- no pending write is acknowledged, and none that wasn't issued
pub record Fresh (w : World) : Type 0 where
  pub unacked : AllPending (λ p. Unacked w p.w) w.control.pending
  pub later : (n : ℕ) → w.control.issued < n → Unacked w n

pub record FullDuplexInSync (w : World) : Type 0 where
  pub clean : (v : ℕ) → is_volume w.control v ≡ true → Runs w v → Clean (fields_at w.control v)
  pub free : (v : ℕ) → Free (fields_at w.control v)
  pub fresh : Fresh w

-- the acknowledgements that a move tells
abbrev LandsElse : Move → ℕ → Type 0
LandsElse (Land k v t) n = k ≢ n
LandsElse (Overwrite k v t) n = k ≢ n
LandsElse (LandBoth k v t) n = k ≢ n
LandsElse m n = Unit {0}

none-acked : (m : Move) (u : Volume) (n : ℕ) → LandsElse m n → list_any (is_ack n) (told m u) ≡ false
none-acked (Land k v t) u n ne = ap (λ b. b || false) (ne_eqb k n ne)
none-acked (Overwrite k v t) u n ne = ap (λ b. b || false) (ne_eqb k n ne)
none-acked (LandBoth k v t) u n ne = ap (λ b. b || false) (ne_eqb k n ne)
none-acked m u n ne = each-told acks_none _ (unacked acks_none refl n) m u refl

stop-acked : (m : Move) (u : Volume) (n s k : ℕ) → list_any (is_ack n) (told_in_stop m u ++ Stopped s k ∷ []) ≡ false
stop-acked m u n s k = unacked-stop _ (unacked acks_none refl n) m u (Stopped s k ∷ []) refl

pub all-other : (P : Pending → Type 0) (n : ℕ) (ps : List Pending) → AllPending P ps → AllPending (λ p. P p × (p.w ≢ n)) (filter (is_other n) ps)
all-other P n [] all = tt
all-other P n (p ∷ ps) all = by (eqb_tells p.w n) (all-other P n ps all.1)
  where
    by : IsOrNot p.w n → AllPending (λ p. P p × (p.w ≢ n)) (filter (is_other n) ps) → AllPending (λ p. P p × (p.w ≢ n)) (cond (not (nat_eq p.w n)) (p ∷ filter (is_other n) ps) (filter (is_other n) ps))
    by (inl is) more = subst (λ b. AllPending (λ p. P p × (p.w ≢ n)) (cond (not b) (p ∷ filter (is_other n) ps) (filter (is_other n) ps))) (sym is.0) more
    by (inr other) more = subst (λ b. AllPending (λ p. P p × (p.w ≢ n)) (cond (not b) (p ∷ filter (is_other n) ps) (filter (is_other n) ps))) (sym other.0) ((all.0, other.1), more)

all-marked : (P : ℕ → Type 0) (n : ℕ) (ps : List Pending) → AllPending (λ p. P p.w) ps → AllPending (λ p. P p.w) (marked n ps)
all-marked P n [] all = tt
all-marked P n (p ∷ ps) all = (by (is_write n p), all-marked P n ps all.1)
  where
    by : (b : Bool) → P (cond b (record p { landed = true }) p).w
    by true = all.0
    by false = all.0

-- events that acknowledge none of them
pub fresh-by : (w u : World) (es : List Event) → u.events ≡ w.events ++ es → u.control.issued ≡ w.control.issued → AllPending (λ p. Unacked w p.w × (list_any (is_ack p.w) es ≡ false)) u.control.pending
    → ((n : ℕ) → w.control.issued < n → list_any (is_ack n) es ≡ false) → Fresh w → Fresh u
fresh-by w u es events issued all later fresh = record {
  unacked = each-on (λ p a. told p.w a.0 a.1) u.control.pending all;
  later = λ n lt. let h : w.control.issued < n = subst (λ i. i < n) issued lt in told n (fresh.later n h) (later n h);
}
  where
    told : (n : ℕ) → Unacked w n → list_any (is_ack n) es ≡ false → Unacked u n
    told n a b = ap (list_any (is_ack n)) events ∙ still-unacked w.events es n a b

-- events that acknowledge nothing
pub fresh-told : (w u : World) (es : List Event) → u.events ≡ w.events ++ es → u.control.issued ≡ w.control.issued → AllPending (λ p. Unacked w p.w) u.control.pending → ((n : ℕ) → list_any (is_ack n) es ≡ false) → Fresh w → Fresh u
fresh-told w u es events issued all none fresh = fresh-by w u es events issued (each-on (λ p a. (a, none p.w)) u.control.pending all) (λ n lt. none n) fresh

pub above : (k i n : ℕ) → k < i + 1 → i < n → k ≢ n
above k i n lt gt e = absurd (let h : k ≡ n = e in omega arith)

lands-else : (w : World) (m : Move) (n : ℕ) → MayCome w m → w.control.issued < n → LandsElse m n
lands-else w (Land k v t) n may lt = above k w.control.issued n may.ready.number lt
lands-else w (Overwrite k v t) n may lt = above k w.control.issued n may.ready.number lt
lands-else w (LandBoth k v t) n may lt = above k w.control.issued n may.ready.number lt
lands-else w m n may lt = tt

settled-unacked : (w : World) (m : Move) → Fresh w → AllPending (λ p. Unacked w p.w × LandsElse m p.w) (settled m w.control.pending)
settled-unacked w (Land k v t) fresh = each-on (λ p a. (a.0, λ e. a.1 (sym e))) _ (all-other (λ p. Unacked w p.w) k w.control.pending fresh.unacked)
settled-unacked w (Overwrite k v t) fresh = each-on (λ p a. (a.0, λ e. a.1 (sym e))) _ (all-other (λ p. Unacked w p.w) k w.control.pending fresh.unacked)
settled-unacked w (LandBoth k v t) fresh = each-on (λ p a. (a.0, λ e. a.1 (sym e))) _ (all-other (λ p. Unacked w p.w) k w.control.pending fresh.unacked)
settled-unacked w m fresh = each-on (λ p a. (a, tt)) w.control.pending fresh.unacked

pub fresh-done : (w : World) (m : Move) (f : Option Fuse) → MayCome w m → Fresh w → Fresh (done w m f)
fresh-done w m f may fresh =
    let u : Volume = w.control.volume (target m) in
    fresh-by w (done w m f) (told m u) refl refl (each-on (λ p a. (a.0, none-acked m u p.w a.1)) (settled m w.control.pending) (settled-unacked w m fresh)) (λ n lt. none-acked m u n (lands-else w m n may lt)) fresh

stop-unacked : (w : World) (m : Move) → Fresh w → AllPending (λ p. Unacked w p.w) (settled_in_stop m w.control.pending)
stop-unacked w (Land k v t) fresh = all-marked (Unacked w) k w.control.pending fresh.unacked
stop-unacked w (Overwrite k v t) fresh = all-marked (Unacked w) k w.control.pending fresh.unacked
stop-unacked w (LandBoth k v t) fresh = all-marked (Unacked w) k w.control.pending fresh.unacked
stop-unacked w m fresh = fresh.unacked

pub fresh-stop : (w : World) (m : Move) (f : Option Fuse) → Fresh w → Fresh (done_in_stop w m f)
fresh-stop w m f fresh =
    let u : Volume = w.control.volume (target m) in
    fresh-told w (done_in_stop w m f) (told_in_stop m u ++ Stopped u.server (landed m) ∷ []) refl refl (stop-unacked w m fresh) (λ n. stop-acked m u n u.server (landed m)) fresh

module _ (w : World) (m : Move) (gentle : Gentle (fields_at w.control (target m)) m) (none : Unheld (fields_at w.control (target m)) m) (in_sync : FullDuplexInSync w) (on : ℕ → Bool) (fuse : ℕ → Option Fuse) (ps : List Pending) (es : List Event) (less : (j : ℕ) → on j ≡ true → w.control.on j ≡ true) where
  abbrev W : World
  W = changed w m on fuse ps es

  abbrev x : ℕ
  x = target m

  abbrev row : Volume
  row = moved_keeping (keeps_staged m) (w.control.volume x) (next_of w m) (carried_in w m)

  pub in_sync-changed : Fresh W → FullDuplexInSync W
  in_sync-changed fresh = record {
    clean = λ v there runs. at_cases (λ j (y : Volume). is_volume w.control j ≡ true → Runs w j → Clean y.fields) w.control.volume x row
        (λ d r. clean-left m (w.control.volume x) gentle none (in_sync.free x) (in_sync.clean x d r)) (λ j ne d r. in_sync.clean j d r) v there
        (sym (ap w.control.on (at_part (λ (y : Volume). y.server) w.control.volume x row refl v)) ∙ less _ runs);
    free = λ v. at_cases (λ j (y : Volume). Free y.fields) w.control.volume x row (free-left m (w.control.volume x) none (in_sync.free x)) (λ j ne. in_sync.free j) v;
    fresh = fresh;
  }

-- other worlds in which no volume changes, and no server starts
pub in_sync-same : (w u : World) → u.control.volume ≡ w.control.volume → u.control.volumes ≡ w.control.volumes → ((j : ℕ) → u.control.on j ≡ true → w.control.on j ≡ true) → Fresh u → FullDuplexInSync w → FullDuplexInSync u
in_sync-same w u volume volumes less fresh in_sync = record {
  clean = λ v there runs. subst (λ (y : Volume). Clean y.fields) (λ i. sym volume i v) (in_sync.clean v (sym (ap (λ vs. list_any (nat_eq v) vs) volumes) ∙ there) ((λ i. w.control.on (sym volume i v).server) ∙ less (u.control.volume v).server runs));
  free = λ v. subst (λ (y : Volume). Free y.fields) (λ i. sym volume i v) (in_sync.free v);
  fresh = fresh;
}

pub in_sync-done : (w : World) → SoundRows (table w) → (m : Move) (f : Option Fuse) → MayCome w m → Gentle (fields_at w.control (target m)) m → FullDuplexInSync w → FullDuplexInSync (done w m f)
in_sync-done w rows m f may gentle in_sync = in_sync-changed w m gentle (unheld w rows m may) in_sync (done w m f).control.on (done w m f).control.fuse (settled m w.control.pending) (done w m f).events (λ j h. h) (fresh-done w m f may in_sync.fresh)

pub in_sync-stop : (w : World) → SoundRows (table w) → (m : Move) (f : Option Fuse) → MayCome w m → Gentle (fields_at w.control (target m)) m → FullDuplexInSync w → FullDuplexInSync (done_in_stop w m f)
in_sync-stop w rows m f may gentle in_sync =
    in_sync-changed w m gentle (unheld w rows m may) in_sync (done_in_stop w m f).control.on (done_in_stop w m f).control.fuse (settled_in_stop m w.control.pending) (done_in_stop w m f).events (off_later w.control.on (w.control.volume (target m)).server) (fresh-stop w m f in_sync.fresh)

pub in_sync-not : (w : World) (s : ℕ) (f : Option Fuse) → FullDuplexInSync w → FullDuplexInSync (not_done w s f)
in_sync-not w s f in_sync = in_sync-same w (not_done w s f) refl refl (off_later w.control.on s) (fresh-told w (not_done w s f) (Stopped s 0 ∷ []) refl refl in_sync.fresh.unacked (λ n. refl) in_sync.fresh) in_sync
