-- Which kinds of events each kind of move, and each act, emits: one row a kind. What holds of each event of these kinds holds of all that
-- a move tells, also where the server stops in it.
use Rattle.std.proofs.Common.{ℕ, ◌≡◌, refl, ap, ◌∙◌, sym, subst, Bool, true, false, cond, ◌||◌, List, [], ◌∷◌, ◌++◌, map, Some, None}
use Rattle.std.proofs.lemmas.List.{append-nil, append_assoc}
use Rattle.std.specs.List.{list_any, flat_map, fold}
use Rattle.dr_model.specs.declared.event.Event.{Event}
use Rattle.dr_model.specs.declared.event.Event.TheVariants.{Volume as VolumeDefined, Issue, Ack, Copied, Set, Blanked, Restored, Back, Sent, Suspended, TakenOver, Mirrored, FlashHeld, FlashFreed, Begin, Cut, Sealed, Left, Flashed, Committed, Reverted, Frozen, Thawed, Recovered, Stopped, Answer}
use Rattle.dr_model.specs.Control.{Volume}
use Rattle.dr_model.specs.Layout.{Tracks}
use Rattle.dr_model.specs.Relations.{rest, in_order, is_bare, turned, given_up}
use Rattle.dr_model.specs.Pairs.{is_suspended}
use Rattle.dr_model.specs.Moves.{Move, Land, Overwrite, Keep, Relate, Withdraw, Fetch, Resync, Reverse, Restore, Release, Store, Suspend, TakeOver, LeavePrimary, Mirror, LandBoth, FlashHold, FlashFree, Lift, Hold, Seal, Leave, Flash, Commit, Revert, told, told_in_stop, told_blank, told_restored}
use Rattle.dr_model.specs.Carry.{Act, Make, OpenAttempt, Redo, Acknowledge, Drop, EndFreeze, EndThaw, EndRecovery}

-- kinds of events
pub data Tag : Type 0 where
  Defines : Tag
  Issues : Tag
  Acks : Tag
  Copies : Tag
  Sets : Tag
  Blanks : Tag
  Restores : Tag
  Backs : Tag
  Sends : Tag
  Suspends : Tag
  Takes : Tag
  Mirrors : Tag
  Holds : Tag
  Frees : Tag
  Begins : Tag
  Cuts : Tag
  Seals : Tag
  Leaves : Tag
  Flashes : Tag
  Commits : Tag
  Reverts : Tag
  Freezes : Tag
  Thaws : Tag
  Recovers : Tag
  Stops : Tag
  Answers : Tag
  Others : Tag

abbrev pub tag : Event → Tag
tag (VolumeDefined v server tracks) = Defines
tag (Issue n v t offset len bytes) = Issues
tag (Ack n) = Acks
tag (Copied v t) = Copies
tag (Set v s) = Sets
tag (Blanked v t) = Blanks
tag (Restored s v) = Restores
tag (Back v t u) = Backs
tag (Sent v t u) = Sends
tag (Suspended v) = Suspends
tag (TakenOver v) = Takes
tag (Mirrored n v) = Mirrors
tag (FlashHeld v) = Holds
tag (FlashFreed v) = Frees
tag (Begin s n) = Begins
tag (Cut s n v) = Cuts
tag (Sealed s n v) = Seals
tag (Left s v) = Leaves
tag (Flashed s n a b c) = Flashes
tag (Committed s n a c) = Commits
tag (Reverted s n a c) = Reverts
tag (Frozen l m) = Freezes
tag (Thawed l m) = Thaws
tag (Recovered s n) = Recovers
tag (Stopped s n) = Stops
tag (Answer line kind a b c) = Answers
tag _ = Others

-- events of some kinds
abbrev pub Of : (Tag → Bool) → Event → Type 0
Of p e = p (tag e) ≡ true

-- all of these kinds are such
abbrev pub all_tags : (Tag → Bool) → List Tag → Bool
all_tags p [] = true
all_tags p (k ∷ ks) = cond (p k) (all_tags p ks) false

-- the kinds of events that a kind of move emits
abbrev pub emits : Move → List Tag
emits (Land n v t) = Acks ∷ []
emits (Overwrite n v t) = Acks ∷ []
emits (Keep v t) = Copies ∷ []
emits (Relate v s choices) = Sets ∷ []
emits (Withdraw v) = Blanks ∷ []
emits (Fetch v t) = Copies ∷ []
emits (Resync v sequence) = Sets ∷ []
emits (Reverse v left) = Leaves ∷ Blanks ∷ Restores ∷ []
emits (Restore v t u) = Backs ∷ []
emits (Release v t) = Blanks ∷ Restores ∷ []
emits (Store v t u last) = Sends ∷ []
emits (Suspend v busy) = Suspends ∷ []
emits (TakeOver v) = Takes ∷ []
emits (LeavePrimary v) = Takes ∷ []
emits (Mirror v t u n) = Mirrors ∷ []
emits (LandBoth n v t) = Acks ∷ []
emits (FlashHold v) = Holds ∷ []
emits (FlashFree v) = Frees ∷ []
emits (Lift v) = Frees ∷ []
emits (Hold v s n first) = Begins ∷ Cuts ∷ []
emits (Seal v a s n) = Seals ∷ []
emits (Leave v a s) = Leaves ∷ []
emits (Flash v b a s n) = Flashes ∷ []
emits (Commit v a s n) = Commits ∷ []
emits (Revert v a s n) = Reverts ∷ []
emits _ = []

-- and those that an act emits, but for a stop in it
abbrev pub act_emits : Act → List Tag
act_emits (Make m) = emits m
act_emits (OpenAttempt v s n) = Begins ∷ Cuts ∷ []
act_emits (Redo v) = []
act_emits (Acknowledge n) = Acks ∷ []
act_emits (Drop n) = []
act_emits (EndFreeze l m) = Freezes ∷ []
act_emits (EndThaw l m) = Thaws ∷ []
act_emits (EndRecovery s n) = Recovers ∷ []

pub first-tag : (p : Tag → Bool) (k : Tag) (ks : List Tag) → all_tags p (k ∷ ks) ≡ true → p k ≡ true
first-tag p k ks h = by (p k) h
  where
    by : (b : Bool) → cond b (all_tags p ks) false ≡ true → b ≡ true
    by true h = refl
    by false h = absurd cc

pub rest-tags : (p : Tag → Bool) (k : Tag) (ks : List Tag) → all_tags p (k ∷ ks) ≡ true → all_tags p ks ≡ true
rest-tags p k ks h = by (p k) h
  where
    by : (b : Bool) → cond b (all_tags p ks) false ≡ true → all_tags p ks ≡ true
    by true h = h
    by false h = absurd cc

-- ---- lists of events

-- what holds of a list of events, event by event
pub record Lists (P : Event → Type 0) (L : List Event → Type 0) : Type 0 where
  pub none : L []
  pub more : (e : Event) (es : List Event) → P e → L es → L (e ∷ es)

-- each event of a list is such
abbrev pub AllOf : (Event → Type 0) → List Event → Type 0
AllOf P [] = Unit {0}
AllOf P (e ∷ es) = P e × AllOf P es

pub of-append : (P : Event → Type 0) (es fs : List Event) → AllOf P es → AllOf P fs → AllOf P (es ++ fs)
of-append P [] fs a b = b
of-append P (e ∷ es) fs a b = (a.0, of-append P es fs a.1 b)

-- the forms in which laws say so: no event of some kind, each one passed over by a fold, or by a map to lists
pub any-lists : (P : Event → Type 0) (f : Event → Bool) → ((e : Event) → P e → f e ≡ false) → Lists P (λ es. list_any f es ≡ false)
any-lists P f none = record { none = refl; more = λ e es h behind. ap (λ b. b || list_any f es) (none e h) ∙ behind }

pub map-lists : (P : Event → Type 0) {X : Type 0} (f : Event → List X) → ((e : Event) → P e → f e ≡ []) → Lists P (λ es. flat_map f es ≡ [])
map-lists P f none = record { none = refl; more = λ e es h behind. ap (λ xs. xs ++ flat_map f es) (none e h) ∙ behind }

pub fold-lists : (P : Event → Type 0) {X : Type 0} (f : X → Event → X) → ((x : X) (e : Event) → P e → f x e ≡ x) → Lists P (λ es. (x : X) → fold f x es ≡ x)
fold-lists P f stays = record { none = λ x. refl; more = λ e es h behind x. behind (f x e) ∙ stays x e h }

module _ (P : Event → Type 0) (L : List Event → Type 0) (lists : Lists P L) where
  pub of-all : (es : List Event) → AllOf P es → L es
  of-all [] all = lists.none
  of-all (e ∷ es) all = lists.more e es all.0 (of-all es all.1)

  -- ---- what moves tell in several events, and others after it

  pub blanked-onto : (v : ℕ) (ts : List ℕ) (es : List Event) → ((t : ℕ) → P (Blanked v t)) → L es → L (map (Blanked v) ts ++ es)
  blanked-onto v [] es blank behind = behind
  blanked-onto v (t ∷ ts) es blank behind = lists.more (Blanked v t) _ (blank t) (blanked-onto v ts es blank behind)

  pub restored-onto : (v s n : ℕ) (own : Tracks) (es : List Event) → ((t : ℕ) → P (Blanked v t)) → P (Restored s v) → L es → L (told_restored v s n own ++ es)
  restored-onto v s n own es blank restored behind = by (is_bare own)
    where
      by : (b : Bool) → L (cond b (told_blank v n own ++ Restored s v ∷ []) [] ++ es)
      by true = subst L (sym (append_assoc (told_blank v n own) (Restored s v ∷ []) es)) (blanked-onto v (in_order n (rest n own)) (Restored s v ∷ es) blank (lists.more (Restored s v) es restored behind))
      by false = behind

module _ (p : Tag → Bool) (L : List Event → Type 0) (lists : Lists (Of p) L) where
  -- events that are known
  known : (ks es : List Event) → all_tags p (map tag ks) ≡ true → L es → L (ks ++ es)
  known [] es h behind = behind
  known (k ∷ ks) es h behind = lists.more k (ks ++ es) (first-tag p (tag k) (map tag ks) h) (known ks es (rest-tags p (tag k) (map tag ks) h) behind)

  -- none of these, or they
  known-if : (b : Bool) (ks es : List Event) → all_tags p (map tag ks) ≡ true → L es → L (cond b ks [] ++ es)
  known-if true ks es h behind = known ks es h behind
  known-if false ks es h behind = behind

  suspended-onto : (none : Bool) (v : ℕ) (es : List Event) → p Suspends ≡ true → L es → L (cond none [] (Suspended v ∷ []) ++ es)
  suspended-onto true v es h behind = behind
  suspended-onto false v es h behind = lists.more (Suspended v) es h behind

  held-onto : (first : Bool) (v s n : ℕ) (es : List Event) → all_tags p (Begins ∷ Cuts ∷ []) ≡ true → L es → L (cond first (Begin s n ∷ Cut s n v ∷ []) (Cut s n v ∷ []) ++ es)
  held-onto true v s n es h behind = known (Begin s n ∷ Cut s n v ∷ []) es h behind
  held-onto false v s n es h behind = known (Cut s n v ∷ []) es (rest-tags p Begins (Cuts ∷ []) h) behind

  ended : (v s n : ℕ) (own : Tracks) (es : List Event) → all_tags p (Blanks ∷ Restores ∷ []) ≡ true → L es → L (told_restored v s n own ++ es)
  ended v s n own es h behind =
      restored-onto (Of p) L lists v s n own es (λ t. first-tag p Blanks (Restores ∷ []) h) (first-tag p Restores [] (rest-tags p Blanks (Restores ∷ []) h)) behind

  -- what a move tells, and other events after it
  pub told-onto : (m : Move) (u : Volume) (es : List Event) → all_tags p (emits m) ≡ true → L es → L (told m u ++ es)
  told-onto (Withdraw v) u es h behind = blanked-onto (Of p) L lists v (in_order u.tracks (rest u.tracks u.fields.own)) es (λ t. first-tag p Blanks [] h) behind
  told-onto (Reverse v None) u es h behind = ended v u.fields.source u.tracks (turned u.fields).own es (rest-tags p Leaves (Blanks ∷ Restores ∷ []) h) behind
  told-onto (Reverse v (Some a)) u es h behind =
      lists.more _ _ (first-tag p Leaves (Blanks ∷ Restores ∷ []) h) (ended v u.fields.source u.tracks (turned u.fields).own es (rest-tags p Leaves (Blanks ∷ Restores ∷ []) h) behind)
  told-onto (Release v t) u es h behind = ended v u.fields.source u.tracks (given_up u.fields t).own es h behind
  told-onto (Suspend v busy) u es h behind = suspended-onto (is_suspended u.fields.primary_state) v es (first-tag p Suspends [] h) behind
  told-onto (Lift v) u es h behind = known-if u.fields.flash_hold (FlashFreed v ∷ []) es h behind
  told-onto (Hold v s n first) u es h behind = held-onto first v s n es h behind
  told-onto m u es h behind = known (told m u) es h behind

  -- and what it tells where its server stops
  pub stop-onto : (m : Move) (u : Volume) (es : List Event) → all_tags p (emits m) ≡ true → L es → L (told_in_stop m u ++ es)
  stop-onto (Land n v t) u es h behind = behind
  stop-onto (Overwrite n v t) u es h behind = behind
  stop-onto (LandBoth n v t) u es h behind = behind
  stop-onto m u es h behind = told-onto m u es h behind

  pub each-told : (m : Move) (u : Volume) → all_tags p (emits m) ≡ true → L (told m u)
  each-told m u h = subst L (append-nil (told m u)) (told-onto m u [] h lists.none)

  pub each-stop : (m : Move) (u : Volume) → all_tags p (emits m) ≡ true → L (told_in_stop m u)
  each-stop m u h = subst L (append-nil (told_in_stop m u)) (stop-onto m u [] h lists.none)

-- the end of a restore that a reversal tells, where it takes no volume out of a session
pub each-ended : (p : Tag → Bool) (L : List Event → Type 0) → Lists (Of p) L → (v : ℕ) (u : Volume) → all_tags p (Blanks ∷ Restores ∷ []) ≡ true → L (told (Reverse v None) u)
each-ended p L lists v u h = subst L (append-nil (told (Reverse v None) u)) (ended p L lists v u.fields.source u.tracks (turned u.fields).own [] h lists.none)

-- ---- what any move emits

-- kinds of events that some move emits
abbrev pub by_moves : Tag → Bool
by_moves Defines = false
by_moves Issues = false
by_moves Freezes = false
by_moves Thaws = false
by_moves Recovers = false
by_moves Stops = false
by_moves Answers = false
by_moves Others = false
by_moves k = true

pub emitted : (m : Move) → all_tags by_moves (emits m) ≡ true
emitted (Land n v t) = refl
emitted m = refl

module _ (L : List Event → Type 0) (lists : Lists (Of by_moves) L) where
  pub all-told : (m : Move) (u : Volume) → L (told m u)
  all-told m u = each-told by_moves L lists m u (emitted m)

  pub all-stop : (m : Move) (u : Volume) → L (told_in_stop m u)
  all-stop m u = each-stop by_moves L lists m u (emitted m)

-- ---- a stop acknowledges nothing

abbrev pub acks_none : Tag → Bool
acks_none Acks = false
acks_none k = true

pub unacked-stop : (L : List Event → Type 0) → Lists (Of acks_none) L → (m : Move) (u : Volume) (es : List Event) → L es → L (told_in_stop m u ++ es)
unacked-stop L lists (Land n v t) u es behind = behind
unacked-stop L lists (Overwrite n v t) u es behind = behind
unacked-stop L lists (LandBoth n v t) u es behind = behind
unacked-stop L lists m u es behind = told-onto acks_none L lists m u es refl behind
