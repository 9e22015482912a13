-- What is found and changed at a place of the map is found and changed in the list of sessions.
use Rattle.std.proofs.Common.{◌≡◌, ℕ, zero, suc, ◌+◌, ◌<◌, Bool, true, false, cond, ◌&&◌, ◌||◌, List, [], ◌∷◌, ◌++◌, length, map, take, drop, get_or, slice_get, remove, option_map, Option, None, Some, IfSome, IfNone, Result, Ok, Err, OnOk, OnErr, IfOk, refl, sym, ◌∙◌, ap, subst, arith, add-one, eqb, ◌==◌}
use Rattle.std.specs.List.{find, list_any, position, AllByRecursion, IsDistinct}
use Rattle.std.specs.Option.{is_some}
use Rattle.std.proofs.lemmas.List.{map-append, length-map}
use Rattle.std.proofs.lemmas.Grind.{common_steps}
use Rattle.std.proofs.lemmas.List.Quantifiers.{position-Some}
use Rattle.std.proofs.lemmas.Bool.{false≢true, eqb-true, eq-eqb, and_parts}
use Rattle.std.proofs.lemmas.Bool.Decides.{nat_tests}
use Rattle.std.specs.declared.alloc.AllocError.{AllocError}
use Rattle.std.specs.Map.{lookup}
use Rattle.std.proofs.lemmas.Option.{same_Some}
use Rattle.indexmap.specs.IndexMap.{set_value_at}
use Rattle.dr_model.specs.Sessions.{Session, session_in, changed, without_session, is_only, left, leaves, left_by, joined, joins, joined_by}
use Rattle.dr_session.specs.Kept.{KeptSession, SessionTable}
use Rattle.dr_session.specs.Places.{sessions_in, has_room, table_of, is_keyed, StandsAt}
use Rattle.dr_logic.proofs.Lists.{cons-parts}

abbrev pub Entries : Type 0
Entries = List (ℕ × KeptSession)

abbrev pub keys_of : Entries → List ℕ
keys_of es = map (λ (e : ℕ × KeptSession). e.0) es

abbrev pub values_of : Entries → List KeptSession
values_of es = map (λ (e : ℕ × KeptSession). e.1) es

cons-nil : {X : Type 0} {x : X} {xs : List X} → x ∷ xs ≡ [] → ⊥
cons-nil h = cc

take_all : {X : Type 0} (xs : List X) (n : ℕ) → length xs ≡ n → take n xs ≡ xs
take_all xs n long = grind (arith, common_steps)

none-some : {X : Type 0} {x : X} → None ≡ Some x → ⊥
none-some h = cc

-- a key that is the number's
same_number : (n k s : ℕ) → (n == k) ≡ true → eqb s k ≡ true → (n == s) ≡ true
same_number n k s keyed passes = eq-eqb n s (eqb-true n k keyed ∙ sym (eqb-true s k passes))

other_number : (n k s : ℕ) → (n == k) ≡ true → eqb s k ≡ false → (n == s) ≡ false
other_number n k s keyed fails = let e : n ≡ k = eqb-true n k keyed in grind (arith, nat_tests)

place-by_tests : (s i : ℕ) (es : Entries) → is_keyed es ≡ true → ((k : ℕ) → k < i → eqb s (get_or (keys_of es) k 0) ≡ false) → i < length (keys_of es) → eqb s (get_or (keys_of es) i 0) ≡ true → StandsAt s i es
place-by_tests s i [] keyed before within here = absurd (omega arith)
place-by_tests s zero (e ∷ es) keyed before within here = same_number e.1.session.number e.0 s (and_parts (e.1.session.number == e.0) (is_keyed es) keyed).0 here
place-by_tests s (suc i) (e ∷ es) keyed before within here =
    let parts = and_parts (e.1.session.number == e.0) (is_keyed es) keyed in (
      other_number e.1.session.number e.0 s parts.0 (before 0 (omega arith)),
      place-by_tests s i es parts.1 (λ k low. before (suc k) (omega arith)) (omega arith) here,
    )

pub place-from_position : (s : ℕ) (es : Entries) (r : Option ℕ) → is_keyed es ≡ true → r ≡ position (eqb s) (keys_of es) → IfSome r (λ i. StandsAt s i es)
place-from_position s es None keyed is = tt
place-from_position s es (Some i) keyed is =
    let at = position-Some (eqb s) (keys_of es) i 0 (sym is) in
    place-by_tests s i es keyed at.2 at.0 at.1

absent : (s : ℕ) (es : Entries) → is_keyed es ≡ true → is_some (lookup (eqb s) es) ≡ false → session_in (sessions_in es) s ≡ None
absent s [] keyed none = refl
absent s (e ∷ es) keyed none =
    let parts = and_parts (e.1.session.number == e.0) (is_keyed es) keyed in
    elim (eqb s e.0) as (λ b. eqb s e.0 ≡ b → is_some (cond b (Some e.1) (lookup (eqb s) es)) ≡ false → session_in (sessions_in (e ∷ es)) s ≡ None) [
      | true ↦ λ passes out. absurd (false≢true (sym out))
      | false ↦ λ fails out.
          ap (λ b. cond b (Some e.1.session) (session_in (sessions_in es) s)) (other_number e.1.session.number e.0 s parts.0 fails)
          ∙ absent s es parts.1 out
    ] refl none

pub absent-from_lookup : (s : ℕ) (es : Entries) (r : Option ℕ) → is_keyed es ≡ true → is_some r ≡ is_some (lookup (eqb s) es) → IfNone r (session_in (sessions_in es) s ≡ None)
absent-from_lookup s es None keyed is = absent s es keyed (sym is)
absent-from_lookup s es (Some i) keyed is = tt

-- the session at its place
pub found-at : (s i : ℕ) (es : Entries) (v : KeptSession) → StandsAt s i es → slice_get (values_of es) i ≡ Some v → session_in (sessions_in es) s ≡ Some v.session
found-at s i [] v place at = absurd place
found-at s zero (e ∷ es) v place at =
    ap (λ b. cond b (Some e.1.session) (session_in (sessions_in es) s)) place ∙ ap (λ (k : KeptSession). Some k.session) (same_Some e.1 v at)
found-at s (suc i) (e ∷ es) v place at =
    ap (λ b. cond b (Some e.1.session) (session_in (sessions_in es) s)) place.0 ∙ found-at s i es v place.1 at

-- the keys are apart, and so the session at a place is the first of its number
all-at : (P : ℕ → Type 0) (i : ℕ) (es : Entries) (v : KeptSession) → is_keyed es ≡ true → AllByRecursion P (keys_of es) → slice_get (values_of es) i ≡ Some v → P v.session.number
all-at P i [] v keyed all at = absurd (none-some at)
all-at P zero (e ∷ es) v keyed all at =
    let named : e.1.session.number ≡ e.0 = eqb-true e.1.session.number e.0 (and_parts (e.1.session.number == e.0) (is_keyed es) keyed).0 in
    subst P (sym named ∙ ap (λ (k : KeptSession). k.session.number) (same_Some e.1 v at)) all.0
all-at P (suc i) (e ∷ es) v keyed all at = all-at P i es v (and_parts (e.1.session.number == e.0) (is_keyed es) keyed).1 all.1 at

own-place : (i : ℕ) (es : Entries) (v : KeptSession) → is_keyed es ≡ true → IsDistinct eqb (keys_of es) → slice_get (values_of es) i ≡ Some v → StandsAt v.session.number i es
unfolding IsDistinct
own-place i [] v keyed apart at = absurd (none-some at)
own-place zero (e ∷ es) v keyed apart at = eq-eqb e.1.session.number v.session.number (ap (λ (k : KeptSession). k.session.number) (same_Some e.1 v at))
own-place (suc i) (e ∷ es) v keyed apart at =
    let parts = and_parts (e.1.session.number == e.0) (is_keyed es) keyed in (
      ap (λ n. n == v.session.number) (eqb-true e.1.session.number e.0 parts.0) ∙ all-at (λ n. eqb e.0 n ≡ false) i es v parts.1 apart.0 at,
      own-place i es v parts.1 apart.1 at,
    )

-- and none before it has that number
first-at : (s i : ℕ) (es : Entries) → StandsAt s i es → list_any (λ (x : Session). x.number == s) (take i (sessions_in es)) ≡ false
first-at s i [] place = absurd place
first-at s zero (e ∷ es) place = refl
first-at s (suc i) (e ∷ es) place = λ j. place.0 j || first-at s i es place.1 j

session-at : (i : ℕ) (es : Entries) (v : KeptSession) → slice_get (values_of es) i ≡ Some v → slice_get (sessions_in es) i ≡ Some v.session
session-at i [] v at = absurd (none-some at)
session-at zero (e ∷ es) v at = ap (option_map (λ (k : KeptSession). k.session)) at
session-at (suc i) (e ∷ es) v at = session-at i es v at

-- a change at its place is one of the session
pub changed-at : (s i : ℕ) (es : Entries) (v w : KeptSession) (f : Session → Session) → StandsAt s i es → slice_get (values_of es) i ≡ Some v → w.session ≡ f v.session → sessions_in (set_value_at es i w) ≡ changed s f (sessions_in es)
unfolding changed
changed-at s i [] v w f place at is = absurd place
changed-at s zero (e ∷ es) v w f place at is =
    ap (λ x. x ∷ sessions_in es) (is ∙ ap (λ (k : KeptSession). f k.session) (sym (same_Some e.1 v at)))
    ∙ sym (ap (λ b. cond b (f e.1.session ∷ sessions_in es) (e.1.session ∷ changed s f (sessions_in es))) place)
changed-at s (suc i) (e ∷ es) v w f place at is =
    ap (λ xs. e.1.session ∷ xs) (changed-at s i es v w f place.1 at is)
    ∙ sym (ap (λ b. cond b (f e.1.session ∷ sessions_in es) (e.1.session ∷ changed s f (sessions_in es))) place.0)

pub room-at : (i : ℕ) (es : Entries) (v w : KeptSession) → slice_get (values_of es) i ≡ Some v → w.room ≡ v.room → has_room (set_value_at es i w) ≡ has_room es
room-at i [] v w at is = refl
room-at zero (e ∷ es) v w at is = ap (λ b. b && has_room es) (is ∙ ap (λ (k : KeptSession). k.room) (sym (same_Some e.1 v at)))
room-at (suc i) (e ∷ es) v w at is = ap (λ b. e.1.room && b) (room-at i es v w at is)

pub keyed-at : (i : ℕ) (es : Entries) (v w : KeptSession) → slice_get (values_of es) i ≡ Some v → w.session.number ≡ v.session.number → is_keyed (set_value_at es i w) ≡ is_keyed es
keyed-at i [] v w at is = refl
keyed-at zero (e ∷ es) v w at is = ap (λ n. (n == e.0) && is_keyed es) (is ∙ ap (λ (k : KeptSession). k.session.number) (sym (same_Some e.1 v at)))
keyed-at (suc i) (e ∷ es) v w at is = ap (λ b. (e.1.session.number == e.0) && b) (keyed-at i es v w at is)

pub same-at : (i : ℕ) (es : Entries) (v : KeptSession) → slice_get (values_of es) i ≡ Some v → set_value_at es i v ≡ es
same-at i [] v at = refl
same-at zero (e ∷ es) v at = ap (λ (k : KeptSession). (e.0, k) ∷ es) (sym (same_Some e.1 v at))
same-at (suc i) (e ∷ es) v at = ap (λ xs. e ∷ xs) (same-at i es v at)

-- ---- the same for the table that contracts see

pub found-in : (es : Entries) (t : SessionTable) (s i : ℕ) (v : KeptSession) → table_of es ≡ t → StandsAt s i es → slice_get (values_of es) i ≡ Some v → session_in t.sessions s ≡ Some v.session
found-in es t s i v view place at = sym (ap (λ (u : SessionTable). session_in u.sessions s) view) ∙ found-at s i es v place at

pub none-in : (es : Entries) (t : SessionTable) (s : ℕ) → table_of es ≡ t → session_in (sessions_in es) s ≡ None → session_in t.sessions s ≡ None
none-in es t s view none = sym (ap (λ (u : SessionTable). session_in u.sessions s) view) ∙ none

pub changed-sessions : (es : Entries) (t : SessionTable) (s i : ℕ) (v w : KeptSession) (f : Session → Session) → table_of es ≡ t → StandsAt s i es → slice_get (values_of es) i ≡ Some v → w.session ≡ f v.session → sessions_in (set_value_at es i w) ≡ changed s f t.sessions
changed-sessions es t s i v w f view place at is = changed-at s i es v w f place at is ∙ ap (λ (u : SessionTable). changed s f u.sessions) view

pub changed-table : (es : Entries) (t : SessionTable) (s i : ℕ) (v w : KeptSession) (f : Session → Session) → table_of es ≡ t → StandsAt s i es → slice_get (values_of es) i ≡ Some v → w ≡ record v { session = f v.session } → table_of (set_value_at es i w) ≡ record t { sessions = changed s f t.sessions }
changed-table es t s i v w f view place at is =
    let sessions = changed-sessions es t s i v w f view place at (ap (λ (k : KeptSession). k.session) is) in
    let room : has_room (set_value_at es i w) ≡ t.room = room-at i es v w at (ap (λ (k : KeptSession). k.room) is) ∙ ap (λ (u : SessionTable). u.room) view in
    λ j. record { sessions = sessions j; room = room j }

-- where the value is as it was, so is the table
pub same-table : (es : Entries) (t : SessionTable) (i : ℕ) (v w : KeptSession) → table_of es ≡ t → slice_get (values_of es) i ≡ Some v → w ≡ v → table_of (set_value_at es i w) ≡ t
same-table es t i v w view at is = ap (λ k. table_of (set_value_at es i k)) is ∙ (ap table_of (same-at i es v at) ∙ view)

pub stays-keyed : (es : Entries) (i : ℕ) (v w : KeptSession) → is_keyed es ≡ true → slice_get (values_of es) i ≡ Some v → w.session.number ≡ v.session.number → is_keyed (set_value_at es i w) ≡ true
stays-keyed es i v w keyed at is = keyed-at i es v w at is ∙ keyed

-- the session at a place, and that it is the one of its number
pub seat-in : (es : Entries) (t : SessionTable) (i : ℕ) (v : KeptSession) → table_of es ≡ t → slice_get (values_of es) i ≡ Some v → slice_get t.sessions i ≡ Some v.session
seat-in es t i v view at = sym (ap (λ (u : SessionTable). slice_get u.sessions i) view) ∙ session-at i es v at

pub own-in : (es : Entries) (t : SessionTable) (i : ℕ) (v : KeptSession) → table_of es ≡ t → is_keyed es ≡ true → IsDistinct eqb (keys_of es) → slice_get (values_of es) i ≡ Some v → session_in t.sessions v.session.number ≡ slice_get t.sessions i
own-in es t i v view keyed apart at = found-in es t v.session.number i v view (own-place i es v keyed apart at) at ∙ sym (seat-in es t i v view at)

pub first-in : (es : Entries) (t : SessionTable) (i : ℕ) (v : KeptSession) → table_of es ≡ t → is_keyed es ≡ true → IsDistinct eqb (keys_of es) → slice_get (values_of es) i ≡ Some v → list_any (λ (x : Session). x.number == v.session.number) (take i t.sessions) ≡ false
first-in es t i v view keyed apart at = ap (λ (u : SessionTable). list_any (λ (x : Session). x.number == v.session.number) (take i u.sessions)) (sym view) ∙ first-at v.session.number i es (own-place i es v keyed apart at)

-- ---- where the session isn't there

changed-absent : (s : ℕ) (f : Session → Session) (xs : List Session) → session_in xs s ≡ None → changed s f xs ≡ xs
unfolding changed
changed-absent s f [] none = refl
changed-absent s f (x ∷ xs) none =
    elim (x.number == s) as (λ b. cond b (Some x) (session_in xs s) ≡ None → cond b (f x ∷ xs) (x ∷ changed s f xs) ≡ x ∷ xs) [
      | true ↦ λ out. cc
      | false ↦ λ out. ap (λ ys. x ∷ ys) (changed-absent s f xs out)
    ] none

pub absent-table : (es : Entries) (t : SessionTable) (s : ℕ) (f : Session → Session) → table_of es ≡ t → session_in (sessions_in es) s ≡ None → t ≡ record t { sessions = changed s f t.sessions }
absent-table es t s f view none = λ i. record t { sessions = sym (changed-absent s f t.sessions (none-in es t s view none)) i }

pub absent-sessions : (t : SessionTable) (s : ℕ) (f : Session → Session) → session_in t.sessions s ≡ None → t.sessions ≡ changed s f t.sessions
absent-sessions t s f none = sym (changed-absent s f t.sessions none)

-- ---- clauses from one result to another

pub on-ok : {T E P Q : Type 0} (r : Result T E) → (P → Q) → OnOk r P → OnOk r Q
on-ok (Ok x) f h = f h
on-ok (Err e) f h = h

pub on-err : {T E P Q : Type 0} (r : Result T E) → (P → Q) → OnErr r P → OnErr r Q
on-err (Ok x) f h = h
on-err (Err e) f h = f h

pub if-ok : {T E : Type 0} (P Q : T → Type 0) (r : Result T E) → ((x : T) → P x → Q x) → IfOk r P → IfOk r Q
if-ok P Q (Ok x) f h = f x h
if-ok P Q (Err e) f h = h

-- ---- the map's own look-up

lookup-session : (s : ℕ) (es : Entries) → is_keyed es ≡ true → option_map (λ (k : KeptSession). k.session) (lookup (eqb s) es) ≡ session_in (sessions_in es) s
lookup-session s [] keyed = refl
lookup-session s (e ∷ es) keyed =
    let parts = and_parts (e.1.session.number == e.0) (is_keyed es) keyed in
    elim (eqb s e.0) as (λ b. eqb s e.0 ≡ b → option_map (λ (k : KeptSession). k.session) (cond b (Some e.1) (lookup (eqb s) es)) ≡ session_in (sessions_in (e ∷ es)) s) [
      | true ↦ λ passes. sym (ap (λ b. cond b (Some e.1.session) (session_in (sessions_in es) s)) (same_number e.1.session.number e.0 s parts.0 passes))
      | false ↦ λ fails.
          lookup-session s es parts.1
          ∙ sym (ap (λ b. cond b (Some e.1.session) (session_in (sessions_in es) s)) (other_number e.1.session.number e.0 s parts.0 fails))
    ] refl

none-of_map : {X Y : Type 0} (f : X → Y) (r : Option X) → option_map f r ≡ None → r ≡ None
none-of_map f None h = refl
none-of_map f (Some x) h = absurd cc

pub lookup-absent : (s : ℕ) (es : Entries) (t : SessionTable) → is_keyed es ≡ true → table_of es ≡ t → session_in t.sessions s ≡ None → lookup (eqb s) es ≡ None
lookup-absent s es t keyed view none =
    none-of_map (λ (k : KeptSession). k.session) (lookup (eqb s) es) (lookup-session s es keyed ∙ (ap (λ (u : SessionTable). session_in u.sessions s) view ∙ none))

-- ---- a session more, a session less

pub sessions-push : (es : Entries) (k : ℕ) (v : KeptSession) → sessions_in (es ++ (k, v) ∷ []) ≡ sessions_in es ++ v.session ∷ []
sessions-push es k v = map-append (λ (e : ℕ × KeptSession). e.1.session) es ((k, v) ∷ [])

pub keyed-push : (es : Entries) (k : ℕ) (v : KeptSession) → is_keyed es ≡ true → v.session.number ≡ k → is_keyed (es ++ (k, v) ∷ []) ≡ true
keyed-push [] k v keyed named = ap (λ b. b && true) (eq-eqb v.session.number k named)
keyed-push (e ∷ es) k v keyed named =
    let parts = and_parts (e.1.session.number == e.0) (is_keyed es) keyed in λ i. parts.0 i && keyed-push es k v parts.1 named i

gone-at : (s i : ℕ) (es : Entries) → StandsAt s i es → sessions_in (remove es i) ≡ without_session s (sessions_in es)
unfolding without_session
gone-at s i [] place = absurd place
gone-at s zero (e ∷ es) place = sym (ap (λ b. cond b (sessions_in es) (e.1.session ∷ without_session s (sessions_in es))) place)
gone-at s (suc i) (e ∷ es) place =
    ap (λ xs. e.1.session ∷ xs) (gone-at s i es place.1) ∙ sym (ap (λ b. cond b (sessions_in es) (e.1.session ∷ without_session s (sessions_in es))) place.0)

pub gone-sessions : (es : Entries) (t : SessionTable) (s i : ℕ) → table_of es ≡ t → StandsAt s i es → sessions_in (remove es i) ≡ without_session s t.sessions
gone-sessions es t s i view place = gone-at s i es place ∙ ap (λ (u : SessionTable). without_session s u.sessions) view

pub keyed-remove : (i : ℕ) (es : Entries) → is_keyed es ≡ true → is_keyed (remove es i) ≡ true
keyed-remove zero [] keyed = refl
keyed-remove (suc i) [] keyed = refl
keyed-remove zero (e ∷ es) keyed = (and_parts (e.1.session.number == e.0) (is_keyed es) keyed).1
keyed-remove (suc i) (e ∷ es) keyed =
    let parts = and_parts (e.1.session.number == e.0) (is_keyed es) keyed in λ j. parts.0 j && keyed-remove i es parts.1 j

-- ---- an unchanged session, and room

pub sessions-same : (i : ℕ) (es : Entries) (v w : KeptSession) → slice_get (values_of es) i ≡ Some v → w.session ≡ v.session → sessions_in (set_value_at es i w) ≡ sessions_in es
sessions-same i [] v w at is = refl
sessions-same zero (e ∷ es) v w at is = ap (λ x. x ∷ sessions_in es) (is ∙ ap (λ (k : KeptSession). k.session) (sym (same_Some e.1 v at)))
sessions-same (suc i) (e ∷ es) v w at is = ap (λ xs. e.1.session ∷ xs) (sessions-same i es v w at is)

pub same-sessions : (es : Entries) (t : SessionTable) (i : ℕ) (v w : KeptSession) → table_of es ≡ t → slice_get (values_of es) i ≡ Some v → w.session ≡ v.session → sessions_in (set_value_at es i w) ≡ t.sessions
same-sessions es t i v w view at is = sessions-same i es v w at is ∙ ap (λ (u : SessionTable). u.sessions) view

room-of : (i : ℕ) (es : Entries) (v : KeptSession) → slice_get (values_of es) i ≡ Some v → has_room es ≡ true → v.room ≡ true
room-of i [] v at room = absurd (none-some at)
room-of zero (e ∷ es) v at room = ap (λ (k : KeptSession). k.room) (sym (same_Some e.1 v at)) ∙ (and_parts e.1.room (has_room es) room).0
room-of (suc i) (e ∷ es) v at room = room-of i es v at (and_parts e.1.room (has_room es) room).1

pub room-in : (es : Entries) (t : SessionTable) (i : ℕ) (v : KeptSession) → table_of es ≡ t → slice_get (values_of es) i ≡ Some v → t.room ≡ true → v.room ≡ true
room-in es t i v view at room = room-of i es v at (ap (λ (u : SessionTable). u.room) view ∙ room)

-- ---- the calls that ask which session there is

pub left-gone : (ss : List Session) (s l : ℕ) (x : Session) → session_in ss s ≡ Some x → is_only l x ≡ true → without_session s ss ≡ left s l ss
left-gone ss s l x found only =
    sym (ap (λ o. leaves o s l ss) found ∙ ap (λ b. cond b (without_session s ss) (changed s (left_by l) ss)) only)

pub left-stays : (ss : List Session) (s l : ℕ) (x : Session) → session_in ss s ≡ Some x → is_only l x ≡ false → changed s (left_by l) ss ≡ left s l ss
left-stays ss s l x found more =
    sym (ap (λ o. leaves o s l ss) found ∙ ap (λ b. cond b (without_session s ss) (changed s (left_by l) ss)) more)

pub joined-known : (ss : List Session) (s l : ℕ) (x : Session) → session_in ss s ≡ Some x → changed s (joined_by l) ss ≡ joined s l ss
joined-known ss s l x found = sym (ap (λ o. joins o s l ss) found)

-- ---- a new session, or none for want of memory

pub keyed-after : (es fs : Entries) (k : ℕ) (v : KeptSession) (r : Result (Unit {0}) AllocError) → OnOk r (fs ≡ es ++ (k, v) ∷ []) → OnErr r (fs ≡ es) → is_keyed es ≡ true → v.session.number ≡ k → is_keyed fs ≡ true
keyed-after es fs k v (Ok u) added same keyed named = ap is_keyed added ∙ keyed-push es k v keyed named
keyed-after es fs k v (Err e) added same keyed named = ap is_keyed same ∙ keyed

-- ---- from place to place

find-from_suc : (p : Session → Bool) (i : ℕ) (es : Entries) (v : KeptSession) → slice_get (values_of es) i ≡ Some v → find p (sessions_in (drop i es)) ≡ cond (p v.session) (Some v.session) (find p (sessions_in (drop (suc i) es)))
find-from_suc p i [] v at = absurd (none-some at)
find-from_suc p zero (e ∷ es) v at = ap (λ (k : KeptSession). cond (p k.session) (Some k.session) (find p (sessions_in es))) (same_Some e.1 v at)
find-from_suc p (suc i) (e ∷ es) v at = find-from_suc p i es v at

pub find-from : (p : Session → Bool) (i : ℕ) (es : Entries) (v : KeptSession) → slice_get (values_of es) i ≡ Some v → find p (sessions_in (drop i es)) ≡ cond (p v.session) (Some v.session) (find p (sessions_in (drop (i + 1) es)))
find-from p i es v at = rw add-one (find-from_suc p i es v at)

-- f on the first i sessions
unfoldable pub first_by : (Session → Session) → ℕ → List Session → List Session
first_by f zero xs = xs
first_by f (suc i) [] = []
first_by f (suc i) (x ∷ xs) = f x ∷ first_by f i xs

pub first_by-none : (f : Session → Session) (xs : List Session) → first_by f 0 xs ≡ xs
unfolding first_by
first_by-none f xs = refl

pub first_by-all : (f : Session → Session) (xs : List Session) → first_by f (length xs) xs ≡ map f xs
unfolding first_by
first_by-all f [] = refl
first_by-all f (x ∷ xs) = ap (λ ys. f x ∷ ys) (first_by-all f xs)

first_by-suc : (f : Session → Session) (i : ℕ) (es : Entries) (xs : List Session) (v w : KeptSession) → sessions_in es ≡ first_by f i xs → slice_get (values_of es) i ≡ Some v → w.session ≡ f v.session → sessions_in (set_value_at es i w) ≡ first_by f (suc i) xs
unfolding first_by
first_by-suc f i [] xs v w so_far at is = absurd (none-some at)
first_by-suc f zero (e ∷ es) [] v w so_far at is = absurd (cons-nil so_far)
first_by-suc f zero (e ∷ es) (x ∷ xs) v w so_far at is =
    let h = cons-parts so_far in
    λ i. (is ∙ (ap (λ (k : KeptSession). f k.session) (sym (same_Some e.1 v at)) ∙ ap f h.0)) i ∷ h.1 i
first_by-suc f (suc i) (e ∷ es) [] v w so_far at is = absurd (cons-nil so_far)
first_by-suc f (suc i) (e ∷ es) (x ∷ xs) v w so_far at is =
    let h = cons-parts so_far in
    λ j. h.0 j ∷ first_by-suc f i es xs v w h.1 at is j

pub first_by-more : (f : Session → Session) (i : ℕ) (es : Entries) (xs : List Session) (v w : KeptSession) → sessions_in es ≡ first_by f i xs → slice_get (values_of es) i ≡ Some v → w.session ≡ f v.session → sessions_in (set_value_at es i w) ≡ first_by f (i + 1) xs
first_by-more f i es xs v w so_far at is = rw add-one (first_by-suc f i es xs v w so_far at is)

-- the first i have room
room-suc : (i : ℕ) (es : Entries) (v w : KeptSession) → slice_get (values_of es) i ≡ Some v → has_room (take i es) ≡ true → w.room ≡ true → has_room (take (suc i) (set_value_at es i w)) ≡ true
room-suc i [] v w at so_far is = absurd (none-some at)
room-suc zero (e ∷ es) v w at so_far is = ap (λ b. b && true) is
room-suc (suc i) (e ∷ es) v w at so_far is =
    let h = and_parts e.1.room (has_room (take i es)) so_far in
    λ j. h.0 j && room-suc i es v w at h.1 is j

pub room-more : (i : ℕ) (es : Entries) (v w : KeptSession) → slice_get (values_of es) i ≡ Some v → has_room (take i es) ≡ true → w.room ≡ true → has_room (take (i + 1) (set_value_at es i w)) ≡ true
room-more i es v w at so_far is = rw add-one (room-suc i es v w at so_far is)

pub room-all : (n : ℕ) (es : Entries) → length es ≡ n → has_room (take n es) ≡ true → has_room es ≡ true
room-all n es long so_far = ap has_room (sym (take_all es n long)) ∙ so_far

pub length-sessions : (es : Entries) → length (sessions_in es) ≡ length es
length-sessions es = length-map es (λ (e : ℕ × KeptSession). e.1.session)

pub length-set_value_at : (es : Entries) (i : ℕ) (w : KeptSession) → length (set_value_at es i w) ≡ length es
length-set_value_at [] i w = refl
length-set_value_at (e ∷ es) zero w = refl
length-set_value_at (e ∷ es) (suc i) w = ap suc (length-set_value_at es i w)
