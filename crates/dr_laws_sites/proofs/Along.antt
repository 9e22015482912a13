-- What holds of each moment of a run: no write that landed in a stop waits on a secondary, and each write that was acknowledged or mirrored was
-- issued. And what lasts from one moment to the run's end.
use Rattle.std.proofs.Common.{ℕ, ◌≡◌, ◌≢◌, ◌<◌, ◌+◌, ◌⊎◌, inl, inr, refl, ap, sym, ◌∙◌, subst, append_assoc, Bool, true, false, List, [], ◌∷◌, ◌++◌, filter, Option, None}
use Rattle.std.proofs.lemmas.Bool.Decides.{eqb_tells}
use Rattle.std.proofs.lemmas.List.{append-nil}
use Rattle.dr_model.specs.declared.event.Event.{Event}
use Rattle.dr_model.specs.declared.event.Event.TheVariants.{Ack, Mirrored, Stopped}
use Rattle.dr_model.specs.Histories.{Write, histories}
use Rattle.dr_model.specs.Layout.{Fields, is_part}
use Rattle.dr_model.specs.Control.{Pending, Volume, Fuse, World, is_volume, nothing}
use Rattle.dr_model.specs.Moves.{Move, Land, Overwrite, MakeSecondary, Yield, Mirror, LandBoth, DropSecondary, LeavePrimary, TakeOver, target, told, told_in_stop, landed, settled, settled_in_stop, marked, is_write}
use Rattle.dr_model.specs.Entries.{fields_at}
use Rattle.dr_model.specs.Table.{table, waiting}
use Rattle.dr_model.specs.Laws.{SoundRows, AllPending}
use Rattle.dr_model.specs.Allowed.{Idle, Coming}
use Rattle.dr_model.specs.Runs.{Task}
use Rattle.dr_model.specs.Carry.{acknowledged}
use Rattle.dr_facts.proofs.Emits.{Tag, Acks, Mirrors, Of, AllOf, Lists, of-append, of-all, each-told, each-stop}
use Rattle.dr_facts.proofs.Issued.{with-told, told-writes}
use Rattle.dr_facts.proofs.Tables.{IsOrNot, at_part}
use Rattle.dr_laws_sound.proofs.Due.{waiting-settled, waiting-marked_else, none_landed}
use Rattle.dr_laws_sound.proofs.RowsAfter.{calm, changed}
use Rattle.dr_laws_sound.proofs.Turns.{next_of, done, done_in_stop}
use Rattle.dr_laws_sound.proofs.Unissued.{stopped-writes}
use Rattle.dr_laws_freezes.specs.Moments.{moments_from, moments}
use Rattle.dr_laws_freezes.specs.Windows.{last_of}
use Rattle.dr_laws_freezes.proofs.WindowMoves.{MayCome}
use Rattle.dr_laws_freezes.proofs.KeepsWindow.{takes_none}
use Rattle.dr_laws_freezes.proofs.KeepsStep.{Step, Does, Stops, Acks as Acknowledged, Others, Passes, Acknowledges, Unchanged}
use Rattle.dr_laws_freezes.proofs.Windows.{Good, Chain, Last, Then, good}
use Rattle.dr_laws_freezes.proofs.WindowSteps.{chain-of}
use Rattle.dr_logic.proofs.Choices.{chosen}
use Rattle.dr_logic.proofs.Tables.{at_same, at_other}
use Rattle.dr_logic.proofs.Truth.{false_true}

-- ---- writes that were acknowledged or mirrored

-- the write of an event was issued, where so many were
abbrev pub IsLow : ℕ → Event → Type 0
IsLow n (Ack k) = k < n
IsLow n (Mirrored k v) = k < n
IsLow n e = Unit {0}

abbrev pub AllLow : ℕ → List Event → Type 0
AllLow n es = AllOf (IsLow n) es

raised : (n m : ℕ) → ((k : ℕ) → k < n → k < m) → (es : List Event) → AllLow n es → AllLow m es
raised n m more [] low = tt
raised n m more (e ∷ es) low = (one e low.0, raised n m more es low.1)
  where
    one : (e : Event) → IsLow n e → IsLow m e
    one (Ack k) h = more k h
    one (Mirrored k v) h = more k h
    one e h = tt

-- other kinds of events
abbrev stores_none : Tag → Bool
stores_none Acks = false
stores_none Mirrors = false
stores_none k = true

low-lists : (p : Tag → Bool) → p Acks ≡ false → p Mirrors ≡ false → (n : ℕ) → Lists (Of p) (AllLow n)
low-lists p acks mirrors n = record { none = tt; more = λ e es h after. (one e h, after) }
  where
    one : (e : Event) → Of p e → IsLow n e
    one (Ack k) h = false_true acks h
    one (Mirrored k v) h = false_true mirrors h
    one e h = tt

module _ (w : World) where
  abbrev most : ℕ
  most = w.control.issued + 1

  told-low : (m : Move) → MayCome w m → (u : Volume) → AllLow most (told m u)
  told-low (Land n v t) may u = (may.ready.number, tt)
  told-low (Overwrite n v t) may u = (may.ready.number, tt)
  told-low (LandBoth n v t) may u = (may.ready.number, tt)
  told-low (Mirror v t from n) may u = (may.ready.number, tt)
  told-low m may u = each-told stores_none (AllLow most) (low-lists stores_none refl refl most) m u refl

  stop-low : (m : Move) → MayCome w m → (u : Volume) → AllLow most (told_in_stop m u)
  stop-low (Land n v t) may u = tt
  stop-low (Overwrite n v t) may u = tt
  stop-low (LandBoth n v t) may u = tt
  stop-low (Mirror v t from n) may u = (may.ready.number, tt)
  stop-low m may u = each-stop stores_none (AllLow most) (low-lists stores_none refl refl most) m u refl

-- ---- writes that landed in a stop

-- no write waits on track t of v, or v is defined, and no secondary
abbrev Calm : World → ℕ → ℕ → Type 0
Calm w v t = (waiting w.control.pending v t ≡ []) ⊎ ((is_volume w.control v ≡ true) × (is_part (fields_at w.control v).secondary ≡ false))

-- kinds of moves by which a host write lands
abbrev Lands : Move → Type 0
Lands (Land n v t) = Unit {0}
Lands (Overwrite n v t) = Unit {0}
Lands (LandBoth n v t) = Unit {0}
Lands m = ⊥

-- what waits is the same, or one waits where it has landed now
abbrev Waits : World → Move → List Pending → ℕ → ℕ → Type 0
Waits w m ps v t = (waiting ps v t ≡ waiting w.control.pending v t) ⊎ (Lands m × (v ≡ target m))

waits-done : (w : World) (m : Move) → MayCome w m → (v t : ℕ) → Waits w m (settled m w.control.pending) v t
waits-done w (Land n x y) may v t = inl (waiting-settled n v t w.control.pending (none_landed x y _ may.ready.coming))
waits-done w (Overwrite n x y) may v t = inl (waiting-settled n v t w.control.pending (none_landed x y _ may.ready.coming))
waits-done w (LandBoth n x y) may v t = inl (waiting-settled n v t w.control.pending (none_landed x y _ may.ready.coming))
waits-done w m may v t = inl refl

waits-marked : (w : World) (n x y v t : ℕ) → AllPending (Coming x y) (filter (is_write n) w.control.pending) → (waiting (marked n w.control.pending) v t ≡ waiting w.control.pending v t) ⊎ (v ≡ x)
waits-marked w n x y v t coming = elim (eqb_tells v x) [
  | inl is ↦ inr is.1
  | inr ne ↦ inl (waiting-marked_else n x y v t w.control.pending (inl ne.1) coming)
]

landed-or : {P Q : Type 0} → P ⊎ Q → P ⊎ (Unit {0} × Q)
landed-or (inl p) = inl p
landed-or (inr q) = inr (tt, q)

waits-stop : (w : World) (m : Move) → MayCome w m → (v t : ℕ) → Waits w m (settled_in_stop m w.control.pending) v t
waits-stop w (Land n x y) may v t = landed-or (waits-marked w n x y v t may.ready.coming)
waits-stop w (Overwrite n x y) may v t = landed-or (waits-marked w n x y v t may.ready.coming)
waits-stop w (LandBoth n x y) may v t = landed-or (waits-marked w n x y v t may.ready.coming)
waits-stop w m may v t = inl refl

module _ (w : World) (rows : SoundRows (table w)) where
  abbrev of : ℕ → Fields
  of = fields_at w.control

  -- a host write lands on a volume that is defined, and no secondary
  landed-plain : (m : Move) → MayCome w m → Lands m → (is_volume w.control (target m) ≡ true) × (is_part (next_of w m).secondary ≡ false)
  landed-plain (Land n v t) may l = (may.allowed.defined, may.allowed.first)
  landed-plain (LandBoth n v t) may l = (may.allowed.land.defined, may.allowed.land.first)
  landed-plain (Overwrite n v t) may l = let related = (chosen (of v).related _ may.allowed.from may.allowed.related).0 in (rows.structure.defined v related, (rows.parts.fit v).no_secondary related)
  landed-plain m may l = absurd l

  -- a volume that becomes a secondary has no such write
  new-calm : (m : Move) → MayCome w m → is_part (next_of w m).secondary ≡ true → (is_part (of (target m)).secondary ≡ true) ⊎ Idle w (target m)
  new-calm (MakeSecondary v u kind state) may h = inr may.ready
  new-calm (Yield v u kind state) may h = inr may.ready
  new-calm (DropSecondary v) may h = absurd cc
  new-calm (LeavePrimary v) may h = absurd cc
  new-calm (TakeOver v) may h = absurd cc
  new-calm m may h = inl h

  module _ (old : (v t : ℕ) → Calm w v t) (m : Move) (may : MayCome w m) (ps : List Pending) (on : ℕ → Bool) (fuse : ℕ → Option Fuse) (es : List Event) where
    abbrev W : World
    W = changed w m on fuse ps es

    abbrev x : ℕ
    x = target m

    row-here : fields_at W.control x ≡ next_of w m
    row-here = ap (λ (y : Volume). y.fields) (at_same w.control.volume x _)

    row-else : (v : ℕ) → v ≢ x → fields_at W.control v ≡ of v
    row-else v ne = ap (λ (y : Volume). y.fields) (at_other w.control.volume x _ v ne)

    calm-here : (t : ℕ) → waiting ps x t ≡ waiting w.control.pending x t → Calm w x t → Calm W x t
    calm-here t same (inl none) = inl (same ∙ none)
    calm-here t same (inr plain) = by (is_part (next_of w m).secondary) refl
      where
        by : (b : Bool) → is_part (next_of w m).secondary ≡ b → Calm W x t
        by false is = inr (plain.0, ap (λ (f : Fields). is_part f.secondary) row-here ∙ is)
        by true is = elim (new-calm m may is) [
          | inl was ↦ false_true plain.1 was
          | inr idle ↦ inl (same ∙ calm w x idle t)
        ]

    calm-else : (v t : ℕ) → v ≢ x → waiting ps v t ≡ waiting w.control.pending v t → Calm w v t → Calm W v t
    calm-else v t ne same (inl none) = inl (same ∙ none)
    calm-else v t ne same (inr plain) = inr (plain.0, ap (λ (f : Fields). is_part f.secondary) (row-else v ne) ∙ plain.1)

    calm-moved : (v t : ℕ) → Waits w m ps v t → Calm W v t
    calm-moved v t (inl same) = elim (eqb_tells v x) [
      | inl is ↦ subst (λ v. waiting ps v t ≡ waiting w.control.pending v t → Calm W v t) (sym is.1) (λ same. calm-here t same (old x t)) same
      | inr ne ↦ calm-else v t ne.1 same (old v t)
    ]
    calm-moved v t (inr lands) =
        let plain = landed-plain m may lands.0 in
        subst (λ v. Calm W v t) (sym lands.1) (inr (plain.0, ap (λ (f : Fields). is_part f.secondary) row-here ∙ plain.1))

-- ---- along a run

pub record Holds (w : World) : Type 0 where
  pub calm : (v t : ℕ) → Calm w v t
  pub low : AllLow (w.control.issued + 1) w.events

calm-acked : (w : World) (n : ℕ) → Acknowledges w n → ((v t : ℕ) → Calm w v t) → (v t : ℕ) → Calm (acknowledged w n) v t
calm-acked w n a old v t = by (eqb_tells v a.volume) (eqb_tells t a.track)
  where
    else : (v ≢ a.volume) ⊎ (t ≢ a.track) → Calm w v t → Calm (acknowledged w n) v t
    else ne (inl none) = inl (a.else v t ne ∙ none)
    else ne (inr plain) = inr plain

    by : IsOrNot v a.volume → IsOrNot t a.track → Calm (acknowledged w n) v t
    by (inl is) (inl too) = inl ((λ i. waiting (acknowledged w n).control.pending (is.1 i) (too.1 i)) ∙ a.gone)
    by (inr ne) told = else (inl ne.1) (old v t)
    by told (inr ne) = else (inr ne.1) (old v t)

calm-passed : (w u : World) (es : List Event) → Unchanged w u es → ((v t : ℕ) → Calm w v t) → (v t : ℕ) → Calm u v t
calm-passed w u es x old v t = by (old v t)
  where
    by : Calm w v t → Calm u v t
    by (inl none) = inl (x.waits v t ∙ none)
    by (inr plain) = inr (x.there v plain.0, ap (λ (y : Volume). is_part y.fields.secondary) (x.volume v plain.0) ∙ plain.1)

holds-step : (tag : Option ℕ) (w : World) (next : Option ℕ) (u : World) → Good tag w → Step tag w next u → Holds w → Holds u
holds-step tag w _ _ g (Does m f may fair asks) k =
    let v : Volume = w.control.volume (target m) in
    let W : World = done w m f in
    record {
      calm = λ v t. calm-moved w g.rows k.calm m may (settled m w.control.pending) W.control.on W.control.fuse W.events v t (waits-done w m may v t);
      low = of-append (IsLow (w.control.issued + 1)) w.events (told m v) k.low (told-low w m may v);
    }
holds-step tag w _ _ g (Stops m f may fair asks) k =
    let v : Volume = w.control.volume (target m) in
    let W : World = done_in_stop w m f in
    record {
      calm = λ v t. calm-moved w g.rows k.calm m may (settled_in_stop m w.control.pending) W.control.on W.control.fuse W.events v t (waits-stop w m may v t);
      low = of-append (IsLow (w.control.issued + 1)) w.events (told_in_stop m v ++ Stopped v.server (landed m) ∷ []) k.low (of-append (IsLow (w.control.issued + 1)) (told_in_stop m v) (Stopped v.server (landed m) ∷ []) (stop-low w m may v) (tt, tt));
    }
holds-step tag w _ _ g (Acknowledged n a) k = record { calm = calm-acked w n a k.calm; low = of-append (IsLow (w.control.issued + 1)) w.events (Ack n ∷ []) k.low (a.number, tt) }
holds-step tag w _ _ g (Others next u ss step) k = let x : Holds u = holds-step tag w next u g step k in record { calm = x.calm; low = x.low }
holds-step tag w _ _ g (Passes next u es x less) k = record {
  calm = calm-passed w u es x k.calm;
  low = subst (AllLow (u.control.issued + 1)) (sym x.events) (of-append (IsLow (u.control.issued + 1)) w.events es (raised (w.control.issued + 1) (u.control.issued + 1) x.issued w.events k.low)
      (of-all (Of takes_none) (AllLow (u.control.issued + 1)) (low-lists takes_none refl refl (u.control.issued + 1)) es x.takes));
}

-- what lasts from one moment to a later one: what was told, each write that was issued, and which volumes there are with their sizes
pub record Lasts (w u : World) : Type 0 where
  pub told : List Event
  pub events : u.events ≡ w.events ++ told
  pub writes : (n : ℕ) → n < w.control.issued + 1 → (histories u.events).write n ≡ (histories w.events).write n
  pub issued : (n : ℕ) → n < w.control.issued + 1 → n < u.control.issued + 1
  pub there : (v : ℕ) → is_volume w.control v ≡ true → is_volume u.control v ≡ true
  pub tracks : (v : ℕ) → is_volume w.control v ≡ true → (u.control.volume v).tracks ≡ (w.control.volume v).tracks

lasts-none : (w : World) → Lasts w w
lasts-none w = record { told = []; events = sym (append-nil w.events); writes = λ n lt. refl; issued = λ n lt. lt; there = λ v h. h; tracks = λ v h. refl }

lasts-more : (w u x : World) → Lasts w u → Lasts u x → Lasts w x
lasts-more w u x one rest = record {
  told = one.told ++ rest.told;
  events = rest.events ∙ ap (λ es. es ++ rest.told) one.events ∙ append_assoc w.events one.told rest.told;
  writes = λ n lt. rest.writes n (one.issued n lt) ∙ one.writes n lt;
  issued = λ n lt. rest.issued n (one.issued n lt);
  there = λ v h. rest.there v (one.there v h);
  tracks = λ v h. rest.tracks v (one.there v h) ∙ one.tracks v h;
}

lasts-step : (tag : Option ℕ) (w : World) (next : Option ℕ) (u : World) → Step tag w next u → Lasts w u
lasts-step tag w _ _ (Does m f may fair asks) =
    let v : Volume = w.control.volume (target m) in
    record {
      told = told m v;
      events = refl;
      writes = λ n lt. ap (λ (g : ℕ → Write). g n) (with-told w (told m v) (told-writes (histories w.events) m v));
      issued = λ n lt. lt;
      there = λ v h. h;
      tracks = λ v h. at_part (λ (y : Volume). y.tracks) w.control.volume (target m) _ refl v;
    }
lasts-step tag w _ _ (Stops m f may fair asks) =
    let v : Volume = w.control.volume (target m) in
    record {
      told = told_in_stop m v ++ Stopped v.server (landed m) ∷ [];
      events = refl;
      writes = λ n lt. ap (λ (g : ℕ → Write). g n) (stopped-writes w m);
      issued = λ n lt. lt;
      there = λ v h. h;
      tracks = λ v h. at_part (λ (y : Volume). y.tracks) w.control.volume (target m) _ refl v;
    }
lasts-step tag w _ _ (Acknowledged n a) = record { told = Ack n ∷ []; events = refl; writes = λ k lt. ap (λ (g : ℕ → Write). g k) (with-told w (Ack n ∷ []) refl); issued = λ n lt. lt; there = λ v h. h; tracks = λ v h. refl }
lasts-step tag w _ _ (Others next u ss step) = let x : Lasts w u = lasts-step tag w next u step in record { told = x.told; events = x.events; writes = x.writes; issued = x.issued; there = x.there; tracks = x.tracks }
lasts-step tag w _ _ (Passes next u es x less) = record { told = es; events = x.events; writes = x.writes; issued = x.issued; there = x.there; tracks = λ v h. ap (λ (y : Volume). y.tracks) (x.volume v h) }

lasts-chain : (tag : Option ℕ) (w : World) (us : List World) → Chain tag w us → Lasts w (last_of w us)
lasts-chain _ _ _ (Last tag w g) = lasts-none w
lasts-chain _ _ _ (Then tag next w u us g s c) = lasts-more w u (last_of u us) (lasts-step tag w next u s) (lasts-chain next u us c)

-- a moment, with what comes after it
pub record At (w : World) (later : List World) : Type 0 where
  pub tag : Option ℕ
  pub good : Good tag w
  pub holds : Holds w
  pub lasts : Lasts w (last_of w later)

at-moment : (before : List World) (tag : Option ℕ) (w : World) (us : List World) (first : World) (later : List World) → Chain tag w us → Holds w → w ∷ us ≡ before ++ first ∷ later → At first later
at-moment [] tag w us first later c k e =
    let here : w ≡ first = cc in let there : us ≡ later = cc in
    subst (At first) there (subst (λ w. At w us) here (record { tag = tag; good = good tag w us c; holds = k; lasts = lasts-chain tag w us c }))
at-moment (b ∷ []) _ _ _ first later (Last tag w g) k e = absurd cc
at-moment (b ∷ c ∷ bs) _ _ _ first later (Last tag w g) k e = absurd cc
at-moment (b ∷ bs) _ _ _ first later (Then tag next w u us g s c) k e = let there : u ∷ us ≡ bs ++ first ∷ later = cc in at-moment bs next u us first later c (holds-step tag w next u g s k) there

pub run-moment : (tasks : List Task) (before later : List World) (w : World) → moments tasks ≡ before ++ (w ∷ later) → At w later
run-moment tasks before later w is = at-moment before None nothing (moments_from nothing tasks) w later (chain-of tasks) (record { calm = λ v t. inl refl; low = tt }) is
