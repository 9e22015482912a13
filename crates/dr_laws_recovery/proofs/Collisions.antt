-- While a host write is carried out, on no volume a track comes to collide that didn't as the step began.
use Rattle.std.proofs.Common.{ℕ, ◌≡◌, ◌≢◌, refl, ap, sym, ◌∙◌, Bool, true, false, cond, not, ◌&&◌, List, Option, Result, Ok, subst}
use Rattle.std.specs.FinSet.{contains, insert}
use Rattle.std.proofs.lemmas.Bool.{and_parts, and_from, and_right}
use Rattle.dr_model.specs.declared.event.Event.{Event}
use Rattle.dr_model.specs.declared.step.Step.{Step}
use Rattle.dr_model.specs.declared.step.Step.TheVariants.{Write, Apply}
use Rattle.dr_model.specs.declared.state.Part.TheVariants.{Global}
use Rattle.dr_model.specs.Layout.{Tracks, Fields, is_part}
use Rattle.dr_model.specs.Pairs.{is_kind, is_metro, collides, written}
use Rattle.dr_model.specs.Control.{Control, Fuse, Volume, World}
use Rattle.dr_model.specs.Moves.{Move, Land, Overwrite, Keep, Note, Store, Strike, Suspend, Unsync, Mirror, LandBoth, target, fields_left}
use Rattle.dr_model.specs.Carry.{Act, Make, Drop, act}
use Rattle.dr_model.specs.Carried.{begun}
use Rattle.dr_model.specs.Entries.{fields_at}
use Rattle.dr_model.specs.PlanParts.{Plan}
use Rattle.dr_model.proofs.LawfulLemmas.{removed}
use Rattle.dr_facts.proofs.Parts.{global_metro}
use Rattle.dr_facts.proofs.Tables.{at_cases}
use Rattle.dr_laws_sound.proofs.Turns.{done, act-cases, Counts, after_act}
use Rattle.dr_laws_sound.proofs.FitsPairs.{row}
use Rattle.dr_laws_sound.proofs.Cases.{Case, Says, Lists, Compares, PausesMirror, Writes, Applies, Commits, Reverts, Settles}
use Rattle.dr_laws_sound.proofs.Does.{Does, Keeps, Notes, Suspends, Stores, Strikes, Lands, Overwrites, Unsyncs, Mirrors, LandsBoth, Drops, SendsOn, StrikesOn, IsOrder, Exchanged, Delivered, OrdersHold, OrdersAttempt, OrdersFree, OrdersSeal, OrdersFinish, OrdersFlash, OrdersCommit, OrdersRevert, OrdersFloor, SettlesCommit}
use Rattle.dr_ids.specs.declared.names.Member.{Member}

-- a primary that records takes a track as one that has changed since
pub written-out : (f : Fields) (t : ℕ) → f.recording ≡ true → (written f t).out_of_sync ≡ f.out_of_sync
written-out f t recording = ap (λ c. cond c (insert f.out_of_sync t) f.out_of_sync) (and_right (is_part f.primary) _ (ap not recording))

-- the same kind of primary, on which no further track collides
pub record Fewer (f g : Fields) : Type 0 where
  pub kind : g.primary ≡ f.primary
  pub hits : (t : ℕ) → collides g t ≡ true → collides f t ≡ true

-- with another set out of sync
less : (g : Fields) (s : Tracks) → ((q : ℕ) → g.recording ≡ true → contains s q ≡ true → contains g.out_of_sync q ≡ true) → (q : ℕ) → (is_kind Global g.primary && (g.recording && contains s q)) ≡ true → collides g q ≡ true
less g s low q h =
    let outer = and_parts (is_kind Global g.primary) _ h in
    let inner = and_parts g.recording _ outer.1 in
    and_from (is_kind Global g.primary) _ outer.0 (and_from g.recording _ inner.0 (low q inner.0 inner.1))

out-less : (g : Fields) (t q : ℕ) → (is_kind Global g.primary && (g.recording && contains (written g t).out_of_sync q)) ≡ true → collides g q ≡ true
out-less g t = less g (written g t).out_of_sync (λ q recording h. sym (ap (λ s. contains s q) (written-out g t recording)) ∙ h)

-- a host write is carried out
abbrev pub is_writing : Result Step ℕ → Bool
is_writing (Ok (Write v t offset len bytes)) = true
is_writing (Ok (Apply n)) = true
is_writing asked = false

module _ (k : Control) where
  -- the moves of a host write
  abbrev MayWrite : Move → Type 0
  MayWrite (Land n v t) = Unit {0}
  MayWrite (Overwrite n v t) = Unit {0}
  MayWrite (Keep v t) = Unit {0}
  MayWrite (Note v t) = Unit {0}
  MayWrite (Store v t u last) = Unit {0}
  MayWrite (Strike v t last) = Unit {0}
  MayWrite (Suspend v busy) = Unit {0}
  MayWrite (Unsync v t) = is_metro (fields_at k v).primary ≡ true
  MayWrite (Mirror v t u n) = Unit {0}
  MayWrite (LandBoth n v t) = Unit {0}
  MayWrite m = ⊥

  left : (m : Move) (u : Volume) → MayWrite m → Fewer (fields_at k (target m)) u.fields → Fewer (fields_at k (target m)) (fields_left m u)
  left (Land n v t) u is old = record { kind = old.kind; hits = λ q h. old.hits q (out-less u.fields t q h) }
  left (Overwrite n v t) u is old = record { kind = old.kind; hits = old.hits }
  left (Keep v t) u is old = record { kind = old.kind; hits = old.hits }
  left (Note v t) u is old = record { kind = old.kind; hits = old.hits }
  left (Store v t from last) u is old = record { kind = old.kind; hits = λ q h. old.hits q (out-less u.fields t q h) }
  left (Strike v t last) u is old = record { kind = old.kind; hits = λ q h. old.hits q (less u.fields _ (λ q r c. removed u.fields.out_of_sync t q c) q h) }
  left (Suspend v busy) u is old = record { kind = old.kind; hits = λ q h. let no : false ≡ true = (and_parts false (contains (fields_left (Suspend v busy) u).out_of_sync q) (and_parts (is_kind Global u.fields.primary) _ h).1).0 in absurd cc }
  left (Unsync v t) u is old = record { kind = old.kind; hits = λ q h. global_metro u.fields.primary (and_parts (is_kind Global u.fields.primary) _ h).0 (ap is_metro old.kind ∙ is) }
  left (Mirror v t from n) u is old = record { kind = old.kind; hits = λ q h. old.hits q (out-less u.fields t q h) }
  left (LandBoth n v t) u is old = record { kind = old.kind; hits = λ q h. old.hits q (less u.fields _ (λ q r c. removed u.fields.out_of_sync t q c) q h) }
  left m u is old = absurd is

  abbrev pub Stays : World → Type 0
  Stays w = (j : ℕ) → Fewer (fields_at k j) (fields_at w.control j)

  pub stays-hits : (w : World) → Stays w → (j t : ℕ) → collides (fields_at w.control j) t ≡ true → collides (fields_at k j) t ≡ true
  stays-hits w stays j t = (stays j).hits t

  stays-same : (j : Control) → ((v : ℕ) → fields_at j v ≡ fields_at k v) → (v : ℕ) → Fewer (fields_at k v) (fields_at j v)
  stays-same j same v = record { kind = ap (λ (f : Fields). f.primary) (same v); hits = λ t h. sym (ap (λ f. collides f t) (same v)) ∙ h }

  abbrev Writing : World → Act → Type 0
  Writing w (Make m) = MayWrite m
  Writing w (Drop n) = Unit {0}
  Writing w a = ⊥

  stays-move : (w : World) (m : Move) (f : Option Fuse) → MayWrite m → Stays w → Stays (done w m f)
  stays-move w m f is old j = at_cases (λ j (y : Volume). Fewer (fields_at k j) y.fields) w.control.volume (target m) (row w m f) (left m (w.control.volume (target m)) is (old (target m))) (λ q ne. old q) j

  stays-done : (w : World) (a : Act) (f : Option Fuse) → Writing w a → Stays w → Stays (after_act w a f)
  stays-done w (Make m) f is old = stays-move w m f is old
  stays-done w (Drop n) f is old = old
  stays-done w a f is old = absurd is

  stays-stop : (w : World) (a : Act) → Writing w a → Stays w → Counts w a (λ t. Stays t.0)
  stays-stop w (Make m) is old = λ f. stays-move w m f is old
  stays-stop w (Drop n) is old = tt
  stays-stop w a is old = absurd is

  stays-act : (w : World) (a : Act) → Writing w a → Stays w → Stays (act w a).0
  stays-act w a is old = act-cases w a (λ t. Stays t.0) (λ d off. old) (λ f. stays-done w a f is old) (stays-stop w a is old) (λ d f. old)

  -- ---- of a step

  no-order : {asked : Result Step ℕ} → {s : ℕ} → {m : Member} → IsOrder k asked s m → is_writing asked ≡ true → ⊥
  no-order (Exchanged s m here) is = cc
  no-order (Delivered n e m there here) is = cc

  does-write : (asked : Result Step ℕ) → is_writing asked ≡ true → (w : World) (a : Act) → Does k asked w.control a → Writing w a
  does-write _ is w _ (Keeps u t) = tt
  does-write _ is w _ (Notes u t) = tt
  does-write _ is w _ (Suspends v busy) = tt
  does-write _ is w _ (Stores a b sends t last) = tt
  does-write _ is w _ (Strikes a b sends t last) = tt
  does-write _ is w _ (Lands n v t write free) = tt
  does-write _ is w _ (Overwrites n v t write free) = tt
  does-write _ is w _ (Unsyncs n v t write over) = (and_parts (is_metro (fields_at k v).primary) _ over).0
  does-write _ is w _ (Mirrors n v t write over) = tt
  does-write _ is w _ (LandsBoth n v t write free) = tt
  does-write _ is w _ (Drops n v t write) = tt
  does-write _ is w _ (SendsOn n v t write fed hits last) = tt
  does-write _ is w _ (StrikesOn n v t write fed last) = tt
  does-write _ is w _ (OrdersHold s m order n) = absurd (no-order order is)
  does-write _ is w _ (OrdersAttempt s m order n) = absurd (no-order order is)
  does-write _ is w _ (OrdersFree s m order) = absurd (no-order order is)
  does-write _ is w _ (OrdersSeal s m order n) = absurd (no-order order is)
  does-write _ is w _ (OrdersFinish s m order n) = absurd (no-order order is)
  does-write _ is w _ (OrdersFlash s m order n) = absurd (no-order order is)
  does-write _ is w _ (OrdersCommit s m order n) = absurd (no-order order is)
  does-write _ is w _ (OrdersRevert s m order n) = absurd (no-order order is)
  does-write _ is w _ (OrdersFloor s m order n) = absurd (no-order order is)
  does-write _ is w _ (SettlesCommit s m (Commits devs source sequence lets) n) = absurd cc
  does-write _ is w _ (SettlesCommit s m (Reverts devs source sequence t own same) n) = absurd cc
  does-write _ is w _ d = absurd cc

  -- its tables leave the volumes
  record Leaves (p : Plan) : Type 0 where
    first : (v : ℕ) → fields_at (p.first k) v ≡ fields_at k v
    last : (j : Control) (v : ℕ) → fields_at (p.last j) v ≡ fields_at j v

  leaves : (events : List Event) (line : ℕ) (asked : Result Step ℕ) (p : Plan) → Case k events line asked p → is_writing asked ≡ true → Leaves p
  leaves events line _ _ (Says a waits why) is = record { first = λ v. refl; last = λ j v. refl }
  leaves events line _ _ (Lists told ls few) is = record { first = λ v. refl; last = λ j v. refl }
  leaves events line _ _ (Compares contents v u) is = record { first = λ v. refl; last = λ j v. refl }
  leaves events line _ _ (PausesMirror s on) is = record { first = λ v. refl; last = λ j v. refl }
  leaves events line _ _ (Writes v t offset len bytes free) is = record { first = λ v. refl; last = λ j v. refl }
  leaves events line _ _ (Applies n p found) is = record { first = λ v. refl; last = λ j v. refl }
  leaves events line _ _ (Settles s x m found here on free hand) is = record { first = λ v. refl; last = λ j v. refl }
  leaves events line _ _ c is = absurd cc

  pub writing-begun : (w : World) → w.control ≡ k → (line : ℕ) (asked : Result Step ℕ) (p : Plan) → Case k w.events line asked p → is_writing asked ≡ true → Stays (begun w p)
  writing-begun w at line asked p c is = stays-same (p.first w.control) (λ v. ap (λ j. fields_at (p.first j) v) at ∙ (leaves w.events line asked p c is).first v)

  pub writing-last : (events : List Event) (line : ℕ) (asked : Result Step ℕ) (p : Plan) → Case k events line asked p → is_writing asked ≡ true → (w : World) → Stays w → Stays (record w { control = p.last w.control })
  writing-last events line asked p c is w stays j = subst (Fewer (fields_at k j)) (sym ((leaves events line asked p c is).last w.control j)) (stays j)

  pub writing-act : (asked : Result Step ℕ) → is_writing asked ≡ true → (w : World) (a : Act) → Does k asked w.control a → Stays w → Stays (act w a).0
  writing-act asked is w a does = stays-act w a (does-write asked is w a does)
