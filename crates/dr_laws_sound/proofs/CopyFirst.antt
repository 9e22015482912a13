-- After copy first over all volumes each target of v holds track t, but one that is restored onto v, which holds it before.
use Rattle.std.proofs.Common.{ℕ, ◌≡◌, ◌≢◌, ◌<◌, inl, inr, refl, ap, sym, ◌∙◌, subst, Bool, true, false, cond, not, ◌&&◌, ◌||◌, nat_eq, List, [], ◌∷◌, ◌++◌, map, filter, Option, Some, None}
use Rattle.std.proofs.lemmas.List.{append-nil}
use Rattle.std.proofs.lemmas.Bool.{ne_eqb, false≢true}
use Rattle.std.proofs.lemmas.Bool.Decides.{eqb_tells}
use Rattle.std.specs.List.{list_any}
use Rattle.std.specs.FinSet.{contains, insert, empty}
use Rattle.dr_logic.specs.Tables.{at}
use Rattle.dr_model.specs.Layout.{Tracks, Fields}
use Rattle.dr_model.specs.Histories.{histories}
use Rattle.dr_model.specs.Control.{Volume, World}
use Rattle.dr_model.specs.Views.{source_of}
use Rattle.dr_model.specs.Relations.{is_whole}
use Rattle.dr_model.specs.Moves.{Keep, Note, fields_left}
use Rattle.dr_model.specs.Carry.{Make, Pass, Do, Entry}
use Rattle.dr_model.specs.Entries.{keep_on, keep_if, copies_from, fields_at}
use Rattle.dr_model.specs.Table.{table}
use Rattle.dr_model.specs.Laws.{Sound}
use Rattle.dr_model.specs.Allowed.{Kept, Runs}
use Rattle.dr_model.proofs.Images.{histories-append}
use Rattle.dr_facts.proofs.Tables.{at_cases}
use Rattle.dr_facts.proofs.Sets.{not_turned}
use Rattle.dr_laws_sound.proofs.RowsAfter.{idle}
use Rattle.dr_laws_sound.proofs.Turns.{done}
use Rattle.dr_laws_sound.proofs.KeepsSound.{Along, Then, decides}
use Rattle.dr_logic.proofs.Choices.{chosen}
use Rattle.dr_logic.proofs.Sets.{in_insert}
use Rattle.dr_facts.proofs.Relations.{from-copies, copies-from}
use Rattle.dr_logic.proofs.Truth.{false_true}
use Rattle.dr_logic.proofs.Options.{none_some}
use Rattle.dr_logic.proofs.Tables.{at_other}

-- the source of a target, and who is its target
abbrev pub from : World → ℕ → Option ℕ
from w u = source_of (fields_at w.control u)

-- a number of a list that passes both tests
pub any-has : (p q : ℕ → Bool) (u : ℕ) (xs : List ℕ) → list_any (nat_eq u) xs ≡ true → p u ≡ true → q u ≡ true → list_any q (filter p xs) ≡ true
any-has p q u [] h is so = absurd (false≢true h)
any-has p q u (x ∷ xs) h is so = elim (eqb_tells u x) [
  | inl e ↦ ap (λ b. list_any q (cond b (x ∷ filter p xs) (filter p xs))) (ap p (sym e.1) ∙ is) ∙ ap (λ b. b || list_any q (filter p xs)) (ap q (sym e.1) ∙ so)
  | inr ne ↦ either (p x) (any-has p q u xs (ap (λ b. b || list_any (nat_eq u) xs) (sym ne.0) ∙ h) is so)
]
  where
    or-right : (a b : Bool) → b ≡ true → (a || b) ≡ true
    or-right true b h = refl
    or-right false b h = h

    either : (b : Bool) → list_any q (filter p xs) ≡ true → list_any q (cond b (x ∷ filter p xs) (filter p xs)) ≡ true
    either true h = or-right (q x) _ h
    either false h = h

-- what moves on targets alone leave
pub record Still (w v : World) : Type 0 where
  pub volume : (u : ℕ) → from w u ≡ None → v.control.volume u ≡ w.control.volume u
  pub contents : (u : ℕ) → from w u ≡ None → v.contents u ≡ w.contents u
  pub spared : (u : ℕ) → (fields_at w.control u).reversing ≡ true → v.control.volume u ≡ w.control.volume u
  pub turned : (u s : ℕ) → from v u ≡ Some s → (fields_at v.control u).reversing ≡ true → (from w u ≡ Some s) × ((fields_at w.control u).reversing ≡ true)
  pub flashed : (u s : ℕ) → from v u ≡ Some s → (fields_at v.control u).revertible ≡ true → (from w u ≡ Some s) × ((fields_at w.control u).revertible ≡ true)
  pub on : v.control.on ≡ w.control.on
  pub link : v.control.link ≡ w.control.link
  pub paths : v.control.paths ≡ w.control.paths
  pub volumes : v.control.volumes ≡ w.control.volumes
  pub issued : v.control.issued ≡ w.control.issued
  pub pending : v.control.pending ≡ w.control.pending
  pub lists : histories v.events ≡ histories w.events

pub still : (w : World) → Still w w
still w = record { volume = λ u h. refl; contents = λ u h. refl; spared = λ u h. refl; turned = λ u s h r. (h, r); flashed = λ u s h r. (h, r); on = refl; link = refl; paths = refl; volumes = refl; issued = refl; pending = refl; lists = refl }

-- a move on a target
still-done : (w v : World) (u s : ℕ) (x : Volume) (bytes : ℕ → List ℕ) → Still w v → from v u ≡ Some s → (fields_at v.control u).reversing ≡ false → ((s : ℕ) → source_of x.fields ≡ Some s → x.fields.reversing ≡ true → ⊥) → ((s : ℕ) → source_of x.fields ≡ Some s → x.fields.revertible ≡ true → ⊥)
    → (k : World) → k.control.volume ≡ at v.control.volume u x → k.contents ≡ at v.contents u bytes → k.control.on ≡ v.control.on → k.control.link ≡ v.control.link → k.control.paths ≡ v.control.paths → k.control.volumes ≡ v.control.volumes → k.control.issued ≡ v.control.issued
    → k.control.pending ≡ v.control.pending → histories k.events ≡ histories v.events → Still w k
still-done w v u s x bytes old is forward never calm k volume contents on link paths volumes issued pending lists =
    let other : ((j : ℕ) → from w j ≡ None → j ≢ u) = λ j none e. none_some (ap (λ (x : Volume). source_of x.fields) (old.volume j none) ∙ none) (ap (from v) e ∙ is) in
    record {
      volume = λ j none. ap (λ (g : ℕ → Volume). g j) volume ∙ at_other v.control.volume u x j (other j none) ∙ old.volume j none;
      spared = λ j rev. ap (λ (g : ℕ → Volume). g j) volume
          ∙ at_other v.control.volume u x j (λ e. false≢true (sym (ap (λ j. (fields_at v.control j).reversing) e ∙ forward) ∙ ap (λ (x : Volume). x.fields.reversing) (old.spared j rev) ∙ rev)) ∙ old.spared j rev;
      turned = λ j s h r.
          at_cases (λ j (y : Volume). source_of y.fields ≡ Some s → y.fields.reversing ≡ true → (from w j ≡ Some s) × ((fields_at w.control j).reversing ≡ true)) v.control.volume u x
          (λ h r. absurd (never s h r)) (λ q ne h r. old.turned q s h r) j
          (ap (λ (g : ℕ → Volume). source_of (g j).fields) (sym volume) ∙ h) (ap (λ (g : ℕ → Volume). (g j).fields.reversing) (sym volume) ∙ r);
      flashed = λ j s h r.
          at_cases (λ j (y : Volume). source_of y.fields ≡ Some s → y.fields.revertible ≡ true → (from w j ≡ Some s) × ((fields_at w.control j).revertible ≡ true)) v.control.volume u x
          (λ h r. absurd (calm s h r)) (λ q ne h r. old.flashed q s h r) j
          (ap (λ (g : ℕ → Volume). source_of (g j).fields) (sym volume) ∙ h) (ap (λ (g : ℕ → Volume). (g j).fields.revertible) (sym volume) ∙ r);
      contents = λ j none. ap (λ (g : ℕ → ℕ → List ℕ). g j) contents ∙ at_other v.contents u bytes j (other j none) ∙ old.contents j none;
      on = on ∙ old.on;
      link = link ∙ old.link;
      paths = paths ∙ old.paths;
      volumes = volumes ∙ old.volumes;
      issued = issued ∙ old.issued;
      pending = pending ∙ old.pending;
      lists = lists ∙ old.lists;
    }

-- what isn't so
pub unturned : (b : Bool) → (b ≡ true → ⊥) → b ≡ false
unturned true none = absurd (none refl)
unturned false none = refl

module _ (v t : ℕ) where
  -- what is left to do: the volumes of the list
  pub record Left (left : List ℕ) (w : World) : Type 0 where
    pub own : (u : ℕ) → list_any (nat_eq u) left ≡ false → from w u ≡ Some v → contains (fields_at w.control u).own t ≡ true
    pub noted : (u : ℕ) → list_any (nat_eq u) left ≡ false → from w u ≡ Some v → (fields_at w.control u).recorded ≡ true → (fields_at w.control u).reversing ≡ false → contains (fields_at w.control u).source_changes t ≡ true
    pub spared : (u : ℕ) → from w u ≡ Some v → (fields_at w.control u).reversing ≡ true → contains (fields_at w.control u).own t ≡ true
    pub settled : (u : ℕ) → from w u ≡ Some v → (fields_at w.control u).revertible ≡ true → ⊥

  pub kept : (w : World) → Left [] w → Kept (table w) v t
  kept w l = record { own = λ u h. l.own u refl h; noted = λ u h r f. l.noted u refl h r f; settled = λ u h. unturned (fields_at w.control u).revertible (l.settled u h) }

  -- one volume less is left, where it is as it should
  less : (x : ℕ) (left : List ℕ) (w : World) → Left (x ∷ left) w
      → (from w x ≡ Some v → (contains (fields_at w.control x).own t ≡ true) × ((fields_at w.control x).recorded ≡ true → (fields_at w.control x).reversing ≡ false → contains (fields_at w.control x).source_changes t ≡ true))
      → Left left w
  less x left w l here = record {
    own = λ u n h. elim (eqb_tells u x) [
      | inl is ↦ subst (λ j. contains (fields_at w.control j).own t ≡ true) (sym is.1) (here (ap (from w) (sym is.1) ∙ h)).0
      | inr not ↦ l.own u (ap (λ b. b || list_any (nat_eq u) left) not.0 ∙ n) h
    ];
    noted = λ u n h r f. elim (eqb_tells u x) [
      | inl is ↦ subst (λ j. contains (fields_at w.control j).source_changes t ≡ true) (sym is.1)
          ((here (ap (from w) (sym is.1) ∙ h)).1 (ap (λ j. (fields_at w.control j).recorded) (sym is.1) ∙ r) (ap (λ j. (fields_at w.control j).reversing) (sym is.1) ∙ f))
      | inr not ↦ l.noted u (ap (λ b. b || list_any (nat_eq u) left) not.0 ∙ n) h r f
    ];
    spared = l.spared;
    settled = l.settled;
  }

  -- or was made so, and isn't being restored
  made : (x : ℕ) (left : List ℕ) (w : World) (f : Volume) (k : World) → k.control.volume ≡ at w.control.volume x f → Left (x ∷ left) w
      → (source_of f.fields ≡ Some v → contains f.fields.own t ≡ true) → (source_of f.fields ≡ Some v → f.fields.recorded ≡ true → contains f.fields.source_changes t ≡ true) → ((s : ℕ) → source_of f.fields ≡ Some s → f.fields.reversing ≡ true → ⊥) → (source_of f.fields ≡ Some v → f.fields.revertible ≡ true → ⊥)
      → Left left k
  made x left w f k volume l own noted never settled = subst (λ (g : ℕ → Volume). Left left (record k { control = record k.control { volume = g } })) (sym volume) (record {
    own = at_cases (λ u y. list_any (nat_eq u) left ≡ false → source_of y.fields ≡ Some v → contains y.fields.own t ≡ true) w.control.volume x f (λ n. own) (λ u ne n. l.own u (λ i. ne_eqb u x ne i || n i));
    noted = at_cases (λ u y. list_any (nat_eq u) left ≡ false → source_of y.fields ≡ Some v → y.fields.recorded ≡ true → y.fields.reversing ≡ false → contains y.fields.source_changes t ≡ true) w.control.volume x f
        (λ n h r rev. noted h r) (λ u ne n. l.noted u (λ i. ne_eqb u x ne i || n i));
    spared = at_cases (λ u y. source_of y.fields ≡ Some v → y.fields.reversing ≡ true → contains y.fields.own t ≡ true) w.control.volume x f (λ h r. absurd (never v h r)) (λ u ne. l.spared u);
    settled = at_cases (λ u y. source_of y.fields ≡ Some v → y.fields.revertible ≡ true → ⊥) w.control.volume x f settled (λ u ne. l.settled u);
  })

  -- what a target becomes
  kept-own : (e related : Bool) (o : ℕ) (own : Tracks) → cond (cond e false related) (Some (cond e 0 o)) None ≡ Some v → contains (cond e empty (insert own t)) t ≡ true
  kept-own true related o own h = absurd cc
  kept-own false related o own h = in_insert own t

  kept-noted : (e related r : Bool) (o : ℕ) (changes : Tracks) → cond (cond e false related) (Some (cond e 0 o)) None ≡ Some v → cond e false r ≡ true → contains (cond e empty (cond r (insert changes t) changes)) t ≡ true
  kept-noted true related r o changes h is = absurd cc
  kept-noted false related true o changes h is = in_insert changes t
  kept-noted false related false o changes h is = absurd cc

  noted-has : (r : Bool) (changes : Tracks) → r ≡ true → contains (cond r (insert changes t) changes) t ≡ true
  noted-has true changes h = in_insert changes t
  noted-has false changes h = absurd cc

  module _ (first : World) (plain : from first v ≡ None) (low : t < (first.control.volume v).tracks) (running : Runs first v) where
    low-at : (w : World) → Sound w → Still first w → (x : ℕ) → from w x ≡ Some v → t < (w.control.volume x).tracks
    low-at w s st x is = subst (λ n. t < n) (sym ((s.rows.structure.flash x v is).same_tracks ∙ ap (λ (y : Volume). y.tracks) (st.volume v plain))) low

    runs-at : (w : World) → Sound w → Still first w → (x : ℕ) → from w x ≡ Some v → Runs w x
    runs-at w s st x is = (λ i. st.on i (((s.rows.structure.flash x v is).same_server ∙ ap (λ (y : Volume). y.server) (st.volume v plain)) i)) ∙ running

    -- the act for volume x, by what decides it
    act-by : (w : World) (x : ℕ) (left : List ℕ) (more : World → Type 0) → Sound w → Still first w → Left (x ∷ left) w
        → ((k : World) → Sound k → Still first k → Left left k → more k)
        → let f : Fields = fields_at w.control x in (b rev own r c : Bool) → copies_from v f ≡ b → f.reversing ≡ rev → contains f.own t ≡ own → f.recorded ≡ r → contains f.source_changes t ≡ c
        → Then w (cond (b && not rev) (cond (not own) (Do (Make (Keep x t))) (cond (r && not c) (Do (Make (Note x t))) Pass)) Pass) more
    act-by w x left more s st l go false rev own r c ib iv io ir ic = go w s st (less x left w l (λ h. false_true ib (from-copies v (fields_at w.control x) h)))
    act-by w x left more s st l go true true own r c ib iv io ir ic = go w s st (less x left w l (λ h. (l.spared x h iv, λ r f. false_true f iv)))
    act-by w x left more s st l go true false false r c ib iv io ir ic =
        let is = copies-from v (fields_at w.control x) ib in
        let u : Volume = w.control.volume x in
        let g : Fields = fields_left (Keep x t) u in
        let e : Bool = is_whole u.tracks (insert u.fields.own t) && not u.fields.persistent in
        let calm : u.fields.revertible ≡ false = unturned u.fields.revertible (l.settled x is) in
        let never : ((s : ℕ) → source_of g ≡ Some s → g.reversing ≡ true → ⊥) = λ s h. not_turned e u.fields.reversing iv in
        let final : ((s : ℕ) → source_of g ≡ Some s → g.revertible ≡ true → ⊥) = λ s h. not_turned e u.fields.revertible calm in (
          record { runs = runs-at w s st x is; allowed = record { low = low-at w s st x is; from = v; related = is; new = io; forward = iv; settled = calm }; fits = tt; group = (s.rows.structure.flags x).persists; ready = idle w x s.queue (runs-at w s st x is) },
          λ f k. go _ k (still-done first w x v _ _ st is iv never final (done w (Keep x t) f) refl refl refl refl refl refl refl refl (histories-append w.events _))
              (made x left w _ (done w (Keep x t) f) refl l (kept-own e u.fields.related u.fields.source u.fields.own) (kept-noted e u.fields.related u.fields.recorded u.fields.source u.fields.source_changes) never (final v)),
        )
    act-by w x left more s st l go true false true true false ib iv io ir ic =
        let is = copies-from v (fields_at w.control x) ib in
        let calm : (fields_at w.control x).revertible ≡ false = unturned (fields_at w.control x).revertible (l.settled x is) in
        let never : ((s : ℕ) → from w x ≡ Some s → (fields_at w.control x).reversing ≡ true → ⊥) = λ s h r. false_true iv r in (
          record { runs = runs-at w s st x is; allowed = record { low = low-at w s st x is; from = v; related = is; held = io; forward = iv; settled = calm }; fits = tt; group = tt; ready = idle w x s.queue (runs-at w s st x is) },
          λ f k. go _ k (still-done first w x v _ _ st is iv never (λ s h r. false_true calm r) (done w (Note x t) f) refl refl refl refl refl refl refl refl (ap histories (append-nil w.events)))
              (made x left w _ (done w (Note x t) f) refl l (λ h. io) (λ h r. noted-has _ _ r) never (l.settled x)),
        )
    act-by w x left more s st l go true false true true true ib iv io ir ic = go w s st (less x left w l (λ h. (io, λ r f. ic)))
    act-by w x left more s st l go true false true false c ib iv io ir ic = go w s st (less x left w l (λ h. (io, λ r f. false_true ir r)))

    -- all of them, by entries that come to this all along
    along-copy : (entry : ℕ → Entry) → ((w : World) (x : ℕ) → Sound w → Still first w → entry x w.control ≡ keep_on v t x w.control)
        → (more : List Entry) → ((k : World) → Sound k → Still first k → Kept (table k) v t → Along k more)
        → (left : List ℕ) (w : World) → Sound w → Still first w → Left left w → Along w (map entry left ++ more)
    along-copy entry comes more go [] w s st l = go w s st (kept w l)
    along-copy entry comes more go (x ∷ left) w s st l = decides w (entry x) _ _ (comes w x s st) (act-by w x left _ s st l (along-copy entry comes more go left) _ _ _ _ _ refl refl refl refl refl)

    -- over the volumes that are defined
    pub copy-first : (entry : ℕ → Entry) → ((w : World) (x : ℕ) → Sound w → Still first w → entry x w.control ≡ keep_on v t x w.control)
        → (more : List Entry) → ((k : World) → Sound k → Still first k → Kept (table k) v t → Along k more)
        → ((u : ℕ) → from first u ≡ Some v → (fields_at first.control u).reversing ≡ true → contains (fields_at first.control u).own t ≡ true)
        → ((u : ℕ) → from first u ≡ Some v → (fields_at first.control u).revertible ≡ true → ⊥)
        → Sound first → Along first (map entry first.control.volumes ++ more)
    copy-first entry comes more go spared settled s = along-copy entry comes more go first.control.volumes first s (still first) (record {
      own = λ u n h. false_true n (there u h);
      noted = λ u n h r f. false_true n (there u h);
      spared = spared;
      settled = settled;
    })
      where
        there : (u : ℕ) → from first u ≡ Some v → list_any (nat_eq u) first.control.volumes ≡ true
        there u h = s.rows.structure.defined u (chosen _ _ v h).0

-- a volume that is a target itself has no targets: nothing is to be kept
pub copy-none : (w : World) (v t : ℕ) (more : List Entry) → ((u : ℕ) → from w u ≡ Some v → ⊥) → Along w more → (xs : List ℕ) → Along w (map (keep_on v t) xs ++ more)
copy-none w v t more none go [] = go
copy-none w v t more none go (x ∷ xs) = decides w (keep_on v t x) _ _ refl (pass (copy-none w v t more none go xs) _ refl)
  where
    pass : Along w (map (keep_on v t) xs ++ more) → (b : Bool) → copies_from v (fields_at w.control x) ≡ b → Then w (cond (b && not (fields_at w.control x).reversing) (keep_if (fields_at w.control x) x t) Pass) (λ k. Along k (map (keep_on v t) xs ++ more))
    pass on true is = absurd (none x (copies-from v (fields_at w.control x) is))
    pass on false is = on
