-- The background copy of a target, and its restore onto its source, are allowed along.
use Rattle.std.proofs.Common.{ℕ, zero, suc, ◌≡◌, ◌≢◌, ◌<◌, ◌⊎◌, inl, inr, refl, ap, sym, ◌∙◌, subst, Bool, true, false, cond, not, ◌&&◌, ◌||◌, List, [], ◌∷◌, ◌++◌, append_assoc, map, Option, Some, None}
use Rattle.std.proofs.lemmas.Bool.{and_parts, eq-eqb, not-true}
use Rattle.std.specs.List.{range_with_len}
use Rattle.std.specs.FinSet.{contains, insert, empty}
use Rattle.dr_model.specs.Layout.{Tracks, Fields}
use Rattle.dr_model.specs.Relations.{rest, in_order, lowest, is_bare, is_whole, given_up}
use Rattle.dr_model.specs.Control.{Volume, World, Fuse}
use Rattle.dr_model.specs.Moves.{Fetch, Restore, Release, fields_left, moved, tracks_after}
use Rattle.dr_model.specs.Carry.{Make, Pass, Do, Entry, now}
use Rattle.dr_model.specs.Entries.{fields_at, is_running, keep_on, times, on_found, lowest_held, fetch_next, for_lowest, give_back, takes_back}
use Rattle.dr_model.specs.Plans.{is_defined, may_copy, may_give_back, at_most, left_to_copy, copy_plan}
use Rattle.dr_model.specs.Laws.{Sound}
use Rattle.dr_model.specs.Allowed.{Runs}
use Rattle.dr_facts.proofs.Sets.{if_true, in_rest, rest_low}
use Rattle.dr_model.specs.Table.{table}
use Rattle.dr_laws_sound.proofs.KeepsRecorders.{quiet-idle}
use Rattle.dr_laws_sound.proofs.RowsAfter.{idle}
use Rattle.dr_laws_sound.proofs.Turns.{done, next_of, carried_in}
use Rattle.dr_laws_sound.proofs.KeepsSound.{Along, Then, StepHolds, over, decides, checked}
use Rattle.dr_laws_sound.proofs.CopyFirst.{Still, from, copy-first}
use Rattle.dr_laws_sound.proofs.FitsFlash.{as_begun, sound-begun, holds-entries, runs-source}
use Rattle.dr_logic.proofs.Choices.{choose_some}
use Rattle.dr_logic.proofs.Lists.{first-held}
use Rattle.dr_facts.proofs.Tracks.{empty-lowest}
use Rattle.dr_logic.proofs.Options.{none_some}
use Rattle.dr_logic.proofs.Tables.{at_same, at_other}

pub lowest-in : (n : ℕ) (s : Tracks) (t : ℕ) → lowest n s ≡ Some t → contains s t ≡ true
unfolding in_order
lowest-in n s t h = first-held (contains s) t (range_with_len 0 n) h

-- tracks are copied in the background, lowest first
module _ (v : ℕ) where
  -- what lasts: the server runs, and the target isn't restored
  record Copying (w : World) : Type 0 where
    on : Runs w v
    forward : (fields_at w.control v).reversing ≡ false
    settled : (fields_at w.control v).revertible ≡ false

  forward-if : (e r : Bool) → r ≡ false → cond e false r ≡ false
  forward-if true r h = refl
  forward-if false r h = h

  fetch-by : (w : World) (more : World → Type 0) → Sound w → Copying w → ((k : World) → Sound k → Copying k → more k)
      → (r : Bool) → (fields_at w.control v).related ≡ r
      → (o : Option ℕ) → cond r (lowest (w.control.volume v).tracks (rest (w.control.volume v).tracks (fields_at w.control v).own)) None ≡ o → Then w (on_found o (λ t. now (Fetch v t)) w.control) more
  fetch-by w more s c go r ir None io = go w s c
  fetch-by w more s c go false ir (Some t) io = absurd cc
  fetch-by w more s c go true ir (Some t) io =
      let u : Volume = w.control.volume v in
      let missing : contains (rest u.tracks u.fields.own) t ≡ true = lowest-in u.tracks (rest u.tracks u.fields.own) t io in
      let e : Bool = is_whole u.tracks (insert u.fields.own t) && not u.fields.persistent in (
        record {
          runs = c.on;
          allowed = record {
            low = rest_low u.tracks u.fields.own t missing;
            from = u.fields.source;
            related = choose_some _ _ ir;
            new = not-true _ (and_parts _ _ (sym (in_rest u.tracks u.fields.own t) ∙ missing)).1;
            forward = c.forward;
            settled = c.settled;
          };
          fits = tt;
          group = (s.rows.structure.flags v).persists;
          ready = idle w v s.queue c.on;
        },
        λ f k. let here : (done w (Fetch v t) f).control.volume v ≡ moved u (fields_left (Fetch v t) u) (carried_in w (Fetch v t)) = at_same w.control.volume v _ in
            go _ k (record { on = ap (λ (x : Volume). w.control.on x.server) here ∙ c.on; forward = ap (λ (x : Volume). x.fields.reversing) here ∙ forward-if e u.fields.reversing c.forward; settled = ap (λ (x : Volume). x.fields.revertible) here ∙ forward-if e u.fields.revertible c.settled }),
      )

  fetches : (n : ℕ) (w : World) → Sound w → Copying w → Along w (times n (fetch_next v ∷ []))
  fetches zero w s c = over w s
  fetches (suc n) w s c = decides w (fetch_next v) _ _ refl (fetch-by w _ s c (λ k sk ck. fetches n k sk ck) _ refl _ refl)

-- v is restored onto s, lowest track first, until it has none left
module _ (volumes : List ℕ) (v s : ℕ) where
  record Restoring (w : World) : Type 0 where
    on : Runs w v
    related : from w v ≡ Some s
    reversing : (fields_at w.control v).reversing ≡ true
    quiet : (fields_at w.control s).recording ≡ false
    volumes_are : w.control.volumes ≡ volumes

  -- it goes on, or nothing is left
  abbrev Going : World → Type 0
  Going w = Restoring w ⊎ (lowest_held v w.control ≡ None)

  plain : (w : World) → Sound w → Restoring w → from w s ≡ None
  plain w x r = (x.rows.structure.flash v s r.related).plain

  two : (w : World) → Sound w → Restoring w → v ≢ s
  two w x r e = none_some (plain w x r) (ap (from w) (sym e) ∙ r.related)

  restoring-still : (w m : World) → Sound w → Restoring w → Still w m → Restoring m
  restoring-still w m x r st =
      let a = st.spared v r.reversing in
      record {
        on = (λ i. st.on i (a i).server) ∙ r.on;
        related = ap (λ (x : Volume). from_fields x.fields) a ∙ r.related;
        reversing = ap (λ (x : Volume). x.fields.reversing) a ∙ r.reversing;
        quiet = ap (λ (x : Volume). x.fields.recording) (st.volume s (plain w x r)) ∙ r.quiet;
        volumes_are = st.volumes ∙ r.volumes_are;
      }
    where
      from_fields : Fields → Option ℕ
      from_fields f = cond f.related (Some f.source) None

  -- nothing is left: entries pass
  passes : (w : World) (d : ℕ → Entry) (more : List Entry) → lowest_held v w.control ≡ None → Along w more → Along w (for_lowest v d ∷ more)
  passes w d more none go = decides w (for_lowest v d) more Pass (ap (λ o. on_found o d w.control) none) go

  all-pass : (w : World) (d : ℕ → ℕ → Entry) (more : List Entry) → lowest_held v w.control ≡ None → Along w more → (xs : List ℕ) → Along w (map (λ u. for_lowest v (d u)) xs ++ more)
  all-pass w d more none go [] = go
  all-pass w d more none go (x ∷ xs) = passes w (d x) _ none (all-pass w d more none go xs)

  -- where track t is the lowest
  comes : (w : World) (d : ℕ → Entry) (t : ℕ) → lowest_held v w.control ≡ Some t → for_lowest v d w.control ≡ d t w.control
  comes w d t is = ap (λ o. on_found o d w.control) is

  -- the target gives the track up, once the source holds it
  module _ (t : ℕ) (more : List Entry) (go : (k : World) → Sound k → Going k → Along k more) where
    given : (m : World) (g : Option Fuse) → v ≢ s → Restoring m → Going (done m (Release v t) g)
    given m g ne r = by (is_bare (given_up (fields_at m.control v) t).own) refl
      where
        k : World
        k = done m (Release v t) g

        here : k.control.volume v ≡ moved (m.control.volume v) (fields_left (Release v t) (m.control.volume v)) (carried_in m (Release v t))
        here = at_same m.control.volume v _

        ended : (e related : Bool) (o : ℕ) → e ≡ false → cond (cond e false related) (Some (cond e 0 o)) None ≡ cond related (Some o) None
        ended true related o h = absurd cc
        ended false related o h = refl

        turned : (e r : Bool) → e ≡ false → cond e false r ≡ r
        turned true r h = absurd cc
        turned false r h = refl

        by : (e : Bool) → is_bare (given_up (fields_at m.control v) t).own ≡ e → Going k
        by true is = inr (ap (λ (x : Volume). lowest x.tracks x.fields.own) here ∙ ap (λ (e : Bool). lowest (m.control.volume v).tracks (cond e empty (given_up (fields_at m.control v) t).own)) is ∙ empty-lowest (m.control.volume v).tracks)
        by false is = inl (record {
          on = ap (λ (x : Volume). m.control.on x.server) here ∙ r.on;
          related = ap (λ (x : Volume). cond x.fields.related (Some x.fields.source) None) here ∙ ended _ (fields_at m.control v).related (fields_at m.control v).source is ∙ r.related;
          reversing = ap (λ (x : Volume). x.fields.reversing) here ∙ turned _ (fields_at m.control v).reversing is ∙ r.reversing;
          quiet = ap (λ (x : Volume). x.fields.recording) (at_other m.control.volume v _ s (λ e. ne (sym e))) ∙ r.quiet;
          volumes_are = r.volumes_are;
        })

    releases : (k : World) (f : Option Fuse) → Sound k → Restoring k → lowest_held v k.control ≡ Some t → Sound (done k (Restore s t v) f) → Along (done k (Restore s t v) f) (for_lowest v (λ t. now (Release v t)) ∷ more)
    releases k f x r is x2 =
        let m : World = done k (Restore s t v) f in
        let ne = two k x r in
        let same : m.control.volume v ≡ k.control.volume v = at_other k.control.volume s _ v ne in
        let bytes_s : m.contents s t ≡ k.contents v t = ap (λ (g : ℕ → List ℕ). g t) (at_same k.contents s (tracks_after (next_of k (Restore s t v)) (carried_in k (Restore s t v)) (k.contents s))) ∙ if_true _ _ (eq-eqb t t refl) in
        let bytes_v : m.contents v t ≡ k.contents v t = ap (λ (g : ℕ → List ℕ). g t) (at_other k.contents s _ v ne) in
        let lasts : Restoring m = record {
          on = ap (λ (x : Volume). k.control.on x.server) same ∙ r.on;
          related = ap (λ (x : Volume). cond x.fields.related (Some x.fields.source) None) same ∙ r.related;
          reversing = ap (λ (x : Volume). x.fields.reversing) same ∙ r.reversing;
          quiet = ap (λ (x : Volume). x.fields.recording) (at_same k.control.volume s _) ∙ r.quiet;
          volumes_are = r.volumes_are;
        } in
        let is2 : lowest_held v m.control ≡ Some t = ap (λ (x : Volume). lowest x.tracks x.fields.own) same ∙ is in
        decides m (for_lowest v (λ t. now (Release v t))) more (Do (Make (Release v t))) (comes m (λ t. now (Release v t)) t is2) (
          record {
            runs = lasts.on;
            allowed = record { from = s; related = lasts.related; reversing = lasts.reversing; holds = lowest-in _ _ t is2; equal = bytes_s ∙ sym bytes_v };
            fits = tt;
            group = lasts.reversing;
            ready = idle m v x2.queue lasts.on;
          },
          λ g x3. go _ x3 (given m g ne lasts),
        )

    -- one track
    gives : (w : World) → Sound w → Restoring w → lowest_held v w.control ≡ Some t
        → Along w (map (λ u. for_lowest v (λ t. keep_on s t u)) volumes ++ for_lowest v (λ t. now (Restore s t v)) ∷ for_lowest v (λ t. now (Release v t)) ∷ more)
    gives w x r is =
        let size : (w.control.volume v).tracks ≡ (w.control.volume s).tracks = (x.rows.structure.flash v s r.related).same_tracks in
        let held : contains (fields_at w.control v).own t ≡ true = lowest-in _ _ t is in
        let low : t < (w.control.volume s).tracks = subst (λ n. t < n) size ((x.rows.structure.lawful v).sets.own_low t held) in
        let stands : ((k : World) → Still w k → lowest_held v k.control ≡ Some t) = λ k st. ap (λ (x : Volume). lowest x.tracks x.fields.own) (st.spared v r.reversing) ∙ is in
        subst (λ vs. Along w (map (λ u. for_lowest v (λ t. keep_on s t u)) vs ++ for_lowest v (λ t. now (Restore s t v)) ∷ for_lowest v (λ t. now (Release v t)) ∷ more)) r.volumes_are
        (copy-first s t w (plain w x r) low (runs-source w x v s r.related r.on) (λ u. for_lowest v (λ t. keep_on s t u)) (λ k u y st. comes k (λ t. keep_on s t u) t (stands k st)) _
        (λ k sk st kept.
        let rk = restoring-still w k x r st in
        let on_s : Runs k s = runs-source k sk v s rk.related rk.on in
        decides k (for_lowest v (λ t. now (Restore s t v))) _ (Do (Make (Restore s t v))) (comes k (λ t. now (Restore s t v)) t (stands k st)) (
          record {
            runs = on_s;
            allowed = record { low = subst (λ (x : Volume). t < x.tracks) (sym (st.volume s (plain w x r))) low; related = rk.related; reversing = rk.reversing; holds = lowest-in _ _ t (stands k st); kept = kept; idle = rk.quiet };
            fits = tt;
            group = tt;
            ready = idle k s sk.queue on_s;
          },
          λ f x2. releases k f sk rk (stands k st) x2,
        ))
        (λ u h q. subst (λ j. contains (fields_at w.control j).own t ≡ true) (x.rows.structure.one_restore s v u r.related h r.reversing q) held)
        (λ u h. x.rows.seals.restored s v u r.related h r.reversing) x)

  -- one round, whatever is left
  round-by : (more : List Entry) → ((k : World) → Sound k → Going k → Along k more) → (w : World) → Sound w → Going w → (o : Option ℕ) → lowest_held v w.control ≡ o
      → Along w (map (λ u. for_lowest v (λ t. keep_on s t u)) volumes ++ for_lowest v (λ t. now (Restore s t v)) ∷ for_lowest v (λ t. now (Release v t)) ∷ more)
  round-by more go w x g None is = all-pass w (λ u t. keep_on s t u) _ is (passes w _ _ is (passes w _ _ is (go w x g))) volumes
  round-by more go w x (inl r) (Some t) is = gives t more go w x r is
  round-by more go w x (inr none) (Some t) is = none_some none is

  rounds : (n : ℕ) (w : World) → Sound w → Going w → Along w (times n (give_back volumes s v))
  rounds zero w x g = over w x
  rounds (suc n) w x g =
      subst (Along w) (sym (append_assoc (map (λ u. for_lowest v (λ t. keep_on s t u)) volumes) _ _)) (round-by _ (λ k sk gk. rounds n k sk gk) w x g _ refl)

module _ (w : World) (x : Sound w) (t : ℕ) where
  abbrev first : World
  first = as_begun w

  abbrev begins : Sound first
  begins = sound-begun w x

  copies-by : (n : ℕ) → Runs first t → (fields_at w.control t).related ≡ true → (fields_at w.control t).revertible ≡ false → (r : Bool) → (fields_at w.control t).reversing ≡ r → (not r || takes_back (fields_at w.control t).source w.control) ≡ true
      → Along first (times n (cond r (give_back w.control.volumes (fields_at w.control t).source t) (fetch_next t ∷ [])))
  copies-by n on related settled false is back = fetches t n first begins (record { on = on; forward = is; settled = settled })
  copies-by n on related settled true is back = rounds w.control.volumes t (fields_at w.control t).source n first begins (inl (record { on = on; related = choose_some _ _ related; reversing = is; quiet = quiet-idle (table w (fields_at w.control t).source) (x.rows.recorders (fields_at w.control t).source) back; volumes_are = refl }))

  pub along-copy : (most : Option ℕ) → Along first (copy_plan w.control t most).entries
  along-copy most =
      checked first (is_defined t) _ _ begins (λ there.
      checked first (is_running t) _ _ begins (λ on.
      checked first (may_copy t) _ _ begins (λ may.
      checked first (may_give_back t) _ _ begins (λ back.
      copies-by (at_most most (left_to_copy w.control t)) on (and_parts (fields_at w.control t).related _ may).0 (not-true _ (and_parts (not (fields_at w.control t).revertible) _ (and_parts (fields_at w.control t).related _ may).1).0) _ refl back))))

  pub holds-copy : (most : Option ℕ) → StepHolds w (copy_plan w.control t most)
  holds-copy most = holds-entries w _ _ x (along-copy most)
