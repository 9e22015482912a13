-- The start of a server in freeze windows: it leaves no pair torn.
use Rattle.std.proofs.Common.{ℕ, ◌≡◌, ◌≢◌, inl, inr, refl, ap, sym, ◌∙◌, subst, Bool, true, false, cond, not, ◌&&◌, ◌||◌, nat_eq, List, [], ◌∷◌, ◌++◌, Option, Some, None}
use Rattle.std.specs.Prelude.{option_map}
use Rattle.std.proofs.lemmas.Bool.{and_parts, and_from, eq-eqb, eqb-true, ne_eqb, false≢true, or_parts}
use Rattle.std.proofs.lemmas.Bool.Decides.{eqb_tells}
use Rattle.std.specs.List.{list_any}
use Rattle.std.specs.FinSet.{contains}
use Rattle.dr_logic.specs.Tables.{at}
use Rattle.dr_ids.specs.declared.refusal.Refusal.{Refusal}
use Rattle.dr_ids.specs.declared.refusal.Refusal.TheVariants.{Stopped as StoppedIn}
use Rattle.dr_model.specs.declared.event.Event.TheVariants.{Ack, Started, Stopped}
use Rattle.dr_model.specs.Layout.{Fields}
use Rattle.dr_model.specs.Relations.{is_bare}
use Rattle.dr_model.specs.Control.{Pending, Fuse, Volume, World, is_volume}
use Rattle.dr_model.specs.Pairs.{is_metro, is_full_duplex, is_torn, is_engaged, must_restart}
use Rattle.dr_model.specs.declared.state.PairState.TheVariants.{CopyPending}
use Rattle.dr_model.specs.Moves.{Restart, fields_left}
use Rattle.dr_model.specs.Carry.{Make, Redo, Pass, Do, Entry, acknowledged}
use Rattle.dr_model.specs.Entries.{fields_at}
use Rattle.dr_model.specs.WriteEntries.{belongs, redo_on, restart_on, start_entries}
use Rattle.dr_model.specs.Plans.{Plan, acknowledge_on, acknowledge_if, start_plan}
use Rattle.dr_model.specs.Runs.{begun}
use Rattle.dr_model.specs.Laws.{servers}
use Rattle.dr_model.specs.Allowed.{Runs}
use Rattle.dr_laws_closed.proofs.Pendings.{each-on}
use Rattle.dr_facts.proofs.Tables.{IsOrNot, at_cases, at_part}
use Rattle.dr_laws_sound.proofs.Turns.{done, done_in_stop, not_done, fused}
use Rattle.dr_laws_sound.proofs.FitsPairs.{row}
use Rattle.dr_laws_sound.proofs.Starts as starts
use Rattle.dr_laws_freezes.proofs.WindowMoves.{Unacked, come}
use Rattle.dr_laws_freezes.proofs.InSync.{Clean, Free, free-left, clean-left, Fresh, FullDuplexInSync, fresh-by, fresh-told, fresh-done, fresh-stop, all-other, above}
use Rattle.dr_laws_freezes.proofs.Chains.{WindowAlong, window_next, window-entry, window-nil, PlanFin, good-none}
use Rattle.dr_laws_freezes.proofs.WindowActs.{Between}
use Rattle.dr_laws_freezes.proofs.WindowPlans.{good-between, answers-between, EntriesHold}
use Rattle.dr_facts.proofs.Tracks.{bare-has}
use Rattle.dr_logic.proofs.Tables.{at_same, at_other}

-- a pair that isn't torn is clean, and so is one that goes on
not-torn : (f : Fields) → is_torn f ≡ false → Clean f
not-torn f h synced t = let both = and_parts (is_metro f.primary) (is_full_duplex f.primary_state) synced in bare-has f.out_of_sync t (by (is_metro f.primary) (is_full_duplex f.primary_state) (is_bare f.out_of_sync) both.0 both.1 h)
  where
    by : (a b c : Bool) → a ≡ true → b ≡ true → (a && (b && not c)) ≡ false → c ≡ true
    by true true true x y h = refl
    by true true false x y h = absurd cc
    by true false c x y h = absurd cc
    by false b c x y h = absurd cc

goes-on : (v : ℕ) (u : Volume) → Free u.fields → Clean (fields_left (Restart v) u)
goes-on v u free h t =
    let f : Fields = u.fields in
    let both = and_parts (is_metro f.primary) (is_full_duplex (cond (is_torn f) CopyPending f.primary_state)) h in
    by (is_torn f) refl both.0 both.1
  where
    by : (b : Bool) → is_torn u.fields ≡ b → is_metro u.fields.primary ≡ true → is_full_duplex (cond b CopyPending u.fields.primary_state) ≡ true → contains (fields_left (Restart v) u).out_of_sync t ≡ false
    by true is metro duplex = absurd cc
    by false is metro duplex = clean-left (Restart v) u tt tt free (not-torn u.fields is) h t

module _ (s : ℕ) where
  -- what holds while these volumes are left to go on
  record Going (left : List ℕ) (w : World) : Type 0 where
    inner : starts.Inner s w
    clean : (v : ℕ) → is_volume w.control v ≡ true → Runs w v → (servers w.control v ≡ s → list_any (nat_eq v) left ≡ false) → Clean (fields_at w.control v)
    free : (v : ℕ) → Free (fields_at w.control v)
    fresh : Fresh w

  -- the server stopped again: the others are clean
  off-in_sync : (w u : World) (left : List ℕ) → Going left w → u.control.volumes ≡ w.control.volumes → u.control.on ≡ at w.control.on s false → ((v : ℕ) → (servers w.control v ≡ s → ⊥) → u.control.volume v ≡ w.control.volume v) → ((v : ℕ) → servers u.control v ≡ servers w.control v)
      → ((v : ℕ) → Free (fields_at u.control v)) → Fresh u → FullDuplexInSync u
  off-in_sync w u left g volumes on same server free fresh = record {
    clean = λ v there runs.
        let here : at w.control.on s false (servers w.control v) ≡ true = (λ i. at w.control.on s false (sym (server v) i)) ∙ (λ i. sym on i (servers u.control v)) ∙ runs in
        let ne : (servers w.control v ≡ s → ⊥) = λ e. false≢true (sym (ap (at w.control.on s false) e ∙ at_same w.control.on s false) ∙ here) in
        subst (λ (y : Volume). Clean y.fields) (sym (same v ne)) (g.clean v (sym (ap (λ vs. list_any (nat_eq v) vs) volumes) ∙ there) (sym (at_other w.control.on s false (servers w.control v) ne) ∙ here) (λ e. absurd (ne e)));
    free = free;
    fresh = fresh;
  }

  module _ (w0 : World) where
    abbrev p : Plan
    p = start_plan w0.control s

    abbrev Fin : Option ℕ → World → Option Refusal → Type 0
    Fin = PlanFin Between good-between answers-between p

    fin : (u : World) (r : Option Refusal) → Between u → Fin None u r
    fin u None b = b
    fin u (Some (StoppedIn x)) b = λ n. (good-none u b.sound.rows b.in_sync.fresh b.sound.queue.lone, b)
    fin u (Some r) b = b

    acknowledges : (w : World) → Going [] w → WindowAlong Fin None w (acknowledge_on s ∷ [])
    acknowledges w g = window-entry Fin None w (acknowledge_on s) [] (acknowledge_if (option_map (λ (p : Pending). p.w) (starts.first_landed s w))) refl (good-none w g.inner.sound.rows g.fresh g.inner.sound.queue.lone) (by (starts.first_landed s w) refl)
      where
        by : (o : Option Pending) → starts.first_landed s w ≡ o → window_next Fin None w (acknowledge_if (option_map (λ (p : Pending). p.w) o)) (λ tag v. WindowAlong Fin tag v [])
        by None none =
            let b : Between w = record {
              sound = starts.sound-free s w g.inner.sound (starts.none-found (servers w.control) (is_volume w.control) s w.control.pending (starts.are-defined s w g.inner.sound) none);
              in_sync = record { clean = λ v there runs. g.clean v there runs (λ e. refl); free = g.free; fresh = g.fresh };
            } in
            window-nil Fin None w (good-none w g.inner.sound.rows g.fresh g.inner.sound.queue.lone) b
        by (Some x) first =
            let u : World = acknowledged w x.w in
            let gone = starts.gone s w g.inner.sound x first in
            let waits = starts.waits s w g.inner.sound x first in
            let b : Between u = record {
              sound = starts.sound-free s u (starts.acknowledges s w g.inner.sound x first) gone.free;
              in_sync = record {
                clean = λ v there runs. g.clean v there runs (λ e. refl);
                free = g.free;
                fresh = fresh-by w u (Ack x.w ∷ []) refl refl (each-on (λ y a. (a.0, ap (λ b. b || false) (ne_eqb x.w y.w (λ e. a.1 (sym e))))) _ (all-other (λ y. Unacked w y.w) x.w w.control.pending g.fresh.unacked))
                    (λ n lt. ap (λ b. b || false) (ne_eqb x.w n (above x.w w.control.issued n waits.number lt))) g.fresh;
              };
            } in (
              record { number = waits.number; volume = x.volume; track = x.track; on_volume = waits.volume; on_track = waits.track; here = gone.here; gone = gone.gone; else = gone.else },
              λ f. window-nil Fin None u (good-none u b.sound.rows b.in_sync.fresh b.sound.queue.lone) b,
              (tt, λ d f. absurd d),
            )

    -- a volume writes its staged track to its place
    redoes : (w : World) (v : ℕ) (left : List ℕ) (ds : List Entry) → Going left w → ((k : World) → Going left k → WindowAlong Fin None k ds) → WindowAlong Fin None w (redo_on s v ∷ ds)
    redoes w v left ds g go = window-entry Fin None w (redo_on s v) ds (cond (belongs w.control s v) (Do (Redo v)) Pass) refl (good-none w g.inner.sound.rows g.fresh g.inner.sound.queue.lone) (by (belongs w.control s v) refl)
      where
        by : (b : Bool) → belongs w.control s v ≡ b → window_next Fin None w (cond b (Do (Redo v)) Pass) (λ tag v. WindowAlong Fin tag v ds)
        by false is = go w g
        by true is =
            let own : servers w.control v ≡ s = eqb-true (servers w.control v) s (and_parts (is_volume w.control v) _ is).1 in
            let may : starts.MayStart s w (Redo v) = record { own = own; on = g.inner.on } in
            let x : ℕ = servers w.control v in (
              ap w.control.on own ∙ g.inner.on,
              λ f. go (fused w x f) (record { inner = (starts.keeps s).does w (Redo v) f g.inner may; clean = g.clean; free = g.free; fresh = record { unacked = g.fresh.unacked; later = g.fresh.later } }),
              (
                tt,
                λ d f. fin (not_done w x f) (Some (StoppedIn (record { 0 = x }))) (record {
                  sound = (starts.keeps s).fails w (Redo v) f d g.inner may;
                  in_sync = off-in_sync w (not_done w x f) left g refl (ap (λ x. at w.control.on x false) own) (λ v ne. refl) (λ v. refl) g.free (fresh-told w (not_done w x f) (Stopped x 0 ∷ []) refl refl g.fresh.unacked (λ n. refl) g.fresh);
                }),
              ),
            )

    -- and goes on
    restarts : (w : World) (v : ℕ) (left : List ℕ) (ds : List Entry) → Going (v ∷ left) w → ((k : World) → Going left k → WindowAlong Fin None k ds) → WindowAlong Fin None w (restart_on s v ∷ ds)
    restarts w v left ds g go =
        window-entry Fin None w (restart_on s v) ds (cond (belongs w.control s v && must_restart (fields_at w.control v)) (Do (Make (Restart v))) Pass) refl (good-none w g.inner.sound.rows g.fresh g.inner.sound.queue.lone)
        (by (belongs w.control s v && must_restart (fields_at w.control v)) refl)
      where
        -- the others are as they were
        other : (u : ℕ) → is_volume w.control u ≡ true → Runs w u → u ≢ v → (servers w.control u ≡ s → list_any (nat_eq u) left ≡ false) → Clean (fields_at w.control u)
        other u there runs ne none = g.clean u there runs (λ e. ap (λ b. b || list_any (nat_eq u) left) (ne_eqb u v ne) ∙ none e)

        unneeded : (belongs w.control s v && must_restart (fields_at w.control v)) ≡ false → is_volume w.control v ≡ true → servers w.control v ≡ s → is_torn (fields_at w.control v) ≡ false
        unneeded is there own =
            (or_parts (is_engaged (fields_at w.control v)) (is_torn (fields_at w.control v)) (sym (ap (λ b. b && must_restart (fields_at w.control v)) (and_from (is_volume w.control v) (nat_eq (servers w.control v) s) there (eq-eqb (servers w.control v) s own))) ∙ is)).1

        by : (b : Bool) → (belongs w.control s v && must_restart (fields_at w.control v)) ≡ b → window_next Fin None w (cond b (Do (Make (Restart v))) Pass) (λ tag v. WindowAlong Fin tag v ds)
        by false is = go w (record { inner = g.inner; clean = λ u there runs none. clean u there runs none (eqb_tells u v) (eqb_tells (servers w.control u) s); free = g.free; fresh = g.fresh })
          where
            clean : (u : ℕ) → is_volume w.control u ≡ true → Runs w u → (servers w.control u ≡ s → list_any (nat_eq u) left ≡ false) → IsOrNot u v → IsOrNot (servers w.control u) s → Clean (fields_at w.control u)
            clean u there runs none (inr ne) t = other u there runs ne.1 none
            clean u there runs none (inl e) (inl own) = subst (λ v. (is_volume w.control v ≡ true → servers w.control v ≡ s → is_torn (fields_at w.control v) ≡ false) → Clean (fields_at w.control u)) e.1 (λ h. not-torn (fields_at w.control u) (h there own.1)) (unneeded is)
            clean u there runs none (inl e) (inr apart) = g.clean u there runs (λ own. absurd (apart.1 own))
        by true is =
            let own : servers w.control v ≡ s = eqb-true (servers w.control v) s (and_parts (is_volume w.control v) _ (and_parts (belongs w.control s v) _ is).0).1 in
            let may : starts.OnServer s w v = record { own = own; on = g.inner.on } in
            let frees : ((f : Option Fuse) (u : ℕ) → Free (at w.control.volume v (row w (Restart v) f) u).fields) = λ f u. at_cases (λ u (y : Volume). Free y.fields) w.control.volume v (row w (Restart v) f) (free-left (Restart v) (w.control.volume v) tt (g.free v)) (λ u ne. g.free u) u in
            let servers_are : ((f : Option Fuse) (u : ℕ) → (at w.control.volume v (row w (Restart v) f) u).server ≡ servers w.control u) = λ f u. at_part (λ (y : Volume). y.server) w.control.volume v (row w (Restart v) f) refl u in (
              (starts.may-restart s w v may, tt, tt),
              λ f. go (done w (Restart v) f) (record {
                inner = (starts.keeps s).does w (Make (Restart v)) f g.inner may;
                clean = λ u there runs none. at_cases (λ u (y : Volume). is_volume w.control u ≡ true → Runs w u → (servers w.control u ≡ s → list_any (nat_eq u) left ≡ false) → Clean y.fields) w.control.volume v (row w (Restart v) f)
                    (λ there runs none. goes-on v (w.control.volume v) (g.free v)) (λ u ne there runs none. other u there runs ne none) u there (sym (ap w.control.on (servers_are f u)) ∙ runs) (λ e. none (servers_are f u ∙ e));
                free = frees f;
                fresh = fresh-done w (Restart v) f (come w (Restart v) (starts.may-restart s w v may)) g.fresh;
              }),
              (
                λ f. fin (done_in_stop w (Restart v) f) (Some (StoppedIn (record { 0 = servers w.control v }))) (record {
                  sound = (starts.keeps s).counts w (Restart v) f g.inner may;
                  in_sync = off-in_sync w (done_in_stop w (Restart v) f) (v ∷ left) g refl (ap (λ x. at w.control.on x false) own) (λ u ne. at_other w.control.volume v (row w (Restart v) f) u (λ e. ne (ap (servers w.control) e ∙ own))) (servers_are f) (frees f)
                      (fresh-stop w (Restart v) f g.fresh);
                }),
                λ d f. fin (not_done w (servers w.control v) f) (Some (StoppedIn (record { 0 = servers w.control v }))) (record {
                  sound = (starts.keeps s).fails w (Make (Restart v)) f d g.inner may;
                  in_sync = off-in_sync w (not_done w (servers w.control v) f) (v ∷ left) g refl (ap (λ x. at w.control.on x false) own) (λ v ne. refl) (λ v. refl) g.free (fresh-told w (not_done w (servers w.control v) f) (Stopped (servers w.control v) 0 ∷ []) refl refl g.fresh.unacked (λ n. refl) g.fresh);
                }),
              ),
            )

    volumes-go : (vs : List ℕ) (w : World) → Going vs w → WindowAlong Fin None w (start_entries s vs ++ acknowledge_on s ∷ [])
    volumes-go [] w g = acknowledges w g
    volumes-go (v ∷ vs) w g = redoes w v (v ∷ vs) (restart_on s v ∷ (start_entries s vs ++ acknowledge_on s ∷ [])) g (λ k g. restarts k v vs (start_entries s vs ++ acknowledge_on s ∷ []) g (λ k g. volumes-go vs k g))

    pub window-start : Between w0 → EntriesHold w0 p
    window-start k =
        let u : World = begun w0 p in
        volumes-go w0.control.volumes u (record {
          inner = starts.begins s w0 k.sound;
          clean = λ v there runs none. elim (eqb_tells (servers w0.control v) s) [
            | inl own ↦ absurd (false≢true (sym (none own.1) ∙ there))
            | inr apart ↦ k.in_sync.clean v there (sym (at_other w0.control.on s true (servers w0.control v) apart.1) ∙ runs)
          ];
          free = k.in_sync.free;
          fresh = fresh-told w0 u (Started s ∷ []) refl refl k.in_sync.fresh.unacked (λ n. refl) k.in_sync.fresh;
        })
