-- Sending tracks to a secondary in freeze windows.
use Rattle.std.proofs.Common.{ℕ, ◌≡◌, ◌≢◌, ◌<◌, inl, refl, ap, sym, ◌∙◌, subst, Bool, true, false, cond, not, ◌&&◌, ◌||◌, List, [], ◌∷◌, ◌++◌, append_assoc, map, Option, Some, None}
use Rattle.std.specs.Prelude.{is_some}
use Rattle.std.specs.Option.{option_or}
use Rattle.std.specs.FinSet.{contains}
use Rattle.std.proofs.lemmas.Bool.{and_parts, and_from}
use Rattle.dr_model.specs.Table.{table}
use Rattle.dr_facts.proofs.Parts.{two-partners}
use Rattle.dr_ids.specs.declared.refusal.Refusal.{Refusal}
use Rattle.dr_ids.specs.declared.refusal.Refusal.TheVariants.{Stopped as StoppedIn, PairState as InState}
use Rattle.dr_ids.specs.declared.refusal.Kind.TheVariants.{Path as OfPath}
use Rattle.dr_model.specs.declared.state.PairState.{PairState}
use Rattle.dr_model.specs.declared.state.PairState.TheVariants.{CopyPending, FullDuplex, Suspended}
use Rattle.dr_model.specs.Refusals.{server_off, unknown}
use Rattle.dr_model.specs.Layout.{Fields, is_part}
use Rattle.dr_model.specs.Pairs.{secondary_of, is_metro, is_full_duplex, is_suspended, is_pending, is_secondary_of, is_last, is_kind, is_cascaded, collides, secondary_seen}
use Rattle.dr_model.specs.Control.{Fuse, Volume, World, is_volume}
use Rattle.dr_model.specs.Moves.{Move, Keep, Note, Store, Strike, Suspend, target}
use Rattle.dr_model.specs.Carry.{Make, Pass, Do, End, Entry, Act, entries_in}
use Rattle.dr_model.specs.Entries.{fields_at, is_running, keep_on, copy_first}
use Rattle.dr_model.specs.PairEntries.{has_path, link_down, send_refusal, end_if, refuse_if, suspend_where, flashed_refusal, store_on, strike_on, send_entries, sends, is_copying, tracks_to_send, held_refusal, sends_first, where_sent, suspend_unsent, send_first, feeds, suspend_after}
use Rattle.dr_model.specs.Plans.{Plan, drain_plan, is_defined}
use Rattle.dr_model.specs.Allowed.{May, Runs}
use Rattle.dr_laws_sound.proofs.Turns.{done, next_of}
use Rattle.dr_laws_sound.proofs.KeepsSound.{Along, comes}
use Rattle.dr_laws_sound.proofs.FitsFlash.{as_begun}
use Rattle.dr_laws_sound.proofs.FitsPairs.{row, runs-done, part-same}
use Rattle.dr_laws_sound.proofs.FitsDrain.{along-drain, drains-after, feeds-joined}
use Rattle.dr_laws_freezes.proofs.WindowMoves.{is_locked}
use Rattle.dr_laws_freezes.proofs.InSync.{is_synced}
use Rattle.dr_laws_freezes.proofs.Chains.{WindowAlong, window-entry, window-nil, good-none, PlanFin}
use Rattle.dr_laws_freezes.proofs.WindowActs.{Between, window-move, window-check, window-refuse, KeepsPairs, Leaves, window-first}
use Rattle.dr_laws_freezes.proofs.WindowWithin.{Keeps, window-copies}
use Rattle.dr_laws_freezes.proofs.WindowPlans.{good-between, answers-between, begun-between, EntriesHold, window-each}
use Rattle.dr_logic.proofs.Choices.{choose_some}
use Rattle.dr_facts.proofs.Tables.{at_part}
use Rattle.dr_logic.proofs.Tables.{at_same, at_other}
use Rattle.dr_model.specs.declared.state.Part.TheVariants.{Global}
use Rattle.dr_laws_sound.proofs.KeepsRecorders.{not-metro}
use Rattle.dr_facts.proofs.Entries.{any_world, any_reason, Fine, AllFine, fine-then, fine-one, fine-if}
use Rattle.dr_facts.proofs.SharedEntries.{where-fine, keep-fine, after_drain-fine}

-- a locked primary that isn't Suspended is Full Duplex
pub locked-synced : (f : Fields) → is_suspended f.primary_state ≡ false → is_locked f ≡ true → is_synced f ≡ true
locked-synced f going h = let both = and_parts (is_metro f.primary) _ h in and_from (is_metro f.primary) _ both.0 (by (is_full_duplex f.primary_state) (is_suspended f.primary_state) f.long_busy going both.1)
  where
    by : (x s l : Bool) → s ≡ false → (x || (s && l)) ≡ true → x ≡ true
    by true s l i h = refl
    by false true l i h = absurd cc
    by false false l i h = absurd cc

-- a Global Copy primary isn't locked
pub global-unlocked : {X : Type 0} (f : Fields) → is_kind Global f.primary ≡ true → is_locked f ≡ true → X
global-unlocked f global locked = absurd (not-metro f.primary global (and_parts (is_metro f.primary) _ locked).0)

-- the entries by which v sends first to u what a track was
module _ (K : World → Type 0) (Ok : World → Act → Type 0) (Why : Refusal → Type 0) (keep : (x q : ℕ) (w : World) → K w → Ok w (Make (Keep x q))) (note : (x q : ℕ) (w : World) → K w → Ok w (Make (Note x q))) (v u t : ℕ) (suspend : (w : World) → K w → Ok w (Make (Suspend v false)))
    (store : (w : World) → K w → Ok w (Make (Store u t v (is_last (fields_at w.control v) t)))) (strike : (w : World) → K w → Ok w (Make (Strike v t (is_last (fields_at w.control v) t)))) where
  abbrev One : Entry → Type 0
  One d = (w : World) → K w → Fine K Ok Why w (d w.control)

  sent-one : (d : Entry) → One d → One (where_sent v u t d)
  sent-one d one w k = fine-if K Ok Why w (sends_first v u t w.control) (d w.control) Pass (one w k) tt

  sent-comes : (xs : List ℕ) → AllFine K Ok Why (map (where_sent v u t) (map (keep_on u t) xs ++ store_on v u t ∷ strike_on v t ∷ []))
  sent-comes [] = fine-then K Ok Why (where_sent v u t (store_on v u t)) _ (sent-one (store_on v u t) store) (fine-one K Ok Why (where_sent v u t (strike_on v t)) (sent-one (strike_on v t) strike))
  sent-comes (x ∷ xs) = fine-then K Ok Why (where_sent v u t (keep_on u t x)) _ (sent-one (keep_on u t x) (keep-fine K Ok Why keep note u t x)) (sent-comes xs)

  pub first-comes : (volumes : List ℕ) → AllFine K Ok Why (send_first volumes v u t)
  first-comes volumes = fine-then K Ok Why (suspend_unsent v u t) _ (where-fine K Ok Why (λ j. collides (fields_at j v) t && is_some (send_refusal v u j)) (Make (Suspend v false)) (λ w k so. suspend w k)) (sent-comes volumes)

module _ (Fin : Option ℕ → World → Option Refusal → Type 0) (fin : (w : World) (r : Option Refusal) → Between w → Fin None w r) where
  module _ (volumes : List ℕ) (a b : ℕ) (is_global : Bool) where
    -- what lasts
    pub record Sends (w : World) : Type 0 where
      pub on : Runs w a
      pub there : is_volume w.control a ≡ true
      pub to : secondary_of (fields_at w.control a) ≡ Some b
      pub going : is_suspended (fields_at w.control a).primary_state ≡ false
      pub kind : is_kind Global (fields_at w.control b).primary ≡ is_global

    -- where a stays as it is
    sends-by : (w : World) (m : Move) (f : Option Fuse) → secondary_of (next_of w m) ≡ secondary_of (fields_at w.control (target m)) → (next_of w m).primary ≡ (fields_at w.control (target m)).primary → is_suspended (fields_at (done w m f).control a).primary_state ≡ false → Sends w → Sends (done w m f)
    sends-by w m f to primary going x = record {
      on = runs-done w m f a x.on;
      there = x.there;
      to = part-same w m f secondary_of to a ∙ x.to;
      going = going;
      kind = part-same w m f (λ (g : Fields). is_kind Global g.primary) (ap (is_kind Global) primary) b ∙ x.kind;
    }

    sends-done : (w : World) (m : Move) (f : Option Fuse) → secondary_of (next_of w m) ≡ secondary_of (fields_at w.control (target m)) → (next_of w m).primary ≡ (fields_at w.control (target m)).primary → (next_of w m).primary_state ≡ (fields_at w.control (target m)).primary_state → Sends w → Sends (done w m f)
    sends-done w m f to primary state x = sends-by w m f to primary (ap is_suspended (part-same w m f (λ (g : Fields). g.primary_state) state a) ∙ x.going) x

    -- where it is locked it is clean
    clean : (w : World) → Between w → Sends w → is_locked (fields_at w.control a) ≡ true → (t : ℕ) → contains (fields_at w.control a).out_of_sync t ≡ false
    clean w k x locked = k.in_sync.clean a x.there x.on (locked-synced (fields_at w.control a) x.going locked)

    -- over what the targets of b keep
    abbrev Lasts : World → Type 0
    Lasts w = Between w × Sends w

    keeps-lasts : (w : World) → Lasts w → (d : Entry) (m : Move) (ds : List Entry) → Keeps m → d w.control ≡ Do (Make m) → May w m → ((f : Option Fuse) → Lasts (done w m f) → WindowAlong Fin None (done w m f) ds) → WindowAlong Fin None w (d ∷ ds)
    keeps-lasts w k d (Keep u q) ds ok is may go = window-move Fin fin w k.0 d (Keep u q) ds is may tt tt refl (λ f z. go f (z, sends-done w (Keep u q) f refl refl refl k.1))
    keeps-lasts w k d (Note u q) ds ok is may go = window-move Fin fin w k.0 d (Note u q) ds is may tt tt refl (λ f z. go f (z, sends-done w (Note u q) f refl refl refl k.1))
    keeps-lasts w k d m ds ok is may go = absurd ok

    module _ (t : ℕ) (more : List Entry) (go : (v : World) → Between v → Sends v → Along v more → WindowAlong Fin None v more) where
      strikes : (w : World) → Between w → Sends w → Along w (strike_on a t ∷ more) → WindowAlong Fin None w (strike_on a t ∷ more)
      strikes w k x al =
          let last : Bool = is_last (fields_at w.control a) t in
          let m : Move = Strike a t last in
          let one = comes w (strike_on a t) more (Do (Make m)) refl al in
          window-move Fin fin w k (strike_on a t) m more refl one.0 (λ locked. clean w k x locked t) refl refl (λ f z. go (done w m f) z (sends-by w m f refl refl (ap (λ (y : Volume). is_suspended y.fields.primary_state) (at_here w m f) ∙ by last (fields_at w.control a).primary_state x.going) x) (one.1 f z.sound))
        where
          at_here : (w : World) (m : Move) (f : Option Fuse) → (done w (Strike a t (is_last (fields_at w.control a) t)) f).control.volume a ≡ row w (Strike a t (is_last (fields_at w.control a) t)) f
          at_here w m f = at_same w.control.volume a (row w (Strike a t (is_last (fields_at w.control a) t)) f)

          by : (l : Bool) (s : PairState) → is_suspended s ≡ false → is_suspended (cond l FullDuplex s) ≡ false
          by true s h = refl
          by false s h = h

      stores : (w : World) → Between w → Sends w → Along w (store_on a b t ∷ strike_on a t ∷ more) → WindowAlong Fin None w (store_on a b t ∷ strike_on a t ∷ more)
      stores w k x al =
          let last : Bool = is_last (fields_at w.control a) t in
          let m : Move = Store b t a last in
          let one = comes w (store_on a b t) (strike_on a t ∷ more) (Do (Make m)) refl al in
          let rows = k.sound.rows in
          window-move Fin fin w k (store_on a b t) m (strike_on a t ∷ more) refl one.0
          (λ locked.
          let synced = locked-synced (fields_at w.control a) x.going locked in
          let metro = (and_parts (is_metro (fields_at w.control a).primary) _ synced).0 in
          rows.pairs a b x.to (inl one.0.allowed.takes) t (subst (λ n. t < n) (sym (rows.parts.secondary a b x.to).same_tracks) one.0.allowed.receives.low)
          (λ i. clean w k x locked t i || (k.in_sync.free a).changes metro t i)
          (two-partners (table w b) a (rows.parts.fit b) one.0.allowed.takes))
          tt refl (λ f z. strikes (done w m f) z (sends-done w m f refl refl refl x) (one.1 f z.sound))

      abbrev stored : List Entry
      stored = copy_first volumes b t ++ store_on a b t ∷ strike_on a t ∷ more

      copies : (w : World) → Between w → Sends w → Along w stored → WindowAlong Fin None w stored
      copies w k x al = window-copies Fin None Lasts (λ v y. y.0.sound) (λ v y. good-none v y.0.sound.rows y.0.in_sync.fresh y.0.sound.queue.lone) keeps-lasts b t volumes (store_on a b t ∷ strike_on a t ∷ more) w (k, x) al (λ v y. stores v y.0 y.1)

      ne : (w : World) → Between w → Sends w → b ≢ a
      ne w k x e = (k.sound.rows.parts.secondary a b x.to).apart (ap (λ j. (w.control.volume j).server) (sym e))

      -- b is reached, or a is suspended and the plan ends
      module _ (tail : List Entry) (behind : (w : World) → Between w → Sends w → Along w tail → WindowAlong Fin None w tail) where
        abbrev refusals : List Entry
        refusals = refuse_if (send_refusal a b) ∷ refuse_if (flashed_refusal b) ∷ tail

        goes : (w : World) → Between w → Sends w → Along w refusals → WindowAlong Fin None w refusals
        goes w k x al =
            window-refuse Fin fin w k (send_refusal a b) (refuse_if (flashed_refusal b) ∷ tail) al (λ none al.
            window-refuse Fin fin w k (flashed_refusal b) tail al (λ plain al. behind w k x al))

        module _ (w : World) (f : Option Fuse) (k : Between w) (x : Sends w) where
          abbrev why : ℕ → Volume → Option Refusal
          why s y = option_or
              (cond (not (has_path a b w.control)) (Some (unknown OfPath)) (cond (not (w.control.on y.server)) (Some (server_off y.server)) (cond (not (w.control.link s y.server)) (Some (link_down s y.server)) None)))
              (cond (is_secondary_of a y.fields) None (Some (InState (record { 0 = b }) (secondary_seen y.fields))))

          still-refused : send_refusal a b (done w (Suspend a false) f).control ≡ send_refusal a b w.control
          still-refused = λ i. why (at_part (λ (y : Volume). y.server) w.control.volume a (row w (Suspend a false) f) refl a i) (at_other w.control.volume a (row w (Suspend a false) f) b (ne w k x) i)

        suspends-by : (w : World) (o : Option Refusal) → Between w → Sends w → send_refusal a b w.control ≡ o → Along w (suspend_where (send_refusal a b) a ∷ refusals) → WindowAlong Fin None w (suspend_where (send_refusal a b) a ∷ refusals)
        suspends-by w None k x is al =
            let d : Entry = suspend_where (send_refusal a b) a in
            let passes : d w.control ≡ Pass = ap (λ o. cond (is_some o) (Do (Make (Suspend a false))) Pass) is in
            window-entry Fin None w d refusals Pass passes (good-none w k.sound.rows k.in_sync.fresh k.sound.queue.lone) (goes w k x (comes w d refusals Pass passes al))
        suspends-by w (Some r) k x is al =
            let d : Entry = suspend_where (send_refusal a b) a in
            let does : d w.control ≡ Do (Make (Suspend a false)) = ap (λ o. cond (is_some o) (Do (Make (Suspend a false))) Pass) is in
            let one = comes w d refusals (Do (Make (Suspend a false))) does al in
            window-move Fin fin w k d (Suspend a false) refusals does one.0 tt tt refl (λ f z.
            let u : World = done w (Suspend a false) f in
            window-entry Fin None u (refuse_if (send_refusal a b)) (refuse_if (flashed_refusal b) ∷ tail) (End r) (ap end_if (still-refused w f k x ∙ is)) (good-none u z.sound.rows z.in_sync.fresh z.sound.queue.lone) (fin u (Some r) z))

      sends-one : (w : World) → Between w → Sends w → Along w (send_entries volumes a b t ++ more) → WindowAlong Fin None w (send_entries volumes a b t ++ more)
      sends-one w k x al =
          let assoc : send_entries volumes a b t ++ more ≡ suspend_where (send_refusal a b) a ∷ refusals stored copies =
          ap (λ ds. suspend_where (send_refusal a b) a ∷ refuse_if (send_refusal a b) ∷ refuse_if (flashed_refusal b) ∷ ds) (append_assoc (copy_first volumes b t) (store_on a b t ∷ strike_on a t ∷ []) more) in
          subst (WindowAlong Fin None w) (sym assoc) (suspends-by stored copies w (send_refusal a b w.control) k x refl (subst (Along w) assoc al))

      -- b is cascaded: what the track was is sent on first
      module _ (c : ℕ) (global : is_global ≡ true) where
        abbrev fed : List Entry
        fed = refuse_if (held_refusal b) ∷ send_first volumes b c t ++ stored

        feeding : (w : World) → Between w → Sends w → Along w fed → WindowAlong Fin None w fed
        feeding w k x al = window-refuse Fin fin w k (held_refusal b) (send_first volumes b c t ++ stored) al (λ free al. window-first Fin fin Sends stored copies (send_first volumes b c t) w k x (first w k x) al)
          where
            first : (w : World) → Between w → Sends w → AllFine Sends (Leaves Sends) any_reason (send_first volumes b c t)
            first w k x =
                let differs : b ≢ a = ne w k x in
                first-comes Sends (Leaves Sends) any_reason (λ x q w s. ((tt, tt, refl), λ f. sends-done w (Keep x q) f refl refl refl s)) (λ x q w s. ((tt, tt, refl), λ f. sends-done w (Note x q) f refl refl refl s)) b c t
                (λ w s. ((tt, tt, refl), λ f. sends-by w (Suspend b false) f refl refl (ap (λ (y : Volume). is_suspended y.fields.primary_state) (at_other w.control.volume b (row w (Suspend b false) f) a (λ e. differs (sym e))) ∙ s.going) s))
                (λ w s. ((λ locked. global-unlocked (fields_at w.control b) (s.kind ∙ global) locked, tt, refl), λ f. sends-done w (Store c t b (is_last (fields_at w.control b) t)) f refl refl refl s))
                (λ w s. let m : Move = Strike b t (is_last (fields_at w.control b) t) in
                ((λ locked. global-unlocked (fields_at w.control b) (s.kind ∙ global) locked, refl, refl), λ f. sends-by w m f refl refl (ap (λ (y : Volume). is_suspended y.fields.primary_state) (at_other w.control.volume b (row w m f) a (λ e. differs (sym e))) ∙ s.going) s)) volumes

        feeds-one : (w : World) → Between w → Sends w → Along w (suspend_where (send_refusal a b) a ∷ refusals fed feeding) → WindowAlong Fin None w (suspend_where (send_refusal a b) a ∷ refusals fed feeding)
        feeds-one w k x al = suspends-by fed feeding w (send_refusal a b w.control) k x refl al

    pub sends-all : (ts : List ℕ) (w : World) → Between w → Sends w → Along w (sends volumes a b ts) → WindowAlong Fin None w (sends volumes a b ts)
    sends-all [] w k x al = window-nil Fin None w (good-none w k.sound.rows k.in_sync.fresh k.sound.queue.lone) (fin w None k)
    sends-all (t ∷ ts) w k x al = sends-one t (sends volumes a b ts) (λ v k x al. sends-all ts v k x al) w k x al

    feeds-all : (c : ℕ) → is_global ≡ true → (ts : List ℕ) (w : World) → Between w → Sends w → Along w (entries_in (feeds volumes a b c ts)) → WindowAlong Fin None w (entries_in (feeds volumes a b c ts))
    feeds-all c global [] w k x al = window-nil Fin None w (good-none w k.sound.rows k.in_sync.fresh k.sound.queue.lone) (fin w None k)
    feeds-all c global (t ∷ ts) w k x al =
        subst (WindowAlong Fin None w) (sym (feeds-joined volumes a b c t ts)) (feeds-one t (entries_in (feeds volumes a b c ts)) (λ v k x al. feeds-all c global ts v k x al) c global w k x (subst (Along w) (feeds-joined volumes a b c t ts) al))

-- a primary in Copy Pending is drained
module _ (w : World) (k : Between w) (a : ℕ) (most : Option ℕ) where
  abbrev p : Plan
  p = drain_plan w.control a most

  abbrev Fins : Option ℕ → World → Option Refusal → Type 0
  Fins = PlanFin Between good-between answers-between p

  fins : (u : World) (r : Option Refusal) → Between u → Fins None u r
  fins u None b = b
  fins u (Some (StoppedIn s)) b = λ n. window-each KeepsPairs any_reason (λ v x ok. ok) (p.follows n)
      (after_drain-fine any_world KeepsPairs any_reason w.control a (tracks_to_send most (w.control.volume a).tracks (fields_at w.control a).out_of_sync) n (λ v any. (tt, tt, refl)) (λ fed v any. (tt, tt, refl))) (drains-after w.control a most n) u b
  fins u (Some r) b = b

  pending-going : (s : PairState) → is_pending s ≡ true → is_suspended s ≡ false
  pending-going CopyPending h = refl
  pending-going FullDuplex h = absurd cc
  pending-going Suspended h = absurd cc

  pub window-drain : EntriesHold w p
  window-drain =
      let u : World = as_begun w in
      let b : Between u = begun-between w k in
      window-check Fins fins u b (is_defined a) _ _ (along-drain w k.sound a most) (λ there al.
      window-check Fins fins u b (is_running a) _ _ al (λ on al.
      window-check Fins fins u b (is_copying a) _ _ al (λ copying al.
      let both = and_parts (is_part (fields_at w.control a).primary) _ copying in
      by u b (is_cascaded (fields_at w.control second)) refl
      (record { on = on; there = there; to = choose_some (is_part (fields_at w.control a).primary) second both.0; going = pending-going (fields_at w.control a).primary_state both.1; kind = refl }) al)))
    where
      second : ℕ
      second = (fields_at w.control a).primary_partner

      ts : List ℕ
      ts = tracks_to_send most (w.control.volume a).tracks (fields_at w.control a).out_of_sync

      by : (u : World) → Between u → (c : Bool) → is_cascaded (fields_at w.control second) ≡ c → Sends Fins fins w.control.volumes a second (is_kind Global (fields_at w.control second).primary) u
          → let ds : List Entry = entries_in (cond c (feeds w.control.volumes a second (fields_at w.control second).primary_partner ts) (record { entries = sends w.control.volumes a second ts; follows = suspend_after a } ∷ [])) in Along u ds → WindowAlong Fins None u ds
      by u b false is x al = sends-all Fins fins w.control.volumes a second _ ts u b x al
      by u b true is x al =
          let parts = and_parts (is_part (fields_at w.control second).primary) _ is in
          feeds-all Fins fins w.control.volumes a second _ (fields_at w.control second).primary_partner ((k.sound.rows.parts.fit second).both parts.0 parts.1).sends ts u b x al
