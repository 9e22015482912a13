-- Host writes that are carried out in freeze windows: one that lands on its volume alone lands on no locked primary, and one that its
-- secondary stores first lands on both sides where nothing else is out of sync.
use Rattle.std.proofs.Common.{ℕ, ◌≡◌, ◌<◌, ◌+◌, inl, inr, refl, ap, sym, ◌∙◌, subst, Bool, true, false, cond, not, ◌&&◌, ◌||◌, List, [], ◌∷◌, ◌++◌, append_assoc, filter, Option, Some, None, ◌≢◌}
use Rattle.std.specs.List.{find}
use Rattle.std.specs.FinSet.{contains}
use Rattle.std.proofs.lemmas.Bool.{and_parts, and_from, not-true}
use Rattle.std.proofs.lemmas.Bool.Decides.{eqb_tells}
use Rattle.dr_facts.proofs.WriteStops.{after-any}
use Rattle.dr_ids.specs.declared.refusal.Refusal.{Refusal}
use Rattle.dr_ids.specs.declared.refusal.Refusal.TheVariants.{Stopped as StoppedIn}
use Rattle.dr_model.specs.declared.state.PairState.{PairState}
use Rattle.dr_model.specs.declared.state.PairState.TheVariants.{CopyPending, FullDuplex, Suspended}
use Rattle.dr_model.specs.Histories.{histories}
use Rattle.dr_model.specs.Layout.{Fields, is_part}
use Rattle.dr_model.specs.Pairs.{is_metro, is_kind, is_last, is_full_duplex, is_suspended, held, goes_over, collides, is_cascaded, secondary_of}
use Rattle.dr_model.specs.Control.{Control, Fuse, Pending, Volume, World}
use Rattle.dr_model.specs.Moves.{Move, Land, Overwrite, Keep, Note, Store, Strike, Suspend, target, Unsync, Mirror, LandBoth, is_write}
use Rattle.dr_model.specs.Carry.{Act, Make, Pass, Do, Entry, now, Next, End}
use Rattle.dr_model.specs.Entries.{fields_at, is_running, is_no_secondary, is_open, is_settled, copy_first, land_on, land_alone}
use Rattle.dr_model.specs.WriteEntries.{land_collided, after_write, partner_of, is_grouped, land_parted, is_parted, land_over, landing, mirror_and_land, land_mirrored, land_fed, is_held_back}
use Rattle.dr_model.specs.Plans.{Plan, same, issue_refusal, write_done, apply_done}
use Rattle.dr_model.specs.Groups.{In}
use Rattle.dr_model.specs.Laws.{AllPending}
use Rattle.dr_model.specs.Allowed.{Coming, May, Runs}
use Rattle.dr_laws_closed.proofs.Pendings.{all-filter}
use Rattle.dr_laws_sound.proofs.Cases.{may-issue}
use Rattle.dr_facts.proofs.Sets.{insert_other, not_removed}
use Rattle.dr_laws_sound.proofs.Turns.{done, next_of}
use Rattle.dr_laws_sound.proofs.KeepsSound.{Along, comes}
use Rattle.dr_laws_sound.proofs.Issues.{issued, sound-issued, one-new}
use Rattle.dr_facts.proofs.Lists.{from-filter}
use Rattle.dr_laws_sound.proofs.Lands.{found-alone, waits, may-ack, not-busy}
use Rattle.dr_laws_sound.proofs.FitsFlash.{as_begun}
use Rattle.dr_laws_sound.proofs.FitsPairs.{row, runs-done, part-same}
use Rattle.dr_laws_sound.proofs.FitsWrites.{lands}
use Rattle.dr_laws_freezes.proofs.WindowMoves.{is_locked, come, Unacked, WindowMay, tag_after}
use Rattle.dr_laws_freezes.proofs.InSync.{is_synced, Clean, unheld, LeavesOneOut}
use Rattle.dr_laws_freezes.proofs.Windows.{Good}
use Rattle.dr_laws_freezes.proofs.Chains.{WindowAlong, window-nil, StopFin, PlanFin, good-none, window-entry}
use Rattle.dr_laws_freezes.proofs.WindowActs.{Between, Leaves, window-leaves, window-move, window-check}
use Rattle.dr_facts.proofs.Entries.{any_reason, AllFine, fine-one, fine-append, from-all, FineThen}
use Rattle.dr_facts.proofs.SharedEntries.{copies-fine}
use Rattle.dr_laws_freezes.proofs.WindowPlans.{good-between, answers-between, begun-between, EntriesHold, FollowHolds}
use Rattle.dr_laws_freezes.proofs.WindowBegins.{issued-in_sync}
use Rattle.dr_laws_freezes.proofs.WindowDrain.{locked-synced, global-unlocked, first-comes}
use Rattle.dr_model.specs.declared.state.Part.TheVariants.{Global}
use Rattle.std.proofs.Math.Bool.{and-false}
use Rattle.dr_laws_freezes.proofs.WindowTracks.{is_firm}
use Rattle.dr_laws_sound.proofs.KeepsRecorders.{not-metro}
use Rattle.dr_laws_freezes.proofs.WindowWithin.{window-after, Within, within-between, heal, Here, window-part, window-within, Keeps, window-copies, window-dropped, window-both}
use Rattle.dr_facts.proofs.Tracks.{not_removed_from}
use Rattle.dr_logic.proofs.Truth.{false_true}
use Rattle.dr_logic.proofs.Tables.{at_same, at_other}
use Rattle.dr_model.specs.PairEntries.{send_first}
use Rattle.dr_logic.proofs.Choices.{choose_some}
use Rattle.dr_facts.proofs.Parts.{metro-part}

not-suspended : (s : PairState) → is_full_duplex s ≡ true → is_suspended s ≡ false
not-suspended CopyPending h = absurd cc
not-suspended FullDuplex h = refl
not-suspended Suspended h = absurd cc

-- one that isn't long busy is locked where it is Full Duplex
locked-busy : (f : Fields) → f.long_busy ≡ false → is_synced f ≡ false → is_locked f ≡ false
locked-busy f not_busy off = by (is_metro f.primary) f.primary_state f.long_busy not_busy off
  where
    by : (m : Bool) (s : PairState) (b : Bool) → b ≡ false → (m && is_full_duplex s) ≡ false → (m && (is_full_duplex s || (is_suspended s && b))) ≡ false
    by true CopyPending b c h = refl
    by true FullDuplex b c h = absurd cc
    by true Suspended b c h = c
    by false s b c h = refl

module _ (p : Pending) (Fin : Option ℕ → World → Option Refusal → Type 0) (fin : (w : World) (r : Option Refusal) → Between w → Fin None w r) (stops : (w : World) (s : ℕ) → Within p.volume p.track w → StopFin Fin w s w) where
  abbrev n : ℕ
  n = p.w

  abbrev v : ℕ
  v = p.volume

  abbrev t : ℕ
  t = p.track

  abbrev One : World → Type 0
  One w = filter (is_write n) w.control.pending ≡ p ∷ []

  ends : (w : World) (m : Move) (f : Option Fuse) → Between (done w m f) → WindowAlong Fin None (done w m f) []
  ends w m f b = window-nil Fin None (done w m f) (good-none (done w m f) b.sound.rows b.in_sync.fresh b.sound.queue.lone) (fin (done w m f) None b)

  -- It isn't mirrored: its volume is no Metro Mirror primary that is Full Duplex or locked, or it is a Global Copy primary, from which its
  -- track may be sent first.
  abbrev Apart : Bool → World → Type 0
  Apart true w = is_kind Global (fields_at w.control v).primary ≡ true
  Apart false w = (is_synced (fields_at w.control v) ≡ false) × (is_locked (fields_at w.control v) ≡ false)

  apart : (sends : Bool) (w : World) → Apart sends w → Apart false w
  apart true w global = by (is_metro (fields_at w.control v).primary) refl
    where
      by : (b : Bool) → is_metro (fields_at w.control v).primary ≡ b → Apart false w
      by true is = absurd (not-metro (fields_at w.control v).primary global is)
      by false is = (ap (λ b. b && is_full_duplex (fields_at w.control v).primary_state) is, ap (λ b. b && is_firm (fields_at w.control v)) is)
  apart false w k = k

  global-stays : (w : World) (m : Move) (f : Option Fuse) → (next_of w m).primary ≡ (fields_at w.control (target m)).primary → Apart true w → Apart true (done w m f)
  global-stays w m f same k = part-same w m f (λ (g : Fields). is_kind Global g.primary) (ap (is_kind Global) same) v ∙ k

  apart-stays : (sends : Bool) (w : World) (m : Move) (f : Option Fuse) → (next_of w m).primary ≡ (fields_at w.control (target m)).primary → is_synced (next_of w m) ≡ is_synced (fields_at w.control (target m)) → is_locked (next_of w m) ≡ is_locked (fields_at w.control (target m))
      → Apart sends w → Apart sends (done w m f)
  apart-stays true w m f primary synced locked k = global-stays w m f primary k
  apart-stays false w m f primary synced locked k = (part-same w m f is_synced synced v ∙ k.0, part-same w m f is_locked locked v ∙ k.1)

  module _ (sends : Bool) where
    abbrev Ok : World → Act → Type 0
    Ok = Leaves (Apart sends)

    abbrev Comes : List Entry → Type 0
    Comes = AllFine (Apart sends) Ok any_reason

    keep-ok : (x q : ℕ) (w : World) → Apart sends w → Ok w (Make (Keep x q))
    keep-ok x q w k = ((tt, tt, refl), λ f. apart-stays sends w (Keep x q) f refl refl refl k)

    note-ok : (x q : ℕ) (w : World) → Apart sends w → Ok w (Make (Note x q))
    note-ok x q w k = ((tt, tt, refl), λ f. apart-stays sends w (Note x q) f refl refl refl k)

    alone-comes : (volumes : List ℕ) → Comes (land_alone volumes n v t)
    alone-comes volumes = fine-append (Apart sends) Ok any_reason (copy_first volumes v t) _ (copies-fine (Apart sends) Ok any_reason keep-ok note-ok volumes v t) (fine-one (Apart sends) Ok any_reason (land_on n v t) (λ w k. by w k (fields_at w.control v).related))
      where
        by : (w : World) → Apart sends w → (b : Bool) → Ok w (Make (cond b (Overwrite n v t) (Land n v t)))
        by w k true = ((tt, tt, refl), λ f. apart-stays sends w (Overwrite n v t) f refl refl refl k)
        by w k false = let off : Apart false w = apart sends w k in ((off.1, off.0, refl), λ f. apart-stays sends w (Land n v t) f refl refl refl k)

    window-apart : (ds : List Entry) → Comes ds → (w : World) → Between w → Apart sends w → Along w ds → WindowAlong Fin None w ds
    window-apart ds fine w k j al = window-leaves Fin fin (Apart sends) ds w k j (from-all (Apart sends) Ok any_reason any_reason (λ r why. why) w j ds fine) al

  alone : (volumes : List ℕ) (w : World) → Between w → Apart false w → Along w (land_alone volumes n v t) → WindowAlong Fin None w (land_alone volumes n v t)
  alone volumes = window-apart false (land_alone volumes n v t) (alone-comes false volumes)

  collided : (u : ℕ) (volumes : List ℕ) (w : World) → Between w → Apart true w → Along w (send_first volumes v u t ++ land_alone volumes n v t) → WindowAlong Fin None w (send_first volumes v u t ++ land_alone volumes n v t)
  collided u volumes = window-apart true _ (fine-append (Apart true) (Ok true) any_reason (send_first volumes v u t) (land_alone volumes n v t)
      (first-comes (Apart true) (Ok true) any_reason (keep-ok true) (note-ok true) v u t (λ w k. ((tt, tt, refl), λ f. global-stays w (Suspend v false) f refl k))
      (λ w k. ((λ locked. global-unlocked (fields_at w.control v) k locked, tt, refl), λ f. global-stays w (Store u t v (is_last (fields_at w.control v) t)) f refl k))
      (λ w k. ((λ locked. global-unlocked (fields_at w.control v) k locked, refl, refl), λ f. global-stays w (Strike v t (is_last (fields_at w.control v) t)) f refl k)) volumes) (alone-comes true volumes))

  -- it is stored on the secondary, and the track is out of sync until it has landed
  record Both (tag : Option ℕ) (w : World) : Type 0 where
    within : Within v t w
    on : Runs w v
    going : is_suspended (fields_at w.control v).primary_state ≡ false
    one : One w
    out : (j : ℕ) → tag ≡ Some j → (j ≡ n) × (contains (fields_at w.control v).out_of_sync t ≡ true)

  found-in : (p : Pending) (ps : List Pending) → filter (is_write p.w) ps ≡ p ∷ [] → In p ps
  found-in p ps one = (from-filter (is_write p.w) ps p (subst (In p) (sym one) (inl refl))).0

  good-both : (tag : Option ℕ) (w : World) → Both tag w → Good tag w
  good-both tag w k =
      let held = waits w k.within.sound p k.one in
      record {
        rows = k.within.sound.rows;
        fresh = k.within.in_sync.fresh;
        lone = k.within.sound.queue.lone;
        low = λ j is. subst (λ j. j < w.control.issued + 1) (sym (k.out j is).0) held.number;
        out = λ j is. subst (λ j. contains (fields_at w.control ((histories w.events).write j).volume).out_of_sync ((histories w.events).write j).track ≡ true) (sym (k.out j is).0)
            ((λ i. contains (fields_at w.control (held.volume i)).out_of_sync (held.track i)) ∙ (k.out j is).1);
      }

  both-keeps : (tag : Option ℕ) (w : World) → Both tag w → (d : Entry) (m : Move) (ds : List Entry) → Keeps m → d w.control ≡ Do (Make m) → May w m → ((f : Option Fuse) → Both tag (done w m f) → WindowAlong Fin tag (done w m f) ds) → WindowAlong Fin tag w (d ∷ ds)
  both-keeps tag w k d (Keep u q) ds tt is may go = let m : Move = Keep u q in
      window-within v t Fin stops tag w k.within d m ds is (good-both tag w k) may tt tt (λ there runs. k.within.in_sync.clean u there runs) (λ f z. go f (record {
        within = z;
        on = runs-done w m f v k.on;
        going = part-same w m f (λ (g : Fields). is_suspended g.primary_state) refl v ∙ k.going;
        one = k.one;
        out = λ j is. ((k.out j is).0, part-same w m f (λ (g : Fields). contains g.out_of_sync t) refl v ∙ (k.out j is).1);
      }))
  both-keeps tag w k d (Note u q) ds tt is may go = let m : Move = Note u q in
      window-within v t Fin stops tag w k.within d m ds is (good-both tag w k) may tt tt (λ there runs. k.within.in_sync.clean u there runs) (λ f z. go f (record {
        within = z;
        on = runs-done w m f v k.on;
        going = part-same w m f (λ (g : Fields). is_suspended g.primary_state) refl v ∙ k.going;
        one = k.one;
        out = λ j is. ((k.out j is).0, part-same w m f (λ (g : Fields). contains g.out_of_sync t) refl v ∙ (k.out j is).1);
      }))
  both-keeps tag w k d m ds e is may go = absurd e

  unacked : (w : World) → Within v t w → One w → Unacked w n
  unacked w k one = (subst (AllPending (λ q. Unacked w q.w)) one (all-filter _ (is_write n) w.control.pending k.in_sync.fresh.unacked)).0

  -- it lands on v, whose track is in sync again
  here-both : (w : World) → Within v t w → Here v t w (LandBoth n v t)
  here-both w k there runs h q other = not_removed_from (fields_at w.control v).out_of_sync t q (k.in_sync.clean v there runs h q other)

  clean-both : (w : World) (f : Option Fuse) → Within v t w → Runs w v → One w → Clean (fields_at (done w (LandBoth n v t) f).control v)
  clean-both w f k on one =
      let there = (waits w k.sound p one).defined in
      subst (λ (y : Volume). Clean y.fields) (sym (at_same w.control.volume v (row w (LandBoth n v t) f))) (λ h q. elim (eqb_tells q t) [
        | inl is ↦ ap (contains _) is.1 ∙ not_removed (fields_at w.control v).out_of_sync t
        | inr ne ↦ not_removed_from (fields_at w.control v).out_of_sync t q (k.in_sync.clean v there on h q (λ a e. absurd (ne.1 e)))
      ])

  lands-both : (w : World) → Both (Some n) w → Along w (now (LandBoth n v t) ∷ []) → WindowAlong Fin (Some n) w (now (LandBoth n v t) ∷ [])
  lands-both w k al =
      let m : Move = LandBoth n v t in
      let one = comes w (now m) [] (Do (Make m)) refl al in
      window-within v t Fin stops (Some n) w k.within (now m) m [] refl (good-both (Some n) w k) one.0 (refl, unacked w k.within k.one) tt (here-both w k.within)
      (λ f z. ends w m f (heal v t (done w m f) z (λ runs. clean-both w f k.within k.on k.one)))

  module _ (volumes : List ℕ) (u : ℕ) where
    -- u stores it
    abbrev behind : List Entry
    behind = copy_first volumes v t ++ now (LandBoth n v t) ∷ []

    mirrors : (w : World) → Both None w → Along w (now (Mirror u t v n) ∷ behind) → WindowAlong Fin None w (now (Mirror u t v n) ∷ behind)
    mirrors w k al =
        let m : Move = Mirror u t v n in
        let one = comes w (now m) behind (Do (Make m)) refl al in
        let there = (waits w k.within.sound p k.one).defined in
        window-within v t Fin stops None w k.within (now m) m behind refl (good-both None w k) one.0
        ((λ locked x ne. k.within.in_sync.clean v there k.on (locked-synced (fields_at w.control v) k.going locked) x (λ a e. absurd (ne e))), unacked w k.within k.one)
        (record { p = p; number = refl; here = found-in p w.control.pending k.one; coming = (subst (AllPending (Coming v t)) k.one (may-ack w k.within.sound p k.one k.on).coming).0 })
        (λ d r h. false_true (unheld w k.within.sound.rows m (come w m one.0)) (and_parts (is_metro (fields_at w.control u).primary) _ h).0)
        (λ f z. window-copies Fin (Some n) (Both (Some n)) (λ w k. k.within.sound) (good-both (Some n)) (both-keeps (Some n)) v t volumes (now (LandBoth n v t) ∷ []) (done w m f) (record {
          within = z;
          on = runs-done w m f v k.on;
          going = part-same w m f (λ (g : Fields). is_suspended g.primary_state) refl v ∙ k.going;
          one = k.one;
          out = λ j is. let e : n ≡ j = cc in (sym e, ap (λ (y : Volume). contains y.fields.out_of_sync t) (at_other w.control.volume u (row w m f) v (λ e. (k.within.sound.rows.parts.secondary v u one.0.allowed.sends).apart (ap (λ j. (w.control.volume j).server) e))) ∙ one.0.allowed.out);
        }) (one.1 f z.sound) lands-both)

    -- the targets of u keep it first
    stores : (w : World) → Both None w → Along w (mirror_and_land volumes n v t u) → WindowAlong Fin None w (mirror_and_land volumes n v t u)
    stores w k al =
        let joined : mirror_and_land volumes n v t u ≡ copy_first volumes u t ++ (now (Mirror u t v n) ∷ behind) = append_assoc (copy_first volumes u t) (now (Mirror u t v n) ∷ copy_first volumes v t) (now (LandBoth n v t) ∷ []) in
        subst (WindowAlong Fin None w) (sym joined) (window-copies Fin None (Both None) (λ w k. k.within.sound) (good-both None) (both-keeps None) u t volumes (now (Mirror u t v n) ∷ behind) w k (subst (Along w) joined al) mirrors)

    -- the track is out of sync
    unsyncs : (w : World) → Between w → Runs w v → is_suspended (fields_at w.control v).primary_state ≡ false → One w → (more : List Entry) → ((f : Option Fuse) → Both None (done w (Unsync v t) f) → Along (done w (Unsync v t) f) more → WindowAlong Fin None (done w (Unsync v t) f) more)
        → Along w (now (Unsync v t) ∷ more) → WindowAlong Fin None w (now (Unsync v t) ∷ more)
    unsyncs w k on going waiting more go al =
        let m : Move = Unsync v t in
        let one = comes w (now m) more (Do (Make m)) refl al in
        window-within v t Fin stops None w (within-between v t w k) (now m) m more refl (good-none w k.sound.rows k.in_sync.fresh k.sound.queue.lone) one.0 tt (k.in_sync.clean v (waits w k.sound p waiting).defined on)
        (λ there runs h q other. insert_other (fields_at w.control v).out_of_sync t q (λ e. absurd (other refl e)) ∙ k.in_sync.clean v there runs h q)
        (λ f z. go f (record {
          within = z;
          on = runs-done w m f v on;
          going = part-same w m f (λ (g : Fields). is_suspended g.primary_state) refl v ∙ going;
          one = waiting;
          out = λ j is. absurd cc;
        }) (one.1 f z.sound))

    -- u is cascaded, and sends on first what the track was
    module _ (c : ℕ) (ne : v ≢ u) where
      record Feeds (w : World) : Type 0 where
        on : Runs w v
        going : is_suspended (fields_at w.control v).primary_state ≡ false
        one : One w
        global : is_kind Global (fields_at w.control u).primary ≡ true

      feeds-by : (w : World) (m : Move) (f : Option Fuse) → (next_of w m).primary ≡ (fields_at w.control (target m)).primary → is_suspended (fields_at (done w m f).control v).primary_state ≡ false → (done w m f).control.pending ≡ w.control.pending → Feeds w → Feeds (done w m f)
      feeds-by w m f primary going pending x = record {
        on = runs-done w m f v x.on;
        going = going;
        one = ap (filter (is_write n)) pending ∙ x.one;
        global = part-same w m f (λ (g : Fields). is_kind Global g.primary) (ap (is_kind Global) primary) u ∙ x.global;
      }

      elsewhere : (w : World) (m : Move) (f : Option Fuse) → (next_of w m).primary_state ≡ (fields_at w.control (target m)).primary_state → Feeds w → is_suspended (fields_at (done w m f).control v).primary_state ≡ false
      elsewhere w m f state x = ap is_suspended (part-same w m f (λ (g : Fields). g.primary_state) state v) ∙ x.going

      -- what is done meanwhile
      abbrev FeedsOk : World → Act → Type 0
      FeedsOk w (Make m) = (Within v t w → May w m → WindowMay None w m × LeavesOneOut w m × Here v t w m) × (tag_after m None ≡ None) × ((f : Option Fuse) → Feeds (done w m f))
      FeedsOk w a = ⊥

      abbrev Never : Refusal → Type 0
      Never r = ⊥

      sent-first : AllFine Feeds FeedsOk Never (send_first volumes u c t)
      sent-first = first-comes Feeds FeedsOk Never
          (λ x q w s. (λ k may. (tt, tt, λ there runs. k.in_sync.clean x there runs), refl, λ f. feeds-by w (Keep x q) f refl (elsewhere w (Keep x q) f refl s) refl s))
          (λ x q w s. (λ k may. (tt, tt, λ there runs. k.in_sync.clean x there runs), refl, λ f. feeds-by w (Note x q) f refl (elsewhere w (Note x q) f refl s) refl s)) u c t
          (λ w s. (
            λ k may. (tt, tt, λ there runs h q other. let no : false ≡ true = (and_parts (is_metro (fields_at w.control u).primary) false h).1 in absurd cc),
            refl,
            λ f. feeds-by w (Suspend u false) f refl (ap (λ (y : Volume). is_suspended y.fields.primary_state) (at_other w.control.volume u (row w (Suspend u false) f) v ne) ∙ s.going) refl s,
          ))
          (λ w s. let m : Move = Store c t u (is_last (fields_at w.control u) t) in
          (λ k may. (λ locked. global-unlocked (fields_at w.control u) s.global locked, tt, λ d r h. false_true (unheld w k.sound.rows m (come w m may)) (and_parts (is_metro (fields_at w.control c).primary) _ h).0), refl, λ f. feeds-by w m f refl (elsewhere w m f refl s) refl s))
          (λ w s. let m : Move = Strike u t (is_last (fields_at w.control u) t) in (
            λ k may. (λ locked. global-unlocked (fields_at w.control u) s.global locked, refl, λ d r h. absurd (not-metro (fields_at w.control u).primary s.global (and_parts (is_metro (fields_at w.control u).primary) _ h).0)),
            refl,
            λ f. feeds-by w m f refl (ap (λ (y : Volume). is_suspended y.fields.primary_state) (at_other w.control.volume u (row w m f) v ne) ∙ s.going) refl s,
          )) volumes

      abbrev after : List Entry
      after = mirror_and_land volumes n v t u

      good-within : (w : World) → Within v t w → Good None w
      good-within w k = good-none w k.sound.rows k.in_sync.fresh k.sound.queue.lone

      feeds-next : (w : World) (d : Entry) (x : Next) (ds : List Entry) → d w.control ≡ x → ((z : World) → Within v t z → Feeds z → AllFine Feeds FeedsOk Never ds → Along z (ds ++ after) → WindowAlong Fin None z (ds ++ after)) → Within v t w → Feeds w → FineThen Feeds FeedsOk Never w x (AllFine Feeds FeedsOk Never ds)
          → Along w (d ∷ ds ++ after) → WindowAlong Fin None w (d ∷ ds ++ after)
      feeds-next w d Pass ds is rest k j fine al = window-entry Fin None w d (ds ++ after) Pass is (good-within w k) (rest w k j fine (comes w d (ds ++ after) Pass is al))
      feeds-next w d (Do (Make m)) ds is rest k j fine al =
          let one = comes w d (ds ++ after) (Do (Make m)) is al in
          let ok = fine.0.0 k one.0 in
          window-within v t Fin stops None w k d m (ds ++ after) is (good-within w k) one.0 ok.0 ok.1 ok.2
          (λ f z. subst (λ tag. WindowAlong Fin tag (done w m f) (ds ++ after)) (sym fine.0.1) (rest (done w m f) z (fine.0.2 f) fine.1 (one.1 f z.sound)))
      feeds-next w d (Do a) ds is rest k j fine al = absurd fine.0
      feeds-next w d (End r) ds is rest k j fine al = absurd fine

      feeds-all : (ds : List Entry) (w : World) → Within v t w → Feeds w → AllFine Feeds FeedsOk Never ds → Along w (ds ++ after) → WindowAlong Fin None w (ds ++ after)
      unfolding AllFine
      feeds-all [] w k x fine al = stores w (record { within = k; on = x.on; going = x.going; one = x.one; out = λ j is. absurd cc }) al
      feeds-all (d ∷ ds) w k x fine al = feeds-next w d (d w.control) ds refl (feeds-all ds) k x (fine w x) al

  -- whichever it is
  module _ (w : World) (k : Between w) (one : One w) (on : Runs w v) where
    abbrev f : Fields
    f = fields_at w.control v

    abbrev busy : Bool
    busy = is_grouped w.control v (partner_of w.control v)

    abbrev left : Bool → List Entry
    left b = cond b [] (land_alone w.control.volumes n v t)

    parted-by : (h : Option Fuse) → Between (done w (Suspend v busy) h) → f.long_busy ≡ false → (b : Bool) → busy ≡ b → Along (done w (Suspend v busy) h) (left b) → WindowAlong Fin None (done w (Suspend v busy) h) (left b)
    parted-by h z not_busy true is al = ends w (Suspend v busy) h z
    parted-by h z not_busy false is al =
        let m : Move = Suspend v busy in
        let here : (done w m h).control.volume v ≡ row w m h = at_same w.control.volume v (row w m h) in
        let off : is_synced (fields_at (done w m h).control v) ≡ false = ap (λ (y : Volume). is_synced y.fields) here ∙ and-false (is_metro f.primary) in
        alone w.control.volumes (done w m h) z (off, locked-busy (fields_at (done w m h).control v) (ap (λ (y : Volume). y.fields.long_busy) here ∙ (λ i. not_busy i || is i)) off) al

    parted : f.long_busy ≡ false → Along w (land_parted w.control n v t) → WindowAlong Fin None w (land_parted w.control n v t)
    parted not_busy al =
        let m : Move = Suspend v busy in
        let first = comes w (now m) (left busy) (Do (Make m)) refl al in
        window-move Fin fin w k (now m) m (left busy) refl first.0 tt tt refl (λ h z. parted-by h z not_busy busy refl (first.1 h z.sound))

    abbrev u : ℕ
    u = partner_of w.control v

    abbrev c : ℕ
    c = partner_of w.control u

    abbrev over : Bool → Bool → Bool → List Entry
    over b h d = cond b (land_parted w.control n v t) (cond h [] (cond d (land_fed w.control.volumes n v t u c) (land_mirrored w.control.volumes n v t u)))

    over-by : is_part f.primary ≡ true → f.long_busy ≡ false → is_suspended f.primary_state ≡ false → (b h d : Bool) → is_cascaded (fields_at w.control u) ≡ d → Along w (over b h d) → WindowAlong Fin None w (over b h d)
    over-by leads not_busy going true h d is al = parted not_busy al
    over-by leads not_busy going false true d is al = window-nil Fin None w (good-none w k.sound.rows k.in_sync.fresh k.sound.queue.lone) (fin w None k)
    over-by leads not_busy going false false true is al =
        let volumes : List ℕ = w.control.volumes in
        let parts = and_parts (is_part (fields_at w.control u).primary) _ is in
        let to : secondary_of f ≡ Some u = choose_some (is_part f.primary) f.primary_partner leads in
        let ne : v ≢ u = λ e. (k.sound.rows.parts.secondary v u to).apart (ap (λ j. (w.control.volume j).server) e) in
        unsyncs volumes u w k on going one (send_first volumes u c t ++ mirror_and_land volumes n v t u)
        (λ h b al. feeds-all volumes u c ne (send_first volumes u c t) (done w (Unsync v t) h) b.within
        (record { on = b.on; going = b.going; one = b.one; global = part-same w (Unsync v t) h (λ (g : Fields). is_kind Global g.primary) refl u ∙ ((k.sound.rows.parts.fit u).both parts.0 parts.1).sends }) (sent-first volumes u c ne) al) al
    over-by leads not_busy going false false false is al = unsyncs w.control.volumes u w k on going one (mirror_and_land w.control.volumes n v t u) (λ h b al. stores w.control.volumes u (done w (Unsync v t) h) b al) al

    -- where it doesn't go over, it isn't Full Duplex: its tracks would be in sync
    not-synced : goes_over f t ≡ false → is_synced f ≡ false
    not-synced none = by (is_synced f) refl
      where
        by : (b : Bool) → is_synced f ≡ b → b ≡ false
        by true is =
            let both = and_parts (is_metro f.primary) _ is in
            let clean : contains f.out_of_sync t ≡ false = k.in_sync.clean v (waits w k.sound p one).defined on is t in
            sym (and_from _ _ both.0 (and_from _ _ (ap not (not-suspended f.primary_state both.1)) (ap not clean))) ∙ none
        by false is = refl

    abbrev ways : Bool → Bool → Bool → List Entry
    ways h g c = cond h [] (cond g (land_over w.control n v t) (cond c (land_collided w.control n v t) (land_alone w.control.volumes n v t)))

    window-ways : (h g c : Bool) → held f ≡ h → goes_over f t ≡ g → collides f t ≡ c → Along w (ways h g c) → WindowAlong Fin None w (ways h g c)
    window-ways true g c hs gs cs al = window-nil Fin None w (good-none w k.sound.rows k.in_sync.fresh k.sound.queue.lone) (fin w None k)
    window-ways false true c hs gs cs al =
        let both = and_parts (is_metro f.primary) _ gs in
        over-by (metro-part f.primary both.0) (not-busy f hs) (not-true (is_suspended f.primary_state) (and_parts (not (is_suspended f.primary_state)) _ both.1).0) (is_parted w.control v) (is_held_back w.control v) (is_cascaded (fields_at w.control u)) refl al
    window-ways false false true hs gs cs al = collided (partner_of w.control v) w.control.volumes w k (and_parts (is_kind Global f.primary) _ cs).0 al
    window-ways false false false hs gs cs al = alone w.control.volumes w k (not-synced gs, locked-busy f (not-busy f hs) (not-synced gs)) al

  pub window-landing : (w : World) → Between w → One w → WindowAlong Fin None w (landing w.control n v t)
  window-landing w k one =
      window-check Fin fin w k (is_running v) _ _ (lands w k.sound p one) (λ on al.
      let clean = subst (AllPending (λ q. Clean (fields_at w.control q.volume))) (sym one) (k.in_sync.clean v (waits w k.sound p one).defined on, tt) in
      window-dropped Fin fin w k n (is_no_secondary v) _ _ (λ ps. refl) clean al (λ free al.
      window-dropped Fin fin w k n (is_open v) _ _ (λ ps. refl) clean al (λ open_to al.
      window-dropped Fin fin w k n (is_settled v) _ _ (λ ps. refl) clean al (λ settled al.
      window-ways w k one on (held (fields_at w.control v)) (goes_over (fields_at w.control v) t) (collides (fields_at w.control v) t) refl refl refl al))))

-- a plan that carries one out
module _ (q : Plan) (p : Pending) (k0 : Control) (follows : q.follows ≡ after_write k0 p.w p.volume p.track) (last : q.last ≡ same) where
  abbrev Fins : Option ℕ → World → Option Refusal → Type 0
  Fins = PlanFin Between good-between answers-between q

  stops : (u : World) (s : ℕ) → Within p.volume p.track u → StopFin Fins u s u
  stops u s k n = subst (λ (g : ℕ → List Entry). FollowHolds u (g n)) (sym follows)
      (after-any k0 p.w p.volume p.track (FollowHolds u) n (window-after p.volume p.track u k) (window-part p.volume p.track u k) (λ fed. window-both p.volume p.track (partner_of k0 p.volume) u k))

  fins : (u : World) (r : Option Refusal) → Between u → Fins None u r
  fins u None b = subst (λ (g : Control → Control). Between (record u { control = g u.control })) (sym last) b
  fins u (Some (StoppedIn s)) b = stops u s.0 (within-between p.volume p.track u b)
  fins u (Some r) b = b

  pub window-carried : (w : World) → Between w → filter (is_write p.w) w.control.pending ≡ p ∷ [] → WindowAlong Fins None w (landing w.control p.w p.volume p.track)
  window-carried w k one = window-landing p Fins fins stops w k one

module _ (w : World) (k : Between w) where
  pub window-writes : (v t offset len : ℕ) (bytes : List ℕ) → issue_refusal w.control v t ≡ None → EntriesHold w (write_done w.control v t offset len bytes)
  window-writes v t offset len bytes free =
      let there = (may-issue w.control v t free).0 in
      let new : Pending = record { w = w.control.issued + 1; volume = v; track = t; landed = false } in
      window-carried (write_done w.control v t offset len bytes) new w.control refl refl (issued w k.sound v t offset len bytes there.defined there.low)
      (record { sound = sound-issued w k.sound v t offset len bytes there.defined there.low; in_sync = issued-in_sync w k.in_sync v t offset len bytes }) (one-new w k.sound v t offset len bytes there.defined there.low)

  pub window-applies : (n : ℕ) (p : Pending) → find (is_write n) w.control.pending ≡ Some p → EntriesHold w (apply_done w.control p)
  window-applies n p found = window-carried (apply_done w.control p) p w.control refl refl (as_begun w) (begun-between w k) (found-alone n p w.control.pending found k.sound.queue.apart)
