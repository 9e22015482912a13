-- What a step has changed as its entries begin leaves freeze windows, and what holds between steps.
use Rattle.std.proofs.Common.{ℕ, ◌≡◌, ◌≢◌, ◌<◌, ◌+◌, refl, ap, sym, ◌∙◌, subst, Bool, true, false, cond, ◌&&◌, ◌||◌, nat_eq, List, [], ◌∷◌, ◌++◌, None, arith, Result}
use Rattle.std.proofs.lemmas.Bool.{false≢true, ne_eqb, or_left}
use Rattle.std.specs.List.{list_any}
use Rattle.dr_model.specs.declared.event.Event.{Event}
use Rattle.dr_model.specs.declared.event.Event.TheVariants.{Volume as VolumeDefined, Issue}
use Rattle.dr_model.specs.declared.step.Step.{Step}
use Rattle.dr_model.specs.Histories.{Histories, histories, lists}
use Rattle.dr_model.specs.Control.{Control, Pending, Volume, World, is_volume, new_volume}
use Rattle.dr_model.specs.Plans.{Plan, volume_done, volume_refusal, with_pending}
use Rattle.dr_model.specs.Runs.{begun}
use Rattle.dr_model.specs.Table.{waiting}
use Rattle.dr_model.specs.Groups.{In}
use Rattle.dr_model.specs.Laws.{AllPending}
use Rattle.dr_model.proofs.Images.{histories-append}
use Rattle.dr_laws_closed.proofs.Pendings.{each-on, all-more}
use Rattle.dr_laws_freezes.specs.Windows.{is_ack}
use Rattle.dr_facts.proofs.Tables.{at_cases}
use Rattle.dr_facts.proofs.Lists.{in-first}
use Rattle.dr_laws_sound.proofs.Cases.{Case, is-new}
use Rattle.dr_laws_freezes.proofs.WindowMoves.{Unacked}
use Rattle.dr_facts.proofs.Emits.{Of, of-all}
use Rattle.dr_laws_freezes.proofs.KeepsWindow.{takes_none, unacked}
use Rattle.dr_laws_freezes.proofs.Begun as before
use Rattle.dr_laws_freezes.proofs.Begun.{Beside}
use Rattle.dr_laws_freezes.proofs.KeepsStep.{Unchanged}
use Rattle.dr_laws_freezes.proofs.KeepsMirror.{still-unacked}
use Rattle.dr_laws_freezes.proofs.InSync.{is_synced, Clean, Free, Fresh, FullDuplexInSync, in_sync-same, fresh-told}
use Rattle.dr_laws_freezes.proofs.Chains.{told-unchanged}
use Rattle.dr_logic.proofs.Truth.{false_true}
use Rattle.dr_logic.proofs.Tables.{at_other}
use Rattle.dr_model.specs.Entries.{fields_at}
use Rattle.std.proofs.lemmas.List.Folds.{list_any-append}

-- No volume that was defined changed, and where no server went on, what holds between steps holds.
pub record Begins (w u : World) (told : List Event) : Type 0 where
  pub unchanged : Unchanged w u told
  pub in_sync : ((j : ℕ) → u.control.on j ≡ true → w.control.on j ≡ true) → FullDuplexInSync u

-- a volume that was defined before
not-new : (vs : List ℕ) (x v : ℕ) → x ≢ v → list_any (nat_eq x) (vs ++ v ∷ []) ≡ true → list_any (nat_eq x) vs ≡ true
not-new [] x v ne h = absurd (false≢true (sym (ap (λ b. b || false) (ne_eqb x v ne)) ∙ h))
not-new (y ∷ ys) x v ne h = by (nat_eq x y) (not-new ys x v ne) h
  where
    by : (b : Bool) → (list_any (nat_eq x) (ys ++ v ∷ []) ≡ true → list_any (nat_eq x) ys ≡ true) → (b || list_any (nat_eq x) (ys ++ v ∷ [])) ≡ true → (b || list_any (nat_eq x) ys) ≡ true
    by true more h = refl
    by false more h = more h

-- a write is issued
late-unacked : (w : World) (n : ℕ) → Fresh w → w.control.issued < n → (es : List Event) → list_any (is_ack n) es ≡ false → list_any (is_ack n) (w.events ++ es) ≡ false
late-unacked w n fresh lt es none = still-unacked w.events es n (fresh.later n lt) none

waiting-new : (ps : List Pending) (p : Pending) (v t : ℕ) → p.landed ≡ false → waiting (ps ++ p ∷ []) v t ≡ waiting ps v t
waiting-new [] p v t h = ap (λ b. cond (b && here) (p.w ∷ []) []) h
  where
    here : Bool
    here = nat_eq p.volume v && nat_eq p.track t
waiting-new (x ∷ xs) p v t h = ap (λ ws. cond (x.landed && (nat_eq x.volume v && nat_eq x.track t)) (x.w ∷ ws) ws) (waiting-new xs p v t h)

module _ (w : World) (in_sync : FullDuplexInSync w) (v t offset len : ℕ) (bytes : List ℕ) where
  abbrev e : Event
  e = Issue (w.control.issued + 1) v t offset len bytes

  abbrev issued : World
  issued = record w { control = with_pending v t w.control; events = w.events ++ e ∷ [] }

  pub issued-unchanged : Unchanged w issued (e ∷ [])
  issued-unchanged = record {
    events = refl;
    takes = (refl, tt);
    writes = λ n lt. ap (λ (h : Histories). h.write n) (histories-append w.events (e ∷ [])) ∙ at_other (histories w.events).write (w.control.issued + 1) _ n (λ is. absurd (let h : n ≡ w.control.issued + 1 = is in omega arith));
    issued = λ n lt. omega arith;
    waits = λ x q. waiting-new w.control.pending _ x q refl;
    there = λ x there. there;
    volume = λ x there. refl;
    holds = λ x h. h;
    contents = λ x there q. refl;
    lists = λ x there q. ap (λ (h : Histories). h.now x q) (histories-append w.events (e ∷ []));
    synced = λ x h. refl;
    pends = λ p here torn. in-first w.control.pending _ p here;
    acked = λ n h. ap (λ (h : Histories). h.write n) (histories-append w.events (e ∷ [])) ∙ at_other (histories w.events).write (w.control.issued + 1) _ n (λ is. false_true (in_sync.fresh.later n (let h : n ≡ w.control.issued + 1 = is in omega arith)) h);
  }

  pub issued-in_sync : FullDuplexInSync issued
  issued-in_sync = in_sync-same w issued refl refl (λ j h. h) (record {
    unacked = all-more (λ p. Unacked issued p.w) w.control.pending _ (each-on (λ p a. still-unacked w.events (e ∷ []) p.w a refl) w.control.pending in_sync.fresh.unacked) (late-unacked w (w.control.issued + 1) in_sync.fresh (omega arith) (e ∷ []) refl);
    later = λ n lt. late-unacked w n in_sync.fresh (omega arith) (e ∷ []) refl;
  }) in_sync

module _ (w : World) (h : FullDuplexInSync w) where
  pub beside-begins : (j : Control) (told : List Event) → Beside w j told → Begins w (record w { control = j; events = w.events ++ told }) told
  beside-begins j told x =
      let u : World = record w { control = j; events = w.events ++ told } in
      record {
        unchanged = told-unchanged w u told refl x.takes x.lists x.volume refl x.issued x.volumes (λ v t. ap (λ ps. waiting ps v t) x.pending) (λ p here torn. subst (In p) (sym x.pending) here);
        in_sync = λ on. in_sync-same w u x.volume x.volumes on (fresh-told w u told refl x.issued (subst (AllPending (λ p. Unacked w p.w)) (sym x.pending) h.fresh.unacked) (λ n. of-all (Of takes_none) _ (unacked takes_none refl n) told x.takes) h.fresh) h;
      }

  -- a new volume is no primary
  defines : (v s tracks : ℕ) → volume_refusal w.control v s tracks ≡ None → Begins w (begun w (volume_done v s tracks)) (VolumeDefined v s tracks ∷ [])
  defines v s tracks free =
      let e : Event = VolumeDefined v s tracks in
      let u : World = begun w (volume_done v s tracks) in
      let other : ((x : ℕ) → is_volume w.control x ≡ true → x ≢ v) = λ x there is. false_true (is-new w.control v s tracks free).undefined (ap (is_volume w.control) (sym is) ∙ there) in
      record {
        unchanged = record {
          events = refl;
          takes = (refl, tt);
          writes = λ n lt. ap (λ (h : Histories). h.write n) (histories-append w.events (e ∷ []));
          issued = λ n lt. lt;
          waits = λ x t. refl;
          there = λ x there. list_any-append (nat_eq x) w.control.volumes (v ∷ []) ∙ or_left (list_any (nat_eq x) w.control.volumes) _ there;
          volume = λ x there. at_other w.control.volume v (new_volume s tracks) x (other x there);
          holds = λ x. at_cases (λ x (y : Volume). y.fields.flash_hold ≡ true → (fields_at w.control x).flash_hold ≡ true) w.control.volume v (new_volume s tracks) (λ h. absurd cc) (λ x ne h. h) x;
          contents = λ x there t. refl;
          lists = λ x there t. ap (λ (h : Histories). h.now x t) (histories-append w.events (e ∷ [])) ∙ ap (λ (f : ℕ → List ℕ). f t) (at_other (lists w.events) v (λ t. []) x (other x there));
          synced = λ x. at_cases (λ x (y : Volume). is_synced y.fields ≡ true → y ≡ w.control.volume x) w.control.volume v (new_volume s tracks) (λ h. absurd cc) (λ x ne h. refl) x;
          pends = λ p here torn. here;
          acked = λ n h. ap (λ (h : Histories). h.write n) (histories-append w.events (e ∷ []));
        };
        in_sync = λ on. record {
          clean = λ x. at_cases (λ x (y : Volume). is_volume u.control x ≡ true → w.control.on y.server ≡ true → Clean y.fields) w.control.volume v (new_volume s tracks) (λ there on h t. absurd cc)
              (λ x ne there. h.clean x (not-new w.control.volumes x v ne there)) x;
          free = λ x. at_cases (λ x (y : Volume). Free y.fields) w.control.volume v (new_volume s tracks) (record { coordination = λ h. refl; recording = λ h. refl; changes = λ h t. absurd cc }) (λ x ne. h.free x) x;
          fresh = fresh-told w u (e ∷ []) refl refl h.fresh.unacked (λ n. refl) h.fresh;
        };
      }

  pub case-begins : (line : ℕ) (asked : Result Step ℕ) (p : Plan) → Case w.control w.events line asked p → Begins w (begun w p) p.told
  case-begins = before.begins w (λ j told. Begins w (record w { control = j; events = w.events ++ told }) told) beside-begins defines
      (λ v t offset len bytes. record { unchanged = issued-unchanged w h v t offset len bytes; in_sync = λ on. issued-in_sync w h v t offset len bytes })
