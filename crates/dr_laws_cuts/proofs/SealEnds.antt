-- However the entries of a seal end, secondaries hold what they held of cuts, and one that is sealed now holds that of the attempt.
use Rattle.std.proofs.Common.{ℕ, ◌≡◌, ◌≢◌, inl, inr, refl, ap, sym, ◌∙◌, Bool, true, false, cond, not, ◌&&◌, nat_eq, List, [], ◌∷◌, ◌++◌, Option, Some, None, subst}
use Rattle.std.proofs.lemmas.Bool.{and_parts, eqb-true}
use Rattle.std.specs.FinSet.{contains}
use Rattle.dr_logic.specs.Bytes.{zeros}
use Rattle.dr_logic.specs.Tables.{at}
use Rattle.dr_ids.specs.declared.refusal.Refusal.{Refusal}
use Rattle.dr_ids.specs.declared.refusal.Refusal.TheVariants.{Void}
use Rattle.dr_model.specs.declared.event.Event.{Event}
use Rattle.dr_model.specs.declared.event.Event.TheVariants.{Sealed, Stopped}
use Rattle.dr_model.specs.Histories.{Histories, histories}
use Rattle.dr_model.specs.Layout.{Fields, is_part}
use Rattle.dr_model.specs.Control.{Control, Volume, World}
use Rattle.dr_model.specs.Pairs.{primary_of, records, sealed}
use Rattle.dr_model.specs.Relations.{is_bare}
use Rattle.dr_model.specs.Moves.{Move, Seal, moved, tracks_after, updated}
use Rattle.dr_model.specs.Carry.{Make, Turn, Entry, Pass, Do, turn, spent, off, finished, cut_short}
use Rattle.dr_model.specs.Entries.{fields_at, is_running, secondary_state}
use Rattle.dr_model.specs.PairEntries.{has_path, reach_refusal, belongs_to, send_refusal, refuse_if, end_if}
use Rattle.dr_model.specs.SessionEntries.{is_drained, void_refusal, seal_refusal, seal_on, seal_entries}
use Rattle.dr_model.specs.ReadStops.{GoesOff, IsEnd, EndsTurn, EndsNext, Ends, gone_off}
use Rattle.dr_model.specs.Table.{table}
use Rattle.dr_model.specs.Laws.{fields}
use Rattle.dr_model.specs.Cuts.{SealsHold}
use Rattle.dr_model.proofs.CarryLemmas.{act-move, turn-ends}
use Rattle.dr_model.proofs.Images.{histories-append}
use Rattle.dr_laws_cuts.specs.Once.{NoCuts}
use Rattle.dr_laws_cuts.specs.Sent.{SendsTo, CutsHold, SealedFor}
use Rattle.dr_facts.proofs.Tables.{at_cases}
use Rattle.dr_laws_cuts.proofs.Still.{recorded}
use Rattle.dr_laws_cuts.proofs.Sent.{Held, every, Stays, sealed-held, held-sealed, sent-held, held-stays, seals-stay, cuts-stay}
use Rattle.dr_logic.proofs.Choices.{choose_some}
use Rattle.dr_logic.proofs.Truth.{false_true}
use Rattle.dr_facts.proofs.Tracks.{bare-has}
use Rattle.dr_facts.proofs.Refusals.{none-both, met, passed, chosen}
use Rattle.dr_logic.proofs.Tables.{at_same}

-- a world in which nothing but servers and their fuses has changed, and this was told
module _ (w x : World) (told : List Event) (quiet : NoCuts told) (volumes : x.control.volume ≡ w.control.volume) (contents : x.contents ≡ w.contents) (events : x.events ≡ w.events ++ told)
    (writes : (histories (w.events ++ told)).write ≡ (histories w.events).write) where
  same : (v : ℕ) → fields (table x) v ≡ fields (table w) v
  same v = ap (λ (g : ℕ → Volume). (g v).fields) volumes

  still : Stays w x
  still = record {
    sizes = λ v. ap (λ (g : ℕ → Volume). (g v).tracks) volumes;
    fields = λ v. same v ∙ ap (λ k. sealed k (fields (table w) v)) (sym (ap (λ (f : Fields). f.seal) (same v)));
    contents = λ v t. ap (λ (g : ℕ → ℕ → List ℕ). g v t) contents;
    more = told;
    quiet = quiet;
    events = events;
    writes = ap (λ es. (histories es).write) events ∙ writes;
  }

  cuts-still : CutsHold w → CutsHold x
  cuts-still old = cuts-stay w x still (seals-stay w x still same old.sealed) old

told-stop : (w : World) (s k : ℕ) → (histories (w.events ++ Stopped s k ∷ [])).write ≡ (histories w.events).write
told-stop w s k = ap (λ (h : Histories). h.write) (histories-append w.events (Stopped s k ∷ []))

gone-holds : (w : World) (s : ℕ) → CutsHold w → CutsHold (gone_off w s)
gone-holds w s = cuts-still w (gone_off w s) (Stopped s 0 ∷ []) (tt, tt) refl refl refl (told-stop w s 0)

module _ (w : World) (laws : CutsHold w) (s a b n : ℕ) (sends : SendsTo w a b) where
  abbrev m : Move
  m = Seal b a s n

  abbrev x : Volume
  x = w.control.volume b

  abbrev f : Fields
  f = fields_at w.control a

  -- what the checks of a seal tell of the pair
  abbrev Holding : Type 0
  Holding = Held w b n a every

  holding : records n f ≡ true → primary_of x.fields ≡ Some a → is_bare f.out_of_sync ≡ true → Holding
  holding rec takes drained =
      let both = recorded n f.attempt f.recording rec in
      subst (λ k. Held w b k a every) both.1 (sent-held w a b (laws.sent a b both.0 (sends both.0) takes) (λ t. bare-has f.out_of_sync t drained))

  -- b is sealed, and this is told
  module _ (y : World) (told : List Event) (quiet : NoCuts told) (volumes : y.control.volume ≡ at w.control.volume b (moved x (sealed n x.fields) None))
      (contents : y.contents ≡ at w.contents b (tracks_after (sealed n x.fields) None (w.contents b))) (events : y.events ≡ w.events ++ told)
      (writes : (histories (w.events ++ told)).write ≡ (histories w.events).write) where
    -- blank tracks stay zeros
    blank-by : (t : ℕ) (e : Bool) → contains x.fields.blank t ≡ e → cond e zeros (w.contents b t) ≡ w.contents b t
    blank-by t true is = sym (laws.blank b t is)
    blank-by t false is = refl

    stays : Stays w y
    stays = record {
      sizes = λ v. ap (λ (g : ℕ → Volume). (g v).tracks) volumes ∙ at_cases (λ v (z : Volume). z.tracks ≡ (w.control.volume v).tracks) w.control.volume b (moved x (sealed n x.fields) None) refl (λ q ne. refl) v;
      fields = λ v. subst (λ (g : ℕ → Volume). (g v).fields ≡ sealed (g v).fields.seal (fields (table w) v)) (sym volumes)
          (at_cases (λ v (z : Volume). z.fields ≡ sealed z.fields.seal (fields (table w) v)) w.control.volume b (moved x (sealed n x.fields) None) refl (λ q ne. refl) v);
      contents = λ v t. ap (λ (g : ℕ → ℕ → List ℕ). g v t) contents
          ∙ at_cases (λ v (z : ℕ → List ℕ). z t ≡ w.contents v t) w.contents b (tracks_after (sealed n x.fields) None (w.contents b)) (blank-by t _ refl) (λ q ne. refl) v;
      more = told;
      quiet = quiet;
      events = events;
      writes = ap (λ es. (histories es).write) events ∙ writes;
    }

    here : fields (table y) b ≡ sealed n x.fields
    here = ap (λ (g : ℕ → Volume). (g b).fields) volumes ∙ ap (λ (z : Volume). z.fields) (at_same w.control.volume b (moved x (sealed n x.fields) None))

    made-seals : Holding → primary_of x.fields ≡ Some a → SealsHold y
    made-seals held takes v u of nz =
        held-sealed y v u
        (subst (λ (g : ℕ → Volume). Held y v (g v).fields.seal u every) (sym volumes)
        (at_cases (λ v (z : Volume). primary_of z.fields ≡ Some u → z.fields.seal ≢ 0 → Held y v z.fields.seal u every) w.control.volume b (moved x (sealed n x.fields) None)
        (λ of nz. subst (λ j. Held y b n j every) (some-is a u (sym takes ∙ of)) (held-stays w y stays b n a every held))
        (λ q ne of nz. held-stays w y stays q _ u every (sealed-held w q u (laws.sealed q u of nz)))
        v (ap (λ (g : ℕ → Volume). primary_of (g v).fields) (sym volumes) ∙ of) (λ z. nz (ap (λ (g : ℕ → Volume). (g v).fields.seal) volumes ∙ z))))
      where
        some-is : (i j : ℕ) → Some i ≡ Some j → i ≡ j
        some-is i j h = cc

    made-holds : Holding → primary_of x.fields ≡ Some a → CutsHold y
    made-holds held takes = cuts-stay w y stays (made-seals held takes) laws

    made-for : Holding → SealedFor y b a n
    made-for held =
        let number : (fields (table y) b).seal ≡ n = ap (λ (g : Fields). g.seal) here in
        record { number = number; holds = held-sealed y b a (subst (λ k. Held y b k a every) (sym number) (held-stays w y stays b n a every held)) }

  abbrev new : World
  new = updated w b (sealed n x.fields) None

  told-seal : (histories (w.events ++ Sealed s n a ∷ [])).write ≡ (histories w.events).write
  told-seal = ap (λ (h : Histories). h.write) (histories-append w.events (Sealed s n a ∷ []))

  told-both : (histories (w.events ++ Sealed s n a ∷ Stopped x.server 0 ∷ [])).write ≡ (histories w.events).write
  told-both = ap (λ (h : Histories). h.write) (histories-append w.events (Sealed s n a ∷ Stopped x.server 0 ∷ []))

  module _ (armed : ℕ → Bool) (u : World) (r : Option Refusal) where
    -- how they end: cuts hold, and where nothing refused and all was sent b is sealed for n
    pub record SealEnd : Type 0 where
      pub holds : CutsHold u
      pub sealed_for : r ≡ None → is_drained a w.control ≡ true → SealedFor u b a n

    some-none : {P : Type 0} (o : Option Refusal) (e : Refusal) → o ≡ Some e → o ≡ None → P
    some-none o e is none = let no : Some e ≡ None = sym is ∙ none in absurd cc

    end-off : (y : World) → CutsHold y → GoesOff armed u r y → SealEnd
    end-off y h off = record { holds = subst CutsHold (sym off.world) (gone-holds y off.server h); sealed_for = λ none d. some-none r _ off.refusal none }

    end-some : (y : World) (e : Refusal) → CutsHold y → IsEnd armed u r y (Some e) → SealEnd
    end-some y e h is = record { holds = subst CutsHold (sym is.world) h; sealed_for = λ none d. some-none r e is.refusal none }

    end-nil : (y : World) → CutsHold y → (is_drained a w.control ≡ true → SealedFor y b a n) → Ends armed u r y [] → SealEnd
    unfolding Ends
    end-nil y h done (inl off) = end-off y h off
    end-nil y h done (inr is) = record { holds = subst CutsHold (sym is.world) h; sealed_for = λ none d. subst (λ z. SealedFor z b a n) (sym is.world) (done d) }

    -- a check ends it, or passes
    checks : (why : Control → Option Refusal) (ds : List Entry) → (why w.control ≡ None → Ends armed u r w ds → SealEnd) → Ends armed u r w (refuse_if why ∷ ds) → SealEnd
    unfolding Ends
    checks why ds go (inl off) = end-off w laws off
    checks why ds go (inr e) = by (why w.control) refl e
      where
        by : (o : Option Refusal) → why w.control ≡ o → EndsNext armed u r w (end_if o) (λ v. Ends armed u r v ds) → SealEnd
        by None is e = go is e
        by (Some why) is e = end-some w why laws e

    -- the move itself
    move-ends : Holding → primary_of x.fields ≡ Some a → w.control.on x.server ≡ true → EndsTurn armed u r (turn w m).0 (turn w m).1 (λ v. Ends armed u r v []) → SealEnd
    move-ends held takes on =
        turn-ends w m (λ t. EndsTurn armed u r t.0 t.1 (λ v. Ends armed u r v []) → SealEnd)
        (λ down. false_true down on)
        (λ up k ends. let y : World = finished (spent new x.server k) m x in
        end-nil y (made-holds y (Sealed s n a ∷ []) (tt, tt) refl refl refl told-seal held takes) (λ d. made-for y (Sealed s n a ∷ []) (tt, tt) refl refl refl told-seal held) ends)
        (λ up fused ends. let y : World = cut_short (off new x.server) m x true in
        end-some y _ (made-holds y (Sealed s n a ∷ Stopped x.server 0 ∷ []) (tt, (tt, tt)) refl refl refl told-both held takes) ends)
        (λ up fused ends. let y : World = cut_short (off w x.server) m x false in
        end-some y _ (cuts-still w y (Stopped x.server 0 ∷ []) (tt, tt) refl refl refl (told-stop w x.server 0) laws) ends)

    -- the last entry, behind the checks
    sealed-now : Holding → nat_eq x.fields.seal n ≡ true → SealedFor w b a n
    sealed-now held same =
        let number : x.fields.seal ≡ n = eqb-true x.fields.seal n same in
        record { number = number; holds = held-sealed w b a (subst (λ k. Held w b k a every) (sym number) held) }

    last-by : void_refusal a n w.control ≡ None → seal_refusal a b w.control ≡ None → (d e : Bool) → is_drained a w.control ≡ d → nat_eq x.fields.seal n ≡ e
        → EndsNext armed u r w (cond (d && not e) (Do (Make m)) Pass) (λ v. Ends armed u r v []) → SealEnd
    last-by void free false e drained same ends = end-nil w laws (λ d. let no : true ≡ false = sym d ∙ drained in absurd cc) ends
    last-by void free true e drained same ends =
        let rec : records n f ≡ true = met (records n f) (Void n) void in
        let sent = none-both (reach_refusal a b w.control) _ (chosen (is_drained a w.control) (send_refusal a b w.control) None drained free) in
        let second = and_parts (is_part x.fields.secondary) _ (met (belongs_to a b w.control) (secondary_state w.control b) sent.1) in
        let takes : primary_of x.fields ≡ Some a = choose_some (is_part x.fields.secondary) x.fields.secondary_partner second.0 ∙ ap (λ j. Some j) (eqb-true x.fields.secondary_partner a second.1) in
        let on : w.control.on x.server ≡ true = (passed (is_running b w.control) _ _ (passed (has_path a b w.control) _ _ sent.0).1).0 in
        so (holding rec takes drained) takes on e same ends
      where
        so : Holding → primary_of x.fields ≡ Some a → w.control.on x.server ≡ true → (e : Bool) → nat_eq x.fields.seal n ≡ e → EndsNext armed u r w (cond (not e) (Do (Make m)) Pass) (λ v. Ends armed u r v []) → SealEnd
        so held takes on true same ends = end-nil w laws (λ d. sealed-now held same) ends
        so held takes on false same ends = move-ends held takes on (subst (λ (t : Turn). EndsTurn armed u r t.0 t.1 (λ v. Ends armed u r v [])) (act-move w m) ends)

    last : void_refusal a n w.control ≡ None → seal_refusal a b w.control ≡ None → Ends armed u r w (seal_on s a b n ∷ []) → SealEnd
    unfolding Ends
    last void free (inl off) = end-off w laws off
    last void free (inr e) = last-by void free (is_drained a w.control) (nat_eq x.fields.seal n) refl refl e

    pub seal-ends : Ends armed u r w (seal_entries s a b n) → SealEnd
    seal-ends ends =
        checks (void_refusal a n) (refuse_if (seal_refusal a b) ∷ seal_on s a b n ∷ [])
        (λ void. checks (seal_refusal a b) (seal_on s a b n ∷ []) (λ free. last void free)) ends
