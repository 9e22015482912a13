-- A world whose cuts are sound keeps them so: in a move that is done, in one that counts as done where its server stopped, in what
-- cuts no volume, and as a volume is defined.
use Rattle.std.proofs.Common.{ℕ, ◌≡◌, ◌≤◌, ◌+◌, refl, ap, sym, ◌∙◌, arith, Bool, true, false, cond, ◌&&◌, nat_eq, List, [], ◌∷◌, ◌++◌, take, subst}
use Rattle.std.proofs.lemmas.Bool.{and_parts, eqb-true}
use Rattle.std.proofs.lemmas.List.{append-nil}
use Rattle.dr_logic.specs.Tables.{at}
use Rattle.dr_model.specs.declared.event.Event.{Event}
use Rattle.dr_model.specs.Layout.{no_fields}
use Rattle.dr_model.specs.declared.event.Event.TheVariants.{Issue}
use Rattle.dr_model.specs.Histories.{Histories, Write, histories, lists}
use Rattle.dr_model.proofs.Images.{histories-push, image-issue}
use Rattle.dr_model.specs.Contents.{image}
use Rattle.dr_model.specs.Control.{Pending, Volume, World, is_volume, nothing}
use Rattle.dr_model.specs.Moves.{Move, Hold, told, told_in_stop}
use Rattle.dr_model.specs.Table.{Row, Table, table, waiting}
use Rattle.dr_model.specs.Groups.{Groups, IsMember}
use Rattle.dr_model.specs.Laws.{SoundRows, Numbered, AllPending, servers}
use Rattle.dr_model.specs.Allowed.{Allowed, Ready}
use Rattle.dr_model.specs.Attempts.{InAttempt}
use Rattle.dr_model.specs.Cuts.{CutLaws, IsCalm, past, cuts, next_cuts}
use Rattle.dr_laws_cuts.specs.Once.{CutOnce, NoCuts, HoldsNew}
use Rattle.dr_laws_cuts.specs.Sound.{CutsBelow, CutsDefined, SoundCuts, HeldDefined, MovedTo, SameRow}
use Rattle.dr_laws_cuts.proofs.Journal.{cuts-quiet, once-quiet, once-none}
use Rattle.dr_laws_cuts.proofs.Told.{cuts-told, cuts-stopped, once-told, once-stopped, holds-new}
use Rattle.dr_laws_cuts.proofs.Kept.{kept-cuts}
use Rattle.dr_laws_cuts.proofs.Writes.{below-none, below-more, below-next, laws-write, laws-rows}
use Rattle.dr_laws_cuts.proofs.Begins.{laws-start, laws-defined, stand-defined, stand-next}

-- where no write of its server has landed, a volume is due to show what its lists say
waits-by : (p : Pending) (ws : List ℕ) (v t : ℕ) (b : Bool) → (p.landed && (nat_eq p.volume v && nat_eq p.track t)) ≡ b → ((p.landed ≡ true) → p.volume ≡ v → ⊥) → cond b (p.w ∷ ws) ws ≡ ws
waits-by p ws v t true is not = let both = and_parts _ _ is in absurd (not both.0 (eqb-true p.volume v (and_parts _ _ both.1).0))
waits-by p ws v t false is not = refl

pub none-waiting : (server : ℕ → ℕ) (ps : List Pending) (v t : ℕ) → AllPending (λ p. p.landed ≡ true → server p.volume ≡ server v → ⊥) ps → waiting ps v t ≡ []
none-waiting server [] v t all = refl
none-waiting server (p ∷ ps) v t all = waits-by p (waiting ps v t) v t _ refl (λ l e. all.0 l (ap server e)) ∙ none-waiting server ps v t all.1

pub calm-ready : (w : World) (m : Move) → Ready w m → IsCalm (histories w.events).write (lists w.events) (table w) m
calm-ready w (Hold v s n first) ready = λ t lt.
    ap (λ ws. image (histories w.events).write (lists w.events v t ++ ws)) (none-waiting (servers w.control) w.control.pending v t ready)
    ∙ ap (image (histories w.events).write) (append-nil (lists w.events v t))
calm-ready w m ready = tt

-- a member's primary is defined
pub member-defined : (w : World) (v s : ℕ) → Groups w.control → IsMember w.control v s → (table w v).defined ≡ true
member-defined w v s groups m = subst (λ j. is_volume w.control j ≡ true) m.is ((groups.each m.session m.listed).stands m.member m.here).a

pub held-defined : (w : World) (m : Move) → Groups w.control → InAttempt w.control m → HeldDefined (table w) m
held-defined w (Hold v s n first) groups g = member-defined w v s groups g.0.place
held-defined w m groups g = tt

-- before the first step
pub sound-nothing : SoundCuts nothing
unfolding past
sound-nothing = record {
  laws = laws-start (histories []).write (table nothing) (λ v. refl);
  once = once-none;
  numbers = below-none 1;
  defined = λ n v h. absurd cc;
}

module _ (w : World) where
  abbrev write : ℕ → Write
  write = (histories w.events).write

  -- a move
  module _ (rows : SoundRows (table w)) (numbers : Numbered (w.control.issued + 1) (histories w.events)) (old : SoundCuts w) (x : World) (m : Move) (a : Allowed write (table w) m) (calm : IsCalm write (lists w.events) (table w) m) (held : HeldDefined (table w) m) (to : MovedTo w x m) where
    moved : cuts x.events ≡ next_cuts (lists w.events) m (cuts w.events) → CutOnce x.events → SoundCuts x
    moved is once = record {
      laws = subst (λ (h : ℕ → Write). CutLaws h (cuts x.events) (table x)) (sym to.writes)
          (subst (λ c. CutLaws write c (table x)) (sym is)
          (subst (CutLaws write (next_cuts (lists w.events) m (cuts w.events))) (sym to.rows) (kept-cuts write (table w) (cuts w.events) (lists w.events) m old.laws rows a calm)));
      once = once;
      numbers = subst (λ n. CutsBelow (n + 1) (cuts x.events)) (sym to.issued)
          (subst (CutsBelow (w.control.issued + 1)) (sym is) (below-next (w.control.issued + 1) (cuts w.events) (lists w.events) m numbers.now old.numbers));
      defined = subst (λ c. CutsDefined c (table x)) (sym is)
          (subst (CutsDefined (next_cuts (lists w.events) m (cuts w.events))) (sym to.rows) (stand-next write (cuts w.events) (table w) (lists w.events) m held old.defined));
    }

    new : HoldsNew (cuts w.events) m
    new = holds-new write (table w) rows (cuts w.events) old.laws.cut m a

    pub sound-done : (u : Volume) → x.events ≡ w.events ++ told m u → SoundCuts x
    sound-done u is = moved (ap cuts is ∙ cuts-told w.events m u) (subst CutOnce (sym is) (once-told w.events m u old.once new))

    pub sound-stop : (u : Volume) (more : List Event) → NoCuts more → x.events ≡ w.events ++ (told_in_stop m u ++ more) → SoundCuts x
    sound-stop u more quiet is = moved (ap cuts is ∙ cuts-stopped w.events more m u quiet) (subst CutOnce (sym is) (once-stopped w.events more m u quiet old.once new))

  -- what cuts no volume, and leaves what is due: an acknowledgement, an answer, a stop, or a write that is issued
  pub sound-quiet : SoundCuts w → (x : World) (more : List Event) → NoCuts more → x.events ≡ w.events ++ more
      → ((k v t : ℕ) → image (histories x.events).write ((cuts w.events).held k v t) ≡ image write ((cuts w.events).held k v t)) → w.control.issued ≤ x.control.issued
      → ((v : ℕ) → SameRow (table w v) (table x v)) → ((v : ℕ) → (table w v).defined ≡ true → (table x v).defined ≡ true) → SoundCuts x
  sound-quiet old x more quiet is writes issued same still =
      let here : cuts x.events ≡ cuts w.events = ap cuts is ∙ cuts-quiet w.events more quiet in
      record {
        laws = subst (λ c. CutLaws (histories x.events).write c (table x)) (sym here)
            (laws-rows (histories x.events).write (cuts w.events) (table w) (table x) same (laws-write write (histories x.events).write (cuts w.events) (table w) writes old.laws));
        once = subst CutOnce (sym is) (once-quiet w.events more quiet old.once);
        numbers = subst (CutsBelow (x.control.issued + 1)) (sym here) (below-more (w.control.issued + 1) (x.control.issued + 1) (cuts w.events) (omega arith) old.numbers);
        defined = subst (λ c. CutsDefined c (table x)) (sym here) (λ n v h. still v (old.defined n v h));
      }

  -- a volume is defined
  pub sound-defined : SoundRows (table w) → SoundCuts w → (x : World) (more : List Event) → NoCuts more → x.events ≡ w.events ++ more → (histories x.events).write ≡ write → x.control.issued ≡ w.control.issued
      → (v : ℕ) (y : Row) → (table w v).defined ≡ false → y.volume.fields ≡ no_fields → y.defined ≡ true → table x ≡ at (table w) v y → SoundCuts x
  sound-defined rows old x more quiet is writes issued v y undefined bare defines to =
      let here : cuts x.events ≡ cuts w.events = ap cuts is ∙ cuts-quiet w.events more quiet in
      record {
        laws = subst (λ (h : ℕ → Write). CutLaws h (cuts x.events) (table x)) (sym writes)
            (subst (λ c. CutLaws write c (table x)) (sym here)
            (subst (CutLaws write (cuts w.events)) (sym to) (laws-defined write (cuts w.events) (table w) rows old.defined v y undefined bare old.laws)));
        once = subst CutOnce (sym is) (once-quiet w.events more quiet old.once);
        numbers = subst (λ n. CutsBelow (n + 1) (cuts x.events)) (sym issued) (subst (CutsBelow (w.control.issued + 1)) (sym here) old.numbers);
        defined = subst (λ c. CutsDefined c (table x)) (sym here) (subst (CutsDefined (cuts w.events)) (sym to) (stand-defined (cuts w.events) (table w) v y defines old.defined));
      }

  -- the same where the table is as it was, and with a write that is issued
  same-row : (T U : Table) → U ≡ T → (v : ℕ) → SameRow (T v) (U v)
  same-row T U same v = record {
    fields = ap (λ (T : Table). (T v).volume.fields) same;
    tracks = ap (λ (T : Table). (T v).volume.tracks) same;
    due = λ t. ap (λ (T : Table). (T v).due t) same;
  }

  pub sound-told : SoundCuts w → (x : World) (more : List Event) → NoCuts more → x.events ≡ w.events ++ more → (histories x.events).write ≡ write → x.control.issued ≡ w.control.issued → table x ≡ table w → SoundCuts x
  sound-told old x more quiet is writes issued same = sound-quiet old x more quiet is
      (λ k v t. ap (λ (h : ℕ → Write). image h ((cuts w.events).held k v t)) writes) (omega arith)
      (same-row (table w) (table x) same) (λ v h. ap (λ (T : Table). (T v).defined) same ∙ h)

  pub sound-same : SoundCuts w → (x : World) → x.events ≡ w.events → x.control.issued ≡ w.control.issued → table x ≡ table w → SoundCuts x
  sound-same old x is issued same = sound-told old x [] tt (is ∙ sym (append-nil w.events)) (ap (λ es. (histories es).write) is) issued same

  pub sound-issue : SoundCuts w → (x : World) (v t offset len : ℕ) (bytes : List ℕ) → x.events ≡ w.events ++ Issue (w.control.issued + 1) v t offset len bytes ∷ [] → x.control.issued ≡ w.control.issued + 1 → table x ≡ table w → SoundCuts x
  sound-issue old x v t offset len bytes is issued same =
      let n : ℕ = w.control.issued + 1 in
      let new : Write = record { volume = v; track = t; offset = offset; bytes = take len bytes } in
      let writes : (histories x.events).write ≡ at write n new = ap (λ es. (histories es).write) is ∙ ap (λ (h : Histories). h.write) (histories-push w.events (Issue n v t offset len bytes)) in
      sound-quiet old x (Issue n v t offset len bytes ∷ []) (tt, tt) is
      (λ k u q. ap (λ (h : ℕ → Write). image h ((cuts w.events).held k u q)) writes ∙ image-issue write n new ((cuts w.events).held k u q) (old.numbers k u q)) (omega arith)
      (same-row (table w) (table x) same) (λ v h. ap (λ (T : Table). (T v).defined) same ∙ h)
