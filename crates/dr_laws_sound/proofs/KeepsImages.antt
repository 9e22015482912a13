-- Each kind of move keeps the images: what each track shows is what the host writes say.
use Rattle.std.proofs.Common.{ℕ, ◌≡◌, ◌≢◌, ◌<◌, refl, ap, sym, ◌∙◌, subst, inl, inr, Bool, true, false, cond, not, ◌&&◌, List, Some, None}
use Rattle.std.proofs.lemmas.Bool.{and_parts}
use Rattle.std.proofs.lemmas.Bool.Decides.{eqb_tells}
use Rattle.std.specs.FinSet.{contains, insert, remove, empty, union, difference}
use Rattle.dr_logic.specs.Bytes.{zeros}
use Rattle.dr_logic.specs.Tables.{at}
use Rattle.dr_model.specs.Contents.{with_write}
use Rattle.dr_model.specs.Layout.{Tracks, Fields}
use Rattle.dr_model.specs.Histories.{Write}
use Rattle.dr_model.specs.Views.{source_of, view}
use Rattle.dr_model.specs.Relations.{rest, is_bare, is_whole, parted_if, fetched, withdrawn_if, turned, given_up}
use Rattle.dr_model.specs.Pairs.{altered, written, received, mirrored, synced}
use Rattle.dr_model.specs.Moves.{Move, Land, Overwrite, Keep, Relate, Withdraw, Fetch, Resync, Reverse, Restore, Release, Store, Mirror, LandBoth, Flash, Revert, Carried, target, moved}
use Rattle.dr_model.specs.Table.{Row, Table}
use Rattle.dr_model.specs.Rows.{after, emptied, contents_of, carried_on}
use Rattle.dr_model.specs.Laws.{Structure, Parts, Recorded, Asides, source, fields, Images, Plain, Seen}
use Rattle.dr_model.specs.Allowed.{Allowed, Kept, MayKeep}
use Rattle.dr_facts.proofs.Tables.{at_cases, at_two, each-at, linked-at}
use Rattle.dr_laws_sound.proofs.KeepsStructure.{no_loop, no_targets}
use Rattle.dr_laws_sound.proofs.KeepsParts.{unrelated, unrelated_primary}
use Rattle.dr_facts.proofs.Sets.{if_true, if_false, insert_other, not_removed, remove_other, whole_has, in_all, in_rest, still_related, from_union, not_in_union}
use Rattle.dr_model.proofs.LawfulLemmas.{removed}
use Rattle.dr_logic.proofs.Choices.{chosen}
use Rattle.dr_logic.proofs.Sets.{in_insert}
use Rattle.dr_facts.proofs.Tracks.{from_difference, empty_has}
use Rattle.dr_logic.proofs.Truth.{false_true}
use Rattle.dr_logic.proofs.Options.{none_some}
use Rattle.dr_logic.proofs.Tables.{at_same, at_other}

-- what a changed row owes
pub record Owes (T : Table) (x : ℕ) (y : Row) : Type 0 where
  pub blank : (t : ℕ) → contains y.volume.fields.blank t ≡ true → y.bytes t ≡ zeros
  pub fresh : y.defined ≡ false → (t : ℕ) → y.bytes t ≡ zeros
  pub plain : Plain y
  pub seen : (u : ℕ) → u ≢ x → source y ≡ Some u → Seen y (T u)
  pub loop : source y ≡ Some x → ⊥
  pub onto : (v : ℕ) → v ≢ x → source (T v) ≡ Some x → Seen (T v) y

pub images-at : (T : Table) (x : ℕ) (y : Row) → Images T → Owes T x y → Images (at T x y)
images-at T x y images owes = record {
  blank = each-at T x y (λ v r. (t : ℕ) → contains r.volume.fields.blank t ≡ true → r.bytes t ≡ zeros) owes.blank images.blank;
  fresh = each-at T x y (λ v r. r.defined ≡ false → (t : ℕ) → r.bytes t ≡ zeros) owes.fresh images.fresh;
  plain = each-at T x y (λ v r. Plain r) owes.plain images.plain;
  seen = linked-at T x y source (λ v r u s. Seen r s) owes.seen (λ l. absurd (owes.loop l)) owes.onto images.seen;
}

-- a related volume's view, by whether it holds the track
pub view-by : (r c : Bool) (x y : List ℕ) → r ≡ true → cond (r && not c) x y ≡ cond c y x
view-by true true x y h = refl
view-by true false x y h = refl
view-by false c x y h = absurd cc

module _ (write : ℕ → Write) (T : Table) (structure : Structure T) (parts : Parts T) (recorded : Recorded T) (images : Images T) where
  -- a track is stored at v, whose targets hold it
  onto-stored : (v t : ℕ) (b : List ℕ) → Kept T v t → (u : ℕ) → source (T u) ≡ Some v → (q : ℕ) → q < (T u).volume.tracks
      → cond (contains (fields T u).own q) ((T u).bytes q) (at (T v).bytes t b q) ≡ (T u).due q
  onto-stored v t b all u h =
      at_cases (λ q c. q < (T u).volume.tracks → cond (contains (fields T u).own q) ((T u).bytes q) c ≡ (T u).due q) (T v).bytes t b
      (λ lt. if_true _ _ (all.own u h) ∙ sym (if_true _ _ (all.own u h)) ∙ images.seen u v h t lt) (λ q ne lt. images.seen u v h q lt)

  blank-stored : (v t : ℕ) (b : List ℕ) (q : ℕ) → contains (remove (fields T v).blank t) q ≡ true → at (T v).bytes t b q ≡ zeros
  blank-stored v t b =
      at_cases (λ q c. contains (remove (fields T v).blank t) q ≡ true → c ≡ zeros) (T v).bytes t b
      (λ h. absurd (false_true (not_removed (fields T v).blank t) h)) (λ q ne h. images.blank v q (removed (fields T v).blank t q h))

  -- a track is stored at a volume that is no target, as it is due, and is no longer blank
  stored : (v t : ℕ) (g : Fields) (c : Carried) (b d : List ℕ) → g.blank ≡ remove (fields T v).blank t → source_of g ≡ None → (T v).defined ≡ true → source (T v) ≡ None → Kept T v t → (t < (T v).volume.tracks → b ≡ d)
      → Owes T v (record (T v) { volume = moved (T v).volume g c; bytes = at (T v).bytes t b; due = at (T v).due t d })
  stored v t g c b d less still defined none all same = record {
    blank = λ q h. blank-stored v t b q (ap (λ s. contains s q) (sym less) ∙ h);
    fresh = λ h. absurd (false_true h defined);
    plain = λ n. at_two (λ q b d. q < (T v).volume.tracks → b ≡ d) (T v).bytes (T v).due t b d same (λ q ne lt. images.plain v none q lt);
    seen = λ u ne h. none_some still h;
    loop = λ h. none_some still h;
    onto = λ u ne h. onto-stored v t b all u h;
  }

  -- a target takes a track: its source's, or its own with a write
  module _ (v t from : ℕ) (related : source (T v) ≡ Some from) (b : List ℕ) (D : ℕ → List ℕ) (here : t < (T v).volume.tracks → b ≡ D t) (there : (q : ℕ) → q ≢ t → D q ≡ (T v).due q) where
    abbrev f : Fields
    f = fields T v

    abbrev n : ℕ
    n = (T v).volume.tracks

    abbrev own : Tracks
    own = insert f.own t

    taken-seen : (q : ℕ) → q < n → cond (contains own q) (at (T v).bytes t b q) ((T from).bytes q) ≡ D q
    taken-seen = at_cases (λ q c. q < n → cond (contains own q) c ((T from).bytes q) ≡ D q) (T v).bytes t b
        (λ lt. if_true _ _ (in_insert f.own t) ∙ here lt)
        (λ q ne lt. ap (λ c. cond c ((T v).bytes q) ((T from).bytes q)) (insert_other f.own t q ne) ∙ images.seen v from related q lt ∙ sym (there q ne))

    taken-plain : (e : Bool) → (e ≡ true → is_whole n own ≡ true) → cond (cond e false f.related) (Some (cond e 0 f.source)) None ≡ None → (q : ℕ) → q < n → at (T v).bytes t b q ≡ D q
    taken-plain true whole none q lt = sym (if_true _ _ (whole_has n own q (whole refl) lt)) ∙ taken-seen q lt
    taken-plain false whole none q lt = absurd (none_some none related)

    taken-view : (e : Bool) (u : ℕ) → cond (cond e false f.related) (Some (cond e 0 f.source)) None ≡ Some u → (q : ℕ) → q < n → cond (contains (cond e empty own) q) (at (T v).bytes t b q) ((T u).bytes q) ≡ D q
    taken-view true u h q lt = absurd cc
    taken-view false u h q lt =
        let same : from ≡ u = sym (chosen f.related f.source from related).1 ∙ (chosen f.related f.source u h).1 in
        subst (λ j. cond (contains own q) (at (T v).bytes t b q) ((T j).bytes q) ≡ D q) same (taken-seen q lt)

    abbrev ends : Bool
    ends = is_whole n own && not f.persistent

    taken-owes : (noted rewritten : Tracks) (c : Carried) → Owes T v (record (T v) { volume = moved (T v).volume (parted_if ends (record (fetched f t) { source_changes = noted; target_changes = rewritten })) c; bytes = at (T v).bytes t b; due = D })
    taken-owes noted rewritten c = record {
      blank = blank-stored v t b;
      fresh = λ h. absurd (false_true h (structure.defined v (chosen f.related f.source from related).0));
      plain = taken-plain ends (λ h. (and_parts _ _ h).0);
      seen = λ u ne. taken-view ends u;
      loop = λ h. no_loop write T structure v (still_related ends f.related f.source v h);
      onto = λ u ne h. no_targets write T structure v from u related h;
    }

  -- the source's old track is what is due
  old-track : (v t : ℕ) (a : MayKeep T v t) → t < (T v).volume.tracks → (T (fields T v).source).bytes t ≡ (T v).due t
  old-track v t a lt = ap (λ j. (T j).bytes t) (chosen (fields T v).related (fields T v).source a.from a.related).1 ∙ sym (if_false _ _ a.new) ∙ images.seen v a.from a.related t lt

  -- and so is what a target shows
  pub shows : (v t from : ℕ) → source (T v) ≡ Some from → t < (T v).volume.tracks → view (λ u. (T u).volume.fields) (contents_of T) v t ≡ (T v).due t
  shows v t from h lt =
      let both = chosen (fields T v).related (fields T v).source from h in
      view-by (fields T v).related (contains (fields T v).own t) _ _ both.0 ∙ ap (λ j. cond (contains (fields T v).own t) ((T v).bytes t) ((T j).bytes t)) both.1 ∙ images.seen v from h t lt

  -- a relationship may end, and what the target doesn't hold is blank
  module _ (v from : ℕ) (related : source (T v) ≡ Some from) (e : Bool) (g : Fields) (r : g.related ≡ (fields T v).related) (o : g.source ≡ (fields T v).source) (blank : g.blank ≡ (fields T v).blank)
      (sees : (q : ℕ) → q < (T v).volume.tracks → cond (contains g.own q) ((T v).bytes q) ((T from).bytes q) ≡ (T v).due q) where
    abbrev size : ℕ
    size = (T v).volume.tracks

    g-source : cond g.related (Some g.source) None ≡ Some from
    g-source = (λ i. cond (r i) (Some (o i)) None) ∙ related

    left-plain : (q : ℕ) (l h : Bool) → contains (rest size g.own) q ≡ l → contains g.own q ≡ h → q < size → cond l zeros ((T v).bytes q) ≡ cond l zeros ((T v).due q)
    left-plain q true h l c lt = refl
    left-plain q false true l c lt = sym (if_true _ _ c) ∙ sees q lt
    left-plain q false false l c lt =
        let r = in_rest size g.own q in let all = in_all size q lt in
        absurd (false_true l (r ∙ (λ i. all i && not (c i))))

    withdrawn-blank : (e : Bool) (q : ℕ) → contains (cond e (rest size g.own) g.blank) q ≡ true → emptied e size g.own (T v).bytes q ≡ zeros
    withdrawn-blank true q h = if_true _ _ h
    withdrawn-blank false q h = images.blank v q (ap (λ s. contains s q) (sym blank) ∙ h)

    withdrawn-plain : (e : Bool) → cond (cond e false g.related) (Some (cond e 0 g.source)) None ≡ None → (q : ℕ) → q < size → emptied e size g.own (T v).bytes q ≡ emptied e size g.own (T v).due q
    withdrawn-plain true h q lt = left-plain q _ _ refl refl lt
    withdrawn-plain false h q lt = none_some h g-source

    withdrawn-seen : (e : Bool) (u : ℕ) → cond (cond e false g.related) (Some (cond e 0 g.source)) None ≡ Some u → (q : ℕ) → q < size
        → cond (contains (cond e empty g.own) q) (emptied e size g.own (T v).bytes q) ((T u).bytes q) ≡ emptied e size g.own (T v).due q
    withdrawn-seen true u h q lt = absurd cc
    withdrawn-seen false u h q lt =
        let same : from ≡ u = sym (chosen g.related g.source from g-source).1 ∙ (chosen g.related g.source u h).1 in
        subst (λ j. cond (contains g.own q) ((T v).bytes q) ((T j).bytes q) ≡ (T v).due q) same (sees q lt)

    withdrawn-owes : (c : Carried) → Owes T v (record (T v) { volume = moved (T v).volume (withdrawn_if e size g) c; bytes = emptied e size g.own (T v).bytes; due = emptied e size g.own (T v).due })
    withdrawn-owes c = record {
      blank = withdrawn-blank e;
      fresh = λ h. absurd (false_true h (structure.defined v (chosen (fields T v).related (fields T v).source from related).0));
      plain = withdrawn-plain e;
      seen = λ u ne. withdrawn-seen e u;
      loop = λ h. no_loop write T structure v ((λ i. cond (sym r i) (Some (sym o i)) None) ∙ still_related e g.related g.source v h);
      onto = λ u ne h. no_targets write T structure v from u related h;
    }

  -- a target shares its changed tracks again
  to-source : (v u q : ℕ) → source (T v) ≡ Some u → (fields T v).recorded ≡ true → (fields T v).reversing ≡ false → (c : Bool)
      → contains (difference (difference (fields T v).own (fields T v).source_changes) (fields T v).target_changes) q ≡ c → cond c ((T v).bytes q) ((T u).bytes q) ≡ (T u).bytes q
  to-source v u q h rec rev true is = let both = from_difference _ _ q is in let first = from_difference _ _ q both.0 in recorded v u h rec rev q first.0 first.1 both.1
  to-source v u q h rec rev false is = refl

  resync-seen : (v u q : ℕ) → source (T v) ≡ Some u → (fields T v).recorded ≡ true → (fields T v).reversing ≡ false → q < (T v).volume.tracks
      → cond (contains (difference (difference (fields T v).own (fields T v).source_changes) (fields T v).target_changes) q) ((T v).bytes q) ((T u).bytes q) ≡ (T (fields T v).source).due q
  resync-seen v u q h rec rev lt =
      to-source v u q h rec rev _ refl ∙ images.plain u (structure.flash v u h).plain q (subst (λ n. q < n) (structure.flash v u h).same_tracks lt)
      ∙ ap (λ j. (T j).due q) (sym (chosen (fields T v).related (fields T v).source u h).1)

  -- or shows its unchanged tracks at its source
  reverse-seen : (v u q : ℕ) → source (T v) ≡ Some u → (fields T v).recorded ≡ true → (fields T v).reversing ≡ false → (fields T v).revertible ≡ false → q < (T v).volume.tracks → (c o : Bool)
      → contains (union (fields T v).source_changes (fields T v).target_changes) q ≡ c → contains (fields T v).own q ≡ o → cond c ((T v).bytes q) ((T u).bytes q) ≡ (T v).due q
  reverse-seen v u q h rec rev set lt true o is on = sym (if_true _ _ (from_union _ _ _ ((structure.sets v).noted_held set) ((structure.sets v).rewritten_held set) q is)) ∙ images.seen v u h q lt
  reverse-seen v u q h rec rev set lt false true is on = let none = not_in_union _ _ q is in sym (recorded v u h rec rev q on none.0 none.1) ∙ sym (if_true _ _ on) ∙ images.seen v u h q lt
  reverse-seen v u q h rec rev set lt false false is on = sym (if_false _ _ on) ∙ images.seen v u h q lt

  release-seen : (v t u : ℕ) → source (T v) ≡ Some u → (T v).bytes t ≡ (T u).bytes t → (q : ℕ) → q < (T v).volume.tracks → cond (contains (remove (fields T v).own t) q) ((T v).bytes q) ((T u).bytes q) ≡ (T v).due q
  release-seen v t u h equal q lt = elim (eqb_tells q t) [
    | inl is ↦ if_false _ _ (ap (contains (remove (fields T v).own t)) is.1 ∙ not_removed _ t) ∙ either (contains (fields T v).own q) refl (subst (λ j. (T v).bytes j ≡ (T u).bytes j) (sym is.1) equal)
    | inr not ↦ ap (λ c. cond c ((T v).bytes q) ((T u).bytes q)) (remove_other _ t q not.1) ∙ images.seen v u h q lt
  ]
    where
      either : (c : Bool) → contains (fields T v).own q ≡ c → (T v).bytes q ≡ (T u).bytes q → (T u).bytes q ≡ (T v).due q
      either true on e = sym e ∙ sym (if_true _ _ on) ∙ images.seen v u h q lt
      either false on e = sym (if_false _ _ on) ∙ images.seen v u h q lt

  abbrev with : Move → Carried
  with m = carried_on write m T

  pub kept-images : Asides T → (m : Move) → Allowed write T m → Images (after write T m)
  kept-images asides (Land w v t) a = images-at T v _ images (stored v t (written (fields T v) t) (with (Land w v t)) _ _ refl a.plain a.defined a.plain a.receives.kept (λ lt. ap (λ b. with_write write b w) (images.plain v a.plain t lt)))
  kept-images asides (Overwrite w v t) a = images-at T v _ images (taken-owes v t a.from a.related _ (at (T v).due t (with_write write ((T v).due t) w))
      (λ lt. ap (λ b. with_write write b w) (shows v t a.from a.related lt) ∙ sym (at_same (T v).due t _)) (λ q ne. at_other (T v).due t _ q ne) _ _ (with (Overwrite w v t)))
  kept-images asides (Keep v t) a = images-at T v _ images (taken-owes v t a.from a.related _ (T v).due (old-track v t a) (λ q ne. refl) _ _ (with (Keep v t)))
  kept-images asides (Fetch v t) a = images-at T v _ images (taken-owes v t a.from a.related _ (T v).due (old-track v t a) (λ q ne. refl) _ _ (with (Fetch v t)))
  kept-images asides (Relate v s c) a = images-at T v _ images (record {
    blank = images.blank v;
    fresh = images.fresh v;
    plain = λ h. absurd cc;
    seen = λ u ne h q lt. let same = (chosen true s u h).1 in
        if_false _ _ (empty_has q) ∙ subst (λ j. (T j).bytes q ≡ (T s).due q) same (images.plain s a.from_plain q (subst (λ n. q < n) a.tracks lt));
    loop = λ h. a.apart (chosen true s v h).1;
    onto = λ u ne h. absurd (a.no_source u h);
  })
  kept-images asides (Withdraw v) a = images-at T v _ images (withdrawn-owes v a.from a.related true (fields T v) refl refl refl (images.seen v a.from a.related) (with (Withdraw v)))
  kept-images asides (Resync v sequence) a = images-at T v _ images (record {
    blank = images.blank v;
    fresh = images.fresh v;
    plain = λ h. none_some h a.related;
    seen = λ u ne h q lt. resync-seen v u q h a.recorded a.forward lt;
    loop = no_loop write T structure v;
    onto = λ u ne h. no_targets write T structure v a.from u a.related h;
  })
  kept-images asides (Reverse v left) b = let a = b.resync in images-at T v _ images (withdrawn-owes v a.from a.related (is_bare (turned (fields T v)).own) (turned (fields T v)) refl refl refl
      (λ q lt. reverse-seen v a.from q a.related a.recorded a.forward a.settled lt _ _ refl refl) (with (Reverse v left)))
  kept-images asides (Restore v t u) a = let f = structure.flash u v a.related in images-at T v _ images (stored v t (altered (fields T v) t) (with (Restore v t u)) _ _ refl f.plain f.defined f.plain a.kept (λ lt. sym (if_true _ _ a.holds) ∙ images.seen u v a.related t (subst (λ n. t < n) (sym f.same_tracks) lt)))
  kept-images asides (Release v t) a = images-at T v _ images (withdrawn-owes v a.from a.related (is_bare (given_up (fields T v) t).own) (given_up (fields T v) t) refl refl refl (release-seen v t a.from a.related (sym a.equal)) (with (Release v t)))
  kept-images asides (Store v t u last) a =
      let out = parts.secondary u v a.sends in
      let none = unrelated T parts v a.takes in
      let first = unrelated_primary T parts u a.sends in
      images-at T v _ images (stored v t (received last (fields T v) t) (with (Store v t u last)) _ _ refl none out.defined none a.receives.kept (λ lt. images.plain u first t (subst (λ n. t < n) (sym out.same_tracks) lt)))
  kept-images asides (Mirror v t u w) a =
      let out = parts.secondary u v a.sends in
      let none = unrelated T parts v a.takes in
      let first = unrelated_primary T parts u a.sends in
      images-at T v _ images (stored v t (mirrored (fields T v) t) (with (Mirror v t u w)) _ _ refl none out.defined none a.receives.kept (λ lt. ap (λ b. with_write write b w) (images.plain u first t (subst (λ n. t < n) (sym out.same_tracks) lt))))
  kept-images asides (LandBoth w v t) a = let m = a.land in images-at T v _ images (stored v t (synced (fields T v) t) (with (LandBoth w v t)) _ _ refl m.plain m.defined m.plain m.receives.kept (λ lt. ap (λ b. with_write write b w) (images.plain v m.plain t lt)))
  kept-images asides (Flash v u a s n) b = let r = b.resync in images-at T v _ images (record {
    blank = images.blank v;
    fresh = images.fresh v;
    plain = λ h. none_some h r.related;
    seen = λ x ne h q lt. resync-seen v x q h r.recorded r.forward lt ∙ ap (λ j. (T j).due q) ((chosen (fields T v).related (fields T v).source r.from r.related).1 ∙ b.from);
    loop = no_loop write T structure v;
    onto = λ x ne h. no_targets write T structure v r.from x r.related h;
  })
  kept-images asides (Revert v a s n) b = images-at T v _ images (record {
    blank = images.blank v;
    fresh = images.fresh v;
    plain = λ h. none_some h b.related;
    seen = λ u ne h q lt. asides v u h b.revertible q lt;
    loop = no_loop write T structure v;
    onto = λ u ne h. no_targets write T structure v b.from u b.related h;
  })
  kept-images asides m a = let v : ℕ = target m in images-at T v _ images (record {
    blank = images.blank v;
    fresh = images.fresh v;
    plain = images.plain v;
    seen = λ u ne. images.seen v u;
    loop = no_loop write T structure v;
    onto = λ u ne. images.seen u v;
  })
