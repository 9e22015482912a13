-- Each kind of move keeps the parts: what the records of pairs say together.
use Rattle.std.proofs.Common.{ℕ, ◌≡◌, refl, ap, sym, ◌∙◌, subst, Bool, true, false, cond, not, ◌&&◌, List, Some, None}
use Rattle.std.specs.FinSet.{insert}
use Rattle.dr_logic.specs.Tables.{at}
use Rattle.dr_model.specs.declared.state.Part.{Part}
use Rattle.dr_model.specs.Layout.{Fields, is_part}
use Rattle.dr_model.specs.Histories.{Write}
use Rattle.dr_model.specs.Relations.{is_bare, is_whole, turned, given_up}
use Rattle.dr_model.specs.Moves.{Move, Overwrite, Keep, Relate, Withdraw, Fetch, Reverse, Release, MakeSecondary, MakePrimary, DropPrimary, DropSecondary, TakeOver, LeavePrimary, Yield, Carried, target, next_fields, keeps_staged, moved_keeping}
use Rattle.dr_model.specs.Table.{Row, Table}
use Rattle.dr_model.specs.Rows.{after, volumes_of, carried_on, next_bytes, next_due, next_aside}
use Rattle.dr_model.specs.Laws.{Structure, Parts, PartsFit, RowParts, Partnered, OneWay, FreeSource, source, its_primary, its_secondary, fields}
use Rattle.dr_model.specs.Allowed.{Allowed}
use Rattle.dr_facts.proofs.Tables.{each-at, linked-at}
use Rattle.dr_laws_sound.proofs.KeepsStructure.{no_loop, part-defined, still_turned}
use Rattle.dr_facts.proofs.Sets.{still_related}
use Rattle.dr_logic.proofs.Choices.{chosen, choose_none}
use Rattle.dr_logic.proofs.Truth.{false_true}

module _ (T : Table) where
  -- what changed fields owe
  pub record PartShape (x : ℕ) (primary : Part) (primary_partner : ℕ) (secondary : Part) (secondary_partner : ℕ) (related : Bool) (origin : ℕ) (reversing : Bool) : Type 0 where
    pub fit : PartsFit primary primary_partner secondary secondary_partner related
    pub second : (u : ℕ) → cond (is_part primary) (Some primary_partner) None ≡ Some u → Partnered x (T x) u (T u)
    pub first : (u : ℕ) → cond (is_part secondary) (Some secondary_partner) None ≡ Some u → Partnered x (T x) u (T u)
    pub way : (u : ℕ) → cond (is_part secondary) (Some secondary_partner) None ≡ Some u → its_primary (T u) ≡ Some x → ⊥
    pub from : (u : ℕ) → cond related (Some origin) None ≡ Some u → reversing ≡ true → is_part (fields T u).secondary ≡ false
    pub loop : cond related (Some origin) None ≡ Some x → ⊥
    pub onto : (u : ℕ) → source (T u) ≡ Some x → (fields T u).reversing ≡ true → is_part secondary ≡ false

  abbrev pub Shape : ℕ → Fields → Type 0
  Shape x g = PartShape x g.primary g.primary_partner g.secondary g.secondary_partner g.related g.source g.reversing

module _ (T : Table) (old : Parts T) where
  -- a volume with a part is no target
  unrelated_by : (v : ℕ) (r : Bool) → (fields T v).related ≡ r → (r ≡ true → ⊥) → source (T v) ≡ None
  unrelated_by v true is not = absurd (not refl)
  unrelated_by v false is not = choose_none _ _ is

  pub unrelated : (v : ℕ) {u : ℕ} → its_primary (T v) ≡ Some u → source (T v) ≡ None
  unrelated v {u} h = unrelated_by v (fields T v).related refl (λ r. false_true ((old.fit v).no_secondary r) (chosen _ _ u h).0)

  pub unrelated_primary : (v : ℕ) {u : ℕ} → its_secondary (T v) ≡ Some u → source (T v) ≡ None
  unrelated_primary v {u} h = unrelated_by v (fields T v).related refl (λ r. false_true ((old.fit v).no_primary r) (chosen _ _ u h).0)

  -- no volume is its own partner
  pub no_partner : {P : Type 0} (x : ℕ) → Partnered x (T x) x (T x) → P
  no_partner x fits = absurd (fits.apart refl)

  abbrev with_fields : Bool → ℕ → Fields → Carried → (ℕ → List ℕ) → (ℕ → List ℕ) → (ℕ → List ℕ) → Row
  with_fields keeps x g c bytes due aside = record (T x) { volume = moved_keeping keeps (T x).volume g c; bytes = bytes; due = due; aside = aside }

  pub parts-at : (keeps : Bool) (x : ℕ) (g : Fields) (c : Carried) (bytes due aside : ℕ → List ℕ) → Shape T x g → Parts (at T x (with_fields keeps x g c bytes due aside))
  parts-at keeps x g c bytes due aside s = let y : Row = with_fields keeps x g c bytes due aside in record {
    fit = each-at T x y (λ v r. RowParts r) s.fit old.fit;
    secondary = linked-at T x y its_secondary Partnered (λ u ne. s.second u) (λ h. no_partner x (s.second x h)) (λ v ne. old.secondary v x) old.secondary;
    primary = linked-at T x y its_primary Partnered (λ u ne. s.first u) (λ h. no_partner x (s.first x h)) (λ v ne. old.primary v x) old.primary;
    one_way = linked-at T x y its_primary OneWay (λ u ne. s.way u) (λ h. no_partner x (s.first x h)) (λ v ne h k. s.way v k h) old.one_way;
    free = linked-at T x y source FreeSource (λ u ne. s.from u) (λ h. absurd (s.loop h)) (λ v ne. s.onto v) old.free;
  }

  module _ (write : ℕ → Write) (structure : Structure T) where
    -- the parts stay, and a relationship may have ended
    ended : (v : ℕ) (e : Bool) → let f : Fields = fields T v in
        PartShape T v f.primary f.primary_partner f.secondary f.secondary_partner (cond e false f.related) (cond e 0 f.source) (cond e false f.reversing)
    ended v e = let f : Fields = fields T v in let o = old.fit v in record {
      fit = record { both = o.both; no_primary = part-defined e f.related o.no_primary; no_secondary = part-defined e f.related o.no_secondary };
      second = old.secondary v;
      first = old.primary v;
      way = old.one_way v;
      from = λ u h r. let both = still_turned e f.related f.reversing f.source u h r in old.free v u both.0 both.1;
      loop = λ h. no_loop write T structure v (still_related e f.related f.source v h);
      onto = λ u. old.free u v;
    }

    -- it is a secondary no more
    let_go : (v : ℕ) → Shape T v (next_fields (DropSecondary v) (volumes_of T))
    let_go v = let o = old.fit v in record {
      fit = record { both = λ h k. absurd cc; no_primary = o.no_primary; no_secondary = λ h. refl };
      second = old.secondary v;
      first = λ u h. absurd cc;
      way = λ u h. absurd cc;
      from = old.free v;
      loop = no_loop write T structure v;
      onto = λ u h r. refl;
    }

    pub part-shape : (m : Move) → Allowed write T m → Shape T (target m) (next_fields m (volumes_of T))
    part-shape (Overwrite w v t) a = ended v (is_whole (T v).volume.tracks (insert (fields T v).own t) && not (fields T v).persistent)
    part-shape (Keep v t) a = ended v (is_whole (T v).volume.tracks (insert (fields T v).own t) && not (fields T v).persistent)
    part-shape (Fetch v t) a = ended v (is_whole (T v).volume.tracks (insert (fields T v).own t) && not (fields T v).persistent)
    part-shape (Withdraw v) a = ended v true
    part-shape (Release v t) a = ended v (is_bare (given_up (fields T v) t).own)
    part-shape (Reverse v left) a = let f : Fields = fields T v in let e : Bool = is_bare (turned f).own in let still = ended v e in record {
      fit = still.fit;
      second = still.second;
      first = still.first;
      way = still.way;
      from = λ u h r.
          let here = (chosen f.related f.source u (still_related e f.related f.source u h)).1 in
          let is = (chosen f.related f.source a.resync.from a.resync.related).1 in
          subst (λ j. is_part (fields T j).secondary ≡ false) (sym is ∙ here) a.free;
      loop = still.loop;
      onto = still.onto;
    }
    part-shape (Relate v s c) a = let o = old.fit v in record {
      fit = record { both = o.both; no_primary = λ h. a.no_primary; no_secondary = λ h. a.no_secondary };
      second = old.secondary v;
      first = old.primary v;
      way = old.one_way v;
      from = λ u h r. absurd cc;
      loop = λ h. a.apart (chosen true s v h).1;
      onto = λ u h. absurd (a.no_source u h);
    }
    part-shape (MakeSecondary v u kind state) a = record {
      fit = record { both = λ h. false_true a.first h; no_primary = λ h. a.first; no_secondary = λ h. false_true a.plain h };
      second = old.secondary v;
      first = λ x h. subst (λ j. Partnered v (T v) j (T j)) (chosen (is_part kind) u x h).1 (record { defined = a.from_defined; same_tracks = a.tracks; apart = a.apart });
      way = λ x h k. let from = chosen _ _ v (subst (λ j. its_primary (T j) ≡ Some v) (sym (chosen (is_part kind) u x h).1) k) in (a.from_free from.0).apart (sym from.1);
      from = old.free v;
      loop = no_loop write T structure v;
      onto = λ x h r. absurd (a.still x h r);
    }
    part-shape (MakePrimary v u kind state full) a = let back = old.primary u v a.takes in record {
      fit = record { both = λ h. a.second; no_primary = λ h. false_true a.plain h; no_secondary = λ h. false_true a.plain h };
      second = λ x h. subst (λ j. Partnered v (T v) j (T j)) (chosen (is_part kind) u x h).1 (record { defined = a.defined; same_tracks = sym back.same_tracks; apart = λ e. back.apart (sym e) });
      first = old.primary v;
      way = old.one_way v;
      from = old.free v;
      loop = no_loop write T structure v;
      onto = λ x. old.free x v;
    }
    part-shape (DropPrimary v) a = let o = old.fit v in record {
      fit = record { both = λ h. absurd cc; no_primary = λ h. refl; no_secondary = o.no_secondary };
      second = λ u h. absurd cc;
      first = old.primary v;
      way = old.one_way v;
      from = old.free v;
      loop = no_loop write T structure v;
      onto = λ u. old.free u v;
    }
    part-shape (DropSecondary v) a = let_go v
    part-shape (LeavePrimary v) a = let_go v
    part-shape (TakeOver v) a = let o = old.fit v in record {
      fit = record { both = λ h k. absurd cc; no_primary = o.no_secondary; no_secondary = λ h. refl };
      second = old.primary v;
      first = λ u h. absurd cc;
      way = λ u h. absurd cc;
      from = old.free v;
      loop = no_loop write T structure v;
      onto = λ u h r. refl;
    }
    part-shape (Yield v u kind state) a = let o = old.fit v in record {
      fit = record { both = λ h. absurd cc; no_primary = λ h. refl; no_secondary = λ h. false_true (o.no_primary h) (chosen _ _ u a.sends).0 };
      second = λ x h. absurd cc;
      first = λ x h. old.secondary v x (a.sends ∙ ap (λ j. Some j) (chosen (is_part kind) u x h).1);
      way = λ x h k. false_true (subst (λ j. is_part (fields T j).secondary ≡ false) (chosen (is_part kind) u x h).1 a.from_free) (chosen _ _ v k).0;
      from = old.free v;
      loop = no_loop write T structure v;
      onto = λ x h r. absurd (a.still x h r);
    }
    part-shape m a = ended (target m) false

    pub kept-parts : (m : Move) → Allowed write T m → Parts (after write T m)
    kept-parts m a = parts-at (keeps_staged m) (target m) (next_fields m (volumes_of T)) (carried_on write m T) (next_bytes write m T) (next_due write m T) (next_aside m T) (part-shape m a)
