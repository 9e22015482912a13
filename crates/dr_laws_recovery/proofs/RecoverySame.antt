-- When a recovery makes the same in two worlds, and what one move leaves of what is decided.
use Rattle.std.proofs.Common.{ℕ, ◌≡◌, ◌≢◌, inl, inr, nat_eq, refl, ap, sym, ◌∙◌, subst, Bool, true, false, cond, ◌||◌, List, [], ◌∷◌, map, filter, rules}
use Rattle.std.specs.Prelude.{◌&&◌}
use Rattle.std.proofs.lemmas.Bool.{and_parts, or_right, eqb-true, false_from_ne_true}
use Rattle.dr_ids.specs.declared.names.Member.{Member}
use Rattle.dr_model.specs.Layout.{Fields}
use Rattle.dr_model.specs.Decisions.{numbers_in, decision}
use Rattle.dr_model.specs.Control.{Volume, World}
use Rattle.dr_model.specs.Moves.{Move, target, moved_keeping}
use Rattle.dr_model.specs.Entries.{fields_at}
use Rattle.dr_model.specs.SessionEntries.{counts_in, shown_of}
use Rattle.dr_model.specs.Sessions.{Session}
use Rattle.dr_model.specs.Groups.{In}
use Rattle.dr_model.specs.Attempts.{Attempts}
use Rattle.dr_model.specs.Table.{table}
use Rattle.dr_model.specs.Laws.{Sound, sizes}
use Rattle.dr_laws_sessions.specs.Frames.{Moves}
use Rattle.dr_facts.proofs.Lists.{from-filter}
use Rattle.dr_laws_attempts.proofs.Tables.{counts-here}
use Rattle.dr_laws_recovery.specs.BothViews.{IsRevertible}
use Rattle.dr_model.specs.Recovery.{decided_over, goes_back, remains_in, number_after, view_before, common, recovery_by}
use Rattle.dr_laws_recovery.specs.Recovered.{SameRecovery}
use Rattle.dr_model.specs.Views.{view}
use Rattle.dr_laws_sound.proofs.Turns.{next_of, carried_in}
use Rattle.dr_laws_recovery.proofs.Recovered.{Alike}
use Rattle.dr_facts.proofs.Tables.{at_part}
use Rattle.dr_logic.proofs.Truth.{false_true}
use Rattle.dr_logic.proofs.Tables.{at_other}

-- ---- lists

pub filter-same : (p q : ℕ → Bool) (xs : List ℕ) → ((x : ℕ) → In x xs → p x ≡ q x) → filter p xs ≡ filter q xs
filter-same p q [] same = refl
filter-same p q (x ∷ xs) same = (λ i. cond (same x (inl refl) i) (x ∷ filter p xs) (filter p xs)) ∙ ap (λ ys. cond (q x) (x ∷ ys) ys) (filter-same p q xs (λ y h. same y (inr h)))

pub map-same : {Y : Type 0} (f g : ℕ → Y) (xs : List ℕ) → ((x : ℕ) → In x xs → f x ≡ g x) → map f xs ≡ map g xs
map-same f g [] same = refl
map-same f g (x ∷ xs) same = λ i. same x (inl refl) i ∷ map-same f g xs (λ y h. same y (inr h)) i

-- ---- what a recovery makes is a matter of who goes back

-- the same of a volume that counts and is revertible, and no matter of another one
back-same : (s : ℕ) (b c : Bool) (f : Fields) → (counts_in s f ≡ true → f.revertible ≡ true → b ≡ c) → counts_in s f ≡ true → goes_back b f ≡ goes_back c f
back-same s b c f same counted = by f.revertible refl
  where
    by : (r : Bool) → f.revertible ≡ r → (b && r) ≡ (c && r)
    by true is = ap (λ b. b && true) (same counted is)
    by false is = grind rules

remains-same : (s : ℕ) (b c : Bool) (f : Fields) → (counts_in s f ≡ true → f.revertible ≡ true → b ≡ c) → remains_in s b f ≡ remains_in s c f
remains-same s b c f same = by (counts_in s f) refl
  where
    by : (n : Bool) → counts_in s f ≡ n → (n && cond (goes_back b f) f.member true) ≡ (n && cond (goes_back c f) f.member true)
    by true is = ap (λ g. cond g f.member true) (back-same s b c f same is)
    by false is = refl

remains-counts : (s : ℕ) (b : Bool) (f : Fields) → remains_in s b f ≡ true → counts_in s f ≡ true
remains-counts s b f h = (and_parts (counts_in s f) (cond (goes_back b f) f.member true) h).0

-- by truth values that agree where a volume counts and is revertible, and records that are alike, a recovery makes the same
pub recovery-same : (s : ℕ) (b c : Bool) (w u : World) → u.control.volumes ≡ w.control.volumes → ((v : ℕ) → In v u.control.volumes → counts_in s (fields_at u.control v) ≡ true → (fields_at u.control v).revertible ≡ true → b ≡ c)
    → Alike s c (table w) (table u) → SameRecovery (sizes w.control) (recovery_by c (fields_at w.control) w.contents w.control.volumes s) (recovery_by b (fields_at u.control) u.contents u.control.volumes s)
recovery-same s b c w u volumes agree alike = record {
  remaining = remaining;
  group = ap (λ ns. common (numbers_in ns)) (ap (map (λ v. number_after b (fields_at u.control v))) remaining ∙ map-same _ _ (rest w) (λ v h. number v (from-filter _ w.control.volumes v h)));
  images = λ v t h lt. let f = from-filter _ w.control.volumes v h in
      ap (λ g. cond g (view_before (fields_at u.control) u.contents v t) (view (fields_at u.control) u.contents v t)) (back v f.0 f.1) ∙ (alike v).image t f.1 lt;
}
  where
    rest : World → List ℕ
    rest x = filter (λ v. remains_in s c (fields_at x.control v)) w.control.volumes

    there : (v : ℕ) → In v w.control.volumes → In v u.control.volumes
    there v h = subst (In v) (sym volumes) h

    remaining : filter (λ v. remains_in s b (fields_at u.control v)) u.control.volumes ≡ filter (λ v. remains_in s c (fields_at w.control v)) w.control.volumes
    remaining = ap (filter (λ v. remains_in s b (fields_at u.control v))) volumes
        ∙ filter-same _ _ w.control.volumes (λ v h. remains-same s b c (fields_at u.control v) (agree v (there v h)) ∙ (alike v).remains)

    back : (v : ℕ) → In v w.control.volumes → remains_in s c (fields_at w.control v) ≡ true → goes_back b (fields_at u.control v) ≡ goes_back c (fields_at u.control v)
    back v h r = back-same s b c (fields_at u.control v) (agree v (there v h)) (remains-counts s c (fields_at u.control v) ((alike v).remains ∙ r))

    number : (v : ℕ) → In v w.control.volumes × (remains_in s c (fields_at w.control v) ≡ true) → number_after b (fields_at u.control v) ≡ number_after c (fields_at w.control v)
    number v f = ap (λ g. cond g (fields_at u.control v).previous_sequence (fields_at u.control v).sequence) (back v f.0 f.1) ∙ (alike v).number f.1

-- a revertible target has a source
pub is-revertible : (u : World) → Attempts u.control → (v : ℕ) → (fields_at u.control v).revertible ≡ true → IsRevertible (table u) v
is-revertible u law v h =
    let t = (law.volumes v).counted (or_right (fields_at u.control v).member (fields_at u.control v).revertible h) in
    record { from = t.member.b.0; related = t.source; revertible = h }

-- a member's target that counts, counts in no other session
pub elsewhere : (u : World) → Sound u → (s c i : ℕ) (q : Member) (x : Session) → In x u.control.sessions → x.number ≡ i → In q x.members → q.c.0 ≡ c → ((fields_at u.control c).member || (fields_at u.control c).revertible) ≡ true → i ≢ s
    → nat_eq (fields_at u.control c).session s ≡ false
elsewhere u sound s c i q x listed number here is counted ne = false_from_ne_true _ (λ e. ne (sym number ∙ (sym own ∙ eqb-true (fields_at u.control c).session s e)))
  where
    own : (fields_at u.control c).session ≡ x.number
    own = subst (λ c. (fields_at u.control c).session ≡ x.number) is
        (eqb-true (fields_at u.control q.c.0).session x.number (and_parts (nat_eq (fields_at u.control q.c.0).session x.number) ((fields_at u.control q.c.0).member || (fields_at u.control q.c.0).revertible)
        (counts-here u.control sound.groups sound.attempts x q listed here (ap (λ c. (fields_at u.control c).member || (fields_at u.control c).revertible) is ∙ counted))).0)

pub left-away : (s : ℕ) (b : Bool) (i : ℕ) → nat_eq i s ≡ false → (nat_eq (cond b i 0) s && (b || false)) ≡ false
left-away s true i none = ap (λ b. b && true) none
left-away s false i none = grind rules

-- ---- what is decided over all volumes, where one changes

module _ (s : ℕ) (u j : World) (m : Move) (moves : Moves u.control j.control (target m) (next_of u m) (carried_in u m)) where
  -- a part of records that the move leaves
  pub part-stays : {Y : Type 0} (g : Fields → Y) → g (next_of u m) ≡ g (fields_at u.control (target m)) → (v : ℕ) → g (fields_at j.control v) ≡ g (fields_at u.control v)
  part-stays g same v = ap (λ (x : ℕ → Volume). g (x v).fields) moves.volume ∙ at_part (λ (y : Volume). g y.fields) u.control.volume (target m) (moved_keeping moves.keeps (u.control.volume (target m)) (next_of u m) (carried_in u m)) same v

  pub decided-still : counts_in s (next_of u m) ≡ counts_in s (fields_at u.control (target m)) → shown_of (next_of u m) ≡ shown_of (fields_at u.control (target m)) → decided_over (fields_at j.control) j.control.volumes s ≡ decided_over (fields_at u.control) u.control.volumes s
  decided-still counted shows = λ i. decision (map (λ v. part-stays shown_of shows v i) (filter (λ v. part-stays (counts_in s) counted v i) (moves.volumes i)))

  -- one that doesn't count, before or after: those that count are as they were
  pub others-count : counts_in s (fields_at u.control (target m)) ≡ false → (v : ℕ) → counts_in s (fields_at u.control v) ≡ true → fields_at j.control v ≡ fields_at u.control v
  others-count before v c = ap (λ (x : ℕ → Volume). (x v).fields) moves.volume
      ∙ ap (λ (y : Volume). y.fields) (at_other u.control.volume (target m) (moved_keeping moves.keeps (u.control.volume (target m)) (next_of u m) (carried_in u m)) v (λ e. false_true (subst (λ v. counts_in s (fields_at u.control v) ≡ false) (sym e) before) c))

  pub decided-away : counts_in s (fields_at u.control (target m)) ≡ false → counts_in s (next_of u m) ≡ false → decided_over (fields_at j.control) j.control.volumes s ≡ decided_over (fields_at u.control) u.control.volumes s
  decided-away before then_not = ap decision
      ((λ i. map (λ v. shown_of (fields_at j.control v)) (filter (λ v. part-stays (counts_in s) (then_not ∙ sym before) v i) (moves.volumes i)))
      ∙ map-same (λ v. shown_of (fields_at j.control v)) (λ v. shown_of (fields_at u.control v)) (filter (λ v. counts_in s (fields_at u.control v)) u.control.volumes)
      (λ v h. ap shown_of (others-count before v (from-filter (λ v. counts_in s (fields_at u.control v)) u.control.volumes v h).1)))
