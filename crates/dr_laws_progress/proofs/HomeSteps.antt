-- A failback and a failover of the way home: nothing refuses them, and what they leave.
use Rattle.std.proofs.Common.{ℕ, ◌≡◌, ◌≢◌, ◌⊎◌, inl, inr, refl, ap, sym, ◌∙◌, subst, Bool, true, false, cond, ◌&&◌, List, [], ◌∷◌, ◌++◌, Option, Some, None}
use Rattle.std.specs.Prelude.{is_some}
use Rattle.std.proofs.lemmas.Bool.{and_from, eq-eqb, not_from_false}
use Rattle.dr_ids.specs.declared.refusal.Refusal.{Refusal}
use Rattle.dr_ids.specs.declared.refusal.Kind.TheVariants.{Server as OfServer}
use Rattle.dr_model.specs.Refusals.{stopped, unknown}
use Rattle.dr_model.specs.declared.state.Part.TheVariants.{Global}
use Rattle.dr_model.specs.declared.state.PairState.{PairState}
use Rattle.dr_model.specs.declared.state.PairState.TheVariants.{CopyPending, FullDuplex}
use Rattle.dr_model.specs.Layout.{Fields, is_part}
use Rattle.dr_model.specs.Relations.{is_bare}
use Rattle.dr_model.specs.Pairs.{is_cascaded, is_metro, is_kind, is_primary_of, is_secondary_of, state_with, with_more, next_state}
use Rattle.dr_model.specs.Control.{Control, Fuse, Volume, World}
use Rattle.dr_model.specs.Moves.{Move, Follow, Resume, TakeOver, LeavePrimary, FallBack, Yield, target}
use Rattle.dr_model.specs.Carry.{Make, Do, Entry, Outcome, Turn, continue, carry, now}
use Rattle.dr_model.specs.Entries.{fields_at, is_running, is_settled, is_no_secondary}
use Rattle.dr_model.specs.PairEntries.{end_if, refuse_if, reach_refusal, leads_to, leads_as, belongs_to, may_take_over, unsent_by, fall_back_on, yield_on, may_resume, follow_on, resume_on}
use Rattle.dr_model.specs.Plans.{found_volumes, is_defined, is_owner, failback_plan, failover_plan, yield_refusal, resume_pair_plan}
use Rattle.dr_model.specs.Allowed.{Runs}
use Rattle.dr_model.proofs.CarryLemmas.{act-move, carry-none, carry-first, carry-skips, carry-passed}
use Rattle.dr_facts.proofs.Tables.{at_cases, at_part}
use Rattle.dr_logic.proofs.Tables.{at_same, at_other}
use Rattle.dr_logic.proofs.Truth.{false_true}
use Rattle.dr_laws_sound.proofs.FitsFlash.{as_begun}
use Rattle.dr_laws_sound.proofs.FitsPairs.{row, runs-done}
use Rattle.dr_laws_sound.proofs.Turns.{next_of, done, turn-armed}
use Rattle.dr_laws_progress.specs.PairWays.{CopiesWith}
use Rattle.dr_laws_progress.specs.Home.{LeadEachOther, IsTurnedTo, IsSuspendedTo, unnamed}
use Rattle.dr_laws_progress.proofs.PairMoves.{copies-part}
use Rattle.dr_laws_progress.proofs.HomeKept.{relation, Kin, Near}

-- ---- one move more

pub kin-more : (f g h : Fields) → Kin f g → relation h ≡ relation g → Kin f h
kin-more f g h (inl same) next = inl (next ∙ same)
kin-more f g h (inr p) next = inr (p.0, record { no_member = ap (λ (r : Fields). r.member) next ∙ p.1.no_member; settled = ap (λ (r : Fields). r.revertible) next ∙ p.1.settled; forward = ap (λ (r : Fields). r.reversing) next ∙ p.1.forward })

-- a fuse is armed on server q
abbrev pub HasFuse : World → ℕ → Type 0
HasFuse w q = is_some (w.control.fuse q) ≡ true

pub near-none : (w : World) → Near w (as_begun w)
near-none w = record { server = λ v. refl; link = refl; paths = refl; volumes = refl; sessions = refl; kin = λ v. inl refl }

pub near-done : (w u : World) (m : Move) (f : Option Fuse) → Kin (fields_at w.control (target m)) (next_of u m) → Near w u → Near w (done u m f)
near-done w u m f kin old = record {
  server = λ v. at_part (λ (y : Volume). y.server) u.control.volume (target m) (row u m f) refl v ∙ old.server v;
  link = old.link;
  paths = old.paths;
  volumes = old.volumes;
  sessions = old.sessions;
  kin = at_cases (λ v (y : Volume). Kin (fields_at w.control v) y.fields) u.control.volume (target m) (row u m f) kin (λ v ne. old.kin v);
}

-- a fuse that is armed in u was armed in w
abbrev pub Fused : World → World → Type 0
Fused w u = (q : ℕ) → HasFuse u q → HasFuse w q

-- The entries end well, in a world like the one in which they began, of which Q holds; or a server stops, on which a fuse was armed as they began.
abbrev pub GoesTo : World → (World → Type 0) → Outcome → Type 0
GoesTo w Q o = ((v : World) × ((o ≡ (v, None)) × (Near w v × (Fused w v × Q v)))) ⊎ ((v : World) × ((q : ℕ) × ((o ≡ (v, Some (stopped q))) × HasFuse w q)))

module _ (w : World) (Q : World → Type 0) where
  move-goes : (u : World) (d : Entry) (m : Move) (ds : List Entry) → d u.control ≡ Do (Make m) → Runs u (target m) → relation (next_of u m) ≡ relation (fields_at u.control (target m)) → Near w u → Fused w u
      → ((f : Option Fuse) → Near w (done u m f) → Fused w (done u m f) → GoesTo w Q (carry (done u m f) ds)) → GoesTo w Q (carry u (d ∷ ds))
  move-goes u d m ds is on same near fused rest =
      subst (GoesTo w Q) (sym (carry-first u d ds (Do (Make m)) is))
      (subst (λ (t : Turn). GoesTo w Q (continue t.0 t.1 (λ v. carry v ds))) (sym (act-move u m))
      (turn-armed u m (λ (t : Turn). GoesTo w Q (continue t.0 t.1 (λ v. carry v ds)))
      (λ down. false_true down on)
      (λ f armed. rest f (near-done w u m f (kin-more _ _ _ (near.kin (target m)) same) near) (fused-then f armed))
      (λ armed f. inr (_, (_, (refl, fused _ armed)))) (λ armed f. inr (_, (_, (refl, fused _ armed))))))
    where
      fused-then : (f : Option Fuse) → is_some f ≡ is_some (u.control.fuse (u.control.volume (target m)).server) → Fused w (done u m f)
      fused-then f armed = at_cases (λ q (o : Option Fuse). is_some o ≡ true → HasFuse w q) u.control.fuse (u.control.volume (target m)).server f (λ h. fused _ (sym armed ∙ h)) (λ q ne h. fused q h)

  ends-goes : (u : World) → Near w u → Fused w u → Q u → GoesTo w Q (carry u [])
  ends-goes u near fused holds = inl (u, (carry-none u, (near, (fused, holds))))

pub skips-refuse : (u : World) (why : Control → Option Refusal) (ds : List Entry) → why u.control ≡ None → carry u (refuse_if why ∷ ds) ≡ carry u ds
skips-refuse u why ds none = carry-skips u (refuse_if why) ds (ap end_if none)

-- ---- a pair by its two records

abbrev pub TurnedIn : ℕ → ℕ → World → Type 0
TurnedIn x y u = IsTurnedTo u.control x y

pub primary-of : (b : ℕ) (f : Fields) → CopiesWith f.primary f.primary_partner b → is_primary_of b f ≡ true
primary-of b f c = and_from _ _ (copies-part f.primary f.primary_partner b c) (eq-eqb f.primary_partner b c.1)

pub secondary-of : (a : ℕ) (f : Fields) → CopiesWith f.secondary f.secondary_partner a → is_secondary_of a f ≡ true
secondary-of a f c = and_from _ _ (copies-part f.secondary f.secondary_partner a c) (eq-eqb f.secondary_partner a c.1)

-- a Global Copy pair goes on in Copy Pending
pending-global : (f : Fields) (bare : Bool) → f.primary ≡ Global → cond (is_metro f.primary && bare) FullDuplex CopyPending ≡ CopyPending
pending-global f bare is = ap (λ p. cond (is_metro p && bare) FullDuplex CopyPending) is

-- the checks of lines that name no server
pub passes-found : (w : World) (u v : ℕ) → is_defined u w.control ≡ true → is_defined v w.control ≡ true → (ds : List Entry) → carry (as_begun w) (found_volumes unnamed u v ++ ds) ≡ carry (as_begun w) ds
passes-found w u v there too ds =
    carry-passed (as_begun w) (is_defined u) _ _ there ∙ carry-passed (as_begun w) (is_defined v) _ _ too
    ∙ carry-passed (as_begun w) (is_owner None u) (unknown OfServer) _ refl ∙ carry-passed (as_begun w) (is_owner None v) (unknown OfServer) ds refl

module _ (w : World) (x y : ℕ) (ne : y ≢ x) (there_x : is_defined x w.control ≡ true) (there_y : is_defined y w.control ≡ true) (on_x : is_running x w.control ≡ true) (on_y : is_running y w.control ≡ true) where
  abbrev first : World
  first = as_begun w

  -- ---- a failback of x to y

  module _ (leads : CopiesWith (fields_at w.control x).primary (fields_at w.control x).primary_partner y) (back : CopiesWith (fields_at w.control y).primary (fields_at w.control y).primary_partner x)
      (x_second : is_part (fields_at w.control x).secondary ≡ false) (y_second : is_part (fields_at w.control y).secondary ≡ false)
      (reach : reach_refusal x y w.control ≡ None) (x_settled : is_settled x w.control ≡ true) (y_settled : is_settled y w.control ≡ true) (yields : yield_refusal y w.control ≡ None) where
    abbrev falls : Move
    falls = FallBack x (unsent_by y w.control) (state_with (unsent_by y w.control) (fields_at w.control x))

    abbrev half : Option Fuse → World
    half f = done first falls f

    abbrev yielding : Option Fuse → Move
    yielding f = Yield y x (fields_at (half f).control x).primary (fields_at (half f).control x).primary_state

    abbrev both : Option Fuse → Option Fuse → World
    both f g = done (half f) (yielding f) g

    at-half : (f : Option Fuse) → (half f).control.volume x ≡ row first falls f
    at-half f = at_same w.control.volume x (row first falls f)

    at-x : (f g : Option Fuse) → (both f g).control.volume x ≡ row first falls f
    at-x f g = at_other (half f).control.volume y (row (half f) (yielding f) g) x (λ e. ne (sym e)) ∙ at-half f

    at-y : (f g : Option Fuse) → (both f g).control.volume y ≡ row (half f) (yielding f) g
    at-y f g = at_same (half f).control.volume y (row (half f) (yielding f) g)

    turned : (f g : Option Fuse) → TurnedIn x y (both f g)
    turned f g = record {
      leads = (ap (λ (v : Volume). v.fields.primary) (at-x f g) ∙ leads.0, ap (λ (v : Volume). v.fields.primary_partner) (at-x f g) ∙ leads.1);
      pending = ap (λ (v : Volume). v.fields.primary_state) (at-x f g) ∙ pending-global (fields_at w.control x) (is_bare (with_more (unsent_by y w.control) (fields_at w.control x)).out_of_sync) leads.0;
      x_second = ap (λ (v : Volume). is_part v.fields.secondary) (at-x f g) ∙ x_second;
      follows = (ap (λ (v : Volume). v.fields.secondary) (at-y f g) ∙ (ap (λ (v : Volume). v.fields.primary) (at-half f) ∙ leads.0), ap (λ (v : Volume). v.fields.secondary_partner) (at-y f g));
      y_first = ap (λ (v : Volume). is_part v.fields.primary) (at-y f g);
    }

    begins : carry first (failback_plan w.control unnamed x y Global).entries ≡ carry first (fall_back_on x y ∷ yield_on y x ∷ [])
    begins =
        passes-found w x y there_x there_y _ ∙ carry-passed first (is_running x) _ _ on_x ∙ skips-refuse first (reach_refusal x y) _ reach
        ∙ carry-passed first (leads_as x y Global) _ _ (and_from _ _ (primary-of y (fields_at w.control x) leads) (ap (is_kind Global) leads.0))
        ∙ carry-passed first (leads_to y x) _ _ (primary-of x (fields_at w.control y) back)
        ∙ carry-passed first (is_no_secondary x) _ _ (not_from_false _ x_second) ∙ carry-passed first (is_no_secondary y) _ _ (not_from_false _ y_second)
        ∙ carry-passed first (is_settled y) _ _ y_settled ∙ carry-passed first (is_settled x) _ _ x_settled ∙ skips-refuse first (yield_refusal y) _ yields

    pub failback-goes : GoesTo w (TurnedIn x y) (carry first (failback_plan w.control unnamed x y Global).entries)
    failback-goes =
        subst (GoesTo w (TurnedIn x y)) (sym begins)
        (move-goes w (TurnedIn x y) first (fall_back_on x y) falls (yield_on y x ∷ []) refl on_x refl (near-none w) (λ q h. h) (λ f near fused.
        move-goes w (TurnedIn x y) (half f) (yield_on y x) (yielding f) [] refl (runs-done first falls f y on_y) refl near fused (λ g near fused.
        ends-goes w (TurnedIn x y) (both f g) near fused (turned f g))))

  -- ---- a failover of y, the secondary of x

  module _ (turned : TurnedIn x y w) where
    abbrev takes : Move
    takes = TakeOver y

    abbrev over : Option Fuse → World
    over f = done first takes f

    now-y : (f : Option Fuse) → (over f).control.volume y ≡ row first takes f
    now-y f = at_same w.control.volume y (row first takes f)

    now-x : (f : Option Fuse) → (over f).control.volume x ≡ w.control.volume x
    now-x f = at_other w.control.volume y (row first takes f) x (λ e. ne (sym e))

    abbrev LeadsIn : World → Type 0
    LeadsIn u = LeadEachOther u.control y x

    lead-each-other : (f : Option Fuse) → LeadsIn (over f)
    lead-each-other f = record {
      leads = (ap (λ (v : Volume). v.fields.primary) (now-y f) ∙ turned.follows.0, ap (λ (v : Volume). v.fields.primary_partner) (now-y f) ∙ turned.follows.1);
      back = (ap (λ (v : Volume). v.fields.primary) (now-x f) ∙ turned.leads.0, ap (λ (v : Volume). v.fields.primary_partner) (now-x f) ∙ turned.leads.1);
      a_second = ap (λ (v : Volume). is_part v.fields.secondary) (now-y f);
      b_second = ap (λ (v : Volume). is_part v.fields.secondary) (now-x f) ∙ turned.x_second;
    }

    uncascaded : is_cascaded (fields_at w.control y) ≡ false
    uncascaded = ap (λ p. p && is_part (fields_at w.control y).secondary) turned.y_first

    over-begins : carry first (failover_plan w.control unnamed y x Global).entries ≡ carry first (now takes ∷ [])
    over-begins =
        passes-found w y x there_y there_x _ ∙ carry-passed first (is_running y) _ _ on_y
        ∙ carry-passed first (may_take_over x y Global) _ _ (and_from _ _ (secondary-of x (fields_at w.control y) turned.follows) (ap (is_kind Global) turned.follows.0))
        ∙ ap (λ c. carry first (now (cond c (LeavePrimary y) takes) ∷ [])) uncascaded

    pub failover-goes : GoesTo w LeadsIn (carry first (failover_plan w.control unnamed y x Global).entries)
    failover-goes =
        subst (GoesTo w LeadsIn) (sym over-begins)
        (move-goes w LeadsIn first (now takes) takes [] refl on_y refl (near-none w) (λ q h. h) (λ f near fused. ends-goes w LeadsIn (over f) near fused (lead-each-other f)))

  -- ---- a Suspended pair goes on

  module _ (parted : IsSuspendedTo w.control x y) (reach : reach_refusal x y w.control ≡ None) where
    abbrev next : PairState
    next = next_state (fields_at w.control x)

    abbrev told : Option Fuse → World
    told f = done first (Follow y next) f

    told-x : (f : Option Fuse) → (told f).control.volume x ≡ w.control.volume x
    told-x f = at_other w.control.volume y (row first (Follow y next) f) x (λ e. ne (sym e))

    abbrev resuming : Option Fuse → Move
    resuming f = Resume x (next_state (fields_at (told f).control x))

    abbrev on_again : Option Fuse → Option Fuse → World
    on_again f g = done (told f) (resuming f) g

    again-x : (f g : Option Fuse) → (on_again f g).control.volume x ≡ row (told f) (resuming f) g
    again-x f g = at_same (told f).control.volume x (row (told f) (resuming f) g)

    again-y : (f g : Option Fuse) → (on_again f g).control.volume y ≡ row first (Follow y next) f
    again-y f g = at_other (told f).control.volume x (row (told f) (resuming f) g) y ne ∙ at_same w.control.volume y (row first (Follow y next) f)

    was : (f : Option Fuse) → fields_at (told f).control x ≡ fields_at w.control x
    was f = ap (λ (v : Volume). v.fields) (told-x f)

    resumed : (f g : Option Fuse) → TurnedIn x y (on_again f g)
    resumed f g = record {
      leads = (ap (λ (v : Volume). v.fields.primary) (again-x f g) ∙ (ap (λ (h : Fields). h.primary) (was f) ∙ parted.leads.0), ap (λ (v : Volume). v.fields.primary_partner) (again-x f g) ∙ (ap (λ (h : Fields). h.primary_partner) (was f) ∙ parted.leads.1));
      pending = ap (λ (v : Volume). v.fields.primary_state) (again-x f g) ∙ (ap next_state (was f) ∙ pending-global (fields_at w.control x) (is_bare (fields_at w.control x).out_of_sync) parted.leads.0);
      x_second = ap (λ (v : Volume). is_part v.fields.secondary) (again-x f g) ∙ (ap (λ (h : Fields). is_part h.secondary) (was f) ∙ parted.x_second);
      follows = (ap (λ (v : Volume). v.fields.secondary) (again-y f g) ∙ parted.follows.0, ap (λ (v : Volume). v.fields.secondary_partner) (again-y f g) ∙ parted.follows.1);
      y_first = ap (λ (v : Volume). is_part v.fields.primary) (again-y f g) ∙ parted.y_first;
    }

    resume-begins : carry first (resume_pair_plan w.control unnamed x y Global).entries ≡ carry first (follow_on x y ∷ resume_on x ∷ [])
    resume-begins =
        passes-found w x y there_x there_y _ ∙ carry-passed first (is_running x) _ _ on_x
        ∙ carry-passed first (may_resume x y Global) _ _ (and_from _ _ (primary-of y (fields_at w.control x) parted.leads) (and_from _ _ (ap (is_kind Global) parted.leads.0) parted.suspended))
        ∙ skips-refuse first (reach_refusal x y) _ reach ∙ carry-passed first (belongs_to x y) _ _ (secondary-of x (fields_at w.control y) parted.follows)

    pub resume-goes : GoesTo w (TurnedIn x y) (carry first (resume_pair_plan w.control unnamed x y Global).entries)
    resume-goes =
        subst (GoesTo w (TurnedIn x y)) (sym resume-begins)
        (move-goes w (TurnedIn x y) first (follow_on x y) (Follow y next) (resume_on x ∷ []) refl on_y refl (near-none w) (λ q h. h) (λ f near fused.
        move-goes w (TurnedIn x y) (told f) (resume_on x) (resuming f) [] refl (runs-done first (Follow y next) f x on_x) refl near fused (λ g near fused.
        ends-goes w (TurnedIn x y) (on_again f g) near fused (resumed f g))))
