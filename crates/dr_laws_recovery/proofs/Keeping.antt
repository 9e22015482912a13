-- A law that holds along a plan: wherever the plan comes to, where servers go off by themselves in it, and as it is answered.
use Rattle.std.proofs.Common.{ℕ, ◌≡◌, ◌⊎◌, inl, inr, refl, sym, subst, Bool, List, [], ◌∷◌, take, length, Option, Some, None}
use Rattle.std.proofs.Math.Seq.{take-length}
use Rattle.dr_ids.specs.declared.refusal.Refusal.{Refusal}
use Rattle.dr_ids.specs.declared.refusal.Refusal.TheVariants.{Stopped as StoppedIn}
use Rattle.dr_model.specs.declared.event.Event.{Event}
use Rattle.dr_ids.specs.declared.names.Member.{Member}
use Rattle.dr_model.specs.Groups.{In}
use Rattle.dr_model.specs.Control.{World}
use Rattle.dr_model.specs.Carry.{Act, Next, Pass, Do, End, Entry, carry, carry_each}
use Rattle.dr_model.specs.PlanParts.{Plan, refuses, unless}
use Rattle.dr_model.specs.Carried.{begun, finish, after_plan}
use Rattle.dr_model.specs.ReadStops.{Ends}
use Rattle.dr_model.specs.Laws.{Sound}
use Rattle.dr_facts.proofs.Entries.{AllFine, FineThen}
use Rattle.dr_laws_sound.proofs.KeepsSound.{MayDo, keeps-sound}
use Rattle.dr_laws_sound.proofs.FitsFlash.{as_begun}
use Rattle.dr_laws_sound.proofs.Rides.{Rides, Both, keeps-with}
use Rattle.dr_laws_sound.proofs.Along as along

-- acts that may come, and fit
abbrev pub MayFit : (World → Act → Type 0) → World → Act → Type 0
MayFit Fit u a = MayDo u a × Fit u a

-- The laws hold along such acts, and so does a law that they keep.
pub keeps-fit : (K : World → Type 0) (Fit : World → Act → Type 0) → Rides Sound K (MayFit Fit) → along.Keeps (Both Sound K) (Both Sound K) (MayFit Fit)
keeps-fit K Fit acts = keeps-with Sound K (MayFit Fit) Sound
    (record {
      runs = λ u a d may. keeps-sound.runs u a d may.0;
      does = λ u a f j may. keeps-sound.does u a f j may.0;
      counts = λ u m f j may. keeps-sound.counts u m f j may.0;
      opens = λ u v s n f j may. keeps-sound.opens u v s n f j may.0;
      fails = λ u a f d j may. keeps-sound.fails u a f d j may.0;
    })
    acts

-- Along entries whose acts fit, where a law of their plan's own says that its acts may come, both laws hold.
module _ (L : World → Type 0) (Fit : World → Act → Type 0) (Why : Refusal → Type 0) (E : World → Type 0) (complete : (v : World) → E v → Sound v) where
  abbrev I : World → Type 0
  I = Both Sound L

  abbrev May : World → Act → Type 0
  May = MayFit Fit

  abbrev To : World → List Entry → Type 0
  To = along.Along Sound Sound E MayDo

  abbrev Fits : World → List Entry → Type 0
  Fits = along.Along I I I May

  fit-next : (u : World) (x : Next) (ds : List Entry) (more : Type 0) → (more → (v : World) → L v → To v ds → Fits v ds) → L u → FineThen L Fit Why u x more → along.along_next Sound Sound MayDo u x (λ v. To v ds) → along.along_next I I May u x (λ v. Fits v ds)
  fit-next u Pass ds more on h fit a = on fit u h a
  fit-next u (End r) ds more on h fit a = (a, h)
  fit-next u (Do b) ds more on h fit a = ((a.0, fit.0), λ f j. on fit.1 _ j.1 (a.1 f j.0))

  pub fit-along : (ds : List Entry) → AllFine L Fit Why ds → (u : World) → L u → To u ds → Fits u ds
  unfolding AllFine
  fit-along [] fit u h a = along.along-nil I I I May u (complete u (along.along-ends Sound Sound E MayDo u a), h)
  fit-along (d ∷ ds) fit u h a =
      along.along-entry I I I May u d ds (d u.control) refl
      (fit-next u (d u.control) ds (AllFine L Fit Why ds) (λ all v k a. fit-along ds all v k a) h (fit u h) (along.along-comes Sound Sound E MayDo u d ds (d u.control) refl a))

-- W is to hold wherever a plan comes to: a law that the acts keep gives it, and it says nothing of which servers are on, nor of the
-- journal
pub record Keeping (w : World) (W : World → Type 0) : Type 1 where
  pub law : World → Type 0
  pub may : World → Act → Type 0
  pub keeps : along.Keeps law law may
  pub gives : (v : World) → law v → W v
  pub told : (v : World) (on : ℕ → Bool) (es : List Event) → W v → W (record v { control = record v.control { on = on }; events = es })
  pub begins : law (as_begun w)

module _ (w : World) (W : World → Type 0) (k : Keeping w W) where
  -- such a plan: the law holds as it begins, its acts may come, its last tables keep W, and nothing follows a stop
  pub record Goes (p : Plan) : Type 0 where
    pub begins : k.law (begun w p)
    pub entries : along.Along k.law k.law k.law k.may (begun w p) p.entries
    pub last : (v : World) → W v → W (record v { control = p.last v.control })
    pub follows : (q : ℕ) → p.follows q ≡ []

  pub refused-goes : (r : Refusal) → Goes (refuses r)
  refused-goes r = record { begins = k.begins; entries = along.along-nil k.law k.law k.law k.may (as_begun w) k.begins; last = λ v h. h; follows = λ q. refl }

  pub goes-unless : (o : Option Refusal) (p : Plan) → (o ≡ None → Goes p) → Goes (unless o p)
  goes-unless None p go = go refl
  goes-unless (Some r) p go = refused-goes r

  pub goes-moment : (p : Plan) → Goes p → (n : ℕ) → W (carry (begun w p) (take n p.entries)).0
  goes-moment p goes n =
      along.along-moment k.law k.law k.law W k.may k.gives k.gives k.gives k.keeps (begun w p) n p.entries goes.begins goes.entries

  pub goes-ends : (p : Plan) → Goes p → (armed : ℕ → Bool) (u : World) (r : Option Refusal) → Ends armed u r (begun w p) p.entries → W u
  goes-ends p goes armed u r e =
      along.ends-weaker k.law k.law k.law W k.may k.gives k.gives k.gives k.keeps armed (λ v q i on is. k.told v _ _ (k.gives v i)) u r (begun w p) p.entries goes.begins goes.entries e

  -- where it ends, and as it is answered
  pub finish-goes : (p : Plan) → Goes p → (n : ℕ) (u : World) (r : Option Refusal) → W u → W (finish p n u r)
  finish-goes p goes n u None h = goes.last u h
  finish-goes p goes n u (Some (StoppedIn q)) h = subst (λ ds. W (carry_each u ds)) (sym (goes.follows n)) h
  finish-goes p goes n u (Some r) h = h

  pub goes-after : (p : Plan) → Goes p → (line : ℕ) → W (after_plan w line p)
  unfolding after_plan
  goes-after p goes line = k.told _ _ _ (finish-goes p goes _ _ _ (subst (λ ds. W (carry (begun w p) ds).0) (take-length p.entries) (goes-moment p goes (length p.entries))))

-- ---- one member after another

-- each of them is left to do, or P holds of it
module _ (ms : List Member) where
  abbrev pub LeftBut : (Member → Type 0) → List Member → Type 0
  LeftBut P rest = (q : Member) → In q ms → In q rest ⊎ P q

  pub left-passes : (P Q : Member → Type 0) (m : Member) (rest : List Member) → LeftBut P (m ∷ rest) → ((q : Member) → P q → Q q) → Q m → LeftBut Q rest
  left-passes P Q m rest left keeps here q there = by (left q there)
    where
      by : In q (m ∷ rest) ⊎ P q → In q rest ⊎ Q q
      by (inl (inl is)) = inr (subst Q (sym is) here)
      by (inl (inr more)) = inl more
      by (inr h) = inr (keeps q h)

  pub none-left : (P : Member → Type 0) → LeftBut P [] → (q : Member) → In q ms → P q
  none-left P left q there = by (left q there)
    where
      by : ⊥ ⊎ P q → P q
      by (inl never) = absurd never
      by (inr p) = p
