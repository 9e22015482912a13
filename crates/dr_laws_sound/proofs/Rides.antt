-- A law rides along plans: where each act that may come keeps it, beside the laws by which the act comes, it holds wherever plans
-- come to. Nothing is shown of a plan anew.
use Rattle.std.proofs.Common.{ℕ, refl, subst, List, [], ◌∷◌, take, Option, Some}
use Rattle.dr_model.specs.Refusals.{stopped}
use Rattle.dr_model.specs.Control.{World, Fuse}
use Rattle.dr_model.specs.Moves.{Move}
use Rattle.dr_model.specs.Carry.{Act, Make, OpenAttempt, Next, Pass, Do, End, Entry, Outcome, carry}
use Rattle.dr_model.specs.Plans.{Plan}
use Rattle.dr_model.specs.Runs.{begun, carried_out}
use Rattle.dr_laws_sound.specs.Calm.{Carries, ComesTo, EndsEach}
use Rattle.dr_laws_sound.proofs.Turns.{done_in_stop, opened_in_stop, not_done, server_of, after_act, Writes}
use Rattle.dr_laws_sound.proofs.Along as along

-- two laws together
abbrev pub Both : (World → Type 0) → (World → Type 0) → World → Type 0
Both J K w = J w × K w

-- What is to be shown of the acts: where each may come, K holds after it, and where the server stops in it.
module _ (J K : World → Type 0) (May : World → Act → Type 0) where
  pub record Rides : Type 0 where
    pub does : (w : World) (a : Act) (f : Option Fuse) → J w → K w → May w a → K (after_act w a f)
    pub counts : (w : World) (m : Move) (f : Option Fuse) → J w → K w → May w (Make m) → K (done_in_stop w m f)
    pub opens : (w : World) (v s n : ℕ) (f : Option Fuse) → J w → K w → May w (OpenAttempt v s n) → K (opened_in_stop w v s n f)
    pub fails : (w : World) (a : Act) (f : Option Fuse) → Writes a → J w → K w → May w a → K (not_done w (server_of w a) f)

  pub keeps-with : (I : World → Type 0) → along.Keeps J I May → Rides → along.Keeps (Both J K) (Both I K) May
  keeps-with I keeps rides = record {
    runs = keeps.runs;
    does = λ w a f j may. (keeps.does w a f j.0 may, rides.does w a f j.0 j.1 may);
    counts = λ w m f j may. (keeps.counts w m f j.0 may, rides.counts w m f j.0 j.1 may);
    opens = λ w v s n f j may. (keeps.opens w v s n f j.0 may, rides.opens w v s n f j.0 j.1 may);
    fails = λ w a f d j may. (keeps.fails w a f d j.0 may, rides.fails w a f d j.0 j.1 may);
  }

-- what is allowed along is so with K beside
module _ (J I E K : World → Type 0) (May : World → Act → Type 0) where
  next-with : (w : World) (x : Next) (more less : World → Type 0) → ((v : World) → K v → more v → less v) → K w → along.along_next J I May w x more → along.along_next (Both J K) (Both I K) May w x less
  next-with w Pass more less on k a = on w k a
  next-with w (End r) more less on k a = (a, k)
  next-with w (Do x) more less on k a = (a.0, λ f j. on _ j.1 (a.1 f j.0))

  pub along-with : (w : World) (ds : List Entry) → K w → along.Along J I E May w ds → along.Along (Both J K) (Both I K) (Both E K) May w ds
  along-with w [] k a = along.along-nil (Both J K) (Both I K) (Both E K) May w (along.along-ends J I E May w a, k)
  along-with w (d ∷ ds) k a =
      along.along-entry (Both J K) (Both I K) (Both E K) May w d ds (d w.control) refl
      (next-with w (d w.control) (λ v. along.Along J I E May v ds) (λ v. along.Along (Both J K) (Both I K) (Both E K) May v ds) (λ v k a. along-with v ds k a) k (along.along-comes J I E May w d ds (d w.control) refl a))

pub each-with : (I K : World → Type 0) (May : World → Act → Type 0) (ds : List Entry) → along.EachAlong I May ds → along.EachAlong (Both I K) May ds
each-with I K May [] all = tt
each-with I K May (d ∷ ds) all = (λ w i. along-with I I I K May w (d ∷ []) i.1 (all.0 w i.0), each-with I K May ds all.1)

-- A plan of which a step's laws are shown: K holds as it ends, at each of its moments, and where servers go off, if it holds as the
-- plan begins and the last tables keep it.
module _ (I W K : World → Type 0) (May : World → Act → Type 0) (w : World) (p : Plan) (holds : along.Holds I W May w p)
    (rides : Rides holds.inner K holds.may) (begins : K (begun w p)) (last : (v : World) → holds.ends v → K v → K (record v { control = p.last v.control })) where
  pub holds-with : along.Holds (Both I K) K May w p
  holds-with = record {
    inner = Both holds.inner K;
    ends = Both holds.ends K;
    may = holds.may;
    keeps = keeps-with holds.inner K holds.may I holds.keeps rides;
    within = λ v j. j.1;
    complete = λ v e. e.1;
    begins = (holds.begins, begins);
    entries = along-with holds.inner I holds.ends K holds.may (begun w p) p.entries begins holds.entries;
    follows = λ s. each-with I K May (p.follows s) (holds.follows s);
    last = λ v e. (holds.last v e.0, last v e.0 e.1);
  }

  pub plan-rides : along.Keeps I I May → Rides I K May → K (carried_out w p).0
  plan-rides each acts = (along.plan-keeps (Both I K) K May (keeps-with I K May I each acts) (λ v i. i.1) w p holds-with).1

  pub moments-ride : along.Keeps I I May → Rides I K May → (n : ℕ) → K (carry (begun w p) (take n p.entries)).0
  moments-ride each acts n = along.plan-moment (Both I K) K May (keeps-with I K May I each acts) (λ v i. i.1) w p n holds-with

  -- where its entries come to a move, K holds beside, and the move may come
  pub rides-comes_to : (v : World) (m : Move) → ComesTo Carries (begun w p) p.entries v m → Both holds.inner K v × holds.may v (Make m)
  rides-comes_to v m at =
      along.along-comes_to (Both holds.inner K) (Both I K) (Both holds.ends K) holds.may (keeps-with holds.inner K holds.may I holds.keeps rides) (begun w p) p.entries v m
      (holds.begins, begins) (along-with holds.inner I holds.ends K holds.may (begun w p) p.entries begins holds.entries) at

  -- so where a server stopped in them, and those that follow come to one
  pub rides-follows : along.Keeps I I May → Rides I K May → (s n : ℕ) (u v : World) (m : Move) → Carries (begun w p) p.entries u (Some (stopped s)) → ComesTo (EndsEach Carries) u (p.follows n) v m → Both I K v × May v (Make m)
  rides-follows each acts s n u v m ends at =
      let j : Both I K u = subst (λ (o : Outcome). along.EndedBy (Both holds.inner K) (Both I K) (Both holds.ends K) holds.may o.0 o.1) ends
      (along.along (Both holds.inner K) (Both I K) (Both holds.ends K) holds.may (keeps-with holds.inner K holds.may I holds.keeps rides) (begun w p) p.entries (holds.begins, begins)
      (along-with holds.inner I holds.ends K holds.may (begun w p) p.entries begins holds.entries)) in
      along.each-comes_to (Both I K) May Carries (along.carried-ends (Both I K) May (keeps-with I K May I each acts)) (p.follows n) (each-with I K May (p.follows n) (holds.follows n)) u v m j at
