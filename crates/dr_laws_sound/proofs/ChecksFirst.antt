-- Entries of which checks come first: a refusal comes before anything was done. So a plan of such entries that is refused, but by the stop
-- of a server, leaves the world as it was.
use Rattle.std.proofs.Common.{ℕ, suc, ◌≡◌, refl, ap, sym, ◌∙◌, take, drop, List, [], ◌∷◌, Option, Some, None}
use Rattle.std.specs.List.{flat_map}
use Rattle.dr_ids.specs.declared.refusal.Refusal.{Refusal}
use Rattle.dr_ids.specs.declared.refusal.Refusal.TheVariants.{Stopped as StoppedIn}
use Rattle.dr_model.specs.Refusals.{stopped}
use Rattle.dr_model.specs.Control.{Control, World, Fuse}
use Rattle.dr_model.specs.Carry.{Act, Make, OpenAttempt, Redo, Acknowledge, Drop, EndFreeze, EndThaw, EndRecovery, act, Turn, Next, Pass, Do, End, Entry, Outcome, carry, continue, go, follow}
use Rattle.dr_model.specs.PairEntries.{refuse_if}
use Rattle.dr_model.proofs.CarryLemmas.{onward, carry-none, carry-append}
use Rattle.dr_laws_sound.specs.Stops.{refused_stop}
use Rattle.dr_laws_sound.proofs.Turns.{Counts, after_act, act-cases}
use Rattle.dr_facts.proofs.Entries.{any_world, any_reason, WhyNot, AllFine, FineFrom, FromThen, from-refuse, from-all, next-ends, carry-ends}

-- no reason at all
abbrev pub never : Refusal → Type 0
never r = ⊥

abbrev pub any_act : World → Act → Type 0
any_act w a = Unit {0}

-- entries that end no plan
abbrev pub NeverRefuse : List Entry → Type 0
NeverRefuse = AllFine any_world any_act never

-- checks, and then such entries
abbrev pub ChecksFirst : List Entry → Type 0
ChecksFirst ds = (w : World) → FineFrom any_world any_act any_reason never w ds

pub first-done : (ds : List Entry) → NeverRefuse ds → ChecksFirst ds
first-done ds goes w = from-all any_world any_act any_reason never (λ r why. tt) w tt ds goes

pub first-refuse : (why : Control → Option Refusal) (ds : List Entry) → ChecksFirst ds → ChecksFirst (refuse_if why ∷ ds)
first-refuse why ds rest w = from-refuse any_world any_act any_reason never w why ds (by (why w.control)) (rest w)
  where
    by : (o : Option Refusal) → WhyNot any_reason o
    by None = tt
    by (Some r) = tt

-- ---- how such entries end

-- no refusal but by a stop
abbrev pub Never : Outcome → Type 0
Never o = (r : Refusal) → o.1 ≡ Some r → refused_stop (Some r) ≡ None → ⊥

-- or one that leaves the world as it was
abbrev pub Untouched : World → Outcome → Type 0
Untouched w o = (r : Refusal) → o.1 ≡ Some r → refused_stop (Some r) ≡ None → o.0 ≡ w

abbrev NeverFor : Option Refusal → Type 0
NeverFor o = (r : Refusal) → o ≡ Some r → refused_stop (Some r) ≡ None → ⊥

-- a stop is no such refusal
stop-never : (s : ℕ) → NeverFor (Some (stopped s))
stop-never s r e other =
    let is : stopped s ≡ r = cc in
    let none : refused_stop (Some (stopped s)) ≡ None = ap (λ r. refused_stop (Some r)) is ∙ other in
    absurd cc

module _ (Ok : World → Act → Type 0) (First Why : Refusal → Type 0) (no_reason : (r : Refusal) → Why r → ⊥) where
  pub carry-never : (w : World) (ds : List Entry) → AllFine any_world Ok Why ds → Never (carry w ds)
  carry-never w ds fine = carry-ends any_world Ok Why (λ v. tt) NeverFor (λ r e other. cc) stop-never (λ r why. absurd (no_reason r why)) ds fine w

  acted-never : (w : World) (a : Act) (ds : List Entry) → Ok w a × AllFine any_world Ok Why ds → NeverFor (go w (Do a) (λ v. carry v ds)).1
  acted-never w a ds fine = next-ends any_world Ok Why (λ v. tt) NeverFor (λ r e other. cc) stop-never (λ r why. absurd (no_reason r why)) w (Do a) (λ v. carry v ds) (AllFine any_world Ok Why ds) fine (λ rest v. carry-never v ds rest)

  go-untouched : (w : World) (x : Next) (ds : List Entry) → FromThen any_world Ok First Why w x (FineFrom any_world Ok First Why w ds) (AllFine any_world Ok Why ds) → (FineFrom any_world Ok First Why w ds → Untouched w (carry w ds)) → Untouched w (go w x (λ v. carry v ds))
  go-untouched w Pass ds fine rest = rest fine
  go-untouched w (End r) ds fine rest = λ q e other. refl
  go-untouched w (Do a) ds fine rest = λ q e other. absurd (acted-never w a ds fine q e other)

  pub carry-untouched : (w : World) (ds : List Entry) → FineFrom any_world Ok First Why w ds → Untouched w (carry w ds)
  unfolding carry FineFrom
  carry-untouched w [] fine = λ r e other. refl
  carry-untouched w (d ∷ ds) fine = go-untouched w (d w.control) ds fine (carry-untouched w ds)

-- in the words of where entries lead
pub never-leads : {P : Type 0} (w u : World) (ds : List Entry) (r : Refusal) → NeverRefuse ds → carry w ds ≡ (u, Some r) → refused_stop (Some r) ≡ None → P
never-leads w u ds r goes leads other = absurd (carry-never any_act never never (λ r h. h) w ds goes r (ap (λ (o : Outcome). o.1) leads) other)

pub first-leads : (w u : World) (ds : List Entry) (r : Refusal) → ChecksFirst ds → carry w ds ≡ (u, Some r) → refused_stop (Some r) ≡ None → u ≡ w
first-leads w u ds r first leads other = sym (ap (λ (o : Outcome). o.0) leads) ∙ carry-untouched any_act any_reason never (λ r h. h) w ds (first w) r (ap (λ (o : Outcome). o.1) leads) other

-- nothing follows such a refusal
pub follow-stays : (w : World) (r : Refusal) (follows : List Entry) → refused_stop (Some r) ≡ None → follow w r follows ≡ w
follow-stays w (StoppedIn s) follows other = absurd cc
follow-stays w _ follows other = refl

-- ---- one list after another, in each of which checks come first

-- so many of them were done, and the others refuse
pub record Done (A : Type 0) (f : A → List Entry) (xs : List A) (r : Refusal) (w u : World) : Type 0 where
  pub count : ℕ
  pub leads : carry w (flat_map f (take count xs)) ≡ (u, None)
  pub refuses : carry u (flat_map f (drop count xs)) ≡ (u, Some r)

-- what refused in one of them leaves what those before it had done
pub blocks-leave : {A : Type 0} (f : A → List Entry) (each : (x : A) → ChecksFirst (f x)) (xs : List A) (w u : World) (r : Refusal) → carry w (flat_map f xs) ≡ (u, Some r) → refused_stop (Some r) ≡ None → Done A f xs r w u
blocks-leave f each [] w u r leads other = let h : None ≡ Some r = ap (λ (o : Outcome). o.1) (sym (carry-none w) ∙ leads) in absurd cc
blocks-leave {A} f each (x ∷ xs) w u r leads other = by (λ v h. blocks-leave f each xs v u r h other) (carry w (f x)) refl (sym (carry-append w (f x) (flat_map f xs)) ∙ leads)
  where
    by : ((v : World) → carry v (flat_map f xs) ≡ (u, Some r) → Done A f xs r v u) → (o : Outcome) → carry w (f x) ≡ o → onward o (λ v. carry v (flat_map f xs)) ≡ (u, Some r) → Done A f (x ∷ xs) r w u
    by more (v, None) is h =
        let rest = more v h in
        record {
          count = suc rest.count;
          leads = carry-append w (f x) (flat_map f (take rest.count xs)) ∙ ap (λ (o : Outcome). onward o (λ v. carry v (flat_map f (take rest.count xs)))) is ∙ rest.leads;
          refuses = rest.refuses;
        }
    by more (v, Some q) is h =
        let same : u ≡ w = first-leads w u (f x) r (each x) (is ∙ h) other in
        record { count = 0; leads = carry-none w ∙ ap (λ v. (v, None)) (sym same); refuses = ap (λ v. carry v (flat_map f (x ∷ xs))) same ∙ leads }

-- ---- no server goes off where none stops

on-after : (w : World) (a : Act) (f : Option Fuse) → (after_act w a f).control.on ≡ w.control.on
on-after w (Make m) f = refl
on-after w (OpenAttempt v s n) f = refl
on-after w (Redo v) f = refl
on-after w (Acknowledge n) f = refl
on-after w (Drop n) f = refl
on-after w (EndFreeze l m) f = refl
on-after w (EndThaw l m) f = refl
on-after w (EndRecovery s n) f = refl

-- a stop that is told of a turn, or the servers are on that were on
abbrev StaysOn : World → Turn → Type 0
StaysOn w t = t.1 ≡ None → t.0.control.on ≡ w.control.on

counts-on : (w : World) (a : Act) → Counts w a (StaysOn w)
counts-on w (Make m) = λ f none. cc
counts-on w (OpenAttempt v s n) = λ f none. cc
counts-on w (Redo v) = tt
counts-on w (Acknowledge n) = tt
counts-on w (Drop n) = tt
counts-on w (EndFreeze l m) = tt
counts-on w (EndThaw l m) = tt
counts-on w (EndRecovery s n) = tt

act-on : (w : World) (a : Act) → StaysOn w (act w a)
act-on w a = act-cases w a (StaysOn w) (λ d off none. refl) (λ f none. on-after w a f) (counts-on w a) (λ d f none. cc)

abbrev pub EndsOn : World → Outcome → Type 0
EndsOn w o = o.1 ≡ None → o.0.control.on ≡ w.control.on

continue-on : (w : World) (t : Turn) (next : World → Outcome) → StaysOn w t → ((v : World) → EndsOn v (next v)) → EndsOn w (continue t.0 t.1 next)
continue-on w (v, None) next on rest = λ none. rest v none ∙ on refl
continue-on w (v, Some s) next on rest = λ none. cc

go-on : (w : World) (x : Next) (next : World → Outcome) → ((v : World) → EndsOn v (next v)) → EndsOn w (go w x next)
go-on w Pass next rest = rest w
go-on w (End r) next rest = λ none. refl
go-on w (Do a) next rest = continue-on w (act w a) next (act-on w a) rest

pub carry-on : (w : World) (ds : List Entry) → EndsOn w (carry w ds)
unfolding carry
carry-on w [] = λ none. refl
carry-on w (d ∷ ds) = go-on w (d w.control) (λ v. carry v ds) (λ v. carry-on v ds)

pub on-stays : (w v : World) (ds : List Entry) → carry w ds ≡ (v, None) → v.control.on ≡ w.control.on
on-stays w v ds leads = sym (ap (λ (o : Outcome). o.0.control.on) leads) ∙ carry-on w ds (ap (λ (o : Outcome). o.1) leads)
