-- Checks, and an entry behind them that comes to a move or passes.
use Rattle.std.proofs.Common.{ℕ, ◌≡◌, Bool, true, false, ◌||◌, List, [], ◌∷◌, ◌++◌, refl, sym, ◌∙◌, ap, subst, Option, Some, None}
use Rattle.std.specs.Prelude.{if◌then◌else◌, nat_lt}
use Rattle.std.proofs.lemmas.Bool.{and_parts}
use Rattle.dr_ids.specs.declared.names.Member.{Member}
use Rattle.dr_ids.specs.declared.names.SessionId.{SessionId}
use Rattle.dr_ids.specs.declared.refusal.Refusal.{Refusal}
use Rattle.dr_plant.specs.State.{PlantState}
use Rattle.dr_config.specs.Table.{ConfigTable}
use Rattle.dr_model.specs.declared.event.Event.{Event}
use Rattle.dr_model.specs.Layout.{Fields}
use Rattle.dr_model.specs.SessionEntries.{is_flashed, is_committed, may_flash, flash_on, commit_on, revert_on}
use Rattle.dr_model.specs.Control.{Control, World}
use Rattle.dr_model.specs.Carry as machine
use Rattle.dr_model.specs.Carry.{Make, Entry}
use Rattle.dr_model.specs.Entries.{copies_from}
use Rattle.dr_model.specs.PairEntries.{refuse_if}
use Rattle.dr_volume.specs.View.{Rest, volume_seen}
use Rattle.dr_moves.specs.Coming.{next_of}
use Rattle.dr_moves.specs.Here.{world_seen}
use Rattle.dr_moves.specs.Moves.{move_of}
use Rattle.dr_moves.specs.Turns.{Advances, Halts, Leads, Fails}
use Rattle.dr_moves.specs.declared.carrying.Next.{Next}
use Rattle.dr_moves.specs.declared.carrying.Next.TheVariants.{Pass, Do}
use Rattle.dr_moves.specs.declared.moves.Move.{Move}
use Rattle.dr_moves.specs.declared.moves.Move.TheVariants as move
use Rattle.dr_moves.proofs.EntryLemmas.{one-checked}

-- one check
module _ (w : World) (why : Control → Option Refusal) (es : List Entry) where
  pub check-refuses : (e : Refusal) → Some e ≡ why w.control → (armed : ℕ → Bool) → Fails armed w (refuse_if why ∷ es) w (Some e)
  check-refuses e is armed ds = one-checked w why (Some e) is armed (es ++ ds)

  module _ (passed : None ≡ why w.control) where
    pub check-leads : (v : World) → Leads w es v → Leads w (refuse_if why ∷ es) v
    check-leads v more armed u r ds k = one-checked w why None passed armed u r (es ++ ds) (more armed u r ds k)

    pub check-fails : (armed : ℕ → Bool) (u : World) (r : Option Refusal) → Fails armed w es u r → Fails armed w (refuse_if why ∷ es) u r
    check-fails armed u r more ds = one-checked w why None passed armed u r (es ++ ds) (more ds)

-- an entry alone
pub alone-leads : (w v : World) (d : Entry) → Advances w d v → Leads w (d ∷ []) v
alone-leads w v d goes armed u r ds k = goes armed u r ds k

pub alone-fails : (armed : ℕ → Bool) (w u : World) (r : Option Refusal) (d : Entry) → Halts armed w d u r → Fails armed w (d ∷ []) u r
alone-fails armed w u r d ends ds = ends ds

-- what becomes of a target unless something is so
module _ (P : Next → Type 0) (b : Bool) (x : Next) where
  pub unless-all : P Pass → (b ≡ false → P x) → P (if b then Pass else x)
  unless-all = elim b as (λ b. P Pass → (b ≡ false → P x) → P (if b then Pass else x)) [ true ↦ λ none holds. none | false ↦ λ none holds. holds refl ]

  pub unless-off : b ≡ false → P (if b then Pass else x) → P x
  unless-off off h = subst (λ b. P (if b then Pass else x)) off h

pub unless-either : (Q : Type 0) (P : Next → Type 0) (b : Bool) (x : Next) → P (if b then Pass else x) → (P Pass → Q) → (b ≡ false → P x → Q) → Q
unless-either Q P true x h none some = none h
unless-either Q P false x h none some = some refl h

next-unless : (b : Bool) (m : Move) → (if b then machine.Pass else machine.Do (Make (move_of m))) ≡ next_of (if b then Pass else Do m)
next-unless true m = refl
next-unless false m = refl

next-either : (b d : Bool) (m l : Move) → (if b then machine.Do (Make (move_of m)) else if d then machine.Do (Make (move_of l)) else machine.Pass) ≡ next_of (if b then Do m else if d then Do l else Pass)
next-either true d m l = refl
next-either false true m l = refl
next-either false false m l = refl

-- one of two, or nothing
pub either-all : (P : Next → Type 0) (b d : Bool) (x y : Next) → P Pass → (b ≡ true → P x) → (d ≡ true → P y) → P (if b then x else if d then y else Pass)
either-all P true d x y none holds also = holds refl
either-all P false true x y none holds also = also refl
either-all P false false x y none holds also = none

pub either-first : (P : Next → Type 0) (b d : Bool) (x y : Next) → b ≡ true → P (if b then x else if d then y else Pass) → P x
either-first P b d x y is h = subst (λ b. P (if b then x else if d then y else Pass)) is h

pub or-left : (a b : Bool) → (a || b) ≡ true → a ≡ false → b ≡ true
or-left true b h off = absurd cc
or-left false b h off = h

-- what may be flashed is a target
pub may-related : (v : ℕ) (f : Fields) → may_flash v f ≡ true → f.related ≡ true
may-related v f may = (and_parts f.related _ (and_parts (copies_from v f) _ may).0).0

-- the entries of a member's target, from what becomes of it
module _ (s : PlantState) (t : ConfigTable) (r : Rest) (events : List Event) (m : Member) (k : SessionId) (n : ℕ) (o : Next) (f : Fields) (is : f ≡ (volume_seen s t m.c.0).fields) where
  pub flash-next : o ≡ (if is_flashed n f then Pass else Do (move.Flash m.c m.b m.a k n)) → flash_on k.0 m.a.0 m.b.0 m.c.0 n (world_seen s t r events).control ≡ next_of o
  flash-next so =
      next-unless (is_flashed n (volume_seen s t m.c.0).fields) (move.Flash m.c m.b m.a k n)
      ∙ ap next_of (sym (so ∙ ap (λ f. if is_flashed n f then Pass else Do (move.Flash m.c m.b m.a k n)) is))

  pub commit-next : o ≡ (if is_committed n f then Pass else Do (move.Commit m.c m.a k n)) → commit_on k.0 m.a.0 m.c.0 n (world_seen s t r events).control ≡ next_of o
  commit-next so =
      next-unless (is_committed n (volume_seen s t m.c.0).fields) (move.Commit m.c m.a k n)
      ∙ ap next_of (sym (so ∙ ap (λ f. if is_committed n f then Pass else Do (move.Commit m.c m.a k n)) is))

  pub revert-next : o ≡ (if is_flashed n f then Do (move.Revert m.c m.a k n) else if nat_lt f.floor n then Do (move.RaiseFloor m.c n) else Pass) → revert_on k.0 m.a.0 m.c.0 n (world_seen s t r events).control ≡ next_of o
  revert-next so =
      next-either (is_flashed n (volume_seen s t m.c.0).fields) (nat_lt (volume_seen s t m.c.0).fields.floor n) (move.Revert m.c m.a k n) (move.RaiseFloor m.c n)
      ∙ ap next_of (sym (so ∙ ap (λ (f : Fields). if is_flashed n f then Do (move.Revert m.c m.a k n) else if nat_lt f.floor n then Do (move.RaiseFloor m.c n) else Pass) is))
