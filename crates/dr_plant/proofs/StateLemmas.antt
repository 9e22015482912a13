use Rattle.std.proofs.Common.{ℕ, ◌≡◌, ◌≢◌, ◌≤◌, ◌-◌, ◌^◌, true, false, List, refl, ap, sym, ◌∙◌, cond, ◌&&◌, arith, nat_eq}
use Rattle.std.proofs.lemmas.Bool.Decides.{nat_tests}
use Rattle.std.proofs.lemmas.Bool.{and_parts}
use Rattle.dr_logic.specs.Tables.{at, at2}
use Rattle.dr_logic.specs.Counts.{risen}
use Rattle.dr_plant.specs.State.{PlantState, FaultsStand, started, with_device, after_write, after_read, written, torn, off, faulted, can_write, can_read, passes_write, torn_block}
use Rattle.dr_logic.proofs.Tables.{at_same, at_other, at2_same}

-- two states are the same where each part is
pub same_state : (s t : PlantState) → s.count ≡ t.count → s.owner ≡ t.owner → s.size ≡ t.size → s.block ≡ t.block → s.on ≡ t.on → s.write_fuse ≡ t.write_fuse → s.read_fuse ≡ t.read_fuse → s.faults ≡ t.faults → s ≡ t
same_state s t a b c d e f g h i = record { count = a i; owner = b i; size = c i; block = d i; on = e i; write_fuse = f i; read_fuse = g i; faults = h i }

pub at2_other : {X : Type 0} (f : ℕ → ℕ → X) (j k : ℕ) (x : X) (p q : ℕ) → q ≢ k → at2 f j k x p q ≡ f p q
at2_other f j k x p q h =
    elim (nat_eq p j) as (λ v. cond v (at (f p) k x q) (f p q) ≡ f p q) [ true ↦ at_other (f p) k x q h | false ↦ refl ]

pub at2_apart : {X : Type 0} (f : ℕ → ℕ → X) (j k : ℕ) (x : X) (p q : ℕ) → p ≢ j → at2 f j k x p q ≡ f p q
at2_apart f j k x p q h = let e : nat_eq p j ≡ false = grind (arith, nat_tests) in ap (λ v. cond v (at (f p) k x q) (f p q)) e

-- a write to a server that is off only counts a fault
pub write_off : (s : PlantState) (dev b : ℕ) (bytes : List ℕ) → s.on (s.owner dev) ≡ false → after_write s dev b bytes ≡ faulted s
unfolding after_write
write_off s dev b bytes h = ap (λ x. cond x (cond (passes_write (s.write_fuse (s.owner dev))) (written s dev b bytes) (torn s dev b)) (faulted s)) h

-- a write at a fuse is torn
pub write_torn : (s : PlantState) (dev b : ℕ) (bytes : List ℕ) → s.on (s.owner dev) ≡ true → passes_write (s.write_fuse (s.owner dev)) ≡ false → after_write s dev b bytes ≡ torn s dev b
unfolding after_write
write_torn s dev b bytes h k = ap (λ x. cond x (cond (passes_write (s.write_fuse (s.owner dev))) (written s dev b bytes) (torn s dev b)) (faulted s)) h ∙ ap (λ x. cond x (written s dev b bytes) (torn s dev b)) k

-- a write that passes puts its bytes
pub write_done : (s : PlantState) (dev b : ℕ) (bytes : List ℕ) → s.on (s.owner dev) ≡ true → passes_write (s.write_fuse (s.owner dev)) ≡ true → after_write s dev b bytes ≡ written s dev b bytes
unfolding after_write
write_done s dev b bytes h k = ap (λ x. cond x (cond (passes_write (s.write_fuse (s.owner dev))) (written s dev b bytes) (torn s dev b)) (faulted s)) h ∙ ap (λ x. cond x (written s dev b bytes) (torn s dev b)) k

pub write_can : (s : PlantState) (dev b : ℕ) (bytes : List ℕ) → can_write s dev ≡ true → after_write s dev b bytes ≡ written s dev b bytes
write_can s dev b bytes h =
    let e = and_parts (s.on (s.owner dev)) (passes_write (s.write_fuse (s.owner dev))) h in write_done s dev b bytes e.0 e.1

-- a read that can be done changes nothing
pub read_done : (s : PlantState) (dev : ℕ) → can_read s dev ≡ true → after_read s dev ≡ s
unfolding after_read
read_done s dev h = ap (λ x. cond x s (faulted (off s (s.owner dev)))) h

-- the same, by what the plant answers
pub read_kept : (s t : PlantState) (dev : ℕ) → t ≡ after_read s dev → true ≡ can_read s dev → t ≡ s
read_kept s t dev e can = e ∙ read_done s dev (sym can)

-- a read that can't be done turns the owner off and counts a fault
pub read_stopped : (s : PlantState) (dev : ℕ) → can_read s dev ≡ false → after_read s dev ≡ faulted (off s (s.owner dev))
unfolding after_read
read_stopped s dev h = ap (λ x. cond x s (faulted (off s (s.owner dev)))) h

-- what a write makes of any part of the state, by its three cases
pub write_cases : (P : PlantState → Type 0) (s : PlantState) (dev b : ℕ) (bytes : List ℕ) → P (written s dev b bytes) → P (torn s dev b) → P (faulted s) → P (after_write s dev b bytes)
unfolding after_write
write_cases P s dev b bytes p q r =
    elim (s.on (s.owner dev)) as (λ v. P (cond v (cond (passes_write (s.write_fuse (s.owner dev))) (written s dev b bytes) (torn s dev b)) (faulted s))) [
      | true ↦ elim (passes_write (s.write_fuse (s.owner dev))) as (λ v. P (cond v (written s dev b bytes) (torn s dev b))) [ true ↦ p | false ↦ q ]
      | false ↦ r
    ]

-- what a read makes of any part of the state, by its two cases
pub read_cases : (P : PlantState → Type 0) (s : PlantState) (dev : ℕ) → P s → P (faulted (off s (s.owner dev))) → P (after_read s dev)
unfolding after_read
read_cases P s dev p q = elim (can_read s dev) as (λ v. P (cond v s (faulted (off s (s.owner dev))))) [ true ↦ p | false ↦ q ]

-- writes and reads keep the devices, their sizes and their owners
pub count-after_write : (s : PlantState) (dev b : ℕ) (bytes : List ℕ) → (after_write s dev b bytes).count ≡ s.count
count-after_write s dev b bytes = write_cases (λ t. t.count ≡ s.count) s dev b bytes refl refl refl

pub size-after_write : (s : PlantState) (dev b : ℕ) (bytes : List ℕ) → (after_write s dev b bytes).size ≡ s.size
size-after_write s dev b bytes = write_cases (λ t. t.size ≡ s.size) s dev b bytes refl refl refl

pub owner-after_write : (s : PlantState) (dev b : ℕ) (bytes : List ℕ) → (after_write s dev b bytes).owner ≡ s.owner
owner-after_write s dev b bytes = write_cases (λ t. t.owner ≡ s.owner) s dev b bytes refl refl refl

pub count-after_read : (s : PlantState) (dev : ℕ) → (after_read s dev).count ≡ s.count
count-after_read s dev = read_cases (λ t. t.count ≡ s.count) s dev refl refl

pub size-after_read : (s : PlantState) (dev : ℕ) → (after_read s dev).size ≡ s.size
size-after_read s dev = read_cases (λ t. t.size ≡ s.size) s dev refl refl

pub owner-after_read : (s : PlantState) (dev : ℕ) → (after_read s dev).owner ≡ s.owner
owner-after_read s dev = read_cases (λ t. t.owner ≡ s.owner) s dev refl refl

-- reads keep every block and every fuse
pub block-after_read : (s : PlantState) (dev : ℕ) → (after_read s dev).block ≡ s.block
block-after_read s dev = read_cases (λ t. t.block ≡ s.block) s dev refl refl

pub write_fuse-after_read : (s : PlantState) (dev : ℕ) → (after_read s dev).write_fuse ≡ s.write_fuse
write_fuse-after_read s dev = read_cases (λ t. t.write_fuse ≡ s.write_fuse) s dev refl refl

pub read_fuse-after_read : (s : PlantState) (dev : ℕ) → (after_read s dev).read_fuse ≡ s.read_fuse
read_fuse-after_read s dev = read_cases (λ t. t.read_fuse ≡ s.read_fuse) s dev refl refl

-- a write changes no block of another number, and no block of another device
pub other-after_write : (s : PlantState) (dev b : ℕ) (bytes : List ℕ) (p q : ℕ) → q ≢ b → (after_write s dev b bytes).block p q ≡ s.block p q
other-after_write s dev b bytes p q h =
    write_cases (λ t. t.block p q ≡ s.block p q) s dev b bytes (at2_other s.block dev b bytes p q h) (at2_other s.block dev b (torn_block (s.write_fuse (s.owner dev)) (s.block dev b)) p q h) refl

pub apart-after_write : (s : PlantState) (dev b : ℕ) (bytes : List ℕ) (p q : ℕ) → p ≢ dev → (after_write s dev b bytes).block p q ≡ s.block p q
apart-after_write s dev b bytes p q h =
    write_cases (λ t. t.block p q ≡ s.block p q) s dev b bytes (at2_apart s.block dev b bytes p q h) (at2_apart s.block dev b (torn_block (s.write_fuse (s.owner dev)) (s.block dev b)) p q h) refl

-- a write that is done puts its bytes
pub same-after_write : (s : PlantState) (dev b : ℕ) (bytes : List ℕ) → can_write s dev ≡ true → (after_write s dev b bytes).block dev b ≡ bytes
same-after_write s dev b bytes h = ap (λ (t : PlantState). t.block dev b) (write_can s dev b bytes h) ∙ at2_same s.block dev b bytes

-- after a write or read that is stopped the owner is off, and a fault is counted
pub off-after_write : (s : PlantState) (dev b : ℕ) (bytes : List ℕ) → can_write s dev ≡ false → (after_write s dev b bytes).on (s.owner dev) ≡ false
unfolding after_write
off-after_write s dev b bytes =
    elim (s.on (s.owner dev)) as (λ u. s.on (s.owner dev) ≡ u → (u && passes_write (s.write_fuse (s.owner dev))) ≡ false → (cond u (cond (passes_write (s.write_fuse (s.owner dev))) (written s dev b bytes) (torn s dev b)) (faulted s)).on (s.owner dev) ≡ false) [
      | true ↦ λ is. elim (passes_write (s.write_fuse (s.owner dev))) as (λ v. v ≡ false → (cond v (written s dev b bytes) (torn s dev b)).on (s.owner dev) ≡ false) [
        | true ↦ λ h. cc
        | false ↦ λ h. at_same s.on (s.owner dev) false
      ]
      | false ↦ λ is h. is
    ] refl

pub off-after_read : (s : PlantState) (dev : ℕ) → can_read s dev ≡ false → (after_read s dev).on (s.owner dev) ≡ false
off-after_read s dev h = ap (λ (t : PlantState). t.on (s.owner dev)) (read_stopped s dev h) ∙ at_same s.on (s.owner dev) false

pub faults-after_write : (s : PlantState) (dev b : ℕ) (bytes : List ℕ) → (after_write s dev b bytes).faults ≡ cond (can_write s dev) s.faults (risen s.faults)
unfolding after_write
faults-after_write s dev b bytes =
    elim (s.on (s.owner dev)) as (λ u. (cond u (cond (passes_write (s.write_fuse (s.owner dev))) (written s dev b bytes) (torn s dev b)) (faulted s)).faults ≡ cond (u && passes_write (s.write_fuse (s.owner dev))) s.faults (risen s.faults)) [
      | true ↦ elim (passes_write (s.write_fuse (s.owner dev))) as (λ v. (cond v (written s dev b bytes) (torn s dev b)).faults ≡ cond v s.faults (risen s.faults)) [ true ↦ refl | false ↦ refl ]
      | false ↦ refl
    ]

pub faults-after_read : (s : PlantState) (dev : ℕ) → (after_read s dev).faults ≡ cond (can_read s dev) s.faults (risen s.faults)
unfolding after_read
faults-after_read s dev = elim (can_read s dev) as (λ v. (cond v s (faulted (off s (s.owner dev)))).faults ≡ cond v s.faults (risen s.faults)) [ true ↦ refl | false ↦ refl ]

-- faults never fall
pub stand-same : (s : PlantState) → FaultsStand s s
stand-same s = record { below = omega arith }

pub stand-trans : (s t u : PlantState) → FaultsStand s t → FaultsStand t u → FaultsStand s u
stand-trans s t u p q = record { below = omega arith }

pub stand-after_write : (s : PlantState) (dev b : ℕ) (bytes : List ℕ) → FaultsStand s (after_write s dev b bytes)
stand-after_write s dev b bytes =
    write_cases (λ t. FaultsStand s t) s dev b bytes (record { below = omega arith }) (record { below = omega arith }) (record { below = omega arith })

pub stand-after_read : (s : PlantState) (dev : ℕ) → FaultsStand s (after_read s dev)
stand-after_read s dev = read_cases (λ t. FaultsStand s t) s dev (record { below = omega arith }) (record { below = omega arith })

pub stand-off : (s : PlantState) (server : ℕ) → FaultsStand s (off s server)
stand-off s server = record { below = omega arith }

pub stand-started : (s : PlantState) (server : ℕ) → FaultsStand s (started s server)
unfolding started
stand-started s server = record { below = omega arith }

pub stand-with_device : (s : PlantState) (server blocks : ℕ) → FaultsStand s (with_device s server blocks)
unfolding with_device
stand-with_device s server blocks = record { below = omega arith }

-- where the count fits 64 bits, it never falls and goes on fitting
pub faults-stand : (s t : PlantState) → FaultsStand s t → s.faults ≤ 2 ^ 64 - 1 → s.faults ≤ t.faults
faults-stand s t h fits = let k = h.below in omega arith

pub fits-after_write : (s : PlantState) (dev b : ℕ) (bytes : List ℕ) → s.faults ≤ 2 ^ 64 - 1 → (after_write s dev b bytes).faults ≤ 2 ^ 64 - 1
fits-after_write s dev b bytes h = write_cases (λ t. t.faults ≤ 2 ^ 64 - 1) s dev b bytes h (omega arith) (omega arith)

pub fits-after_read : (s : PlantState) (dev : ℕ) → s.faults ≤ 2 ^ 64 - 1 → (after_read s dev).faults ≤ 2 ^ 64 - 1
fits-after_read s dev h = read_cases (λ t. t.faults ≤ 2 ^ 64 - 1) s dev h (omega arith)

-- a server that starts changes no device and no count
pub count-started : (s : PlantState) (server : ℕ) → (started s server).count ≡ s.count
unfolding started
count-started s server = refl

pub size-started : (s : PlantState) (server : ℕ) → (started s server).size ≡ s.size
unfolding started
size-started s server = refl

pub owner-started : (s : PlantState) (server : ℕ) → (started s server).owner ≡ s.owner
unfolding started
owner-started s server = refl

pub block-started : (s : PlantState) (server : ℕ) → (started s server).block ≡ s.block
unfolding started
block-started s server = refl

pub faults-started : (s : PlantState) (server : ℕ) → (started s server).faults ≡ s.faults
unfolding started
faults-started s server = refl
