-- What becomes of a list of writes: all are done, or a fuse tears one, or the server is off.
use Rattle.std.proofs.Common.{ℕ, ◌≡◌, ◌≢◌, ◌<◌, ◌+◌, ◌-◌, ◌&&◌, Bool, true, false, List, [], ◌∷◌, ◌++◌, refl, ap, ◌∙◌, sym, cond, suc, length, arith, subst, nat_eq, take, drop, get_or}
use Rattle.std.specs.Prelude.{Option, Some, None}
use Rattle.std.proofs.lemmas.Bool.Decides.{nat_tests}
use Rattle.std.proofs.lemmas.Grind.{common_steps}
use Rattle.dr_logic.specs.Tables.{at, at2}
use Rattle.dr_plant.specs.declared.plant.WriteFuse.{WriteFuse}
use Rattle.dr_plant.specs.State.{PlantState, can_write, written, torn, faulted, passes_write, lowered_write, lowered_read, torn_block}
use Rattle.dr_plant.proofs.StateLemmas.{same_state, at2_apart, write_off, write_torn, write_can}
use Rattle.dr_plant.specs.Writes.{BlockWrite, after_writes, all_put, Passes, write_fuse_after, read_fuse_after, all_written, torn_after}
use Rattle.dr_plant.proofs.WritesLemmas.{goes, stops, ends}
use Rattle.dr_logic.proofs.Tables.{at_same, at-itself}

-- a function changed to what it is
at-kept : {X : Type 0} (f : ℕ → X) (k : ℕ) (x : X) → x ≡ f k → at f k x ≡ f
at-kept f k x h = ap (at f k) h ∙ at-itself f k

-- a function changed twice at k
twice : {X : Type 0} (v : Bool) (x y z : X) → cond v y (cond v x z) ≡ cond v y z
twice true x y z = refl
twice false x y z = refl

at-twice : {X : Type 0} (f : ℕ → X) (k : ℕ) (x y : X) → at (at f k x) k y ≡ at f k y
at-twice f k x y i q = twice (nat_eq q k) x y (f q) i

-- a fuse that lets n + 1 writes pass lets one pass, and n more
passes-now : (n : ℕ) (f : Option WriteFuse) → Passes (suc n) f → passes_write f ≡ true
passes-now n None h = refl
passes-now n (Some f) h = let e : nat_eq f.after 0 ≡ false = grind (arith, nat_tests) in ap (λ v. cond v false true) e

passes-later : (n : ℕ) (f : Option WriteFuse) → Passes (suc n) f → Passes n (lowered_write f)
passes-later n None h = h
passes-later n (Some f) h = omega arith

write_fuse-later : (n : ℕ) (f : Option WriteFuse) → write_fuse_after n (lowered_write f) ≡ write_fuse_after (suc n) f
write_fuse-later n None = refl
write_fuse-later n (Some f) = ap (λ k. Some (record f { after = k })) (let e : f.after - 1 - n ≡ f.after - suc n = omega arith in e)

read_fuse-later : (n : ℕ) (f : Option ℕ) → read_fuse_after n (lowered_read f) ≡ read_fuse_after (suc n) f
read_fuse-later n None = refl
read_fuse-later n (Some k) = ap Some (let e : k - 1 - n ≡ k - suc n = omega arith in e)

write_fuse-none : (f : Option WriteFuse) → write_fuse_after 0 f ≡ f
write_fuse-none None = refl
write_fuse-none (Some f) = ap (λ k. Some (record f { after = k })) (let e : f.after - 0 ≡ f.after = omega arith in e)

read_fuse-none : (f : Option ℕ) → read_fuse_after 0 f ≡ f
read_fuse-none None = refl
read_fuse-none (Some k) = ap Some (let e : k - 0 ≡ k = omega arith in e)

-- one write lower, and n more
write_fuses-later : (f : ℕ → Option WriteFuse) (o n : ℕ) → at (at f o (lowered_write (f o))) o (write_fuse_after n (at f o (lowered_write (f o)) o)) ≡ at f o (write_fuse_after (suc n) (f o))
write_fuses-later f o n =
    at-twice f o (lowered_write (f o)) _ ∙ ap (at f o) (ap (write_fuse_after n) (at_same f o (lowered_write (f o))) ∙ write_fuse-later n (f o))

read_fuses-later : (f : ℕ → Option ℕ) (o n : ℕ) → at (at f o (lowered_read (f o))) o (read_fuse_after n (at f o (lowered_read (f o)) o)) ≡ at f o (read_fuse_after (suc n) (f o))
read_fuses-later f o n =
    at-twice f o (lowered_read (f o)) _ ∙ ap (at f o) (ap (read_fuse_after n) (at_same f o (lowered_read (f o))) ∙ read_fuse-later n (f o))

can-on : (s : PlantState) (dev : ℕ) → s.on (s.owner dev) ≡ true → passes_write (s.write_fuse (s.owner dev)) ≡ true → can_write s dev ≡ true
can-on s dev h k = ap (λ v. v && passes_write (s.write_fuse (s.owner dev))) h ∙ k

-- To a server that is on, with no write fuse or one that stands at their number or more: all the writes are done.
pub writes_pass : (s : PlantState) (dev : ℕ) (ws : List BlockWrite) → s.on (s.owner dev) ≡ true → Passes (length ws) (s.write_fuse (s.owner dev)) → after_writes s dev ws ≡ (all_written s dev ws, false)
unfolding all_put
writes_pass s dev [] on p =
    let o = s.owner dev in
    ends s dev
    ∙ (λ i. (
      same_state s (all_written s dev []) refl refl refl refl refl
          (sym (at-kept s.write_fuse o (write_fuse_after 0 (s.write_fuse o)) (write_fuse-none (s.write_fuse o))))
          (sym (at-kept s.read_fuse o (read_fuse_after 0 (s.read_fuse o)) (read_fuse-none (s.read_fuse o)))) refl i,
      false,
    ))
writes_pass s dev (w ∷ ws) on p =
    let o = s.owner dev in
    let f = s.write_fuse o in
    let can = can-on s dev on (passes-now (length ws) f p) in
    let s1 = written s dev w.block w.bytes in
    goes s dev w ws can
    ∙ ap (λ t. after_writes t dev ws) (write_can s dev w.block w.bytes can)
    ∙ writes_pass s1 dev ws on (subst (Passes (length ws)) (sym (at_same s.write_fuse o (lowered_write f))) (passes-later (length ws) f p))
    ∙ (λ i. (
      same_state (all_written s1 dev ws) (all_written s dev (w ∷ ws)) refl refl refl refl refl
          (write_fuses-later s.write_fuse o (length ws)) (read_fuses-later s.read_fuse o (length ws)) refl i,
      false,
    ))

-- To a server that is on, with no fuse armed: the blocks are replaced, and nothing else.
pub writes_unarmed : (s : PlantState) (dev : ℕ) (ws : List BlockWrite) → s.on (s.owner dev) ≡ true → s.write_fuse (s.owner dev) ≡ None → s.read_fuse (s.owner dev) ≡ None → after_writes s dev ws ≡ (record s { block = all_put s.block dev ws }, false)
writes_unarmed s dev ws on write read =
    let o = s.owner dev in
    writes_pass s dev ws on (subst (Passes (length ws)) (sym write) tt)
    ∙ (λ i. (
      same_state (all_written s dev ws) (record s { block = all_put s.block dev ws }) refl refl refl refl refl
          (at-kept s.write_fuse o (write_fuse_after (length ws) (s.write_fuse o)) (ap (write_fuse_after (length ws)) write ∙ sym write))
          (at-kept s.read_fuse o (read_fuse_after (length ws) (s.read_fuse o)) (ap (read_fuse_after (length ws)) read ∙ sym read)) refl i,
      false,
    ))

-- To a server that is on, with a write fuse at the number of the first writes: those are done, and the next is torn.
pub writes_torn : (s : PlantState) (dev : ℕ) (xs : List BlockWrite) (w : BlockWrite) (ys : List BlockWrite) (f : WriteFuse) → s.on (s.owner dev) ≡ true → s.write_fuse (s.owner dev) ≡ Some f → f.after ≡ length xs → after_writes s dev (xs ++ w ∷ ys) ≡ (torn_after s dev xs w.block f, true)
unfolding all_put
writes_torn s dev [] w ys f on fuse k =
    let o = s.owner dev in
    let burnt : passes_write (s.write_fuse o) ≡ false = ap passes_write fuse ∙ ap (λ v. cond v false true) (let e : nat_eq f.after 0 ≡ true = grind (arith, nat_tests) in e) in
    stops s dev w ys (ap (λ v. v && passes_write (s.write_fuse o)) on ∙ burnt)
    ∙ (λ i. (write_torn s dev w.block w.bytes on burnt i, true))
    ∙ (λ i. (
      same_state (torn s dev w.block) (torn_after s dev [] w.block f) refl refl refl
          (ap (λ g. at2 s.block dev w.block (torn_block g (s.block dev w.block))) fuse) refl
          (sym (at-kept s.write_fuse o (Some (record f { after = 0 })) (ap (λ n. Some (record f { after = n })) (sym k) ∙ sym fuse)))
          (sym (at-kept s.read_fuse o (read_fuse_after 0 (s.read_fuse o)) (read_fuse-none (s.read_fuse o)))) refl i,
      true,
    ))
writes_torn s dev (x ∷ xs) w ys f on fuse k =
    let o = s.owner dev in
    let pass : passes_write (s.write_fuse o) ≡ true = ap passes_write fuse ∙ passes-now (length xs) (Some f) (omega arith) in
    let can = can-on s dev on pass in
    let s1 = written s dev x.block x.bytes in
    let g : WriteFuse = record f { after = f.after - 1 } in
    goes s dev x (xs ++ w ∷ ys) can
    ∙ ap (λ t. after_writes t dev (xs ++ w ∷ ys)) (write_can s dev x.block x.bytes can)
    ∙ writes_torn s1 dev xs w ys g on (at_same s.write_fuse o (lowered_write (s.write_fuse o)) ∙ ap lowered_write fuse) (omega arith)
    ∙ (λ i. (
      same_state (torn_after s1 dev xs w.block g) (torn_after s dev (x ∷ xs) w.block f) refl refl refl refl refl
          (at-twice s.write_fuse o (lowered_write (s.write_fuse o)) (Some (record f { after = 0 }))) (read_fuses-later s.read_fuse o (length xs)) refl i,
      true,
    ))

-- The same, where the fuse stands below the number of writes: the torn one is told by its place.
split-at : (ws : List BlockWrite) (k : ℕ) (w : BlockWrite) → k < length ws → ws ≡ take k ws ++ get_or ws k w ∷ drop (k + 1) ws
split-at ws k w h = grind (arith, common_steps)

pub writes_torn_at : (s : PlantState) (dev : ℕ) (ws : List BlockWrite) (w : BlockWrite) (f : WriteFuse) → s.on (s.owner dev) ≡ true → s.write_fuse (s.owner dev) ≡ Some f → f.after < length ws → after_writes s dev ws ≡ (torn_after s dev (take f.after ws) (get_or ws f.after w).block f, true)
writes_torn_at s dev ws w f on fuse k =
    ap (after_writes s dev) (split-at ws f.after w k)
    ∙ writes_torn s dev (take f.after ws) (get_or ws f.after w) (drop (f.after + 1) ws) f on fuse (grind (arith, common_steps))

-- To a server that is off: the first write only counts a fault, and stops them all.
pub writes_off : (s : PlantState) (dev : ℕ) (ws : List BlockWrite) → s.on (s.owner dev) ≡ false → 0 < length ws → after_writes s dev ws ≡ (faulted s, true)
writes_off s dev [] off some = absurd (omega arith)
writes_off s dev (w ∷ ws) off some =
    stops s dev w ws (ap (λ v. v && passes_write (s.write_fuse (s.owner dev))) off) ∙ (λ i. (write_off s dev w.block w.bytes off i, true))

-- the blocks after writes in a row, and those of other devices
pub all_put-append : (block : ℕ → ℕ → List ℕ) (dev : ℕ) (xs ys : List BlockWrite) → all_put block dev (xs ++ ys) ≡ all_put (all_put block dev xs) dev ys
unfolding all_put
all_put-append block dev [] ys = refl
all_put-append block dev (x ∷ xs) ys = all_put-append (at2 block dev x.block x.bytes) dev xs ys

pub all_put-apart : (block : ℕ → ℕ → List ℕ) (dev : ℕ) (ws : List BlockWrite) (d b : ℕ) → d ≢ dev → all_put block dev ws d b ≡ block d b
unfolding all_put
all_put-apart block dev [] d b ne = refl
all_put-apart block dev (w ∷ ws) d b ne = all_put-apart (at2 block dev w.block w.bytes) dev ws d b ne ∙ at2_apart block dev w.block w.bytes d b ne
