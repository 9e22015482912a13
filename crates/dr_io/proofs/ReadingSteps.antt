-- What was read of a line so far, and how the reading goes on and ends.
use Rattle.std.proofs.Common.{ℕ, ◌≡◌, ◌≤◌, ◌<◌, ◌+◌, ◌-◌, List, [], ◌∷◌, ◌++◌, length, take, drop, ap, ◌∙◌, sym, refl, subst, arith, append_assoc, append-nil, length-append, length-take, take-append-drop, Option, Some, None, Ok, Err, inl, inr, true, false, nat_eq}
use Rattle.std.proofs.lemmas.Bool.Decides.{nat_tests, leb_tells}
use Rattle.std.proofs.lemmas.Grind.{common_steps}
use Rattle.std.proofs.lemmas.List.{length-take-le}
use Rattle.dr_logic.specs.Counts.{Rose}
use Rattle.dr_io.specs.Given.{Took, TookAll}
use Rattle.dr_io.specs.Lines.{Progress, IsOpen, Reads, most_bytes, most_lines, most_piece, most_told}
use Rattle.dr_io.specs.Reading.{most_kept, told_of, EndsLine, KeepsAll, Fills, Fails}
use Rattle.dr_io.specs.declared.line_reader.ReadingEnd.{ReadingEnd}
use Rattle.dr_io.specs.declared.line_reader.ReadingEnd.TheVariants.{AtEnd, PastLimit, ByFault}
use Rattle.dr_io.specs.declared.line_reader.Taken.TheVariants.{Line, End, TooLong}
use Rattle.dr_io.proofs.ReadingLemmas.{filled, front_of_front, kept_both, open_both, open_before, split_line, told_line}

some_kept : (front : List ℕ) (most : ℕ) → 0 < length (take most front) → 0 < length front
some_kept front most some = grind (arith, common_steps, some)

none_kept : (front : List ℕ) (most : ℕ) → 0 < most → length (take most front) ≡ 0 → front ≡ []
none_kept [] most some none = refl
none_kept (b ∷ bs) most some none = absurd (let size = length-take most (b ∷ bs) in omega (arith, some, none, size))

only_byte : (bytes : List ℕ) → length bytes ≡ 1 → (b : ℕ) × (bytes ≡ b ∷ [])
only_byte [] one = absurd (omega (arith, one))
only_byte (b ∷ []) one = (b, refl)
only_byte (b ∷ c ∷ bs) one = absurd (omega (arith, one))

pub some_bytes : (bytes : List ℕ) → false ≡ nat_eq (length bytes) 0 → 0 < length bytes
some_bytes bytes some = grind (arith, nat_tests, some)

pub none_left : (bytes : List ℕ) → true ≡ nat_eq (length bytes) 0 → length bytes ≡ 0
none_left bytes none = grind (arith, nat_tests, none)

pub positive : (n : ℕ) → (n ≡ 0 → ⊥) → 0 < n
positive n some = elim (leb_tells 1 n) [ inl at ↦ at.1 | inr at ↦ absurd (some (omega (arith, at.1))) ]

-- where the limit is passed, one byte was taken
pub one_past : (taken room n most : ℕ) → taken ≤ most → taken + room ≤ most + 1 → (taken + room ≡ most + 1 → room ≡ 1) → n ≤ room → most < taken + n → (n ≡ 1) × (taken + n ≡ most + 1)
one_past taken room n most within fits alone few past =
    let one = alone (omega (arith, within, fits, few, past)) in
    (omega (arith, within, fits, few, past, one), omega (arith, within, fits, few, past, one))

-- what is left after two calls
pub took_more : {S : Type 0} (left : S → Option (List ℕ)) (a b c : S) (xs ys : List ℕ) → Took left a b xs → Took left b c ys → Took left a c (xs ++ ys)
took_more left a b c xs ys first second told h =
    let f = first told h in
    let s = second f.0 f.1 in
    (s.0, s.1, f.2 ∙ ap (λ rest. xs ++ rest) s.2 ∙ sym (append_assoc xs ys s.0))

abbrev some_or : {X : Type 0} → Option X → X → X
some_or None d = d
some_or (Some x) d = x

is_some_of : {X : Type 0} (x y : X) → ◌≡◌ {A = Option X} (Some x) (Some y) → x ≡ y
is_some_of x y e = ap (λ o. some_or o x) e

none_is_some : {X : Type 0} (x : X) → ◌≡◌ {A = Option X} None (Some x) → ⊥
none_is_some x e = cc

drop_none : (n : ℕ) → drop {A = ℕ} n [] ≡ []
drop_none n = grind (arith, common_steps)

-- where nothing was left before, nothing is left after
nothing_left : (old new : Option (List ℕ)) (n : ℕ) → ((told : List ℕ) → old ≡ Some told → new ≡ Some (drop n told)) → ((told : List ℕ) → old ≡ Some told → told ≡ []) → (old ≡ None → new ≡ None)
    → (told : List ℕ) → new ≡ Some told → told ≡ []
nothing_left None new n leaves ends silent told h = absurd (none_is_some told (sym (silent refl) ∙ h))
nothing_left (Some bytes) new n leaves ends silent told h =
    is_some_of told (drop n bytes) (sym h ∙ leaves bytes refl) ∙ ap (drop n) (ends bytes refl) ∙ drop_none n

-- a buffer was filled from the front
pub fills : {S : Type 0} (left : S → Option (List ℕ)) (faults : S → ℕ) (old new : S) (into rest : List ℕ) (room n : ℕ) → n ≤ length into → n ≤ room
    → ((told : List ℕ) → left old ≡ Some told → take n into ≡ take n told) → ((told : List ℕ) → left old ≡ Some told → left new ≡ Some (drop n told))
    → (n ≡ 0 → (told : List ℕ) → left old ≡ Some told → told ≡ []) → (left old ≡ None → left new ≡ None) → faults new ≡ faults old
    → Fills left faults old new (take (n - 0) (drop 0 (into ++ rest))) room n
fills left faults old new into rest room n within fits given leaves ends silent steady =
    let front = filled into rest n within in record {
      count = ap length front ∙ (length-take-le n into within);
      fits = fits;
      took = λ told h. (
        drop n told,
        leaves told h,
        sym (take-append-drop n told) ∙ ap (λ bytes. bytes ++ drop n told) (sym (given told h) ∙ sym front),
      );
      ends = λ none told h. nothing_left (left old) (left new) n leaves (ends none) silent told h;
      steady = steady;
    }

-- The bytes that were taken in this call, the front of the line in them and in those that were ahead before, and what is
-- ahead now.
pub record Along {S : Type 0} (left : S → Option (List ℕ)) (faults : S → ℕ) (old new : S) (before : Progress) (ahead kept : List ℕ) (taken : ℕ) : Type 0 where
  pub bytes : List ℕ
  pub front : List ℕ
  pub took : Took left old new bytes
  pub count : taken ≡ before.taken + length bytes
  pub cut : before.ahead ++ bytes ≡ front ++ ahead
  pub unended : IsOpen front
  pub keeps : kept ≡ take most_kept front
  pub steady : faults new ≡ faults old

module _ {S : Type 0} (left : S → Option (List ℕ)) (faults : S → ℕ) where
  -- nothing was taken yet
  pub along-begin : (s : S) (before : Progress) (ahead kept : List ℕ) (taken : ℕ) → ahead ≡ before.ahead → kept ≡ [] → taken ≡ before.taken → Along left faults s s before ahead kept taken
  along-begin s before ahead kept taken same none count = record {
    bytes = [];
    front = [];
    took = λ told h. (told, h, refl);
    count = omega (arith, count);
    cut = append-nil before.ahead ∙ sym same;
    unended = refl;
    keeps = none;
    steady = refl;
  }

  pub along-keeps : (old new : S) (before : Progress) (ahead kept ahead_after kept_after : List ℕ) (taken : ℕ)
      → Along left faults old new before ahead kept taken → KeepsAll ahead kept ahead_after kept_after → Along left faults old new before ahead_after kept_after taken
  along-keeps old new before ahead kept ahead_after kept_after taken a k = record {
    bytes = a.bytes;
    front = a.front ++ ahead;
    took = a.took;
    count = a.count;
    cut = a.cut ∙ sym (append-nil (a.front ++ ahead)) ∙ ap (λ rest. (a.front ++ ahead) ++ rest) (sym k.rest);
    unended = open_both a.front ahead a.unended k.unended;
    keeps = k.keeps ∙ ap (λ kept. take most_kept (kept ++ ahead)) a.keeps ∙ kept_both a.front ahead most_kept;
    steady = a.steady;
  }

  pub along-fills : (old mid new : S) (before : Progress) (ahead kept after : List ℕ) (taken room n : ℕ)
      → ahead ≡ [] → Along left faults old mid before ahead kept taken → Fills left faults mid new after room n → Along left faults old new before after kept (taken + n)
  along-fills old mid new before ahead kept after taken room n none a f = record {
    bytes = a.bytes ++ after;
    front = a.front;
    took = took_more left old mid new a.bytes after a.took f.took;
    count = (let here = a.count in let size = length-append a.bytes after in let more = f.count in omega (arith, here, size, more));
    cut = sym (append_assoc before.ahead a.bytes after)
        ∙ ap (λ all. all ++ after) (a.cut ∙ ap (λ rest. a.front ++ rest) none ∙ append-nil a.front);
    unended = a.unended;
    keeps = a.keeps;
    steady = f.steady ∙ a.steady;
  }

  -- a line ended
  pub reads-line : (old new : S) (before : Progress) (ahead kept ahead_after kept_after : List ℕ) (taken given : ℕ) (over : Option ReadingEnd)
      → given ≡ before.given → over ≡ None → before.given < most_lines → taken ≤ most_bytes → Along left faults old new before ahead kept taken
      → EndsLine ahead kept ahead_after kept_after
      → Reads left faults old new before (record { ahead = ahead_after; taken = taken; given = given + 1; line = kept_after; over = over }) (Ok Line)
  reads-line old new before ahead kept ahead_after kept_after taken given over same going few within a e = record {
    bytes = a.bytes;
    took = a.took;
    taken = a.count;
    gives = record {
      given = ap (λ n. n + 1) same;
      few = omega (arith, few, same);
      bytes = within;
      kept = a.steady;
      line = inl (record {
        front = a.front ++ take e.at ahead;
        unended = open_both a.front (take e.at ahead) a.unended (open_before ahead e.at e.found);
        cut = a.cut ∙ ap (λ rest. a.front ++ rest) (split_line ahead e.at e.found)
            ∙ sym (append_assoc a.front (take e.at ahead) (10 ∷ drop (e.at + 1) ahead))
            ∙ ap (λ rest. (a.front ++ take e.at ahead) ++ 10 ∷ rest) (sym e.rest);
        line = e.told
            ∙ ap told_of (ap (λ kept. take most_kept (kept ++ take e.at ahead)) a.keeps ∙ kept_both a.front (take e.at ahead) most_kept)
            ∙ told_line (a.front ++ take e.at ahead);
        goes_on = going;
      });
    };
  }

  all-open : (old new : S) (before : Progress) (ahead kept : List ℕ) (taken : ℕ) (a : Along left faults old new before ahead kept taken) → ahead ≡ [] → before.ahead ++ a.bytes ≡ a.front
  all-open old new before ahead kept taken a none = a.cut ∙ ap (λ rest. a.front ++ rest) none ∙ append-nil a.front

  -- the input ended in a line
  pub reads-last : (old new : S) (before : Progress) (ahead kept kept_after : List ℕ) (taken given : ℕ)
      → given ≡ before.given → before.given < most_lines → taken ≤ most_bytes → ahead ≡ [] → 0 < length kept → kept_after ≡ take most_told kept → TookAll left new []
      → Along left faults old new before ahead kept taken
      → Reads left faults old new before (record { ahead = ahead; taken = taken; given = given + 1; line = kept_after; over = Some AtEnd }) (Ok Line)
  reads-last old new before ahead kept kept_after taken given same few within none some told ends a =
      let all = all-open old new before ahead kept taken a none in record {
        bytes = a.bytes;
        took = a.took;
        taken = a.count;
        gives = record {
          given = ap (λ n. n + 1) same;
          few = omega (arith, few, same);
          bytes = within;
          kept = a.steady;
          line = inr (record {
            unended = subst IsOpen (sym all) a.unended;
            some = subst (λ l. 0 < length l) (sym all) (some_kept a.front most_kept (subst (λ l. 0 < length l) a.keeps some));
            none = none;
            line = told ∙ ap (take most_told) a.keeps ∙ front_of_front a.front most_kept most_told (omega arith) ∙ ap (take most_told) (sym all);
            nothing_left = ends;
            over = refl;
          });
        };
      }

  -- the input ended and no line was begun
  pub reads-end : (old new : S) (before : Progress) (ahead kept : List ℕ) (taken given : ℕ)
      → given ≡ before.given → taken ≤ most_bytes → ahead ≡ [] → length kept ≡ 0 → TookAll left new []
      → (line : List ℕ) → Along left faults old new before ahead kept taken
      → Reads left faults old new before (record { ahead = ahead; taken = taken; given = given; line = line; over = Some AtEnd }) (Ok End)
  reads-end old new before ahead kept taken given same within none empty ends line a = record {
    bytes = a.bytes;
    took = a.took;
    taken = a.count;
    gives = record {
      given = same;
      none = all-open old new before ahead kept taken a none ∙ none_kept a.front most_kept (omega arith) (ap length (sym a.keeps) ∙ empty);
      bytes = within;
      kept = a.steady;
      nothing_left = ends;
      over = refl;
    };
  }

  -- one byte past the limit was taken
  pub reads-past : (old new : S) (before : Progress) (ahead kept line : List ℕ) (taken given : ℕ)
      → given ≡ before.given → length ahead ≡ 1 → taken ≡ most_bytes + 1 → Along left faults old new before ahead kept taken
      → Reads left faults old new before (record { ahead = ahead; taken = taken; given = given; line = line; over = Some PastLimit }) (Ok TooLong)
  reads-past old new before ahead kept line taken given same one past a = record {
    bytes = a.bytes;
    took = a.took;
    taken = a.count;
    gives = record {
      given = same;
      kept = a.steady;
      over = refl;
      why = inr (record {
        front = a.front;
        byte = (only_byte ahead one).0;
        cut = a.cut ∙ ap (λ rest. a.front ++ rest) (only_byte ahead one).1;
        unended = a.unended;
        bytes = past;
      });
    };
  }

  -- the source failed
  pub reads-fault : (old mid new : S) (before : Progress) (ahead after kept line : List ℕ) (taken given : ℕ)
      → given ≡ before.given → taken ≤ most_bytes → ahead ≡ [] → Along left faults old mid before ahead kept taken → Fails left faults mid new after
      → Reads left faults old new before (record { ahead = after; taken = taken; given = given; line = line; over = Some ByFault }) (Err (record {}))
  reads-fault old mid new before ahead after kept line taken given same within none a f = record {
    bytes = a.bytes;
    took = subst (Took left old new) (append-nil a.bytes) (took_more left old mid new a.bytes [] a.took f.took);
    taken = a.count;
    gives = record {
      given = same;
      unended = subst IsOpen (sym (all-open old mid before ahead kept taken a none)) a.unended;
      bytes = within;
      rose = subst (λ count. Rose count (faults new)) a.steady f.rose;
      over = refl;
    };
  }

  -- there are as many lines as there may be, and something follows
  pub reads-many : (old new : S) (before : Progress) (ahead line bytes : List ℕ) (taken given : ℕ)
      → given ≡ before.given → before.given ≡ most_lines → 0 < length ahead → length ahead ≤ most_piece → taken ≤ most_bytes
      → Took left old new bytes → taken ≡ before.taken + length bytes → before.ahead ++ bytes ≡ ahead → faults new ≡ faults old
      → Reads left faults old new before (record { ahead = ahead; taken = taken; given = given; line = line; over = Some PastLimit }) (Ok TooLong)
  reads-many old new before ahead line bytes taken given same full some piece within took count all steady = record {
    bytes = bytes;
    took = took;
    taken = count;
    gives = record {
      given = same;
      kept = steady;
      over = refl;
      why = inl (record {
        full = same ∙ full;
        some = subst (λ l. 0 < length l) (sym all) some;
        piece = subst (λ l. length l ≤ most_piece) (sym all) piece;
        bytes = within;
      });
    };
  }

  -- there are as many lines as there may be, nothing was ahead, and a piece followed
  pub reads-beyond : (old new : S) (before : Progress) (after line : List ℕ) (taken given room n : ℕ)
      → before.ahead ≡ [] → taken ≡ before.taken → given ≡ before.given → before.given ≡ most_lines → taken ≤ most_bytes → room ≤ most_piece
      → taken + room ≤ most_bytes + 1 → (taken + room ≡ most_bytes + 1 → room ≡ 1) → (n ≡ 0 → ⊥) → Fills left faults old new after room n
      → Reads left faults old new before (record { ahead = after; taken = taken + n; given = given; line = line; over = Some PastLimit }) (Ok TooLong)
  reads-beyond old new before after line taken given room n none count same full within piece fits alone some f =
      let size = f.count in
      let few = f.fits in
      elim (leb_tells (most_bytes + 1) (taken + n)) [
        | inl at ↦
            let past = one_past taken room n most_bytes within fits alone few (omega (arith, at.1)) in
            reads-past old new before after [] line (taken + n) given same (size ∙ past.0) past.1
            (along-fills old old new before before.ahead [] after taken room n none (along-begin old before before.ahead [] taken refl refl count) f)
        | inr at ↦
            reads-many old new before after line after (taken + n) given same full (positive (length after) (λ e. some (sym size ∙ e))) (omega (arith, size, few, piece)) (omega (arith, at.1))
            f.took (omega (arith, count, size)) (ap (λ ahead. ahead ++ after) none) f.steady
      ]
