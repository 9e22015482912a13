-- What was taken from a source, call by call.
use Rattle.std.proofs.Common.{ℕ, ◌≡◌, ◌≤◌, ◌+◌, List, [], ◌∷◌, ◌++◌, ◌⊎◌, length, refl, ap, ◌∙◌, sym, subst, arith, append_assoc, inl, inr, Option, Some, None, Result, Ok}
use Rattle.std.proofs.lemmas.List.{append-nil, length-append}
use Rattle.std.specs.Str.Lines.{lines, strip_carriage_return}
use Rattle.dr_io.specs.Given.{Took, TookAll}
use Rattle.dr_io.specs.Lines.{Progress, begun, IsNext, NextBy, Reads, StaysOver, IsEndedLine, IsLastLine, most_bytes, most_lines, most_piece, end_answer}
use Rattle.dr_io.specs.declared.streams.Failed.{Failed}
use Rattle.dr_io.specs.declared.line_reader.ReadingEnd.{ReadingEnd}
use Rattle.dr_io.specs.declared.line_reader.ReadingEnd.TheVariants.{AtEnd}
use Rattle.dr_io.specs.declared.line_reader.Taken.{Taken}
use Rattle.dr_io.specs.declared.line_reader.Taken.TheVariants.{Line, End}
use Rattle.dr_model.specs.Lines.{tasks_of}
use Rattle.dr_top.specs.Cut.{IsClosed, IsEnded}
use Rattle.dr_top.specs.Followed.{IsLast}
use Rattle.dr_top.proofs.LineLemmas.{lines-one, lines-last, append_end}
use Rattle.dr_top.proofs.TaskLemmas.{line_tasks, ended-tasks, last-tasks, closed-more, one-more}
use Rattle.dr_io.proofs.ReadingSteps.{took_more}

module _ {S : Type 0} (left : S → Option (List ℕ)) where
  -- nothing is left, so all was taken
  took-all : (s0 s : S) (bytes : List ℕ) → Took left s0 s bytes → TookAll left s [] → TookAll left s0 bytes
  took-all s0 s bytes t none told h = let a = t told h in a.2 ∙ ap (λ r. bytes ++ r) (none a.0 a.1) ∙ append-nil bytes

  -- the reading goes on behind whole lines, or has ended with a line that has no end
  pub record HasEnded (source : S) (p : Progress) (before : List ℕ) : Type 0 where
    pub over : p.over ≡ Some AtEnd
    pub none : p.ahead ≡ []
    pub all : TookAll left source before

  abbrev pub StandsAt : S → Progress → List ℕ → Type 0
  StandsAt source p before = ((p.over ≡ None) × IsClosed before) ⊎ HasEnded source p before

  module _ (faults : S → ℕ) (s0 : S) where
    -- these bytes were taken in lines that were given, and the rest lies ahead
    pub record Stands (s : S) (p : Progress) (before : List ℕ) : Type 0 where
      pub took : Took left s0 s (before ++ p.ahead)
      pub count : p.taken ≡ length (before ++ p.ahead)
      pub given : p.given ≡ length (lines before)
      pub few : p.given ≤ most_lines
      pub bytes : p.taken ≤ most_bytes
      pub near : length p.ahead ≤ most_piece
      pub place : StandsAt s0 p before
      pub kept : faults s ≡ faults s0

    pub stands-first : (rest : Option (List ℕ)) → left s0 ≡ rest → Stands s0 begun []
    stands-first rest is = record {
      took = λ told h. (told, h, refl);
      count = refl;
      given = refl;
      few = omega arith;
      bytes = omega arith;
      near = omega arith;
      place = inl (refl, inl refl);
      kept = refl;
    }

    -- A line more was taken.
    pub record TakesLine (s : S) (p : Progress) (before : List ℕ) : Type 0 where
      pub line : List ℕ
      pub stands : Stands s p (before ++ line)
      pub closed : IsClosed before
      pub one : IsEnded line ⊎ IsLast left s0 (before ++ (line ++ p.ahead)) line p.ahead
      pub tasks : tasks_of (length (lines before) + 1) p.line ≡ line_tasks before line
      pub more : length (lines (before ++ line)) ≡ length (lines before) + 1

    module _ (s s' : S) (p p' : Progress) (before : List ℕ) (st : Stands s p before) where
      -- what was taken with a call that goes on
      took-both : (result : Result Taken Failed) (r : Reads left faults s s' p p' result) → Took left s0 s' (before ++ (p.ahead ++ r.bytes))
      took-both result r = subst (Took left s0 s') (append_assoc before p.ahead r.bytes) (took_more left s0 s s' (before ++ p.ahead) r.bytes st.took r.took)

      count-both : (result : Result Taken Failed) (r : Reads left faults s s' p p' result) → p'.taken ≡ length (before ++ (p.ahead ++ r.bytes))
      count-both result r =
          let had = st.count in
          let more = r.taken in
          let sum = length-append (before ++ p.ahead) r.bytes in
          let same = ap (λ xs. length xs) (append_assoc before p.ahead r.bytes) in
          omega (arith, had, more, sum, same)

      -- once the reading is over it stays so
      stays : (over : ReadingEnd) (result : Result Taken Failed) → p.over ≡ Some over → IsNext left faults s s' p p' result → StaysOver left faults s s' over p p' result
      stays over result is next = subst (λ o. NextBy left faults s s' o p p' result) is next

      goes : (result : Result Taken Failed) → p.over ≡ None → IsNext left faults s s' p p' result → Reads left faults s s' p p' result
      goes result none next = subst (λ o. NextBy left faults s s' o p p' result) none next

      module _ (near : length p'.ahead ≤ most_piece) where
        takes-ended : (r : Reads left faults s s' p p' (Ok Line)) → IsClosed before → IsEndedLine (p.ahead ++ r.bytes) p' → TakesLine s' p' before
        takes-ended r closed e =
            let line : List ℕ = e.front ++ 10 ∷ [] in
            let whole : before ++ (p.ahead ++ r.bytes) ≡ (before ++ line) ++ p'.ahead = ap (λ xs. before ++ xs) (e.cut ∙ sym (append_end e.front p'.ahead)) ∙ sym (append_assoc before line p'.ahead) in
            record {
              line = line;
              stands = record {
                took = subst (Took left s0 s') whole (took-both (Ok Line) r);
                count = count-both (Ok Line) r ∙ ap (λ xs. length xs) whole;
                given = r.gives.given ∙ ap (λ n. n + 1) st.given ∙ sym (one-more before line (strip_carriage_return e.front) closed (lines-one e.front e.unended));
                few = r.gives.few;
                bytes = r.gives.bytes;
                near = near;
                place = inl (e.goes_on, closed-more before e.front);
                kept = r.gives.kept ∙ st.kept;
              };
              closed = closed;
              one = inl (e.front, refl, e.unended);
              tasks = ended-tasks before e.front p'.line e.unended e.line;
              more = one-more before line (strip_carriage_return e.front) closed (lines-one e.front e.unended);
            }

        takes-last : (r : Reads left faults s s' p p' (Ok Line)) → IsClosed before → IsLastLine left faults s s' (p.ahead ++ r.bytes) p' → TakesLine s' p' before
        takes-last r closed l =
            let line : List ℕ = p.ahead ++ r.bytes in
            let alone : line ++ p'.ahead ≡ line = ap (λ xs. line ++ xs) l.none ∙ append-nil line in
            let whole : before ++ line ≡ (before ++ line) ++ p'.ahead = sym (append_assoc before line p'.ahead ∙ ap (λ xs. before ++ xs) alone) in
            let all : TookAll left s0 (before ++ line) = took-all s0 s' (before ++ line) (took-both (Ok Line) r) l.nothing_left in
            record {
              line = line;
              stands = record {
                took = subst (Took left s0 s') whole (took-both (Ok Line) r);
                count = count-both (Ok Line) r ∙ ap (λ xs. length xs) whole;
                given = r.gives.given ∙ ap (λ n. n + 1) st.given ∙ sym (one-more before line line closed (lines-last line l.unended l.some));
                few = r.gives.few;
                bytes = r.gives.bytes;
                near = near;
                place = inr (record { over = l.over; none = l.none; all = all });
                kept = r.gives.kept ∙ st.kept;
              };
              closed = closed;
              one = inr (record { unended = l.unended; some = l.some; none = l.none; all = subst (TookAll left s0) (sym (ap (λ xs. before ++ xs) alone)) all });
              tasks = last-tasks before line p'.line l.unended l.some l.line;
              more = one-more before line line closed (lines-last line l.unended l.some);
            }

        takes-by : StandsAt s0 p before → IsNext left faults s s' p p' (Ok Line) → TakesLine s' p' before
        takes-by (inr ended) next = absurd (let e : Ok Line ≡ end_answer AtEnd = (stays AtEnd (Ok Line) ended.over next).answer in cc)
        takes-by (inl (none, closed)) next = let r = goes (Ok Line) none next in elim r.gives.line [ inl e ↦ takes-ended r closed e | inr l ↦ takes-last r closed l ]

        pub takes-line : IsNext left faults s s' p p' (Ok Line) → TakesLine s' p' before
        takes-line next = takes-by st.place next

      -- all was taken
      pub record TakesAll : Type 0 where
        pub took : Took left s0 s' before
        pub all : TookAll left s0 before
        pub bytes : length before ≤ most_bytes
        pub lines : length (lines before) ≤ most_lines
        pub kept : faults s' ≡ faults s0

      few-lines : length (lines before) ≤ most_lines
      few-lines = subst (λ n. n ≤ most_lines) st.given st.few

      all-by : StandsAt s0 p before → IsNext left faults s s' p p' (Ok End) → TakesAll
      all-by (inr ended) next =
          let stay = stays AtEnd (Ok End) ended.over next in
          let alone : before ++ p.ahead ≡ before = ap (λ xs. before ++ xs) ended.none ∙ append-nil before in
          record {
            took = subst (λ x. Took left s0 x before) (sym stay.source) (subst (Took left s0 s) alone st.took);
            all = ended.all;
            bytes = subst (λ n. n ≤ most_bytes) (st.count ∙ ap (λ xs. length xs) alone) st.bytes;
            lines = few-lines;
            kept = ap faults stay.source ∙ st.kept;
          }
      all-by (inl (none, closed)) next =
          let r = goes (Ok End) none next in
          let alone : before ++ (p.ahead ++ r.bytes) ≡ before = ap (λ xs. before ++ xs) r.gives.none ∙ append-nil before in
          let took = subst (Took left s0 s') alone (took-both (Ok End) r) in
          record {
            took = took;
            all = took-all s0 s' before took r.gives.nothing_left;
            bytes = subst (λ n. n ≤ most_bytes) (count-both (Ok End) r ∙ ap (λ xs. length xs) alone) r.gives.bytes;
            lines = few-lines;
            kept = r.gives.kept ∙ st.kept;
          }

      pub takes-all : IsNext left faults s s' p p' (Ok End) → TakesAll
      takes-all next = all-by st.place next

      -- whole lines were taken, and what lies ahead is none
      pub record TakesPart (result : Result Taken Failed) : Type 0 where
        pub reads : Reads left faults s s' p p' result
        pub took : Took left s0 s' (before ++ (p.ahead ++ reads.bytes))
        pub count : p'.taken ≡ length (before ++ (p.ahead ++ reads.bytes))
        pub closed : IsClosed before
        pub few : length (lines before) ≤ most_lines

      part-by : (result : Result Taken Failed) → (result ≡ Ok End → ⊥) → StandsAt s0 p before → IsNext left faults s s' p p' result → TakesPart result
      part-by result not (inr ended) next = absurd (not (stays AtEnd result ended.over next).answer)
      part-by result not (inl (none, closed)) next =
          let r = goes result none next in
          record { reads = r; took = took-both result r; count = count-both result r; closed = closed; few = few-lines }

      pub takes-part : (result : Result Taken Failed) → (result ≡ Ok End → ⊥) → IsNext left faults s s' p p' result → TakesPart result
      takes-part result not next = part-by result not st.place next
