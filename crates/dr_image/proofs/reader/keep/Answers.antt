use Rattle.std.proofs.Common.{◌≡◌, ◌++◌, ℕ, List, false, ap, sym, ◌∙◌, subst}
use Rattle.std.specs.Prelude.{Result, Ok, Err, OnOk, is_ok, if◌then◌else◌}
use Rattle.std.proofs.lemmas.List.Elements.{All-append}
use Rattle.dr_model.specs.PlantImage.{State, is_line_feed}
use Rattle.dr_image.specs.Lines.{state_of, stage_of}
use Rattle.dr_image.specs.Reader.{reads_on}
use Rattle.dr_image.proofs.ReadLemmas.{NoLineFeed, keep-turn, skip-turn}
use Rattle.dr_image.proofs.reader.keep.Goals as goal

pub returns-in-Bad-clause-reads : goal.returns-in-Bad-clause-reads
returns-in-Bad-clause-reads c = λ later. skip-turn (state_of c.args.state.now) c.args.partial.now.items c.args.piece.now later (ap stage_of c.in-Bad.is)

kept_plain : {T E : Type 0} (r : Result T E) (old piece new : List ℕ) → new ≡ (if is_ok r then old ++ piece else old) → NoLineFeed old → NoLineFeed piece → NoLineFeed new
kept_plain (Ok x) old piece new e a b = subst NoLineFeed (sym e) (All-append (λ c. is_line_feed c ≡ false) old piece a b)
kept_plain (Err x) old piece new e a b = subst NoLineFeed (sym e) a

kept_reads : {T E : Type 0} (r : Result T E) (s : State) (old piece new : List ℕ) → new ≡ (if is_ok r then old ++ piece else old) → OnOk r ((rest : List ℕ) → reads_on s new rest ≡ reads_on s old (piece ++ rest))
kept_reads (Ok x) s old piece new e = λ rest. ap (λ p. reads_on s p rest) e ∙ keep-turn s old piece rest
kept_reads (Err x) s old piece new e = tt

pub returns-in_default : goal.returns-in_default
returns-in_default c = record {
  partial = kept_plain c.extend_from_slice.result c.args.partial.now.items c.args.piece.now _ c.extend_from_slice.ensures.items c.requires.partial c.requires.piece;
  reads = kept_reads c.extend_from_slice.result (state_of c.args.state.now) c.args.partial.now.items c.args.piece.now _ c.extend_from_slice.ensures.items;
}
