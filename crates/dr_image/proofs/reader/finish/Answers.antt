use Rattle.std.proofs.Common.{◌≡◌, List, length, refl, ap, sym, ◌∙◌, arith, Some, None}
use Rattle.std.proofs.lemmas.Bool.Decides.{nat_tests}
use Rattle.dr_image.specs.Lines.{state_of, stage_of}
use Rattle.dr_image.specs.Shown.{all_shown}
use Rattle.dr_image.specs.declared.held.Held.{Held}
use Rattle.dr_image.proofs.ReadLemmas.{unsourced, finished-is}
use Rattle.dr_image.proofs.reader.finish.Goals as goal

pub returns-in-None : goal.returns-in-None
returns-in-None c =
    let empty : length c.args.partial.now ≡ 0 = grind (arith, nat_tests, c.is_empty.ensures, c.if-is_empty.true) in (
      refl,
      finished-is (state_of c.args.state) (stage_of c.args.state.stage) c.args.partial.now None (ap stage_of c.in-Ended.is) empty
          (sym (c.in-None.ensures.value ∙ ap (λ (hs : List Held). unsourced (all_shown hs)) c.deref.ensures.value)),
    )

pub returns-in-Some : goal.returns-in-Some
returns-in-Some c =
    let empty : length c.args.partial.now ≡ 0 = grind (arith, nat_tests, c.is_empty.ensures, c.if-is_empty.true) in (
      refl,
      finished-is (state_of c.args.state) (stage_of c.args.state.stage) c.args.partial.now (Some c.in-Some.place) (ap stage_of c.in-Ended.is) empty
          (sym (c.in-Some.ensures.value ∙ ap (λ (hs : List Held). unsourced (all_shown hs)) c.deref.ensures.value)),
    )
