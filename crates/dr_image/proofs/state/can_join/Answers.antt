use Rattle.std.proofs.Common.{◌≡◌, ◌<◌, ◌&&◌, Bool, true, length, List, ap, sym, ◌∙◌, arith, nat_lt}
use Rattle.std.specs.List.{list_all}
use Rattle.std.proofs.lemmas.Bool.Decides.{nat_tests}
use Rattle.std.proofs.lemmas.List.{length-map}
use Rattle.std.proofs.lemmas.List.Folds.{list_all-map}
use Rattle.dr_model.specs.PlantImage.{Volume, agrees, can_join}
use Rattle.dr_image.specs.declared.held.Held.{Held}
use Rattle.dr_image.specs.Shown.{shown, all_shown, bare}
use Rattle.dr_image.proofs.state.can_join.Goals as goal

pub returns-then-len-lt-MOST_VOLUMES : goal.returns-then-len-lt-MOST_VOLUMES
unfolding can_join
returns-then-len-lt-MOST_VOLUMES c =
    let hs : List Held = c.args.volumes.now.items in
    let v : Volume = bare c.args.volume in
    let same : length (all_shown hs) ≡ length hs = length-map hs shown in
    let few : length (all_shown hs) < 64 = omega arith in
    let passes : nat_lt (length (all_shown hs)) 64 ≡ true = grind (arith, nat_tests, few) in
    c.all_agree.ensures ∙ ap (list_all (λ (h : Held). agrees (shown h) v)) c.deref.ensures.value ∙ sym (list_all-map (λ (w : Volume). agrees w v) shown hs)
    ∙ ap (λ (b : Bool). b && list_all (λ (w : Volume). agrees w v) (all_shown hs)) (sym passes)
