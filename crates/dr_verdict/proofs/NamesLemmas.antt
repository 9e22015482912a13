use Rattle.std.proofs.Common.{◌≡◌, ℕ, ◌-◌, List, cond, Option, None, Some, Bor, MatchOption, length, take, nat_eq, ap, sym, ◌∙◌, refl}
use Rattle.std.specs.List.{ends_with}
use Rattle.std.specs.Option.{option_copied}
use Rattle.std.specs.Str.Pattern.{FindsTextSuffix, StripsSuffix}
use Rattle.std.proofs.lemmas.Bool.{false_from_ne_true}
use Rattle.std.proofs.lemmas.Bool.Decides.{Decides-eqb}
use Rattle.std.proofs.lemmas.Slice.Eq.{ends_is}
use Rattle.dr_verdict.specs.Names.{name_before}

-- what `strip_suffix` gives at a text is the name before it
pub name_before-stripped : (file ending : List ℕ) (r : Option (Bor (List ℕ))) → MatchOption r (FindsTextSuffix ending file None) (λ x. StripsSuffix (FindsTextSuffix ending) file x.now) → option_copied r ≡ name_before file ending
name_before-stripped file ending None h =
    let e = ends_is Decides-eqb file ending (ends_with nat_eq file ending) refl in
    let no = false_from_ne_true (ends_with nat_eq file ending) (λ yes. h (take (length file - length ending) file) (e.0 yes)) in
    sym (ap (λ b. cond b (Some (take (length file - length ending) file)) None) no)
name_before-stripped file ending (Some x) h =
    let e = ends_is Decides-eqb file ending (ends_with nat_eq file ending) refl in
    let yes = e.1 (take (length file - h.0) file) h.1.1 in
    ap Some h.2 ∙ ap (λ n. Some (take (length file - n) file)) h.1.0
    ∙ sym (ap (λ b. cond b (Some (take (length file - length ending) file)) None) yes)
