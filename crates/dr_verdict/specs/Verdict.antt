use Rattle.std.specs.Prelude.{◌≡◌, ◌≢◌, ℕ, Bool, true, false, ◌==◌, if◌then◌else◌}
use Rattle.dr_verdict.specs.declared.verdict.Verdict.{Verdict}
use Rattle.dr_verdict.specs.declared.verdict.Verdict.TheVariants.{Agrees, LineDiffers, StatusDiffers}
use Rattle.dr_verdict.specs.declared.verdict.Outcome.{Outcome}
use Rattle.dr_verdict.specs.Difference.{differing_line}

-- what a run that came to `found` is worth where `wanted` is stored
abbrev pub IsVerdict : Outcome → Outcome → Verdict → Type 0
IsVerdict wanted found Agrees = (found.printed.items ≡ wanted.printed.items) × (found.status ≡ wanted.status)
IsVerdict wanted found (LineDiffers line) = (found.printed.items ≢ wanted.printed.items) × (line ≡ differing_line wanted.printed.items found.printed.items)
IsVerdict wanted found (StatusDiffers w f) = (found.printed.items ≡ wanted.printed.items) × (f ≢ w) × (w ≡ wanted.status) × (f ≡ found.status)

-- nothing differs
abbrev pub is_agreement : Verdict → Bool
is_agreement Agrees = true
is_agreement (LineDiffers line) = false
is_agreement (StatusDiffers wanted found) = false

-- the status with which a run of scenarios ends of which so many differ
abbrev pub code_of : ℕ → ℕ
code_of differ = if differ == 0 then 0 else 1
