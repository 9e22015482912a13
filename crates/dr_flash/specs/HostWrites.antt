-- Where the host may write.
use Rattle.std.specs.Prelude.{ℕ, not, Option, Some, None, if◌then◌else◌}
use Rattle.dr_ids.specs.declared.refusal.Refusal.{Refusal}
use Rattle.dr_ids.specs.declared.refusal.Refusal.TheVariants.{Inhibited, NotPrimary}
use Rattle.dr_model.specs.Control.{Control}
use Rattle.dr_model.specs.Entries.{is_no_secondary, is_open, is_settled, relation_state}

-- why a host write on v is refused for good, if it is: v is a secondary, an inhibited target, or stands in a revertible or
-- reversing relationship
abbrev pub write_refusal : Control → ℕ → Option Refusal
write_refusal k v =
    if not (is_no_secondary v k) then Some (NotPrimary (record { 0 = v }))
    else if not (is_open v k) then Some (Inhibited (record { 0 = v }))
    else if not (is_settled v k) then Some (relation_state k v)
    else None
