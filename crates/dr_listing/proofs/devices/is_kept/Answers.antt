use Rattle.std.proofs.Common.{◌<◌, ap, ◌∙◌, not}
use Rattle.std.proofs.lemmas.List.Elements.{All-from_get_or}
use Rattle.dr_listing.proofs.KeptLemmas.{none-zero}
use Rattle.dr_listing.proofs.devices.is_kept.Goals as goal

pub returns-clause-kept : goal.returns-clause-kept
returns-clause-kept c = ap not c.is_zero.ensures ∙ none-zero c.args.bytes.now

pub returns-clause-block : goal.returns-clause-block
returns-clause-block c = record { whole = c.requires.whole; small = All-from_get_or (λ b. b < 256) c.args.bytes.now 0 (λ i low. (c.type_inv.bytes i).fits) }
