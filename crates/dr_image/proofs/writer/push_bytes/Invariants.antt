use Rattle.std.proofs.Common.{◌≡◌, ◌++◌, take}
use Rattle.dr_model.specs.LineText.{bytes_text}
use Rattle.dr_image.proofs.writer.push_bytes.Given as goal

abbrev pub invariant-loop-byte : goal.invariant-loop-byte
invariant-loop-byte l = l.text ≡ l.fn.text ++ bytes_text (take l.byte-index l.bytes)
