use Rattle.std.proofs.Common.{◌≡◌, ◌≤◌, ◌-◌, ◌<◌, ℕ, length, drop, ap, sym, ◌∙◌, arith, length-drop, length-append}
use Rattle.std.specs.Fmt.{decimal}
use Rattle.std.proofs.lemmas.Fmt.{length-decimal-le}
use Rattle.dr_list.proofs.tail.Tail.number.Goals as goal

short : (n m : ℕ) → m ≡ n → n < 4294967296 → length (decimal m) ≤ 10
short n m same fits = length-decimal-le 10 m (omega arith) (omega (arith, same, fits)) (omega (arith, same, fits))

pub write_digits-self-inside-requires : goal.write_digits-self-inside-requires
write_digits-self-inside-requires c =
    let a = c.self.inside in
    let digits = short c.args.n c.from.result c.from.ensures c.ranges.n.fits in
    let held : length c.args.self.now ≡ length a.bytes - a.start = ap length (sym c.self.view_is) ∙ length-drop a.start a.bytes in
    let room = c.requires in
    let told = c.self.told in
    let within : a.start ≤ 192 = c.self.invariant in
    (omega (arith, digits, held, room, told, within), omega (arith, told, within))

pub returns-clause-len : goal.returns-clause-len
returns-clause-len c =
    let a = c.self.inside in
    let digits = short c.args.n c.from.result c.from.ensures c.ranges.n.fits in
    let all = ap length c.write_digits-self-inside.ensures.written ∙ length-append (decimal c.from.result) (drop a.start a.bytes) in
    let held : length (drop a.start a.bytes) ≡ length c.args.self.now = ap length c.self.view_is in
    omega (arith, digits, all, held)
