use Rattle.dr_lost.proofs.HeldLemmas.{stand-issued}
use Rattle.dr_lost.proofs.holdings.Holdings.issue.Goals as goal

pub returns : goal.returns
returns c = λ offset bytes h s.
    let x = c.args.self.now in
    let place = c.args.place in
    let e = c.put_place.ensures in
    stand-issued c.put_place.result x.nodes.items x.current.entries x.aside.entries x.places.entries c.put_place.new.places.entries h c.args.w (record { volume = place.volume; track = place.track; offset = offset; bytes = bytes }) e.put e.same s
