use Rattle.std.proofs.Common.{◌∙◌, ap, filter}
use Rattle.dr_lost.specs.Lost.{held_writes}
use Rattle.dr_sweep.specs.Acks.{among}
use Rattle.dr_sweep.specs.Losses.{seconds_of}
use Rattle.dr_sweep.proofs.losses.kept_between.Goals as goal

pub returns : goal.returns
returns c a b before at_end =
    c.keep_held.ensures
    ∙ ap (λ ws. filter (among ws) c.in_ok-kept.kept.keys) (c.in_ok-held.ensures a before ∙ ap (held_writes a.now) (c.deref.ensures.value ∙ c.in_ok-seconds_of.ensures))
    ∙ ap (λ ws. filter (among (held_writes a.now (seconds_of c.args.items.now))) ws) (c.in_ok-kept.ensures b at_end ∙ ap (held_writes b.now) (c.deref-2.ensures.value ∙ c.in_ok-firsts_of.ensures))
