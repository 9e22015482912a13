use Rattle.std.proofs.Common.{◌++◌, [], ap, sym, ◌∙◌}
use Rattle.std.specs.List.{cons_option}
use Rattle.std.specs.Option.{option_copied}
use Rattle.dr_sweep.specs.Acks.{volume_by}
use Rattle.dr_sweep.proofs.TellLemmas.{told-more}
use Rattle.dr_sweep.proofs.acks.volumes_of.Goals as goal

pub loop-place-preserved : goal.loop-place-preserved
loop-place-preserved c =
    c.in_ok-push_some.ensures
    ∙ ap (λ xs. xs ++ cons_option c.volume_by.result []) c.loop-place.invariant
    ∙ sym (told-more (volume_by c.args.writes.now.keys) c.args.journal.now.events c.loop-place.place c.unwrap.result.now (cons_option c.volume_by.result []) (sym c.event.ensures ∙ ap option_copied c.unwrap.ensures) (ap (λ o. cons_option o []) c.volume_by.ensures))
