-- The example of a pair that is listed, carried out.
use Rattle.std.proofs.Common.{ℕ, ◌≡◌, refl, ap, sym, ◌∙◌, Bool, List, [], ◌∷◌, ◌++◌, map, true, cond, ◌+◌, None, Option}
use Rattle.std.specs.Prelude.{codes}
use Rattle.std.specs.Fmt.{digits}
use Rattle.std.specs.Ordering.{nat_cmp}
use Rattle.std.specs.FinSet.{len, union, insert, remove, empty, contains, contains-union, contains-empty, len-insert, len-empty, same_set, nat_cmp-IsAntisymmetric}
use Rattle.std.proofs.lemmas.Cmp.{nat_cmp_total}
use Rattle.dr_logic.proofs.Truth.{or-none}
use Rattle.std.proofs.lemmas.List.{append_cancel_left, append_cancel_right}
use Rattle.dr_logic.specs.Bytes.{zeros}
use Rattle.dr_model.specs.declared.event.Event.{Event}
use Rattle.dr_model.specs.declared.event.Event.TheVariants.{PairLine}
use Rattle.dr_model.specs.declared.said.Addition.TheVariants.{Alone}
use Rattle.dr_model.specs.declared.said.Said.TheVariants.{Done}
use Rattle.dr_model.specs.Answers.{answer}
use Rattle.dr_model.specs.Carry.{act, carry, turn, update_keeping, stopped_at}
use Rattle.dr_model.specs.Contents.{image}
use Rattle.dr_model.specs.Control.{Fuse, World, is_volume}
use Rattle.dr_model.specs.Fits.{Fits}
use Rattle.dr_model.specs.Histories.{histories}
use Rattle.dr_model.specs.Layout.{Blocks, Fields, Tracks, no_fields}
use Rattle.dr_model.specs.Listings as told
use Rattle.dr_model.specs.Entries.{fields_at}
use Rattle.dr_model.specs.declared.step.Step.TheVariants.{ListPairs}
use Rattle.dr_model.specs.declared.state.Part.TheVariants.{Global}
use Rattle.dr_model.specs.declared.state.PairState.TheVariants.{CopyPending}
use Rattle.dr_model.specs.Phases.{servers_where}
use Rattle.dr_model.specs.Runs.{after_plan, after_tasks, run}
use Rattle.dr_model.specs.Sessions.{changed}
use Rattle.dr_model.specs.Text.{line_text, numbered, untold}
use Rattle.dr_laws_sound.specs.Acknowledged.{said_in}
use Rattle.dr_laws_recovery.specs.Decided.{record_on}
use Rattle.dr_laws_answers.specs.Listing.{pair_lines, Prints}
use Rattle.dr_laws_answers.specs.Example.{paired, lists, listed_pair}
use Rattle.dr_laws_sites.specs.Example.{unnamed}
use Rattle.dr_laws_answers.proofs.Listing.{of-volume, last-told, listed-run}

-- the track that the host wrote is out of sync, and none changed since the pair began to record
abbrev unsent_tracks : Tracks
unsent_tracks = union (insert empty 1) empty

one-unsent : len unsent_tracks ≡ 1
one-unsent =
    ap len same
    ∙ (len-insert nat_cmp_total empty 1
    ∙ (ap (λ b. cond b (len none) (len none + 1)) (contains-empty nat_cmp 1)
    ∙ ap (λ n. n + 1) (len-empty nat_cmp)))
  where
    none : Tracks
    none = empty

    same : unsent_tracks ≡ insert empty 1
    same = same_set nat_cmp_total nat_cmp-IsAntisymmetric unsent_tracks (insert empty 1)
        (λ q. contains-union nat_cmp_total (insert none 1) none q ∙ or-none (contains (insert none 1) q) (contains none q) (contains-empty nat_cmp q))

pub says : said_in (run paired) lists ≡ Done Alone
unfolding after_tasks after_plan carry act turn update_keeping stopped_at image histories zeros changed servers_where
says = refl

unfoldable ends : World
ends = run paired

-- 1000 as the run leaves it: the track that was written is blank no more
abbrev leading : Fields
leading = record no_fields { primary = Global; primary_state = CopyPending; primary_partner = 8192; out_of_sync = insert empty 1; blank = remove empty 1 }

leads : fields_at ends.control 4096 ≡ leading
unfolding ends after_tasks after_plan carry act turn update_keeping stopped_at image histories zeros changed servers_where
leads = refl

-- what is told is by this record
told-pair : (device : ℕ → Blocks) → (run listed_pair).events ≡ ((run paired).events ++ told.pair_lines 1 4096 (fields_at ends.control 4096)) ++ answer 1 (Done Alone) ∷ []
unfolding ends
told-pair device =
    let es : List Event = told.pair_lines 1 4096 (fields_at (run paired).control 4096) in
    (last-told listed_pair paired lists refl device (is_volume (run paired).control 4096 ≡ true) es (ListPairs unnamed 4096) refl (of-volume (run paired) 1 None 4096 es) refl Alone says).1.events

pub tells : (run listed_pair).events ≡ ((run paired).events ++ PairLine 1 4096 8192 0 2 1 ∷ []) ++ answer 1 (Done Alone) ∷ []
tells =
    told-pair (λ d k. [])
    ∙ (ap (λ f. ((run paired).events ++ told.pair_lines 1 4096 f) ++ answer 1 (Done Alone) ∷ []) leads
    ∙ ap (λ k. ((run paired).events ++ PairLine 1 4096 8192 0 2 k ∷ []) ++ answer 1 (Done Alone) ∷ []) one-unsent)

-- ---- what the law gives

its-text : map (line_text untold) (PairLine 1 4096 8192 0 2 1 ∷ []) ≡ codes "1 1000:2000 Copy Pending Global Copy 1\n" ∷ []
unfolding digits
its-text = refl

pub prints : (on : ℕ → Bool) (fuse : ℕ → Option Fuse) (device : ℕ → Blocks) → Fits (run listed_pair) on fuse device
    → map (numbered 1) (pair_lines 4096 (record_on (run listed_pair) device 4096)) ≡ codes "1 1000:2000 Copy Pending Global Copy 1\n" ∷ []
prints on fuse device fits =
    let law : Prints (run paired) (run listed_pair) 1 (λ names. pair_lines 4096 (record_on (run listed_pair) device 4096)) = listed-run listed_pair on fuse device fits paired lists _ Alone _ refl refl says refl in
    let is : law.told ≡ PairLine 1 4096 8192 0 2 1 ∷ [] =
    append_cancel_left (run paired).events law.told (PairLine 1 4096 8192 0 2 1 ∷ [])
    (append_cancel_right ((run paired).events ++ law.told) ((run paired).events ++ PairLine 1 4096 8192 0 2 1 ∷ []) (answer 1 (Done Alone) ∷ []) (sym law.events ∙ tells)) in
    sym (law.prints untold) ∙ (ap (map (line_text untold)) is ∙ its-text)
