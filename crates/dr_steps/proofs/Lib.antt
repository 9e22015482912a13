-- Read first: `StepLemmas.antt`, `LocatedLemmas.antt`; `LandLemmas.antt`: how a landing ends; `StopLemmas.antt`: what
-- stopping and arming come to; `ComeLemmas.antt`: a plan that a call of `dr_admin` carried out; `ZeroDevice.antt`: what
-- a device of zeros shows; `WellFormedLemmas.antt`: what a line says is well formed; `FlashLemmas.antt`,
-- `BackgroundLemmas.antt`: steps on relationships, and so many rounds of entries.
-- `LossLemmas.antt`, `EpochLemmas.antt`: masters that are lost, and the epochs that begin with it; `CountLemmas.antt`: that the counts of the
-- messages in flight have room; `MessageLemmas.antt`, `SendLemmas.antt`: lines on control messages.
-- `DeliverLemmas.antt`: a message that arrives; `PostLemmas.antt`: an order that is carried out then, and the reply that this makes.
-- - **Step lemmas over plain `here s t h events`**, with each state and list as an explicit argument
--   (`StepLemmas.antt`). In the answer of a goal, name the parts by `let`, and then it is one line.
-- - **A plan that names a server**: `unknown-server` and `known-server` (`StopLemmas.antt`) take the plan as a function
--   of the `Option` that the name gives.
-- - **A value that is read out of a field before the field is set** leaves a residue of the borrow checker in the goal.
--   A function that looks (`landed_on`) and one that changes (`acknowledge`) leave none.
-- - **A chain of `if` on byte strings** (`command == b"@stop".as_slice()`) proves with no file where a `match` on six of
--   them left its default arms open.
-- - **Equal worlds by paths of records**: `λ i. record w { field = e i }` changes each part along its own equation.
-- - A refusal's answer after a plan whose `follows` is none: `plan-fails` (`follow` computes only at a known refusal).
-- - **Two clauses for one call**: a call that is a step and also a part of a longer line says `Carries` (the plan
--   carried out, and what it answers), from which the answered form follows for every line (`carries-plan`). From
--   `after_plan .. ≡ said ..` the refusal can't be had back without showing that answers differ as events.
-- - **A loop over parts**: its invariant says that whatever the rest leads to, all leads to (`way` in
--   `forming/take_turns`), with `Reaches x u r` for a way's world and refusal. A turn is `reaches-on` where it went well
--   and `reaches-end` where it was refused. The bound that is left is a number `k` with `k + counter ≡ bound`, so there
--   is no subtraction.
-- - **A choice in a loop's body goes into a function of its own** (`drain_place`), so that the loop has one call and no
--   joined branches.
-- - **A call that is all of its step** (`start`, `lift`): its one clause is `Comes` (`dr_admin/specs/Answering.antt`),
--   the plan carried out and answered. The caller has two lemmas on it, whatever the plan (`plan-comes`, `told-comes` in
--   `ComeLemmas.antt` of `dr_steps`). In the call itself a plan that is chosen by a test (`start_on`) is brought to its
--   choice by one `subst` over `Comes`.
-- - **A step of checks and a call** (`flash.rt`): `found-then`, `step-nowhere`, `step-done`, `step-refused`,
--   `step-ready` (`FlashLemmas.antt`) take the entries before and after as lists; the answers of four steps are one
--   template.
-- - **So many rounds of the same entries** (`background.rt`): the invariant is `carry old (times i ds) ≡ (now, None)`,
--   with `carried-next` for a round that was done and `carried-failed` for one that ends all. What the rounds told so
--   far follows from it by the machine's costs (`rounds-tell`), and with `spare` (events and room have one sum) the room
--   for the next round.
-- - **What follows a stop** is a clause of its own, `EndsFollowed`: a world in the middle, how the entries ended there,
--   and how those that follow ended. The call that does the following answers with the first refusal, and swallows its
--   own. In the step (`DrainLemmas.antt`), `follows-to` takes the refusal apart; all but a stop are `sym
--   same`. The entries that follow must test that their server runs: it may be the one that stopped.
-- - **A big match in parts**: `carry_out` has the forms that change the configuration; its default arm calls `carry_host`, whose default arm
--   calls `carry_listing`, and so on to `carry_return`. Each requires that the step is of none of the forms before (`is_defining step ≡
--   false`), which follows from the `.not-V` of the arms (`none-defining`). The last default arm needs no form: a step that is none of all
--   these has a course of its own, and no plan but to say that it is done (`plan-else`).
-- - **A listing** (`ListingLemmas.antt`): its plan is a refusal or lines that come (`list-refused`, `list-done`), its lines tell of no
--   write and no stop (`told-lines`, `lines-calm`); an image is the same with its own course (`image-done`, `image-full`).
pub mod BackgroundLemmas
pub mod LandLemmas
pub mod LocatedLemmas
pub mod LossLemmas
pub mod EpochLemmas
pub mod CountLemmas
pub mod MessageLemmas
pub mod StepLemmas
pub mod StopLemmas
pub mod StartLemmas
pub mod ComeLemmas
pub mod ZeroDevice
pub mod DefineLemmas
pub mod WellFormedLemmas
pub mod StepTaskLemmas
pub mod WidenLemmas
pub mod ListingLemmas
pub mod RelationLemmas
pub mod FlashLemmas
pub mod PairLemmas
pub mod PathLemmas
pub mod CarriesLemmas
pub mod DrainLemmas
pub mod FreezeLemmas
pub mod ReleaseLemmas
pub mod SessionLemmas
pub mod MemberLemmas
pub mod NamedLemmas
pub mod ExchangeLemmas
pub mod PostLemmas
pub mod DeliverLemmas
pub mod SendLemmas
pub mod FormingLemmas
pub mod RecoveringLemmas
pub mod WantLemmas
