-- How a call of the program ends, by what was read and put.
use Rattle.std.proofs.Common.{ℕ, ◌≡◌, inl, inr, List, refl, ap, ◌∙◌, sym, subst, Bool, true, false, Option, Some, None}
use Rattle.std.specs.Str.Lines.{lines}
use Rattle.dr_logic.specs.Counts.{Counted}
use Rattle.dr_plan.specs.Sweep.{Sweep}
use Rattle.dr_rows.specs.Calm.{Calm}
use Rattle.dr_rows.specs.Findings.{has_finding}
use Rattle.dr_rows.specs.Outcome.{Outcome}
use Rattle.dr_sweep.specs.declared.call.Reply.{Reply}
use Rattle.dr_sweep.specs.declared.ending.Ending.{Ending}
use Rattle.dr_sweep.specs.declared.ending.Ending.TheVariants.{Done, Finding, Usage, ReadFault, WriteFault, NoMemory, TooLong, BadPlan}
use Rattle.dr_sweep.specs.declared.printing.Asked.{Asked}
use Rattle.dr_sweep.specs.declared.printing.Asked.TheVariants.{Rows, Script}
use Rattle.dr_sweep.specs.declared.printing.NamedPoint.{NamedPoint}
use Rattle.dr_sweep.specs.declared.printing.View.{View}
use Rattle.dr_sweep.specs.Ending.{is_write_fault, finding_ending}
use Rattle.dr_sweep.specs.Calls.{IsAnswer, IsCalm, IsReply, IsScriptOf, IsShown, Puts, EndsApart, EndsOn, EndsText, OfText, IsSweep, usage_line}
use Rattle.dr_sweep.specs.Parts.{AreSwept, parts_of}
use Rattle.dr_top.specs.Offline.{IsTaken, HasTakenSome}
use Rattle.dr_words.specs.declared.sweep.SweepCommand.{SweepCommand}

-- a call that has put an answer ends so
abbrev pub is_answered : Ending → Bool
is_answered Done = true
is_answered Finding = true
is_answered Usage = true
is_answered _ = false

pub found-answered : (found : Bool) → is_answered (finding_ending found) ≡ true
found-answered true = refl
found-answered false = refl

module _ {K : Type 0} (written : K → Option (List ℕ)) (faults : K → ℕ) (k k' : K) where
  module _ (plan tried : Sweep) (asked : Asked) where
    -- an answer was put
    pub answer-put : (text : List ℕ) (ending : Ending) → IsAnswer plan tried asked text ending → is_answered ending ≡ true → (result : Ending) → Puts written k k' faults text ending result → EndsOn written k k' faults plan tried asked result
    answer-put text end is answered Done put = (record { text = text; is = subst (λ e. IsAnswer plan tried asked text e) put.0 is; gave = put.1 }, put.2)
    answer-put text end is answered Finding put = (record { text = text; is = subst (λ e. IsAnswer plan tried asked text e) put.0 is; gave = put.1 }, put.2)
    answer-put text end is answered Usage put = (record { text = text; is = subst (λ e. IsAnswer plan tried asked text e) put.0 is; gave = put.1 }, put.2)
    answer-put text end is answered WriteFault put = (record { text = text; ending = end; is = is; gave = put.0 }, put.1)
    answer-put text end is answered ReadFault put = absurd (let same = put.0 in let other = ap is_answered same in cc)
    answer-put text end is answered NoMemory put = absurd (let same = put.0 in let other = ap is_answered same in cc)
    answer-put text end is answered TooLong put = absurd (let same = put.0 in let other = ap is_answered same in cc)
    answer-put text end is answered BadPlan put = absurd (let same = put.0 in let other = ap is_answered same in cc)

  -- what is put of the calm run and rows
  module _ (plan tried : Sweep) (view : View) (calm : Calm) (before : IsCalm plan calm) (rows : List Outcome) (are : AreSwept tried (parts_of tried) rows) (reply : Reply) (is : IsReply plan tried view calm rows reply) where
    shown-so : IsShown plan tried view reply.text reply.ending
    shown-so = record { calm = calm; before = before; rows = rows; are = are; says_so = is.0; ends = is.1 }

    found-so : is_answered reply.ending ≡ true
    found-so = ap is_answered is.1 ∙ found-answered (has_finding tried calm rows)

    pub reply-put : (bytes : List ℕ) → bytes ≡ reply.text → (result : Ending) → Puts written k k' faults bytes reply.ending result → EndsOn written k k' faults plan tried (Rows view) result
    reply-put bytes same result put = answer-put plan tried (Rows view) reply.text reply.ending shown-so found-so result (subst (λ text. Puts written k k' faults text reply.ending result) same put)

  -- the script of a point that is named, or none
  module _ (plan tried : Sweep) (named : Option NamedPoint) where
    pub script-put : (script : List ℕ) → IsScriptOf tried named (Some script) → (bytes : List ℕ) → bytes ≡ script → (result : Ending) → Puts written k k' faults bytes Done result → EndsOn written k k' faults plan tried (Script named) result
    script-put script is bytes same result put = answer-put plan tried (Script named) script Done (Some script, is, (refl, refl)) refl result (subst (λ text. Puts written k k' faults text Done result) same put)

    pub none-put : IsScriptOf tried named None → (result : Ending) → Puts written k k' faults usage_line Usage result → EndsOn written k k' faults plan tried (Script named) result
    none-put is result put = answer-put plan tried (Script named) usage_line Usage (None, is, (refl, refl)) refl result put

module _ {S K : Type 0} (left : S → Option (List ℕ)) (written : K → Option (List ℕ)) (s s' : S) (k k' : K) (read_faults : S → ℕ) (write_faults : K → ℕ) (command : SweepCommand) where
  some-taken : (text : List ℕ) → IsTaken left s s' text → HasTakenSome left s s'
  some-taken text taken = record { text = text; took = taken.took; within = taken.within }

  apart-counts : (plan : Sweep) (result : Ending) → EndsApart written k k' write_faults plan command result → Counted (is_write_fault result) (write_faults k) (write_faults k')
  apart-counts plan result (inl (tried, apart, ends)) = ends.1
  apart-counts plan result (inr (left, count)) = count

  apart-read : (plan : Sweep) → EndsApart written k k' write_faults plan command ReadFault → ⊥
  apart-read plan (inl (tried, apart, ends)) = ends.0
  apart-read plan (inr (left, count)) = left

  apart-memory : (plan : Sweep) → EndsApart written k k' write_faults plan command NoMemory → k' ≡ k
  apart-memory plan (inl (tried, apart, ends)) = ends.0
  apart-memory plan (inr (left, count)) = left

  module _ (text : List ℕ) (taken : IsTaken left s s' text) (kept : read_faults s' ≡ read_faults s) where
    of-text : (result : Ending) → EndsText written k k' write_faults (lines text) command result → OfText left written s s' k k' read_faults write_faults command result
    of-text result ends = record { text = text; taken = taken; ends = ends }

    counts : (result : Ending) → EndsText written k k' write_faults (lines text) command result → Counted (is_write_fault result) (write_faults k) (write_faults k')
    counts result (inl plan) = apart-counts plan.plan result plan.ends
    counts result (inr (inl bad)) = bad.ends.1
    counts result (inr (inr (is, same))) = subst (λ e. Counted (is_write_fault e) (write_faults k) (write_faults k')) (sym is) (ap write_faults same)

    never-read : EndsText written k k' write_faults (lines text) command ReadFault → ⊥
    never-read (inl plan) = apart-read plan.plan plan.ends
    never-read (inr (inl bad)) = bad.ends.0
    never-read (inr (inr (is, same))) = cc

    no-memory : EndsText written k k' write_faults (lines text) command NoMemory → k' ≡ k
    no-memory (inl plan) = apart-memory plan.plan plan.ends
    no-memory (inr (inl bad)) = bad.ends.0
    no-memory (inr (inr (is, same))) = same

    -- a text was read to its end
    pub text-read : (result : Ending) → EndsText written k k' write_faults (lines text) command result → IsSweep left written s s' k k' read_faults write_faults command result
    text-read Done ends = record { ends = of-text Done ends; reads = kept; writes = counts Done ends }
    text-read Finding ends = record { ends = of-text Finding ends; reads = kept; writes = counts Finding ends }
    text-read Usage ends = record { ends = of-text Usage ends; reads = kept; writes = counts Usage ends }
    text-read ReadFault ends = absurd (never-read ends)
    text-read WriteFault ends = record { ends = of-text WriteFault ends; reads = kept; writes = counts WriteFault ends }
    text-read NoMemory ends = record { ends = (some-taken text taken, no-memory ends); reads = kept; writes = counts NoMemory ends }
    text-read TooLong ends = record { ends = inl (of-text TooLong ends); reads = kept; writes = counts TooLong ends }
    text-read BadPlan ends = record { ends = of-text BadPlan ends; reads = kept; writes = counts BadPlan ends }
