-- How `recover` reads and puts.
use Rattle.std.proofs.Common.{ℕ, ◌≡◌, ◌<◌, ◌≤◌, ◌+◌, ◌-◌, List, [], ◌++◌, length, refl, ap, sym, subst, ◌∙◌, arith, append_assoc, Bool, true, false, Option, None, Result, Ok, Err}
use Rattle.std.specs.Prelude.{IfOk}
use Rattle.std.proofs.lemmas.List.{append-nil, length-append}
use Rattle.dr_logic.specs.Counts.{Rose}
use Rattle.dr_io.specs.Given.{Gave, Took, TookAll}
use Rattle.dr_io.specs.Pieces.{PieceProgress, HasTaken, IsPiece, IsPieceBy, Takes, IsWithin, IsPast, GivesPiece, GivesEnd, GivesTooLong, GivesFault, nothing_taken}
use Rattle.dr_io.specs.declared.amount.Amount.{Amount}
use Rattle.dr_io.specs.declared.limits.Limits.{Limits}
use Rattle.dr_io.specs.declared.piece_reader.TakenPiece.{TakenPiece}
use Rattle.dr_io.proofs.ReadingSteps.{took_more}
use Rattle.dr_image.specs.Reader.{Reader, will_read}
use Rattle.dr_image.specs.Outcome.{FinishesAs}
use Rattle.dr_image.specs.declared.fault.ImageFault.{ImageFault}
use Rattle.dr_image.proofs.ImageLaws.{reading-text}
use Rattle.dr_model.specs.PlantImage.{Volume, IsImage, reading}
use Rattle.dr_report.specs.Found.{found_in}
use Rattle.dr_report.specs.declared.found.Found.{Found}
use Rattle.dr_report.specs.declared.found.Found.TheVariants.{Lines, Contradiction as Disagree, NoMembers as Nobody}
use Rattle.dr_top.specs.Offline.{IsTaken, NotTaken, Reads, Reports, EndsOffline, script_limits, report_by, report_text, found_report}
use Rattle.dr_top.specs.Outcome.{is_write_fault}
use Rattle.dr_top.specs.declared.offline.NotRead.TheVariants.{ReadFault as OnSource, TooLong as TooMuch, NoMemory as OnMemory}
use Rattle.dr_top.specs.declared.report.Report.{Report}
use Rattle.dr_top.specs.declared.status.Status.{Status}
use Rattle.dr_top.specs.declared.status.Status.TheVariants.{Done, DoneRefused, Usage, ReadFault, WriteFault, NoMemory, TooLong, BadImage, Contradiction, NoMembers}

-- ---- taking

module _ {S : Type 0} (left : S → Option (List ℕ)) (faults : S → ℕ) (s0 : S) where
  -- so much of a text was taken
  pub record TakenSoFar (s : S) (p : PieceProgress) : Type 0 where
    pub text : List ℕ
    pub took : Took left s0 s text
    pub has : HasTaken text p
    pub limits : p.limits ≡ script_limits
    pub going : p.over ≡ None
    pub kept : faults s ≡ faults s0
    pub within : IsWithin script_limits text

  abbrev pub none-taken : (p : PieceProgress) → p ≡ nothing_taken script_limits → TakenSoFar s0 p
  none-taken p is = record {
    text = [];
    took = λ l h. (l, h, refl);
    has = ap (λ (q : PieceProgress). q.amount) is;
    limits = ap (λ (q : PieceProgress). q.limits) is;
    going = ap (λ (q : PieceProgress). q.over) is;
    kept = refl;
    within = record { bytes = omega arith; lines = omega arith };
  }

  module _ (s s' : S) (p p' : PieceProgress) (r : TakenSoFar s p) (took : Took left s s' p'.piece) (same : p'.limits ≡ p.limits) where
    pub so-far : Took left s0 s' (r.text ++ p'.piece)
    so-far = took_more left s0 s s' r.text p'.piece r.took took

    pub limited : p'.limits ≡ script_limits
    limited = same ∙ r.limits

    took-none : p'.piece ≡ [] → Took left s0 s' r.text
    took-none none = subst (Took left s0 s') (ap (λ piece. r.text ++ piece) none ∙ append-nil r.text) so-far

    abbrev pub one-taken : HasTaken (r.text ++ p'.piece) p' → GivesPiece left faults s s' r.text p' → TakenSoFar s' p'
    one-taken has gives = record {
      text = r.text ++ p'.piece;
      took = so-far;
      has = has;
      limits = limited;
      going = gives.goes_on;
      kept = gives.kept ∙ r.kept;
      within = subst (λ (l : Limits). IsWithin l (r.text ++ p'.piece)) limited gives.within;
    }

    pub ends-taking : GivesEnd left faults s s' r.text p' → IsTaken left s0 s' r.text
    ends-taking gives = record { took = took-none gives.none; all = all; within = r.within }
      where
        all : TookAll left s0 r.text
        all told h =
            let t = took-none gives.none told h in
            t.2 ∙ ap (λ rest. r.text ++ rest) (gives.nothing_left t.0 t.1) ∙ append-nil r.text

    pub ends-too-long : GivesTooLong left faults s s' r.text p' → NotTaken left s0 s' faults TooMuch
    ends-too-long gives = (
      record {
        text = r.text ++ p'.piece;
        took = so-far;
        past = subst (λ (l : Limits). IsPast l (r.text ++ p'.piece)) limited gives.past;
        bytes = subst (λ (l : Limits). length (r.text ++ p'.piece) ≤ l.bytes + 1) limited gives.bytes;
      },
      gives.kept ∙ r.kept,
    )

    pub ends-by-fault : GivesFault left faults s s' r.text p' → NotTaken left s0 s' faults OnSource
    ends-by-fault gives = (record { text = r.text; took = took-none gives.none; within = r.within }, subst (λ n. Rose n (faults s')) r.kept gives.rose)

    pub ends-without-memory : GivesPiece left faults s s' r.text p' → NotTaken left s0 s' faults OnMemory
    ends-without-memory gives = (
      record { text = r.text ++ p'.piece; took = so-far; within = subst (λ (l : Limits). IsWithin l (r.text ++ p'.piece)) limited gives.within },
      gives.kept ∙ r.kept,
    )

    -- what a call answered, as the reading wasn't over
    pub taken-here : (taken answer : TakenPiece) → taken ≡ answer → IsPiece left faults s s' r.text p p' (Ok taken) → Takes left faults s s' r.text p' (Ok answer)
    taken-here taken answer is step = subst (λ over. IsPieceBy left faults s s' over r.text p p' (Ok answer)) r.going (subst (λ t. IsPieceBy left faults s s' p.over r.text p p' (Ok t)) is step)

  -- and the reader of an image has it
  pub record ReadSoFar (s : S) (p : PieceProgress) (image : Reader) : Type 0 where
    pub taken : TakenSoFar s p
    pub works : image.failed ≡ false
    pub reads : (rest : List ℕ) → will_read image rest ≡ reading (taken.text ++ rest)

  pub none-read : (p : PieceProgress) (image : Reader) → p ≡ nothing_taken script_limits → image.failed ≡ false → ((rest : List ℕ) → will_read image rest ≡ reading rest) → ReadSoFar s0 p image
  none-read p image is works reads = record { taken = none-taken p is; works = works; reads = reads }

  module _ (s s' : S) (p p' : PieceProgress) (image : Reader) (r : ReadSoFar s p image) (took : Took left s s' p'.piece) (same : p'.limits ≡ p.limits) where
    pub one-read : (image' : Reader) → HasTaken (r.taken.text ++ p'.piece) p' → GivesPiece left faults s s' r.taken.text p' → image'.failed ≡ false → ((rest : List ℕ) → will_read image' rest ≡ will_read image (p'.piece ++ rest)) → ReadSoFar s' p' image'
    one-read image' has gives works reads = record {
      taken = one-taken s s' p p' r.taken took same has gives;
      works = works;
      reads = λ rest. reads rest ∙ r.reads (p'.piece ++ rest) ∙ ap reading (sym (append_assoc r.taken.text p'.piece rest));
    }

    pub ends-reading : GivesEnd left faults s s' r.taken.text p' → Reads left s0 s' faults image (Ok tt)
    ends-reading gives = record {
      text = r.taken.text;
      taken = ends-taking s s' p p' r.taken took same gives;
      works = r.works;
      reads = r.reads [] ∙ ap reading (append-nil r.taken.text);
      kept = gives.kept ∙ r.taken.kept;
    }

-- each piece takes from what may be taken
pub less-left : (text piece : List ℕ) (p p' : PieceProgress) → HasTaken text p → HasTaken (text ++ piece) p' → 0 < length piece → IsWithin script_limits (text ++ piece) → script_limits.bytes - p'.amount.bytes < script_limits.bytes - p.amount.bytes
less-left text piece p p' before after some within = less (length text) (length piece) script_limits.bytes p.amount.bytes p'.amount.bytes (bytes text p before) (bytes (text ++ piece) p' after ∙ length-append text piece) some (subst (λ n. n ≤ script_limits.bytes) (length-append text piece) within.bytes)
  where
    bytes : (taken : List ℕ) (progress : PieceProgress) → HasTaken taken progress → progress.amount.bytes ≡ length taken
    bytes taken progress has = let is = ap (λ (a : Amount). a.bytes) has in omega (arith, is)

    less : (n k most a b : ℕ) → a ≡ n → b ≡ n + k → 0 < k → n + k ≤ most → most - b < most - a
    less n k most a b is more some le = omega (arith, is, more, some, le)

-- ---- putting

module _ {K : Type 0} (written : K → Option (List ℕ)) (faults : K → ℕ) (k k' : K) where
  pub reports-by : (r : Report) (status : Status) → is_write_fault status ≡ false → r.status ≡ status → Gave written k k' r.text → faults k' ≡ faults k → Reports written k k' faults r status
  reports-by r Done not is gave same = (is, gave, same)
  reports-by r DoneRefused not is gave same = (is, gave, same)
  reports-by r Usage not is gave same = (is, gave, same)
  reports-by r ReadFault not is gave same = (is, gave, same)
  reports-by r WriteFault not is gave same = absurd cc
  reports-by r NoMemory not is gave same = (is, gave, same)
  reports-by r TooLong not is gave same = (is, gave, same)
  reports-by r BadImage not is gave same = (is, gave, same)
  reports-by r Contradiction not is gave same = (is, gave, same)
  reports-by r NoMembers not is gave same = (is, gave, same)

-- ---- which report it is

-- the statuses that a report has
abbrev pub is_reported : Status → Bool
is_reported Done = true
is_reported DoneRefused = false
is_reported Usage = false
is_reported ReadFault = false
is_reported WriteFault = false
is_reported NoMemory = false
is_reported TooLong = false
is_reported BadImage = true
is_reported Contradiction = true
is_reported NoMembers = true

text-reported : (s : ℕ) (text : List ℕ) → is_reported (report_text s text).status ≡ true
text-reported s text = by (reading text)
  where
    found : (f : Found) → is_reported (found_report f).status ≡ true
    found (Lines lines) = refl
    found (Disagree a b) = refl
    found Nobody = refl

    by : (r : Result (List Volume) ℕ) → is_reported (report_by s r).status ≡ true
    by (Ok vs) = found (found_in vs s)
    by (Err n) = refl

-- a report has no status of a failing sink
pub text-reports : (s : ℕ) (text : List ℕ) → is_write_fault (report_text s text).status ≡ false
text-reports s text = by (report_text s text).status (text-reported s text)
  where
    by : (status : Status) → is_reported status ≡ true → is_write_fault status ≡ false
    by Done is = refl
    by DoneRefused is = refl
    by Usage is = refl
    by ReadFault is = refl
    by WriteFault is = absurd cc
    by NoMemory is = refl
    by TooLong is = refl
    by BadImage is = refl
    by Contradiction is = refl
    by NoMembers is = refl

-- an image that was read is a proper one
pub read-proper : (text : List ℕ) (read : Result (List Volume) ImageFault) → FinishesAs false (reading text) read → IfOk read (λ image. IsImage image)
read-proper text (Ok image) finishes = (reading-text text image finishes.1).1
read-proper text (Err fault) finishes = tt

-- what the reader finishes as, where it has all of a text
pub finished-so : (image : Reader) (text : List ℕ) (read : Result (List Volume) ImageFault) → image.failed ≡ false → will_read image [] ≡ reading text → FinishesAs image.failed (will_read image []) read → FinishesAs false (reading text) read
finished-so image text read works reads finishes = subst (λ failed. FinishesAs failed (reading text) read) works (subst (λ r. FinishesAs image.failed r read) reads finishes)

-- ---- a call

module _ {S K : Type 0} (left : S → Option (List ℕ)) (written : K → Option (List ℕ)) (write_faults : K → ℕ) (source source' : S) (sink sink' : K) where
  -- the report of the text that was taken was put
  pub ends-reported : (s : ℕ) (text : List ℕ) (status : Status) → IsTaken left source source' text → Reports written sink sink' write_faults (report_text s text) status → EndsOffline left written source source' sink sink' s status
  ends-reported s text status taken = by status
    where
      cannot : (status' : Status) → is_reported status' ≡ false → (report_text s text).status ≡ status' → ⊥
      cannot status' other is = let yes = text-reported s text in absurd cc

      by : (status' : Status) → Reports written sink sink' write_faults (report_text s text) status' → EndsOffline left written source source' sink sink' s status'
      by Done puts = record { text = text; taken = taken; is = puts.0; gave = puts.1 }
      by DoneRefused puts = cannot DoneRefused refl puts.0
      by Usage puts = cannot Usage refl puts.0
      by ReadFault puts = absurd (cannot ReadFault refl puts.0)
      by WriteFault puts = record { text = text; taken = taken; gave = puts.0 }
      by NoMemory puts = absurd (cannot NoMemory refl puts.0)
      by TooLong puts = absurd (cannot TooLong refl puts.0)
      by BadImage puts = record { text = text; taken = taken; is = puts.0; gave = puts.1 }
      by Contradiction puts = record { text = text; taken = taken; is = puts.0; gave = puts.1 }
      by NoMembers puts = record { text = text; taken = taken; is = puts.0; gave = puts.1 }
