-- How the journal keeps the answers of steps: a code and up to three numbers.
use Rattle.std.specs.Prelude.{ℕ, ◌+◌, ◌*◌}
use Rattle.dr_ids.specs.declared.refusal.Kind.{Kind}
use Rattle.dr_ids.specs.declared.refusal.Kind.TheVariants.{Server as OfServer, Volume as OfVolume, Lss as OfLss, Path as OfPath, Write as OfWrite, Session as OfSession, Track as OfTrack, Master as OfMaster, Message as OfMessage}
use Rattle.dr_ids.specs.declared.refusal.Which.{Which}
use Rattle.dr_ids.specs.declared.refusal.Which.TheVariants.{Servers, Volumes, Tracks, Sessions, Pending, Targets, Groups, Size, Server as OneServer, Messages}
use Rattle.dr_ids.specs.declared.refusal.PhaseName.{PhaseName}
use Rattle.dr_ids.specs.declared.refusal.PhaseName.TheVariants.{None as NoMaster, Idle, Coordinating, Releasing, Draining, Flashing, Committing, Reverting, Finishing, Lost}
use Rattle.dr_ids.specs.declared.refusal.Decision.{Decision}
use Rattle.dr_ids.specs.declared.refusal.Decision.TheVariants.{NoMember, Nothing, RevertAll, CommitRest, RevertSome, Impossible}
use Rattle.dr_ids.specs.declared.refusal.PairSeen.{PairSeen}
use Rattle.dr_ids.specs.declared.refusal.PairSeen.TheVariants.{CopyPending, FullDuplex, Suspended, TargetCopyPending, TargetFullDuplex, TargetSuspended, None as NoPair}
use Rattle.dr_ids.specs.declared.refusal.RelSeen.{RelSeen}
use Rattle.dr_ids.specs.declared.refusal.RelSeen.TheVariants.{Revertible, Reversing, Target, Source, None as NoRelation}
use Rattle.dr_ids.specs.declared.refusal.Refusal.{Refusal}
use Rattle.dr_ids.specs.declared.refusal.Refusal.TheVariants.{Syntax, Unknown, Duplicate, Limit, ServerOff, LinkDown, Void, NotPrimary, Inhibited, PairState, RelationState, InSession, NotInSession, InFormation, OutOfOrder, Unsealed, Stale, Forbidden, NotIdentical, NumbersSpent, Stopped, NoGroup, JournalFull, NotBuilt, OldMessage, Held as HeldBack}
use Rattle.dr_model.specs.declared.event.Event.{Event}
use Rattle.dr_model.specs.declared.event.Event.TheVariants.{Answer}
use Rattle.dr_model.specs.declared.said.Addition.{Addition}
use Rattle.dr_model.specs.declared.said.Addition.TheVariants.{Alone, Wrote, Acked, Counted, InPhase, InGroup, Showed, Posted}
use Rattle.dr_model.specs.declared.said.AnswerNumbers.{AnswerNumbers}
use Rattle.dr_model.specs.declared.said.Said.{Said}
use Rattle.dr_model.specs.declared.said.Said.TheVariants.{Done, Held, Refused}

-- each value of these types by its place in its list, counted from 0
abbrev pub kind_place : Kind → ℕ
kind_place OfServer = 0
kind_place OfVolume = 1
kind_place OfLss = 2
kind_place OfPath = 3
kind_place OfWrite = 4
kind_place OfSession = 5
kind_place OfTrack = 6
kind_place OfMaster = 7
kind_place OfMessage = 8

-- the place of a limit in its list
abbrev pub which_place : Which → ℕ
which_place Servers = 0
which_place Volumes = 1
which_place Tracks = 2
which_place Sessions = 3
which_place Pending = 4
which_place Targets = 5
which_place Groups = 6
which_place Size = 7
which_place OneServer = 8
which_place Messages = 9

-- of a phase
abbrev pub phase_place : PhaseName → ℕ
phase_place NoMaster = 0
phase_place Idle = 1
phase_place Coordinating = 2
phase_place Releasing = 3
phase_place Draining = 4
phase_place Flashing = 5
phase_place Committing = 6
phase_place Reverting = 7
phase_place Finishing = 8
phase_place Lost = 9

-- of a pair's state
abbrev pub pair_place : PairSeen → ℕ
pair_place CopyPending = 0
pair_place FullDuplex = 1
pair_place Suspended = 2
pair_place TargetCopyPending = 3
pair_place TargetFullDuplex = 4
pair_place TargetSuspended = 5
pair_place NoPair = 6

-- of a relationship's state
abbrev pub relation_place : RelSeen → ℕ
relation_place Revertible = 0
relation_place Reversing = 1
relation_place Target = 2
relation_place Source = 3
relation_place NoRelation = 4

-- of a decision
abbrev pub decision_place : Decision → ℕ
decision_place NoMember = 0
decision_place (Nothing n) = 1
decision_place (RevertAll n) = 2
decision_place (CommitRest n) = 3
decision_place (RevertSome m n) = 4
decision_place (Impossible a b) = 5

-- the first number of a decision, and its second; 0 where there is none
abbrev pub decision_first : Decision → ℕ
decision_first NoMember = 0
decision_first (Nothing n) = n
decision_first (RevertAll n) = n
decision_first (CommitRest n) = n
decision_first (RevertSome m n) = m
decision_first (Impossible a b) = a

-- its second number, or 0
abbrev pub decision_second : Decision → ℕ
decision_second (RevertSome m n) = n
decision_second (Impossible a b) = b
decision_second _ = 0

-- the number that a group was taken from: of some reverted, the reverted ones' own
abbrev pub decision_number : Decision → ℕ
decision_number (RevertSome m n) = n
decision_number (Impossible a b) = b
decision_number d = decision_first d

-- an answer as its code and three numbers
abbrev pub numbers_of : ℕ → ℕ → ℕ → ℕ → AnswerNumbers
numbers_of code a b c = record { code = code; a = a; b = b; c = c }

-- code 0 is ok, and a the kind of its addition; with a group, a also has 256 times the place of its decision
abbrev pub done_numbers : Addition → AnswerNumbers
done_numbers Alone = numbers_of 0 0 0 0
done_numbers (Wrote w) = numbers_of 0 1 w 0
done_numbers (Acked w) = numbers_of 0 2 w 0
done_numbers (Counted n) = numbers_of 0 3 n 0
done_numbers (InPhase phase n) = numbers_of 0 4 (phase_place phase) n
done_numbers (InGroup group decision) = numbers_of 0 (256 * decision_place decision + 5) group (decision_number decision)
done_numbers Showed = numbers_of 0 6 0 0
done_numbers (Posted m) = numbers_of 0 7 m 0

-- a refusal's code is its number, and the others are its fields in order
abbrev pub refused_numbers : Refusal → AnswerNumbers
refused_numbers (Syntax column) = numbers_of 1 column 0 0
refused_numbers (Unknown kind) = numbers_of 2 (kind_place kind) 0 0
refused_numbers (Duplicate kind) = numbers_of 3 (kind_place kind) 0 0
refused_numbers (Limit which) = numbers_of 4 (which_place which) 0 0
refused_numbers (ServerOff server) = numbers_of 5 server.0 0 0
refused_numbers (LinkDown a b) = numbers_of 6 a.0 b.0 0
refused_numbers (Void n) = numbers_of 7 n 0 0
refused_numbers (NotPrimary volume) = numbers_of 8 volume.0 0 0
refused_numbers (Inhibited volume) = numbers_of 9 volume.0 0 0
refused_numbers (PairState volume found) = numbers_of 10 volume.0 (pair_place found) 0
refused_numbers (RelationState volume found) = numbers_of 11 volume.0 (relation_place found) 0
refused_numbers (InSession session) = numbers_of 12 session.0 0 0
refused_numbers (NotInSession session) = numbers_of 13 session.0 0 0
refused_numbers (InFormation phase n) = numbers_of 14 (phase_place phase) n 0
refused_numbers (OutOfOrder phase) = numbers_of 15 (phase_place phase) 0 0
refused_numbers (Unsealed volume seal) = numbers_of 16 volume.0 seal 0
refused_numbers (Stale n floor) = numbers_of 17 n floor 0
refused_numbers (Forbidden decision) = numbers_of 18 (decision_place decision) (decision_first decision) (decision_second decision)
refused_numbers (NotIdentical track) = numbers_of 19 track 0 0
refused_numbers NumbersSpent = numbers_of 20 0 0 0
refused_numbers (Stopped server) = numbers_of 21 server.0 0 0
refused_numbers (NoGroup decision) = numbers_of 22 (decision_place decision) (decision_first decision) (decision_second decision)
refused_numbers JournalFull = numbers_of 23 0 0 0
refused_numbers NotBuilt = numbers_of 24 0 0 0
refused_numbers (OldMessage m) = numbers_of 25 m 0 0
refused_numbers (HeldBack volume) = numbers_of 26 volume.0 0 0

-- code 100 is held, and a the write that waits
abbrev pub numbers : Said → AnswerNumbers
numbers (Done added) = done_numbers added
numbers (Held w) = numbers_of 100 w 0 0
numbers (Refused refusal) = refused_numbers refusal

-- the answer of a line
abbrev pub answer : ℕ → Said → Event
answer line said = Answer line (numbers said).code (numbers said).a (numbers said).b (numbers said).c
