use Rattle.dr_laws_sessions.proofs.Silent.{quiet-silent, member-silent, past-silent, partner-is, stranger-silent, placeless-silent, apart-silent}
use Rattle.dr_laws_sessions.proofs.only_members_record.Goals as goal

pub returns-clause-quiet : goal.returns-clause-quiet
returns-clause-quiet c = quiet-silent

pub returns-clause-member : goal.returns-clause-member
returns-clause-member c = member-silent

pub returns-clause-past : goal.returns-clause-past
returns-clause-past c = past-silent

pub returns-clause-partner : goal.returns-clause-partner
returns-clause-partner c = partner-is

pub returns-clause-stranger : goal.returns-clause-stranger
returns-clause-stranger c = stranger-silent

pub returns-clause-placeless : goal.returns-clause-placeless
returns-clause-placeless c = placeless-silent

pub returns-clause-apart : goal.returns-clause-apart
returns-clause-apart c = apart-silent
