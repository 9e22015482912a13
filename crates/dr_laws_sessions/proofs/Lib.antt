-- - **A count over a list of members and over servers** (`Reports.antt` of `dr_laws_sessions`): by the first member on the
--   server or not (`eqb_tells`), each `cond` as an equation of lengths in a `let`, and `omega` over these. It went
--   through at once; a `grind` over the filters does not.
pub mod Changes
pub mod Frames
pub mod Sound
pub mod Reports
pub mod Owed
pub mod Masters
pub mod Tables
pub mod Members
pub mod Volumes
pub mod Quieting
pub mod Silent
pub mod Orders
pub mod PlanTables
pub mod Housed
