-- What the sessions hear: that an attempt of one of them has begun.
use Rattle.std.specs.Prelude.{◌≡◌, None, List, refl}
use Rattle.dr_config.specs.Table.{ConfigTable}
use Rattle.dr_model.specs.Sessions.{Session, session_in, mirror_in, begin_refusal, changed, begun}
use Rattle.dr_session.specs.Kept.{SessionTable}
use Rattle.dr_volume.specs.View.{Rest}
use Rattle.dr_moves.specs.Beside as beside
use Rattle.dr_moves.specs.declared.beside.News.{News}
use Rattle.dr_moves.specs.declared.beside.News.TheVariants.{Settled, Landed, Begun, Removed, Unchanged}
use Rattle.dr_gmirror.specs.Orders.{with_sessions}

-- where the session's master lets it begin
abbrev pub MayHear : List Session → News → Type 0
MayHear ss (Begun k) = begin_refusal (mirror_in (session_in ss k.0)) ≡ None
MayHear ss _ = ⊥

-- the sessions then
abbrev pub sessions_after : News → SessionTable → SessionTable
sessions_after (Begun k) x = record x { sessions = changed k.0 begun x.sessions }
sessions_after _ x = x

pub shows-sessions : (n : News) (x : SessionTable) (r : Rest) → MayHear x.sessions n → with_sessions (sessions_after n x).sessions r ≡ beside.rest_after n (with_sessions x.sessions r)
shows-sessions (Begun k) x r may = refl
shows-sessions (Settled w) x r may = absurd may
shows-sessions (Landed w) x r may = absurd may
shows-sessions (Removed l m) x r may = absurd may
shows-sessions Unchanged x r may = absurd may

pub shows-paths : (n : News) (ss : List Session) (c : ConfigTable) → MayHear ss n → c ≡ beside.table_after n c
shows-paths (Begun k) ss c may = refl
shows-paths (Settled w) ss c may = absurd may
shows-paths (Landed w) ss c may = absurd may
shows-paths (Removed l m) ss c may = absurd may
shows-paths Unchanged ss c may = absurd may
