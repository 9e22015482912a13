-- Which host writes may have come because of which others.
use Rattle.std.specs.Prelude.{◌≡◌, ℕ, ◌<◌, List, slice_get, Some}
use Rattle.dr_model.specs.declared.event.Event.{Event}
use Rattle.dr_model.specs.declared.event.Event.TheVariants.{Ack, Issue}

-- Write w depends on write u in a journal: u was acknowledged before w was issued, so a host that had seen that may
-- have issued w because of it.
pub record DependsOn (events : List Event) (w u : ℕ) : Type 0 where
  pub volume : ℕ
  pub track : ℕ
  pub offset : ℕ
  pub len : ℕ
  pub bytes : List ℕ
  pub acknowledged : ℕ
  pub issued : ℕ
  pub order : acknowledged < issued
  pub ack : slice_get events acknowledged ≡ Some (Ack u)
  pub issue : slice_get events issued ≡ Some (Issue w volume track offset len bytes)
