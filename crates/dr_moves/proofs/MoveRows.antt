-- What a move makes of a volume looks at its tracks and its fields alone.
use Rattle.std.proofs.Common.{ℕ, ◌≡◌, true, refl, sym, ◌∙◌}
use Rattle.dr_model.specs.Layout.{Fields}
use Rattle.dr_model.specs.Control.{Volume}
use Rattle.dr_model.specs.Moves.{Move, Land, fields_left, told, told_in_stop, keeps_staged}
use Rattle.dr_volume.specs.declared.fields.Fields as declared
use Rattle.dr_volume.specs.Plain.{plain}
use Rattle.dr_moves.specs.Moves.{move_of, volume_with}
use Rattle.dr_moves.specs.Told.{seen}
use Rattle.dr_moves.specs.declared.moves.Move as moves
use Rattle.dr_moves.specs.declared.moves.Move.TheVariants as move
use Rattle.dr_moves.specs.declared.told.Sight.{Sight}

pub fields-with : (m : Move) (x : Volume) → fields_left m (volume_with x.tracks x.fields) ≡ fields_left m x
fields-with (Land w v t) x = refl
fields-with m x = refl

pub told-with : (m : Move) (x : Volume) → told m (volume_with x.tracks x.fields) ≡ told m x
told-with (Land w v t) x = refl
told-with m x = refl

pub stop-with : (m : Move) (x : Volume) → told_in_stop m (volume_with x.tracks x.fields) ≡ told_in_stop m x
stop-with (Land w v t) x = refl
stop-with m x = refl

-- the rows of a volume, by what was read of it
pub next-row : (m : Move) (x : Volume) (n : ℕ) (f : Fields) → x.tracks ≡ n → f ≡ x.fields → fields_left m (volume_with n f) ≡ fields_left m x
next-row m x n f size is = (λ i. fields_left m (volume_with (sym size i) (is i))) ∙ fields-with m x

pub told-row : (m : Move) (x : Volume) (n : ℕ) (f : Fields) → x.tracks ≡ n → f ≡ x.fields → told m (volume_with n f) ≡ told m x
told-row m x n f size is = (λ i. told m (volume_with (sym size i) (is i))) ∙ told-with m x

pub stop-row : (m : Move) (x : Volume) (n : ℕ) (f : Fields) → x.tracks ≡ n → f ≡ x.fields → told_in_stop m (volume_with n f) ≡ told_in_stop m x
stop-row m x n f size is = (λ i. told_in_stop m (volume_with (sym size i) (is i))) ∙ stop-with m x

-- what a move tells looks at little of the fields
abbrev pub sight : declared.Fields → Sight
sight f = record { state = f.primary_state; flash_hold = f.flash_hold; source = f.source; session = f.session; own = f.own; source_changes = f.source_changes; target_changes = f.target_changes }

pub told-seen : (m : Move) (n : ℕ) (f : declared.Fields) → told m (volume_with n (seen (sight f))) ≡ told m (volume_with n (plain f))
told-seen (Land w v t) n f = refl
told-seen m n f = refl

pub stop-seen : (m : Move) (n : ℕ) (f : declared.Fields) → told_in_stop m (volume_with n (seen (sight f))) ≡ told_in_stop m (volume_with n (plain f))
stop-seen (Land w v t) n f = refl
stop-seen m n f = refl

-- each keeps what is staged: the one kind that doesn't is `destage`'s
pub keeps-of : (m : moves.Move) → keeps_staged (move_of m) ≡ true
keeps-of (move.Land w v t) = refl
keeps-of m = refl
