use Rattle.std.proofs.Common.{◌≡◌, ◌<◌, ◌/◌, ◌++◌, ◌∷◌, [], None, true, if◌then◌else◌, length, ◌∙◌, sym, ap, subst, eqb, arith}
use Rattle.std.specs.Vec.{vec_len, vec_capacity}
use Rattle.std.specs.List.{position}
use Rattle.dr_config.specs.declared.entries.VolumeEntry.{VolumeEntry}
use Rattle.dr_config.specs.Volumes.{VolumeList, row_in}
use Rattle.dr_config.proofs.VolumeLaws.{has-room, kept-added}
use Rattle.dr_config.proofs.volumes.Volumes.add.Goals as goal

pub invariant_of-self : goal.invariant_of-self
invariant_of-self c =
    let v = c.self.inside in
    let e : VolumeEntry = c.args.entry in
    let row_of = c.open_row-row.new.row_of in
    let rows = c.open_row-row.new.rows in
    let Few : VolumeList → Type 0 = λ l. length l.entries < 64 in
    let Absent : VolumeList → Type 0 = λ l. position (λ (x : VolumeEntry). eqb x.id e.id) l.entries ≡ None in
    let Room : VolumeList → Type 0 = λ l. l.room ≡ true in
    let room = has-room (vec_len v.entries) (vec_capacity v.entries) (vec_len v.rows) (vec_capacity v.rows) (subst Room (sym c.self.view_is) c.requires.room) in
    let grown : c.push-pushed.new.self.items ≡ v.entries.items ++ e ∷ [] =
    c.push-pushed.ensures.items ∙ ap (λ b. if b then v.entries.items ++ e ∷ [] else v.entries.items) (c.push-pushed.ensures.succeeds room) in
    let row : c.open_row-row.result ≡ row_in row_of (e.id / 256) = c.open_row-row.ensures.row ∙ ap (row_in row_of) c.from-lss.ensures in
    let count : vec_len rows ≡ length rows.items = rows.ok.0 in
    let counted : vec_len v.rows ≡ length v.rows.items = v.rows.ok.0 in
    let within = c.open_row-row.ensures.within in
    let few = c.open_row-row.ensures.few in
    let few_rows = c.self.invariant.few_rows in
    let place = c.len-place.ensures ∙ v.entries.ok.0 in
    rw (grown, c.put_place.ensures, row, c.from-low.ensures, place)
    (kept-added v.entries.items row_of rows.items e (subst Few (sym c.self.view_is) c.requires.few) (subst Absent (sym c.self.view_is) c.requires.absent) (omega (arith, few, few_rows, count, counted)) c.open_row-row.ensures.tables (omega (arith, within, row, count)) (λ w low. c.open_row-row.ensures.same w ∙ c.self.invariant.finds w low))
