use Rattle.std.proofs.Common.{◌≡◌, ◌<◌, ◌++◌, ◌∷◌, [], if◌then◌else◌, length, set, inl, inr, refl, ◌∙◌, sym, ap, subst, arith}
use Rattle.dr_config.specs.Volumes.{row_in, no_places}
use Rattle.dr_config.proofs.VolumeLaws.{row-read, opened, open-tables, open-finds}
use Rattle.dr_config.proofs.volumes.open_row.Goals as goal

-- the rows with the one that was added
grown : (c : goal.After-push-pushed) → c.push-pushed.new.self.items ≡ c.args.rows.now.items ++ no_places ∷ []
grown c =
    let rows = c.args.rows.now.items in
    c.push-pushed.ensures.items
    ∙ ap (λ b. if b then rows ++ c.no_places.result ∷ [] else rows) (c.push-pushed.ensures.succeeds c.requires.room)
    ∙ ap (λ row. rows ++ row ∷ []) c.no_places.ensures

-- its number
number : (c : goal.After-push-pushed) → c.len-row.result ≡ length c.args.rows.now.items
number c = c.len-row.ensures ∙ c.args.rows.now.ok.0

few : (c : goal.After-push-pushed) → length c.args.rows.now.items < 255
few c = subst (λ n. n < 255) c.args.rows.now.ok.0 c.requires.few

-- there was none before
none : (c : goal.After-push-pushed) → row_in c.args.row_of.now c.args.lss ≡ 255
none c = sym (row-read c.args.row_of.now c.args.lss c.requires.tables.size c.requires.lss) ∙ c.if-own.false

pub returns-clause-row : goal.returns-clause-row
returns-clause-row c =
    number c
    ∙ sym (ap (λ n. row_in (set c.args.row_of.now c.args.lss n) c.args.lss) (number c)
    ∙ opened c.args.row_of.now c.args.rows.now.items c.args.lss c.requires.tables (few c) c.requires.lss (none c) c.args.lss refl)

pub returns-clause-tables : goal.returns-clause-tables
returns-clause-tables c =
    rw (number c, grown c) (open-tables c.args.row_of.now c.args.rows.now.items c.args.lss c.requires.tables (few c) c.requires.lss (none c))

pub returns-clause-same : goal.returns-clause-same
returns-clause-same c = λ v.
    rw (number c, grown c) (open-finds c.args.row_of.now c.args.rows.now.items c.args.lss c.requires.tables (few c) c.requires.lss (none c) v)

pub returns-then-own-clause-row : goal.returns-then-own-clause-row
returns-then-own-clause-row c = c.from.ensures ∙ row-read c.args.row_of.now c.args.lss c.requires.tables.size c.requires.lss

pub returns-then-own-clause-within : goal.returns-then-own-clause-within
returns-then-own-clause-within c =
    let read = row-read c.args.row_of.now c.args.lss c.requires.tables.size c.requires.lss in
    elim (c.requires.tables.within c.args.lss) [
      | inl h ↦ absurd (c.if-own.true (read ∙ h))
      | inr h ↦ (let row = c.from.ensures in let count = c.args.rows.now.ok.0 in omega (arith, h, read, row, count))
    ]
