-- A host write on its way to both sides: what one move leaves for the next.
use Rattle.std.proofs.Common.{ℕ, ◌≡◌, true, List, [], ◌∷◌, sym, ◌∙◌, ap, subst, Option, Some}
use Rattle.std.specs.Prelude.{IfSome, is_some}
use Rattle.std.specs.List.{find}
use Rattle.std.proofs.lemmas.List.{append_assoc}
use Rattle.dr_model.specs.declared.event.Event.{Event}
use Rattle.dr_model.specs.Contents.{laid, with_write}
use Rattle.dr_model.specs.Histories.{histories, Write}
use Rattle.dr_model.specs.Carry.{now}
use Rattle.dr_model.specs.Entries.{copy_first}
use Rattle.dr_model.specs.Moves.{Unsync, Mirror, LandBoth}
use Rattle.dr_model.specs.WriteEntries.{mirror_and_land, land_mirrored}
use Rattle.dr_host.specs.Writes.{Writes, number, has_number, bytes_of}
use Rattle.dr_host.specs.declared.pending.Pending.{Pending}
use Rattle.dr_host.proofs.Each.{each-found, named-found}
use Rattle.dr_metro.specs.Here.{IsTold}
use Rattle.dr_metro.specs.Mirroring.{settle_entries, mirror_entries}
use Rattle.dr_metro.proofs.ToldLemmas.{IsWrite}

-- the journal has the write that was found
pub pending-issue : (h : Writes) (ev : List Event) (n : ℕ) (p : Pending) (bytes : List ℕ) → IsTold h ev → find (has_number n) h.pending ≡ Some p → bytes ≡ bytes_of p
    → (histories ev).write n ≡ record { volume = p.volume.0; track = p.track; offset = p.offset; bytes = bytes }
pending-issue h ev n p bs told found is =
    let named : number p ≡ n = subst (λ o. IfSome o (λ p. number p ≡ n)) found (named-found n h.pending) in
    let has : IsWrite (histories ev).write p = subst (λ o. IfSome o (IsWrite (histories ev).write)) found (each-found (IsWrite (histories ev).write) (has_number n) h.pending told) in
    ap (histories ev).write (sym named) ∙ has ∙ ap (λ b. let x : Write = record { volume = p.volume.0; track = p.track; offset = p.offset; bytes = b } in x) (sym is)

-- the bytes of a pending write, laid over a track, are what the write makes of it
pub laid-bytes : (h : Writes) (ev : List Event) (p : Pending) (front old track bytes : List ℕ) → IsTold h ev → find (has_number p.w.0) h.pending ≡ Some p → front ≡ bytes_of p → old ≡ track → bytes ≡ laid p.offset front old
    → bytes ≡ with_write (histories ev).write track p.w.0
laid-bytes h ev p front old track bytes told found is same by =
    by ∙ ap (laid p.offset front) same ∙ sym (ap (λ (y : Write). laid y.offset y.bytes track) (pending-issue h ev p.w.0 p front told found is))

pub some-found : {T : Type 0} (o : Option T) (x : T) → o ≡ Some x → is_some o ≡ true
some-found o x is = ap is_some is

-- the entries on both sides, from the first on
pub crossed-is : (volumes : List ℕ) (n v t u : ℕ) → mirror_and_land volumes n v t u ≡ mirror_entries volumes n v t u
crossed-is volumes n v t u =
    append_assoc (copy_first volumes u t) (now (Mirror u t v n) ∷ copy_first volumes v t) (now (LandBoth n v t) ∷ [])
    ∙ sym (append_assoc (copy_first volumes u t) (now (Mirror u t v n) ∷ []) (settle_entries volumes n v t))

pub mirrored-is : (volumes : List ℕ) (n v t u : ℕ) → land_mirrored volumes n v t u ≡ now (Unsync v t) ∷ mirror_entries volumes n v t u
mirrored-is volumes n v t u = ap (λ es. now (Unsync v t) ∷ es) (crossed-is volumes n v t u)
