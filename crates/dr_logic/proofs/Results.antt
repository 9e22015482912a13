-- Facts on results that the library lacks.
use Rattle.std.specs.Prelude.{Result, Ok, Err, OnOk, OnErr}

-- two facts of a result, along a third
pub ok-two : {T E : Type 0} {P Q S : Type 0} (r : Result T E) → OnOk r P → OnOk r Q → (P → Q → S) → OnOk r S
ok-two (Ok x) p q f = f p q
ok-two (Err e) p q f = p

-- what holds anyhow holds on Err
pub err-always : {T E P : Type 0} (r : Result T E) → P → OnErr r P
err-always (Ok x) h = tt
err-always (Err e) h = h
