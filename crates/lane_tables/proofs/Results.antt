-- What is said of results.
use Rattle.std.specs.Prelude.{Err, Ok, OnErr, Result}

-- what holds anyhow holds where there is an error
pub on_err_holds : {T E P : Type 0} (r : Result T E) → P → OnErr r P
on_err_holds (Ok x) p = tt
on_err_holds (Err e) p = p
