-- What came of a line, from what is told of it under its number.
use Rattle.std.proofs.Common.{◌≡◌, ℕ, Ok, Err, Result}
use Rattle.rules.specs.declared.refusal.Refusal.{Refusal}
use Rattle.events.specs.LineFaults.{LineFault, at_line}

pub ok_at_line : {T : Type 0} (n : ℕ) (r : Result T Refusal) (v : T) → Ok v ≡ at_line n r → r ≡ Ok v
ok_at_line n (Ok w) v e = cc
ok_at_line n (Err s) v e = cc

pub err_at_line : {T : Type 0} (n : ℕ) (r : Result T Refusal) (f : LineFault) → Err f ≡ at_line n r → (r ≡ Err f.refusal) × (f.line ≡ n)
err_at_line n (Ok w) f e = cc
err_at_line n (Err s) f e = (cc, cc)
